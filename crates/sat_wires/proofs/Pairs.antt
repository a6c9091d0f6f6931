-- Ends at their places, one more and one less.
use Rattle.std.specs.Prelude.{◌≡◌, ◌<◌, ◌+◌, ℕ, zero, suc, List, [], ◌∷◌, ◌++◌, length, map, take, get_or, set, Option, Some, None, IfSome, slice_get}
use Rattle.std.proofs.Common.{refl, sym, ap, ◌∙◌, subst, arith, length-append}
use Rattle.std.proofs.lemmas.List.{append-nil, append_assoc, map-append, take_more}
use Rattle.sat_link.specs.Ends.{Sender, Receiver, capacity_of}
use Rattle.sat_node.specs.declared.kept.Envelope.{Envelope}
use Rattle.sat_node.specs.Puts.{OutSeen}
use Rattle.sat_node.specs.Links.{Each, InSeen, in_places, out_places}
use Rattle.sat_machines.specs.Layout.{Link}
use Rattle.sat_wires.specs.Wires.{HaveRoom, IsFreshIn, IsFreshOut, wire_in, wire_out}
use Rattle.sat_wires.specs.declared.way.Way.{Way}
use Rattle.sat_wires.specs.Ways.{link_of, place_back_in, place_in}
use Rattle.sat_wires.specs.Ends.{AllIns, AllOuts, ArePairs, InAt, InIf, OutAt, OutIf}

-- one more member
pub each-more : {X : Type 0} (P : ℕ → X → Type 0) (xs : List X) (x : X) → Each xs P → P (length xs) x → Each (xs ++ x ∷ []) P
each-more {X} P [] x all one zero y at = subst (P 0) (let e : x ≡ y = cc in e) one
each-more P [] x all one (suc k) y at = absurd (cc)
each-more P (z ∷ xs) x all one zero y at = all zero y at
each-more P (z ∷ xs) x all one (suc k) y at = each-more (λ k y. P (suc k) y) xs x (λ k y at. all (suc k) y at) one k y at

-- ---- pairs

pub one_more : {X : Type 0} (xs : List X) (x : X) → length (xs ++ x ∷ []) ≡ length xs + 1
one_more xs x = length-append xs (x ∷ [])

pub no_pairs : (capacity : ℕ) → ArePairs capacity [] []
no_pairs capacity = record { same = refl; room = λ k x at. absurd (cc); sent = λ k x at. absurd (cc); received = λ k x at. absurd (cc) }

pair-more : (capacity : ℕ) (ins : List (Sender Envelope)) (outs : List (Receiver Envelope)) (l : Sender Envelope) (m : Receiver Envelope) → ArePairs capacity ins outs →
    l.wire ≡ m.wire → capacity_of l.wire ≡ capacity → l.sent ≡ [] → m.received ≡ [] → ArePairs capacity (ins ++ l ∷ []) (outs ++ m ∷ [])
pair-more capacity ins outs l m p w c s r = record {
  same = map-append wire_out outs (m ∷ []) ∙ ((λ i. p.same i ++ sym w i ∷ []) ∙ sym (map-append wire_in ins (l ∷ [])));
  room = subst (HaveRoom capacity) (sym (map-append wire_in ins (l ∷ []))) (each-more (λ _ wire. capacity_of wire ≡ capacity) (map wire_in ins) l.wire p.room c);
  sent = each-more (λ _ l. l.sent ≡ []) ins l p.sent s;
  received = each-more (λ _ l. l.received ≡ []) outs m p.received r;
}

pub pair_more : (capacity : ℕ) (ins ins' : List (Sender Envelope)) (outs outs' : List (Receiver Envelope)) (l : Sender Envelope) (m : Receiver Envelope) → ArePairs capacity ins outs →
    ins' ≡ ins ++ l ∷ [] → outs' ≡ outs ++ m ∷ [] → l.wire ≡ m.wire → capacity_of l.wire ≡ capacity → l.sent ≡ [] → m.received ≡ [] → ArePairs capacity ins' outs'
pair_more capacity ins ins' outs outs' l m p a b w c s r = subst (λ (os : List (Receiver Envelope)). ArePairs capacity ins' os) (sym b) (subst (λ (is : List (Sender Envelope)). ArePairs capacity is (outs ++ m ∷ [])) (sym a) (pair-more capacity ins outs l m p w c s r))

pub have_room : (capacity : ℕ) (ins : List (Sender Envelope)) (outs : List (Receiver Envelope)) → ArePairs capacity ins outs → HaveRoom capacity (map wire_in ins)
have_room capacity ins outs p = p.room

-- what a node asks of its ends
pub outs_new : (os : List OutSeen) → Each os (λ _ o. IsFreshOut o) → Each os (λ k o. (o.link.sent ≡ []) × (o.next ≡ 0) × (o.payloads ≡ []) × (o.beats ≡ 0))
outs_new os all = λ k o at. (let f = all k o at in (f.sent, f.next, f.payloads, f.beats))

pub ins_new : (is : List InSeen) → Each is (λ _ i. IsFreshIn i) → Each is (λ k i. (i.link.received ≡ []) × (i.front ≡ None))
ins_new is all = λ k i at. (let f = all k i at in (f.received, f.front))

-- the ends of a node, as far as they were taken out
pub record AreOuts (ks : List ℕ) (os : List OutSeen) : Type 0 where
  pub places : out_places os ≡ ks
  pub fresh : Each os (λ _ o. IsFreshOut o)

pub record AreIns (ks : List ℕ) (is : List InSeen) : Type 0 where
  pub places : in_places is ≡ ks
  pub fresh : Each is (λ _ i. IsFreshIn i)

-- one way more
way_more : (f : Link → ℕ) (ws : List Way) (n : ℕ) (w : Way) → n < length ws → map f (map link_of (take (n + 1) ws)) ≡ map f (map link_of (take n ws)) ++ f (link_of (get_or ws n w)) ∷ []
way_more f ws n w lt =
    ap (λ (vs : List Way). map f (map link_of vs)) (take_more ws n w lt) ∙
    (ap (map f) (map-append link_of (take n ws) (get_or ws n w ∷ [])) ∙ map-append f (map link_of (take n ws)) (link_of (get_or ws n w) ∷ []))

pub outs_start : AreOuts [] []
outs_start = record { places = refl; fresh = λ k o at. absurd (cc) }

pub ins_start : AreIns [] []
ins_start = record { places = refl; fresh = λ k i at. absurd (cc) }

pub outs_grow : (all : List Link) (ws : List Way) (n : ℕ) (w : Way) (os os' : List OutSeen) (o : OutSeen) → os' ≡ os ++ o ∷ [] → n < length ws → AreOuts (map (place_in all) (map link_of (take n ws))) os → OutAt (place_in all (link_of (get_or ws n w))) o →
    AreOuts (map (place_in all) (map link_of (take (n + 1) ws))) os'
outs_grow all ws n w os os' o new lt are at = record {
  places = ap (map (λ (o : OutSeen). o.place)) new ∙ (map-append (λ (o : OutSeen). o.place) os (o ∷ []) ∙ ((λ j. are.places j ++ at.at j ∷ []) ∙ sym (way_more (place_in all) ws n w lt)));
  fresh = subst (λ (os : List OutSeen). Each os (λ _ o. IsFreshOut o)) (sym new) (each-more (λ _ o. IsFreshOut o) os o are.fresh at.fresh);
}

pub ins_grow : (all : List Link) (ws : List Way) (n : ℕ) (w : Way) (is is' : List InSeen) (i : InSeen) → is' ≡ is ++ i ∷ [] → n < length ws → AreIns (map (place_back_in all) (map link_of (take n ws))) is → InAt (place_back_in all (link_of (get_or ws n w))) i →
    AreIns (map (place_back_in all) (map link_of (take (n + 1) ws))) is'
ins_grow all ws n w is is' i new lt are at = record {
  places = ap (map (λ (i : InSeen). i.place)) new ∙ (map-append (λ (i : InSeen). i.place) is (i ∷ []) ∙ ((λ j. are.places j ++ at.at j ∷ []) ∙ sym (way_more (place_back_in all) ws n w lt)));
  fresh = subst (λ (is : List InSeen). Each is (λ _ i. IsFreshIn i)) (sym new) (each-more (λ _ i. IsFreshIn i) is i are.fresh at.fresh);
}

-- the same of ends that are taken out at given places
place_more : (ks : List ℕ) (n : ℕ) → n < length ks → take (n + 1) ks ≡ take n ks ++ get_or ks n 0 ∷ []
place_more ks n lt = take_more ks n 0 lt

pub outs_at_more : (ks : List ℕ) (n : ℕ) (os os' : List OutSeen) (o : OutSeen) → os' ≡ os ++ o ∷ [] → n < length ks → AreOuts (take n ks) os → OutAt (get_or ks n 0) o → AreOuts (take (n + 1) ks) os'
outs_at_more ks n os os' o new lt are at = record {
  places = ap (map (λ (o : OutSeen). o.place)) new ∙ (map-append (λ (o : OutSeen). o.place) os (o ∷ []) ∙ ((λ j. are.places j ++ at.at j ∷ []) ∙ sym (place_more ks n lt)));
  fresh = subst (λ (os : List OutSeen). Each os (λ _ o. IsFreshOut o)) (sym new) (each-more (λ _ o. IsFreshOut o) os o are.fresh at.fresh);
}

pub ins_behind : (is : List InSeen) → Each is (λ _ i. IsFreshIn i) → AreIns (in_places is ++ []) is
ins_behind is all = record { places = sym (append-nil (in_places is)); fresh = all }

pub ins_at_more : (before ks : List ℕ) (n : ℕ) (is is' : List InSeen) (i : InSeen) → is' ≡ is ++ i ∷ [] → n < length ks → AreIns (before ++ take n ks) is → InAt (get_or ks n 0) i → AreIns (before ++ take (n + 1) ks) is'
ins_at_more before ks n is is' i new lt are at =
    let same : (before ++ take n ks) ++ get_or ks n 0 ∷ [] ≡ before ++ take (n + 1) ks =
    append_assoc before (take n ks) (get_or ks n 0 ∷ []) ∙ ap (λ (xs : List ℕ). before ++ xs) (sym (place_more ks n lt)) in
    record {
      places = ap (map (λ (i : InSeen). i.place)) new ∙ (map-append (λ (i : InSeen). i.place) is (i ∷ []) ∙ ((λ j. are.places j ++ at.at j ∷ []) ∙ same));
      fresh = subst (λ (is : List InSeen). Each is (λ _ i. IsFreshIn i)) (sym new) (each-more (λ _ i. IsFreshIn i) is i are.fresh at.fresh);
    }

-- ---- an end that is taken out

-- a member in the place of another
each-set : {X : Type 0} (P : ℕ → X → Type 0) (xs : List X) (n : ℕ) (x : X) → Each xs P → P n x → Each (set xs n x) P
each-set P [] n x all one k y at = absurd (cc)
each-set P (z ∷ xs) zero x all one zero y at = subst (P 0) (let e : x ≡ y = cc in e) one
each-set P (z ∷ xs) zero x all one (suc k) y at = all (suc k) y at
each-set P (z ∷ xs) (suc n) x all one zero y at = all zero y at
each-set P (z ∷ xs) (suc n) x all one (suc k) y at = each-set (λ k y. P (suc k) y) xs n x (λ k y at. all (suc k) y at) one k y at

pub out_left : (ends : List (Option OutSeen)) (n : ℕ) → AllOuts ends → AllOuts (set ends n None)
out_left ends n all = each-set OutIf ends n None all tt

pub in_left : (ends : List (Option InSeen)) (n : ℕ) → AllIns ends → AllIns (set ends n None)
in_left ends n all = each-set InIf ends n None all tt

pub out_there : (ends : List (Option OutSeen)) (n : ℕ) (was r : Option OutSeen) → AllOuts ends → slice_get ends n ≡ Some was → r ≡ was → IfSome r (λ o. OutAt n o)
out_there ends n was None all at e = tt
out_there ends n was (Some o) all at e = all n (Some o) (at ∙ ap Some (sym e))

pub in_there : (ends : List (Option InSeen)) (n : ℕ) (was r : Option InSeen) → AllIns ends → slice_get ends n ≡ Some was → r ≡ was → IfSome r (λ i. InAt n i)
in_there ends n was None all at e = tt
in_there ends n was (Some i) all at e = all n (Some i) (at ∙ ap Some (sym e))
