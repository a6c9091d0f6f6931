-- Cursors of all outgoing links.
use Rattle.std.proofs.Common.{◌≡◌, ◌<◌, ◌≤◌, ℕ, zero, suc, ◌+◌, ◌==◌, max, Bool, false, List, [], ◌∷◌, ◌++◌, length, map, slice_set, get_or, Option, Some, None, Result, Ok, Err, IfErr, IfOk, IfSome, OnErr, slice_get, refl, sym, ap, ◌∙◌, subst, arith, ⊎_elim, inl, inr}
use Rattle.std.proofs.lemmas.List.{map-append}
use Rattle.std.proofs.lemmas.Bool.Decides.{nat_tests}
use Rattle.sat_label.specs.declared.node.NodeName.{NodeName}
use Rattle.sat_node.specs.declared.kept.Kept.{Kept}
use Rattle.sat_node.specs.declared.kept.CallFault.{CallFault}
use Rattle.sat_node.specs.declared.kept.CallFault.TheVariants as fault
use Rattle.sat_node.specs.Meanings.{Meaning}
use Rattle.sat_node.specs.Seen.{NodeSeen, entry, Takes, last_number}
use Rattle.sat_node.proofs.Counts.{zero_more}
use Rattle.sat_node.proofs.Members.{get_next, each_set}
use Rattle.sat_node.specs.declared.kept.Made.{Made}
use Rattle.sat_node.specs.Puts.{put_by}
use Rattle.sat_message.specs.declared.message.Message.{Message}
use Rattle.sat_message.specs.Numbering.{CursorSeen, Gives, IsAt, put_before}
use Rattle.sat_message.proofs.Numbering.{at_more, at_start}
use Rattle.sat_host_laws.specs.Messages.{HostSeen, IsSent, Slipped}
use Rattle.sat_host_laws.proofs.Senders.{given_is_sent}
use Rattle.sat_host.specs.Cursors.{next_of, place_of, AreAt, AreMore, start}
use Rattle.sat_host.specs.Turns.{FailsBy}

-- ---- their places

pub more_start : (cs : List CursorSeen) (k : ℕ) → place_of (cs ++ start ∷ []) k ≡ place_of cs k
more_start cs k = ap (λ (ns : List ℕ). get_or ns k 0) (map-append next_of cs (start ∷ [])) ∙ zero_more (map next_of cs) k

pub place_next : (cs ds : List CursorSeen) (c : CursorSeen) (k : ℕ) → ds ≡ cs ++ c ∷ [] → c ≡ start → place_of ds k ≡ place_of cs k
place_next cs ds c k is e = ap (λ (ls : List CursorSeen). place_of ls k) (is ∙ ap (λ (x : CursorSeen). cs ++ x ∷ []) e) ∙ more_start cs k

pub are_more_none : (cs : List CursorSeen) → AreMore cs cs
are_more_none cs k c at = inl at

pub are_more_next : (cs ds es : List CursorSeen) (c : CursorSeen) → es ≡ ds ++ c ∷ [] → c ≡ start → AreMore cs ds → AreMore cs es
are_more_next cs ds es c is e more k x at =
    ⊎_elim (λ (was : slice_get ds k ≡ Some x). more k x was) (λ (new : c ≡ x). inr (sym new ∙ e))
    (get_next ds c x k (ap (λ (ls : List CursorSeen). slice_get ls k) (sym is) ∙ at))

pub place_is : (cs : List CursorSeen) (k : ℕ) (c : CursorSeen) → slice_get cs k ≡ Some c → place_of cs k ≡ c.next
place_is [] k c e = absurd (cc (e))
place_is (x ∷ xs) zero c e = (let same : x ≡ c = cc (e) in ap next_of same)
place_is (x ∷ xs) (suc k) c e = place_is xs k c e

pub place_past : (cs : List CursorSeen) (k : ℕ) → length cs ≤ k → place_of cs k ≡ 0
place_past [] k le = refl
place_past (x ∷ xs) zero le = absurd (omega arith)
place_past (x ∷ xs) (suc k) le = place_past xs k (omega arith)

pub place_set : (cs : List CursorSeen) (k : ℕ) (c : CursorSeen) → k < length cs → place_of (slice_set cs k c) k ≡ c.next
place_set [] k c lt = absurd (omega arith)
place_set (x ∷ xs) zero c lt = refl
place_set (x ∷ xs) (suc k) c lt = place_set xs k c (omega arith)

suc-tests : (k j : ℕ) → (suc k == suc j) ≡ (k == j)
suc-tests k j = grind (arith, nat_tests)

pub place_other : (cs : List CursorSeen) (k j : ℕ) (c : CursorSeen) → (k == j) ≡ false → place_of (slice_set cs k c) j ≡ place_of cs j
place_other [] k j c e = refl
place_other (x ∷ xs) zero zero c e = absurd (cc (e))
place_other (x ∷ xs) zero (suc j) c e = refl
place_other (x ∷ xs) (suc k) zero c e = refl
place_other (x ∷ xs) (suc k) (suc j) c e = place_other xs k j c (sym (suc-tests k j) ∙ e)

-- ---- they stay cursors of their links

module _ {S I A : Type 0} (m : Meaning S I A) where
  pub at_set : (name : NodeName) (ks : List (Kept I A)) (cs : List CursorSeen) (k : ℕ) (c : CursorSeen) → AreAt m name ks cs → IsAt (m.puts name k) ks c → AreAt m name ks (slice_set cs k c)
  at_set name ks cs k c all one = each_set (λ k c. IsAt (m.puts name k) ks c) cs k c all one

  pub at_grown : (name : NodeName) (ks : List (Kept I A)) (cs ds : List CursorSeen) → AreMore cs ds → AreAt m name ks cs → AreAt m name ks ds
  at_grown name ks cs ds more all k c at =
      ⊎_elim (λ (was : slice_get cs k ≡ Some c). all k c was) (λ (new : c ≡ start). at_start (m.puts name k) ks c new) (more k c at)

  at-same : (name other : NodeName) (ks ls : List (Kept I A)) (cs : List CursorSeen) → other ≡ name → ls ≡ ks → AreAt m name ks cs → AreAt m other ls cs
  at-same name other ks ls cs e f all k c at = subst (λ (x : NodeName × List (Kept I A)). IsAt (m.puts x.0 k) x.1 c) (λ d. (sym e d, sym f d)) (all k c at)

  -- after an input, kept or not
  pub at_taken : {M : Type 0} (r : Result A CallFault) (heard : ℕ) (input : I) (may : Bool) (old new : NodeSeen M I A) (cs : List CursorSeen) → Takes heard input may r old new → AreAt m old.name old.entries cs → AreAt m new.name new.entries cs
  at_taken (Err f) heard input may old new cs t all k c at = at-same old.name new.name old.entries new.entries cs t.name t.err.0.2 all k c at
  at_taken (Ok a) heard input may old new cs t all k c at =
      subst (λ (n : NodeName). IsAt (m.puts n k) new.entries c) (sym t.name)
      (at_more (m.puts old.name k) old.entries new.entries (entry (max old.number heard + 1) input a) c t.taken (all k c at))

-- ---- faults

pub fails_by : {M I A : Type 0} (r : Result A CallFault) (heard : ℕ) (input : I) (may : Bool) (h : HostSeen M I A) (old new : NodeSeen M I A) → h.node ≡ old → Takes heard input may r old new → IfErr r (FailsBy h heard)
fails_by (Ok a) heard input may h old new e t = tt
fails_by {M} {I} {A} (Err f) heard input may h old new e t =
    ⊎_elim
    (λ (w : f ≡ fault.Worn last_number).
    let same : ◌≡◌ {A = Result A CallFault} (Err f) (Err (fault.Worn last_number)) = ap (λ (y : CallFault). Err y) w in
    inr (w, ap (λ (n : NodeSeen M I A). max n.number heard) e ∙ t.worn.0 same))
    (λ (w : f ≡ fault.Memory). inl w) t.only

-- ---- what a cursor gives, seen from its host

pub gives_there : {E I A : Type 0} (of : I → A → Option Made) (ks : List (Kept I A)) (r : Result (Option Message) E) (a b c e : ℕ) → a ≡ b → c ≡ e → IfOk r (Gives of ks a c) → IfOk r (Gives of ks b e)
gives_there of ks r a b c e same to h = subst (λ (x : ℕ × ℕ). IfOk r (Gives of ks x.0 x.1)) (λ d. (same d, to d)) h

pub passed_there : {E I A : Type 0} (of : I → A → Option Made) (ks : List (Kept I A)) (r : Result (Option Message) E) (a b c e : ℕ) → a ≡ b → c ≡ e → OnErr r (put_before of ks c ≡ put_before of ks a) → OnErr r (put_before of ks e ≡ put_before of ks b)
passed_there of ks r a b c e same to h = subst (λ (x : ℕ × ℕ). OnErr r (put_before of ks x.1 ≡ put_before of ks x.0)) (λ d. (same d, to d)) h

pub gives_sent : {E I A : Type 0} (of : I → A → Option Made) (ks : List (Kept I A)) (r : Result (Option Message) E) (a b : ℕ) → IfOk r (Gives of ks a b) → IfOk r (λ found. IfSome found (λ m. IsSent (put_by of ks) m))
gives_sent of ks (Err x) a b h = tt
gives_sent of ks (Ok None) a b h = tt
gives_sent of ks (Ok (Some m)) a b h = given_is_sent of ks a b m h

-- what ties a journal to its slips says nothing of cursors
pub slipped_cursors : {S M I A : Type 0} (m : Meaning S I A) (h : HostSeen M I A) (places : List ℕ) → Slipped m h → Slipped m (record { node = h.node; slips = h.slips; wanted = h.wanted; cursors = places })
slipped_cursors m h places s = record { standing = s.standing; took = s.took; next = s.next }
