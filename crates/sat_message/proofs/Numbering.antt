-- What a cursor counted.
use Rattle.std.proofs.Common.{◌≡◌, ℕ, zero, suc, ◌+◌, ◌<◌, ◌≤◌, ◌==◌, if◌then◌else◌, Bool, true, false, List, [], ◌∷◌, ◌++◌, length, take, get_or, Option, Some, None, slice_get, refl, sym, ap, ◌∙◌, subst, append_assoc, arith}
use Rattle.std.proofs.lemmas.List.{append-nil, length-append}
use Rattle.sat_node.specs.declared.kept.Kept.{Kept}
use Rattle.sat_node.specs.declared.kept.Made.{Made}
use Rattle.sat_node.specs.declared.kept.Made.TheVariants as made
use Rattle.sat_node.specs.declared.kept.Body.TheVariants as body
use Rattle.sat_node.specs.Puts.{envelope, Putting, putting, puttings, numbered, is_payload_of, is_beat, payloads_of, beats_of}
use Rattle.sat_node.proofs.Sending.{take_more, within}
use Rattle.sat_message.specs.declared.message.Message.{Message}
use Rattle.sat_message.specs.Numbering.{CursorSeen, HasCounted, IsAt, GivesOne, EndsAt, Gives, CountsOne, CountsThing, SameCounts, Passes, is_label, labels_of, message_of, next_body, next_message, put_before}

-- ---- counts

one-or-none : (b : Bool) → (if b then 1 else 0) ≤ 1
one-or-none true = omega arith
one-or-none false = omega arith

label-at-most : (m : Made) → is_label m ≤ 1
label-at-most (made.Label l) = omega arith
label-at-most (made.Payload g p) = omega arith
label-at-most (made.Beat b) = omega arith

payload-at-most : (g : ℕ) (m : Made) → is_payload_of g m ≤ 1
payload-at-most g (made.Label l) = omega arith
payload-at-most g (made.Payload gear p) = one-or-none (gear == g)
payload-at-most g (made.Beat b) = omega arith

beat-at-most : (m : Made) → is_beat m ≤ 1
beat-at-most (made.Label l) = omega arith
beat-at-most (made.Payload g p) = omega arith
beat-at-most (made.Beat b) = omega arith

labels-within : (ps : List Putting) → labels_of ps ≤ length ps
labels-within [] = omega arith
labels-within (p ∷ ps) = let one = label-at-most p.made in let rest = labels-within ps in omega arith

payloads-within : (g : ℕ) (ps : List Putting) → payloads_of g ps ≤ length ps
payloads-within g [] = omega arith
payloads-within g (p ∷ ps) = let one = payload-at-most g p.made in let rest = payloads-within g ps in omega arith

beats-within : (ps : List Putting) → beats_of ps ≤ length ps
beats-within [] = omega arith
beats-within (p ∷ ps) = let one = beat-at-most p.made in let rest = beats-within ps in omega arith

labels-next : (ps : List Putting) (p : Putting) → labels_of (ps ++ p ∷ []) ≡ labels_of ps + is_label p.made
labels-next [] p = omega arith
labels-next (x ∷ xs) p = let rest = labels-next xs p in omega arith

payloads-next : (g : ℕ) (ps : List Putting) (p : Putting) → payloads_of g (ps ++ p ∷ []) ≡ payloads_of g ps + is_payload_of g p.made
payloads-next g [] p = omega arith
payloads-next g (x ∷ xs) p = let rest = payloads-next g xs p in omega arith

beats-next : (ps : List Putting) (p : Putting) → beats_of (ps ++ p ∷ []) ≡ beats_of ps + is_beat p.made
beats-next [] p = omega arith
beats-next (x ∷ xs) p = let rest = beats-next xs p in omega arith

-- ---- entries

take-next : {X : Type 0} (n : ℕ) (xs : List X) (x : X) → slice_get xs n ≡ Some x → take (suc n) xs ≡ take n xs ++ x ∷ []
take-next zero [] x e = absurd (cc (e))
take-next zero (y ∷ ys) x e = (let same : y ≡ x = cc (e) in ap (λ z. z ∷ []) same)
take-next (suc n) [] x e = absurd (cc (e))
take-next (suc n) (y ∷ ys) x e = ap (λ l. y ∷ l) (take-next n ys x e)

length-take : {X : Type 0} (n : ℕ) (xs : List X) → length (take n xs) ≤ n
length-take zero xs = omega arith
length-take (suc n) [] = omega arith
length-take (suc n) (x ∷ xs) = (let h = length-take n xs in omega arith)

puttings-next : {I A : Type 0} (of : I → A → Option Made) (ks : List (Kept I A)) (k : Kept I A) → puttings of (ks ++ k ∷ []) ≡ puttings of ks ++ putting k.lamport (of k.input k.answer)
puttings-next of [] k = append-nil (putting k.lamport (of k.input k.answer))
puttings-next of (x ∷ xs) k =
    ap (λ l. putting x.lamport (of x.input x.answer) ++ l) (puttings-next of xs k)
    ∙ sym (append_assoc (putting x.lamport (of x.input x.answer)) (puttings of xs) (putting k.lamport (of k.input k.answer)))

-- an entry puts one thing at most
puttings-within : {I A : Type 0} (of : I → A → Option Made) (ks : List (Kept I A)) → length (puttings of ks) ≤ length ks
puttings-within of [] = omega arith
puttings-within of (k ∷ ks) = more (of k.input k.answer) (puttings-within of ks) where
  more : (o : Option Made) → length (puttings of ks) ≤ length ks → length (putting k.lamport o ++ puttings of ks) ≤ suc (length ks)
  more None h = omega arith
  more (Some m) h = omega arith

-- ---- places of a cursor

pub at_start : {I A : Type 0} (of : I → A → Option Made) (ks : List (Kept I A)) (c : CursorSeen) → c ≡ record { next = 0; labels = 0; payloads = []; beats = 0 } → IsAt of ks c
at_start of ks c e = subst (λ (x : CursorSeen). IsAt of ks x) (sym e) (record { next = omega arith; counted = record { labels = refl; payloads = λ g. refl; beats = refl } })

-- it stays while the journal grows
pub at_more : {I A : Type 0} (of : I → A → Option Made) (ks all : List (Kept I A)) (k : Kept I A) (c : CursorSeen) → all ≡ ks ++ k ∷ [] → IsAt of ks c → IsAt of all c
at_more of ks all k c is h =
    let same : take c.next all ≡ take c.next ks = ap (take c.next) is ∙ take_more c.next ks k h.next in record {
      next = (let n = h.next in let longer : length all ≡ length ks + 1 = ap length is ∙ length-append ks (k ∷ []) in omega arith);
      counted = subst (λ l. HasCounted (puttings of l) c) (sym same) h.counted;
    }

-- the next of each sort has a number
pub numbers_left : {I A : Type 0} (of : I → A → Option Made) (ks : List (Kept I A)) (c : CursorSeen) → IsAt of ks c → ((gear : ℕ) → get_or c.payloads gear 0 ≤ c.next) × (c.labels ≤ c.next) × (c.beats ≤ c.next)
numbers_left of ks c h =
    let few = length-take c.next ks in
    let fewer = puttings-within of (take c.next ks) in (
      (λ gear. let e = h.counted.payloads gear in let less = payloads-within gear (put_before of ks c.next) in omega arith),
      (let e = h.counted.labels in let less = labels-within (put_before of ks c.next) in omega arith),
      (let e = h.counted.beats in let less = beats-within (put_before of ks c.next) in omega arith),
    )

-- what the entry at a place puts
pub put_next : {I A : Type 0} (of : I → A → Option Made) (ks : List (Kept I A)) (k : Kept I A) (n : ℕ) → slice_get ks n ≡ Some k → put_before of ks (n + 1) ≡ put_before of ks n ++ putting k.lamport (of k.input k.answer)
put_next of ks k n at =
    let e : n + 1 ≡ suc n = omega arith in
    ap (λ m. puttings of (take m ks)) e ∙ (ap (puttings of) (take-next n ks k at) ∙ puttings-next of (take n ks) k)

-- a thing behind what was counted is the message behind what was put
body-is : (ps : List Putting) (c : CursorSeen) (m : Made) → HasCounted ps c → next_body c m ≡ numbered ps m
body-is ps c (made.Label l) h = refl
body-is ps c (made.Payload gear p) h = ap (λ n. body.Payload gear n p) (h.payloads gear)
body-is ps c (made.Beat b) h = ap (λ n. body.Beat n b) h.beats

message-is : (ps : List Putting) (c : CursorSeen) (number : ℕ) (m : Made) → HasCounted ps c → next_message c number m ≡ message_of ps (record { number = number; made = m })
message-is ps c number m h = λ i. record { number = h.labels i; sent = envelope number (body-is ps c m h i) }

counted-next : (ps : List Putting) (p : Putting) (a c : CursorSeen) → HasCounted ps a → CountsOne p.made a c → HasCounted (ps ++ p ∷ []) c
counted-next ps p a c h s = record {
  labels = s.labels ∙ (ap (λ n. n + is_label p.made) h.labels ∙ sym (labels-next ps p));
  payloads = λ g. s.payloads g ∙ (ap (λ n. n + is_payload_of g p.made) (h.payloads g) ∙ sym (payloads-next g ps p));
  beats = s.beats ∙ (ap (λ n. n + is_beat p.made) h.beats ∙ sym (beats-next ps p));
}

counted-as : (ps : List Putting) (a c : CursorSeen) → HasCounted ps a → c.labels ≡ a.labels → c.payloads ≡ a.payloads → c.beats ≡ a.beats → HasCounted ps c
counted-as ps a c h labels payloads beats = record {
  labels = labels ∙ h.labels;
  payloads = λ g. ap (λ l. get_or l g 0) payloads ∙ h.payloads g;
  beats = beats ∙ h.beats;
}

counts-stay : (number : ℕ) (o : Option Made) (found : Option Message) (a mid : CursorSeen) → CountsThing number o found a mid → mid.next ≡ a.next
counts-stay number None found a mid s = ap (λ (x : CursorSeen). x.next) s.1
counts-stay number (Some m) found a mid s = s.1.next

counted-thing : (ps : List Putting) (number : ℕ) (o : Option Made) (found : Option Message) (a mid : CursorSeen) → HasCounted ps a → CountsThing number o found a mid → HasCounted (ps ++ putting number o) mid
counted-thing ps number None found a mid h s = subst (λ (l : List Putting). HasCounted l mid) (sym (append-nil ps)) (subst (HasCounted ps) (sym s.1) h)
counted-thing ps number (Some m) found a mid h s = counted-next ps (record { number = number; made = m }) a mid h s.1

-- mid is the cursor once the entry's thing was counted, c the same one place on
pub record Looked {I A : Type 0} (of : I → A → Option Made) (ks : List (Kept I A)) (k : Kept I A) (o : Option Made) (found : Option Message) (a mid c : CursorSeen) : Type 0 where
  pub at : slice_get ks a.next ≡ Some k
  pub puts : o ≡ of k.input k.answer
  pub thing : CountsThing k.lamport o found a mid
  pub next : c.next ≡ mid.next + 1
  pub labels : c.labels ≡ mid.labels
  pub payloads : c.payloads ≡ mid.payloads
  pub beats : c.beats ≡ mid.beats
  pub was : IsAt of ks a

module _ {I A : Type 0} (of : I → A → Option Made) (ks : List (Kept I A)) (k : Kept I A) (o : Option Made) (found : Option Message) (a mid c : CursorSeen) (l : Looked of ks k o found a mid c) where
  place : c.next ≡ a.next + 1
  place = l.next ∙ ap (λ n. n + 1) (counts-stay k.lamport o found a mid l.thing)

  more : put_before of ks c.next ≡ put_before of ks a.next ++ putting k.lamport o
  more = ap (put_before of ks) place ∙ (put_next of ks k a.next l.at ∙ ap (λ t. put_before of ks a.next ++ putting k.lamport t) (sym l.puts))

  pub looked_at : IsAt of ks c
  looked_at = record {
    next = (let n = within a.next ks k l.at in let e = place in omega (arith, n, e));
    counted = subst (λ (ps : List Putting). HasCounted ps c) (sym more)
        (counted-as (put_before of ks a.next ++ putting k.lamport o) mid c (counted-thing (put_before of ks a.next) k.lamport o found a mid l.was.counted l.thing) l.labels l.payloads l.beats);
  }

  pub looked_next : a.next ≤ c.next
  looked_next = let e = place in omega (arith, e)

  passes : (t : Option Made) (f : Option Message) → o ≡ t → found ≡ f → CountsThing k.lamport t f a mid → f ≡ None → Passes of ks a.next c.next None
  passes None f e w s n = record {
    next = place;
    within = within a.next ks k l.at;
    same = more ∙ (ap (λ t. put_before of ks a.next ++ putting k.lamport t) e ∙ append-nil (put_before of ks a.next));
    none = refl;
  }
  passes (Some m) f e w s n = absurd (let clash : Some (next_message a k.lamport m) ≡ None = sym s.0 ∙ n in cc (clash))

  pub looked_passes : found ≡ None → Passes of ks a.next c.next None
  looked_passes n = passes o found refl refl l.thing n

  gives : (t : Option Made) (f : Option Message) (m : Message) → o ≡ t → CountsThing k.lamport t f a mid → f ≡ Some m → GivesOne of ks a.next c.next m
  gives None f m e s n = absurd (let clash : None ≡ Some m = sym s.0 ∙ n in cc (clash))
  gives (Some t) f m e s n =
      let same : next_message a k.lamport t ≡ m = cc (s.0, n) in (
        record { number = k.lamport; made = t },
        more ∙ ap (λ (t : Option Made). put_before of ks a.next ++ putting k.lamport t) e,
        sym same ∙ message-is (put_before of ks a.next) a k.lamport t l.was.counted,
      )

  pub looked_gives : (m : Message) → found ≡ Some m → GivesOne of ks a.next c.next m
  looked_gives m n = gives o found m refl l.thing n

-- from a place before it at which as much was put
pub gives_from : {I A : Type 0} (of : I → A → Option Made) (ks : List (Kept I A)) (a b c : ℕ) (o : Option Message) → put_before of ks b ≡ put_before of ks a → Gives of ks b c o → Gives of ks a c o
gives_from of ks a b c None e h = (h.0 ∙ e, h.1)
gives_from of ks a b c (Some m) e h = (h.0, h.1 ∙ ap (λ ps. ps ++ h.0 ∷ []) e, h.2 ∙ ap (λ ps. message_of ps h.0) e)
