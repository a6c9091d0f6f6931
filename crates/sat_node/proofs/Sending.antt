-- What was sent is what the entries before an end's place put there.
use Rattle.std.proofs.Common.{◌≡◌, ℕ, zero, suc, ◌+◌, ◌<◌, ◌≤◌, inl, List, [], ◌∷◌, ◌++◌, length, take, drop, get_or, Option, Some, None, Bool, true, false, MatchBool, slice_get, refl, sym, ap, ◌∙◌, subst, append_assoc, arith}
use Rattle.std.proofs.lemmas.List.{append-nil, length-append}
use Rattle.sat_link.specs.Ends.{Sender}
use Rattle.sat_node.specs.declared.kept.Kept.{Kept}
use Rattle.sat_node.specs.declared.kept.Made.{Made}
use Rattle.sat_node.specs.declared.kept.Envelope.{Envelope}
use Rattle.sat_node.specs.Puts.{OutSeen, envelope, Putting, putting, puttings, numbered, sealed, put_by, Counts, Sends, SameOut, SentThing, Stopped}
use Rattle.sat_node.proofs.Counts.{body_is, counts_next, counts_same, payloads_left, beats_left}

pub take_more : {X : Type 0} (n : ℕ) (xs : List X) (x : X) → n ≤ length xs → take n (xs ++ x ∷ []) ≡ take n xs
take_more zero xs x h = refl
take_more (suc n) [] x h = absurd (omega arith)
take_more (suc n) (y ∷ ys) x h = ap (λ l. y ∷ l) (take_more n ys x (omega arith))

take_next : {X : Type 0} (n : ℕ) (xs : List X) (x : X) → slice_get xs n ≡ Some x → take (suc n) xs ≡ take n xs ++ x ∷ []
take_next zero [] x e = absurd (cc (e))
take_next zero (y ∷ ys) x e = (let same : y ≡ x = cc (e) in ap (λ z. z ∷ []) same)
take_next (suc n) [] x e = absurd (cc (e))
take_next (suc n) (y ∷ ys) x e = ap (λ l. y ∷ l) (take_next n ys x e)

pub within : {X : Type 0} (n : ℕ) (xs : List X) (x : X) → slice_get xs n ≡ Some x → n < length xs
within zero [] x e = absurd (cc (e))
within zero (y ∷ ys) x e = omega arith
within (suc n) [] x e = absurd (cc (e))
within (suc n) (y ∷ ys) x e = (let h = within n ys x e in omega arith)

length_take : {X : Type 0} (n : ℕ) (xs : List X) → length (take n xs) ≤ n
length_take zero xs = omega arith
length_take (suc n) [] = omega arith
length_take (suc n) (x ∷ xs) = (let h = length_take n xs in omega arith)

puttings_next : {I A : Type 0} (of : I → A → Option Made) (ks : List (Kept I A)) (k : Kept I A) → puttings of (ks ++ k ∷ []) ≡ puttings of ks ++ putting k.lamport (of k.input k.answer)
puttings_next of [] k = append-nil (putting k.lamport (of k.input k.answer))
puttings_next of (x ∷ xs) k =
    ap (λ l. putting x.lamport (of x.input x.answer) ++ l) (puttings_next of xs k)
    ∙ sym (append_assoc (putting x.lamport (of x.input x.answer)) (puttings of xs) (putting k.lamport (of k.input k.answer)))

sealed_next : (before ps : List Putting) (p : Putting) → sealed before (ps ++ p ∷ []) ≡ sealed before ps ++ envelope p.number (numbered (before ++ ps) p.made) ∷ []
sealed_next before [] p = ap (λ l. envelope p.number (numbered l p.made) ∷ []) (sym (append-nil before))
sealed_next before (x ∷ xs) p =
    ap (λ l. envelope x.number (numbered before x.made) ∷ l)
    (sealed_next (before ++ x ∷ []) xs p ∙ ap (λ l. sealed (before ++ x ∷ []) xs ++ envelope p.number (numbered l p.made) ∷ []) (append_assoc before (x ∷ []) xs))

pub sends_new : {I A : Type 0} (of : I → A → Option Made) (ks : List (Kept I A)) (o : OutSeen) → o.link.sent ≡ [] → o.next ≡ 0 → o.payloads ≡ [] → o.beats ≡ 0 → Sends of ks o
sends_new of ks o none start payloads beats = record {
  next = omega arith;
  sent = none ∙ ap (λ n. put_by of (take n ks)) (sym start);
  counts = subst (λ n. Counts (puttings of (take n ks)) o) (sym start) (record { payloads = λ g. ap (λ l. get_or l g 0) payloads; beats = beats });
}

-- an entry more changes nothing of what was sent
pub sends_more : {I A : Type 0} (of : I → A → Option Made) (ks all : List (Kept I A)) (k : Kept I A) (o : OutSeen) → all ≡ ks ++ k ∷ [] → Sends of ks o → Sends of all o
sends_more of ks all k o is h =
    let same : take o.next all ≡ take o.next ks = ap (take o.next) is ∙ take_more o.next ks k h.next in record {
      next = (let n = h.next in let longer : length all ≡ length ks + 1 = ap length is ∙ length-append ks (k ∷ []) in omega arith);
      sent = h.sent ∙ ap (put_by of) (sym same);
      counts = subst (λ l. Counts (puttings of l) o) (sym same) h.counts;
    }

-- nothing was sent
pub sends_same : {I A : Type 0} (of : I → A → Option Made) (ks : List (Kept I A)) (p o : OutSeen) → SameOut p o → Sends of ks p → Sends of ks o
sends_same of ks p o s h = record {
  next = (let n = h.next in let e = s.same.next in omega arith);
  sent = s.sent ∙ (h.sent ∙ ap (λ n. put_by of (take n ks)) (sym s.same.next));
  counts = subst (λ n. Counts (puttings of (take n ks)) o) (sym s.same.next) (counts_same (puttings of (take p.next ks)) p o h.counts s.payloads s.beats);
}

-- what an entry puts was sent: mid is the end after it, o the same with its place moved on
pub sends_next : {I A : Type 0} (of : I → A → Option Made) (ks : List (Kept I A)) (k : Kept I A) (p mid o : OutSeen) (thing : Option Made) → slice_get ks p.next ≡ Some k → thing ≡ of k.input k.answer
    → SentThing k.lamport thing p mid → o.next ≡ mid.next + 1 → o.link ≡ mid.link → o.payloads ≡ mid.payloads → o.beats ≡ mid.beats → Sends of ks p → Sends of ks o
sends_next of ks k p mid o thing at is s next link payloads beats h = record {
  next = (let n = within p.next ks k at in let e = place in omega arith);
  sent = ap (λ (l : Sender Envelope). l.sent) link ∙ (sent thing is s ∙ ap (λ n. put_by of (take n ks)) (sym place));
  counts = subst (λ n. Counts (puttings of (take n ks)) o) (sym place)
      (counts_same (puttings of (take (p.next + 1) ks)) mid o (subst (λ l. Counts l mid) (sym more) (counts thing is s)) (λ g. ap (λ l. get_or l g 0) payloads) beats);
} where
  stays : (t : Option Made) → SentThing k.lamport t p mid → mid.next ≡ p.next
  stays None same = ap (λ (x : OutSeen). x.next) same
  stays (Some m) one = one.same.next

  place : o.next ≡ p.next + 1
  place = (let e = stays thing s in omega (arith, next))

  before : List Putting
  before = puttings of (take p.next ks)

  step : take (p.next + 1) ks ≡ take p.next ks ++ k ∷ []
  step = (let e : p.next + 1 ≡ suc p.next = omega arith in ap (λ n. take n ks) e ∙ take_next p.next ks k at)

  more : puttings of (take (p.next + 1) ks) ≡ before ++ putting k.lamport (of k.input k.answer)
  more = ap (puttings of) step ∙ puttings_next of (take p.next ks) k

  sent : (t : Option Made) → t ≡ of k.input k.answer → SentThing k.lamport t p mid → mid.link.sent ≡ put_by of (take (p.next + 1) ks)
  sent None e same = ap (λ (x : OutSeen). x.link.sent) same ∙ (h.sent ∙ ap (sealed []) (sym (append-nil before) ∙ (ap (λ t. before ++ putting k.lamport t) e ∙ sym more)))
  sent (Some m) e one =
      let last : List Envelope = envelope k.lamport (numbered before m) ∷ [] in
      let body = ap (λ b. p.link.sent ++ envelope k.lamport b ∷ []) (body_is before p m h.counts) in
      let all = ap (λ t. before ++ putting k.lamport t) e ∙ sym more in
      one.sent ∙ (body ∙ (ap (λ l. l ++ last) h.sent ∙ (sym (sealed_next [] before (record { number = k.lamport; made = m })) ∙ ap (sealed []) all)))

  counts : (t : Option Made) → t ≡ of k.input k.answer → SentThing k.lamport t p mid → Counts (before ++ putting k.lamport (of k.input k.answer)) mid
  counts None e same = subst (λ l. Counts l mid) (sym (append-nil before) ∙ ap (λ t. before ++ putting k.lamport t) e) (subst (Counts before) (sym same) h.counts)
  counts (Some m) e one = subst (λ t. Counts (before ++ putting k.lamport t) mid) e (counts_next before (record { number = k.lamport; made = m }) p mid h.counts one)

-- each thing that is put next has a number
pub numbers_left : {I A : Type 0} (of : I → A → Option Made) (ks : List (Kept I A)) (o : OutSeen) → Sends of ks o → ((gear : ℕ) → get_or o.payloads gear 0 ≤ o.next) × (o.beats ≤ o.next)
numbers_left of ks o h =
    let few = length_take o.next ks in (
      (λ gear. let less = payloads_left of (take o.next ks) o gear h.counts in omega arith),
      (let less = beats_left of (take o.next ks) o h.counts in omega arith),
    )

pub if_true : (A B : Type 0) (b : Bool) → b ≡ true → MatchBool b A B → A
if_true A B true e h = h
if_true A B false e h = absurd (cc)

pub if_false : (A B : Type 0) (b : Bool) → b ≡ false → MatchBool b A B → B
if_false A B false e h = h
if_false A B true e h = absurd (cc)

puttings_append : {I A : Type 0} (of : I → A → Option Made) (xs ys : List (Kept I A)) → puttings of (xs ++ ys) ≡ puttings of xs ++ puttings of ys
puttings_append of [] ys = refl
puttings_append of (x ∷ xs) ys =
    ap (λ l. putting x.lamport (of x.input x.answer) ++ l) (puttings_append of xs ys) ∙ sym (append_assoc (putting x.lamport (of x.input x.answer)) (puttings of xs) (puttings of ys))

sealed_append : (before ps qs : List Putting) → sealed before (ps ++ qs) ≡ sealed before ps ++ sealed (before ++ ps) qs
sealed_append before [] qs = ap (λ l. sealed l qs) (sym (append-nil before))
sealed_append before (p ∷ ps) qs =
    ap (λ l. envelope p.number (numbered before p.made) ∷ l)
    (sealed_append (before ++ p ∷ []) ps qs ∙ ap (λ l. sealed (before ++ p ∷ []) ps ++ sealed l qs) (append_assoc before (p ∷ []) ps))

cut_at : {X : Type 0} (n : ℕ) (xs : List X) → take n xs ++ drop n xs ≡ xs
cut_at zero xs = refl
cut_at (suc n) [] = refl
cut_at (suc n) (x ∷ xs) = ap (λ l. x ∷ l) (cut_at n xs)

-- what waits comes behind what was sent
pub put_rest : {I A : Type 0} (of : I → A → Option Made) (ks : List (Kept I A)) (o : OutSeen) → Sends of ks o
    → put_by of ks ≡ o.link.sent ++ sealed (puttings of (take o.next ks)) (puttings of (drop o.next ks))
put_rest of ks o h =
    let front = puttings of (take o.next ks) in
    let back = puttings of (drop o.next ks) in
    ap (sealed []) (ap (puttings of) (sym (cut_at o.next ks)) ∙ puttings_append of (take o.next ks) (drop o.next ks))
    ∙ (sealed_append [] front back ∙ ap (λ l. l ++ sealed front back) (sym h.sent))
