-- What a settle does to a history puts entries before it.
use Rattle.std.specs.Prelude.{◌≡◌, ◌≤◌, ◌+◌, ◌-◌, ◌^◌, ◌==◌, ℕ, zero, suc, min, Bool, true, false, List, [], ◌∷◌, ◌++◌, length, refl}
use Rattle.std.proofs.Common.{sym, ap, ◌∙◌, arith}
use Rattle.std.proofs.lemmas.List.{length-append, append_assoc}
use Rattle.sat_act.specs.declared.act.Act.{Act}
use Rattle.sat_act.specs.declared.entry.Entry.{Entry}
use Rattle.sat_act.specs.Deployed.{Deployed}
use Rattle.sat_act.specs.Answers.{answer}
use Rattle.sat_act.specs.Settling.{is_done, inner_entry, tried, repeated, for_each, emit_all, until_refused, round, round_acts, rounds, left}
use Rattle.sat_act.specs.Parts.{pending}
use Rattle.sat_rest.specs.Ends.{UntilRefused, ends, goes_on}
use Rattle.sat_settle.specs.Going.{Extends}

pub extends-self : (h : List Entry) → Extends h h
extends-self h = ([], refl)

pub extends-one : (h : List Entry) (e : Entry) → Extends h (e ∷ h)
extends-one h e = (e ∷ [], refl)

pub extends-trans : (a b c : List Entry) → Extends a b → Extends b c → Extends a c
extends-trans a b c p q = (q.0 ++ p.0, q.1 ∙ (ap (λ (xs : List Entry). q.0 ++ xs) p.1 ∙ sym (append_assoc q.0 p.0 a)))

pub longer : (h k : List Entry) → Extends h k → length h ≤ length k
longer h k p =
    let e : length k ≡ length (p.0 ++ h) = ap (λ (xs : List Entry). length xs) p.1 in
    let f : length (p.0 ++ h) ≡ length p.0 + length h = length-append p.0 h in
    omega arith

-- with no entry more it is the same
pub same-length : (h k : List Entry) → Extends h k → length k ≤ length h → k ≡ h
same-length h k p le = go p.0 p.1
  where
    go : (more : List Entry) → k ≡ more ++ h → k ≡ h
    go [] e = e
    go (x ∷ more) e =
        let f : length k ≡ length ((x ∷ more) ++ h) = ap (λ (xs : List Entry). length xs) e in
        let g : length ((x ∷ more) ++ h) ≡ length (x ∷ more) + length h = length-append (x ∷ more) h in
        let z : length (x ∷ more) ≡ suc (length more) = refl in
        absurd (omega arith)

pub tried-extends : (d : Deployed) (a : Act) (h : List Entry) → Extends h (tried d a h)
unfolding tried
tried-extends d a h = go (is_done (answer d h a))
  where
    go : (b : Bool) → Extends h (elim b [ true ↦ inner_entry d h a ∷ h | false ↦ h ])
    go true = extends-one h (inner_entry d h a)
    go false = extends-self h

pub repeated-extends : (d : Deployed) (a : Act) (n : ℕ) (h : List Entry) → Extends h (repeated d a n h)
unfolding repeated
repeated-extends d a zero h = extends-self h
repeated-extends d a (suc n) h = go (is_done (answer d h a)) (repeated-extends d a n (inner_entry d h a ∷ h))
  where
    go : (b : Bool) → Extends (inner_entry d h a ∷ h) (repeated d a n (inner_entry d h a ∷ h)) → Extends h (elim b [ true ↦ repeated d a n (inner_entry d h a ∷ h) | false ↦ h ])
    go true p = extends-trans h (inner_entry d h a ∷ h) (repeated d a n (inner_entry d h a ∷ h)) (extends-one h (inner_entry d h a)) p
    go false p = extends-self h

pub until-extends : (d : Deployed) (a : Act) (h k : List Entry) → UntilRefused d a h k → Extends h k
until-extends d a h k (ends e) = extends-self h
until-extends d a h k (goes_on {k = k'} e u) =
    extends-trans h (inner_entry d h a ∷ h) k' (extends-one h (inner_entry d h a)) (until-extends d a (inner_entry d h a ∷ h) k' u)

pub for_each-extends : {X : Type 0} (f : X → List Entry → List Entry) (xs : List X) (h : List Entry) → ((x : X) (k : List Entry) → Extends k (f x k)) → Extends h (for_each f xs h)
unfolding for_each
for_each-extends f [] h w = extends-self h
for_each-extends f (x ∷ xs) h w = extends-trans h (f x h) (for_each f xs (f x h)) (w x h) (for_each-extends f xs (f x h) w)

pub for_each-more : {X : Type 0} (f : X → List Entry → List Entry) (xs ys : List X) (h : List Entry) → for_each f (xs ++ ys) h ≡ for_each f ys (for_each f xs h)
unfolding for_each
for_each-more f [] ys h = refl
for_each-more f (x ∷ xs) ys h = for_each-more f xs ys (f x h)

pub for_each-last : {X : Type 0} (f : X → List Entry → List Entry) (xs : List X) (x : X) (h : List Entry) → for_each f (xs ++ x ∷ []) h ≡ f x (for_each f xs h)
unfolding for_each
for_each-last f [] x h = refl
for_each-last f (y ∷ xs) x h = for_each-last f xs x (f y h)

pub all-extends : (d : Deployed) (a : Act) (h : List Entry) → Extends h (until_refused d a h)
unfolding until_refused
all-extends d a h = repeated-extends d a (left d h) h

pub emits-extends : (d : Deployed) (i : ℕ) (h : List Entry) → Extends h (emit_all d i h)
emits-extends d i h = repeated-extends d _ (length (pending d h i)) h

pub round-extends : (d : Deployed) (h : List Entry) → Extends h (round d h)
unfolding round
round-extends d h = for_each-extends (until_refused d) (round_acts d) h (all-extends d)

pub rounds-extends : (d : Deployed) (n : ℕ) (h : List Entry) → Extends h (rounds d n h).1
unfolding rounds
rounds-extends d zero h = extends-self h
rounds-extends d (suc n) h = go (length (round d h) == length h) (rounds-extends d n (round d h))
  where
    go : (b : Bool) → Extends (round d h) (rounds d n (round d h)).1 →
        Extends h (elim b as (λ _. ℕ × List Entry) [ true ↦ (0, h) | false ↦ ((rounds d n (round d h)).0 + 1, (rounds d n (round d h)).1) ]).1
    go true p = extends-self h
    go false p = extends-trans h (round d h) (rounds d n (round d h)).1 (round-extends d h) p

-- ---- counts

pub capped-sum : (a b c m : ℕ) → a ≤ b → b ≤ c → min (min (b - a) m + min (c - b) m) m ≡ min (c - a) m
capped-sum a b c m p q = omega arith

pub capped-none : (a b : ℕ) → a ≡ b → 0 ≡ min (a - b) (2 ^ 64 - 1)
capped-none a b e = omega arith
