-- Entries in their turn.
use Rattle.std.proofs.Common.{◌≡◌, ◌≤◌, ◌<◌, ℕ, zero, suc, ◌+◌, nat_le, Bool, true, false, List, [], ◌∷◌, ◌++◌, length, slice_get, Some, None, if◌then◌else◌, inl, inr, refl, sym, ap, ◌∙◌, arith}
use Rattle.std.proofs.lemmas.Bool.Decides.{nat_tests}
use Rattle.sat_act.specs.declared.act.Act.{Act}
use Rattle.sat_act.specs.declared.act.Act.TheVariants as act
use Rattle.sat_act.specs.declared.answer.Answer.{Answer}
use Rattle.sat_act.specs.declared.entry.Entry.{Entry}
use Rattle.sat_stitch.specs.Kept.{acts_of as acts_among}
use Rattle.sat_stitch.specs.Places.{Operator}
use Rattle.sat_undone.specs.declared.lacking.Tally.{Tally}
use Rattle.sat_undone.specs.declared.tries.TheConstants.{MOST_TRIES}
use Rattle.sat_undone.specs.Undone.{AreInTurn, DoesAll, IsNext, acts_behind, acts_done, entries_of, has_to_wait, is_by, is_of, next_tally, no_tally, tally_by, tally_from, waits}

-- ---- acts by their number

get-more : (xs ys : List Act) (n : ℕ) (x : Act) → slice_get xs n ≡ Some x → slice_get (xs ++ ys) n ≡ Some x
get-more [] ys n x e = absurd (cc)
get-more (y ∷ xs) ys zero x e = e
get-more (y ∷ xs) ys (suc n) x e = get-more xs ys n x e

pub get-last : (xs : List Act) (x : Act) → slice_get (xs ++ x ∷ []) (length xs) ≡ Some x
get-last [] x = refl
get-last (y ∷ xs) x = get-last xs x

-- ---- in turn

-- there may be more acts
pub turn-more : (t : Tally) (acts more : List Act) (es : List Entry) → AreInTurn t acts es → AreInTurn t (acts ++ more) es
turn-more t acts more [] k = tt
turn-more t acts more (e ∷ es) k = (record { act = get-more acts more t.done e.act k.0.act; tries = k.0.tries }, turn-more (next_tally t e) acts more es k.1)

-- an entry more
pub turn-last : (t : Tally) (acts : List Act) (es : List Entry) (e : Entry) → AreInTurn t acts es → IsNext (tally_from t es) acts e.act → AreInTurn t acts (es ++ e ∷ [])
turn-last t acts [] e k n = (n, tt)
turn-last t acts (x ∷ es) e k n = (k.0, turn-last (next_tally t x) acts es e k.1 n)

-- there are the most tries at the most
few-by : (b : Bool) (t : Tally) → t.tries < MOST_TRIES → (tally_by b t).tries ≤ MOST_TRIES
few-by true t less = omega (arith, less)
few-by false t less = omega arith

few-tries : (t : Tally) (acts : List Act) (es : List Entry) → t.tries ≤ MOST_TRIES → AreInTurn t acts es → (tally_from t es).tries ≤ MOST_TRIES
few-tries t acts [] few k = few
few-tries t acts (e ∷ es) few k = few-tries (next_tally t e) acts es (few-by (waits e) t k.0.tries) k.1

exactly : (n : ℕ) → n ≤ MOST_TRIES → nat_le MOST_TRIES n ≡ true → n ≡ MOST_TRIES
exactly n few most = grind (arith, nat_tests)

-- a client that stopped did so behind the most tries
pub most-exactly : (acts : List Act) (es : List Entry) → AreInTurn no_tally acts es → nat_le MOST_TRIES (tally_from no_tally es).tries ≡ true → (tally_from no_tally es).tries ≡ MOST_TRIES
most-exactly acts es k most = exactly (tally_from no_tally es).tries (few-tries no_tally acts es (omega arith) k) most

-- ---- the operator

-- only clients attach
never-waits : (a : Act) (r : Answer) → is_of Operator a ≡ true → has_to_wait a r ≡ false
never-waits (act.Attach c j) r e = absurd (cc)
never-waits a r e = refl

operator-acts : (es : List Entry) → acts_done (entries_of Operator es) ≡ acts_among (entries_of Operator es)
operator-acts [] = refl
operator-acts (e ∷ es) = go (is_by Operator e) refl (operator-acts es)
  where
    go : (b : Bool) → is_by Operator e ≡ b → acts_done (entries_of Operator es) ≡ acts_among (entries_of Operator es)
        → acts_done (if b then e ∷ entries_of Operator es else entries_of Operator es) ≡ acts_among (if b then e ∷ entries_of Operator es else entries_of Operator es)
    go true is k =
        ap (λ (b : Bool). if b then acts_behind (0 + 1) (Some e.act) (entries_of Operator es) else e.act ∷ acts_behind 0 None (entries_of Operator es)) (never-waits e.act e.answer is)
        ∙ ap (λ (xs : List Act). e.act ∷ xs) k
    go false is k = k

operator-tries : (t : Tally) (es : List Entry) → t.tries ≡ 0 → (tally_from t (entries_of Operator es)).tries ≡ 0
operator-tries t [] none = none
operator-tries t (e ∷ es) none = go (is_by Operator e) refl (operator-tries (tally_by false t) es refl) (operator-tries t es none)
  where
    go : (b : Bool) → is_by Operator e ≡ b → (tally_from (tally_by false t) (entries_of Operator es)).tries ≡ 0 → (tally_from t (entries_of Operator es)).tries ≡ 0
        → (tally_from t (if b then e ∷ entries_of Operator es else entries_of Operator es)).tries ≡ 0
    go true is one none = ap (λ (b : Bool). (tally_from (tally_by b t) (entries_of Operator es)).tries) (never-waits e.act e.answer is) ∙ one
    go false is one none = none

-- where all was done of the operator's acts, its entries are of these acts
pub operator-done : (acts : List Act) (es : List Entry) → DoesAll acts (entries_of Operator es) → acts_among (entries_of Operator es) ≡ acts
operator-done acts es d = elim d.all [
  | inl all ↦ sym (operator-acts es) ∙ all
  | inr most ↦ (let none = operator-tries no_tally es refl in absurd (omega (arith, none, most)))
]
