-- A sort by session and number puts notes in order, and moves them alone.
use Rattle.std.specs.Prelude.{◌≡◌, ◌<◌, ℕ, zero, suc, ◌+◌, Bool, true, false, ◌&&◌, ◌||◌, ◌==◌, nat_lt, List, [], ◌∷◌, length, cond, slice_index_or, refl}
use Rattle.std.proofs.Common.{sym, subst, ap, ◌∙◌, arith, inl, inr}
use Rattle.std.specs.List.{Contains}
use Rattle.std.specs.List.Sorted.{IsPermutation, IsSortedByKey, IsSortedBy}
use Rattle.std.specs.Ordering.{is_lt, ordering_then, nat_cmp}
use Rattle.std.specs.declared.cmp.Ordering.{Ordering}
use Rattle.std.specs.declared.cmp.Ordering.TheVariants.{Less, Equal, Greater}
use Rattle.std.proofs.lemmas.List.Sorted.{Contains-permutation, IsPermutation-sym}
use Rattle.sat_label.specs.Members.{In}
use Rattle.sat_stitch.specs.Places.{Session}
use Rattle.sat_session.specs.declared.noted.Noted.{Noted}
use Rattle.sat_session.specs.Owned.{Owned}
use Rattle.sat_session.specs.Sessions.{SameNotes}
use Rattle.sat_parts_notes.specs.Filing.{rank_of, key_of, comes_before, Ascending}
use Rattle.sat_parts_notes.proofs.Keys.{not-through}

abbrev pub key_cmp : ℕ × ℕ → ℕ × ℕ → Ordering
key_cmp x y = ordering_then (nat_cmp x.0 y.0) (nat_cmp x.1 y.1)

lt-cases : (s e u f : Bool) → is_lt (ordering_then (cond s Less (cond e Equal Greater)) (cond u Less (cond f Equal Greater))) ≡ (s || (e && u))
lt-cases true e u f = refl
lt-cases false true true f = refl
lt-cases false true false true = refl
lt-cases false true false false = refl
lt-cases false false u f = refl

step-up : (k : ℕ) → suc (k + 1) ≡ suc k + 1
step-up k = omega arith

abbrev less : Owned → Owned → Bool
less x y = is_lt (key_cmp (key_of x) (key_of y))

less-is : (x y : Owned) → less x y ≡ comes_before x y
less-is x y = lt-cases (nat_lt (rank_of x.0) (rank_of y.0)) (rank_of x.0 == rank_of y.0) (nat_lt x.1.lamport y.1.lamport) (x.1.lamport == y.1.lamport)

tail-sorted : (x : Owned) (ys : List Owned) → IsSortedBy less (x ∷ ys) → IsSortedBy less ys
tail-sorted x ys s k d l h = subst (λ (n : ℕ). less (slice_index_or (x ∷ ys) n d) (slice_index_or ys k d) ≡ false) (sym (step-up k)) (s (suc k) d (omega arith) (omega arith))

pub ascends : (xs : List Owned) → IsSortedByKey key_of key_cmp xs → Ascending xs
ascends [] s = tt
ascends (x ∷ []) s = (tt, λ y i. absurd i)
ascends (x ∷ y ∷ zs) s =
    let r : Ascending (y ∷ zs) = ascends (y ∷ zs) (tail-sorted x (y ∷ zs) s) in
    let e : comes_before y x ≡ false = sym (less-is y x) ∙ s 0 x (omega arith) (omega arith) in (
      r,
      λ z i. elim i [
        | inl w ↦ subst (λ (z : Owned). comes_before z x ≡ false) w e
        | inr j ↦ not-through (rank_of x.0) x.1.lamport (rank_of y.0) y.1.lamport (rank_of z.0) z.1.lamport e (r.1 z j)
      ],
    )

-- ---- members

in-contained : (xs : List Owned) (x : Owned) (k : ℕ) → k < length xs → slice_index_or xs k x ≡ x → In xs x
in-contained [] x k lt e = absurd (omega arith)
in-contained (y ∷ xs) x zero lt e = inl e
in-contained (y ∷ xs) x (suc k) lt e = inr (in-contained xs x k (let h : k < length xs = omega arith in h) e)

contained : (xs : List Owned) (x : Owned) → In xs x → Contains xs x
contained [] x i = absurd i
contained (y ∷ xs) x (inl e) = (0, omega arith, e)
contained (y ∷ xs) x (inr i) = (let w : Contains xs x = contained xs x i in (suc w.0, (let h : w.0 < length xs = w.1 in omega arith), w.2))

moved : (xs ys : List Owned) (x : Owned) → IsPermutation xs ys → In xs x → In ys x
moved xs ys x p i = (let w : Contains ys x = Contains-permutation xs ys x p (contained xs x i) in in-contained ys x w.0 w.1 w.2)

pub same-members : (xs ys : List Owned) → IsPermutation xs ys → SameNotes xs ys
same-members xs ys p s n = (moved xs ys (s, n) p, moved ys xs (s, n) (IsPermutation-sym xs ys p))
