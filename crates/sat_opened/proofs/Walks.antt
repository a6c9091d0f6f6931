-- Journals, entry by entry, with what was kept before each.
use Rattle.std.proofs.Common.{◌≡◌, ◌⊎◌, ◌<◌, ◌≤◌, ℕ, List, [], ◌∷◌, ◌++◌, Option, refl, sym, ◌∙◌, subst, append_assoc, arith, inl, inr}
use Rattle.std.proofs.lemmas.List.{append-nil}
use Rattle.sat_label.specs.Members.{In}
use Rattle.sat_node.specs.declared.kept.Kept.{Kept as Line}
use Rattle.sat_node.specs.Meanings.{Rises}
use Rattle.sat_stitch.specs.Kept.{Kept, Each, Rising, numbered, marks}
use Rattle.sat_opened.specs.Keeping.{behind, newest}

module _ {X : Type 0} (of : X → Kept) where
  -- of each entry, with what was kept before it
  abbrev pub Along : (List Kept → X → Type 0) → List Kept → List X → Type 0
  Along P ks [] = Unit {0}
  Along P ks (x ∷ xs) = P ks x × Along P (of x ∷ ks) xs

  pub along-more : (P Q : List Kept → X → Type 0) (ks : List Kept) (xs : List X) → ((b : List Kept) (x : X) → In xs x → P b x → Q b x) → Along P ks xs → Along Q ks xs
  along-more P Q ks [] f a = tt
  along-more P Q ks (x ∷ xs) f a = (f ks x (inl refl) a.0, along-more P Q (of x ∷ ks) xs (λ b y i. f b y (inr i)) a.1)

  pub each-behind : (P : List Kept → Kept → Type 0) (Q : List Kept → X → Type 0) (ks : List Kept) (xs : List X) → ((b : List Kept) (x : X) → In xs x → Q b x → P b (of x)) → Each P ks → Along Q ks xs → Each P (behind of ks xs)
  each-behind P Q ks [] f e a = e
  each-behind P Q ks (x ∷ xs) f e a = each-behind P Q (of x ∷ ks) xs (λ b y i. f b y (inr i)) (e, f ks x (inl refl) a.0) a.1

  -- an entry that was kept comes from one of the journal
  abbrev pub Comes : (List Kept → X → Type 0) → List X → Kept → Type 0
  Comes P xs k = (b : List Kept) × (x : X) × In xs x × P b x × (of x ≡ k)

  first-comes : (P : List Kept → X → Type 0) (x : X) (xs : List X) (ks : List Kept) (k : Kept) → P ks x → In (of x ∷ ks) k → In ks k ⊎ Comes P (x ∷ xs) k
  first-comes P x xs ks k p (inl e) = inr (ks, x, inl refl, p, e)
  first-comes P x xs ks k p (inr i) = inl i

  later-comes : (P : List Kept → X → Type 0) (x : X) (xs : List X) (k : Kept) → Comes P xs k → Comes P (x ∷ xs) k
  later-comes P x xs k c = (c.0, c.1, inr c.2, c.3, c.4)

  pub in-behind : (P : List Kept → X → Type 0) (ks : List Kept) (xs : List X) (k : Kept) → Along P ks xs → In (behind of ks xs) k → In ks k ⊎ Comes P xs k
  in-behind P ks [] k a i = inl i
  in-behind P ks (x ∷ xs) k a i = elim (in-behind P (of x ∷ ks) xs k a.1 i) [
    | inl j ↦ first-comes P x xs ks k a.0 j
    | inr c ↦ inr (later-comes P x xs k c)
  ]

  pub in-newest : (P : List Kept → X → Type 0) (xs : List X) (k : Kept) → Along P [] xs → In (newest of xs) k → Comes P xs k
  in-newest P xs k a i = elim (in-behind P [] xs k a i) [ inl j ↦ absurd j | inr c ↦ c ]

-- numbers that rise along a journal rise in its kept list
module _ {I A : Type 0} (of : Line I A → Kept) (same : (x : Line I A) → (of x).number ≡ x.lamport) where
  up-to : (ks : List Kept) (n m : ℕ) → n < m → ((k : Kept) → In ks k → k.number ≤ n) → (k : Kept) → In ks k → k.number < m
  up-to ks n m lt le k i = (let w : k.number ≤ n = le k i in omega arith)

  self-up : (a b : ℕ) → a ≡ b → a ≤ b
  self-up a b e = omega arith

  less-up : (a b : ℕ) → a < b → a ≤ b
  less-up a b e = omega arith

  pub rising-behind : (n : ℕ) (ks : List Kept) (xs : List (Line I A)) → Rising ks → ((k : Kept) → In ks k → k.number ≤ n) → Rises n xs → Rising (behind of ks xs)
  rising-behind n ks [] r le up = r
  rising-behind n ks (x ∷ xs) r le up = rising-behind x.lamport (of x ∷ ks) xs (r, below) bound up.1
    where
      below : (k : Kept) → In ks k → k.number < (of x).number
      below k i = subst (λ (m : ℕ). k.number < m) (sym (same x)) (up-to ks n x.lamport up.0 le k i)

      bound : (k : Kept) → In (of x ∷ ks) k → k.number ≤ x.lamport
      bound k (inl e) = subst (λ (z : Kept). z.number ≤ x.lamport) e (self-up (of x).number x.lamport (same x))
      bound k (inr i) = less-up k.number x.lamport (up-to ks n x.lamport up.0 le k i)

  pub rising-newest : (xs : List (Line I A)) → Rises 0 xs → Rising (newest of xs)
  rising-newest xs up = rising-behind 0 [] xs tt (λ k i. absurd i) up

-- what the entries of a journal give, each with its number
module _ {X Y : Type 0} (of : X → Kept) (f : List Kept → Kept → Option Y) where
  abbrev pub later : List Kept → List X → List (ℕ × Y)
  later ks [] = []
  later ks (x ∷ xs) = numbered (of x).number (f ks (of x)) ++ later (of x ∷ ks) xs

  pub marks-behind : (ks : List Kept) (xs : List X) → marks f (behind of ks xs) ≡ marks f ks ++ later ks xs
  marks-behind ks [] = sym (append-nil (marks f ks))
  marks-behind ks (x ∷ xs) = marks-behind (of x ∷ ks) xs ∙ append_assoc (marks f ks) (numbered (of x).number (f ks (of x))) (later (of x ∷ ks) xs)

  pub marks-newest : (xs : List X) → marks f (newest of xs) ≡ later [] xs
  marks-newest xs = marks-behind [] xs
