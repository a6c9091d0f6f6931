-- Two lists of notes, in order, that begin alike: what the next notes of both tell.
use Rattle.std.proofs.Common.{◌≡◌, ◌⊎◌, ◌≤◌, ℕ, ◌+◌, zero, suc, Bool, true, false, List, [], ◌∷◌, ◌++◌, take, drop, Option, Some, None, slice_get, refl, sym, ap, ◌∙◌, subst, arith, inl, inr}
use Rattle.sat_label.specs.Members.{In}
use Rattle.sat_label.proofs.Members.{In-left, In-right, In-parts, In-get}
use Rattle.sat_laws.proofs.Labels.{some_is}
use Rattle.sat_stitch.specs.Places.{Session}
use Rattle.sat_session.specs.declared.noted.Noted.{Noted}
use Rattle.sat_session.specs.Owned.{Owned}
use Rattle.sat_session.specs.Sessions.{SameNotes}
use Rattle.sat_parts_notes.specs.Filing.{comes_before, Ascending, IsUnderSame, AllBefore, AllBehind}
use Rattle.sat_parts_notes.specs.Differences.{IsKeptUnder, IsDifference}
use Rattle.sat_parts_notes.specs.declared.compare.Difference.{Difference}
use Rattle.sat_parts_notes.specs.Comparing.{IsCompared, IsPair}
use Rattle.std.proofs.lemmas.List.{take-append-drop}
use Rattle.sat_parts_notes.proofs.Keys.{not-before-same, before-from-left, before-from-right, ascending-across}

-- ---- lists at a place

pub cut-at : {X : Type 0} (xs : List X) (n : ℕ) (x : X) → slice_get xs n ≡ Some x → xs ≡ take n xs ++ x ∷ drop (suc n) xs
cut-at [] n x e = absurd (cc)
cut-at (y ∷ xs) zero x e = ap (λ z. z ∷ xs) (some_is y x e)
cut-at (y ∷ xs) (suc n) x e = ap (λ zs. y ∷ zs) (cut-at xs n x e)

pub front-at : {X : Type 0} (xs : List X) (n : ℕ) (x : X) → slice_get xs n ≡ Some x → take (suc n) xs ≡ take n xs ++ x ∷ []
front-at [] n x e = absurd (cc)
front-at (y ∷ xs) zero x e = ap (λ z. z ∷ []) (some_is y x e)
front-at (y ∷ xs) (suc n) x e = ap (λ zs. y ∷ zs) (front-at xs n x e)

-- ---- a note that the others don't have

missing : (front back : List Owned) (a : Owned) → AllBefore front a → AllBehind back a → IsKeptUnder (front ++ back) a.0 a.1.lamport None
missing front back a f b n i e = elim (In-parts front back (a.0, n) i) [
  | inl j ↦ not-before-same (a.0, n) a (refl, e) (f (a.0, n) j)
  | inr j ↦ not-before-same a (a.0, n) (refl, sym e) (b (a.0, n) j)
]

no-some : (n : Noted) → Some n ≡ None → ⊥
no-some n e = cc

one-some : (m n : Noted) → Some m ≡ Some n → m ≡ n
one-some m n e = some_is m n e

-- nodes kept it, and the session nothing there
pub node-only : (nodes sessions front back : List Owned) (a : Owned) → In nodes a → sessions ≡ front ++ back → AllBefore front a → AllBehind back a → IsDifference nodes sessions (Some a.1) None
node-only nodes sessions front back a i e f b = record {
  owner = a.0;
  number = a.1.lamport;
  at_nodes = (i, refl);
  at_session = subst (λ (xs : List Owned). IsKeptUnder xs a.0 a.1.lamport None) (sym e) (missing front back a f b);
  apart = no-some a.1;
}

-- the session kept it, and nodes nothing there
pub session-only : (nodes sessions front back : List Owned) (b : Owned) → In sessions b → nodes ≡ front ++ back → AllBefore front b → AllBehind back b → IsDifference nodes sessions None (Some b.1)
session-only nodes sessions front back b i e f g = record {
  owner = b.0;
  number = b.1.lamport;
  at_nodes = subst (λ (xs : List Owned). IsKeptUnder xs b.0 b.1.lamport None) (sym e) (missing front back b f g);
  at_session = (i, refl);
  apart = λ w. no-some b.1 (sym w);
}

-- both kept something there, and not the same
pub two-kept : (nodes sessions : List Owned) (a b : Owned) → In nodes a → In sessions b → IsUnderSame a b → (a.1 ≡ b.1 → ⊥) → IsDifference nodes sessions (Some a.1) (Some b.1)
two-kept nodes sessions a b i j same ne = record {
  owner = a.0;
  number = a.1.lamport;
  at_nodes = (i, refl);
  at_session = (subst (λ (s : Session). In sessions (s, b.1)) (sym same.0) j, sym same.1);
  apart = λ w. ne (one-some a.1 b.1 w);
}

-- ---- the next notes of both

-- what stands from a place on is behind a note that comes before the first of it
pub behind-first : (xs : List Owned) (n : ℕ) (x a : Owned) → Ascending xs → slice_get xs n ≡ Some x → comes_before a x ≡ true → AllBehind (drop n xs) a
behind-first [] n x a asc e lt z i = absurd (cc)
behind-first (y ∷ xs) zero x a asc e lt z (inl w) = subst (λ (v : Owned). comes_before a v ≡ true) (sym (some_is y x e) ∙ w) lt
behind-first (y ∷ xs) zero x a asc e lt z (inr i) = before-from-right a x z lt (subst (λ (v : Owned). comes_before z v ≡ false) (some_is y x e) (asc.1 z i))
behind-first (y ∷ xs) (suc n) x a asc e lt z i = behind-first xs n x a asc.0 e lt z i

-- none of what stands in front of a place comes behind the note there
pub front-before : (xs : List Owned) (n : ℕ) (x : Owned) → Ascending xs → slice_get xs n ≡ Some x → (y : Owned) → In (take n xs) y → comes_before x y ≡ false
front-before xs n x asc e y i = ascending-across (take n xs) (x ∷ drop (suc n) xs) (subst Ascending (cut-at xs n x e) asc) y x i (inl refl)

-- where the last of these comes before a note, all do
pub last-before : (xs : List Owned) (n : ℕ) (p a : Owned) → Ascending xs → slice_get xs n ≡ Some p → comes_before p a ≡ true → AllBefore (take (suc n) xs) a
last-before xs n p a asc e lt y i = elim (In-parts (take n xs) (p ∷ []) y (subst (λ (zs : List Owned). In zs y) (front-at xs n p e) i)) [
  | inl j ↦ before-from-left y p a (front-before xs n p asc e y j) lt
  | inr j ↦ elim j [ inl w ↦ subst (λ (v : Owned). comes_before v a ≡ true) w lt | inr z ↦ absurd z ]
]

-- ---- lists with the same members

pub same-is : (xs ys : List Owned) → xs ≡ ys → SameNotes xs ys
same-is xs ys e s n = (subst (λ (zs : List Owned). In zs (s, n)) e, subst (λ (zs : List Owned). In zs (s, n)) (sym e))

same-through : (a b c d : List Owned) → SameNotes a b → SameNotes c d → SameNotes b d → SameNotes a c
same-through a b c d f g h s n = (λ i. (g s n).1 ((h s n).0 ((f s n).0 i)), λ i. (f s n).1 ((h s n).1 ((g s n).0 i)))

kept-moves : (a b : List Owned) → SameNotes a b → (s : Session) (number : ℕ) (o : Option Noted) → IsKeptUnder b s number o → IsKeptUnder a s number o
kept-moves a b f s number None k = λ n i e. k n ((f s n).0 i) e
kept-moves a b f s number (Some n) k = ((f s n).1 k.0, k.1)

pub difference-moves : (a b c d : List Owned) (node session : Option Noted) → SameNotes a b → SameNotes c d → IsDifference b d node session → IsDifference a c node session
difference-moves a b c d node session f g h = record {
  owner = h.owner;
  number = h.number;
  at_nodes = kept-moves a b f h.owner h.number node h.at_nodes;
  at_session = kept-moves c d g h.owner h.number session h.at_session;
  apart = h.apart;
}

-- ---- what the calls ask

pub last-in : (xs : List Owned) (n m : ℕ) (p : Owned) → slice_get xs n ≡ Some p → suc n ≡ m → In (take m xs) p
last-in xs n m p e w = subst (λ (k : ℕ). In (take k xs) p) w (subst (λ (zs : List Owned). In zs p) (sym (front-at xs n p e)) (In-right (take n xs) (p ∷ []) p (inl refl)))

pub last-all : (xs : List Owned) (n m : ℕ) (p a : Owned) → Ascending xs → slice_get xs n ≡ Some p → suc n ≡ m → comes_before p a ≡ true → AllBefore (take m xs) a
last-all xs n m p a asc e w lt = subst (λ (k : ℕ). AllBefore (take k xs) a) w (last-before xs n p a asc e lt)

pub in-taken : (xs : List Owned) (n : ℕ) (x : Owned) → In (take n xs) x → In xs x
in-taken xs n x i = subst (λ (zs : List Owned). In zs x) (take-append-drop n xs) (In-left (take n xs) (drop n xs) x i)

one-more : (xs ys : List Owned) (n : ℕ) (a b : Owned) → slice_get xs n ≡ Some a → slice_get ys n ≡ Some b → a ≡ b → take n xs ≡ take n ys → take (suc n) xs ≡ take (suc n) ys
one-more xs ys n a b e w same t = front-at xs n a e ∙ ((λ i. t i ++ same i ∷ []) ∙ sym (front-at ys n b w))

one-up : (n : ℕ) → suc n ≡ n + 1
one-up n = omega arith

pub both-more : (xs ys : List Owned) (n : ℕ) (a b : Owned) → slice_get xs n ≡ Some a → slice_get ys n ≡ Some b → IsUnderSame a b → a.1 ≡ b.1 → take n xs ≡ take n ys → take (n + 1) xs ≡ take (n + 1) ys
both-more xs ys n a b e w same notes t = subst (λ (k : ℕ). take k xs ≡ take k ys) (one-up n) (one-more xs ys n a b e w (λ i. (same.0 i, notes i)) t)

pub pair-differs : (nodes sessions : List Owned) (a b : Owned) (f : Difference) → In nodes a → In sessions b → IsUnderSame a b → IsPair a b f → IsDifference nodes sessions f.node f.session
pair-differs nodes sessions a b f i j same p =
    subst (λ (o : Option Noted). IsDifference nodes sessions o f.session) (sym p.node_is)
    (subst (λ (o : Option Noted). IsDifference nodes sessions (Some a.1) o) (sym p.session_is) (two-kept nodes sessions a b i j same p.apart))

pub compared-moves : (a b c d : List Owned) (o : Option Difference) → SameNotes a b → SameNotes c d → IsCompared b d o → IsCompared a c o
compared-moves a b c d None f g h = same-through a b c d f g h
compared-moves a b c d (Some x) f g h = difference-moves a b c d x.node x.session f g h
