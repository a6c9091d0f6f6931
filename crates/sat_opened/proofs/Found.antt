-- Nodes by their names.
use Rattle.std.proofs.Common.{◌≡◌, ◌⊎◌, ℕ, zero, suc, Bool, true, false, ◌==◌, List, [], ◌∷◌, map, Some, slice_get, if◌then◌else◌, refl, sym, ap, ◌∙◌, subst, inl, inr}
use Rattle.std.proofs.lemmas.Bool.{and_from, and_parts}
use Rattle.sat_label.proofs.Truth.{same-number}
use Rattle.sat_label.specs.Members.{In}
use Rattle.sat_label.specs.Order.{name_eq}
use Rattle.sat_label.specs.declared.node.NodeName.{NodeName}
use Rattle.sat_label.specs.declared.node.NodeName.TheVariants as named
use Rattle.sat_laws.proofs.Labels.{some_is}
use Rattle.sat_node.specs.Links.{HeldSeen}
use Rattle.sat_stitch.specs.Stitch.{Distinct}
use Rattle.sat_opened.specs.Opened.{name_in, entries_at}
use Rattle.sat_opened.proofs.Numbers.{same-is}

name-self : (n : NodeName) → name_eq n n ≡ true
name-self (named.Site i) = same-number i
name-self (named.Serializer e z) = and_from (e == e) (z == z) (same-number e) (same-number z)
name-self (named.Gear i g) = and_from (i == i) (g == g) (same-number i) (same-number g)

name-is : (m n : NodeName) → name_eq m n ≡ true → m ≡ n
name-is (named.Site i) (named.Site k) e = ap named.Site (same-is i k e)
name-is (named.Serializer e y) (named.Serializer f z) w =
    let k = and_parts (e == f) (y == z) w in
    ap (λ (n : ℕ). named.Serializer n y) (same-is e f k.0) ∙ ap (named.Serializer f) (same-is y z k.1)
name-is (named.Gear i g) (named.Gear k h) w =
    let s = and_parts (i == k) (g == h) w in
    ap (λ (n : ℕ). named.Gear n g) (same-is i k s.0) ∙ ap (named.Gear k) (same-is g h s.1)
name-is _ _ e = absurd (cc)

-- a node of this name
pub record Found {M I A : Type 0} (name : NodeName) (hs : List (HeldSeen M I A)) : Type 0 where
  pub index : ℕ
  pub held : HeldSeen M I A
  pub there : slice_get hs index ≡ Some held
  pub is_named : held.node.name ≡ name
  pub entries_are : entries_at name hs ≡ held.node.entries

module _ {M I A : Type 0} (name : NodeName) where
  entries-first : (h : HeldSeen M I A) (hs : List (HeldSeen M I A)) → name_eq h.node.name name ≡ true → entries_at name (h ∷ hs) ≡ h.node.entries
  entries-first h hs e = ap (λ (b : Bool). if b then h.node.entries else entries_at name hs) e

  entries-later : (h : HeldSeen M I A) (hs : List (HeldSeen M I A)) → name_eq h.node.name name ≡ false → entries_at name (h ∷ hs) ≡ entries_at name hs
  entries-later h hs e = ap (λ (b : Bool). if b then h.node.entries else entries_at name hs) e

  first : (h : HeldSeen M I A) (hs : List (HeldSeen M I A)) → name_eq h.node.name name ≡ true → Found name (h ∷ hs)
  first h hs e = record { index = 0; held = h; there = refl; is_named = name-is h.node.name name e; entries_are = entries-first h hs e }

  next : (h : HeldSeen M I A) (hs : List (HeldSeen M I A)) → name_eq h.node.name name ≡ false → Found name hs → Found name (h ∷ hs)
  next h hs e f = record { index = suc f.index; held = f.held; there = f.there; is_named = f.is_named; entries_are = entries-later h hs e ∙ f.entries_are }

  -- there is one, or nothing was kept there
  pub look-up : (hs : List (HeldSeen M I A)) → Found name hs ⊎ (entries_at name hs ≡ [])
  look-up [] = inr refl
  look-up (h ∷ hs) = go (name_eq h.node.name name) refl (look-up hs)
    where
      go : (b : Bool) → name_eq h.node.name name ≡ b → Found name hs ⊎ (entries_at name hs ≡ []) → Found name (h ∷ hs) ⊎ (entries_at name (h ∷ hs) ≡ [])
      go true e rest = inl (first h hs e)
      go false e (inl f) = inl (next h hs e f)
      go false e (inr w) = inr (entries-later h hs e ∙ w)

  -- each name is that of a node
  pub find : (hs : List (HeldSeen M I A)) → In (map name_in hs) name → Found name hs
  find [] i = absurd i
  find (h ∷ hs) (inl e) = first h hs (ap (λ (n : NodeName). name_eq n name) e ∙ name-self name)
  find (h ∷ hs) (inr i) = go (name_eq h.node.name name) refl (find hs i)
    where
      go : (b : Bool) → name_eq h.node.name name ≡ b → Found name hs → Found name (h ∷ hs)
      go true e f = first h hs e
      go false e f = next h hs e f

  in-names : (hs : List (HeldSeen M I A)) (n : ℕ) (h : HeldSeen M I A) → slice_get hs n ≡ Some h → In (map name_in hs) h.node.name
  in-names [] n h e = absurd (cc)
  in-names (x ∷ hs) zero h e = inl (let same : x ≡ h = cc in ap (λ (y : HeldSeen M I A). y.node.name) same)
  in-names (x ∷ hs) (suc n) h e = inr (in-names hs n h e)

  pub found-named : (hs : List (HeldSeen M I A)) → Found name hs → In (map name_in hs) name
  found-named hs f = subst (λ (n : NodeName). In (map name_in hs) n) f.is_named (in-names hs f.index f.held f.there)

  -- a node whose name no other has
  differs : (h : HeldSeen M I A) (hs : List (HeldSeen M I A)) → (In (map name_in hs) h.node.name → ⊥) → In (map name_in hs) name → name_eq h.node.name name ≡ false
  differs h hs alone i = go (name_eq h.node.name name) refl
    where
      go : (b : Bool) → name_eq h.node.name name ≡ b → b ≡ false
      go true e = absurd (alone (subst (λ (n : NodeName). In (map name_in hs) n) (sym (name-is h.node.name name e)) i))
      go false e = refl

  pub entries-of : (hs : List (HeldSeen M I A)) → Distinct (map name_in hs) → (n : ℕ) (h : HeldSeen M I A) → slice_get hs n ≡ Some h → h.node.name ≡ name → entries_at name hs ≡ h.node.entries
  entries-of [] apart n h e w = absurd (cc)
  entries-of (x ∷ hs) apart zero h e w =
      let same : x ≡ h = some_is x h e in
      entries-first x hs (ap (λ (n : NodeName). name_eq n name) (ap (λ (y : HeldSeen M I A). y.node.name) same ∙ w) ∙ name-self name) ∙ ap (λ (y : HeldSeen M I A). y.node.entries) same
  entries-of (x ∷ hs) apart (suc n) h e w =
      entries-later x hs (differs x hs apart.1 (subst (λ (m : NodeName). In (map name_in hs) m) w (in-names hs n h e))) ∙ entries-of hs apart.0 n h e w

-- nodes of two names stand at two places
pub two-places : {M I A : Type 0} (m n : NodeName) (hs : List (HeldSeen M I A)) (f : Found m hs) (g : Found n hs) → (m ≡ n → ⊥) → f.index ≡ g.index → ⊥
two-places {M} {I} {A} m n hs f g apart e =
    let same : Some f.held ≡ Some g.held = sym f.there ∙ (ap (slice_get hs) e ∙ g.there) in
    let one : f.held ≡ g.held = some_is f.held g.held same in
    apart (sym f.is_named ∙ (ap (λ (h : HeldSeen M I A). h.node.name) one ∙ g.is_named))
