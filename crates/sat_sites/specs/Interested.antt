-- Which sites keep each item, and which sites a label is for.
use Rattle.std.specs.Prelude.{ℕ, ◌≡◌, ◌<◌, ◌≤◌, Bool, true, false, ◌&&◌, ◌||◌, not, ◌==◌, nat_lt, List, [], ◌∷◌, length}
use Rattle.std.specs.Prelude.{Option, Some, None, slice_get, position}
use Rattle.std.specs.List.{list_all}
use Rattle.sat_label.specs.declared.site_set.SiteSet.{SiteSet}
use Rattle.sat_label.specs.declared.label.Label.{Label}
use Rattle.sat_label.specs.declared.label.Kind.{Kind}
use Rattle.sat_label.specs.declared.label.Kind.TheVariants.{Update, Move, Pulse, Close}
use Rattle.sat_label.specs.Grouped.{list_of}
use Rattle.sat_label.specs.Words.{are_sites, bit}

-- the number of sites, and the sites that keep each item
pub record Interested : Type 0 where
  pub sites : ℕ
  pub replicas : List SiteSet

-- the first item whose set of sites is empty, or has a site that is none
abbrev pub first_bad : ℕ → List SiteSet → Option ℕ
first_bad sites sets = position (λ set. not (are_sites sites set.bits)) sets

-- the sites that keep an item
abbrev pub keeps : Interested → ℕ → ℕ → Bool
keeps a x k = elim (slice_get a.replicas x) [ None ↦ false | Some set ↦ bit set.bits k ]

-- the sites that keep one of some items
abbrev pub keeps_one : Interested → List ℕ → ℕ → Bool
keeps_one a [] k = false
keeps_one a (x ∷ xs) k = keeps a x k || keeps_one a xs k

-- whether a label is for a site
unfoldable pub is_for : Interested → Label → ℕ → Bool
is_for a l k =
    elim l.kind [
      | Update items ↦ keeps_one a (list_of items) k && not (k == l.point.site)
      | Move j ↦ k == j
      | Pulse ↦ nat_lt k a.sites && not (k == l.point.site)
      | Close e ↦ nat_lt k a.sites && not (k == l.point.site)
    ]

-- each item is kept somewhere, and at sites below the number alone
pub record IsInterest (a : Interested) : Type 0 where
  pub few : a.sites ≤ 64
  pub kept : (x : ℕ) (set : SiteSet) → slice_get a.replicas x ≡ Some set → (k : ℕ) × (bit set.bits k ≡ true)
  pub within : (x k : ℕ) (set : SiteSet) → slice_get a.replicas x ≡ Some set → bit set.bits k ≡ true → k < a.sites

-- each number is below n
abbrev pub AreBelow : ℕ → List ℕ → Type 0
AreBelow n [] = Unit {0}
AreBelow n (x ∷ xs) = (x < n) × AreBelow n xs

-- the same as a test
abbrev pub are_below : ℕ → List ℕ → Bool
are_below n xs = list_all (λ x. nat_lt x n) xs

-- a label's own site and the site of a Move are below the number of sites, and the items of an Update below that of the
-- items
abbrev pub IsKindOf : Interested → Kind → Type 0
IsKindOf a (Update items) = AreBelow (length a.replicas) (list_of items)
IsKindOf a (Move j) = j < a.sites
IsKindOf a _ = Unit {0}

pub record IsLabelOf (a : Interested) (l : Label) : Type 0 where
  pub own : l.point.site < a.sites
  pub kind : IsKindOf a l.kind
