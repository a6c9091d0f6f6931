-- Each thin line stands for what a settle moved, and each move has its line.
use Rattle.std.proofs.Common.{◌≡◌, ◌⊎◌, ℕ, Bool, true, false, List, [], ◌∷◌, ◌++◌, map, refl, sym, ap, subst, ◌∙◌, inl, inr}
use Rattle.std.specs.Prelude.{nat_lt, if◌then◌else◌}
use Rattle.std.specs.List.{flat_map}
use Rattle.sat_label.specs.Members.{In}
use Rattle.sat_label.proofs.Members.{In-left, In-right, In-parts}
use Rattle.sat_act.specs.Deployed.{Deployed}
use Rattle.sat_draw.specs.declared.element.Ink.{Ink}
use Rattle.sat_draw.specs.declared.element.Ink.TheVariants as ink
use Rattle.sat_draw.specs.declared.element.Spot.{Spot}
use Rattle.sat_draw.specs.declared.element.Element.{Element}
use Rattle.sat_draw.specs.declared.element.Element.TheVariants.{Small, Word}
use Rattle.sat_draw.specs.declared.trail.Trail.{Trail}
use Rattle.sat_draw.specs.declared.moved.Haul.{Haul}
use Rattle.sat_draw.specs.declared.moved.Moved.{Moved}
use Rattle.sat_draw.specs.declared.geometry.TheConstants.{SMALL_DROP, MOST_SMALL}
use Rattle.sat_draw.specs.Columns.{column_x}
use Rattle.sat_draw.specs.Rows.{spot_at}
use Rattle.sat_draw.specs.Moved.{hauls, node_column, small_y, small, smalls_of, more_word, moved_at, smalls, IsMoved, is_small, SmallsAreTold}

-- ---- members of lists that are made of others

from-flat : {X Y : Type 0} (f : X → List Y) (xs : List X) (y : Y) → In (flat_map f xs) y → (x : X) × In xs x × In (f x) y
from-flat f [] y within = absurd within
from-flat f (z ∷ xs) y within =
    elim (In-parts (f z) (flat_map f xs) y within) [
      | inl first ↦ (z, inl refl, first)
      | inr rest ↦ further (from-flat f xs y rest)
    ]
  where
    further : (x : _) × In xs x × In (f x) y → (x : _) × In (z ∷ xs) x × In (f x) y
    further p = (p.0, inr p.1, p.2)

in-flat : {X Y : Type 0} (f : X → List Y) (xs : List X) (x : X) (y : Y) → In xs x → In (f x) y → In (flat_map f xs) y
in-flat f [] x y within found = absurd within
in-flat f (z ∷ xs) x y (inl e) found = In-left (f z) (flat_map f xs) y (subst (λ (w : _). In (f w) y) (sym e) found)
in-flat f (z ∷ xs) x y (inr rest) found = In-right (f z) (flat_map f xs) y (in-flat f xs x y rest found)

from-map : {X Y : Type 0} (f : X → Y) (xs : List X) (y : Y) → In (map f xs) y → (x : X) × In xs x × (f x ≡ y)
from-map f [] y within = absurd within
from-map f (z ∷ xs) y (inl e) = (z, inl refl, e)
from-map f (z ∷ xs) y (inr rest) = let p = from-map f xs y rest in (p.0, inr p.1, p.2)

in-map : {X Y : Type 0} (f : X → Y) (xs : List X) (x : X) → In xs x → In (map f xs) (f x)
in-map f [] x within = absurd within
in-map f (z ∷ xs) x (inl e) = inl (ap f e)
in-map f (z ∷ xs) x (inr rest) = inr (in-map f xs x rest)

-- ---- the parts of a thin line

abbrev small-ink : Element → Ink
small-ink (Small i t a b) = i
small-ink _ = ink.Lane

abbrev small-trail : Trail → Element → Trail
small-trail s (Small i t a b) = t
small-trail s _ = s

abbrev small-from : Spot → Element → Spot
small-from s (Small i t a b) = a
small-from s _ = s

abbrev small-to : Spot → Element → Spot
small-to s (Small i t a b) = b
small-to s _ = s

-- ---- each is told

one-moved : (d : Deployed) (ms : List Moved) (m : Moved) (i : Ink) (t : Trail) (a b : Spot) → In ms m → In (moved_at d m) (Small i t a b) → IsMoved d ms i t a b
one-moved d ms m i t a b among within = go (nat_lt m.place MOST_SMALL) refl within
  where
    go : (early : Bool) → nat_lt m.place MOST_SMALL ≡ early → In (if early then smalls_of d m else more_word d m ∷ []) (Small i t a b) → IsMoved d ms i t a b
    go true e found =
        let p : (k : Haul) × In (hauls m.entry.act m.entry.answer) k × (small d (small_y d m) k ≡ Small i t a b) = from-map (small d (small_y d m)) (hauls m.entry.act m.entry.answer) (Small i t a b) found in
        record {
          moved = m;
          among = among;
          early = e;
          what = p.0;
          moved_it = p.1;
          ink_is = sym (ap small-ink p.2);
          trail_is = sym (ap (small-trail t) p.2);
          leaves = sym (ap (small-from a) p.2);
          comes = sym (ap (small-to b) p.2);
        }
    go false e (inl other) = absurd (cc)
    go false e (inr none) = absurd none

each-moved : (d : Deployed) (ms : List Moved) (i : Ink) (t : Trail) (a b : Spot) → In (smalls d ms) (Small i t a b) → IsMoved d ms i t a b
each-moved d ms i t a b within =
    let p : (m : Moved) × In ms m × In (moved_at d m) (Small i t a b) = from-flat (moved_at d) ms (Small i t a b) within in
    one-moved d ms p.0 i t a b p.1 p.2

-- ---- and all are there

drawn-early : (d : Deployed) (m : Moved) (k : Haul) (early : Bool) → early ≡ true → In (hauls m.entry.act m.entry.answer) k → In (if early then smalls_of d m else more_word d m ∷ []) (small d (small_y d m) k)
drawn-early d m k true e found = in-map (small d (small_y d m)) (hauls m.entry.act m.entry.answer) k found
drawn-early d m k false e found = absurd (cc)

all-moved : (d : Deployed) (ms : List Moved) (m : Moved) (k : Haul) → In ms m → nat_lt m.place MOST_SMALL ≡ true → In (hauls m.entry.act m.entry.answer) k → In (smalls d ms) (small d (small_y d m) k)
all-moved d ms m k among early found = in-flat (moved_at d) ms m (small d (small_y d m) k) among (drawn-early d m k (nat_lt m.place MOST_SMALL) early found)

other-of : (d : Deployed) (m : Moved) (x : Element) (early : Bool) → In (if early then smalls_of d m else more_word d m ∷ []) x → is_small x ≡ true
other-of d m x true found =
    let p : (k : Haul) × In (hauls m.entry.act m.entry.answer) k × (small d (small_y d m) k ≡ x) = from-map (small d (small_y d m)) (hauls m.entry.act m.entry.answer) x found in
    ap is_small (sym p.2)
other-of d m x false (inl e) = ap is_small (sym e)
other-of d m x false (inr none) = absurd none

no-others : (d : Deployed) (ms : List Moved) (x : Element) → In (smalls d ms) x → is_small x ≡ true
no-others d ms x within =
    let p : (m : Moved) × In ms m × In (moved_at d m) x = from-flat (moved_at d) ms x within in
    other-of d p.0 x (nat_lt p.0.place MOST_SMALL) p.2

pub smalls_told : (d : Deployed) (ms : List Moved) → SmallsAreTold d ms
smalls_told d ms = record { each = each-moved d ms; all = all-moved d ms; others = no-others d ms }
