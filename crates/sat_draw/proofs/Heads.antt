-- One column, serializer or seat more.
use Rattle.std.proofs.Common.{◌≡◌, ℕ, ◌+◌, ◌-◌, ◌*◌, List, [], ◌∷◌, ◌++◌, sym, ap, ◌∙◌, add-one}
use Rattle.std.proofs.lemmas.List.{append-nil, append_assoc}
use Rattle.sat_label.specs.declared.node.NodeId.TheVariants.{Site}
use Rattle.sat_label.specs.Text.{node_text}
use Rattle.sat_tree.specs.Shape.{TreeShape}
use Rattle.sat_act.specs.Deployed.{Deployed}
use Rattle.sat_draw.specs.declared.element.Element.{Element}
use Rattle.sat_draw.specs.declared.geometry.TheConstants.{NAMES_APART}
use Rattle.sat_draw.specs.Columns.{site_column}
use Rattle.sat_draw.specs.Head.{name_at, names, lane, names_for, first_clients, site_lane, site_lanes, serializer_elements, serializers_elements, seat_elements, seats_elements}

-- what is added behind a part of a list
pub one-more : (old mid new part piece whole : List Element) → new ≡ mid ++ piece → mid ≡ old ++ part → whole ≡ part ++ piece → new ≡ old ++ whole
one-more old mid new part piece whole added so-far next =
    added ∙ ap (λ (x : List Element). x ++ piece) so-far ∙ append_assoc old part piece ∙ ap (λ (x : List Element). old ++ x) (sym next)

pub no_lanes : (old : List Element) (d : Deployed) (top bottom : ℕ) → old ≡ old ++ site_lanes d top bottom 0
unfolding site_lanes
no_lanes old d top bottom = sym (append-nil old)

next-lane : (d : Deployed) (top bottom i : ℕ) → site_lanes d top bottom (i + 1) ≡ site_lanes d top bottom i ++ site_lane d top bottom i
unfolding site_lanes
next-lane d top bottom i = ap (site_lanes d top bottom) (add-one i)

pub more_lanes : (old mid new : List Element) (d : Deployed) (top bottom i : ℕ) → new ≡ mid ++ site_lane d top bottom i → mid ≡ old ++ site_lanes d top bottom i → new ≡ old ++ site_lanes d top bottom (i + 1)
more_lanes old mid new d top bottom i added so-far = one-more old mid new _ _ _ added so-far (next-lane d top bottom i)

pub no_names : (old : List Element) (top column : ℕ) (name : List ℕ) → old ≡ old ++ names top column name 0
unfolding names
no_names old top column name = sym (append-nil old)

next-name : (top column : ℕ) (name : List ℕ) (n : ℕ) → names top column name (n + 1) ≡ names top column name n ++ name_at column (top + (n + 1) * NAMES_APART - 8) name ∷ []
unfolding names
next-name top column name n = ap (names top column name) (add-one n)

pub more_names : (old mid new : List Element) (top column : ℕ) (name : List ℕ) (n : ℕ) (x : Element) → new ≡ mid ++ x ∷ [] → x ≡ name_at column (top + (n + 1) * NAMES_APART - 8) name → mid ≡ old ++ names top column name n → new ≡ old ++ names top column name (n + 1)
more_names old mid new top column name n x added is so-far =
    one-more old mid new _ (name_at column (top + (n + 1) * NAMES_APART - 8) name ∷ []) _ (added ∙ ap (λ (y : Element). mid ++ y ∷ []) is) so-far (next-name top column name n)

pub no_serializers : (old : List Element) (d : Deployed) (top bottom epoch y : ℕ) (tree : TreeShape) → old ≡ old ++ serializers_elements d top bottom epoch y tree 0
unfolding serializers_elements
no_serializers old d top bottom epoch y tree = sym (append-nil old)

next-serializer : (d : Deployed) (top bottom epoch y : ℕ) (tree : TreeShape) (z : ℕ) → serializers_elements d top bottom epoch y tree (z + 1) ≡ serializers_elements d top bottom epoch y tree z ++ serializer_elements d top bottom epoch y tree z
unfolding serializers_elements
next-serializer d top bottom epoch y tree z = ap (serializers_elements d top bottom epoch y tree) (add-one z)

pub more_serializers : (old mid new : List Element) (d : Deployed) (top bottom epoch y : ℕ) (tree : TreeShape) (z : ℕ) → new ≡ mid ++ serializer_elements d top bottom epoch y tree z → mid ≡ old ++ serializers_elements d top bottom epoch y tree z → new ≡ old ++ serializers_elements d top bottom epoch y tree (z + 1)
more_serializers old mid new d top bottom epoch y tree z added so-far =
    one-more old mid new _ _ _ added so-far (next-serializer d top bottom epoch y tree z)

pub no_seats : (old : List Element) (d : Deployed) (epoch y : ℕ) (tree : TreeShape) → old ≡ old ++ seats_elements d epoch y tree 0
unfolding seats_elements
no_seats old d epoch y tree = sym (append-nil old)

next-seat : (d : Deployed) (epoch y : ℕ) (tree : TreeShape) (i : ℕ) → seats_elements d epoch y tree (i + 1) ≡ seats_elements d epoch y tree i ++ seat_elements d epoch y tree i
unfolding seats_elements
next-seat d epoch y tree i = ap (seats_elements d epoch y tree) (add-one i)

pub more_seats : (old mid new : List Element) (d : Deployed) (epoch y : ℕ) (tree : TreeShape) (i : ℕ) → new ≡ mid ++ seat_elements d epoch y tree i → mid ≡ old ++ seats_elements d epoch y tree i → new ≡ old ++ seats_elements d epoch y tree (i + 1)
more_seats old mid new d epoch y tree i added so-far =
    one-more old mid new _ _ _ added so-far (next-seat d epoch y tree i)
