-- The order of points and labels, and tests of equality.
use Rattle.std.specs.Prelude.{ℕ, Bool, true, false, ◌&&◌, ◌||◌, ◌==◌, nat_lt, List, [], ◌∷◌, if◌then◌else◌}
use Rattle.sat_label.specs.declared.point.Point.{Point}
use Rattle.sat_label.specs.Grouped.{list_of}
use Rattle.sat_label.specs.declared.label.Kind.{Kind}
use Rattle.sat_label.specs.declared.label.Kind.TheVariants.{Update, Move, Pulse, Close}
use Rattle.sat_label.specs.declared.label.Label.{Label}
use Rattle.sat_label.specs.declared.node.NodeId.{NodeId}
use Rattle.sat_label.specs.declared.node.NodeId.TheVariants.{Site, Serializer}
use Rattle.sat_label.specs.declared.node.NodeName.{NodeName}
use Rattle.sat_label.specs.declared.node.NodeName.TheVariants as named

abbrev pub point_at : ℕ → ℕ → ℕ → Point
point_at ts site gear = record { ts = ts; site = site; gear = gear }

-- the highest point of a site at a timestamp
abbrev pub mark : ℕ → ℕ → Point
mark ts site = point_at ts site 65535

abbrev pub zero_point : Point
zero_point = point_at 0 0 0

-- by timestamp, then site, then gear
abbrev pub point_lt : Point → Point → Bool
point_lt p q =
    nat_lt p.ts q.ts || ((p.ts == q.ts) && (nat_lt p.site q.site || ((p.site == q.site) && nat_lt p.gear q.gear)))

abbrev pub point_eq : Point → Point → Bool
point_eq p q = (p.ts == q.ts) && ((p.site == q.site) && (p.gear == q.gear))

-- whether a point is at or below another one
abbrev pub point_le : Point → Point → Bool
point_le p q = point_lt p q || point_eq p q

-- the greater of two points
abbrev pub greater_point : Point → Point → Point
greater_point p q = if point_lt p q then q else p

-- lists of numbers by the first that differs; the front of a list comes before it
abbrev pub numbers_lt : List ℕ → List ℕ → Bool
numbers_lt [] [] = false
numbers_lt [] (y ∷ ys) = true
numbers_lt (x ∷ xs) [] = false
numbers_lt (x ∷ xs) (y ∷ ys) = nat_lt x y || ((x == y) && numbers_lt xs ys)

abbrev pub numbers_eq : List ℕ → List ℕ → Bool
numbers_eq [] [] = true
numbers_eq [] (y ∷ ys) = false
numbers_eq (x ∷ xs) [] = false
numbers_eq (x ∷ xs) (y ∷ ys) = (x == y) && numbers_eq xs ys

-- a kind's place in the order of kinds, and its numbers: the items of an update, or the number of another kind
abbrev pub kind_rank : Kind → ℕ
kind_rank (Update items) = 0
kind_rank (Move j) = 1
kind_rank Pulse = 2
kind_rank (Close e) = 3

abbrev pub kind_numbers : Kind → List ℕ
kind_numbers (Update items) = list_of items
kind_numbers (Move j) = j ∷ []
kind_numbers Pulse = []
kind_numbers (Close e) = e ∷ []

abbrev pub kind_lt : Kind → Kind → Bool
kind_lt a b =
    nat_lt (kind_rank a) (kind_rank b) || ((kind_rank a == kind_rank b) && numbers_lt (kind_numbers a) (kind_numbers b))

abbrev pub kind_eq : Kind → Kind → Bool
kind_eq a b = (kind_rank a == kind_rank b) && numbers_eq (kind_numbers a) (kind_numbers b)

-- by point, then kind
abbrev pub label_lt : Label → Label → Bool
label_lt a b = point_lt a.point b.point || (point_eq a.point b.point && kind_lt a.kind b.kind)

-- whether two labels are the same: point and kind
abbrev pub label_eq : Label → Label → Bool
label_eq a b = point_eq a.point b.point && kind_eq a.kind b.kind

-- whether two nodes of a tree are the same
abbrev pub node_eq : NodeId → NodeId → Bool
node_eq (Site i) (Site k) = i == k
node_eq (Serializer y) (Serializer z) = y == z
node_eq (Site i) (Serializer z) = false
node_eq (Serializer y) (Site k) = false

-- whether two nodes' names are the same: of serializers epoch and number, of gears site and number
abbrev pub name_eq : NodeName → NodeName → Bool
name_eq (named.Site i) (named.Site k) = i == k
name_eq (named.Serializer e y) (named.Serializer f z) = (e == f) && (y == z)
name_eq (named.Gear i g) (named.Gear k h) = (i == k) && (g == h)
name_eq (named.Site i) (named.Serializer e z) = false
name_eq (named.Site i) (named.Gear k h) = false
name_eq (named.Serializer e y) (named.Site k) = false
name_eq (named.Serializer e y) (named.Gear k h) = false
name_eq (named.Gear i g) (named.Site k) = false
name_eq (named.Gear i g) (named.Serializer e z) = false
