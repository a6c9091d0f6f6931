-- The steps that build a tree from a table of delays.
use Rattle.std.specs.Prelude.{ℕ, zero, suc, nat_lt, List, [], ◌∷◌, ◌++◌, length, map, slice_index, replicate, Some}
use Rattle.std.specs.Prelude.{None, if◌then◌else◌}
use Rattle.sat_label.specs.Words.{below}
use Rattle.sat_tree.specs.Shape.{TreeShape}
use Rattle.sat_delay.specs.Table.{DelayTable, entry}
use Rattle.sat_plan.specs.Sums.{least_of}
use Rattle.sat_plan.specs.Config.{Config, config_of, edges, delayed}
use Rattle.sat_plan.specs.Mismatch.{mismatch}

-- a tree at these places with all delays 0
unfoldable pub undelayed : TreeShape → List ℕ → Config
unfolding edges
undelayed t places = config_of t places (replicate (length (edges t)) 0)

-- ---- the first serializer

-- one serializer, with all sites seated there
abbrev pub star : ℕ → TreeShape
star sites = record { parents = None ∷ []; seats = replicate sites 0 }

-- one serializer at a place, with all sites seated there
unfoldable pub start_at : DelayTable → ℕ → Config
unfolding undelayed
start_at d p = undelayed (star d.sites) (p ∷ [])

-- its mismatch
unfoldable pub start_cost : DelayTable → ℕ → ℕ
unfolding start_at mismatch
start_cost d p = mismatch d (start_at d p)

-- it stands at the place of least mismatch, of the lowest number among equals
unfoldable pub start : DelayTable → Config
unfolding start_at start_cost least_of
start d = start_at d (least_of (start_cost d) d.places)

-- ---- further serializers

-- the milliseconds from a site to the place of a serializer
abbrev pub seat_cost : DelayTable → List ℕ → ℕ → ℕ → ℕ
seat_cost d places i z = entry d.reach i (slice_index places z)

-- the serializer whose place has the least reach for a site, of the lowest number among equals
unfoldable pub nearest : DelayTable → List ℕ → ℕ → ℕ
unfolding least_of
nearest d places i = least_of (seat_cost d places i) (length places)

-- each site at the nearest serializer
unfoldable pub nearest_seats : DelayTable → List ℕ → List ℕ
unfolding nearest
nearest_seats d places = map (nearest d places) (below d.sites)

-- one serializer more that hangs on q, and the seats after it
abbrev pub hung_tree : DelayTable → Config → ℕ → ℕ → TreeShape
hung_tree d c q p = record { parents = c.tree.parents ++ Some q ∷ []; seats = nearest_seats d (c.places ++ p ∷ []) }

-- a new serializer at p that hangs on q, after which every site is seated at the nearest
unfoldable pub hung : DelayTable → Config → ℕ → ℕ → Config
unfolding undelayed nearest_seats
hung d c q p = undelayed (hung_tree d c q p) (c.places ++ p ∷ [])

-- its mismatch
unfoldable pub hung_cost : DelayTable → Config → ℕ → ℕ → ℕ
unfolding hung mismatch
hung_cost d c q p = mismatch d (hung d c q p)

-- the best place of a serializer that hangs on q, and what it costs
unfoldable pub best_place : DelayTable → Config → ℕ → ℕ
unfolding hung_cost least_of
best_place d c q = least_of (hung_cost d c q) d.places

-- the mismatch with a new serializer at its best place under q
unfoldable pub parent_cost : DelayTable → Config → ℕ → ℕ
unfolding hung_cost best_place
parent_cost d c q = hung_cost d c q (best_place d c q)

-- the serializer under which that is least
unfoldable pub best_parent : DelayTable → Config → ℕ
unfolding parent_cost least_of
best_parent d c = least_of (parent_cost d c) (length c.tree.parents)

-- of all pairs of a serializer and a place the one of least mismatch, first by serializer and then by place among
-- equals
unfoldable pub best_hung : DelayTable → Config → Config
unfolding hung best_parent best_place
best_hung d c = hung d c (best_parent d c) (best_place d c (best_parent d c))

-- as long as the best pair is lower, at most so many more
unfoldable pub grow : DelayTable → ℕ → Config → Config
unfolding best_hung mismatch
grow d zero c = c
grow d (suc n) c = if nat_lt (mismatch d (best_hung d c)) (mismatch d c) then grow d n (best_hung d c) else c

-- up to 15 serializers
unfoldable pub grown : DelayTable → Config
unfolding grow start
grown d = grow d 14 (start d)

-- ---- delays, in definitions that open one by one, since the best delay is looked for up to a large number

-- the mismatch where one edge has this delay
unfoldable pub delay_cost : DelayTable → Config → ℕ → ℕ → ℕ
delay_cost d c e delay = mismatch d (delayed c e delay)

-- The least delay of an edge among those that give the least mismatch while all others stay. None above 100,000 gives a
-- lower one.
unfoldable pub best_delay : DelayTable → Config → ℕ → ℕ
best_delay d c e = least_of (delay_cost d c e) 100001

-- it is set where the mismatch is then lower
unfoldable pub tuned : DelayTable → Config → ℕ → Config
tuned d c e = if nat_lt (delay_cost d c e (best_delay d c e)) (mismatch d c) then delayed c e (best_delay d c e) else c

-- so many edges tuned, in order
unfoldable pub tuned_below : DelayTable → Config → ℕ → Config
tuned_below d c zero = c
tuned_below d c (suc e) = tuned d (tuned_below d c e) e

-- once through the edges in order
unfoldable pub pass : DelayTable → Config → Config
pass d c = tuned_below d c (length (edges c.tree))

-- pass by pass, at most so many, until one doesn't lower the mismatch
unfoldable pub settled : DelayTable → ℕ → Config → Config
settled d zero c = c
settled d (suc n) c = if nat_lt (mismatch d (pass d c)) (mismatch d c) then settled d n (pass d c) else c

-- Each pass that changes a delay lowers the mismatch, so there are at most as many as the first mismatch.
unfoldable pub built : DelayTable → Config
built d = settled d (mismatch d (grown d)) (grown d)
