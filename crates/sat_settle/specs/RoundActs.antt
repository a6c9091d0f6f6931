-- The parts of the list of a round's acts, as the calls make them.
use Rattle.std.specs.Prelude.{ℕ, ◌==◌, List, [], ◌∷◌, ◌++◌, length, map, None, if◌then◌else◌}
use Rattle.sat_label.specs.Words.{below}
use Rattle.sat_tree.specs.Shape.{TreeShape}
use Rattle.sat_tree.specs.Cut.{neighbours}
use Rattle.sat_act.specs.declared.act.Act.{Act}
use Rattle.sat_act.specs.declared.act.Act.TheVariants as act
use Rattle.sat_act.specs.declared.deployment.Plan.{Plan}
use Rattle.sat_act.specs.declared.deployment.Plan.TheVariants as plan
use Rattle.sat_act.specs.Deployed.{Deployed}
use Rattle.sat_act.specs.Settling.{joined, hops, turns}

-- the bulk of the next payload of a lane, none of a site's to itself
abbrev pub bulk_to : ℕ → ℕ → ℕ → List Act
bulk_to i g j = if i == j then [] else act.Bulk i g j None ∷ []

-- those of a gear of a site, of all its gears, and of all sites
abbrev pub bulk_acts_by : ℕ → ℕ → ℕ → List Act
bulk_acts_by i sites g = joined (bulk_to i g) (below sites)

abbrev pub bulk_acts_from : ℕ → ℕ → ℕ → List Act
bulk_acts_from gears sites i = joined (bulk_acts_by i sites) (below gears)

abbrev pub bulk_acts : ℕ → ℕ → List Act
bulk_acts gears sites = joined (bulk_acts_from gears sites) (below sites)

-- a hop from each neighbour of serializer z
abbrev pub hops_to : ℕ → TreeShape → ℕ → List Act
hops_to epoch tree z = map (λ u. act.Hop epoch u z) (neighbours tree z)

-- those of all serializers of a tree
abbrev pub hops_in : ℕ → TreeShape → List Act
hops_in epoch tree = joined (λ z. hops_to epoch tree z) (below (length tree.parents))

-- those of an epoch, by its plan
abbrev pub hops_by : ℕ → Plan → List Act
hops_by epoch plan.Stamp = []
hops_by epoch (plan.Tree tree) = hops_in epoch tree

-- of a site a turn, a stamp and an advance
abbrev pub turns_of : ℕ → List Act
turns_of j = act.Turn j ∷ act.Stamp j ∷ act.Advance j ∷ []

-- those of the first n sites
abbrev pub turns_to : ℕ → List Act
turns_to n = joined turns_of (below n)

-- the acts of a round behind its bulks
abbrev pub later_acts : Deployed → List Act
later_acts d = hops d ++ turns d
