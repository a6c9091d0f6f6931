-- The parts of the opening of a settle, as the calls do them.
use Rattle.std.specs.Prelude.{ℕ, ◌==◌, List, [], ◌∷◌, if◌then◌else◌}
use Rattle.sat_label.specs.Words.{below}
use Rattle.sat_act.specs.declared.act.Act.TheVariants as act
use Rattle.sat_act.specs.declared.answer.Answer.{Answer}
use Rattle.sat_act.specs.declared.answer.Answer.TheVariants as ans
use Rattle.sat_act.specs.declared.entry.Entry.{Entry}
use Rattle.sat_act.specs.Deployed.{Deployed}
use Rattle.sat_act.specs.Settling.{tried, for_each, gather_at, emit_all, pulse_at, beat_over, emptied}

-- the number that a beat answers
abbrev pub number_in : Answer → ℕ
number_in (ans.Beat n) = n
number_in _ = 0

abbrev pub gathers_all : Deployed → List Entry → List Entry
gathers_all d h = for_each (gather_at d) (below d.sites) h

abbrev pub emits_all : Deployed → List Entry → List Entry
emits_all d h = for_each (emit_all d) (below d.sites) h

abbrev pub pulses_all : Deployed → List Entry → List Entry
pulses_all d h = for_each (pulse_at d) (below d.sites) h

-- a beat from i to j, and its coming in
abbrev pub beat_of : Deployed → ℕ → ℕ → List Entry → List Entry
beat_of d i j h = beat_over d (i, j) h

-- the same, of different sites alone
abbrev pub beats_to : Deployed → ℕ → ℕ → List Entry → List Entry
beats_to d i j h = for_each (beat_over d) (if i == j then [] else (i, j) ∷ []) h

abbrev pub beats_from : Deployed → ℕ → List Entry → List Entry
beats_from d i h = for_each (beats_to d i) (below d.sites) h

abbrev pub beats_all : Deployed → List Entry → List Entry
beats_all d h = for_each (beats_from d) (below d.sites) h

-- a clock, and a gather at each site
abbrev pub gathered_all : Deployed → List Entry → List Entry
gathered_all d h = gathers_all d (tried d act.Clock h)

-- the sinks emptied, and a pulse at each site
abbrev pub pulsed_all : Deployed → List Entry → List Entry
pulsed_all d h = pulses_all d (emptied d h)
