-- Histories whose entries have the answers of their acts.
use Rattle.std.specs.Prelude.{◌≡◌, ◌⊎◌, Bool, true, false, List, [], ◌∷◌}
use Rattle.sat_act.specs.declared.act.Act.{Act}
use Rattle.sat_act.specs.declared.act.Act.TheVariants as act
use Rattle.sat_act.specs.declared.answer.Answer.{Answer}
use Rattle.sat_act.specs.declared.entry.Entry.{Entry}
use Rattle.sat_act.specs.Deployed.{Deployed}
use Rattle.sat_act.specs.Answers.{InRange, answer}
use Rattle.sat_act.specs.Settling.{settle, answer_of}

-- an act that is a settle
abbrev pub is_settle : Act → Bool
is_settle act.Settle = true
is_settle _ = false

-- the answer that an act has after a history. Before the entry of a settle stand its inner entries, and its answer
-- counts them: there is a history from which the settle began, and the entries since then are just those that its
-- settling makes
abbrev pub IsAnswer : Deployed → List Entry → Act → Answer → Type 0
IsAnswer d h a r =
    ((is_settle a ≡ false) × (r ≡ answer d h a))
    ⊎ ((start : List Entry) × (a ≡ act.Settle) × (h ≡ (settle d start).1) × (r ≡ answer_of d start act.Settle))

-- a history whose acts are in range, and whose entries have the answers of their acts. It fixes the flag `inner` only
-- of the entries that a settle made and that stand before its entry; anywhere else, as after a settle that has not
-- ended, the flag is free, and nothing else reads it. Flags aside, a run is the run of a list of acts
unfoldable pub IsRun : Deployed → List Entry → Type 0
unfolding answer settle answer_of
IsRun d [] = Unit {0}
IsRun d (entry ∷ before) = IsRun d before × InRange d entry.act × IsAnswer d before entry.act entry.answer
