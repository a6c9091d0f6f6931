-- The act that a draft stands for.
use Rattle.std.specs.Prelude.{ℕ, List, ◌++◌, None, codes}
use Rattle.std.specs.Fmt.{decimal}
use Rattle.sat_act.specs.declared.act.Act.{Act}
use Rattle.sat_act.specs.declared.act.Act.TheVariants as act
use Rattle.sat_settle.specs.declared.load_draft.Draft.{Draft}
use Rattle.sat_settle.specs.declared.load_draft.Draft.TheVariants as draft

-- the value of a write is `v` and its number
abbrev pub drawn_value : ℕ → List ℕ
drawn_value k = codes "v" ++ decimal k

-- the act that a draft of numbers stands for
abbrev pub drafted : Draft → Act
drafted (draft.Write c x k) = act.Write c x (drawn_value k)
drafted (draft.Read c x) = act.Read c x
drafted (draft.Move c j) = act.Move c j
drafted (draft.Attach c j) = act.Attach c j
drafted (draft.Tick i g ts) = act.Tick i g ts
drafted (draft.Gather i) = act.Gather i
drafted (draft.Emit i) = act.Emit i
drafted (draft.Pulse i) = act.Pulse i
drafted (draft.Hop e u z) = act.Hop e u z
drafted (draft.Bulk i g j) = act.Bulk i g j None
drafted (draft.Turn i) = act.Turn i
drafted (draft.Close i) = act.Close i
drafted draft.Settle = act.Settle
