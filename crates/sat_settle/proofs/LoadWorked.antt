-- The acts of small scripts of the kind, as another program made them.
use Rattle.std.specs.Prelude.{◌≡◌, ℕ, List, [], ◌∷◌, ◌++◌, None, codes, refl}
use Rattle.std.specs.Fmt.{decimal}
use Rattle.sat_label.specs.declared.node.NodeId.TheVariants.{Site, Serializer}
use Rattle.sat_act.specs.declared.act.Act.TheVariants as act
use Rattle.sat_settle.specs.LoadActs.{load_acts}

abbrev value : ℕ → List ℕ
value k = codes "v" ++ decimal k

-- seed 7, 40 acts
seven : load_acts 7 40 ≡
    act.Turn 1 ∷
    act.Write 33 145 (value 2) ∷
    act.Read 24 164 ∷
    act.Hop 1 (Site 1) 1 ∷
    act.Write 0 149 (value 5) ∷
    act.Write 5 99 (value 6) ∷
    act.Bulk 1 0 3 None ∷
    act.Tick 3 1 8 ∷
    act.Write 0 145 (value 9) ∷
    act.Attach 32 2 ∷
    act.Bulk 0 3 2 None ∷
    act.Read 9 107 ∷
    act.Move 32 0 ∷
    act.Gather 3 ∷
    act.Write 20 144 (value 15) ∷
    act.Write 24 146 (value 16) ∷
    act.Pulse 2 ∷
    act.Turn 2 ∷
    act.Bulk 4 3 0 None ∷
    act.Write 26 3 (value 20) ∷
    act.Close 0 ∷
    act.Close 1 ∷
    act.Close 2 ∷
    act.Close 3 ∷
    act.Close 4 ∷
    act.Turn 3 ∷
    act.Read 20 155 ∷
    act.Emit 0 ∷
    act.Read 32 138 ∷
    act.Emit 3 ∷
    act.Tick 3 0 26 ∷
    act.Bulk 3 1 1 None ∷
    act.Tick 2 3 28 ∷
    act.Write 32 177 (value 29) ∷
    act.Turn 3 ∷
    act.Read 39 179 ∷
    act.Bulk 1 1 4 None ∷
    act.Emit 3 ∷
    act.Read 36 125 ∷
    act.Turn 1 ∷
    act.Tick 0 0 36 ∷
    act.Read 11 155 ∷
    act.Emit 4 ∷
    act.Gather 1 ∷
    act.Read 28 0 ∷
    act.Settle ∷
    []
unfolding load_acts
seven = refl

-- a seed near 2^64, 41 acts
last_seeds : load_acts 18446744073709551609 41 ≡
    act.Write 25 120 (value 1) ∷
    act.Emit 0 ∷
    act.Read 31 185 ∷
    act.Tick 2 3 4 ∷
    act.Write 20 57 (value 5) ∷
    act.Pulse 2 ∷
    act.Attach 8 1 ∷
    act.Emit 2 ∷
    act.Emit 3 ∷
    act.Read 12 61 ∷
    act.Emit 1 ∷
    act.Write 11 82 (value 12) ∷
    act.Write 21 140 (value 13) ∷
    act.Attach 20 3 ∷
    act.Read 36 4 ∷
    act.Write 31 74 (value 16) ∷
    act.Write 22 169 (value 17) ∷
    act.Turn 0 ∷
    act.Gather 2 ∷
    act.Bulk 1 1 4 None ∷
    act.Close 0 ∷
    act.Close 1 ∷
    act.Close 2 ∷
    act.Close 3 ∷
    act.Close 4 ∷
    act.Bulk 1 0 0 None ∷
    act.Write 35 176 (value 22) ∷
    act.Gather 4 ∷
    act.Emit 3 ∷
    act.Write 17 36 (value 25) ∷
    act.Write 9 104 (value 26) ∷
    act.Tick 4 2 27 ∷
    act.Write 11 130 (value 28) ∷
    act.Emit 0 ∷
    act.Turn 4 ∷
    act.Pulse 3 ∷
    act.Move 32 4 ∷
    act.Hop 1 (Serializer 0) 2 ∷
    act.Write 27 25 (value 34) ∷
    act.Write 11 112 (value 35) ∷
    act.Turn 0 ∷
    act.Turn 4 ∷
    act.Pulse 4 ∷
    act.Turn 2 ∷
    act.Hop 2 (Site 0) 0 ∷
    act.Read 8 116 ∷
    act.Settle ∷
    []
unfolding load_acts
last_seeds = refl
