-- A cut of the code, as the histories have it.
use Rattle.std.specs.Prelude.{Option, Some, None}
use Rattle.sat_lasting_laws.specs.Lastings as laws
use Rattle.sat_lasting.specs.declared.cut.Cut.{Cut}

-- one cut
abbrev pub cut_seen : Cut → laws.Cut
cut_seen cut = record { calls = cut.calls; keep = cut.keep }

-- the cut that waits at a site, if one does
abbrev pub cut_at : Option Cut → Option laws.Cut
cut_at None = None
cut_at (Some cut) = Some (cut_seen cut)
