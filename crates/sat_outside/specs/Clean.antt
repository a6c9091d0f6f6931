-- What the clean forms were made with, and what a clean sink kept.
use Rattle.std.specs.Prelude.{ℕ, List}
use Rattle.sat_outside.specs.declared.clean.CleanSource.{CleanSource}
use Rattle.sat_outside.specs.declared.clean.CleanSink.{CleanSink}

-- how many bytes a call gives or takes at most
abbrev pub source_piece : CleanSource → ℕ
source_piece s = s.piece

abbrev pub sink_piece : CleanSink → ℕ
sink_piece s = s.piece

-- what was kept, and how many bytes are kept at most
abbrev pub sink_kept : CleanSink → List ℕ
sink_kept s = s.kept.items

abbrev pub sink_room : CleanSink → ℕ
sink_room s = s.room
