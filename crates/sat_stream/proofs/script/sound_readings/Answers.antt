use Rattle.sat_stream.proofs.Drained.{reading_sound}
use Rattle.sat_stream.proofs.script.sound_readings.Goals as goal

pub returns : goal.returns
returns c = reading_sound
