use Rattle.std.proofs.Common.{arith}
use Rattle.sat_script.specs.State.{number_of}
use Rattle.sat_stream.specs.Stream.{will_be, bytes_until, bytes_of}
use Rattle.sat_stream.proofs.Meaning.{goes_on-none}
use Rattle.sat_stream.proofs.stream.ScriptReader.new.Goals as goal

pub returns-clause-script : goal.returns-clause-script
unfolding will_be
returns-clause-script c = λ text. rw (c.new.ensures.new, c.new-2.ensures.items) (goes_on-none c.args.live text)

pub returns-clause-counted : goal.returns-clause-counted
unfolding bytes_of bytes_until number_of
returns-clause-counted c = rw (c.new.ensures.new, c.new-2.ensures.items) (omega arith)
