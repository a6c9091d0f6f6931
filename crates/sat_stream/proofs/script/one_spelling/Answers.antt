use Rattle.sat_script.proofs.Acts.{acts_spelled}
use Rattle.sat_script.proofs.ActsRead.{acts_read}
use Rattle.sat_stream.proofs.Spelled.{spelled_reads}
use Rattle.sat_stream.proofs.Whole.{read_spells}
use Rattle.sat_stream.proofs.script.one_spelling.Goals as goal

pub returns-clause-read : goal.returns-clause-read
returns-clause-read c = read_spells

pub returns-clause-found : goal.returns-clause-found
returns-clause-found c = spelled_reads

pub returns-clause-acts_spelled : goal.returns-clause-acts_spelled
returns-clause-acts_spelled c = acts_spelled

pub returns-clause-acts_read : goal.returns-clause-acts_read
returns-clause-acts_read c = acts_read
