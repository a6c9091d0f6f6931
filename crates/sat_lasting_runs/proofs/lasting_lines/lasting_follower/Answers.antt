use Rattle.std.proofs.Common.{◌∙◌}
use Rattle.sat_lasting_runs.specs.LastingTexts.{lasting_telling}
use Rattle.sat_lasting_runs.proofs.lasting_lines.lasting_follower.Goals as goal

pub returns-clause-meaning : goal.returns-clause-meaning
returns-clause-meaning c = c.new-2.ensures.meaning ∙ c.lasting_lines_make_texts.ensures lasting_telling
