use Rattle.std.proofs.Common.{rules, map}
use Rattle.std.specs.Prelude.{string_bytes}
use Rattle.sat_top.specs.Words.{command_of}
use Rattle.sat_top.proofs.Refused.{help_output, load_done, refused_output, version_output}
use Rattle.sat_top.proofs.output.make_output.Goals as goal

pub returns-in_ok-output-in-Some-Load-clause-output : goal.returns-in_ok-output-in-Some-Load-clause-output
returns-in_ok-output-in-Some-Load-clause-output g c =
    load_done (command_of (map string_bytes c.args.words.now)) (g.S.Source.left c.args.source.now) _ _ c.in-Some-Load.seed c.in-Some-Load.acts
    (search rules) c.in_ok-output-in-Some-Load.ensures.text c.in_ok-output-in-Some-Load.ensures.status c.in_ok-output-in-Some-Load.ensures.good

pub returns-in_ok-output-in-Some-Help-clause-output : goal.returns-in_ok-output-in-Some-Help-clause-output
returns-in_ok-output-in-Some-Help-clause-output g c =
    help_output (command_of (map string_bytes c.args.words.now)) (g.S.Source.left c.args.source.now) _ _ (search rules) c.in_ok-output-in-Some-Help.ensures.text c.in_ok-output-in-Some-Help.ensures.status

pub returns-in_ok-output-in-Some-Version-clause-output : goal.returns-in_ok-output-in-Some-Version-clause-output
returns-in_ok-output-in-Some-Version-clause-output g c =
    version_output (command_of (map string_bytes c.args.words.now)) (g.S.Source.left c.args.source.now) _ _ (search rules) c.in_ok-output-in-Some-Version.ensures.text c.in_ok-output-in-Some-Version.ensures.status

pub returns-in_ok-output-in-None-clause-output : goal.returns-in_ok-output-in-None-clause-output
returns-in_ok-output-in-None-clause-output g c =
    refused_output (command_of (map string_bytes c.args.words.now)) (g.S.Source.left c.args.source.now) _ _ (search rules) (search rules) (search rules)
