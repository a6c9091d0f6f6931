use Rattle.std.proofs.Common.{◌≡◌, ◌≤◌, length, true, rules}
use Rattle.sat_script.specs.Words.{is_text, words_of}
use Rattle.sat_script.specs.declared.limits.TheConstants.{LONGEST_LINE}
use Rattle.sat_script.proofs.Cuts.{texts}
use Rattle.sat_audit.specs.Lines.{act_words_of}
use Rattle.sat_audit.specs.Steps.{hearing}
use Rattle.sat_audit.proofs.Answering.{heard_bad, rest_words, told_bad, told_good}
use Rattle.sat_audit.proofs.lines.heard_line.Goals as goal

pub returns-in-Err : goal.returns-in-Err
returns-in-Err c =
    let text : is_text c.args.line.now ≡ true = search rules in
    let short : length c.args.line.now ≤ LONGEST_LINE = search rules in
    let count : c.act_words_of-count.result ≡ act_words_of c.args.reader.now.state.header.format (words_of c.args.line.now) = search rules in
    heard_bad (hearing c.args.reader.now.state c.args.noted.now) c.args.line.now c.act_words_of-count.result c.in-Err.cause (record { of_act = c.requires.of_act; short = short; text = text; count = count }) c.in-Err.ensures.act

pub returns-in-Ok-told_at : goal.returns-in-Ok-told_at
returns-in-Ok-told_at c =
    let text : is_text c.args.line.now ≡ true = search rules in
    let short : length c.args.line.now ≤ LONGEST_LINE = search rules in
    let count : c.act_words_of-count.result ≡ act_words_of c.args.reader.now.state.header.format (words_of c.args.line.now) = search rules in
    let are : texts c.as_slice-2.result.now ≡ words_of c.args.line.now = search rules in
    told_good (hearing c.args.reader.now.state c.args.noted.now) c.args.line.now c.front.result.now c.act_words_of-count.result c.in-Ok-act_in.act c.in-Ok-told_at.told (record { of_act = c.requires.of_act; short = short; text = text; count = count })
    c.in-Ok-act_in.ensures.act c.in-Ok-act_in.ensures.reads.1 _ (rest_words c.as_slice-2.result.now c.args.line.now c.act_words_of-count.result are) c.in-Ok-told_at.ensures c.front.ensures

pub returns : goal.returns
returns c =
    let text : is_text c.args.line.now ≡ true = search rules in
    let short : length c.args.line.now ≤ LONGEST_LINE = search rules in
    let count : c.act_words_of-count.result ≡ act_words_of c.args.reader.now.state.header.format (words_of c.args.line.now) = search rules in
    let are : texts c.as_slice-2.result.now ≡ words_of c.args.line.now = search rules in
    told_bad (hearing c.args.reader.now.state c.args.noted.now) c.args.line.now c.act_words_of-count.result c.in-Ok-act_in.act c.in-Err-told_at.cause (record { of_act = c.requires.of_act; short = short; text = text; count = count })
    c.in-Ok-act_in.ensures.act _ (rest_words c.as_slice-2.result.now c.args.line.now c.act_words_of-count.result are) c.in-Err-told_at.ensures
