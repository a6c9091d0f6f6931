use Rattle.std.proofs.Common.{◌≤◌, length, arith}
use Rattle.sat_script.specs.Dialect.{has_form}
use Rattle.sat_script.specs.Said.{TakesActs}
use Rattle.sat_script.specs.declared.form.Form.TheVariants.{Hop}
use Rattle.sat_script.specs.declared.limits.TheConstants.{LONGEST_LINE}
use Rattle.sat_script.proofs.Quick.{line_said}
use Rattle.sat_script.proofs.reader.Reader.act_at.Goals as goal

pub returns-in-1 : goal.returns-in-1
returns-in-1 c =
    let takes : TakesActs c.self.inside.place = rw (← c.self.view_is) at c.requires.takes in
    let fits : length c.args.line.now ≤ LONGEST_LINE = omega (arith, c.requires.short) in
    let said = rw c.header-header.ensures.header at (c.act_of_two.ensures (has_form c.self.inside.place.dialect Hop)) in
    rw (← c.self.view_is) (line_said c.self.inside.place c.args.line.now _ _ _ c.act_of_two.result takes fits c.two_words.ensures said)

pub returns-in-2 : goal.returns-in-2
returns-in-2 c =
    let takes : TakesActs c.self.inside.place = rw (← c.self.view_is) at c.requires.takes in
    let fits : length c.args.line.now ≤ LONGEST_LINE = omega (arith, c.requires.short) in
    let said = rw c.header-header.ensures.header at (c.act_of_three.ensures (has_form c.self.inside.place.dialect Hop)) in
    rw (← c.self.view_is) (line_said c.self.inside.place c.args.line.now _ _ _ c.act_of_three.result takes fits c.three_words.ensures said)

pub returns-in-3 : goal.returns-in-3
returns-in-3 c =
    let takes : TakesActs c.self.inside.place = rw (← c.self.view_is) at c.requires.takes in
    let fits : length c.args.line.now ≤ LONGEST_LINE = omega (arith, c.requires.short) in
    let said = rw c.header-header.ensures.header at (rw (c.has_hops.ensures) at c.act_of_four.ensures) in
    rw (← c.self.view_is) (line_said c.self.inside.place c.args.line.now _ _ _ c.act_of_four.result takes fits c.four_words.ensures said)

pub returns-in-4 : goal.returns-in-4
returns-in-4 c =
    let takes : TakesActs c.self.inside.place = rw (← c.self.view_is) at c.requires.takes in
    let fits : length c.args.line.now ≤ LONGEST_LINE = omega (arith, c.requires.short) in
    let said = rw c.header-header.ensures.header at (c.act_of_five.ensures (has_form c.self.inside.place.dialect Hop)) in
    rw (← c.self.view_is) (line_said c.self.inside.place c.args.line.now _ _ _ c.act_of_five.result takes fits c.five_words.ensures said)
