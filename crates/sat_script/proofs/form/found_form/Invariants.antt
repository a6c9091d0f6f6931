use Rattle.std.proofs.Common.{◌≡◌, drop}
use Rattle.sat_script.specs.Table.{found_form}
use Rattle.sat_script.proofs.form.found_form.Given as goal

abbrev pub invariant-loop-form : goal.invariant-loop-form
invariant-loop-form l = found_form l.word l.count (drop l.form-index l.forms) ≡ found_form l.word l.count l.forms
