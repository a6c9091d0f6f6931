use Rattle.std.proofs.Common.{◌≡◌, ◌<◌, true, rules, subst}
use Rattle.std.proofs.lemmas.Bool.{ltb-true}
use Rattle.sat_label.specs.Formats.{limits_of as format_limits}
use Rattle.sat_label.specs.declared.limits.Limits.{Limits}
use Rattle.sat_script.specs.Dialect.{is_quick}
use Rattle.sat_script.specs.declared.line.Stage.TheVariants as stage
use Rattle.sat_script.proofs.Bars.{takes_acts}
use Rattle.sat_script.proofs.place.Place.takes_acts.Goals as goal

pub returns : goal.returns
returns c h =
    let body : c.self.inside.stage ≡ stage.Body = search rules in
    let quick : is_quick c.self.inside.dialect ≡ true = search rules in
    let limits : c.limits_of.result ≡ format_limits c.self.inside.header.said.format = search rules in
    let few = subst (λ (l : Limits). c.self.inside.acts < l.acts) limits (ltb-true c.self.inside.acts c.limits_of.result.acts h) in
    rw (← c.self.view_is) (takes_acts _ body quick few)
