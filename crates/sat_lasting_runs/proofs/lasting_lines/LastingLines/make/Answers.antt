use Rattle.std.proofs.Common.{rules, ◌≡◌, ◌∙◌, Some, None, ap, refl, subst}
use Rattle.sat_script.specs.State.{deployment_of}
use Rattle.sat_lasting_runs.specs.Held.{LastingHeld, LastingReady}
use Rattle.sat_lasting_runs.proofs.Entering.{held_started, new_there}
use Rattle.sat_lasting_runs.proofs.lasting_lines.LastingLines.make.Goals as goal

pub invariant_of-self : goal.invariant_of-self
invariant_of-self c =
    let v : LastingHeld = record { reader = c.self.inside.reader; machine = c.self.inside.lasting; answered = c.self.inside.answered } in
    let away : c.self.inside.lasting ≡ None = ap (λ (w : LastingHeld). w.machine) c.self.view_is ∙ c.requires.none in
    let deployment : deployment_of c.self.inside.reader.state ≡ Some c.in_ok-copy.field-0 = search rules in
    held_started v _ c.in_ok-lasting.lasting c.self.invariant (new_there v c.in_ok-lasting.lasting c.in_ok-copy.field-0 away deployment c.in_ok-lasting.ensures.deployment c.in_ok-lasting.ensures.stands) refl refl refl

pub returns-clause-started : goal.returns-clause-started
returns-clause-started c =
    let v : LastingHeld = record { reader = c.self.inside.reader; machine = c.self.inside.lasting; answered = c.self.inside.answered } in
    let away : c.self.inside.lasting ≡ None = ap (λ (w : LastingHeld). w.machine) c.self.view_is ∙ c.requires.none in
    let deployment : deployment_of c.self.inside.reader.state ≡ Some c.in_ok-copy.field-0 = search rules in
    record {
      lasting = c.in_ok-lasting.lasting;
      there = refl;
      ready = subst (λ (w : LastingHeld). LastingReady w c.in_ok-lasting.lasting) c.self.view_is
          (new_there v c.in_ok-lasting.lasting c.in_ok-copy.field-0 away deployment c.in_ok-lasting.ensures.deployment c.in_ok-lasting.ensures.stands);
    }
