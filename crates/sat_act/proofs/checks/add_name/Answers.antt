use Rattle.std.proofs.Common.{ℕ, ◌≡◌, ◌||◌, Bool, true, false, cond, List, Bor, refl, ◌∙◌}
use Rattle.sat_act.specs.Flaw.{has_name}
use Rattle.sat_act.proofs.checks.add_name.Goals as goal

either : (b c : Bool) → cond b true c ≡ (b || c)
either true c = refl
either false c = refl

pub returns-clause-names : goal.returns-clause-names
returns-clause-names c = λ other.
    let key : Bor (List ℕ) = record { ref_ptr = (0, 0); now = other } in
    c.in_ok-new.ensures.updates.0 key ∙ either _ (has_name c.args.names.now other)
