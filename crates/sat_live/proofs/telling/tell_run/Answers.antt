use Rattle.std.proofs.Common.{rules, ◌≡◌, ◌++◌, ℕ, List, subst}
use Rattle.std.specs.Prelude.{IfOk}
use Rattle.sat_script.specs.Spelled.{spelling}
use Rattle.sat_live.proofs.Reruns.{script_told}
use Rattle.sat_live.proofs.telling.tell_run.Goals as goal

pub returns-then-rounds-eq0 : goal.returns-then-rounds-eq0
returns-then-rounds-eq0 c =
    let zero : c.in_ok-rounds.rounds ≡ 0 = search rules in
    script_told c.args.d.now c.args.done.now c.in_ok-world.world c.run_again.new.text.items c.in_ok-world.ensures.deployment (c.in_ok-world.ensures.running c.new-report.ensures.items) c.write_holdings.new.out.items c.in_ok-rounds.rounds
    c.in_ok-rounds.moves c.tell_script.result c.in_ok-write_holdings.ensures.ok c.in_ok-rounds.ensures zero
    (subst (λ (bytes : List ℕ). IfOk c.tell_script.result (λ told. told.text.items ≡ spelling c.args.d.now c.args.done.now ++ bytes)) c.as_slice.ensures.value c.tell_script.ensures.text) c.tell_script.ensures.status
