use Rattle.std.proofs.Common.{rules, ◌≡◌, Some, refl, sym, ap, subst, ◌∙◌}
use Rattle.sat_script.specs.Causes.{full}
use Rattle.sat_script.specs.State.{Seen}
use Rattle.sat_chain_runs.specs.Held.{HeldSeen, KeepsHistories}
use Rattle.sat_chain_runs.proofs.Doing.{fits_mid, goes_by, held_act, when_ok}
use Rattle.sat_chain_runs.proofs.chain_lines.ChainLines.answer.Goals as goal

pub invariant_of-self : goal.invariant_of-self
invariant_of-self c =
    let reader : c.self.inside.reader ≡ c.args.self.now.reader = ap (λ (v : HeldSeen). v.reader) c.self.view_is ∙ c.make_chains.ensures.reader in
    let replicas : c.self.inside.replicas ≡ c.args.self.now.replicas = ap (λ (v : HeldSeen). v.replicas) c.self.view_is ∙ c.make_chains.ensures.replicas in
    let is : c.self.inside.chains ≡ Some c.in-Some.chains = search rules in
    let mid : HeldSeen = record { reader = c.self.inside.reader; chains = c.self.inside.chains; replicas = c.self.inside.replicas; number = c.self.inside.number } in
    held_act mid _ c.in-Some.chains c.answer_act.new.chains c.args.act.now c.self.invariant (ap (λ (s : Seen). s.state.stage) reader ∙ c.requires.body) (ap (λ (s : Seen). full s.state) reader ∙ c.requires.room)
    (fits_mid c.args.self.now mid c.args.act.now reader replicas c.requires.act) is c.count_act.ensures refl refl c.answer_act.ensures.deployment c.answer_act.ensures.replicas c.answer_act.ensures.known

pub returns-clause-ok : goal.returns-clause-ok
returns-clause-ok c =
    let reader : c.self.inside.reader ≡ c.args.self.now.reader = ap (λ (v : HeldSeen). v.reader) c.self.view_is ∙ c.make_chains.ensures.reader in
    let replicas : c.self.inside.replicas ≡ c.args.self.now.replicas = ap (λ (v : HeldSeen). v.replicas) c.self.view_is ∙ c.make_chains.ensures.replicas in
    let is : c.self.inside.chains ≡ Some c.in-Some.chains = search rules in
    when_ok c.answer_act.result c.answer_act.ensures.ok (λ has.
    goes_by c.args.self.now _ _ c.in-Some.chains c.answer_act.new.chains c.args.act.now c.args.text.now.items c.answer_act.new.text.items c.self.invariant reader replicas
    (ap (λ (v : HeldSeen). v.number) c.self.view_is ∙ c.make_chains.ensures.number) (subst (λ (v : HeldSeen). KeepsHistories c.args.self.now.chains v.chains) (sym c.self.view_is) c.make_chains.ensures.keeps) is has c.count_act.ensures refl)
