use Rattle.std.proofs.Common.{◌≡◌, ◌∙◌, ℕ, List, subst, sym}
use Rattle.sat_label.specs.declared.items.Items.TheVariants.{One}
use Rattle.sat_act.specs.declared.answer.Answer.{Answer}
use Rattle.sat_act.specs.declared.answer.Answer.TheVariants as ans
use Rattle.sat_site.specs.declared.input.SiteInput.TheVariants as input
use Rattle.sat_site.specs.SiteSteps.{site_after, site_answers}
use Rattle.sat_store_example.specs.Replicas.{MayTell, ReadsNewer, ReplicaSeen}
use Rattle.sat_store_example.proofs.Told.{wrote-told}
use Rattle.sat_store_example.proofs.ReadBack.{reads-written}
use Rattle.sat_store_example.proofs.replica.Replica.write.Goals as goal

pub tell-requires : goal.tell-requires
tell-requires c = subst (λ (r : Answer). MayTell r c.args.client.now) (sym c.in_ok-answer.ensures.answer) (wrote-told c.args.self.now.site c.args.client.now c.args.client.now.carried (One c.args.item) c.in_ok-values.values)

pub returns-clause-read_back : goal.returns-clause-read_back
returns-clause-read_back c = λ l e.
    let x = c.args.self.now.site in
    let seen = c.args.client.now.carried in
    subst (λ (r : ReplicaSeen). ReadsNewer x r.site c.args.item l c.args.value) (sym c.in_ok-answer.ensures.after)
    (subst (λ (values : List (List ℕ)). site_answers x (input.Write seen (One c.args.item) values) ≡ ans.Wrote l → ReadsNewer x (site_after x (input.Write seen (One c.args.item) values)) c.args.item l c.args.value) (sym c.in_ok-values.ensures)
    (reads-written x seen c.args.item c.args.value l c.in_ok-answer.ensures.site) (sym c.in_ok-answer.ensures.answer ∙ e))
