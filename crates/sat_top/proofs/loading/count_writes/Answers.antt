use Rattle.std.proofs.Common.{◌≡◌, ◌∷◌, ◌∙◌, refl, rules}
use Rattle.sat_settle.specs.LoadDraft.{drafted}
use Rattle.sat_top.proofs.Counting.{counts_on, counts_start}
use Rattle.sat_top.proofs.loading.count_writes.Goals as goal

pub loop-draft-init : goal.loop-draft-init
loop-draft-init c = record { deployment = refl; counts = counts_start c.args.world.now.deployment c.args.world.now c.args.coming c.requires.fresh c.requires.acts }

pub loop-draft-preserved : goal.loop-draft-preserved
loop-draft-preserved c =
    let next : c.loop-draft.coming ≡ drafted c.in-Some.draft ∷ c.next.new.self = search rules in
    record {
      deployment = c.in_ok-written.ensures.deployment ∙ c.loop-draft.invariant.deployment;
      counts =
          counts_on c.args.world.now.deployment c.loop-draft.world c.count_draft.new.world c.loop-draft.written c.in_ok-written.field-0 c.loop-draft.coming c.next.new.self c.args.coming (drafted c.in-Some.draft)
          c.loop-draft.invariant.deployment next c.in_ok-written.ensures.one c.in_ok-written.ensures.counting c.loop-draft.invariant.counts;
    }
