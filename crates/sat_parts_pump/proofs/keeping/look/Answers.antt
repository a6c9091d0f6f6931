use Rattle.std.proofs.Common.{◌∙◌, ℕ, ◌+◌, ◌≤◌, max, List, drop, length, refl, sym, ap, arith}
use Rattle.std.proofs.lemmas.Option.{slice_get_read}
use Rattle.sat_hub.specs.Seen.{HubSeen}
use Rattle.sat_node.specs.Seen.{NodeSeen}
use Rattle.sat_parts.specs.declared.hub_answer.HubAnswer.{HubAnswer}
use Rattle.sat_parts.specs.Acts.{HubActSeen}
use Rattle.sat_parts_passes.specs.Sendings.{HubKept}
use Rattle.sat_parts_pump.specs.Times.{most_in, ts_in}
use Rattle.sat_parts_pump.proofs.Times.{most_done, most_next}
use Rattle.sat_parts_pump.proofs.keeping.look.Goals as goal

pub loop-at-preserved : goal.loop-at-preserved
loop-at-preserved g c =
    let at = slice_get_read c.journal-journal.result.now (length c.journal-journal.result.now) c.loop-at.at c.index-journal-at.result refl (let t = c.loop-at-test.true in omega arith) c.index-journal-at.is in
    ap (λ (t : ℕ). most_in t (drop (c.loop-at.at + 1) c.journal-journal.result.now)) (c.max-most.ensures ∙ ap (max c.loop-at.most) (c.ts_in.ensures ∙ ap ts_in c.input.ensures.input))
    ∙ (most_next c.loop-at.most c.loop-at.at (c.loop-at.at + 1) c.journal-journal.result.now c.index-journal-at.result at refl ∙ c.loop-at.invariant)

pub returns : goal.returns
returns g c =
    let le : length c.journal-journal.result.now ≤ c.loop-at.at = (let past = c.loop-at-test.false in omega arith) in
    sym (most_done c.loop-at.most c.loop-at.at c.journal-journal.result.now le)
    ∙ (c.loop-at.invariant ∙ ap (λ (ks : List HubKept). most_in c.args.ts (drop c.args.upto ks)) (c.journal-journal.ensures.entries ∙ ap (λ (n : NodeSeen HubSeen HubActSeen HubAnswer). n.entries) c.node.ensures.node))
