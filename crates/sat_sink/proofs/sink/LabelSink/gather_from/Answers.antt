use Rattle.sat_label.specs.declared.label.Label.{Label}
use Rattle.std.proofs.Common.{ap, ◌∙◌, arith, List, map}
use Rattle.std.proofs.lemmas.List.{take_at}
use Rattle.sat_queue.specs.Queued.{Queued, members_of}
use Rattle.sat_sink.specs.Pending.{labels_of, joined}
use Rattle.sat_gear.specs.Gear.{drained_of}
use Rattle.sat_sink.proofs.Deeds.{gathers}
use Rattle.sat_sink.proofs.sink.LabelSink.gather_from.Goals as goal

pub invariant_of-self-2 : goal.invariant_of-self-2
invariant_of-self-2 c =
    (gathers _ _ _ _ _ c.self.view_is c.self.invariant c.requires
    (take_at _ _ _ (omega arith) ∙ c.note_promises_of.ensures)
    (ap (λ (qs : List (Queued Label)). map members_of qs) (take_at _ _ _ (omega arith)) ∙ (c.extend_from.ensures ∙ ap (λ (ls : List (List _)). joined ls (map labels_of (map drained_of c.args.gears.now))) (ap (λ (qs : List (Queued Label)). map members_of qs) (c.deref_mut-2.ensures.value ∙ take_at _ _ _ (omega arith)) ∙ (c.reserve_from.ensures.labels ∙ ap (λ (qs : List (Queued Label)). map members_of qs) c.deref_mut.ensures.value))))).sink

pub returns-clause-cut : goal.returns-clause-cut
returns-clause-cut c =
    (gathers _ _ _ _ _ c.self.view_is c.self.invariant c.requires
    (take_at _ _ _ (omega arith) ∙ c.note_promises_of.ensures)
    (ap (λ (qs : List (Queued Label)). map members_of qs) (take_at _ _ _ (omega arith)) ∙ (c.extend_from.ensures ∙ ap (λ (ls : List (List _)). joined ls (map labels_of (map drained_of c.args.gears.now))) (ap (λ (qs : List (Queued Label)). map members_of qs) (c.deref_mut-2.ensures.value ∙ take_at _ _ _ (omega arith)) ∙ (c.reserve_from.ensures.labels ∙ ap (λ (qs : List (Queued Label)). map members_of qs) c.deref_mut.ensures.value))))).cut
