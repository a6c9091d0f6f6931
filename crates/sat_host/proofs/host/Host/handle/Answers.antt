use Rattle.std.proofs.Common.{◌≡◌, ℕ, List, map, OnOk, ◌∷◌, [], ◌++◌, get_or, sym, ap, ◌∙◌, subst}
use Rattle.sat_node.specs.Links.{IsOf}
use Rattle.sat_message.specs.declared.message.Slip.{Slip}
use Rattle.sat_host_laws.specs.Messages.{HostSeen, IsWanted, messages_on, slip, wanted_then}
use Rattle.sat_host.specs.Cursors.{next_of}
use Rattle.sat_host.specs.Turns.{message_at}
use Rattle.sat_host.proofs.Slips.{messages_taken, slipped_failed, slipped_taken}
use Rattle.sat_host.proofs.Cursors.{at_taken, fails_by}
use Rattle.sat_host.proofs.host.Host.handle.Goals as goal

pub invariant_of-self-then-is_err-2 : goal.invariant_of-self-then-is_err-2
invariant_of-self-then-is_err-2 g c =
    let m = g.M.Machine.meaning in
    let inside = c.self.inside in
    let lamport = c.args.message.now.sent.lamport in
    let may = g.M.Machine.may_fail inside.node.machine c.args.input in
    let places = map next_of inside.cursors.items in (
      slipped_failed m c.take-result.result lamport c.args.input may
          (record { node = inside.node; slips = inside.slips.items; wanted = inside.wanted.items; cursors = places }) (record { node = c.take-result.new.self; slips = c.room.new.slips.items; wanted = c.room.new.wanted.items; cursors = places })
          (sym c.if-is_err-2.ensures.value) c.self.invariant.0 c.take-result.ensures.takes c.room.ensures.slips c.room.ensures.wanted,
      at_taken m c.take-result.result lamport c.args.input may inside.node c.take-result.new.self inside.cursors.items c.take-result.ensures.takes c.self.invariant.1,
    )

pub invariant_of-self-2 : goal.invariant_of-self-2
invariant_of-self-2 g c =
    let m = g.M.Machine.meaning in
    let inside = c.self.inside in
    let link = c.args.link in
    let msg = c.args.message.now in
    let may = g.M.Machine.may_fail inside.node.machine c.args.input in
    let places = map next_of inside.cursors.items in (
      slipped_taken m c.take-result.result c.args.input may
          (record { node = inside.node; slips = inside.slips.items; wanted = inside.wanted.items; cursors = places }) (record { node = c.take-result.new.self; slips = c.note.new.slips.items; wanted = c.note.new.wanted.items; cursors = places })
          link msg.number msg.sent.lamport msg.sent.body (sym c.if-is_err-2.ensures.value) c.self.invariant.0
          (subst (λ node. IsOf m node link msg.sent.body c.args.input) (sym (ap (λ h. h.node) c.self.view_is)) c.requires.carries)
          (subst (λ (n : ℕ). IsWanted n msg.number msg.sent.body) (sym (ap (λ h. get_or h.wanted link 0) c.self.view_is)) c.requires.wanted)
          c.take-result.ensures.takes c.take-result.ensures.answer
          (c.note.ensures.slips ∙ ap (λ (ss : List Slip). ss ++ slip link msg.number msg.sent.lamport ∷ []) c.room.ensures.slips)
          (λ j. c.note.ensures.wanted j ∙ ap (wanted_then link msg.sent.body j) (c.room.ensures.wanted j)),
      at_taken m c.take-result.result msg.sent.lamport c.args.input may inside.node c.take-result.new.self inside.cursors.items c.take-result.ensures.takes c.self.invariant.1,
    )

pub returns-clause-messages : goal.returns-clause-messages
returns-clause-messages g c =
    let m = g.M.Machine.meaning in
    let inside = c.self.inside in
    let link = c.args.link in
    let msg = c.args.message.now in
    let places = map next_of inside.cursors.items in
    let old : HostSeen g.row.M.Denot g.row.M-Input.Denot g.row.M-Answer.Denot = record { node = inside.node; slips = inside.slips.items; wanted = inside.wanted.items; cursors = places } in
    let new : HostSeen g.row.M.Denot g.row.M-Input.Denot g.row.M-Answer.Denot = record { node = c.take-result.new.self; slips = c.note.new.slips.items; wanted = c.note.new.wanted.items; cursors = places } in
    subst (λ h. OnOk c.take-result.result ((j : ℕ) → messages_on m new j ≡ messages_on m h j ++ message_at link msg j)) c.self.view_is
    (messages_taken m c.take-result.result c.args.input (g.M.Machine.may_fail inside.node.machine c.args.input) old new link msg (sym c.if-is_err-2.ensures.value) c.self.invariant.0
    (subst (λ node. IsOf m node link msg.sent.body c.args.input) (sym (ap (λ h. h.node) c.self.view_is)) c.requires.carries)
    c.take-result.ensures.takes c.take-result.ensures.answer
    (c.note.ensures.slips ∙ ap (λ (ss : List Slip). ss ++ slip link msg.number msg.sent.lamport ∷ []) c.room.ensures.slips))

pub returns-clause-fault : goal.returns-clause-fault
returns-clause-fault g c =
    fails_by c.take-result.result c.args.message.now.sent.lamport c.args.input (g.M.Machine.may_fail c.self.inside.node.machine c.args.input) c.args.self.now c.self.inside.node c.take-result.new.self (sym (ap (λ h. h.node) c.self.view_is)) c.take-result.ensures.takes
