use Rattle.std.proofs.Common.{ap, ◌<◌, length, refl}
use Rattle.std.proofs.lemmas.Option.{slice_get_read}
use Rattle.sat_node.proofs.Agreements.{ends_agree}
use Rattle.sat_node.proofs.opened.agree_ends.Goals as goal

pub returns-clause-agree : goal.returns-clause-agree
returns-clause-agree g c =
    let outs = c.sender.inside.outs.items in
    let ins = c.receiver.inside.ins.items in
    let from = c.index_mut-from.result.now in
    let to = c.index_mut-to.result.now in
    let out_less : c.args.out < length outs = rw (ap (λ h. length h.outs) c.sender.view_is) c.requires.0 in
    let in_less : c.args.into < length ins = rw (ap (λ h. length h.ins) c.receiver.view_is) c.requires.1 in
    let from_at = slice_get_read outs (length outs) c.args.out from refl out_less c.index_mut-from.ensures.value in
    let to_at = slice_get_read ins (length ins) c.args.into to refl in_less c.index_mut-to.ensures.value in
    rw (← c.sender.view_is, ← c.receiver.view_is) (ends_agree g.M.Machine.meaning g.K.Machine.meaning
    (record { node = c.sender.inside.node; outs = c.sender.inside.outs.items; ins = c.sender.inside.ins.items }) c.args.out
    (record { node = c.receiver.inside.node; outs = c.receiver.inside.outs.items; ins = c.receiver.inside.ins.items }) c.args.into from to
    (c.sender.invariant.sending c.args.out from from_at) (c.receiver.invariant.receiving c.args.into to to_at) from_at to_at
    (λ e. c.compare_ends.ensures.prefix (c.compare_ends.ensures.place.1 e)))
