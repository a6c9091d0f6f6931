use Rattle.std.proofs.Common.{rules, ◌<◌, ◌+◌, length, slice_get, refl, ap, sym, ◌∙◌, arith}
use Rattle.std.proofs.lemmas.Option.{slice_get_read}
use Rattle.sat_node.specs.Puts.{OutSeen}
use Rattle.sat_node.proofs.Sending.{numbers_left, sends_same, sends_next, if_true, if_false}
use Rattle.sat_node.proofs.outs.Out.flush_one.Goals as goal

pub send-requires : goal.send-requires
send-requires g c =
    let left = numbers_left (g.M.Machine.meaning.puts c.args.name c.args.link) c.args.journal.now c.args.self.now c.requires in
    let here = ap (λ (o : OutSeen). o.next) c.self.view_is in
    let less = c.in-Some.ensures.lookup.3.0 in
    let few : length c.args.journal.now < 18446744073709551616 = search rules in
    ((λ gear. let most = left.0 gear in omega arith), (let most = left.1 in omega arith))

pub returns-then-not-sent-clause-sends : goal.returns-then-not-sent-clause-sends
returns-then-not-sent-clause-sends g c =
    sends_same (g.M.Machine.meaning.puts c.args.name c.args.link) c.args.journal.now c.args.self.now c.send.new.self
    (let full = if_false _ _ c.in_ok-sent.sent c.if-not-sent.true c.in_ok-sent.ensures.sent in full.same) c.requires

pub returns-clause-sends : goal.returns-clause-sends
returns-clause-sends g c =
    let looked = c.in-Some.ensures.lookup in
    let at = ap (slice_get c.args.journal.now) (sym (ap (λ (o : OutSeen). o.next) c.self.view_is)) ∙ slice_get_read c.args.journal.now (length c.args.journal.now) c.self.inside.next c.in-Some.kept.now refl looked.3.0 looked.1 in
    let after = c.self-2.view_is in
    sends_next (g.M.Machine.meaning.puts c.args.name c.args.link) c.args.journal.now c.in-Some.kept.now c.args.self.now c.send.new.self _ c.in_ok-made.made at c.in_ok-made.ensures
    (if_true _ _ c.in_ok-sent.sent c.if-not-sent.false c.in_ok-sent.ensures.sent)
    (ap (λ (o : OutSeen). o.next + 1) after) (ap (λ (o : OutSeen). o.link) after) (ap (λ (o : OutSeen). o.payloads) after) (ap (λ (o : OutSeen). o.beats) after) c.requires
