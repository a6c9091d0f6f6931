use Rattle.sat_process.proofs.Saying.{each_begins, each_goes}
use Rattle.sat_process.proofs.process.Process.speak_each.Goals as goal

pub loop-link-init : goal.loop-link-init
loop-link-init g c = each_begins g.M.Machine.meaning.puts g.T.Transport.sent g.T.Transport.came c.args.most c.args.self.now

pub loop-link-preserved : goal.loop-link-preserved
loop-link-preserved g c =
    each_goes g.M.Machine.meaning.puts g.T.Transport.sent g.T.Transport.came c.args.most c.loop-link.link c.loop-link.all c.speak_link-all.result c.args.self.now c.loop-link.self c.speak_link-all.new.self c.loop-link.invariant
    (record { says = c.speak_link-all.ensures.says; others = c.speak_link-all.ensures.others; spoke = record { said = c.speak_link-all.ensures.said; came = c.speak_link-all.ensures.came; same = c.speak_link-all.ensures.same } })
