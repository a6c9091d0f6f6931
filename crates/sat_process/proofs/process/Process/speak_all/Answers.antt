use Rattle.sat_process.proofs.Saying.{IsPassed, of_ended, of_more, of_none, passed_lost, passed_sent, passed_unspelled}
use Rattle.sat_process.proofs.process.Process.speak_all.Goals as goal
use Rattle.sat_process.proofs.process.Process.speak_all.Goals.{in-Sent, in-Lost, in-Unspelled}

pub loop-said-init : goal.loop-said-init
loop-said-init g c = of_none g.M.Machine.meaning.puts g.T.Transport.sent g.T.Transport.came c.args.link c.args.self.now

pub returns-in-Nothing-clause-says : goal.returns-in-Nothing-clause-says
returns-in-Nothing-clause-says g c =
    of_ended g.M.Machine.meaning.puts g.T.Transport.sent g.T.Transport.came c.args.link c.args.most c.loop-said.said c.args.self.now c.loop-said.self c.speak.new.self c.loop-said.invariant
    (record { says = c.in-Nothing.ensures.says; came = c.in-Nothing.ensures.came; same = c.in-Nothing.ensures.same; others = c.in-Nothing.ensures.others })

pub loop-said-preserved : goal.loop-said-preserved
loop-said-preserved g c =
    let step = λ (p : IsPassed c.speak.result). of_more g.M.Machine.meaning.puts g.T.Transport.sent g.T.Transport.came c.args.link c.loop-said.said c.speak.result c.args.self.now c.loop-said.self c.speak.new.self p c.loop-said.invariant
    (record { says = c.speak.ensures.says; came = c.speak.ensures.came; same = c.speak.ensures.same; others = c.speak.ensures.others }) in
    elim c.match-speak.branch [ in-Sent w ↦ step (passed_sent _ w.in-Sent.is) | in-Lost w ↦ step (passed_lost _ w.in-Lost.is) | in-Unspelled w ↦ step (passed_unspelled _ w.in-Unspelled.is) ]
