use Rattle.sat_proxy.proofs.Starting.{starts}
use Rattle.sat_proxy.proofs.Answering.{each-answers}
use Rattle.sat_proxy.proofs.Following.{each-follows}
use Rattle.sat_proxy.proofs.proxy_laws.Goals as goal

pub returns-clause-starts : goal.returns-clause-starts
returns-clause-starts c = starts

pub returns-clause-answers : goal.returns-clause-answers
returns-clause-answers c = each-answers

pub returns-clause-follows : goal.returns-clause-follows
returns-clause-follows c = each-follows
