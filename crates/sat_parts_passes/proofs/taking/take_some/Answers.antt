use Rattle.std.proofs.Common.{sym}
use Rattle.sat_node.specs.Together.{AllSame, lent, top_of}
use Rattle.sat_node.proofs.Lent.{all_number, top_each, top_heard, top_home}
use Rattle.sat_parts_passes.proofs.Parting.{partly_from, partly_same}
use Rattle.sat_node.proofs.Ties.{on_ok}
use Rattle.sat_node.proofs.Together.{err_then, fit_same, heard_same, home_from, memory_only, never_worn, not_err, not_ok, number_same}
use Rattle.sat_parts_passes.proofs.taking.take_some.Goals as goal

pub take_home-result-requires-clause-own : goal.take_home-result-requires-clause-own
take_home-result-requires-clause-own g c =
    fit_same g.H.Machine.meaning g.H.Machine.takes_in c.args.link c.args.own c.args.home.now c.reserve_all.new.home c.reserve_all.ensures.home c.requires.own

pub take_home-result-requires-clause-number : goal.take_home-result-requires-clause-number
take_home-result-requires-clause-number g c =
    number_same c.args.home.now c.reserve_all.new.home c.in-Ok.last c.reserve_all.ensures.home
    (top_home c.args.heard c.args.link c.args.home.now (lent c.args.others.now.items) c.in-Ok.last c.in-Ok.ensures.number.0)

pub take_home-result-requires-clause-heard : goal.take_home-result-requires-clause-heard
take_home-result-requires-clause-heard g c =
    heard_same c.args.home.now c.reserve_all.new.home c.args.link c.in-Ok.last c.reserve_all.ensures.home
    (top_heard c.args.heard c.args.link c.args.home.now (lent c.args.others.now.items) c.in-Ok.last c.in-Ok.ensures.number.0)

pub take_rest-requires-clause-number : goal.take_rest-requires-clause-number
take_rest-requires-clause-number g c =
    all_number c.in-Ok.last (lent c.args.others.now.items) (lent c.reserve_all.new.others.items) c.reserve_all.ensures.others
    (top_each c.args.heard c.args.link c.args.home.now (lent c.args.others.now.items) c.in-Ok.last c.in-Ok.ensures.number.0)

pub take_rest-requires-clause-parts : goal.take_rest-requires-clause-parts
take_rest-requires-clause-parts g c =
    partly_same g.G.Machine.meaning g.G.Machine.takes_in g.G.Machine.may_fail (lent c.args.others.now.items) (lent c.reserve_all.new.others.items) c.args.parts.items c.reserve_all.ensures.others c.requires.parts

pub returns-then-is_err-clause-home : goal.returns-then-is_err-clause-home
returns-then-is_err-clause-home g c =
    home_from g.H.Machine.meaning c.take_home-result.result c.in-Ok.last _ c.args.link c.args.own.input c.args.home.now c.reserve_all.new.home c.take_home-result.new.home c.reserve_all.ensures.home c.in-Ok.ensures.number.0
    c.take_home-result.ensures.home

pub returns-then-is_err-clause-others : goal.returns-then-is_err-clause-others
returns-then-is_err-clause-others g c = not_ok _ c.take_home-result.result (sym c.if-is_err.ensures.value)

pub returns-then-is_err-clause-err : goal.returns-then-is_err-clause-err
returns-then-is_err-clause-err g c =
    err_then c.take_home-result.result c.args.home.now c.reserve_all.new.home c.take_home-result.new.home (AllSame (lent c.args.others.now.items) (lent c.reserve_all.new.others.items)) c.reserve_all.ensures.home
    c.take_home-result.ensures.err c.reserve_all.ensures.others

pub returns-then-is_err-clause-worn : goal.returns-then-is_err-clause-worn
returns-then-is_err-clause-worn g c =
    never_worn c.take_home-result.result c.in-Ok.last (top_of c.args.heard c.args.link c.args.home.now (lent c.args.others.now.items)) c.take_home-result.ensures.only c.in-Ok.ensures.number.0 c.in-Ok.ensures.number.1

pub returns-then-is_err-clause-only : goal.returns-then-is_err-clause-only
returns-then-is_err-clause-only g c = memory_only c.take_home-result.result c.take_home-result.ensures.only

pub returns-clause-home : goal.returns-clause-home
returns-clause-home g c =
    home_from g.H.Machine.meaning c.take_home-result.result c.in-Ok.last _ c.args.link c.args.own.input c.args.home.now c.reserve_all.new.home c.take_home-result.new.home c.reserve_all.ensures.home c.in-Ok.ensures.number.0
    c.take_home-result.ensures.home

pub returns-clause-others : goal.returns-clause-others
returns-clause-others g c =
    on_ok c.take_home-result.result
    (partly_from g.G.Machine.meaning c.in-Ok.last (top_of c.args.heard c.args.link c.args.home.now (lent c.args.others.now.items)) c.args.parts.items (lent c.args.others.now.items) (lent c.reserve_all.new.others.items)
    (lent c.take_rest.new.nodes.items) c.in-Ok.ensures.number.0 c.reserve_all.ensures.others c.take_rest.ensures)

pub returns-clause-err : goal.returns-clause-err
returns-clause-err g c = not_err _ c.take_home-result.result (sym c.if-is_err.ensures.value)

pub returns-clause-worn : goal.returns-clause-worn
returns-clause-worn g c =
    never_worn c.take_home-result.result c.in-Ok.last (top_of c.args.heard c.args.link c.args.home.now (lent c.args.others.now.items)) c.take_home-result.ensures.only c.in-Ok.ensures.number.0 c.in-Ok.ensures.number.1

pub returns-clause-only : goal.returns-clause-only
returns-clause-only g c = memory_only c.take_home-result.result c.take_home-result.ensures.only
