use Rattle.std.proofs.Common.{[], ◌∷◌, ◌<◌, Err, arith, sym}
use Rattle.sat_node.specs.Seen.{last_number}
use Rattle.sat_node.specs.Together.{SameHeld, top_of}
use Rattle.sat_node.proofs.Lent.{top_heard, top_home, top_other}
use Rattle.sat_node.proofs.Ties.{on_ok}
use Rattle.sat_node.proofs.Together.{err_then, fit_same, heard_same, home_from, memory_only, never_worn, not_err, not_ok, number_same, some_from, sure_same}
use Rattle.sat_node.proofs.joint.take_both.Goals as goal

pub reserve_both-requires-clause-home : goal.reserve_both-requires-clause-home
reserve_both-requires-clause-home g c = top_home c.args.heard c.args.link c.args.home.now (c.args.other.now ∷ []) c.top_both-last.result c.top_both-last.ensures

pub reserve_both-requires-clause-other : goal.reserve_both-requires-clause-other
reserve_both-requires-clause-other g c = top_other c.args.heard c.args.link c.args.home.now c.args.other.now c.top_both-last.result c.top_both-last.ensures

pub take_home-answer-requires-clause-own : goal.take_home-answer-requires-clause-own
take_home-answer-requires-clause-own g c =
    fit_same g.H.Machine.meaning g.H.Machine.takes_in c.args.link c.args.own c.args.home.now c.reserve_both.new.home c.reserve_both.ensures.home c.requires.own

pub take_home-answer-requires-clause-number : goal.take_home-answer-requires-clause-number
take_home-answer-requires-clause-number g c =
    number_same c.args.home.now c.reserve_both.new.home c.top_both-last.result c.reserve_both.ensures.home
    (top_home c.args.heard c.args.link c.args.home.now (c.args.other.now ∷ []) c.top_both-last.result c.top_both-last.ensures)

pub take_home-answer-requires-clause-heard : goal.take_home-answer-requires-clause-heard
take_home-answer-requires-clause-heard g c =
    heard_same c.args.home.now c.reserve_both.new.home c.args.link c.top_both-last.result c.reserve_both.ensures.home
    (top_heard c.args.heard c.args.link c.args.home.now (c.args.other.now ∷ []) c.top_both-last.result c.top_both-last.ensures)

pub take_sure-requires-clause-part : goal.take_sure-requires-clause-part
take_sure-requires-clause-part g c =
    sure_same g.G.Machine.meaning g.G.Machine.takes_in g.G.Machine.may_fail c.args.part c.args.other.now c.reserve_both.new.other c.reserve_both.ensures.other c.requires.part

pub take_sure-requires-clause-number : goal.take_sure-requires-clause-number
take_sure-requires-clause-number g c =
    number_same c.args.other.now c.reserve_both.new.other c.top_both-last.result c.reserve_both.ensures.other
    (top_other c.args.heard c.args.link c.args.home.now c.args.other.now c.top_both-last.result c.top_both-last.ensures)

pub returns-in-Err-clause-worn : goal.returns-in-Err-clause-worn
returns-in-Err-clause-worn g c =
    let less : c.top_both-last.result < last_number = omega arith in
    never_worn (Err c.in-Err.fault) c.top_both-last.result (top_of c.args.heard c.args.link c.args.home.now (c.args.other.now ∷ [])) c.in-Err.ensures.only c.top_both-last.ensures less

pub returns-then-is_err-clause-home : goal.returns-then-is_err-clause-home
returns-then-is_err-clause-home g c =
    home_from g.H.Machine.meaning c.take_home-answer.result c.top_both-last.result _ c.args.link c.args.own.input c.args.home.now c.reserve_both.new.home c.take_home-answer.new.home c.reserve_both.ensures.home c.top_both-last.ensures
    c.take_home-answer.ensures.home

pub returns-then-is_err-clause-other : goal.returns-then-is_err-clause-other
returns-then-is_err-clause-other g c = not_ok _ c.take_home-answer.result (sym c.if-is_err.ensures.value)

pub returns-then-is_err-clause-err : goal.returns-then-is_err-clause-err
returns-then-is_err-clause-err g c =
    err_then c.take_home-answer.result c.args.home.now c.reserve_both.new.home c.take_home-answer.new.home (SameHeld c.args.other.now c.reserve_both.new.other) c.reserve_both.ensures.home c.take_home-answer.ensures.err c.reserve_both.ensures.other

pub returns-then-is_err-clause-worn : goal.returns-then-is_err-clause-worn
returns-then-is_err-clause-worn g c =
    let less : c.top_both-last.result < last_number = omega arith in
    never_worn c.take_home-answer.result c.top_both-last.result (top_of c.args.heard c.args.link c.args.home.now (c.args.other.now ∷ [])) c.take_home-answer.ensures.only c.top_both-last.ensures less

pub returns-then-is_err-clause-only : goal.returns-then-is_err-clause-only
returns-then-is_err-clause-only g c = memory_only c.take_home-answer.result c.take_home-answer.ensures.only

pub returns-clause-home : goal.returns-clause-home
returns-clause-home g c =
    home_from g.H.Machine.meaning c.take_home-answer.result c.top_both-last.result _ c.args.link c.args.own.input c.args.home.now c.reserve_both.new.home c.take_home-answer.new.home c.reserve_both.ensures.home c.top_both-last.ensures
    c.take_home-answer.ensures.home

pub returns-clause-other : goal.returns-clause-other
returns-clause-other g c =
    on_ok c.take_home-answer.result
    (some_from g.G.Machine.meaning c.top_both-last.result (top_of c.args.heard c.args.link c.args.home.now (c.args.other.now ∷ [])) c.args.part.input c.args.other.now c.reserve_both.new.other c.take_sure.new.node c.reserve_both.ensures.other
    c.top_both-last.ensures c.take_sure.ensures)

pub returns-clause-err : goal.returns-clause-err
returns-clause-err g c = not_err _ c.take_home-answer.result (sym c.if-is_err.ensures.value)

pub returns-clause-worn : goal.returns-clause-worn
returns-clause-worn g c =
    let less : c.top_both-last.result < last_number = omega arith in
    never_worn c.take_home-answer.result c.top_both-last.result (top_of c.args.heard c.args.link c.args.home.now (c.args.other.now ∷ [])) c.take_home-answer.ensures.only c.top_both-last.ensures less

pub returns-clause-only : goal.returns-clause-only
returns-clause-only g c = memory_only c.take_home-answer.result c.take_home-answer.ensures.only
