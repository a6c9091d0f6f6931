use Rattle.std.proofs.Common.{◌<◌, Err, Ok, ap, arith, ◌∙◌}
use Rattle.sat_node.specs.Seen.{last_number}
use Rattle.sat_node.specs.Together.{lent, top_of}
use Rattle.sat_node.proofs.Lent.{top_each, top_home}
use Rattle.sat_node.proofs.Together.{never_worn}
use Rattle.sat_node.proofs.joint.reserve_all.Goals as goal

pub reserve_one-requires-clause-number : goal.reserve_one-requires-clause-number
reserve_one-requires-clause-number g c =
    let is = c.top_all-last.ensures ∙ ap (λ l. top_of c.args.heard c.args.link c.args.home.now (lent l)) c.as_slice.ensures.value in
    top_home c.args.heard c.args.link c.args.home.now (lent c.args.others.now.items) c.top_all-last.result is

pub reserve_rest-requires-clause-number : goal.reserve_rest-requires-clause-number
reserve_rest-requires-clause-number g c =
    let is = c.top_all-last.ensures ∙ ap (λ l. top_of c.args.heard c.args.link c.args.home.now (lent l)) c.as_slice.ensures.value in
    top_each c.args.heard c.args.link c.args.home.now (lent c.args.others.now.items) c.top_all-last.result is

pub returns-in-Err-clause-worn : goal.returns-in-Err-clause-worn
returns-in-Err-clause-worn g c =
    let is = c.top_all-last.ensures ∙ ap (λ l. top_of c.args.heard c.args.link c.args.home.now (lent l)) c.as_slice.ensures.value in
    let less : c.top_all-last.result < last_number = omega arith in
    never_worn (Err c.in-Err.fault) c.top_all-last.result (top_of c.args.heard c.args.link c.args.home.now (lent c.args.others.now.items)) c.in-Err.ensures.only is less

pub returns-in-Err-reserve_rest-clause-worn : goal.returns-in-Err-reserve_rest-clause-worn
returns-in-Err-reserve_rest-clause-worn g c =
    let is = c.top_all-last.ensures ∙ ap (λ l. top_of c.args.heard c.args.link c.args.home.now (lent l)) c.as_slice.ensures.value in
    let less : c.top_all-last.result < last_number = omega arith in
    never_worn (Err c.in-Err-reserve_rest.fault) c.top_all-last.result (top_of c.args.heard c.args.link c.args.home.now (lent c.args.others.now.items)) c.in-Err-reserve_rest.ensures.only is less

pub returns-clause-worn : goal.returns-clause-worn
returns-clause-worn g c =
    let is = c.top_all-last.ensures ∙ ap (λ l. top_of c.args.heard c.args.link c.args.home.now (lent l)) c.as_slice.ensures.value in
    let less : c.top_all-last.result < last_number = omega arith in
    never_worn (Ok c.top_all-last.result) c.top_all-last.result (top_of c.args.heard c.args.link c.args.home.now (lent c.args.others.now.items)) tt is less

pub returns-clause-number : goal.returns-clause-number
returns-clause-number g c =
    let is = c.top_all-last.ensures ∙ ap (λ l. top_of c.args.heard c.args.link c.args.home.now (lent l)) c.as_slice.ensures.value in
    let less : c.top_all-last.result < last_number = omega arith in
    (is, less)
