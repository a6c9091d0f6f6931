use Rattle.std.proofs.Common.{◌∙◌, ◌++◌, ◌∷◌, [], set, ap, sym, subst, arith}
use Rattle.sat_undone.proofs.Tables.{number_is, small_tally, tally_more, tally_other}
use Rattle.sat_undone.specs.declared.lacking.Tally.{Tally}
use Rattle.sat_undone.specs.Counted.{AreTallies}
use Rattle.sat_undone.specs.Undone.{next_tally}
use Rattle.sat_undone.proofs.lacking.count_entry.Goals as goal

pub returns-in_default : goal.returns-in_default
returns-in_default c = λ es old. tally_other c.args.clients es c.args.entry.now c.args.tallies.now.items (sym c.session_number.ensures ∙ c.in_default.is) old

pub tally_at-requires : goal.tally_at-requires
tally_at-requires c =
    let less = number_is c.args.clients c.in-Some.number _ (sym c.session_number.ensures ∙ c.in-Some.is) in
    let all = c.requires.2.all in
    omega (arith, less, all)

pub next_tally-tally-requires : goal.next_tally-tally-requires
next_tally-tally-requires c =
    let less = number_is c.args.clients c.in-Some.number _ (sym c.session_number.ensures ∙ c.in-Some.is) in
    let small = small_tally c.args.clients c.in-Some.number c.requires.0 c.args.tallies.now.items c.requires.2 less in
    let few = c.requires.1 in
    rw c.tally_at.ensures (omega (arith, small, few))

pub returns : goal.returns
returns c = λ es old.
    let at = sym c.session_number.ensures ∙ c.in-Some.is in
    let is = c.put_tally.ensures ∙ ap (set c.args.tallies.now.items c.in-Some.number) (c.next_tally-tally.ensures ∙ ap (λ (t : Tally). next_tally t c.args.entry.now) c.tally_at.ensures) in
    subst (AreTallies c.args.clients (es ++ c.args.entry.now ∷ [])) (sym is) (tally_more c.args.clients c.in-Some.number es c.args.entry.now c.args.tallies.now.items at old)
