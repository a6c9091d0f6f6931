use Rattle.std.specs.Prelude.{ℕ, Some, None}
use Rattle.std.proofs.Common.{arith, sym, subst, ◌∙◌}
use Rattle.std.proofs.lemmas.List.{get_or_default}
use Rattle.sat_verdict.specs.declared.tale.Tale.TheVariants.{Other}
use Rattle.sat_verdict.specs.Tables.{HasClients}
use Rattle.sat_verdict.proofs.Noting.{fresh-scan, none-above, read-some, read-none}
use Rattle.sat_verdict.proofs.readers.is_fresh.Goals as goal

pub returns-in-ReadSome-clause-fresh : goal.returns-in-ReadSome-clause-fresh
returns-in-ReadSome-clause-fresh c = λ t.
    read-some c.args.tales.now c.args.numbers.now c.args.rows.now c.args.place _ c.in-ReadSome.client c.in-ReadSome.item c.in-ReadSome.point (get_or_default c.args.tales.now c.args.place Other _ c.requires.place ∙ c.in-ReadSome.is)
    (fresh-scan c.args.tales.now c.args.numbers.now c.args.rows.now c.catch_up_all.new.noted.items c.args.reader c.args.place c.in-ReadSome.item (Some c.in-ReadSome.point)
    (none-above c.catch_up_all.new.noted.items c.as_slice.result.now c.args.reader c.in-ReadSome.item c.greatest_of.result (Some c.in-ReadSome.point) c.is_none_above.result c.as_slice.ensures.value c.greatest_of.ensures c.is_none_above.ensures t)
    c.catch_up_all.new.places (subst (λ (n : ℕ). HasClients n c.args.tales.now) (sym c.catch_up_all.ensures.places) c.requires.clients) (omega (arith, c.requires.place)) c.catch_up_all.ensures.read c.catch_up_all.ensures.past)

pub returns-in-ReadNone-clause-fresh : goal.returns-in-ReadNone-clause-fresh
returns-in-ReadNone-clause-fresh c = λ t.
    read-none c.args.tales.now c.args.numbers.now c.args.rows.now c.args.place _ c.in-ReadNone.client c.in-ReadNone.item (get_or_default c.args.tales.now c.args.place Other _ c.requires.place ∙ c.in-ReadNone.is)
    (fresh-scan c.args.tales.now c.args.numbers.now c.args.rows.now c.catch_up_all-in-ReadNone.new.noted.items c.args.reader c.args.place c.in-ReadNone.item None
    (none-above c.catch_up_all-in-ReadNone.new.noted.items c.as_slice-in-ReadNone.result.now c.args.reader c.in-ReadNone.item c.greatest_of-in-ReadNone.result None c.is_none_above-in-ReadNone.result
    c.as_slice-in-ReadNone.ensures.value c.greatest_of-in-ReadNone.ensures c.is_none_above-in-ReadNone.ensures t)
    c.catch_up_all-in-ReadNone.new.places (subst (λ (n : ℕ). HasClients n c.args.tales.now) (sym c.catch_up_all-in-ReadNone.ensures.places) c.requires.clients) (omega (arith, c.requires.place))
    c.catch_up_all-in-ReadNone.ensures.read c.catch_up_all-in-ReadNone.ensures.past)
