use Rattle.std.proofs.Common.{sym, ap, ◌∙◌, ◌||◌, eqb, get_or, take}
use Rattle.std.proofs.lemmas.List.{take_more, take_all}
use Rattle.sat_label.specs.Words.{bit}
use Rattle.sat_script.specs.Words.{set_of}
use Rattle.sat_script.proofs.Sites.{same_set, bit_zero}
use Rattle.sat_script.proofs.Lists.{set_next}
use Rattle.sat_script.proofs.list.set_of.Goals as goal

pub loop-site-init : goal.loop-site-init
loop-site-init c = same_set c.none-set.result.bits 0 (λ k. c.none-set.ensures k ∙ sym (bit_zero k))

pub loop-site-preserved : goal.loop-site-preserved
loop-site-preserved c =
    let site = get_or c.args.sites.now c.loop-site.site-index 0 in
    set_next (take c.loop-site.site-index c.args.sites.now) site c.with-set.result.bits (λ k. c.with-set.ensures k ∙ ap (λ bits. bit bits k || eqb k site) c.loop-site.invariant)
    ∙ ap set_of (sym (take_more c.args.sites.now c.loop-site.site-index 0 c.loop-site-test.true))

pub returns : goal.returns
returns c = ap (λ bits. record { bits = bits }) (c.loop-site.invariant ∙ ap set_of (take_all c.loop-site.site-index c.args.sites.now c.loop-site-test.false))
