use Rattle.std.specs.Prelude.{List, refl}
use Rattle.std.proofs.Common.{subst, sym, ◌∙◌}
use Rattle.std.proofs.lemmas.List.{get_or_default}
use Rattle.sat_label.specs.declared.site_set.SiteSet.{SiteSet}
use Rattle.sat_verdict.specs.Walks.{AreDone}
use Rattle.sat_verdict.proofs.Passed.{pass-start, pass-next, end-causal, end-once}
use Rattle.sat_verdict.proofs.Clear.{done-start, done-falls}
use Rattle.sat_verdict.proofs.shows.judge_shows.Goals as goal

pub loop-place-init : goal.loop-place-init
loop-place-init c =
    let s = pass-start c.args.sets.now c.args.tales.now c.in_ok-unshown.unshown.items c.requires.unique c.in_ok-unshown.ensures.size c.in_ok-unshown.ensures.kept in (
      s.0,
      s.1,
      s.2,
      s.3,
      done-start c.args.tales.now c.args.numbers.now c.in_ok-unshown.unshown.items c.args.clients c.args.links.now.heads.items c.args.links.now.next.items c.in_ok-done.done.items
          c.requires.clients c.requires.links (λ k l. c.in_ok-done.ensures k l ∙ c.as_slice.ensures.value),
    )

pub is_clear-clear-requires-clause-done : goal.is_clear-clear-requires-clause-done
is_clear-clear-requires-clause-done c =
    subst (λ (ys : List SiteSet). AreDone c.args.tales.now c.args.numbers.now ys c.loop-place.done.items) (sym c.as_slice-in-loop-place.ensures.value) c.loop-place.invariant.4

pub loop-place-preserved : goal.loop-place-preserved
loop-place-preserved c =
    let s =
    pass-next c.args.sets.now c.args.tales.now c.args.rows.now c.args.numbers.now c.args.clients c.loop-place.place _
    c.loop-place.unshown.items c.as_slice-in-loop-place-2.result.now c.as_slice-in-loop-place-3.result.now c.show.new.unshown.items
    c.loop-place.causal c.next_causal-causal.result c.loop-place.once c.next_once-once.result c.site-site.result _
    c.requires.unique c.requires.clients c.requires.numbers c.requires.rows c.requires.sites c.loop-place-test.true
    (get_or_default c.args.tales.now c.loop-place.place _ _ c.loop-place-test.true) c.site-site.ensures refl
    (c.loop-place.invariant.0, c.loop-place.invariant.1, c.loop-place.invariant.2, c.loop-place.invariant.3)
    c.as_slice-in-loop-place-2.ensures.value c.next_causal-causal.ensures c.as_slice-in-loop-place-3.ensures.value c.next_once-once.ensures
    c.show.ensures.size c.show.ensures.still c.show.ensures.unmade c.show.ensures.apart c.show.ensures.here
    in (
      s.0,
      s.1,
      s.2,
      s.3,
      done-falls c.args.tales.now c.args.numbers.now c.loop-place.unshown.items c.show.new.unshown.items c.is_clear-clear.new.done.items c.show.ensures.falls
          (subst (λ (ys : List SiteSet). AreDone c.args.tales.now c.args.numbers.now ys c.is_clear-clear.new.done.items) c.as_slice-in-loop-place.ensures.value c.is_clear-clear.ensures.done),
    )

pub returns-clause-causal : goal.returns-clause-causal
returns-clause-causal c = end-causal c.args.sets.now c.args.tales.now c.loop-place.place c.loop-place.causal c.loop-place-test.false c.loop-place.invariant.0

pub returns-clause-once : goal.returns-clause-once
returns-clause-once c = end-once c.args.sets.now c.args.tales.now c.loop-place.place c.loop-place.once c.loop-place-test.false c.loop-place.invariant.1
