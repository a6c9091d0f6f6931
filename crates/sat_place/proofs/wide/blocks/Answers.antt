use Rattle.std.proofs.Common.{◌≡◌, ◌∙◌}
use Rattle.std.specs.List.{range_with_len}
use Rattle.rayon.proofs.ListFacts.{IfOk-then}
use Rattle.sat_place.proofs.Blocks.{range_is, in_range}
use Rattle.sat_place.proofs.wide.blocks.Goals as goal

pub collect-requires-clause-ready : goal.collect-requires-clause-ready
collect-requires-clause-ready g c κs within =
    let ends = c.into_par_iter.ensures in
    rw (c.map.ensures.base, c.map.ensures.f, c.with_min_len.ensures.base) (λ k d under. (
      (c.requires, in_range c.into_par_iter.result.start c.into_par_iter.result.end c.places-places.result c.args.d.now.places k d ends.0 ends.1 c.places-places.ensures.places under),
      λ y known. tt,
    ))

pub returns : goal.returns
returns g c =
    let ends = c.into_par_iter.ensures in
    IfOk-then c.collect.result _ _ c.collect.ensures (λ v h.
    let chain = rw (c.map.ensures.base, c.map.ensures.f, c.with_min_len.ensures.base) at h.1 in
    let places : chain.0 ≡ range_with_len 0 c.args.d.now.places =
    chain.1 ∙ range_is c.into_par_iter.result.start c.into_par_iter.result.end c.places-places.result c.args.d.now.places ends.0 ends.1 c.places-places.ensures.places in
    rw (← places, h.2) chain.2)
