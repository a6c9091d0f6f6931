use Rattle.std.proofs.Common.{◌∙◌, List, [], ◌∷◌, length, slice_get, ap, sym, arith}
use Rattle.sat_label.specs.declared.site_set.SiteSet.{SiteSet}
use Rattle.std.proofs.lemmas.List.{length-append}
use Rattle.sat_serial.proofs.Ways.{neighbour-at, far-more}
use Rattle.sat_serial.proofs.router.all_sides.Goals as goal

pub beyond-requires-clause-v : goal.beyond-requires-clause-v
beyond-requires-clause-v c = (neighbour-at c.args.tree.now c.args.number _ _ _ c.neighbours-neighbour-items.ensures.neighbours (omega arith)).node

pub beyond-requires-clause-edge : goal.beyond-requires-clause-edge
beyond-requires-clause-edge c = (neighbour-at c.args.tree.now c.args.number _ _ _ c.neighbours-neighbour-items.ensures.neighbours (omega arith)).edge

pub loop-neighbour-preserved : goal.loop-neighbour-preserved
loop-neighbour-preserved c = record {
  size = omega (arith, ap length c.in_ok-push.ensures.items, length-append c.loop-neighbour.sides.items (c.beyond.result ∷ []), c.loop-neighbour.invariant.size);
  each = λ k v side at has. far-more c.args.tree.now c.args.number c.neighbours-neighbour-items.result.now c.loop-neighbour.sides.items c.loop-neighbour.neighbour-index _ c.beyond.result
      c.loop-neighbour.invariant.size (omega arith) c.beyond.ensures.beyond c.loop-neighbour.invariant.each k v side at (ap (λ (xs : List SiteSet). slice_get xs k) (sym c.in_ok-push.ensures.items) ∙ has);
}
