use Rattle.std.proofs.Common.{◌∙◌, ap, length}
use Rattle.sat_place.specs.Search.{best_from}
use Rattle.sat_place.specs.Ways.{known}
use Rattle.sat_place.proofs.Worth.{is_least, is_found}
use Rattle.sat_place.proofs.narrow.least.Goals as goal

pub returns-clause-least : goal.returns-clause-least
returns-clause-least c =
    is_least c.args.d.now c.args.tree.now c.deref.result.now c.in_ok-placed.placed c.in_ok-ways.ensures.sound.limits c.serializers.ensures.limits
    (c.deref.ensures.value ∙ c.in_ok-ways.ensures.ways)
    (c.in_ok-placed.ensures ∙ ap (λ n. best_from (known c.args.d.now c.deref.result.now) c.args.d.now.places n c.new-none.result) c.serializers.ensures.serializers
    ∙ ap (best_from (known c.args.d.now c.deref.result.now) c.args.d.now.places (length c.args.tree.now.parents)) c.new-none.ensures)

pub returns-clause-found : goal.returns-clause-found
returns-clause-found c = is_found c.args.d.now c.args.tree.now c.in_ok-placed.placed.places c.in_ok-placed.placed.mismatch c.in_ok-ways.ensures.sound.limits.some_place (returns-clause-least c)
