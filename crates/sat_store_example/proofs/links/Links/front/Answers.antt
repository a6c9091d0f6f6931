use Rattle.std.proofs.Common.{◌∙◌, List, slice_get, sym, ap}
use Rattle.sat_label.specs.declared.label.Label.{Label}
use Rattle.sat_store_example.specs.Waiting.{link_of}
use Rattle.sat_store_example.specs.declared.links.TheConstants.{LINKS}
use Rattle.sat_store_example.proofs.Beyond.{none-beyond}
use Rattle.sat_store_example.proofs.links.Links.front.Goals as goal

pub returns-then-epoch-ge-LINKS-clause-front : goal.returns-then-epoch-ge-LINKS-clause-front
returns-then-epoch-ge-LINKS-clause-front c =
    sym (none-beyond c.self.inside.queues.items LINKS c.args.epoch c.self.invariant c.if-epoch-ge-LINKS.true)
    ∙ ap (λ (links : List (List Label)). slice_get (link_of links c.args.epoch) 0) c.self.view_is
