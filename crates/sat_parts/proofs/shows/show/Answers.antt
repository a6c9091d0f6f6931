use Rattle.sat_parts.proofs.GearCode.{shown-count}
use Rattle.sat_parts.proofs.shows.show.Goals as goal

pub show_items-requires-clause-parts : goal.show_items-requires-clause-parts
show_items-requires-clause-parts c = shown-count c.args.gear.now.shape c.args.by c.args.payload _ c.in-Update.items c.label.ensures c.in-Update.is c.requires.shown
