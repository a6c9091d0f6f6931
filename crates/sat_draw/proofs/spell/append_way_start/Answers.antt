use Rattle.sat_draw.specs.Elements.{way_class}
use Rattle.sat_draw.proofs.Pieces.{two}
use Rattle.sat_draw.proofs.spell.append_way_start.Goals as goal

pub returns-clause-ok : goal.returns-clause-ok
returns-clause-ok c =
    two c.args.out.now.items (way_class c.args.class.now) c.args.group.now c.append_way_class.new.out.items c.extend_from_slice.new.self.items
    c.in_ok-append_way_class.ensures.ok c.in_ok-extend_from_slice.ensures.items
