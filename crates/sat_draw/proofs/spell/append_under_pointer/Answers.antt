use Rattle.std.proofs.Common.{codes}
use Rattle.sat_draw.proofs.Pieces.{three}
use Rattle.sat_draw.proofs.spell.append_under_pointer.Goals as goal

pub returns-clause-ok : goal.returns-clause-ok
returns-clause-ok c =
    three c.args.out.now.items (codes "<style>svg:has(.") c.args.group.now (codes ":hover) .")
    c.extend_from_slice.new.self.items c.extend_from_slice-2.new.self.items c.extend_from_slice-3.new.self.items
    c.in_ok-extend_from_slice.ensures.items c.in_ok-extend_from_slice-2.ensures.items c.in_ok-extend_from_slice-3.ensures.items
