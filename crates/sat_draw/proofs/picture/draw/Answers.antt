use Rattle.std.proofs.Common.{List, ℕ, reverse, ◌++◌, length, refl, ap, ◌∙◌}
use Rattle.sat_draw.proofs.Arrowed.{ways_told}
use Rattle.sat_draw.proofs.Hauled.{smalls_told}
use Rattle.sat_draw.proofs.Marks.{each_once}
use Rattle.sat_draw.proofs.Seated.{paths_at_seats}
use Rattle.sat_draw.proofs.Whole.{whole}
use Rattle.sat_draw.proofs.picture.draw.Goals as goal

pub returns-clause-text : goal.returns-clause-text
returns-clause-text c =
    whole c.args.d.now c.args.entries.now c.args.moved.now (length c.args.entries.now) c.in_ok-text.text.items c.extend_from_slice.new.self.items c.append_moved.new.out.items c.append_head.new.out.items c.append_rows.new.out.items c.extend_from_slice-2.new.self.items
    refl c.in_ok-text.ensures
    (c.in_ok-extend_from_slice.ensures.items ∙ ap (λ (x : List ℕ). c.in_ok-text.text.items ++ x) (c.as_bytes.ensures.value ∙ c.legend.ensures))
    c.in_ok-append_moved.ensures c.in_ok-append_head.ensures c.in_ok-append_rows.ensures.added c.in_ok-extend_from_slice-2.ensures.items

pub returns-clause-once : goal.returns-clause-once
returns-clause-once c = each_once c.args.d.now (reverse c.args.entries.now)

pub returns-clause-told : goal.returns-clause-told
returns-clause-told c = ways_told c.args.d.now (reverse c.args.entries.now)

pub returns-clause-seats : goal.returns-clause-seats
returns-clause-seats c = paths_at_seats c.args.d.now (reverse c.args.entries.now)

pub returns-clause-small : goal.returns-clause-small
returns-clause-small c = smalls_told c.args.d.now c.args.moved.now
