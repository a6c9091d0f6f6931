use Rattle.sat_draw.proofs.Whole.{started}
use Rattle.sat_draw.proofs.picture.start.Goals as goal

pub returns : goal.returns
returns c =
    started c.args.d.now c.args.count c.args.top c.answers_x.result c.new-text.result.items c.append_opening.new.out.items c.append_title.new.out.items
    c.new-text.ensures.items c.answers_x.ensures.x c.requires.top c.in_ok-append_opening.ensures c.in_ok-append_title.ensures
