use Rattle.std.proofs.Common.{ℕ, List, ◌++◌, ap, codes, ◌∙◌}
use Rattle.sat_draw.specs.Head.{caption}
use Rattle.sat_draw.proofs.Pieces.{three}
use Rattle.sat_draw.proofs.picture.append_title.Goals as goal

pub returns : goal.returns
returns c =
    three c.args.out.now.items (codes "role='img' aria-labelledby='t'>\n<title id='t'>") (caption c.args.d.now c.args.count) (codes "</title>\n")
    c.extend_from_slice.new.self.items c.extend_from_slice-2.new.self.items c.extend_from_slice-3.new.self.items
    c.in_ok-extend_from_slice.ensures.items
    (c.in_ok-extend_from_slice-2.ensures.items ∙ ap (λ (t : List ℕ). c.extend_from_slice.new.self.items ++ t) (c.bytes.ensures ∙ c.in_ok-title.ensures))
    c.in_ok-extend_from_slice-3.ensures.items
