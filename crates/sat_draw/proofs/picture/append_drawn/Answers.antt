use Rattle.std.proofs.Common.{ℕ, List, ◌++◌, ap, ◌∙◌}
use Rattle.sat_draw.specs.declared.lost.Sending.{Sending}
use Rattle.sat_draw.specs.Lost.{crosses_by}
use Rattle.sat_draw.specs.Tracks.{spot_by}
use Rattle.sat_draw.proofs.Following.{rows_done}
use Rattle.sat_draw.proofs.picture.append_drawn.Goals as goal

pub returns : goal.returns
returns c = λ entries at drawn.
    rows_done c.args.d.now c.args.out.now.items c.extend_from_slice.new.self.items c.extend_from_slice-2.new.self.items c.args.lines.items c.append_elements.new.out.items c.append_elements-2.new.out.items c.args.words.now c.args.tracks.now entries c.args.y
    c.as_slice-2.result.now c.as_slice-3.result.now
    at drawn
    (c.as_slice-2.ensures.value ∙ (c.in_ok-lost.ensures ∙ ap (λ (ss : List Sending). crosses_by (spot_by c.args.tracks.now.under_way) ss) c.as_slice.ensures.value))
    c.in_ok-append_elements.ensures.ok
    (c.as_slice-3.ensures.value ∙ c.in_ok-stays.ensures)
    c.in_ok-append_elements-2.ensures.ok
    (c.in_ok-extend_from_slice.ensures.items ∙ ap (λ (x : List ℕ). c.args.out.now.items ++ x) c.as_slice-4.ensures.value)
    c.in_ok-extend_from_slice-2.ensures.items
