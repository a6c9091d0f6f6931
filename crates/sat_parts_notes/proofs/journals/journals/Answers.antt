use Rattle.std.proofs.Common.{◌≡◌, ◌∙◌, ◌+◌, ◌++◌, ap, length, map, arith, vec_len, append_assoc}
use Rattle.sat_joint.specs.Seen.{seen}
use Rattle.sat_parts_notes.specs.Collecting.{at_places, lines_at_gear, lines_at_hub, lines_at_serial, node_count, part_lines, session_journal}
use Rattle.sat_parts_notes.proofs.Loops.{base-is}
use Rattle.sat_parts_notes.proofs.journals.journals.Goals as goal

pub returns : goal.returns
returns g c =
    let nodes : map seen c.add_serials.new.list.items ≡ at_places 0 (part_lines c.args.hubs.now c.args.gears.now c.args.serials.now) =
    c.in_ok-add_serials.ensures (map lines_at_hub c.args.hubs.now ++ map lines_at_gear c.args.gears.now) (c.in_ok-add_gears.ensures (map lines_at_hub c.args.hubs.now) c.in_ok-add_hubs.ensures)
    ∙ ap (at_places 0) (append_assoc (map lines_at_hub c.args.hubs.now) (map lines_at_gear c.args.gears.now) (map lines_at_serial c.args.serials.now)) in
    let long : c.len.result ≡ length c.add_serials.new.list.items = omega (arith, c.len.ensures, c.add_serials.new.list.ok.0) in
    let base : c.in_ok-base.base ≡ node_count c.args.hubs.now c.args.gears.now c.args.serials.now = base-is c.add_serials.new.list.items c.args.hubs.now c.args.gears.now c.args.serials.now c.in_ok-base.base c.len.result c.in_ok-base.ensures long nodes in
    c.in_ok-add_sessions.ensures ∙ (λ i. nodes i ++ map (session_journal (base i)) c.args.sessions.now)
