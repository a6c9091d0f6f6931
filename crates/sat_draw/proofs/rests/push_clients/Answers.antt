use Rattle.sat_draw.specs.Rows.{begin}
use Rattle.sat_draw.specs.Tracks.{seat_by, spot_by}
use Rattle.sat_draw.proofs.Staying.{no_clients, more_clients}
use Rattle.sat_draw.proofs.rests.push_clients.Goals as goal

pub loop-client-init : goal.loop-client-init
loop-client-init c =
    no_clients c.args.out.now.items (seat_by c.args.d.now c.args.tracks.now.seats) (begin c.args.d.now (spot_by c.args.tracks.now.spots)) c.args.y

pub loop-client-preserved : goal.loop-client-preserved
loop-client-preserved c =
    more_clients c.args.out.now.items c.loop-client.out.items c.push_client.new.out.items (seat_by c.args.d.now c.args.tracks.now.seats)
    (begin c.args.d.now (spot_by c.args.tracks.now.spots)) c.args.y c.loop-client.client c.seat_by-seat.result
    c.in_ok-push_client.ensures c.seat_by-seat.ensures c.loop-client.invariant
