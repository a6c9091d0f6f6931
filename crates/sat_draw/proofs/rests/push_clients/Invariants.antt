use Rattle.std.proofs.Common.{◌≡◌, ◌++◌}
use Rattle.sat_draw.specs.Rows.{begin}
use Rattle.sat_draw.specs.Rests.{client_rests}
use Rattle.sat_draw.specs.Tracks.{seat_by, spot_by}
use Rattle.sat_draw.proofs.rests.push_clients.Given as goal

abbrev pub invariant-loop-client : goal.invariant-loop-client
invariant-loop-client l =
    l.out.items ≡ l.fn.out.items ++ client_rests (seat_by l.d l.tracks.seats) (begin l.d (spot_by l.tracks.spots)) l.y l.client
