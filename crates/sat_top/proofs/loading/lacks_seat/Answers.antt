use Rattle.sat_top.proofs.Unseated.{no_write}
use Rattle.sat_top.proofs.loading.lacks_seat.Goals as goal

pub returns : goal.returns
returns c = λ lacks. no_write c.args.world.now c.args.client c.client.result.now.seat c.world_laws.ensures.undone c.client.ensures.seat c.is_none.result c.is_none.ensures lacks
