use Rattle.std.proofs.Common.{rules, ◌≡◌, Some, false}
use Rattle.sat_label.specs.Least.{least_label}
use Rattle.sat_pool.specs.Pool.{labels_waiting}
use Rattle.sat_proxy.specs.Helps.{in_view}
use Rattle.sat_proxy.proofs.Stamps.{have_passed, stamp_stays}
use Rattle.sat_proxy.proofs.proxy.Proxy.next_stamp.Goals as goal

pub returns-else-is_passed-clause-label : goal.returns-else-is_passed-clause-label
returns-else-is_passed-clause-label c =
    let least : Some c.in_ok-label.label ≡ least_label (in_view c.args.self.now.beats c.args.views.now.view) (labels_waiting c.args.self.now.pool) = search rules in
    let stays : have_passed c.args.views.now c.args.self.now c.in_ok-label.label ≡ false = search rules in
    stamp_stays c.args.views.now c.args.self.now c.in_ok-label.label least stays
