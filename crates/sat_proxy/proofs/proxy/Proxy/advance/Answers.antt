use Rattle.std.proofs.Common.{rules, ◌≡◌, Some, None, Bool, false, MatchResult, subst}
use Rattle.sat_epoch.specs.Epochs.{advance_fault, in_stamp}
use Rattle.sat_proxy.proofs.Stamps.{heard_come}
use Rattle.sat_proxy.proofs.proxy.Proxy.advance.Goals as goal

pub returns-else-in_stamp_mode-clause-fault : goal.returns-else-in_stamp_mode-clause-fault
returns-else-in_stamp_mode-clause-fault c =
    let tree : in_stamp c.args.views.now ≡ false = search rules in
    subst (λ (b : Bool). MatchResult c.advance_by_tree.result (λ _. advance_fault c.args.views.now b ≡ None) (λ fault. advance_fault c.args.views.now b ≡ Some fault)) (heard_come c.args.views.now c.args.self.now c.requires tree) c.advance_by_tree.ensures.fault
