use Rattle.std.proofs.Common.{ℕ, List, [], replicate, ◌∙◌, ap}
use Rattle.sat_label.specs.declared.label.Label.{Label}
use Rattle.sat_net.proofs.Kept.{made-net}
use Rattle.sat_net.proofs.net.Net.new.Goals as goal

pub invariant_of-result : goal.invariant_of-result
invariant_of-result c = made-net _ c.args.tree.now _ _ c.in_ok-copy.ensures.copy c.in_ok-serializers.ensures (c.in_ok-up.ensures ∙ ap (λ (n : ℕ). replicate {A = List Label} n []) c.sites.ensures.sites) c.sites.ensures.limits.tree
