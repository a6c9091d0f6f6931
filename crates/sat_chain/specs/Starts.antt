-- Chains to which nothing has happened.
use Rattle.std.specs.Prelude.{ℕ, List, length, replicate}
use Rattle.sat_act.specs.declared.answer.Answer.{Answer}
use Rattle.sat_act.specs.declared.answer.Answer.TheVariants as ans
use Rattle.sat_act.specs.declared.deployment.Plan.{Plan}
use Rattle.sat_act.specs.declared.deployment.Plan.TheVariants as plan
use Rattle.sat_chain.specs.Chained.{ChainSeen, fresh_chain}

-- how many serializers a plan's tree has, none where it is stamp order
abbrev pub serializers_of : Plan → ℕ
serializers_of plan.Stamp = 0
serializers_of (plan.Tree tree) = length tree.parents

-- their chains, of r replicas each
abbrev pub fresh_row : ℕ → Plan → List ChainSeen
fresh_row r plan = replicate (serializers_of plan) (fresh_chain r)

-- on how many links the answer to a hop says that it was put
abbrev pub put_by : Answer → ℕ
put_by (ans.Hopped l to) = length to
put_by _ = 0
