-- At which gears acts stand, by the table of nodes.
use Rattle.std.specs.Prelude.{◌≡◌, ◌<◌, ℕ, Bool, true, false, ◌||◌, ◌&&◌, ◌==◌, nat_lt, refl}
use Rattle.std.proofs.Common.{ap, arith}
use Rattle.std.proofs.lemmas.Bool.Decides.{nat_tests}
use Rattle.sat_label.proofs.Truth.{same-number}
use Rattle.sat_label.specs.Grouped.{list_of}
use Rattle.sat_label.specs.Words.{below, has}
use Rattle.sat_act.specs.declared.answer.Answer.{Answer}
use Rattle.sat_act.specs.declared.answer.Answer.TheVariants as ans
use Rattle.sat_act.specs.Deployed.{Deployed}
use Rattle.sat_model.specs.Reply.{gear_for}
use Rattle.sat_joint.specs.Pieces.{given_of}
use Rattle.sat_joint.specs.Table.{AtGear, gear_nodes, same_node, shown_nodes}
use Rattle.sat_joint.proofs.Nodes.{below-gear, gear-below}
use Rattle.sat_hub_laws.specs.Inputs.{HubInput}
use Rattle.sat_hub_laws.specs.Inputs as given
use Rattle.sat_hub_laws.specs.Hubs.{hub_act, hub_handed}
use Rattle.sat_hub_laws.specs.Sites.{has_part, is_gather, is_shown}
use Rattle.sat_hub_laws.specs.Laws.{HubsStandAt, WritesStandAt, is_beside}

is-lt : (n m : ℕ) → nat_lt n m ≡ true → n < m
is-lt n m e = grind (arith, nat_tests)

lt-is : (n m : ℕ) → n < m → nat_lt n m ≡ true
lt-is n m l = grind (arith, nat_tests)

all-gears : (n i g : ℕ) → has same_node (gear_nodes i (below n)) (AtGear i g) ≡ nat_lt g n
all-gears n i g = go (nat_lt g n) (has same_node (gear_nodes i (below n)) (AtGear i g)) refl refl
  where
    go : (b c : Bool) → nat_lt g n ≡ b → has same_node (gear_nodes i (below n)) (AtGear i g) ≡ c → c ≡ b
    go true true e f = refl
    go false false e f = refl
    go true false e f = absurd (let z : has same_node (gear_nodes i (below n)) (AtGear i g) ≡ true = below-gear n i g (is-lt g n e) in cc)
    go false true e f = absurd (let z : nat_lt g n ≡ true = lt-is g n (gear-below n i i g f) in cc)

quiet : (d : Deployed) (i g : ℕ) (r : Answer) → is_shown r ≡ false → has same_node (shown_nodes d i r) (AtGear i g) ≡ false
quiet d i g (ans.Shown l) e = absurd (cc)
quiet d i g _ e = refl

others : (d : Deployed) (i c g : ℕ) (input : HubInput) (r : Answer) → is_gather input ≡ false → is_shown r ≡ false → is_beside d i g (hub_act i c input) (given_of (hub_handed input)) r ≡ false
others d i c g (given.Gather f) r e q = absurd (cc)
others d i c g (given.Turn front) r e q = quiet d i g r q
others d i c g given.Stamp r e q = quiet d i g r q
others d i c g _ r e q = refl

pub hubs-stand-at : HubsStandAt
hubs-stand-at d i c g x = record {
  gather = λ f r. all-gears d.gears i g;
  turn = λ front l. refl;
  stamp = λ l. refl;
  other = others d i c g;
}

pub writes-stand-at : WritesStandAt
writes-stand-at d i c g seen items values l = ap (λ (b : Bool). (b && (gear_for d items == g)) || has_part d i (list_of items) g) (same-number i)
