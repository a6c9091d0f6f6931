-- A large script has a spelling: it is within the limits of scripts.
use Rattle.std.proofs.Common.{ℕ, ◌≡◌, ◌≤◌, true, length, refl, arith}
use Rattle.sat_label.specs.Formats.{limits_of as format_limits}
use Rattle.sat_label.specs.Text.{is_name}
use Rattle.sat_act.specs.declared.deployment.Item.{Item}
use Rattle.sat_act.specs.declared.deployment.ClientLine.{ClientLine}
use Rattle.sat_script.specs.Spelled.{HaveNames, Spells, spelling}
use Rattle.sat_settle.specs.LoadHeader.{load_item, load_client, load_deployment}
use Rattle.sat_settle.specs.LoadActs.{load_acts}
use Rattle.sat_settle.proofs.LoadCount.{each-in-range, one-settle, acts_counted}
use Rattle.sat_settle.proofs.LoadFlawless.{load_is_deployment}
use Rattle.sat_settle.proofs.LoadLists.{all-below}
use Rattle.sat_settle.proofs.LoadTexts.{item_name, client_name}

names : HaveNames load_deployment
unfolding load_deployment load_item load_client
names = record {
  items = all-below (λ (item : Item). is_name item.name ≡ true) load_item 200 (λ k less. item_name k (omega arith));
  clients = all-below (λ (line : ClientLine). is_name line.name ≡ true) load_client 40 (λ k less. client_name k (omega arith));
}

allowed : (n : ℕ) → n ≤ 200000 → n ≤ (format_limits load_deployment.format).acts
unfolding load_deployment
allowed n few = few

pub load_spelled : (seed n : ℕ) → 2 ≤ n → n ≤ 199000 → Spells (spelling load_deployment (load_acts seed n)) load_deployment (load_acts seed n)
load_spelled seed n some few =
    let count = acts_counted seed n some in
    let settles = one-settle seed n in
    record {
      spelled = refl;
      deployment = load_is_deployment;
      names = names;
      each = each-in-range seed n few;
      few = allowed (length (load_acts seed n)) (omega arith);
      settles = omega arith;
    }
