-- A deployment without a flaw.
use Rattle.std.proofs.Common.{ℕ, zero, suc, ◌≡◌, ◌<◌, ◌≤◌, ◌+◌, ◌-◌, ◌⊎◌, inl, inr, Bool, true, false, nat_le, List, [], ◌∷◌, length, take, Option, Some, None, slice_get, refl, sym, ap, eq-or-lt_of_le, ◌∙◌, arith}
use Rattle.std.specs.List.{list_any}
use Rattle.std.specs.Option.{option_or, option_map}
use Rattle.std.specs.Str.{bytes_eq}
use Rattle.std.proofs.lemmas.Bool.Decides.{nat_tests}
use Rattle.std.proofs.lemmas.Bool.{and_parts, cases_lt, eqb-true, ltb-true, not-true}
use Rattle.std.proofs.lemmas.Option.{slice_get_within}
use Rattle.std.proofs.lemmas.Slice.Eq.{bytes_eq-Decides}
use Rattle.sat_label.proofs.Truth.{or-true}
use Rattle.sat_label.specs.Words.{are_sites, first_failing}
use Rattle.sat_label.specs.Formats.{is_format, limits_of}
use Rattle.sat_label.proofs.First.{first_none}
use Rattle.sat_label.proofs.Bits.{sites-some, sites-below}
use Rattle.sat_label.proofs.Formats.{sites_within, items_within}
use Rattle.sat_tree.specs.Shape.{TreeShape}
use Rattle.sat_tree.specs.Flaw.{IsSmallTree}
use Rattle.sat_act.specs.declared.deployment.Item.{Item}
use Rattle.sat_act.specs.declared.deployment.ClientLine.{ClientLine}
use Rattle.sat_act.specs.declared.deployment.Plan.{Plan}
use Rattle.sat_act.specs.declared.deployment.Plan.TheVariants as plan
use Rattle.sat_act.specs.Deployed.{Deployed}
use Rattle.sat_act.specs.Parts.{tree_of}
use Rattle.sat_act.specs.Limits.{IsDeployment, HaveTrees}
use Rattle.sat_act.proofs.Plans.{tree_in_plans}
use Rattle.sat_act.specs.Flaw.{flaw, wrong_size, is_within, item_fits, client_fits, plan_fits}

-- ---- trees among plans

pub trees-more : (plans : List Plan) (n : ℕ) → ((k : ℕ) (t : TreeShape) → k < n → slice_get plans k ≡ Some (plan.Tree t) → IsSmallTree t) → ((t : TreeShape) → slice_get plans n ≡ Some (plan.Tree t) → IsSmallTree t) → (k : ℕ) (t : TreeShape) → k < n + 1 → slice_get plans k ≡ Some (plan.Tree t) → IsSmallTree t
trees-more plans n before here k t less at = go (eq-or-lt_of_le (omega arith))
  where
    go : (k ≡ n) ⊎ (k < n) → IsSmallTree t
    go (inl same) = here t (ap (slice_get plans) (sym same) ∙ at)
    go (inr earlier) = before k t earlier at

pub trees-all : (plans : List Plan) (n : ℕ) → length plans ≤ n → ((k : ℕ) (t : TreeShape) → k < n → slice_get plans k ≡ Some (plan.Tree t) → IsSmallTree t) → HaveTrees plans
trees-all plans n all before e t at = let within = slice_get_within plans e _ at in before e t (omega arith) at

-- ---- the parts of a flaw

or-none : {X : Type 0} (a b : Option X) → option_or a b ≡ None → (a ≡ None) × (b ≡ None)
or-none None b e = (refl, e)
or-none (Some x) b e = absurd (cc)

map-none : {X Y : Type 0} (f : X → Y) (o : Option X) → option_map f o ≡ None → o ≡ None
map-none f None e = refl
map-none f (Some x) e = absurd (cc)

record Sizes (d : Deployed) : Type 0 where
  format : is_format d.format ≡ true
  some_site : 0 < d.sites
  few_sites : d.sites ≤ (limits_of d.format).sites
  some_gear : 0 < d.gears
  few_gears : d.gears ≤ 8
  few_items : length d.items ≤ (limits_of d.format).items
  few_clients : length d.clients ≤ 1024
  some_plan : 0 < length d.plans
  few_plans : length d.plans ≤ 16

sizes : (d : Deployed) → wrong_size d ≡ None → Sizes d
unfolding wrong_size
sizes d none = go _ _ _ _ _ _ refl refl refl refl refl refl
  where
    go : (z a b c e f : Bool) → is_format d.format ≡ z → is_within 1 (limits_of d.format).sites d.sites ≡ a → is_within 1 8 d.gears ≡ b → nat_le (length d.items) (limits_of d.format).items ≡ c → nat_le (length d.clients) 1024 ≡ e → is_within 1 16 (length d.plans) ≡ f → Sizes d
    go true true true true true true y p q r s t = record {
      format = y;
      some_site = grind (arith, nat_tests);
      few_sites = grind (arith, nat_tests);
      some_gear = grind (arith, nat_tests);
      few_gears = grind (arith, nat_tests);
      few_items = grind (arith, nat_tests);
      few_clients = grind (arith, nat_tests);
      some_plan = grind (arith, nat_tests);
      few_plans = grind (arith, nat_tests);
    }
    go false a b c e f y p q r s t = absurd (let w : wrong_size d ≡ Some 5 = rw (y, wrong_size) refl in cc)
    go true false b c e f y p q r s t = absurd (let w : wrong_size d ≡ Some 0 = rw (y, p, wrong_size) refl in cc)
    go true true false c e f y p q r s t = absurd (let w : wrong_size d ≡ Some 1 = rw (y, p, q, wrong_size) refl in cc)
    go true true true false e f y p q r s t = absurd (let w : wrong_size d ≡ Some 2 = rw (y, p, q, r, wrong_size) refl in cc)
    go true true true true false f y p q r s t = absurd (let w : wrong_size d ≡ Some 3 = rw (y, p, q, r, s, wrong_size) refl in cc)
    go true true true true true false y p q r s t = absurd (let w : wrong_size d ≡ Some 4 = rw (y, p, q, r, s, t, wrong_size) refl in cc)

record NoFlaw (d : Deployed) : Type 0 where
  sizes : Sizes d
  items : first_failing (item_fits d.sites d.items) (length d.items) ≡ None
  clients : first_failing (client_fits d.sites d.clients) (length d.clients) ≡ None
  plans : first_failing (plan_fits d.sites d.plans) (length d.plans) ≡ None

no-flaw : (d : Deployed) → flaw d ≡ None → NoFlaw d
unfolding flaw
no-flaw d none =
    let one = or-none _ _ none in
    let two = or-none _ _ one.1 in
    let three = or-none _ _ two.1 in
    record {
      sizes = sizes d (map-none _ _ one.0);
      items = map-none _ _ two.0;
      clients = map-none _ _ three.0;
      plans = map-none _ _ three.1;
    }

-- ---- names

any-earlier : {X : Type 0} (p : X → Bool) (xs : List X) (x y : ℕ) (one : X) → slice_get xs x ≡ Some one → x < y → p one ≡ true → list_any p (take y xs) ≡ true
any-earlier p [] x y one at less is = absurd (let f = slice_get_within [] x _ at in omega arith)
any-earlier p (z ∷ zs) x zero one at less is = absurd (omega arith)
any-earlier p (z ∷ zs) zero (suc y) one at less is = let e : z ≡ one = cc in rw (e, is) refl
any-earlier p (z ∷ zs) (suc x) (suc y) one at less is = rw (any-earlier p zs x y one at (omega arith) is) (or-true (p z))

twice : {X : Type 0} (p : X → Bool) (xs : List X) (x y : ℕ) (one : X) → slice_get xs x ≡ Some one → x < y → p one ≡ true → list_any p (take y xs) ≡ false → ⊥
twice p xs x y one at less is none = let some = any-earlier p xs x y one at less is in cc

same-place : (x y : ℕ) → (x < y → x ≡ y) → (y < x → x ≡ y) → x ≡ y
same-place x y up down = elim (cases_lt x y) [
  | inl less ↦ up less
  | inr most ↦ elim (eq-or-lt_of_le most) [ inl same ↦ sym same | inr less ↦ down less ]
]

same-bytes : (one other : List ℕ) → one ≡ other → bytes_eq one other ≡ true
same-bytes one other same = (bytes_eq-Decides one other).1 same

-- ---- items, clients and plans

item-at : (sites : ℕ) (items : List Item) (x : ℕ) (item : Item) → item_fits sites items x ≡ true → slice_get items x ≡ Some item → (are_sites sites item.replicas.bits ≡ true) × (list_any (λ (earlier : Item). bytes_eq earlier.name item.name) (take x items) ≡ false)
unfolding item_fits
item-at sites items x item fits at =
    let both = and_parts _ _ (rw (at, item_fits) at fits) in
    (both.0, not-true _ both.1)

client-at : (sites : ℕ) (clients : List ClientLine) (c : ℕ) (line : ClientLine) → client_fits sites clients c ≡ true → slice_get clients c ≡ Some line → (line.site < sites) × (list_any (λ (earlier : ClientLine). bytes_eq earlier.name line.name) (take c clients) ≡ false)
unfolding client_fits
client-at sites clients c line fits at =
    let both = and_parts _ _ (rw (at, client_fits) at fits) in
    (ltb-true _ _ both.0, not-true _ both.1)

plan-at : (sites : ℕ) (plans : List Plan) (e : ℕ) (t : TreeShape) → plan_fits sites plans e ≡ true → slice_get plans e ≡ Some (plan.Tree t) → length t.seats ≡ sites
unfolding plan_fits
plan-at sites plans e t fits at = let same = rw (at, plan_fits) at fits in eqb-true _ _ same

tree-at : (d : Deployed) (e : ℕ) (t : TreeShape) → tree_of d e ≡ Some t → slice_get d.plans (e - 1) ≡ Some (plan.Tree t)
tree-at d e t is = (tree_in_plans d e t is).1

pub sound : (d : Deployed) → flaw d ≡ None → HaveTrees d.plans → IsDeployment d
sound d none trees =
    let fine = no-flaw d none in
    let size = fine.sizes in
    let items = λ (x : ℕ) (item : Item) (at : slice_get d.items x ≡ Some item). item-at d.sites d.items x item (first_none _ _ x fine.items (slice_get_within d.items x _ at)) at in
    let clients = λ (c : ℕ) (line : ClientLine) (at : slice_get d.clients c ≡ Some line). client-at d.sites d.clients c line (first_none _ _ c fine.clients (slice_get_within d.clients c _ at)) at in
    let plans = λ (e : ℕ) (t : TreeShape) (is : tree_of d e ≡ Some t). trees (e - 1) t (tree-at d e t is) in
    record {
      format = size.format;
      sites_allowed = size.few_sites;
      items_allowed = size.few_items;
      some_site = size.some_site;
      few_sites = sites_within d.format d.sites size.few_sites;
      some_gear = size.some_gear;
      few_gears = size.few_gears;
      few_items = items_within d.format (length d.items) size.few_items;
      few_clients = size.few_clients;
      some_plan = size.some_plan;
      few_plans = size.few_plans;
      kept = λ x item at. sites-some d.sites item.replicas.bits (items x item at).0 (sites_within d.format d.sites size.few_sites);
      replicas = λ x k item at has. sites-below d.sites item.replicas.bits k (items x item at).0 has;
      item_names = λ x y one other at there same. same-place x y (λ less. absurd (twice (λ (earlier : Item). bytes_eq earlier.name other.name) d.items x y one at less (same-bytes _ _ same) (items y other there).1)) (λ less. absurd (twice (λ (earlier : Item). bytes_eq earlier.name one.name) d.items y x other there less (same-bytes _ _ (sym same)) (items x one at).1));
      homes = λ c line at. (clients c line at).0;
      client_names = λ b c one other at there same. same-place b c (λ less. absurd (twice (λ (earlier : ClientLine). bytes_eq earlier.name other.name) d.clients b c one at less (same-bytes _ _ same) (clients c other there).1)) (λ less. absurd (twice (λ (earlier : ClientLine). bytes_eq earlier.name one.name) d.clients c b other there less (same-bytes _ _ (sym same)) (clients b one at).1));
      trees = λ e t is. (plans e t is).tree;
      few_serializers = λ e t is. (plans e t is).few_serializers;
      all_seated = λ e t is. plan-at d.sites d.plans (e - 1) t (first_none _ _ (e - 1) fine.plans (slice_get_within d.plans (e - 1) _ (tree-at d e t is))) (tree-at d e t is);
    }
