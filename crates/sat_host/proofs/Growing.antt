-- All hosts of a deployment, one more at a time.
use Rattle.std.specs.Prelude.{◌≡◌, ◌<◌, ◌≤◌, ◌+◌, ◌-◌, ◌^◌, ℕ, zero, suc, List, [], ◌∷◌, ◌++◌, length, map, drop, Some, slice_get}
use Rattle.std.proofs.Common.{refl, sym, ap, ◌∙◌, subst, arith, ⊎_elim}
use Rattle.std.proofs.lemmas.List.{append-nil, append_assoc, map-append}
use Rattle.sat_label.specs.declared.node.NodeName.{NodeName}
use Rattle.sat_label.specs.declared.node.NodeName.TheVariants.{Serializer as AtSerializer, Site as AtSite}
use Rattle.sat_label.specs.Words.{below}
use Rattle.sat_tree.specs.Shape.{TreeShape}
use Rattle.sat_act.specs.declared.deployment.Plan.{Plan}
use Rattle.sat_act.specs.declared.deployment.Plan.TheVariants as plan
use Rattle.sat_act.specs.Deployed.{Deployed}
use Rattle.sat_act.specs.Limits.{IsDeployment}
use Rattle.sat_act.proofs.Plans.{tree_from_plans}
use Rattle.sat_act.specs.Parts.{planned_tree, tree_of}
use Rattle.sat_node.specs.Meanings.{Meaning}
use Rattle.sat_node.specs.Seen.{NodeSeen}
use Rattle.sat_node.proofs.Members.{get_next}
use Rattle.sat_host_laws.specs.Messages.{HostSeen, IsKept, host_name}
use Rattle.sat_host.specs.Fresh.{AllNew, IsNew}

-- the host of a new node
pub is_new : {S M I A : Type 0} (m : Meaning S I A) (h : HostSeen M I A) (n : NodeSeen M I A) → h.node ≡ n → (n.entries ≡ []) × (n.number ≡ 0) → IsKept m h → IsNew m h
is_new {S} {M} {I} {A} m h n e none kept = record { entries = ap (λ (x : NodeSeen M I A). x.entries) e ∙ none.0; kept = kept }

-- hosts of these names, at which nothing happened
pub record AreNew {S M I A : Type 0} (m : Meaning S I A) (names : List NodeName) (hs : List (HostSeen M I A)) : Type 0 where
  pub named : map host_name hs ≡ names
  pub each : AllNew m hs

pub none_new : {S M I A : Type 0} (m : Meaning S I A) → AreNew {M = M} m [] []
none_new m = record { named = refl; each = λ k h at. absurd (cc) }

-- one more
new-more : {S M I A : Type 0} (m : Meaning S I A) (names : List NodeName) (n : NodeName) (hs : List (HostSeen M I A)) (h : HostSeen M I A) → AreNew m names hs → host_name h ≡ n → IsNew m h → AreNew m (names ++ n ∷ []) (hs ++ h ∷ [])
new-more {S} {M} {I} {A} m names n hs h are e one = record {
  named = map-append host_name hs (h ∷ []) ∙ (λ i. are.named i ++ e i ∷ []);
  each = λ k x at.
      ⊎_elim (λ (was : slice_get hs k ≡ Some x). are.each k x was) (λ (new : h ≡ x). subst (λ (y : HostSeen M I A). IsNew m y) new one)
      (get_next hs h x k at);
}

below_more : (n : ℕ) → below (n + 1) ≡ below n ++ n ∷ []
below_more n = let e : n + 1 ≡ suc n = omega arith in ap (λ (m : ℕ). below m) e

more-names : (f : ℕ → NodeName) (n : ℕ) → map f (below (n + 1)) ≡ map f (below n) ++ f n ∷ []
more-names f n = ap (map f) (below_more n) ∙ map-append f (below n) (n ∷ [])

pub sites_grow : {S M I A : Type 0} (m : Meaning S I A) (n : ℕ) (hs hs' : List (HostSeen M I A)) (h : HostSeen M I A) → hs' ≡ hs ++ h ∷ [] → AreNew m (map AtSite (below n)) hs → host_name h ≡ AtSite n → IsNew m h → AreNew m (map AtSite (below (n + 1))) hs'
sites_grow {S} {M} {I} {A} m n hs hs' h is are e one =
    subst (λ (xs : List (HostSeen M I A)). AreNew m (map AtSite (below (n + 1))) xs) (sym is)
    (subst (λ (ns : List NodeName). AreNew m ns (hs ++ h ∷ [])) (sym (more-names AtSite n)) (new-more m (map AtSite (below n)) (AtSite n) hs h are e one))

pub serials_start : {S M I A : Type 0} (m : Meaning S I A) (hs : List (HostSeen M I A)) → AllNew m hs → AreNew m (map host_name hs ++ []) hs
serials_start m hs all = record { named = sym (append-nil (map host_name hs)); each = all }

pub serials_grow : {S M I A : Type 0} (m : Meaning S I A) (before : List NodeName) (e n : ℕ) (hs hs' : List (HostSeen M I A)) (h : HostSeen M I A) → hs' ≡ hs ++ h ∷ [] → AreNew m (before ++ map (AtSerializer e) (below n)) hs → host_name h ≡ AtSerializer e n → IsNew m h →
    AreNew m (before ++ map (AtSerializer e) (below (n + 1))) hs'
serials_grow {S} {M} {I} {A} m before e n hs hs' h is are w one =
    let same : (before ++ map (AtSerializer e) (below n)) ++ AtSerializer e n ∷ [] ≡ before ++ map (AtSerializer e) (below (n + 1)) =
    append_assoc before (map (AtSerializer e) (below n)) (AtSerializer e n ∷ []) ∙ ap (λ (ns : List NodeName). before ++ ns) (sym (more-names (AtSerializer e) n)) in
    subst (λ (xs : List (HostSeen M I A)). AreNew m (before ++ map (AtSerializer e) (below (n + 1))) xs) (sym is)
    (subst (λ (ns : List NodeName). AreNew m ns (hs ++ h ∷ [])) same (new-more m (before ++ map (AtSerializer e) (below n)) (AtSerializer e n) hs h are w one))

-- there are few epochs
pub few_epochs : (d : Deployed) → IsDeployment d → 1 + length d.plans < 2 ^ 16
few_epochs d is = let few = is.few_plans in omega arith

-- ---- the plans that are left

drop-next : {X : Type 0} (n : ℕ) (xs : List X) (x : X) (rest : List X) → drop n xs ≡ x ∷ rest → (slice_get xs n ≡ Some x) × (drop (suc n) xs ≡ rest)
drop-next zero [] x rest e = absurd (cc)
drop-next zero (y ∷ xs) x rest e = ((cc), (cc))
drop-next (suc n) [] x rest e = absurd (cc)
drop-next (suc n) (y ∷ xs) x rest e = drop-next n xs x rest e

pub plans_left : (e : ℕ) (plans : List Plan) (p : Plan) (rest : List Plan) → 0 < e → drop (e - 1) plans ≡ p ∷ rest → drop ((e + 1) - 1) plans ≡ rest
plans_left e plans p rest some is =
    let w : (e + 1) - 1 ≡ suc (e - 1) = omega arith in
    ap (λ (n : ℕ). drop n plans) w ∙ (drop-next (e - 1) plans p rest is).1

planned-is : (plans : List Plan) (n : ℕ) (t : TreeShape) → slice_get plans n ≡ Some (plan.Tree t) → planned_tree plans n ≡ Some t
planned-is [] n t e = absurd (cc)
planned-is (plan.Stamp ∷ ps) zero t e = absurd (cc)
planned-is (plan.Tree s ∷ ps) zero t e = let same : s ≡ t = cc in ap (λ (x : TreeShape). Some x) same
planned-is (plan.Stamp ∷ ps) (suc n) t e = planned-is ps n t e
planned-is (plan.Tree s ∷ ps) (suc n) t e = planned-is ps n t e

pub plan_here : (d : Deployed) (e : ℕ) (t : TreeShape) (rest : List Plan) → 0 < e → drop (e - 1) d.plans ≡ plan.Tree t ∷ rest → tree_of d e ≡ Some t
plan_here d e t rest some is =
    let first : 1 ≤ e = omega arith in
    tree_from_plans d e first ∙ planned-is d.plans (e - 1) t (drop-next (e - 1) d.plans (plan.Tree t) rest is).0
