-- The names of nodes, one more at a time.
use Rattle.std.specs.Prelude.{◌≡◌, ◌<◌, ◌≤◌, ◌+◌, ◌-◌, ℕ, zero, suc, List, [], ◌∷◌, ◌++◌, map, drop, Some, slice_get}
use Rattle.std.proofs.Common.{refl, sym, ap, ◌∙◌, subst, arith}
use Rattle.std.proofs.lemmas.List.{append-nil, append_assoc, map-append}
use Rattle.sat_label.specs.declared.node.NodeName.{NodeName}
use Rattle.sat_label.specs.declared.node.NodeName.TheVariants.{Serializer as AtSerializer, Site as AtSite}
use Rattle.sat_label.specs.Words.{below}
use Rattle.sat_tree.specs.Shape.{TreeShape}
use Rattle.sat_act.specs.declared.deployment.Plan.{Plan}
use Rattle.sat_act.specs.declared.deployment.Plan.TheVariants as plan
use Rattle.sat_act.specs.Deployed.{Deployed}
use Rattle.sat_act.proofs.Plans.{tree_from_plans}
use Rattle.sat_act.specs.Parts.{planned_tree, tree_of}
use Rattle.sat_node.specs.Links.{Each, HeldSeen, InSeen}
use Rattle.sat_node.specs.Puts.{OutSeen}
use Rattle.sat_node.specs.Seen.{NodeSeen}
use Rattle.sat_opened.specs.Opened.{name_in}
use Rattle.sat_wires.specs.Wires.{AllNew, IsFreshIn, IsFreshOut, IsNew}
use Rattle.sat_wires.proofs.Pairs.{each-more}

-- nodes of these names, at which nothing happened
pub record AreNew {M I A : Type 0} (names : List NodeName) (hs : List (HeldSeen M I A)) : Type 0 where
  pub named : map name_in hs ≡ names
  pub each : AllNew hs

-- a node of a name with fresh ends
pub new_held : {M I A : Type 0} (h : HeldSeen M I A) (n : NodeSeen M I A) (os : List OutSeen) (is : List InSeen) → (h.node ≡ n) × (h.outs ≡ os) × (h.ins ≡ is) → (n.entries ≡ []) × (n.number ≡ 0) → Each os (λ _ o. IsFreshOut o) → Each is (λ _ i. IsFreshIn i) → IsNew h
new_held {M} {I} {A} h n os is same empty outs ins = record {
  entries = ap (λ (n : NodeSeen M I A). n.entries) same.0 ∙ empty.0;
  number = ap (λ (n : NodeSeen M I A). n.number) same.0 ∙ empty.1;
  outs = subst (λ (os : List OutSeen). Each os (λ _ o. IsFreshOut o)) (sym same.1) outs;
  ins = subst (λ (is : List InSeen). Each is (λ _ i. IsFreshIn i)) (sym same.2) ins;
}

pub none_new : {M I A : Type 0} → AreNew {M = M} {I = I} {A = A} [] []
none_new = record { named = refl; each = λ k h at. absurd (cc) }

-- one more
new-more : {M I A : Type 0} (names : List NodeName) (n : NodeName) (hs : List (HeldSeen M I A)) (h : HeldSeen M I A) → AreNew names hs → name_in h ≡ n → IsNew h → AreNew (names ++ n ∷ []) (hs ++ h ∷ [])
new-more names n hs h are e one = record {
  named = map-append name_in hs (h ∷ []) ∙ (λ i. are.named i ++ e i ∷ []);
  each = each-more (λ _ h. IsNew h) hs h are.each one;
}

below_more : (n : ℕ) → below (n + 1) ≡ below n ++ n ∷ []
below_more n = let e : n + 1 ≡ suc n = omega arith in ap (λ (m : ℕ). below m) e

more-names : (f : ℕ → NodeName) (n : ℕ) → map f (below (n + 1)) ≡ map f (below n) ++ f n ∷ []
more-names f n = ap (map f) (below_more n) ∙ map-append f (below n) (n ∷ [])

pub sites_grow : {M I A : Type 0} (n : ℕ) (hs hs' : List (HeldSeen M I A)) (h : HeldSeen M I A) → hs' ≡ hs ++ h ∷ [] → AreNew (map AtSite (below n)) hs → name_in h ≡ AtSite n → IsNew h → AreNew (map AtSite (below (n + 1))) hs'
sites_grow {M} {I} {A} n hs hs' h is are e one =
    subst (λ (xs : List (HeldSeen M I A)). AreNew (map AtSite (below (n + 1))) xs) (sym is)
    (subst (λ (ns : List NodeName). AreNew ns (hs ++ h ∷ [])) (sym (more-names AtSite n)) (new-more (map AtSite (below n)) (AtSite n) hs h are e one))

pub serials_start : {M I A : Type 0} (hs : List (HeldSeen M I A)) → AllNew hs → AreNew (map name_in hs ++ []) hs
serials_start hs all = record { named = sym (append-nil (map name_in hs)); each = all }

pub serials_grow : {M I A : Type 0} (before : List NodeName) (e n : ℕ) (hs hs' : List (HeldSeen M I A)) (h : HeldSeen M I A) → hs' ≡ hs ++ h ∷ [] → AreNew (before ++ map (AtSerializer e) (below n)) hs → name_in h ≡ AtSerializer e n → IsNew h →
    AreNew (before ++ map (AtSerializer e) (below (n + 1))) hs'
serials_grow {M} {I} {A} before e n hs hs' h is are w one =
    let same : (before ++ map (AtSerializer e) (below n)) ++ AtSerializer e n ∷ [] ≡ before ++ map (AtSerializer e) (below (n + 1)) =
    append_assoc before (map (AtSerializer e) (below n)) (AtSerializer e n ∷ []) ∙ ap (λ (ns : List NodeName). before ++ ns) (sym (more-names (AtSerializer e) n)) in
    subst (λ (xs : List (HeldSeen M I A)). AreNew (before ++ map (AtSerializer e) (below (n + 1))) xs) (sym is) (subst (λ (ns : List NodeName). AreNew ns (hs ++ h ∷ [])) same (new-more (before ++ map (AtSerializer e) (below n)) (AtSerializer e n) hs h are w one))

-- ---- the plans that are left

drop-next : {X : Type 0} (n : ℕ) (xs : List X) (x : X) (rest : List X) → drop n xs ≡ x ∷ rest → (slice_get xs n ≡ Some x) × (drop (suc n) xs ≡ rest)
drop-next zero [] x rest e = absurd (cc)
drop-next zero (y ∷ xs) x rest e = ((cc), (cc))
drop-next (suc n) [] x rest e = absurd (cc)
drop-next (suc n) (y ∷ xs) x rest e = drop-next n xs x rest e

pub plans_left : (e : ℕ) (plans : List Plan) (p : Plan) (rest : List Plan) → 0 < e → drop (e - 1) plans ≡ p ∷ rest → drop ((e + 1) - 1) plans ≡ rest
plans_left e plans p rest some is =
    let w : (e + 1) - 1 ≡ suc (e - 1) = omega arith in
    ap (λ (n : ℕ). drop n plans) w ∙ (drop-next (e - 1) plans p rest is).1

planned-is : (plans : List Plan) (n : ℕ) (t : TreeShape) → slice_get plans n ≡ Some (plan.Tree t) → planned_tree plans n ≡ Some t
planned-is [] n t e = absurd (cc)
planned-is (plan.Stamp ∷ ps) zero t e = absurd (cc)
planned-is (plan.Tree s ∷ ps) zero t e = let same : s ≡ t = cc in ap (λ (x : TreeShape). Some x) same
planned-is (plan.Stamp ∷ ps) (suc n) t e = planned-is ps n t e
planned-is (plan.Tree s ∷ ps) (suc n) t e = planned-is ps n t e

pub plan_here : (d : Deployed) (e : ℕ) (t : TreeShape) (rest : List Plan) → 0 < e → drop (e - 1) d.plans ≡ plan.Tree t ∷ rest → tree_of d e ≡ Some t
plan_here d e t rest some is =
    let first : 1 ≤ e = omega arith in
    tree_from_plans d e first ∙ planned-is d.plans (e - 1) t (drop-next (e - 1) d.plans (plan.Tree t) rest is).0
