-- Lists made step by step.
use Rattle.std.specs.Prelude.{◌≡◌, ◌+◌, ◌-◌, ◌≤◌, ℕ, List, [], ◌∷◌, ◌++◌, Option, Some, None, slice_get, refl}
use Rattle.std.proofs.Common.{sym, ap, ◌∙◌, arith}
use Rattle.std.proofs.lemmas.List.{append_assoc}
use Rattle.sat_label.specs.Words.{below}
use Rattle.sat_tree.specs.Shape.{TreeShape}
use Rattle.sat_act.specs.declared.act.Act.{Act}
use Rattle.sat_act.specs.declared.deployment.Plan.{Plan}
use Rattle.sat_act.specs.declared.deployment.Plan.TheVariants as plan
use Rattle.sat_act.specs.Deployed.{Deployed}
use Rattle.sat_act.specs.Parts.{tree_of, planned_tree}
use Rattle.sat_act.specs.Settling.{joined, bulks, hops, turns, hops_of, round_acts}
use Rattle.sat_act.proofs.Plans.{tree_from_plans}
use Rattle.sat_settle.specs.RoundActs.{bulk_acts, hops_by, later_acts, turns_to}
use Rattle.sat_settle.proofs.Loops.{below-more}

nothing : {X : Type 0} (xs : List X) → xs ≡ xs ++ []
nothing [] = refl
nothing (x ∷ xs) = ap (λ (ys : List _). x ∷ ys) (nothing xs)

joined-last : {X Y : Type 0} (f : X → List Y) (xs : List X) (x : X) → joined f (xs ++ x ∷ []) ≡ joined f xs ++ f x
joined-last f [] x = sym (nothing (f x))
joined-last f (y ∷ xs) x = ap (λ (ys : List _). f y ++ ys) (joined-last f xs x) ∙ sym (append_assoc (f y) (joined f xs) (f x))

-- one step more
pub joins-more : {Y : Type 0} (f : ℕ → List Y) (xs ys zs : List Y) (i : ℕ) → ys ≡ xs ++ joined f (below i) → zs ≡ ys ++ f i → zs ≡ xs ++ joined f (below (i + 1))
joins-more f xs ys zs i p q =
    q ∙ (ap (λ (ws : List _). ws ++ f i) p ∙ (append_assoc xs (joined f (below i)) (f i)
    ∙ ap (λ (ws : List _). xs ++ ws) (sym (ap (λ (ks : List ℕ). joined f ks) (below-more i) ∙ joined-last f (below i) i))))

abbrev planned_by : Option Plan → Option TreeShape
planned_by o = elim o [ None ↦ None | Some p ↦ elim p [ plan.Stamp ↦ None | plan.Tree t ↦ Some t ] ]

by-plan : (e : ℕ) (p : Plan) → hops_of e (planned_by (Some p)) ≡ hops_by e p
unfolding hops_of
by-plan e plan.Stamp = refl
by-plan e (plan.Tree t) = refl

pub plan-hops : (d : Deployed) (plans : List Plan) (n : ℕ) (p : Plan) → plans ≡ d.plans → slice_get plans n ≡ Some p → hops_by (n + 1) p ≡ hops_of (n + 1) (tree_of d (n + 1))
plan-hops d plans n p same at =
    sym (ap (hops_of (n + 1)) (tree_from_plans d (n + 1) (let low : 1 ≤ n + 1 = omega arith in low) ∙ (ap (planned_tree d.plans) (let e : (n + 1) - 1 ≡ n = omega arith in e)
    ∙ ap (λ (o : Option Plan). planned_by o) (ap (λ (ps : List Plan). slice_get ps n) (sym same) ∙ at))) ∙ by-plan (n + 1) p)

-- the acts of a round behind its bulks, part by part
pub later-acts : (d : Deployed) (n : ℕ) (xs ys zs : List Act) → n ≡ d.sites → xs ≡ [] → ys ≡ xs ++ hops d → zs ≡ ys ++ turns_to n → zs ≡ later_acts d
later-acts d n xs ys zs e f p q =
    q ∙ (ap (λ (m : ℕ). ys ++ turns_to m) e ∙ ap (λ (v : List Act). v ++ turns d) (p ∙ ap (λ (v : List Act). v ++ hops d) f))

bulks-made : (d : Deployed) → bulk_acts d.gears d.sites ≡ bulks d
bulks-made d = refl

round-made : (d : Deployed) → (bulks d ++ hops d) ++ turns d ≡ round_acts d
unfolding round_acts
round-made d = append_assoc (bulks d) (hops d) (turns d)

-- the acts of a round, part by part
pub round-parts : (d : Deployed) (n m : ℕ) (ws xs ys zs : List Act) → n ≡ d.sites → m ≡ d.gears → ws ≡ [] → xs ≡ ws ++ bulk_acts m n → ys ≡ xs ++ hops d → zs ≡ ys ++ turns_to n → zs ≡ round_acts d
round-parts d n m ws xs ys zs e g f p q r =
    r ∙ (ap (λ (k : ℕ). ys ++ turns_to k) e ∙ (ap (λ (v : List Act). v ++ turns d)
    (q ∙ ap (λ (v : List Act). v ++ hops d) (p ∙ (ap (λ (v : List Act). v ++ bulk_acts m n) f
    ∙ (ap (λ (k : ℕ). bulk_acts m k) e ∙ (ap (λ (k : ℕ). bulk_acts k d.sites) g ∙ bulks-made d))))) ∙ round-made d))
