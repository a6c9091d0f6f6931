-- Whether two parts are one.
use Rattle.std.proofs.Common.{◌≡◌, ◌∙◌, ◌<◌, ◌+◌, ℕ, Bool, true, false, List, [], ◌∷◌, ◌++◌, length, take, get_or, Option, None, sym, ap, subst, arith, refl}
use Rattle.std.specs.Bool.{Decides}
use Rattle.std.proofs.lemmas.List.{take_more, take_all}
use lib.Pointwise.{pointwise, pointwise_decides}
use Rattle.sat_label.proofs.Derived.{labels-eq}
use Rattle.sat_label.proofs.Orders.{label_eq-self, same-label}
use Rattle.sat_label.specs.declared.label.Label.{Label}
use Rattle.sat_label.specs.contracts.label.LabelPartialEq.TheImpl as label

label-decides : (x y : Label) → Decides (label.ghosts.eq x y) (x ≡ y)
label-decides x y = (λ e. same-label x y (sym (labels-eq x y) ∙ e), λ e. subst (λ (z : Label). label.ghosts.eq x z ≡ true) e (labels-eq x x ∙ label_eq-self x))

pub labels-decide : (x y : List Label) → Decides (pointwise label.ghosts.eq x y) (x ≡ y)
labels-decide x y = pointwise_decides label-decides x y

never : false ≡ true → ⊥
never e = cc

both-ways : (b : Bool) → b ≡ false → b ≡ true → ⊥
both-ways b e w = never (sym e ∙ w)

-- ---- lists, place by place

pub uneven : {X : Type 0} (xs ys : List X) (n m : ℕ) → n ≡ length xs → m ≡ length ys → (n ≡ m → ⊥) → Decides false (xs ≡ ys)
uneven xs ys n m e w apart = (λ t. absurd (never t), λ t. absurd (apart (e ∙ (ap length t ∙ sym w))))

pub not_here : {X : Type 0} (xs ys : List (Option X)) (k : ℕ) (b : Bool) → b ≡ false → Decides b (get_or xs k None ≡ get_or ys k None) → Decides false (xs ≡ ys)
not_here {X} xs ys k b e d = (λ w. absurd (never w), λ w. absurd (both-ways b e (d.1 (ap (λ (zs : List (Option X)). get_or zs k None) w))))

pub same_more : {X : Type 0} (xs ys : List (Option X)) (k : ℕ) (b : Bool) → k < length xs → length xs ≡ length ys → b ≡ true → Decides b (get_or xs k None ≡ get_or ys k None) → take k xs ≡ take k ys → take (k + 1) xs ≡ take (k + 1) ys
same_more {X} xs ys k b lt even e d same =
    take_more xs k None lt ∙ ((λ i. same i ++ d.0 e i ∷ []) ∙ sym (take_more ys k None (omega (arith, lt, even))))

pub all_same : {X : Type 0} (xs ys : List X) (k : ℕ) → length xs ≡ length ys → k ≡ length xs → take k xs ≡ take k ys → Decides true (xs ≡ ys)
all_same xs ys k even e same = (λ w. sym (take_all k xs (omega (arith, e))) ∙ (same ∙ take_all k ys (omega (arith, e, even))), λ w. refl)
