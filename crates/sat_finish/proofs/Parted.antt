-- The parts of entries, by their inputs.
use Rattle.std.proofs.Common.{◌≡◌, ◌≤◌, ◌<◌, ℕ, ◌+◌, Bool, true, false, not, ◌&&◌, ◌==◌, List, [], ◌∷◌, ◌++◌, map, take, get_or, length, zero, suc, Option, Some, None, Result, IfOk, unwrap_or, sym, subst, ap, ◌∙◌, arith, refl}
use Rattle.std.specs.List.{flat_map}
use Rattle.std.proofs.lemmas.List.{flat_map_more, take_more, take_all, map-append}
use Rattle.std.proofs.lemmas.Bool.Decides.{nat_tests}
use Rattle.sat_label.proofs.Truth.{same-number}
use Rattle.sat_act.specs.declared.answer.Answer.{Answer}
use Rattle.sat_act.specs.Deployed.{Deployed}
use Rattle.sat_bulk.specs.Payloads.{Payload}
use Rattle.sat_node.specs.declared.kept.Kept.{Kept as Line}
use Rattle.sat_hub_laws.specs.Changes.{input_is_own}
use Rattle.sat_hub_laws.specs.Gears.{gear_act, values_of}
use Rattle.sat_hub_laws.specs.Hubs.{hub_act}
use Rattle.sat_hub_laws.specs.Parts.{same_home, written_at}
use Rattle.sat_parts.specs.declared.hub_answer.HubAnswer.{HubAnswer}
use Rattle.sat_parts.specs.declared.gear_answer.GearAnswer.{GearAnswer}
use Rattle.sat_parts.specs.declared.hub_input.HubInput.{HubInput}
use Rattle.sat_parts.specs.declared.gear_input.GearInput.{GearInput}
use Rattle.sat_parts.specs.Acts.{HubActSeen, GearActSeen, client_in, gear_handed, hub_handed}
use Rattle.sat_parts_opened.specs.Collected.{gear_gives, hub_gives}
use Rattle.sat_finish.specs.Parts.{PartSeen, gear_given, home_given, hub_given, hub_part, kept_part, part_if, written_part}
use Rattle.sat_finish.specs.Walking.{parts_in, parts_of}

-- a hub's, as its input is this
abbrev pub hub_as : Deployed → ℕ → ℕ → Line HubActSeen HubAnswer → HubInput → List PartSeen
hub_as d i g k input =
    part_if (hub_gives d i g input k.answer.answer)
    (record { lamport = k.lamport; entry = record { act = hub_act i (client_in k.input.by) (hub_handed input); answer = k.answer.answer; inner = false }; given = hub_given g input k.answer })

pub hub_by : (d : Deployed) (i g : ℕ) (k : Line HubActSeen HubAnswer) (input : HubInput) → k.input.input ≡ input → hub_as d i g k input ≡ hub_part d i g k
hub_by d i g k input e = ap (hub_as d i g k) (sym e)

-- another gear's, as its input is this
abbrev pub written_as : Deployed → ℕ → ℕ → ℕ → Line GearActSeen GearAnswer → GearInput → List PartSeen
written_as d i h g k input =
    part_if (gear_gives d i g input k.answer.answer)
    (record { lamport = k.lamport; entry = record { act = gear_act i h (client_in k.input.by) (gear_handed input); answer = k.answer.answer; inner = false }; given = home_given input k.answer.answer })

pub written_by : (d : Deployed) (i h g : ℕ) (k : Line GearActSeen GearAnswer) (input : GearInput) → k.input.input ≡ input → written_as d i h g k input ≡ written_part d i h g k
written_by d i h g k input e = ap (written_as d i h g k) (sym e)

-- and the gear's own, as its input is this, and as it is of this home or not
abbrev pub kept_as : ℕ → ℕ → Line GearActSeen GearAnswer → Bool → GearInput → List PartSeen
kept_as i g k b input =
    part_if (not (input_is_own (gear_handed input)) && b)
    (record { lamport = k.lamport; entry = record { act = gear_act i g (client_in k.input.by) (gear_handed input); answer = k.answer.answer; inner = false }; given = gear_given input })

pub kept_by : (i g : ℕ) (o : Option ℕ) (k : Line GearActSeen GearAnswer) (b : Bool) (input : GearInput) → b ≡ same_home (written_at k.answer.answer) o → k.input.input ≡ input → kept_as i g k b input ≡ kept_part i g o k
kept_by i g o k b input same e = λ t. kept_as i g k (same t) (sym e t)

-- of another home it is none
pub kept_not : (i g : ℕ) (o : Option ℕ) (k : Line GearActSeen GearAnswer) (b : Bool) → b ≡ same_home (written_at k.answer.answer) o → b ≡ false → [] ≡ kept_part i g o k
kept_not i g o k b same e = sym (none (not (input_is_own (gear_handed k.input.input))) _) ∙ (λ t. kept_as i g k ((sym e ∙ same) t) k.input.input)
  where
    none : (c : Bool) (p : PartSeen) → part_if (c && false) p ≡ []
    none true p = refl
    none false p = refl

-- ---- an answer that is handed on

pub ok_as : {E : Type 0} (r : Result (Option PartSeen) E) (xs ys : List PartSeen) → IfOk r (λ o. parts_in o ≡ xs) → xs ≡ ys → IfOk r (λ o. parts_in o ≡ ys)
ok_as r xs ys w e = subst (λ (zs : List PartSeen). IfOk r (λ o. parts_in o ≡ zs)) e w

-- ---- values

abbrev pub value_of : Option (List ℕ) → List ℕ
value_of o = unwrap_or o []

pub values_more : (ps : List (Option (List ℕ))) (i : ℕ) (old new : List (List ℕ)) (v : List ℕ) → i < length ps → old ≡ map value_of (take i ps) → v ≡ unwrap_or (get_or ps i None) [] → new ≡ old ++ v ∷ [] → new ≡ map value_of (take (i + 1) ps)
values_more ps i old new v lt so-far is grown =
    grown ∙ ((λ t. so-far t ++ is t ∷ []) ∙ (sym (map-append value_of (take i ps) (get_or ps i None ∷ [])) ∙ ap (map value_of) (sym (take_more ps i None lt))))

pub values_all : (p : Payload) (i : ℕ) (old : List (List ℕ)) → i ≡ length p.values → old ≡ map value_of (take i p.values) → old ≡ values_of p
values_all p i old e so-far = so-far ∙ ap (map value_of) (take_all i p.values (omega (arith, e)))

-- ---- strays

abbrev part_in : ℕ → ℕ → Line GearActSeen GearAnswer → PartSeen
part_in i g k = record { lamport = k.lamport; entry = record { act = gear_act i g (client_in k.input.by) (gear_handed k.input.input); answer = k.answer.answer; inner = false }; given = gear_given k.input.input }

-- an act of the gear's own is no part
pub stray_own : (i g h : ℕ) (k : Line GearActSeen GearAnswer) (b : Bool) → b ≡ input_is_own (gear_handed k.input.input) → b ≡ true → kept_part i g (Some h) k ≡ []
stray_own i g h k b is e = λ t. part_if (not ((sym is ∙ e) t) && same_home (written_at k.answer.answer) (Some h)) (part_in i g k)

no-part : (b : Bool) (p : PartSeen) → part_if (b && false) p ≡ []
no-part true p = refl
no-part false p = refl

-- nor is what no gear wrote
pub stray_hub : (i g h : ℕ) (k : Line GearActSeen GearAnswer) → written_at k.answer.answer ≡ None → kept_part i g (Some h) k ≡ []
stray_hub i g h k e = (λ t. part_if (not (input_is_own (gear_handed k.input.input)) && same_home (e t) (Some h)) (part_in i g k)) ∙ no-part (not (input_is_own (gear_handed k.input.input))) (part_in i g k)

far-home : (m n h : ℕ) → m < n → n ≤ h → (m == h) ≡ false
far-home m n h l e = grind (arith, nat_tests)

-- nor what a gear wrote that is there
pub stray_near : (n i g h m : ℕ) (k : Line GearActSeen GearAnswer) → written_at k.answer.answer ≡ Some m → m < n → n ≤ h → kept_part i g (Some h) k ≡ []
stray_near n i g h m k e l le =
    (λ t. part_if (not (input_is_own (gear_handed k.input.input)) && same_home (e t) (Some h)) (part_in i g k)) ∙
    ((λ t. part_if (not (input_is_own (gear_handed k.input.input)) && far-home m n h l le t) (part_in i g k)) ∙ no-part (not (input_is_own (gear_handed k.input.input))) (part_in i g k))

-- one more entry
pub stray_more : (i g h j : ℕ) (es : List (Line GearActSeen GearAnswer)) (k : Line GearActSeen GearAnswer) → j < length es → k ≡ get_or es j k → parts_of i g h (take j es) ≡ [] → kept_part i g (Some h) k ≡ [] → parts_of i g h (take (j + 1) es) ≡ []
stray_more i g h j es k lt is old new =
    ap (parts_of i g h) (take_more es j k lt) ∙
    (ap (λ (x : Line GearActSeen GearAnswer). parts_of i g h (take j es ++ x ∷ [])) (sym is) ∙
    (sym (flat_map_more (kept_part i g (Some h)) [] (take j es) k) ∙ (λ t. old t ++ new t)))

no-end : (p : PartSeen) (ps : List PartSeen) → p ∷ ps ≡ [] → ⊥
no-end p ps e = cc

-- what a gear wrote that there is not is a part
pub stray_far : (i g h : ℕ) (k : Line GearActSeen GearAnswer) (b : Bool) → b ≡ input_is_own (gear_handed k.input.input) → b ≡ false → written_at k.answer.answer ≡ Some h → kept_part i g (Some h) k ≡ [] → ⊥
stray_far i g h k b is e at none = no-end (part_in i g k) [] (sym whole ∙ none)
  where
    whole : kept_part i g (Some h) k ≡ part_in i g k ∷ []
    whole = (λ t. part_if (not ((sym is ∙ e) t) && same_home (at t) (Some h)) (part_in i g k)) ∙ (λ t. part_if (same-number h t) (part_in i g k))

both-empty : (xs ys : List PartSeen) → xs ++ ys ≡ [] → (xs ≡ []) × (ys ≡ [])
both-empty [] ys e = (refl, e)
both-empty (x ∷ xs) ys e = absurd (no-end x (xs ++ ys) e)

-- and with it the gear has some
pub stray_here : (i g h : ℕ) (es : List (Line GearActSeen GearAnswer)) (j : ℕ) (k : Line GearActSeen GearAnswer) → j < length es → k ≡ get_or es j k → (kept_part i g (Some h) k ≡ [] → ⊥) → parts_of i g h es ≡ [] → ⊥
stray_here i g h [] j k lt is some none = absurd (omega (arith, lt))
stray_here i g h (x ∷ es) zero k lt is some none = some (ap (kept_part i g (Some h)) is ∙ (both-empty (kept_part i g (Some h) x) (parts_of i g h es) none).0)
stray_here i g h (x ∷ es) (suc j) k lt is some none = stray_here i g h es j k (omega (arith, lt)) is some (both-empty (kept_part i g (Some h) x) (parts_of i g h es) none).1
