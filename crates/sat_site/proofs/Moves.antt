-- A client's move, stamped by gear 0.
use Rattle.std.specs.Prelude.{◌≡◌, ◌<◌, ◌+◌, ◌^◌, ℕ, Bool, true, false, ◌==◌, nat_le, max, List, [], ◌∷◌, ◌++◌, Option, Some, slice_get, refl}
use Rattle.std.proofs.Common.{subst, ap, sym, ◌∙◌}
use Rattle.std.proofs.lemmas.Bool.{eq-eqb, ne_eqb}
use Rattle.sat_label.specs.declared.carried.Carried.{Carried}
use Rattle.sat_label.specs.declared.label.Label.{Label}
use Rattle.sat_label.specs.declared.label.Kind.TheVariants.{Move}
use Rattle.sat_label.specs.Order.{point_at}
use Rattle.sat_gear.specs.Gear.{GearSeen, after_move, stamped, is_spent}
use Rattle.sat_act.specs.declared.answer.Answer.TheVariants as ans
use Rattle.sat_act.specs.declared.answer.Answer.{Answer}
use Rattle.sat_act.specs.declared.answer.Refusal.TheVariants as why
use Rattle.sat_act.specs.Answers.{refused_if}
use Rattle.sat_act.specs.Settling.{is_done}
use Rattle.sat_act.specs.Deployed.{Deployed}
use Rattle.sat_model.specs.Input as given
use Rattle.sat_model.specs.State.{SiteState, GearState}
use Rattle.sat_model.specs.Next.{site_next, gear_next}
use Rattle.sat_model.specs.Reply.{site_answer}
use Rattle.sat_site.specs.Seen.{SiteSeen, IsSite}
use Rattle.sat_site.specs.Stands.{StandsSite, StandsGear}
use Rattle.sat_site.specs.Changes.{with_gear, HasGear}
use Rattle.sat_site.specs.SiteSteps.{move_answer, move_after, moved_answer, moved_gear}
use Rattle.sat_hub.proofs.Lists.{chosen, passed}
use Rattle.sat_site.proofs.Gathers.{each-gear}
use Rattle.sat_site.proofs.Parts.{gears-set, site-is, store-set}
use Rattle.sat_site.proofs.Still.{refuses}
use Rattle.sat_site.proofs.Same.{same-place}

-- gear 0 is there
pub first-gear : (x : SiteSeen) → IsSite x → (gear : GearSeen) × HasGear x 0 gear
first-gear x k = each-gear x 0 (subst (λ (n : ℕ). 0 < n) (sym k.gears.count) k.shape.gears)

abbrev by_machine : ℕ → ℕ → ℕ → ℕ → Bool → Answer
by_machine i j promise ts b = refused_if b why.SameSite (refused_if (nat_le (2 ^ 62) (max promise ts)) why.Spent (ans.Moved (record { point = point_at (max promise ts + 1) i 0; kind = Move j })))

label-is : (d : Deployed) (i : ℕ) (x : SiteSeen) (s : SiteState) (seen : Carried) (j : ℕ) (gear : GearSeen) → IsSite x → HasGear x 0 gear → StandsSite d i x s →
    stamped gear seen.point (Move j) ≡ record { point = point_at (max (s.gears 0).promise seen.point.ts + 1) i 0; kind = Move j }
label-is d i x s seen j gear k at st =
    let a : gear.promise ≡ (s.gears 0).promise = (st.gears.each 0 gear at).promise in
    let b : gear.shape.site ≡ i = (λ j. ((k.gears.each 0 gear at).shape j).site) ∙ site-is d i x s st in
    let c : gear.gear ≡ 0 = (k.gears.each 0 gear at).number in
    λ n. record { point = point_at (max (a n) seen.point.ts + 1) (b n) (c n); kind = Move j }

pub moves-answer : (d : Deployed) (i : ℕ) (x : SiteSeen) (s : SiteState) (seen : Carried) (j : ℕ) → IsSite x → StandsSite d i x s →
    move_answer (j == x.shape.site) (slice_get x.gears 0) seen j ≡ site_answer d i s (given.Move seen j)
unfolding site_answer
moves-answer d i x s seen j k st =
    let g = first-gear x k in
    ap (λ (o : Option GearSeen). move_answer (j == x.shape.site) o seen j) g.1 ∙
    (go g.0 g.1 (j == x.shape.site) ∙ ap (λ (n : ℕ). by_machine i j (s.gears 0).promise seen.point.ts (j == n)) (site-is d i x s st))
  where
    spends : (gear : GearSeen) → HasGear x 0 gear → (b : Bool) → is_spent gear seen.point ≡ b → moved_answer b (stamped gear seen.point (Move j)) ≡ refused_if b why.Spent (ans.Moved (record { point = point_at (max (s.gears 0).promise seen.point.ts + 1) i 0; kind = Move j }))
    spends gear at true e = refl
    spends gear at false e = ap ans.Moved (label-is d i x s seen j gear k at st)

    go : (gear : GearSeen) → HasGear x 0 gear → (b : Bool) → move_answer b (Some gear) seen j ≡ by_machine i j (s.gears 0).promise seen.point.ts b
    go gear at true = refl
    go gear at false =
        spends gear at (is_spent gear seen.point) refl ∙
        ap (λ (p : ℕ). refused_if (nat_le (2 ^ 62) (max p seen.point.ts)) why.Spent (ans.Moved (record { point = point_at (max (s.gears 0).promise seen.point.ts + 1) i 0; kind = Move j }))) (st.gears.each 0 gear at).promise

moved-here : (d : Deployed) (gear : GearSeen) (s : GearState) (k j : ℕ) (seen : Carried) (l : Label) → l.point.gear ≡ k → StandsGear d gear s → StandsGear d (after_move gear l) (gear_next d k s (given.Move seen j) (ans.Moved l))
moved-here d gear s k j seen l e st = record {
  promise = sym (chosen (l.point.gear == k) l.point.ts s.promise (eq-eqb l.point.gear k e));
  fresh = ap (λ (ls : List Label). ls ++ l ∷ []) st.fresh ∙ sym (chosen (l.point.gear == k) (s.fresh ++ l ∷ []) s.fresh (eq-eqb l.point.gear k e));
  lanes = st.lanes;
}

moved-there : (d : Deployed) (gear : GearSeen) (s : GearState) (k j : ℕ) (seen : Carried) (l : Label) → (l.point.gear ≡ k → ⊥) → StandsGear d gear s → StandsGear d gear (gear_next d k s (given.Move seen j) (ans.Moved l))
moved-there d gear s k j seen l e st = record {
  promise = st.promise ∙ sym (passed (l.point.gear == k) l.point.ts s.promise (ne_eqb l.point.gear k e));
  fresh = st.fresh ∙ sym (passed (l.point.gear == k) (s.fresh ++ l ∷ []) s.fresh (ne_eqb l.point.gear k e));
  lanes = st.lanes;
}

moved-stand : (d : Deployed) (i : ℕ) (x : SiteSeen) (s : SiteState) (seen : Carried) (j : ℕ) (gear : GearSeen) (l : Label) → HasGear x 0 gear → l.point.gear ≡ 0 → StandsSite d i x s → StandsSite d i (with_gear x 0 (after_move gear l)) (site_next d i s (given.Move seen j) (ans.Moved l))
unfolding site_next
moved-stand d i x s seen j gear l at number st = record {
  shape = st.shape;
  gears = gears-set d x.gears 0 (after_move gear l) s.gears (λ k. gear_next d k (s.gears k) (given.Move seen j) (ans.Moved l)) st.gears
      (moved-here d gear (s.gears 0) 0 j seen l number (st.gears.each 0 gear at))
      (λ k y e old. moved-there d y (s.gears k) k j seen l (λ f. e (sym f ∙ number)) old) (λ k j past. refl);
  sink = st.sink;
  views = st.views;
  proxy = st.proxy;
  store = store-set d i x.gears 0 gear (after_move gear l) s.store s.store at st.store (λ n e old. old) (λ n e. refl);
  made = st.made;
}

pub moves-stand : (d : Deployed) (i : ℕ) (x : SiteSeen) (s : SiteState) (seen : Carried) (j : ℕ) → IsSite x → StandsSite d i x s →
    StandsSite d i (move_after x (j == x.shape.site) (slice_get x.gears 0) seen j) (site_next d i s (given.Move seen j) (move_answer (j == x.shape.site) (slice_get x.gears 0) seen j))
moves-stand d i x s seen j k st =
    let g = first-gear x k in
    subst (λ (o : Option GearSeen). StandsSite d i (move_after x (j == x.shape.site) o seen j) (site_next d i s (given.Move seen j) (move_answer (j == x.shape.site) o seen j))) (sym g.1) (go g.0 g.1 (j == x.shape.site))
  where
    spends : (gear : GearSeen) → HasGear x 0 gear → (b : Bool) → StandsSite d i (with_gear x 0 (moved_gear b gear (stamped gear seen.point (Move j)))) (site_next d i s (given.Move seen j) (moved_answer b (stamped gear seen.point (Move j))))
    spends gear at true = subst (λ (y : SiteSeen). StandsSite d i y (site_next d i s (given.Move seen j) (ans.Refused why.Spent))) (sym (same-place x 0 gear at)) (refuses d i x s (given.Move seen j) why.Spent st)
    spends gear at false = moved-stand d i x s seen j gear (stamped gear seen.point (Move j)) at (k.gears.each 0 gear at).number st

    go : (gear : GearSeen) → HasGear x 0 gear → (b : Bool) → StandsSite d i (move_after x b (Some gear) seen j) (site_next d i s (given.Move seen j) (move_answer b (Some gear) seen j))
    go gear at true = refuses d i x s (given.Move seen j) why.SameSite st
    go gear at false = spends gear at (is_spent gear seen.point)

pub moves-refused : (x : SiteSeen) (seen : Carried) (j : ℕ) → IsSite x → is_done (move_answer (j == x.shape.site) (slice_get x.gears 0) seen j) ≡ false → move_after x (j == x.shape.site) (slice_get x.gears 0) seen j ≡ x
moves-refused x seen j k =
    let g = first-gear x k in
    subst (λ (o : Option GearSeen). is_done (move_answer (j == x.shape.site) o seen j) ≡ false → move_after x (j == x.shape.site) o seen j ≡ x) (sym g.1) (go g.0 g.1 (j == x.shape.site))
  where
    spends : (gear : GearSeen) → HasGear x 0 gear → (b : Bool) → is_done (moved_answer b (stamped gear seen.point (Move j))) ≡ false → with_gear x 0 (moved_gear b gear (stamped gear seen.point (Move j))) ≡ x
    spends gear at true f = same-place x 0 gear at
    spends gear at false f = absurd (cc)

    go : (gear : GearSeen) → HasGear x 0 gear → (b : Bool) → is_done (move_answer b (Some gear) seen j) ≡ false → move_after x b (Some gear) seen j ≡ x
    go gear at true f = refl
    go gear at false f = spends gear at (is_spent gear seen.point) f
