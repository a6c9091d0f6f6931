-- The lanes of the gears are those of the history.
use Rattle.std.specs.Prelude.{◌≡◌, ℕ, ◌+◌, Bool, true, false, ◌&&◌, List, [], ◌∷◌, ◌++◌, map, Option, Some, None, ◌==◌, if◌then◌else◌, refl}
use Rattle.std.proofs.Common.{sym, ap, ◌∙◌}
use Rattle.sat_label.specs.declared.label.Label.{Label}
use Rattle.sat_label.specs.declared.label.Kind.TheVariants as kind
use Rattle.sat_label.specs.Grouped.{least_item, list_of}
use Rattle.sat_label.specs.Order.{point_at}
use Rattle.sat_act.specs.declared.act.Act.{Act}
use Rattle.sat_act.specs.declared.answer.Answer.{Answer}
use Rattle.sat_act.specs.declared.entry.Entry.{Entry}
use Rattle.sat_act.specs.Deployed.{Deployed}
use Rattle.sat_act.specs.Histories.{listed}
use Rattle.sat_act.specs.Parts.{lane, lane_entry, is_target, is_update}
use Rattle.sat_act.specs.Answers.{gear_of, base}
use Rattle.sat_act.specs.Runs.{IsRun}
use Rattle.sat_act.specs.Goals.{Made, IsValid}
use Rattle.sat_laws.proofs.Steps.{Step, write_label, wrote, moved}
use Rattle.sat_laws.proofs.Runs.{step_of, before_of, entry}
use Rattle.sat_laws.proofs.Shows.{in-lane}
use Rattle.sat_laws.proofs.Values.{values-stay, values-new}
use Rattle.sat_bulk.specs.Payloads.{Payload}
use Rattle.sat_model.specs.State.{SiteState}
use Rattle.sat_model.specs.Input.{SiteInput}
use Rattle.sat_model.specs.Next.{site_next, payload_at}
use Rattle.sat_model.specs.Parts.{valued}
use Rattle.sat_model.specs.Replay.{after, handed, site_state}
use Rattle.sat_model.proofs.Kept.{kept}
use Rattle.sat_model.proofs.Lists.{plain, map-join, map-same}
use Rattle.sat_model.proofs.Writing.{at-write, write_input}
use Rattle.sat_label.specs.Members.{In}

pub payloads-stay : (d : Deployed) (h : List Entry) (e : Entry) (ls : List Label) → IsValid d → IsRun d (e ∷ h) → ((l : Label) → In ls l → Made h l) → map (valued h) ls ≡ map (valued (e ∷ h)) ls
payloads-stay d h e ls v run k = map-same (valued h) (valued (e ∷ h)) ls (λ l i. ap (λ (w : List (List ℕ)). payload_at l w) (sym (values-stay d h e l v run (k l i))))

abbrev if_test : (Label → Bool) → Option Label → Option Label
if_test p o = elim o [ None ↦ None | Some l ↦ if p l then Some l else None ]

abbrev added : Option Label → List Label
added o = elim o [ None ↦ [] | Some l ↦ l ∷ [] ]

lane-more : (f : Label → Payload) (G : Option SiteInput → List Payload) (input : SiteInput) (b c e : Bool) (p : Label → Bool) (l : Label) (ls : List Label) → p l ≡ e → G None ≡ map f ls → G (Some input) ≡ (if c && e then map f ls ++ f l ∷ [] else map f ls) →
    G (if b then Some input else None) ≡ map f (ls ++ added (if_test p (if b && c then Some l else None)))
lane-more f G input true true e p l ls t u v = v ∙ go e (p l) t
  where
    go : (e k : Bool) → k ≡ e → (if e then map f ls ++ f l ∷ [] else map f ls) ≡ map f (ls ++ added (if k then Some l else None))
    go true true w = sym (map-join f ls (l ∷ []))
    go false false w = ap (map f) (sym (plain ls))
    go _ _ w = absurd (cc)
lane-more f G input true false e p l ls t u v = v ∙ ap (map f) (sym (plain ls))
lane-more f G input false c e p l ls t u v = u ∙ ap (map f) (sym (plain ls))

lane-less : (b : Bool) (p : Label → Bool) (l : Label) (ls : List Label) → p l ≡ false → ls ++ added (if_test p (if b then Some l else None)) ≡ ls
lane-less true p l ls t = ap (λ (c : Bool). ls ++ added (if c then Some l else None)) t ∙ plain ls
lane-less false p l ls t = plain ls

lanes-step : (d : Deployed) (h : List Entry) (i g j : ℕ) (s : SiteState) (a : Act) (r : Answer) (n : Bool) →
    (s.gears g).lanes j ≡ map (valued (entry a r n ∷ h)) (lane d h i g j) → Step d h a r →
    ((after d i s (handed d h a i) r).gears g).lanes j ≡ map (valued (entry a r n ∷ h)) (lane d (entry a r n ∷ h) i g j)
unfolding after handed site_next lane
lanes-step d h i g j s a r n k (wrote {w = w} {i = t} z p q b) =
    let l : Label = write_label d h w t in
    let here : Bool = gear_of d (least_item (list_of w.items)) == g in
    at-write (λ o. ((after d i s o r).gears g).lanes j) _ d h a w i t z p
    (lane-more (valued (entry a r n ∷ h)) (λ o. ((after d i s o r).gears g).lanes j) (write_input h w) (t == i) here (is_target d l j)
    (λ m. is_update m.kind && is_target d m j) l (listed (lane_entry d i g j) h) refl k
    (ap (λ (ps : List Payload). if here && is_target d l j then ps ++ payload_at l w.values ∷ [] else ps) k ∙
    ap (λ (y : List (List ℕ)). if here && is_target d l j then map (valued (entry a r n ∷ h)) (listed (lane_entry d i g j) h) ++ payload_at l y ∷ [] else map (valued (entry a r n ∷ h)) (listed (lane_entry d i g j) h)) (sym (values-new h l n a w z))))
lanes-step d h i g j s a r n k (moved {c = c} {j = u} {i = t} p q w) =
    let l : Label = record { point = point_at (base h c t 0 + 1) t 0; kind = kind.Move u } in
    kept (λ s. (s.gears g).lanes j) d i s (handed d h a i) r (λ input. refl) ∙
    (k ∙ ap (map (valued (entry a r n ∷ h))) (sym (lane-less ((t == i) && (0 == g)) (λ m. is_update m.kind && is_target d m j) l (listed (lane_entry d i g j) h) refl)))
lanes-step d h i g j s a r n k _ = kept (λ s. (s.gears g).lanes j) d i s (handed d h a i) r (λ input. refl) ∙ (k ∙ ap (map (valued (entry a r n ∷ h))) (sym (plain (listed (lane_entry d i g j) h))))

pub lanes-agree : (d : Deployed) (h : List Entry) (i g j : ℕ) → IsValid d → IsRun d h → ((site_state d h i).gears g).lanes j ≡ map (valued h) (lane d h i g j)
unfolding site_state lane
lanes-agree d [] i g j v run = refl
lanes-agree d (e ∷ h) i g j v run =
    lanes-step d h i g j (site_state d h i) e.act e.answer e.inner
    (lanes-agree d h i g j v (before_of d h e run) ∙ payloads-stay d h e (lane d h i g j) v run (λ l m. (in-lane d h i g j l m).made))
    (step_of d h e run)
