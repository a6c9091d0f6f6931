-- The acts of hubs and gears are the site's.
use Rattle.std.specs.Prelude.{◌≡◌, ℕ, Bool, true, false, ◌==◌, max, List, if◌then◌else◌, refl}
use Rattle.std.proofs.Common.{sym, subst, ap, ◌∙◌, inl, inr}
use Rattle.std.proofs.lemmas.Bool.{eqb-true}
use Rattle.sat_label.proofs.Truth.{same-number}
use Rattle.sat_label.specs.Grouped.{list_of}
use Rattle.sat_label.specs.declared.carried.Carried.{Carried}
use Rattle.sat_label.specs.declared.items.Items.{Items}
use Rattle.sat_label.specs.declared.items.Items.TheVariants.{One}
use Rattle.sat_label.specs.declared.label.Kind.TheVariants as kind
use Rattle.sat_label.specs.declared.label.Label.{Label}
use Rattle.sat_act.specs.declared.answer.Answer.{Answer}
use Rattle.sat_act.specs.declared.answer.Answer.TheVariants as ans
use Rattle.sat_act.specs.declared.answer.Refusal.{Refusal}
use Rattle.sat_act.specs.Deployed.{Deployed}
use Rattle.sat_act.specs.Answers.{gear_of}
use Rattle.sat_act.specs.Parts.{items_of}
use Rattle.sat_laws.proofs.Labels.{some_is}
use Rattle.sat_model.specs.Input.{SiteInput}
use Rattle.sat_model.specs.Input as site
use Rattle.sat_model.specs.Next.{payload_at, site_next}
use Rattle.sat_model.specs.Reply.{gear_for, site_answer, site_step, write_by, read_by, move_by}
use Rattle.sat_joint.specs.Pieces.{Drain}
use Rattle.sat_joint.specs.Machines.{HubState, GearNode, drain_of, gear_drained, gear_shows, gear_step as own_step, hub_alone, hub_next, kept_site, no_drain, of_gears, shown_by, whole}
use Rattle.sat_joint.proofs.Sites.{IsGearAct, gear-moves, hub-moves, show-moves, drains-are, gather-moves, gather-answers, refused-act, IsWritten, written-is, group-moves, is_gears, is_hubs, is_show, IsOfHub, hub-answers, hub-local, write-act, reads-act, move-act, ticks-act, kept-answer}
use Rattle.sat_hub_laws.specs.Inputs.{HubInput, GearInput}
use Rattle.sat_hub_laws.specs.Inputs as given
use Rattle.sat_hub_laws.specs.Hubs.{drained_in, hub_answer, hub_then, site_of_hub}
use Rattle.sat_hub_laws.specs.Gears.{gear_answer, gear_then}
use Rattle.sat_hub_laws.specs.Sites.{IsSiteStep, with_gear, showing, is_gather, is_shown, written_gears, HubsActAlone, HubsGather, HubsShow, GearsActAlone, GearsWrite}

-- the two parts of a step
step-is : (d : Deployed) (i : ℕ) (h : HubState) (gs : ℕ → GearNode) (input : SiteInput) (r : Answer) (k : HubState) (ns : ℕ → GearNode) → r ≡ site_answer d i (whole d i h gs) input →
    kept_site d i (site_next d i (whole d i h gs) input r) ≡ whole d i k ns → IsSiteStep d i h gs input r k ns
unfolding site_step
step-is d i h gs input r k ns e f = record { answer = sym e; state = ap (λ (r : Answer). kept_site d i (site_next d i (whole d i h gs) input r)) (sym e) ∙ f }

-- ---- hubs

-- an input of a hub but a gather is one that the site's machine answers by its hub
hubs-input : (input : HubInput) → is_gather input ≡ false → is_hubs (site_of_hub input) ≡ true
hubs-input (given.Gather f) e = absurd (cc)
hubs-input _ e = refl

nothing-drained : (d : Deployed) (input : HubInput) → is_gather input ≡ false → drained_in d input ≡ (λ g. no_drain)
nothing-drained d (given.Gather f) e = absurd (cc)
nothing-drained d _ e = refl

pub alone-answers : (d : Deployed) (i : ℕ) (h : HubState) (input : HubInput) → is_gather input ≡ false → hub_answer d i h input ≡ site_answer d i (hub_alone d i h) (site_of_hub input)
unfolding hub_answer site_answer
alone-answers d i h (given.Gather f) e = absurd (cc)
alone-answers d i h _ e = refl

hub-replies : (d : Deployed) (i : ℕ) (h : HubState) (gs : ℕ → GearNode) (input : HubInput) → is_gather input ≡ false → hub_answer d i h input ≡ site_answer d i (whole d i h gs) (site_of_hub input)
hub-replies d i h gs input e = alone-answers d i h input e ∙ hub-local d i h gs (site_of_hub input) (hubs-input input e)

-- what a hub then is, without a gather
hub-next-is : (d : Deployed) (i : ℕ) (h : HubState) (input : HubInput) (r : Answer) → is_gather input ≡ false → hub_next d i h (λ g. no_drain) (site_of_hub input) r ≡ hub_then d i h input r
hub-next-is d i h input r e = ap (λ (f : ℕ → Drain). hub_next d i h f (site_of_hub input) r) (sym (nothing-drained d input e))

pub hubs-act-alone : HubsActAlone
hubs-act-alone d i h gs input e quiet =
    let r : Answer = hub_answer d i h input in
    let cases : IsOfHub (is_show (site_of_hub input)) r = subst (λ (r : Answer). IsOfHub (is_show (site_of_hub input)) r) (sym (alone-answers d i h input e)) (hub-answers d i (hub_alone d i h) (site_of_hub input) (hubs-input input e)) in
    step-is d i h gs (site_of_hub input) r (hub_then d i h input r) gs (hub-replies d i h gs input e)
    (hub-moves d i h gs (site_of_hub input) r (go (is_show (site_of_hub input)) r quiet cases) ∙ ap (λ (k : HubState). whole d i k gs) (hub-next-is d i h input r e))
  where
    go : (b : Bool) (r : Answer) → is_shown r ≡ false → IsOfHub b r → is_gears r ≡ false
    go b r q (inl n) = n
    go b r q (inr n) = absurd (let z : is_shown r ≡ true = ap is_shown n.1 in cc)

-- a gather shows nothing
no-gather : (d : Deployed) (i : ℕ) (h : HubState) (input : HubInput) (l : Label) → hub_answer d i h input ≡ ans.Shown l → is_gather input ≡ false
unfolding hub_answer
no-gather d i h (given.Gather f) l w = absurd (cc)
no-gather d i h _ l w = refl

pub hubs-show : HubsShow
hubs-show d i h gs input l is = step-is d i h gs (site_of_hub input) (ans.Shown l) (hub_then d i h input (ans.Shown l)) (showing d i (items_of l.kind) (shown_by h l) gs) (sym is ∙ hub-replies d i h gs input (no-gather d i h input l is))
    (show-moves d i h gs (showing d i (items_of l.kind) (shown_by h l) gs) (site_of_hub input) l
    (λ g e. ap (λ (b : Bool). if b then gear_shows (gs g) (shown_by h l) else gs g) e) (λ g e. ap (λ (b : Bool). if b then gear_shows (gs g) (shown_by h l) else gs g) e) ∙
    ap (λ (k : HubState). whole d i k (showing d i (items_of l.kind) (shown_by h l) gs)) (hub-next-is d i h input (ans.Shown l) (no-gather d i h input l is)))

gather-replies : (d : Deployed) (i : ℕ) (h : HubState) (gs : ℕ → GearNode) (f : ℕ → Drain) → of_gears d f ≡ (λ g. drain_of (gs g)) → hub_answer d i h (given.Gather f) ≡ site_answer d i (whole d i h gs) site.Gather
unfolding hub_answer
gather-replies d i h gs f e = gather-answers d i h gs f e

gather-then : (d : Deployed) (i : ℕ) (h : HubState) (gs : ℕ → GearNode) (f : ℕ → Drain) → of_gears d f ≡ (λ g. drain_of (gs g)) →
    kept_site d i (site_next d i (whole d i h gs) site.Gather (hub_answer d i h (given.Gather f))) ≡ whole d i (hub_then d i h (given.Gather f) (hub_answer d i h (given.Gather f))) (λ g. gear_drained (gs g))
unfolding hub_answer
gather-then d i h gs f e = gather-moves d i h gs (λ g. gear_drained (gs g)) f _ _ e (λ g. refl)

pub hubs-gather : HubsGather
hubs-gather d i h gs f new far =
    let drains : of_gears d f ≡ (λ g. drain_of (gs g)) = drains-are d gs f new far in
    step-is d i h gs site.Gather (hub_answer d i h (given.Gather f)) (hub_then d i h (given.Gather f) (hub_answer d i h (given.Gather f))) (λ g. gear_drained (gs g))
    (gather-replies d i h gs f drains) (gather-then d i h gs f drains)

-- ---- gears

kept-gear : (gs : ℕ → GearNode) (g k : ℕ) (n : GearNode) → (g == k) ≡ false → with_gear gs g n k ≡ gs k
kept-gear gs g k n e = ap (λ (b : Bool). if b then n else gs k) e

new-gear : (gs : ℕ → GearNode) (g : ℕ) (n : GearNode) → with_gear gs g n g ≡ n
new-gear gs g n = ap (λ (b : Bool). if b then n else gs g) (same-number g)

-- an act that leaves all but one gear
alone-step : (d : Deployed) (i g : ℕ) (h : HubState) (gs : ℕ → GearNode) (input : SiteInput) (r : Answer) (n : GearNode) → IsGearAct d i g input r → n ≡ own_step d g (gs g) input r →
    r ≡ site_answer d i (whole d i h gs) input → IsSiteStep d i h gs input r h (with_gear gs g n)
alone-step d i g h gs input r n is new reply =
    step-is d i h gs input r h (with_gear gs g n) reply (gear-moves d i g h gs (with_gear gs g n) input r is (λ k e. kept-gear gs g k n e) (new-gear gs g n ∙ new))

module _ (d : Deployed) (i : ℕ) (h : HubState) (gs : ℕ → GearNode) where
  abbrev StepOf : ℕ → GearInput → SiteInput → Type 0
  StepOf g input s = IsSiteStep d i h gs s (gear_answer d i (gs g) input) h (with_gear gs g (gear_then d g (gs g) input (gear_answer d i (gs g) input)))

  ticks : (g ts : ℕ) → StepOf g (given.Tick ts) (site.Tick g ts)
  unfolding gear_answer site_answer
  ticks g ts = alone-step d i g h gs (site.Tick g ts) (ans.Ticked (max (gs g).gear.promise ts)) _ (ticks-act d i g ts (max (gs g).gear.promise ts)) refl refl

  writes-one : (g x : ℕ) (seen : Carried) (values : List (List ℕ)) → gear_for d (One x) ≡ g → StepOf g (given.Write seen (One x) values) (site.Write seen (One x) values)
  unfolding gear_answer site_answer
  writes-one g x seen values e =
      alone-step d i g h gs (site.Write seen (One x) values) (write_by d i (One x) (gs g).gear.promise seen.point.ts) _ (write-act d i g (site.Write seen (One x) values) x (gs g).gear.promise seen.point.ts (sym e)) refl
      (ap (λ (n : ℕ). write_by d i (One x) (gs n).gear.promise seen.point.ts) (sym e))

  reads : (g x : ℕ) (seen : Carried) → gear_of d x ≡ g → StepOf g (given.Read seen x) (site.Read seen x)
  unfolding gear_answer site_answer
  reads g x seen e =
      alone-step d i g h gs (site.Read seen x) (read_by d i x ((gs g).store x)) _ (reads-act d i g (site.Read seen x) x ((gs g).store x)) refl
      (ap (λ (n : ℕ). read_by d i x ((gs n).store x)) (sym e) ∙ sym (kept-answer d i (record { gears = λ g. (gs g).gear; sink = h.sink; views = h.views; proxy = h.proxy; store = λ x. (gs (gear_of d x)).store x; made_beats = h.made_beats }) (site.Read seen x)))

  moves-first : (j : ℕ) (seen : Carried) → StepOf 0 (given.Move seen j) (site.Move seen j)
  unfolding gear_answer site_answer
  moves-first j seen =
      alone-step d i 0 h gs (site.Move seen j) (move_by i j (gs 0).gear.promise seen.point.ts) _ (move-act d i (site.Move seen j) j (gs 0).gear.promise seen.point.ts) refl refl

  moves-to : (g j : ℕ) (seen : Carried) → 0 ≡ g → StepOf g (given.Move seen j) (site.Move seen j)
  moves-to g j seen e = subst (λ (g : ℕ). StepOf g (given.Move seen j) (site.Move seen j)) e (moves-first j seen)

pub gears-act-alone : GearsActAlone
gears-act-alone d i g h gs (given.Tick ts) s own one is = subst (StepOf d i h gs g (given.Tick ts)) (some_is (site.Tick g ts) s is) (ticks d i h gs g ts)
gears-act-alone d i g h gs (given.Write seen (One x) values) s own one is =
    subst (StepOf d i h gs g (given.Write seen (One x) values)) (some_is (site.Write seen (One x) values) s is) (writes-one d i h gs g x seen values (eqb-true (gear_for d (One x)) g own))
gears-act-alone d i g h gs (given.Write seen _ values) s own one is = absurd (cc)
gears-act-alone d i g h gs (given.Read seen x) s own one is = subst (StepOf d i h gs g (given.Read seen x)) (some_is (site.Read seen x) s is) (reads d i h gs g x seen (eqb-true (gear_of d x) g own))
gears-act-alone d i g h gs (given.Move seen j) s own one is = subst (StepOf d i h gs g (given.Move seen j)) (some_is (site.Move seen j) s is) (moves-to d i h gs g j seen (eqb-true 0 g own))
gears-act-alone d i g h gs _ s own one is = absurd (cc)

-- ---- a write of several items

module _ (d : Deployed) (i : ℕ) (h : HubState) (gs : ℕ → GearNode) (seen : Carried) (items : Items) (values : List (List ℕ)) where
  abbrev home : ℕ
  home = gear_for d items

  abbrev StepFor : Answer → Type 0
  StepFor r = kept_site d i (site_next d i (whole d i h gs) (site.Write seen items values) r) ≡ whole d i h (with_gear (written_gears d i gs items values r) home (own_step d home (gs home) (site.Write seen items values) r))

  write-refused : (f : Refusal) → StepFor (ans.Refused f)
  write-refused f =
      gear-moves d i home h gs (with_gear gs home (own_step d home (gs home) (site.Write seen items values) (ans.Refused f))) (site.Write seen items values) (ans.Refused f) (refused-act d i home (site.Write seen items values) f)
      (λ k e. kept-gear gs home k (own_step d home (gs home) (site.Write seen items values) (ans.Refused f)) e) (new-gear gs home (own_step d home (gs home) (site.Write seen items values) (ans.Refused f)))

  write-done : (l : Label) → l.kind ≡ kind.Update items → l.point.gear ≡ home → StepFor (ans.Wrote l)
  write-done l is at =
      group-moves d i home h gs (with_gear (showing d i (list_of items) (payload_at l values) gs) home (own_step d home (gs home) (site.Write seen items values) (ans.Wrote l))) seen items values l is at
      (new-gear (showing d i (list_of items) (payload_at l values) gs) home (own_step d home (gs home) (site.Write seen items values) (ans.Wrote l)))
      (λ n e u. kept-gear (showing d i (list_of items) (payload_at l values) gs) home n (own_step d home (gs home) (site.Write seen items values) (ans.Wrote l)) e ∙ ap (λ (b : Bool). if b then gear_shows (gs n) (payload_at l values) else gs n) u)
      (λ n e u. kept-gear (showing d i (list_of items) (payload_at l values) gs) home n (own_step d home (gs home) (site.Write seen items values) (ans.Wrote l)) e ∙ ap (λ (b : Bool). if b then gear_shows (gs n) (payload_at l values) else gs n) u)

  write-step : (r : Answer) → IsWritten d items r → StepFor r
  write-step r (inl f) = subst StepFor (sym f.1) (write-refused f.0)
  write-step r (inr l) = subst StepFor (sym l.1) (write-done l.0 l.2 l.3)

  abbrev WriteStep : SiteInput → Type 0
  WriteStep s =
      IsSiteStep d i h gs s (gear_answer d i (gs home) (given.Write seen items values)) h
      (with_gear (written_gears d i gs items values (gear_answer d i (gs home) (given.Write seen items values))) home (gear_then d home (gs home) (given.Write seen items values) (gear_answer d i (gs home) (given.Write seen items values))))

  write-whole : WriteStep (site.Write seen items values)
  unfolding gear_answer site_answer
  write-whole = step-is d i h gs (site.Write seen items values) (write_by d i items (gs home).gear.promise seen.point.ts) h _ refl (write-step (write_by d i items (gs home).gear.promise seen.point.ts) (written-is d i items (gs home).gear.promise seen.point.ts))

pub gears-write : GearsWrite
gears-write d i h gs seen items values s is = subst (WriteStep d i h gs seen items values) (some_is (site.Write seen items values) s is) (write-whole d i h gs seen items values)
