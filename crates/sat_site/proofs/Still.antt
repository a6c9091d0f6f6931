-- Acts that leave all as it is, that raise promises, and that read.
use Rattle.std.specs.Prelude.{◌≡◌, ◌≢◌, ◌≤◌, ℕ, ◌==◌, max, List, refl}
use Rattle.std.proofs.Common.{ap, sym, ◌∙◌, arith}
use Rattle.std.proofs.lemmas.Bool.{eq-eqb, ne_eqb}
use Rattle.sat_label.specs.declared.label.Label.{Label}
use Rattle.sat_gear.specs.Gear.{GearSeen, after_tick}
use Rattle.sat_act.specs.declared.answer.Answer.TheVariants as ans
use Rattle.sat_act.specs.declared.answer.Refusal.{Refusal}
use Rattle.sat_act.specs.Deployed.{Deployed}
use Rattle.sat_model.specs.Input.{SiteInput}
use Rattle.sat_model.specs.Input as given
use Rattle.sat_model.specs.State.{SiteState, GearState}
use Rattle.sat_model.specs.Next.{site_next, gear_next}
use Rattle.sat_model.specs.Reply.{site_answer}
use Rattle.sat_site.specs.Seen.{SiteSeen}
use Rattle.sat_site.specs.Stands.{StandsSite, StandsGear}
use Rattle.sat_site.specs.Changes.{with_gear, clocked, ticked_to, HasGear}
use Rattle.sat_site.specs.Gives.{PromisesUpTo}
use Rattle.sat_hub.proofs.Lists.{chosen, passed}
use Rattle.sat_site.proofs.Parts.{gears-set, gears-map, store-set, store-map}

pub refuses : (d : Deployed) (i : ℕ) (x : SiteSeen) (s : SiteState) (input : SiteInput) (r : Refusal) → StandsSite d i x s → StandsSite d i x (site_next d i s input (ans.Refused r))
unfolding site_next
refuses d i x s input r st = st

pub repeats : (d : Deployed) (i : ℕ) (x : SiteSeen) (s : SiteState) (input : SiteInput) → StandsSite d i x s → StandsSite d i x (site_next d i s input ans.Again)
unfolding site_next
repeats d i x s input st = st

pub olds : (d : Deployed) (i : ℕ) (x : SiteSeen) (s : SiteState) (input : SiteInput) → StandsSite d i x s → StandsSite d i x (site_next d i s input ans.Old)
unfolding site_next
olds d i x s input st = st

pub attaches : (d : Deployed) (i : ℕ) (x : SiteSeen) (s : SiteState) (input : SiteInput) → StandsSite d i x s → StandsSite d i x (site_next d i s input ans.Attached)
unfolding site_next
attaches d i x s input st = st

pub reads-nothing : (d : Deployed) (i : ℕ) (x : SiteSeen) (s : SiteState) (input : SiteInput) → StandsSite d i x s → StandsSite d i x (site_next d i s input ans.ReadNone)
unfolding site_next
reads-nothing d i x s input st = st

pub reads-some : (d : Deployed) (i : ℕ) (x : SiteSeen) (s : SiteState) (input : SiteInput) (l : Label) (value : List ℕ) → StandsSite d i x s → StandsSite d i x (site_next d i s input (ans.ReadSome l value))
unfolding site_next
reads-some d i x s input l value st = st

raised-gear : (d : Deployed) (gear : GearSeen) (s : GearState) (g k t : ℕ) → g ≡ k → StandsGear d gear s → StandsGear d (after_tick gear t) (gear_next d k s (given.Tick g t) (ans.Ticked (max gear.promise t)))
raised-gear d gear s g k t e st = record { promise = sym (chosen (g == k) (max gear.promise t) s.promise (eq-eqb g k e)); fresh = st.fresh; lanes = st.lanes }

kept-gear : (d : Deployed) (gear : GearSeen) (s : GearState) (g k t u : ℕ) → k ≢ g → StandsGear d gear s → StandsGear d gear (gear_next d k s (given.Tick g t) (ans.Ticked u))
kept-gear d gear s g k t u e st = record { promise = st.promise ∙ sym (passed (g == k) u s.promise (ne_eqb g k (λ w. e (sym w)))); fresh = st.fresh; lanes = st.lanes }

pub ticks-answer : (d : Deployed) (i : ℕ) (x : SiteSeen) (s : SiteState) (g t : ℕ) (gear : GearSeen) → HasGear x g gear → StandsSite d i x s → ans.Ticked (max gear.promise t) ≡ site_answer d i s (given.Tick g t)
unfolding site_answer
ticks-answer d i x s g t gear at st = ap (λ (p : ℕ). ans.Ticked (max p t)) (st.gears.each g gear at).promise

pub ticks-stand : (d : Deployed) (i : ℕ) (x : SiteSeen) (s : SiteState) (g t : ℕ) (gear : GearSeen) → HasGear x g gear → StandsSite d i x s → StandsSite d i (with_gear x g (after_tick gear t)) (site_next d i s (given.Tick g t) (ans.Ticked (max gear.promise t)))
unfolding site_next
ticks-stand d i x s g t gear at st = record {
  shape = st.shape;
  gears = gears-set d x.gears g (after_tick gear t) s.gears (λ k. gear_next d k (s.gears k) (given.Tick g t) (ans.Ticked (max gear.promise t))) st.gears
      (raised-gear d gear (s.gears g) g g t refl (st.gears.each g gear at))
      (λ k y e old. kept-gear d y (s.gears k) g k t (max gear.promise t) e old) (λ k j past. refl);
  sink = st.sink;
  views = st.views;
  proxy = st.proxy;
  store = store-set d i x.gears g gear (after_tick gear t) s.store s.store at st.store (λ n e old. old) (λ n e. refl);
  made = st.made;
}

clocked-gear : (d : Deployed) (gear : GearSeen) (s : GearState) (k t : ℕ) → gear.promise ≤ t → StandsGear d gear s → StandsGear d (ticked_to t gear) (gear_next d k s (given.Clock t) (ans.Clocked t))
clocked-gear d gear s k t le st = record { promise = (let e : max gear.promise t ≡ t = omega arith in e); fresh = st.fresh; lanes = st.lanes }

pub clocks-stand : (d : Deployed) (i : ℕ) (x : SiteSeen) (s : SiteState) (t : ℕ) → PromisesUpTo x t → StandsSite d i x s → StandsSite d i (clocked x t) (site_next d i s (given.Clock t) (ans.Clocked t))
unfolding site_next
clocks-stand d i x s t up st = record {
  shape = st.shape;
  gears = gears-map d (ticked_to t) x.gears s.gears (λ k. gear_next d k (s.gears k) (given.Clock t) (ans.Clocked t)) st.gears (λ k gear at old. clocked-gear d gear (s.gears k) k t (up k gear at) old) (λ g j. refl);
  sink = st.sink;
  views = st.views;
  proxy = st.proxy;
  store = store-map d i (ticked_to t) x.gears s.store st.store (λ gear n. refl);
  made = st.made;
}
