-- What each act of sites that last does in each history that they stood for.
use Rattle.std.proofs.Common.{◌≡◌, ◌<◌, ◌≤◌, ℕ, ◌==◌, Bool, true, false, ◌&&◌, List, [], ◌∷◌, ◌++◌, length, set, slice_get, Option, Some, None, refl, sym, ap, subst, ◌∙◌}
use Rattle.std.specs.Prelude.{if◌then◌else◌}
use Rattle.std.proofs.lemmas.Option.{slice_get_within}
use Rattle.sat_act.specs.declared.act.Act.{Act}
use Rattle.sat_act.specs.declared.answer.Answer.{Answer}
use Rattle.sat_act.specs.declared.entry.Entry.{Entry}
use Rattle.sat_act.specs.Deployed.{Deployed}
use Rattle.sat_act.specs.Answers.{answer}
use Rattle.sat_act.specs.Limits.{IsDeployment}
use Rattle.sat_act.proofs.Valid.{is_valid}
use Rattle.sat_bodies.specs.Bodies.{input_allows}
use Rattle.sat_model.specs.Replay.{handed, site_state}
use Rattle.sat_site.specs.declared.input.SiteInput.{SiteInput}
use Rattle.sat_site.specs.Inputs.{fits_in, input_of}
use Rattle.sat_site.specs.Seen.{IsSite}
use Rattle.sat_world.specs.Applies.{Applies}
use Rattle.sat_world.specs.Reaches.{IsHandedTo, Reaches}
use Rattle.sat_world.specs.Seen.{WorldSeen}
use Rattle.sat_world.specs.Stands.{StandsFor}
use Rattle.sat_world.proofs.Meets.{in-range}
use Rattle.sat_lasting_laws.specs.declared.lasting_act.LastingAct.{LastingAct}
use Rattle.sat_lasting_laws.specs.declared.lasting_act.LastingAct.TheVariants as lasting
use Rattle.sat_lasting_laws.specs.declared.lasting_act.TheConstants.{MOST_CALLS}
use Rattle.sat_lasting_laws.specs.declared.lasting_answer.LastingAnswer.{LastingAnswer}
use Rattle.sat_lasting_laws.specs.declared.lasting_answer.LastingAnswer.TheVariants as says
use Rattle.sat_lasting_laws.specs.Lastings as laws
use Rattle.sat_lasting_laws.specs.Lastings.{LastingEntry, armed, armed_after, cut_into, kept, plain_entry}
use Rattle.sat_lasting_laws.specs.LastingAnswers.{IsLastingInRange, cut_answer, inputs_of, lasting_answer}
use Rattle.sat_lasting_laws.specs.LastingRuns.{IsLastingRun}
use Rattle.sat_lasting_laws.specs.Ranges.{IsLastingActOf}
use Rattle.sat_lasting_laws.specs.Reached.{is_at, site_at}
use Rattle.sat_lasting_laws.proofs.Held.{held, lastings}
use Rattle.sat_lasting.specs.declared.cut.Cut.{Cut}
use Rattle.sat_lasting.specs.declared.slot.Slot.{Slot}
use Rattle.sat_lasting.specs.Cuts.{cut_at}
use Rattle.sat_lasting.specs.Lasts.{AreInputs, Changes, LastingApplies, LastingSeen, LastsAt, LastsFor, Steps, Stops, whole_answer}
use Rattle.sat_lasting.specs.Slots.{IsFew, SlotFits, SlotKeeps, StepsSlot, TakesNext, after_inputs, is_there, with_input}
use Rattle.sat_lasting.proofs.Allowed.{all_have_bodies}
use Rattle.sat_lasting.proofs.Behind.{behind-sound}
use Rattle.sat_lasting.proofs.Handing.{cut-armed, cut-elsewhere, cut-nowhere, cut-stays, cut-used, falls-in, falls-nowhere, inputs-count, next-none, next-some, no-site, site-is, stop-stays, stop-used}
use Rattle.sat_lasting.proofs.Handing as handing
use Rattle.sat_lasting.proofs.Sets.{get-set, same-number, same-some, set-there}

abbrev entry_of : LastingAct → LastingAnswer → LastingEntry
entry_of a r = record { act = a; answer = r }

-- ---- what an act answers in every history makes the whole of it

lasting-in-range : (d : Deployed) (a : LastingAct) → IsLastingActOf d a → IsLastingInRange d a
lasting-in-range d (lasting.Plain a) k = (in-range d a k.0, k.1)
lasting-in-range d (lasting.Stop i) k = k
lasting-in-range d (lasting.Cut i calls keep) k = k

applies-of : (s t : LastingSeen) (a : LastingAct) (r : LastingAnswer) → IsDeployment s.world.deployment → IsLastingActOf s.world.deployment a → t.world.deployment ≡ s.world.deployment →
    ((c : List LastingEntry) → IsLastingRun s.world.deployment c → LastsFor s c → r ≡ lasting_answer s.world.deployment c a) →
    ((c : List LastingEntry) → IsLastingRun s.world.deployment c → LastsFor s c → LastsFor t (entry_of a r ∷ c)) → LastingApplies s a r t
unfolding IsLastingRun
applies-of s t a r dep of same answers stands = record {
  answer = answers;
  run = λ c run st. subst (λ (d : Deployed). IsLastingRun d (entry_of a r ∷ c)) (sym same) (next c run st);
  stands = stands;
  good = λ c run st. lastings s.world.deployment (entry_of a r ∷ c) (is_valid s.world.deployment dep) dep.trees (next c run st);
  deployment = same;
}
  where
    next : (c : List LastingEntry) → IsLastingRun s.world.deployment c → LastsFor s c → IsLastingRun s.world.deployment (entry_of a r ∷ c)
    next c run st = (run, lasting-in-range s.world.deployment a of, answers c run st)

-- ---- one site

stay-at : (d : Deployed) (s t : LastingSeen) (c e : List LastingEntry) (k : ℕ) → slice_get t.slots k ≡ slice_get s.slots k → slice_get t.cuts k ≡ slice_get s.cuts k → armed d e k ≡ armed d c k →
    ((xs : List SiteInput) → AreInputs d (kept c) k xs → AreInputs d (kept e) k xs) → LastsAt d s c k → LastsAt d t e k
stay-at d s t c e k slots cuts same goes x = record {
  slot = x.slot;
  at = slots ∙ x.at;
  inputs = x.inputs;
  are = goes x.inputs x.are;
  keeps = x.keeps;
  cut = x.cut;
  waits = cuts ∙ x.waits;
  same = x.same ∙ sym same;
}

lasts-by : (s t : LastingSeen) (c e : List LastingEntry) (i : ℕ) → t.world.deployment ≡ s.world.deployment → LastsFor s c → StandsFor t.world (kept e) →
    ((k : ℕ) → (i == k) ≡ false → LastsAt s.world.deployment s c k → LastsAt s.world.deployment t e k) → (LastsAt s.world.deployment s c i → LastsAt s.world.deployment t e i) → LastsFor t e
lasts-by s t c e i same st world others here = record { world = world; sites = subst (λ (d : Deployed). (k : ℕ) → k < d.sites → LastsAt d t e k) (sym same) each }
  where
    each : (k : ℕ) → k < s.world.deployment.sites → LastsAt s.world.deployment t e k
    each k lt = go (i == k) refl
      where
        go : (b : Bool) → (i == k) ≡ b → LastsAt s.world.deployment t e k
        go true is = subst (λ (n : ℕ). LastsAt s.world.deployment s c n → LastsAt s.world.deployment t e n) (same-number i k is) here (st.sites k lt)
        go false is = others k is (st.sites k lt)

-- ---- the cut that waits at a site is small

abbrev IsFewSeen : Option laws.Cut → Type 0
IsFewSeen None = Unit {0}
IsFewSeen (Some cut) = cut.calls ≤ MOST_CALLS

few-if-none : (b : Bool) (o : Option laws.Cut) → IsFewSeen o → IsFewSeen (if b then None else o)
few-if-none true o few = tt
few-if-none false o few = few

few-if-some : (b : Bool) (cut : laws.Cut) (o : Option laws.Cut) → cut.calls ≤ MOST_CALLS → IsFewSeen o → IsFewSeen (if b then Some cut else o)
few-if-some true cut o low few = low
few-if-some false cut o low few = few

few-after : (d : Deployed) (h : List Entry) (i : ℕ) (a : LastingAct) (o : Option laws.Cut) → IsLastingInRange d a → IsFewSeen o → IsFewSeen (armed_after d h i a o)
few-after d h i (lasting.Plain a) o range few = few-if-none (is_at d h a i) o few
few-after d h i (lasting.Stop k) o range few = few-if-none (k == i) o few
few-after d h i (lasting.Cut k calls keep) o range few = few-if-some (k == i) (record { calls = calls; keep = keep }) o range.1 few

few-armed : (d : Deployed) (c : List LastingEntry) (i : ℕ) → IsLastingRun d c → IsFewSeen (armed d c i)
unfolding armed IsLastingRun
few-armed d [] i run = tt
few-armed d (x ∷ c) i run = few-after d (kept c) i x.act (armed d c i) run.1 (few-armed d c i run.0)

few-of : (o : Option Cut) → IsFewSeen (cut_at o) → IsFew o
few-of None few = tt
few-of (Some cut) few = few

pub few-there : (d : Deployed) (s : LastingSeen) (c : List LastingEntry) (i : ℕ) (cut : Option Cut) → IsLastingRun d c → LastsAt d s c i → slice_get s.cuts i ≡ Some cut → IsFew cut
few-there d s c i cut run x took =
    let is : cut ≡ x.cut = same-some cut x.cut (sym took ∙ x.waits) in
    few-of cut (subst (λ (o : Option laws.Cut). IsFewSeen o) (sym (ap (λ (o : Option Cut). cut_at o) is ∙ x.same)) (few-armed d c i run))

-- ---- a site takes what the act hands to it

both-true : (a b : Bool) → a ≡ true → b ≡ true → (a && b) ≡ true
both-true true b e f = f
both-true false b e f = absurd (cc)

-- what is known of the site behind inputs of which a disk has a journal, and of the next one
record Takes (d : Deployed) (i : ℕ) (xs : List SiteInput) (given : SiteInput) : Type 0 where
  pub sound : IsSite (after_inputs d i xs).site
  pub fits : fits_in (after_inputs d i xs).site given ≡ true
  pub allows : input_allows given ≡ true
  pub takes : TakesNext d i xs given

takes-it : (d : Deployed) (h : List Entry) (a : Act) (i : ℕ) (given : SiteInput) (xs : List SiteInput) (here : Slot) → IsDeployment d → IsHandedTo d h a i given → AreInputs d h i xs → SlotKeeps d i xs here → Takes d i xs given
takes-it d h a i given xs here limits to are has =
    let sound : IsSite (after_inputs d i xs).site = behind-sound d i xs _ limits to.site has.has.keeps.shown in
    let fits : fits_in (after_inputs d i xs).site given ≡ true = to.fits (after_inputs d i xs).site sound are.stands in
    let allows : input_allows given ≡ true = all_have_bodies d i (after_inputs d i xs).site (site_state d h i) given limits are.stands fits in
    record { sound = sound; fits = fits; allows = allows; takes = both-true (fits_in (after_inputs d i xs).site given) (input_allows given) fits allows }

slot-fits : (d : Deployed) (h : List Entry) (a : Act) (i : ℕ) (given : SiteInput) (xs : List SiteInput) (here : Slot) → IsDeployment d → IsHandedTo d h a i given → AreInputs d h i xs → SlotKeeps d i xs here → SlotFits given here
slot-fits d h a i given xs here limits to are has = record { whole = has.whole; allows = (takes-it d h a i given xs here limits to are has).allows }

pub fits-there : (d : Deployed) (s : LastingSeen) (c : List LastingEntry) (a : Act) (i : ℕ) (given : SiteInput) → IsDeployment d → IsHandedTo d (kept c) a i given → LastsAt d s c i → (here : Slot) → slice_get s.slots i ≡ Some here → SlotFits given here
fits-there d s c a i given limits to x here at =
    slot-fits d (kept c) a i given x.inputs here limits to x.are (subst (λ (y : Slot). SlotKeeps d i x.inputs y) (same-some x.slot here (sym x.at ∙ at)) x.keeps)

-- ---- what is kept

kept-whole : (c : List LastingEntry) (a : Act) (o : Option Cut) (n : Answer) → kept (entry_of (lasting.Plain a) (whole_answer o n) ∷ c) ≡ plain_entry a n ∷ kept c
unfolding kept
kept-whole c a None n = refl
kept-whole c a (Some cut) n = refl

kept-without : (c : List LastingEntry) (a : Act) → kept (entry_of (lasting.Plain a) says.StoppedWithout ∷ c) ≡ kept c
unfolding kept
kept-without c a = refl

kept-stop : (c : List LastingEntry) (i : ℕ) (r : LastingAnswer) → kept (entry_of (lasting.Stop i) r ∷ c) ≡ kept c
unfolding kept
kept-stop c i r = refl

kept-cut : (c : List LastingEntry) (i calls : ℕ) (keep : Bool) (r : LastingAnswer) → kept (entry_of (lasting.Cut i calls keep) r ∷ c) ≡ kept c
unfolding kept
kept-cut c i calls keep r = refl

as-kept : (d : Deployed) (g h : List Entry) (k : ℕ) (xs : List SiteInput) → g ≡ h → AreInputs d h k xs → AreInputs d g k xs
as-kept d g h k xs e are = subst (λ (l : List Entry). AreInputs d l k xs) (sym e) are

-- ---- answers

answer-whole : (o : Option Cut) (there : Bool) (n : Answer) → there ≡ is_there o → there ≡ true → whole_answer o n ≡ cut_answer (cut_at o) n
answer-whole None there n is e = refl
answer-whole (Some cut) there n is e = ap (λ (b : Bool). if b then says.Stopped n else says.StoppedWithout) (sym e ∙ is)

answer-without : (o : Option Cut) (there : Bool) (n : Answer) → there ≡ is_there o → there ≡ false → says.StoppedWithout ≡ cut_answer (cut_at o) n
answer-without None there n is e = absurd (cc)
answer-without (Some cut) there n is e = ap (λ (b : Bool). if b then says.Stopped n else says.StoppedWithout) (sym e ∙ is)

falls : (d : Deployed) (s : LastingSeen) (c : List LastingEntry) (a : Act) (i : ℕ) (cut : Option Cut) → LastsAt d s c i → slice_get s.cuts i ≡ Some cut → site_at d (kept c) a ≡ Some i → cut_at cut ≡ cut_into d c a
falls d s c a i cut x took at = ap (λ (o : Option Cut). cut_at o) (same-some cut x.cut (sym took ∙ x.waits)) ∙ (x.same ∙ sym (falls-in d c a i at))

answered : (d : Deployed) (c : List LastingEntry) (a : Act) (o : Option laws.Cut) (n : Answer) (r : LastingAnswer) → o ≡ cut_into d c a → n ≡ answer d (kept c) a → r ≡ cut_answer o n → r ≡ lasting_answer d c (lasting.Plain a)
unfolding lasting_answer
answered d c a o n r cut is e = e ∙ (ap (λ (m : Answer). cut_answer o m) is ∙ ap (λ (p : Option laws.Cut). cut_answer p (answer d (kept c) a)) cut)

answered-without : (d : Deployed) (c : List LastingEntry) (a : Act) (o : Option laws.Cut) (r : LastingAnswer) → o ≡ cut_into d c a → r ≡ cut_answer o (answer d (kept c) a) → r ≡ lasting_answer d c (lasting.Plain a)
unfolding lasting_answer
answered-without d c a o r cut e = e ∙ ap (λ (p : Option laws.Cut). cut_answer p (answer d (kept c) a)) cut

-- ---- a plain act at a site

abbrev now_with : WorldSeen → List Slot → List (Option Cut) → LastingSeen
now_with w slots cuts = record { world = w; slots = slots; cuts = cuts }

cuts-else : (cuts new : List (Option Cut)) (i k : ℕ) (o : Option Cut) → new ≡ set cuts i o → (i == k) ≡ false → slice_get new k ≡ slice_get cuts k
cuts-else cuts new i k o is ne = ap (λ (l : List (Option Cut)). slice_get l k) is ∙ set-there cuts i k o ne

cuts-here : (cuts new : List (Option Cut)) (i : ℕ) (o : Option Cut) → new ≡ set cuts i o → i < length cuts → slice_get new i ≡ Some o
cuts-here cuts new i o is lt = ap (λ (l : List (Option Cut)). slice_get l i) is ∙ get-set cuts i o lt

module _ (s : LastingSeen) (a : Act) (i : ℕ) (given : SiteInput) (cut : Option Cut) (there : Bool) (slots : List Slot) (cuts : List (Option Cut))
    (limits : IsDeployment s.world.deployment) (of : IsLastingActOf s.world.deployment (lasting.Plain a)) (reach : Reaches s.world a (Some (i, given)))
    (took : slice_get s.cuts i ≡ Some cut) (left : cuts ≡ set s.cuts i None) (changes : Changes i s.slots slots (Steps s.world.deployment i given cut there)) where
  abbrev d : Deployed
  d = s.world.deployment

  to-site : (c : List LastingEntry) → IsLastingRun d c → LastsFor s c → IsHandedTo d (kept c) a i given
  to-site c run st = reach (kept c) (held d c run) st.world

  at-site : (c : List LastingEntry) → IsLastingRun d c → LastsFor s c → site_at d (kept c) a ≡ Some i
  at-site c run st = site-is d (kept c) a i (input_of given) of.1 (to-site c run st).hands

  there-at : (c : List LastingEntry) → IsLastingRun d c → LastsFor s c → LastsAt d s c i
  there-at c run st = st.sites i (to-site c run st).site

  known : (c : List LastingEntry) → IsLastingRun d c → LastsFor s c → (x : LastsAt d s c i) → Takes d i x.inputs given
  known c run st x = takes-it d (kept c) a i given x.inputs x.slot limits (to-site c run st) x.are x.keeps

  did : (c : List LastingEntry) → IsLastingRun d c → LastsFor s c → (x : LastsAt d s c i) → StepsSlot d i x.inputs given cut there changes.after
  did c run st x = changes.holds x.inputs (known c run st x).takes (subst (λ (y : Slot). SlotKeeps d i x.inputs y) (same-some x.slot changes.before (sym x.at ∙ changes.was)) x.keeps)

  handed-else : (c : List LastingEntry) (k : ℕ) → IsLastingRun d c → LastsFor s c → (i == k) ≡ false → handed d (kept c) a k ≡ None
  handed-else c k run st ne = sym (handing.alone d (kept c) a k of.1) ∙ ((to-site c run st).hands k ∙ ap (λ (b : Bool). if b then Some (input_of given) else None) ne)

  handed-here : (c : List LastingEntry) → IsLastingRun d c → LastsFor s c → handed d (kept c) a i ≡ Some (input_of given)
  handed-here c run st = sym (handing.alone d (kept c) a i of.1) ∙ ((to-site c run st).hands i ∙ ap (λ (b : Bool). if b then Some (input_of given) else None) (handing.self-test i))

  lasts-here : (c : List LastingEntry) (r : LastingAnswer) (t : WorldSeen) (xs : List SiteInput) → IsLastingRun d c → LastsFor s c → AreInputs d (kept (entry_of (lasting.Plain a) r ∷ c)) i xs → SlotKeeps d i xs changes.after → LastsAt d (now_with t slots cuts) (entry_of (lasting.Plain a) r ∷ c) i
  lasts-here c r t xs run st are keeps = record {
    slot = changes.after;
    at = changes.now;
    inputs = xs;
    are = are;
    keeps = keeps;
    cut = None;
    waits = cuts-here s.cuts cuts i None left (slice_get_within s.cuts i cut took);
    same = sym (cut-used d c a r i (at-site c run st));
  }

  lasts-else : (c : List LastingEntry) (r : LastingAnswer) (t : WorldSeen) (k : ℕ) → IsLastingRun d c → LastsFor s c → (i == k) ≡ false →
      ((xs : List SiteInput) → AreInputs d (kept c) k xs → AreInputs d (kept (entry_of (lasting.Plain a) r ∷ c)) k xs) → LastsAt d s c k → LastsAt d (now_with t slots cuts) (entry_of (lasting.Plain a) r ∷ c) k
  lasts-else c r t k run st ne goes x =
      stay-at d s (now_with t slots cuts) c (entry_of (lasting.Plain a) r ∷ c) k (changes.others k ne) (cuts-else s.cuts cuts i k None left ne) (cut-stays d c a r i k (at-site c run st) ne) goes x

  -- the input is there
  pub whole-applies : (t : WorldSeen) (n : Answer) → there ≡ true → Applies s.world a n t → LastingApplies s (lasting.Plain a) (whole_answer cut n) (now_with t slots cuts)
  whole-applies t n e done =
      applies-of s (now_with t slots cuts) (lasting.Plain a) (whole_answer cut n) limits of done.deployment
      (λ c run st. answered d c a (cut_at cut) n (whole_answer cut n) (falls d s c a i cut (there-at c run st) took (at-site c run st)) (says-so c run st)
      (answer-whole cut there n (did c run st (there-at c run st)).told e))
      (λ c run st. lasts-by s (now_with t slots cuts) c (entry_of (lasting.Plain a) (whole_answer cut n) ∷ c) i done.deployment st
      (subst (λ (l : List Entry). StandsFor t l) (sym (kept-whole c a cut n)) (done.stands (kept c) (held d c run) st.world))
      (λ k ne x. lasts-else c (whole_answer cut n) t k run st ne
      (λ xs are. as-kept d (kept (entry_of (lasting.Plain a) (whole_answer cut n) ∷ c)) (plain_entry a n ∷ kept c) k xs (kept-whole c a cut n) (next-none d (kept c) a n k xs (handed-else c k run st ne) are)) x)
      (λ x. lasts-here c (whole_answer cut n) t (x.inputs ++ given ∷ []) run st
      (as-kept d (kept (entry_of (lasting.Plain a) (whole_answer cut n) ∷ c)) (plain_entry a n ∷ kept c) i (x.inputs ++ given ∷ []) (kept-whole c a cut n)
      (next-some d (kept c) a i given n x.inputs limits (held d c run) (says-so c run st) (handed-here c run st) (known c run st x).sound (known c run st x).fits x.are))
      (subst (λ (b : Bool). SlotKeeps d i (with_input b x.inputs given) changes.after) e (did c run st x).keeps)))
    where
      says-so : (c : List LastingEntry) → IsLastingRun d c → LastsFor s c → n ≡ answer d (kept c) a
      says-so c run st = done.answer (kept c) (held d c run) st.world

  -- the input is not there
  pub without-applies : there ≡ false → LastingApplies s (lasting.Plain a) says.StoppedWithout (now_with s.world slots cuts)
  without-applies e =
      applies-of s (now_with s.world slots cuts) (lasting.Plain a) says.StoppedWithout limits of refl
      (λ c run st. answered-without d c a (cut_at cut) says.StoppedWithout (falls d s c a i cut (there-at c run st) took (at-site c run st))
      (answer-without cut there (answer d (kept c) a) (did c run st (there-at c run st)).told e))
      (λ c run st. lasts-by s (now_with s.world slots cuts) c (entry_of (lasting.Plain a) says.StoppedWithout ∷ c) i refl st
      (subst (λ (l : List Entry). StandsFor s.world l) (sym (kept-without c a)) st.world)
      (λ k ne x. lasts-else c says.StoppedWithout s.world k run st ne
      (λ xs are. as-kept d (kept (entry_of (lasting.Plain a) says.StoppedWithout ∷ c)) (kept c) k xs (kept-without c a) are) x)
      (λ x. lasts-here c says.StoppedWithout s.world x.inputs run st
      (as-kept d (kept (entry_of (lasting.Plain a) says.StoppedWithout ∷ c)) (kept c) i x.inputs (kept-without c a) x.are)
      (subst (λ (b : Bool). SlotKeeps d i (with_input b x.inputs given) changes.after) e (did c run st x).keeps)))

-- ---- a plain act at no site

pub nowhere-applies : (s : LastingSeen) (a : Act) (t : WorldSeen) (n : Answer) → IsDeployment s.world.deployment → IsLastingActOf s.world.deployment (lasting.Plain a) → Reaches s.world a None → Applies s.world a n t → LastingApplies s (lasting.Plain a) (says.Plain n) (now_with t s.slots s.cuts)
nowhere-applies s a t n limits of reach done =
    applies-of s (now_with t s.slots s.cuts) (lasting.Plain a) (says.Plain n) limits of done.deployment
    (λ c run st. answered s.world.deployment c a None n (says.Plain n) (sym (falls-nowhere s.world.deployment c a (away c run st))) (done.answer (kept c) (held s.world.deployment c run) st.world) refl)
    (λ c run st. record {
      world = subst (λ (l : List Entry). StandsFor t l) (sym (kept-whole c a None n)) (done.stands (kept c) (held s.world.deployment c run) st.world);
      sites = subst (λ (d : Deployed). (k : ℕ) → k < d.sites → LastsAt d (now_with t s.slots s.cuts) (entry_of (lasting.Plain a) (says.Plain n) ∷ c) k) (sym done.deployment)
          (λ k lt. stay-at s.world.deployment s (now_with t s.slots s.cuts) c (entry_of (lasting.Plain a) (says.Plain n) ∷ c) k refl refl (cut-nowhere s.world.deployment c a (says.Plain n) k (away c run st))
          (λ xs are. as-kept s.world.deployment (kept (entry_of (lasting.Plain a) (says.Plain n) ∷ c)) (plain_entry a n ∷ kept c) k xs (kept-whole c a None n)
          (next-none s.world.deployment (kept c) a n k xs (sym (handing.alone s.world.deployment (kept c) a k of.1) ∙ reach (kept c) (held s.world.deployment c run) st.world k) are)) (st.sites k lt));
    })
  where
    away : (c : List LastingEntry) → IsLastingRun s.world.deployment c → LastsFor s c → site_at s.world.deployment (kept c) a ≡ None
    away c run st = no-site s.world.deployment (kept c) a of.1 (reach (kept c) (held s.world.deployment c run) st.world)

-- ---- a stop and a cut

stop-says : (d : Deployed) (c : List LastingEntry) (i n : ℕ) → n ≡ inputs_of d (kept c) i → says.Recovered n ≡ lasting_answer d c (lasting.Stop i)
unfolding lasting_answer
stop-says d c i n e = ap says.Recovered e

cut-says : (d : Deployed) (c : List LastingEntry) (i calls : ℕ) (keep : Bool) → says.Armed ≡ lasting_answer d c (lasting.Cut i calls keep)
unfolding lasting_answer
cut-says d c i calls keep = refl

pub stop-applies : (s : LastingSeen) (i n : ℕ) (slots : List Slot) (cuts : List (Option Cut)) → IsDeployment s.world.deployment → IsLastingActOf s.world.deployment (lasting.Stop i) → i < length s.cuts → cuts ≡ set s.cuts i None →
    Changes i s.slots slots (Stops s.world.deployment i n) → LastingApplies s (lasting.Stop i) (says.Recovered n) (now_with s.world slots cuts)
stop-applies s i n slots cuts limits of lt left changes =
    applies-of s (now_with s.world slots cuts) (lasting.Stop i) (says.Recovered n) limits of refl
    (λ c run st. stop-says s.world.deployment c i n ((did c (st.sites i of)).1 ∙ inputs-count s.world.deployment (kept c) i (st.sites i of).inputs (st.sites i of).are))
    (λ c run st. lasts-by s (now_with s.world slots cuts) c (entry_of (lasting.Stop i) (says.Recovered n) ∷ c) i refl st
    (subst (λ (l : List Entry). StandsFor s.world l) (sym (kept-stop c i (says.Recovered n))) st.world)
    (λ k ne x. stay-at s.world.deployment s (now_with s.world slots cuts) c (entry_of (lasting.Stop i) (says.Recovered n) ∷ c) k (changes.others k ne) (cuts-else s.cuts cuts i k None left ne) (stop-stays s.world.deployment c (says.Recovered n) i k ne)
    (λ xs are. as-kept s.world.deployment (kept (entry_of (lasting.Stop i) (says.Recovered n) ∷ c)) (kept c) k xs (kept-stop c i (says.Recovered n)) are) x)
    (λ x. record {
      slot = changes.after;
      at = changes.now;
      inputs = x.inputs;
      are = as-kept s.world.deployment (kept (entry_of (lasting.Stop i) (says.Recovered n) ∷ c)) (kept c) i x.inputs (kept-stop c i (says.Recovered n)) x.are;
      keeps = (did c x).0;
      cut = None;
      waits = cuts-here s.cuts cuts i None left lt;
      same = sym (stop-used s.world.deployment c (says.Recovered n) i);
    }))
  where
    did : (c : List LastingEntry) (x : LastsAt s.world.deployment s c i) → SlotKeeps s.world.deployment i x.inputs changes.after × (n ≡ length x.inputs)
    did c x = changes.holds x.inputs (subst (λ (y : Slot). SlotKeeps s.world.deployment i x.inputs y) (same-some x.slot changes.before (sym x.at ∙ changes.was)) x.keeps)

pub cut-applies : (s : LastingSeen) (i : ℕ) (cut : Cut) (cuts : List (Option Cut)) → IsDeployment s.world.deployment → IsLastingActOf s.world.deployment (lasting.Cut i cut.calls cut.keep) → i < length s.cuts → cuts ≡ set s.cuts i (Some cut) →
    LastingApplies s (lasting.Cut i cut.calls cut.keep) says.Armed (now_with s.world s.slots cuts)
cut-applies s i cut cuts limits of lt left =
    applies-of s (now_with s.world s.slots cuts) (lasting.Cut i cut.calls cut.keep) says.Armed limits of refl
    (λ c run st. cut-says s.world.deployment c i cut.calls cut.keep)
    (λ c run st. lasts-by s (now_with s.world s.slots cuts) c (entry_of (lasting.Cut i cut.calls cut.keep) says.Armed ∷ c) i refl st
    (subst (λ (l : List Entry). StandsFor s.world l) (sym (kept-cut c i cut.calls cut.keep says.Armed)) st.world)
    (λ k ne x. stay-at s.world.deployment s (now_with s.world s.slots cuts) c (entry_of (lasting.Cut i cut.calls cut.keep) says.Armed ∷ c) k refl (cuts-else s.cuts cuts i k (Some cut) left ne) (cut-elsewhere s.world.deployment c says.Armed i k cut.calls cut.keep ne)
    (λ xs are. as-kept s.world.deployment (kept (entry_of (lasting.Cut i cut.calls cut.keep) says.Armed ∷ c)) (kept c) k xs (kept-cut c i cut.calls cut.keep says.Armed) are) x)
    (λ x. record {
      slot = x.slot;
      at = x.at;
      inputs = x.inputs;
      are = as-kept s.world.deployment (kept (entry_of (lasting.Cut i cut.calls cut.keep) says.Armed ∷ c)) (kept c) i x.inputs (kept-cut c i cut.calls cut.keep says.Armed) x.are;
      keeps = x.keeps;
      cut = Some cut;
      waits = cuts-here s.cuts cuts i (Some cut) left lt;
      same = sym (cut-armed s.world.deployment c says.Armed i cut.calls cut.keep);
    }))
