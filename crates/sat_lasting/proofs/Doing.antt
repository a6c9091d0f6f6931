-- What the code of sites that last knows at each call and owes at each return: over the record of its fields, w, and what is seen of it, v.
use Rattle.std.proofs.Common.{◌≡◌, ◌<◌, ℕ, Bool, true, false, List, length, set, slice_get, Option, Some, None, refl, sym, ap, subst, ◌∙◌, length-set}
use Rattle.sat_act.specs.declared.act.Act.{Act}
use Rattle.sat_act.specs.declared.answer.Answer.{Answer}
use Rattle.sat_act.specs.Deployed.{Deployed}
use Rattle.sat_act.specs.Limits.{IsDeployment}
use Rattle.sat_act.specs.Ranges.{IsActOf}
use Rattle.sat_site.specs.declared.input.SiteInput.{SiteInput}
use Rattle.sat_world.specs.Applies.{Applies}
use Rattle.sat_world.specs.Reaches.{IsHandedTo, Reaches}
use Rattle.sat_world.specs.Seen.{WorldSeen}
use Rattle.sat_lasting_laws.specs.declared.lasting_act.LastingAct.{LastingAct}
use Rattle.sat_lasting_laws.specs.declared.lasting_act.LastingAct.TheVariants as lasting
use Rattle.sat_lasting_laws.specs.declared.lasting_answer.LastingAnswer.{LastingAnswer}
use Rattle.sat_lasting_laws.specs.declared.lasting_answer.LastingAnswer.TheVariants as says
use Rattle.sat_lasting_laws.specs.Lastings.{kept}
use Rattle.sat_lasting_laws.specs.Ranges.{IsLastingActOf}
use Rattle.sat_lasting_laws.proofs.Held.{held}
use Rattle.sat_lasting.specs.declared.cut.Cut.{Cut}
use Rattle.sat_lasting.specs.declared.slot.Slot.{Slot}
use Rattle.sat_lasting.specs.Lasts.{Changes, HasPlaces, IsSound, LastingApplies, LastingSeen, LastsAt, Steps, Stops, whole_answer}
use Rattle.sat_lasting.specs.Slots.{IsFew, SlotFits}
use Rattle.sat_lasting.proofs.Acting.{cut-applies, few-there, fits-there, nowhere-applies, stop-applies, whole-applies, without-applies}

-- what the code owes at a return
pub record Did (v : LastingSeen) (a : LastingAct) (r : LastingAnswer) (t : LastingSeen) : Type 0 where
  pub invariant : HasPlaces t
  pub applies : LastingApplies v a r t

abbrev now_with : WorldSeen → List Slot → List (Option Cut) → LastingSeen
now_with w slots cuts = record { world = w; slots = slots; cuts = cuts }

abbrev Lasting_act_of : LastingSeen → LastingAct → Type 0
Lasting_act_of s a = IsLastingActOf s.world.deployment a

pub places-stay : (w : LastingSeen) (u : WorldSeen) (slots : List Slot) (cuts : List (Option Cut)) → HasPlaces w → u.deployment ≡ w.world.deployment → length slots ≡ length w.slots → length cuts ≡ length w.cuts → HasPlaces (now_with u slots cuts)
places-stay w u slots cuts k same long wide =
    let n : u.deployment.sites ≡ w.world.deployment.sites = ap (λ (d : Deployed). d.sites) same in
    record { slots = long ∙ (k.slots ∙ sym n); cuts = wide ∙ (k.cuts ∙ sym n) }

pub set-long : (cuts new : List (Option Cut)) (i : ℕ) (o : Option Cut) → new ≡ set cuts i o → length new ≡ length cuts
set-long cuts new i o is = ap length is ∙ length-set cuts i o

module _ (w v : LastingSeen) (e : w ≡ v) (k : HasPlaces w) (d : Deployed) (same : d ≡ w.world.deployment) (limits : IsDeployment d) where
  limits-w : IsDeployment w.world.deployment
  limits-w = subst (λ (x : Deployed). IsDeployment x) same limits

  of-w : (a : LastingAct) → IsLastingActOf v.world.deployment a → IsLastingActOf w.world.deployment a
  of-w a of = subst (λ (s : LastingSeen). Lasting_act_of s a) (sym e) of

  done : (a : LastingAct) (r : LastingAnswer) (u : WorldSeen) (slots : List Slot) (cuts : List (Option Cut)) → length slots ≡ length w.slots → length cuts ≡ length w.cuts → LastingApplies w a r (now_with u slots cuts) → Did v a r (now_with u slots cuts)
  done a r u slots cuts long wide did = record {
    invariant = places-stay w u slots cuts k did.deployment long wide;
    applies = subst (λ (s : LastingSeen). LastingApplies s a r (now_with u slots cuts)) e did;
  }

  -- ---- a plain act

  pub act-place : (a : Act) → IsLastingActOf v.world.deployment (lasting.Plain a) → IsActOf w.world.deployment a
  act-place a of = (of-w (lasting.Plain a) of).0

  module _ (sound : IsSound v) (a : Act) (of : IsLastingActOf v.world.deployment (lasting.Plain a)) (o : Option (ℕ × SiteInput)) (reach : Reaches w.world a o) where
    pub nowhere-deed : (u : WorldSeen) (n : Answer) → o ≡ None → Applies w.world a n u → Did v (lasting.Plain a) (says.Plain n) (now_with u w.slots w.cuts)
    nowhere-deed u n none did =
        done (lasting.Plain a) (says.Plain n) u w.slots w.cuts refl refl
        (nowhere-applies w a u n limits-w (of-w (lasting.Plain a) of) (subst (λ (q : Option (ℕ × SiteInput)). Reaches w.world a q) none reach) did)

    module _ (found : ℕ × SiteInput) (is : o ≡ Some found) where
      abbrev i : ℕ
      i = found.0

      abbrev given : SiteInput
      given = found.1

      reaches : Reaches w.world a (Some (i, given))
      reaches = subst (λ (q : Option (ℕ × SiteInput)). Reaches w.world a q) is reach

      sound-w : IsSound w
      sound-w = subst (λ (s : LastingSeen). IsSound s) (sym e) sound

      to-site : IsHandedTo w.world.deployment (kept sound-w.0) a i given
      to-site = reaches (kept sound-w.0) (held w.world.deployment sound-w.0 sound-w.1) sound-w.2.world

      there-at : LastsAt w.world.deployment w sound-w.0 i
      there-at = sound-w.2.sites i to-site.site

      pub cut-place : i < length w.cuts
      cut-place = subst (λ (n : ℕ). i < n) (sym k.cuts) to-site.site

      pub slot-place : i < length w.slots
      slot-place = subst (λ (n : ℕ). i < n) (sym k.slots) to-site.site

      pub site-place : (x : Deployed) → x ≡ w.world.deployment → i < x.sites
      site-place x is = subst (λ (y : Deployed). i < y.sites) (sym is) to-site.site

      pub fits-deed : (here : Slot) → slice_get w.slots i ≡ Some here → SlotFits given here
      fits-deed = fits-there w.world.deployment w sound-w.0 a i given limits-w to-site there-at

      pub few-deed : (cut : Option Cut) → slice_get w.cuts i ≡ Some cut → IsFew cut
      few-deed cut took = few-there w.world.deployment w sound-w.0 i cut sound-w.1 there-at took

      module _ (cut : Option Cut) (took : slice_get w.cuts i ≡ Some cut) (cuts : List (Option Cut)) (left : cuts ≡ set w.cuts i None) (x : Deployed) (x_is : x ≡ w.world.deployment) (slots : List Slot) (long : length slots ≡ length w.slots) (there : Bool) (changes : Changes i w.slots slots (Steps x i given cut there)) where
        changes-w : Changes i w.slots slots (Steps w.world.deployment i given cut there)
        changes-w = subst (λ (y : Deployed). Changes i w.slots slots (Steps y i given cut there)) x_is changes

        pub without-deed : there ≡ false → Did v (lasting.Plain a) says.StoppedWithout (now_with w.world slots cuts)
        without-deed not_there =
            done (lasting.Plain a) says.StoppedWithout w.world slots cuts long (set-long w.cuts cuts i None left)
            (without-applies w a i given cut there slots cuts limits-w (of-w (lasting.Plain a) of) reaches took left changes-w not_there)

        pub whole-deed : (u : WorldSeen) (n : Answer) (r : LastingAnswer) → there ≡ true → Applies w.world a n u → r ≡ whole_answer cut n → Did v (lasting.Plain a) r (now_with u slots cuts)
        whole-deed u n r is_there did whole =
            subst (λ (q : LastingAnswer). Did v (lasting.Plain a) q (now_with u slots cuts)) (sym whole)
            (done (lasting.Plain a) (whole_answer cut n) u slots cuts long (set-long w.cuts cuts i None left)
            (whole-applies w a i given cut there slots cuts limits-w (of-w (lasting.Plain a) of) reaches took left changes-w u n is_there did))

  -- ---- a stop

  pub stop-in : (i : ℕ) → i < v.world.deployment.sites → i < w.world.deployment.sites
  stop-in i lt = subst (λ (s : LastingSeen). i < s.world.deployment.sites) (sym e) lt

  pub stop-cut-place : (i : ℕ) → i < v.world.deployment.sites → i < length w.cuts
  stop-cut-place i lt = subst (λ (n : ℕ). i < n) (sym k.cuts) (stop-in i lt)

  pub stop-slot-place : (i : ℕ) → i < v.world.deployment.sites → i < length w.slots
  stop-slot-place i lt = subst (λ (n : ℕ). i < n) (sym k.slots) (stop-in i lt)

  pub stop-site-place : (i : ℕ) (x : Deployed) → i < v.world.deployment.sites → x ≡ w.world.deployment → i < x.sites
  stop-site-place i x lt is = subst (λ (y : Deployed). i < y.sites) (sym is) (stop-in i lt)

  pub stop-deed : (i : ℕ) (of : IsLastingActOf v.world.deployment (lasting.Stop i)) (cuts : List (Option Cut)) (x : Deployed) (slots : List Slot) (n : ℕ) → cuts ≡ set w.cuts i None → x ≡ w.world.deployment → length slots ≡ length w.slots →
      Changes i w.slots slots (Stops x i n) → Did v (lasting.Stop i) (says.Recovered n) (now_with w.world slots cuts)
  stop-deed i of cuts x slots n left x_is long changes =
      done (lasting.Stop i) (says.Recovered n) w.world slots cuts long (set-long w.cuts cuts i None left)
      (stop-applies w i n slots cuts limits-w (of-w (lasting.Stop i) of) (stop-cut-place i of) left (subst (λ (y : Deployed). Changes i w.slots slots (Stops y i n)) x_is changes))

  -- ---- a cut

  pub cut-deed : (i : ℕ) (cut : Cut) (of : IsLastingActOf v.world.deployment (lasting.Cut i cut.calls cut.keep)) (cuts : List (Option Cut)) → cuts ≡ set w.cuts i (Some cut) → Did v (lasting.Cut i cut.calls cut.keep) says.Armed (now_with w.world w.slots cuts)
  cut-deed i cut of cuts left =
      done (lasting.Cut i cut.calls cut.keep) says.Armed w.world w.slots cuts refl (set-long w.cuts cuts i (Some cut) left)
      (cut-applies w i cut cuts limits-w (of-w (lasting.Cut i cut.calls cut.keep) of) (stop-cut-place i of.0) left)
