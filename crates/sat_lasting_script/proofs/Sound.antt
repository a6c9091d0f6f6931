-- What is read of any text for sites that last is a deployment and acts of it, and the history of these is good.
use Rattle.std.proofs.Common.{◌≡◌, ℕ, ◌<◌, ◌≤◌, Bool, true, false, cond, ltb, List, [], ◌∷◌, Option, Some, None, Result, Ok, Err, sym, subst, refl, arith}
use Rattle.std.specs.Prelude.{reverse, IfSome}
use Rattle.std.proofs.lemmas.Bool.Decides.{nat_tests}
use Rattle.sat_tree.specs.Shape.{TreeShape}
use Rattle.sat_act.specs.declared.act.Act.{Act}
use Rattle.sat_act.specs.declared.act.Act.TheVariants as act
use Rattle.sat_act.specs.Deployed.{Deployed}
use Rattle.sat_act.specs.Limits.{IsDeployment}
use Rattle.sat_act.proofs.Valid.{is_valid, has_trees}
use Rattle.sat_script.specs.Causes.{full}
use Rattle.sat_script.specs.Dialect.{is_lasting}
use Rattle.sat_script.specs.State.{State}
use Rattle.sat_script.specs.Table.{Said, place, num, bytes, at, kinds_say, all_say, shapes, no_tree, form_of}
use Rattle.sat_script.specs.declared.fault.Cause.{Cause}
use Rattle.sat_script.specs.declared.fault.Cause.TheVariants.{OutOfRange}
use Rattle.sat_script.specs.declared.form.Kind.{Kind}
use Rattle.sat_script.specs.declared.form.Kind.TheVariants as kind
use Rattle.sat_script.proofs.Acts.{AllFit, say_is, no_small}
use Rattle.sat_script.proofs.Choices.{passed, unbarred}
use Rattle.sat_lasting_laws.specs.declared.lasting_act.LastingAct.{LastingAct}
use Rattle.sat_lasting_laws.specs.declared.lasting_act.LastingAct.TheVariants as lasting
use Rattle.sat_lasting_laws.specs.declared.lasting_act.TheConstants.{MOST_CALLS}
use Rattle.sat_lasting_laws.specs.LastingAnswers.{is_allowed, IsLastingInRange}
use Rattle.sat_lasting_laws.specs.LastingRuns.{IsLastingRun}
use Rattle.sat_lasting_laws.specs.Goals.{EveryLastingIsGood}
use Rattle.sat_lasting_laws.specs.Ranges.{IsLastingActOf}
use Rattle.sat_lasting_script.specs.Forms.{kinds_of, lasting_form, step_of, above, misfit, said_step, step_words, step_by, words_say, lasting_acts}
use Rattle.sat_lasting_script.specs.Histories.{lasting_entry, lasting_history}
use Rattle.sat_lasting_script.specs.Laws.{AreLastingActs, IsGoodLasting, IsGoodLastingText, LinesMakeTexts, lasting_reading}
use Rattle.sat_lasting_script.specs.declared.form.LastingForm.{LastingForm}
use Rattle.sat_lasting_script.specs.declared.form.LastingForm.TheVariants as form
use Rattle.sat_own_acts.specs.OwnActs.{AreSound}
use Rattle.sat_own_acts.specs.Histories.{run_of, history_of}
use Rattle.sat_own_acts.proofs.Sound.{sound_text, in_range, all_reverse}
use Rattle.sat_own_acts.proofs.Whole.{lines_make}

-- ---- what the words of a stop or cut say

site_first : (d : Deployed) (t : TreeShape) (ks : List Kind) (xs : List Said) → AllFit d t (kind.Site ∷ ks) xs → (i : ℕ) × (rest : List Said) × (xs ≡ place i ∷ rest) × (i < d.sites) × AllFit d t ks rest
site_first d t ks [] h = absurd h
site_first d t ks (place i ∷ rest) h = (i, rest, refl, h.0, h.1)
site_first d t ks (num n ∷ rest) h = absurd h.0
site_first d t ks (bytes v ∷ rest) h = absurd h.0
site_first d t ks (at u ∷ rest) h = absurd h.0

-- a number that is not above the most
not_above : (most n : ℕ) (other : Option Cause) → above most n other ≡ None → n ≤ most
not_above most n other h = go (ltb most n) refl h
  where
    go : (b : Bool) → ltb most n ≡ b → cond b (Some OutOfRange) other ≡ None → n ≤ most
    go false e h = grind (arith, nat_tests, e)
    go true e h = absurd (cc)

stop_fits : (d : Deployed) (xs : List Said) → AllFit d no_tree (kinds_of form.Stop) xs → IsLastingActOf d (step_of form.Stop xs)
stop_fits d xs h =
    let i = site_first d no_tree [] xs h in
    subst (λ (ys : List Said). IsLastingActOf d (step_of form.Stop ys)) (sym i.2) i.3

cut_fits : (d : Deployed) (xs : List Said) → AllFit d no_tree (kinds_of form.Cut) xs → misfit form.Cut xs ≡ None → IsLastingActOf d (step_of form.Cut xs)
cut_fits d xs h fits =
    let i = site_first d no_tree (kind.Count ∷ kind.Count ∷ []) xs h in
    let less : misfit form.Cut (place i.0 ∷ i.1) ≡ None = subst (λ (ys : List Said). misfit form.Cut ys ≡ None) i.2 fits in
    subst (λ (ys : List Said). IsLastingActOf d (step_of form.Cut ys)) (sym i.2) (i.3, not_above MOST_CALLS _ _ less)

step_fits : (d : Deployed) (f : LastingForm) (xs : List Said) → AllFit d no_tree (kinds_of f) xs → misfit f xs ≡ None → IsLastingActOf d (step_of f xs)
step_fits d form.Stop xs h fits = stop_fits d xs h
step_fits d form.Cut xs h fits = cut_fits d xs h fits

step_said : (f : LastingForm) (said : Result (List Said) Cause) (a : LastingAct) → said_step f said ≡ Ok a → (xs : List Said) × (said ≡ Ok xs) × (misfit f xs ≡ None) × (step_of f xs ≡ a)
step_said f (Ok xs) a h = let u = unbarred (misfit f xs) (Ok (step_of f xs)) a h in (xs, refl, u.0, (let s : step_of f xs ≡ a = let e = u.1 in cc in s))
step_said f (Err cause) a h = absurd (cc)

kinds_said : (o : Option Cause) (d : Deployed) (ks : List Kind) (ws : List (List ℕ)) (xs : List Said) → kinds_say o d ks ws ≡ Ok xs → (shapes ks ws ≡ true) × (o ≡ None) × (all_say d no_tree ks ws ≡ Ok xs)
unfolding kinds_say
kinds_said o d ks ws xs h =
    let p = passed (shapes ks ws) _ _ _ h in
    let u = unbarred o _ _ p.1 in
    let k = passed _ _ _ _ u.1 in
    (p.0, u.0, k.1)

step_is : (s : State) (f : LastingForm) (words : List (List ℕ)) (a : LastingAct) → IsDeployment s.header → step_words s f words ≡ Ok a → (full s ≡ None) × IsLastingActOf s.header a
unfolding step_words
step_is s f words a is h =
    let said = step_said f (kinds_say (full s) s.header (kinds_of f) words) a h in
    let k = kinds_said (full s) s.header (kinds_of f) words said.0 said.1 in
    let all = say_is s.header no_tree (kinds_of f) words said.0 is (no_small s.header no_tree is (omega arith) (omega arith)) k.0 k.2 in
    (k.1, subst (IsLastingActOf s.header) said.3 (step_fits s.header f said.0 all.1 said.2))

some_same : (x y : Result LastingAct Cause) → Some x ≡ Some y → x ≡ y
some_same x y e = cc

own_fits : (s : State) (words : List (List ℕ)) (a : LastingAct) → IsDeployment s.header → words_say s words ≡ Some (Ok a) → (full s ≡ None) × IsLastingActOf s.header a
unfolding words_say
own_fits s words a is h = go (lasting_form words) h
  where
    go : (o : Option LastingForm) → step_by s words o ≡ Some (Ok a) → (full s ≡ None) × IsLastingActOf s.header a
    go None h = absurd (cc)
    go (Some f) h = step_is s f _ a is (some_same _ _ h)

allowed : (a : Act) → is_lasting (form_of a) ≡ true → is_allowed a ≡ true
allowed act.Clock h = h
allowed act.Settle h = h
allowed _ h = refl

pub lasting_sound : AreSound lasting_acts IsLastingActOf
lasting_sound = record {
  limits = λ format. refl;
  no_settle = refl;
  plain_fits = λ d a has fits. (fits, allowed a has);
  own_fits = own_fits;
}

-- ---- the history of the acts

lasting_in_range : (d : Deployed) (a : LastingAct) → IsLastingActOf d a → IsLastingInRange d a
lasting_in_range d (lasting.Plain a) k = (in_range d a k.0, k.1)
lasting_in_range d (lasting.Stop i) k = k
lasting_in_range d (lasting.Cut i calls keep) k = k

run_is : (d : Deployed) (acts : List LastingAct) → AreLastingActs d acts → IsLastingRun d (run_of lasting_entry d acts)
unfolding IsLastingRun run_of
run_is d [] all = tt
run_is d (a ∷ acts) all = (run_is d acts all.1, lasting_in_range d a all.0, refl)

pub lasting_runs : (d : Deployed) (acts : List LastingAct) → AreLastingActs d acts → IsLastingRun d (lasting_history d acts)
unfolding history_of
lasting_runs d acts all = run_is d (reverse acts) (all_reverse (λ (a : LastingAct). IsLastingActOf d a) acts all)

good_acts : (d : Deployed) (acts : List LastingAct) → EveryLastingIsGood → IsDeployment d → AreLastingActs d acts → IsGoodLasting d acts
good_acts d acts law is all = let run = lasting_runs d acts all in record { run = run; good = law d (lasting_history d acts) (is_valid d is) (has_trees d is) run }

whole_good : (o : Option Deployed) (acts : List LastingAct) → EveryLastingIsGood → IfSome o (λ d. IsDeployment d × AreLastingActs d acts) → IfSome o (λ d. IsDeployment d × AreLastingActs d acts × IsGoodLasting d acts)
whole_good None acts law whole = tt
whole_good (Some d) acts law whole = (whole.0, whole.1, good_acts d acts law whole.0 whole.1)

pub good_text : EveryLastingIsGood → (text : List ℕ) → IsGoodLastingText (lasting_reading text)
good_text law text =
    let x = sound_text lasting_acts IsLastingActOf lasting_sound text in
    record { whole = whole_good (lasting_reading text).deployment (lasting_reading text).acts law x.whole; none = x.none; ends = x.ends }

pub lasting_lines_make : LinesMakeTexts
lasting_lines_make tell = lines_make lasting_acts IsLastingActOf lasting_sound tell
