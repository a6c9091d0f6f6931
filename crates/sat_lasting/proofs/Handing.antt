-- What an act hands to a site, what a site then has behind it, and which cut waits at it.
use Rattle.std.proofs.Common.{◌≡◌, ℕ, suc, ◌+◌, ◌==◌, Bool, true, false, List, [], ◌∷◌, ◌++◌, length, map, Option, Some, None, is_some, refl, sym, ap, subst, ◌∙◌, arith, length-append}
use Rattle.std.specs.Prelude.{if◌then◌else◌}
use Rattle.std.proofs.lemmas.List.{map_push}
use Rattle.sat_act.specs.declared.act.Act.{Act}
use Rattle.sat_act.specs.declared.act.Act.TheVariants as act
use Rattle.sat_act.specs.declared.answer.Answer.{Answer}
use Rattle.sat_act.specs.declared.entry.Entry.{Entry}
use Rattle.sat_act.specs.Deployed.{Deployed}
use Rattle.sat_act.specs.Answers.{answer}
use Rattle.sat_act.specs.Limits.{IsDeployment}
use Rattle.sat_act.specs.Runs.{IsRun}
use Rattle.sat_act.proofs.Valid.{is_valid}
use Rattle.sat_durable.specs.Machine.{Run, run_from, run_of, started, taken}
use Rattle.sat_model.specs.Input as model
use Rattle.sat_model.specs.Journal.{Noted, journal, noted}
use Rattle.sat_model.specs.Next.{site_next}
use Rattle.sat_model.specs.Replay.{after, given_at, handed, site_state}
use Rattle.sat_model.specs.Reply.{site_answer}
use Rattle.sat_model.specs.State.{SiteState}
use Rattle.sat_model.proofs.SiteSteps.{site-replies}
use Rattle.sat_site.specs.declared.input.SiteInput.{SiteInput}
use Rattle.sat_site.specs.declared.output.SiteOutput.{SiteOutput}
use Rattle.sat_site.specs.Inputs.{fits_in, input_of}
use Rattle.sat_site.specs.Laws.{StepHolds}
use Rattle.sat_site.specs.Seen.{IsSite}
use Rattle.sat_site.specs.SiteSteps.{site_after, site_answers}
use Rattle.sat_site.specs.Stands.{StandsSite}
use Rattle.sat_world.specs.Reaches.{handed_alone}
use Rattle.sat_world.proofs.Laws.{each-step}
use Rattle.sat_lasting_laws.specs.declared.lasting_act.LastingAct.{LastingAct}
use Rattle.sat_lasting_laws.specs.declared.lasting_act.LastingAct.TheVariants as lasting
use Rattle.sat_lasting_laws.specs.declared.lasting_answer.LastingAnswer.{LastingAnswer}
use Rattle.sat_lasting_laws.specs.Lastings.{Cut, LastingEntry, armed, cut_into, cut_there, kept, plain_entry}
use Rattle.sat_lasting_laws.specs.LastingAnswers.{inputs_of, is_allowed}
use Rattle.sat_lasting_laws.specs.Reached.{is_site, site_at}
use Rattle.sat_lasting_laws.proofs.Reaching.{handed_there}
use Rattle.sat_lasting.specs.declared.kept_site.KeptSite.{KeptSite}
use Rattle.sat_lasting.specs.Lasts.{AreInputs, AreInputsOf, handed_in}
use Rattle.sat_lasting.specs.Sites.{fresh_kept, site_meaning}
use Rattle.sat_lasting.proofs.Sets.{same-number}
pub use Rattle.sat_lasting.proofs.Sets.{self-test}

-- ---- the site that an act is an act at

pub alone : (d : Deployed) (h : List Entry) (a : Act) (k : ℕ) → is_allowed a ≡ true → handed_alone d h a k ≡ handed d h a k
alone d h act.Clock k e = absurd (cc)
alone d h _ k e = refl

some-where : (b : Bool) (x : model.SiteInput) → is_some (if b then Some x else None) ≡ b
some-where true x = refl
some-where false x = refl

by-site : (o : Option ℕ) (i : ℕ) → ((k : ℕ) → is_site k o ≡ (i == k)) → o ≡ Some i
by-site None i f = absurd (let e : false ≡ (i == i) = f i in let t : (i == i) ≡ true = self-test i in cc)
by-site (Some j) i f = let e : (j == i) ≡ (i == i) = f i in ap Some (same-number j i (e ∙ self-test i))

by-none : (o : Option ℕ) → ((k : ℕ) → is_site k o ≡ false) → o ≡ None
by-none None f = refl
by-none (Some j) f = absurd (let e : (j == j) ≡ false = f j in let t : (j == j) ≡ true = self-test j in cc)

pub site-is : (d : Deployed) (h : List Entry) (a : Act) (i : ℕ) (given : model.SiteInput) → is_allowed a ≡ true → ((k : ℕ) → handed_alone d h a k ≡ given_at i k given) → site_at d h a ≡ Some i
site-is d h a i given ok hands = by-site (site_at d h a) i (λ k. sym (handed_there d h a k ok) ∙ (ap (λ (o : Option model.SiteInput). is_some o) (sym (alone d h a k ok) ∙ hands k) ∙ some-where (i == k) given))

pub no-site : (d : Deployed) (h : List Entry) (a : Act) → is_allowed a ≡ true → ((k : ℕ) → handed_alone d h a k ≡ None) → site_at d h a ≡ None
no-site d h a ok hands = by-none (site_at d h a) (λ k. sym (handed_there d h a k ok) ∙ ap (λ (o : Option model.SiteInput). is_some o) (sym (alone d h a k ok) ∙ hands k))

-- ---- the cut that waits

abbrev entry_of : LastingAct → LastingAnswer → LastingEntry
entry_of a r = record { act = a; answer = r }

chosen : (b c : Bool) (x y : Option Cut) → b ≡ c → (if b then x else y) ≡ (if c then x else y)
chosen b c x y e = ap (λ (t : Bool). if t then x else y) e

-- the cut of site i, where the act is at this site
abbrev unless_at : ℕ → Option Cut → Option ℕ → Option Cut
unless_at i o p = if is_site i p then None else o

pub cut-used : (d : Deployed) (c : List LastingEntry) (a : Act) (r : LastingAnswer) (i : ℕ) → site_at d (kept c) a ≡ Some i → armed d (entry_of (lasting.Plain a) r ∷ c) i ≡ None
unfolding armed
cut-used d c a r i e = ap (unless_at i (armed d c i)) e ∙ chosen (i == i) true None (armed d c i) (self-test i)

pub cut-stays : (d : Deployed) (c : List LastingEntry) (a : Act) (r : LastingAnswer) (i k : ℕ) → site_at d (kept c) a ≡ Some i → (i == k) ≡ false → armed d (entry_of (lasting.Plain a) r ∷ c) k ≡ armed d c k
unfolding armed
cut-stays d c a r i k e ne = ap (unless_at k (armed d c k)) e ∙ chosen (i == k) false None (armed d c k) ne

pub cut-nowhere : (d : Deployed) (c : List LastingEntry) (a : Act) (r : LastingAnswer) (k : ℕ) → site_at d (kept c) a ≡ None → armed d (entry_of (lasting.Plain a) r ∷ c) k ≡ armed d c k
unfolding armed
cut-nowhere d c a r k e = ap (unless_at k (armed d c k)) e

pub stop-used : (d : Deployed) (c : List LastingEntry) (r : LastingAnswer) (i : ℕ) → armed d (entry_of (lasting.Stop i) r ∷ c) i ≡ None
unfolding armed
stop-used d c r i = chosen (i == i) true None (armed d c i) (self-test i)

pub stop-stays : (d : Deployed) (c : List LastingEntry) (r : LastingAnswer) (i k : ℕ) → (i == k) ≡ false → armed d (entry_of (lasting.Stop i) r ∷ c) k ≡ armed d c k
unfolding armed
stop-stays d c r i k ne = chosen (i == k) false None (armed d c k) ne

pub cut-armed : (d : Deployed) (c : List LastingEntry) (r : LastingAnswer) (i calls : ℕ) (keep : Bool) → armed d (entry_of (lasting.Cut i calls keep) r ∷ c) i ≡ Some (record { calls = calls; keep = keep })
unfolding armed
cut-armed d c r i calls keep = chosen (i == i) true (Some (record { calls = calls; keep = keep })) (armed d c i) (self-test i)

pub cut-elsewhere : (d : Deployed) (c : List LastingEntry) (r : LastingAnswer) (i k calls : ℕ) (keep : Bool) → (i == k) ≡ false → armed d (entry_of (lasting.Cut i calls keep) r ∷ c) k ≡ armed d c k
unfolding armed
cut-elsewhere d c r i k calls keep ne = chosen (i == k) false (Some (record { calls = calls; keep = keep })) (armed d c k) ne

pub falls-in : (d : Deployed) (c : List LastingEntry) (a : Act) (i : ℕ) → site_at d (kept c) a ≡ Some i → cut_into d c a ≡ armed d c i
unfolding cut_into
falls-in d c a i e = ap (λ (o : Option ℕ). cut_there (armed d c) o) e

pub falls-nowhere : (d : Deployed) (c : List LastingEntry) (a : Act) → site_at d (kept c) a ≡ None → cut_into d c a ≡ None
unfolding cut_into
falls-nowhere d c a e = ap (λ (o : Option ℕ). cut_there (armed d c) o) e

-- ---- the inputs

run-more : (run : Run KeptSite SiteOutput) (xs : List SiteInput) (given : SiteInput) → run_from site_meaning run (xs ++ given ∷ []) ≡ taken site_meaning (run_from site_meaning run xs) given
run-more run [] given = refl
run-more run (x ∷ xs) given = run-more (taken site_meaning run x) xs given

-- a site that is handed this, or nothing
next-by : (d : Deployed) (h : List Entry) (a : Act) (r : Answer) (k : ℕ) (o : Option model.SiteInput) (xs : List SiteInput) → handed d h a k ≡ o → AreInputsOf d k (noted o r ++ journal d h k) (after d k (site_state d h k) o r) xs → AreInputs d (plain_entry a r ∷ h) k xs
unfolding journal site_state
next-by d h a r k o xs e are = subst (λ (q : Option model.SiteInput). AreInputsOf d k (noted q r ++ journal d h k) (after d k (site_state d h k) q r) xs) (sym e) are

same-none : (d : Deployed) (h : List Entry) (r : Answer) (k : ℕ) (xs : List SiteInput) → AreInputs d h k xs → AreInputsOf d k (noted None r ++ journal d h k) (after d k (site_state d h k) None r) xs
unfolding noted after
same-none d h r k xs are = are

pub next-none : (d : Deployed) (h : List Entry) (a : Act) (r : Answer) (k : ℕ) (xs : List SiteInput) → handed d h a k ≡ None → AreInputs d h k xs → AreInputs d (plain_entry a r ∷ h) k xs
next-none d h a r k xs e are = next-by d h a r k None xs e (same-none d h r k xs are)

one-more : (d : Deployed) (k : ℕ) (lines : List Noted) (s : SiteState) (given : SiteInput) (r : Answer) (xs : List SiteInput) → IsDeployment d → IsSite (run_of site_meaning (fresh_kept d k) xs).machine.site → fits_in (run_of site_meaning (fresh_kept d k) xs).machine.site given ≡ true →
    site_answer d k s (input_of given) ≡ r → AreInputsOf d k lines s xs → AreInputsOf d k (noted (Some (input_of given)) r ++ lines) (after d k s (Some (input_of given)) r) (xs ++ given ∷ [])
unfolding noted after
one-more d k lines s given r xs limits sound fits reply are =
    let holds : StepHolds (run_of site_meaning (fresh_kept d k) xs).machine.site given = each-step (run_of site_meaning (fresh_kept d k) xs).machine.site given sound fits in
    let says : site_answers (run_of site_meaning (fresh_kept d k) xs).machine.site given ≡ r = holds.answers d k s limits are.stands ∙ reply in
    let stood : StandsSite d k (site_after (run_of site_meaning (fresh_kept d k) xs).machine.site given) (site_next d k s (input_of given) (site_answers (run_of site_meaning (fresh_kept d k) xs).machine.site given)) = holds.stands d k s limits are.stands in
    let stood_by : StandsSite d k (site_after (run_of site_meaning (fresh_kept d k) xs).machine.site given) (site_next d k s (input_of given) r) =
    subst (λ (n : Answer). StandsSite d k (site_after (run_of site_meaning (fresh_kept d k) xs).machine.site given) (site_next d k s (input_of given) n)) says stood in
    record {
      handed = map_push input_of xs given ∙ ap (λ (l : List model.SiteInput). l ++ input_of given ∷ []) are.handed;
      stands = subst (λ (run : Run KeptSite SiteOutput). StandsSite d k run.machine.site (site_next d k s (input_of given) r)) (sym (run-more (started (fresh_kept d k)) xs given)) stood_by;
    }

pub next-some : (d : Deployed) (h : List Entry) (a : Act) (k : ℕ) (given : SiteInput) (r : Answer) (xs : List SiteInput) → IsDeployment d → IsRun d h → r ≡ answer d h a → handed d h a k ≡ Some (input_of given) →
    IsSite (run_of site_meaning (fresh_kept d k) xs).machine.site → fits_in (run_of site_meaning (fresh_kept d k) xs).machine.site given ≡ true →
    AreInputs d h k xs → AreInputs d (plain_entry a r ∷ h) k (xs ++ given ∷ [])
next-some d h a k given r xs limits run is e sound fits are =
    next-by d h a r k (Some (input_of given)) (xs ++ given ∷ []) e
    (one-more d k (journal d h k) (site_state d h k) given r xs limits sound fits (site-replies d h a k (input_of given) (is_valid d limits) run e ∙ sym is) are)

-- how many they are
long-in : (lines : List Noted) → length (handed_in lines) ≡ length lines
long-in [] = refl
long-in (n ∷ lines) = let one : length (handed_in lines ++ n.input ∷ []) ≡ length (handed_in lines) + 1 = length-append (handed_in lines) (n.input ∷ []) in let more : length (handed_in lines) ≡ length lines = long-in lines in omega (arith, one, more)

long-map : (xs : List SiteInput) → length xs ≡ length (map input_of xs)
long-map [] = refl
long-map (x ∷ xs) = ap suc (long-map xs)

pub inputs-count : (d : Deployed) (h : List Entry) (k : ℕ) (xs : List SiteInput) → AreInputs d h k xs → length xs ≡ inputs_of d h k
unfolding inputs_of
inputs-count d h k xs are = long-map xs ∙ (ap length are.handed ∙ long-in (journal d h k))
