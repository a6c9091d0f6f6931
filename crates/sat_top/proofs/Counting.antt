-- One write more.
use Rattle.std.proofs.Common.{◌≡◌, ◌<◌, ◌≤◌, ℕ, suc, Bool, ◌+◌, true, false, List, [], ◌∷◌, ◌++◌, length, drop, get_or, refl, sym, subst, ap, ◌∙◌, arith, add-one, drop-cons}
use Rattle.std.specs.Prelude.{None, Some}
use Rattle.std.proofs.lemmas.List.{append_assoc, length-append}
use Rattle.sat_act.specs.declared.act.Act.{Act}
use Rattle.sat_act.specs.declared.answer.Answer.{Answer}
use Rattle.sat_act.specs.declared.answer.Answer.TheVariants as ans
use Rattle.sat_act.specs.declared.entry.Entry.{Entry}
use Rattle.sat_act.specs.Deployed.{Deployed}
use Rattle.sat_act.specs.Done.{of_client}
use Rattle.sat_act.specs.Histories.{listed}
use Rattle.sat_act.specs.Ranges.{IsActOf}
use Rattle.sat_act.specs.Answers.{answer}
use Rattle.sat_act.specs.Settling.{run, inner_entry, with_inner}
use Rattle.sat_laws.proofs.Steps.{Step, outcome, wrote}
use Rattle.sat_laws.proofs.Written.{write-client}
use Rattle.sat_rest.specs.Ends.{wrote_count, wrote_entry}
use Rattle.sat_world.specs.Seen.{WorldSeen}
use Rattle.sat_world.specs.Stands.{StandsFor}
use Rattle.sat_script.specs.Spelled.{AreActsOf}
use Rattle.sat_runs.specs.Runs.{history}
use Rattle.sat_runs.specs.Running.{Does}
use Rattle.sat_runs.proofs.Running.{kept, on, runs-none}
use Rattle.sat_top.specs.UnderWay.{IsCounting, writes_in}

-- an entry counts as a write where its answer is one
wrote-on : (h : List Entry) (a : Act) (r : Answer) (inner : Bool) → wrote_count (record { act = a; answer = r; inner = inner } ∷ h) ≡ wrote_count h + writes_in r
unfolding wrote_count
wrote-on h a (ans.Wrote l) inner = length-append (listed wrote_entry h) (l ∷ [])
wrote-on h a r inner = length-append (listed wrote_entry h) []

no-write : (d : Deployed) (h : List Entry) (a : Act) (r : Answer) → Step d h a r → of_client a ≡ None → writes_in r ≡ 0
no-write d h a r (wrote {w = w} z p q s) e =
    let c : of_client a ≡ Some w.client = write-client a w z in
    absurd (cc)
no-write d h a r _ e = refl

wrote-in : (d : Deployed) (k : List Entry) (a : Act) → of_client a ≡ None → wrote_count (inner_entry d k a ∷ k) ≡ wrote_count k
wrote-in d k a e = omega (arith, wrote-on k a (answer d k a) true, no-write d k a (answer d k a) (outcome d k a) e)

-- one act more
pub counts_more : (old new : WorldSeen) (written : ℕ) (acts : List Act) (a : Act) (r : Answer) → IsActOf old.deployment a → Does old a r new
    → IsCounting old.deployment old written acts → IsCounting old.deployment new (written + writes_in r) (acts ++ a ∷ [])
counts_more old new written acts a r range does now =
    let d = old.deployment in
    let h = history d acts in
    let one = on old new acts a r range does now.running in
    let same : wrote_count (with_inner d h a) ≡ wrote_count h = kept d wrote_count (wrote-in d) h a now.running.run in
    record { running = one.goes; count = rw one.next (rw (wrote-on (with_inner d h a) a r false, same, ← now.count) refl) }

-- before the first act
pub counts_none : (d : Deployed) (w : WorldSeen) → StandsFor w [] → IsCounting d w 0 []
unfolding history run wrote_count listed
counts_none d w stands = record { running = runs-none d w stands; count = refl }

-- ---- the acts that are still to come

-- these acts were done, of all that were to come
pub record Counts (d : Deployed) (w : WorldSeen) (written : ℕ) (coming all : List Act) : Type 0 where
  pub done : List Act
  pub split : done ++ coming ≡ all
  pub counting : IsCounting d w written done
  pub each : AreActsOf d coming
  pub few : written + length coming ≤ length all

pub counts_start : (d : Deployed) (w : WorldSeen) (all : List Act) → StandsFor w [] → AreActsOf d all → Counts d w 0 all all
counts_start d w all stands each = record { done = []; split = refl; counting = counts_none d w stands; each = each; few = omega arith }

pub counts_on : (d : Deployed) (old new : WorldSeen) (written one : ℕ) (coming rest all : List Act) (a : Act) → old.deployment ≡ d → coming ≡ a ∷ rest → one ≤ 1
    → ((before : List Act) (w : ℕ) → IsCounting old.deployment old w before → IsCounting old.deployment new (w + one) (before ++ a ∷ []))
    → Counts d old written coming all → Counts d new (written + one) rest all
counts_on d old new written one coming rest all a same is most more now =
    let was : IsCounting old.deployment old written now.done = subst (λ (d : Deployed). IsCounting d old written now.done) (sym same) now.counting in
    let each : AreActsOf d (a ∷ rest) = subst (λ (acts : List Act). AreActsOf d acts) is now.each in
    let long : length coming ≡ suc (length rest) = ap length is in
    record {
      done = now.done ++ a ∷ [];
      split = append_assoc now.done (a ∷ []) rest ∙ ap (λ (acts : List Act). now.done ++ acts) (sym is) ∙ now.split;
      counting = subst (λ (d : Deployed). IsCounting d new (written + one) (now.done ++ a ∷ [])) same (more now.done written was);
      each = each.1;
      few = omega (arith, most, long, now.few);
    }

-- ---- the next act of a list

pub rest-more : (d : Deployed) (acts : List Act) (n : ℕ) (x : Act) → n < length acts → AreActsOf d (drop n acts) → AreActsOf d (drop (n + 1) acts)
rest-more d acts n x low rest =
    let all : AreActsOf d (get_or acts n x ∷ drop (suc n) acts) = subst (λ (later : List Act). AreActsOf d later) (drop-cons acts n x low) rest in
    subst (λ (m : ℕ). AreActsOf d (drop m acts)) (sym (add-one n)) all.1
