-- The site behind the inputs of which a disk has a journal is one.
use Rattle.std.proofs.Common.{◌≡◌, ◌<◌, ◌+◌, ℕ, Bool, true, false, List, [], ◌∷◌, length, Option, Some, None, Ok, Err, refl, subst}
use Rattle.std.specs.Prelude.{if◌then◌else◌}
use Rattle.std.proofs.lemmas.Bool.{and_parts}
use Rattle.sat_act.specs.Deployed.{Deployed}
use Rattle.sat_act.specs.Limits.{IsDeployment}
use Rattle.sat_bodies.specs.Bodies.{input_allows}
use Rattle.sat_durable.specs.Journal.{reading}
use Rattle.sat_durable.specs.Machine.{Recovers, Run, or_torn, replay_from, run_of, started, taken, taken_if}
use Rattle.sat_site.specs.declared.input.SiteInput.{SiteInput}
use Rattle.sat_site.specs.declared.output.SiteOutput.{SiteOutput}
use Rattle.sat_site.specs.Inputs.{fits_in}
use Rattle.sat_site.specs.Seen.{IsSite}
use Rattle.sat_site_laws.proofs.Started.{start}
use Rattle.sat_site_laws.proofs.Stays.{stay}
use Rattle.sat_lasting.specs.declared.kept_site.KeptSite.{KeptSite}
use Rattle.sat_lasting.specs.Sites.{fresh_kept, site_meaning}
use Rattle.sat_lasting.specs.Slots.{after_inputs}

abbrev Ran : Type 0
Ran = Run KeptSite SiteOutput

-- its site is one, if it is a run
abbrev IsSound : Option Ran → Type 0
IsSound None = Unit {0}
IsSound (Some run) = IsSite run.machine.site

took : (run : Ran) (o : Option SiteInput) → IsSite run.machine.site → IsSound (taken_if site_meaning run o)
took run None k = tt
took run (Some given) k = go (site_meaning.fits run.machine given) refl
  where
    go : (b : Bool) → site_meaning.fits run.machine given ≡ b → IsSound (if b then Some (taken site_meaning run given) else None)
    go true e = stay run.machine.site given k (and_parts (fits_in run.machine.site given) (input_allows given) e).0
    go false e = tt

ends : (at : ℕ) (run last : Ran) (closed : Bool) → IsSite run.machine.site → (if closed then Ok run else Err at) ≡ Ok last → IsSite last.machine.site
ends at run last true k e = let same : run ≡ last = cc in subst (λ (r : Ran). IsSite r.machine.site) same k
ends at run last false k e = absurd (cc)

replayed : (at : ℕ) (run last : Ran) (closed : Bool) (bodies : List (List ℕ)) → IsSite run.machine.site → replay_from site_meaning at run closed bodies ≡ Ok last → IsSite last.machine.site
replayed at run last closed [] k e = ends at run last closed k e
replayed at run last closed (body ∷ bodies) k e = go (taken_if site_meaning run (site_meaning.input_of body)) (took run (site_meaning.input_of body) k) e (λ next. replayed (at + (5 + length body)) next last closed bodies)
  where
    go : (o : Option Ran) → IsSound o → or_torn at o (λ next. replay_from site_meaning (at + (5 + length body)) next closed bodies) ≡ Ok last →
        ((next : Ran) → IsSite next.machine.site → replay_from site_meaning (at + (5 + length body)) next closed bodies ≡ Ok last → IsSite last.machine.site) → IsSite last.machine.site
    go None sound e more = absurd (cc)
    go (Some next) sound e more = more next sound e

pub behind-sound : (d : Deployed) (i : ℕ) (xs : List SiteInput) (content : List ℕ) → IsDeployment d → i < d.sites → Recovers site_meaning (fresh_kept d i) content xs → IsSite (after_inputs d i xs).site
behind-sound d i xs content limits lt recovers =
    replayed 0 (started (fresh_kept d i)) (run_of site_meaning (fresh_kept d i) xs) (reading content).closed (reading content).bodies (start d i limits lt) recovers.replay
