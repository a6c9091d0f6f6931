-- Whose session keeps an entry too.
use Rattle.std.proofs.Common.{◌≡◌, ℕ, zero, suc, true, false, List, [], ◌∷◌, Option, Some, None, slice_get, refl, subst}
use Rattle.sat_label.specs.declared.node.NodeName.{NodeName}
use Rattle.sat_label.specs.declared.node.NodeName.TheVariants as named
use Rattle.sat_act.specs.Deployed.{Deployed}
use Rattle.sat_laws.proofs.Labels.{some_is}
use Rattle.sat_site.specs.declared.input.SiteInput.{SiteInput}
use Rattle.sat_site.specs.declared.input.SiteInput.TheVariants as input
use Rattle.sat_node.specs.Meanings.{Runs}
use Rattle.sat_machines.specs.Acts.{IsBy}
use Rattle.sat_machines.specs.declared.serial_act.SerialAct.{SerialAct}
use Rattle.sat_machines.specs.declared.serial_act.SerialAct.TheVariants as serial
use Rattle.sat_machines.specs.Sites.{site_meaning}
use Rattle.sat_stitch.specs.Kept.{Kept}
use Rattle.sat_stitch.specs.Places.{Client, session_of}
use Rattle.sat_opened.specs.Keeping.{client_in, site_act, site_kept, serial_act, owner_of, serial_owner}
use Rattle.sat_opened.specs.Laws.{SitesHaveOwners, SerialsHaveOwners}
use Rattle.sat_opened.proofs.Walks.{Along}
use Rattle.sat_opened.proofs.SiteKept.{SiteStep, site-steps}
use Rattle.sat_opened.proofs.Written.{write-cases}

owned : (d : Deployed) (i : ℕ) (by : Option ℕ) (given : SiteInput) → IsBy d by given → session_of (site_act i (client_in by) given) ≡ owner_of by given
owned d i (Some c) (input.Write seen items values) e = write-cases (λ items values a. session_of a ≡ Some (Client c)) c (λ x value. refl) (λ items values. refl) items values
owned d i (Some c) (input.Read seen n) e = refl
owned d i (Some c) (input.Move seen j) e = refl
owned d i (Some c) (input.Attach seen) e = refl
owned d i (Some c) _ e = absurd (let w : false ≡ true = e.0 in cc)
owned d i None (input.Write seen items values) e = absurd (cc)
owned d i None (input.Read seen n) e = absurd (cc)
owned d i None (input.Move seen j) e = absurd (cc)
owned d i None (input.Attach seen) e = absurd (cc)
owned d i None _ e = refl

along-at : {X : Type 0} (of : X → Kept) (P : List Kept → X → Type 0) (ks : List Kept) (xs : List X) (n : ℕ) (x : X) → Along of P ks xs → slice_get xs n ≡ Some x → (b : List Kept) × P b x
along-at of P ks [] n x a e = absurd (cc)
along-at of P ks (y ∷ ys) zero x a e = (ks, subst (P ks) (some_is y x e) a.0)
along-at of P ks (y ∷ ys) (suc n) x a e = along-at of P (of y ∷ ks) ys n x a.1 e

pub sites_have_owners : SitesHaveOwners
sites_have_owners d sites serials all n i m h k at name there =
    let runs : Runs (site_meaning d) (named.Site i) h.node.entries = subst (λ (x : NodeName). Runs (site_meaning d) x h.node.entries) name (all.each_site n h at) in
    let step : (b : List Kept) × SiteStep d i b k = along-at (site_kept i) (SiteStep d i) [] h.node.entries m k (site-steps d i h.node.entries runs) there in
    owned d i k.input.by k.input.input step.1.fits_there.by

serial-owned : (e z : ℕ) (act : SerialAct) → session_of (serial_act e z act) ≡ serial_owner act
serial-owned e z (serial.Hop u l) = refl
serial-owned e z serial.Kill = refl

pub serials_have_owners : SerialsHaveOwners
serials_have_owners e z k = serial-owned e z k.input
