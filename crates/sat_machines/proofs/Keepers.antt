-- The sites that keep the items of a write.
use Rattle.std.proofs.Common.{◌≡◌, ◌≤◌, ◌∙◌, ℕ, Bool, false, sym, ap, List, length, Option, Some, None, slice_get}
use Rattle.std.proofs.lemmas.Option.{slice_get_past}
use Rattle.sat_label.specs.declared.site_set.SiteSet.{SiteSet}
use Rattle.sat_label.specs.Words.{bit}
use Rattle.sat_sites.specs.Interested.{Interested, keeps, keeps_one}
use Rattle.sat_act.specs.Deployed.{Deployed}
use Rattle.sat_act.specs.Parts.{keeps_some}
use Rattle.sat_model.specs.Interests.{interest_of}
use Rattle.sat_site.proofs.Interests.{keeps-one-is}

abbrev kept_of : Option SiteSet → ℕ → Bool
kept_of o k = elim o [ None ↦ false | Some set ↦ bit set.bits k ]

pub kept_here : (a : Interested) (x k : ℕ) (set : SiteSet) → slice_get a.replicas x ≡ Some set → bit set.bits k ≡ keeps a x k
kept_here a x k set at = ap (λ (o : Option SiteSet). kept_of o k) (sym at)

pub kept_nowhere : (a : Interested) (x k : ℕ) → length a.replicas ≤ x → false ≡ keeps a x k
kept_nowhere a x k high = ap (λ (o : Option SiteSet). kept_of o k) (sym (slice_get_past a.replicas x high))

pub keeps_one_is : (d : Deployed) (xs : List ℕ) (k : ℕ) → keeps_one (interest_of d) xs k ≡ keeps_some d xs k
keeps_one_is d xs k = keeps-one-is d xs k
