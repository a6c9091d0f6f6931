-- Sets of sites that are good.
use Rattle.std.proofs.Common.{◌≡◌, ℕ, ◌+◌, ◌≤◌, Bool, true, false, not, List, [], ◌∷◌, Option, Some, None, slice_get, cond, zero, suc, refl, sym, ◌∙◌, subst}
use Rattle.std.specs.List.{position_from}
use Rattle.std.proofs.lemmas.Iterator.Adapters.{position_from-zero}
use Rattle.std.proofs.lemmas.Bool.{not-false}
use Rattle.sat_label.specs.declared.site_set.SiteSet.{SiteSet}
use Rattle.sat_label.specs.Words.{are_sites}
use Rattle.sat_label.proofs.Bits.{sites-some, sites-below}
use Rattle.sat_sites.specs.Interested.{first_bad, IsInterest}

none-cond : (b : Bool) (i : ℕ) (rest : Option ℕ) → cond b (Some i) rest ≡ None → (b ≡ false) × (rest ≡ None)
none-cond true i rest e = absurd (cc)
none-cond false i rest e = (refl, e)

none-from : (p : SiteSet → Bool) (i : ℕ) (sets : List SiteSet) → position_from p i sets ≡ None → (n : ℕ) (set : SiteSet) → slice_get sets n ≡ Some set → p set ≡ false
none-from p i [] none n set at = absurd (cc)
none-from p i (x ∷ sets) none zero set at =
    let same : x ≡ set = cc in subst (λ (s : SiteSet). p s ≡ false) same (none-cond (p x) i (position_from p (i + 1) sets) none).0
none-from p i (x ∷ sets) none (suc n) set at = none-from p (i + 1) sets (none-cond (p x) i (position_from p (i + 1) sets) none).1 n set at

pub each-good : (sites : ℕ) (sets : List SiteSet) → first_bad sites sets ≡ None → (n : ℕ) (set : SiteSet) → slice_get sets n ≡ Some set → are_sites sites set.bits ≡ true
each-good sites sets none n set at =
    not-false _ (none-from (λ s. not (are_sites sites s.bits)) 0 sets (sym (position_from-zero (λ s. not (are_sites sites s.bits)) sets) ∙ none) n set at)

-- sets of which none is bad are an interest's
pub is_interest : (sites : ℕ) (sets : List SiteSet) → sites ≤ 64 → first_bad sites sets ≡ None → IsInterest (record { sites = sites; replicas = sets })
is_interest sites sets few none = record {
  few = few;
  kept = λ x set at. sites-some sites set.bits (each-good sites sets none x set at) few;
  within = λ x k set at has. sites-below sites set.bits k (each-good sites sets none x set at) has;
}
