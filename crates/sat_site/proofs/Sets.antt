-- The sets of sites of a deployment's items are good ones.
use Rattle.std.specs.Prelude.{◌≡◌, ◌+◌, ℕ, Bool, true, false, not, List, [], ◌∷◌, map, Option, Some, None, slice_get, suc, cond, MatchOption, refl}
use Rattle.std.specs.List.{position_from}
use Rattle.std.proofs.Common.{subst, ap, ◌∙◌}
use Rattle.std.proofs.lemmas.Iterator.Adapters.{position_from-zero}
use Rattle.sat_label.specs.declared.site_set.SiteSet.{SiteSet}
use Rattle.sat_label.specs.Words.{are_sites}
use Rattle.sat_label.proofs.Bits.{sites-are}
use Rattle.sat_sites.specs.Interested.{first_bad}
use Rattle.sat_sites.specs.declared.interest.InterestFault.{InterestFault}
use Rattle.sat_sites.specs.declared.interest.InterestFault.TheVariants.{BadItem, Memory}
use Rattle.sat_act.specs.Deployed.{Deployed}
use Rattle.sat_act.specs.Limits.{IsDeployment}
use Rattle.sat_model.specs.Interests.{replicas_of}
use Rattle.sat_hub.proofs.Lists.{map-cases, Mapped}

none-from : (p : SiteSet → Bool) (i : ℕ) (sets : List SiteSet) → ((n : ℕ) (set : SiteSet) → slice_get sets n ≡ Some set → p set ≡ false) → position_from p i sets ≡ None
none-from p i [] f = refl
none-from p i (x ∷ sets) f = ap (λ (b : Bool). cond b (Some i) (position_from p (i + 1) sets)) (f 0 x refl) ∙ none-from p (i + 1) sets (λ n. f (suc n))

-- no item of a deployment is kept nowhere, or at a site that is none
pub none-bad : (d : Deployed) → IsDeployment d → first_bad d.sites (map replicas_of d.items) ≡ None
none-bad d limits =
    position_from-zero (λ set. not (are_sites d.sites set.bits)) (map replicas_of d.items) ∙
    none-from (λ set. not (are_sites d.sites set.bits)) 0 (map replicas_of d.items) (λ n set at.
    let w : Mapped replicas_of d.items n set = map-cases replicas_of d.items n set at in
    ap not (subst (λ (s : SiteSet). are_sites d.sites s.bits ≡ true) w.is (sites-are d.sites w.old.replicas.bits (limits.kept n w.old w.at) (λ k has. limits.replicas n k w.old w.at has))))

-- so no interest of a deployment is refused
pub never-bad : (d : Deployed) (sites : ℕ) (sets : List SiteSet) (fault : InterestFault) (n : ℕ) (Q : ℕ → Type 0) → IsDeployment d → sites ≡ d.sites → sets ≡ map replicas_of d.items → fault ≡ BadItem n → MatchOption (first_bad sites sets) (fault ≡ Memory) Q → ⊥
never-bad d sites sets fault n Q limits e f g h = go (first_bad sites sets) ((λ j. first_bad (e j) (f j)) ∙ none-bad d limits) h
  where
    go : (o : Option ℕ) → o ≡ None → MatchOption o (fault ≡ Memory) Q → ⊥
    go None w k = absurd (cc)
    go (Some m) w k = absurd (cc)
