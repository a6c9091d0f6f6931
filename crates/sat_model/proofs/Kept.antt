-- How one entry changes a site's state: where it is not at the site, and where its answer leaves a part, nothing.
use Rattle.std.specs.Prelude.{◌≡◌, ℕ, Bool, true, false, ◌&&◌, List, [], ◌∷◌, ◌++◌, Option, Some, None, if◌then◌else◌, refl}
use Rattle.std.proofs.Common.{sym, ap, ◌∙◌}
use Rattle.sat_act.specs.declared.answer.Answer.{Answer}
use Rattle.sat_act.specs.Deployed.{Deployed}
use Rattle.sat_model.specs.State.{SiteState}
use Rattle.sat_model.specs.Input.{SiteInput}
use Rattle.sat_model.specs.Next.{site_next}
use Rattle.sat_model.specs.Replay.{after, given_at, given_seat}

-- a part that an answer leaves as it is
pub kept : {X : Type 0} (F : SiteState → X) (d : Deployed) (i : ℕ) (s : SiteState) (o : Option SiteInput) (r : Answer) → ((input : SiteInput) → F (site_next d i s input r) ≡ F s) → F (after d i s o r) ≡ F s
unfolding after
kept F d i s None r k = refl
kept F d i s (Some input) r k = k input

-- where the site is a client's seat
pub at-seat : {X : Type 0} (G : Option SiteInput → X) (x : X) (i k : ℕ) (input : SiteInput) (o : Option ℕ) → o ≡ Some k → G (given_at k i input) ≡ x → G (given_seat o i input) ≡ x
at-seat G x i k input o e w = ap (λ (o : Option ℕ). G (given_seat o i input)) e ∙ w

-- what is latest, where one test or two pick it
pub latest-if : {X : Type 0} (G : Option SiteInput → X) (input : SiteInput) (b : Bool) (m q : X) → G None ≡ q → G (Some input) ≡ m → G (if b then Some input else None) ≡ elim (if b then Some m else None) [ None ↦ q | Some y ↦ y ]
latest-if G input true m q u v = v
latest-if G input false m q u v = u

pub latest-and : {X : Type 0} (G : Option SiteInput → X) (input : SiteInput) (b c : Bool) (m q : X) → G None ≡ q → G (Some input) ≡ (if c then m else q) → G (if b then Some input else None) ≡ elim (if b && c then Some m else None) [ None ↦ q | Some y ↦ y ]
latest-and G input true true m q u v = v
latest-and G input true false m q u v = v
latest-and G input false c m q u v = u

pub listed-and : {X : Type 0} (G : Option SiteInput → List X) (input : SiteInput) (b c : Bool) (l : X) (q : List X) → G None ≡ q → G (Some input) ≡ (if c then q ++ l ∷ [] else q) → G (if b then Some input else None) ≡ q ++ elim (if b && c then Some l else None) [ None ↦ [] | Some y ↦ y ∷ [] ]
listed-and G input true true l q u v = v
listed-and G input true false l q u v = v ∙ sym (end q)
  where
    end : {Y : Type 0} (xs : List Y) → xs ++ [] ≡ xs
    end [] = refl
    end (x ∷ xs) = ap (λ ys. x ∷ ys) (end xs)
listed-and G input false c l q u v = u ∙ sym (end q)
  where
    end : {Y : Type 0} (xs : List Y) → xs ++ [] ≡ xs
    end [] = refl
    end (x ∷ xs) = ap (λ ys. x ∷ ys) (end xs)
