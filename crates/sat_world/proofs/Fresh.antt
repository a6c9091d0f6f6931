-- The parts of a world in which nothing has happened.
use Rattle.std.specs.Prelude.{◌≡◌, ◌+◌, ℕ, suc, List, [], ◌∷◌, ◌++◌}
use Rattle.std.proofs.Common.{sym, subst, ap, ◌∙◌, inl, inr}
use Rattle.std.proofs.Math.Numerals.{add-one}
use Rattle.sat_act.specs.Deployed.{Deployed}
use Rattle.sat_model.specs.State.{fresh_site}
use Rattle.sat_site.specs.Seen.{SiteSeen}
use Rattle.sat_site.specs.Stands.{StandsSite}
use Rattle.sat_world.specs.Starts.{AreFresh}
use Rattle.sat_world.proofs.Lists.{push-cases, length-push}

pub sites-more : (d : Deployed) (n : ℕ) (xs : List SiteSeen) (x : SiteSeen) → AreFresh d n xs → StandsSite d n x (fresh_site n) → AreFresh d (n + 1) (xs ++ x ∷ [])
sites-more d n xs x old st = record {
  count = rw add-one (length-push xs x ∙ ap suc old.count);
  each = λ i y at. elim (push-cases xs x y i at) [
    | inl w ↦ old.each i y w
    | inr w ↦ let e : n ≡ i = sym (w.0 ∙ old.count) in subst (λ (i : ℕ). StandsSite d i y (fresh_site i)) e (subst (λ (y : SiteSeen). StandsSite d n y (fresh_site n)) w.1 st)
  ];
}
