-- Lines with a number of words that no form has.
use Rattle.std.proofs.Common.{◌≡◌, ◌⊎◌, inl, inr, ◌<◌, ◌≤◌, ℕ, List, [], ◌∷◌, length, map, Err, refl, Bor, arith}
use Rattle.sat_script.specs.Grammar.{header_form, format_line, sites_line, gears_line}
use Rattle.sat_script.specs.State.{State}
use Rattle.sat_script.specs.declared.fault.Cause.TheVariants.{BadHeader}

pub header_form-other : (s : State) (word : List ℕ) (words : List (Bor (List ℕ))) → (length words ≡ 1) ⊎ (3 ≤ length words) → header_form s word (map (λ word. word.now) words) ≡ Err BadHeader
unfolding header_form
header_form-other s word [] (inl one) = absurd (omega arith)
header_form-other s word [] (inr many) = absurd (omega arith)
header_form-other s word (a ∷ []) other = refl
header_form-other s word (a ∷ b ∷ []) (inl one) = absurd (omega arith)
header_form-other s word (a ∷ b ∷ []) (inr many) = absurd (omega arith)
header_form-other s word (a ∷ b ∷ c ∷ words) other = refl

pub format_line-other : (words : List (Bor (List ℕ))) → (length words < 2) ⊎ (3 ≤ length words) → format_line (map (λ word. word.now) words) ≡ Err BadHeader
unfolding format_line
format_line-other [] other = refl
format_line-other (a ∷ []) other = refl
format_line-other (a ∷ b ∷ []) (inl few) = absurd (omega arith)
format_line-other (a ∷ b ∷ []) (inr many) = absurd (omega arith)
format_line-other (a ∷ b ∷ c ∷ words) other = refl

pub sites_line-other : (s : State) (words : List (Bor (List ℕ))) → (length words < 2) ⊎ (3 ≤ length words) → sites_line s (map (λ word. word.now) words) ≡ Err BadHeader
unfolding sites_line
sites_line-other s [] other = refl
sites_line-other s (a ∷ []) other = refl
sites_line-other s (a ∷ b ∷ []) (inl few) = absurd (omega arith)
sites_line-other s (a ∷ b ∷ []) (inr many) = absurd (omega arith)
sites_line-other s (a ∷ b ∷ c ∷ words) other = refl

pub gears_line-other : (words : List (Bor (List ℕ))) → (length words < 2) ⊎ (3 ≤ length words) → gears_line (map (λ word. word.now) words) ≡ Err BadHeader
unfolding gears_line
gears_line-other [] other = refl
gears_line-other (a ∷ []) other = refl
gears_line-other (a ∷ b ∷ []) (inl few) = absurd (omega arith)
gears_line-other (a ∷ b ∷ []) (inr many) = absurd (omega arith)
gears_line-other (a ∷ b ∷ c ∷ words) other = refl
