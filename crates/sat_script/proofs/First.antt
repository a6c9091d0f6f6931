-- The first eleven words of a line say what all of them say, but for a plan.
use Rattle.std.proofs.Common.{◌≡◌, ℕ, ◌<◌, false, eqb, List, [], ◌∷◌, length, take, None, refl, arith}
use Rattle.std.proofs.lemmas.Bool.Decides.{nat_tests}
use Rattle.sat_script.specs.Grammar.{format_line, sites_line, gears_line, header_form, body_line}
use Rattle.sat_script.specs.State.{State}
use Rattle.sat_script.specs.Table.{act_forms, found_form, act_line}

pub format_first : (ws : List (List ℕ)) → format_line (take 11 ws) ≡ format_line ws
unfolding format_line
format_first [] = refl
format_first (a ∷ []) = refl
format_first (a ∷ b ∷ []) = refl
format_first (a ∷ b ∷ c ∷ ws) = refl

pub sites_first : (s : State) (ws : List (List ℕ)) → sites_line s (take 11 ws) ≡ sites_line s ws
unfolding sites_line
sites_first s [] = refl
sites_first s (a ∷ []) = refl
sites_first s (a ∷ b ∷ []) = refl
sites_first s (a ∷ b ∷ c ∷ ws) = refl

pub gears_first : (ws : List (List ℕ)) → gears_line (take 11 ws) ≡ gears_line ws
unfolding gears_line
gears_first [] = refl
gears_first (a ∷ []) = refl
gears_first (a ∷ b ∷ []) = refl
gears_first (a ∷ b ∷ c ∷ ws) = refl

pub form_first : (s : State) (word : List ℕ) (ws : List (List ℕ)) → header_form s word (take 10 ws) ≡ header_form s word ws
unfolding header_form
form_first s word [] = refl
form_first s word (a ∷ []) = refl
form_first s word (a ∷ b ∷ []) = refl
form_first s word (a ∷ b ∷ c ∷ ws) = refl

-- no act has more than nine words after the first
none_many : (word : List ℕ) (n : ℕ) → 9 < n → found_form word n act_forms ≡ None
none_many word n many =
    let none : eqb 0 n ≡ false = grind (arith, nat_tests) in
    let one : eqb 1 n ≡ false = grind (arith, nat_tests) in
    let two : eqb 2 n ≡ false = grind (arith, nat_tests) in
    let three : eqb 3 n ≡ false = grind (arith, nat_tests) in
    let four : eqb 4 n ≡ false = grind (arith, nat_tests) in
    let five : eqb 5 n ≡ false = grind (arith, nat_tests) in
    let seven : eqb 7 n ≡ false = grind (arith, nat_tests) in
    let nine : eqb 9 n ≡ false = grind (arith, nat_tests) in
    rw (none, one, two, three, four, five, seven, nine) refl

pub body_first : (s : State) (ws : List (List ℕ)) → body_line s (take 11 ws) ≡ body_line s ws
unfolding body_line act_line
body_first s [] = refl
body_first s (a ∷ []) = refl
body_first s (a ∷ b ∷ []) = refl
body_first s (a ∷ b ∷ c ∷ []) = refl
body_first s (a ∷ b ∷ c ∷ d ∷ []) = refl
body_first s (a ∷ b ∷ c ∷ d ∷ e ∷ []) = refl
body_first s (a ∷ b ∷ c ∷ d ∷ e ∷ f ∷ []) = refl
body_first s (a ∷ b ∷ c ∷ d ∷ e ∷ f ∷ g ∷ []) = refl
body_first s (a ∷ b ∷ c ∷ d ∷ e ∷ f ∷ g ∷ h ∷ []) = refl
body_first s (a ∷ b ∷ c ∷ d ∷ e ∷ f ∷ g ∷ h ∷ i ∷ []) = refl
body_first s (a ∷ b ∷ c ∷ d ∷ e ∷ f ∷ g ∷ h ∷ i ∷ j ∷ []) = refl
body_first s (a ∷ b ∷ c ∷ d ∷ e ∷ f ∷ g ∷ h ∷ i ∷ j ∷ k ∷ []) = refl
body_first s (a ∷ b ∷ c ∷ d ∷ e ∷ f ∷ g ∷ h ∷ i ∷ j ∷ k ∷ l ∷ ws) = rw (none_many a 10 (omega arith), none_many a (length (b ∷ c ∷ d ∷ e ∷ f ∷ g ∷ h ∷ i ∷ j ∷ k ∷ l ∷ ws)) (omega arith)) refl
