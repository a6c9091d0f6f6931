-- What a line says by its first words.
use Rattle.std.proofs.Common.{◌≡◌, ◌≢◌, ℕ, ◌<◌, ◌≤◌, true, false, eqb, List, [], ◌∷◌, length, take, drop, map, Bor, Some, None, Result, Ok, Err, sym, ap, subst, ◌∙◌, refl, arith}
use Rattle.std.proofs.lemmas.Bool.Decides.{nat_tests}
use Rattle.sat_script.specs.Grammar.{line_at}
use Rattle.sat_script.specs.Lines.{Gives}
use Rattle.sat_script.specs.State.{State}
use Rattle.sat_script.specs.Words.{is_text, words_of}
use Rattle.sat_script.specs.declared.fault.Cause.{Cause}
use Rattle.sat_script.specs.declared.fault.Cause.TheVariants.{Memory}
use Rattle.sat_script.specs.declared.limits.TheConstants.{LONGEST_LINE}
use Rattle.sat_script.specs.declared.line.Stage.TheVariants as stage
use Rattle.sat_lasting_laws.specs.declared.lasting_act.LastingAct.{LastingAct}
use Rattle.sat_own_acts.specs.Lines.{of_script, of_own, own_line}
use Rattle.sat_own_acts.specs.declared.line.OwnParsed.TheVariants as says
use Rattle.sat_own_acts.proofs.LinesSay.{no_own, own_is}
use Rattle.sat_lasting_script.specs.Forms.{found, lasting_form, step_words, step_by, words_say, lasting_acts}
use Rattle.sat_lasting_script.specs.declared.form.LastingForm.{LastingForm}

-- none has more than three words after the first
none_many : (word : List ℕ) (n : ℕ) → 3 < n → found word n ≡ None
none_many word n many =
    let one : eqb 1 n ≡ false = grind (arith, nat_tests) in
    let three : eqb 3 n ≡ false = grind (arith, nat_tests) in
    rw (one, three) refl

form_first : (ws : List (List ℕ)) → lasting_form (take 11 ws) ≡ lasting_form ws
unfolding lasting_form
form_first [] = refl
form_first (a ∷ []) = refl
form_first (a ∷ b ∷ []) = refl
form_first (a ∷ b ∷ c ∷ []) = refl
form_first (a ∷ b ∷ c ∷ d ∷ []) = refl
form_first (a ∷ b ∷ c ∷ d ∷ e ∷ ws) = rw (none_many a (length (b ∷ c ∷ d ∷ e ∷ take 6 ws)) (omega arith), none_many a (length (b ∷ c ∷ d ∷ e ∷ ws)) (omega arith)) refl

words_first : (ws : List (List ℕ)) (f : LastingForm) → lasting_form ws ≡ Some f → drop 1 (take 11 ws) ≡ drop 1 ws
unfolding lasting_form
words_first [] f is = refl
words_first (a ∷ []) f is = refl
words_first (a ∷ b ∷ []) f is = refl
words_first (a ∷ b ∷ c ∷ []) f is = refl
words_first (a ∷ b ∷ c ∷ d ∷ []) f is = refl
words_first (a ∷ b ∷ c ∷ d ∷ e ∷ ws) f is = absurd (let never : None ≡ Some f = sym (none_many a (length (b ∷ c ∷ d ∷ e ∷ ws)) (omega arith)) ∙ is in cc)

pub say_none : (s : State) (ws : List (List ℕ)) → lasting_form ws ≡ None → words_say s ws ≡ None
unfolding words_say
say_none s ws none = ap (step_by s ws) none

say_some : (s : State) (ws : List (List ℕ)) (f : LastingForm) → lasting_form ws ≡ Some f → words_say s ws ≡ Some (step_words s f (drop 1 ws))
unfolding words_say
say_some s ws f is = ap (step_by s ws) is

-- the words of a line, as the code has them
abbrev texts : List (Bor (List ℕ)) → List (List ℕ)
texts words = map (λ word. word.now) words

-- what the words after the first say is what the line says
pub by_words : (s : State) (line : List ℕ) (f : LastingForm) (word : Bor (List ℕ)) (words rest : List (Bor (List ℕ))) → s.stage ≡ stage.Body → length line ≤ LONGEST_LINE → is_text line ≡ true → texts words ≡ take 11 (words_of line) → words ≡ word ∷ rest
    → lasting_form (texts words) ≡ Some f → own_line lasting_acts s line ≡ of_own (step_words s f (texts rest))
by_words s line f word words rest body short text first split is =
    let found : lasting_form (words_of line) ≡ Some f = sym (form_first (words_of line)) ∙ ap lasting_form (sym first) ∙ is in
    let same : drop 1 (words_of line) ≡ texts rest = sym (words_first (words_of line) f found) ∙ ap (λ (ws : List (List ℕ)). drop 1 ws) (sym first) ∙ ap (λ (ws : List (Bor (List ℕ))). drop 1 (texts ws)) split in
    own_is lasting_acts s line (step_words s f (drop 1 (words_of line))) body short text (say_some s (words_of line) f found) ∙ ap (λ (ws : List (List ℕ)). of_own (step_words s f ws)) same

pub by_no_words : (s : State) (line : List ℕ) (words : List (Bor (List ℕ))) → s.stage ≡ stage.Body → texts words ≡ take 11 (words_of line) → lasting_form (texts words) ≡ None → own_line lasting_acts s line ≡ of_script (line_at s line)
by_no_words s line words body first is = no_own lasting_acts s line body (say_none s (words_of line) (sym (form_first (words_of line)) ∙ ap lasting_form (sym first) ∙ is))

pub nothing_found : (words : List (Bor (List ℕ))) → words ≡ [] → lasting_form (texts words) ≡ None
unfolding lasting_form
nothing_found words none = rw none refl

-- ---- what the calls answer

pub gives_same : {T : Type 0} → (result : Result T Cause) (a b : Result T Cause) → a ≡ b → Gives result b → Gives result a
gives_same {T} result a b same gives = subst (λ (x : Result T Cause). Gives result x) (sym same) gives

pub gives_step : (answer : Result LastingAct Cause) (said : Result LastingAct Cause) (act : LastingAct) → answer ≡ Ok act → Gives answer said → of_own said ≡ Ok (says.Own act)
gives_step answer said act is gives = let ok : said ≡ Ok act = subst (λ (x : Result LastingAct Cause). Gives x said) is gives in ap of_own ok

pub gives_cause : (answer : Result LastingAct Cause) (said : Result LastingAct Cause) (cause : Cause) → answer ≡ Err cause → Gives answer said → cause ≢ Memory → of_own said ≡ Err cause
gives_cause answer said cause is gives other = let bad : cause ≢ Memory → said ≡ Err cause = subst (λ (x : Result LastingAct Cause). Gives x said) is gives in ap of_own (bad other)
