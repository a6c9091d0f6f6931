-- What a line says by its stage, its bytes and its first words.
use Rattle.std.proofs.Common.{◌≡◌, ◌≢◌, ℕ, ◌<◌, ◌≤◌, true, false, eqb, ltb, List, [], ◌∷◌, length, take, map, Bor, Option, Some, None, Result, Ok, Err, sym, ap, subst, ◌∙◌, refl, arith}
use Rattle.std.proofs.lemmas.Bool.Decides.{nat_tests}
use Rattle.sat_script.specs.Grammar.{line_at, is_ended}
use Rattle.sat_script.specs.Lines.{Gives}
use Rattle.sat_script.specs.State.{State}
use Rattle.sat_script.specs.Words.{is_text, words_of}
use Rattle.sat_script.specs.declared.fault.Cause.{Cause}
use Rattle.sat_script.specs.declared.fault.Cause.TheVariants.{LongLine, NotText, Memory}
use Rattle.sat_script.specs.declared.limits.TheConstants.{LONGEST_LINE}
use Rattle.sat_script.specs.declared.line.Stage.{Stage}
use Rattle.sat_script.specs.declared.line.Stage.TheVariants as stage
use Rattle.sat_chain_laws.specs.declared.chain_act.ChainAct.{ChainAct}
use Rattle.sat_chain_script.specs.Forms.{found, chain_form, step_words}
use Rattle.sat_chain_script.specs.ChainLines.{of_script, of_step, form_at, words_after, line_as, chain_line}
use Rattle.sat_chain_script.specs.declared.form.ChainForm.{ChainForm}
use Rattle.sat_chain_script.specs.declared.line.ChainParsed.TheVariants as says

-- ---- a line of any script

form_none : (here : Stage) (words : List (List ℕ)) → (here ≡ stage.Body → ⊥) → form_at here words ≡ None
form_none stage.Body words other = absurd (other refl)
form_none stage.Start words other = refl
form_none stage.Sites words other = refl
form_none stage.Gears words other = refl
form_none stage.Header words other = refl
form_none stage.Ended words other = refl

pub outside_body : (r : ℕ) (s : State) (line : List ℕ) → (s.stage ≡ stage.Body → ⊥) → chain_line r s line ≡ of_script (line_at s line)
unfolding chain_line
outside_body r s line other = ap (line_as r s line) (form_none s.stage (words_of line) other)

pub no_form : (r : ℕ) (s : State) (line : List ℕ) → s.stage ≡ stage.Body → chain_form (words_of line) ≡ None → chain_line r s line ≡ of_script (line_at s line)
unfolding chain_line
no_form r s line body none = ap (line_as r s line) (ap (λ (here : Stage). form_at here (words_of line)) body ∙ none)

-- ---- a line that is too long, or no text

script_long : (s : State) (line : List ℕ) → s.stage ≡ stage.Body → ltb LONGEST_LINE (length line) ≡ true → line_at s line ≡ Err LongLine
unfolding line_at
script_long s line body long = let ended : is_ended s.stage ≡ false = ap is_ended body in rw (ended, long) refl

script_not_text : (s : State) (line : List ℕ) → s.stage ≡ stage.Body → ltb LONGEST_LINE (length line) ≡ false → is_text line ≡ false → line_at s line ≡ Err NotText
unfolding line_at
script_not_text s line body short other = let ended : is_ended s.stage ≡ false = ap is_ended body in rw (ended, short, other) refl

as_long : (r : ℕ) (s : State) (line : List ℕ) (f : Option ChainForm) → s.stage ≡ stage.Body → ltb LONGEST_LINE (length line) ≡ true → line_as r s line f ≡ Err LongLine
as_long r s line None body long = ap of_script (script_long s line body long)
as_long r s line (Some f) body long = rw long refl

pub too_long : (r : ℕ) (s : State) (line : List ℕ) → s.stage ≡ stage.Body → LONGEST_LINE < length line → chain_line r s line ≡ Err LongLine
unfolding chain_line
too_long r s line body long = let test : ltb LONGEST_LINE (length line) ≡ true = grind (arith, nat_tests, long) in as_long r s line (form_at s.stage (words_of line)) body test

as_not_text : (r : ℕ) (s : State) (line : List ℕ) (f : Option ChainForm) → s.stage ≡ stage.Body → ltb LONGEST_LINE (length line) ≡ false → is_text line ≡ false → line_as r s line f ≡ Err NotText
as_not_text r s line None body short other = ap of_script (script_not_text s line body short other)
as_not_text r s line (Some f) body short other = rw (short, other) refl

pub not_text : (r : ℕ) (s : State) (line : List ℕ) → s.stage ≡ stage.Body → length line ≤ LONGEST_LINE → is_text line ≡ false → chain_line r s line ≡ Err NotText
unfolding chain_line
not_text r s line body short other = let test : ltb LONGEST_LINE (length line) ≡ false = grind (arith, nat_tests, short) in as_not_text r s line (form_at s.stage (words_of line)) body test other

-- ---- an act of a chain

-- none has more than three words after the first
none_many : (word : List ℕ) (n : ℕ) → 3 < n → found word n ≡ None
none_many word n many =
    let two : eqb 2 n ≡ false = grind (arith, nat_tests) in
    let three : eqb 3 n ≡ false = grind (arith, nat_tests) in
    rw (two, three) refl

pub form_first : (ws : List (List ℕ)) → chain_form (take 11 ws) ≡ chain_form ws
unfolding chain_form
form_first [] = refl
form_first (a ∷ []) = refl
form_first (a ∷ b ∷ []) = refl
form_first (a ∷ b ∷ c ∷ []) = refl
form_first (a ∷ b ∷ c ∷ d ∷ []) = refl
form_first (a ∷ b ∷ c ∷ d ∷ e ∷ ws) = rw (none_many a (length (b ∷ c ∷ d ∷ e ∷ take 6 ws)) (omega arith), none_many a (length (b ∷ c ∷ d ∷ e ∷ ws)) (omega arith)) refl

words_first : (ws : List (List ℕ)) (f : ChainForm) → chain_form ws ≡ Some f → words_after (take 11 ws) ≡ words_after ws
unfolding chain_form
words_first [] f is = refl
words_first (a ∷ []) f is = refl
words_first (a ∷ b ∷ []) f is = refl
words_first (a ∷ b ∷ c ∷ []) f is = refl
words_first (a ∷ b ∷ c ∷ d ∷ []) f is = refl
words_first (a ∷ b ∷ c ∷ d ∷ e ∷ ws) f is = absurd (let never : None ≡ Some f = sym (none_many a (length (b ∷ c ∷ d ∷ e ∷ ws)) (omega arith)) ∙ is in cc)

pub step_line : (r : ℕ) (s : State) (line : List ℕ) (f : ChainForm) → s.stage ≡ stage.Body → length line ≤ LONGEST_LINE → is_text line ≡ true → chain_form (words_of line) ≡ Some f → chain_line r s line ≡ of_step (step_words r s f (words_after (words_of line)))
unfolding chain_line
step_line r s line f body short text is =
    let test : ltb LONGEST_LINE (length line) ≡ false = grind (arith, nat_tests, short) in
    ap (line_as r s line) (ap (λ (here : Stage). form_at here (words_of line)) body ∙ is) ∙ rw (test, text) refl

-- the words of a line, as the code has them
abbrev texts : List (Bor (List ℕ)) → List (List ℕ)
texts words = map (λ word. word.now) words

-- what the words after the first say is what the line says
pub by_words : (r : ℕ) (s : State) (line : List ℕ) (f : ChainForm) (word : Bor (List ℕ)) (words rest : List (Bor (List ℕ))) → s.stage ≡ stage.Body → length line ≤ LONGEST_LINE → is_text line ≡ true → texts words ≡ take 11 (words_of line) → words ≡ word ∷ rest → chain_form (texts words) ≡ Some f
    → chain_line r s line ≡ of_step (step_words r s f (texts rest))
by_words r s line f word words rest body short text first split is =
    let found : chain_form (words_of line) ≡ Some f = sym (form_first (words_of line)) ∙ ap chain_form (sym first) ∙ is in
    let same : words_after (words_of line) ≡ texts rest = sym (words_first (words_of line) f found) ∙ ap words_after (sym first) ∙ ap (λ (ws : List (Bor (List ℕ))). words_after (texts ws)) split in
    step_line r s line f body short text found ∙ ap (λ (ws : List (List ℕ)). of_step (step_words r s f ws)) same

pub by_no_words : (r : ℕ) (s : State) (line : List ℕ) (words : List (Bor (List ℕ))) → s.stage ≡ stage.Body → texts words ≡ take 11 (words_of line) → chain_form (texts words) ≡ None → chain_line r s line ≡ of_script (line_at s line)
by_no_words r s line words body first is = no_form r s line body (sym (form_first (words_of line)) ∙ ap chain_form (sym first) ∙ is)

pub nothing_found : (words : List (Bor (List ℕ))) → words ≡ [] → chain_form (texts words) ≡ None
unfolding chain_form
nothing_found words none = rw none refl

-- ---- what the calls answer

pub gives_same : {T : Type 0} → (result : Result T Cause) (a b : Result T Cause) → a ≡ b → Gives result b → Gives result a
gives_same {T} result a b same gives = subst (λ (x : Result T Cause). Gives result x) (sym same) gives

pub gives_step : (answer : Result ChainAct Cause) (said : Result ChainAct Cause) (act : ChainAct) → answer ≡ Ok act → Gives answer said → of_step said ≡ Ok (says.Step act)
gives_step answer said act is gives = let ok : said ≡ Ok act = subst (λ (x : Result ChainAct Cause). Gives x said) is gives in ap of_step ok

pub gives_cause : (answer : Result ChainAct Cause) (said : Result ChainAct Cause) (cause : Cause) → answer ≡ Err cause → Gives answer said → cause ≢ Memory → of_step said ≡ Err cause
gives_cause answer said cause is gives other = let bad : cause ≢ Memory → said ≡ Err cause = subst (λ (x : Result ChainAct Cause). Gives x said) is gives in ap of_step (bad other)
