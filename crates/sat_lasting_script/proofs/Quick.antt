-- Plain acts that are found quickly.
use Rattle.std.proofs.Common.{◌≡◌, ℕ, Bool, true, false, cond, eqb, List, [], ◌∷◌, length, Option, Some, None, Ok, sym, ap, ◌∙◌, refl}
use Rattle.std.proofs.lemmas.Bool.{and_parts, eqb-true}
use Rattle.std.specs.Str.{bytes_eq}
use Rattle.sat_act.specs.declared.act.Act.{Act}
use Rattle.sat_script.specs.Grammar.{line_at}
use Rattle.sat_script.specs.State.{State}
use Rattle.sat_script.specs.Table.{act_forms, found_form}
use Rattle.sat_script.specs.Words.{words_of}
use Rattle.sat_script.specs.declared.line.Parsed.TheVariants as parsed
use Rattle.sat_script.specs.declared.line.Stage.{Stage}
use Rattle.sat_script.specs.declared.line.Stage.TheVariants as stage
use Rattle.sat_script.proofs.Choices.{word_is}
use Rattle.sat_script.proofs.Own.{no_act}
use Rattle.sat_own_acts.specs.Lines.{of_script, own_line}
use Rattle.sat_own_acts.specs.declared.line.OwnParsed.TheVariants as says
use Rattle.sat_own_acts.proofs.LinesSay.{no_own, outside_body}
use Rattle.sat_lasting_script.specs.Forms.{word_of, kinds_of, has_words, found, lasting_form, lasting_acts}
use Rattle.sat_lasting_script.specs.declared.form.LastingForm.{LastingForm}
use Rattle.sat_lasting_script.specs.declared.form.LastingForm.TheVariants as form
use Rattle.sat_lasting_script.proofs.LinesSay.{say_none}

-- ---- the form of a stop or cut is none of the table's

has_is : (g f : LastingForm) (word : List ℕ) (n : ℕ) → has_words g word n ≡ true → g ≡ f → (word ≡ word_of f) × (length (kinds_of f) ≡ n)
has_is g f word n e same =
    let b = and_parts (eqb (length (kinds_of g)) n) (bytes_eq word (word_of g)) e in
    (word_is word (word_of g) b.1 ∙ ap word_of same, sym (ap (λ (h : LastingForm). length (kinds_of h)) same) ∙ eqb-true (length (kinds_of g)) n b.0)

found_is : (word : List ℕ) (n : ℕ) (f : LastingForm) → found word n ≡ Some f → (word ≡ word_of f) × (length (kinds_of f) ≡ n)
found_is word n f h = go (has_words form.Stop word n) (has_words form.Cut word n) refl refl h
  where
    go : (a b : Bool) → has_words form.Stop word n ≡ a → has_words form.Cut word n ≡ b → cond a (Some form.Stop) (cond b (Some form.Cut) None) ≡ Some f → (word ≡ word_of f) × (length (kinds_of f) ≡ n)
    go true b p q h = has_is form.Stop f word n p (cc)
    go false true p q h = has_is form.Cut f word n q (cc)
    go false false p q h = absurd (cc)

other_form : (f : LastingForm) → found_form (word_of f) (length (kinds_of f)) act_forms ≡ None
other_form form.Stop = refl
other_form form.Cut = refl

no_plain : (s : State) (line : List ℕ) (words : List (List ℕ)) (f : LastingForm) (a : Act) → s.stage ≡ stage.Body → words_of line ≡ words → lasting_form words ≡ Some f → line_at s line ≡ Ok (parsed.Act a) → ⊥
unfolding lasting_form
no_plain s line [] f a body are is h = cc
no_plain s line (word ∷ words) f a body are is h =
    let named = found_is word (length words) f is in
    let none : found_form word (length words) act_forms ≡ None = ap (λ (w : List ℕ). found_form w (length words) act_forms) named.0 ∙ sym (ap (λ (n : ℕ). found_form (word_of f) n act_forms) named.1) ∙ other_form f in
    no_act s line word words a body are none h

-- ---- a line that says a plain act

in_body : (s : State) (line : List ℕ) (a : Act) → s.stage ≡ stage.Body → line_at s line ≡ Ok (parsed.Act a) → own_line lasting_acts s line ≡ of_script (line_at s line)
in_body s line a body h = go (lasting_form (words_of line)) refl
  where
    go : (o : Option LastingForm) → lasting_form (words_of line) ≡ o → own_line lasting_acts s line ≡ of_script (line_at s line)
    go None is = no_own lasting_acts s line body (say_none s (words_of line) is)
    go (Some f) is = absurd (no_plain s line (words_of line) f a body refl is h)

anywhere : (s : State) (line : List ℕ) (a : Act) (here : Stage) → s.stage ≡ here → line_at s line ≡ Ok (parsed.Act a) → own_line lasting_acts s line ≡ of_script (line_at s line)
anywhere s line a stage.Body is h = in_body s line a is h
anywhere s line a stage.Start is h = outside_body lasting_acts s line (λ body. let never : stage.Start ≡ stage.Body = sym is ∙ body in cc)
anywhere s line a stage.Sites is h = outside_body lasting_acts s line (λ body. let never : stage.Sites ≡ stage.Body = sym is ∙ body in cc)
anywhere s line a stage.Gears is h = outside_body lasting_acts s line (λ body. let never : stage.Gears ≡ stage.Body = sym is ∙ body in cc)
anywhere s line a stage.Header is h = outside_body lasting_acts s line (λ body. let never : stage.Header ≡ stage.Body = sym is ∙ body in cc)
anywhere s line a stage.Ended is h = outside_body lasting_acts s line (λ body. let never : stage.Ended ≡ stage.Body = sym is ∙ body in cc)

pub plain_said : (s : State) (line : List ℕ) (a : Act) → line_at s line ≡ Ok (parsed.Act a) → own_line lasting_acts s line ≡ Ok (says.Plain (parsed.Act a))
plain_said s line a h = anywhere s line a s.stage refl h ∙ ap of_script h
