-- Acts that are made as their words are read.
use Rattle.std.proofs.Common.{◌≡◌, ℕ, ◌≤◌, Bool, true, false, cond, eqb, ltb, List, [], ◌∷◌, length, Option, Some, None, Result, Ok, sym, ap, subst, ◌∙◌, refl}
use Rattle.std.proofs.lemmas.Bool.{and_parts, eqb-true}
use Rattle.std.specs.Prelude.{IfSome}
use Rattle.std.specs.Str.{bytes_eq}
use Rattle.sat_act.specs.Deployed.{Deployed}
use Rattle.sat_act.specs.declared.act.Act.{Act}
use Rattle.sat_chain_laws.specs.declared.chain_act.ChainAct.{ChainAct}
use Rattle.sat_chain_laws.specs.declared.chain_act.ChainAct.TheVariants as chain
use Rattle.sat_script.specs.Causes.{barred, full}
use Rattle.sat_script.specs.Grammar.{line_at}
use Rattle.sat_script.specs.Said.{AreRead, TakesActs}
use Rattle.sat_script.specs.State.{State}
use Rattle.sat_script.specs.Table.{Said, place, num, act_forms, found_form, kinds_say}
use Rattle.sat_script.specs.Words.{is_text, words_of}
use Rattle.sat_script.specs.declared.fault.Cause.{Cause}
use Rattle.sat_script.specs.declared.fault.Cause.TheVariants.{OutOfRange}
use Rattle.sat_script.specs.declared.limits.TheConstants.{LONGEST_LINE}
use Rattle.sat_script.specs.declared.line.Parsed.TheVariants as parsed
use Rattle.sat_script.specs.declared.line.Stage.TheVariants as stage
use Rattle.sat_script.proofs.Choices.{word_is}
use Rattle.sat_script.proofs.Own.{read_says, own_text, no_act}
use Rattle.sat_chain_script.specs.ChainLines.{of_script, of_step, words_after, chain_line, saying}
use Rattle.sat_chain_script.specs.Forms.{SaysStep, word_of, kinds_of, has_words, found, chain_form, misfit, said_step, step_of, step_words}
use Rattle.sat_chain_script.specs.declared.form.ChainForm.{ChainForm}
use Rattle.sat_chain_script.specs.declared.form.ChainForm.TheVariants as form
use Rattle.sat_chain_script.specs.declared.line.ChainParsed.{ChainParsed}
use Rattle.sat_chain_script.specs.declared.line.ChainParsed.TheVariants as says
use Rattle.sat_chain_script.proofs.LinesSay.{no_form, step_line}

-- ---- the form of an act of a chain is none of the table's

has_is : (g f : ChainForm) (word : List ℕ) (n : ℕ) → has_words g word n ≡ true → g ≡ f → (word ≡ word_of f) × (length (kinds_of f) ≡ n)
has_is g f word n e same =
    let b = and_parts (eqb (length (kinds_of g)) n) (bytes_eq word (word_of g)) e in
    (word_is word (word_of g) b.1 ∙ ap word_of same, sym (ap (λ (h : ChainForm). length (kinds_of h)) same) ∙ eqb-true (length (kinds_of g)) n b.0)

found_is : (word : List ℕ) (n : ℕ) (f : ChainForm) → found word n ≡ Some f → (word ≡ word_of f) × (length (kinds_of f) ≡ n)
found_is word n f h = go (has_words form.Enter word n) (has_words form.Pass word n) (has_words form.Apply word n) (has_words form.Crash word n) refl refl refl refl h
  where
    go : (a b c d : Bool) → has_words form.Enter word n ≡ a → has_words form.Pass word n ≡ b → has_words form.Apply word n ≡ c → has_words form.Crash word n ≡ d
        → cond a (Some form.Enter) (cond b (Some form.Pass) (cond c (Some form.Apply) (cond d (Some form.Crash) None))) ≡ Some f → (word ≡ word_of f) × (length (kinds_of f) ≡ n)
    go true b c d p q r s h = has_is form.Enter f word n p (cc)
    go false true c d p q r s h = has_is form.Pass f word n q (cc)
    go false false true d p q r s h = has_is form.Apply f word n r (cc)
    go false false false true p q r s h = has_is form.Crash f word n s (cc)
    go false false false false p q r s h = absurd (cc)

other_form : (f : ChainForm) → found_form (word_of f) (length (kinds_of f)) act_forms ≡ None
other_form form.Enter = refl
other_form form.Pass = refl
other_form form.Apply = refl
other_form form.Crash = refl

no_plain : (s : State) (line : List ℕ) (words : List (List ℕ)) (f : ChainForm) (a : Act) → s.stage ≡ stage.Body → words_of line ≡ words → chain_form words ≡ Some f → line_at s line ≡ Ok (parsed.Act a) → ⊥
unfolding chain_form
no_plain s line [] f a body are is h = cc
no_plain s line (word ∷ words) f a body are is h =
    let named = found_is word (length words) f is in
    let none : found_form word (length words) act_forms ≡ None = ap (λ (w : List ℕ). found_form w (length words) act_forms) named.0 ∙ sym (ap (λ (n : ℕ). found_form (word_of f) n act_forms) named.1) ∙ other_form f in
    no_act s line word words a body are none h

-- ---- a line that says a plain act, or an act of a chain

pub plain_said : (r : ℕ) (s : State) (line : List ℕ) (a : Act) → s.stage ≡ stage.Body → line_at s line ≡ Ok (parsed.Act a) → chain_line r s line ≡ Ok (says.Plain (parsed.Act a))
plain_said r s line a body h = go (chain_form (words_of line)) refl
  where
    go : (o : Option ChainForm) → chain_form (words_of line) ≡ o → chain_line r s line ≡ Ok (says.Plain (parsed.Act a))
    go None is = no_form r s line body is ∙ ap of_script h
    go (Some f) is = absurd (no_plain s line (words_of line) f a body refl is h)

form_text : (f : ChainForm) → is_text (word_of f) ≡ true
form_text form.Enter = refl
form_text form.Pass = refl
form_text form.Apply = refl
form_text form.Crash = refl

words_say : (r : ℕ) (s : State) (f : ChainForm) (words : List (List ℕ)) (xs : List Said) (a : ChainAct) → full s ≡ None → AreRead s.header (kinds_of f) words xs → said_step r s.header f (Ok xs) ≡ Ok a → step_words r s f words ≡ Ok a
unfolding step_words
words_say r s f words xs a more read says =
    ap (λ (o : Option Cause). said_step r s.header f (kinds_say o s.header (kinds_of f) words)) more
    ∙ ap (said_step r s.header f) (read_says s.header (kinds_of f) words xs read)
    ∙ says

line_form : (words : List (List ℕ)) (word : List ℕ) (behind : List (List ℕ)) (f : ChainForm) → words ≡ word ∷ behind → found word (length behind) ≡ Some f → chain_form words ≡ Some f
unfolding chain_form
line_form words word behind f are named = rw are named

-- no act of a chain is a plain one
step_saying : (r : ℕ) (d : Deployed) (f : ChainForm) (xs : List Said) (a : ChainAct) → said_step r d f (Ok xs) ≡ Ok a → saying a ≡ says.Step a
step_saying r d f xs a h = go (misfit r d (step_of f xs)) h
  where
    own : (g : ChainForm) → saying (step_of g xs) ≡ says.Step (step_of g xs)
    own form.Enter = refl
    own form.Pass = refl
    own form.Apply = refl
    own form.Crash = refl

    go : (o : Option Cause) → barred o (Ok (step_of f xs)) ≡ Ok a → saying a ≡ says.Step a
    go None e = subst (λ (b : ChainAct). saying b ≡ says.Step b) (cc) (own f)
    go (Some cause) e = absurd (cc)

pub step_said : (r : ℕ) (s : State) (line word : List ℕ) (words : List (List ℕ)) (o : Option ChainAct) → TakesActs s → length line ≤ LONGEST_LINE → words_of line ≡ word ∷ words → IfSome o (λ a. SaysStep r s.header word words a)
    → IfSome o (λ a. chain_line r s line ≡ Ok (saying a))
step_said r s line word words None takes short are h = tt
step_said r s line word words (Some a) takes short are h =
    let first : is_text word ≡ true = ap is_text (found_is word (length words) h.form h.named).0 ∙ form_text h.form in
    let text : is_text line ≡ true = own_text line word words (kinds_of h.form) are first h.read.shaped in
    step_line r s line h.form takes.body short text (line_form (words_of line) word words h.form are h.named)
    ∙ ap (λ (ws : List (List ℕ)). of_step (step_words r s h.form (words_after ws))) are
    ∙ ap of_step (words_say r s h.form words h.said a takes.more h.read h.says)
    ∙ sym (ap (λ (p : ChainParsed). let done : Result ChainParsed Cause = Ok p in done) (step_saying r s.header h.form h.said a h.says))

-- ---- the act that words say

pub pass_said : (r : ℕ) (d : Deployed) (e z k m : ℕ) → Some m ≡ cond (ltb k r) (Some k) None → said_step r d form.Pass (Ok (place e ∷ place z ∷ num k ∷ [])) ≡ Ok (chain.Pass e z m)
pass_said r d e z k m h = go (ltb k r) h
  where
    go : (b : Bool) → Some m ≡ cond b (Some k) None → barred (cond b None (Some OutOfRange)) (Ok (chain.Pass e z k)) ≡ Ok (chain.Pass e z m)
    go true h = cc
    go false h = absurd (cc)
