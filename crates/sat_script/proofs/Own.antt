-- Acts that another reader has beside those of the table.
use Rattle.std.proofs.Common.{◌≡◌, ℕ, Bool, true, false, cond, ltb, List, ◌∷◌, length, None, Ok, Err, ap, ◌∙◌, refl}
use Rattle.std.proofs.lemmas.Bool.{and_from}
use Rattle.std.specs.List.{list_all}
use Rattle.sat_act.specs.Deployed.{Deployed}
use Rattle.sat_act.specs.declared.act.Act.{Act}
use Rattle.sat_script.specs.Causes.{needs, refused}
use Rattle.sat_script.specs.Grammar.{line_at, words_line, body_line, is_end}
use Rattle.sat_script.specs.Said.{AreRead}
use Rattle.sat_script.specs.State.{State}
use Rattle.sat_script.specs.Table.{Said, act_forms, act_line, found_form, kinds_say, shapes}
use Rattle.sat_script.specs.Words.{is_text, words_of}
use Rattle.sat_script.specs.declared.fault.Cause.TheVariants.{AfterEnd, BadAct, LongLine, NotText}
use Rattle.sat_script.specs.declared.form.Kind.{Kind}
use Rattle.sat_script.specs.declared.limits.TheConstants.{LONGEST_LINE}
use Rattle.sat_script.specs.declared.line.Parsed.TheVariants as parsed
use Rattle.sat_script.specs.declared.line.Stage.TheVariants as stage
use Rattle.sat_script.proofs.AreText.{shapes_text, words_text}

-- words that are read say what they say, where more acts may come
pub read_says : (d : Deployed) (kinds : List Kind) (words : List (List ℕ)) (xs : List Said) → AreRead d kinds words xs → kinds_say None d kinds words ≡ Ok xs
unfolding kinds_say
read_says d kinds words xs r = rw (r.shaped, r.named, r.said) refl

-- a line of a word that is text, and words of their shapes
pub own_text : (line word : List ℕ) (words : List (List ℕ)) (kinds : List Kind) → words_of line ≡ word ∷ words → is_text word ≡ true → shapes kinds words ≡ true → is_text line ≡ true
own_text line word words kinds are first shaped = words_text line (ap (list_all is_text) are ∙ and_from (is_text word) (list_all is_text words) first (shapes_text kinds words shaped))

-- a line whose word has no form says no act
pub no_act : (s : State) (line word : List ℕ) (words : List (List ℕ)) (a : Act) → s.stage ≡ stage.Body → words_of line ≡ word ∷ words → found_form word (length words) act_forms ≡ None → line_at s line ≡ Ok (parsed.Act a) → ⊥
unfolding line_at words_line body_line act_line
no_act s line word words a body are none h = go (ltb LONGEST_LINE (length line)) (is_text line) (is_end (word ∷ words)) (rw (body, are, none) at h)
  where
    go : (l t e : Bool) → refused AfterEnd false (refused LongLine l (needs NotText t (cond e (Ok parsed.End) (Err BadAct)))) ≡ Ok (parsed.Act a) → ⊥
    go true t e h = cc
    go false false e h = cc
    go false true true h = cc
    go false true false h = cc
