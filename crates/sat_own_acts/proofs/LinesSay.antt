-- What a line says by its stage and its bytes.
use Rattle.std.proofs.Common.{◌≡◌, ℕ, ◌<◌, ◌≤◌, true, false, ltb, List, length, Option, Some, None, Result, Err, ap, ◌∙◌, refl, arith}
use Rattle.std.proofs.lemmas.Bool.Decides.{nat_tests}
use Rattle.sat_script.specs.Grammar.{line_at, is_ended}
use Rattle.sat_script.specs.State.{State}
use Rattle.sat_script.specs.Words.{is_text, words_of}
use Rattle.sat_script.specs.declared.fault.Cause.{Cause}
use Rattle.sat_script.specs.declared.fault.Cause.TheVariants.{LongLine, NotText}
use Rattle.sat_script.specs.declared.limits.TheConstants.{LONGEST_LINE}
use Rattle.sat_script.specs.declared.line.Stage.{Stage}
use Rattle.sat_script.specs.declared.line.Stage.TheVariants as stage
use Rattle.sat_own_acts.specs.OwnActs.{OwnActs}
use Rattle.sat_own_acts.specs.Lines.{of_script, of_own, in_body, line_as, own_line}

none_outside : {A : Type 0} (here : Stage) (said : Option (Result A Cause)) → (here ≡ stage.Body → ⊥) → in_body here said ≡ None
none_outside stage.Body said other = absurd (other refl)
none_outside stage.Start said other = refl
none_outside stage.Sites said other = refl
none_outside stage.Gears said other = refl
none_outside stage.Header said other = refl
none_outside stage.Ended said other = refl

pub outside_body : {A : Type 0} (these : OwnActs A) (s : State) (line : List ℕ) → (s.stage ≡ stage.Body → ⊥) → own_line these s line ≡ of_script (line_at s line)
unfolding own_line
outside_body these s line other = ap (line_as s line) (none_outside s.stage (these.own s (words_of line)) other)

said_inside : {A : Type 0} (these : OwnActs A) (s : State) (line : List ℕ) → s.stage ≡ stage.Body → in_body s.stage (these.own s (words_of line)) ≡ these.own s (words_of line)
said_inside these s line body = ap (λ (here : Stage). in_body here (these.own s (words_of line))) body

pub no_own : {A : Type 0} (these : OwnActs A) (s : State) (line : List ℕ) → s.stage ≡ stage.Body → these.own s (words_of line) ≡ None → own_line these s line ≡ of_script (line_at s line)
unfolding own_line
no_own these s line body none = ap (line_as s line) (said_inside these s line body ∙ none)

-- ---- a line that is too long, or no text

script_long : (s : State) (line : List ℕ) → s.stage ≡ stage.Body → ltb LONGEST_LINE (length line) ≡ true → line_at s line ≡ Err LongLine
unfolding line_at
script_long s line body long = let ended : is_ended s.stage ≡ false = ap is_ended body in rw (ended, long) refl

script_not_text : (s : State) (line : List ℕ) → s.stage ≡ stage.Body → ltb LONGEST_LINE (length line) ≡ false → is_text line ≡ false → line_at s line ≡ Err NotText
unfolding line_at
script_not_text s line body short other = let ended : is_ended s.stage ≡ false = ap is_ended body in rw (ended, short, other) refl

as_long : {A : Type 0} (s : State) (line : List ℕ) (said : Option (Result A Cause)) → s.stage ≡ stage.Body → ltb LONGEST_LINE (length line) ≡ true → line_as s line said ≡ Err LongLine
as_long s line None body long = ap of_script (script_long s line body long)
as_long s line (Some said) body long = rw long refl

pub too_long : {A : Type 0} (these : OwnActs A) (s : State) (line : List ℕ) → s.stage ≡ stage.Body → LONGEST_LINE < length line → own_line these s line ≡ Err LongLine
unfolding own_line
too_long these s line body long = let test : ltb LONGEST_LINE (length line) ≡ true = grind (arith, nat_tests, long) in as_long s line (in_body s.stage (these.own s (words_of line))) body test

as_not_text : {A : Type 0} (s : State) (line : List ℕ) (said : Option (Result A Cause)) → s.stage ≡ stage.Body → ltb LONGEST_LINE (length line) ≡ false → is_text line ≡ false → line_as s line said ≡ Err NotText
as_not_text s line None body short other = ap of_script (script_not_text s line body short other)
as_not_text s line (Some said) body short other = rw (short, other) refl

pub not_text : {A : Type 0} (these : OwnActs A) (s : State) (line : List ℕ) → s.stage ≡ stage.Body → length line ≤ LONGEST_LINE → is_text line ≡ false → own_line these s line ≡ Err NotText
unfolding own_line
not_text these s line body short other =
    let test : ltb LONGEST_LINE (length line) ≡ false = grind (arith, nat_tests, short) in as_not_text s line (in_body s.stage (these.own s (words_of line))) body test other

-- ---- an act of the command's own

pub own_is : {A : Type 0} (these : OwnActs A) (s : State) (line : List ℕ) (said : Result A Cause) → s.stage ≡ stage.Body → length line ≤ LONGEST_LINE → is_text line ≡ true → these.own s (words_of line) ≡ Some said → own_line these s line ≡ of_own said
unfolding own_line
own_is these s line said body short text is =
    let test : ltb LONGEST_LINE (length line) ≡ false = grind (arith, nat_tests, short) in
    ap (line_as s line) (said_inside these s line body ∙ is) ∙ rw (test, text) refl
