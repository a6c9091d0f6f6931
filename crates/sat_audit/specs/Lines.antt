-- The lines of a history, each by what the lines before it say.
use Rattle.std.specs.Prelude.{ℕ, zero, suc, List, [], ◌∷◌, ◌++◌, Bool, false, ◌&&◌, not, nat_lt, length, take, drop}
use Rattle.std.specs.Prelude.{Option, Some, None, Result, Ok, Err, if◌then◌else◌}
use Rattle.std.specs.List.{list_any}
use Rattle.sat_label.specs.Order.{point_eq}
use Rattle.sat_label.specs.declared.point.Point.{Point}
use Rattle.sat_act.specs.declared.act.Act.{Act}
use Rattle.sat_script.specs.Causes.{needs, refused, given, bar}
use Rattle.sat_script.specs.Dialect.{allows}
use Rattle.sat_script.specs.Grammar.{is_end, line_at, after}
use Rattle.sat_script.specs.State.{State, start}
use Rattle.sat_script.specs.Table.{act_forms, act_line, found_form, kinds_of, shapes}
use Rattle.sat_script.specs.Words.{is_text, words_of}
use Rattle.sat_script.specs.declared.dialect.Dialect.TheVariants as dialect
use Rattle.sat_script.specs.declared.fault.Cause.{Cause}
use Rattle.sat_script.specs.declared.fault.Cause.TheVariants.{LongLine, NotText, BadAnswer, SamePoint}
use Rattle.sat_script.specs.declared.form.Form.{Form}
use Rattle.sat_script.specs.declared.limits.TheConstants.{LONGEST_LINE}
use Rattle.sat_script.specs.declared.line.Parsed.{Parsed}
use Rattle.sat_script.specs.declared.line.Parsed.TheVariants as parsed
use Rattle.sat_script.specs.declared.line.Stage.{Stage}
use Rattle.sat_script.specs.declared.line.Stage.TheVariants as stage
use Rattle.sat_audit.specs.Told.{answered, made_in}
use Rattle.sat_audit.specs.declared.heard.Heard.{Heard}
use Rattle.sat_audit.specs.declared.told.Told.{Told}

-- ---- the words of the act

-- the words behind the first have the shapes of a form, which the format allows
abbrev pub fits_form : ℕ → Option Form → List (List ℕ) → Bool
fits_form format None words = false
fits_form format (Some f) words = allows format f && shapes (kinds_of f) words

-- the words have a form
abbrev pub has_form : ℕ → List (List ℕ) → Bool
has_form format [] = false
has_form format (word ∷ words) = fits_form format (found_form word (length words) act_forms) words

-- the most of the first words, up to so many, that have a form; 0 where none have
unfoldable pub most_with_form : ℕ → List (List ℕ) → ℕ → ℕ
most_with_form format words zero = 0
most_with_form format words (suc n) =
    if has_form format (take (suc n) words) then suc n else most_with_form format words n

-- how many of the first words are the act: the most that have a form
abbrev pub act_words_of : ℕ → List (List ℕ) → ℕ
act_words_of format words = most_with_form format words (length words)

-- ---- a line

-- what the lines so far say as those of a script, and what was heard, the oldest first
pub record Hearing : Type 0 where
  pub script : State
  pub heard : List Heard

-- before the first line
abbrev pub no_lines : Hearing
no_lines = record { script = start dialect.Audit; heard = [] }

-- an entry made the point
abbrev pub makes : Heard → Point → Bool
makes e p = elim (made_in e.told) [ None ↦ false | Some made ↦ point_eq made p ]

-- one of the entries made the point
abbrev pub was_made : List Heard → Point → Bool
was_made heard p = list_any (λ e. makes e p) heard

-- what is told makes a point again
abbrev pub makes_again : List Heard → Told → Bool
makes_again heard told = elim (made_in told) [ None ↦ false | Some p ↦ was_made heard p ]

-- one entry more
abbrev pub with_heard : Hearing → Act → Told → Hearing
with_heard h a told =
    record { script = after h.script (parsed.Act a); heard = h.heard ++ record { act = a; told = told } ∷ [] }

-- what the words behind an act tell, or their cause
unfoldable pub told_at : Hearing → Act → List (List ℕ) → Result Told Cause
unfolding answered
told_at h a words =
    given BadAnswer (answered h.script.header a words) (λ told. refused SamePoint (makes_again h.heard told) (Ok told))

-- one entry more, of what was told
abbrev pub of_told : Hearing → Act → Result Told Cause → Result Hearing Cause
of_told h a (Ok told) = Ok (with_heard h a told)
of_told h a (Err cause) = Err cause

-- the causes of an act and its answer, in their order: those of the act, and then those of the answer
abbrev pub heard_as : Hearing → Result Act Cause → List (List ℕ) → Result Hearing Cause
heard_as h (Err cause) words = Err cause
heard_as h (Ok a) words = of_told h a (told_at h a words)

-- an act and its answer, where the first so many words are the act
unfoldable pub heard_at : Hearing → List (List ℕ) → ℕ → Result Hearing Cause
unfolding bar act_line told_at
heard_at h words n = heard_as h (act_line (bar h.script) h.script.header (take n words)) (drop n words)

-- the same, by the words
unfoldable pub heard_line : Hearing → List (List ℕ) → Result Hearing Cause
unfolding heard_at most_with_form
heard_line h words = heard_at h words (act_words_of h.script.header.format words)

-- a line of the body that isn't `end` is that of an act
abbrev pub is_of_act : Stage → List (List ℕ) → Bool
is_of_act stage.Body words = not (is_end words)
is_of_act _ words = false

-- a line that scripts have too
abbrev pub as_script : Hearing → Result Parsed Cause → Result Hearing Cause
as_script h (Ok p) = Ok (record { script = after h.script p; heard = h.heard })
as_script h (Err cause) = Err cause

-- what the lines say with a line more, without its byte 10, or why it is refused
unfoldable pub history_line : Hearing → List ℕ → Result Hearing Cause
unfolding heard_line line_at
history_line h line =
    if is_of_act h.script.stage (words_of line)
    then refused LongLine (nat_lt LONGEST_LINE (length line))
    (needs NotText (is_text line) (heard_line h (words_of line)))
    else as_script h (line_at h.script line)
