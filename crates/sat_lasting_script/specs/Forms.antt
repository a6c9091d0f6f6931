-- The lines of stops and cuts as one table: the word that an act begins with, the kinds of the words after it, and the
-- act that they say.
use Rattle.std.specs.Prelude.{ℕ, List, [], ◌∷◌, Bool, ◌&&◌, ◌==◌, nat_lt, length, drop, Option, Some, None, Result, Ok}
use Rattle.std.specs.Prelude.{Err, codes, if◌then◌else◌}
use Rattle.std.specs.Str.{bytes_eq}
use Rattle.sat_lasting_laws.specs.declared.lasting_act.LastingAct.{LastingAct}
use Rattle.sat_lasting_laws.specs.declared.lasting_act.LastingAct.TheVariants as lasting
use Rattle.sat_lasting_laws.specs.declared.lasting_act.TheConstants.{MOST_CALLS}
use Rattle.sat_lasting_script.specs.declared.form.LastingForm.{LastingForm}
use Rattle.sat_lasting_script.specs.declared.form.LastingForm.TheVariants as form
use Rattle.sat_own_acts.specs.OwnActs.{OwnActs}
use Rattle.sat_script.specs.Causes.{barred, full}
use Rattle.sat_script.specs.State.{State}
use Rattle.sat_script.specs.Table.{Said, place_at, num_at, kinds_say}
use Rattle.sat_script.specs.declared.dialect.Dialect.TheVariants.{Lasting}
use Rattle.sat_script.specs.declared.fault.Cause.{Cause}
use Rattle.sat_script.specs.declared.fault.Cause.TheVariants.{OutOfRange}
use Rattle.sat_script.specs.declared.form.Kind.{Kind}
use Rattle.sat_script.specs.declared.form.Kind.TheVariants as kind

-- the word that the acts of a form begin with
abbrev pub word_of : LastingForm → List ℕ
word_of form.Stop = codes "stop"
word_of form.Cut = codes "cut"

-- what the words after it stand for: a site; how many calls of its disk pass, and whether what wasn't synced stays, as
-- 1 or 0
abbrev pub kinds_of : LastingForm → List Kind
kinds_of form.Stop = kind.Site ∷ []
kinds_of form.Cut = kind.Site ∷ kind.Count ∷ kind.Count ∷ []

-- whether an act of a form begins with this word and has so many more
abbrev pub has_words : LastingForm → List ℕ → ℕ → Bool
has_words f word n = (length (kinds_of f) == n) && bytes_eq word (word_of f)

-- the form with this word and so many more, if there is one
abbrev pub found : List ℕ → ℕ → Option LastingForm
found word n =
    if has_words form.Stop word n then Some form.Stop else
    if has_words form.Cut word n then Some form.Cut else
    None

-- the form of the stop or cut that words make, by the first of them and how many follow
unfoldable pub lasting_form : List (List ℕ) → Option LastingForm
lasting_form [] = None
lasting_form (word ∷ words) = found word (length words)

-- the act that the words say
abbrev pub step_of : LastingForm → List Said → LastingAct
step_of form.Stop xs = lasting.Stop (place_at xs 0)
step_of form.Cut xs = lasting.Cut (place_at xs 0) (num_at xs 1) (num_at xs 2 == 1)

-- a number above the greatest that may stand there
abbrev pub above : ℕ → ℕ → Option Cause → Option Cause
above most n other = if nat_lt most n then Some OutOfRange else other

-- the numbers of a cut are out of their ranges
abbrev pub misfit : LastingForm → List Said → Option Cause
misfit form.Stop xs = None
misfit form.Cut xs = above MOST_CALLS (num_at xs 1) (above 1 (num_at xs 2) None)

-- the act that the words say, unless a number is out of its range
abbrev pub said_step : LastingForm → Result (List Said) Cause → Result LastingAct Cause
said_step f (Err cause) = Err cause
said_step f (Ok xs) = barred (misfit f xs) (Ok (step_of f xs))

-- the words after the first of a stop or cut: the causes are those of a plain act with such words, in their order, and
-- then that of a number out of its range
unfoldable pub step_words : State → LastingForm → List (List ℕ) → Result LastingAct Cause
step_words s f words = said_step f (kinds_say (full s) s.header (kinds_of f) words)

-- what words say by their form, where they have one
abbrev pub step_by : State → List (List ℕ) → Option LastingForm → Option (Result LastingAct Cause)
step_by s words None = None
step_by s words (Some f) = Some (step_words s f (drop 1 words))

unfoldable pub words_say : State → List (List ℕ) → Option (Result LastingAct Cause)
unfolding lasting_form step_words
words_say s words = step_by s words (lasting_form words)

-- the acts of scripts for sites that last
abbrev pub lasting_acts : OwnActs LastingAct
lasting_acts = record { dialect = Lasting; own = words_say; plain = lasting.Plain }
