-- What is made of a text, where it is given how an act is entered, how its answer is told, a fault, and what stands at
-- the end.
use Rattle.std.specs.Prelude.{ℕ, ◌+◌, Bool, true, false, List, [], ◌∷◌, ◌++◌, length, Option, Some, None, Ok, Err}
use Rattle.std.specs.Fmt.{decimal}
use Rattle.std.specs.List.{slice_split}
use Rattle.sat_act.specs.Deployed.{Deployed}
use Rattle.sat_follow.specs.Meaning.{Meaning}
use Rattle.sat_own_acts.specs.OwnActs.{OwnActs}
use Rattle.sat_own_acts.specs.Lines.{own_line, own_after}
use Rattle.sat_own_acts.specs.Histories.{Entering, history_of}
use Rattle.sat_own_acts.specs.Readings.{OwnReading, own_reading}
use Rattle.sat_script.specs.Grammar.{close_at}
use Rattle.sat_script.specs.State.{State, start}
use Rattle.sat_script.specs.Words.{is_newline}
use Rattle.sat_script.specs.declared.fault.Cause.{Cause}
use Rattle.sat_script.specs.declared.fault.Cause.TheVariants.{NoEnd}
use Rattle.sat_script.specs.declared.fault.ScriptFault.{ScriptFault}

-- an act's entry, the texts of its answer and of a fault, and of what stands behind the answers of a history
pub record Telling (A E : Type 0) : Type 0 where
  pub entry : Entering A E
  pub answer : Deployed → E → List ℕ
  pub fault : ScriptFault → List ℕ
  pub holdings : Deployed → List E → List ℕ

-- the line of an answer with its number
abbrev pub numbered : ℕ → List ℕ → List ℕ
numbered n text = decimal n ++ 32 ∷ (text ++ 10 ∷ [])

-- the answers of a history, numbered from 1. Its newest entry stands first, and is printed last
unfoldable pub answers_of : {A E : Type 0} → Telling A E → Deployed → List E → List ℕ
answers_of tell d [] = []
answers_of tell d (x ∷ c) = answers_of tell d c ++ numbered (length c + 1) (tell.answer d x)

-- the answers of the acts that a text's lines say, before its first bad line; where there is no deployment there are
-- none
abbrev pub told_under : {A E : Type 0} → Telling A E → Option Deployed → List A → List ℕ
told_under tell None acts = []
told_under tell (Some d) acts = answers_of tell d (history_of tell.entry d acts)

-- what stands behind the answers: what the sites hold in the end, or the fault's line in its place
abbrev pub end_under : {A E : Type 0} → Telling A E → Option Deployed → List A → Option ScriptFault → List ℕ
end_under tell o acts (Some fault) = tell.fault fault
end_under tell None acts None = []
end_under tell (Some d) acts None = tell.holdings d (history_of tell.entry d acts)

unfoldable pub told_of : {A E : Type 0} → Telling A E → OwnReading A → List ℕ
unfolding answers_of history_of
told_of tell x = told_under tell x.deployment x.acts

-- the whole output. Where the header is bad, it is the fault's line alone
unfoldable pub text_of : {A E : Type 0} → Telling A E → OwnReading A → List ℕ
unfolding told_of history_of
text_of tell x = told_of tell x ++ end_under tell x.deployment x.acts x.fault

abbrev pub status_of : Option ScriptFault → ℕ
status_of None = 0
status_of (Some fault) = 1

-- whether a text that ends so lacks nothing but its end, if that
abbrev pub may_go_on : Option Cause → Bool
may_go_on None = true
may_go_on (Some NoEnd) = true
may_go_on _ = false

-- whether none of these lines is bad; the last part has no byte 10 after it, and may be the beginning of a good line
unfoldable pub good_from : {A : Type 0} → OwnActs A → State → List (List ℕ) → Bool
unfolding own_line
good_from these s [] = may_go_on (close_at s [])
good_from these s (rest ∷ []) = may_go_on (close_at s rest)
good_from these s (line ∷ part ∷ parts) =
    elim (own_line these s line) [ Err cause ↦ false | Ok p ↦ good_from these (own_after s p) (part ∷ parts) ]

unfoldable pub is_good : {A : Type 0} → OwnActs A → List ℕ → Bool
unfolding good_from
is_good these text = good_from these (start these.dialect) (slice_split is_newline text)

-- no text has more bytes without a bad line: 205,200 lines, each of 4,096 bytes and the byte 10, and the beginning of
-- one more
abbrev pub MOST_OWN_BYTES : ℕ
MOST_OWN_BYTES = 840704400 + 4096

-- what is made of a text, as a follower has it
abbrev pub own_meaning : {A E : Type 0} → OwnActs A → Telling A E → Meaning
own_meaning these tell = record {
  good = λ text. is_good these text;
  answers = λ text. told_of tell (own_reading these text);
  output = λ text. text_of tell (own_reading these text);
  status = λ text. status_of (own_reading these text).fault;
  most = MOST_OWN_BYTES;
}
