-- What a history prints.
use Rattle.std.specs.Prelude.{true, false, List, Option, Some, None}
use Rattle.sat_act.specs.declared.answer.Answer.{Answer}
use Rattle.sat_act.specs.declared.entry.Entry.{Entry}
use Rattle.sat_act.specs.Histories.{listed}

-- the answer that an entry prints: none where it is inner
abbrev pub printed_entry : List Entry → Entry → Option Answer
printed_entry before entry = elim entry.inner [ true ↦ None | false ↦ Some entry.answer ]

-- what is printed: the answers of the entries that are not inner, in order
unfoldable pub printed : List Entry → List Answer
unfolding listed
printed h = listed printed_entry h
