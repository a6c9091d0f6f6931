-- A site's journal: what it was handed and what it answered, the newest first.
use Rattle.std.specs.Prelude.{◌≡◌, ℕ, List, [], ◌∷◌, ◌++◌, Option, Some, None}
use Rattle.sat_act.specs.declared.answer.Answer.{Answer}
use Rattle.sat_act.specs.declared.entry.Entry.{Entry}
use Rattle.sat_act.specs.Deployed.{Deployed}
use Rattle.sat_model.specs.State.{SiteState, fresh_site}
use Rattle.sat_model.specs.Input.{SiteInput}
use Rattle.sat_model.specs.Next.{site_next}
use Rattle.sat_model.specs.Reply.{site_answer}
use Rattle.sat_model.specs.Replay.{handed}

-- one line of a journal
pub record Noted : Type 0 where
  pub input : SiteInput
  pub answer : Answer

-- what a site notes of an entry, which handed it this, or nothing
unfoldable pub noted : Option SiteInput → Answer → List Noted
noted None answer = []
noted (Some input) answer = record { input = input; answer = answer } ∷ []

-- the journal of site i in a history
unfoldable pub journal : Deployed → List Entry → ℕ → List Noted
unfolding noted handed
journal d [] i = []
journal d (entry ∷ h) i = noted (handed d h entry.act i) entry.answer ++ journal d h i

-- the state of a site after the lines of a journal
unfoldable pub replay : Deployed → ℕ → List Noted → SiteState
unfolding site_next
replay d i [] = fresh_site i
replay d i (n ∷ ns) = site_next d i (replay d i ns) n.input n.answer

-- a journal of site i: each answer in it is the one that the machine gives there
unfoldable pub IsJournal : Deployed → ℕ → List Noted → Type 0
unfolding replay site_answer
IsJournal d i [] = Unit {0}
IsJournal d i (n ∷ ns) = IsJournal d i ns × (n.answer ≡ site_answer d i (replay d i ns) n.input)
