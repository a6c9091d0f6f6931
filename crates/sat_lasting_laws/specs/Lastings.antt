-- Histories with stops, the newest entry first: which of their acts are kept, and which cut waits at each site.
use Rattle.std.specs.Prelude.{ℕ, Bool, false, ◌&&◌, ◌==◌, List, [], ◌∷◌, Option, Some, None, if◌then◌else◌}
use Rattle.sat_act.specs.declared.act.Act.{Act}
use Rattle.sat_act.specs.declared.answer.Answer.{Answer}
use Rattle.sat_act.specs.declared.entry.Entry.{Entry}
use Rattle.sat_act.specs.Deployed.{Deployed}
use Rattle.sat_lasting_laws.specs.declared.lasting_act.LastingAct.{LastingAct}
use Rattle.sat_lasting_laws.specs.declared.lasting_act.LastingAct.TheVariants as lasting
use Rattle.sat_lasting_laws.specs.declared.lasting_act.TheConstants.{MOST_CALLS}
use Rattle.sat_lasting_laws.specs.declared.lasting_answer.LastingAnswer.{LastingAnswer}
use Rattle.sat_lasting_laws.specs.declared.lasting_answer.LastingAnswer.TheVariants as says
use Rattle.sat_lasting_laws.specs.Reached.{site_at, is_at}

-- an act, and what came of it
pub record LastingEntry : Type 0 where
  pub act : LastingAct
  pub answer : LastingAnswer

abbrev pub plain_entry : Act → Answer → Entry
plain_entry a answer = record { act = a; answer = answer; inner = false }

-- a plain act with what it answered is kept, but for one that was cut off and left no input
abbrev pub kept_act : Act → LastingAnswer → Option Entry
kept_act a (says.Plain answer) = Some (plain_entry a answer)
kept_act a (says.Stopped answer) = Some (plain_entry a answer)
kept_act a _ = None

abbrev pub kept_entry : LastingAct → LastingAnswer → Option Entry
kept_entry (lasting.Plain a) answer = kept_act a answer
kept_entry _ answer = None

-- with one entry more, if there is one
abbrev pub with_entry : Option Entry → List Entry → List Entry
with_entry None h = h
with_entry (Some entry) h = entry ∷ h

-- the history of the kept acts
unfoldable pub kept : List LastingEntry → List Entry
kept [] = []
kept (x ∷ c) = with_entry (kept_entry x.act x.answer) (kept c)

-- a cut: so many calls of the disk pass, and the next one fails; and whether what wasn't synced is still there
-- afterwards
pub record Cut : Type 0 where
  pub calls : ℕ
  pub keep : Bool

-- An input is on the disk only where all but its last sync was done, and what wasn't synced is still there.
abbrev pub keeps_input : Cut → Bool
keeps_input cut = (cut.calls == MOST_CALLS) && cut.keep

-- the cut that waits at site i after an act, by the one before it. A plain act at the site uses it up, a stop takes it
-- away, and another cut takes its place
abbrev pub armed_after : Deployed → List Entry → ℕ → LastingAct → Option Cut → Option Cut
armed_after d h i (lasting.Plain a) cut = if is_at d h a i then None else cut
armed_after d h i (lasting.Stop k) cut = if k == i then None else cut
armed_after d h i (lasting.Cut k calls keep) cut = if k == i then Some (record { calls = calls; keep = keep }) else cut

-- the cut that waits at site i, if one does
unfoldable pub armed : Deployed → List LastingEntry → ℕ → Option Cut
unfolding kept site_at
armed d [] i = None
armed d (x ∷ c) i = armed_after d (kept c) i x.act (armed d c i)

-- that of the site that an act reaches, if it reaches one
abbrev pub cut_there : (ℕ → Option Cut) → Option ℕ → Option Cut
cut_there cuts None = None
cut_there cuts (Some i) = cuts i

-- the cut that falls into an act
unfoldable pub cut_into : Deployed → List LastingEntry → Act → Option Cut
unfolding armed kept site_at
cut_into d c a = cut_there (armed d c) (site_at d (kept c) a)
