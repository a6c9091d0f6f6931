-- How a session stands in its acts while they are done.
use Rattle.std.specs.Prelude.{◌≡◌, ℕ, ◌⊎◌, Bool, true, false, List, [], ◌∷◌, ◌++◌, length, take, drop, Option, Some}
use Rattle.std.specs.Prelude.{None, IfSome, Result, Ok, Err}
use Rattle.std.specs.List.{AllByRecursion}
use Rattle.sat_act.specs.declared.act.Act.{Act}
use Rattle.sat_act.specs.declared.entry.Entry.{Entry}
use Rattle.sat_act.specs.Deployed.{Deployed}
use Rattle.sat_act.specs.Ranges.{IsActOf}
use Rattle.sat_node.specs.declared.kept.CallFault.{CallFault}
use Rattle.sat_session.specs.Calls.{IsFault}
use Rattle.sat_session.specs.Notes.{SessionSeen}
use Rattle.sat_undone.specs.declared.tries.TheConstants.{MOST_TRIES}
use Rattle.sat_undone.specs.Undone.{AreInTurn, DoesAll, DoesFront, acts_behind, no_tally, tally_from, waits}
use Rattle.sat_crew.specs.Crews.{entries_in, own_acts}

-- acts, and behind them one that is tried, if any
abbrev pub with_tried : List Act → Option Act → List Act
with_tried acts None = acts
with_tried acts (Some a) = acts ++ a ∷ []

-- by these entries these acts were done, and behind them stand so many attaches in a row that had to wait, the last of
-- which is this: whatever comes behind the entries is read so. Each entry is of the act that came next
pub record Stood (done : List Act) (n : ℕ) (o : Option Act) (es : List Entry) : Type 0 where
  pub reads : (more : List Entry) → acts_behind 0 None (es ++ more) ≡ done ++ acts_behind n o more
  pub count : (tally_from no_tally es).done ≡ length done
  pub tries : (tally_from no_tally es).tries ≡ n
  pub in_turn : AreInTurn no_tally (with_tried done o) es

-- there is one entry more, of this act; whether it has to wait
pub record OneMore (a : Act) (b : Bool) (old new : List Entry) : Type 0 where
  pub entry : Entry
  pub act : entry.act ≡ a
  pub waiting : waits entry ≡ b
  pub more : new ≡ old ++ entry ∷ []

-- a try: the act has to wait, or it was done; or a call failed, of the act or of the passes behind an entry that has to
-- wait
abbrev pub Tried : Act → Result Bool CallFault → List Entry → List Entry → Type 0
Tried a (Ok b) old new = OneMore a b old new
Tried a (Err f) old new = IsFault f × ((new ≡ old) ⊎ OneMore a true old new)

-- tries of one act in a row, behind these acts: it was done; its client gave up, behind the most of them; or a call
-- failed
abbrev pub Came : List Act → Act → Result Bool CallFault → List Entry → Type 0
Came done a (Ok true) es = Stood (done ++ a ∷ []) 0 None es
Came done a (Ok false) es = Stood done MOST_TRIES (Some a) es
Came done a (Err f) es = IsFault f × ((n : ℕ) × (o : Option Act) × IfSome o (λ b. b ≡ a) × Stood done n o es)

-- while one act is tried: so many tries had to wait
pub record Trying (done : List Act) (a : Act) (n : ℕ) (es : List Entry) : Type 0 where
  pub last : Option Act
  pub is_act : IfSome last (λ b. b ≡ a)
  pub some : (n ≡ 0 → ⊥) → last ≡ Some a
  pub stood : Stood done n last es

-- what a session did of its acts: all of them, or a front at whose end its client gave up; where a call failed, a front
abbrev pub Worked : List Act → Option CallFault → List Entry → Type 0
Worked acts None es = DoesAll acts es
Worked acts (Some f) es = IsFault f × DoesFront acts es

-- while a session goes through a script: the acts before this place are done
pub record Serving (d : Deployed) (acts : List Act) (i : ℕ) (x y : SessionSeen) : Type 0 where
  pub same : y.number ≡ x.number
  pub known : AllByRecursion (IsActOf d) (drop i acts)
  pub stood : x.noted ≡ [] → Stood (own_acts d (take i acts) x) 0 None (entries_in y)
