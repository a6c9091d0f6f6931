-- What a command makes of the whole text of a source, and what it leaves.
use Rattle.std.specs.Prelude.{ℕ, ◌≡◌, ◌≤◌, ◌||◌, ◌==◌, nat_le, Bool, true, false, List, [], ◌∷◌, ◌++◌, Option, Some}
use Rattle.std.specs.Prelude.{None, IsSome, Result, Ok, Err, codes}
use Rattle.sat_outside.specs.Streams.{Told, Takes}
use Rattle.sat_follow.specs.Following.{IsTextOf}
use Rattle.sat_act.specs.declared.act.Act.{Act}
use Rattle.sat_act.specs.Deployed.{Deployed}
use Rattle.sat_stream.specs.Reading.{reading}
use Rattle.sat_script.specs.declared.fault.ScriptFault.{ScriptFault}
use Rattle.sat_script.specs.Spelled.{Spells}
use Rattle.sat_report.specs.Holdings.{report}
use Rattle.sat_chain_script.specs.Laws.{IsGoodChainText}
use Rattle.sat_chain_script.specs.Readings.{chain_reading}
use Rattle.sat_chain_runs.specs.ChainTexts.{chain_status, chain_text}
use Rattle.sat_lasting_script.specs.Laws.{IsGoodLastingText, lasting_reading}
use Rattle.sat_lasting_runs.specs.LastingTexts.{lasting_status, lasting_text}
use Rattle.sat_delay.specs.declared.fault.DelayFault.{DelayFault}
use Rattle.sat_delay.specs.Table.{DelayTable}
use Rattle.sat_delay.specs.Reading.{reading as delays_in}
use Rattle.sat_delay.specs.Texts.{fault_text as delay_fault_text}
use Rattle.sat_plan.specs.Config.{delayed}
use Rattle.sat_plan.specs.Mismatch.{mismatch}
use Rattle.sat_plan.specs.Steps.{built}
use Rattle.sat_plan.specs.Texts.{config_text, plan_text}
use Rattle.sat_top.specs.declared.words.Command.{Command}
use Rattle.sat_top.specs.declared.words.Command.TheVariants.{Run, Draw, Plan, Place, Audit, Chain, Durable, Load, Help}
use Rattle.sat_top.specs.declared.words.Command.TheVariants.{Version}
use Rattle.sat_place.specs.Placing.{IsLeast, worth}
use Rattle.sat_place.specs.Search.{least_places}
use Rattle.sat_place.specs.Shape.{Shape, shape_reading}
use Rattle.sat_place.specs.Texts.{least_text, place_text, shape_fault_text}
use Rattle.sat_draw.specs.Drawing.{drawing}
use Rattle.sat_draw.specs.Laws.{EachIsDrawnOnce, WaysAreTold}
use Rattle.sat_draw.specs.Seats.{PathsAreAtSeats}
use Rattle.sat_draw.specs.Moved.{SmallsAreTold}
use Rattle.sat_report.specs.Faults.{fault_line}
use Rattle.sat_top.specs.Drawing.{draw_text, told_history, told_moves, IsGoodDrawing}
use Rattle.sat_top.specs.Loading.{load_text, HasLoaded, IsGoodLoad}
use Rattle.sat_top.specs.Placing.{IsBestPlacement, place_status}
use Rattle.sat_top.specs.Auditing.{audit_status, audit_text, HasHistoryFault, HasVerdict, IsTrueVerdict}
use Rattle.sat_top.specs.Chaining.{HasChained, HasChainFault}
use Rattle.sat_top.specs.Lasting.{HasLasted, HasLastingFault}
use Rattle.sat_top.specs.Words.{command_of}
use Rattle.sat_runs.specs.Runs.{history, run_text}
use Rattle.sat_runs.specs.Good.{IsGoodRun}
use Rattle.sat_pieces.specs.Good.{IsGoodScript, IsGoodFront}
use Rattle.sat_pieces.specs.Streaming.{run_status}
use Rattle.sat_top.specs.Good.{IsBestPlan}

-- what is written where the words are no command
abbrev pub refusal : List ℕ
refusal = codes "words refused" ++ 10 ∷ []

-- what the program says of itself
abbrev pub help : List ℕ
help =
    codes "saturn: causal order between sites that keep some items each\n\nusage: saturn COMMAND < INPUT\n\n  run          reads a script, and writes the report of its run\n  plan         reads a table of delays as JSON, and writes a tree of serializers\n  place        reads the same with a given tree, and writes the best places of its serializers\n  draw         reads a script, and writes a picture of its run as SVG\n  live         reads a script of clients, has nodes on threads do it, and writes its history\n  audit        reads the history of a store, and writes whether it is causal, shown once and fresh\n  chain R      reads a script whose serializers are chains of R replicas, and writes the report of its run\n  durable      reads a script whose sites may stop, and writes the report of its run\n  load SEED N  makes a script of N acts and six more, runs it, and writes a summary\n  --help       writes this text\n  --version    writes the version\n\nstatus: 0 done; 1 the input is refused, and the last line written says where; 2 no such command;\n        3 the input could not be read; 4 the output could not be written; 5 out of memory;\n        6 and 8 what the nodes did is not whole, and the output says why\n        7 the history that was judged is not causal, not shown once or not fresh\n"

abbrev pub version : List ℕ
version = codes "saturn 0.1.0\n"

-- whether the words ask for the source to be read
abbrev pub reads : Option Command → Bool
reads (Some Run) = true
reads (Some Draw) = true
reads (Some Plan) = true
reads (Some Place) = true
reads (Some Audit) = true
reads (Some (Chain replicas)) = true
reads (Some Durable) = true
reads _ = false

abbrev pub plan_status : Result DelayTable DelayFault → ℕ
plan_status (Ok table) = 0
plan_status (Err fault) = 1

-- the status of a command over a text, where nothing fails
abbrev pub command_status : Option Command → List ℕ → ℕ
command_status None text = 2
command_status (Some Run) text = run_status (reading false text).fault
command_status (Some Draw) text = run_status (reading false text).fault
command_status (Some Plan) text = plan_status (delays_in text)
command_status (Some Place) text = place_status (shape_reading text)
command_status (Some Audit) text = audit_status text
command_status (Some (Chain replicas)) text = chain_status (chain_reading replicas text)
command_status (Some Durable) text = lasting_status (lasting_reading text)
command_status (Some (Load seed acts)) text = 0
command_status (Some Help) text = 0
command_status (Some Version) text = 0

-- and what it writes
abbrev pub command_output : Option Command → List ℕ → List ℕ
command_output None text = refusal
command_output (Some Run) text = run_text (reading false text)
command_output (Some Draw) text = draw_text (reading false text)
command_output (Some Plan) text = plan_text text
command_output (Some Place) text = place_text text
command_output (Some Audit) text = audit_text text
command_output (Some (Chain replicas)) text = chain_text replicas (chain_reading replicas text)
command_output (Some Durable) text = lasting_text (lasting_reading text)
command_output (Some (Load seed acts)) text = load_text seed acts
command_output (Some Help) text = help
command_output (Some Version) text = version

-- the status of a call with these words and this input
abbrev pub status_of : List (List ℕ) → List ℕ → ℕ
status_of words text = command_status (command_of words) text

-- the output of a call with these words and this input
abbrev pub output_of : List (List ℕ) → List ℕ → List ℕ
output_of words text = command_output (command_of words) text

-- The source's text spells a deployment and acts. The sink took the report of their one history, in which each site
-- shows each update at most once and after every cause that it keeps, no client reads older than it saw, and where
-- nothing waits or is under way each site holds its items' greatest versions. Each settle in it ends within its bound,
-- and where it can, at rest.
pub record HasRun (left : Option (List ℕ)) (old new : Told) : Type 0 where
  pub text : List ℕ
  pub whole : IsTextOf left text
  pub deployment : Deployed
  pub acts : List Act
  pub spelled : Spells text deployment acts
  pub written : Takes old new (report deployment (history deployment acts))
  pub good : IsGoodRun deployment acts

-- The source's text has a first bad line. The sink took the answers of the acts before it, and then the fault's line;
-- where the header is bad, that line alone. The history of the acts before it is as good as that of a whole script.
pub record HasFault (left : Option (List ℕ)) (old new : Told) : Type 0 where
  pub text : List ℕ
  pub whole : IsTextOf left text
  pub bad : IsSome (reading false text).fault
  pub written : Takes old new (run_text (reading false text))
  pub good : IsGoodFront text

-- The source's text spells a deployment and acts. The sink took the drawing of their run, in which each act is drawn
-- once, an act that was done as done, each line of a label, a payload or a beat begins where it was left last, each
-- line of a client is at its seat, and each thin line stands for what a settle moved.
pub record HasDrawn (left : Option (List ℕ)) (old new : Told) : Type 0 where
  pub text : List ℕ
  pub whole : IsTextOf left text
  pub deployment : Deployed
  pub acts : List Act
  pub spelled : Spells text deployment acts
  pub written : Takes old new (drawing deployment (told_history deployment acts) (told_moves deployment acts))
  pub once : EachIsDrawnOnce deployment (told_history deployment acts)
  pub told : WaysAreTold deployment (told_history deployment acts)
  pub seats : PathsAreAtSeats deployment (told_history deployment acts)
  pub moved : SmallsAreTold deployment (told_moves deployment acts)
  pub good : IsGoodRun deployment acts

-- The source's text has a first bad line. The sink took that line's fault, and nothing else.
pub record HasLineFault (left : Option (List ℕ)) (old new : Told) : Type 0 where
  pub text : List ℕ
  pub whole : IsTextOf left text
  pub fault : ScriptFault
  pub bad : (reading false text).fault ≡ Some fault
  pub written : Takes old new (fault_line fault)

-- The source's text is a table of delays. The sink took the text of the tree that is built from it, with its places,
-- delays and mismatch; no other delay of one edge, however great, gives a lower mismatch.
pub record HasPlan (left : Option (List ℕ)) (old new : Told) : Type 0 where
  pub text : List ℕ
  pub whole : IsTextOf left text
  pub table : DelayTable
  pub read : delays_in text ≡ Ok table
  pub written : Takes old new (config_text (built table) (mismatch table (built table)))
  pub best : (e delay : ℕ) → mismatch table (built table) ≤ mismatch table (delayed (built table) e delay)

-- The source's text is no table of delays. The sink took the line of its first fault.
pub record HasDelayFault (left : Option (List ℕ)) (old new : Told) : Type 0 where
  pub text : List ℕ
  pub whole : IsTextOf left text
  pub fault : DelayFault
  pub bad : delays_in text ≡ Err fault
  pub written : Takes old new (delay_fault_text fault)

-- The source's text is a table with a tree. The sink took the text of the tree's least placement: no other places have
-- a lower mismatch, and none that come before them an equal one.
pub record HasPlacement (left : Option (List ℕ)) (old new : Told) : Type 0 where
  pub text : List ℕ
  pub whole : IsTextOf left text
  pub shape : Shape
  pub read : shape_reading text ≡ Ok shape
  pub written : Takes old new (least_text shape.table shape.tree)
  pub least : IsLeast shape.table shape.tree (least_places shape.table shape.tree)
      (worth shape.table shape.tree (least_places shape.table shape.tree))

-- The source's text is no table with a tree. The sink took the line of its first fault.
pub record HasShapeFault (left : Option (List ℕ)) (old new : Told) : Type 0 where
  pub text : List ℕ
  pub whole : IsTextOf left text
  pub fault : DelayFault
  pub bad : shape_reading text ≡ Err fault
  pub written : Takes old new (shape_fault_text fault)

-- what was done with status 0
abbrev pub IsDone : Option Command → Option (List ℕ) → Told → Told → Type 0
IsDone (Some Run) left old new = HasRun left old new
IsDone (Some Draw) left old new = HasDrawn left old new
IsDone (Some Plan) left old new = HasPlan left old new
IsDone (Some Place) left old new = HasPlacement left old new
IsDone (Some Audit) left old new = HasVerdict true left old new
IsDone (Some (Chain replicas)) left old new = HasChained replicas left old new
IsDone (Some Durable) left old new = HasLasted left old new
IsDone (Some (Load seed acts)) left old new = HasLoaded seed acts old new
IsDone (Some Help) left old new = Takes old new help
IsDone (Some Version) left old new = Takes old new version
IsDone None left old new = ⊥

-- which input was refused with status 1
abbrev pub IsRefused : Option Command → Option (List ℕ) → Told → Told → Type 0
IsRefused (Some Run) left old new = HasFault left old new
IsRefused (Some Draw) left old new = HasLineFault left old new
IsRefused (Some Plan) left old new = HasDelayFault left old new
IsRefused (Some Place) left old new = HasShapeFault left old new
IsRefused (Some Audit) left old new = HasHistoryFault left old new
IsRefused (Some (Chain replicas)) left old new = HasChainFault replicas left old new
IsRefused (Some Durable) left old new = HasLastingFault left old new
IsRefused _ left old new = ⊥

-- what was found of an input with status 7
abbrev pub IsFound : Option Command → Option (List ℕ) → Told → Told → Type 0
IsFound (Some Audit) left old new = HasVerdict false left old new
IsFound _ left old new = ⊥

-- the statuses with which the whole output was written
abbrev pub is_whole : ℕ → Bool
is_whole status = nat_le status 2 || (status == 7)

-- what a status says of the text beside the output
abbrev pub Proves : Option Command → ℕ → List ℕ → Type 0
Proves (Some Run) status text = (status ≡ 0 → IsGoodScript text) × (status ≡ 1 → IsGoodFront text)
Proves (Some Draw) status text = status ≡ 0 → IsGoodDrawing text
Proves (Some Plan) status text = status ≡ 0 → IsBestPlan text
Proves (Some Place) status text = IsBestPlacement text
Proves (Some Audit) status text = IsTrueVerdict text
Proves (Some (Chain replicas)) status text = IsGoodChainText replicas (chain_reading replicas text)
Proves (Some Durable) status text = IsGoodLastingText (lasting_reading text)
Proves (Some (Load seed acts)) status text = IsGoodLoad seed acts
Proves _ status text = Unit {0}

-- what is to be written, and the status, are those of a command over the source's text
pub record IsOutput (c : Option Command) (left : Option (List ℕ)) (text : List ℕ) (status : ℕ) : Type 0 where
  pub input : List ℕ
  pub whole : IsTextOf left input
  pub output : text ≡ command_output c input
  pub status_is : status ≡ command_status c input
  pub proves : Proves c status input

-- the output of a plan over a text
pub record IsPlanned (input text : List ℕ) (status : ℕ) : Type 0 where
  pub output : text ≡ plan_text input
  pub status_is : status ≡ command_status (Some Plan) input
  pub best : IsBestPlan input
