-- The lines of a script, each by what the lines before it say. A line of the header has one definition, and its causes
-- stand in it in their order: first what may keep it from having the form, then the causes that the form alone decides,
-- and then those of its words. The lines of acts are the table's.
use Rattle.std.specs.Prelude.{ℕ, ◌+◌, List, [], ◌∷◌, ◌++◌, Bool, true, false, ◌&&◌, ◌==◌, nat_lt, length, map, take}
use Rattle.std.specs.Prelude.{drop, is_none, Some, None, Ok, Err, if◌then◌else◌, codes, position}
use Rattle.std.specs.declared.option.Option.{Option}
use Rattle.std.specs.declared.result.Result.{Result}
use Rattle.std.specs.List.{list_all}
use Rattle.std.specs.Str.{bytes_eq}
use Rattle.sat_label.specs.Text.{is_name}
use Rattle.sat_tree.specs.Flaw.{tree_flaw}
use Rattle.sat_tree.specs.Shape.{TreeShape}
use Rattle.sat_act.specs.Deployed.{Deployed}
use Rattle.sat_act.specs.declared.act.Act.{Act}
use Rattle.sat_act.specs.declared.act.Act.TheVariants as act
use Rattle.sat_act.specs.declared.deployment.Plan.TheVariants as plan
use Rattle.sat_script.specs.Causes.{needs, refused, barred, given, bar, has_client, has_item}
use Rattle.sat_script.specs.State.{State, limits_at}
use Rattle.sat_script.specs.Table.{act_line}
use Rattle.sat_script.specs.Words.{is_text, is_number, is_list, are_rising, words_of, value_of, number_below, number_to}
use Rattle.sat_script.specs.Words.{sites_in, sites_among}
use Rattle.sat_script.specs.declared.fault.Cause.{Cause}
use Rattle.sat_script.specs.declared.fault.Cause.TheVariants.{AfterEnd, LongLine, NoEnd, NotText, BadHeader, SameName}
use Rattle.sat_script.specs.declared.fault.Cause.TheVariants.{OutOfRange, BadTree}
use Rattle.sat_script.specs.declared.form.Form.TheVariants as form
use Rattle.sat_script.specs.declared.line.Line.{Line}
use Rattle.sat_script.specs.declared.line.Line.TheVariants as line
use Rattle.sat_script.specs.declared.line.Parsed.{Parsed}
use Rattle.sat_script.specs.declared.line.Parsed.TheVariants as parsed
use Rattle.sat_script.specs.declared.line.Stage.{Stage}
use Rattle.sat_script.specs.declared.line.Stage.TheVariants as stage
use Rattle.sat_script.specs.declared.limits.TheConstants.{LONGEST_LINE, LAST_FORMAT, MOST_GEARS}

-- ---- the header

-- `saturn F`, with F a format. Another number is no form of a line at all
unfoldable pub format_line : List (List ℕ) → Result Parsed Cause
unfolding number_to
format_line (word ∷ number ∷ []) =
    needs BadHeader (bytes_eq word (codes "saturn"))
    (given BadHeader (number_to LAST_FORMAT number) (λ format. Ok (parsed.Format format)))
format_line _ = Err BadHeader

-- a word and a number from 1 to a limit
unfoldable pub counted : List ℕ → ℕ → List ℕ → List ℕ → Result ℕ Cause
unfolding number_to
counted keyword limit word number =
    needs BadHeader (bytes_eq word keyword && is_number number)
    (given OutOfRange (number_to limit number) Ok)

-- what such a line says
abbrev pub of_count : (ℕ → Parsed) → Result ℕ Cause → Result Parsed Cause
of_count says (Ok n) = Ok (says n)
of_count says (Err cause) = Err cause

-- `sites N`
unfoldable pub sites_line : State → List (List ℕ) → Result Parsed Cause
unfolding counted
sites_line s (word ∷ number ∷ []) = of_count parsed.Sites (counted (codes "sites") (limits_at s).sites word number)
sites_line s _ = Err BadHeader

-- `gears N`
unfoldable pub gears_line : List (List ℕ) → Result Parsed Cause
unfolding counted
gears_line (word ∷ number ∷ []) = of_count parsed.Gears (counted (codes "gears") MOST_GEARS word number)
gears_line _ = Err BadHeader

-- `item NAME LIST`, before the first client and the first plan
unfoldable pub item_line : State → List ℕ → List ℕ → Result Parsed Cause
unfolding bar has_item are_rising sites_among
item_line s name sites =
    needs BadHeader ((length s.header.clients == 0) && (length s.header.plans == 0))
    (needs BadHeader (is_name name && is_list sites)
    (barred (bar s form.Item)
    (refused SameName (has_item s.header name)
    (given OutOfRange (sites_in s.header.sites sites)
    (λ set. Ok (parsed.Item (record { name = name; replicas = set })))))))

-- `client NAME SITE`, before the first plan
unfoldable pub client_line : State → List ℕ → List ℕ → Result Parsed Cause
unfolding bar has_client number_below
client_line s name site =
    needs BadHeader (length s.header.plans == 0)
    (needs BadHeader (is_name name && is_number site)
    (barred (bar s form.Client)
    (refused SameName (has_client s.header name)
    (given OutOfRange (number_below s.header.sites site)
    (λ home. Ok (parsed.Client (record { name = name; site = home })))))))

-- `begin`, after a plan
unfoldable pub begin_line : Deployed → Result Parsed Cause
begin_line d = refused BadHeader (length d.plans == 0) (Ok parsed.Begin)

-- `-` for serializer 0, and then numbers
unfoldable pub are_parents : List (List ℕ) → Bool
are_parents [] = true
are_parents (root ∷ words) = bytes_eq root (codes "-") && list_all is_number words

abbrev pub parent_number : List ℕ → Option ℕ
parent_number word = Some (value_of word)

-- the tree of serializer 0, those that hang on others, and the seats
abbrev pub tree_on : List (List ℕ) → List (List ℕ) → TreeShape
tree_on words seats = record { parents = None ∷ map parent_number words; seats = map value_of seats }

-- the tree that such words and the words of the seats name
unfoldable pub tree_in : List (List ℕ) → List (List ℕ) → TreeShape
tree_in [] seats = record { parents = []; seats = map value_of seats }
tree_in (root ∷ words) seats = tree_on words seats

-- 1 to 15 serializers, each but the first hanging on an earlier one, and a serializer for each site
unfoldable pub is_tree : ℕ → TreeShape → Bool
unfolding tree_flaw
is_tree sites t = is_none (tree_flaw t) && (length t.seats == sites)

-- `plan tree PARENTS / SEATS`, by the words before and after the `/`
unfoldable pub tree_line : State → List (List ℕ) → List (List ℕ) → Result Parsed Cause
unfolding bar are_parents tree_in is_tree
tree_line s parents seats =
    needs BadHeader (are_parents parents && list_all is_number seats)
    (barred (bar s form.PlanTree)
    (needs BadTree (is_tree s.header.sites (tree_in parents seats))
    (Ok (parsed.Plan (plan.Tree (tree_in parents seats))))))

abbrev pub is_slash : List ℕ → Bool
is_slash word = bytes_eq word (codes "/")

-- the words of a tree, parted at the first `/`
unfoldable pub parted_line : State → List (List ℕ) → Option ℕ → Result Parsed Cause
unfolding tree_line
parted_line s words None = Err BadHeader
parted_line s words (Some slash) = tree_line s (take slash words) (drop (slash + 1) words)

-- `plan stamp`
unfoldable pub stamp_line : State → Result Parsed Cause
unfolding bar
stamp_line s = barred (bar s form.PlanStamp) (Ok (parsed.Plan plan.Stamp))

-- the words after `plan`
unfoldable pub plan_line : State → List (List ℕ) → Result Parsed Cause
unfolding stamp_line parted_line
plan_line s [] = Err BadHeader
plan_line s (word ∷ words) =
    if bytes_eq word (codes "tree") then parted_line s words (position is_slash words) else
    needs BadHeader (bytes_eq word (codes "stamp") && (length words == 0)) (stamp_line s)

-- an item or a client, by the word before its name
unfoldable pub named_line : State → List ℕ → List ℕ → List ℕ → Result Parsed Cause
unfolding item_line client_line
named_line s word name place =
    if bytes_eq word (codes "item") then item_line s name place else
    if bytes_eq word (codes "client") then client_line s name place else
    Err BadHeader

-- an item, a client or `begin`, by its first word and those after it
unfoldable pub header_form : State → List ℕ → List (List ℕ) → Result Parsed Cause
unfolding begin_line named_line
header_form s word [] = needs BadHeader (bytes_eq word (codes "begin")) (begin_line s.header)
header_form s word (name ∷ place ∷ []) = named_line s word name place
header_form s word _ = Err BadHeader

-- an item, a client, a plan or `begin`
unfoldable pub header_line : State → List (List ℕ) → Result Parsed Cause
unfolding header_form plan_line
header_line s [] = Err BadHeader
header_line s (word ∷ words) = if bytes_eq word (codes "plan") then plan_line s words else header_form s word words

-- ---- an act or `end`

abbrev pub is_end : List (List ℕ) → Bool
is_end (word ∷ []) = bytes_eq word (codes "end")
is_end _ = false

-- what a line of an act says
abbrev pub of_act : Result Act Cause → Result Parsed Cause
of_act (Ok a) = Ok (parsed.Act a)
of_act (Err cause) = Err cause

-- an act or `end`
unfoldable pub body_line : State → List (List ℕ) → Result Parsed Cause
unfolding bar act_line
body_line s words = if is_end words then Ok parsed.End else of_act (act_line (bar s) s.header words)

-- ---- a line, by its place

unfoldable pub words_line : Stage → State → List (List ℕ) → Result Parsed Cause
unfolding format_line sites_line gears_line header_line body_line
words_line stage.Start s words = format_line words
words_line stage.Sites s words = sites_line s words
words_line stage.Gears s words = gears_line words
words_line stage.Header s words = header_line s words
words_line stage.Body s words = body_line s words
words_line stage.Ended s words = Err AfterEnd

abbrev pub is_ended : Stage → Bool
is_ended stage.Ended = true
is_ended _ = false

-- what a line says that ends in byte 10, without it, or why it is refused
unfoldable pub line_at : State → List ℕ → Result Parsed Cause
unfolding words_line
line_at s line =
    refused AfterEnd (is_ended s.stage)
    (refused LongLine (nat_lt LONGEST_LINE (length line))
    (needs NotText (is_text line) (words_line s.stage s (words_of line))))

-- why the text may not end here, where this stands after its last byte 10
unfoldable pub close_in : Stage → List ℕ → Option Cause
close_in stage.Ended [] = None
close_in stage.Ended (byte ∷ rest) = Some AfterEnd
close_in _ rest = if nat_lt LONGEST_LINE (length rest) then Some LongLine else Some NoEnd

-- the cause, if any, at the end of a text whose last line has begun and not ended
abbrev pub close_at : State → List ℕ → Option Cause
close_at s rest = close_in s.stage rest

-- ---- what a good line adds

abbrev pub next_stage : Stage → Parsed → Stage
next_stage here (parsed.Format f) = stage.Sites
next_stage here (parsed.Sites n) = stage.Gears
next_stage here (parsed.Gears n) = stage.Header
next_stage here (parsed.Item item) = here
next_stage here (parsed.Client line) = here
next_stage here (parsed.Plan p) = here
next_stage here parsed.Begin = stage.Body
next_stage here (parsed.Act a) = here
next_stage here parsed.End = stage.Ended

abbrev pub with_parsed : Deployed → Parsed → Deployed
with_parsed d (parsed.Format f) = record d { format = f }
with_parsed d (parsed.Sites n) = record d { sites = n }
with_parsed d (parsed.Gears n) = record d { gears = n }
with_parsed d (parsed.Item item) = record d { items = d.items ++ item ∷ [] }
with_parsed d (parsed.Client line) = record d { clients = d.clients ++ line ∷ [] }
with_parsed d (parsed.Plan p) = record d { plans = d.plans ++ p ∷ [] }
with_parsed d parsed.Begin = d
with_parsed d (parsed.Act a) = d
with_parsed d parsed.End = d

abbrev pub with_act : ℕ → Parsed → ℕ
with_act acts (parsed.Act a) = acts + 1
with_act acts _ = acts

abbrev pub with_settle : ℕ → Parsed → ℕ
with_settle settles (parsed.Act act.Settle) = settles + 1
with_settle settles _ = settles

-- the state at the next line
abbrev pub after : State → Parsed → State
after s p =
    record {
      dialect = s.dialect;
      stage = next_stage s.stage p;
      header = with_parsed s.header p;
      acts = with_act s.acts p;
      settles = with_settle s.settles p;
    }

-- what a caller is told of a good line
abbrev pub told_line : Parsed → Line
told_line parsed.Begin = line.Begin
told_line (parsed.Act a) = line.Act a
told_line parsed.End = line.End
told_line _ = line.Header
