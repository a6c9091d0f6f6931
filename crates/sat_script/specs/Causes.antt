-- The causes that stop a line, in their order, and what the form of a line and the names of its words decide.
use Rattle.std.specs.Prelude.{ℕ, List, Bool, not, ◌&&◌, nat_lt, length, Some, None, Err, if◌then◌else◌, position}
use Rattle.std.specs.declared.option.Option.{Option}
use Rattle.std.specs.declared.result.Result.{Result}
use Rattle.std.specs.List.{list_any}
use Rattle.std.specs.Str.{bytes_eq}
use Rattle.sat_act.specs.Deployed.{Deployed}
use Rattle.sat_script.specs.Dialect.{has_form, lacking}
use Rattle.sat_script.specs.State.{State, limits_at}
use Rattle.sat_script.specs.declared.fault.Cause.{Cause}
use Rattle.sat_script.specs.declared.fault.Cause.TheVariants.{TooMany}
use Rattle.sat_script.specs.declared.form.Form.{Form}
use Rattle.sat_script.specs.declared.form.Form.TheVariants as form
use Rattle.sat_script.specs.declared.limits.TheConstants.{MOST_PLANS}

-- goes on where the test is passed, and stops with the cause where it isn't
abbrev pub needs : {Y : Type 0} → Cause → Bool → Result Y Cause → Result Y Cause
needs cause test next = if test then next else Err cause

-- stops with the cause where the test is passed
abbrev pub refused : {Y : Type 0} → Cause → Bool → Result Y Cause → Result Y Cause
refused cause test next = if test then Err cause else next

-- stops with the cause where there is one
abbrev pub barred : {Y : Type 0} → Option Cause → Result Y Cause → Result Y Cause
barred None next = next
barred (Some cause) next = Err cause

-- goes on with the value, or stops with the cause where there is none
abbrev pub given : {X Y : Type 0} → Cause → Option X → (X → Result Y Cause) → Result Y Cause
given cause None next = Err cause
given cause (Some x) next = next x

-- ---- what the form alone decides

-- whether one more line of the form is within the limits
unfoldable pub has_room : State → Form → Bool
has_room s form.Item = nat_lt (length s.header.items) (limits_at s).items
has_room s form.Client = nat_lt (length s.header.clients) (limits_at s).clients
has_room s form.PlanStamp = nat_lt (length s.header.plans) MOST_PLANS
has_room s form.PlanTree = nat_lt (length s.header.plans) MOST_PLANS
has_room s form.Settle = nat_lt s.acts (limits_at s).acts && nat_lt s.settles (limits_at s).settles
has_room s _ = nat_lt s.acts (limits_at s).acts

-- why a line of the form may not stand here whatever its words say
unfoldable pub bar : State → Form → Option Cause
unfolding has_room
bar s f =
    if not (has_form s.dialect f) then Some (lacking s.dialect) else
    if not (has_room s f) then Some TooMany else
    None

-- why no further act may come
unfoldable pub full : State → Option Cause
full s = if nat_lt s.acts (limits_at s).acts then None else Some TooMany

-- ---- names of the header

-- the number of the client or the item of this name
unfoldable pub client_of : Deployed → List ℕ → Option ℕ
client_of d name = position (λ line. bytes_eq line.name name) d.clients

unfoldable pub item_of : Deployed → List ℕ → Option ℕ
item_of d name = position (λ item. bytes_eq item.name name) d.items

-- whether an earlier line has the name
unfoldable pub has_client : Deployed → List ℕ → Bool
has_client d name = list_any (λ line. bytes_eq line.name name) d.clients

unfoldable pub has_item : Deployed → List ℕ → Bool
has_item d name = list_any (λ item. bytes_eq item.name name) d.items
