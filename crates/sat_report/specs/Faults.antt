-- What is printed of a script's fault.
use Rattle.std.specs.Prelude.{ℕ, List, [], ◌∷◌, ◌++◌, codes}
use Rattle.std.specs.Fmt.{decimal}
use Rattle.sat_script.specs.declared.fault.Cause.{Cause}
use Rattle.sat_script.specs.declared.fault.Cause.TheVariants.{AfterEnd, LongLine, NoEnd, NotText, BadHeader, BadAct}
use Rattle.sat_script.specs.declared.fault.Cause.TheVariants.{NotLive, TooMany, SameName, UnknownName, OutOfRange}
use Rattle.sat_script.specs.declared.fault.Cause.TheVariants.{BadTree, NoEdge, BadGroup, BadAnswer, SamePoint, Memory}
use Rattle.sat_script.specs.declared.fault.ScriptFault.{ScriptFault}

unfoldable pub cause_name : Cause → List ℕ
cause_name AfterEnd = codes "AfterEnd"
cause_name LongLine = codes "LongLine"
cause_name NoEnd = codes "NoEnd"
cause_name NotText = codes "NotText"
cause_name BadHeader = codes "BadHeader"
cause_name BadAct = codes "BadAct"
cause_name NotLive = codes "NotLive"
cause_name TooMany = codes "TooMany"
cause_name SameName = codes "SameName"
cause_name UnknownName = codes "UnknownName"
cause_name OutOfRange = codes "OutOfRange"
cause_name BadTree = codes "BadTree"
cause_name NoEdge = codes "NoEdge"
cause_name BadGroup = codes "BadGroup"
cause_name BadAnswer = codes "BadAnswer"
cause_name SamePoint = codes "SamePoint"
cause_name Memory = codes "Memory"

-- `line N: CAUSE`
unfoldable pub fault_line : ScriptFault → List ℕ
unfolding cause_name
fault_line fault = codes "line " ++ (decimal fault.line ++ (codes ": " ++ (cause_name fault.cause ++ 10 ∷ [])))
