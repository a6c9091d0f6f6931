-- A fault that was told is the fault of what was read.
use Rattle.std.proofs.Common.{◌≡◌, [], Option, Some, None}
use Rattle.sat_stream.specs.Stream.{Came, meaning, kept, will_be, known_fault}
use Rattle.sat_stream.specs.declared.stream.Reading.{Reading}
use Rattle.sat_script.specs.declared.fault.ScriptFault.{ScriptFault}

pub has_fault : (r : Came) (fault : ScriptFault) (found : Reading) (P : Type 0) → known_fault r ≡ Some fault → found ≡ will_be r [] → found.fault ≡ None → P
unfolding will_be
has_fault r fault found P known is none = absurd (go r.lines.seen.fault known is none) where
  go : (o : Option ScriptFault) → o ≡ Some fault → found ≡ meaning o r.lines.seen.state (kept r.lines.deployment r.lines.acts) r.begun [] → found.fault ≡ None → ⊥
  go None e is none = cc
  go (Some other) e is none = cc
