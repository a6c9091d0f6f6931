-- What the calls of a reader of lines do to what a script will be.
use Rattle.std.proofs.Common.{◌≡◌, ℕ, false, eqb, List, [], ◌∷◌, ◌++◌, Option, Some, None, Result, Ok, Err, sym, ap, ◌∙◌, arith}
use Rattle.std.proofs.lemmas.List.{append-nil, append_assoc}
use Rattle.std.proofs.lemmas.List.Elements.{All-tail}
use Rattle.sat_act.specs.declared.act.Act.{Act}
use Rattle.sat_act.specs.Deployed.{Deployed}
use Rattle.sat_script.specs.Grammar.{line_at, after, told_line}
use Rattle.sat_script.specs.Lines.{Closes}
use Rattle.sat_stream.specs.Reading.{after_line, bad, stopped, closed, with_line}
use Rattle.sat_script.specs.State.{State, Seen, number_of, fault_at, deployment_of}
use Rattle.sat_stream.specs.Stream.{goes_on, meaning}
use Rattle.sat_script.specs.Words.{HasNo}
use Rattle.sat_script.specs.declared.fault.Cause.{Cause}
use Rattle.sat_script.specs.declared.fault.ScriptFault.{ScriptFault}
use Rattle.sat_script.specs.declared.line.Parsed.{Parsed}
use Rattle.sat_stream.specs.declared.stream.Reading.{Reading}
use Rattle.sat_stream.proofs.Meaning.{goes_on-byte, goes_on-line, goes_on-end}

abbrev means : Seen → Reading → List ℕ → List ℕ → Reading
means seen r begun more = meaning seen.fault seen.state r begun more

pub fresh : (seen : Seen) (r : Reading) (begun more : List ℕ) → seen.fault ≡ None → means seen r begun more ≡ goes_on seen.state r begun more
fresh seen r begun more e = ap (λ (f : Option ScriptFault). meaning f seen.state r begun more) e

fault_is : (s : State) (told : ScriptFault) → told.line ≡ number_of s → fault_at s told.cause ≡ told
fault_is s told line = ap (λ (n : ℕ). (let f : ScriptFault = record { line = n; cause = told.cause } in f)) (sym line)

-- ---- bytes of a line

-- they make it longer
pub part_keeps : (s : State) (r : Reading) (begun part more : List ℕ) → HasNo 10 part → goes_on s r begun (part ++ more) ≡ goes_on s r (begun ++ part) more
part_keeps s r begun [] more none = ap (λ bs. goes_on s r bs more) (sym (append-nil begun))
part_keeps s r begun (b ∷ part) more none =
    goes_on-byte s r begun b (part ++ more) (none 0 b (omega arith))
    ∙ part_keeps s r (begun ++ b ∷ []) part more (All-tail (λ other. eqb other 10 ≡ false) b part none)
    ∙ ap (λ bs. goes_on s r bs more) (append_assoc begun (b ∷ []) part)

-- ---- a whole line

pub line_fails : (s : State) (r : Reading) (begun : List ℕ) (cause : Cause) → line_at s begun ≡ Err cause → (more : List ℕ) → goes_on s r begun (10 ∷ more) ≡ bad s r cause
line_fails s r begun cause e more = goes_on-line s r begun more ∙ ap (after_line s r (λ later kept. goes_on later kept [] more)) e

pub line_goes : (s : State) (r : Reading) (begun : List ℕ) (p : Parsed) → line_at s begun ≡ Ok p → (more : List ℕ) → goes_on s r begun (10 ∷ more) ≡ goes_on (after s p) (with_line s.header r (told_line p)) [] more
line_goes s r begun p e more = goes_on-line s r begun more ∙ ap (after_line s r (λ later kept. goes_on later kept [] more)) e

-- ---- the end of the text

abbrev with_fault : Option Deployed → List Act → Option ScriptFault → Reading
with_fault deployment acts fault = record { deployment = deployment; acts = acts; fault = fault }

closes_gives : (f : Option ScriptFault) (s : State) (new : Seen) (result : Result (Unit {0}) ScriptFault) (deployment : Option Deployed) (acts : List Act) (begun : List ℕ) → Closes f s new result begun
    → with_fault deployment acts new.fault ≡ meaning f s (with_fault deployment acts None) begun []
closes_gives None s new (Ok x) deployment acts begun c =
    ap (λ (seen : Seen). with_fault deployment acts seen.fault) c.1
    ∙ sym (ap (closed s (with_fault deployment acts None)) c.0)
    ∙ sym (goes_on-end s (with_fault deployment acts None) begun)
closes_gives None s new (Err told) deployment acts begun c =
    ap (λ (seen : Seen). with_fault deployment acts seen.fault) c.2
    ∙ ap (stopped (with_fault deployment acts None)) (sym (fault_is s told c.0))
    ∙ sym (ap (closed s (with_fault deployment acts None)) c.1)
    ∙ sym (goes_on-end s (with_fault deployment acts None) begun)
closes_gives (Some told) s new result deployment acts begun c = ap (λ (seen : Seen). with_fault deployment acts seen.fault) c.1

closes_same : (f : Option ScriptFault) (s : State) (new : Seen) (result : Result (Unit {0}) ScriptFault) (begun : List ℕ) → Closes f s new result begun → new.state ≡ s
closes_same None s new (Ok x) begun c = ap (λ (seen : Seen). seen.state) c.1
closes_same None s new (Err told) begun c = ap (λ (seen : Seen). seen.state) c.2
closes_same (Some told) s new result begun c = ap (λ (seen : Seen). seen.state) c.1

pub finish_gives : (old new : Seen) (result : Result (Unit {0}) ScriptFault) (acts : List Act) (begun : List ℕ) → Closes old.fault old.state new result begun
    → with_fault (deployment_of new.state) acts new.fault ≡ means old (with_fault (deployment_of old.state) acts None) begun []
finish_gives old new result acts begun closes =
    ap (λ (s : State). with_fault (deployment_of s) acts new.fault) (closes_same old.fault old.state new result begun closes)
    ∙ closes_gives old.fault old.state new result (deployment_of old.state) acts begun closes
