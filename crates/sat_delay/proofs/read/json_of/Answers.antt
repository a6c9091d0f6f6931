use Rattle.std.proofs.Common.{◌≡◌, List, ℕ, Bool, true, false, Some, None, refl}
use Rattle.std.proofs.lemmas.Str.{IsUtf8-from_is_utf8, is_utf8-from_IsUtf8}
use Rattle.std.proofs.lemmas.Bool.{false≢true}
use Rattle.std.specs.Str.{IsUtf8, is_utf8}
use Rattle.serde_json.specs.Data.{Data}
use Rattle.serde_json.specs.Read.{read}
use Rattle.sat_delay.specs.Reading.{json_of}
use Rattle.sat_delay.proofs.read.json_of.Goals as goal

read_text : (bytes : List ℕ) (d : Data) → IsUtf8 bytes → read bytes ≡ Some d → json_of bytes ≡ Some d
unfolding json_of
read_text bytes d utf8 is = rw (json_of, is_utf8-from_IsUtf8 bytes utf8) is

unread : (bytes : List ℕ) → (IsUtf8 bytes → read bytes ≡ None) → json_of bytes ≡ None
unfolding json_of
unread bytes none = go (is_utf8 bytes) refl
  where
    go : (b : Bool) → is_utf8 bytes ≡ b → json_of bytes ≡ None
    go true is = rw (json_of, is) (none (IsUtf8-from_is_utf8 bytes is))
    go false is = rw (json_of, is) refl

pub returns-in-Ok-clause-ok : goal.returns-in-Ok-clause-ok
returns-in-Ok-clause-ok c = read_text _ _ c.in-Ok.ensures.ok.0 c.in-Ok.ensures.ok.1

pub returns-else-is_memory-clause-err : goal.returns-else-is_memory-clause-err
returns-else-is_memory-clause-err c = λ other. (unread _ (c.in-Err.ensures.err (λ memory. false≢true (rw c.if-is_memory.false at (c.is_memory.ensures.1 memory)))), refl)
