-- What is known of a disk that is told when to fail, as a disk in memory is in tests.
use Rattle.std.specs.Prelude.{ℕ, Bool, List}
use Rattle.std.specs.declared.option.Option.{Option}

pub data Told : Type 0 where
  -- nothing is known of when it fails
  untold : Told
  -- so many writes and syncs pass and the next one fails, or none fails; whether a crash keeps what isn't synced; and
  -- what the disk held when it was synced last
  told : (calls : Option ℕ) (keep : Bool) (synced : List ℕ) → Told
