-- Letters that a transport was handed, and those that it gave.
use Rattle.std.specs.Prelude.{◌≡◌, ℕ, List, [], ◌∷◌, ◌++◌, Some, None, Ok, Err}
use Rattle.std.specs.declared.option.Option.{Option}
use Rattle.std.specs.declared.result.Result.{Result}

-- a letter of a link
pub record Posted : Type 0 where
  pub link : ℕ
  pub bytes : List ℕ

abbrev pub posted : ℕ → List ℕ → Posted
posted link bytes = record { link = link; bytes = bytes }

-- these more, where it is told
abbrev pub Grows : Option (List Posted) → Option (List Posted) → List Posted → Type 0
Grows None new more = Unit {0}
Grows (Some old) new more = new ≡ Some (old ++ more)

-- what came of a link, if something did
abbrev pub came_of : Option ℕ → List ℕ → List Posted
came_of None bytes = []
came_of (Some link) bytes = posted link bytes ∷ []

-- it gave what it answers, and after an error nothing
abbrev pub Gives : {E : Type 0} → Result (Option ℕ) E → List ℕ → Option (List Posted) → Option (List Posted) → Type 0
Gives (Ok found) bytes old new = Grows old new (came_of found bytes)
Gives (Err e) bytes old new = Grows old new []
