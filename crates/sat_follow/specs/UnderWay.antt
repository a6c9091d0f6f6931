-- A text under way. No contract of the loop's public call speaks of these.
use Rattle.std.specs.Prelude.{ℕ, ◌≡◌, List, ◌++◌}
use Rattle.sat_outside.specs.Streams.{Told, Takes}
use Rattle.sat_follow.specs.Meaning.{Meaning}
use Rattle.sat_follow.specs.Following.{TakesFront}

-- a piece more is followed, and the sink took the answers of its lines
pub record Answers (m : Meaning) (before now : List ℕ → Type 0) (piece : List ℕ) (old new : Told) : Type 0 where
  pub text : List ℕ
  pub written : Takes old new text
  pub follows : (front : List ℕ) → before front → now (front ++ piece)
  pub answers : (front : List ℕ) → before front → m.answers (front ++ piece) ≡ m.answers front ++ text

-- a line of the piece is bad, and the sink took the rest of the output
pub record Stops (m : Meaning) (before : List ℕ → Type 0) (piece : List ℕ) (old new : Told) : Type 0 where
  pub text : List ℕ
  pub written : Takes old new text
  pub output : (front more : List ℕ) → before front → m.output (front ++ piece ++ more) ≡ m.answers front ++ text
  pub status : (front more : List ℕ) → before front → m.status (front ++ piece ++ more) ≡ 1

-- no more comes, and the sink took the rest of the output
pub record Ends (m : Meaning) (before : List ℕ → Type 0) (old new : Told) (status : ℕ) : Type 0 where
  pub text : List ℕ
  pub written : Takes old new text
  pub output : (front : List ℕ) → before front → m.output front ≡ m.answers front ++ text
  pub status_is : (front : List ℕ) → before front → m.status front ≡ status

-- the sink took a front of what a piece made of the output
pub record Broke (m : Meaning) (before : List ℕ → Type 0) (piece : List ℕ) (old new : Told) : Type 0 where
  pub text : List ℕ
  pub written : TakesFront old new text
  pub output : (front more : List ℕ) → before front → (tail : List ℕ)
      × (m.output (front ++ piece ++ more) ≡ m.answers front ++ text ++ tail)

-- and of what the end made of it
pub record EndedBefore (m : Meaning) (before : List ℕ → Type 0) (old new : Told) : Type 0 where
  pub text : List ℕ
  pub written : TakesFront old new text
  pub output : (front : List ℕ) → before front → m.output front ≡ m.answers front ++ text
