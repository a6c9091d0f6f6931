-- What is made of a text that is answered as it comes.
use Rattle.std.specs.Prelude.{ℕ, ◌≡◌, ◌<◌, ◌≤◌, Bool, true, List, [], ◌++◌, length}
use Rattle.sat_follow.specs.declared.follower.TheConstants.{BYTES_END}

pub record Meaning : Type 0 where
  -- whether none of the text's whole lines is bad
  pub good : List ℕ → Bool
  -- what its whole lines are answered, where none of them is bad
  pub answers : List ℕ → List ℕ
  -- all that is written of it
  pub output : List ℕ → List ℕ
  -- its status: 0, or 1 where a line is bad
  pub status : List ℕ → ℕ
  -- where none of its whole lines is bad, it has at most as many bytes
  pub most : ℕ

-- Of these bytes none of the whole lines is bad. They are not too many, and what is written of a text that begins with
-- them begins with the answers of these lines. Of no bytes nothing is answered.
pub record IsAnswered (m : Meaning) (front : List ℕ) : Type 0 where
  pub good : m.good front ≡ true
  pub few : length front ≤ m.most
  pub bounded : m.most < BYTES_END
  pub begins : (more : List ℕ) → (tail : List ℕ) × (m.output (front ++ more) ≡ m.answers front ++ tail)
  pub from_nothing : m.answers [] ≡ []

-- A follower of any such bytes follows a piece more, whose lines are answered by a text.
pub record GoesOn (m : Meaning) (old new : List ℕ → Type 0) (piece text : List ℕ) : Type 0 where
  pub follows : (front : List ℕ) → old front → new (front ++ piece)
  pub answers : (front : List ℕ) → old front → m.answers (front ++ piece) ≡ m.answers front ++ text

-- Behind any bytes that it follows a piece has a bad line: this text is the rest of the output, whatever comes.
pub record StopsAt (m : Meaning) (old : List ℕ → Type 0) (piece text : List ℕ) : Type 0 where
  pub output : (front more : List ℕ) → old front → m.output (front ++ piece ++ more) ≡ m.answers front ++ text
  pub status : (front more : List ℕ) → old front → m.status (front ++ piece ++ more) ≡ 1

-- Where no more comes behind any bytes that it follows, this text is the rest of the output, and this the status.
pub record EndsAt (m : Meaning) (old : List ℕ → Type 0) (text : List ℕ) (status : ℕ) : Type 0 where
  pub output : (front : List ℕ) → old front → m.output front ≡ m.answers front ++ text
  pub status_is : (front : List ℕ) → old front → m.status front ≡ status
