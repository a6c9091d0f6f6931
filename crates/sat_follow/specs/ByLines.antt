-- What the calls of a follower of lines do.
use Rattle.std.specs.Prelude.{ℕ, ◌≡◌, ◌+◌, ◌<◌, ◌≤◌, Bool, true, false, List, [], ◌∷◌, ◌++◌, length}
use Rattle.std.specs.List.{All, slice_split}
use Rattle.sat_follow.specs.Rules.{Rules, goes, stops, behind, made_from, made, is_newline}
use Rattle.sat_follow.specs.declared.follower.TheConstants.{BYTES_END}

-- no byte of a text ends a line
abbrev pub HasNoEnd : List ℕ → Type 0
HasNoEnd text = All (λ byte. is_newline byte ≡ false) text

-- what stands before the first byte 10, and what behind it
pub record IsLine (text line rest : List ℕ) : Type 0 where
  pub none : HasNoEnd line
  pub whole : text ≡ line ++ 10 ∷ rest

-- ---- a line

-- a good line is answered by this, and the follower stands for the state behind it, in which a line may begin
pub record GoesTo {S : Type 0} (r : Rules S) (s : S) (line added : List ℕ) (new : S → Type 0) : Type 0 where
  pub after : S
  pub says : r.line s line ≡ goes after added
  pub stands : new after
  pub counted : r.bytes s + length line + 1 ≤ r.bytes after
  pub few : r.bytes after ≤ r.most
  pub may_go_on : (r.close after []).may_go_on ≡ true

-- the line is good, and its answer stands behind what the text was
pub record GoodLine {S : Type 0} (r : Rules S) (old new : S → Type 0) (line text longer : List ℕ) : Type 0 where
  pub added : List ℕ
  pub longer_by : longer ≡ text ++ added
  pub each : (s : S) → old s → GoesTo r s line added new

-- the line is bad, and the text of its fault stands behind what the text was
pub record BadLine {S : Type 0} (r : Rules S) (old : S → Type 0) (line text longer : List ℕ) : Type 0 where
  pub added : List ℕ
  pub longer_by : longer ≡ text ++ added
  pub each : (s : S) → old s → r.line s line ≡ stops added

-- no more comes, and what the end makes stands behind what the text was
pub record EndsText {S : Type 0} (r : Rules S) (old : S → Type 0) (rest text longer : List ℕ)
    (status : ℕ) : Type 0 where
  pub added : List ℕ
  pub longer_by : longer ≡ text ++ added
  pub text_is : (s : S) → old s → (r.close s rest).text ≡ added
  pub status_is : (s : S) → old s → (r.close s rest).status ≡ status

-- ---- a line that has begun

-- with so many bytes it is bad, whatever they are and whatever comes behind them
pub record IsStuck {S : Type 0} (r : Rules S) (s : S) (count : ℕ) : Type 0 where
  pub text : List ℕ
  pub line : (line : List ℕ) → count ≤ length line → r.line s line ≡ stops text
  pub close : (rest : List ℕ) → count ≤ length rest → r.close s rest
      ≡ record { may_go_on = false; text = text; status = 1 }

-- or it may be good
pub record IsOpen {S : Type 0} (r : Rules S) (s : S) (count : ℕ) : Type 0 where
  pub short : count ≤ r.longest
  pub may_go_on : (rest : List ℕ) → length rest ≡ count → (r.close s rest).may_go_on ≡ true

abbrev pub IsStuckAt : {S : Type 0} → Rules S → S → ℕ → Bool → Type 0
IsStuckAt r s count true = IsStuck r s count
IsStuckAt r s count false = IsOpen r s count

-- ---- a text

-- before the first line, where no more bytes come without a bad line than may
pub record Begins {S : Type 0} (r : Rules S) (stands : S → Type 0) : Type 0 where
  pub stands_for : stands r.start
  pub few : r.bytes r.start ≤ r.most
  pub may_go_on : (r.close r.start []).may_go_on ≡ true
  pub bounded : r.most + r.longest < BYTES_END

-- bytes before the first part
abbrev pub onto_front : List ℕ → List (List ℕ) → List (List ℕ)
onto_front front [] = front ∷ []
onto_front front (part ∷ parts) = (front ++ part) ∷ parts

-- These bytes came: whole lines that were answered by this, and the beginning of a line. Whatever comes, it is made of
-- the state behind these lines.
pub record Follows {S : Type 0} (r : Rules S) (stands : S → Type 0) (begun front : List ℕ) : Type 0 where
  pub state : S
  pub stands_for : stands state
  pub told : List ℕ
  pub goes_on : (more : List ℕ) → made r (front ++ more)
      ≡ behind told (made_from r state (onto_front begun (slice_split is_newline more)))
  pub counted : length front ≤ r.bytes state + length begun
  pub few : r.bytes state ≤ r.most
  pub short : length begun ≤ r.longest
  pub may_go_on : (r.close state begun).may_go_on ≡ true
  pub bounded : r.most + r.longest < BYTES_END

-- bytes more, whose answers stand behind what the text was
pub record Adds {S : Type 0} (r : Rules S) (old new : List ℕ → Type 0) (piece text longer : List ℕ) : Type 0 where
  pub added : List ℕ
  pub longer_by : longer ≡ text ++ added
  pub follows : (front : List ℕ) → old front → new (front ++ piece)
  pub answers : (front : List ℕ) → old front → (made r (front ++ piece)).answers ≡ (made r front).answers ++ added

-- bytes with a bad line, where the rest of the output stands behind what the text was, whatever comes
pub record Breaks {S : Type 0} (r : Rules S) (old : List ℕ → Type 0) (piece text longer : List ℕ) : Type 0 where
  pub added : List ℕ
  pub longer_by : longer ≡ text ++ added
  pub output : (front more : List ℕ) → old front → (made r (front ++ piece ++ more)).output
      ≡ (made r front).answers ++ added
  pub status : (front more : List ℕ) → old front → (made r (front ++ piece ++ more)).status ≡ 1
