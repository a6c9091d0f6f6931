-- What is made of a text line by line.
use Rattle.std.specs.Prelude.{ℕ, ◌+◌, ◌==◌, Bool, false, List, [], ◌∷◌, ◌++◌}
use Rattle.std.specs.List.{slice_split}
use Rattle.sat_follow.specs.Meaning.{Meaning}

-- what a whole line comes to, without its byte 10: a state and an answer, or the text of its fault
pub data Outcome (S : Type 0) : Type 0 where
  goes : S → List ℕ → Outcome S
  stops : List ℕ → Outcome S

-- what the end of a text comes to: whether what stands behind its last byte 10 may be the beginning of a good line,
-- what is written, and the text's status
pub record Closing : Type 0 where
  pub may_go_on : Bool
  pub text : List ℕ
  pub status : ℕ

pub record Rules (S : Type 0) : Type 0 where
  -- before the first line
  pub start : S
  -- what a line comes to
  pub line : S → List ℕ → Outcome S
  -- what the end comes to, where this stands behind the last byte 10
  pub close : S → List ℕ → Closing
  -- good lines up to a state have at most so many bytes, and never more than the most
  pub bytes : S → ℕ
  pub most : ℕ
  -- a line that has begun may be good while it has no more bytes
  pub longest : ℕ

-- what is made of a text: whether none of its lines is bad, the answers of its lines before the first bad one, all that
-- is written, and the status
pub record Made : Type 0 where
  pub good : Bool
  pub answers : List ℕ
  pub output : List ℕ
  pub status : ℕ

-- the same behind answers
abbrev pub behind : List ℕ → Made → Made
behind told m = record { good = m.good; answers = told ++ m.answers; output = told ++ m.output; status = m.status }

-- what the end makes
abbrev pub at_end : Closing → Made
at_end c = record { good = c.may_go_on; answers = []; output = c.text; status = c.status }

-- what a bad line makes
abbrev pub at_fault : List ℕ → Made
at_fault text = record { good = false; answers = []; output = text; status = 1 }

-- what a line makes, where go_on says what the lines after it make
abbrev pub after_line : {S : Type 0} → (S → Made) → Outcome S → Made
after_line go_on (goes s text) = behind text (go_on s)
after_line go_on (stops text) = at_fault text

-- the lines from a state on; the last part has no byte 10 after it
unfoldable pub made_from : {S : Type 0} → Rules S → S → List (List ℕ) → Made
made_from r s [] = at_end (r.close s [])
made_from r s (rest ∷ []) = at_end (r.close s rest)
made_from r s (line ∷ part ∷ parts) = after_line (λ later. made_from r later (part ∷ parts)) (r.line s line)

abbrev pub is_newline : ℕ → Bool
is_newline byte = byte == 10

-- what is made of a text
unfoldable pub made : {S : Type 0} → Rules S → List ℕ → Made
unfolding made_from
made r text = made_from r r.start (slice_split is_newline text)

-- the same, as a follower has it
abbrev pub meaning_of : {S : Type 0} → Rules S → Meaning
meaning_of r = record {
  good = λ text. (made r text).good;
  answers = λ text. (made r text).answers;
  output = λ text. (made r text).output;
  status = λ text. (made r text).status;
  most = r.most + r.longest;
}
