-- What becomes of what a node is handed.
use Rattle.std.proofs.Common.{◌≡◌, ℕ, ◌^◌, ◌≤◌, ◌<◌, nat_lt, Bool, true, false, if◌then◌else◌, refl, sym, ap, ◌∙◌, arith}
use Rattle.std.proofs.lemmas.Bool.Decides.{nat_tests}
use Rattle.sat_process.specs.declared.hosted.Became.{Became}
use Rattle.sat_process.specs.declared.hosted.Became.TheVariants as became
use Rattle.sat_process.specs.Processes.{foreseen}

pub foreseen_full : (would : Became) (size : ℕ) (allowed : Bool) → 2 ^ 40 < size → became.Full ≡ foreseen would size allowed
foreseen_full would size allowed above = (let is : nat_lt (2 ^ 40) size ≡ true = grind (arith, nat_tests, above) in sym (ap (λ (b : Bool). if b then became.Full else if allowed then would else became.Unspelled) is))

pub foreseen_else : (would : Became) (size : ℕ) (allowed : Bool) → size ≤ 2 ^ 40 → foreseen would size allowed ≡ (if allowed then would else became.Unspelled)
foreseen_else would size allowed below = (let is : nat_lt (2 ^ 40) size ≡ false = grind (arith, nat_tests, below) in ap (λ (b : Bool). if b then became.Full else if allowed then would else became.Unspelled) is)

pub foreseen_unspelled : (would : Became) (size : ℕ) (allowed : Bool) → size ≤ 2 ^ 40 → allowed ≡ false → became.Unspelled ≡ foreseen would size allowed
foreseen_unspelled would size allowed below not_ = sym (foreseen_else would size allowed below ∙ ap (λ (b : Bool). if b then would else became.Unspelled) not_)

pub foreseen_is : (would : Became) (size : ℕ) (allowed : Bool) → size ≤ 2 ^ 40 → allowed ≡ true → would ≡ foreseen would size allowed
foreseen_is would size allowed below is = sym (foreseen_else would size allowed below ∙ ap (λ (b : Bool). if b then would else became.Unspelled) is)

-- what is taken: the journal is not full, it has a spelling, and the node would take it
pub record IsTaken (would : Became) (size : ℕ) (allowed : Bool) : Type 0 where
  pub fits : size ≤ 2 ^ 40
  pub spelled : allowed ≡ true
  pub is : would ≡ became.Taken
