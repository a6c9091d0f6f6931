use Rattle.std.proofs.Common.{◌≡◌, ◌++◌, ◌∷◌, [], List, ℕ, drop}
use Rattle.std.specs.Prelude.{codes}
use Rattle.sat_script.specs.Spelled.{acts_text, ended, spelling}
use Rattle.sat_script.proofs.write.write_script.Given as goal

abbrev pub invariant-loop-act : goal.invariant-loop-act
invariant-loop-act l =
    (front : List ℕ) × (spelling l.d l.acts ≡ front ++ (acts_text l.d (drop l.act-index l.acts) ++ ended (codes "end" ∷ []))) × (l.out.items ≡ l.fn.out.items ++ front)
