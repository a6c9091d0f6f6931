use Rattle.std.proofs.Common.{◌≡◌, ◌∙◌, sym, ap, subst, ◌+◌, ◌-◌, length, Result, take, drop, position, None, Some, List, ℕ, Bor}
use Rattle.sat_script.specs.Grammar.{parted_line, tree_line, is_slash}
use Rattle.sat_script.specs.Lines.{Gives}
use Rattle.sat_script.proofs.Cuts.{texts}
use Rattle.sat_script.proofs.Lookup.{position_by}
use Rattle.sat_script.proofs.Steps.{front_texts, rest_texts}
use Rattle.sat_script.proofs.header_lines.parted_line.Goals as goal
use Rattle.std.proofs.Common.{refl}
use Rattle.sat_script.specs.State.{State}
use Rattle.sat_script.specs.declared.fault.Cause.{Cause}
use Rattle.sat_script.specs.declared.line.Parsed.{Parsed}

place : (words : List (Bor (List ℕ))) → position (λ (word : Bor (List ℕ)). is_slash word.now) words ≡ position is_slash (texts words)
place words = position_by (λ (word : Bor (List ℕ)). word.now) (λ (word : Bor (List ℕ)). is_slash word.now) is_slash (λ word. refl) words

parted : (s : State) (words : List (Bor (List ℕ))) (slash : ℕ) → position is_slash (texts words) ≡ Some slash
    → tree_line s (texts (take slash words)) (texts (take (length words - (slash + 1)) (drop (slash + 1) words))) ≡ parted_line s (texts words) (position is_slash (texts words))
unfolding parted_line
parted s words slash at =
    ap (λ (parents : List (List ℕ)). tree_line s parents (texts (take (length words - (slash + 1)) (drop (slash + 1) words)))) (front_texts slash words)
    ∙ ap (tree_line s (take slash (texts words))) (rest_texts (slash + 1) words)
    ∙ sym (ap (parted_line s (texts words)) at)

pub returns-in-Some : goal.returns-in-Some
returns-in-Some c =
    let at : position is_slash (texts c.args.words.now) ≡ Some c.in-Some.slash = sym (place c.args.words.now) ∙ sym c.slash_of.ensures.place ∙ c.in-Some.is in
    subst (λ (said : Result Parsed Cause). Gives c.tree_line.result said) (parted c.args.place.now c.args.words.now c.in-Some.slash at) c.tree_line.ensures

pub returns-in-None : goal.returns-in-None
unfolding parted_line
returns-in-None c = λ _.
    let at : position is_slash (texts c.args.words.now) ≡ None = sym (place c.args.words.now) ∙ sym c.slash_of.ensures.place ∙ c.in-None.is in
    rw at refl
