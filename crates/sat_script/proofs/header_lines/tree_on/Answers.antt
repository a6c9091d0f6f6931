use Rattle.std.proofs.Common.{rules, ◌≡◌, ◌∙◌, ap, false, ◌+◌, length, subst, map, ℕ, List, Bor}
use Rattle.sat_tree.specs.Shape.{TreeShape}
use Rattle.sat_script.specs.Words.{are_below, value_of}
use Rattle.sat_script.specs.Lines.{IsTreeOf}
use Rattle.std.proofs.lemmas.List.{length-map}
use Rattle.sat_script.proofs.Cuts.{texts}
use Rattle.sat_script.proofs.Trees.{wrong_parents, wrong_seats, tree_named}
use Rattle.sat_script.proofs.header_lines.tree_on.Goals as goal

pub returns-in_default : goal.returns-in_default
returns-in_default c =
    let none : are_below (length c.args.words.now + 1) (texts c.args.words.now) ≡ false = search rules in
    wrong_parents c.args.sites (texts c.args.words.now) (texts c.args.seats.now) c.requires.few (ap (λ n. are_below (n + 1) (texts c.args.words.now)) (length-map c.args.words.now (λ (word : Bor (List ℕ)). word.now)) ∙ none)

pub returns-in_default-2 : goal.returns-in_default-2
returns-in_default-2 c =
    let none : are_below (length c.args.words.now + 1) (texts c.args.seats.now) ≡ false = search rules in
    wrong_seats c.args.sites (texts c.args.words.now) (texts c.args.seats.now) c.requires.few (ap (λ n. are_below (n + 1) (texts c.args.seats.now)) (length-map c.args.words.now (λ (word : Bor (List ℕ)). word.now)) ∙ none)

pub returns : goal.returns
returns c =
    let numbers : c.in-Some.numbers.items ≡ map value_of (texts c.args.words.now) = search rules in
    let seats : c.in-Some-2.seats.items ≡ map value_of (texts c.args.seats.now) = search rules in
    let same = tree_named (texts c.args.words.now) (texts c.args.seats.now) c.as_slice-2.result.now c.in-Some.numbers.items c.as_slice-3.result.now numbers (search rules) (c.as_slice-3.ensures.value ∙ seats) in
    subst (λ (t : TreeShape). IsTreeOf c.args.sites t c.in_ok-tree.tree) same c.in_ok-tree.ensures
