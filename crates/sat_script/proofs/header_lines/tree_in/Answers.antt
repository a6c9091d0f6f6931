use Rattle.std.proofs.Common.{rules, ◌≡◌, ◌∙◌, ap, true, ◌∷◌, [], length, subst, refl, ℕ, List, Bor, arith}
use Rattle.std.specs.List.{list_all}
use Rattle.std.specs.Prelude.{codes}
use Rattle.std.specs.Str.{bytes_eq}
use Rattle.std.proofs.lemmas.Bool.{and_parts}
use Rattle.sat_script.specs.Words.{is_number}
use Rattle.sat_script.specs.Grammar.{are_parents, is_tree, tree_in}
use Rattle.std.proofs.lemmas.List.{length-map}
use Rattle.sat_script.proofs.Cuts.{texts}
use Rattle.sat_script.proofs.Trees.{long_line, empty_line}
use Rattle.sat_script.proofs.header_lines.tree_in.Goals as goal

pub returns-then-parents-gt15 : goal.returns-then-parents-gt15
returns-then-parents-gt15 c = long_line c.args.sites (texts c.args.parents.now) (texts c.args.seats.now) c.requires.few (omega (arith, length-map c.args.parents.now (λ (word : Bor (List ℕ)). word.now)))

rest_numbers : (parents : List (Bor (List ℕ))) (root : Bor (List ℕ)) (words : List (Bor (List ℕ))) → parents ≡ root ∷ words → are_parents (texts parents) ≡ true → list_all is_number (texts words) ≡ true
unfolding are_parents
rest_numbers parents root words e h = (and_parts (bytes_eq root.now (codes "-")) (list_all is_number (texts words)) (subst (λ (ps : List (Bor (List ℕ))). are_parents (texts ps) ≡ true) e h)).1

pub tree_on-requires-clause-words : goal.tree_on-requires-clause-words
tree_on-requires-clause-words c = rest_numbers c.args.parents.now c.in-Some.field-0-0.now c.in-Some.words.now c.in-Some.ensures.cases.0 c.requires.parents

no_words : (words : List (Bor (List ℕ))) → length words ≡ 0 → words ≡ []
no_words [] e = refl
no_words (w ∷ words) e = absurd (omega arith)

pub returns-in-None : goal.returns-in-None
returns-in-None c =
    let zero : length c.args.parents.now ≡ 0 = search rules in
    let none = no_words c.args.parents.now zero in
    ap (λ (ps : List (Bor (List ℕ))). is_tree c.args.sites (tree_in (texts ps) (texts c.args.seats.now))) none ∙ empty_line c.args.sites (texts c.args.seats.now) c.requires.few
