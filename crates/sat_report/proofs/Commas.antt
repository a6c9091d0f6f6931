-- Texts of nodes with a comma before each.
use Rattle.std.proofs.Common.{◌≡◌, ℕ, ◌≤◌, List, [], ◌∷◌, ◌++◌, length, drop, refl, sym, ap, ◌∙◌, arith}
use Rattle.std.proofs.lemmas.List.{append-nil, drop_all}
use Rattle.sat_label.specs.declared.node.NodeId.{NodeId}
use Rattle.sat_label.specs.Text.{node_text}
use Rattle.sat_report.specs.Texts.{nodes_text}
use Rattle.sat_report.specs.Frames.{commas}

pub joined_by_commas : (n : NodeId) (ns : List NodeId) → nodes_text (n ∷ ns) ≡ node_text n ++ commas ns
unfolding nodes_text
joined_by_commas n [] = sym (append-nil (node_text n))
joined_by_commas n (m ∷ ns) = ap (λ rest. node_text n ++ 44 ∷ rest) (joined_by_commas m ns)

-- all have been written
pub no_commas : (text whole : List ℕ) (ns : List NodeId) (i : ℕ) → length ns ≤ i → text ++ commas (drop i ns) ≡ whole → text ≡ whole
no_commas text whole ns i past e = sym (append-nil text) ∙ ap (λ ns. text ++ commas ns) (sym (drop_all i ns past)) ∙ e

pub no_nodes_text : (ns : List NodeId) → length ns ≡ 0 → nodes_text ns ≡ []
unfolding nodes_text
no_nodes_text [] e = refl
no_nodes_text (n ∷ ns) e = absurd (omega (arith, e))
