-- A list and the numbers of its pairs by neighbour, one pair more.
use Rattle.std.proofs.Common.{◌≡◌, ◌<◌, ◌≤◌, ◌≢◌, ℕ, zero, suc, ◌+◌, ◌==◌, Bool, true, false, List, [], ◌∷◌, ◌++◌, length, get_or, replicate, if◌then◌else◌, refl, sym, ap, subst, ◌∙◌, arith, length-append, get_or-set_same, get_or-set_other, length-set, inl, inr}
use Rattle.std.proofs.lemmas.List.{get_or_past, length-replicate}
use Rattle.std.proofs.lemmas.Bool.Decides.{nat_tests}
use Rattle.sat_label.specs.declared.node.NodeId.{NodeId}
use Rattle.sat_label.specs.Order.{node_eq}
use Rattle.sat_label.proofs.SameNodes.{same-node}
use Rattle.sat_serial.specs.Hits.{code}
use Rattle.sat_serial.proofs.Places.{same-code}
use Rattle.sat_chain_laws.specs.declared.pair.Pair.{Pair}
use Rattle.sat_chain_laws.specs.Rows.{labels_from}
use Rattle.sat_chain_laws.proofs.Rows.{either}
use Rattle.sat_chain_laws.proofs.Lists.{labels-append, labels-own, labels-other}
use Rattle.sat_chain.specs.declared.by_node.TheConstants.{PLACES}
use Rattle.sat_chain.specs.Tallies.{raised, TellsFrom}

pub zero-at : (n k : ℕ) → ◌≡◌ {A = ℕ} (get_or (replicate n 0) k 0) 0
zero-at zero k = refl
zero-at (suc n) zero = refl
zero-at (suc n) (suc k) = zero-at n k

-- no more pairs came from a neighbour than the list has
pub few-from : (u : NodeId) (xs : List Pair) → length (labels_from u xs) ≤ length xs
unfolding labels_from
few-from u [] = omega arith
few-from u (p ∷ ps) = go (node_eq p.from u) (few-from u ps)
  where
    go : (b : Bool) → length (labels_from u ps) ≤ length ps → length (if b then p.label ∷ labels_from u ps else labels_from u ps) ≤ suc (length ps)
    go true e = omega arith
    go false e = omega arith

pub tells-none : (numbers : List ℕ) → numbers ≡ replicate PLACES 0 → TellsFrom [] numbers
unfolding labels_from
tells-none numbers e = record {
  size = ap length e ∙ length-replicate {A = ℕ} PLACES 0;
  each = λ u lt. ap (λ (ns : List ℕ). get_or ns (code u) 0) e ∙ zero-at PLACES (code u);
}

other-code : (u v : NodeId) → node_eq u v ≡ false → code v ≢ code u
other-code u v e same = let t : (code u == code v) ≡ true = grind (arith, nat_tests) in let f : (code u == code v) ≡ false = same-code u v ∙ e in cc

-- the numbers after one more of a node
pub raised-same : (numbers : List ℕ) (u : NodeId) → code u < length numbers → get_or (raised numbers u) (code u) 0 ≡ get_or numbers (code u) 0 + 1
raised-same numbers u lt = get_or-set_same numbers (code u) (get_or numbers (code u) 0 + 1) 0 lt

pub raised-other : (numbers : List ℕ) (u v : NodeId) → node_eq u v ≡ false → get_or (raised numbers u) (code v) 0 ≡ get_or numbers (code v) 0
raised-other numbers u v e = get_or-set_other numbers (code u) (code v) (get_or numbers (code u) 0 + 1) 0 (other-code u v e)

-- one pair more
pub more-from : (xs : List Pair) (p : Pair) (numbers : List ℕ) → length numbers ≡ PLACES → ((u : NodeId) → code u < PLACES → get_or numbers (code u) 0 ≡ length (labels_from u xs)) →
    (u : NodeId) → code u < PLACES → get_or (raised numbers p.from) (code u) 0 ≡ length (labels_from u (xs ++ p ∷ []))
more-from xs p numbers size had u lt = go (node_eq p.from u) refl
  where
    go : (b : Bool) → node_eq p.from u ≡ b → get_or (raised numbers p.from) (code u) 0 ≡ length (labels_from u (xs ++ p ∷ []))
    go true w =
        let same : p.from ≡ u = same-node p.from u w in
        let one : length (labels_from u (p ∷ [])) ≡ 1 = subst (λ (v : NodeId). length (labels_from v (p ∷ [])) ≡ 1) same (ap length (labels-own p)) in
        let all : length (labels_from u (xs ++ p ∷ [])) ≡ length (labels_from u xs) + length (labels_from u (p ∷ [])) = ap length (labels-append u xs (p ∷ [])) ∙ length-append (labels_from u xs) (labels_from u (p ∷ [])) in
        let now : get_or (raised numbers p.from) (code u) 0 ≡ get_or numbers (code u) 0 + 1 =
        subst (λ (v : NodeId). get_or (raised numbers v) (code u) 0 ≡ get_or numbers (code u) 0 + 1) (sym same) (raised-same numbers u (omega (arith, lt, size))) in
        let old : get_or numbers (code u) 0 ≡ length (labels_from u xs) = had u lt in
        omega arith
    go false w =
        let none : length (labels_from u (p ∷ [])) ≡ 0 = ap length (labels-other u p w) in
        let all : length (labels_from u (xs ++ p ∷ [])) ≡ length (labels_from u xs) + length (labels_from u (p ∷ [])) = ap length (labels-append u xs (p ∷ [])) ∙ length-append (labels_from u xs) (labels_from u (p ∷ [])) in
        raised-other numbers p.from u w ∙ had u lt ∙ omega arith

pub raised-size : (numbers : List ℕ) (u : NodeId) → length (raised numbers u) ≡ length numbers
raised-size numbers u = length-set numbers (code u) (get_or numbers (code u) 0 + 1)

pub tells-more : (xs : List Pair) (p : Pair) (numbers : List ℕ) → TellsFrom xs numbers → TellsFrom (xs ++ p ∷ []) (raised numbers p.from)
tells-more xs p numbers had = record { size = raised-size numbers p.from ∙ had.size; each = λ u lt. more-from xs p numbers had.size had.each u lt }

-- a number stays in range, since no list has more members
pub in-range : (u : NodeId) (xs : List Pair) (numbers : List ℕ) → TellsFrom xs numbers → length xs < 18446744073709551615 → get_or numbers (code u) 0 < 18446744073709551615
in-range u xs numbers had small = elim (either (code u + 1) PLACES) [
  | inl low ↦ let k : get_or numbers (code u) 0 ≡ length (labels_from u xs) = had.each u (omega arith) in let few : length (labels_from u xs) ≤ length xs = few-from u xs in omega arith
  | inr high ↦ let k : get_or numbers (code u) 0 ≡ 0 = get_or_past numbers (code u) 0 (omega (arith, had.size)) in omega arith
]
