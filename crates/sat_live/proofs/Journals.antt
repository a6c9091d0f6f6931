-- A journal's acts, and their history.
use Rattle.std.proofs.Common.{◌≡◌, ℕ, zero, suc, ◌<◌, ◌≤◌, ◌^◌, Bool, true, nat_lt, Option, Some, List, [], ◌∷◌, ◌++◌, length, reverse, arith, refl, sym, ap, ◌∙◌, subst}
use Rattle.std.specs.Prelude.{IfSome}
use Rattle.std.specs.List.{AllByRecursion}
use Rattle.std.proofs.lemmas.Bool.Decides.{nat_tests}
use Rattle.std.proofs.lemmas.List.{reverse-reverse}
use Rattle.sat_label.specs.declared.node.NodeId.{NodeId}
use Rattle.sat_label.specs.declared.node.NodeId.TheVariants.{Serializer}
use Rattle.sat_tree.specs.Shape.{TreeShape}
use Rattle.sat_tree.specs.Cut.{IsNode, is_edge}
use Rattle.sat_act.specs.declared.act.Act.{Act}
use Rattle.sat_act.specs.declared.act.Act.TheVariants as act
use Rattle.sat_act.specs.declared.entry.Entry.{Entry}
use Rattle.sat_act.specs.Deployed.{Deployed}
use Rattle.sat_act.specs.Parts.{tree_of}
use Rattle.sat_act.specs.Ranges.{ArePair, IsActOf}
use Rattle.sat_act.specs.Settling.{run}
use Rattle.sat_script.specs.Spelled.{AreActsOf}
use Rattle.sat_runs.specs.Runs.{history}
use Rattle.sat_stitch.specs.Kept.{acts_of}
use Rattle.sat_stitch.proofs.Stitches.{reverse-cons}
use Rattle.sat_undone.specs.Counted.{IsKnown}
use Rattle.sat_live.specs.Coming.{IsOneRun}

-- ---- the acts of entries

acts-append : (xs ys : List Entry) → acts_of (xs ++ ys) ≡ acts_of xs ++ acts_of ys
acts-append [] ys = refl
acts-append (x ∷ xs) ys = ap (λ (acts : List Act). x.act ∷ acts) (acts-append xs ys)

acts-reverse : (xs : List Entry) → acts_of (reverse xs) ≡ reverse (acts_of xs)
acts-reverse [] = refl
acts-reverse (x ∷ xs) =
    ap acts_of (reverse-cons x xs) ∙ (acts-append (reverse xs) (x ∷ []) ∙ (ap (λ (acts : List Act). acts ++ x.act ∷ []) (acts-reverse xs) ∙ sym (reverse-cons x.act (acts_of xs))))

-- an act more
pub acts_more : (xs : List Entry) (x : Entry) (acts : List Act) → acts ≡ acts_of xs → acts ++ x.act ∷ [] ≡ acts_of (xs ++ x ∷ [])
acts_more xs x acts e = ap (λ (before : List Act). before ++ x.act ∷ []) e ∙ sym (acts-append xs (x ∷ []))

pub each_more : (d : Deployed) (acts : List Act) (a : Act) → AreActsOf d acts → IsActOf d a → AreActsOf d (acts ++ a ∷ [])
each_more d [] a all is = (is, tt)
each_more d (b ∷ acts) a all is = (all.0, each_more d acts a all.1 is)

-- ---- their history is the journal

pub rerun : (d : Deployed) (journal : List Entry) → IsOneRun d journal → history d (acts_of journal) ≡ reverse journal
unfolding history
rerun d journal one = ap (run d) (sym (acts-reverse journal)) ∙ one.of_acts

pub journal_is : (d : Deployed) (journal : List Entry) → IsOneRun d journal → reverse (history d (acts_of journal)) ≡ journal
journal_is d journal one = ap (λ (h : List Entry). reverse h) (rerun d journal one) ∙ reverse-reverse journal

-- ---- whose acts

known_act : (d : Deployed) (a : Act) → IsActOf d a → IsKnown (length d.clients) a
known_act d (act.Write c n value) is b e = let same : c ≡ b = cc in subst (λ (k : ℕ). k < length d.clients) same is.0
known_act d (act.Writes c items values) is b e = let same : c ≡ b = cc in subst (λ (k : ℕ). k < length d.clients) same is.0
known_act d (act.Read c n) is b e = let same : c ≡ b = cc in subst (λ (k : ℕ). k < length d.clients) same is.0
known_act d (act.Move c j) is b e = let same : c ≡ b = cc in subst (λ (k : ℕ). k < length d.clients) same is.0
known_act d (act.Leave c) is b e = let same : c ≡ b = cc in subst (λ (k : ℕ). k < length d.clients) same is
known_act d (act.Attach c j) is b e = let same : c ≡ b = cc in subst (λ (k : ℕ). k < length d.clients) same is.0
known_act d _ is b e = absurd (cc)

pub known_acts : (d : Deployed) (acts : List Act) → AreActsOf d acts → AllByRecursion (IsKnown (length d.clients)) acts
known_acts d [] all = tt
known_acts d (a ∷ acts) all = (known_act d a all.0, known_acts d acts all.1)

-- ---- acts that have a line

-- epochs count from 1
some-epoch : (d : Deployed) (e : ℕ) (tree : TreeShape) → tree_of d e ≡ Some tree → 1 ≤ e
unfolding tree_of
some-epoch d zero tree at = absurd (cc)
some-epoch d (suc e) tree at = omega arith

below-by : (n m : ℕ) → nat_lt n m ≡ true → n < m
below-by n m e = grind (arith, nat_tests)

pub kill_at : (d : Deployed) (e z n : ℕ) (tree : TreeShape) → Some tree ≡ tree_of d e → n ≡ length tree.parents → nat_lt z n ≡ true → IsActOf d (act.Kill e z)
kill_at d e z n tree at size less = (tree, some-epoch d e tree (sym at), sym at, subst (λ (k : ℕ). z < k) size (below-by z n less))

pub hop_at : (d : Deployed) (e z : ℕ) (u : NodeId) (tree : TreeShape) (b : Bool) → Some tree ≡ tree_of d e → IsNode tree u → b ≡ is_edge tree u (Serializer z) → b ≡ true → IsActOf d (act.Hop e u z)
hop_at d e z u tree b at node edge yes-edge = (tree, some-epoch d e tree (sym at), sym at, node, sym edge ∙ yes-edge)

pub bulk_at : (d : Deployed) (a : Act) (i g j k : ℕ) (n : Option ℕ) → a ≡ act.Bulk i g j n → ArePair d i j → k ≡ d.gears → IfSome n (λ m. m < 2 ^ 64) → nat_lt g k ≡ true → IsActOf d a
bulk_at d a i g j k n is pair gears small less = subst (IsActOf d) (sym is) (pair, subst (λ (m : ℕ). g < m) gears (below-by g k less), small)
