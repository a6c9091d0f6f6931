-- A settle ends at rest.
use Rattle.std.specs.Prelude.{◌≡◌, ◌⊎◌, ◌<◌, ◌≤◌, ℕ, true, false, List, [], Option, Some, None, refl, length}
use Rattle.std.proofs.Common.{sym, subst, arith, inl, inr, ap}
use Rattle.sat_label.specs.declared.label.Label.{Label}
use Rattle.sat_label.specs.declared.node.NodeId.{NodeId}
use Rattle.sat_tree.specs.Shape.{TreeShape}
use Rattle.sat_tree.specs.Cut.{is_edge}
use Rattle.sat_act.specs.declared.entry.Entry.{Entry}
use Rattle.sat_act.specs.Deployed.{Deployed}
use Rattle.sat_act.specs.Parts.{tree_of, emission, view, goes_beyond, entered, taken, came_from, waiting}
use Rattle.sat_act.specs.Runs.{IsRun}
use Rattle.sat_act.specs.Settling.{settle}
use Rattle.sat_rest.specs.Ends.{IsWithin, IsQuiet}
use Rattle.sat_rest.specs.Rest.{CanEnd, IsPlace, LinkWhole, LanesWhole, LeftByStamps, IsAtRest}
use Rattle.sat_rest.specs.Laws.{EverySettleRests}
use Rattle.sat_laws.proofs.Handlings.{handled_as}
use Rattle.sat_laws.proofs.Links.{HandledFrom, SentIn, entered-in, taken-below}
use Rattle.sat_laws.proofs.Arrivals.{handled-sent-in, epoch-bound}
use Rattle.sat_rest.proofs.Settles.{round-quiet, settle-ends}
use Rattle.sat_rest.proofs.Emptying.{lanes-whole, settled-sent}
use Rattle.sat_rest.proofs.QuietEnd.{none_empty, sent-range, view-whole, nothing-waits, left-whole}
use Rattle.sat_rest.proofs.StampEnd.{stamps-empty, settle-bests}

-- nothing entered a tree of a later epoch
later-whole : (d : Deployed) (h : List Entry) (e : ℕ) (t : TreeShape) (x y : NodeId) → IsWithin d → IsRun d h → (end : CanEnd d h) → end.epoch < e → tree_of d e ≡ Some t → LinkWhole d h e t x y
later-whole d h e t x y w run end lt k =
    let a : taken d h e x y ≤ length (entered d h e t x y) = taken-below d h e t x y run k in
    let b : length (entered d h e t x y) ≡ 0 = ap (λ (ls : List Label). length ls) (none_empty (entered d h e t x y) (λ l m. none l (entered-in d h e t x y l m))) in
    both (taken d h e x y) (length (entered d h e t x y)) a b
  where
    both : (a b : ℕ) → a ≤ b → b ≡ 0 → a ≡ b
    both a b l e = omega arith

    none : (l : Label) → (o : Option NodeId) × HandledFrom d h e x o l × (came_from (handled_as e x o l) y ≡ false) × (goes_beyond d t x y l ≡ true) → ⊥
    none l m =
        let s : SentIn h l.point.site e l = handled-sent-in d h e x m.0 l run m.1 in
        let a : e ≤ emission h l.point.site = epoch-bound h l.point.site e l s in
        let b : emission h l.point.site ≡ end.epoch = end.emissions l.point.site (sent-range d h w run e t k l s) in
        omega arith

order : (a b : ℕ) → (a < b) ⊎ ((a ≡ b) ⊎ (b < a))
order a b = grind arith

rests-at : (d : Deployed) (h0 : List Entry) → IsWithin d → IsRun d h0 → IsRun d (settle d h0).1 → IsQuiet d (settle d h0).1 → (end : CanEnd d (settle d h0).1) → IsAtRest d (settle d h0).1 end.epoch
rests-at d h0 w run0 run quiet end = record {
  nothing_waits = λ j b. wait j b (tree_of d end.epoch) refl;
  lanes = lanes;
  links = λ e t x y p k left px py edge. link e t x y p k left px py edge (order e end.epoch);
}
  where
    lanes : LanesWhole d (settle d h0).1
    lanes = lanes-whole d (settle d h0).1 w.valid run quiet

    wait : (j : ℕ) → j < d.sites → (o : Option TreeShape) → tree_of d end.epoch ≡ o → waiting (settle d h0).1 j ≡ []
    wait j b None k = stamps-empty d (settle d h0).1 w run quiet end j b k (λ i bi ne. settle-bests d h0 j w run0 lanes b i bi ne)
    wait j b (Some t) k = nothing-waits d (settle d h0).1 w run quiet end j t b k (λ i bi. settled-sent d h0 i w run0 bi)

    link : (e : ℕ) (t : TreeShape) (x y : NodeId) → 1 ≤ e → tree_of d e ≡ Some t → (e < end.epoch → LeftByStamps d (settle d h0).1 e → ⊥) → IsPlace d x → IsPlace d y → is_edge t x y ≡ true → (e < end.epoch) ⊎ ((e ≡ end.epoch) ⊎ (end.epoch < e)) → LinkWhole d (settle d h0).1 e t x y
    link e t x y p k left px py edge (inl lt) =
        left-whole d (settle d h0).1 w run e t k p (λ j b. let v : view (settle d h0).1 j ≡ end.epoch = end.views j b in omega arith) (left lt) x y edge
    link e t x y p k left px py edge (inr (inl s)) =
        subst (λ (f : ℕ). LinkWhole d (settle d h0).1 f t x y) (sym s) (view-whole d (settle d h0).1 w run quiet end t x y (subst (λ (f : ℕ). tree_of d f ≡ Some t) s k) px py edge)
    link e t x y p k left px py edge (inr (inr lt)) = later-whole d (settle d h0).1 e t x y w run end lt k

pub rests : EverySettleRests
rests d h w run end =
    let e = settle-ends d h w run in
    rests-at d h w run e.progress.is_run (round-quiet d (settle d h).1 w e.progress.is_run e.quiet) end
