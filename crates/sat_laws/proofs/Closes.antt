-- What a turn that took a Close tells.
use Rattle.std.specs.Prelude.{◌≡◌, ℕ, Bool, true, false, ◌&&◌, List, [], ◌∷◌, Option, Some, ◌==◌}
use Rattle.std.proofs.Common.{sym, inl, inr, ap, ◌∙◌}
use Rattle.std.proofs.lemmas.Bool.{and_parts, eqb-true, or_cases}
use Rattle.sat_label.specs.declared.label.Label.{Label}
use Rattle.sat_label.specs.declared.node.NodeId.{NodeId}
use Rattle.sat_label.specs.declared.node.NodeId.TheVariants.{Site}
use Rattle.sat_tree.specs.Shape.{TreeShape}
use Rattle.sat_act.specs.declared.act.Act.{Act}
use Rattle.sat_act.specs.declared.answer.Answer.{Answer}
use Rattle.sat_act.specs.declared.entry.Entry.{Entry}
use Rattle.sat_act.specs.Deployed.{Deployed}
use Rattle.sat_act.specs.Parts.{handling, tree_of}
use Rattle.sat_act.specs.Runs.{IsRun}
use Rattle.sat_act.specs.Goals.{IsValid}
use Rattle.sat_laws.proofs.Steps.{Step}
use Rattle.sat_laws.proofs.Runs.{step_of, before_of, entry}
use Rattle.sat_laws.proofs.Handlings.{handled_as}
use Rattle.sat_label.specs.declared.label.Kind.TheVariants as kind
use Rattle.sat_laws.proofs.Links.{HandledFrom, SentIn}
use Rattle.sat_label.specs.declared.label.Kind.{Kind}
use Rattle.sat_act.specs.declared.act.Act.TheVariants as act
use Rattle.sat_act.specs.declared.answer.Answer.TheVariants as ans
use Rattle.sat_act.specs.Parts.{view}
use Rattle.sat_laws.proofs.Steps.{took}
use Rattle.sat_label.specs.declared.label.Kind.TheVariants as kind
use Rattle.sat_laws.proofs.Sendings.{close-now}
use Rattle.sat_act.specs.Answers.{took_close}

pub record TookClose (d : Deployed) (h : List Entry) (j i e : ℕ) : Type 0 where
  pub label : Label
  pub epoch : ℕ
  pub tree : TreeShape
  pub from : NodeId
  pub is_tree : tree_of d epoch ≡ Some tree
  pub handled : HandledFrom d h epoch (Site j) (Some from) label
  pub site : label.point.site ≡ i
  pub kind : label.kind ≡ kind.Close e

pub took-later : (d : Deployed) (h : List Entry) (x : Entry) (j i e : ℕ) → TookClose d h j i e → TookClose d (x ∷ h) j i e
unfolding HandledFrom
took-later d h x j i e c = record { label = c.label; epoch = c.epoch; tree = c.tree; from = c.from; is_tree = c.is_tree; handled = inl c.handled; site = c.site; kind = c.kind }

close_is : (l : Label) (e : ℕ) → elim l.kind [ kind.Close f ↦ f == e | _ ↦ false ] ≡ true → l.kind ≡ kind.Close e
close_is l e m = go l.kind m
  where
    go : (k : Kind) → elim k [ kind.Close f ↦ f == e | _ ↦ false ] ≡ true → k ≡ kind.Close e
    go (kind.Close f) m = ap (λ (y : ℕ). kind.Close y) (eqb-true f e m)
    go _ m = absurd (cc)

took-step : (d : Deployed) (h : List Entry) (j i e : ℕ) (a : Act) (r : Answer) (n : Bool) → Step d h a r → took_close (entry a r n ∷ h) j i e ≡ true → (took_close h j i e ≡ true → TookClose d h j i e) → TookClose d (entry a r n ∷ h) j i e
unfolding took_close handling HandledFrom
took-step d h j i e a r n (took {j = k} {t = t} {z = z} {l = l} m p s w u) c old =
    elim (or_cases ((k == j) && ((l.point.site == i) && elim l.kind [ kind.Close f ↦ f == e | _ ↦ false ])) (took_close h j i e) c) [
      | inl q ↦
          let b : ((k == j) ≡ true) × (((l.point.site == i) && elim l.kind [ kind.Close f ↦ f == e | _ ↦ false ]) ≡ true) = and_parts (k == j) _ q in
          let b' : ((l.point.site == i) ≡ true) × (elim l.kind [ kind.Close f ↦ f == e | _ ↦ false ] ≡ true) = and_parts (l.point.site == i) _ b.1 in
          record {
            label = l;
            epoch = view h k;
            tree = t;
            from = z;
            is_tree = p;
            handled = inr (ap (λ (o : Option NodeId). Some (handled_as (view h k) (Site k) o l)) s ∙ ap (λ (y : ℕ). Some (handled_as (view h k) (Site y) (Some z) l)) (eqb-true k j b.0));
            site = eqb-true l.point.site i b'.0;
            kind = close_is l e b'.1;
          }
      | inr q ↦ took-later d h (entry (act.Turn k) (ans.Took l) n) j i e (old q)
    ]
took-step d h j i e a r n _ c old = took-later d h (entry a r n) j i e (old c)

pub took-close : (d : Deployed) (h : List Entry) (j i e : ℕ) → IsRun d h → took_close h j i e ≡ true → TookClose d h j i e
took-close d [] j i e run c = absurd (unfold took_close in cc)
took-close d (x ∷ h) j i e run c = took-step d h j i e x.act x.answer x.inner (step_of d h x run) c (took-close d h j i e (before_of d h x run))

-- a close is sent in the epoch that it closes
pub close-epoch : (d : Deployed) (h : List Entry) (i f e : ℕ) (c : Label) → IsValid d → IsRun d h → SentIn h i f c → c.kind ≡ kind.Close e → f ≡ e
unfolding SentIn
close-epoch d [] i f e c v run s k = absurd s
close-epoch d (x ∷ h) i f e c v run (inl s) k = close-epoch d h i f e c v (before_of d h x run) s k
close-epoch d (x ∷ h) i f e c v run (inr s) k = sym s.1 ∙ sym (close-now d h i e x.act x.answer x.inner c v (before_of d h x run) (step_of d h x run) s.0 k).0
