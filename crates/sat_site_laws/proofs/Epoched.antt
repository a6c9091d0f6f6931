-- What a site knows of its epochs stays what it is to be.
use Rattle.std.proofs.Common.{◌≡◌, ◌<◌, ◌≤◌, ◌+◌, ◌==◌, ℕ, Bool, true, false, List, [], ◌∷◌, length, Option, Some, None, if◌then◌else◌, refl, sym, ap, subst, ◌∙◌, arith, length-set}
use Rattle.std.proofs.lemmas.List.{length-append, length-replicate}
use Rattle.std.proofs.lemmas.Bool.{eqb-false}
use Rattle.sat_label.specs.declared.label.Kind.{Kind}
use Rattle.sat_label.specs.declared.label.Kind.TheVariants.{Update, Move, Pulse, Close}
use Rattle.sat_label.specs.declared.label.Label.{Label}
use Rattle.sat_label.specs.declared.limits.TheConstants.{MOST_EPOCHS}
use Rattle.sat_label.specs.declared.point.Point.{Point}
use Rattle.sat_epoch.specs.declared.views.AdvanceFault.TheVariants as advance
use Rattle.sat_epoch.specs.declared.views.CloseFault.TheVariants as close
use Rattle.sat_epoch.specs.declared.views.FallFault.TheVariants as fall
use Rattle.sat_epoch.specs.Epochs.{Epochs, IsEpochs, advance_fault, after_advance, after_close, after_fall, after_hear, close_fault, fall_fault, first_epochs, in_stamp}
use Rattle.sat_proxy.specs.Steps.{front_views, link_views, turn_views}

-- ---- why not, where there is no fault

no-close : (last behind : Bool) → (if last then Some close.NoNextEpoch else (if behind then Some close.Behind else None)) ≡ None → (last ≡ false) × (behind ≡ false)
no-close true behind e = absurd (cc)
no-close false true e = absurd (cc)
no-close false false e = (refl, refl)

no-fall : (stamped here : Bool) → (if stamped then Some fall.StampOrder else (if here then Some fall.NotClosed else None)) ≡ None → here ≡ false
no-fall true here e = absurd (cc)
no-fall false true e = absurd (cc)
no-fall false false e = refl

no-advance : (here came : Bool) → (if here then Some advance.NotClosed else (if came then None else Some advance.NotYet)) ≡ None → here ≡ false
no-advance true came e = absurd (cc)
no-advance false came e = refl

-- ---- the calls

pub closed-epochs : (v : Epochs) (cut : Point) → IsEpochs v → close_fault v ≡ None → IsEpochs (after_close v cut)
closed-epochs v cut k e =
    let w = no-close (v.emission == length v.stamp) (v.emission == v.view + 1) e in
    let more : v.emission ≡ length v.stamp → ⊥ = eqb-false v.emission (length v.stamp) w.0 in
    let near : v.emission ≡ v.view + 1 → ⊥ = eqb-false v.emission (v.view + 1) w.1 in
    record {
      own = k.own;
      few_epochs = k.few_epochs;
      start = k.start;
      low = let a : v.view ≤ v.emission = k.low in omega arith;
      high = let a : v.emission ≤ v.view + 1 = k.high in omega (arith, near);
      last = let a : v.emission ≤ length v.stamp = k.last in omega (arith, more);
      closed = ap (λ (n : ℕ). n + 1) (length-append v.closes (cut ∷ []) ∙ k.closed);
      fell = λ f. absurd (near (k.fell f));
    }

pub fell-epochs : (v : Epochs) → IsEpochs v → fall_fault v ≡ None → IsEpochs (after_fall v)
fell-epochs v k e =
    let away : v.emission ≡ v.view → ⊥ = eqb-false v.emission v.view (no-fall (in_stamp v) (v.emission == v.view) e) in
    record {
      own = k.own;
      few_epochs = k.few_epochs;
      start = k.start;
      low = k.low;
      high = k.high;
      last = k.last;
      closed = k.closed;
      fell = λ f. omega (arith, k.low, k.high, away);
    }

pub passed-epochs : (v : Epochs) (came : Bool) → IsEpochs v → advance_fault v came ≡ None → IsEpochs (after_advance v)
passed-epochs v came k e =
    let away : v.emission ≡ v.view → ⊥ = eqb-false v.emission v.view (no-advance (v.emission == v.view) came e) in
    record {
      own = subst (λ (n : ℕ). v.site < n) (sym (length-replicate (length v.heard) false)) k.own;
      few_epochs = k.few_epochs;
      start = let a : 1 ≤ v.view = k.start in omega arith;
      low = omega (arith, k.low, away);
      high = let a : v.emission ≤ v.view + 1 = k.high in omega arith;
      last = k.last;
      closed = k.closed;
      fell = λ f. absurd (cc);
    }

heard-epochs : (v : Epochs) (from : ℕ) → IsEpochs v → IsEpochs (after_hear v from)
heard-epochs v from k = record {
  own = subst (λ (n : ℕ). v.site < n) (sym (length-set v.heard from true)) k.own;
  few_epochs = k.few_epochs;
  start = k.start;
  low = k.low;
  high = k.high;
  last = k.last;
  closed = k.closed;
  fell = k.fell;
}

kind-epochs : (v : Epochs) (l : Label) (kind : Kind) → IsEpochs v → IsEpochs (front_views v l kind)
kind-epochs v l (Update items) k = k
kind-epochs v l (Move j) k = k
kind-epochs v l Pulse k = k
kind-epochs v l (Close e) k = heard-epochs v l.point.site k

pub turned-epochs : (v : Epochs) (front : Option Label) → IsEpochs v → IsEpochs (turn_views v front)
turned-epochs v front k = go (in_stamp v) front
  where
    go : (b : Bool) (front : Option Label) → IsEpochs (if b then v else link_views v front)
    go true front = k
    go false None = k
    go false (Some l) = kind-epochs v l l.kind k

-- ---- the start

pub first-epochs : (sites site : ℕ) (stamp : List Bool) → site < sites → 0 < length stamp → length stamp ≤ MOST_EPOCHS → IsEpochs (first_epochs sites site stamp)
first-epochs sites site stamp own some few = record {
  own = subst (λ (n : ℕ). site < n) (sym (length-replicate sites false)) own;
  few_epochs = few;
  start = omega arith;
  low = omega arith;
  high = omega arith;
  last = omega (arith, some);
  closed = refl;
  fell = λ f. absurd (cc);
}
