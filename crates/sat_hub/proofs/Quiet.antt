-- What is sent of a label, and that no other answer sends one.
use Rattle.std.specs.Prelude.{◌≡◌, ◌<◌, ℕ, zero, suc, Bool, true, false, Option, Some, None, if◌then◌else◌, refl}
use Rattle.std.proofs.Common.{subst, sym, ◌∙◌, arith, inl, inr}
use Rattle.std.proofs.lemmas.Bool.{cases_eq, or_cases, or_left, or_right}
use Rattle.sat_label.specs.declared.label.Label.{Label}
use Rattle.sat_sites.specs.Interested.{is_for, IsLabelOf}
use Rattle.sat_sites.specs.declared.shape.Shape.{Shape}
use Rattle.sat_act.specs.declared.answer.Answer.{Answer}
use Rattle.sat_epoch.specs.Epochs.{Epochs, is_stamp}
use Rattle.sat_hub.specs.Gives.{HasTarget, IsSent, IsSentOf, label_sent}
use Rattle.sat_hub.specs.HubSteps.{emit_sends, has_target, some_site}

-- ---- targets

pub some-site-here : (test : ℕ → Bool) (n k : ℕ) → k < n → test k ≡ true → some_site test n ≡ true
unfolding some_site
some-site-here test zero k lt e = absurd (omega arith)
some-site-here test (suc n) k lt e = elim (cases_eq k n) [
  | inl same ↦ or_left (test n) (some_site test n) (subst (λ (m : ℕ). test m ≡ true) same e)
  | inr other ↦ or_right (test n) (some_site test n) (some-site-here test n k (omega arith) e)
]

pub here-some-site : (test : ℕ → Bool) (n : ℕ) → some_site test n ≡ true → (k : ℕ) × (k < n) × (test k ≡ true)
unfolding some_site
here-some-site test zero e = absurd (cc)
here-some-site test (suc n) e = elim (or_cases (test n) (some_site test n) e) [
  | inl here ↦ (n, omega arith, here)
  | inr there ↦ let rest : (k : ℕ) × (k < n) × (test k ≡ true) = here-some-site test n there in (rest.0, omega arith, rest.2)
]

pub target-some : (shape : Shape) (l : Label) → HasTarget shape l → has_target shape l ≡ true
target-some shape l t = some-site-here (is_for shape.interest l) shape.sites t.0 t.1 t.2

pub some-target-here : (shape : Shape) (l : Label) → has_target shape l ≡ true → HasTarget shape l
some-target-here shape l e = here-some-site (is_for shape.interest l) shape.sites e

-- ---- what is sent

pub label-sends : (shape : Shape) (views : Epochs) (o : Option Label) → ((l : Label) → o ≡ Some l → IsLabelOf shape.interest l × (l.point.site ≡ shape.site)) → IsSentOf shape views o (emit_sends (is_stamp views views.emission) shape o)
label-sends shape views o here = go (is_stamp views views.emission) refl o here
  where
    by : (l : Label) (b : Bool) → is_stamp views views.emission ≡ false → IsLabelOf shape.interest l × (l.point.site ≡ shape.site) → has_target shape l ≡ b → IsSentOf shape views (Some l) (if b then Some l else None)
    by l true m w f = (refl, m, record { label = w.0; own = w.1; target = some-target-here shape l f })
    by l false m w f = λ n t. absurd (let clash : true ≡ false = sym (target-some shape l t) ∙ f in cc)

    go : (b : Bool) → is_stamp views views.emission ≡ b → (o : Option Label) → ((l : Label) → o ≡ Some l → IsLabelOf shape.interest l × (l.point.site ≡ shape.site)) → IsSentOf shape views o (emit_sends b shape o)
    go true m None here = refl
    go true m (Some l) here = λ n t. absurd (let clash : true ≡ false = sym m ∙ n in cc)
    go false m None here = refl
    go false m (Some l) here = by l (has_target shape l) m (here l refl) refl

-- an answer that sends nothing
pub quiet : (shape : Shape) (views : Epochs) (r : Answer) → label_sent r ≡ None → IsSent shape views r None
quiet shape views r e = subst (λ (o : Option Label). IsSentOf shape views o None) (sym e) refl

-- an answer that sends a label
pub sends : (shape : Shape) (views : Epochs) (r : Answer) (o : Option Label) → label_sent r ≡ o → ((l : Label) → o ≡ Some l → IsLabelOf shape.interest l × (l.point.site ≡ shape.site)) → IsSent shape views r (emit_sends (is_stamp views views.emission) shape o)
sends shape views r o e here = subst (λ (p : Option Label). IsSentOf shape views p (emit_sends (is_stamp views views.emission) shape o)) (sym e) (label-sends shape views o here)
