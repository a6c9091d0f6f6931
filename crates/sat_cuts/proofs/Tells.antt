-- A cut tells what was sent, and made labels are sent in their order.
use Rattle.std.specs.Prelude.{◌≡◌, ◌⊎◌, ◌<◌, ℕ, true, List, [], ◌∷◌, Some, length, slice_get}
use Rattle.std.proofs.Common.{sym, subst, arith, inl, inr}
use Rattle.sat_label.specs.declared.point.Point.{Point}
use Rattle.sat_label.specs.declared.label.Label.{Label}
use Rattle.sat_label.specs.Order.{point_lt, point_le, label_eq, label_lt}
use Rattle.sat_label.specs.Words.{has}
use Rattle.sat_act.specs.declared.entry.Entry.{Entry}
use Rattle.sat_act.specs.Deployed.{Deployed}
use Rattle.sat_act.specs.Parts.{sent, sent_entry, known_by}
use Rattle.sat_act.specs.Runs.{IsRun}
use Rattle.sat_act.specs.Goals.{IsValid}
use Rattle.sat_laws.proofs.Runs.{step_of, before_of}
use Rattle.sat_laws.proofs.Labels.{made-kind, made-known}
use Rattle.sat_laws.proofs.Members.{listed-gives, gives-listed}
use Rattle.sat_laws.proofs.Links.{get-cases, get-below}
use Rattle.sat_laws.proofs.Sinks.{Sent}
use Rattle.sat_laws.proofs.Cuts.{Sending, by_emit, by_pulse, by_close, sending, sent-order, cut-sent, sent-cut, sent-site}
use Rattle.sat_cuts.proofs.Rises.{IsWaiting, ready-waits, known-sent}
use Rattle.sat_cuts.specs.Laws.{CutIsWhatWasSent, SentInLabelOrder, SentBySite}
use Rattle.sat_label.specs.Members.{is_made}
use Rattle.sat_label.proofs.Members.{In-get, has-in, in-has}
use Rattle.sat_label.proofs.Orders.{point_lt-total}
use Rattle.std.proofs.lemmas.Bool.{or_left}

has-sent : (h : List Entry) (i : ℕ) (l : Label) → has label_eq (sent h i) l ≡ true → Sent h i l
unfolding sent
has-sent h i l e = listed-gives (sent_entry i) h l (has-in (sent h i) l e)

sent-has : (h : List Entry) (i : ℕ) (l : Label) → Sent h i l → has label_eq (sent h i) l ≡ true
unfolding sent
sent-has h i l m = in-has (sent h i) l (gives-listed (sent_entry i) h l m)

pub told : CutIsWhatWasSent
told d h i l v run x m s =
    (λ e. sent-cut d h i l x v run (has-sent h i l e) m s, λ c. sent-has h i l (cut-sent d h i l v run (sent-order d h i x v run) m s c))

pub own : SentBySite
own d h i l run e = sent-site d h i l run (has-sent h i l e)

-- ---- the order in which made labels are sent

sent-at : (h : List Entry) (i n : ℕ) (l : Label) → slice_get (sent h i) n ≡ Some l → Sent h i l
unfolding sent
sent-at h i n l e = listed-gives (sent_entry i) h l (In-get (sent h i) n l e)

place-cases : (h : List Entry) (e : Entry) (i n : ℕ) (l : Label) → slice_get (sent (e ∷ h) i) n ≡ Some l → (slice_get (sent h i) n ≡ Some l) ⊎ ((n ≡ length (sent h i)) × (sent_entry i h e ≡ Some l))
unfolding sent
place-cases h e i n l w = get-cases (sent h i) (sent_entry i h e) n l w

no-place : (i n : ℕ) (l : Label) → slice_get (sent [] i) n ≡ Some l → ⊥
unfolding sent
no-place i n l e = cc

-- a made label is sent after all made labels that it is not above
sending-after : (d : Deployed) (h : List Entry) (i : ℕ) (a b : Label) → IsValid d → IsRun d h → i < d.sites → Sent h i a → known_by a ≡ a.point → is_made b.kind ≡ true → Sending d h i b → label_lt a b ≡ true
sending-after d h i a b v run x m k made (by_emit r) =
    let w : IsWaiting h i b = ready-waits d h i b r in
    elim (point_lt-total b.point a.point) [
      | inl c ↦ absurd (w.unsent (known-sent d h i a b v run x m w.made w.site (subst (λ (p : Point). point_le b.point p ≡ true) (sym k) c)))
      | inr c ↦ or_left (point_lt a.point b.point) _ c
    ]
sending-after d h i a b v run x m k made (by_pulse r p w) = absurd (subst (λ (l : Label). is_made l.kind ≡ true → ⊥) w (λ e. cc) made)
sending-after d h i a b v run x m k made (by_close w) = absurd (subst (λ (l : Label). is_made l.kind ≡ true → ⊥) w (λ e. cc) made)

in-order : (d : Deployed) (h : List Entry) (i m n : ℕ) (a b : Label) → IsValid d → IsRun d h → i < d.sites → known_by a ≡ a.point → is_made b.kind ≡ true → m < n → slice_get (sent h i) m ≡ Some a → slice_get (sent h i) n ≡ Some b → label_lt a b ≡ true
in-order d [] i m n a b v run x k made w p q = absurd (no-place i n b q)
in-order d (e ∷ h) i m n a b v run x k made w p q = go (place-cases h e i m a p) (place-cases h e i n b q) (in-order d h i m n a b v (before_of d h e run) x k made w)
  where
    At : ℕ → Label → Type 0
    At n l = (slice_get (sent h i) n ≡ Some l) ⊎ ((n ≡ length (sent h i)) × (sent_entry i h e ≡ Some l))

    go : At m a → At n b → (slice_get (sent h i) m ≡ Some a → slice_get (sent h i) n ≡ Some b → label_lt a b ≡ true) → label_lt a b ≡ true
    go (inl p) (inl q) old = old p q
    go (inl p) (inr q) old = sending-after d h i a b v (before_of d h e run) x (sent-at h i m a p) k made (sending d h i b e.act e.answer e.inner (step_of d h e run) q.1)
    go (inr p) (inl q) old = absurd (let t : n < length (sent h i) = get-below (sent h i) n b q in let u : m ≡ length (sent h i) = p.0 in omega arith)
    go (inr p) (inr q) old = absurd (let t : n ≡ length (sent h i) = q.0 in let u : m ≡ length (sent h i) = p.0 in omega arith)

pub order : SentInLabelOrder
order d h i m n a b v run x w p q k made =
    in-order d h i m n a b v run x (made-known d h a v run k) (made-kind d h b v run made) w p q
