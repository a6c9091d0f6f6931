-- What is made and sent is a site's, and names items, which ascend, or a site of the deployment.
use Rattle.std.specs.Prelude.{◌≡◌, ◌<◌, ℕ, Bool, true, false, List, [], ◌∷◌, length, Option, Some, None, slice_get, ◌==◌, refl}
use Rattle.std.proofs.Common.{subst, inl, inr}
use Rattle.std.specs.List.{list_all}
use Rattle.std.proofs.lemmas.Bool.{eqb-true, and_parts}
use Rattle.sat_label.specs.declared.label.Kind.TheVariants as kind
use Rattle.sat_label.specs.declared.label.Label.{Label}
use Rattle.sat_label.specs.Grouped.{list_of}
use Rattle.sat_label.specs.Order.{point_at}
use Rattle.sat_label.specs.Words.{bit}
use Rattle.sat_sites.specs.Interested.{AreBelow}
use Rattle.sat_act.specs.declared.act.Act.{Act}
use Rattle.sat_act.specs.declared.answer.Answer.{Answer}
use Rattle.sat_act.specs.declared.deployment.Item.{Item}
use Rattle.sat_act.specs.declared.entry.Entry.{Entry}
use Rattle.sat_act.specs.Deployed.{Deployed}
use Rattle.sat_act.specs.Done.{made_in}
use Rattle.sat_act.specs.Parts.{replicates, keeps_all, sent_entry, stable, cut, emission}
use Rattle.sat_act.specs.Answers.{InRange}
use Rattle.sat_act.specs.Runs.{IsRun}
use Rattle.sat_act.specs.Goals.{Gives, Made}
use Rattle.sat_laws.proofs.Steps.{Step, write_label, wrote, moved, emitted, pulsed, closed}
use Rattle.sat_laws.proofs.Runs.{step_of, before_of, range_of, entry}
use Rattle.sat_laws.proofs.Labels.{some_is}
use Rattle.sat_laws.proofs.Links.{get-below}
use Rattle.sat_laws.proofs.Sendings.{picked_if}
use Rattle.sat_laws.proofs.Cuts.{Sending, by_emit, by_pulse, by_close, sending}
use Rattle.sat_laws.proofs.Sinks.{Sent}
use Rattle.sat_laws.proofs.Origins.{ready-made}
use Rattle.sat_model.specs.OnLinks.{HasKind}
use Rattle.sat_model.proofs.Writing.{write-ascends}

-- an item that a site keeps is one of the items
pub item-of : (d : Deployed) (x k : ℕ) → replicates d x k ≡ true → x < length d.items
unfolding replicates
item-of d x k e = go (slice_get d.items x) refl e
  where
    go : (o : Option Item) → slice_get d.items x ≡ o → elim o [ None ↦ false | Some item ↦ bit item.replicas.bits k ] ≡ true → x < length d.items
    go None w e = absurd (cc)
    go (Some item) w e = get-below d.items x item w

-- so are all that it keeps
each-below : (d : Deployed) (xs : List ℕ) (k : ℕ) → list_all (λ x. replicates d x k) xs ≡ true → AreBelow (length d.items) xs
each-below d [] k e = tt
each-below d (x ∷ xs) k e =
    let w : (replicates d x k ≡ true) × (list_all (λ x. replicates d x k) xs ≡ true) = and_parts (replicates d x k) _ e in
    (item-of d x k w.0, each-below d xs k w.1)

all-below : (d : Deployed) (xs : List ℕ) (k : ℕ) → keeps_all d xs k ≡ true → AreBelow (length d.items) xs
all-below d [] k e = tt
all-below d (x ∷ xs) k e = each-below d (x ∷ xs) k e

made-now : (d : Deployed) (h : List Entry) (a : Act) (r : Answer) (l : Label) → InRange d a → Step d h a r → made_in r ≡ Some l → HasKind d l.kind
made-now d h a r l range (wrote {w = w} {i = i} z p q b) e = subst (λ (y : Label). HasKind d y.kind) (some_is (write_label d h w i) l e) (all-below d (list_of w.items) i q, write-ascends d a w range z)
made-now d h a r l range (moved p q w) e = subst (λ (y : Label). HasKind d y.kind) (some_is _ l e) range
made-now d h a r l range _ e = absurd (cc)

-- what is made names items or a site
pub made-has-kind : (d : Deployed) (h : List Entry) (l : Label) → IsRun d h → Made h l → HasKind d l.kind
unfolding Gives
made-has-kind d [] l run m = absurd m
made-has-kind d (e ∷ h) l run (inl m) = made-has-kind d h l (before_of d h e run) m
made-has-kind d (e ∷ h) l run (inr m) = made-now d h e.act e.answer l (range_of d h e run) (step_of d h e run) m

sends-now : (d : Deployed) (h : List Entry) (i : ℕ) (l : Label) (a : Act) (r : Answer) (n : Bool) → InRange d a → Step d h a r → sent_entry i h (entry a r n) ≡ Some l → i < d.sites
sends-now d h i l a r n range (emitted {i = k} {l = m} q) e = subst (λ (y : ℕ). y < d.sites) (eqb-true k i (picked_if (k == i) m l e).0) range
sends-now d h i l a r n range (pulsed {i = k} q p) e =
    subst (λ (y : ℕ). y < d.sites) (eqb-true k i (picked_if (k == i) (record { point = point_at (stable d h k) k 65534; kind = kind.Pulse }) l e).0) range
sends-now d h i l a r n range (closed {i = k} q p) e =
    subst (λ (y : ℕ). y < d.sites) (eqb-true k i (picked_if (k == i) (record { point = cut d h k; kind = kind.Close (emission h k) }) l e).0) range
sends-now d h i l a r n range _ e = absurd (cc)

-- what sends is a site
pub sent-range : (d : Deployed) (h : List Entry) (i : ℕ) (l : Label) → IsRun d h → Sent h i l → i < d.sites
unfolding Gives
sent-range d [] i l run m = absurd m
sent-range d (e ∷ h) i l run (inl m) = sent-range d h i l (before_of d h e run) m
sent-range d (e ∷ h) i l run (inr m) = sends-now d h i l e.act e.answer e.inner (range_of d h e run) (step_of d h e run) m

sending-kind : (d : Deployed) (h : List Entry) (i : ℕ) (l : Label) → IsRun d h → Sending d h i l → HasKind d l.kind
sending-kind d h i l run (by_emit q) = made-has-kind d h l run (ready-made d h i l q)
sending-kind d h i l run (by_pulse q p w) = subst (λ (y : Label). HasKind d y.kind) w tt
sending-kind d h i l run (by_close w) = subst (λ (y : Label). HasKind d y.kind) w tt

-- what is sent names items or a site, where it is an update or a move
pub sent-has-kind : (d : Deployed) (h : List Entry) (i : ℕ) (l : Label) → IsRun d h → Sent h i l → HasKind d l.kind
unfolding Gives
sent-has-kind d [] i l run m = absurd m
sent-has-kind d (e ∷ h) i l run (inl m) = sent-has-kind d h i l (before_of d h e run) m
sent-has-kind d (e ∷ h) i l run (inr m) = sending-kind d h i l (before_of d h e run) (sending d h i l e.act e.answer e.inner (step_of d h e run) m)
