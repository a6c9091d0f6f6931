-- The payloads of labels, and of the next update in timestamp order, wait.
use Rattle.std.specs.Prelude.{◌≡◌, ◌&&◌, not, Bool, true, false, List, [], ◌∷◌, map, Option, Some, None, if◌then◌else◌, refl}
use Rattle.std.proofs.Common.{subst, inl, inr}
use Rattle.sat_label.specs.declared.label.Label.{Label}
use Rattle.sat_label.specs.Order.{label_eq}
use Rattle.sat_label.specs.Members.{In}
use Rattle.sat_label.proofs.Orders.{same-label}
use Rattle.sat_label.proofs.Least.{least-is}
use Rattle.sat_bulk.specs.Payloads.{Payload}
use Rattle.sat_pool.specs.Pool.{Waiting, all_waiting, labels_waiting, labelled, waiting_at}
use Rattle.sat_pool.proofs.Members.{found-in, in-found}
use Rattle.sat_epoch.specs.Epochs.{Epochs}
use Rattle.sat_model.specs.Reply.{candidate_by, own_passed, past_by}
use Rattle.sat_proxy.specs.Asks.{all_passed}
use Rattle.sat_proxy.specs.Proxy.{ProxySeen, IsProxy, outlook_here}
use Rattle.sat_proxy.specs.Steps as made

-- ---- the payload of a label

pub record Found (w : Waiting) (l : Label) (p : Payload) : Type 0 where
  pub label : p.label ≡ l
  pub there : In (all_waiting w) p

pub found : (w : Waiting) (l : Label) (p : Payload) → made.waiting_of w l ≡ Some p → Found w l p
found w l p e = go (waiting_at w l.point) refl e
  where
    by : (q : Payload) (b : Bool) → waiting_at w l.point ≡ Some q → label_eq q.label l ≡ b → (if b then Some q else None) ≡ Some p → Found w l p
    by q true at same e = let is : q ≡ p = cc in subst (λ (x : Payload). Found w l x) is (record { label = same-label q.label l same; there = (found-in w l.point q at).0 })
    by q false at same e = absurd (cc)

    go : (o : Option Payload) → waiting_at w l.point ≡ o → (elim o [ None ↦ None | Some p ↦ if label_eq p.label l then Some p else None ]) ≡ Some p → Found w l p
    go None at e = absurd (cc)
    go (Some q) at e = by q (label_eq q.label l) at refl e

-- ---- the next update in timestamp order

-- the candidate waits
next-waits : (views : Epochs) (p : ProxySeen) (l : Label) → made.stamp_label views p ≡ Some l → In (labels_waiting p.pool) l
next-waits views p l e = go (candidate_by (outlook_here views p)) refl e
  where
    by : (m : Label) (b : Bool) → candidate_by (outlook_here views p) ≡ Some m → (if b then Some m else None) ≡ Some l → In (labels_waiting p.pool) l
    by m true c e = let same : m ≡ l = cc in subst (λ (n : Label). In (labels_waiting p.pool) n) same (least-is (λ l. not (past_by (outlook_here views p) l)) (labels_waiting p.pool) m c).member
    by m false c e = absurd (cc)

    go : (o : Option Label) → candidate_by (outlook_here views p) ≡ o →
        (elim o [ None ↦ None | Some l ↦ if all_passed p.sites (outlook_here views p) p.site l && own_passed (outlook_here views p) l then Some l else None ]) ≡ Some l → In (labels_waiting p.pool) l
    go None c e = absurd (cc)
    go (Some m) c e = by m (all_passed p.sites (outlook_here views p) p.site m && own_passed (outlook_here views p) m) c e

labelled-in : (ps : List Payload) (l : Label) → In (map labelled ps) l → (p : Payload) × In ps p × (p.label ≡ l)
labelled-in [] l i = absurd i
labelled-in (p ∷ ps) l (inl e) = (p, inl refl, e)
labelled-in (p ∷ ps) l (inr i) = let w = labelled-in ps l i in (w.0, inr w.1, w.2)

-- the payload of the next update
pub record Next (views : Epochs) (p : ProxySeen) (l : Label) : Type 0 where
  pub payload : Payload
  pub label : payload.label ≡ l
  pub there : In (all_waiting p.pool) payload
  pub found : waiting_at p.pool l.point ≡ Some payload

pub next-payload : (views : Epochs) (p : ProxySeen) (l : Label) → IsProxy p → made.stamp_label views p ≡ Some l → Next views p l
next-payload views p l k e =
    let w = labelled-in (all_waiting p.pool) l (next-waits views p l e) in
    record {
      payload = w.0;
      label = w.2;
      there = w.1;
      found = subst (λ (m : Label). waiting_at p.pool m.point ≡ Some w.0) w.2 (in-found p.pool w.0 k.pool w.1);
    }
