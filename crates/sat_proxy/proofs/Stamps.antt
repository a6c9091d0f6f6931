-- The next in timestamp order, and whether all of a view came.
use Rattle.std.specs.Prelude.{ℕ, ◌≡◌, Bool, true, false, ◌&&◌, ◌||◌, ◌==◌, Option, Some, None, if◌then◌else◌, refl}
use Rattle.std.specs.List.{list_all}
use Rattle.std.proofs.Common.{ap, sym, ◌∙◌}
use Rattle.sat_label.specs.declared.point.Point.{Point}
use Rattle.sat_label.specs.declared.label.Label.{Label}
use Rattle.sat_label.specs.Least.{least_label}
use Rattle.sat_label.specs.Words.{below}
use Rattle.sat_bulk.specs.Payloads.{Payload}
use Rattle.sat_pool.specs.Pool.{Waiting, labels_waiting, after_take, row_of, waiting_at, IsPool}
use Rattle.sat_epoch.specs.Epochs.{Epochs, all_heard, in_stamp}
use Rattle.sat_act.specs.Parts.{best_passes, passed_label, passed_ts}
use Rattle.sat_act.specs.Answers.{is_drained}
use Rattle.sat_proxy.specs.Proxy.{ProxySeen, AreViewsOf}
use Rattle.sat_proxy.specs.Asks.{others}
use Rattle.sat_proxy.specs.Helps.{in_view, told_by}
use Rattle.sat_proxy.specs.Steps.{has_come, heard_of, left_after, payload_at, stamp_after, stamp_label, stamp_shows}
use Rattle.sat_proxy.proofs.Pools.{candidate-found, found-point}

abbrev pub have_passed : Epochs → ProxySeen → Label → Bool
have_passed views p l =
    others p.sites p.site (λ i. best_passes (told_by p.beats i) (passed_ts views.view l.point.ts i)) && best_passes (told_by p.beats l.point.site) (passed_label views.view l)

abbrev chosen : Epochs → ProxySeen → Option Label → Option Label
chosen views p o = elim o [ None ↦ None | Some l ↦ if have_passed views p l then Some l else None ]

by-candidate : (views : Epochs) (p : ProxySeen) (o : Option Label) → o ≡ least_label (in_view p.beats views.view) (labels_waiting p.pool) → chosen views p o ≡ stamp_label views p
by-candidate views p o e = ap (chosen views p) e

pub stamp_none : (views : Epochs) (p : ProxySeen) → None ≡ least_label (in_view p.beats views.view) (labels_waiting p.pool) → None ≡ stamp_label views p
stamp_none views p e = by-candidate views p None e

pub stamp_passed : (views : Epochs) (p : ProxySeen) (l : Label) → Some l ≡ least_label (in_view p.beats views.view) (labels_waiting p.pool) → have_passed views p l ≡ true → Some l ≡ stamp_label views p
stamp_passed views p l e f = sym (ap (λ (b : Bool). if b then Some l else None) f) ∙ by-candidate views p (Some l) e

pub stamp_stays : (views : Epochs) (p : ProxySeen) (l : Label) → Some l ≡ least_label (in_view p.beats views.view) (labels_waiting p.pool) → have_passed views p l ≡ false → None ≡ stamp_label views p
stamp_stays views p l e f = sym (ap (λ (b : Bool). if b then Some l else None) f) ∙ by-candidate views p (Some l) e

abbrev drained : Epochs → ProxySeen → Bool
drained views p = others p.sites p.site (λ i. best_passes (told_by p.beats i) (is_drained views.view (labels_waiting p.pool) i))

-- in tree mode all came where each close was heard
pub heard_come : (views : Epochs) (p : ProxySeen) → AreViewsOf p views → in_stamp views ≡ false → all_heard views ≡ has_come views p
heard_come views p are tree =
    ap (λ (n : ℕ). list_all (λ i. (i == views.site) || heard_of views i) (below n)) are.heard ∙
    (ap (λ (j : ℕ). list_all (λ i. (i == j) || heard_of views i) (below p.sites)) are.own ∙
    sym (ap (λ (b : Bool). if b then drained views p else others p.sites p.site (heard_of views)) tree))

-- ---- the payload of the next

some_is : (x y : Label) → Some x ≡ Some y → x ≡ y
some_is x y e = cc

-- it waits
pub stamp-found : (views : Epochs) (p : ProxySeen) (l : Label) → IsPool p.pool → Some l ≡ stamp_label views p → (q : Payload) × (Some q ≡ waiting_at p.pool l.point)
stamp-found views p l is e = go (least_label (in_view p.beats views.view) (labels_waiting p.pool)) refl e
  where
    found : (m : Label) → least_label (in_view p.beats views.view) (labels_waiting p.pool) ≡ Some m → m ≡ l → (q : Payload) × (Some q ≡ waiting_at p.pool l.point)
    found m w same =
        let k = candidate-found (in_view p.beats views.view) p.pool l is (w ∙ ap Some same) in
        (k.0, sym k.1)

    pick : (m : Label) (b : Bool) → Some l ≡ (if b then Some m else None) → m ≡ l
    pick m true e = sym (some_is l m e)
    pick m false e = absurd (cc)

    go : (o : Option Label) → least_label (in_view p.beats views.view) (labels_waiting p.pool) ≡ o → Some l ≡ chosen views p o → (q : Payload) × (Some q ≡ waiting_at p.pool l.point)
    go None w e = absurd (cc)
    go (Some m) w e = found m w (pick m (have_passed views p m) e)

pub stamp-there : (views : Epochs) (p r : ProxySeen) (l : Label) → IsPool p.pool → p ≡ r → Some l ≡ stamp_label views r → None ≡ waiting_at p.pool l.point → ⊥
stamp-there views p r l is same next none =
    let k = stamp-found views p l is (next ∙ ap (stamp_label views) (sym same)) in
    differ k.0 (none ∙ sym k.1)
  where
    differ : (q : Payload) → None ≡ Some q → ⊥
    differ q e = cc

-- and it waits no more
pub stamp-done : (views : Epochs) (p r : ProxySeen) (l : Label) (q : Payload) (w : Waiting) → p ≡ r → in_stamp views ≡ true → Some l ≡ stamp_label views r → Some q ≡ waiting_at p.pool l.point → w ≡ after_take p.pool l.point → record p { pool = w } ≡ stamp_after views r
stamp-done views p r l q w same stamp next found new =
    ap (λ (v : Waiting). record p { pool = v }) new ∙
    (ap (λ (m : Point). record p { pool = after_take p.pool m }) (sym (found-point (row_of p.pool l.point.site) l.point q (sym found))) ∙
    (ap (left_after p) shown ∙ ap (stamp_after views) same))
  where
    shown : Some q ≡ stamp_shows views p
    shown =
        found ∙
        (ap (payload_at p.pool) (next ∙ ap (stamp_label views) (sym same)) ∙
        sym (ap (λ (b : Bool). if b then payload_at p.pool (stamp_label views p) else None) stamp))
