-- After a turn the epochs are still those of the site.
use Rattle.std.specs.Prelude.{◌≡◌, true, Option, Some, None, OnErr, OnOk, refl}
use Rattle.std.proofs.Common.{Result, Ok, Err, ap, sym, subst, ◌∙◌}
use Rattle.std.proofs.lemmas.List.{length-set}
use Rattle.sat_label.specs.declared.label.Kind.{Kind}
use Rattle.sat_label.specs.declared.label.Kind.TheVariants.{Update, Move, Pulse, Close}
use Rattle.sat_label.specs.declared.label.Label.{Label}
use Rattle.sat_bulk.specs.Payloads.{Payload}
use Rattle.sat_pool.specs.Pool as pool
use Rattle.sat_epoch.specs.Epochs.{Epochs}
use Rattle.sat_proxy.specs.declared.proxy.TurnFault.{TurnFault}
use Rattle.sat_proxy.specs.declared.proxy.Turned.{Turned}
use Rattle.sat_proxy.specs.Proxy.{ProxySeen, AreViewsOf}
use Rattle.sat_proxy.specs.Helps.{StaysHere}
use Rattle.sat_proxy.specs.Steps.{front_after, front_views, knowing, shown_after, waiting_of}

shown-stays : (views : Epochs) (p : ProxySeen) (l : Label) (o : Option Payload) → AreViewsOf p views → StaysHere p (shown_after p l o) views
shown-stays views p l None are = record { sites = refl; gears = refl; site = refl; views = are }
shown-stays views p l (Some q) are = record { sites = refl; gears = refl; site = refl; views = record { own = are.own; heard = are.heard } }

knowing-stays : (views : Epochs) (p : ProxySeen) (l : Label) → AreViewsOf p views → StaysHere p (knowing p l) views
knowing-stays views p l are = record { sites = refl; gears = refl; site = refl; views = record { own = are.own; heard = are.heard } }

kind-stays : (views : Epochs) (p : ProxySeen) (l : Label) (k : Kind) → AreViewsOf p views → StaysHere p (front_after p l k) (front_views views l k)
kind-stays views p l (Update items) are = shown-stays views p l (waiting_of p.pool l) are
kind-stays views p l (Move j) are = knowing-stays views p l are
kind-stays views p l Pulse are = knowing-stays views p l are
kind-stays views p l (Close e) are = record { sites = refl; gears = refl; site = refl; views = record { own = are.own; heard = length-set views.heard l.point.site true ∙ are.heard } }

pub still_here : (p : ProxySeen) (views : Epochs) → AreViewsOf p views → StaysHere p p views
still_here p views are = record { sites = refl; gears = refl; site = refl; views = are }

pub front_stays : (r : Result Turned TurnFault) (views after : Epochs) (p q : ProxySeen) (l : Label) → AreViewsOf p views → OnOk r (q ≡ front_after p l l.kind) → OnOk r (after ≡ front_views views l l.kind) → OnErr r (q ≡ p) → OnErr r (after ≡ views) → StaysHere p q after
front_stays (Ok turned) views after p q l are new heard err unheard =
    subst (λ (x : ProxySeen). StaysHere p x after) (sym new) (subst (λ (v : Epochs). StaysHere p (front_after p l l.kind) v) (sym heard) (kind-stays views p l l.kind are))
front_stays (Err fault) views after p q l are new heard err unheard =
    subst (λ (x : ProxySeen). StaysHere p x after) (sym err) (subst (λ (v : Epochs). StaysHere p p v) (sym unheard) (still_here p views are))

-- what waits where the payload of a label was taken, or none was
pub taken_if : (w v : pool.Waiting) (l : Label) (x : Payload) → Some x ≡ pool.waiting_of w l → v ≡ pool.after_take_of w l (pool.waiting_of w l) → v ≡ pool.after_take w l.point
taken_if w v l x found new = new ∙ ap (pool.after_take_of w l) (sym found)

pub stays_if : (w v : pool.Waiting) (l : Label) → None ≡ pool.waiting_of w l → v ≡ pool.after_take_of w l (pool.waiting_of w l) → v ≡ w
stays_if w v l none new = new ∙ ap (pool.after_take_of w l) (sym none)
