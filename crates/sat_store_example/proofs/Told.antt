-- A client may be told what its call was answered.
use Rattle.std.proofs.Common.{◌≡◌, ℕ, ◌+◌, ◌<◌, ◌==◌, max, Bool, true, false, List, Option, Some, None, refl, ap, subst, arith}
use Rattle.sat_label.specs.declared.carried.Carried.{Carried}
use Rattle.sat_label.specs.declared.items.Items.{Items}
use Rattle.sat_label.specs.declared.point.Point.{Point}
use Rattle.sat_label.specs.Grouped.{list_of}
use Rattle.sat_label.specs.declared.label.Kind.TheVariants as kind
use Rattle.sat_label.specs.declared.label.Label.{Label}
use Rattle.sat_label.specs.Order.{point_lt}
use Rattle.sat_label.proofs.Orders.{ts-lt}
use Rattle.sat_client.specs.declared.client.Client.{Client}
use Rattle.sat_client.specs.Clients.{is_move}
use Rattle.sat_label.specs.Versions.{Version}
use Rattle.sat_gear.specs.Gear.{GearSeen, is_spent, stamped, version_of}
use Rattle.sat_act.specs.declared.answer.Answer.{Answer}
use Rattle.sat_act.specs.declared.answer.Answer.TheVariants as ans
use Rattle.sat_site.specs.declared.input.SiteInput.TheVariants as input
use Rattle.sat_site.specs.Seen.{SiteSeen}
use Rattle.sat_site.specs.SiteSteps.{keeps_each, keeps_item, move_answer, moved_answer, read_answer, site_answers, stamp_answer_of, version_answer, write_answer}
use Rattle.sat_store_example.specs.Replicas.{MayTell}

label_of : Label → Answer → Label
label_of l (ans.Moved m) = m
label_of l r = l

past-max : (a b : ℕ) → b < max a b + 1
past-max a b = omega arith

moved-above : (b : Bool) (gear : GearSeen) (c : Client) (j : ℕ) → MayTell (moved_answer b (stamped gear c.carried.point (kind.Move j))) c
unfolding label_of
moved-above true gear c j = λ l e. absurd (cc)
moved-above false gear c j = λ l e.
    let m : stamped gear c.carried.point (kind.Move j) ≡ l = ap (label_of l) e in
    subst (λ (l : Label). (is_move l.kind ≡ true) × (point_lt c.carried.point l.point ≡ true)) m
    (refl, ts-lt c.carried.point (stamped gear c.carried.point (kind.Move j)).point (past-max gear.promise c.carried.point.ts))

moves : (b : Bool) (o : Option GearSeen) (c : Client) (j : ℕ) → MayTell (move_answer b o c.carried j) c
moves true o c j = λ l e. absurd (cc)
moves false None c j = λ l e. absurd (cc)
moves false (Some gear) c j = moved-above (is_spent gear c.carried.point) gear c j

pub moved-told : (x : SiteSeen) (c : Client) (j : ℕ) → MayTell (site_answers x (input.Move c.carried j)) c
unfolding site_answers
moved-told x c j = moves (j == x.shape.site) _ c j

stamps : (b : Bool) (m : Label) (c : Client) → MayTell (stamp_answer_of b m) c
stamps true m c = λ l e. absurd (cc)
stamps false m c = λ l e. absurd (cc)

writes : (b : Bool) (o : Option GearSeen) (seen : Point) (items : Items) (c : Client) → MayTell (write_answer b o seen items) c
writes false o seen items c = λ l e. absurd (cc)
writes true None seen items c = λ l e. absurd (cc)
writes true (Some gear) seen items c = stamps (is_spent gear seen) _ c

pub wrote-told : (x : SiteSeen) (c : Client) (seen : Carried) (items : Items) (values : List (List ℕ)) → MayTell (site_answers x (input.Write seen items values)) c
unfolding site_answers
wrote-told x c seen items values = writes (keeps_each x (list_of items)) _ seen.point items c

versions : (o : Option Version) (c : Client) → MayTell (version_answer o) c
versions None c = λ l e. absurd (cc)
versions (Some v) c = λ l e. absurd (cc)

reads : (b : Bool) (o : Option GearSeen) (n : ℕ) (c : Client) → MayTell (read_answer b o n) c
reads false o n c = λ l e. absurd (cc)
reads true None n c = λ l e. absurd (cc)
reads true (Some gear) n c = versions (version_of gear n) c

pub read-told : (x : SiteSeen) (c : Client) (seen : Carried) (n : ℕ) → MayTell (site_answers x (input.Read seen n)) c
unfolding site_answers
read-told x c seen n = reads (keeps_item x n) _ n c
