-- A hub of a site at which nothing has happened.
use Rattle.std.specs.Prelude.{◌≡◌, ◌<◌, ◌^◌, ℕ, zero, suc, Bool, false, List, [], length, map, replicate, get_or, Some, IfOk, slice_get, refl}
use Rattle.std.proofs.Common.{Result, Ok, Err, subst, sym, ◌∙◌, arith}
use Rattle.std.proofs.lemmas.List.{length-map, length-replicate}
use Rattle.sat_label.specs.declared.label.Label.{Label}
use Rattle.sat_bulk.specs.Payloads.{Payload}
use Rattle.sat_label.specs.Members.{In}
use Rattle.sat_sites.specs.Interested.{IsInterest}
use Rattle.sat_sites.specs.declared.shape.Shape.{Shape}
use Rattle.sat_gear.specs.Gear.{IsShape}
use Rattle.sat_sink.specs.Sink.{Sink, fresh_sink}
use Rattle.sat_act.specs.Deployed.{Deployed}
use Rattle.sat_act.specs.Limits.{IsDeployment}
use Rattle.sat_beat.specs.declared.Beat.{Beat}
use Rattle.sat_pool.proofs.Members.{none-all}
use Rattle.sat_proxy.specs.Proxy.{ProxySeen, IsProxy, fresh_proxy}
use Rattle.sat_epoch.specs.Epochs.{Epochs, IsEpochs, first_epochs}
use Rattle.sat_model.specs.Interests.{replicas_of}
use Rattle.sat_hub.specs.Seen.{HubSeen, IsHub}
use Rattle.sat_hub.specs.Changes.{fresh_hub, is_stamp_plan, new_hub, shape_for}

pub always : {X : Type 0} (n i : ℕ) (x : X) → get_or (replicate n x) i x ≡ x
always zero i x = refl
always (suc n) zero x = refl
always (suc n) (suc i) x = always n i x

pub none-pending : (n g : ℕ) (l : Label) → In (get_or (replicate n []) g []) l → ⊥
none-pending n g l i = subst (λ (ls : List Label). In ls l) (always n g []) i

no-beat : (n j m : ℕ) (beat : Beat) → slice_get (get_or (replicate n []) j []) m ≡ Some beat → ⊥
no-beat n j m beat at = let none : slice_get {X = Beat} [] m ≡ Some beat = subst (λ (bs : List Beat). slice_get bs m ≡ Some beat) (always n j []) at in cc

pub fresh-is : (shape : Shape) (stamp : List Bool) → IsShape shape → IsEpochs (first_epochs shape.sites shape.site stamp) → IsProxy (fresh_proxy shape.sites shape.gears shape.site) → IsHub (fresh_hub shape stamp)
fresh-is shape stamp k epochs proxy = record {
  shape = k;
  sink = record { own = refl; promises = length-replicate shape.gears 0; rows = length-replicate shape.gears []; last = refl };
  pending = λ g l i. absurd (none-pending shape.gears g l i);
  counts = length-replicate shape.gears [];
  views = record { sound = epochs; own = refl; heard = length-replicate shape.sites false };
  proxy = record { sound = proxy; sites = refl; gears = refl; own = refl; waiting = λ p i. absurd (subst (λ (ps : List Payload). In ps p) (none-all shape.sites) i) };
  made = record { count = length-replicate shape.sites []; each = λ j n beat at. absurd (no-beat shape.sites j n beat at) };
}

pub fresh-hub-is : (shape : Shape) (stamp : List Bool) (s : Sink) (counts : List (List ℕ)) (views : Epochs) (proxy : ProxySeen) (made : List (List Beat)) → IsShape shape → IsEpochs views → IsProxy proxy →
    s ≡ fresh_sink shape.site shape.gears → counts ≡ replicate shape.gears [] → views ≡ first_epochs shape.sites shape.site stamp → proxy ≡ fresh_proxy shape.sites shape.gears shape.site → made ≡ replicate shape.sites [] →
    IsHub (record { shape = shape; sink = s; counts = counts; views = views; proxy = proxy; made = made })
fresh-hub-is shape stamp s counts views proxy made k epochs sound f c v p m =
    subst IsHub (λ j. record { shape = shape; sink = sym f j; counts = sym c j; views = sym v j; proxy = sym p j; made = sym m j }) (fresh-is shape stamp k (subst IsEpochs v epochs) (subst IsProxy p sound))

pub shape-sound : (d : Deployed) (i : ℕ) (shape : Shape) → IsDeployment d → i < d.sites → IsInterest shape.interest → shape ≡ shape_for d i → IsShape shape
shape-sound d i shape limits lt a e = record {
  interest = a;
  sites = (λ j. (e j).interest.sites) ∙ (λ j. (sym e j).sites);
  site = subst (λ (s : Shape). s.site < s.sites) (sym e) lt;
  gears = subst (λ (s : Shape). 0 < s.gears) (sym e) limits.some_gear;
  items = subst (λ (s : Shape). length s.interest.replicas < 2 ^ 16) (sym e) (let few = limits.few_items in omega (arith, length-map d.items replicas_of));
}

pub made-ok : {E : Type 0} (d : Deployed) (i : ℕ) (shape : Shape) (stamp : List Bool) (r : Result HubSeen E) → shape ≡ shape_for d i → stamp ≡ map is_stamp_plan d.plans → IfOk r (λ made. made ≡ fresh_hub shape stamp) → IfOk r (λ made. made ≡ new_hub d i)
made-ok d i shape stamp (Ok made) e f g = g ∙ (λ j. fresh_hub (e j) (f j))
made-ok d i shape stamp (Err fault) e f g = tt
