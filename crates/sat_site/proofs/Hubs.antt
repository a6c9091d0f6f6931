-- A site whose hub did something: that it is a site, and what it answers and keeps.
use Rattle.std.specs.Prelude.{◌≡◌, ◌<◌, ℕ, List, length, map, get_or, Option, Some, None, IfOk, OnErr, OnOk, refl}
use Rattle.std.proofs.Common.{Result, Ok, Err, subst, ap, sym, ◌∙◌}
use Rattle.std.proofs.lemmas.List.{length-map}
use Rattle.sat_label.specs.declared.label.Label.{Label}
use Rattle.sat_label.specs.Members.{In}
use Rattle.sat_bulk.specs.declared.Drained.{Drained}
use Rattle.sat_bulk.specs.Payloads.{Payload}
use Rattle.sat_sites.specs.declared.shape.Shape.{Shape}
use Rattle.sat_gear.specs.Gear.{GearSeen, after_drain, drained_of}
use Rattle.sat_gear.specs.Lanes.{count_of}
use Rattle.sat_sink.specs.Sink.{ready_of}
use Rattle.sat_epoch.specs.declared.views.CloseFault.{CloseFault}
use Rattle.sat_epoch.specs.declared.views.FallFault.{FallFault}
use Rattle.sat_epoch.specs.declared.views.AdvanceFault.{AdvanceFault}
use Rattle.sat_act.specs.declared.answer.Answer.{Answer}
use Rattle.sat_act.specs.declared.answer.Answer.TheVariants as ans
use Rattle.sat_proxy.specs.declared.proxy.Turned.{Turned}
use Rattle.sat_proxy.specs.declared.proxy.Turned.TheVariants as turned
use Rattle.sat_proxy.specs.declared.proxy.TurnFault.{TurnFault}
use Rattle.sat_proxy.specs.declared.proxy.StampFault.{StampFault}
use Rattle.sat_proxy.specs.Answers.{stamp_answer, turn_answer}
use Rattle.sat_proxy.specs.Steps.{stamp_shows, turn_shows}
use Rattle.sat_hub.specs.Seen.{HubSeen, IsGather, IsGuest, IsHub, IsMadeHere}
use Rattle.sat_hub.specs.Changes.{gathered, stamped as hub_stamped, turned as hub_turned}
use Rattle.sat_hub.specs.HubSteps as hub
use Rattle.sat_site.specs.declared.input.SiteInput.TheVariants as input
use Rattle.sat_site.specs.Seen.{SiteSeen, AreGears, IsGearAt, IsSite, hub_of, site_of, with_hub}
use Rattle.sat_site.specs.Does.{Does, emits, idles}
use Rattle.sat_site.specs.SiteSteps.{show_some, stamped_after, turned_after}
use Rattle.sat_hub.proofs.Lists.{map-cases, Mapped}
use Rattle.sat_hub.proofs.Sound.{past-end}
use Rattle.sat_site.proofs.Gathers.{each-gear}
use Rattle.sat_site.proofs.Sound.{drains, gathered-site}

-- ---- the hub of a site is one

pub hub-is : (x : SiteSeen) → IsSite x → IsHub (hub_of x)
hub-is x k = record {
  shape = k.shape;
  sink = k.sink;
  pending = λ g l i.
      let lt : g < length x.gears = subst (λ (n : ℕ). g < n) (k.sink.rows ∙ sym k.gears.count) (past-end x.sink.pending g l i) in
      let y = each-gear x g lt in
      (k.gears.each g y.0 y.1).pending l i;
  counts = k.counts;
  views = k.views;
  proxy = k.proxy;
  made = k.made;
}

-- ---- the hub does something that leaves its shape, and what was gathered of each gear

pub kept-site : (h n : HubSeen) (gears : List GearSeen) → IsSite (site_of h gears) → IsHub n → n.shape ≡ h.shape → n.sink.promises ≡ h.sink.promises → IsSite (site_of n gears)
kept-site h n gears k hub same promises = record {
  shape = hub.shape;
  gears = record {
    count = k.gears.count ∙ ap (λ (s : Shape). s.gears) (sym same);
    each = λ g gear at.
        let a : IsGearAt h.shape h.sink g gear = k.gears.each g gear at in
        record {
          shape = a.shape ∙ sym same;
          number = a.number;
          gathered = ap (λ (ps : List ℕ). get_or ps g 0) promises ∙ a.gathered;
          fresh = λ l i. subst (λ (s : Shape). IsMadeHere s l) (sym same) (a.fresh l i);
          pending = hub.pending g;
        };
    are = k.gears.are;
  };
  sink = hub.sink;
  counts = hub.counts;
  views = hub.views;
  proxy = hub.proxy;
  made = hub.made;
}

-- it becomes what k says
pub made-site : (h n m : HubSeen) (gears : List GearSeen) → IsSite (site_of h gears) → IsHub n → n ≡ m → m.shape ≡ h.shape → m.sink.promises ≡ h.sink.promises → IsSite (site_of n gears)
made-site h n m gears k hub is same promises = kept-site h n gears k hub (ap (λ (y : HubSeen). y.shape) is ∙ same) (ap (λ (y : HubSeen). y.sink.promises) is ∙ promises)

pub result-site : {A B : Type 0} (r : Result A B) (h n m : HubSeen) (gears : List GearSeen) → IsSite (site_of h gears) → IsHub n → OnOk r (n ≡ m) → OnErr r (n ≡ h) → m.shape ≡ h.shape → m.sink.promises ≡ h.sink.promises → IsSite (site_of n gears)
result-site (Ok a) h n m gears k hub is err same promises = made-site h n m gears k hub is same promises
result-site (Err e) h n m gears k hub is err same promises = made-site h n h gears k hub err refl refl

-- by cases of what it does
record Leaves (h n : HubSeen) : Type 0 where
  pub shape : n.shape ≡ h.shape
  pub promises : n.sink.promises ≡ h.sink.promises

emit-leaves : (h : HubSeen) (o : Option Label) → Leaves h (hub.emit_after h o)
emit-leaves h None = record { shape = refl; promises = refl }
emit-leaves h (Some l) = record { shape = refl; promises = refl }

pulse-leaves : (h : HubSeen) (o : Option Label) → Leaves h (hub.pulse_after h o)
pulse-leaves h None = record { shape = refl; promises = refl }
pulse-leaves h (Some l) = record { shape = refl; promises = refl }

close-leaves : (h : HubSeen) (o : Option CloseFault) → Leaves h (hub.close_after o h)
close-leaves h None = record { shape = refl; promises = refl }
close-leaves h (Some f) = record { shape = refl; promises = refl }

fall-leaves : (h : HubSeen) (o : Option FallFault) → Leaves h (hub.fall_after o h)
fall-leaves h None = record { shape = refl; promises = refl }
fall-leaves h (Some f) = record { shape = refl; promises = refl }

passed-leaves : (h : HubSeen) (o : Option AdvanceFault) → Leaves h (hub.passed_after o h)
passed-leaves h None = record { shape = refl; promises = refl }
passed-leaves h (Some f) = record { shape = refl; promises = refl }

pub emit-site : (h n : HubSeen) (o : Option Label) (gears : List GearSeen) → IsSite (site_of h gears) → IsHub n → n ≡ hub.emit_after h o → IsSite (site_of n gears)
emit-site h n o gears k good is = made-site h n (hub.emit_after h o) gears k good is (emit-leaves h o).shape (emit-leaves h o).promises

pub pulse-site : (h n : HubSeen) (o : Option Label) (gears : List GearSeen) → IsSite (site_of h gears) → IsHub n → n ≡ hub.pulse_after h o → IsSite (site_of n gears)
pulse-site h n o gears k good is = made-site h n (hub.pulse_after h o) gears k good is (pulse-leaves h o).shape (pulse-leaves h o).promises

pub close-site : (h n : HubSeen) (o : Option CloseFault) (gears : List GearSeen) → IsSite (site_of h gears) → IsHub n → n ≡ hub.close_after o h → IsSite (site_of n gears)
close-site h n o gears k good is = made-site h n (hub.close_after o h) gears k good is (close-leaves h o).shape (close-leaves h o).promises

pub fall-site : (h n : HubSeen) (o : Option FallFault) (gears : List GearSeen) → IsSite (site_of h gears) → IsHub n → n ≡ hub.fall_after o h → IsSite (site_of n gears)
fall-site h n o gears k good is = made-site h n (hub.fall_after o h) gears k good is (fall-leaves h o).shape (fall-leaves h o).promises

pub passed-site : (h n : HubSeen) (o : Option AdvanceFault) (gears : List GearSeen) → IsSite (site_of h gears) → IsHub n → n ≡ hub.passed_after o h → IsSite (site_of n gears)
passed-site h n o gears k good is = made-site h n (hub.passed_after o h) gears k good is (passed-leaves h o).shape (passed-leaves h o).promises

-- ---- what the site then is

pub after-by : (h n : HubSeen) (gears : List GearSeen) (x : SiteSeen) (f : HubSeen → HubSeen) → site_of h gears ≡ x → n ≡ f h → site_of n gears ≡ with_hub x (f (hub_of x))
after-by h n gears x f same e = ap (λ (y : HubSeen). site_of y gears) e ∙ ap (λ (y : SiteSeen). with_hub y (f (hub_of y))) same

pub ok-by : {A B : Type 0} (r : Result A B) (h n : HubSeen) (gears : List GearSeen) (x : SiteSeen) (f : HubSeen → HubSeen) → site_of h gears ≡ x → OnOk r (n ≡ f h) → OnOk r (site_of n gears ≡ with_hub x (f (hub_of x)))
ok-by (Ok a) h n gears x f same e = after-by h n gears x f same e
ok-by (Err e) h n gears x f same is = tt

pub err-by : {A B : Type 0} (r : Result A B) (h n : HubSeen) (gears : List GearSeen) (x : SiteSeen) → site_of h gears ≡ x → OnErr r (n ≡ h) → OnErr r (site_of n gears ≡ x)
err-by (Ok a) h n gears x same e = tt
err-by (Err f) h n gears x same e = ap (λ (y : HubSeen). site_of y gears) e ∙ same

-- ---- an emission

pub did-emit : (h n : HubSeen) (gears : List GearSeen) (x : SiteSeen) (r : Answer) → site_of h gears ≡ x → r ≡ hub.emit_answer (ready_of h.sink) → n ≡ hub.emit_after h (ready_of h.sink) → Does x input.Emit r (site_of n gears)
did-emit h n gears x r same answer after =
    subst (λ (y : SiteSeen). Does y input.Emit r (site_of n gears)) same
    (subst (λ (a : Answer). Does (site_of h gears) input.Emit a (site_of n gears)) (sym answer)
    (subst (λ (m : HubSeen). Does (site_of h gears) input.Emit (hub.emit_answer (ready_of h.sink)) (site_of m gears)) (sym after) (go (ready_of h.sink) refl)))
  where
    go : (o : Option Label) → ready_of h.sink ≡ o → Does (site_of h gears) input.Emit (hub.emit_answer o) (site_of (hub.emit_after h o) gears)
    go None e = idles e
    go (Some l) e = emits e

pub known-emit : (h n : HubSeen) (gears : List GearSeen) (x : SiteSeen) (l : Label) → site_of h gears ≡ x → ready_of x.sink ≡ Some l → n ≡ hub.emit_after h (Some l) → Does x input.Emit (ans.Emitted l) (site_of n gears)
known-emit h n gears x l same e after =
    let here : ready_of h.sink ≡ Some l = ap (λ (y : SiteSeen). ready_of y.sink) same ∙ e in
    did-emit h n gears x (ans.Emitted l) same (ap hub.emit_answer (sym here)) (after ∙ ap (hub.emit_after h) (sym here))

-- ---- a gather

-- what the gears made is what the hub may be handed
pub gives-all : (x : SiteSeen) → IsSite x → IsGather (hub_of x) (map drained_of x.gears)
gives-all x k = record {
  drain = drains x k;
  given = λ g d at.
      let w : Mapped drained_of x.gears g d = map-cases drained_of x.gears g d at in
      let a : IsGearAt x.shape x.sink g w.old = k.gears.each g w.old w.at in
      record {
        labels = λ l i. a.fresh l (subst (λ (e : Drained). In e.labels l) (sym w.is) i);
        counts = ap (λ (e : Drained). length e.counts) (sym w.is) ∙ (length-map w.old.lanes count_of ∙ ((k.gears.are g w.old w.at).lanes ∙ ap (λ (s : Shape). s.sites) a.shape));
      };
}

pub gather-site : (h n : HubSeen) (old gears : List GearSeen) → IsSite (site_of h old) → n ≡ gathered h (map drained_of old) → gears ≡ map after_drain old → AreGears gears → IsSite (site_of n gears)
gather-site h n old gears k is drained good =
    subst IsSite (λ j. site_of (sym is j) (sym drained j)) (gathered-site (site_of h old) k (subst AreGears drained good))

-- ---- a turn, and the next update in timestamp order

pub turn-guest : (h n : HubSeen) (front : Option Label) (r : Result Turned TurnFault) (t : Turned) (q : Payload) → ((p : Payload) → hub.turn_given r ≡ Some p → IsGuest h.shape p) → n ≡ hub_turned h front → r ≡ Ok t → t ≡ turned.Show q → IsGuest n.shape q
turn-guest h n front r t q guest after e is = subst (λ (m : HubSeen). IsGuest m.shape q) (sym after) (guest q (ap hub.turn_given (e ∙ ap Ok is)))

pub turn-told : (h : HubSeen) (gears : List GearSeen) (x : SiteSeen) (front : Option Label) (r s : Result Turned TurnFault) (a : Answer) → site_of h gears ≡ x → hub.turn_told r ≡ turn_answer h.views h.proxy front → r ≡ s → a ≡ hub.turn_told s → a ≡ turn_answer x.views x.proxy front
turn-told h gears x front r s a same told e is = is ∙ (ap hub.turn_told (sym e) ∙ (told ∙ ap (λ (y : SiteSeen). turn_answer y.views y.proxy front) same))

pub turn-after : (h n : HubSeen) (gears : List GearSeen) (x y : SiteSeen) (front : Option Label) (r s : Result Turned TurnFault) → site_of h gears ≡ x → n ≡ hub_turned h front → hub.turn_given r ≡ turn_shows h.views h.proxy front → r ≡ s → y ≡ show_some (site_of n gears) (hub.turn_given s) → y ≡ turned_after x front
turn-after h n gears x y front r s same after shows e is =
    is ∙ ((λ j. show_some (site_of (after j) gears) ((ap hub.turn_given (sym e) ∙ shows) j)) ∙ ap (λ (z : SiteSeen). turned_after z front) same)

-- by what the fault is
pub fault-after : (h n : HubSeen) (gears : List GearSeen) (x : SiteSeen) (front : Option Label) (r : Result Turned TurnFault) (f : TurnFault) → site_of h gears ≡ x → n ≡ hub_turned h front → hub.turn_given r ≡ turn_shows h.views h.proxy front → r ≡ Err f → site_of n gears ≡ turned_after x front
fault-after h n gears x front r f same after shows e = turn-after h n gears x (site_of n gears) front r (Err f) same after shows e refl

pub stamp-guest : (h n : HubSeen) (r : Result Payload StampFault) (q : Payload) → IfOk r (λ p. IsGuest h.shape p) → n ≡ hub_stamped h → r ≡ Ok q → IsGuest n.shape q
stamp-guest h n (Ok p) q guest after e = let same : p ≡ q = cc in subst (λ (m : HubSeen). IsGuest m.shape q) (sym after) (subst (IsGuest h.shape) same guest)
stamp-guest h n (Err f) q guest after e = absurd (cc)

pub stamp-told : (h : HubSeen) (gears : List GearSeen) (x : SiteSeen) (r s : Result Payload StampFault) (a : Answer) → site_of h gears ≡ x → hub.stamp_told r ≡ stamp_answer h.views h.proxy → r ≡ s → a ≡ hub.stamp_told s → a ≡ stamp_answer x.views x.proxy
stamp-told h gears x r s a same told e is = is ∙ (ap hub.stamp_told (sym e) ∙ (told ∙ ap (λ (y : SiteSeen). stamp_answer y.views y.proxy) same))

pub stamp-after : (h n : HubSeen) (gears : List GearSeen) (x y : SiteSeen) (r s : Result Payload StampFault) → site_of h gears ≡ x → n ≡ hub_stamped h → hub.stamp_given r ≡ stamp_shows h.views h.proxy → r ≡ s → y ≡ show_some (site_of n gears) (hub.stamp_given s) → y ≡ stamped_after x
stamp-after h n gears x y r s same after shows e is =
    is ∙ ((λ j. show_some (site_of (after j) gears) ((ap hub.stamp_given (sym e) ∙ shows) j)) ∙ ap stamped_after same)

-- by what the fault is
pub unstamped-after : (h n : HubSeen) (gears : List GearSeen) (x : SiteSeen) (r : Result Payload StampFault) (f : StampFault) → site_of h gears ≡ x → n ≡ hub_stamped h → hub.stamp_given r ≡ stamp_shows h.views h.proxy → r ≡ Err f → site_of n gears ≡ stamped_after x
unstamped-after h n gears x r f same after shows e = stamp-after h n gears x (site_of n gears) r (Err f) same after shows e refl
