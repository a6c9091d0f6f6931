-- What a hub does next.
use Rattle.std.proofs.Common.{◌≡◌, ℕ, ◌<◌, ◌≤◌, ◌&&◌, ◌≢◌, Bool, true, false, List, length, Option, Some, None, slice_get, refl, sym, ap, ◌∙◌, subst, arith}
use Rattle.std.specs.Prelude.{is_none}
use Rattle.std.proofs.lemmas.Option.{slice_get_within}
use Rattle.sat_label.specs.declared.label.Label.{Label}
use Rattle.sat_bulk.specs.Payloads.{Payload}
use Rattle.sat_epoch.specs.Epochs.{advance_fault}
use Rattle.sat_proxy.specs.Steps.{has_come, stamp_shows, turn_shows}
use Rattle.sat_hub.specs.Seen.{HubSeen}
use Rattle.sat_site.proofs.Asked.{view-done}
use Rattle.sat_node.specs.declared.kept.Body.{Body}
use Rattle.sat_node.specs.declared.kept.Body.TheVariants as body
use Rattle.sat_node.specs.declared.kept.Envelope.{Envelope}
use Rattle.sat_node.specs.Links.{InSeen, OnlyAt, Pulled}
use Rattle.sat_machines.specs.Sites.{some_if}
use Rattle.sat_parts.specs.declared.hub_input.HubInput.TheVariants as hub
use Rattle.sat_parts.specs.HubSteps.{hub_answers, hub_shows, hub_takes}
use Rattle.sat_parts_passes.specs.Sendings.{would_do}
use Rattle.sat_parts_pump.specs.declared.lending.Lent.{Lent}
use Rattle.sat_parts_pump.specs.declared.coming.Next.{Next}
use Rattle.sat_parts_pump.specs.declared.coming.Next.TheVariants as next
use Rattle.sat_parts_pump.specs.Next.{IsPulled, label_at, label_with, lent_by, next_alone, next_by, next_would}

-- ---- what it would do

pub advance_can : (x : HubSeen) (can : Bool) → can ≡ is_none (advance_fault x.views (has_come x.views x.proxy)) → can ≡ would_do x hub.Advance
unfolding hub_takes hub_answers
advance_can x can e = e ∙ view-done (advance_fault x.views (has_come x.views x.proxy)) x.views.view

some-is : (x : HubSeen) (m l : Label) (b : Bool) → would_do x (hub.Turn (Some m)) ≡ b → some_if b m ≡ Some l → would_do x (hub.Turn (Some l)) ≡ true
some-is x m l true would some = (let same : m ≡ l = cc (some) in ap (λ (k : Label). would_do x (hub.Turn (Some k))) (sym same) ∙ would)
some-is x m l false would some = absurd (cc (some))

with-would : (x : HubSeen) (b : Body) (l : Label) → label_with x b ≡ Some l → would_do x (hub.Turn (Some l)) ≡ true
with-would x (body.Label m) l some = some-is x m l (would_do x (hub.Turn (Some m))) refl some
with-would x (body.Payload gear number payload) l some = absurd (cc (some))
with-would x (body.Beat number beat) l some = absurd (cc (some))

-- a label that it would take
pub label_would : (x : HubSeen) (f : Option Envelope) (l : Label) → label_at x f ≡ Some l → would_do x (hub.Turn (Some l)) ≡ true
label_would x None l some = absurd (cc (some))
label_would x (Some e) l some = with-would x e.body l some

-- ---- which gears it needs

pub stamp_lent : (x y : HubSeen) (p : Option Payload) → y ≡ x → p ≡ stamp_shows y.views y.proxy → lent_by p ≡ lent_by (hub_shows x hub.Stamp)
unfolding hub_shows
stamp_lent x y p same is = ap lent_by (is ∙ ap (λ (z : HubSeen). stamp_shows z.views z.proxy) same)

pub turn_lent : (x y : HubSeen) (l : Label) (p : Option Payload) → y ≡ x → p ≡ turn_shows y.views y.proxy (Some l) → lent_by p ≡ lent_by (hub_shows x (hub.Turn (Some l)))
unfolding hub_shows
turn_lent x y l p same is = ap lent_by (is ∙ ap (λ (z : HubSeen). turn_shows z.views z.proxy (Some l)) same)

-- ---- what is next

pub stamps : (x : HubSeen) (s : Bool) (shown : Lent) → s ≡ would_do x hub.Stamp → s ≡ true → shown ≡ lent_by (hub_shows x hub.Stamp) → next.Stamp shown ≡ next_alone x
stamps x s shown is holds shows =
    ap next.Stamp shows ∙ ap (λ (b : Bool). next_would b (would_do x hub.Advance) (lent_by (hub_shows x hub.Stamp))) (sym holds ∙ is)

pub advances : (x : HubSeen) (s a : Bool) → s ≡ would_do x hub.Stamp → s ≡ false → a ≡ would_do x hub.Advance → a ≡ true → next.Advance ≡ next_alone x
advances x s a is stays goes would = λ i. next_would ((sym stays ∙ is) i) ((sym would ∙ goes) i) (lent_by (hub_shows x hub.Stamp))

pub rests : (x : HubSeen) (s a : Bool) → s ≡ would_do x hub.Stamp → s ≡ false → a ≡ would_do x hub.Advance → a ≡ false → next.Nothing ≡ next_alone x
rests x s a is stays goes would = λ i. next_would ((sym stays ∙ is) i) ((sym would ∙ goes) i) (lent_by (hub_shows x hub.Stamp))

pub turns : (x : HubSeen) (l : Label) (o : Option Label) (shown : Lent) → o ≡ Some l → shown ≡ lent_by (hub_shows x (hub.Turn (Some l))) → next.Turn shown ≡ next_by x o
turns x l o shown is shows = ap next.Turn shows ∙ ap (next_by x) (sym is)

pub takes_none : (x : HubSeen) (o : Option Label) (n : Next) → o ≡ None → n ≡ next_alone x → n ≡ next_by x o
takes_none x o n is alone = alone ∙ ap (next_by x) (sym is)

-- ---- what was pulled

-- there is no such link
pub beyond : (R : InSeen → InSeen → Type 0) (link : ℕ) (a : List InSeen) → length a ≤ link → OnlyAt link R a a
beyond R link a le = (refl, λ k y at. (y, at, ((λ other. refl), (λ here. absurd (let less : k < length a = slice_get_within a k y at in omega arith)))))
