-- What the calls of a hub ask, answer and do, by each input.
use Rattle.std.specs.Prelude.{◌≡◌, ◌<◌, ◌^◌, ℕ, Bool, true, false, ◌&&◌, nat_lt, List, [], length, Option, Some, None, Result, IfOk, OnOk, refl}
use Rattle.std.proofs.Common.{Ok, Err, subst, ap, sym, ◌∙◌}
use Rattle.sat_label.specs.declared.carried.Carried.{Carried}
use Rattle.sat_label.specs.declared.label.Label.{Label}
use Rattle.sat_bulk.specs.declared.Drained.{Drained}
use Rattle.sat_bulk.specs.Payloads.{Payload}
use Rattle.sat_beat.specs.declared.Beat.{Beat}
use Rattle.sat_sites.specs.declared.shape.Shape.{Shape}
use Rattle.sat_act.specs.declared.answer.Answer.{Answer}
use Rattle.sat_hub.specs.Inputs.{is_beat_here, is_bulk_here, is_carried_here, is_counted, is_front_here, is_other_here, BulkFits, IsFront}
use Rattle.sat_hub.specs.Changes.{gathered}
use Rattle.sat_hub.specs.HubSteps.{gather_answer, sent_epoch}
use Rattle.sat_hub.specs.Seen.{HubSeen, IsGather, IsHub}
use Rattle.sat_site.specs.Inputs.{fits_in}
use Rattle.sat_site.specs.Seen.{site_of}
use Rattle.sat_site.proofs.Fitting.{fits-attach, fits-beat, fits-beat-in, fits-bulk, fits-turn}
use Rattle.sat_parts.specs.declared.hub_input.HubInput.{HubInput}
use Rattle.sat_parts.specs.declared.hub_input.HubInput.TheVariants as hub
use Rattle.sat_parts.specs.Acts.{site_handed}
use Rattle.sat_parts.specs.HubSteps.{hub_after, hub_answers, hub_beat, hub_epoch, hub_sends, hub_shows, hub_takes, may_gather}
use Rattle.sat_parts.proofs.Instead.{is_gather, takes-is}
use Rattle.sat_parts.proofs.HubGathers.{gather-fits}

-- ---- what it asks of what it takes

takes-site : (x : HubSeen) (given g : HubInput) → given ≡ g → is_gather g ≡ false → hub_takes x given ≡ true → fits_in (site_of x []) (site_handed g) ≡ true
takes-site x given g same other e = sym (takes-is x [] g other) ∙ (ap (hub_takes x) (sym same) ∙ e)

pub takes-attach : (x : HubSeen) (given : HubInput) (seen : Carried) → given ≡ hub.Attach seen → hub_takes x given ≡ true → seen.point.site < x.shape.sites
takes-attach x given seen same e = fits-attach (site_of x []) seen (takes-site x given (hub.Attach seen) same refl e)

pub takes-turn : (x : HubSeen) (given : HubInput) (front : Option Label) → given ≡ hub.Turn front → hub_takes x given ≡ true → (l : Label) → front ≡ Some l → IsFront x l
takes-turn x given front same e = fits-turn (site_of x []) front (takes-site x given (hub.Turn front) same refl e)

pub takes-bulk : (x : HubSeen) (given : HubInput) (from g n : ℕ) (p : Payload) → given ≡ hub.Bulk from g n p → hub_takes x given ≡ true → BulkFits x from g n p
takes-bulk x given from g n p same e = fits-bulk (site_of x []) from g n p (takes-site x given (hub.Bulk from g n p) same refl e)

pub takes-beat : (x : HubSeen) (given : HubInput) (j : ℕ) → given ≡ hub.Beat j → hub_takes x given ≡ true → j < x.shape.sites
takes-beat x given j same e = fits-beat (site_of x []) j (takes-site x given (hub.Beat j) same refl e)

pub takes-beat-in : (x : HubSeen) (given : HubInput) (from n : ℕ) (beat : Beat) → given ≡ hub.BeatIn from n beat → hub_takes x given ≡ true → (from < x.shape.sites) × (length beat.counts ≡ x.shape.gears)
takes-beat-in x given from n beat same e = fits-beat-in (site_of x []) from n beat (takes-site x given (hub.BeatIn from n beat) same refl e)

pub takes-drains : (x : HubSeen) (given : HubInput) (drained asked : List Drained) → given ≡ hub.Gather drained → asked ≡ drained → IsHub x → hub_takes x given ≡ true → IsGather x asked
unfolding hub_takes
takes-drains x given drained asked same is k e = subst (IsGather x) (sym is) (gather-fits x drained k (ap (hub_takes x) (sym same) ∙ e))

-- ---- what it takes, by what the code asks

pub asks-attach : (s : Shape) (x : HubSeen) (seen : Carried) (r : Bool) (given : HubInput) → s ≡ x.shape → given ≡ hub.Attach seen → r ≡ is_carried_here s seen → r ≡ hub_takes x given
unfolding hub_takes
asks-attach s x seen r given same is e = e ∙ (ap (λ (s : Shape). is_carried_here s seen) same ∙ ap (hub_takes x) (sym is))

pub asks-beat : (s : Shape) (x : HubSeen) (j : ℕ) (r : Bool) (given : HubInput) → s ≡ x.shape → given ≡ hub.Beat j → r ≡ is_other_here s j → r ≡ hub_takes x given
unfolding hub_takes
asks-beat s x j r given same is e = e ∙ (ap (λ (s : Shape). is_other_here s j) same ∙ ap (hub_takes x) (sym is))

pub asks-drains : (x : HubSeen) (drained asked : List Drained) (r : Bool) (given : HubInput) → asked ≡ drained → given ≡ hub.Gather drained → r ≡ may_gather x asked → r ≡ hub_takes x given
unfolding hub_takes
asks-drains x drained asked r given same is e = e ∙ (ap (may_gather x) same ∙ ap (hub_takes x) (sym is))

pub asks-front : (x : HubSeen) (front : Option Label) (l : Label) (r : Bool) (given : HubInput) → given ≡ hub.Turn front → front ≡ Some l → r ≡ is_front_here x.shape x.views.view l → r ≡ hub_takes x given
unfolding hub_takes
asks-front x front l r given is at e = e ∙ (ap (λ (o : Option Label). hub_takes x (hub.Turn o)) (sym at) ∙ ap (hub_takes x) (sym is))

pub asks-none : (x : HubSeen) (front : Option Label) (given : HubInput) → given ≡ hub.Turn front → front ≡ None → true ≡ hub_takes x given
unfolding hub_takes
asks-none x front given is at = ap (λ (o : Option Label). hub_takes x (hub.Turn o)) (sym at) ∙ ap (hub_takes x) (sym is)

pub asks-bulk : (x : HubSeen) (from g n : ℕ) (p : Payload) (r : Bool) (given : HubInput) → given ≡ hub.Bulk from g n p → r ≡ (is_bulk_here x.shape x.proxy from g n p && nat_lt n (2 ^ 63)) → r ≡ hub_takes x given
unfolding hub_takes
asks-bulk x from g n p r given is e = e ∙ ap (hub_takes x) (sym is)

pub asks-beat-in : (x : HubSeen) (from n : ℕ) (beat : Beat) (r : Bool) (given : HubInput) → given ≡ hub.BeatIn from n beat → r ≡ ((is_other_here x.shape from && is_beat_here x.shape (length x.views.stamp) beat) && (nat_lt n (2 ^ 63) && is_counted x beat)) → r ≡ hub_takes x given
unfolding hub_takes
asks-beat-in x from n beat r given is e = e ∙ ap (hub_takes x) (sym is)

-- ---- what is sent, made and shown

pub no-send : (x : HubSeen) (given : HubInput) → (given ≡ hub.Emit → ⊥) → (given ≡ hub.Pulse → ⊥) → (given ≡ hub.Close → ⊥) → None ≡ hub_sends x given
unfolding hub_sends
no-send x hub.Emit e p c = absurd (e refl)
no-send x hub.Pulse e p c = absurd (p refl)
no-send x hub.Close e p c = absurd (c refl)
no-send x _ e p c = refl

pub turn-epoch : (x : HubSeen) (given : HubInput) (front : Option Label) → given ≡ hub.Turn front → x.views.view ≡ hub_epoch x given
unfolding hub_epoch
turn-epoch x given front same = ap (hub_epoch x) (sym same)

pub sent-in : (x : HubSeen) (given : HubInput) (o p : Option Label) → ((front : Option Label) → given ≡ hub.Turn front → ⊥) → o ≡ hub_sends x given → o ≡ p → sent_epoch p x.views.emission ≡ hub_epoch x given
unfolding hub_epoch
sent-in x (hub.Turn front) o p other sends e = absurd (other front refl)
sent-in x _ o p other sends e = ap (λ (o : Option Label). sent_epoch o x.views.emission) (sym e ∙ sends)

pub no-beat : (x : HubSeen) (given : HubInput) → ((j : ℕ) → given ≡ hub.Beat j → ⊥) → None ≡ hub_beat x given
unfolding hub_beat
no-beat x (hub.Beat j) other = absurd (other j refl)
no-beat x _ other = refl

pub no-show : (x : HubSeen) (given : HubInput) → ((front : Option Label) → given ≡ hub.Turn front → ⊥) → (given ≡ hub.Stamp → ⊥) → None ≡ hub_shows x given
unfolding hub_shows
no-show x (hub.Turn front) t s = absurd (t front refl)
no-show x hub.Stamp t s = absurd (s refl)
no-show x _ t s = refl

-- ---- a result, by what the input is

pub ok-answer : {E : Type 0} (x : HubSeen) (given g : HubInput) (r : Result Answer E) → given ≡ g → IfOk r (λ a. a ≡ hub_answers x g) → IfOk r (λ a. a ≡ hub_answers x given)
ok-answer x given g (Ok a) is e = e ∙ ap (hub_answers x) (sym is)
ok-answer x given g (Err f) is e = tt

pub ok-after : {E : Type 0} (x y : HubSeen) (given g : HubInput) (r : Result Answer E) → given ≡ g → OnOk r (y ≡ hub_after x g) → OnOk r (y ≡ hub_after x given)
ok-after x y given g (Ok a) is e = e ∙ ap (hub_after x) (sym is)
ok-after x y given g (Err f) is e = tt

pub ok-drains : {E : Type 0} (x : HubSeen) (given : HubInput) (drained asked : List Drained) (r : Result Answer E) → given ≡ hub.Gather drained → asked ≡ drained → IfOk r (λ a. a ≡ gather_answer asked) → IfOk r (λ a. a ≡ hub_answers x given)
unfolding hub_answers
ok-drains x given drained asked (Ok a) is same e = e ∙ (ap gather_answer same ∙ ap (hub_answers x) (sym is))
ok-drains x given drained asked (Err f) is same e = tt

pub after-drains : {E : Type 0} (x y : HubSeen) (given : HubInput) (drained asked : List Drained) (r : Result Answer E) → given ≡ hub.Gather drained → asked ≡ drained → OnOk r (y ≡ gathered x asked) → OnOk r (y ≡ hub_after x given)
unfolding hub_after
after-drains x y given drained asked (Ok a) is same e = e ∙ (ap (gathered x) same ∙ ap (hub_after x) (sym is))
after-drains x y given drained asked (Err f) is same e = tt

pub ok-show : {E : Type 0} (x : HubSeen) (given g : HubInput) (r : Result (Option Payload) E) (o : Option Payload) → given ≡ g → IfOk r (λ s. s ≡ o) → o ≡ hub_shows x g → IfOk r (λ s. s ≡ hub_shows x given)
ok-show x given g (Ok s) o is e f = e ∙ (f ∙ ap (hub_shows x) (sym is))
ok-show x given g (Err f) o is e q = tt
