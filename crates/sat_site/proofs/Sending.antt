-- What a step sends, in which epoch, and which beat it makes.
use Rattle.std.specs.Prelude.{◌≡◌, ℕ, Option, None, refl}
use Rattle.std.proofs.Common.{ap, sym, ◌∙◌}
use Rattle.sat_label.specs.declared.label.Label.{Label}
use Rattle.sat_site.specs.declared.input.SiteInput as code
use Rattle.sat_site.specs.declared.input.SiteInput.TheVariants as input
use Rattle.sat_site.specs.Seen.{SiteSeen}
use Rattle.sat_site.specs.SiteSteps.{site_beat, site_epoch, site_sends, sent_epoch}

-- no act but an emission, a pulse and a close sends
pub no-send : (x : SiteSeen) (given : code.SiteInput) → (given ≡ input.Emit → ⊥) → (given ≡ input.Pulse → ⊥) → (given ≡ input.Close → ⊥) → None ≡ site_sends x given
unfolding site_sends
no-send x (input.Tick g t) e p c = refl
no-send x (input.Write seen n value) e p c = refl
no-send x (input.Read seen n) e p c = refl
no-send x (input.Move seen j) e p c = refl
no-send x (input.Attach seen) e p c = refl
no-send x input.Gather e p c = refl
no-send x input.Emit e p c = absurd (e refl)
no-send x input.Pulse e p c = absurd (p refl)
no-send x (input.Turn front) e p c = refl
no-send x (input.Bulk from gear n payload) e p c = refl
no-send x (input.Beat j) e p c = refl
no-send x (input.BeatIn from n beat) e p c = refl
no-send x input.Stamp e p c = refl
no-send x input.Close e p c = absurd (c refl)
no-send x input.Fall e p c = refl
no-send x input.Advance e p c = refl

-- but in a turn, the epoch is that of what is sent
pub sent-in : (x : SiteSeen) (given : code.SiteInput) (o p : Option Label) → ((front : Option Label) → given ≡ input.Turn front → ⊥) → o ≡ site_sends x given → o ≡ p → sent_epoch p x.views.emission ≡ site_epoch x given
unfolding site_epoch
sent-in x (input.Tick g t) o p other sends e = ap (λ (o : Option Label). sent_epoch o x.views.emission) (sym e ∙ sends)
sent-in x (input.Write seen n value) o p other sends e = ap (λ (o : Option Label). sent_epoch o x.views.emission) (sym e ∙ sends)
sent-in x (input.Read seen n) o p other sends e = ap (λ (o : Option Label). sent_epoch o x.views.emission) (sym e ∙ sends)
sent-in x (input.Move seen j) o p other sends e = ap (λ (o : Option Label). sent_epoch o x.views.emission) (sym e ∙ sends)
sent-in x (input.Attach seen) o p other sends e = ap (λ (o : Option Label). sent_epoch o x.views.emission) (sym e ∙ sends)
sent-in x input.Gather o p other sends e = ap (λ (o : Option Label). sent_epoch o x.views.emission) (sym e ∙ sends)
sent-in x input.Emit o p other sends e = ap (λ (o : Option Label). sent_epoch o x.views.emission) (sym e ∙ sends)
sent-in x input.Pulse o p other sends e = ap (λ (o : Option Label). sent_epoch o x.views.emission) (sym e ∙ sends)
sent-in x (input.Turn front) o p other sends e = absurd (other front refl)
sent-in x (input.Bulk from gear n payload) o p other sends e = ap (λ (o : Option Label). sent_epoch o x.views.emission) (sym e ∙ sends)
sent-in x (input.Beat j) o p other sends e = ap (λ (o : Option Label). sent_epoch o x.views.emission) (sym e ∙ sends)
sent-in x (input.BeatIn from n beat) o p other sends e = ap (λ (o : Option Label). sent_epoch o x.views.emission) (sym e ∙ sends)
sent-in x input.Stamp o p other sends e = ap (λ (o : Option Label). sent_epoch o x.views.emission) (sym e ∙ sends)
sent-in x input.Close o p other sends e = ap (λ (o : Option Label). sent_epoch o x.views.emission) (sym e ∙ sends)
sent-in x input.Fall o p other sends e = ap (λ (o : Option Label). sent_epoch o x.views.emission) (sym e ∙ sends)
sent-in x input.Advance o p other sends e = ap (λ (o : Option Label). sent_epoch o x.views.emission) (sym e ∙ sends)

pub turn-epoch : (x : SiteSeen) (given : code.SiteInput) (front : Option Label) → given ≡ input.Turn front → x.views.view ≡ site_epoch x given
unfolding site_epoch
turn-epoch x given front same = ap (site_epoch x) (sym same)

-- only a Beat makes a beat
pub no-beat : (x : SiteSeen) (given : code.SiteInput) → ((j : ℕ) → given ≡ input.Beat j → ⊥) → None ≡ site_beat x given
unfolding site_beat
no-beat x (input.Tick g t) other = refl
no-beat x (input.Write seen n value) other = refl
no-beat x (input.Read seen n) other = refl
no-beat x (input.Move seen j) other = refl
no-beat x (input.Attach seen) other = refl
no-beat x input.Gather other = refl
no-beat x input.Emit other = refl
no-beat x input.Pulse other = refl
no-beat x (input.Turn front) other = refl
no-beat x (input.Bulk from gear n payload) other = refl
no-beat x (input.Beat j) other = absurd (other j refl)
no-beat x (input.BeatIn from n beat) other = refl
no-beat x input.Stamp other = refl
no-beat x input.Close other = refl
no-beat x input.Fall other = refl
no-beat x input.Advance other = refl
