-- What a site gives is what its machine means.
use Rattle.std.proofs.Common.{◌≡◌, ◌∙◌, ℕ, ◌≤◌, ◌<◌, true, refl, sym, ap, Option, Some, None, List, get_or, map, subst, is_none, [], ◌∷◌, length, zero, suc, arith}
use Rattle.std.proofs.lemmas.Bool.{and_parts}
use Rattle.sat_machines.proofs.Plain.{beat_fits}
use Rattle.sat_label.specs.declared.label.Label.{Label}
use Rattle.sat_label.specs.Words.{bit}
use Rattle.sat_sites.specs.declared.shape.Shape.{Shape}
use Rattle.sat_epoch.specs.Epochs.{close_fault, is_stamp}
use Rattle.sat_epoch.specs.declared.views.CloseFault.{CloseFault}
use Rattle.sat_epoch.specs.declared.views.CloseFault.TheVariants as close
use Rattle.sat_sink.specs.Sink.{ready_of}
use Rattle.sat_act.specs.declared.answer.Answer.{Answer}
use Rattle.sat_act.specs.Deployed.{Deployed}
use Rattle.sat_act.specs.Limits.{IsDeployment}
use Rattle.sat_act.specs.Parts.{tree_of}
use Rattle.sat_model.specs.State.{SiteState}
use Rattle.sat_model.specs.Next.{note_of as machine_note}
use Rattle.sat_proxy.specs.Proxy.{note_of}
use Rattle.sat_site.specs.declared.input.SiteInput.{SiteInput}
use Rattle.sat_site.specs.declared.input.SiteInput.TheVariants as input
use Rattle.sat_site.specs.Changes.{beat_for, count_to}
use Rattle.sat_site.specs.Gives.{label_sent}
use Rattle.sat_site.specs.Inputs.{fits_in, is_sized}
use Rattle.sat_site.specs.Laws.{EachStep, EachFits}
use Rattle.sat_site.specs.Seen.{SiteSeen, IsSite}
use Rattle.sat_site.specs.SiteSteps.{site_answers, site_beat, site_epoch, site_sends, emit_sends, emit_answer, pulse_answer, close_answer, next_pulse, next_close, sent_epoch}
use Rattle.sat_site.specs.Stands.{StandsSite}
use Rattle.sat_site.proofs.Rows.{cut-same}
use Rattle.sat_machines.specs.declared.site_answer.SiteAnswer.{SiteAnswer}
use Rattle.sat_machines.specs.Acts.{ActSeen, IsBy}
use Rattle.sat_machines.specs.Layout.{label_link}
use Rattle.sat_label.specs.declared.node.NodeName.{NodeName}
use Rattle.sat_label.specs.declared.node.NodeName.TheVariants as named
use Rattle.sat_machines.specs.Sites.{number_of, Stands, AnswersAt, FitsAt, BeatBy, leaves, sent_by, epoch_by, is_keeper}

-- ---- what is sent

sent-of-emit : (o : Option Label) → o ≡ label_sent (emit_answer o)
sent-of-emit None = refl
sent-of-emit (Some l) = refl

sent-of-pulse : (o : Option Label) → o ≡ label_sent (pulse_answer o)
sent-of-pulse None = refl
sent-of-pulse (Some l) = refl

sent-of-close : (o : Option CloseFault) (x : SiteSeen) → next_close o x ≡ label_sent (close_answer o x)
sent-of-close (Some close.NoNextEpoch) x = refl
sent-of-close (Some close.Behind) x = refl
sent-of-close None x = refl

arith-trans : {a b c : ℕ} → a ≤ b → b ≤ c → a ≤ c
arith-trans e f = omega arith

stamp-is : (d : Deployed) (i : ℕ) (x : SiteSeen) (s : SiteState) → IsSite x → StandsSite d i x s → is_stamp x.views x.views.emission ≡ is_none (tree_of d s.views.emission)
stamp-is d i x s site st = st.views.plans x.views.emission low high ∙ ap (λ (e : ℕ). is_none (tree_of d e)) st.views.emission
  where
    low : 1 ≤ x.views.emission
    low = arith-trans site.views.sound.start site.views.sound.low

    high : x.views.emission ≤ length d.plans
    high = subst (λ (n : ℕ). x.views.emission ≤ n) st.views.count site.views.sound.last

leaves-is : (d : Deployed) (i : ℕ) (x : SiteSeen) (s : SiteState) (o : Option Label) (r : Answer) → IsSite x → StandsSite d i x s → o ≡ label_sent r →
    emit_sends (is_stamp x.views x.views.emission) x.shape o ≡ leaves d i s r
leaves-is d i x s o r site st e = λ n. emit_sends (stamp-is d i x s site st n) (st.shape n) (e n)

pub sent-is : (d : Deployed) (i : ℕ) (x : SiteSeen) (s : SiteState) (given : SiteInput) → IsSite x → StandsSite d i x s → site_sends x given ≡ sent_by d i s given (site_answers x given)
unfolding site_sends site_answers sent_by
sent-is d i x s input.Emit site st = leaves-is d i x s (ready_of x.sink) (emit_answer (ready_of x.sink)) site st (sent-of-emit (ready_of x.sink))
sent-is d i x s input.Pulse site st = leaves-is d i x s (next_pulse x.sink) (pulse_answer (next_pulse x.sink)) site st (sent-of-pulse (next_pulse x.sink))
sent-is d i x s input.Close site st = leaves-is d i x s (next_close (close_fault x.views) x) (close_answer (close_fault x.views) x) site st (sent-of-close (close_fault x.views) x)
sent-is d i x s (input.Tick g t) site st = refl
sent-is d i x s (input.Write seen items values) site st = refl
sent-is d i x s (input.Read seen n) site st = refl
sent-is d i x s (input.Move seen j) site st = refl
sent-is d i x s (input.Attach seen) site st = refl
sent-is d i x s input.Gather site st = refl
sent-is d i x s (input.Turn front) site st = refl
sent-is d i x s (input.Bulk from gear number p) site st = refl
sent-is d i x s (input.Beat j) site st = refl
sent-is d i x s (input.BeatIn from number beat) site st = refl
sent-is d i x s input.Stamp site st = refl
sent-is d i x s input.Fall site st = refl
sent-is d i x s input.Advance site st = refl

-- ---- its epoch

pub epoch-is : (d : Deployed) (i : ℕ) (x : SiteSeen) (s : SiteState) (given : SiteInput) → StandsSite d i x s → site_epoch x given ≡ epoch_by s given (site_sends x given)
unfolding site_epoch epoch_by
epoch-is d i x s (input.Turn front) st = st.views.view
epoch-is d i x s (input.Tick g t) st = ap (sent_epoch (site_sends x (input.Tick g t))) st.views.emission
epoch-is d i x s (input.Write seen items values) st = ap (sent_epoch (site_sends x (input.Write seen items values))) st.views.emission
epoch-is d i x s (input.Read seen n) st = ap (sent_epoch (site_sends x (input.Read seen n))) st.views.emission
epoch-is d i x s (input.Move seen j) st = ap (sent_epoch (site_sends x (input.Move seen j))) st.views.emission
epoch-is d i x s (input.Attach seen) st = ap (sent_epoch (site_sends x (input.Attach seen))) st.views.emission
epoch-is d i x s input.Gather st = ap (sent_epoch (site_sends x input.Gather)) st.views.emission
epoch-is d i x s input.Emit st = ap (sent_epoch (site_sends x input.Emit)) st.views.emission
epoch-is d i x s input.Pulse st = ap (sent_epoch (site_sends x input.Pulse)) st.views.emission
epoch-is d i x s (input.Bulk from gear number p) st = ap (sent_epoch (site_sends x (input.Bulk from gear number p))) st.views.emission
epoch-is d i x s (input.Beat j) st = ap (sent_epoch (site_sends x (input.Beat j))) st.views.emission
epoch-is d i x s (input.BeatIn from number beat) st = ap (sent_epoch (site_sends x (input.BeatIn from number beat))) st.views.emission
epoch-is d i x s input.Stamp st = ap (sent_epoch (site_sends x input.Stamp)) st.views.emission
epoch-is d i x s input.Close st = ap (sent_epoch (site_sends x input.Close)) st.views.emission
epoch-is d i x s input.Fall st = ap (sent_epoch (site_sends x input.Fall)) st.views.emission
epoch-is d i x s input.Advance st = ap (sent_epoch (site_sends x input.Advance)) st.views.emission

-- ---- beats

count-at : (rows : List (List ℕ)) (j g : ℕ) → get_or (map (count_to j) rows) g 0 ≡ get_or (get_or rows g []) j 0
count-at [] j g = refl
count-at (row ∷ rows) j zero = refl
count-at (row ∷ rows) j (suc g) = count-at rows j g

note-is : (d : Deployed) (i : ℕ) (x : SiteSeen) (s : SiteState) (j : ℕ) → j < d.sites → IsSite x → StandsSite d i x s → note_of (beat_for x j) ≡ machine_note d i s j
note-is d i x s j lt k st = λ n. record {
  cut = cut-same d i x s k st n;
  closes = λ e. sym (st.views.closes e) n;
  counts = λ g. (count-at x.counts j g ∙ st.sink.counted g j lt) n;
}

beat-site : (d : Deployed) (i : ℕ) (x : SiteSeen) (s : SiteState) (j : ℕ) → StandsSite d i x s → fits_in x (input.Beat j) ≡ true → j < d.sites
beat-site d i x s j st e = subst (λ (shape : Shape). j < shape.sites) st.shape (beat_fits x j e)

pub beat-is : (d : Deployed) (i : ℕ) (x : SiteSeen) (s : SiteState) (given : SiteInput) → IsSite x → StandsSite d i x s → fits_in x given ≡ true → BeatBy d i s given (site_beat x given)
unfolding site_beat
beat-is d i x s (input.Beat j) site st e = note-is d i x s j (beat-site d i x s j st e) site st
beat-is d i x s (input.Tick g t) site st e = refl
beat-is d i x s (input.Write seen items values) site st e = refl
beat-is d i x s (input.Read seen n) site st e = refl
beat-is d i x s (input.Move seen j) site st e = refl
beat-is d i x s (input.Attach seen) site st e = refl
beat-is d i x s input.Gather site st e = refl
beat-is d i x s input.Emit site st e = refl
beat-is d i x s input.Pulse site st e = refl
beat-is d i x s (input.Turn front) site st e = refl
beat-is d i x s (input.Bulk from gear number p) site st e = refl
beat-is d i x s (input.BeatIn from number beat) site st e = refl
beat-is d i x s input.Stamp site st e = refl
beat-is d i x s input.Close site st e = refl
beat-is d i x s input.Fall site st e = refl
beat-is d i x s input.Advance site st e = refl

-- ---- all of it

-- what a step gave
pub record Gave (d : Deployed) (x : SiteSeen) (given : SiteInput) (a : SiteAnswer) : Type 0 where
  pub answer : a.answer ≡ site_answers x given
  pub sent : a.sent ≡ site_sends x given
  pub link : a.link ≡ label_link d (site_epoch x given)
  pub keepers : (k : ℕ) → bit a.keepers.bits k ≡ is_keeper d given k
  pub beat : a.beat ≡ site_beat x given

pub answers-at : EachStep → (d : Deployed) (i : ℕ) (x : SiteSeen) (s : SiteState) (act : ActSeen) (a : SiteAnswer) → IsDeployment d → IsSite x → StandsSite d i x s → fits_in x act.input ≡ true →
    Gave d x act.input a → AnswersAt d i s act a
answers-at steps d i x s act a dep site st e g = record {
  answer = g.answer ∙ (steps x act.input site e).answers d i s dep st;
  sent = g.sent ∙ (sent-is d i x s act.input site st ∙ ap (sent_by d i s act.input) (sym g.answer));
  link = g.link ∙ ap (label_link d) (epoch-is d i x s act.input st ∙ ap (epoch_by s act.input) (sym g.sent));
  keepers = g.keepers;
  beat = subst (BeatBy d i s act.input) (sym g.beat) (beat-is d i x s act.input site st e);
}

pub fits-at : EachFits → (d : Deployed) (i : ℕ) (x : SiteSeen) (s : SiteState) (act : ActSeen) → IsDeployment d → IsSite x → StandsSite d i x s → IsBy d act.by act.input → fits_in x act.input ≡ true → FitsAt d i s act
fits-at each d i x s act dep site st by e = record { by = by; fits = (and_parts _ (is_sized x act.input) (sym (each x act.input d i s dep site st) ∙ e)).0 }

pub named-answers : EachStep → (d : Deployed) (name : NodeName) (x : SiteSeen) (s : SiteState) (act : ActSeen) (a : SiteAnswer) → IsDeployment d → IsSite x → fits_in x act.input ≡ true →
    Gave d x act.input a → Stands d name x s → AnswersAt d (number_of name) s act a
named-answers steps d (named.Site i) x s act a dep site e g st = answers-at steps d i x s act a dep site st e g
named-answers steps d (named.Serializer f z) x s act a dep site e g st = absurd st
named-answers steps d (named.Gear k h) x s act a dep site e g st = absurd st

pub named-fits : EachFits → (d : Deployed) (name : NodeName) (x : SiteSeen) (s : SiteState) (act : ActSeen) → IsDeployment d → IsSite x → IsBy d act.by act.input → fits_in x act.input ≡ true → Stands d name x s →
    FitsAt d (number_of name) s act
named-fits each d (named.Site i) x s act dep site by e st = fits-at each d i x s act dep site st by e
named-fits each d (named.Serializer f z) x s act dep site by e st = absurd st
named-fits each d (named.Gear k h) x s act dep site by e st = absurd st
