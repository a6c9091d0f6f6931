-- What a site means as a machine: its state, its answers, and what its entries put on links and take from them.
use Rattle.std.specs.Prelude.{ℕ, ◌≡◌, ◌==◌, ◌&&◌, Bool, true, false, List, Option, Some, None, is_none}
use Rattle.sat_label.specs.declared.label.Label.{Label}
use Rattle.sat_label.specs.declared.node.NodeName.{NodeName}
use Rattle.sat_label.specs.declared.node.NodeName.TheVariants as named
use Rattle.sat_label.specs.Grouped.{list_of}
use Rattle.sat_label.specs.Words.{bit}
use Rattle.sat_beat.specs.declared.Beat.{Beat}
use Rattle.sat_act.specs.declared.answer.Answer.{Answer}
use Rattle.sat_act.specs.declared.answer.Answer.TheVariants as ans
use Rattle.sat_act.specs.declared.answer.Refusal.TheVariants as why
use Rattle.sat_act.specs.Deployed.{Deployed}
use Rattle.sat_act.specs.Parts.{keeps_some, tree_of}
use Rattle.sat_model.specs.Fits.{fits}
use Rattle.sat_model.specs.State.{SiteState, fresh_site}
use Rattle.sat_model.specs.Next.{site_next, payload_at, note_of as machine_note}
use Rattle.sat_model.specs.Reply.{site_answer}
use Rattle.sat_proxy.specs.Proxy.{note_of}
use Rattle.sat_site.specs.declared.input.SiteInput.{SiteInput}
use Rattle.sat_site.specs.declared.input.SiteInput.TheVariants as input
use Rattle.sat_site.specs.Changes.{shape_for}
use Rattle.sat_site.specs.Gives.{label_sent}
use Rattle.sat_site.specs.Inputs.{input_of}
use Rattle.sat_site.specs.Seen.{SiteSeen}
use Rattle.sat_site.specs.SiteSteps.{emit_sends, sent_epoch}
use Rattle.sat_site.specs.Stands.{StandsSite}
use Rattle.sat_node.specs.declared.kept.Body.{Body}
use Rattle.sat_node.specs.declared.kept.Body.TheVariants as body
use Rattle.sat_node.specs.declared.kept.Made.{Made}
use Rattle.sat_node.specs.declared.kept.Made.TheVariants as made
use Rattle.sat_node.specs.Meanings.{Meaning}
use Rattle.sat_machines.specs.declared.site_answer.SiteAnswer.{SiteAnswer}
use Rattle.sat_machines.specs.Acts.{ActSeen, IsBy}
use Rattle.sat_machines.specs.Layout.{peer, label_link, out_places, in_places}

-- the number of a site; only sites have one
abbrev pub number_of : NodeName → ℕ
number_of (named.Site i) = i
number_of (named.Serializer e z) = 0
number_of (named.Gear i g) = i

-- the site of this name stands for a state
abbrev pub Stands : Deployed → NodeName → SiteSeen → SiteState → Type 0
Stands d (named.Site i) x s = StandsSite d i x s
Stands d (named.Serializer e z) x s = ⊥
Stands d (named.Gear i g) x s = ⊥

-- ---- answers

-- the label that enters the tree of the emission epoch
abbrev pub leaves : Deployed → ℕ → SiteState → Answer → Option Label
leaves d i s r = emit_sends (is_none (tree_of d s.views.emission)) (shape_for d i) (label_sent r)

unfoldable pub sent_by : Deployed → ℕ → SiteState → SiteInput → Answer → Option Label
sent_by d i s input.Emit r = leaves d i s r
sent_by d i s input.Pulse r = leaves d i s r
sent_by d i s input.Close r = leaves d i s r
sent_by d i s _ r = None

-- the epoch of what is sent, and in a turn of what is taken
unfoldable pub epoch_by : SiteState → SiteInput → Option Label → ℕ
epoch_by s (input.Turn front) o = s.views.view
epoch_by s given o = sent_epoch o s.views.emission

-- whether site k keeps one of the items of a write
abbrev pub is_keeper : Deployed → SiteInput → ℕ → Bool
is_keeper d (input.Write seen items values) k = keeps_some d (list_of items) k
is_keeper d _ k = false

-- the beat that is made
abbrev pub IsBeat : Deployed → ℕ → SiteState → ℕ → Option Beat → Type 0
IsBeat d i s j None = ⊥
IsBeat d i s j (Some b) = note_of b ≡ machine_note d i s j

abbrev pub BeatBy : Deployed → ℕ → SiteState → SiteInput → Option Beat → Type 0
BeatBy d i s (input.Beat j) o = IsBeat d i s j o
BeatBy d i s _ o = o ≡ None

-- the answer of the model's machine, with what is put on links
pub record AnswersAt (d : Deployed) (i : ℕ) (s : SiteState) (act : ActSeen) (a : SiteAnswer) : Type 0 where
  pub answer : a.answer ≡ site_answer d i s (input_of act.input)
  pub sent : a.sent ≡ sent_by d i s act.input a.answer
  pub link : a.link ≡ label_link d (epoch_by s act.input a.sent)
  pub keepers : (k : ℕ) → bit a.keepers.bits k ≡ is_keeper d act.input k
  pub beat : BeatBy d i s act.input a.beat

-- it fits the model's machine, and is a client's where it has to be
pub record FitsAt (d : Deployed) (i : ℕ) (s : SiteState) (act : ActSeen) : Type 0 where
  pub by : IsBy d act.by act.input
  pub fits : fits d i s (input_of act.input) ≡ true

-- ---- what entries put on links

abbrev pub some_if : {X : Type 0} → Bool → X → Option X
some_if true x = Some x
some_if false x = None

-- the payload of a write, with all its values, if it is for the site
abbrev pub payload_in : Bool → List (List ℕ) → Answer → Option Made
payload_in here values (ans.Wrote l) = some_if here (made.Payload l.point.gear (payload_at l values))
payload_in here values _ = None

-- a beat, if it is for the site
abbrev pub beat_in : Bool → Option Beat → Option Made
beat_in here None = None
beat_in here (Some b) = some_if here (made.Beat b)

-- what is made for site j
abbrev pub bulk_to : ℕ → SiteInput → SiteAnswer → Option Made
bulk_to j (input.Write seen items values) a = payload_in (bit a.keepers.bits j) values a.answer
bulk_to j (input.Beat to) a = beat_in (to == j) a.beat
bulk_to j _ a = None

-- a label that is sent, or else what is made for another site
abbrev pub label_or : Option Label → Bool → Option Made → Option Made
label_or None here rest = rest
label_or (Some l) here rest = some_if here (made.Label l)

abbrev pub site_puts : NodeName → ℕ → ActSeen → SiteAnswer → Option Made
site_puts (named.Site i) k act a = label_or a.sent (a.link == k) (bulk_to (peer i k) act.input a)
site_puts (named.Serializer e z) k act a = None
site_puts (named.Gear i g) k act a = None

-- ---- what entries take from links

-- whether a turn took the front
abbrev pub is_turned : Answer → Bool
is_turned (ans.Shown l) = true
is_turned (ans.Took l) = true
is_turned _ = false

abbrev pub label_taken : Bool → Option Label → Option Body
label_taken here None = None
label_taken here (Some l) = some_if here (body.Label l)

abbrev pub taken_on : ℕ → ℕ → SiteInput → SiteAnswer → Option Body
taken_on j k (input.Turn front) a = label_taken (is_turned a.answer && (a.link == k)) front
taken_on j k (input.Bulk from gear number payload) a = some_if (from == j) (body.Payload gear number payload)
taken_on j k (input.BeatIn from number beat) a = some_if (from == j) (body.Beat number beat)
taken_on j k _ a = None

abbrev pub site_takes : NodeName → ℕ → ActSeen → SiteAnswer → Option Body
site_takes (named.Site i) k act a = taken_on (peer i k) k act.input a
site_takes (named.Serializer e z) k act a = None
site_takes (named.Gear i g) k act a = None

-- answers that speak of what other nodes have done don't stand
abbrev pub is_standing : Answer → Bool
is_standing (ans.Refused why.Empty) = false
is_standing (ans.Refused (why.NoPayload l)) = false
is_standing (ans.Refused why.NoSuch) = false
is_standing _ = true

-- ---- all of it

-- what a site is as a node: its state is the model's, and so are fits, answers and steps; and what its acts put on
-- links and take off them
abbrev pub site_meaning : Deployed → Meaning SiteState ActSeen SiteAnswer
site_meaning d = record {
  fresh = λ name. fresh_site (number_of name);
  fits = λ name s act. FitsAt d (number_of name) s act;
  answers = λ name s act a. AnswersAt d (number_of name) s act a;
  after = λ name s act a. site_next d (number_of name) s (input_of act.input) a.answer;
  puts = site_puts;
  takes = site_takes;
  stands = λ act a. is_standing a.answer;
  outs = out_places d;
  ins = in_places d;
}
