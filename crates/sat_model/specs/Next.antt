-- What an answer makes of a site's state, part by part. A refusal, `Again` and `Old` change nothing.
use Rattle.std.specs.Prelude.{ℕ, ◌+◌, Bool, true, false, ◌&&◌, ◌||◌, not, ◌==◌, List, [], ◌∷◌, ◌++◌, length, filter}
use Rattle.std.specs.Prelude.{map, Option, Some, None, unwrap_or, if◌then◌else◌}
use Rattle.sat_label.specs.declared.point.Point.{Point}
use Rattle.sat_label.specs.declared.label.Label.{Label}
use Rattle.sat_label.specs.Order.{greater_point, label_eq, label_lt}
use Rattle.sat_act.specs.declared.answer.Answer.{Answer}
use Rattle.sat_act.specs.declared.answer.Answer.TheVariants as ans
use Rattle.sat_act.specs.Deployed.{Deployed}
use Rattle.sat_act.specs.Answers.{is_close_of}
use Rattle.sat_act.specs.Parts.{BeatNote, is_target, is_update_of, items_of, value_for, known_by}
use Rattle.sat_bulk.specs.Payloads.{Payload}
use Rattle.sat_model.specs.State.{GearState, SinkState, ViewState, ProxyState, Version, SiteState}
use Rattle.sat_model.specs.Input.{SiteInput}
use Rattle.sat_model.specs.Input as given
use Rattle.sat_model.specs.Look.{cut_of, mode_of, payload_in, best_of}

-- ---- gear g

-- what an answer makes of the promise of gear g
abbrev pub promise_next : ℕ → ℕ → SiteInput → Answer → ℕ
promise_next g p input answer =
    elim answer [
      | ans.Ticked ts ↦ elim input [ given.Tick k asked ↦ if k == g then ts else p | _ ↦ p ]
      | ans.Clocked ts ↦ ts
      | ans.Wrote l ↦ if l.point.gear == g then l.point.ts else p
      | ans.Moved l ↦ if l.point.gear == g then l.point.ts else p
      | _ ↦ p
    ]

-- what it makes of the labels of gear g that were not gathered
abbrev pub fresh_next : ℕ → List Label → Answer → List Label
fresh_next g ls answer =
    elim answer [
      | ans.Wrote l ↦ if l.point.gear == g then ls ++ l ∷ [] else ls
      | ans.Moved l ↦ if l.point.gear == g then ls ++ l ∷ [] else ls
      | ans.Gathered labels stable ↦ []
      | _ ↦ ls
    ]

-- the values of a write
abbrev pub values_given : SiteInput → List (List ℕ)
values_given input = elim input [ given.Write seen items values ↦ values | _ ↦ [] ]

-- a label and all its values
abbrev pub payload_at : Label → List (List ℕ) → Payload
payload_at l values = record { label = l; values = map (λ v. Some v) values }

-- what it makes of the lane of gear g to site j
abbrev pub lane_next : Deployed → ℕ → ℕ → List Payload → SiteInput → Answer → List Payload
lane_next d g j ps input answer =
    elim answer [
      | ans.Wrote l ↦ if (l.point.gear == g) && is_target d l j
          then ps ++ payload_at l (values_given input) ∷ [] else ps
      | _ ↦ ps
    ]

-- what it makes of gear g
abbrev pub gear_next : Deployed → ℕ → GearState → SiteInput → Answer → GearState
gear_next d g s input answer = record {
  promise = promise_next g s.promise input answer;
  fresh = fresh_next g s.fresh answer;
  lanes = λ j. lane_next d g j (s.lanes j) input answer;
}

-- ---- the sink

-- by a gather the new one, else the old
abbrev pub gathered_next : {X : Type 0} → X → X → Answer → X
gathered_next old new answer = elim answer [ ans.Gathered labels stable ↦ new | _ ↦ old ]

-- what it makes of the pending labels of a gear, whose fresh ones are given
abbrev pub pending_next : List Label → List Label → Answer → List Label
pending_next ls fresh answer =
    elim answer [
      | ans.Gathered labels stable ↦ ls ++ fresh
      | ans.Emitted l ↦ filter (λ m. not (label_eq l m)) ls
      | _ ↦ ls
    ]

-- the point that the sink sent last
abbrev pub sent_next : Point → Answer → Point
sent_next p answer = elim answer [ ans.Emitted l ↦ l.point | ans.Pulsed l ↦ l.point | ans.Closed epoch q ↦ q | _ ↦ p ]

-- the timestamp of the last pulse
abbrev pub pulse_next : ℕ → Answer → ℕ
pulse_next ts answer = elim answer [ ans.Pulsed l ↦ l.point.ts | _ ↦ ts ]

-- what it makes of the sink
abbrev pub sink_next : (ℕ → GearState) → SinkState → Answer → SinkState
sink_next gears s answer = record {
  promises = λ g. gathered_next (s.promises g) (gears g).promise answer;
  pending = λ g. pending_next (s.pending g) (gears g).fresh answer;
  counts = λ g j. gathered_next (s.counts g j) (length ((gears g).lanes j)) answer;
  last = sent_next s.last answer;
  pulse = pulse_next s.pulse answer;
}

-- ---- views

-- what it makes of the view
abbrev pub view_next : ℕ → Answer → ℕ
view_next v answer = elim answer [ ans.View w ↦ w | _ ↦ v ]

-- what it makes of the epoch in which the site sends
abbrev pub emission_next : ℕ → Answer → ℕ
emission_next n answer = elim answer [ ans.Closed epoch p ↦ epoch + 1 | _ ↦ n ]

-- what it makes of the fall
abbrev pub fallen_next : Bool → Answer → Bool
fallen_next b answer = elim answer [ ans.View w ↦ false | ans.Fallen ↦ true | _ ↦ b ]

-- what it makes of the close cut of an epoch
abbrev pub close_next : ℕ → Option Point → Answer → Option Point
close_next epoch o answer = elim answer [ ans.Closed closed p ↦ if closed == epoch then Some p else o | _ ↦ o ]

-- whether the Close of site i for an epoch was taken
abbrev pub heard_next : ℕ → ℕ → Bool → Answer → Bool
heard_next i epoch b answer = elim answer [ ans.Took l ↦ is_close_of l i epoch || b | _ ↦ b ]

-- what it makes of the site's epochs
abbrev pub views_next : ViewState → Answer → ViewState
views_next s answer = record {
  view = view_next s.view answer;
  emission = emission_next s.emission answer;
  fallen = fallen_next s.fallen answer;
  closes = λ epoch. close_next epoch (s.closes epoch) answer;
  heard = λ i epoch. heard_next i epoch (s.heard i epoch) answer;
}

-- ---- windows, pool, beats, and what is known of other sites

-- what it makes of the taken numbers of the lane of gear g of site i
abbrev pub taken_next : ℕ → ℕ → List ℕ → SiteInput → Answer → List ℕ
taken_next i g ns input answer =
    elim answer [
      | ans.Brought l ↦
          elim input [ given.Bulk from gear n p ↦ if (from == i) && (gear == g) then ns ++ n ∷ [] else ns | _ ↦ ns ]
      | _ ↦ ns
    ]

-- what it makes of the payloads that wait
abbrev pub pool_next : List Payload → SiteInput → Answer → List Payload
pool_next ps input answer =
    elim answer [
      | ans.Brought l ↦ elim input [ given.Bulk from gear n p ↦ ps ++ p ∷ [] | _ ↦ ps ]
      | ans.Shown l ↦ filter (λ p. not (label_eq l p.label)) ps
      | _ ↦ ps
    ]

-- what it makes of the taken beats of site i
abbrev pub beats_next : ℕ → List (ℕ × BeatNote) → SiteInput → Answer → List (ℕ × BeatNote)
beats_next i bs input answer =
    elim answer [
      | ans.Taken ↦ elim input [ given.BeatIn from n note ↦ if from == i then bs ++ (n, note) ∷ [] else bs | _ ↦ bs ]
      | _ ↦ bs
    ]

-- the greater of a point and another, if there is one
abbrev pub raised : Point → Option Point → Point
raised p o = elim o [ None ↦ p | Some q ↦ greater_point q p ]

-- in stamp mode, the close cut of the view in the best beat of i, or the site's own
abbrev pub passed_cut : Deployed → ℕ → SiteState → ℕ → Option Point
passed_cut d j s i =
    if mode_of d s
    then (if i == j then s.views.closes s.views.view
    else elim (best_of d s i) [ None ↦ None | Some b ↦ b.1.closes s.views.view ])
    else None

-- what it makes of the point up to which the site knows site i
abbrev pub last_next : Deployed → ℕ → SiteState → ℕ → SiteInput → Answer → Point
last_next d j s i input answer =
    elim answer [
      | ans.Shown l ↦
          elim input [
            | given.Turn front ↦
                if l.point.site == i then greater_point (known_by l) (s.proxy.last i) else s.proxy.last i
            | _ ↦ s.proxy.last i
          ]
      | ans.Took l ↦ if l.point.site == i then greater_point (known_by l) (s.proxy.last i) else s.proxy.last i
      | ans.View v ↦ raised (s.proxy.last i) (passed_cut d j s i)
      | _ ↦ s.proxy.last i
    ]

-- what it makes of all that the site has of others
abbrev pub proxy_next : Deployed → ℕ → SiteState → SiteInput → Answer → ProxyState
proxy_next d j s input answer = record {
  taken = λ i g. taken_next i g (s.proxy.taken i g) input answer;
  pool = pool_next s.proxy.pool input answer;
  beats = λ i. beats_next i (s.proxy.beats i) input answer;
  last = λ i. last_next d j s i input answer;
}

-- ---- the store: a lower label changes nothing

-- a version put before an old one: the greater stays
abbrev pub put : Option Version → Version → Option Version
put old p = elim old [ None ↦ Some p | Some q ↦ if label_lt q.label p.label then Some p else Some q ]

-- a label and its value for an item
abbrev pub version_at : Label → List ℕ → Version
version_at l value = record { label = l; value = value }

-- of the parts for some items, the value of that for item x
abbrev pub part_for : List ℕ → List (Option (List ℕ)) → ℕ → List ℕ
part_for [] ps x = []
part_for (y ∷ ys) [] x = []
part_for (y ∷ ys) (p ∷ ps) x = if y == x then unwrap_or p [] else part_for ys ps x

-- what it makes of the version of item x
abbrev pub store_next : ℕ → Option Version → List Payload → SiteInput → Answer → Option Version
store_next x old pool input answer =
    elim answer [
      | ans.Wrote l ↦ if is_update_of l.kind x
          then put old (version_at l (value_for (items_of l.kind) (values_given input) x)) else old
      | ans.Shown l ↦ if is_update_of l.kind x
          then put old (version_at l (part_for (items_of l.kind) (payload_in pool l) x)) else old
      | _ ↦ old
    ]

-- ---- beats made

-- what a beat for site j would say
abbrev pub note_of : Deployed → ℕ → SiteState → ℕ → BeatNote
note_of d i s j = record { cut = cut_of d i s; closes = s.views.closes; counts = λ g. s.sink.counts g j }

-- what it makes of the beats for site j
abbrev pub made_next : Deployed → ℕ → SiteState → ℕ → SiteInput → Answer → List BeatNote
made_next d i s j input answer =
    elim answer [
      | ans.Beat n ↦ elim input [
        | given.Beat to ↦ if to == j then s.made_beats j ++ note_of d i s j ∷ []
            else s.made_beats j
        | _ ↦ s.made_beats j
      ]
      | _ ↦ s.made_beats j
    ]

-- ---- the site

-- what an answer makes of a site
unfoldable pub site_next : Deployed → ℕ → SiteState → SiteInput → Answer → SiteState
site_next d i s input answer = record {
  gears = λ g. gear_next d g (s.gears g) input answer;
  sink = sink_next s.gears s.sink answer;
  views = views_next s.views answer;
  proxy = proxy_next d i s input answer;
  store = λ x. store_next x (s.store x) s.proxy.pool input answer;
  made_beats = λ j. made_next d i s j input answer;
}
