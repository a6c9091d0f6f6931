-- What this crate proves of what a site has of the others: it answers what the machine of the model answers in the
-- state that it stands for, and each call makes of it what the machine makes of that state.
use Rattle.std.specs.Prelude.{ℕ, ◌≡◌, ◌≢◌, ◌<◌, false, true, length, Option, Some, None}
use Rattle.sat_label.specs.declared.carried.Carried.{Carried}
use Rattle.sat_label.specs.declared.label.Label.{Label}
use Rattle.sat_bulk.specs.Payloads.{Payload}
use Rattle.sat_bulk.specs.Windows.{has_number}
use Rattle.sat_pool.specs.Pool.{all_waiting, waiting_at}
use Rattle.sat_beat.specs.declared.Beat.{Beat}
use Rattle.sat_epoch.specs.Epochs.{Epochs, close_cut, in_stamp}
use Rattle.sat_act.specs.Deployed.{Deployed}
use Rattle.sat_act.specs.Settling.{is_done}
use Rattle.sat_model.specs.Input as given
use Rattle.sat_model.specs.State.{SiteState, fresh_site}
use Rattle.sat_model.specs.Look.{front_of, mode_of}
use Rattle.sat_model.specs.Next.{proxy_next}
use Rattle.sat_model.specs.Reply.{site_answer}
use Rattle.sat_proxy.specs.Proxy.{ProxySeen, IsProxy, window_of, front_at, fresh_proxy, note_of}
use Rattle.sat_proxy.specs.Steps.{after_bulk, after_beat, turn_after, stamp_after, advance_after, heard_of}
use Rattle.sat_proxy.specs.Answers.{attach_answer, bulk_answer, beat_answer, turn_answer, stamp_answer, advance_answer}
use Rattle.sat_proxy.specs.Stands.{StandsProxy}

-- the epochs tell the mode, the view, the emission epoch, the site's close cut of the view, and of each other site
-- whether its close was taken
pub record TellsViews (d : Deployed) (j : ℕ) (views : Epochs) (s : SiteState) : Type 0 where
  pub stamp : in_stamp views ≡ mode_of d s
  pub view : views.view ≡ s.views.view
  pub emission : views.emission ≡ s.views.emission
  pub close : close_cut views views.view ≡ s.views.closes s.views.view
  pub heard : (k : ℕ) → k < d.sites → k ≢ j → heard_of views k ≡ s.views.heard k s.views.view

-- site j of a deployment has this of the others, and is at these epochs, in a state of the machine's
pub record Sees (d : Deployed) (j : ℕ) (views : Epochs) (p : ProxySeen) (s : SiteState) : Type 0 where
  pub sound : IsProxy p
  pub sites : p.sites ≡ d.sites
  pub gears : p.gears ≡ d.gears
  pub own : p.site ≡ j
  pub told : TellsViews d j views s
  pub stands : StandsProxy p s.proxy

-- what a site has of the others in the beginning stands for the fresh state
abbrev pub Starts : Type 0
Starts = (d : Deployed) (j : ℕ) → StandsProxy (fresh_proxy d.sites d.gears j) (fresh_site j).proxy

-- the answers, and the fronts of the lanes, are the machine's
pub record Answers (d : Deployed) (j : ℕ) (views : Epochs) (p : ProxySeen) (s : SiteState) : Type 0 where
  pub front : (k g : ℕ) → k < d.sites → g < d.gears → front_at p k g ≡ front_of s k g
  pub waiting : length s.proxy.pool ≡ length (all_waiting p.pool)
  pub attach : (c : Carried) → c.point.site < d.sites → attach_answer views p c ≡ site_answer d j s (given.Attach c)
  pub bulk : (from gear n : ℕ) (q : Payload) → from < d.sites → gear < d.gears
      → bulk_answer p from gear n q.label ≡ site_answer d j s (given.Bulk from gear n q)
  pub beat : (from n : ℕ) (b : Beat) → from < d.sites → beat_answer p from n
      ≡ site_answer d j s (given.BeatIn from n (note_of b))
  pub turn : (front : Option Label) → turn_answer views p front ≡ site_answer d j s (given.Turn front)
  pub stamp : stamp_answer views p ≡ site_answer d j s given.Stamp
  pub advance : advance_answer views p ≡ site_answer d j s given.Advance

-- a law: at each site of each history a proxy that sees what the model's state has gives the model's answers
abbrev pub EachAnswers : Type 0
EachAnswers =
    (d : Deployed) (j : ℕ) (views : Epochs) (p : ProxySeen) (s : SiteState) → Sees d j views p s → Answers d j views p s

-- what the calls make of it stands for what the machine makes of that state
pub record Follows (d : Deployed) (j : ℕ) (views : Epochs) (p : ProxySeen) (s : SiteState) : Type 0 where
  pub bulk : (from gear n : ℕ) (q : Payload) → from < d.sites → gear < d.gears → q.label.point.site ≡ from →
      (has_number (window_of p from gear) n ≡ false → waiting_at p.pool q.label.point ≡ None) →
      StandsProxy (after_bulk p from gear n q)
      (proxy_next d j s (given.Bulk from gear n q) (bulk_answer p from gear n q.label))
  pub beat : (from n : ℕ) (b : Beat) → from < d.sites → length b.counts ≡ d.gears →
      StandsProxy (after_beat p from n b) (proxy_next d j s (given.BeatIn from n (note_of b)) (beat_answer p from n))
  pub turn : (front : Option Label) → ((l : Label) → front ≡ Some l → l.point.site < d.sites) →
      StandsProxy (turn_after views p front) (proxy_next d j s (given.Turn front) (turn_answer views p front))
  pub stamp : StandsProxy (stamp_after views p) (proxy_next d j s given.Stamp (stamp_answer views p))
  pub advance : is_done (advance_answer views p) ≡ false
      → proxy_next d j s given.Advance (advance_answer views p) ≡ s.proxy
  pub advanced : is_done (advance_answer views p) ≡ true
      → StandsProxy (advance_after views p) (proxy_next d j s given.Advance (advance_answer views p))

-- a law: and what it keeps behind them is what the model's next state has
abbrev pub EachFollows : Type 0
EachFollows =
    (d : Deployed) (j : ℕ) (views : Epochs) (p : ProxySeen) (s : SiteState) → Sees d j views p s → Follows d j views p s
