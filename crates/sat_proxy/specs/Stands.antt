-- The state of the model's machine that what a site has of the others stands for.
use Rattle.std.specs.Prelude.{ℕ, ◌≡◌, ◌≤◌, ◌<◌, ◌==◌, Bool, nat_le, List, length, Option, option_map}
use Rattle.std.specs.List.{list_all}
use Rattle.sat_label.specs.Members.{In}
use Rattle.sat_label.specs.Words.{below, has}
use Rattle.sat_bulk.specs.Payloads.{Payload}
use Rattle.sat_bulk.specs.Windows.{has_number}
use Rattle.sat_pool.specs.Pool.{all_waiting}
use Rattle.sat_beat.specs.declared.Beat.{Beat}
use Rattle.sat_beat.specs.Beats.{TakenBeats, next_number, taken_of}
use Rattle.sat_act.specs.Parts.{BeatNote}
use Rattle.sat_model.specs.State.{ProxyState}
use Rattle.sat_model.specs.Look.{front_in, best_in}
use Rattle.sat_proxy.specs.Proxy.{ProxySeen, window_of, last_of, note_of, noted}

-- two lists, each as long as the other, of the same payloads
pub record SamePayloads (ps qs : List Payload) : Type 0 where
  pub there : (p : Payload) → In ps p → In qs p
  pub back : (p : Payload) → In qs p → In ps p
  pub count : length ps ≡ length qs

-- a beat of this number that tells this was taken, and is not below the best
pub record IsLater (t : TakenBeats) (n : ℕ) (note : BeatNote) : Type 0 where
  pub beat : Beat
  pub there : In t.later (n, beat)
  pub tells : note_of beat ≡ note

-- what is kept of a site's beats, where all that were taken are given, each number once, and the best of them: the best
-- one, and those of greater numbers
pub record StandsBeats (t : TakenBeats) (taken : List (ℕ × BeatNote)) (best : Option (ℕ × BeatNote)) : Type 0 where
  pub kept : best ≡ option_map noted t.best
  pub later : (n : ℕ) (beat : Beat) → In t.later (n, beat) → In taken (n, note_of beat)
  pub back : (n : ℕ) (note : BeatNote) → In taken (n, note) → next_number t.best ≤ n → IsLater t n note
  pub once : (n : ℕ) (a b : BeatNote) → In taken (n, a) → In taken (n, b) → a ≡ b

-- whether all that a beat of a site counts was taken
abbrev pub is_reached_by : ℕ → ProxyState → ℕ → BeatNote → Bool
is_reached_by gears q k note = list_all (λ g. nat_le (note.counts g) (front_in (q.taken k g))) (below gears)

-- what a proxy keeps is that of a state of the model: the numbers taken of each lane, the payloads that wait, the
-- beats with the best of those that were reached, and the last label taken of each site
pub record StandsProxy (p : ProxySeen) (q : ProxyState) : Type 0 where
  pub taken : (k g n : ℕ) → k < p.sites → g < p.gears → has ◌==◌ (q.taken k g) n ≡ has_number (window_of p k g) n
  pub pool : SamePayloads (all_waiting p.pool) q.pool
  pub beats : (k : ℕ) → k < p.sites
      → StandsBeats (taken_of p.beats k) (q.beats k) (best_in (is_reached_by p.gears q k) (q.beats k))
  pub last : (k : ℕ) → k < p.sites → last_of p k ≡ q.last k
