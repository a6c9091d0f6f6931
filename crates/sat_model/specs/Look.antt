-- What a site reads off its state: its sink, lanes, beats, mode and what it knows of the others, without the past.
use Rattle.std.specs.Prelude.{ℕ, zero, suc, ◌+◌, ◌-◌, Bool, true, ◌==◌, nat_le, nat_lt, min, max, List, [], ◌∷◌, ◌++◌}
use Rattle.std.specs.Prelude.{map, Option, Some, None, if◌then◌else◌}
use Rattle.std.specs.List.{list_all}
use Rattle.sat_label.specs.declared.point.Point.{Point}
use Rattle.sat_label.specs.declared.label.Label.{Label}
use Rattle.sat_label.specs.Order.{mark, greater_point, label_eq}
use Rattle.sat_label.specs.Words.{below, has}
use Rattle.sat_act.specs.Deployed.{Deployed}
use Rattle.sat_act.specs.Parts.{BeatNote, tree_of}
use Rattle.sat_bulk.specs.Payloads.{Payload}
use Rattle.sat_model.specs.State.{SiteState}
use Rattle.sat_label.specs.Least.{least_label}

-- ---- the sink

-- the least of the first n rows
unfoldable pub least_row : (ℕ → ℕ) → ℕ → ℕ
least_row p zero = 0
least_row p (suc zero) = p 0
least_row p (suc (suc n)) = min (least_row p (suc n)) (p (suc n))

-- the first n rows, one behind the other
unfoldable pub rows : {X : Type 0} → (ℕ → List X) → ℕ → List X
rows f zero = []
rows f (suc n) = rows f n ++ f n

-- the stable timestamp: the least gathered promise
abbrev pub stable_of : Deployed → SiteState → ℕ
stable_of d s = least_row s.sink.promises d.gears

-- the label that the sink would emit next: the least pending one that is stable
abbrev pub ready_of : Deployed → SiteState → Option Label
ready_of d s = least_label (λ l. nat_le l.point.ts (stable_of d s)) (rows s.sink.pending d.gears)

-- the cut of site i
abbrev pub cut_of : Deployed → ℕ → SiteState → Point
cut_of d i s =
    elim (ready_of d s) [
      | None ↦ mark (stable_of d s) i
      | Some least ↦ greater_point s.sink.last (mark (least.point.ts - 1) i)
    ]

-- ---- views

-- whether the site shows in timestamp order: its view has no tree, or it has fallen
abbrev pub mode_of : Deployed → SiteState → Bool
mode_of d s = elim (tree_of d s.views.view) [ None ↦ true | Some tree ↦ s.views.fallen ]

-- ---- lanes and beats

-- the label of a payload
abbrev pub label_of : Payload → Label
label_of p = p.label

-- the updates that wait
abbrev pub waiting_of : SiteState → List Label
waiting_of s = map label_of s.proxy.pool

-- the parts of a label's payload
unfoldable pub payload_in : List Payload → Label → List (Option (List ℕ))
payload_in [] l = []
payload_in (p ∷ ps) l = if label_eq p.label l then p.values else payload_in ps l

-- above all numbers of a list
unfoldable pub top : List ℕ → ℕ
top [] = 0
top (n ∷ ns) = max (n + 1) (top ns)

-- the least number from k on that is not in the list, looked for in m steps
unfoldable pub gap_from : ℕ → List ℕ → ℕ → ℕ
gap_from zero ns k = k
gap_from (suc m) ns k = if has ◌==◌ ns k then gap_from m ns (k + 1) else k

-- the least number that was not taken
abbrev pub front_in : List ℕ → ℕ
front_in ns = gap_from (top ns) ns 0

-- the front of the lane of gear g of site i
abbrev pub front_of : SiteState → ℕ → ℕ → ℕ
front_of s i g = front_in (s.proxy.taken i g)

-- whether a beat of i is complete: all that it counts was taken
abbrev pub complete_at : Deployed → SiteState → ℕ → BeatNote → Bool
complete_at d s i note = list_all (λ g. nat_le (note.counts g) (front_of s i g)) (below d.gears)

-- of the beats that pass, the one of the greatest number
unfoldable pub best_in : (BeatNote → Bool) → List (ℕ × BeatNote) → Option (ℕ × BeatNote)
best_in p [] = None
best_in p (b ∷ bs) =
    let rest = best_in p bs in
    if p b.1 then elim rest [ None ↦ Some b | Some c ↦ if nat_lt c.0 b.0 then Some b else Some c ] else rest

-- the best beat of i: of the complete ones, the one of the greatest number
abbrev pub best_of : Deployed → SiteState → ℕ → Option (ℕ × BeatNote)
best_of d s i = best_in (complete_at d s i) (s.proxy.beats i)

-- the numbers of the beats of i that were taken
abbrev pub numbers_of : SiteState → ℕ → List ℕ
numbers_of s i = map (λ b. b.0) (s.proxy.beats i)
