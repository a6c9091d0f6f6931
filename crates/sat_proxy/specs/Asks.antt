-- What a site asks of what it reads of the others, among so many sites: the words of the machine of the model, whose
-- deployment gives them the number of its sites.
use Rattle.std.specs.Prelude.{ℕ, Bool, ◌&&◌, ◌||◌, not, ◌==◌, nat_le, Option, Some, None, if◌then◌else◌}
use Rattle.std.specs.List.{list_all, list_any}
use Rattle.sat_label.specs.declared.carried.Carried.{Carried}
use Rattle.sat_label.specs.declared.label.Label.{Label}
use Rattle.sat_label.specs.Order.{mark, point_le, zero_point}
use Rattle.sat_label.specs.Words.{below}
use Rattle.sat_act.specs.Parts.{best_passes, reaches, passed_ts}
use Rattle.sat_act.specs.Answers.{is_drained}
use Rattle.sat_model.specs.Reply.{Outlook, comes_moving, candidate_by, own_passed}

-- each site but j passes
abbrev pub others : ℕ → ℕ → (ℕ → Bool) → Bool
others sites j test = list_all (λ i. (i == j) || test i) (below sites)

-- each other site is known up to the mark of the client's timestamp
abbrev pub is_known : ℕ → Outlook → Carried → ℕ → Bool
is_known sites o c j = others sites j (λ i. point_le (mark c.point.ts i) (o.last i))

-- in stamp mode each other site's best beat reaches the client's timestamp, and nothing waits up to it
abbrev pub is_reached : ℕ → Outlook → Carried → ℕ → Bool
is_reached sites o c j =
    (o.stamp && others sites j (λ i. best_passes (o.best i) (reaches o.view c.point.ts i)))
    && not (list_any (λ l. nat_le l.point.ts c.point.ts) o.waiting)

-- whether a client may come to j, in one of the four cases of attach
abbrev pub may_come_at : ℕ → Outlook → Carried → ℕ → Bool
may_come_at sites o c j =
    point_le c.point zero_point || (comes_moving o c j || (is_known sites o c j || is_reached sites o c j))

-- the best beat of each other site has passed the timestamp of a label
abbrev pub all_passed : ℕ → Outlook → ℕ → Label → Bool
all_passed sites o j l = others sites j (λ i. best_passes (o.best i) (passed_ts o.view l.point.ts i))

-- the update that j shows next in timestamp order
abbrev pub stamp_next_at : ℕ → Outlook → ℕ → Option Label
stamp_next_at sites o j =
    elim (candidate_by o) [ None ↦ None | Some l ↦ if all_passed sites o j l && own_passed o l then Some l else None ]

-- whether j has all of its view, where `heard` tells whose close it took from its tree
abbrev pub may_pass_at : ℕ → Outlook → (ℕ → Bool) → ℕ → Bool
may_pass_at sites o heard j =
    if o.stamp
    then others sites j (λ i. best_passes (o.best i) (is_drained o.view o.waiting i))
    else others sites j heard
