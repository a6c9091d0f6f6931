-- What is kept of the entries so far: where each trail was left last, and the seats that changed.
use Rattle.std.specs.Prelude.{ℕ, ◌≡◌, List, ◌++◌, reverse, Option, unwrap_or}
use Rattle.std.specs.BTreeMap.{BTreeMap, get}
use Rattle.std.specs.Ordering.{nat_cmp}
use Rattle.sat_act.specs.declared.entry.Entry.{Entry}
use Rattle.sat_act.specs.Deployed.{Deployed}
use Rattle.sat_act.specs.Parts.{home, seat}
use Rattle.sat_draw.specs.declared.element.Spot.{Spot}
use Rattle.sat_draw.specs.declared.trail.Trail.{Trail}
use Rattle.sat_draw.specs.declared.tracks.Tracks.{Tracks}
use Rattle.sat_draw.specs.Trails.{trail_cmp, left_by, comes_from, reseated, after_change}
use Rattle.sat_draw.specs.Rows.{after_leaving, last_spot, ways, marks}
use Rattle.sat_draw.specs.Lost.{is_settled, after_taking, lost_spot, sendings_at, sendings, crosses}
use Rattle.sat_draw.specs.Rests.{rests}
use Rattle.sat_draw.specs.Elements.{spelled}

-- the seat of a client by the seats that changed: the one of its header line where it has not changed
abbrev pub seat_by : Deployed → BTreeMap ℕ (Option ℕ) → ℕ → Option ℕ
seat_by d seats c = unwrap_or (get nat_cmp seats c) (home d c)

abbrev pub spot_by : BTreeMap Trail Spot → Trail → Option Spot
spot_by spots t = get trail_cmp spots t

-- they were those before an entry that was marked here, and are those behind it
pub record Moves (old : Tracks) (entry : Entry) (here : Spot) (new : Tracks) : Type 0 where
  pub seats : (first : Option ℕ) (c : ℕ) → unwrap_or (get nat_cmp new.seats c) first
      ≡ after_change (reseated entry.act entry.answer) (unwrap_or (get nat_cmp old.seats c) first) c
  pub spots : (t : Trail) → spot_by new.spots t
      ≡ after_leaving (left_by entry.act entry.answer) here (spot_by old.spots t) t
  pub under_way : (t : Trail) → spot_by new.under_way t
      ≡ after_leaving (left_by entry.act entry.answer) here
      (after_taking (is_settled entry.answer) (comes_from entry.act entry.answer) (spot_by old.under_way t) t) t
  pub sendings_are : new.sendings.items ≡ old.sendings.items ++ sendings_at here (left_by entry.act entry.answer)

-- they are those of a history
pub record Follows (d : Deployed) (h : List Entry) (tracks : Tracks) : Type 0 where
  pub seats : (c : ℕ) → seat_by d tracks.seats c ≡ seat d h c
  pub spots : (t : Trail) → spot_by tracks.spots t ≡ last_spot d h t
  pub under_way : (t : Trail) → spot_by tracks.under_way t ≡ lost_spot d h t
  pub sendings_are : tracks.sendings.items ≡ sendings d h

-- these entries, the oldest first, were drawn: their lines in one text, their marks in another
pub record IsDrawn (d : Deployed) (lines words : List ℕ) (tracks : Tracks) (entries : List Entry) : Type 0 where
  pub follows : Follows d (reverse entries) tracks
  pub lines_are : lines ≡ spelled (ways d (reverse entries))
  pub words_are : words ≡ spelled (marks d (reverse entries))

-- the lines and the marks of a history's rows were added
pub record HasRows (d : Deployed) (old new : List ℕ) (h : List Entry) : Type 0 where
  pub added : new ≡ (old ++ spelled (ways d h ++ (crosses d h ++ rests d h))) ++ spelled (marks d h)
