-- Worked scripts: after each act its answer, the point that the site sent last, and the site's cut, computed.
use Rattle.std.specs.Prelude.{◌≡◌, ◌<◌, ℕ, zero, suc, true, false, List, [], ◌∷◌, ◌++◌, map, Some, None, codes, refl, slice_get}
use Rattle.std.proofs.Common.{subst, arith, lit≤, inl, inr}
use Rattle.sat_label.specs.declared.point.Point.{Point}
use Rattle.sat_label.specs.declared.items.Items.TheVariants.{One}
use Rattle.sat_label.specs.declared.label.Kind.TheVariants as kind
use Rattle.sat_label.specs.declared.label.Label.{Label}
use Rattle.sat_label.specs.Order.{point_at, point_lt, point_le, label_lt, label_eq}
use Rattle.sat_label.specs.Words.{has}
use Rattle.sat_act.specs.declared.act.Act.{Act}
use Rattle.sat_act.specs.declared.act.Act.TheVariants.{Tick, Write, Gather, Emit, Pulse, Close}
use Rattle.sat_act.specs.declared.answer.Answer.{Answer}
use Rattle.sat_act.specs.declared.answer.Answer.TheVariants.{Ticked, Wrote, Gathered, Emitted, Pulsed, Closed}
use Rattle.sat_act.specs.declared.deployment.Plan.TheVariants as plan
use Rattle.sat_act.specs.declared.entry.Entry.{Entry}
use Rattle.sat_act.specs.Deployed.{Deployed}
use Rattle.sat_act.specs.Parts.{home, sent, stable, last_sent, cut}
use Rattle.sat_act.specs.Answers.{InRange, answer}
use Rattle.sat_act.specs.Runs.{IsRun, is_settle}
use Rattle.sat_act.specs.Goals.{Gives, Made, IsValid}
use Rattle.sat_laws.proofs.Runs.{entry, run-on}
use Rattle.sat_laws.proofs.Labels.{some_is}

abbrev Row : Type 0
Row = Act × (Answer × Point × Point)

play : Deployed → ℕ → List Entry → List Act → List (Answer × Point × Point)
unfolding answer last_sent cut
play d i h [] = []
play d i h (a ∷ acts) =
    let r = answer d h a in
    let k = entry a r false ∷ h in
    (r, last_sent k i, cut d k i) ∷ play d i k acts

-- from the beginning, each act has beside it its answer, and then the last point that i sent and the cut of i
abbrev Plays : Deployed → ℕ → List Row → Type 0
Plays d i rows = play d i [] (map (λ row. row.0) rows) ≡ map (λ row. row.1) rows

abbrev update : ℕ → ℕ → ℕ → ℕ → Label
update ts site gear x = record { point = point_at ts site gear; kind = kind.Update (One x) }

abbrev pulse : ℕ → ℕ → Label
pulse ts site = record { point = point_at ts site 65534; kind = kind.Pulse }

abbrev close : ℕ → ℕ → ℕ → ℕ → Label
close ts site gear e = record { point = point_at ts site gear; kind = kind.Close e }

-- two sites of two gears that keep x and y, two clients at the first site and one at the second, and stamp order from the second epoch on
abbrev two_gears : Deployed
two_gears = record {
  format = 1;
  sites = 2;
  gears = 2;
  items = record { name = codes "x"; replicas = record { bits = 3 } } ∷ record { name = codes "y"; replicas = record { bits = 3 } } ∷ [];
  clients = record { name = codes "a"; site = 0 } ∷ record { name = codes "b"; site = 0 } ∷ record { name = codes "c"; site = 1 } ∷ [];
  plans = plan.Tree (record { parents = None ∷ []; seats = 0 ∷ 0 ∷ [] }) ∷ plan.Stamp ∷ [];
}

-- two labels of one timestamp: a close between them is at the first one's point
two_labels_of_one_timestamp : Plays two_gears 0 (
    (Write 0 0 (codes "1"), (Wrote (update 1 0 0 0), point_at 0 0 0, point_at 0 0 65535)) ∷
    (Write 1 1 (codes "2"), (Wrote (update 1 0 1 1), point_at 0 0 0, point_at 0 0 65535)) ∷
    (Gather 0, (Gathered 2 1, point_at 0 0 0, point_at 0 0 65535)) ∷
    (Emit 0, (Emitted (update 1 0 0 0), point_at 1 0 0, point_at 1 0 0)) ∷
    (Close 0, (Closed 1 (point_at 1 0 0), point_at 1 0 0, point_at 1 0 0)) ∷
    (Emit 0, (Emitted (update 1 0 1 1), point_at 1 0 1, point_at 1 0 65535)) ∷
    (Pulse 0, (Pulsed (pulse 1 0), point_at 1 0 65534, point_at 1 0 65535)) ∷
    [])
unfolding play
two_labels_of_one_timestamp = refl

-- a pulse after a close of the same timestamp has a lower point than the close: the last sent point falls, and the cut
-- does not, also where a label is ready then
a_pulse_below_a_close : Plays two_gears 0 (
    (Write 0 0 (codes "1"), (Wrote (update 1 0 0 0), point_at 0 0 0, point_at 0 0 65535)) ∷
    (Tick 0 1 1, (Ticked 1, point_at 0 0 0, point_at 0 0 65535)) ∷
    (Gather 0, (Gathered 1 1, point_at 0 0 0, point_at 0 0 65535)) ∷
    (Emit 0, (Emitted (update 1 0 0 0), point_at 1 0 0, point_at 1 0 65535)) ∷
    (Close 0, (Closed 1 (point_at 1 0 65535), point_at 1 0 65535, point_at 1 0 65535)) ∷
    (Pulse 0, (Pulsed (pulse 1 0), point_at 1 0 65534, point_at 1 0 65535)) ∷
    (Write 0 0 (codes "2"), (Wrote (update 2 0 0 0), point_at 1 0 65534, point_at 1 0 65535)) ∷
    (Tick 0 1 3, (Ticked 3, point_at 1 0 65534, point_at 1 0 65535)) ∷
    (Gather 0, (Gathered 1 2, point_at 1 0 65534, point_at 1 0 65535)) ∷
    (Emit 0, (Emitted (update 2 0 0 0), point_at 2 0 0, point_at 2 0 65535)) ∷
    [])
unfolding play
a_pulse_below_a_close = refl

-- ---- laws that say more, or otherwise, are false, each by a run

after : Deployed → List Entry → List Act → List Entry
unfolding answer
after d h [] = h
after d h (a ∷ acts) = after d (entry a (answer d h a) false ∷ h) acts

abbrev ArePlain : Deployed → List Act → Type 0
ArePlain d [] = Unit {0}
ArePlain d (a ∷ acts) = (is_settle a ≡ false) × InRange d a × ArePlain d acts

after-run : (d : Deployed) (h : List Entry) (acts : List Act) → IsRun d h → ArePlain d acts → IsRun d (after d h acts)
unfolding after
after-run d h [] run p = run
after-run d h (a ∷ acts) run p = after-run d (entry a (answer d h a) false ∷ h) acts (run-on d h a false p.0 run p.1) p.2

homes : (c i : ℕ) → home two_gears c ≡ Some i → i < 2
unfolding home
homes zero i e = subst (λ (n : ℕ). n < 2) (some_is 0 i e) (lit≤ tt)
homes (suc zero) i e = subst (λ (n : ℕ). n < 2) (some_is 0 i e) (lit≤ tt)
homes (suc (suc zero)) i e = subst (λ (n : ℕ). n < 2) (some_is 1 i e) (lit≤ tt)
homes (suc (suc (suc c))) i e = absurd (cc)

valid : IsValid two_gears
valid = record { some_gear = lit≤ tt; few_gears = lit≤ tt; homes = homes }

abbrev both_sent : List Act
both_sent = Write 0 0 (codes "1") ∷ Write 1 1 (codes "2") ∷ Gather 0 ∷ Emit 0 ∷ Emit 0 ∷ []

abbrev one_sent : List Act
one_sent = Write 0 0 (codes "1") ∷ Write 1 1 (codes "2") ∷ Gather 0 ∷ Emit 0 ∷ []

abbrev closed_only : List Act
closed_only = Write 0 0 (codes "1") ∷ Tick 0 1 1 ∷ Gather 0 ∷ Emit 0 ∷ Close 0 ∷ []

abbrev closed_and_pulsed : List Act
closed_and_pulsed = closed_only ++ Pulse 0 ∷ []

abbrev made_elsewhere : List Act
made_elsewhere = Write 2 0 (codes "3") ∷ Tick 0 0 5 ∷ Tick 0 1 5 ∷ Gather 0 ∷ []

start : IsRun two_gears []
unfolding IsRun
start = tt

both-run : IsRun two_gears (after two_gears [] both_sent)
both-run = after-run two_gears [] both_sent start (refl, tt, (refl, tt, (refl, lit≤ tt, (refl, lit≤ tt, (refl, lit≤ tt, tt)))))

one-run : IsRun two_gears (after two_gears [] one_sent)
one-run = after-run two_gears [] one_sent start (refl, tt, (refl, tt, (refl, lit≤ tt, (refl, lit≤ tt, tt))))

closed-run : IsRun two_gears (after two_gears [] closed_and_pulsed)
closed-run = after-run two_gears [] closed_and_pulsed start (refl, tt, (refl, (lit≤ tt, lit≤ tt, lit≤ tt), (refl, lit≤ tt, (refl, lit≤ tt, (refl, lit≤ tt, (refl, lit≤ tt, tt))))))

elsewhere-run : IsRun two_gears (after two_gears [] made_elsewhere)
elsewhere-run = after-run two_gears [] made_elsewhere start (refl, tt, (refl, (lit≤ tt, lit≤ tt, lit≤ tt), (refl, (lit≤ tt, lit≤ tt, lit≤ tt), (refl, lit≤ tt, tt))))

-- a label that was sent can lie right at the cut
not_all_below : ((d : Deployed) (h : List Entry) (i : ℕ) (l : Label) → IsValid d → IsRun d h → i < d.sites → Made h l → l.point.site ≡ i → has label_eq (sent h i) l ≡ true → point_lt l.point (cut d h i) ≡ true) → ⊥
unfolding after sent cut Gives
not_all_below law =
    let z : false ≡ true = law two_gears (after two_gears [] one_sent) 0 (update 1 0 0 0) valid one-run (lit≤ tt) (inl (inl (inl (inr refl)))) refl refl in
    cc

-- a cut says nothing of what another site made
not_of_other_sites : ((d : Deployed) (h : List Entry) (i : ℕ) (l : Label) → IsValid d → IsRun d h → i < d.sites → Made h l → point_le l.point (cut d h i) ≡ true → has label_eq (sent h i) l ≡ true) → ⊥
unfolding after sent cut Gives
not_of_other_sites law =
    let z : false ≡ true = law two_gears (after two_gears [] made_elsewhere) 0 (update 1 1 0 0) valid elsewhere-run (lit≤ tt) (inl (inl (inl (inr refl)))) refl in
    cc

-- the first of two labels that leave is not above the second
not_backwards : ((d : Deployed) (h : List Entry) (i m n : ℕ) (a b : Label) → IsValid d → IsRun d h → i < d.sites → m < n → slice_get (sent h i) m ≡ Some a → slice_get (sent h i) n ≡ Some b → Made h a → Made h b → label_lt b a ≡ true) → ⊥
unfolding after sent Gives
not_backwards law =
    let z : false ≡ true = law two_gears (after two_gears [] both_sent) 0 0 1 (update 1 0 0 0) (update 1 0 1 1) valid both-run (lit≤ tt) (lit≤ tt) refl refl (inl (inl (inl (inl (inr refl))))) (inl (inl (inl (inr refl)))) in
    cc

-- a pulse can leave a site after a close above it
not_all_in_order : ((d : Deployed) (h : List Entry) (i m n : ℕ) (a b : Label) → IsValid d → IsRun d h → i < d.sites → m < n → slice_get (sent h i) m ≡ Some a → slice_get (sent h i) n ≡ Some b → label_lt a b ≡ true) → ⊥
unfolding after sent
not_all_in_order law =
    let z : false ≡ true = law two_gears (after two_gears [] closed_and_pulsed) 0 1 2 (close 1 0 65535 1) (pulse 1 0) valid closed-run (lit≤ tt) (lit≤ tt) refl refl in
    cc

-- so the point that a site sent last can fall
last_can_fall : ((d : Deployed) (h : List Entry) (e : Entry) (i : ℕ) → IsValid d → IsRun d (e ∷ h) → i < d.sites → point_le (last_sent h i) (last_sent (e ∷ h) i) ≡ true) → ⊥
unfolding after last_sent
last_can_fall law =
    let h : List Entry = after two_gears [] closed_only in
    let z : false ≡ true = law two_gears h (entry (Pulse 0) (answer two_gears h (Pulse 0)) false) 0 valid closed-run (lit≤ tt) in
    cc

-- not each entry raises a cut
not_always_up : ((d : Deployed) (h : List Entry) (e : Entry) (i : ℕ) → IsValid d → IsRun d (e ∷ h) → i < d.sites → point_lt (cut d h i) (cut d (e ∷ h) i) ≡ true) → ⊥
unfolding answer cut
not_always_up law =
    let z : false ≡ true = law two_gears [] (entry (Gather 0) (answer two_gears [] (Gather 0)) false) 0 valid (run-on two_gears [] (Gather 0) false refl start (lit≤ tt)) (lit≤ tt) in
    cc

-- a cut can have the stable timestamp
not_all_unstable : ((d : Deployed) (h : List Entry) (i : ℕ) → IsValid d → IsRun d h → i < d.sites → (cut d h i).ts < stable d h i) → ⊥
unfolding cut stable
not_all_unstable law = let z : 0 < 0 = law two_gears [] 0 valid start (lit≤ tt) in omega arith
