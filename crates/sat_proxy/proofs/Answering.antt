-- A site answers what the machine answers.
use Rattle.std.specs.Prelude.{◌≡◌, ◌<◌, ◌+◌, ℕ, Bool, true, false, ◌||◌, not, ◌==◌, nat_le, List, [], ◌∷◌, map, Option, Some, None, option_map, is_some, if◌then◌else◌, refl}
use Rattle.std.proofs.Common.{ap, sym, ◌∙◌, inl, inr, arith}
use Rattle.std.proofs.lemmas.Bool.{or_left, or_right}
use Rattle.std.proofs.lemmas.Bool.Decides.{nat_tests}
use Rattle.sat_label.specs.declared.label.Label.{Label}
use Rattle.sat_label.specs.declared.label.Kind.{Kind}
use Rattle.sat_label.specs.declared.items.Items.{Items}
use Rattle.sat_label.specs.declared.label.Kind.TheVariants.{Update, Move, Pulse, Close}
use Rattle.sat_label.specs.declared.carried.Carried.{Carried}
use Rattle.sat_label.specs.Order.{label_eq}
use Rattle.sat_label.specs.Members.{In}
use Rattle.sat_label.specs.Words.{has}
use Rattle.sat_label.proofs.Truth.{same-test}
use Rattle.sat_bulk.specs.Payloads.{Payload}
use Rattle.sat_pool.specs.Pool.{labels_waiting}
use Rattle.sat_beat.specs.declared.Beat.{Beat}
use Rattle.sat_beat.specs.declared.beats.BeatTake.TheVariants as came
use Rattle.sat_beat.specs.Beats.{TakenBeats, taken_of, is_old, has_beat}
use Rattle.sat_epoch.specs.Epochs.{Epochs, in_stamp}
use Rattle.sat_epoch.specs.declared.views.AdvanceFault.TheVariants as advance
use Rattle.sat_act.specs.declared.answer.Answer.{Answer}
use Rattle.sat_act.specs.declared.answer.Answer.TheVariants as ans
use Rattle.sat_act.specs.declared.answer.Refusal.TheVariants as why
use Rattle.sat_act.specs.Deployed.{Deployed}
use Rattle.sat_act.specs.Parts.{BeatNote, is_update}
use Rattle.sat_act.specs.Answers.{refused_if, turned}
use Rattle.sat_model.specs.Input as given
use Rattle.sat_model.specs.State.{SiteState}
use Rattle.sat_model.specs.Look as look
use Rattle.sat_model.specs.Reply.{outlook_of, may_come, site_answer}
use Rattle.sat_proxy.specs.declared.proxy.TurnFault.TheVariants as turn
use Rattle.sat_proxy.specs.declared.proxy.StampFault.TheVariants as stamp
use Rattle.sat_proxy.specs.Proxy.{ProxySeen, best_of, note_of, noted}
use Rattle.sat_proxy.specs.Steps.{waiting_of, missing, front_fault, link_fault, not_yet, stamp_label, has_come}
use Rattle.sat_proxy.specs.Answers.{attach_answer, bulk_answer, came_answer, beat_answer, done_answer, front_answer, turn_answer, next_answer, stamp_answer, view_answer, advance_answer}
use Rattle.sat_proxy.specs.Stands.{IsLater, StandsBeats, is_reached_by}
use Rattle.sat_proxy.specs.Laws.{Sees, EachAnswers}
use Rattle.sat_proxy.proofs.SameBeats.{young, in-has, has-in}
use Rattle.sat_proxy.proofs.SameLists.{has-same}
use Rattle.sat_proxy.proofs.SameLanes.{front-same}
use Rattle.sat_proxy.proofs.SamePools.{has-waiting}
use Rattle.sat_proxy.proofs.SameOutlooks.{site-here, gear-here, best-same, label-there, label-back, come-same, stamp-same, pass-same}

-- ---- a client, and a payload

attach-is : {d : Deployed} {j : ℕ} {views : Epochs} {p : ProxySeen} {s : SiteState} (sees : Sees d j views p s) (c : Carried) → c.point.site < d.sites → attach_answer views p c ≡ site_answer d j s (given.Attach c)
unfolding site_answer
attach-is {d = d} {j = j} {s = s} sees c lt = ap (λ (b : Bool). if b then ans.Attached else ans.Refused why.NotYet) (come-same sees c lt) ∙ go (may_come d (outlook_of d s) c j)
  where
    go : (b : Bool) → (if b then ans.Attached else ans.Refused why.NotYet) ≡ refused_if (not b) why.NotYet ans.Attached
    go true = refl
    go false = refl

bulk-is : {d : Deployed} {j : ℕ} {views : Epochs} {p : ProxySeen} {s : SiteState} (sees : Sees d j views p s) (from gear n : ℕ) (q : Payload) → from < d.sites → gear < d.gears → bulk_answer p from gear n q.label ≡ site_answer d j s (given.Bulk from gear n q)
unfolding site_answer
bulk-is sees from gear n q lt lg = ap (λ (b : Bool). if b then ans.Again else ans.Brought q.label) (sym (sees.stands.taken from gear n (site-here sees from lt) (gear-here sees gear lg)))

-- ---- a beat

numbers-in : (bs : List (ℕ × BeatNote)) (n : ℕ) → has ◌==◌ (map (λ b. b.0) bs) n ≡ true → (note : BeatNote) × In bs (n, note)
numbers-in [] n e = absurd (cc)
numbers-in (b ∷ bs) n e = go (b.0 == n) refl e (numbers-in bs n)
  where
    num : (a b : ℕ) → (a == b) ≡ true → a ≡ b
    num a b e = grind (arith, nat_tests)

    go : (c : Bool) → (b.0 == n) ≡ c → (c || has ◌==◌ (map (λ b. b.0) bs) n) ≡ true → (has ◌==◌ (map (λ b. b.0) bs) n ≡ true → (note : BeatNote) × In bs (n, note)) → (note : BeatNote) × In (b ∷ bs) (n, note)
    go true w e f = (b.1, inl (λ k. (num b.0 n w k, b.1)))
    go false w e f = let y : (note : BeatNote) × In bs (n, note) = f e in (y.0, inr y.1)

in-numbers : (bs : List (ℕ × BeatNote)) (n : ℕ) (note : BeatNote) → In bs (n, note) → has ◌==◌ (map (λ b. b.0) bs) n ≡ true
in-numbers [] n note m = absurd m
in-numbers (c ∷ bs) n note (inl e) = or_left (c.0 == n) (has ◌==◌ (map (λ b. b.0) bs) n) (same c.0 n (λ i. (e i).0))
  where
    same : (m n : ℕ) → m ≡ n → (m == n) ≡ true
    same m n e = grind (arith, nat_tests)
in-numbers (c ∷ bs) n note (inr m) = or_right (c.0 == n) (has ◌==◌ (map (λ b. b.0) bs) n) (in-numbers bs n note m)

-- above the best the numbers that were taken are those that are kept
pub later-same : (t : TakenBeats) (taken : List (ℕ × BeatNote)) (best : Option (ℕ × BeatNote)) (n : ℕ) → StandsBeats t taken best → is_old t.best n ≡ false → has_beat t.later n ≡ has ◌==◌ (map (λ b. b.0) taken) n
later-same t taken best n st e =
    same-test (has_beat t.later n) (has ◌==◌ (map (λ b. b.0) taken) n)
    (λ h. let k : (beat : Beat) × In t.later (n, beat) = in-has t.later n h in in-numbers taken n (note_of k.0) (st.later n k.0 k.1))
    (λ h. let k : (note : BeatNote) × In taken (n, note) = numbers-in taken n h in let l : IsLater t n k.0 = st.back n k.0 k.1 (young t.best n e) in has-in t.later n l.beat l.there)

abbrev came_by : Bool → Answer
came_by has = if has then ans.Again else ans.Taken

abbrev beat_by : Option (ℕ × BeatNote) → Bool → ℕ → Answer
beat_by o has n = elim o [ None ↦ came_by has | Some b ↦ if nat_le n b.0 then ans.Old else came_by has ]

beat-is : {d : Deployed} {j : ℕ} {views : Epochs} {p : ProxySeen} {s : SiteState} (sees : Sees d j views p s) (from n : ℕ) (b : Beat) → from < d.sites → beat_answer p from n ≡ site_answer d j s (given.BeatIn from n (note_of b))
unfolding site_answer
beat-is {d = d} {p = p} {s = s} sees from n b lt = go (best_of p from) (later-same t (s.proxy.beats from) (look.best_in (is_reached_by p.gears s.proxy from) (s.proxy.beats from)) n st) ∙ ap (λ (o : Option (ℕ × BeatNote)). beat_by o (has ◌==◌ (look.numbers_of s from) n) n) (best-same sees from lt)
  where
    t : TakenBeats
    t = taken_of p.beats from

    st : StandsBeats t (s.proxy.beats from) (look.best_in (is_reached_by p.gears s.proxy from) (s.proxy.beats from))
    st = sees.stands.beats from (site-here sees from lt)

    inner : (a h : Bool) → a ≡ h → came_answer (if a then came.Again else came.New) ≡ came_by h
    inner true h e = ap came_by e
    inner false h e = ap came_by e

    go : (o : Option (ℕ × Beat)) → (is_old o n ≡ false → has_beat t.later n ≡ has ◌==◌ (look.numbers_of s from) n) →
        came_answer (if is_old o n then came.Old else (if has_beat t.later n then came.Again else came.New)) ≡ beat_by (option_map noted o) (has ◌==◌ (look.numbers_of s from) n) n
    go None same = inner (has_beat t.later n) (has ◌==◌ (look.numbers_of s from) n) (same refl)
    go (Some c) same = test (nat_le n c.0) refl
      where
        test : (b : Bool) → nat_le n c.0 ≡ b → came_answer (if b then came.Old else (if has_beat t.later n then came.Again else came.New)) ≡ (if b then ans.Old else came_by (has ◌==◌ (look.numbers_of s from) n))
        test true e = refl
        test false e = inner (has_beat t.later n) (has ◌==◌ (look.numbers_of s from) n) (same e)

-- ---- a turn

abbrev link_by : List Label → Option Label → Answer
link_by waiting None = ans.Refused why.Empty
link_by waiting (Some l) = turned waiting l

abbrev turned_by : List Label → Label → Kind → Answer
turned_by waiting l k = if is_update k then (if has label_eq waiting l then ans.Shown l else ans.Refused (why.NoPayload l)) else ans.Took l

update-is : (l : Label) (items : Items) (o : Option Payload) (b : Bool) → l.kind ≡ Update items → is_some o ≡ b → front_answer (missing l o) (Some l) ≡ (if b then ans.Shown l else ans.Refused (why.NoPayload l))
update-is l items None false e w = refl
update-is l items (Some q) true e w = ap (done_answer l) e
update-is l items None true e w = absurd (cc)
update-is l items (Some q) false e w = absurd (cc)

turn-is : {d : Deployed} {j : ℕ} {views : Epochs} {p : ProxySeen} {s : SiteState} (sees : Sees d j views p s) (front : Option Label) → turn_answer views p front ≡ site_answer d j s (given.Turn front)
unfolding site_answer
turn-is {d = d} {views = views} {p = p} {s = s} sees front = go (in_stamp views) front ∙ (λ i. refused_if (sees.told.stamp i) why.StampOrder (link_by (look.waiting_of s) front))
  where
    waits : (l : Label) → is_some (waiting_of p.pool l) ≡ has label_eq (look.waiting_of s) l
    waits l = has-waiting p.pool l sees.sound.pool ∙ has-same (labels_waiting p.pool) (look.waiting_of s) l (label-there sees) (label-back sees)

    fault : (l : Label) (k : Kind) → l.kind ≡ k → front_answer (front_fault p.pool l k) (Some l) ≡ turned_by (look.waiting_of s) l k
    fault l (Update items) e = update-is l items (waiting_of p.pool l) (has label_eq (look.waiting_of s) l) e (waits l)
    fault l (Move k) e = ap (done_answer l) e
    fault l Pulse e = ap (done_answer l) e
    fault l (Close n) e = ap (done_answer l) e

    go : (b : Bool) (front : Option Label) → front_answer (if b then Some turn.StampOrder else link_fault p.pool front) front ≡ refused_if b why.StampOrder (link_by (look.waiting_of s) front)
    go true front = refl
    go false None = refl
    go false (Some l) = fault l l.kind refl

-- ---- timestamp order, and the next view

abbrev next_by : Option Label → Answer
next_by None = ans.Refused why.NotYet
next_by (Some l) = ans.Shown l

stamp-is : {d : Deployed} {j : ℕ} {views : Epochs} {p : ProxySeen} {s : SiteState} (sees : Sees d j views p s) → stamp_answer views p ≡ site_answer d j s given.Stamp
unfolding site_answer
stamp-is {d = d} {j = j} {views = views} {p = p} {s = s} sees = go (in_stamp views) (stamp_label views p) ∙ (λ i. refused_if (not (sees.told.stamp i)) why.TreeOrder (next_by (stamp-same sees i)))
  where
    go : (b : Bool) (next : Option Label) → next_answer (if b then not_yet next else Some stamp.TreeOrder) next ≡ refused_if (not b) why.TreeOrder (next_by next)
    go true None = refl
    go true (Some l) = refl
    go false next = refl

advance-is : {d : Deployed} {j : ℕ} {views : Epochs} {p : ProxySeen} {s : SiteState} (sees : Sees d j views p s) → advance_answer views p ≡ site_answer d j s given.Advance
unfolding site_answer
advance-is {d = d} {j = j} {views = views} {p = p} {s = s} sees =
    go (views.emission == views.view) (has_come views p) ∙
    (λ i. refused_if (sees.told.emission i == sees.told.view i) why.NotClosed (refused_if (not (pass-same sees i)) why.NotYet (ans.View (sees.told.view i + 1))))
  where
    go : (b came : Bool) → view_answer (if b then Some advance.NotClosed else (if came then None else Some advance.NotYet)) views.view ≡ refused_if b why.NotClosed (refused_if (not came) why.NotYet (ans.View (views.view + 1)))
    go true came = refl
    go false true = refl
    go false false = refl

pub each-answers : EachAnswers
each-answers d j views p s sees = record {
  front = λ k g lk lg. sym (front-same p s.proxy sees.sound sees.stands k g (site-here sees k lk) (gear-here sees g lg));
  waiting = sym sees.stands.pool.count;
  attach = attach-is sees;
  bulk = bulk-is sees;
  beat = beat-is sees;
  turn = turn-is sees;
  stamp = stamp-is sees;
  advance = advance-is sees;
}
