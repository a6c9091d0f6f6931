-- After a settle no payload waits where the view's plan is stamp order.
use Rattle.std.specs.Prelude.{◌≡◌, ◌<◌, ◌≤◌, ℕ, suc, ◌+◌, Bool, true, false, ◌&&◌, ◌||◌, not, ◌==◌, nat_le, List, [], ◌∷◌, Option, Some, None, refl, is_some, length, slice_get, if◌then◌else◌, cond}
use Rattle.std.specs.List.{list_all, prefix_len}
use Rattle.std.proofs.Common.{sym, subst, arith, inl, inr, ap, ◌∙◌, length-append}
use Rattle.std.proofs.lemmas.Bool.Decides.{nat_tests}
use Rattle.std.proofs.lemmas.Bool.{le-leb}
use Rattle.sat_label.specs.declared.point.Point.{Point}
use Rattle.sat_label.specs.declared.label.Label.{Label}
use Rattle.sat_label.specs.Order.{mark, point_le, point_lt, label_eq}
use Rattle.sat_label.specs.Words.{below, has}
use Rattle.sat_tree.specs.Shape.{TreeShape}
use Rattle.sat_act.specs.declared.act.Act.TheVariants as act
use Rattle.sat_act.specs.declared.answer.Answer.{Answer}
use Rattle.sat_act.specs.declared.answer.Answer.TheVariants as ans
use Rattle.sat_act.specs.declared.answer.Refusal.TheVariants as why
use Rattle.sat_act.specs.declared.entry.Entry.{Entry}
use Rattle.sat_act.specs.Deployed.{Deployed}
use Rattle.sat_act.specs.Histories.{listed}
use Rattle.sat_act.specs.Parts.{BeatNote, gathered, tree_of, close_cut, emission, view, fallen, in_stamp_mode, lane, lane_entry, lane_front, brought, waiting, beats, beat_entry, is_complete, best, best_passes, is_past, candidate, every_site_passed, own_site_passed, next_stamp}
use Rattle.sat_act.specs.Answers.{answer, refused_if}
use Rattle.sat_act.specs.Runs.{IsRun}
use Rattle.sat_act.specs.Goals.{Made}
use Rattle.sat_act.specs.Settling.{is_done, round_acts, settle}
use Rattle.sat_rest.specs.Ends.{IsWithin, IsQuiet}
use Rattle.sat_rest.specs.Rest.{CanEnd, LanesWhole}
use Rattle.sat_laws.proofs.Labels.{IsPlaced, made-placed}
use Rattle.sat_laws.proofs.Orders.{point_le-mark}
use Rattle.sat_laws.proofs.Links.{tail_of}
use Rattle.sat_laws.proofs.Origins.{closed-below}
use Rattle.sat_laws.proofs.BeatTimes.{Later, now, more, later-run, later-trans, later-emission, gathered-later, note_of, is-note, beats-gave, gave-at, Best, best-is}
use Rattle.sat_rest.proofs.Totals.{below-In}
use Rattle.sat_laws.proofs.Shows.{IsFor, brings-for, for-kept, waits, candidate-least}
use Rattle.sat_rest.proofs.Rounds.{in-among}
use Rattle.sat_rest.proofs.Emptying.{turn-tried}
use Rattle.sat_rest.proofs.FreshBeats.{HighBest, settle-best}
use Rattle.sat_label.specs.Least.{least_label}
use Rattle.sat_label.proofs.Orders.{point_le-trans}
use Rattle.sat_label.specs.Members.{In}
use Rattle.sat_label.proofs.Members.{In-get}
use Rattle.sat_label.proofs.Least.{none-passes}

-- ---- each beat is complete where the lanes are whole

passes-all : (p : Label → Bool) (xs : List Label) → ((n : ℕ) (l : Label) → slice_get xs n ≡ Some l → p l ≡ true) → prefix_len p xs ≡ length xs
passes-all p [] w = refl
passes-all p (x ∷ xs) w = go (p x) (w 0 x refl) (passes-all p xs (λ n l e. w (suc n) l e))
  where
    go : (b : Bool) → b ≡ true → prefix_len p xs ≡ length xs → cond b (1 + prefix_len p xs) 0 ≡ suc (length xs)
    go true e old = omega arith
    go false e old = absurd (cc)

later-length : {X : Type 0} (f : List Entry → Entry → Option X) (b h : List Entry) → Later b h → length (listed f b) ≤ length (listed f h)
unfolding listed
later-length f b h now = omega arith
later-length f b h (more {x = x} {h = k} l) =
    let a : length (listed f b) ≤ length (listed f k) = later-length f b k l in
    omega (arith, length-append (listed f k) (tail_of (f k x)))

lane-later : (d : Deployed) (b h : List Entry) (i g j : ℕ) → Later b h → length (lane d b i g j) ≤ length (lane d h i g j)
unfolding lane
lane-later d b h i g j l = later-length (lane_entry d i g j) b h l

front-whole : (d : Deployed) (h : List Entry) (i g j : ℕ) → LanesWhole d h → j < d.sites → lane_front d h i g j ≡ length (lane d h i g j)
unfolding lane_front
front-whole d h i g j w b = passes-all (λ l. has label_eq (brought h j) l) (lane d h i g j) (λ n l e. w i g j n l b e)

all-of : (p : ℕ → Bool) (xs : List ℕ) → ((x : ℕ) → p x ≡ true) → list_all p xs ≡ true
all-of p [] w = refl
all-of p (x ∷ xs) w = both (p x) (list_all p xs) (w x) (all-of p xs w)
  where
    both : (a b : Bool) → a ≡ true → b ≡ true → (a && b) ≡ true
    both true b e f = f
    both false b e f = absurd (cc)

note-complete : (d : Deployed) (h b : List Entry) (i j : ℕ) → LanesWhole d h → j < d.sites → Later b h → is_complete d h i j (note_of d i j b) ≡ true
unfolding is_complete
note-complete d h b i j w bj l = all-of (λ g. nat_le (length (lane d (gathered b i) i g j)) (lane_front d h i g j)) (below d.gears) (λ g. le-leb _ _ (fits g))
  where
    fits : (g : ℕ) → length (lane d (gathered b i) i g j) ≤ lane_front d h i g j
    fits g =
        let a : length (lane d (gathered b i) i g j) ≤ length (lane d h i g j) = lane-later d (gathered b i) h i g j (later-trans (gathered b i) b h (gathered-later b i) l) in
        let c : lane_front d h i g j ≡ length (lane d h i g j) = front-whole d h i g j w bj in
        at_most (length (lane d (gathered b i) i g j)) (length (lane d h i g j)) (lane_front d h i g j) a c
      where
        at_most : (a b c : ℕ) → a ≤ b → c ≡ b → a ≤ c
        at_most a b c l e = omega arith

record BeatAt (d : Deployed) (h : List Entry) (i j : ℕ) (note : BeatNote) : Type 0 where
  at : List Entry
  later : Later at h
  is : note_of d i j at ≡ note

beat-at : (d : Deployed) (h : List Entry) (i j m : ℕ) (note : BeatNote) → slice_get (beats d h i j) m ≡ Some note → BeatAt d h i j note
beat-at d h i j m note e =
    let g : (b : List Entry) × (x : Entry) × Later (x ∷ b) h × (beat_entry d i j b x ≡ Some note) = gave-at (beat_entry d i j) h note (beats-gave d h i j note (In-get (beats d h i j) m note e)) in
    record { at = g.0; later = later-trans g.0 (g.1 ∷ g.0) h (more now) g.2; is = is-note d i j g.0 g.1 note g.3 }

all-complete : (d : Deployed) (h : List Entry) (i j : ℕ) → LanesWhole d h → j < d.sites → (m : ℕ) (note : BeatNote) → slice_get (beats d h i j) m ≡ Some note → is_complete d h i j note ≡ true
all-complete d h i j w b m note e = let a : BeatAt d h i j note = beat-at d h i j m note e in subst (λ (z : BeatNote). is_complete d h i j z ≡ true) a.is (note-complete d h a.at i j w b a.later)

-- ---- the stamp that could be shown

abbrev pick_stamp : Option Label → Answer
pick_stamp o = elim o [ None ↦ ans.Refused why.NotYet | Some l ↦ ans.Shown l ]

answer-stamp : (d : Deployed) (h : List Entry) (j : ℕ) → answer d h (act.Stamp j) ≡ refused_if (not (in_stamp_mode d h j)) why.TreeOrder (pick_stamp (next_stamp d h j))
unfolding answer
answer-stamp d h j = refl

stamps-now : (d : Deployed) (h : List Entry) (j : ℕ) → tree_of d (view h j) ≡ None → in_stamp_mode d h j ≡ true
unfolding in_stamp_mode
stamps-now d h j k = ap (λ (o : Option TreeShape). mode o) k
  where
    mode : Option TreeShape → Bool
    mode o = elim o [ None ↦ true | Some t ↦ fallen h j ]

all-in : (p : ℕ → Bool) (xs : List ℕ) → ((x : ℕ) → In xs x → p x ≡ true) → list_all p xs ≡ true
all-in p [] w = refl
all-in p (x ∷ xs) w = both (p x) (list_all p xs) (w x (inl refl)) (all-in p xs (λ y i. w y (inr i)))
  where
    both : (a b : Bool) → a ≡ true → b ≡ true → (a && b) ≡ true
    both true b e f = f
    both false b e f = absurd (cc)

candidate-is : (d : Deployed) (h : List Entry) (j : ℕ) → candidate d h j ≡ least_label (λ l. not (is_past d h j l)) (waiting h j)
unfolding candidate
candidate-is d h j = refl

abbrev pick_next : Option Label → (Label → Bool) → Option Label
pick_next o p = elim o [ None ↦ None | Some l ↦ if p l then Some l else None ]

next-is : (d : Deployed) (h : List Entry) (j : ℕ) → next_stamp d h j ≡ pick_next (candidate d h j) (λ l. every_site_passed d h j l && own_site_passed d h j l)
unfolding next_stamp
next-is d h j = refl

past-is : (d : Deployed) (h : List Entry) (j : ℕ) (l : Label) → is_past d h j l ≡ best_passes (best d h j l.point.site) (λ note. elim (note.closes (view h j)) [ None ↦ false | Some p ↦ point_lt p l.point ])
unfolding is_past
past-is d h j l = refl

module _ (d : Deployed) (h : List Entry) (w : IsWithin d) (run : IsRun d h) (quiet : IsQuiet d h) (end : CanEnd d h) (j : ℕ) (bj : j < d.sites) (k : tree_of d end.epoch ≡ None) (bests : (i : ℕ) → i < d.sites → (i ≡ j → ⊥) → HighBest d i j h) where
  close-none : (b : List Entry) (i : ℕ) → i < d.sites → Later b h → close_cut b i (view h j) ≡ None
  close-none b i bi l = go (close_cut b i (view h j)) refl
    where
      go : (o : Option Point) → close_cut b i (view h j) ≡ o → o ≡ None
      go None e = refl
      go (Some p) e =
          let a : view h j < emission b i = closed-below d b i (view h j) p (later-run d b h l run) e in
          let c : emission b i ≤ emission h i = later-emission b h i l in
          let v : view h j ≡ end.epoch = end.views j bj in
          let m : emission h i ≡ end.epoch = end.emissions i bi in
          absurd (omega arith)

  no-close : (i : ℕ) (bi : i < d.sites) (ne : i ≡ j → ⊥) → (bests i bi ne).best_one.1.closes (view h j) ≡ None
  no-close i bi ne =
      let f : Best d h j i (bests i bi ne).best_one.1 = best-is d h j i (bests i bi ne).best_one (bests i bi ne).is_best in
      subst (λ (note : BeatNote). note.closes (view h j) ≡ None) f.is (close-none f.at i bi f.later)

  passes : (i : ℕ) (bi : i < d.sites) (ne : i ≡ j → ⊥) (f : BeatNote → Bool) → best_passes (best d h j i) f ≡ f (bests i bi ne).best_one.1
  passes i bi ne f = ap (λ (o : Option (ℕ × BeatNote)). best_passes o f) (bests i bi ne).is_best

  record Waits (l : Label) : Type 0 where
    made : Made h l
    range : l.point.site < d.sites
    other : l.point.site ≡ j → ⊥
    gear : l.point.gear ≤ 65535

  waits-as : (l : Label) → In (waiting h j) l → Waits l
  waits-as l m =
      let f : IsFor d h j l = brings-for d h j l run (waits h j l m).0 in
      let p : IsPlaced d h l = made-placed d h l w.valid run f.made in
      let g : d.gears ≤ 8 = w.valid.few_gears in
      let g' : l.point.gear < d.gears = p.gear in
      record { made = f.made; range = p.site; other = (for-kept d h j l f).1; gear = omega arith }

  not-past : (l : Label) → Waits l → not (is_past d h j l) ≡ true
  not-past l f = ap (λ (b : Bool). not b) (past-is d h j l ∙ passes l.point.site f.range f.other (λ note. elim (note.closes (view h j)) [ None ↦ false | Some p ↦ point_lt p l.point ]) ∙ ap (λ (o : Option Point). past o) (no-close l.point.site f.range f.other))
    where
      past : Option Point → Bool
      past o = elim o [ None ↦ false | Some p ↦ point_lt p l.point ]

  or_left : (a b : Bool) → a ≡ true → (a || b) ≡ true
  or_left true b e = refl
  or_left false b e = absurd (cc)

  every-passed : (l : Label) → Waits l → every_site_passed d h j l ≡ true
  every-passed l f = all-in (λ i. (i == j) || best_passes (best d h j i) (λ note. point_le (mark l.point.ts i) note.cut || is_some (note.closes (view h j)))) (below d.sites) (λ i m. one i (below-In d.sites i m) (i == j) refl)
    where
      unequal : (a b : ℕ) → (a == b) ≡ false → a ≡ b → ⊥
      unequal a b e s = grind (arith, nat_tests)

      one : (i : ℕ) → i < d.sites → (b : Bool) → (i == j) ≡ b → (b || best_passes (best d h j i) (λ note. point_le (mark l.point.ts i) note.cut || is_some (note.closes (view h j)))) ≡ true
      one i bi true e = refl
      one i bi false e =
          passes i bi (unequal i j e) (λ note. point_le (mark l.point.ts i) note.cut || is_some (note.closes (view h j)))
          ∙ or_left (point_le (mark l.point.ts i) (bests i bi (unequal i j e)).best_one.1.cut) _ ((bests i bi (unequal i j e)).high l f.made)

  own-passed : (l : Label) → Waits l → own_site_passed d h j l ≡ true
  own-passed l f =
      passes l.point.site f.range f.other (λ note. elim (note.closes (view h j)) [ None ↦ point_le l.point note.cut | Some p ↦ point_le l.point p ])
      ∙ ap (λ (o : Option Point). own o) (no-close l.point.site f.range f.other)
      ∙ point_le-trans l.point (mark l.point.ts l.point.site) (bests l.point.site f.range f.other).best_one.1.cut (point_le-mark l.point l.point.ts f.gear (omega arith)) ((bests l.point.site f.range f.other).high l f.made)
    where
      own : Option Point → Bool
      own o = elim o [ None ↦ point_le l.point (bests l.point.site f.range f.other).best_one.1.cut | Some p ↦ point_le l.point p ]

  refused-stamp : is_done (answer d h (act.Stamp j)) ≡ false
  refused-stamp = quiet (act.Stamp j) (in-among (round_acts d) (act.Stamp j) (turn-tried d j (act.Stamp j) bj (inr (inl refl))))

  stamped : (c : Label) → candidate d h j ≡ Some c → Waits c → ⊥
  stamped c e f =
      let q : next_stamp d h j ≡ Some c =
      next-is d h j ∙ ap (λ (o : Option Label). pick_next o (λ l. every_site_passed d h j l && own_site_passed d h j l)) e
      ∙ taken_if (every_site_passed d h j c) (own_site_passed d h j c) (every-passed c f) (own-passed c f) in
      let r : answer d h (act.Stamp j) ≡ ans.Shown c =
      answer-stamp d h j ∙ ap (λ (b : Bool). refused_if (not b) why.TreeOrder (pick_stamp (next_stamp d h j))) (stamps-now d h j (subst (λ (e : ℕ). tree_of d e ≡ None) (sym (end.views j bj)) k))
      ∙ ap (λ (o : Option Label). pick_stamp o) q in
      let z : is_done (ans.Shown c) ≡ false = subst (λ (r : Answer). is_done r ≡ false) r refused-stamp in
      cc
    where
      taken_if : (a b : Bool) → a ≡ true → b ≡ true → (if a && b then Some c else None) ≡ Some c
      taken_if true true p q = refl
      taken_if false b p q = absurd (cc)
      taken_if true false p q = absurd (cc)

  no-member : (l : Label) → In (waiting h j) l → ⊥
  no-member l m = go (candidate d h j) refl
    where
      go : (o : Option Label) → candidate d h j ≡ o → ⊥
      go None e = none-passes (λ l. not (is_past d h j l)) (waiting h j) l (sym (candidate-is d h j) ∙ e) (not-past l (waits-as l m)) m
      go (Some c) e = stamped c e (waits-as c (candidate-least d h j c e).member)

  none_empty : (xs : List Label) → ((l : Label) → In xs l → ⊥) → xs ≡ []
  none_empty [] w = refl
  none_empty (x ∷ xs) w = absurd (w x (inl refl))

  pub stamps-empty : waiting h j ≡ []
  stamps-empty = none_empty (waiting h j) no-member

pub settle-bests : (d : Deployed) (h : List Entry) (j : ℕ) → IsWithin d → IsRun d h → LanesWhole d (settle d h).1 → j < d.sites → (i : ℕ) → i < d.sites → (i ≡ j → ⊥) → HighBest d i j (settle d h).1
settle-bests d h j w run lanes bj i bi ne = settle-best d h i j w run bi bj (unequal i j ne) (all-complete d (settle d h).1 i j lanes bj)
  where
    unequal : (a b : ℕ) → (a ≡ b → ⊥) → (a == b) ≡ false
    unequal a b n = grind (arith, nat_tests)
