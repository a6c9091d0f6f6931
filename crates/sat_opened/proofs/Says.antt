-- What a site's machine answers to each input, as far as it speaks of labels, payloads, beats and epochs.
use Rattle.std.proofs.Common.{◌≡◌, ℕ, ◌+◌, ◌-◌, zero, suc, Bool, true, false, ◌==◌, ◌||◌, nat_le, List, [], ◌∷◌, ◌++◌, not, max, length, Option, Some, None, is_some, if◌then◌else◌, refl, sym, ◌∙◌, subst, inl, inr}
use Rattle.sat_label.proofs.Least.{IsLeast, least-is}
use Rattle.sat_label.proofs.Members.{In-parts, In-filter}
use Rattle.sat_label.specs.Members.{In}
use Rattle.sat_label.specs.Order.{mark, greater_point, point_lt, label_eq, point_at}
use Rattle.sat_label.specs.Words.{has}
use Rattle.sat_label.specs.declared.carried.Carried.{Carried}
use Rattle.sat_label.specs.declared.limits.TheConstants.{PULSE_GEAR, TS_END}
use Rattle.sat_label.specs.declared.point.Point.{Point}
use Rattle.sat_label.specs.declared.label.Kind.{Kind}
use Rattle.sat_label.specs.declared.items.Items.{Items}
use Rattle.sat_label.specs.Grouped.{list_of}
use Rattle.sat_label.specs.declared.label.Kind.TheVariants as kind
use Rattle.sat_label.specs.declared.label.Label.{Label}
use Rattle.sat_bulk.specs.Payloads.{Payload}
use Rattle.sat_beat.specs.declared.Beat.{Beat}
use Rattle.sat_act.specs.declared.answer.Answer.{Answer}
use Rattle.sat_act.specs.declared.answer.Answer.TheVariants as ans
use Rattle.sat_act.specs.declared.answer.Refusal.{Refusal}
use Rattle.sat_act.specs.declared.answer.Refusal.TheVariants as why
use Rattle.sat_act.specs.Deployed.{Deployed}
use Rattle.sat_act.specs.Parts.{BeatNote, is_update, keeps_all, replicates}
use Rattle.sat_act.specs.Answers.{refused_if, turned}
use Rattle.sat_model.specs.State.{SiteState, Version, fresh_site}
use Rattle.sat_model.specs.Look.{rows, ready_of, stable_of, cut_of, mode_of, waiting_of, best_of, numbers_of}
use Rattle.sat_model.specs.Reply.{site_answer, outlook_of, stamp_next, may_come, may_pass, gear_for, write_by, move_by}
use Rattle.sat_model.specs.Next.{site_next}
use Rattle.sat_model.specs.Input.{SiteInput as Handed}
use Rattle.sat_model.specs.Input as given
use Rattle.sat_site.specs.declared.input.SiteInput.{SiteInput}
use Rattle.sat_site.specs.declared.input.SiteInput.TheVariants as input
use Rattle.sat_site.specs.Inputs.{input_of}
use Rattle.sat_opened.proofs.Numbers.{same-turned}

-- ---- labels of a site's own

-- a move leads to another site
abbrev pub IsOwnKind : ℕ → Kind → Type 0
IsOwnKind i (kind.Move j) = (i == j) ≡ false
IsOwnKind i _ = Unit {0}

pub record IsOwn (i : ℕ) (l : Label) : Type 0 where
  pub site : l.point.site ≡ i
  pub kind : IsOwnKind i l.kind

-- all that a state's gears and sink hold is of its site
pub record Owns (i : ℕ) (s : SiteState) : Type 0 where
  pub fresh : (g : ℕ) (l : Label) → In (s.gears g).fresh l → IsOwn i l
  pub pending : (g : ℕ) (l : Label) → In (s.sink.pending g) l → IsOwn i l
  pub last : s.sink.last.site ≡ i

pub owns-fresh : (i : ℕ) → Owns i (fresh_site i)
owns-fresh i = record { fresh = λ g l m. absurd m; pending = λ g l m. absurd m; last = refl }

-- ---- answers

-- an answer that makes, sends, takes and closes nothing
abbrev pub is_quiet : Answer → Bool
is_quiet (ans.Wrote l) = false
is_quiet (ans.Moved l) = false
is_quiet (ans.Gathered n t) = false
is_quiet (ans.Emitted l) = false
is_quiet (ans.Pulsed l) = false
is_quiet (ans.Hopped l to) = false
is_quiet (ans.Shown l) = false
is_quiet (ans.Took l) = false
is_quiet (ans.Beat n) = false
is_quiet (ans.Closed e p) = false
is_quiet (ans.View v) = false
is_quiet ans.Killed = false
is_quiet _ = true

pub data Says (d : Deployed) (i : ℕ) (s : SiteState) : SiteInput → Answer → Type 0 where
  quiet : (given : SiteInput) (r : Answer) → is_quiet r ≡ true → Says d i s given r
  wrote : (seen : Carried) (items : Items) (values : List (List ℕ)) (l : Label) → IsOwn i l → l.kind ≡ kind.Update items → Says d i s (input.Write seen items values) (ans.Wrote l)
  moved : (seen : Carried) (j : ℕ) (l : Label) → IsOwn i l → Says d i s (input.Move seen j) (ans.Moved l)
  gathered : (n t : ℕ) → Says d i s input.Gather (ans.Gathered n t)
  emitted : (l : Label) → IsOwn i l → Says d i s input.Emit (ans.Emitted l)
  pulsed : (l : Label) → IsOwn i l → Says d i s input.Pulse (ans.Pulsed l)
  closed : (p : Point) → p.site ≡ i → Says d i s input.Close (ans.Closed s.views.emission p)
  shown : (l : Label) → mode_of d s ≡ false → Says d i s (input.Turn (Some l)) (ans.Shown l)
  took : (l : Label) → mode_of d s ≡ false → Says d i s (input.Turn (Some l)) (ans.Took l)
  stamped : (l : Label) → Says d i s input.Stamp (ans.Shown l)
  beaten : (j n : ℕ) → Says d i s (input.Beat j) (ans.Beat n)
  passed : Says d i s input.Advance (ans.View (s.views.view + 1))

module _ (d : Deployed) (i : ℕ) (s : SiteState) where
  -- a refusal is quiet
  refuse : (given : SiteInput) (b : Bool) (y : Refusal) (r : Answer) → (b ≡ false → Says d i s given r) → Says d i s given (refused_if b y r)
  refuse given true y r f = quiet given (ans.Refused y) refl
  refuse given false y r f = f refl

  write-says : (seen : Carried) (items : Items) (values : List (List ℕ)) (promise : ℕ) → Says d i s (input.Write seen items values) (write_by d i items promise seen.point.ts)
  write-says seen items values promise =
      refuse (input.Write seen items values) (not (keeps_all d (list_of items) i)) why.NotHere _
      (λ _. refuse (input.Write seen items values) (nat_le TS_END (max promise seen.point.ts)) why.Spent _
      (λ _. wrote seen items values (record { point = point_at (max promise seen.point.ts + 1) i (gear_for d items); kind = kind.Update items }) (record { site = refl; kind = tt }) refl))

  read-version : (seen : Carried) (n : ℕ) (o : Option Version) → Says d i s (input.Read seen n) (elim o [ None ↦ ans.ReadNone | Some p ↦ ans.ReadSome p.label p.value ])
  read-version seen n None = quiet (input.Read seen n) ans.ReadNone refl
  read-version seen n (Some p) = quiet (input.Read seen n) (ans.ReadSome p.label p.value) refl

  move-says : (seen : Carried) (j : ℕ) (promise : ℕ) → Says d i s (input.Move seen j) (move_by i j promise seen.point.ts)
  move-says seen j promise =
      refuse (input.Move seen j) (j == i) why.SameSite _
      (λ e. refuse (input.Move seen j) (nat_le TS_END (max promise seen.point.ts)) why.Spent _
      (λ _. moved seen j (record { point = point_at (max promise seen.point.ts + 1) i 0; kind = kind.Move j }) (record { site = refl; kind = same-turned i j ∙ e })))

  -- the sink's ready label is one of its own
  in-rows : (f : ℕ → List Label) (n : ℕ) (l : Label) → In (rows f n) l → (g : ℕ) × In (f g) l
  unfolding rows
  in-rows f zero l m = absurd m
  in-rows f (suc n) l m = elim (In-parts (rows f n) (f n) l m) [ inl a ↦ in-rows f n l a | inr b ↦ (n, b) ]

  pub ready-own : Owns i s → (l : Label) → ready_of d s ≡ Some l → IsOwn i l
  ready-own own l e =
      let w : IsLeast (λ l. nat_le l.point.ts (stable_of d s)) (rows s.sink.pending d.gears) l = least-is (λ l. nat_le l.point.ts (stable_of d s)) (rows s.sink.pending d.gears) l e in
      let p : (g : ℕ) × In (s.sink.pending g) l = in-rows s.sink.pending d.gears l w.member in
      own.pending p.0 l p.1

  emit-says : (o : Option Label) → ((l : Label) → o ≡ Some l → IsOwn i l) → Says d i s input.Emit (elim o [ None ↦ ans.Refused why.Idle | Some l ↦ ans.Emitted l ])
  emit-says None f = quiet input.Emit (ans.Refused why.Idle) refl
  emit-says (Some l) f = emitted l (f l refl)

  greater-own : (p q : Point) → p.site ≡ i → q.site ≡ i → (greater_point p q).site ≡ i
  greater-own p q e f = go (point_lt p q)
    where
      go : (b : Bool) → (if b then q else p).site ≡ i
      go true = f
      go false = e

  abbrev cut_by : Option Label → Point
  cut_by o = elim o [ None ↦ mark (stable_of d s) i | Some least ↦ greater_point s.sink.last (mark (least.point.ts - 1) i) ]

  cut-own : Owns i s → (o : Option Label) → (cut_by o).site ≡ i
  cut-own own None = refl
  cut-own own (Some least) = greater-own s.sink.last (mark (least.point.ts - 1) i) own.last refl

  close-says : Owns i s → Says d i s input.Close (site_answer d i s given.Close)
  unfolding site_answer
  close-says own =
      refuse input.Close (s.views.emission == length d.plans) why.NoNextEpoch _ (λ _.
      refuse input.Close (s.views.emission == s.views.view + 1) why.Behind _ (λ _.
      closed (cut_of d i s) (cut-own own (ready_of d s))))

  turn-label : (l : Label) → mode_of d s ≡ false → (b c : Bool) → Says d i s (input.Turn (Some l)) (if b then (if c then ans.Shown l else ans.Refused (why.NoPayload l)) else ans.Took l)
  turn-label l e true true = shown l e
  turn-label l e true false = quiet (input.Turn (Some l)) (ans.Refused (why.NoPayload l)) refl
  turn-label l e false c = took l e

  turn-front : (front : Option Label) → mode_of d s ≡ false → Says d i s (input.Turn front) (elim front [ None ↦ ans.Refused why.Empty | Some l ↦ turned (waiting_of s) l ])
  turn-front None e = quiet (input.Turn None) (ans.Refused why.Empty) refl
  turn-front (Some l) e = turn-label l e (is_update l.kind) (has label_eq (waiting_of s) l)

  bulk-says : (from gear n : ℕ) (p : Payload) (b : Bool) → Says d i s (input.Bulk from gear n p) (if b then ans.Again else ans.Brought p.label)
  bulk-says from gear n p true = quiet (input.Bulk from gear n p) ans.Again refl
  bulk-says from gear n p false = quiet (input.Bulk from gear n p) (ans.Brought p.label) refl

  beat-new : (from n : ℕ) (b : Beat) (c : Bool) → Says d i s (input.BeatIn from n b) (if c then ans.Again else ans.Taken)
  beat-new from n b true = quiet (input.BeatIn from n b) ans.Again refl
  beat-new from n b false = quiet (input.BeatIn from n b) ans.Taken refl

  beat-old : (from n : ℕ) (b : Beat) (c e : Bool) → Says d i s (input.BeatIn from n b) (if e then ans.Old else (if c then ans.Again else ans.Taken))
  beat-old from n b c true = quiet (input.BeatIn from n b) ans.Old refl
  beat-old from n b c false = beat-new from n b c

  beat-in-says : (from n : ℕ) (b : Beat) (o : Option (ℕ × BeatNote)) (c : Bool) →
      Says d i s (input.BeatIn from n b) (elim o [ None ↦ if c then ans.Again else ans.Taken | Some x ↦ if nat_le n x.0 then ans.Old else (if c then ans.Again else ans.Taken) ])
  beat-in-says from n b None c = beat-new from n b c
  beat-in-says from n b (Some x) c = beat-old from n b c (nat_le n x.0)

  stamp-says : (o : Option Label) → Says d i s input.Stamp (elim o [ None ↦ ans.Refused why.NotYet | Some l ↦ ans.Shown l ])
  stamp-says None = quiet input.Stamp (ans.Refused why.NotYet) refl
  stamp-says (Some l) = stamped l

  says-answer : Owns i s → (given : SiteInput) → Says d i s given (site_answer d i s (input_of given))
  unfolding site_answer
  says-answer own (input.Tick g t) = quiet (input.Tick g t) (ans.Ticked (max (s.gears g).promise t)) refl
  says-answer own (input.Write seen items values) = write-says seen items values (s.gears (gear_for d items)).promise
  says-answer own (input.Read seen n) = refuse (input.Read seen n) (not (replicates d n i)) why.NotHere _ (λ _. read-version seen n (s.store n))
  says-answer own (input.Move seen j) = move-says seen j (s.gears 0).promise
  says-answer own (input.Attach seen) = refuse (input.Attach seen) (not (may_come d (outlook_of d s) seen i)) why.NotYet ans.Attached (λ _. quiet (input.Attach seen) ans.Attached refl)
  says-answer own input.Gather = gathered _ _
  says-answer own input.Emit = emit-says (ready_of d s) (λ l e. ready-own own l e)
  says-answer own input.Pulse =
      refuse input.Pulse (is_some (ready_of d s) || nat_le (stable_of d s) s.sink.pulse) why.Idle _
      (λ _. pulsed (record { point = point_at (stable_of d s) i PULSE_GEAR; kind = kind.Pulse }) (record { site = refl; kind = tt }))
  says-answer own (input.Turn front) = refuse (input.Turn front) (mode_of d s) why.StampOrder _ (λ e. turn-front front e)
  says-answer own (input.Bulk from gear n p) = bulk-says from gear n p (has ◌==◌ (s.proxy.taken from gear) n)
  says-answer own (input.Beat j) = beaten j (length (s.made_beats j))
  says-answer own (input.BeatIn from n b) = beat-in-says from n b (best_of d s from) (has ◌==◌ (numbers_of s from) n)
  says-answer own input.Stamp = refuse input.Stamp (not (mode_of d s)) why.TreeOrder _ (λ _. stamp-says (stamp_next d (outlook_of d s) i))
  says-answer own input.Close = close-says own
  says-answer own input.Fall =
      refuse input.Fall (mode_of d s) why.StampOrder _ (λ _. refuse input.Fall (s.views.emission == s.views.view) why.NotClosed ans.Fallen (λ _. quiet input.Fall ans.Fallen refl))
  says-answer own input.Advance =
      refuse input.Advance (s.views.emission == s.views.view) why.NotClosed _ (λ _.
      refuse input.Advance (not (may_pass d (outlook_of d s) s.views.heard i)) why.NotYet _ (λ _. passed))

  pub says : Owns i s → (given : SiteInput) (r : Answer) → r ≡ site_answer d i s (input_of given) → Says d i s given r
  says own given r e = subst (Says d i s given) (sym e) (says-answer own given)

-- ---- the state after it

module _ (d : Deployed) (i : ℕ) (s : SiteState) where
  one-more : (ls : List Label) (x l : Label) → IsOwn i x → ((m : Label) → In ls m → IsOwn i m) → In (ls ++ x ∷ []) l → IsOwn i l
  one-more ls x l own f m = elim (In-parts ls (x ∷ []) l m) [
    | inl a ↦ f l a
    | inr b ↦ elim b [ inl e ↦ subst (IsOwn i) e own | inr n ↦ absurd n ]
  ]

  pub fresh-more : (b : Bool) (ls : List Label) (x l : Label) → IsOwn i x → ((m : Label) → In ls m → IsOwn i m) → In (if b then ls ++ x ∷ [] else ls) l → IsOwn i l
  fresh-more true ls x l own f m = one-more ls x l own f m
  fresh-more false ls x l own f m = f l m

  pub both-own : (ls ms : List Label) (l : Label) → ((m : Label) → In ls m → IsOwn i m) → ((m : Label) → In ms m → IsOwn i m) → In (ls ++ ms) l → IsOwn i l
  both-own ls ms l f g m = elim (In-parts ls ms l m) [ inl a ↦ f l a | inr b ↦ g l b ]

  quiet-owns : (given : Handed) (r : Answer) → is_quiet r ≡ true → Owns i s → Owns i (site_next d i s given r)
  unfolding site_next
  quiet-owns given (ans.Wrote l) e own = absurd (cc)
  quiet-owns given (ans.Moved l) e own = absurd (cc)
  quiet-owns given (ans.Gathered n t) e own = absurd (cc)
  quiet-owns given (ans.Emitted l) e own = absurd (cc)
  quiet-owns given (ans.Pulsed l) e own = absurd (cc)
  quiet-owns given (ans.Closed f p) e own = absurd (cc)
  quiet-owns given _ e own = record { fresh = own.fresh; pending = own.pending; last = own.last }

  pub owns-next : (given : SiteInput) (r : Answer) → Says d i s given r → Owns i s → Owns i (site_next d i s (input_of given) r)
  unfolding site_next
  owns-next given r (quiet g y e) own = quiet-owns (input_of given) r e own
  owns-next given r (wrote seen items values l o k) own = record { fresh = λ g m j. fresh-more (l.point.gear == g) (s.gears g).fresh l m o (own.fresh g) j; pending = own.pending; last = own.last }
  owns-next given r (moved seen j l o) own = record { fresh = λ g m j. fresh-more (l.point.gear == g) (s.gears g).fresh l m o (own.fresh g) j; pending = own.pending; last = own.last }
  owns-next given r (gathered n t) own = record { fresh = λ g m j. absurd j; pending = λ g m j. both-own (s.sink.pending g) (s.gears g).fresh m (own.pending g) (own.fresh g) j; last = own.last }
  owns-next given r (emitted l o) own = record { fresh = own.fresh; pending = λ g m j. own.pending g m (In-filter (λ m. not (label_eq l m)) (s.sink.pending g) m j).0; last = o.site }
  owns-next given r (pulsed l o) own = record { fresh = own.fresh; pending = own.pending; last = o.site }
  owns-next given r (closed p o) own = record { fresh = own.fresh; pending = own.pending; last = o }
  owns-next given r (shown l m) own = record { fresh = own.fresh; pending = own.pending; last = own.last }
  owns-next given r (took l m) own = record { fresh = own.fresh; pending = own.pending; last = own.last }
  owns-next given r (stamped l) own = record { fresh = own.fresh; pending = own.pending; last = own.last }
  owns-next given r (beaten j n) own = record { fresh = own.fresh; pending = own.pending; last = own.last }
  owns-next given r passed own = record { fresh = own.fresh; pending = own.pending; last = own.last }
