-- What is kept of the entries of a settle.
use Rattle.std.specs.Prelude.{◌≡◌, ◌<◌, ◌≤◌, ◌+◌, ◌-◌, ◌^◌, ℕ, zero, suc, Bool, true, false, min, List, [], ◌∷◌, ◌++◌, length, take, get_or, refl}
use Rattle.std.proofs.Common.{sym, subst, ap, ◌∙◌}
use Rattle.std.proofs.lemmas.List.{take_more, take_all}
use Rattle.sat_label.specs.Members.{In}
use Rattle.sat_label.specs.Words.{below}
use Rattle.sat_act.specs.declared.act.Act.{Act}
use Rattle.sat_act.specs.declared.act.Act.TheVariants as act
use Rattle.sat_act.specs.declared.answer.Answer.{Answer}
use Rattle.sat_act.specs.declared.answer.Answer.TheVariants as ans
use Rattle.sat_act.specs.declared.entry.Entry.{Entry}
use Rattle.sat_act.specs.Deployed.{Deployed}
use Rattle.sat_act.specs.Limits.{IsDeployment}
use Rattle.sat_act.specs.Answers.{answer}
use Rattle.sat_act.specs.Parts.{beats, pending}
use Rattle.sat_act.specs.Ranges.{IsActOf}
use Rattle.sat_act.specs.Runs.{IsRun, is_settle}
use Rattle.sat_act.specs.Settling.{is_done, inner_entry, tried, repeated, for_each, emit_all, gather_at, pulse_at, beat_over, pairs, emptied, opening, round, round_acts, until_refused, settle}
use Rattle.sat_rest.specs.Ends.{UntilRefused}
use Rattle.sat_rest.proofs.Rounds.{round-act, until-ends}
use Rattle.sat_rest.proofs.Settles.{opening-is, emptied-is}
use Rattle.sat_world.specs.Seen.{WorldSeen}
use Rattle.sat_world.specs.Stands.{StandsFor}
use Rattle.sat_settle.specs.Going.{Reaches, Makes, Tries, rounds_from}
use Rattle.sat_settle.specs.Kept.{brings, hands_on, carries, added, noted, kept, Keeps, KeepsUntil}
use Rattle.sat_settle.proofs.Extending.{extends-self, extends-one, extends-trans, for_each-last}
use Rattle.sat_settle.proofs.Going.{some-done, none-done, tried-done}
use Rattle.sat_settle.proofs.Until.{IsOnWay, none-yet, goes-past, stays-there, told, one-longer, refused-is}
use Rattle.sat_settle.proofs.Loops.{Steps}
use Rattle.sat_settle.proofs.Ranges.{may-try, in-at, within}
use Rattle.sat_settle.proofs.Turning.{Turns, turns-none, turn-next, turn-last, told as told-round}
use Rattle.sat_settle.proofs.Settled.{settle-is}
use Rattle.sat_rest.specs.Ends.{IsWithin}

-- ---- one act

kept-inner : (d : Deployed) (h : List Entry) (a : Act) → kept (inner_entry d h a ∷ h) ≡ noted (kept h) (inner_entry d h a)
unfolding kept
kept-inner d h a = refl

not-brought : (r : Answer) → is_done r ≡ false → brings r ≡ false
not-brought (ans.Refused y) e = refl
not-brought ans.Again e = refl
not-brought ans.Old e = refl
not-brought _ e = absurd (cc)

not-handed : (r : Answer) → is_done r ≡ false → hands_on r ≡ false
not-handed (ans.Refused y) e = refl
not-handed ans.Again e = refl
not-handed ans.Old e = refl
not-handed _ e = absurd (cc)

-- what is not done carries nothing
undone-carries : (a : Act) (r : Answer) → is_done r ≡ false → carries a r ≡ false
unfolding carries
undone-carries (act.Bulk i g j n) r e = not-brought r e
undone-carries (act.Hop u v z) r e = not-handed r e
undone-carries _ r e = refl

tried-kept : (d : Deployed) (a : Act) (h ks : List Entry) → ks ≡ kept h → noted ks (inner_entry d h a) ≡ kept (tried d a h)
tried-kept d a h ks same = go (is_done (answer d h a)) refl
  where
    go : (b : Bool) → is_done (answer d h a) ≡ b → noted ks (inner_entry d h a) ≡ kept (tried d a h)
    go true e =
        ap (λ (xs : List Entry). noted xs (inner_entry d h a)) same
        ∙ (sym (kept-inner d h a) ∙ ap (λ (k : List Entry). kept k) (sym (tried-done d a h e)))
    go false e =
        ap (λ (b : Bool). added b ks (inner_entry d h a)) (undone-carries a (answer d h a) e)
        ∙ (same ∙ ap (λ (k : List Entry). kept k) (sym (refused-is d a h e)))

pub keeps-once : (v w : WorldSeen) (a : Act) (r : Answer) (old new : List Entry) → Tries v a r w → new ≡ noted old (record { act = a; answer = r; inner = true }) → Keeps v (tried v.deployment a) old new
keeps-once v w a r old new t e h run st same =
    e ∙ (ap (λ (x : Answer). noted old (record { act = a; answer = x; inner = true })) (t h run st).answer ∙ tried-kept v.deployment a h old same)

-- what an act keeps in the world's deployment, in the first one
told-keeps : (F : Deployed → List Entry → List Entry) (v w : WorldSeen) (old new h : List Entry) → w.deployment ≡ v.deployment → Keeps w (F w.deployment) old new → IsRun v.deployment h → StandsFor w h → old ≡ kept h → new ≡ kept (F v.deployment h)
told-keeps F v w old new h same p run st e = subst (λ (d : Deployed). new ≡ kept (F d h)) same (p h (subst (λ (d : Deployed). IsRun d h) (sym same) run) st e)

-- ---- an act until it is refused

pub record KeptOnWay (d : Deployed) (a : Act) (h k : List Entry) (n : ℕ) (w : WorldSeen) (ks : List Entry) : Type 0 where
  way : IsOnWay d a h k n w
  kept_is : ks ≡ kept way.now

-- the invariant of the loop
pub record RepeatsKeeping (v : WorldSeen) (a : Act) (n : ℕ) (w : WorldSeen) (old ks : List Entry) : Type 0 where
  deployment : w.deployment ≡ v.deployment
  each : (h k : List Entry) → IsRun v.deployment h → StandsFor v h → UntilRefused v.deployment a h k → old ≡ kept h → KeptOnWay v.deployment a h k n w ks

pub keeping-none : (v : WorldSeen) (a : Act) (ks : List Entry) → RepeatsKeeping v a 0 v ks ks
keeping-none v a ks = record {
  deployment = refl;
  each = λ h k run st until same. record {
    way = record { now = h; stands = st; run = run; from = extends-self h; count = none-yet (length h); rest = until };
    kept_is = same;
  };
}

pub keeping-more : (v w u : WorldSeen) (a : Act) (n m : ℕ) (old ks new : List Entry) → RepeatsKeeping v a n w old ks → u.deployment ≡ w.deployment → Makes w (tried w.deployment a) m u → (m ≡ 0 → ⊥) → Keeps w (tried w.deployment a) ks new → RepeatsKeeping v a (n + 1) u old new
keeping-more v w u a n m old ks new r same p some q = record {
  deployment = same ∙ r.deployment;
  each = λ h k run st until e.
      let o : KeptOnWay v.deployment a h k n w ks = r.each h k run st until e in
      let x : Reaches v.deployment o.way.now (tried v.deployment a o.way.now) m u = told v w u a m o.way.now r.deployment p o.way.run o.way.stands in
      let y : is_done (answer v.deployment o.way.now a) ≡ true = some-done v.deployment o.way.now a m x.count some in
      let f : tried v.deployment a o.way.now ≡ inner_entry v.deployment o.way.now a ∷ o.way.now = tried-done v.deployment a o.way.now y in
      record {
        way = record {
          now = inner_entry v.deployment o.way.now a ∷ o.way.now;
          stands = subst (StandsFor u) f x.stands;
          run = subst (IsRun v.deployment) f x.run;
          from = extends-trans h o.way.now (inner_entry v.deployment o.way.now a ∷ o.way.now) o.way.from (extends-one o.way.now (inner_entry v.deployment o.way.now a));
          count = one-longer (length (inner_entry v.deployment o.way.now a ∷ o.way.now)) (length o.way.now) (length h) n refl o.way.count;
          rest = goes-past v.deployment a o.way.now k o.way.rest y;
        };
        kept_is = told-keeps (λ (d : Deployed) (k : List Entry). tried d a k) v w ks new o.way.now r.deployment q o.way.run o.way.stands o.kept_is ∙ ap (λ (k : List Entry). kept k) f;
      };
}

pub keeping-end : (v w u : WorldSeen) (a : Act) (n m : ℕ) (old ks new : List Entry) → RepeatsKeeping v a n w old ks → Makes w (tried w.deployment a) m u → m ≡ 0 → Keeps w (tried w.deployment a) ks new → KeepsUntil v a old new
keeping-end v w u a n m old ks new r p none q h k run st until e =
    let o : KeptOnWay v.deployment a h k n w ks = r.each h k run st until e in
    let x : Reaches v.deployment o.way.now (tried v.deployment a o.way.now) m u = told v w u a m o.way.now r.deployment p o.way.run o.way.stands in
    let y : is_done (answer v.deployment o.way.now a) ≡ false = none-done v.deployment o.way.now a m x.count none in
    told-keeps (λ (d : Deployed) (k : List Entry). tried d a k) v w ks new o.way.now r.deployment q o.way.run o.way.stands o.kept_is
    ∙ ap (λ (k : List Entry). kept k) (refused-is v.deployment a o.way.now y ∙ sym (stays-there v.deployment a o.way.now k o.way.rest y))

-- ---- a round

nothing-kept : (v : WorldSeen) (f : Act → List Entry → List Entry) (ks : List Entry) → Keeps v (for_each f []) ks ks
unfolding for_each
nothing-kept v f ks h run st same = same

pub list-kept-none : (v : WorldSeen) (acts ks : List _) → Keeps v (for_each (until_refused v.deployment) (take 0 acts)) ks ks
list-kept-none v acts ks = nothing-kept v (until_refused v.deployment) ks

pub list-kept-more : (v w : WorldSeen) (acts : List Act) (a : Act) (i n : ℕ) (old ks new : List Entry) → i < length acts → get_or acts i a ≡ a → Steps (λ (d : Deployed) (b : Act). until_refused d b) v (take i acts) n w →
    Keeps v (for_each (until_refused v.deployment) (take i acts)) old ks → Keeps w (until_refused w.deployment a) ks new → Keeps v (for_each (until_refused v.deployment) (take (i + 1) acts)) old new
list-kept-more v w acts a i n old ks new l at s q p h run st same =
    let x : Reaches v.deployment h (for_each (until_refused v.deployment) (take i acts) h) n w = s.makes h run st in
    told-keeps (λ (d : Deployed) (k : List Entry). until_refused d a k) v w ks new (for_each (until_refused v.deployment) (take i acts) h) s.deployment p x.run x.stands (q h run st same)
    ∙ ap (λ (k : List Entry). kept k) (sym (for_each-last (until_refused v.deployment) (take i acts) a h)
    ∙ ap (λ (bs : List Act). for_each (until_refused v.deployment) bs h) (sym (take_more acts i a l ∙ ap (λ (b : Act). take i acts ++ b ∷ []) at)))

whole-round-is : (d : Deployed) (h : List Entry) → for_each (until_refused d) (round_acts d) h ≡ round d h
unfolding round
whole-round-is d h = refl

pub list-kept-end : (v : WorldSeen) (acts : List Act) (i : ℕ) (old ks : List Entry) → acts ≡ round_acts v.deployment → length acts ≤ i → Keeps v (for_each (until_refused v.deployment) (take i acts)) old ks → Keeps v (round v.deployment) old ks
list-kept-end v acts i old ks e l q h run st same =
    q h run st same ∙ ap (λ (k : List Entry). kept k) (ap (λ (bs : List Act). for_each (until_refused v.deployment) bs h) (take_all i acts l ∙ e) ∙ whole-round-is v.deployment h)

pub round-makes : (v w : WorldSeen) (acts : List Act) (i n : ℕ) → acts ≡ round_acts v.deployment → length acts ≤ i → Steps (λ (d : Deployed) (a : Act). until_refused d a) v (take i acts) n w → Makes v (round v.deployment) n w
round-makes v w acts i n e l s h run st =
    subst (λ (k : List Entry). Reaches v.deployment h k n w) (ap (λ (bs : List Act). for_each (until_refused v.deployment) bs h) (take_all i acts l ∙ e) ∙ whole-round-is v.deployment h) (s.makes h run st)

-- an act of the list is one of a round
pub round-in : (d : Deployed) (acts : List Act) (i : ℕ) (a : Act) → acts ≡ round_acts d → i < length acts → a ≡ get_or acts i a → In (round_acts d) a
round-in d acts i a e l at = subst (λ (xs : List Act). In xs a) e (in-at acts i a l at)

pub round-act-of : (d x : Deployed) (acts : List Act) (i : ℕ) (a : Act) → acts ≡ round_acts d → i < length acts → a ≡ get_or acts i a → x ≡ d → IsActOf x a
round-act-of d x acts i a e l at same = subst (λ (y : Deployed). IsActOf y a) (sym same) (may-try d a (round-in d acts i a e l at)).range

pub round-act-plain : (d : Deployed) (acts : List Act) (i : ℕ) (a : Act) → acts ≡ round_acts d → i < length acts → a ≡ get_or acts i a → is_settle a ≡ false
round-act-plain d acts i a e l at = (may-try d a (round-in d acts i a e l at)).plain

pub until-keeps : (d : Deployed) (v : WorldSeen) (a : Act) (old new : List Entry) → IsDeployment d → v.deployment ≡ d → In (round_acts d) a → KeepsUntil v a old new → Keeps v (until_refused v.deployment a) old new
until-keeps d v a old new k same m p h run st =
    p h (until_refused v.deployment a h) run st
    (until-ends v.deployment a h (within v.deployment (subst IsDeployment (sym same) k)) run (round-act v.deployment a (subst (λ (x : Deployed). In (round_acts x) a) (sym same) m)))

-- ---- rounds

pub record KeptTurns (d : Deployed) (h : List Entry) (n done : ℕ) (w : WorldSeen) (ks : List Entry) : Type 0 where
  turns : Turns d h n done w
  kept_is : ks ≡ kept turns.now

pub record RoundsKeeping (v : WorldSeen) (n done : ℕ) (w : WorldSeen) (old ks : List Entry) : Type 0 where
  deployment : w.deployment ≡ v.deployment
  each : (h : List Entry) → IsRun v.deployment h → StandsFor v h → old ≡ kept h → KeptTurns v.deployment h n done w ks

pub rounds-kept-none : (v : WorldSeen) (ks : List Entry) → RoundsKeeping v 0 0 v ks ks
rounds-kept-none v ks = record {
  deployment = refl;
  each = λ h run st f.
      let x : (y : Turns v.deployment h 0 0 v) × (y.now ≡ h) = turns-none v.deployment h v run st in
      record { turns = x.0; kept_is = f ∙ ap (λ (k : List Entry). kept k) (sym x.1) };
}

pub rounds-kept-next : (v w u : WorldSeen) (n done m k : ℕ) (old ks new : List Entry) → IsWithin v.deployment → RoundsKeeping v n done w old ks → u.deployment ≡ w.deployment → Makes w (round w.deployment) m u → (m ≡ 0 → ⊥) → k ≡ min (done + m) (2 ^ 64 - 1) →
    Keeps w (round w.deployment) ks new → RoundsKeeping v (n + 1) k u old new
rounds-kept-next v w u n done m k old ks new inside r same p some e q = record {
  deployment = same ∙ r.deployment;
  each = λ h run st f.
      let t : KeptTurns v.deployment h n done w ks = r.each h run st f in
      let x : (y : Turns v.deployment h (n + 1) k u) × (y.now ≡ round v.deployment t.turns.now) =
      turn-next v.deployment h n done m k w u inside t.turns (told-round round v w u m t.turns.now refl r.deployment p t.turns.reaches.run t.turns.reaches.stands) some e in
      record {
        turns = x.0;
        kept_is = told-keeps round v w ks new t.turns.now r.deployment q t.turns.reaches.run t.turns.reaches.stands t.kept_is ∙ ap (λ (k : List Entry). kept k) (sym x.1);
      };
}

pub rounds-kept-done : (v w u : WorldSeen) (n done m : ℕ) (old ks new : List Entry) → RoundsKeeping v n done w old ks → Makes w (round w.deployment) m u → m ≡ 0 → Keeps w (round w.deployment) ks new → Keeps v (λ h. (rounds_from v.deployment h).1) old new
rounds-kept-done v w u n done m old ks new r p none q h run st f =
    let t : KeptTurns v.deployment h n done w ks = r.each h run st f in
    let x : ((rounds_from v.deployment h).1 ≡ t.turns.now) × (round v.deployment t.turns.now ≡ t.turns.now) =
    turn-last v.deployment h n done m w u t.turns (told-round round v w u m t.turns.now refl r.deployment p t.turns.reaches.run t.turns.reaches.stands) none in
    told-keeps round v w ks new t.turns.now r.deployment q t.turns.reaches.run t.turns.reaches.stands t.kept_is ∙ ap (λ (k : List Entry). kept k) (x.1 ∙ sym x.0)

-- ---- the opening, in which nothing is kept

tried-quiet : (d : Deployed) (a : Act) (h : List Entry) → ((r : Answer) → carries a r ≡ false) → kept (tried d a h) ≡ kept h
tried-quiet d a h quiet = go (is_done (answer d h a)) refl
  where
    go : (b : Bool) → is_done (answer d h a) ≡ b → kept (tried d a h) ≡ kept h
    go true e = ap (λ (k : List Entry). kept k) (tried-done d a h e) ∙ (kept-inner d h a ∙ ap (λ (b : Bool). added b (kept h) (inner_entry d h a)) (quiet (answer d h a)))
    go false e = ap (λ (k : List Entry). kept k) (refused-is d a h e)

repeated-quiet : (d : Deployed) (a : Act) (n : ℕ) (h : List Entry) → ((r : Answer) → carries a r ≡ false) → kept (repeated d a n h) ≡ kept h
unfolding repeated
repeated-quiet d a zero h quiet = refl
repeated-quiet d a (suc n) h quiet = go (is_done (answer d h a)) (repeated-quiet d a n (inner_entry d h a ∷ h) quiet)
  where
    go : (b : Bool) → kept (repeated d a n (inner_entry d h a ∷ h)) ≡ kept (inner_entry d h a ∷ h) → kept (elim b as (λ _. List Entry) [ true ↦ repeated d a n (inner_entry d h a ∷ h) | false ↦ h ]) ≡ kept h
    go true e = e ∙ (kept-inner d h a ∙ ap (λ (b : Bool). added b (kept h) (inner_entry d h a)) (quiet (answer d h a)))
    go false e = refl

each-quiet : {X : Type 0} (f : X → List Entry → List Entry) (xs : List X) (h : List Entry) → ((x : X) (k : List Entry) → kept (f x k) ≡ kept k) → kept (for_each f xs h) ≡ kept h
unfolding for_each
each-quiet f [] h quiet = refl
each-quiet f (x ∷ xs) h quiet = each-quiet f xs (f x h) quiet ∙ quiet x h

clock-carries : (r : Answer) → carries act.Clock r ≡ false
unfolding carries
clock-carries r = refl

gather-carries : (i : ℕ) (r : Answer) → carries (act.Gather i) r ≡ false
unfolding carries
gather-carries i r = refl

emit-carries : (i : ℕ) (r : Answer) → carries (act.Emit i) r ≡ false
unfolding carries
emit-carries i r = refl

pulse-carries : (i : ℕ) (r : Answer) → carries (act.Pulse i) r ≡ false
unfolding carries
pulse-carries i r = refl

beat-carries : (i j : ℕ) (r : Answer) → carries (act.Beat i j) r ≡ false
unfolding carries
beat-carries i j r = refl

beat-in-carries : (i j n : ℕ) (r : Answer) → carries (act.BeatIn i j n) r ≡ false
unfolding carries
beat-in-carries i j n r = refl

beats-quiet : (d : Deployed) (p : ℕ × ℕ) (h : List Entry) → kept (beat_over d p h) ≡ kept h
beats-quiet d p h =
    tried-quiet d (act.BeatIn p.0 p.1 (length (beats d h p.0 p.1))) (tried d (act.Beat p.0 p.1) h) (beat-in-carries p.0 p.1 (length (beats d h p.0 p.1)))
    ∙ tried-quiet d (act.Beat p.0 p.1) h (beat-carries p.0 p.1)

emptied-quiet : (d : Deployed) (h : List Entry) → kept (emptied d h) ≡ kept h
emptied-quiet d h =
    ap (λ (k : List Entry). kept k) (emptied-is d h)
    ∙ (each-quiet (emit_all d) (below d.sites) _ (λ i k. repeated-quiet d (act.Emit i) (length (pending d k i)) k (emit-carries i))
    ∙ (each-quiet (gather_at d) (below d.sites) _ (λ i k. tried-quiet d (act.Gather i) k (gather-carries i))
    ∙ tried-quiet d act.Clock h clock-carries))

opening-quiet : (d : Deployed) (h : List Entry) → kept (opening d h) ≡ kept h
opening-quiet d h =
    ap (λ (k : List Entry). kept k) (opening-is d h)
    ∙ (each-quiet (beat_over d) (pairs d) _ (beats-quiet d)
    ∙ (each-quiet (pulse_at d) (below d.sites) _ (λ i k. tried-quiet d (act.Pulse i) k (pulse-carries i))
    ∙ emptied-quiet d h))

pub settle-keeps : (v w : WorldSeen) (n : ℕ) (old new : List Entry) → w.deployment ≡ v.deployment → Makes v (opening v.deployment) n w → Keeps w (λ h. (rounds_from w.deployment h).1) old new → Keeps v (λ h. (settle v.deployment h).1) old new
settle-keeps v w n old new same p q h run st e =
    let x : Reaches v.deployment h (opening v.deployment h) n w = p h run st in
    told-keeps (λ (d : Deployed) (k : List Entry). (rounds_from d k).1) v w old new (opening v.deployment h) same q x.run x.stands (e ∙ sym (opening-quiet v.deployment h))
    ∙ ap (λ (y : ℕ × List Entry). kept y.1) (settle-is v.deployment h)
