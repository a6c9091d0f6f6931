-- Rounds, until a quiet one.
use Rattle.std.specs.Prelude.{◌≡◌, ◌≤◌, ◌<◌, ◌+◌, ◌-◌, ◌^◌, ◌==◌, ℕ, zero, suc, min, Bool, true, false, List, length, take, refl}
use Rattle.std.proofs.Common.{sym, subst, ap, ◌∙◌, arith}
use Rattle.std.proofs.lemmas.Bool.Decides.{nat_tests}
use Rattle.std.proofs.lemmas.List.{take_all}
use Rattle.sat_act.specs.declared.act.Act.{Act}
use Rattle.sat_act.specs.declared.entry.Entry.{Entry}
use Rattle.sat_act.specs.Deployed.{Deployed}
use Rattle.sat_act.specs.Limits.{IsDeployment}
use Rattle.sat_act.specs.Runs.{IsRun}
use Rattle.sat_act.specs.Settling.{bulks, capped, for_each, left, round, round_acts, rounds, until_refused}
use Rattle.sat_label.specs.Members.{In}
use Rattle.sat_rest.specs.Ends.{IsWithin}
use Rattle.sat_rest.proofs.Bulked.{AreRefused}
use Rattle.sat_rest.proofs.Rounds.{round-act, until-ends}
use Rattle.sat_rest.proofs.Settles.{Progress, round-progress}
use Rattle.sat_world.specs.Seen.{WorldSeen}
use Rattle.sat_world.specs.Stands.{StandsFor}
use Rattle.sat_settle.specs.RoundActs.{later_acts}
use Rattle.sat_settle.specs.Rounds.{later_round}
use Rattle.sat_settle.specs.Going.{Extends, Reaches, StopsBefore, Makes, Stops, MakesUntil, StopsUntil, MakesRounds, StopsInRounds, EndsRounds, rounds_from}
use Rattle.sat_settle.proofs.Bulking.{later-is-round, round-refused}
use Rattle.sat_settle.proofs.Extending.{extends-self, extends-trans, longer, same-length, round-extends, rounds-extends, capped-none}
use Rattle.sat_settle.proofs.Going.{reaches-on}
use Rattle.sat_settle.proofs.Loops.{Steps}
use Rattle.sat_settle.proofs.Ranges.{within}

-- ---- rounds with enough fuel

abbrev picked : Bool → ℕ × List Entry → ℕ × List Entry → ℕ × List Entry
picked b x y = elim b [ true ↦ x | false ↦ y ]

rounds-quiet : (d : Deployed) (n : ℕ) (h : List Entry) → length (round d h) ≡ length h → rounds d n h ≡ (0, h)
unfolding rounds
rounds-quiet d zero h e = refl
rounds-quiet d (suc n) h e = ap (λ (b : Bool). picked b (0, h) ((rounds d n (round d h)).0 + 1, (rounds d n (round d h)).1)) (equal (length (round d h)) (length h) e)
  where
    equal : (a b : ℕ) → a ≡ b → (a == b) ≡ true
    equal a b e = grind (arith, nat_tests)

rounds-more : (d : Deployed) (n : ℕ) (h : List Entry) → length h < length (round d h) → rounds d (suc n) h ≡ ((rounds d n (round d h)).0 + 1, (rounds d n (round d h)).1)
unfolding rounds
rounds-more d n h e = ap (λ (b : Bool). picked b (0, h) ((rounds d n (round d h)).0 + 1, (rounds d n (round d h)).1)) (unequal (length (round d h)) (length h) e)
  where
    unequal : (a b : ℕ) → b < a → (a == b) ≡ false
    unequal a b e = grind (arith, nat_tests)

-- a round that puts no entry there puts none
counts-none : (a b m : ℕ) → m ≡ min (a - b) (2 ^ 64 - 1) → m ≡ 0 → b ≤ a → a ≡ b
counts-none a b m e z l = omega arith

counts-some : (a b m : ℕ) → m ≡ min (a - b) (2 ^ 64 - 1) → (m ≡ 0 → ⊥) → b < a
counts-some a b m e f = go (a - b) refl
  where
    go : (n : ℕ) → a - b ≡ n → b < a
    go zero z = absurd (f (let y : m ≡ 0 = omega arith in y))
    go (suc n) z = omega arith

-- ---- the loop

-- n rounds, in each of which an act was done, lead from h to a history for which the world stands
pub record Turns (d : Deployed) (h : List Entry) (n done : ℕ) (w : WorldSeen) : Type 0 where
  pub now : List Entry
  pub reaches : Reaches d h now done w
  pub fuel : ℕ
  pub all : left d h ≡ n + fuel
  pub enough : left d now ≤ fuel
  pub rest : rounds d (left d h) h ≡ (n + (rounds d fuel now).0, (rounds d fuel now).1)
  pub bulked : 1 ≤ n → AreRefused d (bulks d) now

pub record Rounds (v : WorldSeen) (n done : ℕ) (w : WorldSeen) : Type 0 where
  pub deployment : w.deployment ≡ v.deployment
  pub each : (h : List Entry) → IsRun v.deployment h → StandsFor v h → Turns v.deployment h n done w

-- before the first one
pub turns-none : (d : Deployed) (h : List Entry) (v : WorldSeen) → IsRun d h → StandsFor v h → (x : Turns d h 0 0 v) × (x.now ≡ h)
turns-none d h v run st = (
  record {
    now = h;
    reaches = record { stands = st; run = run; from = extends-self h; count = capped-none (length h) (length h) refl };
    fuel = left d h;
    all = omega arith;
    enough = omega arith;
    rest = ap (λ (n : ℕ). (n, (rounds d (left d h) h).1)) (let e : (rounds d (left d h) h).0 ≡ 0 + (rounds d (left d h) h).0 = omega arith in e);
    bulked = λ l. absurd (omega arith);
  },
  refl,
)

pub rounds-none : (v : WorldSeen) → Rounds v 0 0 v
rounds-none v = record {
  deployment = refl;
  each = λ h run st. record {
    now = h;
    reaches = record { stands = st; run = run; from = extends-self h; count = capped-none (length h) (length h) refl };
    fuel = left v.deployment h;
    all = omega arith;
    enough = omega arith;
    rest = ap (λ (n : ℕ). (n, (rounds v.deployment (left v.deployment h) h).1)) (let e : (rounds v.deployment (left v.deployment h) h).0 ≡ 0 + (rounds v.deployment (left v.deployment h) h).0 = omega arith in e);
    bulked = λ l. absurd (omega arith);
  };
}

-- what is done in a round behind n others: all of it, or what is left of it once the bulks are refused
abbrev IsRound : (Deployed → List Entry → List Entry) → ℕ → Type 0
IsRound F n = (d : Deployed) (h : List Entry) → (1 ≤ n → AreRefused d (bulks d) h) → F d h ≡ round d h

pub whole-round : (n : ℕ) → IsRound round n
whole-round n d h w = refl

pub rest-of-round : (n : ℕ) → 1 ≤ n → IsRound later_round n
rest-of-round n l d h w = later-is-round d h (w l)

-- what a round made in the world's deployment, in the first one
pub told : (F : Deployed → List Entry → List Entry) (v w u : WorldSeen) (m : ℕ) (h : List Entry) → F v.deployment h ≡ round v.deployment h → w.deployment ≡ v.deployment → Makes w (F w.deployment) m u → IsRun v.deployment h → StandsFor w h →
    Reaches v.deployment h (round v.deployment h) m u
told F v w u m h is same p run st =
    subst (λ (k : List Entry). Reaches v.deployment h k m u) is (subst (λ (d : Deployed). Reaches d h (F d h) m u) same (p h (subst (λ (d : Deployed). IsRun d h) (sym same) run) st))

told-stop : (F : Deployed → List Entry → List Entry) (v w u : WorldSeen) (h : List Entry) → F v.deployment h ≡ round v.deployment h → w.deployment ≡ v.deployment → Stops w (F w.deployment) u → IsRun v.deployment h → StandsFor w h →
    StopsBefore v.deployment h (round v.deployment h) u
told-stop F v w u h is same p run st =
    subst (λ (k : List Entry). StopsBefore v.deployment h k u) is (subst (λ (d : Deployed). StopsBefore d h (F d h) u) same (p h (subst (λ (d : Deployed). IsRun d h) (sym same) run) st))

fuel-more : (a b c e f : ℕ) → a + c ≤ b + e → b < a → e ≤ f → (g : ℕ) × (f ≡ suc g) × (c ≤ g)
fuel-more a b c e zero p q r = absurd (omega arith)
fuel-more a b c e (suc g) p q r = (g, refl, omega arith)

sum-more : (a n f g : ℕ) → a ≡ n + f → f ≡ suc g → a ≡ (n + 1) + g
sum-more a n f g e k = omega arith

-- with the history to which the round led
pub turn-next : (d : Deployed) (h : List Entry) (n done m k : ℕ) (w u : WorldSeen) → IsWithin d → (t : Turns d h n done w) → Reaches d t.now (round d t.now) m u → (m ≡ 0 → ⊥) → k ≡ min (done + m) (2 ^ 64 - 1) → (x : Turns d h (n + 1) k u) × (x.now ≡ round d t.now)
turn-next d h n done m k w u within t q some e =
    let p : Progress d t.now (round d t.now) = round-progress d t.now within t.reaches.run in
    let l : length t.now < length (round d t.now) = counts-some (length (round d t.now)) (length t.now) m q.count some in
    let f : (g : ℕ) × (t.fuel ≡ suc g) × (left d (round d t.now) ≤ g) = fuel-more (length (round d t.now)) (length t.now) (left d (round d t.now)) (left d t.now) t.fuel p.less l t.enough in (
      record {
        now = round d t.now;
        reaches = reaches-on d h t.now (round d t.now) done m k w u t.reaches q e;
        fuel = f.0;
        all = sum-more (left d h) n t.fuel f.0 t.all f.1;
        enough = f.2;
        rest = t.rest ∙ (ap (λ (x : ℕ). (n + (rounds d x t.now).0, (rounds d x t.now).1)) f.1 ∙ (ap (λ (x : ℕ × List Entry). (n + x.0, x.1)) (rounds-more d f.0 t.now l)
            ∙ ap (λ (x : ℕ). (x, (rounds d f.0 (round d t.now)).1)) (regroup n (rounds d f.0 (round d t.now)).0)));
        bulked = λ l. round-refused d t.now within t.reaches.run;
      },
      refl,
    )
  where
    regroup : (n x : ℕ) → n + (x + 1) ≡ (n + 1) + x
    regroup n x = omega arith

turn-more : (d : Deployed) (h : List Entry) (n done m k : ℕ) (w u : WorldSeen) → IsWithin d → (t : Turns d h n done w) → Reaches d t.now (round d t.now) m u → (m ≡ 0 → ⊥) → k ≡ min (done + m) (2 ^ 64 - 1) → Turns d h (n + 1) k u
turn-more d h n done m k w u within t q some e = (turn-next d h n done m k w u within t q some e).0

pub rounds-next : (F : Deployed → List Entry → List Entry) (v w u : WorldSeen) (n done m k : ℕ) → IsRound F n → IsWithin v.deployment → Rounds v n done w → u.deployment ≡ w.deployment → Makes w (F w.deployment) m u → (m ≡ 0 → ⊥) → k ≡ min (done + m) (2 ^ 64 - 1) → Rounds v (n + 1) k u
rounds-next F v w u n done m k is within r same p some e = record {
  deployment = same ∙ r.deployment;
  each = λ h run st.
      let t : Turns v.deployment h n done w = r.each h run st in
      turn-more v.deployment h n done m k w u within t (told F v w u m t.now (is v.deployment t.now t.bulked) r.deployment p t.reaches.run t.reaches.stands) some e;
}

capped-small : (n : ℕ) → n < 2 ^ 64 → n ≡ min n (2 ^ 64 - 1)
capped-small n l = omega arith

-- behind a quiet round nothing comes
pub turn-last : (d : Deployed) (h : List Entry) (n done m : ℕ) (w u : WorldSeen) → (t : Turns d h n done w) → Reaches d t.now (round d t.now) m u → m ≡ 0 → ((rounds_from d h).1 ≡ t.now) × (round d t.now ≡ t.now)
turn-last d h n done m w u t q none =
    let l : length (round d t.now) ≡ length t.now = counts-none (length (round d t.now)) (length t.now) m q.count none (longer t.now (round d t.now) q.from) in
    let s : round d t.now ≡ t.now = same-length t.now (round d t.now) q.from (let x : length (round d t.now) ≤ length t.now = omega arith in x) in
    let f : rounds d (left d h) h ≡ (n + 0, t.now) = t.rest ∙ ap (λ (x : ℕ × List Entry). (n + x.0, x.1)) (rounds-quiet d t.fuel t.now l) in
    (ap (λ (x : ℕ × List Entry). x.1) f, s)

turn-end : (d : Deployed) (h : List Entry) (n done m : ℕ) (w u : WorldSeen) → (t : Turns d h n done w) → Reaches d t.now (round d t.now) m u → m ≡ 0 → n < 2 ^ 64 → EndsRounds d h n done u
turn-end d h n done m w u t q none few =
    let l : length (round d t.now) ≡ length t.now = counts-none (length (round d t.now)) (length t.now) m q.count none (longer t.now (round d t.now) q.from) in
    let s : round d t.now ≡ t.now = same-length t.now (round d t.now) q.from (let x : length (round d t.now) ≤ length t.now = omega arith in x) in
    let f : rounds d (left d h) h ≡ (n + 0, t.now) = t.rest ∙ ap (λ (x : ℕ × List Entry). (n + x.0, x.1)) (rounds-quiet d t.fuel t.now l) in
    record {
      reaches = subst (λ (k : List Entry). Reaches d h k done u) (sym (ap (λ (x : ℕ × List Entry). x.1) f)) (record { stands = subst (StandsFor u) s q.stands; run = t.reaches.run; from = t.reaches.from; count = t.reaches.count });
      rounds = capped-small n few ∙ ap capped (sym (ap (λ (x : ℕ × List Entry). x.0) f ∙ let z : n + 0 ≡ n = omega arith in z));
    }

pub rounds-done : (F : Deployed → List Entry → List Entry) (v w u : WorldSeen) (n done m : ℕ) → IsRound F n → Rounds v n done w → Makes w (F w.deployment) m u → m ≡ 0 → n < 2 ^ 64 → MakesRounds v n done u
rounds-done F v w u n done m is r p none few h run st =
    let t : Turns v.deployment h n done w = r.each h run st in
    turn-end v.deployment h n done m w u t (told F v w u m t.now (is v.deployment t.now t.bulked) r.deployment p t.reaches.run t.reaches.stands) none few

-- a round's end stands before the end of all rounds
round-before : (d : Deployed) (h : List Entry) (n : ℕ) → IsWithin d → IsRun d h → left d h ≤ n → Extends (round d h) (rounds d n h).1
round-before d h n within run enough = go (length (round d h) == length h) refl n enough
  where
    p : Progress d h (round d h)
    p = round-progress d h within run

    equal : (a b : ℕ) → (a == b) ≡ true → a ≡ b
    equal a b e = grind (arith, nat_tests)

    unequal : (a b : ℕ) → (a == b) ≡ false → b ≤ a → b < a
    unequal a b e l = grind (arith, nat_tests)

    still : (n : ℕ) → length (round d h) ≡ length h → Extends (round d h) (rounds d n h).1
    still n e =
        subst (λ (k : List Entry). Extends (round d h) k) (same-length h (round d h) (round-extends d h) (let x : length (round d h) ≤ length h = omega arith in x) ∙ sym (ap (λ (x : ℕ × List Entry). x.1) (rounds-quiet d n h e))) (extends-self (round d h))

    more : (n : ℕ) → length h < length (round d h) → left d h ≤ n → Extends (round d h) (rounds d n h).1
    more zero l le = absurd (let a : length (round d h) + left d (round d h) ≤ length h + left d h = p.less in omega arith)
    more (suc n) l le = subst (λ (k : List Entry). Extends (round d h) k) (sym (ap (λ (x : ℕ × List Entry). x.1) (rounds-more d n h l))) (rounds-extends d n (round d h))

    go : (b : Bool) → (length (round d h) == length h) ≡ b → (n : ℕ) → left d h ≤ n → Extends (round d h) (rounds d n h).1
    go true e n le = still n (equal (length (round d h)) (length h) e)
    go false e n le = more n (unequal (length (round d h)) (length h) e p.longer) le

pub rounds-stop : (F : Deployed → List Entry → List Entry) (v w u : WorldSeen) (n done : ℕ) → IsRound F n → IsWithin v.deployment → Rounds v n done w → Stops w (F w.deployment) u → StopsInRounds v u
rounds-stop F v w u n done is within r p h run st =
    let t : Turns v.deployment h n done w = r.each h run st in
    let s : StopsBefore v.deployment t.now (round v.deployment t.now) u = told-stop F v w u t.now (is v.deployment t.now t.bulked) r.deployment p t.reaches.run t.reaches.stands in
    let e : Extends (round v.deployment t.now) (rounds_from v.deployment h).1 =
    subst (λ (x : ℕ × List Entry). Extends (round v.deployment t.now) x.1) (sym t.rest) (round-before v.deployment t.now t.fuel within t.reaches.run t.enough) in
    record { now = s.now; stands = s.stands; run = s.run; from = extends-trans h t.now s.now t.reaches.from s.from; to = extends-trans s.now (round v.deployment t.now) (rounds_from v.deployment h).1 s.to e }

pub rounds-give-up : (v w : WorldSeen) (n done : ℕ) → Rounds v n done w → StopsInRounds v w
rounds-give-up v w n done r h run st =
    let t : Turns v.deployment h n done w = r.each h run st in
    record {
      now = t.now;
      stands = t.reaches.stands;
      run = t.reaches.run;
      from = t.reaches.from;
      to = subst (λ (x : ℕ × List Entry). Extends t.now x.1) (sym t.rest) (rounds-extends v.deployment t.fuel t.now);
    }

-- ---- the first round

pub first-quiet : (v u : WorldSeen) (m : ℕ) → Makes v (round v.deployment) m u → m ≡ 0 → MakesRounds v 0 0 u
first-quiet v u m p none = rounds-done round v v u 0 0 m (whole-round 0) (rounds-none v) p none (omega arith)

pub first-next : (v u : WorldSeen) (m : ℕ) → IsWithin v.deployment → u.deployment ≡ v.deployment → Makes v (round v.deployment) m u → (m ≡ 0 → ⊥) → m < 2 ^ 64 → Rounds v 1 m u
first-next v u m within same p some few = rounds-next round v v u 0 0 m m (whole-round 0) within (rounds-none v) same p some (omega arith)

pub first-stop : (v u : WorldSeen) → IsWithin v.deployment → Stops v (round v.deployment) u → StopsInRounds v u
first-stop v u within p = rounds-stop round v v u 0 0 (whole-round 0) within (rounds-none v) p

-- ---- one act of a round, as the loop has it

along : (d e : Deployed) (a : Act) → e ≡ d → In (round_acts d) a → In (round_acts e) a
along d e a same m = subst (λ (x : Deployed). In (round_acts x) a) (sym same) m

within-along : (d e : Deployed) → e ≡ d → IsDeployment d → IsWithin e
within-along d e same k = within e (subst IsDeployment (sym same) k)

pub until-makes : (d : Deployed) (v w : WorldSeen) (a : Act) (n : ℕ) → IsDeployment d → v.deployment ≡ d → In (round_acts d) a → MakesUntil v a n w → Makes v (until_refused v.deployment a) n w
until-makes d v w a n k same m p h run st = p h (until_refused v.deployment a h) run st (until-ends v.deployment a h (within-along d v.deployment same k) run (round-act v.deployment a (along d v.deployment a same m)))

pub until-stops : (d : Deployed) (v w : WorldSeen) (a : Act) → IsDeployment d → v.deployment ≡ d → In (round_acts d) a → StopsUntil v a w → Stops v (until_refused v.deployment a) w
until-stops d v w a k same m p h run st = p h (until_refused v.deployment a h) run st (until-ends v.deployment a h (within-along d v.deployment same k) run (round-act v.deployment a (along d v.deployment a same m)))

-- the acts of the list, one after another
pub later-makes : (v w : WorldSeen) (acts : List Act) (i n : ℕ) → acts ≡ later_acts v.deployment → length acts ≤ i → Steps (λ (d : Deployed) (a : Act). until_refused d a) v (take i acts) n w → Makes v (later_round v.deployment) n w
later-makes v w acts i n e l s h run st =
    subst (λ (xs : List Act). Reaches v.deployment h (for_each (until_refused v.deployment) xs h) n w) (take_all i acts l ∙ e) (s.makes h run st)

pub later-stops : (v w : WorldSeen) (acts : List Act) → acts ≡ later_acts v.deployment → Stops v (for_each (until_refused v.deployment) acts) w → Stops v (later_round v.deployment) w
later-stops v w acts e p h run st = subst (λ (xs : List Act). StopsBefore v.deployment h (for_each (until_refused v.deployment) xs h) w) e (p h run st)
