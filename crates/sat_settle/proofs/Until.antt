-- An act until it is refused.
use Rattle.std.specs.Prelude.{◌≡◌, ◌<◌, ◌+◌, ◌-◌, ◌^◌, ℕ, suc, min, Bool, true, false, List, ◌∷◌, length, refl}
use Rattle.std.proofs.Common.{sym, subst, ap, ◌∙◌, arith}
use Rattle.sat_act.specs.declared.act.Act.{Act}
use Rattle.sat_act.specs.declared.entry.Entry.{Entry}
use Rattle.sat_act.specs.Deployed.{Deployed}
use Rattle.sat_act.specs.Answers.{answer}
use Rattle.sat_act.specs.Ranges.{IsActOf}
use Rattle.sat_act.specs.Runs.{IsRun, is_settle}
use Rattle.sat_act.specs.Settling.{is_done, inner_entry, tried}
use Rattle.sat_rest.specs.Ends.{UntilRefused, ends, goes_on}
use Rattle.sat_world.specs.Again.{Again, Spends}
use Rattle.sat_world.specs.Again as times
use Rattle.sat_world.specs.Seen.{WorldSeen}
use Rattle.sat_world.specs.Stands.{StandsFor}
use Rattle.sat_settle.specs.Going.{Extends, Reaches, Makes, MakesUntil, StopsUntil}
use Rattle.sat_settle.proofs.Extending.{extends-self, extends-one, extends-trans, until-extends}
use Rattle.sat_settle.proofs.Going.{applies-makes, done-none, done-one, none-done, some-done, tried-done}

-- n times done on the way from h to k
pub record IsOnWay (d : Deployed) (a : Act) (h k : List Entry) (n : ℕ) (w : WorldSeen) : Type 0 where
  pub now : List Entry
  pub stands : StandsFor w now
  pub run : IsRun d now
  pub from : Extends h now
  pub count : length now ≡ length h + n
  pub rest : UntilRefused d a now k

-- the invariant of the loop
pub record Repeats (v : WorldSeen) (a : Act) (n : ℕ) (w : WorldSeen) : Type 0 where
  pub deployment : w.deployment ≡ v.deployment
  pub each : (h k : List Entry) → IsRun v.deployment h → StandsFor v h → UntilRefused v.deployment a h k → IsOnWay v.deployment a h k n w

pub goes-past : (d : Deployed) (a : Act) (h k : List Entry) → UntilRefused d a h k → is_done (answer d h a) ≡ true → UntilRefused d a (inner_entry d h a ∷ h) k
goes-past d a h k (ends f) e = absurd (let g : false ≡ true = sym f ∙ e in cc)
goes-past d a h k (goes_on f u) e = u

pub stays-there : (d : Deployed) (a : Act) (h k : List Entry) → UntilRefused d a h k → is_done (answer d h a) ≡ false → k ≡ h
stays-there d a h k (ends f) e = refl
stays-there d a h k (goes_on f u) e = absurd (let g : true ≡ false = sym f ∙ e in cc)

-- what the loop's act was in the world's deployment, in the first one
pub told : (v w u : WorldSeen) (a : Act) (m : ℕ) (h : List Entry) → w.deployment ≡ v.deployment → Makes w (tried w.deployment a) m u → IsRun v.deployment h → StandsFor w h → Reaches v.deployment h (tried v.deployment a h) m u
told v w u a m h same p run st =
    subst (λ (d : Deployed). Reaches d h (tried d a h) m u) same (p h (subst (λ (d : Deployed). IsRun d h) (sym same) run) st)

pub one-longer : (a b c n : ℕ) → a ≡ suc b → b ≡ c + n → a ≡ c + (n + 1)
one-longer a b c n e f = omega arith

pub none-yet : (n : ℕ) → n ≡ n + 0
none-yet n = omega arith

pub repeats-none : (v : WorldSeen) (a : Act) → Repeats v a 0 v
repeats-none v a = record {
  deployment = refl;
  each = λ h k run st until. record { now = h; stands = st; run = run; from = extends-self h; count = none-yet (length h); rest = until };
}

pub repeats-more : (v w u : WorldSeen) (a : Act) (n m : ℕ) → Repeats v a n w → u.deployment ≡ w.deployment → Makes w (tried w.deployment a) m u → (m ≡ 0 → ⊥) → Repeats v a (n + 1) u
repeats-more v w u a n m r same p some = record {
  deployment = same ∙ r.deployment;
  each = λ h k run st until.
      let o : IsOnWay v.deployment a h k n w = r.each h k run st until in
      let q : Reaches v.deployment o.now (tried v.deployment a o.now) m u = told v w u a m o.now r.deployment p o.run o.stands in
      let e : is_done (answer v.deployment o.now a) ≡ true = some-done v.deployment o.now a m q.count some in
      let f : tried v.deployment a o.now ≡ inner_entry v.deployment o.now a ∷ o.now = tried-done v.deployment a o.now e in
      record {
        now = inner_entry v.deployment o.now a ∷ o.now;
        stands = subst (StandsFor u) f q.stands;
        run = subst (IsRun v.deployment) f q.run;
        from = extends-trans h o.now (inner_entry v.deployment o.now a ∷ o.now) o.from (extends-one o.now (inner_entry v.deployment o.now a));
        count = one-longer (length (inner_entry v.deployment o.now a ∷ o.now)) (length o.now) (length h) n refl o.count;
        rest = goes-past v.deployment a o.now k o.rest e;
      };
}

counted : (a b n : ℕ) → a ≡ b + n → n < 2 ^ 64 → n ≡ min (a - b) (2 ^ 64 - 1)
counted a b n e l = omega arith

pub refused-is : (d : Deployed) (a : Act) (h : List Entry) → is_done (answer d h a) ≡ false → tried d a h ≡ h
unfolding tried
refused-is d a h e = ap (λ (b : Bool). elim b as (λ _. List Entry) [ true ↦ inner_entry d h a ∷ h | false ↦ h ]) e

pub repeats-end : (v w u : WorldSeen) (a : Act) (n m : ℕ) → Repeats v a n w → Makes w (tried w.deployment a) m u → m ≡ 0 → n < 2 ^ 64 → MakesUntil v a n u
repeats-end v w u a n m r p none few h k run st until =
    let o : IsOnWay v.deployment a h k n w = r.each h k run st until in
    let q : Reaches v.deployment o.now (tried v.deployment a o.now) m u = told v w u a m o.now r.deployment p o.run o.stands in
    let e : is_done (answer v.deployment o.now a) ≡ false = none-done v.deployment o.now a m q.count none in
    let f : tried v.deployment a o.now ≡ o.now = refused-is v.deployment a o.now e in
    let g : k ≡ o.now = stays-there v.deployment a o.now k o.rest e in
    subst (λ (x : List Entry). Reaches v.deployment h x n u) (sym g) (record {
      stands = subst (StandsFor u) f q.stands;
      run = o.run;
      from = o.from;
      count = counted (length o.now) (length h) n o.count few;
    })

pub repeats-stop : (v w u : WorldSeen) (a : Act) (n : ℕ) → Repeats v a n w → u ≡ w → StopsUntil v a u
repeats-stop v w u a n r e h k run st until =
    let o : IsOnWay v.deployment a h k n w = r.each h k run st until in
    record { now = o.now; stands = subst (λ (x : WorldSeen). StandsFor x o.now) (sym e) o.stands; run = o.run; from = o.from; to = until-extends v.deployment a o.now k o.rest }

-- ---- what the world did again and again by itself

next-is : (n : ℕ) → n + 1 ≡ suc n
next-is n = omega arith

one-is-some : (n : ℕ) → n ≡ 1 → n ≡ 0 → ⊥
one-is-some n e f = omega arith

pub again-repeats : (a : Act) (v w : WorldSeen) (n : ℕ) → IsActOf v.deployment a → is_settle a ≡ false → Again a v n w → Repeats v a n w
again-repeats a v w n k p times.none = repeats-none v a
again-repeats a v w n k p (times.more {n = m} {v = u} r g goes d) =
    let q : Repeats v a m u = again-repeats a v u m k p g in
    subst (λ (x : ℕ). Repeats v a x w) (next-is m)
    (repeats-more v u w a m 1 q goes.deployment (applies-makes u w a r 1 (subst (λ (d : Deployed). IsActOf d a) (sym q.deployment) k) p goes (sym (done-one r d))) (one-is-some 1 refl))

pub spends-until : (v w : WorldSeen) (a : Act) (n : ℕ) → IsActOf v.deployment a → is_settle a ≡ false → Spends a v n w → n < 2 ^ 64 → MakesUntil v a n w
spends-until v w a n k p s few =
    let q : Repeats v a n w = again-repeats a v w n k p s.again in
    repeats-end v w w a n 0 q (applies-makes w w a s.refusal 0 (subst (λ (d : Deployed). IsActOf d a) (sym q.deployment) k) p s.applies (sym (done-none s.refusal s.undone))) refl few

pub again-stops : (v w : WorldSeen) (a : Act) (n : ℕ) → IsActOf v.deployment a → is_settle a ≡ false → Again a v n w → StopsUntil v a w
again-stops v w a n k p g = repeats-stop v w w a n (again-repeats a v w n k p g) refl
