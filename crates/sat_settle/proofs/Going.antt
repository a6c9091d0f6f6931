-- Steps of a settle, one after another.
use Rattle.std.specs.Prelude.{◌≡◌, ◌+◌, ◌-◌, ◌^◌, ℕ, suc, min, Bool, true, false, List, ◌∷◌, length, refl}
use Rattle.std.proofs.Common.{sym, subst, ap, ◌∙◌, arith, inl}
use Rattle.sat_act.specs.declared.act.Act.{Act}
use Rattle.sat_act.specs.declared.answer.Answer.{Answer}
use Rattle.sat_act.specs.declared.answer.Answer.TheVariants as ans
use Rattle.sat_act.specs.declared.entry.Entry.{Entry}
use Rattle.sat_act.specs.Deployed.{Deployed}
use Rattle.sat_act.specs.Answers.{answer}
use Rattle.sat_act.specs.Ranges.{IsActOf}
use Rattle.sat_act.specs.Runs.{IsRun, is_settle}
use Rattle.sat_act.specs.Settling.{capped, is_done, inner_entry, tried}
use Rattle.sat_model.specs.Laws.{leaves_all}
pub use Rattle.sat_world.proofs.Again.{on-err}
use Rattle.sat_world.specs.Applies.{Applies}
use Rattle.sat_world.specs.Seen.{WorldSeen}
use Rattle.sat_world.specs.Stands.{StandsFor}
use Rattle.sat_world.proofs.Counting.{flags-stay-free, undone-keeps}
use Rattle.sat_world.proofs.Meets.{in-range}
use Rattle.sat_settle.specs.Going.{Extends, Reaches, StopsBefore, Makes, Stops, Tries, done_by}
use Rattle.sat_settle.proofs.Extending.{extends-self, extends-trans, longer, tried-extends, capped-sum, capped-none}

-- ---- one act

left-by : (r : Answer) → is_done r ≡ false → leaves_all r ≡ true
left-by (ans.Refused y) e = refl
left-by ans.Again e = refl
left-by ans.Old e = refl
left-by _ e = absurd (cc)

abbrev chosen : Deployed → Act → List Entry → Bool → List Entry
chosen d a h b = elim b [ true ↦ inner_entry d h a ∷ h | false ↦ h ]

tried-is : (d : Deployed) (a : Act) (h : List Entry) (b : Bool) → is_done (answer d h a) ≡ b → tried d a h ≡ chosen d a h b
unfolding tried
tried-is d a h b e = ap (chosen d a h) e

-- what an act was answered, and what the world then stands for, of an entry like any other
pub tries-by : (v w : WorldSeen) (a : Act) (r : Answer) →
    ((h : List Entry) → IsRun v.deployment h → StandsFor v h → r ≡ answer v.deployment h a) →
    ((h : List Entry) → IsRun v.deployment h → StandsFor v h → StandsFor w (record { act = a; answer = r; inner = false } ∷ h)) → Tries v a r w
tries-by v w a r says stands h run st = record { answer = says h run st; stands = go (is_done (answer d h a)) refl }
  where
    d : Deployed
    d = v.deployment

    same : r ≡ answer d h a
    same = says h run st

    after : StandsFor w (record { act = a; answer = answer d h a; inner = false } ∷ h)
    after = subst (λ (x : Answer). StandsFor w (record { act = a; answer = x; inner = false } ∷ h)) same (stands h run st)

    go : (b : Bool) → is_done (answer d h a) ≡ b → StandsFor w (tried d a h)
    go true e = subst (StandsFor w) (sym (tried-is d a h true e)) (flags-stay-free w h (record { act = a; answer = answer d h a; inner = false }) true after)
    go false e = subst (StandsFor w) (sym (tried-is d a h false e)) ((undone-keeps w h (record { act = a; answer = answer d h a; inner = false }) (left-by (answer d h a) e)).back after)

pub inner-is-run : (d : Deployed) (h : List Entry) (a : Act) → IsActOf d a → is_settle a ≡ false → IsRun d h → IsRun d (inner_entry d h a ∷ h)
unfolding IsRun
inner-is-run d h a k p run = (run, in-range d a k, inl (p, refl))

tried-runs : (d : Deployed) (h : List Entry) (a : Act) → IsActOf d a → is_settle a ≡ false → IsRun d h → IsRun d (tried d a h)
tried-runs d h a k p run = go (is_done (answer d h a)) refl
  where
    go : (b : Bool) → is_done (answer d h a) ≡ b → IsRun d (tried d a h)
    go true e = subst (IsRun d) (sym (tried-is d a h true e)) (inner-is-run d h a k p run)
    go false e = subst (IsRun d) (sym (tried-is d a h false e)) run

pub done-one : (r : Answer) → is_done r ≡ true → done_by r ≡ 1
done-one (ans.Refused y) e = absurd (cc)
done-one ans.Again e = absurd (cc)
done-one ans.Old e = absurd (cc)
done-one _ e = refl

pub done-none : (r : Answer) → is_done r ≡ false → done_by r ≡ 0
done-none (ans.Refused y) e = refl
done-none ans.Again e = refl
done-none ans.Old e = refl
done-none _ e = absurd (cc)

one-entry : (n : ℕ) → 1 ≡ min (suc n - n) (2 ^ 64 - 1)
one-entry n = omega arith

tried-count : (d : Deployed) (h : List Entry) (a : Act) → done_by (answer d h a) ≡ capped (length (tried d a h) - length h)
tried-count d h a = go (is_done (answer d h a)) refl
  where
    go : (b : Bool) → is_done (answer d h a) ≡ b → done_by (answer d h a) ≡ capped (length (tried d a h) - length h)
    go true e = done-one (answer d h a) e ∙ (one-entry (length h) ∙ ap (λ (k : List Entry). capped (length k - length h)) (sym (tried-is d a h true e)))
    go false e = done-none (answer d h a) e ∙ (capped-none (length h) (length h) refl ∙ ap (λ (k : List Entry). capped (length k - length h)) (sym (tried-is d a h false e)))

pub tried-makes : (v w : WorldSeen) (a : Act) (r : Answer) (n : ℕ) → IsActOf v.deployment a → is_settle a ≡ false → Tries v a r w → n ≡ done_by r → Makes v (tried v.deployment a) n w
tried-makes v w a r n k p t e h run st = record {
  stands = (t h run st).stands;
  run = tried-runs v.deployment h a k p run;
  from = tried-extends v.deployment a h;
  count = e ∙ (ap done_by (t h run st).answer ∙ tried-count v.deployment h a);
}

-- the same by what the world's call of the act says
pub applies-makes : (v w : WorldSeen) (a : Act) (r : Answer) (n : ℕ) → IsActOf v.deployment a → is_settle a ≡ false → Applies v a r w → n ≡ done_by r → Makes v (tried v.deployment a) n w
applies-makes v w a r n k p t e = tried-makes v w a r n k p (tries-by v w a r t.answer t.stands) e

-- where it counts nothing the act was refused, else it left an entry
pub none-done : (d : Deployed) (h : List Entry) (a : Act) (n : ℕ) → n ≡ capped (length (tried d a h) - length h) → n ≡ 0 → is_done (answer d h a) ≡ false
none-done d h a n c z = go (is_done (answer d h a)) refl
  where
    clash : (m : ℕ) → m ≡ 1 → m ≡ 0 → ⊥
    clash m x y = omega arith

    go : (b : Bool) → is_done (answer d h a) ≡ b → is_done (answer d h a) ≡ false
    go false e = e
    go true e = absurd (clash n (c ∙ (sym (tried-count d h a) ∙ done-one (answer d h a) e)) z)

pub some-done : (d : Deployed) (h : List Entry) (a : Act) (n : ℕ) → n ≡ capped (length (tried d a h) - length h) → (n ≡ 0 → ⊥) → is_done (answer d h a) ≡ true
some-done d h a n c z = go (is_done (answer d h a)) refl
  where
    go : (b : Bool) → is_done (answer d h a) ≡ b → is_done (answer d h a) ≡ true
    go true e = e
    go false e = absurd (z (c ∙ (sym (tried-count d h a) ∙ done-none (answer d h a) e)))

pub tried-done : (d : Deployed) (a : Act) (h : List Entry) → is_done (answer d h a) ≡ true → tried d a h ≡ inner_entry d h a ∷ h
tried-done d a h e = tried-is d a h true e

-- ---- one step, and then another one

pub makes-nothing : (v : WorldSeen) (f : List Entry → List Entry) → ((h : List Entry) → f h ≡ h) → Makes v f 0 v
makes-nothing v f e h run st = subst (λ (k : List Entry). Reaches v.deployment h k 0 v) (sym (e h)) (record { stands = st; run = run; from = extends-self h; count = capped-none (length h) (length h) refl })

pub reaches-on : (d : Deployed) (a b c : List Entry) (m n k : ℕ) (v w : WorldSeen) → Reaches d a b m v → Reaches d b c n w → k ≡ min (m + n) (2 ^ 64 - 1) → Reaches d a c k w
reaches-on d a b c m n k v w p q e = record {
  stands = q.stands;
  run = q.run;
  from = extends-trans a b c p.from q.from;
  count =
      e ∙ (ap (λ (x : ℕ). min (x + n) (2 ^ 64 - 1)) p.count ∙ (ap (λ (x : ℕ). min (capped (length b - length a) + x) (2 ^ 64 - 1)) q.count
      ∙ capped-sum (length a) (length b) (length c) (2 ^ 64 - 1) (longer a b p.from) (longer b c q.from)));
}

-- what is done to the world from e on, in the deployment d, which is the same
moved : (d e : Deployed) (w : WorldSeen) (h : List Entry) → e ≡ d → IsRun d h → IsRun e h
moved d e w h is run = subst (λ (x : Deployed). IsRun x h) (sym is) run

pub makes-then : (u v w : WorldSeen) (F G : Deployed → List Entry → List Entry) (m n k : ℕ) → v.deployment ≡ u.deployment → Makes u (F u.deployment) m v → Makes v (G v.deployment) n w → k ≡ min (m + n) (2 ^ 64 - 1) →
    Makes u (λ h. G u.deployment (F u.deployment h)) k w
makes-then u v w F G m n k same p q e h run st =
    let a : Reaches u.deployment h (F u.deployment h) m v = p h run st in
    let b : Reaches v.deployment (F u.deployment h) (G v.deployment (F u.deployment h)) n w = q (F u.deployment h) (moved u.deployment v.deployment v (F u.deployment h) same a.run) a.stands in
    reaches-on u.deployment h (F u.deployment h) (G u.deployment (F u.deployment h)) m n k v w a (subst (λ (d : Deployed). Reaches d (F u.deployment h) (G d (F u.deployment h)) n w) same b) e

pub stops-on : (d : Deployed) (h k l : List Entry) (w : WorldSeen) → StopsBefore d h k w → Extends k l → StopsBefore d h l w
stops-on d h k l w p q = record { now = p.now; stands = p.stands; run = p.run; from = p.from; to = extends-trans p.now k l p.to q }

pub stops-first : (u v : WorldSeen) (F G : Deployed → List Entry → List Entry) → ((d : Deployed) (h : List Entry) → Extends h (G d h)) → Stops u (F u.deployment) v → Stops u (λ h. G u.deployment (F u.deployment h)) v
stops-first u v F G ext p h run st = stops-on u.deployment h (F u.deployment h) (G u.deployment (F u.deployment h)) v (p h run st) (ext u.deployment (F u.deployment h))

pub stops-then : (u v w : WorldSeen) (F G : Deployed → List Entry → List Entry) (m : ℕ) → v.deployment ≡ u.deployment → Makes u (F u.deployment) m v → Stops v (G v.deployment) w → Stops u (λ h. G u.deployment (F u.deployment h)) w
stops-then u v w F G m same p q h run st =
    let a : Reaches u.deployment h (F u.deployment h) m v = p h run st in
    let b : StopsBefore v.deployment (F u.deployment h) (G v.deployment (F u.deployment h)) w = q (F u.deployment h) (moved u.deployment v.deployment v (F u.deployment h) same a.run) a.stands in
    let c : StopsBefore u.deployment (F u.deployment h) (G u.deployment (F u.deployment h)) w = subst (λ (d : Deployed). StopsBefore d (F u.deployment h) (G d (F u.deployment h)) w) same b in
    record { now = c.now; stands = c.stands; run = c.run; from = extends-trans h (F u.deployment h) c.now a.from c.from; to = c.to }

-- a world that is as before has stopped at once
pub stops-at-once : (v w : WorldSeen) (f : List Entry → List Entry) → ((h : List Entry) → Extends h (f h)) → w ≡ v → Stops v f w
stops-at-once v w f ext e h run st = record { now = h; stands = subst (λ (u : WorldSeen). StandsFor u h) (sym e) st; run = run; from = extends-self h; to = ext h }
