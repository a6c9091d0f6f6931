-- An act with its count: which acts show nothing, and what an act that is counted does to a world that stands for a history.
use Rattle.std.specs.Prelude.{◌≡◌, ℕ, Bool, true, false, List, ◌∷◌, IfOk, OnErr, Some, refl}
use Rattle.std.proofs.Common.{Result, Ok, Err, sym, subst, ap, ◌∙◌}
use Rattle.std.specs.declared.alloc.AllocError.{AllocError}
use Rattle.sat_act.specs.declared.act.Act.{Act}
use Rattle.sat_act.specs.declared.act.Act.TheVariants as act
use Rattle.sat_act.specs.declared.answer.Answer.{Answer}
use Rattle.sat_act.specs.declared.entry.Entry.{Entry}
use Rattle.sat_act.specs.Deployed.{Deployed}
use Rattle.sat_act.specs.Done.{Written, write_in}
use Rattle.sat_act.specs.Limits.{IsDeployment}
use Rattle.sat_act.specs.Ranges.{IsActOf}
use Rattle.sat_act.specs.Runs.{IsRun, is_settle}
use Rattle.sat_act.specs.Settling.{is_done}
use Rattle.sat_laws.proofs.Steps.{Step, outcome, showed_turn, showed_stamp}
use Rattle.sat_world.specs.Counts.{counted}
use Rattle.sat_world.specs.Seen.{WorldSeen}
use Rattle.sat_world.specs.Stands.{StandsFor}
use Rattle.sat_world.specs.Applies.{Applies}
use Rattle.sat_world.specs.Steps.{Counts, Goes, is_local, is_quiet}
use Rattle.sat_world.specs.Worlds.{IsWorld}
use Rattle.sat_world.proofs.Counting.{undone-uncounted}
use Rattle.sat_world.proofs.Runs.{runs, runs-counted}

-- ---- acts that show nothing

-- the acts that may show an update
abbrev pub is_showing : Act → Bool
is_showing (act.Turn j) = true
is_showing (act.Stamp j) = true
is_showing _ = false

-- none of them writes
pub write-unshown : (a : Act) (w : Written) → write_in a ≡ Some w → is_showing a ≡ false
write-unshown (act.Turn j) w e = absurd (cc)
write-unshown (act.Stamp j) w e = absurd (cc)
write-unshown _ w e = refl

step-uncounted : (d : Deployed) (h : List Entry) (a : Act) (r : Answer) (n : ℕ) → Step d h a r → is_showing a ≡ false → counted r n ≡ n
step-uncounted d h a r n (showed_turn m p s w u c) e = absurd (cc)
step-uncounted d h a r n (showed_stamp m p) e = absurd (cc)
step-uncounted d h a r n _ e = refl

uncounted : (w v : WorldSeen) (a : Act) (r : Answer) (n : ℕ) → IsWorld w → IsActOf w.deployment a → is_settle a ≡ false → is_showing a ≡ false → Goes w a r v → counted r n ≡ n
uncounted w v a r n k b p f g =
    step-uncounted w.deployment k.history a r n
    (subst (Step w.deployment k.history a) (sym (runs w v k.history a r k.frame.deployment b p k.run k.stands g).answer) (outcome w.deployment k.history a)) f

plain-counts : (w v : WorldSeen) (a : Act) (r : Answer) → IsWorld w → IsActOf w.deployment a → is_settle a ≡ false → is_showing a ≡ false → Goes w a r v → Counts w a r v
plain-counts w v a r k b p f g = record {
  goes = subst (λ (n : ℕ). Goes w a r (record v { shown = n })) g.shown g;
  shown = g.shown ∙ sym (uncounted w v a r w.shown k b p f g);
}

-- ---- acts that may show

pub counted-so : (w v u : WorldSeen) (a : Act) (r : Answer) (n : ℕ) → u ≡ v → Goes w a r v → n ≡ counted r u.shown → Counts w a r (record u { shown = n })
counted-so w v u a r n e g f = record {
  goes = subst (λ (x : WorldSeen). Goes w a r (record x { shown = w.shown })) (sym e) (subst (λ (m : ℕ). Goes w a r (record v { shown = m })) g.shown g);
  shown = f ∙ ap (counted r) (ap (λ (x : WorldSeen). x.shown) e ∙ g.shown);
}

-- what an act does to w it does to the same world v
pub counts-as : (w v u : WorldSeen) (a : Act) (r : Answer) → w ≡ v → Counts w a r u → Counts v a r u
counts-as w v u a r e c = subst (λ (v : WorldSeen). Counts v a r u) e c

-- ---- what is then true

done : (w v : WorldSeen) (a : Act) (r : Answer) → Counts w a r v → is_done r ≡ false → v ≡ w
done w v a r c e = ap (λ (n : ℕ). record v { shown = n }) (c.shown ∙ undone-uncounted r w.shown e) ∙ c.goes.refused e

-- an act that is counted
pub applies : (w v u : WorldSeen) (a : Act) (r : Answer) → w ≡ v → IsWorld w → IsActOf v.deployment a → is_settle a ≡ false → Counts v a r u → Applies v a r u
applies w v u a r e k b p c = record {
  answer = λ h run st. (runs v (record u { shown = v.shown }) h a r deployed b p run st.parts c.goes).answer;
  run = λ h run st.
      subst (λ (d : Deployed). IsRun d (record { act = a; answer = r; inner = false } ∷ h)) (sym c.goes.deployment)
      (runs v (record u { shown = v.shown }) h a r deployed b p run st.parts c.goes).run;
  stands = λ h run st.
      subst (λ (n : ℕ). StandsFor (record u { shown = n }) (record { act = a; answer = r; inner = false } ∷ h)) (sym c.shown)
      (runs-counted v (record u { shown = v.shown }) h a r deployed b p run st c.goes);
  good = λ h run st. (runs v (record u { shown = v.shown }) h a r deployed b p run st.parts c.goes).good;
  deployment = c.goes.deployment;
  refused = done v u a r c;
}
  where
    deployed : IsDeployment v.deployment
    deployed = (subst IsWorld e k).frame.deployment

-- an act that shows nothing
pub plainly : (w v u : WorldSeen) (a : Act) (r : Answer) → w ≡ v → IsWorld w → IsActOf v.deployment a → is_settle a ≡ false → is_showing a ≡ false → Goes v a r u → Applies v a r u
plainly w v u a r e k b p f g = applies w v u a r e k b p (plain-counts v u a r (subst IsWorld e k) b p f g)

-- an act that moves no label, is no client's and shows nothing
pub quiet-local : (a : Act) → is_quiet a ≡ true → is_local a ≡ true
quiet-local (act.Beat i j) e = refl
quiet-local (act.Fall i) e = refl
quiet-local (act.Advance i) e = refl
quiet-local _ e = absurd (cc)

pub quiet-shows : (a : Act) → is_quiet a ≡ true → is_showing a ≡ false
quiet-shows (act.Beat i j) e = refl
quiet-shows (act.Fall i) e = refl
quiet-shows (act.Advance i) e = refl
quiet-shows _ e = absurd (cc)

-- ---- as the clauses of a call say it

module _ (w v : WorldSeen) where
  -- the act by its kind
  pub applies-in : (a b : Act) (x : Result Answer AllocError) → a ≡ b → IfOk x (λ r. Applies w b r v) → IfOk x (λ r. Applies w a r v)
  applies-in a b x is s = subst (λ (a : Act). IfOk x (λ r. Applies w a r v)) (sym is) s

  pub applied-deployment : (a : Act) (x : Result Answer AllocError) → IfOk x (λ r. Applies w a r v) → OnErr x (v ≡ w) → v.deployment ≡ w.deployment
  applied-deployment a (Ok r) s e = s.deployment
  applied-deployment a (Err f) s e = ap (λ (x : WorldSeen). x.deployment) e

  -- a clause of what holds of the answer
  pub applied : (a : Act) (P : Answer → Type 0) (x : Result Answer AllocError) → ((r : Answer) → Applies w a r v → P r) → IfOk x (λ r. Applies w a r v) → IfOk x P
  applied a P (Ok r) gives s = gives r s
  applied a P (Err f) gives s = tt
