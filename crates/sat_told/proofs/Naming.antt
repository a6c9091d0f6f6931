-- The entries of a run name labels well, so what it told has three yeses.
use Rattle.std.specs.Prelude.{◌≡◌, ℕ, Bool, List, [], ◌∷◌, Some, refl}
use Rattle.std.proofs.Common.{sym, subst, inl, inr}
use Rattle.sat_label.specs.declared.label.Label.{Label}
use Rattle.sat_label.specs.Members.{In}
use Rattle.sat_label.proofs.Members.{has-in}
use Rattle.sat_act.specs.declared.act.Act.{Act}
use Rattle.sat_act.specs.declared.answer.Answer.{Answer}
use Rattle.sat_act.specs.declared.entry.Entry.{Entry}
use Rattle.sat_act.specs.Deployed.{Deployed}
use Rattle.sat_act.specs.Goals.{Gives, Made}
use Rattle.sat_act.specs.Headline.{IsGood}
use Rattle.sat_act.specs.Parts.{waiting}
use Rattle.sat_act.specs.Runs.{IsRun}
use Rattle.sat_laws.proofs.Headlines.{good}
use Rattle.sat_laws.proofs.Labels.{made-new, made-point, some_is}
use Rattle.sat_laws.proofs.Runs.{before_of, step_of, entry}
use Rattle.sat_laws.proofs.Shows.{brings-for, candidate-least, next-stamp-waits, shows-is, waits}
use Rattle.sat_laws.proofs.Sites.{version-shown}
use Rattle.sat_laws.proofs.Steps.{Step, wrote, read_none, read_some, moved, showed_turn, showed_stamp}
use Rattle.sat_told.specs.Laws.{EveryRunIsJudgedGood, RunsNameLabelsWell}
use Rattle.sat_told.specs.Telling.{named_in, FitsAct, AreNamedWell}
use Rattle.sat_told.proofs.Judging.{laws-are-one}

fits : (d : Deployed) (h : List Entry) (a : Act) (r : Answer) → Step d h a r → FitsAct a r
fits d h a r (wrote {w = w} z p q b) = (w, z, refl)
fits d h a r (read_none s q e) = refl
fits d h a r (read_some s q e) = refl
fits d h a r (moved {c = c} {j = j} p q b) = (c, j, refl, refl)
fits d h a r (showed_turn m p s w u k) = refl
fits d h a r (showed_stamp m s) = refl
fits d h a r _ = tt

-- what waits was made
waiting-made : (d : Deployed) (h : List Entry) (j : ℕ) (l : Label) → IsRun d h → In (waiting h j) l → Made h l
waiting-made d h j l run i = (brings-for d h j l run (waits h j l i).0).made

made-as : (h : List Entry) (l m : Label) → Made h m → Some m ≡ Some l → Made h l
made-as h l m made e = subst (λ (y : Label). Made h y) (some_is m l e) made

named-made : (d : Deployed) (h : List Entry) (a : Act) (r : Answer) (n : Bool) (l : Label) → IsRun d h → Step d h a r → named_in r ≡ Some l → Made (entry a r n ∷ h) l
unfolding Gives
named-made d h a r n l run (wrote z p q b) e = inr e
named-made d h a r n l run (moved p q b) e = inr e
named-made d h a r n l run (read_some {x = x} {i = i} {l = m} s q v) e = inl (made-as h l m (shows-is d h i m run (version-shown h i x m v)).made e)
named-made d h a r n l run (showed_turn {j = j} {l = m} k p s w u y) e = inl (made-as h l m (waiting-made d h j m run (has-in (waiting h j) m y)) e)
named-made d h a r n l run (showed_stamp {j = j} {l = m} k s) e =
    inl (made-as h l m (waiting-made d h j m run (candidate-least d h j m (next-stamp-waits d h j m s).0).member) e)
named-made d h a r n l run _ e = absurd (cc)

pub runs-name : RunsNameLabelsWell
unfolding AreNamedWell Gives
runs-name d [] v run = tt
runs-name d (e ∷ h) v run = (
  runs-name d h v (before_of d h e run),
  record {
    fits = fits d h e.act e.answer (step_of d h e run);
    made = λ l q. named-made d h e.act e.answer e.inner l (before_of d h e run) (step_of d h e run) q;
    own = λ l m a b s. made-new d h e l v run a (subst (λ (y : Label). Made h y) (sym (made-point d (e ∷ h) l m v run (inr a) (inl b) s)) b);
  },
)

pub judged-good : EveryRunIsJudgedGood
judged-good d h v t run =
    let g : IsGood d h = good d h v t run in
    let laws = laws-are-one d h (runs-name d h v run) in
    record { causal = laws.0.0 g.causal; once = laws.1.0 g.once; fresh = laws.2.0 g.fresh }
