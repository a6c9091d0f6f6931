-- What clients at a site know, and the causes of what the site made and showed, is known at the site.
use Rattle.std.specs.Prelude.{◌≡◌, ◌⊎◌, ℕ, Bool, true, false, List, [], ◌∷◌, Option, Some, None, refl, ◌==◌, if◌then◌else◌}
use Rattle.std.proofs.Common.{sym, subst, inl, inr, ap, ◌∙◌}
use Rattle.std.proofs.lemmas.Bool.{eqb-true}
use Rattle.sat_label.proofs.Truth.{same-number}
use Rattle.sat_label.specs.declared.label.Label.{Label}
use Rattle.sat_act.specs.declared.act.Act.{Act}
use Rattle.sat_act.specs.declared.act.Act.TheVariants as act
use Rattle.sat_act.specs.declared.answer.Answer.{Answer}
use Rattle.sat_act.specs.declared.answer.Answer.TheVariants as ans
use Rattle.sat_act.specs.declared.entry.Entry.{Entry}
use Rattle.sat_act.specs.Deployed.{Deployed}
use Rattle.sat_act.specs.Histories.{listed}
use Rattle.sat_act.specs.Done.{made_in, of_client, is_at}
use Rattle.sat_label.specs.Order.{label_lt}
use Rattle.sat_act.specs.Parts.{seat, version, greatest_label, is_update_of, shown, shown_entry, waiting}
use Rattle.sat_act.specs.Runs.{IsRun}
use Rattle.sat_act.specs.Causes.{Client, Knows, Past, Cause, Learned, LearnedBy}
use Rattle.sat_laws.proofs.Known.{SiteKnows, SiteLearned}
use Rattle.sat_act.specs.Goals.{Gives, Made, Shows, IsValid}
use Rattle.sat_laws.proofs.Steps.{Step, moved, left, attached, read_some}
use Rattle.sat_laws.proofs.Runs.{step_of, before_of, entry}
use Rattle.sat_laws.proofs.Labels.{some_is, Making, making, chosen}
use Rattle.sat_laws.proofs.Members.{listed-gives}
use Rattle.sat_laws.proofs.Knowledge.{cause-stays, cause-new}
use Rattle.sat_laws.proofs.Shows.{waits, brings-for, shows-is, Showing, showing, by_write, by_turn, by_stamp}
use Rattle.sat_label.specs.Members.{In}

-- the version of an item was shown
greatest-step : (p : Label → Bool) (x l : Label) (ls : List Label) (b : Bool) (o : Option Label) → ((m : Label) → o ≡ Some m → In ls m) →
    (if b then elim o [ None ↦ Some x | Some m ↦ if label_lt m x then Some x else Some m ] else o) ≡ Some l → In (x ∷ ls) l
greatest-step p x l ls false o old e = inr (old l e)
greatest-step p x l ls true None old e = inl (some_is x l e)
greatest-step p x l ls true (Some m) old e = go (label_lt m x) e
  where
    go : (c : Bool) → (if c then Some x else Some m) ≡ Some l → In (x ∷ ls) l
    go true e = inl (some_is x l e)
    go false e = inr (subst (λ (y : Label). In ls y) (some_is m l e) (old m refl))

greatest-in : (p : Label → Bool) (ls : List Label) (l : Label) → greatest_label p ls ≡ Some l → In ls l
unfolding greatest_label
greatest-in p [] l e = absurd (cc)
greatest-in p (x ∷ ls) l e = greatest-step p x l ls (p x) (greatest_label p ls) (greatest-in p ls) e

pub version-shown : (h : List Entry) (j x : ℕ) (l : Label) → version h j x ≡ Some l → Shows h j l
unfolding version shown
version-shown h j x l e = listed-gives (shown_entry j) h l (greatest-in (λ m. is_update_of m.kind x) (listed (shown_entry j) h) l e)

greatest-passes : (p : Label → Bool) (ls : List Label) (l : Label) → greatest_label p ls ≡ Some l → p l ≡ true
unfolding greatest_label
greatest-passes p [] l e = absurd (cc)
greatest-passes p (m ∷ ls) l e = go (λ k v. greatest-passes p ls k v) (p m) refl (greatest_label p ls) refl e
  where
    better : (b : Bool) (k : Label) → p m ≡ true → p k ≡ true → (if b then Some m else Some k) ≡ Some l → p l ≡ true
    better true k u v e = subst (λ (y : Label). p y ≡ true) (some_is m l e) u
    better false k u v e = subst (λ (y : Label). p y ≡ true) (some_is k l e) v

    go : ((k : Label) → greatest_label p ls ≡ Some k → p k ≡ true) → (b : Bool) → p m ≡ b → (o : Option Label) → greatest_label p ls ≡ o → (if b then elim o [ None ↦ Some m | Some k ↦ if label_lt k m then Some m else Some k ] else o) ≡ Some l → p l ≡ true
    go old true u None v e = subst (λ (y : Label). p y ≡ true) (some_is m l e) u
    go old true u (Some k) v e = better (label_lt k m) k u (old k v) e
    go old false u o v e = old l (v ∙ e)

-- a version is an update that has its item
pub version-kind : (h : List Entry) (j x : ℕ) (l : Label) → version h j x ≡ Some l → is_update_of l.kind x ≡ true
unfolding version shown
version-kind h j x l e = greatest-passes (λ m. is_update_of m.kind x) (listed (shown_entry j) h) l e

-- what is known of a site's clients and labels
pub record IsKnown (d : Deployed) (h : List Entry) (j : ℕ) : Type 0 where
  pub clients : (c : ℕ) (a : Label) → seat d h c ≡ Some j → Past h c a → SiteKnows h j a
  pub shown : (b a : Label) → Shows h j b → (b ≡ a) ⊎ Cause h b a → SiteKnows h j a
  pub made : (b a : Label) → Made h b → b.point.site ≡ j → Cause h b a → SiteKnows h j a

learned-write : (h : List Entry) (a : Act) (r : Answer) (j : ℕ) (b l : Label) → r ≡ ans.Wrote b → b.point.site ≡ j → b ≡ l → SiteLearned h a r j l
learned-write h a r j b l e s k = subst (λ (y : Answer). SiteLearned h a y j l) (sym e) (s, k)

learned-shown : (h : List Entry) (a : Act) (r : Answer) (j : ℕ) (b l : Label) → r ≡ ans.Shown b → is_at a j ≡ true → (b ≡ l) ⊎ Cause h b l → SiteLearned h a r j l
learned-shown h a r j b l e s k = subst (λ (y : Answer). SiteLearned h a y j l) (sym e) (s, k)

learned-attach : (h : List Entry) (a : Act) (r : Answer) (j c : ℕ) (l : Label) → r ≡ ans.Attached → a ≡ act.Attach c j → Past h c l → SiteLearned h a r j l
learned-attach h a r j c l e s k = subst (λ (y : Answer). SiteLearned h a y j l) (sym e) (c, s, k)

turn-at : (a : Act) (j : ℕ) → a ≡ act.Turn j → is_at a j ≡ true
turn-at a j e = subst (λ (y : Act). is_at y j ≡ true) (sym e) (same-number j)

stamp-at : (a : Act) (j : ℕ) → a ≡ act.Stamp j → is_at a j ≡ true
stamp-at a j e = subst (λ (y : Act). is_at y j ≡ true) (sym e) (same-number j)

left_or : (b : Bool) (o : Option ℕ) (j : ℕ) → elim (if b then Some None else None) [ None ↦ o | Some z ↦ z ] ≡ Some j → o ≡ Some j
left_or true o j e = absurd (cc)
left_or false o j e = e

-- a client comes to a site by an attach alone
seat-change : (d : Deployed) (h : List Entry) (c j : ℕ) (a : Act) (r : Answer) (n : Bool) → Step d h a r → seat d (entry a r n ∷ h) c ≡ Some j → (seat d h c ≡ Some j) ⊎ ((r ≡ ans.Attached) × (a ≡ act.Attach c j))
unfolding seat
seat-change d h c j a r n (attached {c = b} {j = k} p q) =
    chosen (λ (o : Option ℕ). o ≡ Some j → (seat d h c ≡ Some j) ⊎ ((ans.Attached ≡ ans.Attached) × (act.Attach b k ≡ act.Attach c j))) (b == c) (Some k) (seat d h c)
    (λ t e. inr (refl, ap (λ (y : ℕ). act.Attach y k) (eqb-true b c t) ∙ ap (λ (y : ℕ). act.Attach c y) (some_is k j e))) (λ _ e. inl e)
seat-change d h c j a r n (moved {c = b} p q w) = λ e. inl (left_or (b == c) (seat d h c) j e)
seat-change d h c j a r n (left {c = b} p) = λ e. inl (left_or (b == c) (seat d h c) j e)
seat-change d h c j a r n _ = λ e. inl e

-- a client reads what its site showed
pub reads : (d : Deployed) (h : List Entry) (c j : ℕ) (l : Label) (w : List ℕ) (a : Act) (r : Answer) → Step d h a r → of_client a ≡ Some c → seat d h c ≡ Some j → r ≡ ans.ReadSome l w → Shows h j l
reads d h c j l w a r (read_some {c = b} {x = x} {i = i} {l = m} p q k) o s e =
    let y : b ≡ c = some_is b c o in
    let z : i ≡ j = some_is i j (sym p ∙ ap (λ (n : ℕ). seat d h n) y ∙ s) in
    let t : m ≡ l = cc in
    subst (λ (n : ℕ). Shows h n l) z (subst (λ (n : Label). Shows h i n) t (version-shown h i x m k))
reads d h c j l w a r _ o s e = absurd (cc)

module _ (d : Deployed) (h : List Entry) (x : Entry) (j : ℕ) (v : IsValid d) (run : IsRun d (x ∷ h)) (old : IsKnown d h j) where
  known-shown : (b a : Label) → Shows (x ∷ h) j b → (b ≡ a) ⊎ Cause (x ∷ h) b a → SiteKnows (x ∷ h) j a
  unfolding Gives SiteKnows
  known-shown b a (inl s) (inl e) = inl (old.shown b a s (inl e))
  known-shown b a (inl s) (inr k) = inl (old.shown b a s (inr (cause-stays d h x b a v run (shows-is d h j b (before_of d h x run) s).made k)))
  known-shown b a (inr s) e = go (showing d h j b x.act x.answer x.inner (step_of d h x run) s) e
    where
      waited : In (waiting h j) b → (b ≡ a) ⊎ Cause (x ∷ h) b a → (b ≡ a) ⊎ Cause h b a
      waited w (inl e) = inl e
      waited w (inr k) = inr (cause-stays d h x b a v run (brings-for d h j b (before_of d h x run) (waits h j b w).0).made k)

      go : Showing d h j b x.act x.answer → (b ≡ a) ⊎ Cause (x ∷ h) b a → SiteKnows h j a ⊎ SiteLearned h x.act x.answer j a
      go (by_write y m r st k p) (inl e) = inr (learned-write h x.act x.answer j b a r st e)
      go (by_write y m r st k p) (inr e) =
          let w : Making d h x.act b = making d h x.act x.answer b v (step_of d h x run) m in
          inl (old.clients w.client a (w.seated ∙ ap (λ (i : ℕ). Some i) st) (cause-new d h x b a w.client v run m w.is_client e))
      go (by_turn q r w) e = inr (learned-shown h x.act x.answer j b a r (turn-at x.act j q) (waited w e))
      go (by_stamp q r t w) e = inr (learned-shown h x.act x.answer j b a r (stamp-at x.act j q) (waited w e))

  known-made : (b a : Label) → Made (x ∷ h) b → b.point.site ≡ j → Cause (x ∷ h) b a → SiteKnows (x ∷ h) j a
  unfolding Gives SiteKnows
  known-made b a (inl m) e k = inl (old.made b a m e (cause-stays d h x b a v run m k))
  known-made b a (inr m) e k =
      let w : Making d h x.act b = making d h x.act x.answer b v (step_of d h x run) m in
      inl (old.clients w.client a (w.seated ∙ ap (λ (i : ℕ). Some i) e) (cause-new d h x b a w.client v run m w.is_client k))

  known-clients : (c : ℕ) (a : Label) → seat d (x ∷ h) c ≡ Some j → Past (x ∷ h) c a → SiteKnows (x ∷ h) j a
  unfolding Knows SiteKnows
  known-clients c a s k = go (seat-change d h c j x.act x.answer x.inner (step_of d h x run) s) k
    where
      learned : seat d h c ≡ Some j → of_client x.act ≡ Some c → (r : Answer) → x.answer ≡ r → LearnedBy r a (λ w. Knows h w a) → SiteKnows h j a ⊎ SiteLearned h x.act x.answer j a
      learned t o (ans.Wrote b) e q =
          let w : Making d h x.act b = making d h x.act x.answer b v (step_of d h x run) (ap made_in e) in
          let y : w.client ≡ c = some_is w.client c (sym w.is_client ∙ o) in
          let z : b.point.site ≡ j = some_is b.point.site j (sym w.seated ∙ ap (λ (n : ℕ). seat d h n) y ∙ t) in
          inr (learned-write h x.act x.answer j b a e z q)
      learned t o (ans.ReadSome l w) e q = inl (old.shown l a (reads d h c j l w x.act x.answer (step_of d h x run) o t e) q)
      learned t o _ e q = absurd q

      go : (seat d h c ≡ Some j) ⊎ ((x.answer ≡ ans.Attached) × (x.act ≡ act.Attach c j)) → Knows h (Client c) a ⊎ Learned x (Client c) a (λ w. Knows h w a) → SiteKnows h j a ⊎ SiteLearned h x.act x.answer j a
      go (inl t) (inl k) = inl (old.clients c a t k)
      go (inl t) (inr k) = learned t k.0 x.answer refl k.1
      go (inr t) (inl k) = inr (learned-attach h x.act x.answer j c a t.0 t.1 k)
      go (inr t) (inr k) = absurd (subst (λ (r : Answer). LearnedBy r a (λ w. Knows h w a)) t.0 k.1)

pub known : (d : Deployed) (h : List Entry) (j : ℕ) → IsValid d → IsRun d h → IsKnown d h j
unfolding Knows Gives
known d [] j v run = record { clients = λ c a s k. absurd k; shown = λ b a s k. absurd s; made = λ b a m e k. absurd m }
known d (x ∷ h) j v run =
    let old : IsKnown d h j = known d h j v (before_of d h x run) in
    record { clients = known-clients d h x j v run old; shown = known-shown d h x j v run old; made = known-made d h x j v run old }
