-- Every act keeps what the headline rests on.
use Rattle.std.specs.Prelude.{◌≡◌, ◌⊎◌, ◌<◌, ◌≤◌, ℕ, ◌+◌, Bool, true, false, List, [], ◌∷◌, Option, Some, None, refl, ◌==◌, if◌then◌else◌}
use Rattle.std.proofs.Common.{sym, subst, arith, inl, inr, ap, ◌∙◌}
use Rattle.std.proofs.lemmas.Bool.Decides.{nat_tests}
use Rattle.std.proofs.lemmas.Bool.{cases_eq}
use Rattle.sat_label.specs.declared.label.Label.{Label}
use Rattle.sat_label.specs.declared.node.NodeId.{NodeId}
use Rattle.sat_label.specs.declared.node.NodeId.TheVariants.{Site}
use Rattle.sat_tree.specs.Shape.{TreeShape}
use Rattle.sat_tree.specs.Cut.{is_edge}
use Rattle.sat_act.specs.declared.act.Act.{Act}
use Rattle.sat_act.specs.declared.answer.Answer.{Answer}
use Rattle.sat_act.specs.declared.entry.Entry.{Entry}
use Rattle.sat_act.specs.Deployed.{Deployed}
use Rattle.sat_act.specs.Parts.{handling, tree_of, link_front, emission, sent_entry}
use Rattle.sat_act.specs.Answers.{InRange}
use Rattle.sat_act.specs.Runs.{IsRun}
use Rattle.sat_act.specs.Causes.{Cause}
use Rattle.sat_act.specs.Goals.{Gives, IsValid}
use Rattle.sat_laws.proofs.Steps.{Step}
use Rattle.sat_laws.proofs.Runs.{step_of, before_of, range_of, entry}
use Rattle.sat_laws.proofs.Gears.{split_le}
use Rattle.sat_laws.proofs.Cuts.{sent-site}
use Rattle.sat_laws.proofs.Handlings.{handled_as}
use Rattle.sat_laws.proofs.Sinks.{Sent}
use Rattle.sat_laws.proofs.Links.{AllCuttable, HandledFrom, SentIn, Behind, Ahead}
use Rattle.sat_act.specs.declared.act.Act.TheVariants as act
use Rattle.sat_act.specs.declared.answer.Answer.TheVariants as ans
use Rattle.sat_act.specs.Parts.{shown_entry, view}
use Rattle.sat_act.specs.Goals.{Shows, IsKeptAt}
use Rattle.sat_laws.proofs.Steps.{showed_turn}
use Rattle.sat_laws.proofs.Order.{sent-in}
use Rattle.sat_laws.proofs.Sendings.{emission-rises}
use Rattle.sat_laws.proofs.Handlings.{seat-edge}
use Rattle.sat_act.specs.Causes.{Maker, Knows}
use Rattle.sat_act.specs.Goals.{Made}
use Rattle.sat_laws.proofs.Labels.{made-kind, made-new, Making, making, IsPlaced, made-placed}
use Rattle.sat_laws.proofs.Sendings.{close-seq}
use Rattle.sat_laws.proofs.Knowledge.{cause-made}
use Rattle.sat_laws.proofs.Arrivals.{sent-epoch, epoch-bound, one-epoch}
use Rattle.sat_act.specs.Parts.{in_stamp_mode}
use Rattle.sat_laws.proofs.Written.{item-made}
use Rattle.sat_laws.proofs.Views.{Turning, turning-of, stays, closes, falls, advances, view-rises, abreast}
use Rattle.sat_laws.proofs.Arrivals.{handled-sent-in, self-ahead}
use Rattle.sat_laws.proofs.Order.{behind-first}
use Rattle.sat_laws.proofs.Origins.{sent-made}
use Rattle.sat_act.specs.Parts.{may_attach, all_others}
use Rattle.sat_laws.proofs.Known.{SiteKnows, SiteLearned}
use Rattle.sat_act.specs.Answers.{may_advance, took_close}
use Rattle.sat_laws.proofs.Steps.{attached, showed_stamp}
use Rattle.sat_laws.proofs.Order.{SentAhead}
use Rattle.sat_laws.proofs.Sites.{known}
use Rattle.sat_laws.proofs.Shows.{Showing, showing, by_write, by_turn, by_stamp, own-shown, waits, brings-for}
use Rattle.sat_laws.proofs.Arrivals.{arrives-shown, kept-update}
use Rattle.sat_laws.proofs.Knowledge.{knows-below}
use Rattle.sat_laws.proofs.Origins.{knows-made, made-behind, emits, ready-made}
use Rattle.sat_act.specs.Done.{is_at}
use Rattle.sat_act.specs.Goals.{Causal}
use Rattle.sat_laws.proofs.Knowledge.{cause-stays, cause-new, cause-made}
use Rattle.sat_laws.proofs.Cuts.{lower-sent}
use Rattle.sat_laws.proofs.Order.{in-order-step}
use Rattle.sat_laws.proofs.Origins.{sent-made}
use Rattle.sat_laws.proofs.Views.{sends-view}
use Rattle.sat_laws.proofs.Handlings.{seat-is, seat-edge}
use Rattle.sat_laws.proofs.Steps.{showed_turn}
use Rattle.sat_laws.proofs.Arrivals.{self-ahead}
use Rattle.sat_laws.proofs.Closes.{TookClose, took-close, close-epoch}
use Rattle.sat_laws.proofs.Safety.{fallen-now, sent-later, IsSafe, Main, StampRules, attach-safe, turn-safe, stamp-safe, any-safe, safe-later, others-pass, sent-old}
use Rattle.sat_label.specs.Members.{is_made}
use Rattle.sat_label.proofs.Orders.{ts-lt}

record TurnNow (d : Deployed) (h : List Entry) (j : ℕ) (b : Label) (x : Entry) : Type 0 where
  pub tree : TreeShape
  pub from : NodeId
  pub is_tree : tree_of d (view h j) ≡ Some tree
  pub edge : is_edge tree from (Site j) ≡ true
  pub front : link_front d h (view h j) tree from (Site j) ≡ Some b
  pub handled : handling d h x ≡ Some (handled_as (view h j) (Site j) (Some from) b)

turn-now : (d : Deployed) (h : List Entry) (a : Act) (r : Answer) (n : Bool) (j : ℕ) (b : Label) → Step d h a r → a ≡ act.Turn j → r ≡ ans.Shown b → TurnNow d h j b (entry a r n)
unfolding handling
turn-now d h a r n j b (showed_turn {j = k} {t = t} {z = z} {l = l} m p s w u c) e f =
    let kj : k ≡ j = cc in
    let lb : l ≡ b = cc in
    record {
      tree = t;
      from = z;
      is_tree = subst (λ (y : ℕ). tree_of d (view h y) ≡ Some t) kj p;
      edge = subst (λ (y : ℕ). is_edge t z (Site y) ≡ true) kj (subst (λ (y : NodeId). is_edge t y (Site k) ≡ true) (sym (seat-is d (view h k) k t z p s)) (seat-edge t k));
      front = subst (λ (y : ℕ). link_front d h (view h y) t z (Site y) ≡ Some b) kj (w ∙ ap (λ (y : Label). Some y) lb);
      handled = ap (λ (o : Option NodeId). Some (handled_as (view h k) (Site k) o l)) s ∙ (λ i. Some (handled_as (view h (kj i)) (Site (kj i)) (Some z) (lb i)));
    }
turn-now d h a r n j b _ e f = absurd (cc)

stamp-now : (d : Deployed) (h : List Entry) (a : Act) (r : Answer) (j : ℕ) (b : Label) → Step d h a r → a ≡ act.Stamp j → r ≡ ans.Shown b → in_stamp_mode d h j ≡ true
stamp-now d h a r j b (showed_stamp {j = k} m s) e f = let kj : k ≡ j = cc in subst (λ (y : ℕ). in_stamp_mode d h y ≡ true) kj m
stamp-now d h a r j b _ e f = absurd (cc)

attach-now : (d : Deployed) (h : List Entry) (a : Act) (r : Answer) (c j : ℕ) → Step d h a r → a ≡ act.Attach c j → r ≡ ans.Attached → may_attach d h c j ≡ true
attach-now d h a r c j (attached {c = b} {j = k} s m) e f = let bc : b ≡ c = cc in let kj : k ≡ j = cc in subst (λ (y : ℕ). may_attach d h c y ≡ true) kj (subst (λ (y : ℕ). may_attach d h y k ≡ true) bc m)
attach-now d h a r c j _ e f = absurd (cc)

wrote-entry : (h : List Entry) (a : Act) (r : Answer) (n : Bool) (j : ℕ) (b : Label) → r ≡ ans.Wrote b → b.point.site ≡ j → shown_entry j h (entry a r n) ≡ Some b
wrote-entry h a r n j b e s = subst (λ (y : Answer). shown_entry j h (entry a y n) ≡ Some b) (sym e) (give (b.point.site == j) b (same b.point.site j s))
  where
    same : (m n : ℕ) → m ≡ n → (m == n) ≡ true
    same m n e = grind (arith, nat_tests)

    give : (t : Bool) (l : Label) → t ≡ true → (if t then Some l else None) ≡ Some l
    give true l e = refl
    give false l e = absurd (cc)

shown-entry : (h : List Entry) (a : Act) (r : Answer) (n : Bool) (j : ℕ) (b : Label) → r ≡ ans.Shown b → is_at a j ≡ true → shown_entry j h (entry a r n) ≡ Some b
shown-entry h a r n j b e s = subst (λ (y : Answer). shown_entry j h (entry a y n) ≡ Some b) (sym e) (give (is_at a j) b s)
  where
    give : (t : Bool) (l : Label) → t ≡ true → (if t then Some l else None) ≡ Some l
    give true l e = refl
    give false l e = absurd (cc)

module _ (d : Deployed) (h : List Entry) (x : Entry) (v : IsValid d) (cuts : AllCuttable d) (run : IsRun d (x ∷ h)) (inv : Main d h) where
  emitted-made : (i : ℕ) (b : Label) → sent_entry i h x ≡ Some b → is_made b.kind ≡ true → Made h b
  emitted-made i b s m = ready-made d h i b (emits d h x i b run s m)

  -- what a label's causes are when it is sent: sent earlier, in no later epoch
  cause-now : (i : ℕ) (b a : Label) → sent_entry i h x ≡ Some b → Cause h b a → Made h b → Behind (x ∷ h) (emission h i) a b ⊎ ((f : ℕ) × (f < emission h i) × SentIn h a.point.site f a)
  unfolding Behind Gives
  cause-now i b a s c m =
      let site : b.point.site ≡ i = sent-site d (x ∷ h) i b run (inr s) in
      let pl : IsPlaced d h b = made-placed d h b v (before_of d h x run) m in
      let at : i < d.sites = subst (λ (k : ℕ). k < d.sites) site pl.site in
      let known_a : SiteKnows h i a = (known d h i v (before_of d h x run)).made b a m site c in
      elim (inv.safe i a at known_a).placed [ inl e ↦ own e site | inr w ↦ other w ]
    where
      by-epoch : (f : ℕ) → f ≤ emission h i → SentIn h a.point.site f a → Cause h b a ⊎ (a.point.site ≡ i) → Behind (x ∷ h) (emission h i) a b ⊎ ((f : ℕ) × (f < emission h i) × SentIn h a.point.site f a)
      by-epoch f le z w =
          elim (split_le f (emission h i) le) [
            | inl same ↦ inl (inr (i, s, refl, subst (λ (e : ℕ). SentIn h a.point.site e a) same z, w))
            | inr lt ↦ inr (f, lt, z)
          ]

      other : (f : ℕ) × (f ≤ view h i) × SentIn h a.point.site f a → Behind (x ∷ h) (emission h i) a b ⊎ ((f : ℕ) × (f < emission h i) × SentIn h a.point.site f a)
      other w =
          let le : w.0 ≤ view h i = w.1 in
          let lo : view h i ≤ emission h i = (abreast d h i (before_of d h x run)).low in
          by-epoch w.0 (omega arith) w.2 (inl c)

      own : a.point.site ≡ i → b.point.site ≡ i → Behind (x ∷ h) (emission h i) a b ⊎ ((f : ℕ) × (f < emission h i) × SentIn h a.point.site f a)
      own e site =
          let t : a.point.ts < b.point.ts = knows-below d h (Maker b) a v (before_of d h x run) c in
          let w : Sent h i a = lower-sent d h i a b v (before_of d h x run) (knows-made d h (Maker b) a (before_of d h x run) c) e (ts-lt a.point b.point t) (emits d h x i b run s (made-kind d h b v (before_of d h x run) m)) in
          let f : (f : ℕ) × SentIn h i f a = sent-epoch h i a w in
          by-epoch f.0 (epoch-bound h i f.0 a f.1) (subst (λ (k : ℕ). SentIn h k f.0 a) (sym e) f.1) (inr e)

  cause-step : (i e : ℕ) (b a : Label) → SentIn (x ∷ h) i e b → Cause (x ∷ h) b a → Behind (x ∷ h) e a b ⊎ ((f : ℕ) × (f < e) × SentIn (x ∷ h) a.point.site f a)
  unfolding SentIn Behind
  cause-step i e b a (inl s) c =
      let k : is_made b.kind ≡ true = made-kind d (x ∷ h) b v run (cause-made (x ∷ h) b a c) in
      let m : Made h b = sent-made d h i b (before_of d h x run) (sent-in h i e b s) k in
      elim (inv.cause i e b a s (cause-stays d h x b a v run m c)) [ inl w ↦ inl (inl w) | inr w ↦ inr (w.0, w.1, inl w.2) ]
  cause-step i e b a (inr s) c =
      let k : is_made b.kind ≡ true = made-kind d (x ∷ h) b v run (cause-made (x ∷ h) b a c) in
      let m : Made h b = emitted-made i b s.0 k in
      let q : Behind (x ∷ h) (emission h i) a b ⊎ ((f : ℕ) × (f < emission h i) × SentIn h a.point.site f a) = cause-now i b a s.0 (cause-stays d h x b a v run m c) m in
      elim q [
        | inl w ↦ inl (subst (λ (f : ℕ). Behind (x ∷ h) f a b) s.1 w)
        | inr w ↦ inr (w.0, subst (λ (f : ℕ). w.0 < f) s.1 w.1, inl w.2)
      ]

  -- what a site knows is ahead of what it sends
  sent-step : SentAhead d (x ∷ h)
  unfolding SentAhead Gives
  sent-step = (
    inv.sent,
    λ i l a t s k z c other.
        let m : Made h l = cause-made h l a c in
        let site : l.point.site ≡ i = sent-site d (x ∷ h) i l run (inr s) in
        let pl : IsPlaced d h l = made-placed d h l v (before_of d h x run) m in
        (inv.safe i a (subst (λ (n : ℕ). n < d.sites) site pl.site) ((known d h i v (before_of d h x run)).made l a m site c)).ahead t other k z,
  )

  -- an entry that sends a made label turns no view
  emit-view : (i j : ℕ) (l : Label) → sent_entry i h x ≡ Some l → is_made l.kind ≡ true → view (x ∷ h) j ≡ view h j
  emit-view i j l s m = sends-view d h i j l x.act x.answer x.inner (step_of d h x run) s

  -- an epoch that a site passed was closed by all
  tree-closed : (i j : ℕ) → took_close h j i (view h j) ≡ true → view h j < emission h i
  tree-closed i j e =
      let c : TookClose d h j i (view h j) = took-close d h j i (view h j) (before_of d h x run) e in
      close-seq d h i (view h j) c.label v (before_of d h x run) (subst (λ (k : ℕ). Sent h k c.label) c.site (sent-in h c.label.point.site c.epoch c.label (handled-sent-in d h c.epoch (Site j) (Some c.from) c.label (before_of d h x run) c.handled))) c.kind

  mode-cases : (j : ℕ) → may_advance d h j ≡ true → (in_stamp_mode d h j ≡ true) ⊎ (all_others d j (λ i. took_close h j i (view h j)) ≡ true)
  unfolding may_advance
  mode-cases j m = go (in_stamp_mode d h j) _ (all_others d j (λ i. took_close h j i (view h j))) refl m
    where
      go : (b y z : Bool) → in_stamp_mode d h j ≡ b → (if b then y else z) ≡ true → (in_stamp_mode d h j ≡ true) ⊎ (z ≡ true)
      go true y z w e = inl w
      go false y z w e = inr e

  closed-now : StampRules d → (j i : ℕ) → j < d.sites → i < d.sites → (emission h j ≡ view h j → ⊥) → may_advance d h j ≡ true → view h j < emission h i
  closed-now rules j i bj bi q m = elim (cases_eq i j) [ inl s ↦ subst (λ (k : ℕ). view h j < emission h k) (sym s) own | inr n ↦ other n (mode-cases j m) ]
    where
      own : view h j < emission h j
      own = let lo : view h j ≤ emission h j = (abreast d h j (before_of d h x run)).low in grind arith

      other : (i ≡ j → ⊥) → (in_stamp_mode d h j ≡ true) ⊎ (all_others d j (λ i. took_close h j i (view h j)) ≡ true) → view h j < emission h i
      other n (inl w) = (rules.advances h j (before_of d h x run) inv bj w m i bi n).0
      other n (inr w) = tree-closed i j (others-pass d j i (λ i. took_close h j i (view h j)) w bi n)

  closed-step : StampRules d → (j i e : ℕ) → j < d.sites → i < d.sites → e < view (x ∷ h) j → e < emission (x ∷ h) i
  closed-step rules j i e bj bi lt = go (turning-of d h x j run)
    where
      up : emission h i ≤ emission (x ∷ h) i
      up = emission-rises h x i

      old : e < view h j → e < emission (x ∷ h) i
      old w = let y : e < emission h i = inv.closed j i e bj bi w in let z : emission h i ≤ emission (x ∷ h) i = up in omega arith

      go : Turning d h x j → e < emission (x ∷ h) i
      go (stays p m f) = old (omega arith)
      go (closes p m f q) = old (omega arith)
      go (falls p m q) = old (omega arith)
      go (advances p m f q y w) =
          elim (split_le e (view h j) (omega arith)) [
            | inl s ↦ let z : view h j < emission h i = closed-now rules j i bj bi q w in let u : emission h i ≤ emission (x ∷ h) i = up in omega arith
            | inr lt ↦ old lt
          ]

  -- and all that it is to show of it was shown
  tree-below : (i j : ℕ) (a : Label) → j < d.sites → took_close h j i (view h j) ≡ true → SentIn h i (view h j) a → IsKeptAt d j a → (a.point.site ≡ j → ⊥) → Shows h j a
  tree-below i j a bj e s k n =
      let c : TookClose d h j i (view h j) = took-close d h j i (view h j) (before_of d h x run) e in
      let z : SentIn h c.label.point.site c.epoch c.label = handled-sent-in d h c.epoch (Site j) (Some c.from) c.label (before_of d h x run) c.handled in
      let y : SentIn h i c.epoch c.label = subst (λ (m : ℕ). SentIn h m c.epoch c.label) c.site z in
      let f : c.epoch ≡ view h j = close-epoch d h i c.epoch (view h j) c.label v (before_of d h x run) y c.kind in
      let q : Behind h (view h j) a c.label = made-behind d h i (view h j) a c.label v (before_of d h x run) s (sent-in h i c.epoch c.label y) c.kind (kept-made a k) in
      let t : tree_of d (view h j) ≡ Some c.tree = subst (λ (m : ℕ). tree_of d m ≡ Some c.tree) f c.is_tree in
      let hd : HandledFrom d h (view h j) (Site j) (Some c.from) c.label = subst (λ (m : ℕ). HandledFrom d h m (Site j) (Some c.from) c.label) f c.handled in
      arrives-shown d h (view h j) c.tree j a cuts (before_of d h x run) t bj (inv.order.ahead (view h j) c.tree (Site j) c.label a t (Some c.from, hd) q) n k
    where
      kept-made : (a : Label) → IsKeptAt d j a → is_made a.kind ≡ true
      kept-made a k = item-made a.kind k.0 k.1

  below-now : StampRules d → (j i : ℕ) (a : Label) → j < d.sites → i < d.sites → may_advance d h j ≡ true → SentIn h i (view h j) a → IsKeptAt d j a → Shows h j a
  below-now rules j i a bj bi m s k =
      elim (cases_eq i j) [
        | inl e ↦ subst (λ (n : ℕ). Shows h n a) e (subst (λ (n : ℕ). Shows h n a) site (own-shown d h a (before_of d h x run) (sent-made d h i a (before_of d h x run) sent_a (kept-is-made a k)) (kept-update d j a k)))
        | inr n ↦ other n (mode-cases j m)
      ]
    where
      kept-is-made : (a : Label) → IsKeptAt d j a → is_made a.kind ≡ true
      kept-is-made a k = item-made a.kind k.0 k.1

      sent_a : Sent h i a
      sent_a = sent-in h i (view h j) a s

      site : a.point.site ≡ i
      site = sent-site d h i a (before_of d h x run) sent_a

      other : (i ≡ j → ⊥) → (in_stamp_mode d h j ≡ true) ⊎ (all_others d j (λ i. took_close h j i (view h j)) ≡ true) → Shows h j a
      other n (inl w) = (rules.advances h j (before_of d h x run) inv bj w m i bi n).1 a (view h j) (omega arith) s k
      other n (inr w) = tree-below i j a bj (others-pass d j i (λ i. took_close h j i (view h j)) w bi n) s k (λ e. n (sym site ∙ e))

  below-step : StampRules d → (j i e : ℕ) (a : Label) → j < d.sites → e < view (x ∷ h) j → SentIn (x ∷ h) i e a → IsKeptAt d j a → Shows (x ∷ h) j a
  unfolding SentIn Gives
  below-step rules j i e a bj lt (inr s) k =
      let mk : is_made a.kind ≡ true = item-made a.kind k.0 k.1 in
      let m : Made h a = emitted-made i a s.0 mk in
      let pl : IsPlaced d h a = made-placed d h a v (before_of d h x run) m in
      let site : a.point.site ≡ i = sent-site d (x ∷ h) i a run (inr s.0) in
      let bi : i < d.sites = subst (λ (n : ℕ). n < d.sites) site pl.site in
      let w : view (x ∷ h) j ≡ view h j = emit-view i j a s.0 mk in
      let c : e < emission h i = inv.closed j i e bj bi (omega arith) in
      let y : emission h i ≡ e = s.1 in
      absurd (omega arith)
  below-step rules j i e a bj lt (inl s) k = go (turning-of d h x j run)
    where
      mk : is_made a.kind ≡ true
      mk = item-made a.kind k.0 k.1

      bi : i < d.sites
      bi = let pl : IsPlaced d h a = made-placed d h a v (before_of d h x run) (sent-made d h i a (before_of d h x run) (sent-in h i e a s) mk) in subst (λ (n : ℕ). n < d.sites) (sent-site d h i a (before_of d h x run) (sent-in h i e a s)) pl.site

      old : e < view h j → Shows h j a ⊎ (shown_entry j h x ≡ Some a)
      old w = inl (inv.below j i e a bj w s k)

      go : Turning d h x j → Shows h j a ⊎ (shown_entry j h x ≡ Some a)
      go (stays p m f) = old (omega arith)
      go (closes p m f q) = old (omega arith)
      go (falls p m q) = old (omega arith)
      go (advances p m f q y w) =
          elim (split_le e (view h j) (omega arith)) [
            | inl z ↦ inl (below-now rules j i a bj bi w (subst (λ (n : ℕ). SentIn h i n a) z s) k)
            | inr z ↦ old z
          ]

  -- ---- what a site newly knows is safe

  stamp-shown : (j : ℕ) (b : Label) → j < d.sites → in_stamp_mode d h j ≡ true → (e : ℕ) × (e ≤ view h j) × SentIn h b.point.site e b → shown_entry j h x ≡ Some b → IsSafe d (x ∷ h) j b
  stamp-shown j b bj m s e = record {
    placed = inr (s.0, (let p : s.0 ≤ view h j = s.1 in let q : view h j ≤ view (x ∷ h) j = view-rises d h x j run in omega arith), sent-later d h x v cuts run inv b.point.site s.0 b s.2);
    ahead = λ t n k z.
        let o : s.0 ≡ emission (x ∷ h) j = one-epoch d h b.point.site s.0 (emission (x ∷ h) j) b v (before_of d h x run) s.2 (sent-old d h x v cuts run inv b.point.site s.0 (emission (x ∷ h) j) b s.2 z) in
        let lo : view h j ≤ emission h j = (abreast d h j (before_of d h x run)).low in
        let up : emission h j ≤ emission (x ∷ h) j = emission-rises h x j in
        let le : s.0 ≤ view h j = s.1 in
        let same : emission (x ∷ h) j ≡ view h j = omega arith in
        let fell : emission h j ≡ view h j + 1 = (abreast d h j (before_of d h x run)).fell (fallen-now d h j v cuts (before_of d h x run) inv bj t m (subst (λ (f : ℕ). tree_of d f ≡ Some t) same k)) in
        absurd (omega arith);
    shown = λ _. unfold Gives in inr e;
  }

  shown-safe : StampRules d → (j : ℕ) (b : Label) → j < d.sites → Showing d h j b x.act x.answer → shown_entry j h x ≡ Some b → IsSafe d (x ∷ h) j b
  shown-safe rules j b bj (by_write y m r st k p) e = record { placed = inl st; ahead = λ t n. absurd (n st); shown = λ _. unfold Gives in inr e }
  shown-safe rules j b bj (by_turn p q w) e =
      let f : TurnNow d h j b x = turn-now d h x.act x.answer x.inner j b (step_of d h x run) p q in
      let hd : HandledFrom d (x ∷ h) (view h j) (Site j) (Some f.from) b = unfold HandledFrom in inr f.handled in
      record {
        placed = inr (view h j, view-rises d h x j run, handled-sent-in d (x ∷ h) (view h j) (Site j) (Some f.from) b run hd);
        ahead = λ t n k z.
            let o : view h j ≡ emission (x ∷ h) j = one-epoch d (x ∷ h) b.point.site (view h j) (emission (x ∷ h) j) b v run (handled-sent-in d (x ∷ h) (view h j) (Site j) (Some f.from) b run hd) z in
            subst (λ (g : ℕ). Ahead d (x ∷ h) g t b (Site j)) o (self-ahead d (x ∷ h) (view h j) t (Site j) (Some f.from) b cuts run (subst (λ (g : ℕ). tree_of d g ≡ Some t) (sym o) k) hd);
        shown = λ _. unfold Gives in inr e;
      }
  shown-safe rules j b bj (by_stamp p q n w) e =
      let m : in_stamp_mode d h j ≡ true = stamp-now d h x.act x.answer j b (step_of d h x run) p q in
      let r : ((e : ℕ) × (e ≤ view h j) × SentIn h b.point.site e b) × ((a : Label) → Cause h b a → (a.point.site ≡ j → ⊥) → IsKeptAt d j a → Shows h j a) = rules.shows h j b (before_of d h x run) inv bj m n in
      stamp-shown j b bj m r.0 e

  cause-safe : StampRules d → (j : ℕ) (b a : Label) → j < d.sites → Showing d h j b x.act x.answer → Cause h b a → IsSafe d h j a
  cause-safe rules j b a bj (by_write y m r s k p) c = absurd (made-new d h x b v run m (cause-made h b a c))
  cause-safe rules j b a bj (by_turn p q w) c =
      let f : TurnNow d h j b x = turn-now d h x.act x.answer x.inner j b (step_of d h x run) p q in
      turn-safe d h j v cuts (before_of d h x run) inv bj f.tree f.from b a f.is_tree f.edge f.front c
  cause-safe rules j b a bj (by_stamp p q n w) c =
      let m : in_stamp_mode d h j ≡ true = stamp-now d h x.act x.answer j b (step_of d h x run) p q in
      let r : ((e : ℕ) × (e ≤ view h j) × SentIn h b.point.site e b) × ((a : Label) → Cause h b a → (a.point.site ≡ j → ⊥) → IsKeptAt d j a → Shows h j a) = rules.shows h j b (before_of d h x run) inv bj m n in
      any-safe d h j v cuts (before_of d h x run) inv bj a (knows-made d h (Maker b) a (before_of d h x run) c)
      (λ other. stamp-safe d h j v cuts (before_of d h x run) inv bj a m (earlier r.0) (r.1 a c other))
    where
      earlier : (e : ℕ) × (e ≤ view h j) × SentIn h b.point.site e b → (e : ℕ) × (e ≤ view h j) × SentIn h a.point.site e a
      earlier r =
          let le : r.0 ≤ view h j = r.1 in
          elim (inv.cause b.point.site r.0 b a r.2 c) [
            | inl w ↦ (r.0, r.1, behind-first h r.0 a b w)
            | inr w ↦ let lt : w.0 < r.0 = w.1 in (w.0, omega arith, w.2)
          ]

  -- what a site newly knows is safe
  learned-safe : StampRules d → (j : ℕ) (a : Label) → j < d.sites → SiteLearned h x.act x.answer j a → IsSafe d (x ∷ h) j a
  learned-safe rules j a bj k = go x.answer refl k
    where
      go : (r : Answer) → x.answer ≡ r → SiteLearned h x.act r j a → IsSafe d (x ∷ h) j a
      go (ans.Wrote b) e k =
          let q : shown_entry j h x ≡ Some b = wrote-entry h x.act x.answer x.inner j b e k.0 in
          subst (λ (l : Label). IsSafe d (x ∷ h) j l) k.1 (shown-safe rules j b bj (showing d h j b x.act x.answer x.inner (step_of d h x run) q) q)
      go (ans.Shown b) e k =
          let q : shown_entry j h x ≡ Some b = shown-entry h x.act x.answer x.inner j b e k.0 in
          let w : Showing d h j b x.act x.answer = showing d h j b x.act x.answer x.inner (step_of d h x run) q in
          elim k.1 [
            | inl same ↦ subst (λ (l : Label). IsSafe d (x ∷ h) j l) same (shown-safe rules j b bj w q)
            | inr c ↦ safe-later d h x v cuts run inv j a (cause-safe rules j b a bj w c)
          ]
      go ans.Attached e k = safe-later d h x v cuts run inv j a (attach-safe d h j v cuts (before_of d h x run) inv bj k.0 rules (attach-now d h x.act x.answer k.0 j (step_of d h x run) k.1 e) a k.2)
      go _ e k = absurd k

  main-step : StampRules d → Main d (x ∷ h)
  unfolding SiteKnows
  main-step rules = record {
    sent = sent-step;
    order = in-order-step d h x v cuts run sent-step inv.order;
    cause = cause-step;
    safe = λ j a bj k. elim k [ inl s ↦ safe-later d h x v cuts run inv j a (inv.safe j a bj s) | inr s ↦ learned-safe rules j a bj s ];
    closed = closed-step rules;
    below = below-step rules;
  }

-- what holds of the empty history
start-closed : (j i e : ℕ) → e < view [] j → e < emission [] i
unfolding view emission
start-closed j i e lt = lt

main-start : (d : Deployed) → Main d []
unfolding SentAhead SentIn Behind SiteKnows HandledFrom Knows
main-start d = record {
  sent = tt;
  order = record { ahead = λ e t u l a k m b. absurd b; order = λ e t u w n l a k g s b. absurd b };
  cause = λ i e b a s. absurd s;
  safe = λ j a bj k. absurd k;
  closed = λ j i e bj bi lt. start-closed j i e lt;
  below = λ j i e a bj lt s. absurd s;
}

pub main : (d : Deployed) (h : List Entry) → IsValid d → AllCuttable d → StampRules d → IsRun d h → Main d h
main d [] v cuts rules run = main-start d
main d (x ∷ h) v cuts rules run = main-step d h x v cuts run (main d h v cuts rules (before_of d h x run)) rules

-- a site that shows a label is one of the deployment's
shows-at : (d : Deployed) (h : List Entry) (x : Entry) (k : ℕ) (b : Label) → IsValid d → IsRun d (x ∷ h) → Showing d h k b x.act x.answer → k < d.sites
unfolding Gives
shows-at d h x k b v run (by_write y m r s t p) = subst (λ (n : ℕ). n < d.sites) s (made-placed d (x ∷ h) b v run (inr m)).site
shows-at d h x k b v run (by_turn p q w) = subst (λ (a : Act). InRange d a) p (range_of d h x run)
shows-at d h x k b v run (by_stamp p q n w) = subst (λ (a : Act). InRange d a) p (range_of d h x run)

-- each site shows each update after all its causes that it keeps
causal-now : (d : Deployed) (h : List Entry) (x : Entry) (k : ℕ) (b a : Label) → IsValid d → AllCuttable d → StampRules d → IsRun d (x ∷ h) → Main d h → Showing d h k b x.act x.answer → Cause (x ∷ h) b a → IsKeptAt d k a → Shows h k a
causal-now d h x k b a v cuts rules run inv (by_write y m r s t p) c kept =
    let w : Making d h x.act b = making d h x.act x.answer b v (step_of d h x run) m in
    let bk : k < d.sites = shows-at d h x k b v run (by_write y m r s t p) in
    (inv.safe k a bk ((known d h k v (before_of d h x run)).clients w.client a (w.seated ∙ ap (λ (i : ℕ). Some i) s) (cause-new d h x b a w.client v run m w.is_client c))).shown kept
causal-now d h x k b a v cuts rules run inv (by_turn p q w) c kept =
    let bk : k < d.sites = shows-at d h x k b v run (by_turn p q w) in
    let m : Made h b = (brings-for d h k b (before_of d h x run) (waits h k b w).0).made in
    (cause-safe d h x v cuts run inv rules k b a bk (by_turn p q w) (cause-stays d h x b a v run m c)).shown kept
causal-now d h x k b a v cuts rules run inv (by_stamp p q n w) c kept =
    let bk : k < d.sites = shows-at d h x k b v run (by_stamp p q n w) in
    let m : Made h b = (brings-for d h k b (before_of d h x run) (waits h k b w).0).made in
    (cause-safe d h x v cuts run inv rules k b a bk (by_stamp p q n w) (cause-stays d h x b a v run m c)).shown kept

pub causal : (d : Deployed) (h : List Entry) → IsValid d → AllCuttable d → StampRules d → IsRun d h → Causal d h
unfolding Causal
causal d [] v cuts rules run = tt
causal d (x ∷ h) v cuts rules run = (
  causal d h v cuts rules (before_of d h x run),
  λ k b a e c kept. causal-now d h x k b a v cuts rules run (main d h v cuts rules (before_of d h x run)) (showing d h k b x.act x.answer x.inner (step_of d h x run) e) c kept,
)
