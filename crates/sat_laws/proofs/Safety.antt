-- What is known at a site is safe: its epoch is at most the view, it is ahead of the site, and the site shows what it keeps.
use Rattle.std.specs.Prelude.{◌≡◌, ◌⊎◌, ◌<◌, ◌≤◌, ℕ, zero, suc, ◌+◌, Bool, true, false, ◌&&◌, ◌||◌, not, List, [], ◌∷◌, ◌++◌, Option, Some, None, refl, ◌==◌}
use Rattle.std.proofs.Common.{sym, subst, arith, inl, inr, ap, ◌∙◌}
use Rattle.std.proofs.lemmas.Bool.Decides.{nat_tests}
use Rattle.std.proofs.lemmas.Bool.{and_parts, cases_eq, eqb-true, or_cases}
use Rattle.sat_label.specs.declared.point.Point.{Point}
use Rattle.sat_label.specs.declared.label.Label.{Label}
use Rattle.sat_label.specs.declared.node.NodeId.{NodeId}
use Rattle.sat_label.specs.declared.node.NodeId.TheVariants.{Site}
use Rattle.sat_label.specs.Words.{below}
use Rattle.sat_tree.specs.Shape.{TreeShape}
use Rattle.sat_tree.specs.Cut.{is_edge}
use Rattle.sat_act.specs.declared.entry.Entry.{Entry}
use Rattle.sat_act.specs.Deployed.{Deployed}
use Rattle.sat_act.specs.Parts.{tree_of, link_front, entered, taken, came_from, goes_beyond, is_target, emission}
use Rattle.sat_act.specs.Runs.{IsRun}
use Rattle.sat_act.specs.Causes.{Cause}
use Rattle.sat_act.specs.Goals.{Gives, IsValid}
use Rattle.sat_laws.proofs.Runs.{before_of}
use Rattle.sat_laws.proofs.Labels.{some_is}
use Rattle.sat_laws.proofs.Gears.{split_le}
use Rattle.sat_laws.proofs.Handlings.{handled_as}
use Rattle.sat_laws.proofs.Sendings.{sent-once}
use Rattle.sat_label.specs.declared.label.Kind.TheVariants as kind
use Rattle.sat_laws.proofs.Links.{AllCuttable, HandledFrom, SentIn, Behind, Ahead, ahead-later, entered-in}
use Rattle.sat_label.specs.declared.label.Kind.{Kind}
use Rattle.sat_act.specs.Parts.{keeps_some, view}
use Rattle.sat_act.specs.Goals.{Shows, IsKeptAt}
use Rattle.sat_laws.proofs.Order.{sent-in, InOrder}
use Rattle.sat_label.specs.Grouped.{list_of}
use Rattle.sat_label.specs.Order.{point_le, mark}
use Rattle.sat_label.specs.declared.label.Kind.TheVariants as kind
use Rattle.sat_act.specs.Causes.{Client, Maker, Past}
use Rattle.sat_act.specs.Goals.{Made}
use Rattle.sat_laws.proofs.Labels.{IsPlaced, made-placed}
use Rattle.sat_laws.proofs.Knowledge.{point_le-ts}
use Rattle.sat_laws.proofs.Arrivals.{one-epoch}
use Rattle.sat_act.specs.Parts.{last, in_stamp_mode, fallen}
use Rattle.sat_laws.proofs.Views.{Turning, turning-of, stays, closes, falls, advances, view-rises, abreast}
use Rattle.sat_laws.proofs.Arrivals.{handled-sent-in}
use Rattle.sat_laws.proofs.Order.{behind-first}
use Rattle.sat_laws.proofs.Labels.{made-positive}
use Rattle.std.specs.List.{list_all}
use Rattle.sat_laws.proofs.Orders.{point_le-mark}
use Rattle.sat_label.specs.Order.{zero_point}
use Rattle.sat_act.specs.Parts.{carried, moving, may_attach, case_zero, case_moving, case_taken, case_beats, all_others, next_stamp}
use Rattle.sat_laws.proofs.Known.{SiteKnows}
use Rattle.sat_act.specs.Answers.{may_advance}
use Rattle.sat_laws.proofs.Order.{SentAhead, front-ahead}
use Rattle.sat_laws.proofs.Shows.{own-shown}
use Rattle.sat_laws.proofs.Arrivals.{arrives, arrives-shown, kept-update}
use Rattle.sat_laws.proofs.Knowledge.{knows-below}
use Rattle.sat_laws.proofs.Origins.{knows-made}
use Rattle.sat_laws.proofs.Moves.{IsMoving, moving-source, move-away}
use Rattle.sat_laws.proofs.Lasts.{Reached, long_ago, just_now, reached}
use Rattle.sat_label.proofs.Members.{In-get, In-get}
use Rattle.sat_label.proofs.Orders.{point_le-trans}

pub record IsSafe (d : Deployed) (h : List Entry) (j : ℕ) (a : Label) : Type 0 where
  pub placed : (a.point.site ≡ j) ⊎ ((f : ℕ) × (f ≤ view h j) × SentIn h a.point.site f a)
  pub ahead : (t : TreeShape) → (a.point.site ≡ j → ⊥) → tree_of d (emission h j) ≡ Some t → SentIn h a.point.site (emission h j) a → Ahead d h (emission h j) t a (Site j)
  pub shown : IsKeptAt d j a → Shows h j a

-- what holds together after every act
pub record Main (d : Deployed) (h : List Entry) : Type 0 where
  pub sent : SentAhead d h
  pub order : InOrder d h
  pub cause : (i e : ℕ) (b a : Label) → SentIn h i e b → Cause h b a → Behind h e a b ⊎ ((f : ℕ) × (f < e) × SentIn h a.point.site f a)
  pub safe : (j : ℕ) (a : Label) → j < d.sites → SiteKnows h j a → IsSafe d h j a
  pub closed : (j i e : ℕ) → j < d.sites → i < d.sites → e < view h j → e < emission h i
  pub below : (j i e : ℕ) (a : Label) → j < d.sites → e < view h j → SentIn h i e a → IsKeptAt d j a → Shows h j a

-- what the rules of stamp order give
pub record StampRules (d : Deployed) : Type 0 where
  pub shows : (h : List Entry) (j : ℕ) (b : Label) → IsRun d h → Main d h → j < d.sites → in_stamp_mode d h j ≡ true → next_stamp d h j ≡ Some b →
      ((e : ℕ) × (e ≤ view h j) × SentIn h b.point.site e b) × ((a : Label) → Cause h b a → (a.point.site ≡ j → ⊥) → IsKeptAt d j a → Shows h j a)
  pub attaches : (h : List Entry) (c j : ℕ) (a : Label) → IsRun d h → Main d h → j < d.sites → case_beats d h c j ≡ true → Made h a → (a.point.site ≡ j → ⊥) → a.point.ts ≤ (carried h c).ts →
      ((e : ℕ) × (e ≤ view h j) × SentIn h a.point.site e a) × (IsKeptAt d j a → Shows h j a) × (in_stamp_mode d h j ≡ true)
  pub advances : (h : List Entry) (j : ℕ) → IsRun d h → Main d h → j < d.sites → in_stamp_mode d h j ≡ true → may_advance d h j ≡ true →
      (i : ℕ) → i < d.sites → (i ≡ j → ⊥) → (view h j < emission h i) × ((a : Label) (e : ℕ) → e ≤ view h j → SentIn h i e a → IsKeptAt d j a → Shows h j a)

move-target : (d : Deployed) (j : ℕ) (m : Label) → m.kind ≡ kind.Move j → is_target d m j ≡ true
unfolding is_target
move-target d j m k = subst (λ (y : Kind). elim y [ kind.Update items ↦ keeps_some d (list_of items) j && not (j == m.point.site) | kind.Move y ↦ j == y | kind.Pulse ↦ not (j == m.point.site) | kind.Close e ↦ not (j == m.point.site) ] ≡ true) (sym k) (same j)
  where
    same : (n : ℕ) → (n == n) ≡ true
    same n = grind (arith, nat_tests)

-- what all other sites pass, each does
pub others-pass : (d : Deployed) (j i : ℕ) (p : ℕ → Bool) → all_others d j p ≡ true → i < d.sites → (i ≡ j → ⊥) → p i ≡ true
others-pass d j i p e b n = go d.sites e b
  where
    all-parts : (f : ℕ → Bool) (xs ys : List ℕ) → list_all f (xs ++ ys) ≡ true → (list_all f xs ≡ true) × (list_all f ys ≡ true)
    all-parts f [] ys e = (refl, e)
    all-parts f (x ∷ xs) ys e =
        let w : (f x ≡ true) × (list_all f (xs ++ ys) ≡ true) = and_parts (f x) (list_all f (xs ++ ys)) e in
        let y : (list_all f xs ≡ true) × (list_all f ys ≡ true) = all-parts f xs ys w.1 in
        (both (f x) (list_all f xs) w.0 y.0, y.1)
      where
        both : (a b : Bool) → a ≡ true → b ≡ true → (a && b) ≡ true
        both true b e f = f
        both false b e f = absurd (cc)

    right : (q : Bool) → ((i == j) || q) ≡ true → q ≡ true
    right q e = pick (i == j) q (differ i j n) e
      where
        differ : (m n : ℕ) → (m ≡ n → ⊥) → (m == n) ≡ false
        differ m n e = grind (arith, nat_tests)

        pick : (a q : Bool) → a ≡ false → (a || q) ≡ true → q ≡ true
        pick true q x y = absurd (cc)
        pick false q x y = y

    go : (n : ℕ) → list_all (λ k. (k == j) || p k) (below n) ≡ true → i < n → p i ≡ true
    go zero e b = absurd (omega arith)
    go (suc n) e b =
        let w : (list_all (λ k. (k == j) || p k) (below n) ≡ true) × (list_all (λ k. (k == j) || p k) (n ∷ []) ≡ true) = all-parts (λ k. (k == j) || p k) (below n) (n ∷ []) e in
        elim (split_le i n (omega arith)) [
          | inl s ↦ right (p i) (subst (λ (k : ℕ). ((k == j) || p k) ≡ true) (sym s) (and_parts ((n == j) || p n) true w.1).0)
          | inr lt ↦ go n w.0 lt
        ]

module _ (d : Deployed) (h : List Entry) (j : ℕ) (v : IsValid d) (cuts : AllCuttable d) (run : IsRun d h) (inv : Main d h) (b : j < d.sites) where
  pub own-safe : (a : Label) → Made h a → a.point.site ≡ j → IsSafe d h j a
  own-safe a m s = record { placed = inl s; ahead = λ t n. absurd (n s); shown = λ k. subst (λ (i : ℕ). Shows h i a) s (own-shown d h a run m (kept-update d j a k)) }

  reached-safe : (a : Label) → (a.point.site ≡ j → ⊥) → Reached d h j a → IsSafe d h j a
  reached-safe a other (long_ago e lt s) = record {
    placed = inr (e, omega arith, s);
    ahead = λ t n k z.
        let lo : view h j ≤ emission h j = (abreast d h j run).low in
        let q : e ≡ emission h j = one-epoch d h a.point.site e (emission h j) a v run s z in
        absurd (omega arith);
    shown = λ k. inv.below j a.point.site e a b lt s k;
  }
  reached-safe a other (just_now t k s ah) = record {
    placed = inr (view h j, omega arith, s);
    ahead = λ t' n k' z.
        let q : view h j ≡ emission h j = one-epoch d h a.point.site (view h j) (emission h j) a v run s z in
        let y : t ≡ t' = some_is t t' (sym k ∙ ap (λ (e : ℕ). tree_of d e) q ∙ k') in
        subst (λ (e : ℕ). Ahead d h e t' a (Site j)) q (subst (λ (x : TreeShape). Ahead d h (view h j) x a (Site j)) y ah);
    shown = λ kept. arrives-shown d h (view h j) t j a cuts run k b ah other kept;
  }

  pub fallen-now : (t : TreeShape) → in_stamp_mode d h j ≡ true → tree_of d (view h j) ≡ Some t → fallen h j ≡ true
  unfolding in_stamp_mode
  fallen-now t m k = go (tree_of d (view h j)) k m
    where
      go : (o : Option TreeShape) → o ≡ Some t → elim o [ None ↦ true | Some t ↦ fallen h j ] ≡ true → fallen h j ≡ true
      go None k m = absurd (cc)
      go (Some y) k m = m

  pub stamp-safe : (a : Label) → in_stamp_mode d h j ≡ true → ((e : ℕ) × (e ≤ view h j) × SentIn h a.point.site e a) → (IsKeptAt d j a → Shows h j a) → IsSafe d h j a
  stamp-safe a m s shown = record {
    placed = inr s;
    ahead = λ t n k z.
        let q : s.0 ≡ emission h j = one-epoch d h a.point.site s.0 (emission h j) a v run s.2 z in
        let lo : view h j ≤ emission h j = (abreast d h j run).low in
        let le : s.0 ≤ view h j = s.1 in
        let same : emission h j ≡ view h j = omega arith in
        let fell : emission h j ≡ view h j + 1 = (abreast d h j run).fell (fallen-now t m (subst (λ (e : ℕ). tree_of d e ≡ Some t) same k)) in
        absurd (omega arith);
    shown = shown;
  }

  -- a known label of another site, or an own one
  pub any-safe : (a : Label) → Made h a → ((a.point.site ≡ j → ⊥) → IsSafe d h j a) → IsSafe d h j a
  any-safe a m f = elim (cases_eq a.point.site j) [ inl s ↦ own-safe a m s | inr n ↦ f n ]

  -- what a reached label was sent behind is reached
  cause-reached : (m a : Label) → Cause h m a → (a.point.site ≡ j → ⊥) → (e : ℕ) (t : TreeShape) → e ≡ view h j → tree_of d e ≡ Some t → SentIn h m.point.site e m → (Behind h e a m → Ahead d h e t a (Site j)) → Reached d h j a
  cause-reached m a c other e t same k s ah =
      elim (inv.cause m.point.site e m a s c) [
        | inl w ↦ just_now t (subst (λ (f : ℕ). tree_of d f ≡ Some t) same k) (subst (λ (f : ℕ). SentIn h a.point.site f a) same (behind-first h e a m w)) (subst (λ (f : ℕ). Ahead d h f t a (Site j)) same (ah w))
        | inr w ↦ let x : w.0 < e = w.1 in long_ago w.0 (omega arith) w.2
      ]

  cause-long-ago : (m a : Label) → Cause h m a → (e : ℕ) → e < view h j → SentIn h m.point.site e m → Reached d h j a
  cause-long-ago m a c e lt s =
      elim (inv.cause m.point.site e m a s c) [
        | inl w ↦ long_ago e lt (behind-first h e a m w)
        | inr w ↦ let x : w.0 < e = w.1 in long_ago w.0 (omega arith) w.2
      ]

  -- ---- an attach

  module _ (c : ℕ) where
    moving-reached : (m : IsMoving d h c j) → Reached d h j m.label → (a : Label) → Past h c a → (a.point.site ≡ j → ⊥) → Reached d h j a
    moving-reached m (long_ago e lt s) a p other = cause-long-ago m.label a (m.past a p) e lt s
    moving-reached m (just_now t k s ah) a p other =
        let away : m.label.point.site ≡ j → ⊥ = move-away d h m.label j run m.made m.kind in
        let w : (w : NodeId) × HandledFrom d h (view h j) (Site j) (Some w) m.label = arrives d h (view h j) t j m.label cuts run k b ah away (move-target d j m.label m.kind) in
        cause-reached m.label a (m.past a p) other (view h j) t refl k s (λ q. inv.order.ahead (view h j) t (Site j) m.label a k (Some w.0, w.1) q)

    carried-above : (a : Label) → Past h c a → point_le a.point (carried h c) ≡ true
    carried-above a p = knows-below d h (Client c) a v run p

    by_zero : case_zero h c ≡ true → (a : Label) → Past h c a → ⊥
    by_zero e a p =
        let w : a.point.ts ≤ (carried h c).ts = point_le-ts a.point (carried h c) (carried-above a p) in
        let y : (carried h c).ts ≤ 0 = point_le-ts (carried h c) zero_point e in
        let z : 1 ≤ a.point.ts = made-positive d h a v run (knows-made d h (Client c) a run p) in
        omega arith

    by_moving : case_moving d h c j ≡ true → (a : Label) → Past h c a → (a.point.site ≡ j → ⊥) → Reached d h j a
    by_moving e a p other = go (moving h c) refl e
      where
        go : (o : Option ℕ) → moving h c ≡ o → elim o [ None ↦ false | Some k ↦ (k == j) && point_le (carried h c) (last d h j (carried h c).site) ] ≡ true → Reached d h j a
        go None w e = absurd (cc)
        go (Some k) w e =
            let y : ((k == j) ≡ true) × (point_le (carried h c) (last d h j (carried h c).site) ≡ true) = and_parts (k == j) _ e in
            let m : IsMoving d h c j = moving-source d h c j run (w ∙ ap (λ (n : ℕ). Some n) (eqb-true k j y.0)) in
            let q : point_le m.label.point (last d h j m.label.point.site) ≡ true = subst (λ (x : Point). point_le x (last d h j x.site) ≡ true) (sym m.point) y.1 in
            moving-reached m (reached d h j m.label v cuts run inv.order (made-placed d h m.label v run m.made).site m.made q) a p other

    by_taken : case_taken d h c j ≡ true → (a : Label) → Past h c a → (a.point.site ≡ j → ⊥) → Reached d h j a
    by_taken e a p other =
        let m : Made h a = knows-made d h (Client c) a run p in
        let pl : IsPlaced d h a = made-placed d h a v run m in
        let few : d.gears ≤ 8 = v.few_gears in
        let g : a.point.gear < d.gears = pl.gear in
        let w : a.point.ts ≤ (carried h c).ts = point_le-ts a.point (carried h c) (carried-above a p) in
        let y : point_le (mark (carried h c).ts a.point.site) (last d h j a.point.site) ≡ true = others-pass d j a.point.site (λ i. point_le (mark (carried h c).ts i) (last d h j i)) e pl.site other in
        reached d h j a v cuts run inv.order pl.site m (point_le-trans a.point (mark (carried h c).ts a.point.site) (last d h j a.point.site) (point_le-mark a.point (carried h c).ts (omega arith) w) y)

    by_beats : StampRules d → case_beats d h c j ≡ true → (a : Label) → Past h c a → (a.point.site ≡ j → ⊥) → IsSafe d h j a
    by_beats rules e a p other =
        let w : a.point.ts ≤ (carried h c).ts = point_le-ts a.point (carried h c) (carried-above a p) in
        let y : ((e : ℕ) × (e ≤ view h j) × SentIn h a.point.site e a) × (IsKeptAt d j a → Shows h j a) × (in_stamp_mode d h j ≡ true) = rules.attaches h c j a run inv b e (knows-made d h (Client c) a run p) other w in
        stamp-safe a y.2 y.0 y.1

    -- what a client that may attach knows is safe
    pub attach-safe : StampRules d → may_attach d h c j ≡ true → (a : Label) → Past h c a → IsSafe d h j a
    unfolding may_attach
    attach-safe rules m a p =
        any-safe a (knows-made d h (Client c) a run p)
        (λ other. elim (or_cases (case_zero h c) _ m) [
          | inl e ↦ absurd (by_zero e a p)
          | inr e ↦ elim (or_cases (case_moving d h c j) _ e) [
            | inl f ↦ reached-safe a other (by_moving f a p other)
            | inr f ↦ elim (or_cases (case_taken d h c j) _ f) [
              | inl g ↦ reached-safe a other (by_taken g a p other)
              | inr g ↦ by_beats rules g a p other
            ]
          ]
        ])

  -- ---- a turn

  -- what the front of the site's link comes behind is safe
  pub turn-safe : (t : TreeShape) (z : NodeId) (l a : Label) → tree_of d (view h j) ≡ Some t → is_edge t z (Site j) ≡ true → link_front d h (view h j) t z (Site j) ≡ Some l → Cause h l a → IsSafe d h j a
  unfolding link_front
  turn-safe t z l a k g front c =
      any-safe a (knows-made d h (Maker l) a run c)
      (λ other. reached-safe a other (cause-reached l a c other (view h j) t refl k sent_l (λ q. front-ahead d h (view h j) t z (Site j) l a (cuts.each (view h j) t k) run k inv.order g front q)))
    where
      came : (o : Option NodeId) × HandledFrom d h (view h j) z o l × (came_from (handled_as (view h j) z o l) (Site j) ≡ false) × (goes_beyond d t z (Site j) l ≡ true)
      came = entered-in d h (view h j) t z (Site j) l (In-get (entered d h (view h j) t z (Site j)) (taken d h (view h j) z (Site j)) l front)

      sent_l : SentIn h l.point.site (view h j) l
      sent_l = handled-sent-in d h (view h j) z came.0 l run came.1

-- ---- safety lasts

module _ (d : Deployed) (h : List Entry) (x : Entry) (v : IsValid d) (cuts : AllCuttable d) (run : IsRun d (x ∷ h)) (inv : Main d h) where
  pub sent-later : (i e : ℕ) (a : Label) → SentIn h i e a → SentIn (x ∷ h) i e a
  unfolding SentIn
  sent-later i e a s = inl s

  -- a label that was sent isn't sent anew
  pub sent-old : (i f e : ℕ) (a : Label) → SentIn h i f a → SentIn (x ∷ h) i e a → SentIn h i e a
  unfolding SentIn
  sent-old i f e a s (inl w) = w
  sent-old i f e a s (inr w) = absurd (sent-once d h x i a v run w.0 (sent-in h i f a s))

  pub safe-later : (j : ℕ) (a : Label) → IsSafe d h j a → IsSafe d (x ∷ h) j a
  unfolding Gives
  safe-later j a s = record {
    placed = elim s.placed [ inl e ↦ inl e | inr w ↦ inr (w.0, (let p : w.0 ≤ view h j = w.1 in let q : view h j ≤ view (x ∷ h) j = view-rises d h x j run in omega arith), sent-later a.point.site w.0 a w.2) ];
    ahead = λ t other k z. go s.placed t other k z (turning-of d h x j run);
    shown = λ k. inl (s.shown k);
  }
    where
      same-emission : (t : TreeShape) (f : ℕ) → SentIn h a.point.site f a → emission (x ∷ h) j ≡ emission h j → (a.point.site ≡ j → ⊥) → tree_of d (emission (x ∷ h) j) ≡ Some t → SentIn (x ∷ h) a.point.site (emission (x ∷ h) j) a → Ahead d (x ∷ h) (emission (x ∷ h) j) t a (Site j)
      same-emission t f w m other k z =
          ahead-later d h x (emission (x ∷ h) j) t a (Site j)
          (subst (λ (e : ℕ). Ahead d h e t a (Site j)) (sym m) (s.ahead t other (subst (λ (e : ℕ). tree_of d e ≡ Some t) m k) (subst (λ (e : ℕ). SentIn h a.point.site e a) m (sent-old a.point.site f (emission (x ∷ h) j) a w z))))

      go : (a.point.site ≡ j) ⊎ ((f : ℕ) × (f ≤ view h j) × SentIn h a.point.site f a) → (t : TreeShape) → (a.point.site ≡ j → ⊥) → tree_of d (emission (x ∷ h) j) ≡ Some t → SentIn (x ∷ h) a.point.site (emission (x ∷ h) j) a → Turning d h x j → Ahead d (x ∷ h) (emission (x ∷ h) j) t a (Site j)
      go (inl e) t other k z turn = absurd (other e)
      go (inr w) t other k z (stays p m f) = same-emission t w.0 w.2 m other k z
      go (inr w) t other k z (falls p m q) = same-emission t w.0 w.2 m other k z
      go (inr w) t other k z (advances p m f q y _) = same-emission t w.0 w.2 m other k z
      go (inr w) t other k z (closes p m f q) =
          let o : w.0 ≡ emission (x ∷ h) j = one-epoch d h a.point.site w.0 (emission (x ∷ h) j) a v (before_of d h x run) w.2 (sent-old a.point.site w.0 (emission (x ∷ h) j) a w.2 z) in
          let lo : view h j ≤ emission h j = (abreast d h j (before_of d h x run)).low in
          let le : w.0 ≤ view h j = w.1 in
          absurd (omega arith)
