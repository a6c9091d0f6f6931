-- After a settle each link of the view's tree is taken whole.
use Rattle.std.specs.Prelude.{◌≡◌, ◌⊎◌, ◌<◌, ◌≤◌, ℕ, zero, suc, ◌+◌, ◌-◌, Bool, true, false, ◌&&◌, not, List, [], ◌∷◌, ◌++◌, Option, Some, None, refl, length, filter, map, slice_get, if◌then◌else◌}
use Rattle.std.proofs.Common.{sym, subst, arith, inl, inr, ap, ◌∙◌}
use Rattle.std.proofs.lemmas.Bool.{cases_eq, and_parts}
use Rattle.sat_label.specs.declared.label.Kind.{Kind}
use Rattle.sat_label.specs.declared.label.Kind.TheVariants as kind
use Rattle.sat_label.specs.declared.label.Label.{Label}
use Rattle.sat_label.specs.declared.node.NodeId.{NodeId}
use Rattle.sat_label.specs.declared.node.NodeId.TheVariants.{Site, Serializer}
use Rattle.sat_label.specs.Order.{label_eq, node_eq}
use Rattle.sat_label.specs.Words.{below, has}
use Rattle.sat_tree.specs.Shape.{TreeShape}
use Rattle.sat_tree.specs.Cut.{IsTree, is_edge, neighbours, beyond, seat_of}
use Rattle.sat_act.specs.declared.act.Act.{Act}
use Rattle.sat_act.specs.declared.act.Act.TheVariants as act
use Rattle.sat_act.specs.declared.answer.Answer.{Answer}
use Rattle.sat_act.specs.declared.answer.Answer.TheVariants as ans
use Rattle.sat_act.specs.declared.answer.Refusal.TheVariants as why
use Rattle.sat_act.specs.declared.deployment.Plan.TheVariants as plan
use Rattle.sat_act.specs.declared.entry.Entry.{Entry}
use Rattle.sat_act.specs.Deployed.{Deployed}
use Rattle.sat_act.specs.Parts.{handling, is_target, is_update, tree_of, emission, view, fallen, in_stamp_mode, seat_in, goes_beyond, entered, taken, link_front, killed, came_from, brought, brought_entry, shown_entry, waiting}
use Rattle.sat_act.specs.Answers.{answer, refused_if, turned}
use Rattle.sat_act.proofs.Plans.{tree_in_plans}
use Rattle.sat_act.specs.Runs.{IsRun}
use Rattle.sat_act.specs.Goals.{Shows}
use Rattle.sat_act.specs.Settling.{is_done, bulks, hops, hops_of, turns, round_acts}
use Rattle.sat_rest.specs.Ends.{IsWithin, IsQuiet}
use Rattle.sat_rest.specs.Rest.{CanEnd, IsPlace, LinkWhole}
use Rattle.sat_laws.proofs.Steps.{Step, showed_stamp}
use Rattle.sat_laws.proofs.Runs.{step_of, before_of, entry}
use Rattle.sat_laws.proofs.Members.{listed-gives}
use Rattle.sat_laws.proofs.Views.{abreast, view-rises}
use Rattle.sat_laws.proofs.Handlings.{handled_as}
use Rattle.sat_tree.specs.Laws.{IsCuttable}
use Rattle.sat_laws.proofs.Links.{HandledFrom, SentIn, get-below, entered-in, taken-below, own-site, came-from-side}
use Rattle.sat_laws.proofs.Order.{sent-in}
use Rattle.sat_laws.proofs.Origins.{sent-made}
use Rattle.sat_laws.proofs.Arrivals.{handled-sent-in, one-epoch, site_is}
use Rattle.sat_laws.proofs.Shows.{IsFor, Brings, for-kept, Showing, by_write, by_turn, by_stamp, showing}
use Rattle.sat_laws.proofs.BeatTimes.{Later, now, more, later-run, later-trans, later-sent-in, later-emission, gave-at}
use Rattle.sat_laws.proofs.Stamps.{brought-cases, stamp-rules}
use Rattle.sat_laws.proofs.Mains.{main}
use Rattle.sat_tree.proofs.Trees.{cuttable, edge-end, seat-only}
use Rattle.sat_rest.proofs.HandledOnce.{all-cuttable, handled-once, taken-place, entered-once}
use Rattle.sat_rest.proofs.Totals.{In-below, into-joined}
use Rattle.sat_rest.proofs.Lefts.{any-In, In-map}
use Rattle.sat_rest.proofs.Rounds.{in-among, edge-turned}
use Rattle.sat_rest.proofs.Emptying.{for-brought, turn-tried}
use Rattle.sat_label.specs.Members.{In, is_made}
use Rattle.sat_label.proofs.Members.{In-get, In-left, In-right, into-filter, has-in, in-has}

-- ---- the hops that a round tries

tree-plan : (d : Deployed) (e : ℕ) (t : TreeShape) → tree_of d e ≡ Some t → e - 1 < length d.plans
tree-plan d e t k = get-below d.plans (e - 1) (plan.Tree t) (tree_in_plans d e t k).1

hop-in : (d : Deployed) (n z : ℕ) (t : TreeShape) (u : NodeId) → n < length d.plans → tree_of d (n + 1) ≡ Some t → z < length t.parents → In (neighbours t z) u → In (hops d) (act.Hop (n + 1) u z)
unfolding hops_of
hop-in d n z t u b k c i =
    into-joined (λ (n : ℕ). hops_of (n + 1) (tree_of d (n + 1))) (below (length d.plans)) n (act.Hop (n + 1) u z) (In-below (length d.plans) n b)
    (subst (λ (o : Option TreeShape). In (hops_of (n + 1) o) (act.Hop (n + 1) u z)) (sym k)
    (into-joined (λ (z : ℕ). map (λ u. act.Hop (n + 1) u z) (neighbours t z)) (below (length t.parents)) z (act.Hop (n + 1) u z) (In-below (length t.parents) z c) (In-map (λ (u : NodeId). act.Hop (n + 1) u z) (neighbours t z) u i)))

hop-tried : (d : Deployed) (e z : ℕ) (t : TreeShape) (u : NodeId) → 1 ≤ e → tree_of d e ≡ Some t → z < length t.parents → In (neighbours t z) u → In (round_acts d) (act.Hop e u z)
unfolding round_acts
hop-tried d e z t u p k c i =
    let s : (e - 1) + 1 ≡ e = omega arith in
    In-right (bulks d) (hops d ++ turns d) (act.Hop e u z)
    (In-left (hops d) (turns d) (act.Hop e u z)
    (subst (λ (f : ℕ). In (hops d) (act.Hop f u z)) s (hop-in d (e - 1) z t u (tree-plan d e t k) (subst (λ (f : ℕ). tree_of d f ≡ Some t) (sym s) k) c i)))

neighbour : (d : Deployed) (t : TreeShape) (u : NodeId) (z : ℕ) → IsTree t → length t.seats ≡ d.sites → IsPlace d u → is_edge t u (Serializer z) ≡ true → In (neighbours t z) u
unfolding neighbours
neighbour d t u z w s p e =
    into-filter (λ n. is_edge t (Serializer z) n) (map Site (below (length t.seats)) ++ map Serializer (below (length t.parents))) u (listed_at u p e) (edge-turned t u (Serializer z) e)
  where
    listed_at : (u : NodeId) → IsPlace d u → is_edge t u (Serializer z) ≡ true → In (map Site (below (length t.seats)) ++ map Serializer (below (length t.parents))) u
    listed_at (Site i) p e = In-left (map Site (below (length t.seats))) (map Serializer (below (length t.parents))) (Site i) (In-map Site (below (length t.seats)) i (In-below (length t.seats) i (subst (λ (n : ℕ). i < n) (sym s) p)))
    listed_at (Serializer y) p e =
        In-right (map Site (below (length t.seats))) (map Serializer (below (length t.parents))) (Serializer y)
        (In-map Serializer (below (length t.parents)) y (In-below (length t.parents) y (edge-end t w (Serializer z) y (edge-turned t (Serializer y) (Serializer z) e))))

-- ---- a link with no front

none-length : (xs : List Label) (n : ℕ) → slice_get xs n ≡ None → length xs ≤ n
none-length [] n e = omega arith
none-length (x ∷ xs) zero e = absurd (cc)
none-length (x ∷ xs) (suc n) e = let a : length xs ≤ n = none-length xs n e in omega arith

pub no-front : (d : Deployed) (h : List Entry) (e : ℕ) (t : TreeShape) (u v : NodeId) → IsRun d h → tree_of d e ≡ Some t → link_front d h e t u v ≡ None → LinkWhole d h e t u v
unfolding link_front
no-front d h e t u v run k f =
    let a : length (entered d h e t u v) ≤ taken d h e u v = none-length (entered d h e t u v) (taken d h e u v) f in
    let b : taken d h e u v ≤ length (entered d h e t u v) = taken-below d h e t u v run k in
    equal (taken d h e u v) (length (entered d h e t u v)) b a
  where
    equal : (a b : ℕ) → a ≤ b → b ≤ a → a ≡ b
    equal a b p q = omega arith

abbrev pick_tree : (TreeShape → Answer) → Option TreeShape → Answer
pick_tree f o = elim o [ None ↦ ans.Refused why.Empty | Some t ↦ f t ]

abbrev pick_hop : (Label → List NodeId) → Option Label → Answer
pick_hop f o = elim o [ None ↦ ans.Refused why.Empty | Some l ↦ ans.Hopped l (f l) ]

abbrev hop_of : Deployed → List Entry → ℕ → NodeId → ℕ → TreeShape → Answer
hop_of d h e u z t = pick_hop (λ l. filter (λ v. not (node_eq u v) && goes_beyond d t (Serializer z) v l) (neighbours t z)) (link_front d h e t u (Serializer z))

answer-hop : (d : Deployed) (h : List Entry) (e z : ℕ) (u : NodeId) → answer d h (act.Hop e u z) ≡ refused_if (killed h e z) why.Dead (pick_tree (hop_of d h e u z) (tree_of d e))
unfolding answer
answer-hop d h e z u = refl

no-hop : (f : Label → List NodeId) (o : Option Label) → is_done (pick_hop f o) ≡ false → o ≡ None
no-hop f None e = refl
no-hop f (Some l) e = absurd (cc)

-- a link to a serializer that is alive
pub hop-whole : (d : Deployed) (h : List Entry) (e z : ℕ) (t : TreeShape) (u : NodeId) → IsWithin d → IsRun d h → IsQuiet d h → 1 ≤ e → tree_of d e ≡ Some t → killed h e z ≡ false → IsPlace d u → is_edge t u (Serializer z) ≡ true → LinkWhole d h e t u (Serializer z)
hop-whole d h e z t u w run quiet p k alive place edge =
    let i : In (round_acts d) (act.Hop e u z) = hop-tried d e z t u p k (edge-end t (w.trees e t k) u z edge) (neighbour d t u z (w.trees e t k) (w.all_seated e t k) place edge) in
    let q : is_done (answer d h (act.Hop e u z)) ≡ false = quiet (act.Hop e u z) (in-among (round_acts d) (act.Hop e u z) i) in
    let r : answer d h (act.Hop e u z) ≡ hop_of d h e u z t =
    answer-hop d h e z u ∙ ap (λ (b : Bool). refused_if b why.Dead (pick_tree (hop_of d h e u z) (tree_of d e))) alive ∙ ap (λ (o : Option TreeShape). pick_tree (hop_of d h e u z) o) k in
    no-front d h e t u (Serializer z) run k
    (no-hop (λ l. filter (λ v. not (node_eq u v) && goes_beyond d t (Serializer z) v l) (neighbours t z)) (link_front d h e t u (Serializer z)) (subst (λ (r : Answer). is_done r ≡ false) r q))

-- ---- a front that could be shown

abbrev pick_seat : (NodeId → Answer) → Option NodeId → Answer
pick_seat f o = elim o [ None ↦ ans.Refused why.Empty | Some z ↦ f z ]

abbrev pick_turn : List Label → Option Label → Answer
pick_turn ws o = elim o [ None ↦ ans.Refused why.Empty | Some l ↦ turned ws l ]

abbrev turn_from : Deployed → List Entry → ℕ → TreeShape → NodeId → Answer
turn_from d h j t z = pick_turn (waiting h j) (link_front d h (view h j) t z (Site j))

answer-turn : (d : Deployed) (h : List Entry) (j : ℕ) → answer d h (act.Turn j) ≡ refused_if (in_stamp_mode d h j) why.StampOrder (pick_tree (λ t. pick_seat (turn_from d h j t) (seat_in d (view h j) j)) (tree_of d (view h j)))
unfolding answer
answer-turn d h j = refl

pub tree-mode : (d : Deployed) (h : List Entry) (j : ℕ) (t : TreeShape) → tree_of d (view h j) ≡ Some t → in_stamp_mode d h j ≡ fallen h j
unfolding in_stamp_mode
tree-mode d h j t k = ap (λ (o : Option TreeShape). mode o) k
  where
    mode : Option TreeShape → Bool
    mode o = elim o [ None ↦ true | Some t ↦ fallen h j ]

pub seat-at : (d : Deployed) (e j : ℕ) (t : TreeShape) → tree_of d e ≡ Some t → seat_in d e j ≡ Some (Serializer (seat_of t j))
unfolding seat_in
seat-at d e j t k = ap (λ (o : Option TreeShape). seat o) k
  where
    seat : Option TreeShape → Option NodeId
    seat o = elim o [ None ↦ None | Some t ↦ Some (Serializer (seat_of t j)) ]

-- the front of a link that was not turned: none, or an update that does not wait
no-turn : (ws : List Label) (o : Option Label) → is_done (pick_turn ws o) ≡ false → (o ≡ None) ⊎ ((l : Label) × (o ≡ Some l) × (is_update l.kind ≡ true) × (has label_eq ws l ≡ false))
no-turn ws None e = inl refl
no-turn ws (Some l) e = go (is_update l.kind) (has label_eq ws l) refl refl e
  where
    go : (b c : Bool) → is_update l.kind ≡ b → has label_eq ws l ≡ c → is_done (if b then (if c then ans.Shown l else ans.Refused (why.NoPayload l)) else ans.Took l) ≡ false → (Some l ≡ None) ⊎ ((m : Label) × (Some l ≡ Some m) × (is_update m.kind ≡ true) × (has label_eq ws m ≡ false))
    go true true p q e = absurd (cc)
    go true false p q e = inr (l, refl, p, q)
    go false c p q e = absurd (cc)

pub made-update : (l : Label) → is_update l.kind ≡ true → is_made l.kind ≡ true
made-update l e = go l.kind e
  where
    go : (k : Kind) → is_update k ≡ true → is_made k ≡ true
    go (kind.Update items) e = refl
    go (kind.Move x) e = absurd (cc)
    go kind.Pulse e = absurd (cc)
    go (kind.Close x) e = absurd (cc)

-- what goes to a site over its own link is for it
link-target : (d : Deployed) (t : TreeShape) (z : NodeId) (j : ℕ) (l : Label) → IsCuttable t → is_edge t z (Site j) ≡ true → goes_beyond d t z (Site j) l ≡ true → is_target d l j ≡ true
unfolding goes_beyond
link-target d t z j l c e g =
    let r : (k : ℕ) × In (below d.sites) k × ((is_target d l k && beyond t z (Site j) (Site k)) ≡ true) = any-In (λ (k : ℕ). is_target d l k && beyond t z (Site j) (Site k)) (below d.sites) g in
    let p : (is_target d l r.0 ≡ true) × (beyond t z (Site j) (Site r.0) ≡ true) = and_parts (is_target d l r.0) (beyond t z (Site j) (Site r.0)) r.2 in
    elim (cases_eq r.0 j) [
      | inl s ↦ subst (λ (k : ℕ). is_target d l k ≡ true) s p.0
      | inr n ↦ absurd (let f : beyond t z (Site j) (Site r.0) ≡ false = c.leaf z j r.0 e n in let y : beyond t z (Site j) (Site r.0) ≡ true = p.1 in cc)
    ]

later-view : (d : Deployed) (b h : List Entry) (j : ℕ) → Later b h → IsRun d h → view b j ≤ view h j
later-view d b h j now run = omega arith
later-view d b h j (more {x = x} {h = k} l) run =
    let a : view b j ≤ view k j = later-view d b k j l (before_of d k x run) in
    let c : view k j ≤ view (x ∷ k) j = view-rises d k x j run in
    omega arith

later-handled : (d : Deployed) (b h : List Entry) (e : ℕ) (u : NodeId) (o : Option NodeId) (l : Label) → Later b h → HandledFrom d b e u o l → HandledFrom d h e u o l
unfolding HandledFrom
later-handled d b h e u o l now m = m
later-handled d b h e u o l (more {h = k} w) m = inl (later-handled d b k e u o l w m)

stamp-mode : (d : Deployed) (b : List Entry) (j : ℕ) (l : Label) (a : Act) (r : Answer) → Step d b a r → a ≡ act.Stamp j → r ≡ ans.Shown l → in_stamp_mode d b j ≡ true
stamp-mode d b j l a r (showed_stamp {j = k} m q) e f = subst (λ (i : ℕ). in_stamp_mode d b i ≡ true) (same k j e) m
  where
    same : (k j : ℕ) → act.Stamp k ≡ act.Stamp j → k ≡ j
    same k j e = cc
stamp-mode d b j l a r _ e f = absurd (cc)

turn-handled : (d : Deployed) (b : List Entry) (j : ℕ) (l : Label) (a : Act) (r : Answer) (n : Bool) → a ≡ act.Turn j → r ≡ ans.Shown l → handling d b (entry a r n) ≡ Some (handled_as (view b j) (Site j) (seat_in d (view b j) j) l)
unfolding handling
turn-handled d b j l a r n p q = λ i. handling d b (entry (p i) (q i) n)

handled-here : (d : Deployed) (b : List Entry) (x : Entry) (e : ℕ) (u : NodeId) (o : Option NodeId) (l : Label) → handling d b x ≡ Some (handled_as e u o l) → HandledFrom d (x ∷ b) e u o l
unfolding HandledFrom
handled-here d b x e u o l k = inr k

drop_one : (c : List Entry) (x : Entry) (h : List Entry) → Later (x ∷ c) h → Later c h
drop_one c x h l = later-trans c (x ∷ c) h (more now) l

pub front-at : (d : Deployed) (h : List Entry) (e : ℕ) (t : TreeShape) (u v : NodeId) (l : Label) → link_front d h e t u v ≡ Some l → slice_get (entered d h e t u v) (taken d h e u v) ≡ Some l
unfolding link_front
front-at d h e t u v l f = f

module _ (d : Deployed) (h : List Entry) (w : IsWithin d) (run : IsRun d h) (quiet : IsQuiet d h) (end : CanEnd d h) where
  -- a label that stands at the front of a site's link was not handled there
  front-new : (e j : ℕ) (t : TreeShape) (z : NodeId) (l : Label) → tree_of d e ≡ Some t → is_edge t z (Site j) ≡ true → slice_get (entered d h e t z (Site j)) (taken d h e z (Site j)) ≡ Some l → (l.point.site ≡ j → ⊥) → (o : Option NodeId) → HandledFrom d h e (Site j) o l → ⊥
  front-new e j t z l k edge f other None m = other (site_is l.point.site j (sym (own-site d h e (Site j) l run m)))
  front-new e j t z l k edge f other (Some y) m =
      let s : (is_edge t y (Site j) ≡ true) × (beyond t (Site j) y (Site l.point.site) ≡ true) = came-from-side d h e t (Site j) y l (all-cuttable d w.trees) run k m in
      let q : y ≡ z = seat-only t (w.trees e t k) y j s.0 ∙ sym (seat-only t (w.trees e t k) z j edge) in
      let p : (m : ℕ) × (m < taken d h e z (Site j)) × (slice_get (entered d h e t z (Site j)) m ≡ Some l) = taken-place d h e t z (Site j) l run k (subst (λ (n : NodeId). HandledFrom d h e (Site j) (Some n) l) q m) in
      let a : p.0 < taken d h e z (Site j) = p.1 in
      let b : p.0 ≡ taken d h e z (Site j) = entered-once d h e t z (Site j) p.0 (taken d h e z (Site j)) l (handled-once d h w.valid w.trees run) p.2 f in
      omega arith

  -- nor was it shown there
  front-unshown : (j : ℕ) (t : TreeShape) (z : NodeId) (l : Label) → j < d.sites → tree_of d end.epoch ≡ Some t → is_edge t z (Site j) ≡ true → slice_get (entered d h end.epoch t z (Site j)) (taken d h end.epoch z (Site j)) ≡ Some l → (l.point.site ≡ j → ⊥) →
      SentIn h l.point.site end.epoch l → Shows h j l → ⊥
  front-unshown j t z l b k edge f other sent s =
      let g : (c : List Entry) × (x : Entry) × Later (x ∷ c) h × (shown_entry j c x ≡ Some l) = gave-at (shown_entry j) h l s in
      let run' : IsRun d (g.1 ∷ g.0) = later-run d (g.1 ∷ g.0) h g.2 run in
      go g.0 g.1 g.2 run' (showing d g.0 j l g.1.act g.1.answer g.1.inner (step_of d g.0 g.1 run') g.3)
    where
      go : (c : List Entry) (x : Entry) → Later (x ∷ c) h → IsRun d (x ∷ c) → Showing d c j l x.act x.answer → ⊥
      go c x later run' (by_write y m r own q p) = other own
      go c x later run' (by_turn a r m) =
          let m : HandledFrom d h (view c j) (Site j) (seat_in d (view c j) j) l =
          later-handled d (x ∷ c) h (view c j) (Site j) (seat_in d (view c j) j) l later (handled-here d c x (view c j) (Site j) (seat_in d (view c j) j) l (turn-handled d c j l x.act x.answer x.inner a r)) in
          let e : view c j ≡ end.epoch = one-epoch d h l.point.site (view c j) end.epoch l w.valid run (handled-sent-in d h (view c j) (Site j) (seat_in d (view c j) j) l run m) sent in
          front-new end.epoch j t z l k edge f other (seat_in d (view c j) j) (subst (λ (e : ℕ). HandledFrom d h e (Site j) (seat_in d (view c j) j) l) e m)
      go c x later run' (by_stamp a r n m) =
          let run'' : IsRun d c = before_of d c x run' in
          let later' : Later c h = earlier c x later in
          let mode : in_stamp_mode d c j ≡ true = stamp-mode d c j l x.act x.answer (step_of d c x run') a r in
          let e : (e : ℕ) × (e ≤ view c j) × SentIn c l.point.site e l = ((stamp-rules d w.valid).shows c j l run'' (main d c w.valid (all-cuttable d w.trees) (stamp-rules d w.valid) run'') b mode n).0 in
          let s : e.0 ≡ end.epoch = one-epoch d h l.point.site e.0 end.epoch l w.valid run (later-sent-in c h l.point.site e.0 l later' e.2) sent in
          let p : e.0 ≤ view c j = e.1 in
          let q : view c j ≤ view h j = later-view d c h j later' run in
          let v : view h j ≡ end.epoch = end.views j b in
          let same : view c j ≡ end.epoch = omega arith in
          let fell : fallen c j ≡ true = sym (tree-mode d c j t (subst (λ (e : ℕ). tree_of d e ≡ Some t) (sym same) k)) ∙ mode in
          let y : emission c j ≡ view c j + 1 = (abreast d c j run'').fell fell in
          let i : emission c j ≤ emission h j = later-emission c h j later' in
          let u : emission h j ≡ end.epoch = end.emissions j b in
          omega arith
        where
          earlier : (c : List Entry) (x : Entry) → Later (x ∷ c) h → Later c h
          earlier c x l = drop_one c x h l

  brings-of : (j : ℕ) (l : Label) → has label_eq (brought h j) l ≡ true → Brings h j l
  unfolding brought
  brings-of j l e = listed-gives (brought_entry j) h l (has-in (brought h j) l e)

  -- a link to a site
  pub turn-whole : (j : ℕ) (t : TreeShape) (z : NodeId) → j < d.sites → tree_of d end.epoch ≡ Some t → is_edge t z (Site j) ≡ true → LinkWhole d h end.epoch t z (Site j)
  turn-whole j t z b k edge =
      elim (no-turn (waiting h j) (link_front d h (view h j) t (Serializer (seat_of t j)) (Site j)) (subst (λ (r : Answer). is_done r ≡ false) r q)) [
        | inl n ↦ no-front d h end.epoch t z (Site j) run k (at_link None n)
        | inr s ↦ absurd (stuck s.0 (at_link (Some s.0) s.1) s.2 s.3)
      ]
    where
      v : view h j ≡ end.epoch
      v = end.views j b

      k' : tree_of d (view h j) ≡ Some t
      k' = subst (λ (e : ℕ). tree_of d e ≡ Some t) (sym v) k

      q : is_done (answer d h (act.Turn j)) ≡ false
      q = quiet (act.Turn j) (in-among (round_acts d) (act.Turn j) (turn-tried d j (act.Turn j) b (inl refl)))

      r : answer d h (act.Turn j) ≡ turn_from d h j t (Serializer (seat_of t j))
      r = answer-turn d h j
          ∙ ap (λ (b : Bool). refused_if b why.StampOrder (pick_tree (λ t. pick_seat (turn_from d h j t) (seat_in d (view h j) j)) (tree_of d (view h j)))) (tree-mode d h j t k' ∙ end.no_fall j b)
          ∙ ap (λ (o : Option TreeShape). pick_tree (λ t. pick_seat (turn_from d h j t) (seat_in d (view h j) j)) o) k'
          ∙ ap (λ (o : Option NodeId). pick_seat (turn_from d h j t) o) (seat-at d (view h j) j t k')

      at_link : (o : Option Label) → link_front d h (view h j) t (Serializer (seat_of t j)) (Site j) ≡ o → link_front d h end.epoch t z (Site j) ≡ o
      at_link o e = subst (λ (n : NodeId). link_front d h end.epoch t n (Site j) ≡ o) (sym (seat-only t (w.trees end.epoch t k) z j edge)) (subst (λ (e : ℕ). link_front d h e t (Serializer (seat_of t j)) (Site j) ≡ o) v e)

      stuck : (l : Label) → link_front d h end.epoch t z (Site j) ≡ Some l → is_update l.kind ≡ true → has label_eq (waiting h j) l ≡ false → ⊥
      stuck l f u off =
          let f' : slice_get (entered d h end.epoch t z (Site j)) (taken d h end.epoch z (Site j)) ≡ Some l = front-at d h end.epoch t z (Site j) l f in
          let m : (o : Option NodeId) × HandledFrom d h end.epoch z o l × (came_from (handled_as end.epoch z o l) (Site j) ≡ false) × (goes_beyond d t z (Site j) l ≡ true) = entered-in d h end.epoch t z (Site j) l (In-get (entered d h end.epoch t z (Site j)) (taken d h end.epoch z (Site j)) l f') in
          let sent : SentIn h l.point.site end.epoch l = handled-sent-in d h end.epoch z m.0 l run m.1 in
          let fr : IsFor d h j l = record { made = sent-made d h l.point.site l run (sent-in h l.point.site end.epoch l sent) (made-update l u); update = u; target = link-target d t z j l (cuttable t (w.trees end.epoch t k)) edge m.3 } in
          elim (brought-cases h j l (brings-of j l (for-brought d h j l w.valid run quiet b fr))) [
            | inl s ↦ front-unshown j t z l b k edge f' (for-kept d h j l fr).1 sent s
            | inr i ↦ (let y : has label_eq (waiting h j) l ≡ true = in-has (waiting h j) l i in cc)
          ]
