-- Along the merged list, each site's state is that of its hub and its gears, replayed from their own lists, and an entry's answer at its home is the site's.
use Rattle.std.specs.Prelude.{◌≡◌, ◌<◌, ℕ, Bool, true, false, ◌==◌, nat_lt, List, [], ◌∷◌, ◌++◌, filter, Option, Some, refl}
use Rattle.std.proofs.Common.{sym, subst, ap, ◌∙◌, arith}
use Rattle.std.proofs.lemmas.Bool.Decides.{nat_tests}
use Rattle.sat_label.specs.Members.{In}
use Rattle.sat_label.specs.Words.{has}
use Rattle.sat_act.specs.declared.answer.Answer.{Answer}
use Rattle.sat_act.specs.Answers.{InRange}
use Rattle.sat_model.specs.State.{SiteState}
use Rattle.sat_model.specs.Input.{SiteInput}
use Rattle.sat_model.specs.Next.{site_next}
use Rattle.sat_model.specs.Replay.{after}
use Rattle.sat_stitch.specs.Kept.{Kept}
use Rattle.sat_stitch.specs.Places.{Place, AtSite, places, stands_at}
use Rattle.sat_stitch.specs.Nodes.{input_of, site_after}
use Rattle.sat_stitch.proofs.Lists.{filter-takes, filter-leaves}
use Rattle.sat_stitch.proofs.Tables.{stands-self, stands-is}
use Rattle.sat_stitch.proofs.Steps.{site-next-after}
use Rattle.sat_joint.specs.Pieces.{Handed, Piece, given_of, plain, plains}
use Rattle.sat_joint.specs.Table.{Node, AtHub, AtGear, AtSerial, Alone, same_node, over, nodes, stands_in, home_at}
use Rattle.sat_joint.specs.Machines.{HubState, GearNode, fresh_gear, kept_site, whole, hub_by, hub_after, gear_by, gear_after, IsHomeAnswer}
use Rattle.sat_joint.specs.Joint.{AreOne, AnswersAtHome}
use Rattle.sat_joint.proofs.Nodes.{first-has, home-place, node-place, gear-in-range}
use Rattle.sat_joint.proofs.Pieces.{join-one}
use Rattle.sat_joint.proofs.Copies.{Setting, seen, seen-copy, view, view-takes, view-leaves, here, home-piece-at, handing}
use Rattle.sat_joint.proofs.Acts.{not-first, gear-no-hub, one-gear}
use Rattle.sat_joint.proofs.Sites.{kept-before}
use Rattle.sat_joint.specs.Steps.{SiteSteps, GearsMove}
use Rattle.sat_joint.proofs.Steps.{hub-step, gear-home-step}

lt-is : (g n : ℕ) → g < n → nat_lt g n ≡ true
lt-is g n l = grind (arith, nat_tests)

module _ (s : Setting) where
  abbrev pub hub_of : ℕ → List Piece → HubState
  hub_of i ks = hub_after s.d i (view s (AtHub i) ks)

  abbrev pub gears_of : ℕ → List Piece → ℕ → GearNode
  gears_of i ks g = gear_after s.d g (view s (AtGear i g) ks)

  -- ---- what one entry makes of the nodes' states

  module _ (later rest : List Piece) (k : Piece) (w : s.all ≡ later ++ k ∷ rest) where
    range-here : InRange s.d k.act
    range-here =
        let p : (p : Node) × In (s.lists p) k × (home_at s.d p k ≡ true) = s.merge.whole k (here s later rest k w) in
        s.fit.ranges p.0 k p.1

    hub-new : (i : ℕ) → home_at s.d (AtHub i) k ≡ true → hub_of i (k ∷ rest) ≡ hub_by s.d i (hub_of i rest) k.act k.handed k.answer
    unfolding hub_after
    hub-new i e =
        let st : stands_in s.d (AtHub i) k ≡ true = first-has (AtHub i) (nodes s.d k.act (given_of k.handed) k.answer) e in
        ap (λ (ks : List Piece). hub_after s.d i ks) (view-takes s (AtHub i) k rest st) ∙
        ap (λ (j : Piece). hub_by s.d i (hub_of i rest) j.act j.handed j.answer) ((seen-copy s (AtHub i) k (here s later rest k w) st).home e)

    hub-old : (i : ℕ) → stands_in s.d (AtHub i) k ≡ false → hub_of i (k ∷ rest) ≡ hub_of i rest
    hub-old i e = ap (λ (ks : List Piece). hub_after s.d i ks) (view-leaves s (AtHub i) k rest e)

    gear-new : (i g : ℕ) → stands_in s.d (AtGear i g) k ≡ true →
        gears_of i (k ∷ rest) g ≡ gear_by s.d g (gears_of i rest g) (seen s (AtGear i g) k).act (seen s (AtGear i g) k).handed (seen s (AtGear i g) k).answer
    unfolding gear_after
    gear-new i g e = ap (λ (ks : List Piece). gear_after s.d g ks) (view-takes s (AtGear i g) k rest e)

    gear-old : (i g : ℕ) → stands_in s.d (AtGear i g) k ≡ false → gears_of i (k ∷ rest) g ≡ gears_of i rest g
    gear-old i g e = ap (λ (ks : List Piece). gear_after s.d g ks) (view-leaves s (AtGear i g) k rest e)

    far-gear : (i g : ℕ) → nat_lt g s.d.gears ≡ false → stands_in s.d (AtGear i g) k ≡ false
    far-gear i g e = go (stands_in s.d (AtGear i g) k) refl
      where
        go : (b : Bool) → stands_in s.d (AtGear i g) k ≡ b → b ≡ false
        go true z = absurd (let l : nat_lt g s.d.gears ≡ true = lt-is g s.d.gears (gear-in-range s.d k.act (given_of k.handed) k.answer i g s.valid.some_gear range-here z) in cc)
        go false z = refl

  -- nothing stands at a gear beyond the deployment's
  far-view : (i g : ℕ) (later ks : List Piece) → s.all ≡ later ++ ks → nat_lt g s.d.gears ≡ false → view s (AtGear i g) ks ≡ []
  far-view i g later [] w e = refl
  far-view i g later (k ∷ rest) w e = view-leaves s (AtGear i g) k rest (far-gear later rest k w i g e) ∙ far-view i g (later ++ k ∷ []) rest (w ∙ join-one later k rest) e

  far-fresh : (i g : ℕ) (later ks : List Piece) → s.all ≡ later ++ ks → nat_lt g s.d.gears ≡ false → gears_of i ks g ≡ fresh_gear
  unfolding gear_after
  far-fresh i g later ks w e = ap (λ (ks : List Piece). gear_after s.d g ks) (far-view i g later ks w e)

  -- ---- an entry at its site

  module _ (later rest : List Piece) (k : Piece) (w : s.all ≡ later ++ k ∷ rest) (i : ℕ) where
    abbrev Steps : Type 0
    Steps = SiteSteps s.d i k.act (given_of k.handed) k.answer (hub_of i rest) (hub_of i (k ∷ rest)) (gears_of i rest) (gears_of i (k ∷ rest))

    abbrev given_there : ℕ → Handed
    given_there g = (seen s (AtGear i g) k).handed

    gears-move : GearsMove s.d i k.act (given_of k.handed) k.answer given_there (gears_of i rest) (gears_of i (k ∷ rest))
    gears-move = record {
      same = λ g e. gear-old later rest k w i g e;
      new = λ g e.
          let one : AreOne (seen s (AtGear i g) k) k = (seen-copy s (AtGear i g) k (here s later rest k w) e).one in
          gear-new later rest k w i g e ∙ (λ t. gear_by s.d g (gears_of i rest g) (one.act t) (given_there g) (one.answer t));
      range = λ g e. gear-in-range s.d k.act (given_of k.handed) k.answer i g s.valid.some_gear (range-here later rest k w) e;
      far = λ g e. far-fresh i g (later ++ k ∷ []) rest (w ∙ join-one later k rest) e;
    }

    at-hub : home_at s.d (AtHub i) k ≡ true → Steps
    at-hub e =
        let a : IsHomeAnswer s.d (AtHub i) (view s (AtHub i) rest) k = home-piece-at s (AnswersAtHome s.d s.lists (AtHub i)) (AtHub i) later rest k w e (s.fit.answers (AtHub i)) e in
        subst (λ (h : HubState). SiteSteps s.d i k.act (given_of k.handed) k.answer (hub_of i rest) h (gears_of i rest) (gears_of i (k ∷ rest))) (sym (hub-new later rest k w i e))
        (hub-step s.d i k.act k.answer (hub_of i rest) (gears_of i rest) (gears_of i (k ∷ rest)) given_there k.handed e gears-move (λ g st. handing s (AtHub i) (AtGear i g) later rest k w e st (not-first (nodes s.d k.act (given_of k.handed) k.answer) i i g e)) a)

    at-gear-home : (g : ℕ) → home_at s.d (AtGear i g) k ≡ true → Steps
    at-gear-home g e =
        let a : IsHomeAnswer s.d (AtGear i g) (view s (AtGear i g) rest) k = home-piece-at s (AnswersAtHome s.d s.lists (AtGear i g)) (AtGear i g) later rest k w e (s.fit.answers (AtGear i g)) e in
        let st : stands_in s.d (AtGear i g) k ≡ true = first-has (AtGear i g) (nodes s.d k.act (given_of k.handed) k.answer) e in
        subst (λ (h : HubState). SiteSteps s.d i k.act (given_of k.handed) k.answer (hub_of i rest) h (gears_of i rest) (gears_of i (k ∷ rest)))
        (sym (hub-old later rest k w i (gear-no-hub s.d k.act (given_of k.handed) k.answer i g i e)))
        (gear-home-step s.d i k.act k.answer (hub_of i rest) (gears_of i rest) (gears_of i (k ∷ rest)) given_there g k.handed e gears-move (ap (λ (j : Piece). j.handed) ((seen-copy s (AtGear i g) k (here s later rest k w) st).home e))
        (λ n at z. handing s (AtGear i g) (AtGear i n) later rest k w e at (one-gear (nodes s.d k.act (given_of k.handed) k.answer) i g n e z)) a)

    same-site : (t : ℕ) → AtSite t ≡ AtSite i → t ≡ i
    same-site t e = cc

    by-home : (p : Node) → home_at s.d p k ≡ true → over p ≡ AtSite i → Steps
    by-home (AtHub t) e o = at-hub (subst (λ (t : ℕ). home_at s.d (AtHub t) k ≡ true) (same-site t o) e)
    by-home (AtGear t g) e o = at-gear-home g (subst (λ (t : ℕ). home_at s.d (AtGear t g) k ≡ true) (same-site t o) e)
    by-home (AtSerial f z) e o = absurd (cc)
    by-home (Alone c) e o = absurd (cc)

    -- an entry at a site does there what it does at the hub and the gears
    pub site-steps : stands_at (AtSite i) (plain k) ≡ true → Steps
    site-steps st =
        let p : (p : Node) × In (s.lists p) k × (home_at s.d p k ≡ true) = s.merge.whole k (here s later rest k w) in
        by-home p.0 p.2 (stands-is (AtSite i) (over p.0) (plain k) (home-place s.d k.act (given_of k.handed) k.answer p.0 p.2) st)

    -- and elsewhere nothing stands at them
    pub not-there : (p : Node) → over p ≡ AtSite i → stands_at (AtSite i) (plain k) ≡ false → stands_in s.d p k ≡ false
    not-there p o n = go (stands_in s.d p k) refl
      where
        go : (b : Bool) → stands_in s.d p k ≡ b → b ≡ false
        go true z = absurd (
            let l : places k.act (given_of k.handed) ≡ AtSite i ∷ [] = node-place s.d k.act (given_of k.handed) k.answer p z ∙ ap (λ (q : Place). q ∷ []) o in
            let t : stands_at (AtSite i) (plain k) ≡ true = stands-self (AtSite i) (plain k) l in cc)
        go false z = refl

  -- ---- the whole merged list

  abbrev pub site_part : ℕ → List Piece → List Kept
  site_part i ks = filter (stands_at (AtSite i)) (plains ks)

  after-same : (i : ℕ) (t : SiteState) (o : Option SiteInput) (input : SiteInput) (r : Answer) → o ≡ Some input → after s.d i t o r ≡ site_next s.d i t input r
  unfolding after
  after-same i t o input r e = ap (λ (o : Option SiteInput). after s.d i t o r) e

  start : (i : ℕ) → kept_site s.d i (site_after s.d i []) ≡ whole s.d i (hub_of i []) (gears_of i [])
  unfolding site_after hub_after gear_after
  start i = refl

  -- a site's state is that of its hub and its gears, in all that it keeps
  pub assembled : (later ks : List Piece) → s.all ≡ later ++ ks → (i : ℕ) → kept_site s.d i (site_after s.d i (site_part i ks)) ≡ whole s.d i (hub_of i ks) (gears_of i ks)
  assembled later [] w i = start i
  assembled later (k ∷ rest) w i = go (stands_at (AtSite i) (plain k)) refl (assembled (later ++ k ∷ []) rest (w ∙ join-one later k rest) i)
    where
      go : (b : Bool) → stands_at (AtSite i) (plain k) ≡ b → kept_site s.d i (site_after s.d i (site_part i rest)) ≡ whole s.d i (hub_of i rest) (gears_of i rest) →
          kept_site s.d i (site_after s.d i (site_part i (k ∷ rest))) ≡ whole s.d i (hub_of i (k ∷ rest)) (gears_of i (k ∷ rest))
      go true e ih =
          let t : SiteSteps s.d i k.act (given_of k.handed) k.answer (hub_of i rest) (hub_of i (k ∷ rest)) (gears_of i rest) (gears_of i (k ∷ rest)) = site-steps later rest k w i e in
          ap (λ (ks : List Kept). kept_site s.d i (site_after s.d i ks)) (filter-takes (stands_at (AtSite i)) (plain k) (plains rest) e) ∙
          (ap (λ (t : SiteState). kept_site s.d i t) (site-next-after s.d i (plain k) (site_part i rest) ∙ after-same i (site_after s.d i (site_part i rest)) (input_of k.act (given_of k.handed)) t.input k.answer t.handed) ∙
          (kept-before s.d i (site_after s.d i (site_part i rest)) t.input k.answer ∙
          (ap (λ (u : SiteState). kept_site s.d i (site_next s.d i u t.input k.answer)) ih ∙ t.state)))
      go false e ih =
          ap (λ (ks : List Kept). kept_site s.d i (site_after s.d i ks)) (filter-leaves (stands_at (AtSite i)) (plain k) (plains rest) e) ∙
          (ih ∙ (λ u. whole s.d i (sym (hub-old later rest k w i (not-there later rest k w i (AtHub i) refl e)) u) (λ g. sym (gear-old later rest k w i g (not-there later rest k w i (AtGear i g) refl e)) u)))
