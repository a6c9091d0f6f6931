-- A site is its hub and its gears: what an act makes of the site is what it makes of its nodes.
use Rattle.std.specs.Prelude.{map, ◌≡◌, ◌⊎◌, ◌<◌, ◌+◌, ℕ, Bool, true, false, ◌||◌, ◌&&◌, ◌==◌, nat_lt, nat_le, not, max, List, [], ◌∷◌, ◌++◌, length, Option, Some, None, is_some, if◌then◌else◌, refl}
use Rattle.std.proofs.Common.{sym, subst, ap, ◌∙◌, arith, inl, inr}
use Rattle.std.proofs.lemmas.Bool.{eqb-true}
use Rattle.std.proofs.lemmas.Bool.Decides.{nat_tests}
use Rattle.sat_label.proofs.Truth.{same-number}
use Rattle.sat_label.specs.declared.carried.Carried.{Carried}
use Rattle.sat_label.specs.declared.items.Items.{Items}
use Rattle.sat_label.specs.declared.items.Items.TheVariants.{One}
use Rattle.sat_label.specs.declared.label.Kind.{Kind}
use Rattle.sat_label.specs.declared.label.Kind.TheVariants as kind
use Rattle.sat_label.specs.declared.label.Label.{Label}
use Rattle.sat_label.specs.declared.limits.TheConstants.{PULSE_GEAR, TS_END}
use Rattle.sat_label.specs.Grouped.{list_of}
use Rattle.sat_label.specs.Words.{has}
use Rattle.sat_label.specs.Order.{label_eq, point_at}
use Rattle.sat_act.specs.declared.answer.Answer.{Answer}
use Rattle.sat_act.specs.declared.answer.Answer.TheVariants as ans
use Rattle.sat_act.specs.declared.answer.Refusal.{Refusal}
use Rattle.sat_act.specs.declared.answer.Refusal.TheVariants as why
use Rattle.sat_act.specs.Deployed.{Deployed}
use Rattle.sat_act.specs.Answers.{gear_of, refused_if, turned}
use Rattle.sat_act.specs.Parts.{BeatNote, is_update, is_update_of, items_of, value_for, is_target, replicates, keeps_all}
use Rattle.sat_bulk.specs.Payloads.{Payload}
use Rattle.sat_model.specs.State.{GearState, SiteState, Version}
use Rattle.sat_model.specs.Input.{SiteInput}
use Rattle.sat_model.specs.Input as given
use Rattle.sat_model.specs.Look.{rows, least_row, stable_of, ready_of, cut_of, mode_of, waiting_of, best_of, numbers_of}
use Rattle.sat_model.specs.Next.{gear_next, store_next, site_next, put, version_at, part_for, payload_at, values_given}
use Rattle.sat_model.specs.Reply.{gear_for, site_answer, write_by, read_by, move_by, stamp_next, may_pass, outlook_of}
use Rattle.sat_joint.specs.Pieces.{Drain}
use Rattle.sat_joint.specs.Table.{AtGear, same_node, gear_nodes, item_gears}
use Rattle.sat_joint.specs.Steps.{is_beat}
use Rattle.sat_joint.specs.Machines.{HubState, GearNode, fresh_gear, kept_store, kept_site, whole, hub_alone, no_drain, of_gears, drain_of, hub_next, gathers, gear_step, gear_drained, gear_shows, shown_by}
use Rattle.sat_joint.proofs.Nodes.{gear-listed}

-- ---- the state

keeps-same : (b : Bool) (f : Option Version → Option Version) (o : Option Version) → (if b then f (if b then o else None) else None) ≡ (if b then f o else None)
keeps-same true f o = refl
keeps-same false f o = refl

module _ (d : Deployed) (i : ℕ) where
  -- what becomes of a site, said of its parts
  pub site-splits : (h : HubState) (gs : ℕ → GearNode) (input : SiteInput) (r : Answer) →
      kept_site d i (site_next d i (whole d i h gs) input r) ≡
      whole d i (hub_next d i h (λ g. drain_of (gs g)) input r) (λ g. record { gear = gear_next d g (gs g).gear input r; store = λ x. store_next x ((gs g).store x) h.proxy.pool input r })
  unfolding site_next
  site-splits h gs input r = λ t. record {
    gears = λ g. gear_next d g (gs g).gear input r;
    sink = (hub_next d i h (λ g. drain_of (gs g)) input r).sink;
    views = (hub_next d i h (λ g. drain_of (gs g)) input r).views;
    proxy = (hub_next d i h (λ g. drain_of (gs g)) input r).proxy;
    store = λ x. keeps-same (replicates d x i) (λ (o : Option Version). store_next x o h.proxy.pool input r) ((gs (gear_of d x)).store x) t;
    made_beats = (hub_next d i h (λ g. drain_of (gs g)) input r).made_beats;
  }

  -- what is not kept makes no difference to what is
  pub kept-before : (s : SiteState) (input : SiteInput) (r : Answer) → kept_site d i (site_next d i s input r) ≡ kept_site d i (site_next d i (kept_site d i s) input r)
  unfolding site_next
  kept-before s input r = λ t. record {
    gears = (site_next d i s input r).gears;
    sink = (site_next d i s input r).sink;
    views = (site_next d i s input r).views;
    proxy = (site_next d i s input r).proxy;
    store = λ x. sym (keeps-same (replicates d x i) (λ (o : Option Version). store_next x o s.proxy.pool input r) (s.store x)) t;
    made_beats = (site_next d i s input r).made_beats;
  }

  read-kept : (b : Bool) (o : Option Version) → refused_if (not b) why.NotHere (elim (if b then o else None) [ None ↦ ans.ReadNone | Some p ↦ ans.ReadSome p.label p.value ]) ≡ refused_if (not b) why.NotHere (elim o [ None ↦ ans.ReadNone | Some p ↦ ans.ReadSome p.label p.value ])
  read-kept true o = refl
  read-kept false o = refl

  -- nor to what is answered
  pub kept-answer : (s : SiteState) (input : SiteInput) → site_answer d i (kept_site d i s) input ≡ site_answer d i s input
  unfolding site_answer
  kept-answer s (given.Read seen x) = read-kept (replicates d x i) (s.store x)
  kept-answer s _ = refl

kept-by : (b : Bool) (o u : Option Version) → (b ≡ true → o ≡ u) → (if b then o else None) ≡ (if b then u else None)
kept-by true o u f = f refl
kept-by false o u f = refl

whole-same : (d : Deployed) (i : ℕ) (h k : HubState) (gs ns : ℕ → GearNode) → h ≡ k → ((g : ℕ) → (gs g).gear ≡ (ns g).gear) → ((x : ℕ) → replicates d x i ≡ true → (gs (gear_of d x)).store x ≡ (ns (gear_of d x)).store x) →
    whole d i h gs ≡ whole d i k ns
whole-same d i h k gs ns e p q = λ t. record {
  gears = λ g. p g t;
  sink = (e t).sink;
  views = (e t).views;
  proxy = (e t).proxy;
  store = λ x. kept-by (replicates d x i) ((gs (gear_of d x)).store x) ((ns (gear_of d x)).store x) (q x) t;
  made_beats = (e t).made_beats;
}

-- ---- acts at one gear

-- what an act at a gear leaves as it was: other gears, other gears' items, the hub
pub record IsGearAct (d : Deployed) (i g : ℕ) (input : SiteInput) (r : Answer) : Type 0 where
  pub gears : (k : ℕ) (n : GearState) → (g == k) ≡ false → gear_next d k n input r ≡ n
  pub stores : (x : ℕ) (o : Option Version) (pool : List Payload) → (g == gear_of d x) ≡ false → store_next x o pool input r ≡ o
  pub pools : (x : ℕ) (o : Option Version) (pool : List Payload) → store_next x o pool input r ≡ store_next x o [] input r
  pub hub : (h : HubState) (f : ℕ → Drain) → hub_next d i h f input r ≡ h
  pub wrote : (l : Label) → r ≡ ans.Wrote l → l.point.gear ≡ g
  pub no_beat : is_beat r ≡ false

pub gear-moves : (d : Deployed) (i g : ℕ) (h : HubState) (gs ns : ℕ → GearNode) (input : SiteInput) (r : Answer) → IsGearAct d i g input r →
    ((k : ℕ) → (g == k) ≡ false → ns k ≡ gs k) → ns g ≡ gear_step d g (gs g) input r → kept_site d i (site_next d i (whole d i h gs) input r) ≡ whole d i h ns
gear-moves d i g h gs ns input r is same new =
    site-splits d i h gs input r ∙
    whole-same d i (hub_next d i h (λ k. drain_of (gs k)) input r) h (λ k. record { gear = gear_next d k (gs k).gear input r; store = λ x. store_next x ((gs k).store x) h.proxy.pool input r }) ns
    (is.hub h (λ k. drain_of (gs k))) (λ k. go k (g == k) refl) (λ x keeps. store (gear_of d x) x (g == gear_of d x) refl (is.stores x ((gs (gear_of d x)).store x) h.proxy.pool))
  where
    go : (k : ℕ) (b : Bool) → (g == k) ≡ b → gear_next d k (gs k).gear input r ≡ (ns k).gear
    go k true e = subst (λ (k : ℕ). gear_next d k (gs k).gear input r ≡ (ns k).gear) (eqb-true g k e) (sym (ap (λ (n : GearNode). n.gear) new))
    go k false e = is.gears k (gs k).gear e ∙ sym (ap (λ (n : GearNode). n.gear) (same k e))

    store : (k x : ℕ) (b : Bool) → (g == k) ≡ b → ((g == k) ≡ false → store_next x ((gs k).store x) h.proxy.pool input r ≡ (gs k).store x) → store_next x ((gs k).store x) h.proxy.pool input r ≡ (ns k).store x
    store k x true e idle =
        subst (λ (k : ℕ). store_next x ((gs k).store x) h.proxy.pool input r ≡ (ns k).store x) (eqb-true g k e)
        (is.pools x ((gs g).store x) h.proxy.pool ∙ sym (ap (λ (n : GearNode). n.store x) new))
    store k x false e idle = idle e ∙ sym (ap (λ (n : GearNode). n.store x) (same k e))

pub refused-act : (d : Deployed) (i g : ℕ) (input : SiteInput) (f : Refusal) → IsGearAct d i g input (ans.Refused f)
refused-act d i g input f = record { gears = λ k n e. refl; stores = λ x o pool e. refl; pools = λ x o pool. refl; hub = λ h f. refl; wrote = λ l e. absurd (cc); no_beat = refl }

tick-act : (d : Deployed) (i g t u : ℕ) → IsGearAct d i g (given.Tick g t) (ans.Ticked u)
tick-act d i g t u = record {
  gears = λ k n e. ap (λ (b : Bool). gear_with n (if b then u else n.promise)) e;
  stores = λ x o pool e. refl;
  pools = λ x o pool. refl;
  hub = λ h f. refl;
  wrote = λ m e. absurd (cc);
  no_beat = refl;
}
  where
    gear_with : GearState → ℕ → GearState
    gear_with n p = record { promise = p; fresh = n.fresh; lanes = n.lanes }

other-item : (d : Deployed) (x y : ℕ) → (gear_of d x == gear_of d y) ≡ false → (x == y) ≡ false
other-item d x y e = go (x == y) refl
  where
    go : (b : Bool) → (x == y) ≡ b → b ≡ false
    go true w = absurd (let z : (gear_of d x == gear_of d y) ≡ true = subst (λ (y : ℕ). (gear_of d x == gear_of d y) ≡ true) (eqb-true x y w) (same-number (gear_of d x)) in cc)
    go false w = refl

pub wrote-is : (l m : Label) → ans.Wrote l ≡ ans.Wrote m → l ≡ m
wrote-is l m e = cc

wrote-act : (d : Deployed) (i g : ℕ) (input : SiteInput) (l : Label) (x : ℕ) → l.kind ≡ kind.Update (One x) → l.point.gear ≡ gear_of d x → g ≡ gear_of d x → IsGearAct d i g input (ans.Wrote l)
wrote-act d i g input l x is at home = record {
  gears = λ k n e. ap (gear_if n) (ap (λ (m : ℕ). m == k) (at ∙ sym home) ∙ e);
  stores = λ y o pool e. ap (λ (b : Bool). store_if y o b) (ap (λ (k : Kind). is_update_of k y) is ∙ ap (λ (b : Bool). b || false) (other-item d x y (ap (λ (m : ℕ). m == gear_of d y) (sym home) ∙ e)));
  pools = λ y o pool. refl;
  hub = λ h f. refl;
  wrote = λ m e. ap (λ (m : Label). m.point.gear) (sym (wrote-is l m e)) ∙ (at ∙ sym home);
  no_beat = refl;
}
  where
    gear_if : GearState → Bool → GearState
    gear_if n b = record {
      promise = if b then l.point.ts else n.promise;
      fresh = if b then n.fresh ++ l ∷ [] else n.fresh;
      lanes = λ j. if b && is_target d l j then n.lanes j ++ payload_at l (values_given input) ∷ [] else n.lanes j;
    }

    store_if : ℕ → Option Version → Bool → Option Version
    store_if y o b = if b then put o (version_at l (value_for (items_of l.kind) (values_given input) y)) else o

moved-act : (d : Deployed) (i g : ℕ) (input : SiteInput) (l : Label) → l.point.gear ≡ g → IsGearAct d i g input (ans.Moved l)
moved-act d i g input l at = record {
  gears = λ k n e. ap (gear_if n) (ap (λ (m : ℕ). m == k) at ∙ e);
  stores = λ x o pool e. refl;
  pools = λ x o pool. refl;
  hub = λ h f. refl;
  wrote = λ m e. absurd (cc);
  no_beat = refl;
}
  where
    gear_if : GearState → Bool → GearState
    gear_if n b = record {
      promise = if b then l.point.ts else n.promise;
      fresh = if b then n.fresh ++ l ∷ [] else n.fresh;
      lanes = n.lanes;
    }

read-act : (d : Deployed) (i g : ℕ) (input : SiteInput) (o : Option Version) → IsGearAct d i g input (elim o [ None ↦ ans.ReadNone | Some p ↦ ans.ReadSome p.label p.value ])
read-act d i g input None = record { gears = λ k n e. refl; stores = λ x o pool e. refl; pools = λ x o pool. refl; hub = λ h f. refl; wrote = λ l e. absurd (cc); no_beat = refl }
read-act d i g input (Some p) = record { gears = λ k n e. refl; stores = λ x o pool e. refl; pools = λ x o pool. refl; hub = λ h f. refl; wrote = λ l e. absurd (cc); no_beat = refl }

pub refused-or : (P : Answer → Type 0) (b : Bool) (f : Refusal) (r : Answer) → P (ans.Refused f) → P r → P (refused_if b f r)
refused-or P true f r p q = p
refused-or P false f r p q = q

-- what a gear's machine answers leaves the rest as it was
pub write-act : (d : Deployed) (i g : ℕ) (input : SiteInput) (x promise seen : ℕ) → g ≡ gear_of d x → IsGearAct d i g input (write_by d i (One x) promise seen)
write-act d i g input x promise seen home =
    refused-or (IsGearAct d i g input) (not (keeps_all d (list_of (One x)) i)) why.NotHere _ (refused-act d i g input why.NotHere)
    (refused-or (IsGearAct d i g input) (nat_le TS_END (max promise seen)) why.Spent _ (refused-act d i g input why.Spent) (wrote-act d i g input _ x refl refl home))

pub reads-act : (d : Deployed) (i g : ℕ) (input : SiteInput) (x : ℕ) (o : Option Version) → IsGearAct d i g input (read_by d i x o)
reads-act d i g input x o = refused-or (IsGearAct d i g input) (not (replicates d x i)) why.NotHere _ (refused-act d i g input why.NotHere) (read-act d i g input o)

pub move-act : (d : Deployed) (i : ℕ) (input : SiteInput) (j promise seen : ℕ) → IsGearAct d i 0 input (move_by i j promise seen)
move-act d i input j promise seen =
    refused-or (IsGearAct d i 0 input) (j == i) why.SameSite _ (refused-act d i 0 input why.SameSite)
    (refused-or (IsGearAct d i 0 input) (nat_le TS_END (max promise seen)) why.Spent _ (refused-act d i 0 input why.Spent) (moved-act d i 0 input _ refl))

pub ticks-act : (d : Deployed) (i g t u : ℕ) → IsGearAct d i g (given.Tick g t) (ans.Ticked u)
ticks-act d i g t u = tick-act d i g t u

-- ---- acts at a hub alone

-- answers that gears make, or that change gears
abbrev pub is_gears : Answer → Bool
is_gears (ans.Ticked t) = true
is_gears (ans.Clocked t) = true
is_gears (ans.Wrote l) = true
is_gears (ans.Moved l) = true
is_gears (ans.Gathered n t) = true
is_gears (ans.Shown l) = true
is_gears _ = false

pub hub-moves : (d : Deployed) (i : ℕ) (h : HubState) (gs : ℕ → GearNode) (input : SiteInput) (r : Answer) → is_gears r ≡ false → kept_site d i (site_next d i (whole d i h gs) input r) ≡ whole d i (hub_next d i h (λ g. no_drain) input r) gs
hub-moves d i h gs input r q = site-splits d i h gs input r ∙ go r q
  where
    go : (r : Answer) → is_gears r ≡ false →
        whole d i (hub_next d i h (λ g. drain_of (gs g)) input r) (λ g. record { gear = gear_next d g (gs g).gear input r; store = λ x. store_next x ((gs g).store x) h.proxy.pool input r }) ≡ whole d i (hub_next d i h (λ g. no_drain) input r) gs
    go (ans.Ticked t) q = absurd (cc)
    go (ans.Clocked t) q = absurd (cc)
    go (ans.Wrote l) q = absurd (cc)
    go (ans.Moved l) q = absurd (cc)
    go (ans.Gathered n t) q = absurd (cc)
    go (ans.Shown l) q = absurd (cc)
    go _ q = refl

-- ---- several items at once

-- whether the gear is one of these items', of those that the site keeps
abbrev pub is_listed : Deployed → ℕ → List ℕ → ℕ → Bool
is_listed d i xs g = has same_node (gear_nodes i (item_gears d i xs)) (AtGear i g)

not-listed : (d : Deployed) (i x : ℕ) (xs : List ℕ) → replicates d x i ≡ true → is_listed d i xs (gear_of d x) ≡ false → has ◌==◌ xs x ≡ false
not-listed d i x xs keeps e = go (has ◌==◌ xs x) refl
  where
    go : (b : Bool) → has ◌==◌ xs x ≡ b → b ≡ false
    go true w = absurd (let z : is_listed d i xs (gear_of d x) ≡ true = gear-listed d i x xs keeps w in cc)
    go false w = refl

pub show-moves : (d : Deployed) (i : ℕ) (h : HubState) (gs ns : ℕ → GearNode) (input : SiteInput) (l : Label) →
    ((g : ℕ) → is_listed d i (items_of l.kind) g ≡ true → ns g ≡ gear_shows (gs g) (shown_by h l)) → ((g : ℕ) → is_listed d i (items_of l.kind) g ≡ false → ns g ≡ gs g) →
    kept_site d i (site_next d i (whole d i h gs) input (ans.Shown l)) ≡ whole d i (hub_next d i h (λ g. no_drain) input (ans.Shown l)) ns
show-moves d i h gs ns input l new same =
    site-splits d i h gs input (ans.Shown l) ∙
    whole-same d i (hub_next d i h (λ g. drain_of (gs g)) input (ans.Shown l)) (hub_next d i h (λ g. no_drain) input (ans.Shown l))
    (λ g. record { gear = gear_next d g (gs g).gear input (ans.Shown l); store = λ x. store_next x ((gs g).store x) h.proxy.pool input (ans.Shown l) }) ns
    refl (λ g. gear g (is_listed d i (items_of l.kind) g) refl) (λ x keeps. store x keeps (is_listed d i (items_of l.kind) (gear_of d x)) refl)
  where
    gear : (g : ℕ) (b : Bool) → is_listed d i (items_of l.kind) g ≡ b → (gs g).gear ≡ (ns g).gear
    gear g true e = sym (ap (λ (n : GearNode). n.gear) (new g e))
    gear g false e = sym (ap (λ (n : GearNode). n.gear) (same g e))

    store : (x : ℕ) → replicates d x i ≡ true → (b : Bool) → is_listed d i (items_of l.kind) (gear_of d x) ≡ b → store_next x ((gs (gear_of d x)).store x) h.proxy.pool input (ans.Shown l) ≡ (ns (gear_of d x)).store x
    store x keeps true e = sym (ap (λ (n : GearNode). n.store x) (new (gear_of d x) e))
    store x keeps false e =
        ap (λ (b : Bool). if b then put ((gs (gear_of d x)).store x) (version_at l (part_for (items_of l.kind) (shown_by h l).values x)) else (gs (gear_of d x)).store x) (not-listed d i x (items_of l.kind) keeps e) ∙
        sym (ap (λ (n : GearNode). n.store x) (same (gear_of d x) e))

-- what the machine of a gear answers to a write of several items
abbrev pub IsWritten : Deployed → Items → Answer → Type 0
IsWritten d items r = ((f : Refusal) × (r ≡ ans.Refused f)) ⊎ ((l : Label) × (r ≡ ans.Wrote l) × (l.kind ≡ kind.Update items) × (l.point.gear ≡ gear_for d items))

pub written-is : (d : Deployed) (i : ℕ) (items : Items) (promise seen : ℕ) → IsWritten d items (write_by d i items promise seen)
written-is d i items promise seen =
    refused-or (IsWritten d items) (not (keeps_all d (list_of items) i)) why.NotHere _ (inl (why.NotHere, refl))
    (refused-or (IsWritten d items) (nat_le TS_END (max promise seen)) why.Spent _ (inl (why.Spent, refl)) (inr (_, refl, refl, refl)))

-- the parts of a payload that was just written are its values
parts-are : (xs : List ℕ) (vs : List (List ℕ)) (x : ℕ) → part_for xs (map (λ v. Some v) vs) x ≡ value_for xs vs x
parts-are [] vs x = refl
parts-are (y ∷ ys) [] x = refl
parts-are (y ∷ ys) (v ∷ vs) x = ap (λ (rest : List ℕ). if y == x then v else rest) (parts-are ys vs x)

-- a write of several items at gear g, which hands the payload to the gears of the others
pub group-moves : (d : Deployed) (i g : ℕ) (h : HubState) (gs ns : ℕ → GearNode) (seen : Carried) (items : Items) (values : List (List ℕ)) (l : Label) →
    l.kind ≡ kind.Update items → l.point.gear ≡ g → ns g ≡ gear_step d g (gs g) (given.Write seen items values) (ans.Wrote l) →
    ((n : ℕ) → (g == n) ≡ false → is_listed d i (list_of items) n ≡ true → ns n ≡ gear_shows (gs n) (payload_at l values)) →
    ((n : ℕ) → (g == n) ≡ false → is_listed d i (list_of items) n ≡ false → ns n ≡ gs n) →
    kept_site d i (site_next d i (whole d i h gs) (given.Write seen items values) (ans.Wrote l)) ≡ whole d i h ns
group-moves d i g h gs ns seen items values l is at first new same =
    site-splits d i h gs (given.Write seen items values) (ans.Wrote l) ∙
    whole-same d i (hub_next d i h (λ k. drain_of (gs k)) (given.Write seen items values) (ans.Wrote l)) h (λ k. record { gear = gear_next d k (gs k).gear (given.Write seen items values) (ans.Wrote l); store = λ x. store_next x ((gs k).store x) h.proxy.pool (given.Write seen items values) (ans.Wrote l) }) ns
    refl (λ k. gear k (g == k) refl (is_listed d i (list_of items) k) refl) (λ x keeps. store (gear_of d x) x (not-listed d i x (list_of items) keeps) (g == gear_of d x) refl (is_listed d i (list_of items) (gear_of d x)) refl)
  where
    gear_if : GearState → Bool → GearState
    gear_if n b = record {
      promise = if b then l.point.ts else n.promise;
      fresh = if b then n.fresh ++ l ∷ [] else n.fresh;
      lanes = λ j. if b && is_target d l j then n.lanes j ++ payload_at l values ∷ [] else n.lanes j;
    }

    idle : (k : ℕ) → (g == k) ≡ false → gear_next d k (gs k).gear (given.Write seen items values) (ans.Wrote l) ≡ (gs k).gear
    idle k e = ap (gear_if (gs k).gear) (ap (λ (m : ℕ). m == k) at ∙ e)

    gear : (k : ℕ) (b : Bool) → (g == k) ≡ b → (c : Bool) → is_listed d i (list_of items) k ≡ c → gear_next d k (gs k).gear (given.Write seen items values) (ans.Wrote l) ≡ (ns k).gear
    gear k true e c u = subst (λ (k : ℕ). gear_next d k (gs k).gear (given.Write seen items values) (ans.Wrote l) ≡ (ns k).gear) (eqb-true g k e) (sym (ap (λ (n : GearNode). n.gear) first))
    gear k false e true u = idle k e ∙ sym (ap (λ (n : GearNode). n.gear) (new k e u))
    gear k false e false u = idle k e ∙ sym (ap (λ (n : GearNode). n.gear) (same k e u))

    store : (k x : ℕ) → (is_listed d i (list_of items) k ≡ false → has ◌==◌ (list_of items) x ≡ false) → (b : Bool) → (g == k) ≡ b → (c : Bool) → is_listed d i (list_of items) k ≡ c →
        store_next x ((gs k).store x) h.proxy.pool (given.Write seen items values) (ans.Wrote l) ≡ (ns k).store x
    store k x rest true e c u =
        subst (λ (k : ℕ). store_next x ((gs k).store x) h.proxy.pool (given.Write seen items values) (ans.Wrote l) ≡ (ns k).store x) (eqb-true g k e) (sym (ap (λ (n : GearNode). n.store x) first))
    store k x rest false e true u =
        ap (λ (v : List ℕ). if is_update_of l.kind x then put ((gs k).store x) (version_at l v) else (gs k).store x) (sym (parts-are (items_of l.kind) values x)) ∙
        sym (ap (λ (n : GearNode). n.store x) (new k e u))
    store k x rest false e false u =
        ap (λ (b : Bool). if b then put ((gs k).store x) (version_at l (value_for (items_of l.kind) values x)) else (gs k).store x) (ap (λ (k : Kind). is_update_of k x) is ∙ rest u) ∙
        sym (ap (λ (n : GearNode). n.store x) (same k e u))

-- ---- a gather

is-lt : (g n : ℕ) → nat_lt g n ≡ true → g < n
is-lt g n e = grind (arith, nat_tests)

-- what the gears give is what was handed
pub drains-are : (d : Deployed) (gs : ℕ → GearNode) (f : ℕ → Drain) → ((g : ℕ) → g < d.gears → f g ≡ drain_of (gs g)) → ((g : ℕ) → nat_lt g d.gears ≡ false → gs g ≡ fresh_gear) → of_gears d f ≡ (λ g. drain_of (gs g))
drains-are d gs f new old = λ t g. go g (nat_lt g d.gears) refl t
  where
    go : (g : ℕ) (b : Bool) → nat_lt g d.gears ≡ b → (if b then f g else no_drain) ≡ drain_of (gs g)
    go g true e = new g (is-lt g d.gears e)
    go g false e = sym (ap drain_of (old g e))

pub gather-moves : (d : Deployed) (i : ℕ) (h : HubState) (gs ns : ℕ → GearNode) (f : ℕ → Drain) (n t : ℕ) → of_gears d f ≡ (λ g. drain_of (gs g)) →
    ((g : ℕ) → ns g ≡ gear_drained (gs g)) →
    kept_site d i (site_next d i (whole d i h gs) given.Gather (ans.Gathered n t)) ≡ whole d i (hub_next d i h (of_gears d f) given.Gather (ans.Gathered n t)) ns
gather-moves d i h gs ns f n t e new =
    site-splits d i h gs given.Gather (ans.Gathered n t) ∙
    whole-same d i (hub_next d i h (λ g. drain_of (gs g)) given.Gather (ans.Gathered n t)) (hub_next d i h (of_gears d f) given.Gather (ans.Gathered n t))
    (λ g. record { gear = gear_next d g (gs g).gear given.Gather (ans.Gathered n t); store = λ x. store_next x ((gs g).store x) h.proxy.pool given.Gather (ans.Gathered n t) }) ns
    (ap (λ (f : ℕ → Drain). hub_next d i h f given.Gather (ans.Gathered n t)) (sym e)) (λ g. sym (ap (λ (m : GearNode). m.gear) (new g))) (λ x keeps. sym (ap (λ (m : GearNode). m.store x) (new (gear_of d x))))

pub gather-answers : (d : Deployed) (i : ℕ) (h : HubState) (gs : ℕ → GearNode) (f : ℕ → Drain) → of_gears d f ≡ (λ g. drain_of (gs g)) → gathers d f ≡ site_answer d i (whole d i h gs) given.Gather
unfolding site_answer
gather-answers d i h gs f e = ap (λ (f : ℕ → Drain). ans.Gathered (length (rows (λ g. (f g).labels) d.gears)) (least_row (λ g. (f g).promise) d.gears)) e

-- ---- what a hub answers

-- inputs by which an update may show
abbrev pub is_show : SiteInput → Bool
is_show (given.Turn o) = true
is_show given.Stamp = true
is_show _ = false

-- a hub's answer is none of gears, or it shows an update
abbrev pub IsOfHub : Bool → Answer → Type 0
IsOfHub b r = (is_gears r ≡ false) ⊎ ((l : Label) × (r ≡ ans.Shown l) × (b ≡ true))

turned-hub : (ws : List Label) (l : Label) → IsOfHub true (turned ws l)
turned-hub ws l = go (is_update l.kind) (has label_eq ws l)
  where
    go : (b c : Bool) → IsOfHub true (if b then (if c then ans.Shown l else ans.Refused (why.NoPayload l)) else ans.Took l)
    go true true = inr (l, refl, refl)
    go true false = inl refl
    go false c = inl refl

-- the inputs of hubs
abbrev pub is_hubs : SiteInput → Bool
is_hubs (given.Attach seen) = true
is_hubs given.Emit = true
is_hubs given.Pulse = true
is_hubs (given.Turn o) = true
is_hubs (given.Bulk from g n p) = true
is_hubs (given.Beat j) = true
is_hubs (given.BeatIn from n note) = true
is_hubs given.Stamp = true
is_hubs given.Close = true
is_hubs given.Fall = true
is_hubs given.Advance = true
is_hubs _ = false

module _ (d : Deployed) (i : ℕ) (s : SiteState) where
  turn-hub : (o : Option Label) → IsOfHub true (site_answer d i s (given.Turn o))
  unfolding site_answer
  turn-hub None = refused-or (IsOfHub true) (mode_of d s) why.StampOrder _ (inl refl) (inl refl)
  turn-hub (Some l) = refused-or (IsOfHub true) (mode_of d s) why.StampOrder _ (inl refl) (turned-hub (waiting_of s) l)

  stamp-hub : IsOfHub true (site_answer d i s given.Stamp)
  unfolding site_answer
  stamp-hub = refused-or (IsOfHub true) (not (mode_of d s)) why.TreeOrder _ (inl refl) (go (stamp_next d (outlook_of d s) i))
    where
      go : (o : Option Label) → IsOfHub true (elim o [ None ↦ ans.Refused why.NotYet | Some l ↦ ans.Shown l ])
      go None = inl refl
      go (Some l) = inr (l, refl, refl)

  emit-hub : IsOfHub false (site_answer d i s given.Emit)
  unfolding site_answer
  emit-hub = go (ready_of d s)
    where
      go : (o : Option Label) → IsOfHub false (elim o [ None ↦ ans.Refused why.Idle | Some l ↦ ans.Emitted l ])
      go None = inl refl
      go (Some l) = inl refl

  bulk-hub : (from g n : ℕ) (p : Payload) → IsOfHub false (site_answer d i s (given.Bulk from g n p))
  unfolding site_answer
  bulk-hub from g n p = go (has ◌==◌ (s.proxy.taken from g) n)
    where
      go : (b : Bool) → IsOfHub false (if b then ans.Again else ans.Brought p.label)
      go true = inl refl
      go false = inl refl

  beat-hub : (from n : ℕ) (note : BeatNote) → IsOfHub false (site_answer d i s (given.BeatIn from n note))
  unfolding site_answer
  beat-hub from n note = best (best_of d s from)
    where
      taken : (b : Bool) → IsOfHub false (if b then ans.Again else ans.Taken)
      taken true = inl refl
      taken false = inl refl

      old : (b c : Bool) → IsOfHub false (if b then ans.Old else (if c then ans.Again else ans.Taken))
      old true c = inl refl
      old false c = taken c

      best : (o : Option (ℕ × BeatNote)) → IsOfHub false (elim o [ None ↦ if has ◌==◌ (numbers_of s from) n then ans.Again else ans.Taken | Some b ↦ if nat_le n b.0 then ans.Old else (if has ◌==◌ (numbers_of s from) n then ans.Again else ans.Taken) ])
      best None = taken (has ◌==◌ (numbers_of s from) n)
      best (Some b) = old (nat_le n b.0) (has ◌==◌ (numbers_of s from) n)

  pub hub-answers : (input : SiteInput) → is_hubs input ≡ true → IsOfHub (is_show input) (site_answer d i s input)
  unfolding site_answer
  hub-answers (given.Attach seen) e = refused-or (IsOfHub false) _ why.NotYet ans.Attached (inl refl) (inl refl)
  hub-answers given.Emit e = emit-hub
  hub-answers given.Pulse e = refused-or (IsOfHub false) (is_some (ready_of d s) || nat_le (stable_of d s) s.sink.pulse) why.Idle (ans.Pulsed (record { point = point_at (stable_of d s) i PULSE_GEAR; kind = kind.Pulse })) (inl refl) (inl refl)
  hub-answers (given.Turn o) e = turn-hub o
  hub-answers (given.Bulk from g n p) e = bulk-hub from g n p
  hub-answers (given.Beat j) e = inl refl
  hub-answers (given.BeatIn from n note) e = beat-hub from n note
  hub-answers given.Stamp e = stamp-hub
  hub-answers given.Close e =
      refused-or (IsOfHub false) (s.views.emission == length d.plans) why.NoNextEpoch _ (inl refl) (refused-or (IsOfHub false) (s.views.emission == s.views.view + 1) why.Behind (ans.Closed s.views.emission (cut_of d i s)) (inl refl) (inl refl))
  hub-answers given.Fall e = refused-or (IsOfHub false) (mode_of d s) why.StampOrder _ (inl refl) (refused-or (IsOfHub false) (s.views.emission == s.views.view) why.NotClosed ans.Fallen (inl refl) (inl refl))
  hub-answers given.Advance e =
      refused-or (IsOfHub false) (s.views.emission == s.views.view) why.NotClosed _ (inl refl)
      (refused-or (IsOfHub false) (not (may_pass d (outlook_of d s) s.views.heard i)) why.NotYet (ans.View (s.views.view + 1)) (inl refl) (inl refl))
  hub-answers _ e = absurd (cc)

-- a hub answers by its own state
pub hub-local : (d : Deployed) (i : ℕ) (h : HubState) (gs : ℕ → GearNode) (input : SiteInput) → is_hubs input ≡ true → site_answer d i (hub_alone d i h) input ≡ site_answer d i (whole d i h gs) input
unfolding site_answer
hub-local d i h gs (given.Attach seen) e = refl
hub-local d i h gs given.Emit e = refl
hub-local d i h gs given.Pulse e = refl
hub-local d i h gs (given.Turn o) e = refl
hub-local d i h gs (given.Bulk from g n p) e = refl
hub-local d i h gs (given.Beat j) e = refl
hub-local d i h gs (given.BeatIn from n note) e = refl
hub-local d i h gs given.Stamp e = refl
hub-local d i h gs given.Close e = refl
hub-local d i h gs given.Fall e = refl
hub-local d i h gs given.Advance e = refl
hub-local d i h gs _ e = absurd (cc)
