-- A round is its bulks and then its other acts. Behind its bulks they are refused, so that later rounds are their other acts alone.
use Rattle.std.specs.Prelude.{◌≡◌, ◌<◌, ◌==◌, ℕ, Bool, true, false, List, [], ◌∷◌, None, if◌then◌else◌, refl}
use Rattle.std.proofs.Common.{sym, subst, ap, ◌∙◌}
use Rattle.sat_label.specs.Members.{In}
use Rattle.sat_label.proofs.Members.{In-right}
use Rattle.sat_label.specs.Words.{below}
use Rattle.sat_act.specs.declared.act.Act.{Act}
use Rattle.sat_act.specs.declared.act.Act.TheVariants as act
use Rattle.sat_act.specs.declared.entry.Entry.{Entry}
use Rattle.sat_act.specs.Deployed.{Deployed}
use Rattle.sat_act.specs.Runs.{IsRun}
use Rattle.sat_act.specs.Settling.{for_each, joined, bulks, round, round_acts, until_refused}
use Rattle.sat_rest.specs.Ends.{IsWithin, UntilRefused}
use Rattle.sat_rest.proofs.Rounds.{IsAfter, IsRoundAct, bulk-of, round-act, until-ends}
use Rattle.sat_rest.proofs.Emptying.{bulk-tried}
use Rattle.sat_rest.proofs.Bulked.{AreRefused, acts-after, bulks-refused, bulks-stay, refused-leave}
use Rattle.sat_settle.specs.RoundActs.{bulk_to, later_acts}
use Rattle.sat_settle.specs.Rounds.{bulked, bulks_out, bulks_by, bulks_to, later_round}
use Rattle.sat_world.specs.Seen.{WorldSeen}
use Rattle.sat_settle.specs.Going.{Extends, Makes, MakesUntil, Stops, StopsUntil}
use Rattle.sat_settle.proofs.Extending.{all-extends, for_each-extends, for_each-more}
use Rattle.sat_settle.proofs.Opened.{each-same, flat}

-- ---- the bulks

bulks-are : (d : Deployed) (h : List Entry) → bulked d h ≡ for_each (until_refused d) (bulks d) h
bulks-are d h =
    each-same (bulks_out d) (λ i k. for_each (until_refused d) (joined (λ g. joined (bulk_to i g) (below d.sites)) (below d.gears)) k) (below d.sites) h
    (λ i k. from-site i k)
    ∙ sym (flat (until_refused d) (λ i. joined (λ g. joined (bulk_to i g) (below d.sites)) (below d.gears)) (below d.sites) h)
  where
    from-site : (i : ℕ) (k : List Entry) → bulks_out d i k ≡ for_each (until_refused d) (joined (λ g. joined (bulk_to i g) (below d.sites)) (below d.gears)) k
    from-site i k =
        each-same (bulks_by d i) (λ g k. for_each (until_refused d) (joined (bulk_to i g) (below d.sites)) k) (below d.gears) k
        (λ g k. sym (flat (until_refused d) (bulk_to i g) (below d.sites) k))
        ∙ sym (flat (until_refused d) (λ g. joined (bulk_to i g) (below d.sites)) (below d.gears) k)

pub to-extends : (d : Deployed) (i g j : ℕ) (h : List Entry) → Extends h (bulks_to d i g j h)
to-extends d i g j h = for_each-extends (until_refused d) (bulk_to i g j) h (all-extends d)

pub by-extends : (d : Deployed) (i g : ℕ) (h : List Entry) → Extends h (bulks_by d i g h)
by-extends d i g h = for_each-extends (bulks_to d i g) (below d.sites) h (to-extends d i g)

pub out-extends : (d : Deployed) (i : ℕ) (h : List Entry) → Extends h (bulks_out d i h)
out-extends d i h = for_each-extends (bulks_by d i) (below d.gears) h (by-extends d i)

pub later-extends : (d : Deployed) (h : List Entry) → Extends h (later_round d h)
later-extends d h = for_each-extends (until_refused d) (later_acts d) h (all-extends d)

-- ---- rounds

pub round-parts : (d : Deployed) (h : List Entry) → later_round d (bulked d h) ≡ round d h
unfolding round round_acts
round-parts d h = ap (λ (k : List Entry). later_round d k) (bulks-are d h) ∙ sym (for_each-more (until_refused d) (bulks d) (later_acts d) h)

later-round-act : (d : Deployed) (a : Act) → In (later_acts d) a → IsRoundAct d a
unfolding round_acts
later-round-act d a m = round-act d a (In-right (bulks d) (later_acts d) a m)

-- behind a round each bulk is refused
pub round-refused : (d : Deployed) (h : List Entry) → IsWithin d → IsRun d h → AreRefused d (bulks d) (round d h)
round-refused d h w run =
    let a : IsAfter d h (bulked d h) = subst (IsAfter d h) (sym (bulks-are d h)) (acts-after d (bulks d) h run (bulk-of d)) in
    let b : IsAfter d (bulked d h) (later_round d (bulked d h)) = acts-after d (later_acts d) (bulked d h) a.is_run (later-round-act d) in
    subst (AreRefused d (bulks d)) (round-parts d h) (bulks-stay d (bulked d h) (later_round d (bulked d h)) b.goes (subst (AreRefused d (bulks d)) (sym (bulks-are d h)) (bulks-refused d h w run)))

-- where they are refused, a round is the rest of it
pub later-is-round : (d : Deployed) (h : List Entry) → AreRefused d (bulks d) h → later_round d h ≡ round d h
later-is-round d h w = ap (λ (k : List Entry). later_round d k) (sym (bulks-are d h ∙ refused-leave d (bulks d) h w)) ∙ round-parts d h

-- ---- one lane

abbrev lane_if : Deployed → ℕ → ℕ → ℕ → Bool → List Entry → List Entry
lane_if d i g j b h = for_each (until_refused d) (if b then [] else act.Bulk i g j None ∷ []) h

no-lane : (d : Deployed) (i g j : ℕ) (h : List Entry) → lane_if d i g j true h ≡ h
unfolding for_each
no-lane d i g j h = refl

one-lane : (d : Deployed) (i g j : ℕ) (h : List Entry) → lane_if d i g j false h ≡ until_refused d (act.Bulk i g j None) h
unfolding for_each
one-lane d i g j h = refl

pub lane-none : (d : Deployed) (i g j : ℕ) (h : List Entry) → (i == j) ≡ true → bulks_to d i g j h ≡ h
lane-none d i g j h e = ap (λ (b : Bool). lane_if d i g j b h) e ∙ no-lane d i g j h

lane-one : (d : Deployed) (i g j : ℕ) (h : List Entry) → (i == j) ≡ false → bulks_to d i g j h ≡ until_refused d (act.Bulk i g j None) h
lane-one d i g j h e = ap (λ (b : Bool). lane_if d i g j b h) e ∙ one-lane d i g j h

-- a lane of the deployment, whose bulk is an act of a round
pub record IsLane (d : Deployed) (i g j : ℕ) : Type 0 where
  pub from : i < d.sites
  pub gear : g < d.gears
  pub to : j < d.sites
  pub apart : (i == j) ≡ false

until-lane : (d : Deployed) (i g j : ℕ) (h : List Entry) → IsWithin d → IsLane d i g j → IsRun d h → UntilRefused d (act.Bulk i g j None) h (bulks_to d i g j h)
until-lane d i g j h w k run =
    subst (UntilRefused d (act.Bulk i g j None) h) (sym (lane-one d i g j h k.apart)) (until-ends d (act.Bulk i g j None) h w run (round-act d (act.Bulk i g j None) (bulk-tried d i g j k.from k.gear k.to k.apart)))

pub lane-makes : (v w : WorldSeen) (i g j n : ℕ) → IsWithin v.deployment → IsLane v.deployment i g j → MakesUntil v (act.Bulk i g j None) n w → Makes v (bulks_to v.deployment i g j) n w
lane-makes v w i g j n within k p h run st = p h (bulks_to v.deployment i g j h) run st (until-lane v.deployment i g j h within k run)

pub lane-stops : (v w : WorldSeen) (i g j : ℕ) → IsWithin v.deployment → IsLane v.deployment i g j → StopsUntil v (act.Bulk i g j None) w → Stops v (bulks_to v.deployment i g j) w
lane-stops v w i g j within k p h run st = p h (bulks_to v.deployment i g j h) run st (until-lane v.deployment i g j h within k run)
