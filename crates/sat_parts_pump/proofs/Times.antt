-- The timestamps of what came at a hub.
use Rattle.std.proofs.Common.{◌≡◌, ℕ, zero, suc, ◌+◌, ◌≤◌, ◌&&◌, max, true, List, [], ◌∷◌, length, drop, Some, None, slice_get, refl, sym, ap, ◌∙◌, arith}
use Rattle.std.specs.Prelude.{◌==◌, nat_le}
use Rattle.std.proofs.lemmas.Bool.{and_parts}
use Rattle.std.proofs.lemmas.Bool.Decides.{nat_tests}
use Rattle.sat_label.specs.declared.limits.TheConstants.{TS_END}
use Rattle.sat_label.specs.declared.node.NodeName.{NodeName}
use Rattle.sat_act.specs.Deployed.{Deployed}
use Rattle.sat_act.specs.Parts.{items_of}
use Rattle.sat_model.specs.Fits.{fits, has_parts, is_gear, is_kept_kind, is_kind, is_note, is_other, is_point, is_site, is_time}
use Rattle.sat_model.specs.State.{SiteState}
use Rattle.sat_proxy.specs.Proxy.{note_of}
use Rattle.sat_joint.specs.Machines.{HubState, hub_alone}
use Rattle.sat_hub_laws.specs.Hubs.{hub_fits, site_of_hub}
use Rattle.sat_node.specs.Meanings.{Runs, RunsFrom}
use Rattle.sat_machines.specs.Sites.{number_of}
use Rattle.sat_parts.specs.declared.hub_input.HubInput.{HubInput}
use Rattle.sat_parts.specs.declared.hub_input.HubInput.TheVariants as hub
use Rattle.sat_parts.specs.Acts.{hub_handed}
use Rattle.sat_parts.specs.Hubs.{hub_meaning}
use Rattle.sat_parts_passes.specs.Sendings.{HubKept}
use Rattle.sat_parts_pump.specs.Times.{most_in, ts_in}

-- ---- the entries that are looked at

-- the entry at a place is the first from there on
drop-at : {X : Type 0} (n : ℕ) (xs : List X) (x : X) → slice_get xs n ≡ Some x → drop n xs ≡ x ∷ drop (suc n) xs
drop-at zero [] x e = absurd (cc (e))
drop-at zero (y ∷ ys) x e = (let same : y ≡ x = cc (e) in ap (λ z. z ∷ ys) same)
drop-at (suc n) [] x e = absurd (cc (e))
drop-at (suc n) (y ∷ ys) x e = drop-at n ys x e

-- one entry more
pub most_next : (t n next : ℕ) (ks : List HubKept) (k : HubKept) → slice_get ks n ≡ Some k → next ≡ n + 1 → most_in (max t (ts_in k.input.input)) (drop next ks) ≡ most_in t (drop n ks)
most_next t n next ks k at is =
    let one : next ≡ suc n = omega arith in
    ap (λ (m : ℕ). most_in (max t (ts_in k.input.input)) (drop m ks)) one ∙ sym (ap (most_in t) (drop-at n ks k at))

past : {X : Type 0} (xs : List X) (n : ℕ) → length xs ≤ n → drop n xs ≡ []
past [] zero le = refl
past [] (suc n) le = refl
past (x ∷ xs) zero le = absurd (omega arith)
past (x ∷ xs) (suc n) le = past xs n (omega arith)

-- no entry more
pub most_done : (t n : ℕ) (ks : List HubKept) → length ks ≤ n → most_in t (drop n ks) ≡ t
most_done t n ks le = ap (most_in t) (past ks n le)

-- ---- timestamps that fit

time-is : (m n : ℕ) → nat_le m n ≡ true → m ≤ n
time-is m n e = grind (arith, nat_tests)

-- what fits a hub has a timestamp
fits-small : (d : Deployed) (i : ℕ) (h : HubState) (given : HubInput) → hub_fits d i h (hub_handed given) ≡ true → ts_in given ≤ TS_END
unfolding fits
fits-small d i h (hub.Turn None) e = omega arith
fits-small d i h (hub.Turn (Some l)) e =
    time-is l.point.ts TS_END (and_parts (is_time l.point.ts) (is_other d i l.point.site && is_kind d h.views.view l.kind) e).0
fits-small d i h (hub.Bulk from gear number p) e =
    let a = and_parts (is_other d i from && is_gear d gear) _ e in
    let b = and_parts (((is_time p.label.point.ts && (p.label.point.site == from)) && is_kept_kind d i p.label.kind) && has_parts d i (items_of p.label.kind) p.values) _ a.1 in
    let c = and_parts ((is_time p.label.point.ts && (p.label.point.site == from)) && is_kept_kind d i p.label.kind) (has_parts d i (items_of p.label.kind) p.values) b.0 in
    let f = and_parts (is_time p.label.point.ts && (p.label.point.site == from)) (is_kept_kind d i p.label.kind) c.0 in
    time-is p.label.point.ts TS_END (and_parts (is_time p.label.point.ts) (p.label.point.site == from) f.0).0
fits-small d i h (hub.BeatIn from number beat) e =
    let a = and_parts (is_other d i from) (is_note d (note_of beat)) e in
    let b = and_parts (is_point d beat.cut) _ a.1 in
    time-is beat.cut.ts TS_END (and_parts (is_time beat.cut.ts) (is_site d beat.cut.site) b.0).0
fits-small d i h (hub.Attach seen) e = omega arith
fits-small d i h (hub.Gather drained) e = omega arith
fits-small d i h hub.Emit e = omega arith
fits-small d i h hub.Pulse e = omega arith
fits-small d i h (hub.Beat j) e = omega arith
fits-small d i h hub.Stamp e = omega arith
fits-small d i h hub.Close e = omega arith
fits-small d i h hub.Fall e = omega arith
fits-small d i h hub.Advance e = omega arith

both-small : (a b n : ℕ) → a ≤ n → b ≤ n → max a b ≤ n
both-small a b n x y = grind (arith)

runs-small : (d : Deployed) (name : NodeName) (h : HubState) (ks : List HubKept) (t : ℕ) → t ≤ TS_END → RunsFrom (hub_meaning d) name h ks → most_in t ks ≤ TS_END
runs-small d name h [] t le runs = le
runs-small d name h (k ∷ ks) t le runs =
    runs-small d name ((hub_meaning d).after name h k.input k.answer) ks (max t (ts_in k.input.input))
    (both-small t (ts_in k.input.input) TS_END le (fits-small d (number_of name) h k.input.input runs.0.fits)) runs.2

-- nothing that came has a greater timestamp
pub came_small : (d : Deployed) (name : NodeName) (ks : List HubKept) → Runs (hub_meaning d) name ks → most_in 0 ks ≤ TS_END
came_small d name ks runs = runs-small d name _ ks 0 (omega arith) runs
