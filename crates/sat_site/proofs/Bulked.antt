-- Payloads of a lane that a site takes one after another.
use Rattle.std.specs.Prelude.{ℕ, zero, suc, ◌≡◌, ◌<◌, ◌≤◌, ◌+◌, List, [], ◌∷◌, ◌++◌, length, take, slice_get, Some, refl}
use Rattle.std.proofs.Common.{arith, ap, sym, ◌∙◌, subst}
use Rattle.std.proofs.lemmas.List.{length-take-le, take_more}
use Rattle.std.proofs.lemmas.Option.{get_or_from_slice_get}
use Rattle.sat_bulk.specs.Payloads.{Payload}
use Rattle.sat_gear.specs.Gear.{GearSeen}
use Rattle.sat_proxy.specs.Proxy.{ProxySeen}
use Rattle.sat_proxy.specs.Steps.{ComeNext, after_bulk, after_bulks}
use Rattle.sat_hub.specs.Seen.{HubSeen}
use Rattle.sat_hub.proofs.Peers.{first-peers}
use Rattle.sat_site.specs.Bulks.{BulksOn, none, more}
use Rattle.sat_site.specs.Inputs.{BulksFit}
use Rattle.sat_site.specs.Seen.{SiteSeen, IsSite, hub_of, site_of}
use Rattle.sat_site.proofs.Hubs.{hub-is}

last-comes : (qs : List Payload) (p : ProxySeen) (from gear n : ℕ) (q : Payload) → after_bulks p from gear n (qs ++ q ∷ []) ≡ after_bulk (after_bulks p from gear n qs) from gear (n + length qs) q
last-comes [] p from gear n q = ap (λ (m : ℕ). after_bulk p from gear m q) (let e : n ≡ n + 0 = omega arith in e)
last-comes (r ∷ qs) p from gear n q = last-comes qs (after_bulk p from gear n r) from gear (n + 1) q ∙ ap (λ (m : ℕ). after_bulk (after_bulks (after_bulk p from gear n r) from gear (n + 1) qs) from gear m q) (next n (length qs))
  where
    next : (a b : ℕ) → a + 1 + b ≡ a + suc b
    next a b = omega arith

one-comes : (p : ProxySeen) (from gear n k : ℕ) (qs : List Payload) (q : Payload) → k < length qs → slice_get qs k ≡ Some q → after_bulk (after_bulks p from gear n (take k qs)) from gear (n + k) q ≡ after_bulks p from gear n (take (suc k) qs)
one-comes p from gear n k qs q lt e = sym (
    ap (after_bulks p from gear n) (ap (λ (m : ℕ). take m qs) (let s : suc k ≡ k + 1 = omega arith in s) ∙ (take_more qs k q lt ∙ ap (λ (x : Payload). take k qs ++ x ∷ []) (get_or_from_slice_get qs k q q e)))
    ∙ (last-comes (take k qs) p from gear n q ∙ ap (λ (m : ℕ). after_bulk (after_bulks p from gear n (take k qs)) from gear (n + m) q) (length-take-le k qs (omega arith)))
    )

stands : (qs : List Payload) (k : ℕ) → k < length qs → (q : Payload) × (slice_get qs k ≡ Some q)
stands [] k lt = absurd (omega arith)
stands (q ∷ qs) zero lt = (q, refl)
stands (q ∷ qs) (suc k) lt = stands qs k (omega arith)

-- the first so many came
abbrev bulked : SiteSeen → ℕ → ℕ → ℕ → ℕ → List Payload → SiteSeen
bulked x from gear n k ps = record x { proxy = after_bulks x.proxy from gear n (take k ps) }

bulked-site : (x : SiteSeen) (from gear n k : ℕ) (ps : List Payload) → IsSite x → BulksFit x from gear n ps → k ≤ length ps → IsSite (bulked x from gear n k ps)
bulked-site x from gear n k ps is fits le = record {
  shape = is.shape;
  gears = is.gears;
  sink = is.sink;
  counts = is.counts;
  views = is.views;
  proxy = first-peers (hub_of x) from gear n k ps (hub-is x is) fits le;
  made = is.made;
}

goes-on : (k : ℕ) (x : SiteSeen) (from gear n : ℕ) (ps : List Payload) → IsSite x → BulksFit x from gear n ps → k ≤ length ps → ComeNext x.proxy from gear n ps k → BulksOn x from gear n ps k (bulked x from gear n k ps)
goes-on zero x from gear n ps is fits le come = none
goes-on (suc k) x from gear n ps is fits le come =
    let there : (q : Payload) × (slice_get ps k ≡ Some q) = stands ps k (omega arith) in
    subst (λ (p : ProxySeen). BulksOn x from gear n ps (suc k) (record x { proxy = p })) (one-comes x.proxy from gear n k ps there.0 (omega arith) there.1)
    (more k (bulked x from gear n k ps) there.0 (goes-on k x from gear n ps is fits (omega arith) (λ i low. come i (omega arith))) (bulked-site x from gear n k ps is fits (omega arith)) there.1 (come k (omega arith)))

pub bulks-on : (h n : HubSeen) (gears : List GearSeen) (x : SiteSeen) (from gear first k : ℕ) (ps : List Payload) → site_of h gears ≡ x → IsSite (site_of h gears) → BulksFit x from gear first ps → k ≤ length ps → n ≡ record h { proxy = after_bulks h.proxy from gear first (take k ps) } → ComeNext h.proxy from gear first ps k → BulksOn x from gear first ps k (site_of n gears)
bulks-on h n gears x from gear first k ps same is fits le new come =
    subst (λ (y : SiteSeen). BulksOn y from gear first ps k (site_of n gears)) same
    (subst (λ (m : HubSeen). BulksOn (site_of h gears) from gear first ps k (site_of m gears)) (sym new)
    (goes-on k (site_of h gears) from gear first ps is (subst (λ (y : SiteSeen). BulksFit y from gear first ps) (sym same) fits) le come))
