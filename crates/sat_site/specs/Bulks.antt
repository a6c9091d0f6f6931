-- What a site makes of payloads of a lane that it takes one after another.
use Rattle.std.specs.Prelude.{ℕ, suc, ◌+◌, ◌≡◌, List, slice_get, Some}
use Rattle.sat_bulk.specs.Payloads.{Payload}
use Rattle.sat_proxy.specs.Proxy.{front_at}
use Rattle.sat_proxy.specs.Steps.{after_bulk}
use Rattle.sat_site.specs.Seen.{SiteSeen, IsSite}

-- the site has taken the first so many of these payloads of a lane, one after another, with the numbers from one on,
-- each as the next of the lane
pub data BulksOn (x : SiteSeen) (from gear first : ℕ) (ps : List Payload) : ℕ → SiteSeen → Type 0 where
  none : BulksOn x from gear first ps 0 x
  more : (k : ℕ) (y : SiteSeen) (p : Payload) → BulksOn x from gear first ps k y → IsSite y → slice_get ps k ≡ Some p
      → front_at y.proxy from gear ≡ first + k
      → BulksOn x from gear first ps (suc k) (record y { proxy = after_bulk y.proxy from gear (first + k) p })
