-- No site from 64 on is in a set.
use Rattle.std.proofs.Common.{◌≡◌, ℕ, ◌+◌, ◌^◌, ◌<◌, ◌≤◌, Bool, true, false, sym, nat_lt, if◌then◌else◌, arith}
use Rattle.sat_label.specs.Words.{bit}
use Rattle.sat_label.proofs.Bits.{bit-above}
use Rattle.sat_machines.specs.Layout.{peer}

least : (site link : ℕ) → 64 ≤ link → 64 ≤ peer site link
least site link e = go (nat_lt link site)
  where
    go : (b : Bool) → 64 ≤ (if b then link else link + 1)
    go true = e
    go false = omega arith

pub far : (bits site link : ℕ) → bits < 2 ^ 64 → 64 ≤ link → false ≡ bit bits (peer site link)
far bits site link small e = sym (bit-above bits (peer site link) small (least site link e))
