-- The limits of formats.
use Rattle.std.proofs.Common.{ℕ, ◌≤◌, ◌==◌, Bool, true, false, if◌then◌else◌, arith}
use Rattle.sat_label.specs.declared.limits.Limits.{Limits}
use Rattle.sat_label.specs.Formats.{limits_of}

abbrev one : Limits
one = record { sites = 16; items = 4096; acts = 200000; written = 1 }

abbrev other : Limits
other = record { sites = 64; items = 65535; acts = 30000; written = 4 }

-- the limits of each format are within those of all
pub sites_within : (format n : ℕ) → n ≤ (limits_of format).sites → n ≤ 64
sites_within format n = go (format == 1)
  where
    go : (b : Bool) → n ≤ (if b then one else other).sites → n ≤ 64
    go true h = omega arith
    go false h = h

pub items_within : (format n : ℕ) → n ≤ (limits_of format).items → n ≤ 65535
items_within format n = go (format == 1)
  where
    go : (b : Bool) → n ≤ (if b then one else other).items → n ≤ 65535
    go true h = omega arith
    go false h = h

pub acts_within : (format n : ℕ) → n ≤ (limits_of format).acts → n ≤ 200000
acts_within format n = go (format == 1)
  where
    go : (b : Bool) → n ≤ (if b then one else other).acts → n ≤ 200000
    go true h = h
    go false h = omega arith
