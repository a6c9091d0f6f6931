-- What a deployment's format allows.
use Rattle.std.specs.Prelude.{ℕ, Bool, ◌||◌, ◌==◌, if◌then◌else◌}
use Rattle.sat_label.specs.declared.limits.Limits.{Limits}

-- the numbers that formats of scripts have
abbrev pub is_format : ℕ → Bool
is_format format = (format == 1) || (format == 2)

-- the limits of format 1, and of the other
abbrev pub limits_of : ℕ → Limits
limits_of format =
    if format == 1
    then record { sites = 16; items = 4096; acts = 200000; written = 1 }
    else record { sites = 64; items = 65535; acts = 30000; written = 4 }
