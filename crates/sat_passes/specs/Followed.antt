-- How far a site is from having nothing left to send.
use Rattle.std.specs.Prelude.{ℕ, length}
use Rattle.sat_sink.specs.Pending.{all_of}
use Rattle.sat_site.specs.Seen.{SiteSeen}

-- how many labels were gathered and not emitted
abbrev pub pending_count : SiteSeen → ℕ
pending_count x = length (all_of x.sink.pending)
