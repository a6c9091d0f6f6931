-- What contracts see of a journal that grows in place.
use Rattle.std.specs.Prelude.{ℕ, Bool}
use Rattle.sat_durable.specs.declared.appending.Journal.{Journal}

-- its disk
abbrev pub journal_disk : {D : Type 0} {d : _} → Journal D d → D
journal_disk journal = journal.disk

-- how many bytes its records are
abbrev pub journal_size : {D : Type 0} {d : _} → Journal D d → ℕ
journal_size journal = journal.size

-- whether its disk holds a journal for sure, and takes a body more
abbrev pub is_whole : {D : Type 0} {d : _} → Journal D d → Bool
is_whole journal = journal.whole
