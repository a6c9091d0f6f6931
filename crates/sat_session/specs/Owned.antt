-- Notes with their sessions.
use Rattle.sat_stitch.specs.Places.{Session}
use Rattle.sat_session.specs.declared.noted.Noted.{Noted}

-- a note, with the session that it is of
abbrev pub Owned : Type 0
Owned = Session × Noted
