use Rattle.sat_session.proofs.Whole.{sessions_fit}
use Rattle.sat_session.proofs.sessions.Goals as goal

pub returns : goal.returns
returns c = record { fit = sessions_fit }
