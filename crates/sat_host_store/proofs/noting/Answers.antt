use Rattle.sat_host_store.proofs.Notes.{stores_note}
use Rattle.sat_host_store.proofs.noting.Goals as goal

pub returns : goal.returns
returns c = record { same = stores_note }
