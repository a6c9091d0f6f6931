use Rattle.sat_opened.proofs.Whole.{opened_fit, fits_join, opened_are_runs}
use Rattle.sat_opened.proofs.Distincts.{opened_are_journals, sites_kept, serials_kept, places_cover}
use Rattle.sat_opened.proofs.Owners.{sites_have_owners, serials_have_owners}
use Rattle.sat_opened.proofs.Oldest.{site_journals, serial_journals}
use Rattle.sat_opened.proofs.opening.Goals as goal

pub returns : goal.returns
returns c = record {
  nodes = opened_fit;
  journals = opened_are_journals;
  sites = sites_kept;
  serials = serials_kept;
  site_journals = site_journals;
  serial_journals = serial_journals;
  owners = sites_have_owners;
  kills = serials_have_owners;
  places = places_cover;
  whole = fits_join;
  runs = opened_are_runs;
}
