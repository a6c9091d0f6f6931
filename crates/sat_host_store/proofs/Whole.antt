-- A store is one run.
use Rattle.std.proofs.Common.{List, map}
use Rattle.sat_act.specs.Deployed.{Deployed}
use Rattle.sat_opened.specs.Opened.{AreJournals, lists_of}
use Rattle.sat_opened.specs.Fits.{FitsSessions}
use Rattle.sat_session.specs.Notes.{SessionSeen}
use Rattle.sat_session.specs.Sessions.{kept_by, alone_in}
use Rattle.sat_session.proofs.Whole.{sessions_fit}
use Rattle.sat_opened.specs.Hosts.{AllHosts}
use Rattle.sat_host_laws.specs.Messages.{SiteHost, SerialHost, held_of}
use Rattle.sat_host_laws.proofs.Taken.{stores-hosts}
use Rattle.sat_opened.proofs.Whole.{hosts_are_runs, hosts_are_good}
use Rattle.sat_host_store.specs.Stores.{IsStore, StoresAreOneRun, StoresHold}

module _ (d : Deployed) (sites : List SiteHost) (serials : List SerialHost) (xs : List SessionSeen) (s : IsStore d sites serials xs) where
  hosts : AllHosts d (map held_of sites) (map held_of serials)
  hosts = stores-hosts d sites serials s.hosts s.carried

  journals : AreJournals d (map held_of sites) (map held_of serials)
  journals = record { all_sites = hosts.all_sites; all_serials = hosts.all_serials; each_site = λ k h at. (hosts.each_site k h at).runs }

  clients : FitsSessions d (lists_of (map held_of sites) (map held_of serials) (alone_in d xs)) (kept_by d xs)
  clients = sessions_fit d (map held_of sites) (map held_of serials) xs journals s.sessions s.same

pub stores_are_one_run : StoresAreOneRun
stores_are_one_run d sites serials xs all dep s merge = hosts_are_runs d (map held_of sites) (map held_of serials) dep (hosts d sites serials xs s) (alone_in d xs) (kept_by d xs) all (clients d sites serials xs s) merge

pub stores_hold : StoresHold
stores_hold d sites serials xs all dep trees s merge = hosts_are_good d (map held_of sites) (map held_of serials) dep (hosts d sites serials xs s) (alone_in d xs) (kept_by d xs) all trees (clients d sites serials xs s) merge
