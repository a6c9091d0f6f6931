-- What all processes of a store are together.
use Rattle.std.proofs.Common.{◌≡◌, ℕ, suc, zero, List, [], ◌∷◌, map, Some, slice_get, refl, sym, ap, ◌∙◌, subst}
use Rattle.sat_label.specs.Words.{below}
use Rattle.sat_label.specs.declared.node.NodeName.{NodeName}
use Rattle.sat_label.specs.declared.node.NodeName.TheVariants.{Site}
use Rattle.sat_act.specs.Deployed.{Deployed}
use Rattle.sat_node.specs.Links.{Each}
use Rattle.sat_site.specs.Seen.{SiteSeen}
use Rattle.sat_machines.specs.Acts.{ActSeen}
use Rattle.sat_machines.specs.Serials.{SerialSeen, serial_meaning}
use Rattle.sat_machines.specs.Sites.{site_meaning}
use Rattle.sat_machines.specs.declared.serial_act.SerialAct.{SerialAct}
use Rattle.sat_machines.specs.declared.serial_act.SerialAnswer.{SerialAnswer}
use Rattle.sat_machines.specs.declared.site_answer.SiteAnswer.{SiteAnswer}
use Rattle.sat_opened.specs.Opened.{serial_names}
use Rattle.sat_host_laws.specs.Messages.{AllKept, IsKept, SerialHost, SiteHost, host_name}
use Rattle.sat_host_store.specs.Stores.{StoresAreOneRun, StoresHold}
use Rattle.sat_process.specs.Processes.{ProcessSeen}
use Rattle.sat_process.specs.Storing.{AreGood, AreOneRun, host_in, name_in}

-- ---- hosts of processes

pub each_in : {X Y : Type 0} (f : X → Y) (P : Y → Type 0) (xs : List X) → ((k : ℕ) (x : X) → slice_get xs k ≡ Some x → P (f x)) → (k : ℕ) (y : Y) → slice_get (map f xs) k ≡ Some y → P y
each_in f P [] all k y is = absurd (cc (is))
each_in {X} {Y} f P (x ∷ xs) all zero y is = (let same : f x ≡ y = cc (is) in subst (λ (z : Y). P z) same (all zero x refl))
each_in f P (x ∷ xs) all (suc k) y is = each_in f P xs (λ j z at. all (suc j) z at) k y is

names_in : {D T M I A : Type 0} (xs : List (ProcessSeen D T M I A)) → map host_name (map host_in xs) ≡ map name_in xs
names_in [] = refl
names_in (x ∷ xs) = ap (λ (l : List NodeName). x.host.node.name ∷ l) (names_in xs)

-- ---- all of it

pub kept_of : {D T E U : Type 0} (d : Deployed) (xs : List (ProcessSeen D T SiteSeen ActSeen SiteAnswer)) (ys : List (ProcessSeen E U SerialSeen SerialAct SerialAnswer)) → map name_in xs ≡ map Site (below d.sites) → map name_in ys ≡ serial_names d →
    Each (map host_in xs) (λ _ h. IsKept (site_meaning d) h) → Each (map host_in ys) (λ _ h. IsKept (serial_meaning d) h) → AllKept d (map host_in xs) (map host_in ys)
kept_of d xs ys p q r s = record { all_sites = names_in xs ∙ p; all_serials = names_in ys ∙ q; each_site = r; each_serial = s }

pub run_of : (d : Deployed) (sites : List SiteHost) (serials : List SerialHost) → StoresAreOneRun → AllKept d sites serials → AreOneRun d sites serials
run_of d sites serials law hosts xs all dep told merge = law d sites serials xs all dep (record { hosts = hosts; carried = told.carried; sessions = told.sessions; same = told.same }) merge

pub good_of : (d : Deployed) (sites : List SiteHost) (serials : List SerialHost) → StoresHold → AllKept d sites serials → AreGood d sites serials
good_of d sites serials law hosts xs all dep trees told merge = law d sites serials xs all dep trees (record { hosts = hosts; carried = told.carried; sessions = told.sessions; same = told.same }) merge
