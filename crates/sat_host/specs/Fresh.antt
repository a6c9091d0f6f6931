-- Hosts at which nothing happened.
use Rattle.std.specs.Prelude.{◌≡◌, List, []}
use Rattle.sat_node.specs.Links.{Each}
use Rattle.sat_node.specs.Meanings.{Meaning}
use Rattle.sat_host_laws.specs.Messages.{HostSeen, IsKept}

-- its journal is empty, and it keeps what every host keeps
pub record IsNew {S M I A : Type 0} (m : Meaning S I A) (h : HostSeen M I A) : Type 0 where
  pub entries : h.node.entries ≡ []
  pub kept : IsKept m h

abbrev pub AllNew : {S M I A : Type 0} → Meaning S I A → List (HostSeen M I A) → Type 0
AllNew m hs = Each hs (λ _ h. IsNew m h)
