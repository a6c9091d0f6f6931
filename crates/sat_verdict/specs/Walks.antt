-- Walks over the entries of one client, and what such a walk shows of a site.
use Rattle.std.specs.Prelude.{◌≡◌, ◌<◌, ◌≤◌, ◌+◌, ◌-◌, ◌==◌, ◌&&◌, not, ℕ, Bool, false, List, [], length, get_or, set}
use Rattle.std.specs.Prelude.{Option, Some, None}
use Rattle.sat_label.specs.declared.site_set.SiteSet.{SiteSet}
use Rattle.sat_label.specs.Words.{bit}
use Rattle.sat_verdict.specs.declared.tale.Tale.{Tale}
use Rattle.sat_verdict.specs.declared.tale.Tale.TheVariants.{Wrote, ReadSome, Other}
use Rattle.sat_verdict.specs.Entries.{client_of}
use Rattle.sat_verdict.specs.Goals.{no_sites}
use Rattle.sat_verdict.specs.Tables.{HasClients, scan, table_lacks}

-- past the last entry, or at an entry of client c
abbrev pub IsOwn : List Tale → ℕ → ℕ → Type 0
IsOwn tales c at = at < length tales → client_of (get_or tales at Other) ≡ Some c

-- the first entry of client c from a place on, or the end
pub record IsHead (tales : List Tale) (c from at : ℕ) : Type 0 where
  pub ahead : from ≤ at
  pub own : IsOwn tales c at
  pub none : (j : ℕ) → from ≤ j → j < at → client_of (get_or tales j Other) ≡ Some c → ⊥

-- behind entry j comes the next one of its client
pub record IsLink (tales : List Tale) (j next : ℕ) : Type 0 where
  pub ahead : j < next
  pub follows : (c : ℕ) → client_of (get_or tales j Other) ≡ Some c → IsHead tales c (j + 1) next

-- behind each entry comes the next one of its client
pub record AreLinks (tales : List Tale) (next : List ℕ) : Type 0 where
  pub size : length next ≡ length tales
  pub links : (j : ℕ) → j < length tales → IsLink tales j (get_or next j 0)

-- the entries from a place on are linked, behind the first ones of the clients
pub record Linked (tales : List Tale) (clients : ℕ) (heads next : List ℕ) (from : ℕ) : Type 0 where
  pub clients_size : length heads ≡ clients
  pub size : length next ≡ length tales
  pub heads_are : (c : ℕ) → c < clients → IsHead tales c from (get_or heads c 0)
  pub links : (j : ℕ) → from ≤ j → j < length tales → IsLink tales j (get_or next j 0)

-- the entry that comes behind one of this client, put before those that are linked
abbrev pub follower : List ℕ → ℕ → Option ℕ → ℕ
follower heads end None = end
follower heads end (Some c) = get_or heads c end

abbrev pub headed : List ℕ → ℕ → Option ℕ → List ℕ
headed heads place None = heads
headed heads place (Some c) = set heads c place

-- no entry below the count is at this place or behind it
abbrev pub IsPast : List Tale → ℕ → ℕ → Type 0
IsPast tales to at = at < to → length tales ≤ at

-- whether entry `number` made a point that site k replicates and didn't show
abbrev pub is_unshown : List SiteSet → ℕ → ℕ → Bool
is_unshown unshown k number = not (number == 0) && bit (get_or unshown (number - 1) no_sites).bits k

-- whether an entry wrote or read such a point
abbrev pub is_open : List SiteSet → ℕ → ℕ → Tale → Bool
is_open unshown k number (Wrote c xs b) = is_unshown unshown k number
is_open unshown k number (ReadSome c x p) = is_unshown unshown k number
is_open unshown k number _ = false

-- no entry of client c from a place up to another is open
abbrev pub AreClosed : List Tale → List ℕ → List SiteSet → ℕ → ℕ → ℕ → ℕ → Type 0
AreClosed tales numbers unshown k c from to =
    (j : ℕ) → from ≤ j → j < to → client_of (get_or tales j Other) ≡ Some c
    → is_open unshown k (get_or numbers j 0) (get_or tales j Other) ≡ false

-- for each client, a place of its own below which no entry of it is open at site k
pub record IsDone (tales : List Tale) (numbers : List ℕ) (unshown : List SiteSet) (k : ℕ)
    (places : List ℕ) : Type 0 where
  pub clients : HasClients (length places) tales
  pub own : (c : ℕ) → c < length places → IsOwn tales c (get_or places c 0)
  pub closed : (c : ℕ) → c < length places → AreClosed tales numbers unshown k c 0 (get_or places c 0)

-- each site has such places
abbrev pub AreDone : List Tale → List ℕ → List SiteSet → List (List ℕ) → Type 0
AreDone tales numbers unshown done = (k : ℕ) → k < length done → IsDone tales numbers unshown k (get_or done k [])

-- a site lacks no cause of the point that it shows, which the entry with this number made
abbrev pub IsClear : List Tale → List ℕ → List (List ℕ) → List SiteSet → Option ℕ → ℕ → Type 0
IsClear tales numbers rows unshown None number = Unit {0}
IsClear tales numbers rows unshown (Some k) number =
    0 < number → scan (table_lacks rows unshown numbers tales (number - 1) k) (length tales) ≡ None
