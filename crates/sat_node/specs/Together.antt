-- What nodes that are lent together keep of one act of theirs.
use Rattle.std.specs.Prelude.{◌≡◌, ℕ, ◌≤◌, List, [], ◌∷◌, ◌++◌, length, map, max, Bool, true, false, Option, Some, None}
use Rattle.std.specs.Prelude.{slice_get}
use Rattle.std.specs.declared.sync.MutexGuard.{MutexGuard}
use Rattle.std.specs.Sync.Mutex.{mutex_guard_value}
use Rattle.sat_node.specs.declared.joint.Part.{Part}
use Rattle.sat_node.specs.declared.kept.Envelope.{Envelope}
use Rattle.sat_node.specs.Meanings.{Meaning, replay}
use Rattle.sat_node.specs.Seen.{SameNode, entry}
use Rattle.sat_node.specs.Links.{HeldSeen, InSeen, IsLocal, IsOf, Cleared, Each, OnlyAt, Both, front_at, number_of}

-- the number of the front of this link, 0 where none is named
abbrev pub heard_from : Option ℕ → List InSeen → ℕ
heard_from None ins = 0
heard_from (Some link) ins = number_of (front_at ins link)

-- the input takes the front of this link and nothing from another one; where none is named, it takes nothing from any
abbrev pub TakesFrom : {S M I A : Type 0} → Meaning S I A → HeldSeen M I A → Option ℕ → I → Type 0
TakesFrom m h None input = IsLocal m h.node input
TakesFrom m h (Some link) input = (e : Envelope) × (front_at h.ins link ≡ Some e) × IsOf m h.node link e.body input

-- the receiving ends behind it
abbrev pub EndsAfter : Option ℕ → List InSeen → List InSeen → Type 0
EndsAfter None old new = new ≡ old
EndsAfter (Some link) old new = OnlyAt link Cleared old new

-- the input with its copy fits the machine
pub record IsFit {S M I A : Type 0} (m : Meaning S I A) (takes_in : M → I →
    Bool) (link : Option ℕ) (h : HeldSeen M I A) (p : Part I) : Type 0 where
  pub fits : takes_in h.node.machine p.input ≡ true
  pub copied : p.copy ≡ p.input
  pub from : TakesFrom m h link p.input

-- the same, taking nothing from a link, and the machine's step wants no memory for it: where there is room, it is taken
-- for sure
pub record IsSure {S M I A : Type 0} (m : Meaning S I A) (takes_in may_fail : M → I →
    Bool) (h : HeldSeen M I A) (p : Part I) : Type 0 where
  pub fit : IsFit m takes_in None h p
  pub sure : may_fail h.node.machine p.input ≡ false

-- one entry more, of this input under this number, with this answer, which the machine has for it
pub record Keeps {S M I A : Type 0} (m : Meaning S I A) (number : ℕ) (link : Option ℕ) (input : I) (answer : A)
    (old new : HeldSeen M I A) : Type 0 where
  pub answers : m.answers old.node.name (replay m old.node.name old.node.entries) input answer
  pub entries : new.node.entries ≡ old.node.entries ++ entry number input answer ∷ []
  pub number_is : new.node.number ≡ number
  pub name_is : new.node.name ≡ old.node.name
  pub outs_are : new.outs ≡ old.outs
  pub ins_are : EndsAfter link old.ins new.ins

-- the same of an input that takes nothing from a link, with some answer that the machine has for it
abbrev pub KeepsSome : {S M I A : Type 0} → Meaning S I A → ℕ → I → HeldSeen M I A → HeldSeen M I A → Type 0
KeepsSome {S} {M} {I} {A} m number input old new = (a : A) × Keeps m number None input a old new

-- nothing but the node's room differs, and that is no less
pub record SameHeld {M I A : Type 0} (old new : HeldSeen M I A) : Type 0 where
  pub same : SameNode old.node new.node
  pub room : old.node.room ≤ new.node.room
  pub outs_are : new.outs ≡ old.outs
  pub ins_are : new.ins ≡ old.ins

-- what lies under these locks
abbrev pub lent : {X : Type 0} → List (MutexGuard X) → List X
lent guards = map mutex_guard_value guards

-- the greatest of this number and of those of these nodes
abbrev pub most : {M I A : Type 0} → ℕ → List (HeldSeen M I A) → ℕ
most n [] = n
most n (h ∷ hs) = most (max n h.node.number) hs

-- the greatest of the number heard, of the front's and of those of an act's home and its other nodes
abbrev pub top_of : {M I A N J B : Type 0} → ℕ → Option ℕ → HeldSeen M I A → List (HeldSeen N J B) → ℕ
top_of heard link home others = most (max (max heard (heard_from link home.ins)) home.node.number) others

-- there is a part for each of these nodes, and each is taken for sure
abbrev pub AreSure : {S M I A : Type 0} → Meaning S I A → (M → I → Bool) → (M → I → Bool) → List (HeldSeen M I A) →
    List (Part I) → Type 0
AreSure m takes_in may_fail nodes parts = (length parts ≡ length nodes)
    × Each nodes (λ k h. (p : Part _) × (slice_get parts k ≡ Some p) × IsSure m takes_in may_fail h p)

-- each of these nodes keeps its part under this number
abbrev pub AllKeep : {S M I A : Type 0} → Meaning S I A → ℕ → List (Part I) → List (HeldSeen M I A) →
    List (HeldSeen M I A) → Type 0
AllKeep m number parts old new = Both (λ k x y. (p : Part _) × (slice_get parts k ≡ Some p)
    × KeepsSome m number p.input x y) old new

-- nothing but the room of these nodes differs
abbrev pub AllSame : {M I A : Type 0} → List (HeldSeen M I A) → List (HeldSeen M I A) → Type 0
AllSame old new = Both (λ _ x y. SameHeld x y) old new
