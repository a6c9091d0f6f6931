-- One act of nodes that are lent together, in which only some of them take part.
use Rattle.std.specs.Prelude.{◌≡◌, ℕ, Bool, List, length, Option, Some, None, slice_get}
use Rattle.sat_node.specs.declared.joint.Part.{Part}
use Rattle.sat_node.specs.Links.{Both, Each, HeldSeen}
use Rattle.sat_node.specs.Meanings.{Meaning}
use Rattle.sat_node.specs.Together.{IsSure, KeepsSome, SameHeld}

-- a node's part, if it has one, is taken for sure
abbrev pub SureIf : {S M I A : Type 0} → Meaning S I A → (M → I → Bool) → (M → I → Bool) → HeldSeen M I A
    → Option (Part I) → Type 0
SureIf m takes_in may_fail h None = Unit {0}
SureIf m takes_in may_fail h (Some p) = IsSure m takes_in may_fail h p

-- one entry more, of its part under this number; a node that has none keeps nothing, and at most its room grows
abbrev pub KeepsPart : {S M I A : Type 0} → Meaning S I A → ℕ → Option (Part I) → HeldSeen M I A → HeldSeen M I A
    → Type 0
KeepsPart m number None old new = SameHeld old new
KeepsPart m number (Some p) old new = KeepsSome m number p.input old new

-- there is a part, or none, for each of these nodes, and each part is taken for sure
abbrev pub ArePartlySure : {S M I A : Type 0} → Meaning S I A → (M → I → Bool) → (M → I → Bool)
    → List (HeldSeen M I A) → List (Option (Part I)) → Type 0
ArePartlySure m takes_in may_fail nodes parts =
    (length parts ≡ length nodes)
    × Each nodes (λ k h. (o : Option (Part _)) × (slice_get parts k ≡ Some o) × SureIf m takes_in may_fail h o)

-- each of these nodes keeps its part, if it has one, under this number, and nothing else
abbrev pub PartlyKeep : {S M I A : Type 0} → Meaning S I A → ℕ → List (Option (Part I)) → List (HeldSeen M I A)
    → List (HeldSeen M I A) → Type 0
PartlyKeep m number parts old new =
    Both (λ k x y. (o : Option (Part _)) × (slice_get parts k ≡ Some o) × KeepsPart m number o x y) old new
