-- Nodes that are lent together, of which only some take part.
use Rattle.std.proofs.Common.{◌≡◌, ℕ, ◌+◌, Bool, List, slice_get, Option, Some, None, refl, sym, ap, ◌∙◌, subst}
use Rattle.sat_node.specs.declared.joint.Part.{Part}
use Rattle.sat_node.specs.Meanings.{Meaning}
use Rattle.sat_node.specs.Links.{HeldSeen, Each, OnlyAt}
use Rattle.sat_node.specs.Together.{AllSame, IsSure, KeepsSome, SameHeld}
use Rattle.sat_node.proofs.Members.{From, both_then, each_both, from_more}
use Rattle.sat_node.proofs.Together.{same_self, same_then, some_from, sure_same}
use Rattle.sat_parts_passes.specs.Partly.{ArePartlySure, KeepsPart, PartlyKeep, SureIf}

module _ {S M I A : Type 0} (m : Meaning S I A) (takes_in may_fail : M → I → Bool) where
  if_same : (o : Option (Part I)) (x y : HeldSeen M I A) → SameHeld x y → SureIf m takes_in may_fail x o → SureIf m takes_in may_fail y o
  if_same None x y same was = tt
  if_same (Some p) x y same was = sure_same m takes_in may_fail p x y same was

  -- parts of nodes are parts of them behind a reservation
  pub partly_same : (a b : List (HeldSeen M I A)) (parts : List (Option (Part I))) → AllSame a b → ArePartlySure m takes_in may_fail a parts → ArePartlySure m takes_in may_fail b parts
  partly_same a b parts ab sure = (
    sure.0 ∙ sym ab.0,
    each_both (λ _ x y. SameHeld x y) (λ k h. (o : Option (Part I)) × (slice_get parts k ≡ Some o) × SureIf m takes_in may_fail h o) (λ k h. (o : Option (Part I)) × (slice_get parts k ≡ Some o) × SureIf m takes_in may_fail h o) a b
        (λ k x y same was. (was.0, was.1, if_same was.0 x y same was.2)) ab sure.1,
  )

  -- the part of the node of this number
  pub partly_at : (k : ℕ) (parts : List (Option (Part I))) (o : Option (Part I)) (a : List (HeldSeen M I A)) → slice_get parts k ≡ Some o → ArePartlySure m takes_in may_fail a parts → Each a (λ j h. j ≡ k → SureIf m takes_in may_fail h o)
  partly_at k parts o a at sure j h here is =
      let was = sure.1 j h here in
      let both : Some was.0 ≡ Some o = sym was.1 ∙ (ap (slice_get parts) is ∙ at) in
      let same : was.0 ≡ o = cc (both) in
      subst (SureIf m takes_in may_fail h) same was.2

  pub sure_some : (k : ℕ) (o : Option (Part I)) (p : Part I) (a : List (HeldSeen M I A)) → o ≡ Some p → Each a (λ j h. j ≡ k → SureIf m takes_in may_fail h o) → Each a (λ j h. j ≡ k → IsSure m takes_in may_fail h p)
  sure_some k o p a is all j h at here = subst (SureIf m takes_in may_fail h) is (all j h at here)

module _ {S M I A : Type 0} (m : Meaning S I A) where
  abbrev pub IsPart : ℕ → List (Option (Part I)) → ℕ → HeldSeen M I A → HeldSeen M I A → Type 0
  IsPart number parts k x y = (o : Option (Part I)) × (slice_get parts k ≡ Some o) × KeepsPart m number o x y

  -- a node that has no part stays
  pub keeps_none : (number k : ℕ) (o : Option (Part I)) (a : List (HeldSeen M I A)) → o ≡ None → OnlyAt k (KeepsPart m number o) a a
  keeps_none number k o a is = (refl, λ j y at. (y, at, ((λ no. refl), (λ here. subst (λ (p : Option (Part I)). KeepsPart m number p y y) (sym is) (same_self y)))))

  pub keeps_some : (number k : ℕ) (o : Option (Part I)) (p : Part I) (a b : List (HeldSeen M I A)) → o ≡ Some p → OnlyAt k (KeepsSome m number p.input) a b → OnlyAt k (KeepsPart m number o) a b
  keeps_some number k o p a b is ab = subst (λ (q : Option (Part I)). OnlyAt k (KeepsPart m number q) a b) (sym is) ab

  -- one part more was kept
  pub partly_more : (number k n : ℕ) (parts : List (Option (Part I))) (o : Option (Part I)) (a b c : List (HeldSeen M I A)) → n ≡ k + 1 → slice_get parts k ≡ Some o → From n (IsPart number parts) a b
      → OnlyAt k (KeepsPart m number o) b c → From k (IsPart number parts) a c
  partly_more number k n parts o a b c next at ab bc =
      from_more (IsPart number parts) k n a b c next ab (bc.0, λ j z here. let h = bc.1 j z here in (h.0, h.1, (h.2.0, (λ is. (o, at, h.2.1 is)))))

  part_from : (number top : ℕ) (o : Option (Part I)) (x y z : HeldSeen M I A) → SameHeld x y → number ≡ top → KeepsPart m (number + 1) o y z → KeepsPart m (top + 1) o x z
  part_from number top None x y z same is kept = same_then x y z same kept
  part_from number top (Some p) x y z same is kept = some_from m number top p.input x y z same is kept

  -- what is kept behind a reservation is kept behind what was before it
  pub partly_from : (number top : ℕ) (parts : List (Option (Part I))) (a b c : List (HeldSeen M I A)) → number ≡ top → AllSame a b → PartlyKeep m (number + 1) parts b c → PartlyKeep m (top + 1) parts a c
  partly_from number top parts a b c is ab bc =
      both_then (λ _ x y. SameHeld x y) (IsPart (number + 1) parts) (IsPart (top + 1) parts) a b c
      (λ k x y z same kept. (kept.0, kept.1, part_from number top kept.0 x y z same is kept.2)) ab bc
