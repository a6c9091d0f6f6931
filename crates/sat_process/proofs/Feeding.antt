-- Handing a host what a journal has.
use Rattle.std.proofs.Common.{◌≡◌, ℕ, suc, zero, get_or, ◌+◌, ◌≤◌, ◌<◌, ◌==◌, Bool, true, false, MatchBool, List, [], ◌∷◌, ◌++◌, length, map, take, if◌then◌else◌, Option, Some, None, slice_get, refl, sym, ap, ◌∙◌, subst, arith}
use Rattle.std.proofs.lemmas.Bool.Decides.{nat_tests}
use Rattle.sat_durable.specs.Disk.{DiskState}
use Rattle.sat_durable.specs.Machine.{Keeps}
use Rattle.sat_log.specs.Logs.{LogSeen, log_meaning, passing}
use Rattle.sat_node.specs.declared.kept.Kept.{Kept}
use Rattle.sat_node.specs.declared.kept.Body.{Body}
use Rattle.sat_node.specs.Links.{takings}
use Rattle.sat_node.specs.Meanings.{Meaning}
use Rattle.sat_message.specs.declared.message.Slip.{Slip}
use Rattle.sat_host_laws.specs.Messages.{HostSeen, IsKept, TookFrom, on_link}
use Rattle.sat_handed.specs.declared.handed.Handed.{Handed}
use Rattle.sat_handed.specs.Handed.{body_of, input_of}
use Rattle.sat_handed.specs.Told.{IsFed, told}
use Rattle.sat_process.specs.declared.hosted.Became.{Became}
use Rattle.sat_process.specs.Keeping.{OnDisk, bodies_of}
use Rattle.sat_process.specs.Starting.{Feeds, IsStrange, NotTaken}

-- ---- lists

pub there_of : {X : Type 0} (xs : List X) (n : ℕ) (x y : X) → x ≡ get_or xs n y → n < length xs → slice_get xs n ≡ Some x
there_of [] n x y is less = absurd (omega (arith, less))
there_of {X} (z ∷ xs) zero x y is less = ap (λ (v : X). let o : Option X = Some v in o) (sym is)
there_of (z ∷ xs) (suc n) x y is less = there_of xs n x y is (omega (arith, less))

pub not_took : (P Q : Type 0) (b : Bool) → b ≡ false → MatchBool b P Q → Q
not_took P Q true is p = absurd (cc (is))
not_took P Q false is p = p

-- ---- a host at which nothing happened

first-slip : (s : Slip) (ss : List Slip) → TookFrom 0 [] (on_link s.link (s ∷ ss)) → ⊥
first-slip s ss took =
    let is : (s.link == s.link) ≡ true = grind (arith, nat_tests) in
    subst (λ b. TookFrom 0 [] (if b then s ∷ on_link s.link ss else on_link s.link ss)) is took

none-on : (ss : List Slip) → ((j : ℕ) → TookFrom 0 [] (on_link j ss)) → ss ≡ []
none-on [] took = refl
none-on (s ∷ ss) took = absurd (first-slip s ss (took s.link))

pub no_slips : {S M I A : Type 0} (m : Meaning S I A) (h : HostSeen M I A) → h.node.entries ≡ [] → IsKept m h → h.slips ≡ []
no_slips {S} {M} {I} {A} m h is kept = none-on h.slips (λ j. subst (λ (ks : List (Kept I A)). TookFrom 0 (takings (m.takes h.node.name j) ks) (on_link j h.slips)) is (kept.slipped.took j))

module _ {M I A : Type 0} (asked : ℕ → I → Option Handed) (took : I → Option Body) where
  pub fed_none : (h : HostSeen M I A) → h.node.entries ≡ [] → h.slips ≡ [] → IsFed asked took h.node.entries h.slips
  fed_none h entries slips =
      subst (λ (ks : List (Kept I A)). IsFed asked took ks h.slips) (sym entries) (subst (λ (ss : List Slip). IsFed {A = A} asked took [] ss) (sym slips) tt)

  pub told_none : (h : HostSeen M I A) → h.node.entries ≡ [] → bodies_of asked took h ≡ []
  told_none h entries = ap (λ (ks : List (Kept I A)). map body_of (told asked took ks h.slips)) entries

  -- ---- record by record

  pub feeds_none : {S : Type 0} (m : Meaning S I A) (bodies : List (List ℕ)) (h : HostSeen M I A) → h.node.entries ≡ [] → IsKept m h → Feeds asked took bodies 0 h h
  feeds_none m bodies h entries kept = record { fed = fed_none h entries (no_slips m h entries kept); told = told_none h entries; name = refl }

  pub is_strange : (would : HostSeen M I A → Handed → Became) (bodies : List (List ℕ)) (n : ℕ) (body : List ℕ) (old mid : HostSeen M I A) → Feeds asked took bodies n old mid → slice_get bodies n ≡ Some body → NotTaken would mid (input_of body) → IsStrange asked took would bodies n
  is_strange would bodies n body old mid so there not_ = record { host = mid; fed = so.fed; before = so.told; body = body; there = there; strange = not_ }

  -- the host is as it was
  pub feeds_still : (bodies : List (List ℕ)) (n : ℕ) (old mid new : HostSeen M I A) → Feeds asked took bodies n old mid → new ≡ mid → Feeds asked took bodies n old new
  feeds_still bodies n old mid new so is = subst (λ (h : HostSeen M I A). Feeds asked took bodies n old h) (sym is) so

  pub fresh_on_disk : {S : Type 0} (m : Meaning S I A) (disk : DiskState) (log : LogSeen) (h : HostSeen M I A) → h.node.entries ≡ [] → IsKept m h → Keeps log_meaning passing disk log [] → OnDisk asked took disk log h
  fresh_on_disk m disk log h entries kept keeps = record {
    keeps = subst (λ (bodies : List (List ℕ)). Keeps log_meaning passing disk log bodies) (sym (told_none h entries)) keeps;
    fed = fed_none h entries (no_slips m h entries kept);
  }
