-- Nodes under their locks, all lent.
use Rattle.std.proofs.Common.{◌≡◌, ℕ, zero, suc, ◌+◌, ◌≤◌, ◌<◌, max, Bool, List, [], ◌∷◌, ◌++◌, length, slice_set, slice_get, Option, Some, refl, sym, ap, ◌∙◌, subst, arith}
use Rattle.std.proofs.lemmas.List.{length-append}
use Rattle.std.proofs.lemmas.Option.{slice_get_within}
use Rattle.std.specs.declared.sync.MutexGuard.{MutexGuard}
use Rattle.std.specs.Sync.Mutex.{mutex_guard_value, mutex_guard_with_value}
use Rattle.sat_node.specs.declared.joint.Part.{Part}
use Rattle.sat_node.specs.Meanings.{Meaning}
use Rattle.sat_node.specs.Links.{HeldSeen, Each, OnlyAt}
use Rattle.sat_node.specs.Together.{AllKeep, AllSame, AreSure, IsSure, KeepsSome, SameHeld, heard_from, lent, most, top_of}
use Rattle.sat_node.proofs.Members.{From, both_only, both_same, both_then, each_both, each_only, from_more, get_front, get_last, replaced}
use Rattle.sat_node.proofs.Together.{number_same, same_self, same_then, some_from, sure_same}

lent_set : {X : Type 0} (gs : List (MutexGuard X)) (k : ℕ) (g : MutexGuard X) (x : X) → lent (slice_set gs k (mutex_guard_with_value g x)) ≡ slice_set (lent gs) k x
lent_set [] k g x = refl
lent_set (h ∷ hs) zero g x = refl
lent_set (h ∷ hs) (suc k) g x = ap (λ l. mutex_guard_value h ∷ l) (lent_set hs k g x)

pub lent_at : {X : Type 0} (gs : List (MutexGuard X)) (k : ℕ) (g : MutexGuard X) → slice_get gs k ≡ Some g → slice_get (lent gs) k ≡ Some (mutex_guard_value g)
lent_at [] k g at = absurd (cc (at))
lent_at {X} (h ∷ hs) zero g at = (let e : h ≡ g = cc (at) in ap (λ (i : MutexGuard X). Some (mutex_guard_value i)) e)
lent_at (h ∷ hs) (suc k) g at = lent_at hs k g at

-- one of them was changed
pub set_at : {X : Type 0} (R : X → X → Type 0) (gs : List (MutexGuard X)) (k : ℕ) (g : MutexGuard X) (x : X) → slice_get gs k ≡ Some g → R (mutex_guard_value g) x
    → OnlyAt k R (lent gs) (lent (slice_set gs k (mutex_guard_with_value g x)))
set_at R gs k g x at holds = subst (OnlyAt k R (lent gs)) (sym (lent_set gs k g x)) (replaced R (lent gs) k (mutex_guard_value g) x (lent_at gs k g at) holds)

-- the greatest number is none of them less
most_least : {M I A : Type 0} (n : ℕ) (hs : List (HeldSeen M I A)) → n ≤ most n hs
most_least n [] = omega arith
most_least n (h ∷ hs) = (let e = most_least (max n h.node.number) hs in omega arith)

most_each : {M I A : Type 0} (n : ℕ) (hs : List (HeldSeen M I A)) → Each hs (λ _ h. h.node.number ≤ most n hs)
most_each n [] k h at = absurd (cc (at))
most_each {M} {I} {A} n (g ∷ hs) zero h at =
    let e : g ≡ h = cc (at) in
    let l = most_least (max n g.node.number) hs in
    let le : g.node.number ≤ most (max n g.node.number) hs = omega arith in
    subst (λ (i : HeldSeen M I A). i.node.number ≤ most (max n g.node.number) hs) e le
most_each n (g ∷ hs) (suc k) h at = most_each (max n g.node.number) hs k h at

module _ {M I A N J B : Type 0} (heard : ℕ) (link : Option ℕ) (home : HeldSeen M I A) where
  pub top_home : (others : List (HeldSeen N J B)) (last : ℕ) → last ≡ top_of heard link home others → home.node.number ≤ last
  top_home others last is = (let l = most_least (max (max heard (heard_from link home.ins)) home.node.number) others in omega arith)

  pub top_heard : (others : List (HeldSeen N J B)) (last : ℕ) → last ≡ top_of heard link home others → heard_from link home.ins ≤ last
  top_heard others last is = (let l = most_least (max (max heard (heard_from link home.ins)) home.node.number) others in omega arith)

  pub top_each : (others : List (HeldSeen N J B)) (last : ℕ) → last ≡ top_of heard link home others → Each others (λ _ h. h.node.number ≤ last)
  top_each others last is k h at = subst (λ (n : ℕ). h.node.number ≤ n) (sym is) (most_each (max (max heard (heard_from link home.ins)) home.node.number) others k h at)

  pub top_other : (other : HeldSeen N J B) (last : ℕ) → last ≡ top_of heard link home (other ∷ []) → other.node.number ≤ last
  top_other other last is = top_each (other ∷ []) last is 0 other refl

-- rooms were taken one after another
pub all_same : {M I A : Type 0} (a : List (HeldSeen M I A)) → AllSame a a
all_same a = both_same (λ _ x y. SameHeld x y) a (λ _ x. same_self x)

pub all_only : {M I A : Type 0} (k : ℕ) (a b c : List (HeldSeen M I A)) → AllSame a b → OnlyAt k SameHeld b c → AllSame a c
all_only k a b c ab bc = both_only (λ _ x y. SameHeld x y) SameHeld k a b c (λ _ x y z. same_then x y z) ab bc

pub all_number : {M I A : Type 0} (n : ℕ) (a b : List (HeldSeen M I A)) → AllSame a b → Each a (λ _ h. h.node.number ≤ n) → Each b (λ _ h. h.node.number ≤ n)
all_number n a b ab all = each_both (λ _ x y. SameHeld x y) (λ _ h. h.node.number ≤ n) (λ _ h. h.node.number ≤ n) a b (λ _ x y same le. number_same x y n same le) ab all

-- the first so many have room
abbrev pub RoomFirst : {M I A : Type 0} → ℕ → List (HeldSeen M I A) → Type 0
RoomFirst n hs = Each hs (λ j h. j < n → 0 < h.node.room)

pub room_none : {M I A : Type 0} (n : ℕ) (hs : List (HeldSeen M I A)) → n ≡ 0 → RoomFirst n hs
room_none n hs none k h at less = absurd (omega arith)

pub room_more : {M I A : Type 0} (n : ℕ) (b c : List (HeldSeen M I A)) → RoomFirst n b → OnlyAt n (λ _ h. 0 < h.node.room) b c → RoomFirst (n + 1) c
room_more n b c all bc =
    each_only (λ j h. j < n → 0 < h.node.room) (λ j h. j < n + 1 → 0 < h.node.room) (λ _ h. 0 < h.node.room) n b c (λ k x no old less. old (omega arith)) (λ y z new less. new) all bc

pub room_all : {M I A : Type 0} (n : ℕ) (hs : List (HeldSeen M I A)) → length hs ≡ n → RoomFirst n hs → Each hs (λ _ h. 0 < h.node.room)
room_all n hs whole all k h at = all k h at (let w = slice_get_within hs k h at in omega arith)

module _ {S M I A : Type 0} (m : Meaning S I A) (takes_in may_fail : M → I → Bool) where
  -- parts of nodes are parts of them behind a reservation
  pub parts_same : (a b : List (HeldSeen M I A)) (parts : List (Part I)) → AllSame a b → AreSure m takes_in may_fail a parts → AreSure m takes_in may_fail b parts
  parts_same a b parts ab sure = (
    sure.0 ∙ sym ab.0,
    each_both (λ _ x y. SameHeld x y) (λ k h. (p : Part I) × (slice_get parts k ≡ Some p) × IsSure m takes_in may_fail h p) (λ k h. (p : Part I) × (slice_get parts k ≡ Some p) × IsSure m takes_in may_fail h p) a b
        (λ k x y same was. (was.0, was.1, sure_same m takes_in may_fail was.0 x y same was.2)) ab sure.1,
  )

  -- the part of the node of this number
  pub part_at : (k : ℕ) (parts : List (Part I)) (p : Part I) (a : List (HeldSeen M I A)) → slice_get parts k ≡ Some p → AreSure m takes_in may_fail a parts → Each a (λ j h. j ≡ k → IsSure m takes_in may_fail h p)
  part_at k parts p a at sure j h here is =
      let was = sure.1 j h here in
      let both : Some was.0 ≡ Some p = sym was.1 ∙ (ap (slice_get parts) is ∙ at) in
      let same : was.0 ≡ p = cc (both) in
      subst (IsSure m takes_in may_fail h) same was.2

module _ {S M I A : Type 0} (m : Meaning S I A) where
  abbrev pub IsKept : ℕ → List (Part I) → ℕ → HeldSeen M I A → HeldSeen M I A → Type 0
  IsKept number parts k x y = (p : Part I) × (slice_get parts k ≡ Some p) × KeepsSome m number p.input x y

  -- one part more was kept
  pub kept_more : (number k n : ℕ) (parts : List (Part I)) (p : Part I) (a b c : List (HeldSeen M I A)) → n ≡ k + 1 → slice_get parts k ≡ Some p → From n (IsKept number parts) a b
      → OnlyAt k (KeepsSome m number p.input) b c → From k (IsKept number parts) a c
  kept_more number k n parts p a b c next at ab bc =
      from_more (IsKept number parts) k n a b c next ab (bc.0, λ j z here. let h = bc.1 j z here in (h.0, h.1, (h.2.0, (λ is. (p, at, h.2.1 is)))))

  -- what all keep behind a reservation they keep behind what was before it
  pub keep_from : (number top : ℕ) (parts : List (Part I)) (a b c : List (HeldSeen M I A)) → number ≡ top → AllSame a b → AllKeep m (number + 1) parts b c → AllKeep m (top + 1) parts a c
  keep_from number top parts a b c is ab bc =
      both_then (λ _ x y. SameHeld x y) (IsKept (number + 1) parts) (IsKept (top + 1) parts) a b c
      (λ k x y z same kept. (kept.0, kept.1, some_from m number top kept.0.input x y z same is kept.2)) ab bc

-- the parts that are left are the first ones
abbrev pub AreFirst : {X : Type 0} → List X → List X → Type 0
AreFirst {X} left all = (j : ℕ) (x : X) → slice_get left j ≡ Some x → slice_get all j ≡ Some x

pub first_less : {X : Type 0} (left was all : List X) (x : X) → was ≡ left ++ x ∷ [] → AreFirst was all → AreFirst left all
first_less left was all x is first j y at = first j y (ap (λ l. slice_get l j) is ∙ get_front left x y j at)

pub first_here : {X : Type 0} (left was all : List X) (x : X) (n : ℕ) → length left ≡ n → was ≡ left ++ x ∷ [] → AreFirst was all → slice_get all n ≡ Some x
first_here left was all x n size is first = first n x (ap (λ l. slice_get l n) is ∙ get_last left x n size)

pub one_longer : {X : Type 0} (left was : List X) (x : X) → was ≡ left ++ x ∷ [] → length was ≡ length left + 1
one_longer left was x is = ap length is ∙ length-append left (x ∷ [])
