-- The sites of a set, one after another: which comes next, and what is done up to it.
use Rattle.std.specs.Prelude.{◌≡◌, ◌≤◌, ◌<◌, ◌+◌, ◌-◌, ◌/◌, ◌%◌, ◌^◌, ◌==◌, ℕ, zero, suc, Bool, true, false, List, [], ◌∷◌, ◌++◌, length, get_or, set, map, replicate, if◌then◌else◌, refl}
use Rattle.std.proofs.Common.{arith, ap, subst, sym, ◌∙◌, inl, inr, w64, ◌⊎◌}
use Rattle.std.specs.Int.{bit_at, trailing_zeros}
use Rattle.std.proofs.Math.Nat.{div-div-eq-div-mul, eq-or-lt_of_le}
use Rattle.std.proofs.Math.ListN.{get_or-eq_default}
use Rattle.std.proofs.lemmas.Nat.{pow-add}
use Rattle.std.proofs.lemmas.Nat.Bits.{bit_at-zero, bit_at-trailing_zeros}
use Rattle.std.proofs.lemmas.List.{map-set, set-get_or, get_or-map, get_or-set_same, get_or-set_other, length-set}
use Rattle.sat_label.specs.Words.{bit}
use Rattle.sat_queue.specs.Queued.{Queued, members_of, HasRoom}
use Rattle.sat_gear.specs.Lanes.{count_of, picked, HaveRoomWhere, IsLaid, Spread}
use Rattle.sat_gear.proofs.Spreads.{counts_picked, less-or-not}

-- ---- the next site of a set

shifted : (bits from i : ℕ) → bit_at (bits / 2 ^ from) i ≡ bit_at bits (from + i)
shifted bits from i = ap (λ (n : ℕ). n % 2) (div-div-eq-div-mul bits (2 ^ from) (2 ^ i) ∙ ap (λ (p : ℕ). bits / p) (sym (pow-add 2 from i)))

bit-shifted : (bits from k : ℕ) → from ≤ k → bit bits k ≡ (bit_at (bits / 2 ^ from) (k - from) == 1)
bit-shifted bits from k low = ap (λ (n : ℕ). n == 1) (ap (λ (j : ℕ). bit_at bits j) (let e : k ≡ from + (k - from) = omega arith in e) ∙ sym (shifted bits from (k - from)))

pub no-more : (bits from rest k : ℕ) → rest ≡ bits / 2 ^ from → rest ≡ 0 → from ≤ k → bit bits k ≡ false
no-more bits from rest k is none low =
    bit-shifted bits from k low ∙ ap (λ (n : ℕ). n == 1) (ap (λ (n : ℕ). bit_at n (k - from)) (sym is ∙ none) ∙ bit_at-zero (k - from))

pub not-before : (bits from rest k : ℕ) → rest ≡ bits / 2 ^ from → 0 < rest → rest < 2 ^ 64 → from ≤ k → k < from + trailing_zeros w64 rest → bit bits k ≡ false
not-before bits from rest k is some fits low high =
    bit-shifted bits from k low ∙ ap (λ (n : ℕ). n == 1) (ap (λ (n : ℕ). bit_at n (k - from)) (sym is) ∙ (bit_at-trailing_zeros w64 rest some fits).2 (k - from) (omega arith))

pub next-one : (bits from rest : ℕ) → rest ≡ bits / 2 ^ from → 0 < rest → rest < 2 ^ 64 → bit bits (from + trailing_zeros w64 rest) ≡ true
next-one bits from rest is some fits =
    bit-shifted bits from (from + trailing_zeros w64 rest) (omega arith)
    ∙ ap (λ (n : ℕ). n == 1)
    (ap (λ (n : ℕ). bit_at n ((from + trailing_zeros w64 rest) - from)) (sym is)
    ∙ (ap (λ (n : ℕ). bit_at rest n) (let e : (from + trailing_zeros w64 rest) - from ≡ trailing_zeros w64 rest = omega arith in e) ∙ (bit_at-trailing_zeros w64 rest some fits).1))

-- ---- what is done up to a site

-- no site between passes
pub spread-skip : (test : ℕ → Bool) (place i j : ℕ) (old now : List (List ℕ)) → i ≤ j → ((k : ℕ) → i ≤ k → k < j → test k ≡ false) → Spread test place i old now → Spread test place j old now
spread-skip test place i j old now up passed s = record {
  count = s.count;
  before = λ k low. at k low (less-or-not k i);
  after = λ k high. s.after k (λ low. high (omega arith));
}
  where
    at : (k : ℕ) → k < j → (k < i) ⊎ (k < i → ⊥) → get_or now k [] ≡ (if test k then get_or old k [] ++ place ∷ [] else get_or old k [])
    at k low (inl under) = s.before k under
    at k low (inr over) = s.after k over ∙ sym (ap (λ (b : Bool). if b then get_or old k [] ++ place ∷ [] else get_or old k []) (passed k (not-under k over) low))
      where
        not-under : (k : ℕ) → (k < i → ⊥) → i ≤ k
        not-under k over = grind arith

pub spread-end : (test : ℕ → Bool) (place i n : ℕ) (old now : List (List ℕ)) → n ≡ length old → n ≤ i → Spread test place i old now → Spread test place n old now
spread-end test place i n old now size past s = record {
  count = s.count;
  before = λ k low. s.before k (omega arith);
  after = λ k high. get_or-eq_default now [] (let e : length now ≤ k = beyond k high (length now) (s.count ∙ sym size) in e) ∙ sym (get_or-eq_default old [] (let e : length old ≤ k = beyond k high (length old) (sym size) in e));
}
  where
    beyond : (k : ℕ) → (k < n → ⊥) → (m : ℕ) → m ≡ n → m ≤ k
    beyond k high m e = grind arith

pub spread-none : (test : ℕ → Bool) (place : ℕ) (old : List (List ℕ)) → Spread test place 0 old old
spread-none test place old = record { count = refl; before = λ k low. absurd (omega arith); after = λ k high. refl }

-- ---- room

-- from n on the lanes of the sites that pass have room
abbrev pub RoomFrom : (ℕ → Bool) → ℕ → List (Queued ℕ) → Type 0
RoomFrom test n lanes = (k : ℕ) (d : Queued ℕ) → n ≤ k → k < length lanes → test k ≡ true → HasRoom (get_or lanes k d)

pub room-on : (test : ℕ → Bool) (i j : ℕ) (lanes : List (Queued ℕ)) (r : Queued ℕ) → i + 1 ≤ j → RoomFrom test i lanes → RoomFrom test j (set lanes i r)
room-on test i j lanes r up room k d low high passes =
    subst (λ (l : Queued ℕ). HasRoom l) (sym (get_or-set_other lanes i k r d (λ same. absurd (let e : k ≡ i = same in omega arith))))
    (room k d (omega arith) (subst (λ (n : ℕ). k < n) (length-set lanes i r) high) passes)

pub room-put : (test : ℕ → Bool) (i j : ℕ) (lanes : List (Queued ℕ)) (r : Queued ℕ) → i < length lanes → i + 1 ≤ j → ((k : ℕ) → i + 1 ≤ k → k < j → test k ≡ false) → HasRoom r →
    HaveRoomWhere test i lanes → HaveRoomWhere test j (set lanes i r)
room-put test i j lanes r h up passed here room k d low high passes = at (less-or-not k i)
  where
    same-or : (k ≡ i) ⊎ (i + 1 ≤ k) → HasRoom (get_or (set lanes i r) k d)
    same-or (inl same) = subst (λ (n : ℕ). HasRoom (get_or (set lanes i r) n d)) (sym same) (subst (λ (l : Queued ℕ). HasRoom l) (sym (get_or-set_same lanes i r d h)) here)
    same-or (inr over) = absurd (clash (test k) passes (passed k over low))
      where
        clash : (b : Bool) → b ≡ true → b ≡ false → ⊥
        clash b yes_ no_ = cc

    at : (k < i) ⊎ (k < i → ⊥) → HasRoom (get_or (set lanes i r) k d)
    at (inl under) = subst (λ (l : Queued ℕ). HasRoom l) (sym (get_or-set_other lanes i k r d (λ same. absurd (let e : k ≡ i = same in omega arith)))) (room k d under (subst (λ (n : ℕ). k < n) (length-set lanes i r) high) passes)
    at (inr over) = same-or (split k over)
      where
        split : (k : ℕ) → (k < i → ⊥) → (k ≡ i) ⊎ (i + 1 ≤ k)
        split k over = at-or k over (eq-or-lt_of_le (let e : i ≤ k = above k over in e))
          where
            above : (k : ℕ) → (k < i → ⊥) → i ≤ k
            above k over = grind arith

            at-or : (k : ℕ) → (k < i → ⊥) → (i ≡ k) ⊎ (i < k) → (k ≡ i) ⊎ (i + 1 ≤ k)
            at-or k over (inl e) = inl (sym e)
            at-or k over (inr low) = inr (omega arith)

-- ---- counts

pub counted-more : (lanes : List (Queued ℕ)) (counts : List ℕ) (i : ℕ) (r q : Queued ℕ) (n : ℕ) → i < length lanes → counts ≡ map count_of (map members_of lanes) →
    n ≡ length (get_or (set lanes i r) i q).members → set counts i n ≡ map count_of (map members_of (set lanes i r))
counted-more lanes counts i r q n h is size =
    ap (λ (cs : List ℕ). set cs i n) is
    ∙ (ap (λ (m : ℕ). set (map count_of (map members_of lanes)) i m) (size ∙ ap (λ (l : Queued ℕ). length l.members) (get_or-set_same lanes i r q h))
    ∙ (sym (map-set count_of (map members_of lanes) i r.members) ∙ ap (λ (ls : List (List ℕ)). map count_of ls) (sym (map-set members_of lanes i r))))

pub same-places : (lanes : List (Queued ℕ)) (i : ℕ) (q r : Queued ℕ) → i < length lanes → r.members ≡ (get_or lanes i q).members → map members_of (set lanes i r) ≡ map members_of lanes
same-places lanes i q r h same =
    map-set members_of lanes i r
    ∙ (ap (λ (ns : List ℕ). set (map members_of lanes) i ns) (same ∙ sym (get_or-map members_of lanes i q [] h)) ∙ set-get_or (map members_of lanes) i [])

pub no-counts : (lanes : List (List ℕ)) (counts : List ℕ) (n : ℕ) → lanes ≡ replicate n [] → counts ≡ replicate n 0 → counts ≡ map count_of lanes
no-counts lanes counts n empty zeros = zeros ∙ (sym (count-none n) ∙ ap (λ (ls : List (List ℕ)). map count_of ls) (sym empty))
  where
    count-none : (n : ℕ) → map (count_of {X = ℕ}) (replicate n []) ≡ replicate n 0
    count-none zero = refl
    count-none (suc n) = ap (λ (ns : List ℕ). 0 ∷ ns) (count-none n)

-- the counts are those of the lanes of payloads
pub counts-are : {X : Type 0} (made : List X) (places : List (List ℕ)) (counts : List ℕ) (view : List (List X)) → IsLaid (length made) places counts → map (picked made) places ≡ view →
    counts ≡ map count_of view
counts-are {X} made places counts view laid is = laid.counted ∙ (sym (counts_picked made places laid.below) ∙ ap (λ (ls : List (List X)). map count_of ls) is)

pub count-at : {X : Type 0} (counts : List ℕ) (view : List (List X)) (k n : ℕ) → counts ≡ map count_of view → k < length view → n ≡ get_or counts k n → n ≡ length (get_or view k [])
count-at {X} counts view k n is low here =
    here ∙ (ap (λ (ns : List ℕ). get_or ns k n) is ∙ get_or-map count_of view k [] n low)
