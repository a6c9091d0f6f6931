-- What all of some bytes spell.
use Rattle.std.proofs.Common.{◌≡◌, ℕ, ◌-◌, Bool, true, false, List, [], ◌++◌, length, Ok, Err, refl, sym, ◌∙◌, ap}
use Rattle.std.proofs.Common.{arith}
use Rattle.std.specs.Prelude.{nat_lt, if◌then◌else◌}
use Rattle.std.specs.declared.result.Result.{Result}
use Rattle.std.proofs.lemmas.Bool.Decides.{nat_tests}
use Rattle.std.proofs.lemmas.List.{append-nil, nil_from_length}
use Rattle.sat_wire.specs.declared.fault.Cause.TheVariants as cause
use Rattle.sat_wire.specs.declared.fault.Stop.{Stop}
use Rattle.sat_wire.specs.declared.fault.Wrong.{Wrong}
use Rattle.sat_wire.specs.declared.fault.DecodeFault.{DecodeFault}
use Rattle.sat_wire.specs.declared.fault.DecodeFault.TheVariants as decode_fault
use Rattle.sat_wire.specs.Code.{Code, AreBytes, IsExact, and_then, stopped}
use Rattle.sat_wire.specs.Exact.{went_on, goes_on}

-- with no byte behind it
abbrev pub closed : {A : Type 0} → A × List ℕ → Result A Stop
closed x = if nat_lt 0 (length x.1) then stopped cause.Long (length x.1) else Ok x.0

-- of so many bytes, by the place from the front
abbrev pub placed : {A : Type 0} → ℕ → Result A Stop → Result A Wrong
placed n (Ok x) = Ok x
placed n (Err stop) = Err (record { cause = stop.cause; place = n - stop.left })

-- the value that all of the bytes spell, or the place at which they stop to be a spelling
abbrev pub whole : {A : Type 0} → Code A → List ℕ → Result A Wrong
whole code bytes = placed (length bytes) (and_then (code.read bytes) closed)

-- what was refused, but for want of memory, is this
abbrev pub Refuses : {A : Type 0} → DecodeFault → Result A Wrong → Type 0
Refuses decode_fault.Memory read = Unit {0}
Refuses (decode_fault.Wrong wrong) read = read ≡ Err wrong

-- nothing was refused, but for want of memory
abbrev pub IsWant : DecodeFault → Type 0
IsWant decode_fault.Memory = Unit {0}
IsWant (decode_fault.Wrong wrong) = ⊥

module _ {A : Type 0} (code : Code A) (exact : IsExact code) where
  -- what a value is spelled with is read as it
  pub whole_again : (bytes : List ℕ) (x : A) → code.fits x ≡ true → bytes ≡ code.spell x → whole code bytes ≡ Ok x
  whole_again bytes x fits is =
      ap (placed (length bytes)) (goes_on (code.read bytes) (x, []) closed
      (ap code.read (is ∙ sym (append-nil (code.spell x))) ∙ exact.again x [] fits))

  none_behind : (b : Bool) (x y : A) (n : ℕ) → (if b then stopped cause.Long n else Ok x) ≡ Ok y → (b ≡ false) × (x ≡ y)
  none_behind true x y n is = cc
  none_behind false x y n is = (refl, cc)

  placed_ok : (n : ℕ) (o : Result A Stop) (x : A) → placed n o ≡ Ok x → o ≡ Ok x
  placed_ok n (Ok y) x is = let same : y ≡ x = cc in ap (λ (z : A). let o : Result A Stop = Ok z in o) same
  placed_ok n (Err stop) x is = cc

  -- what was read as a value was spelled so, and fits
  pub whole_only : (bytes : List ℕ) (x : A) → AreBytes bytes → whole code bytes ≡ Ok x
      → (bytes ≡ code.spell x) × (code.fits x ≡ true)
  whole_only bytes x small is =
      let y = went_on (code.read bytes) closed x (placed_ok (length bytes) (and_then (code.read bytes) closed) x is) in
      let p = none_behind (nat_lt 0 (length y.0.1)) y.0.0 x (length y.0.1) y.2 in
      let empty : y.0.1 ≡ [] = nil_from_length y.0.1 (grind (arith, nat_tests, p.0)) in
      let front = exact.only bytes y.0.1 y.0.0 small y.1 in (
        front.0 ∙ ap (λ (l : List ℕ). code.spell y.0.0 ++ l) empty ∙ append-nil (code.spell y.0.0) ∙ ap code.spell p.1,
        ap code.fits (sym p.1) ∙ front.1,
      )

  pub value_is : (bytes : List ℕ) (x y : A) → code.fits x ≡ true → bytes ≡ code.spell x
      → whole code bytes ≡ Ok y → y ≡ x
  value_is bytes x y fits is read = cc (whole_again bytes x fits is, read)

  -- bytes that spell a value are not refused
  pub not_refused : (bytes : List ℕ) (x : A) (fault : DecodeFault) → code.fits x ≡ true → bytes ≡ code.spell x
      → Refuses fault (whole code bytes) → IsWant fault
  not_refused bytes x decode_fault.Memory fits is refused = tt
  not_refused bytes x (decode_fault.Wrong wrong) fits is refused = cc (whole_again bytes x fits is)
