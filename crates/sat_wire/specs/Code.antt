-- How values are spelled in bytes, and read from the front of bytes.
use Rattle.std.specs.Prelude.{◌≡◌, ℕ, zero, suc, ◌+◌, ◌*◌, ◌<◌, ◌≤◌, Bool, true, false, List, [], ◌∷◌, ◌++◌, length}
use Rattle.std.specs.Prelude.{take, drop, slice_index, slice_get, Some, None, Ok, Err, nat_lt, if◌then◌else◌}
use Rattle.std.specs.declared.option.Option.{Option}
use Rattle.std.specs.declared.result.Result.{Result}
use Rattle.std.specs.List.{flat_map}
use Rattle.std.specs.Int.{w16, w64, to_be_bytes, from_be_bytes}
use Rattle.sat_wire.specs.declared.fault.Cause.{Cause}
use Rattle.sat_wire.specs.declared.fault.Cause.TheVariants as cause
use Rattle.sat_wire.specs.declared.fault.Stop.{Stop}
use Rattle.sat_wire.specs.declared.fault.ReadFault.{ReadFault}
use Rattle.sat_wire.specs.declared.fault.ReadFault.TheVariants as read_fault

-- the value at the front of bytes and the bytes behind it, or what stopped the reading
abbrev pub Read : Type 0 → Type 0
Read A = Result (A × List ℕ) Stop

-- how values of a type are spelled in bytes: spelling, reading, what fits, and the greatest length
pub record Code (A : Type 0) : Type 0 where
  pub spell : A → List ℕ
  pub read : List ℕ → Read A
  -- what has a spelling
  pub fits : A → Bool
  -- how long a spelling is at the most
  pub most : ℕ

-- each is a byte
abbrev pub AreBytes : List ℕ → Type 0
AreBytes bytes = (i : ℕ) → slice_index bytes i < 256

-- What is spelled is read again, whatever follows; what is read was spelled so, and fits. A spelling has a greatest
-- length, and where a reading stops is a place of the bytes, or their end.
pub record IsExact {A : Type 0} (code : Code A) : Type 0 where
  pub again : (x : A) (rest : List ℕ) → code.fits x ≡ true → code.read (code.spell x ++ rest) ≡ Ok (x, rest)
  pub only : (bytes rest : List ℕ) (x : A) → AreBytes bytes → code.read bytes ≡ Ok (x, rest)
      → (bytes ≡ code.spell x ++ rest) × (code.fits x ≡ true)
  pub short : (x : A) → code.fits x ≡ true → length (code.spell x) ≤ code.most
  pub inside : (bytes : List ℕ) (stop : Stop) → AreBytes bytes → code.read bytes ≡ Err stop → stop.left ≤ length bytes

-- a reading that was stopped, but for want of memory, was stopped by this
abbrev pub StopsAt : {A : Type 0} → ReadFault → Read A → Type 0
StopsAt read_fault.Memory read = Unit {0}
StopsAt (read_fault.Stop stop) read = read ≡ Err stop

-- ---- parts

-- goes on with what was read
abbrev pub and_then : {A B : Type 0} → Result A Stop → (A → Result B Stop) → Result B Stop
and_then (Err stop) go_on = Err stop
and_then (Ok x) go_on = go_on x

-- stopped by this, with so many bytes left
abbrev pub stopped : {A : Type 0} → Cause → ℕ → Result A Stop
stopped why left = Err (record { cause = why; left = left })

-- the bytes end before the value does
abbrev pub ended : {A : Type 0} → Result A Stop
ended = stopped cause.Short 0

-- something else made of what was read
abbrev pub made : {A B : Type 0} → (A → B) → Read A → Read B
made f read = and_then read (λ x. Ok (f x.0, x.1))

abbrev pub both_fit : Bool → Bool → Bool
both_fit true b = b
both_fit false b = false

-- ---- numbers

abbrev pub byte_at : List ℕ → Read ℕ
byte_at [] = ended
byte_at (b ∷ rest) = Ok (b, rest)

-- one byte
abbrev pub byte : Code ℕ
byte = record { spell = λ n. n ∷ []; read = byte_at; fits = λ n. nat_lt n 256; most = 1 }

-- two bytes and eight bytes, the highest first
abbrev pub number16 : Code ℕ
number16 = record {
  spell = to_be_bytes w16;
  read = λ bytes. if nat_lt (length bytes) 2 then ended else Ok (from_be_bytes w16 (take 2 bytes), drop 2 bytes);
  fits = λ n. nat_lt n 65536;
  most = 2;
}

abbrev pub number64 : Code ℕ
number64 = record {
  spell = to_be_bytes w64;
  read = λ bytes. if nat_lt (length bytes) 8 then ended else Ok (from_be_bytes w64 (take 8 bytes), drop 8 bytes);
  fits = λ n. nat_lt n 18446744073709551616;
  most = 8;
}

-- ---- values of parts

-- nothing
abbrev pub nothing : Code (Unit {0})
nothing = record { spell = λ x. []; read = λ bytes. Ok (tt, bytes); fits = λ x. true; most = 0 }

-- one behind the other
abbrev pub both : {A B : Type 0} → Code A → Code B → Code (A × B)
both first second = record {
  spell = λ pair. first.spell pair.0 ++ second.spell pair.1;
  read = λ bytes. and_then (first.read bytes) (λ x. and_then (second.read x.1) (λ y. Ok ((x.0, y.0), y.1)));
  fits = λ pair. both_fit (first.fits pair.0) (second.fits pair.1);
  most = first.most + second.most;
}

-- the same bytes for values of another type
abbrev pub mapped : {A B : Type 0} → (A → B) → (B → A) → Code A → Code B
mapped to from code = record {
  spell = λ y. code.spell (from y);
  read = λ bytes. made to (code.read bytes);
  fits = λ y. code.fits (from y);
  most = code.most;
}

-- those of the values for which a test holds
abbrev pub checked : {A : Type 0} → (A → Bool) → Cause → Code A → Code A
checked test why code = record {
  spell = code.spell;
  read = λ bytes. and_then (code.read bytes) (λ x. if test x.0 then Ok x else stopped why (length bytes));
  fits = λ x. both_fit (code.fits x) (test x);
  most = code.most;
}

-- by whether there is one
abbrev pub spelled_if : {A : Type 0} → Code A → Option A → List ℕ
spelled_if code None = 0 ∷ []
spelled_if code (Some x) = 1 ∷ code.spell x

abbrev pub fits_if : {A : Type 0} → Code A → Option A → Bool
fits_if code None = true
fits_if code (Some x) = code.fits x

-- what is allowed, by whether there is one
abbrev pub allowed_if : {A : Type 0} → (A → Bool) → Option A → Bool
allowed_if allows None = true
allowed_if allows (Some x) = allows x

abbrev pub read_if : {A : Type 0} → Code A → List ℕ → Read (Option A)
read_if code [] = ended
read_if code (zero ∷ rest) = Ok (None, rest)
read_if code (suc zero ∷ rest) = made Some (code.read rest)
read_if code (suc (suc n) ∷ rest) = stopped cause.Flag (suc (length rest))

-- a byte 0, or a byte 1 and the value
abbrev pub optional : {A : Type 0} → Code A → Code (Option A)
optional code = record { spell = spelled_if code; read = read_if code; fits = fits_if code; most = 1 + code.most }

-- ---- lists

-- so many values, one behind the other
abbrev pub read_members : {A : Type 0} → Code A → ℕ → List ℕ → Read (List A)
read_members code zero bytes = Ok ([], bytes)
read_members code (suc n) bytes =
    and_then (code.read bytes) (λ x. and_then (read_members code n x.1) (λ xs. Ok (x.0 ∷ xs.0, xs.1)))

abbrev pub all_fit : {A : Type 0} → Code A → List A → Bool
all_fit code [] = true
all_fit code (x ∷ xs) = both_fit (code.fits x) (all_fit code xs)

-- how many there are, at most so many, and the values
abbrev pub counted : {A : Type 0} → Code ℕ → ℕ → Code A → Code (List A)
counted count top code = record {
  spell = λ xs. count.spell (length xs) ++ flat_map code.spell xs;
  read = λ bytes. and_then (count.read bytes) (λ n. read_members code n.0 n.1);
  fits = λ xs. both_fit (count.fits (length xs)) (all_fit code xs);
  most = count.most + top * code.most;
}

-- more values behind those that were read
abbrev pub with_front : {A : Type 0} → List A → Read (List A) → Read (List A)
with_front front read = and_then read (λ xs. Ok (front ++ xs.0, xs.1))

-- so many bytes
abbrev pub bytes_at : ℕ → List ℕ → Read (List ℕ)
bytes_at n bytes = if nat_lt (length bytes) n then ended else Ok (take n bytes, drop n bytes)

-- how many bytes there are, in two bytes, and the bytes
abbrev pub text : Code (List ℕ)
text = record {
  spell = λ xs. to_be_bytes w16 (length xs) ++ xs;
  read = λ bytes. and_then (number16.read bytes) (λ n. bytes_at n.0 n.1);
  fits = λ xs. both_fit (nat_lt (length xs) 65536) (all_fit byte xs);
  most = 2 + 65535;
}

-- a list whose members all are allowed
abbrev pub AllAllowed : {A : Type 0} → (A → Bool) → Type 0
AllAllowed {A} allows = (x : A) → allows x ≡ true

-- ---- forms

-- the reading of a form, if there is one
abbrev pub read_form : {A : Type 0} → Cause → ℕ → Option (List ℕ → Read A) → List ℕ → Read A
read_form why left None rest = stopped why left
read_form why left (Some form) rest = form rest

-- a number that has a form, and then its fields
abbrev pub read_number : {A : Type 0} → Cause → List (List ℕ → Read A) → List ℕ → Read A
read_number why forms [] = ended
read_number why forms (n ∷ rest) = read_form why (suc (length rest)) (slice_get forms n) rest

-- values of several forms: the form's number in a byte, and the fields of that form
abbrev pub chosen : {A : Type 0} → (A → ℕ) → (A → List ℕ) → (A → Bool) → ℕ → Cause → List (List ℕ → Read A) → Code A
chosen number fields fits most why forms = record {
  spell = λ x. number x ∷ fields x;
  read = read_number why forms;
  fits = fits;
  most = 1 + most;
}
