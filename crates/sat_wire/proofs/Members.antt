-- The members of a list, read one by one.
use Rattle.std.proofs.Common.{◌≡◌, ℕ, suc, List, [], ◌∷◌, ◌++◌, Ok, Err, refl, sym, ◌∙◌, ap, append_assoc, subst}
use Rattle.std.specs.Prelude.{IfErr, IsErrAnd}
use Rattle.std.specs.declared.result.Result.{Result}
use Rattle.std.proofs.lemmas.List.{append-nil}
use Rattle.sat_wire.specs.declared.fault.Stop.{Stop}
use Rattle.sat_wire.specs.declared.fault.ReadFault.{ReadFault}
use Rattle.sat_wire.specs.declared.fault.ReadFault.TheVariants as read_fault
use Rattle.sat_wire.specs.Code.{Code, Read, StopsAt, and_then, read_members, with_front}

-- a fault that was handed on stops at the same
pub fault_of : {X B : Type 0} (result : Result X ReadFault) (fault : ReadFault) (read : Read B) → IsErrAnd result (λ e. e ≡ fault) → StopsAt fault read → IfErr result (λ e. StopsAt e read)
fault_of (Ok x) fault read is at = tt
fault_of (Err e) fault read is at = subst (λ (f : ReadFault). StopsAt f read) (sym is) at

module _ {A : Type 0} (code : Code A) where
  pub front_none : (read : Read (List A)) → with_front [] read ≡ read
  front_none (Err stop) = refl
  front_none (Ok xs) = refl

  front_more : (front : List A) (x : A) (read : Read (List A)) → with_front (front ++ x ∷ []) read ≡ with_front front (and_then read (λ xs. Ok (x ∷ xs.0, xs.1)))
  front_more front x (Err stop) = refl
  front_more front x (Ok xs) = ap (λ (l : List A). let o : Read (List A) = Ok (l, xs.1) in o) (append_assoc front (x ∷ []) xs.0)

  one_less : (n m : ℕ) → n ≡ suc m → (bytes : List ℕ) → read_members code n bytes ≡ and_then (code.read bytes) (λ x. and_then (read_members code m x.1) (λ xs. Ok (x.0 ∷ xs.0, xs.1)))
  one_less n m is bytes = ap (λ (k : ℕ). read_members code k bytes) is

  -- one member more was read
  pub members_more : (front : List A) (x : A) (bytes rest : List ℕ) (n m : ℕ) → n ≡ suc m → code.read bytes ≡ Ok (x, rest)
      → with_front (front ++ x ∷ []) (read_members code m rest) ≡ with_front front (read_members code n bytes)
  members_more front x bytes rest n m is read =
      front_more front x (read_members code m rest)
      ∙ ap (with_front front) (sym (one_less n m is bytes ∙ ap (λ (o : Read A). and_then o (λ y. and_then (read_members code m y.1) (λ xs. Ok (y.0 ∷ xs.0, xs.1)))) read))

  -- no member stands there
  pub members_stop : (front : List A) (bytes : List ℕ) (n m : ℕ) (stop : Stop) → n ≡ suc m → code.read bytes ≡ Err stop → with_front front (read_members code n bytes) ≡ Err stop
  members_stop front bytes n m stop is read =
      ap (with_front front) (one_less n m is bytes ∙ ap (λ (o : Read A). and_then o (λ y. and_then (read_members code m y.1) (λ xs. Ok (y.0 ∷ xs.0, xs.1)))) read)

  pub members_stopped : (front : List A) (bytes : List ℕ) (n m : ℕ) (fault : ReadFault) (all : Read (List A)) → n ≡ suc m → with_front front (read_members code n bytes) ≡ all
      → StopsAt fault (code.read bytes) → StopsAt fault all
  members_stopped front bytes n m read_fault.Memory all is whole at = tt
  members_stopped front bytes n m (read_fault.Stop stop) all is whole at = sym whole ∙ members_stop front bytes n m stop is at

  -- all were read
  pub members_all : (front : List A) (bytes : List ℕ) (n : ℕ) → n ≡ 0 → with_front front (read_members code n bytes) ≡ Ok (front, bytes)
  members_all front bytes n is =
      ap (λ (k : ℕ). with_front front (read_members code k bytes)) is ∙ ap (λ (l : List A). let o : Read (List A) = Ok (l, bytes) in o) (append-nil front)
