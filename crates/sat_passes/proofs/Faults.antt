-- What a take stops at.
use Rattle.std.proofs.Common.{◌≡◌, ℕ, ◌⊎◌, max, Bool, List, [], ◌++◌, Option, Some, None, Result, Ok, Err, IfErr, OnErr, slice_get, inl, inr, refl, sym, ap, ◌∙◌, subst, arith, ⊎_elim}
use Rattle.sat_node.specs.declared.kept.CallFault.{CallFault}
use Rattle.sat_node.specs.declared.kept.CallFault.TheVariants as fault
use Rattle.sat_node.specs.declared.kept.Envelope.{Envelope}
use Rattle.sat_node.specs.Meanings.{Meaning}
use Rattle.sat_node.specs.Seen.{last_number, Takes}
use Rattle.sat_node.specs.Links.{HeldSeen, InSeen, Tied, front_at, front_list, kept_front, number_of}
use Rattle.sat_passes.specs.Faults.{Fails, IsReceived}

-- one of two numbers is their greatest
max-one : (a b c : ℕ) → max a b ≡ c → (a ≡ c) ⊎ (b ≡ c)
max-one a b c e = go (max a b) refl where
  go : (m : ℕ) → max a b ≡ m → (a ≡ c) ⊎ (b ≡ c)
  go m is = grind (arith)

end-at : (ins : List InSeen) (k : ℕ) (e : Envelope) (o : Option InSeen) → slice_get ins k ≡ o → kept_front o ≡ Some e → (i : InSeen) × (slice_get ins k ≡ Some i) × (i.front ≡ Some e)
end-at ins k e None at front = absurd (cc (front))
end-at ins k e (Some i) at front = (i, at, front)

module _ {S M I A : Type 0} (m : Meaning S I A) where
  -- a front was received
  pub front_received : (h : HeldSeen M I A) (k : ℕ) (e : Envelope) → Tied m h → front_at h.ins k ≡ Some e → IsReceived h.ins e
  front_received h k e tied front =
      let i = end-at h.ins k e (slice_get h.ins k) refl front in
      let took = tied.receiving k i.0 i.1 in
      (k, i.0, i.1, took.0, [], took.1 ∙ ap (λ (f : Option Envelope). took.0 ++ front_list f) i.2)

  -- a take of a front that failed
  pub take_fails : (r : Result A CallFault) (input : I) (may : Bool) (old new : HeldSeen M I A) (k : ℕ) (e : Envelope) → Tied m old → front_at old.ins k ≡ Some e
      → Takes (number_of (front_at old.ins k)) input may r old.node new.node → OnErr r (new.ins ≡ old.ins) → IfErr r (Fails new)
  take_fails (Ok a) input may old new k e tied front takes ins = tt
  take_fails (Err f) input may old new k e tied front takes ins = ⊎_elim worn (λ (is : f ≡ fault.Memory). inl is) takes.only where
    worn : f ≡ fault.Worn last_number → Fails new f
    worn is = inr (
      is,
      ⊎_elim (λ (own : old.node.number ≡ last_number). inl (takes.err.0.3 ∙ own)) (λ (theirs : number_of (front_at old.ins k) ≡ last_number). inr (e, subst (λ (l : List InSeen). IsReceived l e) (sym ins) (front_received old k e tied front), sym (ap number_of front) ∙ theirs))
          (max-one old.node.number (number_of (front_at old.ins k)) last_number (takes.worn.0 (ap Err is))),
    )
