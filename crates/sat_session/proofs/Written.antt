-- The acts by which a client writes: one item, or several under one label.
use Rattle.std.proofs.Common.{◌≡◌, ◌∙◌, ℕ, false, [], ◌∷◌, Option, Some, refl, sym, ap}
use Rattle.sat_label.specs.declared.carried.Carried.{Carried}
use Rattle.sat_laws.proofs.Written.{by-write, write-client}
use Rattle.sat_act.specs.declared.act.Act.{Act}
use Rattle.sat_act.specs.Done.{Written, write_in, of_client}
use Rattle.sat_stitch.specs.Kept.{OfClient}
use Rattle.sat_stitch.specs.Places.{AtSite, places, Client, Operator, session_by, session_of, is_operators}
use Rattle.sat_session.proofs.Answering.{is_read}

pub write-read : (a : Act) (w : Written) → write_in a ≡ Some w → is_read a ≡ false
write-read a w e = by-write (λ a. is_read a ≡ false) a w e (λ c x v. refl) (λ c items values. refl)

write-owner : (a : Act) (w : Written) → write_in a ≡ Some w → session_of a ≡ Some (Client w.client)
write-owner a w e = ap (λ (o : Option ℕ). session_by o (is_operators a)) (write-client a w e)

pub write-session : (a : Act) (w : Written) (c : ℕ) → write_in a ≡ Some w → w.client ≡ c → session_of a ≡ Some (Client c)
write-session a w c e own = write-owner a w e ∙ ap (λ (n : ℕ). Some (Client n)) own

-- no act of the operator writes
pub write-operator : (a : Act) (w : Written) → write_in a ≡ Some w → session_of a ≡ Some Operator → ⊥
write-operator a w e o = let v : Some (Client w.client) ≡ Some Operator = sym (write-owner a w e) ∙ o in cc

pub write-places : (a : Act) (w : Written) (seen : Carried) (i : ℕ) → write_in a ≡ Some w → places a (OfClient seen (Some i)) ≡ AtSite i ∷ []
write-places a w seen i e = by-write (λ a. places a (OfClient seen (Some i)) ≡ AtSite i ∷ []) a w e (λ c x v. refl) (λ c items values. refl)
