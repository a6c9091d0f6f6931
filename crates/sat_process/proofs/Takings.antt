-- What a host took is what it was handed.
use Rattle.std.proofs.Common.{◌≡◌, ℕ, ◌+◌, max, List, [], ◌∷◌, ◌++◌, Option, Some, None, Ok, Err, OnOk, sym, ap, ◌∙◌, subst}
use Rattle.std.specs.declared.result.Result.{Result}
use Rattle.sat_node.specs.declared.kept.Kept.{Kept}
use Rattle.sat_node.specs.declared.kept.Body.{Body}
use Rattle.sat_node.specs.Meanings.{Meaning}
use Rattle.sat_node.specs.Seen.{entry}
use Rattle.sat_message.specs.declared.message.Message.{Message}
use Rattle.sat_message.specs.declared.message.Slip.{Slip}
use Rattle.sat_host.specs.Locals.{ActsOne}
use Rattle.sat_host.specs.Turns.{TakesOne}
use Rattle.sat_host_laws.specs.Messages.{HostSeen, slip}
use Rattle.sat_handed.specs.declared.handed.Handed.{Handed}
use Rattle.sat_handed.specs.declared.handed.Handed.TheVariants as given
use Rattle.sat_handed.specs.Told.{IsFed, told}
use Rattle.sat_handed.proofs.Telling.{told_asked, told_came}
use Rattle.sat_process.specs.Taking.{Takes}

-- what holds after no error
pub on_ok : {X E : Type 0} (r : Result X E) (P : Type 0) → P → OnOk r P
on_ok (Ok x) P p = p
on_ok (Err e) P p = tt

pub on_err : {X E : Type 0} (r : Result X E) (e : E) (P : Type 0) → r ≡ Err e → OnOk r P
on_err (Ok x) e P is = absurd (cc (is))
on_err (Err f) e P is = tt

module _ {I A : Type 0} (asked : ℕ → I → Option Handed) (took : I → Option Body) where
  -- an act
  pub acts_taken : {S M : Type 0} (m : Meaning S I A) (heard : ℕ) (i : I) (a : A) (h : Handed) (old new : HostSeen M I A) → asked (max old.node.number heard + 1) i ≡ Some h → ActsOne m heard i a old new → Takes asked took h old new
  acts_taken m heard i a h old new is one =
      let k = entry (max old.node.number heard + 1) i a in
      record {
        name = one.name;
        cursors = one.cursors;
        entry = (k, one.entry);
        handed = λ fed. ap (λ (ks : List (Kept I A)). told asked took ks new.slips) one.entry ∙ (ap (told asked took (old.node.entries ++ k ∷ [])) one.slips ∙ (told_asked asked took old.node.entries old.slips k h is fed).0);
        fed = λ fed. subst (λ (ks : List (Kept I A)). IsFed asked took ks new.slips) (sym one.entry)
            (subst (λ (ss : List Slip). IsFed asked took (old.node.entries ++ k ∷ []) ss) (sym one.slips) (told_asked asked took old.node.entries old.slips k h is fed).1);
      }

  -- a message
  pub message_taken : {S M : Type 0} (m : Meaning S I A) (link : ℕ) (x : Message) (o : Option I) (old new : HostSeen M I A) → ((i : I) → o ≡ Some i → (n : ℕ) → asked n i ≡ None) → ((i : I) → o ≡ Some i → took i ≡ Some x.sent.body) →
      TakesOne m link x o old new → Takes asked took (given.Came link x) old new
  message_taken m link x o old new none is one =
      let i = one.entry.0 in
      let k = entry (max old.node.number x.sent.lamport + 1) i one.entry.1 in
      let s = slip link x.number x.sent.lamport in
      let more = told_came asked took old.node.entries old.slips k s x.sent.body (none i one.entry.2 k.lamport) (is i one.entry.2) in
      record {
        name = one.name;
        cursors = one.cursors;
        entry = (k, one.entry.3);
        handed = λ fed. ap (λ (ks : List (Kept I A)). told asked took ks new.slips) one.entry.3 ∙ (ap (told asked took (old.node.entries ++ k ∷ [])) one.slips ∙ (more fed).0);
        fed = λ fed. subst (λ (ks : List (Kept I A)). IsFed asked took ks new.slips) (sym one.entry.3)
            (subst (λ (ss : List Slip). IsFed asked took (old.node.entries ++ k ∷ []) ss) (sym one.slips) (more fed).1);
      }
