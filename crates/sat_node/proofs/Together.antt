-- Nodes that are lent together: what each keeps of one act.
use Rattle.std.proofs.Common.{◌≡◌, ◌⊎◌, ◌↔◌, ℕ, ◌+◌, ◌<◌, ◌≤◌, max, List, [], ◌∷◌, ◌++◌, Bool, true, false, Option, Some, None, Result, Ok, Err, IfOk, OnOk, OnErr, IfErr, IsErrOf, is_err, refl, sym, ap, ◌∙◌, subst, arith, ⊎_elim, inr}
use Rattle.sat_label.specs.declared.node.NodeName.{NodeName}
use Rattle.sat_node.specs.declared.joint.Part.{Part}
use Rattle.sat_node.specs.declared.kept.Kept.{Kept}
use Rattle.sat_node.specs.declared.kept.CallFault.{CallFault}
use Rattle.sat_node.specs.declared.kept.CallFault.TheVariants as fault
use Rattle.sat_node.specs.Meanings.{Meaning, replay}
use Rattle.sat_node.specs.Seen.{SameNode, Takes, entry, last_number}
use Rattle.sat_node.specs.Links.{HeldSeen, InSeen}
use Rattle.sat_node.specs.Together.{EndsAfter, IsFit, IsSure, Keeps, KeepsSome, SameHeld, TakesFrom, heard_from}

max_is : (a b : ℕ) → a ≤ b → max a b ≡ b
max_is a b le = omega arith

not_last : (a b c : ℕ) → a ≡ c → a ≡ b → b < c → ⊥
not_last a b c e f l = omega arith

-- where no number is the last, want of memory alone is left
pub alone : {X : Type 0} (r : Result X CallFault) (n last : ℕ) → IfErr r (λ f. (f ≡ fault.Worn last_number) ⊎ (f ≡ fault.Memory)) → (IsErrOf r (fault.Worn last_number) ↔ (max n last ≡ last_number)) → n ≤ last → last < last_number
    → IfErr r (λ f. f ≡ fault.Memory)
alone (Ok a) n last only worn le less = tt
alone (Err e) n last only worn le less =
    ⊎_elim (λ (w : e ≡ fault.Worn last_number). absurd (not_last (max n last) last last_number (worn.0 (ap Err w)) (max_is n last le) less)) (λ (m : e ≡ fault.Memory). m) only

-- the same node with another room
abbrev roomy : {M I A : Type 0} → HeldSeen M I A → ℕ → HeldSeen M I A
roomy h n = record h { node = record h.node { room = n } }

as_same : {M I A : Type 0} (P : HeldSeen M I A → Type 0) (old new : HeldSeen M I A) → SameHeld old new → P (roomy old new.node.room) → P new
as_same P old new s p =
    subst P
    (λ d. record {
      node = record { name = sym s.same.0 d; machine = sym s.same.1 d; entries = sym s.same.2 d; number = sym s.same.3 d; room = new.node.room };
      outs = sym s.outs_are d;
      ins = sym s.ins_are d;
    })
    p

module _ {S M I A : Type 0} (m : Meaning S I A) where
  from_room : (h : HeldSeen M I A) (n : ℕ) (link : Option ℕ) (input : I) → TakesFrom m h link input → TakesFrom m (roomy h n) link input
  from_room h n None input t = record { stands = t.stands; takes = t.takes }
  from_room h n (Some link) input t = (t.0, t.1, record { stands = t.2.stands; takes = t.2.takes; others = t.2.others })

  -- what fits a node, and what it takes for sure, fits and is taken behind a reservation
  pub fit_same : (takes_in : M → I → Bool) (link : Option ℕ) (p : Part I) (old new : HeldSeen M I A) → SameHeld old new → IsFit m takes_in link old p → IsFit m takes_in link new p
  fit_same takes_in link p old new same fit =
      as_same (λ h. IsFit m takes_in link h p) old new same (record { fits = fit.fits; copied = fit.copied; from = from_room old new.node.room link p.input fit.from })

  pub sure_same : (takes_in may_fail : M → I → Bool) (p : Part I) (old new : HeldSeen M I A) → SameHeld old new → IsSure m takes_in may_fail old p → IsSure m takes_in may_fail new p
  sure_same takes_in may_fail p old new same sure = record { fit = fit_same takes_in None p old new same sure.fit; sure = ap (λ x. may_fail x p.input) same.same.1 ∙ sure.sure }

  keeps : (last : ℕ) (link : Option ℕ) (input : I) (may : Bool) (a : A) (h w : HeldSeen M I A) → Takes last input may (Ok a) h.node w.node → m.answers h.node.name (replay m h.node.name h.node.entries) input a
      → h.node.number ≤ last → w.outs ≡ h.outs → EndsAfter link h.ins w.ins → Keeps m (last + 1) link input a h w
  keeps last link input may a h w takes answer less outs ins = record {
    answers = answer;
    entries = takes.taken ∙ ap (λ n. h.node.entries ++ entry (n + 1) input a ∷ []) (max_is h.node.number last less);
    number_is = takes.number ∙ ap (λ n. n + 1) (max_is h.node.number last less);
    name_is = takes.name;
    outs_are = outs;
    ins_are = ins;
  }

  -- what can't fail is kept
  pub keeps_sure : (r : Result A CallFault) (last : ℕ) (input : I) (may : Bool) (h w : HeldSeen M I A) → Takes last input may r h.node w.node → IfOk r (λ a. m.answers h.node.name (replay m h.node.name h.node.entries) input a)
      → 0 < h.node.room → may ≡ false → h.node.number ≤ last → last < last_number → w.outs ≡ h.outs → w.ins ≡ h.ins → KeepsSome m (last + 1) input h w
  keeps_sure (Ok a) last input may h w takes answer room sure less small outs ins = (a, keeps last None input may a h w takes answer less outs ins)
  keeps_sure (Err e) last input may h w takes answer room sure less small outs ins =
      absurd (⊎_elim (λ (worn : e ≡ fault.Worn last_number). not_last (max h.node.number last) last last_number (takes.worn.0 (ap Err worn)) (max_is h.node.number last less) small)
      (λ (memory : e ≡ fault.Memory). (let both : true ≡ false = sym (takes.memory (ap Err memory) room) ∙ sure in cc (both))) takes.only)

  -- what is kept behind a reservation is kept behind the node before it
  pub keeps_from : (number : ℕ) (link : Option ℕ) (input : I) (a : A) (old mid new : HeldSeen M I A) → SameHeld old mid → Keeps m number link input a mid new → Keeps m number link input a old new
  keeps_from number link input a old mid new same kept = record {
    answers = subst (λ (x : NodeName × List (Kept I A)). m.answers x.0 (replay m x.0 x.1) input a) (λ d. (same.same.0 d, same.same.2 d)) kept.answers;
    entries = kept.entries ∙ ap (λ es. es ++ entry number input a ∷ []) same.same.2;
    number_is = kept.number_is;
    name_is = kept.name_is ∙ same.same.0;
    outs_are = kept.outs_are ∙ same.outs_are;
    ins_are = subst (λ (l : List InSeen). EndsAfter link l new.ins) same.ins_are kept.ins_are;
  }

  -- the home's step
  pub home_keeps : (r : Result A CallFault) (last : ℕ) (link : Option ℕ) (input : I) (may : Bool) (h w : HeldSeen M I A) → Takes last input may r h.node w.node
      → IfOk r (λ a. m.answers h.node.name (replay m h.node.name h.node.entries) input a) → h.node.number ≤ last → w.outs ≡ h.outs → OnOk r (EndsAfter link h.ins w.ins)
      → IfOk r (λ a. Keeps m (last + 1) link input a h w)
  home_keeps (Ok a) last link input may h w takes answer less outs ins = keeps last link input may a h w takes answer less outs ins
  home_keeps (Err e) last link input may h w takes answer less outs ins = tt

  pub home_err : (r : Result A CallFault) (last : ℕ) (input : I) (may : Bool) (h w : HeldSeen M I A) → Takes last input may r h.node w.node → w.outs ≡ h.outs → OnErr r (w.ins ≡ h.ins) → OnErr r (SameHeld h w)
  home_err (Ok a) last input may h w takes outs ins = tt
  home_err (Err e) last input may h w takes outs ins = record { same = takes.err.0; room = takes.err.1; outs_are = outs; ins_are = ins }

  pub home_only : (r : Result A CallFault) (last : ℕ) (input : I) (may : Bool) (h w : HeldSeen M I A) → Takes last input may r h.node w.node → h.node.number ≤ last → last < last_number → IfErr r (λ f. f ≡ fault.Memory)
  home_only r last input may h w takes less small = alone r h.node.number last takes.only takes.worn less small

  -- the same behind a reservation
  pub home_from : (r : Result A CallFault) (number top : ℕ) (link : Option ℕ) (input : I) (old mid new : HeldSeen M I A) → SameHeld old mid → number ≡ top → IfOk r (λ a. Keeps m (number + 1) link input a mid new)
      → IfOk r (λ a. Keeps m (top + 1) link input a old new)
  home_from (Ok a) number top link input old mid new same is kept = keeps_from (top + 1) link input a old mid new same (subst (λ (n : ℕ). Keeps m (n + 1) link input a mid new) is kept)
  home_from (Err e) number top link input old mid new same is kept = tt

  pub some_from : (number top : ℕ) (input : I) (old mid new : HeldSeen M I A) → SameHeld old mid → number ≡ top → KeepsSome m (number + 1) input mid new → KeepsSome m (top + 1) input old new
  some_from number top input old mid new same is kept = (kept.0, keeps_from (top + 1) None input kept.0 old mid new same (subst (λ (n : ℕ). Keeps m (n + 1) None input kept.0 mid new) is kept.1))

pub same_then : {M I A : Type 0} (old mid new : HeldSeen M I A) → SameHeld old mid → SameHeld mid new → SameHeld old new
same_then old mid new a b = record {
  same = (b.same.0 ∙ a.same.0, b.same.1 ∙ a.same.1, b.same.2 ∙ a.same.2, b.same.3 ∙ a.same.3);
  room = (let x = a.room in let y = b.room in omega arith);
  outs_are = b.outs_are ∙ a.outs_are;
  ins_are = b.ins_are ∙ a.ins_are;
}

pub same_self : {M I A : Type 0} (h : HeldSeen M I A) → SameHeld h h
same_self h = record { same = (refl, refl, refl, refl); room = omega arith; outs_are = refl; ins_are = refl }

pub same_of : {M I A : Type 0} (old new : HeldSeen M I A) → SameNode old.node new.node → old.node.room ≤ new.node.room → new.outs ≡ old.outs → new.ins ≡ old.ins → SameHeld old new
same_of old new same room outs ins = record { same = same; room = room; outs_are = outs; ins_are = ins }

-- numbers and fronts behind a reservation
pub number_same : {M I A : Type 0} (old new : HeldSeen M I A) (n : ℕ) → SameHeld old new → old.node.number ≤ n → new.node.number ≤ n
number_same old new n same le = subst (λ (x : ℕ). x ≤ n) (sym same.same.3) le

pub heard_same : {M I A : Type 0} (old new : HeldSeen M I A) (link : Option ℕ) (n : ℕ) → SameHeld old new → heard_from link old.ins ≤ n → heard_from link new.ins ≤ n
heard_same old new link n same le = subst (λ (l : List InSeen). heard_from link l ≤ n) (sym same.ins_are) le

-- after an error, whatever else holds
pub err_then : {M I A X : Type 0} (r : Result X CallFault) (old mid new : HeldSeen M I A) (P : Type 0) → SameHeld old mid → OnErr r (SameHeld mid new) → P → OnErr r (SameHeld old new × P)
err_then (Ok a) old mid new P same err p = tt
err_then (Err e) old mid new P same err p = (same_then old mid new same err, p)

-- below the last number want of memory is the only fault
pub never_worn : {X : Type 0} (r : Result X CallFault) (last top : ℕ) → IfErr r (λ f. f ≡ fault.Memory) → last ≡ top → last < last_number → IsErrOf r (fault.Worn last_number) ↔ (top ≡ last_number)
never_worn (Ok a) last top only is less = ((λ e. absurd (cc (e))), (λ e. absurd (not_last top last last_number e (sym is) less)))
never_worn (Err f) last top only is less = (
  (λ e. let same : f ≡ fault.Worn last_number = cc (e) in let wrong : fault.Worn last_number ≡ fault.Memory = sym same ∙ only in absurd (cc (wrong))),
  (λ e. absurd (not_last top last last_number e (sym is) less)),
)

pub memory_only : {X : Type 0} (r : Result X CallFault) → IfErr r (λ f. f ≡ fault.Memory) → IfErr r (λ f. (f ≡ fault.Worn last_number) ⊎ (f ≡ fault.Memory))
memory_only (Ok a) only = tt
memory_only (Err e) only = inr only

pub not_ok : {X : Type 0} (P : Type 0) (r : Result X CallFault) → is_err r ≡ true → OnOk r P
not_ok P (Ok a) e = absurd (cc (e))
not_ok P (Err f) e = tt

pub not_err : {X : Type 0} (P : Type 0) (r : Result X CallFault) → is_err r ≡ false → OnErr r P
not_err P (Ok a) e = tt
not_err P (Err f) e = absurd (cc (e))

pub on_then : {X E P Q : Type 0} (r : Result X E) → (P → Q) → OnOk r P → OnOk r Q
on_then (Ok a) f p = f p
on_then (Err e) f p = tt
