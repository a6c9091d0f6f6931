-- Where what was done are fronts and nothing is lacking, all was done.
use Rattle.std.proofs.Common.{◌≡◌, ℕ, ◌+◌, ◌≤◌, ◌<◌, nat_le, Bool, true, false, not, ◌&&◌, List, [], ◌∷◌, ◌++◌, length, Option, Some, None, if◌then◌else◌, inl, inr, refl, sym, ap, ◌∙◌, arith, length-append}
use Rattle.std.proofs.lemmas.Bool.{eqb-true}
use Rattle.std.proofs.lemmas.Bool.Decides.{nat_tests}
use Rattle.std.proofs.lemmas.List.Elements.{filter-append}
use Rattle.sat_act.specs.declared.act.Act.{Act}
use Rattle.sat_act.specs.declared.entry.Entry.{Entry}
use Rattle.sat_stitch.specs.Places.{Session, Client, Operator, session_of, session_eq, is_session}
use Rattle.sat_undone.specs.declared.lacking.Tally.{Tally}
use Rattle.sat_undone.specs.declared.tries.TheConstants.{MOST_TRIES}
use Rattle.sat_undone.specs.Undone.{is_of, acts_of, entries_of, waits, acts_behind, acts_done, tally_by, tally_from, no_tally, tally_of, stopped, lacks, lacks_by, lacks_of, undone, undone_behind, DoesFront, DoesAll, FrontsAreDone}
use Rattle.sat_undone.proofs.Turns.{most-exactly, operator-done}

-- what is left open is no act where the client did not stop
none-left : (n : ℕ) (o : Option Act) → nat_le MOST_TRIES n ≡ false → length (acts_behind n o []) ≡ 0
none-left n None on = refl
none-left n (Some a) on = ap (λ (b : Bool). length (if b then a ∷ [] else [])) on

-- where the client did not stop, as many acts were done as were counted
done-length : (n : ℕ) (o : Option Act) (t : Tally) (es : List Entry) → t.tries ≡ n → stopped (tally_from t es) ≡ false → length (acts_behind n o es) + t.done ≡ (tally_from t es).done
done-length n o t [] at on =
    let still : nat_le MOST_TRIES n ≡ false = ap (nat_le MOST_TRIES) (sym at) ∙ on in
    let none = none-left n o still in
    omega (arith, none)
done-length n o t (e ∷ es) at on =
    go (waits e)
    (done-length (n + 1) (Some e.act) (tally_by true t) es (ap (λ (k : ℕ). k + 1) at))
    (done-length 0 None (tally_by false t) es refl)
    on
  where
    go : (b : Bool) →
        (stopped (tally_from (tally_by true t) es) ≡ false → length (acts_behind (n + 1) (Some e.act) es) + t.done ≡ (tally_from (tally_by true t) es).done) →
        (stopped (tally_from (tally_by false t) es) ≡ false → length (acts_behind 0 None es) + (t.done + 1) ≡ (tally_from (tally_by false t) es).done) →
        stopped (tally_from (tally_by b t) es) ≡ false → length (if b then acts_behind (n + 1) (Some e.act) es else e.act ∷ acts_behind 0 None es) + t.done ≡ (tally_from (tally_by b t) es).done
    go true some one on = some on
    go false some one on = let e = one on in omega (arith, e)

all-done : (s : Session) (es : List Entry) → stopped (tally_of s es) ≡ false → length (acts_done (entries_of s es)) ≡ (tally_of s es).done
unfolding tally_of
all-done s es on = let e = done-length 0 None no_tally (entries_of s es) refl on in omega (arith, e)

session-is : (a s : Session) → session_eq a s ≡ true → a ≡ s
session-is (Client b) (Client c) e = ap Client (eqb-true b c e)
session-is (Client b) Operator e = absurd (cc)
session-is Operator (Client c) e = absurd (cc)
session-is Operator Operator e = refl

same-session : (s : Session) (o : Option Session) → is_session s o ≡ true → o ≡ Some s
same-session s None e = absurd (cc)
same-session s (Some x) e = ap Some (session-is x s e)

-- one act more of a session
acts-more : (s : Session) (acts : List Act) (a : Act) (b : Bool) → is_of s a ≡ b → acts_of s (acts ++ a ∷ []) ≡ acts_of s acts ++ (if b then a ∷ [] else [])
acts-more s acts a b is = filter-append (is_of s) acts (a ∷ []) ∙ (rw is refl)

again : (acts bs : List Act) (a : Act) → (acts ++ a ∷ []) ++ bs ≡ acts ++ a ∷ bs
again [] bs a = refl
again (x ∷ acts) bs a = ap (λ ys. x ∷ ys) (again acts bs a)

append-nil : (acts : List Act) → acts ++ [] ≡ acts
append-nil [] = refl
append-nil (x ∷ acts) = ap (λ ys. x ∷ ys) (append-nil acts)

not-lacking : (t : Tally) (n : ℕ) → stopped t ≡ false → lacks_of t n ≡ false → n < t.done
not-lacking t n on has = let e : nat_le t.done n ≡ false = sym (ap (λ b. not b && nat_le t.done n) on) ∙ has in grind (arith, nat_tests)

-- where nothing is lacking and the client did not stop, it has no more acts than were counted
no-more : (s : Session) (es : List Entry) (before acts : List Act) → stopped (tally_of s es) ≡ false → length (acts_of s before) ≤ (tally_of s es).done → undone_behind es before acts ≡ None →
    length (acts_of s (before ++ acts)) ≤ (tally_of s es).done
no-more s es before [] on few none = rw (append-nil before) few
no-more s es before (a ∷ acts) on few none = go (lacks es before a) refl (λ fewer rest. no-more s es (before ++ a ∷ []) acts on fewer rest) none
  where
    step : (b : Bool) → is_of s a ≡ b → lacks es before a ≡ false → length (acts_of s (before ++ a ∷ [])) ≤ (tally_of s es).done
    step true is lacking =
        let of = same-session s (session_of a) is in
        let less = not-lacking (tally_of s es) (length (acts_of s before)) on (sym (ap (lacks_by es before) of) ∙ lacking) in
        let e = ap length (acts-more s before a true is) ∙ length-append (acts_of s before) (a ∷ []) in
        omega (arith, less, e)
    step false is lacking =
        let e = ap length (acts-more s before a false is ∙ append-nil (acts_of s before)) in
        omega (arith, few, e)

    go : (l : Bool) → lacks es before a ≡ l → (length (acts_of s (before ++ a ∷ [])) ≤ (tally_of s es).done → undone_behind es (before ++ a ∷ []) acts ≡ None → length (acts_of s ((before ++ a ∷ []) ++ acts)) ≤ (tally_of s es).done) →
        (if l then Some a else undone_behind es (before ++ a ∷ []) acts) ≡ None → length (acts_of s (before ++ a ∷ acts)) ≤ (tally_of s es).done
    go true lacking more none = absurd (cc)
    go false lacking more none = let most = more (step (is_of s a) refl lacking) none in let e = ap (λ (xs : List Act). length (acts_of s xs)) (again before acts a) in omega (arith, most, e)

whole : (front rest : List Act) → length (front ++ rest) ≤ length front → front ≡ front ++ rest
whole [] [] few = refl
whole [] (x ∷ rest) few = absurd (omega arith)
whole (x ∷ front) rest few = ap (λ ys. x ∷ ys) (whole front rest (omega (arith, few)))

all-of : (s : Session) (es : List Entry) (acts : List Act) → DoesFront (acts_of s acts) (entries_of s es) → undone es acts ≡ None → DoesAll (acts_of s acts) (entries_of s es)
unfolding undone
all-of s es acts does none = go (stopped (tally_of s es)) refl
  where
    go : (b : Bool) → stopped (tally_of s es) ≡ b → DoesAll (acts_of s acts) (entries_of s es)
    go true is = record { does = does; all = inr (most-exactly (acts_of s acts) (entries_of s es) does.in_turn is) }
    go false is =
        let few = no-more s es [] acts is (omega arith) none in
        let e = all-done s es is in
        let front = does.front in
        let fewer : length (acts_done (entries_of s es) ++ front.0) ≤ length (acts_done (entries_of s es)) = rw (sym front.1) (omega (arith, few, e)) in
        record { does = does; all = inl (whole (acts_done (entries_of s es)) front.0 fewer ∙ sym front.1) }

pub fronts_are_done : FrontsAreDone
fronts_are_done es acts fronts none =
    let each : (s : Session) → DoesAll (acts_of s acts) (entries_of s es) = λ s. all-of s es acts (fronts s) none in
    record { each = each; operator = operator-done (acts_of Operator acts) es (each Operator) }
