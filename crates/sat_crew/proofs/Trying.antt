-- Tries of one act.
use Rattle.std.proofs.Common.{◌≡◌, ◌<◌, ◌⊎◌, ℕ, ◌+◌, Bool, true, false, List, [], ◌∷◌, ◌++◌, map, Option, Some, None, IfSome, Result, Ok, Err, refl, sym, ap, ◌∙◌, subst, arith, inl, inr}
use Rattle.std.proofs.lemmas.List.{map-append}
use Rattle.sat_act.specs.declared.act.Act.{Act}
use Rattle.sat_act.specs.declared.answer.Answer.{Answer}
use Rattle.sat_act.specs.declared.entry.Entry.{Entry}
use Rattle.sat_act.specs.Deployed.{Deployed}
use Rattle.sat_node.specs.declared.kept.CallFault.{CallFault}
use Rattle.sat_parts_notes.specs.Collecting.{note_entry}
use Rattle.sat_session.specs.Calls.{IsFault, note}
use Rattle.sat_session.specs.Notes.{SessionSeen}
use Rattle.sat_undone.specs.declared.tries.TheConstants.{MOST_TRIES}
use Rattle.sat_undone.specs.Undone.{has_to_wait}
use Rattle.sat_cluster.specs.Doing.{Did, node_of}
use Rattle.sat_crew.specs.Crews.{entries_in}
use Rattle.sat_crew.specs.Standing.{Came, OneMore, Stood, Tried, Trying}
use Rattle.sat_crew.proofs.Standing.{stood-done, stood-waits}

-- ---- one try

one-more : (d : Deployed) (a : Act) (r : Answer) (b : Bool) (old new : SessionSeen) → Did d a (Ok r) old new → has_to_wait a r ≡ b → OneMore a b (entries_in old) (entries_in new)
one-more d a r b old new did waiting = record {
  entry = record { act = a; answer = r; inner = false };
  act = refl;
  waiting = waiting;
  more = ap (map note_entry) did.noted ∙ map-append note_entry old.noted (note new.lamport (node_of d a old.client.seat) old.client.carried a r ∷ []);
}

pub tried_done : (d : Deployed) (a : Act) (r : Answer) (result : Result Answer CallFault) (old new : SessionSeen) → Did d a result old new → result ≡ Ok r → has_to_wait a r ≡ false → Tried a (Ok false) (entries_in old) (entries_in new)
tried_done d a r result old new did is waiting = one-more d a r false old new (subst (λ (x : Result Answer CallFault). Did d a x old new) is did) waiting

pub tried_waits : (d : Deployed) (a : Act) (r : Answer) (result : Result Answer CallFault) (old new : SessionSeen) → Did d a result old new → result ≡ Ok r → has_to_wait a r ≡ true → Tried a (Ok true) (entries_in old) (entries_in new)
tried_waits d a r result old new did is waiting = one-more d a r true old new (subst (λ (x : Result Answer CallFault). Did d a x old new) is did) waiting

-- a pass failed behind it
pub tried_broken : (d : Deployed) (a : Act) (r : Answer) (f : CallFault) (result : Result Answer CallFault) (old new : SessionSeen) → Did d a result old new → result ≡ Ok r → has_to_wait a r ≡ true → IsFault f → Tried a (Err f) (entries_in old) (entries_in new)
tried_broken d a r f result old new did is waiting fault = (fault, inr (one-more d a r true old new (subst (λ (x : Result Answer CallFault). Did d a x old new) is did) waiting))

pub tried_failed : (d : Deployed) (a : Act) (f : CallFault) (result : Result Answer CallFault) (old new : SessionSeen) → Did d a result old new → result ≡ Err f → Tried a (Err f) (entries_in old) (entries_in new)
tried_failed d a f result old new did is =
    let failed : Did d a (Err f) old new = subst (λ (x : Result Answer CallFault). Did d a x old new) is did in
    (failed.only, inl (ap entries_in failed.err))

pub tried_fault : (a : Act) (f : CallFault) (result : Result Bool CallFault) (old new : List Entry) → Tried a result old new → result ≡ Err f → IsFault f
tried_fault a f result old new tried is = let x : Tried a (Err f) old new = subst (λ (x : Result Bool CallFault). Tried a x old new) is tried in x.0

-- ---- tries in a row

pub trying_start : (done : List Act) (a : Act) (es : List Entry) → Stood done 0 None es → Trying done a 0 es
trying_start done a es s = record { last = None; is_act = tt; some = λ e. absurd (e refl); stood = s }

-- what was tried before is the act of this entry
tried-same : (a b : Act) (o : Option Act) → IfSome o (λ x. x ≡ a) → b ≡ a → IfSome o (λ x. x ≡ b)
tried-same a b None is e = tt
tried-same a b (Some x) is e = is ∙ sym e

trying-next : (done : List Act) (a : Act) (n : ℕ) (es new : List Entry) → Trying done a n es → n < MOST_TRIES → OneMore a true es new → Trying done a (n + 1) new
trying-next done a n es new t less m = record {
  last = Some m.entry.act;
  is_act = m.act;
  some = λ e. ap (λ (x : Act). Some x) m.act;
  stood = subst (Stood done (n + 1) (Some m.entry.act)) (sym m.more) (stood-waits done n t.last es m.entry t.stood (tried-same a m.entry.act t.last t.is_act m.act) less m.waiting);
}

pub trying_more : (done : List Act) (a : Act) (n : ℕ) (result : Result Bool CallFault) (es new : List Entry) → Trying done a n es → n < MOST_TRIES → Tried a result es new → result ≡ Ok true → Trying done a (n + 1) new
trying_more done a n result es new t less tried is = trying-next done a n es new t less (subst (λ (x : Result Bool CallFault). Tried a x es new) is tried)

pub trying_done : (done : List Act) (a : Act) (n : ℕ) (result : Result Bool CallFault) (es new : List Entry) → Trying done a n es → n < MOST_TRIES → Tried a result es new → result ≡ Ok false → Came done a (Ok true) new
trying_done done a n result es new t less tried is =
    let m : OneMore a false es new = subst (λ (x : Result Bool CallFault). Tried a x es new) is tried in
    let s : Stood (done ++ m.entry.act ∷ []) 0 None (es ++ m.entry ∷ []) = stood-done done n t.last es m.entry t.stood (tried-same a m.entry.act t.last t.is_act m.act) less m.waiting in
    let w : Stood (done ++ m.entry.act ∷ []) 0 None new = subst (Stood (done ++ m.entry.act ∷ []) 0 None) (sym m.more) s in
    subst (λ (x : Act). Stood (done ++ x ∷ []) 0 None new) m.act w

failed-by : (done : List Act) (a : Act) (n : ℕ) (f : CallFault) (es new : List Entry) → Trying done a n es → n < MOST_TRIES → IsFault f → (new ≡ es) ⊎ OneMore a true es new → Came done a (Err f) new
failed-by done a n f es new t less fault (inl same) = (fault, (n, t.last, t.is_act, subst (Stood done n t.last) (sym same) t.stood))
failed-by done a n f es new t less fault (inr more) = let x = trying-next done a n es new t less more in (fault, (n + 1, x.last, x.is_act, x.stood))

pub trying_failed : (done : List Act) (a : Act) (n : ℕ) (f : CallFault) (result : Result Bool CallFault) (es new : List Entry) → Trying done a n es → n < MOST_TRIES → Tried a result es new → result ≡ Err f → Came done a (Err f) new
trying_failed done a n f result es new t less tried is =
    let x : Tried a (Err f) es new = subst (λ (x : Result Bool CallFault). Tried a x es new) is tried in
    failed-by done a n f es new t less x.0 x.1

not-none : (n : ℕ) → n ≡ MOST_TRIES → n ≡ 0 → ⊥
not-none n most none = omega (arith, most, none)

pub trying_given_up : (done : List Act) (a : Act) (n : ℕ) (es : List Entry) → n ≡ MOST_TRIES → Trying done a n es → Came done a (Ok false) es
trying_given_up done a n es most t = subst (λ (m : ℕ). Stood done m (Some a) es) most (subst (λ (o : Option Act). Stood done n o es) (t.some (not-none n most)) t.stood)
