-- Sessions, and what came of them.
use Rattle.std.proofs.Common.{◌≡◌, ◌<◌, ◌+◌, ℕ, zero, suc, Bool, true, false, List, [], ◌∷◌, ◌++◌, length, get_or, set, replicate, Option, Some, None, Result, Ok, Err, arith, refl, sym, ap, ◌∙◌, subst}
use Rattle.std.specs.Prelude.{IsErrOf, IsOk, MatchOption, MatchResult, nat_lt, cond, position}
use Rattle.std.specs.List.{AllByRecursion, AllZip, position_or_len}
use Rattle.std.specs.Str.{bytes_eq}
use Rattle.std.proofs.lemmas.Bool.Decides.{nat_tests}
use Rattle.std.proofs.lemmas.List.{length-append, length-replicate, length-set}
use Rattle.std.proofs.lemmas.Slice.Zip.{AllZip-long}
use Rattle.sat_act.specs.declared.act.Act.{Act}
use Rattle.sat_act.specs.declared.deployment.ClientLine.{ClientLine}
use Rattle.sat_act.specs.Deployed.{Deployed}
use Rattle.sat_session.specs.Notes.{SessionSeen, session_notes}
use Rattle.sat_session.specs.Sessions.{IsSession}
use Rattle.sat_parts_notes.specs.Notes.{part_notes}
use Rattle.sat_finish.specs.declared.fault.Ended.{Ended}
use Rattle.sat_finish.specs.declared.fault.FinishFault.{FinishFault}
use Rattle.sat_finish.specs.declared.fault.FinishFault.TheVariants as fault
use Rattle.sat_finish.specs.Ends.{IsEnd, IsFault}
use Rattle.sat_finish.specs.Finishing.{OpenedSeen}
use Rattle.sat_cluster.specs.declared.fault.SessionFault.{SessionFault}
use Rattle.sat_cluster.specs.Clusters.{client_of, count_given, none_given, operator_number, session_fault, taken_if}
use Rattle.sat_cluster.specs.Ends.{Ends}
use Rattle.sat_crew.specs.Crews.{CameBack, CameThrough, GiveFronts, IsFresh}
use Rattle.sat_live.specs.declared.nodes.Came.{Came}
use Rattle.sat_live.specs.declared.nodes.Came.TheVariants.{Whole, Differ, Apart, Memory}
use Rattle.sat_live.specs.Coming.{AreGiven, IsCame, IsEnded, IsFinished}
use Rattle.sat_live.proofs.Differing.{each_tried, parts_apart}

-- ---- the sessions that were given

fresh-more : (xs : List SessionSeen) (x : SessionSeen) → AllByRecursion IsFresh xs → x.noted ≡ [] → AllByRecursion IsFresh (xs ++ x ∷ [])
fresh-more [] x all e = (e, tt)
fresh-more (y ∷ ys) x all e = (all.0, fresh-more ys x all.1 e)

-- a mark more
count-set : (given : List Bool) (n : ℕ) → n < length given → get_or given n false ≡ false → count_given (set given n true) ≡ count_given given + 1
count-set [] n less free = absurd (omega (arith, less))
count-set (true ∷ given) zero less free = absurd (cc)
count-set (false ∷ given) zero less free = omega arith
count-set (true ∷ given) (suc n) less free = let rest : count_given (set given n true) ≡ count_given given + 1 = count-set given n (omega (arith, less)) free in omega (arith, rest)
count-set (false ∷ given) (suc n) less free = count-set given n (omega (arith, less)) free

-- a session that was given had no mark
free-if : (b : Bool) → taken_if b ≡ None → b ≡ false
free-if true e = absurd (cc)
free-if false e = refl

was-free : {S : Type 0} (o : Option SessionFault) (result : Result S SessionFault) (s : S) → result ≡ Ok s → MatchOption o (IsOk result) (λ f. IsErrOf result f) → o ≡ None
was-free None result s is meets = refl
was-free (Some f) result s is meets = absurd (let never : Ok s ≡ Err f = sym is ∙ meets in cc)

given-more : (d : Deployed) (given : List Bool) (xs : List SessionSeen) (s : SessionSeen) → AreGiven d given xs → s.number < length given → taken_if (get_or given s.number false) ≡ None → s.noted ≡ [] → AreGiven d (set given s.number true) (xs ++ s ∷ [])
given-more d given xs s had less free fresh = record {
  marks = length-set given s.number true ∙ had.marks;
  count = omega (arith, count-set given s.number less (free-if (get_or given s.number false) free), had.count, length-append xs (s ∷ []));
  fresh = fresh-more xs s had.fresh fresh;
}

-- the place of a first member is within the list
place-by : (n m k : ℕ) (b : Bool) → nat_lt n m ≡ b → cond b (Some n) None ≡ Some k → k < m
place-by n m k true less e = let same : n ≡ k = cc in subst (λ (i : ℕ). i < m) same (grind (arith, nat_tests))
place-by n m k false less e = absurd (cc)

place-less : {X : Type 0} (p : X → Bool) (xs : List X) (k : ℕ) → position p xs ≡ Some k → k < length xs
place-less p xs k e = place-by (position_or_len p xs) (length xs) k (nat_lt (position_or_len p xs) (length xs)) refl e

-- a client's session more
pub client_more : (d : Deployed) (name : List ℕ) (old new : List Bool) (xs : List SessionSeen) (result : Result SessionSeen SessionFault) (s : SessionSeen) → AreGiven d old xs → result ≡ Ok s → MatchOption (session_fault (client_of d name) old) (IsOk result) (λ f. IsErrOf result f)
    → client_of d name ≡ Some s.number → s.noted ≡ [] → new ≡ set old s.number true → AreGiven d new (xs ++ s ∷ [])
client_more d name old new xs result s had is meets client fresh marked =
    let free : session_fault (client_of d name) old ≡ None = was-free (session_fault (client_of d name) old) result s is meets in
    let inside : s.number < operator_number d = place-less (λ (line : ClientLine). bytes_eq line.name name) d.clients s.number client in
    subst (λ (given : List Bool). AreGiven d given (xs ++ s ∷ [])) (sym marked)
    (given-more d old xs s had (omega (arith, inside, had.marks)) (sym (ap (λ (o : Option ℕ). session_fault o old) client) ∙ free) fresh)

-- the operator's session more
pub operator_more : (d : Deployed) (old new : List Bool) (xs : List SessionSeen) (result : Result SessionSeen SessionFault) (s : SessionSeen) → AreGiven d old xs → result ≡ Ok s → MatchOption (session_fault (Some (operator_number d)) old) (IsOk result) (λ f. IsErrOf result f)
    → s.number ≡ operator_number d → s.noted ≡ [] → new ≡ set old s.number true → AreGiven d new (xs ++ s ∷ [])
operator_more d old new xs result s had is meets number fresh marked =
    let free : session_fault (Some (operator_number d)) old ≡ None = was-free (session_fault (Some (operator_number d)) old) result s is meets in
    subst (λ (given : List Bool). AreGiven d given (xs ++ s ∷ [])) (sym marked)
    (given-more d old xs s had (omega (arith, number, had.marks)) (ap (λ (n : ℕ). taken_if (get_or old n false)) number ∙ free) fresh)

-- at first none is
count-none : (n : ℕ) → count_given (replicate n false) ≡ 0
count-none zero = refl
count-none (suc n) = count-none n

pub none_are : (d : Deployed) (given : List Bool) → given ≡ none_given d → AreGiven d given []
none_are d given is = subst (λ (marks : List Bool). AreGiven d marks []) (sym is) (record { marks = length-replicate (operator_number d + 1) false; count = count-none (operator_number d + 1); fresh = tt })

-- ---- a session that came through came back

one-back : (d : Deployed) (acts : List Act) (x y : SessionSeen) → CameThrough d acts x y → CameBack d acts x y
one-back d acts x y came = record { same = came.same; front = came.all.does }

pub through_back : (d : Deployed) (acts : List Act) (xs ys : List SessionSeen) → AllZip (CameThrough d acts) xs ys → AllZip (CameBack d acts) xs ys
through_back d acts [] [] all = tt
through_back d acts [] (y ∷ ys) all = absurd all
through_back d acts (x ∷ xs) [] all = absurd all
through_back d acts (x ∷ xs) (y ∷ ys) all = (one-back d acts x y all.0, through_back d acts xs ys all.1)

-- ---- the end

-- they come back as many as they were
pub as_many : (d : Deployed) (acts : List Act) (given : List Bool) (xs ys : List SessionSeen) → AreGiven d given xs → AllZip (CameBack d acts) xs ys → count_given given ≡ length ys
as_many d acts given xs ys had back = had.count ∙ sym (AllZip-long (CameBack d acts) xs ys back)

one-run : (d : Deployed) (o : OpenedSeen) (xs : List SessionSeen) (e : Ended) → IsEnd d o xs e → IsEnded d xs (Whole e.journal)
one-run d o xs e is =
    let j = is.one_journal in (record { is_run = j.is_run; of_acts = j.of_acts }, record { parts = j.session_parts; no_others = j.no_others })

meets : {N : Type 0} (d : Deployed) (o : OpenedSeen) (xs : List SessionSeen) (result : Result Ended (FinishFault N)) → o.given ≡ length xs → MatchResult result (IsEnd d o xs) (IsFault d o xs) → IsFinished d xs result
meets d o xs (Ok e) many is = one-run d o xs e is
meets d o xs (Err (fault.SessionsOut given returned opened sessions)) many is = is.2 (is.0 ∙ (many ∙ sym is.1))
meets d o xs (Err (fault.Differ kept noted)) many is = (part_notes o.hubs o.gears o.serials, is.1)
meets d o xs (Err (fault.Apart number home other)) many is = parts_apart d o.hubs o.gears number home other is.2
meets d o xs (Err (fault.Memory opened sessions)) many is = tt

pub finished : {N : Type 0} (d : Deployed) (given : List Bool) (xs : List SessionSeen) (result : Result Ended (FinishFault N)) → count_given given ≡ length xs → Ends d given xs result → IsFinished d xs result
finished d given xs result many ends = meets d ends.opened xs result (ends.counted ∙ many) ends.ends

pub came_of : (d : Deployed) (acts : List Act) (xs ys : List SessionSeen) (came : Came) → GiveFronts → AllZip (CameBack d acts) xs ys → AllByRecursion (IsSession d) ys → IsEnded d ys came → IsCame d acts came
came_of d acts xs ys (Whole journal) law back are is = record { one = is.0; fronts = law d acts xs ys journal back is.1 }
came_of d acts xs ys (Differ kept noted) law back are is = record { nodes = is.0; sessions = session_notes d ys; each = each_tried d acts xs ys back are; difference = is.1 }
came_of d acts xs ys (Apart number home other) law back are is = is
came_of d acts xs ys Memory law back are is = tt
