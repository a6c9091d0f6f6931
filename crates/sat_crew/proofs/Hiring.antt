-- Workers, and what all of them together did.
use Rattle.std.proofs.Common.{◌≡◌, ◌≤◌, ◌<◌, ℕ, suc, List, [], ◌∷◌, ◌++◌, length, map, Option, Some, None, refl, sym, ap, ◌∙◌, subst, arith}
use Rattle.std.specs.Prelude.{slice_index_or}
use Rattle.std.specs.List.{AllByRecursion, AllZip}
use Rattle.std.proofs.lemmas.Slice.Zip.{AllZip-long}
use Rattle.sat_act.specs.declared.act.Act.{Act}
use Rattle.sat_act.specs.declared.entry.Entry.{Entry}
use Rattle.sat_act.specs.Deployed.{Deployed}
use Rattle.sat_parts_notes.specs.Collecting.{note_entry}
use Rattle.sat_node.specs.declared.kept.CallFault.{CallFault}
use Rattle.sat_session.specs.Notes.{SessionSeen}
use Rattle.sat_undone.specs.Undone.{DoesFront}
use Rattle.sat_crew.specs.declared.worker.Caller.{Caller}
use Rattle.sat_crew.specs.declared.worker.Passer.{Passer}
use Rattle.sat_crew.specs.declared.worker.Worker.{Worker}
use Rattle.sat_crew.specs.declared.worker.Worker.TheVariants as worker
use Rattle.sat_crew.specs.Crews.{CameBack, CameThrough, IsFresh, entries_in, own_acts}
use Rattle.sat_crew.specs.Standing.{Worked}
use Rattle.sat_crew.specs.Workers.{HasFault, IsWell, Serves, Works, sessions_in}

-- ---- lists of two lengths

pub zip_each : {X : Type 0} (R : X → X → Type 0) (xs ys : List X) → length ys ≡ length xs → ((i : ℕ) (d : X) → i < length xs → R (slice_index_or xs i d) (slice_index_or ys i d)) → AllZip R xs ys
zip_each R [] [] e f = tt
zip_each R [] (y ∷ ys) e f = absurd (omega (arith, e))
zip_each R (x ∷ xs) [] e f = absurd (omega (arith, e))
zip_each R (x ∷ xs) (y ∷ ys) e f = (
  f 0 x (omega arith),
  zip_each R xs ys (omega (arith, e)) (λ i d less. f (suc i) d (omega (arith, less))),
)

-- what was said of each place, by what was there before and what is left
pub all_work : {N : Type 0} (d : Deployed) (acts : List Act) (xs ys : List (Worker N)) → length ys ≡ length xs →
    ((i : ℕ) (w : Worker N) → i < length xs → (x : Worker N) × (y : Worker N) × (x ≡ slice_index_or xs i w) × (y ≡ slice_index_or ys i w) × Works d acts x y) → AllZip (Works d acts) xs ys
all_work d acts xs ys same each = zip_each (Works d acts) xs ys same (λ i w less.
    let k = each i w less in
    subst (λ y. Works d acts (slice_index_or xs i w) y) k.3 (subst (λ x. Works d acts x k.1) k.2 k.4))

-- ---- sessions among workers

pub sessions-append : {N : Type 0} (ws vs : List (Worker N)) → sessions_in (ws ++ vs) ≡ sessions_in ws ++ sessions_in vs
sessions-append [] vs = refl
sessions-append (worker.Caller x ∷ ws) vs = ap (λ (xs : List SessionSeen). x.session ∷ xs) (sessions-append ws vs)
sessions-append (worker.Passer x ∷ ws) vs = sessions-append ws vs

append-none : (xs : List SessionSeen) → xs ++ [] ≡ xs
append-none [] = refl
append-none (x ∷ xs) = ap (λ (ys : List SessionSeen). x ∷ ys) (append-none xs)

-- a node's worker more
pub one_passer : {N : Type 0} (ws new : List (Worker N)) (p : Passer) → new ≡ ws ++ worker.Passer p ∷ [] → sessions_in new ≡ sessions_in ws
one_passer ws new p e = ap sessions_in e ∙ (sessions-append ws (worker.Passer p ∷ []) ∙ append-none (sessions_in ws))

-- a session's worker more
pub one_caller : {N : Type 0} (ws new : List (Worker N)) (c : Caller N) → new ≡ ws ++ worker.Caller c ∷ [] → sessions_in new ≡ sessions_in ws ++ c.session ∷ []
one_caller ws new c e = ap sessions_in e ∙ sessions-append ws (worker.Caller c ∷ [])

-- a worker more, of either kind
pub more_caller : {N : Type 0} (ws : List (Worker N)) (w : Worker N) (c : Caller N) → w ≡ worker.Caller c → sessions_in (ws ++ w ∷ []) ≡ sessions_in ws ++ c.session ∷ []
more_caller ws w c e = one_caller ws (ws ++ w ∷ []) c (ap (λ x. ws ++ x ∷ []) e)

pub more_passer : {N : Type 0} (ws : List (Worker N)) (w : Worker N) (p : Passer) → w ≡ worker.Passer p → sessions_in (ws ++ w ∷ []) ≡ sessions_in ws
more_passer ws w p e = one_passer ws (ws ++ w ∷ []) p (ap (λ x. ws ++ x ∷ []) e)

-- ---- faults

fault-in : {N : Type 0} (d : Deployed) (acts : List Act) (x y : Worker N) → Works d acts x y → HasFault y
fault-in d acts (worker.Caller x) (worker.Caller y) w = w.fault
fault-in d acts (worker.Passer x) (worker.Passer y) w = w.fault
fault-in d acts (worker.Caller x) (worker.Passer y) w = absurd w
fault-in d acts (worker.Passer x) (worker.Caller y) w = absurd w

pub have_faults : {N : Type 0} (d : Deployed) (acts : List Act) (xs ys : List (Worker N)) → AllZip (Works d acts) xs ys → AllByRecursion HasFault ys
have_faults d acts [] [] w = tt
have_faults d acts [] (y ∷ ys) w = absurd w
have_faults d acts (x ∷ xs) [] w = absurd w
have_faults d acts (x ∷ xs) (y ∷ ys) w = (fault-in d acts x y w.0, have_faults d acts xs ys w.1)

-- ---- what came of the sessions

worked-front : (acts : List Act) (o : Option CallFault) (es : List Entry) → Worked acts o es → DoesFront acts es
worked-front acts None es w = w.does
worked-front acts (Some f) es w = w.1

came-back : {N : Type 0} (d : Deployed) (acts : List Act) (x y : Caller N) → x.session.noted ≡ [] → Serves d acts x y → CameBack d acts x.session y.session
came-back d acts x y e s = record { same = s.same; front = worked-front (own_acts d acts x.session) y.fault (entries_in y.session) (s.worked e) }

pub back : {N : Type 0} (d : Deployed) (acts : List Act) (xs ys : List (Worker N)) → AllByRecursion IsFresh (sessions_in xs) → AllZip (Works d acts) xs ys → AllZip (CameBack d acts) (sessions_in xs) (sessions_in ys)
back d acts [] [] fresh w = tt
back d acts [] (y ∷ ys) fresh w = absurd w
back d acts (x ∷ xs) [] fresh w = absurd w
back d acts (worker.Caller x ∷ xs) (worker.Caller y ∷ ys) fresh w = (came-back d acts x y fresh.0 w.0, back d acts xs ys fresh.1 w.1)
back d acts (worker.Passer x ∷ xs) (worker.Passer y ∷ ys) fresh w = back d acts xs ys fresh w.1
back d acts (worker.Caller x ∷ xs) (worker.Passer y ∷ ys) fresh w = absurd w.0
back d acts (worker.Passer x ∷ xs) (worker.Caller y ∷ ys) fresh w = absurd w.0

came-through : {N : Type 0} (d : Deployed) (acts : List Act) (x y : Caller N) → x.session.noted ≡ [] → y.fault ≡ None → Serves d acts x y → CameThrough d acts x.session y.session
came-through d acts x y e well s = record {
  same = s.same;
  all = subst (λ (o : Option CallFault). Worked (own_acts d acts x.session) o (entries_in y.session)) well (s.worked e);
}

pub through : {N : Type 0} (d : Deployed) (acts : List Act) (xs ys : List (Worker N)) → AllByRecursion IsFresh (sessions_in xs) → AllZip (Works d acts) xs ys → AllByRecursion IsWell ys → AllZip (CameThrough d acts) (sessions_in xs) (sessions_in ys)
through d acts [] [] fresh w well = tt
through d acts [] (y ∷ ys) fresh w well = absurd w
through d acts (x ∷ xs) [] fresh w well = absurd w
through d acts (worker.Caller x ∷ xs) (worker.Caller y ∷ ys) fresh w well = (came-through d acts x y fresh.0 well.0 w.0, through d acts xs ys fresh.1 w.1 well.1)
through d acts (worker.Passer x ∷ xs) (worker.Passer y ∷ ys) fresh w well = through d acts xs ys fresh w.1 well.1
through d acts (worker.Caller x ∷ xs) (worker.Passer y ∷ ys) fresh w well = absurd w.0
through d acts (worker.Passer x ∷ xs) (worker.Caller y ∷ ys) fresh w well = absurd w.0

-- ---- nobody worked

still-back : (d : Deployed) (acts : List Act) (x : SessionSeen) → x.noted ≡ [] → CameBack d acts x x
still-back d acts x e = record {
  same = refl;
  front = subst (DoesFront (own_acts d acts x)) (ap (map note_entry) (sym e)) (record { front = (own_acts d acts x, refl); in_turn = tt });
}

same-back : (d : Deployed) (acts : List Act) (xs : List SessionSeen) → AllByRecursion IsFresh xs → AllZip (CameBack d acts) xs xs
same-back d acts [] fresh = tt
same-back d acts (x ∷ xs) fresh = (still-back d acts x fresh.0, same-back d acts xs fresh.1)

pub untouched : (d : Deployed) (acts : List Act) (xs ys : List SessionSeen) → AllByRecursion IsFresh xs → ys ≡ xs → AllZip (CameBack d acts) xs ys
untouched d acts xs ys fresh e = subst (λ (zs : List SessionSeen). AllZip (CameBack d acts) xs zs) (sym e) (same-back d acts xs fresh)

pub back_as : (d : Deployed) (acts : List Act) (xs ys front bs : List SessionSeen) → front ≡ xs → bs ≡ ys → AllZip (CameBack d acts) front bs → AllZip (CameBack d acts) xs ys
back_as d acts xs ys front bs e f w = subst (λ (zs : List SessionSeen). AllZip (CameBack d acts) xs zs) f (subst (λ (zs : List SessionSeen). AllZip (CameBack d acts) zs bs) e w)

pub through_as : (d : Deployed) (acts : List Act) (xs ys front bs : List SessionSeen) → front ≡ xs → bs ≡ ys → AllZip (CameThrough d acts) front bs → AllZip (CameThrough d acts) xs ys
through_as d acts xs ys front bs e f w = subst (λ (zs : List SessionSeen). AllZip (CameThrough d acts) xs zs) f (subst (λ (zs : List SessionSeen). AllZip (CameThrough d acts) zs bs) e w)

-- ---- how many

-- those of the sessions, and then those of the nodes
pub hired : {N : Type 0} (callers passers new : List (Worker N)) (xs : List SessionSeen) → sessions_in callers ≡ xs → sessions_in passers ≡ [] → new ≡ callers ++ passers → sessions_in new ≡ xs
hired callers passers new xs held none e =
    ap sessions_in e ∙ (sessions-append callers passers ∙ ((λ i. held i ++ none i) ∙ append-none xs))

pub works_many : {N : Type 0} (d : Deployed) (acts : List Act) (xs ys : List (Worker N)) → AllZip (Works d acts) xs ys → length ys ≡ length xs
works_many d acts xs ys w = AllZip-long (Works d acts) xs ys w

-- there is room for one session more, where there is room for all workers
pub few_sessions : {N : Type 0} (ws : List (Worker N)) → length (sessions_in ws) ≤ length ws
few_sessions [] = omega arith
few_sessions (worker.Caller x ∷ ws) = let few = few_sessions ws in omega (arith, few)
few_sessions (worker.Passer x ∷ ws) = let few = few_sessions ws in omega (arith, few)
