-- A session goes through a script.
use Rattle.std.proofs.Common.{◌≡◌, ◌≤◌, ◌<◌, ℕ, ◌+◌, Bool, true, false, List, [], ◌∷◌, ◌++◌, length, map, take, drop, get_or, Option, Some, None, Result, Ok, Err, if◌then◌else◌, IfSome, IfErr, refl, sym, ap, ◌∙◌, subst, inr}
use Rattle.std.proofs.lemmas.List.{append-nil, take-append-drop, take_all}
use Rattle.std.proofs.lemmas.List.Elements.{filter-append}
use Rattle.std.specs.List.{AllByRecursion}
use Rattle.std.specs.Result.{result_err}
use Rattle.sat_act.specs.declared.act.Act.{Act}
use Rattle.sat_act.specs.declared.entry.Entry.{Entry}
use Rattle.sat_act.specs.Deployed.{Deployed}
use Rattle.sat_act.specs.Ranges.{IsActOf}
use Rattle.sat_node.specs.declared.kept.CallFault.{CallFault}
use Rattle.sat_parts_notes.specs.Collecting.{note_entry}
use Rattle.sat_session.specs.Calls.{IsFault}
use Rattle.sat_session.specs.Notes.{SessionSeen, session_at}
use Rattle.sat_undone.specs.declared.tries.TheConstants.{MOST_TRIES}
use Rattle.sat_undone.specs.Undone.{DoesAll, DoesFront, acts_of, is_of}
use Rattle.sat_undone.proofs.Tables.{front-next, rest-next}
use Rattle.sat_crew.specs.declared.worker.Caller.{Caller}
use Rattle.sat_crew.specs.declared.worker.Passer.{Passer}
use Rattle.sat_crew.specs.Crews.{entries_in, own_acts}
use Rattle.sat_crew.specs.Standing.{Came, Serving, Stood, Worked}
use Rattle.sat_crew.specs.Workers.{Passes, Serves}
use Rattle.sat_crew.proofs.Standing.{front-on, stood-all, stood-front, stood-none}

-- ---- its acts, up to a place

own-next : (d : Deployed) (acts : List Act) (x : SessionSeen) (n : ℕ) (a : Act) (b : Bool) → n < length acts → a ≡ get_or acts n a → is_of (session_at d x.number) a ≡ b →
    own_acts d (take (n + 1) acts) x ≡ own_acts d (take n acts) x ++ (if b then a ∷ [] else [])
own-next d acts x n a b low is own =
    ap (acts_of (session_at d x.number)) (front-next acts n a low is)
    ∙ (filter-append (is_of (session_at d x.number)) (take n acts) (a ∷ []) ∙ ap (λ (t : Bool). own_acts d (take n acts) x ++ (if t then a ∷ [] else [])) own)

-- what is done up to a place is a front of all
own-front : (d : Deployed) (acts : List Act) (x : SessionSeen) (n : ℕ) (es : List Entry) → DoesFront (own_acts d (take n acts) x) es → DoesFront (own_acts d acts x) es
own-front d acts x n es f =
    let s = session_at d x.number in
    let all : acts_of s acts ≡ acts_of s (take n acts) ++ acts_of s (drop n acts) = ap (acts_of s) (sym (take-append-drop n acts)) ∙ filter-append (is_of s) (take n acts) (drop n acts) in
    subst (λ (xs : List Act). DoesFront xs es) (sym all) (front-on (acts_of s (take n acts)) (acts_of s (drop n acts)) es f)

own-same : (d : Deployed) (a : Act) (n m : ℕ) (b : Bool) → m ≡ n → is_of (session_at d m) a ≡ b → is_of (session_at d n) a ≡ b
own-same d a n m b e = subst (λ (k : ℕ). is_of (session_at d k) a ≡ b) e

-- ---- the loop

pub serving_start : (d : Deployed) (acts : List Act) (x : SessionSeen) → AllByRecursion (IsActOf d) acts → Serving d acts 0 x x
serving_start d acts x known = record {
  same = refl;
  known = known;
  stood = λ e. subst (Stood [] 0 None) (ap (map note_entry) (sym e)) stood-none;
}

pub serving_act : (d : Deployed) (acts : List Act) (n : ℕ) (x y : SessionSeen) (a : Act) → Serving d acts n x y → n < length acts → a ≡ get_or acts n a → IsActOf d a
serving_act d acts n x y a s low is = let all = subst (AllByRecursion (IsActOf d)) (rest-next acts n a low is) s.known in all.0

pub serving_other : (d : Deployed) (acts : List Act) (n : ℕ) (x y : SessionSeen) (a : Act) → Serving d acts n x y → n < length acts → a ≡ get_or acts n a → is_of (session_at d y.number) a ≡ false → Serving d acts (n + 1) x y
serving_other d acts n x y a s low is other = record {
  same = s.same;
  known = (let all = subst (AllByRecursion (IsActOf d)) (rest-next acts n a low is) s.known in all.1);
  stood = λ e.
      let more = own-next d acts x n a false low is (own-same d a x.number y.number false s.same other) ∙ append-nil (own_acts d (take n acts) x) in
      subst (λ (done : List Act). Stood done 0 None (entries_in y)) (sym more) (s.stood e);
}

pub serving_own : (d : Deployed) (acts : List Act) (n : ℕ) (x y z : SessionSeen) (a : Act) (result : Result Bool CallFault) → Serving d acts n x y → n < length acts → a ≡ get_or acts n a → is_of (session_at d y.number) a ≡ true → z.number ≡ y.number →
    ((done : List Act) → Stood done 0 None (entries_in y) → Came done a result (entries_in z)) → result ≡ Ok true → Serving d acts (n + 1) x z
serving_own d acts n x y z a result s low is own same came ok = record {
  same = same ∙ s.same;
  known = (let all = subst (AllByRecursion (IsActOf d)) (rest-next acts n a low is) s.known in all.1);
  stood = λ e.
      let done = own_acts d (take n acts) x in
      let c : Came done a (Ok true) (entries_in z) = subst (λ (r : Result Bool CallFault). Came done a r (entries_in z)) ok (came done (s.stood e)) in
      subst (λ (acts : List Act). Stood acts 0 None (entries_in z)) (sym (own-next d acts x n a true low is (own-same d a x.number y.number true s.same own))) c;
}

-- ---- the end

pub worked_given_up : (d : Deployed) (acts : List Act) (n : ℕ) (x y z : SessionSeen) (a : Act) (result : Result Bool CallFault) → Serving d acts n x y → n < length acts → a ≡ get_or acts n a → is_of (session_at d y.number) a ≡ true →
    ((done : List Act) → Stood done 0 None (entries_in y) → Came done a result (entries_in z)) → result ≡ Ok false → x.noted ≡ [] → Worked (own_acts d acts x) None (entries_in z)
worked_given_up d acts n x y z a result s low is own came gave e =
    let done = own_acts d (take n acts) x in
    let c : Came done a (Ok false) (entries_in z) = subst (λ (r : Result Bool CallFault). Came done a r (entries_in z)) gave (came done (s.stood e)) in
    let next = own-next d acts x n a true low is (own-same d a x.number y.number true s.same own) in
    let front = stood-front done a MOST_TRIES (Some a) (entries_in z) refl c in
    record { does = own-front d acts x (n + 1) (entries_in z) (subst (λ (xs : List Act). DoesFront xs (entries_in z)) (sym next) front); all = inr c.tries }

pub worked_failed : (d : Deployed) (acts : List Act) (n : ℕ) (x y z : SessionSeen) (a : Act) (f : CallFault) (result : Result Bool CallFault) → Serving d acts n x y → n < length acts → a ≡ get_or acts n a → is_of (session_at d y.number) a ≡ true →
    ((done : List Act) → Stood done 0 None (entries_in y) → Came done a result (entries_in z)) → result ≡ Err f → x.noted ≡ [] → Worked (own_acts d acts x) (Some f) (entries_in z)
worked_failed d acts n x y z a f result s low is own came failed e =
    let done = own_acts d (take n acts) x in
    let c : Came done a (Err f) (entries_in z) = subst (λ (r : Result Bool CallFault). Came done a r (entries_in z)) failed (came done (s.stood e)) in
    let next = own-next d acts x n a true low is (own-same d a x.number y.number true s.same own) in
    let front = stood-front done a c.1.0 c.1.1 (entries_in z) c.1.2 c.1.3 in
    (c.0, own-front d acts x (n + 1) (entries_in z) (subst (λ (xs : List Act). DoesFront xs (entries_in z)) (sym next) front))

pub worked_all : (d : Deployed) (acts : List Act) (n : ℕ) (x y : SessionSeen) → Serving d acts n x y → length acts ≤ n → x.noted ≡ [] → Worked (own_acts d acts x) None (entries_in y)
worked_all d acts n x y s past e =
    let all : take n acts ≡ acts = take_all n acts past in
    subst (λ (bs : List Act). DoesAll (own_acts d bs x) (entries_in y)) all (stood-all (own_acts d (take n acts) x) (entries_in y) (s.stood e))

-- ---- workers

fault-if : (result : Result (Unit {0}) CallFault) → IfErr result IsFault → IfSome (result_err result) IsFault
fault-if (Ok u) f = tt
fault-if (Err y) f = f

pub serves : {N : Type 0} (d : Deployed) (acts : List Act) (x y : Caller N) (result : Result (Unit {0}) CallFault) → y.session.number ≡ x.session.number → y.fault ≡ result_err result →
    (x.session.noted ≡ [] → Worked (own_acts d acts x.session) (result_err result) (entries_in y.session)) → IfErr result IsFault → Serves d acts x y
serves d acts x y result same is worked fault = record {
  same = same;
  worked = λ e. subst (λ (f : Option CallFault). Worked (own_acts d acts x.session) f (entries_in y.session)) (sym is) (worked e);
  fault = subst (λ (f : Option CallFault). IfSome f IsFault) (sym is) (fault-if result fault);
}

pub passes : (x y : Passer) (result : Result (Unit {0}) CallFault) → y.node ≡ x.node → y.fault ≡ result_err result → IfErr result IsFault → Passes x y
passes x y result same is fault = record { node = same; fault = subst (λ (f : Option CallFault). IfSome f IsFault) (sym is) (fault-if result fault) }
