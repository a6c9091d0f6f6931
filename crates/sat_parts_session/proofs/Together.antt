-- A write of several items at the gears of its items.
use Rattle.std.proofs.Common.{◌≡◌, ◌⊎◌, ◌↔◌, ◌<◌, ◌≤◌, ◌+◌, ◌-◌, ◌%◌, ◌==◌, ◌&&◌, ℕ, zero, suc, Bool, true, false, not, max, nat_le, List, [], ◌∷◌, ◌++◌, length, map, replicate, slice_get, if◌then◌else◌, Option, Some, None, Result, Ok, Err, IfOk, OnErr, IfErr, IsErrOf, refl, sym, ap, ◌∙◌, subst, arith}
use Rattle.std.proofs.lemmas.Option.{slice_get_within}
use Rattle.std.specs.declared.sync.MutexGuard.{MutexGuard}
use Rattle.std.specs.Sync.Mutex.{mutex_guard_value}
use Rattle.sat_label.specs.declared.carried.Carried.{Carried}
use Rattle.sat_label.specs.declared.items.Items.{Items}
use Rattle.sat_label.specs.declared.label.Kind.TheVariants.{Update}
use Rattle.sat_label.specs.declared.label.Label.{Label}
use Rattle.sat_label.specs.declared.limits.TheConstants.{TS_END}
use Rattle.sat_label.specs.declared.node.NodeName.{NodeName}
use Rattle.sat_label.specs.declared.node.NodeName.TheVariants as named
use Rattle.sat_label.specs.Grouped.{list_of}
use Rattle.sat_label.specs.Order.{point_at}
use Rattle.sat_label.specs.Words.{has}
use Rattle.sat_act.specs.declared.act.Act.{Act}
use Rattle.sat_act.specs.declared.answer.Answer.{Answer}
use Rattle.sat_act.specs.declared.answer.Answer.TheVariants as ans
use Rattle.sat_act.specs.declared.answer.Refusal.TheVariants as why
use Rattle.sat_act.specs.Answers.{refused_if}
use Rattle.sat_act.specs.Deployed.{Deployed}
use Rattle.sat_act.specs.Parts.{keeps_all}
use Rattle.sat_model.specs.Next.{payload_at}
use Rattle.sat_model.specs.Reply.{gear_for, write_by}
use Rattle.sat_gear.specs.Gear.{GearSeen}
use Rattle.sat_node.specs.declared.joint.Part.{Part}
use Rattle.sat_node.specs.declared.kept.CallFault.{CallFault}
use Rattle.sat_node.specs.declared.kept.CallFault.TheVariants as fault
use Rattle.sat_node.specs.Links.{Both, Each, HeldSeen, IsLocal}
use Rattle.sat_node.specs.Meanings.{replay}
use Rattle.sat_node.specs.Seen.{NodeSeen, SameNode, entry, last_number}
use Rattle.sat_node.specs.Together.{AllKeep, AllSame, IsSure, KeepsSome, SameHeld, lent, most, top_of}
use Rattle.sat_node.proofs.Members.{both_then}
use Rattle.sat_node.proofs.Together.{same_then, some_from}
use Rattle.sat_stitch.specs.Nodes.{stands}
use Rattle.sat_joint.specs.Machines.{GearNode}
use Rattle.sat_hub_laws.specs.Gears.{gear_answer}
use Rattle.sat_hub_laws.specs.Inputs as model
use Rattle.sat_bulk.specs.Payloads.{Payload}
use Rattle.sat_machines.specs.Sites.{number_of}
use Rattle.sat_opened.specs.Opened.{name_in}
use Rattle.sat_session.specs.Notes.{SessionSeen}
use Rattle.sat_session.specs.Calls.{AtNodeAbove, Notes}
use Rattle.sat_parts.specs.declared.gear_answer.GearAnswer.{GearAnswer}
use Rattle.sat_parts.specs.declared.gear_input.GearInput.TheVariants as gear
use Rattle.sat_parts.specs.Acts.{GearActSeen}
use Rattle.sat_parts.specs.GearSteps.{gear_may_fail, gear_takes}
use Rattle.sat_parts.specs.Gears.{GearAnswersAt, GearStands, gear_meaning}
use Rattle.sat_parts_session.specs.Asked.{gear_asked, of_gear}
use Rattle.sat_parts_session.specs.Groups.{AreGears, KeepBeside, gears_where, is_beside, shown_under}
use Rattle.sat_parts_session.specs.Steps.{AreParts, GearHeld, KeepIf, ShowItsLabel, did_write, is_wrote}
use Rattle.sat_parts_session.proofs.Looks.{stands_at}

-- ---- parts that are taken for sure

shows-as : (d : Deployed) (i : ℕ) (n : GearNode) (p : Payload) → gear_answer d i n (model.Show model.ByWrite p) ≡ ans.Wrote p.label
unfolding gear_answer
shows-as d i n p = refl

shown-stands : (d : Deployed) (i : ℕ) (n : GearNode) (p : Payload) (r : Answer) → r ≡ gear_answer d i n (model.Show model.ByWrite p) → stands r ≡ true
shown-stands d i n p r e = ap stands (e ∙ shows-as d i n p)

shown-local : (d : Deployed) (node : NodeSeen GearSeen GearActSeen GearAnswer) (c : ℕ) (values : List (List ℕ)) (l : Label) → IsLocal (gear_meaning d) node (shown_under c values l)
shown-local d node c values l = record {
  stands = λ a w. shown-stands d (number_of node.name) (replay (gear_meaning d) node.name node.entries) (payload_at l values) a.answer w.answer;
  takes = λ a k w. refl;
}

rep-at : {X : Type 0} (n k : ℕ) (x : X) → k < n → slice_get (replicate n x) k ≡ Some x
rep-at zero k x lt = absurd (omega arith)
rep-at (suc n) zero x lt = refl
rep-at (suc n) (suc k) x lt = rep-at n k x (omega arith)

rep-length : {X : Type 0} (n : ℕ) (x : X) → length (replicate n x) ≡ n
rep-length zero x = refl
rep-length (suc n) x = ap suc (rep-length n x)

rep-front : {X : Type 0} (n : ℕ) (x : X) → replicate n x ++ x ∷ [] ≡ x ∷ replicate n x
rep-front zero x = refl
rep-front (suc n) x = ap (λ xs. x ∷ xs) (rep-front n x)

pub rep_more : {X : Type 0} (n m : ℕ) (x : X) (xs : List X) → m ≡ n + 1 → xs ≡ replicate n x → xs ++ x ∷ [] ≡ replicate m x
rep_more {X} n m x xs next is = ap (λ (ys : List X). ys ++ x ∷ []) is ∙ (rep-front n x ∙ (let e : suc n ≡ m = omega arith in ap (λ (k : ℕ). replicate k x) e))

in-rep : {X : Type 0} (n k : ℕ) (x p : X) → slice_get (replicate n x) k ≡ Some p → p ≡ x
in-rep zero k x p at = absurd (cc (at))
in-rep (suc n) zero x p at = (let e : x ≡ p = cc (at) in sym e)
in-rep (suc n) (suc k) x p at = in-rep n k x p at

abbrev twice : GearActSeen → Part GearActSeen
twice input = record { input = input; copy = input }

sure-part : (d : Deployed) (c : ℕ) (values : List (List ℕ)) (l : Label) (h : GearHeld) → gear_takes h.node.machine (shown_under c values l).input ≡ true → IsSure (gear_meaning d) (λ x act. gear_takes x act.input) (λ x act. gear_may_fail act.input) h (twice (shown_under c values l))
sure-part d c values l h fits = record { fit = record { fits = fits; copied = refl; from = shown-local d h.node c values l }; sure = refl }

pub sure_parts : (d : Deployed) (gears : List GearHeld) (shown : GearActSeen) (parts : List (Part GearActSeen)) (count c : ℕ) (values : List (List ℕ)) (l : Label) → shown ≡ shown_under c values l → count ≡ length gears → Each gears (λ _ h. gear_takes h.node.machine shown.input ≡ true) →
    parts ≡ replicate count (twice shown) → AreParts d gears parts
sure_parts d gears shown parts count c values l is size fits made = (
  ap length made ∙ (rep-length count (twice shown) ∙ size),
  λ k h at. (
    twice shown,
    ap (λ (ps : List (Part GearActSeen)). slice_get ps k) made ∙ rep-at count k (twice shown) (subst (λ (n : ℕ). k < n) (sym size) (slice_get_within gears k h at)),
    subst (λ (s : GearActSeen). gear_takes h.node.machine s.input ≡ true → IsSure (gear_meaning d) (λ x act. gear_takes x act.input) (λ x act. gear_may_fail act.input) h (twice s)) (sym is) (sure-part d c values l h) (fits k h at),
  ),
)

pub all_shown : (shown : GearActSeen) (parts : List (Part GearActSeen)) (count : ℕ) → parts ≡ replicate count (twice shown) → Each parts (λ _ p. p.input ≡ shown)
all_shown shown parts count made k p at = ap (λ (q : Part GearActSeen). q.input) (in-rep count k (twice shown) p (ap (λ (ps : List (Part GearActSeen)). slice_get ps k) (sym made) ∙ at))

-- ---- the label

label-go : (b c : Bool) (m l : Label) → refused_if b why.NotHere (refused_if c why.Spent (ans.Wrote m)) ≡ ans.Wrote l → (c ≡ false) × (l ≡ m)
label-go true c m l e = absurd (cc (e))
label-go false true m l e = absurd (cc (e))
label-go false false m l e = (refl, (let w : m ≡ l = cc (e) in sym w))

label-is : (d : Deployed) (i : ℕ) (items : Items) (promise seen : ℕ) (l : Label) → write_by d i items promise seen ≡ ans.Wrote l → (nat_le TS_END (max promise seen) ≡ false) × (l ≡ record { point = point_at (max promise seen + 1) i (gear_for d items); kind = Update items })
label-is d i items promise seen l e = label-go (not (keeps_all d (list_of items) i)) (nat_le TS_END (max promise seen)) (record { point = point_at (max promise seen + 1) i (gear_for d items); kind = Update items }) l e

writes-by : (d : Deployed) (i : ℕ) (n : GearNode) (seen : Carried) (items : Items) (values : List (List ℕ)) → gear_answer d i n (model.Write seen items values) ≡ write_by d i items n.gear.promise seen.point.ts
unfolding gear_answer
writes-by d i n seen items values = refl

-- the label that was read off the home is the one that it answers
pub shows_label : (d : Deployed) (node : NodeSeen GearSeen GearActSeen GearAnswer) (i c promise number : ℕ) (seen : Carried) (items : Items) (values : List (List ℕ)) (input shown : GearActSeen) (label : Label) (parts : List (Part GearActSeen)) →
    node.name ≡ named.Gear i (gear_for d items) → GearStands d node.name node.machine (replay (gear_meaning d) node.name node.entries) → promise ≡ node.machine.promise → number ≡ node.machine.gear → input ≡ gear_asked (Some c) (gear.Write seen items values) →
    (nat_le TS_END (max promise seen.point.ts) ≡ false → label ≡ record { point = point_at (max promise seen.point.ts + 1) i number; kind = Update items }) → shown ≡ shown_under c values label → Each parts (λ _ p. p.input ≡ shown) → ShowItsLabel d node input c values parts
shows_label d node i c promise number seen items values input shown label parts at st promised numbered asked stamps is all a l answers e =
    let state : GearNode = replay (gear_meaning d) node.name node.entries in
    let gives : GearAnswersAt d (number_of node.name) state (gear_asked (Some c) (gear.Write seen items values)) a = subst (λ (w : GearActSeen). GearAnswersAt d (number_of node.name) state w a) asked answers in
    let made = stands_at d node.name i (gear_for d items) node.machine state at st in
    let same : promise ≡ state.gear.promise = promised ∙ made.gear.promise in
    let said : write_by d (number_of node.name) items state.gear.promise seen.point.ts ≡ ans.Wrote l = sym (gives.answer ∙ writes-by d (number_of node.name) state seen items values) ∙ e in
    let w = label-is d (number_of node.name) items state.gear.promise seen.point.ts l said in
    let free : nat_le TS_END (max promise seen.point.ts) ≡ false = ap (λ (n : ℕ). nat_le TS_END (max n seen.point.ts)) same ∙ w.0 in
    let one : label ≡ l =
    stamps free ∙ ((λ j. record { point = point_at (max (same j) seen.point.ts + 1) (sym (ap number_of at) j) ((numbered ∙ made.number) j); kind = Update items }) ∙ sym w.1) in
    λ k p here. all k p here ∙ (is ∙ ap (shown_under c values) one)

-- ---- what is kept

keep-shown : (d : Deployed) (number : ℕ) (shown : GearActSeen) (parts : List (Part GearActSeen)) (old new : List GearHeld) → AllKeep (gear_meaning d) number parts old new → Each parts (λ _ p. p.input ≡ shown) → Both (λ _ x y. KeepsSome (gear_meaning d) number shown x y) old new
keep-shown d number shown parts old new kept all = (
  kept.0,
  λ k y at. (let h = kept.1 k y at in (h.0, h.1, subst (λ (input : GearActSeen). KeepsSome (gear_meaning d) number input h.0 y) (all k h.2.0 h.2.1) h.2.2)),
)

keep-beside : (d : Deployed) (number c : ℕ) (values : List (List ℕ)) (r : Answer) (parts : List (Part GearActSeen)) (old new : List GearHeld) → KeepIf d (did_write r) number parts old new → ((l : Label) → r ≡ ans.Wrote l → Each parts (λ _ p. p.input ≡ shown_under c values l)) → KeepBeside d number c values r old new
keep-beside d number c values (ans.Wrote l) parts old new kept all = keep-shown d number (shown_under c values l) parts old new kept (all l refl)
keep-beside d number c values _ parts old new kept all = kept

-- what the home answered, and what the others then keep
pub kept_beside : (d : Deployed) (node : NodeSeen GearSeen GearActSeen GearAnswer) (input : GearActSeen) (number c : ℕ) (values : List (List ℕ)) (result : Result Answer CallFault) (test : Bool) (parts : List (Part GearActSeen)) (old new : List GearHeld) → ShowItsLabel d node input c values parts →
    IfOk result (λ r. (given : GearAnswer) × (of_gear given ≡ r) × (gear_meaning d).answers node.name (replay (gear_meaning d) node.name node.entries) input given) → IfOk result (λ r. test ≡ did_write r) → KeepIf d test number parts old new → IfOk result (λ r. KeepBeside d number c values r old new)
kept_beside d node input number c values (Ok r) test parts old new shows answers is kept =
    keep-beside d number c values r parts old new (subst (λ (b : Bool). KeepIf d b number parts old new) is kept) (λ l e. shows answers.0 l answers.2 (answers.1 ∙ e))
kept_beside d node input number c values (Err f) test parts old new shows answers is kept = tt

pub kept_none : (d : Deployed) (number : ℕ) (result : Result Answer CallFault) (test : Bool) (parts : List (Part GearActSeen)) (old new : List GearHeld) → OnErr result (test ≡ false) → KeepIf d test number parts old new → OnErr result (AllSame old new)
kept_none d number (Ok r) test parts old new is kept = tt
kept_none d number (Err f) test parts old new is kept = subst (λ (b : Bool). KeepIf d b number parts old new) is kept

-- ---- behind a reservation

max-is : (a b : ℕ) → a ≤ b → max a b ≡ b
max-is a b le = omega arith

-- the number that was said is the act's, and so are the act and the input that were made
pub done_as : {M I A : Type 0} (last number : ℕ) (a b : Act) (input made : I) (answer_of : A → Answer) (result : Result Answer CallFault) (old new : NodeSeen M I A) (before after : SessionSeen) → number ≤ last → b ≡ a → made ≡ input → AtNodeAbove (max number last) b made answer_of result old new before after →
    AtNodeAbove last a input answer_of result old new before after
done_as {M} {I} {A} last number a b input made answer_of result old new before after le f e done = subst (λ (w : ℕ × Act × I). AtNodeAbove w.0 w.1 w.2 answer_of result old new before after) (λ j. (max-is number last le j, f j, e j)) done

pub wrote_ok : (r : Result Answer CallFault) (t : Bool) → t ≡ is_wrote r → IfOk r (λ x. t ≡ did_write x)
wrote_ok (Ok x) t e = e
wrote_ok (Err f) t e = tt

pub wrote_err : (r : Result Answer CallFault) (t : Bool) → t ≡ is_wrote r → OnErr r (t ≡ false)
wrote_err (Ok x) t e = tt
wrote_err (Err f) t e = e

-- a node that has more room is the node before it
pub done_from : {M I A : Type 0} (last top : ℕ) (a : Act) (input : I) (answer_of : A → Answer) (result : Result Answer CallFault) (old mid new : NodeSeen M I A) (before after : SessionSeen) → SameNode old mid → last ≡ top → AtNodeAbove last a input answer_of result mid new before after →
    AtNodeAbove top a input answer_of result old new before after
done_from {M} {I} {A} last top a input answer_of result old mid new before after same is done = go result (subst (λ (n : ℕ). AtNodeAbove n a input answer_of result mid new before after) is done)
  where
    go : (r : Result Answer CallFault) → AtNodeAbove top a input answer_of r mid new before after → AtNodeAbove top a input answer_of r old new before after
    go (Ok x) w = record {
      entered = (w.entered.0, w.entered.1, w.entered.2 ∙ ap (λ (es : _). es ++ entry (top + 1) input w.entered.0 ∷ []) same.2);
      number = w.number;
      name = w.name ∙ same.0;
      unchanged = tt;
      notes = subst (λ (n : NodeName). Notes (top + 1) (Some n) a (Ok x) before after) same.0 w.notes;
      worn = w.worn;
      spent = w.spent;
      only = w.only;
    }
    go (Err f) w = record {
      entered = tt;
      number = tt;
      name = w.name ∙ same.0;
      unchanged = (w.unchanged.0 ∙ same.0, w.unchanged.1 ∙ same.1, w.unchanged.2 ∙ same.2, w.unchanged.3 ∙ same.3);
      notes = subst (λ (n : NodeName). Notes (top + 1) (Some n) a (Err f) before after) same.0 w.notes;
      worn = w.worn;
      spent = w.spent;
      only = w.only;
    }

same-all : {M I A : Type 0} (a b c : List (HeldSeen M I A)) → AllSame a b → AllSame b c → AllSame a c
same-all a b c ab bc = both_then (λ _ x y. SameHeld x y) (λ _ x y. SameHeld x y) (λ _ x y. SameHeld x y) a b c (λ _ x y z p q. same_then x y z p q) ab bc

beside-all : (d : Deployed) (number top c : ℕ) (values : List (List ℕ)) (r : Answer) (a b e : List GearHeld) → number ≡ top → AllSame a b → KeepBeside d (number + 1) c values r b e → KeepBeside d (top + 1) c values r a e
beside-all d number top c values (ans.Wrote l) a b e is ab be =
    both_then (λ _ x y. SameHeld x y) (λ _ x y. KeepsSome (gear_meaning d) (number + 1) (shown_under c values l) x y) (λ _ x y. KeepsSome (gear_meaning d) (top + 1) (shown_under c values l) x y) a b e
    (λ _ x y z same kept. some_from (gear_meaning d) number top (shown_under c values l) x y z same is kept) ab be
beside-all d number top c values _ a b e is ab be = same-all a b e ab be

pub beside_from : (d : Deployed) (number top c : ℕ) (values : List (List ℕ)) (result : Result Answer CallFault) (a b e : List GearHeld) → number ≡ top → AllSame a b → IfOk result (λ r. KeepBeside d (number + 1) c values r b e) → IfOk result (λ r. KeepBeside d (top + 1) c values r a e)
beside_from d number top c values (Ok r) a b e is ab be = beside-all d number top c values r a b e is ab be
beside_from d number top c values (Err f) a b e is ab be = tt

pub same_from : {M I A : Type 0} (result : Result Answer CallFault) (a b e : List (HeldSeen M I A)) → AllSame a b → OnErr result (AllSame b e) → OnErr result (AllSame a e)
same_from (Ok r) a b e ab be = tt
same_from (Err f) a b e ab be = same-all a b e ab be

most-least : {M I A : Type 0} (n : ℕ) (hs : List (HeldSeen M I A)) → n ≤ most n hs
most-least n [] = omega arith
most-least n (h ∷ hs) = (let e = most-least (max n h.node.number) hs in omega arith)

pub said_least : {M I A N J B : Type 0} (said heard last : ℕ) (home : HeldSeen M I A) (others : List (HeldSeen N J B)) → heard ≡ said → last ≡ top_of heard None home others → said ≤ last
said_least said heard last home others same is = (let l = most-least (max (max heard 0) home.node.number) others in omega arith)

names-same : {M I A : Type 0} (a b : List (HeldSeen M I A)) → AllSame a b → map name_in b ≡ map name_in a
names-same [] [] ab = refl
names-same [] (y ∷ ys) ab = absurd (let e = ab.0 in cc (e))
names-same (x ∷ xs) [] ab = absurd (let e = ab.0 in cc (e))
names-same {M} {I} {A} (x ∷ xs) (y ∷ ys) ab =
    let w = ab.1 0 y refl in
    let e : x ≡ w.0 = cc (w.1) in
    let name : y.node.name ≡ x.node.name = w.2.same.0 ∙ ap (λ (h : HeldSeen M I A). h.node.name) (sym e) in
    let rest : map name_in ys ≡ map name_in xs = names-same xs ys ((let l = ab.0 in omega arith), λ k z at. ab.1 (suc k) z at) in
    λ j. name j ∷ rest j

pub gears_from : (d : Deployed) (seat : Option ℕ) (items : Items) (result : Result Answer CallFault) (old mid : GearHeld) (a b : List GearHeld) → SameHeld old mid → AllSame a b → IfOk result (λ _. (i : ℕ) × AreGears d seat items i mid.node.name (map name_in b)) →
    IfOk result (λ _. (i : ℕ) × AreGears d seat items i old.node.name (map name_in a))
gears_from d seat items (Ok r) old mid a b same ab at = (at.0, record { seated = at.1.seated; home_is = sym same.same.0 ∙ at.1.home_is; others_are = sym (names-same a b ab) ∙ at.1.others_are })
gears_from d seat items (Err f) old mid a b same ab at = tt

-- ---- which gears they are

where-is : (test : ℕ → Bool) (n m : ℕ) → m ≡ n + 1 → gears_where test m ≡ (if test n then gears_where test n ++ n ∷ [] else gears_where test n)
where-is test n m e = (let w : m ≡ suc n = omega arith in ap (gears_where test) w)

map-last : {X Y : Type 0} (f : X → Y) (xs : List X) (x : X) → map f (xs ++ x ∷ []) ≡ map f xs ++ f x ∷ []
map-last f [] x = refl
map-last f (y ∷ ys) x = ap (λ zs. f y ∷ zs) (map-last f ys x)

pub where_more : (test : ℕ → Bool) (site gear below : ℕ) (gears rest : List GearHeld) (last : GearHeld) → below ≡ gear + 1 → test gear ≡ true → last.node.name ≡ named.Gear site gear → gears ≡ rest ++ last ∷ [] → map name_in rest ≡ map (named.Gear site) (gears_where test gear) →
    map name_in gears ≡ map (named.Gear site) (gears_where test below)
where_more test site gear below gears rest last e more at is known =
    ap (map name_in) is ∙ (map-last name_in rest last ∙ ((λ j. known j ++ at j ∷ []) ∙ (sym (map-last (named.Gear site) (gears_where test gear) gear)
    ∙ sym (ap (map (named.Gear site)) (where-is test gear below e ∙ ap (λ (b : Bool). if b then gears_where test gear ++ gear ∷ [] else gears_where test gear) more)))))

pub lent_last : {X : Type 0} (gs rest : List (MutexGuard X)) (g : MutexGuard X) → gs ≡ rest ++ g ∷ [] → lent gs ≡ lent rest ++ mutex_guard_value g ∷ []
lent_last gs rest g is = ap lent is ∙ map-last mutex_guard_value rest g

pub lent_length : {X : Type 0} (gs : List (MutexGuard X)) → length gs ≡ length (lent gs)
lent_length [] = refl
lent_length (g ∷ gs) = ap suc (lent_length gs)

pub beside_as : (d : Deployed) (items : Items) (home gears gear : ℕ) → gears ≡ d.gears → home ≡ gear_for d items → (not (gear == home) && has ◌==◌ (map (λ (x : ℕ). x % gears) (list_of items)) gear) ≡ is_beside d items gear
beside_as d items home gears gear e f = λ j. not (gear == f j) && has ◌==◌ (map (λ (x : ℕ). x % e j) (list_of items)) gear

pub pred_is : (n : ℕ) → (n ≡ 0 → ⊥) → n ≡ (n - 1) + 1
pred_is zero f = absurd (f refl)
pred_is (suc n) f = omega arith
