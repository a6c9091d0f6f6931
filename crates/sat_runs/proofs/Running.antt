-- One act more.
use Rattle.std.proofs.Common.{Result, Ok, Err, OnOk, OnErr, ◌<◌, take, drop, get_or, arith, ◌≡◌, ℕ, ◌+◌, List, [], ◌∷◌, ◌++◌, length, refl, sym, ap, subst, ◌∙◌}
use Rattle.std.specs.Prelude.{Option, None, Some, IfOk}
use Rattle.std.specs.List.{AllByRecursion}
use Rattle.std.proofs.lemmas.List.{append-nil, append_assoc, reverse-append, length-append, drop_more, take-append-drop}
use Rattle.sat_act.specs.declared.act.Act.{Act}
use Rattle.sat_act.specs.declared.act.Act.TheVariants as act
use Rattle.sat_act.specs.declared.answer.Answer.{Answer}
use Rattle.sat_act.specs.declared.entry.Entry.{Entry}
use Rattle.sat_act.specs.Deployed.{Deployed}
use Rattle.sat_act.specs.Done.{of_client}
use Rattle.sat_act.specs.Ranges.{IsActOf}
use Rattle.sat_act.specs.Runs.{IsRun}
use Rattle.sat_act.specs.Settling.{run, answer_of, inner_entry, with_inner}
use Rattle.sat_rest.proofs.Headlines.{act-is}
use Rattle.sat_rest.proofs.Rounds.{goes-keep}
use Rattle.sat_rest.proofs.Settles.{settle-after}
use Rattle.sat_world.proofs.Meets.{in-range}
use Rattle.sat_world.specs.Seen.{WorldSeen}
use Rattle.sat_world.specs.Stands.{StandsFor}
use Rattle.sat_report.specs.Answers.{answers, answer_line, answer_text, printed_count}
use Rattle.sat_report.specs.Frames.{framed}
use Rattle.sat_report.proofs.Frames.{as_line}
use Rattle.sat_runs.specs.Runs.{history}
use Rattle.sat_settle.specs.Going.{Extends, StopsBefore}
use Rattle.sat_runs.specs.Running.{entry, HasDone, Does, StopsIn, IsRunning, IsAnswering, HasLines, HasSomeLines}
use Rattle.sat_runs.specs.OneLine.{IsWritten, HasLine, StopsOnTheWay}

-- ---- the entries of a settle's acts

answers-in : (d : Deployed) (k : List Entry) (a : Act) → answers d (inner_entry d k a ∷ k) ≡ answers d k
unfolding answers
answers-in d k a = append-nil (answers d k)

printed-in : (d : Deployed) (k : List Entry) (a : Act) → printed_count (inner_entry d k a ∷ k) ≡ printed_count k
unfolding printed_count
printed-in d k a = refl

-- what no such entry changes is the same after them
pub kept : {X : Type 0} (d : Deployed) (f : List Entry → X) → ((k : List Entry) (a : Act) → of_client a ≡ None → f (inner_entry d k a ∷ k) ≡ f k)
    → (h : List Entry) (a : Act) → IsRun d h → f (with_inner d h a) ≡ f h
unfolding with_inner
kept d f each h act.Settle run = goes-keep d (λ k. f k ≡ f h) (λ k a run m later old. each k a m.operator ∙ old) h _ (settle-after d h run).goes refl
kept d f each h a run = refl

-- ---- one act more

history-next : (d : Deployed) (a : Act) (acts : List Act) → history d (acts ++ a ∷ []) ≡ entry a (answer_of d (history d acts) a) ∷ with_inner d (history d acts) a
unfolding history run
history-next d a acts = ap (run d) (reverse-append acts (a ∷ []))

answers-on : (d : Deployed) (h : List Entry) (a : Act) (r : Answer) → answers d (entry a r ∷ h) ≡ answers d h ++ answer_line d (printed_count h + 1) a r
unfolding answers
answers-on d h a r = refl

printed-on : (h : List Entry) (a : Act) (r : Answer) → printed_count (entry a r ∷ h) ≡ printed_count h + 1
unfolding printed_count
printed-on h a r = refl

-- a world that did one act more: it goes on, and its history has the act's entry more, and before it those of a settle's acts
pub record IsOn (old new : WorldSeen) (acts : List Act) (a : Act) (r : Answer) : Type 0 where
  pub goes : IsRunning old.deployment new (acts ++ a ∷ [])
  pub next : history old.deployment (acts ++ a ∷ []) ≡ entry a r ∷ with_inner old.deployment (history old.deployment acts) a

pub on : (old new : WorldSeen) (acts : List Act) (a : Act) (r : Answer) → IsActOf old.deployment a → Does old a r new → IsRunning old.deployment old acts → IsOn old new acts a r
on old new acts a r range does now =
    let d = old.deployment in
    let h = history d acts in
    let done : HasDone d h a r new = does h now.run now.stands in
    let next : history d (acts ++ a ∷ []) ≡ entry a r ∷ with_inner d h a = history-next d a acts ∙ ap (λ (r : Answer). entry a r ∷ with_inner d h a) (sym done.answer) in
    record {
      goes = record { run = rw (history-next d a acts) (act-is d h a now.run (in-range d a range)); stands = rw next done.stands };
      next = next;
    }

-- a line with its number
pub line_of : (d : Deployed) (number : Option ℕ) (n : ℕ) (a : Act) (r : Answer) → number ≡ Some n → framed number (answer_text d a r) ≡ answer_line d n a r
unfolding answer_line
line_of d number n a r is = ap (λ (k : Option ℕ). framed k (answer_text d a r)) is ∙ as_line n (answer_text d a r)

-- a clause of a call that is handed on as it is
pub when_ok : {T E P Q : Type 0} (x : Result T E) → OnOk x P → (P → Q) → OnOk x Q
when_ok (Ok t) p gives = gives p
when_ok (Err e) p gives = tt

-- with the line of its answer
pub answers_more : (old new : WorldSeen) (text more : List ℕ) (number : ℕ) (acts : List Act) (a : Act) (r : Answer) → IsActOf old.deployment a → Does old a r new
    → more ≡ text ++ answer_line old.deployment number a r → number ≡ length acts + 1
    → IsAnswering old.deployment old text acts → IsAnswering old.deployment new more (acts ++ a ∷ [])
answers_more old new text more number acts a r range does written counted now =
    let d = old.deployment in
    let h = history d acts in
    let one = on old new acts a r range does now.running in
    let same : answers d (with_inner d h a) ≡ answers d h = kept d (answers d) (λ k b e. answers-in d k b) h a now.running.run in
    let count : printed_count (with_inner d h a) ≡ printed_count h = kept d printed_count (λ k b e. printed-in d k b) h a now.running.run in
    record {
      running = one.goes;
      answers = rw one.next (rw (answers-on d (with_inner d h a) a r, same, count, now.count, ← counted, ← now.answers) written);
      count = rw one.next (rw (printed-on (with_inner d h a) a r, count, now.count) (sym (length-append acts (a ∷ []))));
    }

-- the line of an act's answer, once it is written
pub has_line : {T E F : Type 0} (x : Result T F) (done : Result Answer E) (d : Deployed) (old new : WorldSeen) (number : Option ℕ) (text more : List ℕ) (a : Act) → IsActOf old.deployment a → d ≡ old.deployment
    → OnOk x (IsWritten d number a done text more) → IfOk done (λ r. Does old a r new) → OnOk x (HasLine old number a text new more)
has_line x (Err e) d old new number text more a range same written does = when_ok x written (λ never. absurd never)
has_line x (Ok r) d old new number text more a range same written does = when_ok x written (λ wrote. record {
  line = framed number (answer_text old.deployment a r);
  longer_by = wrote ∙ ap (λ (e : Deployed). text ++ framed number (answer_text e a r)) same;
  answers = λ front acts numbered now. answers_more old new front (front ++ framed number (answer_text old.deployment a r)) (length acts + 1) acts a r range does
      (ap (λ (bytes : List ℕ). front ++ bytes) (line_of old.deployment number (length acts + 1) a r numbered)) refl now;
})

-- ---- memory runs out

extends-inner : (d : Deployed) (h : List Entry) (a : Act) → IsRun d h → Extends h (with_inner d h a)
unfolding with_inner
extends-inner d h act.Settle run =
    goes-keep d (λ k. Extends h k) (λ k a run m later old. (inner_entry d k a ∷ old.0, ap (λ (xs : List Entry). inner_entry d k a ∷ xs) old.1)) h _ (settle-after d h run).goes ([], refl)
extends-inner d h a run = ([], refl)

-- whether the act was done or not
on-the-way : {E : Type 0} (done : Result Answer E) (old new : WorldSeen) (a : Act) → IsActOf old.deployment a → IfOk done (λ r. Does old a r new) → OnErr done (StopsIn old a new) → StopsOnTheWay old a new
on-the-way (Ok r) old new a range does err acts now =
    let d = old.deployment in
    let one = on old new acts a r range does now in
    let inner = extends-inner d (history d acts) a now.run in record {
      now = history d (acts ++ a ∷ []);
      stands = one.goes.stands;
      run = one.goes.run;
      from = (entry a r ∷ inner.0, one.next ∙ ap (λ (xs : List Entry). entry a r ∷ xs) inner.1);
      to = ([], refl);
    }
on-the-way (Err e) old new a range does err acts now =
    let d = old.deployment in
    let h = history d acts in
    let r = answer_of d h a in
    let at : StopsBefore d h (with_inner d h a) new = err.front h now.run now.stands in record {
      now = at.now;
      stands = at.stands;
      run = at.run;
      from = at.from;
      to = (entry a r ∷ at.to.0, history-next d a acts ∙ ap (λ (xs : List Entry). entry a r ∷ xs) at.to.1);
    }

pub on_err : {T E : Type 0} (x : Result T E) (P : Type 0) → P → OnErr x P
on_err (Ok t) P p = tt
on_err (Err e) P p = p

pub stops_on : {T E F : Type 0} (x : Result T F) (done : Result Answer E) (old new : WorldSeen) (a : Act) → IsActOf old.deployment a → IfOk done (λ r. Does old a r new) → OnErr done (StopsIn old a new) → OnErr x (StopsOnTheWay old a new)
stops_on x done old new a range does err = on_err x (StopsOnTheWay old a new) (on-the-way done old new a range does err)

-- ---- before the first act

pub runs-none : (d : Deployed) (w : WorldSeen) → StandsFor w [] → IsRunning d w []
unfolding history run IsRun
runs-none d w stands = record { run = tt; stands = stands }

pub answers_none : (d : Deployed) (w : WorldSeen) (text : List ℕ) → StandsFor w [] → text ≡ [] → IsAnswering d w text []
unfolding history run answers printed_count
answers_none d w text stands empty = record { running = runs-none d w stands; answers = empty; count = refl }

-- ---- several acts more

pub lines_start : (w : WorldSeen) (before : ℕ) (text : List ℕ) → HasLines w before [] text w text
lines_start w before text = record {
  lines = [];
  longer_by = sym (append-nil text);
  answers = λ front done counted now. subst (λ (bytes : List ℕ). IsAnswering w.deployment w bytes (done ++ [])) (sym (append-nil front)) (subst (λ (acts : List Act). IsAnswering w.deployment w front acts) (sym (append-nil done)) now);
}

-- one of them
pub lines_next : (old mid new : WorldSeen) (text longer more : List ℕ) (before place : ℕ) (number : Option ℕ) (acts all : List Act) (a : Act) → mid.deployment ≡ old.deployment → length acts ≡ place → all ≡ acts ++ a ∷ []
    → number ≡ Some ((before + place) + 1) → HasLines old before acts text mid longer → HasLine mid number a longer new more → HasLines old before all text new more
lines_next old mid new text longer more before place number acts all a same long is numbered had one = record {
  lines = had.lines ++ one.line;
  longer_by = one.longer_by ∙ ap (λ (bytes : List ℕ). bytes ++ one.line) had.longer_by ∙ append_assoc text had.lines one.line;
  answers = λ front done counted now.
      let count : (before + place) + 1 ≡ length (done ++ acts) + 1 = omega (arith, long, counted, length-append done acts) in
      let here : IsAnswering mid.deployment mid (front ++ had.lines) (done ++ acts) = subst (λ (x : Deployed). IsAnswering x mid (front ++ had.lines) (done ++ acts)) (sym same) (had.answers front done counted now) in
      let then : IsAnswering old.deployment new ((front ++ had.lines) ++ one.line) ((done ++ acts) ++ a ∷ []) =
      subst (λ (x : Deployed). IsAnswering x new ((front ++ had.lines) ++ one.line) ((done ++ acts) ++ a ∷ [])) same (one.answers (front ++ had.lines) (done ++ acts) (numbered ∙ ap (λ (n : ℕ). Some n) count) here) in
      subst (λ (bytes : List ℕ). IsAnswering old.deployment new bytes (done ++ all)) (append_assoc front had.lines one.line)
      (subst (λ (xs : List Act). IsAnswering old.deployment new ((front ++ had.lines) ++ one.line) xs) (append_assoc done acts (a ∷ []) ∙ ap (λ (xs : List Act). done ++ xs) (sym is)) then);
}

-- the same behind any front of the text
pub behind_text : (old new : WorldSeen) (before : ℕ) (acts : List Act) (text longer front : List ℕ) (done : List Act) → HasLines old before acts text new longer → before ≡ length done → IsAnswering old.deployment old (front ++ text) done
    → IsAnswering old.deployment new (front ++ longer) (done ++ acts)
behind_text old new before acts text longer front done had counted now =
    subst (λ (bytes : List ℕ). IsAnswering old.deployment new bytes (done ++ acts)) (append_assoc front text had.lines ∙ ap (λ (bytes : List ℕ). front ++ bytes) (sym had.longer_by)) (had.answers (front ++ text) done counted now)

-- memory runs out in the next one
pub lines_stop : (old mid new : WorldSeen) (text longer more : List ℕ) (before place : ℕ) (all : List Act) (a : Act) → mid.deployment ≡ old.deployment → place < length all → get_or all place a ≡ a
    → HasLines old before (take place all) text mid longer → more ≡ longer → StopsOnTheWay mid a new → HasSomeLines old before all text new more
lines_stop old mid new text longer more before place all a same inside here had kept stops =
    let acts = take place all in record {
      first = acts;
      next = a;
      rest = drop (place + 1) all;
      all = sym (take-append-drop place all) ∙ ap (λ (xs : List Act). acts ++ xs) (drop_more all place a inside ∙ ap (λ (x : Act). x ∷ drop (place + 1) all) here);
      lines = had.lines;
      longer_by = kept ∙ had.longer_by;
      stops = λ front done counted now.
          let at : IsAnswering old.deployment mid (front ++ had.lines) (done ++ acts) = had.answers front done counted now in record {
            run = at.running.run;
            answers = at.answers;
            count = at.count;
            stands = subst (λ (x : Deployed). StopsBefore x (history x (done ++ acts)) (history x ((done ++ acts) ++ a ∷ [])) new) same (stops (done ++ acts) (subst (λ (x : Deployed). IsRunning x mid (done ++ acts)) (sym same) at.running));
          };
    }

-- the lines of acts more stand behind those of the acts before
line_next : (d : Deployed) (acts : List Act) (a : Act) → IsRun d (history d acts) → (line : List ℕ) × (answers d (history d (acts ++ a ∷ [])) ≡ answers d (history d acts) ++ line)
line_next d acts a run =
    let h = history d acts in
    let r = answer_of d h a in
    let line = answer_line d (printed_count (with_inner d h a) + 1) a r in
    let same : answers d (with_inner d h a) ≡ answers d h = kept d (answers d) (λ k b e. answers-in d k b) h a run in
    (line, ap (answers d) (history-next d a acts) ∙ answers-on d (with_inner d h a) a r ∙ ap (λ bytes. bytes ++ line) same)

pub answers_front : (d : Deployed) (done rest : List Act) → ((xs ys : List Act) → done ++ rest ≡ xs ++ ys → IsRun d (history d xs)) → (tail : List ℕ) × (answers d (history d (done ++ rest)) ≡ answers d (history d done) ++ tail)
answers_front d done [] runs = ([], ap (λ xs. answers d (history d xs)) (append-nil done) ∙ sym (append-nil (answers d (history d done))))
answers_front d done (a ∷ rest) runs =
    let e : (done ++ a ∷ []) ++ rest ≡ done ++ a ∷ rest = append_assoc done (a ∷ []) rest in
    let next = answers_front d (done ++ a ∷ []) rest (λ xs ys is. runs xs ys (sym e ∙ is)) in
    let one = line_next d done a (runs done (a ∷ rest) refl) in
    (one.0 ++ next.0, ap (λ xs. answers d (history d xs)) (sym e) ∙ next.1 ∙ ap (λ bytes. bytes ++ next.0) one.1 ∙ append_assoc (answers d (history d done)) one.0 next.0)

-- without the first of the acts that are left
pub rest_all : (P : Act → Type 0) (xs : List Act) (n : ℕ) (d : Act) → n < length xs → AllByRecursion P (drop n xs) → AllByRecursion P (drop (n + 1) xs)
rest_all P xs n d inside a = (subst (AllByRecursion P) (drop_more xs n d inside) a).1
