-- The entries of a run under way.
use Rattle.std.proofs.Common.{◌≡◌, ◌<◌, ℕ, suc, ◌+◌, List, [], ◌∷◌, ◌++◌, length, take, get_or, refl, sym, ap, subst, ◌∙◌, arith, min, length-take}
use Rattle.std.specs.Prelude.{reverse, Result, Ok, Err, IfOk}
use Rattle.std.proofs.lemmas.List.{append_assoc, append-nil, length-reverse, reverse-append, take_more}
use Rattle.sat_act.specs.declared.act.Act.{Act}
use Rattle.sat_act.specs.declared.answer.Answer.{Answer}
use Rattle.sat_act.specs.declared.entry.Entry.{Entry}
use Rattle.sat_act.specs.Deployed.{Deployed}
use Rattle.sat_act.specs.Ranges.{IsActOf}
use Rattle.sat_act.specs.Settling.{run, inner_entry, settle, with_inner}
use Rattle.sat_act.specs.declared.act.Act.TheVariants as act
use Rattle.sat_settle.specs.Kept.{kept as kept_entries, Keeps}
use Rattle.sat_draw.specs.declared.moved.Moved.{Moved}
use Rattle.sat_world.specs.Seen.{WorldSeen}
use Rattle.sat_world.specs.Stands.{StandsFor}
use Rattle.sat_top.specs.Drawing.{outer, told_history, numbered, moves_of, told_moves}
use Rattle.sat_runs.specs.Runs.{history}
use Rattle.sat_runs.specs.Running.{entry, Does}
use Rattle.sat_runs.proofs.Running.{kept, on, runs-none}
use Rattle.sat_top.specs.UnderWay.{IsEntering, KeepsIn}

-- a settle's own acts leave nothing
outer-in : (d : Deployed) (k : List Entry) (a : Act) → outer (inner_entry d k a ∷ k) ≡ outer k
unfolding outer
outer-in d k a = refl

outer-on : (h : List Entry) (a : Act) (r : Answer) → outer (entry a r ∷ h) ≡ entry a r ∷ outer h
unfolding outer
outer-on h a r = refl

told-next : (d : Deployed) (acts : List Act) (a : Act) (r : Answer) (k : List Entry) → history d (acts ++ a ∷ []) ≡ entry a r ∷ k → outer k ≡ outer (history d acts) → told_history d (acts ++ a ∷ []) ≡ entry a r ∷ told_history d acts
unfolding told_history
told-next d acts a r k next same = ap outer next ∙ (outer-on k a r ∙ ap (λ (h : List Entry). entry a r ∷ h) same)

-- ---- what settles moved

-- behind the entry of an act nothing is kept
none-kept : (a : Act) (r : Answer) (k : List Entry) → kept_entries (entry a r ∷ k) ≡ []
unfolding kept_entries
none-kept a r k = refl

run-keeps-none : (d : Deployed) (acts : List Act) → kept_entries (run d acts) ≡ []
unfolding run kept_entries
run-keeps-none d [] = refl
run-keeps-none d (a ∷ acts) = refl

history-keeps-none : (d : Deployed) (acts : List Act) → kept_entries (history d acts) ≡ []
unfolding history
history-keeps-none d acts = run-keeps-none d (reverse acts)

history-is : (d : Deployed) (acts : List Act) → history d acts ≡ run d (reverse acts)
unfolding history
history-is d acts = refl

moves-on : (d : Deployed) (a : Act) (acts : List Act) → moves_of d (a ∷ acts) ≡ moves_of d acts ++ numbered (length acts) 0 (kept_entries (with_inner d (run d acts) a))
unfolding moves_of
moves-on d a acts = refl

moves-next : (d : Deployed) (acts : List Act) (a : Act) → told_moves d (acts ++ a ∷ []) ≡ told_moves d acts ++ numbered (length acts) 0 (kept_entries (with_inner d (history d acts) a))
moves-next d acts a =
    ap (moves_of d) (reverse-append acts (a ∷ []))
    ∙ (moves-on d a (reverse acts)
    ∙ (ap (λ (n : ℕ). moves_of d (reverse acts) ++ numbered n 0 (kept_entries (with_inner d (run d (reverse acts)) a))) (length-reverse acts)
    ∙ ap (λ (h : List Entry). moves_of d (reverse acts) ++ numbered (length acts) 0 (kept_entries (with_inner d h a))) (sym (history-is d acts))))

-- one act more
pub enters_more : (old new : WorldSeen) (entries more : List Entry) (moved moves : List Moved) (first ks : List Entry) (row : ℕ) (acts : List Act) (a : Act) (r : Answer) → IsActOf old.deployment a → Does old a r new → more ≡ entries ++ entry a r ∷ []
    → first ≡ [] → KeepsIn old a first ks → moves ≡ moved ++ numbered row 0 ks → row ≡ length acts
    → IsEntering old.deployment old entries moved acts → IsEntering old.deployment new more moves (acts ++ a ∷ [])
enters_more old new entries more moved moves first ks row acts a r range does pushed nothing keeps added at now =
    let d = old.deployment in
    let h = history d acts in
    let one = on old new acts a r range does now.running in
    let same : outer (with_inner d h a) ≡ outer h = kept d outer (λ k b e. outer-in d k b) h a now.running.run in
    let these : ks ≡ kept_entries (with_inner d h a) = keeps h now.running.run now.running.stands (nothing ∙ sym (history-keeps-none d acts)) in
    record {
      running = one.goes;
      entries_are = ap reverse pushed ∙ (reverse-append entries (entry a r ∷ []) ∙ (ap (λ (es : List Entry). entry a r ∷ es) now.entries_are ∙ sym (told-next d acts a r (with_inner d h a) one.next same)));
      moved_are =
          added ∙ (ap (λ (ms : List Moved). ms ++ numbered row 0 ks) now.moved_are
          ∙ (ap (λ (n : ℕ). told_moves d acts ++ numbered n 0 ks) at
          ∙ (ap (λ (es : List Entry). told_moves d acts ++ numbered (length acts) 0 es) these ∙ sym (moves-next d acts a))));
    }

-- before the first act
pub enters-none : (d : Deployed) (w : WorldSeen) → StandsFor w [] → IsEntering d w [] [] []
unfolding told_history outer history run moves_of
enters-none d w stands = record { running = runs-none d w stands; entries_are = refl; moved_are = refl }

few-at : (n : ℕ) (acts : List Act) → n < length acts → n ≡ length (take n acts)
few-at n acts low = sym (length-take n acts ∙ (let e : min n (length acts) ≡ n = omega (arith, low) in e))

-- the next act of a list
pub enter-next : (old new : WorldSeen) (d : Deployed) (acts : List Act) (n row : ℕ) (entries more : List Entry) (moved moves : List Moved) (x : Act) → n < length acts → row ≡ n → x ≡ get_or acts n x → old.deployment ≡ d → IsEntering d old entries moved (take n acts)
    → ((before : List Act) → row ≡ length before → IsEntering old.deployment old entries moved before → IsEntering old.deployment new more moves (before ++ x ∷ [])) → IsEntering d new more moves (take (n + 1) acts)
enter-next old new d acts n row entries more moved moves x low at is e now goes =
    let step : IsEntering d new more moves (take n acts ++ x ∷ []) =
    subst (λ (d : Deployed). IsEntering d new more moves (take n acts ++ x ∷ [])) e (goes (take n acts) (at ∙ few-at n acts low) (subst (λ (d : Deployed). IsEntering d old entries moved (take n acts)) (sym e) now)) in
    let front : take (n + 1) acts ≡ take n acts ++ x ∷ [] = take_more acts n x low ∙ ap (λ (y : Act). take n acts ++ y ∷ []) (sym is) in
    subst (λ (before : List Act). IsEntering d new more moves before) (sym front) step

-- ---- entries with their places

numbered-on : (row place : ℕ) (es : List Entry) (e : Entry) → numbered row place (es ++ e ∷ []) ≡ numbered row place es ++ record { row = row; place = place + length es; entry = e } ∷ []
numbered-on row place [] e = ap (λ (n : ℕ). record { row = row; place = n; entry = e } ∷ []) (let z : place ≡ place + 0 = omega arith in z)
numbered-on row place (x ∷ es) e =
    ap (λ (ms : List Moved). record { row = row; place = place; entry = x } ∷ ms)
    (numbered-on row (place + 1) es e
    ∙ ap (λ (n : ℕ). numbered row (place + 1) es ++ record { row = row; place = n; entry = e } ∷ []) (let z : (place + 1) + length es ≡ place + suc (length es) = omega arith in z))

pub no_moves : (old : List Moved) (row : ℕ) → old ≡ old ++ numbered row 0 []
no_moves old row = sym (append-nil old)

pub more_moves : (old mid new : List Moved) (row n : ℕ) (es : List Entry) (x e : Entry) (place : ℕ) → n < length es → x ≡ get_or es n x → e ≡ x → place ≡ n → new ≡ mid ++ record { row = row; place = place; entry = e } ∷ []
    → mid ≡ old ++ numbered row 0 (take n es) → new ≡ old ++ numbered row 0 (take (n + 1) es)
more_moves old mid new row n es x e place low is copied at added so-far =
    let l : n ≡ length (take n es) = sym (length-take n es ∙ (let e : min n (length es) ≡ n = omega (arith, low) in e)) in
    let z : length (take n es) ≡ 0 + length (take n es) = omega arith in
    let front : take (n + 1) es ≡ take n es ++ x ∷ [] = take_more es n x low ∙ ap (λ (y : Entry). take n es ++ y ∷ []) (sym is) in
    added ∙ (ap (λ (ms : List Moved). ms ++ record { row = row; place = place; entry = e } ∷ []) so-far
    ∙ (append_assoc old (numbered row 0 (take n es)) (record { row = row; place = place; entry = e } ∷ [])
    ∙ ap (λ (ms : List Moved). old ++ ms)
    (ap (λ (y : Entry). numbered row 0 (take n es) ++ record { row = row; place = place; entry = y } ∷ []) copied
    ∙ (ap (λ (m : ℕ). numbered row 0 (take n es) ++ record { row = row; place = m; entry = x } ∷ []) (at ∙ (l ∙ z))
    ∙ (sym (numbered-on row 0 (take n es) x) ∙ ap (numbered row 0) (sym front))))))

-- ---- an act by itself

plain-inner : (d : Deployed) (h : List Entry) (a : Act) → (a ≡ act.Settle → ⊥) → with_inner d h a ≡ h
unfolding with_inner
plain-inner d h act.Settle none = absurd (none refl)
plain-inner d h _ none = refl

pub plain-keeps : (v : WorldSeen) (a : Act) (old new : List Entry) → (a ≡ act.Settle → ⊥) → new ≡ old → KeepsIn v a old new
plain-keeps v a old new none same h run st e = same ∙ (e ∙ ap (λ (k : List Entry). kept_entries k) (sym (plain-inner v.deployment h a none)))

settle-inner : (d : Deployed) (h : List Entry) → with_inner d h act.Settle ≡ (settle d h).1
unfolding with_inner
settle-inner d h = refl

pub settle-keeps : (v : WorldSeen) (a : Act) (old new : List Entry) → a ≡ act.Settle → Keeps v (λ h. (settle v.deployment h).1) old new → KeepsIn v a old new
settle-keeps v a old new is keeps h run st e =
    keeps h run st e ∙ ap (λ (k : List Entry). kept_entries k) (sym (settle-inner v.deployment h) ∙ ap (λ (b : Act). with_inner v.deployment h b) (sym is))

pub when-ok : {X E : Type 0} (r : Result X E) (P : Type 0) → P → IfOk r (λ _. P)
when-ok (Ok x) P p = p
when-ok (Err e) P p = tt

pub if-ok : {X E : Type 0} (r : Result X E) (P Q : Type 0) → (P → Q) → IfOk r (λ _. P) → IfOk r (λ _. Q)
if-ok (Ok x) P Q f p = f p
if-ok (Err e) P Q f p = tt
