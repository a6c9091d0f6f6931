-- Worked texts.
use Rattle.std.proofs.Common.{◌≡◌, ℕ, List, [], ◌∷◌, ◌++◌, map, flat_map, Result, Ok, Err, refl, codes}
use Rattle.sat_label.specs.Order.{point_at}
use Rattle.sat_script.specs.Causes.{client_of}
use Rattle.sat_script.specs.Dialect.{allows}
use Rattle.sat_script.specs.Grammar.{close_in}
use Rattle.sat_script.specs.declared.fault.Cause.TheVariants.{BadAct, BadAnswer, SamePoint, NoEnd}
use Rattle.sat_script.specs.declared.fault.ScriptFault.{ScriptFault}
use Rattle.sat_audit.specs.Texts.{history_of}
use Rattle.sat_audit.specs.declared.heard.History.{History}
use Rattle.sat_audit.specs.declared.told.Told.{Told}
use Rattle.sat_audit.specs.declared.told.Told.TheVariants as told

abbrev lines : List (List ℕ) → List ℕ
lines ls = flat_map (λ l. l ++ 10 ∷ []) ls

abbrev one_site : List (List ℕ) → List ℕ
one_site ls = lines (codes "saturn 1" ∷ codes "sites 1" ∷ codes "gears 1" ∷ codes "item x 0" ∷ codes "client a 0" ∷ codes "plan stamp" ∷ codes "begin" ∷ ls)

abbrev told_of : Result History ScriptFault → List Told
told_of (Ok h) = map (λ e. e.told) h.heard
told_of (Err fault) = []

-- what each kind of answer tells
five : told_of (history_of (one_site (codes "write a x -> -> wrote 1.0.0" ∷ codes "read a x -> read 7.0.0 v" ∷ codes "move a 0 -> refused SameSite" ∷ codes "stamp 0 -> shown x 1.0.0" ∷ codes "end" ∷ [])))
    ≡ told.Wrote (point_at 1 0 0) ∷ told.ReadSome (point_at 7 0 0) ∷ told.Other ∷ told.Shown (point_at 1 0 0) ∷ []
unfolding history_of allows client_of close_in
five = refl

-- a version that is missing
none : told_of (history_of (one_site (codes "read a x -> read none" ∷ codes "end" ∷ []))) ≡ told.ReadNone ∷ []
unfolding history_of allows client_of close_in
none = refl

-- a text that begins as an answer and is none
bad : history_of (one_site (codes "write a x 1 -> wrote 1.0.0" ∷ codes "read a x -> read" ∷ codes "end" ∷ [])) ≡ Err (record { line = 9; cause = BadAnswer })
unfolding history_of allows client_of close_in
bad = refl

-- a point that was made before
twice : history_of (one_site (codes "write a x 1 -> wrote 1.0.0" ∷ codes "write a x 2 -> wrote 1.0.0" ∷ codes "end" ∷ [])) ≡ Err (record { line = 9; cause = SamePoint })
unfolding history_of allows client_of close_in
twice = refl

-- no settle
settled : history_of (one_site (codes "settle -> settled 0 0" ∷ codes "end" ∷ [])) ≡ Err (record { line = 8; cause = BadAct })
unfolding history_of allows client_of close_in
settled = refl

-- no end
open_end : history_of (one_site (codes "read a x -> read none" ∷ [])) ≡ Err (record { line = 9; cause = NoEnd })
unfolding history_of allows client_of close_in
open_end = refl
