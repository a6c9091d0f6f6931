-- What an entry tells, by its act and its answer.
use Rattle.std.specs.Prelude.{◌≡◌, ℕ, Bool, true, false, List, [], ◌∷◌, ◌++◌, map, reverse, Some, None, refl}
use Rattle.std.proofs.Common.{sym, ap, ◌∙◌}
use Rattle.std.proofs.lemmas.List.{map-append, reverse-append, reverse-reverse}
use Rattle.sat_label.specs.declared.items.Items.TheVariants.{One}
use Rattle.sat_label.specs.declared.label.Kind.TheVariants as kind
use Rattle.sat_label.specs.declared.label.Label.{Label}
use Rattle.sat_act.specs.declared.act.Act.{Act}
use Rattle.sat_act.specs.declared.act.Act.TheVariants as act
use Rattle.sat_act.specs.declared.answer.Answer.{Answer}
use Rattle.sat_act.specs.declared.answer.Answer.TheVariants as ans
use Rattle.sat_act.specs.declared.entry.Entry.{Entry}
use Rattle.sat_act.specs.Deployed.{Deployed}
use Rattle.sat_act.specs.Done.{made_in, Written, write_in}
use Rattle.sat_verdict.specs.declared.tale.Tale.{Tale}
use Rattle.sat_verdict.specs.declared.tale.Tale.TheVariants as tale
use Rattle.sat_audit.specs.Told.{is_read, is_show}
use Rattle.sat_audit.specs.Judging.{tale_of, tale_with, tales_of}
use Rattle.sat_laws.proofs.Labels.{some_is}
use Rattle.sat_told.specs.Telling.{told_of, heard_of, history_of, FitsAct}

-- what an entry tells, and what a history does, the newest entry first
abbrev pub tale_in : Entry → Tale
tale_in e = tale_with e.act (told_of e.answer)

abbrev pub tales : List Entry → List Tale
tales h = map tale_in h

mapped : (h : List Entry) → map tale_of (map heard_of h) ≡ tales h
mapped [] = refl
mapped (e ∷ h) = ap (λ (ts : List Tale). tale_in e ∷ ts) (mapped h)

map-reverse : {X Y : Type 0} (f : X → Y) (xs : List X) → map f (reverse xs) ≡ reverse (map f xs)
map-reverse f [] = refl
map-reverse {X = X} {Y = Y} f (x ∷ xs) =
    ap (λ (ys : List X). map f ys) (reverse-append (x ∷ []) xs) ∙
    (map-append f (reverse xs) (x ∷ []) ∙ (ap (λ (ys : List Y). ys ++ f x ∷ []) (map-reverse f xs) ∙ sym (reverse-append (f x ∷ []) (map f xs))))

pub told-tales : (d : Deployed) (h : List Entry) → tales_of (history_of d h) ≡ tales h
told-tales d h =
    ap (λ (ts : List Tale). reverse ts) (map-reverse tale_of (map heard_of h)) ∙
    (reverse-reverse (map tale_of (map heard_of h)) ∙ mapped h)

-- an answer that names no label and is no read
abbrev pub is_quiet : Answer → Bool
is_quiet (ans.Wrote l) = false
is_quiet ans.ReadNone = false
is_quiet (ans.ReadSome l v) = false
is_quiet (ans.Moved l) = false
is_quiet (ans.Shown l) = false
is_quiet _ = true

-- an act, its answer, and what both tell
pub data Tells : Act → Answer → Tale → Type 0 where
  wrote : {a : Act} {w : Written} {l : Label} → write_in a ≡ Some w → l.kind ≡ kind.Update w.items → Tells a (ans.Wrote l) (tale.Wrote w.client w.items l.point)
  read_none : {c x : ℕ} → Tells (act.Read c x) ans.ReadNone (tale.ReadNone c x)
  read_some : {c x : ℕ} {l : Label} {v : List ℕ} → Tells (act.Read c x) (ans.ReadSome l v) (tale.ReadSome c x l.point)
  moved : {c j : ℕ} {l : Label} → l.kind ≡ kind.Move j → Tells (act.Move c j) (ans.Moved l) (tale.Moved c l.point)
  turned : {j : ℕ} {l : Label} → Tells (act.Turn j) (ans.Shown l) (tale.Shown j l.point)
  stamped : {j : ℕ} {l : Label} → Tells (act.Stamp j) (ans.Shown l) (tale.Shown j l.point)
  quiet : {a : Act} {r : Answer} → is_quiet r ≡ true → Tells a r tale.Other

never : false ≡ true → ⊥
never e = cc

write-tells : (a : Act) (l : Label) (w : Written) → write_in a ≡ Some w → l.kind ≡ kind.Update w.items → Tells a (ans.Wrote l) (tale_with a (told_of (ans.Wrote l)))
write-tells (act.Write c x v) l w e k =
    wrote {w = record { client = c; items = One x; values = v ∷ [] }} refl (k ∙ ap (λ (y : Written). kind.Update y.items) (sym (some_is _ w e)))
write-tells (act.Writes c items values) l w e k =
    wrote {w = record { client = c; items = items; values = values }} refl (k ∙ ap (λ (y : Written). kind.Update y.items) (sym (some_is _ w e)))
write-tells _ l w e k = absurd (cc)

none-tells : (a : Act) → is_read a ≡ true → Tells a ans.ReadNone (tale_with a (told_of ans.ReadNone))
none-tells (act.Read c x) e = read_none
none-tells _ e = absurd (never e)

some-tells : (a : Act) (l : Label) (v : List ℕ) → is_read a ≡ true → Tells a (ans.ReadSome l v) (tale_with a (told_of (ans.ReadSome l v)))
some-tells (act.Read c x) l v e = read_some
some-tells _ l v e = absurd (never e)

move-tells : (a : Act) (l : Label) (c j : ℕ) → a ≡ act.Move c j → l.kind ≡ kind.Move j → Tells a (ans.Moved l) (tale_with a (told_of (ans.Moved l)))
move-tells (act.Move b i) l c j e k = moved (k ∙ ap (λ (y : ℕ). kind.Move y) (same_site b i c j e))
  where
    same_site : (b i c j : ℕ) → act.Move b i ≡ act.Move c j → j ≡ i
    same_site b i c j e = cc
move-tells _ l c j e k = absurd (cc)

show-tells : (a : Act) (l : Label) → is_show a ≡ true → Tells a (ans.Shown l) (tale_with a (told_of (ans.Shown l)))
show-tells (act.Turn j) l e = turned
show-tells (act.Stamp j) l e = stamped
show-tells _ l e = absurd (never e)

pub tells : (a : Act) (r : Answer) → FitsAct a r → Tells a r (tale_with a (told_of r))
tells a (ans.Wrote l) f = write-tells a l f.0 f.1 f.2
tells a ans.ReadNone f = none-tells a f
tells a (ans.ReadSome l v) f = some-tells a l v f
tells a (ans.Moved l) f = move-tells a l f.0 f.1 f.2 f.3
tells a (ans.Shown l) f = show-tells a l f
tells a _ f = quiet refl

pub quiet-made : (r : Answer) → is_quiet r ≡ true → made_in r ≡ None
quiet-made (ans.Wrote l) e = absurd (never e)
quiet-made ans.ReadNone e = absurd (never e)
quiet-made (ans.ReadSome l v) e = absurd (never e)
quiet-made (ans.Moved l) e = absurd (never e)
quiet-made (ans.Shown l) e = absurd (never e)
quiet-made _ e = refl
