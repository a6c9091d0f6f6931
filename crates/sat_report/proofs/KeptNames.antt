-- The names of the items that a site keeps, with a comma before each, and with none before the first.
use Rattle.std.proofs.Common.{◌≡◌, ℕ, ◌+◌, ◌<◌, ◌≤◌, Bool, true, false, cond, List, [], ◌∷◌, ◌++◌, length, drop, refl, sym, ap, ◌∙◌, arith, length-append}
use Rattle.std.specs.Prelude.{filter, map, if◌then◌else◌}
use Rattle.std.specs.List.{join_with_byte}
use Rattle.std.proofs.lemmas.List.{append_assoc, drop-drop, length-drop}
use Rattle.sat_act.specs.Deployed.{Deployed}
use Rattle.sat_report.specs.Texts.{item_name, is_kept, kept_names}
use Rattle.sat_report.specs.Frames.{next_name, next_names}

-- names separated by commas, and a comma before the first, if there is one, before a text
abbrev before : List (List ℕ) → List ℕ → List ℕ
before [] text = text
before (n ∷ ns) text = 44 ∷ (join_with_byte 44 (n ∷ ns) ++ text)

one_more : (n : List ℕ) (ns : List (List ℕ)) (text : List ℕ) → 44 ∷ (n ++ before ns text) ≡ before (n ∷ ns) text
one_more n [] text = refl
one_more n (m ∷ ns) text = ap (λ rest. 44 ∷ rest) (sym (append_assoc n (44 ∷ join_with_byte 44 (m ∷ ns)) text))

if_kept : (d : Deployed) (b : Bool) (x : ℕ) (xs : List ℕ) (text : List ℕ) → (if b then 44 ∷ item_name d x else []) ++ before (map (item_name d) xs) text ≡ before (map (item_name d) (cond b (x ∷ xs) xs)) text
if_kept d true x xs text = one_more (item_name d x) (map (item_name d) xs) text
if_kept d false x xs text = refl

as_names : (d : Deployed) (j : ℕ) (xs : List ℕ) (text : List ℕ) → next_names d j xs text ≡ before (map (item_name d) (filter (is_kept d j) xs)) text
as_names d j [] text = refl
as_names d j (x ∷ xs) text = ap (λ rest. next_name d j x ++ rest) (as_names d j xs text) ∙ if_kept d (is_kept d j x) x (filter (is_kept d j) xs) text

-- how much was written, by where it starts
long : (ns : List (List ℕ)) (text old : List ℕ) (at end : ℕ) → length text ≡ length old → end ≤ length old → at ≤ end → drop at text ≡ before ns (drop end old) → at + length (before ns []) ≡ end
long ns text old at end same inside start written = go ns written where
  go : (ns : List (List ℕ)) → drop at text ≡ before ns (drop end old) → at + length (before ns []) ≡ end
  go [] is = omega (arith, ap length is, length-drop at text, length-drop end old, same, inside, start)
  go (n ∷ ns) is =
      let name = join_with_byte 44 (n ∷ ns) in
      omega (arith, ap length is, length-drop at text, length-drop end old, length-append name (drop end old), length-append name [], same, inside, start)

-- what was written is a comma and then the names, or nothing
pub some_kept : (d : Deployed) (j : ℕ) (xs text old : List ℕ) (at end : ℕ) → length text ≡ length old → end ≤ length old → at < end → drop at text ≡ next_names d j xs (drop end old)
    → drop (at + 1) text ≡ kept_names d j xs ++ drop end old
some_kept d j xs text old at end same inside start written = go (map (item_name d) (filter (is_kept d j) xs)) (written ∙ as_names d j xs (drop end old)) where
  go : (ns : List (List ℕ)) → drop at text ≡ before ns (drop end old) → drop (at + 1) text ≡ join_with_byte 44 ns ++ drop end old
  go [] is = absurd (omega (arith, long [] text old at end same inside (omega (arith, start)) is, start))
  go (n ∷ ns) is = sym (drop-drop 1 at text) ∙ ap (drop 1) is

pub none_kept : (d : Deployed) (j : ℕ) (xs text old : List ℕ) (at end : ℕ) → length text ≡ length old → end ≤ length old → at ≡ end → drop at text ≡ next_names d j xs (drop end old)
    → drop at text ≡ kept_names d j xs ++ drop end old
none_kept d j xs text old at end same inside start written = go (map (item_name d) (filter (is_kept d j) xs)) (written ∙ as_names d j xs (drop end old)) where
  go : (ns : List (List ℕ)) → drop at text ≡ before ns (drop end old) → drop at text ≡ join_with_byte 44 ns ++ drop end old
  go [] is = is
  go (n ∷ ns) is = absurd (omega (arith, long (n ∷ ns) text old at end same inside (omega (arith, start)) is, start))
