-- What is told fits the act.
use Rattle.std.proofs.Common.{◌≡◌, ℕ, ◌<◌, ◌≤◌, Bool, true, false, cond, ◌&&◌, List, [], ◌∷◌, Option, Some, None, subst, sym, ap, refl, arith, codes, bytes_eq, option_map, ltb, leb}
use Rattle.std.specs.List.{slice_split}
use Rattle.std.proofs.lemmas.Bool.{and_parts, leb-true, ltb-true}
use Rattle.sat_label.specs.Text.{is_value}
use Rattle.sat_label.specs.declared.limits.TheConstants.{TS_END}
use Rattle.sat_label.specs.declared.point.Point.{Point}
use Rattle.sat_act.specs.Deployed.{Deployed}
use Rattle.sat_act.specs.declared.act.Act.{Act}
use Rattle.sat_script.specs.Words.{is_number, number_below, number_up_to, parts_of, value_of}
use Rattle.sat_script.proofs.Acts.{mapped}
use Rattle.sat_script.proofs.Choices.{tested}
use Rattle.sat_audit.specs.Histories.{IsPointOf, Tells}
use Rattle.sat_audit.specs.Told.{answered, are_written, begins, is_dot, is_move, is_read, is_show, is_some_text, is_write, only_if, point_in, point_of, point_with, pointed, read_words, shown_words, told_in}
use Rattle.sat_audit.specs.declared.told.Told.{Told}
use Rattle.sat_audit.specs.declared.told.Told.TheVariants as told

up_to_fits : (limit n : ℕ) (word : List ℕ) → number_up_to limit word ≡ Some n → n ≤ limit
unfolding number_up_to
up_to_fits limit n word h =
    let t = tested (is_number word && leb (value_of word) limit) (value_of word) n h in
    let b = and_parts (is_number word) (leb (value_of word) limit) t.0 in
    let few = leb-true (value_of word) limit b.1 in
    omega (arith, few, t.1)

below_fits : (limit n : ℕ) (word : List ℕ) → number_below limit word ≡ Some n → n < limit
unfolding number_below
below_fits limit n word h =
    let t = tested (is_number word && ltb (value_of word) limit) (value_of word) n h in
    let b = and_parts (is_number word) (ltb (value_of word) limit) t.0 in
    let few = ltb-true (value_of word) limit b.1 in
    omega (arith, few, t.1)

some-same : {X : Type 0} (x y : X) → Some x ≡ Some y → x ≡ y
some-same x y e = cc

parts-of : (a b c : Option ℕ) (p : Point) → point_with a b c ≡ Some p → (a ≡ Some p.ts) × (b ≡ Some p.site) × (c ≡ Some p.gear)
parts-of (Some a) (Some b) (Some c) p h =
    let e = some-same _ p h in
    (ap (λ (q : Point). Some q.ts) e, ap (λ (q : Point). Some q.site) e, ap (λ (q : Point). Some q.gear) e)
parts-of None b c p h = absurd (cc)
parts-of (Some a) None c p h = absurd (cc)
parts-of (Some a) (Some b) None p h = absurd (cc)

point-fits : (d : Deployed) (ts site gear : List ℕ) (p : Point) → point_with (number_up_to TS_END ts) (number_below d.sites site) (number_below d.gears gear) ≡ Some p → IsPointOf d p
point-fits d ts site gear p h =
    let e = parts-of (number_up_to TS_END ts) (number_below d.sites site) (number_below d.gears gear) p h in
    record { ts = up_to_fits TS_END p.ts ts e.0; site = below_fits d.sites p.site site e.1; gear = below_fits d.gears p.gear gear e.2 }

pub point_fits : (d : Deployed) (words : List (List ℕ)) (p : Point) → point_of d words ≡ Some p → IsPointOf d p
unfolding point_of
point_fits d (ts ∷ site ∷ gear ∷ []) p h = point-fits d ts site gear p h
point_fits d [] p h = absurd (cc)
point_fits d (a ∷ []) p h = absurd (cc)
point_fits d (a ∷ b ∷ []) p h = absurd (cc)
point_fits d (a ∷ b ∷ c ∷ e ∷ ws) p h = absurd (cc)

chosen : {X : Type 0} (b : Bool) (o : Option X) (x : X) → cond b o None ≡ Some x → (b ≡ true) × (o ≡ Some x)
chosen true o x h = (refl, h)
chosen false o x h = absurd (cc)

pointed-fits : (d : Deployed) (keyword : List ℕ) (words : List (List ℕ)) (p : Point) → pointed d keyword words ≡ Some p → IsPointOf d p
unfolding pointed
pointed-fits d keyword (word ∷ point ∷ []) p h = point_fits d (slice_split is_dot point) p (chosen (bytes_eq word keyword) (point_in d point) p h).1
pointed-fits d keyword [] p h = absurd (cc)
pointed-fits d keyword (a ∷ []) p h = absurd (cc)
pointed-fits d keyword (a ∷ b ∷ c ∷ ws) p h = absurd (cc)

only : (b : Bool) (o : Option Told) (x : Told) → only_if b o ≡ Some x → (b ≡ true) × (o ≡ Some x)
only true o x h = (refl, h)
only false o x h = absurd (cc)

wrote-tells : (d : Deployed) (a : Act) (words : List (List ℕ)) (x : Told) → is_write a ≡ true → option_map told.Wrote (pointed d (codes "wrote") words) ≡ Some x → Tells d a x
wrote-tells d a words x is h =
    let m = mapped told.Wrote (pointed d (codes "wrote") words) x h in
    subst (λ (x : Told). Tells d a x) (sym m.2) (is, pointed-fits d (codes "wrote") words m.0 m.1)

moved-tells : (d : Deployed) (a : Act) (words : List (List ℕ)) (x : Told) → is_move a ≡ true → option_map told.Moved (pointed d (codes "moved") words) ≡ Some x → Tells d a x
moved-tells d a words x is h =
    let m = mapped told.Moved (pointed d (codes "moved") words) x h in
    subst (λ (x : Told). Tells d a x) (sym m.2) (is, pointed-fits d (codes "moved") words m.0 m.1)

read-tells : (d : Deployed) (a : Act) (words : List (List ℕ)) (x : Told) → is_read a ≡ true → read_words d words ≡ Some x → Tells d a x
unfolding read_words
read-tells d a (word ∷ none ∷ []) x is h =
    subst (λ (x : Told). Tells d a x) (tested (bytes_eq word (codes "read") && bytes_eq none (codes "none")) told.ReadNone x h).1 is
read-tells d a (word ∷ point ∷ value ∷ []) x is h =
    let c = chosen (bytes_eq word (codes "read") && is_value value) (option_map told.ReadSome (point_in d point)) x h in
    let m = mapped told.ReadSome (point_in d point) x c.1 in
    subst (λ (x : Told). Tells d a x) (sym m.2) (is, point_fits d (slice_split is_dot point) m.0 m.1)
read-tells d a [] x is h = absurd (cc)
read-tells d a (w ∷ []) x is h = absurd (cc)
read-tells d a (w ∷ v ∷ u ∷ t ∷ ws) x is h = absurd (cc)

shown-tells : (d : Deployed) (a : Act) (words : List (List ℕ)) (x : Told) → is_show a ≡ true → shown_words d words ≡ Some x → Tells d a x
unfolding shown_words
shown-tells d a (word ∷ names ∷ point ∷ []) x is h =
    let c = chosen (bytes_eq word (codes "shown") && are_written d (parts_of names)) (option_map told.Shown (point_in d point)) x h in
    let m = mapped told.Shown (point_in d point) x c.1 in
    subst (λ (x : Told). Tells d a x) (sym m.2) (is, point_fits d (slice_split is_dot point) m.0 m.1)
shown-tells d a [] x is h = absurd (cc)
shown-tells d a (w ∷ []) x is h = absurd (cc)
shown-tells d a (w ∷ v ∷ []) x is h = absurd (cc)
shown-tells d a (w ∷ v ∷ u ∷ t ∷ ws) x is h = absurd (cc)

pub told_tells : (d : Deployed) (a : Act) (words : List (List ℕ)) (x : Told) → told_in d a words ≡ Some x → Tells d a x
unfolding told_in
told_tells d a words x h =
    first (begins (codes "wrote") words) (begins (codes "read") words) (begins (codes "moved") words) (begins (codes "shown") words) h
  where
    first : (b c e f : Bool)
        → cond b (only_if (is_write a) (option_map told.Wrote (pointed d (codes "wrote") words)))
        (cond c (only_if (is_read a) (read_words d words)) (cond e (only_if (is_move a) (option_map told.Moved (pointed d (codes "moved") words))) (cond f (only_if (is_show a) (shown_words d words)) (Some told.Other))))
        ≡ Some x → Tells d a x
    first true c e f h = let o = only (is_write a) (option_map told.Wrote (pointed d (codes "wrote") words)) x h in wrote-tells d a words x o.0 o.1
    first false true e f h = let o = only (is_read a) (read_words d words) x h in read-tells d a words x o.0 o.1
    first false false true f h = let o = only (is_move a) (option_map told.Moved (pointed d (codes "moved") words)) x h in moved-tells d a words x o.0 o.1
    first false false false true h = let o = only (is_show a) (shown_words d words) x h in shown-tells d a words x o.0 o.1
    first false false false false h = subst (λ (x : Told). Tells d a x) (some-same told.Other x h) tt

pub answer_tells : (d : Deployed) (a : Act) (words : List (List ℕ)) (x : Told) → answered d a words ≡ Some x → Tells d a x
unfolding answered
answer_tells d a [] x h = absurd (cc)
answer_tells d a (arrow ∷ words) x h = told_tells d a words x (chosen (bytes_eq arrow (codes "->") && is_some_text words) (told_in d a words) x h).1
