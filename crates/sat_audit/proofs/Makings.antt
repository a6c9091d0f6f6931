-- The points that were made, as a set and in the list.
use Rattle.std.proofs.Common.{◌≡◌, Bool, true, false, ◌||◌, cond, List, [], ◌∷◌, ◌++◌, Option, Some, None, sym, ap, ◌∙◌, refl, arith}
use Rattle.std.specs.BTreeMap.{is_at}
use Rattle.std.specs.BTreeSet.{BTreeSet, contains, Updates}
use Rattle.std.proofs.lemmas.Bool.Decides.{nat_tests}
use Rattle.std.proofs.lemmas.List.Folds.{list_any-append}
use Rattle.sat_label.specs.Order.{point_eq}
use Rattle.sat_label.specs.declared.point.Point.{Point}
use Rattle.sat_audit.specs.Lines.{makes, was_made}
use Rattle.sat_audit.specs.Noted.{point_cmp, tells_made, HasMade, HasMore}
use Rattle.sat_audit.specs.Told.{made_in}
use Rattle.sat_audit.specs.declared.heard.Heard.{Heard}
use Rattle.sat_audit.specs.declared.told.Told.{Told}

at-equal : (p q : Point) → is_at (point_cmp p) q ≡ point_eq p q
at-equal p q = grind (arith, nat_tests)

or-last : (a b : Bool) → cond b true a ≡ (a || b)
or-last true true = refl
or-last true false = refl
or-last false true = refl
or-last false false = refl

or-none : (a : Bool) → a ≡ (a || false)
or-none true = refl
or-none false = refl

or-one : (a b : Bool) → (a || (b || false)) ≡ (a || b)
or-one true b = refl
or-one false true = refl
or-one false false = refl

told_as : (t : Told) (o : Option Point) (q : Point) → made_in t ≡ o → tells_made t q ≡ elim o [ None ↦ false | Some made ↦ point_eq made q ]
told_as t o q is = ap (λ (o : Option Point). elim o [ None ↦ false | Some made ↦ point_eq made q ]) is

pub more_some : (old new : BTreeSet Point) (t : Told) (p : Point) → made_in t ≡ Some p → Updates point_cmp old new p true → HasMore old new t
more_some old new t p is more = λ q.
    more.0 q ∙ ap (λ (b : Bool). cond b true (contains point_cmp old q)) (at-equal p q) ∙ or-last (contains point_cmp old q) (point_eq p q)
    ∙ ap (λ (b : Bool). contains point_cmp old q || b) (sym (told_as t (Some p) q is))

pub more_none : (old : BTreeSet Point) (t : Told) → made_in t ≡ None → HasMore old old t
more_none old t is = λ q. or-none (contains point_cmp old q) ∙ ap (λ (b : Bool). contains point_cmp old q || b) (sym (told_as t None q is))

-- one entry more
pub made_with : (old new : BTreeSet Point) (heard later : List Heard) (e : Heard) → HasMade old heard → HasMore old new e.told → later ≡ heard ++ e ∷ [] → HasMade new later
made_with old new heard later e has more is = λ q.
    more q ∙ ap (λ (b : Bool). b || makes e q) (has q) ∙ sym (or-one (was_made heard q) (makes e q)) ∙ sym (list_any-append (λ (e : Heard). makes e q) heard (e ∷ []))
    ∙ ap (λ (es : List Heard). was_made es q) (sym is)
