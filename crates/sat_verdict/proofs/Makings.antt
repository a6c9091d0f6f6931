-- The map from points to the entries that made them, one entry after another.
use Rattle.std.specs.Prelude.{◌≡◌, ◌<◌, ◌+◌, ℕ, suc, Bool, true, false, List, [], ◌∷◌, length, reverse, drop, get_or, Option, Some, None, refl, if◌then◌else◌}
use Rattle.std.specs.BTreeMap.{BTreeMap, get, is_at}
use Rattle.std.specs.Map.{lookup}
use Rattle.std.proofs.Common.{sym, subst, arith, ap, ◌∙◌}
use Rattle.std.proofs.lemmas.List.{get_or_default}
use Rattle.sat_label.specs.declared.point.Point.{Point}
use Rattle.sat_verdict.specs.declared.tale.Tale.{Tale}
use Rattle.sat_verdict.specs.declared.tale.Tale.TheVariants.{Other}
use Rattle.sat_verdict.specs.Entries.{makes}
use Rattle.sat_verdict.specs.Found.{made_number}
use Rattle.sat_verdict.specs.Tables.{point_cmp, told, IsUnique}
use Rattle.sat_verdict.proofs.Counted.{yes-makes}
use Rattle.sat_verdict.proofs.Histories.{told-next, told-length, told-split, unique-part}

noted : (o : Option ℕ) (b : Bool) (l : ℕ) → (b ≡ true → o ≡ None) → elim o [ Some m ↦ Some m | None ↦ if b then Some l else None ] ≡ (if b then Some l else o)
noted (Some m) true l f = absurd (let e : Some m ≡ None = f refl in cc)
noted (Some m) false l f = refl
noted None true l f = refl
noted None false l f = refl

made-next : (e : Tale) (h : List Tale) (p : Point) → IsUnique (e ∷ h) → made_number (e ∷ h) p ≡ (if makes e p then Some (suc (length h)) else made_number h p)
unfolding made_number IsUnique
made-next e h p u = noted (made_number h p) (makes e p) (suc (length h)) (λ t. u.1 p (yes-makes e p t))

pub makers-start : (m : BTreeMap Point ℕ) → m.entries ≡ [] → (p : Point) → get point_cmp m p ≡ made_number [] p
unfolding made_number
makers-start m e p = ap (λ (es : List (Point × ℕ)). lookup (is_at (point_cmp p)) es) e

pub makers-next : (xs : List Tale) (i : ℕ) (e : Tale) (number : ℕ) (old new : Point → Option ℕ) → i < length xs → e ≡ get_or xs i e → IsUnique (reverse xs) → number ≡ i + 1 →
    ((p : Point) → old p ≡ made_number (told xs i) p) → ((p : Point) → new p ≡ (if makes e p then Some number else old p)) → (p : Point) → new p ≡ made_number (told xs (i + 1)) p
makers-next xs i e number old new l is u at before noted p =
    noted p ∙ (ap (λ (o : Option ℕ). if makes e p then Some number else o) (before p) ∙
    (ap (λ (n : ℕ). if makes e p then Some n else made_number (told xs i) p) same ∙
    (sym (made-next e (told xs i) p unique) ∙ ap (λ (h : List Tale). made_number h p) (sym step))))
  where
    step : told xs (i + 1) ≡ e ∷ told xs i
    step = told-next xs i Other l ∙ ap (λ (x : Tale). x ∷ told xs i) (sym (is ∙ get_or_default xs i e Other l))

    same : number ≡ suc (length (told xs i))
    same = let len : length (told xs i) ≡ i = told-length xs i (omega arith) in omega arith

    unique : IsUnique (e ∷ told xs i)
    unique = subst (λ (h : List Tale). IsUnique h) step (unique-part (reverse (drop (i + 1) xs)) (told xs (i + 1)) (subst (λ (h : List Tale). IsUnique h) (told-split xs (i + 1)) u))
