-- The pass over the entries: its start, one entry more, and its end.
use Rattle.std.specs.Prelude.{◌≡◌, ◌≢◌, ◌⊎◌, ◌<◌, ◌≤◌, ◌+◌, ◌-◌, ℕ, suc, Bool, true, false, not, List, [], ◌∷◌, ◌++◌, length, reverse, map, get_or, Option, Some, None, refl, ◌==◌, ◌&&◌, ◌||◌, nat_lt, if◌then◌else◌}
use Rattle.std.proofs.Common.{sym, subst, arith, inl, inr, ap, ◌∙◌, length-append}
use Rattle.std.proofs.lemmas.Bool.Decides.{nat_tests}
use Rattle.std.proofs.lemmas.List.{get_or-map, get_or_default, length-reverse, take_all}
use Rattle.std.proofs.Math.ListN.{get_or-append}
use Rattle.std.proofs.Math.Seq.{get_or-append_seam}
use Rattle.sat_label.specs.declared.point.Point.{Point}
use Rattle.sat_label.specs.Grouped.{list_of}
use Rattle.sat_label.specs.declared.site_set.SiteSet.{SiteSet}
use Rattle.sat_verdict.specs.declared.tale.Tale.{Tale}
use Rattle.sat_verdict.specs.declared.tale.Tale.TheVariants.{Wrote, Moved, ReadNone, ReadSome, Shown, Other}
use Rattle.sat_label.specs.Words.{bit}
use Rattle.sat_label.specs.Order.{point_eq}
use Rattle.sat_verdict.specs.Entries.{makes}
use Rattle.sat_verdict.specs.Causes.{Maker}
use Rattle.sat_verdict.specs.Counts.{known}
use Rattle.sat_verdict.specs.Goals.{no_sites, Stands}
use Rattle.sat_verdict.specs.Verdicts.{IsCausalVerdict, IsOnceVerdict}
use Rattle.sat_verdict.specs.Found.{any_kept, kept_now, is_kept, shown_now, has_shown, made_number, lower, within_now, least_within, is_lacking, lack_at, lack_by, lack_now, first, first_lack, again_at, again_now, first_again}
use Rattle.sat_verdict.specs.Tables.{number_or, number_in, told, IsUnique, HasClients, AreRows, scan, table_lacks, AreUnshown}
use Rattle.sat_verdict.specs.Passes.{kept_of, site_of, HasSites, AreKeptTo, table_causal, table_once}
use Rattle.sat_verdict.proofs.Counted.{some_is, same_point, point_same, yes-makes}
use Rattle.sat_verdict.proofs.Histories.{told-next, told-length, told-all, made-number-bound, made-splits, unmade-parts, unmade-none, StandsAt, stands-told}
use Rattle.sat_verdict.proofs.Scanned.{lacks-found}
use Rattle.sat_verdict.proofs.Found.{found-causal, found-once}

-- ---- Bool

or_none : (a : Bool) → (a || false) ≡ a
or_none true = refl
or_none false = refl

or_some : (a : Bool) → (a || true) ≡ true
or_some true = refl
or_some false = refl

and_true : (a : Bool) → (a && true) ≡ a
and_true true = refl
and_true false = refl

and_false : (a : Bool) → (a && false) ≡ false
and_false true = refl
and_false false = refl

not_and : (a b : Bool) → not (a && not b) ≡ (b || not a)
not_and true true = refl
not_and true false = refl
not_and false true = refl
not_and false false = refl

less_more : (a b c : Bool) → ((a && not b) && not c) ≡ (a && not (b || c))
less_more true true c = refl
less_more true false c = refl
less_more false b c = refl

else_is : {X : Type 0} (t : Bool) (x y : X) → t ≡ false → (if t then x else y) ≡ y
else_is true x y e = absurd (cc)
else_is false x y e = refl

not_zero : (n : ℕ) → 0 < n → (n == 0) ≡ false
not_zero n l = grind (arith, nat_tests)

same_numbers : (j k : ℕ) → (j == k) ≡ (k == j)
same_numbers j k = grind (arith, nat_tests)

-- ---- what a site replicates

now_apart : (sets : List SiteSet) (k : ℕ) (p : Point) (e : Tale) → makes e p ≡ false → kept_now sets k p e ≡ false
now_apart sets k p (Wrote c xs b) m = ap (λ (t : Bool). t && any_kept sets k (list_of xs)) m
now_apart sets k p (Moved c b) m = refl
now_apart sets k p (ReadNone c x) m = refl
now_apart sets k p (ReadSome c x q) m = refl
now_apart sets k p (Shown j q) m = refl
now_apart sets k p Other m = refl

now_here : (sets : List SiteSet) (k : ℕ) (p : Point) (e : Tale) → makes e p ≡ true → kept_now sets k p e ≡ kept_of sets k e
now_here sets k p (Wrote c xs b) m = ap (λ (t : Bool). t && any_kept sets k (list_of xs)) m
now_here sets k p (Moved c b) m = refl
now_here sets k p (ReadNone c x) m = refl
now_here sets k p (ReadSome c x q) m = refl
now_here sets k p (Shown j q) m = refl
now_here sets k p Other m = refl

pub unmade-kept : (sets : List SiteSet) (h : List Tale) (k : ℕ) (p : Point) → made_number h p ≡ None → is_kept sets h k p ≡ false
unfolding is_kept
unmade-kept sets [] k p m = refl
unmade-kept sets (e ∷ h) k p m =
    let w : (made_number h p ≡ None) × (makes e p ≡ false) = unmade-parts e h p m in
    ap (λ (t : Bool). t || kept_now sets k p e) (unmade-kept sets h k p w.0) ∙ now_apart sets k p e w.1

record KeptAs (sets : List SiteSet) (h : List Tale) (k : ℕ) (p : Point) (n : ℕ) : Type 0 where
  pub entry : Tale
  pub before : List Tale
  pub stands : Stands h entry before
  pub number : n ≡ suc (length before)
  pub kept : is_kept sets h k p ≡ kept_of sets k entry

not_again : (e : Tale) (h : List Tale) (p : Point) (n : ℕ) → IsUnique (e ∷ h) → made_number h p ≡ Some n → makes e p ≡ false
unfolding IsUnique
not_again e h p n u m = go (makes e p) refl
  where
    go : (b : Bool) → makes e p ≡ b → makes e p ≡ false
    go false t = t
    go true t = absurd (let x : Some n ≡ None = sym m ∙ u.1 p (yes-makes e p t) in cc)

older_unique : (e : Tale) (h : List Tale) → IsUnique (e ∷ h) → IsUnique h
unfolding IsUnique
older_unique e h u = u.0

kept-as : (sets : List SiteSet) (h : List Tale) (k : ℕ) (p : Point) (n : ℕ) → IsUnique h → made_number h p ≡ Some n → KeptAs sets h k p n
unfolding is_kept Stands made_number
kept-as sets [] k p n u m = absurd (cc)
kept-as sets (e ∷ h) k p n u m =
    elim (made-splits e h p n m) [
      | inl x ↦
          (let w : KeptAs sets h k p n = kept-as sets h k p n (older_unique e h u) x in
          record { entry = w.entry; before = w.before; stands = inl w.stands; number = w.number; kept = ap (λ (t : Bool). is_kept sets h k p || t) (now_apart sets k p e (not_again e h p n u x)) ∙ (or_none (is_kept sets h k p) ∙ w.kept) })
      | inr x ↦ record { entry = e; before = h; stands = inr (refl, refl); number = x.2; kept = ap (λ (t : Bool). t || kept_now sets k p e) (unmade-kept sets h k p x.0) ∙ now_here sets k p e x.1 }
    ]

-- the pass begins with what the sites keep
pub unshown-start : (sets : List SiteSet) (xs : List Tale) (kept : List SiteSet) → IsUnique (reverse xs) → AreKeptTo sets xs kept (length xs) → AreUnshown sets (reverse xs) (told xs 0) kept
unfolding has_shown
unshown-start sets xs kept u are p n k m =
    let all : reverse xs ≡ told xs (length xs) = sym (told-all xs) in
    let w : KeptAs sets (reverse xs) k p n = kept-as sets (reverse xs) k p n u m in
    let s : StandsAt xs (length xs) w.entry w.before = stands-told xs (length xs) w.entry w.before (omega arith) (subst (λ (h : List Tale). Stands h w.entry w.before) all w.stands) in
    let q : n - 1 ≡ length w.before = let z : n ≡ suc (length w.before) = w.number in omega arith in
    ap (λ (j : ℕ). bit (get_or kept j no_sites).bits k) q ∙
    (are (length w.before) k s.below ∙
    (ap (λ (e : Tale). kept_of sets k e) (sym s.entry) ∙
    (sym w.kept ∙ sym (and_true (is_kept sets (reverse xs) k p)))))

pub kept-next : (sets : List SiteSet) (xs : List Tale) (kept kept' : List SiteSet) (e : Tale) (i : ℕ) (v : SiteSet) → i < length xs → e ≡ get_or xs i e → length kept ≡ i → AreKeptTo sets xs kept i →
    ((k : ℕ) → bit v.bits k ≡ kept_of sets k e) → kept' ≡ kept ++ v ∷ [] → (length kept' ≡ i + 1) × AreKeptTo sets xs kept' (i + 1)
kept-next sets xs kept kept' e i v l is size are new pushed = (
  ap (λ (ys : List SiteSet). length ys) pushed ∙ (length-append kept (v ∷ []) ∙ ap (λ (n : ℕ). n + 1) size),
  λ j k low. ap (λ (ys : List SiteSet). bit (get_or ys j no_sites).bits k) pushed ∙ go j k (cases j i low),
)
  where
    cases : (j i : ℕ) → j < i + 1 → (j < i) ⊎ (j ≡ i)
    cases j i l = grind arith

    go : (j k : ℕ) → (j < i) ⊎ (j ≡ i) → bit (get_or (kept ++ v ∷ []) j no_sites).bits k ≡ kept_of sets k (get_or xs j Other)
    go j k (inl a) = ap (λ (s : SiteSet). bit s.bits k) (get_or-append kept (v ∷ []) no_sites j (subst (λ (n : ℕ). j < n) (sym size) a)) ∙ are j k a
    go j k (inr a) =
        ap (λ (n : ℕ). bit (get_or (kept ++ v ∷ []) n no_sites).bits k) (a ∙ sym size) ∙ (ap (λ (s : SiteSet). bit s.bits k) (get_or-append_seam kept v [] no_sites) ∙
        (new k ∙ ap (λ (x : Tale). kept_of sets k x) (is ∙ (get_or_default xs i e Other l ∙ ap (λ (n : ℕ). get_or xs n Other) (sym a)))))

-- ---- an entry that shows a point

lower_none : (o : Option ℕ) → o ≡ None → lower o None ≡ None
lower_none None e = refl
lower_none (Some m) e = e

none_within : (test : Point → Bool) (maker : Point → Option ℕ) (n : ℕ) (e : Tale) → within_now test maker (λ d. 0) n e ≡ None
none_within test maker n (Wrote c xs b) = go (nat_lt n 0) (zeroes n)
  where
    zeroes : (n : ℕ) → nat_lt n 0 ≡ false
    zeroes n = grind (arith, nat_tests)

    go : (t : Bool) → t ≡ false → (if t && test b then maker b else None) ≡ None
    go true f = absurd (cc)
    go false f = refl
none_within test maker n (ReadSome c x b) = go (nat_lt n 0) (zeroes n)
  where
    zeroes : (n : ℕ) → nat_lt n 0 ≡ false
    zeroes n = grind (arith, nat_tests)

    go : (t : Bool) → t ≡ false → (if t && test b then maker b else None) ≡ None
    go true f = absurd (cc)
    go false f = refl
none_within test maker n (Moved c b) = refl
none_within test maker n (ReadNone c x) = refl
none_within test maker n (Shown k b) = refl
none_within test maker n Other = refl

least-none : (test : Point → Bool) (maker : Point → Option ℕ) (h : List Tale) → least_within test maker (λ d. 0) h ≡ None
unfolding least_within
least-none test maker [] = refl
least-none test maker (e ∷ h) =
    ap (λ (o : Option ℕ). lower (least_within test maker (λ d. 0) h) o) (none_within test maker (length h) e) ∙ lower_none (least_within test maker (λ d. 0) h) (least-none test maker h)

lack-none : (sets : List SiteSet) (whole before : List Tale) (k : ℕ) (b : Point) → ((d : ℕ) → known whole (Maker b) d ≡ 0) → lack_at sets whole before k b ≡ None
lack-none sets whole before k b none =
    ap (λ (count : ℕ → ℕ). least_within (is_lacking sets whole before k) (made_number whole) count whole) (λ i d. none d i) ∙ least-none (is_lacking sets whole before k) (made_number whole) whole

one-less : (n : ℕ) → 0 < n → n ≡ n - 1 + 1
one-less n l = omega arith

module _ (sets : List SiteSet) (xs : List Tale) (rows : List (List ℕ)) (unshown : List SiteSet) (numbers : List ℕ) (clients i : ℕ) (unique : IsUnique (reverse xs)) (below : HasClients clients xs)
    (numbers_are : numbers ≡ map (number_in (reverse xs)) xs) (are : AreRows xs clients rows) (l : i < length xs) (shut : AreUnshown sets (reverse xs) (told xs i) unshown) where
  causal-at : (k : ℕ) (b : Point) (o : Option ℕ) → made_number (reverse xs) b ≡ o → ((d : ℕ) → made_number (reverse xs) b ≡ None → known (reverse xs) (Maker b) d ≡ 0) →
      table_causal xs numbers rows unshown i (number_or o) (Some k) ≡ lack_by (suc (length (told xs i))) k (lack_at sets (reverse xs) (told xs i) k b)
  causal-at k b None m none = sym (ap (λ (o : Option ℕ). lack_by (suc (length (told xs i))) k o) (lack-none sets (reverse xs) (told xs i) k b (λ d. none d m)))
  causal-at k b (Some n) m none =
      let low : 0 < n = (made-number-bound (reverse xs) b n m).0 in
      let len : i + 1 ≡ suc (length (told xs i)) = let e : length (told xs i) ≡ i = told-length xs i (omega arith) in omega arith in
      else_is (n == 0) None (lack_by (i + 1) k (scan (table_lacks rows unshown numbers xs (n - 1) k) (length xs))) (not_zero n low) ∙
      (ap (λ (j : ℕ). lack_by j k (scan (table_lacks rows unshown numbers xs (n - 1) k) (length xs))) len ∙
      ap (λ (o : Option ℕ). lack_by (suc (length (told xs i))) k o)
      (lacks-found sets xs (told xs i) rows unshown numbers clients (n - 1) k b unique below numbers_are are shut (m ∙ ap Some (one-less n low))))

  once-at : (k : ℕ) (b : Point) (o : Option ℕ) → made_number (reverse xs) b ≡ o →
      table_once unshown i (number_or o) (Some k) ≡ again_at sets (reverse xs) (told xs i) k b
  once-at k b o m =
      ap (λ (j : ℕ). if number_or o == 0 || not (bit (get_or unshown (number_or o - 1) no_sites).bits k) then Some j else None) len ∙
      ap (λ (t : Bool). if t then Some (suc (length (told xs i))) else None) (go o m)
    where
      len : i + 1 ≡ suc (length (told xs i))
      len = let e : length (told xs i) ≡ i = told-length xs i (omega arith) in omega arith

      go : (o : Option ℕ) → made_number (reverse xs) b ≡ o → (number_or o == 0 || not (bit (get_or unshown (number_or o - 1) no_sites).bits k)) ≡ (has_shown (told xs i) k b || not (is_kept sets (reverse xs) k b))
      go None n = sym (ap (λ (t : Bool). has_shown (told xs i) k b || not t) (unmade-kept sets (reverse xs) k b n) ∙ or_some (has_shown (told xs i) k b))
      go (Some n) e =
          let low : 0 < n = (made-number-bound (reverse xs) b n e).0 in
          ap (λ (t : Bool). t || not (bit (get_or unshown (n - 1) no_sites).bits k)) (not_zero n low) ∙
          (ap (λ (t : Bool). not t) (shut b n k e) ∙ not_and (is_kept sets (reverse xs) k b) (has_shown (told xs i) k b))

  showing : (e : Tale) (number : ℕ) → number ≡ number_in (reverse xs) e → ((b : Point) (d : ℕ) → made_number (reverse xs) b ≡ None → known (reverse xs) (Maker b) d ≡ 0) →
      (table_causal xs numbers rows unshown i number (site_of e) ≡ lack_now sets (reverse xs) (told xs i) e) × (table_once unshown i number (site_of e) ≡ again_now sets (reverse xs) (told xs i) e)
  showing (Wrote c ys b) number is none = (
    ap (λ (n : ℕ). table_causal xs numbers rows unshown i n (Some b.site)) is ∙ causal-at b.site b (made_number (reverse xs) b) refl (λ d m. none b d m),
    ap (λ (n : ℕ). table_once unshown i n (Some b.site)) is ∙ once-at b.site b (made_number (reverse xs) b) refl,
  )
  showing (Shown k b) number is none = (
    ap (λ (n : ℕ). table_causal xs numbers rows unshown i n (Some k)) is ∙ causal-at k b (made_number (reverse xs) b) refl (λ d m. none b d m),
    ap (λ (n : ℕ). table_once unshown i n (Some k)) is ∙ once-at k b (made_number (reverse xs) b) refl,
  )
  showing (Moved c b) number is none = (refl, refl)
  showing (ReadNone c x) number is none = (refl, refl)
  showing (ReadSome c x p) number is none = (refl, refl)
  showing Other number is none = (refl, refl)

-- ---- what is not shown yet, after one entry more

-- one entry makes one point
pub one-point : (h : List Tale) (p q : Point) (n : ℕ) → made_number h p ≡ Some n → made_number h q ≡ Some n → p ≡ q
unfolding made_number
one-point [] p q n a b = absurd (cc)
one-point (e ∷ h) p q n a b = go (made-splits e h p n a) (made-splits e h q n b) (λ x y. one-point h p q n x y)
  where
    go : (made_number h p ≡ Some n) ⊎ ((made_number h p ≡ None) × (makes e p ≡ true) × (n ≡ suc (length h))) → (made_number h q ≡ Some n) ⊎ ((made_number h q ≡ None) × (makes e q ≡ true) × (n ≡ suc (length h))) →
        (made_number h p ≡ Some n → made_number h q ≡ Some n → p ≡ q) → p ≡ q
    go (inl x) (inl y) rec = rec x y
    go (inl x) (inr y) rec = absurd (let b : n ≤ length h = (made-number-bound h p n x).1 in let z : n ≡ suc (length h) = y.2 in omega arith)
    go (inr x) (inl y) rec = absurd (let b : n ≤ length h = (made-number-bound h q n y).1 in let z : n ≡ suc (length h) = x.2 in omega arith)
    go (inr x) (inr y) rec = some_is p q (sym (yes-makes e p x.1) ∙ yes-makes e q y.1)

-- what `show` does to the table
pub record ShowsIn (site : Option ℕ) (number : ℕ) (old new : List SiteSet) : Type 0 where
  pub size : length new ≡ length old
  pub still : site ≡ None → new ≡ old
  pub unmade : number ≡ 0 → new ≡ old
  pub apart : (j : ℕ) → j ≢ number - 1 → get_or new j no_sites ≡ get_or old j no_sites
  pub here : (k j : ℕ) → site ≡ Some k → k < 64 → 0 < number → number ≤ length old → bit (get_or new (number - 1) no_sites).bits j ≡ (bit (get_or old (number - 1) no_sites).bits j && not (j == k))

differ : (n m : ℕ) → 0 < n → 0 < m → n ≢ m → n - 1 ≢ m - 1
differ n m a b e = λ f. e (omega arith)

shown-next : (sets : List SiteSet) (whole before : List Tale) (e : Tale) (k : ℕ) (b : Point) (old new : List SiteSet) →
    ((j : ℕ) (p : Point) → shown_now e j p ≡ ((k == j) && point_eq b p)) → site_of e ≡ Some k → k < 64 → length old ≡ length whole →
    ShowsIn (site_of e) (number_or (made_number whole b)) old new → AreUnshown sets whole before old → AreUnshown sets whole (e ∷ before) new
unfolding has_shown
shown-next sets whole before e k b old new tells site few size shows are p n j m = go (point_eq b p) refl
  where
    low : 0 < n
    low = (made-number-bound whole p n m).0

    high : n ≤ length whole
    high = (made-number-bound whole p n m).1

    go : (t : Bool) → point_eq b p ≡ t → bit (get_or new (n - 1) no_sites).bits j ≡ (is_kept sets whole j p && not (has_shown before j p || shown_now e j p))
    go true t =
        let same : b ≡ p = same_point b p t in
        let number : number_or (made_number whole b) ≡ n = ap (λ (q : Point). number_or (made_number whole q)) same ∙ ap (λ (o : Option ℕ). number_or o) m in
        let s : ShowsIn (site_of e) n old new = subst (λ (x : ℕ). ShowsIn (site_of e) x old new) number shows in
        s.here k j site few low (subst (λ (x : ℕ). n ≤ x) (sym size) high) ∙
        (ap (λ (u : Bool). u && not (j == k)) (are p n j m) ∙
        (less_more (is_kept sets whole j p) (has_shown before j p) (j == k) ∙
        ap (λ (u : Bool). is_kept sets whole j p && not (has_shown before j p || u)) (same_numbers j k ∙ (sym (and_true (k == j)) ∙ (ap (λ (u : Bool). (k == j) && u) (sym t) ∙ sym (tells j p))))))
    go false t =
        unchanged (made_number whole b) refl ∙ (are p n j m ∙
        ap (λ (u : Bool). is_kept sets whole j p && not u) (sym (or_none (has_shown before j p)) ∙
        ap (λ (u : Bool). has_shown before j p || u) (sym (and_false (k == j)) ∙ (ap (λ (u : Bool). (k == j) && u) (sym t) ∙ sym (tells j p)))))
      where
        unchanged : (o : Option ℕ) → made_number whole b ≡ o → bit (get_or new (n - 1) no_sites).bits j ≡ bit (get_or old (n - 1) no_sites).bits j
        unchanged None f = ap (λ (ys : List SiteSet). bit (get_or ys (n - 1) no_sites).bits j) (shows.unmade (ap (λ (o : Option ℕ). number_or o) f))
        unchanged (Some q) f =
            let s : ShowsIn (site_of e) q old new = subst (λ (x : ℕ). ShowsIn (site_of e) x old new) (ap (λ (o : Option ℕ). number_or o) f) shows in
            ap (λ (x : SiteSet). bit x.bits j) (s.apart (n - 1) (differ n q low (made-number-bound whole b q f).0 (λ z. let y : point_eq b p ≡ true = point_same b p (one-point whole b p q f (m ∙ ap Some z)) in let x : false ≡ true = sym t ∙ y in cc)))

quiet-next : (sets : List SiteSet) (whole before : List Tale) (e : Tale) (number : ℕ) (old new : List SiteSet) → ((j : ℕ) (p : Point) → shown_now e j p ≡ false) → site_of e ≡ None →
    ShowsIn (site_of e) number old new → AreUnshown sets whole before old → AreUnshown sets whole (e ∷ before) new
unfolding has_shown
quiet-next sets whole before e number old new tells site shows are p n j m =
    ap (λ (ys : List SiteSet). bit (get_or ys (n - 1) no_sites).bits j) (shows.still site) ∙ (are p n j m ∙
    ap (λ (u : Bool). is_kept sets whole j p && not u) (sym (or_none (has_shown before j p)) ∙ ap (λ (u : Bool). has_shown before j p || u) (sym (tells j p))))

pub unshown-next : (sets : List SiteSet) (whole before : List Tale) (e : Tale) (old new : List SiteSet) → ((k : ℕ) → site_of e ≡ Some k → k < 64) → length old ≡ length whole →
    ShowsIn (site_of e) (number_in whole e) old new → AreUnshown sets whole before old → AreUnshown sets whole (e ∷ before) new
unshown-next sets whole before (Wrote c xs b) old new few size shows are =
    shown-next sets whole before (Wrote c xs b) b.site b old new (λ j p. refl) refl (few b.site refl) size shows are
unshown-next sets whole before (Shown k b) old new few size shows are =
    shown-next sets whole before (Shown k b) k b old new (λ j p. refl) refl (few k refl) size shows are
unshown-next sets whole before (Moved c b) old new few size shows are = quiet-next sets whole before (Moved c b) (number_in whole (Moved c b)) old new (λ j p. refl) refl shows are
unshown-next sets whole before (ReadNone c x) old new few size shows are = quiet-next sets whole before (ReadNone c x) (number_in whole (ReadNone c x)) old new (λ j p. refl) refl shows are
unshown-next sets whole before (ReadSome c x b) old new few size shows are = quiet-next sets whole before (ReadSome c x b) (number_in whole (ReadSome c x b)) old new (λ j p. refl) refl shows are
unshown-next sets whole before Other old new few size shows are = quiet-next sets whole before Other 0 old new (λ j p. refl) refl shows are

-- ---- the pass

first-next : (sets : List SiteSet) (whole before : List Tale) (e : Tale) →
    (first_lack sets whole (e ∷ before) ≡ first (first_lack sets whole before) (lack_now sets whole before e)) × (first_again sets whole (e ∷ before) ≡ first (first_again sets whole before) (again_now sets whole before e))
unfolding first_lack first_again
first-next sets whole before e = (refl, refl)

pub pass-start : (sets : List SiteSet) (xs : List Tale) (kept : List SiteSet) → IsUnique (reverse xs) → length kept ≡ length xs → AreKeptTo sets xs kept (length xs) →
    (None ≡ first_lack sets (reverse xs) (told xs 0)) × (None ≡ first_again sets (reverse xs) (told xs 0)) × (length kept ≡ length xs) × AreUnshown sets (reverse xs) (told xs 0) kept
unfolding first_lack first_again
pass-start sets xs kept u size are = (refl, refl, size, unshown-start sets xs kept u are)

pub pass-next : (sets : List SiteSet) (xs : List Tale) (rows : List (List ℕ)) (numbers : List ℕ) (clients i : ℕ) (e : Tale) (old seen seen' new : List SiteSet) →
    (causal causal' : Option (ℕ × ℕ × ℕ)) (once once' : Option ℕ) (site : Option ℕ) (number : ℕ) →
    IsUnique (reverse xs) → HasClients clients xs → numbers ≡ map (number_in (reverse xs)) xs → AreRows xs clients rows → HasSites xs → i < length xs → e ≡ get_or xs i e → site ≡ site_of e → number ≡ get_or numbers i 0 →
    (causal ≡ first_lack sets (reverse xs) (told xs i)) × (once ≡ first_again sets (reverse xs) (told xs i)) × (length old ≡ length xs) × AreUnshown sets (reverse xs) (told xs i) old →
    seen ≡ old → causal' ≡ first causal (table_causal xs numbers rows seen i number site) → seen' ≡ old → once' ≡ first once (table_once seen' i number site) →
    length new ≡ length old → (site ≡ None → new ≡ old) → (number ≡ 0 → new ≡ old) → ((j : ℕ) → j ≢ number - 1 → get_or new j no_sites ≡ get_or old j no_sites) →
    ((k j : ℕ) → site ≡ Some k → k < 64 → 0 < number → number ≤ length old → bit (get_or new (number - 1) no_sites).bits j ≡ (bit (get_or old (number - 1) no_sites).bits j && not (j == k))) →
    (causal' ≡ first_lack sets (reverse xs) (told xs (i + 1))) × (once' ≡ first_again sets (reverse xs) (told xs (i + 1))) × (length new ≡ length xs) × AreUnshown sets (reverse xs) (told xs (i + 1)) new
pass-next sets xs rows numbers clients i e old seen seen' new causal causal' once once' site number unique below numbers_are are sites l is site_is number_is inv seen_is causal_is seen_is' once_is size still unmade apart here = (
  causal_is ∙ (ap (λ (ys : List SiteSet). first causal (table_causal xs numbers rows ys i number site)) seen_is ∙
      (ap (λ (o : Option ℕ). first causal (table_causal xs numbers rows old i number o)) site_is ∙
      (ap (λ (o : Option (ℕ × ℕ × ℕ)). first causal o) found.0 ∙
      (ap (λ (o : Option (ℕ × ℕ × ℕ)). first o (lack_now sets (reverse xs) (told xs i) e)) inv.0 ∙
      (sym (first-next sets (reverse xs) (told xs i) e).0 ∙ ap (λ (h : List Tale). first_lack sets (reverse xs) h) (sym step)))))),
  once_is ∙ (ap (λ (ys : List SiteSet). first once (table_once ys i number site)) seen_is' ∙
      (ap (λ (o : Option ℕ). first once (table_once old i number o)) site_is ∙
      (ap (λ (o : Option ℕ). first once o) found.1 ∙
      (ap (λ (o : Option ℕ). first o (again_now sets (reverse xs) (told xs i) e)) inv.1 ∙
      (sym (first-next sets (reverse xs) (told xs i) e).1 ∙ ap (λ (h : List Tale). first_again sets (reverse xs) h) (sym step)))))),
  size ∙ inv.2,
  subst (λ (h : List Tale). AreUnshown sets (reverse xs) h new) (sym step) (unshown-next sets (reverse xs) (told xs i) e old new few (inv.2 ∙ sym (length-reverse xs)) shows inv.3),
)
  where
    at : e ≡ get_or xs i Other
    at = is ∙ get_or_default xs i e Other l

    step : told xs (i + 1) ≡ e ∷ told xs i
    step = told-next xs i Other l ∙ ap (λ (x : Tale). x ∷ told xs i) (sym at)

    number_in_is : number ≡ number_in (reverse xs) e
    number_in_is = number_is ∙ (ap (λ (ys : List ℕ). get_or ys i 0) numbers_are ∙ (get_or-map (number_in (reverse xs)) xs i Other 0 l ∙ ap (λ (x : Tale). number_in (reverse xs) x) (sym at)))

    found : (table_causal xs numbers rows old i number (site_of e) ≡ lack_now sets (reverse xs) (told xs i) e) × (table_once old i number (site_of e) ≡ again_now sets (reverse xs) (told xs i) e)
    found = showing sets xs rows old numbers clients i unique below numbers_are are l inv.3 e number number_in_is (λ b d m. unmade-none (reverse xs) b d m)

    few : (k : ℕ) → site_of e ≡ Some k → k < 64
    few k s = sites i k l (ap site_of (sym at) ∙ s)

    shows : ShowsIn (site_of e) (number_in (reverse xs) e) old new
    shows = subst (λ (o : Option ℕ). ShowsIn o (number_in (reverse xs) e) old new) site_is
        (subst (λ (n : ℕ). ShowsIn site n old new) number_in_is (record { size = size; still = still; unmade = unmade; apart = apart; here = here }))

at_end : (xs : List Tale) (i : ℕ) → length xs ≤ i → told xs i ≡ reverse xs
at_end xs i l = ap (λ (ys : List Tale). reverse ys) (take_all i xs l)

pub end-causal : (sets : List SiteSet) (xs : List Tale) (i : ℕ) (causal : Option (ℕ × ℕ × ℕ)) → length xs ≤ i → causal ≡ first_lack sets (reverse xs) (told xs i) → IsCausalVerdict sets (reverse xs) causal
end-causal sets xs i causal l is =
    subst (λ (o : Option (ℕ × ℕ × ℕ)). IsCausalVerdict sets (reverse xs) o) (sym (is ∙ ap (λ (h : List Tale). first_lack sets (reverse xs) h) (at_end xs i l))) (found-causal sets (reverse xs))

pub end-once : (sets : List SiteSet) (xs : List Tale) (i : ℕ) (once : Option ℕ) → length xs ≤ i → once ≡ first_again sets (reverse xs) (told xs i) → IsOnceVerdict sets (reverse xs) once
end-once sets xs i once l is =
    subst (λ (o : Option ℕ). IsOnceVerdict sets (reverse xs) o) (sym (is ∙ ap (λ (h : List Tale). first_again sets (reverse xs) h) (at_end xs i l))) (found-once sets (reverse xs))
