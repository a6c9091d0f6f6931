-- A scan over the tables finds what is to be found.
use Rattle.std.specs.Prelude.{◌≡◌, ◌<◌, ◌≤◌, ◌+◌, ◌-◌, ℕ, zero, suc, Bool, true, false, List, [], ◌∷◌, length, reverse, map, get_or, Option, Some, None, refl, ◌==◌, ◌&&◌, nat_lt, if◌then◌else◌}
use Rattle.std.proofs.Common.{sym, subst, arith, ap, ◌∙◌}
use Rattle.std.proofs.lemmas.Bool.Decides.{nat_tests}
use Rattle.std.proofs.lemmas.List.{get_or-map, get_or_default}
use Rattle.sat_label.specs.declared.point.Point.{Point}
use Rattle.sat_label.specs.declared.site_set.SiteSet.{SiteSet}
use Rattle.sat_verdict.specs.declared.tale.Tale.{Tale}
use Rattle.sat_verdict.specs.declared.tale.Tale.TheVariants.{Wrote, Moved, ReadNone, ReadSome, Shown, Other}
use Rattle.sat_label.specs.Words.{bit}
use Rattle.sat_verdict.specs.Entries.{client_of}
use Rattle.sat_verdict.specs.Causes.{Maker}
use Rattle.sat_verdict.specs.Counts.{known}
use Rattle.sat_verdict.specs.Goals.{no_sites}
use Rattle.sat_verdict.specs.Found.{made_number, lower, within_now, least_within, is_lacking, lack_at}
use Rattle.sat_verdict.specs.Tables.{number_or, number_in, told, column, IsUnique, HasClients, AreRows, option_of, table_lack_by, table_lack, scan, table_lacks, AreUnshown}
use Rattle.sat_verdict.proofs.Histories.{told-next, told-length, told-all, made-number-bound}
use Rattle.sat_verdict.proofs.Columns.{column-at, made-value}

pub scan-next : (f : ℕ → Option ℕ) (n : ℕ) → scan f (n + 1) ≡ lower (scan f n) (f n)
unfolding scan
scan-next f n = ap (λ (k : ℕ). scan f k) (let e : n + 1 ≡ suc n = omega arith in e)

-- the numbers that a whole history has for the points of its entries
some_option : (t : Bool) (n : ℕ) → t ≡ false → (if t then None else Some n) ≡ Some n
some_option true n e = absurd (cc)
some_option false n e = refl

not_nought : (n : ℕ) → (suc n == 0) ≡ false
not_nought n = grind (arith, nat_tests)

pub option-of : (o : Option ℕ) → ((n : ℕ) → o ≡ Some n → 0 < n) → option_of (number_or o) ≡ o
option-of None low = refl
option-of (Some zero) low = absurd (let l : 0 < 0 = low 0 refl in omega arith)
option-of (Some (suc n)) low = some_option (suc n == 0) (suc n) (not_nought n)

pub same-pick : (s t : Bool) (o : Option ℕ) → ((n : ℕ) → o ≡ Some n → s ≡ t) → (if s then o else None) ≡ (if t then o else None)
same-pick s t (Some n) e = ap (λ (b : Bool). if b then Some n else None) (e n refl)
same-pick true true None e = refl
same-pick true false None e = refl
same-pick false true None e = refl
same-pick false false None e = refl

-- one entry that wrote or read a point
lack-by : (sets : List SiteSet) (whole before : List Tale) (rows : List (List ℕ)) (unshown : List SiteSet) (made k place c : ℕ) (b p : Point) →
    get_or (get_or rows made []) c 0 ≡ known whole (Maker b) c → AreUnshown sets whole before unshown →
    table_lack_by rows unshown made k place (number_or (made_number whole p)) c ≡ (if nat_lt place (known whole (Maker b) c) && is_lacking sets whole before k p then made_number whole p else None)
lack-by sets whole before rows unshown made k place c b p column shut =
    ap (λ (o : Option ℕ). if nat_lt place (get_or (get_or rows made []) c 0) && bit (get_or unshown (number_or (made_number whole p) - 1) no_sites).bits k then o else None)
    (option-of (made_number whole p) (λ n e. (made-number-bound whole p n e).0)) ∙
    same-pick (nat_lt place (get_or (get_or rows made []) c 0) && bit (get_or unshown (number_or (made_number whole p) - 1) no_sites).bits k)
    (nat_lt place (known whole (Maker b) c) && is_lacking sets whole before k p) (made_number whole p)
    (λ n e.
    ap (λ (m : ℕ). nat_lt place m && bit (get_or unshown (number_or (made_number whole p) - 1) no_sites).bits k) column ∙
    (ap (λ (o : Option ℕ). nat_lt place (known whole (Maker b) c) && bit (get_or unshown (number_or o - 1) no_sites).bits k) e ∙
    ap (λ (t : Bool). nat_lt place (known whole (Maker b) c) && t) (shut p n k e)))

lack-in : (sets : List SiteSet) (whole before : List Tale) (rows : List (List ℕ)) (unshown : List SiteSet) (made k place : ℕ) (b : Point) (e : Tale) →
    ((c : ℕ) → client_of e ≡ Some c → get_or (get_or rows made []) c 0 ≡ known whole (Maker b) c) → AreUnshown sets whole before unshown →
    table_lack rows unshown made k place (number_in whole e) e ≡ within_now (is_lacking sets whole before k) (made_number whole) (known whole (Maker b)) place e
lack-in sets whole before rows unshown made k place b (Wrote c xs p) column shut = lack-by sets whole before rows unshown made k place c b p (column c refl) shut
lack-in sets whole before rows unshown made k place b (ReadSome c x p) column shut = lack-by sets whole before rows unshown made k place c b p (column c refl) shut
lack-in sets whole before rows unshown made k place b (Moved c p) column shut = refl
lack-in sets whole before rows unshown made k place b (ReadNone c x) column shut = refl
lack-in sets whole before rows unshown made k place b (Shown j p) column shut = refl
lack-in sets whole before rows unshown made k place b Other column shut = refl

-- a scan of the first n entries
pub scan-within : (xs : List Tale) (f : ℕ → Option ℕ) (test : Point → Bool) (maker : Point → Option ℕ) (count : ℕ → ℕ) (n : ℕ) → n ≤ length xs →
    ((j : ℕ) → j < n → f j ≡ within_now test maker count j (get_or xs j Other)) → scan f n ≡ least_within test maker count (told xs n)
unfolding scan least_within
scan-within xs f test maker count zero l each = refl
scan-within xs f test maker count (suc n) l each =
    let lt : n < length xs = omega arith in
    let one : suc n ≡ n + 1 = omega arith in
    let len : length (told xs n) ≡ n = told-length xs n (omega arith) in
    let step : told xs (suc n) ≡ get_or xs n Other ∷ told xs n = ap (λ (m : ℕ). told xs m) one ∙ told-next xs n Other lt in
    let rest : scan f n ≡ least_within test maker count (told xs n) = scan-within xs f test maker count n (omega arith) (λ j low. each j (omega arith)) in
    let here : f n ≡ within_now test maker count (length (told xs n)) (get_or xs n Other) =
    each n (omega arith) ∙ ap (λ (m : ℕ). within_now test maker count m (get_or xs n Other)) (sym len) in
    ap (λ (o : Option ℕ). lower o (f n)) rest ∙
    (ap (λ (o : Option ℕ). lower (least_within test maker count (told xs n)) o) here ∙
    sym (ap (λ (h : List Tale). least_within test maker count h) step))

-- what the code finds is what is to be found
pub lacks-found : (sets : List SiteSet) (xs before : List Tale) (rows : List (List ℕ)) (unshown : List SiteSet) (numbers : List ℕ) (clients made k : ℕ) (b : Point) →
    IsUnique (reverse xs) → HasClients clients xs → numbers ≡ map (number_in (reverse xs)) xs → AreRows xs clients rows → AreUnshown sets (reverse xs) before unshown →
    made_number (reverse xs) b ≡ Some (made + 1) →
    scan (table_lacks rows unshown numbers xs made k) (length xs) ≡ lack_at sets (reverse xs) before k b
lacks-found sets xs before rows unshown numbers clients made k b unique below numbers_are are shut m =
    scan-within xs (table_lacks rows unshown numbers xs made k) (is_lacking sets (reverse xs) before k) (made_number (reverse xs)) (known (reverse xs) (Maker b)) (length xs) (omega arith) each ∙
    ap (λ (h : List Tale). least_within (is_lacking sets (reverse xs) before k) (made_number (reverse xs)) (known (reverse xs) (Maker b)) h) (told-all xs)
  where
    less : (made + 1) - 1 ≡ made
    less = omega arith

    counts : (c : ℕ) → c < clients → get_or (get_or rows made []) c 0 ≡ known (reverse xs) (Maker b) c
    counts c low =
        let all : reverse xs ≡ told xs (length xs) = sym (told-all xs) in
        sym (column-at rows c made) ∙
        (ap (λ (n : ℕ). get_or (column rows c) n 0) (sym less) ∙
        (made-value xs c (length xs) (column rows c) b (made + 1) (omega arith) (subst (λ (h : List Tale). IsUnique h) all unique) (are.1 c low)
        (subst (λ (h : List Tale). made_number h b ≡ Some (made + 1)) all m) ∙
        ap (λ (h : List Tale). known h (Maker b) c) (told-all xs)))

    each : (j : ℕ) → j < length xs → table_lacks rows unshown numbers xs made k j ≡ within_now (is_lacking sets (reverse xs) before k) (made_number (reverse xs)) (known (reverse xs) (Maker b)) j (get_or xs j Other)
    each j low =
        let number : get_or numbers j 0 ≡ number_in (reverse xs) (get_or xs j Other) =
        ap (λ (ys : List ℕ). get_or ys j 0) numbers_are ∙ get_or-map (number_in (reverse xs)) xs j Other 0 low in
        ap (λ (n : ℕ). table_lack rows unshown made k j n (get_or xs j Other)) number ∙
        lack-in sets (reverse xs) before rows unshown made k j b (get_or xs j Other) (λ c o. counts c (below j c low o)) shut

pub scan-step : (f : ℕ → Option ℕ) (n : ℕ) (old found new : Option ℕ) → old ≡ scan f n → found ≡ f n → new ≡ lower old found → new ≡ scan f (n + 1)
scan-step f n old found new a b e = e ∙ (ap (λ (o : Option ℕ). lower o found) a ∙ (ap (λ (o : Option ℕ). lower (scan f n) o) b ∙ sym (scan-next f n)))

pub lack-item : (rows : List (List ℕ)) (unshown : List SiteSet) (numbers : List ℕ) (xs : List Tale) (made k n : ℕ) (e : Tale) (found : Option ℕ) → n < length xs → e ≡ get_or xs n e →
    found ≡ table_lack rows unshown made k n (get_or numbers n 0) e → found ≡ table_lacks rows unshown numbers xs made k n
lack-item rows unshown numbers xs made k n e found l is f =
    f ∙ ap (λ (x : Tale). table_lack rows unshown made k n (get_or numbers n 0) x) (is ∙ get_or_default xs n e Other l)
