-- One entry more, in the tables of what is known of one client.
use Rattle.std.specs.Prelude.{◌≡◌, ◌≢◌, ◌⊎◌, ◌<◌, ◌≤◌, ◌+◌, ◌-◌, ℕ, zero, suc, Bool, true, false, List, [], ◌∷◌, ◌++◌, length, reverse, map, drop, set, get_or, Option, Some, None, refl, ◌==◌, ◌&&◌, nat_lt, nat_le, max, if◌then◌else◌}
use Rattle.std.proofs.Common.{sym, subst, arith, inl, inr, ap, ◌∙◌}
use Rattle.std.proofs.lemmas.Bool.Decides.{nat_tests}
use Rattle.std.proofs.Common.{length-append}
use Rattle.std.proofs.lemmas.List.{get_or-map, get_or_default, get_or-set_same, get_or-set_other, length-map, length-set, map-append}
use Rattle.std.proofs.lemmas.Bool.{cases_eq}
use Rattle.std.proofs.Math.ListN.{get_or-append}
use Rattle.std.proofs.Math.Seq.{get_or-append_seam}
use Rattle.sat_label.specs.declared.point.Point.{Point}
use Rattle.sat_verdict.specs.declared.tale.Tale.{Tale}
use Rattle.sat_verdict.specs.declared.tale.Tale.TheVariants.{Wrote, Moved, ReadNone, ReadSome, Shown, Other}
use Rattle.sat_verdict.specs.Entries.{client_of, is_of}
use Rattle.sat_verdict.specs.Causes.{Client, Maker}
use Rattle.sat_verdict.specs.Counts.{known, read_count, maker_of, next_count}
use Rattle.sat_verdict.specs.Found.{made_number}
use Rattle.sat_verdict.specs.Tables.{number_or, number_in, told, column, row_before, IsUnique, HasClients, value_at, read_of, AreBlankTo, AreKept, AreRows, IsBlank, IsRaisedBy, KnowsNow, IsColumnTo, Learns, Raises}
use Rattle.sat_verdict.proofs.Counted.{same_number, some_is, yes-is_of, is_of-yes, maker-client, own-count}
use Rattle.sat_verdict.proofs.Histories.{told-next, told-length, told-split, made-stays, made-late, made-number-bound, unique-part, unmade-none, WasMade, was-made, StandsAt, stands-told}

-- ---- what the maker knew of a point that an entry reads

-- a point made among the first entries: what its maker knew stands in the table
pub made-value : (xs : List Tale) (d i : ℕ) (counts : List ℕ) (p : Point) (n : ℕ) → i ≤ length xs → IsUnique (told xs i) → IsColumnTo xs d counts i → made_number (told xs i) p ≡ Some n →
    get_or counts (n - 1) 0 ≡ known (told xs i) (Maker p) d
made-value xs d i counts p n l u column m =
    let w : WasMade (told xs i) p n d = was-made (told xs i) p n d u m in
    let s : StandsAt xs i w.entry w.before = stands-told xs i w.entry w.before l w.stands in
    let q : n - 1 ≡ length w.before = let k : n ≡ suc (length w.before) = w.number in omega arith in
    let o : client_of (get_or xs (length w.before) Other) ≡ Some (maker_of w.entry) = ap client_of (sym s.entry) ∙ maker-client w.entry p w.made in
    let v : get_or counts (length w.before) 0 ≡ known (told xs (length w.before)) (Client (maker_of w.entry)) d = column (length w.before) (maker_of w.entry) s.below o in
    ap (λ (k : ℕ). get_or counts k 0) q ∙ (v ∙ (ap (λ (h : List Tale). known h (Client (maker_of w.entry)) d) (sym s.told_is) ∙ sym w.knew))

value_in : (t : Bool) (x : ℕ) → t ≡ true → (if t then x else 0) ≡ x
value_in true x e = refl
value_in false x e = absurd (cc)

value_out : (t : Bool) (x : ℕ) → t ≡ false → (if t then x else 0) ≡ 0
value_out true x e = absurd (cc)
value_out false x e = refl

in_range : (n i : ℕ) → 0 < n → n ≤ i → (nat_lt 0 n && nat_le n i) ≡ true
in_range n i a b = grind (arith, nat_tests)

past_range : (n i : ℕ) → i < n → (nat_lt 0 n && nat_le n i) ≡ false
past_range n i a = grind (arith, nat_tests)

-- the number that a whole history has for a point tells what the maker knew among the first entries
value-known : (xs : List Tale) (d i : ℕ) (counts : List ℕ) (p : Point) → i ≤ length xs → IsUnique (reverse xs) → IsColumnTo xs d counts i →
    value_at (number_or (made_number (reverse xs) p)) i counts ≡ known (told xs i) (Maker p) d
value-known xs d i counts p l u column = go (made_number (told xs i) p) refl (made_number (reverse xs) p) refl
  where
    split : reverse xs ≡ reverse (drop i xs) ++ told xs i
    split = told-split xs i

    unique : IsUnique (told xs i)
    unique = unique-part (reverse (drop i xs)) (told xs i) (subst (λ (h : List Tale). IsUnique h) split u)

    len : length (told xs i) ≡ i
    len = told-length xs i l

    go : (o : Option ℕ) → made_number (told xs i) p ≡ o → (w : Option ℕ) → made_number (reverse xs) p ≡ w → value_at (number_or w) i counts ≡ known (told xs i) (Maker p) d
    go (Some n) e w f =
        let g : made_number (reverse xs) p ≡ Some n = ap (λ (h : List Tale). made_number h p) split ∙ made-stays (reverse (drop i xs)) (told xs i) p n e in
        let b : (0 < n) × (n ≤ length (told xs i)) = made-number-bound (told xs i) p n e in
        let c : n ≤ i = subst (λ (k : ℕ). n ≤ k) len b.1 in
        subst (λ (v : Option ℕ). value_at (number_or v) i counts ≡ known (told xs i) (Maker p) d) (sym g ∙ f)
        (value_in (nat_lt 0 n && nat_le n i) (get_or counts (n - 1) 0) (in_range n i b.0 c) ∙ made-value xs d i counts p n l unique column e)
    go None e None f = sym (unmade-none (told xs i) p d e)
    go None e (Some n) f =
        let g : made_number (reverse (drop i xs) ++ told xs i) p ≡ Some n = ap (λ (h : List Tale). made_number h p) (sym split) ∙ f in
        let b : length (told xs i) < n = made-late (reverse (drop i xs)) (told xs i) p n e g in
        let c : i < n = subst (λ (k : ℕ). k < n) len b in
        value_out (nat_lt 0 n && nat_le n i) (get_or counts (n - 1) 0) (past_range n i c) ∙ sym (unmade-none (told xs i) p d e)

pub read-known : (xs : List Tale) (d i : ℕ) (counts : List ℕ) (e : Tale) → i ≤ length xs → IsUnique (reverse xs) → IsColumnTo xs d counts i →
    read_of e (value_at (number_in (reverse xs) e) i counts) ≡ read_count e (λ p. known (told xs i) (Maker p) d)
read-known xs d i counts (ReadSome c x p) l u column = value-known xs d i counts p l u column
read-known xs d i counts (Wrote c ys p) l u column = refl
read-known xs d i counts (Moved c p) l u column = refl
read-known xs d i counts (ReadNone c x) l u column = refl
read-known xs d i counts (Shown k p) l u column = refl
read-known xs d i counts Other l u column = refl

-- ---- one entry more

raised : (mine : Bool) (n old new : ℕ) → mine ≡ true → next_count false mine n old new ≡ max old new
raised true n old new e = refl
raised false n old new e = absurd (cc)

kept_as : (mine : Bool) (n old new : ℕ) → mine ≡ false → next_count false mine n old new ≡ old
kept_as true n old new e = absurd (cc)
kept_as false n old new e = refl

apart : (own mine : Bool) (n old new : ℕ) → own ≡ false → next_count own mine n old new ≡ next_count false mine n old new
apart true mine n old new e = absurd (cc)
apart false mine n old new e = refl

pub now-next : (h : List Tale) (e : Tale) (d v : ℕ) (old new : List ℕ) → KnowsNow h d old → v ≡ read_count e (λ p. known h (Maker p) d) → length new ≡ length old →
    ((c : ℕ) → client_of e ≢ Some c → get_or new c 0 ≡ get_or old c 0) → ((c : ℕ) → client_of e ≡ Some c → c < length old → get_or new c 0 ≡ max (get_or old c 0) v) → KnowsNow (e ∷ h) d new
unfolding known
now-next h e d v old new knows value size others mine c l away = go (is_of e c) refl
  where
    before : get_or old c 0 ≡ known h (Client c) d
    before = knows c (subst (λ (n : ℕ). c < n) size l) away

    go : (b : Bool) → is_of e c ≡ b → get_or new c 0 ≡ next_count (d == c) (is_of e c) (length h) (known h (Client c) d) (read_count e (λ p. known h (Maker p) d))
    go true t =
        mine c (yes-is_of e c t) (subst (λ (n : ℕ). c < n) size l) ∙
        (ap (λ (n : ℕ). max n v) before ∙ (ap (λ (n : ℕ). max (known h (Client c) d) n) value ∙
        (sym (raised (is_of e c) (length h) (known h (Client c) d) (read_count e (λ p. known h (Maker p) d)) t) ∙
        sym (apart (d == c) (is_of e c) (length h) (known h (Client c) d) (read_count e (λ p. known h (Maker p) d)) away))))
    go false t =
        others c (λ o. let x : false ≡ true = sym t ∙ is_of-yes e c o in absurd (cc)) ∙
        (before ∙
        (sym (kept_as (is_of e c) (length h) (known h (Client c) d) (read_count e (λ p. known h (Maker p) d)) t) ∙
        sym (apart (d == c) (is_of e c) (length h) (known h (Client c) d) (read_count e (λ p. known h (Maker p) d)) away)))

pub column-next : (xs : List Tale) (d i v : ℕ) (counts : List ℕ) → length counts ≡ i → IsColumnTo xs d counts i →
    ((c : ℕ) → client_of (get_or xs i Other) ≡ Some c → v ≡ known (told xs i) (Client c) d) → IsColumnTo xs d (counts ++ v ∷ []) (i + 1)
column-next xs d i v counts size column new j c l o = go (cases j i l)
  where
    cases : (j i : ℕ) → j < i + 1 → (j < i) ⊎ (j ≡ i)
    cases j i l = grind arith

    go : (j < i) ⊎ (j ≡ i) → get_or (counts ++ v ∷ []) j 0 ≡ known (told xs j) (Client c) d
    go (inl a) = get_or-append counts (v ∷ []) 0 j (subst (λ (n : ℕ). j < n) (sym size) a) ∙ column j c a o
    go (inr a) =
        ap (λ (n : ℕ). get_or (counts ++ v ∷ []) n 0) (a ∙ sym size) ∙ (get_or-append_seam counts v [] 0 ∙
        (new c (subst (λ (n : ℕ). client_of (get_or xs n Other) ≡ Some c) a o) ∙ ap (λ (n : ℕ). known (told xs n) (Client c) d) (sym a)))

-- one turn of the loop
pub loop-next : (xs : List Tale) (d i clients : ℕ) (e : Tale) (numbers counts seen counts' old seen_now new : List ℕ) (o : Option ℕ) (number v b : ℕ) →
    i < length xs → e ≡ get_or xs i e → IsUnique (reverse xs) → HasClients clients xs → numbers ≡ map (number_in (reverse xs)) xs → number ≡ get_or numbers i 0 →
    (length old ≡ clients) × (length counts ≡ i) × KnowsNow (told xs i) d old × IsColumnTo xs d counts i →
    seen ≡ counts → v ≡ read_of e (value_at number i seen) →
    seen_now ≡ old → ((h : List Tale) (c : ℕ) → length h ≡ i → KnowsNow h d seen_now → client_of e ≡ Some c → c < length seen_now → b ≡ known h (Client c) d) →
    counts' ≡ counts ++ b ∷ [] → o ≡ client_of e → length new ≡ length old →
    ((c : ℕ) → o ≢ Some c → get_or new c 0 ≡ get_or old c 0) → ((c : ℕ) → o ≡ Some c → c < length old → get_or new c 0 ≡ max (get_or old c 0) v) →
    (length new ≡ clients) × (length counts' ≡ i + 1) × KnowsNow (told xs (i + 1)) d new × IsColumnTo xs d counts' (i + 1)
loop-next xs d i clients e numbers counts seen counts' old seen_now new o number v b l is unique below numbers_are number_is inv seen_is value seen_now_is before pushed o_is size others mine = (
  size ∙ inv.0,
  ap (λ (ys : List ℕ). length ys) pushed ∙ longer,
  subst (λ (h : List Tale). KnowsNow h d new) (sym step) knows,
  subst (λ (ys : List ℕ). IsColumnTo xs d ys (i + 1)) (sym pushed) (column-next xs d i b counts inv.1 inv.3 known_before),
)
  where
    here : e ≡ get_or xs i Other
    here = is ∙ get_or_default xs i e Other l

    step : told xs (i + 1) ≡ e ∷ told xs i
    step = told-next xs i Other l ∙ ap (λ (x : Tale). x ∷ told xs i) (sym here)

    longer : length (counts ++ b ∷ []) ≡ i + 1
    longer = length-append counts (b ∷ []) ∙ ap (λ (n : ℕ). n + 1) inv.1

    len : length (told xs i) ≡ i
    len = told-length xs i (omega arith)

    number_in_is : number ≡ number_in (reverse xs) e
    number_in_is =
        number_is ∙ (ap (λ (ys : List ℕ). get_or ys i 0) numbers_are ∙ (get_or-map (number_in (reverse xs)) xs i Other 0 l ∙ ap (λ (x : Tale). number_in (reverse xs) x) (sym here)))

    value_is : v ≡ read_count e (λ p. known (told xs i) (Maker p) d)
    value_is =
        value ∙ (ap (λ (ys : List ℕ). read_of e (value_at number i ys)) seen_is ∙ (ap (λ (n : ℕ). read_of e (value_at n i counts)) number_in_is ∙
        read-known xs d i counts e (omega arith) unique inv.3))

    knows : KnowsNow (e ∷ told xs i) d new
    knows = now-next (told xs i) e d v old new inv.2 value_is size (λ c away. others c (λ q. away (sym o_is ∙ q))) (λ c q. mine c (o_is ∙ q))

    known_before : (c : ℕ) → client_of (get_or xs i Other) ≡ Some c → b ≡ known (told xs i) (Client c) d
    known_before c q =
        let low : c < clients = below i c l q in
        before (told xs i) c len (subst (λ (ys : List ℕ). KnowsNow (told xs i) d ys) (sym seen_now_is) inv.2) (ap client_of here ∙ q)
        (subst (λ (ys : List ℕ). c < length ys) (sym seen_now_is) (subst (λ (n : ℕ). c < n) (sym inv.0) low))

-- ---- rows of counts, by their columns

pub column-at : (rows : List (List ℕ)) (d j : ℕ) → get_or (column rows d) j 0 ≡ get_or (get_or rows j []) d 0
column-at [] d j = refl
column-at (row ∷ rows) d zero = refl
column-at (row ∷ rows) d (suc j) = column-at rows d j

column-length : (rows : List (List ℕ)) (d : ℕ) → length (column rows d) ≡ length rows
column-length rows d = length-map rows (λ (row : List ℕ). get_or row d 0)

column-more : (rows : List (List ℕ)) (row : List ℕ) (d : ℕ) → column (rows ++ row ∷ []) d ≡ column rows d ++ get_or row d 0 ∷ []
column-more rows row d = map-append (λ (r : List ℕ). get_or r d 0) rows (row ∷ [])

-- what the lists say after the first n entries
pub record AreKnown (xs : List Tale) (clients n : ℕ) (now rows : List (List ℕ)) : Type 0 where
  pub clients_size : length now ≡ clients
  pub sizes : (c : ℕ) → c < clients → length (get_or now c []) ≡ clients
  pub size : length rows ≡ n
  pub knows : (d : ℕ) → d < clients → KnowsNow (told xs n) d (column now d)
  pub columns : (d : ℕ) → d < clients → IsColumnTo xs d (column rows d) n

pub known-start : (xs : List Tale) (clients : ℕ) (now rows : List (List ℕ)) → AreBlankTo clients clients now → length rows ≡ 0 → AreKnown xs clients 0 now rows
unfolding known
known-start xs clients now rows blank none = record {
  clients_size = blank.0;
  sizes = λ c l. (blank.1 c l).0;
  size = none;
  knows = λ d l c m away. column-at now d c ∙ (blank.1 c (subst (λ (n : ℕ). c < n) (column-length now d ∙ blank.0) m)).1 d l;
  columns = λ d l j c m o. absurd (omega arith);
}

-- the row of an entry has what its client knew
row-known : (h : List Tale) (c d clients place : ℕ) (now : List (List ℕ)) → length h ≡ place → length now ≡ clients → length (get_or now c []) ≡ clients → c < clients →
    KnowsNow h d (column now d) → get_or (set (get_or now c []) c place) d 0 ≡ known h (Client c) d
row-known h c d clients place now size all wide low knows = go (d == c) refl
  where
    apart_numbers : (m n : ℕ) → (m == n) ≡ false → m ≡ n → ⊥
    apart_numbers m n e f = grind (arith, nat_tests)

    go : (t : Bool) → (d == c) ≡ t → get_or (set (get_or now c []) c place) d 0 ≡ known h (Client c) d
    go true t =
        let e : d ≡ c = same_number d c t in
        subst (λ (k : ℕ). get_or (set (get_or now c []) c place) k 0 ≡ known h (Client c) d) (sym e)
        (get_or-set_same (get_or now c []) c place 0 (subst (λ (n : ℕ). c < n) (sym wide) low) ∙ (sym size ∙ sym (own-count h c d t)))
    go false t =
        get_or-set_other (get_or now c []) c d place 0 (apart_numbers d c t) ∙
        (sym (column-at now d c) ∙ knows c (subst (λ (n : ℕ). c < n) (sym (column-length now d ∙ all)) low) t)

-- one entry more
pub known-next : (xs : List Tale) (i clients : ℕ) (e : Tale) (numbers : List ℕ) (now seen_now now' rows seen rows' : List (List ℕ)) (row : List ℕ) (o : Option ℕ) (number : ℕ) →
    i < length xs → e ≡ get_or xs i e → IsUnique (reverse xs) → HasClients clients xs → numbers ≡ map (number_in (reverse xs)) xs → number ≡ get_or numbers i 0 →
    AreKnown xs clients i now rows → seen_now ≡ now → o ≡ client_of e → row ≡ row_before seen_now i o → seen ≡ rows → Learns e number i seen now now' → rows' ≡ rows ++ row ∷ [] →
    AreKnown xs clients (i + 1) now' rows'
known-next xs i clients e numbers now seen_now now' rows seen rows' row o number l is unique below numbers_are number_is inv seen_now_is o_is row_is seen_is learns pushed = record {
  clients_size = learns.0.0 ∙ inv.clients_size;
  sizes = λ c low. learns.0.1 c ∙ inv.sizes c low;
  size = ap (λ (ys : List (List ℕ)). length ys) pushed ∙ (length-append rows (row ∷ []) ∙ ap (λ (n : ℕ). n + 1) inv.size);
  knows = λ d low. (step d low).2;
  columns = λ d low. (step d low).3;
}
  where
    here : client_of e ≡ client_of (get_or xs i Other)
    here = ap client_of (is ∙ get_or_default xs i e Other l)

    row_of : (c : ℕ) → client_of e ≡ Some c → row ≡ set (get_or now c []) c i
    row_of c q = row_is ∙ (ap (λ (t : Option ℕ). row_before seen_now i t) (o_is ∙ q) ∙ ap (λ (ys : List (List ℕ)). set (get_or ys c []) c i) seen_now_is)

    step : (d : ℕ) → d < clients → (length (column now' d) ≡ clients) × (length (column rows' d) ≡ i + 1) × KnowsNow (told xs (i + 1)) d (column now' d) × IsColumnTo xs d (column rows' d) (i + 1)
    step d low =
        loop-next xs d i clients e numbers (column rows d) (column seen d) (column rows' d) (column now d) (column now d) (column now' d) (client_of e) number (read_of e (value_at number i (column seen d))) (get_or row d 0)
        l is unique below numbers_are number_is
        (column-length now d ∙ inv.clients_size, column-length rows d ∙ inv.size, inv.knows d low, inv.columns d low)
        (ap (λ (ys : List (List ℕ)). column ys d) seen_is) refl refl
        (λ h c size knows q few.
        ap (λ (r : List ℕ). get_or r d 0) (row_of c q) ∙
        row-known h c d clients i now size inv.clients_size (inv.sizes c (below i c l (sym here ∙ q))) (below i c l (sym here ∙ q)) knows)
        (ap (λ (ys : List (List ℕ)). column ys d) pushed ∙ column-more rows row d)
        refl
        (column-length now' d ∙ (learns.0.0 ∙ sym (column-length now d)))
        (λ c away. column-at now' d c ∙ (ap (λ (r : List ℕ). get_or r d 0) (learns.0.2 c away) ∙ sym (column-at now d c)))
        (λ c q few.
        let m : c < length now = subst (λ (n : ℕ). c < n) (column-length now d) few in
        column-at now' d c ∙
        (learns.1 c q d m (subst (λ (n : ℕ). d < n) (sym (inv.sizes c (subst (λ (n : ℕ). c < n) inv.clients_size m))) low) ∙
        ap (λ (n : ℕ). max n (read_of e (value_at number i (column seen d)))) (sym (column-at now d c))))

-- ---- the numbers of two rows

-- the first n numbers are raised to those of some others
pub record RaisedTo (n : ℕ) (old others now : List ℕ) : Type 0 where
  pub size : length now ≡ length old
  pub raised : (k : ℕ) → k < n → get_or now k 0 ≡ max (get_or old k 0) (get_or others k 0)
  pub kept : (k : ℕ) → n ≤ k → get_or now k 0 ≡ get_or old k 0

pub raise-start : (old others : List ℕ) → RaisedTo 0 old others old
raise-start old others = record { size = refl; raised = λ k l. absurd (omega arith); kept = λ k l. refl }
