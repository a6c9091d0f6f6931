-- The tables of what was counted, after one entry or one act more.
use Rattle.std.proofs.Common.{◌≡◌, ◌≢◌, ℕ, suc, ◌+◌, ◌<◌, ◌≤◌, ◌==◌, nat_lt, Bool, true, false, List, [], ◌∷◌, ◌++◌, length, filter, take, drop, get_or, set, Option, Some, None, if◌then◌else◌, ◌⊎◌, inl, inr, refl, sym, subst, ap, ◌∙◌, arith, add-one, drop-cons}
use Rattle.std.proofs.lemmas.Bool.{cases_eq}
use Rattle.std.proofs.lemmas.Bool.Decides.{nat_tests}
use Rattle.std.proofs.lemmas.List.{take_more, length-set, get_or-set_same, get_or-set_other}
use Rattle.std.proofs.lemmas.List.Elements.{filter-append}
use Rattle.sat_act.specs.declared.act.Act.{Act}
use Rattle.sat_act.specs.declared.entry.Entry.{Entry}
use Rattle.sat_stitch.specs.Places.{Session, Client, Operator, session_of, is_session}
use Rattle.sat_undone.specs.declared.lacking.Tally.{Tally}
use Rattle.sat_undone.specs.Undone.{session_at, number_of, is_by, is_of, entries_of, waits, tally_by, next_tally, tally_from, no_tally, tally_of, lacks, undone_behind}
use Rattle.sat_undone.specs.Counted.{AreTallies, AreCounts}

-- ---- numbers of sessions

abbrev is_number : ℕ → Option ℕ → Bool
is_number n None = false
is_number n (Some k) = k == n

-- what is of the session of a number has this number
by-number : (clients n : ℕ) (o : Option Session) → n < clients + 1 → is_session (session_at clients n) o ≡ is_number n (number_of clients o)
by-number clients n None less = refl
by-number clients n (Some Operator) less = go (nat_lt n clients) refl
  where
    go : (b : Bool) → nat_lt n clients ≡ b → is_session (if b then Client n else Operator) (Some Operator) ≡ (clients == n)
    go true is = let e : (clients == n) ≡ false = grind (arith, nat_tests) in sym e
    go false is = let e : (clients == n) ≡ true = grind (arith, nat_tests) in sym e
by-number clients n (Some (Client c)) less = go (nat_lt n clients) (nat_lt c clients) refl refl
  where
    go : (b a : Bool) → nat_lt n clients ≡ b → nat_lt c clients ≡ a → is_session (if b then Client n else Operator) (Some (Client c)) ≡ is_number n (if a then Some c else None)
    go true true is at = refl
    go true false is at = grind (arith, nat_tests)
    go false true is at = let e : (c == n) ≡ false = grind (arith, nat_tests) in sym e
    go false false is at = refl

is-it : (clients k : ℕ) (o : Option Session) → number_of clients o ≡ Some k → k < clients + 1 → is_session (session_at clients k) o ≡ true
is-it clients k o at less = by-number clients k o less ∙ ap (is_number k) at ∙ grind (arith, nat_tests)

is-other : (clients n k : ℕ) (o : Option Session) → number_of clients o ≡ Some k → n < clients + 1 → n ≢ k → is_session (session_at clients n) o ≡ false
is-other clients n k o at less other = by-number clients n o less ∙ ap (is_number n) at ∙ (let e : (k == n) ≡ false = grind (arith, nat_tests) in e)

is-none : (clients n : ℕ) (o : Option Session) → number_of clients o ≡ None → n < clients + 1 → is_session (session_at clients n) o ≡ false
is-none clients n o none less = by-number clients n o less ∙ ap (is_number n) none

pub number_is : (clients k : ℕ) (o : Option Session) → number_of clients o ≡ Some k → k < clients + 1
number_is clients k None at = absurd (cc)
number_is clients k (Some Operator) at = let e : clients ≡ k = cc in omega (arith, e)
number_is clients k (Some (Client c)) at = go (nat_lt c clients) refl at
  where
    go : (b : Bool) → nat_lt c clients ≡ b → (if b then Some c else None) ≡ Some k → k < clients + 1
    go true is at = let e : c ≡ k = cc in grind (arith, nat_tests)
    go false is at = absurd (cc)

-- ---- tallies

-- an entry more
pub tally-last : (t : Tally) (es : List Entry) (e : Entry) → tally_from t (es ++ e ∷ []) ≡ next_tally (tally_from t es) e
tally-last t [] e = refl
tally-last t (x ∷ es) e = tally-last (next_tally t x) es e

none-more : {X : Type 0} (xs : List X) → xs ++ [] ≡ xs
none-more [] = refl
none-more {X} (x ∷ xs) = ap (λ (ys : List X). x ∷ ys) (none-more xs)

-- a filter of one member more
filter-by : {X : Type 0} (p : X → Bool) (xs : List X) (x : X) (b : Bool) → p x ≡ b → filter p (xs ++ x ∷ []) ≡ filter p xs ++ (if b then x ∷ [] else [])
filter-by {X} p xs x b is = filter-append p xs (x ∷ []) ∙ ap (λ (c : Bool). filter p xs ++ (if c then x ∷ [] else [])) is

tally-by : (s : Session) (es : List Entry) (e : Entry) → is_by s e ≡ true → tally_of s (es ++ e ∷ []) ≡ next_tally (tally_of s es) e
unfolding tally_of
tally-by s es e is = ap (tally_from no_tally) (filter-by (is_by s) es e true is) ∙ tally-last no_tally (entries_of s es) e

tally-not : (s : Session) (es : List Entry) (e : Entry) → is_by s e ≡ false → tally_of s (es ++ e ∷ []) ≡ tally_of s es
unfolding tally_of
tally-not s es e is = ap (tally_from no_tally) (filter-by (is_by s) es e false is ∙ none-more (entries_of s es))

-- an entry of the session of number k
pub tally_more : (clients k : ℕ) (es : List Entry) (e : Entry) (ts : List Tally) → number_of clients (session_of e.act) ≡ Some k → AreTallies clients es ts →
    AreTallies clients (es ++ e ∷ []) (set ts k (next_tally (get_or ts k no_tally) e))
tally_more clients k es e ts at old = record { all = length-set ts k (next_tally (get_or ts k no_tally) e) ∙ old.all; each = λ n less. go n less (cases_eq n k) }
  where
    small : k < clients + 1
    small = number_is clients k (session_of e.act) at

    here : get_or (set ts k (next_tally (get_or ts k no_tally) e)) k no_tally ≡ tally_of (session_at clients k) (es ++ e ∷ [])
    here =
        get_or-set_same ts k (next_tally (get_or ts k no_tally) e) no_tally (omega (arith, old.all, small))
        ∙ ap (λ (x : Tally). next_tally x e) (old.each k small)
        ∙ sym (tally-by (session_at clients k) es e (is-it clients k (session_of e.act) at small))

    go : (n : ℕ) → n < clients + 1 → (n ≡ k) ⊎ (n ≡ k → ⊥) → get_or (set ts k (next_tally (get_or ts k no_tally) e)) n no_tally ≡ tally_of (session_at clients n) (es ++ e ∷ [])
    go n less (inl same) =
        subst (λ m. get_or (set ts k (next_tally (get_or ts k no_tally) e)) m no_tally ≡ tally_of (session_at clients m) (es ++ e ∷ [])) (sym same) here
    go n less (inr other) =
        get_or-set_other ts k n (next_tally (get_or ts k no_tally) e) no_tally other ∙ old.each n less ∙ sym (tally-not (session_at clients n) es e (is-other clients n k (session_of e.act) at less other))

-- an entry of none of these sessions
pub tally_other : (clients : ℕ) (es : List Entry) (e : Entry) (ts : List Tally) → number_of clients (session_of e.act) ≡ None → AreTallies clients es ts → AreTallies clients (es ++ e ∷ []) ts
tally_other clients es e ts none old = record { all = old.all; each = λ n less. old.each n less ∙ sym (tally-not (session_at clients n) es e (is-none clients n (session_of e.act) none less)) }

pub none_counted : (clients : ℕ) (ts : List Tally) → length ts ≡ clients + 1 → ((k : ℕ) → get_or ts k no_tally ≡ no_tally) → AreTallies clients [] ts
unfolding tally_of
none_counted clients ts all none = record { all = all; each = λ n less. none n }

-- a tally counts no more than there is
next-size : (b : Bool) (t : Tally) → (tally_by b t).done + (tally_by b t).tries ≤ t.done + t.tries + 1
next-size true t = omega arith
next-size false t = omega arith

tally-size : (t : Tally) (es : List Entry) → (tally_from t es).done + (tally_from t es).tries ≤ t.done + t.tries + length es
tally-size t [] = omega arith
tally-size t (e ∷ es) = let more = tally-size (next_tally t e) es in let one = next-size (waits e) t in omega (arith, more, one)

few-filter : {X : Type 0} (p : X → Bool) (xs : List X) → length (filter p xs) ≤ length xs
few-filter p [] = omega arith
few-filter {X} p (x ∷ xs) = go (p x) (few-filter p xs)
  where
    go : (b : Bool) → length (filter p xs) ≤ length xs → length (if b then x ∷ filter p xs else filter p xs) ≤ suc (length xs)
    go true few = omega (arith, few)
    go false few = omega (arith, few)

small-of : (s : Session) (es : List Entry) → (tally_of s es).done + (tally_of s es).tries ≤ length es
unfolding tally_of
small-of s es = let a = tally-size no_tally (entries_of s es) in let b = few-filter (is_by s) es in omega (arith, a, b)

pub small_tally : (clients k : ℕ) (es : List Entry) (ts : List Tally) → AreTallies clients es ts → k < clients + 1 → (get_or ts k no_tally).done + (get_or ts k no_tally).tries ≤ length es
small_tally clients k es ts old less = subst (λ (t : Tally). t.done + t.tries ≤ length es) (sym (old.each k less)) (small-of (session_at clients k) es)

-- ---- counts

longer : (xs : List Act) (x : Act) → length (xs ++ x ∷ []) ≡ length xs + 1
longer [] x = refl
longer (y ∷ xs) x = let e = longer xs x in omega (arith, e)

pub small_count : (clients k : ℕ) (acts : List Act) (ns : List ℕ) → AreCounts clients acts ns → k < clients + 1 → get_or ns k 0 ≤ length acts
small_count clients k acts ns old less = subst (λ n. n ≤ length acts) (sym (old.each k less)) (few-filter (is_of (session_at clients k)) acts)

-- ---- going through lists

pub front-next : {X : Type 0} (xs : List X) (n : ℕ) (x : X) → n < length xs → x ≡ get_or xs n x → take (n + 1) xs ≡ take n xs ++ x ∷ []
front-next {X} xs n x low is = take_more xs n x low ∙ ap (λ (y : X). take n xs ++ y ∷ []) (sym is)

pub rest-next : {X : Type 0} (xs : List X) (n : ℕ) (x : X) → n < length xs → x ≡ get_or xs n x → drop n xs ≡ x ∷ drop (n + 1) xs
rest-next {X} xs n x low is = drop-cons xs n x low ∙ ap (λ (y : X). y ∷ drop (suc n) xs) (sym is) ∙ ap (λ (m : ℕ). x ∷ drop m xs) (sym (add-one n))

-- the history lacks this act, or goes on to the next
pub at-act : (es : List Entry) (acts : List Act) (n : ℕ) (a : Act) (b : Bool) → n < length acts → a ≡ get_or acts n a → lacks es (take n acts) a ≡ b →
    undone_behind es (take n acts) (drop n acts) ≡ (if b then Some a else undone_behind es (take (n + 1) acts) (drop (n + 1) acts))
at-act es acts n a b low is lacking =
    ap (undone_behind es (take n acts)) (rest-next acts n a low is)
    ∙ ap (λ (c : Bool). if c then Some a else undone_behind es (take n acts ++ a ∷ []) (drop (n + 1) acts)) lacking
    ∙ ap (λ (xs : List Act). if b then Some a else undone_behind es xs (drop (n + 1) acts)) (sym (front-next acts n a low is))
