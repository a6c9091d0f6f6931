-- Stitched journals are the merge of their lists.
use Rattle.std.specs.Prelude.{◌≡◌, ◌⊎◌, ◌<◌, ◌≤◌, ℕ, Bool, true, false, ◌&&◌, ◌||◌, ◌==◌, nat_lt, List, [], ◌∷◌, ◌++◌, map, filter, cond, refl, reverse}
use Rattle.std.proofs.Common.{sym, subst, ap, ◌∙◌, arith, inl, inr}
use Rattle.std.proofs.lemmas.Bool.Decides.{nat_tests}
use Rattle.std.proofs.lemmas.List.{reverse-append, reverse-reverse}
use Rattle.std.proofs.lemmas.List.Elements.{filter-append}
use Rattle.sat_label.proofs.Members.{In-parts}
use Rattle.sat_label.specs.Members.{In}
use Rattle.sat_stitch.specs.Kept.{Kept, Rising, Ordered}
use Rattle.sat_stitch.specs.Places.{Place, places, stands_at}
use Rattle.sat_stitch.specs.declared.journal.Ranked.{Ranked}
use Rattle.sat_stitch.specs.Stitch.{ranked, all_ranked, comes_before, in_order, stitched, oldest, journals_of, Distinct, StitchesMerge}
use Rattle.sat_stitch.proofs.Lists.{filter-takes, filter-leaves}
use Rattle.sat_stitch.proofs.Tables.{stands-self, stands-is}
use Rattle.sat_stitch.proofs.Orders.{Ascending, order-ascends, order-in, order-stays, filter-order, not-lower}

-- ---- lists turned round

module _ {X : Type 0} where
  plain : (xs : List X) → xs ++ [] ≡ xs
  plain [] = refl
  plain (x ∷ xs) = ap (λ (ys : List X). x ∷ ys) (plain xs)

  -- the first is the last
  pub reverse-cons : (x : X) (xs : List X) → reverse (x ∷ xs) ≡ reverse xs ++ x ∷ []
  reverse-cons x xs = reverse-append (x ∷ []) xs

  in-reversed : (xs : List X) (x : X) → In (reverse xs) x → In xs x
  in-reversed [] x i = i
  in-reversed (y ∷ xs) x i = elim (In-parts (reverse xs) (y ∷ []) x (subst (λ (zs : List X). In zs x) (reverse-cons y xs) i)) [ inl a ↦ inr (in-reversed xs x a) | inr b ↦ elim b [ inl e ↦ inl e | inr n ↦ absurd n ] ]

  filter-reversed : (q : X → Bool) (xs : List X) → filter q (reverse xs) ≡ reverse (filter q xs)
  filter-reversed q [] = refl
  filter-reversed q (x ∷ xs) = ap (λ (ys : List X). filter q ys) (reverse-cons x xs) ∙ (filter-append q (reverse xs) (x ∷ []) ∙ go (q x) (filter-reversed q xs))
    where
      go : (b : Bool) → filter q (reverse xs) ≡ reverse (filter q xs) → filter q (reverse xs) ++ cond b (x ∷ []) [] ≡ reverse (cond b (x ∷ filter q xs) (filter q xs))
      go true e = ap (λ (ys : List X). ys ++ x ∷ []) e ∙ sym (reverse-cons x (filter q xs))
      go false e = plain (filter q (reverse xs)) ∙ e

  all-pass : (q : X → Bool) (xs : List X) → ((x : X) → In xs x → q x ≡ true) → filter q xs ≡ xs
  all-pass q [] f = refl
  all-pass q (x ∷ xs) f = filter-takes q x xs (f x (inl refl)) ∙ ap (λ (ys : List X). x ∷ ys) (all-pass q xs (λ y i. f y (inr i)))

  none-pass : (q : X → Bool) (xs : List X) → ((x : X) → In xs x → q x ≡ false) → filter q xs ≡ []
  none-pass q [] f = refl
  none-pass q (x ∷ xs) f = filter-leaves q x xs (f x (inl refl)) ∙ none-pass q xs (λ y i. f y (inr i))

-- ---- ranks

abbrev items : List (Ranked Kept) → List Kept
items rs = map (λ r. r.item) rs

abbrev by_item : Place → Ranked Kept → Bool
by_item p r = stands_at p r.item

items-filter : (p : Place) (rs : List (Ranked Kept)) → filter (stands_at p) (items rs) ≡ items (filter (by_item p) rs)
items-filter p [] = refl
items-filter p (r ∷ rs) = go (stands_at p r.item) (items-filter p rs)
  where
    go : (b : Bool) → filter (stands_at p) (items rs) ≡ items (filter (by_item p) rs) → cond b (r.item ∷ filter (stands_at p) (items rs)) (filter (stands_at p) (items rs)) ≡ items (cond b (r ∷ filter (by_item p) rs) (filter (by_item p) rs))
    go true e = ap (λ (ks : List Kept). r.item ∷ ks) e
    go false e = e

ranked-join : (n : ℕ) (xs ys : List (ℕ × Kept)) → ranked n (xs ++ ys) ≡ ranked n xs ++ ranked n ys
ranked-join n [] ys = refl
ranked-join n (x ∷ xs) ys = ap (λ (rs : List (Ranked Kept)). record { number = x.0; place = n; item = x.1 } ∷ rs) (ranked-join n xs ys)

abbrev rank_of : ℕ → Kept → Ranked Kept
rank_of n k = record { number = k.number; place = n; item = k }

oldest-more : (n : ℕ) (k : Kept) (ks : List Kept) → ranked n (oldest (k ∷ ks)) ≡ ranked n (oldest ks) ++ rank_of n k ∷ []
oldest-more n k ks = ranked-join n (oldest ks) ((k.number, k) ∷ [])

-- each rank comes from an entry of the list
in-oldest : (n : ℕ) (ks : List Kept) (r : Ranked Kept) → In (ranked n (oldest ks)) r → (k : Kept) × In ks k × (r ≡ rank_of n k)
in-oldest n [] r i = absurd i
in-oldest n (k ∷ ks) r i = elim (In-parts (ranked n (oldest ks)) (rank_of n k ∷ []) r (subst (λ (rs : List (Ranked Kept)). In rs r) (oldest-more n k ks) i)) [
  | inl a ↦ let w : (k : Kept) × In ks k × (r ≡ rank_of n k) = in-oldest n ks r a in (w.0, inr w.1, w.2)
  | inr b ↦ elim b [ inl e ↦ (k, inl refl, sym e) | inr z ↦ absurd z ]
]

items-join : (xs ys : List (Ranked Kept)) → items (xs ++ ys) ≡ items xs ++ items ys
items-join [] ys = refl
items-join (x ∷ xs) ys = ap (λ (ks : List Kept). x.item ∷ ks) (items-join xs ys)

oldest-items : (n : ℕ) (ks : List Kept) → items (ranked n (oldest ks)) ≡ reverse ks
oldest-items n [] = refl
oldest-items n (k ∷ ks) = ap (λ (rs : List (Ranked Kept)). items rs) (oldest-more n k ks) ∙ (items-join (ranked n (oldest ks)) (rank_of n k ∷ []) ∙ (ap (λ (xs : List Kept). xs ++ k ∷ []) (oldest-items n ks) ∙ sym (reverse-cons k ks)))

ascends-end : (xs : List (Ranked Kept)) (x : Ranked Kept) → Ascending xs → ((y : Ranked Kept) → In xs y → comes_before x y ≡ false) → Ascending (xs ++ x ∷ [])
ascends-end [] x a f = (tt, λ y i. absurd i)
ascends-end (z ∷ xs) x a f = (
  ascends-end xs x a.0 (λ y i. f y (inr i)),
  λ y i. elim (In-parts xs (x ∷ []) y i) [
    | inl j ↦ a.1 y j
    | inr b ↦ elim b [ inl e ↦ subst (λ (y : Ranked Kept). comes_before y z ≡ false) e (f z (inl refl)) | inr n ↦ absurd n ]
  ],
)

above : (a b n : ℕ) → a < b → (nat_lt b a || ((b == a) && nat_lt n n)) ≡ false
above a b n l = grind (arith, nat_tests)

-- a list whose numbers rise is in order
oldest-ascends : (n : ℕ) (ks : List Kept) → Rising ks → Ascending (ranked n (oldest ks))
oldest-ascends n [] r = tt
oldest-ascends n (k ∷ ks) r = subst (λ (rs : List (Ranked Kept)). Ascending rs) (sym (oldest-more n k ks)) (ascends-end (ranked n (oldest ks)) (rank_of n k) (oldest-ascends n ks r.0) (λ y i.
    let w : (x : Kept) × In ks x × (y ≡ rank_of n x) = in-oldest n ks y i in
    subst (λ (y : Ranked Kept). comes_before (rank_of n k) y ≡ false) (sym w.2) (above w.0.number k.number n (r.1 w.0 w.1))))

-- ---- journals

in-items : (rs : List (Ranked Kept)) (x : Kept) → In (items rs) x → (r : Ranked Kept) × In rs r × (r.item ≡ x)
in-items [] x i = absurd i
in-items (r ∷ rs) x (inl e) = (r, inl refl, e)
in-items (r ∷ rs) x (inr i) = let w : (r : Ranked Kept) × In rs r × (r.item ≡ x) = in-items rs x i in (w.0, inr w.1, w.2)

ordered-end : (xs : List Kept) (k : Kept) → Ordered xs → ((x : Kept) → In xs x → k.number ≤ x.number) → Ordered (xs ++ k ∷ [])
ordered-end [] k o f = (tt, λ x i. absurd i)
ordered-end (y ∷ xs) k o f = (
  ordered-end xs k o.0 (λ x i. f x (inr i)),
  λ x i. elim (In-parts xs (k ∷ []) x i) [
    | inl j ↦ o.1 x j
    | inr b ↦ elim b [ inl e ↦ subst (λ (x : Kept). x.number ≤ y.number) e (f y (inl refl)) | inr n ↦ absurd n ]
  ],
)

le-by : (a b c e : ℕ) → a ≤ b → a ≡ c → b ≡ e → c ≤ e
le-by a b c e l x y = omega arith

ordered-reversed : (rs : List (Ranked Kept)) → Ascending rs → ((r : Ranked Kept) → In rs r → r.number ≡ r.item.number) → Ordered (reverse (items rs))
ordered-reversed [] a f = tt
ordered-reversed (r ∷ rs) a f = subst (λ (ks : List Kept). Ordered ks) (sym (reverse-cons r.item (items rs))) (ordered-end (reverse (items rs)) r.item (ordered-reversed rs a.0 (λ s i. f s (inr i))) (λ x i.
    let w : (s : Ranked Kept) × In rs s × (s.item ≡ x) = in-items rs x (in-reversed (items rs) x i) in
    subst (λ (x : Kept). r.item.number ≤ x.number) w.2 (le-by r.number w.0.number r.item.number w.0.item.number (not-lower r.number r.place w.0.number w.0.place (a.1 w.0 w.1)) (f r (inl refl)) (f w.0 (inr w.1)))))

module _ (lists : Place → List Kept) (rank : Place → ℕ) where
  abbrev Placed : Type 0
  Placed = (p : Place) (k : Kept) → In (lists p) k → places k.act k.given ≡ p ∷ []

  whose : Placed → (p q : Place) (r : Ranked Kept) → In (ranked (rank q) (oldest (lists q))) r → by_item p r ≡ true → q ≡ p
  whose placed p q r i e =
      let w : (k : Kept) × In (lists q) k × (r ≡ rank_of (rank q) k) = in-oldest (rank q) (lists q) r i in
      stands-is p q w.0 (placed q w.0 w.1) (sym (ap (λ (r : Ranked Kept). by_item p r) w.2) ∙ e)

  own : Placed → (p : Place) → filter (by_item p) (ranked (rank p) (oldest (lists p))) ≡ ranked (rank p) (oldest (lists p))
  own placed p = all-pass (by_item p) (ranked (rank p) (oldest (lists p))) (λ r i.
      let w : (k : Kept) × In (lists p) k × (r ≡ rank_of (rank p) k) = in-oldest (rank p) (lists p) r i in
      ap (λ (r : Ranked Kept). by_item p r) w.2 ∙ stands-self p w.0 (placed p w.0 w.1))

  other : Placed → (p q : Place) → (q ≡ p → ⊥) → filter (by_item p) (ranked (rank q) (oldest (lists q))) ≡ []
  other placed p q n = none-pass (by_item p) (ranked (rank q) (oldest (lists q))) (λ r i. go r i (by_item p r) refl)
    where
      go : (r : Ranked Kept) → In (ranked (rank q) (oldest (lists q))) r → (b : Bool) → by_item p r ≡ b → b ≡ false
      go r i true e = absurd (n (whose placed p q r i e))
      go r i false e = refl

  absent : Placed → (p : Place) (ps : List Place) → (In ps p → ⊥) → filter (by_item p) (all_ranked (journals_of rank lists ps)) ≡ []
  absent placed p [] n = refl
  absent placed p (q ∷ ps) n =
      filter-append (by_item p) (ranked (rank q) (oldest (lists q))) (all_ranked (journals_of rank lists ps)) ∙
      (λ i. other placed p q (λ e. n (inl e)) i ++ absent placed p ps (λ j. n (inr j)) i)

  present : Placed → (p : Place) (ps : List Place) → Distinct ps → In ps p → filter (by_item p) (all_ranked (journals_of rank lists ps)) ≡ ranked (rank p) (oldest (lists p))
  present placed p [] d i = absurd i
  present placed p (q ∷ ps) d (inl e) =
      filter-append (by_item p) (ranked (rank q) (oldest (lists q))) (all_ranked (journals_of rank lists ps)) ∙
      ((λ i. (subst (λ (q : Place). filter (by_item p) (ranked (rank q) (oldest (lists q))) ≡ ranked (rank p) (oldest (lists p))) (sym e) (own placed p)) i ++ absent placed p ps (λ j. d.1 (subst (λ (x : Place). In ps x) (sym e) j)) i) ∙
      plain (ranked (rank p) (oldest (lists p))))
  present placed p (q ∷ ps) d (inr i) =
      filter-append (by_item p) (ranked (rank q) (oldest (lists q))) (all_ranked (journals_of rank lists ps)) ∙
      (λ t. other placed p q (λ e. d.1 (subst (λ (x : Place). In ps x) (sym e) i)) t ++ present placed p ps d.0 i t)

  empty : Placed → (p : Place) (ps : List Place) → lists p ≡ [] → filter (by_item p) (all_ranked (journals_of rank lists ps)) ≡ []
  empty placed p [] e = refl
  empty placed p (q ∷ ps) e =
      filter-append (by_item p) (ranked (rank q) (oldest (lists q))) (all_ranked (journals_of rank lists ps)) ∙
      (λ t. none-pass (by_item p) (ranked (rank q) (oldest (lists q))) (λ r i. go r i (by_item p r) refl) t ++ empty placed p ps e t)
    where
      go : (r : Ranked Kept) → In (ranked (rank q) (oldest (lists q))) r → (b : Bool) → by_item p r ≡ b → b ≡ false
      go r i true w =
          let y : (k : Kept) × In (lists q) k × (r ≡ rank_of (rank q) k) = in-oldest (rank q) (lists q) r i in
          absurd (subst (λ (ks : List Kept). In ks y.0) (ap lists (whose placed p q r i w) ∙ e) y.1)
      go r i false w = refl

  in-all : (ps : List Place) (r : Ranked Kept) → In (all_ranked (journals_of rank lists ps)) r → (p : Place) × In (lists p) r.item × (r.number ≡ r.item.number)
  in-all [] r i = absurd i
  in-all (q ∷ ps) r i = elim (In-parts (ranked (rank q) (oldest (lists q))) (all_ranked (journals_of rank lists ps)) r i) [
    | inl j ↦
        let w : (k : Kept) × In (lists q) k × (r ≡ rank_of (rank q) k) = in-oldest (rank q) (lists q) r j in
        subst (λ (r : Ranked Kept). (p : Place) × In (lists p) r.item × (r.number ≡ r.item.number)) (sym w.2) (q, w.1, refl)
    | inr j ↦ in-all ps r j
  ]

  all-of : Placed → (p : Place) (ps : List Place) → Distinct ps → In ps p ⊎ (lists p ≡ []) → filter (by_item p) (all_ranked (journals_of rank lists ps)) ≡ ranked (rank p) (oldest (lists p))
  all-of placed p ps d (inl i) = present placed p ps d i
  all-of placed p ps d (inr e) = empty placed p ps e ∙ sym (ap (λ (ks : List Kept). ranked (rank p) (oldest ks)) e)

pub stitches-merge : StitchesMerge
stitches-merge lists rank names d covers rising placed = record {
  ordered = ordered-reversed (in_order (all_ranked (journals_of rank lists names))) (order-ascends (all_ranked (journals_of rank lists names)))
      (λ r i. (in-all lists rank names r (order-in (all_ranked (journals_of rank lists names)) r i)).2);
  whole = λ k i.
      let w : (r : Ranked Kept) × In (in_order (all_ranked (journals_of rank lists names))) r × (r.item ≡ k) = in-items (in_order (all_ranked (journals_of rank lists names))) k (in-reversed (stitched (journals_of rank lists names)) k i) in
      let y : (p : Place) × In (lists p) w.0.item × (w.0.number ≡ w.0.item.number) = in-all lists rank names w.0 (order-in (all_ranked (journals_of rank lists names)) w.0 w.1) in
      (y.0, subst (λ (k : Kept). In (lists y.0) k) w.2 y.1);
  parts = λ p.
      filter-reversed (stands_at p) (stitched (journals_of rank lists names)) ∙
      (ap (λ (ks : List Kept). reverse ks) (items-filter p (in_order (all_ranked (journals_of rank lists names))) ∙
      (ap (λ (rs : List (Ranked Kept)). items rs) (filter-order (by_item p) (all_ranked (journals_of rank lists names)) ∙ (ap (λ (rs : List (Ranked Kept)). in_order rs) (all-of lists rank placed p names d (covers p)) ∙ order-stays (ranked (rank p) (oldest (lists p))) (oldest-ascends (rank p) (lists p) (rising p)))) ∙
      oldest-items (rank p) (lists p))) ∙
      reverse-reverse (lists p));
}
