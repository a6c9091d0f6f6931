-- Versions side by side, and for each item the place of its version.
use Rattle.std.specs.Prelude.{◌↔◌, ℕ, zero, suc, ◌≡◌, ◌<◌, ◌+◌, ◌⊎◌, List, [], ◌∷◌, ◌++◌, length, get_or, set, replicate, take, ◌-◌, slice_get, Bool, true, false, Option, Some, None, is_none, cond, if◌then◌else◌, refl, ◌≤◌, ◌^◌}
use Rattle.std.proofs.Common.{arith, ap, sym, ◌∙◌, subst, inl, inr}
use Rattle.std.proofs.lemmas.Bool.{cases_eq}
use Rattle.std.proofs.lemmas.List.{get_or-map, get_or-set_same, get_or-set_other, get_or_append_left, get_or_push, length-map, length-set, length_push, same_lists, take_all}
use Rattle.std.proofs.lemmas.List.Sums.{sum_by-set}
use Rattle.std.proofs.lemmas.Option.{same_Some, slice_get-get_or}
use Rattle.sat_label.specs.Versions.{Version}
use Rattle.sat_label.specs.declared.label.Label.{Label}
use Rattle.sat_label.specs.Order.{label_lt}
use Rattle.sat_store.specs.declared.store.Put.TheVariants.{Kept, Lower}
use Rattle.sat_store.specs.Stored.{version_at, newer, is_kept}
use Rattle.sat_store.specs.Placed.{at_place, placed, without_place, IsPlaced}

-- ---- what stands at a place

-- the version of an item is that at its place
pub version-placed : (versions : List Version) (places : List (Option ℕ)) (x : ℕ) → version_at (placed versions places) x ≡ at_place versions (get_or places x None)
version-placed versions [] x = refl
version-placed versions (p ∷ places) zero = refl
version-placed versions (p ∷ places) (suc x) = version-placed versions places x

-- of a list that goes on
before-push : (versions : List Version) (v : Version) (n : ℕ) → n < length versions → slice_get (versions ++ v ∷ []) n ≡ slice_get versions n
before-push versions v n low =
    slice_get-get_or (versions ++ v ∷ []) n v (let e : length (versions ++ v ∷ []) ≡ length versions + 1 = length_push versions v in omega arith)
    ∙ (ap (λ (w : Version). Some w) (get_or_append_left versions (v ∷ []) v n low) ∙ sym (slice_get-get_or versions n v low))

at-push : (versions : List Version) (v : Version) → slice_get (versions ++ v ∷ []) (length versions) ≡ Some v
at-push versions v =
    slice_get-get_or (versions ++ v ∷ []) (length versions) v (let e : length (versions ++ v ∷ []) ≡ length versions + 1 = length_push versions v in omega arith)
    ∙ ap (λ (w : Version). Some w) (get_or_push versions v v (length versions) refl)

-- of a list with another member at n
at-set : (versions : List Version) (v : Version) (n : ℕ) → n < length versions → slice_get (set versions n v) n ≡ Some v
at-set versions v n low =
    slice_get-get_or (set versions n v) n v (subst (λ (k : ℕ). n < k) (sym (length-set versions n v)) low)
    ∙ ap (λ (w : Version). Some w) (get_or-set_same versions n v v low)

beside-set : (versions : List Version) (v : Version) (n k : ℕ) → k < length versions → (k ≡ n → ⊥) → slice_get (set versions n v) k ≡ slice_get versions k
beside-set versions v n k low other =
    slice_get-get_or (set versions n v) k v (subst (λ (m : ℕ). k < m) (sym (length-set versions n v)) low)
    ∙ (ap (λ (w : Version). Some w) (get_or-set_other versions n k v v other) ∙ sym (slice_get-get_or versions k v low))

-- ---- the versions of all items, where that of one changes

-- the places are other ones, or the versions are: of item x it is v, and of each other one what it was
changed : (versions news : List Version) (places now : List (Option ℕ)) (x : ℕ) (v : Version) → length now ≡ length places → x < length places →
    at_place news (get_or now x None) ≡ Some v →
    ((k : ℕ) → (k ≡ x → ⊥) → at_place news (get_or now k None) ≡ at_place versions (get_or places k None)) →
    placed news now ≡ set (placed versions places) x (Some v)
changed versions news places now x v size low here others =
    same_lists (placed news now) (set (placed versions places) x (Some v)) sizes
    (λ k d h. let within : k < length now = subst (λ (m : ℕ). k < m) (length-map now (at_place news)) h in
    get_or-map (at_place news) now k None d within ∙ at k d (let e : length now ≡ length places = size in omega arith) (cases_eq k x))
  where
    sizes : length (placed news now) ≡ length (set (placed versions places) x (Some v))
    sizes = length-map now (at_place news) ∙ (size ∙ sym (length-set (placed versions places) x (Some v) ∙ length-map places (at_place versions)))

    at : (k : ℕ) (d : Option Version) → k < length places → (k ≡ x) ⊎ (k ≡ x → ⊥) → at_place news (get_or now k None) ≡ get_or (set (placed versions places) x (Some v)) k d
    at k d lt (inl same) =
        subst (λ (n : ℕ). at_place news (get_or now n None) ≡ get_or (set (placed versions places) x (Some v)) n d) (sym same)
        (here ∙ sym (get_or-set_same (placed versions places) x (Some v) d (subst (λ (m : ℕ). x < m) (sym (length-map places (at_place versions))) low)))
    at k d lt (inr other) =
        others k other ∙ (sym (get_or-map (at_place versions) places k None d lt) ∙ sym (get_or-set_other (placed versions places) x k (Some v) d other))

-- ---- a version of an item that had none

module _ (versions : List Version) (places : List (Option ℕ)) (capacity x : ℕ) (v : Version) (is : IsPlaced places versions capacity) (low : x < length places) (free : get_or places x None ≡ None) where
  -- an item's place now: that at the end, where it is x, or the one that it had
  place-then : (k p : ℕ) → get_or (set places x (Some (length versions))) k None ≡ Some p → ((k ≡ x) × (p ≡ length versions)) ⊎ ((k ≡ x → ⊥) × (get_or places k None ≡ Some p))
  place-then k p e = go (cases_eq k x)
    where
      go : (k ≡ x) ⊎ (k ≡ x → ⊥) → ((k ≡ x) × (p ≡ length versions)) ⊎ ((k ≡ x → ⊥) × (get_or places k None ≡ Some p))
      go (inl same) = inl (same, same_Some p (length versions) (sym e ∙ (ap (λ (n : ℕ). get_or (set places x (Some (length versions))) n None) same ∙ get_or-set_same places x (Some (length versions)) None low)))
      go (inr other) = inr (other, sym (get_or-set_other places x k (Some (length versions)) None other) ∙ e)

  longer : length (versions ++ v ∷ []) ≡ length versions + 1
  longer = length_push versions v

  within-then : (k p : ℕ) → get_or (set places x (Some (length versions))) k None ≡ Some p → p < length (versions ++ v ∷ [])
  within-then k p e = go (place-then k p e)
    where
      go : ((k ≡ x) × (p ≡ length versions)) ⊎ ((k ≡ x → ⊥) × (get_or places k None ≡ Some p)) → p < length (versions ++ v ∷ [])
      go (inl at) = let e : p ≡ length versions = at.1 in let l : length (versions ++ v ∷ []) ≡ length versions + 1 = longer in omega arith
      go (inr at) = let h : p < length versions = is.within k p at.1 in let l : length (versions ++ v ∷ []) ≡ length versions + 1 = longer in omega arith

  alone-then : (k m p : ℕ) → get_or (set places x (Some (length versions))) k None ≡ Some p → get_or (set places x (Some (length versions))) m None ≡ Some p → k ≡ m
  alone-then k m p e f = go (place-then k p e) (place-then m p f)
    where
      go : ((k ≡ x) × (p ≡ length versions)) ⊎ ((k ≡ x → ⊥) × (get_or places k None ≡ Some p)) → ((m ≡ x) × (p ≡ length versions)) ⊎ ((m ≡ x → ⊥) × (get_or places m None ≡ Some p)) → k ≡ m
      go (inl a) (inl b) = a.0 ∙ sym b.0
      go (inl a) (inr b) = absurd (let e : p ≡ length versions = a.1 in let h : p < length versions = is.within m p b.1 in omega arith)
      go (inr a) (inl b) = absurd (let e : p ≡ length versions = b.1 in let h : p < length versions = is.within k p a.1 in omega arith)
      go (inr a) (inr b) = is.alone k m p a.1 b.1

  -- one item fewer has no place
  fewer : without_place (set places x (Some (length versions))) + 1 ≡ without_place places
  fewer =
      let e : without_place (set places x (Some (length versions))) + cond {A = ℕ} (is_none (get_or places x None)) 1 0 ≡ without_place places + 0 =
      sum_by-set (λ (p : Option ℕ). cond (is_none p) 1 0) places x (Some (length versions)) None low in
      let one : cond {A = ℕ} (is_none (get_or places x None)) 1 0 ≡ 1 = ap (λ (p : Option ℕ). cond {A = ℕ} (is_none p) 1 0) free in
      omega arith

  pub added : IsPlaced (set places x (Some (length versions))) (versions ++ v ∷ []) capacity
  added = record {
    few = subst (λ (n : ℕ). n < 2 ^ 16) (sym (length-set places x (Some (length versions)))) is.few;
    within = within-then;
    alone = alone-then;
    counted = let e : without_place (set places x (Some (length versions))) + 1 ≡ without_place places = fewer in let l : length (versions ++ v ∷ []) ≡ length versions + 1 = longer in
        let s : length (set places x (Some (length versions))) ≡ length places = length-set places x (Some (length versions)) in omega arith;
    room = subst (λ (n : ℕ). n ≤ capacity) (sym (length-set places x (Some (length versions)))) is.room;
  }

  pub added-is : placed (versions ++ v ∷ []) (set places x (Some (length versions))) ≡ set (placed versions places) x (Some v)
  added-is = changed versions (versions ++ v ∷ []) places (set places x (Some (length versions))) x v (length-set places x (Some (length versions))) low
      (ap (at_place (versions ++ v ∷ [])) (get_or-set_same places x (Some (length versions)) None low) ∙ at-push versions v)
      (λ k other. ap (at_place (versions ++ v ∷ [])) (get_or-set_other places x k (Some (length versions)) None other) ∙ as-before k (get_or places k None) refl)
    where
      as-before : (k : ℕ) (p : Option ℕ) → get_or places k None ≡ p → at_place (versions ++ v ∷ []) p ≡ at_place versions p
      as-before k None e = refl
      as-before k (Some n) e = before-push versions v n (is.within k n e)

-- ---- another version of an item that had one

pub replaced-is : (versions : List Version) (places : List (Option ℕ)) (capacity x n : ℕ) (v : Version) → IsPlaced places versions capacity → x < length places → get_or places x None ≡ Some n →
    placed (set versions n v) places ≡ set (placed versions places) x (Some v)
replaced-is versions places capacity x n v is low at =
    changed versions (set versions n v) places places x v refl low
    (ap (at_place (set versions n v)) at ∙ at-set versions v n (is.within x n at))
    (λ k other. as-before k other (get_or places k None) refl)
  where
    as-before : (k : ℕ) → (k ≡ x → ⊥) → (p : Option ℕ) → get_or places k None ≡ p → at_place (set versions n v) p ≡ at_place versions p
    as-before k other None e = refl
    as-before k other (Some m) e = beside-set versions v n m (is.within k m e) (λ same. other (is.alone k x n (e ∙ ap (λ (j : ℕ). Some j) same) at))

-- ---- an empty store

none-placed : (versions : List Version) (n : ℕ) → placed versions (replicate n None) ≡ replicate n None
none-placed versions zero = refl
none-placed versions (suc n) = ap (λ (vs : List (Option Version)). None ∷ vs) (none-placed versions n)

-- an empty list that was filled up
filled : (n : ℕ) (places start : List (Option ℕ)) (count : ℕ) → places ≡ take n start ++ replicate (n - count) None → start ≡ [] → count ≡ 0 → places ≡ replicate n None
filled n places start count e empty none =
    e
    ∙ (ap (λ (ps : List (Option ℕ)). take n ps ++ replicate (n - count) None) empty
    ∙ (ap (λ (ps : List (Option ℕ)). ps ++ replicate (n - count) None) (take_all n [] (omega arith))
    ∙ ap (λ (m : ℕ). replicate m None) (let left : n - count ≡ n = omega arith in left)))

pub starts : (versions : List Version) (n : ℕ) (places start : List (Option ℕ)) (count : ℕ) → places ≡ take n start ++ replicate (n - count) None → start ≡ [] → count ≡ 0 → placed versions places ≡ replicate n None
starts versions n places start count e empty none = ap (placed versions) (filled n places start count e empty none) ∙ none-placed versions n

-- ---- as the store sees it

module _ (versions : List Version) (places slots : List (Option ℕ)) (capacity x : ℕ) (old : List (Option Version)) (view : placed versions places ≡ old) (is : IsPlaced places versions capacity) (low : x < length old) (read : slots ≡ places) where
  is-item : x < length places
  is-item = let e : length old ≡ length places = ap length (sym view) ∙ length-map places (at_place versions) in omega arith

  -- where the item has no place
  module _ (v : Version) (none : get_or slots x None ≡ None) where
    free : get_or places x None ≡ None
    free = ap (λ (ps : List (Option ℕ)). get_or ps x None) (sym read) ∙ none

    pub adds : (count : ℕ) (news : List Version) (room : ℕ) → count ≡ length versions → news ≡ versions ++ v ∷ [] → room ≡ capacity → IsPlaced (set places x (Some count)) news room
    adds count news room e f g =
        subst (λ (n : ℕ). IsPlaced (set places x (Some n)) news room) (sym e)
        (subst (λ (vs : List Version). IsPlaced (set places x (Some (length versions))) vs room) (sym f)
        (subst (λ (n : ℕ). IsPlaced (set places x (Some (length versions))) (versions ++ v ∷ []) n) (sym g) (added versions places capacity x v is is-item free)))

    pub adds-is : (count : ℕ) (news : List Version) → count ≡ length versions → news ≡ versions ++ v ∷ [] → placed news (set places x (Some count)) ≡ set old x (newer (version_at old x) v)
    adds-is count news e f =
        ap (λ (n : ℕ). placed news (set places x (Some n))) e
        ∙ (ap (λ (vs : List Version). placed vs (set places x (Some (length versions)))) f
        ∙ (added-is versions places capacity x v is is-item free
        ∙ (ap (λ (os : List (Option Version)). set os x (Some v)) view
        ∙ ap (λ (o : Option Version). set old x (newer o v)) (sym (ap (λ (os : List (Option Version)). version_at os x) (sym view) ∙ (version-placed versions places x ∙ ap (at_place versions) free))))))

  -- where it has place n, at which w stands
  module _ (n : ℕ) (w : Version) (some : get_or slots x None ≡ Some n) (here : w ≡ get_or versions n w) where
    has : get_or places x None ≡ Some n
    has = ap (λ (ps : List (Option ℕ)). get_or ps x None) (sym read) ∙ some

    version-is : version_at old x ≡ Some w
    version-is =
        ap (λ (os : List (Option Version)). version_at os x) (sym view)
        ∙ (version-placed versions places x
        ∙ (ap (at_place versions) has
        ∙ (slice_get-get_or versions n w (is.within x n has) ∙ ap (λ (u : Version). Some u) (sym here))))

    pub above : (label : Label) → label_lt w.label label ≡ true → (Kept ≡ Kept) ↔ is_kept (version_at old x) label
    above label e = (λ same. subst (λ (o : Option Version). is_kept o label) (sym version-is) e, λ kept. refl)

    pub below : (label : Label) → label_lt w.label label ≡ false → (Lower ≡ Kept) ↔ is_kept (version_at old x) label
    below label e = (λ same. absurd (cc), λ kept. absurd (let k : label_lt w.label label ≡ true = subst (λ (o : Option Version). is_kept o label) version-is kept in cc))

    -- u is the one that is kept
    replaces : (v u : Version) → newer (Some w) v ≡ Some u → placed (set versions n u) places ≡ set old x (newer (version_at old x) v)
    replaces v u e =
        replaced-is versions places capacity x n u is is-item has
        ∙ (ap (λ (os : List (Option Version)). set os x (Some u)) view
        ∙ (ap (λ (o : Option Version). set old x o) (sym e)
        ∙ ap (λ (o : Option Version). set old x (newer o v)) (sym version-is)))

    pub stays : (v : Version) → label_lt w.label v.label ≡ false → placed (set versions n w) places ≡ set old x (newer (version_at old x) v)
    stays v lower = replaces v w (ap (λ (b : Bool). if b then Some v else Some w) lower)

    pub goes : (v : Version) → label_lt w.label v.label ≡ true → placed (set versions n v) places ≡ set old x (newer (version_at old x) v)
    goes v above = replaces v v (ap (λ (b : Bool). if b then Some v else Some w) above)

-- ---- labels that were read and compared

pub compared : (a b old new : Label) (answer value : Bool) → answer ≡ label_lt a b → a ≡ old → b ≡ new → answer ≡ value → label_lt old new ≡ value
compared a b old new answer value is p q e =
    subst (λ (l : Label). label_lt l new ≡ value) p (subst (λ (l : Label). label_lt a l ≡ value) q (sym is ∙ e))
