-- Blocks of placements, one for each place of the first serializer.
use Rattle.std.proofs.Common.{ℕ, zero, suc, ◌≡◌, ◌<◌, ◌-◌, ◌+◌, List, [], ◌∷◌, length, map, get_or, Result, Ok, IfOk, refl, arith, ap, ◌∙◌, sym, subst}
use Rattle.std.specs.List.{range_with_len, AllZip}
use Rattle.std.specs.declared.alloc.AllocError.{AllocError}
use Rattle.std.proofs.lemmas.List.FromFn.{get_or-range_with_len, length-range_with_len}
use Rattle.std.proofs.lemmas.Slice.Zip.{AllZip-long}
use Rattle.sat_tree.specs.Shape.{TreeShape}
use Rattle.sat_tree.specs.Flaw.{IsSmallTree}
use Rattle.sat_delay.specs.Table.{DelayTable}
use Rattle.sat_plan.specs.Mismatch.{pairs}
use Rattle.sat_place.specs.declared.placed.Placed.{Placed}
use Rattle.sat_place.specs.declared.ways.Way.{Way}
use Rattle.sat_place.specs.Placing.{IsLeast}
use Rattle.sat_place.specs.Search.{best_from, lower_of, tried}
use Rattle.sat_place.specs.Ways.{way_of, known, AreWays}
use Rattle.sat_place.proofs.Found.{tried_more, tried_all, worst_yields}
use Rattle.sat_place.proofs.Costs.{known_small}
use Rattle.sat_place.proofs.Worth.{is_least}

pub range_is : (start end n places : ℕ) → start ≡ 0 → end ≡ n → n ≡ places → range_with_len start (end - start) ≡ range_with_len 0 places
range_is start end n places from to is = let whole : end - start ≡ places = omega arith in rw (whole, from) refl

pub in_range : (start end n places k d : ℕ) → start ≡ 0 → end ≡ n → n ≡ places → k < length (range_with_len start (end - start)) → get_or (range_with_len start (end - start)) k d < places
in_range start end n places k d from to is under =
    let count = length-range_with_len start (end - start) in
    let inside : k < end - start = omega arith in
    let at = get_or-range_with_len start (end - start) k d inside in
    omega arith

-- what the blocks are
unfoldable pub AreBlocks : DelayTable → List Way → ℕ → List (Result Placed AllocError) → Type 0
AreBlocks d ways left found = AllZip (λ place best. IfOk best (λ b. b ≡ best_from (known d ways) d.places left (place ∷ []))) (range_with_len 0 d.places) found

zip_at : {A B : Type 0} (R : A → B → Type 0) (xs : List A) (ys : List B) (k : ℕ) (d : A) (e : B) → AllZip R xs ys → k < length xs → R (get_or xs k d) (get_or ys k e)
zip_at R [] ys k d e zip under = absurd (omega arith)
zip_at R (x ∷ xs) [] k d e zip under = absurd zip
zip_at R (x ∷ xs) (y ∷ ys) zero d e zip under = zip.0
zip_at R (x ∷ xs) (y ∷ ys) (suc k) d e zip under = zip_at R xs ys k d e zip.1 (omega arith)

blocks_count : (d : DelayTable) (ways : List Way) (left : ℕ) (found : List (Result Placed AllocError)) → AreBlocks d ways left found → length found ≡ d.places
unfolding AreBlocks
blocks_count d ways left found blocks = AllZip-long _ _ _ blocks ∙ length-range_with_len 0 d.places

block_at : (d : DelayTable) (ways : List Way) (left k : ℕ) (found : List (Result Placed AllocError)) (block : Result Placed AllocError) (placed : Placed) → AreBlocks d ways left found → k < length found → block ≡ get_or found k block → block ≡ Ok placed → placed ≡ best_from (known d ways) d.places left (k ∷ [])
unfolding AreBlocks
block_at d ways left k found block placed blocks under at is =
    let R : ℕ → Result Placed AllocError → Type 0 = λ place best. IfOk best (λ b. b ≡ best_from (known d ways) d.places left (place ∷ [])) in
    let whole = blocks_count d ways left found blocks in
    let inside : k < length (range_with_len 0 d.places) = let count = length-range_with_len 0 d.places in omega arith in
    let number : get_or (range_with_len 0 d.places) k 0 ≡ k = get_or-range_with_len 0 d.places k 0 (omega arith) ∙ omega arith in
    let here : R (get_or (range_with_len 0 d.places) k 0) (get_or found k block) = zip_at R (range_with_len 0 d.places) found k 0 block blocks inside in
    let there : R k (get_or found k block) = subst (λ p. R p (get_or found k block)) number here in
    let own : R k (Ok placed) = subst (λ b. R k b) (sym at ∙ is) there in
    own

pub block_more : (d : DelayTable) (ways given : List Way) (left n k : ℕ) (found items : List (Result Placed AllocError)) (block : Result Placed AllocError) (worst placed before after : Placed) → AreBlocks d given n found → given ≡ ways → n ≡ left → items ≡ found → k < length items → block ≡ get_or items k block → block ≡ Ok placed → before ≡ tried (known d ways) d.places left [] worst k → after ≡ lower_of before placed → after ≡ tried (known d ways) d.places left [] worst (k + 1)
block_more d ways given left n k found items block worst placed before after blocks same count all under at is was then =
    let own : placed ≡ best_from (known d given) d.places n (k ∷ []) = block_at d given n k found block placed blocks (let l = ap length all in omega arith) (at ∙ ap (λ xs. get_or xs k block) all) is in
    tried_more (known d ways) d.places left k [] (k ∷ []) worst before after refl was
    (then ∙ ap (lower_of before) (own ∙ ap (λ ws. best_from (known d ws) d.places n (k ∷ [])) same ∙ ap (λ m. best_from (known d ways) d.places m (k ∷ [])) count))

pub blocks_all : (d : DelayTable) (t : TreeShape) (ways given : List Way) (n k : ℕ) (found items : List (Result Placed AllocError)) (worst best : Placed) → AreBlocks d given n found → items ≡ found → k ≡ length items → AreWays d ways → IsSmallTree t → ways ≡ map (way_of d t) (pairs d.sites) → worst.mismatch ≡ 18446744073709551615 → best ≡ tried (known d ways) d.places (length t.parents - 1) [] worst k → IsLeast d t best.places best.mismatch
blocks_all d t ways given n k found items worst best blocks all whole are small is high tries =
    is_least d t ways best are.limits small is
    (worst_yields (known d ways) d.places (length t.parents) [] worst best (known_small d ways are) high
    (tried_all (known d ways) d.places (length t.parents - 1) (length t.parents) [] worst best are.limits.some_place (let some = small.some_serializer in omega arith)
    (tries ∙ ap (tried (known d ways) d.places (length t.parents - 1) [] worst) (whole ∙ ap length all ∙ blocks_count d given n found blocks))))
