-- Where a byte first stands in a text.
use Rattle.std.proofs.Common.{◌≡◌, ℕ, ◌+◌, ◌-◌, ◌<◌, ◌≤◌, true, false, eqb, List, ◌∷◌, ◌++◌, length, take, drop, get_or, Some, None, sym, ap, ◌∙◌, arith, length-take, take_all}
use Rattle.std.proofs.lemmas.Bool.{false_from_ne_true, eqb-true}
use Rattle.std.proofs.lemmas.List.{drop_more, take-append-drop, get_or-take}
use Rattle.std.proofs.lemmas.List.Elements.{All-from_get_or}
use Rattle.memchr.specs.Find.{IsFirstByte, is_byte}
use Rattle.sat_script.specs.Words.{HasNo, IsCut}
use Rattle.sat_script.proofs.Cuts.{rest_is}

none_up : (b : ℕ) (xs : List ℕ) (n : ℕ) → n ≤ length xs → ((k : ℕ) → 0 ≤ k → k < n → ¬ (eqb (get_or xs k 0) b ≡ true)) → HasNo b (take n xs)
none_up b xs n few h =
    let size = length-take n xs in
    All-from_get_or (λ x. eqb x b ≡ false) (take n xs) 0
    (λ i inside. ap (λ x. eqb x b) (get_or-take n xs i 0 (omega (arith, size))) ∙ false_from_ne_true (eqb (get_or xs i 0) b) (h i (omega arith) (omega (arith, size))))

pub cut : (b : ℕ) (xs : List ℕ) (k : ℕ) → IsFirstByte (is_byte b) xs (Some k) → IsCut b xs (take k xs) (take (length xs - (k + 1)) (drop (k + 1) xs))
cut b xs k h = rw (rest_is xs (k + 1)) (record {
  none = none_up b xs k (omega (arith, h.0.high)) h.0.before;
  whole = sym (take-append-drop k xs) ∙ ap (λ t. take k xs ++ t) (drop_more xs k 0 h.0.high ∙ ap (λ x. x ∷ drop (k + 1) xs) (eqb-true (get_or xs k 0) b h.1));
})

pub uncut : (b : ℕ) (xs : List ℕ) → IsFirstByte (is_byte b) xs None → HasNo b xs
uncut b xs h = rw (take_all (length xs) xs (omega arith)) at (none_up b xs (length xs) (omega arith) h)
