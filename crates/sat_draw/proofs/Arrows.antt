-- One element more of a list that each gives some of.
use Rattle.std.proofs.Common.{◌≡◌, ℕ, ◌+◌, ◌<◌, List, ◌++◌, length, take, get_or, sym, ap, ◌∙◌}
use Rattle.std.specs.List.{flat_map}
use Rattle.std.proofs.lemmas.List.{take_more, flat_map_more}

pub one_more : {X Y : Type 0} (f : X → List Y) (old mid new : List Y) (xs : List X) (i : ℕ) (x : X) → i < length xs → new ≡ mid ++ f (get_or xs i x)
    → mid ≡ old ++ flat_map f (take i xs) → new ≡ old ++ flat_map f (take (i + 1) xs)
one_more f old mid new xs i x within added so-far =
    added ∙ (ap (λ ys. ys ++ f (get_or xs i x)) so-far ∙ (flat_map_more f old (take i xs) (get_or xs i x) ∙ ap (λ ys. old ++ flat_map f ys) (sym (take_more xs i x within))))
