-- Words behind an act.
use Rattle.std.proofs.Common.{Bor, ◌≡◌, ℕ, ◌<◌, ◌≤◌, length, arith, Bool, true, false, ◌&&◌, cond, List, [], ◌∷◌, None, refl, codes, bytes_eq}
use Rattle.sat_act.specs.Deployed.{Deployed}
use Rattle.sat_act.specs.declared.act.Act.{Act}
use Rattle.sat_script.proofs.Cuts.{texts}
use Rattle.sat_audit.specs.Told.{answered, is_some_text, pointed, read_words, shown_words, told_in}

pub answered_none : (d : Deployed) (a : Act) (words : List (Bor (List ℕ))) → length words ≡ 0 → answered d a (texts words) ≡ None
unfolding answered
answered_none d a [] none = refl
answered_none d a (word ∷ words) none = absurd (omega (arith, none))

-- ---- texts of another number of words

pub pointed_few : (d : Deployed) (keyword : List ℕ) (words : List (Bor (List ℕ))) → length words < 2 → pointed d keyword (texts words) ≡ None
unfolding pointed
pointed_few d keyword [] few = refl
pointed_few d keyword (a ∷ []) few = refl
pointed_few d keyword (a ∷ b ∷ words) few = absurd (omega (arith, few))

pub pointed_many : (d : Deployed) (keyword : List ℕ) (words : List (Bor (List ℕ))) → 3 ≤ length words → pointed d keyword (texts words) ≡ None
unfolding pointed
pointed_many d keyword [] many = refl
pointed_many d keyword (a ∷ []) many = refl
pointed_many d keyword (a ∷ b ∷ []) many = absurd (omega (arith, many))
pointed_many d keyword (a ∷ b ∷ c ∷ words) many = refl

pub read_few : (d : Deployed) (words : List (Bor (List ℕ))) → length words < 2 → read_words d (texts words) ≡ None
unfolding read_words
read_few d [] few = refl
read_few d (a ∷ []) few = refl
read_few d (a ∷ b ∷ words) few = absurd (omega (arith, few))

pub read_many : (d : Deployed) (words : List (Bor (List ℕ))) → 4 ≤ length words → read_words d (texts words) ≡ None
unfolding read_words
read_many d [] many = refl
read_many d (a ∷ []) many = refl
read_many d (a ∷ b ∷ []) many = absurd (omega (arith, many))
read_many d (a ∷ b ∷ c ∷ []) many = absurd (omega (arith, many))
read_many d (a ∷ b ∷ c ∷ e ∷ words) many = refl

pub shown_few : (d : Deployed) (words : List (Bor (List ℕ))) → length words < 3 → shown_words d (texts words) ≡ None
unfolding shown_words
shown_few d [] few = refl
shown_few d (a ∷ []) few = refl
shown_few d (a ∷ b ∷ []) few = refl
shown_few d (a ∷ b ∷ c ∷ words) few = absurd (omega (arith, few))

pub shown_many : (d : Deployed) (words : List (Bor (List ℕ))) → 4 ≤ length words → shown_words d (texts words) ≡ None
unfolding shown_words
shown_many d [] many = refl
shown_many d (a ∷ []) many = refl
shown_many d (a ∷ b ∷ []) many = refl
shown_many d (a ∷ b ∷ c ∷ []) many = absurd (omega (arith, many))
shown_many d (a ∷ b ∷ c ∷ e ∷ words) many = refl

-- ---- an arrow and a text

pub answered_other : (d : Deployed) (a : Act) (arrow : List ℕ) (words : List (List ℕ)) → bytes_eq arrow (codes "->") ≡ false → answered d a (arrow ∷ words) ≡ None
unfolding answered
answered_other d a arrow words e = rw e refl

pub answered_empty : (d : Deployed) (a : Act) (arrow : List ℕ) (words : List (List ℕ)) → is_some_text words ≡ false → answered d a (arrow ∷ words) ≡ None
unfolding answered
answered_empty d a arrow words e = go (bytes_eq arrow (codes "->"))
  where
    go : (b : Bool) → cond (b && is_some_text words) (told_in d a words) None ≡ None
    go true = rw e refl
    go false = refl

pub answered_text : (d : Deployed) (a : Act) (arrow : List ℕ) (words : List (List ℕ)) → bytes_eq arrow (codes "->") ≡ true → is_some_text words ≡ true → answered d a (arrow ∷ words) ≡ told_in d a words
unfolding answered
answered_text d a arrow words e some = rw (e, some) refl
