-- One site more in a sum and in a list.
use Rattle.std.proofs.Common.{◌≡◌, ℕ, ◌+◌, ◌-◌, ◌^◌, ◌∷◌, ◌++◌, List, length, min, codes, refl, ap, add-one, arith}
use Rattle.std.specs.Fmt.{decimal}
use Rattle.sat_act.specs.declared.entry.Entry.{Entry}
use Rattle.sat_act.specs.Parts.{view, waiting}
use Rattle.sat_act.specs.Settling.{capped}
use Rattle.sat_report.specs.Summary.{waiting_count, views_text}

pub none_wait : (h : List Entry) → 0 ≡ capped (waiting_count h 0)
unfolding waiting_count
none_wait h = refl

more : (h : List Entry) (n : ℕ) → waiting_count h (n + 1) ≡ waiting_count h n + length (waiting h n)
unfolding waiting_count
more h n = ap (waiting_count h) (add-one n)

pub more_wait : (h : List Entry) (n a b : ℕ) → a ≡ capped (waiting_count h n) → b ≡ length (waiting h n) → min (a + b) (2 ^ 64 - 1) ≡ capped (waiting_count h (n + 1))
more_wait h n a b one two = rw (more h n) (omega arith)

pub no_views : (h : List Entry) → codes "views" ≡ views_text h 0
unfolding views_text
no_views h = refl

pub more_views : (h : List Entry) (n : ℕ) → views_text h (n + 1) ≡ views_text h n ++ 32 ∷ decimal (view h n)
unfolding views_text
more_views h n = ap (views_text h) (add-one n)
