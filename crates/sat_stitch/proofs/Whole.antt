-- Journals of entries alone, stitched, are the history of the stitched kept lists.
use Rattle.std.specs.Prelude.{◌≡◌, ℕ, Bool, true, false, List, [], ◌∷◌, ◌++◌, map, if◌then◌else◌, refl, reverse}
use Rattle.std.proofs.Common.{sym, subst, ap, ◌∙◌}
use Rattle.std.proofs.lemmas.List.{reverse-append}
use Rattle.sat_act.specs.declared.entry.Entry.{Entry}
use Rattle.sat_act.specs.Deployed.{Deployed}
use Rattle.sat_act.specs.Runs.{IsRun}
use Rattle.sat_act.specs.Settling.{run}
use Rattle.sat_stitch.specs.declared.journal.Ranked.{Ranked}
use Rattle.sat_stitch.specs.Kept.{Kept, entry_of, history, acts_of}
use Rattle.sat_stitch.specs.Places.{Place, Session, part_at, session_part}
use Rattle.sat_stitch.specs.Fit.{IsMerge}
use Rattle.sat_stitch.specs.Stitch.{Numbered, rank, ranked, all_ranked, comes_before, put, in_order, item_of, ordered, stitched, oldest, journals_of, entry_under, entry_journals, StitchesAreRuns}
use Rattle.sat_stitch.proofs.Merges.{merges-run, acts-are-enough, lists-are-parts, sessions-are-parts}
use Rattle.sat_stitch.proofs.Stitches.{stitches-merge}

module _ {X Y : Type 0} (f : X → Y) where
  abbrev over : Ranked X → Ranked Y
  over r = record { number = r.number; place = r.place; item = f r.item }

  put-over : (x : Ranked X) (ys : List (Ranked X)) → put (over x) (map over ys) ≡ map over (put x ys)
  put-over x [] = refl
  put-over x (y ∷ ys) = go (comes_before y x) (put-over x ys)
    where
      go : (b : Bool) → put (over x) (map over ys) ≡ map over (put x ys) → (if b then over y ∷ put (over x) (map over ys) else over x ∷ over y ∷ map over ys) ≡ map over (if b then y ∷ put x ys else x ∷ y ∷ ys)
      go true e = ap (λ (zs : List (Ranked Y)). over y ∷ zs) e
      go false e = refl

  order-over : (xs : List (Ranked X)) → in_order (map over xs) ≡ map over (in_order xs)
  order-over [] = refl
  order-over (x ∷ xs) = ap (λ (zs : List (Ranked Y)). put (over x) zs) (order-over xs) ∙ put-over x (in_order xs)

  items-over : (xs : List (Ranked X)) → map item_of (map over xs) ≡ map f (map item_of xs)
  items-over [] = refl
  items-over (x ∷ xs) = ap (λ (zs : List Y). f x.item ∷ zs) (items-over xs)

  ordered-over : (xs : List (Ranked X)) → ordered (map over xs) ≡ map f (ordered xs)
  ordered-over xs = ap (λ (zs : List (Ranked Y)). map item_of zs) (order-over xs) ∙ items-over (in_order xs)

map-join : {X Y : Type 0} (f : X → Y) (xs ys : List X) → map f (xs ++ ys) ≡ map f xs ++ map f ys
map-join f [] ys = refl
map-join f (x ∷ xs) ys = ap (λ zs. f x ∷ zs) (map-join f xs ys)

ranked-over : (n : ℕ) (es : List (ℕ × Kept)) → ranked n (map entry_under es) ≡ map (over entry_of) (ranked n es)
ranked-over n [] = refl
ranked-over n (e ∷ es) = ap (λ (zs : List (Ranked Entry)). rank n (entry_under e) ∷ zs) (ranked-over n es)

all-over : (rank : Place → ℕ) (lists : Place → List Kept) (ps : List Place) → all_ranked (entry_journals rank lists ps) ≡ map (over entry_of) (all_ranked (journals_of rank lists ps))
all-over rank lists [] = refl
all-over rank lists (p ∷ ps) =
    (λ i. ranked-over (rank p) (oldest (lists p)) i ++ all-over rank lists ps i) ∙
    sym (map-join (over entry_of) (ranked (rank p) (oldest (lists p))) (all_ranked (journals_of rank lists ps)))

reversed-map : {X Y : Type 0} (f : X → Y) (xs : List X) → reverse (map f xs) ≡ map f (reverse xs)
reversed-map f [] = refl
reversed-map f (x ∷ xs) =
    reverse-append (f x ∷ []) (map f xs) ∙
    (ap (λ zs. zs ++ f x ∷ []) (reversed-map f xs) ∙ (sym (map-join f (reverse xs) (x ∷ [])) ∙ ap (λ zs. map f zs) (sym (reverse-append (x ∷ []) xs))))

history-map : (ks : List Kept) → map entry_of ks ≡ history ks
history-map [] = refl
history-map (k ∷ ks) = ap (λ (zs : List Entry). entry_of k ∷ zs) (history-map ks)

stitched-history : (rank : Place → ℕ) (lists : Place → List Kept) (ps : List Place) → reverse (stitched (entry_journals rank lists ps)) ≡ history (reverse (stitched (journals_of rank lists ps)))
stitched-history rank lists ps =
    ap (λ (zs : List Entry). reverse zs) (ap (λ (rs : List (Ranked Entry)). ordered rs) (all-over rank lists ps) ∙ ordered-over entry_of (all_ranked (journals_of rank lists ps))) ∙
    (reversed-map entry_of (stitched (journals_of rank lists ps)) ∙ history-map (reverse (stitched (journals_of rank lists ps))))

abbrev Claim : Deployed → (Place → List Kept) → (Session → List Kept) → List Entry → Type 0
Claim d lists sessions h = IsRun d h × (run d (acts_of h) ≡ h) × ((p : Place) → part_at d h p ≡ history (lists p)) × ((s : Session) → session_part h s ≡ history (sessions s))

pub stitches-are-runs : StitchesAreRuns
stitches-are-runs js d lists sessions rank names v fit distinct covers e =
    let m : IsMerge lists (reverse (stitched (journals_of rank lists names))) = stitches-merge lists rank names distinct covers fit.rising fit.placed in
    let all : List Kept = reverse (stitched (journals_of rank lists names)) in
    subst (λ (h : List Entry). Claim d lists sessions h)
    (sym (ap (λ (js : List (Numbered Entry)). reverse (stitched js)) e ∙ stitched-history rank lists names))
    (merges-run d lists sessions all v fit m, acts-are-enough d lists sessions all v fit m, lists-are-parts d lists sessions all v fit m, sessions-are-parts d lists sessions all v fit m)
