-- The merge of entries alone is the merge of the pieces that they are of.
use Rattle.std.proofs.Common.{◌≡◌, ℕ, Bool, true, false, List, [], ◌∷◌, ◌++◌, map, filter, reverse, if◌then◌else◌, refl, sym, ap, ◌∙◌}
use Rattle.std.proofs.lemmas.List.{append-nil, map-append}
use Rattle.sat_act.specs.declared.entry.Entry.{Entry}
use Rattle.sat_act.specs.Deployed.{Deployed}
use Rattle.sat_stitch.specs.Kept.{entry_of, history}
use Rattle.sat_stitch.specs.Stitch.{all_ranked, comes_before, in_order, item_of, ordered, put, ranked, stitched}
use Rattle.sat_stitch.specs.declared.journal.Ranked.{Ranked}
use Rattle.sat_stitch.proofs.Stitches.{reverse-cons}
use Rattle.sat_joint.specs.Pieces.{Piece, plain, plains}
use Rattle.sat_joint.specs.Table.{Node, home_at}
use Rattle.sat_joint.specs.Journals.{home_entries, home_journal, homes, noted, noted_if, noted_journals, oldest, piece_journals}
use Rattle.sat_joint.proofs.Stitched.{noted-join}

-- ---- ranks whose items are made into others

module _ {X Y : Type 0} (f : X → Y) where
  abbrev over : Ranked X → Ranked Y
  over r = record { number = r.number; place = r.place; item = f r.item }

  put-over : (x : Ranked X) (ys : List (Ranked X)) → put (over x) (map over ys) ≡ map over (put x ys)
  put-over x [] = refl
  put-over x (y ∷ ys) = go (comes_before y x) (put-over x ys)
    where
      go : (b : Bool) → put (over x) (map over ys) ≡ map over (put x ys) → (if b then over y ∷ put (over x) (map over ys) else over x ∷ over y ∷ map over ys) ≡ map over (if b then y ∷ put x ys else x ∷ y ∷ ys)
      go true e = ap (λ (zs : List (Ranked Y)). over y ∷ zs) e
      go false e = refl

  order-over : (xs : List (Ranked X)) → in_order (map over xs) ≡ map over (in_order xs)
  order-over [] = refl
  order-over (x ∷ xs) = ap (λ (zs : List (Ranked Y)). put (over x) zs) (order-over xs) ∙ put-over x (in_order xs)

  items-over : (xs : List (Ranked X)) → map item_of (map over xs) ≡ map f (map item_of xs)
  items-over [] = refl
  items-over (x ∷ xs) = ap (λ (zs : List Y). f x.item ∷ zs) (items-over xs)

  ordered-over : (xs : List (Ranked X)) → ordered (map over xs) ≡ map f (ordered xs)
  ordered-over xs = ap (λ (zs : List (Ranked Y)). map item_of zs) (order-over xs) ∙ items-over (in_order xs)

  reversed-map : (xs : List X) → reverse (map f xs) ≡ map f (reverse xs)
  reversed-map [] = refl
  reversed-map (x ∷ xs) =
      reverse-cons (f x) (map f xs)
      ∙ (ap (λ (zs : List Y). zs ++ f x ∷ []) (reversed-map xs) ∙ (sym (map-append f (reverse xs) (x ∷ [])) ∙ ap (λ (zs : List X). map f zs) (sym (reverse-cons x xs))))

-- ---- pieces as entries

abbrev entry_in : Piece → Entry
entry_in k = entry_of (plain k)

history-map : (ks : List Piece) → map entry_in ks ≡ history (plains ks)
history-map [] = refl
history-map (k ∷ ks) = ap (λ (zs : List Entry). entry_in k ∷ zs) (history-map ks)

abbrev under_number : ℕ × Piece → ℕ × Entry
under_number e = (e.0, entry_in e.1)

-- the entries at their homes are those of the pieces at their homes
home-oldest : (d : Deployed) (p : Node) (ks : List Piece) → home_entries (map (noted d p) (oldest ks)) ≡ map under_number (oldest (filter (home_at d p) ks))
home-oldest d p [] = refl
home-oldest d p (k ∷ ks) =
    ap home_entries (map-append (noted d p) (oldest ks) ((k.number, k) ∷ []))
    ∙ (noted-join (map (noted d p) (oldest ks)) (noted d p (k.number, k) ∷ []) ∙ go (home_at d p k) (home-oldest d p ks))
  where
    go : (b : Bool) → home_entries (map (noted d p) (oldest ks)) ≡ map under_number (oldest (filter (home_at d p) ks)) →
        home_entries (map (noted d p) (oldest ks)) ++ noted_if b (k.number, entry_in k) [] ≡ map under_number (oldest (if b then k ∷ filter (home_at d p) ks else filter (home_at d p) ks))
    go true e = ap (λ (zs : List (ℕ × Entry)). zs ++ (k.number, entry_in k) ∷ []) e ∙ sym (map-append under_number (oldest (filter (home_at d p) ks)) ((k.number, k) ∷ []))
    go false e = append-nil (home_entries (map (noted d p) (oldest ks))) ∙ e

ranked-over : (n : ℕ) (es : List (ℕ × Piece)) → ranked n (map under_number es) ≡ map (over entry_in) (ranked n es)
ranked-over n [] = refl
ranked-over n (e ∷ es) = ap (λ (zs : List (Ranked Entry)). record { number = e.0; place = n; item = entry_in e.1 } ∷ zs) (ranked-over n es)

all-over : (d : Deployed) (rank : Node → ℕ) (lists : Node → List Piece) (ps : List Node) → all_ranked (map home_journal (noted_journals d rank lists ps)) ≡ map (over entry_in) (all_ranked (piece_journals rank (homes d lists) ps))
all-over d rank lists [] = refl
all-over d rank lists (p ∷ ps) =
    (λ i. (ap (λ (es : List (ℕ × Entry)). ranked (rank p) es) (home-oldest d p (lists p)) ∙ ranked-over (rank p) (oldest (homes d lists p))) i ++ all-over d rank lists ps i)
    ∙ sym (map-append (over entry_in) (ranked (rank p) (oldest (homes d lists p))) (all_ranked (piece_journals rank (homes d lists) ps)))

pub stitched-history : (d : Deployed) (rank : Node → ℕ) (lists : Node → List Piece) (ps : List Node) → reverse (stitched (map home_journal (noted_journals d rank lists ps))) ≡ history (plains (reverse (stitched (piece_journals rank (homes d lists) ps))))
stitched-history d rank lists ps =
    ap (λ (zs : List Entry). reverse zs) (ap (λ (rs : List (Ranked Entry)). ordered rs) (all-over d rank lists ps) ∙ ordered-over entry_in (all_ranked (piece_journals rank (homes d lists) ps)))
    ∙ (reversed-map entry_in (stitched (piece_journals rank (homes d lists) ps)) ∙ history-map (reverse (stitched (piece_journals rank (homes d lists) ps))))
