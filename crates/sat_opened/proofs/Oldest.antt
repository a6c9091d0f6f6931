-- A journal as the merge of journals takes it.
use Rattle.std.proofs.Common.{◌≡◌, ℕ, List, [], ◌∷◌, ◌++◌, map, refl, sym, ap, ◌∙◌, append_assoc}
use Rattle.std.proofs.lemmas.List.{append-nil}
use Rattle.sat_act.specs.declared.entry.Entry.{Entry}
use Rattle.sat_stitch.specs.Kept.{Kept}
use Rattle.sat_stitch.specs.Stitch.{oldest, entry_under}
use Rattle.sat_opened.specs.Keeping.{site_kept, serial_kept, behind, newest, kept_under}
use Rattle.sat_opened.specs.Laws.{SiteJournals, SerialJournals}

module _ {X : Type 0} (of : X → Kept) where
  abbrev numbered_kept : X → ℕ × Kept
  numbered_kept x = ((of x).number, of x)

  oldest-behind : (ks : List Kept) (xs : List X) → oldest (behind of ks xs) ≡ oldest ks ++ map numbered_kept xs
  oldest-behind ks [] = sym (append-nil (oldest ks))
  oldest-behind ks (x ∷ xs) = oldest-behind (of x ∷ ks) xs ∙ append_assoc (oldest ks) (numbered_kept x ∷ []) (map numbered_kept xs)

  same-entries : (xs : List X) → map (kept_under of) xs ≡ map entry_under (map numbered_kept xs)
  same-entries [] = refl
  same-entries (x ∷ xs) = ap (λ (es : List (ℕ × Entry)). kept_under of x ∷ es) (same-entries xs)

  journals-are : (xs : List X) → map (kept_under of) xs ≡ map entry_under (oldest (newest of xs))
  journals-are xs = same-entries xs ∙ ap (map entry_under) (sym (oldest-behind [] xs))

pub site_journals : SiteJournals
site_journals i es = journals-are (site_kept i) es

pub serial_journals : SerialJournals
serial_journals e z es = journals-are (serial_kept e z) es
