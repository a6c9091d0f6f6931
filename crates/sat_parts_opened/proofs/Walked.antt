-- Journals of hubs and gears, entry by entry, as lines of machines, as pieces of acts, and as kept lists.
use Rattle.std.proofs.Common.{◌≡◌, ℕ, zero, suc, List, [], ◌∷◌, ◌++◌, Option, Some, None, slice_get, refl, sym, ap, ◌∙◌, subst, append_assoc, inl, inr}
use Rattle.std.proofs.lemmas.List.{append-nil}
use Rattle.sat_label.specs.Members.{In}
use Rattle.sat_laws.proofs.Labels.{some_is}
use Rattle.sat_node.specs.declared.kept.Kept.{Kept as Line}
use Rattle.sat_node.specs.declared.kept.Made.{Made}
use Rattle.sat_node.specs.Puts.{Putting, putting, puttings}
use Rattle.sat_stitch.specs.Kept.{Kept, numbered}
use Rattle.sat_joint.specs.Pieces.{Piece, EachOf, piece_marks, plains}
use Rattle.sat_hub_laws.specs.Lines.{HubLine, GearLine, hub_pieces, gear_pieces}
use Rattle.sat_parts.specs.declared.hub_answer.HubAnswer.{HubAnswer}
use Rattle.sat_parts.specs.declared.gear_answer.GearAnswer.{GearAnswer}
use Rattle.sat_parts.specs.Acts.{HubActSeen, GearActSeen}
use Rattle.sat_parts.specs.Lines.{hub_line, gear_line, hub_behind, gear_behind, hub_lines, gear_lines}
use Rattle.sat_opened.specs.Keeping.{behind, newest}
use Rattle.sat_opened.proofs.Walks.{Along}
use Rattle.sat_opened.proofs.Handings.{sort_of, sorted}
use Rattle.sat_parts_opened.specs.Keeping.{gear_kept, hub_kept}

-- ---- along entries, with what stands before each, the newest first

module _ {X L : Type 0} (of : X → L) where
  -- of each entry, with the lines before it
  abbrev pub Past : (List L → X → Type 0) → List L → List X → Type 0
  Past P ls [] = Unit {0}
  Past P ls (x ∷ xs) = P ls x × Past P (of x ∷ ls) xs

  pub past-more : (P Q : List L → X → Type 0) (ls : List L) (xs : List X) → ((b : List L) (x : X) → In xs x → P b x → Q b x) → Past P ls xs → Past Q ls xs
  past-more P Q ls [] f a = tt
  past-more P Q ls (x ∷ xs) f a = (f ls x (inl refl) a.0, past-more P Q (of x ∷ ls) xs (λ b y i. f b y (inr i)) a.1)

  pub past-at : (P : List L → X → Type 0) (ls : List L) (xs : List X) (n : ℕ) (x : X) → Past P ls xs → slice_get xs n ≡ Some x → (b : List L) × P b x
  past-at P ls [] n x a e = absurd (cc)
  past-at P ls (y ∷ ys) zero x a e = (ls, subst (P ls) (some_is y x e) a.0)
  past-at P ls (y ∷ ys) (suc n) x a e = past-at P (of y ∷ ls) ys n x a.1 e

  -- these entries, the oldest first, behind lines
  abbrev pub lined : List L → List X → List L
  lined ls [] = ls
  lined ls (x ∷ xs) = lined (of x ∷ ls) xs

  pub each-lined : (P : List L → L → Type 0) (Q : List L → X → Type 0) (ls : List L) (xs : List X) → ((b : List L) (x : X) → In xs x → Q b x → P b (of x)) → EachOf P ls → Past Q ls xs → EachOf P (lined ls xs)
  each-lined P Q ls [] f e a = e
  each-lined P Q ls (x ∷ xs) f e a = each-lined P Q (of x ∷ ls) xs (λ b y i. f b y (inr i)) (e, f ls x (inl refl) a.0) a.1

-- what holds of entries with lines before them holds of them with kept ones before them
module _ {X L : Type 0} (of : X → L) (on : X → Kept) (kept : List L → List Kept) (same : (x : X) (ls : List L) → kept (of x ∷ ls) ≡ on x ∷ kept ls) where
  pub past-kept : (P : List L → X → Type 0) (Q : List Kept → X → Type 0) (ls : List L) (xs : List X) → ((b : List L) (x : X) → In xs x → P b x → Q (kept b) x) → Past of P ls xs → Along on Q (kept ls) xs
  past-kept P Q ls [] f a = tt
  past-kept P Q ls (x ∷ xs) f a = (
    f ls x (inl refl) a.0,
    subst (λ (ks : List Kept). Along on Q ks xs) (same x ls) (past-kept P Q (of x ∷ ls) xs (λ b y i. f b y (inr i)) a.1),
  )

  pub kept-lined : (ls : List L) (xs : List X) → kept (lined of ls xs) ≡ behind on (kept ls) xs
  kept-lined ls [] = refl
  kept-lined ls (x ∷ xs) = kept-lined (of x ∷ ls) xs ∙ ap (λ (ks : List Kept). behind on ks xs) (same x ls)

-- ---- hubs

abbrev pub hub_plains : ℕ → List HubLine → List Kept
hub_plains i ls = plains (hub_pieces i ls)

pub hub-lined : (ls : List HubLine) (es : List (Line HubActSeen HubAnswer)) → lined hub_line ls es ≡ hub_behind ls es
hub-lined ls [] = refl
hub-lined ls (k ∷ ks) = hub-lined (hub_line k ∷ ls) ks

pub hub-newest : (i : ℕ) (es : List (Line HubActSeen HubAnswer)) → hub_plains i (hub_lines es) ≡ newest (hub_kept i) es
hub-newest i es = ap (hub_plains i) (sym (hub-lined [] es)) ∙ kept-lined hub_line (hub_kept i) (hub_plains i) (λ x ls. refl) [] es

-- ---- gears

abbrev pub gear_plains : ℕ → ℕ → List GearLine → List Kept
gear_plains i g ls = plains (gear_pieces i g ls)

pub gear-lined : (ls : List GearLine) (es : List (Line GearActSeen GearAnswer)) → lined gear_line ls es ≡ gear_behind ls es
gear-lined ls [] = refl
gear-lined ls (k ∷ ks) = gear-lined (gear_line k ∷ ls) ks

pub gear-newest : (i g : ℕ) (es : List (Line GearActSeen GearAnswer)) → gear_plains i g (gear_lines es) ≡ newest (gear_kept i g) es
gear-newest i g es = ap (gear_plains i g) (sym (gear-lined [] es)) ∙ kept-lined gear_line (gear_kept i g) (gear_plains i g) (λ x ls. refl) [] es

-- ---- what pieces give, as what entries put

module _ {I A L Y : Type 0} (of : Line I A → L) (pieces : List L → List Piece) (piece : L → Piece) (more : (l : L) (ls : List L) → pieces (l ∷ ls) ≡ piece l ∷ pieces ls) (number : (x : Line I A) → (piece (of x)).number ≡ x.lamport)
    (sort : Made → Option Y) (put : I → A → Option Made) (f : List Piece → Piece → Option Y) where
  put-one : (n m : ℕ) (o : Option Made) (y : Option Y) (ps : List Putting) → m ≡ n → sort_of sort o ≡ y → sorted sort (putting n o ++ ps) ≡ numbered m y ++ sorted sort ps
  put-one n m None y ps e w = ap (λ (y : Option Y). numbered m y ++ sorted sort ps) w
  put-one n m (Some x) y ps e w = λ i. numbered (sym e i) (w i) ++ sorted sort ps

  pub marks-lined : (ls : List L) (xs : List (Line I A)) → Past of (λ b x. sort_of sort (put x.input x.answer) ≡ f (pieces b) (piece (of x))) ls xs → piece_marks f (pieces (lined of ls xs)) ≡ piece_marks f (pieces ls) ++ sorted sort (puttings put xs)
  marks-lined ls [] a = sym (append-nil (piece_marks f (pieces ls)))
  marks-lined ls (x ∷ xs) a =
      marks-lined (of x ∷ ls) xs a.1 ∙
      (ap (λ (ps : List Piece). piece_marks f ps ++ sorted sort (puttings put xs)) (more (of x) ls) ∙
      (append_assoc (piece_marks f (pieces ls)) (numbered (piece (of x)).number (f (pieces ls) (piece (of x)))) (sorted sort (puttings put xs)) ∙
      ap (λ (zs : List (ℕ × Y)). piece_marks f (pieces ls) ++ zs) (sym (put-one x.lamport (piece (of x)).number (put x.input x.answer) (f (pieces ls) (piece (of x))) (puttings put xs) (number x) a.0))))
