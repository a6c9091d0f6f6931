-- What a session noted alone, and all that it noted, as entries.
use Rattle.std.proofs.Common.{◌≡◌, ℕ, true, false, Bool, List, [], ◌∷◌, ◌++◌, map, reverse, Option, Some, None, refl, sym, ap, ◌∙◌, subst, append_assoc, inl, inr}
use Rattle.std.proofs.lemmas.List.{map-append, append-nil}
use Rattle.sat_label.specs.declared.node.NodeName.{NodeName}
use Rattle.sat_label.specs.Members.{In}
use Rattle.sat_act.specs.declared.entry.Entry.{Entry}
use Rattle.sat_act.specs.Deployed.{Deployed}
use Rattle.sat_stitch.specs.Kept.{Nothing, Kept, entry_of, history}
use Rattle.sat_stitch.specs.Places.{Session, Operator}
use Rattle.sat_stitch.specs.Stitch.{oldest, entry_under}
use Rattle.sat_stitch.proofs.Stitches.{reverse-cons}
use Rattle.sat_joint.specs.Journals.{home_entries, noted, noted_if, oldest as pieces_oldest}
use Rattle.sat_joint.specs.Table.{Node, home_at}
use Rattle.sat_joint.proofs.Stitched.{noted-join}
use Rattle.sat_parts_opened.specs.Opened.{piece_of, pieces_of}
use Rattle.sat_parts_notes.proofs.Fits.{operator-places}
use Rattle.sat_session.specs.declared.noted.Noted.{Noted}
use Rattle.sat_session.specs.Sessions.{note_kept, kept_behind, kept_notes, put_alone, alone_behind, alone_notes, note_places, IsNote, NotesFrom}
use Rattle.sat_parts_notes.specs.Collecting.{Lines, alone_line, alone_lines, note_entry, noted_entries}

same-entry : (e : Entry) → e.inner ≡ false → e ≡ record { act = e.act; answer = e.answer; inner = false }
same-entry e outer = λ i. record { act = e.act; answer = e.answer; inner = outer i }

-- the entries of kept lists that are all at their homes
pub home-all : (d : Deployed) (p : Node) (ks : List Kept) → ((k : Kept) → In ks k → home_at d p (piece_of k) ≡ true) → home_entries (map (noted d p) (pieces_oldest (pieces_of ks))) ≡ map entry_under (oldest ks)
home-all d p [] f = refl
home-all d p (k ∷ ks) f =
    ap home_entries (map-append (noted d p) (pieces_oldest (pieces_of ks)) ((k.number, piece_of k) ∷ []))
    ∙ (noted-join (map (noted d p) (pieces_oldest (pieces_of ks))) ((k.number, entry_of k, home_at d p (piece_of k)) ∷ [])
    ∙ ((λ i. home-all d p ks (λ x j. f x (inr j)) i ++ noted_if (f k (inl refl) i) (k.number, entry_of k) []) ∙ sym (map-append entry_under (oldest ks) ((k.number, k) ∷ []))))

module _ (d : Deployed) (s : Session) where
  note-entry : (before : List Kept) (n : Noted) → n.entry.inner ≡ false → n.entry ≡ entry_of (note_kept d s before n)
  note-entry before n outer = same-entry n.entry outer

  put-line : (before ks : List Kept) (n : Noted) (o : Option NodeName) → n.entry.inner ≡ false → map entry_under (oldest (put_alone o (note_kept d s before n) ks)) ≡ map entry_under (oldest ks) ++ home_entries (alone_line n o)
  put-line before ks n (Some name) outer = sym (append-nil (map entry_under (oldest ks)))
  put-line before ks n None outer =
      map-append entry_under (oldest ks) ((n.lamport, note_kept d s before n) ∷ [])
      ∙ ap (λ (e : Entry). map entry_under (oldest ks) ++ (n.lamport, e) ∷ []) (sym (note-entry before n outer))

  -- what was noted alone, as lines, the oldest first
  alone-along : (before ks : List Kept) (ns : List Noted) → NotesFrom d s before ns → map entry_under (oldest (alone_behind d s before ks ns)) ≡ map entry_under (oldest ks) ++ home_entries (alone_lines ns)
  alone-along before ks [] f = sym (append-nil (map entry_under (oldest ks)))
  alone-along before ks (n ∷ ns) f =
      alone-along (note_kept d s before n ∷ before) (put_alone n.at (note_kept d s before n) ks) ns f.1
      ∙ (ap (λ (ls : List (ℕ × Entry)). ls ++ home_entries (alone_lines ns)) (put-line before ks n n.at f.0.outer)
      ∙ (append_assoc (map entry_under (oldest ks)) (home_entries (alone_line n n.at)) (home_entries (alone_lines ns))
      ∙ ap (λ (ls : List (ℕ × Entry)). map entry_under (oldest ks) ++ ls) (sym (noted-join (alone_line n n.at) (alone_lines ns)))))

  pub alone-is : (ns : List Noted) → NotesFrom d s [] ns → home_entries (alone_lines ns) ≡ map entry_under (oldest (alone_notes d s ns))
  alone-is ns f = sym (alone-along [] [] ns f)

  -- all that was noted, as entries, the newest first
  kept-along : (before : List Kept) (ns : List Noted) → NotesFrom d s before ns → history (kept_behind d s before ns) ≡ noted_entries ns ++ history before
  kept-along before [] f = refl
  kept-along before (n ∷ ns) f =
      kept-along (note_kept d s before n ∷ before) ns f.1
      ∙ (ap (λ (e : Entry). noted_entries ns ++ (e ∷ history before)) (sym (note-entry before n f.0.outer))
      ∙ (sym (append_assoc (noted_entries ns) (n.entry ∷ []) (history before)) ∙ ap (λ (es : List Entry). es ++ history before) (sym (reverse-cons n.entry (map note_entry ns)))))

  pub kept-is : (ns : List Noted) → NotesFrom d s [] ns → history (kept_notes d s ns) ≡ noted_entries ns
  kept-is ns f = kept-along [] ns f ∙ append-nil (noted_entries ns)

-- ---- the operator notes nothing alone

operator-line : (d : Deployed) (before : List Kept) (n : Noted) (o : Option NodeName) → IsNote d Operator before n → n.at ≡ o → alone_line n o ≡ []
operator-line d before n (Some name) is e = refl
operator-line d before n None is e = absurd (operator-places n.entry.act Nothing is.own (is.placed ∙ ap (note_places Operator) e))

operator-along : (d : Deployed) (before : List Kept) (ns : List Noted) → NotesFrom d Operator before ns → alone_lines ns ≡ []
operator-along d before [] f = refl
operator-along d before (n ∷ ns) f =
    ap (λ (ls : Lines). ls ++ alone_lines ns) (operator-line d before n n.at f.0 refl) ∙ operator-along d (note_kept d Operator before n ∷ before) ns f.1

pub operator-alone : (d : Deployed) (ns : List Noted) → NotesFrom d Operator [] ns → alone_lines ns ≡ []
operator-alone d ns f = operator-along d [] ns f
