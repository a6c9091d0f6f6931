-- The journals of sessions as lists of pieces, and all nodes.
use Rattle.std.proofs.Common.{◌≡◌, ◌⊎◌, ℕ, ◌+◌, Bool, true, false, nat_lt, List, [], ◌∷◌, ◌++◌, map, length, if◌then◌else◌, refl, sym, ap, ◌∙◌, subst, inl, inr}
use Rattle.sat_label.specs.declared.node.NodeName.{NodeName}
use Rattle.sat_label.specs.declared.node.NodeName.TheVariants as named
use Rattle.sat_label.specs.Members.{In}
use Rattle.sat_label.proofs.Members.{In-left, In-right}
use Rattle.sat_act.specs.declared.entry.Entry.{Entry}
use Rattle.sat_act.specs.Deployed.{Deployed}
use Rattle.sat_stitch.specs.Kept.{Kept, Distinct, history}
use Rattle.sat_stitch.specs.Places.{Session, Client as Owner, Operator}
use Rattle.sat_stitch.specs.Stitch.{Numbered, oldest, entry_under}
use Rattle.sat_joint.specs.Pieces.{Piece}
use Rattle.sat_joint.specs.Table.{Alone, AtGear, AtHub, AtSerial, Node}
use Rattle.sat_joint.specs.Journals.{Covers, home_entries, home_journal, noted_journals}
use Rattle.sat_opened.specs.Laws.{SerialHeld}
use Rattle.sat_opened.proofs.Distincts.{distinct-join}
use Rattle.sat_opened.proofs.Layouts.{in-mapped}
use Rattle.sat_parts_opened.specs.Keeping.{node_of}
use Rattle.sat_parts_opened.specs.Laws.{AreJournals, GearHeld, HubHeld, part_nodes}
use Rattle.sat_parts_opened.specs.Opened.{pieces_at, pieces_of}
use Rattle.sat_parts_opened.proofs.Named.{nodes-cover}
use Rattle.sat_session.specs.declared.noted.Noted.{Noted}
use Rattle.sat_session.specs.Notes.{SessionSeen, session_at, session_notes}
use Rattle.sat_session.specs.Sessions.{kept_notes, alone_notes, notes_by, kept_by, alone_in, NotesFrom, AreSessions, SameNotes, session_number}
use Rattle.sat_session.proofs.Owned.{look-up, found, one-session, same-session}
use Rattle.sat_parts_notes.specs.Collecting.{Lines, alone_lines, session_journal, noted_entries}
use Rattle.sat_parts_notes.specs.Laws.{pieces_alone}
use Rattle.sat_parts_notes.specs.Notes.{part_notes}
use Rattle.sat_parts_notes.proofs.Alone.{alone-is, home-all, kept-is, operator-alone}
use Rattle.sat_parts_notes.proofs.Fits.{placed-alone}
use Rattle.sat_parts_notes.proofs.Places.{lines_in, rank_at}

abbrev pub session_node : SessionSeen → Node
session_node x = Alone x.number

in-sessions : (xs : List SessionSeen) (x : SessionSeen) → In xs x → In (map session_node xs) (session_node x)
in-sessions [] x i = absurd i
in-sessions (y ∷ xs) x (inl e) = inl (ap session_node e)
in-sessions (y ∷ xs) x (inr i) = inr (in-sessions xs x i)

one-number : (b c : ℕ) → Alone b ≡ Alone c → b ≡ c
one-number b c e = cc

number-there : (xs : List SessionSeen) (c : ℕ) → In (map session_node xs) (Alone c) → In (map session_number xs) c
number-there [] c i = absurd i
number-there (x ∷ xs) c (inl e) = inl (one-number x.number c e)
number-there (x ∷ xs) c (inr i) = inr (number-there xs c i)

distinct-sessions : (xs : List SessionSeen) → Distinct (map session_number xs) → Distinct (map session_node xs)
distinct-sessions [] a = tt
distinct-sessions (x ∷ xs) a = (distinct-sessions xs a.0, λ i. a.1 (number-there xs x.number i))

no-node : (name : NodeName) (c : ℕ) → node_of name ≡ Alone c → ⊥
no-node (named.Site i) c e = cc
no-node (named.Serializer f z) c e = cc
no-node (named.Gear i g) c e = cc

-- the session of a number that a client has
at-client : (d : Deployed) (n c : ℕ) → session_at d n ≡ Owner c → (n ≡ c) × (nat_lt n (length d.clients) ≡ true)
at-client d n c e = go (nat_lt n (length d.clients)) refl e
  where
    go : (b : Bool) → nat_lt n (length d.clients) ≡ b → (if b then Owner n else Operator) ≡ Owner c → (n ≡ c) × (nat_lt n (length d.clients) ≡ true)
    go true w v = (cc, w)
    go false w v = absurd (cc)

is-client : (d : Deployed) (n : ℕ) → nat_lt n (length d.clients) ≡ true → session_at d n ≡ Owner n
is-client d n e = ap (λ (b : Bool). if b then Owner n else Operator) e

is-operator : (d : Deployed) (n : ℕ) → nat_lt n (length d.clients) ≡ false → session_at d n ≡ Operator
is-operator d n e = ap (λ (b : Bool). if b then Owner n else Operator) e

module _ (d : Deployed) (xs : List SessionSeen) (are : AreSessions d xs) where
  one : (a b : SessionSeen) → In xs a → In xs b → session_at d a.number ≡ session_at d b.number → a ≡ b
  one a b i j e = one-session xs a b are.apart i j (same-session d a.number b.number (are.each a i).limit (are.each b j).limit e)

  found-notes : (x : SessionSeen) (s : Session) → In xs x → session_at d x.number ≡ s → notes_by d xs s ≡ x.noted
  found-notes x s i e = found d s xs x one i e

  notes-from : (x : SessionSeen) (s : Session) → In xs x → session_at d x.number ≡ s → NotesFrom d s [] x.noted
  notes-from x s i e = subst (λ (t : Session). NotesFrom d t [] x.noted) e (are.each x i).notes

  -- a number that no client has, has no notes alone
  none-alone : (n : ℕ) → nat_lt n (length d.clients) ≡ false → alone_in d xs n ≡ []
  none-alone n e = elim (look-up d (Owner n) xs) [
    | inl f ↦ absurd (
        let w : (f.session.number ≡ n) × (nat_lt f.session.number (length d.clients) ≡ true) = at-client d f.session.number n f.of in
        let v : nat_lt n (length d.clients) ≡ true = subst (λ (k : ℕ). nat_lt k (length d.clients) ≡ true) w.0 w.1 in cc)
    | inr none ↦ ap (alone_notes d (Owner n)) none
  ]

  -- what each session noted alone is the list of its node
  alone-line : (x : SessionSeen) → In xs x → home_entries (alone_lines x.noted) ≡ map entry_under (oldest (alone_in d xs x.number))
  alone-line x i = go (nat_lt x.number (length d.clients)) refl
    where
      go : (b : Bool) → nat_lt x.number (length d.clients) ≡ b → home_entries (alone_lines x.noted) ≡ map entry_under (oldest (alone_in d xs x.number))
      go true e =
          alone-is d (Owner x.number) x.noted (notes-from x (Owner x.number) i (is-client d x.number e))
          ∙ ap (λ (ns : List Noted). map entry_under (oldest (alone_notes d (Owner x.number) ns))) (sym (found-notes x (Owner x.number) i (is-client d x.number e)))
      go false e =
          ap home_entries (operator-alone d x.noted (notes-from x Operator i (is-operator d x.number e)))
          ∙ ap (λ (ks : List Kept). map entry_under (oldest ks)) (sym (none-alone x.number e))

  -- and all that it noted is what it kept
  pub kept-entries : (x : SessionSeen) → In xs x → history (kept_by d xs (session_at d x.number)) ≡ noted_entries x.noted
  kept-entries x i =
      ap (λ (ns : List Noted). history (kept_notes d (session_at d x.number) ns)) (found-notes x (session_at d x.number) i refl)
      ∙ kept-is d (session_at d x.number) x.noted (notes-from x (session_at d x.number) i refl)

  pub no-entries : (s : Session) → ((x : SessionSeen) → In xs x → session_at d x.number ≡ s → ⊥) → history (kept_by d xs s) ≡ []
  no-entries s f = elim (look-up d s xs) [
    | inl g ↦ absurd (f g.session g.there g.of)
    | inr none ↦ ap (λ (ns : List Noted). history (kept_notes d s ns)) none
  ]

  module _ (hubs : List HubHeld) (gears : List GearHeld) (serials : List SerialHeld) (all : AreJournals d hubs gears serials) (same : SameNotes (part_notes hubs gears serials) (session_notes d xs)) where
    abbrev lists : Node → List Piece
    lists = pieces_at hubs gears serials (pieces_alone d xs)

    session-line : (x : SessionSeen) → In xs x → home_entries (alone_lines x.noted) ≡ home_entries (lines_in d lists (Alone x.number))
    session-line x i = alone-line x i ∙ sym (home-all d (Alone x.number) (alone_in d xs x.number) (placed-alone d hubs gears serials xs all are same x.number))

    journals-along : (base : ℕ) (ps : List Node) (ys : List SessionSeen) → ((x : SessionSeen) → In ys x → In xs x) →
        map home_journal (map (session_journal base) ys) ≡ map home_journal (noted_journals d (rank_at base ps) lists (map session_node ys))
    journals-along base ps [] f = refl
    journals-along base ps (x ∷ ys) f =
        let t : map home_journal (map (session_journal base) ys) ≡ map home_journal (noted_journals d (rank_at base ps) lists (map session_node ys)) = journals-along base ps ys (λ y i. f y (inr i)) in
        let l : home_entries (alone_lines x.noted) ≡ home_entries (lines_in d lists (Alone x.number)) = session-line x (f x (inl refl)) in
        λ i. (base + x.number, l i) ∷ t i

    pub session-journals : (base : ℕ) (ps : List Node) → map home_journal (map (session_journal base) xs) ≡ map home_journal (noted_journals d (rank_at base ps) lists (map session_node xs))
    session-journals base ps = journals-along base ps xs (λ x i. i)

    -- ---- all nodes

    pub all-distinct : Distinct (part_nodes d ++ map session_node xs)
    all-distinct =
        distinct-join (part_nodes d) (map session_node xs) (nodes-cover d hubs gears serials (pieces_alone d xs) all).0 (distinct-sessions xs are.apart) apart
      where
        of-node : (p : Node) → In (part_nodes d) p → (n : NodeName) × (node_of n ≡ p)
        of-node p i = (let w = in-mapped node_of _ p i in (w.0, w.2))

        apart : (p : Node) → In (part_nodes d) p → In (map session_node xs) p → ⊥
        apart p i j =
            let w : (n : NodeName) × (node_of n ≡ p) = of-node p i in
            let v : (x : SessionSeen) × In xs x × (session_node x ≡ p) = in-mapped session_node xs p j in
            no-node w.0 v.0.number (w.1 ∙ sym v.2)

    covered : (name : NodeName) → In (part_nodes d ++ map session_node xs) (node_of name) ⊎ (lists (node_of name) ≡ [])
    covered name = elim ((nodes-cover d hubs gears serials (pieces_alone d xs) all).1 name) [
      | inl j ↦ inl (In-left (part_nodes d) (map session_node xs) (node_of name) j)
      | inr none ↦ inr none
    ]

    pub all-covered : Covers lists (part_nodes d ++ map session_node xs)
    all-covered (AtHub i) = covered (named.Site i)
    all-covered (AtGear i g) = covered (named.Gear i g)
    all-covered (AtSerial e z) = covered (named.Serializer e z)
    all-covered (Alone c) = elim (look-up d (Owner c) xs) [
      | inl f ↦ inl (In-right (part_nodes d) (map session_node xs) (Alone c)
          (subst (λ (n : ℕ). In (map session_node xs) (Alone n)) (at-client d f.session.number c f.of).0 (in-sessions xs f.session f.there)))
      | inr none ↦ inr (ap (λ (ns : List Noted). pieces_of (alone_notes d (Owner c) ns)) none)
    ]
