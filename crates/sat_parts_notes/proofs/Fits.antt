-- What sessions kept fits the journals of hubs, gears and serializers that noted the same.
use Rattle.std.proofs.Common.{◌≡◌, ◌⊎◌, ℕ, Bool, true, ◌==◌, List, [], ◌∷◌, ◌++◌, length, map, Option, Some, None, slice_get, refl, sym, ap, ◌∙◌, subst, inl, inr}
use Rattle.std.specs.List.{flat_map}
use Rattle.sat_label.specs.declared.node.NodeName.{NodeName}
use Rattle.sat_label.specs.declared.node.NodeName.TheVariants as named
use Rattle.sat_label.specs.Members.{In}
use Rattle.sat_label.specs.Words.{below}
use Rattle.sat_label.proofs.Members.{In-left, In-right, In-parts, In-get}
use Rattle.sat_label.proofs.Truth.{same-number}
use Rattle.sat_laws.proofs.Labels.{some_is}
use Rattle.sat_laws.proofs.Links.{In-place}
use Rattle.sat_act.specs.declared.act.Act.{Act}
use Rattle.sat_act.specs.declared.act.Act.TheVariants as act
use Rattle.sat_act.specs.declared.answer.Answer.{Answer}
use Rattle.sat_act.specs.Deployed.{Deployed}
use Rattle.sat_act.specs.Parts.{seat}
use Rattle.sat_act.specs.Answers.{InRange}
use Rattle.sat_model.specs.Replay.{carrying}
use Rattle.sat_node.specs.declared.kept.Kept.{Kept as Line}
use Rattle.sat_node.specs.Meanings.{Runs}
use Rattle.sat_machines.specs.Layout.{Planted, trees_of}
use Rattle.sat_machines.specs.declared.serial_act.SerialAct.{SerialAct}
use Rattle.sat_machines.specs.declared.serial_act.SerialAnswer.{SerialAnswer}
use Rattle.sat_stitch.specs.Kept.{Given, Nothing, OfClient, Kept, Each, history}
use Rattle.sat_stitch.specs.Places.{Place, InSession, places, Session, Client as Owner, Operator, session_of}
use Rattle.sat_stitch.specs.Fit.{IsKnown}
use Rattle.sat_stitch.specs.Nodes.{IsAnswerAt, IsSessionAnswer, stands}
use Rattle.sat_joint.specs.Pieces.{EachOf, Piece, Plain, Rises, number_of, plains}
use Rattle.sat_joint.specs.Table.{Alone, AtGear, AtHub, AtSerial, Node, home_at, is_first, nodes}
use Rattle.sat_joint.specs.Joint.{AnswersAtHome, KnowsClient}
use Rattle.sat_hub_laws.specs.Laws.{IsOtherList}
use Rattle.sat_hub_laws.specs.Lines.{GearLine, HubLine, gear_piece, gear_pieces, hub_piece, hub_pieces}
use Rattle.sat_hub_laws.proofs.Lines.{gears-are-homes, hubs-are-homes}
use Rattle.sat_parts.specs.declared.hub_answer.HubAnswer.{HubAnswer}
use Rattle.sat_parts.specs.declared.gear_answer.GearAnswer.{GearAnswer}
use Rattle.sat_parts.specs.Acts.{GearActSeen, HubActSeen, IsBy, client_in, gear_handed, hub_handed, is_gear_clients, is_hub_clients}
use Rattle.sat_parts.specs.Gears.{gear_meaning}
use Rattle.sat_parts.specs.Hubs.{hub_meaning}
use Rattle.sat_parts.specs.Layout.{gear_names, site_gears}
use Rattle.sat_parts.specs.Lines.{gear_line, gear_lines, hub_line, hub_lines}
use Rattle.sat_opened.specs.Keeping.{newest, serial_kept, serial_owner}
use Rattle.sat_opened.specs.Opened.{entries_at, name_in, tree_names}
use Rattle.sat_opened.specs.Laws.{SerialHeld}
use Rattle.sat_opened.proofs.Distincts.{in-map}
use Rattle.sat_opened.proofs.Found.{Found, look-up}
use Rattle.sat_opened.proofs.Layouts.{in-mapped}
use Rattle.sat_opened.proofs.Owners.{serials_have_owners}
use Rattle.sat_parts_opened.specs.Keeping.{gear_kept, gear_owner, hub_kept, hub_owner, is_own_line}
use Rattle.sat_parts_opened.specs.Laws.{AreJournals, GearHeld, HubHeld, SessionsFit}
use Rattle.sat_parts_opened.specs.Opened.{piece_of, pieces_at, pieces_of}
use Rattle.sat_parts_opened.proofs.Named.{gears-are-kept, gears-have-owners, hubs-are-kept, hubs-have-owners, own-is, serials-are-kept}
use Rattle.sat_parts_opened.proofs.Serials.{plains-are, serial-home}
use Rattle.sat_parts_opened.proofs.Steps.{GearStep, HubStep, gear-steps, hub-steps}
use Rattle.sat_parts_opened.proofs.Walked.{past-at}
use Rattle.sat_session.specs.declared.noted.Noted.{Noted}
use Rattle.sat_session.specs.Owned.{Owned}
use Rattle.sat_session.specs.Notes.{SessionSeen, session_at, serial_note, serial_notes, notes_at_serial, own_notes, notes_of, session_notes}
use Rattle.sat_session.specs.Sessions.{note_given, note_kept, notes_by, kept_by, alone_in, note_places, IsNote, NotesFrom, NotesRise, IsSession, AreSessions, SameNotes}
use Rattle.sat_session.proofs.Matches.{serial-matches}
use Rattle.sat_session.proofs.Owned.{in-flat, into-flat, into-behind, in-behind, OfSerial, in-serial, into-serial, OfSession, in-own, into-own, look-up as find-session, found, one-session, same-session}
use Rattle.sat_session.proofs.Walks.{Comes, in-kept, note-comes, Alone as OwnAlone, in-alone, alone-kept, kept-rises, alone-rises, kept-known, alone-answers}
use Rattle.sat_parts_notes.specs.Laws.{NotesFit, pieces_alone, pieces_by}
use Rattle.sat_parts_notes.specs.Notes.{gear_note, gear_owned, hub_note, hub_owned, notes_at_gear, notes_at_hub, part_notes}
use Rattle.sat_parts_notes.proofs.Matches.{gear-matches, hub-matches}
use Rattle.sat_parts_notes.proofs.Members.{GearPiece, HubPiece, IsPieceOf, OfGear, OfHub, each-piece, from-piece, in-gear, in-gear-pieces, in-hub, in-hub-pieces, into-gear, into-gear-pieces, into-hub, into-hub-pieces, into-pieces, pieces-rise}

-- ---- acts of a session alone

-- a session's own answers stand
stands-alone : (a : Act) (x : Given) (r : Answer) → IsSessionAnswer a x r → stands r ≡ true
stands-alone (act.Write c n value) (OfClient seen None) r e = ap stands e
stands-alone (act.Writes c items values) (OfClient seen None) r e = ap stands e
stands-alone (act.Read c n) (OfClient seen None) r e = ap stands e
stands-alone (act.Move c j) (OfClient seen None) r e = ap stands e
stands-alone (act.Leave c) (OfClient seen None) r e = ap stands e
stands-alone (act.Leave c) (OfClient seen (Some i)) r e = ap stands e
stands-alone (act.Attach c j) (OfClient seen (Some i)) r e = ap stands e
stands-alone _ _ r e = absurd e

-- an act of the operator stands at a node
pub operator-places : (a : Act) (x : Given) → session_of a ≡ Some Operator → places a x ≡ [] → ⊥
operator-places (act.Close i) x e w = cc
operator-places (act.Fall i) x e w = cc
operator-places (act.Kill f z) x e w = cc
operator-places _ x e w = cc

own-session : (b c : ℕ) → InSession b ∷ [] ≡ InSession c ∷ [] → (b == c) ≡ true
own-session b c e = (let w : b ≡ c = cc in subst (λ (n : ℕ). (b == n) ≡ true) w (same-number b))

-- an act in a client's session alone has its home there
alone-home : (d : Deployed) (a : Act) (x : Given) (r : Answer) (c : ℕ) → places a x ≡ InSession c ∷ [] → is_first (Alone c) (nodes d a x r) ≡ true
alone-home d (act.Write b n value) (OfClient seen None) r c e = own-session b c e
alone-home d (act.Writes b items values) (OfClient seen None) r c e = own-session b c e
alone-home d (act.Read b n) (OfClient seen None) r c e = own-session b c e
alone-home d (act.Move b j) (OfClient seen None) r c e = own-session b c e
alone-home d (act.Leave b) x r c e = own-session b c e
alone-home d (act.Attach b j) (OfClient seen (Some i)) r c e = own-session b c e
alone-home d _ _ r c e = absurd (cc)

pieces-answer : (d : Deployed) (c : ℕ) (lists : Node → List Piece) (ks : List Kept) → Each (IsAnswerAt d (InSession c)) ks → EachOf (AnswersAtHome d lists (Alone c)) (pieces_of ks)
pieces-answer d c lists [] a = tt
pieces-answer d c lists (k ∷ ks) a = (pieces-answer d c lists ks a.0, λ h. a.1)

-- what a client's session kept was handed what the client carried, and its seat
pieces-know : (d : Deployed) (c : ℕ) (lists : Node → List Piece) (ks : List Kept) → Each (IsKnown d (λ p. []) c) ks → EachOf (KnowsClient d lists c) (pieces_of ks)
pieces-know d c lists [] a = tt
pieces-know d c lists (k ∷ ks) a = (
  pieces-know d c lists ks a.0,
  subst (λ (before : List Kept). Plain k.given ≡ Plain (OfClient (carrying (history before) c) (seat d (history before) c))) (sym (plains-are ks)) (ap Plain a.1),
)

-- the same notes of a session, and so what it kept
module _ (d : Deployed) (hubs : List HubHeld) (gears : List GearHeld) (serials : List SerialHeld) (xs : List SessionSeen) (opened : AreJournals d hubs gears serials) (are : AreSessions d xs)
    (same : SameNotes (part_notes hubs gears serials) (session_notes d xs)) where
  abbrev lists : Node → List Piece
  lists = pieces_at hubs gears serials (pieces_alone d xs)

  one : (a b : SessionSeen) → In xs a → In xs b → session_at d a.number ≡ session_at d b.number → a ≡ b
  one a b i j e = one-session xs a b are.apart i j (same-session d a.number b.number (are.each a i).limit (are.each b j).limit e)

  -- what is known of a session's notes, also where there is no such session
  record Known (s : Session) (ns : List Noted) : Type 0 where
    notes : NotesFrom d s [] ns
    rises : NotesRise 0 ns

  none-known : (s : Session) → Known s []
  none-known s = record { notes = tt; rises = tt }

  session-known : (s : Session) (x : SessionSeen) → IsSession d x → session_at d x.number ≡ s → Known s x.noted
  session-known s x is e = record { notes = subst (λ (t : Session). NotesFrom d t [] x.noted) e is.notes; rises = is.rises }

  known : (s : Session) → Known s (notes_by d xs s)
  known s = elim (find-session d s xs) [
    | inl f ↦ subst (λ (ns : List Noted). Known s ns) (sym f.notes) (session-known s f.session (are.each f.session f.there) f.of)
    | inr none ↦ subst (λ (ns : List Noted). Known s ns) (sym none) (none-known s)
  ]

  -- ---- what each client kept alone fits its session

  comes-alone : (c : ℕ) (k : Kept) → In (alone_in d xs c) k → OwnAlone d (Owner c) (notes_by d xs (Owner c)) k
  comes-alone c k i = elim (in-alone d (Owner c) [] [] (notes_by d xs (Owner c)) k (known (Owner c)).notes i) [ inl none ↦ absurd none | inr a ↦ a ]

  alone-placed : (c : ℕ) (k : Kept) → OwnAlone d (Owner c) (notes_by d xs (Owner c)) k → places k.act k.given ≡ InSession c ∷ []
  alone-placed c k a = subst (λ (k : Kept). places k.act k.given ≡ InSession c ∷ []) a.same (a.is_note.placed ∙ ap (note_places (Owner c)) a.nowhere)

  pub placed-alone : (c : ℕ) (k : Kept) → In (alone_in d xs c) k → home_at d (Alone c) (piece_of k) ≡ true
  placed-alone c k i = alone-home d k.act k.given k.answer c (alone-placed c k (comes-alone c k i))

  ranges-alone : (c : ℕ) (k : Kept) → In (alone_in d xs c) k → InRange d k.act
  ranges-alone c k i = (let a : OwnAlone d (Owner c) (notes_by d xs (Owner c)) k = comes-alone c k i in subst (λ (k : Kept). InRange d k.act) a.same (a.is_note.ranges a.nowhere))

  stand-alone : (c : ℕ) (k : Kept) → In (alone_in d xs c) k → stands k.answer ≡ true
  stand-alone c k i =
      let a : OwnAlone d (Owner c) (notes_by d xs (Owner c)) k = comes-alone c k i in
      subst (λ (k : Kept). stands k.answer ≡ true) a.same (stands-alone a.note.entry.act (note_given d (Owner c) a.before a.note) a.note.entry.answer (a.is_note.answers a.nowhere))

  alone-fits : (c : ℕ) → IsOtherList d (Alone c) (pieces_alone d xs c)
  alone-fits c = record {
    rising = pieces-rise (alone_in d xs c) (alone-rises d (Owner c) 0 [] [] (notes_by d xs (Owner c)) tt (λ x i. absurd i) (known (Owner c)).rises);
    placed = each-piece (λ p. home_at d (Alone c) p ≡ true) (alone_in d xs c) (placed-alone c);
    ranges = each-piece (λ p. InRange d p.act) (alone_in d xs c) (ranges-alone c);
    answers = pieces-answer d c (λ p. pieces_alone d xs c) (alone_in d xs c) (alone-answers d c [] [] (notes_by d xs (Owner c)) tt (known (Owner c)).notes);
    standing = each-piece (λ p. stands p.answer ≡ true) (alone_in d xs c) (stand-alone c);
  }

  -- ---- the nodes by their names, and their lists

  hub-named : (h : HubHeld) → In hubs h → (i : ℕ) × (h.node.name ≡ named.Site i)
  hub-named h m =
      let there : In (map name_in hubs) h.node.name = in-map name_in hubs h m in
      let w : (k : ℕ) × In (below d.sites) k × (named.Site k ≡ h.node.name) = in-mapped named.Site (below d.sites) h.node.name (subst (λ (ns : List NodeName). In ns h.node.name) opened.all_hubs there) in
      (w.0, sym w.2)

  gear-named : (h : GearHeld) → In gears h → (i : ℕ) × ((g : ℕ) × (h.node.name ≡ named.Gear i g))
  gear-named h m =
      let there : In (map name_in gears) h.node.name = in-map name_in gears h m in
      let w : (i : ℕ) × In (below d.sites) i × In (site_gears d.gears i) h.node.name = in-flat (site_gears d.gears) (below d.sites) h.node.name (subst (λ (ns : List NodeName). In ns h.node.name) opened.all_gears there) in
      let v : (g : ℕ) × In (below d.gears) g × (named.Gear w.0 g ≡ h.node.name) = in-mapped (named.Gear w.0) (below d.gears) h.node.name w.2 in
      (w.0, (v.0, sym v.2))

  serial-named : (h : SerialHeld) → In serials h → (e : ℕ) × ((z : ℕ) × (h.node.name ≡ named.Serializer e z))
  serial-named h m =
      let there : In (map name_in serials) h.node.name = in-map name_in serials h m in
      let w : (p : Planted) × In (trees_of d) p × In (tree_names p) h.node.name = in-flat tree_names (trees_of d) h.node.name (subst (λ (ns : List NodeName). In ns h.node.name) opened.all_serials there) in
      let v : (z : ℕ) × In (below (length w.0.tree.parents)) z × (named.Serializer w.0.epoch z ≡ h.node.name) = in-mapped (named.Serializer w.0.epoch) (below (length w.0.tree.parents)) h.node.name w.2 in
      (w.0.epoch, (v.0, sym v.2))

  hub-list : (h : HubHeld) (i : ℕ) → In hubs h → h.node.name ≡ named.Site i → lists (AtHub i) ≡ hub_pieces i (hub_lines h.node.entries)
  hub-list h i m e = (let w : (n : ℕ) × (slice_get hubs n ≡ Some h) = In-place hubs h m in hubs-are-kept d hubs gears serials (pieces_alone d xs) opened w.0 i h w.1 e)

  gear-list : (h : GearHeld) (i g : ℕ) → In gears h → h.node.name ≡ named.Gear i g → lists (AtGear i g) ≡ gear_pieces i g (gear_lines h.node.entries)
  gear-list h i g m e = (let w : (n : ℕ) × (slice_get gears n ≡ Some h) = In-place gears h m in gears-are-kept d hubs gears serials (pieces_alone d xs) opened w.0 i g h w.1 e)

  serial-list : (h : SerialHeld) (e z : ℕ) → In serials h → h.node.name ≡ named.Serializer e z → lists (AtSerial e z) ≡ pieces_of (newest (serial_kept e z) h.node.entries)
  serial-list h e z m w = (let v : (n : ℕ) × (slice_get serials n ≡ Some h) = In-place serials h m in serials-are-kept d hubs gears serials (pieces_alone d xs) opened v.0 e z h v.1 w)

  -- ---- what each entry of a journal met

  hub-step : (h : HubHeld) (i : ℕ) (k : Line HubActSeen HubAnswer) → In hubs h → h.node.name ≡ named.Site i → In h.node.entries k → (b : List HubLine) × HubStep d i b k
  hub-step h i k m name there =
      let w : (n : ℕ) × (slice_get hubs n ≡ Some h) = In-place hubs h m in
      let v : (n : ℕ) × (slice_get h.node.entries n ≡ Some k) = In-place h.node.entries k there in
      let runs : Runs (hub_meaning d) (named.Site i) h.node.entries = subst (λ (x : NodeName). Runs (hub_meaning d) x h.node.entries) name (opened.each_hub w.0 h w.1) in
      past-at hub_line (HubStep d i) [] h.node.entries v.0 k (hub-steps d i h.node.entries runs) v.1

  gear-step : (h : GearHeld) (i g : ℕ) (k : Line GearActSeen GearAnswer) → In gears h → h.node.name ≡ named.Gear i g → In h.node.entries k → (b : List GearLine) × GearStep d i g b k
  gear-step h i g k m name there =
      let w : (n : ℕ) × (slice_get gears n ≡ Some h) = In-place gears h m in
      let v : (n : ℕ) × (slice_get h.node.entries n ≡ Some k) = In-place h.node.entries k there in
      let runs : Runs (gear_meaning d) (named.Gear i g) h.node.entries = subst (λ (x : NodeName). Runs (gear_meaning d) x h.node.entries) name (opened.each_gear w.0 h w.1) in
      past-at gear_line (GearStep d i g) [] h.node.entries v.0 k (gear-steps d i g h.node.entries runs) v.1

  hub-by : (h : HubHeld) (i : ℕ) (k : Line HubActSeen HubAnswer) → In hubs h → h.node.name ≡ named.Site i → In h.node.entries k → IsBy d k.input.by (is_hub_clients k.input.input)
  hub-by h i k m name there = (hub-step h i k m name there).1.fits_there.by

  gear-by : (h : GearHeld) (i g : ℕ) (k : Line GearActSeen GearAnswer) → In gears h → h.node.name ≡ named.Gear i g → In h.node.entries k → IsBy d k.input.by (is_gear_clients k.input.input)
  gear-by h i g k m name there = (gear-step h i g k m name there).1.fits_there.by

  hub-home : (i : ℕ) (k : Line HubActSeen HubAnswer) → home_at d (AtHub i) (hub_piece i (hub_line k)) ≡ true
  hub-home i k = hubs-are-homes d i (client_in k.input.by) (hub_handed k.input.input) k.answer.answer

  -- a gear is the home of what it keeps exactly where that is an act of its own
  gear-home : (h : GearHeld) (i g : ℕ) (k : Line GearActSeen GearAnswer) → In gears h → h.node.name ≡ named.Gear i g → In h.node.entries k → home_at d (AtGear i g) (gear_piece i g (gear_line k)) ≡ is_own_line k
  gear-home h i g k m name there =
      gears-are-homes d i g (client_in k.input.by) (gear_handed k.input.input) k.answer.answer ∙ sym (own-is d g (gear_handed k.input.input) (gear-step h i g k m name there).1.fits_there.fits)

  -- ---- an entry that a session kept is one of its home, or was kept alone

  abbrev Somewhere : Kept → Type 0
  Somewhere k = (p : Node) × In (lists p) (piece_of k) × (home_at d p (piece_of k) ≡ true)

  from-hub : (h : HubHeld) (s : Session) (before : List Kept) (n : Noted) → In hubs h → IsNote d s before n → In (notes_at_hub h) (s, n) → Somewhere (note_kept d s before n)
  from-hub h s before n m is j =
      let name : (i : ℕ) × (h.node.name ≡ named.Site i) = hub-named h m in
      let w : OfHub (named.Site name.0) h.node.entries s n = in-hub (named.Site name.0) h.node.entries s n (subst (λ (x : NodeName). In (flat_map (hub_owned x) h.node.entries) (s, n)) name.1 j) in
      let match : piece_of (note_kept d s before (hub_note (named.Site name.0) w.line)) ≡ hub_piece name.0 (hub_line w.line) =
      hub-matches d name.0 w.line s before (hub-by h name.0 w.line m name.1 w.there) w.owner (subst (λ (x : Noted). IsNote d s before x) (sym w.noted) is) in
      let one_piece : hub_piece name.0 (hub_line w.line) ≡ piece_of (note_kept d s before n) = sym match ∙ ap (λ (x : Noted). piece_of (note_kept d s before x)) w.noted in
      let there : In (lists (AtHub name.0)) (hub_piece name.0 (hub_line w.line)) =
      subst (λ (ps : List Piece). In ps (hub_piece name.0 (hub_line w.line))) (sym (hub-list h name.0 m name.1)) (into-hub-pieces name.0 [] h.node.entries w.line w.there) in
      (AtHub name.0, subst (λ (p : Piece). In (lists (AtHub name.0)) p) one_piece there, subst (λ (p : Piece). home_at d (AtHub name.0) p ≡ true) one_piece (hub-home name.0 w.line))

  from-gear : (h : GearHeld) (s : Session) (before : List Kept) (n : Noted) → In gears h → IsNote d s before n → In (notes_at_gear h) (s, n) → Somewhere (note_kept d s before n)
  from-gear h s before n m is j =
      let name : (i : ℕ) × ((g : ℕ) × (h.node.name ≡ named.Gear i g)) = gear-named h m in
      let w : OfGear (named.Gear name.0 name.1.0) h.node.entries s n = in-gear (named.Gear name.0 name.1.0) h.node.entries s n (subst (λ (x : NodeName). In (flat_map (gear_owned x) h.node.entries) (s, n)) name.1.1 j) in
      let match : piece_of (note_kept d s before (gear_note (named.Gear name.0 name.1.0) w.line)) ≡ gear_piece name.0 name.1.0 (gear_line w.line) =
      gear-matches d name.0 name.1.0 w.line s before (gear-by h name.0 name.1.0 w.line m name.1.1 w.there) w.own w.owner (subst (λ (x : Noted). IsNote d s before x) (sym w.noted) is) in
      let one_piece : gear_piece name.0 name.1.0 (gear_line w.line) ≡ piece_of (note_kept d s before n) = sym match ∙ ap (λ (x : Noted). piece_of (note_kept d s before x)) w.noted in
      let there : In (lists (AtGear name.0 name.1.0)) (gear_piece name.0 name.1.0 (gear_line w.line)) =
      subst (λ (ps : List Piece). In ps (gear_piece name.0 name.1.0 (gear_line w.line))) (sym (gear-list h name.0 name.1.0 m name.1.1)) (into-gear-pieces name.0 name.1.0 [] h.node.entries w.line w.there) in (
        AtGear name.0 name.1.0,
        subst (λ (p : Piece). In (lists (AtGear name.0 name.1.0)) p) one_piece there,
        subst (λ (p : Piece). home_at d (AtGear name.0 name.1.0) p ≡ true) one_piece (gear-home h name.0 name.1.0 w.line m name.1.1 w.there ∙ w.own),
      )

  from-serial : (h : SerialHeld) (s : Session) (before : List Kept) (n : Noted) → In serials h → In (notes_at_serial h) (s, n) → Somewhere (note_kept d s before n)
  from-serial h s before n m j =
      let name : (e : ℕ) × ((z : ℕ) × (h.node.name ≡ named.Serializer e z)) = serial-named h m in
      let w : OfSerial (named.Serializer name.0 name.1.0) h.node.entries s n = in-serial (named.Serializer name.0 name.1.0) h.node.entries s n (subst (λ (x : NodeName). In (serial_notes x h.node.entries) (s, n)) name.1.1 j) in
      let match : note_kept d s before (serial_note (named.Serializer name.0 name.1.0) w.line) ≡ serial_kept name.0 name.1.0 w.line = serial-matches d name.0 name.1.0 w.line s before w.owner in
      let one_kept : serial_kept name.0 name.1.0 w.line ≡ note_kept d s before n = sym match ∙ ap (note_kept d s before) w.noted in
      let there : In (lists (AtSerial name.0 name.1.0)) (piece_of (serial_kept name.0 name.1.0 w.line)) =
      subst (λ (ps : List Piece). In ps (piece_of (serial_kept name.0 name.1.0 w.line))) (sym (serial-list h name.0 name.1.0 m name.1.1))
      (into-pieces (newest (serial_kept name.0 name.1.0) h.node.entries) (serial_kept name.0 name.1.0 w.line) (into-behind (serial_kept name.0 name.1.0) [] h.node.entries w.line w.there)) in (
        AtSerial name.0 name.1.0,
        subst (λ (k : Kept). In (lists (AtSerial name.0 name.1.0)) (piece_of k)) one_kept there,
        subst (λ (k : Kept). home_at d (AtSerial name.0 name.1.0) (piece_of k) ≡ true) one_kept (serial-home d name.0 name.1.0 w.line.input w.line.answer.answer),
      )

  abbrev beside_hubs : List Owned
  beside_hubs = flat_map notes_at_gear gears ++ flat_map notes_at_serial serials

  from-node : (s : Session) (before : List Kept) (n : Noted) → IsNote d s before n → In (part_notes hubs gears serials) (s, n) → Somewhere (note_kept d s before n)
  from-node s before n is i = elim (In-parts (flat_map notes_at_hub hubs) beside_hubs (s, n) i) [
    | inl j ↦ (let w : (h : HubHeld) × In hubs h × In (notes_at_hub h) (s, n) = in-flat notes_at_hub hubs (s, n) j in from-hub w.0 s before n w.1 is w.2)
    | inr j ↦ elim (In-parts (flat_map notes_at_gear gears) (flat_map notes_at_serial serials) (s, n) j) [
      | inl l ↦ (let w : (h : GearHeld) × In gears h × In (notes_at_gear h) (s, n) = in-flat notes_at_gear gears (s, n) l in from-gear w.0 s before n w.1 is w.2)
      | inr l ↦ (let w : (h : SerialHeld) × In serials h × In (notes_at_serial h) (s, n) = in-flat notes_at_serial serials (s, n) l in from-serial w.0 s before n w.1 w.2)
    ]
  ]

  -- a note at a node is one of the session's notes, of those of all sessions
  noted-there : (s : Session) (x : SessionSeen) (n : Noted) (name : NodeName) → In xs x → session_at d x.number ≡ s → In x.noted n → n.at ≡ Some name → In (session_notes d xs) (s, n)
  noted-there s x n name i e j w =
      into-flat (notes_of d) xs x (s, n) i (subst (λ (t : Session). In (own_notes (session_at d x.number) x.noted) (t, n)) e (into-own (session_at d x.number) x.noted n name j w))

  at-node : (s : Session) (before : List Kept) (n : Noted) (name : NodeName) → IsNote d s before n → In (notes_by d xs s) n → n.at ≡ Some name → Somewhere (note_kept d s before n)
  at-node s before n name is i e = elim (find-session d s xs) [
    | inl f ↦ from-node s before n is ((same s n).1 (noted-there s f.session n name f.there f.of (subst (λ (ns : List Noted). In ns n) f.notes i) e))
    | inr none ↦ absurd (subst (λ (ns : List Noted). In ns n) none i)
  ]

  operator-at : (before : List Kept) (n : Noted) → IsNote d Operator before n → n.at ≡ None → ⊥
  operator-at before n is e = operator-places n.entry.act Nothing is.own (is.placed ∙ ap (note_places Operator) e)

  placed-note : (s : Session) (k : Kept) (o : Option NodeName) (c : Comes d s [] [] (notes_by d xs s) k) → c.note.at ≡ o → Somewhere k
  placed-note s k (Some name) c e = subst Somewhere c.same (at-node s c.before c.note name c.is_note c.there e)
  placed-note (Owner b) k None c e = (Alone b, into-pieces (alone_in d xs b) k (c.single e), placed-alone b k (c.single e))
  placed-note Operator k None c e = absurd (operator-at c.before c.note c.is_note e)

  comes : (s : Session) (k : Kept) → In (kept_by d xs s) k → Comes d s [] [] (notes_by d xs s) k
  comes s k i = elim (in-kept d s [] [] (notes_by d xs s) k (known s).notes i) [ inl none ↦ absurd none | inr c ↦ c ]

  abbrev IsOnly : Session → Piece → Type 0
  IsOnly s p = (session_of p.act ≡ Some s) × ((q : Node) × In (lists q) p × (home_at d q p ≡ true))

  only : (s : Session) (k : Kept) → In (kept_by d xs s) k → IsOnly s (piece_of k)
  only s k i =
      let c : Comes d s [] [] (notes_by d xs s) k = comes s k i in
      (subst (λ (k : Kept). session_of k.act ≡ Some s) c.same c.is_note.own, placed-note s k c.note.at c refl)

  -- ---- an entry at its home, or one that was kept alone, is one that its session kept

  abbrev KeptIn : Session → Piece → Type 0
  KeptIn s p = In (pieces_by d xs s) p

  -- a note that a node has is kept by its session
  kept-note : (s : Session) (n : Noted) → In (part_notes hubs gears serials) (s, n) → (k : Kept) × (c : Comes d s [] [] (notes_by d xs s) k) × (c.note ≡ n)
  kept-note s n i =
      let w : (x : SessionSeen) × In xs x × In (notes_of d x) (s, n) = in-flat (notes_of d) xs (s, n) ((same s n).0 i) in
      let v : OfSession (session_at d w.0.number) w.0.noted s n = in-own (session_at d w.0.number) w.0.noted s n w.2 in
      let there : In (notes_by d xs s) n = subst (λ (ns : List Noted). In ns n) (sym (found d s xs w.0 one w.1 v.session)) v.there in
      note-comes d s [] [] (notes_by d xs s) n (known s).notes there

  hub-whole : (i : ℕ) (s : Session) (h : HubHeld) (k : Line HubActSeen HubAnswer) → In hubs h → h.node.name ≡ named.Site i → In h.node.entries k → hub_owner k.input.by k.input.input ≡ Some s → KeptIn s (hub_piece i (hub_line k))
  hub-whole i s h k m name there owner =
      let here : In (part_notes hubs gears serials) (s, hub_note (named.Site i) k) =
      In-left (flat_map notes_at_hub hubs) beside_hubs (s, hub_note (named.Site i) k)
      (into-flat notes_at_hub hubs h (s, hub_note (named.Site i) k) m (subst (λ (x : NodeName). In (flat_map (hub_owned x) h.node.entries) (s, hub_note (named.Site i) k)) (sym name) (into-hub (named.Site i) h.node.entries s k there owner))) in
      let w : (y : Kept) × (c : Comes d s [] [] (notes_by d xs s) y) × (c.note ≡ hub_note (named.Site i) k) = kept-note s (hub_note (named.Site i) k) here in
      let match : piece_of (note_kept d s w.1.before (hub_note (named.Site i) k)) ≡ hub_piece i (hub_line k) =
      hub-matches d i k s w.1.before (hub-by h i k m name there) owner (subst (λ (x : Noted). IsNote d s w.1.before x) w.2 w.1.is_note) in
      let as_noted : piece_of (note_kept d s w.1.before w.1.note) ≡ piece_of (note_kept d s w.1.before (hub_note (named.Site i) k)) = ap (λ (x : Noted). piece_of (note_kept d s w.1.before x)) w.2 in
      subst (λ (p : Piece). KeptIn s p) (ap piece_of (sym w.1.same) ∙ (as_noted ∙ match)) (into-pieces (kept_by d xs s) w.0 w.1.kept)

  gear-whole : (i g : ℕ) (s : Session) (h : GearHeld) (k : Line GearActSeen GearAnswer) → In gears h → h.node.name ≡ named.Gear i g → In h.node.entries k → is_own_line k ≡ true → gear_owner k.input.by ≡ Some s → KeptIn s (gear_piece i g (gear_line k))
  gear-whole i g s h k m name there own owner =
      let here : In (part_notes hubs gears serials) (s, gear_note (named.Gear i g) k) =
      In-right (flat_map notes_at_hub hubs) beside_hubs (s, gear_note (named.Gear i g) k)
      (In-left (flat_map notes_at_gear gears) (flat_map notes_at_serial serials) (s, gear_note (named.Gear i g) k)
      (into-flat notes_at_gear gears h (s, gear_note (named.Gear i g) k) m
      (subst (λ (x : NodeName). In (flat_map (gear_owned x) h.node.entries) (s, gear_note (named.Gear i g) k)) (sym name) (into-gear (named.Gear i g) h.node.entries s k there own owner)))) in
      let w : (y : Kept) × (c : Comes d s [] [] (notes_by d xs s) y) × (c.note ≡ gear_note (named.Gear i g) k) = kept-note s (gear_note (named.Gear i g) k) here in
      let match : piece_of (note_kept d s w.1.before (gear_note (named.Gear i g) k)) ≡ gear_piece i g (gear_line k) =
      gear-matches d i g k s w.1.before (gear-by h i g k m name there) own owner (subst (λ (x : Noted). IsNote d s w.1.before x) w.2 w.1.is_note) in
      let as_noted : piece_of (note_kept d s w.1.before w.1.note) ≡ piece_of (note_kept d s w.1.before (gear_note (named.Gear i g) k)) = ap (λ (x : Noted). piece_of (note_kept d s w.1.before x)) w.2 in
      subst (λ (p : Piece). KeptIn s p) (ap piece_of (sym w.1.same) ∙ (as_noted ∙ match)) (into-pieces (kept_by d xs s) w.0 w.1.kept)

  serial-whole : (e z : ℕ) (s : Session) (h : SerialHeld) (k : Line SerialAct SerialAnswer) → In serials h → h.node.name ≡ named.Serializer e z → In h.node.entries k → serial_owner k.input ≡ Some s → In (kept_by d xs s) (serial_kept e z k)
  serial-whole e z s h k m name there owner =
      let here : In (part_notes hubs gears serials) (s, serial_note (named.Serializer e z) k) =
      In-right (flat_map notes_at_hub hubs) beside_hubs (s, serial_note (named.Serializer e z) k)
      (In-right (flat_map notes_at_gear gears) (flat_map notes_at_serial serials) (s, serial_note (named.Serializer e z) k)
      (into-flat notes_at_serial serials h (s, serial_note (named.Serializer e z) k) m (subst (λ (x : NodeName). In (serial_notes x h.node.entries) (s, serial_note (named.Serializer e z) k)) (sym name) (into-serial (named.Serializer e z) h.node.entries s k there owner)))) in
      let w : (y : Kept) × (c : Comes d s [] [] (notes_by d xs s) y) × (c.note ≡ serial_note (named.Serializer e z) k) = kept-note s (serial_note (named.Serializer e z) k) here in
      let match : note_kept d s w.1.before (serial_note (named.Serializer e z) k) ≡ serial_kept e z k = serial-matches d e z k s w.1.before owner in
      subst (λ (y : Kept). In (kept_by d xs s) y) (sym w.1.same ∙ (ap (note_kept d s w.1.before) w.2 ∙ match)) w.1.kept

  owned-hub : (i : ℕ) (h : HubHeld) (k : Line HubActSeen HubAnswer) → In hubs h → h.node.name ≡ named.Site i → In h.node.entries k → session_of (hub_kept i k).act ≡ hub_owner k.input.by k.input.input
  owned-hub i h k m name there =
      let w : (n : ℕ) × (slice_get hubs n ≡ Some h) = In-place hubs h m in
      let v : (n : ℕ) × (slice_get h.node.entries n ≡ Some k) = In-place h.node.entries k there in
      hubs-have-owners d hubs gears serials opened w.0 i v.0 h k w.1 name v.1

  owned-gear : (i g : ℕ) (h : GearHeld) (k : Line GearActSeen GearAnswer) → In gears h → h.node.name ≡ named.Gear i g → In h.node.entries k → session_of (gear_kept i g k).act ≡ gear_owner k.input.by
  owned-gear i g h k m name there =
      let w : (n : ℕ) × (slice_get gears n ≡ Some h) = In-place gears h m in
      let v : (n : ℕ) × (slice_get h.node.entries n ≡ Some k) = In-place h.node.entries k there in
      gears-have-owners d hubs gears serials opened w.0 i g v.0 h k w.1 name v.1

  whole-hub : (i : ℕ) (s : Session) (p : Piece) → In (lists (AtHub i)) p → session_of p.act ≡ Some s → KeptIn s p
  whole-hub i s p j e = elim (look-up (named.Site i) hubs) [
    | inl f ↦
        let there : In hubs f.held = In-get hubs f.index f.held f.there in
        elim (in-hub-pieces i [] f.held.node.entries p (subst (λ (es : List (Line HubActSeen HubAnswer)). In (hub_pieces i (hub_lines es)) p) f.entries_are j)) [
          | inl none ↦ absurd none
          | inr w ↦ subst (λ (q : Piece). KeptIn s q) w.2
              (hub-whole i s f.held w.0 there f.is_named w.1 (sym (owned-hub i f.held w.0 there f.is_named w.1) ∙ (ap (λ (q : Piece). session_of q.act) w.2 ∙ e)))
        ]
    | inr none ↦ absurd (subst (λ (es : List (Line HubActSeen HubAnswer)). In (hub_pieces i (hub_lines es)) p) none j)
  ]

  whole-gear : (i g : ℕ) (s : Session) (p : Piece) → In (lists (AtGear i g)) p → home_at d (AtGear i g) p ≡ true → session_of p.act ≡ Some s → KeptIn s p
  whole-gear i g s p j home e = elim (look-up (named.Gear i g) gears) [
    | inl f ↦
        let there : In gears f.held = In-get gears f.index f.held f.there in
        elim (in-gear-pieces i g [] f.held.node.entries p (subst (λ (es : List (Line GearActSeen GearAnswer)). In (gear_pieces i g (gear_lines es)) p) f.entries_are j)) [
          | inl none ↦ absurd none
          | inr w ↦ subst (λ (q : Piece). KeptIn s q) w.2
              (gear-whole i g s f.held w.0 there f.is_named w.1 (sym (gear-home f.held i g w.0 there f.is_named w.1) ∙ (ap (home_at d (AtGear i g)) w.2 ∙ home))
              (sym (owned-gear i g f.held w.0 there f.is_named w.1) ∙ (ap (λ (q : Piece). session_of q.act) w.2 ∙ e)))
        ]
    | inr none ↦ absurd (subst (λ (es : List (Line GearActSeen GearAnswer)). In (gear_pieces i g (gear_lines es)) p) none j)
  ]

  whole-serial : (e z : ℕ) (s : Session) (k : Kept) → In (newest (serial_kept e z) (entries_at (named.Serializer e z) serials)) k → session_of k.act ≡ Some s → In (kept_by d xs s) k
  whole-serial e z s k j w = elim (look-up (named.Serializer e z) serials) [
    | inl f ↦
        let v : In [] k ⊎ ((x : Line SerialAct SerialAnswer) × In f.held.node.entries x × (serial_kept e z x ≡ k)) =
        in-behind (serial_kept e z) [] f.held.node.entries k (subst (λ (es : List (Line SerialAct SerialAnswer)). In (newest (serial_kept e z) es) k) f.entries_are j) in
        elim v [
          | inl none ↦ absurd none
          | inr u ↦ subst (λ (y : Kept). In (kept_by d xs s) y) u.2 (serial-whole e z s f.held u.0 (In-get serials f.index f.held f.there) f.is_named u.1
              (sym (serials_have_owners e z u.0) ∙ (ap (λ (y : Kept). session_of y.act) u.2 ∙ w)))
        ]
    | inr none ↦ absurd (subst (λ (es : List (Line SerialAct SerialAnswer)). In (newest (serial_kept e z) es) k) none j)
  ]

  whole-alone : (c : ℕ) (s : Session) (k : Kept) → In (alone_in d xs c) k → session_of k.act ≡ Some s → In (kept_by d xs s) k
  whole-alone c s k j e =
      let a : OwnAlone d (Owner c) (notes_by d xs (Owner c)) k = comes-alone c k j in
      let own : session_of k.act ≡ Some (Owner c) = subst (λ (k : Kept). session_of k.act ≡ Some (Owner c)) a.same a.is_note.own in
      subst (λ (t : Session). In (kept_by d xs t) k) (some_is (Owner c) s (sym own ∙ e)) (alone-kept d (Owner c) [] [] (notes_by d xs (Owner c)) k (λ x i. absurd i) j)

  -- of kept lists their pieces
  whole-pieces : (s : Session) (ks : List Kept) → ((k : Kept) → In ks k → session_of k.act ≡ Some s → In (kept_by d xs s) k) → (p : Piece) → In (pieces_of ks) p → session_of p.act ≡ Some s → KeptIn s p
  whole-pieces s ks f p j e =
      let w : IsPieceOf ks p = from-piece ks p j in
      subst (λ (q : Piece). KeptIn s q) w.2 (into-pieces (kept_by d xs s) w.0 (f w.0 w.1 (ap (λ (q : Piece). session_of q.act) w.2 ∙ e)))

  whole : (s : Session) (q : Node) (p : Piece) → In (lists q) p → home_at d q p ≡ true → session_of p.act ≡ Some s → KeptIn s p
  whole s (AtHub i) p j home e = whole-hub i s p j e
  whole s (AtGear i g) p j home e = whole-gear i g s p j home e
  whole s (AtSerial f z) p j home e = whole-pieces s (newest (serial_kept f z) (entries_at (named.Serializer f z) serials)) (whole-serial f z s) p j e
  whole s (Alone c) p j home e = whole-pieces s (alone_in d xs c) (whole-alone c s) p j e

  pub fits : SessionsFit d lists (pieces_by d xs)
  fits = record {
    of_clients = alone-fits;
    kept = λ s. record {
      rising = pieces-rise (kept_by d xs s) (kept-rises d s 0 [] (notes_by d xs s) tt (λ x i. absurd i) (known s).rises);
      only = each-piece (IsOnly s) (kept_by d xs s) (only s);
      whole = whole s;
    };
    known = λ c. pieces-know d c lists (kept_by d xs (Owner c)) (kept-known d c (λ p. []) [] (notes_by d xs (Owner c)) tt (known (Owner c)).notes);
  }

pub notes-fit : NotesFit
notes-fit d hubs gears serials xs all are same = fits d hubs gears serials xs all are same
