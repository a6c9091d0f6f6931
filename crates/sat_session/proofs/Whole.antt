-- What sessions kept fits the journals of nodes.
use Rattle.std.proofs.Common.{◌≡◌, ◌⊎◌, ℕ, true, List, [], ◌∷◌, length, map, Option, Some, None, slice_get, refl, sym, ap, ◌∙◌, subst, inl, inr}
use Rattle.std.specs.List.{flat_map}
use Rattle.sat_label.specs.declared.node.NodeName.{NodeName}
use Rattle.sat_label.specs.declared.node.NodeName.TheVariants as named
use Rattle.sat_label.specs.Members.{In}
use Rattle.sat_label.specs.Words.{below}
use Rattle.sat_label.proofs.Members.{In-left, In-right, In-parts, In-get}
use Rattle.sat_laws.proofs.Labels.{some_is}
use Rattle.sat_laws.proofs.Links.{In-place}
use Rattle.sat_act.specs.declared.act.Act.{Act}
use Rattle.sat_act.specs.declared.act.Act.TheVariants as act
use Rattle.sat_act.specs.declared.answer.Answer.{Answer}
use Rattle.sat_act.specs.Deployed.{Deployed}
use Rattle.sat_act.specs.Answers.{InRange}
use Rattle.sat_node.specs.declared.kept.Kept.{Kept as Line}
use Rattle.sat_machines.specs.Acts.{ActSeen, IsBy}
use Rattle.sat_machines.specs.Layout.{Planted, trees_of}
use Rattle.sat_machines.specs.Sites.{site_meaning}
use Rattle.sat_machines.specs.declared.site_answer.SiteAnswer.{SiteAnswer}
use Rattle.sat_machines.specs.declared.serial_act.SerialAct.{SerialAct}
use Rattle.sat_machines.specs.declared.serial_act.SerialAnswer.{SerialAnswer}
use Rattle.sat_stitch.specs.Kept.{Given, Nothing, OfClient, Kept}
use Rattle.sat_stitch.specs.Places.{Place, AtSite, AtSerializer, InSession, places, Session, Client as Owner, Operator, session_of}
use Rattle.sat_stitch.specs.Nodes.{IsSessionAnswer, stands}
use Rattle.sat_opened.specs.Keeping.{site_kept, serial_kept, owner_of, serial_owner, newest}
use Rattle.sat_opened.specs.Opened.{AreJournals, entries_at, lists_of, name_in, tree_names}
use Rattle.sat_opened.specs.Fits.{FitsPlace, FitsSessions}
use Rattle.sat_opened.specs.Laws.{SiteHeld, SerialHeld}
use Rattle.sat_opened.proofs.Found.{look-up}
use Rattle.sat_opened.proofs.Layouts.{in-mapped}
use Rattle.sat_opened.proofs.Distincts.{sites_kept, serials_kept}
use Rattle.sat_opened.proofs.Owners.{sites_have_owners, serials_have_owners}
use Rattle.sat_session.specs.declared.noted.Noted.{Noted}
use Rattle.sat_session.specs.Notes.{SessionSeen, session_at, site_note, site_notes, serial_note, serial_notes, notes_at_site, notes_at_serial, node_notes, own_notes, notes_of, session_notes}
use Rattle.sat_session.specs.Sessions.{note_given, note_kept, notes_by, kept_by, alone_in, note_places, IsNote, NotesFrom, NotesRise, IsSession, AreSessions, SameNotes, SessionsFit}
use Rattle.sat_session.proofs.Walks.{Comes, in-kept, note-comes, Alone, in-alone, alone-kept, kept-rises, alone-rises, kept-known, alone-answers}
use Rattle.sat_session.proofs.Owned.{in-flat, into-flat, into-behind, in-behind, OfSite, in-site, into-site, OfSerial, in-serial, into-serial, OfSession, in-own, into-own, look-up as find-session, found, one-session, same-session}
use Rattle.sat_session.proofs.Matches.{by-client, site-matches, serial-matches}

-- a session's own answers stand
stands-alone : (a : Act) (x : Given) (r : Answer) → IsSessionAnswer a x r → stands r ≡ true
stands-alone (act.Write c n value) (OfClient seen None) r e = ap stands e
stands-alone (act.Writes c items values) (OfClient seen None) r e = ap stands e
stands-alone (act.Read c n) (OfClient seen None) r e = ap stands e
stands-alone (act.Move c j) (OfClient seen None) r e = ap stands e
stands-alone (act.Leave c) (OfClient seen None) r e = ap stands e
stands-alone (act.Leave c) (OfClient seen (Some i)) r e = ap stands e
stands-alone (act.Attach c j) (OfClient seen (Some i)) r e = ap stands e
stands-alone _ _ r e = absurd e

-- an act of the operator stands at a node
operator-places : (a : Act) (x : Given) → session_of a ≡ Some Operator → places a x ≡ [] → ⊥
operator-places (act.Close i) x e w = cc
operator-places (act.Fall i) x e w = cc
operator-places (act.Kill f z) x e w = cc
operator-places _ x e w = cc

-- the same notes of a session, and so what it kept
module _ (d : Deployed) (sites : List SiteHeld) (serials : List SerialHeld) (xs : List SessionSeen) (opened : AreJournals d sites serials) (are : AreSessions d xs) (same : SameNotes (node_notes sites serials) (session_notes d xs)) where
  abbrev alone : ℕ → List Kept
  alone c = alone_in d xs c

  abbrev lists : Place → List Kept
  lists = lists_of sites serials (alone_in d xs)

  one : (a b : SessionSeen) → In xs a → In xs b → session_at d a.number ≡ session_at d b.number → a ≡ b
  one a b i j e = one-session xs a b are.apart i j (same-session d a.number b.number (are.each a i).limit (are.each b j).limit e)

  -- what is known of a session's notes, also where there is no such session
  record Known (s : Session) (ns : List Noted) : Type 0 where
    notes : NotesFrom d s [] ns
    rises : NotesRise 0 ns

  none-known : (s : Session) → Known s []
  none-known s = record { notes = tt; rises = tt }

  session-known : (s : Session) (x : SessionSeen) → IsSession d x → session_at d x.number ≡ s → Known s x.noted
  session-known s x is e = record { notes = subst (λ (t : Session). NotesFrom d t [] x.noted) e is.notes; rises = is.rises }

  known : (s : Session) → Known s (notes_by d xs s)
  known s = elim (find-session d s xs) [
    | inl f ↦ subst (λ (ns : List Noted). Known s ns) (sym f.notes) (session-known s f.session (are.each f.session f.there) f.of)
    | inr none ↦ subst (λ (ns : List Noted). Known s ns) (sym none) (none-known s)
  ]

  -- ---- what each client kept alone fits its session

  comes-alone : (c : ℕ) (k : Kept) → In (alone_in d xs c) k → Alone d (Owner c) (notes_by d xs (Owner c)) k
  comes-alone c k i = elim (in-alone d (Owner c) [] [] (notes_by d xs (Owner c)) k (known (Owner c)).notes i) [ inl none ↦ absurd none | inr a ↦ a ]

  alone-placed : (c : ℕ) (k : Kept) → Alone d (Owner c) (notes_by d xs (Owner c)) k → places k.act k.given ≡ InSession c ∷ []
  alone-placed c k a = subst (λ (k : Kept). places k.act k.given ≡ InSession c ∷ []) a.same (a.is_note.placed ∙ ap (note_places (Owner c)) a.nowhere)

  alone-fits : (c : ℕ) → FitsPlace d (InSession c) (alone_in d xs c)
  alone-fits c = record {
    rising = alone-rises d (Owner c) 0 [] [] (notes_by d xs (Owner c)) tt (λ x i. absurd i) (known (Owner c)).rises;
    placed = λ k i. alone-placed c k (comes-alone c k i);
    ranges = λ k i. let a : Alone d (Owner c) (notes_by d xs (Owner c)) k = comes-alone c k i in subst (λ (k : Kept). InRange d k.act) a.same (a.is_note.ranges a.nowhere);
    answers = alone-answers d c [] [] (notes_by d xs (Owner c)) tt (known (Owner c)).notes;
    standing = λ k i. let a : Alone d (Owner c) (notes_by d xs (Owner c)) k = comes-alone c k i in
        subst (λ (k : Kept). stands k.answer ≡ true) a.same (stands-alone a.note.entry.act (note_given d (Owner c) a.before a.note) a.note.entry.answer (a.is_note.answers a.nowhere));
  }

  -- ---- an entry that a session kept is one of its node, or was kept alone

  abbrev Somewhere : Kept → Type 0
  Somewhere k = (p : Place) × In (lists p) k

  site-named : (h : SiteHeld) → In sites h → (i : ℕ) × (h.node.name ≡ named.Site i)
  site-named h i =
      let there : In (map name_in sites) h.node.name = in-map sites h i in
      let w : (k : ℕ) × In (below d.sites) k × (named.Site k ≡ h.node.name) = in-mapped named.Site (below d.sites) h.node.name (subst (λ (ns : List NodeName). In ns h.node.name) opened.all_sites there) in
      (w.0, sym w.2)
    where
      in-map : (hs : List SiteHeld) (h : SiteHeld) → In hs h → In (map name_in hs) h.node.name
      in-map [] h i = absurd i
      in-map (x ∷ hs) h (inl e) = inl (ap (λ (z : SiteHeld). z.node.name) e)
      in-map (x ∷ hs) h (inr i) = inr (in-map hs h i)

  serial-named : (h : SerialHeld) → In serials h → (e : ℕ) × (z : ℕ) × (h.node.name ≡ named.Serializer e z)
  serial-named h i =
      let there : In (map name_in serials) h.node.name = in-map serials h i in
      let w : (p : Planted) × In (trees_of d) p × In (tree_names p) h.node.name = in-flat tree_names (trees_of d) h.node.name (subst (λ (ns : List NodeName). In ns h.node.name) opened.all_serials there) in
      let v : (z : ℕ) × In (below (length w.0.tree.parents)) z × (named.Serializer w.0.epoch z ≡ h.node.name) = in-mapped (named.Serializer w.0.epoch) (below (length w.0.tree.parents)) h.node.name w.2 in
      (w.0.epoch, v.0, sym v.2)
    where
      in-map : (hs : List SerialHeld) (h : SerialHeld) → In hs h → In (map name_in hs) h.node.name
      in-map [] h i = absurd i
      in-map (x ∷ hs) h (inl e) = inl (ap (λ (z : SerialHeld). z.node.name) e)
      in-map (x ∷ hs) h (inr i) = inr (in-map hs h i)

  -- the lists of a node's place
  site-list : (h : SiteHeld) (i : ℕ) → In sites h → h.node.name ≡ named.Site i → lists (AtSite i) ≡ newest (site_kept i) h.node.entries
  site-list h i m e = (let w : (n : ℕ) × (slice_get sites n ≡ Some h) = In-place sites h m in sites_kept d sites serials (alone_in d xs) opened w.0 i h w.1 e)

  serial-list : (h : SerialHeld) (e z : ℕ) → In serials h → h.node.name ≡ named.Serializer e z → lists (AtSerializer e z) ≡ newest (serial_kept e z) h.node.entries
  serial-list h e z m w = (let v : (n : ℕ) × (slice_get serials n ≡ Some h) = In-place serials h m in serials_kept d sites serials (alone_in d xs) opened v.0 e z h v.1 w)

  -- each entry of a site is a client's where it has to be
  site-by : (h : SiteHeld) (k : Line ActSeen SiteAnswer) → In sites h → In h.node.entries k → IsBy d k.input.by k.input.input
  site-by h k m i =
      let w : (n : ℕ) × (slice_get sites n ≡ Some h) = In-place sites h m in
      by-client d h.node.name ((site_meaning d).fresh h.node.name) h.node.entries k (opened.each_site w.0 h w.1) i

  -- one that a site noted
  from-site : (h : SiteHeld) (s : Session) (before : List Kept) (n : Noted) → In sites h → IsNote d s before n → In (notes_at_site h) (s, n) → Somewhere (note_kept d s before n)
  from-site h s before n m is j =
      let name : (i : ℕ) × (h.node.name ≡ named.Site i) = site-named h m in
      let w : OfSite (named.Site name.0) h.node.entries s n = in-site (named.Site name.0) h.node.entries s n (subst (λ (x : NodeName). In (site_notes x h.node.entries) (s, n)) name.1 j) in
      let match : note_kept d s before (site_note (named.Site name.0) w.line) ≡ site_kept name.0 w.line =
      site-matches d name.0 w.line s before (site-by h w.line m w.there) w.owner (subst (λ (x : Noted). IsNote d s before x) (sym w.noted) is) in
      let there : In (lists (AtSite name.0)) (site_kept name.0 w.line) =
      subst (λ (ks : List Kept). In ks (site_kept name.0 w.line)) (sym (site-list h name.0 m name.1)) (into-behind (site_kept name.0) [] h.node.entries w.line w.there) in
      (AtSite name.0, subst (λ (k : Kept). In (lists (AtSite name.0)) k) (sym match ∙ ap (note_kept d s before) w.noted) there)

  from-serial : (h : SerialHeld) (s : Session) (before : List Kept) (n : Noted) → In serials h → In (notes_at_serial h) (s, n) → Somewhere (note_kept d s before n)
  from-serial h s before n m j =
      let name : (e : ℕ) × (z : ℕ) × (h.node.name ≡ named.Serializer e z) = serial-named h m in
      let w : OfSerial (named.Serializer name.0 name.1) h.node.entries s n = in-serial (named.Serializer name.0 name.1) h.node.entries s n (subst (λ (x : NodeName). In (serial_notes x h.node.entries) (s, n)) name.2 j) in
      let match : note_kept d s before (serial_note (named.Serializer name.0 name.1) w.line) ≡ serial_kept name.0 name.1 w.line = serial-matches d name.0 name.1 w.line s before w.owner in
      let there : In (lists (AtSerializer name.0 name.1)) (serial_kept name.0 name.1 w.line) =
      subst (λ (ks : List Kept). In ks (serial_kept name.0 name.1 w.line)) (sym (serial-list h name.0 name.1 m name.2)) (into-behind (serial_kept name.0 name.1) [] h.node.entries w.line w.there) in
      (AtSerializer name.0 name.1, subst (λ (k : Kept). In (lists (AtSerializer name.0 name.1)) k) (sym match ∙ ap (note_kept d s before) w.noted) there)

  from-node : (s : Session) (before : List Kept) (n : Noted) → IsNote d s before n → In (node_notes sites serials) (s, n) → Somewhere (note_kept d s before n)
  from-node s before n is i = elim (In-parts (flat_map notes_at_site sites) (flat_map notes_at_serial serials) (s, n) i) [
    | inl j ↦ (let w : (h : SiteHeld) × In sites h × In (notes_at_site h) (s, n) = in-flat notes_at_site sites (s, n) j in from-site w.0 s before n w.1 is w.2)
    | inr j ↦ (let w : (h : SerialHeld) × In serials h × In (notes_at_serial h) (s, n) = in-flat notes_at_serial serials (s, n) j in from-serial w.0 s before n w.1 w.2)
  ]

  -- a note at a node is one of the session's notes, of those of all sessions
  noted-there : (s : Session) (x : SessionSeen) (n : Noted) (name : NodeName) → In xs x → session_at d x.number ≡ s → In x.noted n → n.at ≡ Some name → In (session_notes d xs) (s, n)
  noted-there s x n name i e j w =
      into-flat (notes_of d) xs x (s, n) i (subst (λ (t : Session). In (own_notes (session_at d x.number) x.noted) (t, n)) e (into-own (session_at d x.number) x.noted n name j w))

  at-node : (s : Session) (before : List Kept) (n : Noted) (name : NodeName) → IsNote d s before n → In (notes_by d xs s) n → n.at ≡ Some name → Somewhere (note_kept d s before n)
  at-node s before n name is i e = elim (find-session d s xs) [
    | inl f ↦ from-node s before n is ((same s n).1 (noted-there s f.session n name f.there f.of (subst (λ (ns : List Noted). In ns n) f.notes i) e))
    | inr none ↦ absurd (subst (λ (ns : List Noted). In ns n) none i)
  ]

  operator-at : (before : List Kept) (n : Noted) → IsNote d Operator before n → n.at ≡ None → ⊥
  operator-at before n is e = operator-places n.entry.act Nothing is.own (is.placed ∙ ap (note_places Operator) e)

  placed-note : (s : Session) (k : Kept) (o : Option NodeName) (c : Comes d s [] [] (notes_by d xs s) k) → c.note.at ≡ o → Somewhere k
  placed-note s k (Some name) c e = subst Somewhere c.same (at-node s c.before c.note name c.is_note c.there e)
  placed-note (Owner b) k None c e = (InSession b, c.single e)
  placed-note Operator k None c e = absurd (operator-at c.before c.note c.is_note e)

  comes : (s : Session) (k : Kept) → In (kept_by d xs s) k → Comes d s [] [] (notes_by d xs s) k
  comes s k i = elim (in-kept d s [] [] (notes_by d xs s) k (known s).notes i) [ inl none ↦ absurd none | inr c ↦ c ]

  only : (s : Session) (k : Kept) → In (kept_by d xs s) k → (session_of k.act ≡ Some s) × Somewhere k
  only s k i =
      let c : Comes d s [] [] (notes_by d xs s) k = comes s k i in
      (subst (λ (k : Kept). session_of k.act ≡ Some s) c.same c.is_note.own, placed-note s k c.note.at c refl)

  -- ---- an entry of a node, or one that was kept alone, is one that its session kept

  -- a note that a node has is kept by its session
  kept-note : (s : Session) (n : Noted) → In (node_notes sites serials) (s, n) → (k : Kept) × (c : Comes d s [] [] (notes_by d xs s) k) × (c.note ≡ n)
  kept-note s n i =
      let w : (x : SessionSeen) × In xs x × In (notes_of d x) (s, n) = in-flat (notes_of d) xs (s, n) ((same s n).0 i) in
      let v : OfSession (session_at d w.0.number) w.0.noted s n = in-own (session_at d w.0.number) w.0.noted s n w.2 in
      let there : In (notes_by d xs s) n = subst (λ (ns : List Noted). In ns n) (sym (found d s xs w.0 one w.1 v.session)) v.there in
      note-comes d s [] [] (notes_by d xs s) n (known s).notes there

  site-whole : (i : ℕ) (s : Session) (h : SiteHeld) (k : Line ActSeen SiteAnswer) → In sites h → h.node.name ≡ named.Site i → In h.node.entries k → owner_of k.input.by k.input.input ≡ Some s → In (kept_by d xs s) (site_kept i k)
  site-whole i s h k m name there owner =
      let here : In (node_notes sites serials) (s, site_note (named.Site i) k) =
      In-left (flat_map notes_at_site sites) (flat_map notes_at_serial serials) (s, site_note (named.Site i) k)
      (into-flat notes_at_site sites h (s, site_note (named.Site i) k) m (subst (λ (x : NodeName). In (site_notes x h.node.entries) (s, site_note (named.Site i) k)) (sym name) (into-site (named.Site i) h.node.entries s k there owner))) in
      let w : (y : Kept) × (c : Comes d s [] [] (notes_by d xs s) y) × (c.note ≡ site_note (named.Site i) k) = kept-note s (site_note (named.Site i) k) here in
      let match : note_kept d s w.1.before (site_note (named.Site i) k) ≡ site_kept i k = site-matches d i k s w.1.before (site-by h k m there) owner (subst (λ (x : Noted). IsNote d s w.1.before x) w.2 w.1.is_note) in
      subst (λ (y : Kept). In (kept_by d xs s) y) (sym w.1.same ∙ (ap (note_kept d s w.1.before) w.2 ∙ match)) w.1.kept

  serial-whole : (e z : ℕ) (s : Session) (h : SerialHeld) (k : Line SerialAct SerialAnswer) → In serials h → h.node.name ≡ named.Serializer e z → In h.node.entries k → serial_owner k.input ≡ Some s → In (kept_by d xs s) (serial_kept e z k)
  serial-whole e z s h k m name there owner =
      let here : In (node_notes sites serials) (s, serial_note (named.Serializer e z) k) =
      In-right (flat_map notes_at_site sites) (flat_map notes_at_serial serials) (s, serial_note (named.Serializer e z) k)
      (into-flat notes_at_serial serials h (s, serial_note (named.Serializer e z) k) m (subst (λ (x : NodeName). In (serial_notes x h.node.entries) (s, serial_note (named.Serializer e z) k)) (sym name) (into-serial (named.Serializer e z) h.node.entries s k there owner))) in
      let w : (y : Kept) × (c : Comes d s [] [] (notes_by d xs s) y) × (c.note ≡ serial_note (named.Serializer e z) k) = kept-note s (serial_note (named.Serializer e z) k) here in
      let match : note_kept d s w.1.before (serial_note (named.Serializer e z) k) ≡ serial_kept e z k = serial-matches d e z k s w.1.before owner in
      subst (λ (y : Kept). In (kept_by d xs s) y) (sym w.1.same ∙ (ap (note_kept d s w.1.before) w.2 ∙ match)) w.1.kept

  site-owner : (i : ℕ) (h : SiteHeld) (k : Line ActSeen SiteAnswer) → In sites h → h.node.name ≡ named.Site i → In h.node.entries k → session_of (site_kept i k).act ≡ owner_of k.input.by k.input.input
  site-owner i h k m name there =
      let w : (n : ℕ) × (slice_get sites n ≡ Some h) = In-place sites h m in
      let v : (n : ℕ) × (slice_get h.node.entries n ≡ Some k) = In-place h.node.entries k there in
      sites_have_owners d sites serials opened w.0 i v.0 h k w.1 name v.1

  whole-site : (i : ℕ) (s : Session) (k : Kept) → In (newest (site_kept i) (entries_at (named.Site i) sites)) k → session_of k.act ≡ Some s → In (kept_by d xs s) k
  whole-site i s k j e = elim (look-up (named.Site i) sites) [
    | inl f ↦
        let v : In [] k ⊎ ((x : Line ActSeen SiteAnswer) × In f.held.node.entries x × (site_kept i x ≡ k)) =
        in-behind (site_kept i) [] f.held.node.entries k (subst (λ (es : List (Line ActSeen SiteAnswer)). In (newest (site_kept i) es) k) f.entries_are j) in
        elim v [
          | inl none ↦ absurd none
          | inr w ↦ subst (λ (y : Kept). In (kept_by d xs s) y) w.2 (site-whole i s f.held w.0 (In-get sites f.index f.held f.there) f.is_named w.1
              (sym (site-owner i f.held w.0 (In-get sites f.index f.held f.there) f.is_named w.1) ∙ (ap (λ (y : Kept). session_of y.act) w.2 ∙ e)))
        ]
    | inr none ↦ absurd (subst (λ (es : List (Line ActSeen SiteAnswer)). In (newest (site_kept i) es) k) none j)
  ]

  whole-serial : (e z : ℕ) (s : Session) (k : Kept) → In (newest (serial_kept e z) (entries_at (named.Serializer e z) serials)) k → session_of k.act ≡ Some s → In (kept_by d xs s) k
  whole-serial e z s k j w = elim (look-up (named.Serializer e z) serials) [
    | inl f ↦
        let v : In [] k ⊎ ((x : Line SerialAct SerialAnswer) × In f.held.node.entries x × (serial_kept e z x ≡ k)) =
        in-behind (serial_kept e z) [] f.held.node.entries k (subst (λ (es : List (Line SerialAct SerialAnswer)). In (newest (serial_kept e z) es) k) f.entries_are j) in
        elim v [
          | inl none ↦ absurd none
          | inr u ↦ subst (λ (y : Kept). In (kept_by d xs s) y) u.2 (serial-whole e z s f.held u.0 (In-get serials f.index f.held f.there) f.is_named u.1
              (sym (serials_have_owners e z u.0) ∙ (ap (λ (y : Kept). session_of y.act) u.2 ∙ w)))
        ]
    | inr none ↦ absurd (subst (λ (es : List (Line SerialAct SerialAnswer)). In (newest (serial_kept e z) es) k) none j)
  ]

  whole-alone : (c : ℕ) (s : Session) (k : Kept) → In (alone_in d xs c) k → session_of k.act ≡ Some s → In (kept_by d xs s) k
  whole-alone c s k j e =
      let a : Alone d (Owner c) (notes_by d xs (Owner c)) k = comes-alone c k j in
      let own : session_of k.act ≡ Some (Owner c) = subst (λ (k : Kept). session_of k.act ≡ Some (Owner c)) a.same a.is_note.own in
      subst (λ (t : Session). In (kept_by d xs t) k) (some_is (Owner c) s (sym own ∙ e)) (alone-kept d (Owner c) [] [] (notes_by d xs (Owner c)) k (λ x i. absurd i) j)

  whole : (s : Session) (p : Place) (k : Kept) → In (lists p) k → session_of k.act ≡ Some s → In (kept_by d xs s) k
  whole s (AtSite i) k j e = whole-site i s k j e
  whole s (AtSerializer e z) k j w = whole-serial e z s k j w
  whole s (InSession c) k j e = whole-alone c s k j e

  fits : FitsSessions d lists (kept_by d xs)
  fits = record {
    alone = alone-fits;
    kept = λ s. record {
      rising = kept-rises d s 0 [] (notes_by d xs s) tt (λ x i. absurd i) (known s).rises;
      only = only s;
      whole = whole s;
    };
    known = λ c. kept-known d c lists [] (notes_by d xs (Owner c)) tt (known (Owner c)).notes;
  }

pub sessions_fit : SessionsFit
sessions_fit d sites serials xs all are same = fits d sites serials xs all are same
