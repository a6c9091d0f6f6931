-- One row more.
use Rattle.std.proofs.Common.{◌≡◌, ℕ, ◌==◌, Bool, true, false, List, [], ◌∷◌, ◌++◌, length, reverse, refl, sym, ap, subst, ◌∙◌}
use Rattle.std.specs.Prelude.{Option, Some, None, unwrap_or, if◌then◌else◌}
use Rattle.std.specs.Ordering.{nat_cmp}
use Rattle.std.specs.BTreeMap.{get}
use Rattle.std.proofs.lemmas.List.{reverse-append, length-reverse, append_assoc}
use Rattle.std.proofs.lemmas.List.Concat.{flat_map-append}
use Rattle.sat_act.specs.declared.act.Act.{Act}
use Rattle.sat_act.specs.declared.act.Act.TheVariants as act
use Rattle.sat_act.specs.declared.answer.Answer.{Answer}
use Rattle.sat_act.specs.declared.answer.Answer.TheVariants as ans
use Rattle.sat_act.specs.declared.entry.Entry.{Entry}
use Rattle.sat_act.specs.Deployed.{Deployed}
use Rattle.sat_act.specs.Done.{of_client}
use Rattle.sat_act.specs.Histories.{latest}
use Rattle.sat_act.specs.Parts.{seat, home}
use Rattle.sat_draw.specs.declared.element.Spot.{Spot}
use Rattle.sat_draw.specs.declared.element.Element.{Element}
use Rattle.sat_draw.specs.declared.trail.Trail.{Trail}
use Rattle.sat_draw.specs.declared.trail.Coming.{Coming}
use Rattle.sat_draw.specs.declared.tracks.Tracks.{Tracks}
use Rattle.sat_draw.specs.Columns.{act_column, seat_column, column_x, row_y}
use Rattle.sat_draw.specs.Elements.{spell, spelled}
use Rattle.sat_draw.specs.Trails.{left_by, comes_from, reseated, after_change}
use Rattle.sat_draw.specs.Rows.{spot_at, mark_spot, spot_of, after_leaving, last_spot, begin, arrow, arrows, ways_at, marks_at, ways_of, marks_of, ways, marks, signs}
use Rattle.sat_draw.specs.declared.lost.Sending.{Sending}
use Rattle.sat_draw.specs.Lost.{is_settled, after_taking, lost_spot, sendings_at, sendings, is_spot, lost_way, cross_for, crosses_by, crosses}
use Rattle.sat_draw.specs.Rests.{rests_by, rests}
use Rattle.sat_draw.specs.Tracks.{seat_by, spot_by, Moves, Follows, IsDrawn, HasRows}
use Rattle.sat_draw.proofs.Staying.{begin-same, rests-same}

-- ---- the same seats and the same trails give the same row

column-same : (d : Deployed) (f g : ℕ → Option ℕ) → ((c : ℕ) → f c ≡ g c) → (a : Act) → act_column d f a ≡ act_column d g a
column-same d f g e (act.Tick i k ts) = refl
column-same d f g e act.Clock = refl
column-same d f g e (act.Write c x v) = ap (seat_column d) (e c)
column-same d f g e (act.Writes c items values) = ap (seat_column d) (e c)
column-same d f g e (act.Read c x) = ap (seat_column d) (e c)
column-same d f g e (act.Move c j) = ap (seat_column d) (e c)
column-same d f g e (act.Leave c) = ap (seat_column d) (e c)
column-same d f g e (act.Attach c j) = refl
column-same d f g e (act.Gather i) = refl
column-same d f g e (act.Emit i) = refl
column-same d f g e (act.Pulse i) = refl
column-same d f g e (act.Hop n u z) = refl
column-same d f g e (act.Turn j) = refl
column-same d f g e (act.Bulk i k j n) = refl
column-same d f g e (act.Beat i j) = refl
column-same d f g e (act.BeatIn i j n) = refl
column-same d f g e (act.Stamp j) = refl
column-same d f g e (act.Close i) = refl
column-same d f g e (act.Fall j) = refl
column-same d f g e (act.Advance j) = refl
column-same d f g e (act.Kill n z) = refl
column-same d f g e act.Settle = refl

mark-same : (d : Deployed) (f g : ℕ → Option ℕ) (row n : ℕ) (entry : Entry) → ((c : ℕ) → f c ≡ g c) → row ≡ n → mark_spot d f row entry ≡ mark_spot d g n entry
mark-same d f g row n entry e same =
    ap (λ (c : ℕ). spot_at (column_x c) (row_y d row)) (column-same d f g e entry.act) ∙ ap (λ (m : ℕ). mark_spot d g m entry) same

arrows-same : (f g : Trail → Option Spot) → ((t : Trail) → f t ≡ g t) → (here : Spot) (cs : List Coming) → arrows f here cs ≡ arrows g here cs
arrows-same f g e here [] = refl
arrows-same f g e here (c ∷ cs) =
    ap (λ (o : Option Spot). arrow c here o ++ arrows f here cs) (e c.trail) ∙ ap (λ (xs : List Element). arrow c here (g c.trail) ++ xs) (arrows-same f g e here cs)

spot-same : (d : Deployed) (h : List Entry) (tracks : Tracks) (row : ℕ) (here : Spot) (entry : Entry) → Follows d h tracks → row ≡ length h
    → here ≡ mark_spot d (seat_by d tracks.seats) row entry → here ≡ spot_of d h entry
spot-same d h tracks row here entry follows same at = at ∙ mark-same d _ _ row (length h) entry follows.seats same

ways-same : (d : Deployed) (h : List Entry) (tracks : Tracks) (here : Spot) (entry : Entry) → Follows d h tracks → here ≡ spot_of d h entry → ways_at d (spot_by tracks.spots) here entry ≡ ways_of d h entry
ways-same d h tracks here entry follows at =
    ap (λ (s : Spot). ways_at d (spot_by tracks.spots) s entry) at
    ∙ ap (λ (xs : List Element). signs d (spot_of d h entry) entry ++ xs)
    (arrows-same (begin d (spot_by tracks.spots)) (begin d (last_spot d h)) (begin-same d (spot_by tracks.spots) (last_spot d h) follows.spots) (spot_of d h entry) (comes_from entry.act entry.answer))

marks-same : (d : Deployed) (h : List Entry) (row : ℕ) (here : Spot) (entry : Entry) → row ≡ length h → here ≡ spot_of d h entry → marks_at d row here entry ≡ marks_of d h entry
marks-same d h row here entry same at =
    ap (λ (s : Spot). marks_at d row s entry) at ∙ ap (λ (m : ℕ). marks_at d m (spot_of d h entry) entry) same

-- ---- what is known after an entry

freed : (o : Option ℕ) (c : ℕ) (rest : Option ℕ) →
    elim (if (elim o [ None ↦ false | Some b ↦ b == c ]) then Some None else None) [ None ↦ rest | Some y ↦ y ]
    ≡ after_change (elim o [ None ↦ None | Some b ↦ Some (b, None) ]) rest c
freed None c rest = refl
freed (Some b) c rest = go (b == c)
  where
    go : (t : Bool) → elim (if t then Some None else None) [ None ↦ rest | Some y ↦ y ] ≡ (if t then None else rest)
    go true = refl
    go false = refl

attached : (b c j : ℕ) (rest : Option ℕ) →
    elim (if b == c then Some (Some j) else None) [ None ↦ rest | Some y ↦ y ] ≡ (if b == c then Some j else rest)
attached b c j rest = go (b == c)
  where
    go : (t : Bool) → elim (if t then Some (Some j) else None) [ None ↦ rest | Some y ↦ y ] ≡ (if t then Some j else rest)
    go true = refl
    go false = refl

seat-attached : (d : Deployed) (h : List Entry) (c : ℕ) (inner : Bool) (a : Act) → seat d (record { act = a; answer = ans.Attached; inner = inner } ∷ h) c ≡ after_change (reseated a ans.Attached) (seat d h c) c
unfolding seat latest reseated
seat-attached d h c inner (act.Attach b j) = attached b c j (seat d h c)
seat-attached d h c inner (act.Tick i k ts) = refl
seat-attached d h c inner act.Clock = refl
seat-attached d h c inner (act.Write b x v) = refl
seat-attached d h c inner (act.Writes b items values) = refl
seat-attached d h c inner (act.Read b x) = refl
seat-attached d h c inner (act.Move b j) = refl
seat-attached d h c inner (act.Leave b) = refl
seat-attached d h c inner (act.Gather i) = refl
seat-attached d h c inner (act.Emit i) = refl
seat-attached d h c inner (act.Pulse i) = refl
seat-attached d h c inner (act.Hop n u z) = refl
seat-attached d h c inner (act.Turn j) = refl
seat-attached d h c inner (act.Bulk i k j n) = refl
seat-attached d h c inner (act.Beat i j) = refl
seat-attached d h c inner (act.BeatIn i j n) = refl
seat-attached d h c inner (act.Stamp j) = refl
seat-attached d h c inner (act.Close i) = refl
seat-attached d h c inner (act.Fall j) = refl
seat-attached d h c inner (act.Advance j) = refl
seat-attached d h c inner (act.Kill n z) = refl
seat-attached d h c inner act.Settle = refl

pub seat-step : (d : Deployed) (h : List Entry) (c : ℕ) (inner : Bool) (a : Act) (r : Answer) → seat d (record { act = a; answer = r; inner = inner } ∷ h) c ≡ after_change (reseated a r) (seat d h c) c
unfolding seat latest reseated
seat-step d h c inner a ans.Attached = seat-attached d h c inner a
seat-step d h c inner a (ans.Moved l) = freed (of_client a) c (seat d h c)
seat-step d h c inner a (ans.Left p) = freed (of_client a) c (seat d h c)
seat-step d h c inner a (ans.Ticked p) = refl
seat-step d h c inner a (ans.Clocked p) = refl
seat-step d h c inner a (ans.Wrote l) = refl
seat-step d h c inner a ans.ReadNone = refl
seat-step d h c inner a (ans.ReadSome l v) = refl
seat-step d h c inner a (ans.Gathered n t) = refl
seat-step d h c inner a (ans.Emitted l) = refl
seat-step d h c inner a (ans.Pulsed l) = refl
seat-step d h c inner a (ans.Hopped l to) = refl
seat-step d h c inner a (ans.Shown l) = refl
seat-step d h c inner a (ans.Took l) = refl
seat-step d h c inner a (ans.Brought l) = refl
seat-step d h c inner a ans.Again = refl
seat-step d h c inner a (ans.Beat n) = refl
seat-step d h c inner a ans.Taken = refl
seat-step d h c inner a ans.Old = refl
seat-step d h c inner a (ans.Closed n p) = refl
seat-step d h c inner a ans.Fallen = refl
seat-step d h c inner a (ans.View v) = refl
seat-step d h c inner a ans.Killed = refl
seat-step d h c inner a (ans.Settled r n) = refl
seat-step d h c inner a (ans.Refused r) = refl

spots-step : (d : Deployed) (h : List Entry) (entry : Entry) (t : Trail) → last_spot d (entry ∷ h) t ≡ after_leaving (left_by entry.act entry.answer) (spot_of d h entry) (last_spot d h t) t
unfolding last_spot
spots-step d h entry t = refl

lost-step : (d : Deployed) (h : List Entry) (entry : Entry) (t : Trail) → lost_spot d (entry ∷ h) t
    ≡ after_leaving (left_by entry.act entry.answer) (spot_of d h entry) (after_taking (is_settled entry.answer) (comes_from entry.act entry.answer) (lost_spot d h t) t) t
unfolding lost_spot
lost-step d h entry t = refl

sendings-step : (d : Deployed) (h : List Entry) (entry : Entry) → sendings d (entry ∷ h) ≡ sendings d h ++ sendings_at (spot_of d h entry) (left_by entry.act entry.answer)
unfolding sendings
sendings-step d h entry = refl

pub follows-on : (d : Deployed) (h : List Entry) (old new : Tracks) (row : ℕ) (here : Spot) (entry : Entry) → Follows d h old → row ≡ length h
    → here ≡ mark_spot d (seat_by d old.seats) row entry
    → Moves old entry here new
    → Follows d (entry ∷ h) new
follows-on d h old new row here entry follows same at moves = record {
  seats = λ c. moves.seats (home d c) c ∙ (ap (λ (o : Option ℕ). after_change (reseated entry.act entry.answer) o c) (follows.seats c) ∙ sym (seat-step d h c entry.inner entry.act entry.answer));
  spots = λ t. moves.spots t ∙ (ap (λ (o : Option Spot). after_leaving (left_by entry.act entry.answer) here o t) (follows.spots t)
      ∙ (ap (λ (s : Spot). after_leaving (left_by entry.act entry.answer) s (last_spot d h t) t) (at ∙ mark-same d _ _ row (length h) entry follows.seats same)
      ∙ sym (spots-step d h entry t)));
  under_way = λ t. moves.under_way t ∙ (ap (λ (o : Option Spot). after_leaving (left_by entry.act entry.answer) here (after_taking (is_settled entry.answer) (comes_from entry.act entry.answer) o t) t) (follows.under_way t)
      ∙ (ap (λ (s : Spot). after_leaving (left_by entry.act entry.answer) s (after_taking (is_settled entry.answer) (comes_from entry.act entry.answer) (lost_spot d h t) t) t) (at ∙ mark-same d _ _ row (length h) entry follows.seats same)
      ∙ sym (lost-step d h entry t)));
  sendings_are = moves.sendings_are ∙ (ap (λ (xs : List Sending). xs ++ sendings_at here (left_by entry.act entry.answer)) follows.sendings_are
      ∙ (ap (λ (s : Spot). sendings d h ++ sendings_at s (left_by entry.act entry.answer)) (at ∙ mark-same d _ _ row (length h) entry follows.seats same)
      ∙ sym (sendings-step d h entry)));
}

-- ---- one entry more

ways-step : (d : Deployed) (h : List Entry) (entry : Entry) → ways d (entry ∷ h) ≡ ways d h ++ ways_of d h entry
unfolding ways
ways-step d h entry = refl

marks-step : (d : Deployed) (h : List Entry) (entry : Entry) → marks d (entry ∷ h) ≡ marks d h ++ marks_of d h entry
unfolding marks
marks-step d h entry = refl

next-history : (earlier : List Entry) (entry : Entry) → reverse (earlier ++ entry ∷ []) ≡ entry ∷ reverse earlier
next-history earlier entry = reverse-append earlier (entry ∷ [])

-- a text that a list of elements is spelled in goes on with its next ones
spelled-on : (f : List Entry → List Element) (old new : List ℕ) (earlier : List Entry) (entry : Entry) (more all : List Element)
    → f (entry ∷ reverse earlier) ≡ f (reverse earlier) ++ all → old ≡ spelled (f (reverse earlier)) → more ≡ all → new ≡ old ++ spelled more
    → new ≡ spelled (f (reverse (earlier ++ entry ∷ [])))
spelled-on f old new earlier entry more all step was same added =
    added ∙ (ap (λ (xs : List Element). old ++ spelled xs) same
    ∙ (ap (λ (x : List ℕ). x ++ spelled all) was
    ∙ (sym (flat_map-append spell (f (reverse earlier)) all)
    ∙ (ap (λ (xs : List Element). spelled xs) (sym step)
    ∙ ap (λ (k : List Entry). spelled (f k)) (sym (next-history earlier entry))))))

pub drawn_on : (d : Deployed) (lines words lines-after words-after : List ℕ) (tracks after : Tracks) (earlier : List Entry) (row : ℕ) (here : Spot) (entry : Entry) (led marked : List Element)
    → IsDrawn d lines words tracks earlier → row ≡ length earlier
    → here ≡ mark_spot d (seat_by d tracks.seats) row entry
    → led ≡ ways_at d (spot_by tracks.spots) here entry → lines-after ≡ lines ++ spelled led
    → marked ≡ marks_at d row here entry → words-after ≡ words ++ spelled marked
    → Moves tracks entry here after
    → IsDrawn d lines-after words-after after (earlier ++ entry ∷ [])
drawn_on d lines words lines-after words-after tracks after earlier row here entry led marked drawn same at leads led-on marks-are marked-on moves =
    let h = reverse earlier in
    let counted : row ≡ length (reverse earlier) = same ∙ sym (length-reverse earlier) in
    let spot : here ≡ spot_of d (reverse earlier) entry = spot-same d h tracks row here entry drawn.follows counted at in
    record {
      follows = subst (λ (k : List Entry). Follows d k after) (sym (next-history earlier entry)) (follows-on d h tracks after row here entry drawn.follows counted at moves);
      lines_are = spelled-on (ways d) lines lines-after earlier entry led (ways_of d h entry) (ways-step d h entry) drawn.lines_are (leads ∙ ways-same d h tracks here entry drawn.follows spot) led-on;
      words_are = spelled-on (marks d) words words-after earlier entry marked (marks_of d h entry) (marks-step d h entry) drawn.words_are (marks-are ∙ marks-same d h row here entry counted spot) marked-on;
    }

seat-first : (d : Deployed) (c : ℕ) → home d c ≡ seat d [] c
unfolding seat latest
seat-first d c = refl

spots-first : (d : Deployed) (t : Trail) → None ≡ last_spot d [] t
unfolding last_spot
spots-first d t = refl

lost-first : (d : Deployed) (t : Trail) → None ≡ lost_spot d [] t
unfolding lost_spot
lost-first d t = refl

sendings-first : (d : Deployed) → [] ≡ sendings d []
unfolding sendings
sendings-first d = refl

ways-first : (d : Deployed) → [] ≡ spelled (ways d [])
unfolding ways
ways-first d = refl

marks-first : (d : Deployed) → [] ≡ spelled (marks d [])
unfolding marks
marks-first d = refl

pub drawn_none : (d : Deployed) (lines words : List ℕ) (tracks : Tracks) → lines ≡ [] → words ≡ [] → ((c : ℕ) → get nat_cmp tracks.seats c ≡ None) → ((t : Trail) → spot_by tracks.spots t ≡ None) → ((t : Trail) → spot_by tracks.under_way t ≡ None) → tracks.sendings.items ≡ [] → IsDrawn d lines words tracks []
drawn_none d lines words tracks no-lines no-words seats spots under-way no-sendings = record {
  follows = record {
    seats = λ c. ap (λ (o : Option (Option ℕ)). unwrap_or o (home d c)) (seats c) ∙ seat-first d c;
    spots = λ t. spots t ∙ spots-first d t;
    under_way = λ t. under-way t ∙ lost-first d t;
    sendings_are = no-sendings ∙ sendings-first d;
  };
  lines_are = no-lines ∙ ways-first d;
  words_are = no-words ∙ marks-first d;
}

-- ---- the lost labels, and the end

cross-same : (f g : Trail → Option Spot) → ((t : Trail) → f t ≡ g t) → (ss : List Sending) → crosses_by f ss ≡ crosses_by g ss
cross-same f g e [] = refl
cross-same f g e (s ∷ ss) =
    ap (λ (o : Option Spot). (if is_spot o s.here then lost_way s ∷ [] else []) ++ crosses_by f ss) (e s.trail)
    ∙ ap (λ (xs : List Element). cross_for g s ++ xs) (cross-same f g e ss)

crosses-same : (d : Deployed) (h : List Entry) (tracks : Tracks) → Follows d h tracks → crosses_by (spot_by tracks.under_way) tracks.sendings.items ≡ crosses d h
unfolding crosses
crosses-same d h tracks follows =
    cross-same _ (lost_spot d h) follows.under_way tracks.sendings.items ∙ ap (crosses_by (lost_spot d h)) follows.sendings_are

pub rows_done : (d : Deployed) (old mid new lines lines-lost lines-after words : List ℕ) (tracks : Tracks) (entries : List Entry) (y : ℕ) (lost stays : List Element)
    → y ≡ row_y d (length entries) → IsDrawn d lines words tracks entries
    → lost ≡ crosses_by (spot_by tracks.under_way) tracks.sendings.items → lines-lost ≡ lines ++ spelled lost
    → stays ≡ rests_by d (seat_by d tracks.seats) (spot_by tracks.spots) (spot_by tracks.under_way) y → lines-after ≡ lines-lost ++ spelled stays
    → mid ≡ old ++ lines-after → new ≡ mid ++ words → HasRows d old new (reverse entries)
rows_done d old mid new lines lines-lost lines-after words tracks entries y lost stays at drawn are lost-on stay stays-on one two =
    let h = reverse entries in
    let down : y ≡ row_y d (length (reverse entries)) = at ∙ ap (row_y d) (sym (length-reverse entries)) in
    let behind : lines-after ≡ lines ++ spelled (lost ++ stays) =
    stays-on ∙ (ap (λ (x : List ℕ). x ++ spelled stays) lost-on
    ∙ (append_assoc lines (spelled lost) (spelled stays) ∙ ap (λ (x : List ℕ). lines ++ x) (sym (flat_map-append spell lost stays)))) in
    let together : lines-after ≡ spelled (ways d (reverse entries) ++ (crosses d (reverse entries) ++ rests d (reverse entries))) =
    behind ∙ (ap (λ (x : List ℕ). x ++ spelled (lost ++ stays)) drawn.lines_are
    ∙ (ap (λ (xs : List Element). spelled (ways d h) ++ spelled (xs ++ stays)) (are ∙ crosses-same d h tracks drawn.follows)
    ∙ (ap (λ (xs : List Element). spelled (ways d h) ++ spelled (crosses d h ++ xs)) (stay ∙ rests-same d h tracks y drawn.follows down)
    ∙ sym (flat_map-append spell (ways d h) (crosses d h ++ rests d h))))) in
    record {
      added = two ∙ (ap (λ (x : List ℕ). mid ++ x) drawn.words_are ∙ ap (λ (x : List ℕ). x ++ spelled (marks d h)) (one ∙ ap (λ (x : List ℕ). old ++ x) together));
    }
