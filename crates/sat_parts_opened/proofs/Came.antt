-- All payloads and beats that hubs were handed are what gears and hubs made.
use Rattle.std.proofs.Common.{◌≡◌, ◌<◌, ℕ, Bool, true, false, ◌==◌, ◌&&◌, List, [], ◌∷◌, Option, Some, refl, sym, ap, ◌∙◌, subst, inl, inr}
use Rattle.std.proofs.lemmas.Bool.{and_parts}
use Rattle.sat_label.proofs.Truth.{same-number}
use Rattle.sat_label.specs.Members.{In}
use Rattle.sat_label.specs.declared.node.NodeName.TheVariants as named
use Rattle.sat_beat.specs.declared.Beat.{Beat}
use Rattle.sat_bulk.specs.Payloads.{Payload}
use Rattle.sat_act.specs.declared.act.Act.TheVariants as act
use Rattle.sat_act.specs.Deployed.{Deployed}
use Rattle.sat_act.specs.Parts.{BeatNote}
use Rattle.sat_model.specs.Fits.{fits, is_gear, is_note, is_other}
use Rattle.sat_proxy.specs.Proxy.{note_of}
use Rattle.sat_node.specs.declared.kept.Kept.{Kept as Line}
use Rattle.sat_node.specs.declared.kept.Body.TheVariants as body
use Rattle.sat_node.specs.Puts.{put_by, puttings}
use Rattle.sat_node.specs.Links.{HeldSeen, takings}
use Rattle.sat_stitch.specs.Kept.{Kept, OfBeat, OfPayload, marks}
use Rattle.sat_stitch.specs.Nodes.{makes_payload}
use Rattle.sat_stitch.specs.Fit.{IsMade}
use Rattle.sat_joint.specs.Pieces.{EachOf, Piece, Plain, piece_marks}
use Rattle.sat_joint.specs.Table.{Node}
use Rattle.sat_joint.specs.Machines.{HubState, hub_after, hub_asked, hub_beat}
use Rattle.sat_joint.specs.Joint.{BeatsFit, PayloadsFit}
use Rattle.sat_hub_laws.specs.Hubs.{hub_act, hub_fits, hub_handed as handed_to}
use Rattle.sat_hub_laws.specs.Lines.{HubLine, hub_piece, hub_pieces, hub_replay}
use Rattle.sat_machines.specs.Layout.{Bulk, peer, place_of}
use Rattle.sat_machines.specs.Sites.{some_if}
use Rattle.sat_machines.specs.declared.serial_act.SerialAct.{SerialAct}
use Rattle.sat_machines.specs.declared.serial_act.SerialAnswer.{SerialAnswer}
use Rattle.sat_parts.specs.declared.hub_answer.HubAnswer.{HubAnswer}
use Rattle.sat_parts.specs.declared.gear_answer.GearAnswer.{GearAnswer}
use Rattle.sat_parts.specs.declared.hub_input.HubInput.{HubInput}
use Rattle.sat_parts.specs.declared.hub_input.HubInput.TheVariants as hub
use Rattle.sat_parts.specs.Acts.{HubActSeen, GearActSeen, client_in, hub_handed}
use Rattle.sat_parts.specs.Hubs.{hub_meaning, hub_puts, hub_takes_from, taken_at}
use Rattle.sat_parts.specs.Gears.{gear_meaning, gear_puts}
use Rattle.sat_parts.specs.Layout.{lane, lane_end, lane_place}
use Rattle.sat_parts.specs.Lines.{gear_line, gear_lines, hub_line, hub_lines}
use Rattle.sat_opened.specs.Delivered.{Delivered}
use Rattle.sat_opened.proofs.Deliveries.{IsPut, came-put, payload-made, put-made}
use Rattle.sat_opened.proofs.Found.{look-up, two-places}
use Rattle.sat_opened.proofs.Handings.{IsBeatOf, beat-is, beat_sort, beats-count, payload_sort, sort_of}
use Rattle.sat_opened.proofs.Layouts.{IsEnd, bulk-end, end-at}
use Rattle.sat_opened.proofs.Numbers.{less-is, same-turned}
use Rattle.sat_opened.proofs.SerialHosts.{between, place-in, place-out}
use Rattle.sat_opened.proofs.SiteKept.{IsOther, other-is}
use Rattle.sat_parts_opened.specs.Opened.{gears_of, hubs_of, pieces_at}
use Rattle.sat_parts_opened.specs.Hosts.{PartsHosted}
use Rattle.sat_parts_opened.proofs.Beats.{beat-puts}
use Rattle.sat_parts_opened.proofs.Hosted.{GearAt, HubAt, find-gear, find-hub, hub-at}
use Rattle.sat_parts_opened.proofs.Laned.{ins-front, lane-in, lane-out, outs-front}
use Rattle.sat_parts_opened.proofs.Payloads.{lane-puts}
use Rattle.sat_parts_opened.proofs.Steps.{GearStep, HubStep}
use Rattle.sat_parts_opened.specs.Keeping.{gear_kept}
use Rattle.sat_parts_opened.proofs.Walked.{each-lined, gear-newest, gear_plains, hub-lined, marks-lined, past-kept, past-more}

-- ---- inputs by their acts

record IsBulk (i g n : ℕ) (p : Payload) (o : Option ℕ) (input : HubInput) : Type 0 where
  is : input ≡ hub.Bulk i g n p
  number : o ≡ Some n

same-bulk : (j i g n from gear number : ℕ) (o : Option ℕ) (p payload : Payload) → act.Bulk from gear j (Some number) ≡ act.Bulk i g j o → Plain (OfPayload number payload) ≡ Plain (OfPayload n p) → IsBulk i g n p o (hub.Bulk from gear number payload)
same-bulk j i g n from gear number o p payload e f =
    let a : from ≡ i = cc in
    let b : gear ≡ g = cc in
    let c : number ≡ n = cc in
    let q : payload ≡ p = cc in
    let w : Some number ≡ o = cc in
    record { is = λ k. hub.Bulk (a k) (b k) (c k) (q k); number = sym w ∙ ap (λ (m : ℕ). Some m) c }

bulk-input : (j c i g n : ℕ) (o : Option ℕ) (p : Payload) (input : HubInput) → hub_act j c (hub_handed input) ≡ act.Bulk i g j o → handed_to (hub_handed input) ≡ Plain (OfPayload n p) → IsBulk i g n p o input
bulk-input j c i g n o p (hub.Bulk from gear number payload) e f = same-bulk j i g n from gear number o p payload e f
bulk-input j c i g n o p (hub.Attach seen) e f = absurd (cc)
bulk-input j c i g n o p _ e f = absurd (cc)

record IsBeatIn (i n : ℕ) (note : BeatNote) (input : HubInput) : Type 0 where
  beat : Beat
  is : input ≡ hub.BeatIn i n beat
  noted : note_of beat ≡ note

same-beat : (j i n from number : ℕ) (b : Beat) (note : BeatNote) → act.BeatIn from j number ≡ act.BeatIn i j n → Plain (OfBeat (note_of b)) ≡ Plain (OfBeat note) → IsBeatIn i n note (hub.BeatIn from number b)
same-beat j i n from number b note e f =
    let a : from ≡ i = cc in
    let c : number ≡ n = cc in
    let w : note_of b ≡ note = cc in
    record { beat = b; is = λ k. hub.BeatIn (a k) (c k) b; noted = w }

beat-input : (j c i n : ℕ) (note : BeatNote) (input : HubInput) → hub_act j c (hub_handed input) ≡ act.BeatIn i j n → handed_to (hub_handed input) ≡ Plain (OfBeat note) → IsBeatIn i n note input
beat-input j c i n note (hub.BeatIn from number b) e f = same-beat j i n from number b note e f
beat-input j c i n note (hub.Attach seen) e f = absurd (cc)
beat-input j c i n note _ e f = absurd (cc)

-- a payload comes from a gear of another site, and a beat from another site
record IsGearOf (d : Deployed) (j i g : ℕ) : Type 0 where
  other : IsOther d j i
  within : g < d.gears

bulk-other : (d : Deployed) (j i g n : ℕ) (p : Payload) (h : HubState) → hub_fits d j h (hub_handed (hub.Bulk i g n p)) ≡ true → IsGearOf d j i g
unfolding fits
bulk-other d j i g n p h e =
    let w = and_parts (is_other d j i) (is_gear d g) (and_parts (is_other d j i && is_gear d g) _ e).0 in
    record { other = other-is d j i w.0; within = less-is g d.gears w.1 }

beat-other : (d : Deployed) (j i n : ℕ) (b : Beat) (h : HubState) → hub_fits d j h (hub_handed (hub.BeatIn i n b)) ≡ true → IsOther d j i
unfolding fits
beat-other d j i n b h e = other-is d j i (and_parts (is_other d j i) (is_note d (note_of b)) e).0

taken-if : {X : Type 0} (a b : ℕ) (x : X) → b ≡ a → some_if (a == b) x ≡ Some x
taken-if a b x e = ap (λ (m : ℕ). some_if (a == m) x) e ∙ ap (λ (t : Bool). some_if t x) (same-number a)

-- what holds of each entry holds of its piece
each-pieces : (i : ℕ) (P : List Piece → Piece → Type 0) (ls : List HubLine) → EachOf (λ ls l. P (hub_pieces i ls) (hub_piece i l)) ls → EachOf P (hub_pieces i ls)
each-pieces i P [] a = tt
each-pieces i P (l ∷ ls) a = (each-pieces i P ls a.0, a.1)

module _ {M G K : Type 0} (d : Deployed) (hubs : List (HeldSeen M HubActSeen HubAnswer)) (gears : List (HeldSeen G GearActSeen GearAnswer)) (serials : List (HeldSeen K SerialAct SerialAnswer)) (all : PartsHosted d hubs gears serials) where
  names-same : (i j : ℕ) → named.Site i ≡ named.Site j → i ≡ j
  names-same i j e = cc

  not-one : (i j : ℕ) → (i == j) ≡ false → i ≡ j → ⊥
  not-one i j w e = let clash : (i == j) ≡ true = ap (λ (n : ℕ). i == n) (sym e) ∙ same-number i in absurd (cc)

  -- ---- lanes

  payload-came : (i j g n : ℕ) (p : Payload) → (i == j) ≡ false → i < d.sites → g < d.gears → (s : GearAt d hubs gears serials all i g) (r : HubAt d hubs gears serials all j) (x : Line HubActSeen HubAnswer) → In r.found.held.node.entries x → x.input.input ≡ hub.Bulk i g n p →
      IsMade (marks (makes_payload d g j) (gear_plains i g (gears_of gears i g))) n p x.lamport
  payload-came i j g n p ne lt less s r x m is =
      let out : (k : ℕ) × IsEnd d i j k = end-at d i j lt r.inside (same-turned j i ∙ ne) in
      let into : (k : ℕ) × IsEnd d j i k = end-at d j i r.inside lt ne in
      let came : Delivered (takings (hub_takes_from d (named.Site j) (lane_end d j i g)) r.found.held.node.entries) (put_by (gear_puts (named.Gear i g) out.0) s.found.held.node.entries) =
      between (gear_meaning d) (hub_meaning d) s.found.held r.found.held (named.Gear i g) (named.Site j) s.found.is_named r.found.is_named (all.lanes s.found.index r.found.index s.found.held r.found.held s.found.there r.found.there) out.0 (lane_end d j i g) (lane_place d (lane i g j))
      (lane-out d i g out.0 out.1.within ∙ ap (λ (j : ℕ). Some (lane_place d (lane i g j))) out.1.peer)
      (lane-in d j i g into.0 into.1 less) in
      subst (λ (ls : List (Line GearActSeen GearAnswer)). IsMade (marks (makes_payload d g j) (gear_plains i g (gear_lines ls))) n p x.lamport) (sym s.found.entries_are)
      (subst (λ (ks : List Kept). IsMade (marks (makes_payload d g j) ks) n p x.lamport) (sym (gear-newest i g s.found.held.node.entries))
      (payload-made (gear_puts (named.Gear i g) out.0) (hub_takes_from d (named.Site j) (lane_end d j i g)) (gear_kept i g) (λ x. refl) s.found.held.node.entries r.found.held.node.entries came g n p (makes_payload d g j) x
      (past-kept gear_line (gear_kept i g) (gear_plains i g) (λ x ls. refl) (GearStep d i g) (λ b x. sort_of (payload_sort g) (gear_puts (named.Gear i g) out.0 x.input x.answer) ≡ makes_payload d g j b (gear_kept i g x)) [] s.found.held.node.entries
      (λ b x m step. lane-puts d i j g out.0 (same-turned j i ∙ ne) out.1.peer b x step) s.steps)
      m (ap (λ (input : HubInput). taken_at d j (lane_end d j i g) input x.answer) is ∙ taken-if (lane_end d j i g) (lane_end d j i g) (body.Payload g n p) refl)))

  -- ---- beats

  beat-came : (i j n : ℕ) (b : Beat) → (i == j) ≡ false → (s : HubAt d hubs gears serials all i) (r : HubAt d hubs gears serials all j) (x : Line HubActSeen HubAnswer) → In r.found.held.node.entries x → x.input.input ≡ hub.BeatIn i n b →
      IsMade (piece_marks (hub_beat d i j) (hub_pieces i (hubs_of hubs i))) n (note_of b) x.lamport
  beat-came i j n b ne s r x m is =
      let out : (k : ℕ) × IsEnd d i j k = end-at d i j s.inside r.inside (same-turned j i ∙ ne) in
      let into : (k : ℕ) × IsEnd d j i k = end-at d j i r.inside s.inside ne in
      let came : Delivered (takings (hub_takes_from d (named.Site j) into.0) r.found.held.node.entries) (put_by (hub_puts (named.Site i) out.0) s.found.held.node.entries) =
      between (hub_meaning d) (hub_meaning d) s.found.held r.found.held (named.Site i) (named.Site j) s.found.is_named r.found.is_named
      (all.between_hubs s.found.index r.found.index s.found.held r.found.held (two-places (named.Site i) (named.Site j) hubs s.found r.found (λ w. not-one i j ne (names-same i j w))) s.found.there r.found.there)
      out.0 into.0 (place_of d (Bulk i (peer i out.0)))
      (outs-front d i out.0 (place_of d (Bulk i (peer i out.0))) (place-out d (named.Site i) out.0 (Bulk i (peer i out.0)) (bulk-end d i out.0 out.1.within)))
      (ins-front d j into.0 (place_of d (Bulk i (peer i out.0))) (place-in d (named.Site j) into.0 (Bulk i (peer i out.0)) (Bulk j (peer j into.0)) (bulk-end d j into.0 into.1.within) (λ k. Bulk (into.1.peer k) (sym out.1.peer k)))) in
      let w : IsPut (puttings (hub_puts (named.Site i) out.0) s.found.held.node.entries) (body.Beat n b) x.lamport =
      came-put (hub_puts (named.Site i) out.0) (hub_takes_from d (named.Site j) into.0) s.found.held.node.entries r.found.held.node.entries x (body.Beat n b) came m
      (ap (λ (input : HubInput). taken_at d j into.0 input x.answer) is ∙ taken-if i (peer j into.0) (body.Beat n b) into.1.peer) refl in
      let v : IsBeatOf n b w.before w.thing.made = beat-is w.before w.thing.made n b w.same in
      subst (λ (ls : List (Line HubActSeen HubAnswer)). IsMade (piece_marks (hub_beat d i j) (hub_pieces i (hub_lines ls))) n (note_of b) x.lamport) (sym s.found.entries_are)
      (subst (λ (ls : List HubLine). IsMade (piece_marks (hub_beat d i j) (hub_pieces i ls)) n (note_of b) x.lamport) (hub-lined [] s.found.held.node.entries)
      (subst (λ (zs : List (ℕ × BeatNote)). IsMade zs n (note_of b) x.lamport)
      (sym (marks-lined hub_line (hub_pieces i) (hub_piece i) (λ l ls. refl) (λ x. refl) beat_sort (hub_puts (named.Site i) out.0) (hub_beat d i j) [] s.found.held.node.entries
      (past-more hub_line (HubStep d i) (λ b x. sort_of beat_sort (hub_puts (named.Site i) out.0 x.input x.answer) ≡ hub_beat d i j (hub_pieces i b) (hub_piece i (hub_line x))) [] s.found.held.node.entries
      (λ b x m step. beat-puts d i j out.0 (same-turned j i ∙ ne) out.1.peer b x step) s.steps)))
      (put-made beat_sort (puttings (hub_puts (named.Site i) out.0) s.found.held.node.entries) (body.Beat n b) x.lamport n (note_of b) w v.is (beats-count w.before ∙ v.number))))

  -- ---- each entry

  module _ (alone : ℕ → List Piece) where
    abbrev lists : Node → List Piece
    lists = pieces_at hubs gears serials alone

    payload-at : (j : ℕ) (r : HubAt d hubs gears serials all j) (ls : List HubLine) (x : Line HubActSeen HubAnswer) → In r.found.held.node.entries x → HubStep d j ls x → PayloadsFit d lists j (hub_pieces j ls) (hub_piece j (hub_line x))
    payload-at j r ls x m step i g n o p e f =
        let w : IsBulk i g n p o x.input.input = bulk-input j (client_in x.input.by) i g n o p x.input.input e f in
        let from : IsGearOf d j i g = bulk-other d j i g n p (hub_replay d j ls) (subst (λ (input : HubInput). hub_fits d j (hub_replay d j ls) (hub_handed input) ≡ true) w.is step.fits_there.fits) in (
          sym (ap (hub_asked d j (hub_after d j (hub_pieces j ls)) i g) w.number),
          payload-came i j g n p from.other.apart from.other.within from.within (find-gear d hubs gears serials all i g from.other.within from.within) r x m w.is,
        )

    beat-at : (j : ℕ) (r : HubAt d hubs gears serials all j) (ls : List HubLine) (x : Line HubActSeen HubAnswer) → In r.found.held.node.entries x → HubStep d j ls x → BeatsFit d lists j (hub_pieces j ls) (hub_piece j (hub_line x))
    beat-at j r ls x m step i n note e f =
        let w : IsBeatIn i n note x.input.input = beat-input j (client_in x.input.by) i n note x.input.input e f in
        let other : IsOther d j i = beat-other d j i n w.beat (hub_replay d j ls) (subst (λ (input : HubInput). hub_fits d j (hub_replay d j ls) (hub_handed input) ≡ true) w.is step.fits_there.fits) in
        subst (λ (y : BeatNote). IsMade (piece_marks (hub_beat d i j) (hub_pieces i (hubs_of hubs i))) n y x.lamport) w.noted
        (beat-came i j n w.beat other.apart (find-hub d hubs gears serials all i other.within) r x m w.is)

    -- of each hub, if there is one
    each-hub : (P : ℕ → List Piece → Piece → Type 0) → ((j : ℕ) (r : HubAt d hubs gears serials all j) (ls : List HubLine) (x : Line HubActSeen HubAnswer) → In r.found.held.node.entries x → HubStep d j ls x → P j (hub_pieces j ls) (hub_piece j (hub_line x))) → (j : ℕ) → EachOf (P j) (hub_pieces j (hubs_of hubs j))
    each-hub P f j = elim (look-up (named.Site j) hubs) [
      | inr none ↦ subst (λ (ls : List (Line HubActSeen HubAnswer)). EachOf (P j) (hub_pieces j (hub_lines ls))) (sym none) tt
      | inl found ↦
          let r : HubAt d hubs gears serials all j = hub-at d hubs gears serials all j found in
          subst (λ (ls : List (Line HubActSeen HubAnswer)). EachOf (P j) (hub_pieces j (hub_lines ls))) (sym r.found.entries_are)
          (each-pieces j (P j) (hub_lines r.found.held.node.entries)
          (subst (λ (ls : List HubLine). EachOf (λ ls l. P j (hub_pieces j ls) (hub_piece j l)) ls) (hub-lined [] r.found.held.node.entries)
          (each-lined hub_line (λ ls l. P j (hub_pieces j ls) (hub_piece j l)) (HubStep d j) [] r.found.held.node.entries (λ b x m step. f j r b x m step) tt r.steps)))
    ]

    pub payloads : (j : ℕ) → EachOf (PayloadsFit d lists j) (hub_pieces j (hubs_of hubs j))
    payloads j = each-hub (λ j. PayloadsFit d lists j) payload-at j

    pub beats : (j : ℕ) → EachOf (BeatsFit d lists j) (hub_pieces j (hubs_of hubs j))
    beats j = each-hub (λ j. BeatsFit d lists j) beat-at j
