-- All payloads and beats of hosts.
use Rattle.std.proofs.Common.{◌≡◌, ℕ, Bool, true, false, ◌==◌, List, [], Option, Some, refl, sym, ap, ◌∙◌, subst, inl, inr}
use Rattle.sat_label.proofs.Truth.{same-number}
use Rattle.sat_label.specs.Members.{In}
use Rattle.sat_label.specs.declared.node.NodeName.TheVariants as named
use Rattle.sat_beat.specs.declared.Beat.{Beat}
use Rattle.sat_bulk.specs.Payloads.{Payload}
use Rattle.sat_act.specs.declared.act.Act.TheVariants as act
use Rattle.sat_act.specs.Deployed.{Deployed}
use Rattle.sat_act.specs.Limits.{IsDeployment}
use Rattle.sat_act.specs.Parts.{BeatNote}
use Rattle.sat_proxy.specs.Proxy.{note_of}
use Rattle.sat_site.specs.declared.input.SiteInput.{SiteInput}
use Rattle.sat_site.specs.declared.input.SiteInput.TheVariants as input
use Rattle.sat_node.specs.declared.kept.Kept.{Kept as Line}
use Rattle.sat_node.specs.declared.kept.Body.TheVariants as body
use Rattle.sat_node.specs.Puts.{put_by}
use Rattle.sat_node.specs.Links.{HeldSeen, takings}
use Rattle.sat_machines.specs.Acts.{ActSeen}
use Rattle.sat_machines.specs.Layout.{Bulk, peer, place_of}
use Rattle.sat_machines.specs.declared.site_answer.SiteAnswer.{SiteAnswer}
use Rattle.sat_machines.specs.declared.serial_act.SerialAct.{SerialAct}
use Rattle.sat_machines.specs.declared.serial_act.SerialAnswer.{SerialAnswer}
use Rattle.sat_machines.specs.Sites.{site_meaning, site_puts, site_takes, some_if, taken_on}
use Rattle.sat_stitch.specs.Kept.{Kept, OfPayload, OfBeat, Each, marks}
use Rattle.sat_stitch.specs.Places.{Place}
use Rattle.sat_stitch.specs.Nodes.{site_after, makes_payload, makes_beat, asked}
use Rattle.sat_stitch.specs.Fit.{IsMade, PayloadsHanded, BeatsHanded}
use Rattle.sat_opened.specs.Keeping.{client_in, site_act, site_given, site_kept, newest}
use Rattle.sat_opened.specs.Opened.{entries_at, lists_of}
use Rattle.sat_opened.specs.Delivered.{Delivered}
use Rattle.sat_opened.specs.Hosts.{AllHosts}
use Rattle.sat_opened.proofs.Numbers.{same-turned}
use Rattle.sat_opened.proofs.Walks.{along-more, each-behind}
use Rattle.sat_opened.proofs.Found.{look-up, two-places}
use Rattle.sat_opened.proofs.Handings.{sort_of, payload_sort, beat_sort}
use Rattle.sat_opened.proofs.Layouts.{bulk-end, IsEnd, end-at}
use Rattle.sat_opened.proofs.SiteKept.{SiteStep, IsOther, from-other}
use Rattle.sat_opened.proofs.Lanes.{lane-puts, beat-puts}
use Rattle.sat_opened.proofs.Deliveries.{payload-made, beat-made}
use Rattle.sat_opened.proofs.SerialHosts.{place-out, place-in, between}
use Rattle.sat_opened.proofs.Links.{SiteAt, site-at, find-site}

-- ---- inputs by their acts

record IsBulk (i g n : ℕ) (p : Payload) (o : Option ℕ) (given : SiteInput) : Type 0 where
  is : given ≡ input.Bulk i g n p
  number : o ≡ Some n

same-bulk : (j i g n from gear number : ℕ) (o : Option ℕ) (p payload : Payload) → act.Bulk from gear j (Some number) ≡ act.Bulk i g j o → OfPayload number payload ≡ OfPayload n p → IsBulk i g n p o (input.Bulk from gear number payload)
same-bulk j i g n from gear number o p payload e f =
    let a : from ≡ i = cc in
    let b : gear ≡ g = cc in
    let c : number ≡ n = cc in
    let q : payload ≡ p = cc in
    let w : Some number ≡ o = cc in
    record { is = λ k. input.Bulk (a k) (b k) (c k) (q k); number = sym w ∙ ap (λ (m : ℕ). Some m) c }

bulk-input : (j c i g n : ℕ) (o : Option ℕ) (p : Payload) (given : SiteInput) → site_act j c given ≡ act.Bulk i g j o → site_given j given ≡ OfPayload n p → IsBulk i g n p o given
bulk-input j c i g n o p (input.Bulk from gear number payload) e f = same-bulk j i g n from gear number o p payload e f
bulk-input j c i g n o p _ e f = absurd (cc)

record IsBeatIn (i n : ℕ) (note : BeatNote) (given : SiteInput) : Type 0 where
  beat : Beat
  is : given ≡ input.BeatIn i n beat
  noted : note_of beat ≡ note

same-beat : (j i n from number : ℕ) (b : Beat) (note : BeatNote) → act.BeatIn from j number ≡ act.BeatIn i j n → OfBeat (note_of b) ≡ OfBeat note → IsBeatIn i n note (input.BeatIn from number b)
same-beat j i n from number b note e f =
    let a : from ≡ i = cc in
    let c : number ≡ n = cc in
    let w : note_of b ≡ note = cc in
    record { beat = b; is = λ k. input.BeatIn (a k) (c k) b; noted = w }

beat-input : (j c i n : ℕ) (note : BeatNote) (given : SiteInput) → site_act j c given ≡ act.BeatIn i j n → site_given j given ≡ OfBeat note → IsBeatIn i n note given
beat-input j c i n note (input.BeatIn from number b) e f = same-beat j i n from number b note e f
beat-input j c i n note _ e f = absurd (cc)

-- what an input takes from the end of its lane
taken-if : {X : Type 0} (a b : ℕ) (x : X) → b ≡ a → some_if (a == b) x ≡ Some x
taken-if a b x e = ap (λ (m : ℕ). some_if (a == m) x) e ∙ ap (λ (t : Bool). some_if t x) (same-number a)

module _ {M K : Type 0} (d : Deployed) (sites : List (HeldSeen M ActSeen SiteAnswer)) (serials : List (HeldSeen K SerialAct SerialAnswer)) (dep : IsDeployment d) (all : AllHosts d sites serials) where
  names-same : (i j : ℕ) → named.Site i ≡ named.Site j → i ≡ j
  names-same i j e = cc

  not-one : (i j : ℕ) → (i == j) ≡ false → i ≡ j → ⊥
  not-one i j w e = let clash : (i == j) ≡ true = ap (λ (n : ℕ). i == n) (sym e) ∙ same-number i in absurd (cc)

  -- the lane from a site to another, by the ends of both
  record Lane (i j : ℕ) (s : SiteAt d sites serials dep all i) (r : SiteAt d sites serials dep all j) : Type 0 where
    out : ℕ
    into : ℕ
    to : peer i out ≡ j
    back : peer j into ≡ i
    came : Delivered (takings (site_takes (named.Site j) into) r.found.held.node.entries) (put_by (site_puts (named.Site i) out) s.found.held.node.entries)

  lane : (i j : ℕ) → (i == j) ≡ false → (s : SiteAt d sites serials dep all i) (r : SiteAt d sites serials dep all j) → Lane i j s r
  lane i j ne s r =
      let out : (k : ℕ) × IsEnd d i j k = end-at d i j s.inside r.inside (same-turned j i ∙ ne) in
      let into : (k : ℕ) × IsEnd d j i k = end-at d j i r.inside s.inside ne in
      let came : Delivered (takings (site_takes (named.Site j) into.0) r.found.held.node.entries) (put_by (site_puts (named.Site i) out.0) s.found.held.node.entries) =
      between (site_meaning d) (site_meaning d) s.found.held r.found.held (named.Site i) (named.Site j) s.found.is_named r.found.is_named
      (all.between_sites s.found.index r.found.index s.found.held r.found.held (two-places (named.Site i) (named.Site j) sites s.found r.found (λ w. not-one i j ne (names-same i j w))) s.found.there r.found.there)
      out.0 into.0 (place_of d (Bulk i (peer i out.0)))
      (place-out d (named.Site i) out.0 (Bulk i (peer i out.0)) (bulk-end d i out.0 out.1.within))
      (place-in d (named.Site j) into.0 (Bulk i (peer i out.0)) (Bulk j (peer j into.0)) (bulk-end d j into.0 into.1.within) (λ k. Bulk (into.1.peer k) (sym out.1.peer k))) in
      record {
        out = out.0;
        into = into.0;
        to = out.1.peer;
        back = into.1.peer;
        came = came;
      }

  abbrev made_list : ℕ → List Kept
  made_list i = newest (site_kept i) (entries_at (named.Site i) sites)

  -- a payload that came to site j is the one of its number that its sender made
  payload-came : (i j g n : ℕ) (p : Payload) → (i == j) ≡ false → (s : SiteAt d sites serials dep all i) (r : SiteAt d sites serials dep all j) (x : Line ActSeen SiteAnswer) → In r.found.held.node.entries x → x.input.input ≡ input.Bulk i g n p →
      IsMade (marks (makes_payload d g j) (made_list i)) n p x.lamport
  payload-came i j g n p ne s r x m is =
      let l : Lane i j s r = lane i j ne s r in
      subst (λ (ls : List (Line ActSeen SiteAnswer)). IsMade (marks (makes_payload d g j) (newest (site_kept i) ls)) n p x.lamport) (sym s.found.entries_are)
      (payload-made (site_puts (named.Site i) l.out) (site_takes (named.Site j) l.into) (site_kept i) (λ x. refl) s.found.held.node.entries r.found.held.node.entries l.came g n p (makes_payload d g j) x
      (along-more (site_kept i) (SiteStep d i) (λ b x. sort_of (payload_sort g) (site_puts (named.Site i) l.out x.input x.answer) ≡ makes_payload d g j b (site_kept i x)) [] s.found.held.node.entries
      (λ b x m step. lane-puts d i j (same-turned j i ∙ ne) g l.out l.to b x step) s.steps)
      m (ap (λ (given : SiteInput). taken_on (peer j l.into) l.into given x.answer) is ∙ taken-if i (peer j l.into) (body.Payload g n p) l.back))

  beat-came : (i j n : ℕ) (b : Beat) → (i == j) ≡ false → (s : SiteAt d sites serials dep all i) (r : SiteAt d sites serials dep all j) (x : Line ActSeen SiteAnswer) → In r.found.held.node.entries x → x.input.input ≡ input.BeatIn i n b →
      IsMade (marks (makes_beat d i j) (made_list i)) n (note_of b) x.lamport
  beat-came i j n b ne s r x m is =
      let l : Lane i j s r = lane i j ne s r in
      subst (λ (ls : List (Line ActSeen SiteAnswer)). IsMade (marks (makes_beat d i j) (newest (site_kept i) ls)) n (note_of b) x.lamport) (sym s.found.entries_are)
      (beat-made (site_puts (named.Site i) l.out) (site_takes (named.Site j) l.into) (site_kept i) (λ x. refl) s.found.held.node.entries r.found.held.node.entries l.came n b (makes_beat d i j) x
      (along-more (site_kept i) (SiteStep d i) (λ b x. sort_of beat_sort (site_puts (named.Site i) l.out x.input x.answer) ≡ makes_beat d i j b (site_kept i x)) [] s.found.held.node.entries
      (λ b x m step. beat-puts d i j (same-turned j i ∙ ne) l.out l.to b x step) s.steps)
      m (ap (λ (given : SiteInput). taken_on (peer j l.into) l.into given x.answer) is ∙ taken-if i (peer j l.into) (body.Beat n b) l.back))

  -- ---- each entry

  module _ (alone : ℕ → List Kept) where
    abbrev lists : Place → List Kept
    lists = lists_of sites serials alone

    payload-at : (j : ℕ) (r : SiteAt d sites serials dep all j) (b : List Kept) (x : Line ActSeen SiteAnswer) → In r.found.held.node.entries x → SiteStep d j b x → PayloadsHanded d lists j b (site_kept j x)
    payload-at j r b x m step i g n o p e f =
        let w : IsBulk i g n p o x.input.input = bulk-input j (client_in x.input.by) i g n o p x.input.input e f in
        let other : IsOther d j i = from-other d j (site_after d j b) x.input.input i step.fits_there.fits (inl (g, n, p, w.is)) in
        let s : SiteAt d sites serials dep all i = find-site d sites serials dep all i other.within in
        (sym (ap (asked (site_after d j b) i g) w.number), payload-came i j g n p other.apart s r x m w.is)

    beat-at : (j : ℕ) (r : SiteAt d sites serials dep all j) (b : List Kept) (x : Line ActSeen SiteAnswer) → In r.found.held.node.entries x → SiteStep d j b x → BeatsHanded d lists j b (site_kept j x)
    beat-at j r b x m step i n note e f =
        let w : IsBeatIn i n note x.input.input = beat-input j (client_in x.input.by) i n note x.input.input e f in
        let other : IsOther d j i = from-other d j (site_after d j b) x.input.input i step.fits_there.fits (inr (n, w.beat, w.is)) in
        let s : SiteAt d sites serials dep all i = find-site d sites serials dep all i other.within in
        subst (λ (y : BeatNote). IsMade (marks (makes_beat d i j) (made_list i)) n y x.lamport) w.noted (beat-came i j n w.beat other.apart s r x m w.is)

    pub payloads : (j : ℕ) → Each (PayloadsHanded d lists j) (made_list j)
    payloads j = elim (look-up (named.Site j) sites) [
      | inr none ↦ subst (λ (ls : List (Line ActSeen SiteAnswer)). Each (PayloadsHanded d lists j) (newest (site_kept j) ls)) (sym none) tt
      | inl f ↦
          let r : SiteAt d sites serials dep all j = site-at d sites serials dep all j f in
          subst (λ (ls : List (Line ActSeen SiteAnswer)). Each (PayloadsHanded d lists j) (newest (site_kept j) ls)) (sym r.found.entries_are)
          (each-behind (site_kept j) (PayloadsHanded d lists j) (SiteStep d j) [] r.found.held.node.entries (λ b x m step. payload-at j r b x m step) tt r.steps)
    ]

    pub beats : (j : ℕ) → Each (BeatsHanded d lists j) (made_list j)
    beats j = elim (look-up (named.Site j) sites) [
      | inr none ↦ subst (λ (ls : List (Line ActSeen SiteAnswer)). Each (BeatsHanded d lists j) (newest (site_kept j) ls)) (sym none) tt
      | inl f ↦
          let r : SiteAt d sites serials dep all j = site-at d sites serials dep all j f in
          subst (λ (ls : List (Line ActSeen SiteAnswer)). Each (BeatsHanded d lists j) (newest (site_kept j) ls)) (sym r.found.entries_are)
          (each-behind (site_kept j) (BeatsHanded d lists j) (SiteStep d j) [] r.found.held.node.entries (λ b x m step. beat-at j r b x m step) tt r.steps)
    ]
