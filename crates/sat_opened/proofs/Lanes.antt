-- What a site's entries put on its link to another site, of payloads and beats, is what the kept list makes for that site.
use Rattle.std.proofs.Common.{◌≡◌, ℕ, Bool, true, false, ◌==◌, ◌&&◌, not, List, Option, Some, None, if◌then◌else◌, refl, sym, ap, ◌∙◌}
use Rattle.sat_label.specs.Words.{bit}
use Rattle.sat_label.specs.declared.label.Kind.{Kind}
use Rattle.sat_label.specs.declared.items.Items.{Items}
use Rattle.sat_label.specs.Grouped.{list_of}
use Rattle.sat_label.specs.declared.label.Kind.TheVariants as kind
use Rattle.sat_label.specs.declared.label.Label.{Label}
use Rattle.sat_label.specs.declared.node.NodeName.TheVariants as named
use Rattle.sat_beat.specs.declared.Beat.{Beat}
use Rattle.sat_bulk.specs.Payloads.{Payload}
use Rattle.sat_act.specs.declared.answer.Answer.{Answer}
use Rattle.sat_act.specs.declared.answer.Answer.TheVariants as ans
use Rattle.sat_act.specs.Deployed.{Deployed}
use Rattle.sat_act.specs.Parts.{BeatNote, is_target, keeps_some}
use Rattle.sat_model.specs.State.{SiteState}
use Rattle.sat_model.specs.Input.{SiteInput as Handed}
use Rattle.sat_model.specs.Input as given
use Rattle.sat_model.specs.Next.{payload_at, note_of as machine_note}
use Rattle.sat_model.specs.Reply.{site_answer}
use Rattle.sat_proxy.specs.Proxy.{note_of}
use Rattle.sat_site.specs.declared.input.SiteInput.{SiteInput}
use Rattle.sat_site.specs.declared.input.SiteInput.TheVariants as input
use Rattle.sat_site.specs.Inputs.{input_of}
use Rattle.sat_node.specs.declared.kept.Kept.{Kept as Line}
use Rattle.sat_node.specs.declared.kept.Made.{Made}
use Rattle.sat_node.specs.declared.kept.Made.TheVariants as made
use Rattle.sat_machines.specs.Acts.{ActSeen}
use Rattle.sat_machines.specs.Layout.{peer}
use Rattle.sat_machines.specs.declared.site_answer.SiteAnswer.{SiteAnswer}
use Rattle.sat_machines.specs.Sites.{sent_by, is_keeper, BeatBy, payload_in, beat_in, bulk_to, some_if, label_or, site_puts}
use Rattle.sat_stitch.specs.Kept.{Kept}
use Rattle.sat_stitch.specs.Nodes.{site_after, payload_made, beat_made, with_input, makes_payload, makes_beat}
use Rattle.sat_opened.specs.Keeping.{client_in, site_kept}
use Rattle.sat_opened.proofs.Numbers.{same-is, and-yes}
use Rattle.sat_opened.proofs.Handings.{sort_of, payload_sort, beat_sort}
use Rattle.sat_opened.proofs.Says.{Says, quiet, wrote, moved, gathered, emitted, pulsed, closed, shown, took, stamped, beaten, passed, is_quiet, IsOwn}
use Rattle.sat_opened.proofs.SiteKept.{SiteStep, input-kept}

-- ---- what is of a sort

-- labels are of no such sort, whether they are for this end or not
pub no-labels : {Y : Type 0} (sort : Made → Option Y) → ((l : Label) → sort (made.Label l) ≡ None) → (o : Option Label) (here : Bool) (m : Option Made) → sort_of sort m ≡ None → sort_of sort (label_or o here m) ≡ None
no-labels sort f None here m e = e
no-labels sort f (Some l) true m e = f l
no-labels sort f (Some l) false m e = refl

beat-no-payload : (g : ℕ) (b : Bool) (o : Option Beat) → sort_of (payload_sort g) (beat_in b o) ≡ None
beat-no-payload g b None = refl
beat-no-payload g true (Some x) = refl
beat-no-payload g false (Some x) = refl

payload-no-beat : (b : Bool) (values : List (List ℕ)) (r : Answer) → sort_of beat_sort (payload_in b values r) ≡ None
payload-no-beat true values (ans.Wrote l) = refl
payload-no-beat false values (ans.Wrote l) = refl
payload-no-beat b values _ = refl

quiet-payload : (g : ℕ) (b : Bool) (values : List (List ℕ)) (r : Answer) → is_quiet r ≡ true → sort_of (payload_sort g) (payload_in b values r) ≡ None
quiet-payload g b values (ans.Wrote l) q = absurd (cc)
quiet-payload g b values _ q = refl

quiet-made : (d : Deployed) (g j : ℕ) (x : Handed) (r : Answer) → is_quiet r ≡ true → None ≡ payload_made d g j x r
quiet-made d g j x (ans.Wrote l) q = absurd (cc)
quiet-made d g j x _ q = refl

quiet-beats : (d : Deployed) (i j : ℕ) (s : SiteState) (x : Handed) (r : Answer) → is_quiet r ≡ true → None ≡ beat_made d i s j x r
quiet-beats d i j s x (ans.Beat n) q = absurd (cc)
quiet-beats d i j s x _ q = refl

-- ---- the payload of a write

not-other : (b c : Bool) → c ≡ false → (b && not c) ≡ b
not-other b true e = absurd (cc)
not-other b false e = and-yes b

target-at : (d : Deployed) (items : Items) (i j m : ℕ) (k : Kind) → k ≡ kind.Update items → m ≡ i → (j == i) ≡ false →
    ◌≡◌ {A = Bool} (elim k [ kind.Update items ↦ keeps_some d (list_of items) j && not (j == m) | kind.Move h ↦ j == h | kind.Pulse ↦ not (j == m) | kind.Close e ↦ not (j == m) ]) (keeps_some d (list_of items) j)
target-at d items i j m k e w ne =
    ap (λ (k : Kind). elim k [ kind.Update items ↦ keeps_some d (list_of items) j && not (j == m) | kind.Move h ↦ j == h | kind.Pulse ↦ not (j == m) | kind.Close e ↦ not (j == m) ]) e ∙
    not-other (keeps_some d (list_of items) j) (j == m) (ap (λ (x : ℕ). j == x) w ∙ ne)

pub target-is : (d : Deployed) (i j : ℕ) (items : Items) (l : Label) → l.kind ≡ kind.Update items → l.point.site ≡ i → (j == i) ≡ false → is_target d l j ≡ keeps_some d (list_of items) j
unfolding is_target
target-is d i j items l e w ne = target-at d items i j l.point.site l.kind e w ne

pub sorted-payload : (g gear : ℕ) (here t : Bool) (p : Payload) → here ≡ t → sort_of (payload_sort g) (some_if here (made.Payload gear p)) ≡ (if (gear == g) && t then Some p else None)
sorted-payload g gear true true p e = go (gear == g)
  where
    go : (b : Bool) → (if b then Some p else None) ≡ (if b && true then Some p else None)
    go true = refl
    go false = refl
sorted-payload g gear false false p e = go (gear == g)
  where
    go : (b : Bool) → None ≡ (if b && false then Some p else None)
    go true = refl
    go false = refl
sorted-payload g gear true false p e = absurd (cc)
sorted-payload g gear false true p e = absurd (cc)

module _ (d : Deployed) (i j : ℕ) (ne : (j == i) ≡ false) where
  module _ (g : ℕ) (a : SiteAnswer) (k : ℕ) (at : peer i k ≡ j) where
    wrote-payload : (items : Items) (values : List (List ℕ)) (l : Label) → l.kind ≡ kind.Update items → IsOwn i l → ((m : ℕ) → bit a.keepers.bits m ≡ keeps_some d (list_of items) m) → a.answer ≡ ans.Wrote l →
        sort_of (payload_sort g) (payload_in (bit a.keepers.bits (peer i k)) values a.answer) ≡ (if (l.point.gear == g) && is_target d l j then Some (payload_at l values) else None)
    wrote-payload items values l e o keepers w =
        ap (λ (r : Answer). sort_of (payload_sort g) (payload_in (bit a.keepers.bits (peer i k)) values r)) w ∙
        sorted-payload g l.point.gear (bit a.keepers.bits (peer i k)) (is_target d l j) (payload_at l values)
        (ap (bit a.keepers.bits) at ∙ (keepers j ∙ sym (target-is d i j items l e o.site ne)))

    -- an input that is no write and no beat
    other-payload : (given : SiteInput) → bulk_to (peer i k) given a ≡ None → sort_of (payload_sort g) (label_or a.sent (a.link == k) (bulk_to (peer i k) given a)) ≡ None
    other-payload given e = no-labels (payload_sort g) (λ l. refl) a.sent (a.link == k) (bulk_to (peer i k) given a) (ap (sort_of (payload_sort g)) e)

    quiet-put : (given : SiteInput) (r : Answer) → is_quiet r ≡ true → a.answer ≡ r → sort_of (payload_sort g) (label_or a.sent (a.link == k) (bulk_to (peer i k) given a)) ≡ None
    quiet-put (input.Write seen items values) r q w =
        no-labels (payload_sort g) (λ l. refl) a.sent (a.link == k) (bulk_to (peer i k) (input.Write seen items values) a)
        (ap (λ (r : Answer). sort_of (payload_sort g) (payload_in (bit a.keepers.bits (peer i k)) values r)) w ∙ quiet-payload g (bit a.keepers.bits (peer i k)) values r q)
    quiet-put (input.Beat to) r q w = no-labels (payload_sort g) (λ l. refl) a.sent (a.link == k) (bulk_to (peer i k) (input.Beat to) a) (beat-no-payload g (to == peer i k) a.beat)
    quiet-put (input.Tick x u) r q w = other-payload (input.Tick x u) refl
    quiet-put (input.Read seen n) r q w = other-payload (input.Read seen n) refl
    quiet-put (input.Move seen m) r q w = other-payload (input.Move seen m) refl
    quiet-put (input.Attach seen) r q w = other-payload (input.Attach seen) refl
    quiet-put input.Gather r q w = other-payload input.Gather refl
    quiet-put input.Emit r q w = other-payload input.Emit refl
    quiet-put input.Pulse r q w = other-payload input.Pulse refl
    quiet-put (input.Turn front) r q w = other-payload (input.Turn front) refl
    quiet-put (input.Bulk from gear n p) r q w = other-payload (input.Bulk from gear n p) refl
    quiet-put (input.BeatIn from n b) r q w = other-payload (input.BeatIn from n b) refl
    quiet-put input.Stamp r q w = other-payload input.Stamp refl
    quiet-put input.Close r q w = other-payload input.Close refl
    quiet-put input.Fall r q w = other-payload input.Fall refl
    quiet-put input.Advance r q w = other-payload input.Advance refl

    payload-is : (s : SiteState) (given : SiteInput) (r : Answer) → Says d i s given r → a.answer ≡ r → a.sent ≡ sent_by d i s given r → ((m : ℕ) → bit a.keepers.bits m ≡ is_keeper d given m) →
        sort_of (payload_sort g) (label_or a.sent (a.link == k) (bulk_to (peer i k) given a)) ≡ payload_made d g j (input_of given) r
    unfolding sent_by
    payload-is s given r (quiet x y q) w sent keepers = quiet-put x y q w ∙ quiet-made d g j (input_of x) y q
    payload-is s given r (wrote seen items values l o e) w sent keepers =
        ap (λ (o : Option Label). sort_of (payload_sort g) (label_or o (a.link == k) (bulk_to (peer i k) (input.Write seen items values) a))) sent ∙ wrote-payload items values l e o keepers w
    payload-is s given r (moved seen m l o) w sent keepers = other-payload (input.Move seen m) refl
    payload-is s given r (gathered n u) w sent keepers = other-payload input.Gather refl
    payload-is s given r (emitted l o) w sent keepers = other-payload input.Emit refl
    payload-is s given r (pulsed l o) w sent keepers = other-payload input.Pulse refl
    payload-is s given r (closed p o) w sent keepers = other-payload input.Close refl
    payload-is s given r (shown l m) w sent keepers = other-payload (input.Turn (Some l)) refl
    payload-is s given r (took l m) w sent keepers = other-payload (input.Turn (Some l)) refl
    payload-is s given r (stamped l) w sent keepers = other-payload input.Stamp refl
    payload-is s given r (beaten to n) w sent keepers = no-labels (payload_sort g) (λ l. refl) a.sent (a.link == k) (bulk_to (peer i k) (input.Beat to) a) (beat-no-payload g (to == peer i k) a.beat)
    payload-is s given r passed w sent keepers = other-payload input.Advance refl

  -- what an entry puts on the end for site j is what it makes for it
  pub lane-puts : (g k : ℕ) → peer i k ≡ j → (b : List Kept) (x : Line ActSeen SiteAnswer) → SiteStep d i b x → sort_of (payload_sort g) (site_puts (named.Site i) k x.input x.answer) ≡ makes_payload d g j b (site_kept i x)
  lane-puts g k at b x step =
      payload-is g x.answer k at (site_after d i b) x.input.input x.answer.answer step.says_there refl step.answers_there.sent step.answers_there.keepers ∙
      ap (λ (o : Option Handed). with_input o (λ input. payload_made d g j input x.answer.answer)) (sym (input-kept i (client_in x.input.by) x.input.input))

  -- ---- beats

  -- a beat for site j, by what a site that makes it for a site has of it
  note-if : (s : SiteState) (to : ℕ) (b : Bool) (x : Beat) → (to == j) ≡ b → note_of x ≡ machine_note d i s to → sort_of beat_sort (some_if b (made.Beat x)) ≡ (if b then Some (machine_note d i s j) else None)
  note-if s to true x e w = ap (λ (n : BeatNote). Some n) (w ∙ ap (machine_note d i s) (same-is to j e))
  note-if s to false x e w = refl

  pub beat-some : (s : SiteState) (to : ℕ) (o : Option Beat) → BeatBy d i s (input.Beat to) o → sort_of beat_sort (beat_in (to == j) o) ≡ (if to == j then Some (machine_note d i s j) else None)
  beat-some s to None e = absurd e
  beat-some s to (Some x) e = note-if s to (to == j) x refl e

  module _ (a : SiteAnswer) (k : ℕ) (at : peer i k ≡ j) where
    other-beat : (given : SiteInput) → bulk_to (peer i k) given a ≡ None → sort_of beat_sort (label_or a.sent (a.link == k) (bulk_to (peer i k) given a)) ≡ None
    other-beat given e = no-labels beat_sort (λ l. refl) a.sent (a.link == k) (bulk_to (peer i k) given a) (ap (sort_of beat_sort) e)

    write-beat : (seen : _) (items : Items) (values : List (List ℕ)) → sort_of beat_sort (label_or a.sent (a.link == k) (bulk_to (peer i k) (input.Write seen items values) a)) ≡ None
    write-beat seen items values = no-labels beat_sort (λ l. refl) a.sent (a.link == k) (bulk_to (peer i k) (input.Write seen items values) a) (payload-no-beat (bit a.keepers.bits (peer i k)) values a.answer)

    never-quiet : (s : SiteState) (to : ℕ) (r : Answer) → r ≡ site_answer d i s (given.Beat to) → is_quiet r ≡ true → ⊥
    unfolding site_answer
    never-quiet s to r e q = let w : is_quiet r ≡ false = ap is_quiet e in cc

    quiet-beat : (s : SiteState) (given : SiteInput) (r : Answer) → is_quiet r ≡ true → r ≡ site_answer d i s (input_of given) → sort_of beat_sort (label_or a.sent (a.link == k) (bulk_to (peer i k) given a)) ≡ None
    quiet-beat s (input.Beat to) r q e = absurd (never-quiet s to r e q)
    quiet-beat s (input.Write seen items values) r q e = write-beat seen items values
    quiet-beat s (input.Tick x u) r q e = other-beat (input.Tick x u) refl
    quiet-beat s (input.Read seen n) r q e = other-beat (input.Read seen n) refl
    quiet-beat s (input.Move seen m) r q e = other-beat (input.Move seen m) refl
    quiet-beat s (input.Attach seen) r q e = other-beat (input.Attach seen) refl
    quiet-beat s input.Gather r q e = other-beat input.Gather refl
    quiet-beat s input.Emit r q e = other-beat input.Emit refl
    quiet-beat s input.Pulse r q e = other-beat input.Pulse refl
    quiet-beat s (input.Turn front) r q e = other-beat (input.Turn front) refl
    quiet-beat s (input.Bulk from gear n p) r q e = other-beat (input.Bulk from gear n p) refl
    quiet-beat s (input.BeatIn from n b) r q e = other-beat (input.BeatIn from n b) refl
    quiet-beat s input.Stamp r q e = other-beat input.Stamp refl
    quiet-beat s input.Close r q e = other-beat input.Close refl
    quiet-beat s input.Fall r q e = other-beat input.Fall refl
    quiet-beat s input.Advance r q e = other-beat input.Advance refl

    beat-is : (s : SiteState) (given : SiteInput) (r : Answer) → Says d i s given r → r ≡ site_answer d i s (input_of given) → a.sent ≡ sent_by d i s given r → BeatBy d i s given a.beat →
        sort_of beat_sort (label_or a.sent (a.link == k) (bulk_to (peer i k) given a)) ≡ beat_made d i s j (input_of given) r
    unfolding sent_by
    beat-is s given r (quiet x y q) e sent made = quiet-beat s x y q e ∙ quiet-beats d i j s (input_of x) y q
    beat-is s given r (beaten to n) e sent made =
        ap (λ (o : Option Label). sort_of beat_sort (label_or o (a.link == k) (beat_in (to == peer i k) a.beat))) sent ∙
        (ap (λ (m : ℕ). sort_of beat_sort (beat_in (to == m) a.beat)) at ∙ beat-some s to a.beat made)
    beat-is s given r (wrote seen items values l o k) e sent made = write-beat seen items values
    beat-is s given r (moved seen m l o) e sent made = other-beat (input.Move seen m) refl
    beat-is s given r (gathered n u) e sent made = other-beat input.Gather refl
    beat-is s given r (emitted l o) e sent made = other-beat input.Emit refl
    beat-is s given r (pulsed l o) e sent made = other-beat input.Pulse refl
    beat-is s given r (closed p o) e sent made = other-beat input.Close refl
    beat-is s given r (shown l m) e sent made = other-beat (input.Turn (Some l)) refl
    beat-is s given r (took l m) e sent made = other-beat (input.Turn (Some l)) refl
    beat-is s given r (stamped l) e sent made = other-beat input.Stamp refl
    beat-is s given r passed e sent made = other-beat input.Advance refl

  pub beat-puts : (k : ℕ) → peer i k ≡ j → (b : List Kept) (x : Line ActSeen SiteAnswer) → SiteStep d i b x → sort_of beat_sort (site_puts (named.Site i) k x.input x.answer) ≡ makes_beat d i j b (site_kept i x)
  beat-puts k at b x step =
      beat-is x.answer k at (site_after d i b) x.input.input x.answer.answer step.says_there step.answers_there.answer step.answers_there.sent step.answers_there.beat ∙
      ap (λ (o : Option Handed). with_input o (λ input. beat_made d i (site_after d i b) j input x.answer.answer)) (sym (input-kept i (client_in x.input.by) x.input.input))
