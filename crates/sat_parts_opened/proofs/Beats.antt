-- What a hub's entries put on the link to another hub, of beats, is what its pieces make for it.
use Rattle.std.proofs.Common.{◌≡◌, ℕ, Bool, false, ◌==◌, List, Option, Some, None, if◌then◌else◌, refl, sym, ap, ◌∙◌}
use Rattle.sat_label.specs.declared.label.Label.{Label}
use Rattle.sat_label.specs.declared.node.NodeName.TheVariants as named
use Rattle.sat_act.specs.declared.answer.Answer.{Answer}
use Rattle.sat_act.specs.declared.answer.Answer.TheVariants as ans
use Rattle.sat_act.specs.Deployed.{Deployed}
use Rattle.sat_act.specs.Parts.{BeatNote}
use Rattle.sat_model.specs.Next.{note_of as machine_note}
use Rattle.sat_model.specs.State.{SiteState}
use Rattle.sat_node.specs.declared.kept.Kept.{Kept as Line}
use Rattle.sat_stitch.specs.Nodes.{beat_made, input_of, with_input}
use Rattle.sat_joint.specs.Pieces.{given_of}
use Rattle.sat_joint.specs.Machines.{HubState, hub_alone, hub_beat}
use Rattle.sat_hub_laws.specs.Hubs.{hub_act, hub_answer, hub_handed as handed_to, site_of_hub}
use Rattle.sat_hub_laws.specs.Lines.{HubLine, hub_piece, hub_pieces, hub_replay}
use Rattle.sat_hub_laws.proofs.Lines.{hubs-replay}
use Rattle.sat_machines.specs.Layout.{peer}
use Rattle.sat_machines.specs.Sites.{BeatBy, beat_in, label_or, sent_by}
use Rattle.sat_parts.specs.declared.hub_answer.HubAnswer.{HubAnswer}
use Rattle.sat_parts.specs.declared.hub_input.HubInput.{HubInput}
use Rattle.sat_parts.specs.declared.hub_input.HubInput.TheVariants as hub
use Rattle.sat_parts.specs.Acts.{HubActSeen, client_in, hub_handed, site_handed}
use Rattle.sat_parts.specs.Hubs.{beat_to, hub_puts}
use Rattle.sat_parts.specs.Lines.{hub_line}
use Rattle.sat_opened.proofs.Handings.{sort_of, beat_sort}
use Rattle.sat_opened.proofs.Lanes.{no-labels, beat-some}
use Rattle.sat_parts_opened.proofs.Steps.{HubStep}

-- an act that is no beat makes none
no-note : (r : Answer) → ◌≡◌ {A = Option BeatNote} None (elim r [ ans.Beat n ↦ None | _ ↦ None ])
no-note (ans.Beat n) = refl
no-note _ = refl

module _ (d : Deployed) (i j k : ℕ) (ne : (j == i) ≡ false) (at : peer i k ≡ j) where
  other-beat : (o : Option Label) (here : Bool) (input : HubInput) (a : HubAnswer) → beat_to (peer i k) input a ≡ None → sort_of beat_sort (label_or o here (beat_to (peer i k) input a)) ≡ None
  other-beat o here input a e = no-labels beat_sort (λ l. refl) o here (beat_to (peer i k) input a) (ap (sort_of beat_sort) e)

  beat-answer : (s : SiteState) (h : HubState) (to : ℕ) → beat_made d i s j (site_of_hub (hub_handed (hub.Beat to))) (hub_answer d i h (hub_handed (hub.Beat to))) ≡ (if to == j then Some (machine_note d i s j) else None)
  unfolding hub_answer
  beat-answer s h to = refl

  beat-sent : (s : SiteState) (to : ℕ) (r : Answer) → sent_by d i s (site_handed (hub.Beat to)) r ≡ None
  unfolding sent_by
  beat-sent s to r = refl

  input-beats : (h : HubState) (s : SiteState) (input : HubInput) (a : HubAnswer) → a.answer ≡ hub_answer d i h (hub_handed input) → a.sent ≡ sent_by d i s (site_handed input) a.answer → BeatBy d i s (site_handed input) a.beat →
      sort_of beat_sort (label_or a.sent (a.link == k) (beat_to (peer i k) input a)) ≡ beat_made d i s j (site_of_hub (hub_handed input)) a.answer
  input-beats h s (hub.Beat to) a w sent made =
      ap (λ (o : Option Label). sort_of beat_sort (label_or o (a.link == k) (beat_in (to == peer i k) a.beat))) (sent ∙ beat-sent s to a.answer) ∙
      (ap (λ (m : ℕ). sort_of beat_sort (beat_in (to == m) a.beat)) at ∙
      (beat-some d i j ne s to a.beat made ∙
      (sym (beat-answer s h to) ∙ ap (beat_made d i s j (site_of_hub (hub_handed (hub.Beat to)))) (sym w))))
  input-beats h s (hub.Attach seen) a w sent made = other-beat a.sent (a.link == k) (hub.Attach seen) a refl ∙ no-note a.answer
  input-beats h s (hub.Gather drained) a w sent made = other-beat a.sent (a.link == k) (hub.Gather drained) a refl ∙ no-note a.answer
  input-beats h s hub.Emit a w sent made = other-beat a.sent (a.link == k) hub.Emit a refl ∙ no-note a.answer
  input-beats h s hub.Pulse a w sent made = other-beat a.sent (a.link == k) hub.Pulse a refl ∙ no-note a.answer
  input-beats h s (hub.Turn front) a w sent made = other-beat a.sent (a.link == k) (hub.Turn front) a refl ∙ no-note a.answer
  input-beats h s (hub.Bulk from g n p) a w sent made = other-beat a.sent (a.link == k) (hub.Bulk from g n p) a refl ∙ no-note a.answer
  input-beats h s (hub.BeatIn from n b) a w sent made = other-beat a.sent (a.link == k) (hub.BeatIn from n b) a refl ∙ no-note a.answer
  input-beats h s hub.Stamp a w sent made = other-beat a.sent (a.link == k) hub.Stamp a refl ∙ no-note a.answer
  input-beats h s hub.Close a w sent made = other-beat a.sent (a.link == k) hub.Close a refl ∙ no-note a.answer
  input-beats h s hub.Fall a w sent made = other-beat a.sent (a.link == k) hub.Fall a refl ∙ no-note a.answer
  input-beats h s hub.Advance a w sent made = other-beat a.sent (a.link == k) hub.Advance a refl ∙ no-note a.answer

  -- the beat of a piece, by the input
  piece-beat : (h : HubState) (c : ℕ) (input : HubInput) (r : Answer) → beat_made d i (hub_alone d i h) j (site_of_hub (hub_handed input)) r ≡ with_input (input_of (hub_act i c (hub_handed input)) (given_of (handed_to (hub_handed input)))) (λ input. beat_made d i (hub_alone d i h) j input r)
  piece-beat h c (hub.Attach seen) r = refl
  piece-beat h c _ r = refl

  -- what an entry puts on the end for hub j is the beat that it makes for it
  pub beat-puts : (ls : List HubLine) (x : Line HubActSeen HubAnswer) → HubStep d i ls x → sort_of beat_sort (hub_puts (named.Site i) k x.input x.answer) ≡ hub_beat d i j (hub_pieces i ls) (hub_piece i (hub_line x))
  beat-puts ls x step =
      input-beats (hub_replay d i ls) (hub_alone d i (hub_replay d i ls)) x.input.input x.answer step.answers_there.answer step.answers_there.sent step.answers_there.beat ∙
      (piece-beat (hub_replay d i ls) (client_in x.input.by) x.input.input x.answer.answer ∙
      ap (λ (h : HubState). with_input (input_of (hub_act i (client_in x.input.by) (hub_handed x.input.input)) (given_of (handed_to (hub_handed x.input.input)))) (λ input. beat_made d i (hub_alone d i h) j input x.answer.answer)) (sym (hubs-replay d i ls)))
