-- What a hub's entries put on its link into a tree and take from there is what the history says, where all labels that it
-- has are of its site.
use Rattle.std.proofs.Common.{◌≡◌, ◌<◌, ℕ, true, false, ◌==◌, List, [], ◌∷◌, Option, Some, None, refl, sym, ap, ◌∙◌, subst, inl, inr}
use Rattle.std.proofs.lemmas.Bool.{and_parts}
use Rattle.sat_label.specs.Members.{In}
use Rattle.sat_label.specs.declared.label.Label.{Label}
use Rattle.sat_label.specs.declared.node.NodeId.TheVariants.{Site, Serializer}
use Rattle.sat_label.specs.declared.node.NodeName.TheVariants as named
use Rattle.sat_tree.specs.Shape.{TreeShape}
use Rattle.sat_tree.specs.Cut.{seat_of}
use Rattle.sat_act.specs.declared.act.Act.{Act}
use Rattle.sat_act.specs.declared.answer.Answer.{Answer}
use Rattle.sat_act.specs.declared.entry.Entry.{Entry}
use Rattle.sat_act.specs.Deployed.{Deployed}
use Rattle.sat_act.specs.Histories.{listed}
use Rattle.sat_act.specs.Limits.{IsDeployment}
use Rattle.sat_act.specs.Parts.{emission, entered_entry, taken_entry, tree_of, view}
use Rattle.sat_laws.proofs.Runs.{entry}
use Rattle.sat_model.specs.Fits.{fits, is_note, is_other}
use Rattle.sat_model.specs.Input.{SiteInput as Given}
use Rattle.sat_model.specs.Next.{site_next}
use Rattle.sat_model.specs.Reply.{site_answer}
use Rattle.sat_proxy.specs.Proxy.{note_of}
use Rattle.sat_site.specs.Inputs.{input_of}
use Rattle.sat_node.specs.declared.kept.Kept.{Kept as Line}
use Rattle.sat_node.specs.declared.kept.Body.TheVariants as body
use Rattle.sat_stitch.specs.Kept.{history}
use Rattle.sat_stitch.specs.Nodes.{put_on, took_from}
use Rattle.sat_joint.specs.Pieces.{Drain}
use Rattle.sat_joint.specs.Machines.{HubState, fresh_hub, hub_alone, hub_next, no_drain, of_gears}
use Rattle.sat_hub_laws.specs.Hubs.{drained_in, hub_act, hub_answer, hub_fits, hub_then, site_of_hub}
use Rattle.sat_hub_laws.specs.Lines.{HubLine, hub_replay}
use Rattle.sat_hub_laws.specs.Sites.{is_gather}
use Rattle.sat_hub_laws.proofs.Sites.{alone-answers}
use Rattle.sat_machines.specs.Layout.{label_link, peer}
use Rattle.sat_machines.specs.Sites.{epoch_by, is_turned, label_or}
use Rattle.sat_parts.specs.declared.hub_answer.HubAnswer.{HubAnswer}
use Rattle.sat_parts.specs.declared.hub_input.HubInput.{HubInput}
use Rattle.sat_parts.specs.declared.hub_input.HubInput.TheVariants as hub
use Rattle.sat_parts.specs.Acts.{HubActSeen, client_in, drains_of, hub_handed, site_handed}
use Rattle.sat_parts.specs.Hubs.{beat_to, hub_puts, hub_takes_from, taken_at}
use Rattle.sat_parts.specs.Layout.{lane_end}
use Rattle.sat_parts.specs.Lines.{hub_line}
use Rattle.sat_opened.specs.Keeping.{site_act}
use Rattle.sat_opened.proofs.Handings.{label_made, label_body}
use Rattle.sat_opened.proofs.Says.{IsOwn, Owns, Says, both-own, gathered, owns-next, says}
use Rattle.sat_opened.proofs.SiteKept.{other-is, emission-more, view-more}
use Rattle.sat_opened.proofs.SiteLinks.{enters, far, front-taken, label-put, none-beat, none-if, peer-far, taken, turn-link, turn_takes, turned-tree, when}
use Rattle.sat_parts_opened.proofs.Laned.{no-lane}
use Rattle.sat_parts_opened.proofs.Owned.{OwnDrains}
use Rattle.sat_parts_opened.proofs.Steps.{HubStep}
use Rattle.sat_parts_opened.specs.Keeping.{hub_kept}
use Rattle.sat_parts_opened.proofs.Walked.{Past, hub_plains}

-- ---- a hub's input as one of its site

input-same : (input : HubInput) → site_of_hub (hub_handed input) ≡ input_of (site_handed input)
input-same (hub.Attach seen) = refl
input-same _ = refl

act-same : (i c : ℕ) (input : HubInput) → site_act i c (site_handed input) ≡ hub_act i c (hub_handed input)
act-same i c (hub.Attach seen) = refl
act-same i c _ = refl

-- ---- all that waits at a hub is of its site

record HubOwns (i : ℕ) (h : HubState) : Type 0 where
  pending : (g : ℕ) (l : Label) → In (h.sink.pending g) l → IsOwn i l
  last : h.sink.last.site ≡ i

fresh-owns : (i : ℕ) → HubOwns i (fresh_hub i)
fresh-owns i = record { pending = λ g l m. absurd m; last = refl }

alone-owns : (d : Deployed) (i : ℕ) (h : HubState) → HubOwns i h → Owns i (hub_alone d i h)
alone-owns d i h own = record { fresh = λ g l m. absurd m; pending = own.pending; last = own.last }

module _ (d : Deployed) (i : ℕ) (h : HubState) (own : HubOwns i h) where
  gather-says : (drained : _) (r : Answer) → r ≡ hub_answer d i h (hub_handed (hub.Gather drained)) → Says d i (hub_alone d i h) (site_handed (hub.Gather drained)) r
  unfolding hub_answer
  gather-says drained r e = subst (Says d i (hub_alone d i h) (site_handed (hub.Gather drained))) (sym e) (gathered _ _)

  alone-says : (input : HubInput) (r : Answer) → is_gather (hub_handed input) ≡ false → r ≡ hub_answer d i h (hub_handed input) → Says d i (hub_alone d i h) (site_handed input) r
  alone-says input r n e =
      says d i (hub_alone d i h) (alone-owns d i h own) (site_handed input) r
      (e ∙ (alone-answers d i h (hub_handed input) n ∙ ap (site_answer d i (hub_alone d i h)) (input-same input)))

  hub-says : (input : HubInput) (r : Answer) → r ≡ hub_answer d i h (hub_handed input) → Says d i (hub_alone d i h) (site_handed input) r
  hub-says (hub.Gather drained) r e = gather-says drained r e
  hub-says (hub.Attach seen) r e = alone-says (hub.Attach seen) r refl e
  hub-says hub.Emit r e = alone-says hub.Emit r refl e
  hub-says hub.Pulse r e = alone-says hub.Pulse r refl e
  hub-says (hub.Turn front) r e = alone-says (hub.Turn front) r refl e
  hub-says (hub.Bulk from g n p) r e = alone-says (hub.Bulk from g n p) r refl e
  hub-says (hub.Beat to) r e = alone-says (hub.Beat to) r refl e
  hub-says (hub.BeatIn from n b) r e = alone-says (hub.BeatIn from n b) r refl e
  hub-says hub.Stamp r e = alone-says hub.Stamp r refl e
  hub-says hub.Close r e = alone-says hub.Close r refl e
  hub-says hub.Fall r e = alone-says hub.Fall r refl e
  hub-says hub.Advance r e = alone-says hub.Advance r refl e

  -- after an act that gathers nothing
  next-owns : (input : Given) (r : Answer) → Owns i (site_next d i (hub_alone d i h) input r) → HubOwns i (hub_next d i h (λ g. no_drain) input r)
  unfolding site_next
  next-owns input r o = record { pending = o.pending; last = o.last }

  none-drained : (input : HubInput) → is_gather (hub_handed input) ≡ false → drained_in d (hub_handed input) ≡ (λ g. no_drain)
  none-drained (hub.Gather drained) e = absurd (cc)
  none-drained (hub.Attach seen) e = refl
  none-drained _ e = refl

  alone-next : (input : HubInput) (r : Answer) → is_gather (hub_handed input) ≡ false → Says d i (hub_alone d i h) (site_handed input) r → HubOwns i (hub_then d i h (hub_handed input) r)
  alone-next input r n say =
      subst (λ (f : ℕ → Drain). HubOwns i (hub_next d i h f (site_of_hub (hub_handed input)) r)) (sym (none-drained input n))
      (subst (λ (x : Given). HubOwns i (hub_next d i h (λ g. no_drain) x r)) (sym (input-same input))
      (next-owns (input_of (site_handed input)) r (owns-next d i (hub_alone d i h) (site_handed input) r say (alone-owns d i h own))))

  gather-next : (drained : _) (r : Answer) → r ≡ hub_answer d i h (hub_handed (hub.Gather drained)) → OwnDrains d i (hub_handed (hub.Gather drained)) → HubOwns i (hub_then d i h (hub_handed (hub.Gather drained)) r)
  unfolding hub_answer
  gather-next drained r e drains =
      subst (λ (r : Answer). HubOwns i (hub_then d i h (hub_handed (hub.Gather drained)) r)) (sym e) (record {
        pending = λ g l m. both-own d i (hub_alone d i h) (h.sink.pending g) (of_gears d (drains_of drained) g).labels l (own.pending g) (drains g) m;
        last = own.last;
      })

  owns-then : (input : HubInput) (r : Answer) → r ≡ hub_answer d i h (hub_handed input) → OwnDrains d i (hub_handed input) → Says d i (hub_alone d i h) (site_handed input) r → HubOwns i (hub_then d i h (hub_handed input) r)
  owns-then (hub.Gather drained) r e drains say = gather-next drained r e drains
  owns-then (hub.Attach seen) r e drains say = alone-next (hub.Attach seen) r refl say
  owns-then hub.Emit r e drains say = alone-next hub.Emit r refl say
  owns-then hub.Pulse r e drains say = alone-next hub.Pulse r refl say
  owns-then (hub.Turn front) r e drains say = alone-next (hub.Turn front) r refl say
  owns-then (hub.Bulk from g n p) r e drains say = alone-next (hub.Bulk from g n p) r refl say
  owns-then (hub.Beat to) r e drains say = alone-next (hub.Beat to) r refl say
  owns-then (hub.BeatIn from n b) r e drains say = alone-next (hub.BeatIn from n b) r refl say
  owns-then hub.Stamp r e drains say = alone-next hub.Stamp r refl say
  owns-then hub.Close r e drains say = alone-next hub.Close r refl say
  owns-then hub.Fall r e drains say = alone-next hub.Fall r refl say
  owns-then hub.Advance r e drains say = alone-next hub.Advance r refl say

-- ---- each entry

-- what an entry says, and the epochs in which its hub then sends and takes, by the history and by the hub's state
pub record HubKnown (d : Deployed) (i : ℕ) (ls : List HubLine) (x : Line HubActSeen HubAnswer) : Type 0 where
  pub step : HubStep d i ls x
  pub says_there : Says d i (hub_alone d i (hub_replay d i ls)) (site_handed x.input.input) x.answer.answer
  pub sends_in : emission (history (hub_plains i ls)) i ≡ (hub_replay d i ls).views.emission
  pub takes_in : view (history (hub_plains i ls)) i ≡ (hub_replay d i ls).views.view

module _ (d : Deployed) (i c : ℕ) (h : HubState) (past : List Entry) (input : HubInput) (r : Answer) (say : Says d i (hub_alone d i h) (site_handed input) r) where
  emission-then : emission past i ≡ h.views.emission → emission (entry (hub_act i c (hub_handed input)) r false ∷ past) i ≡ (hub_then d i h (hub_handed input) r).views.emission
  emission-then e = ap (λ (a : Act). emission (entry a r false ∷ past) i) (sym (act-same i c input)) ∙ emission-more d i c (hub_alone d i h) past (site_handed input) r say e

  view-then : view past i ≡ h.views.view → view (entry (hub_act i c (hub_handed input)) r false ∷ past) i ≡ (hub_then d i h (hub_handed input) r).views.view
  view-then e = ap (λ (a : Act). view (entry a r false ∷ past) i) (sym (act-same i c input)) ∙ view-more d i c (hub_alone d i h) past (site_handed input) r say e

known-past : (d : Deployed) (i : ℕ) (ls : List HubLine) (es : List (Line HubActSeen HubAnswer)) → Past hub_line (HubStep d i) ls es → ((x : Line HubActSeen HubAnswer) → In es x → OwnDrains d i (hub_handed x.input.input)) →
    HubOwns i (hub_replay d i ls) → emission (history (hub_plains i ls)) i ≡ (hub_replay d i ls).views.emission → view (history (hub_plains i ls)) i ≡ (hub_replay d i ls).views.view → Past hub_line (HubKnown d i) ls es
unfolding hub_replay
known-past d i ls [] steps drains own e v = tt
known-past d i ls (k ∷ es) steps drains own e v =
    let say : Says d i (hub_alone d i (hub_replay d i ls)) (site_handed k.input.input) k.answer.answer = hub-says d i (hub_replay d i ls) own k.input.input k.answer.answer steps.0.answers_there.answer in (
      record { step = steps.0; says_there = say; sends_in = e; takes_in = v },
      known-past d i (hub_line k ∷ ls) es steps.1 (λ x m. drains x (inr m))
          (owns-then d i (hub_replay d i ls) own k.input.input k.answer.answer steps.0.answers_there.answer (drains k (inl refl)) say)
          (emission-then d i (client_in k.input.by) (hub_replay d i ls) (history (hub_plains i ls)) k.input.input k.answer.answer say e)
          (view-then d i (client_in k.input.by) (hub_replay d i ls) (history (hub_plains i ls)) k.input.input k.answer.answer say v),
    )

pub hub-known : (d : Deployed) (i : ℕ) (es : List (Line HubActSeen HubAnswer)) → Past hub_line (HubStep d i) [] es → ((x : Line HubActSeen HubAnswer) → In es x → OwnDrains d i (hub_handed x.input.input)) → Past hub_line (HubKnown d i) [] es
unfolding hub_replay emission view listed
hub-known d i es steps drains = known-past d i [] es steps drains (fresh-owns i) refl refl

-- ---- the link into a tree

module _ (d : Deployed) (dep : IsDeployment d) (i : ℕ) (lt : i < d.sites) (e : ℕ) (t : TreeShape) (tree : tree_of d e ≡ Some t) where
  abbrev end_in : ℕ
  end_in = label_link d e

  fits-site : (h : HubState) (input : HubInput) → hub_fits d i h (hub_handed input) ≡ true → fits d i (hub_alone d i h) (input_of (site_handed input)) ≡ true
  fits-site h input f = ap (fits d i (hub_alone d i h)) (sym (input-same input)) ∙ f

  beat-none : (h : HubState) (input : HubInput) (a : HubAnswer) → hub_fits d i h (hub_handed input) ≡ true → beat_to (peer i end_in) input a ≡ None
  unfolding fits
  beat-none h (hub.Beat to) a f = none-beat (to == peer i end_in) a.beat (far to d.sites (peer i end_in) (peer-far d dep i lt e t tree) (other-is d i to f).within)
  beat-none h (hub.Attach seen) a f = refl
  beat-none h _ a f = refl

  -- an entry puts on this end what the history says
  pub hub-enters : (ls : List HubLine) (x : Line HubActSeen HubAnswer) → HubKnown d i ls x → hub_puts (named.Site i) end_in x.input x.answer ≡ label_made (put_on d e t (Site i) (Serializer (seat_of t i)) (hub_plains i ls) (hub_kept i x))
  hub-enters ls x known =
      let h : HubState = hub_replay d i ls in
      ap (label_or x.answer.sent (x.answer.link == end_in)) (beat-none h x.input.input x.answer known.step.fits_there.fits) ∙
      (label-put d dep i lt e t tree (hub_alone d i h) (site_handed x.input.input) x.answer.answer x.answer.sent x.answer.link known.step.answers_there.sent known.step.answers_there.link ∙
      (ap (λ (o : Option Label). label_made (when (h.views.emission == e) o)) known.step.answers_there.sent ∙
      ap label_made (sym (enters d i e t tree (client_in x.input.by) (hub_alone d i h) (history (hub_plains i ls)) known.sends_in known.takes_in (site_handed x.input.input) x.answer.answer known.says_there) ∙
      ap (λ (a : Act). entered_entry d e t (Site i) (Serializer (seat_of t i)) (history (hub_plains i ls)) (entry a x.answer.answer false)) (act-same i (client_in x.input.by) x.input.input))))

  taken-is : (h : HubState) (input : HubInput) (a : HubAnswer) → Says d i (hub_alone d i h) (site_handed input) a.answer → hub_fits d i h (hub_handed input) ≡ true → a.link ≡ label_link d (epoch_by (hub_alone d i h) (site_handed input) a.sent) →
      taken_at d i end_in input a ≡ label_body (turn_takes e (hub_alone d i h) (site_handed input) a.answer)
  unfolding fits
  taken-is h (hub.Turn front) a say f w =
      front-taken d dep i lt e t tree (hub_alone d i h) (is_turned a.answer) front a.link (turn-link d dep i lt e t tree (hub_alone d i h) front a.answer a.sent a.link w)
      (λ q. turned-tree d dep i lt e t tree (hub_alone d i h) (site_handed (hub.Turn front)) a.answer say front refl q)
  taken-is h (hub.Bulk from g n p) a say f w = none-if (end_in == lane_end d i from g) (body.Payload g n p) (no-lane d i from g e t tree)
  taken-is h (hub.BeatIn from n b) a say f w =
      none-if (from == peer i end_in) (body.Beat n b) (far from d.sites (peer i end_in) (peer-far d dep i lt e t tree) (other-is d i from (and_parts (is_other d i from) (is_note d (note_of b)) f).0).within)
  taken-is h (hub.Attach seen) a say f w = refl
  taken-is h _ a say f w = refl

  -- and takes from it
  pub hub-takes-in : (ls : List HubLine) (x : Line HubActSeen HubAnswer) → HubKnown d i ls x → hub_takes_from d (named.Site i) end_in x.input x.answer ≡ label_body (took_from d e (Serializer (seat_of t i)) (Site i) (hub_plains i ls) (hub_kept i x))
  hub-takes-in ls x known =
      let h : HubState = hub_replay d i ls in
      taken-is h x.input.input x.answer known.says_there known.step.fits_there.fits known.step.answers_there.link ∙
      ap label_body (sym (taken d i e t tree (client_in x.input.by) (hub_alone d i h) (history (hub_plains i ls)) known.sends_in known.takes_in (site_handed x.input.input) x.answer.answer known.says_there) ∙
      ap (λ (a : Act). taken_entry d e (Serializer (seat_of t i)) (Site i) (history (hub_plains i ls)) (entry a x.answer.answer false)) (act-same i (client_in x.input.by) x.input.input))
