-- What a turn with a label takes from the links of a site's node.
use Rattle.std.proofs.Common.{◌≡◌, ◌≢◌, ℕ, ◌==◌, ◌&&◌, Bool, true, false, List, Option, Some, None, inl, inr, refl, sym, ap, ◌∙◌, arith}
use Rattle.std.proofs.lemmas.Bool.{and_parts, cases_eq}
use Rattle.std.proofs.lemmas.Bool.Decides.{nat_tests}
use Rattle.sat_label.specs.declared.label.Kind.{Kind}
use Rattle.sat_label.specs.declared.label.Kind.TheVariants as kind
use Rattle.sat_label.specs.declared.label.Label.{Label}
use Rattle.sat_label.specs.declared.node.NodeName.{NodeName}
use Rattle.sat_label.specs.declared.node.NodeName.TheVariants as named
use Rattle.sat_act.specs.Deployed.{Deployed}
use Rattle.sat_act.specs.Limits.{IsDeployment}
use Rattle.sat_act.specs.Settling.{is_done}
use Rattle.sat_model.specs.Reply.{site_answer}
use Rattle.sat_model.specs.State.{SiteState}
use Rattle.sat_proxy.specs.Answers.{done_answer, front_answer}
use Rattle.sat_proxy.specs.Steps.{turn_fault}
use Rattle.sat_proxy.specs.declared.proxy.TurnFault.{TurnFault}
use Rattle.sat_proxy.specs.declared.proxy.TurnFault.TheVariants as turn
use Rattle.sat_site.specs.declared.input.SiteInput.TheVariants as input
use Rattle.sat_site.specs.Inputs.{fits_in, input_of}
use Rattle.sat_site.specs.Laws.{EachStep}
use Rattle.sat_site.specs.Seen.{SiteSeen, IsSite}
use Rattle.sat_site.specs.SiteSteps.{site_answers}
use Rattle.sat_node.specs.declared.kept.Body.TheVariants as body
use Rattle.sat_node.specs.Meanings.{replay}
use Rattle.sat_node.specs.Links.{IsOf}
use Rattle.sat_machines.specs.Layout.{label_link}
use Rattle.sat_machines.specs.Sites.{Stands, epoch_by, is_turned, label_taken, site_meaning}
use Rattle.sat_passes.specs.Hearings.{SiteHeld, SiteKept, of_site}
use Rattle.sat_passes.specs.Sendings.{would_do}
use Rattle.sat_passes.proofs.Sendings.{done_stands}

same-number : (n : ℕ) → (n == n) ≡ true
same-number n = grind (arith, nat_tests)

kind-turned : (l : Label) (k : Kind) → is_turned (done_answer l k) ≡ true
kind-turned l (kind.Update n) = refl
kind-turned l (kind.Move j) = refl
kind-turned l kind.Pulse = refl
kind-turned l (kind.Close e) = refl

turned-by : (o : Option TurnFault) (l : Label) → is_done (front_answer o (Some l)) ≡ true → is_turned (front_answer o (Some l)) ≡ true
turned-by (Some turn.StampOrder) l e = absurd (cc (e))
turned-by (Some turn.Empty) l e = absurd (cc (e))
turned-by (Some (turn.NoPayload m)) l e = absurd (cc (e))
turned-by None l e = kind-turned l l.kind

-- a turn that is done took its front
site-turned : (x : SiteSeen) (l : Label) → would_do x (input.Turn (Some l)) ≡ true → is_turned (site_answers x (input.Turn (Some l))) ≡ true
unfolding site_answers
site-turned x l would =
    let w = and_parts (fits_in x (input.Turn (Some l))) (is_done (site_answers x (input.Turn (Some l)))) would in
    turned-by (turn_fault x.views x.proxy (Some l)) l w.1

other-number : (a k j : ℕ) → a ≡ k → j ≢ k → (a == j) ≡ false
other-number a k j is differ = elim (cases_eq a j) [
  | inl same ↦ absurd (differ (sym same ∙ is))
  | inr other ↦ grind (arith, nat_tests)
]

taken-by : (t b : Bool) (l : Label) → t ≡ true → b ≡ true → label_taken (t && b) (Some l) ≡ Some (body.Label l)
taken-by t b l ht hb = λ n. label_taken (ht n && hb n) (Some l)

left-by : (t b : Bool) (l : Label) → t ≡ true → b ≡ false → label_taken (t && b) (Some l) ≡ None
left-by t b l ht hb = λ n. label_taken (ht n && hb n) (Some l)

epoch-is : (s : SiteState) (front o : Option Label) → epoch_by s (input.Turn front) o ≡ s.views.view
unfolding epoch_by
epoch-is s front o = refl

turn-of : (d : Deployed) (name : NodeName) (x : SiteSeen) (entries : List SiteKept) (number room : ℕ) (k : ℕ) (l : Label) → EachStep → IsDeployment d → IsSite x → Stands d name x (replay (site_meaning d) name entries)
    → k ≡ label_link d x.views.view → would_do x (input.Turn (Some l)) ≡ true
    → IsOf (site_meaning d) (record { name = name; machine = x; entries = entries; number = number; room = room }) k (body.Label l) (of_site (input.Turn (Some l)))
turn-of d (named.Serializer e z) x entries number room k l law dep site st at would = absurd st
turn-of d (named.Gear e z) x entries number room k l law dep site st at would = absurd st
turn-of d (named.Site i) x entries number room k l law dep site st at would =
    let s = replay (site_meaning d) (named.Site i) entries in
    let given = input.Turn (Some l) in
    let w = and_parts (fits_in x given) (is_done (site_answers x given)) would in
    let model : site_answers x given ≡ site_answer d i s (input_of given) = (law x given site w.0).answers d i s dep st in
    let turned : is_turned (site_answer d i s (input_of given)) ≡ true = ap is_turned (sym model) ∙ site-turned x l would in
    let view : x.views.view ≡ s.views.view = st.views.view in
    record {
      stands = λ a h. done_stands a.answer (ap is_done h.answer ∙ (ap is_done (sym model) ∙ w.1));
      takes = λ a h.
          let here : a.link ≡ k = h.link ∙ (ap (label_link d) (epoch-is s (Some l) a.sent ∙ sym view) ∙ sym at) in
          taken-by (is_turned a.answer) (a.link == k) l (ap is_turned h.answer ∙ turned) (ap (λ (m : ℕ). m == k) here ∙ same-number k);
      others = λ a j h differ.
          let here : a.link ≡ k = h.link ∙ (ap (label_link d) (epoch-is s (Some l) a.sent ∙ sym view) ∙ sym at) in
          left-by (is_turned a.answer) (a.link == j) l (ap is_turned h.answer ∙ turned) (other-number a.link k j here differ);
    }

-- a turn that would be done takes its front from the link of the view's tree, and nothing from another
pub turn_is_of : (d : Deployed) (held : SiteHeld) (k : ℕ) (l : Label) → EachStep → IsDeployment d → IsSite held.node.machine
    → Stands d held.node.name held.node.machine (replay (site_meaning d) held.node.name held.node.entries)
    → k ≡ label_link d held.node.machine.views.view → would_do held.node.machine (input.Turn (Some l)) ≡ true → IsOf (site_meaning d) held.node k (body.Label l) (of_site (input.Turn (Some l)))
turn_is_of d held k l law dep site st at would =
    turn-of d held.node.name held.node.machine held.node.entries held.node.number held.node.room k l law dep site st at would
