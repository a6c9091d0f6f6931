-- What stands on a link: labels of sites, with a target beyond it.
use Rattle.std.specs.Prelude.{◌≡◌, ℕ, zero, suc, true, false, List, [], ◌∷◌, drop, Option}
use Rattle.std.proofs.Common.{subst, inr}
use Rattle.sat_label.specs.declared.label.Label.{Label}
use Rattle.sat_label.specs.declared.node.NodeId.{NodeId}
use Rattle.sat_label.specs.Members.{In}
use Rattle.sat_tree.specs.Shape.{TreeShape}
use Rattle.sat_act.specs.declared.entry.Entry.{Entry}
use Rattle.sat_act.specs.Deployed.{Deployed}
use Rattle.sat_act.specs.Parts.{entered, taken, came_from, goes_beyond}
use Rattle.sat_act.specs.Runs.{IsRun}
use Rattle.sat_laws.proofs.Links.{HandledFrom, SentIn, entered-in}
use Rattle.sat_laws.proofs.Handlings.{handled_as}
use Rattle.sat_laws.proofs.Arrivals.{handled-sent-in}
use Rattle.sat_laws.proofs.Order.{sent-in}
use Rattle.sat_laws.proofs.Sinks.{Sent}
use Rattle.sat_model.specs.OnLinks.{IsOnLink}
use Rattle.sat_model.specs.Laws.{LinksLead}
use Rattle.sat_model.proofs.Parts.{link-agrees}
use Rattle.sat_model.proofs.Ranges.{sent-range, sent-has-kind}

pub In-drop : {X : Type 0} (n : ℕ) (xs : List X) (x : X) → In (drop n xs) x → In xs x
In-drop zero xs x m = m
In-drop (suc n) [] x m = m
In-drop (suc n) (y ∷ xs) x m = inr (In-drop n xs x m)

-- what was put on a link was sent in its epoch, and leads on
pub entered-leads : (d : Deployed) (h : List Entry) (e : ℕ) (t : TreeShape) (u v : NodeId) (l : Label) → IsRun d h → In (entered d h e t u v) l → SentIn h l.point.site e l × IsOnLink d t u v l
entered-leads d h e t u v l run m =
    let q : (o : Option NodeId) × HandledFrom d h e u o l × (came_from (handled_as e u o l) v ≡ false) × (goes_beyond d t u v l ≡ true) = entered-in d h e t u v l m in
    let w : SentIn h l.point.site e l = handled-sent-in d h e u q.0 l run q.1 in
    let s : Sent h l.point.site l = sent-in h l.point.site e l w in
    (w, record { site = sent-range d h l.point.site l run s; kind = sent-has-kind d h l.point.site l run s; target = q.3 })

pub links-lead : LinksLead
links-lead d h e t u v l valid run is m =
    (entered-leads d h e t u v l run (In-drop (taken d h e u v) (entered d h e t u v) l (subst (λ (ls : List Label). In ls l) (link-agrees d h e t u v is) m))).1
