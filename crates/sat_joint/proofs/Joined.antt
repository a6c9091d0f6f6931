-- Kept lists of hubs and gears that fit, merged, are a run; each list is its part at its node, and each session's its part of the client's.
use Rattle.std.specs.Prelude.{◌≡◌, ℕ, Bool, true, false, List, [], ◌∷◌, ◌++◌, refl}
use Rattle.std.proofs.Common.{sym, ap, ◌∙◌}
use Rattle.sat_label.proofs.Truth.{same-number}
use Rattle.sat_label.specs.Words.{has}
use Rattle.sat_act.specs.declared.act.Act.{Act}
use Rattle.sat_act.specs.declared.act.Act.TheVariants as act
use Rattle.sat_act.specs.declared.answer.Answer.{Answer}
use Rattle.sat_act.specs.declared.entry.Entry.{Entry}
use Rattle.sat_act.specs.Deployed.{Deployed}
use Rattle.sat_act.specs.Done.{is_of}
use Rattle.sat_act.specs.Parts.{seat}
use Rattle.sat_laws.proofs.Headlines.{good}
use Rattle.sat_model.specs.Replay.{carrying}
use Rattle.sat_stitch.specs.Kept.{Given, OfClient, entry_of, history}
use Rattle.sat_stitch.specs.Places.{act_given, entry_if}
use Rattle.sat_stitch.proofs.Sessions.{known-before}
use Rattle.sat_stitch.proofs.Tables.{client-is}
use Rattle.sat_stitch.proofs.Merges.{loose-run, loose-acts, loose-sessions}
use Rattle.sat_joint.specs.Pieces.{Piece, given_of, plain, plains}
use Rattle.sat_joint.specs.Table.{Node, same_node, nodes, stands_in, node_part}
use Rattle.sat_joint.specs.Joint.{AreOne}
use Rattle.sat_joint.specs.Laws.{JointMergesAreRuns, JointActsAreEnough, JointListsAreParts, JointSessionsAreParts, JointMergesAreGood}
use Rattle.sat_joint.proofs.Pieces.{join-one, plains-join}
use Rattle.sat_joint.proofs.Copies.{Setting, seen, seen-copy, view, view-takes, view-leaves, view-list, here}
use Rattle.sat_joint.proofs.Fits.{site_lists, site_sessions, site-fit, site-merge}

pub joint-runs : JointMergesAreRuns
joint-runs d lists sessions all v fit m =
    let s : Setting = record { d = d; lists = lists; sessions = sessions; all = all; valid = v; fit = fit; merge = m } in
    loose-run d (site_lists s) (site_sessions s) (plains all) v (site-fit s) (site-merge s)

pub joint-acts : JointActsAreEnough
joint-acts d lists sessions all v fit m =
    let s : Setting = record { d = d; lists = lists; sessions = sessions; all = all; valid = v; fit = fit; merge = m } in
    loose-acts d (site_lists s) (site_sessions s) (plains all) v (site-fit s) (site-merge s)

pub joint-sessions : JointSessionsAreParts
joint-sessions d lists sessions all v fit m =
    let s : Setting = record { d = d; lists = lists; sessions = sessions; all = all; valid = v; fit = fit; merge = m } in
    loose-sessions d (site_lists s) (site_sessions s) (plains all) v (site-fit s) (site-merge s)

pub joint-good : JointMergesAreGood
joint-good d lists sessions all v t fit m = good d (history (plains all)) v t (joint-runs d lists sessions all v fit m)

-- ---- parts

-- where an act stands, by what the history says that it is handed
same-nodes : (d : Deployed) (h : List Entry) (a : Act) (x : Given) (r : Answer) (p : Node) → ((c : ℕ) → is_of a c ≡ true → x ≡ OfClient (carrying h c) (seat d h c)) → has same_node (nodes d a (act_given d h a) r) p ≡ has same_node (nodes d a x r) p
same-nodes d h (act.Write c y value) x r p known = ap (λ (x : Given). has same_node (nodes d (act.Write c y value) x r) p) (sym (known c (same-number c)))
same-nodes d h (act.Writes c items values) x r p known = ap (λ (x : Given). has same_node (nodes d (act.Writes c items values) x r) p) (sym (known c (same-number c)))
same-nodes d h (act.Read c y) x r p known = ap (λ (x : Given). has same_node (nodes d (act.Read c y) x r) p) (sym (known c (same-number c)))
same-nodes d h (act.Move c j) x r p known = ap (λ (x : Given). has same_node (nodes d (act.Move c j) x r) p) (sym (known c (same-number c)))
same-nodes d h (act.Attach c j) x r p known = ap (λ (x : Given). has same_node (nodes d (act.Attach c j) x r) p) (sym (known c (same-number c)))
same-nodes d h _ x r p known = refl

module _ (s : Setting) where
  known-here : (later rest : List Piece) (k : Piece) → s.all ≡ later ++ k ∷ rest → (c : ℕ) → is_of k.act c ≡ true → given_of k.handed ≡ OfClient (carrying (history (plains rest)) c) (seat s.d (history (plains rest)) c)
  known-here later rest k w c e =
      known-before s.d (site_lists s) (site_sessions s) (plains s.all) (site-fit s) (site-merge s) c (plains later) (plains rest) (plain k) (ap plains w ∙ plains-join later (k ∷ rest)) (client-is k.act c ∙ e)

  part-of : (p : Node) (later ks : List Piece) → s.all ≡ later ++ ks → node_part s.d (history (plains ks)) p ≡ history (plains (view s p ks))
  unfolding node_part
  part-of p later [] w = refl
  part-of p later (k ∷ rest) w =
      ap (λ (b : Bool). entry_if b (entry_of (plain k)) (node_part s.d (history (plains rest)) p)) (same-nodes s.d (history (plains rest)) k.act (given_of k.handed) k.answer p (known-here later rest k w)) ∙
      go (stands_in s.d p k) refl (part-of p (later ++ k ∷ []) rest (w ∙ join-one later k rest))
    where
      go : (b : Bool) → stands_in s.d p k ≡ b → node_part s.d (history (plains rest)) p ≡ history (plains (view s p rest)) →
          entry_if (stands_in s.d p k) (entry_of (plain k)) (node_part s.d (history (plains rest)) p) ≡ history (plains (view s p (k ∷ rest)))
      go true e ih =
          let one : AreOne (seen s p k) k = (seen-copy s p k (here s later rest k w) e).one in
          ap (λ (b : Bool). entry_if b (entry_of (plain k)) (node_part s.d (history (plains rest)) p)) e ∙
          ((λ i. record { act = sym one.act i; answer = sym one.answer i; inner = false } ∷ ih i) ∙ sym (ap (λ (ks : List Piece). history (plains ks)) (view-takes s p k rest e)))
      go false e ih =
          ap (λ (b : Bool). entry_if b (entry_of (plain k)) (node_part s.d (history (plains rest)) p)) e ∙ (ih ∙ sym (ap (λ (ks : List Piece). history (plains ks)) (view-leaves s p k rest e)))

pub joint-parts : JointListsAreParts
joint-parts d lists sessions all v fit m p =
    let s : Setting = record { d = d; lists = lists; sessions = sessions; all = all; valid = v; fit = fit; merge = m } in
    part-of s p [] all refl ∙ sym (ap (λ (ks : List Piece). history (plains ks)) (view-list s p))
