-- Opened nodes, with sessions that noted the same and parts that agree, make one journal.
use Rattle.std.proofs.Common.{◌≡◌, ℕ, List, ◌++◌, map, reverse, Some, slice_get, refl, sym, ap, ◌∙◌, subst}
use Rattle.std.proofs.lemmas.List.{map-append}
use Rattle.sat_label.specs.declared.node.NodeName.{NodeName}
use Rattle.sat_label.specs.declared.node.NodeName.TheVariants as named
use Rattle.sat_label.specs.Members.{In}
use Rattle.sat_label.specs.Words.{below}
use Rattle.sat_act.specs.declared.entry.Entry.{Entry}
use Rattle.sat_act.specs.Deployed.{Deployed}
use Rattle.sat_act.specs.Limits.{IsDeployment}
use Rattle.sat_act.specs.Runs.{IsRun}
use Rattle.sat_act.specs.Settling.{run}
use Rattle.sat_act.proofs.Valid.{is_valid}
use Rattle.sat_model.specs.Replay.{site_state}
use Rattle.sat_stitch.specs.Kept.{Kept, history, acts_of}
use Rattle.sat_stitch.specs.Places.{Session, session_part}
use Rattle.sat_stitch.specs.Stitch.{Numbered, stitched}
use Rattle.sat_joint.specs.Pieces.{Piece, plains}
use Rattle.sat_joint.specs.Table.{AtGear, AtHub, AtSerial, Node, node_part}
use Rattle.sat_joint.specs.Joint.{IsJointMerge, JointFit}
use Rattle.sat_joint.specs.Machines.{kept_site}
use Rattle.sat_joint.specs.Journals.{home_journal, homes, noted_journals, piece_journals}
use Rattle.sat_joint.proofs.Stitched.{stitches-are-runs, stitches-merge}
use Rattle.sat_hub_laws.specs.Parts.{PartsAgree}
use Rattle.sat_hub_laws.proofs.Joined.{journals-join as parts-join}
use Rattle.sat_parts.specs.Layout.{gear_names}
use Rattle.sat_opened.specs.Keeping.{newest, serial_kept}
use Rattle.sat_opened.specs.Opened.{serial_names}
use Rattle.sat_opened.specs.Laws.{SerialHeld}
use Rattle.sat_parts_opened.specs.Laws.{AreJournals, GearHeld, HubHeld, SessionsFit, part_nodes}
use Rattle.sat_parts_opened.specs.Opened.{PartsOpened, gears_of, hubs_of, others_of, pieces_at}
use Rattle.sat_parts_opened.proofs.Named.{gears-are-kept, gears-are-parts, hubs-are-kept, hubs-are-parts, nodes-cover, opened-are-journals, serials-are-kept}
use Rattle.sat_parts_opened.proofs.Serials.{plains-are}
use Rattle.sat_parts_opened.proofs.Whole.{fits-join, opened-fit, opened-stand}
use Rattle.sat_session.specs.Notes.{SessionSeen, session_at, session_notes}
use Rattle.sat_session.specs.Sessions.{kept_by, AreSessions, SameNotes}
use Rattle.sat_parts_notes.specs.Collecting.{AreStates, IsCollected, at_places, collected, journals_of, node_count, part_lines, session_journal}
use Rattle.sat_parts_notes.specs.Laws.{NotesAreRuns, NotesStand, pieces_alone, pieces_by}
use Rattle.sat_parts_notes.specs.Notes.{part_notes}
use Rattle.sat_parts_notes.proofs.Fits.{notes-fit}
use Rattle.sat_parts_notes.proofs.Merged.{stitched-history}
use Rattle.sat_parts_notes.proofs.Places.{rank_at, node-ranks, nodes-are-lines, placed-journals, journals-join}
use Rattle.sat_parts_notes.proofs.Sessions.{session_node, session-journals, all-distinct, all-covered, kept-entries, no-entries}

module _ (d : Deployed) (hubs : List HubHeld) (gears : List GearHeld) (serials : List SerialHeld) (xs : List SessionSeen) (dep : IsDeployment d) (opened : PartsOpened d hubs gears serials) (are : AreSessions d xs)
    (same : SameNotes (part_notes hubs gears serials) (session_notes d xs)) (agree : PartsAgree d (pieces_at hubs gears serials (pieces_alone d xs))) where
  all : AreJournals d hubs gears serials
  all = opened-are-journals d hubs gears serials opened

  abbrev lists : Node → List Piece
  lists = pieces_at hubs gears serials (pieces_alone d xs)

  abbrev names : List Node
  names = part_nodes d ++ map session_node xs

  abbrev base : ℕ
  base = node_count hubs gears serials

  abbrev rank : Node → ℕ
  rank = rank_at base (part_nodes d)

  node-journals : map home_journal (at_places 0 (part_lines hubs gears serials)) ≡ map home_journal (noted_journals d rank lists (part_nodes d))
  node-journals =
      placed-journals d lists rank 0 (part_nodes d) (part_lines hubs gears serials)
      (node-ranks base (map named.Site (below d.sites) ++ (gear_names d ++ serial_names d)) (nodes-cover d hubs gears serials (pieces_alone d xs) all).0)
      (nodes-are-lines d hubs gears serials (pieces_alone d xs) all)

  all-journals : map home_journal (journals_of hubs gears serials xs) ≡ map home_journal (noted_journals d rank lists names)
  all-journals =
      map-append home_journal (at_places 0 (part_lines hubs gears serials)) (map (session_journal base) xs)
      ∙ ((λ i. node-journals i ++ session-journals d xs are hubs gears serials all same base (part_nodes d) i)
      ∙ (sym (map-append home_journal (noted_journals d rank lists (part_nodes d)) (noted_journals d rank lists (map session_node xs)))
      ∙ ap (map home_journal) (sym (journals-join d lists rank (part_nodes d) (map session_node xs)))))

  clients : SessionsFit d lists (pieces_by d xs)
  clients = notes-fit d hubs gears serials xs all are same

  fit : JointFit d lists (pieces_by d xs)
  fit =
      parts-join d (hubs_of hubs) (gears_of gears) (others_of serials (pieces_alone d xs)) (pieces_by d xs)
      (fits-join d (hubs_of hubs) (gears_of gears) (others_of serials (pieces_alone d xs)) (pieces_by d xs) (opened-fit d hubs gears serials dep opened (pieces_alone d xs)) agree clients)

  abbrev RunsAs : List Entry → Type 0
  RunsAs h = IsRun d h × (run d (acts_of h) ≡ h) × ((p : Node) → node_part d h p ≡ history (plains (lists p))) × ((s : Session) → session_part h s ≡ history (plains (pieces_by d xs s)))

  runs : RunsAs (reverse (collected hubs gears serials xs))
  runs =
      subst (λ (js : List (Numbered Entry)). RunsAs (reverse (stitched js))) (sym all-journals)
      (stitches-are-runs (noted_journals d rank lists names) d lists (pieces_by d xs) rank names (is_valid d dep) fit (all-distinct d xs are hubs gears serials all same) (all-covered d xs are hubs gears serials all same) refl)

  one-journal : IsCollected d hubs gears serials xs (collected hubs gears serials xs)
  one-journal = record {
    same_notes = same;
    merged = refl;
    is_run = runs.0;
    of_acts = runs.1;
    hub_parts = λ n i h at name. runs.2 (AtHub i) ∙ ap history (ap plains (hubs-are-kept d hubs gears serials (pieces_alone d xs) all n i h at name) ∙ hubs-are-parts i h.node.entries);
    gear_parts = λ n i g h at name. runs.2 (AtGear i g) ∙ ap history (ap plains (gears-are-kept d hubs gears serials (pieces_alone d xs) all n i g h at name) ∙ gears-are-parts i g h.node.entries);
    serial_parts = λ n e z h at name. runs.2 (AtSerial e z) ∙ ap history (ap plains (serials-are-kept d hubs gears serials (pieces_alone d xs) all n e z h at name) ∙ plains-are (newest (serial_kept e z) h.node.entries));
    session_parts = λ x i. runs.3 (session_at d x.number) ∙ (ap history (plains-are (kept_by d xs (session_at d x.number))) ∙ kept-entries d xs are x i);
    no_others = λ s f. runs.3 s ∙ (ap history (plains-are (kept_by d xs s)) ∙ no-entries d xs are s f);
  }

  -- ---- states

  -- the pieces of which it is the history
  abbrev merge : List Piece
  merge = reverse (stitched (piece_journals rank (homes d lists) names))

  is-merge : IsJointMerge d lists merge
  is-merge = stitches-merge d lists rank names (all-distinct d xs are hubs gears serials all same) (all-covered d xs are hubs gears serials all same) fit.rising

  is-history : reverse (collected hubs gears serials xs) ≡ history (plains merge)
  is-history = ap (λ (js : List (Numbered Entry)). reverse (stitched js)) all-journals ∙ stitched-history d rank lists names

  states : AreStates d hubs gears (collected hubs gears serials xs)
  states i = ap (λ (h : List Entry). kept_site d i (site_state d h i)) is-history ∙ opened-stand d hubs gears serials dep opened (pieces_alone d xs) (pieces_by d xs) merge agree clients is-merge i

pub notes-stand : NotesStand
notes-stand d hubs gears serials xs dep opened are same agree = states d hubs gears serials xs dep opened are same agree

pub notes-are-runs : NotesAreRuns
notes-are-runs d hubs gears serials xs dep opened are same agree = one-journal d hubs gears serials xs dep opened are same agree
