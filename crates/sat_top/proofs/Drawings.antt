-- Every good script has a good drawing.
use Rattle.std.proofs.Common.{◌≡◌, ℕ, false, List, [], ◌∷◌, Option, Some, None, refl, sym, ap, subst, ◌∙◌, inl, inr}
use Rattle.std.specs.Prelude.{reverse}
use Rattle.std.proofs.lemmas.List.{reverse-append, reverse-reverse}
use Rattle.sat_act.specs.declared.act.Act.{Act}
use Rattle.sat_act.specs.declared.act.Act.TheVariants as act
use Rattle.sat_act.specs.declared.entry.Entry.{Entry}
use Rattle.sat_act.specs.Deployed.{Deployed}
use Rattle.sat_act.specs.Runs.{IsRun}
use Rattle.sat_act.specs.Settling.{run, with_inner}
use Rattle.sat_rest.proofs.Rounds.{goes-keep}
use Rattle.sat_rest.proofs.Settles.{settle-after}
use Rattle.sat_stream.specs.Reading.{reading}
use Rattle.sat_script.specs.Spelled.{Spells, AreActsOf}
use Rattle.sat_stream.specs.declared.stream.Reading.{Reading}
use Rattle.sat_draw.specs.Drawing.{drawing}
use Rattle.sat_draw.proofs.Marks.{each_once}
use Rattle.sat_draw.proofs.Arrowed.{ways_told}
use Rattle.sat_draw.specs.Seats.{IsWithout, IsOfRun}
use Rattle.sat_draw.proofs.Seated.{paths_at_seats}
use Rattle.sat_draw.proofs.Hauled.{smalls_told}
use Rattle.sat_top.specs.declared.words.Command.TheVariants.{Draw}
use Rattle.sat_runs.specs.Runs.{history}
use Rattle.sat_top.specs.Drawing.{outer, draw_text, told_history, told_moves, EveryDrawingIsGood, IsGoodDrawing}
use Rattle.sat_follow.specs.Following.{IsTextOf}
use Rattle.sat_pieces.specs.Streaming.{run_status}
use Rattle.sat_top.specs.Whole.{IsOutput}
use Rattle.sat_runs.proofs.Good.{TheLaws, all_front, runs, good_run}
use Rattle.sat_pieces.proofs.Ran.{zero_fault}

drawing_is : (r : Reading) (d : Deployed) → r.deployment ≡ Some d → r.fault ≡ None → draw_text r ≡ drawing d (told_history d r.acts) (told_moves d r.acts)
drawing_is r d at none = rw (at, none) refl

-- ---- what is drawn of a run: all but what its settles did, none of which is a client's

inside : (d : Deployed) (h : List Entry) (a : Act) → IsRun d h → IsWithout h (outer h) → IsWithout (with_inner d h a) (outer (with_inner d h a))
unfolding with_inner outer IsWithout
inside d h act.Settle run w = goes-keep d (λ k. IsWithout k (outer k)) (λ k b run m later old. inl (m.operator, old)) h _ (settle-after d h run).goes w
inside d h a run w = w

without-inner : (d : Deployed) (acts : List Act) → AreActsOf d (reverse acts) → IsWithout (run d acts) (outer (run d acts))
unfolding run outer history IsWithout
without-inner d [] all = refl
without-inner d (a ∷ acts) all =
    let front : AreActsOf d (reverse acts) = all_front _ (reverse acts) (a ∷ []) (subst (AreActsOf d) (reverse-append (a ∷ []) acts) all) in
    let is : IsRun d (run d acts) = subst (λ (k : List Act). IsRun d (run d k)) (reverse-reverse acts) (runs d (reverse acts) front) in
    inr (outer (with_inner d (run d acts) a), refl, inside d (run d acts) a is (without-inner d acts front))

told-of-run : (d : Deployed) (acts : List Act) → AreActsOf d acts → IsOfRun d (told_history d acts)
unfolding told_history history
told-of-run d acts all = record {
  whole = history d acts;
  run = runs d acts all;
  without = without-inner d (reverse acts) (subst (AreActsOf d) (sym (reverse-reverse acts)) all);
}

pub good_drawing : (text : List ℕ) (d : Deployed) → TheLaws → (reading false text).fault ≡ None → (reading false text).deployment ≡ Some d → Spells text d (reading false text).acts → IsGoodDrawing text
good_drawing text d laws none at spells = record {
  deployment = d;
  acts = (reading false text).acts;
  spelled = spells;
  written = drawing_is (reading false text) d at none;
  once = each_once d (told_history d (reading false text).acts);
  told = ways_told d (told_history d (reading false text).acts);
  seats = paths_at_seats d (told_history d (reading false text).acts) (told-of-run d (reading false text).acts spells.each);
  moved = smalls_told d (told_moves d (reading false text).acts);
  good = good_run d (reading false text).acts laws spells.deployment spells.each;
}

-- what is written of a text that was read is the output of `draw`
pub drew : (left : Option (List ℕ)) (found : Reading) (written : List ℕ) (status : ℕ) → EveryDrawingIsGood → (text : List ℕ) × IsTextOf left text × (reading false text ≡ found) → written ≡ draw_text found → status ≡ run_status found.fault
    → IsOutput (Some Draw) left written status
drew left found written status law from wrote means = record {
  input = from.0;
  whole = from.1;
  output = rw from.2 wrote;
  status_is = rw from.2 means;
  proves = λ zero. law from.0 (ap (λ (r : Reading). r.fault) from.2 ∙ zero_fault found.fault status means zero);
}
