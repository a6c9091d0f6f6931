-- What is told, from what came.
use Rattle.std.proofs.Common.{◌≡◌, ℕ, List, reverse, Option, Some, None, Result, Ok, Err, arith, sym, ◌∙◌, subst, inl, inr}
use Rattle.std.specs.Prelude.{IfOk, ◌⊎◌}
use Rattle.sat_act.specs.declared.act.Act.{Act}
use Rattle.sat_act.specs.declared.entry.Entry.{Entry}
use Rattle.sat_act.specs.Deployed.{Deployed}
use Rattle.sat_act.specs.Limits.{IsDeployment}
use Rattle.sat_script.specs.Spelled.{AreActsOf, HaveNames}
use Rattle.sat_stream.specs.Laws.{CanBeSpelled, SpellingsBeginOnce}
use Rattle.sat_report.specs.Holdings.{report}
use Rattle.sat_runs.specs.Good.{EveryListIsGood}
use Rattle.sat_runs.specs.Runs.{history}
use Rattle.sat_stitch.specs.Kept.{acts_of}
use Rattle.sat_session.specs.declared.noted.Noted.{Noted}
use Rattle.sat_undone.specs.Undone.{AreFronts, FrontsAreDone, undone}
use Rattle.sat_finish.specs.declared.joint.Joint.{Joint}
use Rattle.sat_outcome.specs.Texts.{apart_text, differ_text, undone_text}
use Rattle.sat_live.specs.declared.telling.Told.{Told}
use Rattle.sat_live.specs.Coming.{AreTwoNotes, IsJournalOf}
use Rattle.sat_live.specs.Telling.{CanBeTold, CanPartsBeTold, IsRunTold}
use Rattle.sat_live.specs.Told.{AreActsDone, ArePartsApart, HasDiffered, HasLeft, HasLived, IsTold}
use Rattle.sat_live.proofs.Differing.{tells_act, tells_part}
use Rattle.sat_live.proofs.Journals.{journal_is}

-- ---- by the status

told-lived : (d : Deployed) (acts : List Act) (text : List ℕ) (status : ℕ) → status ≡ 0 → HasLived d acts text → IsTold d acts text status
told-lived d acts text status is has = record {
  lived = λ e. has;
  differed = λ e. absurd (omega (arith, is, e));
  left = λ e. absurd (omega (arith, is, e));
  statuses = inl is;
}

told-differed : (d : Deployed) (acts : List Act) (text : List ℕ) (status : ℕ) → status ≡ 6 → HasDiffered d acts text → IsTold d acts text status
told-differed d acts text status is has = record {
  lived = λ e. absurd (omega (arith, is, e));
  differed = λ e. has;
  left = λ e. absurd (omega (arith, is, e));
  statuses = inr (inl is);
}

told-left : (d : Deployed) (acts : List Act) (text : List ℕ) (status : ℕ) → status ≡ 8 → HasLeft d acts text → IsTold d acts text status
told-left d acts text status is has = record {
  lived = λ e. absurd (omega (arith, is, e));
  differed = λ e. absurd (omega (arith, is, e));
  left = λ e. has;
  statuses = inr (inr is);
}

-- ---- the acts of a journal

done-of : (d : Deployed) (acts : List Act) (journal : List Entry) → EveryListIsGood → IsDeployment d → AreActsOf d (acts_of journal) → IsJournalOf d acts journal → AreActsDone d acts (acts_of journal)
done-of d acts journal good is each came = record {
  each = each;
  good = good d (acts_of journal) is each;
  fronts = subst (λ (es : List Entry). AreFronts es acts) (sym (journal_is d journal came.one)) came.fronts;
}

still : (d : Deployed) (acts : List Act) (journal : List Entry) (o : Option Act) → IsJournalOf d acts journal → undone journal acts ≡ o → undone (reverse (history d (acts_of journal))) acts ≡ o
still d acts journal o came e = subst (λ (es : List Entry). undone es acts ≡ o) (sym (journal_is d journal came.one)) e

-- ---- what is told

pub told_undone : {E : Type 0} (d : Deployed) (acts : List Act) (journal : List Entry) (a : Act) (result : Result Told E) → EveryListIsGood → IsDeployment d → AreActsOf d (acts_of journal) → IsJournalOf d acts journal → undone journal acts ≡ Some a
    → IfOk result (λ told. told.text.items ≡ undone_text d a) → IfOk result (λ told. told.status ≡ 8) → IfOk result (λ told. IsTold d acts told.text.items told.status)
told_undone d acts journal a (Err fault) good is each came first wrote status = tt
told_undone d acts journal a (Ok told) good is each came first wrote status =
    told-left d acts told.text.items told.status status (record {
      done = acts_of journal;
      journal = done-of d acts journal good is each came;
      left = inl (record { act = a; first = still d acts journal (Some a) came first; written = wrote });
    })

run-told : (d : Deployed) (acts : List Act) (journal : List Entry) (text : List ℕ) (status : ℕ) → EveryListIsGood → FrontsAreDone → SpellingsBeginOnce → IsDeployment d → HaveNames d → AreActsOf d (acts_of journal) → IsJournalOf d acts journal → undone journal acts ≡ None
    → IsRunTold d (acts_of journal) text status → IsTold d acts text status
run-told d acts journal text status good doing once is names each came none (inl whole) =
    let done = done-of d acts journal good is each came in
    let readable : CanBeSpelled d (acts_of journal) = record { deployment = is; names = names; each = each } in
    told-lived d acts text status whole.0 (record {
      done = acts_of journal;
      journal = done;
      all = doing (reverse (history d (acts_of journal))) acts done.fronts (still d acts journal None came none);
      moves = whole.1.moves;
      settled = whole.1.settled;
      written = whole.1.written;
      readable = readable;
      only = λ e others rest can reads. once d e (acts_of journal) others (report d (history d (acts_of journal))) rest readable can (sym whole.1.written ∙ reads);
    })
run-told d acts journal text status good doing once is names each came none (inr left) =
    told-left d acts text status left.0 (record {
      done = acts_of journal;
      journal = done-of d acts journal good is each came;
      left = inr (record { none = still d acts journal None came none; rounds = left.1.rounds; moves = left.1.moves; settled = left.1.settled; some = left.1.some; written = left.1.written });
    })

pub told_run : {E : Type 0} (d : Deployed) (acts : List Act) (journal : List Entry) (result : Result Told E) → EveryListIsGood → FrontsAreDone → SpellingsBeginOnce → IsDeployment d → HaveNames d → AreActsOf d (acts_of journal) → IsJournalOf d acts journal → undone journal acts ≡ None
    → IfOk result (λ told. IsRunTold d (acts_of journal) told.text.items told.status) → IfOk result (λ told. IsTold d acts told.text.items told.status)
told_run d acts journal (Err fault) good doing once is names each came none ran = tt
told_run d acts journal (Ok told) good doing once is names each came none ran = run-told d acts journal told.text.items told.status good doing once is names each came none ran

pub told_differ : {E : Type 0} (d : Deployed) (acts : List Act) (node session : Option Noted) (result : Result Told E) → AreTwoNotes acts node session
    → IfOk result (λ told. told.text.items ≡ differ_text d node session) → IfOk result (λ told. told.status ≡ 6) → IfOk result (λ _. CanBeTold d acts node session) → IfOk result (λ told. IsTold d acts told.text.items told.status)
told_differ d acts kept noted (Err fault) found wrote status notes = tt
told_differ d acts kept noted (Ok told) found wrote status notes =
    told-differed d acts told.text.items told.status status (inl (record {
      nodes = found.nodes;
      sessions = found.sessions;
      each = found.each;
      node = kept;
      session = noted;
      difference = found.difference;
      tells = tells_act acts found.nodes found.sessions kept noted found.each found.difference notes.act;
      at_node = notes.at_node;
      at_session = notes.at_session;
      apart = found.difference.apart;
      written = wrote;
    }))

pub told_apart : {E : Type 0} (d : Deployed) (acts : List Act) (number : ℕ) (home other : Option Joint) (result : Result Told E) → ArePartsApart home other
    → IfOk result (λ told. told.text.items ≡ apart_text d number home other) → IfOk result (λ told. told.status ≡ 6) → IfOk result (λ _. CanPartsBeTold d acts home other) → IfOk result (λ told. IsTold d acts told.text.items told.status)
told_apart d acts number home other (Err fault) found wrote status parts = tt
told_apart d acts number home other (Ok told) found wrote status parts =
    told-differed d acts told.text.items told.status status (inr (record {
      number = number;
      home = home;
      other = other;
      parts = found;
      tells = tells_part acts home other found.apart parts.act parts.alone;
      at_home = parts.at_home;
      at_other = parts.at_other;
      written = wrote;
    }))

-- there is no other status
pub told_status : {E : Type 0} (d : Deployed) (acts : List Act) (result : Result Told E) → IfOk result (λ told. IsTold d acts told.text.items told.status) → IfOk result (λ told. (told.status ≡ 0) ⊎ (told.status ≡ 6) ⊎ (told.status ≡ 8))
told_status d acts (Err fault) is = tt
told_status d acts (Ok told) is = is.statuses
