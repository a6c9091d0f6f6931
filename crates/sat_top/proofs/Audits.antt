-- What a text of a history comes to.
use Rattle.std.proofs.Common.{◌≡◌, ◌≢◌, ℕ, ◌<◌, ◌≤◌, Bool, true, false, List, ◌++◌, length, take, Option, Some, Result, Ok, Err, refl, sym, ap, subst, ◌∙◌, arith}
use Rattle.std.specs.Prelude.{nat_lt}
use Rattle.std.specs.Io.KnownBytes.{Consumes, IsAtEnd}
use Rattle.std.proofs.lemmas.Bool.Decides.{nat_tests}
use Rattle.std.proofs.lemmas.List.{length-append, take-append-le}
use Rattle.sat_outside.specs.Streams.{Told, Takes}
use Rattle.sat_script.specs.declared.fault.ScriptFault.{ScriptFault}
use Rattle.sat_report.specs.Faults.{fault_line}
use Rattle.sat_audit.specs.Judging.{is_yes, verdict_of, verdict_text, IsVerdictOf}
use Rattle.sat_audit.specs.Texts.{history_of}
use Rattle.sat_audit.specs.declared.heard.History.{History}
use Rattle.sat_top.specs.declared.auditing.TheConstants.{MOST_HISTORY_BYTES}
use Rattle.sat_top.specs.declared.words.Command.TheVariants.{Audit}
use Rattle.sat_top.specs.Auditing.{audit_status, audit_text, cut_off, heard_in, judged_status, judged_text, verdict_status, HasHistoryFault, HasVerdict, IsAudited}
use Rattle.sat_follow.specs.Following.{IsTextOf}
use Rattle.sat_top.specs.Whole.{IsOutput}
use Rattle.sat_pieces.proofs.Progress.{at_end, rest_of}

-- ---- a text of so many bytes, or of fewer

pub heard_long : (text : List ℕ) → MOST_HISTORY_BYTES < length text → heard_in text ≡ cut_off (history_of (take MOST_HISTORY_BYTES text))
unfolding heard_in
heard_long text many = let is : nat_lt MOST_HISTORY_BYTES (length text) ≡ true = grind (arith, nat_tests) in rw is refl

cut_status : (r : Result History ScriptFault) → judged_status (cut_off r) ≡ 1
cut_status (Ok h) = refl
cut_status (Err fault) = refl

-- so a verdict is on a text of few bytes
few_bytes : (text : List ℕ) → audit_status text ≢ 1 → length text ≤ MOST_HISTORY_BYTES
unfolding audit_status
few_bytes text no_fault = go (nat_lt MOST_HISTORY_BYTES (length text)) refl
  where
    go : (b : Bool) → nat_lt MOST_HISTORY_BYTES (length text) ≡ b → length text ≤ MOST_HISTORY_BYTES
    go false few = grind (arith, nat_tests)
    go true many = absurd (no_fault (ap judged_status (heard_long text (grind (arith, nat_tests))) ∙ cut_status (history_of (take MOST_HISTORY_BYTES text))))

-- ---- what is made of it

pub judged : (bytes : List ℕ) (h : History) (text : List ℕ) (status : ℕ) → heard_in bytes ≡ Ok h → text ≡ verdict_text (verdict_of h) → status ≡ verdict_status (is_yes (verdict_of h)) → IsVerdictOf h (verdict_of h) → IsAudited bytes text status
unfolding audit_text audit_status
judged bytes h text status is wrote so verdict = record {
  output = wrote ∙ ap judged_text (sym is);
  status_is = so ∙ sym (ap judged_status is);
  verdict = λ other at. let same : h ≡ other = cc in subst (λ (x : History). IsVerdictOf x (verdict_of x)) same verdict;
}

pub unjudged : (bytes : List ℕ) (fault : ScriptFault) (text : List ℕ) (status : ℕ) → heard_in bytes ≡ Err fault → text ≡ fault_line fault → status ≡ 1 → IsAudited bytes text status
unfolding audit_text audit_status
unjudged bytes fault text status is wrote one = record {
  output = wrote ∙ ap judged_text (sym is);
  status_is = one ∙ sym (ap judged_status is);
  verdict = λ other at. absurd (cc);
}

-- ---- reading it

whole : (a b : Option (List ℕ)) (taken : List ℕ) → Consumes a b taken → IsAtEnd b → (text : List ℕ) × IsTextOf a text × (heard_in text ≡ heard_in taken)
whole a b taken took ends = (taken, at_end a b taken took ends, refl)

enough : (a b : Option (List ℕ)) (taken : List ℕ) → Consumes a b taken → MOST_HISTORY_BYTES < length taken → (text : List ℕ) × IsTextOf a text × (heard_in text ≡ heard_in taken)
enough a b taken took many =
    let rest = rest_of a b taken took in
    let more : MOST_HISTORY_BYTES < length (taken ++ rest.0) = omega (arith, length-append taken rest.0, many) in (
      taken ++ rest.0,
      rest.1,
      heard_long (taken ++ rest.0) more ∙ ap (λ (bytes : List ℕ). cut_off (history_of bytes)) (take-append-le MOST_HISTORY_BYTES taken rest.0 (omega (arith, many))) ∙ sym (heard_long taken many),
    )

-- what was read says of the source's text what there is to say
pub read_so : (a b : Option (List ℕ)) (taken : List ℕ) → Consumes a b taken → (length taken ≤ MOST_HISTORY_BYTES → IsAtEnd b) → (text : List ℕ) × IsTextOf a text × (heard_in text ≡ heard_in taken)
read_so a b taken took ends = go (nat_lt MOST_HISTORY_BYTES (length taken)) refl
  where
    go : (test : Bool) → nat_lt MOST_HISTORY_BYTES (length taken) ≡ test → (text : List ℕ) × IsTextOf a text × (heard_in text ≡ heard_in taken)
    go true many = enough a b taken took (grind (arith, nat_tests))
    go false few = whole a b taken took (ends (grind (arith, nat_tests)))

-- the verdict on what was read is that on the source's text
pub audit_output : (left : Option (List ℕ)) (found text : List ℕ) (status : ℕ) → (input : List ℕ) × IsTextOf left input × (heard_in input ≡ heard_in found) → IsAudited found text status → IsOutput (Some Audit) left text status
unfolding audit_text audit_status
audit_output left found text status from is = record {
  input = from.0;
  whole = from.1;
  output = is.output ∙ ap judged_text (sym from.2);
  status_is = is.status_is ∙ sym (ap judged_status from.2);
  proves = λ h at. is.verdict h (sym from.2 ∙ at);
}

-- with a verdict all was read
pub audit_at_end : (bytes text : List ℕ) (status found : ℕ) (P : Type 0) → IsAudited bytes text status → (length bytes ≤ MOST_HISTORY_BYTES → P) → found ≢ 1 → status ≡ found → P
audit_at_end bytes text status found P is ends other same = ends (few_bytes bytes (λ one. other (sym same ∙ is.status_is ∙ one)))

-- ---- the top call

pub verdict_done : (left : Option (List ℕ)) (text : List ℕ) (old new : Told) (all : Bool) (o : IsOutput (Some Audit) left text (verdict_status all)) → Takes old new text → HasVerdict all left old new
unfolding audit_text audit_status
verdict_done left text old new all o took = go (heard_in o.input) refl
  where
    same : (a b : Bool) → verdict_status a ≡ verdict_status b → b ≡ a
    same true true e = refl
    same false false e = refl
    same true false e = absurd (cc)
    same false true e = absurd (cc)

    none : (a : Bool) → verdict_status a ≡ 1 → ⊥
    none true e = cc
    none false e = cc

    go : (r : Result History ScriptFault) → heard_in o.input ≡ r → HasVerdict all left old new
    go (Ok h) is = record {
      text = o.input;
      whole = o.whole;
      history = h;
      read = is;
      written = subst (λ (bytes : List ℕ). Takes old new bytes) (o.output ∙ ap judged_text is) took;
      yes_is = same all (is_yes (verdict_of h)) (o.status_is ∙ ap judged_status is);
      verdict = o.proves h is;
    }
    go (Err fault) is = absurd (none all (o.status_is ∙ ap judged_status is))

pub audit_refused : (left : Option (List ℕ)) (text : List ℕ) (old new : Told) (o : IsOutput (Some Audit) left text 1) → Takes old new text → HasHistoryFault left old new
unfolding audit_text audit_status
audit_refused left text old new o took = go (heard_in o.input) refl
  where
    none : (a : Bool) → 1 ≡ verdict_status a → ⊥
    none true e = cc
    none false e = cc

    go : (r : Result History ScriptFault) → heard_in o.input ≡ r → HasHistoryFault left old new
    go (Ok h) is = absurd (none (is_yes (verdict_of h)) (o.status_is ∙ ap judged_status is))
    go (Err fault) is = record {
      text = o.input;
      whole = o.whole;
      fault = fault;
      bad = is;
      written = subst (λ (bytes : List ℕ). Takes old new bytes) (o.output ∙ ap judged_text is) took;
    }
