-- What `live`, once its output is written, says of the top call.
use Rattle.std.proofs.Common.{◌≡◌, ℕ, ◌≤◌, ◌+◌, ◌⊎◌, true, false, List, Option, Some, None, length, inl, inr, refl, sym, ap, subst, ◌∙◌, arith}
use Rattle.std.specs.Prelude.{◌≢◌}
use Rattle.std.specs.Io.KnownBytes.{Consumes, IsAtEnd}
use Rattle.sat_act.specs.Deployed.{Deployed}
use Rattle.sat_outside.specs.Streams.{Told, Takes}
use Rattle.sat_stream.specs.Laws.{IsRead}
use Rattle.sat_stream.specs.Reading.{reading}
use Rattle.sat_script.specs.declared.fault.ScriptFault.{ScriptFault}
use Rattle.sat_stream.specs.declared.limits.TheConstants.{MOST_BYTES}
use Rattle.sat_stream.specs.declared.stream.Reading.{Reading}
use Rattle.sat_live.specs.Told.{IsTold}
use Rattle.sat_follow.specs.declared.pieces.TheConstants.{BUFFER_BYTES}
use Rattle.sat_top.specs.Living.{MeetsLive, IsLiveStatus, Tells, TellsOf, is_told}
use Rattle.sat_pieces.specs.Streaming.{StopsReading}
use Rattle.sat_follow.specs.Following.{IsTextOf}

-- what holds of the statuses of a run that came to its end
each-end : (P : ℕ → Type 0) (status : ℕ) → (status ≡ 0) ⊎ (status ≡ 6) ⊎ (status ≡ 8) → P 0 → P 6 → P 8 → P status
each-end P status (inl e) zero six eight = subst P (sym e) zero
each-end P status (inr (inl e)) zero six eight = subst P (sym e) six
each-end P status (inr (inr e)) zero six eight = subst P (sym e) eight

one-is-none : (status : ℕ) → status ≡ 1 → is_told status ≡ true → ⊥
one-is-none status one told = let e : false ≡ true = sym (ap is_told one) ∙ told in cc

module _ (status : ℕ) (left left_after : Option (List ℕ)) (old new : Told) (failed failed_after refused refused_after ends ends_after : ℕ) (text output : List ℕ) (whole : IsTextOf left text)
    (bounded : (taken : List ℕ) × Consumes left left_after taken × (length taken ≤ MOST_BYTES + BUFFER_BYTES)) (stops : StopsReading true left left_after) (once : ends_after ≤ ends + 1) (later : failed ≤ failed_after) (kept : refused ≤ refused_after) (took : Takes old new output) where
  same-text : (other : List ℕ) → left ≡ Some other → other ≡ text
  same-text other is = subst (λ (l : Option (List ℕ)). IsTextOf l text) is whole

  same-fault : (other : List ℕ) → left ≡ Some other → (fault : Option ScriptFault) → (reading true text).fault ≡ fault → IsLiveStatus fault status → IsLiveStatus (reading true other).fault status
  same-fault other at fault is so = subst (λ (f : Option ScriptFault). IsLiveStatus f status) (sym (ap (λ (bytes : List ℕ). (reading true bytes).fault) (same-text other at) ∙ is)) so

  bad-line : (fault : ScriptFault) → (reading true text).fault ≡ Some fault → Tells (reading true text).deployment (reading true text).acts (Some fault) output status → MeetsLive status left left_after old new failed failed_after refused refused_after ends ends_after
  bad-line fault is tells =
      let one : status ≡ 1 = tells.1 in record {
        lived = λ told. absurd (one-is-none status one told);
        bad = λ _. record { text = text; whole = whole; fault = fault; bad = is; written = subst (λ (bytes : List ℕ). Takes old new bytes) tells.0 took };
        no_source = λ e. absurd (omega (arith, e, one));
        no_sink = λ e. absurd (omega (arith, e, one));
        no_memory = λ e. absurd (omega (arith, e, one));
        statuses = (omega (arith, one), (λ e. omega (arith, e, one)), (λ e. omega (arith, e, one)));
        bounded = bounded;
        stops = stops;
        once = once;
        later = (later, kept);
        complete = λ other at _ _. inl (same-fault other at (Some fault) is one);
      }

  at-end : (reading true text).fault ≡ None → IsRead true (reading true text) text → IsAtEnd left_after → Tells (reading true text).deployment (reading true text).acts None output status → MeetsLive status left left_after old new failed failed_after refused refused_after ends ends_after
  at-end is read reached tells =
      let told : IsTold read.0 (reading true text).acts output status = subst (λ (o : Option Deployed). Tells o (reading true text).acts None output status) read.1 tells in
      let ends-so : is_told status ≡ true = each-end (λ n. is_told n ≡ true) status told.statuses refl refl refl in
      let low : status ≤ 8 = each-end (λ n. n ≤ 8) status told.statuses (omega arith) (omega arith) (omega arith) in record {
        lived = λ _. (record { text = text; whole = whole; deployment = read.0; acts = (reading true text).acts; spelled = read.2; allowed = read.3; output = output; told = told; written = took }, reached);
        bad = λ e. absurd (each-end (λ n. n ≢ 1) status told.statuses (λ f. omega (arith, f)) (λ f. omega (arith, f)) (λ f. omega (arith, f)) e);
        no_source = λ e. absurd (each-end (λ n. n ≢ 3) status told.statuses (λ f. omega (arith, f)) (λ f. omega (arith, f)) (λ f. omega (arith, f)) e);
        no_sink = λ e. absurd (each-end (λ n. n ≢ 4) status told.statuses (λ f. omega (arith, f)) (λ f. omega (arith, f)) (λ f. omega (arith, f)) e);
        no_memory = λ e. absurd (each-end (λ n. n ≢ 5) status told.statuses (λ f. omega (arith, f)) (λ f. omega (arith, f)) (λ f. omega (arith, f)) e);
        statuses = (low, each-end (λ n. n ≢ 2) status told.statuses (λ f. omega (arith, f)) (λ f. omega (arith, f)) (λ f. omega (arith, f)), each-end (λ n. n ≢ 7) status told.statuses (λ f. omega (arith, f)) (λ f. omega (arith, f)) (λ f. omega (arith, f)));
        bounded = bounded;
        stops = stops;
        once = once;
        later = (later, kept);
        complete = λ other at _ _. inl (same-fault other at None is ends-so);
      }

  -- whether the text is good or not
  either : ((other : List ℕ) → (reading true other).fault ≡ None → IsRead true (reading true other) other) → ((reading true text).fault ≡ None → IsAtEnd left_after) → TellsOf text output status → MeetsLive status left left_after old new failed failed_after refused refused_after ends ends_after
  either law reached tells = go (reading true text).fault refl tells
    where
      go : (fault : Option ScriptFault) → (reading true text).fault ≡ fault → Tells (reading true text).deployment (reading true text).acts fault output status → MeetsLive status left left_after old new failed failed_after refused refused_after ends ends_after
      go (Some fault) is t = bad-line fault is t
      go None is t = at-end is (law text is) (reached is) t

-- by what was read
pub lived_met : (status : ℕ) (left left_after : Option (List ℕ)) (old new : Told) (failed failed_after refused refused_after ends ends_after : ℕ) (found : Reading) (output : List ℕ) →
    ((other : List ℕ) → (reading true other).fault ≡ None → IsRead true (reading true other) other) →
    (text : List ℕ) × IsTextOf left text × (reading true text ≡ found) →
    (found.fault ≡ None → IsAtEnd left_after) →
    (taken : List ℕ) × Consumes left left_after taken × (length taken ≤ MOST_BYTES + BUFFER_BYTES) →
    StopsReading true left left_after →
    ends_after ≤ ends + 1 →
    failed ≤ failed_after → refused ≤ refused_after → Tells found.deployment found.acts found.fault output status → Takes old new output →
    MeetsLive status left left_after old new failed failed_after refused refused_after ends ends_after
lived_met status left left_after old new failed failed_after refused refused_after ends ends_after found output law from reached bounded stops once later kept tells took =
    either status left left_after old new failed failed_after refused refused_after ends ends_after from.0 output from.1 bounded stops once later kept took law
    (subst (λ (r : Reading). r.fault ≡ None → IsAtEnd left_after) (sym from.2) reached)
    (subst (λ (r : Reading). Tells r.deployment r.acts r.fault output status) (sym from.2) tells)
