-- A line of an act and its answer, cause by cause.
use Rattle.std.proofs.Common.{Bor, ◌-◌, ◌≡◌, ℕ, ◌<◌, ◌≤◌, Bool, true, false, not, ltb, List, [], ◌∷◌, length, take, drop, Option, Some, None, Result, Ok, Err, min, sym, ap, ◌∙◌, refl, arith, codes, bytes_eq, length-take}
use Rattle.std.specs.List.{join_with_byte}
use Rattle.std.proofs.lemmas.Bool.{lt-ltb}
use Rattle.std.proofs.lemmas.Bool.Decides.{nat_tests}
use Rattle.std.proofs.lemmas.List.Splits.{join_with_byte-slice_split}
use Rattle.sat_act.specs.Deployed.{Deployed}
use Rattle.sat_act.specs.declared.act.Act.{Act}
use Rattle.sat_script.specs.Causes.{bar, needs, refused}
use Rattle.sat_script.specs.Grammar.{body_line, is_end, is_ended, line_at, of_act, words_line, told_line, after}
use Rattle.sat_script.specs.Lines.{running, Gives, Takes, TakesFresh, IsGoodLine, IsFaultOf}
use Rattle.sat_script.specs.State.{State, Seen, deployed_at, deployment_of}
use Rattle.sat_script.specs.Table.{act_line}
use Rattle.sat_script.specs.Words.{is_text, words_of}
use Rattle.sat_script.specs.declared.fault.Cause.{Cause}
use Rattle.sat_script.specs.declared.fault.Cause.TheVariants.{BadAct, LongLine, NotText}
use Rattle.sat_script.specs.declared.fault.ScriptFault.{ScriptFault}
use Rattle.sat_script.specs.declared.form.Form.{Form}
use Rattle.sat_script.specs.declared.limits.TheConstants.{LONGEST_LINE}
use Rattle.sat_script.specs.declared.line.Line.{Line}
use Rattle.sat_script.specs.declared.line.Line.TheVariants as line
use Rattle.sat_script.specs.declared.line.Parsed.{Parsed}
use Rattle.sat_script.specs.declared.line.Parsed.TheVariants as parsed
use Rattle.sat_script.specs.declared.line.Stage.{Stage}
use Rattle.sat_script.specs.declared.line.Stage.TheVariants as stage
use Rattle.sat_script.proofs.Choices.{word_is}
use Rattle.sat_script.proofs.Cuts.{texts}
use Rattle.sat_script.proofs.Steps.{rest_texts}
use Rattle.sat_audit.specs.Fronts.{front_end}
use Rattle.sat_audit.specs.Lines.{Hearing, act_words_of, as_script, has_form, heard_as, heard_at, heard_line, history_line, is_of_act, with_heard, told_at, of_told}
use Rattle.sat_audit.specs.Steps.{IsCauseOf, IsHeardLine, IsTaken, IsRefused}
use Rattle.sat_audit.specs.declared.heard.Heard.{Heard}
use Rattle.sat_audit.specs.declared.told.Told.{Told}
use Rattle.sat_audit.proofs.Forms.{most_has, no_end}
use Rattle.sat_audit.proofs.Fronts.{front_inside, front_words, text_front}

-- ---- by the tests

pub of_act_is : (h : Hearing) (line : List ℕ) → is_of_act h.script.stage (words_of line) ≡ true
    → history_line h line ≡ refused LongLine (ltb LONGEST_LINE (length line)) (needs NotText (is_text line) (heard_line h (words_of line)))
unfolding history_line
of_act_is h line e = rw e refl

pub other_is : (h : Hearing) (line : List ℕ) → is_of_act h.script.stage (words_of line) ≡ false → history_line h line ≡ as_script h (line_at h.script line)
unfolding history_line
other_is h line e = rw e refl

pub too_long : (h : Hearing) (line : List ℕ) → is_of_act h.script.stage (words_of line) ≡ true → LONGEST_LINE < length line → history_line h line ≡ Err LongLine
too_long h line e long = of_act_is h line e ∙ (rw (lt-ltb LONGEST_LINE (length line) long) refl)

fits : (k : ℕ) → k ≤ LONGEST_LINE → ltb LONGEST_LINE k ≡ false
fits k few = grind (arith, nat_tests)

pub no_text : (h : Hearing) (line : List ℕ) → is_of_act h.script.stage (words_of line) ≡ true → length line ≤ LONGEST_LINE → is_text line ≡ false → history_line h line ≡ Err NotText
no_text h line e short text = of_act_is h line e ∙ (rw (fits (length line) short, text) refl)

-- a line of an act that is text and not too long, and how many of its words are the act
pub record IsKnown (h : Hearing) (line : List ℕ) (n : ℕ) : Type 0 where
  pub of_act : is_of_act h.script.stage (words_of line) ≡ true
  pub short : length line ≤ LONGEST_LINE
  pub text : is_text line ≡ true
  pub count : n ≡ act_words_of h.script.header.format (words_of line)

pub heard_is : (h : Hearing) (line : List ℕ) (n : ℕ) → IsKnown h line n
    → history_line h line ≡ heard_as h (act_line (bar h.script) h.script.header (take n (words_of line))) (drop n (words_of line))
unfolding heard_line heard_at
heard_is h line n k = of_act_is h line k.of_act ∙ (rw (fits (length line) k.short, k.text, k.count) refl)

-- no words are no act
pub no_words : (bars : Form → Option Cause) (d : Deployed) (words : List (List ℕ)) (n : ℕ) → n ≡ 0 → act_line bars d (take n words) ≡ Err BadAct
unfolding act_line
no_words bars d words n none = ap (λ (k : ℕ). act_line bars d (take k words)) none

-- the line has the cause of its act, or of its answer
pub heard_bad : (h : Hearing) (line : List ℕ) (n : ℕ) (cause : Cause) → IsKnown h line n → Gives (Err cause) (act_line (bar h.script) h.script.header (take n (words_of line))) → IsCauseOf h line cause
heard_bad h line n cause k gives = λ other. heard_is h line n k ∙ ap (λ (r : Result Act Cause). heard_as h r (drop n (words_of line))) (gives other)

by_answer : (h : Hearing) (line : List ℕ) (n : ℕ) (a : Act) (r : Result Told Cause) → IsKnown h line n → act_line (bar h.script) h.script.header (take n (words_of line)) ≡ Ok a → told_at h a (drop n (words_of line)) ≡ r
    → history_line h line ≡ of_told h a r
by_answer h line n a r k says told = heard_is h line n k ∙ ap (λ (r : Result Act Cause). heard_as h r (drop n (words_of line))) says ∙ ap (of_told h a) told

pub told_bad : (h : Hearing) (line : List ℕ) (n : ℕ) (a : Act) (cause : Cause) → IsKnown h line n → act_line (bar h.script) h.script.header (take n (words_of line)) ≡ Ok a
    → (rest : List (List ℕ)) → rest ≡ drop n (words_of line) → Gives (Err cause) (told_at h a rest) → IsCauseOf h line cause
told_bad h line n a cause k says rest behind gives = λ other. by_answer h line n a (Err cause) k says (ap (told_at h a) (sym behind) ∙ gives other)

pub told_good : (h : Hearing) (line front : List ℕ) (n : ℕ) (a : Act) (told : Told) → IsKnown h line n → act_line (bar h.script) h.script.header (take n (words_of line)) ≡ Ok a
    → line_at h.script (take (front_end n line) line) ≡ Ok (parsed.Act a) → (rest : List (List ℕ)) → rest ≡ drop n (words_of line) → told_at h a rest ≡ Ok told
    → front ≡ take (front_end n line) line → IsHeardLine h line front told
told_good h line front n a told k says reads rest behind is at =
    record { act = a; reads = ap (line_at h.script) at ∙ reads; says = by_answer h line n a (Ok told) k says (ap (told_at h a) (sym behind) ∙ is) }

-- the words behind those of the act, as the code has them
pub rest_words : (words : List (Bor (List ℕ))) (line : List ℕ) (n : ℕ) → texts words ≡ words_of line → texts (take (length words - n) (drop n words)) ≡ drop n (words_of line)
rest_words words line n are = rest_texts n words ∙ ap (drop n) are

-- ---- the front of the line

not-ended : (here : Stage) → here ≡ stage.Body → is_ended here ≡ false
not-ended here e = ap is_ended e

-- the front is a good line of a script where its words say an act, and has their cause where they don't
pub front_line : (s : State) (line : List ℕ) (n : ℕ) → s.stage ≡ stage.Body → length line ≤ LONGEST_LINE → is_text line ≡ true → n ≡ act_words_of s.header.format (words_of line) → 0 < n
    → line_at s (take (front_end n line) line) ≡ of_act (act_line (bar s) s.header (take n (words_of line)))
unfolding line_at words_line body_line
front_line s line n body short text is some =
    let front : List ℕ = take (front_end n line) line in
    let size : length front ≡ front_end n line = length-take (front_end n line) line ∙ (let e : min (front_end n line) (length line) ≡ front_end n line = omega (arith, front_inside n line) in e) in
    let few : ltb LONGEST_LINE (length front) ≡ false = fits (length front) (omega (arith, size, front_inside n line, short)) in
    let good : is_text front ≡ true = text_front (front_end n line) line text in
    let has : has_form s.header.format (take n (words_of line)) ≡ true =
    ap (λ (k : ℕ). has_form s.header.format (take k (words_of line))) is ∙ most_has s.header.format (words_of line) (length (words_of line)) (rw is at some) in
    rw (not-ended s.stage body, few, good, front_words n line some, body, no_end s.header.format (take n (words_of line)) has) refl

pub said_act : (r : Result Act Cause) (a : Act) → of_act r ≡ Ok (parsed.Act a) → r ≡ Ok a
said_act (Ok b) a e = cc
said_act (Err cause) a e = absurd (cc)

pub said_cause : (r : Result Act Cause) (cause : Cause) → of_act r ≡ Err cause → r ≡ Err cause
said_cause (Ok b) cause e = absurd (cc)
said_cause (Err other) cause e = cc

pub said_acts : (r : Result Act Cause) (p : Parsed) → of_act r ≡ Ok p → ((a : Act) → p ≡ parsed.Act a → ⊥) → ⊥
said_acts (Ok b) p e other = other b (cc)
said_acts (Err cause) p e other = absurd (cc)

-- ---- where a line of an act stands

pub in_body : (here : Stage) (words : List (List ℕ)) → is_of_act here words ≡ true → here ≡ stage.Body
in_body stage.Body words e = refl
in_body stage.Start words e = absurd (cc)
in_body stage.Sites words e = absurd (cc)
in_body stage.Gears words e = absurd (cc)
in_body stage.Header words e = absurd (cc)
in_body stage.Ended words e = absurd (cc)

pub body_deploys : (s : State) → s.stage ≡ stage.Body → deployment_of s ≡ Some s.header
body_deploys s e = ap (λ (here : Stage). deployed_at here s.header) e

-- `end` is one word
pub end_words : (line : List ℕ) → is_end (words_of line) ≡ bytes_eq line (codes "end")
end_words line = go (bytes_eq line (codes "end")) refl (words_of line) refl
  where
    go : (b : Bool) → bytes_eq line (codes "end") ≡ b → (ws : List (List ℕ)) → words_of line ≡ ws → is_end (words_of line) ≡ bytes_eq line (codes "end")
    go true e ws is = ap (λ (l : List ℕ). is_end (words_of l)) (word_is line (codes "end") e) ∙ sym e
    go false e [] is = ap is_end is ∙ sym e
    go false e (w ∷ []) is =
        let one : w ≡ line = sym (ap (join_with_byte 32) is) ∙ join_with_byte-slice_split 32 line in
        ap is_end is ∙ ap (λ (l : List ℕ). bytes_eq l (codes "end")) one
    go false e (w ∷ v ∷ ws) is = ap is_end is ∙ sym e

pub ended_no_act : (here : Stage) (words : List (List ℕ)) → here ≡ stage.Ended → is_of_act here words ≡ false
ended_no_act here words e = ap (λ (s : Stage). is_of_act s words) e

pub closed_no_act : (s : State) (words : List (List ℕ)) → deployment_of s ≡ None → is_of_act s.stage words ≡ false
closed_no_act s words none = go s.stage none
  where
    go : (here : Stage) → deployed_at here s.header ≡ None → is_of_act here words ≡ false
    go stage.Start e = refl
    go stage.Sites e = refl
    go stage.Gears e = refl
    go stage.Header e = refl
    go stage.Body e = absurd (cc)
    go stage.Ended e = refl

pub body_act : (s : State) (line : List ℕ) (d : Deployed) → deployment_of s ≡ Some d → (s.stage ≡ stage.Ended → ⊥) → is_of_act s.stage (words_of line) ≡ not (bytes_eq line (codes "end"))
body_act s line d is still = go s.stage is still
  where
    go : (here : Stage) → deployed_at here s.header ≡ Some d → (here ≡ stage.Ended → ⊥) → is_of_act here (words_of line) ≡ not (bytes_eq line (codes "end"))
    go stage.Body e still = ap not (end_words line)
    go stage.Ended e still = absurd (still refl)
    go stage.Start e still = absurd (cc)
    go stage.Sites e still = absurd (cc)
    go stage.Gears e still = absurd (cc)
    go stage.Header e still = absurd (cc)

-- ---- lines that were taken

pub takes_fresh : (o : Option ScriptFault) (s : State) (new : Seen) (r : Result Line ScriptFault) (bytes : List ℕ) → o ≡ None → Takes o s new r bytes → TakesFresh s new r bytes
takes_fresh None s new r bytes e h = h
takes_fresh (Some fault) s new r bytes e h = absurd (cc)

ok-same : (s : State) (front : List ℕ) (p q : Parsed) → line_at s front ≡ Ok p → line_at s front ≡ Ok q → p ≡ q
ok-same s front p q a b = let e : Ok p ≡ Ok q = sym a ∙ b in cc

line-same : (p : Parsed) (a : Act) → p ≡ parsed.Act a → told_line p ≡ line.Act a
line-same p a e = ap told_line e

pub act_same : (h : Hearing) (whole front : List ℕ) (told : Told) (a : Act) (new : Seen) (heard : List Heard) → IsHeardLine h whole front told → IsGoodLine h.script front (line.Act a) new
    → heard ≡ (with_heard h a told).heard → IsTaken h whole new heard
act_same h whole front told a new heard is good more =
    let p : good.says ≡ parsed.Act is.act = ok-same h.script front good.says (parsed.Act is.act) good.good is.reads in
    let l : line.Act a ≡ line.Act is.act = good.told ∙ line-same good.says is.act p in
    let same : a ≡ is.act = cc in
    let state : new ≡ running (after h.script (parsed.Act a)) = good.goes ∙ ap (λ (q : Parsed). running (after h.script q)) (p ∙ ap parsed.Act (sym same)) in
    record {
      fresh = ap (λ (n : Seen). n.fault) state;
      says = is.says ∙ ap (λ (b : Act). Ok (with_heard h b told)) (sym same) ∙ rw (state, more) refl;
    }

pub other_line : (h : Hearing) (whole front : List ℕ) (told : Told) (l : Line) (new : Seen) → IsHeardLine h whole front told → IsGoodLine h.script front l new → ((a : Act) → l ≡ line.Act a → ⊥) → ⊥
other_line h whole front told l new is good other =
    let p : good.says ≡ parsed.Act is.act = ok-same h.script front good.says (parsed.Act is.act) good.good is.reads in
    other is.act (good.told ∙ line-same good.says is.act p)

pub no_fault : (h : Hearing) (whole front : List ℕ) (told : Told) (fault : ScriptFault) → IsHeardLine h whole front told → IsFaultOf h.script front fault → IsRefused h whole fault
no_fault h whole front told fault is bad = record {
  bad = λ other. absurd (let e : Ok (parsed.Act is.act) ≡ Err fault.cause = sym is.reads ∙ bad.cause other in cc);
}

-- a line that scripts have too
pub plain_taken : (h : Hearing) (line : List ℕ) (l : Line) (new : Seen) → is_of_act h.script.stage (words_of line) ≡ false → IsGoodLine h.script line l new → IsTaken h line new h.heard
plain_taken h line l new e good = record {
  fresh = ap (λ (n : Seen). n.fault) good.goes;
  says = other_is h line e ∙ ap (as_script h) good.good ∙ rw good.goes refl;
}

pub plain_refused : (h : Hearing) (line : List ℕ) (fault : ScriptFault) → is_of_act h.script.stage (words_of line) ≡ false → IsFaultOf h.script line fault → IsRefused h line fault
plain_refused h line fault e bad = record {
  bad = λ other. (ap (λ (n : ℕ). (let f : ScriptFault = record { line = n; cause = fault.cause } in f)) bad.line, other_is h line e ∙ ap (as_script h) (bad.cause other));
}
