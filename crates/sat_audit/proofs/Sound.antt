-- What is read is a history.
use Rattle.std.proofs.Common.{◌≡◌, ℕ, ◌+◌, ◌≤◌, Bool, true, false, not, cond, ltb, List, [], ◌∷◌, ◌++◌, length, take, drop, Option, Some, None, Result, Ok, Err, subst, sym, ap, ◌∙◌, refl, arith, ◌⊎◌, inl, inr}
use Rattle.std.specs.List.{slice_split}
use Rattle.std.proofs.lemmas.List.{length-append}
use Rattle.sat_label.specs.declared.point.Point.{Point}
use Rattle.sat_act.specs.Deployed.{Deployed}
use Rattle.sat_act.specs.Limits.{IsDeployment}
use Rattle.sat_act.specs.Runs.{is_settle}
use Rattle.sat_act.specs.declared.act.Act.{Act}
use Rattle.sat_act.specs.declared.act.Act.TheVariants as act
use Rattle.sat_script.specs.Causes.{bar, refused}
use Rattle.sat_script.specs.Dialect.{has_form, limits_of}
use Rattle.sat_script.specs.Grammar.{after, body_line, close_at, close_in, is_end, is_ended, line_at, next_stage, of_act, with_parsed, words_line}
use Rattle.sat_script.specs.Kept.{IsFit, HasHeader}
use Rattle.sat_script.specs.State.{State}
use Rattle.sat_script.specs.Table.{act_line, form_of}
use Rattle.sat_script.specs.Words.{is_newline, is_text, words_of}
use Rattle.sat_script.specs.declared.dialect.Dialect.{Dialect}
use Rattle.sat_script.specs.declared.dialect.Dialect.TheVariants as dialect
use Rattle.sat_script.specs.declared.fault.Cause.{Cause}
use Rattle.sat_script.specs.declared.fault.Cause.TheVariants.{AfterEnd, LongLine, NoEnd, NotText, BadAnswer, SamePoint}
use Rattle.sat_script.specs.declared.fault.ScriptFault.{ScriptFault}
use Rattle.sat_script.specs.declared.form.Form.TheVariants as form
use Rattle.sat_script.specs.declared.limits.TheConstants.{LONGEST_LINE, AUDIT_ACTS}
use Rattle.sat_script.specs.declared.line.Parsed.{Parsed}
use Rattle.sat_script.specs.declared.line.Parsed.TheVariants as parsed
use Rattle.sat_script.specs.declared.line.Stage.{Stage}
use Rattle.sat_script.specs.declared.line.Stage.TheVariants as stage
use Rattle.sat_script.proofs.Acts.{acts_spelled, form_stands}
use Rattle.sat_script.proofs.Bars.{free}
use Rattle.sat_script.proofs.Choices.{found, passed, same_ok, skipped}
use Rattle.sat_script.proofs.Fits.{fit_after, fit_start, line_is, stands_after}
use Rattle.sat_script.proofs.Lists.{all_more}
use Rattle.sat_script.proofs.Stands.{Stands}
use Rattle.sat_audit.specs.Histories.{AreHeardOf, AreMadeOnce, IsHeardOf, IsHistory}
use Rattle.sat_audit.specs.Lines.{Hearing, act_words_of, as_script, heard_as, heard_at, heard_line, history_line, is_of_act, makes_again, no_lines, of_told, told_at, was_made, with_heard}
use Rattle.sat_audit.specs.Texts.{after_line, closed, history_from, history_of}
use Rattle.sat_audit.specs.Told.{answered, made_in}
use Rattle.sat_audit.specs.declared.heard.Heard.{Heard}
use Rattle.sat_audit.specs.declared.heard.History.{History}
use Rattle.sat_audit.specs.declared.told.Told.{Told}
use Rattle.sat_audit.proofs.Answering.{in_body, of_act_is, other_is}
use Rattle.sat_audit.proofs.Tells.{answer_tells}

-- before the body nothing is heard
abbrev NoneBefore : Stage → List Heard → Type 0
NoneBefore stage.Body heard = Unit {0}
NoneBefore stage.Ended heard = Unit {0}
NoneBefore _ heard = heard ≡ []

-- what holds of the lines so far
pub record IsSound (h : Hearing) : Type 0 where
  pub audit : h.script.dialect ≡ dialect.Audit
  pub fit : IsFit h.script
  pub counted : length h.heard ≡ h.script.acts
  pub none : NoneBefore h.script.stage h.heard
  pub each : AreHeardOf h.script.header h.heard
  pub once : AreMadeOnce h.heard

-- ---- a line that scripts have too

-- the end says `end`
end-says : (s : State) (line : List ℕ) (p : Parsed) → s.stage ≡ stage.Body → is_end (words_of line) ≡ true → line_at s line ≡ Ok p → p ≡ parsed.End
unfolding line_at words_line body_line
end-says s line p body e h =
    let a = skipped (is_ended s.stage) (cond (ltb LONGEST_LINE (length line)) (Err LongLine) (cond (is_text line) (words_line s.stage s (words_of line)) (Err NotText))) AfterEnd p h in
    let b = skipped (ltb LONGEST_LINE (length line)) (cond (is_text line) (words_line s.stage s (words_of line)) (Err NotText)) LongLine p a.1 in
    let c = passed (is_text line) (words_line s.stage s (words_of line)) NotText p b.1 in
    let here : words_line stage.Body s (words_of line) ≡ Ok p = sym (ap (λ (here : Stage). words_line here s (words_of line)) body) ∙ c.1 in
    let says : cond (is_end (words_of line)) (Ok parsed.End) (of_act (act_line (bar s) s.header (words_of line))) ≡ Ok p = here in
    sym (same_ok parsed.End p (sym (ap (λ (b : Bool). cond b (Ok parsed.End) (of_act (act_line (bar s) s.header (words_of line)))) e) ∙ says))

-- what is so of the entries after it
record Stays (here : Stage) (s : State) (p : Parsed) (heard : List Heard) : Type 0 where
  counted : (after s p).acts ≡ s.acts
  none : NoneBefore (next_stage here p) heard
  each : AreHeardOf (with_parsed s.header p) heard

none-each : (d : Deployed) (heard : List Heard) → heard ≡ [] → AreHeardOf d heard
none-each d heard e = subst (λ (es : List Heard). AreHeardOf d es) (sym e) tt

stays : (here : Stage) (s : State) (p : Parsed) (heard : List Heard) → Stands here s p → (here ≡ stage.Body → p ≡ parsed.End) → NoneBefore here heard → AreHeardOf s.header heard → Stays here s p heard
stays stage.Start s (parsed.Format f) heard st end none each = record { counted = refl; none = none; each = none-each _ heard none }
stays stage.Sites s (parsed.Sites n) heard st end none each = record { counted = refl; none = none; each = none-each _ heard none }
stays stage.Gears s (parsed.Gears n) heard st end none each = record { counted = refl; none = none; each = none-each _ heard none }
stays stage.Header s (parsed.Item item) heard st end none each = record { counted = refl; none = none; each = none-each _ heard none }
stays stage.Header s (parsed.Client line) heard st end none each = record { counted = refl; none = none; each = none-each _ heard none }
stays stage.Header s (parsed.Plan p) heard st end none each = record { counted = refl; none = none; each = none-each _ heard none }
stays stage.Header s parsed.Begin heard st end none each = record { counted = refl; none = tt; each = each }
stays stage.Body s parsed.End heard st end none each = record { counted = refl; none = tt; each = each }
stays stage.Body s (parsed.Act a) heard st end none each = absurd (let e = end refl in cc)
stays _ s _ heard st end none each = absurd st

ends : (s : State) (line : List ℕ) (p : Parsed) → is_of_act s.stage (words_of line) ≡ false → line_at s line ≡ Ok p → s.stage ≡ stage.Body → p ≡ parsed.End
ends s line p e h body =
    let not_act : not (is_end (words_of line)) ≡ false = sym (ap (λ (here : Stage). is_of_act here (words_of line)) body) ∙ e in
    end-says s line p body (go (is_end (words_of line)) not_act) h
  where
    go : (b : Bool) → not b ≡ false → b ≡ true
    go true e = refl
    go false e = absurd (cc)

plain-sound : (h : Hearing) (line : List ℕ) (p : Parsed) → IsSound h → is_of_act h.script.stage (words_of line) ≡ false → line_at h.script line ≡ Ok p
    → IsSound (record { script = after h.script p; heard = h.heard })
plain-sound h line p is e good =
    let st = (line_is h.script line p is.fit good).stands in
    let so = stays h.script.stage h.script p h.heard st (ends h.script line p e good) is.none is.each in
    record { audit = is.audit; fit = fit_after h.script line p is.fit good; counted = is.counted ∙ sym so.counted; none = so.none; each = so.each; once = is.once }

plain_step : (h new : Hearing) (line : List ℕ) → IsSound h → is_of_act h.script.stage (words_of line) ≡ false → (r : Result Parsed Cause) → line_at h.script line ≡ r → as_script h r ≡ Ok new → IsSound new
plain_step h new line is e (Ok p) good says = subst (λ (n : Hearing). IsSound n) (same_ok _ new says) (plain-sound h line p is e good)
plain_step h new line is e (Err cause) good says = absurd (cc)

-- ---- an act and its answer

no-settle : (s : State) (a : Act) → s.dialect ≡ dialect.Audit → bar s (form_of a) ≡ None → is_settle a ≡ false
no-settle s act.Settle audit none =
    let has : has_form s.dialect form.Settle ≡ true = (free s form.Settle none).has in
    absurd (let not_so : has_form s.dialect form.Settle ≡ false = ap (λ (d : Dialect). has_form d form.Settle) audit in cc)
no-settle s _ audit none = refl

-- a point that no entry made, at the end
made-front : (heard front rest : List Heard) (e f : Heard) → heard ++ e ∷ [] ≡ front ++ f ∷ rest → ((heard ≡ front) × (e ≡ f)) ⊎ ((more : List Heard) × (heard ≡ front ++ f ∷ more))
made-front [] [] rest e f same = inl (refl, (cc))
made-front [] (x ∷ front) rest e f same = absurd (no-tail front rest f (let t : [] ≡ front ++ f ∷ rest = cc in t))
  where
    no-tail : (front rest : List Heard) (f : Heard) → [] ≡ front ++ f ∷ rest → ⊥
    no-tail [] rest f e = absurd (cc)
    no-tail (y ∷ front) rest f e = absurd (cc)
made-front (x ∷ heard) [] rest e f same = inr (heard, (let h : x ≡ f = cc in ap (λ (y : Heard). y ∷ heard) h))
made-front (x ∷ heard) (y ∷ front) rest e f same =
    go (made-front heard front rest e f (let t : heard ++ e ∷ [] ≡ front ++ f ∷ rest = cc in t))
  where
    h : x ≡ y
    h = cc

    go : ((heard ≡ front) × (e ≡ f)) ⊎ ((more : List Heard) × (heard ≡ front ++ f ∷ more)) → (((x ∷ heard) ≡ (y ∷ front)) × (e ≡ f)) ⊎ ((more : List Heard) × ((x ∷ heard) ≡ (y ∷ front) ++ f ∷ more))
    go (inl s) = inl (cc, s.1)
    go (inr s) = inr (s.0, (let t : heard ≡ front ++ f ∷ s.0 = s.1 in cc))

not_again : (heard : List Heard) (x : Told) (p : Point) → makes_again heard x ≡ false → made_in x ≡ Some p → was_made heard p ≡ false
not_again heard x p new made = sym (ap (λ (o : Option Point). elim o [ None ↦ false | Some q ↦ was_made heard q ]) made) ∙ new

once-more : (heard : List Heard) (e : Heard) → AreMadeOnce heard → makes_again heard e.told ≡ false → AreMadeOnce (heard ++ e ∷ [])
once-more heard e once new = λ front rest f p same made. go front f p made (made-front heard front rest e f same)
  where
    go : (front : List Heard) (f : Heard) (p : Point) → made_in f.told ≡ Some p → ((heard ≡ front) × (e ≡ f)) ⊎ ((more : List Heard) × (heard ≡ front ++ f ∷ more)) → was_made front p ≡ false
    go front f p made (inl s) = ap (λ (es : List Heard). was_made es p) (sym s.0) ∙ not_again heard e.told p new (ap (λ (g : Heard). made_in g.told) s.1 ∙ made)
    go front f p made (inr s) = once front s.0 f p s.1 made

header-whole : (s : State) → IsFit s → s.stage ≡ stage.Body → IsDeployment s.header
header-whole s fit body = (subst (λ (here : Stage). HasHeader here s.header) body fit.header).deployment

act-sound : (h : Hearing) (words rest : List (List ℕ)) (a : Act) (x : Told) → IsSound h → h.script.stage ≡ stage.Body → act_line (bar h.script) h.script.header words ≡ Ok a
    → answered h.script.header a rest ≡ Some x → makes_again h.heard x ≡ false → IsSound (with_heard h a x)
act-sound h words rest a x is body says told new =
    let s = acts_spelled (bar h.script) h.script.header words a (header-whole h.script is.fit body) says in
    let st = form_stands h.script a s.1 s.2 in
    let stands : Stands h.script.stage h.script (parsed.Act a) = subst (λ (here : Stage). Stands here h.script (parsed.Act a)) (sym body) st in
    let e : Heard = record { act = a; told = x } in
    record {
      audit = is.audit;
      fit = stands_after h.script (parsed.Act a) is.fit stands;
      counted = length-append h.heard (e ∷ []) ∙ ap (λ (n : ℕ). n + 1) is.counted;
      none = subst (λ (here : Stage). NoneBefore here (h.heard ++ e ∷ [])) (sym body) tt;
      each = all_more (λ (e : Heard). IsHeardOf h.script.header e) h.heard e is.each
          (record { act = s.1; no_settle = no-settle h.script a is.audit s.2; told = answer_tells h.script.header a rest x told });
      once = once-more h.heard e is.once new;
    }

new_or_not : (x y : Told) (b : Bool) → (let r : Result Told Cause = refused SamePoint b (Ok x) in r) ≡ Ok y → (b ≡ false) × (x ≡ y)
new_or_not x y true e = absurd (cc)
new_or_not x y false e = (refl, cc)

told-parts : (h : Hearing) (a : Act) (rest : List (List ℕ)) (x : Told) → told_at h a rest ≡ Ok x → (answered h.script.header a rest ≡ Some x) × (makes_again h.heard x ≡ false)
unfolding told_at
told-parts h a rest x e =
    let f = found (answered h.script.header a rest) BadAnswer (λ y. refused SamePoint (makes_again h.heard y) (Ok y)) x e in
    let n = new_or_not f.0 x (makes_again h.heard f.0) f.2 in
    (f.1 ∙ ap (λ (y : Told). Some y) n.1, ap (makes_again h.heard) (sym n.1) ∙ n.0)

answer_step : (h new : Hearing) (words rest : List (List ℕ)) (a : Act) → IsSound h → h.script.stage ≡ stage.Body → act_line (bar h.script) h.script.header words ≡ Ok a
    → (r : Result Told Cause) → told_at h a rest ≡ r → of_told h a r ≡ Ok new → IsSound new
answer_step h new words rest a is body says (Err cause) told e = absurd (cc)
answer_step h new words rest a is body says (Ok x) told e =
    let p = told-parts h a rest x told in
    subst (λ (n : Hearing). IsSound n) (same_ok (with_heard h a x) new e) (act-sound h words rest a x is body says p.0 p.1)

act_step : (h new : Hearing) (words rest : List (List ℕ)) → IsSound h → h.script.stage ≡ stage.Body → (r : Result Act Cause) → act_line (bar h.script) h.script.header words ≡ r → heard_as h r rest ≡ Ok new → IsSound new
act_step h new words rest is body (Err cause) says e = absurd (cc)
act_step h new words rest is body (Ok a) says e = answer_step h new words rest a is body says (told_at h a rest) refl e

-- ---- a line

pub line_sound : (h new : Hearing) (line : List ℕ) → IsSound h → history_line h line ≡ Ok new → IsSound new
unfolding heard_line heard_at
line_sound h new line is says = go (is_of_act h.script.stage (words_of line)) refl
  where
    go : (b : Bool) → is_of_act h.script.stage (words_of line) ≡ b → IsSound new
    go true e =
        let n : ℕ = act_words_of h.script.header.format (words_of line) in
        let a = skipped (ltb LONGEST_LINE (length line)) (cond (is_text line) (heard_line h (words_of line)) (Err NotText)) LongLine new (sym (of_act_is h line e) ∙ says) in
        let b = passed (is_text line) (heard_line h (words_of line)) NotText new a.1 in
        act_step h new (take n (words_of line)) (drop n (words_of line)) is (in_body h.script.stage (words_of line) e) (act_line (bar h.script) h.script.header (take n (words_of line))) refl b.1
    go false e = plain_step h new line is e (line_at h.script line) refl (sym (other_is h line e) ∙ says)

-- ---- a text

pub start_sound : IsSound no_lines
start_sound = record { audit = refl; fit = fit_start dialect.Audit; counted = refl; none = refl; each = tt; once = λ front rest e p same made. absurd (no-tail front rest e same) }
  where
    no-tail : (front rest : List Heard) (f : Heard) → [] ≡ front ++ f ∷ rest → ⊥
    no-tail [] rest f e = absurd (cc)
    no-tail (y ∷ front) rest f e = absurd (cc)

no-none : (b : Bool) (x y : Cause) → cond b (Some x) (Some y) ≡ None → ⊥
no-none true x y e = absurd (cc)
no-none false x y e = absurd (cc)

pub ended_at : (here : Stage) (rest : List ℕ) → close_in here rest ≡ None → here ≡ stage.Ended
unfolding close_in
ended_at stage.Ended rest e = refl
ended_at stage.Start rest e = absurd (no-none (ltb LONGEST_LINE (length rest)) LongLine NoEnd e)
ended_at stage.Sites rest e = absurd (no-none (ltb LONGEST_LINE (length rest)) LongLine NoEnd e)
ended_at stage.Gears rest e = absurd (no-none (ltb LONGEST_LINE (length rest)) LongLine NoEnd e)
ended_at stage.Header rest e = absurd (no-none (ltb LONGEST_LINE (length rest)) LongLine NoEnd e)
ended_at stage.Body rest e = absurd (no-none (ltb LONGEST_LINE (length rest)) LongLine NoEnd e)

few_of : (h : Hearing) → IsSound h → length h.heard ≤ AUDIT_ACTS
few_of h is =
    let few : h.script.acts ≤ (limits_of dialect.Audit h.script.header.format).acts = subst (λ (d : Dialect). h.script.acts ≤ (limits_of d h.script.header.format).acts) is.audit is.fit.acts in
    omega (arith, is.counted, few)

same_history : (x y : History) → (let r : Result History ScriptFault = Ok x in r) ≡ Ok y → x ≡ y
same_history x y e = cc

pub closed_sound : (h : Hearing) (rest : List ℕ) (o : Option Cause) (history : History) → IsSound h → close_at h.script rest ≡ o → closed h o ≡ Ok history → IsHistory history
closed_sound h rest (Some cause) history is at e = absurd (cc)
closed_sound h rest None history is at e =
    let ended = ended_at h.script.stage rest at in
    subst (λ (y : History). IsHistory y) (same_history _ history e)
    (record {
      deployment = (subst (λ (here : Stage). HasHeader here h.script.header) ended is.fit.header).deployment;
      each = is.each;
      few = few_of h is;
      once = is.once;
    })

pub parts_sound : (h : Hearing) (parts : List (List ℕ)) (history : History) → IsSound h → history_from h parts ≡ Ok history → IsHistory history
unfolding history_from
parts_sound h [] history is e = closed_sound h [] (close_at h.script []) history is refl e
parts_sound h (rest ∷ []) history is e = closed_sound h rest (close_at h.script rest) history is refl e
parts_sound h (line ∷ part ∷ parts) history is e = go (history_line h line) refl (λ later so f. parts_sound later (part ∷ parts) history so f) e
  where
    go : (r : Result Hearing Cause) → history_line h line ≡ r → ((later : Hearing) → IsSound later → history_from later (part ∷ parts) ≡ Ok history → IsHistory history)
        → after_line h (λ later. history_from later (part ∷ parts)) r ≡ Ok history → IsHistory history
    go (Ok later) l rest e = rest later (line_sound h later line is l) e
    go (Err cause) l rest e = absurd (cc)

pub text_sound : (text : List ℕ) (history : History) → history_of text ≡ Ok history → IsHistory history
unfolding history_of
text_sound text history e = parts_sound no_lines (slice_split is_newline text) history start_sound e
