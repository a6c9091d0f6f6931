-- What is made of a text with chains line by line is what is made of the whole.
use Rattle.std.proofs.Common.{◌≡◌, ℕ, ◌+◌, Bool, true, false, cond, List, [], ◌∷◌, ◌++◌, Option, Some, None, Result, Ok, Err, sym, ap, ◌∙◌, refl}
use Rattle.std.specs.List.{slice_split}
use Rattle.std.proofs.lemmas.List.{append-nil, append_assoc, reverse-append}
use Rattle.sat_act.specs.Deployed.{Deployed}
use Rattle.sat_chain_laws.specs.Chains.{ChainEntry}
use Rattle.sat_chain_laws.specs.declared.chain_act.ChainAct.{ChainAct}
use Rattle.sat_chain_laws.specs.declared.chain_act.ChainAct.TheVariants as chain
use Rattle.sat_chain_script.specs.ChainLines.{chain_line, chain_after}
use Rattle.sat_chain_script.specs.Histories.{chain_entry, chain_run, chain_history}
use Rattle.sat_chain_script.specs.Readings.{ChainReading, nothing, with_plain, with_chain_line, with_chain_act, chain_bad, chain_closed, after_chain_line, chain_script_from, chain_reading}
use Rattle.sat_chain_script.specs.declared.line.ChainParsed.{ChainParsed}
use Rattle.sat_chain_script.specs.declared.line.ChainParsed.TheVariants as says
use Rattle.sat_chain_script.proofs.Sound.{IsSoundAt, IsChainLine, sound_after, sound_start, chain_line_is}
use Rattle.sat_chain_rules.specs.Texts.{ChainTexts, chain_answers, told_under, end_under, chain_told, chain_text, chain_status, may_go_on, good_from, chain_good, chain_meaning}
use Rattle.sat_chain_rules.specs.Steps.{ChainState, plain_act, act_in, entries_with, told_with, state_after, outcome, closing, chain_rules}
use Rattle.sat_follow.specs.Meaning.{Meaning}
use Rattle.sat_follow.specs.Rules.{Made, behind, at_end, after_line, made_from, made, meaning_of}
use Rattle.sat_script.specs.Grammar.{close_at, close_in, next_stage, with_parsed, told_line}
use Rattle.sat_script.specs.State.{State, start, fault_at}
use Rattle.sat_script.specs.Words.{is_newline}
use Rattle.sat_script.specs.declared.dialect.Dialect.TheVariants as dialect
use Rattle.sat_script.specs.declared.fault.Cause.{Cause}
use Rattle.sat_script.specs.declared.fault.Cause.TheVariants.{LongLine, NoEnd}
use Rattle.sat_script.specs.declared.fault.ScriptFault.{ScriptFault}
use Rattle.sat_script.specs.declared.line.Parsed.{Parsed}
use Rattle.sat_script.specs.declared.line.Parsed.TheVariants as parsed
use Rattle.sat_script.specs.declared.line.Stage.{Stage}
use Rattle.sat_script.specs.declared.line.Stage.TheVariants as stage
use Rattle.sat_script.proofs.Stands.{Stands}

-- ---- a state and a reading that go together

-- the history of the acts that were read
abbrev TiedAt : ℕ → Stage → Deployed → List ChainEntry → ChainReading → Type 0
TiedAt r stage.Body d c x = (x.deployment ≡ Some d) × (c ≡ chain_history d r x.acts)
TiedAt r stage.Ended d c x = (x.deployment ≡ Some d) × (c ≡ chain_history d r x.acts)
TiedAt r _ d c x = (x.deployment ≡ None) × (x.acts ≡ []) × (c ≡ [])

pub record IsTied (r : ℕ) (s : ChainState) (x : ChainReading) : Type 0 where
  pub tied : TiedAt r s.script.stage s.script.header s.entries x
  pub sound : IsSoundAt r s.script x

history_more : (d : Deployed) (r : ℕ) (acts : List ChainAct) (a : ChainAct) → chain_history d r (acts ++ a ∷ []) ≡ chain_entry d r (chain_history d r acts) a ∷ chain_history d r acts
unfolding chain_history chain_run
history_more d r acts a = ap (chain_run d r) (reverse-append acts (a ∷ []))

history_none : (d : Deployed) (r : ℕ) → chain_history d r [] ≡ []
unfolding chain_history chain_run
history_none d r = refl

-- one act more
entry_more : (d : Deployed) (r : ℕ) (c : List ChainEntry) (acts : List ChainAct) (a : ChainAct) → c ≡ chain_history d r acts → chain_entry d r c a ∷ c ≡ chain_history d r (acts ++ a ∷ [])
entry_more d r c acts a is = ap (λ (h : List ChainEntry). chain_entry d r h a ∷ h) is ∙ sym (history_more d r acts a)

tied_plain : (here : Stage) (r : ℕ) (s : State) (c : List ChainEntry) (p : Parsed) (x : ChainReading) → Stands here s p → TiedAt r here s.header c x
    → TiedAt r (next_stage here p) (with_parsed s.header p) (entries_with s.header r c (plain_act (told_line p))) (with_plain s.header x (told_line p))
tied_plain stage.Start r s c (parsed.Format f) x h tied = tied
tied_plain stage.Sites r s c (parsed.Sites k) x h tied = tied
tied_plain stage.Gears r s c (parsed.Gears k) x h tied = tied
tied_plain stage.Header r s c (parsed.Item item) x h tied = tied
tied_plain stage.Header r s c (parsed.Client line) x h tied = tied
tied_plain stage.Header r s c (parsed.Plan p) x h tied = tied
tied_plain stage.Header r s c parsed.Begin x h tied = (refl, tied.2 ∙ sym (history_none s.header r) ∙ ap (chain_history s.header r) (sym tied.1))
tied_plain stage.Body r s c (parsed.Act a) x h tied = (tied.0, entry_more s.header r c x.acts (chain.Plain a) tied.1)
tied_plain stage.Body r s c parsed.End x h tied = tied
tied_plain _ r s c _ x h tied = absurd h

tied_step : (here : Stage) (r : ℕ) (d : Deployed) (c : List ChainEntry) (a : ChainAct) (x : ChainReading) → here ≡ stage.Body → TiedAt r here d c x → TiedAt r here d (chain_entry d r c a ∷ c) (with_chain_act x a)
tied_step stage.Body r d c a x body tied = (tied.0, entry_more d r c x.acts a tied.1)
tied_step stage.Start r d c a x body tied = absurd (cc)
tied_step stage.Sites r d c a x body tied = absurd (cc)
tied_step stage.Gears r d c a x body tied = absurd (cc)
tied_step stage.Header r d c a x body tied = absurd (cc)
tied_step stage.Ended r d c a x body tied = absurd (cc)

tied_after : (r : ℕ) (s : ChainState) (x : ChainReading) (p : ChainParsed) → IsTied r s x → IsChainLine r s.script p → IsTied r (state_after r s p) (with_chain_line s.script.header x p)
tied_after r s x (says.Plain p) had is = record { tied = tied_plain s.script.stage r s.script s.entries p x is had.tied; sound = sound_after r s.script x (says.Plain p) had.sound is }
tied_after r s x (says.Step a) had is = record { tied = tied_step s.script.stage r s.script.header s.entries a x is.0 had.tied; sound = sound_after r s.script x (says.Step a) had.sound is }

-- ---- what was told so far

answers_none : (t : ChainTexts) (d : Deployed) → chain_answers t d [] ≡ []
unfolding chain_answers
answers_none t d = refl

told_plain : (here : Stage) (t : ChainTexts) (r : ℕ) (s : State) (c : List ChainEntry) (p : Parsed) (x : ChainReading) → Stands here s p → TiedAt r here s.header c x
    → chain_answers t (with_parsed s.header p) (entries_with s.header r c (plain_act (told_line p))) ≡ chain_answers t s.header c ++ told_with t s.header r c (plain_act (told_line p))
unfolding chain_answers
told_plain stage.Start t r s c (parsed.Format f) x h tied = rw tied.2 refl
told_plain stage.Sites t r s c (parsed.Sites k) x h tied = rw tied.2 refl
told_plain stage.Gears t r s c (parsed.Gears k) x h tied = rw tied.2 refl
told_plain stage.Header t r s c (parsed.Item item) x h tied = rw tied.2 refl
told_plain stage.Header t r s c (parsed.Client line) x h tied = rw tied.2 refl
told_plain stage.Header t r s c (parsed.Plan p) x h tied = rw tied.2 refl
told_plain stage.Header t r s c parsed.Begin x h tied = sym (append-nil (chain_answers t s.header c))
told_plain stage.Body t r s c (parsed.Act a) x h tied = refl
told_plain stage.Body t r s c parsed.End x h tied = sym (append-nil (chain_answers t s.header c))
told_plain _ t r s c _ x h tied = absurd h

abbrev told_so : ChainTexts → ChainState → List ℕ
told_so t s = chain_answers t s.script.header s.entries

told_after : (t : ChainTexts) (r : ℕ) (s : ChainState) (x : ChainReading) (p : ChainParsed) → IsTied r s x → IsChainLine r s.script p → told_so t (state_after r s p) ≡ told_so t s ++ told_with t s.script.header r s.entries (act_in p)
unfolding chain_answers
told_after t r s x (says.Plain p) had is = told_plain s.script.stage t r s.script s.entries p x is had.tied
told_after t r s x (says.Step a) had is = refl

told_is : (here : Stage) (t : ChainTexts) (r : ℕ) (d : Deployed) (c : List ChainEntry) (x : ChainReading) → TiedAt r here d c x → chain_answers t d c ≡ told_under t r x.deployment x.acts
told_is stage.Body t r d c x tied = ap (chain_answers t d) tied.1 ∙ ap (λ (o : Option Deployed). told_under t r o x.acts) (sym tied.0)
told_is stage.Ended t r d c x tied = ap (chain_answers t d) tied.1 ∙ ap (λ (o : Option Deployed). told_under t r o x.acts) (sym tied.0)
told_is _ t r d c x tied = ap (chain_answers t d) tied.2 ∙ answers_none t d ∙ ap (λ (o : Option Deployed). told_under t r o x.acts) (sym tied.0)

-- ---- what is made

-- of a reading, and of whether no line is bad
abbrev made_of : ChainTexts → ℕ → Bool → ChainReading → Made
made_of t r good x = record { good = good; answers = chain_told t r x; output = chain_text t r x; status = chain_status x.fault }

made_parts : (good : Bool) (a b o p : List ℕ) (status : ℕ) → a ≡ b → o ≡ p → (let m : Made = record { good = good; answers = a; output = o; status = status } in m) ≡ record { good = good; answers = b; output = p; status = status }
made_parts good a b o p status e f =
    ap (λ (answers : List ℕ). (let m : Made = record { good = good; answers = answers; output = o; status = status } in m)) e
    ∙ ap (λ (output : List ℕ). (let m : Made = record { good = good; answers = b; output = output; status = status } in m)) f

-- a bad line, or an end that is none
bad_made : (t : ChainTexts) (r : ℕ) (s : ChainState) (x : ChainReading) (cause : Cause) (good : Bool) → IsTied r s x
    → behind (told_so t s) (record { good = good; answers = []; output = t.fault (fault_at s.script cause); status = 1 }) ≡ made_of t r good (chain_bad s.script x cause)
unfolding chain_told chain_text
bad_made t r s x cause good had =
    let told = told_is s.script.stage t r s.script.header s.entries x had.tied in
    made_parts good (told_so t s ++ []) (told_under t r x.deployment x.acts) (told_so t s ++ t.fault (fault_at s.script cause)) (told_under t r x.deployment x.acts ++ t.fault (fault_at s.script cause)) 1
    (append-nil (told_so t s) ∙ told) (ap (λ (bytes : List ℕ). bytes ++ t.fault (fault_at s.script cause)) told)

never_none : (b : Bool) (x y : Cause) → cond b (Some x) (Some y) ≡ None → ⊥
never_none true x y h = cc
never_none false x y h = cc

-- the end of a whole script
end_is : (here : Stage) (t : ChainTexts) (r : ℕ) (d : Deployed) (c : List ChainEntry) (x : ChainReading) (rest : List ℕ) → close_in here rest ≡ None → TiedAt r here d c x → t.holdings d c ≡ end_under t r x.deployment x.acts None
unfolding close_in
end_is stage.Ended t r d c x rest e tied = ap (t.holdings d) tied.1 ∙ ap (λ (o : Option Deployed). end_under t r o x.acts None) (sym tied.0)
end_is _ t r d c x rest e tied = absurd (never_none _ LongLine NoEnd e)

closed_made : (t : ChainTexts) (r : ℕ) (s : ChainState) (x : ChainReading) (rest : List ℕ) (o : Option Cause) → IsTied r s x → close_at s.script rest ≡ o → behind (told_so t s) (at_end (closing t s o)) ≡ made_of t r (may_go_on o) (chain_closed s.script x o)
unfolding chain_told chain_text
closed_made t r s x rest (Some cause) had e = bad_made t r s x cause (may_go_on (Some cause)) had
closed_made t r s x rest None had e =
    let told = told_is s.script.stage t r s.script.header s.entries x had.tied in
    let ends = end_is s.script.stage t r s.script.header s.entries x rest e had.tied in
    made_parts true (told_so t s ++ []) (told_under t r x.deployment x.acts) (told_so t s ++ t.holdings s.script.header s.entries) (told_under t r x.deployment x.acts ++ end_under t r x.deployment x.acts x.fault) 0
    (append-nil (told_so t s) ∙ told)
    (ap (λ (bytes : List ℕ). bytes ++ t.holdings s.script.header s.entries) told ∙ ap (λ (bytes : List ℕ). told_under t r x.deployment x.acts ++ bytes) (ends ∙ ap (λ (f : Option ScriptFault). end_under t r x.deployment x.acts f) (sym had.sound.fresh)))
    ∙ ap (λ (f : Option ScriptFault). (let m : Made = record { good = true; answers = told_under t r x.deployment x.acts; output = told_under t r x.deployment x.acts ++ end_under t r x.deployment x.acts x.fault; status = chain_status f } in m)) (sym had.sound.fresh)

behind_twice : (a b : List ℕ) (m : Made) → behind a (behind b m) ≡ behind (a ++ b) m
behind_twice a b m = made_parts m.good (a ++ (b ++ m.answers)) ((a ++ b) ++ m.answers) (a ++ (b ++ m.output)) ((a ++ b) ++ m.output) m.status (sym (append_assoc a b m.answers)) (sym (append_assoc a b m.output))

abbrev good_after : ℕ → State → List (List ℕ) → Result ChainParsed Cause → Bool
good_after r s parts (Err cause) = false
good_after r s parts (Ok p) = good_from r (chain_after s p) parts

line_made : (t : ChainTexts) (r : ℕ) (s : ChainState) (x : ChainReading) (line : List ℕ) (parts : List (List ℕ)) (said : Result ChainParsed Cause) → IsTied r s x → chain_line r s.script line ≡ said
    → ((later : ChainState) (more : ChainReading) → IsTied r later more → behind (told_so t later) (made_from (chain_rules t r) later parts) ≡ made_of t r (good_from r later.script parts) (chain_script_from r later.script more parts))
    → behind (told_so t s) (after_line (λ later. made_from (chain_rules t r) later parts) (outcome t r s said)) ≡ made_of t r (good_after r s.script parts said) (after_chain_line s.script x (λ later more. chain_script_from r later more parts) said)
line_made t r s x line parts (Err cause) had e next = bad_made t r s x cause false had
line_made t r s x line parts (Ok p) had e next =
    let is = chain_line_is r s.script line p had.sound.fit e in
    let later = state_after r s p in
    behind_twice (told_so t s) (told_with t s.script.header r s.entries (act_in p)) (made_from (chain_rules t r) later parts)
    ∙ ap (λ (told : List ℕ). behind told (made_from (chain_rules t r) later parts)) (sym (told_after t r s x p had is))
    ∙ next later (with_chain_line s.script.header x p) (tied_after r s x p had is)

pub text_from : (t : ChainTexts) (r : ℕ) (s : ChainState) (x : ChainReading) (parts : List (List ℕ)) → IsTied r s x → behind (told_so t s) (made_from (chain_rules t r) s parts) ≡ made_of t r (good_from r s.script parts) (chain_script_from r s.script x parts)
unfolding made_from good_from chain_script_from
text_from t r s x [] had = closed_made t r s x [] (close_at s.script []) had refl
text_from t r s x (rest ∷ []) had = closed_made t r s x rest (close_at s.script rest) had refl
text_from t r s x (line ∷ part ∷ parts) had = line_made t r s x line (part ∷ parts) (chain_line r s.script line) had refl (λ later more now. text_from t r later more (part ∷ parts) now)

tied_start : (r : ℕ) → IsTied r (record { script = start dialect.Chain; entries = [] }) nothing
tied_start r = record { tied = (refl, refl, refl); sound = sound_start r }

behind_none : (told : List ℕ) (m : Made) → told ≡ [] → behind told m ≡ m
behind_none told m none = ap (λ (front : List ℕ). behind front m) none

pub text_is : (t : ChainTexts) (r : ℕ) (text : List ℕ) → made (chain_rules t r) text ≡ made_of t r (chain_good r text) (chain_reading r text)
unfolding made chain_good chain_reading
text_is t r text =
    sym (behind_none (told_so t (record { script = start dialect.Chain; entries = [] })) (made_from (chain_rules t r) (record { script = start dialect.Chain; entries = [] }) (slice_split is_newline text)) (answers_none t (start dialect.Chain).header))
    ∙ text_from t r (record { script = start dialect.Chain; entries = [] }) nothing (slice_split is_newline text) (tied_start r)

-- a meaning is known by what it makes of each text
meaning_by : (f : List ℕ → Made) → Meaning
meaning_by f = record { good = λ text. (f text).good; answers = λ text. (f text).answers; output = λ text. (f text).output; status = λ text. (f text).status; most = 840704400 + 4096 }

pub lines_make : (t : ChainTexts) (r : ℕ) → meaning_of (chain_rules t r) ≡ chain_meaning t r
unfolding meaning_by
lines_make t r = ap meaning_by (λ i text. text_is t r text i)
