-- The reader's state and what a line makes of it.
use Rattle.std.proofs.Common.{◌≡◌, ◌⊎◌, inl, inr, ℕ, ◌+◌, ◌<◌, ◌≤◌, true, false, ltb, List, Option, Some, None, Result, Ok, Err, IsSome, is_some, refl, ap, subst, ◌∙◌, arith}
use Rattle.std.proofs.lemmas.Bool.Decides.{nat_tests}
use Rattle.sat_act.specs.declared.act.Act.{Act}
use Rattle.sat_act.specs.declared.act.Act.TheVariants as act
use Rattle.sat_act.specs.Deployed.{Deployed}
use Rattle.sat_chain_laws.specs.Ranges.{IsChainActOf}
use Rattle.sat_chain_laws.specs.declared.chain_act.ChainAct.{ChainAct}
use Rattle.sat_chain_laws.specs.declared.chain_act.ChainAct.TheVariants as chain
use Rattle.sat_chain_rules.specs.Steps.{act_in}
use Rattle.sat_chain_script.specs.ChainLines.{chain_after}
use Rattle.sat_chain_script.specs.declared.line.ChainParsed.{ChainParsed}
use Rattle.sat_chain_script.specs.declared.line.ChainParsed.TheVariants as says
use Rattle.sat_chain_script.proofs.Sound.{IsChainLine, allowed}
use Rattle.sat_script.specs.Causes.{full}
use Rattle.sat_script.specs.Dialect.{has_form, is_chained}
use Rattle.sat_script.specs.Grammar.{line_at, after, next_stage, with_parsed, with_act, with_settle, is_ended}
use Rattle.sat_script.specs.Lines.{Takes}
use Rattle.sat_script.specs.State.{State, Seen, limits_at, deployed_at, deployment_of, with_one_act}
use Rattle.sat_script.specs.Table.{form_of}
use Rattle.sat_script.specs.declared.dialect.Dialect.{Dialect}
use Rattle.sat_script.specs.declared.dialect.Dialect.TheVariants as dialect
use Rattle.sat_script.specs.declared.fault.ScriptFault.{ScriptFault}
use Rattle.sat_script.specs.declared.line.Line.{Line}
use Rattle.sat_script.specs.declared.line.Parsed.{Parsed}
use Rattle.sat_script.specs.declared.line.Parsed.TheVariants as parsed
use Rattle.sat_script.specs.declared.line.Stage.{Stage}
use Rattle.sat_script.specs.declared.line.Stage.TheVariants as stage
use Rattle.sat_script.proofs.Acts.{act_room}
use Rattle.sat_script.proofs.Stands.{Stands, ActStands}

-- ---- the stage

pub not_ended : (here : Stage) → (here ≡ stage.Ended → ⊥) → is_ended here ≡ false
not_ended stage.Start h = refl
not_ended stage.Sites h = refl
not_ended stage.Gears h = refl
not_ended stage.Header h = refl
not_ended stage.Body h = refl
not_ended stage.Ended h = absurd (h refl)

pub begun_at : (s : State) (here : Stage) → s.stage ≡ here → is_some (deployed_at here s.header) ≡ true → IsSome (deployment_of s)
begun_at s here is some = ap (λ (there : Stage). is_some (deployed_at there s.header)) is ∙ some

-- the deployment is the header
pub deployed_is : (here : Stage) (d e : Deployed) → deployed_at here d ≡ Some e → d ≡ e
deployed_is stage.Body d e h = let s : d ≡ e = cc in s
deployed_is stage.Ended d e h = let s : d ≡ e = cc in s
deployed_is stage.Start d e h = absurd (cc)
deployed_is stage.Sites d e h = absurd (cc)
deployed_is stage.Gears d e h = absurd (cc)
deployed_is stage.Header d e h = absurd (cc)

-- no line changes it once it stands
pub deployed_after : (here : Stage) (d e : Deployed) (s : State) (p : Parsed) → Stands here s p → deployed_at here d ≡ Some e → deployed_at (next_stage here p) (with_parsed d p) ≡ Some e
deployed_after stage.Body d e s (parsed.Act a) h is = is
deployed_after stage.Body d e s parsed.End h is = is
deployed_after stage.Body d e s (parsed.Format f) h is = absurd h
deployed_after stage.Body d e s (parsed.Sites k) h is = absurd h
deployed_after stage.Body d e s (parsed.Gears k) h is = absurd h
deployed_after stage.Body d e s (parsed.Item item) h is = absurd h
deployed_after stage.Body d e s (parsed.Client line) h is = absurd h
deployed_after stage.Body d e s (parsed.Plan p) h is = absurd h
deployed_after stage.Body d e s parsed.Begin h is = absurd h
deployed_after stage.Ended d e s p h is = absurd h
deployed_after stage.Start d e s p h is = absurd (cc)
deployed_after stage.Sites d e s p h is = absurd (cc)
deployed_after stage.Gears d e s p h is = absurd (cc)
deployed_after stage.Header d e s p h is = absurd (cc)

-- ---- a line that says an act

acts_stand : (here : Stage) (s : State) (a : Act) → Stands here s (parsed.Act a) → (here ≡ stage.Body) × ActStands s a
acts_stand stage.Body s a h = (refl, h)
acts_stand stage.Start s a h = absurd h
acts_stand stage.Sites s a h = absurd h
acts_stand stage.Gears s a h = absurd h
acts_stand stage.Header s a h = absurd h
acts_stand stage.Ended s a h = absurd h

same_settles : (n : ℕ) (a : Act) → is_chained (form_of a) ≡ true → with_settle n (parsed.Act a) ≡ n
same_settles n act.Settle h = absurd (cc)
same_settles n _ h = refl

room_full : (s : State) → s.acts < (limits_at s).acts → full s ≡ None
unfolding full
room_full s less = let test : ltb s.acts (limits_at s).acts ≡ true = grind (arith, nat_tests, less) in rw test refl

-- a line that says an act stands behind `begin`, where there is room for one, and is counted
pub record IsActLine (r : ℕ) (s : State) (p : ChainParsed) (a : ChainAct) : Type 0 where
  pub body : s.stage ≡ stage.Body
  pub room : full s ≡ None
  pub fits : IsChainActOf s.header r a
  pub counted : chain_after s p ≡ with_one_act s

plain_line : (r : ℕ) (s : State) (b : Act) → s.dialect ≡ dialect.Chain → Stands s.stage s (parsed.Act b) → IsActLine r s (says.Plain (parsed.Act b)) (chain.Plain b)
plain_line r s b is h =
    let st = acts_stand s.stage s b h in
    let has : is_chained (form_of b) ≡ true = subst (λ (dialect : Dialect). has_form dialect (form_of b) ≡ true) is st.1.has in
    record {
      body = st.0;
      room = room_full s (act_room s b st.1.room);
      fits = (st.1.fits, allowed b has);
      counted = ap (λ (n : ℕ). record { dialect = s.dialect; stage = s.stage; header = s.header; acts = s.acts + 1; settles = n }) (same_settles s.settles b has);
    }

of_plain : (r : ℕ) (s : State) (q : Parsed) (a : ChainAct) → s.dialect ≡ dialect.Chain → Stands s.stage s q → act_in (says.Plain q) ≡ Some a → IsActLine r s (says.Plain q) a
of_plain r s (parsed.Act b) a is h e = subst (λ (x : ChainAct). IsActLine r s (says.Plain (parsed.Act b)) x) (let same : chain.Plain b ≡ a = cc in same) (plain_line r s b is h)
of_plain r s (parsed.Format f) a is h e = absurd (cc)
of_plain r s (parsed.Sites k) a is h e = absurd (cc)
of_plain r s (parsed.Gears k) a is h e = absurd (cc)
of_plain r s (parsed.Item item) a is h e = absurd (cc)
of_plain r s (parsed.Client line) a is h e = absurd (cc)
of_plain r s (parsed.Plan p) a is h e = absurd (cc)
of_plain r s parsed.Begin a is h e = absurd (cc)
of_plain r s parsed.End a is h e = absurd (cc)

pub act_line_is : (r : ℕ) (s : State) (p : ChainParsed) (a : ChainAct) → s.dialect ≡ dialect.Chain → IsChainLine r s p → act_in p ≡ Some a → IsActLine r s p a
act_line_is r s (says.Step b) a is h e = subst (λ (x : ChainAct). IsActLine r s (says.Step b) x) (let same : b ≡ a = cc in same) (record { body = h.0; room = h.1; fits = h.2; counted = refl })
act_line_is r s (says.Plain q) a is h e = of_plain r s q a is h e

-- ---- a line that says none

pub acts_grow : (n : ℕ) (p : Parsed) → n ≤ with_act n p
acts_grow n (parsed.Act a) = omega arith
acts_grow n (parsed.Format f) = omega arith
acts_grow n (parsed.Sites k) = omega arith
acts_grow n (parsed.Gears k) = omega arith
acts_grow n (parsed.Item item) = omega arith
acts_grow n (parsed.Client line) = omega arith
acts_grow n (parsed.Plan p) = omega arith
acts_grow n parsed.Begin = omega arith
acts_grow n parsed.End = omega arith

-- the reader took a line, or stays where it was
pub reader_moves : (o : Option ScriptFault) (s : State) (new : Seen) (result : Result Line ScriptFault) (line : List ℕ) → Takes o s new result line
    → (new.state ≡ s) ⊎ ((p : Parsed) × (line_at s line ≡ Ok p) × (new.state ≡ after s p))
reader_moves None s new (Ok l) line h = inr (h.says, h.good, ap (λ (x : Seen). x.state) h.goes)
reader_moves None s new (Err f) line h = inl (ap (λ (x : Seen). x.state) h.1)
reader_moves (Some f) s new result line h = inl (ap (λ (x : Seen). x.state) h.1)
