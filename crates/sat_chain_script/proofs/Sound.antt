-- What is read of any text with chains is a deployment and acts of it, and the history of these is good.
use Rattle.std.proofs.Common.{◌≡◌, ℕ, ◌+◌, ◌<◌, ◌≤◌, Bool, true, false, cond, ltb, List, [], ◌∷◌, ◌++◌, length, Option, Some, None, Result, Ok, Err, sym, ap, subst, ◌∙◌, refl, arith}
use Rattle.std.specs.Prelude.{reverse, IfSome, IsSome}
use Rattle.std.specs.List.{AllByRecursion, slice_split}
use Rattle.std.proofs.lemmas.Bool.{and_parts}
use Rattle.std.proofs.lemmas.Bool.Decides.{nat_tests}
use Rattle.std.proofs.lemmas.List.{reverse-append}
use Rattle.sat_label.specs.declared.node.NodeId.{NodeId}
use Rattle.sat_label.specs.declared.node.NodeId.TheVariants.{Serializer}
use Rattle.sat_tree.specs.Shape.{TreeShape}
use Rattle.sat_tree.specs.Cut.{is_edge, IsNode}
use Rattle.sat_act.specs.declared.act.Act.{Act}
use Rattle.sat_act.specs.declared.act.Act.TheVariants as act
use Rattle.sat_act.specs.Answers.{InRange}
use Rattle.sat_act.specs.Deployed.{Deployed}
use Rattle.sat_act.specs.Limits.{IsDeployment}
use Rattle.sat_act.specs.Parts.{tree_of}
use Rattle.sat_act.specs.Ranges.{IsActOf}
use Rattle.sat_act.proofs.Valid.{is_valid, has_trees}
use Rattle.sat_script.specs.Causes.{full}
use Rattle.sat_script.specs.Dialect.{has_form, is_chained}
use Rattle.sat_script.specs.Grammar.{line_at, close_at, close_in, next_stage, with_parsed, told_line}
use Rattle.sat_script.specs.Kept.{IsFit, HasHeader, HasActs}
use Rattle.sat_script.specs.State.{State, start, limits_at}
use Rattle.sat_script.specs.Table.{Said, place, num, bytes, at, has_node, joins, edge_cause, kinds_say, all_say, shapes, no_tree, form_of}
use Rattle.sat_script.specs.Words.{is_text, words_of, is_newline}
use Rattle.sat_script.specs.declared.dialect.Dialect.{Dialect}
use Rattle.sat_script.specs.declared.dialect.Dialect.TheVariants as dialect
use Rattle.sat_script.specs.declared.fault.Cause.{Cause}
use Rattle.sat_script.specs.declared.fault.Cause.TheVariants.{NoEdge, OutOfRange, TooMany, LongLine, NoEnd}
use Rattle.sat_script.specs.declared.form.Kind.{Kind}
use Rattle.sat_script.specs.declared.form.Kind.TheVariants as kind
use Rattle.sat_script.specs.declared.limits.TheConstants.{LONGEST_LINE}
use Rattle.sat_script.specs.declared.line.Line.{Line}
use Rattle.sat_script.specs.declared.line.Line.TheVariants as line
use Rattle.sat_script.specs.declared.line.Parsed.{Parsed}
use Rattle.sat_script.specs.declared.line.Parsed.TheVariants as parsed
use Rattle.sat_script.specs.declared.line.Stage.{Stage}
use Rattle.sat_script.specs.declared.line.Stage.TheVariants as stage
use Rattle.sat_script.proofs.Acts.{AllFit, say_is, no_small}
use Rattle.sat_script.proofs.Choices.{passed, skipped, unbarred}
use Rattle.sat_script.proofs.Fits.{line_is, stands_after, fit_start}
use Rattle.sat_script.proofs.Stands.{Stands}
use Rattle.sat_chain_laws.specs.declared.chain_act.ChainAct.{ChainAct}
use Rattle.sat_chain_laws.specs.declared.chain_act.ChainAct.TheVariants as chain
use Rattle.sat_chain_laws.specs.ChainAnswers.{is_allowed, IsChainInRange}
use Rattle.sat_chain_laws.specs.ChainRuns.{IsChainRun}
use Rattle.sat_chain_laws.specs.Goals.{EveryChainIsGood}
use Rattle.sat_chain_laws.specs.Ranges.{IsChainActOf}
use Rattle.sat_chain_script.specs.Forms.{kinds_of, step_of, misfit, replica_cause, said_step, step_words}
use Rattle.sat_chain_script.specs.ChainLines.{of_script, of_step, form_at, words_after, line_as, chain_line, chain_after}
use Rattle.sat_chain_script.specs.Readings.{ChainReading, nothing, with_chain_act, with_plain, with_chain_line, chain_bad, chain_closed, after_chain_line, chain_script_from, chain_reading}
use Rattle.sat_chain_script.specs.Histories.{chain_run, chain_history}
use Rattle.sat_chain_script.specs.Laws.{AreChainActs, IsGoodChain, IsGoodChainText}
use Rattle.sat_chain_script.specs.declared.form.ChainForm.{ChainForm}
use Rattle.sat_chain_script.specs.declared.form.ChainForm.TheVariants as form
use Rattle.sat_chain_script.specs.declared.line.ChainParsed.{ChainParsed}
use Rattle.sat_chain_script.specs.declared.line.ChainParsed.TheVariants as says

-- ---- what the words of an act of a chain say

abbrev HasEpoch : Deployed → TreeShape → List Kind → List Said → Type 0
HasEpoch d t ks xs = (e : ℕ) × (rest : List Said) × (xs ≡ place e ∷ rest) × (u : TreeShape) × (tree_of d e ≡ Some u) × (1 ≤ e) × AllFit d u ks rest

epoch_first : (d : Deployed) (t : TreeShape) (ks : List Kind) (xs : List Said) → AllFit d t (kind.Epoch ∷ ks) xs → HasEpoch d t ks xs
epoch_first d t ks [] h = absurd h
epoch_first d t ks (place e ∷ rest) h = (e, rest, refl, h.0, h.1, h.2, h.3)
epoch_first d t ks (num n ∷ rest) h = absurd h.0
epoch_first d t ks (bytes v ∷ rest) h = absurd h.0
epoch_first d t ks (at u ∷ rest) h = absurd h.0

serializer_first : (d : Deployed) (t : TreeShape) (ks : List Kind) (xs : List Said) → AllFit d t (kind.Serializer ∷ ks) xs → (z : ℕ) × (rest : List Said) × (xs ≡ place z ∷ rest) × (z < length t.parents) × AllFit d t ks rest
serializer_first d t ks [] h = absurd h
serializer_first d t ks (place z ∷ rest) h = (z, rest, refl, h.0, h.1)
serializer_first d t ks (num n ∷ rest) h = absurd h.0
serializer_first d t ks (bytes v ∷ rest) h = absurd h.0
serializer_first d t ks (at u ∷ rest) h = absurd h.0

node_first : (d : Deployed) (t : TreeShape) (ks : List Kind) (xs : List Said) → AllFit d t (kind.Node ∷ ks) xs → (u : NodeId) × (rest : List Said) × (xs ≡ at u ∷ rest) × IsNode t u × AllFit d t ks rest
node_first d t ks [] h = absurd h
node_first d t ks (at u ∷ rest) h = (u, rest, refl, h.0, h.1)
node_first d t ks (place n ∷ rest) h = absurd h.0
node_first d t ks (num n ∷ rest) h = absurd h.0
node_first d t ks (bytes v ∷ rest) h = absurd h.0

count_first : (d : Deployed) (t : TreeShape) (ks : List Kind) (xs : List Said) → AllFit d t (kind.Count ∷ ks) xs → (k : ℕ) × (rest : List Said) × (xs ≡ num k ∷ rest) × AllFit d t ks rest
count_first d t ks [] h = absurd h
count_first d t ks (num k ∷ rest) h = (k, rest, refl, h.1)
count_first d t ks (place n ∷ rest) h = absurd h.0
count_first d t ks (bytes v ∷ rest) h = absurd h.0
count_first d t ks (at u ∷ rest) h = absurd h.0

none_first : (d : Deployed) (t : TreeShape) (xs : List Said) → AllFit d t [] xs → xs ≡ []
none_first d t [] h = refl
none_first d t (a ∷ xs) h = absurd h

edge_of : (o : Option TreeShape) (t : TreeShape) (v : NodeId) (z : ℕ) → o ≡ Some t → edge_cause o v z ≡ None → is_edge t v (Serializer z) ≡ true
edge_of None t v z e h = absurd (cc)
edge_of (Some u) t v z e h =
    let joined = go (joins u v z) h in
    let edge = and_parts (has_node u (Serializer z)) (is_edge u v (Serializer z)) (and_parts (has_node u v) _ joined).1 in
    subst (λ (t : TreeShape). is_edge t v (Serializer z) ≡ true) (let s : u ≡ t = cc in s) edge.1
  where
    go : (b : Bool) → cond b None (Some NoEdge) ≡ None → b ≡ true
    go true h = refl
    go false h = absurd (cc)

below : (r k : ℕ) → replica_cause r k ≡ None → k < r
below r k h = go (ltb k r) refl h
  where
    go : (b : Bool) → ltb k r ≡ b → cond b None (Some OutOfRange) ≡ None → k < r
    go true e h = grind (arith, nat_tests, e)
    go false e h = absurd (cc)

-- the words of each form, one after another
enter_fits : (d : Deployed) (r : ℕ) (xs : List Said) → AllFit d no_tree (kinds_of form.Enter) xs → misfit r d (step_of form.Enter xs) ≡ None → IsChainActOf d r (step_of form.Enter xs)
enter_fits d r xs h fits =
    let e = epoch_first d no_tree (kind.Node ∷ kind.Serializer ∷ []) xs h in
    let u = node_first d e.3 (kind.Serializer ∷ []) e.1 e.6 in
    let z = serializer_first d e.3 [] u.1 u.4 in
    let is : xs ≡ place e.0 ∷ at u.0 ∷ place z.0 ∷ [] =
    e.2 ∙ ap (λ (rest : List Said). place e.0 ∷ rest) (u.2 ∙ ap (λ (rest : List Said). at u.0 ∷ rest) (z.2 ∙ ap (λ (rest : List Said). place z.0 ∷ rest) (none_first d e.3 z.1 z.4))) in
    let joined : edge_cause (tree_of d e.0) u.0 z.0 ≡ None = subst (λ (ys : List Said). misfit r d (step_of form.Enter ys) ≡ None) is fits in
    subst (λ (ys : List Said). IsChainActOf d r (step_of form.Enter ys)) (sym is) (e.3, e.5, e.4, u.3, edge_of (tree_of d e.0) e.3 u.0 z.0 e.4 joined)

apply_fits : (d : Deployed) (r : ℕ) (xs : List Said) → AllFit d no_tree (kinds_of form.Apply) xs → IsChainActOf d r (step_of form.Apply xs)
apply_fits d r xs h =
    let e = epoch_first d no_tree (kind.Serializer ∷ []) xs h in
    let z = serializer_first d e.3 [] e.1 e.6 in
    let is : xs ≡ place e.0 ∷ place z.0 ∷ [] = e.2 ∙ ap (λ (rest : List Said). place e.0 ∷ rest) (z.2 ∙ ap (λ (rest : List Said). place z.0 ∷ rest) (none_first d e.3 z.1 z.4)) in
    subst (λ (ys : List Said). IsChainActOf d r (step_of form.Apply ys)) (sym is) (e.3, e.5, e.4, z.3)

-- an epoch, a serializer and a number
record HasReplica (d : Deployed) (xs : List Said) : Type 0 where
  epoch : ℕ
  serializer : ℕ
  number : ℕ
  is : xs ≡ place epoch ∷ place serializer ∷ num number ∷ []
  tree : TreeShape
  stands : tree_of d epoch ≡ Some tree
  some : 1 ≤ epoch
  inside : serializer < length tree.parents

replica_fits : (d : Deployed) (xs : List Said) → AllFit d no_tree (kind.Epoch ∷ kind.Serializer ∷ kind.Count ∷ []) xs → HasReplica d xs
replica_fits d xs h =
    let e = epoch_first d no_tree (kind.Serializer ∷ kind.Count ∷ []) xs h in
    let z = serializer_first d e.3 (kind.Count ∷ []) e.1 e.6 in
    let k = count_first d e.3 [] z.1 z.4 in
    record {
      epoch = e.0;
      serializer = z.0;
      number = k.0;
      is = e.2 ∙ ap (λ (rest : List Said). place e.0 ∷ rest) (z.2 ∙ ap (λ (rest : List Said). place z.0 ∷ rest) (k.2 ∙ ap (λ (rest : List Said). num k.0 ∷ rest) (none_first d e.3 k.1 k.3)));
      tree = e.3;
      stands = e.4;
      some = e.5;
      inside = z.3;
    }

pass_fits : (d : Deployed) (r : ℕ) (xs : List Said) → AllFit d no_tree (kinds_of form.Pass) xs → misfit r d (step_of form.Pass xs) ≡ None → IsChainActOf d r (step_of form.Pass xs)
pass_fits d r xs h fits =
    let k = replica_fits d xs h in
    let less : replica_cause r k.number ≡ None = subst (λ (ys : List Said). misfit r d (step_of form.Pass ys) ≡ None) k.is fits in
    subst (λ (ys : List Said). IsChainActOf d r (step_of form.Pass ys)) (sym k.is) ((k.tree, k.some, k.stands, k.inside), below r k.number less)

crash_fits : (d : Deployed) (r : ℕ) (xs : List Said) → AllFit d no_tree (kinds_of form.Crash) xs → misfit r d (step_of form.Crash xs) ≡ None → IsChainActOf d r (step_of form.Crash xs)
crash_fits d r xs h fits =
    let k = replica_fits d xs h in
    let less : replica_cause r k.number ≡ None = subst (λ (ys : List Said). misfit r d (step_of form.Crash ys) ≡ None) k.is fits in
    subst (λ (ys : List Said). IsChainActOf d r (step_of form.Crash ys)) (sym k.is) ((k.tree, k.some, k.stands, k.inside), below r k.number less)

step_fits : (d : Deployed) (r : ℕ) (f : ChainForm) (xs : List Said) → AllFit d no_tree (kinds_of f) xs → misfit r d (step_of f xs) ≡ None → IsChainActOf d r (step_of f xs)
step_fits d r form.Enter xs h fits = enter_fits d r xs h fits
step_fits d r form.Pass xs h fits = pass_fits d r xs h fits
step_fits d r form.Apply xs h fits = apply_fits d r xs h
step_fits d r form.Crash xs h fits = crash_fits d r xs h fits

step_said : (r : ℕ) (d : Deployed) (f : ChainForm) (said : Result (List Said) Cause) (a : ChainAct) → said_step r d f said ≡ Ok a → (xs : List Said) × (said ≡ Ok xs) × (misfit r d (step_of f xs) ≡ None) × (step_of f xs ≡ a)
step_said r d f (Ok xs) a h = let u = unbarred (misfit r d (step_of f xs)) (Ok (step_of f xs)) a h in (xs, refl, u.0, (let s : step_of f xs ≡ a = let e = u.1 in cc in s))
step_said r d f (Err cause) a h = absurd (cc)

kinds_said : (o : Option Cause) (d : Deployed) (ks : List Kind) (ws : List (List ℕ)) (xs : List Said) → kinds_say o d ks ws ≡ Ok xs → (shapes ks ws ≡ true) × (o ≡ None) × (all_say d no_tree ks ws ≡ Ok xs)
unfolding kinds_say
kinds_said o d ks ws xs h =
    let p = passed (shapes ks ws) _ _ _ h in
    let u = unbarred o _ _ p.1 in
    let k = passed _ _ _ _ u.1 in
    (p.0, u.0, k.1)

step_is : (r : ℕ) (s : State) (f : ChainForm) (words : List (List ℕ)) (a : ChainAct) → IsDeployment s.header → step_words r s f words ≡ Ok a → (full s ≡ None) × IsChainActOf s.header r a
unfolding step_words
step_is r s f words a is h =
    let said = step_said r s.header f (kinds_say (full s) s.header (kinds_of f) words) a h in
    let k = kinds_said (full s) s.header (kinds_of f) words said.0 said.1 in
    let all = say_is s.header no_tree (kinds_of f) words said.0 is (no_small s.header no_tree is (omega arith) (omega arith)) k.0 k.2 in
    (k.1, subst (IsChainActOf s.header r) said.3 (step_fits s.header r f said.0 all.1 said.2))

-- ---- a good line

-- where it stands, and what it says
abbrev pub IsChainLine : ℕ → State → ChainParsed → Type 0
IsChainLine r s (says.Plain p) = Stands s.stage s p
IsChainLine r s (says.Step a) = (s.stage ≡ stage.Body) × (full s ≡ None) × IsChainActOf s.header r a

form_body : (here : Stage) (words : List (List ℕ)) (f : ChainForm) → form_at here words ≡ Some f → here ≡ stage.Body
form_body stage.Body words f h = refl
form_body stage.Start words f h = absurd (cc)
form_body stage.Sites words f h = absurd (cc)
form_body stage.Gears words f h = absurd (cc)
form_body stage.Header words f h = absurd (cc)
form_body stage.Ended words f h = absurd (cc)

pub script_said : (said : Result Parsed Cause) (p : ChainParsed) → of_script said ≡ Ok p → (q : Parsed) × (said ≡ Ok q) × (says.Plain q ≡ p)
script_said (Ok q) p h = (q, refl, (let s : says.Plain q ≡ p = cc in s))
script_said (Err cause) p h = absurd (cc)

chain_said : (said : Result ChainAct Cause) (p : ChainParsed) → of_step said ≡ Ok p → (a : ChainAct) × (said ≡ Ok a) × (says.Step a ≡ p)
chain_said (Ok a) p h = (a, refl, (let s : says.Step a ≡ p = cc in s))
chain_said (Err cause) p h = absurd (cc)

body_deploys : (s : State) → IsFit s → s.stage ≡ stage.Body → IsDeployment s.header
body_deploys s fit body = (subst (λ (here : Stage). HasHeader here s.header) body fit.header).deployment

as_is : (r : ℕ) (s : State) (line : List ℕ) (p : ChainParsed) (f : Option ChainForm) → IsFit s → form_at s.stage (words_of line) ≡ f → line_as r s line f ≡ Ok p → IsChainLine r s p
as_is r s line p None fit e h =
    let said = script_said (line_at s line) p h in
    subst (IsChainLine r s) said.2 (line_is s line said.0 fit said.1).stands
as_is r s line p (Some f) fit e h =
    let short = skipped (ltb LONGEST_LINE (length line)) _ _ _ h in
    let text = passed (is_text line) _ _ _ short.1 in
    let said = chain_said (step_words r s f (words_after (words_of line))) p text.1 in
    let body = form_body s.stage (words_of line) f e in
    let step = step_is r s f (words_after (words_of line)) said.0 (body_deploys s fit body) said.1 in
    subst (IsChainLine r s) said.2 (body, step.0, step.1)

pub chain_line_is : (r : ℕ) (s : State) (line : List ℕ) (p : ChainParsed) → IsFit s → chain_line r s line ≡ Ok p → IsChainLine r s p
unfolding chain_line
chain_line_is r s line p fit h = as_is r s line p (form_at s.stage (words_of line)) fit refl h

full_room : (s : State) → full s ≡ None → s.acts < (limits_at s).acts
unfolding full
full_room s h = go (ltb s.acts (limits_at s).acts) refl h
  where
    go : (b : Bool) → ltb s.acts (limits_at s).acts ≡ b → cond b None (Some TooMany) ≡ None → s.acts < (limits_at s).acts
    go true e h = grind (arith, nat_tests, e)
    go false e h = absurd (cc)

pub chain_fit : (r : ℕ) (s : State) (p : ChainParsed) → IsFit s → IsChainLine r s p → IsFit (chain_after s p)
chain_fit r s (says.Plain p) fit is = stands_after s p fit is
chain_fit r s (says.Step a) fit is = record {
  header = fit.header;
  sites = fit.sites;
  items = fit.items;
  clients = fit.clients;
  plans = fit.plans;
  begun = subst (λ (here : Stage). HasActs here (s.acts + 1)) (sym is.0) tt;
  acts = let room = full_room s is.1 in omega (arith, room);
  settles = fit.settles;
}

-- ---- what the lines so far say

abbrev SaidAt : ℕ → Stage → Deployed → ChainReading → Type 0
SaidAt r stage.Body d x = (x.deployment ≡ Some d) × AreChainActs d r x.acts
SaidAt r stage.Ended d x = (x.deployment ≡ Some d) × AreChainActs d r x.acts
SaidAt r _ d x = (x.deployment ≡ None) × (x.acts ≡ [])

pub record IsSoundAt (r : ℕ) (s : State) (x : ChainReading) : Type 0 where
  pub fit : IsFit s
  pub dialect_is : s.dialect ≡ dialect.Chain
  pub said : SaidAt r s.stage s.header x
  pub fresh : x.fault ≡ None

pub allowed : (a : Act) → is_chained (form_of a) ≡ true → is_allowed a ≡ true
allowed (act.Hop e u z) h = h
allowed (act.Kill e z) h = h
allowed act.Settle h = h
allowed _ h = refl

all_more : {X : Type 0} (P : X → Type 0) (xs : List X) (x : X) → AllByRecursion P xs → P x → AllByRecursion P (xs ++ x ∷ [])
all_more P [] x all here = (here, tt)
all_more P (y ∷ xs) x all here = (all.0, all_more P xs x all.1 here)

said_plain : (here : Stage) (r : ℕ) (s : State) (p : Parsed) (x : ChainReading) → s.dialect ≡ dialect.Chain → Stands here s p → SaidAt r here s.header x → SaidAt r (next_stage here p) (with_parsed s.header p) (with_plain s.header x (told_line p))
said_plain stage.Start r s (parsed.Format f) x is h said = said
said_plain stage.Sites r s (parsed.Sites k) x is h said = said
said_plain stage.Gears r s (parsed.Gears k) x is h said = said
said_plain stage.Header r s (parsed.Item item) x is h said = said
said_plain stage.Header r s (parsed.Client line) x is h said = said
said_plain stage.Header r s (parsed.Plan p) x is h said = said
said_plain stage.Header r s parsed.Begin x is h said = (refl, subst (λ (acts : List ChainAct). AreChainActs s.header r acts) (sym said.1) tt)
said_plain stage.Body r s (parsed.Act a) x is h said =
    let has : is_chained (form_of a) ≡ true = subst (λ (dialect : Dialect). has_form dialect (form_of a) ≡ true) is h.has in
    (said.0, all_more (λ (b : ChainAct). IsChainActOf s.header r b) x.acts (chain.Plain a) said.1 (h.fits, allowed a has))
said_plain stage.Body r s parsed.End x is h said = said
said_plain _ r s _ x is h said = absurd h

said_step_at : (here : Stage) (r : ℕ) (d : Deployed) (a : ChainAct) (x : ChainReading) → here ≡ stage.Body → IsChainActOf d r a → SaidAt r here d x → SaidAt r here d (with_chain_act x a)
said_step_at stage.Body r d a x body is said = (said.0, all_more (λ (b : ChainAct). IsChainActOf d r b) x.acts a said.1 is)
said_step_at stage.Start r d a x body is said = absurd (cc)
said_step_at stage.Sites r d a x body is said = absurd (cc)
said_step_at stage.Gears r d a x body is said = absurd (cc)
said_step_at stage.Header r d a x body is said = absurd (cc)
said_step_at stage.Ended r d a x body is said = absurd (cc)

fault_kept : (d : Deployed) (x : ChainReading) (l : Line) → (with_plain d x l).fault ≡ x.fault
fault_kept d x line.Header = refl
fault_kept d x line.Begin = refl
fault_kept d x (line.Act a) = refl
fault_kept d x line.End = refl

pub sound_after : (r : ℕ) (s : State) (x : ChainReading) (p : ChainParsed) → IsSoundAt r s x → IsChainLine r s p → IsSoundAt r (chain_after s p) (with_chain_line s.header x p)
sound_after r s x (says.Plain p) had is = record {
  fit = chain_fit r s (says.Plain p) had.fit is;
  dialect_is = had.dialect_is;
  said = said_plain s.stage r s p x had.dialect_is is had.said;
  fresh = fault_kept s.header x (told_line p) ∙ had.fresh;
}
sound_after r s x (says.Step a) had is = record {
  fit = chain_fit r s (says.Step a) had.fit is;
  dialect_is = had.dialect_is;
  said = said_step_at s.stage r s.header a x is.0 is.2 had.said;
  fresh = had.fresh;
}

-- ---- what is read of a text

record IsReadSound (r : ℕ) (x : ChainReading) : Type 0 where
  whole : IfSome x.deployment (λ d. IsDeployment d × AreChainActs d r x.acts)
  none : x.deployment ≡ None → x.acts ≡ []
  ends : x.fault ≡ None → IsSome x.deployment

abbrev WholeOf : ℕ → Option Deployed → List ChainAct → Type 0
WholeOf r o acts = IfSome o (λ d. IsDeployment d × AreChainActs d r acts) × (o ≡ None → acts ≡ [])

whole_at : (here : Stage) (r : ℕ) (d : Deployed) (x : ChainReading) → HasHeader here d → SaidAt r here d x → WholeOf r x.deployment x.acts
whole_at stage.Body r d x kept said = (subst (λ (o : Option Deployed). IfSome o (λ d. IsDeployment d × AreChainActs d r x.acts)) (sym said.0) (kept.deployment, said.1), λ e. absurd (let never : Some d ≡ None = sym said.0 ∙ e in cc))
whole_at stage.Ended r d x kept said = (subst (λ (o : Option Deployed). IfSome o (λ d. IsDeployment d × AreChainActs d r x.acts)) (sym said.0) (kept.deployment, said.1), λ e. absurd (let never : Some d ≡ None = sym said.0 ∙ e in cc))
whole_at _ r d x kept said = (subst (λ (o : Option Deployed). IfSome o (λ d. IsDeployment d × AreChainActs d r x.acts)) (sym said.0) tt, λ _. said.1)

bad_sound : (r : ℕ) (s : State) (x : ChainReading) (cause : Cause) → IsSoundAt r s x → IsReadSound r (chain_bad s x cause)
bad_sound r s x cause had =
    let w = whole_at s.stage r s.header x had.fit.header had.said in
    record { whole = w.0; none = w.1; ends = λ e. absurd (cc) }

never_none : (b : Bool) (x y : Cause) → cond b (Some x) (Some y) ≡ None → ⊥
never_none true x y h = cc
never_none false x y h = cc

pub close_ends : (here : Stage) (rest : List ℕ) → close_in here rest ≡ None → here ≡ stage.Ended
unfolding close_in
close_ends stage.Ended rest h = refl
close_ends stage.Start rest h = absurd (never_none (ltb LONGEST_LINE (length rest)) LongLine NoEnd h)
close_ends stage.Sites rest h = absurd (never_none (ltb LONGEST_LINE (length rest)) LongLine NoEnd h)
close_ends stage.Gears rest h = absurd (never_none (ltb LONGEST_LINE (length rest)) LongLine NoEnd h)
close_ends stage.Header rest h = absurd (never_none (ltb LONGEST_LINE (length rest)) LongLine NoEnd h)
close_ends stage.Body rest h = absurd (never_none (ltb LONGEST_LINE (length rest)) LongLine NoEnd h)

closed_sound : (r : ℕ) (s : State) (x : ChainReading) (rest : List ℕ) (o : Option Cause) → IsSoundAt r s x → close_at s rest ≡ o → IsReadSound r (chain_closed s x o)
closed_sound r s x rest (Some cause) had e = bad_sound r s x cause had
closed_sound r s x rest None had e =
    let w = whole_at s.stage r s.header x had.fit.header had.said in
    let said = subst (λ (here : Stage). SaidAt r here s.header x) (close_ends s.stage rest e) had.said in
    record { whole = w.0; none = w.1; ends = λ _. subst (λ (o : Option Deployed). IsSome o) (sym said.0) refl }

after_sound : (r : ℕ) (s : State) (x : ChainReading) (line : List ℕ) (go_on : State → ChainReading → ChainReading) (said : Result ChainParsed Cause) → IsSoundAt r s x → chain_line r s line ≡ said
    → ((later : State) (more : ChainReading) → IsSoundAt r later more → IsReadSound r (go_on later more)) → IsReadSound r (after_chain_line s x go_on said)
after_sound r s x line go_on (Ok p) had e next = next (chain_after s p) (with_chain_line s.header x p) (sound_after r s x p had (chain_line_is r s line p had.fit e))
after_sound r s x line go_on (Err cause) had e next = bad_sound r s x cause had

sound_from : (r : ℕ) (s : State) (x : ChainReading) (parts : List (List ℕ)) → IsSoundAt r s x → IsReadSound r (chain_script_from r s x parts)
unfolding chain_script_from
sound_from r s x [] had = closed_sound r s x [] (close_at s []) had refl
sound_from r s x (rest ∷ []) had = closed_sound r s x rest (close_at s rest) had refl
sound_from r s x (line ∷ part ∷ parts) had =
    after_sound r s x line (λ later more. chain_script_from r later more (part ∷ parts)) (chain_line r s line) had refl (λ later more now. sound_from r later more (part ∷ parts) now)

pub sound_start : (r : ℕ) → IsSoundAt r (start dialect.Chain) nothing
sound_start r = record { fit = fit_start dialect.Chain; dialect_is = refl; said = (refl, refl); fresh = refl }

sound_text : (r : ℕ) (text : List ℕ) → IsReadSound r (chain_reading r text)
unfolding chain_reading
sound_text r text = sound_from r (start dialect.Chain) nothing (slice_split is_newline text) (sound_start r)

-- ---- the history of the acts

in_range : (d : Deployed) (a : Act) → IsActOf d a → InRange d a
in_range d (act.Tick i g t) k = k
in_range d (act.Writes c items values) k = (k.1.values_all, k.1.order)
in_range d (act.Move c j) k = k.1
in_range d (act.Attach c j) k = k.1
in_range d (act.Gather i) k = k
in_range d (act.Emit i) k = k
in_range d (act.Pulse i) k = k
in_range d (act.Turn i) k = k
in_range d (act.Bulk i g j n) k = (k.0.0, k.1, k.0.1, k.0.2)
in_range d (act.Beat i j) k = k
in_range d (act.BeatIn i j n) k = k.0
in_range d (act.Stamp i) k = k
in_range d (act.Close i) k = k
in_range d (act.Fall i) k = k
in_range d (act.Advance i) k = k
in_range d (act.Hop e u z) k = (k.0, k.2, k.4)
in_range d _ k = tt

pub chain_in_range : (d : Deployed) (r : ℕ) (a : ChainAct) → IsChainActOf d r a → IsChainInRange d r a
chain_in_range d r (chain.Plain a) k = (in_range d a k.0, k.1)
chain_in_range d r (chain.Enter e u z) k = (k.0, k.2, k.4)
chain_in_range d r (chain.Pass e z n) k = k.1
chain_in_range d r (chain.Apply e z) k = tt
chain_in_range d r (chain.Crash e z n) k = k.1

all_append : {X : Type 0} (P : X → Type 0) (xs ys : List X) → AllByRecursion P xs → AllByRecursion P ys → AllByRecursion P (xs ++ ys)
all_append P [] ys a b = b
all_append P (x ∷ xs) ys a b = (a.0, all_append P xs ys a.1 b)

all_reverse : {X : Type 0} (P : X → Type 0) (xs : List X) → AllByRecursion P xs → AllByRecursion P (reverse xs)
all_reverse P [] a = tt
all_reverse P (x ∷ xs) a = rw (reverse-append (x ∷ []) xs) (all_append P (reverse xs) (x ∷ []) (all_reverse P xs a.1) (a.0, tt))

run_is : (d : Deployed) (r : ℕ) (acts : List ChainAct) → AreChainActs d r acts → IsChainRun d r (chain_run d r acts)
unfolding IsChainRun chain_run
run_is d r [] all = tt
run_is d r (a ∷ acts) all = (run_is d r acts all.1, chain_in_range d r a all.0, refl)

pub chain_runs : (d : Deployed) (r : ℕ) (acts : List ChainAct) → AreChainActs d r acts → IsChainRun d r (chain_history d r acts)
unfolding chain_history
chain_runs d r acts all = run_is d r (reverse acts) (all_reverse (λ (a : ChainAct). IsChainActOf d r a) acts all)

good_acts : (d : Deployed) (r : ℕ) (acts : List ChainAct) → EveryChainIsGood → IsDeployment d → AreChainActs d r acts → IsGoodChain d r acts
good_acts d r acts law is all = let run = chain_runs d r acts all in record { run = run; good = law d r (chain_history d r acts) (is_valid d is) (has_trees d is) is.all_seated run }

whole_good : (r : ℕ) (o : Option Deployed) (acts : List ChainAct) → EveryChainIsGood → IfSome o (λ d. IsDeployment d × AreChainActs d r acts) → IfSome o (λ d. IsDeployment d × AreChainActs d r acts × IsGoodChain d r acts)
whole_good r None acts law whole = tt
whole_good r (Some d) acts law whole = (whole.0, whole.1, good_acts d r acts law whole.0 whole.1)

pub good_text : EveryChainIsGood → (r : ℕ) (text : List ℕ) → IsGoodChainText r (chain_reading r text)
good_text law r text = let x = sound_text r text in record { whole = whole_good r (chain_reading r text).deployment (chain_reading r text).acts law x.whole; none = x.none; ends = x.ends }
