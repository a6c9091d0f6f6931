-- The lines of the acts of chains as one table: the word that an act begins with, the kinds of the words after it, and
-- the act that they say.
use Rattle.std.specs.Prelude.{ℕ, ◌≡◌, List, [], ◌∷◌, Bool, ◌&&◌, ◌==◌, nat_lt, length, Option, Some, None, Result, Ok}
use Rattle.std.specs.Prelude.{Err, codes, if◌then◌else◌}
use Rattle.std.specs.Str.{bytes_eq}
use Rattle.sat_act.specs.Deployed.{Deployed}
use Rattle.sat_act.specs.Parts.{tree_of}
use Rattle.sat_chain_laws.specs.declared.chain_act.ChainAct.{ChainAct}
use Rattle.sat_chain_laws.specs.declared.chain_act.ChainAct.TheVariants as chain
use Rattle.sat_chain_script.specs.declared.form.ChainForm.{ChainForm}
use Rattle.sat_chain_script.specs.declared.form.ChainForm.TheVariants as form
use Rattle.sat_script.specs.Causes.{barred, full}
use Rattle.sat_script.specs.Said.{AreRead}
use Rattle.sat_script.specs.State.{State}
use Rattle.sat_script.specs.Table.{Said, place_at, num_at, node_at, edge_cause, kinds_say}
use Rattle.sat_script.specs.declared.fault.Cause.{Cause}
use Rattle.sat_script.specs.declared.fault.Cause.TheVariants.{OutOfRange}
use Rattle.sat_script.specs.declared.form.Kind.{Kind}
use Rattle.sat_script.specs.declared.form.Kind.TheVariants as kind

-- the word that the acts of a form begin with
abbrev pub word_of : ChainForm → List ℕ
word_of form.Enter = codes "enter"
word_of form.Pass = codes "pass"
word_of form.Apply = codes "apply"
word_of form.Crash = codes "crash"

-- what the words after it stand for: an epoch, a neighbour and a serializer as of a hop, or an epoch, a serializer and
-- a replica
abbrev pub kinds_of : ChainForm → List Kind
kinds_of form.Enter = kind.Epoch ∷ kind.Node ∷ kind.Serializer ∷ []
kinds_of form.Pass = kind.Epoch ∷ kind.Serializer ∷ kind.Count ∷ []
kinds_of form.Apply = kind.Epoch ∷ kind.Serializer ∷ []
kinds_of form.Crash = kind.Epoch ∷ kind.Serializer ∷ kind.Count ∷ []

-- whether an act of a form begins with this word and has so many more
abbrev pub has_words : ChainForm → List ℕ → ℕ → Bool
has_words f word n = (length (kinds_of f) == n) && bytes_eq word (word_of f)

-- the form with this word and so many more, if there is one
abbrev pub found : List ℕ → ℕ → Option ChainForm
found word n =
    if has_words form.Enter word n then Some form.Enter else
    if has_words form.Pass word n then Some form.Pass else
    if has_words form.Apply word n then Some form.Apply else
    if has_words form.Crash word n then Some form.Crash else
    None

-- the form of the act of a chain that words make, by the first of them and how many follow
unfoldable pub chain_form : List (List ℕ) → Option ChainForm
chain_form [] = None
chain_form (word ∷ words) = found word (length words)

-- the act that the words say
abbrev pub step_of : ChainForm → List Said → ChainAct
step_of form.Enter xs = chain.Enter (place_at xs 0) (node_at xs 1) (place_at xs 2)
step_of form.Pass xs = chain.Pass (place_at xs 0) (place_at xs 1) (num_at xs 2)
step_of form.Apply xs = chain.Apply (place_at xs 0) (place_at xs 1)
step_of form.Crash xs = chain.Crash (place_at xs 0) (place_at xs 1) (num_at xs 2)

-- a replica that there is not
abbrev pub replica_cause : ℕ → ℕ → Option Cause
replica_cause r k = if nat_lt k r then None else Some OutOfRange

-- two nodes that are no edge, and a replica that there is not, where each serializer has r
abbrev pub misfit : ℕ → Deployed → ChainAct → Option Cause
misfit r d (chain.Enter epoch u z) = edge_cause (tree_of d epoch) u z
misfit r d (chain.Pass epoch z k) = replica_cause r k
misfit r d (chain.Crash epoch z k) = replica_cause r k
misfit r d _ = None

-- the act that the words say, unless its parts do not go together
abbrev pub said_step : ℕ → Deployed → ChainForm → Result (List Said) Cause → Result ChainAct Cause
said_step r d f (Err cause) = Err cause
said_step r d f (Ok xs) = barred (misfit r d (step_of f xs)) (Ok (step_of f xs))

-- the words after the first of an act of a chain: the causes are those of a hop, in their order, and then that of a
-- replica
unfoldable pub step_words : ℕ → State → ChainForm → List (List ℕ) → Result ChainAct Cause
step_words r s f words = said_step r s.header f (kinds_say (full s) s.header (kinds_of f) words)

-- a word and those behind it say this act, as they are read
pub record SaysStep (r : ℕ) (d : Deployed) (word : List ℕ) (words : List (List ℕ)) (a : ChainAct) : Type 0 where
  pub form : ChainForm
  pub named : found word (length words) ≡ Some form
  pub said : List Said
  pub read : AreRead d (kinds_of form) words said
  pub says : said_step r d form (Ok said) ≡ Ok a
