-- What a word says, as the code keeps it.
use Rattle.std.specs.Prelude.{ℕ, ◌≡◌, ◌||◌, ◌==◌, Bool, true, false, List, [], ◌∷◌, ◌++◌, length, map, Option, Some}
use Rattle.std.specs.Prelude.{None, Result, Ok, Err}
use Rattle.sat_tree.specs.Shape.{TreeShape}
use Rattle.sat_act.specs.Deployed.{Deployed}
use Rattle.sat_act.specs.declared.act.Act.{Act}
use Rattle.sat_script.specs.Table.{Said, place, num, bytes, at, no_tree, shape, known, says, shapes, all_known, all_say}
use Rattle.sat_script.specs.Table.{in_tree, kinds_of, act_of, args_of, act_forms, found_form, unfit}
use Rattle.sat_script.specs.Causes.{bar, full}
use Rattle.sat_script.specs.Dialect.{has_form}
use Rattle.sat_script.specs.State.{State}
use Rattle.sat_script.specs.declared.form.Form.TheVariants as form
use Rattle.sat_script.specs.declared.line.Stage.TheVariants as stage
use Rattle.sat_script.specs.declared.fault.Cause.{Cause}
use Rattle.sat_script.specs.declared.form.Form.{Form}
use Rattle.sat_script.specs.declared.form.Kind.{Kind}
use Rattle.sat_script.specs.declared.form.Kind.TheVariants as kind
use Rattle.sat_script.specs.declared.said.Said.{Said as Kept}
use Rattle.sat_script.specs.declared.said.Said.TheVariants as kept

-- the same without where the bytes lie
abbrev pub said_of : Kept → Said
said_of (kept.Place n) = place n
said_of (kept.Number n) = num n
said_of (kept.Bytes v) = bytes v.now
said_of (kept.Node u) = at u

-- the tree of an epoch, and before any epoch none
abbrev pub shape_of : Option TreeShape → TreeShape
shape_of None = no_tree
shape_of (Some t) = t

-- the words say so much more, or the cause
abbrev pub SaysOn : Result (Unit {0}) Cause → List Kept → List Kept → Result (List Said) Cause → Type 0
SaysOn (Ok x) old new says = (more : List Said) × (says ≡ Ok more) × (map said_of new ≡ map said_of old ++ more)
SaysOn (Err cause) old new says = says ≡ Err cause

-- ---- good words, each read once

-- what a word must be besides saying something: the word of a node has its letter. The rest of the shape, and that the
-- header has the name, follow from what the word says, where the header's names are names
abbrev pub begins : Kind → List ℕ → Bool
begins kind.Node [] = false
begins kind.Node (byte ∷ number) = byte == 115 || byte == 122
begins kind.Serializer [] = false
begins kind.Serializer (byte ∷ number) = byte == 122
begins _ w = true

-- a word of its shape, whose name the header has, what it says, and the tree in which the nodes after it stand
pub record IsReadWord (d : Deployed) (t : TreeShape) (k : Kind) (word : List ℕ) (a : Said)
    (u : TreeShape) : Type 0 where
  pub shaped : shape k word ≡ true
  pub named : known d k word ≡ true
  pub said : says d t k word ≡ Some a
  pub goes : (next : TreeShape → Result (List Said) Cause) → in_tree d k t a next ≡ next u

-- words of their shapes, whose names the header has, and what they say
pub record AreRead (d : Deployed) (kinds : List Kind) (words : List (List ℕ)) (xs : List Said) : Type 0 where
  pub shaped : shapes kinds words ≡ true
  pub named : all_known d kinds words ≡ true
  pub said : all_say d no_tree kinds words ≡ Ok xs

-- words of a form say this act
pub record Reads (d : Deployed) (f : Form) (words : List (List ℕ)) (a : Act) : Type 0 where
  pub read : AreRead d (kinds_of f) words (args_of a)
  pub act : act_of f (args_of a) ≡ Some a

-- a form that every format has, and each dialect whose lines are read quickly, where the first argument says whether
-- hops are among its forms, and that only the number of acts limits
abbrev pub is_counted : Bool → Form → Bool
is_counted hops form.Item = false
is_counted hops form.Client = false
is_counted hops form.PlanStamp = false
is_counted hops form.PlanTree = false
is_counted hops form.Hop = hops
is_counted hops form.Clock = false
is_counted hops form.Kill = false
is_counted hops form.Settle = false
is_counted hops form.WritesTwo = false
is_counted hops form.WritesThree = false
is_counted hops form.WritesFour = false
is_counted hops f = true

-- a word and those behind it say this act, whose parts go together, and which may be a hop where hops says so
pub record SaysAct (hops : Bool) (d : Deployed) (word : List ℕ) (words : List (List ℕ)) (a : Act) : Type 0 where
  pub form : Form
  pub found : found_form word (length words) act_forms ≡ Some form
  pub counted : is_counted hops form ≡ true
  pub reads : Reads d form words a
  pub fits : unfit d a ≡ None

-- the next line may be an act of each of these forms
pub record TakesActs (s : State) : Type 0 where
  pub body : s.stage ≡ stage.Body
  pub more : full s ≡ None
  pub free : (f : Form) → is_counted (has_form s.dialect form.Hop) f ≡ true → bar s f ≡ None
