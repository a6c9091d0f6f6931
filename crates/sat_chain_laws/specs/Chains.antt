-- Histories with chains, the newest entry first: what each replica has, how many labels took effect, and the plain
-- history.
use Rattle.std.specs.Prelude.{ℕ, ◌+◌, Bool, false, ◌&&◌, ◌==◌, nat_lt, List, [], ◌∷◌, ◌++◌, length, Option, Some, None}
use Rattle.std.specs.Prelude.{is_some, slice_get, if◌then◌else◌}
use Rattle.sat_label.specs.declared.label.Label.{Label}
use Rattle.sat_act.specs.declared.act.Act.{Act}
use Rattle.sat_act.specs.declared.act.Act.TheVariants as act
use Rattle.sat_act.specs.declared.answer.Answer.{Answer}
use Rattle.sat_act.specs.declared.answer.Answer.TheVariants as ans
use Rattle.sat_act.specs.declared.entry.Entry.{Entry}
use Rattle.sat_act.specs.Histories.{listed}
use Rattle.sat_chain_laws.specs.declared.chain_act.ChainAct.{ChainAct}
use Rattle.sat_chain_laws.specs.declared.chain_act.ChainAct.TheVariants as chain
use Rattle.sat_chain_laws.specs.declared.chain_answer.ChainAnswer.{ChainAnswer}
use Rattle.sat_chain_laws.specs.declared.chain_answer.ChainAnswer.TheVariants as says
use Rattle.sat_chain_laws.specs.Rows.{Pair, Replica, Row, head, next_after, tail, row_with}

-- an act with chains, and what came of it
pub record ChainEntry : Type 0 where
  pub act : ChainAct
  pub answer : ChainAnswer

-- a replica's number, and what it has from now on
abbrev pub Change : Type 0
Change = ℕ × Option (List Pair)

-- the head has one pair more
abbrev pub head_gains : ℕ → Row → Pair → Option Change
head_gains r row p = elim (head r row) [ None ↦ None | Some h ↦ Some (h.number, Some (h.list ++ p ∷ [])) ]

-- the pair that replica k hands to the next living one, which is given here
abbrev pub handed_on : Row → ℕ → Replica → Option Pair
handed_on row k n = elim (row k) [ None ↦ None | Some xs ↦ slice_get xs (length n.list) ]

-- the living replica after k has one pair more, from k's list
abbrev pub next_gains : ℕ → Row → ℕ → Option Change
next_gains r row k =
    elim (next_after r row k) [
      | None ↦ None
      | Some n ↦ elim (handed_on row k n) [
        | None ↦ None
        | Some p ↦ Some (n.number, Some (n.list ++ p ∷ []))
      ]
    ]

-- how an entry changes the row of serializer z of an epoch's tree
abbrev pub change : ℕ → ChainEntry → Row → ℕ → ℕ → Option Change
change r x row epoch z =
    elim x.answer [
      | says.Entered l ↦
          elim x.act [
            | chain.Enter e u y ↦ if (e == epoch) && (y == z) then head_gains r row (record { from = u; label = l })
                else None
            | _ ↦ None
          ]
      | says.Passed l ↦
          elim x.act [ chain.Pass e y k ↦ if (e == epoch) && (y == z) then next_gains r row k else None | _ ↦ None ]
      | says.Crashed ↦
          elim x.act [ chain.Crash e y k ↦ if (e == epoch) && (y == z) then Some (k, None) else None | _ ↦ None ]
      | _ ↦ None
    ]

-- a row after a change
abbrev pub changed : Row → Option Change → Row
changed row c k = elim c [ None ↦ row k | Some x ↦ row_with row x.0 x.1 k ]

-- what the replicas of serializer z have, of r replicas: in the beginning nothing
unfoldable pub seq : ℕ → List ChainEntry → ℕ → ℕ → ℕ → Option (List Pair)
unfolding head next_after
seq r [] epoch z k = if nat_lt k r then Some [] else None
seq r (x ∷ c) epoch z k = changed (seq r c epoch z) (change r x (seq r c epoch z) epoch z) k

-- whether an entry is a done apply of serializer z
abbrev pub is_applied : ChainEntry → ℕ → ℕ → Bool
is_applied x epoch z =
    elim x.answer
    [ says.Plain answer ↦ elim x.act [ chain.Apply e y ↦ (e == epoch) && (y == z) | _ ↦ false ] | _ ↦ false ]

-- how many applies of serializer z were done
unfoldable pub applied : List ChainEntry → ℕ → ℕ → ℕ
applied [] epoch z = 0
applied (x ∷ c) epoch z = if is_applied x epoch z then applied c epoch z + 1 else applied c epoch z

-- the pair of the tail's list that takes effect next
unfoldable pub next_pair : ℕ → List ChainEntry → ℕ → ℕ → Option Pair
unfolding seq tail applied
next_pair r c epoch z = elim (tail r (seq r c epoch z)) [ None ↦ None | Some t ↦ slice_get t.list (applied c epoch z) ]

abbrev pub plain_entry : Act → Answer → Entry
plain_entry a answer = record { act = a; answer = answer; inner = false }

-- the hop that lets a pair take effect
abbrev pub hop_of_pair : ℕ → ℕ → Answer → Option Pair → Option Entry
hop_of_pair epoch z answer None = None
hop_of_pair epoch z answer (Some p) = Some (plain_entry (act.Hop epoch p.from z) answer)

-- what an entry is in the plain history: a plain act is itself, a done apply is the hop of its pair, the crash of the
-- last living replica is the kill of the serializer. All else is left out
unfoldable pub projected : ℕ → List ChainEntry → ChainEntry → Option Entry
unfolding next_pair seq head
projected r c x =
    elim x.answer [
      | says.Plain answer ↦
          elim x.act [
            | chain.Plain a ↦ Some (plain_entry a answer)
            | chain.Apply e z ↦ hop_of_pair e z answer (next_pair r c e z)
            | _ ↦ None
          ]
      | says.Crashed ↦
          elim x.act [
            | chain.Crash e z k ↦ if is_some (head r (row_with (seq r c e z) k None)) then None
                else Some (plain_entry (act.Kill e z) ans.Killed)
            | _ ↦ None
          ]
      | _ ↦ None
    ]

-- the plain history: that of the projected acts
unfoldable pub plain : ℕ → List ChainEntry → List Entry
unfolding projected
plain r [] = []
plain r (x ∷ c) = elim (projected r c x) [ None ↦ plain r c | Some entry ↦ entry ∷ plain r c ]

-- the pair of a hop of label l at serializer z of an epoch's tree
abbrev pub hop_of : ℕ → ℕ → Label → Act → Option Pair
hop_of epoch z l (act.Hop e u y) = if (e == epoch) && (y == z) then Some (record { from = u; label = l }) else None
hop_of epoch z l _ = None

-- the pair that a plain entry handled there
abbrev pub hop_pair : ℕ → ℕ → List Entry → Entry → Option Pair
hop_pair epoch z before x = elim x.answer [ ans.Hopped l to ↦ hop_of epoch z l x.act | _ ↦ None ]

-- the pairs that serializer z handled in a plain history, in order
unfoldable pub hops : List Entry → ℕ → ℕ → List Pair
unfolding listed
hops h epoch z = listed (hop_pair epoch z) h
