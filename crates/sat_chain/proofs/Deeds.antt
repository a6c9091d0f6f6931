-- The acts of chains, by what the code found: over the record of its fields, w, and what is seen of it, v.
use Rattle.std.proofs.Common.{◌≡◌, ◌<◌, ℕ, ◌-◌, ◌+◌, Bool, true, false, List, [], ◌∷◌, ◌++◌, length, get_or, Option, Some, None, IsSome, IsOk, IfOk, Ok, Err, Result, is_some, slice_get, sym, ap, subst, ◌∙◌, arith}
use Rattle.sat_label.specs.declared.label.Label.{Label}
use Rattle.sat_label.specs.declared.node.NodeId.{NodeId}
use Rattle.sat_label.specs.declared.node.NodeId.TheVariants.{Serializer}
use Rattle.sat_label.proofs.Members.{In-get}
use Rattle.sat_tree.specs.Shape.{TreeShape}
use Rattle.sat_tree.proofs.Trees.{edge-end}
use Rattle.sat_act.specs.declared.act.Act.{Act}
use Rattle.sat_act.specs.declared.act.Act.TheVariants as act
use Rattle.sat_act.specs.declared.answer.Answer.{Answer}
use Rattle.sat_act.specs.declared.entry.Entry.{Entry}
use Rattle.sat_act.specs.Ranges.{IsActOf}
use Rattle.sat_act.specs.Runs.{IsRun}
use Rattle.sat_act.specs.Parts.{tree_of, entered, taken}
use Rattle.sat_serial.specs.Hits.{code}
use Rattle.sat_world.specs.Seen.{WorldSeen}
use Rattle.sat_world.specs.Stands.{StandsFor}
use Rattle.sat_world.specs.Applies.{Applies}
use Rattle.sat_chain_laws.specs.declared.pair.Pair.{Pair}
use Rattle.sat_chain_laws.specs.declared.chain_act.ChainAct.{ChainAct}
use Rattle.sat_chain_laws.specs.declared.chain_act.ChainAct.TheVariants as chain
use Rattle.sat_chain_laws.specs.declared.chain_answer.ChainAnswer.{ChainAnswer}
use Rattle.sat_chain_laws.specs.declared.chain_answer.ChainAnswer.TheVariants as says
use Rattle.sat_chain_laws.specs.declared.chain_answer.ChainRefusal.{ChainRefusal}
use Rattle.sat_chain_laws.specs.declared.chain_answer.ChainRefusal.TheVariants as why
use Rattle.sat_chain_laws.specs.Rows.{first_from, labels_from}
use Rattle.sat_chain_laws.specs.Chains.{plain}
use Rattle.sat_chain_laws.specs.Ranges.{IsChainActOf}
use Rattle.sat_chain_laws.proofs.Lists.{some_is}
use Rattle.sat_chain.specs.Chained.{ChainSeen, row_of, number_of, after_change, after_crash}
use Rattle.sat_chain.specs.Stands.{ChainsSeen, HasChain, IsFrame, IsChains, chain_at, with_chain}
use Rattle.sat_chain.specs.Applies.{ChainApplies}
use Rattle.sat_chain.proofs.Twofold.{with-there}
use Rattle.sat_chain.proofs.Answering.{first-has, enter-dead, enter-answer, pass-dead, pass-crashed, pass-last, pass-answer, passing, crash-gone}
use Rattle.sat_chain.proofs.Acting.{refuses, plain-applies, enter-applies, pass-applies, crash-applies, kill-applies, gain-frame, crash-frame, small-code, near-in, within-rows, of-chain}
use Rattle.sat_chain.proofs.Ready.{asked, has-list, no-list, is-list, some-at}
use Rattle.sat_chain.proofs.Stood.{with_world, with_both, stays, frame-world, held-in}

-- what the code owes at a return
pub record Did (v : ChainsSeen) (a : ChainAct) (n : ChainAnswer) (t : ChainsSeen) : Type 0 where
  pub invariant : IsChains t
  pub applies : ChainApplies v a n t

-- the chains with another world and other lists
abbrev pub now_with : ChainsSeen → WorldSeen → List (List ChainSeen) → ChainsSeen
now_with s w chains = record { world = w; interest = s.interest; replicas = s.replicas; chains = chains }

pub on-ok : {X E : Type 0} (P : X → Type 0) (res : Result X E) → IfOk res P → IsOk res → (x : X) × P x
on-ok P (Ok x) p i = (x, p)
on-ok P (Err e) p i = absurd (cc)

-- the same of any chain that the code found
pub lives-there : (rows : List (List ChainSeen)) (n y j : ℕ) (ch : ChainSeen) → Some ch ≡ chain_at rows n y → IsSome (row_of ch.rows j) → (b : ChainSeen) → chain_at rows n y ≡ Some b → IsSome (row_of b.rows j)
lives-there rows n y j ch found lives b e = subst (λ (q : ChainSeen). IsSome (row_of q.rows j)) (some_is ch b (found ∙ e)) lives

-- an edge into a serializer is an act at one
pub edge-serializer : (s : ChainsSeen) (f y : ℕ) (u : NodeId) → IsChains s → IsActOf s.world.deployment (act.Hop f u y) → IsActOf s.world.deployment (act.Kill f y)
edge-serializer s f y u k of = (of.0, of.1, of.2, edge-end of.0 (k.frame.deployment.trees f of.0 of.2) u y of.4)

module _ (w v : ChainsSeen) (e : w ≡ v) (k : IsChains w) where
  -- a refusal
  pub refused : (a : ChainAct) (reason : ChainRefusal) → IsChainActOf v.world.deployment v.replicas a → ChainApplies w a (says.Refused reason) w → ChainApplies v a (says.Refused reason) v
  refused a reason of did = subst (λ (s : ChainsSeen). ChainApplies s a (says.Refused reason) s) e did

  -- a change
  pub done : (a : ChainAct) (n : ChainAnswer) (u : WorldSeen) (m y : ℕ) (ch : ChainSeen) (rows : List (List ChainSeen)) → rows ≡ with_chain w.chains m y ch → IsFrame (with_both w u m y ch) → ChainApplies w a n (with_both w u m y ch) → Did v a n (now_with w u rows)
  done a n u m y ch rows is frame did =
      subst (λ (cs : List (List ChainSeen)). Did v a n (now_with w u cs)) (sym is) (record {
        invariant = stays w (with_both w u m y ch) a n k frame did;
        applies = subst (λ (s : ChainsSeen). ChainApplies s a n (with_both w u m y ch)) e did;
      })

  -- ---- plain acts

  pub plain-deed : (u : WorldSeen) (a : Act) (n : Answer) → IsChainActOf v.world.deployment v.replicas (chain.Plain a) → Applies w.world a n u → Did v (chain.Plain a) (says.Plain n) (now_with w u w.chains)
  plain-deed u a n of did =
      let all : ChainApplies w (chain.Plain a) (says.Plain n) (with_world w u) = plain-applies w u a n k (asked w v (chain.Plain a) e of) did in
      record {
        invariant = stays w (with_world w u) (chain.Plain a) (says.Plain n) k (frame-world w u did.deployment k.frame) all;
        applies = subst (λ (s : ChainsSeen). ChainApplies s (chain.Plain a) (says.Plain n) (with_world w u)) e all;
      }

  module _ (f y : ℕ) (ch : ChainSeen) (found : Some ch ≡ chain_at w.chains (f - 1) y) where
    -- ---- enter

    module _ (u : NodeId) (of : IsChainActOf v.world.deployment v.replicas (chain.Enter f u y)) where
      edge : IsActOf w.world.deployment (act.Hop f u y)
      edge = asked w v (chain.Enter f u y) e of

      had : HasChain w f y ch
      had = record { epochs = edge.1; at = sym found }

      pub head-lives : (o : Option ℕ) (j : ℕ) → o ≡ number_of (first_from (row_of ch.rows) 0 (length ch.rows - 0)) → o ≡ Some j → IsSome (row_of ch.rows j)
      head-lives o j first is =
          let row : (xs : List Pair) × (row_of ch.rows j ≡ Some xs) × (j < 0 + (length ch.rows - 0)) = first-has (row_of ch.rows) 0 (length ch.rows - 0) j (sym is ∙ first) in
          is-list (row_of ch.rows j) row.0 row.1

      pub enter-no-head : (o : Option ℕ) → o ≡ number_of (first_from (row_of ch.rows) 0 (length ch.rows - 0)) → o ≡ None → ChainApplies v (chain.Enter f u y) (says.Refused why.Dead) v
      enter-no-head o first none =
          refused (chain.Enter f u y) why.Dead of
          (refuses w (chain.Enter f u y) why.Dead k edge (λ c run st. enter-dead w.world.deployment w.replicas c f y ch (of-chain w k f y ch had c st) u (sym none ∙ first)))

      pub enter-nothing : (o : Option ℕ) (j ahead : ℕ) (l : Option Label) → o ≡ number_of (first_from (row_of ch.rows) 0 (length ch.rows - 0)) → o ≡ Some j →
          ((xs : List Pair) → row_of ch.rows j ≡ Some xs → ahead ≡ length (labels_from u xs) - get_or ch.taken (code u) 0) →
          ((h : List Entry) → IsRun w.world.deployment h → StandsFor w.world h → (t : TreeShape) → tree_of w.world.deployment f ≡ Some t →
          l ≡ slice_get (entered w.world.deployment h f t u (Serializer y)) (taken w.world.deployment h f u (Serializer y) + ahead)) →
          l ≡ None → ChainApplies v (chain.Enter f u y) (says.Refused why.Empty) v
      enter-nothing o j ahead l first is count look none =
          let row : (xs : List Pair) × (row_of ch.rows j ≡ Some xs) × (j < 0 + (length ch.rows - 0)) = first-has (row_of ch.rows) 0 (length ch.rows - 0) j (sym is ∙ first) in
          refused (chain.Enter f u y) why.Empty of
          (refuses w (chain.Enter f u y) why.Empty k edge (λ c run st.
          enter-answer w.world.deployment w.replicas c f y ch (of-chain w k f y ch had c st) u edge.0 j ahead row.0 None (held-in w c run) edge.2 (small-code w.world.deployment f edge.0 u k.frame.deployment edge.2 edge.3)
          (sym is ∙ first) row.1 (count row.0 row.1) (sym none ∙ look (plain w.replicas c) (held-in w c run).run st.world edge.0 edge.2)))

      pub enter-deed : (o : Option ℕ) (j ahead : ℕ) (x : Option Label) (l : Label) (rows : List (List ChainSeen)) → o ≡ number_of (first_from (row_of ch.rows) 0 (length ch.rows - 0)) → o ≡ Some j →
          ((xs : List Pair) → row_of ch.rows j ≡ Some xs → ahead ≡ length (labels_from u xs) - get_or ch.taken (code u) 0) →
          ((h : List Entry) → IsRun w.world.deployment h → StandsFor w.world h → (t : TreeShape) → tree_of w.world.deployment f ≡ Some t →
          x ≡ slice_get (entered w.world.deployment h f t u (Serializer y)) (taken w.world.deployment h f u (Serializer y) + ahead)) →
          x ≡ Some l → ((b : ChainSeen) (xs : List Pair) → chain_at w.chains (f - 1) y ≡ Some b → row_of b.rows j ≡ Some xs → rows ≡ with_chain w.chains (f - 1) y (after_change b j (xs ++ record { from = u; label = l } ∷ []))) →
          Did v (chain.Enter f u y) (says.Entered l) (now_with w w.world rows)
      enter-deed o j ahead x l rows first is count look there gained =
          let row : (xs : List Pair) × (row_of ch.rows j ≡ Some xs) × (j < 0 + (length ch.rows - 0)) = first-has (row_of ch.rows) 0 (length ch.rows - 0) j (sym is ∙ first) in
          let low : j < 0 + (length ch.rows - 0) = row.2 in
          done (chain.Enter f u y) (says.Entered l) w.world (f - 1) y (after_change ch j (row.0 ++ record { from = u; label = l } ∷ [])) rows (gained ch row.0 (sym found) row.1)
          (gain-frame w k f y ch had j row.0 (record { from = u; label = l }) (omega arith) row.1 edge)
          (enter-applies w k f y ch had u l j ahead row.0 edge (sym is ∙ first) row.1 (count row.0 row.1) (λ h run st t planned. sym there ∙ look h run st t planned))

    -- ---- the acts of one serializer

    module _ (of : IsActOf w.world.deployment (act.Kill f y)) where
      has : HasChain w f y ch
      has = record { epochs = of.1; at = sym found }

      pub bound-in : (i : ℕ) → i < w.replicas → i < length ch.rows
      bound-in i lt = within-rows w k f y ch has i lt

    -- ---- pass

    module _ (i : ℕ) (of : IsChainActOf v.world.deployment v.replicas (chain.Pass f y i)) where
      here : IsActOf w.world.deployment (act.Kill f y) × (i < w.replicas)
      here = asked w v (chain.Pass f y i) e of

      mine : HasChain w f y ch
      mine = record { epochs = here.0.1; at = sym found }

      pub pass-no-head : (o : Option ℕ) → o ≡ number_of (first_from (row_of ch.rows) 0 (length ch.rows - 0)) → o ≡ None → ChainApplies v (chain.Pass f y i) (says.Refused why.Dead) v
      pass-no-head o first none =
          refused (chain.Pass f y i) why.Dead of (refuses w (chain.Pass f y i) why.Dead k here (λ c run st. pass-dead w.world.deployment w.replicas c f y ch (of-chain w k f y ch mine c st) i (sym none ∙ first)))

      pub pass-gone : (o : Option ℕ) (n : ℕ) (b : Bool) → o ≡ number_of (first_from (row_of ch.rows) 0 (length ch.rows - 0)) → o ≡ Some n → b ≡ is_some (row_of ch.rows i) → b ≡ false → ChainApplies v (chain.Pass f y i) (says.Refused why.Crashed) v
      pass-gone o n b first is lives gone =
          refused (chain.Pass f y i) why.Crashed of
          (refuses w (chain.Pass f y i) why.Crashed k here (λ c run st. pass-crashed w.world.deployment w.replicas c f y ch (of-chain w k f y ch mine c st) i n (sym is ∙ first) (no-list ch i b lives gone)))

      pub pass-no-next : (o q : Option ℕ) (n : ℕ) (b : Bool) → o ≡ number_of (first_from (row_of ch.rows) 0 (length ch.rows - 0)) → o ≡ Some n → b ≡ is_some (row_of ch.rows i) → b ≡ true →
          q ≡ number_of (first_from (row_of ch.rows) (i + 1) (length ch.rows - (i + 1))) → q ≡ None → ChainApplies v (chain.Pass f y i) (says.Refused why.Last) v
      pass-no-next o q n b first is lives some next none =
          let own : (xs : List Pair) × (row_of ch.rows i ≡ Some xs) = has-list ch i b lives some in
          refused (chain.Pass f y i) why.Last of
          (refuses w (chain.Pass f y i) why.Last k here (λ c run st. pass-last w.world.deployment w.replicas c f y ch (of-chain w k f y ch mine c st) i n own.0 (sym is ∙ first) own.1 (sym none ∙ next)))

      pub next-list : (q : Option ℕ) (m : ℕ) → q ≡ number_of (first_from (row_of ch.rows) (i + 1) (length ch.rows - (i + 1))) → q ≡ Some m → IsSome (row_of ch.rows m)
      next-list q m next is = let row : (xs : List Pair) × (row_of ch.rows m ≡ Some xs) × (m < (i + 1) + (length ch.rows - (i + 1))) = first-has (row_of ch.rows) (i + 1) (length ch.rows - (i + 1)) m (sym is ∙ next) in is-list (row_of ch.rows m) row.0 row.1

      -- what the code found of the two lists
      pub record Lists (m : ℕ) (len : ℕ) (p : Option Pair) : Type 0 where
        pub next : (ys : List Pair) → row_of ch.rows m ≡ Some ys → len ≡ length ys
        pub pair : (xs : List Pair) → row_of ch.rows i ≡ Some xs → p ≡ slice_get xs len

      pub pass-nothing : (o q : Option ℕ) (n m len : ℕ) (b : Bool) (p : Option Pair) → o ≡ number_of (first_from (row_of ch.rows) 0 (length ch.rows - 0)) → o ≡ Some n → b ≡ is_some (row_of ch.rows i) → b ≡ true →
          q ≡ number_of (first_from (row_of ch.rows) (i + 1) (length ch.rows - (i + 1))) → q ≡ Some m → Lists m len p → p ≡ None → ChainApplies v (chain.Pass f y i) (says.Refused why.Empty) v
      pass-nothing o q n m len b p first is lives some next at lists none =
          let own : (xs : List Pair) × (row_of ch.rows i ≡ Some xs) = has-list ch i b lives some in
          let row : (xs : List Pair) × (row_of ch.rows m ≡ Some xs) × (m < (i + 1) + (length ch.rows - (i + 1))) = first-has (row_of ch.rows) (i + 1) (length ch.rows - (i + 1)) m (sym at ∙ next) in
          let empty : slice_get own.0 (length row.0) ≡ None = ap (slice_get own.0) (sym (lists.next row.0 row.1)) ∙ sym (lists.pair own.0 own.1) ∙ none in
          refused (chain.Pass f y i) why.Empty of
          (refuses w (chain.Pass f y i) why.Empty k here (λ c run st.
          sym (ap passing empty) ∙ pass-answer w.world.deployment w.replicas c f y ch (of-chain w k f y ch mine c st) i n m own.0 row.0 (sym is ∙ first) own.1 (sym at ∙ next) row.1))

      pub pass-deed : (o q : Option ℕ) (n m len : ℕ) (b : Bool) (p : Option Pair) (x : Pair) (rows : List (List ChainSeen)) → o ≡ number_of (first_from (row_of ch.rows) 0 (length ch.rows - 0)) → o ≡ Some n → b ≡ is_some (row_of ch.rows i) → b ≡ true →
          q ≡ number_of (first_from (row_of ch.rows) (i + 1) (length ch.rows - (i + 1))) → q ≡ Some m → Lists m len p → p ≡ Some x →
          ((b : ChainSeen) (xs : List Pair) → chain_at w.chains (f - 1) y ≡ Some b → row_of b.rows m ≡ Some xs → rows ≡ with_chain w.chains (f - 1) y (after_change b m (xs ++ x ∷ []))) →
          Did v (chain.Pass f y i) (says.Passed x.label) (now_with w w.world rows)
      pass-deed o q n m len b p x rows first is lives some next at lists there gained =
          let own : (xs : List Pair) × (row_of ch.rows i ≡ Some xs) = has-list ch i b lives some in
          let row : (xs : List Pair) × (row_of ch.rows m ≡ Some xs) × (m < (i + 1) + (length ch.rows - (i + 1))) = first-has (row_of ch.rows) (i + 1) (length ch.rows - (i + 1)) m (sym at ∙ next) in
          let low : m < (i + 1) + (length ch.rows - (i + 1)) = row.2 in
          let own-low : i < length ch.rows = within-rows w k f y ch mine i here.1 in
          let pair : slice_get own.0 (length row.0) ≡ Some x = ap (slice_get own.0) (sym (lists.next row.0 row.1)) ∙ sym (lists.pair own.0 own.1) ∙ there in
          done (chain.Pass f y i) (says.Passed x.label) w.world (f - 1) y (after_change ch m (row.0 ++ x ∷ [])) rows (gained ch row.0 (sym found) row.1)
          (gain-frame w k f y ch mine m row.0 x (omega arith) row.1 (near-in w k f y ch mine i own.0 x own.1 (In-get own.0 (length row.0) x pair)))
          (pass-applies w k f y ch mine i n m own.0 row.0 x here (sym is ∙ first) own.1 (sym at ∙ next) row.1 pair)

    -- ---- crash

    module _ (i : ℕ) (of : IsChainActOf v.world.deployment v.replicas (chain.Crash f y i)) where
      this : IsActOf w.world.deployment (act.Kill f y) × (i < w.replicas)
      this = asked w v (chain.Crash f y i) e of

      its : HasChain w f y ch
      its = record { epochs = this.0.1; at = sym found }

      pub crash-refused : (b : Bool) → b ≡ is_some (row_of ch.rows i) → b ≡ false → ChainApplies v (chain.Crash f y i) (says.Refused why.Crashed) v
      crash-refused b lives gone =
          refused (chain.Crash f y i) why.Crashed of (refuses w (chain.Crash f y i) why.Crashed k this (λ c run st. crash-gone w.world.deployment w.replicas c f y ch (of-chain w k f y ch its c st) i (no-list ch i b lives gone)))

      -- the chain that the code finds behind the crash
      after : (rows : List (List ChainSeen)) (z : ChainSeen) → rows ≡ with_chain w.chains (f - 1) y (after_crash ch i) → Some z ≡ chain_at rows (f - 1) y → z ≡ after_crash ch i
      after rows z is at = some_is z (after_crash ch i) (at ∙ ap (λ (cs : List (List ChainSeen)). chain_at cs (f - 1) y) is ∙ with-there w.chains (f - 1) y ch (after_crash ch i) (sym found))

      pub crash-there : (rows : List (List ChainSeen)) → ((x : ChainSeen) → chain_at w.chains (f - 1) y ≡ Some x → rows ≡ with_chain w.chains (f - 1) y (after_crash x i)) → IsSome (chain_at rows (f - 1) y)
      crash-there rows crashed =
          some-at (chain_at rows (f - 1) y) (after_crash ch i) (ap (λ (cs : List (List ChainSeen)). chain_at cs (f - 1) y) (crashed ch (sym found)) ∙ with-there w.chains (f - 1) y ch (after_crash ch i) (sym found))

      pub crash-deed : (b : Bool) (rows : List (List ChainSeen)) (z : ChainSeen) (o : Option ℕ) (n : ℕ) → b ≡ is_some (row_of ch.rows i) → b ≡ true →
          ((x : ChainSeen) → chain_at w.chains (f - 1) y ≡ Some x → rows ≡ with_chain w.chains (f - 1) y (after_crash x i)) → Some z ≡ chain_at rows (f - 1) y →
          o ≡ number_of (first_from (row_of z.rows) 0 (length z.rows - 0)) → o ≡ Some n → Did v (chain.Crash f y i) says.Crashed (now_with w w.world rows)
      crash-deed b rows z o n lives some crashed at first is =
          let own : (xs : List Pair) × (row_of ch.rows i ≡ Some xs) = has-list ch i b lives some in
          let same : z ≡ after_crash ch i = after rows z (crashed ch (sym found)) at in
          done (chain.Crash f y i) says.Crashed w.world (f - 1) y (after_crash ch i) rows (crashed ch (sym found)) (crash-frame w k f y ch its i (within-rows w k f y ch its i this.1))
          (crash-applies w k f y ch its i n own.0 this own.1 (sym is ∙ first ∙ ap (λ (q : ChainSeen). number_of (first_from (row_of q.rows) 0 (length q.rows - 0))) same))

      pub kill-deed : {E : Type 0} (b : Bool) (rows : List (List ChainSeen)) (z : ChainSeen) (o : Option ℕ) (u : WorldSeen) (res : Result Answer E) → b ≡ is_some (row_of ch.rows i) → b ≡ true →
          ((x : ChainSeen) → chain_at w.chains (f - 1) y ≡ Some x → rows ≡ with_chain w.chains (f - 1) y (after_crash x i)) → Some z ≡ chain_at rows (f - 1) y →
          o ≡ number_of (first_from (row_of z.rows) 0 (length z.rows - 0)) → o ≡ None → IfOk res (λ r. Applies w.world (act.Kill f y) r u) → IsOk res → Did v (chain.Crash f y i) says.Crashed (now_with w u rows)
      kill-deed b rows z o u res lives some crashed at first none did fine =
          let own : (xs : List Pair) × (row_of ch.rows i ≡ Some xs) = has-list ch i b lives some in
          let same : z ≡ after_crash ch i = after rows z (crashed ch (sym found)) at in
          let killed : (r : Answer) × Applies w.world (act.Kill f y) r u = on-ok (λ r. Applies w.world (act.Kill f y) r u) res did fine in
          done (chain.Crash f y i) says.Crashed u (f - 1) y (after_crash ch i) rows (crashed ch (sym found))
          (frame-world (with_both w w.world (f - 1) y (after_crash ch i)) u killed.1.deployment (crash-frame w k f y ch its i (within-rows w k f y ch its i this.1)))
          (kill-applies w k f y ch its i own.0 u killed.0 this own.1 (sym none ∙ first ∙ ap (λ (q : ChainSeen). number_of (first_from (row_of q.rows) 0 (length q.rows - 0))) same) killed.1)
