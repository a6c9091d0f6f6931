-- From each pair of ends to all links.
use Rattle.std.proofs.Common.{◌≡◌, ◌≢◌, ℕ, zero, suc, ◌<◌, ◌+◌, List, [], ◌∷◌, length, take, drop, Some, slice_get, slice_set, get_or, refl, sym, ap, ◌∙◌, subst, arith, ⊎_elim, ◌⊎◌, Result, Ok, Err, false, if◌then◌else◌, is_ok, is_err}
use Rattle.std.proofs.lemmas.Option.{slice_get_within, slice_get_read}
use Rattle.std.proofs.lemmas.List.{set-get_or}
use Rattle.std.specs.List.{insert, remove}
use mathlib.Core.List.{IsPrefix}
use Rattle.sat_node.specs.Meanings.{Meaning}
use Rattle.sat_node.specs.Puts.{OutSeen, puttings, sealed, put_by, Sends}
use Rattle.sat_node.specs.Links.{InSeen, HeldSeen, takings, Took}
use Rattle.sat_node.specs.Opened.{AgreeEnds, AgreeOut, AgreeNodes, AgreeRow, AgreeAll, AgreeWithin}
use Rattle.sat_node.proofs.Sending.{put_rest}
use Rattle.sat_node.proofs.Taking.{handed_on}

-- one number more
one_more : (P : ℕ → Type 0) (n : ℕ) → ((x : ℕ) → x < n → P x) → P n → (x : ℕ) → x < n + 1 → P x
one_more P n below here x less = ⊎_elim (λ (a : x < n). below x a) (λ (e : x ≡ n). subst P (sym e) here) (cases x n less) where
  cases : (x n : ℕ) → x < n + 1 → (x < n) ⊎ (x ≡ n)
  cases x n h = grind arith

module _ {S T M K I A J B : Type 0} (m : Meaning S I A) (n : Meaning T J B) where
  pub ends_agree : (sender : HeldSeen M I A) (k : ℕ) (receiver : HeldSeen K J B) (j : ℕ) (from : OutSeen) (to : InSeen)
      → Sends (m.puts sender.node.name k) sender.node.entries from → Took (takings (n.takes receiver.node.name j) receiver.node.entries) to
      → slice_get sender.outs k ≡ Some from → slice_get receiver.ins j ≡ Some to → (from.place ≡ to.place → IsPrefix to.link.received from.link.sent) → AgreeEnds m n sender k receiver j
  unfolding AgreeEnds
  ends_agree sender k receiver j from to sends took at_from at_to pre o i at_o at_i place =
      let of = m.puts sender.node.name k in
      let ks = sender.node.entries in
      let same_o : from ≡ o = cc (at_from, at_o) in
      let same_i : to ≡ i = cc (at_to, at_i) in
      handed_on to (takings (n.takes receiver.node.name j) receiver.node.entries) from.link.sent (put_by of ks) (sealed (puttings of (take from.next ks)) (puttings of (drop from.next ks))) took
      (pre (ap (λ (x : OutSeen). x.place) same_o ∙ (place ∙ sym (ap (λ (x : InSeen). x.place) same_i)))) (put_rest of ks from sends)

  pub out_agrees : (sender : HeldSeen M I A) (k : ℕ) (receiver : HeldSeen K J B) → ((j : ℕ) → j < length receiver.ins → AgreeEnds m n sender k receiver j) → AgreeOut m n sender k receiver
  unfolding AgreeOut AgreeEnds
  out_agrees sender k receiver h j o i at_o at_i place = h j (slice_get_within receiver.ins j i at_i) o i at_o at_i place

  pub nodes_agree : (sender : HeldSeen M I A) (receiver : HeldSeen K J B) → ((k : ℕ) → k < length sender.outs → AgreeOut m n sender k receiver) → AgreeNodes m n sender receiver
  unfolding AgreeNodes AgreeOut AgreeEnds
  nodes_agree sender receiver h k j o i at_o at_i place = h k (slice_get_within sender.outs k o at_o) j o i at_o at_i place

  pub row_agrees : (sender : HeldSeen M I A) (receivers : List (HeldSeen K J B)) → ((b : ℕ) (r : HeldSeen K J B) → b < length receivers → slice_get receivers b ≡ Some r → AgreeNodes m n sender r) → AgreeRow m n sender receivers
  unfolding AgreeRow
  row_agrees sender receivers h b r at = h b r (slice_get_within receivers b r at) at

  pub all_agree : (senders : List (HeldSeen M I A)) (receivers : List (HeldSeen K J B)) → ((a : ℕ) (s : HeldSeen M I A) → a < length senders → slice_get senders a ≡ Some s → AgreeRow m n s receivers) → AgreeAll m n senders receivers
  unfolding AgreeAll
  all_agree senders receivers h a s at = h a s (slice_get_within senders a s at) at

-- where another member is in the list without one
pub at_rest : {X : Type 0} (xs : List X) (a b : ℕ) (x : X) → a ≢ b → slice_get xs b ≡ Some x → (c : ℕ) × (slice_get (remove xs a) c ≡ Some x)
at_rest [] a b x apart at = absurd (cc (at))
at_rest (y ∷ ys) zero zero x apart at = absurd (apart refl)
at_rest (y ∷ ys) zero (suc b) x apart at = (b, at)
at_rest (y ∷ ys) (suc a) zero x apart at = (zero, at)
at_rest (y ∷ ys) (suc a) (suc b) x apart at = (let there = at_rest ys a b x (λ e. apart (ap suc e)) at in (suc there.0, there.1))

module _ {S M I A : Type 0} (m : Meaning S I A) where
  pub within_agrees : (nodes : List (HeldSeen M I A)) → ((a : ℕ) (s : HeldSeen M I A) → a < length nodes → slice_get nodes a ≡ Some s → AgreeRow m m s (remove nodes a)) → AgreeWithin m nodes
  unfolding AgreeWithin AgreeRow
  within_agrees nodes h a b s r apart at_s at_r = (let there = at_rest nodes a b r apart at_r in h a s (slice_get_within nodes a s at_s) at_s there.0 r there.1)

-- a member that was taken out and put back
pub put_back : {X : Type 0} (xs : List X) (i : ℕ) (x : X) → slice_get xs i ≡ Some x → insert (remove xs i) i x ≡ xs
put_back [] i x e = absurd (cc (e))
put_back (y ∷ ys) zero x e = (let same : y ≡ x = cc (e) in ap (λ z. z ∷ ys) (sym same))
put_back (y ∷ ys) (suc i) x e = ap (λ l. y ∷ l) (put_back ys i x e)

-- where an insertion did not fail
pub inserted : {X U E : Type 0} (r : Result U E) (new put old : List X) → false ≡ is_err r → new ≡ (if is_ok r then put else old) → new ≡ put
inserted (Ok x) new put old well h = h
inserted (Err e) new put old well h = absurd (cc well)

-- one member more
pub within_step : {X : Type 0} (P : ℕ → X → Type 0) (start : List X) (b : ℕ) (was : X) → slice_get start b ≡ Some was → P b was
    → ((x : ℕ) (r : X) → x < b → slice_get start x ≡ Some r → P x r) → (x : ℕ) (r : X) → x < b + 1 → slice_get start x ≡ Some r → P x r
within_step {X} P start b was there here below x r less is =
    let Q : ℕ → Type 0 = λ y. (r : X) → slice_get start y ≡ Some r → P y r in
    one_more Q b (λ y l r e. below y r l e) (λ r e. let same : was ≡ r = cc (there, e) in subst (P b) same here) x less r is

-- a row of a list that stays
pub list_same : {X : Type 0} (now start : List X) (b : ℕ) (was new : X) → now ≡ start → new ≡ was → was ≡ get_or now b was → slice_set now b new ≡ start
list_same {X} now start b was new stay same at = ap (slice_set now b) (same ∙ at) ∙ (set-get_or now b was ∙ stay)

pub list_step : {X : Type 0} (P : X → Type 0) (now start : List X) (b : ℕ) (was : X) → now ≡ start → b < length now → was ≡ get_or now b was → P was
    → ((x : ℕ) (r : X) → x < b → slice_get start x ≡ Some r → P r) → (x : ℕ) (r : X) → x < b + 1 → slice_get start x ≡ Some r → P r
list_step {X} P now start b was stay within at here below x r less is =
    let there : slice_get start b ≡ Some was = ap (λ (l : List X). slice_get l b) (sym stay) ∙ slice_get_read now (length now) b was refl within at in
    within_step (λ _ s. P s) start b was there here below x r less is
