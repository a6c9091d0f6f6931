-- What an act may come to, with what that tells of the history before it.
use Rattle.std.specs.Prelude.{◌≡◌, ℕ, ◌+◌, ◌^◌, Bool, true, false, ◌&&◌, ◌||◌, not, ◌==◌, nat_le, max, List, length, [], ◌∷◌, filter, Option, Some, None, is_some, slice_get, if◌then◌else◌, refl}
use Rattle.std.proofs.Common.{sym}
use Rattle.sat_label.specs.declared.items.Items.TheVariants.{One}
use Rattle.sat_label.specs.declared.label.Kind.TheVariants as kind
use Rattle.sat_label.specs.declared.label.Label.{Label}
use Rattle.sat_label.specs.declared.node.NodeId.{NodeId}
use Rattle.sat_label.specs.declared.node.NodeId.TheVariants.{Site, Serializer}
use Rattle.sat_label.specs.Order.{point_at, label_eq, node_eq}
use Rattle.sat_label.specs.Words.{has}
use Rattle.sat_label.specs.Grouped.{least_item, list_of}
use Rattle.sat_act.specs.Done.{Written, write_in}
use Rattle.sat_tree.specs.Shape.{TreeShape}
use Rattle.sat_tree.specs.Cut.{neighbours}
use Rattle.sat_act.specs.declared.act.Act.{Act}
use Rattle.sat_act.specs.declared.act.Act.TheVariants as act
use Rattle.sat_act.specs.declared.answer.Answer.{Answer}
use Rattle.sat_act.specs.declared.answer.Answer.TheVariants as ans
use Rattle.sat_act.specs.declared.answer.Refusal.{Refusal}
use Rattle.sat_act.specs.declared.answer.Refusal.TheVariants as why
use Rattle.sat_act.specs.declared.entry.Entry.{Entry}
use Rattle.sat_act.specs.Deployed.{Deployed}
use Rattle.sat_act.specs.Parts.{BeatNote, lane_front, replicates, keeps_all, tree_of, promise, least_promise, stable, ready, cut, last_pulse, emission, view, in_stamp_mode, seat_in, goes_beyond, link_front, killed, is_update, version, value_of, lane, brought, waiting, beats, beats_taken, best, seat, carried, may_attach, next_stamp}
use Rattle.sat_act.specs.Answers.{answer, refused_if, at_seat, gear_of, base, turned, bulk_to, may_advance, greatest_promise}

-- the label that a write at site i makes
abbrev pub write_label : Deployed → List Entry → Written → ℕ → Label
write_label d h w i = record { point = point_at (base h w.client i (gear_of d (least_item (list_of w.items))) + 1) i (gear_of d (least_item (list_of w.items))); kind = kind.Update w.items }

pub data Step (d : Deployed) (h : List Entry) : Act → Answer → Type 0 where
  ticked : {i g t : ℕ} → Step d h (act.Tick i g t) (ans.Ticked (max (promise h i g) t))
  clocked : Step d h act.Clock (ans.Clocked (greatest_promise h d.sites d.gears))
  wrote : {a : Act} {w : Written} {i : ℕ} → write_in a ≡ Some w → seat d h w.client ≡ Some i → keeps_all d (list_of w.items) i ≡ true → nat_le (2 ^ 62) (base h w.client i (gear_of d (least_item (list_of w.items)))) ≡ false →
      Step d h a (ans.Wrote (write_label d h w i))
  read_none : {c x i : ℕ} → seat d h c ≡ Some i → replicates d x i ≡ true → version h i x ≡ None → Step d h (act.Read c x) ans.ReadNone
  read_some : {c x i : ℕ} {l : Label} → seat d h c ≡ Some i → replicates d x i ≡ true → version h i x ≡ Some l → Step d h (act.Read c x) (ans.ReadSome l (value_of h l x))
  moved : {c j i : ℕ} → seat d h c ≡ Some i → (j == i) ≡ false → nat_le (2 ^ 62) (base h c i 0) ≡ false →
      Step d h (act.Move c j) (ans.Moved (record { point = point_at (base h c i 0 + 1) i 0; kind = kind.Move j }))
  left : {c i : ℕ} → seat d h c ≡ Some i → Step d h (act.Leave c) (ans.Left (carried h c))
  attached : {c j : ℕ} → seat d h c ≡ None → may_attach d h c j ≡ true → Step d h (act.Attach c j) ans.Attached
  gathered_now : {i n s : ℕ} → s ≡ least_promise h i d.gears → Step d h (act.Gather i) (ans.Gathered n s)
  emitted : {i : ℕ} {l : Label} → ready d h i ≡ Some l → Step d h (act.Emit i) (ans.Emitted l)
  pulsed : {i : ℕ} → ready d h i ≡ None → nat_le (stable d h i) (last_pulse h i) ≡ false →
      Step d h (act.Pulse i) (ans.Pulsed (record { point = point_at (stable d h i) i 65534; kind = kind.Pulse }))
  hopped : {e z : ℕ} {u : NodeId} {t : TreeShape} {l : Label} {to : List NodeId} → tree_of d e ≡ Some t → link_front d h e t u (Serializer z) ≡ Some l → Step d h (act.Hop e u z) (ans.Hopped l to)
  showed_turn : {j : ℕ} {t : TreeShape} {z : NodeId} {l : Label} → in_stamp_mode d h j ≡ false → tree_of d (view h j) ≡ Some t → seat_in d (view h j) j ≡ Some z → link_front d h (view h j) t z (Site j) ≡ Some l →
      is_update l.kind ≡ true → has label_eq (waiting h j) l ≡ true → Step d h (act.Turn j) (ans.Shown l)
  took : {j : ℕ} {t : TreeShape} {z : NodeId} {l : Label} → in_stamp_mode d h j ≡ false → tree_of d (view h j) ≡ Some t → seat_in d (view h j) j ≡ Some z → link_front d h (view h j) t z (Site j) ≡ Some l →
      is_update l.kind ≡ false → Step d h (act.Turn j) (ans.Took l)
  brought_now : {i g j : ℕ} {o : Option ℕ} {l : Label} (n : ℕ) → slice_get (lane d h i g j) n ≡ Some l → has label_eq (brought h j) l ≡ false → Step d h (act.Bulk i g j o) (ans.Brought l)
  again : {a : Act} → Step d h a ans.Again
  beat : {i j : ℕ} → Step d h (act.Beat i j) (ans.Beat (length (beats d h i j)))
  beat_came : {i j n : ℕ} → nat_le (length (beats d h i j)) n ≡ false → Step d h (act.BeatIn i j n) ans.Taken
  old : {a : Act} → Step d h a ans.Old
  showed_stamp : {j : ℕ} {l : Label} → in_stamp_mode d h j ≡ true → next_stamp d h j ≡ Some l → Step d h (act.Stamp j) (ans.Shown l)
  closed : {i : ℕ} → (emission h i == length d.plans) ≡ false → (emission h i == view h i + 1) ≡ false → Step d h (act.Close i) (ans.Closed (emission h i) (cut d h i))
  fell : {j : ℕ} → in_stamp_mode d h j ≡ false → (emission h j == view h j) ≡ false → Step d h (act.Fall j) ans.Fallen
  advanced : {j : ℕ} → (emission h j == view h j) ≡ false → may_advance d h j ≡ true → Step d h (act.Advance j) (ans.View (view h j + 1))
  killed_now : {e z : ℕ} → Step d h (act.Kill e z) ans.Killed
  settled : {r n : ℕ} → Step d h act.Settle (ans.Settled r n)
  refused : {a : Act} {r : Refusal} → Step d h a (ans.Refused r)

module _ (d : Deployed) (h : List Entry) where
  -- a test that refuses, or else the rest
  tested : (a : Act) (b : Bool) (r : Refusal) (rest : Answer) → (b ≡ false → Step d h a rest) → Step d h a (refused_if b r rest)
  tested a true r rest next = refused
  tested a false r rest next = next refl

  seated : (a : Act) (o : Option ℕ) (f : ℕ → Answer) → ((i : ℕ) → o ≡ Some i → Step d h a (f i)) → Step d h a (at_seat o f)
  seated a None f next = refused
  seated a (Some i) f next = next i refl

  not_false : (b : Bool) → not b ≡ false → b ≡ true
  not_false true e = refl
  not_false false e = sym e

  read_cases : (c x i : ℕ) → seat d h c ≡ Some i → replicates d x i ≡ true → (o : Option Label) → version h i x ≡ o → Step d h (act.Read c x) (elim o [ None ↦ ans.ReadNone | Some l ↦ ans.ReadSome l (value_of h l x) ])
  read_cases c x i s r None e = read_none s r e
  read_cases c x i s r (Some l) e = read_some s r e

  none_of : {X : Type 0} (o : Option X) → is_some o ≡ false → o ≡ None
  none_of None e = refl
  none_of (Some x) e = absurd (cc)

  or_false : (a b : Bool) → (a || b) ≡ false → (a ≡ false) × (b ≡ false)
  or_false true b e = absurd (cc)
  or_false false b e = (refl, e)

  emit_cases : (i : ℕ) (o : Option Label) → ready d h i ≡ o → Step d h (act.Emit i) (elim o [ None ↦ ans.Refused why.Idle | Some l ↦ ans.Emitted l ])
  emit_cases i None e = refused
  emit_cases i (Some l) e = emitted e

  hop_front : (e z : ℕ) (u : NodeId) (t : TreeShape) → tree_of d e ≡ Some t → (f : Label → List NodeId) (o : Option Label) → link_front d h e t u (Serializer z) ≡ o →
      Step d h (act.Hop e u z) (elim o [ None ↦ ans.Refused why.Empty | Some l ↦ ans.Hopped l (f l) ])
  hop_front e z u t k f None w = refused
  hop_front e z u t k f (Some l) w = hopped k w

  hop_tree : (e z : ℕ) (u : NodeId) (f : TreeShape → Label → List NodeId) (o : Option TreeShape) → tree_of d e ≡ o →
      Step d h (act.Hop e u z) (elim o [
        | None ↦ ans.Refused why.Empty
        | Some t ↦ elim (link_front d h e t u (Serializer z)) [ None ↦ ans.Refused why.Empty | Some l ↦ ans.Hopped l (f t l) ]
      ])
  hop_tree e z u f None k = refused
  hop_tree e z u f (Some t) k = hop_front e z u t k (f t) (link_front d h e t u (Serializer z)) refl

  turn_payload : (j : ℕ) (t : TreeShape) (z : NodeId) (l : Label) → in_stamp_mode d h j ≡ false → tree_of d (view h j) ≡ Some t → seat_in d (view h j) j ≡ Some z → link_front d h (view h j) t z (Site j) ≡ Some l →
      (b c : Bool) → is_update l.kind ≡ b → has label_eq (waiting h j) l ≡ c →
      Step d h (act.Turn j) (if b then (if c then ans.Shown l else ans.Refused (why.NoPayload l)) else ans.Took l)
  turn_payload j t z l m k s w true true u p = showed_turn m k s w u p
  turn_payload j t z l m k s w true false u p = refused
  turn_payload j t z l m k s w false c u p = took m k s w u

  turn_front : (j : ℕ) (t : TreeShape) (z : NodeId) → in_stamp_mode d h j ≡ false → tree_of d (view h j) ≡ Some t → seat_in d (view h j) j ≡ Some z →
      (o : Option Label) → link_front d h (view h j) t z (Site j) ≡ o →
      Step d h (act.Turn j) (elim o [ None ↦ ans.Refused why.Empty | Some l ↦ turned (waiting h j) l ])
  turn_front j t z m k s None w = refused
  turn_front j t z m k s (Some l) w = turn_payload j t z l m k s w (is_update l.kind) (has label_eq (waiting h j) l) refl refl

  turn_seat : (j : ℕ) (t : TreeShape) → in_stamp_mode d h j ≡ false → tree_of d (view h j) ≡ Some t → (o : Option NodeId) → seat_in d (view h j) j ≡ o →
      Step d h (act.Turn j) (elim o [
        | None ↦ ans.Refused why.Empty
        | Some z ↦ elim (link_front d h (view h j) t z (Site j)) [ None ↦ ans.Refused why.Empty | Some l ↦ turned (waiting h j) l ]
      ])
  turn_seat j t m k None s = refused
  turn_seat j t m k (Some z) s = turn_front j t z m k s (link_front d h (view h j) t z (Site j)) refl

  turn_tree : (j : ℕ) → in_stamp_mode d h j ≡ false → (o : Option TreeShape) → tree_of d (view h j) ≡ o →
      Step d h (act.Turn j) (elim o [
        | None ↦ ans.Refused why.Empty
        | Some t ↦ elim (seat_in d (view h j) j) [
          | None ↦ ans.Refused why.Empty
          | Some z ↦ elim (link_front d h (view h j) t z (Site j)) [ None ↦ ans.Refused why.Empty | Some l ↦ turned (waiting h j) l ]
        ]
      ])
  turn_tree j m None k = refused
  turn_tree j m (Some t) k = turn_seat j t m k (seat_in d (view h j) j) refl

  bring_payload : (i g j n : ℕ) (number : Option ℕ) (l : Label) → slice_get (lane d h i g j) n ≡ Some l → (b : Bool) → has label_eq (brought h j) l ≡ b →
      Step d h (act.Bulk i g j number) (if b then ans.Again else ans.Brought l)
  bring_payload i g j n number l w true e = again
  bring_payload i g j n number l w false e = brought_now n w e

  bring_cases : (i g j n : ℕ) (number : Option ℕ) → (o : Option Label) → slice_get (lane d h i g j) n ≡ o →
      Step d h (act.Bulk i g j number) (elim o [ None ↦ ans.Refused why.NoSuch | Some l ↦ if has label_eq (brought h j) l then ans.Again else ans.Brought l ])
  bring_cases i g j n number None e = refused
  bring_cases i g j n number (Some l) e = bring_payload i g j n number l e (has label_eq (brought h j) l) refl

  bulk_cases : (i g j : ℕ) (number : Option ℕ) → Step d h (act.Bulk i g j number) (bulk_to d h i g j number)
  unfolding bulk_to
  bulk_cases i g j None = bring_cases i g j (lane_front d h i g j) None (slice_get (lane d h i g j) (lane_front d h i g j)) refl
  bulk_cases i g j (Some n) = bring_cases i g j n (Some n) (slice_get (lane d h i g j) n) refl

  taken_or_again : (i j n : ℕ) → nat_le (length (beats d h i j)) n ≡ false → (b : Bool) → Step d h (act.BeatIn i j n) (if b then ans.Again else ans.Taken)
  taken_or_again i j n w true = again
  taken_or_again i j n w false = beat_came w

  old_or_not : (i j n : ℕ) (b : Bool) (rest : Answer) → Step d h (act.BeatIn i j n) rest → Step d h (act.BeatIn i j n) (if b then ans.Old else rest)
  old_or_not i j n true rest s = old
  old_or_not i j n false rest s = s

  beat_best : (i j n : ℕ) → nat_le (length (beats d h i j)) n ≡ false → (o : Option (ℕ × BeatNote)) →
      Step d h (act.BeatIn i j n) (elim o [
        | None ↦ if has ◌==◌ (beats_taken h i j) n then ans.Again else ans.Taken
        | Some b ↦ if nat_le n b.0 then ans.Old else (if has ◌==◌ (beats_taken h i j) n then ans.Again else ans.Taken)
      ])
  beat_best i j n w None = taken_or_again i j n w (has ◌==◌ (beats_taken h i j) n)
  beat_best i j n w (Some b) = old_or_not i j n (nat_le n b.0) _ (taken_or_again i j n w (has ◌==◌ (beats_taken h i j) n))

  stamp_cases : (j : ℕ) → in_stamp_mode d h j ≡ true → (o : Option Label) → next_stamp d h j ≡ o →
      Step d h (act.Stamp j) (elim o [ None ↦ ans.Refused why.NotYet | Some l ↦ ans.Shown l ])
  stamp_cases j m None e = refused
  stamp_cases j m (Some l) e = showed_stamp m e

  pub outcome : (a : Act) → Step d h a (answer d h a)
  unfolding answer
  outcome (act.Tick i g t) = ticked
  outcome act.Clock = clocked
  outcome (act.Write c x value) =
      seated (act.Write c x value) (seat d h c) _ (λ i s. tested _ _ _ _ (λ r. tested _ _ _ _ (λ b. wrote {w = record { client = c; items = One x; values = value ∷ [] }} refl s (not_false _ r) b)))
  outcome (act.Writes c items values) =
      seated (act.Writes c items values) (seat d h c) _ (λ i s. tested _ _ _ _ (λ r. tested _ _ _ _ (λ b. wrote {w = record { client = c; items = items; values = values }} refl s (not_false _ r) b)))
  outcome (act.Read c x) = seated (act.Read c x) (seat d h c) _ (λ i s. tested _ _ _ _ (λ r. read_cases c x i s (not_false _ r) (version h i x) refl))
  outcome (act.Move c j) = seated (act.Move c j) (seat d h c) _ (λ i s. tested _ _ _ _ (λ r. tested _ _ _ _ (λ b. moved s r b)))
  outcome (act.Leave c) = seated (act.Leave c) (seat d h c) _ (λ i s. left s)
  outcome (act.Attach c j) = tested _ _ _ _ (λ s. tested _ _ _ _ (λ m. attached (none_of _ s) (not_false _ m)))
  outcome (act.Gather i) = gathered_now refl
  outcome (act.Emit i) = emit_cases i (ready d h i) refl
  outcome (act.Pulse i) = tested _ _ _ _ (λ e. let p = or_false _ _ e in pulsed (none_of _ p.0) p.1)
  outcome (act.Hop e u z) =
      tested _ (killed h e z) why.Dead _
      (λ _. hop_tree e z u (λ t l. filter (λ v. not (node_eq u v) && goes_beyond d t (Serializer z) v l) (neighbours t z)) (tree_of d e) refl)
  outcome (act.Turn j) = tested _ _ _ _ (λ m. turn_tree j m (tree_of d (view h j)) refl)
  outcome (act.Bulk i g j n) = bulk_cases i g j n
  outcome (act.Beat i j) = beat
  outcome (act.BeatIn i j n) = tested _ _ _ _ (λ w. beat_best i j n w (best d h j i))
  outcome (act.Stamp j) = tested _ _ _ _ (λ m. stamp_cases j (not_false _ m) (next_stamp d h j) refl)
  outcome (act.Close i) = tested _ _ _ _ (λ p. tested _ _ _ _ (λ b. closed p b))
  outcome (act.Fall j) = tested _ _ _ _ (λ m. tested _ _ _ _ (λ c. fell m c))
  outcome (act.Advance j) = tested _ _ _ _ (λ c. tested _ _ _ _ (λ m. advanced c (not_false _ m)))
  outcome (act.Kill e z) = tested _ _ _ _ (λ _. killed_now)
  outcome act.Settle = settled
