-- Notes, one by one, with what was kept before each.
use Rattle.std.proofs.Common.{◌≡◌, ◌⊎◌, ◌<◌, ◌≤◌, ℕ, List, [], ◌∷◌, Option, Some, None, refl, sym, ap, ◌∙◌, subst, arith, inl, inr}
use Rattle.sat_label.specs.declared.node.NodeName.{NodeName}
use Rattle.sat_label.specs.Members.{In}
use Rattle.sat_act.specs.Deployed.{Deployed}
use Rattle.sat_act.specs.Parts.{seat}
use Rattle.sat_stitch.specs.Kept.{OfClient, Kept, history, Each, Rising}
use Rattle.sat_stitch.specs.Places.{Place, InSession, Session, Client as Owner}
use Rattle.sat_stitch.specs.Nodes.{IsAnswerAt}
use Rattle.sat_stitch.specs.Fit.{IsKnown}
use Rattle.sat_session.specs.declared.noted.Noted.{Noted}
use Rattle.sat_session.specs.Sessions.{note_kept, kept_behind, put_alone, alone_behind, IsNote, NotesFrom, NotesRise}

-- ---- an entry that may be kept alone

put-stays : (o : Option NodeName) (k x : Kept) (ks : List Kept) → In ks x → In (put_alone o k ks) x
put-stays None k x ks i = inr i
put-stays (Some name) k x ks i = i

put-here : (o : Option NodeName) (k : Kept) (ks : List Kept) → o ≡ None → In (put_alone o k ks) k
put-here None k ks e = inl refl
put-here (Some name) k ks e = absurd (cc)

in-put : (o : Option NodeName) (k x : Kept) (ks : List Kept) → In (put_alone o k ks) x → ((o ≡ None) × (k ≡ x)) ⊎ In ks x
in-put None k x ks (inl e) = inl (refl, e)
in-put None k x ks (inr i) = inr i
in-put (Some name) k x ks i = inr i

put-rises : (o : Option NodeName) (k : Kept) (ks : List Kept) → Rising ks → ((x : Kept) → In ks x → x.number < k.number) → Rising (put_alone o k ks)
put-rises None k ks r lt = (r, lt)
put-rises (Some name) k ks r lt = r

put-each : (P : List Kept → Kept → Type 0) (o : Option NodeName) (k : Kept) (ks : List Kept) → Each P ks → (o ≡ None → P ks k) → Each P (put_alone o k ks)
put-each P None k ks e f = (e, f refl)
put-each P (Some name) k ks e f = e

-- ---- numbers

below-next : (a m n : ℕ) → a ≤ m → m < n → a < n
below-next a m n le lt = omega arith

less-up : (a n : ℕ) → a < n → a ≤ n
less-up a n lt = omega arith

self-up : (n : ℕ) → n ≤ n
self-up n = omega arith

module _ (d : Deployed) (s : Session) where
  -- ---- members

  pub kept-stays : (ks : List Kept) (ns : List Noted) (k : Kept) → In ks k → In (kept_behind d s ks ns) k
  kept-stays ks [] k i = i
  kept-stays ks (n ∷ ns) k i = kept-stays (note_kept d s ks n ∷ ks) ns k (inr i)

  pub alone-stays : (ks alone : List Kept) (ns : List Noted) (k : Kept) → In alone k → In (alone_behind d s ks alone ns) k
  alone-stays ks alone [] k i = i
  alone-stays ks alone (n ∷ ns) k i = alone-stays (note_kept d s ks n ∷ ks) (put_alone n.at (note_kept d s ks n) alone) ns k (put-stays n.at (note_kept d s ks n) k alone i)

  -- what was kept alone was kept
  pub alone-kept : (ks alone : List Kept) (ns : List Noted) (k : Kept) → ((x : Kept) → In alone x → In ks x) → In (alone_behind d s ks alone ns) k → In (kept_behind d s ks ns) k
  alone-kept ks alone [] k f i = f k i
  alone-kept ks alone (n ∷ ns) k f i = alone-kept (note_kept d s ks n ∷ ks) (put_alone n.at (note_kept d s ks n) alone) ns k more i
    where
      more : (x : Kept) → In (put_alone n.at (note_kept d s ks n) alone) x → In (note_kept d s ks n ∷ ks) x
      more x j = elim (in-put n.at (note_kept d s ks n) x alone j) [ inl w ↦ inl w.1 | inr m ↦ inr (f x m) ]

  -- a note, with the entries before it, whose entry is this one
  pub record Comes (ks alone : List Kept) (ns : List Noted) (k : Kept) : Type 0 where
    pub before : List Kept
    pub note : Noted
    pub there : In ns note
    pub is_note : IsNote d s before note
    pub same : note_kept d s before note ≡ k
    pub kept : In (kept_behind d s ks ns) k
    pub single : note.at ≡ None → In (alone_behind d s ks alone ns) k

  abbrev first-comes : (ks alone : List Kept) (n : Noted) (ns : List Noted) (k : Kept) → IsNote d s ks n → note_kept d s ks n ≡ k → Comes ks alone (n ∷ ns) k
  first-comes ks alone n ns k is e = record {
    before = ks;
    note = n;
    there = inl refl;
    is_note = is;
    same = e;
    kept = kept-stays (note_kept d s ks n ∷ ks) ns k (inl e);
    single = λ w. alone-stays (note_kept d s ks n ∷ ks) (put_alone n.at (note_kept d s ks n) alone) ns k
        (subst (λ (x : Kept). In (put_alone n.at (note_kept d s ks n) alone) x) e (put-here n.at (note_kept d s ks n) alone w));
  }

  abbrev later-comes : (ks alone : List Kept) (n : Noted) (ns : List Noted) (k : Kept) → Comes (note_kept d s ks n ∷ ks) (put_alone n.at (note_kept d s ks n) alone) ns k → Comes ks alone (n ∷ ns) k
  later-comes ks alone n ns k c = record { before = c.before; note = c.note; there = inr c.there; is_note = c.is_note; same = c.same; kept = c.kept; single = c.single }

  -- each entry that was kept comes from a note
  pub in-kept : (ks alone : List Kept) (ns : List Noted) (k : Kept) → NotesFrom d s ks ns → In (kept_behind d s ks ns) k → In ks k ⊎ Comes ks alone ns k
  in-kept ks alone [] k a i = inl i
  in-kept ks alone (n ∷ ns) k a i = elim (in-kept (note_kept d s ks n ∷ ks) (put_alone n.at (note_kept d s ks n) alone) ns k a.1 i) [
    | inl j ↦ elim j [ inl e ↦ inr (first-comes ks alone n ns k a.0 e) | inr m ↦ inl m ]
    | inr c ↦ inr (later-comes ks alone n ns k c)
  ]

  -- and each note is kept
  pub note-comes : (ks alone : List Kept) (ns : List Noted) (n : Noted) → NotesFrom d s ks ns → In ns n → (k : Kept) × (c : Comes ks alone ns k) × (c.note ≡ n)
  note-comes ks alone [] n a i = absurd i
  note-comes ks alone (m ∷ ns) n a (inl e) = (note_kept d s ks m, first-comes ks alone m ns (note_kept d s ks m) a.0 refl, e)
  note-comes ks alone (m ∷ ns) n a (inr i) =
      let w : (k : Kept) × (c : Comes (note_kept d s ks m ∷ ks) (put_alone m.at (note_kept d s ks m) alone) ns k) × (c.note ≡ n) = note-comes (note_kept d s ks m ∷ ks) (put_alone m.at (note_kept d s ks m) alone) ns n a.1 i in
      (w.0, later-comes ks alone m ns w.0 w.1, w.2)

  -- what was kept alone comes from a note at no node
  pub record Alone (ns : List Noted) (k : Kept) : Type 0 where
    pub before : List Kept
    pub note : Noted
    pub is_note : IsNote d s before note
    pub same : note_kept d s before note ≡ k
    pub nowhere : note.at ≡ None

  first-alone : (ks : List Kept) (n : Noted) (ns : List Noted) (k : Kept) → IsNote d s ks n → (n.at ≡ None) × (note_kept d s ks n ≡ k) → Alone (n ∷ ns) k
  first-alone ks n ns k is w = record { before = ks; note = n; is_note = is; same = w.1; nowhere = w.0 }

  later-alone : (n : Noted) (ns : List Noted) (k : Kept) → Alone ns k → Alone (n ∷ ns) k
  later-alone n ns k c = record { before = c.before; note = c.note; is_note = c.is_note; same = c.same; nowhere = c.nowhere }

  pub in-alone : (ks alone : List Kept) (ns : List Noted) (k : Kept) → NotesFrom d s ks ns → In (alone_behind d s ks alone ns) k → In alone k ⊎ Alone ns k
  in-alone ks alone [] k a i = inl i
  in-alone ks alone (n ∷ ns) k a i = elim (in-alone (note_kept d s ks n ∷ ks) (put_alone n.at (note_kept d s ks n) alone) ns k a.1 i) [
    | inl j ↦ elim (in-put n.at (note_kept d s ks n) k alone j) [ inl w ↦ inr (first-alone ks n ns k a.0 w) | inr m ↦ inl m ]
    | inr c ↦ inr (later-alone n ns k c)
  ]

  -- ---- numbers that rise along notes rise in what was kept

  pub kept-rises : (m : ℕ) (ks : List Kept) (ns : List Noted) → Rising ks → ((x : Kept) → In ks x → x.number ≤ m) → NotesRise m ns → Rising (kept_behind d s ks ns)
  kept-rises m ks [] r le up = r
  kept-rises m ks (n ∷ ns) r le up = kept-rises n.lamport (note_kept d s ks n ∷ ks) ns (r, λ x i. below-next x.number m n.lamport (le x i) up.0) bound up.1
    where
      bound : (x : Kept) → In (note_kept d s ks n ∷ ks) x → x.number ≤ n.lamport
      bound x (inl e) = subst (λ (z : Kept). z.number ≤ n.lamport) e (self-up n.lamport)
      bound x (inr i) = less-up x.number n.lamport (below-next x.number m n.lamport (le x i) up.0)

  pub alone-rises : (m : ℕ) (ks alone : List Kept) (ns : List Noted) → Rising alone → ((x : Kept) → In alone x → x.number ≤ m) → NotesRise m ns → Rising (alone_behind d s ks alone ns)
  alone-rises m ks alone [] r le up = r
  alone-rises m ks alone (n ∷ ns) r le up =
      alone-rises n.lamport (note_kept d s ks n ∷ ks) (put_alone n.at (note_kept d s ks n) alone) ns
      (put-rises n.at (note_kept d s ks n) alone r (λ x i. below-next x.number m n.lamport (le x i) up.0)) bound up.1
    where
      bound : (x : Kept) → In (put_alone n.at (note_kept d s ks n) alone) x → x.number ≤ n.lamport
      bound x j = elim (in-put n.at (note_kept d s ks n) x alone j) [
        | inl w ↦ subst (λ (z : Kept). z.number ≤ n.lamport) w.1 (self-up n.lamport)
        | inr i ↦ less-up x.number n.lamport (below-next x.number m n.lamport (le x i) up.0)
      ]

-- ---- of a client

module _ (d : Deployed) (c : ℕ) where
  pub kept-known : (lists : Place → List Kept) (ks : List Kept) (ns : List Noted) → Each (IsKnown d lists c) ks → NotesFrom d (Owner c) ks ns → Each (IsKnown d lists c) (kept_behind d (Owner c) ks ns)
  kept-known lists ks [] e a = e
  kept-known lists ks (n ∷ ns) e a = kept-known lists (note_kept d (Owner c) ks n ∷ ks) ns (e, λ j. OfClient (a.0.knew j) (seat d (history ks) c)) a.1

  pub alone-answers : (ks alone : List Kept) (ns : List Noted) → Each (IsAnswerAt d (InSession c)) alone → NotesFrom d (Owner c) ks ns → Each (IsAnswerAt d (InSession c)) (alone_behind d (Owner c) ks alone ns)
  alone-answers ks alone [] e a = e
  alone-answers ks alone (n ∷ ns) e a =
      alone-answers (note_kept d (Owner c) ks n ∷ ks) (put_alone n.at (note_kept d (Owner c) ks n) alone) ns
      (put-each (IsAnswerAt d (InSession c)) n.at (note_kept d (Owner c) ks n) alone e a.0.answers) a.1
