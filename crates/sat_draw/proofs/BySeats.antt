-- Every run goes by seats: what a client does at a seat it does at its own, and only who has none comes to one or waits.
use Rattle.std.proofs.Common.{◌≡◌, ℕ, Bool, true, false, List, [], ◌∷◌, ◌++◌, refl, sym, ap, subst, ◌∙◌, inl, inr}
use Rattle.std.specs.Prelude.{not, Option, Some, None, is_some}
use Rattle.sat_label.specs.declared.label.Label.{Label}
use Rattle.sat_act.specs.declared.act.Act.{Act}
use Rattle.sat_act.specs.declared.act.Act.TheVariants as act
use Rattle.sat_act.specs.declared.answer.Answer.{Answer}
use Rattle.sat_act.specs.declared.answer.Answer.TheVariants as ans
use Rattle.sat_act.specs.declared.answer.Refusal.TheVariants as why
use Rattle.sat_act.specs.declared.entry.Entry.{Entry}
use Rattle.sat_act.specs.Deployed.{Deployed}
use Rattle.sat_act.specs.Done.{of_client}
use Rattle.sat_act.specs.Parts.{seat, may_attach}
use Rattle.sat_act.specs.Answers.{refused_if, at_seat, answer}
use Rattle.sat_act.specs.Runs.{IsAnswer, IsRun}
use Rattle.sat_draw.specs.Trails.{is_not_yet, reseated, after_change}
use Rattle.sat_draw.specs.Seats.{IsWithout, IsOfRun}
use Rattle.sat_draw.proofs.Following.{seat-step}

abbrev pub is_attach : Act → Bool
is_attach (act.Attach c j) = true
is_attach _ = false

-- the answers of what a client does at its seat
abbrev pub at_a_seat : Answer → Bool
at_a_seat (ans.Wrote l) = true
at_a_seat ans.ReadNone = true
at_a_seat (ans.ReadSome l v) = true
at_a_seat (ans.Moved l) = true
at_a_seat (ans.Left p) = true
at_a_seat _ = false

-- those of an attach of a client that has no seat
abbrev pub without_one : Answer → Bool
without_one ans.Attached = true
without_one (ans.Refused r) = is_not_yet r
without_one _ = false

-- an entry goes by the seats behind a history
pub record GoesBySeat (d : Deployed) (before : List Entry) (entry : Entry) : Type 0 where
  pub seated : (c : ℕ) → of_client entry.act ≡ Some c → at_a_seat entry.answer ≡ true
      → (is_attach entry.act ≡ false) × ((i : ℕ) × (seat d before c ≡ Some i))
  pub seatless : (c : ℕ) → of_client entry.act ≡ Some c → without_one entry.answer ≡ true → seat d before c ≡ None

pub record GoesBySeats (d : Deployed) (h : List Entry) : Type 0 where
  pub each : (later : List Entry) (entry : Entry) (before : List Entry) → h ≡ later ++ entry ∷ before
      → GoesBySeat d before entry

-- ---- answers

pub some-number : (b c : ℕ) → Some b ≡ Some c → b ≡ c
some-number b c e = ap (λ (o : Option ℕ). elim o [ None ↦ b | Some x ↦ x ]) e

some-seat : (o : Option ℕ) (f : ℕ → Answer) → at_a_seat (at_seat o f) ≡ true → (i : ℕ) × (o ≡ Some i)
some-seat None f e = absurd (cc)
some-seat (Some i) f e = (i, refl)

never-attached : (p q : Bool) → at_a_seat (refused_if p why.Joined (refused_if q why.NotYet ans.Attached)) ≡ true → ⊥
never-attached true q e = absurd (cc)
never-attached false true e = absurd (cc)
never-attached false false e = absurd (cc)

-- a seat of one is that of the same
of-same : (d : Deployed) (h : List Entry) (b c : ℕ) → Some b ≡ Some c → ((i : ℕ) × (seat d h b ≡ Some i)) → (i : ℕ) × (seat d h c ≡ Some i)
of-same d h b c of found = (found.0, ap (seat d h) (sym (some-number b c of)) ∙ found.1)

seated-answer : (d : Deployed) (h : List Entry) (a : Act) (c : ℕ) → of_client a ≡ Some c → at_a_seat (answer d h a) ≡ true → (is_attach a ≡ false) × ((i : ℕ) × (seat d h c ≡ Some i))
unfolding answer
seated-answer d h (act.Write b x v) c of e = (refl, of-same d h b c of (some-seat (seat d h b) _ e))
seated-answer d h (act.Writes b items values) c of e = (refl, of-same d h b c of (some-seat (seat d h b) _ e))
seated-answer d h (act.Read b x) c of e = (refl, of-same d h b c of (some-seat (seat d h b) _ e))
seated-answer d h (act.Move b j) c of e = (refl, of-same d h b c of (some-seat (seat d h b) _ e))
seated-answer d h (act.Leave b) c of e = (refl, of-same d h b c of (some-seat (seat d h b) _ e))
seated-answer d h (act.Attach b j) c of e = absurd (never-attached (is_some (seat d h b)) (not (may_attach d h b j)) e)
seated-answer d h a c of e = absurd (cc)

never-there : (o : Option ℕ) (f : ℕ → Answer) → ((i : ℕ) → without_one (f i) ≡ true → ⊥) → without_one (at_seat o f) ≡ true → ⊥
never-there None f each e = absurd (cc)
never-there (Some i) f each e = each i e

never-written : (p q : Bool) (l : Label) → without_one (refused_if p why.NotHere (refused_if q why.Spent (ans.Wrote l))) ≡ true → ⊥
never-written true q l e = absurd (cc)
never-written false true l e = absurd (cc)
never-written false false l e = absurd (cc)

never-read : (p : Bool) (o : Option Label) (f : Label → List ℕ) → without_one (refused_if p why.NotHere (elim o [ None ↦ ans.ReadNone | Some l ↦ ans.ReadSome l (f l) ])) ≡ true → ⊥
never-read true o f e = absurd (cc)
never-read false None f e = absurd (cc)
never-read false (Some l) f e = absurd (cc)

never-moved : (p q : Bool) (l : Label) → without_one (refused_if p why.SameSite (refused_if q why.Spent (ans.Moved l))) ≡ true → ⊥
never-moved true q l e = absurd (cc)
never-moved false true l e = absurd (cc)
never-moved false false l e = absurd (cc)

no-seat : (o : Option ℕ) (q : Bool) → without_one (refused_if (is_some o) why.Joined (refused_if q why.NotYet ans.Attached)) ≡ true → o ≡ None
no-seat None q e = refl
no-seat (Some i) q e = absurd (cc)

seatless-answer : (d : Deployed) (h : List Entry) (a : Act) (c : ℕ) → of_client a ≡ Some c → without_one (answer d h a) ≡ true → seat d h c ≡ None
unfolding answer
seatless-answer d h (act.Write b x v) c of e = absurd (never-there (seat d h b) _ (λ i k. never-written _ _ _ k) e)
seatless-answer d h (act.Writes b items values) c of e = absurd (never-there (seat d h b) _ (λ i k. never-written _ _ _ k) e)
seatless-answer d h (act.Read b x) c of e = absurd (never-there (seat d h b) _ (λ i k. never-read _ _ _ k) e)
seatless-answer d h (act.Move b j) c of e = absurd (never-there (seat d h b) _ (λ i k. never-moved _ _ _ k) e)
seatless-answer d h (act.Leave b) c of e = absurd (never-there (seat d h b) _ (λ i k. absurd (cc)) e)
seatless-answer d h (act.Attach b j) c of e = ap (seat d h) (sym (some-number b c of)) ∙ no-seat (seat d h b) (not (may_attach d h b j)) e
seatless-answer d h a c of e = absurd (cc)

no-client : (a : Act) (c : ℕ) → a ≡ act.Settle → of_client a ≡ Some c → ⊥
no-client a c e of = let k : None ≡ Some c = ap of_client (sym e) ∙ of in absurd (cc)

by-seat : (d : Deployed) (before : List Entry) (entry : Entry) → IsAnswer d before entry.act entry.answer → GoesBySeat d before entry
by-seat d before entry (inl is) = record {
  seated = λ c of e. seated-answer d before entry.act c of (ap at_a_seat (sym is.1) ∙ e);
  seatless = λ c of e. seatless-answer d before entry.act c of (ap without_one (sym is.1) ∙ e);
}
by-seat d before entry (inr is) = record {
  seated = λ c of e. absurd (no-client entry.act c is.1 of);
  seatless = λ c of e. absurd (no-client entry.act c is.1 of);
}

-- ---- also where entries of no client are left out

-- an act of no client leaves every seat
unattached : (a : Act) (o : Option ℕ) (c : ℕ) → of_client a ≡ None → after_change (reseated a ans.Attached) o c ≡ o
unfolding reseated
unattached (act.Attach b j) o c none = absurd (cc)
unattached a o c none = refl

unmoved : (a : Act) (r : Answer) (o : Option ℕ) (c : ℕ) → of_client a ≡ None → after_change (reseated a r) o c ≡ o
unfolding reseated
unmoved a ans.Attached o c none = unattached a o c none
unmoved a (ans.Moved l) o c none = ap (λ (q : Option ℕ). after_change (elim q [ None ↦ None | Some b ↦ Some (b, None) ]) o c) none
unmoved a (ans.Left p) o c none = ap (λ (q : Option ℕ). after_change (elim q [ None ↦ None | Some b ↦ Some (b, None) ]) o c) none
unmoved a r o c none = refl

seat-without : (d : Deployed) (h g : List Entry) → IsWithout h g → (c : ℕ) → seat d h c ≡ seat d g c
unfolding IsWithout
seat-without d [] g e c = ap (λ (k : List Entry). seat d k c) (sym e)
seat-without d (entry ∷ h) g (inl w) c =
    seat-step d h c entry.inner entry.act entry.answer ∙ (unmoved entry.act entry.answer (seat d h c) c w.0 ∙ seat-without d h g w.1 c)
seat-without d (entry ∷ h) g (inr w) c =
    seat-step d h c entry.inner entry.act entry.answer
    ∙ (ap (λ (o : Option ℕ). after_change (reseated entry.act entry.answer) o c) (seat-without d h w.0 w.2 c)
    ∙ (sym (seat-step d w.0 c entry.inner entry.act entry.answer) ∙ ap (λ (k : List Entry). seat d k c) (sym w.1)))

same-seats : (d : Deployed) (h g : List Entry) (entry : Entry) → ((c : ℕ) → seat d h c ≡ seat d g c) → GoesBySeat d h entry → GoesBySeat d g entry
same-seats d h g entry same goes = record {
  seated = λ c of e. let found : (is_attach entry.act ≡ false) × ((i : ℕ) × (seat d h c ≡ Some i)) = goes.seated c of e in (found.0, (found.1.0, sym (same c) ∙ found.1.1));
  seatless = λ c of e. sym (same c) ∙ goes.seatless c of e;
}

no-entry : (later : List Entry) (entry : Entry) (before : List Entry) → [] ≡ later ++ entry ∷ before → ⊥
no-entry [] entry before e = absurd (cc)
no-entry (x ∷ later) entry before e = absurd (cc)

abbrev first-of : Entry → List Entry → Entry
first-of x [] = x
first-of x (e ∷ es) = e

abbrev rest-of : List Entry → List Entry
rest-of [] = []
rest-of (e ∷ es) = es

goes-at : (d : Deployed) (h g later : List Entry) (entry : Entry) (before : List Entry) → IsRun d h → IsWithout h g → g ≡ later ++ entry ∷ before → GoesBySeat d before entry
unfolding IsRun IsWithout
goes-at d [] g later entry before run w parts = absurd (no-entry later entry before (sym w ∙ parts))
goes-at d (e ∷ h) g later entry before run (inl w) parts = goes-at d h g later entry before run.0 w.1 parts
goes-at d (e ∷ h) g [] entry before run (inr w) parts =
    let same : e ∷ w.0 ≡ entry ∷ before = sym w.1 ∙ parts in
    let is : e ≡ entry = ap (first-of e) same in
    let behind : w.0 ≡ before = ap rest-of same in
    subst (λ (x : Entry). GoesBySeat d before x) is
    (same-seats d h before e (λ c. seat-without d h w.0 w.2 c ∙ ap (λ (k : List Entry). seat d k c) behind) (by-seat d h e run.2))
goes-at d (e ∷ h) g (x ∷ later) entry before run (inr w) parts =
    goes-at d h w.0 later entry before run.0 w.2 (ap rest-of (sym w.1 ∙ parts))

pub goes_by_seats : (d : Deployed) (g : List Entry) → IsOfRun d g → GoesBySeats d g
goes_by_seats d g of = record { each = λ later entry before parts. goes-at d of.whole g later entry before of.run of.without parts }
