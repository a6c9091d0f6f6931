-- What a site shows it shows whole.
use Rattle.std.specs.Prelude.{◌≡◌, ℕ, Bool, true, false, not, List, [], ◌∷◌, Option, Some, None, refl}
use Rattle.std.proofs.Common.{sym, subst, inl, inr, ap, ◌∙◌}
use Rattle.sat_label.specs.declared.label.Label.{Label}
use Rattle.sat_act.specs.declared.act.Act.{Act}
use Rattle.sat_act.specs.declared.act.Act.TheVariants as act
use Rattle.sat_act.specs.declared.answer.Answer.{Answer}
use Rattle.sat_act.specs.declared.answer.Answer.TheVariants as ans
use Rattle.sat_act.specs.declared.answer.Refusal.TheVariants as why
use Rattle.sat_act.specs.declared.entry.Entry.{Entry}
use Rattle.sat_act.specs.Deployed.{Deployed}
use Rattle.sat_act.specs.Answers.{answer, at_seat, read_at, refused_if}
use Rattle.sat_act.specs.Runs.{IsRun, IsAnswer}
use Rattle.sat_act.specs.Goals.{IsAtLeast, ReadsAtLeast, ReadsShown, ReadsWhole, Shows, Whole}
use Rattle.sat_act.specs.Parts.{is_update_of, replicates, seat, value_of, version}
use Rattle.sat_laws.proofs.Freshness.{version-above, version-none}
use Rattle.sat_laws.proofs.Runs.{before_of}

at-least : (h : List Entry) (k x : ℕ) (l : Label) (o : Option Label) → version h k x ≡ o → Shows h k l → is_update_of l.kind x ≡ true → IsAtLeast o l
at-least h k x l None e s u = version-none h k x l e s u
at-least h k x l (Some m) e s u = version-above h k x m l e s u

-- the answer of a read of an item whose version is this
abbrev read-answer : List Entry → ℕ → Option Label → Answer
read-answer h x o = elim o [ None ↦ ans.ReadNone | Some l ↦ ans.ReadSome l (value_of h l x) ]

reads-version : (h : List Entry) (x : ℕ) (l : Label) (o : Option Label) → IsAtLeast o l → ReadsAtLeast (read-answer h x o) l
reads-version h x l None w = w
reads-version h x l (Some m) w = w

read-here : (h : List Entry) (x : ℕ) (l : Label) (b : Bool) (o : Option Label) → b ≡ true → IsAtLeast o l → ReadsAtLeast (refused_if (not b) why.NotHere (read-answer h x o)) l
read-here h x l true o e w = reads-version h x l o w
read-here h x l false o e w = absurd (cc)

read-kept : (d : Deployed) (h : List Entry) (k x : ℕ) (l : Label) → Shows h k l → is_update_of l.kind x ≡ true → replicates d x k ≡ true → ReadsAtLeast (read_at d h x k) l
unfolding read_at
read-kept d h k x l s u r = read-here h x l (replicates d x k) (version h k x) r (at-least h k x l (version h k x) refl s u)

read-seated : (d : Deployed) (h : List Entry) (k x : ℕ) (l : Label) (o : Option ℕ) → o ≡ Some k → Shows h k l → is_update_of l.kind x ≡ true → replicates d x k ≡ true → ReadsAtLeast (at_seat o (λ i. read_at d h x i)) l
read-seated d h k x l None e s u r = absurd (cc)
read-seated d h k x l (Some i) e s u r =
    let w : k ≡ i = cc in
    subst (λ (n : ℕ). ReadsAtLeast (read_at d h x n) l) w (read-kept d h k x l s u r)

read-shown : (d : Deployed) (h : List Entry) (c k x : ℕ) (l : Label) → seat d h c ≡ Some k → Shows h k l → is_update_of l.kind x ≡ true → replicates d x k ≡ true → ReadsAtLeast (answer d h (act.Read c x)) l
unfolding answer
read-shown d h c k x l e s u r = read-seated d h k x l (seat d h c) e s u r

no-settle : (c x : ℕ) → act.Read c x ≡ act.Settle → ⊥
no-settle c x e = cc

-- the answer of a run's entry that reads
read-is : (d : Deployed) (h : List Entry) (a : Act) (r : Answer) (c x : ℕ) → a ≡ act.Read c x → IsAnswer d h a r → r ≡ answer d h (act.Read c x)
read-is d h a r c x is (inl w) = w.1 ∙ ap (λ (b : Act). answer d h b) is
read-is d h a r c x is (inr w) = absurd (no-settle c x (sym is ∙ w.1))

reads-shown : (d : Deployed) (h : List Entry) (e : Entry) → IsRun d (e ∷ h) → ReadsShown d h e
unfolding IsRun
reads-shown d h e run = λ c k x l is at s u r.
    subst (λ (answered : Answer). ReadsAtLeast answered l) (sym (read-is d h e.act e.answer c x is run.2)) (read-shown d h c k x l at s u r)

reads-whole : (d : Deployed) (h : List Entry) → IsRun d h → ReadsWhole d h
unfolding ReadsWhole
reads-whole d [] run = tt
reads-whole d (e ∷ h) run = (reads-whole d h (before_of d h e run), reads-shown d h e run)

pub whole : (d : Deployed) (h : List Entry) → IsRun d h → Whole d h
whole d h run = record { versions = λ k x l s u. at-least h k x l (version h k x) refl s u; reads = reads-whole d h run }
