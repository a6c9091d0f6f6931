-- A site's step is what the history says: its answer is the entry's, and its state then stands for the history with the entry.
use Rattle.std.specs.Prelude.{◌≡◌, ℕ, Bool, true, false, List, [], ◌∷◌, ◌++◌, Option, Some, None, slice_get, ◌==◌, if◌then◌else◌, refl}
use Rattle.std.proofs.Common.{sym, subst, ap, ◌∙◌, inl, inr}
use Rattle.std.proofs.lemmas.Bool.{eqb-true}
use Rattle.sat_label.specs.declared.items.Items.TheVariants.{One}
use Rattle.sat_act.specs.declared.act.Act.{Act}
use Rattle.sat_act.specs.declared.act.Act.TheVariants as act
use Rattle.sat_act.specs.declared.answer.Answer.{Answer}
use Rattle.sat_act.specs.declared.entry.Entry.{Entry}
use Rattle.sat_act.specs.Deployed.{Deployed}
use Rattle.sat_act.specs.Parts.{seat, lane, beats}
use Rattle.sat_act.specs.Answers.{InRange, answer, greatest_promise}
use Rattle.sat_act.specs.Runs.{IsRun, IsAnswer, is_settle}
use Rattle.sat_act.specs.Goals.{IsValid}
use Rattle.sat_laws.proofs.Runs.{before_of}
use Rattle.sat_laws.proofs.Labels.{some_is}
use Rattle.sat_model.specs.State.{SiteState}
use Rattle.sat_model.specs.Input.{SiteInput}
use Rattle.sat_model.specs.Input as given
use Rattle.sat_model.specs.Next.{site_next}
use Rattle.sat_model.specs.Reply.{site_answer, site_step}
use Rattle.sat_model.specs.Replay.{after, handed, site_state, carrying, given_at, given_seat, given_number, turn_front}
use Rattle.sat_model.specs.Journal.{Noted, noted, journal, replay, IsJournal}
use Rattle.sat_model.proofs.Replies.{tick-reply, write-reply, writes-reply, read-reply, move-reply, attach-reply, gather-reply, emit-reply, pulse-reply, turn-reply, bulk-reply, beat-reply, beat-in-reply, stamp-reply, close-reply, fall-reply, advance-reply}
use Rattle.sat_model.specs.Parts.{valued}

given-is : (t i : ℕ) (x input : SiteInput) → given_at t i x ≡ Some input → (t ≡ i) × (x ≡ input)
given-is t i x input e = go (t == i) refl e
  where
    go : (b : Bool) → (t == i) ≡ b → (if b then Some x else None) ≡ Some input → (t ≡ i) × (x ≡ input)
    go true w e = (eqb-true t i w, some_is x input e)
    go false w e = absurd (cc)

module _ (d : Deployed) (h : List Entry) (a : Act) where
  here : (t i : ℕ) (x input : SiteInput) → given_at t i x ≡ Some input → site_answer d t (site_state d h t) x ≡ answer d h a → site_answer d i (site_state d h i) input ≡ answer d h a
  here t i x input e k =
      let w : (t ≡ i) × (x ≡ input) = given-is t i x input e in
      subst (λ (y : SiteInput). site_answer d i (site_state d h i) y ≡ answer d h a) w.1 (subst (λ (j : ℕ). site_answer d j (site_state d h j) x ≡ answer d h a) w.0 k)

  sits : (o : Option ℕ) (i : ℕ) (x input : SiteInput) → given_seat o i x ≡ Some input → ((t : ℕ) → o ≡ Some t → site_answer d t (site_state d h t) x ≡ answer d h a) → site_answer d i (site_state d h i) input ≡ answer d h a
  sits None i x input e k = absurd (cc)
  sits (Some t) i x input e k = here t i x input e (k t refl)

  comes : (o : Option ℕ) (i j : ℕ) (x input : SiteInput) → elim o [ None ↦ given_at j i x | Some k ↦ None ] ≡ Some input → (o ≡ None → site_answer d j (site_state d h j) x ≡ answer d h a) → site_answer d i (site_state d h i) input ≡ answer d h a
  comes None i j x input e k = here j i x input e (k refl)
  comes (Some t) i j x input e k = absurd (cc)

  finds : {X : Type 0} (o : Option X) (i j : ℕ) (x : X → SiteInput) (input : SiteInput) → elim o [ None ↦ None | Some y ↦ given_at j i (x y) ] ≡ Some input → ((y : X) → o ≡ Some y → site_answer d j (site_state d h j) (x y) ≡ answer d h a) → site_answer d i (site_state d h i) input ≡ answer d h a
  finds None i j x input e k = absurd (cc)
  finds (Some y) i j x input e k = here j i (x y) input e (k y refl)

-- the answer of a site to what an act hands to it is the act's
pub site-replies : (d : Deployed) (h : List Entry) (a : Act) (i : ℕ) (input : SiteInput) → IsValid d → IsRun d h → handed d h a i ≡ Some input → site_answer d i (site_state d h i) input ≡ answer d h a
unfolding handed
site-replies d h (act.Tick t g u) i input v run e = here d h _ t i (given.Tick g u) input e (tick-reply d h t g u run)
site-replies d h act.Clock i input v run e = subst (λ (y : SiteInput). site_answer d i (site_state d h i) y ≡ answer d h act.Clock) (some_is _ input e) clocks
  where
    clocks : site_answer d i (site_state d h i) (given.Clock (greatest_promise h d.sites d.gears)) ≡ answer d h act.Clock
    clocks = unfold site_answer in unfold answer in refl
site-replies d h (act.Write c x value) i input v run e = sits d h _ (seat d h c) i (given.Write (carrying h c) (One x) (value ∷ [])) input e (λ t w. write-reply d h c x t value run w)
site-replies d h (act.Writes c items values) i input v run e = sits d h _ (seat d h c) i (given.Write (carrying h c) items values) input e (λ t w. writes-reply d h c items t values run w)
site-replies d h (act.Read c x) i input v run e = sits d h _ (seat d h c) i (given.Read (carrying h c) x) input e (λ t w. read-reply d h c x t v run w)
site-replies d h (act.Move c j) i input v run e = sits d h _ (seat d h c) i (given.Move (carrying h c) j) input e (λ t w. move-reply d h c j t run w)
site-replies d h (act.Attach c j) i input v run e = comes d h _ (seat d h c) i j (given.Attach (carrying h c)) input e (λ w. attach-reply d h c j v run w)
site-replies d h (act.Gather t) i input v run e = here d h _ t i given.Gather input e (gather-reply d h t run)
site-replies d h (act.Emit t) i input v run e = here d h _ t i given.Emit input e (emit-reply d h t v run)
site-replies d h (act.Pulse t) i input v run e = here d h _ t i given.Pulse input e (pulse-reply d h t v run)
site-replies d h (act.Turn t) i input v run e = here d h _ t i (given.Turn (turn_front d h t)) input e (turn-reply d h t v run)
site-replies d h (act.Bulk k g j o) i input v run e =
    finds d h _ (slice_get (lane d h k g j) (given_number d h k g j o)) i j (λ l. given.Bulk k g (given_number d h k g j o) (valued h l)) input e (λ l w. bulk-reply d h k g j o l v run w)
site-replies d h (act.Beat t j) i input v run e = here d h _ t i (given.Beat j) input e (beat-reply d h t j v run)
site-replies d h (act.BeatIn k j n) i input v run e = finds d h _ (slice_get (beats d h k j) n) i j (λ b. given.BeatIn k n b) input e (λ b w. beat-in-reply d h k j n b v run w)
site-replies d h (act.Stamp t) i input v run e = here d h _ t i given.Stamp input e (stamp-reply d h t v run)
site-replies d h (act.Close t) i input v run e = here d h _ t i given.Close input e (close-reply d h t v run)
site-replies d h (act.Fall t) i input v run e = here d h _ t i given.Fall input e (fall-reply d h t run)
site-replies d h (act.Advance t) i input v run e = here d h _ t i given.Advance input e (advance-reply d h t v run)
site-replies d h _ i input v run e = absurd (cc)

-- an entry that hands something to a site has its act's answer: it is no settle
handed-answer : (d : Deployed) (h : List Entry) (a : Act) (r : Answer) (i : ℕ) (input : SiteInput) → IsAnswer d h a r → handed d h a i ≡ Some input → r ≡ answer d h a
unfolding handed
handed-answer d h a r i input (inl e) k = e.1
handed-answer d h a r i input (inr e) k = absurd (let w : handed d h act.Settle i ≡ Some input = subst (λ (a : Act). handed d h a i ≡ Some input) e.1 k in cc)

is_answer : (d : Deployed) (h : List Entry) (e : Entry) → IsRun d (e ∷ h) → IsAnswer d h e.act e.answer
unfolding IsRun
is_answer d h e run = run.2

pub entry-reply : (d : Deployed) (h : List Entry) (e : Entry) (i : ℕ) (input : SiteInput) → IsValid d → IsRun d (e ∷ h) → handed d h e.act i ≡ Some input → site_answer d i (site_state d h i) input ≡ e.answer
entry-reply d h e i input v run k =
    site-replies d h e.act i input v (before_of d h e run) k ∙ sym (handed-answer d h e.act e.answer i input (is_answer d h e run) k)

-- the step of the site that is handed something: the entry's answer, and the state for the history with the entry
pub site-steps : (d : Deployed) (h : List Entry) (e : Entry) (i : ℕ) (input : SiteInput) → IsValid d → IsRun d (e ∷ h) → handed d h e.act i ≡ Some input → site_step d i (site_state d h i) input ≡ (e.answer, site_state d (e ∷ h) i)
unfolding site_step site_state after
site-steps d h e i input v run k =
    ap (λ (r : Answer). (r, site_next d i (site_state d h i) input r)) (entry-reply d h e i input v run k) ∙
    ap (λ (o : Option SiteInput). (e.answer, after d i (site_state d h i) o e.answer)) (sym k)

-- the others stay
pub site-stays : (d : Deployed) (h : List Entry) (e : Entry) (i : ℕ) → handed d h e.act i ≡ None → site_state d (e ∷ h) i ≡ site_state d h i
unfolding site_state after
site-stays d h e i k = ap (λ (o : Option SiteInput). after d i (site_state d h i) o e.answer) k

-- ---- journals

replay-more : (d : Deployed) (i : ℕ) (o : Option SiteInput) (r : Answer) (ns : List Noted) → replay d i (noted o r ++ ns) ≡ after d i (replay d i ns) o r
unfolding replay noted after
replay-more d i None r ns = refl
replay-more d i (Some input) r ns = refl

-- a site's state is the replay of its journal
pub replays : (d : Deployed) (h : List Entry) (i : ℕ) → replay d i (journal d h i) ≡ site_state d h i
unfolding journal site_state replay
replays d [] i = refl
replays d (e ∷ h) i = replay-more d i (handed d h e.act i) e.answer (journal d h i) ∙ ap (λ (s : SiteState). after d i s (handed d h e.act i) e.answer) (replays d h i)

journal-more : (d : Deployed) (i : ℕ) (o : Option SiteInput) (r : Answer) (ns : List Noted) → IsJournal d i ns → ((input : SiteInput) → o ≡ Some input → r ≡ site_answer d i (replay d i ns) input) → IsJournal d i (noted o r ++ ns)
unfolding IsJournal noted
journal-more d i None r ns k f = k
journal-more d i (Some input) r ns k f = (k, f input refl)

-- and each answer in it is its machine's, from the fresh state on
pub is-journal : (d : Deployed) (h : List Entry) (i : ℕ) → IsValid d → IsRun d h → IsJournal d i (journal d h i)
unfolding journal
is-journal d [] i v run = unfold IsJournal in tt
is-journal d (e ∷ h) i v run =
    journal-more d i (handed d h e.act i) e.answer (journal d h i) (is-journal d h i v (before_of d h e run))
    (λ input k. sym (ap (λ (s : SiteState). site_answer d i s input) (replays d h i) ∙ entry-reply d h e i input v run k))

-- a settle hands nothing to a site
no-settle : (d : Deployed) (h : List Entry) (a : Act) (i : ℕ) (input : SiteInput) → handed d h a i ≡ Some input → is_settle a ≡ false
unfolding handed
no-settle d h act.Settle i input k = absurd (cc)
no-settle d h _ i input k = refl

-- an entry whose answer is that of a node's machine, handed what the history hands, goes on a run
pub runs-go-on : (d : Deployed) (h : List Entry) (e : Entry) (i : ℕ) (input : SiteInput) → IsValid d → IsRun d h → InRange d e.act → handed d h e.act i ≡ Some input → e.answer ≡ site_answer d i (replay d i (journal d h i)) input → IsRun d (e ∷ h)
unfolding IsRun
runs-go-on d h e i input v run range k w =
    (run, range, inl (no-settle d h e.act i input k, w ∙ (ap (λ (s : SiteState). site_answer d i s input) (replays d h i) ∙ site-replies d h e.act i input v run k)))
