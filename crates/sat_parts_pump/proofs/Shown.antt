-- What a hub and its gears keep of what is next.
use Rattle.std.proofs.Common.{◌≡◌, ℕ, ◌+◌, ◌&&◌, max, Bool, true, false, List, [], ◌∷◌, ◌++◌, Option, Some, None, Result, Ok, Err, IfErr, IfOk, OnErr, OnOk, refl, sym, ap, ◌∙◌, subst, arith}
use Rattle.sat_label.specs.declared.label.Label.{Label}
use Rattle.sat_label.specs.declared.node.NodeName.{NodeName}
use Rattle.sat_label.specs.declared.node.NodeName.TheVariants as named
use Rattle.sat_act.specs.Deployed.{Deployed}
use Rattle.sat_act.specs.Limits.{IsDeployment}
use Rattle.sat_act.specs.Settling.{is_done}
use Rattle.sat_hub.specs.Seen.{HubSeen, IsHub}
use Rattle.sat_site.specs.Laws.{EachStep}
use Rattle.sat_joint.specs.Machines.{HubState}
use Rattle.sat_node.specs.declared.kept.CallFault.{CallFault}
use Rattle.sat_node.specs.Links.{IsLocal}
use Rattle.sat_node.specs.Meanings.{replay}
use Rattle.sat_node.specs.Seen.{entry, Takes}
use Rattle.sat_node.specs.Together.{SameHeld}
use Rattle.sat_machines.specs.Sites.{number_of}
use Rattle.sat_passes.specs.Sendings.{FailsAlone}
use Rattle.sat_parts.specs.declared.gear_input.ShownBy.TheVariants as act
use Rattle.sat_parts.specs.declared.hub_answer.HubAnswer.{HubAnswer}
use Rattle.sat_parts.specs.declared.hub_input.HubInput.TheVariants as hub
use Rattle.sat_parts.specs.Acts.{HubActSeen}
use Rattle.sat_parts.specs.Hubs.{HubAnswersAt, HubStands, hub_meaning}
use Rattle.sat_parts.specs.HubSteps.{HasTimes, hub_answers}
use Rattle.sat_parts.proofs.HubReplies.{answers-hub}
use Rattle.sat_parts_passes.specs.Gathers.{GearHeld}
use Rattle.sat_parts_passes.specs.Sendings.{HubHeld, HubKept, of_hub, would_do}
use Rattle.sat_parts_passes.specs.Shows.{FailsShown, IsShown, turn_of, would_show}
use Rattle.sat_parts_passes.proofs.Sent.{done_by, done_stands, would_fit}
use Rattle.sat_parts_pump.specs.declared.coming.Next.{Next}
use Rattle.sat_parts_pump.specs.declared.coming.Next.TheVariants as next
use Rattle.sat_parts_pump.specs.declared.lending.Lent.{Lent}
use Rattle.sat_parts_pump.specs.Lent.{are_lent}
use Rattle.sat_parts_pump.specs.Next.{lent_for, next_by, next_of, next_would}
use Rattle.sat_parts_pump.specs.Shows.{FailsNext, HasShown, IsAdvanced, may_show, view_link, would_next}
use Rattle.sat_parts_pump.proofs.Gathered.{More, more_as, more_same}

-- ---- an advance

advance-none : (d : Deployed) (name : NodeName) (k : ℕ) (a : HubAnswer) → (hub_meaning d).takes name k (of_hub hub.Advance) a ≡ None
advance-none d (named.Site i) k a = refl
advance-none d (named.Serializer e z) k a = refl
advance-none d (named.Gear i g) k a = refl

most-zero : (n : ℕ) → max n 0 ≡ n
most-zero n = grind (arith)

module _ (d : Deployed) (old : HubHeld) (law : EachStep) (dep : IsDeployment d) (is : IsHub old.node.machine) (times : HasTimes old.node.machine)
    (st : HubStands d old.node.name old.node.machine (replay (hub_meaning d) old.node.name old.node.entries)) (would : would_do old.node.machine hub.Advance ≡ true) where
  abbrev state : HubState
  state = replay (hub_meaning d) old.node.name old.node.entries

  -- it takes nothing from a link
  pub advance_local : IsLocal (hub_meaning d) old.node (of_hub hub.Advance)
  advance_local = record {
    stands = λ a w. done_stands a.answer (ap is_done w.answer ∙ done_by d old.node.name old.node.machine state hub.Advance law dep is times st refl would);
    takes = λ a k w. advance-none d old.node.name k a;
  }

  told-by : (name : NodeName) (s : HubState) (a : HubAnswer) → HubStands d name old.node.machine s → HubAnswersAt d (number_of name) s (of_hub hub.Advance) a → a.answer ≡ hub_answers old.node.machine hub.Advance
  told-by (named.Site i) s a st answers =
      answers.answer ∙ sym (answers-hub law d i old.node.machine s hub.Advance dep is times st refl (would_fit old.node.machine hub.Advance would))
  told-by (named.Serializer e z) s a st answers = absurd st
  told-by (named.Gear i g) s a st answers = absurd st

  given-advanced : (new : HubHeld) (r : Result HubAnswer CallFault) (may : Bool) → Takes 0 (of_hub hub.Advance) may r old.node new.node → IfOk r (λ a. HubAnswersAt d (number_of old.node.name) state (of_hub hub.Advance) a)
      → new.outs ≡ old.outs → new.ins ≡ old.ins → OnOk r (IsAdvanced d old new)
  given-advanced new (Err f) may takes h outs ins = tt
  given-advanced new (Ok a) may takes h outs ins = record {
    answer = a;
    told = told-by old.node.name state a st h;
    kept = record {
      answers = h;
      entries = takes.taken ∙ ap (λ (n : ℕ). old.node.entries ++ entry (n + 1) (of_hub hub.Advance) a ∷ []) (most-zero old.node.number);
      number_is = takes.number ∙ ap (λ (n : ℕ). n + 1) (most-zero old.node.number);
      name_is = takes.name;
      outs_are = outs;
      ins_are = ins;
    };
  }

  pub advanced_is : (new : HubHeld) (r : Result HubAnswer CallFault) (may : Bool) (given : HubActSeen) → given ≡ of_hub hub.Advance → Takes 0 given may r old.node new.node
      → IfOk r (λ a. HubAnswersAt d (number_of old.node.name) state given a) → new.outs ≡ old.outs → new.ins ≡ old.ins → OnOk r (IsAdvanced d old new)
  advanced_is new r may given same takes h outs ins =
      given-advanced new r may (subst (λ (x : HubActSeen). Takes 0 x may r old.node new.node) same takes)
      (subst (λ (x : HubActSeen). IfOk r (λ a. HubAnswersAt d (number_of old.node.name) state x a)) same h) outs ins

-- ---- entries more

shown-by : (d : Deployed) (n : Next) (h h' : HubHeld) (gs gs' : List GearHeld) → HasShown d n h gs h' gs' → More h h'
shown-by d next.Nothing h h' gs gs' s = absurd s
shown-by d (next.Turn shown) h h' gs gs' s = (entry _ _ s.answer ∷ [], s.home.entries)
shown-by d (next.Stamp shown) h h' gs gs' s = (entry _ _ s.answer ∷ [], s.home.entries)
shown-by d next.Advance h h' gs gs' s = (entry _ _ s.0.answer ∷ [], s.0.kept.entries)

shown-if : (d : Deployed) (n : Next) (h h' : HubHeld) (gs gs' : List GearHeld) (b : Bool) → (b ≡ true → HasShown d n h gs h' gs') → (b ≡ false → (h' ≡ h) × (gs' ≡ gs)) → More h h'
shown-if d n h h' gs gs' true done same = shown-by d n h h' gs gs' (done refl)
shown-if d n h h' gs gs' false done same = (let s = same refl in more_as h h' s.0)

pub shown_more : (r : Result Bool CallFault) (d : Deployed) (n : Next) (h h' : HubHeld) (gs gs' : List GearHeld) (P : Type 0) → IfOk r (λ done. done ≡ true → HasShown d n h gs h' gs')
    → IfOk r (λ done. done ≡ false → (h' ≡ h) × (gs' ≡ gs)) → OnErr r (SameHeld h h' × P) → More h h'
shown_more (Ok b) d n h h' gs gs' P done same err = shown-if d n h h' gs gs' b done same
shown_more (Err f) d n h h' gs gs' P done same err = more_same h h' err.0.same.2

-- ---- each way

-- a turn, where the link is that of the view's tree
pub turn_would : (r : Result Bool CallFault) (d : Deployed) (n : Next) (shown : _) (h : HubHeld) (gs : List GearHeld) (link : ℕ) → n ≡ next.Turn shown → link ≡ view_link d h
    → IfOk r (λ done. done ≡ would_show act.Turn (turn_of h link) h.node.machine gs) → IfOk r (λ done. done ≡ would_next d n h gs)
turn_would r d n shown h gs link is at fits =
    subst (λ (m : Next). IfOk r (λ done. done ≡ would_next d m h gs)) (sym is)
    (subst (λ (k : ℕ). IfOk r (λ done. done ≡ would_show act.Turn (turn_of h k) h.node.machine gs)) at fits)

pub turn_shown : (r : Result Bool CallFault) (d : Deployed) (n : Next) (shown : _) (h h' : HubHeld) (gs gs' : List GearHeld) (link : ℕ) → n ≡ next.Turn shown → link ≡ view_link d h
    → IfOk r (λ done. done ≡ true → IsShown d (Some link) act.Turn (turn_of h link) h gs h' gs') → IfOk r (λ done. done ≡ true → HasShown d n h gs h' gs')
turn_shown r d n shown h h' gs gs' link is at done =
    subst (λ (m : Next). IfOk r (λ b. b ≡ true → HasShown d m h gs h' gs')) (sym is)
    (subst (λ (k : ℕ). IfOk r (λ b. b ≡ true → IsShown d (Some k) act.Turn (turn_of h k) h gs h' gs')) at done)

pub turn_fails : (r : Result Bool CallFault) (d : Deployed) (n : Next) (shown : _) (h : HubHeld) (gs : List GearHeld) (link : ℕ) → n ≡ next.Turn shown → link ≡ view_link d h
    → IfErr r (FailsShown (Some link) h gs) → IfErr r (FailsNext d n h gs)
turn_fails r d n shown h gs link is at fails =
    subst (λ (m : Next). IfErr r (FailsNext d m h gs)) (sym is) (subst (λ (k : ℕ). IfErr r (FailsShown (Some k) h gs)) at fails)

pub stamp_would : (r : Result Bool CallFault) (d : Deployed) (n : Next) (shown : _) (h : HubHeld) (gs : List GearHeld) → n ≡ next.Stamp shown
    → IfOk r (λ done. done ≡ would_show act.Stamp hub.Stamp h.node.machine gs) → IfOk r (λ done. done ≡ would_next d n h gs)
stamp_would r d n shown h gs is fits = subst (λ (m : Next). IfOk r (λ done. done ≡ would_next d m h gs)) (sym is) fits

pub stamp_shown : (r : Result Bool CallFault) (d : Deployed) (n : Next) (shown : _) (h h' : HubHeld) (gs gs' : List GearHeld) → n ≡ next.Stamp shown
    → IfOk r (λ done. done ≡ true → IsShown d None act.Stamp hub.Stamp h gs h' gs') → IfOk r (λ done. done ≡ true → HasShown d n h gs h' gs')
stamp_shown r d n shown h h' gs gs' is done = subst (λ (m : Next). IfOk r (λ b. b ≡ true → HasShown d m h gs h' gs')) (sym is) done

pub stamp_fails : (r : Result Bool CallFault) (d : Deployed) (n : Next) (shown : _) (h : HubHeld) (gs : List GearHeld) → n ≡ next.Stamp shown → IfErr r (FailsShown None h gs) → IfErr r (FailsNext d n h gs)
stamp_fails r d n shown h gs is fails = subst (λ (m : Next). IfErr r (FailsNext d m h gs)) (sym is) fails

-- ---- with the gears that are needed

pub may_not : (d : Deployed) (n : Next) (h : HubHeld) (gs : List GearHeld) (its : Bool) → n ≡ next_of d h → its ≡ are_lent h.node.machine.shape (lent_for n) gs → its ≡ false → false ≡ may_show d h gs
may_not d n h gs its is are other =
    sym (ap (λ (b : Bool). b && would_next d (next_of d h) h gs) (sym (ap (λ (m : Next). are_lent h.node.machine.shape (lent_for m) gs) is) ∙ (sym are ∙ other)))

may-with : (r : Result Bool CallFault) (lent would : Bool) → lent ≡ true → IfOk r (λ done. done ≡ would) → IfOk r (λ done. done ≡ (lent && would))
may-with (Ok b) lent would holds is = is ∙ sym (ap (λ (t : Bool). t && would) holds)
may-with (Err f) lent would holds is = tt

pub may_is : (r : Result Bool CallFault) (d : Deployed) (n : Next) (h : HubHeld) (gs : List GearHeld) (its : Bool) → n ≡ next_of d h → its ≡ are_lent h.node.machine.shape (lent_for n) gs → its ≡ true
    → IfOk r (λ done. done ≡ would_next d n h gs) → IfOk r (λ done. done ≡ may_show d h gs)
may_is r d n h gs its is are holds fits =
    may-with r (are_lent h.node.machine.shape (lent_for (next_of d h)) gs) (would_next d (next_of d h) h gs) (sym (ap (λ (m : Next). are_lent h.node.machine.shape (lent_for m) gs) is) ∙ (sym are ∙ holds))
    (subst (λ (m : Next). IfOk r (λ done. done ≡ would_next d m h gs)) is fits)

pub shown_as : (r : Result Bool CallFault) (d : Deployed) (n : Next) (h h' : HubHeld) (gs gs' : List GearHeld) → n ≡ next_of d h → IfOk r (λ done. done ≡ true → HasShown d n h gs h' gs')
    → IfOk r (λ done. done ≡ true → HasShown d (next_of d h) h gs h' gs')
shown_as r d n h h' gs gs' is done = subst (λ (m : Next). IfOk r (λ b. b ≡ true → HasShown d m h gs h' gs')) is done

pub fails_as : (r : Result Bool CallFault) (d : Deployed) (n : Next) (h : HubHeld) (gs : List GearHeld) → n ≡ next_of d h → IfErr r (FailsNext d n h gs) → IfErr r (FailsNext d (next_of d h) h gs)
fails_as r d n h gs is fails = subst (λ (m : Next). IfErr r (FailsNext d m h gs)) is fails

-- ---- an advance that is next

alone-advances : (s a : Bool) (shown : Lent) → next_would s a shown ≡ next.Advance → a ≡ true
alone-advances true a shown e = absurd (cc (e))
alone-advances false true shown e = refl
alone-advances false false shown e = absurd (cc (e))

next-advances : (x : HubSeen) (o : Option Label) → next_by x o ≡ next.Advance → would_do x hub.Advance ≡ true
next-advances x None e = alone-advances (would_do x hub.Stamp) (would_do x hub.Advance) _ e
next-advances x (Some l) e = absurd (cc (e))

pub advance_would : (d : Deployed) (n : Next) (h : HubHeld) → n ≡ next_of d h → n ≡ next.Advance → would_do h.node.machine hub.Advance ≡ true
advance_would d n h is advances = next-advances h.node.machine _ (sym is ∙ advances)

pub advance_shown : (d : Deployed) (n : Next) (h h' : HubHeld) (gs gs' : List GearHeld) (b : Bool) → n ≡ next.Advance → gs' ≡ gs → IsAdvanced d h h' → b ≡ true → HasShown d n h gs h' gs'
advance_shown d n h h' gs gs' b is same done e = subst (λ (m : Next). HasShown d m h gs h' gs') (sym is) (done, same)

pub advance_fits : (d : Deployed) (n : Next) (h : HubHeld) (gs : List GearHeld) → n ≡ next.Advance → true ≡ would_next d n h gs
advance_fits d n h gs is = sym (ap (λ (m : Next). would_next d m h gs) is)

pub advance_fails : (d : Deployed) (n : Next) (h : HubHeld) (gs : List GearHeld) (f : CallFault) → n ≡ next.Advance → FailsAlone h f → FailsNext d n h gs f
advance_fails d n h gs f is fails = subst (λ (m : Next). FailsNext d m h gs f) (sym is) fails

pub nothing_fits : (d : Deployed) (n : Next) (h : HubHeld) (gs : List GearHeld) → n ≡ next.Nothing → false ≡ would_next d n h gs
nothing_fits d n h gs is = sym (ap (λ (m : Next). would_next d m h gs) is)
