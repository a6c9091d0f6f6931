-- What a tick of a gear is, and what it leaves.
use Rattle.std.proofs.Common.{◌≡◌, ◌≢◌, ◌↔◌, ℕ, ◌+◌, ◌<◌, ◌≤◌, ◌==◌, max, Bool, true, false, List, [], ◌∷◌, ◌++◌, Result, Ok, Err, IfErr, IfOk, IsErrOf, OnErr, OnOk, inl, inr, refl, sym, ap, ◌∙◌, subst, arith, ⊎_elim}
use Rattle.std.specs.Prelude.{nat_lt, if◌then◌else◌}
use Rattle.std.proofs.lemmas.Bool.{le-leb}
use Rattle.std.proofs.lemmas.Bool.Decides.{nat_tests}
use Rattle.sat_label.specs.declared.limits.TheConstants.{TS_END}
use Rattle.sat_label.specs.declared.node.NodeName.{NodeName}
use Rattle.sat_label.specs.declared.node.NodeName.TheVariants as named
use Rattle.sat_act.specs.declared.answer.Answer.{Answer}
use Rattle.sat_act.specs.declared.answer.Answer.TheVariants as ans
use Rattle.sat_act.specs.Deployed.{Deployed}
use Rattle.sat_gear.specs.Gear.{GearSeen}
use Rattle.sat_stitch.specs.Nodes.{stands}
use Rattle.sat_joint.specs.Machines.{GearNode}
use Rattle.sat_hub_laws.specs.Gears.{gear_answer, gear_then}
use Rattle.sat_hub_laws.specs.Inputs as model
use Rattle.sat_node.specs.declared.kept.CallFault.{CallFault}
use Rattle.sat_node.specs.declared.kept.CallFault.TheVariants as fault
use Rattle.sat_node.specs.declared.kept.Kept.{Kept}
use Rattle.sat_node.specs.Links.{HeldSeen, IsLocal}
use Rattle.sat_node.specs.Meanings.{replay, state_from}
use Rattle.sat_node.specs.Seen.{NodeSeen, entry, last_number, Takes}
use Rattle.sat_node.specs.Together.{SameHeld}
use Rattle.sat_node.proofs.Together.{same_of}
use Rattle.sat_machines.specs.Sites.{number_of}
use Rattle.sat_parts.specs.declared.gear_answer.GearAnswer.{GearAnswer}
use Rattle.sat_parts.specs.declared.gear_input.GearInput.TheVariants as gear
use Rattle.sat_parts.specs.Acts.{GearActSeen}
use Rattle.sat_parts.specs.GearSteps.{gear_takes}
use Rattle.sat_parts.specs.Gears.{GearAnswersAt, GearStands, StandsGearNode, gear_meaning, gear_number}
use Rattle.sat_passes.specs.Sendings.{FailsAlone}
use Rattle.sat_parts_passes.specs.Gathers.{GearHeld}
use Rattle.sat_parts_pump.specs.Ticks.{IsTicked, tick_act}

-- ---- it fits, and takes nothing from a link

pub tick_takes : (x : GearSeen) (ts : ℕ) → ts ≤ TS_END → gear_takes x (gear.Tick ts) ≡ true
unfolding gear_takes
tick_takes x ts le = le-leb ts TS_END le

tick-stands : (d : Deployed) (i : ℕ) (n : GearNode) (ts : ℕ) → stands (gear_answer d i n (model.Tick ts)) ≡ true
unfolding gear_answer
tick-stands d i n ts = refl

pub tick_local : (d : Deployed) (node : NodeSeen GearSeen GearActSeen GearAnswer) (ts : ℕ) → IsLocal (gear_meaning d) node (tick_act ts)
tick_local d node ts = record {
  stands = λ a h. ap stands h.answer ∙ tick-stands d (number_of node.name) (replay (gear_meaning d) node.name node.entries) ts;
  takes = λ a k h. refl;
}

-- ---- promises

promise-of : (d : Deployed) (name : NodeName) (x : GearSeen) (n : GearNode) → GearStands d name x n → x.promise ≡ n.gear.promise
promise-of d (named.Site i) x n st = absurd st
promise-of d (named.Serializer e z) x n st = absurd st
promise-of d (named.Gear i g) x n st = st.gear.promise

most-zero : (n : ℕ) → max n 0 ≡ n
most-zero n = grind (arith)

most-less : (m n : ℕ) → m < n → max m n ≡ n
most-less m n less = grind (arith)

same-number : (n : ℕ) → (n == n) ≡ true
same-number n = grind (arith, nat_tests)

told-is : (d : Deployed) (i : ℕ) (n : GearNode) (ts : ℕ) → n.gear.promise < ts → gear_answer d i n (model.Tick ts) ≡ ans.Ticked ts
unfolding gear_answer
told-is d i n ts less = ap ans.Ticked (most-less n.gear.promise ts less)

tick-promise : (d : Deployed) (g : ℕ) (n : GearNode) (ts : ℕ) (r : Answer) → r ≡ ans.Ticked ts → (gear_then d g n (model.Tick ts) r).gear.promise ≡ ts
tick-promise d g n ts r is =
    ap (λ (a : Answer). (gear_then d g n (model.Tick ts) a).gear.promise) is ∙ ap (λ (b : Bool). if b then ts else n.gear.promise) (same-number g)

state-next : (d : Deployed) (name : NodeName) (s : GearNode) (ks : List (Kept GearActSeen GearAnswer)) (k : Kept GearActSeen GearAnswer)
    → state_from (gear_meaning d) name s (ks ++ k ∷ []) ≡ (gear_meaning d).after name (state_from (gear_meaning d) name s ks) k.input k.answer
state-next d name s [] k = refl
state-next d name s (x ∷ xs) k = state-next d name ((gear_meaning d).after name s x.input x.answer) xs k

-- ---- what it leaves

module _ (d : Deployed) (old new : GearHeld) (ts : ℕ) (st : GearStands d old.node.name old.node.machine (replay (gear_meaning d) old.node.name old.node.entries)) (less : old.node.machine.promise < ts) where
  abbrev state : GearNode
  state = replay (gear_meaning d) old.node.name old.node.entries

  told : (a : GearAnswer) → GearAnswersAt d (number_of old.node.name) state (tick_act ts) a → a.answer ≡ ans.Ticked ts
  told a h = h.answer ∙ told-is d (number_of old.node.name) state ts (subst (λ (p : ℕ). p < ts) (promise-of d old.node.name old.node.machine state st) less)

  given-ticked : (r : Result GearAnswer CallFault) (may : Bool) → Takes 0 (tick_act ts) may r old.node new.node → IfOk r (λ a. GearAnswersAt d (number_of old.node.name) state (tick_act ts) a)
      → new.outs ≡ old.outs → new.ins ≡ old.ins → OnOk r (IsTicked d ts old new)
  given-ticked (Err f) may takes h outs ins = tt
  given-ticked (Ok a) may takes h outs ins = record {
    answer = a;
    told = told a h;
    kept = record {
      answers = h;
      entries = takes.taken ∙ ap (λ (n : ℕ). old.node.entries ++ entry (n + 1) (tick_act ts) a ∷ []) (most-zero old.node.number);
      number_is = takes.number ∙ ap (λ (n : ℕ). n + 1) (most-zero old.node.number);
      name_is = takes.name;
      outs_are = outs;
      ins_are = ins;
    };
  }

  given-up : (r : Result GearAnswer CallFault) (may : Bool) → GearStands d new.node.name new.node.machine (replay (gear_meaning d) new.node.name new.node.entries) → Takes 0 (tick_act ts) may r old.node new.node
      → IfOk r (λ a. GearAnswersAt d (number_of old.node.name) state (tick_act ts) a) → OnOk r (new.node.machine.promise ≡ ts)
  given-up (Err f) may sn takes h = tt
  given-up (Ok a) may sn takes h =
      let next : replay (gear_meaning d) new.node.name new.node.entries ≡ gear_then d (gear_number old.node.name) state (model.Tick ts) a.answer =
      (λ j. replay (gear_meaning d) (takes.name j) (takes.taken j)) ∙ state-next d old.node.name ((gear_meaning d).fresh old.node.name) old.node.entries (entry (max old.node.number 0 + 1) (tick_act ts) a) in
      promise-of d new.node.name new.node.machine (replay (gear_meaning d) new.node.name new.node.entries) sn
      ∙ (ap (λ (n : GearNode). n.gear.promise) next ∙ tick-promise d (gear_number old.node.name) state ts a.answer (told a h))

  pub ticked_is : (r : Result GearAnswer CallFault) (may : Bool) (act : GearActSeen) → act ≡ tick_act ts → Takes 0 act may r old.node new.node → IfOk r (λ a. GearAnswersAt d (number_of old.node.name) state act a)
      → new.outs ≡ old.outs → new.ins ≡ old.ins → OnOk r (IsTicked d ts old new)
  ticked_is r may act same takes h outs ins =
      given-ticked r may (subst (λ (x : GearActSeen). Takes 0 x may r old.node new.node) same takes)
      (subst (λ (x : GearActSeen). IfOk r (λ a. GearAnswersAt d (number_of old.node.name) state x a)) same h) outs ins

  pub ticked_up : (r : Result GearAnswer CallFault) (may : Bool) (act : GearActSeen) → act ≡ tick_act ts → GearStands d new.node.name new.node.machine (replay (gear_meaning d) new.node.name new.node.entries) → Takes 0 act may r old.node new.node
      → IfOk r (λ a. GearAnswersAt d (number_of old.node.name) state act a) → OnOk r (new.node.machine.promise ≡ ts)
  ticked_up r may act same sn takes h =
      given-up r may sn (subst (λ (x : GearActSeen). Takes 0 x may r old.node new.node) same takes)
      (subst (λ (x : GearActSeen). IfOk r (λ a. GearAnswersAt d (number_of old.node.name) state x a)) same h)

-- ---- faults of a node's act that takes nothing from a link

alone-number : (n m : ℕ) → max n 0 ≡ m → n ≡ m
alone-number n m e = sym (most-zero n) ∙ e

pub fails_old : {M I A : Type 0} (r : Result A CallFault) (may : Bool) (old new : HeldSeen M I A) (act : I) → Takes 0 act may r old.node new.node → IfErr r (FailsAlone old)
fails_old (Ok a) may old new act takes = tt
fails_old (Err f) may old new act takes = ⊎_elim (λ (is : f ≡ fault.Worn last_number). inr (is, alone-number old.node.number last_number (takes.worn.0 (ap Err is)))) (λ (is : f ≡ fault.Memory). inl is) takes.only

pub worn_old : {M I A : Type 0} (r : Result A CallFault) (may : Bool) (old new : HeldSeen M I A) (act : I) → Takes 0 act may r old.node new.node
    → IfErr r (λ f. (f ≡ fault.Worn last_number) ↔ (old.node.number ≡ last_number))
worn_old (Ok a) may old new act takes = tt
worn_old {A = A} (Err f) may old new act takes = (
  λ is. alone-number old.node.number last_number (takes.worn.0 (ap Err is)),
  λ e. (let w = takes.worn.1 (most-zero old.node.number ∙ e) in cc (w)),
)

pub number_old : {M I A : Type 0} (r : Result A CallFault) (may : Bool) (old new : HeldSeen M I A) (act : I) → Takes 0 act may r old.node new.node → OnOk r (old.node.number ≢ last_number)
number_old (Ok a) may old new act takes = λ e. (let w = takes.worn.1 (most-zero old.node.number ∙ e) in cc (w))
number_old (Err f) may old new act takes = tt

pub same_old : {M I A : Type 0} (r : Result A CallFault) (may : Bool) (old new : HeldSeen M I A) (act : I) → Takes 0 act may r old.node new.node → new.outs ≡ old.outs → new.ins ≡ old.ins → OnErr r (SameHeld old new)
same_old (Ok a) may old new act takes outs ins = tt
same_old (Err f) may old new act takes outs ins = same_of old new takes.err.0 takes.err.1 outs ins

-- ---- where it is not below, and where it was

not-less : (p ts : ℕ) → ts ≤ p → nat_lt p ts ≡ false
not-less p ts le = grind (arith, nat_tests)

pub not_below : (p ts : ℕ) → ts ≤ p → false ≡ nat_lt p ts
not_below p ts le = sym (not-less p ts le)

less-is : (p ts : ℕ) → p < ts → nat_lt p ts ≡ true
less-is p ts less = grind (arith, nat_tests)

pub is_below : (p ts : ℕ) → p < ts → true ≡ nat_lt p ts
is_below p ts less = sym (less-is p ts less)

pub most_first : (p ts : ℕ) → ts ≤ p → p ≡ max p ts
most_first p ts le = grind (arith)

pub most_second : (p ts y : ℕ) → p < ts → y ≡ ts → y ≡ max p ts
most_second p ts y less e = e ∙ sym (most-less p ts less)
