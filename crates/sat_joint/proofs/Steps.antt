-- What an entry does at its site, from what it does at its nodes, and the other way round.
use Rattle.std.specs.Prelude.{◌≡◌, ◌<◌, ℕ, Bool, true, false, ◌||◌, ◌&&◌, ◌==◌, nat_lt, List, [], ◌∷◌, Option, Some, None, refl}
use Rattle.std.proofs.Common.{sym, subst, ap, ◌∙◌, arith, inl, inr}
use Rattle.std.proofs.lemmas.Bool.{and_parts, eqb-true, or_left, or_right}
use Rattle.std.proofs.lemmas.Bool.Decides.{nat_tests}
use Rattle.sat_label.specs.declared.carried.Carried.{Carried}
use Rattle.sat_label.specs.declared.items.Items.{Items}
use Rattle.sat_label.specs.Grouped.{list_of}
use Rattle.sat_label.specs.declared.label.Kind.TheVariants as kind
use Rattle.sat_label.specs.Words.{has}
use Rattle.sat_label.specs.declared.label.Label.{Label}
use Rattle.sat_act.specs.declared.act.Act.{Act}
use Rattle.sat_act.specs.declared.act.Act.TheVariants as act
use Rattle.sat_act.specs.declared.answer.Answer.{Answer}
use Rattle.sat_act.specs.declared.answer.Answer.TheVariants as ans
use Rattle.sat_act.specs.declared.answer.Refusal.{Refusal}
use Rattle.sat_act.specs.Deployed.{Deployed}
use Rattle.sat_laws.proofs.Labels.{some_is}
use Rattle.sat_model.specs.Input.{SiteInput}
use Rattle.sat_model.specs.Input as given
use Rattle.sat_model.specs.Next.{site_next, payload_at}
use Rattle.sat_model.specs.Reply.{gear_for, site_answer, write_by}
use Rattle.sat_stitch.specs.Kept.{Given, OfClient}
use Rattle.sat_stitch.specs.Nodes.{input_of}
use Rattle.sat_joint.specs.Pieces.{Drain, Handed, Plain, Drains, Drained, Showing, given_of}
use Rattle.sat_joint.specs.Table.{Node, AtHub, AtGear, same_node, shown_nodes, written_nodes, nodes, is_shared, is_first}
use Rattle.sat_joint.specs.Machines.{HubState, GearNode, kept_site, whole, hub_alone, no_drain, of_gears, drain_of, hub_next, hub_by, hub_by_input, gathers, gear_by, gear_by_input, gear_step, gear_drained, gear_shows, gear_alone, IsHubAnswer, IsGearAnswer}
use Rattle.sat_joint.specs.Joint.{Hands, Passes}
use Rattle.sat_joint.specs.Steps.{is_beat, SiteSteps, at_gear, GearsMove, HubsStep, GearsStep}
use Rattle.sat_joint.proofs.Nodes.{node-self, first-has, below-gear}
use Rattle.sat_joint.proofs.Sites.{IsGearAct, gear-moves, hub-moves, show-moves, drains-are, gather-moves, gather-answers, refused-act, wrote-is, is_listed, IsWritten, written-is, group-moves, is_gears, is_show, is_hubs, IsOfHub, hub-answers, hub-local}
use Rattle.sat_joint.proofs.Acts.{hub-input, shown-there, quiet-alone, gather-is, gear-home, IsAtGear, at-gear}

lt-is : (g n : ℕ) → g < n → nat_lt g n ≡ true
lt-is g n l = grind (arith, nat_tests)

is-lt : (g n : ℕ) → nat_lt g n ≡ true → g < n
is-lt g n l = grind (arith, nat_tests)

-- ---- a write of several items

other-gear : (i g n : ℕ) → (g == n) ≡ false → same_node (AtGear i g) (AtGear i n) ≡ false
other-gear i g n z = go (i == i) (g == n) z
  where
    go : (a b : Bool) → b ≡ false → (a && b) ≡ false
    go true true z = absurd (cc)
    go true false z = refl
    go false b z = refl

neither : (a b : Bool) → a ≡ false → b ≡ false → (a || b) ≡ false
neither true b e f = absurd (cc)
neither false true e f = absurd (cc)
neither false false e f = refl

abbrev PassesAll : ℕ → Act → Given → Deployed → Answer → (ℕ → Handed) → ℕ → Type 0
PassesAll i a x d r c g = (n : ℕ) → at_gear d i a x r n ≡ true → (g == n) ≡ false → Passes a (Plain x) r (c n)

-- what the gears of a site do in a write of several items whose home is gear g
module _ (d : Deployed) (i : ℕ) (client : ℕ) (items : Items) (values : List (List ℕ)) (seen : Carried) (r : Answer) (h : HubState) (gs ns : ℕ → GearNode) (c : ℕ → Handed) where
  abbrev group_act : Act
  group_act = act.Writes client items values

  abbrev seated : ℕ → Given
  seated t = OfClient seen (Some t)

  abbrev group_input : SiteInput
  group_input = given.Write seen items values

  abbrev Moves : ℕ → Type 0
  Moves t = GearsMove d i group_act (seated t) r c gs ns

  abbrev StepAt : ℕ → ℕ → Type 0
  StepAt t g = is_first (AtGear i g) (nodes d group_act (seated t) r) ≡ true → Moves t → c g ≡ Plain (seated t) → PassesAll i group_act (seated t) d r c g → IsGearAnswer d i (gs g) group_act (Plain (seated t)) r → SiteSteps d i group_act (seated t) r h h gs ns

  listed-there : (n : ℕ) (l : Label) → r ≡ ans.Wrote l → at_gear d i group_act (seated i) r n ≡ (same_node (AtGear i (gear_for d items)) (AtGear i n) || is_listed d i (list_of items) n)
  listed-there n l q = ap (λ (r : Answer). has same_node (AtGear i (gear_for d items) ∷ written_nodes d i items r) (AtGear i n)) q

  refused-there : (n : ℕ) (f : Refusal) → r ≡ ans.Refused f → at_gear d i group_act (seated i) r n ≡ (same_node (AtGear i (gear_for d items)) (AtGear i n) || false)
  refused-there n f q = ap (λ (r : Answer). has same_node (AtGear i (gear_for d items) ∷ written_nodes d i items r) (AtGear i n)) q

  reply-is : (input there : SiteInput) (n : GearNode) → input ≡ there → r ≡ site_answer d i (gear_alone d i n) there → r ≡ site_answer d i (gear_alone d i n) input
  reply-is input there n e q = q ∙ ap (λ (z : SiteInput). site_answer d i (gear_alone d i n) z) (sym e)

  written : (r : Answer) → r ≡ site_answer d i (gear_alone d i (gs (gear_for d items))) group_input → IsWritten d items r
  unfolding site_answer
  written r q = subst (λ (r : Answer). IsWritten d items r) (sym q) (written-is d i items (gs (gear_for d items)).gear.promise seen.point.ts)

  local : (r : Answer) → r ≡ site_answer d i (gear_alone d i (gs (gear_for d items))) group_input → r ≡ site_answer d i (whole d i h gs) group_input
  unfolding site_answer
  local r q = q

  group-step : StepAt i (gear_for d items)
  group-step e m y ps w = go (written r reply)
    where
      reply : r ≡ site_answer d i (gear_alone d i (gs (gear_for d items))) (given.Write seen items values)
      reply = reply-is (given.Write seen items values) w.0 (gs (gear_for d items)) (some_is (given.Write seen items values) w.0 w.1) w.2

      new : ns (gear_for d items) ≡ gear_step d (gear_for d items) (gs (gear_for d items)) (given.Write seen items values) r
      new =
          m.new (gear_for d items) (or_left (same_node (AtGear i (gear_for d items)) (AtGear i (gear_for d items))) (has same_node (written_nodes d i items r) (AtGear i (gear_for d items))) (node-self (AtGear i (gear_for d items)))) ∙
          ap (λ (y : Handed). gear_by d (gear_for d items) (gs (gear_for d items)) (act.Writes client items values) y r) y

      refused : (f : Refusal) → r ≡ ans.Refused f → kept_site d i (site_next d i (whole d i h gs) (given.Write seen items values) r) ≡ whole d i h ns
      refused f q =
          gear-moves d i (gear_for d items) h gs ns (given.Write seen items values) r (subst (λ (r : Answer). IsGearAct d i (gear_for d items) (given.Write seen items values) r) (sym q) (refused-act d i (gear_for d items) (given.Write seen items values) f))
          (λ n z. m.same n (refused-there n f q ∙ neither (same_node (AtGear i (gear_for d items)) (AtGear i n)) false (other-gear i (gear_for d items) n z) refl)) new

      done : (l : Label) → r ≡ ans.Wrote l → l.kind ≡ kind.Update items → l.point.gear ≡ gear_for d items → kept_site d i (site_next d i (whole d i h gs) (given.Write seen items values) r) ≡ whole d i h ns
      done l q is at =
          subst (λ (z : Answer). kept_site d i (site_next d i (whole d i h gs) (given.Write seen items values) z) ≡ whole d i h ns) (sym q)
          (group-moves d i (gear_for d items) h gs ns seen items values l is at
          (new ∙ ap (λ (z : Answer). gear_step d (gear_for d items) (gs (gear_for d items)) (given.Write seen items values) z) q)
          (λ n z u.
          let st : at_gear d i (act.Writes client items values) (OfClient seen (Some i)) r n ≡ true = listed-there n l q ∙ or_right (same_node (AtGear i (gear_for d items)) (AtGear i n)) (is_listed d i (list_of items) n) u in
          m.new n st ∙ ap (λ (y : Handed). gear_by d n (gs n) (act.Writes client items values) y r) (ps n st z l q))
          (λ n z u. m.same n (listed-there n l q ∙ neither (same_node (AtGear i (gear_for d items)) (AtGear i n)) (is_listed d i (list_of items) n) (other-gear i (gear_for d items) n z) u)))

      step : kept_site d i (site_next d i (whole d i h gs) (given.Write seen items values) r) ≡ whole d i h ns → ((m : Label) → r ≡ ans.Wrote m → gear_for d items ≡ m.point.gear) → is_beat r ≡ false → SiteSteps d i (act.Writes client items values) (OfClient seen (Some i)) r h h gs ns
      step state at no_beat = record {
        input = given.Write seen items values;
        handed = refl;
        answer = local r reply;
        state = state;
        wrote = λ m q. subst (λ (k : ℕ). same_node (AtGear i (gear_for d items)) (AtGear i k) ≡ true) (at m q) (node-self (AtGear i (gear_for d items)));
        beat = λ n. no_beat;
      }

      not-wrote : (f : Refusal) (m : Label) → r ≡ ans.Refused f → r ≡ ans.Wrote m → ⊥
      not-wrote f m q z = let both : ans.Refused f ≡ ans.Wrote m = sym q ∙ z in cc

      go : IsWritten d items r → SiteSteps d i (act.Writes client items values) (OfClient seen (Some i)) r h h gs ns
      go (inl f) = step (refused f.0 f.1) (λ m q. absurd (not-wrote f.0 m f.1 q)) (ap is_beat f.1)
      go (inr l) = step (done l.0 l.1 l.2 l.3) (λ m q. sym l.3 ∙ ap (λ (z : Label). z.point.gear) (wrote-is l.0 m (sym l.1 ∙ q))) (ap is_beat l.1)

  -- where the seat is the site, and the gear is the least item's
  group-at : (t g : ℕ) → StepAt t g
  group-at t g e =
      let one : ((t == i) ≡ true) × ((gear_for d items == g) ≡ true) = and_parts (t == i) (gear_for d items == g) e in
      subst (λ (t : ℕ). StepAt t g) (sym (eqb-true t i one.0)) (subst (λ (g : ℕ). StepAt i g) (eqb-true (gear_for d items) g one.1) group-step) e

shared-gear : (d : Deployed) (i : ℕ) (a : Act) (x : Given) (r : Answer) (h : HubState) (gs ns : ℕ → GearNode) (c : ℕ → Handed) (g : ℕ) → is_shared a ≡ true → is_first (AtGear i g) (nodes d a x r) ≡ true → GearsMove d i a x r c gs ns →
    c g ≡ Plain x → PassesAll i a x d r c g → IsGearAnswer d i (gs g) a (Plain x) r → SiteSteps d i a x r h h gs ns
shared-gear d i (act.Gather t) x r h gs ns c g n e m y ps w = absurd (cc)
shared-gear d i (act.Turn t) x r h gs ns c g n e m y ps w = absurd (cc)
shared-gear d i (act.Stamp t) x r h gs ns c g n e m y ps w = absurd (cc)
shared-gear d i (act.Writes client items values) (OfClient seen None) r h gs ns c g n e m y ps w = absurd (cc)
shared-gear d i (act.Writes client items values) (OfClient seen (Some t)) r h gs ns c g n e m y ps w = group-at d i client items values seen r h gs ns c t g e m y ps w
shared-gear d i (act.Writes client items values) _ r h gs ns c g n e m y ps w = absurd (cc)
shared-gear d i _ x r h gs ns c g n e m y ps w = absurd (cc)

module _ (d : Deployed) (i : ℕ) (a : Act) (r : Answer) (h : HubState) (gs ns : ℕ → GearNode) (c : ℕ → Handed) where
  abbrev FirstAt : Handed → Type 0
  FirstAt y = is_first (AtHub i) (nodes d a (given_of y) r) ≡ true

  abbrev Move : Handed → Type 0
  Move y = GearsMove d i a (given_of y) r c gs ns

  abbrev AllHands : Handed → Type 0
  AllHands y = (g : ℕ) → at_gear d i a (given_of y) r g ≡ true → Hands h (gs g) g y r (c g)

  abbrev Steps : Handed → HubState → Type 0
  Steps y k = SiteSteps d i a (given_of y) r h k gs ns

  -- ---- at a hub

  at-hub-not : (y : Handed) → FirstAt y → has same_node (nodes d a (given_of y) r) (AtHub i) ≡ false → is_beat r ≡ false
  at-hub-not y e n = absurd (let z : has same_node (nodes d a (given_of y) r) (AtHub i) ≡ true = first-has (AtHub i) (nodes d a (given_of y) r) e in cc)

  -- a hub alone, or one that shows
  plain-step : (x : Given) → FirstAt (Plain x) → Move (Plain x) → AllHands (Plain x) → IsHubAnswer d i h a (Plain x) r → Steps (Plain x) (hub_by d i h a (Plain x) r)
  plain-step x e m hands w =
      let input : SiteInput = w.1.0 in
      let hubs : is_hubs input ≡ true = hub-input d a x r i input e w.0 w.1.1 in
      let cases : IsOfHub (is_show input) r = subst (λ (r : Answer). IsOfHub (is_show input) r) (sym w.1.2) (hub-answers d i (hub_alone d i h) input hubs) in
      let by : hub_by d i h a (Plain x) r ≡ hub_next d i h (λ g. no_drain) input r = ap (λ (o : Option SiteInput). hub_by_input d i h o r) w.1.1 in
      record {
        input = input;
        handed = w.1.1;
        answer = w.1.2 ∙ hub-local d i h gs input hubs;
        state = go input cases w.1.1 ∙ ap (λ (k : HubState). whole d i k ns) (sym by);
        wrote = λ l q. absurd (no-write l q cases);
        beat = at-hub-not (Plain x) e;
      }
    where
      no-write : (l : Label) → r ≡ ans.Wrote l → {b : Bool} → IsOfHub b r → ⊥
      no-write l q (inl n) = let z : is_gears r ≡ true = ap is_gears q in cc
      no-write l q (inr n) = let z : ans.Wrote l ≡ ans.Shown n.0 = sym q ∙ n.1 in cc

      shows : (input : SiteInput) → input_of a x ≡ Some input → (l : Label) → r ≡ ans.Shown l → is_show input ≡ true → kept_site d i (site_next d i (whole d i h gs) input r) ≡ whole d i (hub_next d i h (λ g. no_drain) input r) ns
      shows input z l q b =
          let on : nodes d a x r ≡ AtHub i ∷ shown_nodes d i (ans.Shown l) = shown-there d a x r i input e z b ∙ ap (λ (r : Answer). AtHub i ∷ shown_nodes d i r) q in
          subst (λ (q : Answer). kept_site d i (site_next d i (whole d i h gs) input q) ≡ whole d i (hub_next d i h (λ g. no_drain) input q) ns) (sym q)
          (show-moves d i h gs ns input l
          (λ g t.
          let st : at_gear d i a x r g ≡ true = ap (λ (ns : List Node). has same_node ns (AtGear i g)) on ∙ t in
          m.new g st ∙ ap (λ (y : Handed). gear_by d g (gs g) a y r) (hands g st l q))
          (λ g t. m.same g (ap (λ (ns : List Node). has same_node ns (AtGear i g)) on ∙ t)))

      go : (input : SiteInput) → IsOfHub (is_show input) r → input_of a x ≡ Some input → kept_site d i (site_next d i (whole d i h gs) input r) ≡ whole d i (hub_next d i h (λ g. no_drain) input r) ns
      go input (inl q) z =
          hub-moves d i h gs input r q ∙ ap (λ (gs : ℕ → GearNode). whole d i (hub_next d i h (λ g. no_drain) input r) gs) (λ t g. sym (m.same g (quiet-alone d a x r i g e w.0 q)) t)
      go input (inr n) z = shows input z n.0 n.1 n.2

  stands-there : (x : Given) → a ≡ act.Gather i → (g : ℕ) → g < d.gears → at_gear d i a x r g ≡ true
  stands-there x is g l = ap (λ (a : Act). has same_node (nodes d a x r) (AtGear i g)) is ∙ below-gear d.gears i g l

  -- a gather
  gather-step : (f : ℕ → Drain) → FirstAt (Drains f) → Move (Drains f) → AllHands (Drains f) → IsHubAnswer d i h a (Drains f) r → Steps (Drains f) (hub_by d i h a (Drains f) r)
  gather-step f e m hands w =
      let is : a ≡ act.Gather i = gather-is d a (given_of (Drains f)) r i e w.0 in
      let drains : of_gears d f ≡ (λ g. drain_of (gs g)) = drains-are d gs f (λ g l. (hands g (stands-there (given_of (Drains f)) is g l)).0) m.far in
      record {
        input = given.Gather;
        handed = ap (λ (a : Act). input_of a (given_of (Drains f))) is;
        answer = w.1 ∙ gather-answers d i h gs f drains;
        state =
            subst (λ (q : Answer). kept_site d i (site_next d i (whole d i h gs) given.Gather q) ≡ whole d i (hub_next d i h (of_gears d f) given.Gather q) ns) (sym w.1)
            (gather-moves d i h gs ns f _ _ drains (λ g. drained is g (nat_lt g d.gears) refl));
        wrote = λ l q. absurd (let z : gathers d f ≡ ans.Wrote l = sym w.1 ∙ q in cc);
        beat = at-hub-not (Drains f) e;
      }
    where
      far-not : (g : ℕ) → nat_lt g d.gears ≡ false → at_gear d i a (given_of (Drains f)) r g ≡ false
      far-not g l = go (at_gear d i a (given_of (Drains f)) r g) refl
        where
          go : (b : Bool) → at_gear d i a (given_of (Drains f)) r g ≡ b → b ≡ false
          go true z = absurd (let y : nat_lt g d.gears ≡ true = lt-is g d.gears (m.range g z) in cc)
          go false z = refl

      drained : a ≡ act.Gather i → (g : ℕ) (b : Bool) → nat_lt g d.gears ≡ b → ns g ≡ gear_drained (gs g)
      drained is g true l =
          let st : at_gear d i a (given_of (Drains f)) r g ≡ true = stands-there (given_of (Drains f)) is g (is-lt g d.gears l) in
          m.new g st ∙ ap (λ (y : Handed). gear_by d g (gs g) a y r) (hands g st).1
      drained is g false l = m.same g (far-not g l) ∙ (m.far g l ∙ sym (ap gear_drained (m.far g l)))

  -- an act whose home is the hub
  pub hub-step : (y : Handed) → FirstAt y → Move y → AllHands y → IsHubAnswer d i h a y r → Steps y (hub_by d i h a y r)
  hub-step (Plain x) e m hands w = plain-step x e m hands w
  hub-step (Drains f) e m hands w = gather-step f e m hands w
  hub-step Drained e m hands w = absurd w
  hub-step (Showing p) e m hands w = absurd w

  -- ---- at a gear

  plain-gear : (g : ℕ) (x : Given) → is_shared a ≡ false → is_first (AtGear i g) (nodes d a x r) ≡ true → Move (Plain x) → c g ≡ Plain x → IsGearAnswer d i (gs g) a (Plain x) r → Steps (Plain x) h
  plain-gear g x alone e m y w =
      let input : SiteInput = w.0 in
      let there : IsAtGear d i g h gs input = at-gear d i h gs a x r g input alone e w.1 in
      let on : nodes d a x r ≡ AtGear i g ∷ [] = gear-home d a x r i g alone e in
      let leaves : IsGearAct d i g input r = subst (λ (r : Answer). IsGearAct d i g input r) (sym w.2) there.leaves in
      let new : ns g ≡ gear_step d g (gs g) input r =
      m.new g (first-has (AtGear i g) (nodes d a x r) e) ∙ (ap (λ (y : Handed). gear_by d g (gs g) a y r) y ∙ ap (λ (o : Option SiteInput). gear_by_input d g (gs g) o r) w.1) in
      record {
        input = input;
        handed = w.1;
        answer = w.2 ∙ there.local;
        state = gear-moves d i g h gs ns input r leaves (λ n z. m.same n (ap (λ (ns : List Node). has same_node ns (AtGear i n)) on ∙ neither (same_node (AtGear i g) (AtGear i n)) false (other-gear i g n z) refl)) new;
        wrote = λ l q. subst (λ (m : ℕ). is_first (AtGear i m) (nodes d a x r) ≡ true) (sym (leaves.wrote l q)) e;
        beat = λ n. leaves.no_beat;
      }

  -- an act whose home is a gear
  pub gear-home-step : (g : ℕ) (y : Handed) → is_first (AtGear i g) (nodes d a (given_of y) r) ≡ true → Move y → c g ≡ y → ((n : ℕ) → at_gear d i a (given_of y) r n ≡ true → (g == n) ≡ false → Passes a y r (c n)) → IsGearAnswer d i (gs g) a y r → Steps y h
  gear-home-step g (Plain x) e m z ps w = go (is_shared a) refl
    where
      go : (b : Bool) → is_shared a ≡ b → Steps (Plain x) h
      go true n = shared-gear d i a x r h gs ns c g n e m z ps w
      go false n = plain-gear g x n e m z w
  gear-home-step g (Drains f) e m z ps w = absurd w
  gear-home-step g Drained e m z ps w = absurd w
  gear-home-step g (Showing p) e m z ps w = absurd w

pub hubs-step : HubsStep
hubs-step d i a r h gs ns c y e m hands w = hub-step d i a r h gs ns c y e m hands w

pub gears-step : GearsStep
gears-step d i a r h gs ns c g y e m z ps w = gear-home-step d i a r h gs ns c g y e m z ps w
