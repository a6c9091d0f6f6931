-- What gears give to a gather, and what the nodes keep of it.
use Rattle.std.specs.Prelude.{◌≡◌, ◌⊎◌, ◌↔◌, ◌+◌, ◌==◌, ◌&&◌, ℕ, true, List, [], ◌∷◌, length, map, Some, None, slice_get, option_map, Result, IfErr, IfOk, IsErrOf, OnOk}
use Rattle.std.specs.List.{flat_map}
use Rattle.std.proofs.Common.{refl, sym, ap, ◌∙◌, subst, arith, inl, inr, Ok, Err, length-append, ⊎_elim}
use Rattle.std.proofs.lemmas.Bool.Decides.{nat_tests}
use Rattle.std.proofs.lemmas.List.{length-map}
use Rattle.std.proofs.lemmas.Option.{slice_get-map}
use Rattle.sat_label.specs.declared.label.Label.{Label}
use Rattle.sat_label.specs.declared.node.NodeName.{NodeName}
use Rattle.sat_label.specs.declared.node.NodeName.TheVariants as named
use Rattle.sat_label.specs.Order.{label_eq}
use Rattle.sat_bulk.specs.declared.Drained.{Drained}
use Rattle.sat_gear.specs.Gear.{GearSeen, drained_of}
use Rattle.sat_sink.specs.Pending.{labels_of}
use Rattle.sat_act.specs.declared.answer.Answer.TheVariants as ans
use Rattle.sat_act.specs.Deployed.{Deployed}
use Rattle.sat_hub.specs.Seen.{HubSeen, IsHub}
use Rattle.sat_node.specs.declared.joint.Part.{Part}
use Rattle.sat_node.specs.declared.kept.CallFault.{CallFault}
use Rattle.sat_node.specs.declared.kept.CallFault.TheVariants as fault
use Rattle.sat_node.specs.Links.{Both}
use Rattle.sat_node.specs.Meanings.{replay}
use Rattle.sat_node.specs.Seen.{last_number}
use Rattle.sat_node.specs.Together.{AllKeep, AreSure, IsFit, IsSure, Keeps, KeepsSome, top_of}
use Rattle.sat_parts.specs.declared.hub_answer.HubAnswer.{HubAnswer}
use Rattle.sat_parts.specs.declared.hub_input.HubInput.TheVariants as hub
use Rattle.sat_parts.specs.declared.gear_input.GearInput.TheVariants as gear
use Rattle.sat_parts.specs.Acts.{GearActSeen, HubActSeen}
use Rattle.sat_parts.specs.GearSteps.{counts_eq, drained_eq, gear_may_fail, gear_takes, labels_eq}
use Rattle.sat_parts.specs.Gears.{gear_meaning}
use Rattle.sat_parts.specs.Hubs.{HubStands, hub_meaning}
use Rattle.sat_parts.specs.HubSteps.{hub_takes, may_gather}
use Rattle.sat_parts.specs.Locals.{GathersAreLocal, PartsAreLocal}
use Rattle.sat_parts.proofs.HubGathers.{gather-answers, gather-fits}
use Rattle.sat_parts_passes.specs.Gathers.{FailsAll, GearHeld, IsGathered, drain_act, drain_part, gather_act, gather_number, given_by, gives, label_count, stable_with, twice}
use Rattle.sat_parts_passes.specs.Sendings.{HubHeld}

pub count_more : (x : Drained) (xs : List Drained) → label_count xs + length x.labels ≡ label_count (x ∷ xs)
count_more x xs = let e = length-append x.labels (flat_map labels_of xs) in omega arith

-- ---- each part fits

label-self : (l : Label) → label_eq l l ≡ true
label-self l = grind (arith, nat_tests)

number-self : (n : ℕ) → (n == n) ≡ true
number-self n = grind (arith, nat_tests)

labels-self : (ls : List Label) → labels_eq ls ls ≡ true
labels-self [] = refl
labels-self (l ∷ ls) = λ i. label-self l i && labels-self ls i

counts-self : (ns : List ℕ) → counts_eq ns ns ≡ true
counts-self [] = refl
counts-self (n ∷ ns) = λ i. number-self n i && counts-self ns i

drained-self : (d : Drained) → drained_eq d d ≡ true
drained-self d = λ i. number-self d.promise i && (labels-self d.labels i && counts-self d.counts i)

drain-takes : (x : GearSeen) (labels stable : ℕ) → gear_takes x (gear.Drain (drained_of x) labels stable) ≡ true
unfolding gear_takes
drain-takes x labels stable = drained-self (drained_of x)

drain-sure : (d : Deployed) (g : GearHeld) (labels stable : ℕ) → PartsAreLocal → IsSure (gear_meaning d) (λ x act. gear_takes x act.input) (λ x act. gear_may_fail act.input) g (drain_part labels stable g)
drain-sure d g labels stable locals = record {
  fit = record { fits = drain-takes g.node.machine labels stable; copied = refl; from = locals d g.node (drain_act labels stable (gives g)) refl };
  sure = refl;
}

pub drains_sure : (d : Deployed) (gears : List GearHeld) (parts : List (Part GearActSeen)) (labels stable : ℕ) → PartsAreLocal → parts ≡ map (drain_part labels stable) gears →
    AreSure (gear_meaning d) (λ x act. gear_takes x act.input) (λ x act. gear_may_fail act.input) gears parts
drains_sure d gears parts labels stable locals e = (
  ap (λ (ps : List (Part GearActSeen)). length ps) e ∙ length-map gears (drain_part labels stable),
  λ k g at. (
    drain_part labels stable g,
    ap (λ (ps : List (Part GearActSeen)). slice_get ps k) e ∙ (slice_get-map (drain_part labels stable) gears k ∙ ap (option_map (drain_part labels stable)) at),
    drain-sure d g labels stable locals,
  ),
)

pub gather_fits : (d : Deployed) (h : HubHeld) (p : Part HubActSeen) (drained : List Drained) → GathersAreLocal → p ≡ twice (gather_act drained) → hub_takes h.node.machine (hub.Gather drained) ≡ true →
    IsFit (hub_meaning d) (λ x act. hub_takes x act.input) None h p
gather_fits d h p drained locals e fits =
    subst (λ (q : Part HubActSeen). IsFit (hub_meaning d) (λ x act. hub_takes x act.input) None h q) (sym e)
    (record { fits = fits; copied = refl; from = locals d h.node (gather_act drained) refl })

-- ---- what they keep

takes-gather : (x : HubSeen) (drained : List Drained) → hub_takes x (hub.Gather drained) ≡ true → may_gather x drained ≡ true
unfolding hub_takes
takes-gather x drained e = e

module _ (d : Deployed) (h h' : HubHeld) (gears gears' : List GearHeld) (own : Part HubActSeen) (parts : List (Part GearActSeen)) (k : IsHub h.node.machine)
    (st : HubStands d h.node.name h.node.machine (replay (hub_meaning d) h.node.name h.node.entries)) (fits : hub_takes h.node.machine (hub.Gather (given_by gears)) ≡ true) (is : own ≡ twice (gather_act (given_by gears)))
    (are : parts ≡ map (drain_part (label_count (given_by gears)) (stable_with (given_by gears))) gears) where
  abbrev part : GearHeld → Part GearActSeen
  part = drain_part (label_count (given_by gears)) (stable_with (given_by gears))

  told : (a : HubAnswer) → Keeps (hub_meaning d) (gather_number h gears) None (gather_act (given_by gears)) a h h' → a.answer ≡ ans.Gathered (label_count (given_by gears)) (stable_with (given_by gears))
  told a keeps = go h.node.name st keeps.answers where
    go : (name : NodeName) → HubStands d name h.node.machine (replay (hub_meaning d) h.node.name h.node.entries) → (hub_meaning d).answers name (replay (hub_meaning d) h.node.name h.node.entries) (gather_act (given_by gears)) a
        → a.answer ≡ ans.Gathered (label_count (given_by gears)) (stable_with (given_by gears))
    go (named.Site i) st answers = answers.answer ∙ sym (gather-answers d i h.node.machine _ (given_by gears) k st (gather-fits h.node.machine (given_by gears) k (takes-gather h.node.machine (given_by gears) fits)))
    go (named.Serializer e z) st answers = absurd st
    go (named.Gear i g) st answers = absurd st

  part-at : (n : ℕ) (x : GearHeld) (p : Part GearActSeen) → slice_get gears n ≡ Some x → slice_get parts n ≡ Some p → p ≡ part x
  part-at n x p at in_parts =
      let e : Some p ≡ Some (part x) = sym in_parts ∙ (ap (λ (ps : List (Part GearActSeen)). slice_get ps n) are ∙ (slice_get-map part gears n ∙ ap (option_map part) at)) in
      cc (e)

  all-keep : AllKeep (gear_meaning d) (gather_number h gears) parts gears gears' → Both (λ k x y. KeepsSome (gear_meaning d) (gather_number h gears) (drain_act (label_count (given_by gears)) (stable_with (given_by gears)) (gives x)) x y) gears gears'
  all-keep all = (
    all.0,
    λ n y at. (let f = all.1 n y at in (
      f.0,
      f.1,
      subst (λ (p : Part GearActSeen). KeepsSome (gear_meaning d) (gather_number h gears) p.input f.0 y) (part-at n f.0 f.2.0 f.1 f.2.1) f.2.2,
    )),
  )

  pub gathered_is : (r : Result HubAnswer CallFault) → IfOk r (λ a. Keeps (hub_meaning d) (gather_number h gears) None own.input a h h') → OnOk r (AllKeep (gear_meaning d) (gather_number h gears) parts gears gears')
      → OnOk r (IsGathered d h gears h' gears')
  gathered_is (Err f) keeps all = tt
  gathered_is (Ok a) keeps all =
      let home : Keeps (hub_meaning d) (gather_number h gears) None (gather_act (given_by gears)) a h h' = subst (λ (p : Part HubActSeen). Keeps (hub_meaning d) (gather_number h gears) None p.input a h h') is keeps in
      record { answer = a; told = told a home; home = home; parts = all-keep all }

pub fails_all : (r : Result HubAnswer CallFault) (h : HubHeld) (gears : List GearHeld) → IsErrOf r (fault.Worn last_number) ↔ (top_of 0 None h gears ≡ last_number)
    → IfErr r (λ f. (f ≡ fault.Worn last_number) ⊎ (f ≡ fault.Memory)) → IfErr r (FailsAll h gears)
fails_all (Ok a) h gears worn only = tt
fails_all (Err f) h gears worn only = ⊎_elim (λ (is : f ≡ fault.Worn last_number). inr (is, worn.0 (ap Err is))) (λ (is : f ≡ fault.Memory). inl is) only
