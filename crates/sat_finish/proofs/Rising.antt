-- The numbers of parts rise where those of a journal do.
use Rattle.std.proofs.Common.{◌≡◌, ◌<◌, ◌∙◌, ℕ, Bool, true, false, List, [], ◌∷◌, ◌++◌, sym, subst, arith}
use Rattle.std.specs.List.{flat_map}
use Rattle.sat_act.specs.Deployed.{Deployed}
use Rattle.sat_node.specs.declared.kept.Kept.{Kept as Line}
use Rattle.sat_node.specs.Meanings.{Rises}
use Rattle.sat_apart.specs.Lists.{Rising}
use Rattle.sat_parts.specs.declared.hub_answer.HubAnswer.{HubAnswer}
use Rattle.sat_parts.specs.declared.gear_answer.GearAnswer.{GearAnswer}
use Rattle.sat_parts.specs.Acts.{HubActSeen, GearActSeen}
use Rattle.sat_stitch.specs.Kept.{entry_of}
use Rattle.sat_parts_opened.specs.Collected.{gear_gives, hub_gives}
use Rattle.sat_parts_opened.specs.Keeping.{gear_kept, hub_kept}
use Rattle.sat_finish.specs.Parts.{PartSeen, gear_given, home_given, hub_given, hub_part, is_part_of, kept_part, part_if, part_number, written_part}
use Rattle.std.specs.Prelude.{Option, refl}

abbrev Above : ℕ → List PartSeen → Type 0
Above n [] = Unit {0}
Above n (p ∷ ps) = n < part_number p

less-more : (a b c : ℕ) → a < b → b < c → a < c
less-more a b c l m = omega arith

above-less : (n m : ℕ) (ps : List PartSeen) → n < m → Above m ps → Above n ps
above-less n m [] l a = tt
above-less n m (p ∷ ps) l a = less-more n m (part_number p) l a

first-rises : (p : PartSeen) (ps : List PartSeen) → Above (part_number p) ps → Rising part_number ps → Rising part_number (p ∷ ps)
first-rises p [] a r = tt
first-rises p (q ∷ ps) a r = (a, r)

module _ {I A : Type 0} (test : Line I A → Bool) (part : Line I A → PartSeen) (number : (k : Line I A) → (part k).lamport ≡ k.lamport) where
  abbrev read : Line I A → List PartSeen
  read k = part_if (test k) (part k)

  one : (b : Bool) (n : ℕ) (k : Line I A) (ps : List PartSeen) → n < k.lamport → Above k.lamport ps → Rising part_number ps → Above n (part_if b (part k) ++ ps) × Rising part_number (part_if b (part k) ++ ps)
  one true n k ps l a r = (
    subst (λ (m : ℕ). n < m) (sym (number k)) l,
    first-rises (part k) ps (subst (λ (m : ℕ). Above m ps) (sym (number k)) a) r,
  )
  one false n k ps l a r = (above-less n k.lamport ps l a, r)

  both : (n : ℕ) (es : List (Line I A)) → Rises n es → Above n (flat_map read es) × Rising part_number (flat_map read es)
  both n [] r = (tt, tt)
  both n (k ∷ es) r =
      let w : Above k.lamport (flat_map read es) × Rising part_number (flat_map read es) = both k.lamport es r.1 in
      one (test k) n k (flat_map read es) r.0 w.0 w.1

  pub rising : (es : List (Line I A)) → Rises 0 es → Rising part_number (flat_map read es)
  rising es r = (both 0 es r).1

pub hub_rising : (d : Deployed) (i g : ℕ) (es : List (Line HubActSeen HubAnswer)) → Rises 0 es → Rising part_number (flat_map (hub_part d i g) es)
hub_rising d i g es r =
    rising (λ k. hub_gives d i g k.input.input k.answer.answer) (λ k. record { lamport = k.lamport; entry = entry_of (hub_kept i k); given = hub_given g k.input.input k.answer }) (λ k. refl) es r

pub written_rising : (d : Deployed) (i h g : ℕ) (es : List (Line GearActSeen GearAnswer)) → Rises 0 es → Rising part_number (flat_map (written_part d i h g) es)
written_rising d i h g es r =
    rising (λ k. gear_gives d i g k.input.input k.answer.answer) (λ k. record { lamport = k.lamport; entry = entry_of (gear_kept i h k); given = home_given k.input.input k.answer.answer }) (λ k. refl) es r

pub kept_rising : (i g : ℕ) (o : Option ℕ) (es : List (Line GearActSeen GearAnswer)) → Rises 0 es → Rising part_number (flat_map (kept_part i g o) es)
kept_rising i g o es r =
    rising (λ k. is_part_of o k) (λ k. record { lamport = k.lamport; entry = entry_of (gear_kept i g k); given = gear_given k.input.input }) (λ k. refl) es r

-- ---- of the lists that calls gather, from journals that calls lend

rises-as : {I A : Type 0} (es fs : List (Line I A)) → es ≡ fs → Rises 0 fs → Rises 0 es
rises-as {I} {A} es fs e r = subst (λ (xs : List (Line I A)). Rises 0 xs) (sym e) r

rising-as : (ps qs : List PartSeen) → ps ≡ qs → Rising part_number qs → Rising part_number ps
rising-as ps qs e r = subst (λ (xs : List PartSeen). Rising part_number xs) (sym e) r

pub hub_list : (d : Deployed) (i g : ℕ) (ps : List PartSeen) (es fs : List (Line HubActSeen HubAnswer)) → ps ≡ flat_map (hub_part d i g) es → es ≡ fs → Rises 0 fs → Rising part_number ps
hub_list d i g ps es fs e f r = rising-as ps (flat_map (hub_part d i g) es) e (hub_rising d i g es (rises-as es fs f r))

pub written_list : (d : Deployed) (i h g : ℕ) (ps : List PartSeen) (es fs : List (Line GearActSeen GearAnswer)) → ps ≡ flat_map (written_part d i h g) es → es ≡ fs → Rises 0 fs → Rising part_number ps
written_list d i h g ps es fs e f r = rising-as ps (flat_map (written_part d i h g) es) e (written_rising d i h g es (rises-as es fs f r))

pub kept_list : (i g : ℕ) (o : Option ℕ) (ps : List PartSeen) (es fs : List (Line GearActSeen GearAnswer)) → ps ≡ flat_map (kept_part i g o) es → es ≡ fs → Rises 0 fs → Rising part_number ps
kept_list i g o ps es fs e f r = rising-as ps (flat_map (kept_part i g o) es) e (kept_rising i g o es (rises-as es fs f r))
