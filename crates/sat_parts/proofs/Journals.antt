-- The journals of nodes are journals of the model's machines.
use Rattle.std.specs.Prelude.{◌≡◌, ◌<◌, ◌≤◌, ℕ, suc, true, List, [], ◌∷◌, Some, slice_get, refl}
use Rattle.std.proofs.Common.{subst, arith, inl, inr}
use Rattle.sat_label.specs.Members.{In}
use Rattle.sat_label.specs.declared.node.NodeName.TheVariants as named
use Rattle.sat_act.specs.Deployed.{Deployed}
use Rattle.sat_stitch.specs.Nodes.{stands}
use Rattle.sat_hub_laws.specs.Lines.{HubLine, GearLine, IsHubJournal, IsGearJournal, hub_number, gear_number, hub_replay, gear_replay}
use Rattle.sat_node.specs.declared.kept.Kept.{Kept}
use Rattle.sat_node.specs.Links.{Each}
use Rattle.sat_node.specs.Meanings.{Runs, RunsFrom, Rises, state_from}
use Rattle.sat_parts.specs.declared.hub_answer.HubAnswer.{HubAnswer}
use Rattle.sat_parts.specs.declared.gear_answer.GearAnswer.{GearAnswer}
use Rattle.sat_parts.specs.Acts.{HubActSeen, GearActSeen}
use Rattle.sat_parts.specs.Hubs.{hub_meaning, HubFitsAt, HubAnswersAt}
use Rattle.sat_parts.specs.Gears.{gear_meaning, GearFitsAt, GearAnswersAt}
use Rattle.sat_parts.specs.Lines.{GearsKeep, HubsKeep, KeepsGear, KeepsHub, gear_behind, gear_line, hub_behind, hub_line}

-- ---- hubs

module _ (d : Deployed) (i : ℕ) where
  -- lines whose numbers are up to one, and the entries behind them
  pub record HubSoFar (lines : List HubLine) (n : ℕ) : Type 0 where
    pub journal : IsHubJournal d i lines
    pub upto : (x : HubLine) → In lines x → hub_number x ≤ n

  hub-more : (lines : List HubLine) (n : ℕ) (k : Kept HubActSeen HubAnswer) → HubSoFar lines n → n < k.lamport → HubFitsAt d i (hub_replay d i lines) k.input → HubAnswersAt d i (hub_replay d i lines) k.input k.answer → stands k.answer.answer ≡ true → HubSoFar (hub_line k ∷ lines) k.lamport
  hub-more lines n k so lt fits answers standing = record {
    journal = record {
      rising = (so.journal.rising, λ x at. (let low : hub_number x ≤ n = so.upto x at in omega arith));
      lines = (so.journal.lines, record { site = fits.site; fits = fits.fits; answer = answers.answer; standing = standing });
    };
    upto = above;
  }
    where
      above : (x : HubLine) → In (hub_line k ∷ lines) x → hub_number x ≤ k.lamport
      above x (inl same) = subst (λ (y : HubLine). hub_number y ≤ k.lamport) same (omega arith)
      above x (inr at) = let low : hub_number x ≤ n = so.upto x at in omega arith

  pub record HubDone (lines : List HubLine) (ks : List (Kept HubActSeen HubAnswer)) : Type 0 where
    pub journal : IsHubJournal d i (hub_behind lines ks)
    pub state : state_from (hub_meaning d) (named.Site i) (hub_replay d i lines) ks ≡ hub_replay d i (hub_behind lines ks)

  hub-keeps : (lines : List HubLine) (n : ℕ) (ks : List (Kept HubActSeen HubAnswer)) → HubSoFar lines n → RunsFrom (hub_meaning d) (named.Site i) (hub_replay d i lines) ks → Rises n ks → ((m : ℕ) (k : Kept HubActSeen HubAnswer) → slice_get ks m ≡ Some k → stands k.answer.answer ≡ true) → HubDone lines ks
  unfolding hub_replay
  hub-keeps lines n [] so runs rises standing = record { journal = so.journal; state = refl }
  hub-keeps lines n (k ∷ ks) so runs rises standing =
      let done : HubDone (hub_line k ∷ lines) ks = hub-keeps (hub_line k ∷ lines) k.lamport ks (hub-more lines n k so rises.0 runs.0 runs.1 (standing 0 k refl)) runs.2 rises.1 (λ m x at. standing (suc m) x at) in
      record { journal = done.journal; state = done.state }

  pub hubs-keep-at : (ks : List (Kept HubActSeen HubAnswer)) → Runs (hub_meaning d) (named.Site i) ks → Rises 0 ks → Each ks (λ n k. stands k.answer.answer ≡ true) → KeepsHub d i ks
  unfolding hub_replay
  hubs-keep-at ks runs rises standing =
      let done : HubDone [] ks = hub-keeps [] 0 ks (record { journal = record { rising = tt; lines = tt }; upto = λ x at. absurd at }) runs rises standing in
      record { journal = done.journal; state = done.state }

pub hubs-keep : HubsKeep
hubs-keep d i ks runs rises standing = hubs-keep-at d i ks runs rises standing

-- ---- gears

module _ (d : Deployed) (i g : ℕ) where
  pub record GearSoFar (lines : List GearLine) (n : ℕ) : Type 0 where
    pub journal : IsGearJournal d i g lines
    pub upto : (x : GearLine) → In lines x → gear_number x ≤ n

  gear-more : (lines : List GearLine) (n : ℕ) (k : Kept GearActSeen GearAnswer) → GearSoFar lines n → n < k.lamport → GearFitsAt d i g (gear_replay d g lines) k.input → GearAnswersAt d i (gear_replay d g lines) k.input k.answer → stands k.answer.answer ≡ true → GearSoFar (gear_line k ∷ lines) k.lamport
  gear-more lines n k so lt fits answers standing = record {
    journal = record {
      rising = (so.journal.rising, λ x at. (let low : gear_number x ≤ n = so.upto x at in omega arith));
      lines = (so.journal.lines, record { site = fits.site; gear = fits.gear; fits = fits.fits; own = fits.own; answer = answers.answer; standing = standing });
    };
    upto = above;
  }
    where
      above : (x : GearLine) → In (gear_line k ∷ lines) x → gear_number x ≤ k.lamport
      above x (inl same) = subst (λ (y : GearLine). gear_number y ≤ k.lamport) same (omega arith)
      above x (inr at) = let low : gear_number x ≤ n = so.upto x at in omega arith

  pub record GearDone (lines : List GearLine) (ks : List (Kept GearActSeen GearAnswer)) : Type 0 where
    pub journal : IsGearJournal d i g (gear_behind lines ks)
    pub state : state_from (gear_meaning d) (named.Gear i g) (gear_replay d g lines) ks ≡ gear_replay d g (gear_behind lines ks)

  gear-keeps : (lines : List GearLine) (n : ℕ) (ks : List (Kept GearActSeen GearAnswer)) → GearSoFar lines n → RunsFrom (gear_meaning d) (named.Gear i g) (gear_replay d g lines) ks → Rises n ks → ((m : ℕ) (k : Kept GearActSeen GearAnswer) → slice_get ks m ≡ Some k → stands k.answer.answer ≡ true) → GearDone lines ks
  unfolding gear_replay
  gear-keeps lines n [] so runs rises standing = record { journal = so.journal; state = refl }
  gear-keeps lines n (k ∷ ks) so runs rises standing =
      let done : GearDone (gear_line k ∷ lines) ks = gear-keeps (gear_line k ∷ lines) k.lamport ks (gear-more lines n k so rises.0 runs.0 runs.1 (standing 0 k refl)) runs.2 rises.1 (λ m x at. standing (suc m) x at) in
      record { journal = done.journal; state = done.state }

  pub gears-keep-at : (ks : List (Kept GearActSeen GearAnswer)) → Runs (gear_meaning d) (named.Gear i g) ks → Rises 0 ks → Each ks (λ n k. stands k.answer.answer ≡ true) → KeepsGear d i g ks
  unfolding gear_replay
  gears-keep-at ks runs rises standing =
      let done : GearDone [] ks = gear-keeps [] 0 ks (record { journal = record { rising = tt; lines = tt }; upto = λ x at. absurd at }) runs rises standing in
      record { journal = done.journal; state = done.state }

pub gears-keep : GearsKeep
gears-keep d i g ks runs rises standing = gears-keep-at d i g ks runs rises standing
