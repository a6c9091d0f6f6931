-- What a follower makes of the end of a text.
use Rattle.std.proofs.Common.{◌≡◌, ℕ, List, ◌++◌, Option, Some, None, Result, Ok, Err, IsSome, refl, sym, ap, subst, ◌∙◌}
use Rattle.std.proofs.lemmas.List.{append_cancel_left}
use Rattle.sat_act.specs.declared.entry.Entry.{Entry}
use Rattle.sat_act.specs.Deployed.{Deployed}
use Rattle.sat_act.specs.Runs.{IsRun}
use Rattle.sat_chain.specs.Stands.{ChainsSeen, ChainsFor}
use Rattle.sat_chain_laws.specs.Chains.{ChainEntry, plain}
use Rattle.sat_chain_laws.specs.ChainRuns.{IsChainRun}
use Rattle.sat_chain_laws.specs.Goals.{IsChainGood}
use Rattle.sat_chain_script.proofs.Sound.{close_ends}
use Rattle.sat_report.specs.Holdings.{holdings}
use Rattle.sat_script.specs.Grammar.{close_at}
use Rattle.sat_script.specs.Lines.{Closes, running}
use Rattle.sat_script.specs.State.{State, Seen, deployment_of}
use Rattle.sat_script.specs.declared.fault.ScriptFault.{ScriptFault}
use Rattle.sat_script.specs.declared.line.Stage.TheVariants as stage
use Rattle.sat_world.specs.Seen.{WorldSeen}
use Rattle.sat_world.specs.Stands.{StandsFor}
use Rattle.sat_chain_runs.specs.Held.{HeldSeen, StandFor, IsHeld, HasHoldings}
use Rattle.sat_chain_runs.proofs.Reading.{begun_at}
use Rattle.sat_chain_runs.proofs.Going.{chains_of, header_at}

-- ---- what the sites hold

module _ (v : HeldSeen) (x : ChainsSeen) (w : WorldSeen) (text longer : List ℕ) (held : IsHeld v) (is : v.chains ≡ Some x) (world : w ≡ x.world)
    (stands : (c : List ChainEntry) → IsChainRun x.world.deployment x.replicas c → ChainsFor x c → StandsFor w (plain x.replicas c))
    (good : (c : List ChainEntry) → IsChainRun x.world.deployment x.replicas c → ChainsFor x c → IsChainGood x.world.deployment x.replicas c)
    (wrote : (h : List Entry) → IsRun w.deployment h → StandsFor w h → longer ≡ text ++ holdings w.deployment h) where
  same : w.deployment ≡ x.world.deployment
  same = ap (λ (y : WorldSeen). y.deployment) world

  written : (c : List ChainEntry) → StandFor v.chains c → longer ≡ text ++ holdings w.deployment (plain x.replicas c)
  written c st =
      let had = subst (λ (o : Option ChainsSeen). StandFor o c) is st in
      wrote (plain x.replicas c) (subst (λ (d : Deployed). IsRun d (plain x.replicas c)) (sym same) (good c had.0 had.1).run) (stands c had.0 had.1)

  pub has_holdings : HasHoldings v text longer
  has_holdings = record {
    added = holdings w.deployment (plain x.replicas held.known.0);
    longer_by = written held.known.0 held.known.1;
    each = λ s st.
        ap (λ (d : Deployed). holdings d (plain v.replicas s.entries)) (header_at v s x held st is ∙ sym same)
        ∙ ap (λ (k : ℕ). holdings w.deployment (plain k s.entries)) (sym (chains_of v x held is).1)
        ∙ append_cancel_left text (holdings w.deployment (plain x.replicas s.entries)) (holdings w.deployment (plain x.replicas held.known.0)) (sym (written s.entries st.chains) ∙ written held.known.0 held.known.1);
  }

-- ---- the end

-- it ends well
closed_well : (o : Option ScriptFault) (s : State) (new : Seen) (result : Result (Unit {0}) ScriptFault) (rest : List ℕ) (u : Unit {0}) → result ≡ Ok u → Closes o s new result rest → (close_at s rest ≡ None) × (new ≡ running s)
closed_well None s new (Ok t) rest u is closes = (closes.0, closes.1)
closed_well None s new (Err f) rest u is closes = absurd (cc)
closed_well (Some f) s new result rest u is closes = absurd (let never : Ok u ≡ Err f = sym is ∙ closes.0 in cc)

pub has_begun : (o : Option ScriptFault) (s : State) (new : Seen) (result : Result (Unit {0}) ScriptFault) (rest : List ℕ) (u : Unit {0}) → result ≡ Ok u → Closes o s new result rest → IsSome (deployment_of new.state)
has_begun o s new result rest u is closes =
    let well = closed_well o s new result rest u is closes in
    begun_at new.state stage.Ended (ap (λ (x : Seen). x.state.stage) well.1 ∙ close_ends s.stage rest well.0) refl
