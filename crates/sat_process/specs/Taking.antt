-- What a host takes of what it is handed.
use Rattle.std.specs.Prelude.{◌≡◌, ℕ, List, [], ◌∷◌, ◌++◌}
use Rattle.std.specs.declared.option.Option.{Option}
use Rattle.sat_node.specs.declared.kept.Kept.{Kept}
use Rattle.sat_node.specs.declared.kept.Body.{Body}
use Rattle.sat_host_laws.specs.Messages.{HostSeen}
use Rattle.sat_handed.specs.declared.handed.Handed.{Handed}
use Rattle.sat_handed.specs.Told.{IsFed, told}

module _ {I A : Type 0} (asked : ℕ → I → Option Handed) (took : I → Option Body) where
  abbrev pub told_by : {M : Type 0} → HostSeen M I A → List Handed
  told_by h = told asked took h.node.entries h.slips

  -- one entry more, with its slip if it took a message: this is what was handed
  pub record Takes {M : Type 0} (h : Handed) (old new : HostSeen M I A) : Type 0 where
    pub name : new.node.name ≡ old.node.name
    pub cursors : new.cursors ≡ old.cursors
    pub entry : (k : Kept I A) × (new.node.entries ≡ old.node.entries ++ k ∷ [])
    pub handed : IsFed asked took old.node.entries old.slips → told_by new ≡ told_by old ++ h ∷ []
    pub fed : IsFed asked took old.node.entries old.slips → IsFed asked took new.node.entries new.slips
