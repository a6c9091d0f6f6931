-- A hub's gather, and what its passes have looked at.
use Rattle.std.proofs.Common.{◌≡◌, ◌&&◌, Bool, true, false, List, [], ◌∷◌, ◌++◌, Result, Ok, Err, IfErr, IfOk, OnErr, OnOk, refl, sym, ap, ◌∙◌}
use Rattle.std.proofs.lemmas.List.{append-nil}
use Rattle.sat_act.specs.Deployed.{Deployed}
use Rattle.sat_node.specs.declared.kept.CallFault.{CallFault}
use Rattle.sat_node.specs.Seen.{entry}
use Rattle.sat_node.specs.Together.{SameHeld}
use Rattle.sat_parts_passes.specs.Gathers.{GearHeld, IsGathered}
use Rattle.sat_parts_passes.specs.Sendings.{HubHeld, HubKept}

-- some entries more, or none
abbrev pub More : HubHeld → HubHeld → Type 0
More old new = (more : List HubKept) × (new.node.entries ≡ old.node.entries ++ more)

pub more_same : (old new : HubHeld) → new.node.entries ≡ old.node.entries → More old new
more_same old new e = ([], e ∙ sym (append-nil old.node.entries))

pub more_as : (old new : HubHeld) → new ≡ old → More old new
more_as old new e = more_same old new (ap (λ (h : HubHeld). h.node.entries) e)

gathered-by : (d : Deployed) (h h' : HubHeld) (gs gs' : List GearHeld) (b : Bool) → (b ≡ true → IsGathered d h gs h' gs') → (b ≡ false → (h' ≡ h) × (gs' ≡ gs)) → More h h'
gathered-by d h h' gs gs' true done same = (let g = done refl in (entry _ _ g.answer ∷ [], g.home.entries))
gathered-by d h h' gs gs' false done same = (let s = same refl in more_as h h' s.0)

pub gathered_more : (r : Result Bool CallFault) (d : Deployed) (h h' : HubHeld) (gs gs' : List GearHeld) (P : Type 0) → IfOk r (λ done. done ≡ true → IsGathered d h gs h' gs')
    → IfOk r (λ done. done ≡ false → (h' ≡ h) × (gs' ≡ gs)) → OnErr r (SameHeld h h' × P) → More h h'
gathered_more (Ok b) d h h' gs gs' P done same err = gathered-by d h h' gs gs' b done same
gathered_more (Err f) d h h' gs gs' P done same err = more_same h h' err.0.same.2

-- ---- whether it would

pub would_more : (r : Result Bool CallFault) (may takes : Bool) → may ≡ true → IfOk r (λ done. done ≡ takes) → IfOk r (λ done. done ≡ (may && takes))
would_more (Ok b) may takes holds is = is ∙ sym (ap (λ (m : Bool). m && takes) holds)
would_more (Err f) may takes holds is = tt

pub would_not : (may takes : Bool) → may ≡ false → false ≡ (may && takes)
would_not may takes none = sym (ap (λ (m : Bool). m && takes) none)
