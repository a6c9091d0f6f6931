-- Inputs of a site that take nothing from a link, and what an input of a host comes to.
use Rattle.std.specs.Prelude.{◌≡◌, ℕ, ◌+◌, max, Bool, true, false, [], ◌∷◌, ◌++◌, Option, Some, None}
use Rattle.sat_site.specs.declared.input.SiteInput.{SiteInput}
use Rattle.sat_site.specs.declared.input.SiteInput.TheVariants as input
use Rattle.sat_node.specs.Meanings.{Meaning, replay}
use Rattle.sat_node.specs.Seen.{entry}
use Rattle.sat_host_laws.specs.Messages.{HostSeen}

-- all but a turn, a payload and a beat of another site: these come as messages
abbrev pub is_local : SiteInput → Bool
is_local (input.Turn front) = false
is_local (input.Bulk from gear number payload) = false
is_local (input.BeatIn from number beat) = false
is_local _ = true

-- one entry more, of this input, under one above the node's number and the one heard, with the machine's answer;
-- nothing of messages
pub record ActsOne {S M I A : Type 0} (m : Meaning S I A) (heard : ℕ) (i : I) (a : A)
    (old new : HostSeen M I A) : Type 0 where
  pub entry : new.node.entries ≡ old.node.entries ++ entry (max old.node.number heard + 1) i a ∷ []
  pub answer : m.answers old.node.name (replay m old.node.name old.node.entries) i a
  pub name : new.node.name ≡ old.node.name
  pub slips : new.slips ≡ old.slips
  pub wanted : new.wanted ≡ old.wanted
  pub cursors : new.cursors ≡ old.cursors

-- it was taken where it may be, and else nothing changed
abbrev pub Acts : {S M I A : Type 0} → Meaning S I A → ℕ → I → Bool → HostSeen M I A → HostSeen M I A
    → Option A → Type 0
Acts m heard i may old new None = (may ≡ false) × (new ≡ old)
Acts m heard i may old new (Some a) = (may ≡ true) × ActsOne m heard i a old new
