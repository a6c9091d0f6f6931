-- What a client and a point know: pasts and causes.
use Rattle.std.specs.Prelude.{◌≡◌, ◌⊎◌, ℕ, List, [], ◌∷◌, Some}
use Rattle.sat_label.specs.declared.point.Point.{Point}
use Rattle.sat_verdict.specs.declared.tale.Tale.{Tale}
use Rattle.sat_verdict.specs.declared.tale.Tale.TheVariants.{Wrote, ReadSome}
use Rattle.sat_verdict.specs.Entries.{made_in, client_of}

-- who knows: a client by its own entries, a point by its maker's
pub data Who : Type 0 where
  Client : ℕ → Who
  Maker : Point → Who

-- what a client learns by an entry: the update that it wrote, the one that it read, and what that one's maker knew
abbrev pub LearnedBy : Tale → Point → (Who → Type 0) → Type 0
LearnedBy (Wrote c xs b) a knew = b ≡ a
LearnedBy (ReadSome c x p) a knew = (p ≡ a) ⊎ knew (Maker p)
LearnedBy _ a knew = ⊥

-- what an entry teaches: its client by what was told, and the point that it made all that its client knew before
abbrev pub Learned : Tale → Who → Point → (Who → Type 0) → Type 0
Learned entry (Client c) a knew = (client_of entry ≡ Some c) × LearnedBy entry a knew
Learned entry (Maker b) a knew = (made_in entry ≡ Some b) × ((c : ℕ) × (client_of entry ≡ Some c) × knew (Client c))

-- a client or a point's maker knows point a. A list of entries has the newest first
unfoldable pub Knows : List Tale → Who → Point → Type 0
Knows [] who a = ⊥
Knows (entry ∷ before) who a = Knows before who a ⊎ Learned entry who a (λ w. Knows before w a)

-- a is in the past of client c
abbrev pub Past : List Tale → ℕ → Point → Type 0
Past h c a = Knows h (Client c) a

-- a is a cause of b
abbrev pub Cause : List Tale → Point → Point → Type 0
Cause h b a = Knows h (Maker b) a
