-- What a client and a label know: pasts and causes.
use Rattle.std.specs.Prelude.{◌≡◌, ◌⊎◌, ℕ, List, [], ◌∷◌, Some}
use Rattle.sat_label.specs.declared.label.Label.{Label}
use Rattle.sat_act.specs.declared.answer.Answer.{Answer}
use Rattle.sat_act.specs.declared.answer.Answer.TheVariants as ans
use Rattle.sat_act.specs.declared.entry.Entry.{Entry}
use Rattle.sat_act.specs.Done.{made_in, of_client}

-- who knows: a client by its own entries, a label by its maker's
pub data Who : Type 0 where
  Client : ℕ → Who
  Maker : Label → Who

-- what a client learns by an answer: the update that it wrote, the one that it read, and what that one's maker knew
abbrev pub LearnedBy : Answer → Label → (Who → Type 0) → Type 0
LearnedBy (ans.Wrote b) a knew = b ≡ a
LearnedBy (ans.ReadSome l v) a knew = (l ≡ a) ⊎ knew (Maker l)
LearnedBy _ a knew = ⊥

-- what an entry teaches: its client by its answer, and the label that it made all that its client knew before
abbrev pub Learned : Entry → Who → Label → (Who → Type 0) → Type 0
Learned entry (Client c) a knew = (of_client entry.act ≡ Some c) × LearnedBy entry.answer a knew
Learned entry (Maker b) a knew =
    (made_in entry.answer ≡ Some b) × ((c : ℕ) × (of_client entry.act ≡ Some c) × knew (Client c))

-- a client or a label's maker knows update a
unfoldable pub Knows : List Entry → Who → Label → Type 0
Knows [] who a = ⊥
Knows (entry ∷ before) who a = Knows before who a ⊎ Learned entry who a (λ w. Knows before w a)

-- a is in the past of client c
abbrev pub Past : List Entry → ℕ → Label → Type 0
Past h c a = Knows h (Client c) a

-- a is a cause of b
abbrev pub Cause : List Entry → Label → Label → Type 0
Cause h b a = Knows h (Maker b) a
