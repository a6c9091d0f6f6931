-- Messages as letters.
use Rattle.std.specs.Prelude.{ℕ, ◌≡◌, false, List, [], ◌∷◌}
use Rattle.std.specs.declared.option.Option.{Option}
use Rattle.sat_message.specs.declared.message.Message.{Message}
use Rattle.sat_letter.specs.Letters.{letter, letter_allows}
use Rattle.sat_handed.specs.declared.posting.Spoken.{Spoken}
use Rattle.sat_handed.specs.declared.posting.Spoken.TheVariants as spoken
use Rattle.sat_handed.specs.Transports.{Grows, Posted, posted}

-- the transport was handed the bytes of a message, or nothing: where the message has no spelling, or for want of memory
abbrev pub Posts : ℕ → Message → Spoken → Option (List Posted) → Option (List Posted) → Type 0
Posts link m spoken.Nothing before after = ⊥
Posts link m spoken.Sent before after = Grows before after (posted link (letter.spell m) ∷ [])
Posts link m spoken.Lost before after = Grows before after (posted link (letter.spell m) ∷ [])
Posts link m spoken.Unspelled before after = (letter_allows m ≡ false) × Grows before after []
Posts link m spoken.Memory before after = Grows before after []
