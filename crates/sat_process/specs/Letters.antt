-- Letters that come.
use Rattle.std.specs.Prelude.{◌≡◌, ℕ, List, [], ◌∷◌, Err}
use Rattle.std.specs.declared.option.Option.{Option}
use Rattle.sat_wire.specs.Wholes.{whole}
use Rattle.sat_letter.specs.Letters.{letter}
use Rattle.sat_handed.specs.Transports.{Grows, Posted, posted}
use Rattle.sat_process.specs.declared.letters.Letter.{Letter}
use Rattle.sat_process.specs.declared.letters.Letter.TheVariants as came

-- bytes of a link came, for which this holds
abbrev pub ComesOne : ℕ → (List ℕ → Type 0) → Option (List Posted) → Option (List Posted) → Type 0
ComesOne link is before after = (bytes : List ℕ) × Grows before after (posted link bytes ∷ []) × is bytes

-- what came
abbrev pub Comes : Letter → Option (List Posted) → Option (List Posted) → Type 0
Comes came.Nothing before after = Grows before after []
Comes came.Failed before after = Grows before after []
Comes (came.Unread link wrong) before after = ComesOne link (λ bytes. whole letter bytes ≡ Err wrong) before after
Comes (came.Lost link) before after = ComesOne link (λ bytes. Unit {0}) before after
Comes (came.Message link m) before after = ComesOne link (λ bytes. bytes ≡ letter.spell m) before after
