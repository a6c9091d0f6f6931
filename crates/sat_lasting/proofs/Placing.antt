-- One slot of a list becomes another one.
use Rattle.std.proofs.Common.{◌≡◌, ◌<◌, ℕ, List, length, set, get_or, slice_get, Some}
use Rattle.sat_site.specs.declared.input.SiteInput.{SiteInput}
use Rattle.sat_world.proofs.Lists.{index-at}
use Rattle.sat_lasting.specs.declared.slot.Slot.{Slot}
use Rattle.sat_lasting.specs.Lasts.{Changes}
use Rattle.sat_lasting.specs.Slots.{SlotFits}
use Rattle.sat_lasting.proofs.Sets.{get-set, set-there}

-- the one that was lent
pub lent : (i : ℕ) (xs : List Slot) (x y : Slot) (R : Slot → Slot → Type 0) → i < length xs → x ≡ get_or xs i x → R x y → Changes i xs (set xs i y) R
lent i xs x y R lt is holds = record {
  before = x;
  was = index-at xs i x lt is;
  after = y;
  now = get-set xs i y lt;
  others = λ k ne. set-there xs i k y ne;
  holds = holds;
}

-- what was asked of the one at the place
pub lent-fits : (given : SiteInput) (i : ℕ) (xs : List Slot) (x : Slot) → i < length xs → x ≡ get_or xs i x → ((slot : Slot) → slice_get xs i ≡ Some slot → SlotFits given slot) → SlotFits given x
lent-fits given i xs x lt is fits = fits x (index-at xs i x lt is)
