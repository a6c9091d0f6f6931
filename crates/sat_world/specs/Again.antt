-- An act that is done again and again, until it is refused.
use Rattle.std.specs.Prelude.{◌≡◌, ℕ, suc, true, false}
use Rattle.sat_act.specs.declared.act.Act.{Act}
use Rattle.sat_act.specs.declared.answer.Answer.{Answer}
use Rattle.sat_act.specs.Settling.{is_done}
use Rattle.sat_world.specs.Applies.{Applies}
use Rattle.sat_world.specs.Seen.{WorldSeen}

-- from w on the act was done so many times, one after another
pub data Again (a : Act) (w : WorldSeen) : ℕ → WorldSeen → Type 0 where
  none : Again a w 0 w
  more : {n : ℕ} {v u : WorldSeen} (r : Answer) → Again a w n v → Applies v a r u → is_done r ≡ true
      → Again a w (suc n) u

-- and was then refused
pub record Spends (a : Act) (w : WorldSeen) (n : ℕ) (v : WorldSeen) : Type 0 where
  pub again : Again a w n v
  pub refusal : Answer
  pub applies : Applies v a refusal v
  pub undone : is_done refusal ≡ false
