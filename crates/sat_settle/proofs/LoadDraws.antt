-- The generator's step.
use Rattle.std.proofs.Common.{◌≡◌, ℕ, ◌+◌, ◌*◌, ◌%◌, ◌^◌}
use Rattle.std.proofs.Math.Nat.{mod-add-mod}

-- a product that wraps and a sum that wraps are a sum that wraps
pub wrapped : (x : ℕ) → (x * 6364136223846793005 % 2 ^ 64 + 1442695040888963407) % 2 ^ 64 ≡ (x * 6364136223846793005 + 1442695040888963407) % 2 ^ 64
wrapped x = mod-add-mod (x * 6364136223846793005) (2 ^ 64) 1442695040888963407
