-- Every settle ends with a quiet round, within its bound.
use Rattle.std.specs.Prelude.{◌≤◌, ℕ}
use Rattle.std.proofs.Common.{arith}
use Rattle.sat_act.specs.Settling.{opening, left, round_acts, settle}
use Rattle.sat_rest.specs.Laws.{EverySettleSettles}
use Rattle.sat_rest.specs.Ends.{most_rounds}
use Rattle.sat_rest.proofs.Rounds.{IsAfter, round-act, among-in, falls, until-ends, emits-end}
use Rattle.sat_rest.proofs.Settles.{RoundsEnd, round-quiet, opens, settle-ends}
use Rattle.sat_rest.proofs.Bounds.{left-bound}

pub settles : EverySettleSettles
settles d h w run =
    let o : IsAfter d h (opening d h) = opens d h run in
    let e : RoundsEnd d (opening d h) (settle d h) = settle-ends d h w run in
    let a : (settle d h).0 ≤ left d (opening d h) = e.count in
    let b : left d (opening d h) ≤ most_rounds d (opening d h) = left-bound d (opening d h) w o.is_run in
    record {
      is_run = e.progress.is_run;
      emits = λ i l k r. emits-end d i k l r;
      acts = λ a m k r. until-ends d a k w r (round-act d a (among-in (round_acts d) a m));
      falls = λ a m k r n. falls d k a w r (round-act d a (among-in (round_acts d) a m)) n;
      quiet = round-quiet d (settle d h).1 w e.progress.is_run e.quiet;
      bound = at_most (settle d h).0 (left d (opening d h)) _ a b;
    }
  where
    at_most : (a b c : ℕ) → a ≤ b → b ≤ c → a ≤ c
    at_most a b c l m = omega arith
