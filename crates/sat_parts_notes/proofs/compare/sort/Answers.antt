use Rattle.std.proofs.Common.{rules}
use Rattle.std.proofs.lemmas.List.Sorted.{answers_always}
use Rattle.sat_parts_notes.specs.Filing.{key_of}
use Rattle.sat_parts_notes.proofs.Sorts.{ascends, same-members}
use Rattle.sat_parts_notes.proofs.compare.sort.Goals as goal

pub returns-clause-same : goal.returns-clause-same
returns-clause-same c = same-members _ _ c.sort_by_key.ensures.permutation

pub returns-clause-order : goal.returns-clause-order
returns-clause-order c = ascends _ (c.in_ok-sort_by_key.ensures.sorted key_of (answers_always _ _ _ (λ f a r g h. search rules)))
