use Rattle.sat_beat.proofs.Rising.{moved_kept, emptied_kept}
use Rattle.sat_beat.proofs.taken.Taken.forward.Goals as goal
use Rattle.sat_beat.proofs.taken.Taken.forward.Goals.{then-self, else-self}

pub invariant_of-self : goal.invariant_of-self
invariant_of-self c = elim c.if-self.branch [
  | then-self w ↦ moved_kept c.args.to _ _ _ _ c.self.invariant c.move_forward.ensures w.self-is
  | else-self w ↦ emptied_kept c.args.to _ _ _ _ _ c.self.invariant c.move_forward.ensures (λ e. w.is_empty-self-inside.ensures.0 e) w.self-is
]
