use Rattle.std.proofs.Common.{◌≡◌, replicate}
use Rattle.sat_parts_session.proofs.beside.parts_of.Given as goal

abbrev pub invariant-parts : goal.invariant-parts
invariant-parts g l = l.parts.items ≡ replicate l.counter (record { input = l.initial.shown; copy = l.initial.shown })
