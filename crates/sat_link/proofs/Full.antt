-- What a message that came back tells of what was sent and of what is known to be received.
use Rattle.std.proofs.Common.{◌≡◌, ℕ, ◌+◌, ◌≤◌, [], ◌∷◌, length, sym, ap, ◌∙◌, arith}
use Rattle.std.proofs.lemmas.List.{length-append}
use Rattle.atomic_table.specs.Seated.{TableId}
use Rattle.sat_link.specs.Ends.{Sender, capacity_of, WasFull}

module _ {M : Type 0} where
  -- what was sent and is not known to be received is at least what the queue holds
  pub behind : (end : Sender M) → WasFull end → length end.acked + capacity_of end.wire ≤ length end.sent
  behind end h =
      let sent : length end.sent ≡ length h.0 + length h.1 = ap length h.2 ∙ length-append h.0 h.1 in
      let got : length h.0 ≡ length end.acked + length h.3.0 = ap length (sym h.3.1) ∙ length-append end.acked h.3.0 in
      let holds : length h.1 ≡ capacity_of end.wire = h.4 in
      omega arith

-- two were sent through a queue of two, and the first is known to be received: there was room for a third
abbrev roomy : TableId → Sender ℕ
roomy wire = record { wire = wire; sent = 1 ∷ 2 ∷ []; fulls = 1; acked = 1 ∷ [] }
