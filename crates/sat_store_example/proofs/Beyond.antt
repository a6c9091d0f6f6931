-- There is no label beyond the last link.
use Rattle.std.proofs.Common.{◌≡◌, ◌∙◌, ◌≤◌, ℕ, zero, suc, List, [], ◌∷◌, length, map, get_or, slice_get, None, refl, subst, sym, arith}
use Rattle.sat_label.specs.declared.label.Label.{Label}
use Rattle.sat_queue.specs.Queued.{Queued, members_of}
use Rattle.sat_serial.proofs.Boxes.{length-labels}
use Rattle.sat_store_example.specs.Waiting.{link_of}

beyond : (links : List (List Label)) (n : ℕ) → length links ≤ n → slice_get (link_of links n) 0 ≡ None
beyond [] n low = refl
beyond (link ∷ links) zero low = absurd (omega arith)
beyond (link ∷ links) (suc n) low = beyond links n (omega arith)

pub none-beyond : (queues : List (Queued Label)) (most n : ℕ) → length queues ≡ most → most ≤ n → slice_get (link_of (map members_of queues) n) 0 ≡ None
none-beyond queues most n same low = beyond (map members_of queues) n (subst (λ (k : ℕ). k ≤ n) (sym (length-labels queues ∙ same)) low)
