-- What a hub's passes have looked at.
use Rattle.std.proofs.Common.{◌≡◌, ℕ, zero, suc, ◌≤◌, max, List, [], ◌∷◌, ◌++◌, length, take, drop, refl, sym, ap, ◌∙◌, subst, arith}
use Rattle.std.proofs.lemmas.List.{append-nil, take-append-drop, take-append-le, take_all}
use Rattle.sat_parts_passes.specs.Sendings.{HubHeld, HubKept}
use Rattle.sat_parts_pump.specs.Times.{most_in, ts_in}
use Rattle.sat_parts_pump.specs.Watched.{IsWatched}

most-append : (t : ℕ) (xs ys : List HubKept) → most_in t (xs ++ ys) ≡ most_in (most_in t xs) ys
most-append t [] ys = refl
most-append t (x ∷ xs) ys = most-append (max t (ts_in x.input.input)) xs ys

-- nothing was looked at
pub watched_fresh : (held : HubHeld) → IsWatched held 0 0
watched_fresh held = record { upto = omega arith; ts = refl }

-- the rest is looked at
pub looked : (held : HubHeld) (upto ts now : ℕ) → IsWatched held upto ts → now ≡ most_in ts (drop upto held.node.entries) → now ≡ most_in 0 held.node.entries
looked held upto ts now w e =
    e ∙ (ap (λ (t : ℕ). most_in t (drop upto held.node.entries)) w.ts
    ∙ (sym (most-append 0 (take upto held.node.entries) (drop upto held.node.entries)) ∙ ap (most_in 0) (take-append-drop upto held.node.entries)))

pub watched_all : (held : HubHeld) (upto ts : ℕ) → upto ≡ length held.node.entries → ts ≡ most_in 0 held.node.entries → IsWatched held upto ts
watched_all held upto ts all e = record {
  upto = omega arith;
  ts = e ∙ ap (most_in 0) (sym (ap (λ (n : ℕ). take n held.node.entries) all ∙ take_all (length held.node.entries) held.node.entries (omega arith)));
}

-- entries more change nothing of it
pub watched_more : (old new : HubHeld) (upto ts : ℕ) (more : List HubKept) → IsWatched old upto ts → new.node.entries ≡ old.node.entries ++ more → IsWatched new upto ts
watched_more old new upto ts more w e = record {
  upto = subst (λ (ks : List HubKept). upto ≤ length ks) (sym e) (longer upto old.node.entries more w.upto);
  ts = w.ts ∙ ap (most_in 0) (sym (ap (take upto) e ∙ take-append-le upto old.node.entries more w.upto));
}
  where
    longer : (n : ℕ) (xs ys : List HubKept) → n ≤ length xs → n ≤ length (xs ++ ys)
    longer zero xs ys le = omega arith
    longer (suc n) [] ys le = absurd (omega arith)
    longer (suc n) (x ∷ xs) ys le = (let h = longer n xs ys (omega arith) in omega arith)
