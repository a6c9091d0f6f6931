-- How many payloads of each gear and how many beats were put on a link.
use Rattle.std.proofs.Common.{◌≡◌, ℕ, zero, suc, ◌+◌, ◌≤◌, ◌==◌, if◌then◌else◌, Bool, true, false, List, [], ◌∷◌, ◌++◌, length, get_or, Option, Some, None, refl, sym, ap, ◌∙◌, arith}
use Rattle.sat_node.specs.declared.kept.Kept.{Kept}
use Rattle.sat_node.specs.declared.kept.Made.{Made}
use Rattle.sat_node.specs.declared.kept.Made.TheVariants as made
use Rattle.sat_node.specs.declared.kept.Body.TheVariants as body
use Rattle.sat_node.specs.Puts.{OutSeen, Putting, putting, puttings, is_payload_of, is_beat, payloads_of, beats_of, numbered, next_body, Counts, SentOne}

-- a count of 0 more changes none
pub zero_more : (xs : List ℕ) (g : ℕ) → get_or (xs ++ 0 ∷ []) g 0 ≡ get_or xs g 0
zero_more [] zero = refl
zero_more [] (suc g) = refl
zero_more (x ∷ xs) zero = refl
zero_more (x ∷ xs) (suc g) = zero_more xs g

one_or_none : (b : Bool) → (if b then 1 else 0) ≤ 1
one_or_none true = omega arith
one_or_none false = omega arith

payload_at_most : (g : ℕ) (m : Made) → is_payload_of g m ≤ 1
payload_at_most g (made.Label label) = omega arith
payload_at_most g (made.Payload gear payload) = one_or_none (gear == g)
payload_at_most g (made.Beat beat) = omega arith

beat_at_most : (m : Made) → is_beat m ≤ 1
beat_at_most (made.Label label) = omega arith
beat_at_most (made.Payload gear payload) = omega arith
beat_at_most (made.Beat beat) = omega arith

payloads_within : (g : ℕ) (ps : List Putting) → payloads_of g ps ≤ length ps
payloads_within g [] = omega arith
payloads_within g (p ∷ ps) = let one = payload_at_most g p.made in let rest = payloads_within g ps in omega arith

beats_within : (ps : List Putting) → beats_of ps ≤ length ps
beats_within [] = omega arith
beats_within (p ∷ ps) = let one = beat_at_most p.made in let rest = beats_within ps in omega arith

payloads_next : (g : ℕ) (ps : List Putting) (p : Putting) → payloads_of g (ps ++ p ∷ []) ≡ payloads_of g ps + is_payload_of g p.made
payloads_next g [] p = omega arith
payloads_next g (x ∷ xs) p = let rest = payloads_next g xs p in omega arith

beats_next : (ps : List Putting) (p : Putting) → beats_of (ps ++ p ∷ []) ≡ beats_of ps + is_beat p.made
beats_next [] p = omega arith
beats_next (x ∷ xs) p = let rest = beats_next xs p in omega arith

-- an entry puts one thing at most
puttings_within : {I A : Type 0} (of : I → A → Option Made) (ks : List (Kept I A)) → length (puttings of ks) ≤ length ks
puttings_within of [] = omega arith
puttings_within of (k ∷ ks) = more (of k.input k.answer) (puttings_within of ks) where
  more : (o : Option Made) → length (puttings of ks) ≤ length ks → length (putting k.lamport o ++ puttings of ks) ≤ suc (length ks)
  more None h = omega arith
  more (Some m) h = omega arith

-- what this end counted gives each thing the number that it has behind what was put
pub body_is : (ps : List Putting) (o : OutSeen) (m : Made) → Counts ps o → next_body o m ≡ numbered ps m
body_is ps o (made.Label label) h = refl
body_is ps o (made.Payload gear payload) h = ap (λ n. body.Payload gear n payload) (h.payloads gear)
body_is ps o (made.Beat beat) h = ap (λ n. body.Beat n beat) h.beats

pub counts_next : (ps : List Putting) (p : Putting) (old new : OutSeen) → Counts ps old → SentOne p.number p.made old new → Counts (ps ++ p ∷ []) new
counts_next ps p old new h s = record {
  payloads = λ g. s.payloads g ∙ (ap (λ n. n + is_payload_of g p.made) (h.payloads g) ∙ sym (payloads_next g ps p));
  beats = s.beats ∙ (ap (λ n. n + is_beat p.made) h.beats ∙ sym (beats_next ps p));
}

pub counts_same : (ps : List Putting) (old new : OutSeen) → Counts ps old → ((g : ℕ) → get_or new.payloads g 0 ≡ get_or old.payloads g 0) → new.beats ≡ old.beats → Counts ps new
counts_same ps old new h payloads beats = record { payloads = λ g. payloads g ∙ h.payloads g; beats = beats ∙ h.beats }

-- no count is above how many entries there were
pub payloads_left : {I A : Type 0} (of : I → A → Option Made) (ks : List (Kept I A)) (o : OutSeen) (g : ℕ) → Counts (puttings of ks) o → get_or o.payloads g 0 ≤ length ks
payloads_left of ks o g h = let is = h.payloads g in let few = payloads_within g (puttings of ks) in let fewer = puttings_within of ks in omega arith

pub beats_left : {I A : Type 0} (of : I → A → Option Made) (ks : List (Kept I A)) (o : OutSeen) → Counts (puttings of ks) o → o.beats ≤ length ks
beats_left of ks o h = let is = h.beats in let few = beats_within (puttings of ks) in let fewer = puttings_within of ks in omega arith
