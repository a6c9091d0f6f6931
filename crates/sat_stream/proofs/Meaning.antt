-- What one more byte does to a script of which only a front has come.
use Rattle.std.proofs.Common.{◌≡◌, ◌⊎◌, inl, inr, ℕ, ◌<◌, Bool, true, false, ltb, List, [], ◌∷◌, ◌++◌, length, Some, Result, Err, sym, ap, ◌∙◌, refl, arith}
use Rattle.std.specs.List.{slice_split, onto_first}
use Rattle.std.proofs.lemmas.List.{append-nil, append_assoc, length-append}
use Rattle.std.proofs.lemmas.List.Splits.{slice_split-cons_no, length-slice_split}
use Rattle.std.proofs.lemmas.Bool.Decides.{nat_tests}
use Rattle.sat_script.specs.Dialect.{dialect_of}
use Rattle.sat_script.specs.Causes.{refused}
use Rattle.sat_script.specs.Grammar.{is_ended, line_at, close_at, close_in}
use Rattle.sat_stream.specs.Reading.{script_from, reading, nothing, after_line, bad, closed}
use Rattle.sat_script.specs.State.{State, start}
use Rattle.sat_stream.specs.Stream.{onto_front, goes_on}
use Rattle.sat_script.specs.Words.{is_newline}
use Rattle.sat_script.specs.declared.fault.Cause.{Cause}
use Rattle.sat_script.specs.declared.fault.Cause.TheVariants.{AfterEnd, LongLine}
use Rattle.sat_script.specs.declared.line.Parsed.{Parsed}
use Rattle.sat_script.specs.declared.limits.TheConstants.{LONGEST_LINE}
use Rattle.sat_script.specs.declared.line.Stage.{Stage}
use Rattle.sat_script.specs.declared.line.Stage.TheVariants as stage
use Rattle.sat_stream.specs.declared.stream.Reading.{Reading}

-- a split has a first part
first_part : (bs : List ℕ) → (part : List ℕ) × (parts : List (List ℕ)) × (slice_split is_newline bs ≡ part ∷ parts)
first_part bs = split (slice_split is_newline bs) refl where
  split : (parts : List (List ℕ)) → slice_split is_newline bs ≡ parts → (part : List ℕ) × (parts : List (List ℕ)) × (slice_split is_newline bs ≡ part ∷ parts)
  split [] e = absurd (omega (arith, length-slice_split is_newline bs, ap length e))
  split (part ∷ parts) e = (part, parts, e)

front_onto_first : (begun : List ℕ) (b : ℕ) (parts : List (List ℕ)) → onto_front begun (onto_first b parts) ≡ onto_front (begun ++ b ∷ []) parts
front_onto_first begun b [] = refl
front_onto_first begun b (part ∷ parts) = ap (λ front. front ∷ parts) (sym (append_assoc begun (b ∷ []) part))

-- nothing has come
pub goes_on-none : (live : Bool) (more : List ℕ) → goes_on (start (dialect_of live)) nothing [] more ≡ reading live more
unfolding goes_on reading
goes_on-none live more = let p = first_part more in rw p.2 refl

-- a byte of the line
pub goes_on-byte : (s : State) (r : Reading) (begun : List ℕ) (b : ℕ) (more : List ℕ) → is_newline b ≡ false → goes_on s r begun (b ∷ more) ≡ goes_on s r (begun ++ b ∷ []) more
unfolding goes_on
goes_on-byte s r begun b more other =
    ap (λ parts. script_from s r (onto_front begun parts)) (slice_split-cons_no is_newline b more other)
    ∙ ap (script_from s r) (front_onto_first begun b (slice_split is_newline more))

line_then : (s : State) (r : Reading) (begun : List ℕ) (parts : List (List ℕ)) → 0 < length parts
    → script_from s r ((begun ++ []) ∷ parts) ≡ after_line s r (λ later kept. script_from later kept (onto_front [] parts)) (line_at s begun)
unfolding script_from
line_then s r begun [] some = absurd (omega arith)
line_then s r begun (part ∷ parts) some =
    ap (λ line. after_line s r (λ later kept. script_from later kept (part ∷ parts)) (line_at s line)) (append-nil begun)

-- the byte that ends the line
pub goes_on-line : (s : State) (r : Reading) (begun more : List ℕ) → goes_on s r begun (10 ∷ more) ≡ after_line s r (λ later kept. goes_on later kept [] more) (line_at s begun)
unfolding goes_on
goes_on-line s r begun more = line_then s r begun (slice_split is_newline more) (omega (arith, length-slice_split is_newline more))

-- the end of the text
pub goes_on-end : (s : State) (r : Reading) (begun : List ℕ) → goes_on s r begun [] ≡ closed s r (close_at s begun)
unfolding goes_on script_from
goes_on-end s r begun = ap (λ rest. closed s r (close_at s rest)) (append-nil begun)

-- ---- a line that can't go on: it is too long, or stands behind the end

abbrev pub IsStuck : State → List ℕ → Type 0
IsStuck s begun = (LONGEST_LINE < length begun) ⊎ ((s.stage ≡ stage.Ended) × (0 < length begun))

more_stuck : (s : State) (begun part : List ℕ) → IsStuck s begun → IsStuck s (begun ++ part)
more_stuck s begun part (inl long) = inl (omega (arith, length-append begun part))
more_stuck s begun part (inr (e, some)) = inr (e, omega (arith, length-append begun part))

-- why it is refused
abbrev pub stuck_cause : Stage → Cause
stuck_cause stage.Ended = AfterEnd
stuck_cause _ = LongLine

line_refused : (here : Stage) (line : List ℕ) (r : Result Parsed Cause) → (LONGEST_LINE < length line) ⊎ ((here ≡ stage.Ended) × (0 < length line))
    → refused AfterEnd (is_ended here) (refused LongLine (ltb LONGEST_LINE (length line)) r) ≡ Err (stuck_cause here)
line_refused stage.Ended line r stuck = refl
line_refused _ line r (inl long) = let test : ltb LONGEST_LINE (length line) ≡ true = grind (arith, nat_tests) in rw test refl
line_refused _ line r (inr e) = absurd (let never = e.0 in cc)

stuck_line : (s : State) (line : List ℕ) → IsStuck s line → line_at s line ≡ Err (stuck_cause s.stage)
unfolding line_at
stuck_line s line stuck = line_refused s.stage line _ stuck

end_refused : (here : Stage) (rest : List ℕ) → (LONGEST_LINE < length rest) ⊎ ((here ≡ stage.Ended) × (0 < length rest)) → close_in here rest ≡ Some (stuck_cause here)
unfolding close_in
end_refused stage.Ended [] (inl long) = absurd (omega arith)
end_refused stage.Ended [] (inr e) = absurd (omega (arith, e.1))
end_refused stage.Ended (b ∷ rest) stuck = refl
end_refused _ rest (inl long) = let test : ltb LONGEST_LINE (length rest) ≡ true = grind (arith, nat_tests) in rw test refl
end_refused _ rest (inr e) = absurd (let never = e.0 in cc)

pub stuck_end : (s : State) (rest : List ℕ) → IsStuck s rest → close_at s rest ≡ Some (stuck_cause s.stage)
stuck_end s rest stuck = end_refused s.stage rest stuck

stuck_parts : (s : State) (r : Reading) (begun : List ℕ) (parts : List (List ℕ)) → IsStuck s begun → script_from s r (onto_front begun parts) ≡ bad s r (stuck_cause s.stage)
unfolding script_from
stuck_parts s r begun [] stuck = ap (closed s r) (stuck_end s begun stuck)
stuck_parts s r begun (part ∷ []) stuck = ap (closed s r) (stuck_end s (begun ++ part) (more_stuck s begun part stuck))
stuck_parts s r begun (part ∷ other ∷ parts) stuck =
    ap (after_line s r (λ later kept. script_from later kept (other ∷ parts))) (stuck_line s (begun ++ part) (more_stuck s begun part stuck))

-- it is refused however the text goes on
pub goes_on-stuck : (s : State) (r : Reading) (begun more : List ℕ) → IsStuck s begun → goes_on s r begun more ≡ bad s r (stuck_cause s.stage)
unfolding goes_on
goes_on-stuck s r begun more stuck = stuck_parts s r begun (slice_split is_newline more) stuck
