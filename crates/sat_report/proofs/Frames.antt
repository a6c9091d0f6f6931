-- What stands around an answer.
use Rattle.std.proofs.Common.{◌≡◌, ℕ, ◌+◌, ◌≤◌, true, false, true≢false, List, [], ◌∷◌, ◌++◌, Option, Some, None, length, drop, refl, sym, ap, ◌∙◌, arith}
use Rattle.std.specs.Prelude.{is_some}
use Rattle.std.proofs.lemmas.List.{append-nil, append_assoc, drop-drop, drop-append-le}
use Rattle.std.specs.Fmt.{decimal}
use Rattle.sat_report.specs.Frames.{digits_of, framed, front_text, end_text}

pub by_itself : (text : List ℕ) → framed None text ≡ text
unfolding front_text end_text
by_itself text = append-nil text

pub as_line : (n : ℕ) (text : List ℕ) → framed (Some n) text ≡ decimal n ++ 32 ∷ (text ++ 10 ∷ [])
unfolding front_text end_text
as_line n text = append_assoc (decimal n) (32 ∷ []) (text ++ 10 ∷ [])

-- by the test whether there is a number
pub end_none : (number : Option ℕ) (text : List ℕ) → is_some number ≡ false → text ≡ [] → text ≡ end_text number
unfolding end_text
end_none None text is empty = empty
end_none (Some n) text is empty = absurd (true≢false is)

pub end_some : (number : Option ℕ) (text rest : List ℕ) → is_some number ≡ true → rest ≡ [] → text ≡ 10 ∷ rest → text ≡ end_text number
unfolding end_text
end_some None text rest is empty e = absurd (true≢false (sym is))
end_some (Some n) text rest is empty e = e ∙ ap (λ rest. 10 ∷ rest) empty

pub front_none : (number : Option ℕ) (rest : List ℕ) → is_some number ≡ false → rest ≡ front_text number ++ rest
unfolding front_text
front_none None rest is = refl
front_none (Some n) rest is = absurd (true≢false is)

-- the digits stand behind the first so many of twenty bytes
pub front_some : (number : Option ℕ) (text bytes rest : List ℕ) (start at : ℕ) → is_some number ≡ true → length bytes ≡ 20 → start ≤ 20 → drop start bytes ≡ digits_of number → drop at text ≡ bytes ++ 32 ∷ rest
    → drop (at + start) text ≡ front_text number ++ rest
unfolding front_text digits_of
front_some None text bytes rest start at is long inside of written = absurd (true≢false (sym is))
front_some (Some n) text bytes rest start at is long inside of written =
    sym (drop-drop start at text) ∙ ap (drop start) written ∙ drop-append-le start bytes (32 ∷ rest) (omega (arith, inside, long)) ∙ ap (λ front. front ++ 32 ∷ rest) of ∙ sym (append_assoc (decimal n) (32 ∷ []) rest)
