-- What reads of a source and writes to a sink come to.
use Rattle.std.proofs.Common.{◌≡◌, ℕ, Bool, true, false, ◌+◌, ◌≤◌, List, [], ◌++◌, length, take, drop, Option, Some, None, sym, ap, subst, ◌∙◌, refl, arith}
use Rattle.std.proofs.lemmas.List.{append-nil, append_assoc, take-append-drop, drop-take, take-take, length-append}
use Rattle.std.specs.Prelude.{◌==◌, ◌≢◌, ◌-◌, ◌^◌, min, if◌then◌else◌}
use Rattle.std.proofs.lemmas.Bool.Decides.{nat_tests}
use Rattle.std.specs.Io.KnownBytes.{Consumes, Keeps, IsAtEnd}
use Rattle.sat_outside.specs.Streams.{Told, Takes}
use Rattle.sat_script.specs.Grammar.{close_in}
use Rattle.sat_script.specs.State.{number_of}
use Rattle.sat_stream.specs.Reading.{reading, script_from}
use Rattle.sat_stream.specs.Stream.{LacksOnlyItsEnd}
use Rattle.sat_stream.specs.declared.stream.Reading.{Reading}
use Rattle.sat_follow.specs.declared.pieces.TheConstants.{BUFFER_BYTES}
use Rattle.sat_pieces.specs.Streaming.{HasReadLines, StopsReading}
use Rattle.sat_follow.specs.Following.{IsTextOf}

-- So many bytes were read, for nodes on threads or not, and a text that begins with them is what the meaning says of the rest.
pub record HasRead (live : Bool) (before now : Option (List ℕ)) (meaning : List ℕ → Reading) (count : ℕ) : Type 0 where
  pub taken : List ℕ
  pub consumed : Consumes before now taken
  pub means : (more : List ℕ) → meaning more ≡ reading live (taken ++ more)
  pub counted : length taken ≡ count

pub consumes_none : (left : Option (List ℕ)) → Consumes left left []
consumes_none None = tt
consumes_none (Some xs) = refl

pub consumes_more : (a b c : Option (List ℕ)) (xs ys : List ℕ) → Consumes a b xs → Consumes b c ys → Consumes a c (xs ++ ys)
consumes_more None b c xs ys h k = tt
consumes_more (Some ws) None c xs ys h k = absurd h
consumes_more (Some ws) (Some bs) None xs ys h k = absurd k
consumes_more (Some ws) (Some bs) (Some cs) xs ys h k = h ∙ ap (λ zs. xs ++ zs) k ∙ sym (append_assoc xs ys cs)

pub read_start : {live : Bool} → (left : Option (List ℕ)) (meaning : List ℕ → Reading) → ((text : List ℕ) → meaning text ≡ reading live text) → HasRead live left left meaning 0
read_start left meaning means = record { taken = []; consumed = consumes_none left; means = means; counted = refl }

pub read_more : {live : Bool} → (a b c : Option (List ℕ)) (old new : List ℕ → Reading) (piece : List ℕ) (n count : ℕ) → HasRead live a b old n → Consumes b c piece → ((more : List ℕ) → new more ≡ old (piece ++ more)) → count ≡ length piece → HasRead live a c new (n + count)
read_more {live} a b c old new piece n count had took same is = record {
  taken = had.taken ++ piece;
  consumed = consumes_more a b c had.taken piece had.consumed took;
  means = λ more. same more ∙ had.means (piece ++ more) ∙ ap (reading live) (sym (append_assoc had.taken piece more));
  counted = omega (arith, length-append had.taken piece, had.counted);
}

pub read_bounded : {live : Bool} → (a b c : Option (List ℕ)) (meaning : List ℕ → Reading) (piece : List ℕ) (n most : ℕ) → HasRead live a b meaning n → Consumes b c piece → n + length piece ≤ most → (taken : List ℕ) × Consumes a c taken × (length taken ≤ most)
read_bounded a b c meaning piece n most had took few =
    (had.taken ++ piece, consumes_more a b c had.taken piece had.consumed took, omega (arith, length-append had.taken piece, had.counted))

-- ---- none of the whole lines is bad

nothing-lacks : (live : Bool) → LacksOnlyItsEnd (reading live [])
unfolding reading script_from close_in number_of
nothing-lacks true = refl
nothing-lacks false = refl

pub lacks_start : (live : Bool) (meaning : List ℕ → Reading) → ((text : List ℕ) → meaning text ≡ reading live text) → LacksOnlyItsEnd (meaning [])
lacks_start live meaning means = subst LacksOnlyItsEnd (sym (means [])) (nothing-lacks live)

lacks-so-far : {live : Bool} → (a b : Option (List ℕ)) (meaning : List ℕ → Reading) (n : ℕ) (had : HasRead live a b meaning n) → LacksOnlyItsEnd (meaning []) → LacksOnlyItsEnd (reading live had.taken)
lacks-so-far {live} a b meaning n had lacks = subst LacksOnlyItsEnd (had.means [] ∙ ap (reading live) (append-nil had.taken)) lacks

pub read_stops : {live : Bool} → (a b c : Option (List ℕ)) (meaning : List ℕ → Reading) (piece : List ℕ) (n : ℕ) → HasRead live a b meaning n → LacksOnlyItsEnd (meaning []) → Consumes b c piece → length piece ≤ BUFFER_BYTES → StopsReading live a c
read_stops a b c meaning piece n had lacks took few = record {
  before = had.taken;
  piece = piece;
  consumed = consumes_more a b c had.taken piece had.consumed took;
  one = few;
  lacks = lacks-so-far a b meaning n had lacks;
}

pub read_lines : {live : Bool} → (a b c : Option (List ℕ)) (meaning : List ℕ → Reading) (n : ℕ) → HasRead live a b meaning n → LacksOnlyItsEnd (meaning []) → Consumes b c [] → HasReadLines live a c
read_lines {live} a b c meaning n had lacks took = record {
  taken = had.taken ++ [];
  consumed = consumes_more a b c had.taken [] had.consumed took;
  lacks = subst (λ (bytes : List ℕ). LacksOnlyItsEnd (reading live bytes)) (sym (append-nil had.taken)) (lacks-so-far a b meaning n had lacks);
}

pub keeps : (n m : Option (List ℕ)) → Keeps n m → Consumes n m []
keeps None m is = tt
keeps (Some xs) None is = absurd is
keeps (Some xs) (Some ys) is = sym is

pub zero_bytes : (n m : Option (List ℕ)) (count : ℕ) (bytes : List ℕ) → count ≡ 0 → Consumes n m (take count bytes) → Consumes n m []
zero_bytes n m count bytes none took = subst (λ (k : ℕ). Consumes n m (take k bytes)) none took

-- ---- at the end

pub at_end : (a b : Option (List ℕ)) (taken : List ℕ) → Consumes a b taken → IsAtEnd b → IsTextOf a taken
at_end None b taken h e = tt
at_end (Some ws) None taken h e = absurd h
at_end (Some ws) (Some bs) taken h e = h ∙ ap (λ zs. taken ++ zs) e ∙ append-nil taken

pub read_whole : {live : Bool} → (a b : Option (List ℕ)) (meaning : List ℕ → Reading) (found : Reading) (n : ℕ) → HasRead live a b meaning n → IsAtEnd b → found ≡ meaning [] → (text : List ℕ) × IsTextOf a text × (reading live text ≡ found)
read_whole {live} a b meaning found n had ends is =
    (had.taken, at_end a b had.taken had.consumed ends, ap (reading live) (sym (append-nil had.taken)) ∙ sym (had.means []) ∙ sym is)

pub rest_of : (a b : Option (List ℕ)) (taken : List ℕ) → Consumes a b taken → (rest : List ℕ) × IsTextOf a (taken ++ rest)
rest_of None b taken h = ([], tt)
rest_of (Some ws) None taken h = absurd h
rest_of (Some ws) (Some bs) taken h = (bs, h)

pub read_enough : {live : Bool} → (a b : Option (List ℕ)) (meaning : List ℕ → Reading) (found : Reading) (n : ℕ) → HasRead live a b meaning n → ((more : List ℕ) → meaning more ≡ meaning []) → found ≡ meaning [] → (text : List ℕ) × IsTextOf a text × (reading live text ≡ found)
read_enough a b meaning found n had settled is =
    let rest = rest_of a b had.taken had.consumed in
    (had.taken ++ rest.0, rest.1, sym (had.means rest.0) ∙ settled rest.0 ∙ sym is)

take_both : (at count : ℕ) (text : List ℕ) → take at text ++ take count (drop at text) ≡ take (at + count) text
take_both at count text =
    sym (sym (take-append-drop at (take (at + count) text)) ∙ rw (take-take at (at + count) text (omega arith), drop-take at count text) refl)

-- two writes after one another
pub takes_more : (a b c : Told) (text : List ℕ) (at count : ℕ) → Takes a b (take at text) → Takes b c (take count (drop at text)) → Takes a c (take (at + count) text)
takes_more a b c text at count h k more =
    k more ∙ h (take count (drop at text) ++ more) ∙ ap a (sym (append_assoc (take at text) (take count (drop at text)) more) ∙ ap (λ front. front ++ more) (take_both at count text))

-- a source has some text
pub some_text : (left : Option (List ℕ)) → (text : List ℕ) × IsTextOf left text
some_text None = ([], tt)
some_text (Some all) = (all, refl)

-- ---- a source says once that none are left

-- the count behind a read that gave so many bytes
abbrev Ends : Bool → ℕ → ℕ
Ends b before = if b then min (before + 1) (2 ^ 64 - 1) else before

pub ends_once : (first before now count : ℕ) → before ≡ first → now ≡ (if count == 0 then min (before + 1) (2 ^ 64 - 1) else before) → now ≤ first + 1
ends_once first before now count same is = go (count == 0) is
  where
    go : (b : Bool) → now ≡ Ends b before → now ≤ first + 1
    go true e = omega (arith, same, e)
    go false e = omega (arith, same, e)

pub ends_same : (first before now count : ℕ) → count ≢ 0 → before ≡ first → now ≡ (if count == 0 then min (before + 1) (2 ^ 64 - 1) else before) → now ≡ first
ends_same first before now count some same is =
    let test : (count == 0) ≡ false = grind (arith, nat_tests, some) in
    is ∙ ap (λ (b : Bool). Ends b before) test ∙ same
