-- What reads of a source, writes to a sink and answers of a follower come to.
use Rattle.std.proofs.Common.{◌≡◌, ℕ, Bool, true, false, zero, suc, ◌+◌, ◌≤◌, List, [], ◌∷◌, ◌++◌, length, take, drop, Option, Some, None, sym, ap, subst, ◌∙◌, refl, arith}
use Rattle.std.proofs.lemmas.List.{append-nil, append_assoc, take-append-drop, drop-take, take-take, length-append}
use Rattle.std.specs.Prelude.{◌==◌, ◌≢◌, ◌-◌, ◌^◌, min, if◌then◌else◌, Ok, Err, IfOk, OnErr, IsErrOf}
use Rattle.std.specs.declared.result.Result.{Result}
use Rattle.std.proofs.lemmas.Bool.Decides.{nat_tests}
use Rattle.std.specs.Io.KnownBytes.{Consumes, IsAtEnd}
use Rattle.sat_outside.specs.Streams.{Told, Takes}
use Rattle.sat_follow.specs.Meaning.{Meaning, IsAnswered, GoesOn, StopsAt}
use Rattle.sat_follow.specs.Following.{IsTextOf, TakesFront, IsOutput, HasFront, StopsReading, WasAnswering}
use Rattle.sat_follow.specs.UnderWay.{Answers, Stops, Ends, Broke, EndedBefore}
use Rattle.sat_follow.specs.declared.pieces.Halt.{Halt}
use Rattle.sat_follow.specs.declared.pieces.Halt.TheVariants.{Source, Sink, Memory}
use Rattle.sat_follow.specs.declared.pieces.TheConstants.{BUFFER_BYTES}

-- ---- a source

pub consumes_more : (a b c : Option (List ℕ)) (xs ys : List ℕ) → Consumes a b xs → Consumes b c ys → Consumes a c (xs ++ ys)
consumes_more None b c xs ys h k = tt
consumes_more (Some ws) None c xs ys h k = absurd h
consumes_more (Some ws) (Some bs) None xs ys h k = absurd k
consumes_more (Some ws) (Some bs) (Some cs) xs ys h k = h ∙ ap (λ zs. xs ++ zs) k ∙ sym (append_assoc xs ys cs)

pub rest_of : (a b : Option (List ℕ)) (taken : List ℕ) → Consumes a b taken → (rest : List ℕ) × IsTextOf a (taken ++ rest)
rest_of None b taken h = ([], tt)
rest_of (Some ws) None taken h = absurd h
rest_of (Some ws) (Some bs) taken h = (bs, h)

-- the count behind a read that gave so many bytes
abbrev Counted : Bool → ℕ → ℕ
Counted b before = if b then min (before + 1) (2 ^ 64 - 1) else before

pub ends_same : (first before now count : ℕ) → count ≢ 0 → before ≡ first → now ≡ (if count == 0 then min (before + 1) (2 ^ 64 - 1) else before) → now ≡ first
ends_same first before now count some same is =
    let test : (count == 0) ≡ false = grind (arith, nat_tests, some) in
    is ∙ ap (λ (b : Bool). Counted b before) test ∙ same

-- ---- a sink

take_both : (at count : ℕ) (text : List ℕ) → take at text ++ take count (drop at text) ≡ take (at + count) text
take_both at count text =
    sym (sym (take-append-drop at (take (at + count) text)) ∙ rw (take-take at (at + count) text (omega arith), drop-take at count text) refl)

-- two writes after one another
pub takes_more : (a b c : Told) (text : List ℕ) (at count : ℕ) → Takes a b (take at text) → Takes b c (take count (drop at text)) → Takes a c (take (at + count) text)
takes_more a b c text at count h k more =
    k more ∙ h (take count (drop at text) ++ more) ∙ ap a (sym (append_assoc (take at text) (take count (drop at text)) more) ∙ ap (λ front. front ++ more) (take_both at count text))

takes_on : (a b c : Told) (xs ys : List ℕ) → Takes a b xs → Takes b c ys → Takes a c (xs ++ ys)
takes_on a b c xs ys h k more = k more ∙ h (ys ++ more) ∙ ap a (sym (append_assoc xs ys more))

takes_nothing : (a b c : Told) (xs : List ℕ) → Takes a b xs → Takes b c [] → Takes a c xs
takes_nothing a b c xs h k more = k more ∙ h more

front_more : (count : ℕ) (xs ys : List ℕ) → (k : ℕ) × (take k (xs ++ ys) ≡ take count xs)
front_more zero xs ys = (0, refl)
front_more (suc count) [] ys = (0, refl)
front_more (suc count) (x ∷ xs) ys = let k = front_more count xs ys in (suc k.0, ap (λ zs. x ∷ zs) k.1)

all_taken : (xs : List ℕ) → take (length xs) xs ≡ xs
all_taken [] = refl
all_taken (x ∷ xs) = ap (λ zs. x ∷ zs) (all_taken xs)

take_beyond : (count : ℕ) (xs ys : List ℕ) → take (length xs + count) (xs ++ ys) ≡ xs ++ take count ys
take_beyond count [] ys = let e : 0 + count ≡ count = omega arith in ap (λ n. take n ys) e
take_beyond count (x ∷ xs) ys = let e : length (x ∷ xs) + count ≡ suc (length xs + count) = omega arith in rw e (ap (λ zs. x ∷ zs) (take_beyond count xs ys))

front_on : (a b c : Told) (xs ys : List ℕ) → Takes a b xs → TakesFront b c ys → TakesFront a c (xs ++ ys)
front_on a b c xs ys h k = (length xs + k.0, subst (λ (bytes : List ℕ). Takes a c bytes) (sym (take_beyond k.0 xs ys)) (takes_on a b c xs (take k.0 ys) h k.1))

front_whole : (a b : Told) (xs : List ℕ) → Takes a b xs → TakesFront a b xs
front_whole a b xs h = (length xs, subst (λ (bytes : List ℕ). Takes a b bytes) (sym (all_taken xs)) h)

front_longer : (a b : Told) (xs ys : List ℕ) → TakesFront a b xs → TakesFront a b (xs ++ ys)
front_longer a b xs ys h = let k = front_more h.0 xs ys in (k.0, subst (λ (bytes : List ℕ). Takes a b bytes) (sym k.1) h.1)

-- ---- a piece

pub broke_of : (m n : Meaning) (before now : List ℕ → Type 0) (piece text : List ℕ) (good : Bool) (old new : Told) → n ≡ m → ((front : List ℕ) → now front → IsAnswered n front) → (good ≡ true → GoesOn m before now piece text) → (good ≡ false → StopsAt m before piece text) → TakesFront old new text → Broke m before piece old new
broke_of m n before now piece text true old new same told goes bad took = record { text = text; written = took; output = λ front more had. begins front more (subst (λ (x : Meaning). IsAnswered x (front ++ piece)) same (told (front ++ piece) ((goes refl).follows front had))) ((goes refl).answers front had) }
  where
    begins : (front more : List ℕ) → IsAnswered m (front ++ piece) → m.answers (front ++ piece) ≡ m.answers front ++ text → (tail : List ℕ) × (m.output (front ++ piece ++ more) ≡ m.answers front ++ text ++ tail)
    begins front more is e = let tail = is.begins more in (tail.0, tail.1 ∙ ap (λ (bytes : List ℕ). bytes ++ tail.0) e)
broke_of m n before now piece text false old new same told goes bad took = record { text = text; written = took; output = λ front more had. ([], (bad refl).output front more had ∙ sym (append-nil (m.answers front ++ text))) }

-- ---- what was followed so far

-- so many bytes were read, the follower has taken just these, and the sink took the answers of their lines
pub record HasFollowed (m : Meaning) (follows : List ℕ → Type 0) (before now : Option (List ℕ)) (old new : Told) (count : ℕ) : Type 0 where
  pub taken : List ℕ
  pub consumed : Consumes before now taken
  pub stands : follows taken
  pub is : IsAnswered m taken
  pub counted : length taken ≡ count
  pub written : Takes old new (m.answers taken)

-- what holds of each state of a follower with this meaning
abbrev pub IsTold : Meaning → (List ℕ → Type 0) → Type 0
IsTold n follows = (front : List ℕ) → follows front → IsAnswered n front

goes_on : (m : Meaning) (before after : List ℕ → Type 0) (a b c : Option (List ℕ)) (old mid new : Told) (k count : ℕ) (piece : List ℕ) → HasFollowed m before a b old mid k → IsTold m after → Answers m before after piece mid new → Consumes b c piece → count ≡ length piece
    → HasFollowed m after a c old new (k + count)
goes_on m before after a b c old mid new k count piece had law on took long =
    let stands = on.follows had.taken had.stands in record {
      taken = had.taken ++ piece;
      consumed = consumes_more a b c had.taken piece had.consumed took;
      stands = stands;
      is = law (had.taken ++ piece) stands;
      counted = omega (arith, length-append had.taken piece, had.counted, long);
      written = subst (λ (bytes : List ℕ). Takes old new bytes) (sym (on.answers had.taken had.stands)) (takes_on old mid new (m.answers had.taken) on.text had.written on.written);
    }

-- ---- what it comes to

pub reads_on : (m : Meaning) (follows : List ℕ → Type 0) (a b c : Option (List ℕ)) (old new : Told) (k : ℕ) (piece : List ℕ) → HasFollowed m follows a b old new k → Consumes b c piece → length piece ≤ BUFFER_BYTES → StopsReading m a c
reads_on m follows a b c old new k piece had took one = record {
  before = had.taken;
  piece = piece;
  consumed = consumes_more a b c had.taken piece had.consumed took;
  one = one;
  good = had.is.good;
}

pub bounded : (m : Meaning) (follows : List ℕ → Type 0) (a b c : Option (List ℕ)) (old new : Told) (k : ℕ) (piece : List ℕ) → HasFollowed m follows a b old new k → Consumes b c piece → length piece ≤ BUFFER_BYTES → (taken : List ℕ) × Consumes a c taken × (length taken ≤ m.most + BUFFER_BYTES)
bounded m follows a b c old new k piece had took one =
    (had.taken ++ piece, consumes_more a b c had.taken piece had.consumed took, omega (arith, length-append had.taken piece, had.is.few, one))

still : (m : Meaning) (follows : List ℕ → Type 0) (a b c : Option (List ℕ)) (old new : Told) (k : ℕ) (had : HasFollowed m follows a b old new k) → Consumes b c [] → Consumes a c had.taken
still m follows a b c old new k had took = subst (λ (bytes : List ℕ). Consumes a c bytes) (append-nil had.taken) (consumes_more a b c had.taken [] had.consumed took)

pub zero_bytes : (n m : Option (List ℕ)) (count : ℕ) (bytes : List ℕ) → count ≡ 0 → Consumes n m (take count bytes) → Consumes n m []
zero_bytes n m count bytes none took = subst (λ (k : ℕ). Consumes n m (take k bytes)) none took

-- what was written is a front of what is made of the whole text
pub front_of : (m : Meaning) (follows : List ℕ → Type 0) (a b : Option (List ℕ)) (old mid new : Told) (k : ℕ) → HasFollowed m follows a b old mid k → Takes mid new [] → HasFront m a old new
front_of m follows a b old mid new k had nothing =
    let rest = rest_of a b had.taken had.consumed in
    let tail = had.is.begins rest.0 in
    record {
      text = had.taken ++ rest.0;
      whole = rest.1;
      front = subst (λ (bytes : List ℕ). TakesFront old new bytes) (sym tail.1) (front_longer old new (m.answers had.taken) tail.0 (front_whole old new (m.answers had.taken) (takes_nothing old mid new (m.answers had.taken) had.written nothing)));
    }

was_answering : (m : Meaning) (follows : List ℕ → Type 0) (a b c : Option (List ℕ)) (old mid new : Told) (k : ℕ) (piece rest : List ℕ) → HasFollowed m follows a b old mid k → Consumes b c piece → length piece ≤ BUFFER_BYTES → Takes mid new rest → WasAnswering m a c old new
was_answering m follows a b c old mid new k piece rest had took one wrote = record {
  before = had.taken;
  piece = piece;
  consumed = consumes_more a b c had.taken piece had.consumed took;
  one = one;
  rest = rest;
  written = takes_on old mid new (m.answers had.taken) rest had.written wrote;
}

-- ---- no more comes

at_end : (a b : Option (List ℕ)) (taken : List ℕ) → Consumes a b taken → IsAtEnd b → IsTextOf a taken
at_end None b taken h e = tt
at_end (Some ws) None taken h e = absurd h
at_end (Some ws) (Some bs) taken h e = h ∙ ap (λ zs. taken ++ zs) e ∙ append-nil taken

ended : (m : Meaning) (follows : List ℕ → Type 0) (a b c : Option (List ℕ)) (old mid new : Told) (k status : ℕ) → HasFollowed m follows a b old mid k → Consumes b c [] → IsAtEnd c → Ends m follows mid new status → (text : List ℕ) × IsOutput m a text status × Takes old new text
ended m follows a b c old mid new k status had took end ends = (
  m.answers had.taken ++ ends.text,
  record { input = had.taken; whole = at_end a c had.taken (still m follows a b c old mid k had took) end; output = sym (ends.output had.taken had.stands); status_is = sym (ends.status_is had.taken had.stands) },
  takes_on old mid new (m.answers had.taken) ends.text had.written ends.written,
)

pub ok_ended : (m : Meaning) (follows : List ℕ → Type 0) (a b c : Option (List ℕ)) (old mid new : Told) (k : ℕ) (result : Result ℕ Halt) → HasFollowed m follows a b old mid k → Consumes b c [] → IsAtEnd c → IfOk result (λ status. Ends m follows mid new status)
    → IfOk result (λ status. (text : List ℕ) × IsOutput m a text status × Takes old new text)
ok_ended m follows a b c old mid new k (Ok status) had took end ends = ended m follows a b c old mid new k status had took end ends
ok_ended m follows a b c old mid new k (Err why) had took end ends = tt

pub err_front : (m : Meaning) (follows : List ℕ → Type 0) (a b c : Option (List ℕ)) (old mid new : Told) (k : ℕ) (result : Result ℕ Halt) → HasFollowed m follows a b old mid k → Consumes b c [] → IsAtEnd c
    → (IsErrOf result Sink → EndedBefore m follows mid new) → (IsErrOf result Memory → Takes mid new []) → result ≢ Err Source → OnErr result (HasFront m a old new)
err_front m follows a b c old mid new k (Ok status) had took end broke nothing causes = tt
err_front m follows a b c old mid new k (Err Source) had took end broke nothing causes = absurd (causes refl)
err_front m follows a b c old mid new k (Err Sink) had took end broke nothing causes =
    let ends = broke refl in
    record { text = had.taken; whole = at_end a c had.taken (still m follows a b c old mid k had took) end; front = subst (λ (bytes : List ℕ). TakesFront old new bytes) (sym (ends.output had.taken had.stands)) (front_on old mid new (m.answers had.taken) ends.text had.written ends.written) }
err_front m follows a b c old mid new k (Err Memory) had took end broke nothing causes = front_of m follows a b old mid new k had (nothing refl)

pub err_stopped : (m : Meaning) (follows : List ℕ → Type 0) (a b c : Option (List ℕ)) (old mid new : Told) (k : ℕ) (result : Result ℕ Halt) → HasFollowed m follows a b old mid k → Consumes b c []
    → (IsErrOf result Sink → EndedBefore m follows mid new) → (IsErrOf result Memory → Takes mid new []) → result ≢ Err Source → OnErr result (WasAnswering m a c old new)
err_stopped m follows a b c old mid new k (Ok status) had took broke nothing causes = tt
err_stopped m follows a b c old mid new k (Err Source) had took broke nothing causes = absurd (causes refl)
err_stopped m follows a b c old mid new k (Err Sink) had took broke nothing causes =
    let ends = broke refl in was_answering m follows a b c old mid new k [] (take ends.written.0 ends.text) had took (omega arith) ends.written.1
err_stopped m follows a b c old mid new k (Err Memory) had took broke nothing causes = was_answering m follows a b c old mid new k [] [] had took (omega arith) (nothing refl)

-- ---- a piece has a bad line

pub stopped : (m : Meaning) (follows : List ℕ → Type 0) (a b c : Option (List ℕ)) (old mid new : Told) (k : ℕ) (piece : List ℕ) → HasFollowed m follows a b old mid k → Consumes b c piece → Stops m follows piece mid new → (text : List ℕ) × IsOutput m a text 1 × Takes old new text
stopped m follows a b c old mid new k piece had took stops =
    let rest = rest_of a c (had.taken ++ piece) (consumes_more a b c had.taken piece had.consumed took) in (
      m.answers had.taken ++ stops.text,
      record { input = had.taken ++ piece ++ rest.0; whole = rest.1; output = sym (stops.output had.taken rest.0 had.stands); status_is = sym (stops.status had.taken rest.0 had.stands) },
      takes_on old mid new (m.answers had.taken) stops.text had.written stops.written,
    )

-- ---- or it gives up within one

pub piece_front : (m : Meaning) (follows : List ℕ → Type 0) (a b c : Option (List ℕ)) (old mid new : Told) (k : ℕ) (piece : List ℕ) (result : Result Bool Halt) (halt : Halt) → HasFollowed m follows a b old mid k → Consumes b c piece → result ≡ Err halt
    → (IsErrOf result Sink → Broke m follows piece mid new) → (IsErrOf result Memory → Takes mid new []) → result ≢ Err Source → HasFront m a old new
piece_front m follows a b c old mid new k piece result Source had took is broke nothing causes = absurd (causes is)
piece_front m follows a b c old mid new k piece result Sink had took is broke nothing causes =
    let rest = rest_of a c (had.taken ++ piece) (consumes_more a b c had.taken piece had.consumed took) in
    let at = broke is in
    let tail = at.output had.taken rest.0 had.stands in
    record {
      text = had.taken ++ piece ++ rest.0;
      whole = rest.1;
      front = subst (λ (bytes : List ℕ). TakesFront old new bytes) (sym tail.1) (front_longer old new (m.answers had.taken ++ at.text) tail.0 (front_on old mid new (m.answers had.taken) at.text had.written at.written));
    }
piece_front m follows a b c old mid new k piece result Memory had took is broke nothing causes = front_of m follows a b old mid new k had (nothing is)

pub piece_stopped : (m : Meaning) (follows : List ℕ → Type 0) (a b c : Option (List ℕ)) (old mid new : Told) (k : ℕ) (piece : List ℕ) (result : Result Bool Halt) (halt : Halt) → HasFollowed m follows a b old mid k → Consumes b c piece → length piece ≤ BUFFER_BYTES → result ≡ Err halt
    → (IsErrOf result Sink → Broke m follows piece mid new) → (IsErrOf result Memory → Takes mid new []) → result ≢ Err Source → WasAnswering m a c old new
piece_stopped m follows a b c old mid new k piece result Source had took one is broke nothing causes = absurd (causes is)
piece_stopped m follows a b c old mid new k piece result Sink had took one is broke nothing causes =
    let at = broke is in was_answering m follows a b c old mid new k piece (take at.written.0 at.text) had took one at.written.1
piece_stopped m follows a b c old mid new k piece result Memory had took one is broke nothing causes = was_answering m follows a b c old mid new k piece [] had took one (nothing is)

-- ---- the same where a follower's meaning is that of an earlier one

pub goes_on_as : (m n o : Meaning) (before after : List ℕ → Type 0) (a b c : Option (List ℕ)) (old mid new : Told) (k count : ℕ) (piece : List ℕ) → n ≡ m → o ≡ n → HasFollowed m before a b old mid k → IsTold o after → Answers n before after piece mid new → Consumes b c piece → count ≡ length piece
    → HasFollowed m after a c old new (k + count)
goes_on_as m n o before after a b c old mid new k count piece same again had law on took long =
    goes_on m before after a b c old mid new k count piece had (subst (λ (x : Meaning). IsTold x after) (again ∙ same) law) (subst (λ (x : Meaning). Answers x before after piece mid new) same on) took long

pub ok_ended_as : (m n : Meaning) (follows : List ℕ → Type 0) (a b c : Option (List ℕ)) (old mid new : Told) (k : ℕ) (result : Result ℕ Halt) → n ≡ m → HasFollowed m follows a b old mid k → Consumes b c [] → IsAtEnd c → IfOk result (λ status. Ends n follows mid new status)
    → IfOk result (λ status. (text : List ℕ) × IsOutput m a text status × Takes old new text)
ok_ended_as m n follows a b c old mid new k result same had took end ends =
    ok_ended m follows a b c old mid new k result had took end (subst (λ (x : Meaning). IfOk result (λ status. Ends x follows mid new status)) same ends)

pub err_front_as : (m n : Meaning) (follows : List ℕ → Type 0) (a b c : Option (List ℕ)) (old mid new : Told) (k : ℕ) (result : Result ℕ Halt) → n ≡ m → HasFollowed m follows a b old mid k → Consumes b c [] → IsAtEnd c
    → (IsErrOf result Sink → EndedBefore n follows mid new) → (IsErrOf result Memory → Takes mid new []) → result ≢ Err Source → OnErr result (HasFront m a old new)
err_front_as m n follows a b c old mid new k result same had took end broke nothing causes =
    err_front m follows a b c old mid new k result had took end (λ is. subst (λ (x : Meaning). EndedBefore x follows mid new) same (broke is)) nothing causes

pub err_stopped_as : (m n : Meaning) (follows : List ℕ → Type 0) (a b c : Option (List ℕ)) (old mid new : Told) (k : ℕ) (result : Result ℕ Halt) → n ≡ m → HasFollowed m follows a b old mid k → Consumes b c []
    → (IsErrOf result Sink → EndedBefore n follows mid new) → (IsErrOf result Memory → Takes mid new []) → result ≢ Err Source → OnErr result (WasAnswering m a c old new)
err_stopped_as m n follows a b c old mid new k result same had took broke nothing causes =
    err_stopped m follows a b c old mid new k result had took (λ is. subst (λ (x : Meaning). EndedBefore x follows mid new) same (broke is)) nothing causes

pub stopped_as : (m n : Meaning) (follows : List ℕ → Type 0) (a b c : Option (List ℕ)) (old mid new : Told) (k : ℕ) (piece : List ℕ) → n ≡ m → HasFollowed m follows a b old mid k → Consumes b c piece → Stops n follows piece mid new → (text : List ℕ) × IsOutput m a text 1 × Takes old new text
stopped_as m n follows a b c old mid new k piece same had took stops =
    stopped m follows a b c old mid new k piece had took (subst (λ (x : Meaning). Stops x follows piece mid new) same stops)

pub piece_front_as : (m n : Meaning) (follows : List ℕ → Type 0) (a b c : Option (List ℕ)) (old mid new : Told) (k : ℕ) (piece : List ℕ) (result : Result Bool Halt) (halt : Halt) → n ≡ m → HasFollowed m follows a b old mid k → Consumes b c piece → result ≡ Err halt
    → (IsErrOf result Sink → Broke n follows piece mid new) → (IsErrOf result Memory → Takes mid new []) → result ≢ Err Source → HasFront m a old new
piece_front_as m n follows a b c old mid new k piece result halt same had took is broke nothing causes =
    piece_front m follows a b c old mid new k piece result halt had took is (λ e. subst (λ (x : Meaning). Broke x follows piece mid new) same (broke e)) nothing causes

pub piece_stopped_as : (m n : Meaning) (follows : List ℕ → Type 0) (a b c : Option (List ℕ)) (old mid new : Told) (k : ℕ) (piece : List ℕ) (result : Result Bool Halt) (halt : Halt) → n ≡ m → HasFollowed m follows a b old mid k → Consumes b c piece → length piece ≤ BUFFER_BYTES → result ≡ Err halt
    → (IsErrOf result Sink → Broke n follows piece mid new) → (IsErrOf result Memory → Takes mid new []) → result ≢ Err Source → WasAnswering m a c old new
piece_stopped_as m n follows a b c old mid new k piece result halt same had took one is broke nothing causes =
    piece_stopped m follows a b c old mid new k piece result halt had took one is (λ e. subst (λ (x : Meaning). Broke x follows piece mid new) same (broke e)) nothing causes
