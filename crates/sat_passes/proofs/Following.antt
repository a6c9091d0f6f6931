-- What is left to send of a site that did something by itself.
use Rattle.std.proofs.Common.{◌≡◌, ℕ, zero, suc, ◌+◌, ◌-◌, ◌<◌, ◌≤◌, ◌==◌, ◌&&◌, ◌||◌, not, Bool, true, false, List, [], ◌∷◌, ◌++◌, length, map, filter, cond, get_or, Option, Some, None, slice_get, inl, inr, refl, sym, ap, ◌∙◌, length-append, arith}
use Rattle.std.specs.Prelude.{nat_le, nat_lt, is_some, option_map, if◌then◌else◌}
use Rattle.std.proofs.lemmas.Bool.Decides.{nat_tests}
use Rattle.std.proofs.lemmas.List.{ext_get_or, length-map}
use Rattle.std.proofs.lemmas.Option.{slice_get-map}
use Rattle.sat_label.specs.declared.label.Label.{Label}
use Rattle.sat_label.specs.Members.{In}
use Rattle.sat_label.specs.Order.{label_eq}
use Rattle.sat_label.proofs.Members.{In-parts}
use Rattle.sat_beat.specs.declared.Beat.{Beat}
use Rattle.sat_sink.specs.Sink as sink
use Rattle.sat_act.specs.declared.answer.Answer.TheVariants as ans
use Rattle.sat_act.specs.declared.answer.Refusal.TheVariants as why
use Rattle.sat_act.specs.Answers.{refused_if}
use Rattle.sat_act.specs.Deployed.{Deployed}
use Rattle.sat_act.specs.Parts.{BeatNote}
use Rattle.sat_act.specs.Settling.{is_done}
use Rattle.sat_model.specs.Input as given
use Rattle.sat_model.specs.Look.{ready_of, rows, stable_of}
use Rattle.sat_model.specs.Next.{note_of as machine_note}
use Rattle.sat_model.specs.Reply.{site_answer}
use Rattle.sat_model.specs.State.{SiteState}
use Rattle.sat_proxy.specs.Proxy.{close_in, note_of}
use Rattle.sat_site.specs.declared.input.SiteInput.TheVariants as input
use Rattle.sat_site.specs.Changes.{beat_for, count_to, made_for}
use Rattle.sat_site.specs.Inputs.{fits_here}
use Rattle.sat_site.specs.Seen.{SiteSeen, IsSite}
use Rattle.sat_site.specs.SiteSteps.{emit_answer, next_pulse, pulse_answer, site_answers}
use Rattle.sat_site.specs.Stands.{StandsSite}
use Rattle.sat_site.proofs.Parts.{count-is}
use Rattle.sat_site.proofs.Rows.{all-rows, cut-same, ready-same, stable-same}
use Rattle.sat_passes.specs.Followed.{pending_count}
use Rattle.sat_passes.specs.Sendings.{last_made, would_do}

-- ---- an emission lowers the number of pending labels

cond-most : {X : Type 0} (x : X) (xs : List X) (b : Bool) (n : ℕ) → length xs ≤ n → length (cond b (x ∷ xs) xs) ≤ suc n
cond-most x xs true n l = omega arith
cond-most x xs false n l = omega arith

cond-none : {X : Type 0} (x : X) (xs : List X) (b : Bool) (n : ℕ) → b ≡ false → length xs ≤ n → length (cond b (x ∷ xs) xs) < suc n
cond-none x xs true n e l = absurd (cc (e))
cond-none x xs false n e l = omega arith

cond-less : {X : Type 0} (x : X) (xs : List X) (b : Bool) (n : ℕ) → length xs < n → length (cond b (x ∷ xs) xs) < suc n
cond-less x xs true n l = omega arith
cond-less x xs false n l = omega arith

filter-most : {X : Type 0} (p : X → Bool) (xs : List X) → length (filter p xs) ≤ length xs
filter-most p [] = omega arith
filter-most p (x ∷ xs) = cond-most x (filter p xs) (p x) (length xs) (filter-most p xs)

filter-less : {X : Type 0} (p : X → Bool) (xs : List X) (y : X) → In xs y → p y ≡ false → length (filter p xs) < length xs
filter-less p [] y i e = absurd i
filter-less p (x ∷ xs) y (inl k) e = cond-none x (filter p xs) (p x) (length xs) (ap p k ∙ e) (filter-most p xs)
filter-less p (x ∷ xs) y (inr i) e = cond-less x (filter p xs) (p x) (length xs) (filter-less p xs y i e)

rows-most : (p : Label → Bool) (f : ℕ → List Label) (n : ℕ) → length (rows (λ g. filter p (f g)) n) ≤ length (rows f n)
unfolding rows
rows-most p f zero = omega arith
rows-most p f (suc n) =
    let a = rows-most p f n in
    let b = filter-most p (f n) in
    let c = length-append (rows (λ g. filter p (f g)) n) (filter p (f n)) in
    let e = length-append (rows f n) (f n) in
    omega arith

pub rows-less : (p : Label → Bool) (f : ℕ → List Label) (n : ℕ) (l : Label) → In (rows f n) l → p l ≡ false → length (rows (λ g. filter p (f g)) n) < length (rows f n)
unfolding rows
rows-less p f zero l i no' = absurd i
rows-less p f (suc n) l i no' = elim (In-parts (rows f n) (f n) l i) [
  | inl j ↦
      (let a = rows-less p f n l j no' in
      let b = filter-most p (f n) in
      let c = length-append (rows (λ g. filter p (f g)) n) (filter p (f n)) in
      let e = length-append (rows f n) (f n) in
      omega arith)
  | inr j ↦
      (let a = rows-most p f n in
      let b = filter-less p (f n) l j no' in
      let c = length-append (rows (λ g. filter p (f g)) n) (filter p (f n)) in
      let e = length-append (rows f n) (f n) in
      omega arith)
]

pub same-label : (l : Label) → not (label_eq l l) ≡ false
same-label l = grind (arith, nat_tests)

-- an emission that is done is of the ready label
pub emitted-is : (d : Deployed) (i : ℕ) (s : SiteState) → is_done (site_answer d i s given.Emit) ≡ true → (l : Label) × (ready_of d s ≡ Some l) × (site_answer d i s given.Emit ≡ ans.Emitted l)
unfolding site_answer
emitted-is d i s done = go (ready_of d s) refl done where
  go : (o : Option Label) → ready_of d s ≡ o → is_done (elim o [ None ↦ ans.Refused why.Idle | Some l ↦ ans.Emitted l ]) ≡ true
      → (l : Label) × (ready_of d s ≡ Some l) × (site_answer d i s given.Emit ≡ ans.Emitted l)
  go None e done = absurd (cc (done))
  go (Some l) e done = (l, e, ap (λ (o : Option Label). elim o [ None ↦ ans.Refused why.Idle | Some l ↦ ans.Emitted l ]) e)

pub pending-is : (d : Deployed) (i : ℕ) (x : SiteSeen) (s : SiteState) → IsSite x → StandsSite d i x s → pending_count x ≡ length (rows s.sink.pending d.gears)
pending-is d i x s site st =
    ap (λ (ls : List Label). length ls) (all-rows s.sink.pending x.sink.pending d.gears (site.sink.rows ∙ count-is d i x s st) st.sink.pending)

-- ---- what is left to emit, and whether a pulse is

pub emit-by : (d : Deployed) (i : ℕ) (x : SiteSeen) (s : SiteState) → IsSite x → StandsSite d i x s → would_do x input.Emit ≡ is_done (emit_answer (ready_of d s))
unfolding fits_here site_answers
emit-by d i x s site st = ap (λ (o : Option Label). is_done (emit_answer o)) (ready-same d i x s site st)

pulse-done : (x : SiteSeen) → is_done (pulse_answer (next_pulse x.sink)) ≡ sink.may_pulse x.sink
pulse-done x = go (sink.may_pulse x.sink) where
  go : (b : Bool) → is_done (pulse_answer (if b then Some (sink.pulse_of x.sink) else None)) ≡ b
  go true = refl
  go false = refl

abbrev pub pulses : Deployed → SiteState → Bool
pulses d s = not (is_some (ready_of d s)) && nat_lt s.sink.pulse (stable_of d s)

pub pulse-by : (d : Deployed) (i : ℕ) (x : SiteSeen) (s : SiteState) → IsSite x → StandsSite d i x s → would_do x input.Pulse ≡ pulses d s
unfolding fits_here site_answers
pulse-by d i x s site st = pulse-done x ∙ (λ n. not (is_some (ready-same d i x s site st n)) && nat_lt (st.sink.pulse n) (stable-same d i x s site st n))

-- a pulse that is done is of the stable timestamp
pub pulsed-is : (d : Deployed) (i : ℕ) (s : SiteState) → is_done (site_answer d i s given.Pulse) ≡ true → (l : Label) × (l.point.ts ≡ stable_of d s) × (site_answer d i s given.Pulse ≡ ans.Pulsed l)
unfolding site_answer
pulsed-is d i s done = go (is_some (ready_of d s) || nat_le (stable_of d s) s.sink.pulse) _ refl done refl where
  go : (b : Bool) (l : Label) → l.point.ts ≡ stable_of d s → is_done (refused_if b why.Idle (ans.Pulsed l)) ≡ true → site_answer d i s given.Pulse ≡ refused_if b why.Idle (ans.Pulsed l)
      → (l : Label) × (l.point.ts ≡ stable_of d s) × (site_answer d i s given.Pulse ≡ ans.Pulsed l)
  go true l e done is = absurd (cc (done))
  go false l e done is = (l, e, is)

pub and-false : (b : Bool) → (b && false) ≡ false
and-false true = refl
and-false false = refl

pub not-less : (n : ℕ) → nat_lt n n ≡ false
not-less n = grind (arith, nat_tests)

-- ---- beats

count-at : (rows : List (List ℕ)) (j g : ℕ) → get_or (map (count_to j) rows) g 0 ≡ get_or (get_or rows g []) j 0
count-at [] j g = refl
count-at (row ∷ rows) j zero = refl
count-at (row ∷ rows) j (suc g) = count-at rows j g

note-is : (d : Deployed) (i : ℕ) (x : SiteSeen) (s : SiteState) (j : ℕ) → j < d.sites → IsSite x → StandsSite d i x s → note_of (beat_for x j) ≡ machine_note d i s j
note-is d i x s j lt k st = λ n. record {
  cut = cut-same d i x s k st n;
  closes = λ e. sym (st.views.closes e) n;
  counts = λ g. (count-at x.counts j g ∙ st.sink.counted g j lt) n;
}

-- lists that look alike at each place are one
same-places : {X : Type 0} (xs ys : List X) → ((n : ℕ) → slice_get xs n ≡ slice_get ys n) → xs ≡ ys
same-places [] [] e = refl
same-places [] (y ∷ ys) e = absurd (let w = e 0 in cc (w))
same-places (x ∷ xs) [] e = absurd (let w = e 0 in cc (w))
same-places (x ∷ xs) (y ∷ ys) e =
    let head : x ≡ y = (let w = e 0 in cc (w)) in
    let tail = same-places xs ys (λ n. e (suc n)) in
    λ i. head i ∷ tail i

above-zero : (n : ℕ) → ((n + 1) == 0) ≡ false
above-zero n = grind (arith, nat_tests)

close-at : (b : Beat) (n : ℕ) → close_in b (n + 1) ≡ slice_get b.closes n
close-at b n =
    let back : (n + 1) - 1 ≡ n = omega arith in
    ap (λ (t : Bool). if t then None else slice_get b.closes ((n + 1) - 1)) (above-zero n) ∙ ap (slice_get b.closes) back

-- a beat is known by what it tells and how many counts it has
told-beat : (a b : Beat) → length a.counts ≡ length b.counts → note_of a ≡ note_of b → a ≡ b
told-beat a b many e =
    let cut : a.cut ≡ b.cut = ap (λ (n : BeatNote). n.cut) e in
    let closes : a.closes ≡ b.closes = same-places a.closes b.closes (λ n. sym (close-at a n) ∙ (ap (λ (m : BeatNote). m.closes (n + 1)) e ∙ close-at b n)) in
    let counts : a.counts ≡ b.counts = ext_get_or 0 a.counts b.counts many (λ n lt. ap (λ (m : BeatNote). m.counts n) e) in
    λ i. record { cut = cut i; closes = closes i; counts = counts i }

abbrev pub last-note : List BeatNote → Option BeatNote
last-note ns = slice_get ns (length ns - 1)

last-noted : (beats : List Beat) → last-note (map note_of beats) ≡ option_map note_of (last_made beats)
last-noted beats =
    ap (λ (n : ℕ). slice_get (map note_of beats) (n - 1)) (length-map beats note_of) ∙ slice_get-map note_of beats (length beats - 1)

-- the last beat that was made for a site tells what the next one would
abbrev pub IsNoted : Deployed → ℕ → SiteState → ℕ → Type 0
IsNoted d i s j = last-note (s.made_beats j) ≡ Some (machine_note d i s j)

pub told-noted : (d : Deployed) (i : ℕ) (x : SiteSeen) (s : SiteState) (j : ℕ) → j < d.sites → IsSite x → StandsSite d i x s → last_made (made_for x j) ≡ Some (beat_for x j) → IsNoted d i s j
told-noted d i x s j less site st told =
    ap last-note (sym (st.made j less)) ∙ (last-noted (made_for x j) ∙ (ap (option_map note_of) told ∙ ap Some (note-is d i x s j less site st)))

pub noted-told : (d : Deployed) (i : ℕ) (x : SiteSeen) (s : SiteState) (j : ℕ) → j < d.sites → IsSite x → StandsSite d i x s → IsNoted d i s j → last_made (made_for x j) ≡ Some (beat_for x j)
noted-told d i x s j less site st noted = go (last_made (made_for x j)) refl (sym (last-noted (made_for x j)) ∙ (ap last-note (st.made j less) ∙ (noted ∙ ap Some (sym (note-is d i x s j less site st))))) where
  go : (o : Option Beat) → last_made (made_for x j) ≡ o → option_map note_of o ≡ Some (note_of (beat_for x j)) → o ≡ Some (beat_for x j)
  go None at e = absurd (cc (e))
  go (Some b) at e =
      let same : note_of b ≡ note_of (beat_for x j) = cc (e) in
      let many : length b.counts ≡ length (beat_for x j).counts = (site.made.each j (length (made_for x j) - 1) b at).counts ∙ sym (length-map x.counts (count_to j) ∙ site.counts) in
      ap Some (told-beat b (beat_for x j) many same)

at-end : {X : Type 0} (xs : List X) (x : X) → slice_get (xs ++ x ∷ []) (length xs) ≡ Some x
at-end [] x = refl
at-end (y ∷ ys) x = at-end ys x

pub last-more : (ns : List BeatNote) (n : BeatNote) → last-note (ns ++ n ∷ []) ≡ Some n
last-more ns n =
    let one : length (ns ++ n ∷ []) - 1 ≡ length ns = (let a = length-append ns (n ∷ []) in omega arith) in
    ap (slice_get (ns ++ n ∷ [])) one ∙ at-end ns n

pub same-number : (n : ℕ) → (n == n) ≡ true
same-number n = grind (arith, nat_tests)
