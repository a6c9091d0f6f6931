-- The beats that a site made and took are those of the history, and so is the best of them.
use Rattle.std.specs.Prelude.{◌≡◌, ◌⊎◌, ◌<◌, ◌≤◌, ℕ, zero, suc, Bool, true, false, ◌&&◌, ◌||◌, nat_le, nat_lt, List, [], ◌∷◌, ◌++◌, length, map, Option, Some, None, slice_get, ◌==◌, if◌then◌else◌, refl}
use Rattle.std.specs.List.{list_all}
use Rattle.std.proofs.Common.{sym, subst, ap, ◌∙◌, arith, inl, inr}
use Rattle.std.proofs.lemmas.Bool.Decides.{nat_tests}
use Rattle.sat_label.specs.Words.{below, has}
use Rattle.sat_act.specs.declared.act.Act.{Act}
use Rattle.sat_act.specs.declared.act.Act.TheVariants as act
use Rattle.sat_act.specs.declared.answer.Answer.{Answer}
use Rattle.sat_act.specs.declared.answer.Answer.TheVariants as ans
use Rattle.sat_act.specs.declared.entry.Entry.{Entry}
use Rattle.sat_act.specs.Deployed.{Deployed}
use Rattle.sat_act.specs.Done.{beat_in}
use Rattle.sat_act.specs.Histories.{listed}
use Rattle.sat_act.specs.Parts.{BeatNote, beats, beat_entry, beats_taken, best, best_below, is_complete, cut, close_cut, lane, gathered}
use Rattle.sat_act.specs.Runs.{IsRun}
use Rattle.sat_act.specs.Goals.{IsValid}
use Rattle.sat_laws.proofs.Steps.{Step, beat, beat_came}
use Rattle.sat_laws.proofs.Runs.{step_of, before_of, entry}
use Rattle.sat_laws.proofs.Labels.{some_is}
use Rattle.sat_laws.proofs.Links.{tail_of, get-keep, get-below}
use Rattle.sat_model.specs.State.{SiteState}
use Rattle.sat_model.specs.Input as given
use Rattle.sat_model.specs.Look.{best_in, best_of, complete_at}
use Rattle.sat_model.specs.Next.{site_next, note_of}
use Rattle.sat_model.specs.Replay.{after, handed, site_state, given_at}
use Rattle.sat_model.proofs.Kept.{kept, listed-and}
use Rattle.sat_model.proofs.Lists.{plain, map-join}
use Rattle.sat_model.proofs.Simple.{closes-agrees}
use Rattle.sat_model.proofs.Gathering.{cut-agrees, counts-agree}
use Rattle.sat_model.proofs.Windows.{front-agrees}
use Rattle.sat_label.specs.Members.{In}
use Rattle.sat_label.proofs.Members.{In-parts}

-- ---- beats made

abbrev note_at : Deployed → List Entry → ℕ → ℕ → BeatNote
note_at d h i j = record { cut = cut d h i; closes = close_cut h i; counts = λ g. length (lane d (gathered h i) i g j) }

note-agrees : (d : Deployed) (h : List Entry) (i j : ℕ) → IsValid d → IsRun d h → note_of d i (site_state d h i) j ≡ note_at d h i j
note-agrees d h i j v run = λ k. record { cut = cut-agrees d h i v run k; closes = λ e. closes-agrees d h i e run k; counts = λ g. counts-agree d h i g j v run k }

made-step : (d : Deployed) (h : List Entry) (i j : ℕ) (s : SiteState) (a : Act) (r : Answer) (n : Bool) → s.made_beats j ≡ beats d h i j → note_of d i s j ≡ note_at d h i j → Step d h a r →
    (after d i s (handed d h a i) r).made_beats j ≡ beats d (entry a r n ∷ h) i j
unfolding after handed site_next beats
made-step d h i j s a r n k q (beat {i = t} {j = u}) =
    listed-and (λ o. (after d i s o r).made_beats j) (given.Beat u) (t == i) (u == j) (note_at d h i j) (listed (beat_entry d i j) h) k
    (ap (λ (bs : List BeatNote). if u == j then bs ++ note_of d i s j ∷ [] else bs) k ∙ ap (λ (b : BeatNote). if u == j then listed (beat_entry d i j) h ++ b ∷ [] else listed (beat_entry d i j) h) q)
made-step d h i j s a r n k q _ = kept (λ s. s.made_beats j) d i s (handed d h a i) r (λ input. refl) ∙ (k ∙ sym (plain (listed (beat_entry d i j) h)))

pub made-agrees : (d : Deployed) (h : List Entry) (i j : ℕ) → IsValid d → IsRun d h → (site_state d h i).made_beats j ≡ beats d h i j
unfolding site_state beats
made-agrees d [] i j v run = refl
made-agrees d (e ∷ h) i j v run =
    let old : IsRun d h = before_of d h e run in
    made-step d h i j (site_state d h i) e.act e.answer e.inner (made-agrees d h i j v old) (note-agrees d h i j v old) (step_of d h e run)

-- ---- beats taken

abbrev number : ℕ × BeatNote → ℕ
number b = b.0

-- the taken beats: their numbers are the history's, and each is the beat of its number
pub record Taken (d : Deployed) (h : List Entry) (i j : ℕ) (bs : List (ℕ × BeatNote)) : Type 0 where
  pub numbers : map number bs ≡ beats_taken h i j
  pub notes : (b : ℕ × BeatNote) → In bs b → slice_get (beats d h i j) b.0 ≡ Some b.1

get-some : {X : Type 0} (xs : List X) (n : ℕ) → nat_le (length xs) n ≡ false → (x : X) × (slice_get xs n ≡ Some x)
get-some [] n e = absurd (let w : nat_le 0 n ≡ true = grind (arith, nat_tests) in cc)
get-some (x ∷ xs) zero e = (x, refl)
get-some (x ∷ xs) (suc n) e = get-some xs n (less (length xs) n e)
  where
    less : (m n : ℕ) → nat_le (suc m) (suc n) ≡ false → nat_le m n ≡ false
    less m n e = grind (arith, nat_tests)

beats-grow : (d : Deployed) (h : List Entry) (x : Entry) (i j : ℕ) → beats d (x ∷ h) i j ≡ beats d h i j ++ tail_of (beat_entry d i j h x)
unfolding beats
beats-grow d h x i j = refl

beat-stays : (d : Deployed) (h : List Entry) (x : Entry) (i j n : ℕ) (b : BeatNote) → slice_get (beats d h i j) n ≡ Some b → slice_get (beats d (x ∷ h) i j) n ≡ Some b
beat-stays d h x i j n b e = subst (λ (bs : List BeatNote). slice_get bs n ≡ Some b) (sym (beats-grow d h x i j)) (get-keep (beats d h i j) (tail_of (beat_entry d i j h x)) n b e)

abbrev taken_number : ℕ → ℕ → List Entry → Entry → Option ℕ
taken_number i j before e = elim e.answer [ ans.Taken ↦ beat_in e.act i j | _ ↦ None ]

-- the beats of i at j after an entry
came : (d : Deployed) (h : List Entry) (i j t u n : ℕ) (s : SiteState) (note : BeatNote) (m : Bool) → slice_get (beats d h t u) n ≡ Some note →
    (after d j s (handed d h (act.BeatIn t u n) j) ans.Taken).proxy.beats i ≡ s.proxy.beats i ++ tail_of (if (t == i) && (u == j) then Some (n, note) else None)
unfolding after handed site_next
came d h i j t u n s note m e =
    ap (λ (o : Option BeatNote). (after d j s (elim o [ None ↦ None | Some note ↦ given_at u j (given.BeatIn t n note) ]) ans.Taken).proxy.beats i) e ∙ go (u == j) (t == i)
  where
    go : (b c : Bool) → (after d j s (if b then Some (given.BeatIn t n note) else None) ans.Taken).proxy.beats i ≡ s.proxy.beats i ++ tail_of (if (t == i) && b then Some (n, note) else None)
    go true c = here (t == i)
      where
        here : (b : Bool) → (if b then s.proxy.beats i ++ (n, note) ∷ [] else s.proxy.beats i) ≡ s.proxy.beats i ++ tail_of (if b && true then Some (n, note) else None)
        here true = refl
        here false = sym (plain (s.proxy.beats i))
    go false c = there (t == i)
      where
        there : (b : Bool) → s.proxy.beats i ≡ s.proxy.beats i ++ tail_of (if b && false then Some (n, note) else None)
        there true = sym (plain (s.proxy.beats i))
        there false = sym (plain (s.proxy.beats i))

two_num : (t i u j : ℕ) → ((t == i) && (u == j)) ≡ true → (t ≡ i) × (u ≡ j)
two_num t i u j e = grind (arith, nat_tests)

more-taken : (d : Deployed) (h : List Entry) (i j t u n : ℕ) (note : BeatNote) (bs : List (ℕ × BeatNote)) (m : Bool) → slice_get (beats d h t u) n ≡ Some note → Taken d h i j bs →
    Taken d (entry (act.BeatIn t u n) ans.Taken m ∷ h) i j (bs ++ tail_of (if (t == i) && (u == j) then Some (n, note) else None))
unfolding beats_taken
more-taken d h i j t u n note bs m e k = record {
  numbers = map-join number bs (tail_of (if (t == i) && (u == j) then Some (n, note) else None)) ∙ (ap (λ (ns : List ℕ). ns ++ map number (tail_of (if (t == i) && (u == j) then Some (n, note) else None))) k.numbers ∙ ap (λ (ns : List ℕ). listed (taken_number i j) h ++ ns) (same ((t == i) && (u == j))));
  notes = λ b w. beat-stays d h (entry (act.BeatIn t u n) ans.Taken m) i j b.0 b.1 (elim (In-parts bs (tail_of (if (t == i) && (u == j) then Some (n, note) else None)) b w) [
    | inl y ↦ k.notes b y
    | inr y ↦ new ((t == i) && (u == j)) refl b y
  ]);
}
  where
    same : (c : Bool) → map number (tail_of (if c then Some (n, note) else None)) ≡ tail_of (if c then Some n else None)
    same true = refl
    same false = refl

    new : (c : Bool) → ((t == i) && (u == j)) ≡ c → (b : ℕ × BeatNote) → In (tail_of (if c then Some (n, note) else None)) b → slice_get (beats d h i j) b.0 ≡ Some b.1
    new true w b (inl y) =
        let z : (t ≡ i) × (u ≡ j) = two_num t i u j w in
        subst (λ (b : ℕ × BeatNote). slice_get (beats d h i j) b.0 ≡ Some b.1) y (subst (λ (j : ℕ). slice_get (beats d h i j) n ≡ Some note) z.1 (subst (λ (i : ℕ). slice_get (beats d h i u) n ≡ Some note) z.0 e))
    new true w b (inr y) = absurd y
    new false w b y = absurd y

same-taken : (d : Deployed) (h : List Entry) (x : Entry) (i j : ℕ) (bs : List (ℕ × BeatNote)) → taken_number i j h x ≡ None → Taken d h i j bs → Taken d (x ∷ h) i j bs
unfolding beats_taken
same-taken d h x i j bs e k = record {
  numbers = k.numbers ∙ sym (ap (λ (o : Option ℕ). listed (taken_number i j) h ++ tail_of o) e ∙ plain (listed (taken_number i j) h));
  notes = λ b w. beat-stays d h x i j b.0 b.1 (k.notes b w);
}

taken-step : (d : Deployed) (h : List Entry) (i j : ℕ) (s : SiteState) (a : Act) (r : Answer) (m : Bool) → Taken d h i j (s.proxy.beats i) → Step d h a r → Taken d (entry a r m ∷ h) i j ((after d j s (handed d h a j) r).proxy.beats i)
unfolding site_next
taken-step d h i j s a r m k (beat_came {i = t} {j = u} {n = n} w) =
    let x : (note : BeatNote) × (slice_get (beats d h t u) n ≡ Some note) = get-some (beats d h t u) n w in
    subst (Taken d (entry (act.BeatIn t u n) ans.Taken m ∷ h) i j) (sym (came d h i j t u n s x.0 m x.1)) (more-taken d h i j t u n x.0 (s.proxy.beats i) m x.1 k)
taken-step d h i j s a r m k _ =
    subst (Taken d (entry a r m ∷ h) i j) (sym (kept (λ s. s.proxy.beats i) d j s (handed d h a j) r (λ input. refl))) (same-taken d h (entry a r m) i j (s.proxy.beats i) refl k)

pub taken-agrees : (d : Deployed) (h : List Entry) (i j : ℕ) → IsRun d h → Taken d h i j ((site_state d h j).proxy.beats i)
unfolding site_state
taken-agrees d [] i j run = record { numbers = unfold beats_taken in refl; notes = λ b w. absurd w }
taken-agrees d (e ∷ h) i j run = taken-step d h i j (site_state d h j) e.act e.answer e.inner (taken-agrees d h i j (before_of d h e run)) (step_of d h e run)

-- ---- the best beat

-- the one of greatest number among the taken beats with numbers below n that pass
abbrev IsTop : List (ℕ × BeatNote) → (BeatNote → Bool) → ℕ → Option (ℕ × BeatNote) → Type 0
IsTop bs p n None = (b : ℕ × BeatNote) → In bs b → b.0 < n → p b.1 ≡ false
IsTop bs p n (Some t) = In bs t × (p t.1 ≡ true) × (t.0 < n) × ((b : ℕ × BeatNote) → In bs b → b.0 < n → p b.1 ≡ true → b.0 ≤ t.0)

has-number : (bs : List (ℕ × BeatNote)) (n : ℕ) → has ◌==◌ (map number bs) n ≡ true → (note : BeatNote) × In bs (n, note)
has-number [] n e = absurd (cc)
has-number (b ∷ bs) n e = go (b.0 == n) refl e (has-number bs n)
  where
    num : (a b : ℕ) → (a == b) ≡ true → a ≡ b
    num a b e = grind (arith, nat_tests)

    go : (c : Bool) → (b.0 == n) ≡ c → (c || has ◌==◌ (map number bs) n) ≡ true → (has ◌==◌ (map number bs) n ≡ true → (note : BeatNote) × In bs (n, note)) → (note : BeatNote) × In (b ∷ bs) (n, note)
    go true w e f = (b.1, inl (λ k. (num b.0 n w k, b.1)))
    go false w e f = let y : (note : BeatNote) × In bs (n, note) = f e in (y.0, inr y.1)

number-has : (bs : List (ℕ × BeatNote)) (b : ℕ × BeatNote) → In bs b → has ◌==◌ (map number bs) b.0 ≡ true
number-has [] b m = absurd m
number-has (c ∷ bs) b (inl e) = or_left (c.0 == b.0) (has ◌==◌ (map number bs) b.0) (same c.0 b.0 (ap number e))
  where
    same : (m n : ℕ) → m ≡ n → (m == n) ≡ true
    same m n e = grind (arith, nat_tests)

    or_left : (a b : Bool) → a ≡ true → (a || b) ≡ true
    or_left true b e = refl
    or_left false b e = absurd (cc)
number-has (c ∷ bs) b (inr m) = or_right (c.0 == b.0) (has ◌==◌ (map number bs) b.0) (number-has bs b m)
  where
    or_right : (a b : Bool) → b ≡ true → (a || b) ≡ true
    or_right true b e = refl
    or_right false b e = e

split_below : (m n : ℕ) → m < suc n → (m ≡ n) ⊎ (m < n)
split_below m n h = grind arith

module _ (bs : List (ℕ × BeatNote)) (p : BeatNote → Bool) (notes : List BeatNote) (right : (b : ℕ × BeatNote) → In bs b → slice_get notes b.0 ≡ Some b.1) where
  -- below n + 1, where nothing of number n passes
  no-more : (n : ℕ) (o : Option (ℕ × BeatNote)) → ((b : ℕ × BeatNote) → In bs b → b.0 ≡ n → p b.1 ≡ false) → IsTop bs p n o → IsTop bs p (suc n) o
  no-more n None f k = λ b m l. elim (split_below b.0 n l) [ inl e ↦ f b m e | inr l ↦ k b m l ]
  no-more n (Some t) f k = (k.0, k.1, (let y : t.0 < n = k.2 in omega arith), λ b m l q. elim (split_below b.0 n l) [ inl e ↦ absurd (let w : p b.1 ≡ false = f b m e in cc) | inr l ↦ k.3 b m l q ])

  this : (n : ℕ) (note : BeatNote) → In bs (n, note) → p note ≡ true → IsTop bs p (suc n) (Some (n, note))
  this n note m q = (m, q, (let y : n < suc n = omega arith in y), λ b i l w. omega arith)

  one : (b : ℕ × BeatNote) (n : ℕ) (note : BeatNote) → In bs b → b.0 ≡ n → slice_get notes n ≡ Some note → b.1 ≡ note
  one b n note m e w = some_is b.1 note (sym (right b m) ∙ (ap (slice_get notes) e ∙ w))

top-step : (bs : List (ℕ × BeatNote)) (p : BeatNote → Bool) (notes : List BeatNote) → ((b : ℕ × BeatNote) → In bs b → slice_get notes b.0 ≡ Some b.1) → (n : ℕ) (rest : Option (ℕ × BeatNote)) → IsTop bs p n rest →
    (t : Bool) → has ◌==◌ (map number bs) n ≡ t → (o : Option BeatNote) → slice_get notes n ≡ o →
    IsTop bs p (suc n) (elim t [ false ↦ rest | true ↦ elim o [ None ↦ rest | Some note ↦ elim (p note) [ true ↦ Some (n, note) | false ↦ rest ] ] ])
top-step bs p notes right n rest k false t o w = no-more bs p notes right n rest (λ b m e. absurd (let y : has ◌==◌ (map number bs) n ≡ true = subst (λ (q : ℕ). has ◌==◌ (map number bs) q ≡ true) e (number-has bs b m) in cc)) k
top-step bs p notes right n rest k true t None w = no-more bs p notes right n rest (λ b m e. absurd (let y : Some b.1 ≡ None = sym (right b m) ∙ (ap (slice_get notes) e ∙ w) in cc)) k
top-step bs p notes right n rest k true t (Some note) w = go (p note) refl
  where
    member : In bs (n, note)
    member =
        let y : (x : BeatNote) × In bs (n, x) = has-number bs n t in
        subst (λ (x : BeatNote). In bs (n, x)) (one bs p notes right (n, y.0) n note y.1 refl w) y.1

    go : (c : Bool) → p note ≡ c → IsTop bs p (suc n) (elim c [ true ↦ Some (n, note) | false ↦ rest ])
    go true q = this bs p notes right n note member q
    go false q = no-more bs p notes right n rest (λ b m e. ap p (one bs p notes right b n note m e w) ∙ q) k

best-top : (d : Deployed) (h : List Entry) (i j : ℕ) (bs : List (ℕ × BeatNote)) (n : ℕ) → Taken d h i j bs → IsTop bs (is_complete d h i j) n (best_below d h i j (beats d h i j) n)
unfolding best_below
best-top d h i j bs zero k = λ b m l. absurd (omega arith)
best-top d h i j bs (suc n) k =
    top-step bs (is_complete d h i j) (beats d h i j) k.notes n (best_below d h i j (beats d h i j) n) (best-top d h i j bs n k)
    (has ◌==◌ (beats_taken h i j) n) (ap (λ (ns : List ℕ). has ◌==◌ ns n) k.numbers) (slice_get (beats d h i j) n) refl

in-top : (p : BeatNote → Bool) (bs : List (ℕ × BeatNote)) (n : ℕ) → ((b : ℕ × BeatNote) → In bs b → b.0 < n) → IsTop bs p n (best_in p bs)
unfolding best_in
in-top p [] n f = λ b m l. absurd m
in-top p (b ∷ bs) n f = go (p b.1) refl (best_in p bs) (in-top p bs n (λ c m. f c (inr m)))
  where
    skip : (o : Option (ℕ × BeatNote)) → p b.1 ≡ false → IsTop bs p n o → IsTop (b ∷ bs) p n o
    skip None e k = λ c m l. elim m [ inl w ↦ ap (λ (y : ℕ × BeatNote). p y.1) (sym w) ∙ e | inr w ↦ k c w l ]
    skip (Some t) e k = (inr k.0, k.1, k.2, λ c m l q. elim m [ inl w ↦ absurd (let y : p c.1 ≡ false = ap (λ (y : ℕ × BeatNote). p y.1) (sym w) ∙ e in cc) | inr w ↦ k.3 c w l q ])

    lt_is : (m n : ℕ) → nat_lt m n ≡ true → m < n
    lt_is m n e = grind (arith, nat_tests)

    ge_is : (m n : ℕ) → nat_lt m n ≡ false → n ≤ m
    ge_is m n e = grind (arith, nat_tests)

    go : (c : Bool) → p b.1 ≡ c → (o : Option (ℕ × BeatNote)) → IsTop bs p n o → IsTop (b ∷ bs) p n (if c then elim o [ None ↦ Some b | Some c ↦ if nat_lt c.0 b.0 then Some b else Some c ] else o)
    go false e o k = skip o e k
    go true e None k = (inl refl, e, f b (inl refl), λ c m l q. elim m [ inl w ↦ (let y : b.0 ≡ c.0 = ap number w in omega arith) | inr w ↦ absurd (let y : p c.1 ≡ false = k c w l in cc) ])
    go true e (Some t) k = less (nat_lt t.0 b.0) refl
      where
        less : (c : Bool) → nat_lt t.0 b.0 ≡ c → IsTop (b ∷ bs) p n (if c then Some b else Some t)
        less true w = (inl refl, e, f b (inl refl), λ c m l q. elim m [ inl y ↦ (let z : b.0 ≡ c.0 = ap number y in omega arith) | inr y ↦ (let z : c.0 ≤ t.0 = k.3 c y l q in let x : t.0 < b.0 = lt_is t.0 b.0 w in omega arith) ])
        less false w = (inr k.0, k.1, k.2, λ c m l q. elim m [ inl y ↦ (let z : b.0 ≡ c.0 = ap number y in let x : b.0 ≤ t.0 = ge_is t.0 b.0 w in omega arith) | inr y ↦ k.3 c y l q ])

one-top : (bs : List (ℕ × BeatNote)) (p : BeatNote → Bool) (notes : List BeatNote) (n : ℕ) → ((b : ℕ × BeatNote) → In bs b → slice_get notes b.0 ≡ Some b.1) → (x y : Option (ℕ × BeatNote)) → IsTop bs p n x → IsTop bs p n y → x ≡ y
one-top bs p notes n right None None a b = refl
one-top bs p notes n right None (Some t) a b = absurd (let w : p t.1 ≡ false = a t b.0 b.2 in let y : p t.1 ≡ true = b.1 in cc)
one-top bs p notes n right (Some s) None a b = absurd (let w : p s.1 ≡ false = b s a.0 a.2 in let y : p s.1 ≡ true = a.1 in cc)
one-top bs p notes n right (Some s) (Some t) a b =
    let l : s.0 ≤ t.0 = b.3 s a.0 a.2 a.1 in
    let m : t.0 ≤ s.0 = a.3 t b.0 b.2 b.1 in
    let e : s.0 ≡ t.0 = omega arith in
    let w : s.1 ≡ t.1 = one bs p notes right s t.0 t.1 a.0 e (right t b.0) in
    λ k. Some (e k, w k)

complete-agrees : (d : Deployed) (h : List Entry) (i j : ℕ) → IsValid d → IsRun d h → complete_at d (site_state d h j) i ≡ is_complete d h i j
unfolding is_complete
complete-agrees d h i j v run = λ k note. list_all (λ g. nat_le (note.counts g) (front-agrees d h i g j v run k)) (below d.gears)

pub best-agrees : (d : Deployed) (h : List Entry) (j i : ℕ) → IsValid d → IsRun d h → best_of d (site_state d h j) i ≡ best d h j i
unfolding best
best-agrees d h j i v run =
    let bs : List (ℕ × BeatNote) = (site_state d h j).proxy.beats i in
    let k : Taken d h i j bs = taken-agrees d h i j run in
    ap (λ (p : BeatNote → Bool). best_in p bs) (complete-agrees d h i j v run) ∙
    one-top bs (is_complete d h i j) (beats d h i j) (length (beats d h i j)) k.notes (best_in (is_complete d h i j) bs) (best_below d h i j (beats d h i j) (length (beats d h i j)))
    (in-top (is_complete d h i j) bs (length (beats d h i j)) (λ b m. get-below (beats d h i j) b.0 b.1 (k.notes b m))) (best-top d h i j bs (length (beats d h i j)) k)
