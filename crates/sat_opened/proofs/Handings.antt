-- What entries took from a link and what entries put there, as marks of kept lists.
use Rattle.std.proofs.Common.{◌≡◌, ℕ, ◌+◌, zero, suc, Bool, true, false, ◌==◌, List, [], ◌∷◌, ◌++◌, length, map, Option, Some, None, slice_get, if◌then◌else◌, refl, sym, ap, ◌∙◌, subst, append_assoc, arith, inl, inr}
use Rattle.std.proofs.lemmas.List.{map-append}
use Rattle.sat_label.specs.Members.{In}
use Rattle.sat_label.specs.declared.label.Label.{Label}
use Rattle.sat_bulk.specs.Payloads.{Payload}
use Rattle.sat_beat.specs.declared.Beat.{Beat}
use Rattle.sat_act.specs.Parts.{BeatNote}
use Rattle.sat_proxy.specs.Proxy.{note_of}
use Rattle.sat_laws.proofs.Labels.{some_is}
use Rattle.sat_node.specs.declared.kept.Kept.{Kept as Line}
use Rattle.sat_node.specs.declared.kept.Body.{Body}
use Rattle.sat_node.specs.declared.kept.Body.TheVariants as body
use Rattle.sat_node.specs.declared.kept.Made.{Made}
use Rattle.sat_node.specs.declared.kept.Made.TheVariants as made
use Rattle.sat_node.specs.declared.kept.Envelope.{Envelope}
use Rattle.sat_node.specs.Puts.{envelope, Putting, putting, puttings, is_payload_of, is_beat, payloads_of, beats_of, numbered as sealed_as, sealed}
use Rattle.sat_node.specs.Links.{onto, takings}
use Rattle.sat_stitch.specs.Kept.{Kept, numbered}
use Rattle.sat_opened.proofs.Walks.{Along, later}
use Rattle.sat_label.proofs.Truth.{same-number}

-- ---- lists

pub get-mapped : {X Y : Type 0} (f : X → Y) (xs : List X) (k : ℕ) (y : Y) → slice_get (map f xs) k ≡ Some y → (x : X) × (slice_get xs k ≡ Some x) × (f x ≡ y)
get-mapped f [] k y e = absurd (cc)
get-mapped f (x ∷ xs) zero y e = (x, refl, some_is (f x) y e)
get-mapped f (x ∷ xs) (suc k) y e = get-mapped f xs k y e

-- ---- labels

abbrev pub label_made : Option Label → Option Made
label_made None = None
label_made (Some l) = Some (made.Label l)

abbrev pub label_body : Option Label → Option Body
label_body None = None
label_body (Some l) = Some (body.Label l)

-- a label on its way
abbrev pub label_on : ℕ × Label → Envelope
label_on p = envelope p.0 (body.Label p.1)

module _ {I A : Type 0} (of : Line I A → Kept) (f : List Kept → Kept → Option Label) where
  onto-is : (n m : ℕ) (o : Option Body) (l : Option Label) → m ≡ n → o ≡ label_body l → onto n o ≡ map label_on (numbered m l)
  onto-is n m o None e w = ap (onto n) w
  onto-is n m o (Some l) e w = ap (onto n) w ∙ ap (λ (k : ℕ). envelope k (body.Label l) ∷ []) (sym e)

  pub takings-are : (take : I → A → Option Body) (ks : List Kept) (xs : List (Line I A)) → ((x : Line I A) → (of x).number ≡ x.lamport) →
      Along of (λ b x. take x.input x.answer ≡ label_body (f b (of x))) ks xs → takings take xs ≡ map label_on (later of f ks xs)
  takings-are take ks [] same a = refl
  takings-are take ks (x ∷ xs) same a =
      (λ i. onto-is x.lamport (of x).number (take x.input x.answer) (f ks (of x)) (same x) a.0 i ++ takings-are take (of x ∷ ks) xs same a.1 i) ∙
      sym (map-append label_on (numbered (of x).number (f ks (of x))) (later of f (of x ∷ ks) xs))

  seal-one : (before : List Putting) (n m : ℕ) (o : Option Label) (ps : List Putting) (es : List Envelope) → m ≡ n → ((b : List Putting) → sealed b ps ≡ es) →
      sealed before (putting n (label_made o) ++ ps) ≡ map label_on (numbered m o) ++ es
  seal-one before n m None ps es e rest = rest before
  seal-one before n m (Some l) ps es e rest = λ i. envelope (sym e i) (body.Label l) ∷ rest (before ++ record { number = n; made = made.Label l } ∷ []) i

  pub sealed-are : (put : I → A → Option Made) (before : List Putting) (ks : List Kept) (xs : List (Line I A)) → ((x : Line I A) → (of x).number ≡ x.lamport) →
      Along of (λ b x. put x.input x.answer ≡ label_made (f b (of x))) ks xs → sealed before (puttings put xs) ≡ map label_on (later of f ks xs)
  sealed-are put before ks [] same a = refl
  sealed-are put before ks (x ∷ xs) same a =
      ap (λ (o : Option Made). sealed before (putting x.lamport o ++ puttings put xs)) a.0 ∙
      (seal-one before x.lamport (of x).number (f ks (of x)) (puttings put xs) (map label_on (later of f (of x ∷ ks) xs)) (same x) (λ b. sealed-are put b (of x ∷ ks) xs same a.1) ∙
      sym (map-append label_on (numbered (of x).number (f ks (of x))) (later of f (of x ∷ ks) xs)))

-- ---- payloads and beats: things of one sort, by what of a made thing is of that sort

module _ {Y : Type 0} (sort : Made → Option Y) where
  abbrev pub sort_of : Option Made → Option Y
  sort_of None = None
  sort_of (Some m) = sort m

  -- the things of the sort, each with its number
  abbrev pub sorted : List Putting → List (ℕ × Y)
  sorted [] = []
  sorted (p ∷ ps) = numbered p.number (sort p.made) ++ sorted ps

  get-behind : (xs ys : List (ℕ × Y)) (y : ℕ × Y) → slice_get (xs ++ y ∷ ys) (length xs) ≡ Some y
  get-behind [] ys y = refl
  get-behind (x ∷ xs) ys y = get-behind xs ys y

  sorted-append : (ps qs : List Putting) → sorted (ps ++ qs) ≡ sorted ps ++ sorted qs
  sorted-append [] qs = refl
  sorted-append (p ∷ ps) qs = ap (λ (zs : List (ℕ × Y)). numbered p.number (sort p.made) ++ zs) (sorted-append ps qs) ∙ sym (append_assoc (numbered p.number (sort p.made)) (sorted ps) (sorted qs))

  -- one of them stands behind those that were put before it
  pub sorted-at : (before : List Putting) (p : Putting) (after : List Putting) (y : Y) → sort p.made ≡ Some y → slice_get (sorted (before ++ p ∷ after)) (length (sorted before)) ≡ Some (p.number, y)
  sorted-at before p after y e =
      ap (λ (zs : List (ℕ × Y)). slice_get zs (length (sorted before))) (sorted-append before (p ∷ after)) ∙
      (ap (λ (o : Option Y). slice_get (sorted before ++ (numbered p.number o ++ sorted after)) (length (sorted before))) e ∙ get-behind (sorted before) (sorted after) (p.number, y))

  module _ {I A : Type 0} (of : Line I A → Kept) (f : List Kept → Kept → Option Y) (put : I → A → Option Made) where
    sort-one : (n m : ℕ) (o : Option Made) (y : Option Y) (ps : List Putting) (zs : List (ℕ × Y)) → m ≡ n → sort_of o ≡ y → sorted ps ≡ zs → sorted (putting n o ++ ps) ≡ numbered m y ++ zs
    sort-one n m None y ps zs e w rest = rest ∙ (λ i. numbered m (w i) ++ zs)
    sort-one n m (Some x) y ps zs e w rest = λ i. numbered (sym e i) (w i) ++ rest i

    pub sorted-are : (ks : List Kept) (xs : List (Line I A)) → ((x : Line I A) → (of x).number ≡ x.lamport) → Along of (λ b x. sort_of (put x.input x.answer) ≡ f b (of x)) ks xs → sorted (puttings put xs) ≡ later of f ks xs
    sorted-are ks [] same a = refl
    sorted-are ks (x ∷ xs) same a = sort-one x.lamport (of x).number (put x.input x.answer) (f ks (of x)) (puttings put xs) (later of f (of x ∷ ks) xs) (same x) a.0 (sorted-are (of x ∷ ks) xs same a.1)

-- the payloads of a gear, and the beats
abbrev pub payload_sort : ℕ → Made → Option Payload
payload_sort g (made.Payload gear p) = if gear == g then Some p else None
payload_sort g _ = None

abbrev pub beat_sort : Made → Option BeatNote
beat_sort (made.Beat b) = Some (note_of b)
beat_sort _ = None

count-payload : (g gear n : ℕ) (p : Payload) (m : ℕ) (zs : List (ℕ × Payload)) (b : Bool) → length zs ≡ m → length (numbered n (if b then Some p else None) ++ zs) ≡ (if b then 1 else 0) + m
count-payload g gear n p m zs true e = omega arith
count-payload g gear n p m zs false e = omega arith

count-none : {Y : Type 0} (zs : List Y) (m : ℕ) → length zs ≡ m → length zs ≡ 0 + m
count-none zs m e = omega arith

count-one : {Y : Type 0} (z : Y) (zs : List Y) (m : ℕ) → length zs ≡ m → length (z ∷ zs) ≡ 1 + m
count-one z zs m e = omega arith

payload-step : (g n : ℕ) (m : Made) (zs : List (ℕ × Payload)) (c : ℕ) → length zs ≡ c → length (numbered n (payload_sort g m) ++ zs) ≡ is_payload_of g m + c
payload-step g n (made.Label l) zs c e = count-none zs c e
payload-step g n (made.Payload gear p) zs c e = count-payload g gear n p c zs (gear == g) e
payload-step g n (made.Beat b) zs c e = count-none zs c e

pub payloads-count : (g : ℕ) (ps : List Putting) → length (sorted (payload_sort g) ps) ≡ payloads_of g ps
payloads-count g [] = refl
payloads-count g (p ∷ ps) = payload-step g p.number p.made (sorted (payload_sort g) ps) (payloads_of g ps) (payloads-count g ps)

beat-step : (n : ℕ) (m : Made) (zs : List (ℕ × BeatNote)) (c : ℕ) → length zs ≡ c → length (numbered n (beat_sort m) ++ zs) ≡ is_beat m + c
beat-step n (made.Label l) zs c e = count-none zs c e
beat-step n (made.Payload gear p) zs c e = count-none zs c e
beat-step n (made.Beat b) zs c e = count-one (n, note_of b) zs c e

pub beats-count : (ps : List Putting) → length (sorted beat_sort ps) ≡ beats_of ps
beats-count [] = refl
beats-count (p ∷ ps) = beat-step p.number p.made (sorted beat_sort ps) (beats_of ps) (beats-count ps)

-- a thing that travels as the payload of this number is one of the gear, of which so many were put before it
pub record IsPayload (g n : ℕ) (p : Payload) (before : List Putting) (m : Made) : Type 0 where
  pub is : payload_sort g m ≡ Some p
  pub number : payloads_of g before ≡ n

pub payload-is : (before : List Putting) (m : Made) (g n : ℕ) (p : Payload) → sealed_as before m ≡ body.Payload g n p → IsPayload g n p before m
payload-is before (made.Label l) g n p e = absurd (cc)
payload-is before (made.Beat b) g n p e = absurd (cc)
payload-is before (made.Payload gear q) g n p e =
    let same : gear ≡ g = cc in
    let thing : q ≡ p = cc in
    let count : payloads_of gear before ≡ n = cc in
    record { is = ap (λ (k : ℕ). if k == g then Some q else None) same ∙ (ap (λ (b : Bool). if b then Some q else None) (same-number g) ∙ ap (λ (q : Payload). Some q) thing); number = ap (λ (k : ℕ). payloads_of k before) (sym same) ∙ count }

pub record IsBeatOf (n : ℕ) (b : Beat) (before : List Putting) (m : Made) : Type 0 where
  pub is : beat_sort m ≡ Some (note_of b)
  pub number : beats_of before ≡ n

pub beat-is : (before : List Putting) (m : Made) (n : ℕ) (b : Beat) → sealed_as before m ≡ body.Beat n b → IsBeatOf n b before m
beat-is before (made.Label l) n b e = absurd (cc)
beat-is before (made.Payload gear q) n b e = absurd (cc)
beat-is before (made.Beat c) n b e =
    let same : c ≡ b = cc in
    let count : beats_of before ≡ n = cc in
    record { is = ap (λ (c : Beat). Some (note_of c)) same; number = count }

-- an entry's taking is among those of its journal
get-after : {X : Type 0} (xs ys : List X) (k : ℕ) (y : X) → slice_get ys k ≡ Some y → (n : ℕ) × (slice_get (xs ++ ys) n ≡ Some y)
get-after [] ys k y e = (k, e)
get-after (x ∷ xs) ys k y e = (let w : (n : ℕ) × (slice_get (xs ++ ys) n ≡ Some y) = get-after xs ys k y e in (suc w.0, w.1))

onto-first : (n : ℕ) (o : Option Body) (b : Body) (ts : List Envelope) → o ≡ Some b → slice_get (onto n o ++ ts) 0 ≡ Some (envelope n b)
onto-first n o b ts e = ap (λ (o : Option Body). slice_get (onto n o ++ ts) 0) e

pub taking-there : {I A : Type 0} (take : I → A → Option Body) (xs : List (Line I A)) (x : Line I A) (b : Body) → In xs x → take x.input x.answer ≡ Some b → (n : ℕ) × (slice_get (takings take xs) n ≡ Some (envelope x.lamport b))
taking-there take [] x b m e = absurd m
taking-there {I} {A} take (y ∷ ys) x b (inl same) e = (
  0,
  subst (λ (z : Line I A). slice_get (onto y.lamport (take y.input y.answer) ++ takings take ys) 0 ≡ Some (envelope z.lamport b)) same
      (onto-first y.lamport (take y.input y.answer) b (takings take ys) (ap (λ (z : Line I A). take z.input z.answer) same ∙ e)),
)
taking-there take (y ∷ ys) x b (inr m) e =
    let w : (n : ℕ) × (slice_get (takings take ys) n ≡ Some (envelope x.lamport b)) = taking-there take ys x b m e in
    get-after (onto y.lamport (take y.input y.answer)) (takings take ys) w.0 (envelope x.lamport b) w.1
