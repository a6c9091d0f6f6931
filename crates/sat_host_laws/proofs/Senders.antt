-- What a journal gives for a link was sent there.
use Rattle.std.proofs.Common.{◌≡◌, ℕ, ◌+◌, List, [], ◌∷◌, ◌++◌, length, Option, Some, slice_get, take, drop, zero, suc, refl, sym, ap, ◌∙◌, subst, append_assoc, arith}
use Rattle.std.proofs.lemmas.List.{append-nil}
use Rattle.sat_label.specs.declared.label.Label.{Label}
use Rattle.sat_node.specs.declared.kept.Kept.{Kept}
use Rattle.sat_node.specs.declared.kept.Made.{Made}
use Rattle.sat_node.specs.declared.kept.Made.TheVariants as made
use Rattle.sat_node.specs.declared.kept.Envelope.{Envelope}
use Rattle.sat_node.specs.Puts.{envelope, Putting, putting, puttings, numbered, sealed, put_by}
use Rattle.sat_opened.specs.Delivered.{labels_in}
use Rattle.sat_host_laws.specs.Messages.{IsSent}
use Rattle.sat_message.specs.declared.message.Message.{Message}
use Rattle.sat_message.specs.Numbering.{GivesOne, is_label, labels_of, message_of, put_before}
use Rattle.sat_opened.proofs.Deliveries.{labels-append}

get-behind : {X : Type 0} (xs ys : List X) (y : X) → slice_get (xs ++ y ∷ ys) (length xs) ≡ Some y
get-behind [] ys y = refl
get-behind (x ∷ xs) ys y = get-behind xs ys y

pub sealed-append : (before ps qs : List Putting) → sealed before (ps ++ qs) ≡ sealed before ps ++ sealed (before ++ ps) qs
sealed-append before [] qs = ap (λ (l : List Putting). sealed l qs) (sym (append-nil before))
sealed-append before (p ∷ ps) qs =
    ap (λ (es : List Envelope). envelope p.number (numbered before p.made) ∷ es)
    (sealed-append (before ++ p ∷ []) ps qs ∙ ap (λ (l : List Putting). sealed (before ++ p ∷ []) ps ++ sealed l qs) (append_assoc before (p ∷ []) ps))

pub puttings-append : {I A : Type 0} (of : I → A → Option Made) (xs ys : List (Kept I A)) → puttings of (xs ++ ys) ≡ puttings of xs ++ puttings of ys
puttings-append of [] ys = refl
puttings-append of (x ∷ xs) ys =
    ap (λ (l : List Putting). putting x.lamport (of x.input x.answer) ++ l) (puttings-append of xs ys) ∙ sym (append_assoc (putting x.lamport (of x.input x.answer)) (puttings of xs) (puttings of ys))

one-more : (n c : ℕ) → n ≡ c → n + 1 ≡ 1 + c
one-more n c e = omega arith

none-more : (n c : ℕ) → n ≡ c → n ≡ 0 + c
none-more n c e = omega arith

count-one : (before : List Putting) (n : ℕ) (m : Made) (es : List Envelope) (c : ℕ) → length (labels_in es) ≡ c → length (labels_in (envelope n (numbered before m) ∷ es)) ≡ is_label m + c
count-one before n (made.Label l) es c e = omega arith
count-one before n (made.Payload g p) es c e = none-more (length (labels_in es)) c e
count-one before n (made.Beat b) es c e = none-more (length (labels_in es)) c e

labels-count : (before ps : List Putting) → length (labels_in (sealed before ps)) ≡ labels_of ps
labels-count before [] = refl
labels-count before (p ∷ ps) = count-one before p.number p.made (sealed (before ++ p ∷ []) ps) (labels_of ps) (labels-count (before ++ p ∷ []) ps)

abbrev put_as : ℕ → Made → Putting
put_as n m = record { number = n; made = m }

sent-at : (before : List Putting) (n : ℕ) (m : Made) (after : List Putting) → IsSent (sealed [] (before ++ put_as n m ∷ after)) (message_of before (put_as n m))
sent-at before n (made.Label l) after =
    ap (λ (es : List Envelope). slice_get (labels_in es) (labels_of before)) (sealed-append [] before (put_as n (made.Label l) ∷ after)) ∙
    (ap (λ (ps : List (ℕ × Label)). slice_get ps (labels_of before)) (labels-append (sealed [] before) (sealed before (put_as n (made.Label l) ∷ after))) ∙
    (ap (λ (k : ℕ). slice_get (labels_in (sealed [] before) ++ (n, l) ∷ labels_in (sealed (before ++ put_as n (made.Label l) ∷ []) after)) k) (sym (labels-count [] before)) ∙
    get-behind (labels_in (sealed [] before)) (labels_in (sealed (before ++ put_as n (made.Label l) ∷ []) after)) (n, l)))
sent-at before n (made.Payload g p) after = (
  length (sealed [] before),
  ap (λ (es : List Envelope). slice_get es (length (sealed [] before))) (sealed-append [] before (put_as n (made.Payload g p) ∷ after)) ∙
      get-behind (sealed [] before) (sealed (before ++ put_as n (made.Payload g p) ∷ []) after) (envelope n (numbered before (made.Payload g p))),
)
sent-at before n (made.Beat b) after = (
  length (sealed [] before),
  ap (λ (es : List Envelope). slice_get es (length (sealed [] before))) (sealed-append [] before (put_as n (made.Beat b) ∷ after)) ∙
      get-behind (sealed [] before) (sealed (before ++ put_as n (made.Beat b) ∷ []) after) (envelope n (numbered before (made.Beat b))),
)

cut-at : {X : Type 0} (n : ℕ) (xs : List X) → take n xs ++ drop n xs ≡ xs
cut-at zero xs = refl
cut-at (suc n) [] = refl
cut-at (suc n) (x ∷ xs) = ap (λ l. x ∷ l) (cut-at n xs)

-- all that is put is what was put up to a place, and the rest
put-parts : {I A : Type 0} (of : I → A → Option Made) (ks : List (Kept I A)) (b : ℕ) → puttings of ks ≡ put_before of ks b ++ puttings of (drop b ks)
put-parts of ks b = ap (puttings of) (sym (cut-at b ks)) ∙ puttings-append of (take b ks) (drop b ks)

pub given_is_sent : {I A : Type 0} (of : I → A → Option Made) (ks : List (Kept I A)) (a b : ℕ) (m : Message) → GivesOne of ks a b m → IsSent (put_by of ks) m
given_is_sent of ks a b m g =
    let before = put_before of ks a in
    let p = g.0 in
    let rest = puttings of (drop b ks) in
    let all : puttings of ks ≡ before ++ p ∷ rest = put-parts of ks b ∙ (ap (λ (ps : List Putting). ps ++ rest) g.1 ∙ append_assoc before (p ∷ []) rest) in
    subst (λ (x : Message). IsSent (put_by of ks) x) (sym g.2) (subst (λ (ps : List Putting). IsSent (sealed [] ps) (message_of before p)) (sym all) (sent-at before p.number p.made rest))
