-- What was taken came from what was put, and what was put has its numbers.
use Rattle.std.proofs.Common.{◌≡◌, ℕ, zero, suc, ◌<◌, true, false, List, [], ◌∷◌, ◌++◌, length, Some, slice_get, refl, sym, ap, ◌∙◌, subst, append_assoc, arith, ⊎_elim}
use Rattle.std.proofs.lemmas.List.{length-append}
use Rattle.sat_node.specs.declared.kept.Envelope.{Envelope}
use Rattle.sat_node.specs.Puts.{Putting, envelope, numbered, sealed}
use Rattle.sat_node.specs.Links.{may_pass, Passes}
use Rattle.sat_node.specs.Laws.{IsFor, TakenCame, LabelsInOrder, PutsAreNumbered}

-- a member stays where the list grows at its end
get_more : {X : Type 0} (xs more : List X) (x : X) (k : ℕ) → slice_get xs k ≡ Some x → slice_get (xs ++ more) k ≡ Some x
get_more [] more x k e = absurd (cc (e))
get_more (a ∷ as') more x zero e = e
get_more (a ∷ as') more x (suc k) e = get_more as' more x k e

-- the first at 0, and the others one further
abbrev behind : (ℕ → ℕ) → ℕ → ℕ
behind f zero = zero
behind f (suc k) = suc (f k)

behind_rises : (f : ℕ → ℕ) → ((j k : ℕ) → j < k → f j < f k) → (j k : ℕ) → j < k → behind f j < behind f k
behind_rises f h zero zero less = absurd (omega arith)
behind_rises f h zero (suc k) less = omega arith
behind_rises f h (suc j) zero less = absurd (omega arith)
behind_rises f h (suc j) (suc k) less = (let e = h j k (omega arith) in omega arith)

abbrev Came : List Envelope → List Envelope → Type 0
Came took put = (at : ℕ → ℕ) × ((k : ℕ) (t : Envelope) → slice_get took k ≡ Some t → (e : Envelope) × (slice_get put (at k) ≡ Some e) × IsFor e t) × ((j k : ℕ) → j < k → at j < at k)

came : (ts es : List Envelope) → Passes ts es → Came ts es
came [] es h = ((λ k. k), (λ k t at. absurd (cc (at))), (λ j k less. less))
came (t ∷ ts) [] h = absurd h
came (t ∷ ts) (e ∷ es) h =
    ⊎_elim
    (λ (g : (t.body ≡ e.body) × (e.lamport < t.lamport) × Passes ts es).
    let rest = came ts es g.2 in (behind rest.0, first t ts e es (g.0, g.1) rest.0 rest.1, behind_rises rest.0 rest.2))
    (λ (g : (may_pass e.body ≡ true) × Passes (t ∷ ts) es).
    let rest = came (t ∷ ts) es g.1 in ((λ k. suc (rest.0 k)), rest.1, (λ j k less. let one = rest.2 j k less in omega arith))) h where
      first : (t : Envelope) (ts : List Envelope) (e : Envelope) (es : List Envelope) → IsFor e t → (at : ℕ → ℕ) → ((k : ℕ) (x : Envelope) → slice_get ts k ≡ Some x → (y : Envelope) × (slice_get es (at k) ≡ Some y) × IsFor y x)
          → (k : ℕ) (x : Envelope) → slice_get (t ∷ ts) k ≡ Some x → (y : Envelope) × (slice_get (e ∷ es) (behind at k) ≡ Some y) × IsFor y x
      first t ts e es is at rest zero x found = (let same : t ≡ x = cc (found) in (e, refl, subst (IsFor e) same is))
      first t ts e es is at rest (suc k) x found = rest k x found

pub taken_came : TakenCame
taken_came took put h =
    let c = came took h.0 h.3 in (
      c.0,
      (λ k t at. let it = c.1 k t at in (it.0, ap (λ l. slice_get l (c.0 k)) h.2 ∙ get_more h.0 h.1 it.0 (c.0 k) it.1, it.2)),
      c.2,
    )

first_is : (t : Envelope) (ts : List Envelope) (e : Envelope) (es : List Envelope) → IsFor e t → ((k : ℕ) (x : Envelope) → slice_get ts k ≡ Some x → (y : Envelope) × (slice_get es k ≡ Some y) × IsFor y x)
    → (k : ℕ) (x : Envelope) → slice_get (t ∷ ts) k ≡ Some x → (y : Envelope) × (slice_get (e ∷ es) k ≡ Some y) × IsFor y x
first_is t ts e es is rest zero x found = (let same : t ≡ x = cc (found) in (e, refl, subst (IsFor e) same is))
first_is t ts e es is rest (suc k) x found = rest k x found

in_order : (ts es : List Envelope) → Passes ts es → ((k : ℕ) (e : Envelope) → slice_get es k ≡ Some e → may_pass e.body ≡ false)
    → (k : ℕ) (t : Envelope) → slice_get ts k ≡ Some t → (e : Envelope) × (slice_get es k ≡ Some e) × IsFor e t
in_order [] es h none k t at = absurd (cc (at))
in_order (x ∷ ts) [] h none k t at = absurd h
in_order (x ∷ ts) (e ∷ es) h none k t at =
    ⊎_elim
    (λ (g : (x.body ≡ e.body) × (e.lamport < x.lamport) × Passes ts es). first_is x ts e es (g.0, g.1) (in_order ts es g.2 (λ j y. none (suc j) y)) k t at)
    (λ (g : (may_pass e.body ≡ true) × Passes (x ∷ ts) es). absurd (let wrong : true ≡ false = sym g.0 ∙ none zero e refl in cc (wrong))) h

pub labels_in_order : LabelsInOrder
labels_in_order took put h none k t at =
    let it = in_order took h.0 h.3 (λ j e found. none j e (ap (λ l. slice_get l j) h.2 ∙ get_more h.0 h.1 e j found)) k t at in
    (it.0, ap (λ l. slice_get l k) h.2 ∙ get_more h.0 h.1 it.0 k it.1, it.2)

numbered_behind : (first ps : List Putting) (k : ℕ) (e : Envelope) → slice_get (sealed first ps) k ≡ Some e →
    (before : List Putting) × (p : Putting) × (after : List Putting) × (ps ≡ before ++ p ∷ after) × (length before ≡ k) × (e ≡ envelope p.number (numbered (first ++ before) p.made))
numbered_behind first [] k e at = absurd (cc (at))
numbered_behind first (p ∷ ps) zero e at =
    let same : envelope p.number (numbered first p.made) ≡ e = cc (at) in
    ([], p, ps, refl, refl, sym same ∙ ap (λ l. envelope p.number (numbered l p.made)) (sym (Rattle.std.proofs.lemmas.List.append-nil first)))
numbered_behind first (p ∷ ps) (suc k) e at =
    let it = numbered_behind (first ++ p ∷ []) ps k e at in
    (p ∷ it.0, it.1, it.2, ap (λ l. p ∷ l) it.3, ap suc it.4, it.5 ∙ ap (λ l. envelope it.1.number (numbered l it.1.made)) (append_assoc first (p ∷ []) it.0))

pub puts_are_numbered : PutsAreNumbered
puts_are_numbered ps k e at = numbered_behind [] ps k e at
