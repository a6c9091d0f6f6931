-- What was received is what entries took or passed over, and then the front.
use Rattle.std.proofs.Common.{◌≡◌, ℕ, ◌<◌, List, [], ◌∷◌, ◌++◌, true, Option, Some, None, MatchOption, refl, sym, ap, ◌∙◌, subst, append_assoc, inl, inr, ⊎_elim}
use Rattle.std.proofs.lemmas.List.{append-nil}
use mathlib.Core.List.{IsPrefix}
use Rattle.sat_node.specs.declared.kept.Kept.{Kept}
use Rattle.sat_node.specs.declared.kept.Body.{Body}
use Rattle.sat_node.specs.declared.kept.Envelope.{Envelope}
use Rattle.sat_node.specs.Puts.{envelope}
use Rattle.sat_node.specs.Links.{InSeen, front_list, onto, takings, may_pass, Passes, Took, Handed, Popped, Pulled}

takings_next : {I A : Type 0} (of : I → A → Option Body) (ks : List (Kept I A)) (k : Kept I A) → takings of (ks ++ k ∷ []) ≡ takings of ks ++ onto k.lamport (of k.input k.answer)
takings_next of [] k = append-nil (onto k.lamport (of k.input k.answer))
takings_next of (x ∷ xs) k =
    ap (λ l. onto x.lamport (of x.input x.answer) ++ l) (takings_next of xs k)
    ∙ sym (append_assoc (onto x.lamport (of x.input x.answer)) (takings of xs) (onto k.lamport (of k.input k.answer)))

pub takings_none : {I A : Type 0} (of : I → A → Option Body) (ks : List (Kept I A)) (k : Kept I A) → of k.input k.answer ≡ None → takings of (ks ++ k ∷ []) ≡ takings of ks
takings_none of ks k e = takings_next of ks k ∙ (ap (λ o. takings of ks ++ onto k.lamport o) e ∙ append-nil (takings of ks))

pub takings_one : {I A : Type 0} (of : I → A → Option Body) (ks : List (Kept I A)) (k : Kept I A) (b : Body) → of k.input k.answer ≡ Some b → takings of (ks ++ k ∷ []) ≡ takings of ks ++ envelope k.lamport b ∷ []
takings_one of ks k b e = takings_next of ks k ∙ ap (λ o. takings of ks ++ onto k.lamport o) e

passes_taken : (ts es : List Envelope) (t e : Envelope) → Passes ts es → t.body ≡ e.body → e.lamport < t.lamport → Passes (ts ++ t ∷ []) (es ++ e ∷ [])
passes_taken [] [] t e h is less = inl (is, less, tt)
passes_taken (x ∷ xs) [] t e h is less = absurd h
passes_taken [] (y ∷ ys) t e h is less = inr (h.0, passes_taken [] ys t e h.1 is less)
passes_taken (x ∷ xs) (y ∷ ys) t e h is less =
    ⊎_elim
    (λ (g : (x.body ≡ y.body) × (y.lamport < x.lamport) × Passes xs ys). inl (g.0, g.1, passes_taken xs ys t e g.2 is less))
    (λ (g : (may_pass y.body ≡ true) × Passes (x ∷ xs) ys). inr (g.0, passes_taken (x ∷ xs) ys t e g.1 is less)) h

passes_over : (ts es : List Envelope) (e : Envelope) → Passes ts es → may_pass e.body ≡ true → Passes ts (es ++ e ∷ [])
passes_over [] [] e h may = (may, tt)
passes_over (x ∷ xs) [] e h may = absurd h
passes_over [] (y ∷ ys) e h may = (h.0, passes_over [] ys e h.1 may)
passes_over (x ∷ xs) (y ∷ ys) e h may =
    ⊎_elim
    (λ (g : (x.body ≡ y.body) × (y.lamport < x.lamport) × Passes xs ys). inl (g.0, g.1, passes_over xs ys e g.2 may))
    (λ (g : (may_pass y.body ≡ true) × Passes (x ∷ xs) ys). inr (g.0, passes_over (x ∷ xs) ys e g.1 may)) h

pub took_new : (i : InSeen) → i.link.received ≡ [] → i.front ≡ None → Took [] i
took_new i none front = ([], none ∙ sym (ap front_list front), tt)

cleared : (i j : InSeen) (e : Envelope) (before : List Envelope) → i.link.received ≡ before ++ front_list i.front → i.front ≡ Some e → j.link.received ≡ i.link.received → j.front ≡ None
    → j.link.received ≡ (before ++ e ∷ []) ++ front_list j.front
cleared i j e before is front same none = same ∙ (is ∙ (ap (λ f. before ++ front_list f) front ∙ (sym (append-nil (before ++ e ∷ [])) ∙ ap (λ f. (before ++ e ∷ []) ++ front_list f) (sym none))))

-- the front was taken
pub took_next : (i j : InSeen) (e : Envelope) (took : List Envelope) (n : ℕ) → Took took i → i.front ≡ Some e → e.lamport < n → j.link.received ≡ i.link.received → j.front ≡ None
    → Took (took ++ envelope n e.body ∷ []) j
took_next i j e took n h front less same none = (h.0 ++ e ∷ [], cleared i j e h.0 h.1 front same none, passes_taken took h.0 (envelope n e.body) e h.2 refl less)

-- the front was passed over
pub took_over : (i j : InSeen) (e : Envelope) (took : List Envelope) → Took took i → i.front ≡ Some e → may_pass e.body ≡ true → j.link.received ≡ i.link.received → j.front ≡ None → Took took j
took_over i j e took h front may same none = (h.0 ++ e ∷ [], cleared i j e h.0 h.1 front same none, passes_over took h.0 e h.2 may)

-- what was received is what was taken, and then the front, also after a pop
pulled_front : (f g : Option Envelope) (j i : InSeen) (before : List Envelope) → j.front ≡ f → i.front ≡ g
    → MatchOption f ((i.place ≡ j.place) × Popped g j.link i.link) (λ _. i ≡ j)
    → j.link.received ≡ before ++ front_list j.front → i.link.received ≡ before ++ front_list i.front
pulled_front (Some e) g j i before fj fi h is = subst (λ (x : InSeen). x.link.received ≡ before ++ front_list x.front) (sym h) is
pulled_front None None j i before fj fi h is = h.1.2 ∙ (is ∙ ap (λ f. before ++ front_list f) (fj ∙ sym fi))
pulled_front None (Some e) j i before fj fi h is =
    h.1.2 ∙ (ap (λ l. l ++ e ∷ []) (is ∙ (ap (λ f. before ++ front_list f) fj ∙ append-nil before)) ∙ ap (λ f. before ++ front_list f) (sym fi))

pub took_pulled : (took : List Envelope) (j i : InSeen) → Pulled j i → Took took j → Took took i
took_pulled took j i pulled t = (t.0, pulled_front j.front i.front j i t.0 refl refl pulled t.1, t.2)

-- the place stays
pulled_at : (f g : Option Envelope) (j i : InSeen) → MatchOption f ((i.place ≡ j.place) × Popped g j.link i.link) (λ _. i ≡ j) → i.place ≡ j.place
pulled_at None g j i h = h.0
pulled_at (Some e) g j i h = ap (λ (x : InSeen). x.place) h

pub pulled_place : (j i : InSeen) → Pulled j i → i.place ≡ j.place
pulled_place j i h = pulled_at j.front i.front j i h

-- what was taken is of the first of what was put
pub handed_on : (i : InSeen) (took sent put rest : List Envelope) → Took took i → IsPrefix i.link.received sent → put ≡ sent ++ rest → Handed took put
handed_on i took sent put rest t p whole =
    let front = front_list i.front in (
      t.0,
      front ++ (p.0 ++ rest),
      whole ∙ (ap (λ l. l ++ rest) (sym p.1) ∙ (ap (λ l. (l ++ p.0) ++ rest) t.1 ∙ (append_assoc (t.0 ++ front) p.0 rest ∙ append_assoc t.0 front (p.0 ++ rest)))),
      t.2,
    )
