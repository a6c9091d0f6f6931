-- What a node was handed, once it has one entry more.
use Rattle.std.proofs.Common.{◌≡◌, ℕ, List, [], ◌∷◌, ◌++◌, Option, Some, None, refl, sym, ap, ◌∙◌}
use Rattle.sat_node.specs.declared.kept.Kept.{Kept}
use Rattle.sat_node.specs.declared.kept.Body.{Body}
use Rattle.sat_message.specs.declared.message.Slip.{Slip}
use Rattle.sat_handed.specs.declared.handed.Handed.{Handed}
use Rattle.sat_handed.specs.Told.{IsFed, came_by, fed_next, told, told_next}

-- ---- the last entry

last-asked : (o : Option Handed) (t : Option Body) (h : Handed) (rest : List Slip → List Handed) (fed : List Slip → Type 0) → o ≡ Some h → rest [] ≡ [] → fed [] → (told_next o t [] rest ≡ h ∷ []) × fed_next o t [] fed
last-asked (Some g) t h rest fed is e f = (let same : g ≡ h = cc (is) in (ap (λ (x : Handed). x ∷ rest []) same ∙ ap (λ (l : List Handed). h ∷ l) e, f))
last-asked None t h rest fed is e f = absurd (cc (is))

last-came : (o : Option Handed) (t : Option Body) (s : Slip) (b : Body) (rest : List Slip → List Handed) (fed : List Slip → Type 0) → o ≡ None → t ≡ Some b → rest [] ≡ [] → fed [] →
    (told_next o t (s ∷ []) rest ≡ came_by s b ∷ []) × fed_next o t (s ∷ []) fed
last-came (Some g) t s b rest fed none is e f = absurd (cc (none))
last-came None None s b rest fed none is e f = absurd (cc (is))
last-came None (Some c) s b rest fed none is e f = (let same : c ≡ b = cc (is) in (ap (λ (x : Body). came_by s x ∷ rest []) same ∙ ap (λ (l : List Handed). came_by s b ∷ l) e, f))

-- ---- an entry before others

next-asked : (o : Option Handed) (t : Option Body) (ss : List Slip) (rest more : List Slip → List Handed) (fed after : List Slip → Type 0) (h : Handed) → ((ss : List Slip) → fed ss → (more ss ≡ rest ss ++ h ∷ []) × after ss) → fed_next o t ss fed →
    (told_next o t ss more ≡ told_next o t ss rest ++ h ∷ []) × fed_next o t ss after
next-asked (Some g) t ss rest more fed after h go f = (let p = go ss f in (ap (λ (l : List Handed). g ∷ l) p.0, p.1))
next-asked None None ss rest more fed after h go f = absurd f
next-asked None (Some b) [] rest more fed after h go f = absurd f
next-asked None (Some b) (s ∷ ss) rest more fed after h go f = (let p = go ss f in (ap (λ (l : List Handed). came_by s b ∷ l) p.0, p.1))

next-came : (o : Option Handed) (t : Option Body) (ss : List Slip) (z : Slip) (rest more : List Slip → List Handed) (fed after : List Slip → Type 0) (h : Handed) →
    ((ss : List Slip) → fed ss → (more (ss ++ z ∷ []) ≡ rest ss ++ h ∷ []) × after (ss ++ z ∷ [])) → fed_next o t ss fed →
    (told_next o t (ss ++ z ∷ []) more ≡ told_next o t ss rest ++ h ∷ []) × fed_next o t (ss ++ z ∷ []) after
next-came (Some g) t ss z rest more fed after h go f = (let p = go ss f in (ap (λ (l : List Handed). g ∷ l) p.0, p.1))
next-came None None ss z rest more fed after h go f = absurd f
next-came None (Some b) [] z rest more fed after h go f = absurd f
next-came None (Some b) (s ∷ ss) z rest more fed after h go f = (let p = go ss f in (ap (λ (l : List Handed). came_by s b ∷ l) p.0, p.1))

-- ---- one entry more

module _ {I A : Type 0} (asked : ℕ → I → Option Handed) (took : I → Option Body) where
  -- that took no message
  pub told_asked : (ks : List (Kept I A)) (ss : List Slip) (k : Kept I A) (h : Handed) → asked k.lamport k.input ≡ Some h → IsFed asked took ks ss →
      (told asked took (ks ++ k ∷ []) ss ≡ told asked took ks ss ++ h ∷ []) × IsFed asked took (ks ++ k ∷ []) ss
  told_asked [] [] k h is fed = last-asked (asked k.lamport k.input) (took k.input) h (told {A = A} asked took []) (IsFed {A = A} asked took []) is refl tt
  told_asked [] (s ∷ ss) k h is fed = absurd fed
  told_asked (x ∷ ks) ss k h is fed =
      next-asked (asked x.lamport x.input) (took x.input) ss (told asked took ks) (told asked took (ks ++ k ∷ [])) (IsFed asked took ks) (IsFed asked took (ks ++ k ∷ [])) h (λ ss f. told_asked ks ss k h is f) fed

  -- that took one, with its slip
  pub told_came : (ks : List (Kept I A)) (ss : List Slip) (k : Kept I A) (s : Slip) (b : Body) → asked k.lamport k.input ≡ None → took k.input ≡ Some b → IsFed asked took ks ss →
      (told asked took (ks ++ k ∷ []) (ss ++ s ∷ []) ≡ told asked took ks ss ++ came_by s b ∷ []) × IsFed asked took (ks ++ k ∷ []) (ss ++ s ∷ [])
  told_came [] [] k s b none is fed = last-came (asked k.lamport k.input) (took k.input) s b (told {A = A} asked took []) (IsFed {A = A} asked took []) none is refl tt
  told_came [] (z ∷ ss) k s b none is fed = absurd fed
  told_came (x ∷ ks) ss k s b none is fed =
      next-came (asked x.lamport x.input) (took x.input) ss s (told asked took ks) (told asked took (ks ++ k ∷ [])) (IsFed asked took ks) (IsFed asked took (ks ++ k ∷ [])) (came_by s b) (λ ss f. told_came ks ss k s b none is f) fed
