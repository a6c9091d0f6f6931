-- A step for each of a list.
use Rattle.std.specs.Prelude.{◌≡◌, ◌<◌, ◌+◌, ◌-◌, ◌^◌, ℕ, zero, suc, min, nat_lt, take, drop, get_or, Bool, true, false, List, [], ◌∷◌, ◌++◌, length, refl}
use Rattle.std.proofs.Common.{sym, subst, ap, ◌∙◌, arith}
use Rattle.std.proofs.lemmas.List.{append_assoc, take_more}
use Rattle.std.proofs.lemmas.Bool.Decides.{nat_tests}
use Rattle.std.proofs.Math.Seq.{drop-cons}
use Rattle.std.proofs.Math.ListN.{take-append-drop}
use Rattle.sat_label.specs.Words.{below}
use Rattle.sat_act.specs.declared.entry.Entry.{Entry}
use Rattle.sat_act.specs.Deployed.{Deployed}
use Rattle.sat_act.specs.Settling.{for_each}
use Rattle.sat_world.specs.Seen.{WorldSeen}
use Rattle.sat_settle.specs.Going.{Extends, Reaches, StopsBefore, Makes, Stops}
use Rattle.sat_settle.proofs.Extending.{for_each-extends, for_each-last, for_each-more}
use Rattle.sat_settle.proofs.Going.{makes-nothing, makes-then, stops-first, stops-then}

-- the steps of these were done, and counted: the invariant of each loop
pub record Steps {X : Type 0} (F : Deployed → X → List Entry → List Entry) (v : WorldSeen) (xs : List X) (n : ℕ) (w : WorldSeen) : Type 0 where
  pub deployment : w.deployment ≡ v.deployment
  pub makes : Makes v (for_each (F v.deployment) xs) n w

nothing-done : {X : Type 0} (f : X → List Entry → List Entry) (h : List Entry) → for_each f [] h ≡ h
unfolding for_each
nothing-done f h = refl

pub steps-none : {X : Type 0} (F : Deployed → X → List Entry → List Entry) (v : WorldSeen) → Steps F v [] 0 v
steps-none F v = record { deployment = refl; makes = makes-nothing v (for_each (F v.deployment) []) (nothing-done (F v.deployment)) }

same-makes : (v w : WorldSeen) (f g : List Entry → List Entry) (n : ℕ) → ((h : List Entry) → f h ≡ g h) → Makes v f n w → Makes v g n w
same-makes v w f g n e p h run st = subst (λ (k : List Entry). Reaches v.deployment h k n w) (e h) (p h run st)

pub steps-more : {X : Type 0} (F : Deployed → X → List Entry → List Entry) (v w u : WorldSeen) (xs ys : List X) (x : X) (n m k : ℕ) → Steps F v xs n w → u.deployment ≡ w.deployment → Makes w (F w.deployment x) m u →
    k ≡ min (n + m) (2 ^ 64 - 1) → ys ≡ xs ++ x ∷ [] → Steps F v ys k u
steps-more F v w u xs ys x n m k s same p e f = subst (λ (zs : List _). Steps F v zs k u) (sym f) (record {
  deployment = same ∙ s.deployment;
  makes = same-makes v u (λ h. F v.deployment x (for_each (F v.deployment) xs h)) (for_each (F v.deployment) (xs ++ x ∷ [])) k (λ h. sym (for_each-last (F v.deployment) xs x h))
      (makes-then v w u (λ d h. for_each (F d) xs h) (λ d h. F d x h) n m k s.deployment s.makes p e);
})

same-stops : (v w : WorldSeen) (f g : List Entry → List Entry) → ((h : List Entry) → f h ≡ g h) → Stops v f w → Stops v g w
same-stops v w f g e p h run st = subst (λ (k : List Entry). StopsBefore v.deployment h k w) (e h) (p h run st)

pub steps-stop : {X : Type 0} (F : Deployed → X → List Entry → List Entry) (v w u : WorldSeen) (xs ys zs : List X) (x : X) (n : ℕ) → ((d : Deployed) (x : X) (h : List Entry) → Extends h (F d x h)) →
    Steps F v xs n w → Stops w (F w.deployment x) u → zs ≡ xs ++ x ∷ ys → Stops v (for_each (F v.deployment) zs) u
unfolding for_each
steps-stop F v w u xs ys zs x n ext s p e =
    same-stops v u (λ h. for_each (F v.deployment) ys (F v.deployment x (for_each (F v.deployment) xs h))) (for_each (F v.deployment) zs) (λ h. sym (all h))
    (stops-first v u (λ d h. F d x (for_each (F d) xs h)) (λ d h. for_each (F d) ys h) (λ d h. for_each-extends (F d) ys h (ext d))
    (stops-then v w u (λ d h. for_each (F d) xs h) (λ d h. F d x h) n s.deployment s.makes p))
  where
    all : (h : List Entry) → for_each (F v.deployment) zs h ≡ for_each (F v.deployment) ys (F v.deployment x (for_each (F v.deployment) xs h))
    all h = ap (λ (zs : List _). for_each (F v.deployment) zs h) e ∙ (for_each-more (F v.deployment) xs (x ∷ ys) h ∙ next (for_each (F v.deployment) xs h))
      where
        next : (k : List Entry) → for_each (F v.deployment) (x ∷ ys) k ≡ for_each (F v.deployment) ys (F v.deployment x k)
        next k = refl

-- ---- the numbers below one

pub below-more : (n : ℕ) → below (n + 1) ≡ below n ++ n ∷ []
below-more n = ap below (let e : n + 1 ≡ suc n = omega arith in e)

is-below : (i n : ℕ) → nat_lt i n ≡ true → i < n
is-below i n e = grind (arith, nat_tests)

is-top : (i n : ℕ) → nat_lt i n ≡ false → i < suc n → n ≡ i
is-top i n e l = grind (arith, nat_tests)

pub below-rest : (n i : ℕ) → i < n → (ys : List ℕ) × (below n ≡ below i ++ i ∷ ys)
below-rest zero i l = absurd (omega arith)
below-rest (suc n) i l = go (nat_lt i n) refl (λ s. below-rest n i s)
  where
    go : (b : Bool) → nat_lt i n ≡ b → (i < n → (ys : List ℕ) × (below n ≡ below i ++ i ∷ ys)) → (ys : List ℕ) × (below (suc n) ≡ below i ++ i ∷ ys)
    go true e w = let p : (ys : List ℕ) × (below n ≡ below i ++ i ∷ ys) = w (is-below i n e) in (p.0 ++ n ∷ [], ap (λ (xs : List ℕ). xs ++ n ∷ []) p.1 ∙ append_assoc (below i) (i ∷ p.0) (n ∷ []))
    go false e w = ([], ap (λ (k : ℕ). below k ++ k ∷ []) (is-top i n e l))

-- ---- loops over the sites

pub sites-none : (F : Deployed → ℕ → List Entry → List Entry) (v : WorldSeen) → Steps F v (below 0) 0 v
sites-none F v = steps-none F v

pub sites-more : (F : Deployed → ℕ → List Entry → List Entry) (v w u : WorldSeen) (i n m k : ℕ) → Steps F v (below i) n w → u.deployment ≡ w.deployment → Makes w (F w.deployment i) m u →
    k ≡ min (n + m) (2 ^ 64 - 1) → Steps F v (below (i + 1)) k u
sites-more F v w u i n m k s same p e = steps-more F v w u (below i) (below (i + 1)) i n m k s same p e (below-more i)

-- that stops at one of the first so many
pub count-stop : (size : Deployed → ℕ) (F : Deployed → ℕ → List Entry → List Entry) (v w u : WorldSeen) (i c n : ℕ) → ((d : Deployed) (x : ℕ) (h : List Entry) → Extends h (F d x h)) → c ≡ size v.deployment → i < c →
    Steps F v (below i) n w → Stops w (F w.deployment i) u → Stops v (λ h. for_each (F v.deployment) (below (size v.deployment)) h) u
count-stop size F v w u i c n ext e l s p =
    let q : (ys : List ℕ) × (below c ≡ below i ++ i ∷ ys) = below-rest c i l in
    steps-stop F v w u (below i) q.0 (below (size v.deployment)) i n ext s p (ap below (sym e) ∙ q.1)

-- or comes to its end
pub count-end : (size : Deployed → ℕ) (F : Deployed → ℕ → List Entry → List Entry) (v w : WorldSeen) (i c n : ℕ) → c ≡ size v.deployment → i ≡ c → Steps F v (below i) n w →
    Makes v (λ h. for_each (F v.deployment) (below (size v.deployment)) h) n w
count-end size F v w i c n e f s = subst (λ (m : ℕ). Makes v (λ h. for_each (F v.deployment) (below m) h) n w) (f ∙ e) s.makes

pub sites-stop : (F : Deployed → ℕ → List Entry → List Entry) (v w u : WorldSeen) (i c n : ℕ) → ((d : Deployed) (x : ℕ) (h : List Entry) → Extends h (F d x h)) → c ≡ v.deployment.sites → i < c →
    Steps F v (below i) n w → Stops w (F w.deployment i) u → Stops v (λ h. for_each (F v.deployment) (below v.deployment.sites) h) u
sites-stop F v w u i c n ext e l s p = count-stop (λ d. d.sites) F v w u i c n ext e l s p

pub sites-end : (F : Deployed → ℕ → List Entry → List Entry) (v w : WorldSeen) (i c n : ℕ) → c ≡ v.deployment.sites → i ≡ c → Steps F v (below i) n w → Makes v (λ h. for_each (F v.deployment) (below v.deployment.sites) h) n w
sites-end F v w i c n e f s = count-end (λ d. d.sites) F v w i c n e f s

-- ---- loops over a list of acts

pub list-none : {X : Type 0} (F : Deployed → X → List Entry → List Entry) (v : WorldSeen) (xs : List X) → Steps F v (take 0 xs) 0 v
list-none F v xs = steps-none F v

pub list-more : {X : Type 0} (F : Deployed → X → List Entry → List Entry) (v w u : WorldSeen) (xs : List X) (x : X) (i n m k : ℕ) → i < length xs → get_or xs i x ≡ x → Steps F v (take i xs) n w → u.deployment ≡ w.deployment →
    Makes w (F w.deployment x) m u → k ≡ min (n + m) (2 ^ 64 - 1) → Steps F v (take (i + 1) xs) k u
list-more F v w u xs x i n m k l at s same p e =
    steps-more F v w u (take i xs) (take (i + 1) xs) x n m k s same p e (take_more xs i x l ∙ ap (λ (y : _). take i xs ++ y ∷ []) at)

pub list-stop : {X : Type 0} (F : Deployed → X → List Entry → List Entry) (v w u : WorldSeen) (xs : List X) (x : X) (i n : ℕ) → ((d : Deployed) (x : X) (h : List Entry) → Extends h (F d x h)) → i < length xs → get_or xs i x ≡ x →
    Steps F v (take i xs) n w → Stops w (F w.deployment x) u → Stops v (for_each (F v.deployment) xs) u
list-stop F v w u xs x i n ext l at s p =
    steps-stop F v w u (take i xs) (drop (i + 1) xs) xs x n ext s p (split xs i l at)
  where
    split : (xs : List _) (i : ℕ) → i < length xs → get_or xs i x ≡ x → xs ≡ take i xs ++ x ∷ drop (i + 1) xs
    split xs i l at =
        sym (take-append-drop i xs) ∙ ap (λ (ys : List _). take i xs ++ ys) (drop-cons xs i x l ∙ (ap (λ (y : _). y ∷ drop (suc i) xs) at ∙ ap (λ (n : ℕ). x ∷ drop n xs) (let e : suc i ≡ i + 1 = omega arith in e)))
