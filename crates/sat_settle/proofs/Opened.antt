-- The steps of the opening.
use Rattle.std.specs.Prelude.{◌≡◌, ◌<◌, ◌+◌, ◌-◌, ◌^◌, ◌==◌, ℕ, min, Bool, true, false, List, [], ◌∷◌, length, if◌then◌else◌, refl}
use Rattle.std.proofs.Common.{sym, subst, ap, ◌∙◌, arith}
use Rattle.std.proofs.lemmas.Bool.Decides.{nat_tests}
use Rattle.sat_label.specs.Words.{below}
use Rattle.sat_act.specs.declared.act.Act.TheVariants as act
use Rattle.sat_act.specs.declared.answer.Answer.{Answer}
use Rattle.sat_act.specs.declared.entry.Entry.{Entry}
use Rattle.sat_act.specs.Deployed.{Deployed}
use Rattle.sat_act.specs.Answers.{answer}
use Rattle.sat_act.specs.Parts.{beats}
use Rattle.sat_act.specs.Ranges.{IsActOf}
use Rattle.sat_act.specs.Runs.{IsRun}
use Rattle.sat_act.specs.Settling.{for_each, joined, gather_at, emit_all, pulse_at, beat_over, pairs, tried, opening, emptied}
use Rattle.sat_rest.proofs.Rounds.{emits-end}
use Rattle.sat_rest.proofs.Settles.{opening-is, emptied-is}
use Rattle.sat_world.specs.Seen.{WorldSeen}
use Rattle.sat_world.specs.Stands.{StandsFor}
use Rattle.sat_settle.specs.Going.{Extends, Reaches, StopsBefore, Makes, Stops, Tries, MakesUntil, StopsUntil, done_by}
use Rattle.sat_settle.specs.Openings.{beat_of, beats_all, beats_from, beats_to, emits_all, gathered_all, gathers_all, number_in, pulsed_all, pulses_all}
use Rattle.sat_settle.proofs.Extending.{extends-trans, tried-extends, emits-extends, for_each-extends, for_each-more}
use Rattle.sat_settle.proofs.Going.{reaches-on, tried-makes}

-- ---- emits

-- a site is one in the same deployment
pub site-along : (d e : Deployed) (i n : ℕ) → e ≡ d → n ≡ d.sites → i < n → i < e.sites
site-along d e i n same count l = subst (λ (x : Deployed). i < x.sites) (sym same) (subst (λ (m : ℕ). i < m) count l)

pub emit-makes : (v w : WorldSeen) (i n : ℕ) → i < v.deployment.sites → MakesUntil v (act.Emit i) n w → Makes v (emit_all v.deployment i) n w
emit-makes v w i n l p h run st = p h (emit_all v.deployment i h) run st (emits-end v.deployment i h l run)

pub emit-stops : (v w : WorldSeen) (i : ℕ) → i < v.deployment.sites → StopsUntil v (act.Emit i) w → Stops v (emit_all v.deployment i) w
emit-stops v w i l p h run st = p h (emit_all v.deployment i h) run st (emits-end v.deployment i h l run)

-- ---- beats

beat-number : (d : Deployed) (h : List Entry) (i j : ℕ) (r : Answer) → r ≡ answer d h (act.Beat i j) → number_in r ≡ length (beats d h i j)
unfolding answer
beat-number d h i j r e = ap number_in e

pub beat-extends : (d : Deployed) (p : ℕ × ℕ) (h : List Entry) → Extends h (beat_over d p h)
beat-extends d p h =
    extends-trans h (tried d (act.Beat p.0 p.1) h) (beat_over d p h) (tried-extends d (act.Beat p.0 p.1) h) (tried-extends d (act.BeatIn p.0 p.1 (length (beats d h p.0 p.1))) (tried d (act.Beat p.0 p.1) h))

second : (v w u : WorldSeen) (i j m x : ℕ) (h k : List Entry) → w.deployment ≡ v.deployment → Makes w (tried w.deployment (act.BeatIn i j x)) m u → IsRun v.deployment k → StandsFor w k → x ≡ length (beats v.deployment h i j) →
    Reaches v.deployment k (tried v.deployment (act.BeatIn i j (length (beats v.deployment h i j))) k) m u
second v w u i j m x h k same p run st e =
    subst (λ (y : ℕ). Reaches v.deployment k (tried v.deployment (act.BeatIn i j y) k) m u) e
    (subst (λ (d : Deployed). Reaches d k (tried d (act.BeatIn i j x) k) m u) same (p k (subst (λ (d : Deployed). IsRun d k) (sym same) run) st))

pub beat-makes : (v w u : WorldSeen) (i j n m k x : ℕ) (r : Answer) → IsActOf v.deployment (act.Beat i j) → w.deployment ≡ v.deployment → Tries v (act.Beat i j) r w → n ≡ done_by r → x ≡ number_in r →
    Makes w (tried w.deployment (act.BeatIn i j x)) m u → k ≡ min (n + m) (2 ^ 64 - 1) → Makes v (beat_of v.deployment i j) k u
beat-makes v w u i j n m k x r b same t c number p e h run st =
    let a : Reaches v.deployment h (tried v.deployment (act.Beat i j) h) n w = tried-makes v w (act.Beat i j) r n b refl t c h run st in
    reaches-on v.deployment h (tried v.deployment (act.Beat i j) h) (beat_of v.deployment i j h) n m k w u a
    (second v w u i j m x h (tried v.deployment (act.Beat i j) h) same p a.run a.stands (number ∙ beat-number v.deployment h i j r (t h run st).answer)) e

pub beat-stops : (v w u : WorldSeen) (i j n x : ℕ) (r : Answer) → IsActOf v.deployment (act.Beat i j) → Tries v (act.Beat i j) r w → n ≡ done_by r → x ≡ number_in r → u ≡ w → Stops v (beat_of v.deployment i j) u
beat-stops v w u i j n x r b t c number same h run st =
    let a : Reaches v.deployment h (tried v.deployment (act.Beat i j) h) n w = tried-makes v w (act.Beat i j) r n b refl t c h run st in
    record {
      now = tried v.deployment (act.Beat i j) h;
      stands = subst (λ (z : WorldSeen). StandsFor z (tried v.deployment (act.Beat i j) h)) (sym same) a.stands;
      run = a.run;
      from = a.from;
      to = tried-extends v.deployment (act.BeatIn i j (length (beats v.deployment h i j))) (tried v.deployment (act.Beat i j) h);
    }

-- beats from one site to another, or none from it to itself
abbrev beats_if : Deployed → ℕ → ℕ → Bool → List Entry → List Entry
beats_if d i j b h = for_each (beat_over d) (if b then [] else (i, j) ∷ []) h

one-beat : (d : Deployed) (i j : ℕ) (h : List Entry) → beats_if d i j false h ≡ beat_of d i j h
unfolding for_each
one-beat d i j h = refl

no-beat : (d : Deployed) (i j : ℕ) (h : List Entry) → beats_if d i j true h ≡ h
unfolding for_each
no-beat d i j h = refl

pub beats-none : (d : Deployed) (i j : ℕ) (h : List Entry) → (i == j) ≡ true → beats_to d i j h ≡ h
beats-none d i j h e = ap (λ (b : Bool). beats_if d i j b h) e ∙ no-beat d i j h

pub beats-one : (d : Deployed) (i j : ℕ) (h : List Entry) → (i == j) ≡ false → beats_to d i j h ≡ beat_of d i j h
beats-one d i j h e = ap (λ (b : Bool). beats_if d i j b h) e ∙ one-beat d i j h

pub to-extends : (d : Deployed) (i j : ℕ) (h : List Entry) → Extends h (beats_to d i j h)
to-extends d i j h = for_each-extends (beat_over d) (if i == j then [] else (i, j) ∷ []) h (beat-extends d)

pub from-extends : (d : Deployed) (i : ℕ) (h : List Entry) → Extends h (beats_from d i h)
from-extends d i h = for_each-extends (beats_to d i) (below d.sites) h (to-extends d i)

pub all-beats-extend : (d : Deployed) (h : List Entry) → Extends h (beats_all d h)
all-beats-extend d h = for_each-extends (beats_from d) (below d.sites) h (from-extends d)

-- the same beats one after another
pub flat : {X Y : Type 0} (f : Y → List Entry → List Entry) (g : X → List Y) (xs : List X) (h : List Entry) → for_each f (joined g xs) h ≡ for_each (λ x k. for_each f (g x) k) xs h
unfolding for_each
flat f g [] h = refl
flat f g (x ∷ xs) h = for_each-more f (g x) (joined g xs) h ∙ flat f g xs (for_each f (g x) h)

pub each-same : {X : Type 0} (f g : X → List Entry → List Entry) (xs : List X) (h : List Entry) → ((x : X) (k : List Entry) → f x k ≡ g x k) → for_each f xs h ≡ for_each g xs h
unfolding for_each
each-same f g [] h w = refl
each-same f g (x ∷ xs) h w = ap (λ (k : List Entry). for_each f xs k) (w x h) ∙ each-same f g xs (g x h) w

beats-are : (d : Deployed) (h : List Entry) → beats_all d h ≡ for_each (beat_over d) (pairs d) h
beats-are d h =
    each-same (beats_from d) (λ i k. for_each (beat_over d) (joined (λ j. if i == j then [] else (i, j) ∷ []) (below d.sites)) k) (below d.sites) h
    (λ i k. sym (flat (beat_over d) (λ j. if i == j then [] else (i, j) ∷ []) (below d.sites) k))
    ∙ sym (flat (beat_over d) (λ i. joined (λ j. if i == j then [] else (i, j) ∷ []) (below d.sites)) (below d.sites) h)

pub equal-sites : (i j : ℕ) → i ≡ j → (i == j) ≡ true
equal-sites i j e = grind (arith, nat_tests)

pub unequal-sites : (i j : ℕ) → (i ≡ j → ⊥) → (i == j) ≡ false
unequal-sites i j e = grind (arith, nat_tests)

-- ---- the whole

pub opening-parts : (d : Deployed) (h : List Entry) → beats_all d (pulsed_all d h) ≡ opening d h
opening-parts d h = beats-are d (pulsed_all d h) ∙ sym (opening-is d h)

pub emptied-parts : (d : Deployed) (h : List Entry) → emits_all d (gathered_all d h) ≡ emptied d h
emptied-parts d h = sym (emptied-is d h)

pub gathers-extend : (d : Deployed) (h : List Entry) → Extends h (gathers_all d h)
gathers-extend d h = for_each-extends (gather_at d) (below d.sites) h (λ i k. tried-extends d (act.Gather i) k)

pub emits-extend : (d : Deployed) (h : List Entry) → Extends h (emits_all d h)
emits-extend d h = for_each-extends (emit_all d) (below d.sites) h (emits-extends d)

pub pulses-extend : (d : Deployed) (h : List Entry) → Extends h (pulses_all d h)
pulses-extend d h = for_each-extends (pulse_at d) (below d.sites) h (λ i k. tried-extends d (act.Pulse i) k)

pub makes-as : (v w : WorldSeen) (f g : List Entry → List Entry) (n : ℕ) → ((h : List Entry) → f h ≡ g h) → Makes v f n w → Makes v g n w
makes-as v w f g n e p h run st = subst (λ (k : List Entry). Reaches v.deployment h k n w) (e h) (p h run st)

pub stops-as : (v w : WorldSeen) (f g : List Entry → List Entry) → ((h : List Entry) → f h ≡ g h) → Stops v f w → Stops v g w
stops-as v w f g e p h run st = subst (λ (k : List Entry). StopsBefore v.deployment h k w) (e h) (p h run st)

pub opening-extends : (d : Deployed) (h : List Entry) → Extends h (opening d h)
opening-extends d h =
    subst (λ (k : List Entry). Extends h k) (opening-parts d h)
    (extends-trans h (pulsed_all d h) (beats_all d (pulsed_all d h)) pulsed-extends (all-beats-extend d (pulsed_all d h)))
  where
    gathered-extends : Extends h (gathered_all d h)
    gathered-extends = extends-trans h (tried d act.Clock h) (gathered_all d h) (tried-extends d act.Clock h) (gathers-extend d (tried d act.Clock h))

    emptied-extends : Extends h (emptied d h)
    emptied-extends = subst (λ (k : List Entry). Extends h k) (emptied-parts d h) (extends-trans h (gathered_all d h) (emits_all d (gathered_all d h)) gathered-extends (emits-extend d (gathered_all d h)))

    pulsed-extends : Extends h (pulsed_all d h)
    pulsed-extends = extends-trans h (emptied d h) (pulsed_all d h) emptied-extends (pulses-extend d (emptied d h))
