-- Causal order and no repeats, by places in what a site showed.
use Rattle.std.specs.Prelude.{◌≡◌, ◌⊎◌, ◌<◌, ℕ, List, [], ◌∷◌, ◌++◌, Some, refl, length, slice_get}
use Rattle.std.proofs.Common.{sym, subst, arith, inl, inr, ◌∙◌}
use Rattle.sat_label.specs.declared.label.Label.{Label}
use Rattle.sat_act.specs.declared.entry.Entry.{Entry}
use Rattle.sat_act.specs.Deployed.{Deployed}
use Rattle.sat_act.specs.Runs.{IsRun}
use Rattle.sat_act.specs.Causes.{Cause}
use Rattle.sat_act.specs.Goals.{IsValid}
use Rattle.sat_laws.proofs.Runs.{before_of}
use Rattle.sat_laws.proofs.Members.{listed-gives, gives-listed}
use Rattle.sat_laws.proofs.Links.{get-cases, get-below, In-place, tail_of}
use Rattle.sat_act.specs.Parts.{shown_entry}
use Rattle.sat_act.specs.Goals.{Shows}
use Rattle.sat_act.specs.Goals.{Made}
use Rattle.sat_laws.proofs.Shows.{shows-is}
use Rattle.sat_act.specs.Goals.{Causal}
use Rattle.sat_laws.proofs.Knowledge.{cause-stays}
use Rattle.sat_act.specs.Parts.{shown}
use Rattle.sat_laws.proofs.Members.{gives-listed}
use Rattle.sat_laws.proofs.Members.{listed-gives}
use Rattle.sat_laws.proofs.Shows.{shows-is}
use Rattle.sat_laws.proofs.Links.{In-place}
use Rattle.sat_act.specs.Goals.{Causal, Once}
use Rattle.sat_act.specs.Headline.{CausalAsListed, OnceAsListed}
use Rattle.sat_laws.proofs.Links.{get-cases, get-keep, get-below, tail_of}
use Rattle.sat_label.specs.Members.{In, In}
use Rattle.sat_label.proofs.Members.{In-get, In-get}

shown-step : (h : List Entry) (x : Entry) (k : ℕ) → shown (x ∷ h) k ≡ shown h k ++ tail_of (shown_entry k h x)
unfolding shown
shown-step h x k = refl

shown-gives : (h : List Entry) (k : ℕ) (l : Label) → In (shown h k) l → Shows h k l
unfolding shown
shown-gives h k l m = listed-gives (shown_entry k) h l m

gives-shown : (h : List Entry) (k : ℕ) (l : Label) → Shows h k l → In (shown h k) l
unfolding shown
gives-shown h k l m = gives-listed (shown_entry k) h l m

place-cases : (h : List Entry) (x : Entry) (k n : ℕ) (b : Label) → slice_get (shown (x ∷ h) k) n ≡ Some b → (slice_get (shown h k) n ≡ Some b) ⊎ ((n ≡ length (shown h k)) × (shown_entry k h x ≡ Some b))
place-cases h x k n b e = get-cases (shown h k) (shown_entry k h x) n b (subst (λ (ls : List Label). slice_get ls n ≡ Some b) (shown-step h x k) e)

place-keeps : (h : List Entry) (x : Entry) (k n : ℕ) (b : Label) → slice_get (shown h k) n ≡ Some b → slice_get (shown (x ∷ h) k) n ≡ Some b
place-keeps h x k n b e = subst (λ (ls : List Label). slice_get ls n ≡ Some b) (sym (shown-step h x k)) (get-keep (shown h k) (tail_of (shown_entry k h x)) n b e)

place-start : (k n : ℕ) (b : Label) → slice_get (shown [] k) n ≡ Some b → ⊥
unfolding shown
place-start k n b e = cc

pub causal-places : (d : Deployed) (h : List Entry) → IsValid d → IsRun d h → Causal d h → CausalAsListed d h
unfolding Causal
causal-places d [] v run c k n b a e w kept = absurd (place-start k n b e)
causal-places d (x ∷ h) v run c k n b a e w kept = go (place-cases h x k n b e) (λ q m. causal-places d h v (before_of d h x run) c.0 k n b a q m kept)
  where
    go : (slice_get (shown h k) n ≡ Some b) ⊎ ((n ≡ length (shown h k)) × (shown_entry k h x ≡ Some b)) → (slice_get (shown h k) n ≡ Some b → Cause h b a → (m : ℕ) × (m < n) × (slice_get (shown h k) m ≡ Some a)) → (m : ℕ) × (m < n) × (slice_get (shown (x ∷ h) k) m ≡ Some a)
    go (inl q) old =
        let m : Made h b = (shows-is d h k b (before_of d h x run) (shown-gives h k b (In-get (shown h k) n b q))).made in
        let r : (m : ℕ) × (m < n) × (slice_get (shown h k) m ≡ Some a) = old q (cause-stays d h x b a v run m w) in
        (r.0, r.1, place-keeps h x k r.0 a r.2)
    go (inr q) old =
        let p : (m : ℕ) × (slice_get (shown h k) m ≡ Some a) = In-place (shown h k) a (gives-shown h k a (c.1 k b a q.1 w kept)) in
        let lt : p.0 < length (shown h k) = get-below (shown h k) p.0 a p.1 in
        let z : n ≡ length (shown h k) = q.0 in
        (p.0, omega arith, place-keeps h x k p.0 a p.1)

pub once-places : (d : Deployed) (h : List Entry) → Once d h → OnceAsListed h
unfolding Once
once-places d [] o k m n b e f = absurd (place-start k m b e)
once-places d (x ∷ h) o k m n b e f = go (place-cases h x k m b e) (place-cases h x k n b f) (λ p q. once-places d h o.0 k m n b p q)
  where
    go : (slice_get (shown h k) m ≡ Some b) ⊎ ((m ≡ length (shown h k)) × (shown_entry k h x ≡ Some b)) → (slice_get (shown h k) n ≡ Some b) ⊎ ((n ≡ length (shown h k)) × (shown_entry k h x ≡ Some b)) → (slice_get (shown h k) m ≡ Some b → slice_get (shown h k) n ≡ Some b → m ≡ n) → m ≡ n
    go (inl p) (inl q) old = old p q
    go (inl p) (inr q) old = absurd ((o.1 k b q.1).0 (shown-gives h k b (In-get (shown h k) m b p)))
    go (inr p) (inl q) old = absurd ((o.1 k b p.1).0 (shown-gives h k b (In-get (shown h k) n b q)))
    go (inr p) (inr q) old = p.0 ∙ sym q.0
