-- Versions: those of the items of one gear.
use Rattle.std.specs.Prelude.{◌≡◌, ◌<◌, ℕ, ◌+◌, ◌*◌, ◌/◌, ◌%◌, Bool, true, false, ◌==◌, List, length, set, Option, Some, None, if◌then◌else◌, refl}
use Rattle.std.proofs.Common.{ap, sym, ◌∙◌}
use Rattle.std.proofs.lemmas.List.{get_or-set_same, get_or-set_other}
use Rattle.std.proofs.Math.Nat.{div-add-mod}
use Rattle.std.proofs.lemmas.Bool.{eqb-false, eqb-true}
use Rattle.sat_label.specs.declared.label.Label.{Label}
use Rattle.sat_label.specs.Order.{label_lt}
use Rattle.sat_label.specs.Versions.{Version}
use Rattle.sat_store.specs.Stored.{newer, version_at}
use Rattle.sat_model.specs.Next.{put, version_at as seen_at}
use Rattle.sat_model.specs.State.{Version as VersionSeen}
use Rattle.sat_site.specs.Stands.{version_seen}

-- two items of one gear at one place are one
one-place : (m n g : ℕ) → m % g ≡ n % g → m / g ≡ n / g → m ≡ n
one-place m n g e f = sym (div-add-mod m g) ∙ (ap (λ (r : ℕ). g * (m / g) + r) e ∙ (ap (λ (q : ℕ). g * q + n % g) f ∙ div-add-mod n g))

-- what a new version of item x makes of that of item n
pub version-set : (vs : List (Option Version)) (x n g : ℕ) (v : Option Version) → x / g < length vs → n % g ≡ x % g → version_at (set vs (x / g) v) (n / g) ≡ (if x == n then v else version_at vs (n / g))
version-set vs x n g v lt e = go (x == n) refl
  where
    go : (b : Bool) → (x == n) ≡ b → version_at (set vs (x / g) v) (n / g) ≡ (if b then v else version_at vs (n / g))
    go true w = ap (λ (k : ℕ). version_at (set vs (x / g) v) k) (ap (λ (k : ℕ). k / g) (sym (eqb-true x n w))) ∙ get_or-set_same vs (x / g) v None lt
    go false w = get_or-set_other vs (x / g) (n / g) v None (λ f. eqb-false x n w (one-place x n g (sym e) (sym f)))

-- the greater version of a gear is the machine's
pub newer-put : (o : Option Version) (l : Label) (value : List ℕ) → version_seen (newer o (record { label = l; value = value })) ≡ put (version_seen o) (seen_at l value)
newer-put None l value = refl
newer-put (Some v) l value = go (label_lt v.label l)
  where
    go : (b : Bool) → version_seen (if b then Some (record { label = l; value = value }) else Some v) ≡ (if b then Some (seen_at l value) else version_seen (Some v))
    go true = refl
    go false = refl

-- the versions of one gear, after a newer one of item n
pub newer-stored : (vs : List (Option Version)) (n m g : ℕ) (l : Label) (value : List ℕ) (f : ℕ → Option VersionSeen) → n / g < length vs → m % g ≡ n % g → version_seen (version_at vs (n / g)) ≡ f n → version_seen (version_at vs (m / g)) ≡ f m →
    version_seen (version_at (set vs (n / g) (newer (version_at vs (n / g)) (record { label = l; value = value }))) (m / g)) ≡ (if n == m then put (f m) (seen_at l value) else f m)
newer-stored vs n m g l value f lt e here there = ap version_seen (version-set vs n m g (newer (version_at vs (n / g)) (record { label = l; value = value })) lt e) ∙ go (n == m) refl
  where
    go : (b : Bool) → (n == m) ≡ b → version_seen (if b then newer (version_at vs (n / g)) (record { label = l; value = value }) else version_at vs (m / g)) ≡ (if b then put (f m) (seen_at l value) else f m)
    go true w = newer-put (version_at vs (n / g)) l value ∙ (ap (λ (o : Option VersionSeen). put o (seen_at l value)) here ∙ ap (λ (k : ℕ). put (f k) (seen_at l value)) (eqb-true n m w))
    go false w = there
