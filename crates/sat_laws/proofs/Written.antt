-- What a write is, what an update's label has, and which of its items a site keeps.
use Rattle.std.specs.Prelude.{◌≡◌, ℕ, Bool, true, false, ◌||◌, ◌==◌, List, [], ◌∷◌, Option, Some, None, refl}
use Rattle.std.proofs.Common.{ap, ◌∙◌, arith}
use Rattle.std.proofs.lemmas.Bool.Decides.{nat_tests}
use Rattle.std.proofs.lemmas.Bool.{and_parts, eqb-true}
use Rattle.sat_label.specs.declared.items.Items.{Items}
use Rattle.sat_label.specs.declared.items.Items.TheVariants.{One}
use Rattle.sat_label.specs.declared.label.Kind.{Kind}
use Rattle.sat_label.specs.declared.label.Kind.TheVariants as kind
use Rattle.sat_label.specs.Words.{has}
use Rattle.sat_label.specs.Members.{is_made}
use Rattle.sat_act.specs.declared.act.Act.{Act}
use Rattle.sat_act.specs.declared.act.Act.TheVariants as act
use Rattle.sat_act.specs.Deployed.{Deployed}
use Rattle.sat_act.specs.Done.{Written, write_in, of_client, is_of}
use Rattle.sat_act.specs.Parts.{replicates, keeps_some, keeps_all, is_update, is_update_of}

-- ---- an act that writes

-- what holds of both forms holds of an act that writes
pub by-write : (P : Act → Type 0) (a : Act) (w : Written) → write_in a ≡ Some w → ((c x : ℕ) (v : List ℕ) → P (act.Write c x v)) → ((c : ℕ) (items : Items) (values : List (List ℕ)) → P (act.Writes c items values)) → P a
by-write P (act.Write c x v) w e f g = f c x v
by-write P (act.Writes c items values) w e f g = g c items values
by-write P _ w e f g = absurd (cc)

client_is : (w v : Written) → Some w ≡ Some v → w.client ≡ v.client
client_is w v e = let s : w ≡ v = cc in ap (λ (z : Written). z.client) s

-- an act that writes is of the client that writes
pub write-client : (a : Act) (w : Written) → write_in a ≡ Some w → of_client a ≡ Some w.client
write-client (act.Write c x v) w e = ap (λ (n : ℕ). Some n) (client_is (record { client = c; items = One x; values = v ∷ [] }) w e)
write-client (act.Writes c items values) w e = ap (λ (n : ℕ). Some n) (client_is (record { client = c; items = items; values = values }) w e)
write-client _ w e = absurd (cc)

pub write-of_client : (a : Act) (w : Written) (c : ℕ) → write_in a ≡ Some w → is_of a c ≡ (w.client == c)
write-of_client a w c e = ap (λ (o : Option ℕ). elim o [ None ↦ false | Some b ↦ b == c ]) (write-client a w e)

-- ---- items that a site keeps

one-more : (a b : Bool) → b ≡ true → (a || b) ≡ true
one-more true b e = refl
one-more false b e = e

same : (n : ℕ) → (n == n) ≡ true
same n = grind (arith, nat_tests)

-- one of the items that is kept makes some of them kept
pub kept-some : (d : Deployed) (xs : List ℕ) (x k : ℕ) → has ◌==◌ xs x ≡ true → replicates d x k ≡ true → keeps_some d xs k ≡ true
kept-some d [] x k h r = absurd (cc)
kept-some d (y ∷ ys) x k h r = go (y == x) refl h (λ t. kept-some d ys x k t r)
  where
    go : (b : Bool) → (y == x) ≡ b → (b || has ◌==◌ ys x) ≡ true → (has ◌==◌ ys x ≡ true → keeps_some d ys k ≡ true) → (replicates d y k || keeps_some d ys k) ≡ true
    go true e h rest = ap (λ (t : Bool). t || keeps_some d ys k) (ap (λ (n : ℕ). replicates d n k) (eqb-true y x e) ∙ r)
    go false e h rest = one-more (replicates d y k) (keeps_some d ys k) (rest h)

-- where some are kept, one is
pub some-kept : (d : Deployed) (xs : List ℕ) (k : ℕ) → keeps_some d xs k ≡ true → (x : ℕ) × (has ◌==◌ xs x ≡ true) × (replicates d x k ≡ true)
some-kept d [] k e = absurd (cc)
some-kept d (y ∷ ys) k e = go (replicates d y k) refl e (some-kept d ys k)
  where
    go : (b : Bool) → replicates d y k ≡ b → (b || keeps_some d ys k) ≡ true → (keeps_some d ys k ≡ true → (x : ℕ) × (has ◌==◌ ys x ≡ true) × (replicates d x k ≡ true)) → (x : ℕ) × (has ◌==◌ (y ∷ ys) x ≡ true) × (replicates d x k ≡ true)
    go true r e rest = (y, ap (λ (t : Bool). t || has ◌==◌ ys y) (same y), r)
    go false r e rest = let w = rest e in (w.0, one-more (y == w.0) (has ◌==◌ ys w.0) w.1, w.2)

-- where all are kept, there is one
pub first-kept : (d : Deployed) (xs : List ℕ) (k : ℕ) → keeps_all d xs k ≡ true → (x : ℕ) × (has ◌==◌ xs x ≡ true) × (replicates d x k ≡ true)
first-kept d [] k a = absurd (cc)
first-kept d (y ∷ ys) k a = (y, ap (λ (t : Bool). t || has ◌==◌ ys y) (same y), (and_parts (replicates d y k) _ a).0)

-- ---- kinds that have an item

pub item-update : (k : Kind) (x : ℕ) → is_update_of k x ≡ true → is_update k ≡ true
item-update (kind.Update items) x e = refl
item-update (kind.Move j) x e = absurd (cc)
item-update kind.Pulse x e = absurd (cc)
item-update (kind.Close f) x e = absurd (cc)

pub item-made : (k : Kind) (x : ℕ) → is_update_of k x ≡ true → is_made k ≡ true
item-made (kind.Update items) x e = refl
item-made (kind.Move j) x e = absurd (cc)
item-made kind.Pulse x e = absurd (cc)
item-made (kind.Close f) x e = absurd (cc)
