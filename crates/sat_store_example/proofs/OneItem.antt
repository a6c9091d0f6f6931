-- A write of one item fits where a read of it does.
use Rattle.std.proofs.Common.{◌≡◌, ◌&&◌, ℕ, Bool, true, false, List, [], ◌∷◌, length, nat_lt, Some, None, refl, ap, sym}
use Rattle.std.specs.Prelude.{if◌then◌else◌}
use Rattle.sat_label.specs.declared.carried.Carried.{Carried}
use Rattle.sat_label.specs.declared.items.Items.TheVariants.{One}
use Rattle.sat_client.specs.declared.client.Client.{Client}
use Rattle.sat_site.specs.declared.input.SiteInput.TheVariants as input
use Rattle.sat_site.specs.Inputs.{fits_here, fits_in, is_carried_here}
use Rattle.sat_site.specs.Seen.{SiteSeen}
use Rattle.sat_store_example.specs.declared.fault.ReplicaFault.TheVariants as fault
use Rattle.sat_store_example.specs.Replicas.{ReplicaSeen, call_fault, sits_at}

one-group : (b : Bool) → ((b && true) && true) ≡ b
one-group true = refl
one-group false = refl

one-fits : (x : SiteSeen) (c : Carried) (n : ℕ) (v : List ℕ) → fits_in x (input.Write c (One n) (v ∷ [])) ≡ fits_in x (input.Read c n)
unfolding fits_here
one-fits x c n v = ap (λ (b : Bool). (is_carried_here x.shape c && b) && true) (one-group (nat_lt n (length x.shape.interest.replicas)))

-- and has the same fault
pub one_fault : (r : ReplicaSeen) (client : Client) (c : Carried) (n : ℕ) (v : List ℕ) → call_fault r client (input.Read c n) ≡ call_fault r client (input.Write c (One n) (v ∷ []))
one_fault r client c n v = ap (λ (b : Bool). if sits_at client.seat r.number then (if b then None else Some fault.Unfit) else Some fault.Seat) (sym (one-fits r.site c n v))
