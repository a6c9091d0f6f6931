-- A client's write of one item or several: what it does to a world, whichever act it is.
use Rattle.std.specs.Prelude.{◌≡◌, ◌<◌, ℕ, true, List, [], ◌∷◌, IfOk, length, set, get_or, Some, None, slice_get}
use Rattle.std.proofs.Common.{Result, Ok, Err, ap, subst, sym}
use Rattle.std.specs.declared.alloc.AllocError.{AllocError}
use Rattle.sat_label.specs.declared.items.Items.{Items}
use Rattle.sat_label.specs.declared.items.Items.TheVariants.{One}
use Rattle.sat_act.specs.declared.act.Act.{Act}
use Rattle.sat_act.specs.declared.act.Act.TheVariants as act
use Rattle.sat_act.specs.declared.answer.Answer.{Answer}
use Rattle.sat_act.specs.declared.answer.Answer.TheVariants as ans
use Rattle.sat_act.specs.declared.answer.Refusal.TheVariants as why
use Rattle.sat_act.specs.Deployed.{Deployed}
use Rattle.sat_act.specs.Done.{Written}
use Rattle.sat_act.specs.Ranges.{IsActOf}
use Rattle.sat_client.specs.declared.client.Client.{Client}
use Rattle.sat_site.specs.declared.input.SiteInput.TheVariants as input
use Rattle.sat_site.specs.Inputs.{fits_in}
use Rattle.sat_site.specs.Seen.{SiteSeen, IsSite}
use Rattle.sat_world.specs.Applies.{Applies}
use Rattle.sat_world.specs.Seen.{WorldSeen, HasClient}
use Rattle.sat_world.specs.Steps.{Goes, Hands, StepsAt, WritesBy, told}
use Rattle.sat_world.specs.Worlds.{IsWorld}
use Rattle.sat_world.proofs.Counted.{plainly, write-unshown}
use Rattle.sat_world.proofs.Goes.{quiet-goes, use-goes}
use Rattle.sat_world.proofs.Hands.{client-at, fit-here, seat-within, write-client, write-hands, write-none, write-of, write-plain, write-still, write-told}
use Rattle.sat_world.proofs.Runs.{seen-as, stays}

module _ (w v : WorldSeen) (c : ℕ) (items : Items) (values : List (List ℕ)) (a : Act) (x : Client) (e : w ≡ v) (k : IsWorld w) (b : WritesBy v.deployment c items values a) (is : x ≡ get_or w.clients c x) where
  abbrev whole : Written
  whole = record { client = c; items = items; values = values }

  at : HasClient w c x
  at = client-at w v c x e k (write-client v.deployment c items values a b) is

  -- the client has no seat
  pub writes-nowhere : x.seat ≡ None → Applies v a (ans.Refused why.NoSession) v
  writes-nowhere none =
      plainly w v v a (ans.Refused why.NoSession) e k b.act (write-plain a whole b.writes) (write-unshown a whole b.writes)
      (subst (λ (v : WorldSeen). Goes v a (ans.Refused why.NoSession) v) e (quiet-goes w a why.NoSession k.frame (write-none w c x at none a items values b.writes)))

  module _ (i : ℕ) (seat : x.seat ≡ Some i) where
    pub seat-there : i < length w.sites
    seat-there = seat-within w c i x k at seat

    handed : Hands w a i (input.Write x.carried items values)
    handed = write-hands w c x i at seat a items values b.writes

    -- what its seat is handed fits
    pub write-fits : (z : SiteSeen) → slice_get w.sites i ≡ Some z → IsSite z → fits_in z (input.Write x.carried items values) ≡ true
    write-fits = fit-here w v a i (input.Write x.carried items values) e k b.act handed

    -- the site and the client are then the machine's
    module _ (r : Answer) (ys : List SiteSeen) (now : List Client) (h : StepsAt w.sites i (input.Write x.carried items values) r ys) (tells : (y : Client) → slice_get w.clients c ≡ Some y → now ≡ set w.clients c (told r y)) where
      goes : Goes w a r (record w { sites = ys; clients = now })
      goes =
          use-goes w a c x i (input.Write x.carried items values) r ys now k.frame (write-still a whole b.writes) (write-of a whole b.writes) at
          (write-told w.sites ys i x.carried items values r h) handed h (tells x at)

      pub write-stays : IsWorld (record w { sites = ys; clients = now })
      write-stays = stays w v (record w { sites = ys; clients = now }) a r e k b.act (write-plain a whole b.writes) goes

      pub write-applies : Applies v a r (record w { sites = ys; clients = now })
      write-applies = plainly w v (record w { sites = ys; clients = now }) a r e k b.act (write-plain a whole b.writes) (write-unshown a whole b.writes) (seen-as w v (record w { sites = ys; clients = now }) a r e goes)

-- ---- as the calls of one act say it

pub writes-one : (d : Deployed) (c n : ℕ) (value : List ℕ) (values : List (List ℕ)) → values ≡ value ∷ [] → IsActOf d (act.Write c n value) → WritesBy d c (One n) values (act.Write c n value)
writes-one d c n value values e k = record { writes = ap (λ (vs : List (List ℕ)). Some (record { client = c; items = One n; values = vs })) (sym e); act = k }

pub writes-all : (d : Deployed) (c : ℕ) (items : Items) (given values : List (List ℕ)) → values ≡ given → IsActOf d (act.Writes c items given) → WritesBy d c items values (act.Writes c items given)
writes-all d c items given values e k = record { writes = ap (λ (vs : List (List ℕ)). Some (record { client = c; items = items; values = vs })) (sym e); act = k }

pub by-act : (w v : WorldSeen) (c : ℕ) (items : Items) (values : List (List ℕ)) (a : Act) (x : Result Answer AllocError) → WritesBy w.deployment c items values a → IfOk x (λ r. (a : Act) → WritesBy w.deployment c items values a → Applies w a r v) →
    IfOk x (λ r. Applies w a r v)
by-act w v c items values a (Ok r) b f = f a b
by-act w v c items values a (Err y) b f = tt
