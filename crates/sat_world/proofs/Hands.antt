-- What each act at a site hands it, by what the world keeps, and that it fits.
use Rattle.std.specs.Prelude.{◌≡◌, ◌<◌, ◌^◌, ℕ, Bool, true, false, List, [], ◌∷◌, length, get_or, Option, Some, None, slice_get, if◌then◌else◌, refl}
use Rattle.std.proofs.Common.{sym, subst, ap, ◌∙◌, arith}
use Rattle.std.proofs.lemmas.Bool.{and_from, lt-ltb}
use Rattle.sat_label.proofs.Truth.{same-number}
use Rattle.sat_label.specs.declared.carried.Carried.{Carried}
use Rattle.sat_label.specs.declared.items.Items.{Items}
use Rattle.sat_label.specs.declared.items.Items.TheVariants.{One}
use Rattle.sat_label.specs.declared.point.Point.{Point}
use Rattle.sat_label.specs.Grouped.{list_of}
use Rattle.sat_bulk.specs.Payloads.{Payload}
use Rattle.sat_act.specs.declared.act.Act.{Act}
use Rattle.sat_act.specs.declared.act.Act.TheVariants as act
use Rattle.sat_act.specs.declared.answer.Answer.{Answer}
use Rattle.sat_act.specs.declared.answer.Answer.TheVariants as ans
use Rattle.sat_act.specs.declared.answer.Refusal.TheVariants as why
use Rattle.sat_act.specs.declared.entry.Entry.{Entry}
use Rattle.sat_act.specs.Deployed.{Deployed}
use Rattle.sat_act.specs.Answers.{at_seat}
use Rattle.sat_act.specs.Done.{Written, of_client, write_in}
use Rattle.sat_act.specs.Ranges.{IsActOf}
use Rattle.sat_act.specs.Runs.{is_settle}
use Rattle.sat_act.proofs.Valid.{is_valid}
use Rattle.sat_client.specs.declared.client.Client.{Client}
use Rattle.sat_model.specs.State.{SiteState}
use Rattle.sat_model.specs.Fits.{fits}
use Rattle.sat_model.specs.Input.{SiteInput}
use Rattle.sat_model.specs.Input as given
use Rattle.sat_model.specs.Reply.{site_answer}
use Rattle.sat_model.specs.Replay.{given_at, given_seat, site_state}
use Rattle.sat_model.specs.World.{WorldState, world_given, world_answer, world_state, payload_from}
use Rattle.sat_model.proofs.Worlds.{gives-as-handed}
use Rattle.sat_model.proofs.Local.{given-fits}
use Rattle.sat_site.specs.declared.input.SiteInput as code
use Rattle.sat_site.specs.declared.input.SiteInput.TheVariants as input
use Rattle.sat_site.specs.Seen.{SiteSeen, IsSite}
use Rattle.sat_site.specs.Inputs.{input_of, fits_in, is_sized}
use Rattle.sat_site.specs.Stands.{StandsSite}
use Rattle.sat_world.proofs.Laws.{each-fits}
use Rattle.sat_world.specs.Seen.{WorldSeen, HasSite, HasClient}
use Rattle.sat_world.specs.Stands.{Stands}
use Rattle.sat_label.specs.declared.label.Kind.TheVariants as kind
use Rattle.sat_label.specs.Versions.{Version}
use Rattle.sat_gear.specs.Gear.{GearSeen, is_spent, stamped, version_of}
use Rattle.sat_site.specs.Changes.{gear_at, gear_for}
use Rattle.sat_site.specs.SiteSteps.{keeps_each, keeps_item, site_answers, write_answer, stamp_answer_of, read_answer, version_answer}
use Rattle.sat_laws.proofs.Labels.{seat-range, some_is}
use Rattle.sat_world.proofs.Handles.{is_still, is_told}
use Rattle.sat_world.proofs.Lists.{index-at}
use Rattle.sat_world.specs.Steps.{HandsIn, Hands, StepsAt, act_at, is_local, is_sending, number_at, IsNumber, WritesBy}
use Rattle.sat_world.specs.Worlds.{IsWorld}

-- ---- what fits

here-given : (i : ℕ) (x : SiteInput) → given_at i i x ≡ Some x
here-given i x = ap (λ (b : Bool). if b then Some x else None) (same-number i)

-- the machine's state of a site of the history
pub state-at : (d : Deployed) (h : List Entry) (i : ℕ) → (world_state d h).sites i ≡ site_state d h i
unfolding world_state
state-at d h i = refl

-- what an act hands a site of a world fits it
pub hands-fit : (w : WorldSeen) (a : Act) (i : ℕ) (given : code.SiteInput) (x : SiteSeen) → IsWorld w → IsActOf w.deployment a → Hands w a i given → HasSite w i x → IsSite x → fits_in x given ≡ true
hands-fit w a i given x k b h at sound =
    each-fits x given w.deployment i ((world_state w.deployment k.history).sites i) k.frame.deployment sound (k.stands.sites i x at) ∙
    and_from (fits w.deployment i ((world_state w.deployment k.history).sites i) (input_of given)) (is_sized x given)
    (ap (λ (s : SiteState). fits w.deployment i s (input_of given)) (state-at w.deployment k.history i) ∙
    given-fits w.deployment k.history a i (input_of given) (is_valid w.deployment k.frame.deployment) k.run b
    (sym (gives-as-handed w.deployment k.history a i (is_valid w.deployment k.frame.deployment) k.run) ∙ ((h.hands (world_state w.deployment k.history) k.stands).given i ∙ here-given i (input_of given))))
    (h.sized x at)

-- ---- each act

-- what an act at one site hands it
pub hands-at : (w : WorldSeen) (i : ℕ) (given : code.SiteInput) → is_settle (act_at i given) ≡ false → Hands w (act_at i given) i given
unfolding world_given world_answer
hands-at w i (input.Tick g ts) e = record { hands = λ s st. record { given = λ k. refl; answer = refl }; sized = λ x at. refl }
hands-at w i input.Gather e = record { hands = λ s st. record { given = λ k. refl; answer = refl }; sized = λ x at. refl }
hands-at w i input.Emit e = record { hands = λ s st. record { given = λ k. refl; answer = refl }; sized = λ x at. refl }
hands-at w i input.Pulse e = record { hands = λ s st. record { given = λ k. refl; answer = refl }; sized = λ x at. refl }
hands-at w i (input.Beat j) e = record { hands = λ s st. record { given = λ k. refl; answer = refl }; sized = λ x at. refl }
hands-at w i input.Stamp e = record { hands = λ s st. record { given = λ k. refl; answer = refl }; sized = λ x at. refl }
hands-at w i input.Close e = record { hands = λ s st. record { given = λ k. refl; answer = refl }; sized = λ x at. refl }
hands-at w i input.Fall e = record { hands = λ s st. record { given = λ k. refl; answer = refl }; sized = λ x at. refl }
hands-at w i input.Advance e = record { hands = λ s st. record { given = λ k. refl; answer = refl }; sized = λ x at. refl }
hands-at w i _ e = absurd (cc)

-- acts at one site are no settles
pub local-plain : (a : Act) → is_local a ≡ true → is_settle a ≡ false
local-plain act.Settle e = absurd (cc)
local-plain _ e = refl

pub sending-plain : (a : Act) → is_sending a ≡ true → is_settle a ≡ false
sending-plain act.Settle e = absurd (cc)
sending-plain _ e = refl

-- ---- what writes

-- an act that writes is handed to its client's seat
write-given : (d : Deployed) (s : WorldState) (a : Act) (w : Written) (k : ℕ) → write_in a ≡ Some w → world_given d s a k ≡ given_seat (s.clients w.client).seat k (given.Write (s.clients w.client).carried w.items w.values)
unfolding world_given
write-given d s (act.Write c n v) w k e = ap (λ (y : Written). given_seat (s.clients y.client).seat k (given.Write (s.clients y.client).carried y.items y.values)) (some_is (record { client = c; items = One n; values = v ∷ [] }) w e)
write-given d s (act.Writes c items values) w k e = ap (λ (y : Written). given_seat (s.clients y.client).seat k (given.Write (s.clients y.client).carried y.items y.values)) (some_is (record { client = c; items = items; values = values }) w e)
write-given d s _ w k e = absurd (cc)

-- and answered there
write-answers : (d : Deployed) (s : WorldState) (a : Act) (w : Written) → write_in a ≡ Some w → world_answer d s a ≡ at_seat (s.clients w.client).seat (λ i. site_answer d i (s.sites i) (given.Write (s.clients w.client).carried w.items w.values))
unfolding world_answer
write-answers d s (act.Write c n v) w e =
    ap (λ (y : Written). at_seat (s.clients y.client).seat (λ i. site_answer d i (s.sites i) (given.Write (s.clients y.client).carried y.items y.values))) (some_is (record { client = c; items = One n; values = v ∷ [] }) w e)
write-answers d s (act.Writes c items values) w e =
    ap (λ (y : Written). at_seat (s.clients y.client).seat (λ i. site_answer d i (s.sites i) (given.Write (s.clients y.client).carried y.items y.values))) (some_is (record { client = c; items = items; values = values }) w e)
write-answers d s _ w e = absurd (cc)

-- it is its client's, no settle, and shows nothing
pub write-of : (a : Act) (w : Written) → write_in a ≡ Some w → of_client a ≡ Some w.client
write-of (act.Write c n v) w e = ap (λ (y : Written). Some y.client) (some_is (record { client = c; items = One n; values = v ∷ [] }) w e)
write-of (act.Writes c items values) w e = ap (λ (y : Written). Some y.client) (some_is (record { client = c; items = items; values = values }) w e)
write-of _ w e = absurd (cc)

pub write-plain : (a : Act) (w : Written) → write_in a ≡ Some w → is_settle a ≡ false
write-plain act.Settle w e = absurd (cc)
write-plain _ w e = refl

pub write-still : (a : Act) (w : Written) → write_in a ≡ Some w → is_still a ≡ true
write-still (act.Write c n v) w e = refl
write-still (act.Writes c items values) w e = refl
write-still _ w e = absurd (cc)

-- the client is one of the deployment's
client-known : (d : Deployed) (a : Act) (w : Written) → write_in a ≡ Some w → IsActOf d a → w.client < length d.clients
client-known d (act.Write c n v) w e k = subst (λ (y : Written). y.client < length d.clients) (some_is (record { client = c; items = One n; values = v ∷ [] }) w e) k.0
client-known d (act.Writes c items values) w e k = subst (λ (y : Written). y.client < length d.clients) (some_is (record { client = c; items = items; values = values }) w e) k.0
client-known d _ w e k = absurd (cc)

pub write-client : (d : Deployed) (c : ℕ) (items : Items) (values : List (List ℕ)) (a : Act) → WritesBy d c items values a → c < length d.clients
write-client d c items values a h = client-known d a (record { client = c; items = items; values = values }) h.writes h.act

-- a client's write and read, at its seat
module _ (w : WorldSeen) (c : ℕ) (x : Client) (i : ℕ) (at : HasClient w c x) (seat : x.seat ≡ Some i) where
  pub seated : (s : WorldState) → Stands w s → (s.clients c).seat ≡ Some i
  seated s st = sym (st.clients c x at).seat ∙ seat

  pub carries : (s : WorldState) → Stands w s → (s.clients c).carried ≡ x.carried
  carries s st = sym (st.clients c x at).carried

  pub write-hands : (a : Act) (items : Items) (values : List (List ℕ)) → write_in a ≡ Some (record { client = c; items = items; values = values }) → Hands w a i (input.Write x.carried items values)
  write-hands a items values e = record {
    hands = λ s st. record {
      given = λ k. write-given w.deployment s a (record { client = c; items = items; values = values }) k e ∙ (λ j. given_seat (seated s st j) k (given.Write (carries s st j) items values));
      answer = write-answers w.deployment s a (record { client = c; items = items; values = values }) e ∙ (λ j. at_seat (seated s st j) (λ i. site_answer w.deployment i (s.sites i) (given.Write (carries s st j) items values)));
    };
    sized = λ x at. refl;
  }

  pub read-hands : (n : ℕ) → Hands w (act.Read c n) i (input.Read x.carried n)
  unfolding world_given world_answer
  read-hands n = record {
    hands = λ s st. record {
      given = λ k j. given_seat (seated s st j) k (given.Read (carries s st j) n);
      answer = λ j. at_seat (seated s st j) (λ i. site_answer w.deployment i (s.sites i) (given.Read (carries s st j) n));
    };
    sized = λ x at. refl;
  }

-- a client without a seat is handed to no site
module _ (w : WorldSeen) (c : ℕ) (x : Client) (at : HasClient w c x) (none : x.seat ≡ None) where
  pub unseated : (s : WorldState) → Stands w s → (s.clients c).seat ≡ None
  unseated s st = sym (st.clients c x at).seat ∙ none

  pub write-none : (a : Act) (items : Items) (values : List (List ℕ)) → write_in a ≡ Some (record { client = c; items = items; values = values }) → (s : WorldState) → Stands w s → (ans.Refused why.NoSession ≡ world_answer w.deployment s a) × ((k : ℕ) → world_given w.deployment s a k ≡ None)
  write-none a items values e s st = (
    sym (write-answers w.deployment s a (record { client = c; items = items; values = values }) e ∙ (λ j. at_seat (unseated s st j) (λ i. site_answer w.deployment i (s.sites i) (given.Write (s.clients c).carried items values)))),
    λ k. write-given w.deployment s a (record { client = c; items = items; values = values }) k e ∙ (λ j. given_seat (unseated s st j) k (given.Write (s.clients c).carried items values)),
  )

  pub read-none : (n : ℕ) (s : WorldState) → Stands w s → (ans.Refused why.NoSession ≡ world_answer w.deployment s (act.Read c n)) × ((k : ℕ) → world_given w.deployment s (act.Read c n) k ≡ None)
  unfolding world_given world_answer
  read-none n s st = (sym (λ j. at_seat (unseated s st j) (λ i. site_answer w.deployment i (s.sites i) (given.Read (s.clients c).carried n))), λ k j. given_seat (unseated s st j) k (given.Read (s.clients c).carried n))

-- ---- payloads

-- what stands at a place of a lane from a site, in each state that it stands for
abbrev pub IsInLane : SiteSeen → ℕ → ℕ → ℕ → Option Payload → Type 0
IsInLane x gear to n o = (d : Deployed) (k : ℕ) (s : SiteState) → StandsSite d k x s → slice_get ((s.gears gear).lanes to) n ≡ o

bulk-given : (d : Deployed) (s : WorldState) (i g j n : ℕ) (o : Option ℕ) (p : Payload) → n ≡ number_at (s.sites j) i g o → slice_get (((s.sites i).gears g).lanes j) n ≡ Some p → HandsIn d s (act.Bulk i g j o) j (given.Bulk i g n p)
unfolding world_given world_answer
bulk-given d s i g j n o p e f = record {
  given = λ k. ap (λ (m : ℕ). elim (payload_from s i g j m) [ None ↦ None | Some p ↦ given_at j k (given.Bulk i g m p) ]) (sym e) ∙ ap (λ (o : Option Payload). elim o [ None ↦ None | Some p ↦ given_at j k (given.Bulk i g n p) ]) f;
  answer = ap (λ (m : ℕ). elim (payload_from s i g j m) [ None ↦ ans.Refused why.NoSuch | Some p ↦ site_answer d j (s.sites j) (given.Bulk i g m p) ]) (sym e) ∙ ap (λ (o : Option Payload). elim o [ None ↦ ans.Refused why.NoSuch | Some p ↦ site_answer d j (s.sites j) (given.Bulk i g n p) ]) f;
}

pub bulk-hands : (w : WorldSeen) (i g j n : ℕ) (o : Option ℕ) (p : Payload) (x y : SiteSeen) → HasSite w i x → HasSite w j y → IsNumber y i g o n → IsInLane x g j n (Some p) → n < 2 ^ 63 → Hands w (act.Bulk i g j o) j (input.Bulk i g n p)
bulk-hands w i g j n o p x y a b number lane small = record {
  hands = λ s st. bulk-given w.deployment s i g j n o p (number w.deployment j (s.sites j) (st.sites j y b)) (lane w.deployment i (s.sites i) (st.sites i x a));
  sized = λ z at. lt-ltb n (2 ^ 63) small;
}

pub bulk-none : (w : WorldSeen) (i g j n : ℕ) (asked : Option ℕ) (x y : SiteSeen) → HasSite w i x → HasSite w j y → IsNumber y i g asked n → IsInLane x g j n None → (s : WorldState) → Stands w s →
    (ans.Refused why.NoSuch ≡ world_answer w.deployment s (act.Bulk i g j asked)) × ((k : ℕ) → world_given w.deployment s (act.Bulk i g j asked) k ≡ None)
unfolding world_given world_answer
bulk-none w i g j n asked x y a b number lane s st =
    let e : n ≡ number_at (s.sites j) i g asked = number w.deployment j (s.sites j) (st.sites j y b) in
    let f : slice_get (((s.sites i).gears g).lanes j) n ≡ None = lane w.deployment i (s.sites i) (st.sites i x a) in
    let q : payload_from s i g j (number_at (s.sites j) i g asked) ≡ None = ap (payload_from s i g j) (sym e) ∙ f in (
      sym (ap (λ (o : Option Payload). elim o [ None ↦ ans.Refused why.NoSuch | Some p ↦ site_answer w.deployment j (s.sites j) (given.Bulk i g (number_at (s.sites j) i g asked) p) ]) q),
      λ k. ap (λ (o : Option Payload). elim o [ None ↦ None | Some p ↦ given_at j k (given.Bulk i g (number_at (s.sites j) i g asked) p) ]) q,
    )

-- ---- as the code asks it

-- the sites that the code hands something find that it fits
pub fit-here : (w v : WorldSeen) (a : Act) (i : ℕ) (given : code.SiteInput) → w ≡ v → IsWorld w → IsActOf v.deployment a → Hands w a i given → (x : SiteSeen) → slice_get w.sites i ≡ Some x → IsSite x → fits_in x given ≡ true
fit-here w v a i given e k b h x at sound = hands-fit w a i given x k (subst (λ (v : WorldSeen). IsActOf v.deployment a) (sym e) b) h at sound

-- a place of the sites
pub site-within : (w v : WorldSeen) (i : ℕ) → w ≡ v → IsWorld w → i < v.deployment.sites → i < length w.sites
site-within w v i e k lt = let a : length w.sites ≡ w.deployment.sites = k.frame.sites in let b : w.deployment.sites ≡ v.deployment.sites = ap (λ (w : WorldSeen). w.deployment.sites) e in omega arith

pub site-at : (w v : WorldSeen) (i : ℕ) (x : SiteSeen) → w ≡ v → IsWorld w → i < v.deployment.sites → x ≡ get_or w.sites i x → HasSite w i x
site-at w v i x e k lt is = index-at w.sites i x (site-within w v i e k lt) is

pub client-at : (w v : WorldSeen) (c : ℕ) (x : Client) → w ≡ v → IsWorld w → c < length v.deployment.clients → x ≡ get_or w.clients c x → HasClient w c x
client-at w v c x e k lt is =
    let a : length w.clients ≡ length w.deployment.clients = k.frame.clients in
    let b : length w.deployment.clients ≡ length v.deployment.clients = ap (λ (w : WorldSeen). length w.deployment.clients) e in
    index-at w.clients c x (omega arith) is

-- the seat of a client is a site
pub seat-within : (w : WorldSeen) (c i : ℕ) (x : Client) → IsWorld w → HasClient w c x → x.seat ≡ Some i → i < length w.sites
unfolding world_state
seat-within w c i x k at e =
    let lt : i < w.deployment.sites = seat-range w.deployment k.history c i (is_valid w.deployment k.frame.deployment) k.run (sym (k.stands.clients c x at).seat ∙ e) in
    let a : length w.sites ≡ w.deployment.sites = k.frame.sites in omega arith

-- what a write or a read answers is told to its client
write-tells : (b : Bool) (o : Option GearSeen) (p : Point) (items : Items) → is_told (write_answer b o p items) ≡ true
write-tells false o p items = refl
write-tells true None p items = refl
write-tells true (Some gear) p items = go (is_spent gear p)
  where
    go : (b : Bool) → is_told (stamp_answer_of b (stamped gear p (kind.Update items))) ≡ true
    go true = refl
    go false = refl

read-tells : (b : Bool) (o : Option GearSeen) (n : ℕ) → is_told (read_answer b o n) ≡ true
read-tells false o n = refl
read-tells true None n = refl
read-tells true (Some gear) n = go (version_of gear n)
  where
    go : (o : Option Version) → is_told (version_answer o) ≡ true
    go None = refl
    go (Some v) = refl

pub write-told : (xs ys : List SiteSeen) (i : ℕ) (seen : Carried) (items : Items) (values : List (List ℕ)) (r : Answer) → StepsAt xs i (input.Write seen items values) r ys → is_told r ≡ true
unfolding site_answers
write-told xs ys i seen items values r h = ap is_told h.answers ∙ write-tells (keeps_each h.before (list_of items)) (slice_get h.before.gears (gear_for h.before items)) seen.point items

pub read-told : (xs ys : List SiteSeen) (i : ℕ) (seen : Carried) (n : ℕ) (r : Answer) → StepsAt xs i (input.Read seen n) r ys → is_told r ≡ true
unfolding site_answers
read-told xs ys i seen n r h = ap is_told h.answers ∙ read-tells (keeps_item h.before n) (slice_get h.before.gears (gear_at h.before n)) n

-- ---- acts at one site

-- it is one of the deployment's
pub local-site : (d : Deployed) (i : ℕ) (given : code.SiteInput) → is_local (act_at i given) ≡ true → IsActOf d (act_at i given) → i < d.sites
local-site d i (input.Tick g t) e b = b.0
local-site d i input.Gather e b = b
local-site d i (input.Beat j) e b = b.0
local-site d i input.Stamp e b = b
local-site d i input.Fall e b = b
local-site d i input.Advance e b = b
local-site d i _ e b = absurd (cc)
