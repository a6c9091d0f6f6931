-- Which site each act reaches, and what it is handed there, in each history that a world stands for.
use Rattle.std.specs.Prelude.{◌≡◌, ◌<◌, ◌^◌, ◌&&◌, ◌==◌, ℕ, Bool, true, false, nat_le, nat_lt, List, length, get_or, Option, Some, None, slice_get, if◌then◌else◌, refl}
use Rattle.std.proofs.Common.{IfOk, Result, sym, subst, ap, ◌∙◌, arith}
use Rattle.std.specs.declared.alloc.AllocError.{AllocError}
use Rattle.std.proofs.lemmas.Bool.{and_from}
use Rattle.sat_label.proofs.Truth.{same-number}
use Rattle.sat_label.specs.declared.items.Items.{Items}
use Rattle.sat_act.specs.declared.act.Act.{Act}
use Rattle.sat_act.specs.declared.act.Act.TheVariants as act
use Rattle.sat_act.specs.declared.entry.Entry.{Entry}
use Rattle.sat_act.specs.Deployed.{Deployed}
use Rattle.sat_act.specs.Done.{Written, write_in}
use Rattle.sat_act.specs.Ranges.{IsActOf}
use Rattle.sat_act.specs.Runs.{IsRun, is_settle}
use Rattle.sat_act.proofs.Valid.{is_valid}
use Rattle.sat_client.specs.declared.client.Client.{Client}
use Rattle.sat_model.specs.Fits.{fits}
use Rattle.sat_model.specs.Input.{SiteInput}
use Rattle.sat_model.specs.Input as given
use Rattle.sat_model.specs.Replay.{given_at, given_seat, handed, site_state}
use Rattle.sat_model.specs.World.{WorldState, world_given, world_state}
use Rattle.sat_model.proofs.Worlds.{gives-as-handed}
use Rattle.sat_model.proofs.Local.{given-fits}
use Rattle.sat_site.specs.declared.input.SiteInput as code
use Rattle.sat_site.specs.declared.input.SiteInput.TheVariants as input
use Rattle.sat_site.specs.Changes.{made_for}
use Rattle.sat_site.specs.Seen.{SiteSeen}
use Rattle.sat_site.specs.Inputs.{input_of, is_sized}
use Rattle.sat_site.specs.Stands.{StandsSite}
use Rattle.sat_world.specs.Reaches.{Reaches, handed_alone, is_clock}
use Rattle.sat_world.specs.Seen.{WorldSeen, HasClient}
use Rattle.sat_world.specs.Stands.{Stands, StandsFor}
use Rattle.sat_world.specs.Steps.{Hands, IsNumber, WritesBy, act_at}
use Rattle.sat_world.specs.Worlds.{IsWorld}
use Rattle.sat_world.proofs.Beats.{no-beat, note-at}
use Rattle.sat_world.proofs.Hands.{IsInLane, bulk-none, client-at, hands-at, read-hands, read-none, seat-within, seated, site-at, unseated, write-client, write-hands, write-none}
use Rattle.sat_world.proofs.Laws.{each-fits}
use Rattle.sat_world.proofs.Lists.{there}
use Rattle.sat_world.proofs.Seats.{attach-handed, move-handed}

-- ---- sites that stand for one state

-- whether a site can take the numbers of an input is the same of two sites of one shape
sized-same : (x y : SiteSeen) (given : code.SiteInput) → x.shape ≡ y.shape → length x.views.stamp ≡ length y.views.stamp → is_sized x given ≡ true → is_sized y given ≡ true
sized-same x y (input.Bulk from gear number p) s v e = e
sized-same x y (input.BeatIn from number beat) s v e = sym (λ i. nat_lt number (2 ^ 63) && ((length beat.counts == (s i).gears) && nat_le (length beat.closes) (v i))) ∙ e
sized-same x y _ s v e = refl

alone-is : (d : Deployed) (h : List Entry) (a : Act) (k : ℕ) → is_clock a ≡ false → handed_alone d h a k ≡ handed d h a k
alone-is d h act.Clock k e = absurd (cc)
alone-is d h _ k e = refl

given-here : (i : ℕ) (x : SiteInput) → given_at i i x ≡ Some x
given-here i x = ap (λ (b : Bool). if b then Some x else None) (same-number i)

-- ---- each history

module _ (w : WorldSeen) (a : Act) (k : IsWorld w) (plain : is_clock a ≡ false) where
  reaches-at : (i : ℕ) (given : code.SiteInput) → IsActOf w.deployment a → i < w.deployment.sites → Hands w a i given → Reaches w a (Some (i, given))
  reaches-at i given b lt hands = λ h run st. record {
    site = lt;
    hands = λ n. alone-is w.deployment h a n plain ∙ there-given h run st n;
    fits = λ x sound stands.
        each-fits x given w.deployment i (site_state w.deployment h i) k.frame.deployment sound stands ∙
        and_from (fits w.deployment i (site_state w.deployment h i) (input_of given)) (is_sized x given)
        (given-fits w.deployment h a i (input_of given) (is_valid w.deployment k.frame.deployment) run b (there-given h run st i ∙ given-here i (input_of given)))
        (takes h st x stands);
  }
    where
      there-given : (h : List Entry) → IsRun w.deployment h → StandsFor w h → (n : ℕ) → handed w.deployment h a n ≡ given_at i n (input_of given)
      there-given h run st n = sym (gives-as-handed w.deployment h a n (is_valid w.deployment k.frame.deployment) run) ∙ (hands.hands (world_state w.deployment h) st.parts).given n

      inside : i < length w.sites
      inside = let e : length w.sites ≡ w.deployment.sites = k.frame.sites in omega (arith, e, lt)

      takes : (h : List Entry) → StandsFor w h → (x : SiteSeen) → StandsSite w.deployment i x (site_state w.deployment h i) → is_sized x given ≡ true
      takes h st x stands =
          let y : (y : SiteSeen) × (slice_get w.sites i ≡ Some y) = there w.sites i inside in
          let own : StandsSite w.deployment i y.0 ((world_state w.deployment h).sites i) = st.parts.sites i y.0 y.1 in
          sized-same y.0 x given (own.shape ∙ sym stands.shape) (own.views.count ∙ sym stands.views.count) (hands.sized y.0 y.1)

  reaches-none : ((s : WorldState) → Stands w s → (n : ℕ) → world_given w.deployment s a n ≡ None) → Reaches w a None
  reaches-none none = λ h run st n. alone-is w.deployment h a n plain ∙ (sym (gives-as-handed w.deployment h a n (is_valid w.deployment k.frame.deployment) run) ∙ none (world_state w.deployment h) st.parts n)

-- as the code asks it
pub reach : (w v : WorldSeen) (a : Act) (i : ℕ) (given : code.SiteInput) → w ≡ v → IsWorld w → IsActOf v.deployment a → is_clock a ≡ false → i < v.deployment.sites → Hands w a i given → Reaches v a (Some (i, given))
reach w v a i given e k b plain lt hands =
    subst (λ (v : WorldSeen). Reaches v a (Some (i, given))) e
    (reaches-at w a k plain i given (subst (λ (v : WorldSeen). IsActOf v.deployment a) (sym e) b) (subst (λ (v : WorldSeen). i < v.deployment.sites) (sym e) lt) hands)

pub reach-none : (w v : WorldSeen) (a : Act) → w ≡ v → IsWorld w → is_clock a ≡ false → ((s : WorldState) → Stands w s → (n : ℕ) → world_given w.deployment s a n ≡ None) → Reaches v a None
reach-none w v a e k plain none = subst (λ (v : WorldSeen). Reaches v a None) e (reaches-none w a k plain none)

-- the act by its kind
pub reach-as : (v : WorldSeen) (a b : Act) (o : Option (ℕ × code.SiteInput)) → a ≡ b → Reaches v b o → Reaches v a o
reach-as v a b o is r = subst (λ (a : Act). Reaches v a o) (sym is) r

pub reach-in : (v : WorldSeen) (a b : Act) (x : Result (Option (ℕ × code.SiteInput)) AllocError) → a ≡ b → IfOk x (λ o. Reaches v b o) → IfOk x (λ o. Reaches v a o)
reach-in v a b x is r = subst (λ (a : Act). IfOk x (λ o. Reaches v a o)) (sym is) r

-- ---- acts at one site

here-site : (d : Deployed) (i : ℕ) (given : code.SiteInput) → is_settle (act_at i given) ≡ false → IsActOf d (act_at i given) → i < d.sites
here-site d i (input.Tick g t) e b = b.0
here-site d i input.Gather e b = b
here-site d i input.Emit e b = b
here-site d i input.Pulse e b = b
here-site d i (input.Beat j) e b = b.0
here-site d i input.Stamp e b = b
here-site d i input.Close e b = b
here-site d i input.Fall e b = b
here-site d i input.Advance e b = b
here-site d i _ e b = absurd (cc)

here-plain : (i : ℕ) (given : code.SiteInput) → is_settle (act_at i given) ≡ false → is_clock (act_at i given) ≡ false
here-plain i (input.Tick g t) e = refl
here-plain i input.Gather e = refl
here-plain i input.Emit e = refl
here-plain i input.Pulse e = refl
here-plain i (input.Beat j) e = refl
here-plain i input.Stamp e = refl
here-plain i input.Close e = refl
here-plain i input.Fall e = refl
here-plain i input.Advance e = refl
here-plain i _ e = absurd (cc)

pub reach-here : (w v : WorldSeen) (a : Act) (i : ℕ) (given : code.SiteInput) → w ≡ v → IsWorld w → IsActOf v.deployment a → a ≡ act_at i given → is_settle (act_at i given) ≡ false → Reaches v a (Some (i, given))
reach-here w v a i given e k b is plain =
    let c : IsActOf v.deployment (act_at i given) = subst (λ (a : Act). IsActOf v.deployment a) is b in
    reach-as v a (act_at i given) (Some (i, given)) is (reach w v (act_at i given) i given e k c (here-plain i given plain) (here-site v.deployment i given plain c) (hands-at w i given plain))

-- ---- acts at none

abbrev is_nowhere : Act → Bool
is_nowhere act.Clock = true
is_nowhere (act.Leave c) = true
is_nowhere (act.Hop f u z) = true
is_nowhere (act.Kill f z) = true
is_nowhere act.Settle = true
is_nowhere _ = false

nowhere : (v : WorldSeen) (a : Act) → is_nowhere a ≡ true → Reaches v a None
unfolding handed
nowhere v act.Clock e = λ h run st k. refl
nowhere v (act.Leave c) e = λ h run st k. refl
nowhere v (act.Hop f u z) e = λ h run st k. refl
nowhere v (act.Kill f z) e = λ h run st k. refl
nowhere v act.Settle e = λ h run st k. refl
nowhere v _ e = absurd (cc)

pub reach-nowhere : (v : WorldSeen) (a b : Act) → a ≡ b → is_nowhere b ≡ true → Reaches v a None
reach-nowhere v a b is e = reach-as v a b None is (nowhere v b e)

-- ---- clients

write-no-clock : (a : Act) (w : Written) → write_in a ≡ Some w → is_clock a ≡ false
write-no-clock act.Clock w e = absurd (cc)
write-no-clock _ w e = refl

module _ (w v : WorldSeen) (c : ℕ) (x : Client) (e : w ≡ v) (k : IsWorld w) (is : x ≡ get_or w.clients c x) where
  at : c < length v.deployment.clients → HasClient w c x
  at lt = client-at w v c x e k lt is

  seat-site : (i : ℕ) → c < length v.deployment.clients → x.seat ≡ Some i → i < v.deployment.sites
  seat-site i lt seat =
      let inside : i < length w.sites = seat-within w c i x k (at lt) seat in
      let a : length w.sites ≡ w.deployment.sites = k.frame.sites in
      let b : w.deployment.sites ≡ v.deployment.sites = ap (λ (w : WorldSeen). w.deployment.sites) e in omega arith

  module _ (items : Items) (values : List (List ℕ)) (a : Act) (b : WritesBy v.deployment c items values a) where
    abbrev whole : Written
    whole = record { client = c; items = items; values = values }

    known : c < length v.deployment.clients
    known = write-client v.deployment c items values a b

    pub reach-write : (i : ℕ) → x.seat ≡ Some i → Reaches v a (Some (i, input.Write x.carried items values))
    reach-write i seat = reach w v a i (input.Write x.carried items values) e k b.act (write-no-clock a whole b.writes) (seat-site i known seat) (write-hands w c x i (at known) seat a items values b.writes)

    pub reach-no-write : x.seat ≡ None → Reaches v a None
    reach-no-write none = reach-none w v a e k (write-no-clock a whole b.writes) (λ s st n. (write-none w c x (at known) none a items values b.writes s st).1 n)

  module _ (n : ℕ) (b : IsActOf v.deployment (act.Read c n)) where
    pub reach-read : (i : ℕ) → x.seat ≡ Some i → Reaches v (act.Read c n) (Some (i, input.Read x.carried n))
    reach-read i seat = reach w v (act.Read c n) i (input.Read x.carried n) e k b refl (seat-site i b.0 seat) (read-hands w c x i (at b.0) seat n)

    pub reach-no-read : x.seat ≡ None → Reaches v (act.Read c n) None
    reach-no-read none = reach-none w v (act.Read c n) e k refl (λ s st m. (read-none w c x (at b.0) none n s st).1 m)

  module _ (j : ℕ) where
    pub reach-move : (i : ℕ) → IsActOf v.deployment (act.Move c j) → x.seat ≡ Some i → Reaches v (act.Move c j) (Some (i, input.Move x.carried j))
    reach-move i b seat = reach w v (act.Move c j) i (input.Move x.carried j) e k b refl (seat-site i b.0 seat) (move-handed w v c x e k b.0 is i j seat)

    pub reach-no-move : IsActOf v.deployment (act.Move c j) → x.seat ≡ None → Reaches v (act.Move c j) None
    unfolding world_given
    reach-no-move b none = reach-none w v (act.Move c j) e k refl (λ s st n. (λ i. given_seat (unseated w c x (at b.0) none s st i) n (given.Move (s.clients c).carried j)))

    pub reach-attach : IsActOf v.deployment (act.Attach c j) → x.seat ≡ None → Reaches v (act.Attach c j) (Some (j, input.Attach x.carried))
    reach-attach b none = reach w v (act.Attach c j) j (input.Attach x.carried) e k b refl b.1 (attach-handed w v c x e k b.0 is j none)

    pub reach-no-attach : (i : ℕ) → IsActOf v.deployment (act.Attach c j) → x.seat ≡ Some i → Reaches v (act.Attach c j) None
    unfolding world_given
    reach-no-attach i b seat = reach-none w v (act.Attach c j) e k refl
        (λ s st n. ap (λ (o : Option ℕ). elim o [ None ↦ given_at j n (given.Attach (s.clients c).carried) | Some i ↦ None ]) (seated w c x i (at b.0) seat s st))

-- ---- payloads and beats that are not there

pub reach-no-bulk : (w v : WorldSeen) (i g j n : ℕ) (asked : Option ℕ) (x y : SiteSeen) → w ≡ v → IsWorld w → i < v.deployment.sites → j < v.deployment.sites → x ≡ get_or w.sites i x → y ≡ get_or w.sites j y → IsNumber y i g asked n → IsInLane x g j n None → Reaches v (act.Bulk i g j asked) None
reach-no-bulk w v i g j n asked x y e k li lj ix iy number lane =
    reach-none w v (act.Bulk i g j asked) e k refl (λ s st m. (bulk-none w i g j n asked x y (site-at w v i x e k li ix) (site-at w v j y e k lj iy) number lane s st).1 m)

pub reach-no-beat : (w v : WorldSeen) (i j n : ℕ) (x : SiteSeen) → w ≡ v → IsWorld w → i < v.deployment.sites → j < v.deployment.sites → x ≡ get_or w.sites i x → None ≡ slice_get (made_for x j) n → Reaches v (act.BeatIn i j n) None
reach-no-beat w v i j n x e k li lj is none =
    let lt : j < w.deployment.sites = subst (λ (v : WorldSeen). j < v.deployment.sites) (sym e) lj in
    reach-none w v (act.BeatIn i j n) e k refl (λ s st m. (no-beat w.deployment s i j n (note-at w.deployment i j n x (s.sites i) None (st.sites i x (site-at w v i x e k li is)) lt none)).1 m)
