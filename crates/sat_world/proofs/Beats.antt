-- What a beat that comes in hands its receiver, by what its sender made.
use Rattle.std.specs.Prelude.{◌≡◌, ◌<◌, ◌≤◌, ◌^◌, ◌&&◌, ◌==◌, ℕ, true, nat_le, nat_lt, List, length, get_or, Option, Some, None, option_map, slice_get}
use Rattle.std.proofs.Common.{sym, subst, ap, ◌∙◌}
use Rattle.std.proofs.lemmas.Bool.{and_from, eq-eqb, le-leb, lt-ltb}
use Rattle.std.proofs.lemmas.Option.{slice_get-map}
use Rattle.sat_beat.specs.declared.Beat.{Beat}
use Rattle.sat_sites.specs.declared.shape.Shape.{Shape}
use Rattle.sat_act.specs.declared.act.Act.TheVariants as act
use Rattle.sat_act.specs.declared.answer.Answer.TheVariants as ans
use Rattle.sat_act.specs.declared.answer.Refusal.TheVariants as why
use Rattle.sat_act.specs.Deployed.{Deployed}
use Rattle.sat_act.specs.Parts.{BeatNote}
use Rattle.sat_model.specs.State.{SiteState}
use Rattle.sat_model.specs.Input as given
use Rattle.sat_model.specs.Reply.{site_answer}
use Rattle.sat_model.specs.Replay.{given_at}
use Rattle.sat_model.specs.World.{WorldState, world_given, world_answer, world_state, beat_from}
use Rattle.sat_proxy.specs.Proxy.{note_of}
use Rattle.sat_site.specs.declared.input.SiteInput.TheVariants as input
use Rattle.sat_site.specs.Changes.{made_for}
use Rattle.sat_site.specs.Inputs.{is_sized}
use Rattle.sat_site.specs.Seen.{SiteSeen, IsSite, IsBeatOf}
use Rattle.sat_site.specs.Stands.{StandsSite}
use Rattle.sat_world.specs.Seen.{WorldSeen, HasSite}
use Rattle.sat_world.specs.Steps.{Goes, HandsIn, Hands}
use Rattle.sat_world.specs.Worlds.{IsWorld}
use Rattle.sat_world.proofs.Goes.{quiet-goes}
use Rattle.sat_world.proofs.Hands.{site-at}

-- the machine's note is that of the beat that the site made
pub note-at : (d : Deployed) (i j n : ℕ) (x : SiteSeen) (s : SiteState) (o : Option Beat) → StandsSite d i x s → j < d.sites → o ≡ slice_get (made_for x j) n → slice_get (s.made_beats j) n ≡ option_map note_of o
note-at d i j n x s o st lt e = ap (λ (bs : List BeatNote). slice_get bs n) (sym (st.made j lt)) ∙ (slice_get-map note_of (made_for x j) n ∙ ap (option_map note_of) (sym e))

-- a beat that a site made has its size at each site of the world
beat-sized : (w : WorldSeen) (i j n : ℕ) (x z : SiteSeen) (beat : Beat) → IsWorld w → HasSite w i x → HasSite w j z → IsSite x → Some beat ≡ slice_get (made_for x j) n → n < 2 ^ 63 → is_sized z (input.BeatIn i n beat) ≡ true
beat-sized w i j n x z beat k at there sound e small =
    let b : IsBeatOf x.shape.gears (length x.views.stamp) beat = sound.made.each j n beat (sym e) in
    let p : StandsSite w.deployment i x ((world_state w.deployment k.history).sites i) = k.stands.sites i x at in
    let q : StandsSite w.deployment j z ((world_state w.deployment k.history).sites j) = k.stands.sites j z there in
    let gears : length beat.counts ≡ z.shape.gears = b.counts ∙ (ap (λ (s : Shape). s.gears) p.shape ∙ ap (λ (s : Shape). s.gears) (sym q.shape)) in
    let closes : length beat.closes ≤ length z.views.stamp = subst (λ (m : ℕ). length beat.closes ≤ m) (p.views.count ∙ sym q.views.count) b.closes in
    and_from (nat_lt n (2 ^ 63)) ((length beat.counts == z.shape.gears) && nat_le (length beat.closes) (length z.views.stamp)) (lt-ltb n (2 ^ 63) small)
    (and_from (length beat.counts == z.shape.gears) (nat_le (length beat.closes) (length z.views.stamp)) (eq-eqb (length beat.counts) z.shape.gears gears) (le-leb (length beat.closes) (length z.views.stamp) closes))

beat-given : (d : Deployed) (s : WorldState) (i j n : ℕ) (note : BeatNote) → beat_from s i j n ≡ Some note → HandsIn d s (act.BeatIn i j n) j (given.BeatIn i n note)
unfolding world_given world_answer
beat-given d s i j n note e = record {
  given = λ k. ap (λ (o : Option BeatNote). elim o [ None ↦ None | Some note ↦ given_at j k (given.BeatIn i n note) ]) e;
  answer = ap (λ (o : Option BeatNote). elim o [ None ↦ ans.Refused why.NoSuch | Some note ↦ site_answer d j (s.sites j) (given.BeatIn i n note) ]) e;
}

pub no-beat : (d : Deployed) (s : WorldState) (i j n : ℕ) → beat_from s i j n ≡ None → (ans.Refused why.NoSuch ≡ world_answer d s (act.BeatIn i j n)) × ((k : ℕ) → world_given d s (act.BeatIn i j n) k ≡ None)
unfolding world_given world_answer
no-beat d s i j n e = (
  sym (ap (λ (o : Option BeatNote). elim o [ None ↦ ans.Refused why.NoSuch | Some note ↦ site_answer d j (s.sites j) (given.BeatIn i n note) ]) e),
  λ k. ap (λ (o : Option BeatNote). elim o [ None ↦ None | Some note ↦ given_at j k (given.BeatIn i n note) ]) e,
)

-- ---- as the code asks it

pub beat-handed : (w v : WorldSeen) (i j n : ℕ) (beat made : Beat) (x : SiteSeen) → w ≡ v → IsWorld w → i < v.deployment.sites → j < v.deployment.sites → x ≡ get_or w.sites i x → IsSite x → Some made ≡ slice_get (made_for x j) n → beat ≡ made → n < 2 ^ 63 →
    Hands w (act.BeatIn i j n) j (input.BeatIn i n beat)
beat-handed w v i j n beat made x e k li lj is sound there same small =
    let at : HasSite w i x = site-at w v i x e k li is in
    let found : Some beat ≡ slice_get (made_for x j) n = ap (λ (b : Beat). Some b) same ∙ there in
    let lt : j < w.deployment.sites = subst (λ (v : WorldSeen). j < v.deployment.sites) (sym e) lj in
    record {
      hands = λ s st. beat-given w.deployment s i j n (note_of beat) (note-at w.deployment i j n x (s.sites i) (Some beat) (st.sites i x at) lt found);
      sized = λ z here. beat-sized w i j n x z beat k at here sound found small;
    }

pub did-not-beat : (w v : WorldSeen) (i j n : ℕ) (x : SiteSeen) → w ≡ v → IsWorld w → i < v.deployment.sites → j < v.deployment.sites → x ≡ get_or w.sites i x → None ≡ slice_get (made_for x j) n → Goes v (act.BeatIn i j n) (ans.Refused why.NoSuch) v
did-not-beat w v i j n x e k li lj is none =
    let lt : j < w.deployment.sites = subst (λ (v : WorldSeen). j < v.deployment.sites) (sym e) lj in
    subst (λ (v : WorldSeen). Goes v (act.BeatIn i j n) (ans.Refused why.NoSuch) v) e
    (quiet-goes w (act.BeatIn i j n) why.NoSuch k.frame (λ s st. no-beat w.deployment s i j n (note-at w.deployment i j n x (s.sites i) None (st.sites i x (site-at w v i x e k li is)) lt none)))
