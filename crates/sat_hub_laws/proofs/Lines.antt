-- Acts of hubs and gears by the table of nodes, their answers, and their states by pieces of acts.
use Rattle.std.specs.Prelude.{◌≡◌, ℕ, Bool, false, ◌&&◌, ◌==◌, List, [], ◌∷◌, Option, Some, refl}
use Rattle.std.proofs.Common.{sym, ap, ◌∙◌}
use Rattle.sat_label.proofs.Truth.{same-number}
use Rattle.sat_label.specs.declared.carried.Carried.{Carried}
use Rattle.sat_label.specs.declared.items.Items.{Items}
use Rattle.sat_label.specs.declared.items.Items.TheVariants.{One}
use Rattle.sat_label.specs.declared.label.Kind.{Kind}
use Rattle.sat_label.specs.declared.label.Kind.TheVariants as kind
use Rattle.sat_act.specs.declared.answer.Answer.{Answer}
use Rattle.sat_act.specs.Deployed.{Deployed}
use Rattle.sat_act.specs.Answers.{gear_of}
use Rattle.sat_model.specs.Input.{SiteInput}
use Rattle.sat_model.specs.Input as site
use Rattle.sat_model.specs.Reply.{gear_for, site_answer}
use Rattle.sat_model.specs.State.{SiteState}
use Rattle.sat_stitch.specs.Kept.{Nothing, OfClient}
use Rattle.sat_stitch.specs.Nodes.{input_of}
use Rattle.sat_joint.specs.Pieces.{Drain}
use Rattle.sat_joint.specs.Table.{AtGear, is_first, nodes}
use Rattle.sat_joint.specs.Machines.{HubState, GearNode, IsGearAnswer, fresh_hub, gear_after, gear_alone, gear_by, gear_by_input, gathers, hub_after, hub_by}
use Rattle.sat_joint.proofs.Sites.{kept-answer}
use Rattle.sat_hub_laws.specs.Inputs.{HubInput, GearInput, ByTurn, ByStamp, ByWrite}
use Rattle.sat_hub_laws.specs.Inputs as given
use Rattle.sat_hub_laws.specs.Hubs.{hub_act, hub_answer, hub_handed, hub_then}
use Rattle.sat_hub_laws.specs.Gears.{gear_act, gear_answer, gear_handed, gear_then, values_of, write_act, written_act}
use Rattle.sat_hub_laws.specs.Lines.{gear_pieces, gear_replay, hub_pieces, hub_replay}
use Rattle.sat_hub_laws.specs.Laws.{GearsAnswer, GearsAreHomes, GearsReplay, HubsAnswer, HubsAreHomes, HubsReplay}
use Rattle.sat_hub_laws.proofs.Sites.{alone-answers}

-- ---- homes

pub hubs-are-homes : HubsAreHomes
hubs-are-homes d i c (given.Attach seen) r = same-number i
hubs-are-homes d i c _ r = same-number i

-- a gear of a site is this gear where the numbers are equal
at-site : (i : ℕ) (b : Bool) → ((i == i) && b) ≡ b
at-site i b = ap (λ (a : Bool). a && b) (same-number i)

write-home : (d : Deployed) (i g c : ℕ) (seen : Carried) (items : Items) (values : List (List ℕ)) (r : Answer) → is_first (AtGear i g) (nodes d (write_act c items values) (OfClient seen (Some i)) r) ≡ (gear_for d items == g)
write-home d i g c seen (One x) (value ∷ []) r = at-site i (gear_of d x == g)
write-home d i g c seen (One x) [] r = at-site i (gear_for d (One x) == g)
write-home d i g c seen (One x) (value ∷ more ∷ values) r = at-site i (gear_for d (One x) == g)
write-home d i g c seen items values r = at-site i (gear_for d items == g)

write-nowhere : (d : Deployed) (i g c : ℕ) (items : Items) (values : List (List ℕ)) (r : Answer) → is_first (AtGear i g) (nodes d (write_act c items values) Nothing r) ≡ false
write-nowhere d i g c (One x) (value ∷ []) r = refl
write-nowhere d i g c (One x) [] r = refl
write-nowhere d i g c (One x) (value ∷ more ∷ values) r = refl
write-nowhere d i g c items values r = refl

written-nowhere : (d : Deployed) (i g c : ℕ) (k : Kind) (values : List (List ℕ)) (r : Answer) → is_first (AtGear i g) (nodes d (written_act c k values) Nothing r) ≡ false
written-nowhere d i g c (kind.Update items) values r = write-nowhere d i g c items values r
written-nowhere d i g c _ values r = refl

pub gears-are-homes : GearsAreHomes
gears-are-homes d i g c (given.Tick ts) r = at-site i (g == g) ∙ same-number g
gears-are-homes d i g c (given.Write seen items values) r = write-home d i g c seen items values r
gears-are-homes d i g c (given.Read seen x) r = at-site i (gear_of d x == g)
gears-are-homes d i g c (given.Move seen j) r = at-site i (0 == g)
gears-are-homes d i g c (given.Drain f labels stable) r = refl
gears-are-homes d i g c (given.Show ByTurn p) r = refl
gears-are-homes d i g c (given.Show ByStamp p) r = refl
gears-are-homes d i g c (given.Show ByWrite p) r = written-nowhere d i g c p.label.kind (values_of p) r

-- ---- answers

gather-answer : (d : Deployed) (i : ℕ) (h : HubState) (f : ℕ → Drain) → hub_answer d i h (given.Gather f) ≡ gathers d f
unfolding hub_answer
gather-answer d i h f = refl

pub hubs-answer : HubsAnswer
hubs-answer d i c h (given.Gather f) = (refl, gather-answer d i h f)
hubs-answer d i c h (given.Attach seen) = (refl, (site.Attach seen, refl, alone-answers d i h (given.Attach seen) refl))
hubs-answer d i c h given.Emit = (refl, (site.Emit, refl, alone-answers d i h given.Emit refl))
hubs-answer d i c h given.Pulse = (refl, (site.Pulse, refl, alone-answers d i h given.Pulse refl))
hubs-answer d i c h (given.Turn front) = (refl, (site.Turn front, refl, alone-answers d i h (given.Turn front) refl))
hubs-answer d i c h (given.Bulk from g n p) = (refl, (site.Bulk from g n p, refl, alone-answers d i h (given.Bulk from g n p) refl))
hubs-answer d i c h (given.Beat j) = (refl, (site.Beat j, refl, alone-answers d i h (given.Beat j) refl))
hubs-answer d i c h (given.BeatIn from n note) = (refl, (site.BeatIn from n note, refl, alone-answers d i h (given.BeatIn from n note) refl))
hubs-answer d i c h given.Stamp = (refl, (site.Stamp, refl, alone-answers d i h given.Stamp refl))
hubs-answer d i c h given.Close = (refl, (site.Close, refl, alone-answers d i h given.Close refl))
hubs-answer d i c h given.Fall = (refl, (site.Fall, refl, alone-answers d i h given.Fall refl))
hubs-answer d i c h given.Advance = (refl, (site.Advance, refl, alone-answers d i h given.Advance refl))

-- a write as its site's machine is handed it
write-input : (c : ℕ) (seen : Carried) (seat : Option ℕ) (items : Items) (values : List (List ℕ)) → input_of (write_act c items values) (OfClient seen seat) ≡ Some (site.Write seen items values)
write-input c seen seat (One x) (value ∷ []) = refl
write-input c seen seat (One x) [] = refl
write-input c seen seat (One x) (value ∷ more ∷ values) = refl
write-input c seen seat items values = refl

module _ (d : Deployed) (i : ℕ) (n : GearNode) where
  tick-answer : (g ts : ℕ) → gear_answer d i n (given.Tick ts) ≡ site_answer d i (gear_alone d i n) (site.Tick g ts)
  unfolding gear_answer site_answer
  tick-answer g ts = refl

  write-answer : (seen : Carried) (items : Items) (values : List (List ℕ)) → gear_answer d i n (given.Write seen items values) ≡ site_answer d i (gear_alone d i n) (site.Write seen items values)
  unfolding gear_answer site_answer
  write-answer seen items values = refl

  -- a site each of whose gears is this one, with its versions of all items
  abbrev all_kept : SiteState
  all_kept = record {
    gears = λ g. n.gear;
    sink = (fresh_hub i).sink;
    views = (fresh_hub i).views;
    proxy = (fresh_hub i).proxy;
    store = n.store;
    made_beats = (fresh_hub i).made_beats;
  }

  all-answer : (seen : Carried) (x : ℕ) → gear_answer d i n (given.Read seen x) ≡ site_answer d i all_kept (site.Read seen x)
  unfolding gear_answer site_answer
  all-answer seen x = refl

  read-answer : (seen : Carried) (x : ℕ) → gear_answer d i n (given.Read seen x) ≡ site_answer d i (gear_alone d i n) (site.Read seen x)
  read-answer seen x = all-answer seen x ∙ sym (kept-answer d i all_kept (site.Read seen x))

  move-answer : (seen : Carried) (j : ℕ) → gear_answer d i n (given.Move seen j) ≡ site_answer d i (gear_alone d i n) (site.Move seen j)
  unfolding gear_answer site_answer
  move-answer seen j = refl

write-is : (d : Deployed) (i c : ℕ) (n : GearNode) (seen : Carried) (items : Items) (values : List (List ℕ)) → IsGearAnswer d i n (write_act c items values) (gear_handed i (given.Write seen items values)) (gear_answer d i n (given.Write seen items values))
write-is d i c n seen items values = (site.Write seen items values, write-input c seen (Some i) items values, write-answer d i n seen items values)

pub gears-answer : GearsAnswer
gears-answer d i g c n (given.Tick ts) own = (site.Tick g ts, refl, tick-answer d i n g ts)
gears-answer d i g c n (given.Write seen items values) own = write-is d i c n seen items values
gears-answer d i g c n (given.Read seen x) own = (site.Read seen x, refl, read-answer d i n seen x)
gears-answer d i g c n (given.Move seen j) own = (site.Move seen j, refl, move-answer d i n seen j)
gears-answer d i g c n _ own = absurd (cc)

-- ---- states

hub-by-is : (d : Deployed) (i c : ℕ) (h : HubState) (input : HubInput) (r : Answer) → hub_by d i h (hub_act i c input) (hub_handed input) r ≡ hub_then d i h input r
hub-by-is d i c h (given.Gather f) r = refl
hub-by-is d i c h _ r = refl

gear-by-is : (d : Deployed) (i g c : ℕ) (n : GearNode) (input : GearInput) (r : Answer) → gear_by d g n (gear_act i g c input) (gear_handed i input) r ≡ gear_then d g n input r
gear-by-is d i g c n (given.Write seen items values) r = ap (λ (o : Option SiteInput). gear_by_input d g n o r) (write-input c seen (Some i) items values)
gear-by-is d i g c n _ r = refl

pub hubs-replay : HubsReplay
unfolding hub_after hub_replay
hubs-replay d i [] = refl
hubs-replay d i (k ∷ ks) = hub-by-is d i k.client (hub_after d i (hub_pieces i ks)) k.input k.answer ∙ ap (λ (h : HubState). hub_then d i h k.input k.answer) (hubs-replay d i ks)

pub gears-replay : GearsReplay
unfolding gear_after gear_replay
gears-replay d i g [] = refl
gears-replay d i g (k ∷ ks) = gear-by-is d i g k.client (gear_after d g (gear_pieces i g ks)) k.input k.answer ∙ ap (λ (n : GearNode). gear_then d g n k.input k.answer) (gears-replay d i g ks)
