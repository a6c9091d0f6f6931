-- All labels of a hub are of its site: a hub's own point, and what its gears gave to gathers. That the gears gave it is
-- known where the parts of hub and gears agree.
use Rattle.std.proofs.Common.{◌≡◌, ℕ, Bool, true, false, ◌==◌, ◌&&◌, nat_lt, List, [], ◌∷◌, ◌++◌, None, if◌then◌else◌, refl, sym, ap, ◌∙◌, subst}
use Rattle.std.proofs.lemmas.Bool.{and_from}
use Rattle.sat_label.proofs.Truth.{same-number}
use Rattle.sat_label.specs.Members.{In}
use Rattle.sat_label.specs.declared.label.Label.{Label}
use Rattle.sat_act.specs.declared.act.Act.TheVariants as act
use Rattle.sat_act.specs.declared.answer.Answer.{Answer}
use Rattle.sat_act.specs.Deployed.{Deployed}
use Rattle.sat_model.specs.Next.{fresh_next}
use Rattle.sat_model.specs.State.{fresh_site}
use Rattle.sat_stitch.specs.Kept.{Nothing}
use Rattle.sat_joint.specs.Pieces.{Drain, Drained, Drains, Handed, Piece, Plain, Showing, EachOf}
use Rattle.sat_joint.specs.Table.{Node, AtHub, AtGear, stands_in}
use Rattle.sat_joint.specs.Machines.{GearNode, drain_of, gear_after, no_drain, of_gears}
use Rattle.sat_joint.specs.Compare.{Gave, Share, gear_share, home_share}
use Rattle.sat_hub_laws.specs.Inputs.{GearInput, HubInput}
use Rattle.sat_hub_laws.specs.Inputs as given
use Rattle.sat_hub_laws.specs.Gears.{gear_answer, gear_then}
use Rattle.sat_hub_laws.specs.Lines.{GearLine, GearLineAt, gear_pieces, gear_replay}
use Rattle.sat_hub_laws.specs.Parts.{Part, PartsAgree, given_parts, is_given, is_kept, kept_parts, part_of}
use Rattle.sat_hub_laws.proofs.Lines.{gears-replay}
use Rattle.sat_hub_laws.proofs.Parts.{ComesFrom, Stands, from-parts, in-parts, in-stands}
use Rattle.sat_hub_laws.proofs.Tables.{hubs-stand-at}
use Rattle.sat_opened.proofs.Says.{IsOwn, fresh-more}
use Rattle.sat_parts_opened.proofs.Payloads.{wrote-cases, move-cases, read-cases}

-- ---- gears

-- what a gear did not give yet is of its site
abbrev pub GearOwns : ℕ → GearNode → Type 0
GearOwns i n = (l : Label) → In n.gear.fresh l → IsOwn i l

module _ (d : Deployed) (i g : ℕ) (n : GearNode) (own : GearOwns i n) where
  abbrev Keeps : Answer → Type 0
  Keeps r = (l : Label) → In (fresh_next g n.gear.fresh r) l → IsOwn i l

  tick-own : (ts : ℕ) → Keeps (gear_answer d i n (given.Tick ts))
  unfolding gear_answer
  tick-own ts = own

  write-own : (seen : _) (items : _) (values : List (List ℕ)) → Keeps (gear_answer d i n (given.Write seen items values))
  unfolding gear_answer
  write-own seen items values = wrote-cases Keeps d i items n.gear.promise seen.point.ts (λ y. own) (λ l e o m j. fresh-more d i (fresh_site i) (l.point.gear == g) n.gear.fresh l m o own j)

  read-own : (seen : _) (x : ℕ) → Keeps (gear_answer d i n (given.Read seen x))
  unfolding gear_answer
  read-own seen x = read-cases Keeps d i x (n.store x) (λ y. own) own (λ l value. own)

  move-own : (seen : _) (j : ℕ) → Keeps (gear_answer d i n (given.Move seen j))
  unfolding gear_answer
  move-own seen j = move-cases Keeps i j n.gear.promise seen.point.ts (λ y. own) (λ l o m k. fresh-more d i (fresh_site i) (l.point.gear == g) n.gear.fresh l m o own k)

  then-own : (input : GearInput) (r : Answer) → r ≡ gear_answer d i n input → GearOwns i (gear_then d g n input r)
  then-own (given.Tick ts) r e = subst Keeps (sym e) (tick-own ts)
  then-own (given.Write seen items values) r e = subst Keeps (sym e) (write-own seen items values)
  then-own (given.Read seen x) r e = subst Keeps (sym e) (read-own seen x)
  then-own (given.Move seen j) r e = subst Keeps (sym e) (move-own seen j)
  then-own (given.Drain f labels stable) r e = λ l m. absurd m
  then-own (given.Show by p) r e = own

own-all : (d : Deployed) (i g : ℕ) (ls : List GearLine) → EachOf (GearLineAt d i g) ls → GearOwns i (gear_replay d g ls)
unfolding gear_replay
own-all d i g [] e = λ l m. absurd m
own-all d i g (k ∷ ls) e = then-own d i g (gear_replay d g ls) (own-all d i g ls e.0) k.input k.answer e.1.answer

tail-is : (x y : Piece) (xs ys : List Piece) → x ∷ xs ≡ y ∷ ys → xs ≡ ys
tail-is x y xs ys e = cc

-- wherever a part of a gear stands in its list
own-before : (d : Deployed) (i g : ℕ) (ls : List GearLine) → EachOf (GearLineAt d i g) ls → (later before : List Piece) (k : Piece) → gear_pieces i g ls ≡ later ++ k ∷ before → GearOwns i (gear_after d g before)
own-before d i g [] e [] before k w = absurd (cc)
own-before d i g [] e (y ∷ later) before k w = absurd (cc)
own-before d i g (x ∷ ls) e [] before k w =
    subst (λ (ks : List Piece). GearOwns i (gear_after d g ks)) (tail-is _ k (gear_pieces i g ls) before w)
    (subst (GearOwns i) (sym (gears-replay d i g ls)) (own-all d i g ls e.0))
own-before d i g (x ∷ ls) e (y ∷ later) before k w = own-before d i g ls e.0 later before k (tail-is _ y (gear_pieces i g ls) (later ++ k ∷ before) w)

-- ---- what a hub was handed in a gather

-- all labels that came with an input are of the site
abbrev pub OwnDrains : Deployed → ℕ → HubInput → Type 0
OwnDrains d i (given.Gather f) = (g : ℕ) (l : Label) → In (of_gears d f g).labels l → IsOwn i l
OwnDrains d i _ = Unit {0}

abbrev gather_piece : ℕ → ℕ → (ℕ → Drain) → Answer → Piece
gather_piece number i f r = record { number = number; act = act.Gather i; handed = Drains f; answer = r }

given-there : (d : Deployed) (i g number : ℕ) (f : ℕ → Drain) (r : Answer) → nat_lt g d.gears ≡ true → is_given d i g None (gather_piece number i f r) ≡ true
given-there d i g number f r lt =
    and_from (i == i) (stands_in d (AtGear i g) (gather_piece number i f r) && true) (same-number i)
    (and_from (stands_in d (AtGear i g) (gather_piece number i f r)) true ((hubs-stand-at d i 0 g Nothing).gather f r ∙ lt) refl)

gave-is : (n : GearNode) (y : Handed) (f : Drain) → gear_share n y ≡ Gave f → drain_of n ≡ f
gave-is n (Plain x) f e = absurd (cc)
gave-is n (Drains h) f e = absurd (cc)
gave-is n Drained f e = cc
gave-is n (Showing p) f e = absurd (cc)

share-same : (x y : Piece) (a b : Share) → part_of x a ≡ part_of y b → a ≡ b
share-same x y a b e = ap (λ (p : Part). p.share) e

module _ (d : Deployed) (lists : Node → List Piece) (agree : PartsAgree d lists) (i : ℕ) where
  -- what it was handed of a gear is what the gear had to give
  gave : (g number : ℕ) (f : ℕ → Drain) (r : Answer) → nat_lt g d.gears ≡ true → In (lists (AtHub i)) (gather_piece number i f r) → (later before : List Piece) × (k : Piece) × (lists (AtGear i g) ≡ later ++ k ∷ before) × (drain_of (gear_after d g before) ≡ f g)
  gave g number f r lt m =
      let k : Piece = gather_piece number i f r in
      let s : Stands (lists (AtHub i)) k = in-stands (lists (AtHub i)) k m in
      let there : In (given_parts d i g None (lists (AtHub i))) (part_of k (Gave (f g))) =
      subst (λ (ks : List Piece). In (given_parts d i g None ks) (part_of k (Gave (f g)))) (sym s.is) (in-parts (is_given d i g None) (λ before k. home_share d (AtHub i) before g k) s.later k s.before (given-there d i g number f r lt)) in
      let kept : In (kept_parts d i g None (lists (AtGear i g))) (part_of k (Gave (f g))) = subst (λ (ps : List Part). In ps (part_of k (Gave (f g)))) (agree i g None) there in
      let c : ComesFrom (is_kept d i g None) (λ before k. gear_share (gear_after d g before) k.handed) (lists (AtGear i g)) (part_of k (Gave (f g))) =
      from-parts (is_kept d i g None) (λ before k. gear_share (gear_after d g before) k.handed) (lists (AtGear i g)) (part_of k (Gave (f g))) kept in
      (c.later, c.before, c.piece, c.there, gave-is (gear_after d g c.before) c.piece.handed (f g) (share-same c.piece (gather_piece number i f r) (gear_share (gear_after d g c.before) c.piece.handed) (Gave (f g)) c.part))

  pub gave-own : (gears : ℕ → List GearLine) → ((g : ℕ) → lists (AtGear i g) ≡ gear_pieces i g (gears g)) → ((g : ℕ) → EachOf (GearLineAt d i g) (gears g)) → (number : ℕ) (f : ℕ → Drain) (r : Answer) → In (lists (AtHub i)) (gather_piece number i f r) → OwnDrains d i (given.Gather f)
  gave-own gears are lines number f r m g l = go (nat_lt g d.gears) refl
    where
      go : (b : Bool) → nat_lt g d.gears ≡ b → In (if b then f g else no_drain).labels l → IsOwn i l
      go false e j = absurd j
      go true e j =
          let w : (later before : List Piece) × (k : Piece) × (lists (AtGear i g) ≡ later ++ k ∷ before) × (drain_of (gear_after d g before) ≡ f g) = gave g number f r e m in
          own-before d i g (gears g) (lines g) w.0 w.1 w.2 (sym (are g) ∙ w.3) l (subst (λ (x : Drain). In x.labels l) (sym w.4) j)
