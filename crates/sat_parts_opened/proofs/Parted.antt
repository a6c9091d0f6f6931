-- The parts in journals, read off each entry alone.
use Rattle.std.proofs.Common.{◌≡◌, ℕ, Bool, true, false, ◌==◌, ◌&&◌, ◌||◌, not, nat_lt, List, [], ◌∷◌, ◌++◌, reverse, Option, Some, None, refl, sym, ap, ◌∙◌, append_assoc}
use Rattle.std.specs.List.{flat_map}
use Rattle.std.proofs.lemmas.List.{append-nil, reverse-append, reverse-reverse}
use Rattle.sat_label.proofs.Truth.{same-number}
use Rattle.sat_label.specs.Grouped.{list_of}
use Rattle.sat_label.specs.declared.carried.Carried.{Carried}
use Rattle.sat_label.specs.Words.{has}
use Rattle.sat_label.specs.declared.items.Items.{Items}
use Rattle.sat_label.specs.declared.items.Items.TheVariants.{One, Two, Three, Four}
use Rattle.sat_label.specs.declared.label.Label.{Label}
use Rattle.sat_act.specs.declared.act.Act.TheVariants as act
use Rattle.sat_act.specs.declared.answer.Answer.{Answer}
use Rattle.sat_act.specs.declared.answer.Answer.TheVariants as ans
use Rattle.sat_act.specs.Deployed.{Deployed}
use Rattle.sat_act.specs.Answers.{gear_of}
use Rattle.sat_act.specs.Parts.{replicates}
use Rattle.sat_model.specs.Input.{SiteInput}
use Rattle.sat_model.specs.Input as site
use Rattle.sat_model.specs.Reply.{gear_for}
use Rattle.sat_bulk.specs.Payloads.{Payload}
use Rattle.sat_node.specs.declared.kept.Kept.{Kept as Line}
use Rattle.sat_joint.specs.Pieces.{Piece, given_of}
use Rattle.sat_joint.specs.Table.{AtGear, AtHub, gear_nodes, gears_if, home_at, same_node, stands_in}
use Rattle.sat_joint.specs.Machines.{GearNode, HubState, gear_after}
use Rattle.sat_joint.specs.Compare.{NoShare, Share, gear_share, home_gear_share, home_share, hub_share, shown_share, written_share}
use Rattle.sat_hub_laws.specs.Changes.{input_is_own}
use Rattle.sat_hub_laws.specs.Gears.{gear_act, gear_answer, gear_handed as handed_to, is_own}
use Rattle.sat_hub_laws.specs.Hubs.{hub_act, hub_handed as hub_given, hub_shows}
use Rattle.sat_hub_laws.specs.Lines.{GearLine, HubLine, gear_piece, gear_pieces, gear_replay, hub_piece, hub_pieces, hub_replay}
use Rattle.sat_hub_laws.specs.Parts.{Part, given_parts, input_share, is_given, is_kept, kept_parts, part_if, part_of, parts_by, same_home, written_at}
use Rattle.sat_hub_laws.specs.Sites.{has_part, is_shown}
use Rattle.sat_hub_laws.proofs.Lines.{gears-are-homes, gears-replay, hubs-are-homes, hubs-replay}
use Rattle.sat_hub_laws.proofs.Parts.{inputs-share}
use Rattle.sat_hub_laws.proofs.Tables.{hubs-stand-at, writes-stand-at}
use Rattle.sat_parts.specs.declared.hub_answer.HubAnswer.{HubAnswer}
use Rattle.sat_parts.specs.declared.hub_input.HubInput.{HubInput}
use Rattle.sat_parts.specs.declared.hub_input.HubInput.TheVariants as hub
use Rattle.sat_parts.specs.declared.gear_input.GearInput.{GearInput}
use Rattle.sat_parts.specs.declared.gear_input.GearInput.TheVariants as gear
use Rattle.sat_parts.specs.declared.gear_input.ShownBy.TheVariants as by
use Rattle.sat_parts.specs.declared.gear_answer.GearAnswer.{GearAnswer}
use Rattle.sat_parts.specs.Acts.{GearActSeen, client_in, drains_of, gear_handed, hub_handed}
use Rattle.sat_parts.specs.Lines.{gear_line, hub_line}
use Rattle.sat_opened.proofs.Numbers.{and-no}
use Rattle.sat_parts_opened.specs.Collected.{GearsGive, GearsKeepParts, HubsGive, gear_gave, gear_gives, got_of, hub_gave, hub_gives, shows_at, write_gave, write_gives, HubPartsKept, is_of_hub, kept_of_hub, kept_part}
use Rattle.sat_parts_opened.proofs.Named.{own-is}
use Rattle.sat_parts_opened.proofs.Payloads.{move-cases, read-cases, write-given}
use Rattle.sat_parts_opened.proofs.Steps.{GearStep, HubStep, gear-steps, hub-steps}
use Rattle.sat_parts_opened.proofs.Walked.{Past, gear-lined, hub-lined, lined, past-more}

-- ---- parts along a journal

if-more : (b : Bool) (p : Part) (ps : List Part) → part_if b p ps ≡ part_if b p [] ++ ps
if-more true p ps = refl
if-more false p ps = refl

if-turned : (b : Bool) (p : Part) → reverse (part_if b p []) ≡ part_if b p []
if-turned true p = refl
if-turned false p = refl

-- what an entry is read as, and what its piece is
record IsRead (b c : Bool) (s t : Share) : Type 0 where
  test : b ≡ c
  share : s ≡ t

module _ {X L : Type 0} (of : X → L) (pieces : List L → List Piece) (piece : L → Piece) (more : (l : L) (ls : List L) → pieces (l ∷ ls) ≡ piece l ∷ pieces ls)
    (is : Piece → Bool) (share : List Piece → Piece → Share) (test : X → Bool) (gave : X → Share) where
  abbrev read : X → List Part
  read x = part_if (test x) (part_of (piece (of x)) (gave x)) []

  -- each entry is read as its piece is
  abbrev Reads : List L → X → Type 0
  Reads b x = IsRead (test x) (is (piece (of x))) (gave x) (share (pieces b) (piece (of x)))

  one-read : (ls : List L) (x : X) → Reads ls x → parts_by is share (pieces (of x ∷ ls)) ≡ read x ++ parts_by is share (pieces ls)
  one-read ls x r =
      ap (parts_by is share) (more (of x) ls) ∙
      (if-more (is (piece (of x))) (part_of (piece (of x)) (share (pieces ls) (piece (of x)))) (parts_by is share (pieces ls)) ∙
      (λ t. part_if (sym r.test t) (part_of (piece (of x)) (sym r.share t)) [] ++ parts_by is share (pieces ls)))

  turned : (x : X) (xs : List X) → reverse (flat_map read xs) ++ read x ≡ reverse (flat_map read (x ∷ xs))
  turned x xs = ap (λ (ps : List Part). reverse (flat_map read xs) ++ ps) (sym (if-turned (test x) (part_of (piece (of x)) (gave x)))) ∙ sym (reverse-append (read x) (flat_map read xs))

  parts-lined : (ls : List L) (xs : List X) → Past of Reads ls xs → parts_by is share (pieces (lined of ls xs)) ≡ reverse (flat_map read xs) ++ parts_by is share (pieces ls)
  parts-lined ls [] a = refl
  parts-lined ls (x ∷ xs) a =
      parts-lined (of x ∷ ls) xs a.1 ∙
      (ap (λ (ps : List Part). reverse (flat_map read xs) ++ ps) (one-read ls x a.0) ∙
      (sym (append_assoc (reverse (flat_map read xs)) (read x) (parts_by is share (pieces ls))) ∙ ap (λ (ps : List Part). ps ++ parts_by is share (pieces ls)) (turned x xs)))

  parts-read : (none : pieces [] ≡ []) (xs : List X) → Past of Reads [] xs → reverse (parts_by is share (pieces (lined of [] xs))) ≡ flat_map read xs
  parts-read none xs a =
      ap reverse (parts-lined [] xs a ∙ (ap (λ (ks : List Piece). reverse (flat_map read xs) ++ parts_by is share ks) none ∙ append-nil (reverse (flat_map read xs)))) ∙
      reverse-reverse (flat_map read xs)

-- ---- hubs

home-and : (b c : Bool) → b ≡ true → (b && (c && not false)) ≡ c
home-and true true e = refl
home-and true false e = refl
home-and false c e = absurd (cc)

module _ (d : Deployed) (i g c number : ℕ) where
  abbrev here : HubInput → Answer → Piece
  here input r = record { number = number; act = hub_act i c (hub_handed input); handed = hub_given (hub_handed input); answer = r }

  -- where what stands at the gear is known, so is whether it has a part
  beside-given : (input : HubInput) (r : Answer) (b : Bool) → stands_in d (AtGear i g) (here input r) ≡ b → home_at d (AtGear i g) (here input r) ≡ false → b ≡ is_given d i g None (here input r)
  beside-given input r b s n =
      sym (ap (λ (x : Bool). home_at d (AtHub i) (here input r) && (stands_in d (AtGear i g) (here input r) && not x)) n ∙
      (home-and (home_at d (AtHub i) (here input r)) (stands_in d (AtGear i g) (here input r)) (hubs-are-homes d i c (hub_handed input) r) ∙ s))

  turn-shown : (front : _) (r : Answer) (b : Bool) → is_shown r ≡ b → stands_in d (AtGear i g) (here (hub.Turn front) r) ≡ shows_at d i g r
  turn-shown front (ans.Shown l) b e = (hubs-stand-at d i c g (given_of (hub_given (hub_handed (hub.Turn front))))).turn front l
  turn-shown front _ b e = refl

  stamp-shown : (r : Answer) (b : Bool) → is_shown r ≡ b → stands_in d (AtGear i g) (here hub.Stamp r) ≡ shows_at d i g r
  stamp-shown (ans.Shown l) b e = (hubs-stand-at d i c g (given_of (hub_given (hub_handed hub.Stamp)))).stamp l
  stamp-shown _ b e = refl

  hub-test : (input : HubInput) (r : Answer) → hub_gives d i g input r ≡ is_given d i g None (here input r)
  hub-test (hub.Gather drained) r = beside-given (hub.Gather drained) r (nat_lt g d.gears) ((hubs-stand-at d i c g (given_of (hub_given (hub_handed (hub.Gather drained))))).gather (drains_of drained) r) refl
  hub-test (hub.Turn front) r = beside-given (hub.Turn front) r (shows_at d i g r) (turn-shown front r (is_shown r) refl) refl
  hub-test hub.Stamp r = beside-given hub.Stamp r (shows_at d i g r) (stamp-shown r (is_shown r) refl) refl
  hub-test (hub.Attach seen) r = beside-given (hub.Attach seen) r false refl refl
  hub-test hub.Emit r = beside-given hub.Emit r false refl refl
  hub-test hub.Pulse r = beside-given hub.Pulse r false refl refl
  hub-test (hub.Bulk from gear n p) r = beside-given (hub.Bulk from gear n p) r false refl refl
  hub-test (hub.Beat to) r = beside-given (hub.Beat to) r false refl refl
  hub-test (hub.BeatIn from n b) r = beside-given (hub.BeatIn from n b) r false refl refl
  hub-test hub.Close r = beside-given hub.Close r false refl refl
  hub-test hub.Fall r = beside-given hub.Fall r false refl refl
  hub-test hub.Advance r = beside-given hub.Advance r false refl refl

shown-got : (h : HubState) (r : Answer) → got_of (hub_shows h r) ≡ shown_share h r
shown-got h (ans.Shown l) = refl
shown-got h _ = refl

hub-shared : (h : HubState) (g : ℕ) (input : HubInput) (a : HubAnswer) → a.show ≡ hub_shows h a.answer → hub_gave g input a ≡ hub_share h g (hub_given (hub_handed input)) a.answer
hub-shared h g (hub.Gather drained) a e = refl
hub-shared h g (hub.Attach seen) a e = ap got_of e ∙ shown-got h a.answer
hub-shared h g _ a e = ap got_of e ∙ shown-got h a.answer

pub hubs-give : HubsGive
hubs-give d i g es runs =
    ap (λ (ls : List HubLine). reverse (given_parts d i g None (hub_pieces i ls))) (sym (hub-lined [] es)) ∙
    parts-read hub_line (hub_pieces i) (hub_piece i) (λ l ls. refl) (is_given d i g None) (λ before k. home_share d (AtHub i) before g k)
    (λ x. hub_gives d i g x.input.input x.answer.answer) (λ x. hub_gave g x.input.input x.answer) refl es
    (past-more hub_line (HubStep d i) _ [] es
    (λ b x m step. record {
      test = hub-test d i g (client_in x.input.by) x.lamport x.input.input x.answer.answer;
      share = hub-shared (hub_replay d i b) g x.input.input x.answer step.answers_there.show ∙ ap (λ (h : HubState). hub_share h g (hub_given (hub_handed x.input.input)) x.answer.answer) (sym (hubs-replay d i b));
    }) (hub-steps d i es runs))

-- ---- what a gear kept

pub gears-keep-parts : GearsKeepParts
gears-keep-parts d i g o es runs =
    ap (λ (ls : List GearLine). reverse (kept_parts d i g o (gear_pieces i g ls))) (sym (gear-lined [] es)) ∙
    parts-read gear_line (gear_pieces i g) (gear_piece i g) (λ l ls. refl) (is_kept d i g o) (λ before k. gear_share (gear_after d g before) k.handed)
    (λ x. not (input_is_own (gear_handed x.input.input)) && same_home (written_at x.answer.answer) o) (λ x. input_share (gear_handed x.input.input)) refl es
    (past-more gear_line (GearStep d i g) _ [] es
    (λ b x m step. record {
      test = ap (λ (t : Bool). not t && same_home (written_at x.answer.answer) o)
          (own-is d g (gear_handed x.input.input) step.fits_there.fits ∙ sym (gears-are-homes d i g (client_in x.input.by) (gear_handed x.input.input) x.answer.answer));
      share = sym (inputs-share i (gear_replay d g b) (gear_handed x.input.input) step.fits_there.own) ∙ ap (λ (n : GearNode). gear_share n (handed_to i (gear_handed x.input.input))) (sym (gears-replay d i g b));
    }) (gear-steps d i g es runs))

-- ---- what a gear gave as the home of a write

module _ (d : Deployed) (i h g c number : ℕ) where
  abbrev line_at : GearInput → Answer → Piece
  line_at input r = record { number = number; act = gear_act i h c (gear_handed input); handed = handed_to i (gear_handed input); answer = r }

  -- its own act stands at itself alone, unless it wrote several items
  own-alone : (m : ℕ) → (((i == i) && (m == g)) || false) && not ((i == i) && (m == g)) ≡ false
  own-alone m = go ((i == i) && (m == g))
    where
      go : (b : Bool) → ((b || false) && not b) ≡ false
      go true = refl
      go false = refl

  both-no : (b s : Bool) → s ≡ false → (b && s) ≡ false
  both-no true s e = e
  both-no false s e = refl

  true-and : (b s t : Bool) → b ≡ true → s ≡ t → (b && s) ≡ t
  true-and true s t e f = f
  true-and false s t e f = absurd (cc)

  none-given : (input : GearInput) (r : Answer) → (stands_in d (AtGear i g) (line_at input r) && not (home_at d (AtGear i g) (line_at input r))) ≡ false → false ≡ is_given d i g (Some h) (line_at input r)
  none-given input r e = sym (both-no (home_at d (AtGear i h) (line_at input r)) _ e)

  -- a write of several items
  or-not : (a b : Bool) → ((a || b) && not a) ≡ (b && not a)
  or-not true b = sym (and-no b)
  or-not false b = refl

  at-home : (b : Bool) → ((i == i) && b) ≡ b
  at-home b = ap (λ (a : Bool). a && b) (same-number i)

  abbrev written_line : Carried → Items → List (List ℕ) → Answer → Piece
  written_line seen items values r = record { number = number; act = act.Writes c items values; handed = handed_to i (gear_handed (gear.Write seen items values)); answer = r }

  many-wrote : (seen : _) (items : Items) (values : List (List ℕ)) (l : Label) → (stands_in d (AtGear i g) (written_line seen items values (ans.Wrote l)) && not (home_at d (AtGear i g) (written_line seen items values (ans.Wrote l)))) ≡ write_gives d i g items (ans.Wrote l)
  many-wrote seen items values l =
      (λ t. writes-stand-at d i c g seen items values l t && not (at-home (gear_for d items == g) t)) ∙ or-not (gear_for d items == g) (has_part d i (list_of items) g)

  many-gives : (seen : _) (items : Items) (values : List (List ℕ)) (r : Answer) → (stands_in d (AtGear i g) (written_line seen items values r) && not (home_at d (AtGear i g) (written_line seen items values r))) ≡ write_gives d i g items r
  many-gives seen items values (ans.Wrote l) = many-wrote seen items values l
  many-gives seen items values _ = own-alone (gear_for d items)

  -- a write of one item has no part elsewhere
  one-has : (x : ℕ) (b : Bool) → replicates d x i ≡ b → (has_part d i (x ∷ []) g && not (gear_of d x == g)) ≡ false
  one-has x true e =
      ap (λ (t : Bool). has same_node (gear_nodes i (gears_if t (gear_of d x) [])) (AtGear i g) && not (gear_of d x == g)) e ∙
      go ((i == i) && (gear_of d x == g)) (gear_of d x == g) (at-home (gear_of d x == g))
    where
      go : (a b : Bool) → a ≡ b → ((a || false) && not b) ≡ false
      go true true w = refl
      go false true w = refl
      go false false w = refl
      go true false w = absurd (cc)
  one-has x false e = ap (λ (t : Bool). has same_node (gear_nodes i (gears_if t (gear_of d x) [])) (AtGear i g) && not (gear_of d x == g)) e

  one-gives : (x : ℕ) (r : Answer) → write_gives d i g (One x) r ≡ false
  one-gives x (ans.Wrote l) = one-has x (replicates d x i) refl
  one-gives x _ = refl

  write-test : (seen : _) (items : Items) (values : List (List ℕ)) (r : Answer) → (stands_in d (AtGear i g) (line_at (gear.Write seen items values) r) && not (home_at d (AtGear i g) (line_at (gear.Write seen items values) r))) ≡ write_gives d i g items r
  write-test seen (One x) (value ∷ []) r = own-alone (gear_of d x) ∙ sym (one-gives x r)
  write-test seen (One x) [] r = many-gives seen (One x) [] r
  write-test seen (One x) (value ∷ more ∷ values) r = many-gives seen (One x) (value ∷ more ∷ values) r
  write-test seen (Two x y) values r = many-gives seen (Two x y) values r
  write-test seen (Three x y z) values r = many-gives seen (Three x y z) values r
  write-test seen (Four x y z w) values r = many-gives seen (Four x y z w) values r

  -- what is no own act of the gear has no part from it
  part-test : (input : GearInput) (r : Answer) → is_own d h (gear_handed input) ≡ false → false ≡ is_given d i g (Some h) (line_at input r)
  part-test input r o = sym (ap (λ (b : Bool). b && (stands_in d (AtGear i g) (line_at input r) && not (home_at d (AtGear i g) (line_at input r)))) (gears-are-homes d i h c (gear_handed input) r ∙ o))

  gear-test : (input : GearInput) (r : Answer) → input_is_own (gear_handed input) ≡ is_own d h (gear_handed input) → gear_gives d i g input r ≡ is_given d i g (Some h) (line_at input r)
  gear-test (gear.Write seen items values) r o =
      sym (true-and (home_at d (AtGear i h) (line_at (gear.Write seen items values) r)) _ (write_gives d i g items r) (gears-are-homes d i h c (gear_handed (gear.Write seen items values)) r ∙ sym o) (write-test seen items values r))
  gear-test (gear.Tick ts) r o = none-given (gear.Tick ts) r (own-alone h)
  gear-test (gear.Read seen x) r o = none-given (gear.Read seen x) r (own-alone (gear_of d x))
  gear-test (gear.Move seen j) r o = none-given (gear.Move seen j) r (own-alone 0)
  gear-test (gear.Drain f labels stable) r o = part-test (gear.Drain f labels stable) r refl
  gear-test (gear.Show by p) r o = part-test (gear.Show by p) r refl

written-gave : (o : Option SiteInput) (seen : _) (items : Items) (values : List (List ℕ)) (r : Answer) → o ≡ Some (site.Write seen items values) → write_gave values r ≡ written_share o r
written-gave o seen items values r e = go r ∙ ap (λ (o : Option SiteInput). written_share o r) (sym e)
  where
    go : (r : Answer) → write_gave values r ≡ written_share (Some (site.Write seen items values)) r
    go (ans.Wrote l) = refl
    go _ = refl

module _ (d : Deployed) (i h c : ℕ) (n : GearNode) where
  abbrev gave_as : GearInput → Answer → Share
  gave_as input r = home_gear_share (gear_act i h c (gear_handed input)) (handed_to i (gear_handed input)) r

  tick-gave : (ts : ℕ) → NoShare ≡ gave_as (gear.Tick ts) (gear_answer d i n (gear_handed (gear.Tick ts)))
  unfolding gear_answer
  tick-gave ts = refl

  read-gave : (seen : _) (x : ℕ) → NoShare ≡ gave_as (gear.Read seen x) (gear_answer d i n (gear_handed (gear.Read seen x)))
  unfolding gear_answer
  read-gave seen x = read-cases (λ r. NoShare ≡ gave_as (gear.Read seen x) r) d i x (n.store x) (λ y. refl) refl (λ l value. refl)

  move-gave : (seen : _) (j : ℕ) → NoShare ≡ gave_as (gear.Move seen j) (gear_answer d i n (gear_handed (gear.Move seen j)))
  unfolding gear_answer
  move-gave seen j = move-cases (λ r. NoShare ≡ gave_as (gear.Move seen j) r) i j n.gear.promise seen.point.ts (λ y. refl) (λ l own. refl)

  gear-gave : (input : GearInput) (r : Answer) → r ≡ gear_answer d i n (gear_handed input) → gear_gave input r ≡ gave_as input r
  gear-gave (gear.Write seen items values) r e = written-gave _ seen items values r (write-given c i seen items values)
  gear-gave (gear.Tick ts) r e = tick-gave ts ∙ ap (gave_as (gear.Tick ts)) (sym e)
  gear-gave (gear.Read seen x) r e = read-gave seen x ∙ ap (gave_as (gear.Read seen x)) (sym e)
  gear-gave (gear.Move seen j) r e = move-gave seen j ∙ ap (gave_as (gear.Move seen j)) (sym e)
  gear-gave (gear.Drain f labels stable) r e = refl
  gear-gave (gear.Show by p) r e = refl

pub gears-give : GearsGive
gears-give d i h g es runs =
    ap (λ (ls : List GearLine). reverse (given_parts d i g (Some h) (gear_pieces i h ls))) (sym (gear-lined [] es)) ∙
    parts-read gear_line (gear_pieces i h) (gear_piece i h) (λ l ls. refl) (is_given d i g (Some h)) (λ before k. home_share d (AtGear i h) before g k)
    (λ x. gear_gives d i g x.input.input x.answer.answer) (λ x. gear_gave x.input.input x.answer.answer) refl es
    (past-more gear_line (GearStep d i h) _ [] es
    (λ b x m step. record {
      test = gear-test d i h g (client_in x.input.by) x.lamport x.input.input x.answer.answer (own-is d h (gear_handed x.input.input) step.fits_there.fits);
      share = gear-gave d i h (client_in x.input.by) (gear_replay d h b) x.input.input x.answer.answer step.answers_there.answer;
    }) (gear-steps d i h es runs))

-- ---- what a gear kept of its hub's acts

module _ (d : Deployed) (i : ℕ) (n : GearNode) where
  abbrev of_hub_by : GearInput → Answer → Bool
  of_hub_by input r = not (input_is_own (gear_handed input)) && same_home (written_at r) None

  drain-of : (f : _) (labels stable : ℕ) → of_hub_by (gear.Drain f labels stable) (gear_answer d i n (gear_handed (gear.Drain f labels stable))) ≡ true
  unfolding gear_answer
  drain-of f labels stable = refl

  turn-of : (p : Payload) → of_hub_by (gear.Show by.Turn p) (gear_answer d i n (gear_handed (gear.Show by.Turn p))) ≡ true
  unfolding gear_answer
  turn-of p = refl

  stamp-of : (p : Payload) → of_hub_by (gear.Show by.Stamp p) (gear_answer d i n (gear_handed (gear.Show by.Stamp p))) ≡ true
  unfolding gear_answer
  stamp-of p = refl

  write-of : (p : Payload) → of_hub_by (gear.Show by.Write p) (gear_answer d i n (gear_handed (gear.Show by.Write p))) ≡ false
  unfolding gear_answer
  write-of p = refl

  hub-kept : (input : GearInput) (r : Answer) → r ≡ gear_answer d i n (gear_handed input) → of_hub_by input r ≡ is_of_hub input
  hub-kept (gear.Tick ts) r e = refl
  hub-kept (gear.Write seen items values) r e = refl
  hub-kept (gear.Read seen x) r e = refl
  hub-kept (gear.Move seen j) r e = refl
  hub-kept (gear.Drain f labels stable) r e = ap (of_hub_by (gear.Drain f labels stable)) e ∙ drain-of f labels stable
  hub-kept (gear.Show by.Turn p) r e = ap (of_hub_by (gear.Show by.Turn p)) e ∙ turn-of p
  hub-kept (gear.Show by.Stamp p) r e = ap (of_hub_by (gear.Show by.Stamp p)) e ∙ stamp-of p
  hub-kept (gear.Show by.Write p) r e = ap (of_hub_by (gear.Show by.Write p)) e ∙ write-of p

hub-parts : (d : Deployed) (i g : ℕ) (ls : List GearLine) (es : List (Line GearActSeen GearAnswer)) → Past gear_line (GearStep d i g) ls es → flat_map (kept_part i g None) es ≡ flat_map (kept_of_hub i g) es
hub-parts d i g ls [] steps = refl
hub-parts d i g ls (k ∷ es) steps =
    λ t. part_if (hub-kept d i (gear_replay d g ls) k.input.input k.answer.answer steps.0.answers_there.answer t) (part_of (gear_piece i g (gear_line k)) (input_share (gear_handed k.input.input))) [] ++ hub-parts d i g (gear_line k ∷ ls) es steps.1 t

pub hub-parts-kept : HubPartsKept
hub-parts-kept d i g es runs = hub-parts d i g [] es (gear-steps d i g es runs)
