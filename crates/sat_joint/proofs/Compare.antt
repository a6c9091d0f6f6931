-- Parts that are the same join.
use Rattle.std.specs.Prelude.{◌≡◌, ℕ, Bool, true, false, ◌||◌, ◌==◌, List, ◌∷◌, Option, Some, None, refl}
use Rattle.std.proofs.Common.{sym, subst, ap, ◌∙◌}
use Rattle.sat_act.specs.declared.answer.Answer.{Answer}
use Rattle.sat_act.specs.declared.answer.Answer.TheVariants as ans
use Rattle.sat_act.specs.declared.act.Act.{Act}
use Rattle.sat_act.specs.declared.act.Act.TheVariants as act
use Rattle.sat_act.specs.Deployed.{Deployed}
use Rattle.sat_label.specs.Words.{has}
use Rattle.sat_label.specs.Grouped.{list_of}
use Rattle.sat_label.specs.declared.items.Items.{Items}
use Rattle.sat_label.specs.declared.label.Label.{Label}
use Rattle.std.proofs.lemmas.Bool.{and_parts, eqb-true, or_right}
use Rattle.sat_model.specs.Reply.{gear_for}
use Rattle.sat_stitch.specs.Kept.{Given, OfClient}
use Rattle.sat_stitch.specs.Nodes.{input_of}
use Rattle.sat_bulk.specs.Payloads.{Payload}
use Rattle.sat_joint.specs.Pieces.{Drain, Handed, Plain, Drains, Drained, Showing, Piece, given_of}
use Rattle.sat_joint.specs.Table.{Node, AtHub, AtGear, AtSerial, Alone, same_node, over, gear_nodes, item_gears, group_nodes, client_nodes, nodes, is_shared, is_first, stands_in, home_at}
use Rattle.sat_stitch.specs.Places.{AtSite}
use Rattle.sat_joint.specs.Machines.{HubState, GearNode, hub_after, gear_after, drain_of, shown_by, written_by, IsHubAnswer, IsGearAnswer, IsHomeAnswer}
use Rattle.sat_joint.specs.Joint.{Hands, Passes, HandsOver, AreOne, IsJoined}
use Rattle.sat_joint.specs.Compare.{Gave, Got, gear_share, shown_share, hub_share, written_share, home_gear_share, home_share, IsSamePart, SamePartsJoin, OthersJoin, CopiesHaveHomes, WrittenHaveHomes}
use Rattle.sat_joint.proofs.Acts.{client-no-hub, group-not-hub}
use Rattle.sat_joint.proofs.Nodes.{IsBeside, beside, home_by, home-over, shared-home, home-one}

gave-is : (n : GearNode) (z : Handed) (f : Drain) → gear_share n z ≡ Gave f → (f ≡ drain_of n) × (z ≡ Drained)
gave-is n (Plain x) f e = absurd (cc)
gave-is n (Drains g) f e = absurd (cc)
gave-is n Drained f e = (one (drain_of n) f e, refl)
  where
    one : (a b : Drain) → Gave a ≡ Gave b → b ≡ a
    one a b e = cc
gave-is n (Showing p) f e = absurd (cc)

got-is : (n : GearNode) (z : Handed) (p : Payload) → gear_share n z ≡ Got p → z ≡ Showing p
got-is n (Plain x) p e = absurd (cc)
got-is n (Drains g) p e = absurd (cc)
got-is n Drained p e = absurd (cc)
got-is n (Showing q) p e = ap Showing (one q p e)
  where
    one : (a b : Payload) → Got a ≡ Got b → a ≡ b
    one a b e = cc

-- the same share is what the two hand to each other
share-hands : (d : Deployed) (i g : ℕ) (h : HubState) (n : GearNode) (a : _) (y : Handed) (r : Answer) (z : Handed) → IsHubAnswer d i h a y r → gear_share n z ≡ hub_share h g y r → Hands h n g y r z
share-hands d i g h n a (Plain x) r z w e = λ l s. got-is n z (shown_by h l) (e ∙ ap (shown_share h) s)
share-hands d i g h n a (Drains f) r z w e = gave-is n z (f g) e
share-hands d i g h n a Drained r z w e = absurd w
share-hands d i g h n a (Showing p) r z w e = absurd w

share-passes : (d : Deployed) (i : ℕ) (m n : GearNode) (a : Act) (y : Handed) (r : Answer) (z : Handed) → IsGearAnswer d i m a y r → gear_share n z ≡ home_gear_share a y r → Passes a y r z
share-passes d i m n a (Plain x) r z w e = λ l s. got-is n z (written_by (input_of a x) l) (e ∙ ap (written_share (input_of a x)) s)
share-passes d i m n a (Drains f) r z w e = absurd w
share-passes d i m n a Drained r z w e = absurd w
share-passes d i m n a (Showing p) r z w e = absurd w

-- at a hub or a gear of the site, the same part is what is handed over
part-joins : (d : Deployed) (lists : Node → List Piece) (q : Node) (i g : ℕ) (before : List Piece) (k : Piece) → over q ≡ AtSite i → IsHomeAnswer d q before k → IsSamePart d lists q i g before k → IsJoined d lists q (AtGear i g) before k
part-joins d lists (AtHub t) i g before k o w s = record {
  piece = s.piece;
  former = s.former;
  there = s.there;
  one = s.one;
  hands = share-hands d t g (hub_after d t before) (gear_after d g s.former) k.act k.handed k.answer s.piece.handed w s.share;
}
part-joins d lists (AtGear t h) i g before k o w s = record {
  piece = s.piece;
  former = s.former;
  there = s.there;
  one = s.one;
  hands = share-passes d t (gear_after d h before) (gear_after d g s.former) k.act k.handed k.answer s.piece.handed w s.share;
}
part-joins d lists (AtSerial f z) i g before k o w s = absurd (cc)
part-joins d lists (Alone c) i g before k o w s = absurd (cc)

pub same-parts-join : SamePartsJoin
same-parts-join d lists q before k w all = λ h p e f.
    let b : IsBeside p k.act = beside d k.act (given_of k.handed) k.answer p e f in
    let there : stands_in d (AtGear b.site b.gear) k ≡ true = subst (λ (p : Node). stands_in d p k ≡ true) b.is e in
    let home : home_at d (home_by d k.act b.site) k ≡ true = shared-home d k.act b.site b.gear (given_of k.handed) k.answer b.joint there in
    let site : over q ≡ AtSite b.site = ap over (sym (home-one (nodes d k.act (given_of k.handed) k.answer) (home_by d k.act b.site) q home h)) ∙ home-over d k.act b.site in
    subst (λ (p : Node). IsJoined d lists q p before k) (sym b.is) (part-joins d lists q b.site b.gear before k site w (all b.site b.gear there (subst (λ (p : Node). home_at d p k ≡ false) b.is f)))

pub others-join : OthersJoin
others-join d lists q before k n = λ h p e f.
    let b : IsBeside p k.act = beside d k.act (given_of k.handed) k.answer p e f in
    absurd (let z : is_shared k.act ≡ true = b.joint in cc)

-- the nodes of a hub's act don't depend on what was handed
abbrev is_hubs_act : Act → Bool
is_hubs_act (act.Gather i) = true
is_hubs_act (act.Turn i) = true
is_hubs_act (act.Stamp i) = true
is_hubs_act _ = false

hub-nodes : (d : Deployed) (a : Act) (x y : Given) (r : Answer) → is_hubs_act a ≡ true → nodes d a x r ≡ nodes d a y r
hub-nodes d (act.Gather t) x y r e = refl
hub-nodes d (act.Turn t) x y r e = refl
hub-nodes d (act.Stamp t) x y r e = refl
hub-nodes d _ x y r e = absurd (cc)

hubs-act : (d : Deployed) (a : Act) (x : Given) (r : Answer) (i : ℕ) → is_shared a ≡ true → is_first (AtHub i) (nodes d a x r) ≡ true → is_hubs_act a ≡ true
hubs-act d (act.Gather t) x r i n e = refl
hubs-act d (act.Turn t) x r i n e = refl
hubs-act d (act.Stamp t) x r i n e = refl
hubs-act d (act.Writes c items values) x r i n e = absurd (client-no-hub (group_nodes d c items r) x i (λ o. group-not-hub d c items r o i) e)
hubs-act d _ x r i n e = absurd (cc)

pub copies-have-homes : CopiesHaveHomes
copies-have-homes d lists i g k j st n there home one =
    let b : IsBeside (AtGear i g) k.act = beside d k.act (given_of k.handed) k.answer (AtGear i g) st n in
    let shared : is_shared j.act ≡ true = ap is_shared (sym one.act) ∙ b.joint in
    let hubs : is_hubs_act j.act ≡ true = hubs-act d j.act (given_of j.handed) j.answer i shared home in (
      AtHub i,
      j,
      there,
      home,
      ap (λ (ns : List Node). has same_node ns (AtGear i g)) (hub-nodes d j.act (given_of j.handed) (given_of k.handed) j.answer hubs) ∙ (stands_two (sym one.act) (sym one.answer) ∙ st),
      one,
    )
  where
    stands_two : {a b : Act} {q r : Answer} → a ≡ b → q ≡ r → has same_node (nodes d a (given_of k.handed) q) (AtGear i g) ≡ has same_node (nodes d b (given_of k.handed) r) (AtGear i g)
    stands_two e f = λ t. has same_node (nodes d (e t) (given_of k.handed) (f t)) (AtGear i g)

abbrev Written : Deployed → ℕ → Items → ℕ → ℕ → Type 0
Written d i items t g = (same_node (AtGear t (gear_for d items)) (AtGear i g) || has same_node (gear_nodes t (item_gears d t (list_of items))) (AtGear i g)) ≡ true

-- where a done write of several items has its home at a gear of a site, it stands at the gears of its items there
written-there : (d : Deployed) (c : ℕ) (items : Items) (values : List (List ℕ)) (x : Given) (l : Label) (i h g : ℕ) → is_first (AtGear i h) (nodes d (act.Writes c items values) x (ans.Wrote l)) ≡ true →
    has same_node (gear_nodes i (item_gears d i (list_of items))) (AtGear i g) ≡ true → has same_node (nodes d (act.Writes c items values) x (ans.Wrote l)) (AtGear i g) ≡ true
written-there d c items values (OfClient seen None) l i h g e w = absurd (cc)
written-there d c items values (OfClient seen (Some t)) l i h g e w =
    subst (λ (t : ℕ). Written d i items t g) (sym (eqb-true t i (and_parts (t == i) (gear_for d items == h) e).0)) (or_right (same_node (AtGear i (gear_for d items)) (AtGear i g)) (has same_node (gear_nodes i (item_gears d i (list_of items))) (AtGear i g)) w)
written-there d c items values _ l i h g e w = absurd (cc)

pub written-have-homes : WrittenHaveHomes
written-have-homes d lists i g h c items values l k j is done listed there home one =
    let act_is : j.act ≡ act.Writes c items values = sym one.act ∙ is in
    let answer_is : j.answer ≡ ans.Wrote l = sym one.answer ∙ done in
    let first : is_first (AtGear i h) (nodes d (act.Writes c items values) (given_of j.handed) (ans.Wrote l)) ≡ true = sym (first_two act_is answer_is) ∙ home in (
      AtGear i h,
      j,
      there,
      home,
      stands_two act_is answer_is ∙ written-there d c items values (given_of j.handed) l i h g first listed,
      one,
    )
  where
    first_two : {a b : Act} {q r : Answer} → a ≡ b → q ≡ r → is_first (AtGear i h) (nodes d a (given_of j.handed) q) ≡ is_first (AtGear i h) (nodes d b (given_of j.handed) r)
    first_two e f = λ t. is_first (AtGear i h) (nodes d (e t) (given_of j.handed) (f t))

    stands_two : {a b : Act} {q r : Answer} → a ≡ b → q ≡ r → has same_node (nodes d a (given_of j.handed) q) (AtGear i g) ≡ has same_node (nodes d b (given_of j.handed) r) (AtGear i g)
    stands_two e f = λ t. has same_node (nodes d (e t) (given_of j.handed) (f t)) (AtGear i g)
