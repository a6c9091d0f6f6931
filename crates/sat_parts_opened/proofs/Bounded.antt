-- Nodes that there are not keep nothing, and no act has a part there.
use Rattle.std.proofs.Common.{◌≡◌, ◌⊎◌, ◌<◌, ◌≤◌, ℕ, Bool, true, false, ◌==◌, ◌&&◌, not, nat_lt, List, [], ◌∷◌, length, Option, Some, None, refl, sym, ap, ◌∙◌, subst, arith, inl, inr}
use Rattle.std.proofs.lemmas.Bool.{and_parts}
use Rattle.std.proofs.lemmas.Bool.Decides.{nat_tests}
use Rattle.sat_label.specs.Grouped.{are_items, list_of}
use Rattle.sat_label.specs.Members.{In}
use Rattle.sat_label.specs.Words.{below}
use Rattle.sat_label.specs.declared.items.Items.{Items}
use Rattle.sat_label.specs.declared.items.Items.TheVariants.{One}
use Rattle.sat_label.specs.declared.node.NodeName.{NodeName}
use Rattle.sat_label.specs.declared.node.NodeName.TheVariants as named
use Rattle.sat_act.specs.Deployed.{Deployed}
use Rattle.sat_act.specs.Answers.{InRange}
use Rattle.sat_act.specs.Limits.{IsDeployment}
use Rattle.sat_model.specs.Fits.{is_carried, is_group}
use Rattle.sat_node.specs.declared.kept.Kept.{Kept as Line}
use Rattle.sat_joint.specs.Pieces.{EachOf, Piece, given_of}
use Rattle.sat_joint.specs.Table.{AtGear, AtHub, Node, home_at, is_shared, stands_in}
use Rattle.sat_joint.specs.Compare.{Share}
use Rattle.sat_joint.proofs.Nodes.{IsBeside, beside, gear-in-range}
use Rattle.sat_hub_laws.specs.Inputs.{GearInput, HubInput}
use Rattle.sat_hub_laws.specs.Inputs as given
use Rattle.sat_hub_laws.specs.Gears.{gear_act, gear_fits, is_own, is_write, write_act}
use Rattle.sat_hub_laws.specs.Hubs.{hub_act}
use Rattle.sat_hub_laws.specs.Lines.{GearLine, GearLineAt, HubLine, HubLineAt, gear_piece, gear_pieces, hub_piece, hub_pieces}
use Rattle.sat_hub_laws.specs.Parts.{PartsAgree, given_parts, home_node, is_given, kept_parts, part_if, part_of, parts_by}
use Rattle.sat_hub_laws.proofs.Lines.{gears-are-homes}
use Rattle.sat_parts.specs.declared.hub_answer.HubAnswer.{HubAnswer}
use Rattle.sat_parts.specs.declared.gear_answer.GearAnswer.{GearAnswer}
use Rattle.sat_parts.specs.Acts.{HubActSeen, GearActSeen}
use Rattle.sat_parts.specs.Lines.{gear_lines, hub_lines}
use Rattle.sat_opened.specs.Laws.{SerialHeld}
use Rattle.sat_opened.proofs.Found.{found-named, look-up}
use Rattle.sat_opened.proofs.Layouts.{in-less, in-mapped, site-below}
use Rattle.sat_opened.proofs.Numbers.{less-is, not-is, same-is}
use Rattle.sat_parts_opened.specs.Opened.{PartsOpened, gears_of, hubs_of, pieces_at}
use Rattle.sat_parts_opened.specs.Laws.{GearHeld, HubHeld}
use Rattle.sat_parts_opened.specs.Within.{AgreeIfWithin, AgreeWithin, WithinIfAgree}
use Rattle.sat_parts_opened.proofs.Hosted.{of-gears, of-hubs}
use Rattle.sat_parts_opened.proofs.Named.{in-rows}
use Rattle.sat_parts_opened.proofs.Whole.{opened-are-hosts}
use Rattle.sat_parts.specs.Layout.{gear_names, site_gears}

-- ---- parts of no piece

none-parts : (is : Piece → Bool) (share : List Piece → Piece → Share) (ks : List Piece) → ((k : Piece) → In ks k → is k ≡ false) → parts_by is share ks ≡ []
none-parts is share [] f = refl
none-parts is share (k ∷ ks) f =
    ap (λ (b : Bool). part_if b (part_of k (share ks k)) (parts_by is share ks)) (f k (inl refl)) ∙ none-parts is share ks (λ x m. f x (inr m))

never : (b : Bool) → (b ≡ true → ⊥) → b ≡ false
never true f = absurd (f refl)
never false f = refl

too-far : (g n : ℕ) → g < n → n ≤ g → ⊥
too-far g n a b = omega arith

-- ---- acts with several nodes are in range

hub-range : (d : Deployed) (i c : ℕ) (input : HubInput) → i < d.sites → is_shared (hub_act i c input) ≡ true → InRange d (hub_act i c input)
hub-range d i c (given.Gather f) lt e = lt
hub-range d i c (given.Turn front) lt e = lt
hub-range d i c given.Stamp lt e = lt
hub-range d i c _ lt e = absurd (cc)

write-range : (d : Deployed) (c : ℕ) (items : Items) (values : List (List ℕ)) → is_write d items values ≡ true → InRange d (write_act c items values)
write-range d c (One x) (value ∷ []) e = tt
write-range d c items values e =
    let both : (is_group d items ≡ true) × ((length values == length (list_of items)) ≡ true) = and_parts (is_group d items) (length values == length (list_of items)) e in
    (same-is (length values) (length (list_of items)) both.1, (and_parts (are_items (list_of items)) _ both.0).0)

gear-range : (d : Deployed) (i g c : ℕ) (input : GearInput) → gear_fits d g input ≡ true → is_own d g input ≡ true → is_shared (gear_act i g c input) ≡ true → InRange d (gear_act i g c input)
gear-range d i g c (given.Write seen items values) f o e = write-range d c items values (and_parts (is_write d items values) _ (and_parts (is_carried d seen) _ f).1).0
gear-range d i g c (given.Tick ts) f o e = absurd (cc)
gear-range d i g c (given.Read seen x) f o e = absurd (cc)
gear-range d i g c (given.Move seen j) f o e = absurd (cc)
gear-range d i g c (given.Drain x labels stable) f o e = absurd (cc)
gear-range d i g c (given.Show by p) f o e = absurd (cc)

-- a node beside the home of an act is a gear of the deployment
beside-below : (d : Deployed) (i g : ℕ) (k : Piece) → IsDeployment d → (is_shared k.act ≡ true → InRange d k.act) → stands_in d (AtGear i g) k ≡ true → home_at d (AtGear i g) k ≡ false → g < d.gears
beside-below d i g k dep range s n =
    let b : IsBeside (AtGear i g) k.act = beside d k.act (given_of k.handed) k.answer (AtGear i g) s n in
    gear-in-range d k.act (given_of k.handed) k.answer i g dep.some_gear (range b.joint) s

given-nowhere : (d : Deployed) (i g : ℕ) (o : Option ℕ) (k : Piece) → IsDeployment d → d.gears ≤ g → (home_at d (home_node i o) k ≡ true → is_shared k.act ≡ true → InRange d k.act) → is_given d i g o k ≡ false
given-nowhere d i g o k dep le range =
    never (is_given d i g o k) (λ e.
    let w = and_parts (home_at d (home_node i o) k) (stands_in d (AtGear i g) k && not (home_at d (AtGear i g) k)) e in
    let v = and_parts (stands_in d (AtGear i g) k) (not (home_at d (AtGear i g) k)) w.1 in
    too-far g d.gears (beside-below d i g k dep (range w.0) v.0 (not-is (home_at d (AtGear i g) k) v.1)) le)

-- ---- pieces of lines

each-hub : (i : ℕ) (P : List HubLine → HubLine → Type 0) (Q : Piece → Type 0) (ks : List HubLine) → ((before : List HubLine) (k : HubLine) → P before k → Q (hub_piece i k)) → EachOf P ks → (k : Piece) → In (hub_pieces i ks) k → Q k
each-hub i P Q [] f e k w = absurd w
each-hub i P Q (x ∷ ks) f e k (inl w) = subst Q w (f ks x e.1)
each-hub i P Q (x ∷ ks) f e k (inr w) = each-hub i P Q ks f e.0 k w

each-gear : (i g : ℕ) (P : List GearLine → GearLine → Type 0) (Q : Piece → Type 0) (ks : List GearLine) → ((before : List GearLine) (k : GearLine) → P before k → Q (gear_piece i g k)) → EachOf P ks → (k : Piece) → In (gear_pieces i g ks) k → Q k
each-gear i g P Q [] f e k w = absurd w
each-gear i g P Q (x ∷ ks) f e k (inl w) = subst Q w (f ks x e.1)
each-gear i g P Q (x ∷ ks) f e k (inr w) = each-gear i g P Q ks f e.0 k w

-- ---- nodes that there are not

gear-one : (i j g h : ℕ) → named.Gear i g ≡ named.Gear j h → (i ≡ j) × (g ≡ h)
gear-one i j g h e = let a : i ≡ j = cc in let b : g ≡ h = cc in (a, b)

gear-below : (d : Deployed) (i g : ℕ) → In (gear_names d) (named.Gear i g) → (i < d.sites) × (g < d.gears)
gear-below d i g m =
    let w : (j : ℕ) × In (below d.sites) j × In (site_gears d.gears j) (named.Gear i g) = in-rows (site_gears d.gears) (below d.sites) (named.Gear i g) m in
    let v : (h : ℕ) × In (below d.gears) h × (named.Gear w.0 h ≡ named.Gear i g) = in-mapped (named.Gear w.0) (below d.gears) (named.Gear i g) w.2 in
    let e : (w.0 ≡ i) × (v.0 ≡ g) = gear-one w.0 i v.0 g v.2 in
    (subst (λ (n : ℕ). n < d.sites) e.0 (in-less d.sites w.0 w.1), subst (λ (n : ℕ). n < d.gears) e.1 (in-less d.gears v.0 v.1))

not-more : (a b : ℕ) → nat_lt a b ≡ false → b ≤ a
not-more a b e = grind (arith, nat_tests)

module _ (d : Deployed) (hubs : List HubHeld) (gears : List GearHeld) (serials : List SerialHeld) (alone : ℕ → List Piece) (all : PartsOpened d hubs gears serials) where
  abbrev lists : Node → List Piece
  lists = pieces_at hubs gears serials alone

  no-hub : (i : ℕ) → d.sites ≤ i → lists (AtHub i) ≡ []
  no-hub i le = elim (look-up (named.Site i) hubs) [
    | inl f ↦ absurd (too-far i d.sites (site-below d.sites i (subst (λ (ns : List NodeName). In ns (named.Site i)) all.all_hubs (found-named (named.Site i) hubs f))) le)
    | inr none ↦ ap (λ (es : List (Line HubActSeen HubAnswer)). hub_pieces i (hub_lines es)) none
  ]

  no-gear : (i g : ℕ) → (d.sites ≤ i) ⊎ (d.gears ≤ g) → lists (AtGear i g) ≡ []
  no-gear i g out = elim (look-up (named.Gear i g) gears) [
    | inr none ↦ ap (λ (es : List (Line GearActSeen GearAnswer)). gear_pieces i g (gear_lines es)) none
    | inl f ↦ (let w : (i < d.sites) × (g < d.gears) = gear-below d i g (subst (λ (ns : List NodeName). In ns (named.Gear i g)) all.all_gears (found-named (named.Gear i g) gears f)) in
        elim out [ inl le ↦ absurd (too-far i d.sites w.0 le) | inr le ↦ absurd (too-far g d.gears w.1 le) ])
  ]

  no-home : (i : ℕ) (o : Option ℕ) → d.sites ≤ i → lists (home_node i o) ≡ []
  no-home i None le = no-hub i le
  no-home i (Some h) le = no-gear i h (inl le)

  -- no home keeps a part at a gear that there is not
  nothing-given : (i g : ℕ) (o : Option ℕ) → IsDeployment d → d.gears ≤ g → given_parts d i g o (lists (home_node i o)) ≡ []
  nothing-given i g None dep le =
      none-parts _ _ (lists (AtHub i)) (each-hub i (HubLineAt d i) (λ k. is_given d i g None k ≡ false) (hubs_of hubs i)
      (λ before k l. given-nowhere d i g None (hub_piece i k) dep le (λ home shared. hub-range d i k.client k.input l.site shared)) (of-hubs d hubs gears serials (opened-are-hosts d hubs gears serials all) i).lines)
  nothing-given i g (Some h) dep le =
      none-parts _ _ (lists (AtGear i h)) (each-gear i h (GearLineAt d i h) (λ k. is_given d i g (Some h) k ≡ false) (gears_of gears i h)
      (λ before k l. given-nowhere d i g (Some h) (gear_piece i h k) dep le (λ home shared. gear-range d i h k.client k.input l.fits (sym (gears-are-homes d i h k.client k.input k.answer) ∙ home) shared)) (of-gears d hubs gears serials (opened-are-hosts d hubs gears serials all) i h).lines)

  given-none : (i g : ℕ) (o : Option ℕ) (ks : List Piece) → ks ≡ [] → given_parts d i g o ks ≡ []
  given-none i g o ks e = ap (given_parts d i g o) e

  kept-none : (i g : ℕ) (o : Option ℕ) (ks : List Piece) → ks ≡ [] → kept_parts d i g o ks ≡ []
  kept-none i g o ks e = ap (kept_parts d i g o) e

  within-agrees : IsDeployment d → AgreeWithin d lists → PartsAgree d lists
  within-agrees dep within i g o = site (nat_lt i d.sites) refl
    where
      home : (o : Option ℕ) → i < d.sites → g < d.gears → given_parts d i g o (lists (home_node i o)) ≡ kept_parts d i g o (lists (AtGear i g))
      home None lt less = within.pairs i g None lt less tt
      home (Some h) lt less = go (nat_lt h d.gears) refl
        where
          go : (b : Bool) → nat_lt h d.gears ≡ b → given_parts d i g (Some h) (lists (AtGear i h)) ≡ kept_parts d i g (Some h) (lists (AtGear i g))
          go true e = within.pairs i g (Some h) lt less (less-is h d.gears e)
          go false e = given-none i g (Some h) (lists (AtGear i h)) (no-gear i h (inr (not-more h d.gears e))) ∙ sym (within.homes i g h lt less (not-more h d.gears e))

      gear : (b : Bool) → nat_lt g d.gears ≡ b → i < d.sites → given_parts d i g o (lists (home_node i o)) ≡ kept_parts d i g o (lists (AtGear i g))
      gear true e lt = home o lt (less-is g d.gears e)
      gear false e lt = nothing-given i g o dep (not-more g d.gears e) ∙ sym (kept-none i g o (lists (AtGear i g)) (no-gear i g (inr (not-more g d.gears e))))

      site : (b : Bool) → nat_lt i d.sites ≡ b → given_parts d i g o (lists (home_node i o)) ≡ kept_parts d i g o (lists (AtGear i g))
      site true e = gear (nat_lt g d.gears) refl (less-is i d.sites e)
      site false e = given-none i g o (lists (home_node i o)) (no-home i o (not-more i d.sites e)) ∙ sym (kept-none i g o (lists (AtGear i g)) (no-gear i g (inl (not-more i d.sites e))))

pub agree-if-within : AgreeIfWithin
agree-if-within d hubs gears serials alone dep all within = within-agrees d hubs gears serials alone all dep within

pub within-if-agree : WithinIfAgree
within-if-agree d hubs gears serials alone all agree = record {
  pairs = λ i g o lt less home. agree i g o;
  homes = λ i g h lt less le. sym (agree i g (Some h)) ∙ given-none d hubs gears serials alone all i g (Some h) (pieces_at hubs gears serials alone (AtGear i h)) (no-gear d hubs gears serials alone all i h (inr le));
}
