-- Where the parts of gears and homes are one, acts are joined.
use Rattle.std.specs.Prelude.{◌≡◌, ◌⊎◌, ◌<◌, ℕ, Bool, true, false, ◌&&◌, not, List, [], ◌∷◌, ◌++◌, Option, Some, None, refl}
use Rattle.std.proofs.Common.{sym, subst, ap, ◌∙◌, inl, inr}
use Rattle.std.proofs.lemmas.Bool.{and_from, and_parts}
use Rattle.sat_label.proofs.Truth.{same-number}
use Rattle.sat_label.specs.Members.{In}
use Rattle.sat_act.specs.declared.act.Act.{Act}
use Rattle.sat_act.specs.declared.act.Act.TheVariants as act
use Rattle.sat_act.specs.Deployed.{Deployed}
use Rattle.sat_joint.specs.Pieces.{Piece, Rises, EachOf, number_of, given_of}
use Rattle.sat_joint.specs.Table.{Node, AtGear, nodes, stands_in, home_at}
use Rattle.sat_joint.specs.Machines.{gear_after}
use Rattle.sat_joint.specs.Joint.{AreOne, AllJoin, AnswersAtHome, HasHome}
use Rattle.sat_hub_laws.specs.Inputs as given
use Rattle.sat_joint.specs.Compare.{Gave, Share, gear_share, home_share, IsSamePart, AllSameParts}
use Rattle.sat_joint.proofs.Compare.{same-parts-join}
use Rattle.sat_joint.proofs.Nodes.{home_by, IsBeside, beside, shared-home, home-one}
use Rattle.sat_joint.proofs.Pieces.{join-one, each-of}
use Rattle.sat_hub_laws.specs.Parts.{Part, part_number, part_of, part_if, parts_by, home_node, written_at, same_home, is_given, is_kept, given_parts, kept_parts, PartsAgree, PartsJoin, PartsHaveHomes, PartsRise, InputsShare}

-- ---- parts of a list

module _ (is : Piece → Bool) (share : List Piece → Piece → Share) where
  -- a part comes from a piece
  pub record ComesFrom (ks : List Piece) (p : Part) : Type 0 where
    pub piece : Piece
    pub later : List Piece
    pub before : List Piece
    pub there : ks ≡ later ++ piece ∷ before
    pub test : is piece ≡ true
    pub part : part_of piece (share before piece) ≡ p

  pub from-parts : (ks : List Piece) (p : Part) → In (parts_by is share ks) p → ComesFrom ks p
  from-parts [] p w = absurd w
  from-parts (k ∷ ks) p w = go (is k) refl w (from-parts ks p)
    where
      more : ComesFrom ks p → ComesFrom (k ∷ ks) p
      more c = record { piece = c.piece; later = k ∷ c.later; before = c.before; there = ap (λ (xs : List Piece). k ∷ xs) c.there; test = c.test; part = c.part }

      go : (b : Bool) → is k ≡ b → In (part_if b (part_of k (share ks k)) (parts_by is share ks)) p → (In (parts_by is share ks) p → ComesFrom ks p) → ComesFrom (k ∷ ks) p
      go true e (inl q) rest = record { piece = k; later = []; before = ks; there = refl; test = e; part = q }
      go true e (inr q) rest = more (rest q)
      go false e q rest = more (rest q)

  pub in-parts : (later : List Piece) (k : Piece) (before : List Piece) → is k ≡ true → In (parts_by is share (later ++ k ∷ before)) (part_of k (share before k))
  in-parts [] k before e = subst (λ (b : Bool). In (part_if b (part_of k (share before k)) (parts_by is share before)) (part_of k (share before k))) (sym e) (inl refl)
  in-parts (x ∷ later) k before e = go (is x) (in-parts later k before e)
    where
      go : (b : Bool) → In (parts_by is share (later ++ k ∷ before)) (part_of k (share before k)) →
          In (part_if b (part_of x (share (later ++ k ∷ before) x)) (parts_by is share (later ++ k ∷ before))) (part_of k (share before k))
      go true w = inr w
      go false w = w

  -- the piece of a part stands in the list
  pub from-in : (ks : List Piece) (p : Part) → ComesFrom ks p → (k : Piece) × In ks k × (number_of k ≡ part_number p)
  from-in ks p c = (c.piece, subst (λ (xs : List Piece). In xs c.piece) (sym c.there) (right c.later), ap part_number c.part)
    where
      right : (later : List Piece) → In (later ++ c.piece ∷ c.before) c.piece
      right [] = inl refl
      right (x ∷ later) = inr (right later)

  pub rise : (ks : List Piece) → Rises number_of ks → Rises part_number (parts_by is share ks)
  rise [] r = tt
  rise (k ∷ ks) r = go (is k) (rise ks r.0)
    where
      above : (p : Part) → In (parts_by is share ks) p → part_number p < number_of k
      above p w = let f : (x : Piece) × In ks x × (number_of x ≡ part_number p) = from-in ks p (from-parts ks p w) in subst (λ (n : ℕ). n < number_of k) f.2 (r.1 f.0 f.1)

      go : (b : Bool) → Rises part_number (parts_by is share ks) → Rises part_number (part_if b (part_of k (share ks k)) (parts_by is share ks))
      go true w = (w, above)
      go false w = w

pub parts-rise : PartsRise
parts-rise is share ks r = rise is share ks r

-- ---- where a member stands

each-split : {X : Type 0} (P : List X → X → Type 0) (all later ks : List X) → all ≡ later ++ ks → ((later rest : List X) (k : X) → all ≡ later ++ k ∷ rest → P rest k) → EachOf P ks
each-split P all later [] w f = tt
each-split {X} P all later (k ∷ ks) w f = (each-split P all (later ++ k ∷ []) ks (w ∙ join-one later k ks) f, f later ks k w)

pub record Stands (ks : List Piece) (k : Piece) : Type 0 where
  pub later : List Piece
  pub before : List Piece
  pub is : ks ≡ later ++ k ∷ before

pub in-stands : (ks : List Piece) (k : Piece) → In ks k → Stands ks k
in-stands [] k w = absurd w
in-stands (x ∷ ks) k (inl e) = record { later = []; before = ks; is = ap (λ (z : Piece). z ∷ ks) e }
in-stands (x ∷ ks) k (inr w) = let s : Stands ks k = in-stands ks k w in record { later = x ∷ s.later; before = s.before; is = ap (λ (xs : List Piece). x ∷ xs) s.is }

-- ---- homes

not-false : (b : Bool) → b ≡ false → not b ≡ true
not-false b e = ap not e

same-home : (o : Option ℕ) → same_home o o ≡ true
same-home None = refl
same-home (Some g) = same-number g

-- the home of an act that has a part at a gear of site i is among those that are compared
pub shared-node : (d : Deployed) (a : Act) (i : ℕ) → (o : Option ℕ) × (home_by d a i ≡ home_node i o)
shared-node d (act.Writes c items values) i = (Some _, refl)
shared-node d _ i = (None, refl)

gear-here : (i g k h : ℕ) → AtGear i g ≡ AtGear k h → i ≡ k
gear-here i g k h e = cc

part-parts : (x y : Piece) (a b : Share) → part_of x a ≡ part_of y b → AreOne x y × (a ≡ b)
part-parts x y a b e = (record { number = ap part_number e; act = ap (λ (p : Part). p.act) e; answer = ap (λ (p : Part). p.answer) e }, ap (λ (p : Part). p.share) e)

module _ (d : Deployed) (lists : Node → List Piece) (agree : PartsAgree d lists) where
  -- a gear's part of what its home kept
  same-part : (i g : ℕ) (o : Option ℕ) (later before : List Piece) (k : Piece) → lists (home_node i o) ≡ later ++ k ∷ before → home_at d (home_node i o) k ≡ true → stands_in d (AtGear i g) k ≡ true →
      home_at d (AtGear i g) k ≡ false → IsSamePart d lists (home_node i o) i g before k
  same-part i g o later before k w h s n =
      let test : is_given d i g o k ≡ true = and_from (home_at d (home_node i o) k) (stands_in d (AtGear i g) k && not (home_at d (AtGear i g) k)) h
      (and_from (stands_in d (AtGear i g) k) (not (home_at d (AtGear i g) k)) s (not-false (home_at d (AtGear i g) k) n)) in
      let given : In (given_parts d i g o (lists (home_node i o))) (part_of k (home_share d (home_node i o) before g k)) =
      subst (λ (ks : List Piece). In (given_parts d i g o ks) (part_of k (home_share d (home_node i o) before g k))) (sym w) (in-parts (is_given d i g o) (λ before k. home_share d (home_node i o) before g k) later k before test) in
      let kept : In (kept_parts d i g o (lists (AtGear i g))) (part_of k (home_share d (home_node i o) before g k)) =
      subst (λ (ps : List Part). In ps (part_of k (home_share d (home_node i o) before g k))) (agree i g o) given in
      let c : ComesFrom (is_kept d i g o) (λ before k. gear_share (gear_after d g before) k.handed) (lists (AtGear i g)) (part_of k (home_share d (home_node i o) before g k)) =
      from-parts (is_kept d i g o) (λ before k. gear_share (gear_after d g before) k.handed) (lists (AtGear i g)) (part_of k (home_share d (home_node i o) before g k)) kept in
      let both : AreOne c.piece k × (gear_share (gear_after d g c.before) c.piece.handed ≡ home_share d (home_node i o) before g k) =
      part-parts c.piece k (gear_share (gear_after d g c.before) c.piece.handed) (home_share d (home_node i o) before g k) c.part in
      record { piece = c.piece; former = c.before; there = record { later = c.later; is = c.there }; one = both.0; share = both.1 }

  all-same : (q : Node) (later before : List Piece) (k : Piece) → lists q ≡ later ++ k ∷ before → home_at d q k ≡ true → AllSameParts d lists q before k
  all-same q later before k w h i g s n =
      let b : IsBeside (AtGear i g) k.act = beside d k.act (given_of k.handed) k.answer (AtGear i g) s n in
      let home : home_at d (home_by d k.act i) k ≡ true = shared-home d k.act i g (given_of k.handed) k.answer b.joint s in
      let node : (o : Option ℕ) × (home_by d k.act i ≡ home_node i o) = shared-node d k.act i in
      let is : home_node i node.0 ≡ q = sym node.1 ∙ home-one (nodes d k.act (given_of k.handed) k.answer) (home_by d k.act i) q home h in
      subst (λ (q : Node). IsSamePart d lists q i g before k) is (same-part i g node.0 later before k (ap lists is ∙ w) (ap (λ (q : Node). home_at d q k) is ∙ h) s n)

  join-all : ((q : Node) → EachOf (AnswersAtHome d lists q) (lists q)) → (q : Node) → EachOf (AllJoin d lists q) (lists q)
  join-all f q = each-split (AllJoin d lists q) (lists q) [] (lists q) refl (λ later rest k w h.
      same-parts-join d lists q rest k (each-of (AnswersAtHome d lists q) later k rest (subst (λ (ks : List Piece). EachOf (AnswersAtHome d lists q) ks) w (f q)) h) (all-same q later rest k w h) h)

  -- the home of a gear's part
  has-home : (i g : ℕ) (k : Piece) → In (lists (AtGear i g)) k → home_at d (AtGear i g) k ≡ false → HasHome d lists (AtGear i g) k
  has-home i g k w n =
      let o : Option ℕ = written_at k.answer in
      let s : Stands (lists (AtGear i g)) k = in-stands (lists (AtGear i g)) k w in
      let test : is_kept d i g o k ≡ true = and_from (not (home_at d (AtGear i g) k)) (same_home (written_at k.answer) o) (not-false (home_at d (AtGear i g) k) n) (same-home o) in
      let kept : In (kept_parts d i g o (lists (AtGear i g))) (part_of k (gear_share (gear_after d g s.before) k.handed)) =
      subst (λ (ks : List Piece). In (kept_parts d i g o ks) (part_of k (gear_share (gear_after d g s.before) k.handed))) (sym s.is) (in-parts (is_kept d i g o) (λ before k. gear_share (gear_after d g before) k.handed) s.later k s.before test) in
      let given : In (given_parts d i g o (lists (home_node i o))) (part_of k (gear_share (gear_after d g s.before) k.handed)) =
      subst (λ (ps : List Part). In ps (part_of k (gear_share (gear_after d g s.before) k.handed))) (sym (agree i g o)) kept in
      let c : ComesFrom (is_given d i g o) (λ before k. home_share d (home_node i o) before g k) (lists (home_node i o)) (part_of k (gear_share (gear_after d g s.before) k.handed)) =
      from-parts (is_given d i g o) (λ before k. home_share d (home_node i o) before g k) (lists (home_node i o)) (part_of k (gear_share (gear_after d g s.before) k.handed)) given in
      let both : AreOne c.piece k × (home_share d (home_node i o) c.before g c.piece ≡ gear_share (gear_after d g s.before) k.handed) =
      part-parts c.piece k (home_share d (home_node i o) c.before g c.piece) (gear_share (gear_after d g s.before) k.handed) c.part in
      let tests : (home_at d (home_node i o) c.piece ≡ true) × ((stands_in d (AtGear i g) c.piece && not (home_at d (AtGear i g) c.piece)) ≡ true) =
      and_parts (home_at d (home_node i o) c.piece) (stands_in d (AtGear i g) c.piece && not (home_at d (AtGear i g) c.piece)) c.test in
      let there : In (lists (home_node i o)) c.piece = in-list (lists (home_node i o)) c.piece c.later c.before c.there in (
        home_node i o,
        c.piece,
        there,
        tests.0,
        (and_parts (stands_in d (AtGear i g) c.piece) (not (home_at d (AtGear i g) c.piece)) tests.1).0,
        record { number = sym both.0.number; act = sym both.0.act; answer = sym both.0.answer },
      )
    where
      right : (later : List Piece) (k : Piece) (before : List Piece) → In (later ++ k ∷ before) k
      right [] k before = inl refl
      right (x ∷ later) k before = inr (right later k before)

      in-list : (ks : List Piece) (k : Piece) (later before : List Piece) → ks ≡ later ++ k ∷ before → In ks k
      in-list ks k later before e = subst (λ (xs : List Piece). In xs k) (sym e) (right later k before)

pub parts-join : PartsJoin
parts-join d lists agree f q = join-all d lists agree f q

pub parts-have-homes : PartsHaveHomes
parts-have-homes d lists agree i g k w = go (home_at d (AtGear i g) k) refl
  where
    go : (b : Bool) → home_at d (AtGear i g) k ≡ b → (home_at d (AtGear i g) k ≡ true) ⊎ HasHome d lists (AtGear i g) k
    go true e = inl e
    go false e = inr (has-home d lists agree i g k w e)

-- ---- shares of inputs

pub inputs-share : InputsShare
inputs-share i n (given.Drain f labels stable) own = ap Gave (sym own)
inputs-share i n (given.Show by p) own = refl
inputs-share i n _ own = refl
