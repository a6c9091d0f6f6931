-- What a hub hears, one link after the other.
use Rattle.std.proofs.Common.{◌≡◌, ◌≢◌, ℕ, zero, suc, ◌+◌, ◌*◌, ◌-◌, ◌<◌, ◌≤◌, ◌==◌, ◌&&◌, ◌||◌, nat_le, nat_lt, Bool, true, false, List, [], ◌∷◌, ◌++◌, length, map, Option, Some, None, slice_get, inl, inr, refl, sym, ap, ◌∙◌, subst, append_assoc, arith}
use Rattle.std.specs.List.{flat_map}
use Rattle.std.proofs.lemmas.Bool.{cases_Bool, cases_eq, ltb-true}
use Rattle.std.proofs.lemmas.Bool.Decides.{nat_tests}
use Rattle.std.proofs.lemmas.List.{append-nil, map-append}
use Rattle.std.proofs.lemmas.List.Concat.{flat_map-append}
use Rattle.std.proofs.lemmas.Option.{slice_get_within}
use Rattle.sat_label.specs.declared.node.NodeName.{NodeName}
use Rattle.sat_label.specs.Words.{below}
use Rattle.sat_act.specs.Deployed.{Deployed}
use Rattle.sat_node.specs.Links.{Both, InSeen, OnlyAt}
use Rattle.sat_node.proofs.Members.{both_same, both_then}
use Rattle.sat_machines.specs.Layout.{peer, site_links}
use Rattle.sat_machines.specs.Sites.{number_of}
use Rattle.sat_parts.specs.Layout.{lane_end}
use Rattle.sat_parts_passes.specs.Sendings.{HubHeld, HubKept}
use Rattle.sat_parts_hearing.specs.declared.ends.Source.{Source}
use Rattle.sat_parts_hearing.specs.declared.ends.Source.TheVariants as source
use Rattle.sat_parts_hearing.specs.Along.{ComeOver, HeardFrom, HeardGears, HeardLink, HeardSite, IsEnd, is_lane, is_of_first, is_of_site}
use Rattle.sat_parts_hearing.specs.Hearings.{Came, Hears, HearsAll, IsEmptied, IsHeard, came_at, came_from, came_over, end_of, hears_at, sources, sources_of}
use Rattle.sat_parts_hearing.proofs.Lanes.{links_beyond}
use Rattle.sat_parts_hearing.proofs.Hearing.{get_none, get_there, hears_append}
use Rattle.sat_parts_hearing.proofs.Numbers.{first_beyond, first_more, first_none, first_not, next_product, not_one, rank_peer, same_one, within_more, within_none, within_not}

-- ---- members that stay

-- where members were not changed, they stand there as before
get-same : {X : Type 0} (a b : List X) (k : ℕ) → length b ≡ length a → ((y : X) → slice_get b k ≡ Some y → slice_get a k ≡ Some y) → slice_get b k ≡ slice_get a k
get-same {X} a b k same each = go (slice_get b k) refl where
  go : (o : Option X) → slice_get b k ≡ o → slice_get b k ≡ slice_get a k
  go None e = e ∙ sym (get_none a k (behind e)) where
    behind : slice_get b k ≡ None → length a ≤ k
    behind e = elim (cases_Bool (nat_lt k (length b))) [
      | inl less ↦ absurd (let there = get_there b k (ltb-true _ _ less) in let wrong : None ≡ Some there.0 = sym e ∙ there.1 in cc (wrong))
      | inr more ↦ grind (arith, nat_tests)
    ]
  go (Some y) e = e ∙ sym (each y e)

-- a link stays over which nothing was heard
link-same : (test : ℕ → Bool) (a b : List InSeen) (k : ℕ) → Both (λ k j i. IsHeard (test k) j i) a b → test k ≡ false → slice_get b k ≡ slice_get a k
link-same test a b k ab other = get-same a b k ab.0 (λ y at. let h = ab.1 k y at in h.1 ∙ ap Some (sym (go (test k) h.0 y other h.2))) where
  go : (t : Bool) (j i : InSeen) → t ≡ false → IsHeard t j i → i ≡ j
  go true j i e h = absurd (cc (e))
  go false j i e h = h

-- ---- one behind the other

heard-both : (p q : Bool) (x y z : InSeen) → (q ≡ true → p ≡ false) → IsHeard p x y → IsHeard q y z → IsHeard (p || q) x z
heard-both true true x y z apart xy yz = absurd (let wrong : true ≡ false = apart refl in cc (wrong))
heard-both true false x y z apart xy yz = subst (λ (w : InSeen). IsEmptied x w) (sym yz) xy
heard-both false true x y z apart xy yz = subst (λ (w : InSeen). IsEmptied w z) xy yz
heard-both false false x y z apart xy yz = yz ∙ xy

or-left : (p q : Bool) → p ≡ true → (p || q) ≡ true
or-left true q e = refl
or-left false q e = absurd (cc (e))

or-right : (p q : Bool) → q ≡ true → (p || q) ≡ true
or-right true q e = refl
or-right false q e = e

over-as : (d : Deployed) (i : ℕ) (p r : ℕ → Bool) (ss : List Source) → ((k : ℕ) → p k ≡ true → r k ≡ true) → ComeOver d i p ss → ComeOver d i r ss
over-as d i p r [] more over = tt
over-as d i p r (s ∷ ss) more over = (more (end_of d i s) over.0, over-as d i p r ss more over.1)

over-append : (d : Deployed) (i : ℕ) (r : ℕ → Bool) (ss ts : List Source) → ComeOver d i r ss → ComeOver d i r ts → ComeOver d i r (ss ++ ts)
over-append d i r [] ts a b = b
over-append d i r (s ∷ ss) ts a b = (a.0, over-append d i r ss ts a.1 b)

-- what came over some ends, where these stood before or stay behind it
came-as : (d : Deployed) (i : ℕ) (p : ℕ → Bool) (a b e f : List InSeen) (ss : List Source) → ((k : ℕ) → p k ≡ true → slice_get e k ≡ slice_get a k) → ((k : ℕ) → p k ≡ true → slice_get f k ≡ slice_get b k) → ComeOver d i p ss
    → came_over d i e f ss ≡ came_over d i a b ss
came-as d i p a b e f [] old new over = refl
came-as d i p a b e f (s ∷ ss) old new over =
    (λ n. came_at s (old (end_of d i s) over.0 n) (new (end_of d i s) over.0 n) ++ came_over d i e f ss)
    ∙ ap (λ (l : List Came). came_from d i a b s ++ l) (came-as d i p a b e f ss old new over.1)

not-both : (p q : Bool) → (q ≡ true → p ≡ false) → p ≡ true → q ≡ false
not-both true true apart e = absurd (let wrong : true ≡ false = apart refl in cc (wrong))
not-both true false apart e = refl
not-both false q apart e = absurd (cc (e))

module _ (d : Deployed) (p q r : ℕ → Bool) (ss ts : List Source) (apart : (k : ℕ) → q k ≡ true → p k ≡ false) (either : (k : ℕ) → r k ≡ (p k || q k)) where
  pub heard_both : (a b c : HubHeld) → HeardFrom d p ss a b → HeardFrom d q ts b c → HeardFrom d r (ss ++ ts) a c
  heard_both a b c ab bc =
      let i = number_of a.node.name in
      let m = ab.added in let l = bc.added in
      let over : ComeOver d i q ts = subst (λ (n : NodeName). ComeOver d (number_of n) q ts) ab.name bc.ends in
      let first : Hears d a.node.name a.node.entries (came_over d i a.ins c.ins ss) m.0 =
      subst (λ (x : List Came). Hears d a.node.name a.node.entries x m.0)
      (sym (came-as d i p a.ins b.ins a.ins c.ins ss (λ k e. refl) (λ k e. link-same q b.ins c.ins k bc.ins (not-both (p k) (q k) (apart k) e)) ab.ends)) m.2 in
      let moved : Hears d a.node.name (a.node.entries ++ m.0) (came_over d i b.ins c.ins ts) l.0 =
      subst (λ (x : NodeName × List HubKept). Hears d x.0 x.1 (came_over d (number_of x.0) b.ins c.ins ts) l.0) (λ n. (ab.name n, m.1 n)) l.2 in
      let second : Hears d a.node.name (a.node.entries ++ m.0) (came_over d i a.ins c.ins ts) l.0 =
      subst (λ (x : List Came). Hears d a.node.name (a.node.entries ++ m.0) x l.0)
      (came-as d i q a.ins c.ins b.ins c.ins ts (λ k e. link-same p a.ins b.ins k ab.ins (apart k e)) (λ k e. refl) over) moved in
      record {
        name = bc.name ∙ ab.name;
        outs = bc.outs ∙ ab.outs;
        ends = over-append d i r ss ts (over-as d i p r ss (λ k e. either k ∙ or-left (p k) (q k) e) ab.ends) (over-as d i q r ts (λ k e. either k ∙ or-right (p k) (q k) e) over);
        added = (
          m.0 ++ l.0,
          l.1 ∙ (ap (λ (x : List HubKept). x ++ l.0) m.1 ∙ append_assoc a.node.entries m.0 l.0),
          subst (λ (x : List Came). Hears d a.node.name a.node.entries x (m.0 ++ l.0)) (sym (flat_map-append (came_from d i a.ins c.ins) ss ts))
              (hears_append d a.node.name a.node.entries (came_over d i a.ins c.ins ss) (came_over d i a.ins c.ins ts) m.0 l.0 first second),
        );
        ins = both_then (λ k j i. IsHeard (p k) j i) (λ k j i. IsHeard (q k) j i) (λ k j i. IsHeard (r k) j i) a.ins b.ins c.ins
            (λ k x y z xy yz. subst (λ (t : Bool). IsHeard t x z) (sym (either k)) (heard-both (p k) (q k) x y z (apart k) xy yz)) ab.ins bc.ins;
      }

-- a test that no end passes
pub heard_nothing : (d : Deployed) (test : ℕ → Bool) (a : HubHeld) → ((k : ℕ) → test k ≡ false) → HeardFrom d test [] a a
heard_nothing d test a none = record {
  name = refl;
  outs = refl;
  ends = tt;
  added = ([], sym (append-nil a.node.entries), refl);
  ins = both_same (λ k j i. IsHeard (test k) j i) a.ins (λ k i. subst (λ (t : Bool). IsHeard t i i) (sym (none k)) refl);
}

-- another list of the same
as-list : (d : Deployed) (test : ℕ → Bool) (ss ts : List Source) (a b : HubHeld) → ts ≡ ss → HeardFrom d test ss a b → HeardFrom d test ts a b
as-list d test ss ts a b e h = subst (λ (x : List Source). HeardFrom d test x a b) (sym e) h

-- ---- one link

end-is : (d : Deployed) (i : ℕ) (s : Source) (k : ℕ) → IsEnd d i s k → end_of d i s ≡ k
end-is d i (source.Lane j g) k e = sym e
end-is d i (source.Beats j) k e = ap (λ (x : ℕ). rank-of x) e ∙ rank_peer i k where
  rank-of : ℕ → ℕ
  rank-of x = end_of d i (source.Beats x)

pub heard_one : (d : Deployed) (s : Source) (k : ℕ) (a b : HubHeld) → IsEnd d (number_of a.node.name) s k → HeardLink d s k a b → HeardFrom d (λ j. j == k) (s ∷ []) a b
heard_one d s k a b end h =
    let i = number_of a.node.name in
    let is : end_of d i s ≡ k = end-is d i s k end in
    let came : came_over d i a.ins b.ins (s ∷ []) ≡ came_at s (slice_get a.ins k) (slice_get b.ins k) =
    append-nil (came_from d i a.ins b.ins s) ∙ ap (λ (n : ℕ). came_at s (slice_get a.ins n) (slice_get b.ins n)) is in
    record {
      name = h.name;
      outs = h.outs;
      ends = (same_one (end_of d i s) k is, tt);
      added = (h.added.0, h.added.1, subst (λ (x : List Came). Hears d a.node.name a.node.entries x h.added.0) (sym came) h.added.2);
      ins = (h.ins.0, each);
    }
  where
    go : (n : ℕ) (x y : InSeen) → (n ≢ k → y ≡ x) → (n ≡ k → IsEmptied x y) → IsHeard (n == k) x y
    go n x y others here = elim (cases_eq n k) [
      | inl e ↦ subst (λ (t : Bool). IsHeard t x y) (sym (same_one n k e)) (here e)
      | inr differ ↦ subst (λ (t : Bool). IsHeard t x y) (sym (not_one n k differ)) (others differ)
    ]

    each : (n : ℕ) (y : InSeen) → slice_get b.ins n ≡ Some y → (x : InSeen) × (slice_get a.ins n ≡ Some x) × IsHeard (n == k) x y
    each n y at = (let m = h.ins.1 n y at in (m.0, m.1, go n m.0 y m.2.0 m.2.1))

-- ---- gear by gear

below-more : (n : ℕ) → below (n + 1) ≡ below n ++ n ∷ []
below-more n = let e : n + 1 ≡ suc n = omega arith in ap (λ (m : ℕ). below m) e

mapped-more : {Y : Type 0} (f : ℕ → Y) (n : ℕ) → map f (below (n + 1)) ≡ map f (below n) ++ f n ∷ []
mapped-more f n = ap (map f) (below-more n) ∙ map-append f (below n) (n ∷ [])

flat-more : {Y : Type 0} (f : ℕ → List Y) (n : ℕ) → flat_map f (below (n + 1)) ≡ flat_map f (below n) ++ f n
flat-more {Y} f n =
    ap (λ (ns : List ℕ). flat_map f ns) (below-more n) ∙ (flat_map-append f (below n) (n ∷ []) ∙ ap (λ (ys : List Y). flat_map f (below n) ++ ys) (append-nil (f n)))

pub gears_none : (d : Deployed) (n : ℕ) (a : HubHeld) → HeardGears d n 0 a a
gears_none d n a =
    let i = number_of a.node.name in
    heard_nothing d (is_lane d i n 0) a (λ k. within_none (length (site_links d i) + n * d.gears) k)

-- at hub i, the number of the end for the lane of a gear of the site of this number
pub lane_is : (d : Deployed) (i n g : ℕ) → lane_end d i (peer i n) g ≡ (length (site_links d i) + n * d.gears) + g
lane_is d i n g = ap (λ (m : ℕ). (length (site_links d i) + m * d.gears) + g) (rank_peer i n)

pub gears_more : (d : Deployed) (n g k : ℕ) (a b c : HubHeld) → k ≡ (length (site_links d (number_of a.node.name)) + n * d.gears) + g → HeardGears d n g a b
    → HeardLink d (source.Lane (peer (number_of a.node.name) n) g) k b c → HeardGears d n (g + 1) a c
gears_more d n g k a b c at ab bc =
    let i = number_of a.node.name in
    let lo = length (site_links d i) + n * d.gears in
    let s = source.Lane (peer i n) g in
    let end : IsEnd d (number_of b.node.name) s k = subst (λ (m : NodeName). IsEnd d (number_of m) s k) (sym ab.name) (at ∙ sym (lane_is d i n g)) in
    let one = heard_one d s k b c end bc in
    as-list d (is_lane d i n (g + 1)) (map (source.Lane (peer i n)) (below g) ++ s ∷ []) (map (source.Lane (peer i n)) (below (g + 1))) a c (mapped-more (source.Lane (peer i n)) g)
    (heard_both d (is_lane d i n g) (λ j. j == k) (is_lane d i n (g + 1)) (map (source.Lane (peer i n)) (below g)) (s ∷ [])
    (λ j e. within_not lo g j (sym (ap (λ (m : ℕ). j == m) at) ∙ e)) (λ j. within_more lo g j ∙ ap (λ (m : ℕ). (nat_le lo j && nat_lt j (lo + g)) || (j == m)) (sym at)) a b c ab one)

-- ---- site by site

pub site_more : (d : Deployed) (n : ℕ) (a b c : HubHeld) → n < d.sites - 1 → HeardGears d n d.gears a b → HeardLink d (source.Beats (peer (number_of a.node.name) n)) n b c → HeardSite d n a c
site_more d n a b c less ab bc =
    let i = number_of a.node.name in
    let s = source.Beats (peer i n) in
    let end : IsEnd d (number_of b.node.name) s n = subst (λ (m : NodeName). IsEnd d (number_of m) s n) (sym ab.name) refl in
    let one = heard_one d s n b c end bc in
    heard_both d (is_lane d i n d.gears) (λ j. j == n) (is_of_site d i n) (map (source.Lane (peer i n)) (below d.gears)) (s ∷ [])
    (λ j e. first_not (length (site_links d i)) (n * d.gears) d.gears n j (links_beyond d i n less) e) (λ j. refl) a b c ab one

-- what comes from the first so many sites
abbrev pub first_sources : Deployed → ℕ → ℕ → List Source
first_sources d i n = flat_map (λ k. sources_of d (peer i k)) (below n)

-- all messages from the first so many sites were dealt with
abbrev pub HeardFirst : Deployed → ℕ → HubHeld → HubHeld → Type 0
HeardFirst d n old new = HeardFrom d (is_of_first d (number_of old.node.name) n) (first_sources d (number_of old.node.name) n) old new

pub sites_none : (d : Deployed) (a : HubHeld) → HeardFirst d 0 a a
sites_none d a =
    let i = number_of a.node.name in
    heard_nothing d (is_of_first d i 0) a (λ k. first_none (length (site_links d i)) (0 * d.gears) k (let e : 0 * d.gears ≡ 0 = omega arith in e))

pub sites_more : (d : Deployed) (n : ℕ) (a b c : HubHeld) → n < d.sites - 1 → HeardFirst d n a b → HeardSite d n b c → HeardFirst d (n + 1) a c
sites_more d n a b c less ab bc =
    let i = number_of a.node.name in
    let lo = length (site_links d i) in
    let beyond = links_beyond d i n less in
    let site : HeardFrom d (is_of_site d i n) (sources_of d (peer i n)) b c =
    subst (λ (m : NodeName). HeardFrom d (is_of_site d (number_of m) n) (sources_of d (peer (number_of m) n)) b c) ab.name bc in
    as-list d (is_of_first d i (n + 1)) (first_sources d i n ++ sources_of d (peer i n)) (first_sources d i (n + 1)) a c (flat-more (λ k. sources_of d (peer i k)) n)
    (heard_both d (is_of_first d i n) (is_of_site d i n) (is_of_first d i (n + 1)) (first_sources d i n) (sources_of d (peer i n))
    (λ j e. first_beyond lo (n * d.gears) d.gears n j beyond e) (λ j. first_more lo (n * d.gears) d.gears ((n + 1) * d.gears) n j beyond (next_product n d.gears)) a b c ab site)

-- ---- all

and-true : (t : Bool) → (t && true) ≡ t
and-true true = refl
and-true false = refl

pub all_heard : (d : Deployed) (n : ℕ) (a c : HubHeld) → n ≡ d.sites - 1 → HeardFirst d n a c → HearsAll d a c
all_heard d n a c e h = (subst (λ (m : ℕ). HeardFirst d m a c) e h).added

pub all_emptied : (d : Deployed) (n : ℕ) (a c : HubHeld) → n ≡ d.sites - 1 → length a.ins ≡ length (site_links d (number_of a.node.name)) + (d.sites - 1) * d.gears → HeardFirst d n a c
    → Both (λ k j i. IsHeard (hears_at d (number_of a.node.name) k) j i) a.ins c.ins
all_emptied d n a c e count h =
    let i = number_of a.node.name in
    let all = (subst (λ (m : ℕ). HeardFirst d m a c) e h).ins in
    (all.0, λ k y at. let x = all.1 k y at in (x.0, x.1, subst (λ (t : Bool). IsHeard t x.0 y) (inside k (let w = slice_get_within c.ins k y at in let same = all.0 in omega arith)) x.2)) where
      inside : (k : ℕ) → k < length (site_links d (number_of a.node.name)) + (d.sites - 1) * d.gears → is_of_first d (number_of a.node.name) (d.sites - 1) k ≡ hears_at d (number_of a.node.name) k
      inside k less =
          ap (λ (t : Bool). nat_lt k (d.sites - 1) || t)
          (let b : nat_lt k (length (site_links d (number_of a.node.name)) + (d.sites - 1) * d.gears) ≡ true = grind (arith, nat_tests) in
          ap (λ (t : Bool). nat_le (length (site_links d (number_of a.node.name))) k && t) b ∙ and-true (nat_le (length (site_links d (number_of a.node.name))) k))
