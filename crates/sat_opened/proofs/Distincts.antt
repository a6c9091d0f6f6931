-- No node's name, and no node's place, stands twice.
use Rattle.std.proofs.Common.{◌≡◌, ◌⊎◌, ◌<◌, ◌≤◌, ℕ, ◌+◌, zero, suc, List, [], ◌∷◌, ◌++◌, length, map, refl, sym, ap, ◌∙◌, subst, arith, inl, inr}
use Rattle.std.specs.Bool.{⊤}
use Rattle.std.specs.List.{flat_map}
use Rattle.sat_label.proofs.Members.{In-left, In-right, In-parts}
use Rattle.sat_label.specs.Members.{In}
use Rattle.sat_label.specs.Words.{below}
use Rattle.sat_label.specs.declared.node.NodeName.{NodeName}
use Rattle.sat_label.specs.declared.node.NodeName.TheVariants as named
use Rattle.sat_tree.specs.Shape.{TreeShape}
use Rattle.sat_act.specs.declared.deployment.Plan.{Plan}
use Rattle.sat_act.specs.declared.deployment.Plan.TheVariants as plan
use Rattle.sat_act.specs.Deployed.{Deployed}
use Rattle.sat_node.specs.Links.{HeldSeen}
use Rattle.sat_machines.specs.Acts.{ActSeen}
use Rattle.sat_machines.specs.Layout.{planted}
use Rattle.sat_machines.specs.declared.site_answer.SiteAnswer.{SiteAnswer}
use Rattle.sat_machines.specs.declared.serial_act.SerialAct.{SerialAct}
use Rattle.sat_machines.specs.declared.serial_act.SerialAnswer.{SerialAnswer}
use Rattle.sat_stitch.specs.Kept.{Kept}
use Rattle.sat_stitch.specs.Places.{AtSite}
use Rattle.sat_stitch.specs.Stitch.{Distinct}
use Rattle.sat_opened.specs.Keeping.{site_kept, serial_kept, newest}
use Rattle.sat_opened.specs.Opened.{tree_names, serial_names, AllOpened, lists_of, place_at, node_places}
use Rattle.sat_opened.specs.Laws.{OpenedAreJournals, SitesAreKept, SerialsAreKept, PlacesCover}
use Rattle.sat_opened.proofs.Layouts.{in-mapped, in-less}
use Rattle.sat_opened.proofs.Found.{look-up, found-named, entries-of}

-- ---- lists

pub distinct-join : {X : Type 0} (xs ys : List X) → Distinct xs → Distinct ys → ((x : X) → In xs x → In ys x → ⊥) → Distinct (xs ++ ys)
distinct-join [] ys a b f = b
distinct-join (x ∷ xs) ys a b f = (distinct-join xs ys a.0 b (λ y i j. f y (inr i) j), λ i. elim (In-parts xs ys x i) [ inl j ↦ a.1 j | inr j ↦ f x (inl refl) j ])

distinct-among : {X Y : Type 0} (f : X → Y) (xs : List X) → ((x y : X) → In xs x → In xs y → f x ≡ f y → x ≡ y) → Distinct xs → Distinct (map f xs)
distinct-among f [] one a = tt
distinct-among {X} {Y} f (x ∷ xs) one a = (
  distinct-among f xs (λ y z i j e. one y z (inr i) (inr j) e) a.0,
  λ i. let w : (y : X) × In xs y × (f y ≡ f x) = in-mapped f xs (f x) i in a.1 (subst (λ (y : X). In xs y) (one w.0 x (inr w.1) (inl refl) w.2) w.1),
)

pub distinct-map : {X Y : Type 0} (f : X → Y) (xs : List X) → ((x y : X) → f x ≡ f y → x ≡ y) → Distinct xs → Distinct (map f xs)
distinct-map f xs one a = distinct-among f xs (λ x y i j e. one x y e) a

apart : (n k : ℕ) → k < n → n ≡ k → ⊥
apart n k lt e = omega arith

pub distinct-below : (n : ℕ) → Distinct (below n)
distinct-below zero = tt
distinct-below (suc n) = distinct-join (below n) (n ∷ []) (distinct-below n) (tt, λ i. absurd i) (λ k i j. elim j [ inl e ↦ apart n k (in-less n k i) e | inr z ↦ absurd z ])

-- ---- names

site-one : (i j : ℕ) → named.Site i ≡ named.Site j → i ≡ j
site-one i j e = cc

serial-one : (e y z : ℕ) → named.Serializer e y ≡ named.Serializer e z → y ≡ z
serial-one e y z w = cc

epoch-one : (e f y z : ℕ) → named.Serializer e y ≡ named.Serializer f z → e ≡ f
epoch-one e f y z w = cc

-- a name of a serializer, of an epoch from this one on
pub record IsFrom (f : ℕ) (name : NodeName) : Type 0 where
  pub epoch : ℕ
  pub number : ℕ
  pub is : name ≡ named.Serializer epoch number
  pub from : f ≤ epoch

self : (n : ℕ) → n ≤ n
self n = omega arith

one-less : (f e : ℕ) → f + 1 ≤ e → f ≤ e
one-less f e lt = omega arith

no-turn : (f e : ℕ) → f + 1 ≤ e → f ≡ e → ⊥
no-turn f e lt w = omega arith

of-tree : (f : ℕ) (t : TreeShape) (name : NodeName) → In (tree_names (record { epoch = f; tree = t })) name → (z : ℕ) × (name ≡ named.Serializer f z)
of-tree f t name i = (let w : (z : ℕ) × In (below (length t.parents)) z × (named.Serializer f z ≡ name) = in-mapped (named.Serializer f) (below (length t.parents)) name i in (w.0, sym w.2))

later-from : (f : ℕ) (name : NodeName) → IsFrom (f + 1) name → IsFrom f name
later-from f name w = record { epoch = w.epoch; number = w.number; is = w.is; from = one-less f w.epoch w.from }

first-from : (f : ℕ) (t : TreeShape) (name : NodeName) → In (tree_names (record { epoch = f; tree = t })) name → IsFrom f name
first-from f t name i = (let w : (z : ℕ) × (name ≡ named.Serializer f z) = of-tree f t name i in record { epoch = f; number = w.0; is = w.1; from = self f })

pub of-trees : (f : ℕ) (plans : List Plan) (name : NodeName) → In (flat_map tree_names (planted f plans)) name → IsFrom f name
of-trees f [] name i = absurd i
of-trees f (plan.Stamp ∷ plans) name i = later-from f name (of-trees (f + 1) plans name i)
of-trees f (plan.Tree t ∷ plans) name i = elim (In-parts (tree_names (record { epoch = f; tree = t })) (flat_map tree_names (planted (f + 1) plans)) name i) [
  | inl j ↦ first-from f t name j
  | inr j ↦ later-from f name (of-trees (f + 1) plans name j)
]

pub distinct-trees : (f : ℕ) (plans : List Plan) → Distinct (flat_map tree_names (planted f plans))
distinct-trees f [] = tt
distinct-trees f (plan.Stamp ∷ plans) = distinct-trees (f + 1) plans
distinct-trees f (plan.Tree t ∷ plans) =
    distinct-join (tree_names (record { epoch = f; tree = t })) (flat_map tree_names (planted (f + 1) plans))
    (distinct-map (named.Serializer f) (below (length t.parents)) (serial-one f) (distinct-below (length t.parents))) (distinct-trees (f + 1) plans)
    (λ name i j. let w : (z : ℕ) × (name ≡ named.Serializer f z) = of-tree f t name i in let v : IsFrom (f + 1) name = of-trees (f + 1) plans name j in no-turn f v.epoch v.from (epoch-one f v.epoch w.0 v.number (sym w.1 ∙ v.is)))

pub distinct-sites : (n : ℕ) → Distinct (map named.Site (below n))
distinct-sites n = distinct-map named.Site (below n) site-one (distinct-below n)

no-site : (i e z : ℕ) → named.Site i ≡ named.Serializer e z → ⊥
no-site i e z w = cc

distinct-names : (d : Deployed) → Distinct (map named.Site (below d.sites) ++ serial_names d)
distinct-names d =
    distinct-join (map named.Site (below d.sites)) (serial_names d) (distinct-sites d.sites) (distinct-trees 1 d.plans)
    (λ name i j. let w : (k : ℕ) × In (below d.sites) k × (named.Site k ≡ name) = in-mapped named.Site (below d.sites) name i in let v : IsFrom 1 name = of-trees 1 d.plans name j in no-site w.0 v.epoch v.number (w.2 ∙ v.is))

-- two names that are no gear's and have one place are one name
abbrev no_gear : NodeName → Type 0
no_gear (named.Site i) = ⊤
no_gear (named.Serializer e z) = ⊤
no_gear (named.Gear i g) = ⊥

place-one : (m n : NodeName) → no_gear m → no_gear n → place_at m ≡ place_at n → m ≡ n
place-one (named.Site i) (named.Site j) a b e = let w : i ≡ j = cc in ap named.Site w
place-one (named.Serializer e y) (named.Serializer f z) a b w = let m : e ≡ f = cc in let n : y ≡ z = cc in λ i. named.Serializer (m i) (n i)
place-one (named.Site i) (named.Serializer f z) a b w = absurd (cc)
place-one (named.Serializer e y) (named.Site j) a b w = absurd (cc)
place-one (named.Gear i g) n a b w = absurd a
place-one (named.Site i) (named.Gear j h) a b w = absurd b
place-one (named.Serializer e y) (named.Gear j h) a b w = absurd b

none-a-gear : (d : Deployed) (name : NodeName) → In (map named.Site (below d.sites) ++ serial_names d) name → no_gear name
none-a-gear d name i = elim (In-parts (map named.Site (below d.sites)) (serial_names d) name i) [
  | inl s ↦ (let w : (k : ℕ) × In (below d.sites) k × (named.Site k ≡ name) = in-mapped named.Site (below d.sites) name s in subst no_gear w.2 tt)
  | inr z ↦ (let v : IsFrom 1 name = of-trees 1 d.plans name z in subst no_gear (sym v.is) tt)
]

-- ---- journals

pub in-map : {X Y : Type 0} (f : X → Y) (xs : List X) (x : X) → In xs x → In (map f xs) (f x)
in-map f [] x i = absurd i
in-map f (y ∷ xs) x (inl e) = inl (ap f e)
in-map f (y ∷ xs) x (inr i) = inr (in-map f xs x i)

pub opened_are_journals : OpenedAreJournals
opened_are_journals d sites serials all = record { all_sites = all.all_sites; all_serials = all.all_serials; each_site = λ k h at. (all.each_site k h at).runs }

pub sites_kept : SitesAreKept
sites_kept d sites serials alone all n i h at name = ap (newest (site_kept i)) (entries-of (named.Site i) sites (subst Distinct (sym all.all_sites) (distinct-sites d.sites)) n h at name)

pub serials_kept : SerialsAreKept
serials_kept d sites serials alone all n e z h at name = ap (newest (serial_kept e z)) (entries-of (named.Serializer e z) serials (subst Distinct (sym all.all_serials) (distinct-trees 1 d.plans)) n h at name)

module _ {M K : Type 0} (d : Deployed) (sites : List (HeldSeen M ActSeen SiteAnswer)) (serials : List (HeldSeen K SerialAct SerialAnswer)) (all : AllOpened d sites serials) (alone : ℕ → List Kept) where
  covered-site : (i : ℕ) → In (node_places d) (AtSite i) ⊎ (lists_of sites serials alone (AtSite i) ≡ [])
  covered-site i = elim (look-up (named.Site i) sites) [
    | inl f ↦ inl (in-map place_at (map named.Site (below d.sites) ++ serial_names d) (named.Site i)
        (In-left (map named.Site (below d.sites)) (serial_names d) (named.Site i) (subst (λ (ns : List NodeName). In ns (named.Site i)) all.all_sites (found-named (named.Site i) sites f))))
    | inr none ↦ inr (ap (newest (site_kept i)) none)
  ]

  covered : (name : NodeName) → In (node_places d) (place_at name) ⊎ (lists_of sites serials alone (place_at name) ≡ [])
  covered (named.Site i) = covered-site i
  covered (named.Gear i g) = covered-site i
  covered (named.Serializer e z) = elim (look-up (named.Serializer e z) serials) [
    | inl f ↦ inl (in-map place_at (map named.Site (below d.sites) ++ serial_names d) (named.Serializer e z)
        (In-right (map named.Site (below d.sites)) (serial_names d) (named.Serializer e z) (subst (λ (ns : List NodeName). In ns (named.Serializer e z)) all.all_serials (found-named (named.Serializer e z) serials f))))
    | inr none ↦ inr (ap (newest (serial_kept e z)) none)
  ]

pub places_cover : PlacesCover
places_cover d sites serials alone all = (
  distinct-among place_at (map named.Site (below d.sites) ++ serial_names d)
      (λ x y i j e. place-one x y (none-a-gear d x i) (none-a-gear d y j) e) (distinct-names d),
  covered d sites serials all alone,
)
