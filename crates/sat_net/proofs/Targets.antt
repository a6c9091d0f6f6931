-- The targets of a label, as an interest and as the deployment have them.
use Rattle.std.specs.Prelude.{◌≡◌, ◌<◌, ℕ, zero, suc, Bool, false, not, ◌&&◌, ◌||◌, ◌==◌, nat_lt, List, [], ◌∷◌, map, filter, Some, None, slice_get, refl}
use Rattle.std.proofs.Common.{sym, ap, ◌∙◌, arith}
use Rattle.std.specs.List.{list_any}
use Rattle.std.proofs.lemmas.List.Folds.{list_any-append}
use Rattle.std.proofs.lemmas.Bool.{lt-ltb}
use Rattle.sat_label.specs.declared.label.Kind.{Kind}
use Rattle.sat_label.specs.declared.label.Kind.TheVariants as kind
use Rattle.sat_label.specs.declared.label.Label.{Label}
use Rattle.sat_label.specs.declared.node.NodeId.{NodeId}
use Rattle.sat_label.specs.declared.node.NodeId.TheVariants.{Site, Serializer}
use Rattle.sat_label.specs.Grouped.{list_of}
use Rattle.sat_label.specs.Order.{node_eq}
use Rattle.sat_label.specs.Words.{below, bit}
use Rattle.sat_sites.specs.Interested.{is_for, keeps, keeps_one}
use Rattle.sat_tree.specs.Shape.{TreeShape}
use Rattle.sat_tree.specs.Cut.{beyond, neighbours}
use Rattle.sat_act.specs.declared.deployment.Item.{Item}
use Rattle.sat_act.specs.Deployed.{Deployed}
use Rattle.sat_act.specs.Parts.{replicates, keeps_some, is_target, goes_beyond}
use Rattle.sat_model.specs.World.{nodes_for}
use Rattle.sat_serial.specs.Routes.{leads, goes, routes}
use Rattle.sat_model.specs.Interests.{replicas_of, interest_of}

keeps-in : (items : List Item) (x k : ℕ) → ◌≡◌ {A = Bool} (elim (slice_get (map replicas_of items) x) [ None ↦ false | Some set ↦ bit set.bits k ]) (elim (slice_get items x) [ None ↦ false | Some item ↦ bit item.replicas.bits k ])
keeps-in [] x k = refl
keeps-in (item ∷ items) zero k = refl
keeps-in (item ∷ items) (suc x) k = keeps-in items x k

keeps-is : (d : Deployed) (x k : ℕ) → keeps (interest_of d) x k ≡ replicates d x k
unfolding replicates
keeps-is d x k = keeps-in d.items x k

keeps-one-is : (d : Deployed) (xs : List ℕ) (k : ℕ) → keeps_one (interest_of d) xs k ≡ keeps_some d xs k
keeps-one-is d [] k = refl
keeps-one-is d (x ∷ xs) k = λ i. keeps-is d x k i || keeps-one-is d xs k i

-- the label is for the sites that are its targets
is-for-target : (d : Deployed) (l : Label) (k : ℕ) → k < d.sites → is_for (interest_of d) l k ≡ is_target d l k
unfolding is_for is_target
is-for-target d l k lt = go l.kind
  where
    go : (j : Kind) → ◌≡◌ {A = Bool}
        (elim j [ kind.Update items ↦ keeps_one (interest_of d) (list_of items) k && not (k == l.point.site) | kind.Move j ↦ k == j | kind.Pulse ↦ nat_lt k d.sites && not (k == l.point.site) | kind.Close e ↦ nat_lt k d.sites && not (k == l.point.site) ])
        (elim j [ kind.Update items ↦ keeps_some d (list_of items) k && not (k == l.point.site) | kind.Move j ↦ k == j | kind.Pulse ↦ not (k == l.point.site) | kind.Close e ↦ not (k == l.point.site) ])
    go (kind.Update items) = ap (λ (b : Bool). b && not (k == l.point.site)) (keeps-one-is d (list_of items) k)
    go (kind.Move j) = refl
    go kind.Pulse = ap (λ (b : Bool). b && not (k == l.point.site)) (lt-ltb k d.sites lt)
    go (kind.Close e) = ap (λ (b : Bool). b && not (k == l.point.site)) (lt-ltb k d.sites lt)

any-below : (f g : ℕ → Bool) (n : ℕ) → ((k : ℕ) → k < n → f k ≡ g k) → list_any f (below n) ≡ list_any g (below n)
any-below f g zero same = refl
any-below f g (suc n) same =
    list_any-append f (below n) (n ∷ []) ∙
    ((λ i. any-below f g n (λ k lt. same k (omega arith)) i || (same n (omega arith) i || false)) ∙
    sym (list_any-append g (below n) (n ∷ [])))

-- a label leads where the history sends it
pub leads-is : (d : Deployed) (t : TreeShape) (u v : NodeId) (l : Label) → leads (interest_of d) t u v l ≡ goes_beyond d t u v l
unfolding leads goes_beyond
leads-is d t u v l = any-below (λ k. is_for (interest_of d) l k && beyond t u v (Site k)) (λ k. is_target d l k && beyond t u v (Site k)) d.sites (λ k lt. ap (λ (b : Bool). b && beyond t u v (Site k)) (is-for-target d l k lt))

goes-is : (d : Deployed) (t : TreeShape) (z : ℕ) (u v : NodeId) (l : Label) → goes (interest_of d) t z u l v ≡ (not (node_eq u v) && goes_beyond d t (Serializer z) v l)
goes-is d t z u v l = ap (λ (b : Bool). not (node_eq u v) && b) (leads-is d t (Serializer z) v l)

pub routes-are : (d : Deployed) (t : TreeShape) (z : ℕ) (u : NodeId) (l : Label) → routes (interest_of d) t z u l ≡ nodes_for d t u z l
routes-are d t z u l = λ i. filter (λ v. goes-is d t z u v l i) (neighbours t z)
