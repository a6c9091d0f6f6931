-- What stands on a link behind its front.
use Rattle.std.specs.Prelude.{◌≡◌, ◌<◌, ◌+◌, ◌-◌, ℕ, zero, suc, List, [], ◌∷◌, drop, length, Option, Some, None, slice_get, refl}
use Rattle.std.proofs.Common.{sym, subst, ap, ◌∙◌, arith}
use Rattle.sat_label.specs.declared.label.Label.{Label}
use Rattle.sat_label.specs.declared.node.NodeId.{NodeId}
use Rattle.sat_label.specs.declared.node.NodeId.TheVariants.{Serializer}
use Rattle.sat_tree.specs.Shape.{TreeShape}
use Rattle.sat_act.specs.declared.act.Act.TheVariants as act
use Rattle.sat_act.specs.declared.entry.Entry.{Entry}
use Rattle.sat_act.specs.Parts.{entered, taken, tree_of}
use Rattle.sat_act.specs.Ranges.{IsActOf}
use Rattle.sat_model.specs.World.{world_state, link_left}
use Rattle.sat_model.proofs.Parts.{link-agrees}
use Rattle.sat_net.specs.Nets.{NetSeen, link_of}
use Rattle.sat_world.specs.Seen.{WorldSeen}
use Rattle.sat_world.specs.Stands.{StandsFor}
use Rattle.sat_world.specs.Worlds.{IsWorld}
use Rattle.sat_world.proofs.Deeds.{hop-placed, hop-edge, hop-there}
use Rattle.sat_world.proofs.Hops.{IsEdge}
use Rattle.sat_world.proofs.Lists.{there}

-- a place of what is left of a list
pub behind : {A : Type 0} (xs : List A) (n k : ℕ) → slice_get (drop n xs) k ≡ slice_get xs (n + k)
behind xs zero k = ap (slice_get xs) (omega arith)
behind [] (suc n) k = refl
behind (x ∷ xs) (suc n) k = let e : suc n + k ≡ suc (n + k) = omega arith in behind xs n k ∙ ap (slice_get (x ∷ xs)) (sym e)

-- what a link of a world has at a place is what the history has there
on-link : (w : WorldSeen) (e : ℕ) (u : NodeId) (z k : ℕ) (net : NetSeen) (h : List Entry) (t : TreeShape) → (e - 1) + 1 ≡ e → IsEdge w.deployment (e - 1) net u z →
    slice_get w.nets (e - 1) ≡ Some (Some net) → StandsFor w h → tree_of w.deployment e ≡ Some t →
    slice_get (link_of net u (Serializer z)) k ≡ slice_get (entered w.deployment h e t u (Serializer z)) (taken w.deployment h e u (Serializer z) + k)
unfolding world_state
on-link w e u z k net h t above edge at st planned =
    ap (λ (ls : List Label). slice_get ls k)
    ((st.parts.nets (e - 1) net at).each u (Serializer z) edge.node edge.end edge.edge
    ∙ (ap (λ (m : ℕ). link_left w.deployment h m u (Serializer z)) above ∙ link-agrees w.deployment h e t u (Serializer z) planned))
    ∙ behind (entered w.deployment h e t u (Serializer z)) (taken w.deployment h e u (Serializer z)) k

-- the nets that the code looks at are those of its fields
pub ahead-within : (w v : WorldSeen) (e : ℕ) (u : NodeId) (z : ℕ) (nets : List (Option NetSeen)) → nets ≡ w.nets → w ≡ v → IsWorld w → IsActOf v.deployment (act.Hop e u z) → e - 1 < length nets
ahead-within w v e u z nets same is wf b = subst (λ (ns : List (Option NetSeen)). e - 1 < length ns) (sym same) (hop-placed w v e u z is wf b).within

pub ahead-edge : (w v : WorldSeen) (e : ℕ) (u : NodeId) (z : ℕ) (nets : List (Option NetSeen)) (net : NetSeen) → nets ≡ w.nets → w ≡ v → IsWorld w → IsActOf v.deployment (act.Hop e u z) →
    slice_get nets (e - 1) ≡ Some (Some net) → IsEdge w.deployment (e - 1) net u z
ahead-edge w v e u z nets net same is wf b at = hop-edge w v e u z net is wf b (subst (λ (ns : List (Option NetSeen)). slice_get ns (e - 1) ≡ Some (Some net)) same at)

-- what is read there, by what the code knows of its fields
pub ahead-is : (w v : WorldSeen) (e : ℕ) (u : NodeId) (z k : ℕ) (nets : List (Option NetSeen)) (r : Option Label) (h : List Entry) (t : TreeShape) → nets ≡ w.nets → w ≡ v → IsWorld w → IsActOf v.deployment (act.Hop e u z) →
    ((net : NetSeen) → slice_get nets (e - 1) ≡ Some (Some net) → r ≡ slice_get (link_of net u (Serializer z)) k) → StandsFor v h → tree_of v.deployment e ≡ Some t →
    r ≡ slice_get (entered v.deployment h e t u (Serializer z)) (taken v.deployment h e u (Serializer z) + k)
ahead-is w v e u z k nets r h t same is wf b read st planned = go (there w.nets (e - 1) (hop-placed w v e u z is wf b).within)
  where
    at-net : (net : NetSeen) → slice_get w.nets (e - 1) ≡ Some (Some net) → r ≡ slice_get (entered v.deployment h e t u (Serializer z)) (taken v.deployment h e u (Serializer z) + k)
    at-net net at = subst (λ (x : WorldSeen). r ≡ slice_get (entered x.deployment h e t u (Serializer z)) (taken x.deployment h e u (Serializer z) + k)) is
        (read net (ap (λ (ns : List (Option NetSeen)). slice_get ns (e - 1)) same ∙ at) ∙ on-link w e u z k net h t (sym (hop-placed w v e u z is wf b).above) (hop-edge w v e u z net is wf b at) at
        (subst (λ (x : WorldSeen). StandsFor x h) (sym is) st) (subst (λ (x : WorldSeen). tree_of x.deployment e ≡ Some t) (sym is) planned))

    go : ((o : Option NetSeen) × (slice_get w.nets (e - 1) ≡ Some o)) → r ≡ slice_get (entered v.deployment h e t u (Serializer z)) (taken v.deployment h e u (Serializer z) + k)
    go (None, at) = absurd (let e = hop-there w v e u z None is wf b at in cc)
    go (Some net, at) = at-net net at
