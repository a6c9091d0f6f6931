-- All serializers of hosts, and the links between them.
use Rattle.std.proofs.Common.{◌≡◌, ◌<◌, ℕ, Bool, true, false, ◌==◌, List, [], ◌∷◌, length, map, Option, Some, slice_get, refl, sym, ap, ◌∙◌, subst, inl, inr}
use Rattle.sat_label.proofs.Truth.{same-number}
use Rattle.sat_label.proofs.Numbers.{get-map}
use Rattle.sat_label.specs.Members.{In}
use Rattle.sat_label.specs.declared.node.NodeId.TheVariants.{Serializer}
use Rattle.sat_label.specs.declared.node.NodeName.{NodeName}
use Rattle.sat_label.specs.declared.node.NodeName.TheVariants as named
use Rattle.sat_tree.specs.Shape.{TreeShape}
use Rattle.sat_tree.specs.Cut.{is_edge, neighbours}
use Rattle.sat_act.specs.Deployed.{Deployed}
use Rattle.sat_act.specs.Limits.{IsDeployment}
use Rattle.sat_act.specs.Parts.{tree_of}
use Rattle.sat_net.proofs.Edges.{turned-edge, apart, AreApart, edge-within}
use Rattle.sat_node.specs.declared.kept.Kept.{Kept as Line}
use Rattle.sat_node.specs.Meanings.{Meaning, Runs}
use Rattle.sat_node.specs.Puts.{put_by}
use Rattle.sat_node.specs.Links.{HeldSeen, Each, takings}
use Rattle.sat_machines.specs.Layout.{Link, Edge, turned, links_of, place_of, place_back, out_places, in_places}
use Rattle.sat_machines.specs.declared.serial_act.SerialAct.{SerialAct}
use Rattle.sat_machines.specs.declared.serial_act.SerialAnswer.{SerialAnswer}
use Rattle.sat_machines.specs.Serials.{serial_meaning, serial_puts, serial_takes}
use Rattle.sat_stitch.specs.Kept.{Kept, marks}
use Rattle.sat_stitch.specs.Places.{AtSerializer}
use Rattle.sat_stitch.specs.Nodes.{put_on, took_from}
use Rattle.sat_stitch.specs.Fit.{IsHanded}
use Rattle.sat_opened.specs.Keeping.{serial_kept, newest}
use Rattle.sat_opened.specs.Fits.{FitsPlace}
use Rattle.sat_opened.specs.Opened.{name_in, serial_names, entries_at}
use Rattle.sat_opened.specs.Delivered.{Delivered, DeliveredTo, DeliveredWithin}
use Rattle.sat_opened.specs.Hosts.{IsHost}
use Rattle.sat_opened.proofs.Walks.{Along, along-more}
use Rattle.sat_opened.proofs.Found.{Found, look-up, find, two-places}
use Rattle.sat_opened.proofs.Handings.{label_made, label_body}
use Rattle.sat_opened.proofs.Layouts.{serial-end, neighbour-there, serial-named}
use Rattle.sat_opened.proofs.SerialKept.{SerialStep, serial-steps, serial-fits, nothing-fits}
use Rattle.sat_opened.proofs.SerialLinks.{serial-enters, serial-takes-over}
use Rattle.sat_opened.proofs.Deliveries.{delivered-on}

-- ---- places

pub place-out : (d : Deployed) (name : NodeName) (k : ℕ) (l : Link) → slice_get (links_of d name) k ≡ Some l → slice_get (out_places d name) k ≡ Some (place_of d l)
unfolding out_places
place-out d name k l at = get-map (place_of d) (links_of d name) k l at

pub place-in : (d : Deployed) (name : NodeName) (k : ℕ) (l q : Link) → slice_get (links_of d name) k ≡ Some q → turned q ≡ l → slice_get (in_places d name) k ≡ Some (place_of d l)
unfolding in_places
place-in d name k l q at e = get-map (place_back d) (links_of d name) k q at ∙ ap (λ (l : Link). Some (place_of d l)) e

pub between : {S T M K I A J B : Type 0} (m : Meaning S I A) (n : Meaning T J B) (sender : HeldSeen M I A) (receiver : HeldSeen K J B) (a b : NodeName) → sender.node.name ≡ a → receiver.node.name ≡ b → DeliveredTo m n sender receiver →
    (k j place : ℕ) → slice_get (m.outs a) k ≡ Some place → slice_get (n.ins b) j ≡ Some place → Delivered (takings (n.takes b j) receiver.node.entries) (put_by (m.puts a k) sender.node.entries)
between m n sender receiver a b e f h k j place out into =
    subst (λ (x : NodeName). Delivered (takings (n.takes x j) receiver.node.entries) (put_by (m.puts a k) sender.node.entries)) f
    (subst (λ (x : NodeName). Delivered (takings (n.takes receiver.node.name j) receiver.node.entries) (put_by (m.puts x k) sender.node.entries)) e
    (h k j place (subst (λ (x : NodeName). slice_get (m.outs x) k ≡ Some place) (sym e) out) (subst (λ (x : NodeName). slice_get (n.ins x) j ≡ Some place) (sym f) into)))

-- ---- hosts

-- each serializer once, in order, and what each took from another was put there
pub record SerialHosts {K : Type 0} (d : Deployed) (serials : List (HeldSeen K SerialAct SerialAnswer)) : Type 0 where
  pub all_serials : map name_in serials ≡ serial_names d
  pub each_serial : Each serials (λ _ h. IsHost (serial_meaning d) h)
  pub between_serials : DeliveredWithin (serial_meaning d) serials

module _ {K : Type 0} (d : Deployed) (serials : List (HeldSeen K SerialAct SerialAnswer)) (all : SerialHosts d serials) where
  -- a serializer, with its journal
  pub record SerialAt (e z : ℕ) : Type 0 where
    pub found : Found (named.Serializer e z) serials
    pub host : IsHost (serial_meaning d) found.held
    pub runs : Runs (serial_meaning d) (named.Serializer e z) found.held.node.entries
    pub steps : Along (serial_kept e z) (SerialStep d e z) [] found.held.node.entries

  pub serial-at : (e z : ℕ) → Found (named.Serializer e z) serials → SerialAt e z
  serial-at e z f =
      let is : IsHost (serial_meaning d) f.held = all.each_serial f.index f.held f.there in
      let run : Runs (serial_meaning d) (named.Serializer e z) f.held.node.entries = subst (λ (n : NodeName). Runs (serial_meaning d) n f.held.node.entries) f.is_named is.runs in
      record { found = f; host = is; runs = run; steps = serial-steps d e z f.held.node.entries run }

  pub find-serial : (e z : ℕ) (t : TreeShape) → tree_of d e ≡ Some t → z < length t.parents → SerialAt e z
  find-serial e z t tree lt = serial-at e z (find (named.Serializer e z) serials (subst (λ (ns : List NodeName). In ns (named.Serializer e z)) (sym all.all_serials) (serial-named d e z t tree lt)))

  -- its list fits its place
  pub serial-place : (e z : ℕ) → FitsPlace d (AtSerializer e z) (newest (serial_kept e z) (entries_at (named.Serializer e z) serials))
  serial-place e z = elim (look-up (named.Serializer e z) serials) [
    | inr none ↦ subst (λ (ls : List (Line SerialAct SerialAnswer)). FitsPlace d (AtSerializer e z) (newest (serial_kept e z) ls)) (sym none) (nothing-fits d (AtSerializer e z))
    | inl f ↦
        let s : SerialAt e z = serial-at e z f in
        subst (λ (ls : List (Line SerialAct SerialAnswer)). FitsPlace d (AtSerializer e z) (newest (serial_kept e z) ls)) (sym s.found.entries_are)
        (serial-fits d e z s.found.held.node.entries s.runs s.host.rises)
  ]

  -- ---- the edges of a tree between serializers

  module _ (dep : IsDeployment d) (e : ℕ) (t : TreeShape) (tree : tree_of d e ≡ Some t) where
    -- from a serializer to another
    names-same : (y z : ℕ) → named.Serializer e y ≡ named.Serializer e z → y ≡ z
    names-same y z w = cc

    not-one : (y z : ℕ) → (y == z) ≡ false → y ≡ z → ⊥
    not-one y z w q = let clash : (y == z) ≡ true = ap (λ (n : ℕ). y == n) (sym q) ∙ same-number y in absurd (cc)

    over-handed : (y z : ℕ) → (y == z) ≡ false → y < length t.parents → z < length t.parents → is_edge t (Serializer y) (Serializer z) ≡ true → (s : SerialAt e y) (r : SerialAt e z) →
        IsHanded (marks (took_from d e (Serializer y) (Serializer z)) (newest (serial_kept e z) r.found.held.node.entries)) (marks (put_on d e t (Serializer y) (Serializer z)) (newest (serial_kept e y) s.found.held.node.entries))
    over-handed y z ne less more edge s r =
        let from : (k : ℕ) × (slice_get (neighbours t y) k ≡ Some (Serializer z)) = neighbour-there t y (Serializer z) more edge in
        let at : (k : ℕ) × (slice_get (neighbours t z) k ≡ Some (Serializer y)) = neighbour-there t z (Serializer y) less (turned-edge t (Serializer z) (Serializer y) ∙ edge) in
        let came : Delivered (takings (λ act a. serial_takes at.0 act a) r.found.held.node.entries) (put_by (λ act a. serial_puts from.0 a) s.found.held.node.entries) =
        between (serial_meaning d) (serial_meaning d) s.found.held r.found.held (named.Serializer e y) (named.Serializer e z) s.found.is_named r.found.is_named
        (all.between_serials s.found.index r.found.index s.found.held r.found.held (two-places (named.Serializer e y) (named.Serializer e z) serials s.found r.found (λ w. not-one y z ne (names-same y z w))) s.found.there r.found.there)
        from.0 at.0 (place_of d (Edge e (Serializer y) (Serializer z)))
        (place-out d (named.Serializer e y) from.0 (Edge e (Serializer y) (Serializer z)) (serial-end d e y from.0 t (Serializer z) tree from.1))
        (place-in d (named.Serializer e z) at.0 (Edge e (Serializer y) (Serializer z)) (Edge e (Serializer z) (Serializer y)) (serial-end d e z at.0 t (Serializer y) tree at.1) refl) in
        delivered-on (λ act a. serial_puts from.0 a) (λ act a. serial_takes at.0 act a) (serial_kept e y) (serial_kept e z) (put_on d e t (Serializer y) (Serializer z)) (took_from d e (Serializer y) (Serializer z)) s.found.held.node.entries r.found.held.node.entries
        (λ x. refl) (λ x. refl)
        (along-more (serial_kept e y) (SerialStep d e y) (λ b x. serial_puts from.0 x.answer ≡ label_made (put_on d e t (Serializer y) (Serializer z) b (serial_kept e y x))) [] s.found.held.node.entries (λ b x m step. serial-enters d e y t tree from.0 (Serializer z) from.1 b x step) s.steps)
        (along-more (serial_kept e z) (SerialStep d e z) (λ b x. serial_takes at.0 x.input x.answer ≡ label_body (took_from d e (Serializer y) (Serializer z) b (serial_kept e z x))) [] r.found.held.node.entries (λ b x m step. serial-takes-over d e z t tree at.0 (Serializer y) at.1 b x step) r.steps)
        came

    abbrev serial_list : ℕ → List Kept
    serial_list z = newest (serial_kept e z) (entries_at (named.Serializer e z) serials)

    pub over-link : (y z : ℕ) → is_edge t (Serializer y) (Serializer z) ≡ true → IsHanded (marks (took_from d e (Serializer y) (Serializer z)) (serial_list z)) (marks (put_on d e t (Serializer y) (Serializer z)) (serial_list y))
    over-link y z edge =
        let two : AreApart t y z = apart t y z (dep.trees e t tree) edge in
        let less : y < length t.parents = edge-within t (Serializer z) y (dep.trees e t tree) (turned-edge t (Serializer z) (Serializer y) ∙ edge) in
        let s : SerialAt e y = find-serial e y t tree less in
        let r : SerialAt e z = find-serial e z t tree two.second in
        subst (λ (ls : List (Line SerialAct SerialAnswer)). IsHanded (marks (took_from d e (Serializer y) (Serializer z)) (newest (serial_kept e z) ls)) (marks (put_on d e t (Serializer y) (Serializer z)) (serial_list y))) (sym r.found.entries_are)
        (subst (λ (ls : List (Line SerialAct SerialAnswer)). IsHanded (marks (took_from d e (Serializer y) (Serializer z)) (newest (serial_kept e z) r.found.held.node.entries)) (marks (put_on d e t (Serializer y) (Serializer z)) (newest (serial_kept e y) ls))) (sym s.found.entries_are)
        (over-handed y z two.apart less two.second edge s r))
