-- All links of hosts.
use Rattle.std.proofs.Common.{◌≡◌, ◌<◌, ℕ, Bool, true, false, ◌==◌, List, [], ◌∷◌, ◌++◌, length, nat_lt, Option, Some, None, slice_get, refl, sym, ap, ◌∙◌, subst, inl, inr}
use Rattle.sat_label.proofs.Truth.{same-number}
use Rattle.sat_label.proofs.Numbers.{get-map}
use Rattle.sat_label.specs.Members.{In}
use Rattle.sat_label.specs.declared.node.NodeId.TheVariants.{Site, Serializer}
use Rattle.sat_label.specs.declared.node.NodeName.{NodeName}
use Rattle.sat_label.specs.declared.node.NodeName.TheVariants as named
use Rattle.sat_tree.specs.Shape.{TreeShape}
use Rattle.sat_tree.specs.Cut.{is_edge, neighbours, seat_of, IsNode}
use Rattle.sat_act.specs.Deployed.{Deployed}
use Rattle.sat_act.specs.Limits.{IsDeployment}
use Rattle.sat_act.specs.Parts.{tree_of}
use Rattle.sat_net.proofs.Edges.{turned-edge, at-seat, apart, AreApart, edge-within}
use Rattle.sat_node.specs.declared.kept.Kept.{Kept as Line}
use Rattle.sat_node.specs.Meanings.{Meaning, Runs}
use Rattle.sat_node.specs.Puts.{put_by}
use Rattle.sat_node.specs.Links.{HeldSeen, takings}
use Rattle.sat_machines.specs.Acts.{ActSeen}
use Rattle.sat_machines.specs.Layout.{Link, Edge, turned, links_of, place_of, place_back, label_link, out_places, in_places}
use Rattle.sat_machines.specs.declared.site_answer.SiteAnswer.{SiteAnswer}
use Rattle.sat_machines.specs.declared.serial_act.SerialAct.{SerialAct}
use Rattle.sat_machines.specs.declared.serial_act.SerialAnswer.{SerialAnswer}
use Rattle.sat_machines.specs.Sites.{site_meaning, site_puts, site_takes}
use Rattle.sat_machines.specs.Serials.{serial_meaning, serial_puts, serial_takes}
use Rattle.sat_stitch.specs.Kept.{Kept, numbered, marks}
use Rattle.sat_stitch.specs.Nodes.{put_on, took_from}
use Rattle.sat_stitch.specs.Fit.{IsHanded}
use Rattle.sat_opened.specs.Keeping.{site_kept, serial_kept, newest}
use Rattle.sat_opened.specs.Opened.{entries_at}
use Rattle.sat_opened.specs.Delivered.{Delivered, DeliveredTo}
use Rattle.sat_opened.specs.Hosts.{IsHost, AllHosts}
use Rattle.sat_opened.proofs.Numbers.{less-is, is-less}
use Rattle.sat_opened.proofs.Walks.{Along, along-more, later, marks-newest}
use Rattle.sat_opened.proofs.Found.{Found, look-up, find, found-named, two-places}
use Rattle.sat_opened.proofs.Handings.{label_made, label_body}
use Rattle.sat_opened.proofs.Layouts.{tree-end, serial-end, neighbour-there, serial-named, site-named, site-below}
use Rattle.sat_opened.proofs.SiteKept.{SiteStep, site-steps}
use Rattle.sat_opened.proofs.SerialKept.{SerialStep, serial-steps}
use Rattle.sat_opened.proofs.SiteLinks.{site-enters, site-takes-in}
use Rattle.sat_opened.proofs.SerialLinks.{serial-enters, serial-takes-over, none-taken}
use Rattle.sat_opened.proofs.Deliveries.{delivered-on}
use Rattle.sat_opened.proofs.SerialHosts.{place-out, place-in, between, SerialHosts, SerialAt, serial-at, find-serial}

-- ---- nothing taken

pub nothing-handed : {X : Type 0} (put : List (ℕ × X)) → IsHanded [] put
nothing-handed put k n x e = absurd (cc)

later-none : {X Y : Type 0} (of : X → Kept) (f : List Kept → Kept → Option Y) (ks : List Kept) (xs : List X) → Along of (λ b x. f b (of x) ≡ None) ks xs → later of f ks xs ≡ []
later-none of f ks [] a = refl
later-none {X} {Y} of f ks (x ∷ xs) a =
    ap (λ (o : Option Y). numbered (of x).number o ++ later of f (of x ∷ ks) xs) a.0 ∙ later-none of f (of x ∷ ks) xs a.1

pub none-handed : {X Y : Type 0} (of : X → Kept) (f : List Kept → Kept → Option Y) (xs : List X) (put : List (ℕ × Y)) → Along of (λ b x. f b (of x) ≡ None) [] xs → IsHanded (marks f (newest of xs)) put
none-handed {X} {Y} of f xs put a = subst (λ (took : List (ℕ × Y)). IsHanded took put) (sym (marks-newest of f xs ∙ later-none of f [] xs a)) (nothing-handed put)

-- ---- hosts

-- the serializers of hosts
pub serial-hosts : {M K : Type 0} (d : Deployed) (sites : List (HeldSeen M ActSeen SiteAnswer)) (serials : List (HeldSeen K SerialAct SerialAnswer)) → AllHosts d sites serials → SerialHosts d serials
serial-hosts d sites serials all = record { all_serials = all.all_serials; each_serial = all.each_serial; between_serials = all.between_serials }

module _ {M K : Type 0} (d : Deployed) (sites : List (HeldSeen M ActSeen SiteAnswer)) (serials : List (HeldSeen K SerialAct SerialAnswer)) (dep : IsDeployment d) (all : AllHosts d sites serials) where
  abbrev hosts : SerialHosts d serials
  hosts = serial-hosts d sites serials all

  -- a site, with its journal
  pub record SiteAt (i : ℕ) : Type 0 where
    pub found : Found (named.Site i) sites
    pub inside : i < d.sites
    pub host : IsHost (site_meaning d) found.held
    pub runs : Runs (site_meaning d) (named.Site i) found.held.node.entries
    pub steps : Along (site_kept i) (SiteStep d i) [] found.held.node.entries

  pub site-at : (i : ℕ) → Found (named.Site i) sites → SiteAt i
  site-at i f =
      let is : IsHost (site_meaning d) f.held = all.each_site f.index f.held f.there in
      let run : Runs (site_meaning d) (named.Site i) f.held.node.entries = subst (λ (n : NodeName). Runs (site_meaning d) n f.held.node.entries) f.is_named is.runs in
      record {
        found = f;
        inside = site-below d.sites i (subst (λ (ns : List NodeName). In ns (named.Site i)) all.all_sites (found-named (named.Site i) sites f));
        host = is;
        runs = run;
        steps = site-steps d i f.held.node.entries run;
      }

  pub find-site : (i : ℕ) → i < d.sites → SiteAt i
  find-site i lt = site-at i (find (named.Site i) sites (subst (λ (ns : List NodeName). In ns (named.Site i)) (sym all.all_sites) (site-named d.sites i lt)))

  -- ---- the edges of a tree

  module _ (e : ℕ) (t : TreeShape) (tree : tree_of d e ≡ Some t) where
    seated : (i : ℕ) → i < d.sites → i < length t.seats
    seated i lt = subst (λ (n : ℕ). i < n) (sym (dep.all_seated e t tree)) lt

    -- from a site to its serializer
    up-handed : (i z : ℕ) → seat_of t i ≡ z → is_edge t (Site i) (Serializer z) ≡ true → (s : SiteAt i) (r : SerialAt d serials hosts e z) →
        IsHanded (marks (took_from d e (Site i) (Serializer z)) (newest (serial_kept e z) r.found.held.node.entries)) (marks (put_on d e t (Site i) (Serializer z)) (newest (site_kept i) s.found.held.node.entries))
    up-handed i z seat edge s r =
        let at : (k : ℕ) × (slice_get (neighbours t z) k ≡ Some (Site i)) = neighbour-there t z (Site i) (seated i s.inside) (turned-edge t (Serializer z) (Site i) ∙ edge) in
        let came : Delivered (takings (λ act a. serial_takes at.0 act a) r.found.held.node.entries) (put_by (site_puts (named.Site i) (label_link d e)) s.found.held.node.entries) =
        between (site_meaning d) (serial_meaning d) s.found.held r.found.held (named.Site i) (named.Serializer e z) s.found.is_named r.found.is_named (all.from_sites s.found.index r.found.index s.found.held r.found.held s.found.there r.found.there) (label_link d e) at.0 (place_of d (Edge e (Site i) (Serializer (seat_of t i))))
        (place-out d (named.Site i) (label_link d e) (Edge e (Site i) (Serializer (seat_of t i))) (tree-end d i e t tree))
        (place-in d (named.Serializer e z) at.0 (Edge e (Site i) (Serializer (seat_of t i))) (Edge e (Serializer z) (Site i)) (serial-end d e z at.0 t (Site i) tree at.1) (ap (λ (y : ℕ). Edge e (Site i) (Serializer y)) (sym seat))) in
        delivered-on (site_puts (named.Site i) (label_link d e)) (λ act a. serial_takes at.0 act a) (site_kept i) (serial_kept e z) (put_on d e t (Site i) (Serializer z)) (took_from d e (Site i) (Serializer z)) s.found.held.node.entries r.found.held.node.entries
        (λ x. refl) (λ x. refl)
        (subst (λ (y : ℕ). Along (site_kept i) (λ b x. site_puts (named.Site i) (label_link d e) x.input x.answer ≡ label_made (put_on d e t (Site i) (Serializer y) b (site_kept i x))) [] s.found.held.node.entries) seat
        (along-more (site_kept i) (SiteStep d i) (λ b x. site_puts (named.Site i) (label_link d e) x.input x.answer ≡ label_made (put_on d e t (Site i) (Serializer (seat_of t i)) b (site_kept i x))) [] s.found.held.node.entries (λ b x m step. site-enters d dep i s.inside e t tree b x step) s.steps))
        (along-more (serial_kept e z) (SerialStep d e z) (λ b x. serial_takes at.0 x.input x.answer ≡ label_body (took_from d e (Site i) (Serializer z) b (serial_kept e z x))) [] r.found.held.node.entries (λ b x m step. serial-takes-over d e z t tree at.0 (Site i) at.1 b x step) r.steps)
        came

    -- from a serializer to a site
    down-handed : (i z : ℕ) → seat_of t i ≡ z → is_edge t (Serializer z) (Site i) ≡ true → (s : SerialAt d serials hosts e z) (r : SiteAt i) →
        IsHanded (marks (took_from d e (Serializer z) (Site i)) (newest (site_kept i) r.found.held.node.entries)) (marks (put_on d e t (Serializer z) (Site i)) (newest (serial_kept e z) s.found.held.node.entries))
    down-handed i z seat edge s r =
        let at : (k : ℕ) × (slice_get (neighbours t z) k ≡ Some (Site i)) = neighbour-there t z (Site i) (seated i r.inside) edge in
        let came : Delivered (takings (site_takes (named.Site i) (label_link d e)) r.found.held.node.entries) (put_by (λ act a. serial_puts at.0 a) s.found.held.node.entries) =
        between (serial_meaning d) (site_meaning d) s.found.held r.found.held (named.Serializer e z) (named.Site i) s.found.is_named r.found.is_named (all.from_serials s.found.index r.found.index s.found.held r.found.held s.found.there r.found.there) at.0 (label_link d e) (place_of d (Edge e (Serializer z) (Site i)))
        (place-out d (named.Serializer e z) at.0 (Edge e (Serializer z) (Site i)) (serial-end d e z at.0 t (Site i) tree at.1))
        (place-in d (named.Site i) (label_link d e) (Edge e (Serializer z) (Site i)) (Edge e (Site i) (Serializer (seat_of t i))) (tree-end d i e t tree) (ap (λ (y : ℕ). Edge e (Serializer y) (Site i)) seat)) in
        delivered-on (λ act a. serial_puts at.0 a) (site_takes (named.Site i) (label_link d e)) (serial_kept e z) (site_kept i) (put_on d e t (Serializer z) (Site i)) (took_from d e (Serializer z) (Site i)) s.found.held.node.entries r.found.held.node.entries
        (λ x. refl) (λ x. refl)
        (along-more (serial_kept e z) (SerialStep d e z) (λ b x. serial_puts at.0 x.answer ≡ label_made (put_on d e t (Serializer z) (Site i) b (serial_kept e z x))) [] s.found.held.node.entries (λ b x m step. serial-enters d e z t tree at.0 (Site i) at.1 b x step) s.steps)
        (subst (λ (y : ℕ). Along (site_kept i) (λ b x. site_takes (named.Site i) (label_link d e) x.input x.answer ≡ label_body (took_from d e (Serializer y) (Site i) b (site_kept i x))) [] r.found.held.node.entries) seat
        (along-more (site_kept i) (SiteStep d i) (λ b x. site_takes (named.Site i) (label_link d e) x.input x.answer ≡ label_body (took_from d e (Serializer (seat_of t i)) (Site i) b (site_kept i x))) [] r.found.held.node.entries (λ b x m step. site-takes-in d dep i r.inside e t tree b x step) r.steps))
        came

    -- ---- all edges

    abbrev site_list : ℕ → List Kept
    site_list i = newest (site_kept i) (entries_at (named.Site i) sites)

    abbrev serial_list : ℕ → List Kept
    serial_list z = newest (serial_kept e z) (entries_at (named.Serializer e z) serials)

    -- a list of nobody took nothing
    nobody : {X Y : Type 0} (of : X → Kept) (f : List Kept → Kept → Option Y) (xs : List X) (put : List (ℕ × Y)) → xs ≡ [] → IsHanded (marks f (newest of xs)) put
    nobody {X} {Y} of f xs put w = subst (λ (ys : List X). IsHanded (marks f (newest of ys)) put) (sym w) (nothing-handed put)

    pub up-link : (i z : ℕ) → is_edge t (Site i) (Serializer z) ≡ true → IsHanded (marks (took_from d e (Site i) (Serializer z)) (serial_list z)) (marks (put_on d e t (Site i) (Serializer z)) (site_list i))
    up-link i z edge = elim (look-up (named.Serializer e z) serials) [
      | inr none ↦ nobody (serial_kept e z) (took_from d e (Site i) (Serializer z)) (entries_at (named.Serializer e z) serials) (marks (put_on d e t (Site i) (Serializer z)) (site_list i)) none
      | inl f ↦
          let r : SerialAt d serials hosts e z = serial-at d serials hosts e z f in
          subst (λ (ls : List (Line SerialAct SerialAnswer)). IsHanded (marks (took_from d e (Site i) (Serializer z)) (newest (serial_kept e z) ls)) (marks (put_on d e t (Site i) (Serializer z)) (site_list i))) (sym r.found.entries_are) (go (nat_lt i d.sites) refl r)
    ]
      where
        out : nat_lt i d.sites ≡ false → IsNode t (Site i) → ⊥
        out w n = let clash : nat_lt i d.sites ≡ true = is-less i d.sites (subst (λ (m : ℕ). i < m) (dep.all_seated e t tree) n) in absurd (cc)

        go : (b : Bool) → nat_lt i d.sites ≡ b → (r : SerialAt d serials hosts e z) → IsHanded (marks (took_from d e (Site i) (Serializer z)) (newest (serial_kept e z) r.found.held.node.entries)) (marks (put_on d e t (Site i) (Serializer z)) (site_list i))
        go true w r =
            let s : SiteAt i = find-site i (less-is i d.sites w) in
            subst (λ (ls : List (Line ActSeen SiteAnswer)). IsHanded (marks (took_from d e (Site i) (Serializer z)) (newest (serial_kept e z) r.found.held.node.entries)) (marks (put_on d e t (Site i) (Serializer z)) (newest (site_kept i) ls))) (sym s.found.entries_are)
            (up-handed i z (at-seat t i z edge) edge s r)
        go false w r =
            none-handed (serial_kept e z) (took_from d e (Site i) (Serializer z)) r.found.held.node.entries (marks (put_on d e t (Site i) (Serializer z)) (site_list i))
            (along-more (serial_kept e z) (SerialStep d e z) (λ b x. took_from d e (Site i) (Serializer z) b (serial_kept e z x) ≡ None) [] r.found.held.node.entries (λ b x m step. none-taken d e z t tree (Site i) (out w) b x step) r.steps)

    pub down-link : (i z : ℕ) → is_edge t (Serializer z) (Site i) ≡ true → IsHanded (marks (took_from d e (Serializer z) (Site i)) (site_list i)) (marks (put_on d e t (Serializer z) (Site i)) (serial_list z))
    down-link i z edge = elim (look-up (named.Site i) sites) [
      | inr none ↦ nobody (site_kept i) (took_from d e (Serializer z) (Site i)) (entries_at (named.Site i) sites) (marks (put_on d e t (Serializer z) (Site i)) (serial_list z)) none
      | inl f ↦
          let back : is_edge t (Site i) (Serializer z) ≡ true = turned-edge t (Site i) (Serializer z) ∙ edge in
          let r : SiteAt i = site-at i f in
          let s : SerialAt d serials hosts e z = find-serial d serials hosts e z t tree (edge-within t (Site i) z (dep.trees e t tree) back) in
          subst (λ (ls : List (Line ActSeen SiteAnswer)). IsHanded (marks (took_from d e (Serializer z) (Site i)) (newest (site_kept i) ls)) (marks (put_on d e t (Serializer z) (Site i)) (serial_list z))) (sym r.found.entries_are)
          (subst (λ (ls : List (Line SerialAct SerialAnswer)). IsHanded (marks (took_from d e (Serializer z) (Site i)) (newest (site_kept i) r.found.held.node.entries)) (marks (put_on d e t (Serializer z) (Site i)) (newest (serial_kept e z) ls))) (sym s.found.entries_are)
          (down-handed i z (at-seat t i z back) edge s r))
    ]
