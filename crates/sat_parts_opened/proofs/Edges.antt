-- All labels that hubs and serializers took from links were put there, in their order, where the parts of hubs and gears
-- agree.
use Rattle.std.proofs.Common.{◌≡◌, ◌<◌, ℕ, Bool, true, false, nat_lt, List, [], ◌∷◌, length, Option, Some, None, slice_get, refl, sym, ap, ◌∙◌, subst, inl, inr}
use Rattle.sat_label.specs.Members.{In}
use Rattle.sat_label.specs.declared.node.NodeId.{NodeId}
use Rattle.sat_label.specs.declared.node.NodeId.TheVariants.{Site, Serializer}
use Rattle.sat_label.specs.declared.node.NodeName.TheVariants as named
use Rattle.sat_tree.specs.Shape.{TreeShape}
use Rattle.sat_tree.specs.Cut.{is_edge, neighbours, seat_of, IsNode}
use Rattle.sat_act.specs.declared.answer.Answer.{Answer}
use Rattle.sat_act.specs.Deployed.{Deployed}
use Rattle.sat_act.specs.Limits.{IsDeployment}
use Rattle.sat_act.specs.Parts.{tree_of}
use Rattle.sat_net.proofs.Edges.{at-seat, edge-within, no-edge, turned-edge}
use Rattle.sat_node.specs.declared.kept.Kept.{Kept as Line}
use Rattle.sat_node.specs.Puts.{put_by}
use Rattle.sat_node.specs.Links.{HeldSeen, takings}
use Rattle.sat_stitch.specs.Kept.{Kept, marks}
use Rattle.sat_stitch.specs.Nodes.{put_on, took_from}
use Rattle.sat_stitch.specs.Fit.{IsHanded}
use Rattle.sat_joint.specs.Pieces.{Piece, plains}
use Rattle.sat_joint.specs.Table.{AtHub, Node, link_node}
use Rattle.sat_hub_laws.specs.Hubs.{hub_act, hub_handed as handed_to}
use Rattle.sat_hub_laws.specs.Lines.{HubLine, hub_piece, hub_pieces}
use Rattle.sat_hub_laws.specs.Parts.{PartsAgree}
use Rattle.sat_machines.specs.Layout.{Edge, label_link, place_of}
use Rattle.sat_machines.specs.Serials.{serial_meaning, serial_puts, serial_takes}
use Rattle.sat_machines.specs.declared.serial_act.SerialAct.{SerialAct}
use Rattle.sat_machines.specs.declared.serial_act.SerialAnswer.{SerialAnswer}
use Rattle.sat_parts.specs.declared.hub_answer.HubAnswer.{HubAnswer}
use Rattle.sat_parts.specs.declared.gear_answer.GearAnswer.{GearAnswer}
use Rattle.sat_parts.specs.declared.hub_input.HubInput.{HubInput}
use Rattle.sat_parts.specs.declared.hub_input.HubInput.TheVariants as hub
use Rattle.sat_parts.specs.Acts.{HubActSeen, GearActSeen, client_in, drains_of, hub_handed}
use Rattle.sat_parts.specs.Hubs.{hub_meaning, hub_puts, hub_takes_from}
use Rattle.sat_parts.specs.Lines.{hub_line, hub_lines}
use Rattle.sat_opened.specs.Delivered.{Delivered}
use Rattle.sat_opened.specs.Keeping.{newest, serial_kept}
use Rattle.sat_opened.specs.Opened.{entries_at}
use Rattle.sat_opened.proofs.Deliveries.{delivered-on}
use Rattle.sat_opened.proofs.Found.{look-up}
use Rattle.sat_opened.proofs.Handings.{label_made, label_body}
use Rattle.sat_opened.proofs.Layouts.{neighbour-there, serial-end, tree-end}
use Rattle.sat_opened.proofs.Links.{none-handed, nothing-handed}
use Rattle.sat_opened.proofs.Numbers.{is-less, less-is}
use Rattle.sat_opened.proofs.SerialHosts.{SerialAt, SerialHosts, between, find-serial, over-link, place-in, place-out, serial-at}
use Rattle.sat_opened.proofs.SerialKept.{SerialStep}
use Rattle.sat_opened.proofs.SerialLinks.{none-taken, serial-enters, serial-takes-over}
use Rattle.sat_opened.proofs.Walks.{Along, along-more}
use Rattle.sat_parts_opened.specs.Opened.{gears_of, hubs_of, pieces_at}
use Rattle.sat_parts_opened.specs.Hosts.{PartsHosted}
use Rattle.sat_parts_opened.proofs.Hosted.{HubAt, find-hub, hub-at, of-gears, serial-hosts}
use Rattle.sat_parts_opened.proofs.HubLinks.{HubKnown, hub-enters, hub-known, hub-takes-in}
use Rattle.sat_parts_opened.proofs.Laned.{ins-front, outs-front}
use Rattle.sat_parts_opened.proofs.Owned.{OwnDrains, gave-own}
use Rattle.sat_parts_opened.proofs.Serials.{plains-are}
use Rattle.sat_parts_opened.specs.Keeping.{hub_kept}
use Rattle.sat_parts_opened.proofs.Walked.{Past, hub-lined, hub-newest, hub_plains, lined, past-kept}

-- ---- each entry of a journal is a piece

in-more : (ls : List HubLine) (es : List (Line HubActSeen HubAnswer)) (l : HubLine) → In ls l → In (lined hub_line ls es) l
in-more ls [] l m = m
in-more ls (k ∷ es) l m = in-more (hub_line k ∷ ls) es l (inr m)

in-lined : (ls : List HubLine) (es : List (Line HubActSeen HubAnswer)) (x : Line HubActSeen HubAnswer) → In es x → In (lined hub_line ls es) (hub_line x)
in-lined ls [] x m = absurd m
in-lined ls (k ∷ es) x (inl e) = in-more (hub_line k ∷ ls) es (hub_line x) (inl (ap hub_line e))
in-lined ls (k ∷ es) x (inr m) = in-lined (hub_line k ∷ ls) es x m

in-pieces : (i : ℕ) (ls : List HubLine) (l : HubLine) → In ls l → In (hub_pieces i ls) (hub_piece i l)
in-pieces i [] l m = absurd m
in-pieces i (k ∷ ls) l (inl e) = inl (ap (hub_piece i) e)
in-pieces i (k ∷ ls) l (inr m) = inr (in-pieces i ls l m)

module _ {M G K : Type 0} (d : Deployed) (hubs : List (HeldSeen M HubActSeen HubAnswer)) (gears : List (HeldSeen G GearActSeen GearAnswer)) (serials : List (HeldSeen K SerialAct SerialAnswer)) (dep : IsDeployment d) (all : PartsHosted d hubs gears serials)
    (alone : ℕ → List Piece) (agree : PartsAgree d (pieces_at hubs gears serials alone)) where
  abbrev lists : Node → List Piece
  lists = pieces_at hubs gears serials alone

  abbrev hosts : SerialHosts d serials
  hosts = serial-hosts d hubs gears serials all

  -- what a hub was handed is of its site
  own-input : (i number c : ℕ) (input : HubInput) (r : Answer) → In (lists (AtHub i)) (record { number = number; act = hub_act i c (hub_handed input); handed = handed_to (hub_handed input); answer = r }) → OwnDrains d i (hub_handed input)
  own-input i number c (hub.Gather drained) r m =
      gave-own d lists agree i (gears_of gears i) (λ g. refl) (λ g. (of-gears d hubs gears serials all i g).lines) number (drains_of drained) r m
  own-input i number c (hub.Attach seen) r m = tt
  own-input i number c _ r m = tt

  known-at : (i : ℕ) (h : HubAt d hubs gears serials all i) → Past hub_line (HubKnown d i) [] h.found.held.node.entries
  known-at i h =
      hub-known d i h.found.held.node.entries h.steps
      (λ x m. own-input i x.lamport (client_in x.input.by) x.input.input x.answer.answer
      (subst (λ (es : List (Line HubActSeen HubAnswer)). In (hub_pieces i (hub_lines es)) (hub_piece i (hub_line x))) (sym h.found.entries_are)
      (in-pieces i (hub_lines h.found.held.node.entries) (hub_line x) (subst (λ (ls : List HubLine). In ls (hub_line x)) (hub-lined [] h.found.held.node.entries) (in-lined [] h.found.held.node.entries x m)))))

  module _ (e : ℕ) (t : TreeShape) (tree : tree_of d e ≡ Some t) where
    seated : (i : ℕ) → i < d.sites → i < length t.seats
    seated i lt = subst (λ (n : ℕ). i < n) (sym (dep.all_seated e t tree)) lt

    -- from a hub to its serializer
    up-handed : (i z : ℕ) → seat_of t i ≡ z → is_edge t (Site i) (Serializer z) ≡ true → (s : HubAt d hubs gears serials all i) (r : SerialAt d serials hosts e z) →
        IsHanded (marks (took_from d e (Site i) (Serializer z)) (newest (serial_kept e z) r.found.held.node.entries)) (marks (put_on d e t (Site i) (Serializer z)) (newest (hub_kept i) s.found.held.node.entries))
    up-handed i z seat edge s r =
        let at : (k : ℕ) × (slice_get (neighbours t z) k ≡ Some (Site i)) = neighbour-there t z (Site i) (seated i s.inside) (turned-edge t (Serializer z) (Site i) ∙ edge) in
        let came : Delivered (takings (λ act a. serial_takes at.0 act a) r.found.held.node.entries) (put_by (hub_puts (named.Site i) (label_link d e)) s.found.held.node.entries) =
        between (hub_meaning d) (serial_meaning d) s.found.held r.found.held (named.Site i) (named.Serializer e z) s.found.is_named r.found.is_named (all.from_hubs s.found.index r.found.index s.found.held r.found.held s.found.there r.found.there) (label_link d e) at.0 (place_of d (Edge e (Site i) (Serializer (seat_of t i))))
        (outs-front d i (label_link d e) (place_of d (Edge e (Site i) (Serializer (seat_of t i)))) (place-out d (named.Site i) (label_link d e) (Edge e (Site i) (Serializer (seat_of t i))) (tree-end d i e t tree)))
        (place-in d (named.Serializer e z) at.0 (Edge e (Site i) (Serializer (seat_of t i))) (Edge e (Serializer z) (Site i)) (serial-end d e z at.0 t (Site i) tree at.1) (ap (λ (y : ℕ). Edge e (Site i) (Serializer y)) (sym seat))) in
        delivered-on (hub_puts (named.Site i) (label_link d e)) (λ act a. serial_takes at.0 act a) (hub_kept i) (serial_kept e z) (put_on d e t (Site i) (Serializer z)) (took_from d e (Site i) (Serializer z)) s.found.held.node.entries r.found.held.node.entries
        (λ x. refl) (λ x. refl)
        (subst (λ (y : ℕ). Along (hub_kept i) (λ b x. hub_puts (named.Site i) (label_link d e) x.input x.answer ≡ label_made (put_on d e t (Site i) (Serializer y) b (hub_kept i x))) [] s.found.held.node.entries) seat
        (past-kept hub_line (hub_kept i) (hub_plains i) (λ x ls. refl) (HubKnown d i) (λ b x. hub_puts (named.Site i) (label_link d e) x.input x.answer ≡ label_made (put_on d e t (Site i) (Serializer (seat_of t i)) b (hub_kept i x))) [] s.found.held.node.entries
        (λ b x m known. hub-enters d dep i s.inside e t tree b x known) (known-at i s)))
        (along-more (serial_kept e z) (SerialStep d e z) (λ b x. serial_takes at.0 x.input x.answer ≡ label_body (took_from d e (Site i) (Serializer z) b (serial_kept e z x))) [] r.found.held.node.entries (λ b x m step. serial-takes-over d e z t tree at.0 (Site i) at.1 b x step) r.steps)
        came

    -- from a serializer to a hub
    down-handed : (i z : ℕ) → seat_of t i ≡ z → is_edge t (Serializer z) (Site i) ≡ true → (s : SerialAt d serials hosts e z) (r : HubAt d hubs gears serials all i) →
        IsHanded (marks (took_from d e (Serializer z) (Site i)) (newest (hub_kept i) r.found.held.node.entries)) (marks (put_on d e t (Serializer z) (Site i)) (newest (serial_kept e z) s.found.held.node.entries))
    down-handed i z seat edge s r =
        let at : (k : ℕ) × (slice_get (neighbours t z) k ≡ Some (Site i)) = neighbour-there t z (Site i) (seated i r.inside) edge in
        let came : Delivered (takings (hub_takes_from d (named.Site i) (label_link d e)) r.found.held.node.entries) (put_by (λ act a. serial_puts at.0 a) s.found.held.node.entries) =
        between (serial_meaning d) (hub_meaning d) s.found.held r.found.held (named.Serializer e z) (named.Site i) s.found.is_named r.found.is_named (all.from_serials s.found.index r.found.index s.found.held r.found.held s.found.there r.found.there) at.0 (label_link d e) (place_of d (Edge e (Serializer z) (Site i)))
        (place-out d (named.Serializer e z) at.0 (Edge e (Serializer z) (Site i)) (serial-end d e z at.0 t (Site i) tree at.1))
        (ins-front d i (label_link d e) (place_of d (Edge e (Serializer z) (Site i))) (place-in d (named.Site i) (label_link d e) (Edge e (Serializer z) (Site i)) (Edge e (Site i) (Serializer (seat_of t i))) (tree-end d i e t tree) (ap (λ (y : ℕ). Edge e (Serializer y) (Site i)) seat))) in
        delivered-on (λ act a. serial_puts at.0 a) (hub_takes_from d (named.Site i) (label_link d e)) (serial_kept e z) (hub_kept i) (put_on d e t (Serializer z) (Site i)) (took_from d e (Serializer z) (Site i)) s.found.held.node.entries r.found.held.node.entries
        (λ x. refl) (λ x. refl)
        (along-more (serial_kept e z) (SerialStep d e z) (λ b x. serial_puts at.0 x.answer ≡ label_made (put_on d e t (Serializer z) (Site i) b (serial_kept e z x))) [] s.found.held.node.entries (λ b x m step. serial-enters d e z t tree at.0 (Site i) at.1 b x step) s.steps)
        (subst (λ (y : ℕ). Along (hub_kept i) (λ b x. hub_takes_from d (named.Site i) (label_link d e) x.input x.answer ≡ label_body (took_from d e (Serializer y) (Site i) b (hub_kept i x))) [] r.found.held.node.entries) seat
        (past-kept hub_line (hub_kept i) (hub_plains i) (λ x ls. refl) (HubKnown d i) (λ b x. hub_takes_from d (named.Site i) (label_link d e) x.input x.answer ≡ label_body (took_from d e (Serializer (seat_of t i)) (Site i) b (hub_kept i x))) [] r.found.held.node.entries
        (λ b x m known. hub-takes-in d dep i r.inside e t tree b x known) (known-at i r)))
        came

    -- ---- all edges, by what was kept

    abbrev hub_list : ℕ → List Kept
    hub_list i = hub_plains i (hubs_of hubs i)

    abbrev serial_list : ℕ → List Kept
    serial_list z = newest (serial_kept e z) (entries_at (named.Serializer e z) serials)

    -- the list of a hub
    hub-list : (i : ℕ) (h : HubAt d hubs gears serials all i) → newest (hub_kept i) h.found.held.node.entries ≡ hub_list i
    hub-list i h = sym (hub-newest i h.found.held.node.entries) ∙ ap (λ (es : List (Line HubActSeen HubAnswer)). hub_plains i (hub_lines es)) (sym h.found.entries_are)

    serial-list : (z : ℕ) (s : SerialAt d serials hosts e z) → newest (serial_kept e z) s.found.held.node.entries ≡ serial_list z
    serial-list z s = ap (newest (serial_kept e z)) (sym s.found.entries_are)

    -- a list of nobody took nothing
    nobody : {Y : Type 0} (f : List Kept → Kept → Option Y) (ks : List Kept) (put : List (ℕ × Y)) → ks ≡ [] → IsHanded (marks f ks) put
    nobody f ks put w = subst (λ (ks : List Kept). IsHanded (marks f ks) put) (sym w) (nothing-handed put)

    up-link : (i z : ℕ) → is_edge t (Site i) (Serializer z) ≡ true → IsHanded (marks (took_from d e (Site i) (Serializer z)) (serial_list z)) (marks (put_on d e t (Site i) (Serializer z)) (hub_list i))
    up-link i z edge = elim (look-up (named.Serializer e z) serials) [
      | inr none ↦ nobody (took_from d e (Site i) (Serializer z)) (serial_list z) (marks (put_on d e t (Site i) (Serializer z)) (hub_list i)) (ap (newest (serial_kept e z)) none)
      | inl f ↦
          let r : SerialAt d serials hosts e z = serial-at d serials hosts e z f in
          subst (λ (ks : List Kept). IsHanded (marks (took_from d e (Site i) (Serializer z)) ks) (marks (put_on d e t (Site i) (Serializer z)) (hub_list i))) (serial-list z r) (go (nat_lt i d.sites) refl r)
    ]
      where
        out : nat_lt i d.sites ≡ false → IsNode t (Site i) → ⊥
        out w n = let clash : nat_lt i d.sites ≡ true = is-less i d.sites (subst (λ (m : ℕ). i < m) (dep.all_seated e t tree) n) in absurd (cc)

        go : (b : Bool) → nat_lt i d.sites ≡ b → (r : SerialAt d serials hosts e z) → IsHanded (marks (took_from d e (Site i) (Serializer z)) (newest (serial_kept e z) r.found.held.node.entries)) (marks (put_on d e t (Site i) (Serializer z)) (hub_list i))
        go true w r =
            let s : HubAt d hubs gears serials all i = find-hub d hubs gears serials all i (less-is i d.sites w) in
            subst (λ (ks : List Kept). IsHanded (marks (took_from d e (Site i) (Serializer z)) (newest (serial_kept e z) r.found.held.node.entries)) (marks (put_on d e t (Site i) (Serializer z)) ks)) (hub-list i s)
            (up-handed i z (at-seat t i z edge) edge s r)
        go false w r =
            none-handed (serial_kept e z) (took_from d e (Site i) (Serializer z)) r.found.held.node.entries (marks (put_on d e t (Site i) (Serializer z)) (hub_list i))
            (along-more (serial_kept e z) (SerialStep d e z) (λ b x. took_from d e (Site i) (Serializer z) b (serial_kept e z x) ≡ None) [] r.found.held.node.entries (λ b x m step. none-taken d e z t tree (Site i) (out w) b x step) r.steps)

    down-link : (i z : ℕ) → is_edge t (Serializer z) (Site i) ≡ true → IsHanded (marks (took_from d e (Serializer z) (Site i)) (hub_list i)) (marks (put_on d e t (Serializer z) (Site i)) (serial_list z))
    down-link i z edge = elim (look-up (named.Site i) hubs) [
      | inr none ↦ nobody (took_from d e (Serializer z) (Site i)) (hub_list i) (marks (put_on d e t (Serializer z) (Site i)) (serial_list z)) (ap (λ (es : List (Line HubActSeen HubAnswer)). hub_plains i (hub_lines es)) none)
      | inl f ↦
          let back : is_edge t (Site i) (Serializer z) ≡ true = turned-edge t (Site i) (Serializer z) ∙ edge in
          let r : HubAt d hubs gears serials all i = hub-at d hubs gears serials all i f in
          let s : SerialAt d serials hosts e z = find-serial d serials hosts e z t tree (edge-within t (Site i) z (dep.trees e t tree) back) in
          subst (λ (ks : List Kept). IsHanded (marks (took_from d e (Serializer z) (Site i)) ks) (marks (put_on d e t (Serializer z) (Site i)) (serial_list z))) (hub-list i r)
          (subst (λ (ks : List Kept). IsHanded (marks (took_from d e (Serializer z) (Site i)) (newest (hub_kept i) r.found.held.node.entries)) (marks (put_on d e t (Serializer z) (Site i)) ks)) (serial-list z s)
          (down-handed i z (at-seat t i z back) edge s r))
    ]

    -- what was kept at the node of a tree
    abbrev list_at : NodeId → List Kept
    list_at (Site i) = hub_list i
    list_at (Serializer z) = serial_list z

    list-is : (u : NodeId) → list_at u ≡ plains (lists (link_node e u))
    list-is (Site i) = refl
    list-is (Serializer z) = sym (plains-are (serial_list z))

    link-at : (u v : NodeId) → is_edge t u v ≡ true → IsHanded (marks (took_from d e u v) (list_at v)) (marks (put_on d e t u v) (list_at u))
    link-at (Site i) (Site j) edge = absurd (let none : is_edge t (Site i) (Site j) ≡ false = no-edge t i j in cc)
    link-at (Site i) (Serializer z) edge = up-link i z edge
    link-at (Serializer z) (Site i) edge = down-link i z edge
    link-at (Serializer y) (Serializer z) edge = over-link d serials hosts dep e t tree y z edge

    pub link : (u v : NodeId) → is_edge t u v ≡ true → IsHanded (marks (took_from d e u v) (plains (lists (link_node e v)))) (marks (put_on d e t u v) (plains (lists (link_node e u))))
    link u v edge =
        subst (λ (ks : List Kept). IsHanded (marks (took_from d e u v) ks) (marks (put_on d e t u v) (plains (lists (link_node e u))))) (list-is v)
        (subst (λ (ks : List Kept). IsHanded (marks (took_from d e u v) (list_at v)) (marks (put_on d e t u v) ks)) (list-is u) (link-at u v edge))
