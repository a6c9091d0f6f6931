-- An apply, by what the code found: over the record of its fields, w, and what is seen of it, v.
use Rattle.std.proofs.Common.{◌≡◌, ◌<◌, ℕ, ◌-◌, List, length, take, sum_by, get_or, map, Option, Some, None, IsSome, slice_get, sym, ap, subst, ◌∙◌}
use Rattle.std.proofs.lemmas.List.{length-map}
use Rattle.sat_label.specs.declared.label.Kind.{Kind}
use Rattle.sat_label.specs.declared.label.Kind.TheVariants as kind
use Rattle.sat_label.specs.declared.label.Label.{Label}
use Rattle.sat_label.specs.declared.node.NodeId.{NodeId}
use Rattle.sat_label.specs.declared.node.NodeId.TheVariants.{Serializer}
use Rattle.sat_label.specs.Grouped.{list_of}
use Rattle.sat_label.specs.Members.{In}
use Rattle.sat_label.proofs.Members.{In-get}
use Rattle.sat_sites.specs.Interested.{AreBelow, Interested, IsKindOf, IsLabelOf}
use Rattle.sat_tree.specs.Shape.{TreeShape}
use Rattle.sat_act.specs.declared.act.Act.TheVariants as act
use Rattle.sat_act.specs.declared.answer.Answer.{Answer}
use Rattle.sat_act.specs.Deployed.{Deployed}
use Rattle.sat_act.specs.Ranges.{IsActOf}
use Rattle.sat_act.specs.Parts.{tree_of}
use Rattle.sat_serial.specs.Hits.{code}
use Rattle.sat_serial.specs.Routes.{routes}
use Rattle.sat_model.specs.Interests.{interest_of, replicas_of}
use Rattle.sat_model.specs.OnLinks.{HasKind, IsOnLink}
use Rattle.sat_model.proofs.OnLinks.{entered-leads}
use Rattle.sat_net.proofs.Targets.{routes-are}
use Rattle.sat_world.specs.Seen.{WorldSeen}
use Rattle.sat_world.specs.Applies.{Applies}
use Rattle.sat_chain_laws.specs.declared.pair.Pair.{Pair}
use Rattle.sat_chain_laws.specs.declared.chain_act.ChainAct.TheVariants as chain
use Rattle.sat_chain_laws.specs.declared.chain_answer.ChainAnswer.TheVariants as says
use Rattle.sat_chain_laws.specs.declared.chain_answer.ChainRefusal.TheVariants as why
use Rattle.sat_chain_laws.specs.Rows.{tail, labels_from}
use Rattle.sat_chain_laws.specs.Chains.{ChainEntry, seq, applied, plain}
use Rattle.sat_chain_laws.specs.ChainAnswers.{goes_to}
use Rattle.sat_chain_laws.specs.ChainRuns.{IsChainRun}
use Rattle.sat_chain_laws.specs.Goals.{ways}
use Rattle.sat_chain_laws.specs.Ranges.{IsChainActOf}
use Rattle.sat_chain_laws.proofs.Lists.{labels-in, prefix-in, some_is}
use Rattle.sat_chain_laws.proofs.Held.{Held, Good, links_in, links-are}
use Rattle.sat_chain.specs.Chained.{ChainSeen, row_of, number_of, after_look, after_effect, ways_on, Accounts, CanTell}
use Rattle.sat_chain.specs.Stands.{ChainsSeen, HasChain, ChainsFor, IsChains, chain_at, with_chain}
use Rattle.sat_chain.specs.Starts.{put_by}
use Rattle.sat_chain.specs.Applies.{ChainApplies}
use Rattle.sat_chain.proofs.Answering.{Accounted, accounted, tail-has, apply-dead, apply-empty}
use Rattle.sat_chain.proofs.Acting.{refuses, look-applies, effect-applies, look-frame, effect-frame, small-taken, near-in, of-chain}
use Rattle.sat_chain.proofs.Ready.{asked, is-list}
use Rattle.sat_chain.proofs.Stood.{with_both, frame-world, held-in}
use Rattle.sat_chain.proofs.Deeds.{Did, now_with, refused, done}

-- the ways of a pair, by the interest of the deployment
ways-at : (a : Interested) (d : Deployed) (t : TreeShape) (y : ℕ) (p : Pair) → a ≡ interest_of d → ways_on a t y p ≡ ways d t y p
unfolding goes_to
ways-at a d t y p is = ap (λ (b : Interested). length (routes b t y p.from p.label)) is ∙ ap (λ (vs : List NodeId). length vs) (routes-are d t y p.from p.label)

ways-are : (a : Interested) (d : Deployed) (t : TreeShape) (y : ℕ) → a ≡ interest_of d → ways_on a t y ≡ ways d t y
ways-are a d t y is = λ i p. ways-at a d t y p is i

below-same : (m n : ℕ) (xs : List ℕ) → m ≡ n → AreBelow m xs → AreBelow n xs
below-same m n xs is below = subst (λ (k : ℕ). AreBelow k xs) is below

kind-of : (d : Deployed) (k : Kind) → HasKind d k → IsKindOf (interest_of d) k
kind-of d (kind.Update items) has = below-same (length d.items) (length (map replicas_of d.items)) (list_of items) (sym (length-map d.items replicas_of)) has.0
kind-of d (kind.Move j) has = has
kind-of d kind.Pulse has = has
kind-of d (kind.Close e) has = has

label-of : (d : Deployed) (t : TreeShape) (u v : NodeId) (l : Label) → IsOnLink d t u v l → IsLabelOf (interest_of d) l
label-of d t u v l on = record { own = on.site; kind = kind-of d l.kind on.kind }

module _ (w v : ChainsSeen) (e : w ≡ v) (k : IsChains w) (f y : ℕ) (ch : ChainSeen) (found : Some ch ≡ chain_at w.chains (f - 1) y) (of : IsChainActOf v.world.deployment v.replicas (chain.Apply f y)) where
  pub at-serializer : IsActOf w.world.deployment (act.Kill f y)
  at-serializer = asked w v (chain.Apply f y) e of

  had : HasChain w f y ch
  had = record { epochs = at-serializer.1; at = sym found }

  pub apply-no-tail : (o : Option ℕ) → o ≡ number_of (tail (length ch.rows) (row_of ch.rows)) → o ≡ None → ChainApplies v (chain.Apply f y) (says.Refused why.Dead) v
  apply-no-tail o last none =
      refused w v e k (chain.Apply f y) why.Dead of (refuses w (chain.Apply f y) why.Dead k at-serializer (λ c run st. apply-dead w.world.deployment w.replicas c f y ch (of-chain w k f y ch had c st) (sym none ∙ last)))

  -- the tree that the code found
  pub tree-is : (d : Deployed) (t : TreeShape) → d ≡ w.world.deployment → Some t ≡ tree_of d f → tree_of w.world.deployment f ≡ Some t
  tree-is d t is at = ap (λ (d : Deployed). tree_of d f) (sym is) ∙ sym at

  module _ (o : Option ℕ) (j : ℕ) (last : o ≡ number_of (tail (length ch.rows) (row_of ch.rows))) (is : o ≡ Some j) where
    row : (xs : List Pair) × (row_of ch.rows j ≡ Some xs) × (j < length ch.rows)
    row = tail-has (row_of ch.rows) (length ch.rows) j (sym is ∙ last)

    pub tail-lives : IsSome (row_of ch.rows j)
    tail-lives = is-list (row_of ch.rows j) row.0 row.1

    module _ (t : TreeShape) (planned : tree_of w.world.deployment f ≡ Some t) where
      pub serializer-in : y < length t.parents
      serializer-in = subst (λ (s : TreeShape). y < length s.parents) (some_is at-serializer.0 t (sym at-serializer.2 ∙ planned)) at-serializer.3

      pub sites-are : w.interest.sites ≡ length t.seats
      sites-are = ap (λ (a : Interested). a.sites) k.frame.interest ∙ sym (k.frame.deployment.all_seated f t planned)

      accounts-for : (c : List ChainEntry) → IsChainRun w.world.deployment w.replicas c → ChainsFor w c → (xs : List Pair) → row_of ch.rows j ≡ Some xs → Accounts w.interest t y xs ch.put (applied c f y)
      accounts-for c run st xs has =
          let a : Accounted w.world.deployment w.replicas c f y ch (of-chain w k f y ch had c st) t xs =
          accounted w.world.deployment w.replicas c f y ch (of-chain w k f y ch had c st) t j xs k.frame.deployment.trees k.frame.deployment.all_seated (held-in w c run) planned has in
          record { within = a.within; sum = ap (λ (g : Pair → ℕ). sum_by g (take (applied c f y) xs)) (ways-are w.interest w.world.deployment t y k.frame.interest) ∙ a.sum }

      pub can-tell : (xs : List Pair) → row_of ch.rows j ≡ Some xs → CanTell w.interest t y xs ch.put
      can-tell xs has =
          let all : Held w.world.deployment w.replicas k.history = held-in w k.history k.run in
          let a : Accounted w.world.deployment w.replicas k.history f y ch (of-chain w k f y ch had k.history k.stands) t xs =
          accounted w.world.deployment w.replicas k.history f y ch (of-chain w k f y ch had k.history k.stands) t j xs k.frame.deployment.trees k.frame.deployment.all_seated all planned has in
          record {
            labels = λ p i.
                let good : Good w.world.deployment (plain w.replicas k.history) w.replicas f y (seq w.replicas k.history f y) = all.rows f y in
                let living : seq w.replicas k.history f y j ≡ Some xs = sym ((of-chain w k f y ch had k.history k.stands).rows j) ∙ has in
                let there : In (links_in w.world.deployment (plain w.replicas k.history) f y (tree_of w.world.deployment f) p.from) p.label =
                prefix-in (labels_from p.from xs) (links_in w.world.deployment (plain w.replicas k.history) f y (tree_of w.world.deployment f) p.from) p.label (good.from j xs p.from living) (labels-in xs p i) in
                let on = entered-leads w.world.deployment (plain w.replicas k.history) f t p.from (Serializer y) p.label all.run
                (subst (λ (ls : List Label). In ls p.label) (links-are w.world.deployment (plain w.replicas k.history) f y t p.from planned) there) in
                subst (λ (b : Interested). IsLabelOf b p.label) (sym k.frame.interest) (label-of w.world.deployment t p.from (Serializer y) p.label on.1);
            each = λ p i. subst (λ (n : ℕ). 0 < n) (sym (ways-at w.interest w.world.deployment t y p k.frame.interest)) (a.each p i);
            count = applied k.history f y;
            some = accounts-for k.history k.run k.stands xs has;
          }

      module _ (n : ℕ) (tells : (m : ℕ) → ((i : ℕ) → ch.found ≡ Some i → i ≡ m) → ((xs : List Pair) → row_of ch.rows j ≡ Some xs → Accounts w.interest t y xs ch.put m) → n ≡ m) where
        count-is : (c : List ChainEntry) → IsChainRun w.world.deployment w.replicas c → ChainsFor w c → n ≡ applied c f y
        count-is c run st = tells (applied c f y) (λ i known. (of-chain w k f y ch had c st).found i known) (λ xs has. accounts-for c run st xs has)

        module _ (p : Option Pair) (pair : (xs : List Pair) → row_of ch.rows j ≡ Some xs → p ≡ slice_get xs n) where
          pub empty-deed : (rows : List (List ChainSeen)) → p ≡ None → ((b : ChainSeen) → chain_at w.chains (f - 1) y ≡ Some b → rows ≡ with_chain w.chains (f - 1) y (after_look b n)) →
              Did v (chain.Apply f y) (says.Refused why.Empty) (now_with w w.world rows)
          empty-deed rows none looked =
              done w v e k (chain.Apply f y) (says.Refused why.Empty) w.world (f - 1) y (after_look ch n) rows (looked ch (sym found)) (look-frame w k f y ch had n)
              (look-applies w k f y ch had n at-serializer count-is
              (λ c run st. apply-empty w.world.deployment w.replicas c f y ch (of-chain w k f y ch had c st) j n row.0 (sym is ∙ last) row.1 (count-is c run st) (sym (pair row.0 row.1) ∙ none)))

          module _ (x : Pair) (there : p ≡ Some x) where
            at : slice_get row.0 n ≡ Some x
            at = sym (pair row.0 row.1) ∙ there

            pub hop-ready : IsActOf w.world.deployment (act.Hop f x.from y)
            hop-ready = near-in w k f y ch had j row.0 x row.1 (In-get row.0 n x at)

            module _ (u : WorldSeen) (r : Answer) (count : ℕ) (same : count ≡ put_by r) (did : Applies w.world (act.Hop f x.from y) r u) where
              pub small-from : n < 18446744073709551615 → (b : ChainSeen) → chain_at w.chains (f - 1) y ≡ Some b → get_or b.taken (code x.from) 0 < 18446744073709551615
              small-from small b e = subst (λ (q : ChainSeen). get_or q.taken (code x.from) 0 < 18446744073709551615) (some_is ch b (found ∙ e))
                  (small-taken w k f y ch had j n row.0 x at-serializer (sym is ∙ last) row.1 count-is at small)

              pub effect-deed : (rows : List (List ChainSeen)) → ((b : ChainSeen) → chain_at w.chains (f - 1) y ≡ Some b → rows ≡ with_chain w.chains (f - 1) y (after_effect b n x.from count)) →
                  Did v (chain.Apply f y) (says.Plain r) (now_with w u rows)
              effect-deed rows effected =
                  done w v e k (chain.Apply f y) (says.Plain r) u (f - 1) y (after_effect ch n x.from count) rows (effected ch (sym found))
                  (frame-world (with_both w w.world (f - 1) y (after_effect ch n x.from count)) u did.deployment (effect-frame w k f y ch had n x.from count))
                  (effect-applies w k f y ch had j n row.0 x at-serializer (sym is ∙ last) row.1 count-is at u r count same did)
