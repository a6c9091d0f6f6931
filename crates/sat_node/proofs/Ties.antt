-- What ties a journal to its links stays so.
use Rattle.std.proofs.Common.{◌≡◌, ℕ, zero, suc, ◌+◌, ◌<◌, ◌≤◌, max, length, is_err, List, [], ◌∷◌, ◌++◌, slice_set, Bool, true, false, Option, Some, None, Result, Ok, Err, IfOk, OnOk, slice_get, refl, sym, ap, ◌∙◌, subst, arith, ⊎_elim}
use Rattle.sat_label.specs.declared.node.NodeName.{NodeName}
use Rattle.sat_node.specs.declared.kept.Kept.{Kept}
use Rattle.sat_node.specs.declared.kept.CallFault.{CallFault}
use Rattle.sat_node.specs.declared.kept.Envelope.{Envelope}
use Rattle.sat_node.specs.Meanings.{Meaning, replay}
use Rattle.sat_node.specs.Seen.{entry, Takes}
use Rattle.sat_node.specs.Puts.{OutSeen, Sends}
use Rattle.sat_node.specs.Links.{InSeen, HeldSeen, takings, Took, Each, out_places, in_places, Tied, kept_front, front_at, IsLocal, IsOf, Pulled, Cleared, passes, PassedOver}
use Rattle.sat_node.proofs.Members.{get_next, each_set, each_but, places_set}
use Rattle.sat_node.proofs.Sending.{sends_new, sends_more}
use Rattle.sat_node.proofs.Taking.{takings_none, takings_one, took_new, took_next, took_over, took_pulled, pulled_place}

-- the front of an end that is there
pub front_is : (ins : List InSeen) (link : ℕ) (old : InSeen) (e : Envelope) → slice_get ins link ≡ Some old → front_at ins link ≡ Some e → old.front ≡ Some e
front_is ins link old e at front = sym (ap kept_front at) ∙ front

pub front_there : (ins : List InSeen) (link : ℕ) (e : Envelope) → front_at ins link ≡ Some e → link < length ins
front_there [] link e at = absurd (cc (at))
front_there (i ∷ is) zero e at = omega arith
front_there (i ∷ is) (suc link) e at = (let less = front_there is link e at in omega arith)

module _ {S M I A : Type 0} (m : Meaning S I A) where
  pub tied_new : (h : HeldSeen M I A) → h.node.entries ≡ [] → Each h.outs (λ k o. (o.link.sent ≡ []) × (o.next ≡ 0) × (o.payloads ≡ []) × (o.beats ≡ 0))
      → Each h.ins (λ k i. (i.link.received ≡ []) × (i.front ≡ None)) → (out_places h.outs ≡ m.outs h.node.name) × (in_places h.ins ≡ m.ins h.node.name) → Tied m h
  tied_new h none outs ins places = record {
    sending = λ k o at. (let e = outs k o at in sends_new (m.puts h.node.name k) h.node.entries o e.0 e.1 e.2 e.3);
    receiving = λ k i at. subst (λ l. Took (takings (m.takes h.node.name k) l) i) (sym none) (let e = ins k i at in took_new i e.0 e.1);
    standing = subst (λ (l : List (Kept I A)). Each l (λ _ k. m.stands k.input k.answer ≡ true)) (sym none) (λ k x at. absurd (cc (at)));
    outs = places.0;
    ins = places.1;
  }

  -- an end that sends was replaced
  pub tied_out : (h : HeldSeen M I A) (link : ℕ) (old new : OutSeen) → Tied m h → slice_get h.outs link ≡ Some old → Sends (m.puts h.node.name link) h.node.entries new → new.place ≡ old.place
      → Tied m (record h { outs = slice_set h.outs link new })
  tied_out h link old new tied at sends place = record {
    sending = each_set (λ k o. Sends (m.puts h.node.name k) h.node.entries o) h.outs link new tied.sending sends;
    receiving = tied.receiving;
    standing = tied.standing;
    outs = places_set (λ (o : OutSeen). o.place) h.outs link old new at place ∙ tied.outs;
    ins = tied.ins;
  }

  -- an end that receives was replaced
  pub tied_in : (h : HeldSeen M I A) (link : ℕ) (old new : InSeen) → Tied m h → slice_get h.ins link ≡ Some old → Took (takings (m.takes h.node.name link) h.node.entries) new → new.place ≡ old.place
      → Tied m (record h { ins = slice_set h.ins link new })
  tied_in h link old new tied at took place = record {
    sending = tied.sending;
    receiving = each_set (λ k i. Took (takings (m.takes h.node.name k) h.node.entries) i) h.ins link new tied.receiving took;
    standing = tied.standing;
    outs = tied.outs;
    ins = places_set (λ (i : InSeen). i.place) h.ins link old new at place ∙ tied.ins;
  }

  pub tied_pull : (h : HeldSeen M I A) (link : ℕ) (old new : InSeen) → Tied m h → slice_get h.ins link ≡ Some old → Pulled old new → Tied m (record h { ins = slice_set h.ins link new })
  tied_pull h link old new tied at pulled = tied_in h link old new tied at (took_pulled (takings (m.takes h.node.name link) h.node.entries) old new pulled (tied.receiving link old at)) (pulled_place old new pulled)

  pub tied_over : (h : HeldSeen M I A) (link : ℕ) (old new : InSeen) (over : Bool) → Tied m h → slice_get h.ins link ≡ Some old → PassedOver over old new → Tied m (record h { ins = slice_set h.ins link new })
  tied_over h link old new false tied at over = tied_in h link old new tied at (subst (Took (takings (m.takes h.node.name link) h.node.entries)) (sym over.1) (tied.receiving link old at)) (ap (λ (i : InSeen). i.place) over.1)
  tied_over h link old new true tied at over = go old.front refl where
    go : (f : Option Envelope) → old.front ≡ f → Tied m (record h { ins = slice_set h.ins link new })
    go None e = absurd (let wrong : true ≡ false = over.0 ∙ ap passes e in cc (wrong))
    go (Some front) e =
        tied_in h link old new tied at
        (took_over old new front (takings (m.takes h.node.name link) h.node.entries) (tied.receiving link old at) e (sym (over.0 ∙ ap passes e)) (ap (λ (i : InSeen). i.link.received) over.1) (ap (λ (i : InSeen). i.front) over.1))
        (ap (λ (i : InSeen). i.place) over.1)

  -- after an entry more
  tied_next : (h w : HeldSeen M I A) (n : ℕ) (input : I) (a : A) → Tied m h → w.node.name ≡ h.node.name → w.node.entries ≡ h.node.entries ++ entry n input a ∷ []
      → m.stands input a ≡ true → w.outs ≡ h.outs → in_places w.ins ≡ in_places h.ins → Each w.ins (λ k i. Took (takings (m.takes h.node.name k) w.node.entries) i) → Tied m w
  tied_next h w n input a tied name is stand outs places taken =
      subst (λ (x : NodeName). Tied m (record w { node = record w.node { name = x } })) (sym name) (record {
        sending = λ k o at. sends_more (m.puts h.node.name k) h.node.entries w.node.entries (entry n input a) o is (tied.sending k o (sym (ap (λ l. slice_get l k) outs) ∙ at));
        receiving = taken;
        standing = λ k x at.
            ⊎_elim (λ (was : slice_get h.node.entries k ≡ Some x). tied.standing k x was) (λ (new : entry n input a ≡ x). subst (λ (y : Kept I A). m.stands y.input y.answer ≡ true) new stand)
            (get_next h.node.entries (entry n input a) x k (sym (ap (λ l. slice_get l k) is) ∙ at));
        outs = ap out_places outs ∙ tied.outs;
        ins = places ∙ tied.ins;
      })

  -- the node and the ends are as they were
  pub tied_same : (h w : HeldSeen M I A) → Tied m h → w.node.name ≡ h.node.name → w.node.entries ≡ h.node.entries → w.outs ≡ h.outs → w.ins ≡ h.ins → Tied m w
  tied_same h w tied name entries outs ins =
      subst (λ (x : NodeName × List (Kept I A) × List OutSeen × List InSeen). Tied m (record { node = record w.node { name = x.0; entries = x.1 }; outs = x.2; ins = x.3 }))
      (λ d. (sym name d, sym entries d, sym outs d, sym ins d)) (record { sending = tied.sending; receiving = tied.receiving; standing = tied.standing; outs = tied.outs; ins = tied.ins })

  -- after an input that takes nothing from a link, kept or not
  pub tied_act : (r : Result A CallFault) (heard : ℕ) (input : I) (may : Bool) (h w : HeldSeen M I A) → Tied m h → IsLocal m h.node input → Takes heard input may r h.node w.node
      → IfOk r (λ a. m.answers h.node.name (replay m h.node.name h.node.entries) input a) → w.outs ≡ h.outs → w.ins ≡ h.ins → Tied m w
  tied_act (Err e) heard input may h w tied local takes answer outs ins = tied_same h w tied takes.name takes.err.0.2 outs ins
  tied_act (Ok a) heard input may h w tied local takes answer outs ins =
      let n = max h.node.number heard + 1 in
      let took : Each h.ins (λ k i. Took (takings (m.takes h.node.name k) w.node.entries) i) =
      λ k i at. subst (λ l. Took l i) (sym (ap (takings (m.takes h.node.name k)) takes.taken ∙ takings_none (m.takes h.node.name k) h.node.entries (entry n input a) (local.takes a k answer))) (tied.receiving k i at) in
      tied_next h w n input a tied takes.name takes.taken (local.stands a answer) outs (ap in_places ins)
      (subst (λ (l : List InSeen). Each l (λ k i. Took (takings (m.takes h.node.name k) w.node.entries) i)) (sym ins) took)

  -- after an input that wasn't taken
  pub tied_failed : (r : Result A CallFault) (heard : ℕ) (input : I) (may : Bool) (h w : HeldSeen M I A) → is_err r ≡ true → Tied m h → Takes heard input may r h.node w.node → w.outs ≡ h.outs → w.ins ≡ h.ins → Tied m w
  tied_failed (Err e) heard input may h w failed tied takes outs ins = tied_same h w tied takes.name takes.err.0.2 outs ins
  tied_failed (Ok a) heard input may h w failed tied takes outs ins = absurd (cc (failed))

  -- after an input that took the front of a link
  tied_taken : (a : A) (heard : ℕ) (input : I) (may : Bool) (h w : HeldSeen M I A) (link : ℕ) (old new : InSeen) (e : Envelope) → e.lamport ≤ heard → Tied m h → old.front ≡ Some e → IsOf m h.node link e.body input
      → Takes heard input may (Ok a) h.node w.node → m.answers h.node.name (replay m h.node.name h.node.entries) input a
      → w.outs ≡ h.outs → slice_get h.ins link ≡ Some old → Cleared old new → w.ins ≡ slice_set h.ins link new → Tied m w
  tied_taken a heard input may h w link old new e above tied front fits takes answer outs at cleared ins =
      let n = max h.node.number heard + 1 in
      let less : e.lamport < n = omega arith in
      let name = h.node.name in
      let here : Took (takings (m.takes name link) w.node.entries) new =
      subst (λ l. Took l new) (sym (ap (takings (m.takes name link)) takes.taken ∙ takings_one (m.takes name link) h.node.entries (entry n input a) e.body (fits.takes a answer)))
      (took_next old new e (takings (m.takes name link) h.node.entries) n (tied.receiving link old at) front less (ap (λ (i : InSeen). i.link.received) cleared) (ap (λ (i : InSeen). i.front) cleared)) in
      let all : Each (slice_set h.ins link new) (λ k i. Took (takings (m.takes name k) w.node.entries) i) =
      each_but (λ k i. Took (takings (m.takes name k) h.node.entries) i) (λ k i. Took (takings (m.takes name k) w.node.entries) i) h.ins link new tied.receiving
      (λ k i other took. subst (λ l. Took l i) (sym (ap (takings (m.takes name k)) takes.taken ∙ takings_none (m.takes name k) h.node.entries (entry n input a) (fits.others a k answer other))) took)
      here in
      tied_next h w n input a tied takes.name takes.taken (fits.stands a answer) outs
      (ap in_places ins ∙ places_set (λ (i : InSeen). i.place) h.ins link old new at (ap (λ (i : InSeen). i.place) cleared))
      (subst (λ (l : List InSeen). Each l (λ k i. Took (takings (m.takes name k) w.node.entries) i)) (sym ins) all)

  pub tied_handle : (r : Result A CallFault) (heard : ℕ) (input : I) (may : Bool) (h w : HeldSeen M I A) (link : ℕ) (old new : InSeen) (e : Envelope) → is_err r ≡ false → e.lamport ≤ heard → Tied m h → old.front ≡ Some e
      → IsOf m h.node link e.body input → Takes heard input may r h.node w.node → IfOk r (λ a. m.answers h.node.name (replay m h.node.name h.node.entries) input a)
      → w.outs ≡ h.outs → slice_get h.ins link ≡ Some old → Cleared old new → w.ins ≡ slice_set h.ins link new → Tied m w
  tied_handle (Ok a) heard input may h w link old new e done above tied front fits takes answer outs at cleared ins = tied_taken a heard input may h w link old new e above tied front fits takes answer outs at cleared ins
  tied_handle (Err x) heard input may h w link old new e done above tied front fits takes answer outs at cleared ins = absurd (cc (done))

pub on_ok : {X E : Type 0} {P : Type 0} (r : Result X E) → P → OnOk r P
on_ok (Ok x) h = h
on_ok (Err e) h = tt
