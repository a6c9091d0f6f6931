-- What ties a journal to its slips stays so.
use Rattle.std.proofs.Common.{◌≡◌, ◌≢◌, ℕ, ◌+◌, ◌<◌, ◌==◌, max, is_err, List, [], ◌∷◌, ◌++◌, get_or, Bool, true, false, if◌then◌else◌, Some, Result, Ok, Err, IfOk, OnOk, slice_get, refl, sym, ap, ◌∙◌, subst, arith, ⊎_elim}
use Rattle.std.proofs.lemmas.List.{append-nil}
use Rattle.sat_label.proofs.Truth.{same-number}
use Rattle.sat_label.specs.declared.node.NodeName.{NodeName}
use Rattle.sat_node.specs.declared.kept.Kept.{Kept}
use Rattle.sat_node.specs.declared.kept.Body.{Body}
use Rattle.sat_node.specs.declared.kept.CallFault.{CallFault}
use Rattle.sat_node.specs.declared.kept.Envelope.{Envelope}
use Rattle.sat_node.specs.Meanings.{Meaning, replay}
use Rattle.sat_node.specs.Seen.{entry, Takes}
use Rattle.sat_node.specs.Puts.{envelope}
use Rattle.sat_node.specs.Links.{takings, IsLocal, IsOf}
use Rattle.sat_node.proofs.Members.{get_next}
use Rattle.sat_node.proofs.Taking.{takings_none, takings_one}
use Rattle.sat_opened.proofs.Numbers.{same-is}
use Rattle.sat_message.specs.declared.message.Slip.{Slip}
use Rattle.sat_message.specs.declared.message.Message.{Message}
use Rattle.sat_host_laws.specs.Messages.{IsWanted, wanted_after, TookFrom, wanted_behind, wanted_then, slip, on_link, message, messages, messages_on, HostSeen, Slipped}
use Rattle.sat_host.specs.Turns.{message_at}
use Rattle.sat_host_laws.proofs.Taken.{one_more}

-- ---- the slips of a link

kept-or-not : (b : Bool) (x : Slip) (xs ys zs : List Slip) → xs ≡ ys ++ zs → (if b then x ∷ xs else xs) ≡ (if b then x ∷ ys else ys) ++ zs
kept-or-not true x xs ys zs e = ap (λ (l : List Slip). x ∷ l) e
kept-or-not false x xs ys zs e = e

slips-more : (j : ℕ) (xs : List Slip) (s : Slip) → on_link j (xs ++ s ∷ []) ≡ on_link j xs ++ (if s.link == j then s ∷ [] else [])
slips-more j [] s = refl
slips-more j (x ∷ xs) s = kept-or-not (x.link == j) x (on_link j (xs ++ s ∷ [])) (on_link j xs) (if s.link == j then s ∷ [] else []) (slips-more j xs s)

slips-here : (j : ℕ) (xs : List Slip) (s : Slip) → (s.link == j) ≡ true → on_link j (xs ++ s ∷ []) ≡ on_link j xs ++ s ∷ []
slips-here j xs s e = slips-more j xs s ∙ ap (λ (b : Bool). on_link j xs ++ (if b then s ∷ [] else [])) e

slips-other : (j : ℕ) (xs : List Slip) (s : Slip) → (s.link == j) ≡ false → on_link j (xs ++ s ∷ []) ≡ on_link j xs
slips-other j xs s e = slips-more j xs s ∙ (ap (λ (b : Bool). on_link j xs ++ (if b then s ∷ [] else [])) e ∙ append-nil (on_link j xs))

wanted-more : (n : ℕ) (ts : List Envelope) (t : Envelope) → wanted_behind n (ts ++ t ∷ []) ≡ wanted_after (wanted_behind n ts) t.body
wanted-more n [] t = refl
wanted-more n (x ∷ ts) t = wanted-more (wanted_after n x.body) ts t

-- one message more
messages-more : (n : ℕ) (ts : List Envelope) (ss : List Slip) (t : Envelope) (s : Slip) → TookFrom n ts ss → messages (ts ++ t ∷ []) (ss ++ s ∷ []) ≡ messages ts ss ++ message t s ∷ []
messages-more n [] [] t s h = refl
messages-more n [] (y ∷ ss) t s h = absurd h
messages-more n (x ∷ ts) [] t s h = absurd h
messages-more n (x ∷ ts) (y ∷ ss) t s h = ap (λ (ms : List Message). message x y ∷ ms) (messages-more (wanted_after n x.body) ts ss t s h.1)

not-same : (a b : ℕ) → (a == b) ≡ false → b ≢ a
not-same a b e h = (let clash : (a == b) ≡ true = ap (λ (n : ℕ). a == n) h ∙ same-number a in absurd (cc))

module _ {S M I A : Type 0} (m : Meaning S I A) where
  -- after an entry more
  next : (h w : HostSeen M I A) (n : ℕ) (input : I) (a : A) → Slipped m h → w.node.name ≡ h.node.name → w.node.entries ≡ h.node.entries ++ entry n input a ∷ [] → m.stands input a ≡ true →
      ((j : ℕ) → TookFrom 0 (takings (m.takes h.node.name j) (h.node.entries ++ entry n input a ∷ [])) (on_link j w.slips)) →
      ((j : ℕ) → get_or w.wanted j 0 ≡ wanted_behind 0 (takings (m.takes h.node.name j) (h.node.entries ++ entry n input a ∷ []))) → Slipped m w
  next h w n input a s name is stand took want =
      subst (λ (x : NodeName × List (Kept I A)). Slipped m (record { node = record w.node { name = x.0; entries = x.1 }; slips = w.slips; wanted = w.wanted; cursors = w.cursors })) (λ d. (sym name d, sym is d)) (record {
        standing = λ k x at.
            ⊎_elim (λ (was : slice_get h.node.entries k ≡ Some x). s.standing k x was) (λ (new : entry n input a ≡ x). subst (λ (y : Kept I A). m.stands y.input y.answer ≡ true) new stand)
            (get_next h.node.entries (entry n input a) x k at);
        took = took;
        next = want;
      })

  -- nothing that is seen of it changed
  pub slipped_same : (h w : HostSeen M I A) → Slipped m h → w.node.name ≡ h.node.name → w.node.entries ≡ h.node.entries → w.slips ≡ h.slips → ((j : ℕ) → get_or w.wanted j 0 ≡ get_or h.wanted j 0) → Slipped m w
  slipped_same h w s name is slips want =
      subst (λ (x : NodeName × List (Kept I A) × List Slip). Slipped m (record { node = record w.node { name = x.0; entries = x.1 }; slips = x.2; wanted = w.wanted; cursors = w.cursors })) (λ d. (sym name d, sym is d, sym slips d))
      (record { standing = s.standing; took = s.took; next = λ j. want j ∙ s.next j })

  -- after an input that takes nothing from a link, kept or not
  pub slipped_act : (r : Result A CallFault) (heard : ℕ) (input : I) (may : Bool) (h w : HostSeen M I A) → Slipped m h → IsLocal m h.node input → Takes heard input may r h.node w.node →
      IfOk r (λ a. m.answers h.node.name (replay m h.node.name h.node.entries) input a) → w.slips ≡ h.slips → w.wanted ≡ h.wanted → Slipped m w
  slipped_act (Err e) heard input may h w s local takes answer slips wanted = slipped_same h w s takes.name takes.err.0.2 slips (λ j. ap (λ (ns : List ℕ). get_or ns j 0) wanted)
  slipped_act (Ok a) heard input may h w s local takes answer slips wanted =
      let n = max h.node.number heard + 1 in
      let same : (j : ℕ) → takings (m.takes h.node.name j) (h.node.entries ++ entry n input a ∷ []) ≡ takings (m.takes h.node.name j) h.node.entries = λ j. takings_none (m.takes h.node.name j) h.node.entries (entry n input a) (local.takes a j answer) in
      next h w n input a s takes.name takes.taken (local.stands a answer)
      (λ j. subst (λ (ss : List Slip). TookFrom 0 (takings (m.takes h.node.name j) (h.node.entries ++ entry n input a ∷ [])) (on_link j ss)) (sym slips) (subst (λ (ts : List Envelope). TookFrom 0 ts (on_link j h.slips)) (sym (same j)) (s.took j)))
      (λ j. ap (λ (ns : List ℕ). get_or ns j 0) wanted ∙ (s.next j ∙ ap (wanted_behind 0) (sym (same j))))

  -- an input that wasn't taken
  pub slipped_failed : (r : Result A CallFault) (heard : ℕ) (input : I) (may : Bool) (h w : HostSeen M I A) → is_err r ≡ true → Slipped m h → Takes heard input may r h.node w.node → w.slips ≡ h.slips → ((j : ℕ) → get_or w.wanted j 0 ≡ get_or h.wanted j 0) → Slipped m w
  slipped_failed (Err e) heard input may h w failed s takes slips want = slipped_same h w s takes.name takes.err.0.2 slips want
  slipped_failed (Ok a) heard input may h w failed s takes slips want = absurd (cc (failed))

  -- what an entry took, seen from a link
  took-here : (a : A) (input : I) (h : HostSeen M I A) (link n : ℕ) (b : Body) → IsOf m h.node link b input → m.answers h.node.name (replay m h.node.name h.node.entries) input a → (j : ℕ) → (link == j) ≡ true →
      takings (m.takes h.node.name j) (h.node.entries ++ entry n input a ∷ []) ≡ takings (m.takes h.node.name j) h.node.entries ++ envelope n b ∷ []
  took-here a input h link n b fits answer j e =
      takings_one (m.takes h.node.name j) h.node.entries (entry n input a) b (ap (λ (k : ℕ). m.takes h.node.name k input a) (sym (same-is link j e)) ∙ fits.takes a answer)

  took-other : (a : A) (input : I) (h : HostSeen M I A) (link n : ℕ) (b : Body) → IsOf m h.node link b input → m.answers h.node.name (replay m h.node.name h.node.entries) input a → (j : ℕ) → (link == j) ≡ false →
      takings (m.takes h.node.name j) (h.node.entries ++ entry n input a ∷ []) ≡ takings (m.takes h.node.name j) h.node.entries
  took-other a input h link n b fits answer j e = takings_none (m.takes h.node.name j) h.node.entries (entry n input a) (fits.others a j answer (not-same link j e))

  -- after an input that took a message
  taken : (a : A) (input : I) (may : Bool) (h w : HostSeen M I A) (link number lamport : ℕ) (b : Body) → Slipped m h → IsOf m h.node link b input → IsWanted (get_or h.wanted link 0) number b →
      Takes lamport input may (Ok a) h.node w.node → m.answers h.node.name (replay m h.node.name h.node.entries) input a → w.slips ≡ h.slips ++ slip link number lamport ∷ [] →
      ((j : ℕ) → get_or w.wanted j 0 ≡ wanted_then link b j (get_or h.wanted j 0)) → Slipped m w
  taken a input may h w link number lamport b s fits asked takes answer slips want =
      next h w n input a s takes.name takes.taken (fits.stands a answer)
      (λ j. subst (λ (ss : List Slip). TookFrom 0 (takings (m.takes h.node.name j) (h.node.entries ++ entry n input a ∷ [])) (on_link j ss)) (sym slips) (took j (link == j) refl))
      (λ j. want j ∙ later j (link == j) refl)
    where
      n : ℕ
      n = max h.node.number lamport + 1

      less : lamport < n
      less = omega arith

      here : (j : ℕ) → (link == j) ≡ true → takings (m.takes h.node.name j) (h.node.entries ++ entry n input a ∷ []) ≡ takings (m.takes h.node.name j) h.node.entries ++ envelope n b ∷ []
      here j e = took-here a input h link n b fits answer j e

      other : (j : ℕ) → (link == j) ≡ false → takings (m.takes h.node.name j) (h.node.entries ++ entry n input a ∷ []) ≡ takings (m.takes h.node.name j) h.node.entries
      other j e = took-other a input h link n b fits answer j e

      asked-at : (j : ℕ) → (link == j) ≡ true → IsWanted (wanted_behind 0 (takings (m.takes h.node.name j) h.node.entries)) number b
      asked-at j e = subst (λ (k : ℕ). IsWanted k number b) (ap (λ (k : ℕ). get_or h.wanted k 0) (same-is link j e) ∙ s.next j) asked

      took : (j : ℕ) (t : Bool) → (link == j) ≡ t → TookFrom 0 (takings (m.takes h.node.name j) (h.node.entries ++ entry n input a ∷ [])) (on_link j (h.slips ++ slip link number lamport ∷ []))
      took j true e =
          subst (λ (ts : List Envelope). TookFrom 0 ts (on_link j (h.slips ++ slip link number lamport ∷ []))) (sym (here j e))
          (subst (λ (ss : List Slip). TookFrom 0 (takings (m.takes h.node.name j) h.node.entries ++ envelope n b ∷ []) ss) (sym (slips-here j h.slips (slip link number lamport) e))
          (one_more 0 (takings (m.takes h.node.name j) h.node.entries) (on_link j h.slips) (envelope n b) (slip link number lamport) (s.took j) (record { less = less; next = asked-at j e })))
      took j false e =
          subst (λ (ts : List Envelope). TookFrom 0 ts (on_link j (h.slips ++ slip link number lamport ∷ []))) (sym (other j e))
          (subst (λ (ss : List Slip). TookFrom 0 (takings (m.takes h.node.name j) h.node.entries) ss) (sym (slips-other j h.slips (slip link number lamport) e)) (s.took j))

      later : (j : ℕ) (t : Bool) → (link == j) ≡ t → wanted_then link b j (get_or h.wanted j 0) ≡ wanted_behind 0 (takings (m.takes h.node.name j) (h.node.entries ++ entry n input a ∷ []))
      later j true e =
          ap (λ (t : Bool). if t then wanted_after (get_or h.wanted j 0) b else get_or h.wanted j 0) e ∙
          (ap (λ (k : ℕ). wanted_after k b) (s.next j) ∙ (sym (wanted-more 0 (takings (m.takes h.node.name j) h.node.entries) (envelope n b)) ∙ ap (wanted_behind 0) (sym (here j e))))
      later j false e = ap (λ (t : Bool). if t then wanted_after (get_or h.wanted j 0) b else get_or h.wanted j 0) e ∙ (s.next j ∙ ap (wanted_behind 0) (sym (other j e)))

  pub slipped_taken : (r : Result A CallFault) (input : I) (may : Bool) (h w : HostSeen M I A) (link number lamport : ℕ) (b : Body) → is_err r ≡ false → Slipped m h → IsOf m h.node link b input → IsWanted (get_or h.wanted link 0) number b →
      Takes lamport input may r h.node w.node → IfOk r (λ a. m.answers h.node.name (replay m h.node.name h.node.entries) input a) → w.slips ≡ h.slips ++ slip link number lamport ∷ [] →
      ((j : ℕ) → get_or w.wanted j 0 ≡ wanted_then link b j (get_or h.wanted j 0)) → Slipped m w
  slipped_taken (Ok a) input may h w link number lamport b done s fits asked takes answer slips want = taken a input may h w link number lamport b s fits asked takes answer slips want
  slipped_taken (Err x) input may h w link number lamport b done s fits asked takes answer slips want = absurd (cc (done))

  -- and the messages of its link are one more
  messages-taken : (a : A) (input : I) (may : Bool) (h w : HostSeen M I A) (link : ℕ) (x : Message) → Slipped m h → IsOf m h.node link x.sent.body input → Takes x.sent.lamport input may (Ok a) h.node w.node →
      m.answers h.node.name (replay m h.node.name h.node.entries) input a → w.slips ≡ h.slips ++ slip link x.number x.sent.lamport ∷ [] → (j : ℕ) → messages_on m w j ≡ messages_on m h j ++ message_at link x j
  messages-taken a input may h w link x s fits takes answer slips j =
      ap (λ (y : NodeName × List (Kept I A) × List Slip). messages (takings (m.takes y.0 j) y.1) (on_link j y.2)) (λ d. (takes.name d, takes.taken d, slips d)) ∙ go (link == j) refl
    where
      n : ℕ
      n = max h.node.number x.sent.lamport + 1

      one : Slip
      one = slip link x.number x.sent.lamport

      ts : List Envelope
      ts = takings (m.takes h.node.name j) h.node.entries

      go : (b : Bool) → (link == j) ≡ b → messages (takings (m.takes h.node.name j) (h.node.entries ++ entry n input a ∷ [])) (on_link j (h.slips ++ one ∷ [])) ≡ messages_on m h j ++ message_at link x j
      go true e =
          (λ d. messages (took-here a input h link n x.sent.body fits answer j e d) (slips-here j h.slips one e d)) ∙
          (messages-more 0 ts (on_link j h.slips) (envelope n x.sent.body) one (s.took j) ∙ ap (λ (b : Bool). messages_on m h j ++ (if b then x ∷ [] else [])) (sym e))
      go false e =
          (λ d. messages (took-other a input h link n x.sent.body fits answer j e d) (slips-other j h.slips one e d)) ∙
          (sym (append-nil (messages_on m h j)) ∙ ap (λ (b : Bool). messages_on m h j ++ (if b then x ∷ [] else [])) (sym e))

  pub messages_taken : (r : Result A CallFault) (input : I) (may : Bool) (h w : HostSeen M I A) (link : ℕ) (x : Message) → is_err r ≡ false → Slipped m h → IsOf m h.node link x.sent.body input → Takes x.sent.lamport input may r h.node w.node →
      IfOk r (λ a. m.answers h.node.name (replay m h.node.name h.node.entries) input a) → w.slips ≡ h.slips ++ slip link x.number x.sent.lamport ∷ [] → OnOk r ((j : ℕ) → messages_on m w j ≡ messages_on m h j ++ message_at link x j)
  messages_taken (Ok a) input may h w link x done s fits takes answer slips = messages-taken a input may h w link x s fits takes answer slips
  messages_taken (Err e) input may h w link x done s fits takes answer slips = tt
