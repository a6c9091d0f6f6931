-- What follows from a message's turn.
use Rattle.std.proofs.Common.{◌≡◌, ◌<◌, ℕ, ◌+◌, ◌-◌, ◌^◌, ◌==◌, max, nat_lt, [], ◌∷◌, ◌++◌, Bool, true, false, get_or, if◌then◌else◌, Option, Some, refl, sym, ap, ◌∙◌, arith}
use Rattle.std.proofs.lemmas.Bool.Decides.{nat_tests}
use Rattle.sat_node.specs.declared.kept.Body.{Body}
use Rattle.sat_node.specs.declared.kept.Body.TheVariants as body
use Rattle.sat_opened.proofs.Numbers.{less-is}
use Rattle.sat_message.specs.declared.message.Message.{Message}
use Rattle.sat_host.specs.declared.received.Received.{Received}
use Rattle.sat_host.specs.declared.received.Received.TheVariants.{Taken, Early, Again, Unfit}
use Rattle.sat_label.specs.declared.label.Label.{Label}
use Rattle.sat_label.specs.declared.node.NodeName.{NodeName}
use Rattle.sat_site.specs.declared.input.SiteInput.{SiteInput}
use Rattle.sat_site.specs.declared.input.SiteInput.TheVariants as input
use Rattle.sat_node.specs.Meanings.{Meaning}
use Rattle.sat_node.specs.Seen.{entry}
use Rattle.sat_machines.specs.Acts.{ActSeen}
use Rattle.sat_machines.specs.Layout.{peer}
use Rattle.sat_machines.specs.Sites.{number_of}
use Rattle.sat_passes.specs.Hearings.{input_from, of_site}
use Rattle.sat_host_laws.specs.Messages.{HostSeen, IsWanted, messages_on, slip, wanted_then}
use Rattle.sat_host.specs.Receptions.{act_with}
use Rattle.sat_host.specs.Turns.{is_taken, message_at, turn_of, Receives, TakesOne}

by-tests : (w n : ℕ) (a b c : Bool) → nat_lt n w ≡ a → nat_lt w n ≡ b → (n == (2 ^ 64 - 1)) ≡ c → (if a then Again else if b then Early else if c then Unfit else Taken) ≡ Taken → (a ≡ false) × (b ≡ false) × (c ≡ false)
by-tests w n true b c x y z e = absurd (cc)
by-tests w n false true c x y z e = absurd (cc)
by-tests w n false false true x y z e = absurd (cc)
by-tests w n false false false x y z e = (refl, refl, refl)

equal-is : (w n : ℕ) → nat_lt n w ≡ false → nat_lt w n ≡ false → n ≡ w
equal-is w n a b = grind (arith, nat_tests)

-- a label whose turn it is has the wanted number
pub turn_wanted : (w n : ℕ) (b : Body) → turn_of w n b ≡ Taken → IsWanted w n b
turn_wanted w n (body.Label l) e = (let t = by-tests w n (nat_lt n w) (nat_lt w n) (n == (2 ^ 64 - 1)) refl refl refl e in equal-is w n t.0 t.1)
turn_wanted w n (body.Payload g m p) e = tt
turn_wanted w n (body.Beat m b) e = tt

pub taken_is : (r : Received) → is_taken r ≡ true → r ≡ Taken
taken_is Taken e = refl
taken_is Early e = absurd (cc)
taken_is Again e = absurd (cc)
taken_is Unfit e = absurd (cc)

again-tests : (w n : ℕ) (a b c : Bool) → nat_lt n w ≡ a → (if a then Again else if b then Early else if c then Unfit else Taken) ≡ Again → n < w
again-tests w n true b c x e = less-is n w x
again-tests w n false true c x e = absurd (cc)
again-tests w n false false true x e = absurd (cc)
again-tests w n false false false x e = absurd (cc)

again-less : (w n : ℕ) (b : Body) → turn_of w n b ≡ Again → n < w
again-less w n (body.Label l) e = again-tests w n (nat_lt n w) (nat_lt w n) (n == (2 ^ 64 - 1)) refl e
again-less w n (body.Payload g m p) e = absurd (cc)
again-less w n (body.Beat m b) e = absurd (cc)

not-now : {S M I A : Type 0} (mean : Meaning S I A) (link : ℕ) (m : Message) (given : Option I) (h : HostSeen M I A) (r : Received) → is_taken r ≡ false → turn_of (get_or h.wanted link 0) m.number m.sent.body ≡ r → Receives mean link m given h h r
not-now mean link m given h Taken e w = absurd (cc)
not-now mean link m given h Early e w = refl
not-now mean link m given h Again e w = (refl, again-less (get_or h.wanted link 0) m.number m.sent.body w)
not-now mean link m given h Unfit e w = refl

-- where it is not its turn nothing changes
pub not_taken : {S M I A : Type 0} (mean : Meaning S I A) (link : ℕ) (m : Message) (given : Option I) (h : HostSeen M I A) (r : Received) → r ≡ turn_of (get_or h.wanted link 0) m.number m.sent.body → is_taken r ≡ false → Receives mean link m given h h r
not_taken mean link m given h r w e = not-now mean link m given h r e (sym w)

-- an entry took the message
pub took_this : {S M I A : Type 0} (mean : Meaning S I A) (link : ℕ) (m : Message) (given : Option I) (old new : HostSeen M I A) (i : I) (a : A) → given ≡ Some i →
    new.node.entries ≡ old.node.entries ++ entry (max old.node.number m.sent.lamport + 1) i a ∷ [] → new.node.name ≡ old.node.name → new.slips ≡ old.slips ++ slip link m.number m.sent.lamport ∷ [] →
    ((j : ℕ) → get_or new.wanted j 0 ≡ wanted_then link m.sent.body j (get_or old.wanted j 0)) → ((j : ℕ) → messages_on mean new j ≡ messages_on mean old j ++ message_at link m j) → new.cursors ≡ old.cursors →
    TakesOne mean link m given old new
took_this mean link m given old new i a e taken name slips wanted messages cursors = record { entry = (i, a, e, taken); name = name; slips = slips; wanted = wanted; messages = messages; cursors = cursors }

-- what the site is handed, as what the message is
pub bulk_given : (name : NodeName) (link : ℕ) (b : Body) (i : ActSeen) → i ≡ act_with name link b → Some (act_with name link b) ≡ Some i
bulk_given name link b i e = ap (λ (x : ActSeen). Some x) (sym e)

pub label_given : (name : NodeName) (link : ℕ) (b : Body) (l : Label) (i : ActSeen) → b ≡ body.Label l → i ≡ of_site (input.Turn (Some l)) → Some (act_with name link b) ≡ Some i
label_given name link b l i e f = ap (λ (x : Body). Some (act_with name link x)) e ∙ ap (λ (x : ActSeen). Some x) (sym f)

-- what came from another site, as what the site is handed
pub act_is : (name : NodeName) (link : ℕ) (b : Body) (given : SiteInput) → input_from (peer (number_of name) link) b ≡ Some given → of_site given ≡ act_with name link b
act_is name link (body.Label l) given e = absurd (cc (e))
act_is name link (body.Payload g n p) given e = (let same : input.Bulk (peer (number_of name) link) g n p ≡ given = cc (e) in ap of_site (sym same))
act_is name link (body.Beat n b) given e = (let same : input.BeatIn (peer (number_of name) link) n b ≡ given = cc (e) in ap of_site (sym same))
