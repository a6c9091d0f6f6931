-- An end that went through the whole journal sent all that it puts there.
use Rattle.std.specs.Prelude.{◌≡◌, ℕ, ◌≤◌, List, length, take, Option}
use Rattle.std.proofs.Common.{ap, ◌∙◌, subst, inl, inr, arith}
use Rattle.std.proofs.lemmas.List.{take_all}
use Rattle.sat_node.specs.declared.kept.Kept.{Kept}
use Rattle.sat_node.specs.declared.kept.Made.{Made}
use Rattle.sat_node.specs.Links.{Both, Each, HeldSeen, Tied}
use Rattle.sat_node.specs.Meanings.{Meaning}
use Rattle.sat_node.specs.Seen.{NodeSeen}
use Rattle.sat_node.specs.Puts.{OutSeen, Sends, Stopped, put_by}
use Rattle.sat_parts_passes.specs.Waiting.{SentOrFull}

whole-sent : {I A : Type 0} (of : I → A → Option Made) (ks : List (Kept I A)) (p o : OutSeen) → Stopped ks p o → Sends of ks o → SentOrFull of ks p o
whole-sent {I} {A} of ks p o (inl through) sends =
    let le : length ks ≤ length ks = omega arith in
    inl (sends.sent ∙ (ap (λ (n : ℕ). put_by of (take n ks)) through.0 ∙ ap (λ (xs : List (Kept I A)). put_by of xs) (take_all (length ks) ks le)))
whole-sent of ks p o (inr full) sends = inr full

pub sent_or_full : {I A : Type 0} (puts : ℕ → I → A → Option Made) (ks : List (Kept I A)) (old new : List OutSeen) → Both (λ k p o. Stopped ks p o) old new → Each new (λ k o. Sends (puts k) ks o) →
    Both (λ k p o. SentOrFull (puts k) ks p o) old new
sent_or_full puts ks old new both sends =
    (both.0, λ k y at. (let f = both.1 k y at in (f.0, f.1, whole-sent (puts k) ks f.0 y f.2 (sends k y at))))

pub waiting_sent : {S M I A : Type 0} (m : Meaning S I A) (old new : HeldSeen M I A) → new.node ≡ old.node → Both (λ k p o. Stopped old.node.entries p o) old.outs new.outs → Tied m new →
    Both (λ k p o. SentOrFull (m.puts old.node.name k) old.node.entries p o) old.outs new.outs
waiting_sent {S} {M} {I} {A} m old new same both tied =
    sent_or_full (m.puts old.node.name) old.node.entries old.outs new.outs both (subst (λ (n : NodeSeen M I A). Each new.outs (λ k o. Sends (m.puts n.name k) n.entries o)) same tied.sending)
