-- From what a net's hop or kill tells to what it answers.
use Rattle.std.specs.Prelude.{◌≡◌, ℕ, Bool, true, false, List}
use Rattle.std.proofs.Common.{sym, subst}
use Rattle.std.proofs.lemmas.Bool.{false_from_ne_true}
use Rattle.sat_label.specs.declared.label.Label.{Label}
use Rattle.sat_label.specs.declared.node.NodeId.{NodeId}
use Rattle.sat_sites.specs.Interested.{Interested}
use Rattle.sat_act.specs.declared.answer.Answer.TheVariants as ans
use Rattle.sat_act.specs.declared.answer.Refusal.TheVariants as why
use Rattle.sat_net.specs.Nets.{NetSeen, is_dead, FindsNothing, HandsOn, after_kill}
use Rattle.sat_world.specs.Steps.{Hops, finds_dead, finds_none, hops, Kills, finds_killed, kills}

pub alive : (b : Bool) → (b ≡ true → ⊥) → b ≡ false
alive b f = false_from_ne_true b f

pub found-none : (n m : NetSeen) (a : Interested) (u : NodeId) (z : ℕ) → is_dead n z ≡ false → FindsNothing n u z m → Hops n a u z (ans.Refused why.Empty) m
found-none n m a u z e f = subst (λ (m : NetSeen). Hops n a u z (ans.Refused why.Empty) m) (sym f.after) (finds_none e f.front)

pub found : (n m : NetSeen) (a : Interested) (u : NodeId) (z : ℕ) (l : Label) (nodes : List NodeId) → is_dead n z ≡ false → HandsOn n a u z l nodes m → Hops n a u z (ans.Hopped l nodes) m
found n m a u z l nodes e f =
    subst (λ (m : NetSeen). Hops n a u z (ans.Hopped l nodes) m) (sym f.after)
    (subst (λ (ns : List NodeId). Hops n a u z (ans.Hopped l ns) (Rattle.sat_net.specs.Nets.after_hop n a u z l)) (sym f.routed) (hops l e f.front))

pub found-dead : (n m : NetSeen) (a : Interested) (u : NodeId) (z : ℕ) → is_dead n z ≡ true → m ≡ n → Hops n a u z (ans.Refused why.Dead) m
found-dead n m a u z e f = subst (λ (m : NetSeen). Hops n a u z (ans.Refused why.Dead) m) (sym f) (finds_dead e)

-- ---- kills

pub killed : (n m : NetSeen) (z : ℕ) → is_dead n z ≡ false → m ≡ after_kill n z → Kills n z ans.Killed m
killed n m z e f = subst (λ (m : NetSeen). Kills n z ans.Killed m) (sym f) (kills e)

pub killed-before : (n m : NetSeen) (z : ℕ) → is_dead n z ≡ true → m ≡ n → Kills n z (ans.Refused why.Already) m
killed-before n m z e f = subst (λ (m : NetSeen). Kills n z (ans.Refused why.Already) m) (sym f) (finds_killed e)
