-- What the machines answer to the acts of sessions.
use Rattle.std.proofs.Common.{◌≡◌, ◌<◌, ◌+◌, ◌==◌, ◌&&◌, not, max, ℕ, Bool, true, false, nat_lt, nat_le, List, length, Option, Some, None, if◌then◌else◌, refl, sym, ap, ◌∙◌, subst, arith, inl, inr}
use Rattle.std.proofs.lemmas.Bool.{and_from, and_parts}
use Rattle.std.proofs.lemmas.Bool.Decides.{nat_tests}
use Rattle.sat_label.proofs.Orders.{ts-lt}
use Rattle.sat_label.specs.declared.carried.Carried.{Carried}
use Rattle.sat_label.specs.Grouped.{list_of}
use Rattle.sat_label.specs.declared.label.Kind.TheVariants as kind
use Rattle.sat_label.specs.declared.label.Label.{Label}
use Rattle.sat_label.specs.declared.limits.TheConstants.{TS_END}
use Rattle.sat_label.specs.declared.point.Point.{Point}
use Rattle.sat_label.specs.Order.{point_at}
use Rattle.sat_act.specs.declared.act.Act.{Act}
use Rattle.sat_act.specs.declared.act.Act.TheVariants as act
use Rattle.sat_act.specs.declared.answer.Answer.{Answer}
use Rattle.sat_act.specs.declared.answer.Answer.TheVariants as ans
use Rattle.sat_act.specs.declared.answer.Refusal.{Refusal}
use Rattle.sat_act.specs.declared.answer.Refusal.TheVariants as why
use Rattle.sat_act.specs.Deployed.{Deployed}
use Rattle.sat_act.specs.Answers.{refused_if}
use Rattle.sat_act.specs.Done.{Written, write_in}
use Rattle.sat_act.specs.Parts.{keeps_all, replicates}
use Rattle.sat_model.specs.Fits.{is_point, is_site}
use Rattle.sat_model.specs.Input as given
use Rattle.sat_model.specs.Look.{mode_of, cut_of}
use Rattle.sat_model.specs.Reply.{site_answer, gear_for, write_by, read_by, move_by, may_come, outlook_of}
use Rattle.sat_model.specs.State.{SiteState, Version}
use Rattle.sat_machines.specs.Plain.{is_plain}
use Rattle.sat_machines.specs.Sites.{is_standing}
use Rattle.sat_session.specs.Replies.{IsReply, refuses, wrote, read_none, read_some, moved, left, attached, closed, fallen, killed, HasSpare}

-- the timestamp after one that is not the last
next-time : (t n : ℕ) → nat_le t n ≡ false → nat_le (n + 1) t ≡ true
next-time t n e = grind (arith, nat_tests)

-- where no refusal is, the site keeps the item
kept : (b : Bool) → not b ≡ false → b ≡ true
kept true e = refl
kept false e = absurd (cc)

past-max : (a b : ℕ) → b < max a b + 1
past-max a b = omega arith

module _ (d : Deployed) (seen : Carried) where
  -- a refusal, or what else it is
  refused : (a : Act) (b : Bool) (y : Refusal) (r : Answer) → is_standing (ans.Refused y) ≡ true → (b ≡ false → IsReply d seen a r) → IsReply d seen a (refused_if b y r)
  refused a true y r t f = refuses a y t
  refused a false y r t f = f refl

  write-reply : (i : ℕ) (a : Act) (w : Written) (promise : ℕ) → write_in a ≡ Some w → is_site d i ≡ true → IsReply d seen a (write_by d i w.items promise seen.point.ts)
  write-reply i a w promise is here =
      refused a (not (keeps_all d (list_of w.items) i)) why.NotHere _ refl (λ _.
      refused a (nat_le TS_END (max promise seen.point.ts)) why.Spent _ refl (λ e.
      wrote a w (record { point = point_at (max promise seen.point.ts + 1) i (gear_for d w.items); kind = kind.Update w.items }) is
      (and_from (nat_le (max promise seen.point.ts + 1) TS_END) (is_site d i) (next-time TS_END (max promise seen.point.ts) e) here)))

  version-reply : (c n : ℕ) (o : Option Version) → ((p : Version) → o ≡ Some p → is_point d p.label.point ≡ true) → IsReply d seen (act.Read c n) (elim o [ None ↦ ans.ReadNone | Some p ↦ ans.ReadSome p.label p.value ])
  version-reply c n None f = read_none c n
  version-reply c n (Some p) f = read_some c n p.label p.value (f p refl)

  pub read-reply : (i c n : ℕ) (o : Option Version) → (replicates d n i ≡ true → (p : Version) → o ≡ Some p → is_point d p.label.point ≡ true) → IsReply d seen (act.Read c n) (read_by d i n o)
  read-reply i c n o f = refused (act.Read c n) (not (replicates d n i)) why.NotHere _ refl (λ e. version-reply c n o (f (kept (replicates d n i) e)))

  move-reply : (i c j : ℕ) (promise : ℕ) → is_site d i ≡ true → is_site d j ≡ true → IsReply d seen (act.Move c j) (move_by i j promise seen.point.ts)
  move-reply i c j promise here there =
      refused (act.Move c j) (j == i) why.SameSite _ refl (λ _.
      refused (act.Move c j) (nat_le TS_END (max promise seen.point.ts)) why.Spent _ refl (λ e.
      moved c j (record { point = point_at (max promise seen.point.ts + 1) i 0; kind = kind.Move j })
      (and_from (nat_le (max promise seen.point.ts + 1) TS_END) (is_site d i) (next-time TS_END (max promise seen.point.ts) e) here) there refl
      (ts-lt seen.point (point_at (max promise seen.point.ts + 1) i 0) (past-max promise seen.point.ts))))

  -- ---- by the site's answer

  module _ (i : ℕ) (s : SiteState) (r : Answer) where
    pub wrote-so : (a : Act) (w : Written) → write_in a ≡ Some w → is_site d i ≡ true → r ≡ site_answer d i s (given.Write seen w.items w.values) → IsReply d seen a r
    unfolding site_answer
    wrote-so a w is here e = subst (IsReply d seen a) (sym e) (write-reply i a w (s.gears (gear_for d w.items)).promise is here)

    pub read-so : (c n : ℕ) → (replicates d n i ≡ true → (p : Version) → s.store n ≡ Some p → is_point d p.label.point ≡ true) → r ≡ site_answer d i s (given.Read seen n) → IsReply d seen (act.Read c n) r
    unfolding site_answer
    read-so c n f e = subst (IsReply d seen (act.Read c n)) (sym e) (read-reply i c n (s.store n) f)

    pub moved-so : (c j : ℕ) → is_site d i ≡ true → is_site d j ≡ true → r ≡ site_answer d i s (given.Move seen j) → IsReply d seen (act.Move c j) r
    unfolding site_answer
    moved-so c j here there e = subst (IsReply d seen (act.Move c j)) (sym e) (move-reply i c j (s.gears 0).promise here there)

    pub attached-so : (c : ℕ) → is_site d i ≡ true → r ≡ site_answer d i s (given.Attach seen) → IsReply d seen (act.Attach c i) r
    unfolding site_answer
    attached-so c here e = subst (IsReply d seen (act.Attach c i)) (sym e) (refused (act.Attach c i) (not (may_come d (outlook_of d s) seen i)) why.NotYet ans.Attached refl (λ _. attached c i here))

    pub closed-so : r ≡ site_answer d i s given.Close → IsReply d seen (act.Close i) r
    unfolding site_answer
    closed-so e =
        subst (IsReply d seen (act.Close i)) (sym e) (refused (act.Close i) (s.views.emission == length d.plans) why.NoNextEpoch (refused_if (s.views.emission == s.views.view + 1) why.Behind (ans.Closed s.views.emission (cut_of d i s))) refl (λ _.
        refused (act.Close i) (s.views.emission == s.views.view + 1) why.Behind (ans.Closed s.views.emission (cut_of d i s)) refl (λ _. closed i s.views.emission (cut_of d i s))))

    pub fallen-so : r ≡ site_answer d i s given.Fall → IsReply d seen (act.Fall i) r
    unfolding site_answer
    fallen-so e =
        subst (IsReply d seen (act.Fall i)) (sym e) (refused (act.Fall i) (mode_of d s) why.StampOrder (refused_if (s.views.emission == s.views.view) why.NotClosed ans.Fallen) refl (λ _.
        refused (act.Fall i) (s.views.emission == s.views.view) why.NotClosed ans.Fallen refl (λ _. fallen i)))

-- ---- which replies are plain

pub plain-spare : (r : Answer) (o : Option Answer) → is_plain r ≡ true → HasSpare r o
plain-spare r o e f = absurd (cc)

-- of all acts but a read
abbrev pub is_read : Act → Bool
is_read (act.Read c n) = true
is_read _ = false

pub plain-reply : (d : Deployed) (seen : Carried) (a : Act) (r : Answer) → IsReply d seen a r → is_read a ≡ false → is_plain r ≡ true
plain-reply d seen a r (refuses b y p) e = refl
plain-reply d seen a r (wrote b w l i p) e = refl
plain-reply d seen a r (read_none c n) e = refl
plain-reply d seen a r (read_some c n l value p) e = absurd (cc)
plain-reply d seen a r (moved c j l p q k u) e = refl
plain-reply d seen a r (left c p) e = refl
plain-reply d seen a r (attached c j q) e = refl
plain-reply d seen a r (closed i f p) e = refl
plain-reply d seen a r (fallen j) e = refl
plain-reply d seen a r (killed f z) e = refl

-- every reply stands
pub reply-stands : (d : Deployed) (seen : Carried) (a : Act) (r : Answer) → IsReply d seen a r → is_standing r ≡ true
reply-stands d seen a r (refuses b y p) = p
reply-stands d seen a r (wrote b w l i p) = refl
reply-stands d seen a r (read_none c n) = refl
reply-stands d seen a r (read_some c n l value p) = refl
reply-stands d seen a r (moved c j l p q k u) = refl
reply-stands d seen a r (left c p) = refl
reply-stands d seen a r (attached c j q) = refl
reply-stands d seen a r (closed i f p) = refl
reply-stands d seen a r (fallen j) = refl
reply-stands d seen a r (killed f z) = refl
