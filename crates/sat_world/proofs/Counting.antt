-- What is counted of the answers Shown, and which entries a world doesn't know of.
use Rattle.std.specs.Prelude.{◌≡◌, ℕ, ◌+◌, ◌-◌, ◌^◌, min, Bool, true, false, List, [], ◌∷◌, ◌++◌, length, refl}
use Rattle.std.proofs.Common.{sym, subst, ap, ◌∙◌, arith}
use Rattle.std.proofs.lemmas.List.{length-append}
use Rattle.sat_label.specs.declared.label.Label.{Label}
use Rattle.sat_act.specs.declared.act.Act.{Act}
use Rattle.sat_act.specs.declared.answer.Answer.{Answer}
use Rattle.sat_act.specs.declared.answer.Answer.TheVariants as ans
use Rattle.sat_act.specs.declared.entry.Entry.{Entry}
use Rattle.sat_act.specs.Histories.{listed}
use Rattle.sat_act.specs.Settling.{capped, is_done}
use Rattle.sat_model.specs.Laws.{leaves_all}
use Rattle.sat_model.specs.World.{WorldState, world_state}
use Rattle.sat_model.proofs.Unmoved.{undone-stays, flags-are-free}
use Rattle.sat_world.specs.Counts.{any_shown_entry, shown_count, counted}
use Rattle.sat_world.specs.Laws.{FlagsStayFree, UndoneKeeps}
use Rattle.sat_world.specs.Seen.{WorldSeen}
use Rattle.sat_world.specs.Stands.{Stands, StandsFor}
use Rattle.sat_world.specs.Worlds.{IsWorld}

pub cap-more : (n m : ℕ) → min (min n m + 1) m ≡ min (n + 1) m
cap-more n m = omega arith

none-more : (ls : List Label) → length (ls ++ []) ≡ length ls
none-more ls = omega (arith, length-append ls [])

one-more : (ls : List Label) (l : Label) → length (ls ++ l ∷ []) ≡ length ls + 1
one-more ls l = length-append ls (l ∷ [])

-- the count of a history with one more entry
pub count-on : (h : List Entry) (a : Act) (r : Answer) (inner : Bool) → counted r (capped (shown_count h)) ≡ capped (shown_count (record { act = a; answer = r; inner = inner } ∷ h))
unfolding shown_count listed
count-on h a (ans.Shown l) inner = cap-more (length (listed any_shown_entry h)) (2 ^ 64 - 1) ∙ ap capped (sym (one-more (listed any_shown_entry h) l))
count-on h a _ inner = ap capped (sym (none-more (listed any_shown_entry h)))

-- what was not done is not counted, and neither is the entry of a settle
pub left-uncounted : (r : Answer) (n : ℕ) → leaves_all r ≡ true → counted r n ≡ n
left-uncounted (ans.Shown l) n e = absurd (cc)
left-uncounted _ n e = refl

pub undone-uncounted : (r : Answer) (n : ℕ) → is_done r ≡ false → counted r n ≡ n
undone-uncounted (ans.Shown l) n e = absurd (cc)
undone-uncounted _ n e = refl

-- the parts of a world don't know of its count
pub same-parts : (w : WorldSeen) (n : ℕ) (s : WorldState) → Stands w s → Stands (record w { shown = n }) s
same-parts w n s p = record { sites = p.sites; nets = p.nets; clients = p.clients }

pub recounted : (w : WorldSeen) (n : ℕ) → IsWorld w → IsWorld (record w { shown = n })
recounted w n k = record {
  frame = record { deployment = k.frame.deployment; interest = k.frame.interest; sites = k.frame.sites; nets = k.frame.nets; planted = k.frame.planted; clients = k.frame.clients };
  history = k.history;
  run = k.run;
  stands = same-parts w n (world_state w.deployment k.history) k.stands;
}

-- a world whose parts stand for a history with one more entry, once it has counted its answer
pub now-counted : (w : WorldSeen) (h : List Entry) (a : Act) (r : Answer) → w.shown ≡ capped (shown_count h) →
    Stands w (world_state w.deployment (record { act = a; answer = r; inner = false } ∷ h)) → StandsFor (record w { shown = counted r w.shown }) (record { act = a; answer = r; inner = false } ∷ h)
now-counted w h a r e p = record {
  parts = same-parts w (counted r w.shown) (world_state w.deployment (record { act = a; answer = r; inner = false } ∷ h)) p;
  shown = ap (counted r) e ∙ count-on h a r false;
}

-- ---- the laws

pub flags-stay-free : FlagsStayFree
flags-stay-free w h e inner st = record {
  parts = subst (Stands w) (sym (flags-are-free w.deployment h e inner)) st.parts;
  shown = st.shown ∙ (sym (count-on h e.act e.answer e.inner) ∙ count-on h e.act e.answer inner);
}

count-left : (h : List Entry) (e : Entry) → leaves_all e.answer ≡ true → capped (shown_count (e ∷ h)) ≡ capped (shown_count h)
count-left h e k = sym (count-on h e.act e.answer e.inner) ∙ left-uncounted e.answer (capped (shown_count h)) k

pub undone-keeps : UndoneKeeps
undone-keeps w h e k = record {
  there = λ st. record { parts = subst (Stands w) (sym (undone-stays w.deployment h e k)) st.parts; shown = st.shown ∙ sym (count-left h e k) };
  back = λ st. record { parts = subst (Stands w) (undone-stays w.deployment h e k) st.parts; shown = st.shown ∙ count-left h e k };
}
