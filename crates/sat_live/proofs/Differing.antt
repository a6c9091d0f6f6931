-- What two notes, or two parts of an act, that are not the same tell of a script.
use Rattle.std.proofs.Common.{◌≡◌, ℕ, Bool, true, false, List, [], ◌∷◌, map, Option, Some, None, sym, ap, ◌∙◌, subst, inl, inr, refl, arith}
use Rattle.std.specs.Prelude.{◌≢◌, ◌==◌, IfSome, option_map, if◌then◌else◌}
use Rattle.std.proofs.lemmas.Bool.Decides.{nat_tests}
use Rattle.std.specs.List.{AllByRecursion, AllZip}
use Rattle.sat_label.specs.declared.node.NodeName.{NodeName}
use Rattle.sat_label.specs.declared.node.NodeName.TheVariants as named
use Rattle.sat_label.specs.Members.{In}
use Rattle.sat_label.proofs.Members.{In-get}
use Rattle.sat_act.specs.declared.act.Act.{Act}
use Rattle.sat_act.specs.declared.entry.Entry.{Entry}
use Rattle.sat_act.specs.Deployed.{Deployed}
use Rattle.sat_stitch.specs.Kept.{Kept}
use Rattle.sat_stitch.specs.Places.{Session, session_of}
use Rattle.sat_session.specs.declared.noted.Noted.{Noted}
use Rattle.sat_session.specs.Owned.{Owned}
use Rattle.sat_session.specs.Notes.{SessionSeen, notes_of, session_at, session_notes}
use Rattle.sat_session.specs.Sessions.{IsSession, NotesFrom, note_kept}
use Rattle.sat_session.proofs.Owned.{OfSession, in-flat, in-own}
use Rattle.sat_undone.specs.Undone.{AreInTurn, acts_of, next_tally, no_tally}
use Rattle.sat_parts_opened.specs.Laws.{GearHeld, HubHeld}
use Rattle.sat_apart.specs.Lists.{under}
use Rattle.sat_parts_notes.specs.Differences.{IsDifference}
use Rattle.sat_parts_notes.specs.Collecting.{note_entry}
use Rattle.sat_finish.specs.declared.joint.Given.{Given}
use Rattle.sat_finish.specs.declared.joint.Joint.{Joint}
use Rattle.sat_finish.specs.Parts.{PartSeen, gear_parts, home_name, home_parts, part_number}
use Rattle.sat_finish.specs.Partings.{IsParting, joint_at}
use Rattle.sat_crew.specs.Crews.{CameBack, entries_in, own_acts}
use Rattle.sat_live.specs.Told.{ArePartsApart, IsJointAct, IsOfSite, IsTried, TellsAct, TellsPart, kept_of}

-- ---- the acts of a session that came back

-- each entry of a session is of one of its acts
in-turn-has : (t : _) (acts : List Act) (es : List Entry) (e : Entry) → AreInTurn t acts es → In es e → In acts e.act
in-turn-has t acts [] e turns i = absurd i
in-turn-has t acts (x ∷ es) e turns (inl same) = subst (λ (y : Entry). In acts y.act) same (In-get acts t.done x.act turns.0.act)
in-turn-has t acts (x ∷ es) e turns (inr i) = in-turn-has (next_tally t x) acts es e turns.1 i

in-entries : (ns : List Noted) (n : Noted) → In ns n → In (map note_entry ns) n.entry
in-entries [] n i = absurd i
in-entries (m ∷ ns) n (inl e) = inl (ap note_entry e)
in-entries (m ∷ ns) n (inr i) = inr (in-entries ns n i)

own-act : (d : Deployed) (s : Session) (before : List Kept) (ns : List Noted) (n : Noted) → NotesFrom d s before ns → In ns n → session_of n.entry.act ≡ Some s
own-act d s before [] n all i = absurd i
own-act d s before (m ∷ ns) n all (inl e) = ap (λ (x : Noted). session_of x.entry.act) (sym e) ∙ all.0.own
own-act d s before (m ∷ ns) n all (inr i) = own-act d s (note_kept d s before m ∷ before) ns n all.1 i

-- a session that came back noted only such entries
noted-act : (d : Deployed) (acts : List Act) (x y : SessionSeen) (n : Noted) → CameBack d acts x y → IsSession d y → In y.noted n → IsTried (session_at d y.number) acts n.entry
noted-act d acts x y n back is i = record {
  own = own-act d (session_at d y.number) [] y.noted n is.notes i;
  act = subst (λ (k : ℕ). In (acts_of (session_at d k) acts) n.entry.act) (sym back.same) (in-turn-has no_tally (own_acts d acts x) (entries_in y) n.entry back.front.in_turn (in-entries y.noted n i));
}

came-act : (d : Deployed) (acts : List Act) (xs ys : List SessionSeen) (y : SessionSeen) (n : Noted) → AllZip (CameBack d acts) xs ys → AllByRecursion (IsSession d) ys → In ys y → In y.noted n → IsTried (session_at d y.number) acts n.entry
came-act d acts [] [] y n back are i j = absurd i
came-act d acts [] (z ∷ ys) y n back are i j = absurd back
came-act d acts (x ∷ xs) [] y n back are i j = absurd back
came-act d acts (x ∷ xs) (z ∷ ys) y n back are (inl e) j =
    subst (λ (w : SessionSeen). IsTried (session_at d w.number) acts n.entry) e (noted-act d acts x z n back.0 are.0 (subst (λ (w : SessionSeen). In w.noted n) (sym e) j))
came-act d acts (x ∷ xs) (z ∷ ys) y n back are (inr i) j = came-act d acts xs ys y n back.1 are.1 i j

pub each_tried : (d : Deployed) (acts : List Act) (xs ys : List SessionSeen) → AllZip (CameBack d acts) xs ys → AllByRecursion (IsSession d) ys → (s : Session) (n : Noted) → In (session_notes d ys) (s, n) → IsTried s acts n.entry
each_tried d acts xs ys back are s n i =
    let w : (y : SessionSeen) × In ys y × In (notes_of d y) (s, n) = in-flat (notes_of d) ys (s, n) i in
    let v : OfSession (session_at d w.0.number) w.0.noted s n = in-own (session_at d w.0.number) w.0.noted s n w.2 in
    subst (λ (t : Session). IsTried t acts n.entry) v.session (came-act d acts xs ys w.0 n back are w.1 v.there)

-- ---- the two notes

pub tells_act : (acts : List Act) (nodes sessions : List Owned) (node session : Option Noted) → ((s : Session) (n : Noted) → In sessions (s, n) → IsTried s acts n.entry) → (found : IsDifference nodes sessions node session)
    → (session ≡ None → IfSome node (λ n. In acts n.entry.act)) → TellsAct acts found.owner node session
tells_act acts nodes sessions kept (Some n) each found known = each found.owner n found.at_session.0
tells_act acts nodes sessions (Some n) None each found known = known refl
tells_act acts nodes sessions None None each found known = absurd (found.apart refl)

-- ---- the two parts

tested : (n m : ℕ) → (n == m) ≡ true → n ≡ m
tested n m e = grind (arith, nat_tests)

under-if : (n : ℕ) (q : PartSeen) (rest : Option PartSeen) (p : PartSeen) (b : Bool) → (part_number q == n) ≡ b → (if b then Some q else rest) ≡ Some p → (rest ≡ Some p → p.lamport ≡ n) → p.lamport ≡ n
under-if n q rest p true test e there = let same : q ≡ p = cc in subst (λ (x : PartSeen). x.lamport ≡ n) same (tested q.lamport n test)
under-if n q rest p false test e there = there e

-- what stands under a number has it
under-has : (n : ℕ) (ps : List PartSeen) (p : PartSeen) → under part_number n ps ≡ Some p → p.lamport ≡ n
under-has n [] p e = absurd (cc)
under-has n (q ∷ ps) p e = under-if n q (under part_number n ps) p (part_number q == n) refl e (under-has n ps p)

found-if : (n : ℕ) (ps : List PartSeen) (o : Option PartSeen) → under part_number n ps ≡ o → IfSome o (λ p. p.lamport ≡ n)
found-if n ps None e = tt
found-if n ps (Some p) e = under-has n ps p e

abbrev entry-in : Entry → Option (Entry × Given) → Entry
entry-in x None = x
entry-in x (Some k) = k.0

abbrev given-in : Given → Option (Entry × Given) → Given
given-in x None = x
given-in x (Some k) = k.1

same-part : (p q : PartSeen) → p.lamport ≡ q.lamport → Some (kept_of (joint_at (named.Site 0) p)) ≡ Some (kept_of (joint_at (named.Site 0) q)) → p ≡ q
same-part p q n e = λ i. record { lamport = n i; entry = ap (entry-in p.entry) e i; given = ap (given-in p.given) e i }

-- two parts under one number that are not the same differ in what was kept
kept-apart : (n : ℕ) (a b : Option PartSeen) (at to : NodeName) → IfSome a (λ p. p.lamport ≡ n) → IfSome b (λ p. p.lamport ≡ n) → a ≢ b → option_map kept_of (option_map (joint_at at) a) ≡ option_map kept_of (option_map (joint_at to) b) → ⊥
kept-apart n None None at to x y differ e = differ refl
kept-apart n None (Some q) at to x y differ e = cc
kept-apart n (Some p) None at to x y differ e = cc
kept-apart n (Some p) (Some q) at to x y differ e = differ (ap Some (same-part p q (x ∙ sym y) e))

joint-of : (P : NodeName → Type 0) (at : NodeName) (o : Option PartSeen) → P at → IfSome (option_map (joint_at at) o) (λ j. P j.at)
joint-of P at None p = tt
joint-of P at (Some q) p = p

home-of : (i : ℕ) (o : Option ℕ) → IsOfSite i (home_name i o)
home-of i None = refl
home-of i (Some h) = refl

pub parts_apart : (d : Deployed) (hubs : List HubHeld) (gears : List GearHeld) (number : ℕ) (home other : Option Joint) → IsParting d hubs gears number home other → ArePartsApart home other
parts_apart d hubs gears number home other is =
    let mine = home_parts d hubs gears is.site is.gear is.whose in
    let theirs = gear_parts gears is.site is.gear is.whose in
    let at = home_name is.site is.whose in
    let gear = named.Gear is.site is.gear in
    record {
      site = is.site;
      gear = is.gear;
      whose = subst (λ (o : Option Joint). IfSome o (λ j. IsOfSite is.site j.at)) (sym is.parting.at_home) (joint-of (IsOfSite is.site) at (under part_number number mine) (home-of is.site is.whose));
      gears = subst (λ (o : Option Joint). IfSome o (λ j. j.at ≡ gear)) (sym is.parting.at_gear) (joint-of (λ n. n ≡ gear) gear (under part_number number theirs) refl);
      apart = λ e. kept-apart number (under part_number number mine) (under part_number number theirs) at gear (found-if number mine (under part_number number mine) refl) (found-if number theirs (under part_number number theirs) refl) is.parting.differ
          (sym (ap (option_map kept_of) is.parting.at_home) ∙ (e ∙ ap (option_map kept_of) is.parting.at_gear));
    }

pub tells_part : (acts : List Act) (home other : Option Joint) → option_map kept_of home ≢ option_map kept_of other → IfSome home (λ j. IsJointAct acts j.entry.act)
    → (home ≡ None → IfSome other (λ j. IsJointAct acts j.entry.act)) → TellsPart acts home other
tells_part acts (Some j) other apart known alone = known
tells_part acts None (Some j) apart known alone = alone refl
tells_part acts None None apart known alone = absurd (apart refl)
