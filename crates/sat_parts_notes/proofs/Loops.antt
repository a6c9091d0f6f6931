-- One step more of each loop.
use Rattle.std.proofs.Common.{Option, Some, None, slice_get, if◌then◌else◌, ◌≡◌, ◌⊎◌, ◌<◌, ◌≤◌, ℕ, ◌+◌, zero, suc, Bool, true, false, List, [], ◌∷◌, ◌++◌, map, length, take, ◌==◌, get_or, refl, sym, ap, ◌∙◌, subst, append_assoc, add-one, arith, eq-eqb, inl, inr}
use Rattle.std.proofs.Math.ListN.{set}
use Rattle.std.proofs.lemmas.List.{append-nil, map-append, take_more, get_or-set_same, get_or-set_other, get_or_read, length-set, length-map, length-append}
use Rattle.std.specs.List.{flat_map}
use Rattle.std.proofs.lemmas.Grind.{flat_map-append}
use Rattle.sat_label.specs.declared.node.NodeName.{NodeName}
use Rattle.sat_label.specs.declared.node.NodeName.TheVariants as named
use Rattle.sat_label.specs.Members.{In}
use Rattle.sat_label.specs.Words.{below}
use Rattle.sat_label.proofs.Members.{In-parts}
use Rattle.std.proofs.lemmas.Bool.{eqb-true}
use Rattle.sat_act.specs.Deployed.{Deployed}
use Rattle.sat_node.specs.declared.kept.Kept.{Kept as Line}
use Rattle.sat_machines.specs.declared.serial_act.SerialAct.{SerialAct}
use Rattle.sat_machines.specs.declared.serial_act.SerialAnswer.{SerialAnswer}
use Rattle.sat_stitch.specs.Places.{Session}
use Rattle.sat_stitch.specs.Kept.{Distinct}
use Rattle.sat_joint.specs.Seen.{seen}
use Rattle.sat_opened.specs.Keeping.{kept_under, serial_kept, serial_owner}
use Rattle.sat_session.specs.declared.noted.Noted.{Noted}
use Rattle.sat_session.specs.Notes.{SessionSeen, session_at, owned_by, serial_note, serial_notes, at_node, own_notes, notes_of, session_notes}
use Rattle.sat_session.specs.Owned.{Owned}
use Rattle.sat_session.specs.Sessions.{session_number, IsSession, AreSessions}
use Rattle.sat_parts_notes.specs.Collecting.{Lines, alone_line, alone_lines, at_places, home_line, lines_at_gear, lines_at_hub, lines_at_serial, node_count, part_lines}
use Rattle.sat_parts_notes.specs.Naming.{plan_names}
use Rattle.sat_act.specs.declared.deployment.Plan.{Plan}
use Rattle.sat_act.specs.declared.deployment.Plan.TheVariants as plan
use Rattle.sat_machines.specs.Layout.{planted}
use Rattle.sat_joint.specs.declared.journal.Journal.{Journal}
use Rattle.sat_opened.specs.Opened.{tree_names}
use Rattle.sat_opened.specs.Laws.{SerialHeld}
use Rattle.sat_laws.proofs.Labels.{some_is}
use Rattle.sat_joint.specs.Journals.{Noted as Kept}
use Rattle.sat_stitch.specs.Kept.{entry_of}
use Rattle.sat_parts.specs.declared.hub_answer.HubAnswer.{HubAnswer}
use Rattle.sat_parts.specs.declared.gear_answer.GearAnswer.{GearAnswer}
use Rattle.sat_parts.specs.Acts.{GearActSeen, HubActSeen}
use Rattle.sat_parts.specs.Layout.{site_gears}
use Rattle.sat_parts_opened.specs.Keeping.{gear_kept, hub_kept, hub_noted, is_own_line, own_noted, serial_noted}
use Rattle.sat_parts_opened.specs.Laws.{GearHeld, HubHeld}

-- ---- lists that grow by what one member gives

module _ {X Y : Type 0} (f : List X → List Y) (one : X → List Y) (step : (xs : List X) (x : X) → f (xs ++ x ∷ []) ≡ f xs ++ one x) where
  pub taken-more : (es : List X) (i : ℕ) (x : X) → i < length es → x ≡ get_or es i x → f (take (i + 1) es) ≡ f (take i es) ++ one x
  taken-more es i x lt is = ap f (take_more es i x lt ∙ ap (λ (y : X). take i es ++ y ∷ []) (sym is)) ∙ step (take i es) x

  pub grow : (es : List X) (i : ℕ) (x : X) → i < length es → x ≡ get_or es i x → (initial now next : List Y) → now ≡ initial ++ f (take i es) → next ≡ now ++ one x → next ≡ initial ++ f (take (i + 1) es)
  grow es i x lt is initial now next e w =
      w ∙ (ap (λ (ys : List Y). ys ++ one x) e ∙ (append_assoc initial (f (take i es)) (one x) ∙ ap (λ (ys : List Y). initial ++ ys) (sym (taken-more es i x lt is))))

  pub grow-alone : (es : List X) (i : ℕ) (x : X) → i < length es → x ≡ get_or es i x → (now next : List Y) → now ≡ f (take i es) → next ≡ now ++ one x → next ≡ f (take (i + 1) es)
  grow-alone es i x lt is now next e w = w ∙ (ap (λ (ys : List Y). ys ++ one x) e ∙ sym (taken-more es i x lt is))

-- ---- the lists of notes

pub serial-step : (name : NodeName) (es : List (Line SerialAct SerialAnswer)) (k : Line SerialAct SerialAnswer) → serial_notes name (es ++ k ∷ []) ≡ serial_notes name es ++ owned_by (serial_owner k.input) (serial_note name k)
serial-step name [] k = append-nil (owned_by (serial_owner k.input) (serial_note name k))
serial-step name (e ∷ es) k =
    ap (λ (os : List Owned). owned_by (serial_owner e.input) (serial_note name e) ++ os) (serial-step name es k)
    ∙ sym (append_assoc (owned_by (serial_owner e.input) (serial_note name e)) (serial_notes name es) (owned_by (serial_owner k.input) (serial_note name k)))

pub own-step : (s : Session) (ns : List Noted) (n : Noted) → own_notes s (ns ++ n ∷ []) ≡ own_notes s ns ++ at_node s n n.at
own-step s [] n = append-nil (at_node s n n.at)
own-step s (m ∷ ns) n = ap (λ (os : List Owned). at_node s m m.at ++ os) (own-step s ns n) ∙ sym (append_assoc (at_node s m m.at) (own_notes s ns) (at_node s n n.at))

pub alone-step : (ns : List Noted) (n : Noted) → alone_lines (ns ++ n ∷ []) ≡ alone_lines ns ++ alone_line n n.at
alone-step [] n = append-nil (alone_line n n.at)
alone-step (m ∷ ns) n = ap (λ (ls : Lines). alone_line m m.at ++ ls) (alone-step ns n) ∙ sym (append_assoc (alone_line m m.at) (alone_lines ns) (alone_line n n.at))

pub flat-step : {X Y : Type 0} (f : X → List Y) (xs : List X) (x : X) → flat_map f (xs ++ x ∷ []) ≡ flat_map f xs ++ f x
flat-step {X} {Y} f xs x = flat_map-append f xs (x ∷ []) ∙ ap (λ (ys : List Y). flat_map f xs ++ ys) (append-nil (f x))

pub map-step : {X Y : Type 0} (f : X → Y) (xs : List X) (x : X) → map f (xs ++ x ∷ []) ≡ map f xs ++ f x ∷ []
map-step f xs x = map-append f xs (x ∷ [])

-- what was added of a session is what it noted
pub session-adds : (d : Deployed) (x : SessionSeen) (s : Session) (ns : List Noted) (now next : List Owned) → s ≡ session_at d x.number → ns ≡ x.noted → next ≡ now ++ own_notes s ns → next ≡ now ++ notes_of d x
session-adds d x s ns now next e f w = w ∙ (λ i. now ++ own_notes (e i) (f i))

-- ---- journals at places

pub places-step : (k : ℕ) (lines : List Lines) (l : Lines) → at_places k (lines ++ l ∷ []) ≡ at_places k lines ++ (k + length lines, l) ∷ []
places-step k [] l = ap (λ (n : ℕ). (n, l) ∷ []) (let e : k ≡ k + 0 = omega arith in e)
places-step k (m ∷ lines) l =
    ap (λ (js : List (ℕ × Lines)). (k, m) ∷ js)
    (places-step (k + 1) lines l ∙ ap (λ (n : ℕ). at_places (k + 1) lines ++ (n, l) ∷ []) (let e : (k + 1) + length lines ≡ k + suc (length lines) = omega arith in e))

pub places-long : (k : ℕ) (lines : List Lines) → length (at_places k lines) ≡ length lines
places-long k [] = refl
places-long k (m ∷ lines) = ap suc (places-long (k + 1) lines)

-- ---- names

pub below-more : (n : ℕ) → below (n + 1) ≡ below n ++ n ∷ []
below-more n = rw add-one refl

-- ---- marks of numbers

-- these are sessions, none of them is there twice, and each has its mark
pub record Marked (d : Deployed) (xs : List SessionSeen) (marks : List Bool) : Type 0 where
  pub long : length marks ≡ length d.clients + 1
  pub each : (x : SessionSeen) → In xs x → IsSession d x
  pub apart : Distinct (map session_number xs)
  pub marked : (n : ℕ) → In (map session_number xs) n → get_or marks n false ≡ true

distinct-end : (ns : List ℕ) (n : ℕ) → Distinct ns → (In ns n → ⊥) → Distinct (ns ++ n ∷ [])
distinct-end [] n a f = (tt, λ i. i)
distinct-end (m ∷ ns) n a f = (
  distinct-end ns n a.0 (λ i. f (inr i)),
  λ i. elim (In-parts ns (n ∷ []) m i) [ inl j ↦ a.1 j | inr j ↦ elim j [ inl e ↦ f (inl (sym e)) | inr z ↦ absurd z ] ],
)

one-marked : (d : Deployed) (xs : List SessionSeen) (x : SessionSeen) (marks : List Bool) → IsSession d x → x.number < length marks → get_or marks x.number false ≡ false → Marked d xs marks →
    Marked d (xs ++ x ∷ []) (set marks x.number true)
one-marked d xs x marks is lt free m = record {
  long = length-set marks x.number true ∙ m.long;
  each = λ y i. elim (In-parts xs (x ∷ []) y i) [
    | inl j ↦ m.each y j
    | inr j ↦ elim j [ inl e ↦ subst (λ (z : SessionSeen). IsSession d z) e is | inr z ↦ absurd z ]
  ];
  apart = subst Distinct (sym (map-step session_number xs x)) (distinct-end (map session_number xs) x.number m.apart (λ i. let t : get_or marks x.number false ≡ true = m.marked x.number i in cc));
  marked = λ n i. go n (In-parts (map session_number xs) (x.number ∷ []) n (subst (λ (ns : List ℕ). In ns n) (map-step session_number xs x) i)) (n == x.number) refl;
}
  where
    same : (n : ℕ) → n ≡ x.number → get_or (set marks x.number true) n false ≡ true
    same n e = ap (λ (k : ℕ). get_or (set marks x.number true) k false) e ∙ get_or-set_same marks x.number true false lt

    other : (n : ℕ) → (n ≡ x.number → ⊥) → In (map session_number xs) n → get_or (set marks x.number true) n false ≡ true
    other n ne i = get_or-set_other marks x.number n true false ne ∙ m.marked n i

    go : (n : ℕ) → In (map session_number xs) n ⊎ In (x.number ∷ []) n → (b : Bool) → (n == x.number) ≡ b → get_or (set marks x.number true) n false ≡ true
    go n i true e = same n (eqb-true n x.number e)
    go n (inl i) false e = other n (λ w. let t : (n == x.number) ≡ true = eq-eqb n x.number w in cc) i
    go n (inr (inl w)) false e = same n (sym w)
    go n (inr (inr z)) false e = absurd z

within : (n c k : ℕ) → n ≤ c → k ≡ c + 1 → n < k
within n c k le e = omega arith

pub mark-more : (d : Deployed) (xs : List SessionSeen) (i : ℕ) (x : SessionSeen) (n : ℕ) (marks : List Bool) (b : Bool) → i < length xs → x ≡ get_or xs i x → n ≡ x.number → IsSession d x → b ≡ get_or marks n b → b ≡ false →
    Marked d (take i xs) marks → Marked d (take (i + 1) xs) (set marks n true)
mark-more d xs i x n marks b lt is e session read free m =
    let here : x.number < length marks = within x.number (length d.clients) (length marks) session.limit m.long in
    let there : n < length marks = subst (λ (k : ℕ). k < length marks) (sym e) here in
    let open_mark : get_or marks x.number false ≡ false = ap (λ (k : ℕ). get_or marks k false) (sym e) ∙ (sym (get_or_read marks n b there read false) ∙ free) in
    subst (λ (ys : List SessionSeen). Marked d ys (set marks n true)) (sym (take_more xs i x lt ∙ ap (λ (y : SessionSeen). take i xs ++ y ∷ []) (sym is)))
    (subst (λ (k : ℕ). Marked d (take i xs ++ x ∷ []) (set marks k true)) (sym e) (one-marked d (take i xs) x marks session here open_mark m))

-- ---- journals, one by one

journals-long : (js : List Journal) (lines : List Lines) → map seen js ≡ at_places 0 lines → length js ≡ length lines
journals-long js lines e = sym (length-map js seen) ∙ (ap length e ∙ places-long 0 lines)

same-length : (a b : ℕ) → a ≡ b → a ≡ 0 + b
same-length a b e = omega arith

pub add-place : (now next : List Journal) (lines : List Lines) (l kept : Lines) → map seen now ≡ at_places 0 lines → map seen next ≡ map seen now ++ (length now, kept) ∷ [] → kept ≡ l → map seen next ≡ at_places 0 (lines ++ l ∷ [])
add-place now next lines l kept e w k =
    let long : length now ≡ 0 + length lines = same-length (length now) (length lines) (journals-long now lines e) in
    w ∙ ((λ i. e i ++ (long i, k i) ∷ []) ∙ sym (places-step 0 lines l))

pub base-is : (js : List Journal) (hubs : List HubHeld) (gears : List GearHeld) (serials : List SerialHeld) (b n : ℕ) → b ≡ n → n ≡ length js → map seen js ≡ at_places 0 (part_lines hubs gears serials) → b ≡ node_count hubs gears serials
base-is js hubs gears serials b n e w at =
    let long : length js ≡ length (part_lines hubs gears serials) = journals-long js (part_lines hubs gears serials) at in
    let some : length (map lines_at_gear gears ++ map lines_at_serial serials) ≡ length gears + length serials =
    length-append (map lines_at_gear gears) (map lines_at_serial serials) ∙ (λ i. length-map gears lines_at_gear i + length-map serials lines_at_serial i) in
    let sum : length (part_lines hubs gears serials) ≡ node_count hubs gears serials =
    length-append (map lines_at_hub hubs) (map lines_at_gear gears ++ map lines_at_serial serials) ∙ (λ i. length-map hubs lines_at_hub i + some i) in
    e ∙ (w ∙ (long ∙ sum))

-- entries of a serializer, at their home
pub home-lines : (e z : ℕ) (es : List (Line SerialAct SerialAnswer)) → map home_line (map (kept_under (serial_kept e z)) es) ≡ map (serial_noted e z) es
home-lines e z [] = refl
home-lines e z (k ∷ es) = ap (λ (ls : Lines). serial_noted e z k ∷ ls) (home-lines e z es)

-- ---- one entry of a journal

pub hub_first : (i : ℕ) (k : Line HubActSeen HubAnswer) (ks : List (Line HubActSeen HubAnswer)) (es : List Kept) (e : Kept) → ks ≡ k ∷ [] → es ≡ map (hub_noted i) ks → slice_get es 0 ≡ Some e → e.1 ≡ entry_of (hub_kept i k)
hub_first i k ks es e only are there = ap (λ (n : Kept). n.1) (sym (some_is (hub_noted i k) e (sym (ap (λ (ns : List Kept). slice_get ns 0) (are ∙ ap (map (hub_noted i)) only)) ∙ there)))

no-less : (n : ℕ) → suc n ≤ 0 → ⊥
no-less n le = omega arith

pub hub_some : (i : ℕ) (k : Line HubActSeen HubAnswer) (ks : List (Line HubActSeen HubAnswer)) (es : List Kept) → ks ≡ k ∷ [] → es ≡ map (hub_noted i) ks → length es ≤ 0 → ⊥
hub_some i k ks es only are le = no-less 0 (subst (λ (ns : List Kept). length ns ≤ 0) (are ∙ ap (map (hub_noted i)) only) le)

-- a gear's, where it is an act of its own
record IsOwnEntry (i g : ℕ) (k : Line GearActSeen GearAnswer) (e : Kept) : Type 0 where
  own : is_own_line k ≡ true
  entry : e.1 ≡ entry_of (gear_kept i g k)

abbrev own_if : ℕ → ℕ → Line GearActSeen GearAnswer → Bool → List Kept
own_if i g k b = if b then (k.lamport, entry_of (gear_kept i g k), true) ∷ [] else []

own-one : (i g : ℕ) (k : Line GearActSeen GearAnswer) (es : List Kept) (e : Kept) (b : Bool) → is_own_line k ≡ b → es ≡ own_if i g k b → slice_get es 0 ≡ Some e → IsOwnEntry i g k e
own-one i g k es e true own are there = record { own = own; entry = ap (λ (n : Kept). n.1) (sym (some_is (k.lamport, entry_of (gear_kept i g k), true) e (sym (ap (λ (ns : List Kept). slice_get ns 0) are) ∙ there))) }
own-one i g k es e false own are there = absurd (let w : None ≡ Some e = sym (ap (λ (ns : List Kept). slice_get ns 0) are) ∙ there in cc)

only-own : (i g : ℕ) (k : Line GearActSeen GearAnswer) (ks : List (Line GearActSeen GearAnswer)) → ks ≡ k ∷ [] → flat_map (own_noted i g) ks ≡ own_if i g k (is_own_line k)
only-own i g k ks only = ap (flat_map (own_noted i g)) only ∙ append-nil (own_noted i g k)

pub own_first : (i g : ℕ) (k : Line GearActSeen GearAnswer) (ks : List (Line GearActSeen GearAnswer)) (es : List Kept) (e : Kept) → ks ≡ k ∷ [] → es ≡ flat_map (own_noted i g) ks → slice_get es 0 ≡ Some e → (is_own_line k ≡ true) × (e.1 ≡ entry_of (gear_kept i g k))
own_first i g k ks es e only are there = (let w : IsOwnEntry i g k e = own-one i g k es e (is_own_line k) refl (are ∙ only-own i g k ks only) there in (w.own, w.entry))

own-not : (i g : ℕ) (k : Line GearActSeen GearAnswer) (es : List Kept) (b : Bool) → es ≡ own_if i g k b → length es ≤ 0 → b ≡ false
own-not i g k es true are le = absurd (no-less 0 (subst (λ (ns : List Kept). length ns ≤ 0) are le))
own-not i g k es false are le = refl

pub own_none : (i g : ℕ) (k : Line GearActSeen GearAnswer) (ks : List (Line GearActSeen GearAnswer)) (es : List Kept) → ks ≡ k ∷ [] → es ≡ flat_map (own_noted i g) ks → length es ≤ 0 → is_own_line k ≡ false
own_none i g k ks es only are le = own-not i g k es (is_own_line k) (are ∙ only-own i g k ks only) le

-- ---- names of gears

pub gears-more : (gears n : ℕ) (now next : List NodeName) → now ≡ flat_map (site_gears gears) (below n) → next ≡ now ++ site_gears gears n → next ≡ flat_map (site_gears gears) (below (n + 1))
gears-more gears n now next e w =
    w ∙ (ap (λ (ns : List NodeName). ns ++ site_gears gears n) e ∙ (sym (flat-step (site_gears gears) (below n) n) ∙ ap (flat_map (site_gears gears)) (sym (below-more n))))

-- ---- plans

pub planted-step : (e : ℕ) (p : Plan) (ps : List Plan) → flat_map tree_names (planted e (p ∷ ps)) ≡ plan_names e p ++ flat_map tree_names (planted (e + 1) ps)
planted-step e plan.Stamp ps = refl
planted-step e (plan.Tree t) ps = refl
