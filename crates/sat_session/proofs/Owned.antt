-- Members of the lists of what nodes and sessions noted.
use Rattle.std.proofs.Common.{◌≡◌, ◌⊎◌, ◌≤◌, ℕ, Bool, true, false, nat_lt, List, [], ◌∷◌, ◌++◌, length, map, Option, Some, None, if◌then◌else◌, refl, sym, ap, ◌∙◌, subst, arith, inl, inr}
use Rattle.std.proofs.lemmas.Bool.Decides.{nat_tests}
use Rattle.std.specs.List.{flat_map}
use Rattle.sat_label.specs.declared.node.NodeName.{NodeName}
use Rattle.sat_label.specs.Members.{In}
use Rattle.sat_label.proofs.Members.{In-left, In-right, In-parts}
use Rattle.sat_laws.proofs.Labels.{some_is}
use Rattle.sat_act.specs.Deployed.{Deployed}
use Rattle.sat_node.specs.declared.kept.Kept.{Kept as Line}
use Rattle.sat_machines.specs.Acts.{ActSeen}
use Rattle.sat_machines.specs.declared.site_answer.SiteAnswer.{SiteAnswer}
use Rattle.sat_machines.specs.declared.serial_act.SerialAct.{SerialAct}
use Rattle.sat_machines.specs.declared.serial_act.SerialAnswer.{SerialAnswer}
use Rattle.sat_stitch.specs.Kept.{Kept}
use Rattle.sat_stitch.specs.Places.{Session, Client as Owner, Operator, session_eq}
use Rattle.sat_stitch.specs.Stitch.{Distinct}
use Rattle.sat_stitch.proofs.Tables.{session-self, session-is}
use Rattle.sat_opened.specs.Keeping.{owner_of, serial_owner, behind}
use Rattle.sat_session.specs.declared.noted.Noted.{Noted}
use Rattle.sat_session.specs.Notes.{SessionSeen, session_at, owned_by, site_note, site_notes, serial_note, serial_notes, at_node, own_notes}
use Rattle.sat_session.specs.Owned.{Owned}
use Rattle.sat_session.specs.Sessions.{notes_by, session_number}

-- ---- lists of lists

pub in-flat : {X Y : Type 0} (f : X → List Y) (xs : List X) (y : Y) → In (flat_map f xs) y → (x : X) × In xs x × In (f x) y
in-flat f [] y i = absurd i
in-flat {X} {Y} f (x ∷ xs) y i = elim (In-parts (f x) (flat_map f xs) y i) [
  | inl j ↦ (x, inl refl, j)
  | inr j ↦ (let w : (z : X) × In xs z × In (f z) y = in-flat f xs y j in (w.0, inr w.1, w.2))
]

pub into-flat : {X Y : Type 0} (f : X → List Y) (xs : List X) (x : X) (y : Y) → In xs x → In (f x) y → In (flat_map f xs) y
into-flat f [] x y i j = absurd i
into-flat {X} {Y} f (z ∷ xs) x y (inl e) j = In-left (f z) (flat_map f xs) y (subst (λ (w : X). In (f w) y) (sym e) j)
into-flat f (z ∷ xs) x y (inr i) j = In-right (f z) (flat_map f xs) y (into-flat f xs x y i j)

-- ---- what was kept of a journal

pub behind-stays : {X : Type 0} (of : X → Kept) (ks : List Kept) (xs : List X) (k : Kept) → In ks k → In (behind of ks xs) k
behind-stays of ks [] k i = i
behind-stays of ks (x ∷ xs) k i = behind-stays of (of x ∷ ks) xs k (inr i)

pub into-behind : {X : Type 0} (of : X → Kept) (ks : List Kept) (xs : List X) (x : X) → In xs x → In (behind of ks xs) (of x)
into-behind of ks [] x i = absurd i
into-behind of ks (y ∷ xs) x (inl e) = behind-stays of (of y ∷ ks) xs (of x) (inl (ap of e))
into-behind of ks (y ∷ xs) x (inr i) = into-behind of (of y ∷ ks) xs x i

pub in-behind : {X : Type 0} (of : X → Kept) (ks : List Kept) (xs : List X) (k : Kept) → In (behind of ks xs) k → In ks k ⊎ ((x : X) × In xs x × (of x ≡ k))
in-behind of ks [] k i = inl i
in-behind {X} of ks (x ∷ xs) k i = elim (in-behind of (of x ∷ ks) xs k i) [
  | inl j ↦ elim j [ inl e ↦ inr (x, inl refl, e) | inr m ↦ inl m ]
  | inr w ↦ inr (w.0, inr w.1, w.2)
]

-- ---- notes with their sessions

one-owned : (t s : Session) (m n : Noted) → t ≡ s → m ≡ n → ◌≡◌ {A = Owned} (t, m) (s, n)
one-owned t s m n e w = λ j. (e j, w j)

into-owned : (o : Option Session) (m n : Noted) (s : Session) → o ≡ Some s → m ≡ n → In (owned_by o m) (s, n)
into-owned None m n s e w = absurd (cc)
into-owned (Some t) m n s e w = inl (one-owned t s m n (some_is t s e) w)

in-owned : (o : Option Session) (m n : Noted) (s : Session) → In (owned_by o m) (s, n) → (o ≡ Some s) × (m ≡ n)
in-owned None m n s i = absurd i
in-owned (Some t) m n s (inl e) = (ap (λ (p : Owned). Some p.0) e, ap (λ (p : Owned). p.1) e)
in-owned (Some t) m n s (inr i) = absurd i

-- an entry of a site that is of a session
pub record OfSite (name : NodeName) (ks : List (Line ActSeen SiteAnswer)) (s : Session) (n : Noted) : Type 0 where
  pub line : Line ActSeen SiteAnswer
  pub there : In ks line
  pub owner : owner_of line.input.by line.input.input ≡ Some s
  pub noted : site_note name line ≡ n

pub in-site : (name : NodeName) (ks : List (Line ActSeen SiteAnswer)) (s : Session) (n : Noted) → In (site_notes name ks) (s, n) → OfSite name ks s n
in-site name [] s n i = absurd i
in-site name (k ∷ ks) s n i = elim (In-parts (owned_by (owner_of k.input.by k.input.input) (site_note name k)) (site_notes name ks) (s, n) i) [
  | inl j ↦ (let w : (owner_of k.input.by k.input.input ≡ Some s) × (site_note name k ≡ n) = in-owned (owner_of k.input.by k.input.input) (site_note name k) n s j in record { line = k; there = inl refl; owner = w.0; noted = w.1 })
  | inr j ↦ (let w : OfSite name ks s n = in-site name ks s n j in record { line = w.line; there = inr w.there; owner = w.owner; noted = w.noted })
]

pub into-site : (name : NodeName) (ks : List (Line ActSeen SiteAnswer)) (s : Session) (k : Line ActSeen SiteAnswer) → In ks k → owner_of k.input.by k.input.input ≡ Some s → In (site_notes name ks) (s, site_note name k)
into-site name [] s k i e = absurd i
into-site name (x ∷ ks) s k (inl w) e =
    In-left (owned_by (owner_of x.input.by x.input.input) (site_note name x)) (site_notes name ks) (s, site_note name k)
    (into-owned (owner_of x.input.by x.input.input) (site_note name x) (site_note name k) s (ap (λ (y : Line ActSeen SiteAnswer). owner_of y.input.by y.input.input) w ∙ e) (ap (λ (y : Line ActSeen SiteAnswer). site_note name y) w))
into-site name (x ∷ ks) s k (inr i) e = In-right (owned_by (owner_of x.input.by x.input.input) (site_note name x)) (site_notes name ks) (s, site_note name k) (into-site name ks s k i e)

-- and one of a serializer
pub record OfSerial (name : NodeName) (ks : List (Line SerialAct SerialAnswer)) (s : Session) (n : Noted) : Type 0 where
  pub line : Line SerialAct SerialAnswer
  pub there : In ks line
  pub owner : serial_owner line.input ≡ Some s
  pub noted : serial_note name line ≡ n

pub in-serial : (name : NodeName) (ks : List (Line SerialAct SerialAnswer)) (s : Session) (n : Noted) → In (serial_notes name ks) (s, n) → OfSerial name ks s n
in-serial name [] s n i = absurd i
in-serial name (k ∷ ks) s n i = elim (In-parts (owned_by (serial_owner k.input) (serial_note name k)) (serial_notes name ks) (s, n) i) [
  | inl j ↦ (let w : (serial_owner k.input ≡ Some s) × (serial_note name k ≡ n) = in-owned (serial_owner k.input) (serial_note name k) n s j in record { line = k; there = inl refl; owner = w.0; noted = w.1 })
  | inr j ↦ (let w : OfSerial name ks s n = in-serial name ks s n j in record { line = w.line; there = inr w.there; owner = w.owner; noted = w.noted })
]

pub into-serial : (name : NodeName) (ks : List (Line SerialAct SerialAnswer)) (s : Session) (k : Line SerialAct SerialAnswer) → In ks k → serial_owner k.input ≡ Some s → In (serial_notes name ks) (s, serial_note name k)
into-serial name [] s k i e = absurd i
into-serial name (x ∷ ks) s k (inl w) e =
    In-left (owned_by (serial_owner x.input) (serial_note name x)) (serial_notes name ks) (s, serial_note name k)
    (into-owned (serial_owner x.input) (serial_note name x) (serial_note name k) s (ap (λ (y : Line SerialAct SerialAnswer). serial_owner y.input) w ∙ e) (ap (λ (y : Line SerialAct SerialAnswer). serial_note name y) w))
into-serial name (x ∷ ks) s k (inr i) e = In-right (owned_by (serial_owner x.input) (serial_note name x)) (serial_notes name ks) (s, serial_note name k) (into-serial name ks s k i e)

-- what a session noted at a node
pub record OfSession (t : Session) (ns : List Noted) (s : Session) (n : Noted) : Type 0 where
  pub session : t ≡ s
  pub there : In ns n
  pub node : NodeName
  pub at_node_is : n.at ≡ Some node

in-at : (t s : Session) (m n : Noted) (o : Option NodeName) → m.at ≡ o → In (at_node t m o) (s, n) → (t ≡ s) × (m ≡ n) × ((name : NodeName) × (n.at ≡ Some name))
in-at t s m n None e i = absurd i
in-at t s m n (Some name) e (inl w) = (ap (λ (p : Owned). p.0) w, ap (λ (p : Owned). p.1) w, (name, sym (ap (λ (p : Owned). p.1.at) w) ∙ e))
in-at t s m n (Some name) e (inr i) = absurd i

pub in-own : (t : Session) (ns : List Noted) (s : Session) (n : Noted) → In (own_notes t ns) (s, n) → OfSession t ns s n
in-own t [] s n i = absurd i
in-own t (m ∷ ns) s n i = elim (In-parts (at_node t m m.at) (own_notes t ns) (s, n) i) [
  | inl j ↦ (let w : (t ≡ s) × (m ≡ n) × ((name : NodeName) × (n.at ≡ Some name)) = in-at t s m n m.at refl j in record { session = w.0; there = inl w.1; node = w.2.0; at_node_is = w.2.1 })
  | inr j ↦ (let w : OfSession t ns s n = in-own t ns s n j in record { session = w.session; there = inr w.there; node = w.node; at_node_is = w.at_node_is })
]

into-at : (t : Session) (n : Noted) (o : Option NodeName) (name : NodeName) → o ≡ Some name → In (at_node t n o) (t, n)
into-at t n None name e = absurd (cc)
into-at t n (Some x) name e = inl refl

pub into-own : (t : Session) (ns : List Noted) (n : Noted) (name : NodeName) → In ns n → n.at ≡ Some name → In (own_notes t ns) (t, n)
into-own t [] n name i e = absurd i
into-own t (m ∷ ns) n name (inl w) e =
    In-left (at_node t m m.at) (own_notes t ns) (t, n) (subst (λ (x : Noted). In (at_node t m m.at) (t, x)) w (into-at t m m.at name (ap (λ (x : Noted). x.at) w ∙ e)))
into-own t (m ∷ ns) n name (inr i) e = In-right (at_node t m m.at) (own_notes t ns) (t, n) (into-own t ns n name i e)

-- ---- sessions by what they are of

module _ (d : Deployed) (s : Session) where
  here : (x : SessionSeen) (xs : List SessionSeen) → session_eq (session_at d x.number) s ≡ true → notes_by d (x ∷ xs) s ≡ x.noted
  here x xs e = ap (λ (b : Bool). if b then x.noted else notes_by d xs s) e

  later : (x : SessionSeen) (xs : List SessionSeen) → session_eq (session_at d x.number) s ≡ false → notes_by d (x ∷ xs) s ≡ notes_by d xs s
  later x xs e = ap (λ (b : Bool). if b then x.noted else notes_by d xs s) e

  -- the session that is of this client, or the operator's
  pub record Among (xs : List SessionSeen) : Type 0 where
    pub session : SessionSeen
    pub there : In xs session
    pub of : session_at d session.number ≡ s
    pub notes : notes_by d xs s ≡ session.noted

  pub look-up : (xs : List SessionSeen) → Among xs ⊎ (notes_by d xs s ≡ [])
  look-up [] = inr refl
  look-up (x ∷ xs) = go (session_eq (session_at d x.number) s) refl (look-up xs)
    where
      go : (b : Bool) → session_eq (session_at d x.number) s ≡ b → Among xs ⊎ (notes_by d xs s ≡ []) → Among (x ∷ xs) ⊎ (notes_by d (x ∷ xs) s ≡ [])
      go true e rest = inl (record { session = x; there = inl refl; of = session-is (session_at d x.number) s e; notes = here x xs e })
      go false e (inl f) = inl (record { session = f.session; there = inr f.there; of = f.of; notes = later x xs e ∙ f.notes })
      go false e (inr w) = inr (later x xs e ∙ w)

  -- where no two are of the same, each session's notes are found
  pub found : (xs : List SessionSeen) (x : SessionSeen) → ((a b : SessionSeen) → In xs a → In xs b → session_at d a.number ≡ session_at d b.number → a ≡ b) → In xs x → session_at d x.number ≡ s → notes_by d xs s ≡ x.noted
  found [] x one i e = absurd i
  found (y ∷ xs) x one i e = go (session_eq (session_at d y.number) s) refl (λ j. found xs x (λ a b p q. one a b (inr p) (inr q)) j e)
    where
      missed : y ≡ x → session_eq (session_at d y.number) s ≡ false → ⊥
      missed same w = (let t : session_eq (session_at d y.number) s ≡ true = ap (λ (z : SessionSeen). session_eq (session_at d z.number) s) same ∙ (ap (λ (t : Session). session_eq t s) e ∙ session-self s) in cc)

      go : (b : Bool) → session_eq (session_at d y.number) s ≡ b → (In xs x → notes_by d xs s ≡ x.noted) → notes_by d (y ∷ xs) s ≡ x.noted
      go true w rest = here y xs w ∙ ap (λ (z : SessionSeen). z.noted) (one y x (inl refl) i (session-is (session_at d y.number) s w ∙ sym e))
      go false w rest = later y xs w ∙ elim i [ inl same ↦ absurd (missed same w) | inr j ↦ rest j ]

-- ---- sessions by their numbers

in-numbers : (xs : List SessionSeen) (x : SessionSeen) → In xs x → In (map session_number xs) x.number
in-numbers [] x i = absurd i
in-numbers (y ∷ xs) x (inl e) = inl (ap (λ (z : SessionSeen). z.number) e)
in-numbers (y ∷ xs) x (inr i) = inr (in-numbers xs x i)

pub one-session : (xs : List SessionSeen) (a b : SessionSeen) → Distinct (map session_number xs) → In xs a → In xs b → a.number ≡ b.number → a ≡ b
one-session [] a b apart i j w = absurd i
one-session (x ∷ xs) a b apart (inl e) (inl f) w = sym e ∙ f
one-session (x ∷ xs) a b apart (inl e) (inr j) w =
    absurd (apart.1 (subst (λ (n : ℕ). In (map session_number xs) n) (sym w ∙ sym (ap (λ (z : SessionSeen). z.number) e)) (in-numbers xs b j)))
one-session (x ∷ xs) a b apart (inr i) (inl f) w =
    absurd (apart.1 (subst (λ (n : ℕ). In (map session_number xs) n) (w ∙ sym (ap (λ (z : SessionSeen). z.number) f)) (in-numbers xs a i)))
one-session (x ∷ xs) a b apart (inr i) (inr j) w = one-session xs a b apart.0 i j w

at-end : (a n : ℕ) → a ≤ n → nat_lt a n ≡ false → a ≡ n
at-end a n le e = grind (arith, nat_tests)

pub same-session : (d : Deployed) (a b : ℕ) → a ≤ length d.clients → b ≤ length d.clients → session_at d a ≡ session_at d b → a ≡ b
same-session d a b la lb e = go (nat_lt a (length d.clients)) (nat_lt b (length d.clients)) refl refl e
  where
    go : (p q : Bool) → nat_lt a (length d.clients) ≡ p → nat_lt b (length d.clients) ≡ q → (if p then Owner a else Operator) ≡ (if q then Owner b else Operator) → a ≡ b
    go true true w v e = cc
    go true false w v e = absurd (cc)
    go false true w v e = absurd (cc)
    go false false w v e = at-end a (length d.clients) la w ∙ sym (at-end b (length d.clients) lb v)
