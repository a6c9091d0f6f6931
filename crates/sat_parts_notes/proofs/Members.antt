-- Members of the lists of what hubs and gears kept of sessions' acts, and of their journals as pieces of acts.
use Rattle.std.proofs.Common.{◌≡◌, ◌⊎◌, ◌<◌, ℕ, Bool, true, false, List, [], ◌∷◌, ◌++◌, Option, Some, None, if◌then◌else◌, refl, sym, ap, ◌∙◌, subst, inl, inr}
use Rattle.std.specs.List.{flat_map}
use Rattle.sat_label.specs.declared.node.NodeName.{NodeName}
use Rattle.sat_label.specs.Members.{In}
use Rattle.sat_laws.proofs.Labels.{some_is}
use Rattle.sat_node.specs.declared.kept.Kept.{Kept as Line}
use Rattle.sat_stitch.specs.Kept.{Kept, Rising}
use Rattle.sat_stitch.specs.Places.{Session}
use Rattle.sat_joint.specs.Pieces.{Piece, Rises, number_of}
use Rattle.sat_hub_laws.specs.Lines.{GearLine, HubLine, gear_piece, gear_pieces, hub_piece, hub_pieces}
use Rattle.sat_parts.specs.declared.hub_answer.HubAnswer.{HubAnswer}
use Rattle.sat_parts.specs.declared.gear_answer.GearAnswer.{GearAnswer}
use Rattle.sat_parts.specs.Acts.{GearActSeen, HubActSeen}
use Rattle.sat_parts.specs.Lines.{gear_behind, gear_line, hub_behind, hub_line}
use Rattle.sat_parts_opened.specs.Keeping.{gear_owner, hub_owner, is_own_line}
use Rattle.sat_parts_opened.specs.Opened.{piece_of, pieces_of}
use Rattle.sat_session.specs.declared.noted.Noted.{Noted}
use Rattle.sat_session.specs.Notes.{owned_by}
use Rattle.sat_session.specs.Owned.{Owned}
use Rattle.sat_session.proofs.Owned.{in-flat, into-flat}
use Rattle.sat_parts_notes.specs.Notes.{gear_note, gear_owned, hub_note, hub_owned}

-- ---- notes with their sessions

one-owned : (t s : Session) (m n : Noted) → t ≡ s → m ≡ n → ◌≡◌ {A = Owned} (t, m) (s, n)
one-owned t s m n e w = λ j. (e j, w j)

into-owned : (o : Option Session) (n : Noted) (s : Session) → o ≡ Some s → In (owned_by o n) (s, n)
into-owned None n s e = absurd (cc)
into-owned (Some t) n s e = inl (one-owned t s n n (some_is t s e) refl)

in-owned : (o : Option Session) (m n : Noted) (s : Session) → In (owned_by o m) (s, n) → (o ≡ Some s) × (m ≡ n)
in-owned None m n s i = absurd i
in-owned (Some t) m n s (inl e) = (ap (λ (p : Owned). Some p.0) e, ap (λ (p : Owned). p.1) e)
in-owned (Some t) m n s (inr i) = absurd i

-- ---- hubs

-- an entry of a hub that is of a session
pub record OfHub (name : NodeName) (ks : List (Line HubActSeen HubAnswer)) (s : Session) (n : Noted) : Type 0 where
  pub line : Line HubActSeen HubAnswer
  pub there : In ks line
  pub owner : hub_owner line.input.by line.input.input ≡ Some s
  pub noted : hub_note name line ≡ n

pub in-hub : (name : NodeName) (ks : List (Line HubActSeen HubAnswer)) (s : Session) (n : Noted) → In (flat_map (hub_owned name) ks) (s, n) → OfHub name ks s n
in-hub name ks s n i =
    let w : (k : Line HubActSeen HubAnswer) × In ks k × In (hub_owned name k) (s, n) = in-flat (hub_owned name) ks (s, n) i in
    let v : (hub_owner w.0.input.by w.0.input.input ≡ Some s) × (hub_note name w.0 ≡ n) = in-owned (hub_owner w.0.input.by w.0.input.input) (hub_note name w.0) n s w.2 in
    record { line = w.0; there = w.1; owner = v.0; noted = v.1 }

pub into-hub : (name : NodeName) (ks : List (Line HubActSeen HubAnswer)) (s : Session) (k : Line HubActSeen HubAnswer) → In ks k → hub_owner k.input.by k.input.input ≡ Some s → In (flat_map (hub_owned name) ks) (s, hub_note name k)
into-hub name ks s k i e = into-flat (hub_owned name) ks k (s, hub_note name k) i (into-owned (hub_owner k.input.by k.input.input) (hub_note name k) s e)

-- ---- gears

-- an entry of a gear that is of a session, and an act of its own
pub record OfGear (name : NodeName) (ks : List (Line GearActSeen GearAnswer)) (s : Session) (n : Noted) : Type 0 where
  pub line : Line GearActSeen GearAnswer
  pub there : In ks line
  pub own : is_own_line line ≡ true
  pub owner : gear_owner line.input.by ≡ Some s
  pub noted : gear_note name line ≡ n

in-if : (b : Bool) (os : List Owned) (o : Owned) → In (if b then os else []) o → (b ≡ true) × In os o
in-if true os o i = (refl, i)
in-if false os o i = absurd i

into-if : (b : Bool) (os : List Owned) (o : Owned) → b ≡ true → In os o → In (if b then os else []) o
into-if true os o e i = i
into-if false os o e i = absurd (cc)

pub in-gear : (name : NodeName) (ks : List (Line GearActSeen GearAnswer)) (s : Session) (n : Noted) → In (flat_map (gear_owned name) ks) (s, n) → OfGear name ks s n
in-gear name ks s n i =
    let w : (k : Line GearActSeen GearAnswer) × In ks k × In (gear_owned name k) (s, n) = in-flat (gear_owned name) ks (s, n) i in
    let u : (is_own_line w.0 ≡ true) × In (owned_by (gear_owner w.0.input.by) (gear_note name w.0)) (s, n) = in-if (is_own_line w.0) (owned_by (gear_owner w.0.input.by) (gear_note name w.0)) (s, n) w.2 in
    let v : (gear_owner w.0.input.by ≡ Some s) × (gear_note name w.0 ≡ n) = in-owned (gear_owner w.0.input.by) (gear_note name w.0) n s u.1 in
    record { line = w.0; there = w.1; own = u.0; owner = v.0; noted = v.1 }

pub into-gear : (name : NodeName) (ks : List (Line GearActSeen GearAnswer)) (s : Session) (k : Line GearActSeen GearAnswer) → In ks k → is_own_line k ≡ true → gear_owner k.input.by ≡ Some s → In (flat_map (gear_owned name) ks) (s, gear_note name k)
into-gear name ks s k i own e =
    into-flat (gear_owned name) ks k (s, gear_note name k) i
    (into-if (is_own_line k) (owned_by (gear_owner k.input.by) (gear_note name k)) (s, gear_note name k) own (into-owned (gear_owner k.input.by) (gear_note name k) s e))

-- ---- journals as pieces

-- of a hub
hub-stays : (i : ℕ) (ls : List HubLine) (es : List (Line HubActSeen HubAnswer)) (p : Piece) → In (hub_pieces i ls) p → In (hub_pieces i (hub_behind ls es)) p
hub-stays i ls [] p m = m
hub-stays i ls (k ∷ es) p m = hub-stays i (hub_line k ∷ ls) es p (inr m)

pub into-hub-pieces : (i : ℕ) (ls : List HubLine) (es : List (Line HubActSeen HubAnswer)) (k : Line HubActSeen HubAnswer) → In es k → In (hub_pieces i (hub_behind ls es)) (hub_piece i (hub_line k))
into-hub-pieces i ls [] k m = absurd m
into-hub-pieces i ls (x ∷ es) k (inl e) = hub-stays i (hub_line x ∷ ls) es (hub_piece i (hub_line k)) (inl (ap (λ (y : Line HubActSeen HubAnswer). hub_piece i (hub_line y)) e))
into-hub-pieces i ls (x ∷ es) k (inr m) = into-hub-pieces i (hub_line x ∷ ls) es k m

-- an entry of the journal that is this piece
abbrev pub HubPiece : ℕ → List (Line HubActSeen HubAnswer) → Piece → Type 0
HubPiece i es p = (k : Line HubActSeen HubAnswer) × In es k × (hub_piece i (hub_line k) ≡ p)

pub in-hub-pieces : (i : ℕ) (ls : List HubLine) (es : List (Line HubActSeen HubAnswer)) (p : Piece) → In (hub_pieces i (hub_behind ls es)) p → In (hub_pieces i ls) p ⊎ HubPiece i es p
in-hub-pieces i ls [] p m = inl m
in-hub-pieces i ls (x ∷ es) p m = elim (in-hub-pieces i (hub_line x ∷ ls) es p m) [
  | inl j ↦ elim j [ inl e ↦ inr (x, inl refl, e) | inr n ↦ inl n ]
  | inr w ↦ inr (w.0, inr w.1, w.2)
]

-- of a gear
gear-stays : (i g : ℕ) (ls : List GearLine) (es : List (Line GearActSeen GearAnswer)) (p : Piece) → In (gear_pieces i g ls) p → In (gear_pieces i g (gear_behind ls es)) p
gear-stays i g ls [] p m = m
gear-stays i g ls (k ∷ es) p m = gear-stays i g (gear_line k ∷ ls) es p (inr m)

pub into-gear-pieces : (i g : ℕ) (ls : List GearLine) (es : List (Line GearActSeen GearAnswer)) (k : Line GearActSeen GearAnswer) → In es k → In (gear_pieces i g (gear_behind ls es)) (gear_piece i g (gear_line k))
into-gear-pieces i g ls [] k m = absurd m
into-gear-pieces i g ls (x ∷ es) k (inl e) = gear-stays i g (gear_line x ∷ ls) es (gear_piece i g (gear_line k)) (inl (ap (λ (y : Line GearActSeen GearAnswer). gear_piece i g (gear_line y)) e))
into-gear-pieces i g ls (x ∷ es) k (inr m) = into-gear-pieces i g (gear_line x ∷ ls) es k m

-- an entry of the journal that is this piece
abbrev pub GearPiece : ℕ → ℕ → List (Line GearActSeen GearAnswer) → Piece → Type 0
GearPiece i g es p = (k : Line GearActSeen GearAnswer) × In es k × (gear_piece i g (gear_line k) ≡ p)

pub in-gear-pieces : (i g : ℕ) (ls : List GearLine) (es : List (Line GearActSeen GearAnswer)) (p : Piece) → In (gear_pieces i g (gear_behind ls es)) p → In (gear_pieces i g ls) p ⊎ GearPiece i g es p
in-gear-pieces i g ls [] p m = inl m
in-gear-pieces i g ls (x ∷ es) p m = elim (in-gear-pieces i g (gear_line x ∷ ls) es p m) [
  | inl j ↦ elim j [ inl e ↦ inr (x, inl refl, e) | inr n ↦ inl n ]
  | inr w ↦ inr (w.0, inr w.1, w.2)
]

-- ---- kept lists as pieces

-- what was kept that is this piece
abbrev pub IsPieceOf : List Kept → Piece → Type 0
IsPieceOf ks p = (k : Kept) × In ks k × (piece_of k ≡ p)

pub from-piece : (ks : List Kept) (p : Piece) → In (pieces_of ks) p → IsPieceOf ks p
from-piece [] p m = absurd m
from-piece (k ∷ ks) p (inl e) = (k, inl refl, e)
from-piece (k ∷ ks) p (inr m) = (let w : IsPieceOf ks p = from-piece ks p m in (w.0, inr w.1, w.2))

pub into-pieces : (ks : List Kept) (k : Kept) → In ks k → In (pieces_of ks) (piece_of k)
into-pieces [] k m = absurd m
into-pieces (x ∷ ks) k (inl e) = inl (ap piece_of e)
into-pieces (x ∷ ks) k (inr m) = inr (into-pieces ks k m)

pub each-piece : (P : Piece → Type 0) (ks : List Kept) → ((k : Kept) → In ks k → P (piece_of k)) → (p : Piece) → In (pieces_of ks) p → P p
each-piece P ks f p m = (let w : IsPieceOf ks p = from-piece ks p m in subst P w.2 (f w.0 w.1))

pub pieces-rise : (ks : List Kept) → Rising ks → Rises number_of (pieces_of ks)
pieces-rise [] r = tt
pieces-rise (k ∷ ks) r = (pieces-rise ks r.0, each-piece (λ p. number_of p < k.number) ks r.1)
