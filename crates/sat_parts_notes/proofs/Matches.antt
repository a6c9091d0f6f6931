-- A note of a hub's entry, or of a gear's, that its session keeps is the piece of the act that the node kept.
use Rattle.std.proofs.Common.{◌≡◌, ℕ, Bool, true, false, List, [], ◌∷◌, Option, Some, None, refl, sym, ap, ◌∙◌, subst}
use Rattle.sat_label.specs.declared.carried.Carried.{Carried}
use Rattle.sat_label.specs.declared.items.Items.{Items}
use Rattle.sat_label.specs.declared.items.Items.TheVariants.{One, Two, Three, Four}
use Rattle.sat_label.specs.declared.node.NodeName.{NodeName}
use Rattle.sat_label.specs.declared.node.NodeName.TheVariants as named
use Rattle.sat_laws.proofs.Labels.{some_is}
use Rattle.sat_act.specs.Deployed.{Deployed}
use Rattle.sat_act.specs.Parts.{seat}
use Rattle.sat_node.specs.declared.kept.Kept.{Kept as Line}
use Rattle.sat_stitch.specs.Kept.{Given, Nothing, OfClient, Kept, history}
use Rattle.sat_stitch.specs.Places.{Place, AtSite, InSession, seat_places, places, Session, Client as Owner, Operator}
use Rattle.sat_joint.specs.Pieces.{Handed, Piece, Plain}
use Rattle.sat_hub_laws.specs.Changes.{input_is_own}
use Rattle.sat_hub_laws.specs.Gears.{gear_act, write_act, gear_handed as gear_given}
use Rattle.sat_hub_laws.specs.Hubs.{hub_act, hub_handed as hub_given}
use Rattle.sat_hub_laws.specs.Lines.{gear_piece, hub_piece}
use Rattle.sat_parts.specs.declared.hub_answer.HubAnswer.{HubAnswer}
use Rattle.sat_parts.specs.declared.gear_answer.GearAnswer.{GearAnswer}
use Rattle.sat_parts.specs.declared.hub_input.HubInput.{HubInput}
use Rattle.sat_parts.specs.declared.hub_input.HubInput.TheVariants as hub
use Rattle.sat_parts.specs.declared.gear_input.GearInput.{GearInput}
use Rattle.sat_parts.specs.declared.gear_input.GearInput.TheVariants as gear
use Rattle.sat_parts.specs.Acts.{GearActSeen, HubActSeen, IsBy, client_in, gear_handed, hub_handed, is_gear_clients, is_hub_clients}
use Rattle.sat_parts.specs.Lines.{gear_line, hub_line}
use Rattle.sat_parts_opened.specs.Keeping.{gear_owner, hub_owner, is_own_line}
use Rattle.sat_parts_opened.specs.Opened.{piece_of}
use Rattle.sat_session.specs.declared.noted.Noted.{Noted}
use Rattle.sat_session.specs.Sessions.{note_given, note_kept, note_places, IsNote}
use Rattle.sat_parts_notes.specs.Notes.{gear_carried, gear_note, hub_carried, hub_note}

-- the place says whether there was a seat
seat-is : (i j : ℕ) → AtSite j ∷ [] ≡ AtSite i ∷ [] → j ≡ i
seat-is i j e = cc

no-seat : (c i : ℕ) → InSession c ∷ [] ≡ AtSite i ∷ [] → ⊥
no-seat c i e = cc

-- ---- hubs

attached-here : (i c : ℕ) (input : HubInput) (o : Option ℕ) → is_hub_clients input ≡ true → places (hub_act i c (hub_handed input)) (OfClient (hub_carried input) o) ≡ AtSite i ∷ [] → Plain (OfClient (hub_carried input) o) ≡ hub_given (hub_handed input)
attached-here i c (hub.Attach seen) None e w = refl
attached-here i c (hub.Attach seen) (Some j) e w = absurd (no-seat c i w)
attached-here i c _ o e w = absurd (cc)

operator-given : (input : HubInput) (s : Session) → hub_owner None input ≡ Some s → (Operator ≡ s) × (Plain Nothing ≡ hub_given (hub_handed input))
operator-given hub.Close s e = (some_is Operator s e, refl)
operator-given hub.Fall s e = (some_is Operator s e, refl)
operator-given _ s e = absurd (cc)

-- what a session says was handed is what the hub was handed
hub-was-handed : (d : Deployed) (i : ℕ) (by : Option ℕ) (input : HubInput) (s : Session) (before : List Kept) (n : Noted) → IsBy d by (is_hub_clients input) → hub_owner by input ≡ Some s → n.carried ≡ hub_carried input →
    places (hub_act i (client_in by) (hub_handed input)) (note_given d s before n) ≡ note_places s (Some (named.Site i)) → Plain (note_given d s before n) ≡ hub_given (hub_handed input)
hub-was-handed d i (Some c) input s before n by owner carried placed =
    subst (λ (t : Session). places (hub_act i c (hub_handed input)) (note_given d t before n) ≡ note_places t (Some (named.Site i)) → Plain (note_given d t before n) ≡ hub_given (hub_handed input)) (some_is (Owner c) s owner)
    (subst (λ (x : Carried). places (hub_act i c (hub_handed input)) (OfClient x (seat d (history before) c)) ≡ AtSite i ∷ [] → Plain (OfClient x (seat d (history before) c)) ≡ hub_given (hub_handed input)) (sym carried)
    (attached-here i c input (seat d (history before) c) by.0)) placed
hub-was-handed d i None input s before n by owner carried placed =
    let w : (Operator ≡ s) × (Plain Nothing ≡ hub_given (hub_handed input)) = operator-given input s owner in
    subst (λ (t : Session). Plain (note_given d t before n) ≡ hub_given (hub_handed input)) w.0 w.1

-- an entry of hub i, with what it was handed
abbrev hub_with : ℕ → Line HubActSeen HubAnswer → Handed → Piece
hub_with i k handed = record { number = k.lamport; act = hub_act i (client_in k.input.by) (hub_handed k.input.input); handed = handed; answer = k.answer.answer }

pub hub-matches : (d : Deployed) (i : ℕ) (k : Line HubActSeen HubAnswer) (s : Session) (before : List Kept) → IsBy d k.input.by (is_hub_clients k.input.input) → hub_owner k.input.by k.input.input ≡ Some s → IsNote d s before (hub_note (named.Site i) k) →
    piece_of (note_kept d s before (hub_note (named.Site i) k)) ≡ hub_piece i (hub_line k)
hub-matches d i k s before by owner is = ap (hub_with i k) (hub-was-handed d i k.input.by k.input.input s before (hub_note (named.Site i) k) by owner refl is.placed)

-- ---- gears

-- a write, of one item or of several, stands where its client sits
written-at : (seen : Carried) (o : Option ℕ) (c : ℕ) (items : Items) (values : List (List ℕ)) → places (write_act c items values) (OfClient seen o) ≡ seat_places c o
written-at seen o c (One x) (value ∷ []) = refl
written-at seen o c (One x) [] = refl
written-at seen o c (One x) (value ∷ more ∷ values) = refl
written-at seen o c (Two x y) values = refl
written-at seen o c (Three x y z) values = refl
written-at seen o c (Four x y z w) values = refl

asked-here : (i g c : ℕ) (input : GearInput) (o : Option ℕ) → input_is_own (gear_handed input) ≡ true → is_gear_clients input ≡ true → places (gear_act i g c (gear_handed input)) (OfClient (gear_carried input) o) ≡ AtSite i ∷ [] →
    Plain (OfClient (gear_carried input) o) ≡ gear_given i (gear_handed input)
asked-here i g c (gear.Write seen items values) None own e w = absurd (no-seat c i (sym (written-at seen None c items values) ∙ w))
asked-here i g c (gear.Write seen items values) (Some j) own e w = ap (λ (k : ℕ). Plain (OfClient seen (Some k))) (seat-is i j (sym (written-at seen (Some j) c items values) ∙ w))
asked-here i g c (gear.Read seen n) None own e w = absurd (no-seat c i w)
asked-here i g c (gear.Read seen n) (Some j) own e w = ap (λ (k : ℕ). Plain (OfClient seen (Some k))) (seat-is i j w)
asked-here i g c (gear.Move seen to) None own e w = absurd (no-seat c i w)
asked-here i g c (gear.Move seen to) (Some j) own e w = ap (λ (k : ℕ). Plain (OfClient seen (Some k))) (seat-is i j w)
asked-here i g c (gear.Tick ts) o own e w = absurd (cc)
asked-here i g c (gear.Drain f labels stable) o own e w = absurd (cc)
asked-here i g c (gear.Show act p) o own e w = absurd (cc)

-- what a session says was handed is what the gear was handed
gear-was-handed : (d : Deployed) (i g : ℕ) (by : Option ℕ) (input : GearInput) (s : Session) (before : List Kept) (n : Noted) → IsBy d by (is_gear_clients input) → input_is_own (gear_handed input) ≡ true → gear_owner by ≡ Some s →
    n.carried ≡ gear_carried input → places (gear_act i g (client_in by) (gear_handed input)) (note_given d s before n) ≡ note_places s (Some (named.Gear i g)) → Plain (note_given d s before n) ≡ gear_given i (gear_handed input)
gear-was-handed d i g (Some c) input s before n by own owner carried placed =
    subst (λ (t : Session). places (gear_act i g c (gear_handed input)) (note_given d t before n) ≡ note_places t (Some (named.Gear i g)) → Plain (note_given d t before n) ≡ gear_given i (gear_handed input)) (some_is (Owner c) s owner)
    (subst (λ (x : Carried). places (gear_act i g c (gear_handed input)) (OfClient x (seat d (history before) c)) ≡ AtSite i ∷ [] → Plain (OfClient x (seat d (history before) c)) ≡ gear_given i (gear_handed input)) (sym carried)
    (asked-here i g c input (seat d (history before) c) own by.0)) placed
gear-was-handed d i g None input s before n by own owner carried placed = absurd (cc)

-- an entry of a gear, with what it was handed
abbrev gear_with : ℕ → ℕ → Line GearActSeen GearAnswer → Handed → Piece
gear_with i g k handed = record { number = k.lamport; act = gear_act i g (client_in k.input.by) (gear_handed k.input.input); handed = handed; answer = k.answer.answer }

pub gear-matches : (d : Deployed) (i g : ℕ) (k : Line GearActSeen GearAnswer) (s : Session) (before : List Kept) → IsBy d k.input.by (is_gear_clients k.input.input) → is_own_line k ≡ true → gear_owner k.input.by ≡ Some s →
    IsNote d s before (gear_note (named.Gear i g) k) → piece_of (note_kept d s before (gear_note (named.Gear i g) k)) ≡ gear_piece i g (gear_line k)
gear-matches d i g k s before by own owner is = ap (gear_with i g k) (gear-was-handed d i g k.input.by k.input.input s before (gear_note (named.Gear i g) k) by own owner refl is.placed)
