-- How messages between hosts are spelled in bytes.
use Rattle.std.proofs.Common.{◌≡◌, ℕ, ◌≤◌, ◌<◌, ◌^◌, Bool, true, List, [], ◌∷◌, ◌++◌, length, Ok, refl, arith}
use Rattle.std.specs.Prelude.{slice_get}
use Rattle.sat_label.specs.declared.label.Label.{Label}
use Rattle.sat_bulk.specs.Payloads.{Payload}
use Rattle.sat_beat.specs.declared.Beat.{Beat}
use Rattle.sat_node.specs.declared.kept.Body.{Body}
use Rattle.sat_node.specs.declared.kept.Body.TheVariants as made_body
use Rattle.sat_node.specs.declared.kept.Envelope.{Envelope}
use Rattle.sat_message.specs.declared.message.Message.{Message}
use Rattle.sat_wire.specs.declared.fault.Cause.TheVariants as cause
use Rattle.sat_wire.specs.Code.{Read, Code, IsExact, number16, number64, both, made, mapped, chosen, read_form}
use Rattle.sat_wire.specs.Exact.{exact16, exact64, exact_both, exact_mapped}
use Rattle.sat_wire.specs.Forms.{AreForms, form_of, form_again, exact_chosen}
use Rattle.sat_wire.specs.Labels.{exact_label, label, label_allows}
use Rattle.sat_wire.specs.Payloads.{beat, beat_allows, exact_beat, exact_payload, payload, payload_allows}

-- ---- bodies

-- a payload's gear, its number there and the payload
abbrev pub bulk_code : Code (ℕ × (ℕ × Payload))
bulk_code = both number16 (both number64 payload)

-- a beat's number and the beat
abbrev pub told_code : Code (ℕ × Beat)
told_code = both number64 beat

abbrev pub exact_bulk : IsExact bulk_code
exact_bulk =
    exact_both number16 (both number64 payload) exact16 (exact_both number64 payload exact64 exact_payload)

abbrev pub exact_told : IsExact told_code
exact_told = exact_both number64 beat exact64 exact_beat

abbrev pub bulk_of : ℕ × (ℕ × Payload) → Body
bulk_of x = made_body.Payload x.0 x.1.0 x.1.1

abbrev pub told_of : ℕ × Beat → Body
told_of x = made_body.Beat x.0 x.1

-- the number of a body: its place among the forms
abbrev pub body_number : Body → ℕ
body_number (made_body.Label l) = 0
body_number (made_body.Payload gear number bulk) = 1
body_number (made_body.Beat number told) = 2

-- the bytes behind the number
abbrev pub body_fields : Body → List ℕ
body_fields (made_body.Label l) = label.spell l
body_fields (made_body.Payload gear number bulk) = bulk_code.spell (gear, (number, bulk))
body_fields (made_body.Beat number told) = told_code.spell (number, told)

abbrev pub body_fits : Body → Bool
body_fits (made_body.Label l) = label.fits l
body_fits (made_body.Payload gear number bulk) = bulk_code.fits (gear, (number, bulk))
body_fits (made_body.Beat number told) = told_code.fits (number, told)

-- what the limits of a spelling allow: items that ascend, at most 255 parts, and at most 65,535 close cuts and counts
abbrev pub body_allows : Body → Bool
body_allows (made_body.Label l) = label_allows l
body_allows (made_body.Payload gear number bulk) = payload_allows bulk
body_allows (made_body.Beat number told) = beat_allows told

abbrev pub body_forms : List (List ℕ → Read Body)
body_forms = (λ bytes. made made_body.Label (label.read bytes)) ∷ (λ bytes. made bulk_of (bulk_code.read bytes))
    ∷ (λ bytes. made told_of (told_code.read bytes)) ∷ []

-- its number in a byte, and its fields in order
abbrev pub body_code : Code Body
body_code = chosen body_number body_fields body_fits 1310726 cause.Form body_forms

are_bodies : AreForms body_number body_fields body_fits 0 body_forms
are_bodies = (
  form_of body_number body_fields body_fits made_body.Label label exact_label 0 (λ x. refl) (λ x. refl) (λ x. refl),
  (
    form_of body_number body_fields body_fits bulk_of bulk_code exact_bulk 1 (λ x. refl) (λ x. refl) (λ x. refl),
    (
      form_of body_number body_fields body_fits told_of told_code exact_told 2 (λ x. refl) (λ x. refl) (λ x. refl),
      tt,
    ),
  ),
)

body_again : (x : Body) (rest : List ℕ) (left : ℕ) → body_fits x ≡ true
    → read_form cause.Form left (slice_get body_forms (body_number x)) (body_fields x ++ rest) ≡ Ok (x, rest)
body_again (made_body.Label l) rest left fit =
    form_again body_number body_fields body_fits made_body.Label label exact_label 0 (λ x. refl) (λ x. refl)
    (λ x. refl) l rest fit
body_again (made_body.Payload gear number bulk) rest left fit =
    form_again body_number body_fields body_fits bulk_of bulk_code exact_bulk 1 (λ x. refl) (λ x. refl) (λ x. refl)
    (gear, (number, bulk)) rest fit
body_again (made_body.Beat number told) rest left fit =
    form_again body_number body_fields body_fits told_of told_code exact_told 2 (λ x. refl) (λ x. refl) (λ x. refl)
    (number, told) rest fit

body_short : (x : Body) → body_fits x ≡ true → length (body_fields x) ≤ 1310726
body_short (made_body.Label l) fit = omega (arith, exact_label.short l fit)
body_short (made_body.Payload gear number bulk) fit = omega (arith, exact_bulk.short (gear, (number, bulk)) fit)
body_short (made_body.Beat number told) fit = omega (arith, exact_told.short (number, told) fit)

pub exact_body : IsExact body_code
exact_body =
    exact_chosen body_number body_fields body_fits cause.Form 1310726 body_forms are_bodies body_again body_short

-- ---- messages

abbrev pub message_of : ℕ × (ℕ × Body) → Message
message_of x = record { number = x.0; sent = record { lamport = x.1.0; body = x.1.1 } }

abbrev pub parts_of_message : Message → ℕ × (ℕ × Body)
parts_of_message m = (m.number, (m.sent.lamport, m.sent.body))

-- its number, the Lamport number of the entry that put it on its link, and what it carries
abbrev pub letter : Code Message
letter = mapped message_of parts_of_message (both number64 (both number64 body_code))

pub exact_letter : IsExact letter
exact_letter =
    exact_mapped message_of parts_of_message (λ y. refl) (λ x. refl) (both number64 (both number64 body_code))
    (exact_both number64 (both number64 body_code) exact64 (exact_both number64 body_code exact64 exact_body))

-- what the limits of a spelling allow
abbrev pub letter_allows : Message → Bool
letter_allows m = body_allows m.sent.body

pub small_letter : letter.most < 2 ^ 32
small_letter = omega arith
