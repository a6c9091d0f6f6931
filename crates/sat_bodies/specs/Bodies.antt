-- How the inputs of a site are spelled: the body of each, as a journal keeps it.
use Rattle.std.proofs.Common.{◌≡◌, ℕ, ◌<◌, ◌≤◌, ◌^◌, Bool, true, List, [], ◌∷◌, ◌++◌, length, Option, Some, None, Ok}
use Rattle.std.proofs.Common.{Err, refl, ap, arith}
use Rattle.std.specs.Prelude.{nat_lt, slice_get}
use Rattle.std.specs.declared.result.Result.{Result}
use Rattle.sat_label.specs.declared.carried.Carried.{Carried}
use Rattle.sat_label.specs.declared.items.Items.{Items}
use Rattle.sat_label.specs.declared.label.Label.{Label}
use Rattle.sat_bulk.specs.Payloads.{Payload}
use Rattle.sat_beat.specs.declared.Beat.{Beat}
use Rattle.sat_site.specs.declared.input.SiteInput.{SiteInput}
use Rattle.sat_site.specs.declared.input.SiteInput.TheVariants as given
use Rattle.sat_wire.specs.declared.fault.Cause.TheVariants as cause
use Rattle.sat_wire.specs.declared.fault.Wrong.{Wrong}
use Rattle.sat_wire.specs.Code.{Read, Code, AreBytes, IsExact, both_fit, number16, number64, nothing, both, made}
use Rattle.sat_wire.specs.Code.{optional, allowed_if, chosen, read_form}
use Rattle.sat_wire.specs.Exact.{exact16, exact64, exact_nothing, exact_both, exact_optional}
use Rattle.sat_wire.specs.Forms.{AreForms, form_of, form_again, exact_chosen}
use Rattle.sat_wire.specs.Labels.{ascend, carried, exact_carried, exact_items, exact_label, exact_values, items, label}
use Rattle.sat_wire.specs.Labels.{label_allows, values}
use Rattle.sat_wire.specs.Payloads.{beat, beat_allows, exact_beat, exact_payload, payload, payload_allows}
use Rattle.sat_wire.specs.Wholes.{whole, whole_again, whole_only}

-- ---- the fields of each form

abbrev pub tick_code : Code (ℕ × ℕ)
tick_code = both number16 number64

abbrev pub write_code : Code (Carried × (Items × List (List ℕ)))
write_code = both carried (both items values)

-- what a client carries, and an item or a site
abbrev pub client_code : Code (Carried × ℕ)
client_code = both carried number16

abbrev pub turn_code : Code (Option Label)
turn_code = optional label

abbrev pub bulk_code : Code (ℕ × (ℕ × (ℕ × Payload)))
bulk_code = both number16 (both number16 (both number64 payload))

abbrev pub beat_code : Code (ℕ × (ℕ × Beat))
beat_code = both number16 (both number64 beat)

abbrev pub exact_tick : IsExact tick_code
exact_tick = exact_both number16 number64 exact16 exact64

abbrev pub exact_write : IsExact write_code
exact_write = exact_both carried (both items values) exact_carried (exact_both items values exact_items exact_values)

abbrev pub exact_client : IsExact client_code
exact_client = exact_both carried number16 exact_carried exact16

abbrev pub exact_turn : IsExact turn_code
exact_turn = exact_optional label exact_label

abbrev pub exact_bulk : IsExact bulk_code
exact_bulk =
    exact_both number16 (both number16 (both number64 payload)) exact16
    (exact_both number16 (both number64 payload) exact16 (exact_both number64 payload exact64 exact_payload))

abbrev pub exact_beat_in : IsExact beat_code
exact_beat_in = exact_both number16 (both number64 beat) exact16 (exact_both number64 beat exact64 exact_beat)

-- ---- the forms

abbrev pub tick_of : ℕ × ℕ → SiteInput
tick_of x = given.Tick x.0 x.1

abbrev pub write_of : Carried × (Items × List (List ℕ)) → SiteInput
write_of x = given.Write x.0 x.1.0 x.1.1

abbrev pub read_of : Carried × ℕ → SiteInput
read_of x = given.Read x.0 x.1

abbrev pub move_of : Carried × ℕ → SiteInput
move_of x = given.Move x.0 x.1

abbrev pub gather_of : Unit {0} → SiteInput
gather_of x = given.Gather

abbrev pub emit_of : Unit {0} → SiteInput
emit_of x = given.Emit

abbrev pub pulse_of : Unit {0} → SiteInput
pulse_of x = given.Pulse

abbrev pub bulk_of : ℕ × (ℕ × (ℕ × Payload)) → SiteInput
bulk_of x = given.Bulk x.0 x.1.0 x.1.1.0 x.1.1.1

abbrev pub beat_in_of : ℕ × (ℕ × Beat) → SiteInput
beat_in_of x = given.BeatIn x.0 x.1.0 x.1.1

abbrev pub stamp_of : Unit {0} → SiteInput
stamp_of x = given.Stamp

abbrev pub close_of : Unit {0} → SiteInput
close_of x = given.Close

abbrev pub fall_of : Unit {0} → SiteInput
fall_of x = given.Fall

abbrev pub advance_of : Unit {0} → SiteInput
advance_of x = given.Advance

-- the number of an input: its place among the forms
abbrev pub input_number : SiteInput → ℕ
input_number (given.Tick gear ts) = 0
input_number (given.Write seen written texts) = 1
input_number (given.Read seen item) = 2
input_number (given.Move seen to) = 3
input_number (given.Attach seen) = 4
input_number given.Gather = 5
input_number given.Emit = 6
input_number given.Pulse = 7
input_number (given.Turn front) = 8
input_number (given.Bulk from gear number bulk) = 9
input_number (given.Beat to) = 10
input_number (given.BeatIn from number told) = 11
input_number given.Stamp = 12
input_number given.Close = 13
input_number given.Fall = 14
input_number given.Advance = 15

-- the bytes behind the number
abbrev pub input_fields : SiteInput → List ℕ
input_fields (given.Tick gear ts) = tick_code.spell (gear, ts)
input_fields (given.Write seen written texts) = write_code.spell (seen, (written, texts))
input_fields (given.Read seen item) = client_code.spell (seen, item)
input_fields (given.Move seen to) = client_code.spell (seen, to)
input_fields (given.Attach seen) = carried.spell seen
input_fields given.Gather = []
input_fields given.Emit = []
input_fields given.Pulse = []
input_fields (given.Turn front) = turn_code.spell front
input_fields (given.Bulk from gear number bulk) = bulk_code.spell (from, (gear, (number, bulk)))
input_fields (given.Beat to) = number16.spell to
input_fields (given.BeatIn from number told) = beat_code.spell (from, (number, told))
input_fields given.Stamp = []
input_fields given.Close = []
input_fields given.Fall = []
input_fields given.Advance = []

abbrev pub input_fits : SiteInput → Bool
input_fits (given.Tick gear ts) = tick_code.fits (gear, ts)
input_fits (given.Write seen written texts) = write_code.fits (seen, (written, texts))
input_fits (given.Read seen item) = client_code.fits (seen, item)
input_fits (given.Move seen to) = client_code.fits (seen, to)
input_fits (given.Attach seen) = carried.fits seen
input_fits given.Gather = true
input_fits given.Emit = true
input_fits given.Pulse = true
input_fits (given.Turn front) = turn_code.fits front
input_fits (given.Bulk from gear number bulk) = bulk_code.fits (from, (gear, (number, bulk)))
input_fits (given.Beat to) = number16.fits to
input_fits (given.BeatIn from number told) = beat_code.fits (from, (number, told))
input_fits given.Stamp = true
input_fits given.Close = true
input_fits given.Fall = true
input_fits given.Advance = true

-- what the limits of a spelling allow: items that ascend, at most 255 values or parts, and at most 65,535 close cuts
-- and counts
abbrev pub input_allows : SiteInput → Bool
input_allows (given.Write seen written texts) = both_fit (ascend written) (nat_lt (length texts) 256)
input_allows (given.Turn front) = allowed_if label_allows front
input_allows (given.Bulk from gear number bulk) = payload_allows bulk
input_allows (given.BeatIn from number told) = beat_allows told
input_allows _ = true

abbrev pub input_forms : List (List ℕ → Read SiteInput)
input_forms = (λ bytes. made tick_of (tick_code.read bytes)) ∷ (λ bytes. made write_of (write_code.read bytes))
    ∷ (λ bytes. made read_of (client_code.read bytes)) ∷ (λ bytes. made move_of (client_code.read bytes))
    ∷ (λ bytes. made given.Attach (carried.read bytes)) ∷ (λ bytes. made gather_of (nothing.read bytes))
    ∷ (λ bytes. made emit_of (nothing.read bytes)) ∷ (λ bytes. made pulse_of (nothing.read bytes))
    ∷ (λ bytes. made given.Turn (turn_code.read bytes)) ∷ (λ bytes. made bulk_of (bulk_code.read bytes))
    ∷ (λ bytes. made given.Beat (number16.read bytes)) ∷ (λ bytes. made beat_in_of (beat_code.read bytes))
    ∷ (λ bytes. made stamp_of (nothing.read bytes)) ∷ (λ bytes. made close_of (nothing.read bytes))
    ∷ (λ bytes. made fall_of (nothing.read bytes)) ∷ (λ bytes. made advance_of (nothing.read bytes)) ∷ []

-- its number in a byte, and its fields in order
abbrev pub input : Code SiteInput
input = chosen input_number input_fields input_fits 1310726 cause.Form input_forms

-- ---- each is exact

are_inputs : AreForms input_number input_fields input_fits 0 input_forms
are_inputs = (
  form_of input_number input_fields input_fits tick_of tick_code exact_tick 0 (λ x. refl) (λ x. refl) (λ x. refl),
  (
    form_of input_number input_fields input_fits write_of write_code exact_write 1 (λ x. refl) (λ x. refl) (λ x. refl),
    (
      form_of input_number input_fields input_fits read_of client_code exact_client 2 (λ x. refl) (λ x. refl)
          (λ x. refl),
      (
        form_of input_number input_fields input_fits move_of client_code exact_client 3 (λ x. refl) (λ x. refl)
            (λ x. refl),
        (
          form_of input_number input_fields input_fits given.Attach carried exact_carried 4 (λ x. refl) (λ x. refl)
              (λ x. refl),
          (
            form_of input_number input_fields input_fits gather_of nothing exact_nothing 5 (λ x. refl) (λ x. refl)
                (λ x. refl),
            (
              form_of input_number input_fields input_fits emit_of nothing exact_nothing 6 (λ x. refl) (λ x. refl)
                  (λ x. refl),
              (
                form_of input_number input_fields input_fits pulse_of nothing exact_nothing 7 (λ x. refl) (λ x. refl)
                    (λ x. refl),
                (
                  form_of input_number input_fields input_fits given.Turn turn_code exact_turn 8 (λ x. refl) (λ x. refl)
                      (λ x. refl),
                  (
                    form_of input_number input_fields input_fits bulk_of bulk_code exact_bulk 9 (λ x. refl) (λ x. refl)
                        (λ x. refl),
                    (
                      form_of input_number input_fields input_fits given.Beat number16 exact16 10 (λ x. refl)
                          (λ x. refl) (λ x. refl),
                      (
                        form_of input_number input_fields input_fits beat_in_of beat_code exact_beat_in 11 (λ x. refl)
                            (λ x. refl) (λ x. refl),
                        (
                          form_of input_number input_fields input_fits stamp_of nothing exact_nothing 12 (λ x. refl)
                              (λ x. refl) (λ x. refl),
                          (
                            form_of input_number input_fields input_fits close_of nothing exact_nothing 13 (λ x. refl)
                                (λ x. refl) (λ x. refl),
                            (
                              form_of input_number input_fields input_fits fall_of nothing exact_nothing 14 (λ x. refl)
                                  (λ x. refl) (λ x. refl),
                              (
                                form_of input_number input_fields input_fits advance_of nothing exact_nothing 15
                                    (λ x. refl) (λ x. refl) (λ x. refl),
                                tt,
                              ),
                            ),
                          ),
                        ),
                      ),
                    ),
                  ),
                ),
              ),
            ),
          ),
        ),
      ),
    ),
  ),
)

input_again : (x : SiteInput) (rest : List ℕ) (left : ℕ) → input_fits x ≡ true
    → read_form cause.Form left (slice_get input_forms (input_number x)) (input_fields x ++ rest) ≡ Ok (x, rest)
input_again (given.Tick gear ts) rest left fit =
    form_again input_number input_fields input_fits tick_of tick_code exact_tick 0 (λ x. refl) (λ x. refl) (λ x. refl)
    (gear, ts) rest fit
input_again (given.Write seen written texts) rest left fit =
    form_again input_number input_fields input_fits write_of write_code exact_write 1 (λ x. refl) (λ x. refl)
    (λ x. refl) (seen, (written, texts)) rest fit
input_again (given.Read seen item) rest left fit =
    form_again input_number input_fields input_fits read_of client_code exact_client 2 (λ x. refl) (λ x. refl)
    (λ x. refl) (seen, item) rest fit
input_again (given.Move seen to) rest left fit =
    form_again input_number input_fields input_fits move_of client_code exact_client 3 (λ x. refl) (λ x. refl)
    (λ x. refl) (seen, to) rest fit
input_again (given.Attach seen) rest left fit =
    form_again input_number input_fields input_fits given.Attach carried exact_carried 4 (λ x. refl) (λ x. refl)
    (λ x. refl) seen rest fit
input_again given.Gather rest left fit = refl
input_again given.Emit rest left fit = refl
input_again given.Pulse rest left fit = refl
input_again (given.Turn front) rest left fit =
    form_again input_number input_fields input_fits given.Turn turn_code exact_turn 8 (λ x. refl) (λ x. refl)
    (λ x. refl) front rest fit
input_again (given.Bulk from gear number bulk) rest left fit =
    form_again input_number input_fields input_fits bulk_of bulk_code exact_bulk 9 (λ x. refl) (λ x. refl) (λ x. refl)
    (from, (gear, (number, bulk))) rest fit
input_again (given.Beat to) rest left fit =
    form_again input_number input_fields input_fits given.Beat number16 exact16 10 (λ x. refl) (λ x. refl)
    (λ x. refl) to rest fit
input_again (given.BeatIn from number told) rest left fit =
    form_again input_number input_fields input_fits beat_in_of beat_code exact_beat_in 11 (λ x. refl) (λ x. refl)
    (λ x. refl) (from, (number, told)) rest fit
input_again given.Stamp rest left fit = refl
input_again given.Close rest left fit = refl
input_again given.Fall rest left fit = refl
input_again given.Advance rest left fit = refl

input_short : (x : SiteInput) → input_fits x ≡ true → length (input_fields x) ≤ 1310726
input_short (given.Tick gear ts) fit = omega (arith, exact_tick.short (gear, ts) fit)
input_short (given.Write seen written texts) fit = omega (arith, exact_write.short (seen, (written, texts)) fit)
input_short (given.Read seen item) fit = omega (arith, exact_client.short (seen, item) fit)
input_short (given.Move seen to) fit = omega (arith, exact_client.short (seen, to) fit)
input_short (given.Attach seen) fit = omega (arith, exact_carried.short seen fit)
input_short given.Gather fit = omega arith
input_short given.Emit fit = omega arith
input_short given.Pulse fit = omega arith
input_short (given.Turn front) fit = omega (arith, exact_turn.short front fit)
input_short (given.Bulk from gear number bulk) fit = omega (arith, exact_bulk.short (from, (gear, (number, bulk))) fit)
input_short (given.Beat to) fit = omega (arith, exact16.short to fit)
input_short (given.BeatIn from number told) fit = omega (arith, exact_beat_in.short (from, (number, told)) fit)
input_short given.Stamp fit = omega arith
input_short given.Close fit = omega arith
input_short given.Fall fit = omega arith
input_short given.Advance fit = omega arith

pub exact_input : IsExact input
exact_input =
    exact_chosen input_number input_fields input_fits cause.Form 1310726 input_forms are_inputs input_again input_short

-- ---- bodies

abbrev pub ok_of : {A : Type 0} → Result A Wrong → Option A
ok_of (Ok x) = Some x
ok_of (Err wrong) = None

-- the body of an input, and the input that a body stands for, None where it is the body of none
abbrev pub body_of : SiteInput → List ℕ
body_of x = input.spell x

abbrev pub input_of : List ℕ → Option SiteInput
input_of body = ok_of (whole input body)

-- a body is read again
pub body_again : (x : SiteInput) (body : List ℕ) → input_fits x ≡ true → body ≡ body_of x → input_of body ≡ Some x
body_again x body fits is = ap ok_of (whole_again input exact_input body x fits is)

-- it is shorter than 2^32 bytes
pub body_short : (x : SiteInput) (body : List ℕ) → input_fits x ≡ true → body ≡ body_of x → length body < 2 ^ 32
body_short x body fits is = let few = exact_input.short x fits in let same : length body ≡ length (body_of x) =
    ap length is in omega (arith, few, same)

found_ok : (read : Result SiteInput Wrong) (x : SiteInput) → ok_of read ≡ Some x → read ≡ Ok x
found_ok (Ok y) x is = let same : y ≡ x = cc in ap (λ (z : SiteInput). let r : Result SiteInput Wrong = Ok z in r) same
found_ok (Err wrong) x is = cc

-- bytes stand for an input only if they are its body
pub body_exact : (body : List ℕ) (x : SiteInput) → AreBytes body → input_of body ≡ Some x → body ≡ body_of x
body_exact body x small is = (whole_only input exact_input body x small (found_ok (whole input body) x is)).0
