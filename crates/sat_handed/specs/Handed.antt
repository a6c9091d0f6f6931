-- How a disk keeps what a node is handed.
use Rattle.std.proofs.Common.{◌≡◌, ℕ, ◌≤◌, ◌<◌, ◌^◌, Bool, true, List, [], ◌∷◌, ◌++◌, length, Option, Some, None, Ok}
use Rattle.std.proofs.Common.{Err, refl, ap, arith}
use Rattle.std.specs.Prelude.{slice_get}
use Rattle.std.specs.declared.result.Result.{Result}
use Rattle.sat_site.specs.declared.input.SiteInput.{SiteInput}
use Rattle.sat_message.specs.declared.message.Message.{Message}
use Rattle.sat_wire.specs.declared.fault.Cause.TheVariants as cause
use Rattle.sat_wire.specs.declared.fault.Wrong.{Wrong}
use Rattle.sat_wire.specs.Code.{AreBytes, Read, Code, IsExact, number16, number64, both, made, optional, chosen}
use Rattle.sat_wire.specs.Code.{read_form}
use Rattle.sat_wire.specs.Exact.{exact16, exact64, exact_both, exact_optional}
use Rattle.sat_wire.specs.Forms.{AreForms, form_of, form_again, exact_chosen}
use Rattle.sat_wire.specs.Wholes.{whole, whole_again, whole_only}
use Rattle.sat_bodies.specs.Bodies.{exact_input, input, input_allows, ok_of}
use Rattle.sat_letter.specs.Letters.{exact_letter, letter, letter_allows}
use Rattle.sat_handed.specs.declared.handed.Handed.{Handed}
use Rattle.sat_handed.specs.declared.handed.Handed.TheVariants as given

-- the number of its entry, the client and the input
abbrev pub asked_code : Code (ℕ × (Option ℕ × SiteInput))
asked_code = both number64 (both (optional number16) input)

-- the link and the message
abbrev pub came_code : Code (ℕ × Message)
came_code = both number16 letter

abbrev pub exact_asked : IsExact asked_code
exact_asked =
    exact_both number64 (both (optional number16) input) exact64
    (exact_both (optional number16) input (exact_optional number16 exact16) exact_input)

abbrev pub exact_came : IsExact came_code
exact_came = exact_both number16 letter exact16 exact_letter

abbrev pub asked_of : ℕ × (Option ℕ × SiteInput) → Handed
asked_of x = given.Asked x.0 x.1.0 x.1.1

abbrev pub came_of : ℕ × Message → Handed
came_of x = given.Came x.0 x.1

-- its number: its place among the forms
abbrev pub handed_number : Handed → ℕ
handed_number (given.Asked lamport by asked) = 0
handed_number (given.Killed lamport) = 1
handed_number (given.Came link message) = 2

-- the bytes behind the number
abbrev pub handed_fields : Handed → List ℕ
handed_fields (given.Asked lamport by asked) = asked_code.spell (lamport, (by, asked))
handed_fields (given.Killed lamport) = number64.spell lamport
handed_fields (given.Came link message) = came_code.spell (link, message)

abbrev pub handed_fits : Handed → Bool
handed_fits (given.Asked lamport by asked) = asked_code.fits (lamport, (by, asked))
handed_fits (given.Killed lamport) = number64.fits lamport
handed_fits (given.Came link message) = came_code.fits (link, message)

-- what the limits of a spelling allow
abbrev pub handed_allows : Handed → Bool
handed_allows (given.Asked lamport by asked) = input_allows asked
handed_allows (given.Killed lamport) = true
handed_allows (given.Came link message) = letter_allows message

abbrev pub handed_forms : List (List ℕ → Read Handed)
handed_forms = (λ bytes. made asked_of (asked_code.read bytes)) ∷ (λ bytes. made given.Killed (number64.read bytes))
    ∷ (λ bytes. made came_of (came_code.read bytes)) ∷ []

-- its number in a byte, and its fields in order
abbrev pub handed : Code Handed
handed = chosen handed_number handed_fields handed_fits 1310746 cause.Form handed_forms

are_handed : AreForms handed_number handed_fields handed_fits 0 handed_forms
are_handed = (
  form_of handed_number handed_fields handed_fits asked_of asked_code exact_asked 0 (λ x. refl) (λ x. refl) (λ x. refl),
  (
    form_of handed_number handed_fields handed_fits given.Killed number64 exact64 1 (λ x. refl) (λ x. refl)
        (λ x. refl),
    (
      form_of handed_number handed_fields handed_fits came_of came_code exact_came 2 (λ x. refl) (λ x. refl)
          (λ x. refl),
      tt,
    ),
  ),
)

handed_again : (x : Handed) (rest : List ℕ) (left : ℕ) → handed_fits x ≡ true
    → read_form cause.Form left (slice_get handed_forms (handed_number x)) (handed_fields x ++ rest) ≡ Ok (x, rest)
handed_again (given.Asked lamport by asked) rest left fit =
    form_again handed_number handed_fields handed_fits asked_of asked_code exact_asked 0 (λ x. refl) (λ x. refl)
    (λ x. refl) (lamport, (by, asked)) rest fit
handed_again (given.Killed lamport) rest left fit =
    form_again handed_number handed_fields handed_fits given.Killed number64 exact64 1 (λ x. refl) (λ x. refl)
    (λ x. refl) lamport rest fit
handed_again (given.Came link message) rest left fit =
    form_again handed_number handed_fields handed_fits came_of came_code exact_came 2 (λ x. refl) (λ x. refl)
    (λ x. refl) (link, message) rest fit

handed_short : (x : Handed) → handed_fits x ≡ true → length (handed_fields x) ≤ 1310746
handed_short (given.Asked lamport by asked) fit = omega (arith, exact_asked.short (lamport, (by, asked)) fit)
handed_short (given.Killed lamport) fit = omega (arith, exact64.short lamport fit)
handed_short (given.Came link message) fit = omega (arith, exact_came.short (link, message) fit)

pub exact_handed : IsExact handed
exact_handed =
    exact_chosen handed_number handed_fields handed_fits cause.Form 1310746 handed_forms are_handed handed_again
    handed_short

-- ---- bodies

-- the body of what was handed, and what a body stands for, None where it is the body of nothing
abbrev pub body_of : Handed → List ℕ
body_of x = handed.spell x

abbrev pub input_of : List ℕ → Option Handed
input_of body = ok_of (whole handed body)

-- a body is read again
pub body_again : (x : Handed) (body : List ℕ) → handed_fits x ≡ true → body ≡ body_of x → input_of body ≡ Some x
body_again x body fits is = ap ok_of (whole_again handed exact_handed body x fits is)

found_ok : (read : Result Handed Wrong) (x : Handed) → ok_of read ≡ Some x → read ≡ Ok x
found_ok (Ok y) x is = let same : y ≡ x = cc in ap (λ (z : Handed). let r : Result Handed Wrong = Ok z in r) same
found_ok (Err wrong) x is = cc

-- bytes stand for something only if they are its body
pub body_exact : (body : List ℕ) (x : Handed) → AreBytes body → input_of body ≡ Some x → body ≡ body_of x
body_exact body x small is = (whole_only handed exact_handed body x small (found_ok (whole handed body) x is)).0
