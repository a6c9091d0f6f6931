-- How labels and what goes with them are spelled.
use Rattle.std.proofs.Common.{◌≡◌, ℕ, suc, ◌≤◌, Bool, true, List, [], ◌∷◌, ◌++◌, length, Option, Ok, refl, arith}
use Rattle.std.specs.Prelude.{slice_get}
use Rattle.sat_label.specs.declared.point.Point.{Point}
use Rattle.sat_label.specs.declared.items.Items.{Items}
use Rattle.sat_label.specs.declared.items.Items.TheVariants.{One, Two, Three, Four}
use Rattle.sat_label.specs.declared.label.Kind.{Kind}
use Rattle.sat_label.specs.declared.label.Kind.TheVariants as kind
use Rattle.sat_label.specs.declared.label.Label.{Label}
use Rattle.sat_label.specs.declared.carried.Carried.{Carried}
use Rattle.sat_label.specs.Grouped.{are_items, list_of}
use Rattle.sat_wire.specs.declared.fault.Cause.TheVariants as cause
use Rattle.sat_wire.specs.Code.{Read, Code, IsExact, byte, number16, number64, nothing, both, mapped, checked, made}
use Rattle.sat_wire.specs.Code.{stopped, optional, counted, chosen, read_form}
use Rattle.sat_wire.specs.Exact.{exact_byte, exact16, exact64, exact_nothing, exact_both, exact_mapped, exact_checked}
use Rattle.sat_wire.specs.Exact.{exact_optional, exact_counted, byte_high}
use Rattle.sat_wire.specs.Forms.{AreForms, form_of, form_again, no_form, exact_chosen}
use Rattle.sat_wire.specs.Texts.{value, exact_value}

-- ---- points

-- timestamp, site and gear
abbrev pub point_parts : Code (ℕ × (ℕ × ℕ))
point_parts = both number64 (both number16 number16)

abbrev pub point_of : ℕ × (ℕ × ℕ) → Point
point_of x = record { ts = x.0; site = x.1.0; gear = x.1.1 }

abbrev pub parts_of_point : Point → ℕ × (ℕ × ℕ)
parts_of_point p = (p.ts, (p.site, p.gear))

-- a point: timestamp, site and gear
abbrev pub point : Code Point
point = mapped point_of parts_of_point point_parts

pub exact_point : IsExact point
exact_point =
    exact_mapped point_of parts_of_point (λ y. refl) (λ x. refl) point_parts
    (exact_both number64 (both number16 number16) exact64 (exact_both number16 number16 exact16 exact16))

-- ---- items

abbrev pub two : Code (ℕ × ℕ)
two = both number16 number16

abbrev pub three : Code (ℕ × (ℕ × ℕ))
three = both number16 two

abbrev pub four : Code (ℕ × (ℕ × (ℕ × ℕ)))
four = both number16 three

abbrev pub exact_two : IsExact two
exact_two = exact_both number16 number16 exact16 exact16

abbrev pub exact_three : IsExact three
exact_three = exact_both number16 two exact16 exact_two

abbrev pub exact_four : IsExact four
exact_four = exact_both number16 three exact16 exact_three

abbrev pub two_of : ℕ × ℕ → Items
two_of x = Two x.0 x.1

abbrev pub three_of : ℕ × (ℕ × ℕ) → Items
three_of x = Three x.0 x.1.0 x.1.1

abbrev pub four_of : ℕ × (ℕ × (ℕ × ℕ)) → Items
four_of x = Four x.0 x.1.0 x.1.1.0 x.1.1.1

abbrev pub items_number : Items → ℕ
items_number (One a) = 1
items_number (Two a b) = 2
items_number (Three a b c) = 3
items_number (Four a b c d) = 4

abbrev pub items_fields : Items → List ℕ
items_fields (One a) = number16.spell a
items_fields (Two a b) = two.spell (a, b)
items_fields (Three a b c) = three.spell (a, (b, c))
items_fields (Four a b c d) = four.spell (a, (b, (c, d)))

-- the numbers of items fit
abbrev pub numbers_fit : Items → Bool
numbers_fit (One a) = number16.fits a
numbers_fit (Two a b) = two.fits (a, b)
numbers_fit (Three a b c) = three.fits (a, (b, c))
numbers_fit (Four a b c d) = four.fits (a, (b, (c, d)))

-- by how many there are
abbrev pub items_forms : List (List ℕ → Read Items)
items_forms = (λ bytes. stopped cause.Items (suc (length bytes))) ∷ (λ bytes. made One (number16.read bytes))
    ∷ (λ bytes. made two_of (two.read bytes)) ∷ (λ bytes. made three_of (three.read bytes))
    ∷ (λ bytes. made four_of (four.read bytes)) ∷ []

-- one to four numbers, with their count in a byte before them
abbrev pub numbers : Code Items
numbers = chosen items_number items_fields numbers_fit 8 cause.Items items_forms

are_numbers : AreForms items_number items_fields numbers_fit 0 items_forms
are_numbers = (
  no_form items_number items_fields numbers_fit cause.Items 0,
  (
    form_of items_number items_fields numbers_fit One number16 exact16 1 (λ x. refl) (λ x. refl) (λ x. refl),
    (
      form_of items_number items_fields numbers_fit two_of two exact_two 2 (λ x. refl) (λ x. refl) (λ x. refl),
      (
        form_of items_number items_fields numbers_fit three_of three exact_three 3 (λ x. refl) (λ x. refl) (λ x. refl),
        (
          form_of items_number items_fields numbers_fit four_of four exact_four 4 (λ x. refl) (λ x. refl) (λ x. refl),
          tt,
        ),
      ),
    ),
  ),
)

numbers_again : (x : Items) (rest : List ℕ) (left : ℕ) → numbers_fit x ≡ true
    → read_form cause.Items left (slice_get items_forms (items_number x)) (items_fields x ++ rest) ≡ Ok (x, rest)
numbers_again (One a) rest left fit =
    form_again items_number items_fields numbers_fit One number16 exact16 1 (λ x. refl) (λ x. refl)
    (λ x. refl) a rest fit
numbers_again (Two a b) rest left fit =
    form_again items_number items_fields numbers_fit two_of two exact_two 2 (λ x. refl) (λ x. refl) (λ x. refl)
    (a, b) rest fit
numbers_again (Three a b c) rest left fit =
    form_again items_number items_fields numbers_fit three_of three exact_three 3 (λ x. refl) (λ x. refl) (λ x. refl)
    (a, (b, c)) rest fit
numbers_again (Four a b c d) rest left fit =
    form_again items_number items_fields numbers_fit four_of four exact_four 4 (λ x. refl) (λ x. refl) (λ x. refl)
    (a, (b, (c, d))) rest fit

numbers_short : (x : Items) → numbers_fit x ≡ true → length (items_fields x) ≤ 8
numbers_short (One a) fit = omega (arith, exact16.short a fit)
numbers_short (Two a b) fit = omega (arith, exact_two.short (a, b) fit)
numbers_short (Three a b c) fit = omega (arith, exact_three.short (a, (b, c)) fit)
numbers_short (Four a b c d) fit = omega (arith, exact_four.short (a, (b, (c, d))) fit)

pub exact_numbers : IsExact numbers
exact_numbers =
    exact_chosen items_number items_fields numbers_fit cause.Items 8 items_forms are_numbers numbers_again numbers_short

abbrev pub ascend : Items → Bool
ascend x = are_items (list_of x)

-- those that ascend strictly
abbrev pub items : Code Items
items = checked ascend cause.Items numbers

pub exact_items : IsExact items
exact_items = exact_checked ascend cause.Items numbers exact_numbers

-- ---- labels

abbrev pub kind_number : Kind → ℕ
kind_number (kind.Update x) = 0
kind_number (kind.Move j) = 1
kind_number kind.Pulse = 2
kind_number (kind.Close e) = 3

abbrev pub kind_fields : Kind → List ℕ
kind_fields (kind.Update x) = items.spell x
kind_fields (kind.Move j) = number16.spell j
kind_fields kind.Pulse = []
kind_fields (kind.Close e) = number16.spell e

abbrev pub kind_fits : Kind → Bool
kind_fits (kind.Update x) = items.fits x
kind_fits (kind.Move j) = number16.fits j
kind_fits kind.Pulse = true
kind_fits (kind.Close e) = number16.fits e

-- an update's items ascend
abbrev pub kind_allows : Kind → Bool
kind_allows (kind.Update x) = ascend x
kind_allows _ = true

abbrev pub pulse_of : Unit {0} → Kind
pulse_of x = kind.Pulse

abbrev pub kind_forms : List (List ℕ → Read Kind)
kind_forms = (λ bytes. made kind.Update (items.read bytes)) ∷ (λ bytes. made kind.Move (number16.read bytes))
    ∷ (λ bytes. made pulse_of (nothing.read bytes)) ∷ (λ bytes. made kind.Close (number16.read bytes)) ∷ []

-- an update 0 and its items, a move 1 and its site, a pulse 2, a close 3 and its epoch
abbrev pub label_kind : Code Kind
label_kind = chosen kind_number kind_fields kind_fits 9 cause.Kind kind_forms

are_kinds : AreForms kind_number kind_fields kind_fits 0 kind_forms
are_kinds = (
  form_of kind_number kind_fields kind_fits kind.Update items exact_items 0 (λ x. refl) (λ x. refl) (λ x. refl),
  (
    form_of kind_number kind_fields kind_fits kind.Move number16 exact16 1 (λ x. refl) (λ x. refl) (λ x. refl),
    (
      form_of kind_number kind_fields kind_fits pulse_of nothing exact_nothing 2 (λ x. refl) (λ x. refl) (λ x. refl),
      (
        form_of kind_number kind_fields kind_fits kind.Close number16 exact16 3 (λ x. refl) (λ x. refl) (λ x. refl),
        tt,
      ),
    ),
  ),
)

kind_again : (x : Kind) (rest : List ℕ) (left : ℕ) → kind_fits x ≡ true
    → read_form cause.Kind left (slice_get kind_forms (kind_number x)) (kind_fields x ++ rest) ≡ Ok (x, rest)
kind_again (kind.Update x) rest left fit =
    form_again kind_number kind_fields kind_fits kind.Update items exact_items 0 (λ x. refl) (λ x. refl)
    (λ x. refl) x rest fit
kind_again (kind.Move j) rest left fit =
    form_again kind_number kind_fields kind_fits kind.Move number16 exact16 1 (λ x. refl) (λ x. refl)
    (λ x. refl) j rest fit
kind_again kind.Pulse rest left fit = refl
kind_again (kind.Close e) rest left fit =
    form_again kind_number kind_fields kind_fits kind.Close number16 exact16 3 (λ x. refl) (λ x. refl)
    (λ x. refl) e rest fit

kind_short : (x : Kind) → kind_fits x ≡ true → length (kind_fields x) ≤ 9
kind_short (kind.Update x) fit = omega (arith, exact_items.short x fit)
kind_short (kind.Move j) fit = omega (arith, exact16.short j fit)
kind_short kind.Pulse fit = omega arith
kind_short (kind.Close e) fit = omega (arith, exact16.short e fit)

pub exact_kind : IsExact label_kind
exact_kind = exact_chosen kind_number kind_fields kind_fits cause.Kind 9 kind_forms are_kinds kind_again kind_short

abbrev pub label_of : Point × Kind → Label
label_of x = record { point = x.0; kind = x.1 }

abbrev pub parts_of_label : Label → Point × Kind
parts_of_label l = (l.point, l.kind)

-- its point and its kind
abbrev pub label : Code Label
label = mapped label_of parts_of_label (both point label_kind)

pub exact_label : IsExact label
exact_label =
    exact_mapped label_of parts_of_label (λ y. refl) (λ x. refl) (both point label_kind)
    (exact_both point label_kind exact_point exact_kind)

-- an update's items ascend
abbrev pub label_allows : Label → Bool
label_allows l = kind_allows l.kind

-- ---- what a client carries

abbrev pub carried_of : Point × Option ℕ → Carried
carried_of x = record { point = x.0; moving = x.1 }

abbrev pub parts_of_carried : Carried → Point × Option ℕ
parts_of_carried c = (c.point, c.moving)

-- its point, and the site that it is moving to
abbrev pub carried : Code Carried
carried = mapped carried_of parts_of_carried (both point (optional number16))

pub exact_carried : IsExact carried
exact_carried =
    exact_mapped carried_of parts_of_carried (λ y. refl) (λ x. refl) (both point (optional number16))
    (exact_both point (optional number16) exact_point (exact_optional number16 exact16))

-- ---- values

-- the values of an update, with their count in a byte before them
abbrev pub values : Code (List (List ℕ))
values = counted byte 255 value

pub exact_values : IsExact values
exact_values = exact_counted value exact_value byte 255 exact_byte byte_high
