-- How payloads and beats are spelled.
use Rattle.std.proofs.Common.{ℕ, ◌<◌, ◌^◌, Bool, List, length, Option, refl, arith}
use Rattle.std.specs.Prelude.{nat_lt}
use Rattle.sat_label.specs.declared.label.Label.{Label}
use Rattle.sat_label.specs.declared.point.Point.{Point}
use Rattle.sat_bulk.specs.Payloads.{Payload}
use Rattle.sat_beat.specs.declared.Beat.{Beat}
use Rattle.sat_wire.specs.Code.{Code, IsExact, both_fit, byte, number16, number64, both, mapped, optional, counted}
use Rattle.sat_wire.specs.Exact.{exact_byte, exact16, exact64, exact_both, exact_mapped, exact_optional, exact_counted}
use Rattle.sat_wire.specs.Exact.{byte_high, high16}
use Rattle.sat_wire.specs.Labels.{exact_label, exact_point, label, label_allows, point, values}
use Rattle.sat_wire.specs.Texts.{exact_value, value}

-- ---- lists

-- the values of a payload, or none where they were taken out, with their count in a byte before them
abbrev pub part : Code (Option (List ℕ))
part = optional value

abbrev pub exact_part : IsExact part
exact_part = exact_optional value exact_value

abbrev pub parts : Code (List (Option (List ℕ)))
parts = counted byte 255 part

pub exact_parts : IsExact parts
exact_parts = exact_counted part exact_part byte 255 exact_byte byte_high

-- points, and numbers of eight bytes, with their count in two bytes before them
abbrev pub points : Code (List Point)
points = counted number16 65535 point

pub exact_points : IsExact points
exact_points = exact_counted point exact_point number16 65535 exact16 high16

abbrev pub counts : Code (List ℕ)
counts = counted number16 65535 number64

pub exact_counts : IsExact counts
exact_counts = exact_counted number64 exact64 number16 65535 exact16 high16

-- ---- payloads

abbrev pub payload_of : Label × List (Option (List ℕ)) → Payload
payload_of x = record { label = x.0; values = x.1 }

abbrev pub parts_of_payload : Payload → Label × List (Option (List ℕ))
parts_of_payload p = (p.label, p.values)

-- its label and its parts
abbrev pub payload : Code Payload
payload = mapped payload_of parts_of_payload (both label parts)

pub exact_payload : IsExact payload
exact_payload =
    exact_mapped payload_of parts_of_payload (λ y. refl) (λ x. refl) (both label parts)
    (exact_both label parts exact_label exact_parts)

-- at most 255 parts
abbrev pub payload_allows : Payload → Bool
payload_allows p = both_fit (label_allows p.label) (nat_lt (length p.values) 256)

pub small_payload : payload.most < 2 ^ 32
small_payload = omega arith

-- ---- beats

abbrev pub beat_of : Point × (List Point × List ℕ) → Beat
beat_of x = record { cut = x.0; closes = x.1.0; counts = x.1.1 }

abbrev pub parts_of_beat : Beat → Point × (List Point × List ℕ)
parts_of_beat b = (b.cut, (b.closes, b.counts))

-- its cut, its close cuts and its counts
abbrev pub beat : Code Beat
beat = mapped beat_of parts_of_beat (both point (both points counts))

pub exact_beat : IsExact beat
exact_beat =
    exact_mapped beat_of parts_of_beat (λ y. refl) (λ x. refl) (both point (both points counts))
    (exact_both point (both points counts) exact_point (exact_both points counts exact_points exact_counts))

-- at most 65,535 of each
abbrev pub beat_allows : Beat → Bool
beat_allows b = both_fit (nat_lt (length b.closes) 65536) (nat_lt (length b.counts) 65536)

pub small_beat : beat.most < 2 ^ 32
small_beat = omega arith

pub small_points : points.most < 2 ^ 32
small_points = omega arith

pub small_counts : counts.most < 2 ^ 32
small_counts = omega arith

pub small_values : values.most < 2 ^ 32
small_values = omega arith
