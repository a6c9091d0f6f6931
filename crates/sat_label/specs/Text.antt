-- How names, values and points are spelled.
use Rattle.std.specs.Prelude.{ℕ, ◌≡◌, Bool, ◌&&◌, ◌||◌, ◌==◌, nat_le, nat_lt, List, ◌∷◌, ◌++◌, length, codes}
use Rattle.std.specs.List.{list_all}
use Rattle.std.specs.Fmt.{decimal}
use Rattle.sat_label.specs.declared.point.Point.{Point}
use Rattle.sat_label.specs.declared.node.NodeId.{NodeId}
use Rattle.sat_label.specs.declared.node.NodeId.TheVariants.{Site, Serializer}
use Rattle.sat_label.specs.declared.limits.TheConstants.{NAME_BYTES, VALUE_BYTES}

-- a byte between two others
abbrev pub is_between : ℕ → ℕ → ℕ → Bool
is_between low high byte = nat_le low byte && nat_le byte high

-- a letter, a digit, `_`, `-` or `.`
abbrev pub is_name_byte : ℕ → Bool
is_name_byte byte =
    is_between 48 57 byte
    || (is_between 65 90 byte || (is_between 97 122 byte || (byte == 95 || (byte == 45 || byte == 46))))

-- one such byte or more, and at most as many as a name has
abbrev pub is_name : List ℕ → Bool
is_name text = nat_lt 0 (length text) && (nat_le (length text) NAME_BYTES && list_all is_name_byte text)

-- one byte or more from 33 to 126, and at most as many as a value has
abbrev pub is_value : List ℕ → Bool
is_value text = nat_lt 0 (length text) && (nat_le (length text) VALUE_BYTES && list_all (is_between 33 126) text)

-- `ts.site.gear`
abbrev pub point_text : Point → List ℕ
point_text p = decimal p.ts ++ 46 ∷ (decimal p.site ++ 46 ∷ decimal p.gear)

-- `s` and a site's number, or `z` and a serializer's
unfoldable pub node_text : NodeId → List ℕ
node_text (Site i) = codes "s" ++ decimal i
node_text (Serializer z) = codes "z" ++ decimal z

-- a front of the text was added at the end
pub record AppendsFront (old new text : List ℕ) : Type 0 where
  pub front : List ℕ
  pub rest : List ℕ
  pub parts : text ≡ front ++ rest
  pub added : new ≡ old ++ front
