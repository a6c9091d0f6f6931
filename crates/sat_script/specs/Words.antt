-- The words of a line: its bytes, numbers, lists of sites, and nodes.
use Rattle.std.specs.Prelude.{ℕ, ◌≡◌, ◌+◌, ◌^◌, List, [], ◌∷◌, ◌++◌, Bool, true, false, not, ◌&&◌, ◌||◌, ◌==◌, nat_lt}
use Rattle.std.specs.Prelude.{nat_le, length, map, take, slice_index, bit_or, Some, None, if◌then◌else◌}
use Rattle.std.specs.declared.option.Option.{Option}
use Rattle.std.specs.Option.{option_map}
use Rattle.std.specs.List.{All, slice_split, list_all}
use Rattle.std.specs.Str.{all_ascii_digits}
use Rattle.std.specs.Str.Parse.{digits_value}
use Rattle.sat_label.specs.Text.{is_between}
use Rattle.sat_label.specs.declared.node.NodeId.{NodeId}
use Rattle.sat_label.specs.declared.node.NodeId.TheVariants.{Site, Serializer}
use Rattle.sat_label.specs.declared.site_set.SiteSet.{SiteSet}
use Rattle.sat_tree.specs.Shape.{TreeShape}

abbrev pub is_newline : ℕ → Bool
is_newline byte = byte == 10

abbrev pub is_blank : ℕ → Bool
is_blank byte = byte == 32

abbrev pub is_comma : ℕ → Bool
is_comma byte = byte == 44

-- bytes that may stand in a line
abbrev pub is_text : List ℕ → Bool
is_text line = list_all (is_between 32 126) line

-- the parts of a line between its blanks
abbrev pub words_of : List ℕ → List (List ℕ)
words_of line = slice_split is_blank line

-- a byte stands nowhere in a text
abbrev pub HasNo : ℕ → List ℕ → Type 0
HasNo byte text = All (λ other. other == byte ≡ false) text

-- what stands before the first place of a byte, and what behind it
pub record IsCut (byte : ℕ) (text front rest : List ℕ) : Type 0 where
  pub none : HasNo byte front
  pub whole : text ≡ front ++ byte ∷ rest

-- whether a line is text, and if so its first eleven words
abbrev pub AreFirst : Bool → List ℕ → List (List ℕ) → Type 0
AreFirst true line words = (is_text line ≡ true) × (words ≡ take 11 (words_of line))
AreFirst false line words = is_text line ≡ false

-- the places of a text's blanks, counted from a number
unfoldable pub blanks_from : ℕ → List ℕ → List ℕ
blanks_from n [] = []
blanks_from n (byte ∷ bytes) = if byte == 32 then n ∷ blanks_from (n + 1) bytes else blanks_from (n + 1) bytes

-- a word of bytes that can be seen
abbrev pub is_token : List ℕ → Bool
is_token word = nat_lt 0 (length word) && list_all (is_between 33 126) word

-- ---- numbers of any length

-- `0`, or digits that don't begin with `0`
abbrev pub is_number : List ℕ → Bool
is_number word =
    nat_lt 0 (length word) && (all_ascii_digits word && (length word == 1 || not (slice_index word 0 == 48)))

-- the number that digits stand for
abbrev pub value_of : List ℕ → ℕ
value_of digits = digits_value 10 digits

-- a number below a limit
unfoldable pub number_below : ℕ → List ℕ → Option ℕ
number_below limit word = if is_number word && nat_lt (value_of word) limit then Some (value_of word) else None

-- a number from 1 to a limit
unfoldable pub number_to : ℕ → List ℕ → Option ℕ
number_to limit word =
    if is_number word && (nat_lt 0 (value_of word) && nat_le (value_of word) limit) then Some (value_of word) else None

-- a number from 0 to a limit
unfoldable pub number_up_to : ℕ → List ℕ → Option ℕ
number_up_to limit word = if is_number word && nat_le (value_of word) limit then Some (value_of word) else None

-- ---- lists of sites

-- the words between a list's commas
abbrev pub parts_of : List ℕ → List (List ℕ)
parts_of list = slice_split is_comma list

-- each number is above the one before it
abbrev pub is_rising : List ℕ → Bool
is_rising [] = true
is_rising (a ∷ []) = true
is_rising (a ∷ b ∷ more) = nat_lt a b && is_rising (b ∷ more)

-- words that are numbers, strictly ascending
unfoldable pub are_rising : List (List ℕ) → Bool
are_rising parts = if list_all is_number parts then is_rising (map value_of parts) else false

-- numbers with commas between them, strictly ascending
abbrev pub is_list : List ℕ → Bool
is_list list = are_rising (parts_of list)

-- the set of these sites, as bits
abbrev pub set_of : List ℕ → ℕ
set_of [] = 0
set_of (site ∷ sites) = bit_or (2 ^ site) (set_of sites)

-- whether the numbers that words stand for are all below a limit
abbrev pub are_below : ℕ → List (List ℕ) → Bool
are_below limit words = list_all (λ word. nat_lt (value_of word) limit) words

-- the set of sites that words name, where all are below a limit
unfoldable pub sites_among : ℕ → List (List ℕ) → Option SiteSet
sites_among limit parts = if are_below limit parts then Some (record { bits = set_of (map value_of parts) }) else None

-- the set of sites that a list names
abbrev pub sites_in : ℕ → List ℕ → Option SiteSet
sites_in limit list = sites_among limit (parts_of list)

-- ---- nodes

-- `s` and a number, or `z` and a number
unfoldable pub is_node : List ℕ → Bool
is_node [] = false
is_node (byte ∷ number) = (byte == 115 || byte == 122) && is_number number

-- `z` and a number
unfoldable pub is_serializer : List ℕ → Bool
is_serializer [] = false
is_serializer (byte ∷ number) = (byte == 122) && is_number number

-- the serializer of a tree that such a word names
unfoldable pub serializer_in : TreeShape → List ℕ → Option ℕ
unfolding number_below
serializer_in t [] = None
serializer_in t (byte ∷ number) = number_below (length t.parents) number

-- the node of a tree that such a word names
unfoldable pub node_in : TreeShape → List ℕ → Option NodeId
unfolding number_below
node_in t [] = None
node_in t (byte ∷ number) =
    if byte == 115 then option_map Site (number_below (length t.seats) number)
    else option_map Serializer (number_below (length t.parents) number)
