-- The bytes of a name are text.
use Rattle.std.proofs.Common.{ℕ, ◌≡◌, ◌<◌, Bool, true, false, ◌&&◌, nat_le, nat_lt, List, length, refl, arith}
use Rattle.std.proofs.lemmas.Bool.Decides.{nat_tests}
use Rattle.std.proofs.lemmas.List.Elements.{All-weaker}
use Rattle.std.proofs.lemmas.List.Sums.{AllPass-from_list_all}
use Rattle.std.proofs.lemmas.Str.{IsUtf8-from_ascii}
use Rattle.std.proofs.lemmas.Str.Ascii.{IsAscii-from_all}
use Rattle.std.specs.List.{list_all}
use Rattle.std.specs.Str.{IsUtf8}
use Rattle.sat_label.specs.Text.{is_name, is_name_byte}
use Rattle.sat_label.specs.declared.limits.TheConstants.{NAME_BYTES}

is_ascii : (byte : ℕ) → is_name_byte byte ≡ true → byte < 128
is_ascii byte fits = grind (arith, nat_tests)

all_fit : (text : List ℕ) → is_name text ≡ true → list_all is_name_byte text ≡ true
all_fit text name = go (nat_lt 0 (length text)) (nat_le (length text) NAME_BYTES) (list_all is_name_byte text) name
  where
    go : (a b c : Bool) → (a && (b && c)) ≡ true → c ≡ true
    go true true true is = refl
    go true true false is = is
    go true false c is = absurd (cc)
    go false b c is = absurd (cc)

pub is_text : (text : List ℕ) → is_name text ≡ true → IsUtf8 text
is_text text name = IsUtf8-from_ascii text (IsAscii-from_all text (All-weaker (λ b. is_name_byte b ≡ true) (λ b. b < 128) is_ascii text (AllPass-from_list_all is_name_byte text (all_fit text name))))
