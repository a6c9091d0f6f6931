-- How long a name is.
use Rattle.std.proofs.Common.{◌≡◌, ℕ, ◌≤◌, true, ◌&&◌, ltb, leb, List, length}
use Rattle.std.specs.List.{list_all}
use Rattle.std.proofs.lemmas.Bool.{and_parts, leb-true}
use Rattle.sat_label.specs.Text.{is_name, is_name_byte}

pub short_of : (name : List ℕ) → is_name name ≡ true → length name ≤ 32
short_of name h =
    let some = and_parts (ltb 0 (length name)) (leb (length name) 32 && list_all is_name_byte name) h in
    let short = and_parts (leb (length name) 32) (list_all is_name_byte name) some.1 in
    leb-true (length name) 32 short.0
