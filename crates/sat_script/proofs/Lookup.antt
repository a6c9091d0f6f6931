-- Clients and items by their names.
use Rattle.std.proofs.Common.{◌≡◌, ℕ, ◌+◌, ◌<◌, ◌≤◌, Bool, true, false, not, ◌&&◌, ◌||◌, cond, ltb, leb, List, [], ◌∷◌, ◌++◌, length, map, get_or, Some, sym, ap, ◌∙◌, refl, subst, arith}
use Rattle.std.specs.List.{position, position_or_len, list_all, list_any, slice_get}
use Rattle.std.specs.Global.{Vec}
use Rattle.sat_label.proofs.Truth.{same-test}
use Rattle.sat_script.specs.Names.{texts_of, item_name_of, client_name_of}
use Rattle.std.specs.Str.{bytes_eq}
use Rattle.std.proofs.lemmas.Bool.{and_parts, false_from_ne_true, leb-true}
use Rattle.std.proofs.lemmas.Bool.Decides.{nat_tests}
use Rattle.std.proofs.lemmas.List.{length-map, map-append}
use Rattle.std.proofs.lemmas.List.Quantifiers.{position-Some}
use Rattle.std.proofs.lemmas.List.Sums.{position_or_len_is}
use Rattle.std.proofs.lemmas.Option.{slice_get-get_or}
use Rattle.sat_label.specs.Text.{is_name, is_name_byte}
use Rattle.sat_act.specs.declared.deployment.Item.{Item}
use Rattle.sat_act.specs.declared.deployment.ClientLine.{ClientLine}
use Rattle.sat_act.specs.Deployed.{Deployed}
use Rattle.sat_act.specs.Limits.{IsDeployment}
use Rattle.sat_script.specs.Causes.{client_of, item_of}
use Rattle.sat_script.specs.Table.{client_name, item_name}
use Rattle.sat_script.proofs.Choices.{word_is, word_same}

pub name_parts : (name : List ℕ) → is_name name ≡ true → (list_all is_name_byte name ≡ true) × (length name ≤ 32)
name_parts name h =
    let some = and_parts (ltb 0 (length name)) (leb (length name) 32 && list_all is_name_byte name) h in
    let short = and_parts (leb (length name) 32) (list_all is_name_byte name) some.1 in
    (short.1, leb-true (length name) 32 short.0)

pub no_client : ClientLine
no_client = record { name = []; site = 0 }

pub no_item : Item
no_item = record { name = []; replicas = record { bits = 0 } }

pub client_at : (d : Deployed) (c : ℕ) → c < length d.clients → client_name d c ≡ (get_or d.clients c no_client).name
client_at d c inside = rw (slice_get-get_or d.clients c no_client inside, client_name) refl

pub item_at : (d : Deployed) (x : ℕ) → x < length d.items → item_name d x ≡ (get_or d.items x no_item).name
item_at d x inside = rw (slice_get-get_or d.items x no_item inside, item_name) refl

pub client_is : (d : Deployed) (name : List ℕ) (c : ℕ) → client_of d name ≡ Some c → (c < length d.clients) × (client_name d c ≡ name)
unfolding client_of
client_is d name c h =
    let p = position-Some (λ (line : ClientLine). bytes_eq line.name name) d.clients c no_client h in
    (p.0, client_at d c p.0 ∙ word_is (get_or d.clients c no_client).name name p.1)

pub item_is : (d : Deployed) (name : List ℕ) (x : ℕ) → item_of d name ≡ Some x → (x < length d.items) × (item_name d x ≡ name)
unfolding item_of
item_is d name x h =
    let p = position-Some (λ (item : Item). bytes_eq item.name name) d.items x no_item h in
    (p.0, item_at d x p.0 ∙ word_is (get_or d.items x no_item).name name p.1)

-- the first place of a test that only one place passes
pub first_is : {X : Type 0} (p : X → Bool) (xs : List X) (i : ℕ) (none : X) → i < length xs → p (get_or xs i none) ≡ true → ((k : ℕ) → k < i → p (get_or xs k none) ≡ false) → position p xs ≡ Some i
first_is p xs i none inside here before =
    let place = position_or_len_is p xs i none (omega arith) before (λ _. here) in
    let test : ltb i (length xs) ≡ true = grind (arith, nat_tests) in
    rw (place, test) refl

-- the place of a name that no other one has
reads : {X : Type 0} (name : X → List ℕ) (xs : List X) (none : X) (i : ℕ) → i < length xs → ((j k : ℕ) (x y : X) → slice_get xs j ≡ Some x → slice_get xs k ≡ Some y → name x ≡ name y → j ≡ k)
    → position (λ x. bytes_eq (name x) (name (get_or xs i none))) xs ≡ Some i
reads name xs none i inside apart =
    first_is (λ x. bytes_eq (name x) (name (get_or xs i none))) xs i none inside (word_same (name (get_or xs i none)))
    (λ k less. false_from_ne_true _ (λ same.
    let within : k < length xs = omega arith in
    let here = apart k i _ _ (slice_get-get_or xs k none within) (slice_get-get_or xs i none inside) (word_is _ _ same) in
    absurd (omega arith)))

pub client_reads : (d : Deployed) (c : ℕ) → IsDeployment d → c < length d.clients → client_of d (client_name d c) ≡ Some c
unfolding client_of
client_reads d c is inside = rw (client_at d c inside) (reads client_name_of d.clients no_client c inside is.client_names)

pub item_reads : (d : Deployed) (x : ℕ) → IsDeployment d → x < length d.items → item_of d (item_name d x) ≡ Some x
unfolding item_of
item_reads d x is inside = rw (item_at d x inside) (reads item_name_of d.items no_item x inside is.item_names)

-- ---- names beside what they name

place_by : {X Y : Type 0} (f : X → Y) (p : X → Bool) (q : Y → Bool) → ((x : X) → p x ≡ q (f x)) → (xs : List X) → position_or_len p xs ≡ position_or_len q (map f xs)
place_by f p q same [] = refl
place_by f p q same (x ∷ xs) = ap (λ b. cond (not b) (1 + position_or_len p xs) 0) (same x) ∙ ap (λ n. cond (not (q (f x))) (1 + n) 0) (place_by f p q same xs)

pub position_by : {X Y : Type 0} (f : X → Y) (p : X → Bool) (q : Y → Bool) → ((x : X) → p x ≡ q (f x)) → (xs : List X) → position p xs ≡ position q (map f xs)
position_by f p q same xs = rw (place_by f p q same xs, length-map xs f) refl

pub any_by : {X Y : Type 0} (f : X → Y) (p : X → Bool) (q : Y → Bool) → ((x : X) → p x ≡ q (f x)) → (xs : List X) → list_any p xs ≡ list_any q (map f xs)
any_by f p q same [] = refl
any_by f p q same (x ∷ xs) = ap (λ b. b || list_any p xs) (same x) ∙ ap (λ b. q (f x) || b) (any_by f p q same xs)

pub bytes_turned : (a b : List ℕ) → bytes_eq a b ≡ bytes_eq b a
bytes_turned a b = same-test (bytes_eq a b) (bytes_eq b a) (λ h. let e = word_is a b h in subst (λ c. bytes_eq b c ≡ true) (sym e) (word_same b)) (λ h. let e = word_is b a h in subst (λ c. bytes_eq a c ≡ true) (sym e) (word_same a))

pub key_place : (keys : List (Vec ℕ)) (name : List ℕ) → position (λ key. bytes_eq name key.items) keys ≡ position (λ other. bytes_eq other name) (texts_of keys)
key_place keys name = position_by (λ key. key.items) (λ key. bytes_eq name key.items) (λ other. bytes_eq other name) (λ key. bytes_turned name key.items) keys

pub key_any : (keys : List (Vec ℕ)) (name : List ℕ) → list_any (λ key. bytes_eq name key.items) keys ≡ list_any (λ other. bytes_eq other name) (texts_of keys)
key_any keys name = any_by (λ key. key.items) (λ key. bytes_eq name key.items) (λ other. bytes_eq other name) (λ key. bytes_turned name key.items) keys

-- a new key goes last
pub key_pushed : (keys now : List (Vec ℕ)) (key : Vec ℕ) (name : List ℕ) → key.items ≡ name → list_any (λ other. bytes_eq other name) (texts_of keys) ≡ false → now ≡ cond (list_any (λ other. bytes_eq key.items other.items) keys) keys (keys ++ key ∷ []) → texts_of now ≡ texts_of keys ++ name ∷ []
key_pushed keys now key name is new e =
    let none : list_any (λ other. bytes_eq key.items other.items) keys ≡ false = ap (λ n. list_any (λ other. bytes_eq n other.items) keys) is ∙ key_any keys name ∙ new in
    ap texts_of (e ∙ ap (λ b. cond b keys (keys ++ key ∷ [])) none) ∙ map-append (λ key. key.items) keys (key ∷ []) ∙ ap (λ n. texts_of keys ++ n ∷ []) is

pub place_named : {X : Type 0} (f : X → List ℕ) (xs : List X) (names : List (List ℕ)) (name : List ℕ) → names ≡ map f xs → position (λ other. bytes_eq other name) names ≡ position (λ x. bytes_eq (f x) name) xs
place_named f xs names name e = ap (position (λ other. bytes_eq other name)) e ∙ sym (position_by f (λ x. bytes_eq (f x) name) (λ other. bytes_eq other name) (λ x. refl) xs)

pub any_named : {X : Type 0} (f : X → List ℕ) (xs : List X) (names : List (List ℕ)) (name : List ℕ) → names ≡ map f xs → list_any (λ other. bytes_eq other name) names ≡ list_any (λ x. bytes_eq (f x) name) xs
any_named f xs names name e = ap (list_any (λ other. bytes_eq other name)) e ∙ sym (any_by f (λ x. bytes_eq (f x) name) (λ other. bytes_eq other name) (λ x. refl) xs)
