-- A good word is read once: what it says tells the rest of its shape, and that the header has its name.
use Rattle.std.proofs.Common.{◌≡◌, ℕ, ◌^◌, ◌-◌, Bool, true, false, ◌&&◌, ◌||◌, cond, eqb, ltb, leb, List, [], ◌∷◌, ◌++◌, length, Option, Some, None, Result, Ok, is_some, sym, ap, ◌∙◌, refl}
use Rattle.std.specs.Option.{option_map}
use Rattle.std.proofs.lemmas.Bool.{and_from, and_parts}
use Rattle.std.proofs.lemmas.List.{append-nil, append_assoc}
use Rattle.sat_label.specs.Text.{is_name, is_value}
use Rattle.sat_label.specs.declared.node.NodeId.{NodeId}
use Rattle.sat_label.specs.declared.node.NodeId.TheVariants.{Site, Serializer}
use Rattle.sat_tree.specs.Shape.{TreeShape}
use Rattle.sat_act.specs.Deployed.{Deployed}
use Rattle.sat_act.specs.Parts.{tree_of}
use Rattle.sat_act.specs.declared.act.Act.{Act}
use Rattle.sat_script.specs.Causes.{bar, given, client_of, item_of}
use Rattle.sat_script.specs.Dialect.{allows}
use Rattle.sat_script.specs.Grammar.{is_end, of_act, body_line}
use Rattle.sat_script.specs.Said.{begins, IsReadWord, AreRead}
use Rattle.sat_script.specs.Table.{Said, place, num, bytes, at, shape, known, says, shapes, all_known, all_say, in_tree, onto, no_tree, kinds_of, act_forms, found_form, said_act, form_line, act_line}
use Rattle.sat_script.specs.Spelled.{HaveNames}
use Rattle.sat_script.specs.State.{State}
use Rattle.sat_script.specs.Words.{is_number, is_node, is_serializer, value_of, number_below, number_to, number_up_to, node_in, serializer_in}
use Rattle.sat_script.specs.declared.fault.Cause.{Cause}
use Rattle.sat_script.specs.declared.fault.Cause.TheVariants.{OutOfRange, NoEdge}
use Rattle.sat_script.specs.declared.form.Form.{Form}
use Rattle.sat_script.specs.declared.form.Kind.{Kind}
use Rattle.sat_script.specs.declared.form.Kind.TheVariants as kind
use Rattle.sat_script.specs.declared.line.Parsed.TheVariants as parsed
use Rattle.sat_script.proofs.Acts.{mapped}
use Rattle.sat_script.proofs.ActsRead.{token, named_client, named_item}
use Rattle.sat_script.proofs.Choices.{tested}
use Rattle.sat_script.proofs.Lookup.{client_is, item_is}

-- ---- a word

below_told : (limit : ℕ) (word : List ℕ) (n : ℕ) → number_below limit word ≡ Some n → is_number word ≡ true
unfolding number_below
below_told limit word n h = (and_parts (is_number word) (ltb (value_of word) limit) (tested (is_number word && ltb (value_of word) limit) (value_of word) n h).0).0

to_told : (limit : ℕ) (word : List ℕ) (n : ℕ) → number_to limit word ≡ Some n → is_number word ≡ true
unfolding number_to
to_told limit word n h = (and_parts (is_number word) (ltb 0 (value_of word) && leb (value_of word) limit) (tested (is_number word && (ltb 0 (value_of word) && leb (value_of word) limit)) (value_of word) n h).0).0

up_to_told : (limit : ℕ) (word : List ℕ) (n : ℕ) → number_up_to limit word ≡ Some n → is_number word ≡ true
unfolding number_up_to
up_to_told limit word n h = (and_parts (is_number word) (leb (value_of word) limit) (tested (is_number word && leb (value_of word) limit) (value_of word) n h).0).0

node_told : (t : TreeShape) (word : List ℕ) (u : NodeId) → begins kind.Node word ≡ true → node_in t word ≡ Some u → is_node word ≡ true
unfolding node_in is_node
node_told t [] u b h = absurd (cc)
node_told t (byte ∷ number) u b h = and_from (eqb byte 115 || eqb byte 122) (is_number number) b (go (eqb byte 115) h)
  where
    go : (c : Bool) → cond c (option_map Site (number_below (length t.seats) number)) (option_map Serializer (number_below (length t.parents) number)) ≡ Some u → is_number number ≡ true
    go true h = let m = mapped Site (number_below (length t.seats) number) u h in below_told (length t.seats) number m.0 m.1
    go false h = let m = mapped Serializer (number_below (length t.parents) number) u h in below_told (length t.parents) number m.0 m.1

serializer_told : (t : TreeShape) (word : List ℕ) (z : ℕ) → begins kind.Serializer word ≡ true → serializer_in t word ≡ Some z → is_serializer word ≡ true
unfolding serializer_in is_serializer
serializer_told t [] z b h = absurd (cc)
serializer_told t (byte ∷ number) z b h = and_from (eqb byte 122) (is_number number) b (below_told (length t.parents) number z h)

client_told : (d : Deployed) (word : List ℕ) (c : ℕ) → HaveNames d → client_of d word ≡ Some c → is_name word ≡ true
client_told d word c names h = let found = client_is d word c h in ap is_name (sym found.1) ∙ named_client d c names found.0

item_told : (d : Deployed) (word : List ℕ) (x : ℕ) → HaveNames d → item_of d word ≡ Some x → is_name word ≡ true
item_told d word x names h = let found = item_is d word x h in ap is_name (sym found.1) ∙ named_item d x names found.0

-- a word that begins well and says something has its shape, and the header has its name
pub word_told : (d : Deployed) (t : TreeShape) (k : Kind) (word : List ℕ) (a : Said) → HaveNames d → begins k word ≡ true → says d t k word ≡ Some a → (shape k word ≡ true) × (known d k word ≡ true)
word_told d t kind.Client word a names b h = let m = mapped place (client_of d word) a h in (client_told d word m.0 names m.1, ap is_some m.1)
word_told d t kind.Item word a names b h = let m = mapped place (item_of d word) a h in (item_told d word m.0 names m.1, ap is_some m.1)
word_told d t kind.Value word a names b h = (token word (tested (is_value word) (bytes word) a h).0, refl)
word_told d t kind.Site word a names b h = let m = mapped place (number_below d.sites word) a h in (below_told d.sites word m.0 m.1, refl)
word_told d t kind.Gear word a names b h = let m = mapped place (number_below d.gears word) a h in (below_told d.gears word m.0 m.1, refl)
word_told d t kind.Ts word a names b h = let m = mapped num (number_up_to (2 ^ 62) word) a h in (up_to_told (2 ^ 62) word m.0 m.1, refl)
word_told d t kind.Count word a names b h = let m = mapped num (number_up_to (2 ^ 64 - 1) word) a h in (up_to_told (2 ^ 64 - 1) word m.0 m.1, refl)
word_told d t kind.Epoch word a names b h = let m = mapped place (number_to (length d.plans) word) a h in (to_told (length d.plans) word m.0 m.1, refl)
word_told d t kind.Node word a names b h = let m = mapped at (node_in t word) a h in (node_told t word m.0 b m.1, refl)
word_told d t kind.Serializer word a names b h = let m = mapped place (serializer_in t word) a h in (serializer_told t word m.0 b m.1, refl)

-- the nodes after an epoch stand in its tree, and the others where they stood
pub epoch_read : (d : Deployed) (t u : TreeShape) (word : List ℕ) (e : ℕ) → says d t kind.Epoch word ≡ Some (place e) → tree_of d e ≡ Some u → IsReadWord d t kind.Epoch word (place e) u
epoch_read d t u word e h tree =
    let m = mapped place (number_to (length d.plans) word) (place e) h in
    record { shaped = to_told (length d.plans) word m.0 m.1; named = refl; said = h; goes = λ next. ap (λ (o : Option TreeShape). given NoEdge o next) tree }

pub word_read : (d : Deployed) (t : TreeShape) (k : Kind) (word : List ℕ) (a : Said) → HaveNames d → (k ≡ kind.Epoch → ⊥) → begins k word ≡ true → says d t k word ≡ Some a → IsReadWord d t k word a t
word_read d t k word a names other b h =
    let is = word_told d t k word a names b h in
    record { shaped = is.0; named = is.1; said = h; goes = stays k other }
  where
    stays : (k : Kind) → (k ≡ kind.Epoch → ⊥) → (next : TreeShape → Result (List Said) Cause) → in_tree d k t a next ≡ next t
    stays kind.Epoch other next = absurd (other refl)
    stays _ other next = refl

-- ---- words, one after another

-- what words say, where so much was said and these words are left
pub record Goes (d : Deployed) (all : List Kind) (words : List (List ℕ)) (xs : List Said) (t : TreeShape) (ks : List Kind) (ws : List (List ℕ)) : Type 0 where
  pub shaped : shapes ks ws ≡ true → shapes all words ≡ true
  pub named : all_known d ks ws ≡ true → all_known d all words ≡ true
  pub said : (more : List Said) → all_say d t ks ws ≡ Ok more → all_say d no_tree all words ≡ Ok (xs ++ more)

pub goes_more : (d : Deployed) (all : List Kind) (words : List (List ℕ)) (xs : List Said) (t u : TreeShape) (k : Kind) (ks : List Kind) (w : List ℕ) (ws : List (List ℕ)) (a : Said)
    → Goes d all words xs t (k ∷ ks) (w ∷ ws) → IsReadWord d t k w a u → Goes d all words (xs ++ a ∷ []) u ks ws
goes_more d all words xs t u k ks w ws a g r = record {
  shaped = λ h. g.shaped (and_from (shape k w) (shapes ks ws) r.shaped h);
  named = λ h. g.named (and_from (known d k w) (all_known d ks ws) r.named h);
  said = λ more h.
      g.said (a ∷ more) (ap (λ (o : Option Said). given OutOfRange o (λ a. in_tree d k t a (λ u. onto a (all_say d u ks ws)))) r.said ∙ r.goes (λ u. onto a (all_say d u ks ws)) ∙ ap (onto a) h)
      ∙ ap (λ (zs : List Said). let done : Result (List Said) Cause = Ok zs in done) (sym (append_assoc xs (a ∷ []) more));
}

pub goes_end : (d : Deployed) (all : List Kind) (words : List (List ℕ)) (xs : List Said) (t : TreeShape) → Goes d all words xs t [] [] → AreRead d all words xs
goes_end d all words xs t g = record {
  shaped = g.shaped refl;
  named = g.named refl;
  said = g.said [] refl ∙ ap (λ (zs : List Said). let done : Result (List Said) Cause = Ok zs in done) (append-nil xs);
}

-- ---- a line

pub read_line : (bars : Form → Option Cause) (d : Deployed) (f : Form) (words : List (List ℕ)) (xs : List Said) → allows d.format f ≡ true → bars f ≡ None → AreRead d (kinds_of f) words xs → form_line bars d f words ≡ said_act d f (Ok xs)
unfolding form_line
read_line bars d f words xs allowed free r = rw (allowed, r.shaped, free, r.named, r.said) refl

-- a line whose word has a form, which may stand, and whose words are read
pub good_line : (s : State) (f : Form) (word : List ℕ) (words : List (List ℕ)) (xs : List Said) (a : Act) → is_end (word ∷ words) ≡ false → found_form word (length words) act_forms ≡ Some f → allows s.header.format f ≡ true → bar s f ≡ None
    → AreRead s.header (kinds_of f) words xs → said_act s.header f (Ok xs) ≡ Ok a → body_line s (word ∷ words) ≡ Ok (parsed.Act a)
unfolding body_line act_line
good_line s f word words xs a going found allowed free read said = rw (going, found) (ap of_act (read_line (bar s) s.header f words xs allowed free read ∙ said))

-- ---- a line whose act is made as its words are read

pub site_read : (d : Deployed) (t : TreeShape) (word : List ℕ) (limit n : ℕ) → limit ≡ d.sites → Some n ≡ number_below limit word → IsReadWord d t kind.Site word (place n) t
site_read d t word limit n is h =
    let told : number_below d.sites word ≡ Some n = ap (λ (limit : ℕ). number_below limit word) (sym is) ∙ sym h in
    record { shaped = below_told d.sites word n told; named = refl; said = ap (option_map place) told; goes = λ next. refl }

pub gear_read : (d : Deployed) (t : TreeShape) (word : List ℕ) (limit n : ℕ) → limit ≡ d.gears → Some n ≡ number_below limit word → IsReadWord d t kind.Gear word (place n) t
gear_read d t word limit n is h =
    let told : number_below d.gears word ≡ Some n = ap (λ (limit : ℕ). number_below limit word) (sym is) ∙ sym h in
    record { shaped = below_told d.gears word n told; named = refl; said = ap (option_map place) told; goes = λ next. refl }

pub ts_read : (d : Deployed) (t : TreeShape) (word : List ℕ) (n : ℕ) → Some n ≡ number_up_to (2 ^ 62) word → IsReadWord d t kind.Ts word (num n) t
ts_read d t word n h = record { shaped = up_to_told (2 ^ 62) word n (sym h); named = refl; said = ap (option_map num) (sym h); goes = λ next. refl }

pub number_read : (d : Deployed) (t : TreeShape) (word : List ℕ) (n : ℕ) → Some n ≡ number_up_to (2 ^ 64 - 1) word → IsReadWord d t kind.Count word (num n) t
number_read d t word n h = record { shaped = up_to_told (2 ^ 64 - 1) word n (sym h); named = refl; said = ap (option_map num) (sym h); goes = λ next. refl }

pub node_read : (d : Deployed) (t : TreeShape) (word : List ℕ) (u : NodeId) → true ≡ begins kind.Node word → Some u ≡ node_in t word → IsReadWord d t kind.Node word (at u) t
node_read d t word u b h = record { shaped = node_told t word u (sym b) (sym h); named = refl; said = ap (option_map at) (sym h); goes = λ next. refl }

pub serializer_read : (d : Deployed) (t : TreeShape) (word : List ℕ) (z : ℕ) → true ≡ begins kind.Serializer word → Some z ≡ serializer_in t word → IsReadWord d t kind.Serializer word (place z) t
serializer_read d t word z b h = record { shaped = serializer_told t word z (sym b) (sym h); named = refl; said = ap (option_map place) (sym h); goes = λ next. refl }

goes_start : (d : Deployed) (all : List Kind) (words : List (List ℕ)) → Goes d all words [] no_tree all words
goes_start d all words = record { shaped = λ h. h; named = λ h. h; said = λ more h. h }

pub one_read : (d : Deployed) (t : TreeShape) (k : Kind) (w : List ℕ) (a : Said) → IsReadWord d no_tree k w a t → AreRead d (k ∷ []) (w ∷ []) (a ∷ [])
one_read d t k w a r = goes_end d (k ∷ []) (w ∷ []) (a ∷ []) t (goes_more d (k ∷ []) (w ∷ []) [] no_tree t k [] w [] a (goes_start d (k ∷ []) (w ∷ [])) r)

pub two_read : (d : Deployed) (t u : TreeShape) (k l : Kind) (w x : List ℕ) (a b : Said) → IsReadWord d no_tree k w a t → IsReadWord d t l x b u → AreRead d (k ∷ l ∷ []) (w ∷ x ∷ []) (a ∷ b ∷ [])
two_read d t u k l w x a b first second =
    let ks = k ∷ l ∷ [] in
    let ws = w ∷ x ∷ [] in
    goes_end d ks ws (a ∷ b ∷ []) u (goes_more d ks ws (a ∷ []) t u l [] x [] b (goes_more d ks ws [] no_tree t k (l ∷ []) w (x ∷ []) a (goes_start d ks ws) first) second)

pub three_read : (d : Deployed) (t u v : TreeShape) (k l m : Kind) (w x y : List ℕ) (a b c : Said) → IsReadWord d no_tree k w a t → IsReadWord d t l x b u → IsReadWord d u m y c v → AreRead d (k ∷ l ∷ m ∷ []) (w ∷ x ∷ y ∷ []) (a ∷ b ∷ c ∷ [])
three_read d t u v k l m w x y a b c first second third =
    let ks = k ∷ l ∷ m ∷ [] in
    let ws = w ∷ x ∷ y ∷ [] in
    goes_end d ks ws (a ∷ b ∷ c ∷ []) v
    (goes_more d ks ws (a ∷ b ∷ []) u v m [] y [] c
    (goes_more d ks ws (a ∷ []) t u l (m ∷ []) x (y ∷ []) b (goes_more d ks ws [] no_tree t k (l ∷ m ∷ []) w (x ∷ y ∷ []) a (goes_start d ks ws) first) second) third)

pub four_read : (d : Deployed) (t u v o : TreeShape) (k l m n : Kind) (w x y z : List ℕ) (a b c e : Said) → IsReadWord d no_tree k w a t → IsReadWord d t l x b u → IsReadWord d u m y c v → IsReadWord d v n z e o
    → AreRead d (k ∷ l ∷ m ∷ n ∷ []) (w ∷ x ∷ y ∷ z ∷ []) (a ∷ b ∷ c ∷ e ∷ [])
four_read d t u v o k l m n w x y z a b c e first second third fourth =
    let ks = k ∷ l ∷ m ∷ n ∷ [] in
    let ws = w ∷ x ∷ y ∷ z ∷ [] in
    goes_end d ks ws (a ∷ b ∷ c ∷ e ∷ []) o
    (goes_more d ks ws (a ∷ b ∷ c ∷ []) v o n [] z [] e
    (goes_more d ks ws (a ∷ b ∷ []) u v m (n ∷ []) y (z ∷ []) c
    (goes_more d ks ws (a ∷ []) t u l (m ∷ n ∷ []) x (y ∷ z ∷ []) b (goes_more d ks ws [] no_tree t k (l ∷ m ∷ n ∷ []) w (x ∷ y ∷ z ∷ []) a (goes_start d ks ws) first) second) third) fourth)
