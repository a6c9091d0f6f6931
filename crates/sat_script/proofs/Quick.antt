-- Acts that are made as their words are read.
use Rattle.std.proofs.Common.{◌≡◌, ℕ, ◌<◌, ◌≤◌, Bool, true, false, cond, eqb, ltb, List, [], ◌∷◌, length, Option, Some, None, Ok, sym, ap, ◌∙◌, refl, arith}
use lib.Pointwise.{pointwise, bytes_decides}
use Rattle.std.specs.Option.{option_map}
use Rattle.std.specs.Prelude.{IfSome, not}
use Rattle.std.specs.List.{list_all}
use Rattle.std.proofs.lemmas.Bool.{and_parts, false_from_ne_true, eqb-true, lt-ltb}
use Rattle.std.proofs.lemmas.Bool.Decides.{nat_tests}
use Rattle.sat_label.specs.Text.{is_value, is_between}
use Rattle.sat_label.specs.declared.node.NodeId.{NodeId}
use Rattle.sat_label.specs.declared.node.NodeId.TheVariants.{Site, Serializer}
use Rattle.sat_tree.specs.Shape.{TreeShape}
use Rattle.sat_tree.specs.Cut.{IsNode, is_edge}
use Rattle.sat_act.specs.Deployed.{Deployed}
use Rattle.sat_act.specs.Parts.{tree_of}
use Rattle.sat_act.specs.declared.act.Act.{Act}
use Rattle.sat_act.specs.declared.act.Act.TheVariants as act
use Rattle.sat_script.specs.Causes.{client_of, item_of}
use Rattle.sat_script.specs.Dialect.{has_form}
use Rattle.sat_script.specs.Grammar.{line_at, words_line}
use Rattle.sat_script.specs.Said.{IsReadWord, SaysAct, TakesActs, is_counted}
use Rattle.sat_script.specs.Table.{Said, place, bytes, no_tree, kinds_of, act_forms, act_of, found_form, args_of, unfit, has_node, edge_cause}
use Rattle.sat_script.specs.Spelled.{HaveNames}
use Rattle.sat_script.specs.State.{State}
use Rattle.sat_script.specs.Words.{number_below, is_text, words_of}
use Rattle.sat_script.specs.declared.fault.Cause.TheVariants.{OutOfRange}
use Rattle.sat_script.specs.declared.form.Form.{Form}
use Rattle.sat_script.specs.declared.form.Form.TheVariants as form
use Rattle.sat_script.specs.declared.form.Kind.{Kind}
use Rattle.sat_script.specs.declared.form.Kind.TheVariants as kind
use Rattle.sat_script.specs.declared.limits.TheConstants.{LONGEST_LINE}
use Rattle.sat_script.specs.declared.line.Parsed.TheVariants as parsed
use Rattle.sat_script.proofs.ActsRead.{token}
use Rattle.sat_script.proofs.AreText.{said_text}
use Rattle.sat_script.proofs.Cuts.{split_uncut, seen_none}
use Rattle.sat_script.proofs.Groups.{counted_allowed}
use Rattle.sat_script.proofs.Once.{site_read, gear_read, word_read, one_read, two_read, three_read, four_read, good_line}

-- ---- a word

pub site_at : (d : Deployed) (word : List ℕ) (limit : ℕ) (o : Option ℕ) → limit ≡ d.sites → o ≡ number_below limit word → IfSome o (λ n. (t : TreeShape) → IsReadWord d t kind.Site word (place n) t)
site_at d word limit None is h = tt
site_at d word limit (Some n) is h = λ t. site_read d t word limit n is h

pub gear_at : (d : Deployed) (word : List ℕ) (limit : ℕ) (o : Option ℕ) → limit ≡ d.gears → o ≡ number_below limit word → IfSome o (λ n. (t : TreeShape) → IsReadWord d t kind.Gear word (place n) t)
gear_at d word limit None is h = tt
gear_at d word limit (Some n) is h = λ t. gear_read d t word limit n is h

pub client_at : (d : Deployed) (word : List ℕ) (o : Option ℕ) → HaveNames d → o ≡ client_of d word → IfSome o (λ n. (t : TreeShape) → IsReadWord d t kind.Client word (place n) t)
client_at d word None names h = tt
client_at d word (Some n) names h = λ t. word_read d t kind.Client word (place n) names (λ e. absurd (cc)) refl (ap (option_map place) (sym h))

pub item_at : (d : Deployed) (word : List ℕ) (o : Option ℕ) → HaveNames d → o ≡ item_of d word → IfSome o (λ n. (t : TreeShape) → IsReadWord d t kind.Item word (place n) t)
item_at d word None names h = tt
item_at d word (Some n) names h = λ t. word_read d t kind.Item word (place n) names (λ e. absurd (cc)) refl (ap (option_map place) (sym h))

pub value_at : (d : Deployed) (t : TreeShape) (word v : List ℕ) → HaveNames d → (v ≡ word) × (is_value word ≡ true) → IsReadWord d t kind.Value word (bytes v) t
value_at d t word v names h = rw (h.0) (word_read d t kind.Value word (bytes word) names (λ e. absurd (cc)) refl (ap (λ (b : Bool). cond b (Some (bytes word)) None) h.1))

pub writes : (c x : ℕ) (word v : List ℕ) → (v ≡ word) × (is_value word ≡ true) → act_of form.Write (args_of (act.Write c x v)) ≡ Some (act.Write c x v)
writes c x word v h = ap (λ (b : Bool). cond b (Some (act.Write c x v)) None) (ap is_value h.0 ∙ h.1)

-- ---- an act

pub one_say : (hops : Bool) (d : Deployed) (t : TreeShape) (word x : List ℕ) (f : Form) (k : Kind) (a : Said) (y : Act) → found_form word 1 act_forms ≡ Some f → is_counted hops f ≡ true → kinds_of f ≡ k ∷ [] → args_of y ≡ a ∷ [] → act_of f (args_of y) ≡ Some y → unfit d y ≡ None
    → IsReadWord d no_tree k x a t → SaysAct hops d word (x ∷ []) y
one_say hops d t word x f k a y found counted kinds args says fits first = record {
  form = f;
  found = found;
  counted = counted;
  reads = record { read = rw (kinds, args) (one_read d t k x a first); act = says };
  fits = fits;
}

pub two_say : (hops : Bool) (d : Deployed) (t u : TreeShape) (word w x : List ℕ) (f : Form) (k l : Kind) (a b : Said) (y : Act) → found_form word 2 act_forms ≡ Some f → is_counted hops f ≡ true → kinds_of f ≡ k ∷ l ∷ [] → args_of y ≡ a ∷ b ∷ [] → act_of f (args_of y) ≡ Some y
    → unfit d y ≡ None → IsReadWord d no_tree k w a t → IsReadWord d t l x b u → SaysAct hops d word (w ∷ x ∷ []) y
two_say hops d t u word w x f k l a b y found counted kinds args says fits first second = record {
  form = f;
  found = found;
  counted = counted;
  reads = record { read = rw (kinds, args) (two_read d t u k l w x a b first second); act = says };
  fits = fits;
}

pub three_say : (hops : Bool) (d : Deployed) (t u v : TreeShape) (word w x z : List ℕ) (f : Form) (k l m : Kind) (a b c : Said) (y : Act) → found_form word 3 act_forms ≡ Some f → is_counted hops f ≡ true → kinds_of f ≡ k ∷ l ∷ m ∷ [] → args_of y ≡ a ∷ b ∷ c ∷ [] → act_of f (args_of y) ≡ Some y
    → unfit d y ≡ None → IsReadWord d no_tree k w a t → IsReadWord d t l x b u → IsReadWord d u m z c v → SaysAct hops d word (w ∷ x ∷ z ∷ []) y
three_say hops d t u v word w x z f k l m a b c y found counted kinds args says fits first second third = record {
  form = f;
  found = found;
  counted = counted;
  reads = record { read = rw (kinds, args) (three_read d t u v k l m w x z a b c first second third); act = says };
  fits = fits;
}

pub four_say : (hops : Bool) (d : Deployed) (t u v o : TreeShape) (word w x z q : List ℕ) (f : Form) (k l m n : Kind) (a b c e : Said) (y : Act) → found_form word 4 act_forms ≡ Some f → is_counted hops f ≡ true → kinds_of f ≡ k ∷ l ∷ m ∷ n ∷ [] → args_of y ≡ a ∷ b ∷ c ∷ e ∷ []
    → act_of f (args_of y) ≡ Some y → unfit d y ≡ None → IsReadWord d no_tree k w a t → IsReadWord d t l x b u → IsReadWord d u m z c v → IsReadWord d v n q e o → SaysAct hops d word (w ∷ x ∷ z ∷ q ∷ []) y
four_say hops d t u v o word w x z q f k l m n a b c e y found counted kinds args says fits first second third fourth = record {
  form = f;
  found = found;
  counted = counted;
  reads = record { read = rw (kinds, args) (four_read d t u v o k l m n w x z q a b c e first second third fourth); act = says };
  fits = fits;
}

-- two sites that are apart
pub apart : (i j : ℕ) → (i ≡ j → ⊥) → cond (eqb i j) (Some OutOfRange) None ≡ None
apart i j other = ap (λ (b : Bool). cond b (Some OutOfRange) None) (false_from_ne_true (eqb i j) (λ t. other (eqb-true i j t)))

-- two nodes of an epoch's tree that are neighbours
is_there : (t : TreeShape) (u : NodeId) → IsNode t u → has_node t u ≡ true
is_there t (Site i) h = lt-ltb i (length t.seats) h
is_there t (Serializer z) h = lt-ltb z (length t.parents) h

pub edge_fits : (d : Deployed) (t : TreeShape) (e : ℕ) (u : NodeId) (z : ℕ) → tree_of d e ≡ Some t → IsNode t u → z < length t.parents → is_edge t u (Serializer z) ≡ true → edge_cause (tree_of d e) u z ≡ None
edge_fits d t e u z tree from to edge = ap (λ (o : Option TreeShape). edge_cause o u z) tree ∙ rw (is_there t u from, lt-ltb z (length t.parents) to, edge) refl

-- an act of a form whose only word is a site
pub site_say : (hops : Bool) (d : Deployed) (word w : List ℕ) (f : Form) (site : ℕ) (o : Option Act) → found_form word 1 act_forms ≡ Some f → IsReadWord d no_tree kind.Site w (place site) no_tree
    → IfSome o (λ a. (kinds_of f ≡ kind.Site ∷ []) × (args_of a ≡ place site ∷ []) × (act_of f (args_of a) ≡ Some a) × ((hops : Bool) → is_counted hops f ≡ true) × ((d : Deployed) → unfit d a ≡ None)) → IfSome o (λ a. SaysAct hops d word (w ∷ []) a)
site_say hops d word w f site None found r h = tt
site_say hops d word w f site (Some a) found r h = one_say hops d no_tree word w f kind.Site (place site) a found (h.3 hops) h.0 h.1 h.2 (h.4 d) r

-- ---- a line

pub line_said : (s : State) (line word w : List ℕ) (ws : List (List ℕ)) (o : Option Act) → TakesActs s → length line ≤ LONGEST_LINE → words_of line ≡ word ∷ w ∷ ws → IfSome o (λ a. SaysAct (has_form s.dialect form.Hop) s.header word (w ∷ ws) a)
    → IfSome o (λ a. line_at s line ≡ Ok (parsed.Act a))
unfolding line_at words_line
line_said s line word w ws None takes short words h = tt
line_said s line word w ws (Some a) takes short words h =
    let text : is_text line ≡ true = said_text line word (w ∷ ws) (length (w ∷ ws)) h.form words h.found h.reads.read.shaped in
    let fits : ltb LONGEST_LINE (length line) ≡ false = grind (arith, nat_tests) in
    rw (takes.body, fits, text, words) (good_line s h.form word (w ∷ ws) (args_of a) a refl h.found (counted_allowed (has_form s.dialect form.Hop) s.header.format h.form h.counted) (takes.free h.form h.counted) h.reads.read (rw (h.reads.act, h.fits) refl))

-- ---- a line whose last word may be long

-- a word that is another
pub same_word : (w x : List ℕ) (other : Bool) → other ≡ not (pointwise eqb w x) → other ≡ false → w ≡ x
same_word w x other is h = (bytes_decides w x).0 (turned (pointwise eqb w x) (sym is ∙ h))
  where
    turned : (b : Bool) → not b ≡ false → b ≡ true
    turned true h = refl
    turned false h = absurd (cc)

-- a value has no blank
pub value_whole : (value : List ℕ) → is_value value ≡ true → words_of value ≡ value ∷ []
value_whole value h = split_uncut 32 value (seen_none value (and_parts (ltb 0 (length value)) (list_all (is_between 33 126) value) (token value h)).1)

pub long_said : (s : State) (line word one two last : List ℕ) (o : Option Act) → TakesActs s → length line ≤ LONGEST_LINE → words_of line ≡ word ∷ one ∷ two ∷ words_of last
    → IfSome o (λ a. SaysAct (has_form s.dialect form.Hop) s.header word (one ∷ two ∷ last ∷ []) a × (words_of last ≡ last ∷ [])) → IfSome o (λ a. line_at s line ≡ Ok (parsed.Act a))
long_said s line word one two last None takes short words h = tt
long_said s line word one two last (Some a) takes short words h =
    line_said s line word one (two ∷ last ∷ []) (Some a) takes short (words ∙ ap (λ (ws : List (List ℕ)). word ∷ one ∷ two ∷ ws) h.1) h.0
