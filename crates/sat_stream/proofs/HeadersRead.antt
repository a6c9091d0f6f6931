-- The spelling of a header's line is read as what it says.
use Rattle.std.proofs.Common.{◌≡◌, ℕ, ◌<◌, ◌≤◌, ◌^◌, true, false, eqb, ltb, List, [], ◌∷◌, length, map, filter, Some, None, Ok, sym, ap, ◌∙◌, refl, subst, arith}
use Rattle.std.specs.Str.{bytes_eq}
use Rattle.std.specs.Prelude.{Bool, codes}
use Rattle.std.specs.Fmt.{decimal}
use Rattle.std.specs.List.{list_all, join_with_byte}
use Rattle.std.proofs.lemmas.Bool.{and_from, and_parts, lt-ltb, ltb-true}
use Rattle.std.proofs.lemmas.Bool.Decides.{nat_tests}
use Rattle.std.proofs.lemmas.List.Elements.{filter_passes}
use Rattle.std.proofs.lemmas.List.Folds.{list_all-map}
use Rattle.std.proofs.lemmas.List.Splits.{slice_split_at, slice_split_none}
use Rattle.std.proofs.lemmas.List.Sums.{list_all-from_AllPass}
use Rattle.sat_label.specs.Text.{is_between}
use Rattle.sat_label.specs.Words.{bit, below}
use Rattle.sat_label.specs.declared.site_set.SiteSet.{SiteSet}
use Rattle.sat_act.specs.declared.deployment.Item.{Item}
use Rattle.sat_act.specs.declared.deployment.ClientLine.{ClientLine}
use Rattle.sat_act.specs.declared.deployment.Plan.{Plan}
use Rattle.sat_script.specs.Dialect.{is_audited, is_chained, is_lasting, is_live, has_form}
use Rattle.sat_script.specs.declared.dialect.Dialect.{Dialect}
use Rattle.sat_script.specs.declared.dialect.Dialect.TheVariants as dialect
use Rattle.sat_script.specs.Causes.{bar, has_room}
use Rattle.sat_script.specs.Grammar.{format_line, counted, of_count, sites_line, gears_line, item_line, client_line, begin_line, named_line, header_form, header_line}
use Rattle.sat_script.specs.Spelled.{item_words, client_words, sites_text}
use Rattle.sat_script.specs.State.{State, limits_at}
use Rattle.sat_script.specs.Words.{is_number, value_of, is_comma, parts_of, is_rising, are_rising, is_list, set_of, are_below, sites_among}
use Rattle.sat_script.specs.declared.form.Form.{Form}
use Rattle.sat_script.specs.declared.form.Form.TheVariants as form
use Rattle.sat_script.specs.declared.limits.TheConstants.{LAST_FORMAT, MOST_GEARS, MOST_PLANS, MOST_SITES}
use Rattle.sat_script.specs.declared.line.Parsed.TheVariants as parsed
use Rattle.sat_script.proofs.Bars.{bars_nothing}
use Rattle.sat_script.proofs.Digits.{decimal_number, decimal_between, below_reads, to_reads, all_small, numbers_back, values_back}
use Rattle.sat_script.proofs.Rising.{members_rise, members_under, members_are, members_set}
use Rattle.sat_script.proofs.Sites.{among}
use Rattle.sat_script.proofs.Stands.{ItemStands, ClientStands, limits_few}
use Rattle.sat_stream.proofs.Texts.{lacks}

-- ---- a list of sites

small_below : (limit : ℕ) (ns : List ℕ) → list_all (λ n. ltb n 64) ns ≡ true → list_all (λ n. ltb n limit) ns ≡ true → are_below limit (map decimal ns) ≡ true
small_below limit ns h k = sym (list_all-map (λ n. ltb n limit) value_of (map decimal ns)) ∙ ap (list_all (λ n. ltb n limit)) (values_back ns (all_small ns h)) ∙ k

no_comma : (x : ℕ) → is_between 48 57 x ≡ true → is_comma x ≡ false
no_comma x h = grind (arith, nat_tests)

parts_again : (ns : List ℕ) → list_all (λ n. ltb n 64) ns ≡ true → 0 < length ns → parts_of (join_with_byte 44 (map decimal ns)) ≡ map decimal ns
parts_again [] h some = absurd (omega arith)
parts_again (a ∷ []) h some =
    let less = ltb-true a 64 (and_parts (ltb a 64) true h).0 in
    slice_split_none is_comma (decimal a) (lacks is_comma (is_between 48 57) no_comma (decimal a) (decimal_between a (omega arith)))
parts_again (a ∷ b ∷ ns) h some =
    let c = and_parts (ltb a 64) (list_all (λ n. ltb n 64) (b ∷ ns)) h in
    let less = ltb-true a 64 c.0 in
    slice_split_at is_comma (decimal a) 44 (join_with_byte 44 (map decimal (b ∷ ns))) (lacks is_comma (is_between 48 57) no_comma (decimal a) (decimal_between a (omega arith))) refl
    ∙ ap (λ (ws : List (List ℕ)). decimal a ∷ ws) (parts_again (b ∷ ns) c.1 (omega arith))

has_member : (ns : List ℕ) (k : ℕ) → among ns k ≡ true → 0 < length ns
has_member [] k h = absurd (cc)
has_member (n ∷ ns) k h = omega arith

pub record IsSites (limit : ℕ) (set : SiteSet) : Type 0 where
  pub some : (k : ℕ) × (bit set.bits k ≡ true)
  pub inside : (k : ℕ) → bit set.bits k ≡ true → k < limit

rises : (parts : List (List ℕ)) → list_all is_number parts ≡ true → is_rising (map value_of parts) ≡ true → are_rising parts ≡ true
unfolding are_rising
rises parts a b = rw (a, b) refl

named : (limit : ℕ) (parts : List (List ℕ)) (set : SiteSet) → are_below limit parts ≡ true → set_of (map value_of parts) ≡ set.bits → sites_among limit parts ≡ Some set
unfolding sites_among
named limit parts set low whole = rw low (ap (λ (n : ℕ). Some (let s : SiteSet = record { bits = n } in s)) whole)

numbers_read : (limit : ℕ) (ns : List ℕ) (set : SiteSet) → list_all (λ n. ltb n 64) ns ≡ true → list_all (λ n. ltb n limit) ns ≡ true → is_rising ns ≡ true → 0 < length ns → set_of ns ≡ set.bits
    → (is_list (join_with_byte 44 (map decimal ns)) ≡ true) × (sites_among limit (parts_of (join_with_byte 44 (map decimal ns))) ≡ Some set)
numbers_read limit ns set small lt-ltb rising some whole =
    let parts = parts_again ns small some in
    let values = values_back ns (all_small ns small) in (
      ap are_rising parts ∙ rises (map decimal ns) (numbers_back ns (all_small ns small)) (ap is_rising values ∙ rising),
      ap (sites_among limit) parts ∙ named limit (map decimal ns) set (small_below limit ns small lt-ltb) (ap set_of values ∙ whole),
    )

members_read : (limit n : ℕ) (set : SiteSet) → n ≡ 64 → limit ≤ MOST_SITES → IsSites limit set
    → (is_list (join_with_byte 44 (map decimal (filter (bit set.bits) (below n)))) ≡ true) × (sites_among limit (parts_of (join_with_byte 44 (map decimal (filter (bit set.bits) (below n))))) ≡ Some set)
members_read limit n set e few is =
    let small : list_all (λ x. ltb x 64) (filter (bit set.bits) (below n)) ≡ true = subst (λ (m : ℕ). list_all (λ x. ltb x m) (filter (bit set.bits) (below n)) ≡ true) e (members_under (bit set.bits) n) in
    let first = is.inside is.some.0 is.some.1 in
    let member : among (filter (bit set.bits) (below n)) is.some.0 ≡ true = members_are (bit set.bits) n is.some.0 ∙ and_from (bit set.bits is.some.0) (ltb is.some.0 n) is.some.1 (lt-ltb is.some.0 n (omega arith)) in
    numbers_read limit (filter (bit set.bits) (below n)) set small
    (list_all-from_AllPass (λ x. ltb x limit) (filter (bit set.bits) (below n)) (λ k d inside. lt-ltb _ limit (is.inside _ (filter_passes (bit set.bits) (below n) k d inside))))
    (members_rise (bit set.bits) n) (has_member (filter (bit set.bits) (below n)) is.some.0 member) (members_set set.bits n (λ k h. let inside = is.inside k h in omega arith))

pub list_reads : (limit : ℕ) (set : SiteSet) → limit ≤ MOST_SITES → IsSites limit set → (is_list (sites_text set) ≡ true) × (sites_among limit (parts_of (sites_text set)) ≡ Some set)
unfolding sites_text
list_reads limit set few is = members_read limit 64 set refl few is

-- ---- the lines

pub format_reads : (f : ℕ) → 1 ≤ f → f ≤ LAST_FORMAT → format_line (codes "saturn" ∷ decimal f ∷ []) ≡ Ok (parsed.Format f)
unfolding format_line
format_reads f some few = rw (to_reads LAST_FORMAT f some few (omega arith)) refl

counted_reads : (keyword : List ℕ) (limit n : ℕ) → bytes_eq keyword keyword ≡ true → 1 ≤ n → n ≤ limit → limit < 2 ^ 16 → counted keyword limit keyword (decimal n) ≡ Ok n
unfolding counted
counted_reads keyword limit n same some few small = rw (to_reads limit n some few small, same, decimal_number n (omega arith)) refl

pub sites_reads : (s : State) (n : ℕ) → 1 ≤ n → n ≤ (limits_at s).sites → sites_line s (codes "sites" ∷ decimal n ∷ []) ≡ Ok (parsed.Sites n)
unfolding sites_line
sites_reads s n some few = let most = (limits_few s.dialect s.header.format).sites in ap (of_count parsed.Sites) (counted_reads (codes "sites") (limits_at s).sites n refl some few (omega arith))

pub gears_reads : (n : ℕ) → 1 ≤ n → n ≤ MOST_GEARS → gears_line (codes "gears" ∷ decimal n ∷ []) ≡ Ok (parsed.Gears n)
unfolding gears_line
gears_reads n some few = ap (of_count parsed.Gears) (counted_reads (codes "gears") MOST_GEARS n refl some few (omega arith))

-- the lines of the header that come any number of times
abbrev is_header : Form → Bool
is_header form.Item = true
is_header form.Client = true
is_header form.PlanStamp = true
is_header form.PlanTree = true
is_header _ = false

-- each dialect has the lines of the header
any_header : (dialect : Dialect) (f : Form) → is_header f ≡ true → has_form dialect f ≡ true
unfolding is_live
any_header dialect.Run f h = refl
any_header dialect.Live f h = each f h
  where
    each : (f : Form) → is_header f ≡ true → is_live f ≡ true
    each form.Item h = refl
    each form.Client h = refl
    each form.PlanStamp h = refl
    each form.PlanTree h = refl
    each _ h = absurd (cc)
any_header dialect.Audit f h = each f h
  where
    each : (f : Form) → is_header f ≡ true → is_audited f ≡ true
    each form.Settle h = absurd (cc)
    each _ h = refl
any_header dialect.Chain f h = each f h
  where
    each : (f : Form) → is_header f ≡ true → is_chained f ≡ true
    each form.Hop h = absurd (cc)
    each form.Kill h = absurd (cc)
    each form.Settle h = absurd (cc)
    each _ h = refl
any_header dialect.Lasting f h = each f h
  where
    each : (f : Form) → is_header f ≡ true → is_lasting f ≡ true
    each form.Clock h = absurd (cc)
    each form.Settle h = absurd (cc)
    each _ h = refl

item_free : (s : State) → length s.header.items < (limits_at s).items → bar s form.Item ≡ None
unfolding has_room
item_free s room = bars_nothing s form.Item (any_header s.dialect form.Item refl) (lt-ltb (length s.header.items) (limits_at s).items room)

client_free : (s : State) → length s.header.clients < (limits_at s).clients → bar s form.Client ≡ None
unfolding has_room
client_free s room = bars_nothing s form.Client (any_header s.dialect form.Client refl) (lt-ltb (length s.header.clients) (limits_at s).clients room)

pub tree_free : (s : State) → length s.header.plans < MOST_PLANS → bar s form.PlanTree ≡ None
unfolding has_room
tree_free s room = bars_nothing s form.PlanTree (any_header s.dialect form.PlanTree refl) (lt-ltb (length s.header.plans) MOST_PLANS room)

pub stamp_free : (s : State) → length s.header.plans < MOST_PLANS → bar s form.PlanStamp ≡ None
unfolding has_room
stamp_free s room = bars_nothing s form.PlanStamp (any_header s.dialect form.PlanStamp refl) (lt-ltb (length s.header.plans) MOST_PLANS room)

item_said : (s : State) (item : Item) → s.header.sites ≤ MOST_SITES → IsSites s.header.sites item.replicas → ItemStands s item → item_line s item.name (sites_text item.replicas) ≡ Ok (parsed.Item item)
unfolding item_line
item_said s item few sites st =
    let list = list_reads s.header.sites item.replicas few sites in
    let clients : eqb (length s.header.clients) 0 ≡ true = ap (λ (xs : List ClientLine). eqb (length xs) 0) st.clients in
    let plans : eqb (length s.header.plans) 0 ≡ true = ap (λ (xs : List Plan). eqb (length xs) 0) st.plans in
    rw (clients, plans, st.name, list.0, item_free s st.room, st.new, list.1) refl

pub item_reads : (s : State) (item : Item) → s.header.sites ≤ MOST_SITES → IsSites s.header.sites item.replicas → ItemStands s item → header_line s (item_words item) ≡ Ok (parsed.Item item)
unfolding header_line header_form named_line
item_reads s item few sites st = item_said s item few sites st

client_said : (s : State) (line : ClientLine) → s.header.sites ≤ MOST_SITES → ClientStands s line → client_line s line.name (decimal line.site) ≡ Ok (parsed.Client line)
unfolding client_line
client_said s line few st =
    let home = st.home in
    let plans : eqb (length s.header.plans) 0 ≡ true = ap (λ (xs : List Plan). eqb (length xs) 0) st.plans in
    rw (below_reads s.header.sites line.site st.home (omega arith), plans, st.name, decimal_number line.site (omega arith), client_free s st.room, st.new) refl

pub client_reads : (s : State) (line : ClientLine) → s.header.sites ≤ MOST_SITES → ClientStands s line → header_line s (client_words line) ≡ Ok (parsed.Client line)
unfolding header_line header_form named_line
client_reads s line few st = client_said s line few st

pub begin_reads : (s : State) → 0 < length s.header.plans → header_line s (codes "begin" ∷ []) ≡ Ok parsed.Begin
unfolding header_line header_form begin_line
begin_reads s some = let other : eqb (length s.header.plans) 0 ≡ false = grind (arith, nat_tests) in rw other refl
