-- What good lines keep.
use Rattle.std.proofs.Common.{◌≡◌, ℕ, zero, suc, ◌+◌, ◌<◌, ◌≤◌, Bool, true, false, not, ◌&&◌, cond, eqb, ltb, leb, List, [], ◌∷◌, ◌++◌, length, take, Option, Some, None, Result, Ok, Err, sym, ap, ◌∙◌, refl, subst, arith}
use Rattle.std.specs.List.{slice_get, list_any, AllByRecursion}
use Rattle.std.specs.Str.{bytes_eq}
use Rattle.std.specs.Prelude.{codes}
use Rattle.std.proofs.lemmas.List.{length-append, take-append-le}
use Rattle.std.proofs.Math.Seq.{take-append_seam}
use Rattle.std.proofs.lemmas.Bool.Decides.{nat_tests}
use Rattle.std.proofs.lemmas.Bool.{and_from, le-leb, lt-ltb}
use Rattle.sat_label.specs.Text.{is_name}
use Rattle.sat_label.specs.Formats.{is_format, limits_of as format_limits}
use Rattle.sat_label.specs.Words.{are_sites, first_failing}
use Rattle.sat_label.proofs.Formats.{sites_within}
use Rattle.sat_label.proofs.First.{first_more, first_none, first_start}
use Rattle.sat_label.proofs.Numbers.{get-front}
use Rattle.sat_tree.specs.Shape.{TreeShape}
use Rattle.sat_tree.specs.Flaw.{IsSmallTree}
use Rattle.sat_act.specs.Deployed.{Deployed}
use Rattle.sat_act.specs.Flaw.{flaw, wrong_size, is_within, item_fits, client_fits, plan_fits}
use Rattle.sat_act.specs.Limits.{IsDeployment, HaveTrees}
use Rattle.sat_act.proofs.Sound.{sound}
use Rattle.sat_act.specs.declared.act.Act.{Act}
use Rattle.sat_act.specs.declared.deployment.Item.{Item}
use Rattle.sat_act.specs.declared.deployment.ClientLine.{ClientLine}
use Rattle.sat_act.specs.declared.deployment.Plan.{Plan}
use Rattle.sat_act.specs.declared.deployment.Plan.TheVariants as plan
use Rattle.sat_script.specs.Grammar.{is_end, is_ended, body_line, words_line, line_at, after, next_stage, with_parsed, with_act, with_settle}
use Rattle.sat_script.specs.Causes.{bar, has_client, has_item}
use Rattle.sat_script.specs.Table.{act_line}
use Rattle.sat_script.specs.Grammar.{of_act}
use Rattle.sat_script.specs.declared.dialect.Dialect.{Dialect}
use Rattle.sat_script.specs.declared.dialect.Dialect.TheVariants as dialect
use Rattle.sat_script.specs.declared.fault.Cause.{Cause}
use Rattle.sat_script.specs.Kept.{IsSited, IsOpened, IsWhole, HasHeader, HasActs, IsFit, Suits}
use Rattle.sat_script.specs.Dialect.{limits_of}
use Rattle.sat_script.specs.Spelled.{HaveNames}
use Rattle.sat_script.specs.State.{State, start, no_header, limits_at}
use Rattle.sat_script.specs.Words.{words_of, is_text}
use Rattle.sat_script.specs.declared.limits.TheConstants.{LONGEST_LINE, LAST_FORMAT, MOST_GEARS, MOST_PLANS, MOST_SITES}
use Rattle.sat_script.specs.declared.line.Parsed.{Parsed}
use Rattle.sat_script.specs.declared.line.Parsed.TheVariants as parsed
use Rattle.sat_script.specs.declared.line.Stage.{Stage}
use Rattle.sat_script.specs.declared.line.Stage.TheVariants as stage
use Rattle.sat_script.proofs.Acts.{acts_spelled, form_stands, act_room, settle_room}
use Rattle.sat_script.proofs.Choices.{passed, skipped, same_ok, word_is}
use Rattle.sat_script.proofs.Headers.{format_is, sites_is, gears_is, header_is}
use Rattle.sat_script.proofs.Lists.{all_more, get_mid}
use Rattle.sat_script.proofs.Stands.{Stands, IsGood, limits_few, ItemStands, ClientStands, IsPlanFor, PlanStands}
use Rattle.sat_script.proofs.Trees.{tree_small}

-- ---- any line

end_is : (words : List (List ℕ)) → is_end words ≡ true → words ≡ codes "end" ∷ []
end_is [] h = absurd (cc)
end_is (word ∷ []) h = ap (λ (w : List ℕ). w ∷ []) (word_is word (codes "end") h)
end_is (word ∷ other ∷ words) h = absurd (cc)

said_is : (r : Result Act Cause) (p : Parsed) → of_act r ≡ Ok p → (a : Act) × (r ≡ Ok a) × (p ≡ parsed.Act a)
said_is (Ok a) p h = (a, refl, sym (same_ok (parsed.Act a) p h))
said_is (Err cause) p h = absurd (cc)

body_is : (s : State) (words : List (List ℕ)) (p : Parsed) → IsDeployment s.header → body_line s words ≡ Ok p → IsGood stage.Body s words p
unfolding body_line
body_is s words p is h = go (is_end words) refl h
  where
    go : (b : Bool) → is_end words ≡ b → cond b (Ok parsed.End) (of_act (act_line (bar s) s.header words)) ≡ Ok p → IsGood stage.Body s words p
    go true e h = subst (λ (p : Parsed). IsGood stage.Body s words p) (same_ok _ p h) (record { spelled = end_is words e; stands = tt })
    go false e h =
        let a = said_is (act_line (bar s) s.header words) p h in
        let l = acts_spelled (bar s) s.header words a.0 is a.1 in
        subst (λ (p : Parsed). IsGood stage.Body s words p) (sym a.2) (record { spelled = l.0; stands = form_stands s a.0 l.1 l.2 })

words_are : (here : Stage) (s : State) (words : List (List ℕ)) (p : Parsed) → HasHeader here s.header → words_line here s words ≡ Ok p → IsGood here s words p
unfolding words_line
words_are stage.Start s words p kept h = format_is s words p h
words_are stage.Sites s words p kept h = sites_is s words p h
words_are stage.Gears s words p kept h = gears_is s words p h
words_are stage.Header s words p kept h = header_is s words p (sites_within s.header.format s.header.sites kept.few_sites) h
words_are stage.Body s words p kept h = body_is s words p kept.deployment h
words_are stage.Ended s words p kept h = absurd (cc)

pub line_is : (s : State) (line : List ℕ) (p : Parsed) → IsFit s → line_at s line ≡ Ok p → IsGood s.stage s (words_of line) p
unfolding line_at
line_is s line p fit h =
    let e = skipped (is_ended s.stage) _ _ _ h in
    let t = skipped (ltb LONGEST_LINE (length line)) _ _ _ e.1 in
    let u = passed (is_text line) _ _ _ t.1 in
    words_are s.stage s (words_of line) p fit.header u.1

-- ---- a list that grows by one

failing_to : (old new : ℕ → Bool) (n m : ℕ) → first_failing old n ≡ None → m ≤ n → ((k : ℕ) → k < n → new k ≡ old k) → first_failing new m ≡ None
failing_to old new n zero none less same = first_start new
failing_to old new n (suc m) none less same =
    let here : new m ≡ true = same m (omega arith) ∙ first_none old n m none (omega arith) in
    subst (λ (k : ℕ). first_failing new k ≡ None) (let e : m + 1 ≡ suc m = omega arith in e) (first_more new m (failing_to old new n m none (omega arith) same) here)

failing_push : (old new : ℕ → Bool) (n m : ℕ) → first_failing old n ≡ None → ((k : ℕ) → k < n → new k ≡ old k) → new n ≡ true → m ≡ n + 1 → first_failing new m ≡ None
failing_push old new n m none same here e = subst (λ (k : ℕ). first_failing new k ≡ None) (sym e) (first_more new n (failing_to old new n n none (omega arith) same) here)

push_length : {X : Type 0} (xs : List X) (x : X) → length (xs ++ x ∷ []) ≡ length xs + 1
push_length xs x = length-append xs (x ∷ [])

-- each member fits those before it, and so does one more
grown : {X : Type 0} (fits : List X → Option X → Bool) (xs : List X) (x : X) → first_failing (λ k. fits (take k xs) (slice_get xs k)) (length xs) ≡ None → fits xs (Some x) ≡ true
    → first_failing (λ k. fits (take k (xs ++ x ∷ [])) (slice_get (xs ++ x ∷ []) k)) (length (xs ++ x ∷ [])) ≡ None
grown {X = X} fits xs x none here =
    failing_push (λ k. fits (take k xs) (slice_get xs k)) (λ k. fits (take k (xs ++ x ∷ [])) (slice_get (xs ++ x ∷ []) k)) (length xs) (length (xs ++ x ∷ [])) none
    (λ k less. ap (fits (take k (xs ++ x ∷ []))) (get-front xs (x ∷ []) k less) ∙ ap (λ (earlier : List X). fits earlier (slice_get xs k)) (take-append-le k xs (x ∷ []) (omega arith)))
    (ap (fits (take (length xs) (xs ++ x ∷ []))) (get_mid xs [] x) ∙ ap (λ (earlier : List X). fits earlier (Some x)) (take-append_seam xs (x ∷ [])) ∙ here)
    (push_length xs x)

-- ---- items, clients and plans

abbrev item_at : ℕ → List Item → Option Item → Bool
item_at sites earlier o = elim o [ None ↦ true | Some item ↦ are_sites sites item.replicas.bits && not (list_any (λ (other : Item). bytes_eq other.name item.name) earlier) ]

abbrev client_at : ℕ → List ClientLine → Option ClientLine → Bool
client_at sites earlier o = elim o [ None ↦ true | Some line ↦ ltb line.site sites && not (list_any (λ (other : ClientLine). bytes_eq other.name line.name) earlier) ]

items_push : (sites : ℕ) (items : List Item) (x : Item) → first_failing (item_fits sites items) (length items) ≡ None → are_sites sites x.replicas.bits ≡ true → list_any (λ (item : Item). bytes_eq item.name x.name) items ≡ false
    → first_failing (item_fits sites (items ++ x ∷ [])) (length (items ++ x ∷ [])) ≡ None
unfolding item_fits
items_push sites items x none are new = grown (item_at sites) items x none (and_from (are_sites sites x.replicas.bits) (not (list_any (λ (item : Item). bytes_eq item.name x.name) items)) are (ap not new))

clients_push : (sites : ℕ) (clients : List ClientLine) (x : ClientLine) → first_failing (client_fits sites clients) (length clients) ≡ None → x.site < sites → list_any (λ (line : ClientLine). bytes_eq line.name x.name) clients ≡ false
    → first_failing (client_fits sites (clients ++ x ∷ [])) (length (clients ++ x ∷ [])) ≡ None
unfolding client_fits
clients_push sites clients x none home new =
    grown (client_at sites) clients x none (and_from (ltb x.site sites) (not (list_any (λ (line : ClientLine). bytes_eq line.name x.name) clients)) (lt-ltb x.site sites home) (ap not new))

abbrev plan_at : ℕ → Option Plan → Bool
plan_at sites o = elim o [ None ↦ true | Some p ↦ elim p [ plan.Stamp ↦ true | plan.Tree t ↦ eqb (length t.seats) sites ] ]

plan_seats : (sites : ℕ) (p : Plan) → sites ≤ MOST_SITES → IsPlanFor sites p → plan_at sites (Some p) ≡ true
plan_seats sites plan.Stamp few h = refl
plan_seats sites (plan.Tree t) few h = let seats = (tree_small sites t h few).1 in grind (arith, nat_tests)

plans_push : (sites : ℕ) (plans : List Plan) (x : Plan) → sites ≤ MOST_SITES → first_failing (plan_fits sites plans) (length plans) ≡ None → IsPlanFor sites x → first_failing (plan_fits sites (plans ++ x ∷ [])) (length (plans ++ x ∷ [])) ≡ None
unfolding plan_fits
plans_push sites plans x few none h = grown (λ earlier. plan_at sites) plans x none (plan_seats sites x few h)

trees_push : (plans : List Plan) (x : Plan) → HaveTrees plans → ((t : TreeShape) → x ≡ plan.Tree t → IsSmallTree t) → HaveTrees (plans ++ x ∷ [])
trees_push [] x old here zero t at = here t (let e : x ≡ plan.Tree t = cc in e)
trees_push [] x old here (suc n) t at = absurd (cc)
trees_push (p ∷ plans) x old here zero t at = old zero t at
trees_push (p ∷ plans) x old here (suc n) t at = trees_push plans x (λ k. old (suc k)) here n t at

no_trees : HaveTrees []
no_trees e t at = absurd (cc)

-- ---- a whole header

within : (low high n : ℕ) → low ≤ n → n ≤ high → is_within low high n ≡ true
within low high n a b = and_from (leb low n) (leb n high) (le-leb low n a) (le-leb n high b)

pub flawless : (d : Deployed) → IsOpened d → 0 < length d.plans → length d.items ≤ (format_limits d.format).items → length d.clients ≤ 1024 → length d.plans ≤ 16 → flaw d ≡ None
unfolding flaw wrong_size
flawless d is some items clients plans =
    rw (
      is.format,
      within 1 (format_limits d.format).sites d.sites (omega (arith, is.some_site)) is.few_sites,
      within 1 8 d.gears (omega (arith, is.some_gear)) is.few_gears,
      le-leb (length d.items) (format_limits d.format).items items,
      le-leb (length d.clients) 1024 clients,
      within 1 16 (length d.plans) (omega arith) plans,
      is.items,
      is.clients,
      is.plans,
    ) refl

pub whole : (d : Deployed) → IsOpened d → 0 < length d.plans → length d.items ≤ (format_limits d.format).items → length d.clients ≤ 1024 → length d.plans ≤ 16 → IsWhole d
whole d is some items clients plans =
    let none = flawless d is some items clients plans in
    record { flawless = none; deployment = sound d none is.trees; names = is.names }

-- ---- the header after a good line

with_item : (s : State) (item : Item) → IsOpened s.header → ItemStands s item → IsOpened (record s.header { items = s.header.items ++ item ∷ [] })
unfolding has_item
with_item s item is st = record {
  format = is.format;
  some_site = is.some_site;
  few_sites = is.few_sites;
  some_gear = is.some_gear;
  few_gears = is.few_gears;
  items = items_push s.header.sites s.header.items item is.items st.sites st.new;
  clients = is.clients;
  plans = is.plans;
  trees = is.trees;
  names = record { items = all_more (λ (item : Item). is_name item.name ≡ true) s.header.items item is.names.items st.name; clients = is.names.clients };
}

with_client : (s : State) (line : ClientLine) → IsOpened s.header → ClientStands s line → IsOpened (record s.header { clients = s.header.clients ++ line ∷ [] })
unfolding has_client
with_client s line is st = record {
  format = is.format;
  some_site = is.some_site;
  few_sites = is.few_sites;
  some_gear = is.some_gear;
  few_gears = is.few_gears;
  items = is.items;
  clients = clients_push s.header.sites s.header.clients line is.clients st.home st.new;
  plans = is.plans;
  trees = is.trees;
  names = record { items = is.names.items; clients = all_more (λ (line : ClientLine). is_name line.name ≡ true) s.header.clients line is.names.clients st.name };
}

abbrev plans_with : Deployed → List Plan → Deployed
plans_with d plans = record d { plans = plans }

tree_of_plan : (sites : ℕ) (p : Plan) (t : TreeShape) → sites ≤ MOST_SITES → IsPlanFor sites p → p ≡ plan.Tree t → IsSmallTree t
tree_of_plan sites p t few h e = (tree_small sites t (subst (λ (p : Plan). IsPlanFor sites p) e h) few).0

with_plan : (s : State) (p : Plan) → IsOpened s.header → PlanStands s p → IsOpened (plans_with s.header (s.header.plans ++ p ∷ []))
with_plan s p is st =
    let few = sites_within s.header.format s.header.sites is.few_sites in
    record {
      format = is.format;
      some_site = is.some_site;
      few_sites = is.few_sites;
      some_gear = is.some_gear;
      few_gears = is.few_gears;
      items = is.items;
      clients = is.clients;
      plans = plans_push s.header.sites s.header.plans p few is.plans st.fits;
      trees = trees_push s.header.plans p is.trees (λ t e. tree_of_plan s.header.sites p t few st.fits e);
      names = record { items = is.names.items; clients = is.names.clients };
    }

no_names : (d : Deployed) → d.items ≡ [] → d.clients ≡ [] → HaveNames d
no_names d items clients = record { items = subst (λ (xs : List Item). AllByRecursion (λ (item : Item). is_name item.name ≡ true) xs) (sym items) tt; clients = subst (λ (xs : List ClientLine). AllByRecursion (λ (line : ClientLine). is_name line.name ≡ true) xs) (sym clients) tt }

header_names : (here : Stage) (d : Deployed) → HasHeader here d → HaveNames d
header_names stage.Start d is = no_names d (ap (λ (d : Deployed). d.items) is) (ap (λ (d : Deployed). d.clients) is)
header_names stage.Sites d is = no_names d is.items is.clients
header_names stage.Gears d is = no_names d is.items is.clients
header_names stage.Header d is = is.names
header_names stage.Body d is = is.names
header_names stage.Ended d is = is.names

-- at every stage the header's names are names
pub fit_names : (s : State) → IsFit s → HaveNames s.header
fit_names s is = header_names s.stage s.header is.header

opened : (s : State) (n : ℕ) → IsSited s.header → 1 ≤ n → n ≤ MOST_GEARS → IsOpened (record s.header { gears = n })
opened s n is some few =
    record {
      format = is.format;
      some_site = is.some;
      few_sites = is.few;
      some_gear = omega arith;
      few_gears = few;
      items = subst (λ (xs : List Item). first_failing (item_fits s.header.sites xs) (length xs) ≡ None) (sym is.items) (first_start (item_fits s.header.sites []));
      clients = subst (λ (xs : List ClientLine). first_failing (client_fits s.header.sites xs) (length xs) ≡ None) (sym is.clients) (first_start (client_fits s.header.sites []));
      plans = subst (λ (xs : List Plan). first_failing (plan_fits s.header.sites xs) (length xs) ≡ None) (sym is.plans) (first_start (plan_fits s.header.sites []));
      trees = subst (λ (xs : List Plan). HaveTrees xs) (sym is.plans) no_trees;
      names = no_names (record s.header { gears = n }) is.items is.clients;
    }

-- a number from 1 to the last format is one
formats : (f : ℕ) → 1 ≤ f → f ≤ LAST_FORMAT → is_format f ≡ true
formats f some few = grind (arith, nat_tests)

-- no dialect allows more sites than its format does, and each as many items
pub sites_allowed : (dialect : Dialect) (format n : ℕ) → n ≤ (limits_of dialect format).sites → n ≤ (format_limits format).sites
sites_allowed dialect.Run format n few = few
sites_allowed dialect.Audit format n few = few
sites_allowed dialect.Chain format n few = few
sites_allowed dialect.Lasting format n few = few
sites_allowed dialect.Live format n few = go (eqb format 1)
  where
    go : (b : Bool) → n ≤ (cond b (format_limits 1) (format_limits 2)).sites
    go true = omega (arith, few)
    go false = omega (arith, few)

pub items_allowed : (dialect : Dialect) (format : ℕ) → (limits_of dialect format).items ≡ (format_limits format).items
items_allowed dialect.Run format = refl
items_allowed dialect.Live format = refl
items_allowed dialect.Audit format = refl
items_allowed dialect.Chain format = refl
items_allowed dialect.Lasting format = refl

-- and no dialect allows more acts
pub acts_allowed : (dialect : Dialect) (format n : ℕ) → n ≤ (limits_of dialect format).acts → n ≤ (format_limits format).acts
acts_allowed dialect.Run format n few = few
acts_allowed dialect.Chain format n few = few
acts_allowed dialect.Lasting format n few = few
acts_allowed dialect.Live format n few = go (eqb format 1)
  where
    go : (b : Bool) → n ≤ (cond b (format_limits 1) (format_limits 2)).acts
    go true = omega (arith, few)
    go false = omega (arith, few)
acts_allowed dialect.Audit format n few = go (eqb format 1)
  where
    go : (b : Bool) → n ≤ (cond b (format_limits 1) (format_limits 2)).acts
    go true = omega (arith, few)
    go false = omega (arith, few)

header_after : (here : Stage) (s : State) (p : Parsed) → HasHeader here s.header → length s.header.items ≤ (format_limits s.header.format).items → length s.header.clients ≤ 1024 → length s.header.plans ≤ 16 → Stands here s p → HasHeader (next_stage here p) (with_parsed s.header p)
header_after stage.Start s (parsed.Format f) kept a b c h = record {
  format = formats f h.0 h.1;
  items = ap (λ (d : Deployed). d.items) kept;
  clients = ap (λ (d : Deployed). d.clients) kept;
  plans = ap (λ (d : Deployed). d.plans) kept;
}
header_after stage.Sites s (parsed.Sites n) kept a b c h = record {
  format = kept.format;
  some = omega (arith, h.0);
  few = sites_allowed s.dialect s.header.format n h.1;
  items = kept.items;
  clients = kept.clients;
  plans = kept.plans;
}
header_after stage.Gears s (parsed.Gears n) kept a b c h = opened s n kept h.0 h.1
header_after stage.Header s (parsed.Item item) kept a b c h = with_item s item kept h
header_after stage.Header s (parsed.Client line) kept a b c h = with_client s line kept h
header_after stage.Header s (parsed.Plan p) kept a b c h = with_plan s p kept h
header_after stage.Header s parsed.Begin kept a b c h = whole s.header kept h a b c
header_after stage.Body s (parsed.Act x) kept a b c h = kept
header_after stage.Body s parsed.End kept a b c h = kept
header_after _ s _ kept a b c h = absurd h

-- a dialect allows as many settles in each format
same_settles : (dialect : Dialect) (format other : ℕ) → (limits_of dialect format).settles ≡ (limits_of dialect other).settles
same_settles dialect.Run format other = refl
same_settles dialect.Live format other = refl
same_settles dialect.Audit format other = refl
same_settles dialect.Chain format other = refl
same_settles dialect.Lasting format other = refl

record Counts (s : State) (p : Parsed) : Type 0 where
  sites : (with_parsed s.header p).sites ≤ (limits_at (after s p)).sites
  items : length (with_parsed s.header p).items ≤ (limits_at (after s p)).items
  clients : length (with_parsed s.header p).clients ≤ (limits_at (after s p)).clients
  plans : length (with_parsed s.header p).plans ≤ MOST_PLANS
  acts : with_act s.acts p ≤ (limits_at (after s p)).acts
  settles : with_settle s.settles p ≤ (limits_at (after s p)).settles

-- before the line of the format there is nothing to count
no_counts : (s : State) (f : ℕ) → IsFit s → s.header ≡ no_header → s.acts ≡ 0 → Counts s (parsed.Format f)
no_counts s f fit header acts =
    let sites : s.header.sites ≡ 0 = ap (λ (d : Deployed). d.sites) header in
    let items : length s.header.items ≡ 0 = ap (λ (d : Deployed). length d.items) header in
    let clients : length s.header.clients ≡ 0 = ap (λ (d : Deployed). length d.clients) header in
    record {
      sites = omega (arith, sites);
      items = omega (arith, items);
      clients = omega (arith, clients);
      plans = fit.plans;
      acts = omega (arith, acts);
      settles = omega (arith, fit.settles, same_settles s.dialect s.header.format f);
    }

counts : (here : Stage) (s : State) (p : Parsed) → IsFit s → HasHeader here s.header → HasActs here s.acts → Stands here s p → Counts s p
counts stage.Start s (parsed.Format f) fit kept acts h = no_counts s f fit kept acts
counts stage.Sites s (parsed.Sites n) fit kept acts h = record { sites = h.1; items = fit.items; clients = fit.clients; plans = fit.plans; acts = fit.acts; settles = fit.settles }
counts stage.Gears s (parsed.Gears n) fit kept acts h = record { sites = fit.sites; items = fit.items; clients = fit.clients; plans = fit.plans; acts = fit.acts; settles = fit.settles }
counts stage.Header s (parsed.Item item) fit kept acts h = record { sites = fit.sites; items = omega (arith, push_length s.header.items item, h.room); clients = fit.clients; plans = fit.plans; acts = fit.acts; settles = fit.settles }
counts stage.Header s (parsed.Client line) fit kept acts h = record { sites = fit.sites; items = fit.items; clients = omega (arith, push_length s.header.clients line, h.room); plans = fit.plans; acts = fit.acts; settles = fit.settles }
counts stage.Header s (parsed.Plan p) fit kept acts h =
    record { sites = fit.sites; items = fit.items; clients = fit.clients; plans = omega (arith, push_length s.header.plans p, h.room); acts = fit.acts; settles = fit.settles }
counts stage.Header s parsed.Begin fit kept acts h = record { sites = fit.sites; items = fit.items; clients = fit.clients; plans = fit.plans; acts = fit.acts; settles = fit.settles }
counts stage.Body s (parsed.Act a) fit kept acts h = record {
  sites = fit.sites;
  items = fit.items;
  clients = fit.clients;
  plans = fit.plans;
  acts = let less = act_room s a h.room in omega (arith, less);
  settles = settle_room s a fit.settles h.room;
}
counts stage.Body s parsed.End fit kept acts h = record { sites = fit.sites; items = fit.items; clients = fit.clients; plans = fit.plans; acts = fit.acts; settles = fit.settles }
counts _ s _ fit kept acts h = absurd h

-- once the format is known, so is how many acts may come
begun_after : (here : Stage) (s : State) (p : Parsed) → Stands here s p → HasActs (next_stage here p) (with_act s.acts p)
begun_after stage.Start s (parsed.Format f) h = tt
begun_after stage.Sites s (parsed.Sites n) h = tt
begun_after stage.Gears s (parsed.Gears n) h = tt
begun_after stage.Header s (parsed.Item item) h = tt
begun_after stage.Header s (parsed.Client line) h = tt
begun_after stage.Header s (parsed.Plan p) h = tt
begun_after stage.Header s parsed.Begin h = tt
begun_after stage.Body s (parsed.Act a) h = tt
begun_after stage.Body s parsed.End h = tt
begun_after _ s _ h = absurd h

pub stands_after : (s : State) (p : Parsed) → IsFit s → Stands s.stage s p → IsFit (after s p)
stands_after s p fit h =
    let n = counts s.stage s p fit fit.header fit.begun h in
    let most = limits_few s.dialect s.header.format in
    record {
      header = header_after s.stage s p fit.header (omega (arith, fit.items, items_allowed s.dialect s.header.format)) (omega (arith, fit.clients, most.clients)) fit.plans h;
      sites = n.sites;
      items = n.items;
      clients = n.clients;
      plans = n.plans;
      begun = begun_after s.stage s p h;
      acts = n.acts;
      settles = n.settles;
    }

pub fit_after : (s : State) (line : List ℕ) (p : Parsed) → IsFit s → line_at s line ≡ Ok p → IsFit (after s p)
fit_after s line p fit h = stands_after s p fit (line_is s line p fit h).stands

suits_at : (here : Stage) (s : State) (p : Parsed) → s.stage ≡ here → Stands here s p → Suits s p
suits_at stage.Start s (parsed.Format f) e h = e
suits_at stage.Sites s (parsed.Sites n) e h = e
suits_at stage.Gears s (parsed.Gears n) e h = e
suits_at stage.Header s (parsed.Item item) e h = (e, h.new)
suits_at stage.Header s (parsed.Client line) e h = (e, h.new)
suits_at stage.Header s (parsed.Plan p) e h = e
suits_at stage.Header s parsed.Begin e h = e
suits_at stage.Body s (parsed.Act a) e h = tt
suits_at stage.Body s parsed.End e h = e
suits_at _ s _ e h = absurd h

-- and it comes at its stage, and a name that it brings is new
pub suits_after : (s : State) (line : List ℕ) (p : Parsed) → IsFit s → line_at s line ≡ Ok p → Suits s p
suits_after s line p fit h = suits_at s.stage s p refl (line_is s line p fit h).stands

pub fit_start : (dialect : Dialect) → IsFit (start dialect)
fit_start dialect = record { header = refl; sites = omega arith; items = omega arith; clients = omega arith; plans = omega arith; begun = refl; acts = omega arith; settles = omega arith }
