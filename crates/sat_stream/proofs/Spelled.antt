-- The spelling of a deployment and acts of it is read as them.
use Rattle.std.proofs.Common.{◌≡◌, ℕ, ◌+◌, ◌-◌, ◌<◌, ◌≤◌, Bool, true, false, cond, List, [], ◌∷◌, ◌++◌, length, Some, Ok, sym, ap, ◌∙◌, refl, subst, arith}
use Rattle.std.specs.List.{slice_split, slice_get, list_any, AllByRecursion}
use Rattle.std.specs.Prelude.{codes}
use Rattle.std.specs.Fmt.{decimal}
use Rattle.std.specs.Str.{bytes_eq}
use Rattle.std.proofs.lemmas.List.{append-nil, append_assoc, length-append}
use Rattle.std.proofs.lemmas.List.Folds.{Any-from_list_any}
use Rattle.std.proofs.lemmas.List.Splits.{slice_split_at, length-slice_split}
use Rattle.std.proofs.lemmas.Option.{slice_get-get_or}
use Rattle.sat_label.proofs.Numbers.{get-front}
use Rattle.std.proofs.lemmas.Bool.{false_from_ne_true}
use Rattle.std.proofs.lemmas.Bool.Decides.{nat_tests}
use Rattle.sat_label.specs.Text.{is_between, is_name}
use Rattle.sat_label.specs.Formats.{is_format, limits_of as format_limits}
use Rattle.sat_label.proofs.Bits.{sites-are}
use Rattle.sat_tree.specs.Shape.{TreeShape}
use Rattle.sat_act.specs.Deployed.{Deployed}
use Rattle.sat_act.specs.Limits.{IsDeployment}
use Rattle.sat_act.specs.Parts.{planned_tree, tree_of}
use Rattle.sat_act.proofs.Plans.{tree_from_plans}
use Rattle.sat_act.specs.declared.act.Act.{Act}
use Rattle.sat_act.specs.declared.act.Act.TheVariants as act
use Rattle.sat_act.specs.declared.deployment.Item.{Item}
use Rattle.sat_act.specs.declared.deployment.ClientLine.{ClientLine}
use Rattle.sat_act.specs.declared.deployment.Plan.{Plan}
use Rattle.sat_act.specs.declared.deployment.Plan.TheVariants as plan
use Rattle.sat_script.specs.Dialect.{limits_of, dialect_of}
use Rattle.sat_script.specs.declared.dialect.Dialect.{Dialect}
use Rattle.sat_script.specs.declared.dialect.Dialect.TheVariants as dialect
use Rattle.sat_script.specs.Causes.{bar, has_client, has_item}
use Rattle.sat_script.specs.Grammar.{is_ended, body_line, words_line, line_at, close_in, after, with_settle, of_act, told_line}
use Rattle.sat_script.specs.Table.{act_line, act_words}
use Rattle.sat_script.specs.Kept.{IsWhole, IsFit}
use Rattle.sat_script.specs.Names.{client_name_of, item_name_of}
use Rattle.sat_stream.specs.Reading.{script_from, reading, nothing, after_line, good, with_line, AreAllowed, IsAllowed, IsWithin}
use Rattle.sat_script.specs.Spelled.{AreActsOf, settles_of, line_text, item_words, client_words, plan_words, ended, items_text, clients_text, plans_text, acts_text, header_text, spelling, HaveNames, Spells}
use Rattle.sat_script.specs.State.{State, start}
use Rattle.sat_script.specs.Words.{is_newline}
use Rattle.sat_script.specs.declared.limits.TheConstants.{LAST_FORMAT, MOST_SETTLES}
use Rattle.sat_script.specs.declared.line.Parsed.{Parsed}
use Rattle.sat_script.specs.declared.line.Parsed.TheVariants as parsed
use Rattle.sat_script.specs.declared.line.Stage.{Stage}
use Rattle.sat_script.specs.declared.line.Stage.TheVariants as stage
use Rattle.sat_stream.specs.declared.stream.Reading.{Reading}
use Rattle.sat_script.proofs.Acts.{has_both}
use Rattle.sat_script.proofs.ActsRead.{act_reads, not_end}
use Rattle.sat_script.proofs.Choices.{word_is}
use Rattle.sat_script.proofs.Fits.{fit_start, stands_after, items_allowed}
use Rattle.sat_script.proofs.Lists.{get_mid}
use Rattle.sat_stream.proofs.HeadersRead.{IsSites, format_reads, sites_reads, gears_reads, item_reads, client_reads, begin_reads}
use Rattle.sat_script.proofs.Stands.{ItemStands, ClientStands, IsPlanFor, PlanStands, ActStands}
use Rattle.sat_stream.proofs.Texts.{IsLine, line_fits, is_text-line, line_at-words, lacks, no_newline}
use Rattle.sat_stream.proofs.TreesRead.{plan_reads}
use Rattle.sat_script.proofs.Trees.{tree_fits}

-- ---- a line

step_on : (s : State) (r : Reading) (line : List ℕ) (parts : List (List ℕ)) → 0 < length parts → script_from s r (line ∷ parts) ≡ after_line s r (λ later more. script_from later more parts) (line_at s line)
unfolding script_from
step_on s r line [] some = absurd (omega arith)
step_on s r line (part ∷ parts) some = refl

line_step : (s : State) (r : Reading) (words : List (List ℕ)) (rest : List ℕ) (p : Parsed) → IsLine words → is_ended s.stage ≡ false → words_line s.stage s words ≡ Ok p
    → script_from s r (slice_split is_newline (ended words ++ rest)) ≡ script_from (after s p) (with_line s.header r (told_line p)) (slice_split is_newline rest)
line_step s r words rest p line going h =
    ap (λ (bs : List ℕ). script_from s r (slice_split is_newline bs)) (append_assoc (line_text words) (10 ∷ []) rest)
    ∙ ap (script_from s r) (slice_split_at is_newline (line_text words) 10 rest (lacks is_newline (is_between 32 126) no_newline (line_text words) (is_text-line words line)) refl)
    ∙ step_on s r (line_text words) (slice_split is_newline rest) (omega (arith, length-slice_split is_newline rest))
    ∙ ap (after_line s r (λ later more. script_from later more (slice_split is_newline rest))) (line_at-words s words line going ∙ h)

-- ---- the acts

act_line_reads : (s : State) (a : Act) → s.stage ≡ stage.Body → IsWhole s.header → ActStands s a → words_line s.stage s (act_words s.header a) ≡ Ok (parsed.Act a)
unfolding words_line body_line
act_line_reads s a here is st =
    ap (λ (at : Stage). words_line at s (act_words s.header a)) here
    ∙ ap (λ (b : Bool). cond b (Ok parsed.End) (of_act (act_line (bar s) s.header (act_words s.header a)))) (not_end s.header a)
    ∙ ap of_act (act_reads s a is.deployment is.names st)

abbrev with_acts : Reading → List Act → Reading
with_acts r acts = record { deployment = r.deployment; acts = acts; fault = r.fault }

end_reads : (dialect : Dialect) (d : Deployed) (n m : ℕ) (r : Reading) → IsWhole d → script_from (record { dialect = dialect; stage = stage.Body; header = d; acts = n; settles = m }) r (slice_split is_newline (ended (codes "end" ∷ []))) ≡ r
unfolding words_line body_line script_from close_in
end_reads dialect d n m r is =
    let s : State = record { dialect = dialect; stage = stage.Body; header = d; acts = n; settles = m } in
    ap (λ (bs : List ℕ). script_from s r (slice_split is_newline bs)) (sym (append-nil (ended (codes "end" ∷ []))))
    ∙ line_step s r (codes "end" ∷ []) [] parsed.End (line_fits stage.Body s parsed.End is is.deployment.few_sites tt) refl refl

settles_cons : (m : ℕ) (a : Act) (more : List Act) → with_settle m (parsed.Act a) + settles_of more ≡ m + settles_of (a ∷ more)
settles_cons m act.Settle more = omega arith
settles_cons m _ more = refl

body_reads : (dialect : Dialect) (d : Deployed) (more : List Act) (n m : ℕ) (r : Reading) → IsWhole d → AreActsOf d more → AreAllowed dialect more → n + length more ≤ (limits_of dialect d.format).acts → m + settles_of more ≤ (limits_of dialect d.format).settles
    → script_from (record { dialect = dialect; stage = stage.Body; header = d; acts = n; settles = m }) r (slice_split is_newline (acts_text d more ++ ended (codes "end" ∷ []))) ≡ with_acts r (r.acts ++ more)
body_reads dialect d [] n m r is each free few settles = end_reads dialect d n m r is ∙ ap (with_acts r) (sym (append-nil r.acts))
body_reads dialect d (a ∷ more) n m r is each free few settles =
    let one = settles_cons m a more in
    let s : State = record { dialect = dialect; stage = stage.Body; header = d; acts = n; settles = m } in
    let st : ActStands s a = record { fits = each.0; has = free.0; room = has_both s a (omega (arith, few)) (omega (arith, one, settles)) } in
    ap (λ (bs : List ℕ). script_from s r (slice_split is_newline bs)) (append_assoc (ended (act_words d a)) (acts_text d more) (ended (codes "end" ∷ [])))
    ∙ line_step s r (act_words d a) (acts_text d more ++ ended (codes "end" ∷ [])) (parsed.Act a) (line_fits stage.Body s (parsed.Act a) is is.deployment.few_sites st) refl (act_line_reads s a refl is st)
    ∙ body_reads dialect d more (n + 1) (with_settle m (parsed.Act a)) (with_acts r (r.acts ++ a ∷ [])) is each.1 free.1 (omega (arith, few)) (omega (arith, one, settles))
    ∙ ap (with_acts r) (append_assoc r.acts (a ∷ []) more)

-- ---- places in lists

all_mid : {X : Type 0} (P : X → Type 0) (front back : List X) (x : X) → AllByRecursion P (front ++ x ∷ back) → P x
all_mid P [] back x h = h.0
all_mid P (y ∷ front) back x h = all_mid P front back x h.1

-- ---- the items

abbrev lines : Dialect → Deployed → State
lines dialect d = record { dialect = dialect; stage = stage.Header; header = d; acts = 0; settles = 0 }

abbrev of_items : Deployed → List Item → Deployed
of_items d items = record { format = d.format; sites = d.sites; gears = d.gears; items = items; clients = []; plans = [] }

item_sites : (d : Deployed) (item : Item) (x : ℕ) → IsDeployment d → slice_get d.items x ≡ Some item → IsSites d.sites item.replicas
item_sites d item x is at = record { some = is.kept x item at; inside = λ k h. is.replicas x k item at h }

-- none before it has its name
new_name : {X : Type 0} (name : X → List ℕ) (all done todo : List X) (x : X) → ((j k : ℕ) (y z : X) → slice_get all j ≡ Some y → slice_get all k ≡ Some z → name y ≡ name z → j ≡ k) → all ≡ done ++ x ∷ todo
    → list_any (λ y. bytes_eq (name y) (name x)) done ≡ false
new_name {X = X} name all done todo x apart e = false_from_ne_true (list_any (λ y. bytes_eq (name y) (name x)) done) (λ h.
    let at = Any-from_list_any (λ y. bytes_eq (name y) (name x)) done h in
    let early : slice_get all at.0 ≡ Some at.1 = ap (λ (xs : List X). slice_get xs at.0) e ∙ get-front done (x ∷ todo) at.0 at.2 ∙ slice_get-get_or done at.0 at.1 at.2 ∙ ap (λ (y : X). Some y) at.3 in
    let here : slice_get all (length done) ≡ Some x = ap (λ (xs : List X). slice_get xs (length done)) e ∙ get_mid done todo x in
    let same = apart at.0 (length done) at.1 x early here (word_is (name at.1) (name x) at.4) in
    omega (arith, at.2))

item_new : (d : Deployed) (done todo : List Item) (item : Item) → IsDeployment d → d.items ≡ done ++ item ∷ todo → has_item (of_items d done) item.name ≡ false
unfolding has_item
item_new d done todo item is e = new_name item_name_of d.items done todo item is.item_names e

item_stands : (dialect : Dialect) (d : Deployed) (done todo : List Item) (item : Item) → IsDeployment d → HaveNames d → d.items ≡ done ++ item ∷ todo → ItemStands (lines dialect (of_items d done)) item
item_stands dialect d done todo item is names e =
    let here : slice_get d.items (length done) ≡ Some item = ap (λ (xs : List Item). slice_get xs (length done)) e ∙ get_mid done todo item in
    let sites = item_sites d item (length done) is here in
    let few = is.items_allowed in
    let count : length d.items ≡ length (done ++ item ∷ todo) = ap length e in
    record {
      name = all_mid (λ (item : Item). is_name item.name ≡ true) done todo item (subst (λ (xs : List Item). AllByRecursion (λ (item : Item). is_name item.name ≡ true) xs) e names.items);
      sites = sites-are d.sites item.replicas.bits sites.some sites.inside;
      clients = refl;
      plans = refl;
      room = omega (arith, items_allowed dialect d.format, length-append done (item ∷ todo));
      new = item_new d done todo item is e;
    }

header_line_reads : (s : State) (words : List (List ℕ)) (p : Parsed) → s.stage ≡ stage.Header → Rattle.sat_script.specs.Grammar.header_line s words ≡ Ok p → words_line s.stage s words ≡ Ok p
unfolding words_line
header_line_reads s words p here h = ap (λ (at : Stage). words_line at s words) here ∙ h

items_read : (dialect : Dialect) (d : Deployed) (done todo : List Item) (r : Reading) (rest : List ℕ) → IsDeployment d → HaveNames d → IsFit (lines dialect (of_items d done)) → d.items ≡ done ++ todo
    → (script_from (lines dialect (of_items d done)) r (slice_split is_newline (items_text todo ++ rest)) ≡ script_from (lines dialect (of_items d d.items)) r (slice_split is_newline rest)) × IsFit (lines dialect (of_items d d.items))
items_read dialect d done [] r rest is names fit e =
    let same : done ≡ d.items = sym (append-nil done) ∙ sym e in
    (ap (λ (xs : List Item). script_from (lines dialect (of_items d xs)) r (slice_split is_newline rest)) same, subst (λ (xs : List Item). IsFit (lines dialect (of_items d xs))) same fit)
items_read dialect d done (item ∷ todo) r rest is names fit e =
    let s : State = lines dialect (of_items d done) in
    let st = item_stands dialect d done todo item is names e in
    let here : slice_get d.items (length done) ≡ Some item = ap (λ (xs : List Item). slice_get xs (length done)) e ∙ get_mid done todo item in
    let reads = item_reads s item is.few_sites (item_sites d item (length done) is here) st in
    let more = items_read dialect d (done ++ item ∷ []) todo r rest is names (stands_after s (parsed.Item item) fit st) (e ∙ sym (append_assoc done (item ∷ []) todo)) in (
      ap (λ (bs : List ℕ). script_from s r (slice_split is_newline bs)) (append_assoc (ended (item_words item)) (items_text todo) rest)
          ∙ line_step s r (item_words item) (items_text todo ++ rest) (parsed.Item item) (line_fits stage.Header s (parsed.Item item) fit.header is.few_sites st) refl (header_line_reads s (item_words item) (parsed.Item item) refl reads)
          ∙ more.0,
      more.1,
    )

-- ---- the clients

abbrev of_clients : Deployed → List ClientLine → Deployed
of_clients d clients = record { format = d.format; sites = d.sites; gears = d.gears; items = d.items; clients = clients; plans = [] }

client_new : (d : Deployed) (done todo : List ClientLine) (line : ClientLine) → IsDeployment d → d.clients ≡ done ++ line ∷ todo → has_client (of_clients d done) line.name ≡ false
unfolding has_client
client_new d done todo line is e = new_name client_name_of d.clients done todo line is.client_names e

client_stands : (dialect : Dialect) (d : Deployed) (done todo : List ClientLine) (line : ClientLine) → IsDeployment d → HaveNames d → length d.clients ≤ (limits_of dialect d.format).clients → d.clients ≡ done ++ line ∷ todo → ClientStands (lines dialect (of_clients d done)) line
client_stands dialect d done todo line is names few e =
    let here : slice_get d.clients (length done) ≡ Some line = ap (λ (xs : List ClientLine). slice_get xs (length done)) e ∙ get_mid done todo line in
    let count : length d.clients ≡ length (done ++ line ∷ todo) = ap length e in
    record {
      name = all_mid (λ (line : ClientLine). is_name line.name ≡ true) done todo line (subst (λ (xs : List ClientLine). AllByRecursion (λ (line : ClientLine). is_name line.name ≡ true) xs) e names.clients);
      home = is.homes (length done) line here;
      plans = refl;
      room = omega (arith, length-append done (line ∷ todo));
      new = client_new d done todo line is e;
    }

clients_read : (dialect : Dialect) (d : Deployed) (done todo : List ClientLine) (r : Reading) (rest : List ℕ) → IsDeployment d → HaveNames d → length d.clients ≤ (limits_of dialect d.format).clients → IsFit (lines dialect (of_clients d done)) → d.clients ≡ done ++ todo
    → (script_from (lines dialect (of_clients d done)) r (slice_split is_newline (clients_text todo ++ rest)) ≡ script_from (lines dialect (of_clients d d.clients)) r (slice_split is_newline rest)) × IsFit (lines dialect (of_clients d d.clients))
clients_read dialect d done [] r rest is names few fit e =
    let same : done ≡ d.clients = sym (append-nil done) ∙ sym e in
    (ap (λ (xs : List ClientLine). script_from (lines dialect (of_clients d xs)) r (slice_split is_newline rest)) same, subst (λ (xs : List ClientLine). IsFit (lines dialect (of_clients d xs))) same fit)
clients_read dialect d done (line ∷ todo) r rest is names few fit e =
    let s : State = lines dialect (of_clients d done) in
    let st = client_stands dialect d done todo line is names few e in
    let reads = client_reads s line is.few_sites st in
    let more = clients_read dialect d (done ++ line ∷ []) todo r rest is names few (stands_after s (parsed.Client line) fit st) (e ∙ sym (append_assoc done (line ∷ []) todo)) in (
      ap (λ (bs : List ℕ). script_from s r (slice_split is_newline bs)) (append_assoc (ended (client_words line)) (clients_text todo) rest)
          ∙ line_step s r (client_words line) (clients_text todo ++ rest) (parsed.Client line) (line_fits stage.Header s (parsed.Client line) fit.header is.few_sites st) refl (header_line_reads s (client_words line) (parsed.Client line) refl reads)
          ∙ more.0,
      more.1,
    )

-- ---- the plans

abbrev of_plans : Deployed → List Plan → Deployed
of_plans d plans = record { format = d.format; sites = d.sites; gears = d.gears; items = d.items; clients = d.clients; plans = plans }

tree_at : (d : Deployed) (k : ℕ) (t : TreeShape) → slice_get d.plans k ≡ Some (plan.Tree t) → tree_of d (k + 1) ≡ Some t
tree_at d k t at =
    tree_from_plans d (k + 1) (omega arith)
    ∙ ap (planned_tree d.plans) (let e : (k + 1) - 1 ≡ k = omega arith in e)
    ∙ rw (at, planned_tree) refl

plan_for : (d : Deployed) (k : ℕ) (p : Plan) → IsDeployment d → slice_get d.plans k ≡ Some p → IsPlanFor d.sites p
plan_for d k plan.Stamp is at = tt
plan_for d k (plan.Tree t) is at =
    let here = tree_at d k t at in
    let tree = is.trees (k + 1) t here in
    let root = tree.seats 0 in
    let seated = is.all_seated (k + 1) t here in
    let few = is.few_sites in
    tree_fits d.sites t (record { tree = tree; some_serializer = omega (arith, root); few_serializers = is.few_serializers (k + 1) t here; few_seats = omega (arith, seated) }) seated

plan_stands : (dialect : Dialect) (d : Deployed) (done todo : List Plan) (p : Plan) → IsDeployment d → d.plans ≡ done ++ p ∷ todo → PlanStands (lines dialect (of_plans d done)) p
plan_stands dialect d done todo p is e =
    let here : slice_get d.plans (length done) ≡ Some p = ap (λ (xs : List Plan). slice_get xs (length done)) e ∙ get_mid done todo p in
    let few = is.few_plans in
    let count : length d.plans ≡ length (done ++ p ∷ todo) = ap length e in
    record { fits = plan_for d (length done) p is here; room = omega (arith, length-append done (p ∷ todo)) }

plans_read : (dialect : Dialect) (d : Deployed) (done todo : List Plan) (r : Reading) (rest : List ℕ) → IsDeployment d → IsFit (lines dialect (of_plans d done)) → d.plans ≡ done ++ todo
    → (script_from (lines dialect (of_plans d done)) r (slice_split is_newline (plans_text todo ++ rest)) ≡ script_from (lines dialect (of_plans d d.plans)) r (slice_split is_newline rest)) × IsFit (lines dialect (of_plans d d.plans))
plans_read dialect d done [] r rest is fit e =
    let same : done ≡ d.plans = sym (append-nil done) ∙ sym e in
    (ap (λ (xs : List Plan). script_from (lines dialect (of_plans d xs)) r (slice_split is_newline rest)) same, subst (λ (xs : List Plan). IsFit (lines dialect (of_plans d xs))) same fit)
plans_read dialect d done (p ∷ todo) r rest is fit e =
    let s : State = lines dialect (of_plans d done) in
    let st = plan_stands dialect d done todo p is e in
    let reads = plan_reads s p is.few_sites st in
    let more = plans_read dialect d (done ++ p ∷ []) todo r rest is (stands_after s (parsed.Plan p) fit st) (e ∙ sym (append_assoc done (p ∷ []) todo)) in (
      ap (λ (bs : List ℕ). script_from s r (slice_split is_newline bs)) (append_assoc (ended (plan_words p)) (plans_text todo) rest)
          ∙ line_step s r (plan_words p) (plans_text todo ++ rest) (parsed.Plan p) (line_fits stage.Header s (parsed.Plan p) fit.header is.few_sites st) refl (header_line_reads s (plan_words p) (parsed.Plan p) refl reads)
          ∙ more.0,
      more.1,
    )

-- ---- a whole script

all_free : (acts : List Act) → AreAllowed dialect.Run acts
all_free [] = tt
all_free (a ∷ acts) = (refl, all_free acts)

limits : (live : Bool) (d : Deployed) (acts : List Act) → IsDeployment d → length acts ≤ (format_limits d.format).acts → settles_of acts ≤ MOST_SETTLES → IsAllowed live d acts → IsWithin (dialect_of live) d acts
limits true d acts is few settles h = h
limits false d acts is few settles h = record { sites = is.sites_allowed; clients = is.few_clients; few = few; settles = settles; each = all_free acts }

header_flat : (a b c i f p rest : List ℕ) → (a ++ (b ++ (c ++ (i ++ (f ++ p))))) ++ rest ≡ a ++ (b ++ (c ++ (i ++ (f ++ (p ++ rest)))))
header_flat a b c i f p rest = simp append_assoc

-- a format is a number from 1 to the last one
format_range : (f : ℕ) → is_format f ≡ true → (1 ≤ f) × (f ≤ LAST_FORMAT)
format_range f is = (grind (arith, nat_tests), grind (arith, nat_tests))

first_lines : (dialect : Dialect) (d : Deployed) (rest : List ℕ) → IsDeployment d → d.sites ≤ (limits_of dialect d.format).sites
    → (script_from (start dialect) nothing (slice_split is_newline (ended (codes "saturn" ∷ decimal d.format ∷ []) ++ (ended (codes "sites" ∷ decimal d.sites ∷ []) ++ (ended (codes "gears" ∷ decimal d.gears ∷ []) ++ rest))))
    ≡ script_from (lines dialect (of_items d [])) nothing (slice_split is_newline rest)) × IsFit (lines dialect (of_items d []))
unfolding words_line
first_lines dialect d rest is few =
    let s0 : State = start dialect in
    let s1 : State = after s0 (parsed.Format d.format) in
    let s2 : State = after s1 (parsed.Sites d.sites) in
    let f0 = fit_start dialect in
    let format_stands = format_range d.format is.format in
    let f1 = stands_after s0 (parsed.Format d.format) f0 format_stands in
    let site_stands : (1 ≤ d.sites) × (d.sites ≤ (limits_of dialect d.format).sites) = (omega (arith, is.some_site), few) in
    let f2 = stands_after s1 (parsed.Sites d.sites) f1 site_stands in
    let gear_stands : (1 ≤ d.gears) × (d.gears ≤ 8) = (omega (arith, is.some_gear), is.few_gears) in
    let f3 = stands_after s2 (parsed.Gears d.gears) f2 gear_stands in
    let gears_text : List ℕ = ended (codes "gears" ∷ decimal d.gears ∷ []) ++ rest in
    let sites_text : List ℕ = ended (codes "sites" ∷ decimal d.sites ∷ []) ++ gears_text in (
      line_step s0 nothing (codes "saturn" ∷ decimal d.format ∷ []) sites_text (parsed.Format d.format) (line_fits stage.Start s0 (parsed.Format d.format) f0.header (omega arith) format_stands) refl (format_reads d.format format_stands.0 format_stands.1)
          ∙ line_step s1 nothing (codes "sites" ∷ decimal d.sites ∷ []) gears_text (parsed.Sites d.sites) (line_fits stage.Sites s1 (parsed.Sites d.sites) f1.header (omega arith) site_stands) refl (sites_reads s1 d.sites site_stands.0 few)
          ∙ line_step s2 nothing (codes "gears" ∷ decimal d.gears ∷ []) rest (parsed.Gears d.gears) (line_fits stage.Gears s2 (parsed.Gears d.gears) f2.header is.few_sites gear_stands) refl (gears_reads d.gears gear_stands.0 gear_stands.1),
      f3,
    )

-- the lines before `begin`, whatever comes behind them
pub header_reads : (dialect : Dialect) (d : Deployed) (rest : List ℕ) → IsDeployment d → HaveNames d → d.sites ≤ (limits_of dialect d.format).sites → length d.clients ≤ (limits_of dialect d.format).clients
    → (script_from (start dialect) nothing (slice_split is_newline (header_text d ++ rest)) ≡ script_from (lines dialect d) nothing (slice_split is_newline rest)) × IsFit (lines dialect d)
unfolding header_text
header_reads dialect d rest is names sites few =
    let plan_text : List ℕ = plans_text d.plans ++ rest in
    let first = first_lines dialect d (items_text d.items ++ (clients_text d.clients ++ plan_text)) is sites in
    let items = items_read dialect d [] d.items nothing (clients_text d.clients ++ plan_text) is names first.1 refl in
    let clients = clients_read dialect d [] d.clients nothing plan_text is names few items.1 refl in
    let plans = plans_read dialect d [] d.plans nothing rest is clients.1 refl in (
      ap (λ (bs : List ℕ). script_from (start dialect) nothing (slice_split is_newline bs))
          (header_flat (ended (codes "saturn" ∷ decimal d.format ∷ [])) (ended (codes "sites" ∷ decimal d.sites ∷ [])) (ended (codes "gears" ∷ decimal d.gears ∷ [])) (items_text d.items) (clients_text d.clients) (plans_text d.plans) rest)
          ∙ first.0
          ∙ items.0
          ∙ clients.0
          ∙ plans.0,
      plans.1,
    )

-- and `begin`
pub begin_goes : (dialect : Dialect) (d : Deployed) (rest : List ℕ) → IsDeployment d → IsFit (lines dialect d)
    → (script_from (lines dialect d) nothing (slice_split is_newline (ended (codes "begin" ∷ []) ++ rest)) ≡ script_from (after (lines dialect d) parsed.Begin) (good d []) (slice_split is_newline rest)) × IsFit (after (lines dialect d) parsed.Begin)
begin_goes dialect d rest is fit =
    let s : State = lines dialect d in
    let some = is.some_plan in (
      line_step s nothing (codes "begin" ∷ []) rest parsed.Begin (line_fits stage.Header s parsed.Begin fit.header is.few_sites some) refl (header_line_reads s (codes "begin" ∷ []) parsed.Begin refl (begin_reads s some)),
      stands_after s parsed.Begin fit some,
    )

last_lines : (dialect : Dialect) (d : Deployed) (acts : List Act) → IsDeployment d → IsFit (lines dialect d) → AreActsOf d acts → AreAllowed dialect acts → length acts ≤ (limits_of dialect d.format).acts → settles_of acts ≤ (limits_of dialect d.format).settles
    → script_from (lines dialect d) nothing (slice_split is_newline (ended (codes "begin" ∷ []) ++ (acts_text d acts ++ ended (codes "end" ∷ [])))) ≡ good d acts
last_lines dialect d acts is fit each free few settles =
    let body = begin_goes dialect d (acts_text d acts ++ ended (codes "end" ∷ [])) is fit in
    body.0 ∙ body_reads dialect d acts 0 0 (good d []) body.1.header each free (omega (arith, few)) (omega (arith, settles))

pub spelled_reads : (live : Bool) (text : List ℕ) (d : Deployed) (acts : List Act) → Spells text d acts → IsAllowed live d acts → reading live text ≡ good d acts
unfolding reading spelling
spelled_reads live text d acts s free =
    let is = s.deployment in
    let most = limits live d acts is s.few s.settles free in
    let header = header_reads (dialect_of live) d (ended (codes "begin" ∷ []) ++ (acts_text d acts ++ ended (codes "end" ∷ []))) is s.names most.sites most.clients in
    ap (λ (bs : List ℕ). script_from (start (dialect_of live)) nothing (slice_split is_newline bs)) s.spelled
    ∙ header.0
    ∙ last_lines (dialect_of live) d acts is header.1 s.each most.each most.few most.settles
