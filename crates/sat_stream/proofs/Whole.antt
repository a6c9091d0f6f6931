-- A text has no fault exactly where it is the spelling of its deployment and its acts.
use Rattle.std.proofs.Common.{◌≡◌, ℕ, ◌+◌, ◌-◌, ◌*◌, ◌≤◌, Bool, true, false, cond, eqb, ltb, List, [], ◌∷◌, ◌++◌, length, Option, Some, None, Result, Ok, Err, sym, ap, ◌∙◌, refl, subst, arith}
use Rattle.std.specs.List.{filter, flat_map, slice_split, join_with_byte}
use Rattle.std.specs.Prelude.{codes, ◌==◌, if◌then◌else◌}
use Rattle.std.specs.Fmt.{decimal}
use Rattle.std.proofs.lemmas.List.{append-nil, append_assoc, length-append}
use Rattle.std.proofs.lemmas.Grind.{flat_map-append}
use Rattle.std.proofs.lemmas.List.Elements.{filter-append}
use Rattle.std.proofs.lemmas.List.Splits.{join_with_byte-slice_split}
use Rattle.sat_label.specs.Formats.{limits_of as format_limits}
use Rattle.sat_act.specs.Deployed.{Deployed}
use Rattle.sat_act.specs.Ranges.{IsActOf}
use Rattle.sat_act.specs.Runs.{is_settle}
use Rattle.sat_act.specs.declared.act.Act.{Act}
use Rattle.sat_act.specs.declared.act.Act.TheVariants as act
use Rattle.sat_act.specs.declared.deployment.Item.{Item}
use Rattle.sat_act.specs.declared.deployment.ClientLine.{ClientLine}
use Rattle.sat_act.specs.declared.deployment.Plan.{Plan}
use Rattle.sat_script.specs.Grammar.{line_at, close_at, close_in, after, next_stage, with_parsed, with_act, with_settle, told_line}
use Rattle.sat_stream.specs.Laws.{IsRead}
use Rattle.sat_stream.specs.Stream.{line_bytes, bytes_until}
use Rattle.sat_script.specs.Kept.{IsFit, HasActs, HasHeader}
use Rattle.sat_stream.specs.Coming.{HasSaid}
use Rattle.sat_stream.specs.Reading.{script_from, reading, nothing, after_line, closed, with_line, AreAllowed, IsAllowed, IsWithin}
use Rattle.sat_script.specs.Spelled.{AreActsOf, settles_of, line_text, item_words, client_words, plan_words, ended, items_text, clients_text, plans_text, acts_text, header_text, spelling, Spells}
use Rattle.sat_script.specs.Table.{act_words, form_of}
use Rattle.sat_script.specs.Dialect.{has_form, dialect_of, limits_of}
use Rattle.sat_script.specs.State.{State, start, number_of, header_lines, first_of}
use Rattle.sat_script.specs.Words.{is_newline}
use Rattle.sat_script.specs.declared.dialect.Dialect.{Dialect}
use Rattle.sat_script.specs.declared.dialect.Dialect.TheVariants as dialect
use Rattle.sat_script.specs.declared.fault.Cause.{Cause}
use Rattle.sat_script.specs.declared.fault.Cause.TheVariants.{LongLine, NoEnd}
use Rattle.sat_script.specs.declared.limits.TheConstants.{LONGEST_LINE, LIVE_ACTS, AUDIT_ACTS}
use Rattle.sat_stream.specs.declared.limits.TheConstants.{LINE_BYTES, LONG_LINE_BYTES, MOST_BYTES, MOST_LINES, MOST_LONG_LINES}
use Rattle.sat_script.specs.declared.line.Parsed.{Parsed}
use Rattle.sat_script.specs.declared.line.Parsed.TheVariants as parsed
use Rattle.sat_script.specs.declared.line.Stage.{Stage}
use Rattle.sat_script.specs.declared.line.Stage.TheVariants as stage
use Rattle.sat_stream.specs.declared.stream.Reading.{Reading}
use Rattle.sat_script.proofs.Lists.{all_more}
use Rattle.sat_script.proofs.Stands.{parsed_words, Stands, limits_few}
use Rattle.sat_script.proofs.Fits.{line_is, fit_start, fit_after, acts_allowed}
use Rattle.sat_stream.proofs.Texts.{line_sized, line_size, line_text-words}

-- ---- counting lines and bytes

number-after : (here : Stage) (s : State) (p : Parsed) → Stands here s p
    → first_of (next_stage here p) + header_lines (with_parsed s.header p) + with_act s.acts p ≡ first_of here + header_lines s.header + s.acts + 1
number-after stage.Start s (parsed.Format f) h = omega arith
number-after stage.Sites s (parsed.Sites n) h = omega arith
number-after stage.Gears s (parsed.Gears n) h = omega arith
number-after stage.Header s (parsed.Item item) h = omega (arith, length-append s.header.items (item ∷ []))
number-after stage.Header s (parsed.Client line) h = omega (arith, length-append s.header.clients (line ∷ []))
number-after stage.Header s (parsed.Plan p) h = omega (arith, length-append s.header.plans (p ∷ []))
number-after stage.Header s parsed.Begin h = omega arith
number-after stage.Body s (parsed.Act a) h = omega arith
number-after stage.Body s parsed.End h = omega arith
number-after _ s _ h = absurd h

first_some : (here : Stage) → 1 ≤ first_of here
first_some stage.Start = omega arith
first_some _ = omega arith

first_few : (here : Stage) → first_of here ≤ 6
first_few stage.Start = omega arith
first_few _ = omega arith

-- a line more of a format, and the first line, which says the format
step : (format n m size : ℕ) → 1 ≤ n → m ≡ n + 1 → size + 1 ≤ line_bytes format → line_bytes format * (n - 1) + size + 1 ≤ line_bytes format * (m - 1)
step format n m size some next few = go (eqb format 1) few
  where
    go : (b : Bool) → size + 1 ≤ cond b LINE_BYTES LONG_LINE_BYTES → cond b LINE_BYTES LONG_LINE_BYTES * (n - 1) + size + 1 ≤ cond b LINE_BYTES LONG_LINE_BYTES * (m - 1)
    go true few = omega (arith, some, next, few)
    go false few = omega (arith, some, next, few)

first_step : (before format n m size : ℕ) → n ≡ 1 → m ≡ n + 1 → size + 1 ≤ line_bytes format → line_bytes before * (n - 1) + size + 1 ≤ line_bytes format * (m - 1)
first_step before format n m size first next few = go (eqb before 1) (eqb format 1) few
  where
    go : (a b : Bool) → size + 1 ≤ cond b LINE_BYTES LONG_LINE_BYTES → cond a LINE_BYTES LONG_LINE_BYTES * (n - 1) + size + 1 ≤ cond b LINE_BYTES LONG_LINE_BYTES * (m - 1)
    go true true few = omega (arith, first, next, few)
    go true false few = omega (arith, first, next, few)
    go false true few = omega (arith, first, next, few)
    go false false few = omega (arith, first, next, few)

line_step : (here : Stage) (s : State) (p : Parsed) (n m size : ℕ) → (here ≡ stage.Start → n ≡ 1) → Stands here s p → 1 ≤ n → m ≡ n + 1 → size + 1 ≤ line_bytes (with_parsed s.header p).format
    → line_bytes s.header.format * (n - 1) + size + 1 ≤ line_bytes (with_parsed s.header p).format * (m - 1)
line_step stage.Start s (parsed.Format f) n m size first h some next few = first_step s.header.format f n m size (first refl) next few
line_step stage.Sites s (parsed.Sites k) n m size first h some next few = step s.header.format n m size some next few
line_step stage.Gears s (parsed.Gears k) n m size first h some next few = step s.header.format n m size some next few
line_step stage.Header s (parsed.Item item) n m size first h some next few = step s.header.format n m size some next few
line_step stage.Header s (parsed.Client line) n m size first h some next few = step s.header.format n m size some next few
line_step stage.Header s (parsed.Plan p) n m size first h some next few = step s.header.format n m size some next few
line_step stage.Header s parsed.Begin n m size first h some next few = step s.header.format n m size some next few
line_step stage.Body s (parsed.Act a) n m size first h some next few = step s.header.format n m size some next few
line_step stage.Body s parsed.End n m size first h some next few = step s.header.format n m size some next few
line_step _ s _ n m size first h some next few = absurd h

at_start : (s : State) → IsFit s → s.stage ≡ stage.Start → number_of s ≡ 1
unfolding number_of
at_start s fit e =
    let kept = subst (λ (here : Stage). HasHeader here s.header) e fit.header in
    let none = subst (λ (here : Stage). HasActs here s.acts) e fit.begun in
    omega (arith, ap first_of e, ap header_lines kept, none)

-- a good line has few bytes, and is one line more
pub line_counted : (s : State) (line : List ℕ) (p : Parsed) → IsFit s → line_at s line ≡ Ok p → bytes_until s + length line + 1 ≤ bytes_until (after s p)
unfolding bytes_until number_of
line_counted s line p fit h =
    let is = line_is s line p fit h in
    let most = (limits_few s.dialect s.header.format).sites in
    let fits = line_sized s.stage s p fit.header (omega (arith, fit.sites)) is.stands in
    let text : line ≡ line_text (parsed_words s.header p) = sym (line_text-words line) ∙ ap line_text is.spelled in
    let few = line_size (line_bytes (with_parsed s.header p).format) (parsed_words s.header p) fits in
    let same : length line ≡ length (line_text (parsed_words s.header p)) = ap length text in
    let next = number-after s.stage s p is.stands in
    let some = first_some s.stage in
    line_step s.stage s p (number_of s) (number_of (after s p)) (length line) (at_start s fit) is.stands (omega arith) next (omega (arith, same, few))

-- no good script of a format has more lines
abbrev pub most_lines : ℕ → ℕ
most_lines format = if format == 1 then MOST_LINES else MOST_LONG_LINES

-- a format that allows more items, or longer lines, allows fewer acts
few_lines : (dialect : Dialect) (format n : ℕ) → n ≤ 1045 + (limits_of dialect format).items + (limits_of dialect format).acts → line_bytes format * n ≤ line_bytes format * most_lines format
few_lines dialect.Run format n few = go (eqb format 1) few
  where
    go : (b : Bool) → n ≤ 1045 + (cond b (format_limits 1) (format_limits 2)).items + (cond b (format_limits 1) (format_limits 2)).acts → cond b LINE_BYTES LONG_LINE_BYTES * n ≤ cond b LINE_BYTES LONG_LINE_BYTES * cond b MOST_LINES MOST_LONG_LINES
    go true few = omega (arith, few)
    go false few = omega (arith, few)
few_lines dialect.Chain format n few = go (eqb format 1) few
  where
    go : (b : Bool) → n ≤ 1045 + (cond b (format_limits 1) (format_limits 2)).items + (cond b (format_limits 1) (format_limits 2)).acts → cond b LINE_BYTES LONG_LINE_BYTES * n ≤ cond b LINE_BYTES LONG_LINE_BYTES * cond b MOST_LINES MOST_LONG_LINES
    go true few = omega (arith, few)
    go false few = omega (arith, few)
few_lines dialect.Lasting format n few = go (eqb format 1) few
  where
    go : (b : Bool) → n ≤ 1045 + (cond b (format_limits 1) (format_limits 2)).items + (cond b (format_limits 1) (format_limits 2)).acts → cond b LINE_BYTES LONG_LINE_BYTES * n ≤ cond b LINE_BYTES LONG_LINE_BYTES * cond b MOST_LINES MOST_LONG_LINES
    go true few = omega (arith, few)
    go false few = omega (arith, few)
few_lines dialect.Audit format n few = go (eqb format 1) few
  where
    go : (b : Bool) → n ≤ 1045 + (cond b (format_limits 1) (format_limits 2)).items + AUDIT_ACTS → cond b LINE_BYTES LONG_LINE_BYTES * n ≤ cond b LINE_BYTES LONG_LINE_BYTES * cond b MOST_LINES MOST_LONG_LINES
    go true few = omega (arith, few)
    go false few = omega (arith, few)
few_lines dialect.Live format n few = go (eqb format 1) few
  where
    go : (b : Bool) → n ≤ 1045 + (cond b (format_limits 1) (format_limits 2)).items + LIVE_ACTS → cond b LINE_BYTES LONG_LINE_BYTES * n ≤ cond b LINE_BYTES LONG_LINE_BYTES * cond b MOST_LINES MOST_LONG_LINES
    go true few = omega (arith, few)
    go false few = omega (arith, few)

pub lines_counted : (s : State) → IsFit s → bytes_until s ≤ line_bytes s.header.format * most_lines s.header.format
unfolding bytes_until number_of
lines_counted s fit =
    let first = first_few s.stage in
    let clients = (limits_few s.dialect s.header.format).clients in
    few_lines s.dialect s.header.format (number_of s - 1) (omega (arith, clients, fit.items, fit.clients, fit.plans, fit.acts))

-- so many lines and the beginning of one more are few bytes in every format
pub bytes_within : (format : ℕ) → line_bytes format * most_lines format + LONGEST_LINE ≤ MOST_BYTES
bytes_within format = go (eqb format 1)
  where
    go : (b : Bool) → cond b LINE_BYTES LONG_LINE_BYTES * cond b MOST_LINES MOST_LONG_LINES + LONGEST_LINE ≤ MOST_BYTES
    go true = omega arith
    go false = omega arith

-- ---- what good lines said

pub said_after : (here : Stage) (s : State) (p : Parsed) (r : Reading) → Stands here s p → HasSaid s.dialect here s.header r.deployment r.acts
    → HasSaid s.dialect (next_stage here p) (with_parsed s.header p) (with_line s.header r (told_line p)).deployment (with_line s.header r (told_line p)).acts
said_after stage.Start s (parsed.Format f) r h said = said
said_after stage.Sites s (parsed.Sites k) r h said = said
said_after stage.Gears s (parsed.Gears k) r h said = said
said_after stage.Header s (parsed.Item item) r h said = said
said_after stage.Header s (parsed.Client line) r h said = said
said_after stage.Header s (parsed.Plan p) r h said = said
said_after stage.Header s parsed.Begin r h said = (refl, subst (λ (acts : List Act). AreActsOf s.header acts) (sym said.1) tt, subst (λ (acts : List Act). AreAllowed s.dialect acts) (sym said.1) tt)
said_after stage.Body s (parsed.Act a) r h said =
    (said.0, all_more (λ (a : Act). IsActOf s.header a) r.acts a said.1 h.fits, all_more (λ (a : Act). has_form s.dialect (form_of a) ≡ true) r.acts a said.2 h.has)
said_after stage.Body s parsed.End r h said = said
said_after _ s _ r h said = absurd h

pub few_after : (d : Deployed) (n : ℕ) (p : Parsed) (r : Reading) → length r.acts ≤ n → length (with_line d r (told_line p)).acts ≤ with_act n p
few_after d n (parsed.Act a) r few = omega (arith, length-append r.acts (a ∷ []))
few_after d n _ r few = few

-- one act more: it is a settle, or not
settles_push : (n : ℕ) (acts : List Act) (a : Act) → settles_of acts ≤ n → settles_of (acts ++ a ∷ []) ≤ with_settle n (parsed.Act a)
settles_push n acts act.Settle few = let more = ap length (filter-append is_settle acts (act.Settle ∷ [])) ∙ length-append (filter is_settle acts) (act.Settle ∷ []) in omega (arith, more)
settles_push n acts a few = let more = ap length (filter-append is_settle acts (a ∷ [])) ∙ length-append (filter is_settle acts) (filter is_settle (a ∷ [])) in omega (arith, more)

pub settles_after : (d : Deployed) (n : ℕ) (p : Parsed) (r : Reading) → settles_of r.acts ≤ n → settles_of (with_line d r (told_line p)).acts ≤ with_settle n p
settles_after d n (parsed.Act a) r few = settles_push n r.acts a few
settles_after d n _ r few = few

-- ---- the text of good lines

text_more : {X : Type 0} (text : X → List ℕ) (xs : List X) (x : X) → flat_map text (xs ++ x ∷ []) ≡ flat_map text xs ++ text x
text_more text xs x = flat_map-append text xs (x ∷ []) ∙ ap (λ (bs : List ℕ). flat_map text xs ++ bs) (append-nil (text x))

-- the lines so far
abbrev front : Stage → Deployed → List Act → List ℕ
front stage.Start d acts = []
front stage.Sites d acts = ended (codes "saturn" ∷ decimal d.format ∷ [])
front stage.Gears d acts = ended (codes "saturn" ∷ decimal d.format ∷ []) ++ ended (codes "sites" ∷ decimal d.sites ∷ [])
front stage.Header d acts = header_text d
front stage.Body d acts = header_text d ++ (ended (codes "begin" ∷ []) ++ acts_text d acts)
front stage.Ended d acts = header_text d ++ (ended (codes "begin" ∷ []) ++ (acts_text d acts ++ ended (codes "end" ∷ [])))

opened_front : (a b c x : List ℕ) → a ++ (b ++ (c ++ ([] ++ ([] ++ [])))) ≡ (a ++ b) ++ c
opened_front a b c x = simp (append_assoc, append-nil)

item_front : (a b c items e : List ℕ) → a ++ (b ++ (c ++ ((items ++ e) ++ ([] ++ [])))) ≡ (a ++ (b ++ (c ++ (items ++ ([] ++ []))))) ++ e
item_front a b c items e = simp (append_assoc, append-nil)

client_front : (a b c items clients e : List ℕ) → a ++ (b ++ (c ++ (items ++ ((clients ++ e) ++ [])))) ≡ (a ++ (b ++ (c ++ (items ++ (clients ++ []))))) ++ e
client_front a b c items clients e = simp (append_assoc, append-nil)

plan_front : (a b c items clients plans e : List ℕ) → a ++ (b ++ (c ++ (items ++ (clients ++ (plans ++ e))))) ≡ (a ++ (b ++ (c ++ (items ++ (clients ++ plans))))) ++ e
plan_front a b c items clients plans e = simp append_assoc

body_front : (h b acts e : List ℕ) → h ++ (b ++ (acts ++ e)) ≡ (h ++ (b ++ acts)) ++ e
body_front h b acts e = simp append_assoc

front-after : (here : Stage) (s : State) (p : Parsed) (r : Reading) → HasHeader here s.header → Stands here s p → HasSaid s.dialect here s.header r.deployment r.acts
    → front (next_stage here p) (with_parsed s.header p) (with_line s.header r (told_line p)).acts ≡ front here s.header r.acts ++ ended (parsed_words s.header p)
unfolding header_text
front-after stage.Start s (parsed.Format f) r kept h said = refl
front-after stage.Sites s (parsed.Sites k) r kept h said = refl
front-after stage.Gears s (parsed.Gears k) r kept h said =
    let items = kept.items in
    let clients = kept.clients in
    let plans = kept.plans in
    rw (items, clients, plans) (opened_front (ended (codes "saturn" ∷ decimal s.header.format ∷ [])) (ended (codes "sites" ∷ decimal s.header.sites ∷ [])) (ended (codes "gears" ∷ decimal k ∷ [])) [])
front-after stage.Header s (parsed.Item item) r kept h said =
    let clients = h.clients in
    let plans = h.plans in
    rw (clients, plans, text_more (λ (item : Item). ended (item_words item)) s.header.items item) (item_front (ended (codes "saturn" ∷ decimal s.header.format ∷ [])) (ended (codes "sites" ∷ decimal s.header.sites ∷ [])) (ended (codes "gears" ∷ decimal s.header.gears ∷ [])) (items_text s.header.items) (ended (item_words item)))
front-after stage.Header s (parsed.Client line) r kept h said =
    let plans = h.plans in
    rw (plans, text_more (λ (line : ClientLine). ended (client_words line)) s.header.clients line) (client_front (ended (codes "saturn" ∷ decimal s.header.format ∷ [])) (ended (codes "sites" ∷ decimal s.header.sites ∷ [])) (ended (codes "gears" ∷ decimal s.header.gears ∷ [])) (items_text s.header.items) (clients_text s.header.clients) (ended (client_words line)))
front-after stage.Header s (parsed.Plan p) r kept h said =
    rw (text_more (λ (p : Plan). ended (plan_words p)) s.header.plans p) (plan_front (ended (codes "saturn" ∷ decimal s.header.format ∷ [])) (ended (codes "sites" ∷ decimal s.header.sites ∷ [])) (ended (codes "gears" ∷ decimal s.header.gears ∷ [])) (items_text s.header.items) (clients_text s.header.clients) (plans_text s.header.plans) (ended (plan_words p)))
front-after stage.Header s parsed.Begin r kept h said = ap (λ (acts : List Act). header_text s.header ++ (ended (codes "begin" ∷ []) ++ acts_text s.header acts)) said.1 ∙ ap (λ (bs : List ℕ). header_text s.header ++ bs) (append-nil (ended (codes "begin" ∷ [])))
front-after stage.Body s (parsed.Act a) r kept h said = ap (λ (bs : List ℕ). header_text s.header ++ (ended (codes "begin" ∷ []) ++ bs)) (text_more (λ (a : Act). ended (act_words s.header a)) r.acts a) ∙ body_front (header_text s.header) (ended (codes "begin" ∷ [])) (acts_text s.header r.acts) (ended (act_words s.header a))
front-after stage.Body s parsed.End r kept h said = body_front (header_text s.header) (ended (codes "begin" ∷ [])) (acts_text s.header r.acts) (ended (codes "end" ∷ []))
front-after _ s _ r kept h said = absurd h

-- ---- a text without a fault spells what was read

-- good lines came, and this is their text
record IsSo (s : State) (r : Reading) (text : List ℕ) : Type 0 where
  fit : IsFit s
  said : HasSaid s.dialect s.stage s.header r.deployment r.acts
  few : length r.acts ≤ s.acts
  settles : settles_of r.acts ≤ s.settles
  spelled : text ≡ front s.stage s.header r.acts

so_after : (s : State) (r : Reading) (text line : List ℕ) (p : Parsed) → IsSo s r text → line_at s line ≡ Ok p → IsSo (after s p) (with_line s.header r (told_line p)) (text ++ (line ++ 10 ∷ []))
so_after s r text line p so h =
    let is = line_is s line p so.fit h in
    let same : line ≡ line_text (parsed_words s.header p) = sym (line_text-words line) ∙ ap line_text is.spelled in
    record {
      fit = fit_after s line p so.fit h;
      said = said_after s.stage s p r is.stands so.said;
      few = few_after s.header s.acts p r so.few;
      settles = settles_after s.header s.settles p r so.settles;
      spelled =
          ap (λ (bs : List ℕ). bs ++ (line ++ 10 ∷ [])) so.spelled
          ∙ ap (λ (bs : List ℕ). front s.stage s.header r.acts ++ (bs ++ 10 ∷ [])) same
          ∙ sym (front-after s.stage s p r so.fit.header is.stands so.said);
    }

-- what is read in a dialect
abbrev IsReadIn : Dialect → Reading → List ℕ → Type 0
IsReadIn dialect found text = (d : Deployed) × (found.deployment ≡ Some d) × Spells text d found.acts × IsWithin dialect d found.acts

allowed : (live : Bool) (d : Deployed) (acts : List Act) → IsWithin (dialect_of live) d acts → IsAllowed live d acts
allowed true d acts h = h
allowed false d acts h = tt

never_none : (b : Bool) (x y : Cause) → cond b (Some x) (Some y) ≡ None → ⊥
never_none true x y h = cc
never_none false x y h = cc

close_ends : (here : Stage) (rest : List ℕ) → close_in here rest ≡ None → (here ≡ stage.Ended) × (rest ≡ [])
unfolding close_in
close_ends stage.Ended [] h = (refl, refl)
close_ends stage.Ended (b ∷ rest) h = absurd (cc)
close_ends _ rest h = absurd (never_none (ltb LONGEST_LINE (length rest)) LongLine NoEnd h)

read_ended : (s : State) (r : Reading) (text rest : List ℕ) → IsSo s r text → s.stage ≡ stage.Ended → rest ≡ [] → IsReadIn s.dialect r (text ++ rest)
unfolding spelling
read_ended s r text rest so e none =
    let said = subst (λ (here : Stage). HasSaid s.dialect here s.header r.deployment r.acts) e so.said in
    let most = limits_few s.dialect s.header.format in
    let kept = subst (λ (here : Stage). HasHeader here s.header) e so.fit.header in (
      s.header,
      said.0,
      record {
        spelled = ap (λ (bs : List ℕ). text ++ bs) none ∙ append-nil text ∙ so.spelled ∙ ap (λ (here : Stage). front here s.header r.acts) e;
        deployment = kept.deployment;
        names = kept.names;
        each = said.1;
        few = acts_allowed s.dialect s.header.format (length r.acts) (omega (arith, so.few, so.fit.acts));
        settles = omega (arith, so.settles, so.fit.settles, most.settles);
      },
      record { sites = so.fit.sites; clients = so.fit.clients; few = omega (arith, so.few, so.fit.acts); settles = omega (arith, so.settles, so.fit.settles); each = said.2 },
    )

read_end : (s : State) (r : Reading) (text rest : List ℕ) → IsSo s r text → (o : Option Cause) → close_at s rest ≡ o → (closed s r o).fault ≡ None → IsReadIn s.dialect (closed s r o) (text ++ rest)
read_end s r text rest so None e none = let c = close_ends s.stage rest e in read_ended s r text rest so c.0 c.1
read_end s r text rest so (Some cause) e none = absurd (cc)

read_line : (s : State) (r : Reading) (text line rest : List ℕ) (go_on : State → Reading → Reading) → IsSo s r text
    → ((p : Parsed) → IsSo (after s p) (with_line s.header r (told_line p)) (text ++ (line ++ 10 ∷ [])) → (go_on (after s p) (with_line s.header r (told_line p))).fault ≡ None
    → IsReadIn s.dialect (go_on (after s p) (with_line s.header r (told_line p))) ((text ++ (line ++ 10 ∷ [])) ++ rest))
    → (result : Result Parsed Cause) → line_at s line ≡ result → (after_line s r go_on result).fault ≡ None → IsReadIn s.dialect (after_line s r go_on result) (text ++ (line ++ 10 ∷ rest))
read_line s r text line rest go_on so goes (Ok p) e none =
    let same : (text ++ (line ++ 10 ∷ [])) ++ rest ≡ text ++ (line ++ 10 ∷ rest) = append_assoc text (line ++ 10 ∷ []) rest ∙ ap (λ (bs : List ℕ). text ++ bs) (append_assoc line (10 ∷ []) rest) in
    subst (λ (bs : List ℕ). IsReadIn s.dialect (go_on (after s p) (with_line s.header r (told_line p))) bs) same (goes p (so_after s r text line p so e) none)
read_line s r text line rest go_on so goes (Err cause) e none = absurd (cc)

read_parts : (s : State) (r : Reading) (text : List ℕ) (parts : List (List ℕ)) → IsSo s r text → (script_from s r parts).fault ≡ None → IsReadIn s.dialect (script_from s r parts) (text ++ join_with_byte 10 parts)
unfolding script_from
read_parts s r text [] so none = read_end s r text [] so (close_at s []) refl none
read_parts s r text (rest ∷ []) so none = read_end s r text rest so (close_at s rest) refl none
read_parts s r text (line ∷ part ∷ parts) so none =
    read_line s r text line (join_with_byte 10 (part ∷ parts)) (λ later more. script_from later more (part ∷ parts)) so
    (λ p next good. read_parts (after s p) (with_line s.header r (told_line p)) (text ++ (line ++ 10 ∷ [])) (part ∷ parts) next good)
    (line_at s line) refl none

so_far : (dialect : Dialect) → IsSo (start dialect) nothing []
so_far dialect = record { fit = fit_start dialect; said = (refl, refl); few = omega arith; settles = omega arith; spelled = refl }

pub read_spells : (live : Bool) (text : List ℕ) → (reading live text).fault ≡ None → IsRead live (reading live text) text
unfolding reading
read_spells live text none =
    let is =
    subst (λ (bs : List ℕ). IsReadIn (dialect_of live) (script_from (start (dialect_of live)) nothing (slice_split is_newline text)) bs) (join_with_byte-slice_split 10 text)
    (read_parts (start (dialect_of live)) nothing [] (slice_split is_newline text) (so_far (dialect_of live)) none) in
    (is.0, is.1, is.2, allowed live is.0 (script_from (start (dialect_of live)) nothing (slice_split is_newline text)).acts is.3)
