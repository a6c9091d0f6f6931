-- A text begins with at most one spelling: its lines up to `begin` are read as one deployment, and those of acts say one act each.
use Rattle.std.proofs.Common.{◌≡◌, ℕ, true, false, List, [], ◌∷◌, ◌++◌, Option, Some, None, Result, Ok, sym, ap, ◌∙◌, refl, subst, arith}
use Rattle.std.specs.List.{slice_split, join_with_byte}
use Rattle.std.specs.Prelude.{codes}
use Rattle.std.proofs.lemmas.List.{append_assoc, append_cancel_left}
use Rattle.std.proofs.lemmas.List.Splits.{join_with_byte-slice_split, slice_split_at}
use Rattle.sat_label.specs.Text.{is_between}
use Rattle.sat_act.specs.Deployed.{Deployed}
use Rattle.sat_act.specs.Limits.{IsDeployment}
use Rattle.sat_act.specs.Ranges.{IsActOf}
use Rattle.sat_act.specs.declared.act.Act.{Act}
use Rattle.sat_script.specs.Grammar.{is_end}
use Rattle.sat_script.specs.Kept.{IsWhole}
use Rattle.sat_script.specs.Spelled.{AreActsOf, HaveNames, line_text, ended, acts_text, header_text, spelling}
use Rattle.sat_script.specs.State.{start}
use Rattle.sat_script.specs.Table.{act_line, act_words}
use Rattle.sat_script.specs.Words.{is_newline, words_of}
use Rattle.sat_script.specs.declared.dialect.Dialect.TheVariants as dialect
use Rattle.sat_script.specs.declared.fault.Cause.{Cause}
use Rattle.sat_script.specs.declared.form.Form.{Form}
use Rattle.sat_stream.specs.declared.stream.Reading.{Reading}
use Rattle.sat_stream.specs.Laws.{SpellingsBeginOnce}
use Rattle.sat_stream.specs.Reading.{script_from, reading, nothing}
use Rattle.sat_script.proofs.ActsRead.{acts_read, not_end}
use Rattle.sat_stream.proofs.Drained.{begun_stays}
use Rattle.sat_stream.proofs.Spelled.{begin_goes, header_reads}
use Rattle.sat_stream.proofs.Texts.{IsLine, act_line_fits, again, is_text-line, lacks, no_newline}

-- ---- a line

line_first : (words : List (List ℕ)) (rest : List ℕ) → IsLine words → slice_split is_newline (ended words ++ rest) ≡ line_text words ∷ slice_split is_newline rest
line_first words rest line =
    ap (slice_split is_newline) (append_assoc (line_text words) (10 ∷ []) rest)
    ∙ slice_split_at is_newline (line_text words) 10 rest (lacks is_newline (is_between 32 126) no_newline (line_text words) (is_text-line words line)) refl

same_parts : {X : Type 0} (x y : X) (xs ys : List X) → x ∷ xs ≡ y ∷ ys → (x ≡ y) × (xs ≡ ys)
same_parts x y xs ys e = (cc, cc)

-- two texts that are one begin with the same line of words, and the same stands behind it
line_once : (u v : List (List ℕ)) (r s : List ℕ) → IsLine u → IsLine v → ended u ++ r ≡ ended v ++ s → (u ≡ v) × (r ≡ s)
line_once u v r s one other e =
    let both = same_parts (line_text u) (line_text v) (slice_split is_newline r) (slice_split is_newline s) (sym (line_first u r one) ∙ ap (slice_split is_newline) e ∙ line_first v s other) in (
      sym (again u one.each one.some) ∙ ap words_of both.0 ∙ again v other.each other.some,
      sym (join_with_byte-slice_split 10 r) ∙ ap (join_with_byte 10) both.1 ∙ join_with_byte-slice_split 10 s,
    )

-- ---- the acts

abbrev no_bar : Form → Option Cause
no_bar f = None

same_act : (a b : Act) → (let r : Result Act Cause = Ok a in r) ≡ Ok b → a ≡ b
same_act a b e = cc

act_once : (d : Deployed) (a b : Act) → IsWhole d → IsActOf d a → IsActOf d b → act_words d a ≡ act_words d b → a ≡ b
act_once d a b is one other e =
    same_act a b (sym (acts_read no_bar d a is.deployment is.names one refl) ∙ ap (act_line no_bar d) e ∙ acts_read no_bar d b is.deployment is.names other refl)

abbrev end_words : List (List ℕ)
end_words = codes "end" ∷ []

end_line : IsLine end_words
end_line = record { each = (refl, tt); some = omega arith; short = omega arith }

-- no act's line is the line `end`
never_end : (d : Deployed) (a : Act) (r s : List ℕ) → IsWhole d → IsActOf d a → ended end_words ++ r ≡ ended (act_words d a) ++ s → ⊥
never_end d a r s is fits e =
    let never : true ≡ false = ap is_end (line_once end_words (act_words d a) r s end_line (act_line_fits d a is fits) e).0 ∙ not_end d a in cc

acts_once : (d : Deployed) (a b : List Act) (r s : List ℕ) → IsWhole d → AreActsOf d a → AreActsOf d b → acts_text d a ++ (ended end_words ++ r) ≡ acts_text d b ++ (ended end_words ++ s) → (a ≡ b) × (r ≡ s)
acts_once d [] [] r s is one other e = (refl, append_cancel_left (ended end_words) r s e)
acts_once d [] (y ∷ b) r s is one other e =
    absurd (never_end d y r (acts_text d b ++ (ended end_words ++ s)) is other.0 (e ∙ append_assoc (ended (act_words d y)) (acts_text d b) (ended end_words ++ s)))
acts_once d (x ∷ a) [] r s is one other e =
    absurd (never_end d x s (acts_text d a ++ (ended end_words ++ r)) is one.0 (sym e ∙ append_assoc (ended (act_words d x)) (acts_text d a) (ended end_words ++ r)))
acts_once d (x ∷ a) (y ∷ b) r s is one other e =
    let line =
    line_once (act_words d x) (act_words d y) (acts_text d a ++ (ended end_words ++ r)) (acts_text d b ++ (ended end_words ++ s)) (act_line_fits d x is one.0) (act_line_fits d y is other.0)
    (sym (append_assoc (ended (act_words d x)) (acts_text d a) (ended end_words ++ r)) ∙ e ∙ append_assoc (ended (act_words d y)) (acts_text d b) (ended end_words ++ s)) in
    let more = acts_once d a b r s is one.1 other.1 line.1 in
    (ap (λ (z : Act). z ∷ a) (act_once d x y is one.0 other.0 line.0) ∙ ap (λ (zs : List Act). y ∷ zs) more.0, more.1)

-- ---- a spelling

abbrev begin_text : List ℕ
begin_text = ended (codes "begin" ∷ [])

flat : (header begun acts end rest : List ℕ) → (header ++ (begun ++ (acts ++ end))) ++ rest ≡ header ++ (begun ++ (acts ++ (end ++ rest)))
flat header begun acts end rest = simp append_assoc

-- whatever stands behind it, its deployment is read
deployment_read : (d : Deployed) (acts : List Act) (rest : List ℕ) → IsDeployment d → HaveNames d → ((reading false (spelling d acts ++ rest)).deployment ≡ Some d) × IsWhole d
unfolding reading spelling
deployment_read d acts rest is names =
    let body : List ℕ = acts_text d acts ++ (ended end_words ++ rest) in
    let header = header_reads dialect.Run d (begin_text ++ body) is names is.sites_allowed is.few_clients in
    let begun = begin_goes dialect.Run d body is header.1 in (
      ap (λ (bs : List ℕ). (script_from (start dialect.Run) nothing (slice_split is_newline bs)).deployment) (flat (header_text d) begin_text (acts_text d acts) (ended end_words) rest)
          ∙ ap (λ (r : Reading). r.deployment) (header.0 ∙ begun.0)
          ∙ begun_stays dialect.Run d (slice_split is_newline body) begun.1,
      begun.1.header,
    )

acts_read_once : (d : Deployed) (a b : List Act) (r s : List ℕ) → IsWhole d → AreActsOf d a → AreActsOf d b → spelling d a ++ r ≡ spelling d b ++ s → (a ≡ b) × (r ≡ s)
unfolding spelling
acts_read_once d a b r s is one other e =
    acts_once d a b r s is one other
    (append_cancel_left begin_text _ _
    (append_cancel_left (header_text d) _ _
    (sym (flat (header_text d) begin_text (acts_text d a) (ended end_words) r) ∙ e ∙ flat (header_text d) begin_text (acts_text d b) (ended end_words) s)))

pub begins_once : SpellingsBeginOnce
begins_once d e a b r s one other same =
    let here = deployment_read d a r one.deployment one.names in
    let there = deployment_read e b s other.deployment other.names in
    let known : Some d ≡ Some e = sym here.0 ∙ ap (λ (bs : List ℕ). (reading false bs).deployment) same ∙ there.0 in
    let is : d ≡ e = cc in
    let acts = acts_read_once d a b r s here.1 one.each (subst (λ (x : Deployed). AreActsOf x b) (sym is) other.each) (same ∙ ap (λ (x : Deployed). spelling x b ++ s) (sym is)) in
    (is, acts.0, acts.1)
