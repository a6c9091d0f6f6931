-- Lists of words that grow by one.
use Rattle.std.proofs.Common.{◌≡◌, ℕ, zero, suc, ◌+◌, ◌<◌, ◌^◌, Bool, true, false, cond, List, [], ◌∷◌, ◌++◌, length, map, filter, Result, Ok, Err, sym, ap, ◌∙◌, refl, subst, arith, add-one}
use Rattle.std.specs.List.{join_with_byte, AllByRecursion}
use Rattle.std.specs.Fmt.{decimal}
use Rattle.std.proofs.lemmas.List.{append_assoc, length-append, map-append}
use Rattle.std.proofs.lemmas.Fmt.{decimal_nonempty}
use Rattle.sat_label.specs.Words.{below, bit}
use Rattle.sat_label.specs.declared.site_set.SiteSet.{SiteSet}
use Rattle.std.specs.Prelude.{codes}
use Rattle.std.specs.Result.{OnErr}
use Rattle.sat_label.specs.Text.{AppendsFront}
use Rattle.sat_act.specs.Deployed.{Deployed}
use Rattle.sat_act.specs.declared.act.Act.{Act}
use Rattle.sat_script.specs.Spelled.{sites_text, line_text, with_comma, acts_text, ended, header_text, spelling}
use Rattle.sat_tree.specs.PlanLine.{spaced}
use Rattle.sat_tree.proofs.PlanLine.{joined-spaced, spaced-append}
use Rattle.sat_script.proofs.Lists.{all_more}
use Rattle.sat_script.proofs.Rising.{chosen}

-- ---- numbers with commas between them

abbrev IsSome : List ℕ → Type 0
IsSome word = 0 < length word

with_comma_some : (text word : List ℕ) → 0 < length text → with_comma text word ≡ text ++ 44 ∷ word
with_comma_some [] word some = absurd (omega arith)
with_comma_some (b ∷ text) word some = refl

first_some : (a : List ℕ) (words : List (List ℕ)) → 0 < length a → 0 < length (join_with_byte 44 (a ∷ words))
first_some a [] some = some
first_some a (b ∷ words) some = omega (arith, length-append a (44 ∷ join_with_byte 44 (b ∷ words)))

join_push : (words : List (List ℕ)) (word : List ℕ) → AllByRecursion IsSome words → join_with_byte 44 (words ++ word ∷ []) ≡ with_comma (join_with_byte 44 words) word
join_push [] word h = refl
join_push (a ∷ []) word h = sym (with_comma_some a word h.0)
join_push (a ∷ b ∷ words) word h =
    ap (λ bs. a ++ 44 ∷ bs) (join_push (b ∷ words) word h.1 ∙ with_comma_some (join_with_byte 44 (b ∷ words)) word (first_some b words h.1.0))
    ∙ sym (append_assoc a (44 ∷ join_with_byte 44 (b ∷ words)) (44 ∷ word))
    ∙ sym (with_comma_some (a ++ 44 ∷ join_with_byte 44 (b ∷ words)) word (omega (arith, length-append a (44 ∷ join_with_byte 44 (b ∷ words)))))

numbers_push : (p : ℕ → Bool) (n : ℕ) → map decimal (filter p (below (suc n))) ≡ cond (p n) (map decimal (filter p (below n)) ++ decimal n ∷ []) (map decimal (filter p (below n)))
numbers_push p n = ap (map decimal) (chosen p n) ∙ go (p n)
  where
    go : (b : Bool) → map decimal (cond b (filter p (below n) ++ n ∷ []) (filter p (below n))) ≡ cond b (map decimal (filter p (below n)) ++ decimal n ∷ []) (map decimal (filter p (below n)))
    go true = map-append decimal (filter p (below n)) (n ∷ [])
    go false = refl

numbers_some : (p : ℕ → Bool) (n : ℕ) → n < 2 ^ 64 → AllByRecursion IsSome (map decimal (filter p (below n)))
numbers_some p zero small = tt
numbers_some p (suc n) small = subst (λ words. AllByRecursion IsSome words) (sym (numbers_push p n)) (go (p n) (numbers_some p n (omega arith)))
  where
    go : (b : Bool) → AllByRecursion IsSome (map decimal (filter p (below n))) → AllByRecursion IsSome (cond b (map decimal (filter p (below n)) ++ decimal n ∷ []) (map decimal (filter p (below n))))
    go true before = all_more IsSome (map decimal (filter p (below n))) (decimal n) before (decimal_nonempty n (omega arith))
    go false before = before

abbrev sites_below : ℕ → ℕ → List ℕ
sites_below bits n = join_with_byte 44 (map decimal (filter (bit bits) (below n)))

sites_suc : (bits n : ℕ) → n < 2 ^ 64 → sites_below bits (suc n) ≡ cond (bit bits n) (with_comma (sites_below bits n) (decimal n)) (sites_below bits n)
sites_suc bits n small = ap (join_with_byte 44) (numbers_push (bit bits) n) ∙ go (bit bits n)
  where
    go : (b : Bool) → join_with_byte 44 (cond b (map decimal (filter (bit bits) (below n)) ++ decimal n ∷ []) (map decimal (filter (bit bits) (below n)))) ≡ cond b (with_comma (sites_below bits n) (decimal n)) (sites_below bits n)
    go true = join_push (map decimal (filter (bit bits) (below n))) (decimal n) (numbers_some (bit bits) n small)
    go false = refl

pub sites_more : (bits n : ℕ) (old now : List ℕ) → n < 2 ^ 64 → old ≡ join_with_byte 44 (map decimal (filter (bit bits) (below n))) → now ≡ cond (bit bits n) (with_comma old (decimal n)) old
    → now ≡ join_with_byte 44 (map decimal (filter (bit bits) (below (n + 1))))
sites_more bits n old now small had is = rw add-one (is ∙ ap (λ text. cond (bit bits n) (with_comma text (decimal n)) text) had ∙ sym (sites_suc bits n small))

-- ---- the plan's line

pub tree_line : (parents seats : List (List ℕ)) → line_text (codes "plan" ∷ codes "tree" ∷ (parents ++ codes "/" ∷ seats)) ≡ ((codes "plan tree" ++ spaced parents) ++ 32 ∷ codes "/") ++ spaced seats
tree_line parents seats =
    joined-spaced (codes "plan") (codes "tree" ∷ (parents ++ codes "/" ∷ seats))
    ∙ ap (λ bs. codes "plan tree" ++ bs) (spaced-append parents (codes "/" ∷ seats))
    ∙ simp append_assoc

-- ---- scripts

pub spelled_front : (d : Deployed) (acts : List Act) → spelling d acts ≡ (header_text d ++ ended (codes "begin" ∷ [])) ++ (acts_text d acts ++ ended (codes "end" ∷ []))
unfolding spelling
spelled_front d acts = sym (append_assoc (header_text d) (ended (codes "begin" ∷ [])) (acts_text d acts ++ ended (codes "end" ∷ [])))

pub on_err : {T E : Type 0} (r : Result T E) (P : Type 0) → P → OnErr r P
on_err (Ok x) P p = tt
on_err (Err e) P p = p

pub front_written : (old now text front rest : List ℕ) → text ≡ front ++ rest → now ≡ old ++ front → AppendsFront old now text
front_written old now text front rest parts added = record { front = front; rest = rest; parts = parts; added = added }

pub all_written : (old front out now text tail : List ℕ) → text ≡ front ++ tail → out ≡ old ++ front → now ≡ out ++ tail → now ≡ old ++ text
all_written old front out now text tail is had adds = adds ∙ ap (λ bs. bs ++ tail) had ∙ append_assoc old front tail ∙ ap (λ bs. old ++ bs) (sym is)

pub sites_all : (set : SiteSet) (n : ℕ) (word : List ℕ) → n ≡ 64 → word ≡ join_with_byte 44 (map decimal (filter (bit set.bits) (below n))) → word ≡ sites_text set
unfolding sites_text
sites_all set n word e h = h ∙ ap (λ (n : ℕ). join_with_byte 44 (map decimal (filter (bit set.bits) (below n)))) e
