-- Journals that are read at some places alone.
use Rattle.std.proofs.Common.{◌≡◌, ◌<◌, ℕ, ◌+◌, Bool, true, false, not, ◌&&◌, List, [], ◌∷◌, ◌++◌, length, take, get_or, zero, suc, Option, Some, None, slice_get, sym, subst, ap, ◌∙◌, arith, refl}
use Rattle.std.specs.List.{flat_map}
use Rattle.std.proofs.lemmas.List.{append-nil, take_more, take_all, flat_map_more}
use Rattle.std.proofs.lemmas.Option.{none-some, same_Some, slice_get_read}
use Rattle.sat_act.specs.declared.answer.Answer.{Answer}
use Rattle.sat_act.specs.declared.answer.Answer.TheVariants as ans
use Rattle.sat_act.specs.Deployed.{Deployed}
use Rattle.sat_label.specs.declared.items.Items.{Items}
use Rattle.sat_node.specs.declared.kept.Kept.{Kept as Line}
use Rattle.sat_hub_laws.specs.Changes.{input_is_own}
use Rattle.sat_hub_laws.specs.Parts.{same_home, written_at}
use Rattle.sat_stitch.specs.Kept.{entry_of}
use Rattle.sat_parts.specs.declared.hub_answer.HubAnswer.{HubAnswer}
use Rattle.sat_parts.specs.declared.gear_answer.GearAnswer.{GearAnswer}
use Rattle.sat_parts.specs.declared.hub_input.HubInput.{HubInput}
use Rattle.sat_parts.specs.declared.hub_input.HubInput.TheVariants as hub
use Rattle.sat_parts.specs.declared.gear_input.GearInput.{GearInput}
use Rattle.sat_parts.specs.declared.gear_input.GearInput.TheVariants as gear
use Rattle.sat_parts.specs.Acts.{HubActSeen, GearActSeen, gear_handed}
use Rattle.sat_parts_opened.specs.Collected.{gear_gives, hub_gives, shows_at, write_gives}
use Rattle.sat_parts_opened.specs.Keeping.{gear_kept, hub_kept}
use Rattle.sat_finish.specs.Parts.{PartSeen, gear_given, home_given, hub_given, hub_part, is_part_of, kept_part, part_if, written_part}
use Rattle.sat_finish.specs.Marks.{Covers, HandedMarks, HubMarks, WrittenMarks, gear_tells, hub_tells, is_handed, is_shown, is_written, noted, read_as, read_at}

-- ---- any list

module _ {A B : Type 0} (f : A → List B) where
  marked : (xs : List A) (i : ℕ) (x : A) (ps qs : List ℕ) → i < length xs → x ≡ get_or xs i x → qs ≡ ps ++ i ∷ [] → read_at f xs ps ≡ flat_map f (take i xs) → read_at f xs qs ≡ flat_map f (take (i + 1) xs)
  marked xs i x ps qs lt is grown so-far =
      ap (read_at f xs) grown ∙
      (sym (flat_map_more (λ p. read_as f (slice_get xs p)) [] ps i) ∙
      ((λ t. so-far t ++ ap (read_as f) (slice_get_read xs (length xs) i x (λ _. length xs) lt is) t) ∙
      (flat_map_more f [] (take i xs) x ∙
      ap (flat_map f) (ap (λ (y : A). take i xs ++ y ∷ []) is ∙ sym (take_more xs i x lt)))))

  passed : (xs : List A) (i : ℕ) (x : A) (ps : List ℕ) → i < length xs → x ≡ get_or xs i x → f x ≡ [] → read_at f xs ps ≡ flat_map f (take i xs) → read_at f xs ps ≡ flat_map f (take (i + 1) xs)
  passed xs i x ps lt is none so-far =
      so-far ∙
      (sym (append-nil (flat_map f (take i xs))) ∙
      ((λ t. flat_map f (take i xs) ++ sym none t) ∙
      (flat_map_more f [] (take i xs) x ∙
      ap (flat_map f) (ap (λ (y : A). take i xs ++ y ∷ []) is ∙ sym (take_more xs i x lt)))))

  -- one more member, where the test passes over none that tells something
  pub one_noted : (xs : List A) (n i : ℕ) (x : A) (ps qs : List ℕ) (b : Bool) → n ≡ i → i < length xs → x ≡ get_or xs i x → (b ≡ false → f x ≡ []) → qs ≡ noted ps n b → read_at f xs ps ≡ flat_map f (take i xs) → read_at f xs qs ≡ flat_map f (take (i + 1) xs)
  one_noted xs n i x ps qs true e lt is none grown so-far = marked xs i x ps qs lt is (grown ∙ ap (λ (m : ℕ). ps ++ m ∷ []) e) so-far
  one_noted xs n i x ps qs false e lt is none grown so-far = ap (read_at f xs) grown ∙ passed xs i x ps lt is (none (λ _. false)) so-far

  -- all members
  pub all_noted : (xs : List A) (i : ℕ) (ps : List ℕ) → i ≡ length xs → read_at f xs ps ≡ flat_map f (take i xs) → Covers f xs ps
  all_noted xs i ps e so-far = so-far ∙ ap (flat_map f) (take_all i xs (omega (arith, e)))

  pub none_read : (ys : List B) (o : Option A) → o ≡ None → ys ≡ ys ++ read_as f o
  none_read ys o e = sym (append-nil ys) ∙ ap (λ (p : Option A). ys ++ read_as f p) (sym e)

-- ---- what an entry does not tell

never : {X : Type 0} → true ≡ false → X
never e = absurd (cc)

no-part : (b : Bool) (p : PartSeen) → b ≡ false → part_if b p ≡ []
no-part b p e = ap (λ (c : Bool). part_if c p) e

shown-none : (d : Deployed) (i g : ℕ) (r : Answer) → is_shown r ≡ false → shows_at d i g r ≡ false
shown-none d i g (ans.Shown l) e = never e
shown-none d i g _ e = refl

hub-none : (d : Deployed) (i g : ℕ) (input : HubInput) (r : Answer) → hub_tells input r ≡ false → hub_gives d i g input r ≡ false
hub-none d i g (hub.Gather drained) r e = never e
hub-none d i g (hub.Turn front) r e = shown-none d i g r e
hub-none d i g hub.Stamp r e = shown-none d i g r e
hub-none d i g _ r e = refl

written-none : (d : Deployed) (i g : ℕ) (items : Items) (r : Answer) → is_written r ≡ false → write_gives d i g items r ≡ false
written-none d i g items (ans.Wrote l) e = never e
written-none d i g items _ e = refl

gear-none : (d : Deployed) (i g : ℕ) (input : GearInput) (r : Answer) → gear_tells input r ≡ false → gear_gives d i g input r ≡ false
gear-none d i g (gear.Write seen items values) r e = written-none d i g items r e
gear-none d i g _ r e = refl

handed-none : (h : ℕ) (b : Bool) (r : Answer) → (b && is_written r) ≡ false → (b && same_home (written_at r) (Some h)) ≡ false
handed-none h false r e = refl
handed-none h true (ans.Wrote l) e = never e
handed-none h true _ e = refl

pub hub_untold : (d : Deployed) (i g : ℕ) (k : Line HubActSeen HubAnswer) (b : Bool) → b ≡ hub_tells k.input.input k.answer.answer → b ≡ false → hub_part d i g k ≡ []
hub_untold d i g k b is e =
    no-part (hub_gives d i g k.input.input k.answer.answer) (record { lamport = k.lamport; entry = entry_of (hub_kept i k); given = hub_given g k.input.input k.answer })
    (hub-none d i g k.input.input k.answer.answer (sym is ∙ e))

pub gear_untold : (d : Deployed) (i h g : ℕ) (k : Line GearActSeen GearAnswer) (b : Bool) → b ≡ gear_tells k.input.input k.answer.answer → b ≡ false → written_part d i h g k ≡ []
gear_untold d i h g k b is e =
    no-part (gear_gives d i g k.input.input k.answer.answer) (record { lamport = k.lamport; entry = entry_of (gear_kept i h k); given = home_given k.input.input k.answer.answer })
    (gear-none d i g k.input.input k.answer.answer (sym is ∙ e))

pub not_handed : (i g h : ℕ) (k : Line GearActSeen GearAnswer) (b : Bool) → b ≡ is_handed k.input.input k.answer.answer → b ≡ false → kept_part i g (Some h) k ≡ []
not_handed i g h k b is e =
    no-part (is_part_of (Some h) k) (record { lamport = k.lamport; entry = entry_of (gear_kept i g k); given = gear_given k.input.input })
    (handed-none h (not (input_is_own (gear_handed k.input.input))) k.answer.answer (sym is ∙ e))

-- ---- of journals that calls lend

pub hub_marks_as : (es fs : List (Line HubActSeen HubAnswer)) (ps qs : List ℕ) → es ≡ fs → ps ≡ qs → HubMarks fs qs → HubMarks es ps
hub_marks_as es fs ps qs e f w = subst (λ (xs : List (Line HubActSeen HubAnswer)). HubMarks xs ps) (sym e) (subst (HubMarks fs) (sym f) w)

pub written_marks_as : (es fs : List (Line GearActSeen GearAnswer)) (ps qs : List ℕ) → es ≡ fs → ps ≡ qs → WrittenMarks fs qs → WrittenMarks es ps
written_marks_as es fs ps qs e f w = subst (λ (xs : List (Line GearActSeen GearAnswer)). WrittenMarks xs ps) (sym e) (subst (WrittenMarks fs) (sym f) w)

pub handed_marks_as : (es fs : List (Line GearActSeen GearAnswer)) (ps qs : List ℕ) → es ≡ fs → ps ≡ qs → HandedMarks fs qs → HandedMarks es ps
handed_marks_as es fs ps qs e f w = subst (λ (xs : List (Line GearActSeen GearAnswer)). HandedMarks xs ps) (sym e) (subst (HandedMarks fs) (sym f) w)

-- ---- one more of several lists

pub one_pushed : {X : Type 0} (p : ℕ → X → Type 0) (xs ys : List X) (x : X) (n : ℕ) → n ≡ length xs → ys ≡ xs ++ x ∷ [] → p n x → ((m : ℕ) (y : X) → slice_get xs m ≡ Some y → p m y) → (m : ℕ) (y : X) → slice_get ys m ≡ Some y → p m y
one_pushed {X} p xs ys x n e grown new all = subst (λ (zs : List X). (m : ℕ) (y : X) → slice_get zs m ≡ Some y → p m y) (sym grown) (go p xs (subst (λ (m : ℕ). p m x) e new) all)
  where
    go : (q : ℕ → X → Type 0) (zs : List X) → q (length zs) x → ((m : ℕ) (y : X) → slice_get zs m ≡ Some y → q m y) → (m : ℕ) (y : X) → slice_get (zs ++ x ∷ []) m ≡ Some y → q m y
    go q [] last old zero y s = subst (q 0) (same_Some x y s) last
    go q [] last old (suc m) y s = absurd (none-some y s)
    go q (z ∷ zs) last old zero y s = old zero y s
    go q (z ∷ zs) last old (suc m) y s = go (λ k. q (suc k)) zs last (λ k v t. old (suc k) v t) m y s
