-- The verdict on a history, and how it is printed.
use Rattle.std.specs.Prelude.{ℕ, Bool, true, false, List, [], ◌∷◌, ◌++◌, map, reverse, Option, Some, None, codes}
use Rattle.std.specs.Fmt.{decimal}
use Rattle.sat_label.specs.declared.items.Items.TheVariants.{One}
use Rattle.sat_label.specs.declared.point.Point.{Point}
use Rattle.sat_label.specs.declared.site_set.SiteSet.{SiteSet}
use Rattle.sat_act.specs.Deployed.{Deployed}
use Rattle.sat_act.specs.declared.act.Act.{Act}
use Rattle.sat_act.specs.declared.act.Act.TheVariants as act
use Rattle.sat_act.specs.declared.deployment.Item.{Item}
use Rattle.sat_verdict.specs.declared.tale.Tale.{Tale}
use Rattle.sat_verdict.specs.declared.tale.Tale.TheVariants as tale
use Rattle.sat_verdict.specs.declared.verdict.Verdict.{Verdict}
use Rattle.sat_verdict.specs.Found.{first_again, first_lack, first_miss}
use Rattle.sat_verdict.specs.Verdicts.{IsCausalVerdict, IsFreshVerdict, IsOnceVerdict}
use Rattle.sat_audit.specs.declared.heard.Heard.{Heard}
use Rattle.sat_audit.specs.declared.heard.History.{History}
use Rattle.sat_audit.specs.declared.told.Told.{Told}
use Rattle.sat_audit.specs.declared.told.Told.TheVariants as told

-- ---- what an entry tells

-- a write, with its items
abbrev pub wrote_tale : Act → Point → Tale
wrote_tale (act.Write c x value) p = tale.Wrote c (One x) p
wrote_tale (act.Writes c items values) p = tale.Wrote c items p
wrote_tale _ p = tale.Other

abbrev pub read_none_tale : Act → Tale
read_none_tale (act.Read c x) = tale.ReadNone c x
read_none_tale _ = tale.Other

abbrev pub read_some_tale : Act → Point → Tale
read_some_tale (act.Read c x) p = tale.ReadSome c x p
read_some_tale _ p = tale.Other

abbrev pub moved_tale : Act → Point → Tale
moved_tale (act.Move c j) p = tale.Moved c p
moved_tale _ p = tale.Other

abbrev pub shown_tale : Act → Point → Tale
shown_tale (act.Turn j) p = tale.Shown j p
shown_tale (act.Stamp j) p = tale.Shown j p
shown_tale _ p = tale.Other

-- an act and what it was told, as far as it counts
abbrev pub tale_with : Act → Told → Tale
tale_with a (told.Wrote p) = wrote_tale a p
tale_with a told.ReadNone = read_none_tale a
tale_with a (told.ReadSome p) = read_some_tale a p
tale_with a (told.Moved p) = moved_tale a p
tale_with a (told.Shown p) = shown_tale a p
tale_with a told.Other = tale.Other

-- what an entry of a given history counts for
abbrev pub tale_of : Heard → Tale
tale_of e = tale_with e.act e.told

-- what a history tells, the newest entry first
abbrev pub tales_of : History → List Tale
tales_of h = reverse (map tale_of h.heard)

-- the sites that keep each item
abbrev pub replicas_of : Item → SiteSet
replicas_of item = item.replicas

abbrev pub sets_of : Deployed → List SiteSet
sets_of d = map replicas_of d.items

-- ---- the verdict

-- What a verdict says of a history: of each law a yes where it holds of all entries, else the first that offends.
pub record IsVerdictOf (h : History) (v : Verdict) : Type 0 where
  pub causal : IsCausalVerdict (sets_of h.deployment) (tales_of h) v.causal
  pub once : IsOnceVerdict (sets_of h.deployment) (tales_of h) v.once
  pub fresh : IsFreshVerdict (tales_of h) v.fresh

-- the verdict that there is
unfoldable pub verdict_of : History → Verdict
unfolding first_again first_lack first_miss
verdict_of h = record {
  causal = first_lack (sets_of h.deployment) (tales_of h) (tales_of h);
  once = first_again (sets_of h.deployment) (tales_of h) (tales_of h);
  fresh = first_miss (tales_of h) (tales_of h);
}

-- no law is broken
abbrev pub is_none_of : {X : Type 0} → Option X → Bool → Bool
is_none_of None b = b
is_none_of (Some x) b = false

abbrev pub is_yes : Verdict → Bool
is_yes v = is_none_of v.causal (is_none_of v.once (is_none_of v.fresh true))

-- ---- its text

abbrev pub numbers_text : List ℕ → List ℕ
numbers_text [] = 10 ∷ []
numbers_text (n ∷ numbers) = 32 ∷ (decimal n ++ numbers_text numbers)

abbrev pub causal_text : Option (ℕ × ℕ × ℕ) → List ℕ
causal_text None = codes "causal yes\n"
causal_text (Some v) = codes "causal no" ++ numbers_text (v.0 ∷ v.1 ∷ v.2 ∷ [])

abbrev pub once_text : Option ℕ → List ℕ
once_text None = codes "once yes\n"
once_text (Some n) = codes "once no" ++ numbers_text (n ∷ [])

abbrev pub fresh_text : Option (ℕ × ℕ) → List ℕ
fresh_text None = codes "fresh yes\n"
fresh_text (Some v) = codes "fresh no" ++ numbers_text (v.0 ∷ v.1 ∷ [])

-- the lines of a verdict
unfoldable pub verdict_text : Verdict → List ℕ
verdict_text v = causal_text v.causal ++ (once_text v.once ++ fresh_text v.fresh)
