-- What a site knows: what it showed, and what the clients that came to it knew.
use Rattle.std.specs.Prelude.{◌≡◌, ◌⊎◌, ℕ, true, List, [], ◌∷◌}
use Rattle.sat_label.specs.declared.label.Label.{Label}
use Rattle.sat_act.specs.declared.act.Act.{Act}
use Rattle.sat_act.specs.declared.act.Act.TheVariants as act
use Rattle.sat_act.specs.declared.answer.Answer.{Answer}
use Rattle.sat_act.specs.declared.answer.Answer.TheVariants as ans
use Rattle.sat_act.specs.declared.entry.Entry.{Entry}
use Rattle.sat_act.specs.Done.{is_at}
use Rattle.sat_act.specs.Causes.{Past, Cause}

-- what site j learns by an entry
abbrev pub SiteLearned : List Entry → Act → Answer → ℕ → Label → Type 0
SiteLearned h a (ans.Wrote b) j l = (b.point.site ≡ j) × (b ≡ l)
SiteLearned h a (ans.Shown b) j l = (is_at a j ≡ true) × ((b ≡ l) ⊎ Cause h b l)
SiteLearned h a ans.Attached j l = (c : ℕ) × (a ≡ act.Attach c j) × Past h c l
SiteLearned h a _ j l = ⊥

-- site j knows a label: it showed it, or what it showed, or a client that came to it, had it in its past
unfoldable pub SiteKnows : List Entry → ℕ → Label → Type 0
SiteKnows [] j l = ⊥
SiteKnows (x ∷ h) j l = SiteKnows h j l ⊎ SiteLearned h x.act x.answer j l
