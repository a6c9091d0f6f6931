-- What a site makes of labels of the link to it that it turns one after another.
use Rattle.std.specs.Prelude.{ℕ, suc, ◌+◌, ◌≡◌, true, List, slice_get, Some}
use Rattle.sat_label.specs.declared.label.Label.{Label}
use Rattle.sat_act.specs.declared.answer.Answer.{Answer}
use Rattle.sat_act.specs.declared.answer.Answer.TheVariants as ans
use Rattle.sat_act.specs.Settling.{is_done}
use Rattle.sat_proxy.specs.Answers.{turn_answer}
use Rattle.sat_site.specs.Seen.{SiteSeen, IsSite}
use Rattle.sat_site.specs.SiteSteps.{turned_after}

-- how many updates were shown, with one more answer
abbrev pub shown_more : Answer → ℕ → ℕ
shown_more (ans.Shown l) m = m + 1
shown_more _ m = m

-- the site has turned the first so many of these labels, one after another, and each was done; so many of them showed
-- an update
pub data TurnsOn (x : SiteSeen) (ls : List Label) : ℕ → ℕ → SiteSeen → Type 0 where
  none : TurnsOn x ls 0 0 x
  more : (k m : ℕ) (y : SiteSeen) (l : Label) → TurnsOn x ls k m y → IsSite y → slice_get ls k ≡ Some l
      → is_done (turn_answer y.views y.proxy (Some l)) ≡ true
      → TurnsOn x ls (suc k) (shown_more (turn_answer y.views y.proxy (Some l)) m) (turned_after y (Some l))
