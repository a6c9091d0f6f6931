-- What waits for a link is sent.
use Rattle.std.specs.Prelude.{◌≡◌, ◌⊎◌, List, Option}
use Rattle.sat_link.specs.Ends.{rise}
use Rattle.sat_node.specs.declared.kept.Kept.{Kept}
use Rattle.sat_node.specs.declared.kept.Made.{Made}
use Rattle.sat_node.specs.Puts.{OutSeen, put_by}

-- all that the journal puts there was sent, or the link was found full once more, which was counted
abbrev pub SentOrFull : {I A : Type 0} → (I → A → Option Made) → List (Kept I A) → OutSeen → OutSeen → Type 0
SentOrFull of ks p o = (o.link.sent ≡ put_by of ks) ⊎ (o.link.fulls ≡ rise p.link.fulls)
