-- Worked histories: what is found, by computation. Entries stand the newest first.
use Rattle.std.specs.Prelude.{◌≡◌, ℕ, List, [], ◌∷◌, Some, None, refl}
use Rattle.sat_label.specs.declared.point.Point.{Point}
use Rattle.sat_label.specs.declared.site_set.SiteSet.{SiteSet}
use Rattle.sat_label.specs.declared.items.Items.TheVariants.{One}
use Rattle.sat_verdict.specs.declared.tale.Tale.{Tale}
use Rattle.sat_verdict.specs.declared.tale.Tale.TheVariants.{Wrote, Moved, ReadNone, ReadSome, Shown, Other}
use Rattle.sat_verdict.specs.Found.{is_kept, has_shown, has_item, made_number, least_within, first_lack, first_again, first_miss}
use Rattle.sat_verdict.specs.Counts.{known}

at : ℕ → ℕ → Point
at ts site = record { ts = ts; site = site; gear = 0 }

-- three sites; item 0 is kept at 0 and 2, item 1 at 1 and 2
set : ℕ → SiteSet
set bits = record { bits = bits }

sets : List SiteSet
unfolding set
sets = set 5 ∷ set 6 ∷ []

-- a client writes p, attaches at site 1 and writes q; site 2 shows q before p
late : List Tale
unfolding at
late = Shown 2 (at 1 0) ∷ Shown 2 (at 2 1) ∷ Wrote 0 (One 1) (at 2 1) ∷ Other ∷ Other ∷ Wrote 0 (One 0) (at 1 0) ∷ []

late-causal : first_lack sets late late ≡ Some (5, 1, 2)
unfolding sets set late at first_lack least_within is_kept has_shown made_number known
late-causal = refl

late-once : first_again sets late late ≡ None
unfolding sets set late at first_again is_kept has_shown
late-once = refl

late-fresh : first_miss late late ≡ None
unfolding late at first_miss least_within has_item made_number known
late-fresh = refl

-- the last two exchanged
good : List Tale
unfolding at
good = Shown 2 (at 2 1) ∷ Shown 2 (at 1 0) ∷ Wrote 0 (One 1) (at 2 1) ∷ Other ∷ Other ∷ Wrote 0 (One 0) (at 1 0) ∷ []

good-causal : first_lack sets good good ≡ None
unfolding sets set good at first_lack least_within is_kept has_shown made_number known
good-causal = refl

-- one site, one item: a write and a read of none
stale : List Tale
unfolding at
stale = ReadNone 0 0 ∷ Wrote 0 (One 0) (at 1 0) ∷ []

stale-causal : first_lack (set 1 ∷ []) stale stale ≡ None
unfolding set stale at first_lack least_within is_kept has_shown made_number known
stale-causal = refl

stale-once : first_again (set 1 ∷ []) stale stale ≡ None
unfolding set stale at first_again is_kept has_shown
stale-once = refl

stale-fresh : first_miss stale stale ≡ Some (2, 1)
unfolding stale at first_miss least_within has_item made_number known
stale-fresh = refl

-- client 1 reads p before anybody made it and writes q; then client 0 makes p: p is a cause of q, and site 2 lacks it
early : List Tale
unfolding at
early = Shown 2 (at 2 1) ∷ Wrote 0 (One 0) (at 1 0) ∷ Wrote 1 (One 1) (at 2 1) ∷ ReadSome 1 0 (at 1 0) ∷ []

early-causal : first_lack sets early early ≡ Some (4, 3, 2)
unfolding sets set early at first_lack least_within is_kept has_shown made_number known
early-causal = refl

-- across two clients: client 0 writes p, client 1 reads it and moves, client 2 reads the move's point and writes q; site 2 shows q alone
across : List Tale
unfolding at
across = Shown 2 (at 3 1) ∷ Wrote 2 (One 1) (at 3 1) ∷ ReadSome 2 1 (at 2 0) ∷ Moved 1 (at 2 0) ∷ ReadSome 1 0 (at 1 0) ∷ Wrote 0 (One 0) (at 1 0) ∷ []

across-causal : first_lack sets across across ≡ Some (6, 1, 2)
unfolding sets set across at first_lack least_within is_kept has_shown made_number known
across-causal = refl
