-- What a site knows of its epochs, and what its calls make of it.
use Rattle.std.specs.Prelude.{ℕ, ◌≡◌, ◌≤◌, ◌<◌, ◌+◌, ◌-◌, Bool, true, false, ◌||◌, ◌==◌, List, [], ◌∷◌, ◌++◌, length}
use Rattle.std.specs.Prelude.{get_or, replicate, slice_get, slice_set, Option, Some, None, if◌then◌else◌}
use Rattle.std.specs.List.{list_all}
use Rattle.sat_label.specs.declared.point.Point.{Point}
use Rattle.sat_label.specs.declared.limits.TheConstants.{MOST_EPOCHS}
use Rattle.sat_label.specs.Words.{below}
use Rattle.sat_epoch.specs.declared.views.CloseFault.{CloseFault}
use Rattle.sat_epoch.specs.declared.views.CloseFault.TheVariants as close
use Rattle.sat_epoch.specs.declared.views.FallFault.{FallFault}
use Rattle.sat_epoch.specs.declared.views.FallFault.TheVariants as fall
use Rattle.sat_epoch.specs.declared.views.AdvanceFault.{AdvanceFault}
use Rattle.sat_epoch.specs.declared.views.AdvanceFault.TheVariants as advance

-- the site, by epoch from 1 on whether its plan is stamp order, the epoch whose labels it takes and the
-- one in which it emits, whether it fell in its view, its close cuts, and by site whether its close of
-- the view was taken
pub record Epochs : Type 0 where
  pub site : ℕ
  pub stamp : List Bool
  pub view : ℕ
  pub emission : ℕ
  pub fallen : Bool
  pub closes : List Point
  pub heard : List Bool

-- before the first close
abbrev pub first_epochs : ℕ → ℕ → List Bool → Epochs
first_epochs sites site stamp =
    record {
      site = site;
      stamp = stamp;
      view = 1;
      emission = 1;
      fallen = false;
      closes = [];
      heard = replicate sites false;
    }

-- whether the plan of an epoch is stamp order
abbrev pub is_stamp : Epochs → ℕ → Bool
is_stamp s epoch = get_or s.stamp (epoch - 1) false

-- whether the site orders by timestamp
abbrev pub in_stamp : Epochs → Bool
in_stamp s = is_stamp s s.view || s.fallen

-- the close cut of an epoch, if it was closed
abbrev pub close_cut : Epochs → ℕ → Option Point
close_cut s epoch = if epoch == 0 then None else slice_get s.closes (epoch - 1)

-- whether all labels of the view that a site sent were taken: its own, or those before a close
abbrev pub was_heard : Epochs → ℕ → Bool
was_heard s k = (k == s.site) || get_or s.heard k false

-- whether the close of the view was taken of each other site
abbrev pub all_heard : Epochs → Bool
all_heard s = list_all (was_heard s) (below (length s.heard))

-- ---- why not

-- why a site can't close an epoch: there is no later one, or its view has not come so far
abbrev pub close_fault : Epochs → Option CloseFault
close_fault s =
    if s.emission == length s.stamp then Some close.NoNextEpoch
    else (if s.emission == s.view + 1 then Some close.Behind else None)

-- why a site can't fall back: it is in timestamp order, or has not closed the epoch that it views
abbrev pub fall_fault : Epochs → Option FallFault
fall_fault s = if in_stamp s then Some fall.StampOrder else (if s.emission == s.view then Some fall.NotClosed else None)

-- by whether all labels of the view came
abbrev pub advance_fault : Epochs → Bool → Option AdvanceFault
advance_fault s came =
    if s.emission == s.view then Some advance.NotClosed else (if came then None else Some advance.NotYet)

-- ---- what the calls make of it

-- a close at a cut: the next epoch is emitted in, and the cut is kept
abbrev pub after_close : Epochs → Point → Epochs
after_close s cut = record s { emission = s.emission + 1; closes = s.closes ++ cut ∷ [] }

-- a site that fell shows by timestamps until its view advances
abbrev pub after_fall : Epochs → Epochs
after_fall s = record s { fallen = true }

-- the close of a site was heard in the view's tree
abbrev pub after_hear : Epochs → ℕ → Epochs
after_hear s from = record s { heard = slice_set s.heard from true }

-- in the next epoch no close was heard, and the fall is over
abbrev pub after_advance : Epochs → Epochs
after_advance s = record s { view = s.view + 1; fallen = false; heard = replicate (length s.heard) false }

-- ---- what is true of each

-- it emits in its view or in the next epoch, and each epoch before that one is closed; it fell only after it closed its
-- view
pub record IsEpochs (s : Epochs) : Type 0 where
  pub own : s.site < length s.heard
  pub few_epochs : length s.stamp ≤ MOST_EPOCHS
  pub start : 1 ≤ s.view
  pub low : s.view ≤ s.emission
  pub high : s.emission ≤ s.view + 1
  pub last : s.emission ≤ length s.stamp
  pub closed : length s.closes + 1 ≡ s.emission
  pub fell : s.fallen ≡ true → s.emission ≡ s.view + 1

-- and there is room for the close cuts that may come
pub record HasRoom (s : Epochs) (capacity : ℕ) : Type 0 where
  pub epochs : IsEpochs s
  pub room : length s.stamp ≤ capacity
