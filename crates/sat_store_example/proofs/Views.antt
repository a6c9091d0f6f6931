-- The epochs of a site have links.
use Rattle.std.proofs.Common.{◌≡◌, ◌≤◌, ◌<◌, ◌+◌, ℕ, length, arith}
use Rattle.sat_label.specs.declared.limits.TheConstants.{MOST_EPOCHS}
use Rattle.sat_epoch.specs.Epochs.{Epochs, IsEpochs}
use Rattle.sat_site.specs.Seen.{SiteSeen, IsSite}
use Rattle.sat_store_example.specs.declared.links.TheConstants.{LINKS}

small : (n most : ℕ) → n ≤ most → most ≤ MOST_EPOCHS → n < LINKS
small n most low high = omega arith

less : (a b most : ℕ) → a ≤ b → b ≤ most → a ≤ most
less a b most low high = omega arith

pub emission_is_small : (x : SiteSeen) → IsSite x → x.views.emission < LINKS
emission_is_small x k = small x.views.emission (length x.views.stamp) k.views.sound.last k.views.sound.few_epochs

pub view_is_small : (x : SiteSeen) → IsSite x → x.views.view < LINKS
view_is_small x k = small x.views.view (length x.views.stamp) (less x.views.view x.views.emission (length x.views.stamp) k.views.sound.low k.views.sound.last) k.views.sound.few_epochs
