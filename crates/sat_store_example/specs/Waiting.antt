-- The labels that wait on links, by the epochs of these.
use Rattle.std.specs.Prelude.{ℕ, Bool, false, List, [], ◌∷◌, ◌++◌, drop, get_or, replicate, Option, Some, None}
use Rattle.sat_label.specs.declared.label.Label.{Label}
use Rattle.sat_label.specs.Order.{label_eq}
use Rattle.sat_net.specs.Nets.{change_at}
use Rattle.sat_store_example.specs.declared.links.TheConstants.{LINKS}

-- none
abbrev pub no_links : List (List Label)
no_links = replicate LINKS []

-- those on the link of an epoch, the oldest first
abbrev pub link_of : List (List Label) → ℕ → List Label
link_of links epoch = get_or links epoch []

-- a label more at the end of a link
abbrev pub with_label : List (List Label) → ℕ → Label → List (List Label)
with_label links epoch l = change_at (λ link. link ++ l ∷ []) epoch links

-- a link without its oldest label
abbrev pub without_front : List (List Label) → ℕ → List (List Label)
without_front links epoch = change_at (λ link. drop 1 link) epoch links

-- whether a label is the one that there is
abbrev pub is_it : Label → Option Label → Bool
is_it l None = false
is_it l (Some front) = label_eq front l
