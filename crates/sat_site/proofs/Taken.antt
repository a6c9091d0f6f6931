-- The parts of an update, which are taken and shown one after the other.
use Rattle.std.specs.Prelude.{◌≡◌, ◌≢◌, ℕ, Bool, true, false, List, [], ◌∷◌, length, set, get_or, Option, Some, None, refl}
use Rattle.std.proofs.Common.{ap, sym, subst, ◌∙◌, arith}
use Rattle.std.proofs.lemmas.List.{get_or-set_other}
use Rattle.sat_label.specs.declared.items.Items.{Items}
use Rattle.sat_label.specs.declared.items.Items.TheVariants.{One, Two, Three, Four}
use Rattle.sat_label.specs.declared.label.Kind.{Kind}
use Rattle.sat_label.specs.declared.label.Kind.TheVariants.{Update}
use Rattle.sat_label.specs.declared.label.Label.{Label}
use Rattle.sat_label.specs.Grouped.{list_of}
use Rattle.sat_label.specs.Versions.{Version}
use Rattle.sat_bulk.specs.Payloads.{Payload, version_for, version_in}
use Rattle.sat_sites.specs.Interested.{AreBelow}
use Rattle.sat_sites.specs.declared.shape.Shape.{Shape}
use Rattle.sat_act.specs.Parts.{items_of}
use Rattle.sat_hub.proofs.Wholes.{whole-count}
use Rattle.sat_site.specs.Seen.{SiteSeen, IsGuest, has_parts_here}
use Rattle.sat_site.specs.SiteSteps.{keeps_item, shown_at, shown_each, shown_of, shown_part, shown_parts, shown_version}

-- ---- a list of parts by its places

of-one : (ps : List (Option (List ℕ))) → length ps ≡ 1 → ps ≡ get_or ps 0 None ∷ []
of-one [] e = absurd (omega (arith, e))
of-one (p ∷ []) e = refl
of-one (p ∷ q ∷ ps) e = absurd (omega (arith, e))

of-two : (ps : List (Option (List ℕ))) → length ps ≡ 2 → ps ≡ get_or ps 0 None ∷ get_or ps 1 None ∷ []
of-two [] e = absurd (omega (arith, e))
of-two (p ∷ ps) e = ap (λ (qs : List (Option (List ℕ))). p ∷ qs) (of-one ps (omega (arith, e)))

of-three : (ps : List (Option (List ℕ))) → length ps ≡ 3 → ps ≡ get_or ps 0 None ∷ get_or ps 1 None ∷ get_or ps 2 None ∷ []
of-three [] e = absurd (omega (arith, e))
of-three (p ∷ ps) e = ap (λ (qs : List (Option (List ℕ))). p ∷ qs) (of-two ps (omega (arith, e)))

of-four : (ps : List (Option (List ℕ))) → length ps ≡ 4 → ps ≡ get_or ps 0 None ∷ get_or ps 1 None ∷ get_or ps 2 None ∷ get_or ps 3 None ∷ []
of-four [] e = absurd (omega (arith, e))
of-four (p ∷ ps) e = ap (λ (qs : List (Option (List ℕ))). p ∷ qs) (of-three ps (omega (arith, e)))

-- a part that is taken leaves the others
still : (ps qs : List (Option (List ℕ))) (n k : ℕ) → k ≢ n → qs ≡ set ps n None → get_or qs k None ≡ get_or ps k None
still ps qs n k other e = ap (λ (qs : List (Option (List ℕ))). get_or qs k None) e ∙ get_or-set_other ps n k None None other

-- ---- an update of so many items

shown-one : (x y : SiteSeen) (l : Label) (items : Items) (a : ℕ) (ps : List (Option (List ℕ))) (p : Option (List ℕ)) → items ≡ One a → length ps ≡ length (list_of items) → p ≡ get_or ps 0 None → y ≡ shown_part x l a p → y ≡ shown_parts x l items ps
unfolding shown_each
shown-one x y l items a ps p is many e f =
    let count : length ps ≡ 1 = many ∙ ap (λ (items : Items). length (list_of items)) is in
    f ∙ (ap (λ (p : Option (List ℕ)). shown_part x l a p) e ∙ (ap (shown_parts x l (One a)) (sym (of-one ps count)) ∙ ap (λ (items : Items). shown_parts x l items ps) (sym is)))

shown-two : (x y z : SiteSeen) (l : Label) (items : Items) (a b : ℕ) (ps qs : List (Option (List ℕ))) (p q : Option (List ℕ)) → items ≡ Two a b → length ps ≡ length (list_of items) → p ≡ get_or ps 0 None → qs ≡ set ps 0 None → q ≡ get_or qs 1 None →
    y ≡ shown_part x l a p → z ≡ shown_part y l b q → z ≡ shown_parts x l items ps
unfolding shown_each
shown-two x y z l items a b ps qs p q is many e s f g h =
    let count : length ps ≡ 2 = many ∙ ap (λ (items : Items). length (list_of items)) is in
    let second : q ≡ get_or ps 1 None = f ∙ still ps qs 0 1 (λ w. omega (arith, w)) s in
    h ∙ (ap (λ (y : SiteSeen). shown_part y l b q) g ∙
    ((λ j. shown_part (shown_part x l a (e j)) l b (second j)) ∙ (ap (shown_parts x l (Two a b)) (sym (of-two ps count)) ∙ ap (λ (items : Items). shown_parts x l items ps) (sym is))))

shown-three : (x y z w : SiteSeen) (l : Label) (items : Items) (a b c : ℕ) (ps qs rs : List (Option (List ℕ))) (p q r : Option (List ℕ)) → items ≡ Three a b c → length ps ≡ length (list_of items) → p ≡ get_or ps 0 None → qs ≡ set ps 0 None → q ≡ get_or qs 1 None → rs ≡ set qs 1 None → r ≡ get_or rs 2 None →
    y ≡ shown_part x l a p → z ≡ shown_part y l b q → w ≡ shown_part z l c r → w ≡ shown_parts x l items ps
unfolding shown_each
shown-three x y z w l items a b c ps qs rs p q r is many e s f t g h i k =
    let count : length ps ≡ 3 = many ∙ ap (λ (items : Items). length (list_of items)) is in
    let second : q ≡ get_or ps 1 None = f ∙ still ps qs 0 1 (λ w. omega (arith, w)) s in
    let third : r ≡ get_or ps 2 None = g ∙ (still qs rs 1 2 (λ w. omega (arith, w)) t ∙ still ps qs 0 2 (λ w. omega (arith, w)) s) in
    k ∙ (ap (λ (z : SiteSeen). shown_part z l c r) (i ∙ ap (λ (y : SiteSeen). shown_part y l b q) h) ∙
    ((λ j. shown_part (shown_part (shown_part x l a (e j)) l b (second j)) l c (third j)) ∙ (ap (shown_parts x l (Three a b c)) (sym (of-three ps count)) ∙ ap (λ (items : Items). shown_parts x l items ps) (sym is))))

shown-four : (x y z w v : SiteSeen) (l : Label) (items : Items) (a b c d : ℕ) (ps qs rs ts : List (Option (List ℕ))) (p q r t : Option (List ℕ)) → items ≡ Four a b c d → length ps ≡ length (list_of items) →
    p ≡ get_or ps 0 None → qs ≡ set ps 0 None → q ≡ get_or qs 1 None → rs ≡ set qs 1 None → r ≡ get_or rs 2 None → ts ≡ set rs 2 None → t ≡ get_or ts 3 None →
    y ≡ shown_part x l a p → z ≡ shown_part y l b q → w ≡ shown_part z l c r → v ≡ shown_part w l d t → v ≡ shown_parts x l items ps
unfolding shown_each
shown-four x y z w v l items a b c d ps qs rs ts p q r t is many e s f u g m h i k n o =
    let count : length ps ≡ 4 = many ∙ ap (λ (items : Items). length (list_of items)) is in
    let second : q ≡ get_or ps 1 None = f ∙ still ps qs 0 1 (λ w. omega (arith, w)) s in
    let third : r ≡ get_or ps 2 None = g ∙ (still qs rs 1 2 (λ w. omega (arith, w)) u ∙ still ps qs 0 2 (λ w. omega (arith, w)) s) in
    let fourth : t ≡ get_or ps 3 None = h ∙ (still rs ts 2 3 (λ w. omega (arith, w)) m ∙ (still qs rs 1 3 (λ w. omega (arith, w)) u ∙ still ps qs 0 3 (λ w. omega (arith, w)) s)) in
    o ∙ (ap (λ (w : SiteSeen). shown_part w l d t) (n ∙ ap (λ (z : SiteSeen). shown_part z l c r) (k ∙ ap (λ (y : SiteSeen). shown_part y l b q) i)) ∙
    ((λ j. shown_part (shown_part (shown_part (shown_part x l a (e j)) l b (second j)) l c (third j)) l d (fourth j)) ∙
    (ap (shown_parts x l (Four a b c d)) (sym (of-four ps count)) ∙ ap (λ (items : Items). shown_parts x l items ps) (sym is))))

-- ---- the same, with each part as the version that is taken out

version-shown : (x : SiteSeen) (l : Label) (k : ℕ) (o : Option (List ℕ)) → shown_version x k (version_for l o) ≡ shown_part x l k o
version-shown x l k None = go (keeps_item x k)
  where
    go : (b : Bool) → x ≡ record x { gears = shown_at b x.shape x.gears l k None }
    go true = refl
    go false = refl
version-shown x l k (Some value) = refl

-- what was taken of a payload whose label is p's
part-shown : (x y : SiteSeen) (p q : Payload) (n k : ℕ) (v : Option Version) → q.label ≡ p.label → v ≡ version_in q n → y ≡ shown_version x k v → y ≡ shown_part x p.label k (get_or q.values n None)
part-shown x y p q n k v label e f = f ∙ (ap (shown_version x k) e ∙ (version-shown x q.label k (get_or q.values n None) ∙ ap (λ (l : Label). shown_part x l k (get_or q.values n None)) label))

-- a part was taken out
abbrev Left : Payload → ℕ → Payload → Type 0
Left p n q = q ≡ record p { values = set p.values n None }

left-label : (p q : Payload) (n : ℕ) → Left p n q → q.label ≡ p.label
left-label p q n e = ap (λ (x : Payload). x.label) e

left-values : (p q : Payload) (n : ℕ) → Left p n q → q.values ≡ set p.values n None
left-values p q n e = ap (λ (x : Payload). x.values) e

pub taken-one : (x y : SiteSeen) (items : Items) (a : ℕ) (p : Payload) (v : Option Version) → items ≡ One a → length p.values ≡ length (list_of items) → v ≡ version_in p 0 → y ≡ shown_version x a v → y ≡ shown_parts x p.label items p.values
taken-one x y items a p v is many e f = shown-one x y p.label items a p.values (get_or p.values 0 None) is many refl (part-shown x y p p 0 a v refl e f)

pub taken-two : (x y z : SiteSeen) (items : Items) (a b : ℕ) (p q : Payload) (v w : Option Version) → items ≡ Two a b → length p.values ≡ length (list_of items) → v ≡ version_in p 0 → Left p 0 q → w ≡ version_in q 1 →
    y ≡ shown_version x a v → z ≡ shown_version y b w → z ≡ shown_parts x p.label items p.values
taken-two x y z items a b p q v w is many e s f g h =
    shown-two x y z p.label items a b p.values q.values (get_or p.values 0 None) (get_or q.values 1 None) is many refl (left-values p q 0 s) refl (part-shown x y p p 0 a v refl e g) (part-shown y z p q 1 b w (left-label p q 0 s) f h)

pub taken-three : (x y z t : SiteSeen) (items : Items) (a b c : ℕ) (p q r : Payload) (u v w : Option Version) → items ≡ Three a b c → length p.values ≡ length (list_of items) →
    u ≡ version_in p 0 → Left p 0 q → v ≡ version_in q 1 → Left q 1 r → w ≡ version_in r 2 →
    y ≡ shown_version x a u → z ≡ shown_version y b v → t ≡ shown_version z c w → t ≡ shown_parts x p.label items p.values
taken-three x y z t items a b c p q r u v w is many e s f m g h i k =
    shown-three x y z t p.label items a b c p.values q.values r.values (get_or p.values 0 None) (get_or q.values 1 None) (get_or r.values 2 None) is many refl (left-values p q 0 s) refl (left-values q r 1 m) refl
    (part-shown x y p p 0 a u refl e h) (part-shown y z p q 1 b v (left-label p q 0 s) f i) (part-shown z t p r 2 c w (left-label q r 1 m ∙ left-label p q 0 s) g k)

pub taken-four : (x y z t o : SiteSeen) (items : Items) (a b c d : ℕ) (p q r n : Payload) (u v w j : Option Version) → items ≡ Four a b c d → length p.values ≡ length (list_of items) →
    u ≡ version_in p 0 → Left p 0 q → v ≡ version_in q 1 → Left q 1 r → w ≡ version_in r 2 → Left r 2 n → j ≡ version_in n 3 →
    y ≡ shown_version x a u → z ≡ shown_version y b v → t ≡ shown_version z c w → o ≡ shown_version t d j → o ≡ shown_parts x p.label items p.values
taken-four x y z t o items a b c d p q r n u v w j is many e s f m g l h i k first second =
    shown-four x y z t o p.label items a b c d p.values q.values r.values n.values (get_or p.values 0 None) (get_or q.values 1 None) (get_or r.values 2 None) (get_or n.values 3 None) is many
    refl (left-values p q 0 s) refl (left-values q r 1 m) refl (left-values r n 2 l) refl
    (part-shown x y p p 0 a u refl e i) (part-shown y z p q 1 b v (left-label p q 0 s) f k) (part-shown z t p r 2 c w (left-label q r 1 m ∙ left-label p q 0 s) g first)
    (part-shown t o p n 3 d j (left-label r n 2 l ∙ (left-label q r 1 m ∙ left-label p q 0 s)) h second)

-- ---- a guest: its label was read as l, and its parts are q

guest-kind : (p : Payload) (l : Label) (items : Items) → l ≡ p.label → l.kind ≡ Update items → p.label.kind ≡ Update items
guest-kind p l items label kind = ap (λ (l : Label). l.kind) (sym label) ∙ kind

pub guest-items : (shape : Shape) (p : Payload) (l : Label) (items : Items) → IsGuest shape p → l ≡ p.label → l.kind ≡ Update items → AreBelow (length shape.interest.replicas) (list_of items)
guest-items shape p l items k label kind =
    let both : Update k.items.0 ≡ Update items = sym k.items.1 ∙ guest-kind p l items label kind in
    let same : k.items.0 ≡ items = cc in
    subst (λ (items : Items). AreBelow (length shape.interest.replicas) (list_of items)) same k.items.2

pub guest-count : (shape : Shape) (p q : Payload) (l : Label) (items : Items) → IsGuest shape p → l ≡ p.label → q ≡ p → l.kind ≡ Update items → length q.values ≡ length (list_of items)
guest-count shape p q l items k label same kind =
    ap (λ (q : Payload). length q.values) same ∙
    whole-count shape (list_of items) p.values (subst (λ (kind : Kind). has_parts_here shape (items_of kind) p.values ≡ true) (guest-kind p l items label kind) k.parts)

pub guest-shown : (x y : SiteSeen) (p q : Payload) (l : Label) (items : Items) → l ≡ p.label → q ≡ p → l.kind ≡ Update items → y ≡ shown_parts x q.label items q.values → y ≡ shown_of x p p.label.kind
guest-shown x y p q l items label same kind e = e ∙ (ap (λ (q : Payload). shown_parts x q.label items q.values) same ∙ ap (shown_of x p) (sym (guest-kind p l items label kind)))
