-- What was written or shown is read.
use Rattle.std.proofs.Common.{◌≡◌, ◌∙◌, ℕ, zero, suc, ◌<◌, ◌/◌, Bool, true, false, List, [], ◌∷◌, length, set, Option, Some, None, slice_get, refl, sym, ap, subst, arith}
use Rattle.std.specs.Prelude.{if◌then◌else◌}
use Rattle.std.proofs.lemmas.Bool.{and_parts}
use Rattle.std.proofs.lemmas.List.{get_or-set_same}
use Rattle.sat_label.specs.declared.carried.Carried.{Carried}
use Rattle.sat_label.specs.declared.items.Items.TheVariants.{One}
use Rattle.sat_label.specs.declared.label.Kind.TheVariants as kind
use Rattle.sat_label.specs.declared.label.Label.{Label}
use Rattle.sat_label.specs.declared.point.Point.{Point}
use Rattle.sat_label.specs.declared.site_set.SiteSet.{SiteSet}
use Rattle.sat_label.specs.Order.{label_lt}
use Rattle.sat_label.specs.Words.{bit}
use Rattle.sat_sites.specs.declared.shape.Shape.{Shape}
use Rattle.sat_label.specs.Versions.{Version}
use Rattle.sat_store.specs.Stored.{newer}
use Rattle.sat_gear.specs.Gear.{GearSeen, IsGear, after_show, after_write, is_spent, payload_with, stamped, version_of}
use Rattle.sat_gear.proofs.Places.{within_places}
use Rattle.sat_act.specs.declared.answer.Answer.{Answer}
use Rattle.sat_act.specs.declared.answer.Answer.TheVariants as ans
use Rattle.sat_site.specs.declared.input.SiteInput.TheVariants as input
use Rattle.sat_site.specs.Seen.{SiteSeen, IsSite}
use Rattle.sat_site.specs.Changes.{gear_at, with_gear}
use Rattle.sat_site.specs.SiteSteps.{keeps_each, keeps_item, read_answer, shown_at, shown_by, shown_each, site_after, site_answers, stamp_after_of, stamp_answer_of, version_answer, write_after, write_answer}
use Rattle.sat_store_example.specs.Replicas.{newer_read, ReadsNewer}

set-there : {X : Type 0} (xs : List X) (i : ℕ) (x y : X) → slice_get xs i ≡ Some x → slice_get (set xs i y) i ≡ Some y
set-there [] i x y e = absurd (cc)
set-there (z ∷ xs) zero x y e = refl
set-there (z ∷ xs) (suc i) x y e = set-there xs i x y e

get-within : {X : Type 0} (xs : List X) (i : ℕ) (x : X) → slice_get xs i ≡ Some x → i < length xs
get-within [] i x e = absurd (cc)
get-within (z ∷ xs) zero x e = omega arith
get-within (z ∷ xs) (suc i) x e = let less : i < length xs = get-within xs i x e in omega arith

-- an item that is kept is one
kept-item : (x : SiteSeen) (n : ℕ) → keeps_item x n ≡ true → n < length x.shape.interest.replicas
kept-item x n e = go (slice_get x.shape.interest.replicas n) refl e
  where
    go : (o : Option SiteSet) → slice_get x.shape.interest.replicas n ≡ o → ◌≡◌ {A = Bool} (elim o [ None ↦ false | Some set ↦ bit set.bits x.shape.site ]) true → n < length x.shape.interest.replicas
    go None at f = absurd (cc)
    go (Some set) at f = get-within x.shape.interest.replicas n set at

newer-answer : (o : Option Version) (v : Version) → version_answer (newer o v) ≡ newer_read (version_answer o) v.label v.value
newer-answer None v = refl
newer-answer (Some old) v = go (label_lt old.label v.label)
  where
    go : (b : Bool) → version_answer (if b then Some v else Some old) ≡ (if b then ans.ReadSome v.label v.value else ans.ReadSome old.label old.value)
    go true = refl
    go false = refl

-- a read of an item at a site
abbrev read_of : SiteSeen → ℕ → Answer
read_of y n = read_answer (keeps_item y n) (slice_get y.gears (gear_at y n)) n

-- at the item's gear
read-at : (y : SiteSeen) (n : ℕ) (gear : GearSeen) → keeps_item y n ≡ true → slice_get y.gears (gear_at y n) ≡ Some gear → read_of y n ≡ version_answer (version_of gear n)
read-at y n gear kept at =
    ap (λ (b : Bool). read_answer b (slice_get y.gears (gear_at y n)) n) kept ∙ ap (λ (o : Option GearSeen). read_answer true o n) at

-- a gear of a site has a place for each of its items
place-there : (x : SiteSeen) (n : ℕ) (gear : GearSeen) → IsSite x → keeps_item x n ≡ true → slice_get x.gears (gear_at x n) ≡ Some gear → n / gear.shape.gears < length gear.versions
place-there x n gear k kept at =
    let good : IsGear gear = k.gears.are (gear_at x n) gear at in
    let same : gear.shape ≡ x.shape = (k.gears.each (gear_at x n) gear at).shape in
    let item : n < length gear.shape.interest.replicas = subst (λ (s : Shape). n < length s.interest.replicas) (sym same) (kept-item x n kept) in
    subst (λ (m : ℕ). n / gear.shape.gears < m) (sym good.versions) (within_places n (length gear.shape.interest.replicas) gear.shape.gears good.shape.gears item)

-- the item's gear was put a version
put-read : (x : SiteSeen) (n : ℕ) (gear : GearSeen) (v : Version) → keeps_item x n ≡ true → slice_get x.gears (gear_at x n) ≡ Some gear → n / gear.shape.gears < length gear.versions →
    read_of (with_gear x (gear_at x n) (after_show gear n v)) n ≡ newer_read (read_of x n) v.label v.value
put-read x n gear v kept at place =
    let there : slice_get (set x.gears (gear_at x n) (after_show gear n v)) (gear_at x n) ≡ Some (after_show gear n v) = set-there x.gears (gear_at x n) gear (after_show gear n v) at in
    let version : version_of (after_show gear n v) n ≡ newer (version_of gear n) v = get_or-set_same gear.versions (n / gear.shape.gears) (newer (version_of gear n) v) None place in
    read-at (with_gear x (gear_at x n) (after_show gear n v)) n (after_show gear n v) kept there
    ∙ (ap version_answer version ∙ (newer-answer (version_of gear n) v ∙ ap (λ (r : Answer). newer_read r v.label v.value) (sym (read-at x n gear kept at))))

label_of : Label → Answer → Label
label_of l (ans.Wrote m) = m
label_of l r = l

-- the gear has made an update of the item alone, and shows it
stamped-read : (spent : Bool) (x : SiteSeen) (gear : GearSeen) (seen : Point) (n : ℕ) (value : List ℕ) (l : Label) → IsSite x → keeps_item x n ≡ true → slice_get x.gears (gear_at x n) ≡ Some gear →
    stamp_answer_of spent (stamped gear seen (kind.Update (One n))) ≡ ans.Wrote l → read_of (stamp_after_of x spent gear seen (One n) (value ∷ [])) n ≡ newer_read (read_of x n) l value
unfolding label_of shown_each
stamped-read true x gear seen n value l k kept at e = absurd (cc)
stamped-read false x gear seen n value l k kept at e =
    let m : Label = stamped gear seen (kind.Update (One n)) in
    let v : Version = record { label = m; value = value } in
    let made : GearSeen = after_write gear (payload_with m (value ∷ [])) in
    let y : SiteSeen = with_gear x (gear_at x n) made in
    let there : slice_get y.gears (gear_at x n) ≡ Some made = set-there x.gears (gear_at x n) gear made at in
    let shown : shown_at (keeps_item x n) x.shape y.gears m n (Some value) ≡ set y.gears (gear_at x n) (after_show made n v) =
    ap (λ (b : Bool). shown_at b x.shape y.gears m n (Some value)) kept ∙ ap (shown_by y.gears (gear_at x n) m n (Some value)) there in
    let is : m ≡ l = ap (label_of l) e in
    let still : read_of y n ≡ read_of x n = read-at y n made kept there ∙ sym (read-at x n gear kept at) in
    ap (λ (gears : List GearSeen). read_of (record y { gears = gears }) n) shown
    ∙ (put-read y n made v kept there (place-there x n gear k kept at)
    ∙ (λ j. newer_read (still j) (is j) value))

wrote-read : (x : SiteSeen) (seen : Point) (n : ℕ) (value : List ℕ) (l : Label) → IsSite x → (b : Bool) → keeps_each x (n ∷ []) ≡ b → (o : Option GearSeen) → slice_get x.gears (gear_at x n) ≡ o →
    write_answer b o seen (One n) ≡ ans.Wrote l → read_of (write_after x b o seen (One n) (value ∷ [])) n ≡ newer_read (read_of x n) l value
wrote-read x seen n value l k false kept o at e = absurd (cc)
wrote-read x seen n value l k true kept None at e = absurd (cc)
wrote-read x seen n value l k true kept (Some gear) at e = stamped-read (is_spent gear seen) x gear seen n value l k (and_parts (keeps_item x n) true kept).0 at e

pub reads-written : (x : SiteSeen) (c : Carried) (n : ℕ) (value : List ℕ) (l : Label) → IsSite x → site_answers x (input.Write c (One n) (value ∷ [])) ≡ ans.Wrote l →
    ReadsNewer x (site_after x (input.Write c (One n) (value ∷ []))) n l value
unfolding site_answers site_after
reads-written x c n value l k e = λ seen. wrote-read x c.point n value l k (keeps_each x (n ∷ [])) refl (slice_get x.gears (gear_at x n)) refl e
