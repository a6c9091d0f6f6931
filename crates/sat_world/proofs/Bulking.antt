-- Payloads of a lane that come in one after another: from what the site does to what the world has done.
use Rattle.std.specs.Prelude.{◌≡◌, ◌<◌, ◌≤◌, ◌+◌, ◌^◌, ◌==◌, ℕ, zero, suc, Bool, true, false, List, [], ◌∷◌, length, set, take, drop, get_or, Some, None, slice_get, if◌then◌else◌, refl}
use Rattle.std.proofs.Common.{sym, subst, ap, ◌∙◌, arith, inl, inr}
use Rattle.std.proofs.lemmas.Bool.Decides.{nat_tests}
use Rattle.std.proofs.lemmas.List.{set-set}
use Rattle.sat_label.specs.Members.{In}
use Rattle.sat_label.specs.declared.label.Label.{Label}
use Rattle.sat_sites.specs.declared.shape.Shape.{Shape}
use Rattle.sat_bulk.specs.Payloads.{Payload}
use Rattle.sat_bulk.specs.Windows.{has_number}
use Rattle.sat_act.specs.declared.act.Act.{Act}
use Rattle.sat_act.specs.declared.act.Act.TheVariants as act
use Rattle.sat_act.specs.declared.answer.Answer.TheVariants as ans
use Rattle.sat_act.specs.declared.answer.Refusal.TheVariants as why
use Rattle.sat_act.specs.Deployed.{Deployed}
use Rattle.sat_act.specs.Ranges.{IsActOf}
use Rattle.sat_act.specs.Settling.{is_done}
use Rattle.sat_model.specs.State.{SiteState}
use Rattle.sat_proxy.specs.Proxy.{front_at, lane_place, window_of}
use Rattle.sat_proxy.specs.Steps.{after_bulk}
use Rattle.sat_proxy.specs.Answers.{bulk_answer}
use Rattle.sat_proxy.proofs.Bulks.{front-new}
use Rattle.sat_site.specs.declared.input.SiteInput.TheVariants as input
use Rattle.sat_site.specs.Bulks.{BulksOn, none, more}
use Rattle.sat_site.specs.Changes.{shape_for}
use Rattle.sat_site.specs.Inputs.{BulkFits, BulksFit}
use Rattle.sat_site.specs.Seen.{SiteSeen, IsSite}
use Rattle.sat_site.specs.SiteSteps.{site_after, site_answers}
use Rattle.sat_site.specs.Stands.{StandsSite}
use Rattle.sat_site.proofs.Fitting.{fits-bulk}
use Rattle.sat_site.proofs.Shown.{front-is}
use Rattle.sat_world.specs.Again.{Again, Spends}
use Rattle.sat_world.specs.Again as times
use Rattle.sat_world.specs.Seen.{WorldSeen, HasSite}
use Rattle.sat_world.specs.Steps.{BulksAt, Goes, Hands, IsNumber, StepsAt}
use Rattle.sat_world.specs.Worlds.{IsWorld}
use Rattle.sat_world.proofs.Again.{Gone, act-seen, gone-from, gone-more, gone-none}
use Rattle.sat_world.proofs.Ahead.{behind}
use Rattle.sat_world.proofs.Counted.{plainly}
use Rattle.sat_world.proofs.Deeds.{did-not-bulk}
use Rattle.sat_world.proofs.Goes.{local-goes}
use Rattle.sat_world.proofs.Hands.{IsInLane, bulk-hands, hands-fit, site-at}
use Rattle.sat_world.proofs.Lists.{both-are, get-set, set-same, set-there, within}

-- ---- one time after another

pub again-on : (a : Act) (w v u : WorldSeen) (n m : ℕ) → Again a w n v → Again a v m u → Again a w (n + m) u
again-on a w v u n m p times.none = subst (λ (k : ℕ). Again a w k v) (let e : n ≡ n + 0 = omega arith in e) p
again-on a w v u n m p (times.more {n = k} {v = x} r q h d) =
    subst (λ (t : ℕ). Again a w t u) (let e : suc (n + k) ≡ n + suc k = omega arith in e) (times.more r (again-on a w v x n k p q) h d)

pub spent-on : (a : Act) (w v : WorldSeen) (n : ℕ) → Again a w n v → Spends a v 0 v → Spends a w n v
spent-on a w v n p s = record { again = p; refusal = s.refusal; applies = s.applies; undone = s.undone }

pub gone-nothing : (a : Act) (w : WorldSeen) → Again a w 0 w
gone-nothing a w = times.none

-- ---- a part of a lane

-- these are copies of the payloads of a lane, from a number on, of so many or of all that there are
abbrev pub IsCopied : SiteSeen → ℕ → ℕ → ℕ → ℕ → List Payload → Type 0
IsCopied x g j first most ps = (d : Deployed) (k : ℕ) (s : SiteState) → StandsSite d k x s → ps ≡ take most (drop first ((s.gears g).lanes j))

take-at : {X : Type 0} (xs : List X) (most m : ℕ) (p : X) → slice_get (take most xs) m ≡ Some p → slice_get xs m ≡ Some p
take-at xs zero zero p e = absurd (cc)
take-at xs zero (suc m) p e = absurd (cc)
take-at [] (suc most) m p e = e
take-at (x ∷ xs) (suc most) zero p e = e
take-at (x ∷ xs) (suc most) (suc m) p e = take-at xs most m p e

lane-at : {X : Type 0} (xs : List X) (n most m : ℕ) (p : X) → slice_get (take most (drop n xs)) m ≡ Some p → slice_get xs (n + m) ≡ Some p
lane-at xs n most m p e = sym (behind xs n m) ∙ take-at (drop n xs) most m p e

none-first : {X : Type 0} (xs : List X) (most : ℕ) → take most xs ≡ [] → 0 < most → slice_get xs 0 ≡ None
none-first [] most e lt = refl
none-first (x ∷ xs) zero e lt = absurd (omega arith)
none-first (x ∷ xs) (suc most) e lt = absurd (cc)

lane-ends : {X : Type 0} (xs : List X) (n most : ℕ) → take most (drop n xs) ≡ [] → 0 < most → slice_get xs n ≡ None
lane-ends xs n most e lt = ap (slice_get xs) (let z : n ≡ n + 0 = omega arith in z) ∙ (sym (behind xs n 0) ∙ none-first (drop n xs) most e lt)

few : {X : Type 0} (most : ℕ) (xs : List X) → length (take most xs) ≤ most
few zero xs = omega arith
few (suc most) [] = omega arith
few (suc most) (x ∷ xs) = let le : length (take most xs) ≤ most = few most xs in omega arith

place-in : {X : Type 0} (xs : List X) (x : X) → In xs x → (n : ℕ) × (slice_get xs n ≡ Some x)
place-in [] x i = absurd i
place-in (y ∷ ys) x (inl e) = (0, ap (λ (z : _). Some z) e)
place-in (y ∷ ys) x (inr i) = let p : (n : ℕ) × (slice_get ys n ≡ Some x) = place-in ys x i in (suc p.0, p.1)

apart-too : (i j : ℕ) → (i == j) ≡ false → (j == i) ≡ false
apart-too i j e = grind (arith, nat_tests)

-- ---- payloads of a lane, in a world

module _ (w : WorldSeen) (i g j first most : ℕ) (ps : List Payload) (x y : SiteSeen) (k : IsWorld w) (b : IsActOf w.deployment (act.Bulk i g j None)) (at-x : HasSite w i x) (at-y : HasSite w j y) (copied : IsCopied x g j first most ps) (small : first + length ps < 2 ^ 63) where
  -- after some payloads
  abbrev with_site : SiteSeen → WorldSeen
  with_site z = record w { sites = set w.sites j z }

  same-site : with_site y ≡ w
  same-site = λ t. record w { sites = set-same w.sites j y at-y t }

  site-there : (z : SiteSeen) → HasSite (with_site z) j z
  site-there z = get-set w.sites j z (within w.sites j y at-y)

  sender-there : (z : SiteSeen) → HasSite (with_site z) i x
  sender-there z = set-there w.sites j i z (apart-too i j b.0.2) ∙ at-x

  in-lane : (m : ℕ) (p : Payload) → slice_get ps m ≡ Some p → IsInLane x g j (first + m) (Some p)
  in-lane m p e d n s st = lane-at ((s.gears g).lanes j) first most m p (sym (ap (λ (qs : List Payload). slice_get qs m) (copied d n s st)) ∙ e)

  below : (m : ℕ) (p : Payload) → slice_get ps m ≡ Some p → first + m < 2 ^ 63
  below m p e = let lt : m < length ps = within ps m p e in let s : first + length ps < 2 ^ 63 = small in omega arith

  shape-there : (z : SiteSeen) → IsWorld (with_site z) → z.shape ≡ shape_for w.deployment j
  shape-there z q = (q.stands.sites j z (site-there z)).shape

  -- the next one
  bulk-goes : (m : ℕ) (z : SiteSeen) (p : Payload) → IsWorld (with_site z) → IsSite z → slice_get ps m ≡ Some p → front_at z.proxy i g ≡ first + m →
      Goes (with_site z) (act.Bulk i g j None) (bulk_answer z.proxy i g (first + m) p.label) (with_site (record z { proxy = after_bulk z.proxy i g (first + m) p }))
  unfolding site_answers site_after
  bulk-goes m z p q sound at next =
      local-goes (with_site z) (act.Bulk i g j None) j (input.Bulk i g (first + m) p) (bulk_answer z.proxy i g (first + m) p.label) (set w.sites j after) q.frame refl hands steps
    where
      after : SiteSeen
      after = record z { proxy = after_bulk z.proxy i g (first + m) p }

      number : IsNumber z i g None (first + m)
      number d n s st =
          front-is z z d n s i g (first + m) refl sound
          (subst (λ (t : Shape). i < t.sites) (sym (shape-there z q)) b.0.0) (subst (λ (t : Shape). g < t.gears) (sym (shape-there z q)) b.1) (sym next) st

      hands : Hands (with_site z) (act.Bulk i g j None) j (input.Bulk i g (first + m) p)
      hands = bulk-hands (with_site z) i g j (first + m) None p x z (sender-there z) (site-there z) number (in-lane m p at) (below m p at)

      steps : StepsAt (set w.sites j z) j (input.Bulk i g (first + m) p) (bulk_answer z.proxy i g (first + m) p.label) (set w.sites j after)
      steps = record {
        before = z;
        at = site-there z;
        sound = sound;
        fits = hands-fit (with_site z) (act.Bulk i g j None) j (input.Bulk i g (first + m) p) z q b hands (site-there z) sound;
        answers = refl;
        rest = sym (set-set w.sites j z after);
      }

  bulk-done : (z : SiteSeen) (n : ℕ) (l : Label) → IsSite z → front_at z.proxy i g ≡ n → is_done (bulk_answer z.proxy i g n l) ≡ true
  bulk-done z n l sound next =
      let new : has_number (window_of z.proxy i g) n ≡ false = subst (λ (m : ℕ). has_number (window_of z.proxy i g) m ≡ false) next (front-new (window_of z.proxy i g) (sound.proxy.sound.numbers (lane_place z.proxy i g))) in
      ap (λ (c : Bool). is_done (if c then ans.Again else ans.Brought l)) new

  bulks-gone : (n : ℕ) (z : SiteSeen) → BulksOn y i g first ps n z → Gone (act.Bulk i g j None) w n (with_site z)
  bulks-gone n z none = gone-none (act.Bulk i g j None) w (with_site y) same-site k
  bulks-gone n z (more m u p bs sound at next) =
      let q : Gone (act.Bulk i g j None) w m (with_site u) = bulks-gone m u bs in
      gone-more (act.Bulk i g j None) w (with_site u) (with_site (record u { proxy = after_bulk u.proxy i g (first + m) p })) m (bulk_answer u.proxy i g (first + m) p.label) q b refl refl
      (bulk-goes m u p q.world sound at next) (bulk-done u (first + m) p.label sound next)

  -- they fit
  each-fits : (p : Payload) → IsSite y → In ps p → (n : ℕ) × BulkFits y i g n p
  each-fits p sound member = (first + there.0, fits-bulk y i g (first + there.0) p (hands-fit w (act.Bulk i g j (Some (first + there.0))) j (input.Bulk i g (first + there.0) p) y k (b.0, b.1, wide) hands at-y sound))
    where
      there : (n : ℕ) × (slice_get ps n ≡ Some p)
      there = place-in ps p member

      wide : first + there.0 < 2 ^ 64
      wide = let lt : first + there.0 < 2 ^ 63 = below there.0 p there.1 in omega arith

      hands : Hands w (act.Bulk i g j (Some (first + there.0))) j (input.Bulk i g (first + there.0) p)
      hands = bulk-hands w i g j (first + there.0) (Some (first + there.0)) p x y at-x at-y (λ d n s st. refl) (in-lane there.0 p there.1) (below there.0 p there.1)

  lane-fits : IsSite y → BulksFit y i g first ps
  lane-fits sound = record {
    sender = subst (λ (t : Shape). i < t.sites) (sym shape) b.0.0;
    number = subst (λ (t : Shape). g < t.gears) (sym shape) b.1;
    small = small;
    made = λ p member. (each-fits p sound member).1.made;
    guests = λ p member. (each-fits p sound member).1.guest;
  }
    where
      shape : y.shape ≡ shape_for w.deployment j
      shape = (k.stands.sites j y at-y).shape

-- ---- as the code sees them

-- copies are few
pub copied-few : (w v : WorldSeen) (i g j first most : ℕ) (x : SiteSeen) (ps : List Payload) → w ≡ v → IsWorld w → i < v.deployment.sites → x ≡ get_or w.sites i x → IsCopied x g j first most ps → length ps ≤ most
copied-few w v i g j first most x ps e k lt is copied =
    let same = copied w.deployment i _ (k.stands.sites i x (site-at w v i x e k lt is)) in
    subst (λ (qs : List Payload). length qs ≤ most) (sym same) (few most _)

pub did-bulks : (w v : WorldSeen) (i g j first most n : ℕ) (ps : List Payload) (x y : SiteSeen) (sites : List SiteSeen) → w ≡ v → IsWorld w → IsActOf v.deployment (act.Bulk i g j None) → x ≡ get_or w.sites i x → y ≡ get_or w.sites j y → IsCopied x g j first most ps → first + length ps < 2 ^ 63 →
    BulksAt w.sites j i g first ps n sites → Gone (act.Bulk i g j None) w n (record w { sites = sites })
did-bulks w v i g j first most n ps x y sites e k b ix iy copied small h =
    subst (λ (xs : List SiteSeen). Gone (act.Bulk i g j None) w n (record w { sites = xs })) (sym h.rest)
    (bulks-gone w i g j first most ps x y k (act-seen w v (act.Bulk i g j None) e b) (site-at w v i x e k b.0.0 ix) at copied small n h.after
    (subst (λ (z : SiteSeen). BulksOn z i g first ps n h.after) (both-are (slice_get w.sites j) h.before y h.at at) h.bulks))
  where
    at : HasSite w j y
    at = site-at w v j y e k b.0.1 iy

pub bulks-fit : (w v : WorldSeen) (i g j first most : ℕ) (ps : List Payload) (x y : SiteSeen) → w ≡ v → IsWorld w → IsActOf v.deployment (act.Bulk i g j None) → x ≡ get_or w.sites i x → y ≡ get_or w.sites j y → IsCopied x g j first most ps → first + length ps < 2 ^ 63 →
    (z : SiteSeen) → slice_get w.sites j ≡ Some z → IsSite z → BulksFit z i g first ps
bulks-fit w v i g j first most ps x y e k b ix iy copied small z at sound =
    lane-fits w i g j first most ps x z k (act-seen w v (act.Bulk i g j None) e b) (site-at w v i x e k b.0.0 ix) at copied small sound

-- none is left
pub did-no-bulk : (w v : WorldSeen) (i g j first most : ℕ) (ps : List Payload) (x y : SiteSeen) → w ≡ v → IsWorld w → IsActOf v.deployment (act.Bulk i g j None) → x ≡ get_or w.sites i x → y ≡ get_or w.sites j y → IsNumber y i g None first → IsCopied x g j first most ps → ps ≡ [] → 0 < most →
    Spends (act.Bulk i g j None) v 0 v
did-no-bulk w v i g j first most ps x y e k b ix iy number copied empty some = record {
  again = times.none;
  refusal = ans.Refused why.NoSuch;
  applies = plainly w v v (act.Bulk i g j None) (ans.Refused why.NoSuch) e k b refl refl (did-not-bulk w v i g j first None x y e k b.0.0 b.0.1 ix iy number ends);
  undone = refl;
}
  where
    ends : IsInLane x g j first None
    ends d n s st = lane-ends ((s.gears g).lanes j) first most (sym (copied d n s st) ∙ empty) some

pub gone-seen : (a : Act) (w v u : WorldSeen) (n : ℕ) → w ≡ v → Gone a w n u → Again a v n u
gone-seen a w v u n e g = gone-from a w v u n e g

pub none-came : (a : Act) (w v u : WorldSeen) (n : ℕ) → w ≡ v → n ≡ 0 → Gone a w n u → Again a v 0 u
none-came a w v u n e few g = subst (λ (m : ℕ). Again a v m u) few (gone-from a w v u n e g)

-- a list of no length
pub nothing-in : {X : Type 0} (xs : List X) (n : ℕ) → n ≡ length xs → true ≡ (n == 0) → xs ≡ []
nothing-in [] n many e = refl
nothing-in (x ∷ xs) n many e = absurd (some n (length xs) many e)
  where
    some : (a b : ℕ) → a ≡ suc b → true ≡ (a == 0) → ⊥
    some a b many e = grind (arith, nat_tests)
