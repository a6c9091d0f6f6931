-- What a site reads of the others is what the machine reads off the state that it stands for.
use Rattle.std.specs.Prelude.{◌≡◌, ◌<◌, ℕ, Bool, false, ◌||◌, ◌&&◌, not, ◌==◌, nat_le, List, Option, Some, None, option_map, if◌then◌else◌, refl}
use Rattle.std.specs.List.{list_any}
use Rattle.std.proofs.Common.{ap, sym, subst, ◌∙◌}
use Rattle.sat_label.specs.declared.point.Point.{Point}
use Rattle.sat_label.specs.declared.label.Label.{Label}
use Rattle.sat_label.specs.declared.carried.Carried.{Carried}
use Rattle.sat_label.specs.Order.{mark, point_le, zero_point}
use Rattle.sat_label.specs.Members.{In}
use Rattle.sat_label.proofs.Least.{IsLeast, least-is}
use Rattle.sat_bulk.specs.Payloads.{Payload}
use Rattle.sat_pool.specs.Pool.{all_waiting, labelled, labels_waiting}
use Rattle.sat_epoch.specs.Epochs.{Epochs}
use Rattle.sat_act.specs.Deployed.{Deployed}
use Rattle.sat_act.specs.Parts.{BeatNote, best_passes, reaches, closed_below, passed_ts, passed_label}
use Rattle.sat_act.specs.Answers.{is_drained}
use Rattle.sat_model.specs.State.{SiteState}
use Rattle.sat_model.specs.Look as look
use Rattle.sat_model.specs.Look.{best_in, label_of, mode_of}
use Rattle.sat_model.specs.Reply.{Outlook, outlook_of, comes_moving, comes_taken, comes_beats, may_come, past_by, candidate_by, sites_passed, own_passed, stamp_next, may_pass}
use Rattle.sat_proxy.specs.Proxy.{ProxySeen, best_of, last_of, noted, outlook_here}
use Rattle.sat_proxy.specs.Asks.{others, is_known, is_reached, may_come_at, all_passed, stamp_next_at, may_pass_at}
use Rattle.sat_proxy.specs.Steps.{heard_of, has_come, stamp_label}
use Rattle.sat_proxy.specs.Stands.{is_reached_by}
use Rattle.sat_proxy.specs.Laws.{Sees}
use Rattle.sat_proxy.proofs.SameLists.{others-same, any-same, least-same, in-map, map-in}
use Rattle.sat_proxy.proofs.SamePools.{label-below}

-- ---- its parts

pub site-here : {d : Deployed} {j : ℕ} {views : Epochs} {p : ProxySeen} {s : SiteState} (sees : Sees d j views p s) (k : ℕ) → k < d.sites → k < p.sites
site-here sees k lt = subst (λ (n : ℕ). k < n) (sym sees.sites) lt

pub gear-here : {d : Deployed} {j : ℕ} {views : Epochs} {p : ProxySeen} {s : SiteState} (sees : Sees d j views p s) (g : ℕ) → g < d.gears → g < p.gears
gear-here sees g lt = subst (λ (n : ℕ). g < n) (sym sees.gears) lt

pub best-same : {d : Deployed} {j : ℕ} {views : Epochs} {p : ProxySeen} {s : SiteState} (sees : Sees d j views p s) (k : ℕ) → k < d.sites → option_map noted (best_of p k) ≡ look.best_of d s k
best-same {s = s} sees k lt = sym (sees.stands.beats k (site-here sees k lt)).kept ∙ ap (λ (g : ℕ). best_in (is_reached_by g s.proxy k) (s.proxy.beats k)) sees.gears

pub last-same : {d : Deployed} {j : ℕ} {views : Epochs} {p : ProxySeen} {s : SiteState} (sees : Sees d j views p s) (k : ℕ) → k < d.sites → last_of p k ≡ s.proxy.last k
last-same sees k lt = sees.stands.last k (site-here sees k lt)

pub label-there : {d : Deployed} {j : ℕ} {views : Epochs} {p : ProxySeen} {s : SiteState} (sees : Sees d j views p s) (l : Label) → In (labels_waiting p.pool) l → In (look.waiting_of s) l
label-there {p = p} {s = s} sees l m =
    let k : (x : Payload) × In (all_waiting p.pool) x × (labelled x ≡ l) = in-map labelled (all_waiting p.pool) l m in
    subst (λ (l : Label). In (look.waiting_of s) l) k.2 (map-in label_of s.proxy.pool k.0 (sees.stands.pool.there k.0 k.1))

pub label-back : {d : Deployed} {j : ℕ} {views : Epochs} {p : ProxySeen} {s : SiteState} (sees : Sees d j views p s) (l : Label) → In (look.waiting_of s) l → In (labels_waiting p.pool) l
label-back {p = p} {s = s} sees l m =
    let k : (x : Payload) × In s.proxy.pool x × (label_of x ≡ l) = in-map label_of s.proxy.pool l m in
    subst (λ (l : Label). In (labels_waiting p.pool) l) k.2 (map-in labelled (all_waiting p.pool) k.0 (sees.stands.pool.back k.0 k.1))

label-site : {d : Deployed} {j : ℕ} {views : Epochs} {p : ProxySeen} {s : SiteState} (sees : Sees d j views p s) (l : Label) → In (labels_waiting p.pool) l → l.point.site < d.sites
label-site {p = p} sees l m = subst (λ (n : ℕ). l.point.site < n) (sees.sound.rows ∙ sees.sites) (label-below p.pool l sees.sound.pool m)

-- a test of the best beat of a site
passes-same : {d : Deployed} {j : ℕ} {views : Epochs} {p : ProxySeen} {s : SiteState} (sees : Sees d j views p s) (k : ℕ) (t : ℕ → BeatNote → Bool) → k < d.sites →
    best_passes (option_map noted (best_of p k)) (t views.view) ≡ best_passes (look.best_of d s k) (t s.views.view)
passes-same sees k t lt = λ i. best_passes (best-same sees k lt i) (t (sees.told.view i))

-- ---- a client comes

abbrev moves_by : Carried → ℕ → Point → Option ℕ → Bool
moves_by c j q None = false
moves_by c j q (Some k) = (k == j) && point_le c.point q

moving-same : (o : Outlook) (q : Outlook) (c : Carried) (j : ℕ) → o.last c.point.site ≡ q.last c.point.site → comes_moving o c j ≡ comes_moving q c j
moving-same o q c j e = go c.moving
  where
    go : (m : Option ℕ) → moves_by c j (o.last c.point.site) m ≡ moves_by c j (q.last c.point.site) m
    go None = refl
    go (Some k) = ap (λ (l : Point). (k == j) && point_le c.point l) e

pub come-same : {d : Deployed} {j : ℕ} {views : Epochs} {p : ProxySeen} {s : SiteState} (sees : Sees d j views p s) (c : Carried) → c.point.site < d.sites →
    may_come_at p.sites (outlook_here views p) c p.site ≡ may_come d (outlook_of d s) c j
come-same {d = d} {j = j} {views = views} {p = p} {s = s} sees c lt =
    (λ i. may_come_at (sees.sites i) (outlook_here views p) c (sees.own i)) ∙ (λ i. point_le c.point zero_point || (moving i || (known i || reached i)))
  where
    moving : comes_moving (outlook_here views p) c j ≡ comes_moving (outlook_of d s) c j
    moving = moving-same (outlook_here views p) (outlook_of d s) c j (last-same sees c.point.site lt)

    known : is_known d.sites (outlook_here views p) c j ≡ comes_taken d (outlook_of d s) c j
    known = others-same d.sites j (λ k. point_le (mark c.point.ts k) (last_of p k)) (λ k. point_le (mark c.point.ts k) (s.proxy.last k)) (λ k lk ne. ap (point_le (mark c.point.ts k)) (last-same sees k lk))

    beats : others d.sites j (λ k. best_passes (option_map noted (best_of p k)) (reaches views.view c.point.ts k)) ≡ others d.sites j (λ k. best_passes (look.best_of d s k) (reaches s.views.view c.point.ts k))
    beats = others-same d.sites j (λ k. best_passes (option_map noted (best_of p k)) (reaches views.view c.point.ts k)) (λ k. best_passes (look.best_of d s k) (reaches s.views.view c.point.ts k))
        (λ k lk ne. passes-same sees k (λ v. reaches v c.point.ts k) lk)

    waits : list_any (λ l. nat_le l.point.ts c.point.ts) (labels_waiting p.pool) ≡ list_any (λ l. nat_le l.point.ts c.point.ts) (look.waiting_of s)
    waits = any-same (λ l. nat_le l.point.ts c.point.ts) (labels_waiting p.pool) (look.waiting_of s) (label-there sees) (label-back sees)

    reached : is_reached d.sites (outlook_here views p) c j ≡ comes_beats d (outlook_of d s) c j
    reached = λ i. (sees.told.stamp i && beats i) && not (waits i)

-- ---- the next update in timestamp order

candidate-same : {d : Deployed} {j : ℕ} {views : Epochs} {p : ProxySeen} {s : SiteState} (sees : Sees d j views p s) → candidate_by (outlook_here views p) ≡ candidate_by (outlook_of d s)
candidate-same {d = d} {j = j} {views = views} {p = p} {s = s} sees =
    least-same (λ l. not (past_by (outlook_here views p) l)) (λ l. not (past_by (outlook_of d s) l)) (labels_waiting p.pool) (look.waiting_of s) (label-there sees) (label-back sees)
    (λ l m. ap not (passes-same sees l.point.site (λ v. closed_below v l) (label-site sees l m)))

abbrev given_that : (Label → Bool) → (Label → Bool) → Option Label → Option Label
given_that t u None = None
given_that t u (Some l) = if t l && u l then Some l else None

pub stamp-same : {d : Deployed} {j : ℕ} {views : Epochs} {p : ProxySeen} {s : SiteState} (sees : Sees d j views p s) → stamp_label views p ≡ stamp_next d (outlook_of d s) j
stamp-same {d = d} {j = j} {views = views} {p = p} {s = s} sees =
    (λ i. stamp_next_at (sees.sites i) (outlook_here views p) (sees.own i)) ∙ go (candidate_by (outlook_here views p)) refl (candidate_by (outlook_of d s)) (sym (candidate-same sees))
  where
    passed : (l : Label) → all_passed d.sites (outlook_here views p) j l ≡ sites_passed d (outlook_of d s) j l
    passed l = others-same d.sites j (λ k. best_passes (option_map noted (best_of p k)) (passed_ts views.view l.point.ts k)) (λ k. best_passes (look.best_of d s k) (passed_ts s.views.view l.point.ts k))
        (λ k lk ne. passes-same sees k (λ v. passed_ts v l.point.ts k) lk)

    own : (l : Label) → l.point.site < d.sites → own_passed (outlook_here views p) l ≡ own_passed (outlook_of d s) l
    own l lt = passes-same sees l.point.site (λ v. passed_label v l) lt

    go : (o : Option Label) → candidate_by (outlook_here views p) ≡ o → (r : Option Label) → r ≡ candidate_by (outlook_here views p) →
        given_that (all_passed d.sites (outlook_here views p) j) (own_passed (outlook_here views p)) o ≡ given_that (sites_passed d (outlook_of d s) j) (own_passed (outlook_of d s)) r
    go None e None w = refl
    go None e (Some m) w = absurd (let z : Some m ≡ None = w ∙ e in cc)
    go (Some l) e None w = absurd (let z : None ≡ Some l = w ∙ e in cc)
    go (Some l) e (Some m) w =
        let k : IsLeast (λ l. not (past_by (outlook_here views p) l)) (labels_waiting p.pool) l = least-is (λ l. not (past_by (outlook_here views p) l)) (labels_waiting p.pool) l e in
        (λ i. if passed l i && own l (label-site sees l k.member) i then Some l else None) ∙ ap (λ (l : Label). if sites_passed d (outlook_of d s) j l && own_passed (outlook_of d s) l then Some l else None) (just l m (sym e ∙ sym w))
      where
        just : (l m : Label) → Some l ≡ Some m → l ≡ m
        just l m e = cc

-- ---- all of a view came

abbrev drained_by : List Label → ℕ → Option Point → Bool
drained_by waiting k None = false
drained_by waiting k (Some p) = not (list_any (λ l. (l.point.site == k) && point_le l.point p) waiting)

drained-same : (epoch k : ℕ) (xs ys : List Label) → ((x : Label) → In xs x → In ys x) → ((x : Label) → In ys x → In xs x) → (note : BeatNote) → is_drained epoch xs k note ≡ is_drained epoch ys k note
drained-same epoch k xs ys f g note = go (note.closes epoch)
  where
    go : (o : Option Point) → drained_by xs k o ≡ drained_by ys k o
    go None = refl
    go (Some p) = ap not (any-same (λ l. (l.point.site == k) && point_le l.point p) xs ys f g)

pub pass-same : {d : Deployed} {j : ℕ} {views : Epochs} {p : ProxySeen} {s : SiteState} (sees : Sees d j views p s) → has_come views p ≡ may_pass d (outlook_of d s) s.views.heard j
pass-same {d = d} {j = j} {views = views} {p = p} {s = s} sees =
    (λ i. may_pass_at (sees.sites i) (outlook_here views p) (heard_of views) (sees.own i)) ∙ (λ i. if sees.told.stamp i then beats i else heard i)
  where
    drained : (k : ℕ) → k < d.sites → best_passes (option_map noted (best_of p k)) (is_drained views.view (labels_waiting p.pool) k) ≡ best_passes (look.best_of d s k) (is_drained s.views.view (look.waiting_of s) k)
    drained k lt =
        passes-same sees k (λ v. is_drained v (labels_waiting p.pool) k) lt
        ∙ (λ i. best_passes (look.best_of d s k) (λ note. drained-same s.views.view k (labels_waiting p.pool) (look.waiting_of s) (label-there sees) (label-back sees) note i))

    beats : others d.sites j (λ k. best_passes (option_map noted (best_of p k)) (is_drained views.view (labels_waiting p.pool) k)) ≡ others d.sites j (λ k. best_passes (look.best_of d s k) (is_drained s.views.view (look.waiting_of s) k))
    beats = others-same d.sites j (λ k. best_passes (option_map noted (best_of p k)) (is_drained views.view (labels_waiting p.pool) k)) (λ k. best_passes (look.best_of d s k) (is_drained s.views.view (look.waiting_of s) k))
        (λ k lk ne. drained k lk)

    heard : others d.sites j (heard_of views) ≡ others d.sites j (λ k. s.views.heard k s.views.view)
    heard = others-same d.sites j (heard_of views) (λ k. s.views.heard k s.views.view) (λ k lk ne. sees.told.heard k lk ne)
