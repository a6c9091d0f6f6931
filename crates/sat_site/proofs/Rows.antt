-- The sink's lists are the rows of the machine's tables.
use Rattle.std.specs.Prelude.{◌≡◌, ◌<◌, ◌+◌, ◌-◌, ℕ, suc, List, [], ◌∷◌, ◌++◌, length, get_or, min, fold, Option, Some, None}
use Rattle.std.proofs.Common.{arith, ap, subst, sym, ◌∙◌, append_assoc}
use Rattle.std.proofs.lemmas.List.{append-nil}
use Rattle.sat_label.specs.declared.label.Label.{Label}
use Rattle.sat_sink.specs.Pending.{all_of, is_up_to, least}
use Rattle.sat_label.specs.Least.{least_label}
use Rattle.sat_sink.specs.Sink as sink
use Rattle.sat_act.specs.Deployed.{Deployed}
use Rattle.sat_model.specs.State.{SiteState}
use Rattle.sat_label.specs.Order.{mark, greater_point}
use Rattle.sat_model.specs.Look.{least_row, rows, stable_of, ready_of, cut_of}
use Rattle.sat_site.specs.Seen.{SiteSeen, IsSite}
use Rattle.sat_site.specs.Stands.{StandsSite}
use Rattle.sat_site.proofs.Parts.{count-is, site-is}

least-from : (p : ℕ → ℕ) (a : ℕ) (ps : List ℕ) (k n : ℕ) → n ≡ k + length ps → ((g m : ℕ) → m ≡ k + suc g → g < length ps → get_or ps g 0 ≡ p m) → a ≡ least_row p (suc k) → fold min a ps ≡ least_row p (suc n)
unfolding least_row
least-from p a [] k n e h w = w ∙ ap (λ (m : ℕ). least_row p (suc m)) (omega arith)
least-from p a (q ∷ ps) k n e h w =
    least-from p (min a q) ps (suc k) n (omega arith) (λ g m f lt. h (suc g) m (omega arith) (omega arith))
    (ap (λ (b : ℕ). min b q) w ∙ ap (λ (c : ℕ). min (least_row p (suc k)) c) (h 0 (suc k) (omega arith) (omega arith)))

-- the least of some numbers is that of the rows
pub least-rows : (p : ℕ → ℕ) (ps : List ℕ) (n : ℕ) → length ps ≡ n → ((g : ℕ) → g < n → get_or ps g 0 ≡ p g) → least ps ≡ least_row p n
unfolding least_row
least-rows p [] n e h = ap (least_row p) e
least-rows p (q ∷ ps) n e h =
    least-from p q ps 0 (length ps) (omega arith) (λ g m f lt. let k : m ≡ suc g = omega arith in subst (λ (m : ℕ). get_or ps g 0 ≡ p m) (sym k) (h (suc g) (omega arith))) (h 0 (omega arith)) ∙ ap (least_row p) e

rows-from : (f : ℕ → List Label) (qs : List (List Label)) (k n : ℕ) → n ≡ k + length qs → ((g m : ℕ) → m ≡ k + g → g < length qs → get_or qs g [] ≡ f m) → rows f k ++ all_of qs ≡ rows f n
unfolding rows
rows-from f [] k n e h = let w : k ≡ n = omega arith in append-nil (rows f k) ∙ ap (rows f) w
rows-from f (q ∷ qs) k n e h =
    sym (append_assoc (rows f k) q (all_of qs)) ∙
    (ap (λ (ls : List Label). (rows f k ++ ls) ++ all_of qs) (h 0 k (omega arith) (omega arith)) ∙ rows-from f qs (suc k) n (omega arith) (λ g m w lt. h (suc g) m (omega arith) (omega arith)))

-- the labels of all queues are those of the rows
pub all-rows : (f : ℕ → List Label) (qs : List (List Label)) (n : ℕ) → length qs ≡ n → ((g : ℕ) → g < n → get_or qs g [] ≡ f g) → all_of qs ≡ rows f n
unfolding rows
all-rows f qs n e h = rows-from f qs 0 n (omega arith) (λ g m w lt. let k : m ≡ g = omega arith in subst (λ (m : ℕ). get_or qs g [] ≡ f m) (sym k) (h g (omega arith)))

pub stable-same : (d : Deployed) (i : ℕ) (x : SiteSeen) (s : SiteState) → IsSite x → StandsSite d i x s → sink.stable_of x.sink ≡ stable_of d s
stable-same d i x s k st = least-rows s.sink.promises x.sink.promises d.gears (k.sink.promises ∙ count-is d i x s st) st.sink.promises

pub ready-same : (d : Deployed) (i : ℕ) (x : SiteSeen) (s : SiteState) → IsSite x → StandsSite d i x s → sink.ready_of x.sink ≡ ready_of d s
ready-same d i x s k st =
    ap (λ (t : ℕ). least_label (is_up_to t) (all_of x.sink.pending)) (stable-same d i x s k st) ∙
    ap (λ (ls : List Label). least_label (is_up_to (stable_of d s)) ls) (all-rows s.sink.pending x.sink.pending d.gears (k.sink.rows ∙ count-is d i x s st) st.sink.pending)

pub cut-same : (d : Deployed) (i : ℕ) (x : SiteSeen) (s : SiteState) → IsSite x → StandsSite d i x s → sink.cut_of x.sink ≡ cut_of d i s
cut-same d i x s k st =
    ap (λ (o : Option Label). elim o [ None ↦ mark (sink.stable_of x.sink) x.sink.site | Some l ↦ greater_point x.sink.last (mark (l.point.ts - 1) x.sink.site) ]) (ready-same d i x s k st) ∙
    (λ j. elim (ready_of d s) [ None ↦ mark (stable-same d i x s k st j) (own j) | Some l ↦ greater_point (st.sink.last j) (mark (l.point.ts - 1) (own j)) ])
  where
    own : x.sink.site ≡ i
    own = k.sink.own ∙ site-is d i x s st
