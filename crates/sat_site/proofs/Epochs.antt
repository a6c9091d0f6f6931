-- The epochs of a site: what it tells of them, and what a turn, a close, a fall and an advance make of them.
use Rattle.std.specs.Prelude.{◌≡◌, ◌≤◌, ◌<◌, ◌+◌, ◌-◌, ℕ, zero, suc, Bool, true, false, ◌==◌, ◌||◌, ◌&&◌, List, [], ◌∷◌, ◌++◌, length, get_or, set, replicate, slice_get, Option, Some, None, is_none, if◌then◌else◌, refl}
use Rattle.std.proofs.Common.{subst, ap, sym, ◌∙◌, arith}
use Rattle.std.proofs.lemmas.Bool.{eq-eqb, eqb-true, eqb-false, ne_eqb}
use Rattle.std.proofs.lemmas.List.{get_or-set_same, get_or-set_other}
use Rattle.sat_label.specs.declared.label.Label.{Label}
use Rattle.sat_label.specs.declared.label.Kind.{Kind}
use Rattle.sat_label.specs.declared.label.Kind.TheVariants.{Update, Move, Pulse, Close}
use Rattle.sat_label.specs.declared.point.Point.{Point}
use Rattle.sat_epoch.specs.declared.views.CloseFault.TheVariants as close
use Rattle.sat_epoch.specs.declared.views.FallFault.TheVariants as fall
use Rattle.sat_epoch.specs.Epochs.{Epochs, IsEpochs, after_advance, after_close, after_fall, close_cut, close_fault, fall_fault, in_stamp}
use Rattle.sat_tree.specs.Shape.{TreeShape}
use Rattle.sat_act.specs.declared.answer.Answer.TheVariants as ans
use Rattle.sat_act.specs.declared.answer.Refusal.TheVariants as why
use Rattle.sat_act.specs.Answers.{refused_if}
use Rattle.sat_act.specs.Parts.{tree_of}
use Rattle.sat_act.specs.Deployed.{Deployed}
use Rattle.sat_model.specs.State.{SiteState, ViewState}
use Rattle.sat_model.specs.Look.{mode_of}
use Rattle.sat_model.specs.Next.{views_next}
use Rattle.sat_model.specs.Input as given
use Rattle.sat_model.specs.Reply.{site_answer}
use Rattle.sat_sink.specs.Sink.{cut_of}
use Rattle.sat_site.specs.SiteSteps.{close_answer, fall_answer}
use Rattle.sat_site.proofs.Rows.{cut-same}
use Rattle.sat_proxy.specs.Laws.{Sees}
use Rattle.sat_proxy.specs.Steps.{front_views}
use Rattle.sat_proxy.specs.Answers.{done_answer}
use Rattle.sat_site.specs.Seen.{SiteSeen, IsSite}
use Rattle.sat_site.specs.Stands.{StandsSite, StandsViews}
use Rattle.sat_site.proofs.Parts.{count-is, site-is, sites-are}
use Rattle.sat_site.proofs.Equals.{eqb-suc}

-- ---- the mode

by-plan : (o : Option TreeShape) (b : Bool) → (is_none o || b) ≡ elim o [ None ↦ true | Some t ↦ b ]
by-plan None b = refl
by-plan (Some t) b = refl

-- the site is in stamp mode where the machine is
pub mode-is : (d : Deployed) (i : ℕ) (x : SiteSeen) (s : SiteState) → IsSite x → StandsSite d i x s → in_stamp x.views ≡ mode_of d s
mode-is d i x s k st =
    let start : 1 ≤ x.views.view = k.views.sound.start in
    let last : x.views.view ≤ length d.plans = subst (λ (n : ℕ). x.views.view ≤ n) st.views.count (let low = k.views.sound.low in let high = k.views.sound.last in omega arith) in
    ap (λ (b : Bool). b || x.views.fallen) (st.views.plans x.views.view start last) ∙
    (by-plan (tree_of d x.views.view) x.views.fallen ∙ (λ j. mode_by (tree_of d (st.views.view j)) (st.views.fallen j)))
  where
    mode_by : Option TreeShape → Bool → Bool
    mode_by o b = elim o [ None ↦ true | Some t ↦ b ]

-- what a site has of the others, and its epochs, in a state that it stands for
pub sees : (d : Deployed) (i : ℕ) (x : SiteSeen) (s : SiteState) → IsSite x → StandsSite d i x s → Sees d i x.views x.proxy s
sees d i x s k st = record {
  sound = k.proxy.sound;
  sites = k.proxy.sites ∙ sites-are d i x s st;
  gears = k.proxy.gears ∙ count-is d i x s st;
  own = k.proxy.own ∙ site-is d i x s st;
  told = record {
    stamp = mode-is d i x s k st;
    view = st.views.view;
    emission = st.views.emission;
    close = sym (st.views.closes x.views.view) ∙ ap s.views.closes st.views.view;
    heard = λ n lt other. sym (st.views.heard n lt other);
  };
  stands = st.proxy;
}

-- ---- a label that is taken, or an update that is shown

abbrev closes_in : Kind → ℕ → Bool
closes_in kind epoch = elim kind [ Close closed ↦ closed == epoch | _ ↦ false ]

nothing : (b c : Bool) → ((b && false) || c) ≡ c
nothing true c = refl
nothing false c = refl

-- a close of the view is heard from its site alone
close-heard : (hs : List Bool) (from k e view : ℕ) (b : Bool) → from < length hs → e ≡ view → b ≡ get_or hs k false → (((from == k) && (e == view)) || b) ≡ get_or (set hs from true) k false
close-heard hs from k e view b lt now old = go (from == k) refl
  where
    go : (c : Bool) → (from == k) ≡ c → ((c && (e == view)) || b) ≡ get_or (set hs from true) k false
    go true f = ap (λ (c : Bool). c || b) (eq-eqb e view now) ∙ (sym (get_or-set_same hs from true false lt) ∙ ap (λ (n : ℕ). get_or (set hs from true) n false) (eqb-true from k f))
    go false f = old ∙ sym (get_or-set_other hs from k true false (λ w. eqb-false from k f (sym w)))

-- a close of the view is none of a later epoch
close-now : (a : Bool) (e view epoch : ℕ) (b : Bool) → e ≡ view → view < epoch → b ≡ false → ((a && (e == epoch)) || b) ≡ false
close-now a e view epoch b now past old = ap (λ (c : Bool). (a && c) || b) (ne_eqb e epoch (λ same. omega arith)) ∙ (nothing a b ∙ old)

pub took-views : (d : Deployed) (i : ℕ) (views : Epochs) (s : ViewState) (l : Label) (kind : Kind) → l.kind ≡ kind → l.point.site < length views.heard → ((e : ℕ) → kind ≡ Close e → e ≡ views.view) → StandsViews d i views s →
    StandsViews d i (front_views views l kind) (views_next s (done_answer l kind))
took-views d i views s l (Update items) e lt now st = st
took-views d i views s l (Move n) e lt now st = record {
  view = st.view;
  emission = st.emission;
  fallen = st.fallen;
  closes = st.closes;
  heard = λ k low other. ap (λ (kind : Kind). ((l.point.site == k) && closes_in kind s.view) || s.heard k s.view) e ∙ (nothing (l.point.site == k) (s.heard k s.view) ∙ st.heard k low other);
  later = λ k epoch past. ap (λ (kind : Kind). ((l.point.site == k) && closes_in kind epoch) || s.heard k epoch) e ∙ (nothing (l.point.site == k) (s.heard k epoch) ∙ st.later k epoch past);
  plans = st.plans;
  count = st.count;
}
took-views d i views s l Pulse e lt now st = record {
  view = st.view;
  emission = st.emission;
  fallen = st.fallen;
  closes = st.closes;
  heard = λ k low other. ap (λ (kind : Kind). ((l.point.site == k) && closes_in kind s.view) || s.heard k s.view) e ∙ (nothing (l.point.site == k) (s.heard k s.view) ∙ st.heard k low other);
  later = λ k epoch past. ap (λ (kind : Kind). ((l.point.site == k) && closes_in kind epoch) || s.heard k epoch) e ∙ (nothing (l.point.site == k) (s.heard k epoch) ∙ st.later k epoch past);
  plans = st.plans;
  count = st.count;
}
took-views d i views s l (Close f) e lt now st = record {
  view = st.view;
  emission = st.emission;
  fallen = st.fallen;
  closes = st.closes;
  heard = λ k low other. ap (λ (kind : Kind). ((l.point.site == k) && closes_in kind s.view) || s.heard k s.view) e ∙ close-heard views.heard l.point.site k f s.view (s.heard k s.view) lt (now f refl ∙ st.view) (st.heard k low other);
  later = λ k epoch past. ap (λ (kind : Kind). ((l.point.site == k) && closes_in kind epoch) || s.heard k epoch) e ∙ close-now (l.point.site == k) f s.view epoch (s.heard k epoch) (now f refl ∙ st.view) past (st.later k epoch past);
  plans = st.plans;
  count = st.count;
}

-- ---- a close

chosen-by : {b : Bool} (cut : Point) (o : Option Point) → b ≡ false → (if b then Some cut else o) ≡ o
chosen-by cut o e = ap (λ (b : Bool). if b then Some cut else o) e

-- the cut of an epoch from 1 on
close-place : (cuts : List Point) (e : ℕ) → (if suc e == 0 then None else slice_get cuts (suc e - 1)) ≡ slice_get cuts e
close-place cuts e = ap (λ (b : Bool). if b then None else slice_get cuts (suc e - 1)) (ne_eqb (suc e) 0 (λ w. omega arith)) ∙ ap (slice_get cuts) (let same : suc e - 1 ≡ e = omega arith in same)

more-cuts : (cuts : List Point) (cut : Point) (n : ℕ) → slice_get (cuts ++ cut ∷ []) n ≡ (if length cuts == n then Some cut else slice_get cuts n)
more-cuts [] cut zero = refl
more-cuts [] cut (suc n) = sym (chosen-by cut None (ne_eqb 0 (suc n) (λ w. omega arith)))
more-cuts (q ∷ cuts) cut zero = sym (chosen-by cut (Some q) (ne_eqb (suc (length cuts)) 0 (λ w. omega arith)))
more-cuts (q ∷ cuts) cut (suc n) = more-cuts cuts cut n ∙ ap (λ (b : Bool). if b then Some cut else slice_get cuts n) (sym (eqb-suc (length cuts) n))

cut-of : (views : Epochs) (cut : Point) (e : ℕ) → length views.closes + 1 ≡ views.emission → close_cut (after_close views cut) e ≡ (if views.emission == e then Some cut else close_cut views e)
cut-of views cut zero count = sym (chosen-by cut None (ne_eqb views.emission 0 (λ w. omega arith)))
cut-of views cut (suc e) count =
    close-place (views.closes ++ cut ∷ []) e ∙ (more-cuts views.closes cut e ∙ (λ j. if same j then Some cut else sym (close-place views.closes e) j))
  where
    same : (length views.closes == e) ≡ (views.emission == suc e)
    same = sym (eqb-suc (length views.closes) e) ∙ ap (λ (n : ℕ). n == suc e) (let k : suc (length views.closes) ≡ views.emission = omega arith in k)

pub closed-views : (d : Deployed) (i : ℕ) (views : Epochs) (s : ViewState) (cut : Point) → IsEpochs views → StandsViews d i views s → StandsViews d i (after_close views cut) (views_next s (ans.Closed views.emission cut))
closed-views d i views s cut k st = record {
  view = st.view;
  emission = refl;
  fallen = st.fallen;
  closes = λ e. ap (λ (o : Option Point). if views.emission == e then Some cut else o) (st.closes e) ∙ sym (cut-of views cut e k.closed);
  heard = st.heard;
  later = st.later;
  plans = st.plans;
  count = st.count;
}

-- whether the epoch can be closed
pub close-is : (d : Deployed) (i : ℕ) (x : SiteSeen) (s : SiteState) → IsSite x → StandsSite d i x s → close_answer (close_fault x.views) x ≡ site_answer d i s given.Close
unfolding site_answer
close-is d i x s k st =
    go (x.views.emission == length x.views.stamp) (x.views.emission == x.views.view + 1) ∙
    (λ j. refused_if (st.views.emission j == st.views.count j) why.NoNextEpoch (refused_if (st.views.emission j == st.views.view j + 1) why.Behind (ans.Closed (st.views.emission j) (cut-same d i x s k st j))))
  where
    go : (a b : Bool) → close_answer (if a then Some close.NoNextEpoch else (if b then Some close.Behind else None)) x ≡ refused_if a why.NoNextEpoch (refused_if b why.Behind (ans.Closed x.views.emission (cut_of x.sink)))
    go true b = refl
    go false true = refl
    go false false = refl

-- ---- a fall

pub fell-views : (d : Deployed) (i : ℕ) (views : Epochs) (s : ViewState) → StandsViews d i views s → StandsViews d i (after_fall views) (views_next s ans.Fallen)
fell-views d i views s st = record { view = st.view; emission = st.emission; fallen = refl; closes = st.closes; heard = st.heard; later = st.later; plans = st.plans; count = st.count }

pub fall-is : (d : Deployed) (i : ℕ) (x : SiteSeen) (s : SiteState) → IsSite x → StandsSite d i x s → fall_answer (fall_fault x.views) ≡ site_answer d i s given.Fall
unfolding site_answer
fall-is d i x s k st =
    go (in_stamp x.views) (x.views.emission == x.views.view) ∙
    (λ j. refused_if (mode-is d i x s k st j) why.StampOrder (refused_if (st.views.emission j == st.views.view j) why.NotClosed ans.Fallen))
  where
    go : (a b : Bool) → fall_answer (if a then Some fall.StampOrder else (if b then Some fall.NotClosed else None)) ≡ refused_if a why.StampOrder (refused_if b why.NotClosed ans.Fallen)
    go true b = refl
    go false true = refl
    go false false = refl

-- ---- an advance

none-heard : (n k : ℕ) → get_or (replicate n false) k false ≡ false
none-heard zero k = refl
none-heard (suc n) zero = refl
none-heard (suc n) (suc k) = none-heard n k

pub passed-views : (d : Deployed) (i : ℕ) (views : Epochs) (s : ViewState) → StandsViews d i views s → StandsViews d i (after_advance views) (views_next s (ans.View (views.view + 1)))
passed-views d i views s st = record {
  view = refl;
  emission = st.emission;
  fallen = refl;
  closes = st.closes;
  heard = λ k low other. st.later k (views.view + 1) (let e : views.view ≡ s.view = st.view in omega arith) ∙ sym (none-heard (length views.heard) k);
  later = λ k e past. st.later k e (let f : views.view ≡ s.view = st.view in omega arith);
  plans = st.plans;
  count = st.count;
}
