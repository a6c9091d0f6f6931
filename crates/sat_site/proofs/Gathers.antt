-- A gather, and the emission of a label.
use Rattle.std.specs.Prelude.{◌≡◌, ◌≤◌, ◌<◌, ℕ, zero, suc, Bool, true, false, not, ◌&&◌, ◌||◌, nat_le, nat_lt, List, [], ◌∷◌, ◌++◌, length, map, get_or, filter, Option, Some, None, is_some, slice_get, if◌then◌else◌, refl}
use Rattle.std.specs.List.{flat_map}
use Rattle.std.proofs.Common.{subst, ap, sym, ◌∙◌, arith, inl, inr}
use Rattle.std.proofs.lemmas.Bool.Decides.{nat_tests}
use Rattle.std.proofs.lemmas.List.{length-map}
use Rattle.sat_label.specs.declared.label.Label.{Label}
use Rattle.sat_label.specs.Order.{label_eq}
use Rattle.sat_label.specs.declared.label.Kind.TheVariants as kind
use Rattle.sat_label.specs.declared.limits.TheConstants.{PULSE_GEAR}
use Rattle.sat_label.specs.Order.{point_at}
use Rattle.sat_bulk.specs.declared.Drained.{Drained}
use Rattle.sat_bulk.specs.Payloads.{Payload}
use Rattle.sat_gear.specs.Lanes.{count_of}
use Rattle.sat_act.specs.Answers.{refused_if}
use Rattle.sat_site.specs.SiteSteps.{next_pulse, pulse_answer}
use Rattle.sat_site.proofs.Equals.{low-or-high}
use Rattle.sat_gear.specs.Gear.{GearSeen, after_drain, drained_of}
use Rattle.sat_sink.specs.Pending.{all_of, labels_of, promise_of, least}
use Rattle.sat_sink.specs.Sink as sink
use Rattle.sat_sink.proofs.Queues.{joined-get, without-get}
use Rattle.sat_act.specs.declared.answer.Answer.TheVariants as ans
use Rattle.sat_act.specs.declared.answer.Refusal.TheVariants as why
use Rattle.sat_act.specs.declared.answer.Answer.{Answer}
use Rattle.sat_act.specs.Deployed.{Deployed}
use Rattle.sat_model.specs.Input as given
use Rattle.sat_model.specs.State.{SiteState, GearState}
use Rattle.sat_model.specs.Next.{site_next, gear_next}
use Rattle.sat_model.specs.Reply.{site_answer}
use Rattle.sat_model.specs.Look.{least_row, rows}
use Rattle.sat_site.specs.Seen.{SiteSeen, IsSite}
use Rattle.sat_site.specs.Stands.{StandsSite, StandsGear}
use Rattle.sat_site.specs.Changes.{counts_of, gathered_all, fresh_of, pulsed, sent, HasGear}
use Rattle.sat_site.proofs.Parts.{count-is, site-is, gears-map, store-map}
use Rattle.sat_site.proofs.Rows.{least-rows, all-rows, ready-same, stable-same}

-- what is drained of each gear, by place
pub promise-at : (gears : List GearSeen) (g : ℕ) (gear : GearSeen) → slice_get gears g ≡ Some gear → get_or (map promise_of (map drained_of gears)) g 0 ≡ gear.promise
promise-at [] g gear e = absurd (cc)
promise-at (x ∷ gears) zero gear e = let same : x ≡ gear = cc in ap (λ (y : GearSeen). y.promise) same
promise-at (x ∷ gears) (suc g) gear e = promise-at gears g gear e

pub labels-at : (gears : List GearSeen) (g : ℕ) (gear : GearSeen) → slice_get gears g ≡ Some gear → get_or (map labels_of (map drained_of gears)) g [] ≡ gear.fresh
labels-at [] g gear e = absurd (cc)
labels-at (x ∷ gears) zero gear e = let same : x ≡ gear = cc in ap (λ (y : GearSeen). y.fresh) same
labels-at (x ∷ gears) (suc g) gear e = labels-at gears g gear e

all-fresh : (gears : List GearSeen) → flat_map fresh_of gears ≡ all_of (map labels_of (map drained_of gears))
all-fresh [] = refl
all-fresh (x ∷ gears) = ap (λ (ls : List Label). x.fresh ++ ls) (all-fresh gears)

pub each-gear : (x : SiteSeen) (g : ℕ) → g < length x.gears → (gear : GearSeen) × HasGear x g gear
each-gear x g lt = go x.gears g lt
  where
    go : (gears : List GearSeen) (g : ℕ) → g < length gears → (gear : GearSeen) × (slice_get gears g ≡ Some gear)
    go [] g lt = absurd (omega arith)
    go (y ∷ gears) zero lt = (y, refl)
    go (y ∷ gears) (suc g) lt = go gears g (omega arith)

within : (d : Deployed) (i : ℕ) (x : SiteSeen) (s : SiteState) (g : ℕ) → IsSite x → StandsSite d i x s → g < d.gears → g < length x.gears
within d i x s g k st lt = subst (λ (n : ℕ). g < n) (sym (k.gears.count ∙ count-is d i x s st)) lt

drained-promises : (d : Deployed) (i : ℕ) (x : SiteSeen) (s : SiteState) → IsSite x → StandsSite d i x s → (g : ℕ) → g < d.gears → get_or (map promise_of (map drained_of x.gears)) g 0 ≡ (s.gears g).promise
drained-promises d i x s k st g lt = let y = each-gear x g (within d i x s g k st lt) in promise-at x.gears g y.0 y.1 ∙ (st.gears.each g y.0 y.1).promise

drained-labels : (d : Deployed) (i : ℕ) (x : SiteSeen) (s : SiteState) → IsSite x → StandsSite d i x s → (g : ℕ) → g < d.gears → get_or (map labels_of (map drained_of x.gears)) g [] ≡ (s.gears g).fresh
drained-labels d i x s k st g lt = let y = each-gear x g (within d i x s g k st lt) in labels-at x.gears g y.0 y.1 ∙ (st.gears.each g y.0 y.1).fresh

pub length-drained : {X : Type 0} (f : Drained → X) (gears : List GearSeen) → length (map f (map drained_of gears)) ≡ length gears
length-drained f gears = length-map (map drained_of gears) f ∙ length-map gears drained_of

pub gathers-answer : (d : Deployed) (i : ℕ) (x : SiteSeen) (s : SiteState) → IsSite x → StandsSite d i x s → ans.Gathered (length (flat_map fresh_of x.gears)) (least (map promise_of (map drained_of x.gears))) ≡ site_answer d i s given.Gather
unfolding site_answer
gathers-answer d i x s k st =
    let n : flat_map fresh_of x.gears ≡ rows (λ g. (s.gears g).fresh) d.gears =
    all-fresh x.gears ∙ all-rows (λ g. (s.gears g).fresh) (map labels_of (map drained_of x.gears)) d.gears (length-drained labels_of x.gears ∙ (k.gears.count ∙ count-is d i x s st)) (drained-labels d i x s k st) in
    let t : least (map promise_of (map drained_of x.gears)) ≡ least_row (λ g. (s.gears g).promise) d.gears =
    least-rows (λ g. (s.gears g).promise) (map promise_of (map drained_of x.gears)) d.gears (length-drained promise_of x.gears ∙ (k.gears.count ∙ count-is d i x s st)) (drained-promises d i x s k st) in
    λ j. ans.Gathered (length (n j)) (t j)

drained-gear : (d : Deployed) (gear : GearSeen) (s : GearState) (k n t : ℕ) → StandsGear d gear s → StandsGear d (after_drain gear) (gear_next d k s given.Gather (ans.Gathered n t))
drained-gear d gear s k n t st = record { promise = st.promise; fresh = refl; lanes = st.lanes }

-- what was drained of the lanes, by place
counts-at : (gears : List GearSeen) (g : ℕ) (gear : GearSeen) → slice_get gears g ≡ Some gear → get_or (map counts_of (map drained_of gears)) g [] ≡ map count_of gear.lanes
counts-at [] g gear e = absurd (cc)
counts-at (x ∷ gears) zero gear e = let same : x ≡ gear = cc in ap (λ (y : GearSeen). map count_of y.lanes) same
counts-at (x ∷ gears) (suc g) gear e = counts-at gears g gear e

past-counts : (gears : List GearSeen) (g : ℕ) → length gears ≤ g → get_or (map counts_of (map drained_of gears)) g [] ≡ []
past-counts [] g lt = refl
past-counts (x ∷ gears) zero lt = absurd (omega arith)
past-counts (x ∷ gears) (suc g) lt = past-counts gears g (omega arith)

lane-count : (lanes : List (List Payload)) (j : ℕ) → get_or (map count_of lanes) j 0 ≡ length (get_or lanes j [])
lane-count [] j = refl
lane-count (l ∷ lanes) zero = refl
lane-count (l ∷ lanes) (suc j) = lane-count lanes j

drained-counts : (d : Deployed) (i : ℕ) (x : SiteSeen) (s : SiteState) → IsSite x → StandsSite d i x s → (g j : ℕ) → j < d.sites → get_or (get_or (map counts_of (map drained_of x.gears)) g []) j 0 ≡ length ((s.gears g).lanes j)
drained-counts d i x s k st g j lt = elim (low-or-high g d.gears) [
  | inl low ↦ (let y = each-gear x g (within d i x s g k st low) in
      ap (λ (row : List ℕ). get_or row j 0) (counts-at x.gears g y.0 y.1) ∙ (lane-count y.0.lanes j ∙ ap (λ (ps : List Payload). length ps) ((st.gears.each g y.0 y.1).lanes j lt)))
  | inr high ↦ ap (λ (row : List ℕ). get_or row j 0) (past-counts x.gears g (subst (λ (n : ℕ). n ≤ g) (sym (k.gears.count ∙ count-is d i x s st)) high)) ∙ ap (λ (ps : List Payload). length ps) (sym (st.gears.none g j high))
]

pub gathers-stand : (d : Deployed) (i : ℕ) (x : SiteSeen) (s : SiteState) (n t : ℕ) → IsSite x → StandsSite d i x s → StandsSite d i (gathered_all x) (site_next d i s given.Gather (ans.Gathered n t))
unfolding site_next
gathers-stand d i x s n t k st = record {
  shape = st.shape;
  gears = gears-map d after_drain x.gears s.gears (λ g. gear_next d g (s.gears g) given.Gather (ans.Gathered n t)) st.gears (λ g gear at old. drained-gear d gear (s.gears g) g n t old) (λ g j. refl);
  sink = record {
    promises = drained-promises d i x s k st;
    pending = λ g lt.
        joined-get x.sink.pending (map labels_of (map drained_of x.gears)) g (subst (λ (m : ℕ). g < m) (sym (k.sink.rows ∙ count-is d i x s st)) lt) ∙
        (ap (λ (ls : List Label). ls ++ get_or (map labels_of (map drained_of x.gears)) g []) (st.sink.pending g lt) ∙
        ap (λ (ls : List Label). s.sink.pending g ++ ls) (drained-labels d i x s k st g lt));
    counted = drained-counts d i x s k st;
    last = st.sink.last;
    pulse = st.sink.pulse;
  };
  views = st.views;
  proxy = st.proxy;
  store = store-map d i after_drain x.gears s.store st.store (λ gear n. refl);
  made = st.made;
}

-- ---- emission

abbrev emit_answer : Option Label → Answer
emit_answer o = elim o [ None ↦ ans.Refused why.Idle | Some l ↦ ans.Emitted l ]

pub idles-answer : (d : Deployed) (i : ℕ) (x : SiteSeen) (s : SiteState) → sink.ready_of x.sink ≡ None → IsSite x → StandsSite d i x s → ans.Refused why.Idle ≡ site_answer d i s given.Emit
unfolding site_answer
idles-answer d i x s e k st = ap emit_answer (sym e ∙ ready-same d i x s k st)

pub emits-answer : (d : Deployed) (i : ℕ) (x : SiteSeen) (s : SiteState) (l : Label) → sink.ready_of x.sink ≡ Some l → IsSite x → StandsSite d i x s → ans.Emitted l ≡ site_answer d i s given.Emit
unfolding site_answer
emits-answer d i x s l e k st = ap emit_answer (sym e ∙ ready-same d i x s k st)

pub emits-stand : (d : Deployed) (i : ℕ) (x : SiteSeen) (s : SiteState) (l : Label) → StandsSite d i x s → StandsSite d i (sent x l) (site_next d i s given.Emit (ans.Emitted l))
unfolding site_next
emits-stand d i x s l st = record {
  shape = st.shape;
  gears = record { each = st.gears.each; none = st.gears.none };
  sink = record {
    promises = st.sink.promises;
    pending = λ g lt. without-get l x.sink.pending g ∙ ap (filter (λ m. not (label_eq l m))) (st.sink.pending g lt);
    counted = st.sink.counted;
    last = refl;
    pulse = st.sink.pulse;
  };
  views = st.views;
  proxy = st.proxy;
  store = st.store;
  made = st.made;
}

-- ---- a pulse

lt-is : (p t : ℕ) → nat_lt p t ≡ not (nat_le t p)
lt-is p t = grind (arith, nat_tests)

pub pulses-answer : (d : Deployed) (i : ℕ) (x : SiteSeen) (s : SiteState) → IsSite x → StandsSite d i x s → pulse_answer (next_pulse x.sink) ≡ site_answer d i s given.Pulse
unfolding site_answer
pulses-answer d i x s k st =
    go (is_some (sink.ready_of x.sink)) (nat_le (sink.stable_of x.sink) x.sink.pulse) (lt-is x.sink.pulse (sink.stable_of x.sink)) ∙
    (λ j. refused_if (is_some (ready-same d i x s k st j) || nat_le (stable-same d i x s k st j) (st.sink.pulse j)) why.Idle
    (ans.Pulsed (record { point = point_at (stable-same d i x s k st j) (own j) PULSE_GEAR; kind = kind.Pulse })))
  where
    own : x.sink.site ≡ i
    own = k.sink.own ∙ site-is d i x s st

    go : (a b : Bool) → nat_lt x.sink.pulse (sink.stable_of x.sink) ≡ not b → pulse_answer (if not a && nat_lt x.sink.pulse (sink.stable_of x.sink) then Some (sink.pulse_of x.sink) else None) ≡ refused_if (a || b) why.Idle (ans.Pulsed (sink.pulse_of x.sink))
    go true b e = refl
    go false true e = ap (λ (c : Bool). pulse_answer (if c then Some (sink.pulse_of x.sink) else None)) e
    go false false e = ap (λ (c : Bool). pulse_answer (if c then Some (sink.pulse_of x.sink) else None)) e

pub pulses-stand : (d : Deployed) (i : ℕ) (x : SiteSeen) (s : SiteState) → StandsSite d i x s → StandsSite d i (pulsed x) (site_next d i s given.Pulse (ans.Pulsed (sink.pulse_of x.sink)))
unfolding site_next
pulses-stand d i x s st = record {
  shape = st.shape;
  gears = record { each = st.gears.each; none = st.gears.none };
  sink = record { promises = st.sink.promises; pending = st.sink.pending; counted = st.sink.counted; last = refl; pulse = refl };
  views = st.views;
  proxy = st.proxy;
  store = st.store;
  made = st.made;
}
