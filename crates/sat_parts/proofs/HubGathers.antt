-- A gather: which is one, what the hub answers, and what it becomes.
use Rattle.std.specs.Prelude.{◌≡◌, ◌<◌, ◌≤◌, ◌^◌, ◌+◌, ◌==◌, ℕ, zero, suc, Bool, true, false, ◌&&◌, nat_le, nat_lt, List, [], ◌∷◌, ◌++◌, length, map, get_or, slice_get, if◌then◌else◌, refl}
use Rattle.std.specs.List.{flat_map, list_all}
use Rattle.std.specs.Bool.{Decides}
use Rattle.std.proofs.Common.{subst, ap, sym, ◌∙◌, arith}
use Rattle.std.proofs.lemmas.Bool.Decides.{nat_tests}
use Rattle.std.proofs.lemmas.List.{length-map}
use Rattle.std.proofs.lemmas.Option.{slice_get_past}
use Rattle.std.proofs.lemmas.Bool.{and_parts, eq-eqb, eqb-true, leb-true}
use Rattle.sat_label.specs.declared.label.Label.{Label}
use Rattle.sat_bulk.specs.declared.Drained.{Drained}
use Rattle.sat_sink.specs.Sink.{Sink, IsDrain, IsDrainOf, are_new}
use Rattle.sat_sink.specs.Pending.{all_of, labels_of, least, promise_of}
use Rattle.sat_sink.proofs.Fits.{goes-on, on-goes}
use Rattle.sat_sink.proofs.Queues.{joined-get}
use Rattle.sat_act.specs.declared.answer.Answer.TheVariants as ans
use Rattle.sat_act.specs.Deployed.{Deployed}
use Rattle.sat_model.specs.Look.{least_row, rows}
use Rattle.sat_hub.specs.Seen.{HubSeen, IsGather, IsHub}
use Rattle.sat_hub.specs.Inputs.{is_given_here}
use Rattle.sat_hub.specs.Changes.{counts_of, gathered}
use Rattle.sat_hub.specs.HubSteps.{gather_answer}
use Rattle.sat_hub.proofs.Gathering.{may-gather}
use Rattle.sat_site.specs.Stands.{StandsSink}
use Rattle.sat_site.proofs.Rows.{all-rows, least-rows}
use Rattle.sat_joint.specs.Pieces.{Drain}
use Rattle.sat_joint.specs.Machines.{HubState, gathers, no_drain, of_gears}
use Rattle.sat_hub_laws.specs.Inputs as model
use Rattle.sat_hub_laws.specs.Hubs.{hub_answer, hub_then}
use Rattle.sat_hub_laws.specs.Changes.{sink_gathers}
use Rattle.sat_hub_laws.proofs.Changes.{hubs-change}
use Rattle.sat_parts.specs.Acts.{drain_at, drains_of}
use Rattle.sat_parts.specs.HubSteps.{go_on, goes_on, is_promise, may_gather, may_give}
use Rattle.sat_parts.specs.Hubs.{StandsHub}

-- ---- which lists may be gathered

drain-of : (s : Sink) (g : ℕ) (given : Drained) → goes_on s g given ≡ true → IsDrainOf s g given
drain-of s g given e =
    let w = and_parts (nat_le (get_or s.promises g 0) given.promise) (are_new s.site g given.promise given.labels (get_or s.promises g 0)) e in
    goes-on s s.site g (get_or s.promises g 0) given given.labels refl refl refl (leb-true (get_or s.promises g 0) given.promise w.0) w.1

le-leb : (a b : ℕ) → a ≤ b → nat_le a b ≡ true
le-leb a b e = grind (arith, nat_tests)

both : (a b : Bool) → a ≡ true → b ≡ true → (a && b) ≡ true
both a b e f = λ j. e j && f j

of-drain : (s : Sink) (g : ℕ) (given : Drained) → IsDrainOf s g given → goes_on s g given ≡ true
of-drain s g given k =
    let w = on-goes s s.site g (get_or s.promises g 0) given given.labels refl refl refl k in
    both _ _ (le-leb (get_or s.promises g 0) given.promise w.0) w.1

all-go : (s : Sink) (n : ℕ) (drained : List Drained) → go_on s n drained ≡ true → (g m : ℕ) (given : Drained) → g < length drained → m ≡ n + g → IsDrainOf s m (get_or drained g given)
all-go s n [] e g m given lt at = absurd (omega arith)
all-go s n (first ∷ rest) e zero m given lt at = let same : m ≡ n = omega arith in subst (λ (k : ℕ). IsDrainOf s k first) (sym same) (drain-of s n first (and_parts (goes_on s n first) (go_on s (n + 1) rest) e).0)
all-go s n (first ∷ rest) e (suc g) m given lt at = all-go s (n + 1) rest (and_parts (goes_on s n first) (go_on s (n + 1) rest) e).1 g m given (omega arith) (omega arith)

go-all : (s : Sink) (n : ℕ) (drained : List Drained) → ((g m : ℕ) (given : Drained) → g < length drained → m ≡ n + g → IsDrainOf s m (get_or drained g given)) → go_on s n drained ≡ true
go-all s n [] f = refl
go-all s n (first ∷ rest) f =
    both _ _ (of-drain s n first (f 0 n first (omega arith) (omega arith)))
    (go-all s (n + 1) rest (λ g m given lt at. f (suc g) m given (omega arith) (omega arith)))

is-drain : (s : Sink) (drained : List Drained) → (length drained == length s.promises) ≡ true → go_on s 0 drained ≡ true → IsDrain s drained
is-drain s drained e f = record { count = eqb-true (length drained) (length s.promises) e; each = λ g given lt. all-go s 0 drained f g g given lt (omega arith) }

drain-is : (s : Sink) (drained : List Drained) → IsDrain s drained → ((length drained == length s.promises) && go_on s 0 drained) ≡ true
drain-is s drained k =
    both _ _ (eq-eqb (length drained) (length s.promises) k.count)
    (go-all s 0 drained (λ g m given lt at. let same : m ≡ g = omega arith in subst (λ (n : ℕ). IsDrainOf s n (get_or drained g given)) (sym same) (k.each g given lt)))

-- what the sink of a hub may be given, and each gear may have given
given-decides : (x : HubSeen) (drained : List Drained) → IsHub x → (b : Bool) → list_all (is_given_here x.shape) drained ≡ b → IsDrain x.sink drained → Decides b (IsGather x drained)
given-decides x drained k b e drain = may-gather x x drained b refl k ((λ t. drain), (λ d. refl)) (sym e)

pub gives-is : (x : HubSeen) (drained : List Drained) → IsHub x → may_give x drained ≡ true → IsGather x drained
gives-is x drained k e =
    let w = and_parts ((length drained == length x.sink.promises) && go_on x.sink 0 drained) (list_all (is_given_here x.shape) drained) e in
    let v = and_parts (length drained == length x.sink.promises) (go_on x.sink 0 drained) w.0 in
    (given-decides x drained k true w.1 (is-drain x.sink drained v.0 v.1)).0 refl

pub is-gives : (x : HubSeen) (drained : List Drained) → IsHub x → IsGather x drained → may_give x drained ≡ true
is-gives x drained k g =
    both _ _ (drain-is x.sink drained g.drain)
    ((given-decides x drained k (list_all (is_given_here x.shape) drained) refl g.drain).1 g)

pub gather-fits : (x : HubSeen) (drained : List Drained) → IsHub x → may_gather x drained ≡ true → IsGather x drained
gather-fits x drained k e = gives-is x drained k (and_parts (may_give x drained) (list_all is_promise drained) e).0

-- by what the code asks
pub asks-gather : (w x : HubSeen) (drained : List Drained) (r : Bool) → w ≡ x → IsHub w → Decides true (IsGather x drained) → r ≡ list_all is_promise drained → r ≡ may_gather x drained
asks-gather w x drained r same k may e =
    e ∙ ap (λ (b : Bool). b && list_all is_promise drained) (sym (is-gives x drained (subst IsHub same k) (may.0 refl)))

no-gather : (x : HubSeen) (drained : List Drained) (b : Bool) → may_give x drained ≡ b → IsHub x → Decides false (IsGather x drained) → false ≡ may_gather x drained
no-gather x drained true e k may = absurd (let clash : false ≡ true = may.1 (gives-is x drained k e) in cc)
no-gather x drained false e k may = ap (λ (b : Bool). b && list_all is_promise drained) (sym e)

pub asks-not : (w x : HubSeen) (drained : List Drained) → w ≡ x → IsHub w → Decides false (IsGather x drained) → false ≡ may_gather x drained
asks-not w x drained same k may = no-gather x drained (may_give x drained) refl (subst IsHub same k) may

-- ---- what the gears gave, by place

promise-at : (drained : List Drained) (g : ℕ) → get_or (map promise_of drained) g 0 ≡ (drain_at (slice_get drained g)).promise
promise-at [] g = refl
promise-at (x ∷ drained) zero = refl
promise-at (x ∷ drained) (suc g) = promise-at drained g

labels-at : (drained : List Drained) (g : ℕ) → get_or (map labels_of drained) g [] ≡ (drain_at (slice_get drained g)).labels
labels-at [] g = refl
labels-at (x ∷ drained) zero = refl
labels-at (x ∷ drained) (suc g) = labels-at drained g

counts-at : (drained : List Drained) (g j : ℕ) → get_or (get_or (map counts_of drained) g []) j 0 ≡ (drain_at (slice_get drained g)).counts j
counts-at [] g j = refl
counts-at (x ∷ drained) zero j = refl
counts-at (x ∷ drained) (suc g) j = counts-at drained g j

lt-false : (a b : ℕ) → nat_lt a b ≡ false → b ≤ a
lt-false a b e = grind (arith, nat_tests)

-- there is one for each gear of the deployment
of-gears : (d : Deployed) (drained : List Drained) (g : ℕ) → length drained ≡ d.gears → drains_of drained g ≡ of_gears d (drains_of drained) g
of-gears d drained g e = go (nat_lt g d.gears) refl
  where
    go : (b : Bool) → nat_lt g d.gears ≡ b → drains_of drained g ≡ (if b then drains_of drained g else no_drain)
    go true f = refl
    go false f = ap drain_at (slice_get_past drained g (subst (λ (n : ℕ). n ≤ g) (sym e) (lt-false g d.gears f)))

all-labels : (drained : List Drained) → flat_map labels_of drained ≡ all_of (map labels_of drained)
all-labels [] = refl
all-labels (x ∷ drained) = ap (λ (ls : List Label). x.labels ++ ls) (all-labels drained)

-- ---- the answer

gathers-is : (d : Deployed) (drained : List Drained) → length drained ≡ d.gears → gather_answer drained ≡ gathers d (drains_of drained)
gathers-is d drained e =
    let f : ℕ → Drain = of_gears d (drains_of drained) in
    let n : flat_map labels_of drained ≡ rows (λ g. (of_gears d (drains_of drained) g).labels) d.gears =
    all-labels drained ∙ all-rows (λ g. (of_gears d (drains_of drained) g).labels) (map labels_of drained) d.gears (length-map drained labels_of ∙ e) (λ g lt. labels-at drained g ∙ ap (λ (x : Drain). x.labels) (of-gears d drained g e)) in
    let t : least (map promise_of drained) ≡ least_row (λ g. (of_gears d (drains_of drained) g).promise) d.gears =
    least-rows (λ g. (of_gears d (drains_of drained) g).promise) (map promise_of drained) d.gears (length-map drained promise_of ∙ e) (λ g lt. promise-at drained g ∙ ap (λ (x : Drain). x.promise) (of-gears d drained g e)) in
    λ j. ans.Gathered (length (n j)) (t j)

-- how many gears gave
pub count-gears : (d : Deployed) (i : ℕ) (x : HubSeen) (h : HubState) (drained : List Drained) → IsHub x → StandsHub d i x h → IsGather x drained → length drained ≡ d.gears
count-gears d i x h drained k st g = g.drain.count ∙ (k.sink.promises ∙ (λ j. (st.shape j).gears))

pub gather-answers : (d : Deployed) (i : ℕ) (x : HubSeen) (h : HubState) (drained : List Drained) → IsHub x → StandsHub d i x h → IsGather x drained → gather_answer drained ≡ hub_answer d i h (model.Gather (drains_of drained))
unfolding hub_answer
gather-answers d i x h drained k st g = gathers-is d drained (count-gears d i x h drained k st g)

-- ---- what it becomes

sink-gathers : (d : Deployed) (i : ℕ) (x : HubSeen) (h : HubState) (drained : List Drained) → IsHub x → StandsHub d i x h → length drained ≡ d.gears → StandsSink d (gathered x drained).sink (gathered x drained).counts (sink_gathers h.sink (of_gears d (drains_of drained)))
sink-gathers d i x h drained k st e = record {
  promises = λ g lt. promise-at drained g ∙ ap (λ (f : Drain). f.promise) (of-gears d drained g e);
  pending = λ g lt.
      joined-get x.sink.pending (map labels_of drained) g (subst (λ (m : ℕ). g < m) (sym (k.sink.rows ∙ (λ j. (st.shape j).gears))) lt) ∙
      (ap (λ (ls : List Label). ls ++ get_or (map labels_of drained) g []) (st.sink.pending g lt) ∙
      ap (λ (ls : List Label). h.sink.pending g ++ ls) (labels-at drained g ∙ ap (λ (f : Drain). f.labels) (of-gears d drained g e)));
  counted = λ g j lt. counts-at drained g j ∙ ap (λ (f : Drain). f.counts j) (of-gears d drained g e);
  last = st.sink.last;
  pulse = st.sink.pulse;
}

pub gather-stands : (d : Deployed) (i : ℕ) (x : HubSeen) (h : HubState) (drained : List Drained) (n t : ℕ) → IsHub x → StandsHub d i x h → IsGather x drained →
    StandsHub d i (gathered x drained) (hub_then d i h (model.Gather (drains_of drained)) (ans.Gathered n t))
gather-stands d i x h drained n t k st g =
    subst (StandsHub d i (gathered x drained)) (sym ((hubs-change d i h).gather (drains_of drained) n t)) (record {
      shape = st.shape;
      sink = sink-gathers d i x h drained k st (count-gears d i x h drained k st g);
      views = st.views;
      proxy = st.proxy;
      made = st.made;
    })

-- what was gathered are timestamps
pub all-times : (drained : List Drained) → list_all is_promise drained ≡ true → (g : ℕ) → get_or (map promise_of drained) g 0 ≤ 2 ^ 62
all-times [] e g = omega arith
all-times (x ∷ drained) e zero = leb-true x.promise (2 ^ 62) (and_parts (is_promise x) (list_all is_promise drained) e).0
all-times (x ∷ drained) e (suc g) = all-times drained (and_parts (is_promise x) (list_all is_promise drained) e).1 g
