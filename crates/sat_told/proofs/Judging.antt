-- The laws of told histories and those of runs say the same.
use Rattle.std.specs.Prelude.{◌≡◌, ◌==◌, ℕ, zero, suc, Bool, true, false, List, [], ◌∷◌, map, get_or, Option, Some, None, refl, slice_get}
use Rattle.std.proofs.Common.{sym, subst, inl, inr, ap, ◌∙◌}
use Rattle.std.proofs.lemmas.Bool.{false_from_ne_true}
use Rattle.std.proofs.lemmas.Nat.Bits.{bit_at-zero}
use Rattle.sat_label.specs.declared.label.Kind.{Kind}
use Rattle.sat_label.specs.declared.label.Kind.TheVariants as kind
use Rattle.sat_label.specs.declared.label.Label.{Label}
use Rattle.sat_label.specs.declared.point.Point.{Point}
use Rattle.sat_label.specs.Grouped.{list_of}
use Rattle.sat_label.specs.Order.{label_eq, label_lt, point_eq, point_lt}
use Rattle.sat_label.specs.Words.{bit}
use Rattle.sat_label.proofs.Orders.{label_lt-self, same-label}
use Rattle.sat_act.specs.declared.act.Act.{Act}
use Rattle.sat_act.specs.declared.act.Act.TheVariants as act
use Rattle.sat_act.specs.declared.answer.Answer.{Answer}
use Rattle.sat_act.specs.declared.answer.Answer.TheVariants as ans
use Rattle.sat_act.specs.declared.deployment.Item.{Item}
use Rattle.sat_act.specs.declared.entry.Entry.{Entry}
use Rattle.sat_act.specs.Deployed.{Deployed}
use Rattle.sat_act.specs.Done.{made_in, Written, write_in}
use Rattle.sat_act.specs.Parts.{items_of, is_update_of, replicates, shown_entry, value_for, value_of, values_of, values_if}
use Rattle.sat_act.specs.Causes as runs
use Rattle.sat_act.specs.Goals.{Gives, IsFresh, IsKeptAt, IsWriteOf, Made, Writes, WritesNow}
use Rattle.sat_act.specs.Goals as goals
use Rattle.sat_verdict.specs.declared.tale.Tale.{Tale}
use Rattle.sat_verdict.specs.Causes as told
use Rattle.sat_verdict.specs.Goals.{no_sites, IsPassed}
use Rattle.sat_verdict.specs.Goals as judged
use Rattle.sat_verdict.specs.Found.{has_shown}
use Rattle.sat_verdict.proofs.Deciding.{or_l, or_of, and_of, shown-yes, yes-shown}
use Rattle.sat_verdict.proofs.Counted.{same_point}
use Rattle.sat_audit.specs.Judging.{replicas_of, sets_of, tales_of}
use Rattle.sat_laws.proofs.Labels.{some_is}
use Rattle.sat_laws.proofs.Runs.{entry}
use Rattle.sat_laws.proofs.Values.{values-new}
use Rattle.sat_told.specs.Telling.{named_in, history_of, AreNamedWell}
use Rattle.sat_told.specs.Laws.{TheLawsAreOne}
use Rattle.sat_told.proofs.Telling.{is_quiet, quiet-made, tale_in, tales, told-tales, Tells, tells, wrote, read_none, read_some, moved, turned, stamped, quiet}
use Rattle.sat_told.proofs.Pasts.{made-apart, knows-told, knows-back, knows-made, IsEnd, whole, later, cause-then, cause-late, made-in-whole, shown-named, shows-now, shows-now-back, shows-told, shows-back, shows-made, items-back, items-told}

-- ---- which sites keep an item

no-bit : (k : ℕ) → bit 0 k ≡ false
no-bit k = ap (λ (n : ℕ). n == 1) (bit_at-zero k)

kept-sites : (items : List Item) (x k : ℕ) → bit (get_or (map replicas_of items) x no_sites).bits k ≡ elim (slice_get items x) [ None ↦ false | Some item ↦ bit item.replicas.bits k ]
kept-sites [] x k = no-bit k
kept-sites (item ∷ items) zero k = refl
kept-sites (item ∷ items) (suc x) k = kept-sites items x k

same-sites : (d : Deployed) (x k : ℕ) → judged.replicates (sets_of d) x k ≡ replicates d x k
unfolding replicates
same-sites d x k = kept-sites d.items x k

end-part : (e : Entry) (h w : List Entry) → IsEnd (e ∷ h) w → IsEnd h w
end-part e h w whole = later whole
end-part e h (x ∷ w) (later i) = later (end-part e h w i)

kept-told : (d : Deployed) (w : List Entry) (k : ℕ) (a : Label) → AreNamedWell w → Made w a → IsKeptAt d k a → judged.IsKept (sets_of d) (tales w) k a.point
kept-told d w k a n m kept = (kept.0, items-told w a kept.0 n m kept.1, same-sites d kept.0 k ∙ kept.2)

kept-back : (d : Deployed) (w : List Entry) (k : ℕ) (a : Label) → AreNamedWell w → Made w a → judged.IsKept (sets_of d) (tales w) k a.point → IsKeptAt d k a
kept-back d w k a n m kept =
    let y : (l : Label) × Made w l × (l.point ≡ a.point) × (is_update_of l.kind kept.0 ≡ true) = items-back w a.point kept.0 n kept.1 in
    (kept.0, subst (λ (l : Label). is_update_of l.kind kept.0 ≡ true) (made-apart w y.0 a n y.1 m y.2) y.3, sym (same-sites d kept.0 k) ∙ kept.2)

-- ---- causes first

module _ (d : Deployed) (w : List Entry) (n : AreNamedWell w) where
  causes-told : (e : Entry) (h : List Entry) → IsEnd (e ∷ h) w → AreNamedWell (e ∷ h) → goals.ShowsCausesFirst d h e → judged.ShowsCausesFirst (sets_of d) (tales w) (tales h) (tale_in e)
  unfolding AreNamedWell
  causes-told e h i nh given = λ k p q shows lacks.
      let b : (l : Label) × (l.point ≡ p) × (shown_entry k h e ≡ Some l) = shows-now-back k h e.act e.answer e.inner (tale_in e) p (tells e.act e.answer nh.1.fits) shows in
      let made : Made (e ∷ h) b.0 = nh.1.made b.0 (shown-named k h e.act e.answer e.inner b.0 b.2) in
      let cause : told.Cause (tales w) b.0.point q = subst (λ (y : Point). told.Cause (tales w) y q) (sym b.1) lacks.cause in
      let a : (m : Label) × (m.point ≡ q) × runs.Knows w (runs.Maker b.0) m = knows-back w (runs.Maker b.0) q n (made-in-whole (e ∷ h) w b.0 i made) cause in
      let kept : IsKeptAt d k a.0 =
      kept-back d w k a.0 n (knows-made w (runs.Maker b.0) a.0 n a.2) (subst (λ (y : Point). judged.IsKept (sets_of d) (tales w) k y) (sym a.1) lacks.kept) in
      lacks.unshown (subst (λ (y : Point). judged.Shows (tales h) k y) a.1 (shows-told h k a.0 nh.0 (given k b.0 a.0 b.2 (cause-then (e ∷ h) w b.0 a.0 n i made a.2) kept)))

  causal-told : (h : List Entry) → IsEnd h w → AreNamedWell h → goals.Causal d h → judged.CausalTo (sets_of d) (tales w) (tales h)
  unfolding AreNamedWell goals.Causal judged.CausalTo
  causal-told [] i nh c = tt
  causal-told (e ∷ h) i nh c = (causal-told h (end-part e h w i) nh.0 c.0, causes-told e h i nh c.1)

  causes-back : (e : Entry) (h : List Entry) → IsEnd (e ∷ h) w → AreNamedWell (e ∷ h) → judged.ShowsCausesFirst (sets_of d) (tales w) (tales h) (tale_in e) → goals.ShowsCausesFirst d h e
  unfolding AreNamedWell Gives
  causes-back e h i nh given k b a shown cause kept = go (has_shown (tales h) k a.point) refl
    where
      made : Made (e ∷ h) a
      made = knows-made (e ∷ h) (runs.Maker b) a nh cause

      in_whole : Made w a
      in_whole = made-in-whole (e ∷ h) w a i made

      go : (t : Bool) → has_shown (tales h) k a.point ≡ t → goals.Shows h k a
      go true t =
          let y : (l : Label) × (l.point ≡ a.point) × goals.Shows h k l = shows-back h k a.point nh.0 (yes-shown (tales h) k a.point t) in
          subst (λ (l : Label). goals.Shows h k l) (made-apart (e ∷ h) y.0 a nh (inl (shows-made h k y.0 nh.0 y.2)) made y.1) y.2
      go false t =
          absurd (given k b.point a.point (shows-now k h e.act e.answer e.inner (tale_in e) b (tells e.act e.answer nh.1.fits) shown)
          (record {
            cause = knows-told w (runs.Maker b) a n (cause-late (e ∷ h) w b a i cause);
            kept = kept-told d w k a n in_whole kept;
            unshown = λ s. (let z : false ≡ true = sym t ∙ shown-yes (tales h) k a.point s in cc);
          }))

  causal-back : (h : List Entry) → IsEnd h w → AreNamedWell h → judged.CausalTo (sets_of d) (tales w) (tales h) → goals.Causal d h
  unfolding AreNamedWell goals.Causal judged.CausalTo
  causal-back [] i nh c = tt
  causal-back (e ∷ h) i nh c = (causal-back h (end-part e h w i) nh.0 c.0, causes-back e h i nh c.1)

-- ---- the values of a write

values-step : (h : List Entry) (a : Act) (r : Answer) (n : Bool) (l : Label) → ((m : Label) → made_in r ≡ Some m → label_eq m l ≡ false) → values_of (entry a r n ∷ h) l ≡ values_of h l
unfolding values_of
values-step h a (ans.Wrote m) n l new = go (write_in a) (label_eq m l) (new m refl)
  where
    go : (o : Option Written) (b : Bool) → b ≡ false → elim (values_if b o) [ None ↦ values_of h l | Some y ↦ y ] ≡ values_of h l
    go None b e = refl
    go (Some w) true e = absurd (cc)
    go (Some w) false e = refl
values-step h a _ n l new = refl

writes-now : (h : List Entry) (a : Act) (r : Answer) (n : Bool) (t : Tale) (l : Label) (x : ℕ) → Tells a r t → made_in r ≡ Some l → is_update_of l.kind x ≡ true → WritesNow (entry a r n) x (value_of (entry a r n ∷ h) l x) l
writes-now h a r n t l x (wrote {w = w} {l = m} z k) q u =
    subst (λ (y : Label). is_update_of y.kind x ≡ true → WritesNow (entry a (ans.Wrote m) n) x (value_of (entry a (ans.Wrote m) n ∷ h) y x) y) (some_is m l q)
    (λ v. (
      w,
      z,
      sym (ap (λ (y : Kind). is_update_of y x) k) ∙ v,
      ap (λ (vs : List (List ℕ)). value_for (list_of w.items) vs x) (sym (values-new h m n a w z)) ∙ ap (λ (y : Kind). value_for (items_of y) (values_of (entry a (ans.Wrote m) n ∷ h) m) x) (sym k),
      refl,
    )) u
writes-now h a r n t l x (moved {j = j} {l = m} k) q u =
    absurd (let z : is_update_of (kind.Move j) x ≡ true = sym (ap (λ (y : Kind). is_update_of y x) k) ∙ (ap (λ (y : Label). is_update_of y.kind x) (some_is m l q) ∙ u) in cc)
writes-now h a r n t l x read_some q u = absurd (cc)
writes-now h a r n t l x read_none q u = absurd (cc)
writes-now h a r n t l x turned q u = absurd (cc)
writes-now h a r n t l x stamped q u = absurd (cc)
writes-now h a r n t l x (quiet e) q u = absurd (let z : None ≡ Some l = sym (quiet-made r e) ∙ q in cc)

writes-are : (h : List Entry) (l : Label) (x : ℕ) → AreNamedWell h → Made h l → is_update_of l.kind x ≡ true → Writes h x (value_of h l x) l
unfolding AreNamedWell Gives Writes
writes-are [] l x n m u = absurd m
writes-are (e ∷ h) l x n (inl m) u =
    inl (subst (λ (v : List ℕ). Writes h x v l)
    (ap (λ (vs : List (List ℕ)). value_for (items_of l.kind) vs x)
    (sym (values-step h e.act e.answer e.inner l (λ y q. false_from_ne_true (label_eq y l) (λ s. n.1.own y l q m (ap (λ (z : Label). z.point) (same-label y l s)))))))
    (writes-are h l x n.0 m u))
writes-are (e ∷ h) l x n (inr m) u = inr (writes-now h e.act e.answer e.inner (tale_in e) l x (tells e.act e.answer n.1.fits) m u)

-- ---- once

module _ (d : Deployed) (w : List Entry) (n : AreNamedWell w) where
  new-told : (e : Entry) (h : List Entry) → IsEnd (e ∷ h) w → AreNamedWell (e ∷ h) → goals.ShowsNew d h e → judged.ShowsNew (sets_of d) (tales w) (tales h) (tale_in e)
  unfolding AreNamedWell Gives
  new-told e h i nh given k p shows =
      (λ s. again s, subst (λ (y : Point). judged.IsKept (sets_of d) (tales w) k y) b.1 (kept-told d w k b.0 n (made-in-whole (e ∷ h) w b.0 i made) (g.1.0, g.1.1.update, g.1.2)))
    where
      b : (l : Label) × (l.point ≡ p) × (shown_entry k h e ≡ Some l)
      b = shows-now-back k h e.act e.answer e.inner (tale_in e) p (tells e.act e.answer nh.1.fits) shows

      made : Made (e ∷ h) b.0
      made = nh.1.made b.0 (shown-named k h e.act e.answer e.inner b.0 b.2)

      g : (goals.Shows h k b.0 → ⊥) × goals.IsWriteKeptAt d (e ∷ h) k b.0
      g = given k b.0 b.2

      again : judged.Shows (tales h) k p → ⊥
      again s =
          let y : (l : Label) × (l.point ≡ p) × goals.Shows h k l = shows-back h k p nh.0 s in
          g.0 (subst (λ (l : Label). goals.Shows h k l) (made-apart (e ∷ h) y.0 b.0 nh (inl (shows-made h k y.0 nh.0 y.2)) made (y.1 ∙ sym b.1)) y.2)

  once-told : (h : List Entry) → IsEnd h w → AreNamedWell h → goals.Once d h → judged.OnceTo (sets_of d) (tales w) (tales h)
  unfolding AreNamedWell goals.Once judged.OnceTo
  once-told [] i nh o = tt
  once-told (e ∷ h) i nh o = (once-told h (end-part e h w i) nh.0 o.0, new-told e h i nh o.1)

  new-back : (e : Entry) (h : List Entry) → IsEnd (e ∷ h) w → AreNamedWell (e ∷ h) → judged.ShowsNew (sets_of d) (tales w) (tales h) (tale_in e) → goals.ShowsNew d h e
  unfolding AreNamedWell
  new-back e h i nh given k b shown =
      (λ s. g.0 (shows-told h k b nh.0 s), (kept.0, record { update = kept.1; written = writes-are (e ∷ h) b kept.0 nh made kept.1 }, kept.2))
    where
      made : Made (e ∷ h) b
      made = nh.1.made b (shown-named k h e.act e.answer e.inner b shown)

      g : (judged.Shows (tales h) k b.point → ⊥) × judged.IsKept (sets_of d) (tales w) k b.point
      g = given k b.point (shows-now k h e.act e.answer e.inner (tale_in e) b (tells e.act e.answer nh.1.fits) shown)

      kept : IsKeptAt d k b
      kept = kept-back d w k b n (made-in-whole (e ∷ h) w b i made) g.1

  once-back : (h : List Entry) → IsEnd h w → AreNamedWell h → judged.OnceTo (sets_of d) (tales w) (tales h) → goals.Once d h
  unfolding AreNamedWell goals.Once judged.OnceTo
  once-back [] i nh o = tt
  once-back (e ∷ h) i nh o = (once-back h (end-part e h w i) nh.0 o.0, new-back e h i nh o.1)

-- ---- fresh reads

same_read : (b y c x : ℕ) → act.Read b y ≡ act.Read c x → (b ≡ c) × (y ≡ x)
same_read b y c x e = (cc, cc)

quiet-fresh : (r : Answer) (c : ℕ) (h : List Entry) (x : ℕ) → is_quiet r ≡ true → IsFresh r c h x
quiet-fresh (ans.ReadSome l v) c h x e = let z : false ≡ true = e in absurd (cc)
quiet-fresh ans.ReadNone c h x e = let z : false ≡ true = e in absurd (cc)
quiet-fresh _ c h x e = tt

module _ (w : List Entry) (n : AreNamedWell w) where
  -- a client's past has a label of the item at the point that is told
  past-back : (h : List Entry) (c x : ℕ) (q : Point) → IsEnd h w → AreNamedWell h → told.Past (tales h) c q → judged.HasItem (tales w) q x → (a : Label) × (a.point ≡ q) × runs.Past h c a × (is_update_of a.kind x ≡ true)
  past-back h c x q i nh past item =
      let a : (m : Label) × (m.point ≡ q) × runs.Knows h (runs.Client c) m = knows-back h (runs.Client c) q nh tt past in
      let y : (l : Label) × Made w l × (l.point ≡ q) × (is_update_of l.kind x ≡ true) = items-back w q x n item in
      (a.0, a.1, a.2, subst (λ (l : Label). is_update_of l.kind x ≡ true) (made-apart w y.0 a.0 n y.1 (made-in-whole h w a.0 i (knows-made h (runs.Client c) a.0 nh a.2)) (y.2 ∙ sym a.1)) y.3)

  read-told : (h : List Entry) (a : Act) (r : Answer) (t : Tale) (q : Point) (c x : ℕ) → IsEnd h w → AreNamedWell h → Tells a r t →
      ((b y : ℕ) → a ≡ act.Read b y → IsFresh r b h y) → IsPassed t c x q → told.Past (tales h) c q → judged.HasItem (tales w) q x → ⊥
  read-told h a r t q c x i nh (read_some {c = b} {x = y} {l = l}) given passed past item =
      let m : (m : Label) × (m.point ≡ q) × runs.Past h c m × (is_update_of m.kind x ≡ true) = past-back h c x q i nh past item in
      let f : label_lt l m.0 ≡ false =
      given b y refl m.0 (subst (λ (k : ℕ). runs.Past h k m.0) (sym passed.0) m.2) (subst (λ (k : ℕ). is_update_of m.0.kind k ≡ true) (sym passed.1) m.3) in
      let g : label_lt l m.0 ≡ true = or_l (point_lt l.point m.0.point) _ (subst (λ (k : Point). point_lt l.point k ≡ true) (sym m.1) passed.2) in
      let z : false ≡ true = sym f ∙ g in cc
  read-told h a r t q c x i nh (read_none {c = b} {x = y}) given passed past item =
      let m : (m : Label) × (m.point ≡ q) × runs.Past h c m × (is_update_of m.kind x ≡ true) = past-back h c x q i nh past item in
      given b y refl m.0 (subst (λ (k : ℕ). runs.Past h k m.0) (sym passed.0) m.2) (subst (λ (k : ℕ). is_update_of m.0.kind k ≡ true) (sym passed.1) m.3)
  read-told h a r t q c x i nh (wrote z k) given passed past item = passed
  read-told h a r t q c x i nh (moved k) given passed past item = passed
  read-told h a r t q c x i nh turned given passed past item = passed
  read-told h a r t q c x i nh stamped given passed past item = passed
  read-told h a r t q c x i nh (quiet e) given passed past item = passed

  fresh-told : (h : List Entry) → IsEnd h w → AreNamedWell h → goals.Fresh h → judged.FreshTo (tales w) (tales h)
  unfolding AreNamedWell goals.Fresh judged.FreshTo
  fresh-told [] i nh f = tt
  fresh-told (e ∷ h) i nh f =
      (fresh-told h (end-part e h w i) nh.0 f.0, λ q m. read-told h e.act e.answer (tale_in e) q m.client m.item (end-part e h w i) nh.0 (tells e.act e.answer nh.1.fits) f.1 m.passed m.past m.update)

  read-back : (h : List Entry) (a : Act) (r : Answer) (k : Bool) (t : Tale) (c x : ℕ) → IsEnd h w → AreNamedWell h → ((l : Label) → named_in r ≡ Some l → Made w l) → Tells a r t →
      ((q : Point) → IsPassed t c x q → told.Past (tales h) c q → judged.HasItem (tales w) q x → ⊥) → a ≡ act.Read c x → IsFresh r c h x
  read-back h a r k t c x i nh made (read_some {c = b} {x = y} {l = l}) given is =
      let s : (b ≡ c) × (y ≡ x) = same_read b y c x is in
      λ m past u.
      let mw : Made w m = made-in-whole h w m i (knows-made h (runs.Client c) m nh past) in
      false_from_ne_true (label_lt l m) (λ lt.
      elim (or_of (point_lt l.point m.point) _ lt) [
        | inl p ↦ given m.point (s.0, s.1, p) (knows-told h (runs.Client c) m nh past) (items-told w m x n mw u)
        | inr p ↦
            (let e : l ≡ m = made-apart w l m n (made l refl) mw (same_point l.point m.point (and_of (point_eq l.point m.point) _ p).0) in
            let z : label_lt l l ≡ true = subst (λ (y : Label). label_lt l y ≡ true) (sym e) lt in
            let o : label_lt l l ≡ false = label_lt-self l in
            let v : false ≡ true = sym o ∙ z in
            cc)
      ])
  read-back h a r k t c x i nh made (read_none {c = b} {x = y}) given is =
      let s : (b ≡ c) × (y ≡ x) = same_read b y c x is in
      λ m past u. given m.point s (knows-told h (runs.Client c) m nh past) (items-told w m x n (made-in-whole h w m i (knows-made h (runs.Client c) m nh past)) u)
  read-back h a r k t c x i nh made (wrote z q) given is = tt
  read-back h a r k t c x i nh made (moved q) given is = tt
  read-back h a r k t c x i nh made turned given is = tt
  read-back h a r k t c x i nh made stamped given is = tt
  read-back h a r k t c x i nh made (quiet e) given is = quiet-fresh r c h x e

  fresh-back : (h : List Entry) → IsEnd h w → AreNamedWell h → judged.FreshTo (tales w) (tales h) → goals.Fresh h
  unfolding AreNamedWell goals.Fresh judged.FreshTo
  fresh-back [] i nh f = tt
  fresh-back (e ∷ h) i nh f = (
    fresh-back h (end-part e h w i) nh.0 f.0,
    λ c x is.
        read-back h e.act e.answer e.inner (tale_in e) c x (end-part e h w i) nh.0 (λ l q. made-in-whole (e ∷ h) w l i (nh.1.made l q)) (tells e.act e.answer nh.1.fits)
        (λ q passed past item. f.1 q (record { client = c; item = x; passed = passed; past = past; update = item })) is,
  )

-- ---- the laws

pub laws-are-one : TheLawsAreOne
laws-are-one d h n = (
  (λ c. to (λ ts. judged.Causal (sets_of d) ts) (causal-told d h n h whole n c), λ c. causal-back d h n h whole n (from (λ ts. judged.Causal (sets_of d) ts) c)),
  (λ c. to (λ ts. judged.Once (sets_of d) ts) (once-told d h n h whole n c), λ c. once-back d h n h whole n (from (λ ts. judged.Once (sets_of d) ts) c)),
  (λ c. to (λ ts. judged.Fresh ts) (fresh-told h n h whole n c), λ c. fresh-back h n h whole n (from (λ ts. judged.Fresh ts) c)),
)
  where
    to : (P : List Tale → Type 0) → P (tales h) → P (tales_of (history_of d h))
    to P p = subst P (sym (told-tales d h)) p

    from : (P : List Tale → Type 0) → P (tales_of (history_of d h)) → P (tales h)
    from P p = subst P (told-tales d h) p
