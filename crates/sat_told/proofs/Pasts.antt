-- What clients and makers know, and what sites showed, by labels and by points.
use Rattle.std.specs.Prelude.{◌≡◌, ◌⊎◌, ℕ, Bool, true, false, List, [], ◌∷◌, Some, None, refl, ◌==◌}
use Rattle.std.proofs.Common.{sym, inl, inr, ap, ◌∙◌}
use Rattle.std.proofs.lemmas.Bool.{eqb-true, eq-eqb}
use Rattle.sat_label.specs.declared.label.Kind.{Kind}
use Rattle.sat_label.specs.declared.label.Kind.TheVariants as kind
use Rattle.sat_label.specs.declared.label.Label.{Label}
use Rattle.sat_label.specs.declared.point.Point.{Point}
use Rattle.sat_label.specs.Grouped.{list_of}
use Rattle.sat_label.proofs.Truth.{some_if}
use Rattle.sat_act.specs.declared.act.Act.{Act}
use Rattle.sat_act.specs.declared.answer.Answer.{Answer}
use Rattle.sat_act.specs.declared.answer.Answer.TheVariants as ans
use Rattle.sat_act.specs.declared.entry.Entry.{Entry}
use Rattle.sat_act.specs.Done.{made_in, of_client}
use Rattle.sat_act.specs.Parts.{is_update_of, shown_entry}
use Rattle.sat_act.specs.Causes as runs
use Rattle.sat_act.specs.Goals.{Gives, Made}
use Rattle.sat_act.specs.Goals as goals
use Rattle.sat_verdict.specs.declared.tale.Tale.{Tale}
use Rattle.sat_verdict.specs.Entries as entries
use Rattle.sat_verdict.specs.Causes as told
use Rattle.sat_verdict.specs.Goals as judged
use Rattle.sat_verdict.proofs.Deciding.{among, among-is}
use Rattle.sat_laws.proofs.Labels.{some_is}
use Rattle.sat_laws.proofs.Runs.{entry}
use Rattle.sat_laws.proofs.Sendings.{picked_if}
use Rattle.sat_laws.proofs.Written.{write-client}
use Rattle.sat_told.specs.Telling.{named_in, AreNamedWell}
use Rattle.sat_told.proofs.Telling.{tale_in, tales, is_quiet, quiet-made, Tells, tells, wrote, read_none, read_some, moved, turned, stamped, quiet}

-- ---- labels by their points

-- an entry's own label: its point is new
pub made-apart : (h : List Entry) (l m : Label) → AreNamedWell h → Made h l → Made h m → l.point ≡ m.point → l ≡ m
unfolding AreNamedWell Gives
made-apart [] l m n a b e = absurd a
made-apart (x ∷ h) l m n (inl a) (inl b) e = made-apart h l m n.0 a b e
made-apart (x ∷ h) l m n (inr a) (inr b) e = some_is l m (sym a ∙ b)
made-apart (x ∷ h) l m n (inl a) (inr b) e = absurd (n.1.own m l b a (sym e))
made-apart (x ∷ h) l m n (inr a) (inl b) e = absurd (n.1.own l m a b e)

-- ---- one entry

abbrev pub who_of : runs.Who → told.Who
who_of (runs.Client c) = told.Client c
who_of (runs.Maker l) = told.Maker l.point

quiet-learned : (r : Answer) (l : Label) (knew : runs.Who → Type 0) → is_quiet r ≡ true → runs.LearnedBy r l knew → ⊥
quiet-learned (ans.Wrote m) l knew e k = let z : false ≡ true = e in cc
quiet-learned (ans.ReadSome m v) l knew e k = let z : false ≡ true = e in cc
quiet-learned _ l knew e k = k

client-learned : (a : Act) (r : Answer) (t : Tale) (c : ℕ) (l : Label) (knew : runs.Who → Type 0) (knew' : told.Who → Type 0) → ((w : runs.Who) → knew w → knew' (who_of w)) → Tells a r t →
    (of_client a ≡ Some c) × runs.LearnedBy r l knew → (entries.client_of t ≡ Some c) × told.LearnedBy t l.point knew'
client-learned a r t c l knew knew' step (wrote {w = w} p k) q = (sym (write-client a w p) ∙ q.0, ap (λ (m : Label). m.point) q.1)
client-learned a r t c l knew knew' step (read_some {l = m}) q =
    (q.0, elim q.1 [ inl e ↦ inl (ap (λ (m : Label). m.point) e) | inr k ↦ inr (step (runs.Maker m) k) ])
client-learned a r t c l knew knew' step read_none q = absurd q.1
client-learned a r t c l knew knew' step (moved k) q = absurd q.1
client-learned a r t c l knew knew' step turned q = absurd q.1
client-learned a r t c l knew knew' step stamped q = absurd q.1
client-learned a r t c l knew knew' step (quiet e) q = absurd (quiet-learned r l knew e q.1)

maker-learned : (a : Act) (r : Answer) (t : Tale) (b : Label) (knew : runs.Who → Type 0) (knew' : told.Who → Type 0) → ((w : runs.Who) → knew w → knew' (who_of w)) → Tells a r t →
    (made_in r ≡ Some b) × ((c : ℕ) × (of_client a ≡ Some c) × knew (runs.Client c)) →
    (entries.made_in t ≡ Some b.point) × ((c : ℕ) × (entries.client_of t ≡ Some c) × knew' (told.Client c))
maker-learned a r t b knew knew' step (wrote {w = w} {l = l} p k) q =
    (ap (λ (m : Label). Some m.point) (some_is l b q.0), (q.1.0, sym (write-client a w p) ∙ q.1.1, step (runs.Client q.1.0) q.1.2))
maker-learned a r t b knew knew' step (moved {l = l} k) q =
    (ap (λ (m : Label). Some m.point) (some_is l b q.0), (q.1.0, q.1.1, step (runs.Client q.1.0) q.1.2))
maker-learned a r t b knew knew' step read_some q = absurd (let z = q.0 in cc)
maker-learned a r t b knew knew' step read_none q = absurd (let z = q.0 in cc)
maker-learned a r t b knew knew' step turned q = absurd (let z = q.0 in cc)
maker-learned a r t b knew knew' step stamped q = absurd (let z = q.0 in cc)
maker-learned a r t b knew knew' step (quiet e) q = absurd (let z : None ≡ Some b = sym (quiet-made r e) ∙ q.0 in cc)

-- what is learned of a point is learned of a label that has it
client-back : (a : Act) (r : Answer) (t : Tale) (c : ℕ) (p : Point) (knew : runs.Who → Label → Type 0) (knew' : told.Who → Type 0) → Tells a r t →
    ((l : Label) → named_in r ≡ Some l → made_in r ≡ None → knew' (told.Maker l.point) → (m : Label) × (m.point ≡ p) × knew (runs.Maker l) m) →
    (entries.client_of t ≡ Some c) × told.LearnedBy t p knew' → (m : Label) × (m.point ≡ p) × (of_client a ≡ Some c) × runs.LearnedBy r m (λ w. knew w m)
client-back a r t c p knew knew' (wrote {w = w} {l = l} e k) step q = (l, q.1, write-client a w e ∙ q.0, refl)
client-back a r t c p knew knew' (read_some {l = l}) step q = go q.1
  where
    go : (l.point ≡ p) ⊎ knew' (told.Maker l.point) → (m : Label) × (m.point ≡ p) × (of_client a ≡ Some c) × ((l ≡ m) ⊎ knew (runs.Maker l) m)
    go (inl e) = (l, e, q.0, inl refl)
    go (inr k) = let w : (m : Label) × (m.point ≡ p) × knew (runs.Maker l) m = step l refl refl k in (w.0, w.1, q.0, inr w.2)
client-back a r t c p knew knew' read_none step q = absurd q.1
client-back a r t c p knew knew' (moved k) step q = absurd q.1
client-back a r t c p knew knew' turned step q = absurd q.1
client-back a r t c p knew knew' stamped step q = absurd q.1
client-back a r t c p knew knew' (quiet e) step q = absurd q.1

-- a point that is told as made is that of the label which was made
made-back : (a : Act) (r : Answer) (t : Tale) (p : Point) → Tells a r t → entries.made_in t ≡ Some p →
    (l : Label) × (made_in r ≡ Some l) × (l.point ≡ p) × (entries.client_of t ≡ of_client a)
made-back a r t p (wrote {w = w} {l = l} e k) m = (l, refl, some_is l.point p m, sym (write-client a w e))
made-back a r t p (moved {l = l} k) m = (l, refl, some_is l.point p m, refl)
made-back a r t p read_some m = absurd (cc)
made-back a r t p read_none m = absurd (cc)
made-back a r t p turned m = absurd (cc)
made-back a r t p stamped m = absurd (cc)
made-back a r t p (quiet e) m = absurd (cc)

-- ---- pasts and causes

pub knows-told : (h : List Entry) (who : runs.Who) (a : Label) → AreNamedWell h → runs.Knows h who a → told.Knows (tales h) (who_of who) a.point
unfolding AreNamedWell runs.Knows told.Knows
knows-told [] who a n k = absurd k
knows-told (e ∷ h) (runs.Client c) a n (inl k) = inl (knows-told h (runs.Client c) a n.0 k)
knows-told (e ∷ h) (runs.Maker b) a n (inl k) = inl (knows-told h (runs.Maker b) a n.0 k)
knows-told (e ∷ h) (runs.Client c) a n (inr k) =
    inr (client-learned e.act e.answer (tale_in e) c a (λ w. runs.Knows h w a) (λ w. told.Knows (tales h) w a.point) (λ w q. knows-told h w a n.0 q) (tells e.act e.answer n.1.fits) k)
knows-told (e ∷ h) (runs.Maker b) a n (inr k) =
    inr (maker-learned e.act e.answer (tale_in e) b (λ w. runs.Knows h w a) (λ w. told.Knows (tales h) w a.point) (λ w q. knows-told h w a n.0 q) (tells e.act e.answer n.1.fits) k)

-- whose knowledge is told was made
knower-made : (h : List Entry) (q p : Point) → AreNamedWell h → told.Knows (tales h) (told.Maker q) p → (m : Label) × Made h m × (m.point ≡ q)
unfolding AreNamedWell told.Knows Gives
knower-made [] q p n k = absurd k
knower-made (e ∷ h) q p n (inl k) = let w : (m : Label) × Made h m × (m.point ≡ q) = knower-made h q p n.0 k in (w.0, inl w.1, w.2)
knower-made (e ∷ h) q p n (inr k) =
    let w : (l : Label) × (made_in e.answer ≡ Some l) × (l.point ≡ q) × (entries.client_of (tale_in e) ≡ of_client e.act) = made-back e.act e.answer (tale_in e) q (tells e.act e.answer n.1.fits) k.0 in
    (w.0, inr w.1, w.2)

abbrev pub IsThere : List Entry → runs.Who → Type 0
IsThere h (runs.Client c) = Unit {0}
IsThere h (runs.Maker b) = Made h b

-- a named label that is not made now was made before
named-before : (h : List Entry) (e : Entry) (l : Label) → ((m : Label) → named_in e.answer ≡ Some m → Made (e ∷ h) m) → named_in e.answer ≡ Some l → made_in e.answer ≡ None → Made h l
unfolding Gives
named-before h e l made n none = go (made l n)
  where
    go : Made h l ⊎ (made_in e.answer ≡ Some l) → Made h l
    go (inl m) = m
    go (inr m) = absurd (let z : None ≡ Some l = sym none ∙ m in cc)

-- what is known of a point is known of a label that has it
pub knows-back : (h : List Entry) (who : runs.Who) (p : Point) → AreNamedWell h → IsThere h who → told.Knows (tales h) (who_of who) p → (a : Label) × (a.point ≡ p) × runs.Knows h who a
unfolding AreNamedWell runs.Knows told.Knows Gives
knows-back [] who p n there k = absurd k
knows-back (e ∷ h) (runs.Client c) p n there (inl k) =
    let w : (a : Label) × (a.point ≡ p) × runs.Knows h (runs.Client c) a = knows-back h (runs.Client c) p n.0 tt k in (w.0, w.1, inl w.2)
knows-back (e ∷ h) (runs.Client c) p n there (inr k) =
    let w : (m : Label) × (m.point ≡ p) × (of_client e.act ≡ Some c) × runs.LearnedBy e.answer m (λ w. runs.Knows h w m) =
    client-back e.act e.answer (tale_in e) c p (λ w m. runs.Knows h w m) (λ w. told.Knows (tales h) w p) (tells e.act e.answer n.1.fits)
    (λ l q none y. knows-back h (runs.Maker l) p n.0 (named-before h e l n.1.made q none) y) k in
    (w.0, w.1, inr (w.2, w.3))
knows-back (e ∷ h) (runs.Maker b) p n (inl m) (inl k) =
    let w : (a : Label) × (a.point ≡ p) × runs.Knows h (runs.Maker b) a = knows-back h (runs.Maker b) p n.0 m k in (w.0, w.1, inl w.2)
knows-back (e ∷ h) (runs.Maker b) p n (inr m) (inl k) =
    let w : (l : Label) × Made h l × (l.point ≡ b.point) = knower-made h b.point p n.0 k in absurd (n.1.own b w.0 m w.1 (sym w.2))
knows-back (e ∷ h) (runs.Maker b) p n (inl m) (inr k) =
    let w : (l : Label) × (made_in e.answer ≡ Some l) × (l.point ≡ b.point) × (entries.client_of (tale_in e) ≡ of_client e.act) = made-back e.act e.answer (tale_in e) b.point (tells e.act e.answer n.1.fits) k.0 in
    absurd (n.1.own w.0 b w.1 m w.2)
knows-back (e ∷ h) (runs.Maker b) p n (inr m) (inr k) =
    let w : (l : Label) × (made_in e.answer ≡ Some l) × (l.point ≡ b.point) × (entries.client_of (tale_in e) ≡ of_client e.act) = made-back e.act e.answer (tale_in e) b.point (tells e.act e.answer n.1.fits) k.0 in
    let y : (a : Label) × (a.point ≡ p) × runs.Knows h (runs.Client k.1.0) a = knows-back h (runs.Client k.1.0) p n.0 tt k.1.2 in
    (y.0, y.1, inr (m, (k.1.0, sym w.3 ∙ k.1.1, y.2)))

-- what a client learns by an answer was made, if what the makers knew was
learned-made : (e : Entry) (h : List Entry) (a : Label) → ((m : Label) → named_in e.answer ≡ Some m → Made (e ∷ h) m) → ((l : Label) → runs.Knows h (runs.Maker l) a → Made h a) →
    (r : Answer) → e.answer ≡ r → runs.LearnedBy r a (λ w. runs.Knows h w a) → Made (e ∷ h) a
unfolding Gives
learned-made e h a made before (ans.Wrote l) is q = inr (ap made_in is ∙ ap (λ (m : Label). Some m) q)
learned-made e h a made before (ans.ReadSome l v) is (inl q) = made a (ap named_in is ∙ ap (λ (m : Label). Some m) q)
learned-made e h a made before (ans.ReadSome l v) is (inr q) = inl (before l q)
learned-made e h a made before _ is q = absurd q

-- what is known was made
pub knows-made : (h : List Entry) (who : runs.Who) (a : Label) → AreNamedWell h → runs.Knows h who a → Made h a
unfolding AreNamedWell runs.Knows Gives
knows-made [] who a n k = absurd k
knows-made (e ∷ h) (runs.Client c) a n (inl k) = inl (knows-made h (runs.Client c) a n.0 k)
knows-made (e ∷ h) (runs.Maker b) a n (inl k) = inl (knows-made h (runs.Maker b) a n.0 k)
knows-made (e ∷ h) (runs.Maker b) a n (inr k) = inl (knows-made h (runs.Client k.1.0) a n.0 k.1.2)
knows-made (e ∷ h) (runs.Client c) a n (inr k) = learned-made e h a n.1.made (λ l q. knows-made h (runs.Maker l) a n.0 q) e.answer refl k.1

-- a list is an end of another
pub data IsEnd (h : List Entry) : List Entry → Type 0 where
  whole : IsEnd h h
  later : {x : Entry} {w : List Entry} → IsEnd h w → IsEnd h (x ∷ w)

pub made-in-whole : (h w : List Entry) (b : Label) → IsEnd h w → Made h b → Made w b
unfolding Gives
made-in-whole h w b whole m = m
made-in-whole h (y ∷ w) b (later i) m = inl (made-in-whole h w b i m)

-- what the maker of a label knew is told by the entries up to that one
pub cause-then : (h w : List Entry) (b a : Label) → AreNamedWell w → IsEnd h w → Made h b → runs.Cause w b a → runs.Cause h b a
unfolding AreNamedWell runs.Knows Gives
cause-then h w b a n whole m k = k
cause-then h (x ∷ w) b a n (later i) m (inl k) = cause-then h w b a n.0 i m k
cause-then h (x ∷ w) b a n (later i) m (inr k) = absurd (n.1.own b b k.0 (made-in-whole h w b i m) refl)

pub cause-late : (h w : List Entry) (b a : Label) → IsEnd h w → runs.Cause h b a → runs.Cause w b a
unfolding runs.Knows
cause-late h w b a whole k = k
cause-late h (x ∷ w) b a (later i) k = inl (cause-late h w b a i k)

-- ---- what is shown

pub shown-named : (k : ℕ) (h : List Entry) (a : Act) (r : Answer) (n : Bool) (l : Label) → shown_entry k h (entry a r n) ≡ Some l → named_in r ≡ Some l
shown-named k h a (ans.Wrote m) n l e = ap (λ (x : Label). Some x) (picked_if (m.point.site == k) m l e).1
shown-named k h a (ans.Shown m) n l e = ap (λ (x : Label). Some x) (picked_if _ m l e).1
shown-named k h a _ n l e = absurd (cc)

quiet-shown : (k : ℕ) (h : List Entry) (a : Act) (r : Answer) (n : Bool) → is_quiet r ≡ true → shown_entry k h (entry a r n) ≡ None
quiet-shown k h a (ans.Wrote m) n e = let z : false ≡ true = e in absurd (cc)
quiet-shown k h a (ans.Shown m) n e = let z : false ≡ true = e in absurd (cc)
quiet-shown k h a _ n e = refl

pub shows-now : (k : ℕ) (h : List Entry) (a : Act) (r : Answer) (n : Bool) (t : Tale) (l : Label) → Tells a r t → shown_entry k h (entry a r n) ≡ Some l → judged.ShowsNow t k l.point
shows-now k h a r n t l (wrote {l = m} p q) e =
    let w : ((m.point.site == k) ≡ true) × (m ≡ l) = picked_if (m.point.site == k) m l e in (eqb-true m.point.site k w.0, ap (λ (x : Label). x.point) w.1)
shows-now k h a r n t l (turned {j = j} {l = m}) e =
    let w : ((j == k) ≡ true) × (m ≡ l) = picked_if (j == k) m l e in (eqb-true j k w.0, ap (λ (x : Label). x.point) w.1)
shows-now k h a r n t l (stamped {j = j} {l = m}) e =
    let w : ((j == k) ≡ true) × (m ≡ l) = picked_if (j == k) m l e in (eqb-true j k w.0, ap (λ (x : Label). x.point) w.1)
shows-now k h a r n t l read_some e = absurd (cc)
shows-now k h a r n t l read_none e = absurd (cc)
shows-now k h a r n t l (moved q) e = absurd (cc)
shows-now k h a r n t l (quiet q) e = absurd (let z : None ≡ Some l = sym (quiet-shown k h a r n q) ∙ e in cc)

pub shows-now-back : (k : ℕ) (h : List Entry) (a : Act) (r : Answer) (n : Bool) (t : Tale) (p : Point) → Tells a r t → judged.ShowsNow t k p →
    (l : Label) × (l.point ≡ p) × (shown_entry k h (entry a r n) ≡ Some l)
shows-now-back k h a r n t p (wrote {l = m} e q) s = (m, s.1, some_if (m.point.site == k) m (eq-eqb m.point.site k s.0))
shows-now-back k h a r n t p (turned {j = j} {l = m}) s = (m, s.1, some_if (j == k) m (eq-eqb j k s.0))
shows-now-back k h a r n t p (stamped {j = j} {l = m}) s = (m, s.1, some_if (j == k) m (eq-eqb j k s.0))
shows-now-back k h a r n t p read_some s = absurd s
shows-now-back k h a r n t p read_none s = absurd s
shows-now-back k h a r n t p (moved q) s = absurd s
shows-now-back k h a r n t p (quiet q) s = absurd s

pub shows-told : (h : List Entry) (k : ℕ) (l : Label) → AreNamedWell h → goals.Shows h k l → judged.Shows (tales h) k l.point
unfolding AreNamedWell Gives judged.Shows
shows-told [] k l n s = absurd s
shows-told (e ∷ h) k l n (inl s) = inl (shows-told h k l n.0 s)
shows-told (e ∷ h) k l n (inr s) = inr (shows-now k h e.act e.answer e.inner (tale_in e) l (tells e.act e.answer n.1.fits) s)

pub shows-back : (h : List Entry) (k : ℕ) (p : Point) → AreNamedWell h → judged.Shows (tales h) k p → (l : Label) × (l.point ≡ p) × goals.Shows h k l
unfolding AreNamedWell Gives judged.Shows
shows-back [] k p n s = absurd s
shows-back (e ∷ h) k p n (inl s) = let w : (l : Label) × (l.point ≡ p) × goals.Shows h k l = shows-back h k p n.0 s in (w.0, w.1, inl w.2)
shows-back (e ∷ h) k p n (inr s) =
    let w : (l : Label) × (l.point ≡ p) × (shown_entry k h e ≡ Some l) = shows-now-back k h e.act e.answer e.inner (tale_in e) p (tells e.act e.answer n.1.fits) s in (w.0, w.1, inr w.2)

-- what was shown was made
pub shows-made : (h : List Entry) (k : ℕ) (l : Label) → AreNamedWell h → goals.Shows h k l → Made h l
unfolding AreNamedWell Gives
shows-made [] k l n s = absurd s
shows-made (e ∷ h) k l n (inl s) = inl (shows-made h k l n.0 s)
shows-made (e ∷ h) k l n (inr s) = n.1.made l (shown-named k h e.act e.answer e.inner l s)

-- ---- items of updates

item-back : (a : Act) (r : Answer) (t : Tale) (p : Point) (x : ℕ) → Tells a r t → judged.WritesNow t p x → (l : Label) × (made_in r ≡ Some l) × (l.point ≡ p) × (is_update_of l.kind x ≡ true)
item-back a r t p x (wrote {w = w} {l = l} e k) q = (l, refl, q.0, ap (λ (y : Kind). is_update_of y x) k ∙ among x (list_of w.items) q.1)
item-back a r t p x read_some q = absurd q
item-back a r t p x read_none q = absurd q
item-back a r t p x (moved k) q = absurd q
item-back a r t p x turned q = absurd q
item-back a r t p x stamped q = absurd q
item-back a r t p x (quiet e) q = absurd q

item-now : (a : Act) (r : Answer) (t : Tale) (l : Label) (x : ℕ) → Tells a r t → made_in r ≡ Some l → is_update_of l.kind x ≡ true → judged.WritesNow t l.point x
item-now a r t l x (wrote {w = w} {l = m} e k) q u =
    let s : m ≡ l = some_is m l q in
    (ap (λ (y : Label). y.point) s, among-is x (list_of w.items) (sym (ap (λ (y : Kind). is_update_of y x) k) ∙ (ap (λ (y : Label). is_update_of y.kind x) s ∙ u)))
item-now a r t l x (moved {j = j} {l = m} k) q u =
    absurd (let z : is_update_of (kind.Move j) x ≡ true = sym (ap (λ (y : Kind). is_update_of y x) k) ∙ (ap (λ (y : Label). is_update_of y.kind x) (some_is m l q) ∙ u) in cc)
item-now a r t l x read_some q u = absurd (cc)
item-now a r t l x read_none q u = absurd (cc)
item-now a r t l x turned q u = absurd (cc)
item-now a r t l x stamped q u = absurd (cc)
item-now a r t l x (quiet e) q u = absurd (let z : None ≡ Some l = sym (quiet-made r e) ∙ q in cc)

pub items-back : (h : List Entry) (p : Point) (x : ℕ) → AreNamedWell h → judged.HasItem (tales h) p x → (l : Label) × Made h l × (l.point ≡ p) × (is_update_of l.kind x ≡ true)
unfolding AreNamedWell Gives judged.HasItem
items-back [] p x n q = absurd q
items-back (e ∷ h) p x n (inl q) =
    let w : (l : Label) × Made h l × (l.point ≡ p) × (is_update_of l.kind x ≡ true) = items-back h p x n.0 q in (w.0, inl w.1, w.2, w.3)
items-back (e ∷ h) p x n (inr q) =
    let w : (l : Label) × (made_in e.answer ≡ Some l) × (l.point ≡ p) × (is_update_of l.kind x ≡ true) = item-back e.act e.answer (tale_in e) p x (tells e.act e.answer n.1.fits) q in
    (w.0, inr w.1, w.2, w.3)

pub items-told : (h : List Entry) (l : Label) (x : ℕ) → AreNamedWell h → Made h l → is_update_of l.kind x ≡ true → judged.HasItem (tales h) l.point x
unfolding AreNamedWell Gives judged.HasItem
items-told [] l x n m u = absurd m
items-told (e ∷ h) l x n (inl m) u = inl (items-told h l x n.0 m u)
items-told (e ∷ h) l x n (inr m) u = inr (item-now e.act e.answer (tale_in e) l x (tells e.act e.answer n.1.fits) m u)
