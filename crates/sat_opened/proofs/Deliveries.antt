-- What was delivered, as marks of kept lists.
use Rattle.std.proofs.Common.{◌≡◌, ◌<◌, ℕ, zero, suc, true, List, [], ◌∷◌, ◌++◌, length, map, Option, Some, None, slice_get, refl, sym, ap, ◌∙◌, subst, append_assoc, inl, inr}
use Rattle.sat_label.specs.Members.{In}
use Rattle.sat_label.specs.declared.label.Label.{Label}
use Rattle.sat_bulk.specs.Payloads.{Payload}
use Rattle.sat_beat.specs.declared.Beat.{Beat}
use Rattle.sat_act.specs.Parts.{BeatNote}
use Rattle.sat_proxy.specs.Proxy.{note_of}
use Rattle.sat_laws.proofs.Labels.{some_is}
use Rattle.sat_node.specs.declared.kept.Kept.{Kept as Line}
use Rattle.sat_node.specs.declared.kept.Body.{Body}
use Rattle.sat_node.specs.declared.kept.Body.TheVariants as body
use Rattle.sat_node.specs.declared.kept.Made.{Made}
use Rattle.sat_node.specs.declared.kept.Envelope.{Envelope}
use Rattle.sat_node.specs.Puts.{envelope, Putting, puttings, numbered as sealed_as, put_by}
use Rattle.sat_node.specs.Links.{takings, may_pass, Passes, Handed}
use Rattle.sat_node.specs.Laws.{IsFor}
use Rattle.sat_node.proofs.Laws.{taken_came, puts_are_numbered}
use Rattle.sat_stitch.specs.Kept.{Kept, numbered, marks}
use Rattle.sat_stitch.specs.Fit.{IsHanded, IsMade}
use Rattle.sat_opened.specs.Keeping.{newest}
use Rattle.sat_opened.specs.Delivered.{label_of, labels_in, IsOneOf, Delivered}
use Rattle.sat_opened.proofs.Walks.{Along, later, marks-newest}
use Rattle.sat_opened.proofs.Handings.{label_made, label_body, label_on, takings-are, sealed-are, sort_of, sorted, sorted-at, sorted-are, payload_sort, beat_sort, payloads-count, beats-count, IsPayload, payload-is, IsBeatOf, beat-is, taking-there}

-- ---- links that keep order deliver

one-ahead : (a b : ℕ) (o : Option Label) (took put : List (ℕ × Label)) → a < b → IsHanded took put → IsHanded (numbered b o ++ took) (numbered a o ++ put)
one-ahead a b None took put less h k n l at = h k n l at
one-ahead a b (Some x) took put less h zero n l at =
    let same : (b, x) ≡ (n, l) = some_is (b, x) (n, l) at in
    (a, ap (λ (p : ℕ × Label). Some (a, p.1)) same, subst (λ (p : ℕ × Label). a < p.0) same less)
one-ahead a b (Some x) took put less h (suc k) n l at = h k n l at

no-label : (b : Body) → may_pass b ≡ true → label_of b ≡ None
no-label (body.Label l) e = absurd (cc)
no-label (body.Payload g n p) e = refl
no-label (body.Beat n b) e = refl

over : (e : Envelope) (es : List Envelope) → may_pass e.body ≡ true → labels_in es ≡ labels_in (e ∷ es)
over e es p = ap (λ (o : Option Label). numbered e.lamport o ++ labels_in es) (sym (no-label e.body p))

passed-labels : (ts es : List Envelope) → Passes ts es → IsHanded (labels_in ts) (labels_in es)
passed-labels [] es h = λ k n l at. absurd (cc)
passed-labels (t ∷ ts) [] h = absurd h
passed-labels (t ∷ ts) (e ∷ es) (inl g) =
    subst (λ (b : Body). IsHanded (labels_in (t ∷ ts)) (numbered e.lamport (label_of b) ++ labels_in es)) g.0
    (one-ahead e.lamport t.lamport (label_of t.body) (labels_in ts) (labels_in es) g.1 (passed-labels ts es g.2))
passed-labels (t ∷ ts) (e ∷ es) (inr g) = subst (λ (ps : List (ℕ × Label)). IsHanded (labels_in (t ∷ ts)) ps) (over e es g.0) (passed-labels (t ∷ ts) es g.1)

pub labels-append : (es fs : List Envelope) → labels_in (es ++ fs) ≡ labels_in es ++ labels_in fs
labels-append [] fs = refl
labels-append (e ∷ es) fs = ap (λ (ps : List (ℕ × Label)). numbered e.lamport (label_of e.body) ++ ps) (labels-append es fs) ∙ sym (append_assoc (numbered e.lamport (label_of e.body)) (labels_in es) (labels_in fs))

pub get-more : {X : Type 0} (xs more : List X) (x : X) (k : ℕ) → slice_get xs k ≡ Some x → slice_get (xs ++ more) k ≡ Some x
get-more [] more x k e = absurd (cc)
get-more (y ∷ ys) more x zero e = e
get-more (y ∷ ys) more x (suc k) e = get-more ys more x k e

more-put : (took put more : List (ℕ × Label)) → IsHanded took put → IsHanded took (put ++ more)
more-put took put more h k n l at =
    let w : (m : ℕ) × (slice_get put k ≡ Some (m, l)) × (m < n) = h k n l at in
    (w.0, get-more put more (w.0, l) k w.1, w.2)

pub handed-delivered : (took put : List Envelope) → Handed took put → Delivered took put
handed-delivered took put h =
    let came = taken_came took put h in
    record {
      labels = subst (λ (ps : List (ℕ × Label)). IsHanded (labels_in took) ps) (sym (ap labels_in h.2 ∙ labels-append h.0 h.1)) (more-put (labels_in took) (labels_in h.0) (labels_in h.1) (passed-labels took h.0 h.3));
      others = λ k t at pass. let w : (e : Envelope) × (slice_get put (came.0 k) ≡ Some e) × IsFor e t = came.1 k t at in record { place = came.0 k; one = w.0; there = w.1; carries = w.2 };
    }

-- ---- labels

labels-on : (ps : List (ℕ × Label)) → labels_in (map label_on ps) ≡ ps
labels-on [] = refl
labels-on (p ∷ ps) = ap (λ (qs : List (ℕ × Label)). p ∷ qs) (labels-on ps)

pub delivered-on : {I A J B : Type 0} (put : I → A → Option Made) (take : J → B → Option Body) (of : Line I A → Kept) (on : Line J B → Kept) (f g : List Kept → Kept → Option Label) (es : List (Line I A)) (fs : List (Line J B)) →
    ((x : Line I A) → (of x).number ≡ x.lamport) → ((x : Line J B) → (on x).number ≡ x.lamport) →
    Along of (λ b x. put x.input x.answer ≡ label_made (f b (of x))) [] es → Along on (λ b x. take x.input x.answer ≡ label_body (g b (on x))) [] fs →
    Delivered (takings take fs) (put_by put es) → IsHanded (marks g (newest on fs)) (marks f (newest of es))
delivered-on put take of on f g es fs sent taken a b h =
    subst (λ (ps : List (ℕ × Label)). IsHanded ps (marks f (newest of es))) (sym (marks-newest on g fs))
    (subst (λ (ps : List (ℕ × Label)). IsHanded (later on g [] fs) ps) (sym (marks-newest of f es))
    (subst (λ (ps : List (ℕ × Label)). IsHanded (later on g [] fs) ps) (ap labels_in (sealed-are of f put [] [] es sent a) ∙ labels-on (later of f [] es))
    (subst (λ (ps : List (ℕ × Label)). IsHanded ps (labels_in (put_by put es))) (ap labels_in (takings-are on g take [] fs taken b) ∙ labels-on (later on g [] fs)) h.labels)))

-- ---- payloads and beats

-- what came to an entry was put, under a smaller number
pub record IsPut (ps : List Putting) (b : Body) (lamport : ℕ) : Type 0 where
  pub before : List Putting
  pub thing : Putting
  pub after : List Putting
  pub all : ps ≡ before ++ thing ∷ after
  pub same : sealed_as before thing.made ≡ b
  pub less : thing.number < lamport

pub came-put : {I A J B : Type 0} (put : I → A → Option Made) (take : J → B → Option Body) (es : List (Line I A)) (fs : List (Line J B)) (x : Line J B) (b : Body) → Delivered (takings take fs) (put_by put es) → In fs x → take x.input x.answer ≡ Some b → may_pass b ≡ true →
    IsPut (puttings put es) b x.lamport
came-put put take es fs x b h m e pass =
    let at : (n : ℕ) × (slice_get (takings take fs) n ≡ Some (envelope x.lamport b)) = taking-there take fs x b m e in
    let w : IsOneOf (put_by put es) (envelope x.lamport b) = h.others at.0 (envelope x.lamport b) at.1 pass in
    let v = puts_are_numbered (puttings put es) w.place w.one w.there in
    record {
      before = v.0;
      thing = v.1;
      after = v.2;
      all = v.3;
      same = ap (λ (t : Envelope). t.body) (sym v.5) ∙ sym w.carries.0;
      less = subst (λ (t : Envelope). t.lamport < x.lamport) v.5 w.carries.1;
    }

-- so it is the thing of its number among those of its sort
pub put-made : {Y : Type 0} (sort : Made → Option Y) (ps : List Putting) (b : Body) (lamport n : ℕ) (y : Y) → (p : IsPut ps b lamport) → sort p.thing.made ≡ Some y → length (sorted sort p.before) ≡ n → IsMade (sorted sort ps) n y lamport
put-made {Y} sort ps b lamport n y p is count = (
  p.thing.number,
  ap (λ (qs : List Putting). slice_get (sorted sort qs) n) p.all ∙
      (ap (λ (k : ℕ). slice_get (sorted sort (p.before ++ p.thing ∷ p.after)) k) (sym count) ∙ sorted-at sort p.before p.thing p.after y is),
  p.less,
)

module _ {I A J B : Type 0} (put : I → A → Option Made) (take : J → B → Option Body) (of : Line I A → Kept) (same : (x : Line I A) → (of x).number ≡ x.lamport) (es : List (Line I A)) (fs : List (Line J B)) (h : Delivered (takings take fs) (put_by put es)) where
  made-at : {Y : Type 0} (sort : Made → Option Y) (f : List Kept → Kept → Option Y) (x : Line J B) (b : Body) (n : ℕ) (y : Y) → Along of (λ b x. sort_of sort (put x.input x.answer) ≡ f b (of x)) [] es → (p : IsPut (puttings put es) b x.lamport) →
      sort p.thing.made ≡ Some y → length (sorted sort p.before) ≡ n → IsMade (marks f (newest of es)) n y x.lamport
  made-at {Y} sort f x b n y a p is count =
      subst (λ (zs : List (ℕ × Y)). IsMade zs n y x.lamport) (sorted-are sort of f put [] es same a ∙ sym (marks-newest of f es))
      (put-made sort (puttings put es) b x.lamport n y p is count)

  pub payload-made : (g n : ℕ) (p : Payload) (f : List Kept → Kept → Option Payload) (x : Line J B) → Along of (λ b x. sort_of (payload_sort g) (put x.input x.answer) ≡ f b (of x)) [] es → In fs x → take x.input x.answer ≡ Some (body.Payload g n p) →
      IsMade (marks f (newest of es)) n p x.lamport
  payload-made g n p f x a m e =
      let w : IsPut (puttings put es) (body.Payload g n p) x.lamport = came-put put take es fs x (body.Payload g n p) h m e refl in
      let v : IsPayload g n p w.before w.thing.made = payload-is w.before w.thing.made g n p w.same in
      made-at (payload_sort g) f x (body.Payload g n p) n p a w v.is (payloads-count g w.before ∙ v.number)

  pub beat-made : (n : ℕ) (b : Beat) (f : List Kept → Kept → Option BeatNote) (x : Line J B) → Along of (λ b x. sort_of beat_sort (put x.input x.answer) ≡ f b (of x)) [] es → In fs x → take x.input x.answer ≡ Some (body.Beat n b) →
      IsMade (marks f (newest of es)) n (note_of b) x.lamport
  beat-made n b f x a m e =
      let w : IsPut (puttings put es) (body.Beat n b) x.lamport = came-put put take es fs x (body.Beat n b) h m e refl in
      let v : IsBeatOf n b w.before w.thing.made = beat-is w.before w.thing.made n b w.same in
      made-at beat_sort f x (body.Beat n b) n (note_of b) a w v.is (beats-count w.before ∙ v.number)
