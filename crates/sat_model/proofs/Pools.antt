-- What waits at a site, with its values.
use Rattle.std.specs.Prelude.{◌≡◌, ℕ, Bool, true, false, not, List, [], ◌∷◌, ◌++◌, map, filter, Option, Some, None, slice_get, ◌==◌, if◌then◌else◌, cond, refl}
use Rattle.std.proofs.Common.{sym, subst, ap, ◌∙◌, inl, inr}
use Rattle.sat_label.specs.declared.label.Label.{Label}
use Rattle.sat_label.specs.Order.{label_eq}
use Rattle.sat_label.specs.Words.{has}
use Rattle.sat_act.specs.declared.act.Act.{Act}
use Rattle.sat_act.specs.declared.answer.Answer.{Answer}
use Rattle.sat_act.specs.declared.answer.Answer.TheVariants as ans
use Rattle.sat_act.specs.declared.entry.Entry.{Entry}
use Rattle.sat_act.specs.Deployed.{Deployed}
use Rattle.sat_act.specs.Done.{made_in}
use Rattle.sat_act.specs.Histories.{listed}
use Rattle.sat_act.specs.Parts.{lane, brought, brought_entry, shown, shown_entry, waiting}
use Rattle.sat_act.specs.Runs.{IsRun}
use Rattle.sat_act.specs.Goals.{Gives, Made, Shows, IsValid}
use Rattle.sat_laws.proofs.Steps.{Step, write_label, wrote, brought_now, showed_turn, showed_stamp}
use Rattle.sat_laws.proofs.Runs.{step_of, before_of, entry}
use Rattle.sat_laws.proofs.Members.{listed-gives, gives-listed}
use Rattle.sat_laws.proofs.Shows.{IsFor, in-lane, Brings, for-kept, Showing, showing, by_write, by_turn, by_stamp, waits}
use Rattle.sat_laws.proofs.Links.{tail_of}
use Rattle.sat_bulk.specs.Payloads.{Payload}
use Rattle.sat_model.specs.State.{SiteState}
use Rattle.sat_model.specs.Input.{SiteInput}
use Rattle.sat_model.specs.Input as given
use Rattle.sat_model.specs.Look.{payload_in, waiting_of, label_of}
use Rattle.sat_model.specs.Next.{site_next}
use Rattle.sat_model.specs.Replay.{after, handed, site_state, turn_front}
use Rattle.sat_model.proofs.Kept.{kept}
use Rattle.sat_model.proofs.Lists.{plain, map-join, filter-join, filter-all, without, without-more}
use Rattle.sat_model.proofs.Lanes.{payloads-stay}
use Rattle.sat_model.proofs.Windows.{Bringing, bringing, brings, brings_none, brought-made, new-unbrought}
use Rattle.sat_label.specs.Members.{In}
use Rattle.sat_label.proofs.Members.{In-get, In-filter, has-in, in-has}
use Rattle.sat_label.proofs.Orders.{same-label, label_eq-self}
use Rattle.std.proofs.lemmas.Bool.{false_from_ne_true}
use Rattle.sat_model.specs.Parts.{valued}

cond-map : {X Y : Type 0} (f : X → Y) (b : Bool) (x : X) (xs : List X) → cond b (f x ∷ map f xs) (map f xs) ≡ map f (cond b (x ∷ xs) xs)
cond-map f true x xs = refl
cond-map f false x xs = refl

map-filter : {X Y : Type 0} (f : X → Y) (p : Y → Bool) (xs : List X) → filter p (map f xs) ≡ map f (filter (λ x. p (f x)) xs)
map-filter f p [] = refl
map-filter f p (x ∷ xs) = ap (λ ys. cond (p (f x)) (f x ∷ ys) ys) (map-filter f p xs) ∙ cond-map f (p (f x)) x (filter (λ x. p (f x)) xs)

-- what was shown at j and is not j's own had been brought
shown-brought : (d : Deployed) (h : List Entry) (j : ℕ) (l : Label) → IsRun d h → Shows h j l → (l.point.site ≡ j → ⊥) → Brings h j l
unfolding Gives
shown-brought d [] j l run s k = absurd s
shown-brought d (x ∷ h) j l run (inl s) k = inl (shown-brought d h j l (before_of d h x run) s k)
shown-brought d (x ∷ h) j l run (inr s) k = inl (go (showing d h j l x.act x.answer x.inner (step_of d h x run) s))
  where
    go : Showing d h j l x.act x.answer → Brings h j l
    go (by_write y m r s u p) = absurd (k s)
    go (by_turn a r w) = (waits h j l w).0
    go (by_stamp a r s w) = (waits h j l w).0

abbrev Pool : List Entry → List Label → List Payload → Type 0
Pool h ls ps = ps ≡ map (valued h) ls

waiting-is : (h : List Entry) (j : ℕ) → waiting h j ≡ without (shown h j) (brought h j)
unfolding waiting
waiting-is h j = refl

-- a label that is not in a list leaves it as it is
not-there : (S B : List Label) (o : Option Label) → ((l : Label) → o ≡ Some l → has label_eq B l ≡ false) → without (S ++ tail_of o) B ≡ without S B
not-there S B None k = ap (λ (ls : List Label). without ls B) (plain S)
not-there S B (Some l) k = without-more S l B ∙ filter-all (λ m. not (label_eq l m)) (without S B) (λ m i. ap not (false_from_ne_true (label_eq l m) (λ e. let w : has label_eq B m ≡ true = in-has B m (In-filter (λ y. not (has label_eq S y)) B m i).0 in let z : l ≡ m = same-label l m e in let y : has label_eq B m ≡ false = subst (λ (q : Label). has label_eq B q ≡ false) z (k l refl) in cc)))

filter-pool : (l : Label) (S B : List Label) (h : List Entry) (ps : List Payload) (b : Bool) → Pool h (without S B) ps → (if b then filter (λ p. not (label_eq l p.label)) ps else ps) ≡ map (valued h) (without (S ++ tail_of (if b then Some l else None)) B)
filter-pool l S B h ps true k = ap (filter (λ p. not (label_eq l p.label))) k ∙ (map-filter (valued h) (λ p. not (label_eq l p.label)) (without S B) ∙ ap (map (valued h)) (sym (without-more S l B)))
filter-pool l S B h ps false k = k ∙ ap (λ (ls : List Label). map (valued h) (without ls B)) (sym (plain S))

pick : {X : Type 0} (G : Option SiteInput → X) (input : SiteInput) (b : Bool) → G (if b then Some input else None) ≡ (if b then G (Some input) else G None)
pick G input true = refl
pick G input false = refl

-- an entry that brings nothing
pool-step : (d : Deployed) (h : List Entry) (j : ℕ) (s : SiteState) (a : Act) (r : Answer) (n : Bool) → Pool h (without (shown h j) (brought h j)) s.proxy.pool → Step d h a r → ((l : Label) → made_in r ≡ Some l → has label_eq (brought h j) l ≡ false) →
    ((l : Label) → r ≡ ans.Brought l → handed d h a j ≡ None) →
    Pool h (without (shown (entry a r n ∷ h) j) (brought h j)) (after d j s (handed d h a j) r).proxy.pool
unfolding after handed site_next shown
pool-step d h j s a r n k (wrote {w = w} {i = t} z p q b) new u =
    let l : Label = write_label d h w t in
    kept (λ s. s.proxy.pool) d j s (handed d h a j) r (λ input. refl) ∙ (k ∙ ap (map (valued h)) (sym (not-there (listed (shown_entry j) h) (brought h j) (if t == j then Some l else None) (λ m e. new m (go (t == j) e)))))
  where
    go : (b : Bool) {l m : Label} → (if b then Some l else None) ≡ Some m → Some l ≡ Some m
    go true e = e
    go false e = absurd (cc)
pool-step d h j s a r n k (showed_turn {j = t} {l = l} p q w y z e) new u =
    pick (λ o. (after d j s o r).proxy.pool) (given.Turn (turn_front d h t)) (t == j) ∙ filter-pool l (listed (shown_entry j) h) (brought h j) h s.proxy.pool (t == j) k
pool-step d h j s a r n k (showed_stamp {j = t} {l = l} p q) new u =
    pick (λ o. (after d j s o r).proxy.pool) given.Stamp (t == j) ∙ filter-pool l (listed (shown_entry j) h) (brought h j) h s.proxy.pool (t == j) k
pool-step d h j s a r n k (brought_now {l = l} m p q) new u =
    ap (λ (o : Option SiteInput). (after d j s o (ans.Brought l)).proxy.pool) (u l refl) ∙ (k ∙ ap (λ (ls : List Label). map (valued h) (without ls (brought h j))) (sym (plain (listed (shown_entry j) h))))
pool-step d h j s a r n k _ new u =
    kept (λ s. s.proxy.pool) d j s (handed d h a j) r (λ input. refl) ∙ (k ∙ ap (λ (ls : List Label). map (valued h) (without ls (brought h j))) (sym (plain (listed (shown_entry j) h))))

pool-now : (d : Deployed) (j a b m : ℕ) (s : SiteState) (p : Payload) (l : Label) → (after d j s (Some (given.Bulk a b m p)) (ans.Brought l)).proxy.pool ≡ s.proxy.pool ++ p ∷ []
unfolding after site_next
pool-now d j a b m s p l = refl

shown-by-bringing : (h : List Entry) (a : Act) (r : Answer) (n : Bool) (j : ℕ) (l : Label) → r ≡ ans.Brought l → shown (entry a r n ∷ h) j ≡ shown h j
unfolding shown
shown-by-bringing h a (ans.Brought m) n j l e = plain (listed (shown_entry j) h)
shown-by-bringing h a _ n j l e = absurd (cc)

without-end : (S B : List Label) (l : Label) → has label_eq S l ≡ false → without S (B ++ l ∷ []) ≡ without S B ++ l ∷ []
without-end S B l e = filter-join (λ m. not (has label_eq S m)) B (l ∷ []) ∙ ap (λ (b : Bool). without S B ++ cond (not b) (l ∷ []) []) e

unshown : (d : Deployed) (h : List Entry) (i g j n : ℕ) (l : Label) → IsRun d h → slice_get (lane d h i g j) n ≡ Some l → has label_eq (brought h j) l ≡ false → has label_eq (shown h j) l ≡ false
unfolding shown brought
unshown d h i g j n l run p q = false_from_ne_true (has label_eq (shown h j) l) (λ e.
    let f : IsFor d h j l = in-lane d h i g j l (In-get (lane d h i g j) n l p) in
    let b : Brings h j l = shown-brought d h j l run (listed-gives (shown_entry j) h l (has-in (listed (shown_entry j) h) l e)) (for-kept d h j l f).1 in
    let w : has label_eq (listed (brought_entry j) h) l ≡ true = in-has (listed (brought_entry j) h) l (gives-listed (brought_entry j) h l b) in
    cc)

before-made : (d : Deployed) (h : List Entry) (x : Entry) (j : ℕ) (l : Label) → IsRun d (x ∷ h) → In (waiting (x ∷ h) j) l → Bringing d h x j → Made h l
unfolding waiting
before-made d h x j l run m (brings a b n k e f p q t) =
    let w : In (brought (x ∷ h) j) l = (In-filter (λ l. not (has label_eq (shown (x ∷ h) j) l)) (brought (x ∷ h) j) l m).0 in
    elim (Rattle.sat_label.proofs.Members.In-parts (brought h j) (k ∷ []) l (subst (λ (ls : List Label). In ls l) t w)) [
      | inl y ↦ brought-made d h j l (before_of d h x run) y
      | inr y ↦ elim y [
        | inl z ↦ subst (Made h) z (in-lane d h a b j k (In-get (lane d h a b j) n k p)).made
        | inr z ↦ absurd z
      ]
    ]
before-made d h x j l run m (brings_none k t) =
    brought-made d h j l (before_of d h x run) (subst (λ (ls : List Label). In ls l) t (In-filter (λ l. not (has label_eq (shown (x ∷ h) j) l)) (brought (x ∷ h) j) l m).0)

pub pool-agrees : (d : Deployed) (h : List Entry) (j : ℕ) → IsValid d → IsRun d h → (site_state d h j).proxy.pool ≡ map (valued h) (waiting h j)
unfolding site_state
pool-agrees d [] j v run = unfold waiting brought in refl
pool-agrees d (x ∷ h) j v run =
    let s : SiteState = site_state d h j in
    let old : IsRun d h = before_of d h x run in
    let k : Pool h (without (shown h j) (brought h j)) s.proxy.pool = pool-agrees d h j v old ∙ ap (map (valued h)) (waiting-is h j) in
    now s old k (bringing d h x j run) ∙ payloads-stay d h x (waiting (x ∷ h) j) v run (λ l m. before-made d h x j l run m (bringing d h x j run))
  where
    now : (s : SiteState) → IsRun d h → Pool h (without (shown h j) (brought h j)) s.proxy.pool → Bringing d h x j → Pool h (waiting (x ∷ h) j) (after d j s (handed d h x.act j) x.answer).proxy.pool
    now s old k (brings a b m l e f p q t) =
        ap (λ (o : Option SiteInput). (after d j s o x.answer).proxy.pool) e ∙ (ap (λ (r : Answer). (after d j s (Some (given.Bulk a b m (valued h l))) r).proxy.pool) f ∙ (pool-now d j a b m s (valued h l) l ∙
        (ap (λ (ps : List Payload). ps ++ valued h l ∷ []) k ∙ (sym (map-join (valued h) (without (shown h j) (brought h j)) (l ∷ [])) ∙
        ap (map (valued h)) (sym (waiting-is (x ∷ h) j ∙ (ap (λ (ls : List Label). without ls (brought (x ∷ h) j)) (shown-by-bringing h x.act x.answer x.inner j l f) ∙ (ap (without (shown h j)) t ∙ without-end (shown h j) (brought h j) l (unshown d h a b j m l old p q)))))))))
    now s old k (brings_none u t) =
        pool-step d h j s x.act x.answer x.inner k (step_of d h x run) (λ l e. subst (λ (ls : List Label). has label_eq ls l ≡ false) t (new-unbrought d h x j l v run e)) u ∙
        ap (map (valued h)) (sym (waiting-is (x ∷ h) j ∙ ap (without (shown (x ∷ h) j)) t))

map-labels : (h : List Entry) (ls : List Label) → map label_of (map (valued h) ls) ≡ ls
map-labels h [] = refl
map-labels h (l ∷ ls) = ap (λ (ms : List Label). l ∷ ms) (map-labels h ls)

pub waiting-agrees : (d : Deployed) (h : List Entry) (j : ℕ) → IsValid d → IsRun d h → waiting_of (site_state d h j) ≡ waiting h j
waiting-agrees d h j v run = ap (map label_of) (pool-agrees d h j v run) ∙ map-labels h (waiting h j)

-- the parts of a label that is made in a history
abbrev pub parts_of : List Entry → Label → List (Option (List ℕ))
parts_of h l = (valued h l).values

-- the parts of what waits
parts-here : (h : List Entry) (ls : List Label) (l : Label) → In ls l → payload_in (map (valued h) ls) l ≡ parts_of h l
unfolding payload_in
parts-here h [] l m = absurd m
parts-here h (k ∷ ls) l (inl e) = go (label_eq k l) (subst (λ (z : Label). label_eq k z ≡ true) e (label_eq-self k))
  where
    go : (b : Bool) → b ≡ true → (if b then parts_of h k else payload_in (map (valued h) ls) l) ≡ parts_of h l
    go true w = ap (parts_of h) e
    go false w = absurd (cc)
parts-here h (k ∷ ls) l (inr m) = go (label_eq k l) refl (parts-here h ls l m)
  where
    go : (b : Bool) → label_eq k l ≡ b → payload_in (map (valued h) ls) l ≡ parts_of h l → (if b then parts_of h k else payload_in (map (valued h) ls) l) ≡ parts_of h l
    go true w e = ap (parts_of h) (same-label k l w)
    go false w e = e

pub waiting-parts : (d : Deployed) (h : List Entry) (j : ℕ) (l : Label) → IsValid d → IsRun d h → In (waiting h j) l → payload_in (site_state d h j).proxy.pool l ≡ parts_of h l
waiting-parts d h j l v run m = ap (λ (ps : List Payload). payload_in ps l) (pool-agrees d h j v run) ∙ parts-here h (waiting h j) l m
