-- No client reads older than it saw.
use Rattle.std.specs.Prelude.{◌≡◌, ◌⊎◌, ℕ, Bool, true, false, List, [], ◌∷◌, Option, Some, None, refl, if◌then◌else◌}
use Rattle.std.proofs.Common.{subst, inl, inr, ap}
use Rattle.std.proofs.lemmas.Bool.{false_from_ne_true}
use Rattle.sat_label.specs.declared.label.Label.{Label}
use Rattle.sat_act.specs.declared.act.Act.{Act}
use Rattle.sat_act.specs.declared.answer.Answer.{Answer}
use Rattle.sat_act.specs.declared.entry.Entry.{Entry}
use Rattle.sat_act.specs.Deployed.{Deployed}
use Rattle.sat_act.specs.Histories.{listed}
use Rattle.sat_act.specs.Runs.{IsRun}
use Rattle.sat_act.specs.Goals.{IsValid}
use Rattle.sat_laws.proofs.Steps.{Step}
use Rattle.sat_laws.proofs.Runs.{step_of, before_of}
use Rattle.sat_laws.proofs.Labels.{some_is}
use Rattle.sat_laws.proofs.Members.{gives-listed}
use Rattle.sat_laws.proofs.Links.{AllCuttable}
use Rattle.sat_act.specs.declared.act.Act.TheVariants as act
use Rattle.sat_act.specs.Parts.{replicates, shown_entry}
use Rattle.sat_act.specs.Goals.{Shows}
use Rattle.sat_act.specs.Parts.{seat}
use Rattle.sat_act.specs.Causes.{Past}
use Rattle.sat_laws.proofs.Steps.{read_some}
use Rattle.sat_laws.proofs.Sites.{known}
use Rattle.sat_laws.proofs.Safety.{Main, StampRules}
use Rattle.sat_label.specs.Order.{label_lt}
use Rattle.sat_act.specs.Parts.{version, greatest_label, is_update_of, shown}
use Rattle.sat_act.specs.Goals.{Fresh, IsFresh}
use Rattle.sat_laws.proofs.Steps.{read_none, read_some}
use Rattle.sat_laws.proofs.Members.{gives-listed}
use Rattle.sat_laws.proofs.Mains.{main}
use Rattle.sat_laws.proofs.Labels.{seat-range}
use Rattle.sat_laws.proofs.Sites.{known}
use Rattle.sat_label.specs.Members.{In, In}
use Rattle.sat_label.proofs.Orders.{label_lt-self, label_lt-trans}

none-greatest : (p : Label → Bool) (x m : Label) (ls : List Label) (b : Bool) → p x ≡ b → (o : Option Label) → (o ≡ None → In ls m → ⊥) →
    (if b then elim o [ None ↦ Some x | Some y ↦ if label_lt y x then Some x else Some y ] else o) ≡ None → p m ≡ true → (x ≡ m) ⊎ In ls m → ⊥
none-greatest p x m ls true w None rest e k i = cc
none-greatest p x m ls true w (Some y) rest e k i = go (label_lt y x) e
  where
    go : (c : Bool) → (if c then Some x else Some y) ≡ None → ⊥
    go true e = cc
    go false e = cc
none-greatest p x m ls false w o rest e k (inl q) = let z : p x ≡ p m = ap p q in cc
none-greatest p x m ls false w o rest e k (inr q) = rest e q

no-greatest : (p : Label → Bool) (ls : List Label) (m : Label) → greatest_label p ls ≡ None → p m ≡ true → In ls m → ⊥
unfolding greatest_label
no-greatest p [] m e k i = i
no-greatest p (x ∷ ls) m e k i = none-greatest p x m ls (p x) refl (greatest_label p ls) (λ o. no-greatest p ls m o k) e k i

greatest-step : (p : Label → Bool) (x l : Label) (ls : List Label) (b : Bool) → p x ≡ b → (o : Option Label) → ((y : Label) → o ≡ Some y → (m : Label) → In ls m → p m ≡ true → label_lt y m ≡ false) → (o ≡ None → (m : Label) → p m ≡ true → In ls m → ⊥) →
    (if b then elim o [ None ↦ Some x | Some y ↦ if label_lt y x then Some x else Some y ] else o) ≡ Some l → (m : Label) → (x ≡ m) ⊎ In ls m → p m ≡ true → label_lt l m ≡ false
greatest-step p x l ls false w o rest none e m (inl q) k = absurd (let z : p x ≡ p m = ap p q in cc)
greatest-step p x l ls false w o rest none e m (inr q) k = rest l e m q k
greatest-step p x l ls true w None rest none e m (inl q) k = subst (λ (y : Label). label_lt y m ≡ false) (some_is x l e) (subst (λ (y : Label). label_lt x y ≡ false) q (label_lt-self x))
greatest-step p x l ls true w None rest none e m (inr q) k = absurd (none refl m k q)
greatest-step p x l ls true w (Some y) rest none e m i k = go (label_lt y x) refl e i
  where
    go : (c : Bool) → label_lt y x ≡ c → (if c then Some x else Some y) ≡ Some l → (x ≡ m) ⊎ In ls m → label_lt l m ≡ false
    go true c e (inl q) = subst (λ (z : Label). label_lt z m ≡ false) (some_is x l e) (subst (λ (z : Label). label_lt x z ≡ false) q (label_lt-self x))
    go true c e (inr q) = subst (λ (z : Label). label_lt z m ≡ false) (some_is x l e) (false_from_ne_true (label_lt x m) (λ t. let z : label_lt y m ≡ true = label_lt-trans y x m c t in let f : label_lt y m ≡ false = rest y refl m q k in cc))
    go false c e (inl q) = subst (λ (z : Label). label_lt z m ≡ false) (some_is y l e) (subst (λ (z : Label). label_lt y z ≡ false) q c)
    go false c e (inr q) = subst (λ (z : Label). label_lt z m ≡ false) (some_is y l e) (rest y refl m q k)

greatest-is : (p : Label → Bool) (ls : List Label) (l : Label) → greatest_label p ls ≡ Some l → (m : Label) → In ls m → p m ≡ true → label_lt l m ≡ false
unfolding greatest_label
greatest-is p [] l e m i k = absurd i
greatest-is p (x ∷ ls) l e m i k = greatest-step p x l ls (p x) refl (greatest_label p ls) (λ y. greatest-is p ls y) (λ o m k. no-greatest p ls m o k) e m i k

pub version-above : (h : List Entry) (j x : ℕ) (l m : Label) → version h j x ≡ Some l → Shows h j m → is_update_of m.kind x ≡ true → label_lt l m ≡ false
unfolding version shown
version-above h j x l m e s k = greatest-is (λ m. is_update_of m.kind x) (listed (shown_entry j) h) l e m (gives-listed (shown_entry j) h m s) k

pub version-none : (h : List Entry) (j x : ℕ) (m : Label) → version h j x ≡ None → Shows h j m → is_update_of m.kind x ≡ true → ⊥
unfolding version shown
version-none h j x m e s k = no-greatest (λ m. is_update_of m.kind x) (listed (shown_entry j) h) m e k (gives-listed (shown_entry j) h m s)

-- what a client saw of an item was shown where it reads
seen-shown : (d : Deployed) (h : List Entry) (c i x : ℕ) (a : Label) → IsValid d → IsRun d h → Main d h → seat d h c ≡ Some i → replicates d x i ≡ true → Past h c a → is_update_of a.kind x ≡ true → Shows h i a
seen-shown d h c i x a v run inv s r p k = (inv.safe i a (seat-range d h c i v run s) ((known d h i v run).clients c a s p)).shown (x, k, r)

item_is : (b y c x : ℕ) → act.Read b y ≡ act.Read c x → (b ≡ c) × (y ≡ x)
item_is b y c x e = (cc, cc)

fresh-now : (d : Deployed) (h : List Entry) (c x : ℕ) (a : Act) (r : Answer) → IsValid d → IsRun d h → Main d h → Step d h a r → a ≡ act.Read c x → IsFresh r c h x
fresh-now d h c x a r v run inv (read_some {c = b} {x = y} {i = i} {l = l} s q e) k =
    let w : (b ≡ c) × (y ≡ x) = item_is b y c x k in
    λ m p u. version-above h i x l m (subst (λ (z : ℕ). version h i z ≡ Some l) w.1 e) (seen-shown d h c i x m v run inv (subst (λ (z : ℕ). seat d h z ≡ Some i) w.0 s) (subst (λ (z : ℕ). replicates d z i ≡ true) w.1 q) p u) u
fresh-now d h c x a r v run inv (read_none {c = b} {x = y} {i = i} s q e) k =
    let w : (b ≡ c) × (y ≡ x) = item_is b y c x k in
    λ m p u. version-none h i x m (subst (λ (z : ℕ). version h i z ≡ None) w.1 e) (seen-shown d h c i x m v run inv (subst (λ (z : ℕ). seat d h z ≡ Some i) w.0 s) (subst (λ (z : ℕ). replicates d z i ≡ true) w.1 q) p u) u
fresh-now d h c x a r v run inv _ k = tt

pub fresh : (d : Deployed) (h : List Entry) → IsValid d → AllCuttable d → StampRules d → IsRun d h → Fresh h
unfolding Fresh
fresh d [] v cuts rules run = tt
fresh d (e ∷ h) v cuts rules run =
    (fresh d h v cuts rules (before_of d h e run), λ c x k. fresh-now d h c x e.act e.answer v (before_of d h e run) (main d h v cuts rules (before_of d h e run)) (step_of d h e run) k)
