-- What a history asks of its entries is what a judge of tales asks for.
use Rattle.std.proofs.Common.{◌≡◌, ◌<◌, ◌≤◌, ℕ, zero, suc, Bool, true, false, ◌||◌, List, [], ◌∷◌, ◌++◌, length, map, reverse, get_or, Option, Some, None, refl, sym, ap, subst, ◌∙◌, arith}
use Rattle.std.specs.List.{AllByRecursion}
use Rattle.std.proofs.lemmas.List.{append-nil, append_assoc, map-append, reverse-append}
use Rattle.std.proofs.lemmas.List.Folds.{list_any-append}
use Rattle.sat_label.specs.declared.point.Point.{Point}
use Rattle.sat_label.specs.declared.site_set.SiteSet.{SiteSet}
use Rattle.sat_act.specs.Deployed.{Deployed}
use Rattle.sat_act.specs.Ranges.{IsActOf}
use Rattle.sat_act.specs.declared.act.Act.{Act}
use Rattle.sat_act.specs.declared.act.Act.TheVariants as act
use Rattle.sat_script.specs.declared.limits.TheConstants.{AUDIT_ACTS}
use Rattle.sat_verdict.specs.declared.limits.TheConstants.{MOST_ENTRIES}
use Rattle.sat_verdict.specs.declared.tale.Tale.{Tale}
use Rattle.sat_verdict.specs.declared.tale.Tale.TheVariants as tale
use Rattle.sat_verdict.specs.Entries.{client_of, makes, made_in}
use Rattle.sat_verdict.specs.Found.{first_again, first_lack, first_miss, made_number}
use Rattle.sat_verdict.specs.Laws.{VerdictsAreFound, VerdictsAreUnique}
use Rattle.sat_verdict.specs.Passes.{HasSites, site_of}
use Rattle.sat_verdict.specs.Tables.{HasClients, IsUnique}
use Rattle.sat_verdict.specs.Verdicts.{IsCausalVerdict, IsFreshVerdict, IsOnceVerdict}
use Rattle.sat_verdict.specs.declared.verdict.Verdict.{Verdict}
use Rattle.sat_audit.specs.Histories.{AreMadeOnce, IsHeardOf, IsHistory, Tells}
use Rattle.sat_audit.specs.Judging.{sets_of, tale_of, tale_with, tales_of, verdict_of, IsVerdictOf}
use Rattle.sat_audit.specs.Lines.{was_made, makes as makes_point}
use Rattle.sat_audit.specs.Told.{made_in as told_made}
use Rattle.sat_audit.specs.declared.heard.Heard.{Heard}
use Rattle.sat_audit.specs.declared.heard.History.{History}
use Rattle.sat_audit.specs.declared.told.Told.{Told}
use Rattle.sat_audit.specs.declared.told.Told.TheVariants as told

same-some : (a b : ℕ) → Some a ≡ Some b → a ≡ b
same-some a b e = cc

-- ---- clients and sites

client-in : (d : Deployed) (a : Act) (t : Told) → IsActOf d a → (c : ℕ) → client_of (tale_with a t) ≡ Some c → c < length d.clients
client-in d (act.Write b x value) (told.Wrote p) is c e = subst (λ (n : ℕ). n < length d.clients) (same-some b c e) is.0
client-in d (act.Writes b items values) (told.Wrote p) is c e = subst (λ (n : ℕ). n < length d.clients) (same-some b c e) is.0
client-in d _ (told.Wrote p) is c e = absurd (cc)
client-in d (act.Read b x) told.ReadNone is c e = subst (λ (n : ℕ). n < length d.clients) (same-some b c e) is.0
client-in d _ told.ReadNone is c e = absurd (cc)
client-in d (act.Read b x) (told.ReadSome p) is c e = subst (λ (n : ℕ). n < length d.clients) (same-some b c e) is.0
client-in d _ (told.ReadSome p) is c e = absurd (cc)
client-in d (act.Move b j) (told.Moved p) is c e = subst (λ (n : ℕ). n < length d.clients) (same-some b c e) is.0
client-in d _ (told.Moved p) is c e = absurd (cc)
client-in d (act.Turn j) (told.Shown p) is c e = absurd (cc)
client-in d (act.Stamp j) (told.Shown p) is c e = absurd (cc)
client-in d _ (told.Shown p) is c e = absurd (cc)
client-in d _ told.Other is c e = absurd (cc)

site-in : (d : Deployed) (a : Act) (t : Told) → IsActOf d a → Tells d a t → (k : ℕ) → site_of (tale_with a t) ≡ Some k → k < d.sites
site-in d (act.Write b x value) (told.Wrote p) is tells k e = subst (λ (n : ℕ). n < d.sites) (same-some p.site k e) tells.1.site
site-in d (act.Writes b items values) (told.Wrote p) is tells k e = subst (λ (n : ℕ). n < d.sites) (same-some p.site k e) tells.1.site
site-in d _ (told.Wrote p) is tells k e = absurd (cc)
site-in d (act.Read b x) told.ReadNone is tells k e = absurd (cc)
site-in d _ told.ReadNone is tells k e = absurd (cc)
site-in d (act.Read b x) (told.ReadSome p) is tells k e = absurd (cc)
site-in d _ (told.ReadSome p) is tells k e = absurd (cc)
site-in d (act.Move b j) (told.Moved p) is tells k e = absurd (cc)
site-in d _ (told.Moved p) is tells k e = absurd (cc)
site-in d (act.Turn j) (told.Shown p) is tells k e = subst (λ (n : ℕ). n < d.sites) (same-some j k e) is
site-in d (act.Stamp j) (told.Shown p) is tells k e = subst (λ (n : ℕ). n < d.sites) (same-some j k e) is
site-in d _ (told.Shown p) is tells k e = absurd (cc)
site-in d _ told.Other is tells k e = absurd (cc)

-- what holds of what each entry tells holds of each tale
each-tale : (P : Tale → Type 0) (d : Deployed) → ((e : Heard) → IsHeardOf d e → P (tale_of e)) → (heard : List Heard) → AllByRecursion (λ e. IsHeardOf d e) heard → (j : ℕ) → j < length (map tale_of heard) → P (get_or (map tale_of heard) j tale.Other)
each-tale P d step [] all j l = absurd (omega (arith, l))
each-tale P d step (e ∷ heard) all zero l = step e all.0
each-tale P d step (e ∷ heard) all (suc j) l = each-tale P d step heard all.1 j (omega (arith, l))

pub has_clients : (h : History) (clients : ℕ) (tales : List Tale) → IsHistory h → clients ≡ length h.deployment.clients → tales ≡ map tale_of h.heard → HasClients clients tales
has_clients h clients tales is many same = rw (many, same) (λ j c l e.
    each-tale (λ t. (b : ℕ) → client_of t ≡ Some b → b < length h.deployment.clients) h.deployment (λ x heard. client-in h.deployment x.act x.told heard.act) h.heard is.each j l c e)

pub has_sites : (h : History) (tales : List Tale) → IsHistory h → tales ≡ map tale_of h.heard → HasSites tales
has_sites h tales is same = rw same (λ j k l e.
    let low : k < h.deployment.sites = each-tale (λ t. (b : ℕ) → site_of t ≡ Some b → b < h.deployment.sites) h.deployment (λ x heard. site-in h.deployment x.act x.told heard.act heard.told) h.heard is.each j l k e in
    omega (arith, low, is.deployment.few_sites))

-- ---- each point is made once

told-made : (a : Act) (t : Told) (b : Point) → made_in (tale_with a t) ≡ Some b → told_made t ≡ Some b
told-made (act.Write c x value) (told.Wrote p) b e = e
told-made (act.Writes c items values) (told.Wrote p) b e = e
told-made _ (told.Wrote p) b e = absurd (cc)
told-made (act.Read c x) told.ReadNone b e = absurd (cc)
told-made _ told.ReadNone b e = absurd (cc)
told-made (act.Read c x) (told.ReadSome p) b e = absurd (cc)
told-made _ (told.ReadSome p) b e = absurd (cc)
told-made (act.Move c j) (told.Moved p) b e = e
told-made _ (told.Moved p) b e = absurd (cc)
told-made (act.Turn j) (told.Shown p) b e = absurd (cc)
told-made (act.Stamp j) (told.Shown p) b e = absurd (cc)
told-made _ (told.Shown p) b e = absurd (cc)
told-made _ told.Other b e = absurd (cc)

tale-unmade : (a : Act) (t : Told) (b : Point) → makes_point (record { act = a; told = t }) b ≡ false → makes (tale_with a t) b ≡ false
tale-unmade (act.Write c x value) (told.Wrote p) b e = e
tale-unmade (act.Writes c items values) (told.Wrote p) b e = e
tale-unmade _ (told.Wrote p) b e = refl
tale-unmade (act.Read c x) told.ReadNone b e = refl
tale-unmade _ told.ReadNone b e = refl
tale-unmade (act.Read c x) (told.ReadSome p) b e = refl
tale-unmade _ (told.ReadSome p) b e = refl
tale-unmade (act.Move c j) (told.Moved p) b e = e
tale-unmade _ (told.Moved p) b e = refl
tale-unmade (act.Turn j) (told.Shown p) b e = refl
tale-unmade (act.Stamp j) (told.Shown p) b e = refl
tale-unmade _ (told.Shown p) b e = refl
tale-unmade _ told.Other b e = refl

-- the newest first
abbrev told_so_far : List Heard → List Tale
told_so_far heard = reverse (map tale_of heard)

one-more : (done : List Heard) (e : Heard) → told_so_far (done ++ e ∷ []) ≡ tale_of e ∷ told_so_far done
one-more done e = ap (λ (ts : List Tale). reverse ts) (map-append tale_of done (e ∷ [])) ∙ reverse-append (map tale_of done) (tale_of e ∷ [])

either-false : (a b : Bool) → (a || b) ≡ false → (a ≡ false) × (b ≡ false)
either-false false b h = (refl, h)
either-false true b h = absurd (cc)

or-false : (b : Bool) → (b || false) ≡ false → b ≡ false
or-false false h = refl
or-false true h = absurd (cc)

abbrev AreUnmade : List Heard → Type 0
AreUnmade done = (b : Point) → was_made done b ≡ false → made_number (told_so_far done) b ≡ None

unmade-more : (h : List Tale) (t : Tale) (b : Point) → made_number h b ≡ None → makes t b ≡ false → made_number (t ∷ h) b ≡ None
unfolding made_number
unmade-more h t b none other = rw (none, other) refl

still-unmade : (done : List Heard) (e : Heard) → AreUnmade done → AreUnmade (done ++ e ∷ [])
still-unmade done e old b un =
    let split = either-false (was_made done b) (was_made (e ∷ []) b) (sym (list_any-append (λ (x : Heard). makes_point x b) done (e ∷ [])) ∙ un) in
    ap (λ (h : List Tale). made_number h b) (one-more done e)
    ∙ unmade-more (told_so_far done) (tale_of e) b (old b split.0) (tale-unmade e.act e.told b (or-false (makes_point e b) split.1))

unique-from : (done rest heard : List Heard) → heard ≡ done ++ rest → AreMadeOnce heard → IsUnique (told_so_far done) → AreUnmade done → IsUnique (told_so_far heard)
unfolding IsUnique
unique-from done [] heard is once u n = subst (λ (xs : List Heard). IsUnique (told_so_far xs)) (sym (is ∙ append-nil done)) u
unique-from done (e ∷ rest) heard is once u n =
    unique-from (done ++ e ∷ []) rest heard (is ∙ sym (append_assoc done (e ∷ []) rest)) once
    (subst IsUnique (sym (one-more done e)) (u, λ b made. n b (once done rest e b is (told-made e.act e.told b made))))
    (still-unmade done e n)

pub is_unique : (h : History) (tales : List Tale) → IsHistory h → tales ≡ map tale_of h.heard → IsUnique (reverse tales)
unfolding IsUnique made_number
is_unique h tales is same = rw same (unique-from [] h.heard h.heard refl is.once tt (λ b none. refl))

pub few_tales : (h : History) (tales : List Tale) → IsHistory h → tales ≡ map tale_of h.heard → length tales ≤ MOST_ENTRIES
few_tales h tales is same = rw same (subst (λ (n : ℕ). n ≤ MOST_ENTRIES) (sym (many h.heard)) (let few : length h.heard ≤ AUDIT_ACTS = is.few in omega arith))
  where
    many : (xs : List Heard) → length (map tale_of xs) ≡ length xs
    many [] = refl
    many (x ∷ xs) = ap suc (many xs)

-- ---- the one verdict

pub said_of : (h : History) (sets : List SiteSet) (tales : List Tale) (v : Verdict) → sets ≡ sets_of h.deployment → tales ≡ map tale_of h.heard → IsCausalVerdict sets (reverse tales) v.causal → IsOnceVerdict sets (reverse tales) v.once → IsFreshVerdict (reverse tales) v.fresh → IsVerdictOf h v
said_of h sets tales v same told causal once fresh =
    let all : reverse tales ≡ tales_of h = ap (λ (ts : List Tale). reverse ts) told in record {
      causal = subst (λ (s : List SiteSet). IsCausalVerdict s (tales_of h) v.causal) same (subst (λ (ts : List Tale). IsCausalVerdict sets ts v.causal) all causal);
      once = subst (λ (s : List SiteSet). IsOnceVerdict s (tales_of h) v.once) same (subst (λ (ts : List Tale). IsOnceVerdict sets ts v.once) all once);
      fresh = subst (λ (ts : List Tale). IsFreshVerdict ts v.fresh) all fresh;
    }

abbrev verdict_with : Option (ℕ × ℕ × ℕ) → Option ℕ → Option (ℕ × ℕ) → Verdict
verdict_with causal once fresh = record { causal = causal; once = once; fresh = fresh }

pub one_of : (h : History) (v : Verdict) → VerdictsAreFound → VerdictsAreUnique → IsVerdictOf h v → v ≡ verdict_of h
unfolding verdict_of
one_of h v found unique is =
    let f = found (sets_of h.deployment) (tales_of h) in
    let u = unique (sets_of h.deployment) (tales_of h) in
    same (u.0 v.causal (first_lack (sets_of h.deployment) (tales_of h) (tales_of h)) is.causal f.0) (u.1 v.once (first_again (sets_of h.deployment) (tales_of h) (tales_of h)) is.once f.1) (u.2 v.fresh (first_miss (tales_of h) (tales_of h)) is.fresh f.2)
  where
    same : {a x : Option (ℕ × ℕ × ℕ)} {b y : Option ℕ} {c z : Option (ℕ × ℕ)} → a ≡ x → b ≡ y → c ≡ z → verdict_with a b c ≡ verdict_with x y z
    same p q r = rw (p, q, r) refl
