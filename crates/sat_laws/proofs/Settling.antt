-- Where nothing waits or is under way a site holds its items' greatest versions.
use Rattle.std.specs.Prelude.{◌≡◌, ℕ, true, List, [], Option, Some, None, refl, slice_get}
use Rattle.std.proofs.Common.{subst, inl, inr}
use Rattle.std.proofs.lemmas.Bool.{cases_eq}
use Rattle.sat_label.specs.declared.label.Label.{Label}
use Rattle.sat_act.specs.declared.entry.Entry.{Entry}
use Rattle.sat_act.specs.Deployed.{Deployed}
use Rattle.sat_act.specs.Histories.{listed}
use Rattle.sat_act.specs.Runs.{IsRun}
use Rattle.sat_laws.proofs.Members.{listed-gives}
use Rattle.sat_laws.proofs.Links.{In-place}
use Rattle.sat_act.specs.Parts.{replicates, is_update_of}
use Rattle.sat_act.specs.Goals.{Shows, IsKeptAt}
use Rattle.sat_act.specs.Goals.{Made, IsValid}
use Rattle.sat_laws.proofs.Values.{write-of}
use Rattle.sat_laws.proofs.Shows.{shows-is}
use Rattle.sat_laws.proofs.Sites.{version-shown, version-kind}
use Rattle.sat_act.specs.Parts.{waiting}
use Rattle.sat_laws.proofs.Shows.{own-shown}
use Rattle.sat_laws.proofs.Arrivals.{kept-target, kept-update}
use Rattle.sat_act.specs.Parts.{version}
use Rattle.sat_label.specs.Order.{label_eq}
use Rattle.sat_label.specs.Words.{has}
use Rattle.sat_act.specs.Parts.{lane, brought, brought_entry}
use Rattle.sat_act.specs.Goals.{Settled, IsGreatestMade}
use Rattle.sat_laws.proofs.Members.{listed-gives}
use Rattle.sat_laws.proofs.Shows.{Brings, shows-is}
use Rattle.sat_laws.proofs.Links.{In-place}
use Rattle.sat_laws.proofs.BeatTimes.{in-lane-of}
use Rattle.sat_laws.proofs.Stamps.{brought-cases}
use Rattle.sat_laws.proofs.Freshness.{version-above, version-none}
use Rattle.sat_laws.proofs.Sites.{version-shown}
use Rattle.sat_label.specs.Members.{In, In}
use Rattle.sat_label.proofs.Members.{has-in}

has-brought : (h : List Entry) (j : ℕ) (l : Label) → has label_eq (brought h j) l ≡ true → Brings h j l
unfolding brought
has-brought h j l e = listed-gives (brought_entry j) h l (has-in (listed (brought_entry j) h) l e)

made-shown : (d : Deployed) (h : List Entry) (k x : ℕ) (m : Label) → IsRun d h → ((i g n : ℕ) (l : Label) → slice_get (lane d h i g k) n ≡ Some l → has label_eq (brought h k) l ≡ true) → waiting h k ≡ [] → replicates d x k ≡ true → Made h m → is_update_of m.kind x ≡ true → Shows h k m
made-shown d h k x m run all none r made_m u = elim (cases_eq m.point.site k) [ inl e ↦ subst (λ (i : ℕ). Shows h i m) e (own-shown d h m run made_m (kept-update d k m kept)) | inr n ↦ other n ]
  where
    kept : IsKeptAt d k m
    kept = (x, u, r)

    other : (m.point.site ≡ k → ⊥) → Shows h k m
    other n =
        let p : (j : ℕ) × (slice_get (lane d h m.point.site m.point.gear k) j ≡ Some m) = In-place (lane d h m.point.site m.point.gear k) m (in-lane-of d h k m made_m (kept-update d k m kept) (kept-target d k m kept n)) in
        elim (brought-cases h k m (has-brought h k m (all m.point.site m.point.gear p.0 m p.1))) [ inl s ↦ s | inr w ↦ absurd (subst (λ (ls : List Label). In ls m) none w) ]

pub settled : (d : Deployed) (h : List Entry) → IsValid d → IsRun d h → Settled d h
settled d h v run k x all none r = go (version h k x) refl
  where
    go : (o : Option Label) → version h k x ≡ o → IsGreatestMade h x o
    go None e = λ m made_m u. version-none h k x m e (made-shown d h k x m run all none r made_m u) u
    go (Some l) e = (write-of d h l x v run (shows-is d h k l run (version-shown h k x l e)).made (version-kind h k x l e), λ m made_m u. version-above h k x l m e (made-shown d h k x m run all none r made_m u) u)
