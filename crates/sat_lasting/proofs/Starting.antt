-- Sites on disks at which nothing has happened, and what the disk of a site reads as.
use Rattle.std.proofs.Common.{◌≡◌, ◌<◌, ℕ, ◌+◌, suc, List, [], ◌∷◌, ◌++◌, length, replicate, slice_get, Option, Some, None, inl, inr, refl, sym, ap, subst, ◌∙◌}
use Rattle.std.proofs.lemmas.List.{length-replicate}
use Rattle.std.proofs.Math.Numerals.{add-one}
use Rattle.sat_act.specs.Deployed.{Deployed}
use Rattle.sat_durable.specs.declared.memory.MemoryDisk.{MemoryDisk}
use Rattle.sat_durable.specs.Memory.{memory_state}
use Rattle.sat_durable.specs.Machine.{Recovers}
use Rattle.sat_model.specs.Journal.{journal}
use Rattle.sat_model.specs.Replay.{site_state}
use Rattle.sat_proxy.proofs.Starting.{starts}
use Rattle.sat_site.proofs.Fresh.{fresh-stands}
use Rattle.sat_site.specs.Changes.{shape_for}
use Rattle.sat_site.specs.declared.input.SiteInput.{SiteInput}
use Rattle.sat_world.specs.Seen.{WorldSeen}
use Rattle.sat_world.specs.Stands.{StandsFor}
use Rattle.sat_world.proofs.Lists.{length-push, push-cases}
use Rattle.sat_lasting_laws.specs.Lastings.{LastingEntry, armed, kept}
use Rattle.sat_lasting_laws.specs.LastingRuns.{IsLastingRun}
use Rattle.sat_lasting.specs.declared.cut.Cut.{Cut}
use Rattle.sat_lasting.specs.declared.slot.Slot.{Slot}
use Rattle.sat_lasting.specs.Lasts.{AreFresh, AreInputs, HasPlaces, IsJournalAt, LastingSeen, LastsAt, LastsFor}
use Rattle.sat_lasting.specs.Sites.{fresh_kept, site_meaning}
use Rattle.sat_lasting.specs.Slots.{SlotKeeps, slot_disk}
use Rattle.sat_lasting.proofs.Sets.{get-copies, get-within, same-some}

abbrev now_with : WorldSeen → List Slot → List (Option Cut) → LastingSeen
now_with w slots cuts = record { world = w; slots = slots; cuts = cuts }

pub slots-more : (d : Deployed) (n : ℕ) (xs : List Slot) (x : Slot) → AreFresh d n xs → SlotKeeps d n [] x → AreFresh d (n + 1) (xs ++ x ∷ [])
slots-more d n xs x old has = record {
  count = rw add-one (length-push xs x ∙ ap suc old.count);
  each = λ i y at. elim (push-cases xs x y i at) [
    | inl w ↦ old.each i y w
    | inr w ↦ let e : n ≡ i = sym (w.0 ∙ old.count) in subst (λ (k : ℕ). SlotKeeps d k [] y) e (subst (λ (z : Slot). SlotKeeps d n [] z) w.1 has)
  ];
}

no-inputs : (d : Deployed) (i : ℕ) → AreInputs d [] i []
unfolding journal site_state
no-inputs d i = record { handed = refl; stands = fresh-stands d i (shape_for d i) starts refl }

none-armed : (d : Deployed) (i : ℕ) → armed d [] i ≡ None
unfolding armed
none-armed d i = refl

none-kept : kept [] ≡ []
unfolding kept
none-kept = refl

pub new-places : (d : Deployed) (w : WorldSeen) (slots : List Slot) (cuts : List (Option Cut)) → w.deployment ≡ d → AreFresh d d.sites slots → cuts ≡ replicate d.sites None → HasPlaces (now_with w slots cuts)
new-places d w slots cuts same fresh none =
    let n : w.deployment.sites ≡ d.sites = ap (λ (x : Deployed). x.sites) same in
    record { slots = fresh.count ∙ sym n; cuts = ap length none ∙ (length-replicate d.sites None ∙ sym n) }

pub new-lasts : (d : Deployed) (w : WorldSeen) (slots : List Slot) (cuts : List (Option Cut)) → w.deployment ≡ d → StandsFor w [] → AreFresh d d.sites slots → cuts ≡ replicate d.sites None → LastsFor (now_with w slots cuts) []
new-lasts d w slots cuts same stands fresh none = record {
  world = subst (λ l. StandsFor w l) (sym none-kept) stands;
  sites = subst (λ (x : Deployed). (i : ℕ) → i < x.sites → LastsAt x (now_with w slots cuts) [] i) (sym same) each;
}
  where
    each : (i : ℕ) → i < d.sites → LastsAt d (now_with w slots cuts) [] i
    each i lt =
        let found : (x : Slot) × (slice_get slots i ≡ Some x) = get-within slots i (subst (λ (n : ℕ). i < n) (sym fresh.count) lt) in
        record {
          slot = found.0;
          at = found.1;
          inputs = [];
          are = subst (λ h. AreInputs d h i []) (sym none-kept) (no-inputs d i);
          keeps = fresh.each i found.0 found.1;
          cut = None;
          waits = ap (λ (l : List (Option Cut)). slice_get l i) none ∙ get-copies d.sites i None lt;
          same = sym (none-armed d i);
        }

-- ---- a disk

shown : (d : Deployed) (i : ℕ) (xs : List SiteInput) (here : Slot) → SlotKeeps d i xs here → Recovers site_meaning (fresh_kept d i) (memory_state (slot_disk here)).content xs
shown d i xs here has = has.has.keeps.shown

disk-reads : (s : LastingSeen) (i : ℕ) (here : Slot) (disk : MemoryDisk) → i < s.world.deployment.sites → slice_get s.slots i ≡ Some here → disk ≡ slot_disk here →
    (c : List LastingEntry) → IsLastingRun s.world.deployment c → LastsFor s c → IsJournalAt s.world.deployment (kept c) i (memory_state disk).content
disk-reads s i here disk lt at is c run st =
    let x : LastsAt s.world.deployment s c i = st.sites i lt in
    record {
      inputs = (st.sites i lt).inputs;
      are = (st.sites i lt).are;
      recovers = subst (λ (m : MemoryDisk). Recovers site_meaning (fresh_kept s.world.deployment i) (memory_state m).content (st.sites i lt).inputs) (sym is)
          (shown s.world.deployment i (st.sites i lt).inputs here (subst (λ (y : Slot). SlotKeeps s.world.deployment i (st.sites i lt).inputs y) (same-some (st.sites i lt).slot here (sym (st.sites i lt).at ∙ at)) (st.sites i lt).keeps));
    }

pub disk-place : (w v : LastingSeen) → w ≡ v → HasPlaces w → (i : ℕ) → i < v.world.deployment.sites → i < length w.slots
disk-place w v e k i lt = subst (λ (n : ℕ). i < n) (sym k.slots) (subst (λ (s : LastingSeen). i < s.world.deployment.sites) (sym e) lt)

pub disk-is : (w v : LastingSeen) → w ≡ v → (i : ℕ) (here : Slot) (disk : MemoryDisk) → i < v.world.deployment.sites → slice_get w.slots i ≡ Some here → disk ≡ slot_disk here →
    (c : List LastingEntry) → IsLastingRun v.world.deployment c → LastsFor v c → IsJournalAt v.world.deployment (kept c) i (memory_state disk).content
disk-is w v e i here disk lt at is = disk-reads v i here disk lt (subst (λ (s : LastingSeen). slice_get s.slots i ≡ Some here) e at) is
