-- What a site has of the others in the beginning stands for the fresh state.
use Rattle.std.specs.Prelude.{◌≡◌, ◌*◌, ◌||◌, ℕ, zero, suc, Bool, false, nat_lt, List, [], replicate, get_or, refl}
use Rattle.std.proofs.Common.{ap, sym, subst, ◌∙◌, arith}
use Rattle.std.proofs.lemmas.Bool.Decides.{nat_tests}
use Rattle.sat_bulk.specs.Payloads.{Payload}
use Rattle.sat_bulk.specs.Windows.{Numbers, has_number}
use Rattle.sat_pool.specs.Pool.{none_waiting, all_waiting}
use Rattle.sat_beat.specs.Beats.{TakenBeats, none_taken}
use Rattle.sat_act.specs.Parts.{BeatNote}
use Rattle.sat_model.specs.State.{fresh_site}
use Rattle.sat_model.specs.Look.{best_in}
use Rattle.sat_proxy.specs.Proxy.{no_numbers, first_point, fresh_proxy, lane_place}
use Rattle.sat_proxy.specs.Stands.{SamePayloads, StandsBeats, is_reached_by}
use Rattle.sat_proxy.specs.Laws.{Starts}
use Rattle.sat_proxy.proofs.SameLists.{map-below}
use Rattle.sat_proxy.proofs.SamePools.{joined}

pub get-replicate : {X : Type 0} (x : X) (n i : ℕ) → get_or (replicate n x) i x ≡ x
get-replicate x zero i = refl
get-replicate x (suc n) zero = refl
get-replicate x (suc n) (suc i) = get-replicate x n i

none-joined : (n : ℕ) → joined (replicate n []) ≡ []
none-joined zero = refl
none-joined (suc n) = none-joined n

none-wait : (n : ℕ) → SamePayloads (all_waiting (none_waiting n)) []
none-wait n = subst (λ (ps : List Payload). SamePayloads ps []) (sym (none-joined n)) (record { there = λ p m. m; back = λ p m. m; count = refl })

none-stand : (p : BeatNote → Bool) → StandsBeats none_taken [] (best_in p [])
unfolding best_in
none-stand p = record { kept = refl; later = λ n beat m. absurd m; back = λ n note m le. absurd m; once = λ n a b m k. absurd m }

pub starts : Starts
starts d j = record {
  taken = λ k g n lk lg. sym (ap (λ (w : Numbers). has_number w n) (get-replicate no_numbers (d.sites * d.gears) (lane_place (fresh_proxy d.sites d.gears j) k g)) ∙ none n);
  pool = none-wait d.sites;
  beats = λ k lk. subst (λ (t : TakenBeats). StandsBeats t [] (best_in (is_reached_by d.gears (fresh_site j).proxy k) [])) (sym (get-replicate none_taken d.sites k)) (none-stand (is_reached_by d.gears (fresh_site j).proxy k));
  last = λ k lk. map-below first_point d.sites k (first_point k) lk;
}
  where
    none : (n : ℕ) → (nat_lt n 0 || false) ≡ false
    none n = grind (arith, nat_tests)
