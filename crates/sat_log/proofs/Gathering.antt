-- What a gathering log gathers is what its journal has.
use Rattle.std.proofs.Common.{◌≡◌, ℕ, ◌+◌, Bool, true, false, List, [], ◌∷◌, ◌++◌, length, nat_lt, Option, Some, None, Result, Ok, Err, refl, sym, ap, ◌∙◌, append_assoc}
use Rattle.std.specs.Prelude.{if◌then◌else◌, map, ⊤}
use Rattle.std.proofs.lemmas.List.{append-nil}
use Rattle.sat_durable.specs.Fault.{MatchDurableFault}
use Rattle.sat_durable.specs.Journal.{reading}
use Rattle.sat_durable.specs.declared.durable.DurableFault.{DurableFault}
use Rattle.sat_durable.specs.declared.durable.DurableFault.TheVariants as fault
use Rattle.sat_durable.specs.Machine.{Run, Recovers, started, taken, run_from, run_of, replay_from, recovered}
use Rattle.sat_log.specs.declared.log.Appended.{Appended}
use Rattle.sat_log.specs.Logs.{LogSeen, gathering, log_after, log_meaning, passing}

abbrev LogRun : Type 0
LogRun = Run LogSeen Appended

-- where one run goes through a journal any other one does
goes-by : (b : Bool) (at : ℕ) (closed : Bool) (body : List ℕ) (bodies : List (List ℕ)) (run other end : LogRun) →
    ((at : ℕ) (run other end : LogRun) → replay_from log_meaning at run closed bodies ≡ Ok end → (end ≡ run_from log_meaning run bodies) × (replay_from log_meaning at other closed bodies ≡ Ok (run_from log_meaning other bodies))) →
    nat_lt (length body) 4294967296 ≡ b → replay_from log_meaning at run closed (body ∷ bodies) ≡ Ok end → (end ≡ run_from log_meaning run (body ∷ bodies)) × (replay_from log_meaning at other closed (body ∷ bodies) ≡ Ok (run_from log_meaning other (body ∷ bodies)))
goes-by true at closed body bodies run other end rest is went =
    let there = rest (at + (5 + length body)) (taken log_meaning run body) (taken log_meaning other body) end (rw is at went) in
    (there.0, rw is there.1)
goes-by false at closed body bodies run other end rest is went = absurd (let stuck : Err at ≡ Ok end = rw is at went in cc (stuck))

goes : (closed : Bool) (bodies : List (List ℕ)) (at : ℕ) (run other end : LogRun) → replay_from log_meaning at run closed bodies ≡ Ok end → (end ≡ run_from log_meaning run bodies) × (replay_from log_meaning at other closed bodies ≡ Ok (run_from log_meaning other bodies))
goes true [] at run other end went = (cc (went), refl)
goes false [] at run other end went = absurd (cc (went))
goes closed (body ∷ bodies) at run other end went = goes-by (nat_lt (length body) 4294967296) at closed body bodies run other end (goes closed bodies) refl went

gathered : (bodies : List (List ℕ)) (run : LogRun) → run.machine.gathers ≡ true → (run_from log_meaning run bodies).machine.bodies ≡ run.machine.bodies ++ bodies
gathered [] run is = sym (append-nil run.machine.bodies)
gathered (body ∷ bodies) run is =
    gathered bodies (taken log_meaning run body) is
    ∙ (ap (λ (b : Bool). (if b then run.machine.bodies ++ body ∷ [] else run.machine.bodies) ++ bodies) is
    ∙ append_assoc run.machine.bodies (body ∷ []) bodies)

map-same : (xs : List (List ℕ)) → map (λ bytes. bytes) xs ≡ xs
map-same [] = refl
map-same (x ∷ xs) = ap (λ l. x ∷ l) (map-same xs)

pub all_gathered : (content : List ℕ) (end : LogRun) → recovered log_meaning gathering content ≡ Ok end → Recovers log_meaning passing content end.machine.bodies
all_gathered content end is =
    let bodies = (reading content).bodies in
    let went = goes (reading content).closed bodies 0 (started gathering) (started passing) end is in
    let all : end.machine.bodies ≡ bodies = ap (λ (r : LogRun). r.machine.bodies) went.0 ∙ gathered bodies (started gathering) refl in
    record {
      journal = sym (map-same end.machine.bodies ∙ all);
      replay = went.1 ∙ ap (λ (l : List (List ℕ)). let r : Result LogRun ℕ = Ok (run_of log_meaning passing l) in r) (sym all);
    }

-- a journal of byte strings is torn nowhere, also for one that gathers
pub gathers_all : (content : List ℕ) (bodies : List (List ℕ)) (at : ℕ) → Recovers log_meaning passing content bodies → recovered log_meaning gathering content ≡ Err at → ⊥
gathers_all content bodies at recovers is =
    let went = goes (reading content).closed (reading content).bodies 0 (started passing) (started gathering) (run_of log_meaning passing bodies) recovers.replay in
    absurd (let both : (let r : Result LogRun ℕ = Ok (run_of log_meaning gathering (reading content).bodies) in r) ≡ Err at = sym went.1 ∙ is in cc (both))

-- so its fault is not that
pub not_torn : {D : Type 0} (content : List ℕ) (bodies : List (List ℕ)) (fresh : LogSeen) (P : D → Type 0) (fault : DurableFault D) → fresh ≡ gathering → Recovers log_meaning passing content bodies →
    MatchDurableFault fault P (λ left at. recovered log_meaning fresh content ≡ Err at) (λ left. ⊤) → MatchDurableFault fault (λ left. ⊤) (λ left at. ⊥) (λ left. ⊤)
not_torn content bodies fresh P (fault.Disk left) is recovers why = tt
not_torn content bodies fresh P (fault.Torn left at) is recovers why =
    gathers_all content bodies at recovers (ap (λ (s : LogSeen). recovered log_meaning s content) (sym is) ∙ why)
not_torn content bodies fresh P (fault.Memory left) is recovers why = tt
