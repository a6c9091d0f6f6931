-- A write that a client asks for without a seat.
use Rattle.std.proofs.Common.{◌≡◌, ℕ, Bool, true, List, Option, refl, sym, ap, ◌∙◌}
use Rattle.std.specs.Prelude.{Some, None, false, is_some, not}
use Rattle.sat_act.specs.declared.act.Act.{Act}
use Rattle.sat_act.specs.declared.act.Act.TheVariants as act
use Rattle.sat_act.specs.declared.answer.Answer.{Answer}
use Rattle.sat_act.specs.declared.answer.Answer.TheVariants as ans
use Rattle.sat_act.specs.declared.answer.Refusal.TheVariants as why
use Rattle.sat_act.specs.declared.entry.Entry.{Entry}
use Rattle.sat_label.specs.declared.items.Items.TheVariants.{One}
use Rattle.sat_act.specs.Answers.{answer, at_seat, write_at}
use Rattle.sat_act.specs.Parts.{seat}
use Rattle.sat_act.specs.Runs.{IsRun}
use Rattle.sat_world.specs.Laws.{UndoneKeeps}
use Rattle.sat_world.specs.Seen.{WorldSeen}
use Rattle.sat_world.specs.Stands.{StandsFor}
use Rattle.sat_runs.specs.Running.{entry, Does}
use Rattle.sat_runs.proofs.Doing.{did}

none_is : (o : Option ℕ) (none : Bool) → is_some o ≡ not none → none ≡ true → o ≡ None
none_is None none said is = refl
none_is (Some x) none said is = let e : true ≡ false = said ∙ ap not is in absurd (cc)

-- without a seat, whatever it asks for
unseated : (o : Option ℕ) (gives : ℕ → Answer) → o ≡ None → ans.Refused why.NoSession ≡ at_seat o gives
unseated o gives none = sym (ap (λ (o : Option ℕ). at_seat o gives) none)

-- an act that is refused leaves the world
left : (w : WorldSeen) (a : Act) → UndoneKeeps → (a ≡ act.Settle → ⊥)
    → ((h : List Entry) → IsRun w.deployment h → StandsFor w h → ans.Refused why.NoSession ≡ answer w.deployment h a)
    → Does w a (ans.Refused why.NoSession) w
left w a keeps other says = did w w a (ans.Refused why.NoSession) other says (λ h run now. (keeps w h (entry a (ans.Refused why.NoSession)) refl).there now)

-- the seat of a client is this one, in each history that the world stands for
abbrev SeatIs : WorldSeen → ℕ → Option ℕ → Type 0
SeatIs w c found = (h : List Entry) → IsRun w.deployment h → StandsFor w h → found ≡ seat w.deployment h c

module _ (w : WorldSeen) (c : ℕ) (found : Option ℕ) (keeps : UndoneKeeps) (is : SeatIs w c found) (none : Bool) (said : is_some found ≡ not none) (lacks : none ≡ true) where
  gone : (h : List Entry) → IsRun w.deployment h → StandsFor w h → seat w.deployment h c ≡ None
  gone h run now = sym (is h run now) ∙ none_is found none said lacks

  pub no_write : (x : ℕ) (v : List ℕ) → Does w (act.Write c x v) (ans.Refused why.NoSession) w
  unfolding answer
  no_write x v = left w (act.Write c x v) keeps (λ e. absurd (cc)) (λ h run now. unseated (seat w.deployment h c) (λ i. write_at w.deployment h c (One x) i) (gone h run now))
