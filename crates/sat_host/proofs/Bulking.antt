-- What a payload or a beat takes at a site.
use Rattle.std.proofs.Common.{◌≡◌, ◌≢◌, ℕ, ◌==◌, nat_le, nat_lt, Bool, true, false, List, if◌then◌else◌, Option, Some, None, inl, inr, refl, ap, ◌∙◌, subst, arith}
use Rattle.std.proofs.lemmas.Bool.{cases_Bool}
use Rattle.std.proofs.lemmas.Bool.Decides.{nat_tests}
use Rattle.sat_label.specs.Words.{has}
use Rattle.sat_label.specs.declared.node.NodeName.{NodeName}
use Rattle.sat_label.specs.declared.node.NodeName.TheVariants as named
use Rattle.sat_act.specs.declared.answer.Answer.{Answer}
use Rattle.sat_act.specs.declared.answer.Answer.TheVariants as ans
use Rattle.sat_act.specs.Deployed.{Deployed}
use Rattle.sat_act.specs.Parts.{BeatNote}
use Rattle.sat_model.specs.Reply.{site_answer}
use Rattle.sat_model.specs.Look.{best_of, numbers_of}
use Rattle.sat_model.specs.State.{SiteState}
use Rattle.sat_site.specs.declared.input.SiteInput.{SiteInput}
use Rattle.sat_site.specs.declared.input.SiteInput.TheVariants as input
use Rattle.sat_site.specs.Inputs.{input_of}
use Rattle.sat_site.specs.Seen.{SiteSeen}
use Rattle.sat_node.specs.declared.kept.Body.{Body}
use Rattle.sat_node.specs.declared.kept.Body.TheVariants as body
use Rattle.sat_node.specs.Meanings.{replay}
use Rattle.sat_node.specs.Links.{IsOf}
use Rattle.sat_machines.specs.declared.site_answer.SiteAnswer.{SiteAnswer}
use Rattle.sat_machines.specs.Acts.{ActSeen}
use Rattle.sat_machines.specs.Layout.{peer}
use Rattle.sat_machines.specs.Sites.{Stands, is_standing, number_of, site_meaning, some_if, taken_on}
use Rattle.sat_passes.specs.Hearings.{SiteKept, input_from}

-- ---- what a message takes

peer-one : (i k j : ℕ) → k ≢ j → (peer i j == peer i k) ≡ false
peer-one i k j differ = elim (cases_Bool (nat_lt j i)) [
  | inl jl ↦ elim (cases_Bool (nat_lt k i)) [
    | inl kl ↦ rw (jl, kl) (grind (arith, nat_tests))
    | inr kl ↦ rw (jl, kl) (grind (arith, nat_tests))
  ]
  | inr jl ↦ elim (cases_Bool (nat_lt k i)) [
    | inl kl ↦ rw (jl, kl) (grind (arith, nat_tests))
    | inr kl ↦ rw (jl, kl) (grind (arith, nat_tests))
  ]
]

same-one : (n : ℕ) → (n == n) ≡ true
same-one n = grind (arith, nat_tests)

bulk-stands : (b : Bool) (r s : Answer) → is_standing r ≡ true → is_standing s ≡ true → is_standing (if b then r else s) ≡ true
bulk-stands true r s hr hs = hr
bulk-stands false r s hr hs = hs

message-stands : (d : Deployed) (i j k : ℕ) (s : SiteState) (b : Body) (given : SiteInput) → input_from j b ≡ Some given → is_standing (site_answer d i s (input_of given)) ≡ true
unfolding site_answer
message-stands d i j k s (body.Label l) given e = absurd (cc (e))
message-stands d i j k s (body.Payload gear number payload) given e =
    let is : input.Bulk j gear number payload ≡ given = cc (e) in
    subst (λ (g : SiteInput). is_standing (site_answer d i s (input_of g)) ≡ true) is (bulk-stands (has ◌==◌ (s.proxy.taken j gear) number) ans.Again (ans.Brought payload.label) refl refl)
message-stands d i j k s (body.Beat number beat) given e =
    let is : input.BeatIn j number beat ≡ given = cc (e) in
    subst (λ (g : SiteInput). is_standing (site_answer d i s (input_of g)) ≡ true) is (go (best_of d s j)) where
      go : (o : Option (ℕ × BeatNote)) → is_standing (elim o [ None ↦ if has ◌==◌ (numbers_of s j) number then ans.Again else ans.Taken | Some b ↦ if nat_le number b.0 then ans.Old else (if has ◌==◌ (numbers_of s j) number then ans.Again else ans.Taken) ]) ≡ true
      go None = bulk-stands (has ◌==◌ (numbers_of s j) number) ans.Again ans.Taken refl refl
      go (Some b) = bulk-stands (nat_le number b.0) ans.Old (if has ◌==◌ (numbers_of s j) number then ans.Again else ans.Taken) refl (bulk-stands (has ◌==◌ (numbers_of s j) number) ans.Again ans.Taken refl refl)

taken-here : (j k : ℕ) (b : Body) (given : SiteInput) (a : SiteAnswer) → input_from j b ≡ Some given → taken_on j k given a ≡ Some b
taken-here j k (body.Label l) given a e = absurd (cc (e))
taken-here j k (body.Payload gear number payload) given a e =
    let is : input.Bulk j gear number payload ≡ given = cc (e) in
    subst (λ (g : SiteInput). taken_on j k g a ≡ Some (body.Payload gear number payload)) is (ap (λ (b : Bool). some_if b (body.Payload gear number payload)) (same-one j))
taken-here j k (body.Beat number beat) given a e =
    let is : input.BeatIn j number beat ≡ given = cc (e) in
    subst (λ (g : SiteInput). taken_on j k g a ≡ Some (body.Beat number beat)) is (ap (λ (b : Bool). some_if b (body.Beat number beat)) (same-one j))

taken-away : (j i k : ℕ) (b : Body) (given : SiteInput) (a : SiteAnswer) → (j == i) ≡ false → input_from j b ≡ Some given → taken_on i k given a ≡ None
taken-away j i k (body.Label l) given a other e = absurd (cc (e))
taken-away j i k (body.Payload gear number payload) given a other e =
    let is : input.Bulk j gear number payload ≡ given = cc (e) in
    subst (λ (g : SiteInput). taken_on i k g a ≡ None) is (ap (λ (b : Bool). some_if b (body.Payload gear number payload)) other)
taken-away j i k (body.Beat number beat) given a other e =
    let is : input.BeatIn j number beat ≡ given = cc (e) in
    subst (λ (g : SiteInput). taken_on i k g a ≡ None) is (ap (λ (b : Bool). some_if b (body.Beat number beat)) other)

-- a message takes itself from its own link
pub message_of : (d : Deployed) (name : NodeName) (x : SiteSeen) (entries : List SiteKept) (number room : ℕ) (k : ℕ) (b : Body) (act : ActSeen) → Stands d name x (replay (site_meaning d) name entries)
    → input_from (peer (number_of name) k) b ≡ Some act.input → IsOf (site_meaning d) (record { name = name; machine = x; entries = entries; number = number; room = room }) k b act
message_of d (named.Serializer e z) x entries number room k b act st is = absurd st
message_of d (named.Gear e z) x entries number room k b act st is = absurd st
message_of d (named.Site i) x entries number room k b act st is = record {
  stands = λ a h. ap is_standing h.answer ∙ message-stands d i (peer i k) k (replay (site_meaning d) (named.Site i) entries) b act.input is;
  takes = λ a h. taken-here (peer i k) k b act.input a is;
  others = λ a j h differ. taken-away (peer i k) (peer i j) j b act.input a (peer-one i j k differ) is;
}
