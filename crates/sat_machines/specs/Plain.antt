-- Answers that are copied without memory, and inputs that have such answers.
use Rattle.std.specs.Prelude.{◌≡◌, Bool, true, false, Option}
use Rattle.sat_beat.specs.declared.Beat.{Beat}
use Rattle.sat_site.specs.declared.output.SiteOutput.{SiteOutput}
use Rattle.sat_site.specs.Seen.{SiteSeen}
use Rattle.sat_site.specs.SiteSteps.{site_answers, site_beat, site_epoch, site_sends}
use Rattle.sat_act.specs.declared.answer.Answer.{Answer}
use Rattle.sat_act.specs.declared.answer.Answer.TheVariants as ans
use Rattle.sat_site.specs.declared.input.SiteInput.{SiteInput}
use Rattle.sat_site.specs.declared.input.SiteInput.TheVariants as input

-- an answer that holds no list
abbrev pub is_plain : Answer → Bool
is_plain (ans.ReadSome l value) = false
is_plain (ans.Hopped l to) = false
is_plain _ = true

-- an input with a plain answer, which makes no beat
abbrev pub is_spare : SiteInput → Bool
is_spare (input.Read seen n) = false
is_spare (input.Beat j) = false
is_spare _ = true

-- what a step gives, and copies of its answer and of its beat
pub record IsTwice (x : SiteSeen) (given : SiteInput) (out : SiteOutput) (copy : Answer)
    (beat_copy : Option Beat) : Type 0 where
  pub answers : out.answer ≡ site_answers x given
  pub sends : out.sent ≡ site_sends x given
  pub epoch : out.epoch ≡ site_epoch x given
  pub beat : out.beat ≡ site_beat x given
  pub same : copy ≡ out.answer
  pub again : beat_copy ≡ out.beat
