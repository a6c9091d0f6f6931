-- A site as a machine whose inputs can be journalled.
use Rattle.std.specs.Prelude.{ℕ, ◌&&◌}
use Rattle.sat_act.specs.Deployed.{Deployed}
use Rattle.sat_bodies.specs.Bodies.{body_of, input_of, input_allows}
use Rattle.sat_durable.specs.Machine.{Meaning}
use Rattle.sat_site.specs.declared.input.SiteInput.{SiteInput}
use Rattle.sat_site.specs.declared.output.SiteOutput.{SiteOutput}
use Rattle.sat_site.specs.Changes.{new_site}
use Rattle.sat_site.specs.Inputs.{fits_in}
use Rattle.sat_site.specs.Seen.{SiteSeen}
use Rattle.sat_site.specs.SiteSteps.{site_after, site_answers, site_beat, site_epoch, site_sends}
use Rattle.sat_lasting.specs.declared.kept_site.KeptSite.{KeptSite}

-- its site
abbrev pub site_of : KeptSite → SiteSeen
site_of kept = kept.site

-- at which nothing has happened
abbrev pub fresh_kept : Deployed → ℕ → KeptSite
fresh_kept d i = record { site = new_site d i }

-- It does what the site does with an input that fits, and writes an input as its body. An input that fits a site of a
-- deployment has a body (`kept_sites`).
abbrev pub site_meaning : Meaning KeptSite SiteInput SiteOutput
site_meaning = record {
  body = body_of;
  input_of = input_of;
  fits = λ kept given. fits_in kept.site given && input_allows given;
  after = λ kept given. record { site = site_after kept.site given };
  output =
      λ kept given.
      record {
        answer = site_answers kept.site given;
        sent = site_sends kept.site given;
        epoch = site_epoch kept.site given;
        beat = site_beat kept.site given;
      };
}
