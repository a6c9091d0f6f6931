-- What a site does is what the definitions say of what it kept and of what it was handed.
use Rattle.std.specs.Prelude.{◌≡◌, ℕ, Bool, true, List, slice_get, Option, refl}
use Rattle.std.proofs.Common.{ap, sym, ◌∙◌}
use Rattle.sat_label.specs.declared.carried.Carried.{Carried}
use Rattle.sat_label.specs.declared.items.Items.{Items}
use Rattle.sat_label.specs.declared.label.Kind.TheVariants.{Update}
use Rattle.sat_gear.specs.Gear.{GearSeen, stamped}
use Rattle.sat_act.specs.declared.answer.Answer.{Answer}
use Rattle.sat_site.specs.declared.input.SiteInput as code
use Rattle.sat_site.specs.declared.input.SiteInput.TheVariants as input
use Rattle.sat_site.specs.Seen.{SiteSeen}
use Rattle.sat_site.specs.Changes.{gear_at, gear_for}
use Rattle.sat_site.specs.SiteSteps.{site_answers, site_after, tick_answer, tick_after, stamp_answer_of, stamp_after_of, write_answer, write_after, version_answer, read_answer, emit_answer, emit_after}
use Rattle.sat_site.specs.Does.{Does, ticks, writing, reading, gathers, idles, emits, Writes, write_not_here, spends, writes, Reads, read_not_here, reads_none, reads}

-- ---- each input

-- what was done is what the definitions say
pub record Determined (x : SiteSeen) (given : code.SiteInput) (r : Answer) (y : SiteSeen) : Type 0 where
  pub answer : r ≡ site_answers x given
  pub after : y ≡ site_after x given

by-write : (x : SiteSeen) (seen : Carried) (items : Items) (values : List (List ℕ)) (r : Answer) (y : SiteSeen) → Writes x seen items values r y → Determined x (input.Write seen items values) r y
unfolding site_answers site_after
by-write x seen items values r y (write_not_here e) = record {
  answer = ap (λ (b : Bool). write_answer b (slice_get x.gears (gear_for x items)) seen.point items) (sym e);
  after = ap (λ (b : Bool). write_after x b (slice_get x.gears (gear_for x items)) seen.point items values) (sym e);
}
by-write x seen items values r y (spends gear e at f) = record {
  answer = ap (λ (b : Bool). stamp_answer_of b (stamped gear seen.point (Update items))) (sym f) ∙
      (ap (λ (o : Option GearSeen). write_answer true o seen.point items) (sym at) ∙ ap (λ (b : Bool). write_answer b (slice_get x.gears (gear_for x items)) seen.point items) (sym e));
  after = ap (λ (b : Bool). stamp_after_of x b gear seen.point items values) (sym f) ∙
      (ap (λ (o : Option GearSeen). write_after x true o seen.point items values) (sym at) ∙ ap (λ (b : Bool). write_after x b (slice_get x.gears (gear_for x items)) seen.point items values) (sym e));
}
by-write x seen items values r y (writes gear e at good f) = record {
  answer = ap (λ (b : Bool). stamp_answer_of b (stamped gear seen.point (Update items))) (sym f) ∙
      (ap (λ (o : Option GearSeen). write_answer true o seen.point items) (sym at) ∙ ap (λ (b : Bool). write_answer b (slice_get x.gears (gear_for x items)) seen.point items) (sym e));
  after = ap (λ (b : Bool). stamp_after_of x b gear seen.point items values) (sym f) ∙
      (ap (λ (o : Option GearSeen). write_after x true o seen.point items values) (sym at) ∙ ap (λ (b : Bool). write_after x b (slice_get x.gears (gear_for x items)) seen.point items values) (sym e));
}

by-read : (x : SiteSeen) (seen : Carried) (n : ℕ) (r : Answer) → Reads x n r → Determined x (input.Read seen n) r x
unfolding site_answers site_after
by-read x seen n r (read_not_here e) = record {
  answer = ap (λ (b : Bool). read_answer b (slice_get x.gears (gear_at x n)) n) (sym e);
  after = refl;
}
by-read x seen n r (reads_none gear e at f) = record {
  answer = ap version_answer (sym f) ∙ (ap (λ (o : Option GearSeen). read_answer true o n) (sym at) ∙ ap (λ (b : Bool). read_answer b (slice_get x.gears (gear_at x n)) n) (sym e));
  after = refl;
}
by-read x seen n r (reads gear v e at f) = record {
  answer = ap version_answer (sym f) ∙ (ap (λ (o : Option GearSeen). read_answer true o n) (sym at) ∙ ap (λ (b : Bool). read_answer b (slice_get x.gears (gear_at x n)) n) (sym e));
  after = refl;
}

pub determined : (x : SiteSeen) (given : code.SiteInput) (r : Answer) (y : SiteSeen) → Does x given r y → Determined x given r y
unfolding site_answers site_after
determined x g r y (ticks {g = n} {t = t} gear at) = record {
  answer = ap (λ (o : Option GearSeen). tick_answer o t) (sym at);
  after = ap (tick_after x n t) (sym at);
}
determined x g r y (writing {seen = seen} {items = items} {values = values} w) = by-write x seen items values r y w
determined x g r y (reading {seen = seen} {n = n} w) = by-read x seen n r w
determined x g r y gathers = record { answer = refl; after = refl }
determined x g r y (idles e) = record { answer = ap emit_answer (sym e); after = ap (emit_after x) (sym e) }
determined x g r y (emits {l = l} e) = record { answer = ap emit_answer (sym e); after = ap (emit_after x) (sym e) }
