use Rattle.std.proofs.Common.{ℕ, Bool, List, ◌++◌, ap, ◌∙◌}
use Rattle.std.specs.Prelude.{Option, unwrap_or}
use Rattle.std.specs.BTreeMap.{get}
use Rattle.std.specs.Ordering.{nat_cmp}
use Rattle.sat_draw.specs.declared.element.Spot.{Spot}
use Rattle.sat_draw.specs.declared.trail.Trail.{Trail}
use Rattle.sat_draw.specs.declared.trail.Coming.{Coming}
use Rattle.sat_draw.specs.Trails.{left_by, after_change}
use Rattle.sat_draw.specs.Rows.{after_leaving}
use Rattle.sat_draw.specs.Lost.{is_settled, after_taking, sendings_at}
use Rattle.sat_draw.specs.Tracks.{spot_by}
use Rattle.sat_draw.proofs.tracks.Tracks.follow.Goals as goal

pub returns : goal.returns
returns c =
    record {
      seats = λ first k. c.in_ok-reseat.ensures first k
          ∙ ap (λ (o : Option (ℕ × Option ℕ)). after_change o (unwrap_or (get nat_cmp c.args.self.now.seats k) first) k) c.reseated.ensures;
      spots = λ t. c.in_ok-leave-2.ensures t
          ∙ ap (λ (ts : List Trail). after_leaving ts c.args.here (spot_by c.args.self.now.spots t) t) (c.as_slice-4.ensures.value ∙ c.in_ok-trails.ensures);
      under_way = λ t. c.in_ok-leave.ensures t
          ∙ (ap (λ (ts : List Trail). after_leaving ts c.args.here (spot_by c.end_ways.new.under_way t) t) (c.as_slice-2.ensures.value ∙ c.in_ok-trails.ensures)
          ∙ ap (λ (o : Option Spot). after_leaving (left_by c.args.entry.now.act c.args.entry.now.answer) c.args.here o t)
          (c.end_ways.ensures t
          ∙ (ap (λ (b : Bool). after_taking b c.as_slice.result.now (spot_by c.args.self.now.under_way t) t) c.is_settled-settled.ensures
          ∙ ap (λ (cs : List Coming). after_taking (is_settled c.args.entry.now.answer) cs (spot_by c.args.self.now.under_way t) t) (c.as_slice.ensures.value ∙ c.in_ok-coming.ensures))));
      sendings_are = c.in_ok-push_sendings.ensures
          ∙ ap (λ (ts : List Trail). c.args.self.now.sendings.items ++ sendings_at c.args.here ts) (c.as_slice-3.ensures.value ∙ c.in_ok-trails.ensures);
    }
