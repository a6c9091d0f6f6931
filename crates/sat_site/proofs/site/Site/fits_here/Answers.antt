use Rattle.std.proofs.Common.{Option, sym, ap, ◌∙◌}
use Rattle.sat_label.specs.declared.label.Label.{Label}
use Rattle.sat_site.specs.declared.input.SiteInput.TheVariants as input
use Rattle.sat_site.specs.Inputs.{fits_here}
use Rattle.sat_site.specs.Seen.{SiteSeen}
use Rattle.sat_site.proofs.Asked.{asks-attach, asks-beat, asks-beat-in, asks-bulk, asks-move, asks-read, asks-tick, asks-turn, asks-write}
use Rattle.sat_site.proofs.site.Site.fits_here.Goals as goal

pub returns-in-Tick : goal.returns-in-Tick
returns-in-Tick c = asks-tick _ _ _ _ _ _ (c.shape-shape.ensures.shape ∙ ap (λ (x : SiteSeen). x.shape) c.self.view_is) c.in-Tick.is c.is_tick.ensures

pub returns-in-Write : goal.returns-in-Write
returns-in-Write c = asks-write _ _ _ _ _ _ _ (c.shape-shape.ensures.shape ∙ ap (λ (x : SiteSeen). x.shape) c.self.view_is) c.in-Write.is c.is_write.ensures

pub returns-in-Read : goal.returns-in-Read
returns-in-Read c = asks-read _ _ _ _ _ _ (c.shape-shape.ensures.shape ∙ ap (λ (x : SiteSeen). x.shape) c.self.view_is) c.in-Read.is c.is_read.ensures

pub returns-in-Move : goal.returns-in-Move
returns-in-Move c = asks-move _ _ _ _ _ _ (c.shape-shape.ensures.shape ∙ ap (λ (x : SiteSeen). x.shape) c.self.view_is) c.in-Move.is c.is_move.ensures

pub returns-in-Attach : goal.returns-in-Attach
returns-in-Attach c = asks-attach _ _ _ _ _ (c.shape-shape.ensures.shape ∙ ap (λ (x : SiteSeen). x.shape) c.self.view_is) c.in-Attach.is c.is_carried.ensures

pub returns-in-Beat : goal.returns-in-Beat
returns-in-Beat c = asks-beat _ _ _ _ _ (c.shape-shape.ensures.shape ∙ ap (λ (x : SiteSeen). x.shape) c.self.view_is) c.in-Beat.is c.is_other.ensures

pub returns-in-None : goal.returns-in-None
unfolding fits_here
returns-in-None c = ap (λ (o : Option Label). fits_here c.args.self.now (input.Turn o)) (sym c.in-None.is) ∙ ap (fits_here c.args.self.now) (sym c.in-Turn.is)

pub returns-in-Some : goal.returns-in-Some
returns-in-Some c = asks-turn _ _ _ _ _ c.self.view_is (c.in-Turn.is ∙ ap input.Turn c.in-Some.is) c.is_front.ensures

pub returns-in-Bulk : goal.returns-in-Bulk
returns-in-Bulk c = asks-bulk _ _ _ _ _ _ _ _ c.self.view_is c.in-Bulk.is c.is_bulk.ensures

pub returns-in-BeatIn : goal.returns-in-BeatIn
returns-in-BeatIn c = asks-beat-in _ _ _ _ _ _ _ c.self.view_is c.in-BeatIn.is c.is_beat.ensures

pub returns-in-Gather : goal.returns-in-Gather
unfolding fits_here
returns-in-Gather c = ap (fits_here c.args.self.now) (sym c.in-Gather.is)

pub returns-in-Emit : goal.returns-in-Emit
unfolding fits_here
returns-in-Emit c = ap (fits_here c.args.self.now) (sym c.in-Emit.is)

pub returns-in-Pulse : goal.returns-in-Pulse
unfolding fits_here
returns-in-Pulse c = ap (fits_here c.args.self.now) (sym c.in-Pulse.is)

pub returns-in-Stamp : goal.returns-in-Stamp
unfolding fits_here
returns-in-Stamp c = ap (fits_here c.args.self.now) (sym c.in-Stamp.is)

pub returns-in-Close : goal.returns-in-Close
unfolding fits_here
returns-in-Close c = ap (fits_here c.args.self.now) (sym c.in-Close.is)

pub returns-in-Fall : goal.returns-in-Fall
unfolding fits_here
returns-in-Fall c = ap (fits_here c.args.self.now) (sym c.in-Fall.is)

pub returns-in-Advance : goal.returns-in-Advance
unfolding fits_here
returns-in-Advance c = ap (fits_here c.args.self.now) (sym c.in-Advance.is)
