use Rattle.sat_script.proofs.Fits.{fit_after, suits_after}
use Rattle.sat_script.proofs.reader.Reader.line.Goals as goal

pub keep-requires : goal.keep-requires
keep-requires c =
    let says = rw (← c.self.view_is) at c.in-Ok.ensures in record {
      fits = fit_after c.self.inside.place c.args.bytes.now c.in-Ok.parsed c.self.invariant says;
      suits = suits_after c.self.inside.place c.args.bytes.now c.in-Ok.parsed c.self.invariant says;
    }
