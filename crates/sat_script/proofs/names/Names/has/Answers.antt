use Rattle.std.proofs.Common.{◌∙◌}
use Rattle.sat_script.proofs.Lookup.{key_any}
use Rattle.sat_script.proofs.names.Names.has.Goals as goal

pub returns : goal.returns
returns c = rw (← c.self.view_is) (c.contains.ensures ∙ key_any c.self.inside.set.keys c.args.name.now)
