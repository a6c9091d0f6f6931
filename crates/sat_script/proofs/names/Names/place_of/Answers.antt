use Rattle.std.proofs.Common.{◌∙◌}
use Rattle.sat_script.proofs.Lookup.{key_place}
use Rattle.sat_script.proofs.names.Names.place_of.Goals as goal

pub returns-clause-place : goal.returns-clause-place
returns-clause-place c = rw (← c.self.view_is) (c.get_index_of.ensures.index ∙ key_place c.self.inside.set.keys c.args.name.now)
