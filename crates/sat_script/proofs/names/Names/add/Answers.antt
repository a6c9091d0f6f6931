use Rattle.std.proofs.Common.{rules, ◌≡◌}
use Rattle.sat_script.proofs.Lookup.{key_pushed}
use Rattle.sat_script.proofs.names.Names.add.Goals as goal

pub returns-clause-ok : goal.returns-clause-ok
returns-clause-ok c =
    let new = rw (← c.self.view_is) at c.requires in
    let is : c.in_ok-name.name.items ≡ c.args.name.now = search rules in
    rw (← c.self.view_is) (key_pushed c.self.inside.set.keys c.insert.new.self.keys c.in_ok-name.name c.args.name.now is new (c.in_ok-insert.ensures.keys))
