use Rattle.std.proofs.Common.{◌≡◌, ◌∙◌, true, drop, is_err, is_ok, rules, sym}
use Rattle.sat_durable.proofs.Growing.{short_body, told_appended, told_failed}
use Rattle.sat_durable.proofs.Stepping.{left_step, settled_more}
use Rattle.sat_durable.proofs.appending.Journal.append.Goals as goal

pub returns-in-Err-add-clause-any_moment : goal.returns-in-Err-add-clause-any_moment
returns-in-Err-add-clause-any_moment g c =
    let body = drop 5 c.args.buffer.now.items in
    let short = short_body c.args.buffer.now.items c.requires.head c.requires.short in
    left_step (g.D.Disk.state c.args.self.now.disk) (g.D.Disk.state c.room.new.self) c.args.self.now.size (c.args.self.now.settled c.requires.whole) c.room.ensures.rests (g.met.D.Disk.only_now c.args.self.now.disk) body (g.D.Disk.state c.add.new.disk)
    (c.add.ensures.any_moment body short (c.deref.ensures.value ∙ c.in_default.ensures))

pub returns-in-Err-add-clause-cut : goal.returns-in-Err-add-clause-cut
returns-in-Err-add-clause-cut g c disk =
    let body = drop 5 c.args.buffer.now.items in
    let short = short_body c.args.buffer.now.items c.requires.head c.requires.short in
    let failed : is_err c.add.result ≡ true = search rules in
    told_failed (g.D.Disk.state c.args.self.now.disk) (g.D.Disk.state c.room.new.self) (g.D.Disk.state c.add.new.disk) c.add.result body c.room.ensures.rests.content c.room.ensures.tells
    (c.add.ensures.told body short (c.deref.ensures.value ∙ c.in_default.ensures)) failed

pub invariant_of-self-2 : goal.invariant_of-self-2
invariant_of-self-2 g c =
    let body = drop 5 c.args.buffer.now.items in
    let short = short_body c.args.buffer.now.items c.requires.head c.requires.short in
    let is = c.deref.ensures.value ∙ c.in_default.ensures in
    record {
      settled = λ whole. settled_more (g.D.Disk.state c.args.self.now.disk) (g.D.Disk.state c.room.new.self) c.args.self.now.size (c.args.self.now.settled whole) c.room.ensures.rests c.deref.result.now body
          (g.D.Disk.state c.add.new.disk) c.len.result (c.len.ensures ∙ sym c.deref.ensures.len) is (c.in_default-add.ensures.added body short is) c.in_default-add.ensures.synced;
    }

pub returns-clause-any_moment : goal.returns-clause-any_moment
returns-clause-any_moment g c =
    let body = drop 5 c.args.buffer.now.items in
    let short = short_body c.args.buffer.now.items c.requires.head c.requires.short in
    left_step (g.D.Disk.state c.args.self.now.disk) (g.D.Disk.state c.room.new.self) c.args.self.now.size (c.args.self.now.settled c.requires.whole) c.room.ensures.rests (g.met.D.Disk.only_now c.args.self.now.disk) body (g.D.Disk.state c.add.new.disk)
    (c.add.ensures.any_moment body short (c.deref.ensures.value ∙ c.in_default.ensures))

pub returns-clause-told : goal.returns-clause-told
returns-clause-told g c =
    let body = drop 5 c.args.buffer.now.items in
    let short = short_body c.args.buffer.now.items c.requires.head c.requires.short in
    let done : is_ok c.add.result ≡ true = search rules in
    told_appended (g.D.Disk.state c.args.self.now.disk) (g.D.Disk.state c.room.new.self) (g.D.Disk.state c.add.new.disk) c.add.result body c.room.ensures.rests.content c.room.ensures.tells
    (c.add.ensures.told body short (c.deref.ensures.value ∙ c.in_default.ensures)) done
