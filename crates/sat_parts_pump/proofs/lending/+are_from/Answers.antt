use Rattle.std.proofs.Common.{◌≡◌, ◌&&◌, ◌-◌, ◌+◌, ◌<◌, Bool, map, ap, sym, ◌∙◌, arith}
use Rattle.std.specs.Sync.Mutex.{mutex_guard_value}
use Rattle.sat_label.specs.declared.node.NodeName.{NodeName}
use Rattle.sat_label.specs.declared.node.NodeName.TheVariants as named
use Rattle.sat_label.specs.Order.{name_eq}
use Rattle.sat_node.specs.Together.{lent}
use Rattle.sat_parts_passes.specs.Gathers.{GearHeld}
use Rattle.sat_parts_pump.specs.Lent.{lends, name_of}
use Rattle.sat_parts_pump.proofs.Needed.{names_next, names_short, no_names}
use Rattle.sat_parts_pump.proofs.lending.+are_from.Goals as goal

pub returns-in-None-split_first : goal.returns-in-None-split_first
returns-in-None-split_first g t c =
    let less : c.args.from < c.args.shape.now.gears = (let f = c.if-from-shape.false in omega arith) in
    names_short (lends c.args.shape.now c.args.lent.now) c.args.shape.now.site c.args.shape.now.gears c.args.from (map name_of (lent c.args.gears.now)) less (sym c.is_one.ensures ∙ c.if-not-is_one.false)
    (no_names c.args.gears.now c.in-None-split_first.ensures.cases)

pub returns-then-is_same : goal.returns-then-is_same
returns-then-is_same g t c =
    let less : c.args.from < c.args.shape.now.gears = (let f = c.if-from-shape.false in omega arith) in
    let first : GearHeld = mutex_guard_value c.in-Some-split_first.first.now in
    let same : c.name.result ≡ first.node.name = c.name.ensures ∙ (ap (λ z. z.name) c.node.ensures.node ∙ ap (λ (h : GearHeld). h.node.name) c.deref.ensures) in
    let here : c.is_same.result ≡ name_eq first.node.name (named.Gear c.args.shape.now.site c.args.from) = c.is_same.ensures ∙ ap (λ (m : NodeName). name_eq m (named.Gear c.args.shape.now.site c.args.from)) same in
    sym (ap (λ (b : Bool). b && c.are_from-then-is_same.result) c.if-is_same.true)
    ∙ names_next (lends c.args.shape.now c.args.lent.now) c.args.shape.now.site c.args.shape.now.gears c.args.from (map name_of (lent c.args.gears.now)) (map name_of (lent c.in-Some-split_first.rest.now)) first.node.name c.is_same.result
    c.are_from-then-is_same.result less (sym c.is_one.ensures ∙ c.if-not-is_one.false) (ap (λ gs. map name_of (lent gs)) c.in-Some-split_first.ensures.cases.0) here c.are_from-then-is_same.ensures
