use Rattle.std.proofs.Common.{◌*◌, ◌+◌, ◌∙◌, length, refl, slice_get, sym}
use Rattle.std.proofs.lemmas.Option.{slice_get_read}
use Rattle.sat_label.specs.declared.node.NodeName.TheVariants as named
use Rattle.sat_opened.specs.Opened.{entries_at}
use Rattle.sat_finish.proofs.Marked.{handed_marks_as, written_marks_as}
use Rattle.sat_finish.proofs.walk.at_gear.Goals as goal

pub of_gear-requires-clause-written : goal.of_gear-requires-clause-written
of_gear-requires-clause-written g c =
    written_marks_as c.in_ok-other.other.now.node.entries (entries_at (named.Gear c.args.site c.args.home) c.args.gears.now) c.as_slice.result.now c.in-Some.written.now.items
    (sym (c.requires.names.gear (c.args.site * c.gears.result + c.args.home) c.args.site c.args.home c.in_ok-other.other.now c.in_ok-other.ensures.there c.in_ok-other.ensures.name))
    c.as_slice.ensures.value
    (c.requires.marks.at_gears c.args.home c.in-Some.written.now ((λ t. slice_get (sym c.deref.ensures.value t) (sym c.from.ensures t)) ∙ slice_get_read c.deref.result.now (length c.deref.result.now) c.from.result c.in-Some.written.now refl c.in-Some.ensures.lookup.3.0 c.in-Some.ensures.lookup.1))

pub of_gear-requires-clause-handed : goal.of_gear-requires-clause-handed
of_gear-requires-clause-handed g c =
    handed_marks_as c.in_ok-own.own.now.node.entries (entries_at (named.Gear c.args.site c.args.gear) c.args.gears.now) c.args.handed.now c.args.handed.now
    (sym (c.requires.names.gear (c.args.site * c.gears-2.result + c.args.gear) c.args.site c.args.gear c.in_ok-own.own.now c.in_ok-own.ensures.there c.in_ok-own.ensures.name))
    refl c.requires.handed
