use Rattle.sat_site.proofs.Taken.{taken-one, taken-two, taken-three, taken-four}
use Rattle.sat_site.proofs.site.Site.show.Goals as goal

pub returns-in-One : goal.returns-in-One
returns-in-One c = taken-one _ _ _ _ c.args.parts _ c.in-One.is c.requires.parts c.take.ensures.part c.show_part.ensures

pub returns-in-Two : goal.returns-in-Two
returns-in-Two c = taken-two _ _ _ _ _ _ c.args.parts _ _ _ c.in-Two.is c.requires.parts c.take-in-Two.ensures.part c.take-in-Two.ensures.new c.take-in-Two-2.ensures.part c.show_part-in-Two.ensures c.show_part-in-Two-2.ensures

pub returns-in-Three : goal.returns-in-Three
returns-in-Three c =
    taken-three _ _ _ _ _ _ _ _ c.args.parts _ _ _ _ _ c.in-Three.is c.requires.parts c.take-in-Three.ensures.part c.take-in-Three.ensures.new c.take-in-Three-2.ensures.part c.take-in-Three-2.ensures.new c.take-in-Three-3.ensures.part
    c.show_part-in-Three.ensures c.show_part-in-Three-2.ensures c.show_part-in-Three-3.ensures

pub returns : goal.returns
returns c =
    taken-four _ _ _ _ _ _ _ _ _ _ c.args.parts _ _ _ _ _ _ _ c.in-Four.is c.requires.parts c.take-in-Four.ensures.part c.take-in-Four.ensures.new c.take-in-Four-2.ensures.part c.take-in-Four-2.ensures.new c.take-in-Four-3.ensures.part c.take-in-Four-3.ensures.new c.take-in-Four-4.ensures.part
    c.show_part-in-Four.ensures c.show_part-in-Four-2.ensures c.show_part-in-Four-3.ensures c.show_part-in-Four-4.ensures
