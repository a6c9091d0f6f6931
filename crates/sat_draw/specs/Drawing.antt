-- The whole drawing.
use Rattle.std.specs.Prelude.{ℕ, ◌+◌, List, ◌∷◌, ◌++◌, length, codes}
use Rattle.std.specs.Fmt.{decimal}
use Rattle.sat_act.specs.declared.entry.Entry.{Entry}
use Rattle.sat_act.specs.Deployed.{Deployed}
use Rattle.sat_draw.specs.declared.element.Element.{Element}
use Rattle.sat_draw.specs.declared.geometry.TheConstants.{RIGHT, NAMES}
use Rattle.sat_draw.specs.Columns.{answers_x, row_y}
use Rattle.sat_draw.specs.Elements.{spelled}
use Rattle.sat_draw.specs.Rows.{ways, marks}
use Rattle.sat_draw.specs.Lost.{crosses}
use Rattle.sat_draw.specs.Rests.{rests}
use Rattle.sat_draw.specs.declared.moved.Moved.{Moved}
use Rattle.sat_draw.specs.Moved.{smalls, hauls}
use Rattle.sat_draw.specs.Head.{caption, head}
use Rattle.sat_draw.specs.Legend.{legend}

-- all lines of the rows
abbrev pub lines : Deployed → List Entry → List Element
lines d h = ways d h ++ (crosses d h ++ rests d h)

-- the elements of a history's drawing, in order: the marks and their words stand in front of all lines
unfoldable pub elements : Deployed → List Entry → List Element
unfolding head ways crosses rests marks
elements d h = head d (length h) ++ (lines d h ++ marks d h)

-- how wide and how high it is
abbrev pub width_of : Deployed → ℕ
width_of d = answers_x d + RIGHT

abbrev pub height_of : Deployed → ℕ → ℕ
height_of d count = row_y d count + NAMES

-- the first line begins with them
abbrev pub opening : ℕ → ℕ → List ℕ
opening width height =
    codes "<svg xmlns='http://www.w3.org/2000/svg' viewBox='0 0 " ++ (decimal width ++ (32 ∷ (decimal height
    ++ (codes "' width='" ++ (decimal width ++ (codes "' height='" ++ (decimal height ++ codes "' ")))))))

-- its rest, and the title
abbrev pub title_text : Deployed → ℕ → List ℕ
title_text d count =
    codes "role='img' aria-labelledby='t'>\n<title id='t'>" ++ (caption d count ++ codes "</title>\n")

abbrev pub start : Deployed → ℕ → List ℕ
start d count = opening (width_of d) (height_of d count) ++ title_text d count

-- the text of the drawing of a history, and of what its settles moved, behind all else: an SVG
unfoldable pub drawing : Deployed → List Entry → List Moved → List ℕ
unfolding elements legend caption hauls
drawing d h ms =
    start d (length h) ++ (legend ++ (spelled (smalls d ms) ++ (spelled (elements d h) ++ codes "</svg>\n")))
