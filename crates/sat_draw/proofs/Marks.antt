-- Each act is drawn once.
use Rattle.std.proofs.Common.{◌≡◌, ℕ, zero, suc, ◌+◌, ◌-◌, Bool, true, false, List, [], ◌∷◌, ◌++◌, ◌*◌, length, codes, refl, ap, ◌∙◌}
use Rattle.std.specs.Prelude.{filter, Option, Some, None, if◌then◌else◌}
use Rattle.std.proofs.lemmas.List.{append-nil}
use Rattle.std.proofs.lemmas.List.Elements.{filter-append}
use Rattle.sat_label.specs.Members.{In}
use Rattle.sat_label.proofs.Members.{into-filter}
use Rattle.sat_label.specs.declared.node.NodeId.TheVariants.{Site, Serializer}
use Rattle.sat_label.specs.Text.{node_text}
use Rattle.sat_tree.specs.Shape.{TreeShape}
use Rattle.sat_tree.specs.Cut.{parent_of, seat_of}
use Rattle.sat_act.specs.declared.deployment.Plan.{Plan}
use Rattle.sat_act.specs.declared.deployment.Plan.TheVariants as plan
use Rattle.sat_act.specs.declared.entry.Entry.{Entry}
use Rattle.sat_act.specs.declared.act.Act.{Act}
use Rattle.sat_act.specs.declared.answer.Answer.{Answer}
use Rattle.sat_act.specs.Deployed.{Deployed}
use Rattle.sat_act.specs.Histories.{listed}
use Rattle.sat_act.specs.Parts.{seat}
use Rattle.sat_act.specs.Settling.{is_done}
use Rattle.sat_draw.specs.declared.element.Ink.{Ink}
use Rattle.sat_draw.specs.declared.element.Ink.TheVariants as ink
use Rattle.sat_draw.specs.declared.element.Spot.{Spot}
use Rattle.sat_draw.specs.declared.element.Element.{Element}
use Rattle.sat_draw.specs.declared.element.Element.TheVariants.{Line, Way, Lost, Rest, Glow, Dot, Word}
use Rattle.sat_draw.specs.declared.trail.Trail.{Trail}
use Rattle.sat_draw.specs.declared.trail.Coming.{Coming}
use Rattle.sat_draw.specs.declared.geometry.TheConstants.{TREES, NAMES_APART}
use Rattle.sat_draw.specs.Columns.{columns, column_x, plan_height, site_column, serializer_column, rows_top, row_y}
use Rattle.sat_draw.specs.declared.trail.TheConstants.{SEATED}
use Rattle.sat_draw.specs.Trails.{client_at, closing, viewing, born, comes_from}
use Rattle.sat_draw.specs.Rows.{spot_at, spot_of, last_spot, begin, arrow, arrows, is_across, rule, cross, is_killed, death, glow, signs, mark_of, answer_of, act_of, ways_of, marks_of, ways, marks}
use Rattle.sat_draw.specs.Head.{name_at, names, repeats, lane, names_for, first_clients, site_lane, node, name_above, name_below, column_name, caption, site_lanes, branch, serializer_spot, site_spot, epoch_name, serializer_elements, serializers_elements, seat_elements, seats_elements, tree_elements, plan_elements, plans_elements, head}
use Rattle.sat_draw.specs.declared.lost.Sending.{Sending}
use Rattle.sat_draw.specs.Lost.{lost_spot, sendings, is_spot, lost_way, cross_for, crosses_by, crosses}
use Rattle.sat_draw.specs.Rests.{rest, client_rest, client_rests, site_rest, site_rests, rests}
use Rattle.sat_draw.specs.Drawing.{lines, elements}
use Rattle.sat_draw.specs.Laws.{is_done_mark, is_refused_mark, title_of, done_mark, refused_mark, EachIsDrawnOnce}

-- a test that nothing passes that stands behind the rows
pub record IsOfRows (p : Element → Bool) : Type 0 where
  pub lanes : (a b : Spot) → p (Line ink.Lane a b) ≡ false
  pub edges : (a b : Spot) → p (Line ink.Edge a b) ≡ false
  pub rules : (a b : Spot) → p (Line ink.Rule a b) ≡ false
  pub words : (i : Ink) (a : Spot) (text : List ℕ) → p (Word i a text) ≡ false
  pub nodes : (a : Spot) (text : List ℕ) → p (Dot ink.Node a text) ≡ false
  pub deaths : (a b : Spot) → p (Line ink.Dead a b) ≡ false
  pub glows : (t : Trail) → p (Glow t) ≡ false

-- and no way
pub record IsOfActs (p : Element → Bool) : Type 0 where
  pub rows : IsOfRows p
  pub lines : (i : Ink) (t : Trail) (a b : Spot) → p (Way i t a b) ≡ false
  pub losses : (t : Trail) (a b : Spot) → p (Lost t a b) ≡ false
  pub stays : (i : Ink) (t : Trail) (a b : Spot) → p (Rest i t a b) ≡ false

-- no element of a list passes
pub record Free (p : Element → Bool) (xs : List Element) : Type 0 where
  pub free : filter p xs ≡ []

pub nothing : (p : Element → Bool) → Free p []
nothing p = record { free = refl }

pub skip : (p : Element → Bool) (x : Element) (xs : List Element) → p x ≡ false → Free p xs → Free p (x ∷ xs)
skip p x xs e rest = record { free = ap (λ (b : Bool). if b then x ∷ filter p xs else filter p xs) e ∙ rest.free }

pub both : (p : Element → Bool) (xs ys : List Element) → Free p xs → Free p ys → Free p (xs ++ ys)
both p xs ys one two = record { free = filter-append p xs ys ∙ (ap (λ (zs : List Element). zs ++ filter p ys) one.free ∙ two.free) }

-- so nothing that passes is among them
pub not-free : (p : Element → Bool) (xs : List Element) (x : Element) → Free p xs → p x ≡ true → In xs x → ⊥
not-free p xs x free passes within = elim-nil (filter p xs) x free.free (into-filter p xs x within passes)
  where
    elim-nil : (ys : List Element) (x : Element) → ys ≡ [] → In ys x → ⊥
    elim-nil [] x e within = within
    elim-nil (y ∷ ys) x e within = absurd (cc)

pub some-is : (a b : Spot) → Some a ≡ Some b → a ≡ b
some-is a b e = ap (λ (o : Option Spot). elim o [ None ↦ a | Some s ↦ s ]) e

-- ---- none above the rows

names-free : (p : Element → Bool) → IsOfRows p → (top column : ℕ) (name : List ℕ) (n : ℕ) → Free p (names top column name n)
unfolding names
names-free p is top column name zero = nothing p
names-free p is top column name (suc n) =
    both p (names top column name n) (name_at column (top + (n + 1) * NAMES_APART - 8) name ∷ []) (names-free p is top column name n)
    (skip p (name_at column (top + (n + 1) * NAMES_APART - 8) name) [] (is.words _ _ _) (nothing p))

lane-free : (p : Element → Bool) → IsOfRows p → (top bottom column : ℕ) (name : List ℕ) → Free p (lane top bottom column name)
lane-free p is top bottom column name =
    let line = Line ink.Lane (spot_at (column_x column) (top - 24)) (spot_at (column_x column) bottom) in
    let above = name_at column (top - 30) name in
    let below = name_at column (bottom + 18) name in
    both p (line ∷ above ∷ below ∷ []) (names top column name (repeats top bottom))
    (skip p line (above ∷ below ∷ []) (is.lanes _ _) (skip p above (below ∷ []) (is.words _ _ _) (skip p below [] (is.words _ _ _) (nothing p))))
    (names-free p is top column name (repeats top bottom))

site_lanes-free : (p : Element → Bool) → IsOfRows p → (d : Deployed) (top bottom n : ℕ) → Free p (site_lanes d top bottom n)
unfolding site_lanes
site_lanes-free p is d top bottom zero = nothing p
site_lanes-free p is d top bottom (suc i) =
    let one = lane top bottom (site_column d i) (node_text (Site i)) in
    let who = first_clients top (site_column d i) (names_for d.clients i) in
    both p (site_lanes d top bottom i) (site_lane d top bottom i) (site_lanes-free p is d top bottom i)
    (both p one (who ∷ []) (lane-free p is top bottom (site_column d i) (node_text (Site i))) (skip p who [] (is.words _ _ _) (nothing p)))

branch-free : (p : Element → Bool) → IsOfRows p → (d : Deployed) (epoch y z : ℕ) (o : Option ℕ) → Free p (branch d epoch y z o)
branch-free p is d epoch y z None = nothing p
branch-free p is d epoch y z (Some q) =
    skip p (Line ink.Edge (serializer_spot d epoch y z) (serializer_spot d epoch y q)) [] (is.edges _ _) (nothing p)

node-free : (p : Element → Bool) → IsOfRows p → (at there : Spot) (name : List ℕ) → Free p (node at there name)
node-free p is at there name =
    skip p (Dot ink.Node at name) (Word ink.Epoch there name ∷ []) (is.nodes at name)
    (skip p (Word ink.Epoch there name) [] (is.words _ _ _) (nothing p))

serializer-free : (p : Element → Bool) → IsOfRows p → (d : Deployed) (top bottom epoch y : ℕ) (tree : TreeShape) (z : ℕ) → Free p (serializer_elements d top bottom epoch y tree z)
serializer-free p is d top bottom epoch y tree z =
    let here = serializer_spot d epoch y z in
    let name = node_text (Serializer z) in
    let column = serializer_column d epoch z in
    let title = column_name epoch z in
    let named = node here (name_above here) name in
    both p (branch d epoch y z (parent_of tree.parents z)) (named ++ lane top bottom column title)
    (branch-free p is d epoch y z (parent_of tree.parents z))
    (both p named (lane top bottom column title) (node-free p is here (name_above here) name) (lane-free p is top bottom column title))

serializers-free : (p : Element → Bool) → IsOfRows p → (d : Deployed) (top bottom epoch y : ℕ) (tree : TreeShape) (n : ℕ) → Free p (serializers_elements d top bottom epoch y tree n)
unfolding serializers_elements
serializers-free p is d top bottom epoch y tree zero = nothing p
serializers-free p is d top bottom epoch y tree (suc z) =
    both p (serializers_elements d top bottom epoch y tree z) (serializer_elements d top bottom epoch y tree z)
    (serializers-free p is d top bottom epoch y tree z) (serializer-free p is d top bottom epoch y tree z)

seat-free : (p : Element → Bool) → IsOfRows p → (d : Deployed) (epoch y : ℕ) (tree : TreeShape) (i : ℕ) → Free p (seat_elements d epoch y tree i)
seat-free p is d epoch y tree i =
    let at = site_spot d y tree i in
    skip p (Line ink.Edge at (serializer_spot d epoch y (seat_of tree i))) (node at (name_below at) (node_text (Site i)))
    (is.edges _ _) (node-free p is at (name_below at) (node_text (Site i)))

seats-free : (p : Element → Bool) → IsOfRows p → (d : Deployed) (epoch y : ℕ) (tree : TreeShape) (n : ℕ) → Free p (seats_elements d epoch y tree n)
unfolding seats_elements
seats-free p is d epoch y tree zero = nothing p
seats-free p is d epoch y tree (suc i) =
    both p (seats_elements d epoch y tree i) (seat_elements d epoch y tree i) (seats-free p is d epoch y tree i) (seat-free p is d epoch y tree i)

tree-free : (p : Element → Bool) → IsOfRows p → (d : Deployed) (top bottom epoch y : ℕ) (q : Plan) → Free p (tree_elements d top bottom epoch y q)
tree-free p is d top bottom epoch y plan.Stamp = nothing p
tree-free p is d top bottom epoch y (plan.Tree tree) =
    both p (serializers_elements d top bottom epoch y tree (length tree.parents)) (seats_elements d epoch y tree (length tree.seats))
    (serializers-free p is d top bottom epoch y tree (length tree.parents)) (seats-free p is d epoch y tree (length tree.seats))

plans-free : (p : Element → Bool) → IsOfRows p → (d : Deployed) (top bottom epoch y : ℕ) (ps : List Plan) → Free p (plans_elements d top bottom epoch y ps)
unfolding plans_elements
plans-free p is d top bottom epoch y [] = nothing p
plans-free p is d top bottom epoch y (q ∷ ps) =
    both p (plan_elements d top bottom epoch y q) (plans_elements d top bottom (epoch + 1) (y + plan_height q) ps)
    (skip p (Word ink.Epoch (spot_at 8 (y + 24)) (epoch_name epoch q)) (tree_elements d top bottom epoch y q) (is.words _ _ _) (tree-free p is d top bottom epoch y q))
    (plans-free p is d top bottom (epoch + 1) (y + plan_height q) ps)

pub head-free : (p : Element → Bool) → IsOfRows p → (d : Deployed) (count : ℕ) → Free p (head d count)
unfolding head
head-free p is d count =
    let top = rows_top d in
    let bottom = row_y d count in
    skip p (Word ink.Title (spot_at 8 22) (caption d count)) (lane top bottom 0 (codes "outside") ++ (site_lanes d top bottom d.sites ++ plans_elements d top bottom 1 TREES d.plans))
    (is.words _ _ _)
    (both p (lane top bottom 0 (codes "outside")) (site_lanes d top bottom d.sites ++ plans_elements d top bottom 1 TREES d.plans)
    (lane-free p is top bottom 0 (codes "outside"))
    (both p (site_lanes d top bottom d.sites) (plans_elements d top bottom 1 TREES d.plans) (site_lanes-free p is d top bottom d.sites) (plans-free p is d top bottom 1 TREES d.plans)))

-- ---- one in each row

pub rule-free : (p : Element → Bool) → IsOfRows p → (d : Deployed) (a : Act) (here : Spot) → Free p (rule d a here)
rule-free p is d a here = go (is_across a)
  where
    go : (b : Bool) → Free p (if b then Line ink.Rule here (spot_at (column_x (columns d - 1)) here.y) ∷ [] else [])
    go true = skip p (Line ink.Rule here (spot_at (column_x (columns d - 1)) here.y)) [] (is.rules here (spot_at (column_x (columns d - 1)) here.y)) (nothing p)
    go false = nothing p

death-free : (p : Element → Bool) → IsOfRows p → (r : Answer) (here : Spot) → Free p (death r here)
death-free p is r here = go (is_killed r)
  where
    go : (b : Bool) → Free p (if b then cross ink.Dead here else [])
    go true =
        let down = Line ink.Dead (spot_at (here.x - 7) (here.y - 7)) (spot_at (here.x + 7) (here.y + 7)) in
        let up = Line ink.Dead (spot_at (here.x - 7) (here.y + 7)) (spot_at (here.x + 7) (here.y - 7)) in
        skip p down (up ∷ []) (is.deaths _ _) (skip p up [] (is.deaths _ _) (nothing p))
    go false = nothing p

glow-free : (p : Element → Bool) → IsOfRows p → (o : Option Trail) → Free p (glow o)
glow-free p is None = nothing p
glow-free p is (Some t) = skip p (Glow t) [] (is.glows t) (nothing p)

pub signs-free : (p : Element → Bool) → IsOfRows p → (d : Deployed) (here : Spot) (entry : Entry) → Free p (signs d here entry)
signs-free p is d here entry =
    both p (rule d entry.act here) (death entry.answer here ++ glow (born entry.answer)) (rule-free p is d entry.act here)
    (both p (death entry.answer here) (glow (born entry.answer)) (death-free p is entry.answer here) (glow-free p is (born entry.answer)))

arrow-free : (p : Element → Bool) → ((i : Ink) (t : Trail) (a b : Spot) → p (Way i t a b) ≡ false) → (c : Coming) (here : Spot) (o : Option Spot) → Free p (arrow c here o)
arrow-free p is c here None = nothing p
arrow-free p is c here (Some there) = skip p (Way c.ink c.trail there here) [] (is c.ink c.trail there here) (nothing p)

arrows-free : (p : Element → Bool) → ((i : Ink) (t : Trail) (a b : Spot) → p (Way i t a b) ≡ false) → (found : Trail → Option Spot) (here : Spot) (cs : List Coming) → Free p (arrows found here cs)
arrows-free p is found here [] = nothing p
arrows-free p is found here (c ∷ cs) =
    both p (arrow c here (found c.trail)) (arrows found here cs) (arrow-free p is c here (found c.trail)) (arrows-free p is found here cs)

pub ways-free : (p : Element → Bool) → IsOfRows p → ((i : Ink) (t : Trail) (a b : Spot) → p (Way i t a b) ≡ false) → (d : Deployed) (h : List Entry) → Free p (ways d h)
unfolding ways
ways-free p is away d [] = nothing p
ways-free p is away d (entry ∷ h) =
    let here = spot_of d h entry in
    both p (ways d h) (ways_of d h entry) (ways-free p is away d h)
    (both p (signs d here entry) (arrows (begin d (last_spot d h)) here (comes_from entry.act entry.answer)) (signs-free p is d here entry) (arrows-free p away (begin d (last_spot d h)) here (comes_from entry.act entry.answer)))

crosses-by-free : (p : Element → Bool) → ((t : Trail) (a b : Spot) → p (Lost t a b) ≡ false) → (found : Trail → Option Spot) (ss : List Sending) → Free p (crosses_by found ss)
crosses-by-free p is found [] = nothing p
crosses-by-free p is found (s ∷ ss) =
    both p (cross_for found s) (crosses_by found ss) (go (is_spot (found s.trail) s.here)) (crosses-by-free p is found ss)
  where
    go : (b : Bool) → Free p (if b then lost_way s ∷ [] else [])
    go true = skip p (lost_way s) [] (is s.trail s.here s.end) (nothing p)
    go false = nothing p

pub crosses-free : (p : Element → Bool) → ((t : Trail) (a b : Spot) → p (Lost t a b) ≡ false) → (d : Deployed) (h : List Entry) → Free p (crosses d h)
unfolding crosses
crosses-free p is d h = crosses-by-free p is (lost_spot d h) (sendings d h)

rest-free : (p : Element → Bool) → ((i : Ink) (t : Trail) (a b : Spot) → p (Rest i t a b) ≡ false) → (i : Ink) (t : Trail) (y : ℕ) (o : Option Spot) → Free p (rest i t y o)
rest-free p is i t y None = nothing p
rest-free p is i t y (Some there) = skip p (Rest i t there (spot_at there.x y)) [] (is i t there (spot_at there.x y)) (nothing p)

clients-free : (p : Element → Bool) → ((i : Ink) (t : Trail) (a b : Spot) → p (Rest i t a b) ≡ false) → (seats : ℕ → Option ℕ) (found : Trail → Option Spot) (y n : ℕ) → Free p (client_rests seats found y n)
unfolding client_rests
clients-free p is seats found y zero = nothing p
clients-free p is seats found y (suc c) =
    both p (client_rests seats found y c) (client_rest found y c (seats c)) (clients-free p is seats found y c) (go (seats c))
  where
    go : (o : Option ℕ) → Free p (client_rest found y c o)
    go None = nothing p
    go (Some i) = rest-free p is ink.Seat (client_at SEATED c) y (found (client_at SEATED c))

sites-free : (p : Element → Bool) → ((i : Ink) (t : Trail) (a b : Spot) → p (Rest i t a b) ≡ false) → (left : Trail → Option Spot) (y n : ℕ) → Free p (site_rests left y n)
unfolding site_rests
sites-free p is left y zero = nothing p
sites-free p is left y (suc i) =
    both p (site_rests left y i) (site_rest left y i) (sites-free p is left y i)
    (both p (rest ink.Switch (closing i) y (left (closing i))) (rest ink.View (viewing i) y (left (viewing i)))
    (rest-free p is ink.Switch (closing i) y (left (closing i))) (rest-free p is ink.View (viewing i) y (left (viewing i))))

pub rests-free : (p : Element → Bool) → ((i : Ink) (t : Trail) (a b : Spot) → p (Rest i t a b) ≡ false) → (d : Deployed) (h : List Entry) → Free p (rests d h)
unfolding rests
rests-free p is d h =
    let y = row_y d (length h) in
    both p (client_rests (seat d h) (begin d (last_spot d h)) y (length d.clients)) (site_rests (lost_spot d h) y d.sites)
    (clients-free p is (seat d h) (begin d (last_spot d h)) y (length d.clients)) (sites-free p is (lost_spot d h) y d.sites)

-- no mark, and no words
pub marks-free : (p : Element → Bool) → IsOfRows p → ((i : Ink) (a : Spot) (text : List ℕ) → p (Dot i a text) ≡ false) → (d : Deployed) (h : List Entry) → Free p (marks d h)
unfolding marks
marks-free p is dots d [] = nothing p
marks-free p is dots d (entry ∷ h) =
    let here = spot_of d h entry in
    both p (marks d h) (marks_of d h entry) (marks-free p is dots d h)
    (skip p (mark_of d (length h) here entry) (answer_of d (length h) here entry ∷ act_of d here entry ∷ []) (dots _ _ _)
    (skip p (answer_of d (length h) here entry) (act_of d here entry ∷ []) (is.words _ _ _)
    (skip p (act_of d here entry) [] (is.words _ _ _) (nothing p))))

lines-free : (p : Element → Bool) → IsOfActs p → (d : Deployed) (h : List Entry) → Free p (lines d h)
lines-free p is d h =
    both p (ways d h) (crosses d h ++ rests d h) (ways-free p is.rows is.lines d h)
    (both p (crosses d h) (rests d h) (crosses-free p is.losses d h) (rests-free p is.stays d h))

-- nothing in the whole drawing
pub all-free : (p : Element → Bool) → IsOfActs p → ((i : Ink) (a : Spot) (text : List ℕ) → p (Dot i a text) ≡ false) → (d : Deployed) (h : List Entry) → Free p (elements d h)
unfolding elements
all-free p is dots d h =
    both p (head d (length h)) (lines d h ++ marks d h) (head-free p is.rows d (length h))
    (both p (lines d h) (marks d h) (lines-free p is d h) (marks-free p is.rows dots d h))

-- the mark alone
one-mark : (p : Element → Bool) → IsOfActs p → (d : Deployed) (h : List Entry) (entry : Entry) → filter p (marks_of d h entry) ≡ filter p (mark_of d (length h) (spot_of d h entry) entry ∷ [])
one-mark p is d h entry =
    let here = spot_of d h entry in
    let mark = mark_of d (length h) here entry in
    let words = answer_of d (length h) here entry ∷ act_of d here entry ∷ [] in
    filter-append p (mark ∷ []) words
    ∙ (ap (λ (xs : List Element). filter p (mark ∷ []) ++ xs) (skip p (answer_of d (length h) here entry) (act_of d here entry ∷ []) (is.rows.words _ _ _) (skip p (act_of d here entry) [] (is.rows.words _ _ _) (nothing p))).free
    ∙ append-nil (filter p (mark ∷ [])))

-- so the marks that pass are those that the entries are to have
marks-listed : (p : Element → Bool) → IsOfActs p → (d : Deployed) (f : List Entry → Entry → Option Element)
    → ((h : List Entry) (entry : Entry) → filter p (mark_of d (length h) (spot_of d h entry) entry ∷ []) ≡ elim (f h entry) [ None ↦ [] | Some x ↦ x ∷ [] ])
    → (h : List Entry) → filter p (marks d h) ≡ listed f h
unfolding marks listed
marks-listed p is d f each [] = refl
marks-listed p is d f each (entry ∷ h) =
    filter-append p (marks d h) (marks_of d h entry)
    ∙ (ap (λ (xs : List Element). xs ++ filter p (marks_of d h entry)) (marks-listed p is d f each h)
    ∙ ap (λ (xs : List Element). listed f h ++ xs) (one-mark p is d h entry ∙ each h entry))

all-marks : (p : Element → Bool) → IsOfActs p → (d : Deployed) (f : List Entry → Entry → Option Element)
    → ((h : List Entry) (entry : Entry) → filter p (mark_of d (length h) (spot_of d h entry) entry ∷ []) ≡ elim (f h entry) [ None ↦ [] | Some x ↦ x ∷ [] ])
    → (h : List Entry) → filter p (elements d h) ≡ listed f h
unfolding elements
all-marks p is d f each h =
    filter-append p (head d (length h)) (lines d h ++ marks d h)
    ∙ (ap (λ (xs : List Element). xs ++ filter p (lines d h ++ marks d h)) (head-free p is.rows d (length h)).free
    ∙ (filter-append p (lines d h) (marks d h)
    ∙ (ap (λ (xs : List Element). xs ++ filter p (marks d h)) (lines-free p is d h).free ∙ marks-listed p is d f each h)))

-- ---- acts that were done, and acts that changed nothing

of-done : IsOfActs is_done_mark
of-done = record { rows = record { lanes = λ a b. refl; edges = λ a b. refl; rules = λ a b. refl; words = λ i a text. refl; nodes = λ a text. refl; deaths = λ a b. refl; glows = λ t. refl }; lines = λ i t a b. refl; losses = λ t a b. refl; stays = λ i t a b. refl }

of-refused : IsOfActs is_refused_mark
of-refused = record { rows = record { lanes = λ a b. refl; edges = λ a b. refl; rules = λ a b. refl; words = λ i a text. refl; nodes = λ a text. refl; deaths = λ a b. refl; glows = λ t. refl }; lines = λ i t a b. refl; losses = λ t a b. refl; stays = λ i t a b. refl }

done-each : (d : Deployed) (h : List Entry) (entry : Entry) → filter is_done_mark (mark_of d (length h) (spot_of d h entry) entry ∷ []) ≡ elim (done_mark d h entry) [ None ↦ [] | Some x ↦ x ∷ [] ]
done-each d h entry = go (is_done entry.answer)
  where
    go : (b : Bool) → filter is_done_mark (Dot (if b then ink.Done else ink.Refused) (spot_of d h entry) (title_of d h entry) ∷ []) ≡ elim (if b then Some (Dot ink.Done (spot_of d h entry) (title_of d h entry)) else None) [ None ↦ [] | Some x ↦ x ∷ [] ]
    go true = refl
    go false = refl

refused-each : (d : Deployed) (h : List Entry) (entry : Entry) → filter is_refused_mark (mark_of d (length h) (spot_of d h entry) entry ∷ []) ≡ elim (refused_mark d h entry) [ None ↦ [] | Some x ↦ x ∷ [] ]
refused-each d h entry = go (is_done entry.answer)
  where
    go : (b : Bool) → filter is_refused_mark (Dot (if b then ink.Done else ink.Refused) (spot_of d h entry) (title_of d h entry) ∷ []) ≡ elim (if b then None else Some (Dot ink.Refused (spot_of d h entry) (title_of d h entry))) [ None ↦ [] | Some x ↦ x ∷ [] ]
    go true = refl
    go false = refl

pub each_once : (d : Deployed) (h : List Entry) → EachIsDrawnOnce d h
each_once d h = record {
  done = all-marks is_done_mark of-done d (done_mark d) (done-each d) h;
  refused = all-marks is_refused_mark of-refused d (refused_mark d) (refused-each d) h;
}
