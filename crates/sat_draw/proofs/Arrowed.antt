-- Where the ways of labels, payloads and beats begin and end.
use Rattle.std.proofs.Common.{◌≡◌, ◌⊎◌, ◌==◌, ℕ, zero, suc, Bool, true, false, List, [], ◌∷◌, ◌++◌, length, refl, sym, ap, ◌∙◌, inl, inr}
use Rattle.std.specs.Prelude.{◌||◌, Option, Some, None, if◌then◌else◌}
use Rattle.std.specs.List.{list_any}
use Rattle.sat_label.specs.Members.{In}
use Rattle.sat_label.specs.Words.{has}
use Rattle.sat_label.proofs.Members.{In-parts}
use Rattle.sat_act.specs.declared.entry.Entry.{Entry}
use Rattle.sat_act.specs.Deployed.{Deployed}
use Rattle.sat_act.specs.Parts.{seat}
use Rattle.sat_draw.specs.declared.element.Ink.{Ink}
use Rattle.sat_draw.specs.declared.element.Ink.TheVariants as ink
use Rattle.sat_draw.specs.declared.element.Spot.{Spot}
use Rattle.sat_draw.specs.declared.element.Element.{Element}
use Rattle.sat_draw.specs.declared.element.Element.TheVariants.{Way, Rest}
use Rattle.sat_draw.specs.declared.trail.Trail.{Trail}
use Rattle.sat_draw.specs.declared.trail.Coming.{Coming}
use Rattle.sat_draw.specs.declared.trail.TheConstants.{SEATED}
use Rattle.sat_draw.specs.Columns.{row_y}
use Rattle.sat_draw.specs.Trails.{trail_eq, client_at, closing, viewing, left_by, comes_from}
use Rattle.sat_draw.specs.Rows.{spot_at, spot_of, last_spot, first_spot, or_else, begin, arrow, arrows, signs, ways_of, ways, marks}
use Rattle.sat_draw.specs.Head.{head}
use Rattle.sat_draw.specs.Lost.{is_settled, takes, lost_spot, crosses}
use Rattle.sat_draw.specs.Rests.{rest, client_rest, client_rests, site_rest, site_rests, rests}
use Rattle.sat_draw.specs.Drawing.{lines, elements}
use Rattle.sat_draw.specs.Laws.{IsLeft, Begins, IsWay, IsRest, is_loose_way, WaysAreTold}
use Rattle.sat_draw.proofs.Crossed.{lost_crossed}
use Rattle.sat_draw.proofs.Marks.{IsOfRows, IsOfActs, some-is, not-free, head-free, signs-free, ways-free, crosses-free, rests-free, marks-free, all-free}

-- ---- where a trail was left last

left-later : (d : Deployed) (h : List Entry) (entry : Entry) (t : Trail) (s : Spot) → has trail_eq (left_by entry.act entry.answer) t ≡ false → IsLeft d h t s → IsLeft d (entry ∷ h) t s
left-later d h entry t s e is = record {
  later = entry ∷ is.later;
  entry = is.entry;
  before = is.before;
  parts = ap (λ (xs : List Entry). entry ∷ xs) is.parts;
  left = is.left;
  last = ap (λ (b : Bool). b || list_any (λ e. has trail_eq (left_by e.act e.answer) t) is.later) e ∙ is.last;
  there_is = is.there_is;
}

left-last : (d : Deployed) (h : List Entry) (t : Trail) (s : Spot) → last_spot d h t ≡ Some s → IsLeft d h t s
unfolding last_spot
left-last d [] t s e = absurd (cc)
left-last d (entry ∷ before) t s e = go (has trail_eq (left_by entry.act entry.answer) t) refl (left-last d before t s) e
  where
    go : (b : Bool) → has trail_eq (left_by entry.act entry.answer) t ≡ b → (last_spot d before t ≡ Some s → IsLeft d before t s)
        → (if b then Some (spot_of d before entry) else last_spot d before t) ≡ Some s → IsLeft d (entry ∷ before) t s
    go true k rest found = record { later = []; entry = entry; before = before; parts = refl; left = k; last = refl; there_is = sym (some-is (spot_of d before entry) s found) }
    go false k rest found = left-later d before entry t s k (rest found)

pub never-left : (d : Deployed) (h : List Entry) (t : Trail) → last_spot d h t ≡ None → list_any (λ e. has trail_eq (left_by e.act e.answer) t) h ≡ false
unfolding last_spot
never-left d [] t e = refl
never-left d (entry ∷ before) t e = go (has trail_eq (left_by entry.act entry.answer) t) refl (never-left d before t) e
  where
    go : (b : Bool) → has trail_eq (left_by entry.act entry.answer) t ≡ b → (last_spot d before t ≡ None → list_any (λ e. has trail_eq (left_by e.act e.answer) t) before ≡ false)
        → (if b then Some (spot_of d before entry) else last_spot d before t) ≡ None → has trail_eq (left_by entry.act entry.answer) t || list_any (λ e. has trail_eq (left_by e.act e.answer) t) before ≡ false
    go true k rest found = absurd (cc)
    go false k rest found = ap (λ (b : Bool). b || list_any (λ e. has trail_eq (left_by e.act e.answer) t) before) k ∙ rest found

-- a trail that begins somewhere was left there last, or was never left
pub begins-at : (d : Deployed) (h : List Entry) (t : Trail) (s : Spot) → begin d (last_spot d h) t ≡ Some s → Begins d h t s
begins-at d h t s e = go (last_spot d h t) refl e
  where
    go : (o : Option Spot) → last_spot d h t ≡ o → or_else o (first_spot d t) ≡ Some s → Begins d h t s
    go None k found = inr (record { never = never-left d h t k; there_is = found })
    go (Some r) k found = inl (left-last d h t s (k ∙ found))

-- what is still under way was left last there
left-lost : (d : Deployed) (h : List Entry) (t : Trail) (s : Spot) → lost_spot d h t ≡ Some s → IsLeft d h t s
unfolding lost_spot
left-lost d [] t s e = absurd (cc)
left-lost d (entry ∷ before) t s e =
    go (has trail_eq (left_by entry.act entry.answer) t) (is_settled entry.answer || takes (comes_from entry.act entry.answer) t) refl (left-lost d before t s) e
  where
    go : (a b : Bool) → has trail_eq (left_by entry.act entry.answer) t ≡ a → (lost_spot d before t ≡ Some s → IsLeft d before t s)
        → (if a then Some (spot_of d before entry) else (if b then None else lost_spot d before t)) ≡ Some s → IsLeft d (entry ∷ before) t s
    go true b k rest found = record { later = []; entry = entry; before = before; parts = refl; left = k; last = refl; there_is = sym (some-is (spot_of d before entry) s found) }
    go false true k rest found = absurd (cc)
    go false false k rest found = left-later d before entry t s k (rest found)

-- ---- ways among the arrows of an entry

abbrev way-ink : Element → Ink
way-ink (Way i t a b) = i
way-ink _ = ink.Lane

abbrev way-trail : Trail → Element → Trail
way-trail s (Way i t a b) = t
way-trail s _ = s

abbrev way-from : Spot → Element → Spot
way-from s (Way i t a b) = a
way-from s _ = s

abbrev way-to : Spot → Element → Spot
way-to s (Way i t a b) = b
way-to s _ = s

-- a way that was drawn for one of these
record IsFor (found : Trail → Option Spot) (here : Spot) (cs : List Coming) (i : Ink) (t : Trail) (a b : Spot) : Type 0 where
  member : In cs (record { ink = i; trail = t })
  start : found t ≡ Some a
  end : b ≡ here

one-arrow : (found : Trail → Option Spot) (here : Spot) (c : Coming) (i : Ink) (t : Trail) (a b : Spot) (o : Option Spot) → found c.trail ≡ o → In (arrow c here o) (Way i t a b) → IsFor found here (c ∷ []) i t a b
one-arrow found here c i t a b None e within = absurd within
one-arrow found here c i t a b (Some there) e (inl same) =
    let ink-is : c.ink ≡ i = ap way-ink same in
    let trail-is : c.trail ≡ t = ap (way-trail t) same in
    record {
      member = inl (ap (λ (k : Ink). record { ink = k; trail = c.trail }) ink-is ∙ ap (λ (s : Trail). record { ink = i; trail = s }) trail-is);
      start = ap found (sym trail-is) ∙ (e ∙ ap Some (ap (way-from a) same));
      end = sym (ap (way-to b) same);
    }
one-arrow found here c i t a b (Some there) e (inr rest) = absurd rest

for-first : (found : Trail → Option Spot) (here : Spot) (c : Coming) (cs : List Coming) (i : Ink) (t : Trail) (a b : Spot) → IsFor found here (c ∷ []) i t a b → IsFor found here (c ∷ cs) i t a b
for-first found here c cs i t a b is = record { member = elim is.member [ inl e ↦ inl e | inr none ↦ absurd none ]; start = is.start; end = is.end }

for-later : (found : Trail → Option Spot) (here : Spot) (c : Coming) (cs : List Coming) (i : Ink) (t : Trail) (a b : Spot) → IsFor found here cs i t a b → IsFor found here (c ∷ cs) i t a b
for-later found here c cs i t a b is = record { member = inr is.member; start = is.start; end = is.end }

among-arrows : (found : Trail → Option Spot) (here : Spot) (cs : List Coming) (i : Ink) (t : Trail) (a b : Spot) → In (arrows found here cs) (Way i t a b) → IsFor found here cs i t a b
among-arrows found here [] i t a b within = absurd within
among-arrows found here (c ∷ cs) i t a b within =
    elim (In-parts (arrow c here (found c.trail)) (arrows found here cs) (Way i t a b) within) [
      | inl first ↦ for-first found here c cs i t a b (one-arrow found here c i t a b (found c.trail) refl first)
      | inr rest ↦ for-later found here c cs i t a b (among-arrows found here cs i t a b rest)
    ]

-- ---- no way stands elsewhere

abbrev is-way : Element → Bool
is-way (Way i t a b) = true
is-way _ = false

of-ways : IsOfRows is-way
of-ways = record { lanes = λ a b. refl; edges = λ a b. refl; rules = λ a b. refl; words = λ i a text. refl; nodes = λ a text. refl; deaths = λ a b. refl; glows = λ t. refl }

-- ---- each way is of an entry

way-later : (d : Deployed) (h : List Entry) (entry : Entry) (i : Ink) (t : Trail) (a b : Spot) → IsWay d h i t a b → IsWay d (entry ∷ h) i t a b
way-later d h entry i t a b is = record {
  later = entry ∷ is.later;
  entry = is.entry;
  before = is.before;
  parts = ap (λ (xs : List Entry). entry ∷ xs) is.parts;
  comes_from_it = is.comes_from_it;
  begins = is.begins;
  ends = is.ends;
}

way-of : (d : Deployed) (h : List Entry) (entry : Entry) (i : Ink) (t : Trail) (a b : Spot) → IsFor (begin d (last_spot d h)) (spot_of d h entry) (comes_from entry.act entry.answer) i t a b → IsWay d (entry ∷ h) i t a b
way-of d h entry i t a b is = record {
  later = [];
  entry = entry;
  before = h;
  parts = refl;
  comes_from_it = is.member;
  begins = begins-at d h t a is.start;
  ends = is.end;
}

in-row : (d : Deployed) (h : List Entry) (entry : Entry) (i : Ink) (t : Trail) (a b : Spot) → In (ways_of d h entry) (Way i t a b) → IsWay d (entry ∷ h) i t a b
in-row d h entry i t a b within =
    let here = spot_of d h entry in
    elim (In-parts (signs d here entry) (arrows (begin d (last_spot d h)) here (comes_from entry.act entry.answer)) (Way i t a b) within) [
      | inl sign ↦ absurd (not-free is-way (signs d here entry) (Way i t a b) (signs-free is-way of-ways d here entry) refl sign)
      | inr led ↦ way-of d h entry i t a b (among-arrows (begin d (last_spot d h)) here (comes_from entry.act entry.answer) i t a b led)
    ]

in-ways : (d : Deployed) (h : List Entry) (i : Ink) (t : Trail) (a b : Spot) → In (ways d h) (Way i t a b) → IsWay d h i t a b
unfolding ways
in-ways d [] i t a b within = absurd within
in-ways d (entry ∷ h) i t a b within =
    elim (In-parts (ways d h) (ways_of d h entry) (Way i t a b) within) [
      | inl earlier ↦ way-later d h entry i t a b (in-ways d h i t a b earlier)
      | inr now ↦ in-row d h entry i t a b now
    ]

in-lines : (d : Deployed) (h : List Entry) (i : Ink) (t : Trail) (a b : Spot) → In (lines d h) (Way i t a b) → IsWay d h i t a b
in-lines d h i t a b within =
    elim (In-parts (ways d h) (crosses d h ++ rests d h) (Way i t a b) within) [
      | inl led ↦ in-ways d h i t a b led
      | inr behind ↦ elim (In-parts (crosses d h) (rests d h) (Way i t a b) behind) [
        | inl lost ↦ absurd (not-free is-way (crosses d h) (Way i t a b) (crosses-free is-way (λ s p q. refl) d h) refl lost)
        | inr stays ↦ absurd (not-free is-way (rests d h) (Way i t a b) (rests-free is-way (λ j s p q. refl) d h) refl stays)
      ]
    ]

pub in-all : (d : Deployed) (h : List Entry) (i : Ink) (t : Trail) (a b : Spot) → In (elements d h) (Way i t a b) → IsWay d h i t a b
unfolding elements
in-all d h i t a b within =
    elim (In-parts (head d (length h)) (lines d h ++ marks d h) (Way i t a b) within) [
      | inl above ↦ absurd (not-free is-way (head d (length h)) (Way i t a b) (head-free is-way of-ways d (length h)) refl above)
      | inr rows ↦ elim (In-parts (lines d h) (marks d h) (Way i t a b) rows) [
        | inl led ↦ in-lines d h i t a b led
        | inr marked ↦ absurd (not-free is-way (marks d h) (Way i t a b) (marks-free is-way of-ways (λ i a text. refl) d h) refl marked)
      ]
    ]

-- ---- lines to the end

abbrev rest-trail : Trail → Element → Trail
rest-trail s (Rest i t a b) = t
rest-trail s _ = s

abbrev rest-from : Spot → Element → Spot
rest-from s (Rest i t a b) = a
rest-from s _ = s

abbrev rest-to : Spot → Element → Spot
rest-to s (Rest i t a b) = b
rest-to s _ = s

-- one that was drawn of a trail
pub record Stays (o : Option Spot) (s : Trail) (y : ℕ) (t : Trail) (a b : Spot) : Type 0 where
  pub trail_is : s ≡ t
  pub found : o ≡ Some a
  pub down : b ≡ spot_at a.x y

stays-of : (j : Ink) (s : Trail) (y : ℕ) (o : Option Spot) (i : Ink) (t : Trail) (a b : Spot) → In (rest j s y o) (Rest i t a b) → Stays o s y t a b
stays-of j s y None i t a b within = absurd within
stays-of j s y (Some there) i t a b (inr none) = absurd none
stays-of j s y (Some there) i t a b (inl e) = record {
  trail_is = ap (rest-trail s) e;
  found = ap Some (ap (rest-from there) e);
  down = sym (ap (rest-to b) e) ∙ ap (λ (r : Spot). spot_at r.x y) (ap (rest-from there) e);
}

-- of a client with a seat
pub record OfClient (seats : ℕ → Option ℕ) (found : Trail → Option Spot) (y : ℕ) (t : Trail) (a b : Spot) : Type 0 where
  pub client : ℕ
  pub site : ℕ
  pub seat_is : seats client ≡ Some site
  pub stays : Stays (found (client_at SEATED client)) (client_at SEATED client) y t a b

of-client : (seats : ℕ → Option ℕ) (found : Trail → Option Spot) (y c : ℕ) (o : Option ℕ) → seats c ≡ o → (i : Ink) (t : Trail) (a b : Spot) → In (client_rest found y c o) (Rest i t a b) → OfClient seats found y t a b
of-client seats found y c None e i t a b within = absurd within
of-client seats found y c (Some site) e i t a b within =
    record { client = c; site = site; seat_is = e; stays = stays-of ink.Seat (client_at SEATED c) y (found (client_at SEATED c)) i t a b within }

among-clients : (seats : ℕ → Option ℕ) (found : Trail → Option Spot) (y n : ℕ) (i : Ink) (t : Trail) (a b : Spot) → In (client_rests seats found y n) (Rest i t a b) → OfClient seats found y t a b
unfolding client_rests
among-clients seats found y zero i t a b within = absurd within
among-clients seats found y (suc c) i t a b within =
    elim (In-parts (client_rests seats found y c) (client_rest found y c (seats c)) (Rest i t a b) within) [
      | inl earlier ↦ among-clients seats found y c i t a b earlier
      | inr now ↦ of-client seats found y c (seats c) refl i t a b now
    ]

-- of a site
pub record OfSite (left : Trail → Option Spot) (y : ℕ) (t : Trail) (a b : Spot) : Type 0 where
  pub trail : Trail
  pub no_seat : (trail.stop == SEATED) ≡ false
  pub stays : Stays (left trail) trail y t a b

among-sites : (left : Trail → Option Spot) (y n : ℕ) (i : Ink) (t : Trail) (a b : Spot) → In (site_rests left y n) (Rest i t a b) → OfSite left y t a b
unfolding site_rests
among-sites left y zero i t a b within = absurd within
among-sites left y (suc m) i t a b within =
    elim (In-parts (site_rests left y m) (site_rest left y m) (Rest i t a b) within) [
      | inl earlier ↦ among-sites left y m i t a b earlier
      | inr now ↦ elim (In-parts (rest ink.Switch (closing m) y (left (closing m))) (rest ink.View (viewing m) y (left (viewing m))) (Rest i t a b) now) [
        | inl closed ↦ record { trail = closing m; no_seat = refl; stays = stays-of ink.Switch (closing m) y (left (closing m)) i t a b closed }
        | inr advanced ↦ record { trail = viewing m; no_seat = refl; stays = stays-of ink.View (viewing m) y (left (viewing m)) i t a b advanced }
      ]
    ]

-- one of the drawing is one of these
abbrev pub IsStaying : Deployed → List Entry → Trail → Spot → Spot → Type 0
IsStaying d h t a b =
    OfClient (seat d h) (begin d (last_spot d h)) (row_y d (length h)) t a b ⊎ OfSite (lost_spot d h) (row_y d (length h)) t a b

staying : (d : Deployed) (h : List Entry) (i : Ink) (t : Trail) (a b : Spot) → In (rests d h) (Rest i t a b) → IsStaying d h t a b
unfolding rests
staying d h i t a b within =
    let y = row_y d (length h) in
    elim (In-parts (client_rests (seat d h) (begin d (last_spot d h)) y (length d.clients)) (site_rests (lost_spot d h) y d.sites) (Rest i t a b) within) [
      | inl of-one ↦ inl (among-clients (seat d h) (begin d (last_spot d h)) y (length d.clients) i t a b of-one)
      | inr of-other ↦ inr (among-sites (lost_spot d h) y d.sites i t a b of-other)
    ]

abbrev is-rest : Element → Bool
is-rest (Rest i t a b) = true
is-rest _ = false

of-rests : IsOfRows is-rest
of-rests = record { lanes = λ a b. refl; edges = λ a b. refl; rules = λ a b. refl; words = λ i a text. refl; nodes = λ a text. refl; deaths = λ a b. refl; glows = λ t. refl }

pub stays-in : (d : Deployed) (h : List Entry) (i : Ink) (t : Trail) (a b : Spot) → In (elements d h) (Rest i t a b) → IsStaying d h t a b
unfolding elements
stays-in d h i t a b within =
    elim (In-parts (head d (length h)) (lines d h ++ marks d h) (Rest i t a b) within) [
      | inl above ↦ absurd (not-free is-rest (head d (length h)) (Rest i t a b) (head-free is-rest of-rests d (length h)) refl above)
      | inr rows ↦ elim (In-parts (lines d h) (marks d h) (Rest i t a b) rows) [
        | inl lined ↦ elim (In-parts (ways d h) (crosses d h ++ rests d h) (Rest i t a b) lined) [
          | inl led ↦ absurd (not-free is-rest (ways d h) (Rest i t a b) (ways-free is-rest of-rests (λ j s p q. refl) d h) refl led)
          | inr behind ↦ elim (In-parts (crosses d h) (rests d h) (Rest i t a b) behind) [
            | inl lost ↦ absurd (not-free is-rest (crosses d h) (Rest i t a b) (crosses-free is-rest (λ s p q. refl) d h) refl lost)
            | inr at-end ↦ staying d h i t a b at-end
          ]
        ]
        | inr marked ↦ absurd (not-free is-rest (marks d h) (Rest i t a b) (marks-free is-rest of-rests (λ j p text. refl) d h) refl marked)
      ]
    ]

is-down : (d : Deployed) (h : List Entry) (t : Trail) (a b : Spot) → IsStaying d h t a b → IsRest d h t a b
is-down d h t a b (inl of) = record {
  begins = begins-at d h t a (ap (begin d (last_spot d h)) (sym of.stays.trail_is) ∙ of.stays.found);
  down = of.stays.down;
}
is-down d h t a b (inr of) = record {
  begins = inl (left-lost d h t a (ap (lost_spot d h) (sym of.stays.trail_is) ∙ of.stays.found));
  down = of.stays.down;
}

-- ---- and no line looks like one

of-loose : IsOfActs is_loose_way
of-loose = record {
  rows = record { lanes = λ a b. refl; edges = λ a b. refl; rules = λ a b. refl; words = λ i a text. refl; nodes = λ a text. refl; deaths = λ a b. refl; glows = λ t. refl };
  lines = λ i t a b. refl;
  losses = λ t a b. refl;
  stays = λ i t a b. refl;
}

pub ways_told : (d : Deployed) (h : List Entry) → WaysAreTold d h
ways_told d h = record {
  each = in-all d h;
  rests = λ i t a b within. is-down d h t a b (stays-in d h i t a b within);
  no_others = (all-free is_loose_way of-loose (λ i a text. refl) d h).free;
  lost = lost_crossed d h;
}
