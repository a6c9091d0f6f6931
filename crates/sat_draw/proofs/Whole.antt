-- The pieces of the drawing.
use Rattle.std.proofs.Common.{◌≡◌, ℕ, ◌+◌, ◌*◌, List, [], ◌++◌, length, reverse, codes, sym, ap, ◌∙◌}
use Rattle.std.proofs.lemmas.List.{append_assoc, length-reverse}
use Rattle.std.proofs.lemmas.List.Concat.{flat_map-append}
use Rattle.sat_act.specs.declared.entry.Entry.{Entry}
use Rattle.sat_act.specs.Deployed.{Deployed}
use Rattle.sat_draw.specs.declared.geometry.TheConstants.{RIGHT, ROW, NAMES}
use Rattle.sat_draw.specs.Columns.{answers_x, rows_top}
use Rattle.sat_draw.specs.Elements.{spell, spelled}
use Rattle.sat_draw.specs.Head.{head}
use Rattle.sat_draw.specs.Legend.{legend}
use Rattle.sat_draw.specs.Rows.{marks}
use Rattle.sat_draw.specs.declared.moved.Moved.{Moved}
use Rattle.sat_draw.specs.Moved.{smalls, hauls}
use Rattle.sat_draw.specs.Drawing.{lines, opening, title_text, start, elements, drawing}

six : (a b c e f g : List ℕ) → ((((a ++ b) ++ c) ++ e) ++ f) ++ g ≡ a ++ (b ++ ((c ++ (e ++ f)) ++ g))
six a b c e f g =
    append_assoc (((a ++ b) ++ c) ++ e) f g
    ∙ (append_assoc ((a ++ b) ++ c) e (f ++ g)
    ∙ (append_assoc (a ++ b) c (e ++ (f ++ g))
    ∙ (append_assoc a b (c ++ (e ++ (f ++ g)))
    ∙ ap (λ (x : List ℕ). a ++ (b ++ x)) (ap (λ (x : List ℕ). c ++ x) (sym (append_assoc e f g)) ∙ sym (append_assoc c (e ++ f) g)))))

-- how the text begins
pub started : (d : Deployed) (count top x : ℕ) (e a b : List ℕ) → e ≡ [] → x ≡ answers_x d → top ≡ rows_top d
    → a ≡ e ++ opening (x + RIGHT) (top + count * ROW + NAMES) → b ≡ a ++ title_text d count → b ≡ start d count
started d count top x e a b nothing at below one two =
    two ∙ ap (λ (y : List ℕ). y ++ title_text d count)
    (one ∙ (ap (λ (y : List ℕ). y ++ opening (x + RIGHT) (top + count * ROW + NAMES)) nothing
    ∙ (ap (λ (n : ℕ). opening (n + RIGHT) (top + count * ROW + NAMES)) at
    ∙ ap (λ (n : ℕ). opening (answers_x d + RIGHT) (n + count * ROW + NAMES)) below)))

-- with one piece more
seven : (a b s c e f g : List ℕ) → (((((a ++ b) ++ s) ++ c) ++ e) ++ f) ++ g ≡ a ++ (b ++ (s ++ ((c ++ (e ++ f)) ++ g)))
seven a b s c e f g = six (a ++ b) s c e f g ∙ append_assoc a b (s ++ ((c ++ (e ++ f)) ++ g))

of-length : (d : Deployed) (h : List Entry) (ms : List Moved) → start d (length h) ++ (legend ++ (spelled (smalls d ms) ++ ((spelled (head d (length h)) ++ (spelled (lines d h) ++ spelled (marks d h))) ++ codes "</svg>\n"))) ≡ drawing d h ms
unfolding drawing elements
of-length d h ms =
    ap (λ (x : List ℕ). start d (length h) ++ (legend ++ (spelled (smalls d ms) ++ (x ++ codes "</svg>\n"))))
    (ap (λ (x : List ℕ). spelled (head d (length h)) ++ x) (sym (flat_map-append spell (lines d h) (marks d h))) ∙ sym (flat_map-append spell (head d (length h)) (lines d h ++ marks d h)))

pub whole : (d : Deployed) (es : List Entry) (ms : List Moved) (count : ℕ) (a b s c e f : List ℕ) → count ≡ length es
    → a ≡ start d count → b ≡ a ++ legend → s ≡ b ++ spelled (smalls d ms) → c ≡ s ++ spelled (head d count)
    → e ≡ (c ++ spelled (lines d (reverse es))) ++ spelled (marks d (reverse es)) → f ≡ e ++ codes "</svg>\n"
    → f ≡ drawing d (reverse es) ms
whole d es ms count a b s c e f counted one two small three four close =
    let n : count ≡ length (reverse es) = counted ∙ sym (length-reverse es) in
    close ∙ (ap (λ (x : List ℕ). x ++ codes "</svg>\n") (four ∙ ap (λ (x : List ℕ). (x ++ spelled (lines d (reverse es))) ++ spelled (marks d (reverse es))) (three ∙ ap (λ (x : List ℕ). x ++ spelled (head d count)) (small ∙ ap (λ (x : List ℕ). x ++ spelled (smalls d ms)) (two ∙ ap (λ (x : List ℕ). x ++ legend) one))))
    ∙ (seven (start d count) legend (spelled (smalls d ms)) (spelled (head d count)) (spelled (lines d (reverse es))) (spelled (marks d (reverse es))) (codes "</svg>\n")
    ∙ (ap (λ (m : ℕ). start d m ++ (legend ++ (spelled (smalls d ms) ++ ((spelled (head d m) ++ (spelled (lines d (reverse es)) ++ spelled (marks d (reverse es)))) ++ codes "</svg>\n")))) n
    ∙ of-length d (reverse es) ms)))
