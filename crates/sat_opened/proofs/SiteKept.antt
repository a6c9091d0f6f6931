-- A site's journal as a kept list: its states and epochs, and where its entries stand.
use Rattle.std.proofs.Common.{◌≡◌, ◌⊎◌, ◌<◌, ℕ, ◌+◌, Bool, true, false, ◌==◌, ◌&&◌, not, List, [], ◌∷◌, ◌++◌, length, Option, Some, None, slice_get, if◌then◌else◌, refl, sym, ap, ◌∙◌, subst, arith, inl, inr}
use Rattle.std.proofs.lemmas.Bool.{and_parts}
use Rattle.std.proofs.lemmas.List.{append-nil, length-append}
use Rattle.sat_label.proofs.Truth.{same-number}
use Rattle.sat_label.specs.Grouped.{are_items, list_of}
use Rattle.sat_label.specs.Members.{In}
use Rattle.sat_label.specs.declared.items.Items.{Items}
use Rattle.sat_label.specs.declared.limits.TheConstants.{TS_END}
use Rattle.sat_label.specs.declared.node.NodeName.TheVariants as named
use Rattle.sat_beat.specs.declared.Beat.{Beat}
use Rattle.sat_bulk.specs.Payloads.{Payload}
use Rattle.sat_act.specs.declared.answer.Answer.{Answer}
use Rattle.sat_act.specs.declared.answer.Answer.TheVariants as ans
use Rattle.sat_act.specs.declared.answer.Refusal.TheVariants as why
use Rattle.sat_act.specs.declared.entry.Entry.{Entry}
use Rattle.sat_act.specs.Deployed.{Deployed}
use Rattle.sat_act.specs.Histories.{listed}
use Rattle.sat_act.specs.Parts.{emission, view, closed_epoch_of_entry, view_entry}
use Rattle.sat_act.specs.Answers.{InRange}
use Rattle.sat_laws.proofs.Links.{tail_of, In-place}
use Rattle.sat_laws.proofs.Runs.{entry}
use Rattle.sat_model.specs.State.{SiteState}
use Rattle.sat_model.specs.Input.{SiteInput as Handed}
use Rattle.sat_model.specs.Fits.{fits, is_gear, is_group, is_time, is_carried, is_site, is_other, is_note}
use Rattle.sat_model.specs.Next.{site_next, emission_next, view_next}
use Rattle.sat_model.specs.Replay.{after}
use Rattle.sat_site.specs.declared.input.SiteInput.{SiteInput}
use Rattle.sat_site.specs.declared.input.SiteInput.TheVariants as input
use Rattle.sat_site.specs.Inputs.{input_of}
use Rattle.sat_proxy.specs.Proxy.{note_of}
use Rattle.sat_node.specs.declared.kept.Kept.{Kept as Line}
use Rattle.sat_node.specs.Meanings.{Runs, RunsFrom, Rises}
use Rattle.sat_node.specs.Links.{Each as Every}
use Rattle.sat_machines.specs.Acts.{ActSeen}
use Rattle.sat_machines.specs.declared.site_answer.SiteAnswer.{SiteAnswer}
use Rattle.sat_machines.specs.Sites.{FitsAt, AnswersAt, site_meaning, is_standing}
use Rattle.sat_stitch.specs.Kept.{OfClient, Kept, history}
use Rattle.sat_stitch.specs.Places.{AtSite, places}
use Rattle.sat_stitch.specs.Nodes.{input_of as stitched_input, site_after, IsAnswerAt, stands}
use Rattle.sat_opened.specs.Keeping.{client_in, write_act, site_act, site_given, site_kept, newest}
use Rattle.sat_opened.specs.Fits.{FitsPlace}
use Rattle.sat_opened.proofs.Numbers.{less-is, at-most, not-is, same-is, same-turned}
use Rattle.sat_opened.proofs.Walks.{Along, each-behind, Comes, in-newest, rising-newest}
use Rattle.sat_opened.proofs.Written.{write-cases}
use Rattle.sat_opened.proofs.Says.{Says, quiet, wrote, moved, gathered, emitted, pulsed, closed, shown, took, stamped, beaten, passed, is_quiet, Owns, owns-fresh, owns-next, says}

-- ---- what was handed is the input

pub input-kept : (i c : ℕ) (given : SiteInput) → stitched_input (site_act i c given) (site_given i given) ≡ Some (input_of given)
input-kept i c (input.Tick g t) = refl
input-kept i c (input.Write seen items values) =
    write-cases (λ items values a. stitched_input a (OfClient seen (Some i)) ≡ Some (input_of (input.Write seen items values))) c (λ x value. refl) (λ items values. refl) items values
input-kept i c (input.Read seen n) = refl
input-kept i c (input.Move seen j) = refl
input-kept i c (input.Attach seen) = refl
input-kept i c input.Gather = refl
input-kept i c input.Emit = refl
input-kept i c input.Pulse = refl
input-kept i c (input.Turn front) = refl
input-kept i c (input.Bulk from gear number payload) = refl
input-kept i c (input.Beat j) = refl
input-kept i c (input.BeatIn from number beat) = refl
input-kept i c input.Stamp = refl
input-kept i c input.Close = refl
input-kept i c input.Fall = refl
input-kept i c input.Advance = refl

pub state-more : (d : Deployed) (i : ℕ) (ks : List Kept) (k : Line ActSeen SiteAnswer) → site_after d i (site_kept i k ∷ ks) ≡ site_next d i (site_after d i ks) (input_of k.input.input) k.answer.answer
unfolding site_after after
state-more d i ks k = ap (λ (o : Option Handed). after d i (site_after d i ks) o k.answer.answer) (input-kept i (client_in k.input.by) k.input.input)

-- ---- epochs, by the history alone

none-more : (xs : List ℕ) (n : ℕ) → 1 + length xs ≡ n → 1 + length (xs ++ []) ≡ n
none-more xs n e = ap (λ (ys : List ℕ). 1 + length ys) (append-nil xs) ∙ e

one-more : (b : Bool) (xs : List ℕ) (x n : ℕ) → b ≡ true → 1 + length xs ≡ n → 1 + length (xs ++ tail_of (if b then Some x else None)) ≡ n + 1
one-more true xs x n t e = omega (arith, length-append xs (x ∷ []))
one-more false xs x n t e = absurd (cc)

module _ (d : Deployed) (i c : ℕ) (s : SiteState) (h : List Entry) where
  quiet-emission : (given : SiteInput) (r : Answer) → is_quiet r ≡ true → emission h i ≡ s.views.emission → emission (entry (site_act i c given) r false ∷ h) i ≡ emission_next s.views.emission r
  unfolding emission listed
  quiet-emission given (ans.Closed f p) q e = absurd (cc)
  quiet-emission given _ q e = none-more (listed (closed_epoch_of_entry i) h) s.views.emission e

  pub emission-more : (given : SiteInput) (r : Answer) → Says d i s given r → emission h i ≡ s.views.emission → emission (entry (site_act i c given) r false ∷ h) i ≡ emission_next s.views.emission r
  unfolding emission listed
  emission-more given r (quiet g y q) e = quiet-emission g y q e
  emission-more given r (closed p o) e = one-more (i == i) (listed (closed_epoch_of_entry i) h) s.views.emission s.views.emission (same-number i) e
  emission-more given r (wrote seen items values l o k) e = none-more (listed (closed_epoch_of_entry i) h) s.views.emission e
  emission-more given r (moved seen j l o) e = none-more (listed (closed_epoch_of_entry i) h) s.views.emission e
  emission-more given r (gathered n t) e = none-more (listed (closed_epoch_of_entry i) h) s.views.emission e
  emission-more given r (emitted l o) e = none-more (listed (closed_epoch_of_entry i) h) s.views.emission e
  emission-more given r (pulsed l o) e = none-more (listed (closed_epoch_of_entry i) h) s.views.emission e
  emission-more given r (shown l m) e = none-more (listed (closed_epoch_of_entry i) h) s.views.emission e
  emission-more given r (took l m) e = none-more (listed (closed_epoch_of_entry i) h) s.views.emission e
  emission-more given r (stamped l) e = none-more (listed (closed_epoch_of_entry i) h) s.views.emission e
  emission-more given r (beaten j n) e = none-more (listed (closed_epoch_of_entry i) h) s.views.emission e
  emission-more given r passed e = none-more (listed (closed_epoch_of_entry i) h) s.views.emission e

  quiet-view : (given : SiteInput) (r : Answer) → is_quiet r ≡ true → view h i ≡ s.views.view → view (entry (site_act i c given) r false ∷ h) i ≡ view_next s.views.view r
  unfolding view listed
  quiet-view given (ans.View v) q e = absurd (cc)
  quiet-view given _ q e = none-more (listed (view_entry i) h) s.views.view e

  pub view-more : (given : SiteInput) (r : Answer) → Says d i s given r → view h i ≡ s.views.view → view (entry (site_act i c given) r false ∷ h) i ≡ view_next s.views.view r
  unfolding view listed
  view-more given r (quiet g y q) e = quiet-view g y q e
  view-more given r passed e = one-more (i == i) (listed (view_entry i) h) (s.views.view + 1) s.views.view (same-number i) e
  view-more given r (closed p o) e = none-more (listed (view_entry i) h) s.views.view e
  view-more given r (wrote seen items values l o k) e = none-more (listed (view_entry i) h) s.views.view e
  view-more given r (moved seen j l o) e = none-more (listed (view_entry i) h) s.views.view e
  view-more given r (gathered n t) e = none-more (listed (view_entry i) h) s.views.view e
  view-more given r (emitted l o) e = none-more (listed (view_entry i) h) s.views.view e
  view-more given r (pulsed l o) e = none-more (listed (view_entry i) h) s.views.view e
  view-more given r (shown l m) e = none-more (listed (view_entry i) h) s.views.view e
  view-more given r (took l m) e = none-more (listed (view_entry i) h) s.views.view e
  view-more given r (stamped l) e = none-more (listed (view_entry i) h) s.views.view e
  view-more given r (beaten j n) e = none-more (listed (view_entry i) h) s.views.view e

next-emission : (d : Deployed) (i : ℕ) (s : SiteState) (given : Handed) (r : Answer) → emission_next s.views.emission r ≡ (site_next d i s given r).views.emission
unfolding site_next
next-emission d i s given r = refl

next-view : (d : Deployed) (i : ℕ) (s : SiteState) (given : Handed) (r : Answer) → view_next s.views.view r ≡ (site_next d i s given r).views.view
unfolding site_next
next-view d i s given r = refl

-- ---- each entry

-- what an entry met, and what it is
pub record SiteStep (d : Deployed) (i : ℕ) (ks : List Kept) (k : Line ActSeen SiteAnswer) : Type 0 where
  pub fits_there : FitsAt d i (site_after d i ks) k.input
  pub answers_there : AnswersAt d i (site_after d i ks) k.input k.answer
  pub says_there : Says d i (site_after d i ks) k.input.input k.answer.answer
  pub sends_in : emission (history ks) i ≡ (site_after d i ks).views.emission
  pub takes_in : view (history ks) i ≡ (site_after d i ks).views.view

site-along : (d : Deployed) (i : ℕ) (ks : List Kept) (es : List (Line ActSeen SiteAnswer)) → RunsFrom (site_meaning d) (named.Site i) (site_after d i ks) es →
    Owns i (site_after d i ks) → emission (history ks) i ≡ (site_after d i ks).views.emission → view (history ks) i ≡ (site_after d i ks).views.view → Along (site_kept i) (SiteStep d i) ks es
site-along d i ks [] runs own e v = tt
site-along d i ks (k ∷ es) runs own e v =
    let say : Says d i (site_after d i ks) k.input.input k.answer.answer = says d i (site_after d i ks) own k.input.input k.answer.answer runs.1.answer in
    let more : site_next d i (site_after d i ks) (input_of k.input.input) k.answer.answer ≡ site_after d i (site_kept i k ∷ ks) = sym (state-more d i ks k) in (
      record { fits_there = runs.0; answers_there = runs.1; says_there = say; sends_in = e; takes_in = v },
      site-along d i (site_kept i k ∷ ks) es
          (subst (λ (s : SiteState). RunsFrom (site_meaning d) (named.Site i) s es) more runs.2)
          (subst (Owns i) more (owns-next d i (site_after d i ks) k.input.input k.answer.answer say own))
          (emission-more d i (client_in k.input.by) (site_after d i ks) (history ks) k.input.input k.answer.answer say e ∙ (next-emission d i (site_after d i ks) (input_of k.input.input) k.answer.answer ∙ ap (λ (s : SiteState). s.views.emission) more))
          (view-more d i (client_in k.input.by) (site_after d i ks) (history ks) k.input.input k.answer.answer say v ∙ (next-view d i (site_after d i ks) (input_of k.input.input) k.answer.answer ∙ ap (λ (s : SiteState). s.views.view) more)),
    )

pub site-steps : (d : Deployed) (i : ℕ) (es : List (Line ActSeen SiteAnswer)) → Runs (site_meaning d) (named.Site i) es → Along (site_kept i) (SiteStep d i) [] es
unfolding site_after emission view listed
site-steps d i es runs = site-along d i [] es runs (owns-fresh i) refl refl

-- ---- places, ranges and answers

placed-at : (i c : ℕ) (given : SiteInput) → places (site_act i c given) (site_given i given) ≡ AtSite i ∷ []
placed-at i c (input.Tick g t) = refl
placed-at i c (input.Write seen items values) = write-cases (λ items values a. places a (OfClient seen (Some i)) ≡ AtSite i ∷ []) c (λ x value. refl) (λ items values. refl) items values
placed-at i c (input.Read seen n) = refl
placed-at i c (input.Move seen j) = refl
placed-at i c (input.Attach seen) = refl
placed-at i c input.Gather = refl
placed-at i c input.Emit = refl
placed-at i c input.Pulse = refl
placed-at i c (input.Turn front) = refl
placed-at i c (input.Bulk from gear number payload) = refl
placed-at i c (input.Beat j) = refl
placed-at i c (input.BeatIn from number beat) = refl
placed-at i c input.Stamp = refl
placed-at i c input.Close = refl
placed-at i c input.Fall = refl
placed-at i c input.Advance = refl

-- another site
pub record IsOther (d : Deployed) (i j : ℕ) : Type 0 where
  pub within : j < d.sites
  pub apart : (j == i) ≡ false

pub other-is : (d : Deployed) (i j : ℕ) → is_other d i j ≡ true → IsOther d i j
other-is d i j e =
    let w = and_parts (is_site d j) (not (j == i)) e in
    record { within = less-is j d.sites w.0; apart = not-is (j == i) w.1 }

write-range : (d : Deployed) (c : ℕ) (items : Items) (values : List (List ℕ)) → length values ≡ length (list_of items) → are_items (list_of items) ≡ true → InRange d (write_act c items values)
write-range d c items values =
    write-cases (λ items values a. length values ≡ length (list_of items) → are_items (list_of items) ≡ true → InRange d a) c (λ x value e a. tt) (λ items values e a. (e, a)) items values

in-range : (d : Deployed) (i c : ℕ) (s : SiteState) (given : SiteInput) → i < d.sites → fits d i s (input_of given) ≡ true → InRange d (site_act i c given)
unfolding fits
in-range d i c s (input.Tick g t) lt e = (let w = and_parts (is_gear d g) (is_time t) e in (lt, less-is g d.gears w.0, at-most t TS_END w.1))
in-range d i c s (input.Write seen items values) lt e =
    let w = and_parts (is_carried d seen) _ e in
    let v = and_parts (is_group d items) (length values == length (list_of items)) w.1 in
    write-range d c items values (same-is _ _ v.1) (and_parts (are_items (list_of items)) _ v.0).0
in-range d i c s (input.Read seen n) lt e = tt
in-range d i c s (input.Move seen j) lt e = less-is j d.sites (and_parts (is_carried d seen) (is_site d j) e).1
in-range d i c s (input.Attach seen) lt e = lt
in-range d i c s input.Gather lt e = lt
in-range d i c s input.Emit lt e = lt
in-range d i c s input.Pulse lt e = lt
in-range d i c s (input.Turn front) lt e = lt
in-range d i c s (input.Bulk from gear number payload) lt e =
    let w = and_parts (is_other d i from && is_gear d gear) _ e in
    let v = and_parts (is_other d i from) (is_gear d gear) w.0 in
    let o : IsOther d i from = other-is d i from v.0 in
    (o.within, less-is gear d.gears v.1, lt, o.apart)
in-range d i c s (input.Beat j) lt e = (let o : IsOther d i j = other-is d i j e in (lt, o.within, same-turned i j ∙ o.apart))
in-range d i c s (input.BeatIn from number beat) lt e =
    let o : IsOther d i from = other-is d i from (and_parts (is_other d i from) (is_note d (note_of beat)) e).0 in
    (o.within, lt, o.apart)
in-range d i c s input.Stamp lt e = lt
in-range d i c s input.Close lt e = lt
in-range d i c s input.Fall lt e = lt
in-range d i c s input.Advance lt e = lt

-- a payload and a beat come from another site
bulk-other : (d : Deployed) (j i g n : ℕ) (p : Payload) (s : SiteState) → fits d j s (input_of (input.Bulk i g n p)) ≡ true → IsOther d j i
unfolding fits
bulk-other d j i g n p s e = other-is d j i (and_parts (is_other d j i) (is_gear d g) (and_parts (is_other d j i && is_gear d g) _ e).0).0

beat-other : (d : Deployed) (j i n : ℕ) (b : Beat) (s : SiteState) → fits d j s (input_of (input.BeatIn i n b)) ≡ true → IsOther d j i
unfolding fits
beat-other d j i n b s e = other-is d j i (and_parts (is_other d j i) (is_note d (note_of b)) e).0

abbrev pub ComesFrom : ℕ → SiteInput → Type 0
ComesFrom i given = ((g : ℕ) × (n : ℕ) × (p : Payload) × (given ≡ input.Bulk i g n p)) ⊎ ((n : ℕ) × (b : Beat) × (given ≡ input.BeatIn i n b))

pub from-other : (d : Deployed) (j : ℕ) (s : SiteState) (given : SiteInput) (i : ℕ) → fits d j s (input_of given) ≡ true → ComesFrom i given → IsOther d j i
from-other d j s given i e (inl w) = bulk-other d j i w.0 w.1 w.2 s (subst (λ (x : SiteInput). fits d j s (input_of x) ≡ true) w.3 e)
from-other d j s given i e (inr w) = beat-other d j i w.0 w.1 s (subst (λ (x : SiteInput). fits d j s (input_of x) ≡ true) w.2 e)

stands-same : (r : Answer) → is_standing r ≡ stands r
stands-same (ans.Refused why.Empty) = refl
stands-same (ans.Refused (why.NoPayload l)) = refl
stands-same (ans.Refused why.NoSuch) = refl
stands-same (ans.Refused _) = refl
stands-same _ = refl

site-answer : (d : Deployed) (i : ℕ) (b : List Kept) (k : Line ActSeen SiteAnswer) → SiteStep d i b k → IsAnswerAt d (AtSite i) b (site_kept i k)
site-answer d i b k step = (input_of k.input.input, input-kept i (client_in k.input.by) k.input.input, step.answers_there.answer)

-- the list of a site that was opened fits its place
pub site-fits : (d : Deployed) (i : ℕ) (es : List (Line ActSeen SiteAnswer)) → i < d.sites → Runs (site_meaning d) (named.Site i) es → Rises 0 es → Every es (λ _ k. is_standing k.answer.answer ≡ true) →
    FitsPlace d (AtSite i) (newest (site_kept i) es)
site-fits d i es lt runs rises standing = record {
  rising = rising-newest (site_kept i) (λ x. refl) es rises;
  placed = λ k m. let c : Comes (site_kept i) (SiteStep d i) es k = comes k m in subst (λ (k : Kept). places k.act k.given ≡ AtSite i ∷ []) c.4 (placed-at i (client_in c.1.input.by) c.1.input.input);
  ranges = λ k m. let c : Comes (site_kept i) (SiteStep d i) es k = comes k m in subst (λ (k : Kept). InRange d k.act) c.4 (in-range d i (client_in c.1.input.by) (site_after d i c.0) c.1.input.input lt c.3.fits_there.fits);
  answers = each-behind (site_kept i) (IsAnswerAt d (AtSite i)) (SiteStep d i) [] es (λ b x m step. site-answer d i b x step) tt (site-steps d i es runs);
  standing = λ k m. let c : Comes (site_kept i) (SiteStep d i) es k = comes k m in subst (λ (k : Kept). stands k.answer ≡ true) c.4 (sym (stands-same c.1.answer.answer) ∙ stood c.1 c.2);
}
  where
    comes : (k : Kept) → In (newest (site_kept i) es) k → Comes (site_kept i) (SiteStep d i) es k
    comes k m = in-newest (site_kept i) (SiteStep d i) es k (site-steps d i es runs) m

    stood : (x : Line ActSeen SiteAnswer) → In es x → is_standing x.answer.answer ≡ true
    stood x m = (let w : (n : ℕ) × (slice_get es n ≡ Some x) = In-place es x m in standing w.0 x w.1)
