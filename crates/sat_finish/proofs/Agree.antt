-- Where each gear and each home at its site kept the same parts, those of their journals agree.
use Rattle.std.proofs.Common.{◌≡◌, ◌<◌, ◌≤◌, ℕ, Bool, true, false, not, ◌&&◌, List, [], ◌∷◌, ◌++◌, map, reverse, Option, Some, None, slice_get, sym, subst, ap, ◌∙◌, inl, inr, refl}
use Rattle.std.specs.List.{flat_map}
use Rattle.std.proofs.lemmas.List.{map-append, reverse-reverse}
use Rattle.sat_label.proofs.Members.{In-left, In-right, In-parts}
use Rattle.sat_label.specs.Members.{In}
use Rattle.sat_label.specs.declared.node.NodeName.{NodeName}
use Rattle.sat_label.specs.declared.node.NodeName.TheVariants as named
use Rattle.sat_act.specs.declared.answer.Answer.{Answer}
use Rattle.sat_act.specs.declared.answer.Answer.TheVariants as ans
use Rattle.sat_act.specs.Deployed.{Deployed}
use Rattle.sat_act.specs.Limits.{IsDeployment}
use Rattle.sat_bulk.specs.declared.Drained.{Drained}
use Rattle.sat_bulk.specs.Payloads.{Payload}
use Rattle.sat_node.specs.declared.kept.Kept.{Kept as Line}
use Rattle.sat_node.specs.Meanings.{Runs}
use Rattle.sat_stitch.specs.Kept.{entry_of}
use Rattle.sat_joint.specs.Compare.{Gave, Got, NoShare, Share}
use Rattle.sat_joint.specs.Pieces.{Piece}
use Rattle.sat_joint.specs.Table.{AtGear}
use Rattle.sat_hub_laws.specs.Changes.{input_is_own}
use Rattle.sat_hub_laws.specs.Lines.{gear_piece, gear_pieces, hub_piece, hub_pieces}
use Rattle.sat_hub_laws.specs.Parts.{Part, PartsAgree, given_parts, home_node, input_share, kept_parts, part_if as model_if, part_of}
use Rattle.sat_parts.specs.declared.hub_answer.HubAnswer.{HubAnswer}
use Rattle.sat_parts.specs.declared.gear_answer.GearAnswer.{GearAnswer}
use Rattle.sat_parts.specs.declared.hub_input.HubInput.{HubInput}
use Rattle.sat_parts.specs.declared.hub_input.HubInput.TheVariants as hub
use Rattle.sat_parts.specs.declared.gear_input.GearInput.{GearInput}
use Rattle.sat_parts.specs.declared.gear_input.GearInput.TheVariants as gear
use Rattle.sat_parts.specs.Acts.{HubActSeen, GearActSeen, drain_at, drain_from, gear_handed}
use Rattle.sat_parts.specs.Hubs.{hub_meaning}
use Rattle.sat_parts.specs.Gears.{gear_meaning}
use Rattle.sat_parts.specs.Lines.{gear_line, gear_lines, hub_line, hub_lines}
use Rattle.sat_opened.specs.Opened.{entries_at}
use Rattle.sat_opened.specs.Laws.{SerialHeld}
use Rattle.sat_opened.proofs.Found.{look-up}
use Rattle.sat_parts_opened.specs.Collected.{gear_gave, gear_gives, given_part, got_of, hub_gave, hub_gives, write_gave}
use Rattle.sat_parts_opened.specs.Collected as model
use Rattle.sat_parts_opened.specs.Keeping.{gear_kept, hub_kept}
use Rattle.sat_parts_opened.specs.Laws.{GearHeld, HubHeld}
use Rattle.sat_parts_opened.specs.Opened.{PartsOpened, pieces_at}
use Rattle.sat_parts_opened.proofs.Bounded.{agree-if-within}
use Rattle.sat_parts_opened.proofs.Parted.{gears-give, gears-keep-parts, hubs-give}
use Rattle.sat_finish.specs.declared.joint.Given.{Given}
use Rattle.sat_finish.specs.declared.joint.Given.TheVariants as given
use Rattle.sat_finish.specs.Parts.{PartSeen, SameParts, gear_given, gear_parts, given_by, home_given, home_parts, hub_given, hub_part, is_part_of, kept_part, part_if, payload_given, shown_by, written_part}
use Rattle.sat_finish.proofs.Named.{has-names}

-- ---- parts as the model has them

abbrev share_of : Given → Share
share_of given.Nothing = NoShare
share_of (given.Drained drained) = Gave (drain_from drained)
share_of (given.Shown payload) = Got payload

abbrev seen : PartSeen → Part
seen p = record { number = p.lamport; act = p.entry.act; answer = p.entry.answer; share = share_of p.given }

-- one more entry
more-seen : (ps qs : List PartSeen) (xs ys : List Part) → map seen ps ≡ xs → map seen qs ≡ ys → map seen (ps ++ qs) ≡ xs ++ ys
more-seen ps qs xs ys e f = map-append seen ps qs ∙ (λ t. e t ++ f t)

-- ---- at a gear

gear-share : (input : GearInput) → share_of (gear_given input) ≡ input_share (gear_handed input)
gear-share (gear.Tick ts) = refl
gear-share (gear.Write s items values) = refl
gear-share (gear.Read s n) = refl
gear-share (gear.Move s j) = refl
gear-share (gear.Drain drained labels stable) = refl
gear-share (gear.Show by p) = refl

kept-one : (i g : ℕ) (b : Bool) (k : Line GearActSeen GearAnswer) →
    map seen (part_if b (record { lamport = k.lamport; entry = entry_of (gear_kept i g k); given = gear_given k.input.input })) ≡ model_if b (part_of (gear_piece i g (gear_line k)) (input_share (gear_handed k.input.input))) []
kept-one i g true k = λ t. part_of (gear_piece i g (gear_line k)) (gear-share k.input.input t) ∷ []
kept-one i g false k = refl

kept-seen : (i g : ℕ) (o : Option ℕ) (es : List (Line GearActSeen GearAnswer)) → map seen (flat_map (kept_part i g o) es) ≡ flat_map (model.kept_part i g o) es
kept-seen i g o [] = refl
kept-seen i g o (k ∷ es) =
    more-seen (kept_part i g o k) (flat_map (kept_part i g o) es) (model.kept_part i g o k) (flat_map (model.kept_part i g o) es) (kept-one i g (is_part_of o k) k) (kept-seen i g o es)

-- ---- at another gear

write-share : (values : List (List ℕ)) (r : Answer) → share_of (payload_given values r) ≡ write_gave values r
write-share values (ans.Wrote l) = refl
write-share values _ = refl

home-share : (input : GearInput) (r : Answer) → share_of (home_given input r) ≡ gear_gave input r
home-share (gear.Write s items values) r = write-share values r
home-share (gear.Tick ts) r = refl
home-share (gear.Read s n) r = refl
home-share (gear.Move s j) r = refl
home-share (gear.Drain drained labels stable) r = refl
home-share (gear.Show by p) r = refl

written-one : (i h : ℕ) (b : Bool) (k : Line GearActSeen GearAnswer) →
    map seen (part_if b (record { lamport = k.lamport; entry = entry_of (gear_kept i h k); given = home_given k.input.input k.answer.answer })) ≡ model_if b (part_of (gear_piece i h (gear_line k)) (gear_gave k.input.input k.answer.answer)) []
written-one i h true k = λ t. part_of (gear_piece i h (gear_line k)) (home-share k.input.input k.answer.answer t) ∷ []
written-one i h false k = refl

written-seen : (d : Deployed) (i h g : ℕ) (es : List (Line GearActSeen GearAnswer)) → map seen (flat_map (written_part d i h g) es) ≡ flat_map (given_part d i h g) es
written-seen d i h g [] = refl
written-seen d i h g (k ∷ es) =
    more-seen (written_part d i h g k) (flat_map (written_part d i h g) es) (given_part d i h g k) (flat_map (given_part d i h g) es) (written-one i h (gear_gives d i g k.input.input k.answer.answer) k) (written-seen d i h g es)

-- ---- what a gear kept is never nothing, so what its hub kept of it isn't either

abbrev AllGiven : List PartSeen → Type 0
AllGiven ps = (p : PartSeen) → In ps p → p.given ≡ given.Nothing → ⊥

no-drained : (x : Drained) → given.Drained x ≡ given.Nothing → ⊥
no-drained x e = cc

no-shown : (x : Payload) → given.Shown x ≡ given.Nothing → ⊥
no-shown x e = cc

if-given : (b : Bool) (q : PartSeen) → (q.given ≡ given.Nothing → ⊥) → AllGiven (part_if b q)
if-given true q f p (inl e) = subst (λ (x : PartSeen). x.given ≡ given.Nothing → ⊥) e f
if-given true q f p (inr i) = absurd i
if-given false q f p i = absurd i

kept-given : (b : Bool) (q : PartSeen) (input : GearInput) → q.given ≡ gear_given input → AllGiven (part_if (not (input_is_own (gear_handed input)) && b) q)
kept-given b q (gear.Tick ts) e p i = absurd i
kept-given b q (gear.Write s items values) e p i = absurd i
kept-given b q (gear.Read s n) e p i = absurd i
kept-given b q (gear.Move s j) e p i = absurd i
kept-given b q (gear.Drain drained labels stable) e p i = if-given b q (λ w. no-drained drained (sym e ∙ w)) p i
kept-given b q (gear.Show by payload) e p i = if-given b q (λ w. no-shown payload (sym e ∙ w)) p i

all-given : (i g : ℕ) (o : Option ℕ) (es : List (Line GearActSeen GearAnswer)) → AllGiven (flat_map (kept_part i g o) es)
all-given i g o [] p m = absurd m
all-given i g o (k ∷ es) p m = elim (In-parts (kept_part i g o k) (flat_map (kept_part i g o) es) p m) [
  | inl a ↦ kept-given _ (record { lamport = k.lamport; entry = entry_of (gear_kept i g k); given = gear_given k.input.input }) k.input.input refl p a
  | inr b ↦ all-given i g o es p b
]

-- ---- at a hub

gave-share : (o : Option Drained) → (given_by o ≡ given.Nothing → ⊥) → share_of (given_by o) ≡ Gave (drain_at o)
gave-share None f = absurd (f refl)
gave-share (Some x) f = refl

got-share : (o : Option Payload) → share_of (shown_by o) ≡ got_of o
got-share None = refl
got-share (Some p) = refl

hub-share : (g : ℕ) (input : HubInput) (a : HubAnswer) → (hub_given g input a ≡ given.Nothing → ⊥) → share_of (hub_given g input a) ≡ hub_gave g input a
hub-share g (hub.Gather drained) a f = gave-share (slice_get drained g) f
hub-share g (hub.Attach s) a f = got-share a.show
hub-share g _ a f = got-share a.show

hub-one : (i g : ℕ) (b : Bool) (k : Line HubActSeen HubAnswer) → AllGiven (part_if b (record { lamport = k.lamport; entry = entry_of (hub_kept i k); given = hub_given g k.input.input k.answer })) →
    map seen (part_if b (record { lamport = k.lamport; entry = entry_of (hub_kept i k); given = hub_given g k.input.input k.answer })) ≡ model_if b (part_of (hub_piece i (hub_line k)) (hub_gave g k.input.input k.answer)) []
hub-one i g true k f = λ t. part_of (hub_piece i (hub_line k)) (hub-share g k.input.input k.answer (f _ (inl refl)) t) ∷ []
hub-one i g false k f = refl

hub-seen : (d : Deployed) (i g : ℕ) (es : List (Line HubActSeen HubAnswer)) → AllGiven (flat_map (hub_part d i g) es) → map seen (flat_map (hub_part d i g) es) ≡ flat_map (model.hub_part d i g) es
hub-seen d i g [] f = refl
hub-seen d i g (k ∷ es) f =
    more-seen (hub_part d i g k) (flat_map (hub_part d i g) es) (model.hub_part d i g k) (flat_map (model.hub_part d i g) es)
    (hub-one i g (hub_gives d i g k.input.input k.answer.answer) k (λ p m. f p (In-left (hub_part d i g k) (flat_map (hub_part d i g) es) p m)))
    (hub-seen d i g es (λ p m. f p (In-right (hub_part d i g k) (flat_map (hub_part d i g) es) p m)))

-- ---- journals

turned : {X : Type 0} (xs ys : List X) → reverse xs ≡ reverse ys → xs ≡ ys
turned xs ys e = sym (reverse-reverse xs) ∙ (ap reverse e ∙ reverse-reverse ys)

module _ (d : Deployed) (hubs : List HubHeld) (gears : List GearHeld) (serials : List SerialHeld) (all : PartsOpened d hubs gears serials) where
  hub-runs : (i : ℕ) → Runs (hub_meaning d) (named.Site i) (entries_at (named.Site i) hubs)
  hub-runs i = elim (look-up (named.Site i) hubs) [
    | inr none ↦ subst (Runs (hub_meaning d) (named.Site i)) (sym none) tt
    | inl f ↦ subst (Runs (hub_meaning d) (named.Site i)) (sym f.entries_are) (subst (λ (n : NodeName). Runs (hub_meaning d) n f.held.node.entries) f.is_named (all.each_hub f.index f.held f.there).runs)
  ]

  gear-runs : (i g : ℕ) → Runs (gear_meaning d) (named.Gear i g) (entries_at (named.Gear i g) gears)
  gear-runs i g = elim (look-up (named.Gear i g) gears) [
    | inr none ↦ subst (Runs (gear_meaning d) (named.Gear i g)) (sym none) tt
    | inl f ↦ subst (Runs (gear_meaning d) (named.Gear i g)) (sym f.entries_are) (subst (λ (n : NodeName). Runs (gear_meaning d) n f.held.node.entries) f.is_named (all.each_gear f.index f.held f.there).runs)
  ]

  abbrev hub_list : ℕ → List Piece
  hub_list i = hub_pieces i (hub_lines (entries_at (named.Site i) hubs))

  abbrev gear_list : ℕ → ℕ → List Piece
  gear_list i g = gear_pieces i g (gear_lines (entries_at (named.Gear i g) gears))

  -- what the gear kept, as the model has it
  kept-list : (i g : ℕ) (o : Option ℕ) → map seen (gear_parts gears i g o) ≡ reverse (kept_parts d i g o (gear_list i g))
  kept-list i g o = kept-seen i g o (entries_at (named.Gear i g) gears) ∙ sym (gears-keep-parts d i g o (entries_at (named.Gear i g) gears) (gear-runs i g))

  hub-list : (i g : ℕ) → home_parts d hubs gears i g None ≡ gear_parts gears i g None → map seen (home_parts d hubs gears i g None) ≡ reverse (given_parts d i g None (hub_list i))
  hub-list i g e =
      hub-seen d i g (entries_at (named.Site i) hubs) (subst AllGiven (sym e) (all-given i g None (entries_at (named.Gear i g) gears)))
      ∙ sym (hubs-give d i g (entries_at (named.Site i) hubs) (hub-runs i))

  written-list : (i g h : ℕ) → map seen (home_parts d hubs gears i g (Some h)) ≡ reverse (given_parts d i g (Some h) (gear_list i h))
  written-list i g h = written-seen d i h g (entries_at (named.Gear i h) gears) ∙ sym (gears-give d i h g (entries_at (named.Gear i h) gears) (gear-runs i h))

  module _ (same : SameParts d hubs gears) (alone : ℕ → List Piece) where
    pair : (i g : ℕ) (o : Option ℕ) → i < d.sites → g < d.gears → given_parts d i g o (pieces_at hubs gears serials alone (home_node i o)) ≡ kept_parts d i g o (pieces_at hubs gears serials alone (AtGear i g))
    pair i g None l m = turned (given_parts d i g None (hub_list i)) (kept_parts d i g None (gear_list i g)) (sym (hub-list i g (same i g None l m)) ∙ (ap (map seen) (same i g None l m) ∙ kept-list i g None))
    pair i g (Some h) l m = turned (given_parts d i g (Some h) (gear_list i h)) (kept_parts d i g (Some h) (gear_list i g)) (sym (written-list i g h) ∙ (ap (map seen) (same i g (Some h) l m) ∙ kept-list i g (Some h)))

    no-home : (i g h : ℕ) → i < d.sites → g < d.gears → d.gears ≤ h → kept_parts d i g (Some h) (gear_list i g) ≡ []
    no-home i g h l m le =
        turned (kept_parts d i g (Some h) (gear_list i g)) []
        (sym (kept-list i g (Some h)) ∙ ap (map seen) (sym (same i g (Some h) l m) ∙ ap (λ (es : List (Line GearActSeen GearAnswer)). flat_map (written_part d i h g) es) ((has-names d hubs gears serials all).far i h le)))

    pub parts-agree : IsDeployment d → PartsAgree d (pieces_at hubs gears serials alone)
    parts-agree dep = agree-if-within d hubs gears serials alone dep all (record { pairs = λ i g o l m home. pair i g o l m; homes = no-home })
