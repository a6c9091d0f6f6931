-- What leaves a world as it is: an act that was not done, the entry of a settle, and a flag.
use Rattle.std.specs.Prelude.{◌≡◌, ℕ, Bool, true, List, [], ◌∷◌, drop, length, Option, Some, None, refl}
use Rattle.std.proofs.Common.{ap}
use Rattle.std.proofs.lemmas.List.{append-nil}
use Rattle.sat_label.specs.declared.label.Label.{Label}
use Rattle.sat_label.specs.declared.node.NodeId.{NodeId}
use Rattle.sat_tree.specs.Shape.{TreeShape}
use Rattle.sat_act.specs.declared.act.Act.{Act}
use Rattle.sat_act.specs.declared.answer.Answer.{Answer}
use Rattle.sat_act.specs.declared.answer.Answer.TheVariants as ans
use Rattle.sat_act.specs.declared.entry.Entry.{Entry}
use Rattle.sat_act.specs.Deployed.{Deployed}
use Rattle.sat_act.specs.Histories.{listed, latest, highest}
use Rattle.sat_act.specs.Parts.{handling, tree_of, entered, entered_entry, taken, taken_entry, killed, seat, moving, carried}
use Rattle.sat_laws.proofs.Runs.{entry}
use Rattle.sat_model.specs.State.{SiteState}
use Rattle.sat_model.specs.Input.{SiteInput}
use Rattle.sat_model.specs.Next.{site_next}
use Rattle.sat_model.specs.Replay.{after, handed, site_state}
use Rattle.sat_model.specs.World.{ClientState, world_state, link_left}
use Rattle.sat_model.specs.Laws.{UndoneStays, FlagsAreFree, leaves_all}

-- ---- the sites

after-stays : (d : Deployed) (i : ℕ) (s : SiteState) (o : Option SiteInput) (r : Answer) → leaves_all r ≡ true → after d i s o r ≡ s
unfolding after site_next
after-stays d i s None r e = refl
after-stays d i s (Some input) (ans.Refused why) e = refl
after-stays d i s (Some input) ans.Again e = refl
after-stays d i s (Some input) ans.Old e = refl
after-stays d i s (Some input) (ans.Settled rounds done) e = refl
after-stays d i s (Some input) _ e = absurd (cc)

-- ---- the links

nothing-handled : (d : Deployed) (h : List Entry) (a : Act) (r : Answer) (n : Bool) → leaves_all r ≡ true → handling d h (entry a r n) ≡ None
unfolding handling
nothing-handled d h a (ans.Refused why) n e = refl
nothing-handled d h a ans.Again n e = refl
nothing-handled d h a ans.Old n e = refl
nothing-handled d h a (ans.Settled rounds done) n e = refl
nothing-handled d h a _ n e = absurd (cc)

taken-stays : (d : Deployed) (h : List Entry) (x : Entry) (e : ℕ) (u v : NodeId) → handling d h x ≡ None → taken d (x ∷ h) e u v ≡ taken d h e u v
unfolding taken listed
taken-stays d h x e u v none = rw none (ap length (append-nil (listed (taken_entry d e u v) h)))

entered-stays : (d : Deployed) (h : List Entry) (x : Entry) (e : ℕ) (t : TreeShape) (u v : NodeId) → handling d h x ≡ None → entered d (x ∷ h) e t u v ≡ entered d h e t u v
unfolding entered listed
entered-stays d h x e t u v none = rw none (append-nil (listed (entered_entry d e t u v) h))

link-stays : (d : Deployed) (h : List Entry) (x : Entry) (e : ℕ) (u v : NodeId) → handling d h x ≡ None → link_left d (x ∷ h) e u v ≡ link_left d h e u v
link-stays d h x e u v none = go (tree_of d e)
  where
    left : List Entry → Option TreeShape → List Label
    left k o = elim o [ None ↦ [] | Some t ↦ drop (taken d k e u v) (entered d k e t u v) ]

    go : (o : Option TreeShape) → left (x ∷ h) o ≡ left h o
    go None = refl
    go (Some t) = λ i. drop (taken-stays d h x e u v none i) (entered-stays d h x e t u v none i)

-- ---- serializers and clients

killed-stays : (h : List Entry) (a : Act) (r : Answer) (n : Bool) (e z : ℕ) → leaves_all r ≡ true → killed (entry a r n ∷ h) e z ≡ killed h e z
unfolding killed latest
killed-stays h a (ans.Refused why) n e z k = refl
killed-stays h a ans.Again n e z k = refl
killed-stays h a ans.Old n e z k = refl
killed-stays h a (ans.Settled rounds done) n e z k = refl
killed-stays h a _ n e z k = absurd (cc)

abbrev client_at : Deployed → List Entry → ℕ → ClientState
client_at d h c = record { carried = record { point = carried h c; moving = moving h c }; seat = seat d h c }

client-stays : (d : Deployed) (h : List Entry) (a : Act) (r : Answer) (n : Bool) (c : ℕ) → leaves_all r ≡ true → client_at d (entry a r n ∷ h) c ≡ client_at d h c
unfolding carried moving seat latest highest
client-stays d h a (ans.Refused why) n c k = refl
client-stays d h a ans.Again n c k = refl
client-stays d h a ans.Old n c k = refl
client-stays d h a (ans.Settled rounds done) n c k = refl
client-stays d h a _ n c k = absurd (cc)

-- ---- the world

site-stays : (d : Deployed) (h : List Entry) (a : Act) (r : Answer) (n : Bool) (i : ℕ) → leaves_all r ≡ true → site_state d (entry a r n ∷ h) i ≡ site_state d h i
unfolding site_state
site-stays d h a r n i k = after-stays d i (site_state d h i) (handed d h a i) r k

world-stays : (d : Deployed) (h : List Entry) (a : Act) (r : Answer) (n : Bool) → leaves_all r ≡ true → world_state d (entry a r n ∷ h) ≡ world_state d h
unfolding world_state
world-stays d h a r n k = λ p. record {
  sites = λ i. site-stays d h a r n i k p;
  links = λ e u v. link-stays d h (entry a r n) e u v (nothing-handled d h a r n k) p;
  dead = λ e z. killed-stays h a r n e z k p;
  clients = λ c. client-stays d h a r n c k p;
}

pub undone-stays : UndoneStays
undone-stays d h e k = world-stays d h e.act e.answer e.inner k

pub flags-are-free : FlagsAreFree
unfolding world_state site_state entered taken listed handling killed carried moving seat latest highest
flags-are-free d h e inner = refl
