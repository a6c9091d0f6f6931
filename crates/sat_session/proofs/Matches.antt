-- A note of a node's entry, kept by its session, is what the node kept.
use Rattle.std.proofs.Common.{◌≡◌, ℕ, Bool, true, false, List, [], ◌∷◌, Option, Some, None, refl, sym, ap, ◌∙◌, subst, inl, inr}
use Rattle.sat_label.specs.declared.carried.Carried.{Carried}
use Rattle.sat_label.specs.declared.items.Items.{Items}
use Rattle.sat_label.specs.declared.node.NodeName.{NodeName}
use Rattle.sat_label.specs.declared.node.NodeName.TheVariants as named
use Rattle.sat_label.specs.Members.{In}
use Rattle.sat_laws.proofs.Labels.{some_is}
use Rattle.sat_act.specs.declared.answer.Answer.{Answer}
use Rattle.sat_act.specs.Deployed.{Deployed}
use Rattle.sat_act.specs.Parts.{seat}
use Rattle.sat_site.specs.declared.input.SiteInput.{SiteInput}
use Rattle.sat_site.specs.declared.input.SiteInput.TheVariants as input
use Rattle.sat_site.specs.Inputs.{input_of}
use Rattle.sat_model.specs.State.{SiteState}
use Rattle.sat_model.specs.Next.{site_next}
use Rattle.sat_node.specs.declared.kept.Kept.{Kept as Line}
use Rattle.sat_node.specs.Meanings.{RunsFrom}
use Rattle.sat_machines.specs.Acts.{ActSeen, IsBy, is_clients}
use Rattle.sat_machines.specs.Sites.{number_of, site_meaning}
use Rattle.sat_machines.specs.declared.site_answer.SiteAnswer.{SiteAnswer}
use Rattle.sat_machines.specs.declared.serial_act.SerialAct.{SerialAct}
use Rattle.sat_machines.specs.declared.serial_act.SerialAct.TheVariants as serial
use Rattle.sat_machines.specs.declared.serial_act.SerialAnswer.{SerialAnswer}
use Rattle.sat_stitch.specs.Kept.{Given, Nothing, OfClient, Kept, history}
use Rattle.sat_stitch.specs.Places.{Place, AtSite, InSession, seat_places, places, Session, Client as Owner, Operator}
use Rattle.sat_opened.proofs.Written.{write-cases}
use Rattle.sat_opened.specs.Keeping.{client_in, write_act, site_act, site_given, site_kept, owner_of, serial_act, serial_given, serial_kept, serial_owner}
use Rattle.sat_session.specs.declared.noted.Noted.{Noted}
use Rattle.sat_session.specs.Notes.{carried_with, site_note, serial_note}
use Rattle.sat_session.specs.Sessions.{note_given, note_kept, note_places, IsNote}

-- each input of a journal is a client's where it has to be
pub by-client : (d : Deployed) (name : NodeName) (s : SiteState) (es : List (Line ActSeen SiteAnswer)) (k : Line ActSeen SiteAnswer) → RunsFrom (site_meaning d) name s es → In es k → IsBy d k.input.by k.input.input
by-client d name s [] k runs i = absurd i
by-client d name s (x ∷ es) k runs (inl e) = subst (λ (y : Line ActSeen SiteAnswer). IsBy d y.input.by y.input.input) e runs.0.by
by-client d name s (x ∷ es) k runs (inr i) = by-client d name (site_next d (number_of name) s (input_of x.input.input) x.answer.answer) es k runs.2 i

-- the place says whether there was a seat
seat-is : (i j : ℕ) → AtSite j ∷ [] ≡ AtSite i ∷ [] → j ≡ i
seat-is i j e = cc

no-seat : (c i : ℕ) → InSession c ∷ [] ≡ AtSite i ∷ [] → ⊥
no-seat c i e = cc

-- a write, of one item or of several, stands where its client sits
written-at : (seen : Carried) (o : Option ℕ) (c : ℕ) (items : Items) (values : List (List ℕ)) → places (write_act c items values) (OfClient seen o) ≡ seat_places c o
written-at seen o c items values = write-cases (λ items values a. places a (OfClient seen o) ≡ seat_places c o) c (λ x value. refl) (λ items values. refl) items values

given-here : (i c : ℕ) (given : SiteInput) (o : Option ℕ) → is_clients given ≡ true → places (site_act i c given) (OfClient (carried_with given) o) ≡ AtSite i ∷ [] → OfClient (carried_with given) o ≡ site_given i given
given-here i c (input.Write seen items values) None e w = absurd (no-seat c i (sym (written-at seen None c items values) ∙ w))
given-here i c (input.Write seen items values) (Some j) e w = ap (λ (k : ℕ). OfClient seen (Some k)) (seat-is i j (sym (written-at seen (Some j) c items values) ∙ w))
given-here i c (input.Read seen n) None e w = absurd (no-seat c i w)
given-here i c (input.Read seen n) (Some j) e w = ap (λ (k : ℕ). OfClient seen (Some k)) (seat-is i j w)
given-here i c (input.Move seen to) None e w = absurd (no-seat c i w)
given-here i c (input.Move seen to) (Some j) e w = ap (λ (k : ℕ). OfClient seen (Some k)) (seat-is i j w)
given-here i c (input.Attach seen) None e w = refl
given-here i c (input.Attach seen) (Some j) e w = absurd (no-seat c i w)
given-here i c _ o e w = absurd (cc)

operator-given : (i : ℕ) (given : SiteInput) (s : Session) → owner_of None given ≡ Some s → (Operator ≡ s) × (Nothing ≡ site_given i given)
operator-given i input.Close s e = (some_is Operator s e, refl)
operator-given i input.Fall s e = (some_is Operator s e, refl)
operator-given i _ s e = absurd (cc)

-- what a session says was handed is what the site was handed
site-handed : (d : Deployed) (i : ℕ) (by : Option ℕ) (given : SiteInput) (s : Session) (before : List Kept) (n : Noted) → IsBy d by given → owner_of by given ≡ Some s → n.carried ≡ carried_with given →
    places (site_act i (client_in by) given) (note_given d s before n) ≡ note_places s (Some (named.Site i)) → note_given d s before n ≡ site_given i given
site-handed d i (Some c) given s before n by owner carried placed =
    subst (λ (t : Session). places (site_act i c given) (note_given d t before n) ≡ note_places t (Some (named.Site i)) → note_given d t before n ≡ site_given i given) (some_is (Owner c) s owner)
    (subst (λ (x : Carried). places (site_act i c given) (OfClient x (seat d (history before) c)) ≡ AtSite i ∷ [] → OfClient x (seat d (history before) c) ≡ site_given i given) (sym carried)
    (given-here i c given (seat d (history before) c) by.0)) placed
site-handed d i None given s before n by owner carried placed =
    let w : (Operator ≡ s) × (Nothing ≡ site_given i given) = operator-given i given s owner in
    subst (λ (t : Session). note_given d t before n ≡ site_given i given) w.0 w.1

-- an entry of site i, kept with this
abbrev site_with : ℕ → Line ActSeen SiteAnswer → Given → Kept
site_with i k given = record { number = k.lamport; act = site_act i (client_in k.input.by) k.input.input; given = given; answer = k.answer.answer }

pub site-matches : (d : Deployed) (i : ℕ) (k : Line ActSeen SiteAnswer) (s : Session) (before : List Kept) → IsBy d k.input.by k.input.input → owner_of k.input.by k.input.input ≡ Some s → IsNote d s before (site_note (named.Site i) k) →
    note_kept d s before (site_note (named.Site i) k) ≡ site_kept i k
site-matches d i k s before by owner is = ap (site_with i k) (site-handed d i k.input.by k.input.input s before (site_note (named.Site i) k) by owner refl is.placed)

-- ---- serializers

kill-given : (act : SerialAct) (s : Session) → serial_owner act ≡ Some s → (Operator ≡ s) × (Nothing ≡ serial_given act)
kill-given (serial.Hop u l) s e = absurd (cc)
kill-given serial.Kill s e = (some_is Operator s e, refl)

abbrev serial_with : ℕ → ℕ → Line SerialAct SerialAnswer → Given → Kept
serial_with e z k given = record { number = k.lamport; act = serial_act e z k.input; given = given; answer = k.answer.answer }

pub serial-matches : (d : Deployed) (e z : ℕ) (k : Line SerialAct SerialAnswer) (s : Session) (before : List Kept) → serial_owner k.input ≡ Some s →
    note_kept d s before (serial_note (named.Serializer e z) k) ≡ serial_kept e z k
serial-matches d e z k s before owner =
    let w : (Operator ≡ s) × (Nothing ≡ serial_given k.input) = kill-given k.input s owner in
    subst (λ (t : Session). note_kept d t before (serial_note (named.Serializer e z) k) ≡ serial_kept e z k) w.0 (ap (serial_with e z k) w.1)
