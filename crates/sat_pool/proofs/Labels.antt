-- What waits of a site under a label.
use Rattle.std.specs.Prelude.{◌≡◌, Bool, true, false, List, Option, Some, None, is_some, if◌then◌else◌, refl}
use Rattle.std.proofs.Common.{sym, ◌∙◌, ap, subst}
use Rattle.sat_label.specs.declared.label.Label.{Label}
use Rattle.sat_label.specs.Order.{label_eq}
use Rattle.sat_label.proofs.Orders.{label_eq-self}
use Rattle.sat_bulk.specs.Payloads.{Payload}
use Rattle.sat_pool.specs.Pool.{at_point, without, row_waiting_of, row_after_take_of}

abbrev when : Bool → Payload → Option Payload
when b p = if b then Some p else None

-- what waits at a label's point, if its label is this one
abbrev of_label : Label → Option Payload → Option Payload
of_label l None = None
of_label l (Some p) = when (label_eq p.label l) p

pub of_none : (ps : List Payload) (l : Label) → None ≡ at_point ps l.point → false ≡ is_some (row_waiting_of ps l)
of_none ps l e = ap (λ (o : Option Payload). is_some (of_label l o)) e

pub of_some : (ps : List Payload) (l : Label) (p : Payload) → Some p ≡ at_point ps l.point → label_eq p.label l ≡ is_some (row_waiting_of ps l)
of_some ps l p e = go (label_eq p.label l) ∙ ap (λ (o : Option Payload). is_some (of_label l o)) e
  where
    go : (b : Bool) → b ≡ is_some (when b p)
    go true = refl
    go false = refl

-- what is found at the point, and has the label
pub found_of : (ps : List Payload) (l : Label) (p : Payload) → Some p ≡ at_point ps l.point → p.label ≡ l → Some p ≡ row_waiting_of ps l
found_of ps l p e is =
    sym (ap (λ (b : Bool). when b p) (subst (λ (m : Label). label_eq m l ≡ true) (sym is) (label_eq-self l)))
    ∙ ap (of_label l) e

pub not_there : (ps : List Payload) (l : Label) → is_some (row_waiting_of ps l) ≡ false → (None ≡ row_waiting_of ps l) × (ps ≡ row_after_take_of ps l (row_waiting_of ps l))
not_there ps l e = go (row_waiting_of ps l) e
  where
    go : (o : Option Payload) → is_some o ≡ false → (None ≡ o) × (ps ≡ row_after_take_of ps l o)
    go None f = (refl, refl)
    go (Some p) f = absurd (cc)

pub is_there : (ps : List Payload) (l : Label) → is_some (row_waiting_of ps l) ≡ true → (at_point ps l.point ≡ row_waiting_of ps l) × (without ps l.point ≡ row_after_take_of ps l (row_waiting_of ps l))
is_there ps l e = go (at_point ps l.point) e
  where
    pick : (b : Bool) (p : Payload) → is_some (when b p) ≡ true → (Some p ≡ when b p) × (without ps l.point ≡ row_after_take_of ps l (when b p))
    pick true p f = (refl, refl)
    pick false p f = absurd (cc)

    go : (o : Option Payload) → is_some (of_label l o) ≡ true → (o ≡ of_label l o) × (without ps l.point ≡ row_after_take_of ps l (of_label l o))
    go None f = absurd (cc)
    go (Some p) f = pick (label_eq p.label l) p f

-- what a call that took it leaves
pub took : (ps new : List Payload) (l : Label) (p : Payload) → Some p ≡ row_waiting_of ps l → new ≡ row_after_take_of ps l (row_waiting_of ps l) → (Some p ≡ at_point ps l.point) × (new ≡ without ps l.point)
took ps new l p e n =
    let is : (at_point ps l.point ≡ row_waiting_of ps l) × (without ps l.point ≡ row_after_take_of ps l (row_waiting_of ps l)) =
    is_there ps l (sym (ap (λ (o : Option Payload). is_some o) e)) in
    (e ∙ sym is.0, n ∙ sym is.1)
