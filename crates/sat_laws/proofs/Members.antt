-- What the recursion over a history lists.
use Rattle.std.specs.Prelude.{◌≡◌, List, [], ◌∷◌, Option, Some, None}
use Rattle.std.proofs.Common.{inl, inr, ap}
use Rattle.sat_label.specs.Members.{In}
use Rattle.sat_label.proofs.Members.{In-left, In-right, In-parts}
use Rattle.sat_act.specs.declared.entry.Entry.{Entry}
use Rattle.sat_act.specs.Histories.{listed}
use Rattle.sat_act.specs.Goals.{Gives}

-- what a history lists is what some entry gave
In-option : {X : Type 0} (o : Option X) (x : X) → In (elim o [ None ↦ [] | Some y ↦ y ∷ [] ]) x → o ≡ Some x
In-option None x i = absurd i
In-option (Some y) x (inl e) = ap Some e
In-option (Some y) x (inr i) = absurd i

into-option : {X : Type 0} (o : Option X) (x : X) → o ≡ Some x → In (elim o [ None ↦ [] | Some y ↦ y ∷ [] ]) x
into-option None x e = absurd (cc)
into-option (Some y) x e = inl (cc)

pub listed-gives : {X : Type 0} (f : List Entry → Entry → Option X) (h : List Entry) (x : X) → In (listed f h) x → Gives f h x
unfolding listed Gives
listed-gives f [] x i = i
listed-gives f (e ∷ h) x i =
    elim (In-parts (listed f h) (elim (f h e) [ None ↦ [] | Some y ↦ y ∷ [] ]) x i) [ inl a ↦ inl (listed-gives f h x a) | inr b ↦ inr (In-option (f h e) x b) ]

pub gives-listed : {X : Type 0} (f : List Entry → Entry → Option X) (h : List Entry) (x : X) → Gives f h x → In (listed f h) x
unfolding listed Gives
gives-listed f [] x i = i
gives-listed f (e ∷ h) x (inl i) = In-left (listed f h) _ x (gives-listed f h x i)
gives-listed f (e ∷ h) x (inr k) = In-right (listed f h) _ x (into-option (f h e) x k)
