-- What a session kept is the part of the merged list that is its client's, or the operator's.
use Rattle.std.specs.Prelude.{◌≡◌, ◌⊎◌, ◌<◌, ◌≤◌, ℕ, Bool, true, false, List, [], ◌∷◌, ◌++◌, filter, cond, Some, refl}
use Rattle.std.proofs.Common.{sym, subst, ap, ◌∙◌, inl, inr}
use Rattle.sat_label.proofs.Members.{In-filter, In-right, into-filter}
use Rattle.sat_act.specs.Deployed.{Deployed}
use Rattle.sat_act.specs.Parts.{seat}
use Rattle.sat_model.specs.Replay.{carrying}
use Rattle.sat_laws.proofs.Gears.{split_le}
use Rattle.sat_label.specs.Members.{In}
use Rattle.sat_stitch.specs.Kept.{OfClient, Kept, history, Each, Rising, Distinct, Ordered}
use Rattle.sat_stitch.specs.Places.{Place, stands_at, Session, Client, session_of, in_session}
use Rattle.sat_stitch.specs.Fit.{IsKnown, LooseFit, IsMerge}
use Rattle.sat_stitch.proofs.Lists.{filter-at, each-at, distinct-rest, one-number, same-lists}
use Rattle.sat_stitch.proofs.Tables.{stands-self, in-session-is, is-in-session}
use Rattle.sat_stitch.proofs.Parts.{carrying-part, seat-part}

rise_or_equal : (n m : ℕ) → n ≤ m → (n ≡ m → ⊥) → n < m
rise_or_equal n m l k = go (split_le n m l)
  where
    go : (n ≡ m) ⊎ (n < m) → n < m
    go (inl e) = absurd (k e)
    go (inr l) = l

module _ (d : Deployed) (lists : Place → List Kept) (sessions : Session → List Kept) (all : List Kept) where
  -- of one session no two entries of the merged list have one number
  no-twin : LooseFit d lists sessions → IsMerge lists all → (s : Session) (later rest : List Kept) (k x : Kept) → all ≡ later ++ k ∷ rest → in_session s k ≡ true → In rest x → in_session s x ≡ true → x.number ≡ k.number → ⊥
  no-twin fit m s later rest k x w a i b e =
      let ik : In all k = subst (λ (ks : List Kept). In ks k) (sym w) (In-right later (k ∷ rest) k (inl refl)) in
      let ix : In all x = subst (λ (ks : List Kept). In ks x) (sym w) (In-right later (k ∷ rest) x (inr i)) in
      let pk : (p : Place) × In (lists p) k = m.whole k ik in
      let px : (p : Place) × In (lists p) x = m.whole x ix in
      let same : x ≡ k = one-number (sessions s) x k (fit.kept s).rising ((fit.kept s).whole px.0 x px.1 (in-session-is s (session_of x.act) b)) ((fit.kept s).whole pk.0 k pk.1 (in-session-is s (session_of k.act) a)) e in
      let here : stands_at pk.0 k ≡ true = stands-self pk.0 k (fit.placed pk.0 k pk.1) in
      let list : lists pk.0 ≡ filter (stands_at pk.0) later ++ k ∷ filter (stands_at pk.0) rest = sym (m.parts pk.0) ∙ (ap (filter (stands_at pk.0)) w ∙ filter-at (stands_at pk.0) later k rest here) in
      let once : Distinct (k ∷ filter (stands_at pk.0) rest) = distinct-rest (filter (stands_at pk.0) later) (k ∷ filter (stands_at pk.0) rest) (subst (λ (ks : List Kept). Distinct ks) list (fit.single pk.0)) in
      once.1 (into-filter (stands_at pk.0) rest k (subst (λ (y : Kept). In rest y) same i) here)

  part-rises : LooseFit d lists sessions → IsMerge lists all → (s : Session) (later ks : List Kept) → all ≡ later ++ ks → Ordered ks → Rising (filter (in_session s) ks)
  part-rises fit m s later [] w o = tt
  part-rises fit m s later (k ∷ rest) w o = go (in_session s k) refl (part-rises fit m s (later ++ k ∷ []) rest (w ∙ join later k rest) o.0)
    where
      join : (xs : List Kept) (k : Kept) (ys : List Kept) → xs ++ k ∷ ys ≡ (xs ++ k ∷ []) ++ ys
      join [] k ys = refl
      join (x ∷ xs) k ys = ap (λ (zs : List Kept). x ∷ zs) (join xs k ys)

      go : (b : Bool) → in_session s k ≡ b → Rising (filter (in_session s) rest) → Rising (cond b (k ∷ filter (in_session s) rest) (filter (in_session s) rest))
      go true e r = (r, λ x i. let y : In rest x × (in_session s x ≡ true) = In-filter (in_session s) rest x i in rise_or_equal x.number k.number (o.1 x y.0) (no-twin fit m s later rest k x w e y.0 y.1))
      go false e r = r

  pub session-is-part : LooseFit d lists sessions → IsMerge lists all → (s : Session) → filter (in_session s) all ≡ sessions s
  session-is-part fit m s =
      same-lists (filter (in_session s) all) (sessions s) (part-rises fit m s [] all refl m.ordered) (fit.kept s).rising into from
    where
      into : (k : Kept) → In (filter (in_session s) all) k → In (sessions s) k
      into k i =
          let y : In all k × (in_session s k ≡ true) = In-filter (in_session s) all k i in
          let p : (p : Place) × In (lists p) k = m.whole k y.0 in
          (fit.kept s).whole p.0 k p.1 (in-session-is s (session_of k.act) y.1)

      from : (k : Kept) → In (sessions s) k → In (filter (in_session s) all) k
      from k i =
          let y : (session_of k.act ≡ Some s) × ((p : Place) × In (lists p) k) = (fit.kept s).only k i in
          let z : In (filter (stands_at y.1.0) all) k = subst (λ (ks : List Kept). In ks k) (sym (m.parts y.1.0)) y.1.1 in
          into-filter (in_session s) all k (In-filter (stands_at y.1.0) all k z).0 (is-in-session s (session_of k.act) y.0)

  -- a client's act was handed what the history before it says of the client
  pub known-before : LooseFit d lists sessions → IsMerge lists all → (c : ℕ) (later rest : List Kept) (k : Kept) → all ≡ later ++ k ∷ rest → in_session (Client c) k ≡ true →
      k.given ≡ OfClient (carrying (history rest) c) (seat d (history rest) c)
  known-before fit m c later rest k w e =
      let list : sessions (Client c) ≡ filter (in_session (Client c)) later ++ k ∷ filter (in_session (Client c)) rest = sym (session-is-part fit m (Client c)) ∙ (ap (filter (in_session (Client c))) w ∙ filter-at (in_session (Client c)) later k rest e) in
      let known : IsKnown d lists c (filter (in_session (Client c)) rest) k = each-at (IsKnown d lists c) (filter (in_session (Client c)) later) k (filter (in_session (Client c)) rest) (subst (λ (ks : List Kept). Each (IsKnown d lists c) ks) list (fit.known c)) in
      known ∙ sym (λ i. OfClient (carrying-part c rest i) (seat-part d c rest i))
