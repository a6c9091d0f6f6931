-- What stays to the end: one client or site more, and that of a history.
use Rattle.std.proofs.Common.{◌≡◌, ℕ, zero, suc, ◌+◌, List, ◌++◌, length, refl, sym, ap, ◌∙◌, add-one}
use Rattle.std.specs.Prelude.{Option, Some, None}
use Rattle.std.proofs.lemmas.List.{append-nil}
use Rattle.sat_act.specs.declared.entry.Entry.{Entry}
use Rattle.sat_act.specs.Deployed.{Deployed}
use Rattle.sat_act.specs.Parts.{seat}
use Rattle.sat_draw.specs.declared.element.Ink.TheVariants as ink
use Rattle.sat_draw.specs.declared.element.Spot.{Spot}
use Rattle.sat_draw.specs.declared.element.Element.{Element}
use Rattle.sat_draw.specs.declared.trail.Trail.{Trail}
use Rattle.sat_draw.specs.declared.trail.TheConstants.{SEATED}
use Rattle.sat_draw.specs.declared.tracks.Tracks.{Tracks}
use Rattle.sat_draw.specs.Columns.{row_y}
use Rattle.sat_draw.specs.Trails.{client_at, closing, viewing}
use Rattle.sat_draw.specs.Rows.{first_spot, or_else, begin, last_spot}
use Rattle.sat_draw.specs.Lost.{lost_spot}
use Rattle.sat_draw.specs.Rests.{rest, client_rest, client_rests, site_rest, site_rests, rests_by, rests}
use Rattle.sat_draw.specs.Tracks.{seat_by, spot_by, Follows}
use Rattle.sat_draw.proofs.Heads.{one-more}

-- ---- one more

pub no_clients : (old : List Element) (seats : ℕ → Option ℕ) (found : Trail → Option Spot) (y : ℕ) → old ≡ old ++ client_rests seats found y 0
unfolding client_rests
no_clients old seats found y = sym (append-nil old)

next-client : (seats : ℕ → Option ℕ) (found : Trail → Option Spot) (y c : ℕ) → client_rests seats found y (c + 1) ≡ client_rests seats found y c ++ client_rest found y c (seats c)
unfolding client_rests
next-client seats found y c = ap (client_rests seats found y) (add-one c)

pub more_clients : (old mid new : List Element) (seats : ℕ → Option ℕ) (found : Trail → Option Spot) (y c : ℕ) (o : Option ℕ)
    → new ≡ mid ++ client_rest found y c o → o ≡ seats c → mid ≡ old ++ client_rests seats found y c → new ≡ old ++ client_rests seats found y (c + 1)
more_clients old mid new seats found y c o added is so-far =
    one-more old mid new _ (client_rest found y c (seats c)) _ (added ∙ ap (λ (p : Option ℕ). mid ++ client_rest found y c p) is) so-far (next-client seats found y c)

pub no_sites : (old : List Element) (left : Trail → Option Spot) (y : ℕ) → old ≡ old ++ site_rests left y 0
unfolding site_rests
no_sites old left y = sym (append-nil old)

next-site : (left : Trail → Option Spot) (y i : ℕ) → site_rests left y (i + 1) ≡ site_rests left y i ++ site_rest left y i
unfolding site_rests
next-site left y i = ap (site_rests left y) (add-one i)

pub more_sites : (old mid new : List Element) (left : Trail → Option Spot) (y i : ℕ) → new ≡ mid ++ site_rest left y i → mid ≡ old ++ site_rests left y i → new ≡ old ++ site_rests left y (i + 1)
more_sites old mid new left y i added so-far = one-more old mid new _ _ _ added so-far (next-site left y i)

-- ---- the same seats and the same trails give the same

pub begin-same : (d : Deployed) (f g : Trail → Option Spot) → ((t : Trail) → f t ≡ g t) → (t : Trail) → begin d f t ≡ begin d g t
begin-same d f g e t = ap (λ (o : Option Spot). or_else o (first_spot d t)) (e t)

client-same : (found : Trail → Option Spot) (other : Trail → Option Spot) → ((t : Trail) → found t ≡ other t) → (y c : ℕ) (o : Option ℕ) → client_rest found y c o ≡ client_rest other y c o
client-same found other e y c None = refl
client-same found other e y c (Some i) = ap (rest ink.Seat (client_at SEATED c) y) (e (client_at SEATED c))

clients-same : (f g : ℕ → Option ℕ) (found other : Trail → Option Spot) → ((c : ℕ) → f c ≡ g c) → ((t : Trail) → found t ≡ other t) → (y n : ℕ) → client_rests f found y n ≡ client_rests g other y n
unfolding client_rests
clients-same f g found other a e y zero = refl
clients-same f g found other a e y (suc c) =
    ap (λ (xs : List Element). xs ++ client_rest found y c (f c)) (clients-same f g found other a e y c)
    ∙ ap (λ (xs : List Element). client_rests g other y c ++ xs) (ap (client_rest found y c) (a c) ∙ client-same found other e y c (g c))

sites-same : (left other : Trail → Option Spot) → ((t : Trail) → left t ≡ other t) → (y n : ℕ) → site_rests left y n ≡ site_rests other y n
unfolding site_rests
sites-same left other e y zero = refl
sites-same left other e y (suc i) =
    ap (λ (xs : List Element). xs ++ site_rest left y i) (sites-same left other e y i)
    ∙ ap (λ (xs : List Element). site_rests other y i ++ xs)
    (ap (λ (xs : List Element). xs ++ rest ink.View (viewing i) y (left (viewing i))) (ap (rest ink.Switch (closing i) y) (e (closing i)))
    ∙ ap (λ (xs : List Element). rest ink.Switch (closing i) y (other (closing i)) ++ xs) (ap (rest ink.View (viewing i) y) (e (viewing i))))

pub rests-same : (d : Deployed) (h : List Entry) (tracks : Tracks) (y : ℕ) → Follows d h tracks → y ≡ row_y d (length h)
    → rests_by d (seat_by d tracks.seats) (spot_by tracks.spots) (spot_by tracks.under_way) y ≡ rests d h
unfolding rests
rests-same d h tracks y follows at =
    ap (λ (xs : List Element). xs ++ site_rests (spot_by tracks.under_way) y d.sites)
    (clients-same (seat_by d tracks.seats) (seat d h) (begin d (spot_by tracks.spots)) (begin d (last_spot d h)) follows.seats
    (begin-same d (spot_by tracks.spots) (last_spot d h) follows.spots) y (length d.clients))
    ∙ (ap (λ (xs : List Element). client_rests (seat d h) (begin d (last_spot d h)) y (length d.clients) ++ xs) (sites-same (spot_by tracks.under_way) (lost_spot d h) follows.under_way y d.sites)
    ∙ ap (rests_by d (seat d h) (last_spot d h) (lost_spot d h)) at)
