-- What a site has of the others, and its epochs, stay what they are to be.
use Rattle.std.specs.Prelude.{◌≡◌, ◌<◌, ◌≤◌, ◌+◌, ◌^◌, ℕ, zero, suc, Bool, true, false, ◌||◌, List, [], ◌∷◌, length, map, take, Option, Some, None, OnErr, OnOk, MatchResult, if◌then◌else◌, refl}
use Rattle.std.proofs.Common.{Result, Ok, Err, arith, subst, ap, sym, ◌∙◌, inl, inr}
use Rattle.std.proofs.lemmas.List.{length-set, length-replicate, length-take-le}
use Rattle.sat_label.specs.declared.label.Label.{Label}
use Rattle.sat_label.specs.declared.label.Kind.{Kind}
use Rattle.sat_label.specs.declared.label.Kind.TheVariants.{Update, Move, Pulse, Close}
use Rattle.sat_label.specs.declared.point.Point.{Point}
use Rattle.sat_label.specs.Members.{In}
use Rattle.sat_label.specs.Words.{below}
use Rattle.sat_bulk.specs.Payloads.{Payload}
use Rattle.sat_bulk.specs.declared.window.Take.{Take}
use Rattle.sat_bulk.specs.Windows.{has_number}
use Rattle.sat_beat.specs.declared.Beat.{Beat}
use Rattle.sat_beat.specs.declared.beats.BeatTake.{BeatTake}
use Rattle.sat_beat.specs.Beats.{has_beat, is_old, taken_of}
use Rattle.sat_pool.specs.Pool.{all_waiting, after_take}
use Rattle.sat_pool.proofs.Members.{add-in, take-in}
use Rattle.sat_epoch.specs.declared.views.AdvanceFault.{AdvanceFault}
use Rattle.sat_epoch.specs.Epochs.{Epochs, IsEpochs, advance_fault, after_advance, in_stamp}
use Rattle.sat_sites.specs.declared.shape.Shape.{Shape}
use Rattle.sat_proxy.specs.declared.proxy.StampFault.{StampFault}
use Rattle.sat_proxy.specs.declared.proxy.TurnFault.{TurnFault}
use Rattle.sat_proxy.specs.declared.proxy.Turned.{Turned}
use Rattle.sat_proxy.specs.Proxy.{ProxySeen, IsProxy, best_of, window_of}
use Rattle.sat_proxy.specs.Steps as made
use Rattle.sat_proxy.proofs.Keeping.{bulk-sound}
use Rattle.sat_hub.specs.Seen.{HubSeen, HasPeers, IsGuest, IsHub}
use Rattle.sat_hub.specs.HubSteps.{passed_after}
use Rattle.sat_hub.specs.Inputs.{BulksFit}
use Rattle.sat_hub.proofs.Sound.{proxy-hub, views-hub}

-- of what waits then, all waited before
still : (shape : Shape) (p q : ProxySeen) → HasPeers shape p → IsProxy q → q.sites ≡ p.sites → q.gears ≡ p.gears → q.site ≡ p.site → ((x : Payload) → In (all_waiting q.pool) x → In (all_waiting p.pool) x) → HasPeers shape q
still shape p q has sound sites gears own some = record { sound = sound; sites = sites ∙ has.sites; gears = gears ∙ has.gears; own = own ∙ has.own; waiting = λ x i. has.waiting x (some x i) }

-- ---- a payload

bulk-peers : (shape : Shape) (p : ProxySeen) (from gear n : ℕ) (x : Payload) → HasPeers shape p → IsProxy (made.after_bulk p from gear n x) → IsGuest shape x → HasPeers shape (made.after_bulk p from gear n x)
bulk-peers shape p from gear n x has sound guest = go (has_number (window_of p from gear) n) sound
  where
    go : (b : Bool) → IsProxy (if b then p else made.brought p from gear n x) → HasPeers shape (if b then p else made.brought p from gear n x)
    go true sound = has
    go false sound = record {
      sound = sound;
      sites = has.sites;
      gears = has.gears;
      own = has.own;
      waiting = λ y i. elim (add-in p.pool x y has.sound.pool (subst (λ (m : ℕ). x.label.point.site < m) (sym (has.sound.rows ∙ has.sites)) guest.from) i) [
        | inl e ↦ subst (IsGuest shape) (sym e) guest
        | inr old ↦ has.waiting y old
      ];
    }

pub bulk-hub : (w : HubSeen) (r : Result Take Payload) (p : ProxySeen) (from gear n : ℕ) (x : Payload) → IsHub w → IsGuest w.shape x → IsProxy p → OnOk r (p ≡ made.after_bulk w.proxy from gear n x) → OnErr r (p ≡ w.proxy) → IsHub (record w { proxy = p })
bulk-hub w (Ok t) p from gear n x k guest sound new err = proxy-hub w p k (subst (λ (q : ProxySeen). HasPeers w.shape q) (sym new) (bulk-peers w.shape w.proxy from gear n x k.proxy (subst (λ (q : ProxySeen). IsProxy q) new sound) guest))
bulk-hub w (Err e) p from gear n x k guest sound new err = proxy-hub w p k (subst (λ (q : ProxySeen). HasPeers w.shape q) (sym err) k.proxy)

-- ---- payloads of a lane

bulks-peers : (shape : Shape) (p : ProxySeen) (from gear n : ℕ) (xs : List Payload) → HasPeers shape p → from < shape.sites → gear < shape.gears → n + length xs < 2 ^ 63 → ((x : Payload) → In xs x → x.label.point.site ≡ from) → ((x : Payload) → In xs x → IsGuest shape x) →
    HasPeers shape (made.after_bulks p from gear n xs)
bulks-peers shape p from gear n [] has lt lg small site guests = has
bulks-peers shape p from gear n (x ∷ xs) has lt lg small site guests =
    let sound : IsProxy (made.after_bulk p from gear n x) = bulk-sound p from gear n x has.sound (subst (λ (m : ℕ). from < m) (sym has.sites) lt) (subst (λ (m : ℕ). gear < m) (sym has.gears) lg) (narrow n (length xs) small) (site x (inl refl)) in
    bulks-peers shape (made.after_bulk p from gear n x) from gear (n + 1) xs (bulk-peers shape p from gear n x has sound (guests x (inl refl))) lt lg (next n (length xs) small) (λ y i. site y (inr i)) (λ y i. guests y (inr i))
  where
    narrow : (a b : ℕ) → a + suc b < 2 ^ 63 → a + 1 < 2 ^ 64
    narrow a b small = omega arith

    next : (a b : ℕ) → a + suc b < 2 ^ 63 → a + 1 + b < 2 ^ 63
    next a b small = omega arith

-- of the first so many each is one of all
taken-in : {X : Type 0} (k : ℕ) (xs : List X) (x : X) → In (take k xs) x → In xs x
taken-in zero xs x i = absurd i
taken-in (suc k) [] x i = absurd i
taken-in (suc k) (y ∷ xs) x (inl e) = inl e
taken-in (suc k) (y ∷ xs) x (inr i) = inr (taken-in k xs x i)

-- the first so many of them come
pub first-peers : (w : HubSeen) (from gear n k : ℕ) (xs : List Payload) → IsHub w → BulksFit w from gear n xs → k ≤ length xs → HasPeers w.shape (made.after_bulks w.proxy from gear n (take k xs))
first-peers w from gear n k xs hub fits le =
    bulks-peers w.shape w.proxy from gear n (take k xs) hub.proxy fits.sender fits.number (low (length (take k xs)) (length xs) (length-take-le k xs le) le fits.small)
    (λ x i. fits.made x (taken-in k xs x i)) (λ x i. fits.guests x (taken-in k xs x i))
  where
    low : (a b : ℕ) → a ≡ k → k ≤ b → n + b < 2 ^ 63 → n + a < 2 ^ 63
    low a b e le small = omega arith

pub bulks-hub : (w : HubSeen) (p : ProxySeen) (from gear n k : ℕ) (xs : List Payload) → IsHub w → BulksFit w from gear n xs → k ≤ length xs → p ≡ made.after_bulks w.proxy from gear n (take k xs) → IsHub (record w { proxy = p })
bulks-hub w p from gear n k xs hub fits le new = proxy-hub w p hub (subst (λ (q : ProxySeen). HasPeers w.shape q) (sym new) (first-peers w from gear n k xs hub fits le))

-- ---- a beat

beat-peers : (shape : Shape) (p : ProxySeen) (from n : ℕ) (beat : Beat) → HasPeers shape p → IsProxy (made.after_beat p from n beat) → HasPeers shape (made.after_beat p from n beat)
beat-peers shape p from n beat has sound = go (is_old (best_of p from) n || has_beat (taken_of p.beats from).later n) sound
  where
    go : (b : Bool) → IsProxy (if b then p else made.beaten p from n beat) → HasPeers shape (if b then p else made.beaten p from n beat)
    go true sound = has
    go false sound = still shape p (made.beaten p from n beat) has sound refl refl refl (λ x i. i)

pub beat-hub : (w : HubSeen) (r : Result BeatTake Beat) (p : ProxySeen) (from n : ℕ) (beat : Beat) → IsHub w → IsProxy p → OnOk r (p ≡ made.after_beat w.proxy from n beat) → OnErr r (p ≡ w.proxy) → IsHub (record w { proxy = p })
beat-hub w (Ok t) p from n beat k sound new err = proxy-hub w p k (subst (λ (q : ProxySeen). HasPeers w.shape q) (sym new) (beat-peers w.shape w.proxy from n beat k.proxy (subst (λ (q : ProxySeen). IsProxy q) new sound)))
beat-hub w (Err e) p from n beat k sound new err = proxy-hub w p k (subst (λ (q : ProxySeen). HasPeers w.shape q) (sym err) k.proxy)

-- ---- a turn

taken-still : (shape : Shape) (p : ProxySeen) (last : List Point) (q : Point) → HasPeers shape p → IsProxy (record p { last = last; pool = after_take p.pool q }) → HasPeers shape (record p { last = last; pool = after_take p.pool q })
taken-still shape p last q has sound = still shape p (record p { last = last; pool = after_take p.pool q }) has sound refl refl refl (λ x i. (take-in p.pool q x has.sound.pool i).0)

-- where the payload of a label is shown, or none waits
shown-peers : (shape : Shape) (p : ProxySeen) (l : Label) (o : Option Payload) → HasPeers shape p → IsProxy (made.shown_after p l o) → HasPeers shape (made.shown_after p l o)
shown-peers shape p l None has sound = has
shown-peers shape p l (Some x) has sound = taken-still shape p (made.knowing p l).last l.point has sound

pub show-hub : (w : HubSeen) (p : ProxySeen) (l : Label) → IsHub w → IsProxy p → p ≡ made.shown_after w.proxy l (made.waiting_of w.proxy.pool l) → IsHub (record w { proxy = p })
show-hub w p l k sound new = proxy-hub w p k (subst (λ (q : ProxySeen). HasPeers w.shape q) (sym new) (shown-peers w.shape w.proxy l (made.waiting_of w.proxy.pool l) k.proxy (subst (λ (q : ProxySeen). IsProxy q) new sound)))

turn-peers : (shape : Shape) (views : Epochs) (p : ProxySeen) (front : Option Label) → HasPeers shape p → IsProxy (made.turn_after views p front) → HasPeers shape (made.turn_after views p front)
turn-peers shape views p front has sound = go (in_stamp views) front sound
  where
    kinds : (l : Label) (kind : Kind) → IsProxy (made.front_after p l kind) → HasPeers shape (made.front_after p l kind)
    kinds l (Update items) sound = shown-peers shape p l (made.waiting_of p.pool l) has sound
    kinds l (Move j) sound = still shape p (made.knowing p l) has sound refl refl refl (λ x i. i)
    kinds l Pulse sound = still shape p (made.knowing p l) has sound refl refl refl (λ x i. i)
    kinds l (Close e) sound = still shape p (made.knowing p l) has sound refl refl refl (λ x i. i)

    go : (b : Bool) (front : Option Label) → IsProxy (if b then p else made.link_after p front) → HasPeers shape (if b then p else made.link_after p front)
    go true front sound = has
    go false None sound = has
    go false (Some l) sound = kinds l l.kind sound

-- a close that is heard leaves all but who was heard
record SameEpochs (v w : Epochs) : Type 0 where
  own : w.site ≡ v.site
  heard : length w.heard ≡ length v.heard
  stamp : w.stamp ≡ v.stamp

turn-epochs : (views : Epochs) (front : Option Label) → SameEpochs views (made.turn_views views front)
turn-epochs views front = go (in_stamp views) front
  where
    kinds : (l : Label) (kind : Kind) → SameEpochs views (made.front_views views l kind)
    kinds l (Update items) = record { own = refl; heard = refl; stamp = refl }
    kinds l (Move j) = record { own = refl; heard = refl; stamp = refl }
    kinds l Pulse = record { own = refl; heard = refl; stamp = refl }
    kinds l (Close e) = record { own = refl; heard = length-set views.heard l.point.site true; stamp = refl }

    go : (b : Bool) (front : Option Label) → SameEpochs views (if b then views else made.link_views views front)
    go true front = record { own = refl; heard = refl; stamp = refl }
    go false None = record { own = refl; heard = refl; stamp = refl }
    go false (Some l) = kinds l l.kind

-- a hub with other epochs, of the same plans
epochs-hub : (w : HubSeen) (v : Epochs) → IsHub w → IsEpochs v → SameEpochs w.views v → IsHub (record w { views = v })
epochs-hub w v k sound same = views-hub w v k (record { sound = sound; own = same.own ∙ k.views.own; heard = same.heard ∙ k.views.heard }) (ap (λ (flags : List Bool). length flags) same.stamp)

both-hub : (w : HubSeen) (v : Epochs) (p : ProxySeen) → IsHub w → IsEpochs v → SameEpochs w.views v → HasPeers w.shape p → IsHub (record w { views = v; proxy = p })
both-hub w v p k sound same has = proxy-hub (record w { views = v }) p (epochs-hub w v k sound same) has

pub turn-hub : (w : HubSeen) (r : Result Turned TurnFault) (v : Epochs) (p : ProxySeen) (front : Option Label) → IsHub w → IsEpochs v → IsProxy p → OnOk r (p ≡ made.turn_after w.views w.proxy front) → OnOk r (v ≡ made.turn_views w.views front) → OnErr r (p ≡ w.proxy) → OnErr r (v ≡ w.views) →
    IsHub (record w { views = v; proxy = p })
turn-hub w (Ok t) v p front k epochs sound new heard err unheard =
    both-hub w v p k epochs (subst (SameEpochs w.views) (sym heard) (turn-epochs w.views front)) (subst (λ (q : ProxySeen). HasPeers w.shape q) (sym new) (turn-peers w.shape w.views w.proxy front k.proxy (subst (λ (q : ProxySeen). IsProxy q) new sound)))
turn-hub w (Err e) v p front k epochs sound new heard err unheard =
    both-hub w v p k epochs (subst (SameEpochs w.views) (sym unheard) (record { own = refl; heard = refl; stamp = refl })) (subst (λ (q : ProxySeen). HasPeers w.shape q) (sym err) k.proxy)

-- ---- the next update in timestamp order

stamp-peers : (shape : Shape) (views : Epochs) (p : ProxySeen) → HasPeers shape p → IsProxy (made.stamp_after views p) → HasPeers shape (made.stamp_after views p)
stamp-peers shape views p has sound = go (made.stamp_shows views p) sound
  where
    go : (o : Option Payload) → IsProxy (made.left_after p o) → HasPeers shape (made.left_after p o)
    go None sound = has
    go (Some x) sound = taken-still shape p p.last x.label.point has sound

pub stamp-hub : (w : HubSeen) (r : Result Payload StampFault) (p : ProxySeen) → IsHub w → IsProxy p → OnOk r (p ≡ made.stamp_after w.views w.proxy) → OnErr r (p ≡ w.proxy) → IsHub (record w { proxy = p })
stamp-hub w (Ok t) p k sound new err = proxy-hub w p k (subst (λ (q : ProxySeen). HasPeers w.shape q) (sym new) (stamp-peers w.shape w.views w.proxy k.proxy (subst (λ (q : ProxySeen). IsProxy q) new sound)))
stamp-hub w (Err e) p k sound new err = proxy-hub w p k (subst (λ (q : ProxySeen). HasPeers w.shape q) (sym err) k.proxy)

-- ---- an advance

advance-peers : (shape : Shape) (views : Epochs) (p : ProxySeen) → HasPeers shape p → IsProxy (made.advance_after views p) → HasPeers shape (made.advance_after views p)
advance-peers shape views p has sound = go (in_stamp views) sound
  where
    go : (b : Bool) → IsProxy (if b then record p { last = map (made.known_after views p) (below p.sites) } else p) → HasPeers shape (if b then record p { last = map (made.known_after views p) (below p.sites) } else p)
    go true sound = still shape p _ has sound refl refl refl (λ x i. i)
    go false sound = has

pub advance-hub : (w : HubSeen) (r : Result ℕ AdvanceFault) (v : Epochs) (p : ProxySeen) → IsHub w → IsEpochs v → IsProxy p → OnOk r (p ≡ made.advance_after w.views w.proxy) → OnOk r (v ≡ after_advance w.views) → OnErr r (p ≡ w.proxy) → OnErr r (v ≡ w.views) → IsHub (record w { views = v; proxy = p })
advance-hub w (Ok t) v p k epochs sound new passed err stayed =
    both-hub w v p k epochs (subst (SameEpochs w.views) (sym passed) (record { own = refl; heard = length-replicate (length w.views.heard) false; stamp = refl })) (subst (λ (q : ProxySeen). HasPeers w.shape q) (sym new) (advance-peers w.shape w.views w.proxy k.proxy (subst (λ (q : ProxySeen). IsProxy q) new sound)))
advance-hub w (Err e) v p k epochs sound new passed err stayed =
    both-hub w v p k epochs (subst (SameEpochs w.views) (sym stayed) (record { own = refl; heard = refl; stamp = refl })) (subst (λ (q : ProxySeen). HasPeers w.shape q) (sym err) k.proxy)

pub advance-done : (w x : HubSeen) (r : Result ℕ AdvanceFault) (v : Epochs) (p : ProxySeen) → w ≡ x →
    MatchResult r (λ _. advance_fault w.views (made.has_come w.views w.proxy) ≡ None) (λ f. advance_fault w.views (made.has_come w.views w.proxy) ≡ Some f) →
    OnOk r (p ≡ made.advance_after w.views w.proxy) → OnOk r (v ≡ after_advance w.views) → OnErr r (p ≡ w.proxy) → OnErr r (v ≡ w.views) →
    record w { views = v; proxy = p } ≡ passed_after (advance_fault x.views (made.has_come x.views x.proxy)) x
advance-done w x r v p same fault new passed err stayed = go r fault new passed err stayed ∙ ap (λ (y : HubSeen). passed_after (advance_fault y.views (made.has_come y.views y.proxy)) y) same
  where
    go : (r : Result ℕ AdvanceFault) → MatchResult r (λ _. advance_fault w.views (made.has_come w.views w.proxy) ≡ None) (λ f. advance_fault w.views (made.has_come w.views w.proxy) ≡ Some f) →
        OnOk r (p ≡ made.advance_after w.views w.proxy) → OnOk r (v ≡ after_advance w.views) → OnErr r (p ≡ w.proxy) → OnErr r (v ≡ w.views) →
        record w { views = v; proxy = p } ≡ passed_after (advance_fault w.views (made.has_come w.views w.proxy)) w
    go (Ok t) fault new passed err stayed = (λ j. record w { views = passed j; proxy = new j }) ∙ ap (λ (o : Option AdvanceFault). passed_after o w) (sym fault)
    go (Err e) fault new passed err stayed = (λ j. record w { views = stayed j; proxy = err j }) ∙ ap (λ (o : Option AdvanceFault). passed_after o w) (sym fault)
