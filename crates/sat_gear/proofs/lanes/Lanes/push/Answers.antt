use Rattle.std.proofs.Common.{ℕ, ap, ◌∙◌, ◌++◌, ◌∷◌, [], arith, length, List, map, subst, sym}
use Rattle.std.proofs.lemmas.List.{take_at, length-map}
use Rattle.sat_label.specs.Words.{bit}
use Rattle.sat_bulk.specs.Payloads.{Payload}
use Rattle.sat_queue.specs.Queued.{Queued, members_of}
use Rattle.sat_gear.specs.Lanes.{count_of, HaveRoomWhere}
use Rattle.sat_gear.proofs.Spreads.{adds}
use Rattle.sat_gear.proofs.lanes.Lanes.push.Goals as goal

pub invariant_of-self-2 : goal.invariant_of-self-2
invariant_of-self-2 c = record {
  below = (adds c.self.inside.made.items c.push_reserved.new.self.items c.args.payload (bit c.args.targets.bits) c.in_ok-place.place _ (map members_of c.self.inside.lanes.items) _ _ _ c.args.self.now
      c.self.view_is c.self.invariant.below (c.push_reserved.ensures.items ∙ ap (λ (xs : List Payload). xs ++ c.args.payload ∷ []) c.reserve.ensures.items)
      (ap (λ (ls : List (Queued ℕ)). map members_of ls) (c.deref_mut-2.ensures.value ∙ take_at _ _ _ (omega arith)) ∙ (c.reserve_where.ensures.members ∙ ap (λ (ls : List (Queued ℕ)). map members_of ls) c.deref_mut.ensures.value))
      (ap (λ (ls : List (Queued ℕ)). map members_of ls) (take_at _ _ _ (omega arith)))
      (c.in_ok-place.ensures ∙ ap (λ (ps : List Payload). length ps) c.deref.ensures.value) (sym (length-map _ members_of)) c.spread.ensures.spread).below;
  counted = take_at _ _ _ (omega arith) ∙ (c.spread.ensures.counted ∙ ap (λ (ls : List (Queued ℕ)). map count_of (map members_of ls)) (sym (take_at _ _ _ (omega arith))));
}

pub spread-requires-clause-counted : goal.spread-requires-clause-counted
spread-requires-clause-counted c =
    c.deref_mut-3.ensures.value
    ∙ (c.self.invariant.counted
    ∙ ap (λ (ls : List (List ℕ)). map count_of ls) (sym (ap (λ (ls : List (Queued ℕ)). map members_of ls) (c.deref_mut-2.ensures.value ∙ take_at _ _ _ (omega arith)) ∙ (c.reserve_where.ensures.members ∙ ap (λ (ls : List (Queued ℕ)). map members_of ls) c.deref_mut.ensures.value))))

pub spread-requires-clause-room : goal.spread-requires-clause-room
spread-requires-clause-room c =
    subst (λ (ls : List (Queued ℕ)). HaveRoomWhere (bit c.args.targets.bits) (length ls) ls) (sym (c.deref_mut-2.ensures.value ∙ take_at _ _ _ (omega arith))) c.in_ok-reserve_where.ensures.room

pub returns-clause-ok : goal.returns-clause-ok
returns-clause-ok c =
    (adds c.self.inside.made.items c.push_reserved.new.self.items c.args.payload (bit c.args.targets.bits) c.in_ok-place.place _ (map members_of c.self.inside.lanes.items) _ _ _ c.args.self.now
    c.self.view_is c.self.invariant.below (c.push_reserved.ensures.items ∙ ap (λ (xs : List Payload). xs ++ c.args.payload ∷ []) c.reserve.ensures.items)
    (ap (λ (ls : List (Queued ℕ)). map members_of ls) (c.deref_mut-2.ensures.value ∙ take_at _ _ _ (omega arith)) ∙ (c.reserve_where.ensures.members ∙ ap (λ (ls : List (Queued ℕ)). map members_of ls) c.deref_mut.ensures.value))
    (ap (λ (ls : List (Queued ℕ)). map members_of ls) (take_at _ _ _ (omega arith)))
    (c.in_ok-place.ensures ∙ ap (λ (ps : List Payload). length ps) c.deref.ensures.value) (sym (length-map _ members_of)) c.spread.ensures.spread).lanes
