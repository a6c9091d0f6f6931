use Rattle.std.proofs.Common.{sym, subst, ap, ◌∙◌, ◌<◌, ◌≡◌, length}
use Rattle.std.proofs.lemmas.List.{get_or_default}
use Rattle.sat_beat.specs.Beats.{BeatsSeen, TakenBeats, after_take}
use Rattle.sat_beat.proofs.Rows.{taken_rows}
use Rattle.sat_beat.proofs.beats.Beats.take.Goals as goal

pub invariant_of-self-2 : goal.invariant_of-self-2
invariant_of-self-2 c =
    let within : c.args.from < length c.self.inside.rows.items = subst (λ (b : BeatsSeen). c.args.from < length b.rows) (sym c.self.view_is) c.requires.from in
    let counts : length c.args.beat.counts ≡ c.self.inside.gears = subst (λ (b : BeatsSeen). length c.args.beat.counts ≡ b.gears) (sym c.self.view_is) c.requires.counts in
    taken_rows _ _ _ _ _ c.args.beat _ c.self.invariant within counts
    (c.in_ok-took.ensures.new ∙ ap (λ (t : TakenBeats). after_take c.args.fronts.now t c.args.number c.args.beat) (c.index_mut-row.ensures.value ∙ get_or_default _ _ _ _ within))
