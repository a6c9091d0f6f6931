use Rattle.std.proofs.Common.{◌+◌, ◌-◌, length, take, drop, ◌∙◌, sym, arith, refl}
use Rattle.sat_script.proofs.Cuts.{texts}
use Rattle.sat_script.proofs.FirstWords.{found_seen, found_word, found_end, found_full, as_first}
use Rattle.sat_script.proofs.words.first_words.Goals as goal

pub loop-place-preserved-then-is_visible : goal.loop-place-preserved-then-is_visible
loop-place-preserved-then-is_visible c =
    (found_seen c.args.line.now c.loop-place.words.items c.loop-place.start c.loop-place.place c.loop-place.invariant.0 c.loop-place-test.true (sym c.if-is_visible.ensures), c.loop-place.invariant.1)

pub loop-place-preserved : goal.loop-place-preserved
loop-place-preserved c = (
  found_word c.args.line.now c.loop-place.words.items c.push.new.self.items _ c.loop-place.start c.loop-place.place c.loop-place.invariant.0 c.loop-place-test.true c.if-byte-ne32.false c.push.ensures.items refl,
  omega (arith, c.push.ensures.len, c.loop-place.invariant.1, c.if-len-eq11.false, c.len.ensures.value),
)

pub returns-then-len-eq11 : goal.returns-then-len-eq11
returns-then-len-eq11 c =
    let word = found_word c.args.line.now c.loop-place.words.items c.push.new.self.items _ c.loop-place.start c.loop-place.place c.loop-place.invariant.0 c.loop-place-test.true c.if-byte-ne32.false c.push.ensures.items refl in
    let full = found_full c.args.line.now (take (length c.args.line.now - (c.loop-place.place + 1)) (drop (c.loop-place.place + 1) c.args.line.now)) c.push.new.self.items (c.loop-place.place + 1) word refl (omega (arith, c.loop-place-test.true))
    (omega (arith, c.if-len-eq11.true, c.len.ensures.value)) in
    as_first c.is_text.result c.args.line.now (texts c.push.new.self.items) (full.0 ∙ sym c.is_text.ensures) full.1

pub returns : goal.returns
returns c =
    found_end c.args.line.now c.loop-place.words.items c.push-2.new.self.items _ c.loop-place.start c.loop-place.place c.loop-place.invariant.0 (omega (arith, c.loop-place-test.false))
    (omega (arith, c.loop-place.invariant.0.within, c.loop-place.auto.place-end)) c.loop-place.invariant.1 c.push-2.ensures.items refl
