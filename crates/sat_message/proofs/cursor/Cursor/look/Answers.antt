use Rattle.std.proofs.Common.{rules, ◌≡◌, ◌+◌, ◌<◌, length, Some, None, Option, slice_get, refl, sym, ap, ◌∙◌, subst, arith}
use Rattle.std.proofs.lemmas.Option.{slice_get_read}
use Rattle.sat_message.specs.declared.message.Message.{Message}
use Rattle.sat_message.specs.Numbering.{CursorSeen, Passes}
use Rattle.sat_message.proofs.Numbering.{looked_at, looked_gives, looked_passes, numbers_left}
use Rattle.sat_message.proofs.cursor.Cursor.look.Goals as goal

pub thing-requires : goal.thing-requires
thing-requires g c =
    let left = numbers_left (g.M.Machine.meaning.puts c.args.name c.args.link) c.args.journal.now c.args.self.now c.requires.at in
    let here = ap (λ (o : CursorSeen). o.next) c.self.view_is in
    let less = c.in-Some.ensures.lookup.3.0 in
    let few : length c.args.journal.now < 18446744073709551616 = search rules in
    ((λ gear. let most = left.0 gear in omega arith), (let most = left.1 in omega arith), (let most = left.2 in omega arith))

pub returns-in_default-thing-clause-at : goal.returns-in_default-thing-clause-at
returns-in_default-thing-clause-at g c =
    let ks = c.args.journal.now in
    let k = c.in-Some.kept.now in
    let looked = c.in-Some.ensures.lookup in
    let after = c.self-2.view_is in
    looked_at (g.M.Machine.meaning.puts c.args.name c.args.link) ks k c.in_ok-made.made c.in_ok-thing.thing c.args.self.now c.thing.new.self _ (record {
      at = ap (slice_get ks) (sym (ap (λ (o : CursorSeen). o.next) c.self.view_is)) ∙ slice_get_read ks (length ks) c.self.inside.next k refl looked.3.0 looked.1;
      puts = c.in_ok-made.ensures;
      thing = c.in_ok-thing.ensures.thing;
      next = ap (λ (o : CursorSeen). o.next + 1) after;
      labels = ap (λ (o : CursorSeen). o.labels) after;
      payloads = ap (λ (o : CursorSeen). o.payloads) after;
      beats = ap (λ (o : CursorSeen). o.beats) after;
      was = c.requires.at;
    })

pub returns-in_default-thing-clause-looked : goal.returns-in_default-thing-clause-looked
returns-in_default-thing-clause-looked g c =
    let of = g.M.Machine.meaning.puts c.args.name c.args.link in
    let ks = c.args.journal.now in
    let k = c.in-Some.kept.now in
    let looked = c.in-Some.ensures.lookup in
    let after = c.self-2.view_is in
    let none : c.in_ok-thing.thing ≡ None = search rules in
    subst (λ (o : Option Message). Passes of ks c.args.self.now.next (c.self-2.inside.next + 1) o) (sym c.requires.none)
    (looked_passes of ks k c.in_ok-made.made c.in_ok-thing.thing c.args.self.now c.thing.new.self _ (record {
      at = ap (slice_get ks) (sym (ap (λ (o : CursorSeen). o.next) c.self.view_is)) ∙ slice_get_read ks (length ks) c.self.inside.next k refl looked.3.0 looked.1;
      puts = c.in_ok-made.ensures;
      thing = c.in_ok-thing.ensures.thing;
      next = ap (λ (o : CursorSeen). o.next + 1) after;
      labels = ap (λ (o : CursorSeen). o.labels) after;
      payloads = ap (λ (o : CursorSeen). o.payloads) after;
      beats = ap (λ (o : CursorSeen). o.beats) after;
      was = c.requires.at;
    }) none)

pub returns-clause-at : goal.returns-clause-at
returns-clause-at g c =
    let ks = c.args.journal.now in
    let k = c.in-Some.kept.now in
    let looked = c.in-Some.ensures.lookup in
    let after = c.self-2.view_is in
    looked_at (g.M.Machine.meaning.puts c.args.name c.args.link) ks k c.in_ok-made.made c.in_ok-thing.thing c.args.self.now c.thing.new.self _ (record {
      at = ap (slice_get ks) (sym (ap (λ (o : CursorSeen). o.next) c.self.view_is)) ∙ slice_get_read ks (length ks) c.self.inside.next k refl looked.3.0 looked.1;
      puts = c.in_ok-made.ensures;
      thing = c.in_ok-thing.ensures.thing;
      next = ap (λ (o : CursorSeen). o.next + 1) after;
      labels = ap (λ (o : CursorSeen). o.labels) after;
      payloads = ap (λ (o : CursorSeen). o.payloads) after;
      beats = ap (λ (o : CursorSeen). o.beats) after;
      was = c.requires.at;
    })

pub returns-clause-looked : goal.returns-clause-looked
returns-clause-looked g c =
    let ks = c.args.journal.now in
    let k = c.in-Some.kept.now in
    let looked = c.in-Some.ensures.lookup in
    let after = c.self-2.view_is in
    let found : c.in_ok-thing.thing ≡ Some c.in-Some-thing.message = search rules in
    looked_gives (g.M.Machine.meaning.puts c.args.name c.args.link) ks k c.in_ok-made.made c.in_ok-thing.thing c.args.self.now c.thing.new.self _ (record {
      at = ap (slice_get ks) (sym (ap (λ (o : CursorSeen). o.next) c.self.view_is)) ∙ slice_get_read ks (length ks) c.self.inside.next k refl looked.3.0 looked.1;
      puts = c.in_ok-made.ensures;
      thing = c.in_ok-thing.ensures.thing;
      next = ap (λ (o : CursorSeen). o.next + 1) after;
      labels = ap (λ (o : CursorSeen). o.labels) after;
      payloads = ap (λ (o : CursorSeen). o.payloads) after;
      beats = ap (λ (o : CursorSeen). o.beats) after;
      was = c.requires.at;
    }) c.in-Some-thing.message found
