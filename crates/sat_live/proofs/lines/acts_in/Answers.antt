use Rattle.std.proofs.Common.{rules, ◌≡◌, ◌<◌, ◌+◌, ◌++◌, ◌∷◌, [], get_or, length, take, sym, ap, subst, ◌∙◌}
use Rattle.std.proofs.lemmas.List.{take_more}
use Rattle.sat_act.specs.declared.act.Act.{Act}
use Rattle.sat_act.specs.declared.entry.Entry.{Entry}
use Rattle.sat_act.specs.Ranges.{IsActOf}
use Rattle.sat_script.specs.Spelled.{AreActsOf}
use Rattle.sat_stitch.specs.Kept.{acts_of}
use Rattle.sat_live.proofs.Journals.{acts_more, each_more}
use Rattle.sat_live.proofs.lines.acts_in.Goals as goal

pub loop-entry-preserved : goal.loop-entry-preserved
loop-entry-preserved c =
    let had = c.loop-entry.invariant in
    let n = c.loop-entry.entry-index in
    let inside : c.loop-entry.entry-index < length c.args.journal.now = search rules in
    let here : get_or c.args.journal.now c.loop-entry.entry-index c.entry-item.result ≡ c.entry-item.result = search rules in
    let front : take (c.loop-entry.entry-index + 1) c.args.journal.now ≡ take c.loop-entry.entry-index c.args.journal.now ++ c.entry-item.result ∷ [] =
    take_more c.args.journal.now c.loop-entry.entry-index c.entry-item.result inside ∙ ap (λ (e : Entry). take c.loop-entry.entry-index c.args.journal.now ++ e ∷ []) here in
    let line : IsActOf c.args.d.now c.entry-item.result.act = search rules in
    let more : c.push.new.self.items ≡ c.loop-entry.acts.items ++ c.entry-item.result.act ∷ [] = c.in_ok-push.ensures.items ∙ ap (λ (a : Act). c.loop-entry.acts.items ++ a ∷ []) c.in_ok-act.ensures in
    record {
      acts = more ∙ (acts_more (take c.loop-entry.entry-index c.args.journal.now) c.entry-item.result c.loop-entry.acts.items had.acts ∙ ap acts_of (sym front));
      each = subst (AreActsOf c.args.d.now) (sym more) (each_more c.args.d.now c.loop-entry.acts.items c.entry-item.result.act had.each line);
    }
