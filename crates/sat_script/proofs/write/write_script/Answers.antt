use Rattle.std.proofs.Common.{rules, arith, ◌≡◌, ◌++◌, ◌∷◌, [], ap, ◌∙◌, drop, List}
use Rattle.std.specs.Prelude.{codes}
use Rattle.std.proofs.lemmas.List.{drop_all}
use Rattle.sat_act.specs.declared.act.Act.{Act}
use Rattle.sat_script.specs.Spelled.{acts_text, ended, header_text}
use Rattle.sat_script.proofs.Written.{spelled_front, on_err, front_written, all_written}
use Rattle.sat_script.proofs.write.write_script.Goals as goal

pub loop-act-init : goal.loop-act-init
loop-act-init c =
    let added : c.extend_from_slice.new.self.items ≡ c.args.out.now.items ++ (header_text c.args.d.now ++ ended (codes "begin" ∷ [])) = search rules in
    (header_text c.args.d.now ++ ended (codes "begin" ∷ []), spelled_front c.args.d.now c.args.acts.now, added)

pub returns-in_err-line-clause-err : goal.returns-in_err-line-clause-err
returns-in_err-line-clause-err c =
    let had = c.loop-act.invariant in
    on_err _ _ (front_written c.args.out.now.items c.loop-act.out.items _ had.0 _ had.1 had.2)

pub returns-in_err-extend_from_slice-2-clause-err : goal.returns-in_err-extend_from_slice-2-clause-err
returns-in_err-extend_from_slice-2-clause-err c =
    let had = c.loop-act.invariant in
    let same : c.extend_from_slice-in-loop-act.new.self.items ≡ c.loop-act.out.items = search rules in
    on_err _ _ (front_written c.args.out.now.items c.extend_from_slice-in-loop-act.new.self.items _ had.0 _ had.1 (same ∙ had.2))

pub returns-in_err-extend_from_slice-3-clause-err : goal.returns-in_err-extend_from_slice-3-clause-err
returns-in_err-extend_from_slice-3-clause-err c =
    let had = c.loop-act.invariant in
    let same : c.extend_from_slice-2.new.self.items ≡ c.loop-act.out.items = search rules in
    on_err _ _ (front_written c.args.out.now.items c.extend_from_slice-2.new.self.items _ had.0 _ had.1 (same ∙ had.2))

pub returns-clause-ok : goal.returns-clause-ok
returns-clause-ok c =
    let had = c.loop-act.invariant in
    let none : drop c.loop-act.act-index c.args.acts.now ≡ [] = drop_all c.loop-act.act-index c.args.acts.now (omega arith) in
    let last = had.1 ∙ ap (λ (acts : List Act). had.0 ++ (acts_text c.args.d.now acts ++ ended (codes "end" ∷ []))) none in
    all_written c.args.out.now.items had.0 c.loop-act.out.items c.extend_from_slice-2.new.self.items _ (ended (codes "end" ∷ [])) last had.2 (search rules)
