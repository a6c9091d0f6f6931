use Rattle.std.proofs.Common.{◌≡◌, length, Some, slice_get, IfOk, OnErr, refl, sym, subst}
use Rattle.std.proofs.lemmas.Option.{slice_get_read}
use Rattle.sat_message.specs.Numbering.{Gives, IsAt, put_before}
use Rattle.sat_host.proofs.Cursors.{at_set, gives_there, passed_there, place_is, place_other, place_set}
use Rattle.sat_host.proofs.host.give.Goals as goal

pub next_message-requires : goal.next_message-requires
next_message-requires g c =
    let ends = c.args.cursors.now.items in
    let was = c.index_mut-cursor.result.now in
    let at : slice_get ends c.args.link ≡ Some was = slice_get_read ends (length ends) c.args.link was refl c.requires.row c.index_mut-cursor.ensures.value in
    record {
      at = subst (λ l. IsAt (g.M.Machine.meaning.puts c.name-name.result c.args.link) l was) (sym c.journal.ensures.entries)
          (subst (λ n. IsAt (g.M.Machine.meaning.puts n c.args.link) c.args.node.now.entries was) (sym c.name-name.ensures) (c.requires.at c.args.link was at));
    }

pub returns-clause-at : goal.returns-clause-at
returns-clause-at g c =
    let ends = c.args.cursors.now.items in
    at_set g.M.Machine.meaning c.args.node.now.name c.args.node.now.entries ends c.args.link c.next_message.new.self c.requires.at
    (subst (λ n. IsAt (g.M.Machine.meaning.puts n c.args.link) c.args.node.now.entries c.next_message.new.self) c.name-name.ensures
    (subst (λ l. IsAt (g.M.Machine.meaning.puts c.name-name.result c.args.link) l c.next_message.new.self) c.journal.ensures.entries c.next_message.ensures.at))

pub returns-clause-gives : goal.returns-clause-gives
returns-clause-gives g c =
    let ends = c.args.cursors.now.items in
    let was = c.index_mut-cursor.result.now in
    let new = c.next_message.new.self in
    let at : slice_get ends c.args.link ≡ Some was = slice_get_read ends (length ends) c.args.link was refl c.requires.row c.index_mut-cursor.ensures.value in
    gives_there (g.M.Machine.meaning.puts c.args.node.now.name c.args.link) c.args.node.now.entries c.next_message.result was.next _ new.next _ (sym (place_is ends c.args.link was at)) (sym (place_set ends c.args.link new c.requires.row))
    (subst (λ n. IfOk c.next_message.result (Gives (g.M.Machine.meaning.puts n c.args.link) c.args.node.now.entries was.next new.next)) c.name-name.ensures
    (subst (λ l. IfOk c.next_message.result (Gives (g.M.Machine.meaning.puts c.name-name.result c.args.link) l was.next new.next)) c.journal.ensures.entries c.next_message.ensures.gives))

pub returns-clause-others : goal.returns-clause-others
returns-clause-others g c = λ k e. place_other c.args.cursors.now.items c.args.link k c.next_message.new.self e

pub returns-clause-err : goal.returns-clause-err
returns-clause-err g c =
    let ends = c.args.cursors.now.items in
    let was = c.index_mut-cursor.result.now in
    let new = c.next_message.new.self in
    let at : slice_get ends c.args.link ≡ Some was = slice_get_read ends (length ends) c.args.link was refl c.requires.row c.index_mut-cursor.ensures.value in
    passed_there (g.M.Machine.meaning.puts c.args.node.now.name c.args.link) c.args.node.now.entries c.next_message.result was.next _ new.next _ (sym (place_is ends c.args.link was at)) (sym (place_set ends c.args.link new c.requires.row))
    (subst (λ n. OnErr c.next_message.result (put_before (g.M.Machine.meaning.puts n c.args.link) c.args.node.now.entries new.next ≡ put_before (g.M.Machine.meaning.puts n c.args.link) c.args.node.now.entries was.next)) c.name-name.ensures
    (subst (λ l. OnErr c.next_message.result (put_before (g.M.Machine.meaning.puts c.name-name.result c.args.link) l new.next ≡ put_before (g.M.Machine.meaning.puts c.name-name.result c.args.link) l was.next)) c.journal.ensures.entries c.next_message.ensures.err))
