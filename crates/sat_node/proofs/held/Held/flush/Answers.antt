use Rattle.std.proofs.Common.{◌≡◌, ◌<◌, length, Some, slice_get, ap, refl, sym, subst}
use Rattle.std.proofs.lemmas.Option.{slice_get_read}
use Rattle.sat_node.specs.Puts.{Sends, Flushed}
use Rattle.sat_node.proofs.Members.{replaced}
use Rattle.sat_node.proofs.Ties.{tied_out}
use Rattle.sat_node.proofs.held.Held.flush.Goals as goal

pub flush-requires : goal.flush-requires
flush-requires g c =
    let ends = c.self.inside.outs.items in
    let was = c.index_mut-out.result.now in
    let less : c.args.link < length ends = rw (ap (λ h. length h.outs) c.self.view_is) c.requires in
    let at : slice_get ends c.args.link ≡ Some was = slice_get_read ends (length ends) c.args.link was refl less c.index_mut-out.ensures.value in
    let here : Sends (g.M.Machine.meaning.puts c.self.inside.node.name c.args.link) c.self.inside.node.entries was = c.self.invariant.sending c.args.link was at in
    subst (λ l. Sends (g.M.Machine.meaning.puts c.name-name.result c.args.link) l was) (sym c.journal.ensures.entries)
    (subst (λ n. Sends (g.M.Machine.meaning.puts n c.args.link) c.self.inside.node.entries was) (sym c.name-name.ensures) here)

pub invariant_of-self : goal.invariant_of-self
invariant_of-self g c =
    let ends = c.self.inside.outs.items in
    let was = c.index_mut-out.result.now in
    let less : c.args.link < length ends = rw (ap (λ h. length h.outs) c.self.view_is) c.requires in
    let at : slice_get ends c.args.link ≡ Some was = slice_get_read ends (length ends) c.args.link was refl less c.index_mut-out.ensures.value in
    let sends = subst (λ n. Sends (g.M.Machine.meaning.puts n c.args.link) c.journal.result.now c.flush.new.self) c.name-name.ensures c.flush.ensures.sends in
    tied_out g.M.Machine.meaning (record { node = c.self.inside.node; outs = ends; ins = c.self.inside.ins.items }) c.args.link was c.flush.new.self c.self.invariant at
    (subst (λ l. Sends (g.M.Machine.meaning.puts c.self.inside.node.name c.args.link) l c.flush.new.self) c.journal.ensures.entries sends) c.flush.ensures.flushed.place

pub returns-clause-flushed : goal.returns-clause-flushed
returns-clause-flushed g c =
    let ends = c.self.inside.outs.items in
    let was = c.index_mut-out.result.now in
    let less : c.args.link < length ends = rw (ap (λ h. length h.outs) c.self.view_is) c.requires in
    let at : slice_get ends c.args.link ≡ Some was = slice_get_read ends (length ends) c.args.link was refl less c.index_mut-out.ensures.value in
    rw (← c.self.view_is) (replaced (Flushed c.self.inside.node.entries c.flush.result) ends c.args.link was c.flush.new.self at (subst (λ l. Flushed l c.flush.result was c.flush.new.self) c.journal.ensures.entries c.flush.ensures.flushed))
