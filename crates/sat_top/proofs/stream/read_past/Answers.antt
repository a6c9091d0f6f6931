use Rattle.std.proofs.Common.{◌++◌, take, arith}
use Rattle.std.proofs.lemmas.List.{length-append}
use Rattle.sat_pieces.proofs.Progress.{consumes_more}
use Rattle.sat_top.proofs.stream.read_past.Goals as goal

pub returns-in_err-extend_from_slice-in-Ok-clause-bounded : goal.returns-in_err-extend_from_slice-in-Ok-clause-bounded
returns-in_err-extend_from_slice-in-Ok-clause-bounded g c =
    let had = c.loop-buffer.invariant in
    let piece = take c.in-Ok.count c.read.new.into in (
      c.loop-buffer.text.items ++ piece,
      consumes_more (g.S.Source.left c.args.source.now) (g.S.Source.left c.loop-buffer.source) (g.S.Source.left c.read.new.self) c.loop-buffer.text.items piece had.1 c.in-Ok.ensures.bytes.0,
      omega (arith, length-append c.loop-buffer.text.items piece, c.in-Ok.ensures.count.1, c.in-Ok.ensures.count.0),
    )
