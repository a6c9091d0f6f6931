use Rattle.sat_stream.proofs.Coming.{read_fault, read_whole, some_deployment, found_spells}
use Rattle.sat_stream.proofs.script.read_script.Goals as goal

pub returns-in-Err-clause-err : goal.returns-in-Err-clause-err
returns-in-Err-clause-err c = λ not_memory.
    read_fault c.new-reader.result c.feed.new.self c.args.live c.args.bytes.now c.in-Err.fault c.new-reader.ensures.script (c.in-Err.ensures.script not_memory) c.in-Err.ensures.fault

pub unreachable-requires : goal.unreachable-requires
unreachable-requires c =
    let whole = read_whole c.new-reader.result c.feed.new.self c.args.live c.args.bytes.now c.finish-deployment.result c.new-reader.ensures.script c.in_default.ensures.script c.finish-deployment.ensures.script in
    some_deployment c.args.live c.args.bytes.now c.finish-deployment.result whole c.in_default-fault.is c.in-None.is

pub returns-clause-spelled : goal.returns-clause-spelled
returns-clause-spelled c =
    let whole = read_whole c.new-reader.result c.feed.new.self c.args.live c.args.bytes.now c.finish-deployment.result c.new-reader.ensures.script c.in_default.ensures.script c.finish-deployment.ensures.script in
    found_spells c.args.live c.args.bytes.now c.finish-deployment.result c.in-Some-deployment.deployment whole c.in_default-fault.is c.in-Some-deployment.is
