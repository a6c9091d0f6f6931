use Rattle.sat_process.proofs.Together.{good_of, kept_of, run_of}
use Rattle.sat_process.proofs.storing.processes_keep.Goals as goal

pub returns-clause-kept : goal.returns-clause-kept
returns-clause-kept g c = kept_of _ c.args.sites.now c.args.serials.now c.requires.sites c.requires.serials c.look_all.ensures c.look_all-2.ensures

pub returns-clause-run : goal.returns-clause-run
returns-clause-run g c = run_of _ _ _ c.storing.ensures.run (kept_of _ c.args.sites.now c.args.serials.now c.requires.sites c.requires.serials c.look_all.ensures c.look_all-2.ensures)

pub returns-clause-good : goal.returns-clause-good
returns-clause-good g c = good_of _ _ _ c.storing.ensures.good (kept_of _ c.args.sites.now c.args.serials.now c.requires.sites c.requires.serials c.look_all.ensures c.look_all-2.ensures)
