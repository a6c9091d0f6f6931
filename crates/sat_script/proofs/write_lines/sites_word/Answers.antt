use Rattle.std.proofs.Common.{rules, arith}
use Rattle.sat_script.proofs.Written.{sites_more, sites_all}
use Rattle.sat_script.proofs.write_lines.sites_word.Goals as goal

pub loop-site-preserved : goal.loop-site-preserved
loop-site-preserved c = sites_more c.args.set.bits c.loop-site.site c.loop-site.word.items c.add_site.new.list.items (omega arith) c.loop-site.invariant (search rules)

pub returns : goal.returns
returns c = sites_all c.args.set c.loop-site.site c.loop-site.word.items (omega arith) c.loop-site.invariant
