use Rattle.std.proofs.Common.{ℕ, ap, ◌∙◌}
use Rattle.sat_chain_rules.specs.Steps.{chain_rules}
use Rattle.sat_follow.specs.Rules.{meaning_of}
use Rattle.sat_chain_runs.specs.ChainTexts.{texts_of}
use Rattle.sat_chain_runs.proofs.chain_lines.chain_follower.Goals as goal

pub returns-clause-meaning : goal.returns-clause-meaning
returns-clause-meaning c = c.new-2.ensures.meaning ∙ ap (λ (r : ℕ). meaning_of (chain_rules (texts_of r) r)) c.new.ensures.replicas ∙ c.chain_lines_make_texts.ensures (texts_of c.args.replicas) c.args.replicas
