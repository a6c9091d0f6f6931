-- What is made of a text with chains.
use Rattle.std.specs.Prelude.{ℕ, List}
use Rattle.sat_act.specs.Deployed.{Deployed}
use Rattle.sat_chain_laws.specs.Chains.{ChainEntry, plain}
use Rattle.sat_chain_rules.specs.Texts.{ChainTexts, chain_answers as answers_with, chain_text as text_with}
use Rattle.sat_chain_rules.specs.Texts.{chain_status as status_with, chain_meaning as meaning_with}
use Rattle.sat_chain_script.specs.Readings.{ChainReading}
use Rattle.sat_chain_texts.specs.Texts.{chain_answer_text}
use Rattle.sat_follow.specs.Meaning.{Meaning}
use Rattle.sat_report.specs.Faults.{fault_line}
use Rattle.sat_report.specs.Holdings.{holdings}

-- an answer and a fault as they are told, and what the sites hold after the plain history, where each serializer has r
-- replicas
abbrev pub texts_of : ℕ → ChainTexts
texts_of r = record { answer = chain_answer_text; fault = fault_line; holdings = λ d c. holdings d (plain r c) }

-- the answers of a history with chains, numbered from 1
abbrev pub chain_answers : ℕ → Deployed → List ChainEntry → List ℕ
chain_answers r d c = answers_with (texts_of r) d c

-- the whole output
abbrev pub chain_text : ℕ → ChainReading → List ℕ
chain_text r x = text_with (texts_of r) r x

-- 0, or 1 where a line is bad
abbrev pub chain_status : ChainReading → ℕ
chain_status x = status_with x.fault

-- what is made of a text, as a follower has it
abbrev pub chain_meaning : ℕ → Meaning
chain_meaning r = meaning_with (texts_of r) r
