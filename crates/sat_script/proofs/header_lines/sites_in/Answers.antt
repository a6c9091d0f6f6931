use Rattle.std.proofs.Common.{rules, ◌≡◌, ◌∙◌, true, ap, map, ltb, List, ℕ, Bor}
use Rattle.std.specs.List.{list_all}
use Rattle.sat_script.specs.Words.{value_of, are_below}
use Rattle.sat_script.proofs.Steps.{few_sites}
use Rattle.sat_script.proofs.header_lines.sites_in.Goals as goal

pub set_of-requires : goal.set_of-requires
set_of-requires c =
    let texts : List (List ℕ) = map (λ (part : Bor (List ℕ)). part.now) c.args.parts.now in
    let below : are_below c.args.limit texts ≡ true = search rules in
    let numbers : c.as_slice.result.now ≡ map value_of texts = search rules in
    ap (λ (ns : List ℕ). list_all (λ site. ltb site 64) ns) numbers ∙ few_sites c.args.limit texts c.requires.few below
