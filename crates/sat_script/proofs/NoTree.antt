-- No word names a node of no tree.
use Rattle.std.proofs.Common.{◌≡◌, ℕ, Bool, true, false, ◌&&◌, ltb, eqb, cond, arith, List, [], ◌∷◌, Some, None, refl}
use Rattle.std.specs.Option.{option_map}
use Rattle.std.proofs.lemmas.Bool.Decides.{nat_tests}
use Rattle.sat_label.specs.declared.node.NodeId.TheVariants.{Site, Serializer}
use Rattle.sat_script.specs.Table.{no_tree}
use Rattle.sat_script.specs.Words.{is_number, value_of, number_below, node_in, serializer_in}

none_below : (word : List ℕ) → number_below 0 word ≡ None
unfolding number_below
none_below word = go (is_number word) (value_of word)
  where
    go : (b : Bool) (n : ℕ) → cond (b && ltb n 0) (Some n) None ≡ None
    go true n = let never : ltb n 0 ≡ false = grind (arith, nat_tests) in rw never refl
    go false n = refl

pub no_serializer : (word : List ℕ) → serializer_in no_tree word ≡ None
unfolding serializer_in
no_serializer [] = refl
no_serializer (byte ∷ number) = none_below number

pub no_node : (word : List ℕ) → node_in no_tree word ≡ None
unfolding node_in
no_node [] = refl
no_node (byte ∷ number) = go (eqb byte 115)
  where
    go : (b : Bool) → cond b (option_map Site (number_below 0 number)) (option_map Serializer (number_below 0 number)) ≡ None
    go true = rw (none_below number) refl
    go false = rw (none_below number) refl
