-- What words give that ask for no input.
use Rattle.std.proofs.Common.{◌≡◌, ℕ, List, Option, Some, None}
use Rattle.sat_top.specs.declared.words.Command.{Command}
use Rattle.sat_top.specs.declared.words.Command.TheVariants.{Load, Help, Version}
use Rattle.sat_top.specs.Loading.{load_text, IsGoodLoad}
use Rattle.sat_top.specs.Whole.{IsOutput, help, refusal, version}
use Rattle.sat_pieces.proofs.Progress.{some_text}

pub refused_output : (c : Option Command) (left : Option (List ℕ)) (text : List ℕ) (status : ℕ) → c ≡ None → text ≡ refusal → status ≡ 2 → IsOutput c left text status
refused_output c left text status none is two = rw none (record { input = (some_text left).0; whole = (some_text left).1; output = is; status_is = two; proves = tt })

pub help_output : (c : Option Command) (left : Option (List ℕ)) (text : List ℕ) (status : ℕ) → c ≡ Some Help → text ≡ help → status ≡ 0 → IsOutput c left text status
help_output c left text status some is zero = rw some (record { input = (some_text left).0; whole = (some_text left).1; output = is; status_is = zero; proves = tt })

pub version_output : (c : Option Command) (left : Option (List ℕ)) (text : List ℕ) (status : ℕ) → c ≡ Some Version → text ≡ version → status ≡ 0 → IsOutput c left text status
version_output c left text status some is zero = rw some (record { input = (some_text left).0; whole = (some_text left).1; output = is; status_is = zero; proves = tt })

pub load_done : (c : Option Command) (left : Option (List ℕ)) (text : List ℕ) (status seed acts : ℕ) → c ≡ Some (Load seed acts) → text ≡ load_text seed acts → status ≡ 0 → IsGoodLoad seed acts → IsOutput c left text status
load_done c left text status seed acts some is zero good = rw some (record { input = (some_text left).0; whole = (some_text left).1; output = is; status_is = zero; proves = good })
