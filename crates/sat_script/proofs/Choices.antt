-- What a good line passed on its way.
use Rattle.std.proofs.Common.{◌≡◌, Bool, true, false, cond, ℕ, List, Option, Some, None, Result, Ok, Err, refl}
use Rattle.std.specs.Str.{bytes_eq}
use Rattle.std.proofs.lemmas.Slice.Eq.{bytes_eq-Decides}
use Rattle.sat_script.specs.Causes.{given, barred}
use Rattle.sat_script.specs.declared.fault.Cause.{Cause}

-- a test that must pass, and one that must not
pub passed : {Y : Type 0} (b : Bool) (r : Result Y Cause) (e : Cause) (p : Y) → cond b r (Err e) ≡ Ok p → (b ≡ true) × (r ≡ Ok p)
passed true r e p h = (refl, h)
passed false r e p h = absurd (cc)

pub skipped : {Y : Type 0} (b : Bool) (r : Result Y Cause) (e : Cause) (p : Y) → cond b (Err e) r ≡ Ok p → (b ≡ false) × (r ≡ Ok p)
skipped true r e p h = absurd (cc)
skipped false r e p h = (refl, h)

-- a cause that must not be there
pub unbarred : {Y : Type 0} (o : Option Cause) (r : Result Y Cause) (p : Y) → barred o r ≡ Ok p → (o ≡ None) × (r ≡ Ok p)
unbarred None r p h = (refl, h)
unbarred (Some cause) r p h = absurd (cc)

-- a value under a test
pub tested : {X : Type 0} (b : Bool) (x y : X) → cond b (Some x) None ≡ Some y → (b ≡ true) × (x ≡ y)
tested true x y h = (refl, cc)
tested false x y h = absurd (cc)

-- a value that must be there
pub found : {X Y : Type 0} (o : Option X) (e : Cause) (next : X → Result Y Cause) (p : Y) → given e o next ≡ Ok p → (x : X) × (o ≡ Some x) × (next x ≡ Ok p)
found (Some x) e next p h = (x, refl, h)
found None e next p h = absurd (cc)

pub same_ok : {Y : Type 0} (x y : Y) → (let r : Result Y Cause = Ok x in r) ≡ Ok y → x ≡ y
same_ok x y h = cc

pub word_is : (word text : List ℕ) → bytes_eq word text ≡ true → word ≡ text
word_is word text h = (bytes_eq-Decides word text).0 h

pub word_same : (word : List ℕ) → bytes_eq word word ≡ true
word_same word = (bytes_eq-Decides word word).1 refl
