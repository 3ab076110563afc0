-- The part numbers of a target, one after the other.
use Rattle.std.proofs.Common.{◌≡◌, ℕ, List, [], ◌++◌, Result, Ok, Err, refl}
use Rattle.media_build.specs.declared.fault.RecipeFault.{RecipeFault}

-- these parts, and then those that are said, where nothing is refused
abbrev pub with_these : List (List ℕ) → Result (List (List ℕ)) RecipeFault → Result (List (List ℕ)) RecipeFault
with_these parts (Ok more) = Ok (parts ++ more)
with_these parts (Err fault) = Err fault

pub none_before : (said : Result (List (List ℕ)) RecipeFault) → said ≡ with_these [] said
none_before (Ok more) = refl
none_before (Err fault) = refl
