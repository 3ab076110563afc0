-- No name is set but those of a set.
use Rattle.std.proofs.Common.{◌≡◌, ℕ, List, Option, Some, refl, ◌∙◌}
use Rattle.std.specs.Option.{ForSome}
use Rattle.load_base.specs.Host.{Files}
use Rattle.media_build.specs.WrittenFolders.{KeepsAllBut}

-- where nothing is written
pub nothing_set : (IsSet : Files → List ℕ → Type 0) (old new : Option Files) → new ≡ old → ForSome old (λ told. KeepsAllBut (IsSet told) told new)
nothing_set IsSet old new same = λ told is. record { files = told; told = same ∙ is; others = λ name other. refl }

-- of a host whose files stayed before that, and where more names may be set
pub sets_more : (IsSet IsMore : Files → List ℕ → Type 0) (first old new : Option Files) → old ≡ first → ((told : Files) → first ≡ Some told → (name : List ℕ) → IsSet told name → IsMore told name)
    → ForSome old (λ told. KeepsAllBut (IsSet told) told new) → ForSome first (λ told. KeepsAllBut (IsMore told) told new)
sets_more IsSet IsMore first old new same more keeps = λ told is.
    let has = keeps told (same ∙ is) in
    record { files = has.files; told = has.told; others = λ name other. has.others name (λ one. other (more told is name one)) }
