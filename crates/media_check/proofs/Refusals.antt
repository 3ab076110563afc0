-- The names that an opening reads, and the first that it refuses.
use Rattle.std.proofs.Common.{ℕ, List, [], ◌∷◌, ◌++◌, Option, Err, append_assoc, inl}
use Rattle.std.specs.Prelude.{All}
use Rattle.std.specs.Option.{ForSome}
use Rattle.std.proofs.lemmas.List.Elements.{All-nil, All-append, All-push}
use Rattle.load_base.specs.Host.{Files}
use Rattle.media_check.specs.HostNames.{ReadingOrder}
use Rattle.media_check.specs.Openings.{IsShortOnHost, IsFirstLong, ReadsNames, ReadsSet}
use Rattle.media_check.specs.Sets.{SetView}
use Rattle.media_check.specs.declared.fault.OpenFault.{OpenFault}
use Rattle.media_check.specs.declared.fault.OpenFault.TheVariants.{TooLong, TooLarge, Failed, Memory}

-- ---- where something is told

pub told_also : {A : Type 0} (o : Option A) (P Q : A → Type 0) → ForSome o P → ((x : A) → P x → Q x) → ForSome o Q
told_also o P Q p f = λ x told. f x (p x told)

pub told_both : {A : Type 0} (o : Option A) (P Q R : A → Type 0) → ForSome o P → ForSome o Q → ((x : A) → P x → Q x → R x) → ForSome o R
told_both o P Q R p q f = λ x told. f x (p x told) (q x told)

pub told_all : {A : Type 0} (o : Option A) (P Q R S : A → Type 0) → ForSome o P → ForSome o Q → ForSome o R → ((x : A) → P x → Q x → R x → S x) → ForSome o S
told_all o P Q R S p q r f = λ x told. f x (p x told) (q x told) (r x told)

pub told_anyway : {A : Type 0} (o : Option A) (P : A → Type 0) → ((x : A) → P x) → ForSome o P
told_anyway o P f = λ x told. f x

-- ---- the first that is too long

pub first_long_later : (files : Files) (before names after : List (List ℕ)) (name : List ℕ) → All (IsShortOnHost files) before → IsFirstLong files names name
    → IsFirstLong files (before ++ (names ++ after)) name
first_long_later files before names after name short first = record {
  before = before ++ first.before;
  after = first.after ++ after;
  stands = rw first.stands (simp append_assoc);
  others = All-append (IsShortOnHost files) before first.before short first.others;
  long = first.long;
}

-- a refusal of some names is one of all
pub names_refused : {S T : Type 0} (files : Files) (before names after : List (List ℕ)) (P : Files → S → Type 0) (Q : Files → T → Type 0) (fault : OpenFault) → All (IsShortOnHost files) before
    → ReadsNames names P (Err fault) files → ReadsNames (before ++ (names ++ after)) Q (Err fault) files
names_refused files before names after P Q (TooLong name) short reads = first_long_later files before names after name.items short reads
names_refused files before names after P Q TooLarge short reads = reads
names_refused files before names after P Q Failed short reads = tt
names_refused files before names after P Q Memory short reads = tt

-- a refusal of a list is one of the set
pub list_refused : {S : Type 0} (files : Files) (reading : ReadingOrder) (set : SetView) (P : Files → S → Type 0) (fault : OpenFault)
    → ReadsNames reading.lists P (Err fault) files → ReadsSet files reading set (Err fault)
list_refused files reading set P (TooLong name) reads = inl reads
list_refused files reading set P TooLarge reads = absurd reads
list_refused files reading set P Failed reads = tt
list_refused files reading set P Memory reads = tt

pub one_short : (files : Files) (name : List ℕ) → IsShortOnHost files name → All (IsShortOnHost files) (name ∷ [])
one_short files name short = All-push (IsShortOnHost files) [] name (All-nil (IsShortOnHost files)) short
