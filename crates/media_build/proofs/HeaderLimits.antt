-- Which headers of a recipe are too long, and that no length depends on the bytes of sources.
use Rattle.std.proofs.Common.{◌≡◌, ℕ, ◌+◌, ◌*◌, ◌≤◌, List, [], ◌∷◌, ◌++◌, length, append-nil, append_assoc, length-append, Ok, Err, refl, sym, ap, subst, ◌∙◌, arith}
use Rattle.std.specs.Prelude.{map, All}
use Rattle.std.specs.List.{AllByRecursion, sum_by}
use Rattle.std.proofs.lemmas.List.{length-map}
use Rattle.std.proofs.lemmas.List.Elements.{All-nil, All-cons}
use Rattle.std.proofs.lemmas.List.Sums.{sum_by-append, sum_by-cons}
use Rattle.load_base.specs.Host.{longest_file}
use Rattle.load_header.specs.Header.{HeaderView}
use Rattle.load_header.specs.declared.header.FileEntry.{FileEntry}
use Rattle.media_build.specs.Accepted.{IsSmallLoad, IsRecipe}
use Rattle.media_build.specs.Building.{unread, HasShortHeader, header_length, headers_length, IsHeaderIfShort, AnswersHeader, AnswersHeaders}
use Rattle.media_build.specs.declared.building_fault.BuildFault.{BuildFault}
use Rattle.media_build.specs.declared.building_fault.BuildFault.TheVariants.{Absent, TooLong, TooLarge, HeaderTooLong, ListTooLong, Failed, Memory}
use Rattle.media_build.specs.Lines.{members_of}
use Rattle.media_build.specs.Parts.{IsShortSource, bytes_from, entry_of, files_from, header_with}
use Rattle.media_build.specs.RecipeSets.{RecipeLoadView, Sources, bytes_of, data_of, support_of, file_entry, files_of, header_start, loads_of}
use Rattle.media_build.specs.declared.statements.FileLine.{FileLine}
use Rattle.media_build.specs.declared.statements.RecipeLine.{RecipeLine}
use Rattle.media_build.proofs.BuiltHeaders.{second_part, short_is_header}
use Rattle.media_build.proofs.BuiltLists.{IsSoundLoad, sound_loads, all_append}
use Rattle.media_build.proofs.BuiltNames.{few_loads, header_name_of}

-- ---- the header of files with their bytes

entries_from : (sources : Sources) (lines : List FileLine) → map entry_of (map (bytes_from sources) lines) ≡ map (file_entry sources) lines
entries_from sources [] = refl
entries_from sources (line ∷ lines) = ap (λ (entries : List FileEntry). file_entry sources line ∷ entries) (entries_from sources lines)

pub start_with : (sources : Sources) (load : RecipeLoadView) → header_with load (files_from sources load.own) ≡ header_start sources load
unfolding header_with header_start
start_with sources load = rw (entries_from sources (data_of load), entries_from sources (support_of load)) refl

pub unread_start : (load : RecipeLoadView) (header : HeaderView) → header ≡ header_with load (files_from unread load.own) → header ≡ header_start unread load
unread_start load header is = is ∙ start_with unread load

-- ---- which are too long

pub no_bytes_short : (files : List FileLine) → AllByRecursion (λ file. length (bytes_of unread file) ≤ longest_file) files
no_bytes_short [] = tt
no_bytes_short (file ∷ files) = (omega arith, no_bytes_short files)

pub each_fits : (lines : List RecipeLine) → IsRecipe lines → AllByRecursion IsHeaderIfShort (loads_of lines)
each_fits lines is = by (loads_of lines) (sound_loads lines is) is.loads
  where
    by : (loads : List RecipeLoadView) → AllByRecursion (IsSoundLoad (members_of lines)) loads → AllByRecursion IsSmallLoad loads → AllByRecursion IsHeaderIfShort loads
    by [] sound small = tt
    by (load ∷ loads) sound small =
        (λ short. short_is_header unread (members_of lines) load sound.0 small.0 (no_bytes_short (files_of load)) short, by loads sound.1 small.1)

pub unread_short : (lines : List FileLine) → All IsShortSource (map (bytes_from unread) lines)
unread_short [] = All-nil IsShortSource
unread_short (line ∷ lines) = All-cons IsShortSource (bytes_from unread line) (map (bytes_from unread) lines) (omega arith) (unread_short lines)

-- ---- headers one after the other

-- of the loads of these lines these are left, and the headers of those before them have this many bytes
pub record HeadersSoFar (lines : List RecipeLine) (left : List RecipeLoadView) (bytes : ℕ) : Type 0 where
  pub before : List RecipeLoadView
  pub stands : loads_of lines ≡ before ++ left
  pub short : AllByRecursion HasShortHeader before
  pub bytes_are : bytes ≡ headers_length before

pub no_headers : (lines : List RecipeLine) (left : List RecipeLoadView) → left ≡ loads_of lines → HeadersSoFar lines left 0
no_headers lines left all = record { before = []; stands = sym all; short = tt; bytes_are = refl }

pub one_header_more : (lines : List RecipeLine) (left rest : List RecipeLoadView) (load : RecipeLoadView) (bytes more : ℕ) → HeadersSoFar lines left bytes → left ≡ load ∷ rest
    → HasShortHeader load × (more ≡ header_length load) → HeadersSoFar lines rest (bytes + more)
one_header_more lines left rest load bytes more so_far is this = record {
  before = so_far.before ++ load ∷ [];
  stands = so_far.stands ∙ (ap (λ (l : List RecipeLoadView). so_far.before ++ l) is ∙ sym (append_assoc so_far.before (load ∷ []) rest));
  short = all_append HasShortHeader so_far.before (load ∷ []) so_far.short (this.0, tt);
  bytes_are =
      let sum = sum_by-append header_length so_far.before (load ∷ []) in
      let one : sum_by header_length (load ∷ []) ≡ header_length load = omega arith in
      omega (arith, sum, one, this.1, so_far.bytes_are);
}

pub all_headers : (lines : List RecipeLine) (left : List RecipeLoadView) (bytes : ℕ) → HeadersSoFar lines left bytes → left ≡ [] → AnswersHeaders lines (Ok bytes)
all_headers lines left bytes so_far none =
    let all : loads_of lines ≡ so_far.before = so_far.stands ∙ (ap (λ (l : List RecipeLoadView). so_far.before ++ l) none ∙ append-nil so_far.before) in
    rw all (so_far.short, so_far.bytes_are)

pub long_header : (lines : List RecipeLine) (left rest : List RecipeLoadView) (load : RecipeLoadView) (bytes : ℕ) (fault : BuildFault) → HeadersSoFar lines left bytes → left ≡ load ∷ rest
    → AnswersHeader load (Err fault) → AnswersHeaders lines (Err fault)
long_header lines left rest load bytes (HeaderTooLong line) so_far is this = record {
  before = so_far.before;
  load = load;
  after = rest;
  stands = so_far.stands ∙ ap (λ (l : List RecipeLoadView). so_far.before ++ l) is;
  others = so_far.short;
  number = this.0;
  long = this.1;
}
long_header lines left rest load bytes Memory so_far is this = tt
long_header lines left rest load bytes ListTooLong so_far is this = absurd this
long_header lines left rest load bytes (Absent name) so_far is this = absurd this
long_header lines left rest load bytes (TooLong name) so_far is this = absurd this
long_header lines left rest load bytes TooLarge so_far is this = absurd this
long_header lines left rest load bytes Failed so_far is this = absurd this

-- what holds of each load holds of the next
pub of_this : (P : RecipeLoadView → Type 0) (lines : List RecipeLine) (left rest : List RecipeLoadView) (load : RecipeLoadView) (bytes : ℕ) → HeadersSoFar lines left bytes → left ≡ load ∷ rest
    → AllByRecursion P (loads_of lines) → P load
of_this P lines left rest load bytes so_far is all =
    (second_part P so_far.before (load ∷ rest) (subst (AllByRecursion P) (so_far.stands ∙ ap (λ (l : List RecipeLoadView). so_far.before ++ l) is) all)).0

-- how many bytes the headers of some loads have at most
pub headers_bound : (loads : List RecipeLoadView) → AllByRecursion HasShortHeader loads → headers_length loads ≤ 65536 * length loads
headers_bound [] all = omega arith
headers_bound (load ∷ loads) all = omega (arith, sum_by-cons header_length load loads, all.0, headers_bound loads all.1)

pub headers_few : (lines : List RecipeLine) (left : List RecipeLoadView) (bytes : ℕ) → IsRecipe lines → HeadersSoFar lines left bytes → bytes ≤ 67108864
headers_few lines left bytes is so_far =
    let loads : length (loads_of lines) ≤ 1024 = omega (arith, few_loads lines is, length-map (loads_of lines) header_name_of) in
    let before : length so_far.before ≤ 1024 = omega (arith, loads, ap length so_far.stands, length-append so_far.before left) in
    omega (arith, before, headers_bound so_far.before so_far.short, so_far.bytes_are)
