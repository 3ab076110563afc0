-- The lines of a load whose sources are read one after the other.
use Rattle.std.proofs.Common.{◌≡◌, ℕ, zero, suc, ◌+◌, ◌<◌, ◌≤◌, List, [], ◌∷◌, ◌++◌, length, take, drop, get_or, append-nil, Option, Some, Ok, Err, refl, sym, ap, subst, ◌∙◌, arith}
use Rattle.std.specs.Prelude.{All, map}
use Rattle.std.specs.List.{flat_map, sum_by}
use Rattle.std.specs.Option.{ForSome}
use Rattle.std.proofs.lemmas.List.{map-append, take_all}
use Rattle.std.proofs.lemmas.List.Elements.{All-nil, All-cons, All-append}
use Rattle.std.proofs.lemmas.List.Sums.{sum_by-append}
use Rattle.std.proofs.lemmas.Grind.{flat_map-append}
use Rattle.load_base.specs.Host.{Files, longest_file}
use Rattle.load_base.specs.Listed.{Listed}
use Rattle.media_check.specs.Kept.{contents}
use Rattle.media_check.specs.Openings.{length_on_host, total_of, largest_set}
use Rattle.media_build.specs.Building.{CanTake, IsSmallSource, ReadsFiles, ReadsLine, TakesSources, TakesLine, TakesFiles, files_length, source_in, sources_in, with_source}
use Rattle.media_build.specs.Parts.{FileBytes, IsShortSource, LoadFilesView, bytes_from, files_from, statements, with_file}
use Rattle.media_build.specs.RecipeSets.{Sources, data_in, support_in}
use Rattle.media_build.specs.declared.building_fault.BuildFault.{BuildFault}
use Rattle.media_build.specs.declared.statements.FileLine.{FileLine}
use Rattle.media_build.specs.declared.statements.RecipeLine.{RecipeLine}
use Rattle.media_build.specs.declared.statements.Statement.{Statement}
use Rattle.media_build.specs.declared.statements.Statement.TheVariants.{Data, Support}
use Rattle.media_build.proofs.Taking.{told_also, told_both, told_anyway, take_none, take_both, takes_stop, total_both}

-- ---- one line

abbrev both : List FileBytes → List FileBytes → LoadFilesView
both d s = record { data_files = d; support_files = s }

-- a line that names no source adds no file
no_source : (s : Statement) → source_in s ≡ [] → (data_in s ≡ []) × (support_in s ≡ [])
no_source (Data file) e = absurd cc
no_source (Support file) e = absurd cc
no_source s e = (refl, refl)

pub nothing_read : (s : Statement) (files : LoadFilesView) (others : ℕ) → source_in s ≡ [] → others ≤ largest_set → ReadsLine s files others files others
nothing_read s files others none small =
    let no = no_source s none in
    record {
      bytes = [];
      is =
          ap (λ (d : List FileBytes). both d files.support_files) (sym (append-nil files.data_files)) ∙ ap (λ (t : List FileBytes). both (files.data_files ++ []) t) (sym (append-nil files.support_files))
          ∙ rw (no.0, no.1) refl;
      short = omega arith;
      total_is = omega arith;
      some = λ e. refl;
      small = small;
    }

pub nothing_taken : (o : Option Files) (s : Statement) (files : LoadFilesView) (others : ℕ) → source_in s ≡ [] → others ≤ largest_set
    → ForSome o (TakesSources others (source_in s) (TakesLine s files others) (Ok (files, others)))
nothing_taken o s files others none small =
    told_anyway o _ (λ told.
    let no = no_source s none in
    let same : files ≡ with_source (sources_in told) files s =
    ap (λ (d : List FileBytes). both d files.support_files) (sym (append-nil files.data_files)) ∙ ap (λ (t : List FileBytes). both (files.data_files ++ []) t) (sym (append-nil files.support_files))
    ∙ rw (no.0, no.1) refl in
    rw none (take_none told others small, record { new = same; total = rw none (omega arith) }))

-- a file of a line, of the bytes of its source
of_source : (sources : Sources) (s : Statement) (name bytes : List ℕ) (files : LoadFilesView) → source_in s ≡ name ∷ [] → bytes ≡ sources name → with_file files s bytes ≡ with_source sources files s
of_source sources (Data file) name bytes files e same =
    let is : file.source ≡ name = cc in
    let it : bytes ≡ sources file.source = same ∙ ap sources (sym is) in
    rw it refl
of_source sources (Support file) name bytes files e same =
    let is : file.source ≡ name = cc in
    let it : bytes ≡ sources file.source = same ∙ ap sources (sym is) in
    rw it refl
of_source sources s name bytes files e same = absurd cc

pub one_read : (s : Statement) (name : List ℕ) (files new : LoadFilesView) (others total : ℕ) (bytes : Listed ℕ) → source_in s ≡ name ∷ [] → new ≡ with_file files s bytes.items
    → IsSmallSource others bytes → total ≡ others + length bytes.items → ReadsLine s files others new total
one_read s name files new others total bytes named is small sum = record {
  bytes = bytes.items;
  is = is;
  short = small.short;
  total_is = sum;
  some = λ e. absurd (let no = sym named ∙ e in cc);
  small = omega (arith, small.together, sum);
}

pub one_taken : (o : Option Files) (s : Statement) (name : List ℕ) (files new : LoadFilesView) (others total : ℕ) (bytes : Listed ℕ) → source_in s ≡ name ∷ [] → new ≡ with_file files s bytes.items
    → total ≡ others + length bytes.items → ForSome o (TakesSources others (name ∷ []) (λ told (read : Listed ℕ). told name ≡ Some read.items) (Ok bytes))
    → ForSome o (TakesSources others (source_in s) (TakesLine s files others) (Ok (new, total)))
one_taken o s name files new others total bytes named is sum taken =
    told_also o _ _ taken (λ told read.
    let has : bytes.items ≡ sources_in told name = sym (ap contents read.1) in
    let size : length_on_host told name ≡ length bytes.items = rw read.1 refl in
    (rw named read.0, record { new = is ∙ of_source (sources_in told) s name bytes.items files named has; total = rw named (omega (arith, sum, size)) }))

pub one_untaken : {T : Type 0} (o : Option Files) (s : Statement) (name : List ℕ) (others : ℕ) (fault : BuildFault) (P : Files → T → Type 0) → source_in s ≡ name ∷ []
    → ForSome o (TakesSources others (name ∷ []) (λ told (read : Listed ℕ). told name ≡ Some read.items) (Err fault))
    → ForSome o (TakesSources others (source_in s) P (Err fault))
one_untaken o s name others fault P named stop = told_also o _ _ stop (λ told x. rw named x)

-- ---- one line after the other

-- the names of the sources of lines
abbrev names_of : List Statement → List (List ℕ)
names_of own = flat_map source_in own

-- the sources of these lines were taken, and give these files
pub record SourcesSoFar (own : List Statement) (others : ℕ) (files : LoadFilesView) (total : ℕ) (told : Files) : Type 0 where
  pub taken : CanTake told others (names_of own)
  pub files_are : files ≡ files_from (sources_in told) own
  pub total_is : total ≡ others + total_of told (names_of own)

pub no_sources : (o : Option Files) (others : ℕ) (files : LoadFilesView) → files ≡ both [] [] → others ≤ largest_set → ForSome o (SourcesSoFar [] others files others)
no_sources o others files none small = told_anyway o _ (λ told. record { taken = take_none told others small; files_are = none; total_is = omega arith })

pub no_files : (others : ℕ) (files : LoadFilesView) → files ≡ both [] [] → others ≤ largest_set → ReadsFiles [] others files others
no_files others files none small = record {
  are = rw none (record { data_lines = refl; support_lines = refl; data_short = All-nil IsShortSource; support_short = All-nil IsShortSource });
  total_is = rw none (omega arith);
  small = small;
}

from_more : (sources : Sources) (own : List Statement) (s : Statement) → with_source sources (files_from sources own) s ≡ files_from sources (own ++ s ∷ [])
from_more sources own s =
    sym (ap (λ (d : List FileBytes). both d (map (bytes_from sources) (flat_map support_in (own ++ s ∷ [])))) (more data_in)
    ∙ ap (λ (t : List FileBytes). both (map (bytes_from sources) (flat_map data_in own) ++ map (bytes_from sources) (data_in s)) t) (more support_in))
  where
    more : (said : Statement → List FileLine) → map (bytes_from sources) (flat_map said (own ++ s ∷ [])) ≡ map (bytes_from sources) (flat_map said own) ++ map (bytes_from sources) (said s)
    more said =
        ap (λ (lines : List FileLine). map (bytes_from sources) lines) (flat_map-append said own (s ∷ []) ∙ ap (λ (last : List FileLine). flat_map said own ++ last) (append-nil (said s)))
        ∙ map-append (bytes_from sources) (flat_map said own) (said s)

-- one more line of sources
pub sources_more : (o : Option Files) (own : List Statement) (s : Statement) (others total sum : ℕ) (files new : LoadFilesView) → ForSome o (SourcesSoFar own others files total)
    → ForSome o (TakesSources total (source_in s) (TakesLine s files total) (Ok (new, sum))) → ReadsLine s files total new sum
    → ForSome o (SourcesSoFar (own ++ s ∷ []) others new sum)
sources_more o own s others total sum files new so_far this reads =
    told_both o _ _ _ so_far this (λ told before here.
    let names : names_of (own ++ s ∷ []) ≡ names_of own ++ source_in s = flat_map-append source_in own (s ∷ []) ∙ ap (λ (last : List (List ℕ)). names_of own ++ last) (append-nil (source_in s)) in
    let more : CanTake told (others + total_of told (names_of own)) (source_in s) = subst (λ (n : ℕ). CanTake told n (source_in s)) before.total_is here.0 in
    record {
      taken = rw names (take_both told others (names_of own) (source_in s) before.taken more);
      files_are = here.1.new ∙ (ap (λ (f : LoadFilesView). with_source (sources_in told) f s) before.files_are ∙ from_more (sources_in told) own s);
      total_is = rw names (omega (arith, total_both told (names_of own) (source_in s), before.total_is, here.1.total));
    })

-- a refusal of the sources of one line is one of all
pub sources_stop : {T : Type 0} (o : Option Files) (own all later : List Statement) (s : Statement) (others total : ℕ) (files : LoadFilesView) (P : Files → T → Type 0) (fault : BuildFault)
    → all ≡ own ++ s ∷ later → ForSome o (SourcesSoFar own others files total)
    → ForSome o (TakesSources total (source_in s) (TakesLine s files total) (Err fault))
    → ForSome o (TakesSources others (names_of all) P (Err fault))
sources_stop {T = T} o own all later s others total files P fault split so_far stop =
    told_both o _ _ _ so_far stop (λ told before refused.
    let names : names_of all ≡ names_of own ++ (source_in s ++ names_of later) = ap names_of split ∙ flat_map-append source_in own (s ∷ later) in
    let here = subst (λ (n : ℕ). TakesSources n (source_in s) (TakesLine s files total) (Err fault) told) before.total_is refused in
    rw names (takes_stop {S = LoadFilesView × ℕ} {T = T} told others (names_of own) (source_in s) (names_of later) (TakesLine s files total) P fault before.taken here))

-- ---- what was read, whatever the host tells

abbrev made : List ℕ → FileLine → FileBytes
made bytes = λ line. let file : FileBytes = record { line = line; bytes = bytes } in file

abbrev size : FileBytes → ℕ
size file = length file.bytes

made_lines : (bytes : List ℕ) (lines : List FileLine) → map (λ (file : FileBytes). file.line) (map (made bytes) lines) ≡ lines
made_lines bytes [] = refl
made_lines bytes (line ∷ lines) = ap (λ (l : List FileLine). line ∷ l) (made_lines bytes lines)

made_short : (bytes : List ℕ) (lines : List FileLine) → length bytes ≤ longest_file → All IsShortSource (map (made bytes) lines)
made_short bytes [] short = All-nil IsShortSource
made_short bytes (line ∷ lines) short = All-cons IsShortSource (made bytes line) (map (made bytes) lines) short (made_short bytes lines short)

made_size : (s : Statement) (bytes : List ℕ) → (source_in s ≡ [] → bytes ≡ []) → sum_by size (map (made bytes) (data_in s)) + sum_by size (map (made bytes) (support_in s)) ≡ length bytes
made_size (Data file) bytes some = omega arith
made_size (Support file) bytes some = omega arith
made_size s bytes some = let none : length bytes ≡ 0 = ap length (some refl) in omega (arith, none)

lines_more : (said : Statement → List FileLine) (own : List Statement) (s : Statement) (files : List FileBytes) (bytes : List ℕ) → map (λ (file : FileBytes). file.line) files ≡ flat_map said own
    → map (λ (file : FileBytes). file.line) (files ++ map (made bytes) (said s)) ≡ flat_map said (own ++ s ∷ [])
lines_more said own s files bytes are =
    map-append (λ (file : FileBytes). file.line) files (map (made bytes) (said s)) ∙ (ap (λ (l : List FileLine). l ++ map (λ (file : FileBytes). file.line) (map (made bytes) (said s))) are
    ∙ (ap (λ (l : List FileLine). flat_map said own ++ l) (made_lines bytes (said s) ∙ sym (append-nil (said s))) ∙ sym (flat_map-append said own (s ∷ []))))

pub files_more : (own : List Statement) (s : Statement) (others total sum : ℕ) (files new : LoadFilesView) → ReadsFiles own others files total → ReadsLine s files total new sum
    → ReadsFiles (own ++ s ∷ []) others new sum
files_more own s others total sum files new so_far this =
    let bytes = this.bytes in
    let first = sum_by-append size files.data_files (map (made bytes) (data_in s)) in
    let second = sum_by-append size files.support_files (map (made bytes) (support_in s)) in
    let one = made_size s bytes this.some in
    let lengths : files_length new ≡ files_length files + length bytes = ap files_length this.is ∙ omega (arith, first, second, one) in
    record {
      are = rw this.is (record {
        data_lines = lines_more data_in own s files.data_files bytes so_far.are.data_lines;
        support_lines = lines_more support_in own s files.support_files bytes so_far.are.support_lines;
        data_short = All-append IsShortSource files.data_files (map (made bytes) (data_in s)) so_far.are.data_short (made_short bytes (data_in s) this.short);
        support_short = All-append IsShortSource files.support_files (map (made bytes) (support_in s)) so_far.are.support_short (made_short bytes (support_in s) this.short);
      });
      total_is = omega (arith, lengths, so_far.total_is, this.total_is);
      small = this.small;
    }

-- ---- as the loop goes

pub all_lines : (own : List RecipeLine) (i : ℕ) → length own ≤ i → statements (take i own) ≡ statements own
all_lines own i all = ap statements (take_all i own all)

split_at : (own : List RecipeLine) (i : ℕ) (line : RecipeLine) → i < length own → line ≡ get_or own i line → own ≡ take i own ++ line ∷ drop (i + 1) own
split_at [] i line within is = absurd (omega arith)
split_at (y ∷ own) zero line within is = rw is refl
split_at (y ∷ own) (suc i) line within is =
    let more : suc i + 1 ≡ suc (i + 1) = omega arith in
    rw more (ap (λ (l : List RecipeLine). y ∷ l) (split_at own i line (omega (arith, within)) is))

pub lines_at : (own : List RecipeLine) (i : ℕ) (line : RecipeLine) → i < length own → line ≡ get_or own i line
    → statements own ≡ statements (take i own) ++ line.statement ∷ statements (drop (i + 1) own)
lines_at own i line within is = ap statements (split_at own i line within is) ∙ map-append (λ (l : RecipeLine). l.statement) (take i own) (line ∷ drop (i + 1) own)

pub sources_all : (o : Option Files) (own all : List Statement) (others total : ℕ) (files : LoadFilesView) → own ≡ all → ForSome o (SourcesSoFar own others files total)
    → ForSome o (TakesSources others (names_of all) (TakesFiles all others) (Ok (files, total)))
sources_all o own all others total files same so_far =
    subst (λ (l : List Statement). ForSome o (TakesSources others (names_of l) (TakesFiles l others) (Ok (files, total)))) same
    (told_also o _ _ so_far (λ told all. (all.taken, record { new = all.files_are; total = all.total_is })))
