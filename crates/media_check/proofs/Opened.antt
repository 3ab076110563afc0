-- The parts of an opening, put together.
use Rattle.std.proofs.Common.{◌≡◌, ℕ, List, [], ◌∷◌, ◌++◌, Option, Result, Ok, Err, refl, sym, ap, subst, ◌∙◌, append-nil, append_assoc, inl, inr}
use Rattle.std.specs.Prelude.{All, map}
use Rattle.std.specs.List.{flat_map}
use Rattle.std.specs.Option.{ForSome}
use Rattle.std.proofs.lemmas.List.Elements.{All-append}
use Rattle.load_base.specs.Host.{Files}
use Rattle.load_base.specs.Listed.{Listed}
use Rattle.field_grammar.specs.Grammar.{Grammar}
use Rattle.batch_lists.specs.Batches.{batches_list, batches_list_view}
use Rattle.batch_lists.specs.declared.batches.BatchesList.{BatchesList}
use Rattle.batch_lists.specs.declared.fault.BatchesFault.{BatchesFault}
use Rattle.media_lists.specs.declared.fault.ListFault.{ListFault}
use Rattle.media_lists.specs.Files.{files_list, files_list_view}
use Rattle.media_lists.specs.Loads.{loads_list, loads_list_view}
use Rattle.media_lists.specs.declared.lists.FilesList.{FilesList}
use Rattle.media_lists.specs.declared.lists.LoadsList.{LoadsList}
use Rattle.media_check.specs.HostNames.{host_media, loads_name, files_name, batches_name, list_names, further_reading, whole_reading}
use Rattle.media_check.specs.Openings.{IsShortOnHost, IsFirstLong, ReadsNames, ReadsList, ReadsSet, CanRead, KeepsListed, Opens, OpensRest}
use Rattle.media_check.specs.Sets.{MemberView, SetView, found_view, further_members, entries_of, lists_view, lists_in, files_view, set_with, set_in}
use Rattle.media_check.specs.declared.fault.OpenFault.{OpenFault}
use Rattle.media_check.specs.declared.fault.OpenFault.TheVariants.{TooLong, TooLarge, Failed, Memory}
use Rattle.media_check.specs.declared.found.Found.{Found}
use Rattle.media_check.specs.declared.set.KeptFile.{KeptFile}
use Rattle.media_check.specs.declared.set.MediaSet.{MediaSet}
use Rattle.media_check.specs.declared.set.MemberLists.{MemberLists}
use Rattle.media_check.proofs.HostReads.{AreShort, ReadsMembers, member_read, refused_after}
use Rattle.media_check.proofs.Refusals.{told_also, told_both, first_long_later, list_refused}

-- ---- the rest

-- the set of these lists and files
abbrev pub set_of : MemberView → Listed MemberLists → List (List ℕ × KeptFile) → SetView
set_of first further kept = record { first = first; further = map lists_view further.items; files = files_view kept }

pub rest_read : {M : Type 0} (o : Option Files) (kept : M) (entries_in : M → List (List ℕ × KeptFile)) (folder : List ℕ) (first : MemberView) (further : Listed MemberLists)
    → ForSome o (ReadsMembers folder (further_members first.loads) (Ok further)) → ForSome o (KeepsListed entries_in folder (entries_of first.files) (Ok kept))
    → ForSome o (λ files. CanRead files (further_reading folder first) × (set_of first further (entries_in kept) ≡ set_with (host_media files folder) first))
rest_read o kept entries_in folder first further lists listed =
    told_both o _ _ _ lists listed (λ files read keeps. (record { lists = read.0; listed = keeps.0; together = keeps.1 }, rw (read.1, keeps.2) refl))

pub lists_unread : {S : Type 0} (o : Option Files) (folder : List ℕ) (first : MemberView) (P : Files → S → Type 0) (fault : OpenFault)
    → ForSome o (ReadsNames (flat_map (list_names folder) (further_members first.loads)) P (Err fault)) → ForSome o (OpensRest folder first (Err fault))
lists_unread {S = S} o folder first P fault lists = told_also o _ _ lists (λ files refused. list_refused {S = S} files (further_reading folder first) (set_with (host_media files folder) first) P fault refused)

pub files_unread : {M : Type 0} (o : Option Files) (read : Result M OpenFault) (entries_in : M → List (List ℕ × KeptFile)) (folder : List ℕ) (first : MemberView) (further : Listed MemberLists) (fault : OpenFault)
    → ForSome o (ReadsMembers folder (further_members first.loads) (Ok further)) → ForSome o (KeepsListed entries_in folder (entries_of first.files) (Err fault))
    → ForSome o (OpensRest folder first (Err fault))
files_unread {M = M} o read entries_in folder first further fault lists listed = told_both o _ _ _ lists listed (λ files before refused. go files before.0 fault refused)
  where
    go : (files : Files) → All (IsShortOnHost files) (flat_map (list_names folder) (further_members first.loads)) → (fault : OpenFault)
        → KeepsListed entries_in folder (entries_of first.files) (Err fault) files → OpensRest folder first (Err fault) files
    go files short (TooLong name) refused = inr (short, refused)
    go files short TooLarge refused = (short, refused)
    go files short Failed refused = tt
    go files short Memory refused = tt

-- ---- the whole

-- what is read after the lists of member 1 is read as a part of the whole
whole_of : (files : Files) (folder : List ℕ) (first : MemberView) (set : SetView) (result : Result MediaSet OpenFault) → All (IsShortOnHost files) (list_names folder 1)
    → ReadsSet files (further_reading folder first) set result → ReadsSet files (whole_reading folder first) set result
whole_of files folder first set (Ok opened) short reads = (
  record { lists = All-append (IsShortOnHost files) (list_names folder 1) _ short reads.0.lists; listed = reads.0.listed; together = reads.0.together },
  reads.1,
)
whole_of files folder first set (Err (TooLong name)) short reads =
    elim reads [
      | inl long ↦ inl (subst (λ (names : List (List ℕ)). IsFirstLong files (list_names folder 1 ++ names) name.items) (append-nil _)
          (first_long_later files (list_names folder 1) _ [] name.items short long))
      | inr listed ↦ inr (All-append (IsShortOnHost files) (list_names folder 1) _ short listed.0, listed.1)
    ]
whole_of files folder first set (Err TooLarge) short reads = (All-append (IsShortOnHost files) (list_names folder 1) _ short reads.0, reads.1)
whole_of files folder first set (Err Failed) short reads = tt
whole_of files folder first set (Err Memory) short reads = tt

pub whole_read : (o : Option Files) (folder : List ℕ) (loads : Found LoadsList ListFault) (listed : Found FilesList ListFault) (batches : Found BatchesList BatchesFault) (result : Result MediaSet OpenFault)
    → ForSome o (ReadsList loads_list_view loads_list (loads_name folder 1) (Ok loads)) → ForSome o (ReadsList files_list_view files_list (files_name folder 1) (Ok listed))
    → ForSome o (ReadsList batches_list_view batches_list (batches_name folder 1) (Ok batches))
    → ForSome o (OpensRest folder (record { loads = found_view loads_list_view loads; files = found_view files_list_view listed; batches = found_view batches_list_view batches }) result) → ForSome o (Opens folder result)
whole_read o folder loads listed batches result first second third rest =
    told_both o _ _ _ (member_read o folder 1 loads listed batches first second third) rest
    (λ files read reads.
    let seen : MemberView = record { loads = found_view loads_list_view loads; files = found_view files_list_view listed; batches = found_view batches_list_view batches } in
    let is : seen ≡ lists_in (host_media files folder) 1 = read.1 in
    subst (λ (view : MemberView). ReadsSet files (whole_reading folder view) (set_with (host_media files folder) view) result) is
    (whole_of files folder seen (set_with (host_media files folder) seen) result read.0 reads))

-- a list of member 1 is refused, after those before it were read
pub list_unread_in_whole : {L V F : Type 0} (o : Option Files) (folder : List ℕ) (before rest : List (List ℕ)) (name : List ℕ) (view : L → V) (format : Grammar F V) (fault : OpenFault)
    → before ++ name ∷ rest ≡ list_names folder 1 → ForSome o (AreShort before) → ForSome o (ReadsList view format name (Err fault)) → ForSome o (Opens folder (Err fault))
list_unread_in_whole {L = L} o folder before rest name view format fault stands first reads =
    told_both o _ _ (Opens folder (Err fault)) first reads (λ files short refused.
    let later : List (List ℕ) = flat_map (list_names folder) (further_members (lists_in (host_media files folder) 1).loads) in
    let names : before ++ name ∷ (rest ++ later) ≡ list_names folder 1 ++ later = sym (append_assoc before (name ∷ rest) later) ∙ ap (λ (l : List (List ℕ)). l ++ later) stands in
    list_refused {S = L} files (whole_reading folder (lists_in (host_media files folder) 1)) (set_in (host_media files folder)) (λ files (l : L). Unit {0}) fault
    (subst (λ (l : List (List ℕ)). ReadsNames l (λ files (x : L). Unit {0}) (Err fault) files) names
    (refused_after {T = L} files before (rest ++ later) name view format (λ files (x : L). Unit {0}) fault short refused)))
