-- What a host's answers say of the names that an opening reads.
use Rattle.std.proofs.Common.{◌≡◌, ℕ, ◌≤◌, List, [], ◌∷◌, ◌++◌, length, Option, Some, None, Result, Ok, Err, refl, sym, ap, subst, ◌∙◌, arith}
use Rattle.std.specs.Prelude.{All, map}
use Rattle.std.specs.List.{flat_map}
use Rattle.std.specs.Option.{ForSome}
use Rattle.std.proofs.lemmas.Grind.{flat_map-append}
use Rattle.std.proofs.lemmas.List.{map-append}
use Rattle.std.proofs.lemmas.List.Elements.{All-nil, All-append}
use Rattle.load_base.specs.Host.{Files, ReadsFile, longest_file}
use Rattle.load_base.specs.Listed.{Listed}
use Rattle.load_base.specs.declared.host.ReadFault.TheVariants as reading
use Rattle.field_grammar.specs.Grammar.{Grammar}
use Rattle.batch_lists.specs.Batches.{batches_list, batches_list_view}
use Rattle.batch_lists.specs.declared.batches.BatchesList.{BatchesList}
use Rattle.batch_lists.specs.declared.fault.BatchesFault.{BatchesFault}
use Rattle.media_lists.specs.declared.fault.ListFault.{ListFault}
use Rattle.media_lists.specs.Files.{files_list, files_list_view}
use Rattle.media_lists.specs.Loads.{loads_list, loads_list_view}
use Rattle.media_lists.specs.declared.lists.FilesList.{FilesList}
use Rattle.media_lists.specs.declared.lists.LoadsList.{LoadsList}
use Rattle.media_check.specs.HostNames.{host_media, loads_name, files_name, batches_name, list_names}
use Rattle.media_check.specs.Kept.{bytes_view}
use Rattle.media_check.specs.Openings.{IsShortOnHost, ReadsNames, ReadsList}
use Rattle.media_check.specs.Sets.{found_in, found_view, lists_view, lists_in}
use Rattle.media_check.specs.declared.fault.OpenFault.{OpenFault}
use Rattle.media_check.specs.declared.fault.OpenFault.TheVariants.{TooLong}
use Rattle.media_check.specs.declared.found.Found.{Found}
use Rattle.media_check.specs.declared.set.MemberLists.{MemberLists}
use Rattle.media_check.proofs.Refusals.{told_all, told_also, told_both, told_anyway, names_refused, one_short}

-- ---- a file

pub file_there : (o : Option Files) (name : List ℕ) (bytes : Listed ℕ) → ReadsFile o name (Ok bytes) → length bytes.items ≤ longest_file
    → ForSome o (ReadsNames (name ∷ []) (λ files (file : Option (Listed ℕ)). bytes_view file ≡ files name) (Ok (Some bytes)))
file_there o name bytes reads short files told =
    let has : files name ≡ Some bytes.items = subst (λ (f : Option Files). ReadsFile f name (Ok bytes)) told reads in
    (one_short files name (rw has short), sym has)

pub file_absent : (o : Option Files) (name : List ℕ) → ReadsFile o name (Err reading.Absent)
    → ForSome o (ReadsNames (name ∷ []) (λ files (file : Option (Listed ℕ)). bytes_view file ≡ files name) (Ok None))
file_absent o name reads files told =
    let has : files name ≡ None = subst (λ (f : Option Files). ReadsFile f name (Err reading.Absent)) told reads in
    (one_short files name (rw has (omega arith)), sym has)

pub file_too_long : {T : Type 0} (o : Option Files) (name : List ℕ) (P : Files → T → Type 0) (refused : Listed ℕ) → ReadsFile o name (Err reading.TooLong) → refused.items ≡ name
    → ForSome o (ReadsNames (name ∷ []) P (Err (TooLong refused)))
file_too_long o name P refused reads same files told =
    let (bytes, is, long) = subst (λ (f : Option Files). ReadsFile f name (Err reading.TooLong)) told reads in
    record {
      before = [];
      after = [];
      stands = rw same refl;
      others = All-nil (IsShortOnHost files);
      long = rw (same, is) long;
    }

-- ---- lists

-- a list is what is found under this name
abbrev pub IsListFound : {L V F : Type 0} → (L → V) → Grammar F V → (name : List ℕ) → Files → Found L F → Type 0
IsListFound view format name files found = found_view view found ≡ found_in format (files name)

pub list_read : {L V F : Type 0} (o : Option Files) (name named : List ℕ) (view : L → V) (format : Grammar F V) (file : Option (Listed ℕ)) (found : Found L F) → name ≡ named
    → ForSome o (ReadsNames (name ∷ []) (λ files (f : Option (Listed ℕ)). bytes_view f ≡ files name) (Ok file)) → found_view view found ≡ found_in format (bytes_view file)
    → ForSome o (ReadsList view format named (Ok found))
list_read o name named view format file found same reads is =
    subst (λ (n : List ℕ). ForSome o (ReadsList view format n (Ok found))) same
    (told_also o _ _ reads (λ files read. (read.0, is ∙ ap (found_in format) read.1)))

pub list_unread : {S L V F : Type 0} (o : Option Files) (name named : List ℕ) (view : L → V) (format : Grammar F V) (P : Files → S → Type 0) (fault : OpenFault) → name ≡ named
    → ForSome o (ReadsNames (name ∷ []) P (Err fault)) → ForSome o (ReadsList view format named (Err fault))
list_unread {S = S} {L = L} {F = F} o name named view format P fault same reads =
    subst (λ (n : List ℕ). ForSome o (ReadsList view format n (Err fault))) same
    (told_also o _ (ReadsList view format name (Err fault)) reads
    (λ files refused. names_refused {S = S} {T = Found L F} files [] (name ∷ []) [] P (IsListFound view format name) fault (All-nil (IsShortOnHost files)) refused))

-- of the files of these names none is too long
abbrev pub AreShort : List (List ℕ) → Files → Type 0
AreShort names files = All (IsShortOnHost files) names

pub none_short : (o : Option Files) → ForSome o (AreShort [])
none_short o = told_anyway o _ (λ files. All-nil (IsShortOnHost files))

-- one more list was read
pub more_short : {L V F : Type 0} (o : Option Files) (before : List (List ℕ)) (name : List ℕ) (view : L → V) (format : Grammar F V) (found : Found L F) → ForSome o (AreShort before)
    → ForSome o (ReadsList view format name (Ok found)) → ForSome o (AreShort (before ++ name ∷ []))
more_short o before name view format found first reads =
    told_both o _ _ (AreShort (before ++ name ∷ [])) first reads (λ files short read. All-append (IsShortOnHost files) before (name ∷ []) short read.0)

-- a list is refused, after these names were read
pub refused_after : {L V F T : Type 0} (files : Files) (before after : List (List ℕ)) (name : List ℕ) (view : L → V) (format : Grammar F V) (P : Files → T → Type 0) (fault : OpenFault) → AreShort before files
    → ReadsList view format name (Err fault) files → ReadsNames (before ++ name ∷ after) P (Err fault) files
refused_after {L = L} {F = F} {T = T} files before after name view format P fault short refused =
    names_refused {S = Found L F} {T = T} files before (name ∷ []) after (IsListFound view format name) P fault short refused

pub list_unread_after : {L V F T : Type 0} (o : Option Files) (before after : List (List ℕ)) (name : List ℕ) (view : L → V) (format : Grammar F V) (P : Files → T → Type 0) (fault : OpenFault)
    → ForSome o (AreShort before) → ForSome o (ReadsList view format name (Err fault)) → ForSome o (ReadsNames (before ++ name ∷ after) P (Err fault))
list_unread_after {T = T} o before after name view format P fault first reads =
    told_both o _ _ (ReadsNames (before ++ name ∷ after) P (Err fault)) first reads (λ files short refused. refused_after {T = T} files before after name view format P fault short refused)

pub member_read : (o : Option Files) (folder : List ℕ) (member : ℕ) (loads : Found LoadsList ListFault) (files : Found FilesList ListFault) (batches : Found BatchesList BatchesFault)
    → ForSome o (ReadsList loads_list_view loads_list (loads_name folder member) (Ok loads)) → ForSome o (ReadsList files_list_view files_list (files_name folder member) (Ok files))
    → ForSome o (ReadsList batches_list_view batches_list (batches_name folder member) (Ok batches))
    → ForSome o (ReadsNames (list_names folder member) (λ files (lists : MemberLists). lists_view lists ≡ lists_in (host_media files folder) member) (Ok (record { loads = loads; files = files; batches = batches })))
member_read o folder member loads files batches first second third =
    told_all o _ _ _ _ first second third (λ host one other last. (
      All-append (IsShortOnHost host) (loads_name folder member ∷ files_name folder member ∷ []) (batches_name folder member ∷ [])
          (All-append (IsShortOnHost host) (loads_name folder member ∷ []) (files_name folder member ∷ []) one.0 other.0) last.0,
      rw (one.1, other.1, last.1) refl,
    ))

-- ---- the further members

abbrev pub AreListsOf : (folder : List ℕ) → ℕ → Files → MemberLists → Type 0
AreListsOf folder member files lists = lists_view lists ≡ lists_in (host_media files folder) member

abbrev pub AreLists : (folder : List ℕ) → List ℕ → Files → Listed MemberLists → Type 0
AreLists folder members files lists = map lists_view lists.items ≡ map (lists_in (host_media files folder)) members

abbrev pub ReadsMembers : (folder : List ℕ) → List ℕ → Result (Listed MemberLists) OpenFault → Files → Type 0
ReadsMembers folder members result files = ReadsNames (flat_map (list_names folder) members) (AreLists folder members) result files

abbrev pub ReadsMember : (folder : List ℕ) → ℕ → Result MemberLists OpenFault → Files → Type 0
ReadsMember folder member result files = ReadsNames (list_names folder member) (AreListsOf folder member) result files

pub none_read : (o : Option Files) (folder : List ℕ) (lists : Listed MemberLists) → lists.items ≡ [] → ForSome o (ReadsMembers folder [] (Ok lists))
none_read o folder lists none = told_anyway o _ (λ files. (All-nil (IsShortOnHost files), rw none refl))

pub members_more : (o : Option Files) (folder : List ℕ) (members : List ℕ) (member : ℕ) (old new : Listed MemberLists) (lists : MemberLists) → ForSome o (ReadsMembers folder members (Ok old))
    → ForSome o (ReadsMember folder member (Ok lists)) → new.items ≡ old.items ++ lists ∷ [] → ForSome o (ReadsMembers folder (members ++ member ∷ []) (Ok new))
members_more o folder members member old new lists so_far this is =
    told_both o _ _ _ so_far this (λ files before here.
    let names : flat_map (list_names folder) (members ++ member ∷ []) ≡ flat_map (list_names folder) members ++ list_names folder member = flat_map-append (list_names folder) members (member ∷ []) in (
      subst (All (IsShortOnHost files)) (sym names) (All-append (IsShortOnHost files) (flat_map (list_names folder) members) (list_names folder member) before.0 here.0),
      rw (is, map-append lists_view old.items (lists ∷ []), map-append (lists_in (host_media files folder)) members (member ∷ []), before.1, here.1) refl,
    ))

pub member_unread : {T : Type 0} (o : Option Files) (folder : List ℕ) (members others : List ℕ) (member : ℕ) (old : Listed MemberLists) (P : Files → T → Type 0) (fault : OpenFault)
    → ForSome o (ReadsMembers folder members (Ok old)) → ForSome o (ReadsMember folder member (Err fault))
    → ForSome o (ReadsNames (flat_map (list_names folder) (members ++ member ∷ others)) P (Err fault))
member_unread {T = T} o folder members others member old P fault so_far this =
    told_both o _ _ _ so_far this (λ files before refused.
    let names : flat_map (list_names folder) (members ++ member ∷ others) ≡ flat_map (list_names folder) members ++ (list_names folder member ++ flat_map (list_names folder) others) =
    flat_map-append (list_names folder) members (member ∷ others) in
    subst (λ (n : List (List ℕ)). ReadsNames n P (Err fault) files) (sym names)
    (names_refused {S = MemberLists} {T = T} files (flat_map (list_names folder) members) (list_names folder member) (flat_map (list_names folder) others) (AreListsOf folder member) P fault before.0 refused))
