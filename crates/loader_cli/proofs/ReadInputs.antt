-- What is read of the inputs of a run, from what the host told.
use Rattle.std.proofs.Common.{◌≡◌, ℕ, List, [], ◌∷◌, ◌++◌, append_assoc, inl, inr, Option, Some, None, Result, Ok, Err, refl, sym, ap, subst, ◌∙◌}
use Rattle.std.specs.Prelude.{All, codes}
use Rattle.std.specs.Option.{ForSome}
use Rattle.std.proofs.lemmas.List.Elements.{All-append, All-head, All-nil, All-push}
use Rattle.load_base.specs.Host.{Files}
use Rattle.field_grammar.specs.Grammar.{Grammar}
use Rattle.field_grammar.specs.Answers.{answer}
use Rattle.batch_lists.specs.Batches.{BatchesListView, batches_list}
use Rattle.batch_lists.specs.declared.batches.BatchesList.{BatchesList}
use Rattle.batch_lists.specs.declared.fault.BatchesFault.{BatchesFault}
use Rattle.media_lists.specs.Files.{FilesListView, files_list}
use Rattle.media_lists.specs.Loads.{LoadsListView, loads_list}
use Rattle.media_lists.specs.declared.fault.ListFault.{ListFault}
use Rattle.media_lists.specs.ListFaultText.{list_fault_text}
use Rattle.media_check.specs.HostNames.{ReadingOrder, batches_name, files_name, further_reading, host_media, loads_name}
use Rattle.media_check.specs.Openings.{CanRead, IsFirstLong, IsShortOnHost, IsTooLarge, IsTooLong, OpensRest, ReadsList}
use Rattle.media_check.specs.Sets.{MemberView, found_as, found_in, found_view, lists_in, set_view, set_with}
use Rattle.media_check.specs.declared.found.Found.{Found}
use Rattle.media_check.specs.declared.found.Found.TheVariants.{Missing, Refused, Read}
use Rattle.media_check.specs.declared.fault.OpenFault.TheVariants.{TooLarge, TooLong}
use Rattle.media_check.specs.declared.set.MediaSet.{MediaSet}
use Rattle.load_base.specs.Listed.{Listed}
use Rattle.loader_cli.specs.Inputs.{HasBatches, HasListed, HasLoads, IsRefusal, ReadsInputs, list_name}
use Rattle.loader_cli.specs.Replays.{HasList, HasSet, IsRead, RefusesList, RefusesText, from_batches, rest_of}
use Rattle.loader_cli.specs.Replays.RefusesText.{loads_refused, files_refused, large_set}
use Rattle.loader_cli.specs.Replays.RefusesList.{list_absent, list_faulty}
use Rattle.loader_cli.specs.Texts.{refused_input}
use Rattle.loader_cli.specs.declared.inputs.Inputs.{Inputs}
use Rattle.loader_cli.specs.declared.inputs.Inputs.TheVariants as inputs

-- ---- a list

found_not_missing : {V : Type 0} (r : Result V ListFault) → Missing ≡ found_as r → ⊥
found_not_missing (Ok v) is = cc
found_not_missing (Err fault) is = cc

missing_none : {V : Type 0} (format : Grammar ListFault V) (file : Option (List ℕ)) → Missing ≡ found_in format file → file ≡ None
missing_none format None is = refl
missing_none format (Some bytes) is = absurd (found_not_missing (answer format bytes) is)

pub list_read : {L V : Type 0} (view : L → V) (format : Grammar ListFault V) (name : List ℕ) (old new : Option Files) (list : L) → new ≡ old
    → ForSome old (ReadsList view format name (Ok (Read list))) → ForSome new (λ told. IsShortOnHost told name × (found_in format (told name) ≡ Read (view list)))
list_read view format name old new list kept reads = λ told is.
    let r = reads told (sym kept ∙ is) in
    (All-head (IsShortOnHost told) name [] r.0, sym r.1)

pub list_is_absent : {L V : Type 0} (view : L → V) (format : Grammar ListFault V) (name : List ℕ) (files : Option Files)
    → ForSome files (ReadsList view format name (Ok Missing)) → RefusesList format files name (codes "absent")
list_is_absent view format name files reads = list_absent (λ told is. missing_none format (told name) (reads told is).1) refl

pub list_is_faulty : {L V : Type 0} (view : L → V) (format : Grammar ListFault V) (name : List ℕ) (files : Option Files) (fault : ListFault)
    → ForSome files (ReadsList view format name (Ok (Refused fault))) → RefusesList format files name (list_fault_text fault)
list_is_faulty view format name files fault reads = list_faulty fault (λ told is. (All-head (IsShortOnHost told) name [] (reads told is).0, sym (reads told is).1)) refl

is_read : {V : Type 0} (found : Found V ListFault) (list : V) → found ≡ Read list → IsRead found
is_read found list is = subst (λ f. IsRead f) (sym is) tt

pub has_list : {V : Type 0} (format : Grammar ListFault V) (files : Option Files) (name : List ℕ) (list : V)
    → ForSome files (λ told. IsShortOnHost told name × (found_in format (told name) ≡ Read list)) → HasList format files name
has_list format files name list has = λ told is. ((has told is).0, is_read (found_in format (told name)) list (has told is).1)

-- ---- refusals of the lists

pub refuses_loads : (folder name : List ℕ) (files : Option Files) (before after : ℕ) (fault : List ℕ) (read : Inputs) → RefusesList loads_list files (loads_name folder 1) fault
    → IsRefusal read (refused_input (list_name folder (codes "LOADS.LUM")) fault) → ReadsInputs folder name files before after read
refuses_loads folder name files before after fault (inputs.Ready set text) refuses is = absurd is
refuses_loads folder name files before after fault (inputs.Refused answer) refuses is = loads_refused fault refuses is.0 is.1

pub refuses_files : (folder name : List ℕ) (files : Option Files) (before after : ℕ) (fault : List ℕ) (read : Inputs) → HasList loads_list files (loads_name folder 1)
    → RefusesList files_list files (files_name folder 1) fault → IsRefusal read (refused_input (list_name folder (codes "FILES.LUM")) fault)
    → ReadsInputs folder name files before after read
refuses_files folder name files before after fault (inputs.Ready set text) has refuses is = absurd is
refuses_files folder name files before after fault (inputs.Refused answer) has refuses is = files_refused fault has refuses is.0 is.1

-- a list alone is never too large
pub never_large : (folder name : List ℕ) (files : Option Files) (before after : ℕ) → ForSome files (λ told. ⊥)
    → RefusesText folder name files before after 3 (refused_input folder (codes "toolarge"))
never_large folder name files before after never = large_set ((λ told is. absurd (never told is)), (λ told is. absurd (never told is))) (λ told is. absurd (never told is)) refl refl

-- ---- the set

member : Found LoadsListView ListFault → Found FilesListView ListFault → Found BatchesListView BatchesFault → MemberView
member loads files batches = record { loads = loads; files = files; batches = batches }

same_member : (a b : Found LoadsListView ListFault) (c d : Found FilesListView ListFault) (e f : Found BatchesListView BatchesFault) → a ≡ b → c ≡ d → e ≡ f → member a c e ≡ member b d f
same_member a b c d e f p q r = rw (p, q, r) refl

first_is : (folder : List ℕ) (told : Files) (loads : LoadsListView) (listed : FilesListView) (batches : Found BatchesListView BatchesFault) → found_in loads_list (told (loads_name folder 1)) ≡ Read loads
    → found_in files_list (told (files_name folder 1)) ≡ Read listed → found_in batches_list (told (batches_name folder 1)) ≡ batches
    → member (Read loads) (Read listed) batches ≡ lists_in (host_media told folder) 1
unfolding member
first_is folder told loads listed batches p q r = same_member (Read loads) _ (Read listed) _ batches _ (sym p) (sym q) (sym r)

one_short : (told : Files) (name : List ℕ) → IsShortOnHost told name → All (IsShortOnHost told) (name ∷ [])
one_short told name short = All-push (IsShortOnHost told) [] name (All-nil (IsShortOnHost told)) short

-- what is read after the list of batches is read as a part of the rest
readable_rest : (folder : List ℕ) (told : Files) (further : ReadingOrder) → IsShortOnHost told (batches_name folder 1) → CanRead told further → CanRead told (from_batches folder further)
readable_rest folder told further short can = record {
  lists = All-append (IsShortOnHost told) (batches_name folder 1 ∷ []) further.lists (one_short told (batches_name folder 1) short) can.lists;
  listed = can.listed;
  together = can.together;
}

long_rest : (folder : List ℕ) (told : Files) (further : ReadingOrder) (name : List ℕ) → IsShortOnHost told (batches_name folder 1) → IsTooLong told further name → IsTooLong told (from_batches folder further) name
long_rest folder told further name short long =
    elim long [
      | inl list ↦ inl (record {
        before = batches_name folder 1 ∷ list.before;
        after = list.after;
        stands = ap (λ (l : List (List ℕ)). batches_name folder 1 ∷ l) list.stands;
        others = All-append (IsShortOnHost told) (batches_name folder 1 ∷ []) list.before (one_short told (batches_name folder 1) short) list.others;
        long = list.long;
      })
      | inr listed ↦ inr (All-append (IsShortOnHost told) (batches_name folder 1 ∷ []) further.lists (one_short told (batches_name folder 1) short) listed.0, listed.1)
    ]

large_rest : (folder : List ℕ) (told : Files) (further : ReadingOrder) → IsShortOnHost told (batches_name folder 1) → IsTooLarge told further → IsTooLarge told (from_batches folder further)
large_rest folder told further short large =
    (All-append (IsShortOnHost told) (batches_name folder 1 ∷ []) further.lists (one_short told (batches_name folder 1) short) large.0, large.1)

pub set_opened : (folder : List ℕ) (files : Option Files) (loads : LoadsListView) (listed : FilesListView) (batches : Found BatchesListView BatchesFault) (opened : MediaSet) → HasLoads folder loads files
    → HasListed folder listed files → HasBatches folder batches files → ForSome files (OpensRest folder (record { loads = Read loads; files = Read listed; batches = batches }) (Ok opened))
    → HasSet folder files (set_view opened)
unfolding member
set_opened folder files loads listed batches opened has has_files has_batches opens = record {
  lists = (has_list loads_list files (loads_name folder 1) loads has, has_list files_list files (files_name folder 1) listed has_files);
  rest = λ told is.
      let further = subst (λ (m : MemberView). CanRead told (further_reading folder m) × (set_view opened ≡ set_with (host_media told folder) m))
      (first_is folder told loads listed batches (has told is).1 (has_files told is).1 (has_batches told is).1) (opens told is) in
      (readable_rest folder told (further_reading folder (lists_in (host_media told folder) 1)) (has_batches told is).0 further.0, further.1);
}

pub long_in_rest : (folder : List ℕ) (files : Option Files) (loads : LoadsListView) (listed : FilesListView) (batches : Found BatchesListView BatchesFault) (file : Listed ℕ) → HasLoads folder loads files
    → HasListed folder listed files → HasBatches folder batches files → ForSome files (OpensRest folder (record { loads = Read loads; files = Read listed; batches = batches }) (Err (TooLong file)))
    → ForSome files (λ told. IsTooLong told (rest_of folder told) file.items)
unfolding member
long_in_rest folder files loads listed batches file has has_files has_batches opens = λ told is.
    long_rest folder told (further_reading folder (lists_in (host_media told folder) 1)) file.items (has_batches told is).0
    (subst (λ (m : MemberView). IsTooLong told (further_reading folder m) file.items)
    (first_is folder told loads listed batches (has told is).1 (has_files told is).1 (has_batches told is).1) (opens told is))

pub large_in_rest : (folder : List ℕ) (files : Option Files) (loads : LoadsListView) (listed : FilesListView) (batches : Found BatchesListView BatchesFault) → HasLoads folder loads files
    → HasListed folder listed files → HasBatches folder batches files → ForSome files (OpensRest folder (record { loads = Read loads; files = Read listed; batches = batches }) (Err TooLarge))
    → ForSome files (λ told. IsTooLarge told (rest_of folder told))
unfolding member
large_in_rest folder files loads listed batches has has_files has_batches opens = λ told is.
    large_rest folder told (further_reading folder (lists_in (host_media told folder) 1)) (has_batches told is).0
    (subst (λ (m : MemberView). IsTooLarge told (further_reading folder m))
    (first_is folder told loads listed batches (has told is).1 (has_files told is).1 (has_batches told is).1) (opens told is))

-- the list of batches itself is too long
pub long_batches : (folder : List ℕ) (files : Option Files) (file : List ℕ) → ForSome files (λ told. IsFirstLong told (batches_name folder 1 ∷ []) file)
    → ForSome files (λ told. IsTooLong told (rest_of folder told) file)
long_batches folder files file long = λ told is.
    let first = long told is in
    let further = further_reading folder (lists_in (host_media told folder) 1) in
    inl (record {
      before = first.before;
      after = first.after ++ further.lists;
      stands = ap (λ (l : List (List ℕ)). l ++ further.lists) first.stands ∙ append_assoc first.before (file ∷ first.after) further.lists;
      others = first.others;
      long = first.long;
    })

-- what was found of the list of batches is found there
pub batches_found : (view : BatchesList → BatchesListView) (name : List ℕ) (old new : Option Files) (found : Found BatchesList BatchesFault) → new ≡ old
    → ForSome old (ReadsList view batches_list name (Ok found)) → ForSome new (λ told. IsShortOnHost told name × (found_in batches_list (told name) ≡ found_view view found))
batches_found view name old new found kept reads = λ told is.
    let r = reads told (sym kept ∙ is) in
    (All-head (IsShortOnHost told) name [] r.0, sym r.1)
