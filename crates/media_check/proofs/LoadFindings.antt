-- What is found of a load, case by case.
use Rattle.std.proofs.Common.{◌≡◌, ℕ, List, [], ◌∷◌, ◌++◌, ◌&&◌, is_some, Some, None, refl}
use Rattle.std.proofs.lemmas.List.Folds.{list_all-append}
use Rattle.field_grammar.specs.Answers.{answer}
use Rattle.load_header.specs.Header.{header}
use Rattle.load_header.specs.declared.header.FileEntry.{FileEntry}
use Rattle.media_lists.specs.Loads.{LoadEntryView}
use Rattle.media_check.specs.Findings.{load_findings, read_findings, plain, are_there}
use Rattle.media_check.specs.Sets.{SetView, ListedFileView, find, bytes_of}

pub load_unlisted : (set : SetView) (load : LoadEntryView) → find set load.header_name ≡ None → load_findings set load ≡ plain 5 0 load.header_name ∷ []
unfolding load_findings
load_unlisted set load found = rw found refl

pub load_absent : (set : SetView) (load : LoadEntryView) (file : ListedFileView) → find set load.header_name ≡ Some file → file.bytes ≡ None → load_findings set load ≡ []
unfolding load_findings
load_absent set load file found is = rw (found, is) refl

pub load_listed : (set : SetView) (load : LoadEntryView) (file : ListedFileView) (bytes : List ℕ) → find set load.header_name ≡ Some file → file.bytes ≡ Some bytes
    → load_findings set load ≡ read_findings set load file.member bytes (answer header bytes)
unfolding load_findings
load_listed set load file bytes found is = rw (found, is) refl

-- the files of a load are there where the data files and the support files are
pub there_both : (set : SetView) (data_files support_files : List FileEntry) → are_there set (data_files ++ support_files) ≡ (are_there set data_files && are_there set support_files)
unfolding are_there
there_both set data_files support_files = list_all-append (λ (file : FileEntry). is_some (bytes_of set file.name)) data_files support_files
