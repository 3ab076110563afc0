-- Files that were written one after the other.
use Rattle.std.proofs.Common.{◌≡◌, ℕ, ◌+◌, ◌<◌, List, [], ◌∷◌, ◌++◌, length, take, get_or, Bool, true, false, ◌&&◌, ◌==◌, refl, sym, ap, ◌∙◌, Some, None, Ok, Err}
use Rattle.std.proofs.lemmas.List.{take_more}
use Rattle.std.proofs.lemmas.Bool.{eqb-true, eq-eqb}
use Rattle.std.proofs.lemmas.List.Sums.{fold_push}
use Rattle.load_base.specs.Bytes.{same_bytes}
use Rattle.load_base.specs.Host.{Files, SameBut, WritesFile}
use Rattle.load_base.specs.declared.sink.WriteFault.TheVariants.{Memory}
use Rattle.load_base.specs.Written.{no_files, with_file, written_files, IsAppended}
use Rattle.load_base.specs.declared.mem_host.Written.{Written}

-- the same bytes are the same list
pub equal_from_same : (xs ys : List ℕ) → same_bytes xs ys ≡ true → xs ≡ ys
equal_from_same [] [] e = refl
equal_from_same [] (y ∷ ys) e = absurd cc
equal_from_same (x ∷ xs) [] e = absurd cc
equal_from_same (x ∷ xs) (y ∷ ys) e =
    let parts = both (x == y) (same_bytes xs ys) e in
    let first : x ≡ y = eqb-true x y parts.0 in
    let rest : xs ≡ ys = equal_from_same xs ys parts.1 in
    rw (first, rest) refl
  where
    both : (a b : Bool) → (a && b) ≡ true → (a ≡ true) × (b ≡ true)
    both true true e = (refl, refl)
    both true false e = absurd cc
    both false b e = absurd cc

pub same_as_itself : (xs : List ℕ) → same_bytes xs xs ≡ true
same_as_itself [] = refl
same_as_itself (x ∷ xs) = rw (eq-eqb x x refl, same_as_itself xs) refl

pub none_yet : (files : List Written) (name : List ℕ) → written_files (take 0 files) name ≡ None
unfolding written_files
none_yet files name = refl

pub one_more : (files : List Written) (i : ℕ) (d : Written) (name : List ℕ) → i < length files
    → written_files (take (i + 1) files) name ≡ with_file (written_files (take i files)) (get_or files i d) name
unfolding written_files
one_more files i d name within = rw (take_more files i d within, fold_push with_file no_files (take i files) (get_or files i d)) refl

pub no_files_yet : written_files [] ≡ no_files
unfolding written_files
no_files_yet = refl

-- one more file was written
pub appended_file : (old : List Written) (file : Written) → written_files (old ++ file ∷ []) ≡ with_file (written_files old) file
unfolding written_files
appended_file old file = fold_push with_file no_files old file

-- so its name has its bytes, and each other name has what it had
pub written_now : (old new : List Written) (name bytes : List ℕ) → IsAppended old new name bytes
    → SameBut name (written_files old) (written_files new) × (written_files new name ≡ Some bytes)
written_now old new name bytes is =
    let more : written_files new ≡ with_file (written_files old) is.file = ap written_files is.appended ∙ appended_file old is.file in
    ((λ other differs. ap (λ (files : Files). files other) more ∙ kept other (λ e. differs (sym (sym is.named ∙ e)))), ap (λ (files : Files). files name) more ∙ set)
  where
    kept : (other : List ℕ) → (is.file.name.items ≡ other → ⊥) → with_file (written_files old) is.file other ≡ written_files old other
    kept other differs = by_test (same_bytes is.file.name.items other) refl
      where
        by_test : (b : Bool) → same_bytes is.file.name.items other ≡ b → with_file (written_files old) is.file other ≡ written_files old other
        by_test true e = absurd (differs (equal_from_same is.file.name.items other e))
        by_test false e = rw e refl

    set : with_file (written_files old) is.file name ≡ Some bytes
    set =
        let same : same_bytes is.file.name.items name ≡ true = ap (λ (l : List ℕ). same_bytes is.file.name.items l) (sym is.named) ∙ same_as_itself is.file.name.items in
        rw (same, is.has) refl

-- what a host in memory does to its files
pub write_ok : (old new : List Written) (name bytes : List ℕ) (x : Unit {0}) → IsAppended old new name bytes
    → WritesFile (Some (written_files old)) (Some (written_files new)) name bytes (Ok x)
write_ok old new name bytes x is = (written_files new, refl, written_now old new name bytes is)

pub write_wants_memory : (old new : List Written) (name bytes : List ℕ) → new ≡ old
    → WritesFile (Some (written_files old)) (Some (written_files new)) name bytes (Err Memory)
write_wants_memory old new name bytes same =
    (written_files new, refl, ((λ other differs. ap (λ (w : List Written). written_files w other) same), ap (λ (w : List Written). written_files w name) same))

-- the next file has the name
pub found_same : (files : List Written) (i : ℕ) (file : Written) (name : List ℕ) → i < length files → file ≡ get_or files i file → same_bytes file.name.items name ≡ true
    → Some file.bytes.items ≡ written_files (take (i + 1) files) name
found_same files i file name within is same =
    let more = one_more files i file name within in
    let here : with_file (written_files (take i files)) (get_or files i file) name ≡ with_file (written_files (take i files)) file name =
    ap (λ (w : Written). with_file (written_files (take i files)) w name) (sym is) in
    sym (more ∙ here ∙ rw same refl)

-- the next file has another name
pub found_other : (files : List Written) (i : ℕ) (file : Written) (name : List ℕ) → i < length files → file ≡ get_or files i file → same_bytes file.name.items name ≡ false
    → written_files (take i files) name ≡ written_files (take (i + 1) files) name
found_other files i file name within is other =
    let more = one_more files i file name within in
    let here : with_file (written_files (take i files)) (get_or files i file) name ≡ with_file (written_files (take i files)) file name =
    ap (λ (w : Written). with_file (written_files (take i files)) w name) (sym is) in
    sym (more ∙ here ∙ rw other refl)
