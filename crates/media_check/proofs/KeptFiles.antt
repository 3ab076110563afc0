-- The listed files as they are read and kept one after the other.
use Rattle.std.proofs.Common.{◌≡◌, ℕ, zero, suc, ◌+◌, ◌≤◌, ◌<◌, List, [], ◌∷◌, ◌++◌, length, take, get_or, append-nil, append_assoc, false, is_some, Option, Some, None, Ok, Err, refl, sym, ap, subst, ◌∙◌, arith}
use Rattle.std.specs.Prelude.{All, map}
use Rattle.std.specs.Cmp.Lexicographic.{nat_list_eq_equiv}
use Rattle.std.specs.List.{list_any}
use Rattle.std.specs.Map.{lookup, keys_of, values_of}
use Rattle.std.proofs.lemmas.Map.Made.{is_some-lookup}
use Rattle.std.specs.Option.{ForSome}
use Rattle.std.proofs.lemmas.List.{map-append}
use Rattle.std.proofs.lemmas.List.Elements.{All-nil, All-push}
use Rattle.std.proofs.lemmas.List.Sums.{sum_by-append}
use Rattle.load_base.specs.Bytes.{same_bytes}
use Rattle.load_base.specs.Host.{Files, longest_file}
use Rattle.load_base.specs.Listed.{Listed}
use Rattle.media_lists.specs.Entries.{is_listed}
use Rattle.media_lists.specs.Files.{file_name}
use Rattle.media_lists.specs.ListFields.{AreNew}
use Rattle.media_lists.specs.declared.lists.ListedFile.{ListedFile}
use Rattle.media_check.specs.HostNames.{host_media, listed_name}
use Rattle.media_check.specs.Kept.{bytes_view, contents, IsShortFile}
use Rattle.media_check.specs.Openings.{IsShortOnHost, ReadsNames, KeepsNext, KeepsListed, length_on_host, total_of, largest_set}
use Rattle.media_check.specs.Sets.{ListedFileView, file_view, files_view, file_in}
use Rattle.media_check.specs.declared.fault.OpenFault.{OpenFault}
use Rattle.media_check.specs.declared.fault.OpenFault.TheVariants.{TooLong, TooLarge, Failed, Memory}
use Rattle.media_check.specs.declared.set.KeptFile.{KeptFile}
use Rattle.media_check.proofs.Refusals.{told_also, told_both, told_anyway}

-- ---- one file

-- the one name that is refused
only_name : (name refused : List ℕ) (before after : List (List ℕ)) → name ∷ [] ≡ before ++ refused ∷ after → refused ≡ name
only_name name refused [] after is = cc
only_name name refused (b ∷ []) after is = absurd cc
only_name name refused (b ∷ c ∷ before) after is = absurd cc

-- one more file as it is seen
pub seen_more : (old : List (List ℕ × KeptFile)) (name : List ℕ) (file : KeptFile) → files_view (old ++ (name, file) ∷ []) ≡ files_view old ++ (name, file_view file) ∷ []
seen_more [] name file = refl
seen_more (e ∷ old) name file = ap (λ (l : List (List ℕ × ListedFileView)). (e.0, file_view e.1) ∷ l) (seen_more old name file)

pub next_unread : (o : Option Files) (folder : List ℕ) (entry : ListedFile) (name : List ℕ) (total : ℕ) (old new : List (List ℕ × KeptFile)) (fault : OpenFault) → name ≡ listed_name folder entry
    → ForSome o (ReadsNames (name ∷ []) (λ files (f : Option (Listed ℕ)). bytes_view f ≡ files name) (Err fault)) → ForSome o (KeepsNext folder entry total old new (Err fault))
next_unread o folder entry name total old new fault same reads = told_also o _ _ reads (λ files refused. go files fault refused)
  where
    go : (files : Files) (fault : OpenFault) → ReadsNames (name ∷ []) (λ files (f : Option (Listed ℕ)). bytes_view f ≡ files name) (Err fault) files → KeepsNext folder entry total old new (Err fault) files
    go files (TooLong refused) long =
        let is : refused.items ≡ name = only_name name refused.items long.before long.after long.stands in
        (is ∙ same, subst (λ (n : List ℕ). longest_file < length_on_host files n) (is ∙ same) long.long)
    go files TooLarge never = absurd never
    go files Failed _ = tt
    go files Memory _ = tt

pub next_large : (o : Option Files) (folder : List ℕ) (entry : ListedFile) (name : List ℕ) (total sum : ℕ) (old new : List (List ℕ × KeptFile)) (bytes : Option (Listed ℕ)) → name ≡ listed_name folder entry
    → ForSome o (ReadsNames (name ∷ []) (λ files (f : Option (Listed ℕ)). bytes_view f ≡ files name) (Ok bytes)) → sum ≡ total + length (contents (bytes_view bytes)) → largest_set < sum
    → ForSome o (KeepsNext folder entry total old new (Err TooLarge))
next_large o folder entry name total sum old new bytes same reads is passes =
    told_also o _ _ reads (λ files read.
    let size : length (contents (bytes_view bytes)) ≡ length_on_host files name = ap (λ (b : Option (List ℕ)). length (contents b)) read.1 in
    subst (λ (n : List ℕ). IsShortOnHost files n × (largest_set < total + length_on_host files n)) same (read.0 0 name (omega arith), omega (arith, size, is, passes)))

pub next_read : (o : Option Files) (folder : List ℕ) (entry : ListedFile) (name : List ℕ) (total sum : ℕ) (old new : List (List ℕ × KeptFile)) (bytes : Option (Listed ℕ)) → name ≡ listed_name folder entry
    → ForSome o (ReadsNames (name ∷ []) (λ files (f : Option (Listed ℕ)). bytes_view f ≡ files name) (Ok bytes)) → sum ≡ total + length (contents (bytes_view bytes))
    → new ≡ old ++ (entry.name, record { member = entry.member; bytes = bytes }) ∷ [] → ForSome o (KeepsNext folder entry total old new (Ok sum))
next_read o folder entry name total sum old new bytes same reads is appended =
    told_also o _ _ reads (λ files read.
    let size : length (contents (bytes_view bytes)) ≡ length_on_host files name = ap (λ (b : Option (List ℕ)). length (contents b)) read.1 in
    let there : bytes_view bytes ≡ files (listed_name folder entry) = read.1 ∙ ap files same in (
      subst (IsShortOnHost files) same (read.0 0 name (omega arith)),
      is ∙ ap (λ (n : ℕ). total + n) (size ∙ ap (length_on_host files) same),
      ap files_view appended ∙ seen_more old entry.name (record { member = entry.member; bytes = bytes })
          ∙ ap (λ (b : Option (List ℕ)). files_view old ++ (let file : List ℕ × ListedFileView = (entry.name, record { member = entry.member; bytes = b }) in file) ∷ []) there,
    ))

-- ---- all of them

-- these entries were read, and are kept in their order, with `total` bytes together
pub record KeptSoFar (folder : List ℕ) (entries : List ListedFile) (total : ℕ) (kept : List (List ℕ × KeptFile)) (files : Files) : Type 0 where
  pub total_is : total ≡ total_of files (map (listed_name folder) entries)
  pub short : All (IsShortOnHost files) (map (listed_name folder) entries)
  pub same : files_view kept ≡ map (file_in (host_media files folder)) entries

pub none_kept : (o : Option Files) (folder : List ℕ) (kept : List (List ℕ × KeptFile)) → kept ≡ [] → ForSome o (KeptSoFar folder [] 0 kept)
none_kept o folder kept none = told_anyway o _ (λ files. record { total_is = refl; short = All-nil (IsShortOnHost files); same = rw none refl })

pub kept_more : (o : Option Files) (folder : List ℕ) (entries : List ListedFile) (entry : ListedFile) (total sum : ℕ) (old new : List (List ℕ × KeptFile)) → ForSome o (KeptSoFar folder entries total old)
    → ForSome o (KeepsNext folder entry total old new (Ok sum)) → ForSome o (KeptSoFar folder (entries ++ entry ∷ []) sum new)
kept_more o folder entries entry total sum old new so_far next =
    told_both o _ _ _ so_far next (λ files before here.
    let names : map (listed_name folder) (entries ++ entry ∷ []) ≡ map (listed_name folder) entries ++ listed_name folder entry ∷ [] = map-append (listed_name folder) entries (entry ∷ []) in
    let together : total_of files (map (listed_name folder) entries ++ listed_name folder entry ∷ []) ≡ total_of files (map (listed_name folder) entries) + total_of files (listed_name folder entry ∷ []) =
    sum_by-append (length_on_host files) (map (listed_name folder) entries) (listed_name folder entry ∷ []) in
    let one : total_of files (listed_name folder entry ∷ []) ≡ length_on_host files (listed_name folder entry) = omega arith in
    record {
      total_is = rw names (omega (arith, together, one, before.total_is, here.1));
      short = subst (All (IsShortOnHost files)) (sym names) (All-push (IsShortOnHost files) (map (listed_name folder) entries) (listed_name folder entry) before.short here.0);
      same = here.2 ∙ ap (λ (l : List _). l ++ file_in (host_media files folder) entry ∷ []) before.same ∙ sym (map-append (file_in (host_media files folder)) entries (entry ∷ []));
    })

pub kept_all : {M : Type 0} (o : Option Files) (kept : M) (entries_in : M → List (List ℕ × KeptFile)) (folder : List ℕ) (entries : List ListedFile) (total : ℕ) → total ≤ largest_set
    → ForSome o (KeptSoFar folder entries total (entries_in kept)) → ForSome o (KeepsListed entries_in folder entries (Ok kept))
kept_all o kept entries_in folder entries total small so_far =
    told_also o _ _ so_far (λ files all. (all.short, omega (arith, small, all.total_is), all.same))

pub listed_unread : {M : Type 0} (o : Option Files) (some : M) (entries_in : M → List (List ℕ × KeptFile)) (folder : List ℕ) (entries others all : List ListedFile) (entry : ListedFile) (total : ℕ)
    (old new : List (List ℕ × KeptFile)) (fault : OpenFault) → total ≤ largest_set → all ≡ entries ++ entry ∷ others → ForSome o (KeptSoFar folder entries total old)
    → ForSome o (KeepsNext folder entry total old new (Err fault)) → ForSome o (KeepsListed entries_in folder all (Err fault))
listed_unread {M = M} o some entries_in folder entries others all entry total old new fault small split so_far next =
    told_both o _ _ _ so_far next (λ files before refused. go files before fault refused)
  where
    names : map (listed_name folder) all ≡ map (listed_name folder) entries ++ listed_name folder entry ∷ map (listed_name folder) others
    names = ap (map (listed_name folder)) split ∙ map-append (listed_name folder) entries (entry ∷ others)

    go : (files : Files) → KeptSoFar folder entries total old files → (fault : OpenFault) → KeepsNext folder entry total old new (Err fault) files → KeepsListed entries_in folder all (Err fault) files
    go files before (TooLong name) refused = record {
      first = record {
        before = map (listed_name folder) entries;
        after = map (listed_name folder) others;
        stands = rw refused.0 names;
        others = before.short;
        long = subst (λ (n : List ℕ). longest_file < length_on_host files n) (sym refused.0) refused.1;
      };
      together = omega (arith, small, before.total_is);
    }
    go files before TooLarge refused = record {
      before = map (listed_name folder) entries;
      name = listed_name folder entry;
      after = map (listed_name folder) others;
      stands = names;
      others = before.short;
      this = refused.0;
      together = omega (arith, small, before.total_is);
      passes = omega (arith, before.total_is, refused.1);
    }
    go files before Failed refused = tt
    go files before Memory refused = tt

-- ---- what is kept, whatever the host tells

pub short_more : (old new : List (List ℕ × KeptFile)) (name : List ℕ) (file : KeptFile) → new ≡ old ++ (name, file) ∷ [] → All IsShortFile (values_of old) → IsShortFile file → All IsShortFile (values_of new)
short_more old new name file is short this =
    subst (λ (l : List (List ℕ × KeptFile)). All IsShortFile (values_of l)) (sym is)
    (subst (All IsShortFile) (sym (map-append (λ (e : List ℕ × KeptFile). e.1) old ((name, file) ∷ []))) (All-push IsShortFile (values_of old) file short this))

pub keys_more : (old new : List (List ℕ × KeptFile)) (name : List ℕ) (file : KeptFile) → new ≡ old ++ (name, file) ∷ [] → keys_of new ≡ keys_of old ++ name ∷ []
keys_more old new name file is = ap (λ (l : List (List ℕ × KeptFile)). keys_of l) is ∙ map-append (λ (e : List ℕ × KeptFile). e.0) old ((name, file) ∷ [])

-- an entry's name is none of those before it
pub new_at : (so_far entries : List ListedFile) (i : ℕ) (entry : ListedFile) → i < length entries → entry ≡ get_or entries i entry → AreNew file_name so_far entries
    → is_listed file_name entry.name (so_far ++ take i entries) ≡ false
new_at so_far [] i entry within is new = absurd (omega arith)
new_at so_far (e ∷ entries) zero entry within is new = rw (append-nil so_far, is) new.0
new_at so_far (e ∷ entries) (suc i) entry within is new =
    subst (λ (l : List ListedFile). is_listed file_name entry.name l ≡ false) (append_assoc so_far (e ∷ []) (take i entries)) (new_at (so_far ++ e ∷ []) entries i entry (omega (arith, within)) is new.1)

-- so it is no key yet
pub no_key : (entries : List ListedFile) (name : List ℕ) (kept : List (List ℕ × KeptFile)) → is_listed file_name name entries ≡ false → keys_of kept ≡ map file_name entries
    → lookup (same_bytes name) kept ≡ None
unfolding is_listed
no_key entries name kept unlisted keys = none (lookup (same_bytes name) kept) (is_some-lookup (same_bytes name) kept ∙ ap (list_any (same_bytes name)) keys ∙ same entries ∙ unlisted)
  where
    same : (entries : List ListedFile) → list_any (same_bytes name) (map file_name entries) ≡ list_any (λ (entry : ListedFile). same_bytes (file_name entry) name) entries
    same [] = refl
    same (e ∷ entries) = rw (nat_list_eq_equiv.symm name e.name, same entries) refl

    none : (found : Option KeptFile) → is_some found ≡ false → found ≡ None
    none None e = refl
    none (Some file) e = absurd cc
