-- Bodies by their names.
use Rattle.std.proofs.Common.{◌≡◌, ℕ, suc, ◌+◌, ◌≤◌, List, [], ◌∷◌, ◌++◌, length, Bool, true, false, cond, ◌||◌, Option, Some, None, refl, sym, ap, ◌∙◌, arith}
use Rattle.std.specs.Prelude.{All, map}
use Rattle.std.specs.Cmp.Lexicographic.{nat_list_eq_equiv}
use Rattle.std.specs.List.{list_any, range_with_len}
use Rattle.std.specs.Map.{lookup}
use Rattle.std.proofs.lemmas.List.{map-append}
use Rattle.std.proofs.lemmas.List.Folds.{list_any-append}
use Rattle.load_base.specs.Bytes.{same_bytes}
use Rattle.load_base.specs.Host.{longest_file}
use Rattle.load_base.specs.Listed.{Listed}
use Rattle.media_lists.specs.Entries.{is_listed}
use Rattle.media_lists.specs.Files.{file_name}
use Rattle.media_lists.specs.declared.lists.ListedFile.{ListedFile}
use Rattle.media_check.specs.BuiltSets.{body_of, file_with, built_lists, built_media, IsShortBody}
use Rattle.media_check.specs.Kept.{bytes_view, contents}
use Rattle.media_check.specs.Sets.{MemberView, ListedFileView, SetView, file_in, file_view, files_view, lists_in, lists_view, further_members, entries_of, set_in, set_with}
use Rattle.media_check.specs.declared.built.Built.{Built}
use Rattle.media_check.specs.declared.built.Placed.{Placed}
use Rattle.media_check.specs.declared.set.KeptFile.{KeptFile}
use Rattle.media_check.specs.declared.set.MemberLists.{MemberLists}
use Rattle.media_check.proofs.KeptFiles.{seen_more}
use Rattle.media_check.proofs.Ranges.{range_more}

-- the first of two that is there
abbrev pub or_else : {A : Type 0} → Option A → Option A → Option A
or_else None other = other
or_else (Some x) other = Some x

-- the bytes of one more body, where its name is this one
abbrev pub body_if : Placed → List ℕ → Option (List ℕ) → Option (List ℕ)
body_if body name others = cond (same_bytes name body.name) (Some body.bytes.items) others

-- a body at the end counts where none before it has its name
pub body_last : (bodies : List Placed) (body : Placed) (name : List ℕ) (others : Option (List ℕ)) → or_else (body_of (bodies ++ body ∷ []) name) others ≡ or_else (body_of bodies name) (body_if body name others)
body_last [] body name others = by (same_bytes name body.name)
  where
    by : (b : Bool) → or_else (cond b (Some body.bytes.items) None) others ≡ cond b (Some body.bytes.items) others
    by true = refl
    by false = refl
body_last (b ∷ bodies) body name others = by (same_bytes name b.name) (body_last bodies body name others)
  where
    by : (t : Bool) → or_else (body_of (bodies ++ body ∷ []) name) others ≡ or_else (body_of bodies name) (body_if body name others)
        → or_else (cond t (Some b.bytes.items) (body_of (bodies ++ body ∷ []) name)) others ≡ or_else (cond t (Some b.bytes.items) (body_of bodies name)) (body_if body name others)
    by true e = refl
    by false e = e

-- what is found after one more body was put under its name
pub put_under : (body : Placed) (name : List ℕ) (found others : Option (Listed ℕ)) → found ≡ cond (same_bytes body.name name) (Some body.bytes) others → bytes_view found ≡ body_if body name (bytes_view others)
put_under body name found others is = ap bytes_view is ∙ by (same_bytes body.name name) (same_bytes name body.name) (nat_list_eq_equiv.symm body.name name)
  where
    by : (a b : Bool) → a ≡ b → bytes_view (cond a (Some body.bytes) others) ≡ cond b (Some body.bytes.items) (bytes_view others)
    by true true e = refl
    by false false e = refl
    by true false e = absurd cc
    by false true e = absurd cc

-- the body of a name is as short as all are
pub short_body : (bodies : List Placed) (name : List ℕ) → All IsShortBody bodies → length (contents (body_of bodies name)) ≤ longest_file
short_body [] name all = omega arith
short_body (b ∷ bodies) name all = by (same_bytes name b.name) (all 0 b (omega arith)) (short_body bodies name (λ k d within. all (suc k) d (omega (arith, within))))
  where
    by : (t : Bool) → IsShortBody b → length (contents (body_of bodies name)) ≤ longest_file → length (contents (cond t (Some b.bytes.items) (body_of bodies name))) ≤ longest_file
    by true this others = this
    by false this others = others

-- one more body was put under its name
pub body_put : (rest old : List Placed) (body : Placed) (name : List ℕ) (found others : Option (Listed ℕ)) (all : Option (List ℕ)) → old ≡ rest ++ body ∷ []
    → found ≡ cond (same_bytes body.name name) (Some body.bytes) others → or_else (body_of old name) (bytes_view others) ≡ all → or_else (body_of rest name) (bytes_view found) ≡ all
body_put rest old body name found others all is put so_far =
    ap (or_else (body_of rest name)) (put_under body name found others put) ∙ sym (body_last rest body name (bytes_view others))
    ∙ ap (λ (bodies : List Placed). or_else (body_of bodies name) (bytes_view others)) (sym is) ∙ so_far

-- the lists of one more member
pub lists_more : (loads files batches : List (Listed ℕ)) (count : ℕ) (old new : List MemberLists) (lists : MemberLists) → map lists_view old ≡ map (built_lists loads files batches) (range_with_len 2 count)
    → lists_view lists ≡ built_lists loads files batches (2 + count) → new ≡ old ++ lists ∷ [] → map lists_view new ≡ map (built_lists loads files batches) (range_with_len 2 (count + 1))
lists_more loads files batches count old new lists so_far this is =
    ap (map lists_view) is ∙ map-append lists_view old (lists ∷ []) ∙ ap (λ (l : List MemberView). l ++ lists_view lists ∷ []) so_far
    ∙ ap (λ (view : MemberView). map (built_lists loads files batches) (range_with_len 2 count) ++ view ∷ []) this
    ∙ sym (map-append (built_lists loads files batches) (range_with_len 2 count) ((2 + count) ∷ [])) ∙ ap (map (built_lists loads files batches)) (sym (range_more 2 count))

-- one more file with the body of its name
pub files_more : (bodies : List (List ℕ × Listed ℕ)) (entries : List ListedFile) (entry : ListedFile) (old new : List (List ℕ × KeptFile)) (bytes : Option (Listed ℕ))
    → new ≡ old ++ (entry.name, record { member = entry.member; bytes = bytes }) ∷ [] → bytes ≡ lookup (same_bytes entry.name) bodies → files_view old ≡ map (file_with bodies) entries
    → files_view new ≡ map (file_with bodies) (entries ++ entry ∷ [])
files_more bodies entries entry old new bytes is found so_far =
    ap files_view is ∙ seen_more old entry.name (record { member = entry.member; bytes = bytes }) ∙ ap (λ (l : List (List ℕ × ListedFileView)). l ++ (entry.name, file_view (record { member = entry.member; bytes = bytes })) ∷ []) so_far
    ∙ ap (λ (b : Option (Listed ℕ)). map (file_with bodies) entries ++ (let file : List ℕ × ListedFileView = (entry.name, record { member = entry.member; bytes = bytes_view b }) in file) ∷ []) found
    ∙ sym (map-append (file_with bodies) entries (entry ∷ []))

-- the parts of a set that was built
pub parts_joined : (built : Built) (first : MemberView) (further : List MemberView) (files : List (List ℕ × ListedFileView)) → first ≡ lists_in (built_media built) 1
    → further ≡ map (lists_in (built_media built)) (further_members first.loads) → files ≡ map (file_in (built_media built)) (entries_of first.files)
    → (let set : SetView = record { first = first; further = further; files = files } in set) ≡ set_in (built_media built)
parts_joined built first further files one others listed = rw (others, listed) (ap (set_with (built_media built)) one)

-- the files of entries, with what is found under their names
pub files_same : (built : Built) (bodies : List (List ℕ × Listed ℕ)) → ((name : List ℕ) → bytes_view (lookup (same_bytes name) bodies) ≡ body_of built.bodies.items name) → (entries : List ListedFile)
    → map (file_with bodies) entries ≡ map (file_in (built_media built)) entries
files_same built bodies same [] = refl
files_same built bodies same (entry ∷ entries) = rw (same entry.name, files_same built bodies same entries) refl

-- a name that none of these entries and not this one has
pub unlisted_before : (name : List ℕ) (entries : List ListedFile) (entry : ListedFile) → is_listed file_name name (entries ++ entry ∷ []) ≡ false
    → (is_listed file_name name entries ≡ false) × (same_bytes entry.name name ≡ false)
unfolding is_listed
unlisted_before name entries entry is = by (list_any (λ (e : ListedFile). same_bytes (file_name e) name) entries) (same_bytes entry.name name) (sym (list_any-append (λ (e : ListedFile). same_bytes (file_name e) name) entries (entry ∷ [])) ∙ is)
  where
    by : (a b : Bool) → (a || (b || false)) ≡ false → (a ≡ false) × (b ≡ false)
    by true b e = absurd cc
    by false true e = absurd cc
    by false false e = (refl, refl)
