-- Findings of one more member, entry or load, and names that loads name.
use Rattle.std.proofs.Common.{◌≡◌, ℕ, suc, ◌+◌, ◌<◌, List, [], ◌∷◌, ◌++◌, length, take, get_or, Bool, true, false, not, cond, ◌||◌, ◌&&◌, refl, sym, ap, ◌∙◌, append_assoc, append-nil, arith}
use Rattle.std.specs.Prelude.{map}
use Rattle.std.specs.List.{list_any, flat_map}
use Rattle.std.proofs.lemmas.Grind.{flat_map-append}
use Rattle.std.proofs.lemmas.List.{map-append, take-map, take_more, length-map, length-take-le}
use Rattle.std.proofs.lemmas.List.Folds.{list_any-append}
use Rattle.load_base.specs.Bytes.{same_bytes}
use Rattle.media_lists.specs.Entries.{is_listed}
use Rattle.media_lists.specs.Loads.{LoadEntryView, load_name}
use Rattle.media_lists.specs.declared.lists.ListedFile.{ListedFile}
use Rattle.media_check.specs.Findings.{findings_of, batches_findings, contents_findings, of_members, member_findings, entry_findings, body_findings, where_it_holds, plain, is_header_name}
use Rattle.media_check.specs.Sets.{MemberView, SetView, lists_view, bytes_of}
use Rattle.media_check.specs.declared.finding.Finding.{Finding}
use Rattle.media_check.specs.declared.set.MemberLists.{MemberLists}

-- what is found of members, of which the first has this number
abbrev pub OfMember : Type 0
OfMember = (member : ℕ) → MemberView → List Finding

pub members_none : (found : OfMember) (member : ℕ) → of_members found member [] ≡ []
unfolding of_members
members_none found member = refl

-- what is found of one more member
pub members_more : (found : OfMember) (member : ℕ) (members : List MemberView) (this : MemberView)
    → of_members found member (members ++ this ∷ []) ≡ of_members found member members ++ found (member + length members) this
unfolding of_members
members_more found member [] this =
    let e : member ≡ member + 0 = omega arith in
    append-nil (found member this) ∙ ap (λ (n : ℕ). found n this) e
members_more found member (other ∷ members) this =
    let e : (member + 1) + length members ≡ member + suc (length members) = omega arith in
    ap (λ (l : List Finding). found member other ++ l) (members_more found (member + 1) members this ∙ ap (λ (n : ℕ). of_members found (member + 1) members ++ found n this) e)
    ∙ sym (append_assoc (found member other) (of_members found (member + 1) members) (found (member + suc (length members)) this))

pub named_none : (name : List ℕ) → is_listed load_name name [] ≡ false
unfolding is_listed
named_none name = refl

-- one more load
pub named_more : (name : List ℕ) (loads : List LoadEntryView) (load : LoadEntryView) → is_listed load_name name (loads ++ load ∷ []) ≡ cond (same_bytes load.header_name name) true (is_listed load_name name loads)
unfolding is_listed
named_more name loads load = list_any-append (λ (l : LoadEntryView). same_bytes l.header_name name) loads (load ∷ []) ∙ by (list_any (λ (l : LoadEntryView). same_bytes l.header_name name) loads) (same_bytes load.header_name name)
  where
    by : (a b : Bool) → (a || (b || false)) ≡ cond b true a
    by true true = refl
    by true false = refl
    by false true = refl
    by false false = refl

-- what is mapped so far, with one more member
pub mapped_more : {A B : Type 0} (view : A → B) (xs : List A) (i : ℕ) (x : A) → i < length xs → x ≡ get_or xs i x → map view (take (i + 1) xs) ≡ map view (take i xs) ++ view x ∷ []
mapped_more view xs i x within is =
    ap (map view) (take_more xs i x within ∙ ap (λ (y : _). take i xs ++ y ∷ []) (sym is)) ∙ map-append view (take i xs) (x ∷ [])

-- what is found of the members so far, with one more
pub members_taken : (found : OfMember) (start old new : List Finding) (members : List MemberLists) (i : ℕ) (this : MemberLists) → i < length members → this ≡ get_or members i this
    → old ≡ start ++ of_members found 2 (take i (map lists_view members)) → new ≡ old ++ found (i + 2) (lists_view this)
    → new ≡ start ++ of_members found 2 (take (i + 1) (map lists_view members))
members_taken found start old new members i this within is so_far more =
    let seen : List MemberView = map lists_view (take i members) in
    let before : take i (map lists_view members) ≡ seen = take-map lists_view i members in
    let after : take (i + 1) (map lists_view members) ≡ seen ++ lists_view this ∷ [] = take-map lists_view (i + 1) members ∙ mapped_more lists_view members i this within is in
    let size : length seen ≡ i = length-map (take i members) lists_view ∙ length-take-le i members (omega (arith, within)) in
    let number : i + 2 ≡ 2 + length seen = omega (arith, size) in
    more ∙ ap (λ (l : List Finding). l ++ found (i + 2) (lists_view this)) (so_far ∙ ap (λ (m : List MemberView). start ++ of_members found 2 m) before)
    ∙ append_assoc start (of_members found 2 seen) (found (i + 2) (lists_view this))
    ∙ ap (λ (l : List Finding). start ++ l) (ap (λ (n : ℕ). of_members found 2 seen ++ found n (lists_view this)) number ∙ sym (members_more found 2 seen (lists_view this))
    ∙ ap (λ (m : List MemberView). of_members found 2 m) (sym after))

-- what is found of an entry, where it is known whether a load names it
pub entry_is : (set : SetView) (loads : List LoadEntryView) (entry : ListedFile) (is_named : Bool) → is_named ≡ is_listed load_name entry.name loads
    → body_findings entry (bytes_of set entry.name) ++ where_it_holds (is_header_name entry.name && not is_named) (plain 8 entry.member entry.name) ≡ entry_findings set loads entry
unfolding entry_findings
entry_is set loads entry is_named is =
    ap (λ (b : Bool). body_findings entry (bytes_of set entry.name) ++ where_it_holds (is_header_name entry.name && not b) (plain 8 entry.member entry.name)) is

-- what is found of the members of a list so far, with one more
pub found_more : {A : Type 0} (f : A → List Finding) (start old new : List Finding) (xs : List A) (i : ℕ) (x : A) → i < length xs → x ≡ get_or xs i x → old ≡ start ++ flat_map f (take i xs) → new ≡ old ++ f x
    → new ≡ start ++ flat_map f (take (i + 1) xs)
found_more f start old new xs i x within is so_far found =
    let taken : take (i + 1) xs ≡ take i xs ++ x ∷ [] = take_more xs i x within ∙ ap (λ (y : _). take i xs ++ y ∷ []) (sym is) in
    found ∙ ap (λ (l : List Finding). l ++ f x) so_far ∙ append_assoc start (flat_map f (take i xs)) (f x)
    ∙ ap (λ (l : List Finding). start ++ l) (ap (λ (l : List Finding). flat_map f (take i xs) ++ l) (sym (append-nil (f x))) ∙ sym (flat_map-append f (take i xs) (x ∷ [])) ∙ ap (flat_map f) (sym taken))

-- the parts of all findings
pub all_found : (set : SetView) (start lists further contents whole : List Finding) → start ≡ [] → lists ≡ start ++ member_findings set.first 1 set.first
    → further ≡ lists ++ of_members (member_findings set.first) 2 set.further → contents ≡ further ++ contents_findings set set.first.loads set.first.files
    → whole ≡ contents ++ batches_findings set set.first.loads set.first.files → whole ≡ findings_of set
unfolding findings_of of_members
all_found set start lists further contents whole none one others rest last =
    let found : List Finding = contents_findings set set.first.loads set.first.files in
    let batches : List Finding = batches_findings set set.first.loads set.first.files in
    let both : contents ++ batches ≡ further ++ (found ++ batches) = ap (λ (l : List Finding). l ++ batches) rest ∙ append_assoc further found batches in
    last ∙ both ∙ ap (λ (l : List Finding). l ++ (found ++ batches))
    (others ∙ ap (λ (l : List Finding). l ++ of_members (member_findings set.first) 2 set.further) (one ∙ ap (λ (l : List Finding). l ++ member_findings set.first 1 set.first) none))
