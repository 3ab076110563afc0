-- What reading over entries tells of the loads that they say.
use Rattle.std.proofs.Common.{◌≡◌, ◌⊎◌, inl, inr, ℕ, suc, ◌+◌, ◌*◌, ◌-◌, ◌<◌, ◌≤◌, List, [], ◌∷◌, ◌++◌, length, take, drop, get_or, Result, Ok, Err, refl, sym, ap, ap₂, subst, ◌∙◌, arith, length-append}
use Rattle.std.specs.List.{concat, flat_map}
use Rattle.std.proofs.lemmas.List.{drop_all, drop_at, drop_more, take_all, take_more, get_or_append_left}
use Rattle.std.proofs.lemmas.List.Elements.{All-get_or, All-nil}
use Rattle.std.proofs.lemmas.List.Folds.{concat-append}
use Rattle.std.proofs.lemmas.List.Sums.{sum_by-cons}
use Rattle.field_grammar.specs.Cursor.{Cursor, start, at, past}
use Rattle.field_grammar.specs.Grammar.{Grammar, Spelled, read, mapped, times, ◌then◌}
use Rattle.field_grammar.proofs.GrammarLemmas.{what_follows_is_read}
use Rattle.field_grammar.proofs.MoveLemmas.{same_bytes}
use Rattle.disk_layout.specs.Entries.{SaysLoad, SaysLoads, entry_bytes, typed_loads}
use Rattle.disk_layout.proofs.EntriesLemmas.{all_are_typed, none_is_typed, entry_bytes_first, entry_bytes_more, load_fits, total_length_more}
use Rattle.disk_layout.specs.Manifest.{Head, LoadEntry, LoadFits, ManifestFits, entries_length, file_entry, head_fields, in_layout, load_entry, load_entry_fields, manifest, manifest_fields, manifest_head, total_length}
use Rattle.disk_layout.proofs.ManifestSpelling.{manifest_spelling, spelled-head, spelled-load}
use Rattle.disk_layout.specs.PassedLoads.{BeginsWithLoad, PassesLoad, StandsAt, most_length}
use Rattle.disk_layout.specs.declared.manifest.Layout.{Layout}
use Rattle.disk_layout.specs.declared.manifest.Layout.TheVariants as layouts
use Rattle.disk_layout.specs.declared.manifest.ManifestFault.{ManifestFault}
use Rattle.disk_layout.specs.declared.manifest.ManifestFault.TheVariants.{Memory}
use Rattle.disk_layout.specs.declared.manifest.ManifestFile.{ManifestFile}

abbrev Reads : Type 0 → Type 0
Reads A = Result (A × Cursor) ManifestFault

abbrev entry : LoadEntry → List (List ℕ)
entry load = load_entry_fields layouts.Two load

same_read : {A : Type 0} (x y : A) (c d : Cursor) (r : Reads A) → r ≡ Ok (x, c) → r ≡ Ok (y, d) → (x ≡ y) × (c ≡ d)
same_read {A} x y c d r one two = let same : (x, c) ≡ (y, d) = cc in (ap (λ (z : A × Cursor). z.0) same, ap (λ (z : A × Cursor). z.1) same)

read_or_refused : {A : Type 0} (x : A × Cursor) (fault : ManifestFault) (r : Reads A) → r ≡ Ok x → r ≡ Err fault → ⊥
read_or_refused x fault r one two = cc

-- ---- the head of a manifest

head_is_read : (bytes : List ℕ) (layout : Layout) (loads : List LoadEntry) → ManifestFits layout loads → bytes ≡ concat (manifest_fields layout loads)
    → read manifest_head (start bytes) ≡ Ok (in_layout layout (length loads), past [] (head_fields layout (length loads)) (concat (flat_map (load_entry_fields layout) loads)))
head_is_read bytes layout loads fits is =
    let rest : List ℕ = concat (flat_map (load_entry_fields layout) loads) in
    let parts : bytes ≡ concat (head_fields layout (length loads)) ++ rest = is ∙ concat-append (head_fields layout (length loads)) (flat_map (load_entry_fields layout) loads) in
    rw parts
    (what_follows_is_read manifest_head [] (head_fields layout (length loads)) rest (in_layout layout (length loads))
    (spelled-head.from [] (length rest) (in_layout layout (length loads)) fits.count))

-- what stands behind the head
behind_head : (bytes : List ℕ) (head : Head) (d : Cursor) → read manifest_head (start bytes) ≡ Ok (head, d) → drop (length d.before) bytes ≡ d.rest
behind_head bytes head d here =
    ap (λ (b : List ℕ). drop (length d.before) b) (same_bytes manifest_head (start bytes) d head here) ∙ drop_at d.before d.rest (length d.before) refl

pub head_within : (bytes : List ℕ) (head : Head) (d : Cursor) → read manifest_head (start bytes) ≡ Ok (head, d) → length d.before ≤ length bytes
head_within bytes head d here = omega (arith, ap length (same_bytes manifest_head (start bytes) d head here), length-append d.before d.rest)

none_said : (loads : List LoadEntry) → loads ≡ [] → SaysLoads [] loads
none_said loads none = subst (λ (l : List LoadEntry). SaysLoads [] l) (sym none) (record { fits = record { count = omega arith; each = All-nil (λ (l : LoadEntry). LoadFits layouts.Two l) }; are = refl })

-- in layout 2 all loads have a type id
pub typed_behind : (bytes : List ℕ) (head : Head) (d : Cursor) (loads : List LoadEntry) → read manifest_head (start bytes) ≡ Ok (head, d) → head.layout ≡ layouts.Two
    → Spelled manifest bytes loads → SaysLoads (drop (length d.before) bytes) (typed_loads loads)
typed_behind bytes head d loads here two spelled =
    let (layout, fits, is) = (manifest_spelling bytes loads).0 spelled in
    by_layout layout fits is
  where
    by_layout : (layout : Layout) → ManifestFits layout loads → bytes ≡ concat (manifest_fields layout loads) → SaysLoads (drop (length d.before) bytes) (typed_loads loads)
    by_layout layouts.One fits is =
        let same = same_read head (in_layout layouts.One (length loads)) d _ (read manifest_head (start bytes)) here (head_is_read bytes layouts.One loads fits is) in
        let other : layouts.One ≡ layouts.Two = sym (ap (λ (h : Head). h.layout) same.0) ∙ two in
        absurd cc
    by_layout layouts.Two fits is =
        let same = same_read head (in_layout layouts.Two (length loads)) d _ (read manifest_head (start bytes)) here (head_is_read bytes layouts.Two loads fits is) in
        let rest : drop (length d.before) bytes ≡ entry_bytes loads = behind_head bytes head d here ∙ ap (λ (c : Cursor). c.rest) same.1 in
        rw (rest, all_are_typed loads fits.each) (record { fits = fits; are = refl })

-- in layout 1 none has one
pub typed_nowhere : (bytes : List ℕ) (head : Head) (d : Cursor) (loads : List LoadEntry) → read manifest_head (start bytes) ≡ Ok (head, d) → head.layout ≡ layouts.One
    → Spelled manifest bytes loads → SaysLoads [] (typed_loads loads)
typed_nowhere bytes head d loads here one spelled =
    let (layout, fits, is) = (manifest_spelling bytes loads).0 spelled in
    by_layout layout fits is
  where
    by_layout : (layout : Layout) → ManifestFits layout loads → bytes ≡ concat (manifest_fields layout loads) → SaysLoads [] (typed_loads loads)
    by_layout layouts.One fits is = none_said (typed_loads loads) (none_is_typed loads fits.each)
    by_layout layouts.Two fits is =
        let same = same_read head (in_layout layouts.Two (length loads)) d _ (read manifest_head (start bytes)) here (head_is_read bytes layouts.Two loads fits is) in
        let other : layouts.Two ≡ layouts.One = sym (ap (λ (h : Head). h.layout) same.0) ∙ one in
        absurd cc

-- and no manifest is without a head
pub typed_never : (bytes : List ℕ) (fault : ManifestFault) (loads : List LoadEntry) → ¬ (fault ≡ Memory) → (fault ≡ Memory) ⊎ (read manifest_head (start bytes) ≡ Err fault)
    → Spelled manifest bytes loads → SaysLoads [] (typed_loads loads)
typed_never bytes fault loads other (inl wants) spelled = absurd (other wants)
typed_never bytes fault loads other (inr refused) spelled =
    let (layout, fits, is) = (manifest_spelling bytes loads).0 spelled in
    absurd (read_or_refused _ fault (read manifest_head (start bytes)) (head_is_read bytes layout loads fits is) refused)

-- ---- the files of one load

-- the sum so far before that of the files that are read yet
abbrev pub with_sum : ℕ → Reads (List ManifestFile) → Reads ℕ
with_sum sum r = r then (λ x. Ok (sum + entries_length x.0, x.1))

abbrev pub summed : ℕ → Cursor → Reads ℕ
summed count c = read (mapped entries_length (times count file_entry)) c

pub record SumsSoFar (sum count i : ℕ) (c first : Cursor) : Type 0 where
  pub reads : with_sum sum (read (times (count - i) file_entry) c) ≡ summed count first
  pub small : sum ≤ i * 4294967295

no_sum : (r : Reads (List ManifestFile)) → with_sum 0 r ≡ (r then (λ x. Ok (entries_length x.0, x.1)))
no_sum (Ok x) = let e : 0 + entries_length x.0 ≡ entries_length x.0 = omega arith in rw e refl
no_sum (Err fault) = refl

more_sum : (sum : ℕ) (f : ManifestFile) (r : Reads (List ManifestFile)) → with_sum sum (r then (λ xs. Ok (f ∷ xs.0, xs.1))) ≡ with_sum (sum + f.length) r
more_sum sum f (Ok xs) =
    let e : sum + entries_length (f ∷ xs.0) ≡ sum + f.length + entries_length xs.0 = omega (arith, sum_by-cons (λ (g : ManifestFile). g.length) f xs.0) in
    ap (λ (n : ℕ). Ok (n, xs.1)) e
more_sum sum f (Err fault) = refl

file_more : (sum n : ℕ) (c d : Cursor) (f : ManifestFile) → read file_entry c ≡ Ok (f, d) → with_sum sum (read (times (suc n) file_entry) c) ≡ with_sum (sum + f.length) (read (times n file_entry) d)
unfolding times
file_more sum n c d f here = rw here (more_sum sum f (read (times n file_entry) d))

file_stop : (sum n : ℕ) (c : Cursor) (fault : ManifestFault) → read file_entry c ≡ Err fault → with_sum sum (read (times (suc n) file_entry) c) ≡ Err fault
unfolding times
file_stop sum n c fault here = rw here refl

file_none : (sum : ℕ) (c : Cursor) → with_sum sum (read (times 0 file_entry) c) ≡ Ok (sum, c)
unfolding times
file_none sum c = let e : sum + 0 ≡ sum = omega arith in rw e refl

pub sum_begins : (count : ℕ) (c : Cursor) → SumsSoFar 0 count 0 c c
sum_begins count c =
    let all : count - 0 ≡ count = omega arith in
    record { reads = ap (λ (n : ℕ). with_sum 0 (read (times n file_entry) c)) all ∙ no_sum (read (times count file_entry) c); small = omega arith }

pub sum_goes_on : (sum count i : ℕ) (c d first : Cursor) (f : ManifestFile) → i < count → read file_entry c ≡ Ok (f, d) → f.length ≤ 4294967295 → SumsSoFar sum count i c first → SumsSoFar (sum + f.length) count (i + 1) d first
sum_goes_on sum count i c d first f lt here short so_far =
    let more : count - i ≡ suc (count - (i + 1)) = omega arith in
    record {
      reads = sym (file_more sum (count - (i + 1)) c d f here) ∙ (ap (λ (n : ℕ). with_sum sum (read (times n file_entry) c)) (sym more) ∙ so_far.reads);
      small = omega (arith, so_far.small, short);
    }

pub sum_stops : (sum count i : ℕ) (c first : Cursor) (fault : ManifestFault) → i < count → SumsSoFar sum count i c first → (fault ≡ Memory) ⊎ (read file_entry c ≡ Err fault) → (fault ≡ Memory) ⊎ (summed count first ≡ Err fault)
sum_stops sum count i c first fault lt so_far (inl wants) = inl wants
sum_stops sum count i c first fault lt so_far (inr here) =
    let more : count - i ≡ suc (count - (i + 1)) = omega arith in
    inr (sym so_far.reads ∙ (ap (λ (n : ℕ). with_sum sum (read (times n file_entry) c)) more ∙ file_stop sum (count - (i + 1)) c fault here))

pub sum_is_done : (sum count i : ℕ) (c first : Cursor) → count ≤ i → SumsSoFar sum count i c first → summed count first ≡ Ok (sum, c)
sum_is_done sum count i c first le so_far =
    let none : count - i ≡ 0 = omega arith in
    sym so_far.reads ∙ (ap (λ (n : ℕ). with_sum sum (read (times n file_entry) c)) none ∙ file_none sum c)

-- ---- one load

abbrev pub lengths : Grammar ManifestFault ℕ
lengths = mapped (λ (l : LoadEntry). entries_length l.files) (load_entry layouts.Two)

stands_read : (c : Cursor) (load : LoadEntry) (rest : List ℕ) → StandsAt c load rest → read lengths c ≡ Ok (entries_length load.files, past c.before (entry load) rest)
stands_read c load rest stands =
    let one : read (load_entry layouts.Two) (at c.before (entry load) rest) ≡ Ok (load, past c.before (entry load) rest) =
    what_follows_is_read (load_entry layouts.Two) c.before (entry load) rest load ((spelled-load layouts.Two).from c.before (length rest) load stands.fits) in
    let whole : read lengths (at c.before (entry load) rest) ≡ Ok (entries_length load.files, past c.before (entry load) rest) = rw one refl in
    subst (λ (bytes : List ℕ). read lengths (record { before = c.before; rest = bytes }) ≡ Ok (entries_length load.files, past c.before (entry load) rest)) (sym stands.are) whole

pub passes : (c d : Cursor) (n : ℕ) → read lengths c ≡ Ok (n, d) → PassesLoad c n d
passes c d n here = record { passed = λ load rest stands. same_read n (entries_length load.files) d (past c.before (entry load) rest) (read lengths c) here (stands_read c load rest stands) }

pub never_refused : (c : Cursor) (fault : ManifestFault) → BeginsWithLoad c → ¬ (fault ≡ Memory) → (fault ≡ Memory) ⊎ (read lengths c ≡ Err fault) → ⊥
never_refused c fault next other (inl wants) = other wants
never_refused c fault next other (inr refused) = read_or_refused _ fault (read lengths c) (stands_read c next.load next.rest next.stands) refused

-- ---- the loads before one

-- a reader has passed this many of the loads before others, whose files have so many bytes
pub record IsBehind (loads others : List LoadEntry) (i : ℕ) (c : Cursor) (files : ℕ) : Type 0 where
  pub passed : c.before ≡ entry_bytes (take i loads)
  pub left : c.rest ≡ entry_bytes (drop i loads ++ others)
  pub sum : files ≡ total_length (take i loads)

-- so it is whichever loads the entries say
pub record HasPassed (entries : List ℕ) (number i : ℕ) (c : Cursor) (files : ℕ) : Type 0 where
  pub each : (before behind : List LoadEntry) (load : LoadEntry) → SaysLoads entries (before ++ load ∷ behind) → length before ≡ number → IsBehind before (load ∷ behind) i c files
  pub small : files ≤ i * most_length

pub none_passed : (entries : List ℕ) (number : ℕ) → HasPassed entries number 0 (start entries) 0
none_passed entries number = record {
  each = λ before behind load says is. record { passed = refl; left = says.are; sum = refl };
  small = omega arith;
}

-- the load of number i before the one that is looked for
next_stands : (before behind : List LoadEntry) (load : LoadEntry) (i : ℕ) (c : Cursor) (files : ℕ) → ManifestFits layouts.Two (before ++ load ∷ behind) → i < length before
    → IsBehind before (load ∷ behind) i c files → StandsAt c (get_or before i load) (entry_bytes (drop (i + 1) before ++ load ∷ behind))
next_stands before behind load i c files fits lt is = record {
  fits = subst (λ (l : LoadEntry). LoadFits layouts.Two l) (get_or_append_left before (load ∷ behind) load i lt)
      (All-get_or (λ (l : LoadEntry). LoadFits layouts.Two l) (before ++ load ∷ behind) i load (omega (arith, lt, length-append before (load ∷ behind))) fits.each);
  are = is.left
      ∙ (ap (λ (loads : List LoadEntry). entry_bytes (loads ++ load ∷ behind)) (drop_more before i load lt)
      ∙ entry_bytes_first (get_or before i load) (drop (i + 1) before ++ load ∷ behind));
}

-- one more
pub one_passed : (entries : List ℕ) (number i : ℕ) (c d : Cursor) (files n : ℕ) → i < number → HasPassed entries number i c files → PassesLoad c n d → n ≤ most_length → HasPassed entries number (i + 1) d (files + n)
one_passed entries number i c d files n lt so_far passed few = record {
  each = λ before behind load says is.
      let here : IsBehind before (load ∷ behind) i c files = so_far.each before behind load says is in
      let below : i < length before = omega (arith, lt, is) in
      let x : LoadEntry = get_or before i load in
      let told = passed.passed x (entry_bytes (drop (i + 1) before ++ load ∷ behind)) (next_stands before behind load i c files says.fits below here) in
      record {
        passed = ap (λ (e : Cursor). e.before) told.1
            ∙ (ap (λ (bytes : List ℕ). bytes ++ concat (entry x)) here.passed
            ∙ (sym (entry_bytes_more (take i before) x) ∙ ap (λ (loads : List LoadEntry). entry_bytes loads) (sym (take_more before i load below))));
        left = ap (λ (e : Cursor). e.rest) told.1;
        sum = ap₂ (λ (a b : ℕ). a + b) here.sum told.0
            ∙ (sym (total_length_more (take i before) x) ∙ ap (λ (loads : List LoadEntry). total_length loads) (sym (take_more before i load below)));
      };
  small = omega (arith, so_far.small, few);
}

-- another load stands there
pub next_begins : (entries : List ℕ) (number i : ℕ) (c : Cursor) (files : ℕ) → i < number → HasPassed entries number i c files → SaysLoad entries number → BeginsWithLoad c
next_begins entries number i c files lt so_far said = record {
  load = get_or said.before i said.load;
  rest = entry_bytes (drop (i + 1) said.before ++ said.load ∷ said.behind);
  stands = next_stands said.before said.behind said.load i c files said.says.fits (omega (arith, lt, said.is_at)) (so_far.each said.before said.behind said.load said.says said.is_at);
}

-- ---- the load itself

-- all before it are passed
abbrev IsAtLoad : List LoadEntry → List LoadEntry → LoadEntry → Cursor → ℕ → Type 0
IsAtLoad before behind load c files = (c.before ≡ entry_bytes before) × StandsAt c load (entry_bytes behind) × (files ≡ total_length before)

at_load : (before behind : List LoadEntry) (load : LoadEntry) (n : ℕ) (c : Cursor) (files : ℕ) → ManifestFits layouts.Two (before ++ load ∷ behind) → length before ≡ n
    → IsBehind before (load ∷ behind) n c files → IsAtLoad before behind load c files
at_load before behind load n c files fits many is =
    let all : take n before ≡ before = take_all n before (omega (arith, many)) in
    let none : drop n before ≡ [] = drop_all n before (omega (arith, many)) in (
      is.passed ∙ ap (λ (loads : List LoadEntry). entry_bytes loads) all,
      record {
        fits = load_fits layouts.Two before behind load fits;
        are = is.left ∙ (ap (λ (loads : List LoadEntry). entry_bytes (loads ++ load ∷ behind)) none ∙ entry_bytes_first load behind);
      },
      is.sum ∙ ap (λ (loads : List LoadEntry). total_length loads) all,
    )

pub load_begins : (entries : List ℕ) (number i : ℕ) (c : Cursor) (files : ℕ) → i ≡ number → HasPassed entries number i c files → SaysLoad entries number → BeginsWithLoad c
load_begins entries number i c files end so_far said =
    let here = at_load said.before said.behind said.load i c files said.says.fits (said.is_at ∙ sym end) (so_far.each said.before said.behind said.load said.says said.is_at) in
    record { load = said.load; rest = entry_bytes said.behind; stands = here.1 }

-- the reader goes on over a load
pub goes_on : (c d : Cursor) (n : ℕ) → BeginsWithLoad c → PassesLoad c n d → length c.before ≤ length d.before
goes_on c d n next passed =
    let told = passed.passed next.load next.rest next.stands in
    omega (arith, ap (λ (e : Cursor). length e.before) told.1, length-append c.before (concat (entry next.load)))

-- where the load stands
pub stands_there : (entries : List ℕ) (number i : ℕ) (c d : Cursor) (files n : ℕ) → i ≡ number → HasPassed entries number i c files → PassesLoad c n d
    → (before behind : List LoadEntry) (load : LoadEntry) → SaysLoads entries (before ++ load ∷ behind) → length before ≡ number
    → (length c.before ≡ length (entry_bytes before)) × (length d.before - length c.before ≡ length (concat (entry load))) × (files ≡ total_length before) × (n ≡ entries_length load.files)
stands_there entries number i c d files n end so_far passed before behind load says is =
    let here = at_load before behind load i c files says.fits (is ∙ sym end) (so_far.each before behind load says is) in
    let told = passed.passed load (entry_bytes behind) here.1 in
    (ap length here.0, omega (arith, ap (λ (e : Cursor). length e.before) told.1, length-append c.before (concat (entry load))), here.2, told.0)
