-- Which input is refused, as a function of the host's files.
use Rattle.std.proofs.Common.{◌≡◌, inl, inr, ℕ, ◌+◌, ◌<◌, ◌≤◌, Bool, true, false, List, [], ◌∷◌, ◌++◌, length, Option, Some, None, Result, Ok, Err, refl, sym, ap, subst, ◌∙◌, arith}
use Rattle.std.specs.Prelude.{All, codes, if◌then◌else◌, nat_lt}
use Rattle.std.proofs.lemmas.Bool.Decides.{nat_tests}
use Rattle.std.proofs.lemmas.List.Elements.{All-head, All-tail}
use Rattle.std.proofs.lemmas.List.Sums.{sum_by-append}
use Rattle.load_base.specs.Counts.{Rose}
use Rattle.load_base.specs.Host.{Files, longest_file}
use Rattle.field_grammar.specs.Grammar.{Grammar}
use Rattle.exchange_trace.specs.FaultTexts.{script_fault_text}
use Rattle.exchange_trace.specs.Lines.{Line}
use Rattle.exchange_trace.specs.Scripts.{script_said}
use Rattle.exchange_trace.specs.declared.fault.ScriptFault.{ScriptFault}
use Rattle.media_lists.specs.Files.{files_list}
use Rattle.media_lists.specs.ListFaultText.{list_fault_text}
use Rattle.media_lists.specs.Loads.{loads_list}
use Rattle.media_lists.specs.declared.fault.ListFault.{ListFault}
use Rattle.media_check.specs.HostNames.{ReadingOrder, files_name, loads_name}
use Rattle.media_check.specs.Kept.{contents}
use Rattle.media_check.specs.Openings.{CanRead, IsFirstLong, IsShortOnHost, IsTooLarge, IsTooLong, largest_set, length_on_host, total_of}
use Rattle.media_check.specs.Sets.{SetView, found_in}
use Rattle.media_check.specs.declared.found.Found.{Found}
use Rattle.media_check.specs.declared.found.Found.TheVariants.{Missing, Read, Refused}
use Rattle.loader_cli.specs.Replays.{HasInputs, HasList, HasSet, IsRead, RefusesInputs, RefusesList, RefusesText, rest_of}
use Rattle.loader_cli.specs.Replays.RefusesInputs.{no_script, no_text}
use Rattle.loader_cli.specs.Replays.RefusesText.{files_refused, files_too_long, host_failed, large_set, loads_refused, loads_too_long, long_file, script_absent, script_too_long}
use Rattle.loader_cli.specs.Replays.RefusesList.{list_absent, list_faulty}
use Rattle.loader_cli.specs.Texts.{refused_input}

-- ---- tests

pub lower : (a b : ℕ) → a < b → nat_lt a b ≡ true
lower a b less = grind (arith, nat_tests)

pub not_lower : (a b : ℕ) → b ≤ a → nat_lt a b ≡ false
not_lower a b least = grind (arith, nat_tests)

pub then_so : {A : Type 0} (b : Bool) (x y : A) → b ≡ true → (if b then x else y) ≡ x
then_so true x y is = refl
then_so false x y is = absurd cc

pub else_so : {A : Type 0} (b : Bool) (x y : A) → b ≡ false → (if b then x else y) ≡ y
else_so true x y is = absurd cc
else_so false x y is = refl

-- ---- refusals, in the order of reading

-- a file that is too long is refused for that
abbrev pub long_or : (name : List ℕ) (size : ℕ) → Option (List ℕ) → Option (List ℕ)
long_or name size later = if nat_lt longest_file size then Some (refused_input name (codes "toolong")) else later

abbrev found_refusal : {V : Type 0} → (name : List ℕ) → Found V ListFault → Option (List ℕ)
found_refusal name Missing = Some (refused_input name (codes "absent"))
found_refusal name (Refused fault) = Some (refused_input name (list_fault_text fault))
found_refusal name (Read list) = None

abbrev list_refusal : {V : Type 0} → Grammar ListFault V → (name : List ℕ) → (file : Option (List ℕ)) → Option (List ℕ)
list_refusal format name file = long_or name (length (contents file)) (found_refusal name (found_in format file))

abbrev names_refusal : Files → List (List ℕ) → Option (List ℕ)
names_refusal told [] = None
names_refusal told (name ∷ names) = long_or name (length_on_host told name) (names_refusal told names)

-- and a set for this many bytes together
abbrev pub large_or : (folder : List ℕ) (total : ℕ) → Option (List ℕ) → Option (List ℕ)
large_or folder total later = if nat_lt largest_set total then Some (refused_input folder (codes "toolarge")) else later

-- of listed files, where those before them have this many bytes together
abbrev listed_refusal : (folder : List ℕ) → Files → (total : ℕ) → List (List ℕ) → Option (List ℕ)
listed_refusal folder told total [] = None
listed_refusal folder told total (name ∷ names) =
    long_or name (length_on_host told name) (large_or folder (total + length_on_host told name) (listed_refusal folder told (total + length_on_host told name) names))

abbrev or_later : Option (List ℕ) → Option (List ℕ) → Option (List ℕ)
or_later (Some text) later = Some text
or_later None later = later

abbrev pub rest_refusal : (folder : List ℕ) → Files → ReadingOrder → Option (List ℕ)
rest_refusal folder told reading = or_later (names_refusal told reading.lists) (listed_refusal folder told 0 reading.files)

abbrev said_refusal : (name : List ℕ) → Result (List Line) ScriptFault → Option (List ℕ)
said_refusal name (Ok script) = None
said_refusal name (Err fault) = Some (refused_input name (script_fault_text fault))

abbrev script_refusal : (name : List ℕ) → Option (List ℕ) → Option (List ℕ)
script_refusal name None = Some (refused_input name (codes "absent"))
script_refusal name (Some bytes) = long_or name (length bytes) (said_refusal name (script_said bytes))

abbrev refusal : (folder name : List ℕ) → Files → Option (List ℕ)
refusal folder name told =
    or_later (list_refusal loads_list (loads_name folder 1) (told (loads_name folder 1)))
    (or_later (list_refusal files_list (files_name folder 1) (told (files_name folder 1)))
    (or_later (rest_refusal folder told (rest_of folder told)) (script_refusal name (told name))))

-- ---- what is read isn't refused, and what is refused is told

pub is_long : (name : List ℕ) (size : ℕ) (later : Option (List ℕ)) → longest_file < size → long_or name size later ≡ Some (refused_input name (codes "toolong"))
is_long name size later long = then_so (nat_lt longest_file size) (Some (refused_input name (codes "toolong"))) later (lower longest_file size long)

pub is_short : (name : List ℕ) (size : ℕ) (later : Option (List ℕ)) → size ≤ longest_file → long_or name size later ≡ later
is_short name size later short = else_so (nat_lt longest_file size) (Some (refused_input name (codes "toolong"))) later (not_lower longest_file size short)

pub is_large : (folder : List ℕ) (total : ℕ) (later : Option (List ℕ)) → largest_set < total → large_or folder total later ≡ Some (refused_input folder (codes "toolarge"))
is_large folder total later large = then_so (nat_lt largest_set total) (Some (refused_input folder (codes "toolarge"))) later (lower largest_set total large)

pub is_small : (folder : List ℕ) (total : ℕ) (later : Option (List ℕ)) → total ≤ largest_set → large_or folder total later ≡ later
is_small folder total later small = else_so (nat_lt largest_set total) (Some (refused_input folder (codes "toolarge"))) later (not_lower largest_set total small)

read_is : {V : Type 0} (name : List ℕ) (found : Found V ListFault) → IsRead found → found_refusal name found ≡ None
read_is name Missing is = absurd is
read_is name (Refused fault) is = absurd is
read_is name (Read list) is = refl

module _ {V : Type 0} (format : Grammar ListFault V) (told : Files) (name : List ℕ) where
  list_passes : HasList format (Some told) name → list_refusal format name (told name) ≡ None
  list_passes has = is_short name (length_on_host told name) (found_refusal name (found_in format (told name))) (has told refl).0 ∙ read_is name (found_in format (told name)) (has told refl).1

  list_refuses : (fault : List ℕ) → RefusesList format (Some told) name fault → list_refusal format name (told name) ≡ Some (refused_input name fault)
  list_refuses fault (list_absent none is) =
      ap (list_refusal format name) (none told refl) ∙ ap (λ (text : List ℕ). Some (refused_input name text)) (sym is)
  list_refuses fault (list_faulty wrong refuses is) =
      is_short name (length_on_host told name) (found_refusal name (found_in format (told name))) (refuses told refl).0
      ∙ (ap (found_refusal name) (refuses told refl).1 ∙ ap (λ (text : List ℕ). Some (refused_input name text)) (sym is))

  list_is_long : (file : List ℕ) → IsFirstLong told (name ∷ []) file → list_refusal format name (told name) ≡ Some (refused_input file (codes "toolong"))
  list_is_long file long = by long.before long.stands
    where
      by : (before : List (List ℕ)) → name ∷ [] ≡ before ++ file ∷ long.after → list_refusal format name (told name) ≡ Some (refused_input file (codes "toolong"))
      by [] stands =
          let same : file ≡ name = cc in
          is_long name (length_on_host told name) (found_refusal name (found_in format (told name))) (subst (λ (f : List ℕ). longest_file < length_on_host told f) same long.long)
          ∙ ap (λ (f : List ℕ). Some (refused_input f (codes "toolong"))) (sym same)
      by (x ∷ []) stands = absurd cc
      by (x ∷ y ∷ others) stands = absurd cc

-- ---- the rest of the set

module _ (told : Files) where
  names_pass : (names : List (List ℕ)) → All (IsShortOnHost told) names → names_refusal told names ≡ None
  names_pass [] short = refl
  names_pass (name ∷ names) short =
      is_short name (length_on_host told name) (names_refusal told names) (All-head (IsShortOnHost told) name names short) ∙ names_pass names (All-tail (IsShortOnHost told) name names short)

  name_is_long : (before after : List (List ℕ)) (name : List ℕ) → All (IsShortOnHost told) before → longest_file < length_on_host told name
      → names_refusal told (before ++ name ∷ after) ≡ Some (refused_input name (codes "toolong"))
  name_is_long [] after name short long = is_long name (length_on_host told name) (names_refusal told after) long
  name_is_long (x ∷ before) after name short long =
      is_short x (length_on_host told x) (names_refusal told (before ++ name ∷ after)) (All-head (IsShortOnHost told) x before short)
      ∙ name_is_long before after name (All-tail (IsShortOnHost told) x before short) long

  first_is_long : (names : List (List ℕ)) (name : List ℕ) → IsFirstLong told names name → names_refusal told names ≡ Some (refused_input name (codes "toolong"))
  first_is_long names name first = ap (names_refusal told) first.stands ∙ name_is_long first.before first.after name first.others first.long

  pub one_more : (name : List ℕ) (names : List (List ℕ)) → total_of told (name ∷ names) ≡ length_on_host told name + total_of told names
  one_more name names =
      let whole : total_of told (name ∷ names) ≡ total_of told (name ∷ []) + total_of told names = sum_by-append (length_on_host told) (name ∷ []) names in
      let one : total_of told (name ∷ []) ≡ length_on_host told name = omega arith in
      omega (arith, whole, one)

  module _ (folder : List ℕ) where
    goes_by : (total : ℕ) (name : List ℕ) (names : List (List ℕ)) → IsShortOnHost told name → total + length_on_host told name ≤ largest_set
        → listed_refusal folder told total (name ∷ names) ≡ listed_refusal folder told (total + length_on_host told name) names
    goes_by total name names short small =
        let later = listed_refusal folder told (total + length_on_host told name) names in
        is_short name (length_on_host told name) (large_or folder (total + length_on_host told name) later) short ∙ is_small folder (total + length_on_host told name) later small

    listed_pass : (total : ℕ) (names : List (List ℕ)) → All (IsShortOnHost told) names → total + total_of told names ≤ largest_set → listed_refusal folder told total names ≡ None
    listed_pass total [] short small = refl
    listed_pass total (name ∷ names) short small =
        let more = one_more name names in
        goes_by total name names (All-head (IsShortOnHost told) name names short) (omega (arith, small, more))
        ∙ listed_pass (total + length_on_host told name) names (All-tail (IsShortOnHost told) name names short) (omega (arith, small, more))

    listed_is_long : (total : ℕ) (before after : List (List ℕ)) (name : List ℕ) → All (IsShortOnHost told) before → total + total_of told before ≤ largest_set → longest_file < length_on_host told name
        → listed_refusal folder told total (before ++ name ∷ after) ≡ Some (refused_input name (codes "toolong"))
    listed_is_long total [] after name short small long =
        is_long name (length_on_host told name) (large_or folder (total + length_on_host told name) (listed_refusal folder told (total + length_on_host told name) after)) long
    listed_is_long total (x ∷ before) after name short small long =
        let more = one_more x before in
        goes_by total x (before ++ name ∷ after) (All-head (IsShortOnHost told) x before short) (omega (arith, small, more))
        ∙ listed_is_long (total + length_on_host told x) before after name (All-tail (IsShortOnHost told) x before short) (omega (arith, small, more)) long

    listed_is_large : (total : ℕ) (before after : List (List ℕ)) (name : List ℕ) → All (IsShortOnHost told) before → IsShortOnHost told name → total + total_of told before ≤ largest_set
        → largest_set < (total + total_of told before) + length_on_host told name → listed_refusal folder told total (before ++ name ∷ after) ≡ Some (refused_input folder (codes "toolarge"))
    listed_is_large total [] after name short this small large =
        let later = listed_refusal folder told (total + length_on_host told name) after in
        is_short name (length_on_host told name) (large_or folder (total + length_on_host told name) later) this ∙ is_large folder (total + length_on_host told name) later (omega (arith, large))
    listed_is_large total (x ∷ before) after name short this small large =
        let more = one_more x before in
        goes_by total x (before ++ name ∷ after) (All-head (IsShortOnHost told) x before short) (omega (arith, small, more))
        ∙ listed_is_large (total + length_on_host told x) before after name (All-tail (IsShortOnHost told) x before short) this (omega (arith, small, more)) (omega (arith, large, more))

    module _ (reading : ReadingOrder) where
      pub rest_passes : CanRead told reading → rest_refusal folder told reading ≡ None
      rest_passes can =
          ap (λ (o : Option (List ℕ)). or_later o (listed_refusal folder told 0 reading.files)) (names_pass reading.lists can.lists)
          ∙ listed_pass 0 reading.files can.listed (let together = can.together in omega (arith, together))

      pub rest_is_long : (name : List ℕ) → IsTooLong told reading name → rest_refusal folder told reading ≡ Some (refused_input name (codes "toolong"))
      rest_is_long name (inl first) = ap (λ (o : Option (List ℕ)). or_later o (listed_refusal folder told 0 reading.files)) (first_is_long reading.lists name first)
      rest_is_long name (inr (short, long)) =
          let together = long.together in
          ap (λ (o : Option (List ℕ)). or_later o (listed_refusal folder told 0 reading.files)) (names_pass reading.lists short)
          ∙ (ap (listed_refusal folder told 0) long.first.stands
          ∙ listed_is_long 0 long.first.before long.first.after name long.first.others (omega (arith, together)) long.first.long)

      pub rest_is_large : IsTooLarge told reading → rest_refusal folder told reading ≡ Some (refused_input folder (codes "toolarge"))
      rest_is_large (short, large) =
          let together = large.together in
          let passes = large.passes in
          ap (λ (o : Option (List ℕ)). or_later o (listed_refusal folder told 0 reading.files)) (names_pass reading.lists short)
          ∙ (ap (listed_refusal folder told 0) large.stands
          ∙ listed_is_large 0 large.before large.after large.name large.others large.this (omega (arith, together)) (omega (arith, passes)))

-- ---- all inputs

module _ (folder name : List ℕ) (told : Files) where
  abbrev of_loads : Option (List ℕ)
  of_loads = list_refusal loads_list (loads_name folder 1) (told (loads_name folder 1))

  abbrev of_files : Option (List ℕ)
  of_files = list_refusal files_list (files_name folder 1) (told (files_name folder 1))

  abbrev of_rest : Option (List ℕ)
  of_rest = rest_refusal folder told (rest_of folder told)

  abbrev of_script : Option (List ℕ)
  of_script = script_refusal name (told name)

  at_loads : (o : Option (List ℕ)) → of_loads ≡ o → refusal folder name told ≡ or_later o (or_later of_files (or_later of_rest of_script))
  at_loads o is = ap (λ (x : Option (List ℕ)). or_later x (or_later of_files (or_later of_rest of_script))) is

  at_files : (o : Option (List ℕ)) → of_loads ≡ None → of_files ≡ o → refusal folder name told ≡ or_later o (or_later of_rest of_script)
  at_files o loads is = at_loads None loads ∙ ap (λ (x : Option (List ℕ)). or_later x (or_later of_rest of_script)) is

  at_rest : (o : Option (List ℕ)) → of_loads ≡ None → of_files ≡ None → of_rest ≡ o → refusal folder name told ≡ or_later o of_script
  at_rest o loads files is = at_files None loads files ∙ ap (λ (x : Option (List ℕ)). or_later x of_script) is

  loads_pass : HasList loads_list (Some told) (loads_name folder 1) → of_loads ≡ None
  loads_pass has = list_passes loads_list told (loads_name folder 1) has

  files_pass : HasList files_list (Some told) (files_name folder 1) → of_files ≡ None
  files_pass has = list_passes files_list told (files_name folder 1) has

  at_set : (set : SetView) → HasSet folder (Some told) set → refusal folder name told ≡ of_script
  at_set set has = at_rest None (loads_pass has.lists.0) (files_pass has.lists.1) (rest_passes told folder (rest_of folder told) (has.rest told refl).0)

  pub inputs_pass : (set : SetView) (script : List Line) → HasInputs script_said folder name (Some told) set script → refusal folder name told ≡ None
  inputs_pass set script has =
      at_set set has.has_text.has_set
      ∙ (ap (script_refusal name) has.has_text.there
      ∙ (is_short name (length has.text) (said_refusal name (script_said has.text)) has.has_text.short ∙ ap (said_refusal name) has.says))

  same_text : (text tells : List ℕ) → text ≡ tells → Some tells ≡ Some text
  same_text text tells is = ap (λ (t : List ℕ). Some t) (sym is)

  text_refused : (before after status : ℕ) (text : List ℕ) → ¬ Rose before after → RefusesText folder name (Some told) before after status text
      → (status ≡ 3) × (refusal folder name told ≡ Some text)
  text_refused before after status text answers (loads_refused fault refuses is tells) =
      (is, at_loads _ (list_refuses loads_list told (loads_name folder 1) fault refuses) ∙ same_text text _ tells)
  text_refused before after status text answers (loads_too_long file long is tells) =
      (is, at_loads _ (list_is_long loads_list told (loads_name folder 1) file (long told refl)) ∙ same_text text _ tells)
  text_refused before after status text answers (files_refused fault has refuses is tells) =
      (is, at_files _ (loads_pass has) (list_refuses files_list told (files_name folder 1) fault refuses) ∙ same_text text _ tells)
  text_refused before after status text answers (files_too_long file has long is tells) =
      (is, at_files _ (loads_pass has) (list_is_long files_list told (files_name folder 1) file (long told refl)) ∙ same_text text _ tells)
  text_refused before after status text answers (long_file file has long is tells) =
      (is, at_rest _ (loads_pass has.0) (files_pass has.1) (rest_is_long told folder (rest_of folder told) file (long told refl)) ∙ same_text text _ tells)
  text_refused before after status text answers (large_set has large is tells) =
      (is, at_rest _ (loads_pass has.0) (files_pass has.1) (rest_is_large told folder (rest_of folder told) (large told refl)) ∙ same_text text _ tells)
  text_refused before after status text answers (script_absent set has none is tells) =
      (is, at_set set has ∙ (ap (script_refusal name) none ∙ same_text text _ tells))
  text_refused before after status text answers (script_too_long set has long is tells) = (
    is,
    at_set set has
        ∙ (ap (script_refusal name) long.1
        ∙ (is_long name (length long.0) (said_refusal name (script_said long.0)) long.2 ∙ same_text text _ tells)),
  )
  text_refused before after status text answers (host_failed rose _ _) = absurd (answers rose)

  pub inputs_refused : (before after status : ℕ) (text : List ℕ) → ¬ Rose before after → RefusesInputs script_said folder name (Some told) before after status text
      → (status ≡ 3) × (refusal folder name told ≡ Some text)
  inputs_refused before after status text answers (no_text refuses) = text_refused before after status text answers refuses
  inputs_refused before after status text answers (no_script set bytes fault has wrong is tells) = (
    is,
    at_set set has.has_set
        ∙ (ap (script_refusal name) has.there
        ∙ (is_short name (length bytes) (said_refusal name (script_said bytes)) has.short ∙ (ap (said_refusal name) wrong ∙ same_text text _ tells))),
  )
