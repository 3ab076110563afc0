-- The protocol files of an upload are read as they were written.
use Rattle.std.proofs.Common.{◌≡◌, ℕ, zero, suc, ◌+◌, ◌*◌, ◌<◌, ◌≤◌, ◌↔◌, true, false, List, [], ◌∷◌, ◌++◌, length, Ok, refl, sym, ap, subst, ◌∙◌, arith, length-append}
use Rattle.std.specs.Prelude.{nat_le}
use Rattle.std.specs.List.{AllByRecursion, concat, flat_map}
use Rattle.std.proofs.lemmas.List.{take_all}
use Rattle.std.proofs.lemmas.List.Elements.{All-from_recursion}
use Rattle.std.proofs.lemmas.List.Folds.{concat-append}
use Rattle.std.proofs.lemmas.Bool.Decides.{nat_tests}
use Rattle.field_grammar.specs.Answers.{answer}
use Rattle.field_grammar.proofs.ExactLemmas.{answer-spelled, spelled_at_start}
use Rattle.field_grammar.specs.Fields.{number_bytes}
use Rattle.field_grammar.specs.Grammar.{Follows, Grammar, IsBytes, Spelled, check, choose, field, give, judge, left, prefix, renamed, seq, zero_ended}
use Rattle.field_grammar.proofs.NumberLemmas.{length_number_bytes}
use Rattle.field_grammar.proofs.WrittenLemmas.{at_most_each}
use Rattle.load_base.specs.Text.{IsText}
use Rattle.load_protocol_files.specs.declared.lui.Lui.{Lui}
use Rattle.load_protocol_files.specs.declared.lur.Wanted.{Wanted}
use Rattle.load_protocol_files.specs.declared.lus.LoadStatus.{LoadStatus}
use Rattle.load_protocol_files.specs.Files.{file_fields}
use Rattle.load_protocol_files.specs.Lui.{LuiSpells, lui}
use Rattle.load_protocol_files.specs.Lur.{LurFits, LurSpells, LurView, WantedFits, lur}
use Rattle.load_protocol_files.specs.Laws.Lur.{file_size, lur_is_small}
use Rattle.load_protocol_files.specs.Lus.{LoadStatusFits, LusFits, LusSpells, LusView, counts_fields, load_status_fields, lus, lus_fields, progress_fields}
use Rattle.load_protocol_files.specs.Laws.Lus.{lus_is_small}
use Rattle.load_protocol_files.specs.Pieces.{counted_fields, ratio_digits}
use Rattle.load_protocol_files.specs.Reply.{ReplyFits}
use Rattle.load_protocol_files.specs.Laws.Replies.{reply_is_small}
use Rattle.session_rules.specs.Buffers.{buffer_size, buffered}
use Rattle.session_rules.specs.LoaderRows.{Goes_on, LoaderRow, Reads_lui, Serves_files, Takes_lus, RowTurn, bytes_turn, file_turn}
use Rattle.session_rules.specs.Reports.{accepting_lui, completed_lus, load_status, load_statuses, lur_file, lus_view_of, progress_lus, ratio_of, ready_lus}
use Rattle.session_rules.specs.Uploads.{judge_request}
use Rattle.transfer_completion.proofs.BlockLemmas.{lt_false}
use Rattle.transfer_completion.specs.Talks.{FitsBlocks}
use Rattle.session_completion.specs.GoodRequests.{CanBeExchanged, UploadRequestsAreRead}
use Rattle.part_number.proofs.VerdictLemmas.{part_size}
use Rattle.std.proofs.Math.Nat.{div-le_of_le-mul}

-- ---- what follows a format are bytes

no_bytes : IsBytes []
no_bytes i = omega arith

append_bytes : (xs ys : List ℕ) → IsBytes xs → IsBytes ys → IsBytes (xs ++ ys)
append_bytes [] ys a b i = b i
append_bytes (x ∷ xs) ys a b zero = a 0
append_bytes (x ∷ xs) ys a b (suc i) = append_bytes xs ys (λ k. a (suc k)) b i

none_are_bytes : (fields : List (List ℕ)) → fields ≡ [] → IsBytes (concat fields)
none_are_bytes fields e = subst (λ (xs : List (List ℕ)). IsBytes (concat xs)) (sym e) no_bytes

zero_byte : IsBytes (0 ∷ [])
zero_byte zero = omega arith
zero_byte (suc i) = omega arith

follows_bytes : {F A : Type 0} (g : Grammar F A) (before : List ℕ) (fields : List (List ℕ)) (after : ℕ) (value : A) → Follows g before fields after value → IsBytes (concat fields)
follows_bytes (give x) before fields after value h = none_are_bytes fields h.0
follows_bytes (judge r) before fields after value h = none_are_bytes fields h.0
follows_bytes (check b f) before fields after value h = none_are_bytes fields h.0
follows_bytes (choose true x y) before fields after value h = follows_bytes x before fields after value h
follows_bytes (choose false x y) before fields after value h = follows_bytes y before fields after value h
follows_bytes (field short n) before fields after value h = subst (λ (xs : List (List ℕ)). IsBytes (concat xs)) (sym h.0) (append_bytes value [] h.2 no_bytes)
follows_bytes (zero_ended short) before fields after value h =
    subst (λ (xs : List (List ℕ)). IsBytes (concat xs)) (sym h.0) (append_bytes (value ++ 0 ∷ []) [] (append_bytes value (0 ∷ []) h.2 zero_byte) no_bytes)
follows_bytes prefix before fields after value h = none_are_bytes fields h.0
follows_bytes left before fields after value h = none_are_bytes fields h.0
follows_bytes (seq g k) before fields after value (x, first, others, parts, one, two) =
    subst (λ (bytes : List ℕ). IsBytes bytes) (sym (ap (λ (xs : List (List ℕ)). concat xs) parts ∙ concat-append first others))
    (append_bytes (concat first) (concat others) (follows_bytes g before first (length (concat others) + after) x one) (follows_bytes (k x) (before ++ concat first) others after value two))
follows_bytes (renamed m g) before fields after value h = follows_bytes g before fields after value h

pub spelled_bytes : {F A : Type 0} (g : Grammar F A) (bytes : List ℕ) (value : A) → Spelled g bytes value → IsBytes bytes
spelled_bytes g bytes value (fields, e, follows) = subst (λ (xs : List ℕ). IsBytes xs) (sym e) (follows_bytes g [] fields 0 value follows)

read_so : {F A : Type 0} (g : Grammar F A) (bytes : List ℕ) (value : A) → Spelled g bytes value → answer g bytes ≡ Ok value
read_so g bytes value is = answer-spelled g bytes value (spelled_at_start g bytes value is)

-- ---- files of some bytes

short_file : (file : List ℕ) → length file ≤ 65536 → FitsBlocks file 512
short_file file small = record { some = omega arith; most = omega arith; few = omega arith }

-- a short file is judged by all its bytes
turns_by : (row : LoaderRow) (file : List ℕ) → length file ≤ 65536 → file_turn row (buffered file) ≡ bytes_turn row file
unfolding file_turn
turns_by row file small = rw (lt_false 65536 (length file) small) (ap (λ (x : List ℕ). bytes_turn row x) (take_all buffer_size file small))

no_text : IsText []
no_text = record { size = omega arith; good = λ i lt. absurd (omega arith) }

-- what load_protocol_files promises of its formats (`protocol_file_laws`)
pub record FormatsAreExact : Type 0 where
  pub lui_spelled : (bytes : List ℕ) (v : Lui) → Spelled lui bytes v ↔ LuiSpells v bytes
  pub lur_spelled : (bytes : List ℕ) (v : LurView) → Spelled lur bytes v ↔ LurSpells v bytes
  pub lus_spelled : (bytes : List ℕ) (v : LusView) → Spelled lus bytes v ↔ LusSpells v bytes

-- ---- the LUI

abbrev accepted_lui : Lui
accepted_lui = record { status = 1; description = [] }

lui_spells : LuiSpells accepted_lui accepting_lui
unfolding accepting_lui file_fields number_bytes
lui_spells =
    let fits : ReplyFits 1 [] = record { small = omega arith; is_text = no_text } in
    (fits, record { small = reply_is_small 1 [] fits; written = refl })

lui_short : length accepting_lui ≤ 65536
unfolding accepting_lui file_fields
lui_short = simp (length-append, length_number_bytes) (omega arith)

-- ---- the LUR

request_spells : (loads : List Wanted) → LurFits (record { loads = loads }) → LurSpells (record { loads = loads }) (lur_file loads)
unfolding lur_file file_fields number_bytes counted_fields
request_spells loads fits = (fits, record { small = lur_is_small (record { loads = loads }) fits; written = refl })

count_true : (a b : ℕ) → a ≤ b → nat_le a b ≡ true
count_true a b h = grind (arith, nat_tests)

judged_so : (wanted : List Wanted) → length (lur_file wanted) ≤ 65536 → 1 ≤ length wanted → length wanted ≤ 32 → answer lur (lur_file wanted) ≡ Ok (record { loads = wanted }) → judge_request (buffered (lur_file wanted)) ≡ Ok wanted
unfolding judge_request
judged_so wanted short some few read =
    rw (lt_false 65536 (length (lur_file wanted)) short, ap (λ (x : List ℕ). answer lur x) (take_all buffer_size (lur_file wanted) short) ∙ read, count_true 1 (length wanted) some, count_true (length wanted) 32 few) refl

-- ---- the LUS

lus_spells : (status counter ratio : ℕ) (loads : List LoadStatus) (bytes : List ℕ) → LusFits (lus_view_of status [] counter ratio loads) → bytes ≡ concat (file_fields (lus_fields (lus_view_of status [] counter ratio loads)))
    → LusSpells (lus_view_of status [] counter ratio loads) bytes
unfolding file_fields number_bytes
lus_spells status counter ratio loads bytes fits e = (fits, record { small = lus_is_small (lus_view_of status [] counter ratio loads) fits; written = e })

status_size : (v : LoadStatus) → LoadStatusFits v → length (concat (load_status_fields v)) ≤ 342
unfolding ratio_digits
status_size v fits = simp (length-append, length_number_bytes) (omega (arith, fits.header.size.1, part_size v.part fits.part, fits.description.size))

lus_short : (status counter ratio : ℕ) (loads : List LoadStatus) (bytes : List ℕ) → LusFits (lus_view_of status [] counter ratio loads) → length loads ≤ 32 → bytes ≡ concat (file_fields (lus_fields (lus_view_of status [] counter ratio loads)))
    → length bytes ≤ 65536
unfolding file_fields counts_fields progress_fields counted_fields ratio_digits
lus_short status counter ratio loads bytes fits few e =
    let each : length (concat (flat_map load_status_fields loads)) ≤ length loads * 342 = at_most_each load_status_fields (λ l. LoadStatusFits l) 342 status_size loads fits.counts.progress.loads in
    rw e (simp (length-append, length_number_bytes) (omega (arith, each, few)))

abbrev Statuses : List LoadStatus → Type 0
Statuses loads = AllByRecursion (λ (l : LoadStatus). LoadStatusFits l) loads

status_fits : (ratio status : ℕ) (w : Wanted) → WantedFits w → ratio ≤ 100 → status < 65536 → LoadStatusFits (load_status ratio status w)
status_fits ratio status w fits few small = record { header = fits.header; part = fits.part; ratio = few; status = small; description = no_text }

statuses_fit : (arrived status others : ℕ) (loads : List Wanted) → AllByRecursion (λ (w : Wanted). WantedFits w) loads → status < 65536 → others < 65536 → Statuses (load_statuses arrived status others loads)
statuses_fit zero status others [] fits a b = tt
statuses_fit (suc n) status others [] fits a b = tt
statuses_fit zero status others (w ∷ loads) fits a b = (status_fits 0 others w fits.0 (omega arith) b, statuses_fit zero status others loads fits.1 a b)
statuses_fit (suc n) status others (w ∷ loads) fits a b = (status_fits 100 status w fits.0 (omega arith) a, statuses_fit n status others loads fits.1 a b)

statuses_count : (arrived status others : ℕ) (loads : List Wanted) → length (load_statuses arrived status others loads) ≡ length loads
statuses_count zero status others [] = refl
statuses_count (suc n) status others [] = refl
statuses_count zero status others (w ∷ loads) = ap (λ (k : ℕ). suc k) (statuses_count zero status others loads)
statuses_count (suc n) status others (w ∷ loads) = ap (λ (k : ℕ). suc k) (statuses_count n status others loads)

ratio_small : (arrived n : ℕ) → arrived ≤ n → ratio_of arrived n ≤ 100
ratio_small arrived zero le = omega arith
ratio_small arrived (suc n) le = div-le_of_le-mul (suc n) (times_le arrived (suc n) le)
  where
    times_le : (a m : ℕ) → a ≤ m → 100 * a ≤ m * 100
    times_le a m le = omega arith

lus_fits : (status counter ratio : ℕ) (loads : List LoadStatus) → status < 65536 → counter < 65536 → ratio ≤ 100 → length loads ≤ 32 → Statuses loads → LusFits (lus_view_of status [] counter ratio loads)
lus_fits status counter ratio loads a b c few each = record {
  status = a;
  description = no_text;
  counts = record {
    counter = b;
    exception = omega arith;
    estimated = omega arith;
    progress = record { ratio = c; count = omega arith; loads = All-from_recursion (λ (l : LoadStatus). LoadStatusFits l) loads each };
  };
}

-- a status file is read, and can be exchanged
lus_is_read : FormatsAreExact → (status counter ratio : ℕ) (loads : List LoadStatus) (bytes : List ℕ) (row : LoaderRow) (t : RowTurn) → LusFits (lus_view_of status [] counter ratio loads) → length loads ≤ 32
    → bytes ≡ concat (file_fields (lus_fields (lus_view_of status [] counter ratio loads))) → (answer lus bytes ≡ Ok (lus_view_of status [] counter ratio loads) → bytes_turn row bytes ≡ t)
    → CanBeExchanged bytes × (file_turn row (buffered bytes) ≡ t)
lus_is_read exact status counter ratio loads bytes row t fits few e turn =
    let view = lus_view_of status [] counter ratio loads in
    let spelled = (exact.lus_spelled bytes view).1 (lus_spells status counter ratio loads bytes fits e) in
    let short = lus_short status counter ratio loads bytes fits few e in
    ((short_file bytes short, spelled_bytes lus bytes view spelled), turns_by row bytes short ∙ turn (read_so lus bytes view spelled))

ready_is : ready_lus ≡ concat (file_fields (lus_fields (lus_view_of 1 [] 1 0 [])))
unfolding ready_lus
ready_is = refl

progress_is : (wanted : List Wanted) (arrived counter : ℕ) → progress_lus wanted arrived counter ≡ concat (file_fields (lus_fields (lus_view_of 2 [] counter (ratio_of arrived (length wanted)) (load_statuses arrived 2 1 wanted))))
unfolding progress_lus
progress_is wanted arrived counter = refl

completed_is : (wanted : List Wanted) (counter : ℕ) → completed_lus wanted counter ≡ concat (file_fields (lus_fields (lus_view_of 3 [] counter 100 (load_statuses (length wanted) 3 3 wanted))))
unfolding completed_lus
completed_is wanted counter = refl

pub files_are_read : FormatsAreExact → UploadRequestsAreRead
files_are_read exact wanted fits some few =
    let lui_spelled = (exact.lui_spelled accepting_lui accepted_lui).1 lui_spells in
    let lur_fits : LurFits (record { loads = wanted }) = record { count = omega arith; loads = All-from_recursion (λ (w : Wanted). WantedFits w) wanted fits } in
    let lur_spells = request_spells wanted lur_fits in
    let lur_spelled = (exact.lur_spelled (lur_file wanted) (record { loads = wanted })).1 lur_spells in
    let size = file_size (record { loads = wanted }) (lur_file wanted) lur_spells in
    let lur_short : length (lur_file wanted) ≤ 65536 = omega arith in
    record {
      lui = ((short_file accepting_lui lui_short, spelled_bytes lui accepting_lui accepted_lui lui_spelled), turns_by Reads_lui accepting_lui lui_short ∙ ap (λ r. Rattle.session_rules.specs.LoaderRows.lui_turn r) (read_so lui accepting_lui accepted_lui lui_spelled));
      ready = lus_is_read exact 1 1 0 [] ready_lus Takes_lus Goes_on (lus_fits 1 1 0 [] (omega arith) (omega arith) (omega arith) (omega arith) tt) (omega arith) ready_is (λ e. ap (λ r. Rattle.session_rules.specs.LoaderRows.first_lus_turn r) e);
      request = ((short_file (lur_file wanted) lur_short, spelled_bytes lur (lur_file wanted) (record { loads = wanted }) lur_spelled), judged_so wanted lur_short some few (read_so lur (lur_file wanted) (record { loads = wanted }) lur_spelled));
      progress = λ arrived counter le small.
          let loads = load_statuses arrived 2 1 wanted in
          let count = statuses_count arrived 2 1 wanted in
          lus_is_read exact 2 counter (ratio_of arrived (length wanted)) loads (progress_lus wanted arrived counter) Serves_files Goes_on
          (lus_fits 2 counter (ratio_of arrived (length wanted)) loads (omega arith) (omega arith) (ratio_small arrived (length wanted) le) (omega arith) (statuses_fit arrived 2 1 wanted fits (omega arith) (omega arith))) (omega arith)
          (progress_is wanted arrived counter) (λ e. ap (λ r. Rattle.session_rules.specs.LoaderRows.later_lus_turn r) e);
      completion = λ counter small.
          let loads = load_statuses (length wanted) 3 3 wanted in
          let count = statuses_count (length wanted) 3 3 wanted in
          lus_is_read exact 3 counter 100 loads (completed_lus wanted counter) Serves_files (Rattle.session_rules.specs.LoaderRows.Comes_to Rattle.session_rules.specs.declared.outcome.Outcome.TheVariants.Completed)
          (lus_fits 3 counter 100 loads (omega arith) (omega arith) (omega arith) (omega arith) (statuses_fit (length wanted) 3 3 wanted fits (omega arith) (omega arith))) (omega arith)
          (completed_is wanted counter) (λ e. ap (λ r. Rattle.session_rules.specs.LoaderRows.later_lus_turn r) e);
    }
