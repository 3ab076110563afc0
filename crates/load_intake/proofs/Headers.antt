-- A header is whole.
use Rattle.std.proofs.Common.{◌≡◌, ◌≢◌, ℕ, ◌+◌, ◌-◌, ◌<◌, ◌≤◌, min, List, [], ◌∷◌, ◌++◌, length, get_or, Option, Some, None, Ok, Err, true, false, ◌⊎◌, inl, inr, refl, sym, ap, subst, ◌∙◌, arith, append-nil}
use Rattle.std.specs.Prelude.{Bool, nat_le, slice_get, if◌then◌else◌}
use Rattle.std.proofs.lemmas.Bool.{le-leb, le-ltb, lt-ltb}
use Rattle.std.proofs.lemmas.Option.{slice_get-get_or}
use Rattle.field_grammar.specs.Answers.{answer}
use Rattle.field_grammar.proofs.ExactLemmas.{answer-spelled, answer-fault, spelled_at_start}
use Rattle.field_grammar.specs.Grammar.{Spelled, Fault}
use Rattle.load_header.specs.declared.fault.HeaderFault.{HeaderFault}
use Rattle.load_header.specs.declared.fault.HeaderFault.TheVariants.{TooLong}
use Rattle.accept_rules.specs.Permissions.{Accepts}
use Rattle.session_rules.specs.declared.reason.Reason.TheVariants.{HeaderRefused}
use Rattle.crc_fields.specs.CheckSums.{crc32_of}
use Rattle.bank_store.specs.declared.store.Store.{Store}
use Rattle.bank_store.specs.Store.{SameActive, bank_size_of}
use Rattle.load_header.specs.Header.{HeaderView, header}
use Rattle.load_header.specs.HeaderFields.{IsHeader}
use Rattle.load_protocol_files.specs.declared.lur.Wanted.{Wanted}
use Rattle.part_number.proofs.VerdictLemmas.{part_size}
use Rattle.disk_layout.specs.declared.identity.Identity.{Identity}
use Rattle.disk_layout.specs.Manifest.{FitsALayout, LoadEntry, total_length}
use Rattle.session_rules.specs.KeptLoads.{told_loads, types_of}
use Rattle.disk_layout.specs.Holds.{Outline}
use Rattle.session_rules.specs.declared.reason.Reason.{Reason}
use Rattle.session_rules.specs.Buffers.{Buffer, is_too_long}
use Rattle.session_rules.specs.TargetRows.{Kept_bytes, Reads_file, RowView, Writes_stop, done_move, placed_view, stopped_upload, view_judged, view_moved}
use Rattle.session_rules.specs.Uploads.{Next, OpenLoadView, UploadView, covered_header, files_of, judge_header, header_reason as reason_of, is_last, judge_spelled_header, load_reason, need_of, next_with, or_else, planned_load}
use Rattle.load_intake.specs.Judging.{PassesStoreTests, header_row, loads_known, need_known, refused_for, whole_buffer}
use Rattle.load_intake.specs.Keeping.{IsActive, kept_at, kept_with}
use Rattle.load_intake.specs.Kept.{IsAccepted, IsIntake, intake_at}
use Rattle.load_intake.specs.Needs.{load_need}
use Rattle.load_intake.specs.Places.{arrived_at}
use Rattle.load_intake.specs.States.{WholeView, header_there, needing, upload_of}
use Rattle.bank_store.specs.Known.{KnowsActive}
use Rattle.load_intake.specs.Stores.{StoreHas, HasAccepted, HasRoomToKeep, header_alone}
use Rattle.load_intake.proofs.Rows.{arrived_is}
use Rattle.load_intake.proofs.Sizes.{need_planned, needs_more, total_within}
use Rattle.bank_store.proofs.KnownLemmas.{knows_on}
use Rattle.load_intake.proofs.Staying.{all_listed, knows_same}

-- ---- how many bytes are needed with it

pub need_is : (w : WholeView) (b : Buffer) (wanted : Wanted) (h : HeaderView) (size : ℕ) → IsIntake (intake_at w None (Kept_bytes b)) w.need → IsHeader h → w.need + load_need wanted h size ≡ need_of (w.loads ++ planned_load wanted h size ∷ [])
need_is w b wanted h size i is =
    omega (arith, i.need, ap need_of (append-nil w.loads), need_planned w.loads wanted h size (part_size h.part is.part))

pub room_for_header : (w : WholeView) (b : Buffer) (wanted : Wanted) (h : HeaderView) (size need bank : ℕ) → IsIntake (intake_at w None (Kept_bytes b)) w.need → need ≡ w.need + load_need wanted h size → need ≤ bank → total_length w.loads + size ≤ bank
room_for_header w b wanted h size need bank i is fits = omega (arith, i.need, ap need_of (append-nil w.loads), total_within w.loads, is, fits)

-- ---- the load with it

pub header_accepted : (w new : WholeView) (b : Buffer) (wanted : Wanted) (h : HeaderView) (size crc need loads all : ℕ) (l : OpenLoadView) (id : Identity) → IsIntake (intake_at w None (Kept_bytes b)) w.need → IsHeader h → PassesStoreTests id wanted h loads all
    → need ≡ w.need + load_need wanted h size → new ≡ needing w need → l ≡ header_there wanted h size crc → IsAccepted new l
header_accepted w new b wanted h size crc need loads all l id i is passes needs made there =
    rw (made, there) (record {
      few = i.few;
      left = i.left;
      need = needs ∙ need_is w b wanted h size i is;
      header = is;
      part = passes.part;
      within = omega arith;
      planned = refl;
    })

-- what all loads need that are known of at this header
pub need_at : (active : List LoadEntry) (w : WholeView) (wanted : Wanted) (h : HeaderView) (size need : ℕ) → FitsALayout active → need ≡ need_of (w.loads ++ planned_load wanted h size ∷ [])
    → need_known active w h need ≡ need_of ((w.loads ++ planned_load wanted h size ∷ []) ++ kept_at active (upload_of w None) h)
need_at active w wanted h size need fits is = by_last (is_last (upload_of w None)) refl
  where
    by_last : (last : Bool) → is_last (upload_of w None) ≡ last → need_known active w h need ≡ need_of ((w.loads ++ planned_load wanted h size ∷ []) ++ kept_at active (upload_of w None) h)
    by_last true e = rw e (omega (arith, is, needs_more (w.loads ++ planned_load wanted h size ∷ []) (kept_with active w.loads h.type_id) (all_listed (types_of w.loads ++ h.type_id ∷ []) active fits)))
    by_last false e = rw e (omega (arith, is, ap need_of (append-nil (w.loads ++ planned_load wanted h size ∷ []))))

pub has_header : (active : List LoadEntry) (w new : WholeView) (b : Buffer) (wanted : Wanted) (h : HeaderView) (size crc need : ℕ) (l : OpenLoadView) (id : Identity) (old store : Store) → IsIntake (intake_at w None (Kept_bytes b)) w.need → IsHeader h
    → KnowsActive old active → PassesStoreTests id wanted h (loads_known active w h) (need_known active w h need) → need ≡ w.need + load_need wanted h size → new ≡ needing w need → l ≡ header_there wanted h size crc → id.bank ≡ bank_size_of old → SameActive old store
    → StoreHas store (w.loads ++ header_alone wanted h.type_id size ∷ []) (length (files_of h)) 0 → HasAccepted new l store
has_header active w new b wanted h size crc need l id old store i is knows passes needs made there bank same has =
    let all : length (files_of h) ≡ length (files_of h) - 0 = omega arith in
    let planned = w.loads ++ planned_load wanted h size ∷ [] in
    let needed : need ≡ need_of planned = needs ∙ need_is w b wanted h size i is in
    let room : HasRoomToKeep store (length w.request) planned (kept_at active (upload_of w None) h) = record {
      few = passes.few;
      fits = omega (arith, need_at active w wanted h size need knows.fits needed, passes.fits, bank, same.size);
    } in
    rw (made, there) (record {
      has = subst (λ (n : ℕ). StoreHas store (w.loads ++ header_alone wanted h.type_id size ∷ []) n 0) all has;
      fits = omega (arith, needed, passes.fits, bank, same.size);
      keeps = λ other knows_other.
          let one = knows_same store active other (types_of w.loads ++ h.type_id ∷ []) (knows_on old store active same knows) knows_other in
          subst (λ (kept : List LoadEntry). HasRoomToKeep store (length w.request) planned kept) (ap (λ (kept : List LoadEntry). if is_last (upload_of w None) then kept else []) one) room;
    })

pub header_next : (w new : WholeView) (h : HeaderView) (need crc size : ℕ) (wanted : Wanted) (l : OpenLoadView) (next : Next) → new ≡ needing w need → l ≡ header_there wanted h size crc → next ≡ next_with (upload_of w None) h 0
    → next ≡ next_with (upload_of new None) l.header (length l.files)
header_next w new h need crc size wanted l next made there e = rw (made, there) e

-- ---- the tests in their order

-- the first that fails decides
pub fails_first : (first later : Option Reason) (reason : Reason) → Some reason ≡ first → Some reason ≡ or_else first later
fails_first first later reason is = rw (sym is) refl

-- and a later one where none before it fails
pub passes_first : (first later found : Option Reason) → None ≡ first → found ≡ later → found ≡ or_else first later
passes_first first later found none is = rw (sym none) is

-- what is said of a header beside what is active, by its identity and its loads
module _ (accepts : Accepts) (o : Outline) (w : WholeView) (wanted : Wanted) (h : HeaderView) (size : ℕ) where
  abbrev reason_by : (id : Identity) (active : List LoadEntry) (need : ℕ) → Option Reason
  reason_by id active need = refused_for accepts id wanted h (told_loads (kept_with active w.loads h.type_id)) (loads_known active w h) (need_known active w h need)

  own_reason : (need : ℕ) → FitsALayout o.loads → length w.request ≤ 32 → need ≡ need_of (w.loads ++ planned_load wanted h size ∷ []) → reason_by o.identity o.loads need ≡ reason_of accepts o (upload_of w None) wanted h size
  own_reason need fits few is = by_last (is_last (upload_of w None)) refl
    where
      needed : need_known o.loads w h need ≡ need_of ((w.loads ++ planned_load wanted h size ∷ []) ++ kept_at o.loads (upload_of w None) h)
      needed = need_at o.loads w wanted h size need fits is

      by_last : (last : Bool) → is_last (upload_of w None) ≡ last → reason_by o.identity o.loads need ≡ reason_of accepts o (upload_of w None) wanted h size
      by_last true e = rw (needed, e) refl
      by_last false e =
          let few_enough : nat_le (length w.request + 0) 32 ≡ true = le-leb (length w.request + 0) 32 (omega (arith, few)) in
          rw (needed, e, few_enough) refl

  pub reason_is : (id : Identity) (active : List LoadEntry) (need : ℕ) → IsActive o id active → FitsALayout active → length w.request ≤ 32 → need ≡ need_of (w.loads ++ planned_load wanted h size ∷ []) → reason_by id active need ≡ reason_of accepts o (upload_of w None) wanted h size
  reason_is id active need same fits few is =
      subst (λ (x : Identity). reason_by x active need ≡ reason_of accepts o (upload_of w None) wanted h size) same.identity
      (subst (λ (x : List LoadEntry). reason_by o.identity x need ≡ reason_of accepts o (upload_of w None) wanted h size) same.loads
      (own_reason need (subst (λ (x : List LoadEntry). FitsALayout x) (sym same.loads) fits) few is))

-- ---- the row after it

module _ (accepts : Accepts) (active : Outline) (w : WholeView) (wanted : Wanted) (h : HeaderView) (bytes : List ℕ) where
  abbrev u : UploadView
  u = upload_of w None

  abbrev first_reason : Option Reason
  first_reason = reason_of accepts active u wanted h (length bytes)

  abbrev verdict : (first : Option Reason) → Next → (crc : ℕ) → Option Reason
  verdict first next crc = or_else first (load_reason h next crc)

  same_verdict : (first : Option Reason) (next : Next) (crc : ℕ) → first ≡ first_reason → next ≡ next_with u h 0 → crc ≡ crc32_of (covered_header bytes) → verdict first next crc ≡ verdict first_reason (next_with u h 0) (crc32_of (covered_header bytes))
  same_verdict first next crc f x c = rw (f, x, c) refl

  pub header_stopped : (first : Option Reason) (next : Next) (crc : ℕ) (reason : Reason) (arrived : ℕ) → slice_get w.request (length w.loads) ≡ Some wanted → first ≡ first_reason → next ≡ next_with u h 0 → crc ≡ crc32_of (covered_header bytes)
      → Some reason ≡ verdict first next crc → arrived ≡ arrived_at (length w.loads) next → Writes_stop (stopped_upload w.request arrived (length w.loads + 1) reason) ≡ header_row accepts active w h bytes
  header_stopped first next crc reason arrived asked f x c found many =
      let here : verdict first_reason (next_with u h 0) (crc32_of (covered_header bytes)) ≡ Some reason = sym (same_verdict first next crc f x c) ∙ sym found in
      rw (asked, here, many, arrived_is w None h 0 next x) refl

  pub header_placed : (first : Option Reason) (next : Next) (crc need : ℕ) (new : WholeView) (l : OpenLoadView) → slice_get w.request (length w.loads) ≡ Some wanted → first ≡ first_reason → next ≡ next_with u h 0 → crc ≡ crc32_of (covered_header bytes)
      → None ≡ verdict first next crc → new ≡ needing w need → l ≡ header_there wanted h (length bytes) crc → placed_view (upload_of new None) l next ≡ header_row accepts active w h bytes
  header_placed first next crc need new l asked f x c found made there =
      let here : verdict first_reason (next_with u h 0) (crc32_of (covered_header bytes)) ≡ None = sym (same_verdict first next crc f x c) ∙ sym found in
      rw (asked, here, made, there, x, c, asked) refl

-- ---- all that may come of a header's bytes

no_wanted : Wanted
no_wanted = record { header = []; part = [] }

pub asked_of : WholeView → Wanted
asked_of w = get_or w.request (length w.loads) no_wanted

pub asked_is : (w : WholeView) (b : Buffer) → IsIntake (intake_at w None (Kept_bytes b)) w.need → slice_get w.request (length w.loads) ≡ Some (asked_of w)
unfolding asked_of
asked_is w b i = slice_get-get_or w.request (length w.loads) no_wanted i.left

abbrev pub header_moved : Accepts → (active : Outline) → WholeView → Buffer → RowView
header_moved accepts active w b = view_moved (Reads_file (upload_of w None)) (Kept_bytes b) (done_move accepts active (Reads_file (upload_of w None)) (Kept_bytes b))

abbrev stopped_for : WholeView → HeaderFault → RowView
stopped_for w fault = Writes_stop (stopped_upload w.request (length w.loads) (length w.loads + 1) (HeaderRefused fault))

pub past_buffer : (b : Buffer) → length b.prefix ≡ min b.count 65536 → length b.prefix < b.count → is_too_long b ≡ true
past_buffer b filled more = lt-ltb 65536 b.count (omega (arith, filled, more))

pub within_buffer : (b : Buffer) → length b.prefix ≡ min b.count 65536 → b.count ≤ length b.prefix → is_too_long b ≡ false
within_buffer b filled all = le-ltb 65536 b.count (omega (arith, filled, all))

pub buffer_whole : (b : Buffer) → length b.prefix ≡ min b.count 65536 → b.count ≤ length b.prefix → b ≡ whole_buffer b.prefix
buffer_whole b filled all =
    let same : b.count ≡ length b.prefix = omega (arith, filled, all) in
    ap (λ (n : ℕ). buffer_of b.prefix n) same
  where
    buffer_of : List ℕ → ℕ → Buffer
    buffer_of bytes n = record { prefix = bytes; count = n }

pub too_long_row : (accepts : Accepts) (active : Outline) (w : WholeView) (b : Buffer) → IsIntake (intake_at w None (Kept_bytes b)) w.need → is_too_long b ≡ true → stopped_for w TooLong ≡ header_moved accepts active w b
unfolding judge_header
too_long_row accepts active w b i long = rw (asked_is w b i, long) refl

pub refused_row : (accepts : Accepts) (active : Outline) (w : WholeView) (b : Buffer) (fault : HeaderFault) → IsIntake (intake_at w None (Kept_bytes b)) w.need → is_too_long b ≡ false → answer header b.prefix ≡ Err fault
    → stopped_for w fault ≡ header_moved accepts active w b
unfolding judge_header
refused_row accepts active w b fault i long is = rw (asked_is w b i, long, is) refl

pub read_row : (accepts : Accepts) (active : Outline) (w : WholeView) (b : Buffer) (h : HeaderView) → IsIntake (intake_at w None (Kept_bytes b)) w.need → is_too_long b ≡ false → answer header b.prefix ≡ Ok h → b ≡ whole_buffer b.prefix
    → header_row accepts active w h b.prefix ≡ header_moved accepts active w b
unfolding judge_header
read_row accepts active w b h i long is whole =
    let P : Buffer → Type 0 = λ x. view_judged (upload_of w None) (Kept_bytes x) (judge_spelled_header accepts active (upload_of w None) (asked_of w) x h) ≡ view_judged (upload_of w None) (Kept_bytes b) (judge_spelled_header accepts active (upload_of w None) (asked_of w) b h) in
    rw (asked_is w b i, long, is) (subst P whole refl)

-- ---- reading a header

pub header_is_read : (bytes : List ℕ) (h : HeaderView) → Spelled header bytes h → answer header bytes ≡ Ok h
header_is_read bytes h spelled = answer-spelled header bytes h (spelled_at_start header bytes h spelled)

pub header_is_refused : (bytes : List ℕ) (none fault : HeaderFault) → fault ≢ none → (fault ≡ none) ⊎ Fault header bytes fault → answer header bytes ≡ Err fault
header_is_refused bytes none fault other refused = elim refused [ inl is ↦ absurd (other is) | inr wrong ↦ answer-fault header bytes fault wrong ]
