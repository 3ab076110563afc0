-- The definitions of a fault-free run computed on two runs.
use Rattle.std.proofs.Common.{◌≡◌, ℕ, zero, suc, ◌+◌, ◌<◌, ◌≤◌, Bool, true, List, [], ◌∷◌, Ok, Some, None, refl, arith, false}
use Rattle.std.specs.Prelude.{codes, nat_lt, take, ◌&&◌}
use Rattle.std.proofs.lemmas.Bool.{ltb-true}
use Rattle.std.specs.Fmt.{digits as f0}
use Rattle.hex.specs.Hex.{decode_pairs as f1}
use Rattle.crc_fields.specs.CheckSums.{lowest_bits as u0, bits_of as u1, register_after_bit as u2, register_after_bits as u3, register_after as u4, crc16_of as u5, crc32_of as u6, crc16_after as u7, crc32_after as u8}
use Rattle.field_grammar.specs.Fields.{number_in as u9, number_bytes as u10, raw as u11, number as u12, pad as u13, padded_parts as u14, short_parts as u15, padded as u16, short as u17, section as u18, pad_bytes as u19}
use Rattle.field_grammar.specs.Grammar.{times as u20, listed as u21}
use Rattle.field_grammar.specs.Spelling.{listed_fields as u22}
use Rattle.load_base.specs.Verdicts.{name_fault_of as u23, text_fault_of as u24, ident_fault_of as u25, part_text_fault_of as u26}
use Rattle.part_number.specs.PartNumber.{hexadecimal_digit as u27, hexadecimal as u28, check_of as u29, part_number_text as u30, is_good_at as u31}
use Rattle.part_number.specs.Verdicts.{part_fault_of as u32}
use Rattle.header_sections.specs.SectionFields.{texts_fields as u33, user_fields as u34, entries_fields as u35}
use Rattle.header_sections.specs.Sections.{text as u36, name as u37, part as u38, start as u39, section_at as u40, user_data as u41, end as u42}
use Rattle.load_header.specs.Encoding.{few_members as u43, short_enough as u44, pointers_by as u45}
use Rattle.load_header.specs.Header.{counted_texts as u46, four as u47, pointers as u48, head as u49, identity as u50, hardware_at as u51, positions as u52, targets as u53, file_size as u54, file_body as u55, file_entry as u56, files as u57, all_files as u58, no_check_value as u59, check_sums as u60, tail as u61, limit as u62, header as u63}
use Rattle.load_header.specs.HeaderFields.{positions_fields as u64, file_body_fields as u65, type_fields as u66, header_size as u67, pointers_of as u68, pointers_fields as u69, head_fields as u70, identity_fields as u71, targets_fields as u72, all_files_fields as u73, sections_fields as u74, covered_fields as u75, header_fields as u76}
use Rattle.load_protocol_files.specs.Files.{head as u77, tail as u78, file_fields as u79}
use Rattle.load_protocol_files.specs.Lci.{lci_body as u80}
use Rattle.load_protocol_files.specs.Lcl.{installed as u81, hardware as u82, lcl_body as u83}
use Rattle.load_protocol_files.specs.Lcs.{lcs_body as u84}
use Rattle.load_protocol_files.specs.Lui.{lui_body as u85}
use Rattle.load_protocol_files.specs.Lur.{wanted as u86, lur_body as u87}
use Rattle.load_protocol_files.specs.Lus.{load_status as u88, lus_body as u89, progress_fields as u90, counts_fields as u91}
use Rattle.load_protocol_files.specs.Pieces.{text as u92, name as u93, part as u94, ratio as u95, ratio_digits as u96, counted_fields as u97}
use Rattle.load_protocol_files.specs.Reply.{reply as u98}
use Rattle.tftp_packet.specs.Options.{is_named as u99, known_of as u100, number_between as u101, options_of as u102, written_options as u103, may_follow as u104, may_have as u105, one_option as u106, options_to_end as u107, rest_of_options as u108, all_options as u109}
use Rattle.tftp_packet.specs.Packets.{is_octet as u110, word as u111, file_name as u112, request_body as u113, payload_bytes as u114, data_body as u115, ack_body as u116, error_body as u117, body as u118, packet as u119}
use Rattle.printed_text.specs.FaultTexts.{number_text as u120, coded as u121, nested as u122}
use Rattle.printed_text.specs.Lines.{hex_8 as u123, hex_16 as u124, field_line as u125}
use Rattle.disk_layout.specs.Manifest.{load_count as u126, part as u127, file_count as u128, file_name as u129, file_length as u130, file_entry as u131, load_entry as u132, manifest as u133}
use Rattle.exchange_trace.specs.Steps.{steps_of as u134}
use Rattle.transfer_end.specs.Packets.{packet_in as u135}
use Rattle.transfer_end.specs.Transfers.{end_of as u136, arrived_in as u137}
use Rattle.session_rules.specs.FileNames.{file_name as u138}
use Rattle.session_rules.specs.LoaderRows.{row_of as u139, file_turn as u140}
use Rattle.session_rules.specs.Reports.{lci_file as u141, lcs_file as u142, lcl_file as u143, accepting_lui as u144, denying_lui as u145, lur_file as u146, ready_lus as u147, progress_lus as u148, completed_lus as u149, stopped_lus as u150}
use Rattle.session_rules.specs.TargetRows.{row_of as u151}
use Rattle.session_rules.specs.Uploads.{need_of as u152, judge_header as u153, judge_file as u154, judge_request as u155}
use Rattle.field_grammar.specs.Grammar.{IsBytes}
use Rattle.field_grammar.specs.Answers.{answer}
use Rattle.load_base.specs.Config.{FileView, LoadView}
use Rattle.load_header.specs.Header.{HeaderView, header}
use Rattle.load_protocol_files.specs.declared.lur.Wanted.{Wanted}
use Rattle.tftp_packet.specs.Packets.{Ack}
use Rattle.exchange_trace.specs.Happenings.{Ended}
use Rattle.exchange_trace.specs.Steps.{Step}
use Rattle.session_rules.specs.declared.outcome.Outcome.TheVariants.{Completed}
use Rattle.session_rules.specs.declared.outcome.SessionKind.TheVariants.{Upload}
use Rattle.session_rules.specs.NewConfigs.{IsGoodLoad}
use Rattle.session_rules.proofs.SoundnessLemmas.{HeadersAreSpelled}
use Rattle.replay_rules.specs.FaultFree.{IsFaultFree, IsGranted}
use Rattle.replay_rules.specs.Promises.{OnlyFinishIsLeft}
use Rattle.replay_rules.specs.Runs.{IsWithinMargin}
use Rattle.worked_traces.specs.Settings.{header as digits, one_load}
use Rattle.worked_traces.specs.Upload.{run}
use Rattle.worked_traces.specs.Losses.{run as losses}
use Rattle.worked_traces.specs.Walks.{first_steps, onto, steps_in}
use Rattle.worked_traces.specs.Writing.{hex}

-- ---- numbers and bytes by tests

lt_test : (a b : ℕ) → nat_lt a b ≡ true → a < b
lt_test a b e = ltb-true a b e

le_test : (a b : ℕ) → nat_lt a (b + 1) ≡ true → a ≤ b
le_test a b e = let lt = ltb-true a (b + 1) e in omega (arith, lt)

abbrev all_bytes : List ℕ → Bool
all_bytes [] = true
all_bytes (b ∷ bytes) = nat_lt b 256 && all_bytes bytes

both : (a b : Bool) → (a && b) ≡ true → (a ≡ true) × (b ≡ true)
both true b e = (refl, e)
both false b e = absurd cc

are_bytes : (bytes : List ℕ) → all_bytes bytes ≡ true → IsBytes bytes
are_bytes [] e i = omega arith
are_bytes (b ∷ bytes) e zero = lt_test b 256 (both (nat_lt b 256) (all_bytes bytes) e).0
are_bytes (b ∷ bytes) e (suc i) = are_bytes bytes (both (nat_lt b 256) (all_bytes bytes) e).1 i

-- ---- the load

abbrev app_header : HeaderView
app_header = record {
  flags = 0;
  part = codes "ABC41-0000-0001";
  type_name = codes "APP";
  type_id = 7;
  hardware = codes "HW1" ∷ [];
  positions = [];
  data_files = record { name = codes "APP.BIN"; part = codes "APP1"; length = 9; crc16 = 10673 } ∷ [];
  support_files = [];
  user = [];
  load_crc = 2915077247;
}

abbrev app_data : FileView
app_data = record { name = codes "APP.BIN"; bytes = hex (codes "313233343536373839") }

abbrev app : LoadView
app = record { part = codes "ABC41-0000-0001"; type_id = Some 7; header_name = codes "APP.LUH"; files = record { name = codes "APP.LUH"; bytes = hex digits } ∷ app_data ∷ [] }

abbrev wanted : List Wanted
wanted = record { header = codes "APP.LUH"; part = codes "ABC41-0000-0001" } ∷ []

abbrev first_of : List Step → Step
first_of [] = record { given = Ended; posts = []; notes = [] }
first_of (s ∷ steps) = s

abbrev after_first : List Step → List Step
after_first [] = []
after_first (s ∷ steps) = steps

header_read : answer header (hex digits) ≡ Ok app_header
unfolding f0 f1 run u0 u1 u2 u3 u4 u5 u6 u7 u8 u9 u10 u11 u12 u13 u14 u15 u16 u17 u18 u19 u20 u21 u22 u23 u24 u25 u26 u27 u28 u29 u30 u31 u32 u33 u34 u35 u36 u37 u38 u39 u40 u41 u42 u43 u44 u45 u46 u47 u48 u49 u50 u51 u52 u53 u54 u55 u56 u57 u58 u59 u60 u61 u62 u63 u64 u65 u66 u67 u68 u69 u70 u71 u72 u73 u74 u75 u76 u77 u78 u79 u80 u81 u82 u83 u84 u85 u86 u87 u88 u89 u90 u91 u92 u93 u94 u95 u96 u97 u98 u99 u100 u101 u102 u103 u104 u105 u106 u107 u108 u109 u110 u111 u112 u113 u114 u115 u116 u117 u118 u119 u120 u121 u122 u123 u124 u125 u126 u127 u128 u129 u130 u131 u132 u133 u134 u135 u136 u137 u138 u139 u140 u141 u142 u143 u144 u145 u146 u147 u148 u149 u150 u151 u152 u153 u154 u155
header_read = refl

header_bytes : all_bytes (hex digits) ≡ true
unfolding f0 f1 run u0 u1 u2 u3 u4 u5 u6 u7 u8 u9 u10 u11 u12 u13 u14 u15 u16 u17 u18 u19 u20 u21 u22 u23 u24 u25 u26 u27 u28 u29 u30 u31 u32 u33 u34 u35 u36 u37 u38 u39 u40 u41 u42 u43 u44 u45 u46 u47 u48 u49 u50 u51 u52 u53 u54 u55 u56 u57 u58 u59 u60 u61 u62 u63 u64 u65 u66 u67 u68 u69 u70 u71 u72 u73 u74 u75 u76 u77 u78 u79 u80 u81 u82 u83 u84 u85 u86 u87 u88 u89 u90 u91 u92 u93 u94 u95 u96 u97 u98 u99 u100 u101 u102 u103 u104 u105 u106 u107 u108 u109 u110 u111 u112 u113 u114 u115 u116 u117 u118 u119 u120 u121 u122 u123 u124 u125 u126 u127 u128 u129 u130 u131 u132 u133 u134 u135 u136 u137 u138 u139 u140 u141 u142 u143 u144 u145 u146 u147 u148 u149 u150 u151 u152 u153 u154 u155
header_bytes = refl

app_is_good : HeadersAreSpelled → IsGoodLoad (IsGranted one_load) one_load.start.identity [] app
unfolding f0 f1 run u0 u1 u2 u3 u4 u5 u6 u7 u8 u9 u10 u11 u12 u13 u14 u15 u16 u17 u18 u19 u20 u21 u22 u23 u24 u25 u26 u27 u28 u29 u30 u31 u32 u33 u34 u35 u36 u37 u38 u39 u40 u41 u42 u43 u44 u45 u46 u47 u48 u49 u50 u51 u52 u53 u54 u55 u56 u57 u58 u59 u60 u61 u62 u63 u64 u65 u66 u67 u68 u69 u70 u71 u72 u73 u74 u75 u76 u77 u78 u79 u80 u81 u82 u83 u84 u85 u86 u87 u88 u89 u90 u91 u92 u93 u94 u95 u96 u97 u98 u99 u100 u101 u102 u103 u104 u105 u106 u107 u108 u109 u110 u111 u112 u113 u114 u115 u116 u117 u118 u119 u120 u121 u122 u123 u124 u125 u126 u127 u128 u129 u130 u131 u132 u133 u134 u135 u136 u137 u138 u139 u140 u141 u142 u143 u144 u145 u146 u147 u148 u149 u150 u151 u152 u153 u154 u155
app_is_good spells = record {
  header = app_header;
  bytes = hex digits;
  files = app_data ∷ [];
  spelled = spells (hex digits) app_header (are_bytes (hex digits) header_bytes) header_read;
  part = refl;
  type_id = refl;
  suits = refl;
  accepted = (refl, record { least = le_test 1 7 refl; most = le_test 7 32767 refl; part = refl });
  permitted = record { type_id = λ e. cc; part = refl };
  whole = refl;
  each = (record { name = refl; size = refl; crc = refl }, tt);
  crc = refl;
}

-- ---- the run

pub upload_is_fault_free : HeadersAreSpelled → IsFaultFree run.setting (steps_in run)
unfolding f0 f1 run u0 u1 u2 u3 u4 u5 u6 u7 u8 u9 u10 u11 u12 u13 u14 u15 u16 u17 u18 u19 u20 u21 u22 u23 u24 u25 u26 u27 u28 u29 u30 u31 u32 u33 u34 u35 u36 u37 u38 u39 u40 u41 u42 u43 u44 u45 u46 u47 u48 u49 u50 u51 u52 u53 u54 u55 u56 u57 u58 u59 u60 u61 u62 u63 u64 u65 u66 u67 u68 u69 u70 u71 u72 u73 u74 u75 u76 u77 u78 u79 u80 u81 u82 u83 u84 u85 u86 u87 u88 u89 u90 u91 u92 u93 u94 u95 u96 u97 u98 u99 u100 u101 u102 u103 u104 u105 u106 u107 u108 u109 u110 u111 u112 u113 u114 u115 u116 u117 u118 u119 u120 u121 u122 u123 u124 u125 u126 u127 u128 u129 u130 u131 u132 u133 u134 u135 u136 u137 u138 u139 u140 u141 u142 u143 u144 u145 u146 u147 u148 u149 u150 u151 u152 u153 u154 u155
upload_is_fault_free spells = record {
  since = onto (after_first run.trace) [];
  start = first_of run.trace;
  before = [];
  parts = codes "ABC41-0000-0001" ∷ [];
  wanted = wanted;
  loads = app ∷ [];
  split = refl;
  injected = (tt, (tt, (tt, (tt, (tt, (tt, (tt, (tt, (tt, (tt, (tt, (tt, (tt, (tt, (tt, (tt, (tt, (tt, (tt, (tt, (tt, (tt, (tt, tt)))))))))))))))))))))));
  starts = refl;
  some = le_test 1 1 refl;
  few = le_test 1 32 refl;
  on_media = refl;
  quiet = record { delivered = refl; loader = refl; target = refl };
  smooth = (record { no_start = tt; undisturbed = tt; stays_up = refl }, (record { no_start = tt; undisturbed = lt_test 0 _ refl; stays_up = refl }, (record { no_start = tt; undisturbed = lt_test 0 _ refl; stays_up = refl }, (record { no_start = tt; undisturbed = lt_test 0 _ refl; stays_up = refl }, (record { no_start = tt; undisturbed = lt_test 0 _ refl; stays_up = refl }, (record { no_start = tt; undisturbed = lt_test 0 _ refl; stays_up = refl }, (record { no_start = tt; undisturbed = lt_test 0 _ refl; stays_up = refl }, (record { no_start = tt; undisturbed = lt_test 0 _ refl; stays_up = refl }, (record { no_start = tt; undisturbed = lt_test 0 _ refl; stays_up = refl }, (record { no_start = tt; undisturbed = lt_test 0 _ refl; stays_up = refl }, (record { no_start = tt; undisturbed = lt_test 0 _ refl; stays_up = refl }, (record { no_start = tt; undisturbed = lt_test 0 _ refl; stays_up = refl }, (record { no_start = tt; undisturbed = lt_test 0 _ refl; stays_up = refl }, (record { no_start = tt; undisturbed = lt_test 0 _ refl; stays_up = refl }, (record { no_start = tt; undisturbed = lt_test 0 _ refl; stays_up = refl }, (record { no_start = tt; undisturbed = lt_test 0 _ refl; stays_up = refl }, (record { no_start = tt; undisturbed = lt_test 0 _ refl; stays_up = refl }, (record { no_start = tt; undisturbed = lt_test 0 _ refl; stays_up = refl }, (record { no_start = tt; undisturbed = lt_test 0 _ refl; stays_up = refl }, (record { no_start = tt; undisturbed = lt_test 0 _ refl; stays_up = refl }, (record { no_start = tt; undisturbed = lt_test 0 _ refl; stays_up = refl }, (record { no_start = tt; undisturbed = lt_test 0 _ refl; stays_up = refl }, tt))))))))))))))))))))));
  stays_up = refl;
  loader_ends = (record { kind = Upload; outcome = Completed; listed = None } ∷ [], refl, (refl, tt));
  target_ends = (tt, ((tt, (Ack 1, refl, refl)), (tt, (tt, (tt, (tt, (tt, (tt, (tt, (tt, (tt, (tt, (tt, (tt, (tt, (tt, (tt, (tt, (tt, (tt, (tt, (tt, tt))))))))))))))))))))));
  served = record { each = (record { part = refl; header = refl }, tt); good = (app_is_good spells, tt); media = (refl, (refl, tt)); few = le_test 1 32 refl; fit = le_test _ 4096 refl };
  loader_ports = le_test _ 65536 refl;
  target_ready = (lt_test 1 4294967295 refl, le_test _ 65536 refl);
}

-- ---- the run with losses, before its last `finish`

pub losses_are_fault_free : HeadersAreSpelled → IsFaultFree losses.setting (first_steps 21 losses)
unfolding f0 f1 losses u0 u1 u2 u3 u4 u5 u6 u7 u8 u9 u10 u11 u12 u13 u14 u15 u16 u17 u18 u19 u20 u21 u22 u23 u24 u25 u26 u27 u28 u29 u30 u31 u32 u33 u34 u35 u36 u37 u38 u39 u40 u41 u42 u43 u44 u45 u46 u47 u48 u49 u50 u51 u52 u53 u54 u55 u56 u57 u58 u59 u60 u61 u62 u63 u64 u65 u66 u67 u68 u69 u70 u71 u72 u73 u74 u75 u76 u77 u78 u79 u80 u81 u82 u83 u84 u85 u86 u87 u88 u89 u90 u91 u92 u93 u94 u95 u96 u97 u98 u99 u100 u101 u102 u103 u104 u105 u106 u107 u108 u109 u110 u111 u112 u113 u114 u115 u116 u117 u118 u119 u120 u121 u122 u123 u124 u125 u126 u127 u128 u129 u130 u131 u132 u133 u134 u135 u136 u137 u138 u139 u140 u141 u142 u143 u144 u145 u146 u147 u148 u149 u150 u151 u152 u153 u154 u155
losses_are_fault_free spells = record {
  since = onto (after_first (take 21 losses.trace)) [];
  start = first_of losses.trace;
  before = [];
  parts = codes "ABC41-0000-0001" ∷ [];
  wanted = wanted;
  loads = app ∷ [];
  split = refl;
  injected = (tt, (tt, (tt, (tt, (tt, (tt, (tt, (tt, (tt, (tt, (tt, (tt, (tt, (tt, (tt, (tt, (tt, (tt, (tt, (tt, (tt, tt)))))))))))))))))))));
  starts = refl;
  some = le_test 1 1 refl;
  few = le_test 1 32 refl;
  on_media = refl;
  quiet = record { delivered = refl; loader = refl; target = refl };
  smooth = (record { no_start = tt; undisturbed = tt; stays_up = refl }, (record { no_start = tt; undisturbed = tt; stays_up = refl }, (record { no_start = tt; undisturbed = tt; stays_up = refl }, (record { no_start = tt; undisturbed = tt; stays_up = refl }, (record { no_start = tt; undisturbed = tt; stays_up = refl }, (record { no_start = tt; undisturbed = tt; stays_up = refl }, (record { no_start = tt; undisturbed = tt; stays_up = refl }, (record { no_start = tt; undisturbed = tt; stays_up = refl }, (record { no_start = tt; undisturbed = lt_test 0 _ refl; stays_up = refl }, (record { no_start = tt; undisturbed = tt; stays_up = refl }, (record { no_start = tt; undisturbed = lt_test 0 _ refl; stays_up = refl }, (record { no_start = tt; undisturbed = lt_test 0 _ refl; stays_up = refl }, (record { no_start = tt; undisturbed = lt_test 0 _ refl; stays_up = refl }, (record { no_start = tt; undisturbed = lt_test 0 _ refl; stays_up = refl }, (record { no_start = tt; undisturbed = lt_test 0 _ refl; stays_up = refl }, (record { no_start = tt; undisturbed = lt_test 0 _ refl; stays_up = refl }, (record { no_start = tt; undisturbed = lt_test 0 _ refl; stays_up = refl }, (record { no_start = tt; undisturbed = lt_test 0 _ refl; stays_up = refl }, (record { no_start = tt; undisturbed = lt_test 0 _ refl; stays_up = refl }, (record { no_start = tt; undisturbed = lt_test 0 _ refl; stays_up = refl }, tt))))))))))))))))))));
  stays_up = refl;
  loader_ends = ([], refl, tt);
  target_ends = (tt, (tt, (tt, (tt, (tt, (tt, (tt, (tt, (tt, (tt, (tt, (tt, (tt, (tt, (tt, (tt, (tt, (tt, (tt, (tt, tt))))))))))))))))))));
  served = record { each = (record { part = refl; header = refl }, tt); good = (app_is_good spells, tt); media = (refl, (refl, tt)); few = le_test 1 32 refl; fit = le_test _ 4096 refl };
  loader_ports = le_test _ 65536 refl;
  target_ready = (lt_test 1 4294967295 refl, le_test _ 65536 refl);
}

pub losses_within_margin : IsWithinMargin losses.setting (first_steps 21 losses)
unfolding f0 f1 losses u0 u1 u2 u3 u4 u5 u6 u7 u8 u9 u10 u11 u12 u13 u14 u15 u16 u17 u18 u19 u20 u21 u22 u23 u24 u25 u26 u27 u28 u29 u30 u31 u32 u33 u34 u35 u36 u37 u38 u39 u40 u41 u42 u43 u44 u45 u46 u47 u48 u49 u50 u51 u52 u53 u54 u55 u56 u57 u58 u59 u60 u61 u62 u63 u64 u65 u66 u67 u68 u69 u70 u71 u72 u73 u74 u75 u76 u77 u78 u79 u80 u81 u82 u83 u84 u85 u86 u87 u88 u89 u90 u91 u92 u93 u94 u95 u96 u97 u98 u99 u100 u101 u102 u103 u104 u105 u106 u107 u108 u109 u110 u111 u112 u113 u114 u115 u116 u117 u118 u119 u120 u121 u122 u123 u124 u125 u126 u127 u128 u129 u130 u131 u132 u133 u134 u135 u136 u137 u138 u139 u140 u141 u142 u143 u144 u145 u146 u147 u148 u149 u150 u151 u152 u153 u154 u155
losses_within_margin = record { loader = le_test _ 2 refl; target = le_test _ 2 refl }

pub losses_left_to_finish : OnlyFinishIsLeft losses.setting losses.script (first_steps 21 losses)
unfolding f0 f1 losses u0 u1 u2 u3 u4 u5 u6 u7 u8 u9 u10 u11 u12 u13 u14 u15 u16 u17 u18 u19 u20 u21 u22 u23 u24 u25 u26 u27 u28 u29 u30 u31 u32 u33 u34 u35 u36 u37 u38 u39 u40 u41 u42 u43 u44 u45 u46 u47 u48 u49 u50 u51 u52 u53 u54 u55 u56 u57 u58 u59 u60 u61 u62 u63 u64 u65 u66 u67 u68 u69 u70 u71 u72 u73 u74 u75 u76 u77 u78 u79 u80 u81 u82 u83 u84 u85 u86 u87 u88 u89 u90 u91 u92 u93 u94 u95 u96 u97 u98 u99 u100 u101 u102 u103 u104 u105 u106 u107 u108 u109 u110 u111 u112 u113 u114 u115 u116 u117 u118 u119 u120 u121 u122 u123 u124 u125 u126 u127 u128 u129 u130 u131 u132 u133 u134 u135 u136 u137 u138 u139 u140 u141 u142 u143 u144 u145 u146 u147 u148 u149 u150 u151 u152 u153 u154 u155
losses_left_to_finish = (refl, refl)
