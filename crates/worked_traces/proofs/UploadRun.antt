-- The definitions computed on this run.
use Rattle.std.proofs.Common.{[], ◌∷◌, refl, inl}
use Rattle.std.specs.Fmt.{digits as f0}
use Rattle.hex.specs.Hex.{decode_pairs as f1}
use Rattle.crc_fields.specs.CheckSums.{lowest_bits as u0, bits_of as u1, register_after_bit as u2, register_after_bits as u3, register_after as u4, crc16_of as u5, crc32_of as u6, crc16_after as u7, crc32_after as u8}
use Rattle.field_grammar.specs.Fields.{number_in as u9, number_bytes as u10, raw as u11, number as u12, pad as u13, padded_parts as u14, short_parts as u15, padded as u16, short as u17, section as u18, pad_bytes as u19}
use Rattle.field_grammar.specs.Grammar.{times as u20, listed as u21}
use Rattle.field_grammar.specs.Spelling.{listed_fields as u22}
use Rattle.load_base.specs.Verdicts.{name_fault_of as u23, text_fault_of as u24, ident_fault_of as u25, part_text_fault_of as u26}
use Rattle.part_number.specs.PartNumber.{hexadecimal_digit as u27, hexadecimal as u28, check_of as u29, part_number_text as u30, is_good_at as u31}
use Rattle.part_number.specs.Verdicts.{part_fault_of as u32}
use Rattle.header_sections.specs.SectionFields.{texts_fields as u33, user_fields as u34, entries_fields as u35}
use Rattle.header_sections.specs.Sections.{text as u36, name as u37, part as u38, start as u39, section_at as u40, user_data as u41, end as u42}
use Rattle.load_header.specs.Encoding.{few_members as u43, short_enough as u44, pointers_by as u45}
use Rattle.load_header.specs.Header.{counted_texts as u46, four as u47, pointers as u48, head as u49, identity as u50, hardware_at as u51, positions as u52, targets as u53, file_size as u54, file_body as u55, file_entry as u56, files as u57, all_files as u58, no_check_value as u59, check_sums as u60, tail as u61, limit as u62, header as u63}
use Rattle.load_header.specs.HeaderFields.{positions_fields as u64, file_body_fields as u65, type_fields as u66, header_size as u67, pointers_of as u68, pointers_fields as u69, head_fields as u70, identity_fields as u71, targets_fields as u72, all_files_fields as u73, sections_fields as u74, covered_fields as u75, header_fields as u76}
use Rattle.load_protocol_files.specs.Files.{head as u77, tail as u78, file_fields as u79}
use Rattle.load_protocol_files.specs.Lci.{lci_body as u80}
use Rattle.load_protocol_files.specs.Lcl.{installed as u81, hardware as u82, lcl_body as u83}
use Rattle.load_protocol_files.specs.Lcs.{lcs_body as u84}
use Rattle.load_protocol_files.specs.Lui.{lui_body as u85}
use Rattle.load_protocol_files.specs.Lur.{wanted as u86, lur_body as u87}
use Rattle.load_protocol_files.specs.Lus.{load_status as u88, lus_body as u89, progress_fields as u90, counts_fields as u91}
use Rattle.load_protocol_files.specs.Pieces.{text as u92, name as u93, part as u94, ratio as u95, ratio_digits as u96, counted_fields as u97}
use Rattle.load_protocol_files.specs.Reply.{reply as u98}
use Rattle.tftp_packet.specs.Options.{is_named as u99, known_of as u100, number_between as u101, options_of as u102, written_options as u103, may_follow as u104, may_have as u105, one_option as u106, options_to_end as u107, rest_of_options as u108, all_options as u109}
use Rattle.tftp_packet.specs.Packets.{is_octet as u110, word as u111, file_name as u112, request_body as u113, payload_bytes as u114, data_body as u115, ack_body as u116, error_body as u117, body as u118, packet as u119}
use Rattle.printed_text.specs.FaultTexts.{number_text as u120, coded as u121, nested as u122}
use Rattle.printed_text.specs.Lines.{hex_8 as u123, hex_16 as u124, field_line as u125}
use Rattle.disk_layout.specs.Manifest.{load_count as u126, part as u127, file_count as u128, file_name as u129, file_length as u130, file_entry as u131, load_entry as u132, manifest as u133}
use Rattle.exchange_trace.specs.Steps.{steps_of as u134}
use Rattle.transfer_end.specs.Packets.{packet_in as u135}
use Rattle.transfer_end.specs.Transfers.{end_of as u136, arrived_in as u137}
use Rattle.session_rules.specs.FileNames.{file_name as u138}
use Rattle.session_rules.specs.LoaderRows.{row_of as u139, file_turn as u140}
use Rattle.session_rules.specs.Reports.{lci_file as u141, lcs_file as u142, lcl_file as u143, accepting_lui as u144, denying_lui as u145, lur_file as u146, ready_lus as u147, progress_lus as u148, completed_lus as u149, stopped_lus as u150}
use Rattle.session_rules.specs.TargetRows.{row_of as u151}
use Rattle.session_rules.specs.Uploads.{need_of as u152, judge_header as u153, judge_file as u154, judge_request as u155}
use Rattle.session_rules.specs.declared.outcome.Outcome.TheVariants.{Completed}
use Rattle.worked_traces.specs.Upload.{run}
use Rattle.worked_traces.specs.Walks.{Agrees, IsWorked, walk_at}
use Rattle.worked_traces.proofs.WalkLemmas.{agreed_from_start}

agrees : Agrees run.setting (walk_at run.setting run.script []) run.trace
unfolding f0 f1 run u0 u1 u2 u3 u4 u5 u6 u7 u8 u9 u10 u11 u12 u13 u14 u15 u16 u17 u18 u19 u20 u21 u22 u23 u24 u25 u26 u27 u28 u29 u30 u31 u32 u33 u34 u35 u36 u37 u38 u39 u40 u41 u42 u43 u44 u45 u46 u47 u48 u49 u50 u51 u52 u53 u54 u55 u56 u57 u58 u59 u60 u61 u62 u63 u64 u65 u66 u67 u68 u69 u70 u71 u72 u73 u74 u75 u76 u77 u78 u79 u80 u81 u82 u83 u84 u85 u86 u87 u88 u89 u90 u91 u92 u93 u94 u95 u96 u97 u98 u99 u100 u101 u102 u103 u104 u105 u106 u107 u108 u109 u110 u111 u112 u113 u114 u115 u116 u117 u118 u119 u120 u121 u122 u123 u124 u125 u126 u127 u128 u129 u130 u131 u132 u133 u134 u135 u136 u137 u138 u139 u140 u141 u142 u143 u144 u145 u146 u147 u148 u149 u150 u151 u152 u153 u154 u155
agrees = (
  record { posts = refl; given = refl; notes = inl refl },
  (
    record { posts = refl; given = refl; notes = inl refl },
    (
      record { posts = refl; given = refl; notes = inl refl },
      (
        record { posts = refl; given = refl; notes = inl refl },
        (
          record { posts = refl; given = refl; notes = inl refl },
          (
            record { posts = refl; given = refl; notes = inl refl },
            (
              record { posts = refl; given = refl; notes = inl refl },
              (
                record { posts = refl; given = refl; notes = inl refl },
                (
                  record { posts = refl; given = refl; notes = inl refl },
                  (
                    record { posts = refl; given = refl; notes = inl refl },
                    (
                      record { posts = refl; given = refl; notes = inl refl },
                      (
                        record { posts = refl; given = refl; notes = inl refl },
                        (
                          record { posts = refl; given = refl; notes = inl refl },
                          (
                            record { posts = refl; given = refl; notes = inl refl },
                            (
                              record { posts = refl; given = refl; notes = inl refl },
                              (
                                record { posts = refl; given = refl; notes = inl refl },
                                (
                                  record { posts = refl; given = refl; notes = inl refl },
                                  (
                                    record { posts = refl; given = refl; notes = inl refl },
                                    (
                                      record { posts = refl; given = refl; notes = inl refl },
                                      (
                                        record { posts = refl; given = refl; notes = inl refl },
                                        (
                                          record { posts = refl; given = refl; notes = inl refl },
                                          (
                                            record { posts = refl; given = refl; notes = inl refl },
                                            (
                                              record { posts = refl; given = refl; notes = inl refl },
                                              tt,
                                            ),
                                          ),
                                        ),
                                      ),
                                    ),
                                  ),
                                ),
                              ),
                            ),
                          ),
                        ),
                      ),
                    ),
                  ),
                ),
              ),
            ),
          ),
        ),
      ),
    ),
  ),
)

pub upload : IsWorked run [] (Completed ∷ []) 2
unfolding f0 f1 run u0 u1 u2 u3 u4 u5 u6 u7 u8 u9 u10 u11 u12 u13 u14 u15 u16 u17 u18 u19 u20 u21 u22 u23 u24 u25 u26 u27 u28 u29 u30 u31 u32 u33 u34 u35 u36 u37 u38 u39 u40 u41 u42 u43 u44 u45 u46 u47 u48 u49 u50 u51 u52 u53 u54 u55 u56 u57 u58 u59 u60 u61 u62 u63 u64 u65 u66 u67 u68 u69 u70 u71 u72 u73 u74 u75 u76 u77 u78 u79 u80 u81 u82 u83 u84 u85 u86 u87 u88 u89 u90 u91 u92 u93 u94 u95 u96 u97 u98 u99 u100 u101 u102 u103 u104 u105 u106 u107 u108 u109 u110 u111 u112 u113 u114 u115 u116 u117 u118 u119 u120 u121 u122 u123 u124 u125 u126 u127 u128 u129 u130 u131 u132 u133 u134 u135 u136 u137 u138 u139 u140 u141 u142 u143 u144 u145 u146 u147 u148 u149 u150 u151 u152 u153 u154 u155
upload =
    let shown = agreed_from_start run.setting run.script run.trace agrees in
    record { due = shown.due; followed = shown.followed; noted = shown.noted; left_is = refl; outcomes_are = refl; sequence_is = refl }
