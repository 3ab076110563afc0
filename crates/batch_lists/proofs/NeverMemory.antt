-- No fault of a list of batches or of a batch is out of memory.
use Rattle.std.proofs.Common.{◌≡◌, ℕ, zero, suc, List, [], ◌∷◌, ◌++◌, length, Bool, Option, Some, None, Result, Err, refl, subst, inl, inr}
use Rattle.std.specs.Prelude.{◌≢◌}
use Rattle.std.specs.List.{concat}
use Rattle.load_base.specs.Verdicts.{verdict}
use Rattle.field_grammar.specs.Grammar.{Grammar, give, judge, check, prefix, left, seq, renamed, times, listed, expected, Stops, Fault}
use Rattle.field_grammar.specs.Fields.{raw, number, pad, judged_padded, section}
use Rattle.field_grammar.specs.declared.fault.FieldFault.{FieldFault}
use Rattle.field_grammar.specs.declared.fault.FieldFault.TheVariants as fields
use Rattle.header_sections.specs.Sections as pieces
use Rattle.header_sections.specs.Sections.{start, part, name, section_at, user_data, end}
use Rattle.header_sections.specs.declared.fault.SectionFault.{SectionFault}
use Rattle.header_sections.specs.declared.fault.SectionFault.TheVariants as sections
use Rattle.media_lists.specs.Lists as media
use Rattle.media_lists.specs.Lists.{counted as few, pointers, head, membership, member_of, identity, tail, media_list}
use Rattle.media_lists.specs.Entries.{numbered_entry, new_entry, entries}
use Rattle.media_lists.specs.declared.fault.ListFault.{ListFault}
use Rattle.media_lists.specs.declared.fault.ListFault.TheVariants as lists
use Rattle.batch_lists.specs.BatchFaults.{batches_fault, named, refused}
use Rattle.batch_lists.specs.Batches.{batch_body, batch_entries, batches_list}
use Rattle.batch_lists.specs.Batch.{ident, counted, one_part, batch_parts, batch_target, batch_targets, contents, check_sum, limit, batch}
use Rattle.batch_lists.specs.declared.fault.BatchFault.TheVariants as faults
use Rattle.batch_lists.specs.declared.fault.BatchWordFault.TheVariants as words
use Rattle.batch_lists.specs.declared.fault.BatchesFault.TheVariants as batches

-- ---- formats that never fail so

record Never {F A : Type 0} (g : Grammar F A) (memory : F) : Type 0 where
  pub never : (before : List ℕ) (fields : List (List ℕ)) (rest : List ℕ) → Stops g before fields rest memory → ⊥

module _ {F : Type 0} {memory : F} where
  never_give : {A : Type 0} (x : A) → Never (give x) memory
  never_give x = record { never = λ before fields rest stops. absurd stops }

  never_prefix : Never prefix memory
  never_prefix = record { never = λ before fields rest stops. absurd stops }

  never_left : Never left memory
  never_left = record { never = λ before fields rest stops. absurd stops }

  never_judge : {A : Type 0} (r : Result A F) → r ≢ Err memory → Never (judge r) memory
  never_judge r other = record { never = λ before fields rest stops. other stops.1 }

  never_check : (b : Bool) (fault : F) → fault ≢ memory → Never (check b fault) memory
  never_check b fault other = record { never = λ before fields rest stops. other stops.2 }

  never_seq : {A B : Type 0} (g : Grammar F A) (k : A → Grammar F B) → Never g memory → ((x : A) → Never (k x) memory) → Never (seq g k) memory
  never_seq g k one two = record {
    never = λ before fields rest stops. elim stops [
      | inl here ↦ one.never before fields rest here
      | inr found ↦ (let (x, first, others, parts, follows, later) = found in (two x).never (before ++ concat first) others rest later)
    ];
  }

  -- a format whose faults have other names, none of which is this
  never_named : {E A : Type 0} (m : E → F) (g : Grammar E A) → ((e : E) → m e ≢ memory) → Never (renamed m g) memory
  never_named m g other = record { never = λ before fields rest stops. other stops.0 stops.2 }

  -- a format that never fails so, under other names
  never_renamed : {E A : Type 0} (m : E → F) (g : Grammar E A) (inner : E) → ((e : E) → m e ≡ memory → e ≡ inner) → Never g inner → Never (renamed m g) memory
  never_renamed m g inner only one = record { never = λ before fields rest stops. one.never before fields rest (subst (λ (e : _). Stops g before fields rest e) (only stops.0 stops.2) stops.1) }

  never_times : {A : Type 0} (n : ℕ) (g : Grammar F A) → Never g memory → Never (times n g) memory
  unfolding times
  never_times zero g one = never_give []
  never_times (suc n) g one = never_seq _ _ one (λ x. never_seq _ _ (never_times n g one) (λ xs. never_give (x ∷ xs)))

  never_listed : {A : Type 0} (n : ℕ) (item : List A → Grammar F A) (so_far : List A) → ((xs : List A) → Never (item xs) memory) → Never (listed n item so_far) memory
  unfolding listed
  never_listed zero item so_far one = never_give so_far
  never_listed (suc n) item so_far one = never_seq _ _ (one so_far) (λ x. never_listed n item (so_far ++ x ∷ []) one)

  never_verdict : {E : Type 0} (wrong : E → F) (fault : Option E) (bytes : List ℕ) → ((e : E) → wrong e ≢ memory) → verdict wrong fault bytes ≢ Err memory
  never_verdict wrong None bytes other same = absurd cc
  never_verdict wrong (Some e) bytes other same = other e cc

  never_padded : {E : Type 0} (m : FieldFault → F) (wrong : ℕ → E → F) (fault_of : List ℕ → Option E) → ((e : FieldFault) → m e ≢ memory) → ((offset : ℕ) (e : E) → wrong offset e ≢ memory)
      → Never (judged_padded m (λ offset bytes. verdict (wrong offset) (fault_of bytes) bytes)) memory
  never_padded m wrong fault_of other others =
      never_seq _ _ (never_named m (number 2) other)
      (λ n. never_seq _ _ (never_seq _ _ never_prefix (λ before. never_seq _ _ (never_named m (raw n) other) (λ bytes. never_judge _ (never_verdict (wrong (length before)) (fault_of bytes) bytes (others (length before))))))
      (λ text. never_seq _ _ (never_named m (pad n) other) (λ u. never_give text)))

  never_expected : (g : Grammar F ℕ) (wanted : ℕ) (wrong : ℕ → F) → Never g memory → ((n : ℕ) → wrong n ≢ memory) → Never (expected g wanted wrong) memory
  never_expected g wanted wrong one other = never_seq _ _ one (λ found. never_check _ _ (other found))

-- ---- pieces

piece_named : (e : FieldFault) → pieces.named e ≢ sections.Memory
piece_named (fields.Short offset) same = cc
piece_named (fields.BadPad offset) same = cc

never_start : (version : ℕ) → Never (start version) sections.Memory
unfolding start
never_start version =
    never_seq _ _ (never_seq _ _ never_left (λ size. never_seq _ _ (never_named pieces.named (number 4) piece_named) (λ said. never_seq _ _ (never_check _ _ (λ same. cc)) (λ u. never_give said))))
    (λ words. never_seq _ _ (never_expected _ version sections.Version (never_named pieces.named (number 2) piece_named) (λ n same. cc)) (λ u. never_give words))

never_part : Never part sections.Memory
unfolding part
never_part = never_padded pieces.named sections.Part _ piece_named (λ offset e same. cc)

never_name : Never name sections.Memory
unfolding name
never_name = never_padded pieces.named sections.Name _ piece_named (λ offset e same. cc)

never_section : (which said : ℕ) → Never (section_at which said) sections.Memory
unfolding section_at section
never_section which said = never_seq _ _ never_prefix (λ before. never_check _ _ (λ same. cc))

never_user : (which said : ℕ) → Never (user_data which said) sections.Memory
unfolding user_data
never_user which said = never_seq _ _ (never_section which said) (λ u. never_seq _ _ (never_named pieces.named (number 2) piece_named) (λ n. never_named pieces.named _ piece_named))

never_end : (said found : ℕ) → Never (end said found) sections.Memory
unfolding end
never_end said found = never_seq _ _ (never_seq _ _ never_prefix (λ before. never_seq _ _ never_left (λ size. never_check _ _ (λ same. cc)))) (λ u. never_check _ _ (λ same. cc))

-- ---- lists

list_named : (e : FieldFault) → media.named e ≢ lists.Memory
list_named (fields.Short offset) same = cc
list_named (fields.BadPad offset) same = cc

list_refused : (e : SectionFault) → media.refused e ≡ lists.Memory → e ≡ sections.Memory
list_refused (sections.Short offset) same = absurd cc
list_refused (sections.Pad offset) same = absurd cc
list_refused (sections.Length said found) same = absurd cc
list_refused (sections.Version found) same = absurd cc
list_refused (sections.Pointer which said wanted) same = absurd cc
list_refused (sections.Name offset fault) same = absurd cc
list_refused (sections.Part offset fault) same = absurd cc
list_refused (sections.Text offset fault) same = absurd cc
list_refused (sections.Rest offset) same = absurd cc
list_refused (sections.Sum said found) same = absurd cc
list_refused sections.Memory same = refl

in_list : {A : Type 0} (g : Grammar SectionFault A) → Never g sections.Memory → Never (media.shared g) lists.Memory
in_list g one = never_renamed media.refused g sections.Memory list_refused one

list_number : (n : ℕ) → Never (renamed media.named (number n)) lists.Memory
list_number n = never_named media.named (number n) list_named

never_head : (version : ℕ) → Never (head version) lists.Memory
unfolding head pointers
never_head version =
    never_seq _ _ (in_list (start version) (never_start version)) (λ words. never_seq _ _ (never_expected _ 0 lists.Spare (list_number 2) (λ n same. cc))
    (λ u. never_seq _ _ (list_number 4) (λ a. never_seq _ _ (list_number 4) (λ b. never_seq _ _ (list_number 4) (λ c. never_give _)))))

never_identity : (said : ℕ) → Never (identity said) lists.Memory
unfolding identity membership
never_identity said =
    never_seq _ _ (in_list (section_at 1 said) (never_section 1 said)) (λ u. never_seq _ _ (in_list part never_part)
    (λ set. never_seq _ _ (never_seq _ _ never_prefix (λ before. never_seq _ _ (list_number 1) (λ member. never_seq _ _ never_prefix (λ between. never_seq _ _ (list_number 1)
    (λ members. never_seq _ _ (never_check _ _ (λ same. cc)) (λ u. never_seq _ _ (never_check _ _ (λ same. cc)) (λ u. never_give _)))))))
    (λ which. never_give _)))

never_member : (members : ℕ) → Never (member_of members) lists.Memory
unfolding member_of
never_member members = never_seq _ _ never_prefix (λ before. never_seq _ _ (list_number 2) (λ member. never_seq _ _ (never_check _ _ (λ same. cc)) (λ u. never_give _)))

never_tail : (said : ℕ) → Never (tail said) lists.Memory
unfolding tail media.check_sum
never_tail said =
    never_seq _ _ (in_list (user_data 3 said) (never_user 3 said))
    (λ user. never_seq _ _ (never_seq _ _ never_prefix (λ before. never_seq _ _ (list_number 2) (λ sum. in_list _ (never_end sum _)))) (λ u. never_give _))

never_body : (members : ℕ) → Never (batch_body members) lists.Memory
unfolding batch_body
never_body members = never_seq _ _ (in_list part never_part) (λ number. never_seq _ _ (in_list name never_name) (λ title. never_seq _ _ (never_member members) (λ member. never_give _)))

never_entry : {E : Type 0} (body : Grammar ListFault E) (n : ℕ) (last : Bool) → Never body lists.Memory → Never (numbered_entry body n last) lists.Memory
unfolding numbered_entry
never_entry body n last one =
    never_seq _ _ never_prefix (λ from. never_seq _ _ (list_number 2) (λ said. never_seq _ _ one (λ x. never_seq _ _ never_prefix (λ to. never_seq _ _ (never_check _ _ (λ same. cc)) (λ u. never_give x)))))

never_new : {E : Type 0} (body : Grammar ListFault E) (name_of : E → List ℕ) (n : ℕ) (last : Bool) (so_far : List E) → Never body lists.Memory → Never (new_entry body name_of n last so_far) lists.Memory
unfolding new_entry
never_new body name_of n last so_far one = never_seq _ _ (never_entry body n last one) (λ this. never_seq _ _ (never_check _ _ (λ same. cc)) (λ u. never_give this))

never_entries : {E : Type 0} (body : Grammar ListFault E) (name_of : E → List ℕ) (said : ℕ) → Never body lists.Memory → Never (entries body name_of said) lists.Memory
unfolding entries few
never_entries body name_of said one =
    never_seq _ _ (in_list (section_at 2 said) (never_section 2 said)) (λ u. never_seq _ _ (never_seq _ _ (list_number 2) (λ n. never_seq _ _ (never_check _ _ (λ same. cc)) (λ u. never_give n)))
    (λ count. never_listed count _ [] (λ xs. never_new body name_of _ _ xs one)))

never_list : (version : ℕ) → Never (media_list version batch_entries) lists.Memory
unfolding media_list media.limit
never_list version =
    never_seq _ _ (never_seq _ _ never_left (λ size. never_check _ _ (λ same. cc))) (λ u. never_seq _ _ (never_head version) (λ offsets. never_seq _ _ (never_identity offsets.set)
    (λ what. never_seq _ _ (never_entries (batch_body what.2) _ offsets.entries (never_body what.2)) (λ list. never_seq _ _ (never_tail offsets.user) (λ user. never_give _)))))

batches_refused : (e : ListFault) → batches_fault e ≡ batches.Memory → e ≡ lists.Memory
batches_refused (lists.Short offset) same = absurd cc
batches_refused (lists.Length said found) same = absurd cc
batches_refused (lists.Version found) same = absurd cc
batches_refused (lists.Spare found) same = absurd cc
batches_refused (lists.Pointer which said wanted) same = absurd cc
batches_refused (lists.Pad offset) same = absurd cc
batches_refused (lists.Word offset fault) same = absurd cc
batches_refused (lists.Distance entry) same = absurd cc
batches_refused (lists.Member offset) same = absurd cc
batches_refused (lists.Repeated entry) same = absurd cc
batches_refused lists.TooLong same = absurd cc
batches_refused (lists.Rest offset) same = absurd cc
batches_refused (lists.Crc said found) same = absurd cc
batches_refused lists.Memory same = refl

pub batches_never_memory : (bytes : List ℕ) → Fault batches_list bytes batches.Memory → ⊥
batches_never_memory bytes fault =
    let (fields, rest, parts, stops) = fault in
    (never_renamed batches_fault (media_list 0xB004 batch_entries) lists.Memory batches_refused (never_list 0xB004)).never [] fields rest stops

-- ---- batches

batch_named : (e : FieldFault) → named e ≢ faults.Memory
batch_named (fields.Short offset) same = cc
batch_named (fields.BadPad offset) same = cc

batch_refused : (e : SectionFault) → refused e ≡ faults.Memory → e ≡ sections.Memory
batch_refused (sections.Short offset) same = absurd cc
batch_refused (sections.Pad offset) same = absurd cc
batch_refused (sections.Length said found) same = absurd cc
batch_refused (sections.Version found) same = absurd cc
batch_refused (sections.Pointer which said wanted) same = absurd cc
batch_refused (sections.Name offset fault) same = absurd cc
batch_refused (sections.Part offset fault) same = absurd cc
batch_refused (sections.Text offset fault) same = absurd cc
batch_refused (sections.Rest offset) same = absurd cc
batch_refused (sections.Sum said found) same = absurd cc
batch_refused sections.Memory same = refl

in_batch : {A : Type 0} (g : Grammar SectionFault A) → Never g sections.Memory → Never (renamed refused g) faults.Memory
in_batch g one = never_renamed refused g sections.Memory batch_refused one

batch_number : (n : ℕ) → Never (renamed named (number n)) faults.Memory
batch_number n = never_named named (number n) batch_named

never_ident : Never ident faults.Memory
unfolding ident
never_ident = never_padded named (λ offset fault. faults.Word offset (words.Ident fault)) _ batch_named (λ offset e same. cc)

never_counted : (most : ℕ) → Never (counted most) faults.Memory
unfolding counted
never_counted most = never_seq _ _ never_prefix (λ before. never_seq _ _ (batch_number 2) (λ count. never_seq _ _ (never_check _ _ (λ same. cc)) (λ u. never_give count)))

never_one_part : Never one_part faults.Memory
unfolding one_part
never_one_part = in_batch part never_part

never_target : Never batch_target faults.Memory
unfolding batch_target batch_parts
never_target =
    never_seq _ _ never_ident (λ hw. never_seq _ _ never_ident (λ pos. never_seq _ _ (never_seq _ _ (never_counted 32) (λ count. never_times count one_part never_one_part)) (λ parts. never_give _)))

never_contents : Never contents faults.Memory
unfolding contents batch_targets
never_contents =
    never_seq _ _ (never_expected _ 0 faults.Spare (batch_number 2) (λ n same. cc)) (λ u. never_seq _ _ (in_batch part never_part)
    (λ number. never_seq _ _ (never_seq _ _ (never_counted 64) (λ count. never_times count batch_target never_target)) (λ targets. never_give _)))

never_batch : Never batch faults.Memory
unfolding batch limit check_sum
never_batch =
    never_seq _ _ (never_seq _ _ never_left (λ size. never_check _ _ (λ same. cc))) (λ u. never_seq _ _ (in_batch (start 0xC004) (never_start 0xC004))
    (λ words. never_seq _ _ never_contents (λ value. never_seq _ _ (never_seq _ _ never_prefix (λ before. never_seq _ _ (batch_number 2) (λ sum. in_batch _ (never_end sum _)))) (λ u. never_give value))))

pub batch_never_memory : (bytes : List ℕ) → Fault batch bytes faults.Memory → ⊥
batch_never_memory bytes fault =
    let (fields, rest, parts, stops) = fault in
    never_batch.never [] fields rest stops
