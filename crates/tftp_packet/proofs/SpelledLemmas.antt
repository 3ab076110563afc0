-- What bytes spell, in the words of the format and in those of packets.
use Rattle.std.proofs.Common.{◌≡◌, ℕ, ◌+◌, ◌<◌, ◌^◌, Bool, true, List, [], ◌∷◌, ◌++◌, length, Ok, Err, refl, ap, sym, subst, ◌∙◌, arith}
use Rattle.std.specs.Prelude.{◌==◌}
use Rattle.std.specs.List.{concat}
use Rattle.std.proofs.lemmas.Bool.{eqb-true}
use Rattle.std.proofs.lemmas.List.{append-nil}
use Rattle.field_grammar.specs.Grammar.{Grammar, Follows, choose, judge, mapped, Spelled, EndsTheBytes}
use Rattle.field_grammar.specs.Fields.{number_bytes}
use Rattle.field_grammar.proofs.ExactLemmas.{ends_last, ends_before}
use Rattle.tftp_packet.specs.declared.fault.PacketFault.{PacketFault}
use Rattle.tftp_packet.specs.declared.fault.PacketFault.TheVariants as faults
use Rattle.tftp_packet.specs.declared.options.Options.{Options}
use Rattle.tftp_packet.specs.declared.options.Others.TheVariants.{Refused}
use Rattle.tftp_packet.specs.Options.{all_options, ended_text, pairs_fields, options_of}
use Rattle.tftp_packet.specs.Packets.{PacketView, Rrq, Wrq, Data, Ack, Error, Oack, IsRequest, PacketSpells, request_body, data_body, ack_body, error_body, body, packet, word}
use Rattle.tftp_packet.proofs.CaseLemmas.{octet_is_text}
use Rattle.tftp_packet.proofs.PairLemmas.{either}
use Rattle.tftp_packet.proofs.BodyLemmas.{spelled-word, SayOptions, options_to, options_from, ends-options, RequestFields, request_to, request_from, ends-request, DataFields, data_to, data_from, ends-data, AckFields, ack_to, ack_from, ends-ack, ErrorFields, error_to, error_from, ends-error}

-- ---- from fields to packets

-- the bytes of a packet with this opcode and these fields after it
abbrev with_opcode : ℕ → List (List ℕ) → List ℕ
with_opcode opcode fields = concat (number_bytes 2 opcode ∷ fields)

mapped_to : {A B : Type 0} (f : A → B) (g : Grammar PacketFault A) (Says : A → List (List ℕ) → Type 0) (Spells : B → List (List ℕ) → Type 0)
    → ((before : List ℕ) (fields : List (List ℕ)) (after : ℕ) (x : A) → Follows g before fields after x → Says x fields)
    → ((x : A) (fields : List (List ℕ)) → Says x fields → Spells (f x) fields)
    → (before : List ℕ) (fields : List (List ℕ)) (after : ℕ) (value : B) → Follows (mapped f g) before fields after value → Spells value fields
mapped_to {B = B} f g Says Spells to spells before fields after value follows =
    let (x, first, none, parts, here, last) = follows in
    let whole : fields ≡ first = rw (parts, last.0, append-nil) refl in
    subst (λ (v : B). Spells v fields) last.1 (subst (λ (l : List (List ℕ)). Spells (f x) l) (sym whole) (spells x first (to before first (length (concat none) + after) x here)))

abbrev SpellsBehind : ℕ → PacketView → List (List ℕ) → Type 0
SpellsBehind opcode p fields = PacketSpells p (with_opcode opcode fields)

request_is : (opcode : ℕ) (name : List ℕ) (options : Options) (fields : List (List ℕ)) → RequestFields name options fields → IsRequest opcode name options (with_opcode opcode fields)
request_is opcode name options fields r = record {
  mode = r.mode;
  pairs = r.say.pairs;
  is_name = r.is_name;
  octet = r.octet;
  are_options = r.say.are;
  say = r.say.say;
  parts = ap (with_opcode opcode) (r.parts ∙ ap (λ (l : List (List ℕ)). ended_text name ∷ ended_text r.mode ∷ l) r.say.parts);
}

rrq_to : (before : List ℕ) (fields : List (List ℕ)) (after : ℕ) (p : PacketView) → Follows (mapped (λ r. Rrq r.0 r.1) request_body) before fields after p → SpellsBehind 1 p fields
rrq_to = mapped_to (λ r. Rrq r.0 r.1) request_body (λ r. RequestFields r.0 r.1) (SpellsBehind 1) request_to (λ r fields is. request_is 1 r.0 r.1 fields is)

wrq_to : (before : List ℕ) (fields : List (List ℕ)) (after : ℕ) (p : PacketView) → Follows (mapped (λ r. Wrq r.0 r.1) request_body) before fields after p → SpellsBehind 2 p fields
wrq_to = mapped_to (λ r. Wrq r.0 r.1) request_body (λ r. RequestFields r.0 r.1) (SpellsBehind 2) request_to (λ r fields is. request_is 2 r.0 r.1 fields is)

sent_to : (before : List ℕ) (fields : List (List ℕ)) (after : ℕ) (p : PacketView) → Follows (mapped (λ d. Data d.0 d.1) data_body) before fields after p → SpellsBehind 3 p fields
sent_to =
    mapped_to (λ d. Data d.0 d.1) data_body (λ d. DataFields d.0 d.1) (SpellsBehind 3) data_to
    (λ d fields is. record { number = is.number; size = is.size; are_bytes = is.are_bytes; parts = ap (with_opcode 3) is.parts })

acknowledged_to : (before : List ℕ) (fields : List (List ℕ)) (after : ℕ) (p : PacketView) → Follows (mapped Ack ack_body) before fields after p → SpellsBehind 4 p fields
acknowledged_to = mapped_to Ack ack_body AckFields (SpellsBehind 4) ack_to (λ n fields is. record { number = is.number; parts = ap (with_opcode 4) is.parts })

failed_to : (before : List ℕ) (fields : List (List ℕ)) (after : ℕ) (p : PacketView) → Follows (mapped (λ e. Error e.0 e.1) error_body) before fields after p → SpellsBehind 5 p fields
failed_to =
    mapped_to (λ e. Error e.0 e.1) error_body (λ e. ErrorFields e.0 e.1) (SpellsBehind 5) error_to
    (λ e fields is. record { number = is.number; is_text = is.is_text; parts = ap (with_opcode 5) is.parts })

granted_to : (before : List ℕ) (fields : List (List ℕ)) (after : ℕ) (p : PacketView) → Follows (mapped Oack (all_options Refused)) before fields after p → SpellsBehind 6 p fields
granted_to =
    mapped_to Oack (all_options Refused) (SayOptions Refused) (SpellsBehind 6) (options_to Refused)
    (λ options fields is. record { pairs = is.pairs; are_options = is.are; say = is.say; parts = ap (with_opcode 6) is.parts })

at_opcode : (opcode known : ℕ) (p : PacketView) (fields : List (List ℕ)) → (opcode == known) ≡ true → SpellsBehind known p fields → SpellsBehind opcode p fields
at_opcode opcode known p fields same is = subst (λ (n : ℕ). SpellsBehind n p fields) (sym (eqb-true opcode known same)) is

body_to : (opcode : ℕ) (before : List ℕ) (fields : List (List ℕ)) (after : ℕ) (p : PacketView) → Follows (body opcode) before fields after p → SpellsBehind opcode p fields
unfolding body
body_to opcode before fields after p =
    either (opcode == 1) _ _ (SpellsBehind opcode p fields) (λ e h. at_opcode opcode 1 p fields e (rrq_to before fields after p h))
    (λ _. either (opcode == 2) _ _ (SpellsBehind opcode p fields) (λ e h. at_opcode opcode 2 p fields e (wrq_to before fields after p h))
    (λ _. either (opcode == 3) _ _ (SpellsBehind opcode p fields) (λ e h. at_opcode opcode 3 p fields e (sent_to before fields after p h))
    (λ _. either (opcode == 4) _ _ (SpellsBehind opcode p fields) (λ e h. at_opcode opcode 4 p fields e (acknowledged_to before fields after p h))
    (λ _. either (opcode == 5) _ _ (SpellsBehind opcode p fields) (λ e h. at_opcode opcode 5 p fields e (failed_to before fields after p h))
    (λ _. either (opcode == 6) _ _ (SpellsBehind opcode p fields) (λ e h. at_opcode opcode 6 p fields e (granted_to before fields after p h))
    (λ _ h. absurd (never h.1)))))))
  where
    never : Err (faults.Opcode opcode) ≡ Ok p → ⊥
    never e = cc

pub packet_is : (bytes : List ℕ) (p : PacketView) → Spelled packet bytes p → PacketSpells p bytes
unfolding packet
packet_is bytes p spelled =
    let (fields, whole, (opcode, f1, o1, parts1, h1, h2)) = spelled in
    let one = spelled-word.to [] f1 (length (concat o1) + 0) opcode h1 in
    let is : bytes ≡ with_opcode opcode o1 = whole ∙ ap concat (parts1 ∙ ap (λ (l : List (List ℕ)). l ++ o1) one.0) in
    subst (λ (b : List ℕ). PacketSpells p b) (sym is) (body_to opcode ([] ++ concat f1) o1 0 p h2)

-- ---- from packets to fields

mapped_from : {A B : Type 0} (f : A → B) (g : Grammar PacketFault A) (before : List ℕ) (fields : List (List ℕ)) (x : A) → Follows g before fields 0 x → Follows (mapped f g) before fields 0 (f x)
mapped_from f g before fields x follows = (x, fields, [], sym (append-nil fields), follows, (refl, refl))

-- what stands after every opcode
after_opcode : (opcode : ℕ) (bytes : List ℕ) (fields : List (List ℕ)) (p : PacketView) → opcode < 2 ^ 16 → bytes ≡ with_opcode opcode fields
    → Follows (body opcode) ([] ++ concat (number_bytes 2 opcode ∷ [])) fields 0 p → Spelled packet bytes p
unfolding packet
after_opcode opcode bytes fields p small whole follows =
    (number_bytes 2 opcode ∷ fields, whole, (opcode, number_bytes 2 opcode ∷ [], fields, refl, spelled-word.from [] (length (concat fields) + 0) opcode small, follows))

abbrev start_of : ℕ → List ℕ
start_of opcode = [] ++ concat (number_bytes 2 opcode ∷ [])

pub packet_from : (bytes : List ℕ) (p : PacketView) → PacketSpells p bytes → Spelled packet bytes p
unfolding body
packet_from bytes (Rrq name options) is =
    subst (λ (o : Options). Spelled packet bytes (Rrq name o)) is.say (
    after_opcode 1 bytes (ended_text name ∷ ended_text is.mode ∷ pairs_fields is.pairs) (Rrq name (options_of is.pairs)) (omega arith) is.parts (
    mapped_from (λ r. Rrq r.0 r.1) request_body (start_of 1) (ended_text name ∷ ended_text is.mode ∷ pairs_fields is.pairs) (name, options_of is.pairs)
    (request_from (start_of 1) name is.mode is.pairs is.is_name (octet_is_text is.mode is.octet) is.octet is.are_options)
    )
    )
packet_from bytes (Wrq name options) is =
    subst (λ (o : Options). Spelled packet bytes (Wrq name o)) is.say (
    after_opcode 2 bytes (ended_text name ∷ ended_text is.mode ∷ pairs_fields is.pairs) (Wrq name (options_of is.pairs)) (omega arith) is.parts (
    mapped_from (λ r. Wrq r.0 r.1) request_body (start_of 2) (ended_text name ∷ ended_text is.mode ∷ pairs_fields is.pairs) (name, options_of is.pairs)
    (request_from (start_of 2) name is.mode is.pairs is.is_name (octet_is_text is.mode is.octet) is.octet is.are_options)
    )
    )
packet_from bytes (Data block payload) is =
    after_opcode 3 bytes (number_bytes 2 block ∷ payload ∷ []) (Data block payload) (omega arith) is.parts
    (mapped_from (λ d. Data d.0 d.1) data_body (start_of 3) (number_bytes 2 block ∷ payload ∷ []) (block, payload) (data_from (start_of 3) block payload is.number is.size is.are_bytes))
packet_from bytes (Ack block) is =
    after_opcode 4 bytes (number_bytes 2 block ∷ []) (Ack block) (omega arith) is.parts (mapped_from Ack ack_body (start_of 4) (number_bytes 2 block ∷ []) block (ack_from (start_of 4) block is.number))
packet_from bytes (Error code message) is =
    after_opcode 5 bytes (number_bytes 2 code ∷ ended_text message ∷ []) (Error code message) (omega arith) is.parts
    (mapped_from (λ e. Error e.0 e.1) error_body (start_of 5) (number_bytes 2 code ∷ ended_text message ∷ []) (code, message) (error_from (start_of 5) code message is.number is.is_text))
packet_from bytes (Oack options) is =
    subst (λ (o : Options). Spelled packet bytes (Oack o)) is.say (
    after_opcode 6 bytes (pairs_fields is.pairs) (Oack (options_of is.pairs)) (omega arith) is.parts
    (mapped_from Oack (all_options Refused) (start_of 6) (pairs_fields is.pairs) (options_of is.pairs) (options_from Refused is.pairs (start_of 6) is.are_options))
    )

-- ---- the end

ends-choose : {F A : Type 0} (b : Bool) (g h : Grammar F A) → EndsTheBytes g → EndsTheBytes h → EndsTheBytes (choose b g h)
ends-choose b g h one other = record {
  at_end = λ before fields after value. either b _ _ (after ≡ 0) (λ _ f. one.at_end before fields after value f) (λ _ f. other.at_end before fields after value f);
}

ends-refusal : {F A : Type 0} (fault : F) → EndsTheBytes (judge {A = A} (Err fault))
ends-refusal {F = F} {A = A} fault = record { at_end = λ before fields after value follows. absurd (never value follows.1) }
  where
    never : {F A : Type 0} {fault : F} (value : A) → Err fault ≡ Ok value → ⊥
    never value e = cc

ends-body : (opcode : ℕ) → EndsTheBytes (body opcode)
unfolding body
ends-body opcode =
    ends-choose (opcode == 1) _ _ (ends_before request_body _ ends-request)
    (ends-choose (opcode == 2) _ _ (ends_before request_body _ ends-request)
    (ends-choose (opcode == 3) _ _ (ends_before data_body _ ends-data)
    (ends-choose (opcode == 4) _ _ (ends_before ack_body _ ends-ack)
    (ends-choose (opcode == 5) _ _ (ends_before error_body _ ends-error)
    (ends-choose (opcode == 6) _ _ (ends_before (all_options Refused) _ (ends-options Refused))
    (ends-refusal (faults.Opcode opcode)))))))

pub ends-packet : EndsTheBytes packet
unfolding packet
ends-packet = ends_last word body ends-body
