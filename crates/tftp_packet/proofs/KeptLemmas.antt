-- What is kept of the options so far.
use Rattle.std.proofs.Common.{◌≡◌, ℕ, Bool, true, false, List, [], ◌∷◌, ◌++◌, length, Option, Some, None, refl, ap, ◌∙◌}
use Rattle.std.specs.Prelude.{cond, ◌||◌, ◌&&◌, nat_lt}
use Rattle.std.specs.Option.{is_some}
use Rattle.std.specs.List.{list_any}
use Rattle.std.proofs.lemmas.Bool.{and_parts, not-true, or_right, or_parts}
use Rattle.std.proofs.lemmas.List.Folds.{list_any-append}
use Rattle.tftp_packet.specs.declared.options.Known.{Known}
use Rattle.tftp_packet.specs.declared.options.Known.TheVariants.{BlockSize, Timeout, TransferSize}
use Rattle.tftp_packet.specs.declared.options.Others.{Others}
use Rattle.tftp_packet.specs.declared.options.Seen.{Seen}
use Rattle.tftp_packet.specs.Options.{Pair, is_named, known_of, said_of, said_by, value_of, options_of, nothing, has, with_known, is_new, admits, may_follow}
use Rattle.tftp_packet.proofs.NameLemmas.{NamesAs, names_one}

-- one of the pairs names the option
abbrev pub is_among : Known → List Pair → Bool
is_among known pairs = list_any (λ pair. is_named known pair.name) pairs

-- what is kept of pairs
abbrev pub seen_of : List Pair → Seen
seen_of pairs = record { options = options_of pairs; blksize = is_among BlockSize pairs; timeout = is_among Timeout pairs; tsize = is_among TransferSize pairs }

pub nothing_seen : seen_of [] ≡ nothing
unfolding options_of
nothing_seen = refl

pub has_among : (pairs : List Pair) (known : Known) → has (seen_of pairs) known ≡ is_among known pairs
has_among pairs BlockSize = refl
has_among pairs Timeout = refl
has_among pairs TransferSize = refl

-- ---- one pair more

pub among-other : (known : Known) (pairs : List Pair) (pair : Pair) → is_named known pair.name ≡ false → is_among known (pairs ++ pair ∷ []) ≡ is_among known pairs
among-other known [] pair off = rw off refl
among-other known (p ∷ pairs) pair off = ap (λ (b : Bool). is_named known p.name || b) (among-other known pairs pair off)

pub among-same : (known : Known) (pairs : List Pair) (pair : Pair) → is_named known pair.name ≡ true → is_among known (pairs ++ pair ∷ []) ≡ true
among-same known pairs pair is = list_any-append (λ p. is_named known p.name) pairs (pair ∷ []) ∙ rw is (or_right (is_among known pairs) true refl)

pub said-other : (known : Known) (pairs : List Pair) (pair : Pair) → is_named known pair.name ≡ false → said_of known (pairs ++ pair ∷ []) ≡ said_of known pairs
said-other known [] pair off = rw off refl
said-other known (p ∷ pairs) pair off = ap (λ (o : Option ℕ). cond (is_named known p.name) (value_of known p.value) o) (said-other known pairs pair off)

pub said-same : (known : Known) (pairs : List Pair) (pair : Pair) → is_among known pairs ≡ false → is_named known pair.name ≡ true → said_of known (pairs ++ pair ∷ []) ≡ value_of known pair.value
said-same known [] pair new is = rw is refl
said-same known (p ∷ pairs) pair new is =
    let (off, later) = or_parts (is_named known p.name) (is_among known pairs) new in
    rw off (said-same known pairs pair later is)

-- the option is new among those so far
new_one : (others : Others) (pairs : List Pair) (name : List ℕ) → may_follow others (seen_of pairs) name ≡ true → is_new (seen_of pairs) (known_of name) ≡ true
unfolding may_follow
new_one others pairs name may =
    let (first, known) = and_parts (nat_lt 0 (length name) && is_new (seen_of pairs) (known_of name)) (admits others (is_some (known_of name))) may in
    (and_parts (nat_lt 0 (length name)) (is_new (seen_of pairs) (known_of name)) first).1

pub kept : (others : Others) (pairs : List Pair) (pair : Pair) → may_follow others (seen_of pairs) pair.name ≡ true
    → seen_of (pairs ++ pair ∷ []) ≡ with_known (seen_of pairs) (known_of pair.name) (said_by (known_of pair.name) pair.value)
unfolding options_of
kept others pairs pair may = go (known_of pair.name) (names_one pair.name) (new_one others pairs pair.name may)
  where
    go : (known : Option Known) → NamesAs pair.name known → is_new (seen_of pairs) known ≡ true → seen_of (pairs ++ pair ∷ []) ≡ with_known (seen_of pairs) known (said_by known pair.value)
    go None (a, b, c) new =
        rw (said-other BlockSize pairs pair a, said-other Timeout pairs pair b, said-other TransferSize pairs pair c, among-other BlockSize pairs pair a, among-other Timeout pairs pair b, among-other TransferSize pairs pair c) refl
    go (Some BlockSize) (a, b, c) new =
        rw (said-same BlockSize pairs pair (not-true _ new) a, said-other Timeout pairs pair b, said-other TransferSize pairs pair c, among-same BlockSize pairs pair a, among-other Timeout pairs pair b, among-other TransferSize pairs pair c) refl
    go (Some Timeout) (a, b, c) new =
        rw (said-other BlockSize pairs pair a, said-same Timeout pairs pair (not-true _ new) b, said-other TransferSize pairs pair c, among-other BlockSize pairs pair a, among-same Timeout pairs pair b, among-other TransferSize pairs pair c) refl
    go (Some TransferSize) (a, b, c) new =
        rw (said-other BlockSize pairs pair a, said-other Timeout pairs pair b, said-same TransferSize pairs pair (not-true _ new) c, among-other BlockSize pairs pair a, among-other Timeout pairs pair b, among-same TransferSize pairs pair c) refl
