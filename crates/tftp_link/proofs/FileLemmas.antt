-- What arrives of the blocks of a file is a prefix of it, and whole it is the file.
use Rattle.std.proofs.Common.{◌≡◌, ℕ, ◌+◌, ◌-◌, ◌*◌, ◌≤◌, ◌<◌, Bool, true, false, cond, eqb, ◌&&◌, List, [], ◌∷◌, ◌++◌, length, take, drop, refl, sym, ap, subst, ◌∙◌, append_assoc, arith, min}
use Rattle.std.specs.Prelude.{nat_lt, ◌==◌}
use Rattle.std.specs.List.{AllByRecursion, concat}
use Rattle.std.proofs.lemmas.Bool.{eqb-true, ltb-true}
use Rattle.std.proofs.lemmas.List.{take-append-drop, append-nil, drop-drop, drop_all, length-take}
use Rattle.tftp_packet.specs.Packets.{PacketView, Rrq, Wrq, Data, Ack, Error, Oack}
use Rattle.tftp_link.specs.Blocks.{block_of, is_block, IsOfFile}
use Rattle.tftp_link.proofs.ArrivalLemmas.{standing, ends_short, short_is, more_short, only, and_parts}
use Rattle.tftp_link.specs.Laws.{ArrivesAsPrefix, ArrivesWhole}

-- the file from block k + 1 on
abbrev from : List ℕ → (size k : ℕ) → List ℕ
from file size k = drop (k * size) file

-- it is its first block, and what comes after that
split : (file : List ℕ) (size k : ℕ) → from file size k ≡ block_of file size (k + 1) ++ from file size (k + 1)
split file size k =
    let same : k + 1 - 1 ≡ k = omega arith in
    let next : k * size + size ≡ (k + 1) * size = grind arith in
    sym (take-append-drop size (from file size k))
    ∙ ap (λ (i : ℕ). take size (drop (i * size) file) ++ drop size (from file size k)) (sym same)
    ∙ ap (λ (l : List ℕ). block_of file size (k + 1) ++ l) (drop-drop size (k * size) file ∙ ap (λ (i : ℕ). drop i file) next)

abbrev IsPrefixOf : List ℕ → List ℕ → Type 0
IsPrefixOf bytes all = (rest : List ℕ) × (all ≡ bytes ++ rest)

block_prefix : (file : List ℕ) (size k : ℕ) (b : List ℕ) (bs : List (List ℕ)) (s : Bool) → b ≡ block_of file size (k + 1)
    → IsPrefixOf (concat bs) (from file size (k + 1)) → IsPrefixOf (concat (b ∷ cond s [] bs)) (from file size k)
block_prefix file size k b bs true e later = (from file size (k + 1), split file size k ∙ rw e (ap (λ (l : List ℕ). l ++ from file size (k + 1)) (sym (append-nil (block_of file size (k + 1))))))
block_prefix file size k b bs false e (rest, after) =
    (rest, split file size k ∙ ap (λ (l : List ℕ). l ++ from file size (k + 1)) (sym e) ∙ ap (λ (l : List ℕ). b ++ l) after ∙ sym (append_assoc b (concat bs) rest))

data_prefix : (file : List ℕ) (size k j : ℕ) (b : List ℕ) (ps : List PacketView) (t : Bool) → (eqb j (k + 1) && is_block size j b) ≡ t
    → (1 ≤ j → b ≡ block_of file size j)
    → IsPrefixOf (concat (standing size (k + 1 + 1) ps)) (from file size (k + 1)) → IsPrefixOf (concat (standing size (k + 1) ps)) (from file size k)
    → IsPrefixOf (concat (cond t (b ∷ cond (nat_lt (length b) size) [] (standing size (k + 1 + 1) ps)) (standing size (k + 1) ps))) (from file size k)
data_prefix file size k j b ps true e is later here =
    let same : j ≡ k + 1 = eqb-true _ _ (and_parts (eqb j (k + 1)) (is_block size j b) e).0 in
    block_prefix file size k b (standing size (k + 1 + 1) ps) (nat_lt (length b) size) (is (omega (arith, same)) ∙ ap (block_of file size) same) later
data_prefix file size k j b ps false e is later here = here

pub prefix_from : (file : List ℕ) (size k : ℕ) (ps : List PacketView) → AllByRecursion (IsOfFile file size) ps → IsPrefixOf (concat (standing size (k + 1) ps)) (from file size k)
prefix_from file size k [] all = (from file size k, refl)
prefix_from file size k (Data j b ∷ ps) (is, all) =
    data_prefix file size k j b ps ((j == k + 1) && is_block size j b) refl is (prefix_from file size (k + 1) ps all) (prefix_from file size k ps all)
prefix_from file size k (Error code m ∷ ps) (is, all) = (from file size k, refl)
prefix_from file size k (Ack j ∷ ps) (is, all) = prefix_from file size k ps all
prefix_from file size k (Rrq name o ∷ ps) (is, all) = prefix_from file size k ps all
prefix_from file size k (Wrq name o ∷ ps) (is, all) = prefix_from file size k ps all
prefix_from file size k (Oack o ∷ ps) (is, all) = prefix_from file size k ps all

-- a block that is short is the last of its file
nothing_after : (file : List ℕ) (size k : ℕ) → length (block_of file size (k + 1)) < size → from file size (k + 1) ≡ []
nothing_after file size k short =
    let same : k + 1 - 1 ≡ k = omega arith in
    let next : k * size + size ≡ (k + 1) * size = grind arith in
    let left : length (take size (from file size k)) < size = subst (λ (i : ℕ). length (take size (drop (i * size) file)) < size) same short in
    let few : min size (length (from file size k)) < size = subst (λ (n : ℕ). n < size) (length-take size (from file size k)) left in
    ap (λ (i : ℕ). drop i file) (sym next) ∙ sym (drop-drop size (k * size) file) ∙ drop_all size (from file size k) (omega (arith, few))

block_whole : (file : List ℕ) (size k : ℕ) (b : List ℕ) (bs : List (List ℕ)) (s : Bool) → nat_lt (length b) size ≡ s → b ≡ block_of file size (k + 1)
    → (ends_short size bs ≡ true → from file size (k + 1) ≡ concat bs) → ends_short size (b ∷ cond s [] bs) ≡ true → from file size k ≡ concat (b ∷ cond s [] bs)
block_whole file size k b bs true short e later h =
    let less : length (block_of file size (k + 1)) < size = subst (λ (l : List ℕ). length l < size) e (ltb-true (length b) size short) in
    split file size k ∙ ap (λ (l : List ℕ). block_of file size (k + 1) ++ l) (nothing_after file size k less) ∙ ap (λ (l : List ℕ). l ++ []) (sym e)
block_whole file size k b bs false full e later h =
    split file size k ∙ ap (λ (l : List ℕ). l ++ from file size (k + 1)) (sym e) ∙ ap (λ (l : List ℕ). b ++ l) (later (more_short size b bs full ∙ h))

data_whole : (file : List ℕ) (size k j : ℕ) (b : List ℕ) (ps : List PacketView) (t : Bool) → (eqb j (k + 1) && is_block size j b) ≡ t
    → (1 ≤ j → b ≡ block_of file size j)
    → (ends_short size (standing size (k + 1 + 1) ps) ≡ true → from file size (k + 1) ≡ concat (standing size (k + 1 + 1) ps))
    → (ends_short size (standing size (k + 1) ps) ≡ true → from file size k ≡ concat (standing size (k + 1) ps))
    → ends_short size (cond t (b ∷ cond (nat_lt (length b) size) [] (standing size (k + 1 + 1) ps)) (standing size (k + 1) ps)) ≡ true
    → from file size k ≡ concat (cond t (b ∷ cond (nat_lt (length b) size) [] (standing size (k + 1 + 1) ps)) (standing size (k + 1) ps))
data_whole file size k j b ps true e is later here h =
    let same : j ≡ k + 1 = eqb-true _ _ (and_parts (eqb j (k + 1)) (is_block size j b) e).0 in
    block_whole file size k b (standing size (k + 1 + 1) ps) (nat_lt (length b) size) refl (is (omega (arith, same)) ∙ ap (block_of file size) same) later h
data_whole file size k j b ps false e is later here h = here h

pub whole_from : (file : List ℕ) (size k : ℕ) (ps : List PacketView) → AllByRecursion (IsOfFile file size) ps → ends_short size (standing size (k + 1) ps) ≡ true
    → from file size k ≡ concat (standing size (k + 1) ps)
whole_from file size k [] all h = absurd cc
whole_from file size k (Data j b ∷ ps) (is, all) h =
    data_whole file size k j b ps ((j == k + 1) && is_block size j b) refl is (whole_from file size (k + 1) ps all) (whole_from file size k ps all) h
whole_from file size k (Error code m ∷ ps) (is, all) h = absurd cc
whole_from file size k (Ack j ∷ ps) (is, all) h = whole_from file size k ps all h
whole_from file size k (Rrq name o ∷ ps) (is, all) h = whole_from file size k ps all h
whole_from file size k (Wrq name o ∷ ps) (is, all) h = whole_from file size k ps all h
whole_from file size k (Oack o ∷ ps) (is, all) h = whole_from file size k ps all h

all_of : (file : List ℕ) (size : ℕ) → from file size 0 ≡ file
all_of file size = let none : 0 * size ≡ 0 = omega arith in ap (λ (i : ℕ). drop i file) none

pub arrives_as_prefix : ArrivesAsPrefix
arrives_as_prefix file size packets bytes all so_far =
    let joined : concat (standing size 1 packets) ≡ bytes = sym (ap concat (only size 1 packets so_far.payloads so_far.stand)) ∙ so_far.joined in
    subst (λ (l : List ℕ). IsPrefixOf l file) joined (subst (λ (l : List ℕ). IsPrefixOf (concat (standing size 1 packets)) l) (all_of file size) (prefix_from file size 0 packets all))

pub arrives_whole : ArrivesWhole
arrives_whole file size packets bytes all whole =
    let same = only size 1 packets whole.payloads whole.stand in
    let joined : concat (standing size 1 packets) ≡ bytes = sym (ap concat same) ∙ whole.joined in
    sym (sym (all_of file size) ∙ whole_from file size 0 packets all (sym (ap (ends_short size) same) ∙ short_is size whole.payloads whole.short) ∙ joined)
