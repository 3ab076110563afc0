-- What a file says by which a session is denied or stopped.
use Rattle.std.proofs.Common.{◌≡◌, ◌⊎◌, inl, inr, ℕ, ◌≤◌, Bool, true, false, cond, List, [], ◌∷◌, ◌++◌, length, Result, Ok, Err, refl, sym, ap, subst, ◌∙◌, append-nil, arith}
use Rattle.std.specs.Prelude.{drop, take, ◌==◌}
use Rattle.std.specs.List.{concat}
use Rattle.std.proofs.lemmas.Bool.{eqb-true}
use Rattle.field_grammar.specs.Answers.{answer}
use Rattle.field_grammar.specs.Fields.{number_bytes, number_in}
use Rattle.field_grammar.specs.Grammar.{IsBytes}
use Rattle.field_grammar.proofs.NumberLemmas.{wide1}
use Rattle.load_base.specs.Text.{IsText}
use Rattle.load_protocol_files.specs.declared.fault.FileFault.{FileFault}
use Rattle.load_protocol_files.specs.declared.lci.Lci.{Lci}
use Rattle.load_protocol_files.specs.declared.lcs.Lcs.{Lcs}
use Rattle.load_protocol_files.specs.declared.lui.Lui.{Lui}
use Rattle.load_protocol_files.specs.Files.{IsExact, file_fields}
use Rattle.load_protocol_files.specs.Lci.{LciSpells, lci}
use Rattle.load_protocol_files.specs.Lcl.{LclSpells, LclView, lcl}
use Rattle.load_protocol_files.specs.Lcs.{LcsSpells, lcs}
use Rattle.load_protocol_files.specs.Lui.{LuiSpells, lui}
use Rattle.load_protocol_files.specs.Lus.{LusSpells, LusView, counts_fields, lus}
use Rattle.session_rules.specs.declared.outcome.FileKind.{FileKind}
use Rattle.session_rules.specs.declared.outcome.FileKind.TheVariants as kinds
use Rattle.session_rules.specs.declared.outcome.Outcome.{Outcome}
use Rattle.session_rules.specs.declared.outcome.Outcome.TheVariants.{BadFile, Denied, TargetStopped}
use Rattle.session_rules.specs.declared.reason.Reason.{Reason}
use Rattle.session_rules.specs.declared.reason.Reason.TheVariants.{SequenceSpent}
use Rattle.session_rules.specs.Buffers.{Buffer, buffer_size, is_too_long}
use Rattle.session_rules.specs.LoaderRows.{Comes_to, LoaderRow, Reads_lci, Reads_lui, Serves_files, Takes_lcl, Takes_lcs, Takes_lus, RowTurn, Writes_lur, bad_file, bytes_turn, file_turn, first_lus_turn, kind_received, later_lus_turn, lci_turn, lcl_turn, lcs_turn, lui_turn}
use Rattle.session_rules.specs.Reports.{accepted, completed, denied, denying_lui, in_progress, reason_text, stopped, stopped_lus}
use Rattle.session_rules.proofs.SoundnessLemmas.{read_is_spelled}
use Rattle.replay_rules.proofs.TargetFiles.{IsDenial, IsLcsStop, IsStop, stopped_rest}
use Rattle.load_protocol_files.specs.declared.lur.Wanted.{Wanted}

-- ---- turns

abbrev pub ComesAs : Type 0 → Outcome → RowTurn → Type 0
ComesAs A outcome turn = turn ≡ Comes_to outcome → A

pub as_if : (A : Type 0) (outcome : Outcome) (b : Bool) (x y : RowTurn) → (b ≡ true → ComesAs A outcome x) → ComesAs A outcome y → ComesAs A outcome (cond b x y)
as_if A outcome true x y p q = p refl
as_if A outcome false x y p q = q

-- an outcome that is no bad file comes from bytes that aren't too long
pub not_too_long : (row : LoaderRow) (b : Buffer) (outcome : Outcome) → ((kind : FileKind) (offset : ℕ) → BadFile kind offset ≡ outcome → ⊥) → file_turn row b ≡ Comes_to outcome → (is_too_long b ≡ false) × (bytes_turn row b.prefix ≡ Comes_to outcome)
unfolding file_turn
not_too_long row b outcome none e = by (is_too_long b) refl e
  where
    by : (long : Bool) → is_too_long b ≡ long → cond long (bad_file (kind_received row) buffer_size) (bytes_turn row b.prefix) ≡ Comes_to outcome → (is_too_long b ≡ false) × (bytes_turn row b.prefix ≡ Comes_to outcome)
    by true is e = absurd (none (kind_received row) buffer_size (let same : BadFile (kind_received row) buffer_size ≡ outcome = cc in same))
    by false is e = (is, e)

-- ---- denied

-- the bytes are read so, as an LCI or as an LUI
pub ReadsDenied : List ℕ → List ℕ → Type 0
ReadsDenied bytes text = ((v : Lci) × (answer lci bytes ≡ Ok v) × (v.status ≡ denied) × (v.description ≡ text)) ⊎ ((v : Lui) × (answer lui bytes ≡ Ok v) × (v.status ≡ denied) × (v.description ≡ text))

denied_text : (one two : List ℕ) → Comes_to (Denied one) ≡ Comes_to (Denied two) → one ≡ two
denied_text one two e = cc

stopped_text : (one two : List ℕ) → Comes_to (TargetStopped one) ≡ Comes_to (TargetStopped two) → one ≡ two
stopped_text one two e = cc

module _ (bytes text : List ℕ) where
  lci_denied : (found : Result Lci FileFault) → answer lci bytes ≡ found → ComesAs (ReadsDenied bytes text) (Denied text) (lci_turn found)
  unfolding ReadsDenied
  lci_denied (Ok v) is =
      as_if _ (Denied text) (v.status == accepted) _ _ (λ b e. absurd cc)
      (as_if _ (Denied text) (v.status == denied) _ _ (λ b e. inl (v, is, eqb-true v.status denied b, denied_text v.description text e)) (λ e. absurd cc))
  lci_denied (Err fault) is = λ e. absurd cc

  lui_denied : (found : Result Lui FileFault) → answer lui bytes ≡ found → ComesAs (ReadsDenied bytes text) (Denied text) (lui_turn found)
  unfolding ReadsDenied
  lui_denied (Ok v) is =
      as_if _ (Denied text) (v.status == accepted) _ _ (λ b e. absurd cc)
      (as_if _ (Denied text) (v.status == denied) _ _ (λ b e. inr (v, is, eqb-true v.status denied b, denied_text v.description text e)) (λ e. absurd cc))
  lui_denied (Err fault) is = λ e. absurd cc

  lcs_denied : (A : Type 0) (found : Result Lcs FileFault) → ComesAs A (Denied text) (lcs_turn found)
  lcs_denied A (Ok v) = as_if A (Denied text) (v.status == in_progress) _ _ (λ b e. absurd cc) (as_if A (Denied text) (v.status == stopped) _ _ (λ b e. absurd cc) (λ e. absurd cc))
  lcs_denied A (Err fault) = λ e. absurd cc

  lcl_denied : (A : Type 0) (found : Result LclView FileFault) → ComesAs A (Denied text) (lcl_turn found)
  lcl_denied A (Ok v) = λ e. absurd cc
  lcl_denied A (Err fault) = λ e. absurd cc

  first_lus_denied : (A : Type 0) (found : Result LusView FileFault) → ComesAs A (Denied text) (first_lus_turn found)
  first_lus_denied A (Ok v) = as_if A (Denied text) (v.status == accepted) _ _ (λ b e. absurd cc) (as_if A (Denied text) (v.status == stopped) _ _ (λ b e. absurd cc) (λ e. absurd cc))
  first_lus_denied A (Err fault) = λ e. absurd cc

  later_lus_denied : (A : Type 0) (found : Result LusView FileFault) → ComesAs A (Denied text) (later_lus_turn found)
  later_lus_denied A (Ok v) =
      as_if A (Denied text) (v.status == completed) _ _ (λ b e. absurd cc)
      (as_if A (Denied text) (v.status == in_progress) _ _ (λ b e. absurd cc) (as_if A (Denied text) (v.status == stopped) _ _ (λ b e. absurd cc) (λ e. absurd cc)))
  later_lus_denied A (Err fault) = λ e. absurd cc

  pub row_denied : (row : LoaderRow) → bytes_turn row bytes ≡ Comes_to (Denied text) → ReadsDenied bytes text
  row_denied Reads_lci e = lci_denied (answer lci bytes) refl e
  row_denied Reads_lui e = lui_denied (answer lui bytes) refl e
  row_denied Takes_lcs e = lcs_denied _ (answer lcs bytes) e
  row_denied Takes_lcl e = lcl_denied _ (answer lcl bytes) e
  row_denied Takes_lus e = first_lus_denied _ (answer lus bytes) e
  row_denied Serves_files e = later_lus_denied _ (answer lus bytes) e
  row_denied Writes_lur e = absurd cc

-- ---- stopped

pub ReadsStopped : List ℕ → List ℕ → Type 0
ReadsStopped bytes text = ((v : Lcs) × (answer lcs bytes ≡ Ok v) × (v.status ≡ stopped)) ⊎ ((v : LusView) × (answer lus bytes ≡ Ok v) × (v.status ≡ stopped) × (v.description ≡ text))

module _ (bytes text : List ℕ) where
  lci_stopped : (A : Type 0) (found : Result Lci FileFault) → ComesAs A (TargetStopped text) (lci_turn found)
  lci_stopped A (Ok v) = as_if A (TargetStopped text) (v.status == accepted) _ _ (λ b e. absurd cc) (as_if A (TargetStopped text) (v.status == denied) _ _ (λ b e. absurd cc) (λ e. absurd cc))
  lci_stopped A (Err fault) = λ e. absurd cc

  lui_stopped : (A : Type 0) (found : Result Lui FileFault) → ComesAs A (TargetStopped text) (lui_turn found)
  lui_stopped A (Ok v) = as_if A (TargetStopped text) (v.status == accepted) _ _ (λ b e. absurd cc) (as_if A (TargetStopped text) (v.status == denied) _ _ (λ b e. absurd cc) (λ e. absurd cc))
  lui_stopped A (Err fault) = λ e. absurd cc

  lcl_stopped : (A : Type 0) (found : Result LclView FileFault) → ComesAs A (TargetStopped text) (lcl_turn found)
  lcl_stopped A (Ok v) = λ e. absurd cc
  lcl_stopped A (Err fault) = λ e. absurd cc

  lcs_stopped : (found : Result Lcs FileFault) → answer lcs bytes ≡ found → ComesAs (ReadsStopped bytes text) (TargetStopped text) (lcs_turn found)
  unfolding ReadsStopped
  lcs_stopped (Ok v) is =
      as_if _ (TargetStopped text) (v.status == in_progress) _ _ (λ b e. absurd cc)
      (as_if _ (TargetStopped text) (v.status == stopped) _ _ (λ b e. inl (v, is, eqb-true v.status stopped b)) (λ e. absurd cc))
  lcs_stopped (Err fault) is = λ e. absurd cc

  lus_stopped : (v : LusView) → answer lus bytes ≡ Ok v → (offset : ℕ) → ComesAs (ReadsStopped bytes text) (TargetStopped text) (cond (v.status == stopped) (Comes_to (TargetStopped v.description)) (bad_file kinds.Lus offset))
  unfolding ReadsStopped
  lus_stopped v is offset = as_if _ (TargetStopped text) (v.status == stopped) _ _ (λ b e. inr (v, is, eqb-true v.status stopped b, stopped_text v.description text e)) (λ e. absurd cc)

  first_lus_stopped : (found : Result LusView FileFault) → answer lus bytes ≡ found → ComesAs (ReadsStopped bytes text) (TargetStopped text) (first_lus_turn found)
  first_lus_stopped (Ok v) is = as_if _ (TargetStopped text) (v.status == accepted) _ _ (λ b e. absurd cc) (lus_stopped v is 6)
  first_lus_stopped (Err fault) is = λ e. absurd cc

  later_lus_stopped : (found : Result LusView FileFault) → answer lus bytes ≡ found → ComesAs (ReadsStopped bytes text) (TargetStopped text) (later_lus_turn found)
  later_lus_stopped (Ok v) is =
      as_if _ (TargetStopped text) (v.status == completed) _ _ (λ b e. absurd cc) (as_if _ (TargetStopped text) (v.status == in_progress) _ _ (λ b e. absurd cc) (lus_stopped v is 6))
  later_lus_stopped (Err fault) is = λ e. absurd cc

  pub row_stopped : (row : LoaderRow) → bytes_turn row bytes ≡ Comes_to (TargetStopped text) → ReadsStopped bytes text
  row_stopped Takes_lcs e = lcs_stopped (answer lcs bytes) refl e
  row_stopped Takes_lus e = first_lus_stopped (answer lus bytes) refl e
  row_stopped Serves_files e = later_lus_stopped (answer lus bytes) refl e
  row_stopped Reads_lci e = lci_stopped _ (answer lci bytes) e
  row_stopped Reads_lui e = lui_stopped _ (answer lui bytes) e
  row_stopped Takes_lcl e = lcl_stopped _ (answer lcl bytes) e
  row_stopped Writes_lur e = absurd cc

-- ---- the rows in which a session is stopped

-- the bytes are read so, as an LCS
pub record ReadsStoppedLcs (bytes : List ℕ) : Type 0 where
  pub v : Lcs
  pub read : answer lcs bytes ≡ Ok v
  pub status : v.status ≡ stopped

abbrev pub IsStoppedIn : List ℕ → LoaderRow → Type 0
IsStoppedIn bytes Takes_lus = Unit {0}
IsStoppedIn bytes Serves_files = Unit {0}
IsStoppedIn bytes Takes_lcs = ReadsStoppedLcs bytes
IsStoppedIn bytes row = ⊥

module _ (bytes text : List ℕ) where
  lcs_read : (found : Result Lcs FileFault) → answer lcs bytes ≡ found → ComesAs (ReadsStoppedLcs bytes) (TargetStopped text) (lcs_turn found)
  lcs_read (Ok v) is =
      as_if _ (TargetStopped text) (v.status == in_progress) _ _ (λ b e. absurd cc)
      (as_if _ (TargetStopped text) (v.status == stopped) _ _ (λ b e. record { v = v; read = is; status = eqb-true v.status stopped b }) (λ e. absurd cc))
  lcs_read (Err fault) is = λ e. absurd cc

  pub stopped_in : (row : LoaderRow) → bytes_turn row bytes ≡ Comes_to (TargetStopped text) → IsStoppedIn bytes row
  stopped_in Takes_lus e = tt
  stopped_in Serves_files e = tt
  stopped_in Takes_lcs e = lcs_read (answer lcs bytes) refl e
  stopped_in Reads_lci e = lci_stopped bytes text _ (answer lci bytes) e
  stopped_in Reads_lui e = lui_stopped bytes text _ (answer lui bytes) e
  stopped_in Takes_lcl e = lcl_stopped bytes text _ (answer lcl bytes) e
  stopped_in Writes_lur e = absurd cc

-- ---- what is read is spelled (`protocol_file_laws` of load_protocol_files)

pub record FileLaws : Type 0 where
  pub lci_exact : IsExact lci LciSpells
  pub lcl_exact : IsExact lcl LclSpells
  pub lcs_exact : IsExact lcs LcsSpells
  pub lui_exact : IsExact lui LuiSpells
  pub lus_exact : IsExact lus LusSpells

-- a short text after 8 bytes
abbrev pub Describes : List ℕ → List ℕ → List ℕ → Type 0
Describes bytes text rest = drop 8 bytes ≡ number_bytes 1 (length text) ++ (text ++ rest)

module _ (laws : FileLaws) (bytes : List ℕ) (fit : IsBytes bytes) where
  lci_spelled : (v : Lci) → answer lci bytes ≡ Ok v → LciSpells v bytes
  lci_spelled v e = (laws.lci_exact.spelled bytes v).0 (read_is_spelled lci bytes v (laws.lci_exact.decided bytes fit).one_or_other e)

  lcs_spelled : (v : Lcs) → answer lcs bytes ≡ Ok v → LcsSpells v bytes
  lcs_spelled v e = (laws.lcs_exact.spelled bytes v).0 (read_is_spelled lcs bytes v (laws.lcs_exact.decided bytes fit).one_or_other e)

  lui_spelled : (v : Lui) → answer lui bytes ≡ Ok v → LuiSpells v bytes
  lui_spelled v e = (laws.lui_exact.spelled bytes v).0 (read_is_spelled lui bytes v (laws.lui_exact.decided bytes fit).one_or_other e)

  lus_spelled : (v : LusView) → answer lus bytes ≡ Ok v → LusSpells v bytes
  lus_spelled v e = (laws.lus_exact.spelled bytes v).0 (read_is_spelled lus bytes v (laws.lus_exact.decided bytes fit).one_or_other e)

  lci_status_is : (v : Lci) → LciSpells v bytes → v.status ≡ denied → IsDenial bytes
  unfolding number_bytes
  lci_status_is v spells is = ap (λ (x : List ℕ). take 2 (drop 6 x)) spells.1.written ∙ ap (λ (n : ℕ). number_bytes 2 n) is

  lui_status_is : (v : Lui) → LuiSpells v bytes → v.status ≡ denied → IsDenial bytes
  unfolding number_bytes
  lui_status_is v spells is = ap (λ (x : List ℕ). take 2 (drop 6 x)) spells.1.written ∙ ap (λ (n : ℕ). number_bytes 2 n) is

  lus_status_is : (v : LusView) → LusSpells v bytes → v.status ≡ stopped → IsStop bytes
  unfolding number_bytes
  lus_status_is v spells is = ap (λ (x : List ℕ). take 2 (drop 6 x)) spells.1.written ∙ ap (λ (n : ℕ). number_bytes 2 n) is

  lcs_status_is : (v : Lcs) → LcsSpells v bytes → v.status ≡ stopped → IsLcsStop bytes
  unfolding number_bytes
  lcs_status_is v spells is = ap (λ (x : List ℕ). take 2 (drop 8 x)) spells.1.written ∙ ap (λ (n : ℕ). number_bytes 2 n) is

  lci_describes : (v : Lci) → LciSpells v bytes → Describes bytes v.description []
  unfolding number_bytes
  lci_describes v spells = ap (λ (x : List ℕ). drop 8 x) spells.1.written

  lui_describes : (v : Lui) → LuiSpells v bytes → Describes bytes v.description []
  unfolding number_bytes
  lui_describes v spells = ap (λ (x : List ℕ). drop 8 x) spells.1.written

  lus_describes : (v : LusView) → LusSpells v bytes → (rest : List ℕ) × Describes bytes v.description rest
  unfolding number_bytes
  lus_describes v spells = (concat (counts_fields v), ap (λ (x : List ℕ). drop 8 x) spells.1.written)

  -- what denies a session
  pub denial : (text : List ℕ) → ReadsDenied bytes text → IsDenial bytes × Describes bytes text []
  unfolding ReadsDenied
  denial text (inl (v, read, status, is)) = let s = lci_spelled v read in (lci_status_is v s status, subst (λ (x : List ℕ). Describes bytes x []) is (lci_describes v s))
  denial text (inr (v, read, status, is)) = let s = lui_spelled v read in (lui_status_is v s status, subst (λ (x : List ℕ). Describes bytes x []) is (lui_describes v s))

  pub lcs_stop : ReadsStoppedLcs bytes → IsLcsStop bytes
  lcs_stop h = lcs_status_is h.v (lcs_spelled h.v h.read) h.status

  -- what stops one
  pub stop : (text : List ℕ) → ReadsStopped bytes text → IsLcsStop bytes ⊎ (IsStop bytes × IsText text × ((rest : List ℕ) × Describes bytes text rest))
  unfolding ReadsStopped
  stop text (inl (v, read, status)) = inl (lcs_status_is v (lcs_spelled v read) status)
  stop text (inr (v, read, status, is)) =
      let s = lus_spelled v read in
      let (rest, says) = lus_describes v s in
      inr (lus_status_is v s status, subst IsText is s.0.description, (rest, subst (λ (x : List ℕ). Describes bytes x rest) is says))

-- ---- texts

-- the text of a denial
pub denial_text : (text : List ℕ) → Describes denying_lui text [] → text ≡ reason_text SequenceSpent
unfolding denying_lui file_fields number_bytes
denial_text text says = let tail : 65 ∷ 49 ∷ 48 ∷ [] ≡ text ++ [] = cc in sym (append-nil text) ∙ sym tail

heads : (a b : ℕ) (xs ys : List ℕ) → a ∷ xs ≡ b ∷ ys → (a ≡ b) × (xs ≡ ys)
heads a b xs ys e = (cc, cc)

-- of two lists that begin others of the same length is one the other
same_front : (a b x y : List ℕ) → length a ≡ length b → a ++ x ≡ b ++ y → a ≡ b
same_front [] [] x y size e = refl
same_front [] (d ∷ b) x y size e = absurd (omega (arith, size))
same_front (c ∷ a) [] x y size e = absurd (omega (arith, size))
same_front (c ∷ a) (d ∷ b) x y size e =
    let (first, rest) = heads c d (a ++ x) (b ++ y) e in
    let less : length a ≡ length b = omega (arith, size) in
    ap (λ (h : ℕ). h ∷ a) first ∙ ap (λ (t : List ℕ). d ∷ t) (same_front a b x y less rest)

first_number : (n m : ℕ) (x y : List ℕ) → number_bytes 1 n ++ x ≡ number_bytes 1 m ++ y → (number_bytes 1 n ≡ number_bytes 1 m) × (x ≡ y)
unfolding number_bytes
first_number n m x y e = let (first, rest) = heads _ _ x y e in (ap (λ (b : ℕ). b ∷ []) first, rest)

same_number : (n m : ℕ) → n ≤ 255 → m ≤ 255 → number_bytes 1 n ≡ number_bytes 1 m → n ≡ m
same_number n m low also e = sym (wide1.again n (omega (arith, low))) ∙ (ap (λ (b : List ℕ). number_in 1 b) e ∙ wide1.again m (omega (arith, also)))

same_text : (bytes one two rest more : List ℕ) → IsText one → IsText two → Describes bytes one rest → Describes bytes two more → one ≡ two
same_text bytes one two rest more fit also says tells =
    let (number, tail) = first_number (length one) (length two) (one ++ rest) (two ++ more) (sym says ∙ tells) in
    same_front one two rest more (same_number (length one) (length two) fit.size also.size number) tail

-- the text of a stop
pub stop_text : (loads : List Wanted) (arrived counter : ℕ) (reason : Reason) (text rest : List ℕ) → IsText text → Describes (stopped_lus loads arrived counter reason) text rest → IsText (reason_text reason) → text ≡ reason_text reason
stop_text loads arrived counter reason text rest fit says also =
    let (more, tells) = stopped_rest loads arrived counter reason in same_text (stopped_lus loads arrived counter reason) text (reason_text reason) rest more fit also says tells
