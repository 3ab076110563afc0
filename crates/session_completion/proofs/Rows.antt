-- What both ends keep of a row, and what they ask for in it.
use Rattle.std.proofs.Common.{◌≡◌, ℕ, Bool, true, false, List, [], ◌∷◌, ◌++◌, Option, Some, None, refl, sym, ap, ◌∙◌}
use Rattle.std.specs.Prelude.{bytes_eq}
use Rattle.std.proofs.lemmas.Slice.Eq.{bytes_eq-Decides}
use Rattle.disk_layout.specs.Holds.{Outline, outline_of}
use Rattle.load_protocol_files.specs.declared.lur.Wanted.{Wanted}
use Rattle.exchange_trace.specs.declared.trace.Side.TheVariants as sides
use Rattle.session_rules.specs.declared.outcome.FileKind.{FileKind}
use Rattle.session_rules.specs.declared.outcome.FileKind.TheVariants.{Lci, Lui}
use Rattle.session_rules.specs.Buffers.{Buffer, Sums}
use Rattle.session_rules.proofs.BufferLemmas.{SumsJoin, buffered_on, summed_on}
use Rattle.session_rules.specs.FileNames.{extension, file_name}
use Rattle.session_rules.specs.Loader.{LoaderSession}
use Rattle.session_rules.specs.Loader as loader
use Rattle.session_rules.specs.Target as target
use Rattle.session_rules.specs.Target.{TargetSession, TargetView, active_in}
use Rattle.session_rules.specs.TargetRows.{Arriving, Kept_bytes, Kept_sums, RowView, Gives_lci, Writes_lcs, Writes_lcl, Gives_lui, Gives_denial, Writes_ready, Awaits_lur, Reads_file, Writes_progress, Writes_stop, Writes_completion, Over, arriving_load, arriving_of, row_move, said_length, view_moved, with_bytes}
use Rattle.session_rules.specs.Uploads.{OpenLoadView, next_entry}
use Rattle.replay_rules.specs.BothEnds.{Setting}
use Rattle.session_completion.specs.Course.{IsLater, IsSum, IsSummed, LoaderReadsOn, arrives_in, asker, file_in, next_row, role_in}
use Rattle.session_completion.specs.Stages.{loader_session, target_session}

-- ---- names

same_left : (xs ys zs : List ℕ) → xs ++ ys ≡ xs ++ zs → ys ≡ zs
same_left [] ys zs e = e
same_left (x ∷ xs) ys zs e = same_left xs ys zs cc

name_ends : (hw pos : List ℕ) (kind : FileKind) → file_name hw pos kind ≡ (hw ++ 95 ∷ pos) ++ extension kind
unfolding file_name
name_ends hw pos kind = refl

not_lci : extension Lui ≡ extension Lci → ⊥
not_lci e = differ (ap (λ (x : List ℕ). bytes_eq x (extension Lui)) e)
  where
    differ : true ≡ false → ⊥
    differ f = absurd cc

names_apart : (hw pos : List ℕ) → file_name hw pos Lui ≡ file_name hw pos Lci → ⊥
names_apart hw pos e = not_lci (same_left (hw ++ 95 ∷ pos) (extension Lui) (extension Lci) (sym (name_ends hw pos Lui) ∙ e ∙ name_ends hw pos Lci))

is_false : (b : Bool) → (b ≡ true → ⊥) → b ≡ false
is_false true never = absurd (never refl)
is_false false never = refl

pub lui_is_not_lci : (hw pos : List ℕ) → bytes_eq (file_name hw pos Lui) (file_name hw pos Lci) ≡ false
lui_is_not_lci hw pos = is_false (bytes_eq (file_name hw pos Lui) (file_name hw pos Lci)) (λ e. names_apart hw pos ((bytes_eq-Decides (file_name hw pos Lui) (file_name hw pos Lci)).0 e))

-- ---- what is active

pub active_identity : (o : Outline) (row : RowView) → (active_in o row).identity ≡ o.identity
active_identity o Gives_lci = refl
active_identity o Writes_lcs = refl
active_identity o Writes_lcl = refl
active_identity o Gives_lui = refl
active_identity o Gives_denial = refl
active_identity o Writes_ready = refl
active_identity o Awaits_lur = refl
active_identity o (Reads_file u) = refl
active_identity o (Writes_progress u) = refl
active_identity o (Writes_stop e) = refl
active_identity o (Writes_completion e loads) = refl
active_identity o Over = refl

-- before the installation it is what it was
pub active_stays : (o : Outline) (row : RowView) (file : List ℕ) → LoaderReadsOn row file → active_in o row ≡ o
active_stays o Gives_lci file h = refl
active_stays o Writes_lcs file h = refl
active_stays o Writes_lcl file h = refl
active_stays o Gives_lui file h = refl
active_stays o Gives_denial file h = refl
active_stays o Writes_ready file h = refl
active_stays o Awaits_lur file h = refl
active_stays o (Reads_file u) file h = refl
active_stays o (Writes_progress u) file h = refl
active_stays o (Writes_stop e) file h = refl
active_stays o (Writes_completion e loads) file h = absurd h
active_stays o Over file h = refl

-- ---- what arrives

load_more : SumsJoin → (l : Option OpenLoadView) (first rest : List ℕ) → IsSum l → with_bytes (arriving_load l first) rest ≡ arriving_load l (first ++ rest)
load_more joins None first rest h = ap (λ (b : Buffer). Kept_bytes b) (buffered_on first rest)
load_more joins (Some l) first rest (covered, e) =
    rw e (ap (λ (s : Sums). Kept_sums s) (summed_on joins (said_length (next_entry l)) covered first rest))

pub arriving_more : SumsJoin → (row : RowView) (first rest : List ℕ) → IsSummed row → with_bytes (arriving_of row first) rest ≡ arriving_of row (first ++ rest)
arriving_more joins Gives_lci first rest h = ap (λ (b : Buffer). Kept_bytes b) (buffered_on first rest)
arriving_more joins Writes_lcs first rest h = ap (λ (b : Buffer). Kept_bytes b) (buffered_on first rest)
arriving_more joins Writes_lcl first rest h = ap (λ (b : Buffer). Kept_bytes b) (buffered_on first rest)
arriving_more joins Gives_lui first rest h = ap (λ (b : Buffer). Kept_bytes b) (buffered_on first rest)
arriving_more joins Gives_denial first rest h = ap (λ (b : Buffer). Kept_bytes b) (buffered_on first rest)
arriving_more joins Writes_ready first rest h = ap (λ (b : Buffer). Kept_bytes b) (buffered_on first rest)
arriving_more joins Awaits_lur first rest h = ap (λ (b : Buffer). Kept_bytes b) (buffered_on first rest)
arriving_more joins (Reads_file u) first rest h = load_more joins u.current first rest h
arriving_more joins (Writes_progress u) first rest h = ap (λ (b : Buffer). Kept_bytes b) (buffered_on first rest)
arriving_more joins (Writes_stop e) first rest h = ap (λ (b : Buffer). Kept_bytes b) (buffered_on first rest)
arriving_more joins (Writes_completion e loads) first rest h = ap (λ (b : Buffer). Kept_bytes b) (buffered_on first rest)
arriving_more joins Over first rest h = ap (λ (b : Buffer). Kept_bytes b) (buffered_on first rest)

pub loader_goes_on : (set : Setting) (wanted : List Wanted) (row : RowView) (first rest : List ℕ) (live : Option LoaderSession) → live ≡ Some (loader_session set wanted row first)
    → loader.continued live rest ≡ Some (loader_session set wanted row (first ++ rest))
loader_goes_on set wanted row first rest live e =
    ap (λ (l : Option LoaderSession). loader.continued l rest) e
    ∙ ap (λ (b : Buffer). let s : LoaderSession = record { start = (loader_session set wanted row first).start; row = (loader_session set wanted row first).row; arriving = b } in Some s) (buffered_on first rest)

pub target_goes_on : SumsJoin → (row : RowView) (first rest : List ℕ) (live : Option TargetSession) → IsSummed row → live ≡ Some (target_session row first) → target.continued live rest ≡ Some (target_session row (first ++ rest))
target_goes_on joins row first rest live summed e =
    ap (λ (l : Option TargetSession). target.continued l rest) e ∙ ap (λ (a : Arriving). let s : TargetSession = record { row = row; arriving = a } in Some s) (arriving_more joins row first rest summed)

-- ---- the row that the target turns to

-- where this arrived of the file, and this is the last of it
pub turns_to : SumsJoin → (set : Setting) (wanted : List Wanted) (row : RowView) (first more : List ℕ) (active : Outline) → IsSummed row → active ≡ outline_of set.start → first ++ more ≡ arrives_in row (file_in set wanted row)
    → view_moved row (with_bytes (arriving_of row first) more) (row_move set.accepts active row (record { error = None; arriving = with_bytes (arriving_of row first) more })) ≡ next_row set wanted row
turns_to joins set wanted row first more active summed same whole =
    let e : with_bytes (arriving_of row first) more ≡ arriving_of row (arrives_in row (file_in set wanted row)) = arriving_more joins row first more summed ∙ ap (λ (x : List ℕ). arriving_of row x) whole in
    ap (λ (a : Arriving). view_moved row a (row_move set.accepts active row (record { error = None; arriving = a }))) e
    ∙ ap (λ (o : Outline). view_moved row (arriving_of row (arrives_in row (file_in set wanted row))) (row_move set.accepts o row (record { error = None; arriving = arriving_of row (arrives_in row (file_in set wanted row)) }))) same

-- ---- what the target asks for

pub target_asks : (set : Setting) (wanted : List Wanted) (v : TargetView) (row : RowView) → v.active.identity ≡ set.start.identity → IsLater row → asker row ≡ sides.Target
    → target.row_request v row ≡ Some (role_in set wanted row v.end.asks_size)
target_asks set wanted v Writes_ready same later turn = rw same refl
target_asks set wanted v (Reads_file u) same later turn = refl
target_asks set wanted v (Writes_progress u) same later turn = rw same refl
target_asks set wanted v (Writes_completion e loads) same later turn = rw same refl
target_asks set wanted v Awaits_lur same later turn = absurd cc
target_asks set wanted v Gives_lui same later turn = absurd later
target_asks set wanted v Gives_lci same later turn = absurd later
target_asks set wanted v Writes_lcs same later turn = absurd later
target_asks set wanted v Writes_lcl same later turn = absurd later
target_asks set wanted v Gives_denial same later turn = absurd later
target_asks set wanted v (Writes_stop e) same later turn = absurd later
target_asks set wanted v Over same later turn = absurd later
