-- Requests to the loader.
use Rattle.std.proofs.Common.{◌≡◌, ℕ, List, [], ◌∷◌, Bool, true, false, Option, Some, None, refl, sym, subst, ◌∙◌, if◌then◌else◌}
use Rattle.exchange_trace.specs.declared.trace.Side.TheVariants as sides
use Rattle.exchange_trace.specs.Happenings.{DatagramView}
use Rattle.tftp_packet.specs.declared.options.Options.{Options}
use Rattle.transfer_end.specs.Calls.{Makes}
use Rattle.transfer_end.specs.Moves.{Move, Refuses, Serves}
use Rattle.transfer_end.specs.Transfers.{Role, ServesWrite}
use Rattle.transfer_end.specs.Views.{EndView}
use Rattle.session_rules.specs.declared.outcome.FileKind.{FileKind}
use Rattle.session_rules.specs.Loader.{LoaderSession, doing, nothing, read_decision, take_request, write_decision}
use Rattle.session_rules.specs.LoaderRows.{kind_taken, serves_files}
use Rattle.loader_machine.specs.Machine.{LoaderDoes, LoaderState, LoaderServes, awaits_file, media_of, reading, with_end}
use Rattle.loader_machine.proofs.Following.{does_so}

-- ---- a request is taken

pub serves : (st mid now : LoaderState) (end : EndView) (from : ℕ) (role : Role) (sent : List DatagramView) (taken : Bool) → st ≡ mid → LoaderServes taken from now mid → taken ≡ true
    → Makes sides.Loader (Serves from role ∷ []) st.view.end end sent → LoaderDoes (take_request now.view.end from role) now (with_end st end) sent
serves st mid now end from role sent true same taking is makes =
    let (kept, fresh, port) = taking in
    rw (fresh, port) (does_so st now (Serves from role ∷ []) end sent (same ∙ kept) makes)
serves st mid now end from role sent false same taking is makes = absurd cc

pub not_taken : (now mid : LoaderState) (from : ℕ) (role : Role) (taken : Bool) (sent : List DatagramView) → LoaderServes taken from now mid → taken ≡ false → sent ≡ [] → LoaderDoes (take_request now.view.end from role) now mid sent
not_taken now mid from role true sent taking is p = absurd cc
not_taken now mid from role false sent taking is p = rw p (taking role)

-- ---- to read

module _ (now after : LoaderState) (s : LoaderSession) (from : ℕ) (name : List ℕ) (options : Options) (sent : List DatagramView) where
  pub reads : (file : Option (List ℕ)) → serves_files s.row ≡ true → (media_of now.set).file name ≡ file → LoaderDoes (read_decision now.view.end from name options file) now after sent
      → LoaderDoes (reading (media_of now.set) now.view.end s from name options) now after sent
  reads file serving is does = rw (serving, is) does

pub refuses : (st now : LoaderState) (from : ℕ) (sent : List DatagramView) → st ≡ now → Makes sides.Loader (Refuses from ∷ []) st.view.end st.view.end sent → LoaderDoes (doing (Refuses from ∷ [])) now now sent
refuses st now from sent same makes = subst (λ x. LoaderDoes (doing (Refuses from ∷ [])) now x sent) same (does_so st now (Refuses from ∷ []) st.view.end sent same makes)

-- ---- to write

writes_by : (v : EndView) (s : LoaderSession) (from : ℕ) (name : List ℕ) (options : Options) → write_decision v s.start from name options (kind_taken s.row) ≡ (if awaits_file s name then take_request v from (ServesWrite name options) else nothing)
writes_by v s from name options = by_kind (kind_taken s.row) refl
  where
    by_kind : (kind : Option FileKind) → kind_taken s.row ≡ kind → write_decision v s.start from name options kind ≡ (if awaits_file s name then take_request v from (ServesWrite name options) else nothing)
    by_kind None e = rw e refl
    by_kind (Some kind) e = rw e refl

pub writes : (now after : LoaderState) (s : LoaderSession) (from : ℕ) (name : List ℕ) (options : Options) (sent : List DatagramView) (awaits : Bool) → awaits ≡ awaits_file s name → awaits ≡ true
    → LoaderDoes (take_request now.view.end from (ServesWrite name options)) now after sent → LoaderDoes (write_decision now.view.end s.start from name options (kind_taken s.row)) now after sent
writes now after s from name options sent awaits e is does = rw (writes_by now.view.end s from name options, sym e, is) does

-- the same posts
pub makes_so : (moves : List Move) (before after : EndView) (posts sent : List DatagramView) → sent ≡ posts → Makes sides.Loader moves before after posts → Makes sides.Loader moves before after sent
makes_so moves before after posts sent p makes = rw p makes
