-- The start of the upload of a generated set, before `finish`.
use Rattle.std.proofs.Common.{◌≡◌, ◌⊎◌, inl, inr, ℕ, ◌≤◌, List, [], ◌∷◌, ◌++◌, length, Bool, true, false, cond, Option, Some, None, Result, Ok, Err, refl, sym, ap, subst, ◌∙◌, arith}
use Rattle.std.specs.List.{AllByRecursion}
use Rattle.load_base.specs.Config.{LoadView}
use Rattle.load_header.specs.Header.{HeaderView}
use Rattle.load_protocol_files.specs.declared.lur.Wanted.{Wanted}
use Rattle.disk_layout.specs.declared.identity.Identity.{Identity}
use Rattle.disk_layout.specs.Contents.{entries_of}
use Rattle.exchange_trace.specs.declared.trace.Side.TheVariants as sides
use Rattle.exchange_trace.specs.Happenings.{DatagramView, Upload_started}
use Rattle.exchange_trace.specs.Lines.{Line}
use Rattle.exchange_trace.specs.Steps.{Step}
use Rattle.accept_rules.specs.declared.kept.KeptLoad.{KeptLoad}
use Rattle.accept_rules.specs.Permissions.{Grants}
use Rattle.transfer_end.specs.Moves.{readings_after}
use Rattle.transfer_end.specs.Readings.{new_reading}
use Rattle.transfer_end.specs.Views.{end_view}
use Rattle.session_rules.specs.Loader.{LoaderDecision, listed_upload}
use Rattle.session_rules.specs.LoaderLog.{loader_reading_changed, new_loader_reading}
use Rattle.session_rules.specs.MediaFiles.{wanted_of}
use Rattle.session_rules.proofs.KeptLemmas.{kept_same}
use Rattle.session_rules.specs.KeptLoads.{has_other_type, kept_loads, told_loads, with_kept}
use Rattle.session_rules.specs.NewConfigs.{IsGoodLoad, kept_beside}
use Rattle.session_rules.specs.Uploads.{need_of}
use Rattle.replay_rules.specs.BothEnds.{Setting}
use Rattle.replay_rules.specs.FaultFree.{AreServed, IsFaultFree, IsGranted}
use Rattle.replay_rules.specs.Runs.{IsWithinMargin}
use Rattle.session_completion.specs.FinishedRuns.{FinishIsLeft}
use Rattle.run_promises.specs.Promises.{IsLeftToLastFinish}
use Rattle.generated_uploads.specs.GeneratedMedia.{AreGoodMedia, uploaded_load, generated_part, generated_request}
use Rattle.generated_uploads.specs.GeneratedUploads.{CanTakeGeneratedSet, GivesWay, trial_script}

-- a load that is good where the interlock may accept what it has to is good where it does
good_for : (A B : HeaderView → List KeptLoad → Type 0) (id : Identity) (kept : List KeptLoad) (load : LoadView) → ((h : HeaderView) → A h kept → B h kept) → IsGoodLoad A id kept load → IsGoodLoad B id kept load
good_for A B id kept load so is = record {
  header = is.header;
  bytes = is.bytes;
  files = is.files;
  spelled = is.spelled;
  part = is.part;
  type_id = is.type_id;
  suits = is.suits;
  accepted = so is.header is.accepted;
  permitted = is.permitted;
  whole = is.whole;
  each = is.each;
  crc = is.crc;
}

-- a start begins without ticks
abbrev decided : (hw pos : List ℕ) → Result (List Wanted) (List ℕ) → LoaderDecision
decided hw pos r = listed_upload (end_view (new_reading 1024)) hw pos r

no_ticks : (hw pos : List ℕ) (r : Result (List Wanted) (List ℕ))
    → (loader_reading_changed (readings_after sides.Loader (new_reading 1024) (decided hw pos r).moves) new_loader_reading (decided hw pos r).change).end.ticks ≤ 2
no_ticks hw pos (Ok loads) = omega arith
no_ticks hw pos (Err part) = omega arith

-- of loads without a type id, or with that of the generated one, none is kept beside it
stays_if : (stays : Bool) (l : LoadView) (ls : List LoadView) → stays ≡ false → kept_loads (1 ∷ []) ls ≡ [] → cond stays (l ∷ kept_loads (1 ∷ []) ls) (kept_loads (1 ∷ []) ls) ≡ []
stays_if true l ls e none = absurd cc
stays_if false l ls e none = none

gives_way : (said : Option ℕ) → (said ≡ None) ⊎ (said ≡ Some 1) → has_other_type (1 ∷ []) said ≡ false
gives_way said (inl is) = rw is refl
gives_way said (inr is) = rw is refl

none_kept : (loads : List LoadView) → AllByRecursion GivesWay loads → kept_loads (1 ∷ []) loads ≡ []
none_kept [] all = refl
none_kept (l ∷ ls) (one, all) = stays_if (has_other_type (1 ∷ []) l.type_id) l ls (gives_way l.type_id one) (none_kept ls all)

module _ (number : ℕ) (set : Setting) (good : AreGoodMedia number set.media) (granted : (h : HeaderView) (kept : List KeptLoad) → Grants h kept → set.accepts h kept ≡ true) (can : CanTakeGeneratedSet set.start) (posts : List DatagramView) where
  abbrev pub start : Step
  start = record { given = Upload_started set.start.identity.hw set.start.identity.pos (generated_part ∷ []); posts = posts; notes = [] }

  abbrev script : List Line
  script = trial_script set.start.identity

  none : kept_loads (1 ∷ []) set.start.loads ≡ []
  none = none_kept set.start.loads can.types

  none_told : kept_beside (entries_of set.start.loads) (uploaded_load number ∷ []) ≡ []
  none_told = ap told_loads (sym (kept_same (1 ∷ []) set.start.loads) ∙ ap (λ (ls : List LoadView). entries_of ls) none)

  pub alone : with_kept (uploaded_load number ∷ []) set.start.loads ≡ uploaded_load number ∷ []
  alone = ap (λ (ls : List LoadView). uploaded_load number ∷ ls) none

  pub served : AreServed set generated_request (uploaded_load number ∷ [])
  served = record {
    each = (record { part = refl; header = refl }, tt);
    good = (
      subst (λ (kept : List KeptLoad). IsGoodLoad (IsGranted set) set.start.identity kept (uploaded_load number)) (sym none_told)
          (good_for Grants (IsGranted set) set.start.identity [] (uploaded_load number) (λ h grants. (granted h [] grants, grants)) (good.good set.start.identity can.hardware)),
      tt,
    );
    media = good.files;
    few = subst (λ (ls : List LoadView). length ls ≤ 32) (sym alone) (omega arith);
    fit = subst (λ (ls : List LoadView). need_of (entries_of ls) ≤ set.start.identity.bank) (sym alone) (omega (arith, good.need, can.bank));
  }

  abbrev pub free : IsFaultFree set (start ∷ [])
  free = record {
    since = [];
    start = start;
    before = [];
    parts = generated_part ∷ [];
    wanted = generated_request;
    loads = uploaded_load number ∷ [];
    split = refl;
    injected = (tt, tt);
    starts = refl;
    some = omega arith;
    few = omega arith;
    on_media = good.on_media;
    quiet = record { delivered = refl; loader = refl; target = refl };
    smooth = tt;
    stays_up = refl;
    loader_ends = ([], refl, tt);
    target_ends = tt;
    served = served;
    loader_ports = omega arith;
    target_ready = (can.sequence, omega arith);
  }

  pub margin : IsWithinMargin set (start ∷ [])
  margin = record { loader = no_ticks set.start.identity.hw set.start.identity.pos (wanted_of set.media.loads (generated_part ∷ [])); target = omega arith }

  pub finish_left : FinishIsLeft set script (start ∷ [])
  finish_left = record { idle = []; lines = refl; over = refl; give_nothing = tt }

  abbrev pub left : (steps more : List Step) → steps ≡ more ++ start ∷ [] → IsLeftToLastFinish set script steps
  left steps more split = record { before = start ∷ []; more = more; split = split; free = free; margin = margin; left = finish_left }
