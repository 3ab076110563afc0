-- What `trial` prints, its status, and the cause of each (docs/PROMISES.md).
use Rattle.std.specs.Prelude.{◌≡◌, ℕ, List, Option, None, true}
use Rattle.std.specs.Option.{ForSome}
use Rattle.load_base.specs.Counts.{Rose}
use Rattle.disk_model.specs.State.{DiskState, OnlyReads}
use Rattle.disk_layout.specs.DiskReads.{IsOfDisk}
use Rattle.disk_layout.specs.Identity.{HasIdentity}
use Rattle.disk_layout.specs.declared.fault.RecoverFault.{RecoverFault}
use Rattle.disk_layout.specs.declared.identity.Identity.{Identity}
use Rattle.media_check.specs.Sets.{SetView}
use Rattle.generated_uploads.specs.GeneratedMedia.{IsGeneratedSet}
use Rattle.generated_uploads.specs.GeneratedUploads.{trial_script}
use Rattle.upload_replay.specs.Endings.{HeldNone}
use Rattle.loader_cli.specs.Replays.{RunSeen, RunsTo}
use Rattle.loader_cli.specs.Texts.{disk_fault, no_configuration}
use Rattle.loader_cli.specs.declared.replay.Telling.TheVariants.{Report}

-- The status, the text, the run that is handed out, and what they say of the disk.
pub data Trials (number : ℕ) (old new : DiskState) (handed : Option RunSeen) (status : ℕ) (text : List ℕ) : Type 0 where
  -- the script for the target that the disk names at first is run on the generated set
  tried : (id : Identity) (set : SetView) → ForSome old.reads (λ image. HasIdentity image id) → IsGeneratedSet number set
      → RunsTo Report set (trial_script id) old new handed status text → Trials number old new handed status text
  -- 5: the disk failed before its target was known, and nothing was written
  target_unread : OnlyReads old new → Rose old.faults new.faults → new.stopped ≡ true → handed ≡ None → status ≡ 5 → text ≡ disk_fault
      → Trials number old new handed status text
  -- 8: the disk holds no configuration, for this first fault, nothing was written, and it runs on
  no_target : (fault : RecoverFault) → ¬ IsOfDisk fault → HeldNone fault old new → handed ≡ None → status ≡ 8 → text ≡ no_configuration fault
      → Trials number old new handed status text
