-- How a run ends that runs a script of which nothing is refused.
use Rattle.std.proofs.Common.{◌≡◌, ◌⊎◌, inl, inr, ℕ, ◌+◌, true, List, [], ◌∷◌, ◌++◌, length, Option, Some, None, Result, Ok, Err, refl, sym, ap, subst, ◌∙◌, arith}
use Rattle.std.specs.Prelude.{is_some}
use Rattle.load_base.specs.Counts.{Rose}
use Rattle.load_base.specs.Host.{Files}
use Rattle.disk_model.specs.Image.{Image}
use Rattle.disk_model.specs.State.{DiskState}
use Rattle.disk_layout.specs.Holds.{HasDiskFault, HoldsConfig, StandingView}
use Rattle.disk_layout.specs.declared.fault.RecoverFault.{RecoverFault}
use Rattle.field_grammar.specs.Grammar.{Grammar}
use Rattle.exchange_trace.specs.Lines.{Line}
use Rattle.exchange_trace.specs.Scripts.{script_said}
use Rattle.exchange_trace.specs.declared.fault.ScriptFault.{ScriptFault}
use Rattle.media_lists.specs.Files.{files_list}
use Rattle.media_lists.specs.Loads.{loads_list}
use Rattle.media_lists.specs.declared.fault.ListFault.{ListFault}
use Rattle.media_check.specs.HostNames.{files_name, loads_name}
use Rattle.media_check.proofs.OpeningLemmas.{not_too_large, not_too_long}
use Rattle.media_check.specs.Openings.{IsFirstLong, IsShortOnHost}
use Rattle.media_check.specs.Sets.{SetView, found_in}
use Rattle.media_check.specs.declared.found.Found.{Found}
use Rattle.upload_replay.specs.Endings.{HeldNone, HoldsNone, HoldsSome}
use Rattle.replay_turns.specs.Powers.{RoseBy}
use Rattle.loader_cli.specs.Replays.{HasInputs, HasList, HasText, IsRead, LeavesFirstOrGood, RefusesInputs, RefusesList, RefusesText, Replays, RunSeen, RunsScript, RunsTo, StatusOfRun, rest_of, stops_of, told_as}
use Rattle.loader_cli.specs.Replays.RefusesInputs.{no_script, no_text}
use Rattle.loader_cli.specs.Replays.RefusesText.{files_refused, files_too_long, host_failed, large_set, loads_refused, loads_too_long, long_file, script_absent, script_too_long}
use Rattle.loader_cli.specs.Replays.RefusesList.{list_absent, list_faulty}
use Rattle.loader_cli.specs.Replays.Replays.{ran, unread}
use Rattle.loader_cli.specs.Replays.RunsTo.{disk_failed, ended, no_config, unknown}
use Rattle.loader_cli.specs.Runs.{ReplaysSound, Run, Says}
use Rattle.loader_cli.specs.declared.replay.Telling.{Telling}
use Rattle.loader_cli.proofs.Asked.{says_of_run}

-- ---- no input is refused

not_longer : (told : Files) (name file : List ℕ) → IsShortOnHost told name → IsFirstLong told (name ∷ []) file → ⊥
not_longer told name file short long = by long.before long.stands
  where
    by : (before : List (List ℕ)) → name ∷ [] ≡ before ++ file ∷ long.after → ⊥
    by [] stands = let same : name ≡ file = cc in let this : IsShortOnHost told file = subst (λ (f : List ℕ). IsShortOnHost told f) same short in absurd (omega (arith, this, long.long))
    by (x ∷ []) stands = absurd cc
    by (x ∷ y ∷ others) stands = absurd cc

module _ {V : Type 0} (format : Grammar ListFault V) (told : Files) (name : List ℕ) (has : HasList format (Some told) name) where
  list_refused : (fault : List ℕ) → RefusesList format (Some told) name fault → ⊥
  list_refused fault (list_absent none is) = subst (λ (f : Found V ListFault). IsRead f) (ap (found_in format) (none told refl)) (has told refl).1
  list_refused fault (list_faulty wrong refuses is) = subst (λ (f : Found V ListFault). IsRead f) (refuses told refl).1 (has told refl).1

  list_long : (file : List ℕ) → IsFirstLong told (name ∷ []) file → ⊥
  list_long file long = not_longer told name file (has told refl).0 long

some_of : {A : Type 0} {a b : A} → Some a ≡ Some b → a ≡ b
some_of same = cc

not_none : {A : Type 0} {a : A} → Some a ≡ None → ⊥
not_none same = absurd cc

not_both : {S : Type 0} (r : Result S ScriptFault) (script : S) (fault : ScriptFault) → r ≡ Ok script → r ≡ Err fault → ⊥
not_both r script fault one two = let same = sym one ∙ two in absurd cc

ok_of : {S : Type 0} (r : Result S ScriptFault) (a b : S) → r ≡ Ok a → r ≡ Ok b → a ≡ b
ok_of r a b one two = let same = sym one ∙ two in cc

text_stands : (folder name : List ℕ) (told : Files) (set : SetView) (bytes : List ℕ) (before after status : ℕ) (text : List ℕ) → HasText folder name (Some told) set bytes → ¬ Rose before after
    → RefusesText folder name (Some told) before after status text → ⊥
text_stands folder name told set bytes before after status text has answers (loads_refused fault refuses _ _) = list_refused loads_list told (loads_name folder 1) has.has_set.lists.0 fault refuses
text_stands folder name told set bytes before after status text has answers (loads_too_long file long _ _) = list_long loads_list told (loads_name folder 1) has.has_set.lists.0 file (long told refl)
text_stands folder name told set bytes before after status text has answers (files_refused fault _ refuses _ _) = list_refused files_list told (files_name folder 1) has.has_set.lists.1 fault refuses
text_stands folder name told set bytes before after status text has answers (files_too_long file _ long _ _) = list_long files_list told (files_name folder 1) has.has_set.lists.1 file (long told refl)
text_stands folder name told set bytes before after status text has answers (long_file file _ long _ _) = not_too_long told (rest_of folder told) file (has.has_set.rest told refl).0 (long told refl)
text_stands folder name told set bytes before after status text has answers (large_set _ large _ _) = not_too_large told (rest_of folder told) (has.has_set.rest told refl).0 (large told refl)
text_stands folder name told set bytes before after status text has answers (script_absent _ _ none _ _) = not_none (sym has.there ∙ none)
text_stands folder name told set bytes before after status text has answers (script_too_long _ _ long _ _) =
    let same : bytes ≡ long.0 = some_of (sym has.there ∙ long.1) in absurd (omega (arith, ap length same, has.short, long.2))
text_stands folder name told set bytes before after status text has answers (host_failed rose _ _) = answers rose

-- however a text is read
module _ {S : Type 0} (said : List ℕ → Result S ScriptFault) where
  pub none_refused : (folder name : List ℕ) (told : Files) (set : SetView) (script : S) (before after status : ℕ) (text : List ℕ) → HasInputs said folder name (Some told) set script
      → ¬ Rose before after → RefusesInputs said folder name (Some told) before after status text → ⊥
  none_refused folder name told set script before after status text has answers (no_text refuses) = text_stands folder name told set has.text before after status text has.has_text answers refuses
  none_refused folder name told set script before after status text has answers (no_script _ bytes fault other wrong _ _) =
      let same : has.text ≡ bytes = some_of (sym has.has_text.there ∙ other.there) in
      not_both (said bytes) script fault (subst (λ (b : List ℕ). said b ≡ Ok script) same has.says) wrong

  pub same_set : (folder name : List ℕ) (told : Files) (set other : SetView) (script script_2 : S) → HasInputs said folder name (Some told) set script → HasInputs said folder name (Some told) other script_2 → other ≡ set
  same_set folder name told set other script script_2 one two = (two.has_text.has_set.rest told refl).1 ∙ sym (one.has_text.has_set.rest told refl).1

  pub same_script : (folder name : List ℕ) (told : Files) (set other : SetView) (script script_2 : S) → HasInputs said folder name (Some told) set script → HasInputs said folder name (Some told) other script_2 → script_2 ≡ script
  same_script folder name told set other script script_2 one two =
      let same : two.text ≡ one.text = some_of (sym two.has_text.there ∙ one.has_text.there) in
      ok_of (said one.text) script_2 script (subst (λ (b : List ℕ). said b ≡ Ok script_2) same two.says) one.says

-- ---- the run comes to its end

-- what was printed of a run that came to its end
pub record WasTold (telling : Telling) (set : SetView) (script : List Line) (old new : DiskState) (handed : Option RunSeen) (status : ℕ) (text : List ℕ) : Type 0 where
  pub seen : RunSeen
  pub last : StandingView
  pub is : handed ≡ Some seen
  pub stands : seen.standing ≡ Some last
  pub runs : RunsScript set script old new seen
  pub by_sessions : StatusOfRun seen.sessions status
  pub told : text ≡ told_as telling seen.sessions seen.trace last

-- What the law says of images, and the disk of its reads.
pub record EndLaws (old new : DiskState) : Type 0 where
  pub not_both : (image : Image) (s : StandingView) (f : RecoverFault) → HoldsConfig image s → HasDiskFault image f → ⊥
  pub reads_now : (image : Image) → new.reads ≡ Some image → new.now image

pub read_of : (disk : DiskState) → is_some disk.reads ≡ true → (image : Image) × (disk.reads ≡ Some image)
read_of disk tells = by disk.reads refl tells
  where
    by : (o : Option Image) → disk.reads ≡ o → is_some o ≡ true → (image : Image) × (disk.reads ≡ Some image)
    by None is tells = absurd cc
    by (Some image) is tells = (image, is)

module _ (run : Run) (telling : Telling) (folder name : List ℕ) (told : Files) (set : SetView) (script : List Line) (is : ReplaysSound run telling folder name told set script)
    (laws : EndLaws run.work.disk run.work.disk_after) (leaves : LeavesFirstOrGood run.work.disk run.work.disk_after) where
  none_left : (fault : RecoverFault) → HeldNone fault run.work.disk run.work.disk_after ⊎ (HoldsSome run.work.disk × HoldsNone fault run.work.disk_after) → ⊥
  none_left fault (inl held) = laws.not_both is.image is.start fault is.holds (held.none is.image is.reads)
  none_left fault (inr (some, none)) =
      let left = leaves set is.start is.image is.reads is.holds is.rests in
      let (image, read) = read_of run.work.disk_after left.tells in
      let held = left.only.here image (laws.reads_now image read) in
      laws.not_both image held.active fault held.holds (none image read)

  came_to_end : (status : ℕ) (text : List ℕ) → RunsTo telling set script run.work.disk run.work.disk_after run.work.handed status text → WasTold telling set script run.work.disk run.work.disk_after run.work.handed status text
  came_to_end status text (ended seen standing held handed stands runs holds counts by_sessions tells) = record { seen = seen; last = standing; is = handed; stands = stands; runs = runs; by_sessions = by_sessions; told = tells }
  came_to_end status text (unknown seen held handed stands runs counts failed stopped _ _) =
      absurd (is.stops (subst (λ (h : Option RunSeen). RoseBy (stops_of h + 1) run.work.disk.faults run.work.disk_after.faults) (sym handed) failed))
  came_to_end status text (disk_failed handed failed stopped reads _ _) =
      absurd (is.stops (subst (λ (h : Option RunSeen). RoseBy (stops_of h + 1) run.work.disk.faults run.work.disk_after.faults) (sym handed) failed))
  came_to_end status text (no_config fault handed other none _ _) = absurd (none_left fault none)

  pub was_told : (status : ℕ) (text : List ℕ) → Says run.work status text → WasTold telling set script run.work.disk run.work.disk_after run.work.handed status text
  was_told status text says = by (subst (λ (files : Option Files). Replays telling folder name files run.work.host_faults run.work.host_faults_after run.work.disk run.work.disk_after run.work.handed status text) is.files
      (says_of_run telling run.work folder name status text is.asked says))
    where
      by : Replays telling folder name (Some told) run.work.host_faults run.work.host_faults_after run.work.disk run.work.disk_after run.work.handed status text
          → WasTold telling set script run.work.disk run.work.disk_after run.work.handed status text
      by (ran other script_2 inputs runs) =
          came_to_end status text
          (subst (λ (s : SetView). RunsTo telling s script run.work.disk run.work.disk_after run.work.handed status text) (same_set script_said folder name told set other script script_2 is.inputs inputs)
          (subst (λ (l : List Line). RunsTo telling other l run.work.disk run.work.disk_after run.work.handed status text) (same_script script_said folder name told set other script script_2 is.inputs inputs) runs))
      by (unread refuses kept handed) = absurd (none_refused script_said folder name told set script run.work.host_faults run.work.host_faults_after status text is.inputs is.answers.host_answers refuses)
