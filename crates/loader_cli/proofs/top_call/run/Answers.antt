use Rattle.std.proofs.Common.{◌≡◌, ℕ, List, None, take, ◌∙◌, refl, subst}
use Rattle.std.specs.Prelude.{option_map}
use Rattle.load_base.specs.Sink.{IsExtended}
use Rattle.load_base.specs.declared.sink.WriteFault.TheVariants.{Failed, Memory}
use Rattle.loader_cli.specs.Answers.{status_of, text_of}
use Rattle.loader_cli.specs.Commands.{texts_of}
use Rattle.loader_cli.specs.FleetReplays.{fleet_seen}
use Rattle.loader_cli.specs.FleetRuns.FleetEnds.{as_it_was_put as fleet_put, in_command as fleet_out, sink_failed as fleet_sink_failed, told as fleet_told}
use Rattle.loader_cli.specs.Replays.{run_seen}
use Rattle.loader_cli.specs.Runs.Ends.{no_memory, sink_failed, told}
use Rattle.loader_cli.specs.Runs.CommandRunsOut.{as_it_was_put, in_command}
use Rattle.loader_cli.proofs.FleetAnswered.{nothing_handed, same_taken, touched_only, with_run}
use Rattle.loader_cli.proofs.FleetPromised.{fleet_promised}
use Rattle.loader_cli.proofs.Promised.{as_promised}
use Rattle.loader_cli.proofs.ReplayRuns.{EndLaws}
use Rattle.loader_cli.proofs.top_call.run.Goals as goal

pub returns-in-Ok-put-clause-ends : goal.returns-in-Ok-put-clause-ends
returns-in-Ok-put-clause-ends g c =
    λ single before after there still.
    let was = g.O.Sink.content c.args.out.now in
    let now = g.O.Sink.content c.put.new.self in
    let text : c.as_slice.result.now ≡ text_of c.in-Ok.field-0.answer = c.as_slice.ensures ∙ c.in-Ok-into_text.ensures in
    let at_end : EndLaws (g.K.Disk.state before) (g.K.Disk.state after) = record { not_both = c.command_laws.ensures.images.not_both; reads_now = g.met.K.Disk.reads_now after } in
    let tells = rw c.in-Ok.is at (c.answer.ensures.unit single before after there still).tells in
    as_promised c.command_laws.ensures.building c.command_laws.ensures.uploads c.command_laws.ensures.images c.command_laws.ensures.formers c.command_laws.ensures.shows _ _ at_end (c.answer.ensures.unit single before after there still).leaves.while_running
    (told (text_of c.in-Ok.field-0.answer) (rw (← c.status-status.ensures) at tells) (subst (λ (bytes : List ℕ). IsExtended was now bytes) text c.in-Ok-put.ensures.content))
    (λ not_seven. c.in-Ok-put.ensures.cause.ok)

pub returns-in-Err-Failed-clause-ends : goal.returns-in-Err-Failed-clause-ends
returns-in-Err-Failed-clause-ends g c =
    λ single before after there still.
    let was = g.O.Sink.content c.args.out.now in
    let now = g.O.Sink.content c.put.new.self in
    let text : c.as_slice.result.now ≡ text_of c.in-Ok.field-0.answer = c.as_slice.ensures ∙ c.in-Ok-into_text.ensures in
    let failed : c.in-Err-Failed.field-0 ≡ Failed = c.in-Err-Failed.field-0-is in
    let part = rw failed at c.in-Err-Failed.ensures.content in
    let at_end : EndLaws (g.K.Disk.state before) (g.K.Disk.state after) = record { not_both = c.command_laws.ensures.images.not_both; reads_now = g.met.K.Disk.reads_now after } in
    let tells = rw c.in-Ok.is at (c.answer.ensures.unit single before after there still).tells in
    as_promised c.command_laws.ensures.building c.command_laws.ensures.uploads c.command_laws.ensures.images c.command_laws.ensures.formers c.command_laws.ensures.shows _ _ at_end (c.answer.ensures.unit single before after there still).leaves.while_running
    (sink_failed c.status-status.result (text_of c.in-Ok.field-0.answer) part.0 (rw (← c.status-status.ensures) at tells)
    (subst (λ (bytes : List ℕ). IsExtended was now (take part.0 bytes)) text part.1) (c.in-Err-Failed.ensures.cause.failed (cc)) refl)
    (λ not_seven. absurd (not_seven refl))

pub returns-in_default-clause-ends : goal.returns-in_default-clause-ends
returns-in_default-clause-ends g c =
    λ single before after there still.
    let at_end : EndLaws (g.K.Disk.state before) (g.K.Disk.state after) = record { not_both = c.command_laws.ensures.images.not_both; reads_now = g.met.K.Disk.reads_now after } in
    let out = rw c.in_default.is at (c.answer.ensures.unit single before after there still).no_memory in
    rw (c.out_of_memory.ensures.status, c.out_of_memory.ensures.drive)
    (as_promised c.command_laws.ensures.building c.command_laws.ensures.uploads c.command_laws.ensures.images c.command_laws.ensures.formers c.command_laws.ensures.shows _ _ at_end (c.answer.ensures.unit single before after there still).leaves.while_running (no_memory refl refl (in_command out)) (λ not_seven. refl))

pub returns-in_default-into_text-clause-ends : goal.returns-in_default-into_text-clause-ends
returns-in_default-into_text-clause-ends g c =
    λ single before after there still.
    let at_end : EndLaws (g.K.Disk.state before) (g.K.Disk.state after) = record { not_both = c.command_laws.ensures.images.not_both; reads_now = g.met.K.Disk.reads_now after } in
    let tells = rw c.in-Ok.is at (c.answer.ensures.unit single before after there still).tells in
    rw (c.out_of_memory-in_default-into_text.ensures.status, c.out_of_memory-in_default-into_text.ensures.drive)
    (as_promised c.command_laws.ensures.building c.command_laws.ensures.uploads c.command_laws.ensures.images c.command_laws.ensures.formers c.command_laws.ensures.shows _ _ at_end (c.answer.ensures.unit single before after there still).leaves.while_running
    (no_memory refl refl (as_it_was_put (option_map run_seen c.in-Ok.field-0.drive) (status_of c.in-Ok.field-0.answer) (text_of c.in-Ok.field-0.answer) tells)) (λ not_seven. refl))

pub returns-clause-ends : goal.returns-clause-ends
returns-clause-ends g c =
    λ single before after there still.
    let at_end : EndLaws (g.K.Disk.state before) (g.K.Disk.state after) = record { not_both = c.command_laws.ensures.images.not_both; reads_now = g.met.K.Disk.reads_now after } in
    let tells = rw c.in-Ok.is at (c.answer.ensures.unit single before after there still).tells in
    let memory : c.in-Err-Memory.field-0 ≡ Memory = c.in-Err-Memory.field-0-is in
    rw (c.out_of_memory-in-Err-Memory.ensures.status, c.out_of_memory-in-Err-Memory.ensures.drive)
    (as_promised c.command_laws.ensures.building c.command_laws.ensures.uploads c.command_laws.ensures.images c.command_laws.ensures.formers c.command_laws.ensures.shows _ _ at_end (c.answer.ensures.unit single before after there still).leaves.while_running
    (no_memory refl refl (as_it_was_put (option_map run_seen c.in-Ok.field-0.drive) (status_of c.in-Ok.field-0.answer) (text_of c.in-Ok.field-0.answer) tells))
    (λ not_seven. c.in-Err-Memory.ensures.cause.memory (cc)))

-- ---- of a fleet

pub returns-in-Ok-put-clause-fleet : goal.returns-in-Ok-put-clause-fleet
returns-in-Ok-put-clause-fleet g c =
    λ count folder script asked.
    let was = g.O.Sink.content c.args.out.now in
    let now = g.O.Sink.content c.put.new.self in
    let text : c.as_slice.result.now ≡ text_of c.in-Ok.field-0.answer = c.as_slice.ensures ∙ c.in-Ok-into_text.ensures in
    let answers = c.answer.ensures.fleet count folder script asked in
    let as_many = same_taken count c.args.disks.now c.answer.new.disks c.answer.ensures.others.as_many in
    let tells = rw c.in-Ok.is at answers.tells in
    fleet_promised g.K.Disk.state _ _ c.command_laws.ensures.images.not_both (λ k. g.met.K.Disk.reads_now k) as_many answers.left.held answers.left.leaves
    (fleet_told (text_of c.in-Ok.field-0.answer) (rw (← c.status-status.ensures) at (with_run (option_map fleet_seen c.in-Ok.field-0.fleet) tells)) (subst (λ (bytes : List ℕ). IsExtended was now bytes) text c.in-Ok-put.ensures.content))
    (λ not_seven. c.in-Ok-put.ensures.cause.ok)

pub returns-in-Err-Failed-clause-fleet : goal.returns-in-Err-Failed-clause-fleet
returns-in-Err-Failed-clause-fleet g c =
    λ count folder script asked.
    let was = g.O.Sink.content c.args.out.now in
    let now = g.O.Sink.content c.put.new.self in
    let text : c.as_slice.result.now ≡ text_of c.in-Ok.field-0.answer = c.as_slice.ensures ∙ c.in-Ok-into_text.ensures in
    let failed : c.in-Err-Failed.field-0 ≡ Failed = c.in-Err-Failed.field-0-is in
    let part = rw failed at c.in-Err-Failed.ensures.content in
    let answers = c.answer.ensures.fleet count folder script asked in
    let as_many = same_taken count c.args.disks.now c.answer.new.disks c.answer.ensures.others.as_many in
    let tells = rw c.in-Ok.is at answers.tells in
    fleet_promised g.K.Disk.state _ _ c.command_laws.ensures.images.not_both (λ k. g.met.K.Disk.reads_now k) as_many answers.left.held answers.left.leaves
    (fleet_sink_failed c.status-status.result (text_of c.in-Ok.field-0.answer) part.0 (rw (← c.status-status.ensures) at (with_run (option_map fleet_seen c.in-Ok.field-0.fleet) tells))
    (subst (λ (bytes : List ℕ). IsExtended was now (take part.0 bytes)) text part.1) (c.in-Err-Failed.ensures.cause.failed (cc)) refl)
    (λ not_seven. absurd (not_seven refl))

pub returns-in_default-clause-fleet : goal.returns-in_default-clause-fleet
returns-in_default-clause-fleet g c =
    λ count folder script asked.
    let answers = c.answer.ensures.fleet count folder script asked in
    let as_many = same_taken count c.args.disks.now c.answer.new.disks c.answer.ensures.others.as_many in
    let out = rw c.in_default.is at answers.no_memory in
    rw (c.out_of_memory.ensures.status, c.out_of_memory.ensures.fleet)
    (fleet_promised g.K.Disk.state _ _ c.command_laws.ensures.images.not_both (λ k. g.met.K.Disk.reads_now k) as_many answers.left.held answers.left.leaves (fleet_out out.0 out.1 refl refl) (λ not_seven. refl))

pub returns-in_default-into_text-clause-fleet : goal.returns-in_default-into_text-clause-fleet
returns-in_default-into_text-clause-fleet g c =
    λ count folder script asked.
    let answers = c.answer.ensures.fleet count folder script asked in
    let as_many = same_taken count c.args.disks.now c.answer.new.disks c.answer.ensures.others.as_many in
    let tells = rw c.in-Ok.is at answers.tells in
    rw (c.out_of_memory-in_default-into_text.ensures.status, c.out_of_memory-in_default-into_text.ensures.fleet)
    (fleet_promised g.K.Disk.state _ _ c.command_laws.ensures.images.not_both (λ k. g.met.K.Disk.reads_now k) as_many answers.left.held answers.left.leaves
    (fleet_put (option_map fleet_seen c.in-Ok.field-0.fleet) (status_of c.in-Ok.field-0.answer) (text_of c.in-Ok.field-0.answer) (with_run None tells) refl refl) (λ not_seven. refl))

pub returns-clause-fleet : goal.returns-clause-fleet
returns-clause-fleet g c =
    λ count folder script asked.
    let answers = c.answer.ensures.fleet count folder script asked in
    let as_many = same_taken count c.args.disks.now c.answer.new.disks c.answer.ensures.others.as_many in
    let tells = rw c.in-Ok.is at answers.tells in
    let memory : c.in-Err-Memory.field-0 ≡ Memory = c.in-Err-Memory.field-0-is in
    rw (c.out_of_memory-in-Err-Memory.ensures.status, c.out_of_memory-in-Err-Memory.ensures.fleet)
    (fleet_promised g.K.Disk.state _ _ c.command_laws.ensures.images.not_both (λ k. g.met.K.Disk.reads_now k) as_many answers.left.held answers.left.leaves
    (fleet_put (option_map fleet_seen c.in-Ok.field-0.fleet) (status_of c.in-Ok.field-0.answer) (text_of c.in-Ok.field-0.answer) (with_run None tells) refl refl)
    (λ not_seven. c.in-Err-Memory.ensures.cause.memory (cc)))

-- ---- what is touched and handed out, and what a power loss leaves

pub returns-in-Ok-put-clause-touches : goal.returns-in-Ok-put-clause-touches
returns-in-Ok-put-clause-touches g c = touched_only c.in-Ok.field-0.drive c.in-Ok.field-0.fleet c.answer.ensures (rw c.in-Ok.is at c.answer.ensures.hands_out)

pub returns-in-Ok-put-clause-leaves : goal.returns-in-Ok-put-clause-leaves
returns-in-Ok-put-clause-leaves g c = λ single before after there still. (c.answer.ensures.unit single before after there still).leaves

pub returns-in-Err-Failed-clause-touches : goal.returns-in-Err-Failed-clause-touches
returns-in-Err-Failed-clause-touches g c = touched_only c.in-Ok.field-0.drive c.in-Ok.field-0.fleet c.answer.ensures (rw c.in-Ok.is at c.answer.ensures.hands_out)

pub returns-in-Err-Failed-clause-leaves : goal.returns-in-Err-Failed-clause-leaves
returns-in-Err-Failed-clause-leaves g c = λ single before after there still. (c.answer.ensures.unit single before after there still).leaves

pub returns-in_default-clause-touches : goal.returns-in_default-clause-touches
returns-in_default-clause-touches g c = rw (c.out_of_memory.ensures.drive, c.out_of_memory.ensures.fleet) (touched_only None None c.answer.ensures (nothing_handed (texts_of c.args.words.now)))

pub returns-in_default-clause-leaves : goal.returns-in_default-clause-leaves
returns-in_default-clause-leaves g c = λ single before after there still. (c.answer.ensures.unit single before after there still).leaves

pub returns-in_default-into_text-clause-touches : goal.returns-in_default-into_text-clause-touches
returns-in_default-into_text-clause-touches g c = rw (c.out_of_memory-in_default-into_text.ensures.drive, c.out_of_memory-in_default-into_text.ensures.fleet) (touched_only None None c.answer.ensures (nothing_handed (texts_of c.args.words.now)))

pub returns-in_default-into_text-clause-leaves : goal.returns-in_default-into_text-clause-leaves
returns-in_default-into_text-clause-leaves g c = λ single before after there still. (c.answer.ensures.unit single before after there still).leaves

pub returns-clause-touches : goal.returns-clause-touches
returns-clause-touches g c = rw (c.out_of_memory-in-Err-Memory.ensures.drive, c.out_of_memory-in-Err-Memory.ensures.fleet) (touched_only None None c.answer.ensures (nothing_handed (texts_of c.args.words.now)))

pub returns-clause-leaves : goal.returns-clause-leaves
returns-clause-leaves g c = λ single before after there still. (c.answer.ensures.unit single before after there still).leaves
