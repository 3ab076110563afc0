use Rattle.std.proofs.Common.{◌≡◌, ℕ, List, Ok, sym, ap, subst, ◌∙◌}
use Rattle.disk_model.specs.Image.{range}
use Rattle.field_grammar.specs.Answers.{answer}
use Rattle.disk_layout.specs.Offsets.{bank_at}
use Rattle.disk_layout.specs.Slots.{slot_offset}
use Rattle.disk_layout.specs.Holds.{HasOutline, StandingView}
use Rattle.disk_layout.specs.Manifest.{LoadEntry, manifest, total_length}
use Rattle.recovery.specs.Surveys.{outline_with}
use Rattle.recovery.proofs.Lines.{whole_listing}
use Rattle.recovery.proofs.Standings.{stands_by}
use Rattle.recovery.proofs.listed.list.Goals as goal

pub returns-clause-listed : goal.returns-clause-listed
returns-clause-listed g c =
    let f = c.in_ok-found.found in
    let all = c.in_ok-put_loads.ensures.listed in
    let listed = all.lists in
    let whole : answer manifest f.manifest.items ≡ Ok all.entries = sym (c.in-Ok.ensures.begun ∙ ap (λ (l : List ℕ). answer manifest l) c.as_slice.ensures) ∙ all.are in
    let standing : StandingView = record { identity = f.identity; bank = c.number.result; sequence = f.active.sequence; loads = listed.loads } in
    record {
      standing = standing;
      holds = λ image told.
          let found = c.in_ok-found.ensures.found image told in
          let same : found.loads ≡ all.entries = cc (found.read, whole) in
          stands_by image f.identity all.entries f.active c.number.result listed.loads c.number.ensures.value
          (subst (λ (l : List LoadEntry). HasOutline image (slot_offset f.active.slot) (outline_with f.identity f.active l)) same found.finds.outline) listed.entries_are listed.headers
          (listed.contents image (c.in_ok-found.ensures.reads_disk.ok.reads ∙ told)
          ∙ ap (λ (p : ℕ). range image p (total_length all.entries)) (c.offset-start.ensures.value ∙ ap (λ (n : ℕ). bank_at f.identity.bank n) (sym c.number.ensures.value)));
      size = c.in_ok-found.ensures.in_range.size;
      bank = c.number.ensures.below;
      is =
          whole_listing standing all.entries c.from.result c.new-out.result.items c.put_target.new.out.items c.put_bank.new.out.items c.put_count.new.out.items c.put_loads.new.out.items
          c.new-out.ensures listed.entries_are (c.left.ensures.counts all.entries all.are ∙ sym c.from.ensures) c.in_ok-put_target.ensures c.in_ok-put_bank.ensures c.in_ok-put_count.ensures listed.text;
    }
