use Rattle.std.proofs.Common.{refl, sym, ◌∙◌}
use Rattle.target_machine.proofs.target.Target.boot.Goals as goal

pub returns-clause-starts : goal.returns-clause-starts
returns-clause-starts g c =
    λ loses image told.
    let (s, holds, is) = c.in_ok-survey.ensures.holds image told in
    rw c.of-installed.ensures (record {
      active = s;
      held = record { slot = _; by = holds.by };
      kept = record { active = sym is; live = refl };
      holds = record {
        beside = record { works = c.in_ok-survey.ensures.works loses; image = image; told = c.in_ok-survey.ensures.reads_disk.ok.reads ∙ told; holds = holds };
        holds = tt;
      };
    })
