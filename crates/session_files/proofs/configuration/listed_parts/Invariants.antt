use Rattle.std.proofs.Common.{◌≡◌, map, take}
use Rattle.std.specs.List.{All}
use Rattle.disk_layout.specs.Manifest.{entry_view}
use Rattle.load_protocol_files.specs.Lcl.{InstalledFits}
use Rattle.session_rules.specs.Reports.{listed_part}
use Rattle.session_files.proofs.configuration.listed_parts.Given as goal

abbrev pub invariant-loop-load : goal.invariant-loop-load
invariant-loop-load l =
    record {
      is : l.parts.items ≡ map listed_part (map entry_view (take l.load-index l.loads));
      fit : All (λ part. InstalledFits part) l.parts.items;
    }
