-- What the worked runs stand on: a media set of one load or of two, and the unit that it is for (docs/EXCHANGE.md, "Runs").
use Rattle.std.specs.Prelude.{ℕ, List, [], ◌∷◌, codes, Option, Some, None}
use Rattle.load_base.specs.Config.{LoadView}
use Rattle.accept_rules.specs.Permissions.{permits}
use Rattle.replay_rules.specs.BothEnds.{Setting}
use Rattle.session_rules.specs.MediaFiles.{file_named}
use Rattle.worked_traces.specs.Writing.{hex}

-- a set whose one load has the header that these digits write, and a unit HW1 with no loads
abbrev pub one_load_of : List ℕ → Setting
one_load_of header = record {
  media = record {
    loads = record { header = codes "APP.LUH"; part = codes "ABC41-0000-0001" } ∷ [];
    file =
        file_named
        (record { name = codes "APP.LUH"; bytes = hex header }
        ∷ record { name = codes "APP.BIN"; bytes = hex (codes "313233343536373839") }
        ∷ []);
  };
  accepts = permits;
  start = record { identity = record { hw = codes "HW1"; pos = codes "L"; serial = codes "SN1"; bank = 4096 }; bank = 0; sequence = 1; loads = [] };
}

-- a header of a load for HW1
abbrev pub header : List ℕ
header = codes "0000003d80040000000000140000001d000000210000002500000026000000370000003800000039000f41424334312d303030302d30303031000003415050000007000100034857310000000001000000074150502e42494e0000044150503100000005000000000000000929b10000000000007042adc08c7f"

-- the same but for its hardware, which is HW9
abbrev pub other_header : List ℕ
other_header = codes "0000003d80040000000000140000001d000000210000002500000026000000370000003800000039000f41424334312d303030302d30303031000003415050000007000100034857390000000001000000074150502e42494e0000044150503100000005000000000000000929b10000000000006f60a19813e8"

-- the same as the first but for its type id, which is 8
abbrev pub header_of_other_type : List ℕ
header_of_other_type = codes "0000003d80040000000000140000001d000000210000002500000026000000370000003800000039000f41424334312d303030302d30303031000003415050000008000100034857310000000001000000074150502e42494e0000044150503100000005000000000000000929b1000000000000bee0cf449fc5"

-- a header of another load for HW1, of type 8
abbrev pub second_header : List ℕ
second_header = codes "0000003d80040000000000140000001d000000210000002500000026000000370000003800000039000f41424334322d303030302d303030320000034f5053000008000100034857310000000001000000074f50532e42494e0000044f50533100000005000000000000000929b10000000000006d3b743a92d9"

-- the set and the unit of nine of the runs
abbrev pub one_load : Setting
one_load = one_load_of header

-- ---- on a unit that has a load

-- the load of the first header, as it stands on a unit whose manifest says this of its type
abbrev pub first_load : Option ℕ → LoadView
first_load type_id = record {
  part = codes "ABC41-0000-0001";
  type_id = type_id;
  header_name = codes "APP.LUH";
  files = record { name = codes "APP.LUH"; bytes = hex header } ∷ record { name = codes "APP.BIN"; bytes = hex (codes "313233343536373839") } ∷ [];
}

-- the same unit, after an upload of that load
abbrev pub with_first_load : Option ℕ → Setting → Setting
with_first_load type_id set = record {
  media = set.media;
  accepts = set.accepts;
  start = record { identity = set.start.identity; bank = 1; sequence = 2; loads = first_load type_id ∷ [] };
}

-- the load of the set comes under another type than the one that it has on the unit
abbrev pub other_type_beside_it : Setting
other_type_beside_it = with_first_load (Some 7) (one_load_of header_of_other_type)

-- a set of two loads, and the unit with none
abbrev pub two_loads : Setting
two_loads = record {
  media = record {
    loads = record { header = codes "APP.LUH"; part = codes "ABC41-0000-0001" } ∷ record { header = codes "OPS.LUH"; part = codes "ABC42-0000-0002" } ∷ [];
    file =
        file_named
        (record { name = codes "APP.LUH"; bytes = hex header }
        ∷ record { name = codes "APP.BIN"; bytes = hex (codes "313233343536373839") }
        ∷ record { name = codes "OPS.LUH"; bytes = hex second_header }
        ∷ record { name = codes "OPS.BIN"; bytes = hex (codes "313233343536373839") }
        ∷ []);
  };
  accepts = permits;
  start = one_load.start;
}

-- and the unit with the first of them, of which its manifest doesn't say the type
abbrev pub two_loads_on_old : Setting
two_loads_on_old = with_first_load None two_loads
