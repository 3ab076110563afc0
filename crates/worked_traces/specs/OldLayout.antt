-- An upload onto a unit whose manifest says no type ids, so that nothing is kept.
use Rattle.std.specs.Prelude.{[], ◌∷◌, codes}
use Rattle.exchange_trace.specs.declared.trace.Side.TheVariants as sides
use Rattle.exchange_trace.specs.Happenings.{Delivered, Ended, Upload_started}
use Rattle.exchange_trace.specs.Lines.{Finish, Upload}
use Rattle.worked_traces.specs.Settings.{two_loads_on_old}
use Rattle.worked_traces.specs.Walks.{WorkedRun}
use Rattle.worked_traces.specs.Writing.{l, on, t}

unfoldable pub run : WorkedRun
run = record {
  setting = two_loads_on_old;
  script =
      Upload (codes "HW1") (codes "L") (codes "ABC42-0000-0002" ∷ [])
      ∷ Finish
      ∷ [];
  trace =
      on (Upload_started (codes "HW1") (codes "L") (codes "ABC42-0000-0002" ∷ [])) (l 1024 59 (codes "00014857315f4c2e4c5549006f6374657400") ∷ [])
      ∷ on (Delivered sides.Target 1) (t 1024 1024 (codes "00030001000000094133000100") ∷ [])
      ∷ on (Delivered sides.Loader 2) (l 1024 1024 (codes "00040001") ∷ [])
      ∷ on (Delivered sides.Target 3) (t 1025 59 (codes "00024857315f4c2e4c5553006f6374657400") ∷ [])
      ∷ on (Delivered sides.Loader 4) (l 1025 1025 (codes "00040000") ∷ [])
      ∷ on (Delivered sides.Target 5) (t 1025 1025 (codes "000300010000001441330001000001000000003030300000") ∷ [])
      ∷ on (Delivered sides.Loader 6) (l 1025 1025 (codes "00040001") ∷ l 1026 59 (codes "00024857315f4c2e4c5552006f6374657400") ∷ [])
      ∷ on (Delivered sides.Target 7) ([])
      ∷ on (Delivered sides.Target 8) (t 1026 1026 (codes "00040000") ∷ [])
      ∷ on (Delivered sides.Loader 9) (l 1026 1026 (codes "000300010000002041330001074f50532e4c55480f41424334322d303030302d30303032") ∷ [])
      ∷ on (Delivered sides.Target 10) (t 1026 1026 (codes "00040001") ∷ t 1027 59 (codes "00014f50532e4c5548006f6374657400") ∷ [])
      ∷ on (Delivered sides.Loader 11) ([])
      ∷ on (Delivered sides.Loader 12) (l 1027 1027 (codes "000300010000003d80040000000000140000001d000000210000002500000026000000370000003800000039000f41424334322d303030302d303030320000034f5053000008000100034857310000000001000000074f50532e42494e0000044f50533100000005000000000000000929b10000000000006d3b743a92d9") ∷ [])
      ∷ on (Delivered sides.Target 13) (t 1027 1027 (codes "00040001") ∷ t 1028 59 (codes "00014f50532e42494e006f6374657400") ∷ [])
      ∷ on (Delivered sides.Loader 14) ([])
      ∷ on (Delivered sides.Loader 15) (l 1028 1028 (codes "00030001313233343536373839") ∷ [])
      ∷ on (Delivered sides.Target 16) (t 1028 1028 (codes "00040001") ∷ t 1029 59 (codes "00024857315f4c2e4c5553006f6374657400") ∷ [])
      ∷ on (Delivered sides.Loader 17) ([])
      ∷ on (Delivered sides.Loader 18) (l 1029 1029 (codes "00040000") ∷ [])
      ∷ on (Delivered sides.Target 19) (t 1029 1029 (codes "000300010000003241330003000002000000003130300001074f50532e4c55480f41424334322d303030302d30303032313030000300") ∷ [])
      ∷ on (Delivered sides.Loader 20) (l 1029 1029 (codes "00040001") ∷ [])
      ∷ on (Delivered sides.Target 21) ([])
      ∷ on (Ended) ([])
      ∷ [];
}
