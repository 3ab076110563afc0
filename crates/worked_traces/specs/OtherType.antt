-- An upload that is stopped, since a load of its part number is kept under another type.
use Rattle.std.specs.Prelude.{[], ◌∷◌, codes}
use Rattle.exchange_trace.specs.declared.trace.Side.TheVariants as sides
use Rattle.exchange_trace.specs.Happenings.{Delivered, Ended, Upload_started}
use Rattle.exchange_trace.specs.Lines.{Finish, Upload}
use Rattle.worked_traces.specs.Settings.{other_type_beside_it}
use Rattle.worked_traces.specs.Walks.{WorkedRun}
use Rattle.worked_traces.specs.Writing.{l, on, t}

unfoldable pub run : WorkedRun
run = record {
  setting = other_type_beside_it;
  script =
      Upload (codes "HW1") (codes "L") (codes "ABC41-0000-0001" ∷ [])
      ∷ Finish
      ∷ [];
  trace =
      on (Upload_started (codes "HW1") (codes "L") (codes "ABC41-0000-0001" ∷ [])) (l 1024 59 (codes "00014857315f4c2e4c5549006f6374657400") ∷ [])
      ∷ on (Delivered sides.Target 1) (t 1024 1024 (codes "00030001000000094133000100") ∷ [])
      ∷ on (Delivered sides.Loader 2) (l 1024 1024 (codes "00040001") ∷ [])
      ∷ on (Delivered sides.Target 3) (t 1025 59 (codes "00024857315f4c2e4c5553006f6374657400") ∷ [])
      ∷ on (Delivered sides.Loader 4) (l 1025 1025 (codes "00040000") ∷ [])
      ∷ on (Delivered sides.Target 5) (t 1025 1025 (codes "000300010000001441330001000001000000003030300000") ∷ [])
      ∷ on (Delivered sides.Loader 6) (l 1025 1025 (codes "00040001") ∷ l 1026 59 (codes "00024857315f4c2e4c5552006f6374657400") ∷ [])
      ∷ on (Delivered sides.Target 7) ([])
      ∷ on (Delivered sides.Target 8) (t 1026 1026 (codes "00040000") ∷ [])
      ∷ on (Delivered sides.Loader 9) (l 1026 1026 (codes "000300010000002041330001074150502e4c55480f41424334312d303030302d30303031") ∷ [])
      ∷ on (Delivered sides.Target 10) (t 1026 1026 (codes "00040001") ∷ t 1027 59 (codes "00014150502e4c5548006f6374657400") ∷ [])
      ∷ on (Delivered sides.Loader 11) ([])
      ∷ on (Delivered sides.Loader 12) (l 1027 1027 (codes "000300010000003d80040000000000140000001d000000210000002500000026000000370000003800000039000f41424334312d303030302d30303031000003415050000008000100034857310000000001000000074150502e42494e0000044150503100000005000000000000000929b1000000000000bee0cf449fc5") ∷ [])
      ∷ on (Delivered sides.Target 13) (t 1027 1027 (codes "00040001") ∷ t 1028 59 (codes "00024857315f4c2e4c5553006f6374657400") ∷ [])
      ∷ on (Delivered sides.Loader 14) ([])
      ∷ on (Delivered sides.Loader 15) (l 1028 1028 (codes "00040000") ∷ [])
      ∷ on (Delivered sides.Target 16) (t 1028 1028 (codes "0003000100000034413310030241350002000000003030300001074150502e4c55480f41424334312d303030302d30303031303030100300") ∷ [])
      ∷ on (Delivered sides.Loader 17) (l 1028 1028 (codes "00040001") ∷ [])
      ∷ on (Delivered sides.Target 18) ([])
      ∷ on (Ended) ([])
      ∷ [];
}
