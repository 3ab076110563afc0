-- An upload in which datagrams are lost and come late.
use Rattle.std.specs.Prelude.{[], ◌∷◌, codes}
use Rattle.exchange_trace.specs.declared.trace.Side.TheVariants as sides
use Rattle.exchange_trace.specs.Happenings.{Delivered, Ended, Lost, Ticked, Upload_started}
use Rattle.exchange_trace.specs.Lines.{Finish, Give, Lose, Next, Tick, Upload}
use Rattle.worked_traces.specs.Settings.{one_load}
use Rattle.worked_traces.specs.Walks.{WorkedRun}
use Rattle.worked_traces.specs.Writing.{l, on, t}

unfoldable pub run : WorkedRun
run = record {
  setting = one_load;
  script =
      Upload (codes "HW1") (codes "L") (codes "ABC41-0000-0001" ∷ [])
      ∷ Next 10
      ∷ Lose 11
      ∷ Give 12
      ∷ Tick sides.Loader
      ∷ Lose 13
      ∷ Tick sides.Target
      ∷ Lose 14
      ∷ Tick sides.Loader
      ∷ Lose 15
      ∷ Tick sides.Target
      ∷ Lose 16
      ∷ Finish
      ∷ [];
  trace =
      on (Upload_started (codes "HW1") (codes "L") (codes "ABC41-0000-0001" ∷ [])) (l 1024 59 (codes "00014857315f4c2e4c5549006f6374657400") ∷ [])
      ∷ on (Delivered sides.Target 1) (t 1024 1024 (codes "00030001000000094133000100") ∷ [])
      ∷ on (Delivered sides.Loader 2) (l 1024 1024 (codes "00040001") ∷ [])
      ∷ on (Delivered sides.Target 3) (t 1025 59 (codes "00024857315f4c2e4c5553006f6374657400") ∷ [])
      ∷ on (Delivered sides.Loader 4) (l 1025 1025 (codes "00040000") ∷ [])
      ∷ on (Delivered sides.Target 5) (t 1025 1025 (codes "000300010000001441330001000001000000003030300000") ∷ [])
      ∷ on (Delivered sides.Loader 6) (l 1025 1025 (codes "00040001") ∷ l 1026 59 (codes "00024857315f4c2e4c5552006f6374657400") ∷ [])
      ∷ on (Delivered sides.Target 7) ([])
      ∷ on (Delivered sides.Target 8) (t 1026 1026 (codes "00040000") ∷ [])
      ∷ on (Delivered sides.Loader 9) (l 1026 1026 (codes "000300010000002041330001074150502e4c55480f41424334312d303030302d30303031") ∷ [])
      ∷ on (Delivered sides.Target 10) (t 1026 1026 (codes "00040001") ∷ t 1027 59 (codes "00014150502e4c5548006f6374657400") ∷ [])
      ∷ on (Lost 11) ([])
      ∷ on (Delivered sides.Loader 12) ([])
      ∷ on (Ticked sides.Loader) (l 1026 1026 (codes "000300010000002041330001074150502e4c55480f41424334312d303030302d30303031") ∷ [])
      ∷ on (Lost 13) ([])
      ∷ on (Ticked sides.Target) (t 1027 59 (codes "00014150502e4c5548006f6374657400") ∷ [])
      ∷ on (Lost 14) ([])
      ∷ on (Ticked sides.Loader) (l 1026 1026 (codes "000300010000002041330001074150502e4c55480f41424334312d303030302d30303031") ∷ [])
      ∷ on (Lost 15) ([])
      ∷ on (Ticked sides.Target) (t 1027 59 (codes "00014150502e4c5548006f6374657400") ∷ [])
      ∷ on (Lost 16) ([])
      ∷ on (Ticked sides.Loader) (l 1026 1026 (codes "000300010000002041330001074150502e4c55480f41424334312d303030302d30303031") ∷ [])
      ∷ on (Delivered sides.Target 17) (t 1026 1026 (codes "00040001") ∷ [])
      ∷ on (Delivered sides.Loader 18) ([])
      ∷ on (Ticked sides.Target) (t 1027 59 (codes "00014150502e4c5548006f6374657400") ∷ [])
      ∷ on (Delivered sides.Loader 19) (l 1027 1027 (codes "000300010000003d80040000000000140000001d000000210000002500000026000000370000003800000039000f41424334312d303030302d30303031000003415050000007000100034857310000000001000000074150502e42494e0000044150503100000005000000000000000929b10000000000007042adc08c7f") ∷ [])
      ∷ on (Delivered sides.Target 20) (t 1027 1027 (codes "00040001") ∷ t 1028 59 (codes "00014150502e42494e006f6374657400") ∷ [])
      ∷ on (Delivered sides.Loader 21) ([])
      ∷ on (Delivered sides.Loader 22) (l 1028 1028 (codes "00030001313233343536373839") ∷ [])
      ∷ on (Delivered sides.Target 23) (t 1028 1028 (codes "00040001") ∷ t 1029 59 (codes "00024857315f4c2e4c5553006f6374657400") ∷ [])
      ∷ on (Delivered sides.Loader 24) ([])
      ∷ on (Delivered sides.Loader 25) (l 1029 1029 (codes "00040000") ∷ [])
      ∷ on (Delivered sides.Target 26) (t 1029 1029 (codes "000300010000003241330003000002000000003130300001074150502e4c55480f41424334312d303030302d30303031313030000300") ∷ [])
      ∷ on (Delivered sides.Loader 27) (l 1029 1029 (codes "00040001") ∷ [])
      ∷ on (Delivered sides.Target 28) ([])
      ∷ on (Ended) ([])
      ∷ [];
}
