-- Losses of power and boots before and within an upload.
use Rattle.std.specs.Prelude.{[], ◌∷◌, codes}
use Rattle.exchange_trace.specs.declared.trace.Side.TheVariants as sides
use Rattle.exchange_trace.specs.Happenings.{Booted, Delivered, Ended, Power_cut, Ticked, Upload_started}
use Rattle.exchange_trace.specs.Lines.{Boot, Finish, Next, Power, Tick, Upload}
use Rattle.exchange_trace.specs.Steps.{Came_up, Went_down}
use Rattle.worked_traces.specs.Settings.{one_load}
use Rattle.worked_traces.specs.Walks.{WorkedRun}
use Rattle.worked_traces.specs.Writing.{l, noting, on, t}

unfoldable pub run : WorkedRun
run = record {
  setting = one_load;
  script =
      Power 0 3
      ∷ Upload (codes "HW1") (codes "L") (codes "ABC41-0000-0001" ∷ [])
      ∷ Next 1
      ∷ Boot
      ∷ Next 5
      ∷ Power 0 1
      ∷ Tick sides.Target
      ∷ Boot
      ∷ Tick sides.Loader
      ∷ Upload (codes "HW1") (codes "L") (codes "ABC41-0000-0001" ∷ [])
      ∷ Finish
      ∷ [];
  trace =
      noting (Power_cut 0 3) ([]) (Went_down ∷ [])
      ∷ on (Upload_started (codes "HW1") (codes "L") (codes "ABC41-0000-0001" ∷ [])) (l 1024 59 (codes "00014857315f4c2e4c5549006f6374657400") ∷ [])
      ∷ on (Delivered sides.Target 1) ([])
      ∷ noting (Booted) ([]) (Came_up 1024 1 ∷ [])
      ∷ noting (Power_cut 0 1) ([]) (Went_down ∷ [])
      ∷ on (Ticked sides.Target) ([])
      ∷ noting (Booted) ([]) (Came_up 1024 1 ∷ [])
      ∷ on (Ticked sides.Loader) (l 1024 59 (codes "00014857315f4c2e4c5549006f6374657400") ∷ [])
      ∷ on (Upload_started (codes "HW1") (codes "L") (codes "ABC41-0000-0001" ∷ [])) (l 1025 59 (codes "00014857315f4c2e4c5549006f6374657400") ∷ [])
      ∷ on (Delivered sides.Target 2) (t 1024 1024 (codes "00030001000000094133000100") ∷ [])
      ∷ on (Delivered sides.Target 3) (t 1025 1025 (codes "00030001000000094133000100") ∷ [])
      ∷ on (Delivered sides.Loader 4) ([])
      ∷ on (Delivered sides.Loader 5) (l 1025 1025 (codes "00040001") ∷ [])
      ∷ on (Delivered sides.Target 6) (t 1026 59 (codes "00024857315f4c2e4c5553006f6374657400") ∷ [])
      ∷ on (Delivered sides.Loader 7) (l 1026 1026 (codes "00040000") ∷ [])
      ∷ on (Delivered sides.Target 8) (t 1026 1026 (codes "000300010000001441330001000001000000003030300000") ∷ [])
      ∷ on (Delivered sides.Loader 9) (l 1026 1026 (codes "00040001") ∷ l 1027 59 (codes "00024857315f4c2e4c5552006f6374657400") ∷ [])
      ∷ on (Delivered sides.Target 10) ([])
      ∷ on (Delivered sides.Target 11) (t 1027 1027 (codes "00040000") ∷ [])
      ∷ on (Delivered sides.Loader 12) (l 1027 1027 (codes "000300010000002041330001074150502e4c55480f41424334312d303030302d30303031") ∷ [])
      ∷ on (Delivered sides.Target 13) (t 1027 1027 (codes "00040001") ∷ t 1028 59 (codes "00014150502e4c5548006f6374657400") ∷ [])
      ∷ on (Delivered sides.Loader 14) ([])
      ∷ on (Delivered sides.Loader 15) (l 1028 1028 (codes "000300010000003d80040000000000140000001d000000210000002500000026000000370000003800000039000f41424334312d303030302d30303031000003415050000007000100034857310000000001000000074150502e42494e0000044150503100000005000000000000000929b10000000000007042adc08c7f") ∷ [])
      ∷ on (Delivered sides.Target 16) (t 1028 1028 (codes "00040001") ∷ t 1029 59 (codes "00014150502e42494e006f6374657400") ∷ [])
      ∷ on (Delivered sides.Loader 17) ([])
      ∷ on (Delivered sides.Loader 18) (l 1029 1029 (codes "00030001313233343536373839") ∷ [])
      ∷ on (Delivered sides.Target 19) (t 1029 1029 (codes "00040001") ∷ t 1030 59 (codes "00024857315f4c2e4c5553006f6374657400") ∷ [])
      ∷ on (Delivered sides.Loader 20) ([])
      ∷ on (Delivered sides.Loader 21) (l 1030 1030 (codes "00040000") ∷ [])
      ∷ on (Delivered sides.Target 22) (t 1030 1030 (codes "000300010000003241330003000002000000003130300001074150502e4c55480f41424334312d303030302d30303031313030000300") ∷ [])
      ∷ on (Delivered sides.Loader 23) (l 1030 1030 (codes "00040001") ∷ [])
      ∷ on (Delivered sides.Target 24) ([])
      ∷ on (Ended) ([])
      ∷ [];
}
