-- An upload with blocks of 16 bytes, with a repeat and a loss.
use Rattle.std.specs.Prelude.{[], ◌∷◌, codes, Some}
use Rattle.exchange_trace.specs.declared.trace.Side.TheVariants as sides
use Rattle.exchange_trace.specs.Happenings.{Delivered, Ended, Lost, Size_told, Ticked, Upload_started}
use Rattle.exchange_trace.specs.Lines.{Blksize, Finish, Give, Lose, Next, Upload}
use Rattle.worked_traces.specs.Settings.{one_load}
use Rattle.worked_traces.specs.Walks.{WorkedRun}
use Rattle.worked_traces.specs.Writing.{l, on, t}

unfoldable pub run : WorkedRun
run = record {
  setting = one_load;
  script =
      Blksize (Some 16)
      ∷ Upload (codes "HW1") (codes "L") (codes "ABC41-0000-0001" ∷ [])
      ∷ Next 8
      ∷ Give 2
      ∷ Lose 9
      ∷ Finish
      ∷ [];
  trace =
      on (Size_told (Some 16)) ([])
      ∷ on (Upload_started (codes "HW1") (codes "L") (codes "ABC41-0000-0001" ∷ [])) (l 1024 59 (codes "00014857315f4c2e4c5549006f6374657400626c6b73697a65003136007473697a65003000") ∷ [])
      ∷ on (Delivered sides.Target 1) (t 1024 1024 (codes "0006626c6b73697a65003136007473697a65003900") ∷ [])
      ∷ on (Delivered sides.Loader 2) (l 1024 1024 (codes "00040000") ∷ [])
      ∷ on (Delivered sides.Target 3) (t 1024 1024 (codes "00030001000000094133000100") ∷ [])
      ∷ on (Delivered sides.Loader 4) (l 1024 1024 (codes "00040001") ∷ [])
      ∷ on (Delivered sides.Target 5) (t 1025 59 (codes "00024857315f4c2e4c5553006f6374657400626c6b73697a65003136007473697a6500323000") ∷ [])
      ∷ on (Delivered sides.Loader 6) (l 1025 1025 (codes "0006626c6b73697a65003136007473697a6500323000") ∷ [])
      ∷ on (Delivered sides.Target 7) (t 1025 1025 (codes "0003000100000014413300010000010000000030") ∷ [])
      ∷ on (Delivered sides.Loader 8) (l 1025 1025 (codes "00040001") ∷ [])
      ∷ on (Delivered sides.Loader 2) ([])
      ∷ on (Lost 9) ([])
      ∷ on (Ticked sides.Loader) (l 1025 1025 (codes "00040001") ∷ [])
      ∷ on (Delivered sides.Target 10) (t 1025 1025 (codes "0003000230300000") ∷ [])
      ∷ on (Delivered sides.Loader 11) (l 1025 1025 (codes "00040002") ∷ l 1026 59 (codes "00024857315f4c2e4c5552006f6374657400626c6b73697a65003136007473697a6500333200") ∷ [])
      ∷ on (Delivered sides.Target 12) ([])
      ∷ on (Delivered sides.Target 13) (t 1026 1026 (codes "0006626c6b73697a65003136007473697a6500333200") ∷ [])
      ∷ on (Delivered sides.Loader 14) (l 1026 1026 (codes "000300010000002041330001074150502e4c5548") ∷ [])
      ∷ on (Delivered sides.Target 15) (t 1026 1026 (codes "00040001") ∷ [])
      ∷ on (Delivered sides.Loader 16) (l 1026 1026 (codes "000300020f41424334312d303030302d30303031") ∷ [])
      ∷ on (Delivered sides.Target 17) (t 1026 1026 (codes "00040002") ∷ [])
      ∷ on (Delivered sides.Loader 18) (l 1026 1026 (codes "00030003") ∷ [])
      ∷ on (Delivered sides.Target 19) (t 1026 1026 (codes "00040003") ∷ t 1027 59 (codes "00014150502e4c5548006f6374657400626c6b73697a65003136007473697a65003000") ∷ [])
      ∷ on (Delivered sides.Loader 20) ([])
      ∷ on (Delivered sides.Loader 21) (l 1027 1027 (codes "0006626c6b73697a65003136007473697a650031323200") ∷ [])
      ∷ on (Delivered sides.Target 22) (t 1027 1027 (codes "00040000") ∷ [])
      ∷ on (Delivered sides.Loader 23) (l 1027 1027 (codes "000300010000003d80040000000000140000001d") ∷ [])
      ∷ on (Delivered sides.Target 24) (t 1027 1027 (codes "00040001") ∷ [])
      ∷ on (Delivered sides.Loader 25) (l 1027 1027 (codes "0003000200000021000000250000002600000037") ∷ [])
      ∷ on (Delivered sides.Target 26) (t 1027 1027 (codes "00040002") ∷ [])
      ∷ on (Delivered sides.Loader 27) (l 1027 1027 (codes "000300030000003800000039000f41424334312d") ∷ [])
      ∷ on (Delivered sides.Target 28) (t 1027 1027 (codes "00040003") ∷ [])
      ∷ on (Delivered sides.Loader 29) (l 1027 1027 (codes "00030004303030302d3030303100000341505000") ∷ [])
      ∷ on (Delivered sides.Target 30) (t 1027 1027 (codes "00040004") ∷ [])
      ∷ on (Delivered sides.Loader 31) (l 1027 1027 (codes "0003000500070001000348573100000000010000") ∷ [])
      ∷ on (Delivered sides.Target 32) (t 1027 1027 (codes "00040005") ∷ [])
      ∷ on (Delivered sides.Loader 33) (l 1027 1027 (codes "0003000600074150502e42494e00000441505031") ∷ [])
      ∷ on (Delivered sides.Target 34) (t 1027 1027 (codes "00040006") ∷ [])
      ∷ on (Delivered sides.Loader 35) (l 1027 1027 (codes "0003000700000005000000000000000929b10000") ∷ [])
      ∷ on (Delivered sides.Target 36) (t 1027 1027 (codes "00040007") ∷ [])
      ∷ on (Delivered sides.Loader 37) (l 1027 1027 (codes "00030008000000007042adc08c7f") ∷ [])
      ∷ on (Delivered sides.Target 38) (t 1027 1027 (codes "00040008") ∷ t 1028 59 (codes "00014150502e42494e006f6374657400626c6b73697a65003136007473697a65003000") ∷ [])
      ∷ on (Delivered sides.Loader 39) ([])
      ∷ on (Delivered sides.Loader 40) (l 1028 1028 (codes "0006626c6b73697a65003136007473697a65003900") ∷ [])
      ∷ on (Delivered sides.Target 41) (t 1028 1028 (codes "00040000") ∷ [])
      ∷ on (Delivered sides.Loader 42) (l 1028 1028 (codes "00030001313233343536373839") ∷ [])
      ∷ on (Delivered sides.Target 43) (t 1028 1028 (codes "00040001") ∷ t 1029 59 (codes "00024857315f4c2e4c5553006f6374657400626c6b73697a65003136007473697a6500353000") ∷ [])
      ∷ on (Delivered sides.Loader 44) ([])
      ∷ on (Delivered sides.Loader 45) (l 1029 1029 (codes "0006626c6b73697a65003136007473697a6500353000") ∷ [])
      ∷ on (Delivered sides.Target 46) (t 1029 1029 (codes "0003000100000032413300030000020000000031") ∷ [])
      ∷ on (Delivered sides.Loader 47) (l 1029 1029 (codes "00040001") ∷ [])
      ∷ on (Delivered sides.Target 48) (t 1029 1029 (codes "0003000230300001074150502e4c55480f414243") ∷ [])
      ∷ on (Delivered sides.Loader 49) (l 1029 1029 (codes "00040002") ∷ [])
      ∷ on (Delivered sides.Target 50) (t 1029 1029 (codes "0003000334312d303030302d3030303131303000") ∷ [])
      ∷ on (Delivered sides.Loader 51) (l 1029 1029 (codes "00040003") ∷ [])
      ∷ on (Delivered sides.Target 52) (t 1029 1029 (codes "000300040300") ∷ [])
      ∷ on (Delivered sides.Loader 53) (l 1029 1029 (codes "00040004") ∷ [])
      ∷ on (Delivered sides.Target 54) ([])
      ∷ on (Ended) ([])
      ∷ [];
}
