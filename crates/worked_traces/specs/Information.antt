-- An information session.
use Rattle.std.specs.Prelude.{[], ◌∷◌, codes}
use Rattle.exchange_trace.specs.declared.trace.Side.TheVariants as sides
use Rattle.exchange_trace.specs.Happenings.{Delivered, Ended, Info_started}
use Rattle.exchange_trace.specs.Lines.{Finish, Info}
use Rattle.worked_traces.specs.Settings.{one_load}
use Rattle.worked_traces.specs.Walks.{WorkedRun}
use Rattle.worked_traces.specs.Writing.{l, on, t}

unfoldable pub run : WorkedRun
run = record {
  setting = one_load;
  script =
      Info (codes "HW1") (codes "L")
      ∷ Finish
      ∷ [];
  trace =
      on (Info_started (codes "HW1") (codes "L")) (l 1024 59 (codes "00014857315f4c2e4c4349006f6374657400") ∷ [])
      ∷ on (Delivered sides.Target 1) (t 1024 1024 (codes "00030001000000094133000100") ∷ [])
      ∷ on (Delivered sides.Loader 2) (l 1024 1024 (codes "00040001") ∷ [])
      ∷ on (Delivered sides.Target 3) (t 1025 59 (codes "00024857315f4c2e4c4353006f6374657400") ∷ [])
      ∷ on (Delivered sides.Loader 4) (l 1025 1025 (codes "00040000") ∷ [])
      ∷ on (Delivered sides.Target 5) (t 1025 1025 (codes "000300010000000f4133000100020000000000") ∷ [])
      ∷ on (Delivered sides.Loader 6) (l 1025 1025 (codes "00040001") ∷ [])
      ∷ on (Delivered sides.Target 7) (t 1026 59 (codes "00024857315f4c2e4c434c006f6374657400") ∷ [])
      ∷ on (Delivered sides.Loader 8) (l 1026 1026 (codes "00040000") ∷ [])
      ∷ on (Delivered sides.Target 9) (t 1026 1026 (codes "0003000100000012413300010348573103534e310000") ∷ [])
      ∷ on (Delivered sides.Loader 10) (l 1026 1026 (codes "00040001") ∷ [])
      ∷ on (Delivered sides.Target 11) ([])
      ∷ on (Ended) ([])
      ∷ [];
}
