-- An ERROR that nobody posted ends an information session.
use Rattle.std.specs.Prelude.{[], ◌∷◌, codes}
use Rattle.exchange_trace.specs.declared.trace.Side.TheVariants as sides
use Rattle.exchange_trace.specs.Happenings.{Delivered, Ended, Info_started, Injected, Ticked}
use Rattle.exchange_trace.specs.Lines.{Finish, Info, Inject}
use Rattle.worked_traces.specs.Settings.{one_load}
use Rattle.worked_traces.specs.Walks.{WorkedRun}
use Rattle.worked_traces.specs.Writing.{l, on, t}

unfoldable pub run : WorkedRun
run = record {
  setting = one_load;
  script =
      Info (codes "HW1") (codes "L")
      ∷ Inject (t 40000 1024 (codes "0005000300"))
      ∷ Finish
      ∷ [];
  trace =
      on (Info_started (codes "HW1") (codes "L")) (l 1024 59 (codes "00014857315f4c2e4c4349006f6374657400") ∷ [])
      ∷ on (Injected (t 40000 1024 (codes "0005000300"))) ([])
      ∷ on (Delivered sides.Target 1) (t 1024 1024 (codes "00030001000000094133000100") ∷ [])
      ∷ on (Delivered sides.Loader 2) ([])
      ∷ on (Ticked sides.Target) (t 1024 1024 (codes "00030001000000094133000100") ∷ [])
      ∷ on (Delivered sides.Loader 3) ([])
      ∷ on (Ticked sides.Target) (t 1024 1024 (codes "00030001000000094133000100") ∷ [])
      ∷ on (Delivered sides.Loader 4) ([])
      ∷ on (Ticked sides.Target) (t 1024 1024 (codes "00030001000000094133000100") ∷ [])
      ∷ on (Delivered sides.Loader 5) ([])
      ∷ on (Ticked sides.Target) (t 1024 1024 (codes "00030001000000094133000100") ∷ [])
      ∷ on (Delivered sides.Loader 6) ([])
      ∷ on (Ticked sides.Target) (t 1024 1024 (codes "00030001000000094133000100") ∷ [])
      ∷ on (Delivered sides.Loader 7) ([])
      ∷ on (Ticked sides.Target) ([])
      ∷ on (Ended) ([])
      ∷ [];
}
