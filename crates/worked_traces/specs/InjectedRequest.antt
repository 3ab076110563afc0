-- A request that nobody posted begins a session of the target.
use Rattle.std.specs.Prelude.{[], ◌∷◌, codes}
use Rattle.exchange_trace.specs.declared.trace.Side.TheVariants as sides
use Rattle.exchange_trace.specs.Happenings.{Delivered, Ended, Injected, Ticked}
use Rattle.exchange_trace.specs.Lines.{Finish, Inject}
use Rattle.worked_traces.specs.Settings.{one_load}
use Rattle.worked_traces.specs.Walks.{WorkedRun}
use Rattle.worked_traces.specs.Writing.{l, on, t}

unfoldable pub run : WorkedRun
run = record {
  setting = one_load;
  script =
      Inject (l 40000 59 (codes "00014857315f4c2e4c5549006f6374657400"))
      ∷ Finish
      ∷ [];
  trace =
      on (Injected (l 40000 59 (codes "00014857315f4c2e4c5549006f6374657400"))) (t 1024 40000 (codes "00030001000000094133000100") ∷ [])
      ∷ on (Delivered sides.Loader 1) ([])
      ∷ on (Ticked sides.Target) (t 1024 40000 (codes "00030001000000094133000100") ∷ [])
      ∷ on (Delivered sides.Loader 2) ([])
      ∷ on (Ticked sides.Target) (t 1024 40000 (codes "00030001000000094133000100") ∷ [])
      ∷ on (Delivered sides.Loader 3) ([])
      ∷ on (Ticked sides.Target) (t 1024 40000 (codes "00030001000000094133000100") ∷ [])
      ∷ on (Delivered sides.Loader 4) ([])
      ∷ on (Ticked sides.Target) (t 1024 40000 (codes "00030001000000094133000100") ∷ [])
      ∷ on (Delivered sides.Loader 5) ([])
      ∷ on (Ticked sides.Target) (t 1024 40000 (codes "00030001000000094133000100") ∷ [])
      ∷ on (Delivered sides.Loader 6) ([])
      ∷ on (Ticked sides.Target) ([])
      ∷ on (Ended) ([])
      ∷ [];
}
