-- A session is replaced, and the next one given up.
use Rattle.std.specs.Prelude.{[], ◌∷◌, codes}
use Rattle.exchange_trace.specs.declared.trace.Side.TheVariants as sides
use Rattle.exchange_trace.specs.Happenings.{Ended, Info_started, Ticked, Upload_started}
use Rattle.exchange_trace.specs.Lines.{Info, Tick, Upload}
use Rattle.worked_traces.specs.Settings.{one_load}
use Rattle.worked_traces.specs.Walks.{WorkedRun}
use Rattle.worked_traces.specs.Writing.{l, on}

unfoldable pub run : WorkedRun
run = record {
  setting = one_load;
  script =
      Info (codes "HW1") (codes "L")
      ∷ Upload (codes "HW1") (codes "L") (codes "ABC41-0000-0001" ∷ [])
      ∷ Tick sides.Loader
      ∷ Tick sides.Loader
      ∷ Tick sides.Loader
      ∷ Tick sides.Loader
      ∷ Tick sides.Loader
      ∷ Tick sides.Loader
      ∷ [];
  trace =
      on (Info_started (codes "HW1") (codes "L")) (l 1024 59 (codes "00014857315f4c2e4c4349006f6374657400") ∷ [])
      ∷ on (Upload_started (codes "HW1") (codes "L") (codes "ABC41-0000-0001" ∷ [])) (l 1025 59 (codes "00014857315f4c2e4c5549006f6374657400") ∷ [])
      ∷ on (Ticked sides.Loader) (l 1025 59 (codes "00014857315f4c2e4c5549006f6374657400") ∷ [])
      ∷ on (Ticked sides.Loader) (l 1025 59 (codes "00014857315f4c2e4c5549006f6374657400") ∷ [])
      ∷ on (Ticked sides.Loader) (l 1025 59 (codes "00014857315f4c2e4c5549006f6374657400") ∷ [])
      ∷ on (Ticked sides.Loader) (l 1025 59 (codes "00014857315f4c2e4c5549006f6374657400") ∷ [])
      ∷ on (Ticked sides.Loader) (l 1025 59 (codes "00014857315f4c2e4c5549006f6374657400") ∷ [])
      ∷ on (Ticked sides.Loader) ([])
      ∷ on (Ended) ([])
      ∷ [];
}
