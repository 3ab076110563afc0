-- An upload begins.
use Rattle.std.proofs.Common.{◌≡◌, ◌≤◌, List, [], length, map, arith}
use Rattle.bank_store.specs.declared.store.Store.{Store}
use Rattle.disk_model.specs.State.{DiskState}
use Rattle.disk_layout.specs.declared.manifest.ManifestLoad.{ManifestLoad}
use Rattle.disk_layout.specs.Manifest.{entry_view}
use Rattle.load_protocol_files.specs.declared.lur.Wanted.{Wanted}
use Rattle.session_rules.specs.Buffers.{Buffer}
use Rattle.session_rules.specs.Uploads.{need_of}
use Rattle.load_intake.specs.declared.place.Place.TheVariants as places
use Rattle.load_intake.specs.Kept.{IsIntake, intake_of}
use Rattle.load_intake.specs.States.{WholeView}
use Rattle.load_intake.specs.Stores.{StoreGoesOn, StoreHas, StaysInStep}
use Rattle.load_intake.proofs.Sizes.{head_size}

-- no loads need the four bytes with which a manifest begins
need_none : 4 ≡ need_of []
unfolding need_of
need_none = omega (arith, head_size 0)

abbrev new_whole : List Wanted → List ManifestLoad → WholeView
new_whole request loads = record { request = request; loads = map entry_view loads; need = 4 }

pub new_intake : (request : List Wanted) (loads : List ManifestLoad) (b : Buffer) → loads ≡ [] → 1 ≤ length request → length request ≤ 32 → IsIntake (intake_of (new_whole request loads) (places.Header b)) 4
new_intake request loads b none some few = rw none (record { few = few; left = omega (arith, some); need = need_none; next = tt; holds = omega arith })

pub begins_in_step : (request : List Wanted) (loads : List ManifestLoad) (b : Buffer) (before store : Store) (d e : DiskState) → loads ≡ [] → length request ≤ 32 → StoreHas store [] 0 0 → StoreGoesOn before store d e
    → StaysInStep (intake_of (new_whole request loads) (places.Header b)) before store d e
begins_in_step request loads b before store d e none few has goes =
    rw none (record {
      in_step = record {
        has = has;
        fits = omega (arith, need_none, store.keeps.is_size.0);
        keeps = λ active knows. record { few = omega (arith, few); fits = omega (arith, need_none, store.keeps.is_size.0) };
      };
      goes_on = goes;
    })
