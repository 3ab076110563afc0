-- Which loads of the active configuration an upload keeps (docs/EXCHANGE.md, "Upload").
use Rattle.std.specs.Prelude.{ℕ, List, [], ◌∷◌, ◌++◌, map, filter, Bool, false, not, ◌==◌, Option, Some, None}
use Rattle.std.specs.List.{flat_map, list_any}
use Rattle.load_base.specs.Config.{LoadView}
use Rattle.accept_rules.specs.declared.kept.KeptLoad.{KeptLoad}
use Rattle.disk_layout.specs.Manifest.{LoadEntry}

-- A load has a type id, and it is none of these. Where a manifest is of layout 1, no load has one.
abbrev pub has_other_type : (types : List ℕ) → Option ℕ → Bool
has_other_type types None = false
has_other_type types (Some id) = not (list_any (λ one. one == id) types)

-- the type ids of loads, of those that have one
abbrev pub said_type : Option ℕ → List ℕ
said_type None = []
said_type (Some id) = id ∷ []

abbrev pub types_of : List LoadEntry → List ℕ
types_of loads = flat_map (λ (l : LoadEntry). said_type l.type_id) loads

abbrev pub types_in : List LoadView → List ℕ
types_in loads = flat_map (λ (l : LoadView). said_type l.type_id) loads

-- the loads that are kept beside headers with these type ids, in their order
abbrev pub kept_entries : (types : List ℕ) → List LoadEntry → List LoadEntry
kept_entries types loads = filter (λ (l : LoadEntry). has_other_type types l.type_id) loads

-- and with all contents
abbrev pub kept_loads : (types : List ℕ) → List LoadView → List LoadView
kept_loads types loads = filter (λ (l : LoadView). has_other_type types l.type_id) loads

-- as the interlock is told of them
abbrev pub told_load : LoadEntry → List KeptLoad
told_load l = map (λ (id : ℕ). record { part = l.part; type_id = id }) (said_type l.type_id)

abbrev pub told_loads : List LoadEntry → List KeptLoad
told_loads loads = flat_map told_load loads

-- What is active once these loads, which were asked for, are installed: them, and then those of the active ones that have a type
-- id which none of them has.
abbrev pub with_kept : (new active : List LoadView) → List LoadView
with_kept new active = new ++ kept_loads (types_in new) active

-- and without the contents
abbrev pub with_kept_entries : (new active : List LoadEntry) → List LoadEntry
with_kept_entries new active = new ++ kept_entries (types_of new) active
