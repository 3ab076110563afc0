-- What is kept is the same with all contents and without them.
use Rattle.std.proofs.Common.{◌≡◌, ℕ, ◌+◌, ◌-◌, Bool, true, false, cond, List, [], ◌∷◌, ◌++◌, refl, sym, ap, ◌∙◌}
use Rattle.std.proofs.lemmas.List.{map-append}
use Rattle.std.proofs.lemmas.List.Concat.{flat_map-cons}
use Rattle.load_base.specs.Config.{LoadView}
use Rattle.disk_layout.specs.Contents.{entries_of, entry_of}
use Rattle.disk_layout.specs.Holds.{Outline, StandingView, outline_of}
use Rattle.disk_layout.specs.Manifest.{LoadEntry}
use Rattle.session_rules.specs.KeptLoads.{has_other_type, kept_entries, kept_loads, said_type, types_in, types_of, with_kept, with_kept_entries}
use Rattle.session_rules.specs.Target.{outline_after}
use Rattle.session_rules.specs.TargetLog.{standing_after}

pub types_same : (loads : List LoadView) → types_in loads ≡ types_of (entries_of loads)
types_same [] = refl
types_same (l ∷ ls) =
    flat_map-cons (λ (x : LoadView). said_type x.type_id) l ls
    ∙ (ap (λ (types : List ℕ). said_type l.type_id ++ types) (types_same ls)
    ∙ sym (flat_map-cons (λ (x : LoadEntry). said_type x.type_id) (entry_of l) (entries_of ls)))

one_same : (stays : Bool) (l : LoadView) (ls : List LoadView) (entries : List LoadEntry) → entries_of ls ≡ entries → entries_of (cond stays (l ∷ ls) ls) ≡ cond stays (entry_of l ∷ entries) entries
one_same true l ls entries e = ap (λ (rest : List LoadEntry). entry_of l ∷ rest) e
one_same false l ls entries e = e

pub kept_same : (types : List ℕ) (loads : List LoadView) → entries_of (kept_loads types loads) ≡ kept_entries types (entries_of loads)
kept_same types [] = refl
kept_same types (l ∷ ls) = one_same (has_other_type types l.type_id) l (kept_loads types ls) (kept_entries types (entries_of ls)) (kept_same types ls)

pub with_kept_same : (new active : List LoadView) → entries_of (with_kept new active) ≡ with_kept_entries (entries_of new) (entries_of active)
with_kept_same new active =
    map-append entry_of new (kept_loads (types_in new) active)
    ∙ ap (λ (rest : List LoadEntry). entries_of new ++ rest) (kept_same (types_in new) active ∙ ap (λ (types : List ℕ). kept_entries types (entries_of active)) (types_same new))

-- so it is of what is active after an installation
abbrev in_other_bank : StandingView → List LoadEntry → Outline
in_other_bank s entries = record { identity = s.identity; bank = 1 - s.bank; sequence = s.sequence + 1; loads = entries }

pub installed_same : (s : StandingView) (loads : List LoadView) → outline_of (standing_after s loads) ≡ outline_after (outline_of s) (entries_of loads)
installed_same s loads = ap (in_other_bank s) (with_kept_same loads s.loads)
