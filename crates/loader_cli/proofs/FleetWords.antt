-- Arguments that ask for a fleet.
use Rattle.std.proofs.Common.{◌≡◌, ℕ, ◌≤◌, List, [], ◌∷◌, length, get_or, Option, Some, None, refl, sym, subst, arith}
use Rattle.std.specs.Prelude.{IfNone, IfSome, String, string_bytes, codes}
use Rattle.std.specs.Fmt.{decimal}
use Rattle.std.specs.declared.alloc.Global.{Global}
use Rattle.loader_cli.specs.Commands.{CommandView, IsAny, IsFleetOf, IsNo, IsPlain, IsWord, UsesDisks, texts_of}
use Rattle.loader_cli.specs.Commands.CommandView.{list, format, show, check, build, make, replay, wire, trial, rollback, fleet}
use Rattle.loader_cli.specs.Commands.IsCommand.{on, plain}
use Rattle.loader_cli.specs.declared.command.Asked.{Asked}
use Rattle.loader_cli.specs.declared.command.Asked.TheVariants as asks
use Rattle.loader_cli.proofs.Named.{fleet_alone, fleet_no_on, spelled_fleet}

pub are_three : {A : Type 0} (words : List A) (a b c : A) → length words ≡ 3 → a ≡ get_or words 0 a → b ≡ get_or words 1 b → c ≡ get_or words 2 c → words ≡ a ∷ b ∷ c ∷ []
are_three (x ∷ y ∷ z ∷ []) a b c size p q r = rw (p, q, r) refl
are_three [] a b c size p q r = absurd (omega (arith, size))
are_three (x ∷ []) a b c size p q r = absurd (omega (arith, size))
are_three (x ∷ y ∷ []) a b c size p q r = absurd (omega (arith, size))
are_three (x ∷ y ∷ z ∷ (u ∷ others)) a b c size p q r = absurd (omega (arith, size))

-- ---- plain words

module _ (units folder script : List ℕ) where
  abbrev Refused : Type 0
  Refused = (n : ℕ) → units ≡ decimal n → 2 ≤ n → n ≤ 8 → ¬ (IsWord folder × IsWord script)

  abbrev fleet_words : List (List ℕ)
  fleet_words = codes "fleet" ∷ units ∷ folder ∷ script ∷ []

  never_plain : Refused → (command : CommandView) → IsPlain fleet_words command → ⊥
  never_plain refused list is = fleet_alone (units ∷ folder ∷ script ∷ []) list is
  never_plain refused (format id) is = fleet_alone (units ∷ folder ∷ script ∷ []) (format id) is
  never_plain refused (show kind file) is = fleet_alone (units ∷ folder ∷ script ∷ []) (show kind file) is
  never_plain refused (check other) is = fleet_alone (units ∷ folder ∷ script ∷ []) (check other) is
  never_plain refused (build recipe other) is = fleet_alone (units ∷ folder ∷ script ∷ []) (build recipe other) is
  never_plain refused (make number other) is = fleet_alone (units ∷ folder ∷ script ∷ []) (make number other) is
  never_plain refused (replay other name) is = fleet_alone (units ∷ folder ∷ script ∷ []) (replay other name) is
  never_plain refused (wire other name) is = fleet_alone (units ∷ folder ∷ script ∷ []) (wire other name) is
  never_plain refused (trial number) is = fleet_alone (units ∷ folder ∷ script ∷ []) (trial number) is
  never_plain refused rollback is = fleet_alone (units ∷ folder ∷ script ∷ []) rollback is
  never_plain refused (fleet count other name) is =
      let same : codes "fleet" ∷ units ∷ folder ∷ script ∷ [] ≡ codes "fleet" ∷ decimal count ∷ other ∷ name ∷ [] = is.0 in
      let counts : units ≡ decimal count = cc in
      let folders : other ≡ folder = cc in
      let names : name ≡ script = cc in
      refused count counts is.1 is.2 (subst IsWord folders is.3, subst IsWord names is.4)

  pub never_fleet_words : Refused → IsNo IsAny fleet_words
  never_fleet_words refused command (plain is) any = never_plain refused command is
  never_fleet_words refused command (on n own low high is own_is looks) any = fleet_no_on (units ∷ folder ∷ script ∷ []) own (decimal n) is

-- ---- the program's arguments

module _ (words : List (String Global)) (units folder script : String Global) (split : words ≡ units ∷ folder ∷ script ∷ []) where
  disks_are : (asked : Asked) → IsFleetOf (string_bytes units) (string_bytes folder) (string_bytes script) asked → UsesDisks (codes "fleet" ∷ texts_of words) asked
  disks_are (asks.OfUnit command disk) is = absurd is
  disks_are (asks.OfFleet count own_folder own_script) is = (is.1, is.2)

  pub fleet_uses_disks : (asked : Option Asked) → IfSome asked (IsFleetOf (string_bytes units) (string_bytes folder) (string_bytes script)) → IfSome asked (UsesDisks (codes "fleet" ∷ texts_of words))
  fleet_uses_disks None is = tt
  fleet_uses_disks (Some asked) is = disks_are asked is

  pub fleet_none : (asked : Option Asked) → IfNone asked (Refused (string_bytes units) (string_bytes folder) (string_bytes script)) → IfNone asked (IsNo IsAny (codes "fleet" ∷ texts_of words))
  fleet_none None refused =
      subst (IsNo IsAny) (sym (spelled_fleet words units folder script split)) (never_fleet_words (string_bytes units) (string_bytes folder) (string_bytes script) refused)
  fleet_none (Some asked) refused = tt
