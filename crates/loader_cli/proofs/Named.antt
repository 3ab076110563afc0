-- Which disks the arguments use.
use Rattle.std.proofs.Common.{◌≡◌, ℕ, zero, suc, ◌+◌, ◌<◌, ◌≤◌, List, [], ◌∷◌, Bool, true, false, refl, sym, ap, subst, ◌∙◌, arith}
use Rattle.std.specs.Fmt.{decimal}
use Rattle.std.specs.Prelude.{String, string_bytes, codes, nat_le, ◌-◌, ◌&&◌, if◌then◌else◌}
use Rattle.std.proofs.lemmas.Bool.{leb-true}
use Rattle.std.proofs.lemmas.Fmt.{decimal_digit}
use Rattle.std.specs.declared.alloc.Global.{Global}
use Rattle.load_base.specs.Bytes.{same_bytes}
use Rattle.load_base.proofs.EqualityLemmas.{equal_bytes}
use Rattle.loader_cli.specs.Commands.{CommandView, IsCommand, IsPlain, LooksAfterUnit, IsOfFleet, command_view, disk_named, texts_of, unit_place}
use Rattle.loader_cli.specs.Commands.IsCommand.{on}
use Rattle.loader_cli.specs.declared.command.Command.{Command}
use Rattle.loader_cli.specs.declared.command.Command.TheVariants as commands
use Rattle.loader_cli.specs.Commands.CommandView.{list, format, show, check, build, make, replay, wire, trial, rollback, fleet}

-- the words of a command name no unit
pub plain_names_first : (words : List (List ℕ)) (command : CommandView) → IsPlain words command → disk_named words ≡ 0
unfolding disk_named
plain_names_first words list is = ap disk_named is
plain_names_first words (format id) is = ap disk_named is.0
plain_names_first words (show kind file) is = ap disk_named is.0
plain_names_first words (check folder) is = ap disk_named is.0
plain_names_first words (build recipe folder) is = ap disk_named is.0
plain_names_first words (make number folder) is = ap disk_named is.0
plain_names_first words (replay folder script) is = ap disk_named is.0
plain_names_first words (wire folder script) is = ap disk_named is.0
plain_names_first words (trial number) is = ap disk_named is.0
plain_names_first words rollback is = ap disk_named is
plain_names_first words (fleet count folder script) is = ap disk_named is.0

named_by_digit : (place : ℕ) (own : List (List ℕ)) → place < 8 → disk_named (codes "on" ∷ ((48 + (place + 1)) ∷ []) ∷ own) ≡ place
unfolding disk_named unit_place
named_by_digit zero own few = refl
named_by_digit (suc zero) own few = refl
named_by_digit (suc (suc zero)) own few = refl
named_by_digit (suc (suc (suc zero))) own few = refl
named_by_digit (suc (suc (suc (suc zero)))) own few = refl
named_by_digit (suc (suc (suc (suc (suc zero))))) own few = refl
named_by_digit (suc (suc (suc (suc (suc (suc zero)))))) own few = refl
named_by_digit (suc (suc (suc (suc (suc (suc (suc zero))))))) own few = refl
named_by_digit (suc (suc (suc (suc (suc (suc (suc (suc place)))))))) own few = absurd (omega (arith, few))

-- `on N` names unit N
pub on_names : (place : ℕ) (own : List (List ℕ)) → place < 8 → disk_named (codes "on" ∷ decimal (place + 1) ∷ own) ≡ place
on_names place own few = ap (λ text. disk_named (codes "on" ∷ text ∷ own)) (decimal_digit (place + 1) (omega (arith, few))) ∙ named_by_digit place own few

pub names : (words own : List (List ℕ)) (n : ℕ) → 1 ≤ n → n ≤ 8 → words ≡ codes "on" ∷ decimal n ∷ own → disk_named words + 1 ≡ n
names words own n low high is =
    let back : n - 1 + 1 ≡ n = omega (arith, low) in
    let place : disk_named (codes "on" ∷ decimal n ∷ own) ≡ n - 1 = subst (λ (m : ℕ). disk_named (codes "on" ∷ decimal m ∷ own) ≡ n - 1) back (on_names (n - 1) own (omega (arith, low, high))) in
    omega (arith, ap disk_named is ∙ place, low)

-- and no arguments name one beyond the eighth
place_below : (text : List ℕ) → unit_place text < 8
unfolding unit_place
place_below [] = omega arith
place_below (digit ∷ other ∷ text) = omega arith
place_below (digit ∷ []) = by (nat_le 0x31 digit) refl (nat_le digit 0x38) refl
  where
    by : (low : Bool) → nat_le 0x31 digit ≡ low → (high : Bool) → nat_le digit 0x38 ≡ high → (if low && high then digit - 0x31 else 0) < 8
    by true least true most = omega (arith, leb-true digit 0x38 most)
    by true least false most = omega arith
    by false least high most = omega arith

pub named_below : (words : List (List ℕ)) → disk_named words < 8
unfolding disk_named
named_below [] = omega arith
named_below (word ∷ []) = omega arith
named_below (word ∷ number ∷ own) = by (same_bytes word (codes "on"))
  where
    by : (is : Bool) → (if is then unit_place number else 0) < 8
    by true = place_below number
    by false = omega arith

-- the words of a command don't begin with `on`
pub begins_with_no_on : (number : List ℕ) (own : List (List ℕ)) (command : CommandView) → IsPlain (codes "on" ∷ number ∷ own) command → ⊥
begins_with_no_on number own list is = absurd cc
begins_with_no_on number own (format id) is = let no = is.0 in absurd cc
begins_with_no_on number own (show kind file) is = let no = is.0 in absurd cc
begins_with_no_on number own (check folder) is = let no = is.0 in absurd cc
begins_with_no_on number own (build recipe folder) is = let no = is.0 in absurd cc
begins_with_no_on number own (make number_2 folder) is = let no = is.0 in absurd cc
begins_with_no_on number own (replay folder script) is = let no = is.0 in absurd cc
begins_with_no_on number own (wire folder script) is = let no = is.0 in absurd cc
begins_with_no_on number own (trial number_2) is = let no = is.0 in absurd cc
begins_with_no_on number own rollback is = absurd cc
begins_with_no_on number own (fleet count folder script) is = let no = is.0 in absurd cc

word_first : List (List ℕ) → List ℕ
word_first [] = []
word_first (word ∷ words) = word

apart : (one other : List ℕ) → one ≡ other → same_bytes one other ≡ false → ⊥
apart one other same differ = let both : true ≡ false = sym ((equal_bytes one other).1 same) ∙ differ in cc

-- no command but that of a fleet begins with `fleet`
pub fleet_alone : (own : List (List ℕ)) (command : CommandView) → IsPlain (codes "fleet" ∷ own) command → IsOfFleet command
unfolding word_first
fleet_alone own list is = absurd (apart (codes "fleet") (codes "list") (ap word_first is) refl)
fleet_alone own (format id) is = absurd (apart (codes "fleet") (codes "format") (ap word_first is.0) refl)
fleet_alone own (show kind file) is = absurd (apart (codes "fleet") (codes "show") (ap word_first is.0) refl)
fleet_alone own (check folder) is = absurd (apart (codes "fleet") (codes "check") (ap word_first is.0) refl)
fleet_alone own (build recipe folder) is = absurd (apart (codes "fleet") (codes "build") (ap word_first is.0) refl)
fleet_alone own (make number folder) is = absurd (apart (codes "fleet") (codes "make") (ap word_first is.0) refl)
fleet_alone own (replay folder script) is = absurd (apart (codes "fleet") (codes "replay") (ap word_first is.0) refl)
fleet_alone own (wire folder script) is = absurd (apart (codes "fleet") (codes "wire") (ap word_first is.0) refl)
fleet_alone own (trial number) is = absurd (apart (codes "fleet") (codes "trial") (ap word_first is.0) refl)
fleet_alone own rollback is = absurd (apart (codes "fleet") (codes "rollback") (ap word_first is) refl)
fleet_alone own (fleet count folder script) is = tt

-- what one unit can be asked for is no fleet
pub never_fleet : (command : Command) → ¬ IsOfFleet (command_view command)
never_fleet commands.List is = is
never_fleet (commands.Format identity) is = is
never_fleet (commands.Show kind file) is = is
never_fleet (commands.Check folder) is = is
never_fleet (commands.Build recipe folder) is = is
never_fleet (commands.Make number folder) is = is
never_fleet (commands.Replay folder script) is = is
never_fleet (commands.Wire folder script) is = is
never_fleet (commands.Trial number) is = is
never_fleet commands.Rollback is = is

-- ---- arguments in which a unit is named

pub asks_words : (words own : List (String Global)) (number : String Global) → words ≡ number ∷ own → codes "on" ∷ texts_of words ≡ codes "on" ∷ string_bytes number ∷ texts_of own
asks_words words own number split = ap (λ (all : List (String Global)). codes "on" ∷ texts_of all) split

module _ (words own : List (String Global)) (number : String Global) (place : ℕ) (split : words ≡ number ∷ own) (is : string_bytes number ≡ decimal (place + 1)) (few : place < 8) where
  spelled : codes "on" ∷ texts_of words ≡ codes "on" ∷ decimal (place + 1) ∷ texts_of own
  spelled = ap (λ (all : List (String Global)). codes "on" ∷ texts_of all) split ∙ ap (λ (text : List ℕ). codes "on" ∷ text ∷ texts_of own) is

  pub asks_unit : (command : CommandView) → IsPlain (texts_of own) command → LooksAfterUnit command → IsCommand (codes "on" ∷ texts_of words) command
  asks_unit command asked looks = on (place + 1) (texts_of own) (omega arith) (omega (arith, few)) spelled asked looks

  pub names_unit : disk_named (codes "on" ∷ texts_of words) ≡ place
  names_unit = ap disk_named spelled ∙ on_names place (texts_of own) few

-- ---- arguments of a fleet

pub fleet_no_on : (rest own : List (List ℕ)) (number : List ℕ) → codes "fleet" ∷ rest ≡ codes "on" ∷ number ∷ own → ⊥
unfolding word_first
fleet_no_on rest own number is = apart (codes "fleet") (codes "on") (ap word_first is) refl

module _ (words : List (String Global)) (units folder script : String Global) (split : words ≡ units ∷ folder ∷ script ∷ []) where
  pub spelled_fleet : codes "fleet" ∷ texts_of words ≡ codes "fleet" ∷ string_bytes units ∷ string_bytes folder ∷ string_bytes script ∷ []
  spelled_fleet = ap (λ (all : List (String Global)). codes "fleet" ∷ texts_of all) split
