-- The commands (README.md).
use Rattle.std.specs.Prelude.{◌≡◌, ℕ, ◌<◌, ◌≤◌, ◌^◌, ◌-◌, ◌&&◌, nat_le, if◌then◌else◌, List, [], ◌∷◌, length, codes, map, All, String, string_bytes}
use Rattle.std.specs.declared.alloc.Global.{Global}
use Rattle.std.specs.Fmt.{decimal}
use Rattle.load_base.specs.Bytes.{same_bytes}
use Rattle.disk_layout.specs.Identity.{IsIdentity}
use Rattle.disk_layout.specs.declared.identity.Identity.{Identity}
use Rattle.shown_files.specs.Kinds.{IsNameOf}
use Rattle.shown_files.specs.declared.kind.ShownKind.{ShownKind}
use Rattle.loader_cli.specs.declared.command.Asked.{Asked}
use Rattle.loader_cli.specs.declared.command.Asked.TheVariants as asks
use Rattle.loader_cli.specs.declared.command.Command.{Command}
use Rattle.loader_cli.specs.declared.command.Command.TheVariants as commands

-- the bytes of each argument
abbrev pub texts_of : List (String Global) → List (List ℕ)
texts_of words = map string_bytes words

-- what arguments can ask for
pub data CommandView : Type 0 where
  -- `list`
  list : CommandView
  -- `format HW POS SERIAL BANK`, for this target
  format : (id : Identity) → CommandView
  -- `show FILE`, for a file of this kind
  show : (kind : ShownKind) (file : List ℕ) → CommandView
  -- `check FOLDER`
  check : (folder : List ℕ) → CommandView
  -- `build RECIPE FOLDER`
  build : (recipe folder : List ℕ) → CommandView
  -- `make NUMBER FOLDER`
  make : (number : ℕ) (folder : List ℕ) → CommandView
  -- `replay FOLDER SCRIPT`
  replay : (folder script : List ℕ) → CommandView
  -- `wire FOLDER SCRIPT`
  wire : (folder script : List ℕ) → CommandView
  -- `trial NUMBER`
  trial : (number : ℕ) → CommandView
  -- `rollback`
  rollback : CommandView
  -- `fleet COUNT FOLDER SCRIPT`, for so many units
  fleet : (count : ℕ) (folder script : List ℕ) → CommandView

-- 1 to 150 bytes 0x21 to 0x7E
abbrev pub IsWord : List ℕ → Type 0
IsWord word = (1 ≤ length word) × (length word ≤ 150) × All (λ b. (0x21 ≤ b) × (b ≤ 0x7E)) word

-- these arguments name this target, the bank size in decimal digits
pub record NamesTarget (hw pos serial bank : List ℕ) (id : Identity) : Type 0 where
  pub hw_is : hw ≡ id.hw
  pub pos_is : pos ≡ id.pos
  pub serial_is : serial ≡ id.serial
  pub bank_is : bank ≡ decimal id.bank
  pub fits : IsIdentity id

-- the words are this command, with no unit named before them
abbrev pub IsPlain : List (List ℕ) → CommandView → Type 0
IsPlain words list = words ≡ codes "list" ∷ []
IsPlain words (format id) = (words ≡ codes "format" ∷ id.hw ∷ id.pos ∷ id.serial ∷ decimal id.bank ∷ []) × IsIdentity id
IsPlain words (show kind file) = (words ≡ codes "show" ∷ file ∷ []) × IsWord file × IsNameOf kind file
IsPlain words (check folder) = (words ≡ codes "check" ∷ folder ∷ []) × IsWord folder
IsPlain words (build recipe folder) = (words ≡ codes "build" ∷ recipe ∷ folder ∷ []) × IsWord recipe × IsWord folder
IsPlain words (make number folder) = (words ≡ codes "make" ∷ decimal number ∷ folder ∷ []) × (number < 2 ^ 32) × IsWord folder
IsPlain words (replay folder script) = (words ≡ codes "replay" ∷ folder ∷ script ∷ []) × IsWord folder × IsWord script
IsPlain words (wire folder script) = (words ≡ codes "wire" ∷ folder ∷ script ∷ []) × IsWord folder × IsWord script
IsPlain words (trial number) = (words ≡ codes "trial" ∷ decimal number ∷ []) × (number < 2 ^ 32)
IsPlain words rollback = words ≡ codes "rollback" ∷ []
IsPlain words (fleet count folder script) = (words ≡ codes "fleet" ∷ decimal count ∷ folder ∷ script ∷ []) × (2 ≤ count) × (count ≤ 8) × IsWord folder × IsWord script

-- it looks after one unit, and can be asked for of each of them
abbrev pub LooksAfterUnit : CommandView → Type 0
LooksAfterUnit list = Unit {0}
LooksAfterUnit (format id) = Unit {0}
LooksAfterUnit rollback = Unit {0}
LooksAfterUnit command = ⊥

-- it runs a fleet, which has several disks
abbrev pub IsOfFleet : CommandView → Type 0
IsOfFleet (fleet count folder script) = Unit {0}
IsOfFleet command = ⊥

-- the arguments are this command
pub data IsCommand (words : List (List ℕ)) (command : CommandView) : Type 0 where
  plain : IsPlain words command → IsCommand words command
  -- `on N` and then its words, for unit N of eight
  on : (n : ℕ) (own : List (List ℕ)) → 1 ≤ n → n ≤ 8 → words ≡ codes "on" ∷ decimal n ∷ own → IsPlain own command → LooksAfterUnit command → IsCommand words command

-- the place, from 0, of the unit that a text from 1 to 8 names; of any other text the first
unfoldable pub unit_place : List ℕ → ℕ
unit_place (digit ∷ []) = if nat_le 0x31 digit && nat_le digit 0x38 then digit - 0x31 else 0
unit_place text = 0

-- the place, from 0, of the disk that the arguments use: that of unit N where they begin with `on N`, else the first
unfoldable pub disk_named : List (List ℕ) → ℕ
disk_named (word ∷ number ∷ own) = if same_bytes word (codes "on") then unit_place number else 0
disk_named words = 0

-- the arguments are no command of this sort
abbrev pub IsNo : (CommandView → Type 0) → List (List ℕ) → Type 0
IsNo Sort words = (command : CommandView) → IsCommand words command → ¬ Sort command

abbrev pub IsAny : CommandView → Type 0
IsAny command = Unit {0}

-- it makes calls of the disk
abbrev pub UsesDisk : CommandView → Type 0
UsesDisk list = Unit {0}
UsesDisk (format id) = Unit {0}
UsesDisk (show kind file) = ⊥
UsesDisk (check folder) = ⊥
UsesDisk (build recipe folder) = ⊥
UsesDisk (make number folder) = ⊥
UsesDisk (replay folder script) = Unit {0}
UsesDisk (wire folder script) = Unit {0}
UsesDisk (trial number) = Unit {0}
UsesDisk rollback = Unit {0}
UsesDisk (fleet count folder script) = Unit {0}

-- it writes to the disk
abbrev pub CommandWritesDisk : CommandView → Type 0
CommandWritesDisk list = ⊥
CommandWritesDisk (format id) = Unit {0}
CommandWritesDisk (show kind file) = ⊥
CommandWritesDisk (check folder) = ⊥
CommandWritesDisk (build recipe folder) = ⊥
CommandWritesDisk (make number folder) = ⊥
CommandWritesDisk (replay folder script) = Unit {0}
CommandWritesDisk (wire folder script) = Unit {0}
CommandWritesDisk (trial number) = Unit {0}
CommandWritesDisk rollback = Unit {0}
CommandWritesDisk (fleet count folder script) = Unit {0}

-- it formats the disk
abbrev pub FormatsDisk : CommandView → Type 0
FormatsDisk (format id) = Unit {0}
FormatsDisk command = ⊥

-- it formats the disk, or makes the disk's former configuration active again: what it leaves need not be good
abbrev pub FormatsOrRollsBack : CommandView → Type 0
FormatsOrRollsBack (format id) = Unit {0}
FormatsOrRollsBack rollback = Unit {0}
FormatsOrRollsBack command = ⊥

-- it reads or writes files of the host
abbrev pub UsesHost : CommandView → Type 0
UsesHost list = ⊥
UsesHost (format id) = ⊥
UsesHost (show kind file) = Unit {0}
UsesHost (check folder) = Unit {0}
UsesHost (build recipe folder) = Unit {0}
UsesHost (make number folder) = Unit {0}
UsesHost (replay folder script) = Unit {0}
UsesHost (wire folder script) = Unit {0}
UsesHost (trial number) = ⊥
UsesHost rollback = ⊥
UsesHost (fleet count folder script) = Unit {0}

-- it writes files of the host
abbrev pub WritesHost : CommandView → Type 0
WritesHost list = ⊥
WritesHost (format id) = ⊥
WritesHost (show kind file) = ⊥
WritesHost (check folder) = ⊥
WritesHost (build recipe folder) = Unit {0}
WritesHost (make number folder) = Unit {0}
WritesHost (replay folder script) = ⊥
WritesHost (wire folder script) = ⊥
WritesHost (trial number) = ⊥
WritesHost rollback = ⊥
WritesHost (fleet count folder script) = ⊥

-- it runs a script
abbrev pub UsesScript : CommandView → Type 0
UsesScript (replay folder script) = Unit {0}
UsesScript (wire folder script) = Unit {0}
UsesScript (trial number) = Unit {0}
UsesScript (fleet count folder script) = Unit {0}
UsesScript command = ⊥

abbrev pub command_view : Command → CommandView
command_view commands.List = list
command_view (commands.Format identity) = format identity
command_view (commands.Show kind file) = show kind file.now
command_view (commands.Check folder) = check folder.now
command_view (commands.Build recipe folder) = build recipe.now folder.now
command_view (commands.Make number folder) = make number folder.now
command_view (commands.Replay folder script) = replay folder.now script.now
command_view (commands.Wire folder script) = wire folder.now script.now
command_view (commands.Trial number) = trial number
command_view commands.Rollback = rollback

abbrev pub asked_view : Asked → CommandView
asked_view (asks.OfUnit command disk) = command_view command
asked_view (asks.OfFleet count folder script) = fleet count folder.now script.now

-- the disk that is asked for is the one that the arguments name, and a fleet has two to eight
abbrev pub UsesDisks : List (List ℕ) → Asked → Type 0
UsesDisks words (asks.OfUnit command disk) = (disk ≡ disk_named words) × (disk < 8)
UsesDisks words (asks.OfFleet count folder script) = (2 ≤ count) × (count ≤ 8)

-- these words after `fleet` ask for this
abbrev pub IsFleetOf : (count folder script : List ℕ) → Asked → Type 0
IsFleetOf count folder script (asks.OfUnit command disk) = ⊥
IsFleetOf count folder script (asks.OfFleet units own_folder own_script) =
    (count ≡ decimal units) × (2 ≤ units) × (units ≤ 8) × (own_folder.now ≡ folder) × (own_script.now ≡ script) × IsWord folder × IsWord script
