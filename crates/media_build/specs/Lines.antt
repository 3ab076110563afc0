-- The lines of a recipe: their keywords, where they may stand, and what those before a line have in them
-- (docs/FORMATS.md, "Recipe").
use Rattle.std.specs.Prelude.{ℕ, List, [], ◌∷◌, length, codes, reverse, filter, Bool, true, false, not, ◌==◌, nat_le, ◌&&◌, Option, Some, None, if◌then◌else◌}
use Rattle.std.specs.List.{flat_map, list_any, take_while, slice_split}
use Rattle.load_base.specs.Bytes.{same_bytes}
use Rattle.media_build.specs.declared.keywords.Keyword.{Keyword}
use Rattle.media_build.specs.declared.keywords.Keyword.TheVariants as keywords
use Rattle.media_build.specs.declared.keywords.Stage.{Stage}
use Rattle.media_build.specs.declared.keywords.Stage.TheVariants as stages
use Rattle.media_build.specs.declared.statements.RecipeLine.{RecipeLine}
use Rattle.media_build.specs.declared.statements.Statement.{Statement}
use Rattle.media_build.specs.declared.statements.Statement.TheVariants.{Members, Load, Data, Support, User, Batch, Target}

-- ---- keywords

-- the keyword that a word is
unfoldable pub keyword_of : List ℕ → Option Keyword
keyword_of word =
    if same_bytes word (codes "set") then Some keywords.Set
    else if same_bytes word (codes "members") then Some keywords.Members
    else if same_bytes word (codes "load") then Some keywords.Load
    else if same_bytes word (codes "hardware") then Some keywords.Hardware
    else if same_bytes word (codes "position") then Some keywords.Position
    else if same_bytes word (codes "data") then Some keywords.Data
    else if same_bytes word (codes "support") then Some keywords.Support
    else if same_bytes word (codes "user") then Some keywords.User
    else if same_bytes word (codes "batch") then Some keywords.Batch
    else if same_bytes word (codes "target") then Some keywords.Target
    else None

-- ---- in which order

-- what lines end with whose last one says this
abbrev pub stage_after : Statement → Stage
stage_after (Batch batch) = stages.Batch
stage_after (Target target) = stages.Targets
stage_after statement = stages.Loads

abbrev pub stage_of_last : (lines_backwards : List RecipeLine) → Stage
stage_of_last [] = stages.Loads
stage_of_last (line ∷ lines) = stage_after line.statement

-- what lines end with
unfoldable pub stage_of : List RecipeLine → Stage
stage_of lines = stage_of_last (reverse lines)

-- no batch has begun
abbrev pub is_among_loads : Stage → Bool
is_among_loads stages.Loads = true
is_among_loads stage = false

-- no batch is left without a target
abbrev pub is_whole : Stage → Bool
is_whole stages.Batch = false
is_whole stage = true

-- A line may stand after this many others, which end so: `set` first, `members` second, a load third. From the fourth line
-- on a load or a line of the load before it, until batches begin; a batch, where the one before it has a target; and once
-- they have begun, a target of the last batch.
unfoldable pub may_stand : (before : ℕ) → Stage → Keyword → Bool
may_stand before stage keywords.Set = before == 0
may_stand before stage keywords.Members = before == 1
may_stand before stage keywords.Load = nat_le 2 before && is_among_loads stage
may_stand before stage keywords.Batch = nat_le 3 before && is_whole stage
may_stand before stage keywords.Target = not (is_among_loads stage)
may_stand before stage keyword = nat_le 3 before && is_among_loads stage

-- a line may stand after these
abbrev pub may_follow : List RecipeLine → Keyword → Bool
may_follow lines keyword = may_stand (length lines) (stage_of lines) keyword

-- ---- words

-- the first two, and the 1 to 32 behind them
abbrev pub target_of : List (List ℕ) → Option (List ℕ × List ℕ × List (List ℕ))
target_of (a ∷ b ∷ others) = if nat_le 1 (length others) && nat_le (length others) 32 then Some (a, b, others) else None
target_of words = None

-- ---- the lines before a line

abbrev pub is_load : Statement → Bool
is_load (Load load) = true
is_load statement = false

-- a data or support file
abbrev pub is_file : Statement → Bool
is_file (Data file) = true
is_file (Support file) = true
is_file statement = false

abbrev pub is_user : Statement → Bool
is_user (User bytes) = true
is_user statement = false

abbrev pub is_batch : Statement → Bool
is_batch (Batch batch) = true
is_batch statement = false

abbrev pub is_target : Statement → Bool
is_target (Target target) = true
is_target statement = false

-- the lines of a load end here
abbrev pub ends_load : Statement → Bool
ends_load (Load load) = true
ends_load (Batch batch) = true
ends_load statement = false

-- the name that a line gives to a file
abbrev pub names_in : Statement → List (List ℕ)
names_in (Load load) = load.name ∷ []
names_in (Data file) = file.name ∷ []
names_in (Support file) = file.name ∷ []
names_in (Batch batch) = batch.name ∷ []
names_in statement = []

-- the part number that a line gives to a load
abbrev pub parts_in : Statement → List (List ℕ)
parts_in (Load load) = load.part ∷ []
parts_in statement = []

-- the number of members that a line gives
abbrev pub members_in : Statement → Option ℕ
members_in (Members count) = Some count
members_in statement = None

-- the names of the files of the set
unfoldable pub names_of : List RecipeLine → List (List ℕ)
names_of lines = flat_map (λ line. names_in line.statement) lines

-- a number that is given, or else another
abbrev pub given : Option ℕ → ℕ → ℕ
given (Some count) other = count
given None other = other

-- the first number of members that is given, or 0
abbrev pub first_count : List RecipeLine → ℕ
first_count [] = 0
first_count (line ∷ lines) = given (members_in line.statement) (first_count lines)

-- how many members there are, as the last `members` line says, which is the only one
unfoldable pub members_of : List RecipeLine → ℕ
members_of lines = first_count (reverse lines)

-- the lines after the last load, from the last one back
unfoldable pub lines_of_load : List RecipeLine → List RecipeLine
lines_of_load lines = take_while (λ line. not (is_load line.statement)) (reverse lines)

-- how many data and support files the last load has
abbrev pub files_of_load : List RecipeLine → ℕ
files_of_load lines = length (filter (λ line. is_file line.statement) (lines_of_load lines))

-- whether the last load has user data
abbrev pub has_user : List RecipeLine → Bool
has_user lines = list_any (λ line. is_user line.statement) (lines_of_load lines)

-- whether a file of this name stands there
abbrev pub is_used : List RecipeLine → List ℕ → Bool
is_used lines name = list_any (same_bytes name) (names_of lines)

-- a load has this part number
unfoldable pub is_loaded : List RecipeLine → (part : List ℕ) → Bool
is_loaded lines part = list_any (same_bytes part) (flat_map (λ line. parts_in line.statement) lines)

-- the targets of the last batch, from the last one back
unfoldable pub targets_of_batch : List RecipeLine → List RecipeLine
targets_of_batch lines = take_while (λ line. is_target line.statement) (reverse lines)

-- how many there are
abbrev pub target_count : List RecipeLine → ℕ
target_count lines = length (targets_of_batch lines)
