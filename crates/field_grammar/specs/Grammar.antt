-- A format as a tree of fields, and what it means that bytes are in it or are not.
use Rattle.std.specs.Prelude.{◌≡◌, ℕ, zero, suc, ◌+◌, ◌-◌, ◌<◌, List, [], ◌∷◌, ◌++◌, length, take, Result, Ok, Err, nat_lt, ◌==◌, if◌then◌else◌, ◌⊎◌, slice_index, Bool, true, false, MatchBool, Option, Some, None, option_map}
use Rattle.std.specs.List.{concat}
use Rattle.std.specs.Result.{result_map_both}
use Rattle.field_grammar.specs.Cursor.{Cursor, advanced}

-- each of the numbers is a byte
abbrev pub IsBytes : List ℕ → Type 0
IsBytes bytes = (i : ℕ) → slice_index bytes i < 256

-- `Grammar F A` is a format whose bytes say a value of A, or are refused with a fault of F.
pub data Grammar : Type 0 → Type 0 → Type 1 where
  -- no field: the value is this
  give : {F A : Type 0} → A → Grammar F A
  -- no field: what was read says this value, or is refused with this fault
  judge : {F A : Type 0} → Result A F → Grammar F A
  -- no field: a test of what was read, and the fault where it fails
  check : {F : Type 0} → Bool → F → Grammar F (Unit {0})
  -- the first format where the test holds, and else the second
  choose : {F A : Type 0} → Bool → Grammar F A → Grammar F A → Grammar F A
  -- a field of N bytes; where there are fewer, the fault of the offset where it begins
  field : {F : Type 0} → (ℕ → F) → ℕ → Grammar F (List ℕ)
  -- a field of the bytes up to a zero, and the zero; where there is none, the fault of the offset where it begins
  zero_ended : {F : Type 0} → (ℕ → F) → Grammar F (List ℕ)
  -- no field: the value is all that was read so far
  prefix : {F : Type 0} → Grammar F (List ℕ)
  -- no field: the value is how many bytes are left
  left : {F : Type 0} → Grammar F ℕ
  -- one format, and after it another that may depend on what the first says
  seq : {F A B : Type 0} → Grammar F A → (A → Grammar F B) → Grammar F B
  -- the same format with other faults
  renamed : {E F A : Type 0} → (E → F) → Grammar E A → Grammar F A

-- ---- formats made of others

infixl 10 ◌>>=◌
abbrev pub ◌>>=◌ : {F A B : Type 0} → Grammar F A → (A → Grammar F B) → Grammar F B
g >>= k = seq g k

infixl 10 ◌>>◌
abbrev pub ◌>>◌ : {F A B : Type 0} → Grammar F A → Grammar F B → Grammar F B
g >> h = seq g (λ _. h)

-- one value and then another
abbrev pub pair : {F A B : Type 0} → Grammar F A → Grammar F B → Grammar F (A × B)
pair g h = do
  x ← g
  y ← h
  give (x, y)

-- the same value in another form
abbrev pub mapped : {F A B : Type 0} → (A → B) → Grammar F A → Grammar F B
mapped f g = do
  x ← g
  give (f x)

-- this number, and the fault of any other
abbrev pub expected : {F : Type 0} → Grammar F ℕ → ℕ → (ℕ → F) → Grammar F (Unit {0})
expected g wanted wrong = do
  found ← g
  check (found == wanted) (wrong found)

-- what a verdict makes of a value and of the position where it begins: another value, or a fault
abbrev pub judged : {F A B : Type 0} → Grammar F A → (ℕ → A → Result B F) → Grammar F B
judged g verdict = do
  before ← prefix
  x ← g
  judge (verdict (length before) x)

-- a number that says how many bytes there are from its own first byte on
abbrev pub sized : {F : Type 0} → Grammar F ℕ → (ℕ → ℕ) → (ℕ → ℕ → F) → Grammar F ℕ
sized g bytes_of wrong = do
  size ← left
  said ← g
  check (bytes_of said == size) (wrong said size)
  give said

-- a value after a number that is due to how many bytes the two take
abbrev pub measured : {F A : Type 0} → Grammar F ℕ → (ℕ → ℕ) → F → Grammar F A → Grammar F A
measured g due wrong item = do
  start ← prefix
  said ← g
  x ← item
  stop ← prefix
  check (said == due (length stop - length start)) wrong
  give x

-- a test that the bytes end here, and the fault of the offset where they go on
abbrev pub ended : {F : Type 0} → (ℕ → F) → Grammar F (Unit {0})
ended more = do
  before ← prefix
  size ← left
  check (size == 0) (more (length before))

-- N values of one kind
unfoldable pub times : {F A : Type 0} → ℕ → Grammar F A → Grammar F (List A)
times zero g = give []
times (suc n) g = do
  x ← g
  xs ← times n g
  give (x ∷ xs)

-- N values, each of which may depend on those before it
unfoldable pub listed : {F A : Type 0} → ℕ → (List A → Grammar F A) → List A → Grammar F (List A)
listed zero item so_far = give so_far
listed (suc n) item so_far = do
  x ← item so_far
  listed n item (so_far ++ x ∷ [])

-- ---- reading

infixl 10 ◌then◌
-- the next step where the first has a value
abbrev pub ◌then◌ : {F A B : Type 0} → Result A F → (A → Result B F) → Result B F
(Ok x) then k = k x
(Err e) then k = Err e

-- the value with the position, where there is a value
abbrev pub stays : {F A : Type 0} → Cursor → Result A F → Result (A × Cursor) F
stays c (Ok x) = Ok (x, c)
stays c (Err e) = Err e

-- the next n bytes, or the fault of the offset where they should begin
abbrev pub field_at : {F : Type 0} → (ℕ → F) → ℕ → Cursor → Result (List ℕ × Cursor) F
field_at short n c = if nat_lt (length c.rest) n then Err (short (length c.before)) else Ok (take n c.rest, advanced n c)

-- how many bytes stand before the first zero
abbrev pub before_zero : List ℕ → Option ℕ
before_zero [] = None
before_zero (zero ∷ bytes) = Some 0
before_zero (suc b ∷ bytes) = option_map suc (before_zero bytes)

-- N bytes and the zero after them, or the fault of the offset where they should begin
abbrev pub zero_ended_at : {F : Type 0} → (ℕ → F) → Cursor → Option ℕ → Result (List ℕ × Cursor) F
zero_ended_at short c None = Err (short (length c.before))
zero_ended_at short c (Some n) = Ok (take n c.rest, advanced (suc n) c)

-- What the format reads from a position: a value and the position after its fields, or the first fault
-- that is met from left to right.
abbrev pub read : {F A : Type 0} → Grammar F A → Cursor → Result (A × Cursor) F
read (give x) c = Ok (x, c)
read (judge r) c = stays c r
read (check b f) c = if b then Ok (tt, c) else Err f
read (choose b x y) c = if b then read x c else read y c
read (field short n) c = field_at short n c
read (zero_ended short) c = zero_ended_at short c (before_zero c.rest)
read prefix c = Ok (c.before, c)
read left c = Ok (length c.rest, c)
read (seq g k) c = read g c then (λ x. read (k x.0) x.1)
read (renamed m g) c = result_map_both (λ x. x) m (read g c)

-- ---- what a format says of fields

-- no byte is zero
abbrev pub HasNoZero : List ℕ → Type 0
HasNoZero bytes = before_zero bytes ≡ None

-- These fields, after those bytes and before that many others, follow the format to its end and pass
-- its tests, and this is the value that they say.
abbrev pub Follows : {F A : Type 0} → Grammar F A → List ℕ → List (List ℕ) → ℕ → A → Type 0
Follows (give x) before fields after value = (fields ≡ []) × (x ≡ value)
Follows (judge r) before fields after value = (fields ≡ []) × (r ≡ Ok value)
Follows (check b f) before fields after value = (fields ≡ []) × (b ≡ true)
Follows (choose b x y) before fields after value = MatchBool b (Follows x before fields after value) (Follows y before fields after value)
Follows (field short n) before fields after value = (fields ≡ value ∷ []) × (length value ≡ n) × IsBytes value
Follows (zero_ended short) before fields after value = (fields ≡ (value ++ 0 ∷ []) ∷ []) × HasNoZero value × IsBytes value
Follows prefix before fields after value = (fields ≡ []) × (before ≡ value)
Follows left before fields after value = (fields ≡ []) × (after ≡ value)
Follows (seq {A = A} g k) before fields after value =
    (x : A) × (first : List (List ℕ)) × (others : List (List ℕ)) × (fields ≡ first ++ others)
    × Follows g before first (length (concat others) + after) x × Follows (k x) (before ++ concat first) others after value
Follows (renamed m g) before fields after value = Follows g before fields after value

-- These fields, after those bytes and before the rest, follow the format as far as they go, and the
-- next test of the format fails with this fault.
abbrev pub Stops : {F A : Type 0} → Grammar F A → List ℕ → List (List ℕ) → List ℕ → F → Type 0
Stops (give x) before fields rest fault = ⊥
Stops (judge r) before fields rest fault = (fields ≡ []) × (r ≡ Err fault)
Stops (check b f) before fields rest fault = (fields ≡ []) × (b ≡ false) × (f ≡ fault)
Stops (choose b x y) before fields rest fault = MatchBool b (Stops x before fields rest fault) (Stops y before fields rest fault)
Stops (field short n) before fields rest fault = (fields ≡ []) × (length rest < n) × (short (length before) ≡ fault)
Stops (zero_ended short) before fields rest fault = (fields ≡ []) × HasNoZero rest × (short (length before) ≡ fault)
Stops prefix before fields rest fault = ⊥
Stops left before fields rest fault = ⊥
Stops (seq {A = A} g k) before fields rest fault =
    Stops g before fields rest fault
    ⊎ ((x : A) × (first : List (List ℕ)) × (others : List (List ℕ)) × (fields ≡ first ++ others)
    × Follows g before first (length (concat others) + length rest) x × Stops (k x) (before ++ concat first) others rest fault)
Stops (renamed {E = E} m g) before fields rest fault = (e : E) × Stops g before fields rest e × (m e ≡ fault)

-- The second position is in the same bytes, and not before the first.
pub record MovesOn (from to : Cursor) : Type 0 where
  pub passed : List ℕ
  pub parts : from.rest ≡ passed ++ to.rest
  pub moved : to.before ≡ from.before ++ passed

-- From one position to the other stand fields that follow the format and say this value.
pub record Took {F A : Type 0} (g : Grammar F A) (from to : Cursor) (value : A) : Type 0 where
  pub fields : List (List ℕ)
  pub parts : from.rest ≡ concat fields ++ to.rest
  pub passed : to.before ≡ from.before ++ concat fields
  pub follows : Follows g from.before fields (length to.rest) value

-- From the position on stand fields that follow the format so far, and the next test fails with this fault.
pub record Stopped {F A : Type 0} (g : Grammar F A) (from : Cursor) (fault : F) : Type 0 where
  pub fields : List (List ℕ)
  pub rest : List ℕ
  pub parts : from.rest ≡ concat fields ++ rest
  pub stops : Stops g from.before fields rest fault

-- ---- what a format says of bytes

-- The bytes are fields that follow the format, all of them, and say this value.
abbrev pub Spelled : {F A : Type 0} → Grammar F A → List ℕ → A → Type 0
Spelled g bytes value = (fields : List (List ℕ)) × (bytes ≡ concat fields) × Follows g [] fields 0 value

-- The bytes begin with fields that follow the format and say this value, and may go on after them.
abbrev pub SpelledAtStart : {F A : Type 0} → Grammar F A → List ℕ → A → Type 0
SpelledAtStart g bytes value =
    (fields : List (List ℕ)) × (rest : List ℕ) × (bytes ≡ concat fields ++ rest) × Follows g [] fields (length rest) value

-- The bytes begin with fields that follow the format so far, and the first test that fails comes after
-- them and has this fault.
abbrev pub Fault : {F A : Type 0} → Grammar F A → List ℕ → F → Type 0
Fault g bytes fault = (fields : List (List ℕ)) × (rest : List ℕ) × (bytes ≡ concat fields ++ rest) × Stops g [] fields rest fault

-- Whatever follows the format ends the bytes.
pub record EndsTheBytes {F A : Type 0} (g : Grammar F A) : Type 0 where
  pub at_end : (before : List ℕ) (fields : List (List ℕ)) (after : ℕ) (value : A) → Follows g before fields after value → after ≡ 0

-- The bytes begin with a spelling of one value, or fail with one fault, and never both.
pub record IsDecidedAtStart {F A : Type 0} (g : Grammar F A) (bytes : List ℕ) : Type 0 where
  pub one_or_other : ((value : A) × SpelledAtStart g bytes value) ⊎ ((fault : F) × Fault g bytes fault)
  pub not_both : (value : A) (fault : F) → SpelledAtStart g bytes value → Fault g bytes fault → ⊥
  pub one_value : (x y : A) → SpelledAtStart g bytes x → SpelledAtStart g bytes y → x ≡ y
  pub one_fault : (e f : F) → Fault g bytes e → Fault g bytes f → e ≡ f

-- The bytes spell one value, or fail with one fault, and never both.
pub record IsDecided {F A : Type 0} (g : Grammar F A) (bytes : List ℕ) : Type 0 where
  pub one_or_other : ((value : A) × Spelled g bytes value) ⊎ ((fault : F) × Fault g bytes fault)
  pub not_both : (value : A) (fault : F) → Spelled g bytes value → Fault g bytes fault → ⊥
  pub one_value : (x y : A) → Spelled g bytes x → Spelled g bytes y → x ≡ y
  pub one_fault : (e f : F) → Fault g bytes e → Fault g bytes f → e ≡ f
