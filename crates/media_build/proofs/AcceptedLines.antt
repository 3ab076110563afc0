-- What a line says that is accepted after others.
use Rattle.std.proofs.Common.{◌≡◌, ℕ, ◌*◌, ◌%◌, ◌<◌, ◌≤◌, ◌&&◌, Bool, true, false, cond, not, nat_lt, nat_le, List, [], ◌∷◌, length, Option, Some, None, Result, Ok, Err, refl, ap, subst, ◌∙◌, arith}
use Rattle.std.specs.Prelude.{◌==◌, ⊤}
use Rattle.std.specs.List.{list_all, AllByRecursion}
use Rattle.std.specs.Str.Parse.{digits_value}
use Rattle.std.proofs.lemmas.Bool.{leb-true, ltb-true, eqb-true}
use Rattle.hex.specs.Hex.{decode_of}
use Rattle.hex.specs.declared.error.FromHexError.{FromHexError}
use Rattle.hex.proofs.HexLemmas.{decode_of-ok}
use Rattle.load_base.specs.Ident.{IsIdent}
use Rattle.load_base.specs.Name.{IsName}
use Rattle.load_base.specs.PartText.{is_graphic}
use Rattle.load_base.specs.Verdicts.{name_fault_of, ident_fault_of}
use Rattle.load_base.proofs.VerdictLemmas.{accepted, name_faults, ident_faults}
use Rattle.part_number.specs.PartNumber.{IsPartNumberText}
use Rattle.part_number.specs.Verdicts.{part_fault_of}
use Rattle.part_number.proofs.VerdictLemmas.{part_faults}
use Rattle.field_grammar.proofs.StepLemmas.{then_ok}
use Rattle.text_words.specs.Words.{decimal_between, is_decimal}
use Rattle.media_build.specs.Accepted.{IsRecipeWord, IsMemberOf, IsLoadLine, IsFileLine, IsUserLine, IsBatchLine, IsTargetLine, IsSoundLine}
use Rattle.media_build.specs.Lines.{target_of, names_of, members_of, files_of_load, has_user, is_used, is_loaded, target_count, may_follow, keyword_of}
use Rattle.text_words.specs.Words.{one_of, two_of, three_of, four_of, five_of}
use Rattle.media_build.specs.Recipes.{required, passed, number_word, part_word, is_graphic_word, text_word, is_header_name, is_body_name, name_word, member_word, user_word, new_place, placed_words, has_room, load_has_room, type_words, set_line, members_line, load_said, load_line, hardware_line, position_line, source_words, file_said, file_line, user_line, is_batch_name, ident_word, batch_said, batch_line, load_part_word, load_part_words, place_words, batch_has_room, target_said, target_line, statement_said, keyword_said, words_said}
use Rattle.media_build.specs.declared.fault.RecipeFault.{RecipeFault}
use Rattle.media_build.specs.declared.fault.RecipeFault.TheVariants as faults
use Rattle.media_build.specs.declared.keywords.Keyword.{Keyword}
use Rattle.media_build.specs.declared.keywords.Keyword.TheVariants as keywords
use Rattle.media_build.specs.declared.statements.BatchLine.{BatchLine}
use Rattle.media_build.specs.declared.statements.FileLine.{FileLine}
use Rattle.media_build.specs.declared.statements.LoadLine.{LoadLine}
use Rattle.media_build.specs.declared.statements.RecipeLine.{RecipeLine}
use Rattle.media_build.specs.declared.statements.Statement.{Statement}
use Rattle.media_build.specs.declared.statements.Statement.TheVariants.{Set, Members, Load, Hardware, Position, Data, Support, User, Batch, Target}
use Rattle.media_build.specs.declared.statements.TargetLine.{TargetLine}
use Rattle.media_build.proofs.Texts.{first_test, second_test, each_graphic}

-- ---- one step

required_ok : {A : Type 0} (fault : RecipeFault) (o : Option A) (x : A) → required fault o ≡ Ok x → o ≡ Some x
required_ok fault (Some y) x e = cc
required_ok fault None x e = absurd cc

pub passed_ok : {A : Type 0} (test : Bool) (fault : RecipeFault) (value x : A) → passed test fault value ≡ Ok x → (test ≡ true) × (value ≡ x)
passed_ok true fault value x e = (refl, cc)
passed_ok false fault value x e = absurd cc

was_false : (b : Bool) → not b ≡ true → b ≡ false
was_false true e = absurd cc
was_false false e = refl

same_ok : {A : Type 0} (x y : A) → ◌≡◌ {A = Result A RecipeFault} (Ok x) (Ok y) → x ≡ y
same_ok x y e = cc

-- ---- words

part_ok : (line : ℕ) (word value : List ℕ) → part_word line word ≡ Ok value → IsPartNumberText value
unfolding part_word
part_ok line word value e =
    let a = accepted (λ _. faults.Part line) (part_fault_of word) word value e in
    subst IsPartNumberText a.1 ((part_faults.right word).1 a.0)

name_ok : (line : ℕ) (word value : List ℕ) → name_word line word ≡ Ok value → IsName value
unfolding name_word
name_ok line word value e =
    let a = accepted (λ _. faults.Name line) (name_fault_of word) word value e in
    subst IsName a.1 ((name_faults.right word).1 a.0)

graphic_is_word : (most : ℕ) (word : List ℕ) → is_graphic_word most word ≡ true → IsRecipeWord most word
graphic_is_word most word e =
    let sizes = first_test (nat_lt 0 (length word) && nat_le (length word) most) (list_all is_graphic word) e in
    let all = second_test (nat_lt 0 (length word) && nat_le (length word) most) (list_all is_graphic word) e in
    let some : 0 < length word = ltb-true _ _ (first_test (nat_lt 0 (length word)) (nat_le (length word) most) sizes) in
    let few : length word ≤ most = leb-true _ _ (second_test (nat_lt 0 (length word)) (nat_le (length word) most) sizes) in
    record { some = omega arith; few = few; graphic = λ k lt. each_graphic word k all lt }

text_ok : (line most : ℕ) (word value : List ℕ) → text_word line most word ≡ Ok value → IsRecipeWord most value
unfolding text_word
text_ok line most word value e =
    let p = passed_ok (is_graphic_word most word) (faults.Name line) word value e in
    subst (IsRecipeWord most) p.1 (graphic_is_word most word p.0)

in_range : (low high n m : ℕ) (a b : Bool) → nat_le low n ≡ a → nat_le n high ≡ b → cond (a && b) (Some n) None ≡ Some m → (low ≤ m) × (m ≤ high)
in_range low high n m true true l h e =
    let same : n ≡ m = cc in
    let least : low ≤ n = leb-true _ _ l in
    let most : n ≤ high = leb-true _ _ h in
    (omega arith, omega arith)
in_range low high n m true false l h e = absurd cc
in_range low high n m false b l h e = absurd cc

decimal_ok : (low high : ℕ) (word : List ℕ) (m : ℕ) → decimal_between low high word ≡ Some m → (low ≤ m) × (m ≤ high)
unfolding decimal_between
decimal_ok low high word m e = by (is_decimal word) e
  where
    by : (b : Bool) → cond b (cond (nat_le low (digits_value 10 word) && nat_le (digits_value 10 word) high) (Some (digits_value 10 word)) None) None ≡ Some m → (low ≤ m) × (m ≤ high)
    by true is = in_range low high (digits_value 10 word) m (nat_le low (digits_value 10 word)) (nat_le (digits_value 10 word) high) refl refl is
    by false is = absurd cc

number_ok : (line low high : ℕ) (word : List ℕ) (m : ℕ) → number_word line low high word ≡ Ok m → (low ≤ m) × (m ≤ high)
number_ok line low high word m e = decimal_ok low high word m (required_ok (faults.Number line) (decimal_between low high word) m e)

member_ok : (line : ℕ) (before : List RecipeLine) (word : List ℕ) (m : ℕ) → member_word line before word ≡ Ok m → IsMemberOf (members_of before) m
member_ok line before word m e = let r = number_ok line 1 (members_of before) word m e in record { first = r.0; last = r.1 }

user_ok : (line : ℕ) (word bytes : List ℕ) → user_word line word ≡ Ok bytes → IsUserLine bytes
unfolding user_word
user_ok line word bytes e = by (nat_lt 0 (length word)) (length word % 4 == 0) (decode_of word) refl refl refl
  where
    by : (some fours : Bool) (decoded : Result (List ℕ) FromHexError) → nat_lt 0 (length word) ≡ some → (length word % 4 == 0) ≡ fours → decode_of word ≡ decoded → IsUserLine bytes
    by true true (Ok found) s f d =
        let same = same_ok found bytes (rw (s, f, d) at e) in
        let ok = decode_of-ok word found d in
        let some : 0 < length word = ltb-true _ _ s in
        let fours : length word % 4 ≡ 0 = eqb-true _ _ f in
        let twice : length word ≡ 2 * length found = ok.2 in
        subst IsUserLine same (record { each = ok.3; some = omega arith; even = omega arith })
    by true true (Err wrong) s f d = absurd (let is = rw (s, f, d) at e in cc)
    by true false decoded s f d = absurd (let is = rw (s, f) at e in cc)
    by false fours decoded s f d = absurd (let is = rw s at e in cc)

-- ---- files

-- a name and the member that has the file
record IsPlace (before : List RecipeLine) (may : List ℕ → Bool) (place : List ℕ × ℕ) : Type 0 where
  name : IsName place.0
  kind : may place.0 ≡ true
  new : is_used before place.0 ≡ false
  member : IsMemberOf (members_of before) place.1

new_place_ok : (line : ℕ) (before : List RecipeLine) (may : List ℕ → Bool) (name member : List ℕ) (place : List ℕ × ℕ) → IsName name → may name ≡ true
    → new_place line before name member ≡ Ok place → IsPlace before may place
unfolding new_place
new_place_ok line before may name member place is kind e =
    let new = then_ok (passed (not (is_used before name)) (faults.Repeated line) name) _ place e in
    let p = passed_ok (not (is_used before name)) (faults.Repeated line) name new.0 new.1 in
    let at = then_ok (member_word line before member) _ place new.2 in
    let same = same_ok (new.0, at.0) place at.2 in
    let here : IsPlace before may (name, at.0) = record {
      name = is;
      kind = kind;
      new = was_false (is_used before name) p.0;
      member = member_ok line before member at.0 at.1;
    } in
    subst (IsPlace before may) (ap (λ (file : List ℕ). (file, at.0)) p.1 ∙ same) here

placed_ok : (line : ℕ) (before : List RecipeLine) (may : List ℕ → Bool) (name member : List ℕ) (place : List ℕ × ℕ) → placed_words line before may name member ≡ Ok place
    → IsPlace before may place
unfolding placed_words
placed_ok line before may name member place e =
    let file = then_ok (name_word line name) _ place e in
    let right = then_ok (passed (may file.0) (faults.Name line) file.0) _ place file.2 in
    let p = passed_ok (may file.0) (faults.Name line) file.0 right.0 right.1 in
    new_place_ok line before may right.0 member place (subst IsName p.1 (name_ok line name file.0 file.1)) (subst (λ (n : List ℕ). may n ≡ true) p.1 p.0) right.2

-- ---- what a line adds

-- there is room for the files of a line, whose names are new, and for a target, whose loads are those of the recipe
abbrev pub HasRoom : List RecipeLine → Statement → Type 0
HasRoom before (Load load) = (is_used before load.name ≡ false) × (length (names_of before) < 1024)
HasRoom before (Data file) = (is_used before file.name ≡ false) × (length (names_of before) < 1024) × (files_of_load before < 255)
HasRoom before (Support file) = (is_used before file.name ≡ false) × (length (names_of before) < 1024) × (files_of_load before < 255)
HasRoom before (User bytes) = has_user before ≡ false
HasRoom before (Batch batch) = (is_used before batch.name ≡ false) × (length (names_of before) < 1024)
HasRoom before (Target target) = (target_count before < 64) × AllByRecursion (λ part. is_loaded before part ≡ true) target.parts
HasRoom before statement = ⊤

-- the keyword of a line
abbrev pub keyword_for : Statement → Keyword
keyword_for (Set part) = keywords.Set
keyword_for (Members count) = keywords.Members
keyword_for (Load load) = keywords.Load
keyword_for (Hardware id) = keywords.Hardware
keyword_for (Position hardware position) = keywords.Position
keyword_for (Data file) = keywords.Data
keyword_for (Support file) = keywords.Support
keyword_for (User bytes) = keywords.User
keyword_for (Batch batch) = keywords.Batch
keyword_for (Target target) = keywords.Target

-- what holds of a line that is accepted after others
pub record IsAccepted (before : List RecipeLine) (statement : Statement) : Type 0 where
  pub stands : may_follow before (keyword_for statement) ≡ true
  pub sound : IsSoundLine (members_of before) statement
  pub room : HasRoom before statement

room_ok : (before : List RecipeLine) → has_room before ≡ true → length (names_of before) < 1024
room_ok before e = ltb-true _ _ e

load_room_ok : (before : List RecipeLine) → load_has_room before ≡ true → (length (names_of before) < 1024) × (files_of_load before < 255)
load_room_ok before e =
    let files : files_of_load before < 255 = ltb-true _ _ (first_test (nat_lt (files_of_load before) 255) (has_room before) e) in
    let names = room_ok before (second_test (nat_lt (files_of_load before) 255) (has_room before) e) in
    (omega (arith, names), files)

type_ok : (line : ℕ) (id name : List ℕ) (kind : ℕ × List ℕ) → type_words line id name ≡ Ok kind → (kind.0 ≤ 65535) × IsRecipeWord 64 kind.1
unfolding type_words
type_ok line id name kind e =
    let number = then_ok (number_word line 0 65535 id) _ kind e in
    let text = then_ok (text_word line 64 name) _ kind number.2 in
    let same = same_ok (number.0, text.0) kind text.2 in
    let both : (number.0 ≤ 65535) × IsRecipeWord 64 text.0 = ((number_ok line 0 65535 id number.0 number.1).1, text_ok line 64 name text.0 text.1) in
    subst (λ (k : ℕ × List ℕ). (k.0 ≤ 65535) × IsRecipeWord 64 k.1) same both

load_ok : (line : ℕ) (before : List RecipeLine) (words : List (List ℕ)) (load : LoadLine) → load_line line before words ≡ Ok load
    → IsLoadLine (members_of before) load × HasRoom before (Load load)
unfolding load_line load_said
load_ok line before words load e =
    let w = then_ok (required (faults.Word line) (five_of words)) _ load e in
    let number = then_ok (part_word line w.0.0) _ load w.2 in
    let file = then_ok (placed_words line before is_header_name w.0.1.0 w.0.1.1) _ load number.2 in
    let kind = then_ok (type_words line w.0.1.2 w.0.1.3) _ load file.2 in
    let this : LoadLine = record { part = number.0; name = file.0.0; member = file.0.1; type_id = kind.0.0; type_name = kind.0.1 } in
    let p = passed_ok (has_room before) (faults.Limit line) this load kind.2 in
    let place = placed_ok line before is_header_name w.0.1.0 w.0.1.1 file.0 file.1 in
    let type = type_ok line w.0.1.2 w.0.1.3 kind.0 kind.1 in
    let small : kind.0.0 ≤ 65535 = type.0 in
    let sound : IsLoadLine (members_of before) this = record {
      part = part_ok line w.0.0 number.0 number.1;
      name = place.name;
      header = place.kind;
      member = place.member;
      type_id = omega arith;
      type_name = type.1;
    } in
    let room : HasRoom before (Load this) = (place.new, room_ok before p.0) in
    subst (λ (l : LoadLine). IsLoadLine (members_of before) l × HasRoom before (Load l)) p.1 (sound, room)

source_ok : (line : ℕ) (source part : List ℕ) (origin : List ℕ × List ℕ) → source_words line source part ≡ Ok origin → IsRecipeWord 150 origin.0 × IsRecipeWord 64 origin.1
unfolding source_words
source_ok line source part origin e =
    let from = then_ok (text_word line 150 source) _ origin e in
    let text = then_ok (text_word line 64 part) _ origin from.2 in
    let same = same_ok (from.0, text.0) origin text.2 in
    let both : IsRecipeWord 150 from.0 × IsRecipeWord 64 text.0 = (text_ok line 150 source from.0 from.1, text_ok line 64 part text.0 text.1) in
    subst (λ (o : List ℕ × List ℕ). IsRecipeWord 150 o.0 × IsRecipeWord 64 o.1) same both

file_ok : (line : ℕ) (before : List RecipeLine) (words : List (List ℕ)) (file : FileLine) → file_line line before words ≡ Ok file
    → IsFileLine (members_of before) file × HasRoom before (Data file)
unfolding file_line file_said
file_ok line before words file e =
    let w = then_ok (required (faults.Word line) (four_of words)) _ file e in
    let at = then_ok (placed_words line before is_body_name w.0.0 w.0.1) _ file w.2 in
    let origin = then_ok (source_words line w.0.2 w.0.3) _ file at.2 in
    let this : FileLine = record { name = at.0.0; member = at.0.1; source = origin.0.0; part = origin.0.1 } in
    let p = passed_ok (load_has_room before) (faults.Limit line) this file origin.2 in
    let place = placed_ok line before is_body_name w.0.0 w.0.1 at.0 at.1 in
    let words = source_ok line w.0.2 w.0.3 origin.0 origin.1 in
    let sound : IsFileLine (members_of before) this = record {
      name = place.name;
      body = place.kind;
      member = place.member;
      source = words.0;
      part = words.1;
    } in
    let limits = load_room_ok before p.0 in
    let room : HasRoom before (Data this) = (place.new, limits.0, limits.1) in
    subst (λ (f : FileLine). IsFileLine (members_of before) f × HasRoom before (Data f)) p.1 (sound, room)

data_line_ok : (line : ℕ) (before : List RecipeLine) (words : List (List ℕ)) (bytes : List ℕ) → user_line line before words ≡ Ok bytes → IsUserLine bytes × (has_user before ≡ false)
unfolding user_line
data_line_ok line before words bytes e =
    let hex = then_ok (required (faults.Word line) (one_of words)) _ bytes e in
    let user = then_ok (user_word line hex.0) _ bytes hex.2 in
    let p = passed_ok (not (has_user before)) (faults.Limit line) user.0 bytes user.2 in
    (subst IsUserLine p.1 (user_ok line hex.0 user.0 user.1), was_false (has_user before) p.0)

set_ok : (line : ℕ) (words : List (List ℕ)) (part : List ℕ) → set_line line words ≡ Ok part → IsPartNumberText part
unfolding set_line
set_ok line words part e = let w = then_ok (required (faults.Word line) (one_of words)) _ part e in part_ok line w.0 part w.2

members_ok : (line : ℕ) (words : List (List ℕ)) (count : ℕ) → members_line line words ≡ Ok count → IsMemberOf 255 count
unfolding members_line
members_ok line words count e =
    let w = then_ok (required (faults.Word line) (one_of words)) _ count e in
    let r = number_ok line 1 255 w.0 count w.2 in
    record { first = r.0; last = r.1 }

hardware_ok : (line : ℕ) (words : List (List ℕ)) (id : List ℕ) → hardware_line line words ≡ Ok id → IsRecipeWord 64 id
unfolding hardware_line
hardware_ok line words id e = let w = then_ok (required (faults.Word line) (one_of words)) _ id e in text_ok line 64 w.0 id w.2

position_ok : (line : ℕ) (words : List (List ℕ)) (at : List ℕ × List ℕ) → position_line line words ≡ Ok at → IsRecipeWord 64 at.0 × IsRecipeWord 64 at.1
unfolding position_line
position_ok line words at e =
    let w = then_ok (required (faults.Word line) (two_of words)) _ at e in
    let hardware = then_ok (text_word line 64 w.0.0) _ at w.2 in
    let position = then_ok (text_word line 64 w.0.1) _ at hardware.2 in
    let same = same_ok (hardware.0, position.0) at position.2 in
    let both : IsRecipeWord 64 hardware.0 × IsRecipeWord 64 position.0 = (text_ok line 64 w.0.0 hardware.0 hardware.1, text_ok line 64 w.0.1 position.0 position.1) in
    subst (λ (o : List ℕ × List ℕ). IsRecipeWord 64 o.0 × IsRecipeWord 64 o.1) same both

-- ---- batches

ident_ok : (line : ℕ) (word value : List ℕ) → ident_word line word ≡ Ok value → IsIdent value
unfolding ident_word
ident_ok line word value e =
    let a = accepted (λ _. faults.Name line) (ident_fault_of word) word value e in
    subst IsIdent a.1 ((ident_faults.right word).1 a.0)

batch_ok : (line : ℕ) (before : List RecipeLine) (words : List (List ℕ)) (batch : BatchLine) → batch_line line before words ≡ Ok batch
    → IsBatchLine (members_of before) batch × HasRoom before (Batch batch)
unfolding batch_line batch_said
batch_ok line before words batch e =
    let w = then_ok (required (faults.Word line) (three_of words)) _ batch e in
    let number = then_ok (part_word line w.0.0) _ batch w.2 in
    let file = then_ok (placed_words line before is_batch_name w.0.1 w.0.2) _ batch number.2 in
    let this : BatchLine = record { part = number.0; name = file.0.0; member = file.0.1 } in
    let p = passed_ok (has_room before) (faults.Limit line) this batch file.2 in
    let place = placed_ok line before is_batch_name w.0.1 w.0.2 file.0 file.1 in
    let sound : IsBatchLine (members_of before) this = record {
      part = part_ok line w.0.0 number.0 number.1;
      name = place.name;
      file = place.kind;
      member = place.member;
    } in
    let room : HasRoom before (Batch this) = (place.new, room_ok before p.0) in
    subst (λ (b : BatchLine). IsBatchLine (members_of before) b × HasRoom before (Batch b)) p.1 (sound, room)

place_ok : (line : ℕ) (hw pos : List ℕ) (place : List ℕ × List ℕ) → place_words line hw pos ≡ Ok place → IsIdent place.0 × IsIdent place.1
unfolding place_words
place_ok line hw pos place e =
    let hardware = then_ok (ident_word line hw) _ place e in
    let position = then_ok (ident_word line pos) _ place hardware.2 in
    let same = same_ok (hardware.0, position.0) place position.2 in
    let both : IsIdent hardware.0 × IsIdent position.0 = (ident_ok line hw hardware.0 hardware.1, ident_ok line pos position.0 position.1) in
    subst (λ (p : List ℕ × List ℕ). IsIdent p.0 × IsIdent p.1) same both

-- as many part numbers as words, each that of a load
record ArePartsOf (before : List RecipeLine) (words parts : List (List ℕ)) : Type 0 where
  count : length parts ≡ length words
  each : AllByRecursion IsPartNumberText parts
  loads : AllByRecursion (λ part. is_loaded before part ≡ true) parts

load_part_ok : (line : ℕ) (before : List RecipeLine) (word part : List ℕ) → load_part_word line before word ≡ Ok part → IsPartNumberText part × (is_loaded before part ≡ true)
unfolding load_part_word
load_part_ok line before word part e =
    let number = then_ok (part_word line word) _ part e in
    let p = passed_ok (is_loaded before number.0) (faults.NotInRecipe line) number.0 part number.2 in
    let both : IsPartNumberText number.0 × (is_loaded before number.0 ≡ true) = (part_ok line word number.0 number.1, p.0) in
    subst (λ (n : List ℕ). IsPartNumberText n × (is_loaded before n ≡ true)) p.1 both

load_parts_ok : (line : ℕ) (before : List RecipeLine) (words parts : List (List ℕ)) → load_part_words line before words ≡ Ok parts → ArePartsOf before words parts
load_parts_ok line before [] parts e = subst (ArePartsOf before []) (same_ok [] parts e) (record { count = refl; each = tt; loads = tt })
load_parts_ok line before (word ∷ words) parts e =
    let first = then_ok (load_part_word line before word) _ parts e in
    let rest = then_ok (load_part_words line before words) _ parts first.2 in
    let this = load_part_ok line before word first.0 first.1 in
    let others = load_parts_ok line before words rest.0 rest.1 in
    let all : ArePartsOf before (word ∷ words) (first.0 ∷ rest.0) = record { count = omega (arith, others.count); each = (this.0, others.each); loads = (this.1, others.loads) } in
    subst (ArePartsOf before (word ∷ words)) (same_ok (first.0 ∷ rest.0) parts rest.2) all

few_words : (words : List (List ℕ)) (w : List ℕ × List ℕ × List (List ℕ)) → target_of words ≡ Some w → (1 ≤ length w.2) × (length w.2 ≤ 32)
few_words [] w e = absurd cc
few_words (a ∷ []) w e = absurd cc
few_words (a ∷ b ∷ others) w e = by (nat_le 1 (length others)) (nat_le (length others) 32) refl refl e
  where
    by : (some few : Bool) → nat_le 1 (length others) ≡ some → nat_le (length others) 32 ≡ few → cond (some && few) (Some (a, b, others)) None ≡ Some w → (1 ≤ length w.2) × (length w.2 ≤ 32)
    by true true s f is =
        let same : (a, b, others) ≡ w = cc in
        let both : (1 ≤ length others) × (length others ≤ 32) = (leb-true _ _ s, leb-true _ _ f) in
        subst (λ (t : List ℕ × List ℕ × List (List ℕ)). (1 ≤ length t.2) × (length t.2 ≤ 32)) same both
    by true false s f is = absurd cc
    by false few s f is = absurd cc

target_ok : (line : ℕ) (before : List RecipeLine) (words : List (List ℕ)) (target : TargetLine) → target_line line before words ≡ Ok target
    → IsTargetLine target × HasRoom before (Target target)
unfolding target_line target_said
target_ok line before words target e =
    let w = then_ok (required (faults.Word line) (target_of words)) _ target e in
    let place = then_ok (place_words line w.0.0 w.0.1) _ target w.2 in
    let loads = then_ok (load_part_words line before w.0.2) _ target place.2 in
    let this : TargetLine = record { hw = place.0.0; pos = place.0.1; parts = loads.0 } in
    let p = passed_ok (batch_has_room before) (faults.Limit line) this target loads.2 in
    let few = few_words words w.0 (required_ok (faults.Word line) (target_of words) w.0 w.1) in
    let at = place_ok line w.0.0 w.0.1 place.0 place.1 in
    let parts = load_parts_ok line before w.0.2 loads.0 loads.1 in
    let sound : IsTargetLine this = record {
      hw = at.0;
      pos = at.1;
      some = omega (arith, few.0, parts.count);
      few = omega (arith, few.1, parts.count);
      parts = parts.each;
    } in
    let room : HasRoom before (Target this) = (ltb-true _ _ p.0, parts.loads) in
    subst (λ (t : TargetLine). IsTargetLine t × HasRoom before (Target t)) p.1 (sound, room)

-- ---- a whole line

abbrev AcceptedAs : List RecipeLine → Keyword → Statement → Type 0
AcceptedAs before keyword s = (keyword_for s ≡ keyword) × IsSoundLine (members_of before) s × HasRoom before s

statement_ok : (line : ℕ) (before : List RecipeLine) (keyword : Keyword) (words : List (List ℕ)) (s : Statement) → statement_said line before keyword words ≡ Ok s → AcceptedAs before keyword s
statement_ok line before keywords.Set words s e =
    let x = then_ok (set_line line words) _ s e in
    let this : AcceptedAs before keywords.Set (Set x.0) = (refl, set_ok line words x.0 x.1, tt) in
    subst (AcceptedAs before keywords.Set) (same_ok (Set x.0) s x.2) this
statement_ok line before keywords.Members words s e =
    let x = then_ok (members_line line words) _ s e in
    let this : AcceptedAs before keywords.Members (Members x.0) = (refl, members_ok line words x.0 x.1, tt) in
    subst (AcceptedAs before keywords.Members) (same_ok (Members x.0) s x.2) this
statement_ok line before keywords.Load words s e =
    let x = then_ok (load_line line before words) _ s e in
    let ok = load_ok line before words x.0 x.1 in
    let this : AcceptedAs before keywords.Load (Load x.0) = (refl, ok.0, ok.1) in
    subst (AcceptedAs before keywords.Load) (same_ok (Load x.0) s x.2) this
statement_ok line before keywords.Hardware words s e =
    let x = then_ok (hardware_line line words) _ s e in
    let this : AcceptedAs before keywords.Hardware (Hardware x.0) = (refl, hardware_ok line words x.0 x.1, tt) in
    subst (AcceptedAs before keywords.Hardware) (same_ok (Hardware x.0) s x.2) this
statement_ok line before keywords.Position words s e =
    let x = then_ok (position_line line words) _ s e in
    let this : AcceptedAs before keywords.Position (Position x.0.0 x.0.1) = (refl, position_ok line words x.0 x.1, tt) in
    subst (AcceptedAs before keywords.Position) (same_ok (Position x.0.0 x.0.1) s x.2) this
statement_ok line before keywords.Data words s e =
    let x = then_ok (file_line line before words) _ s e in
    let ok = file_ok line before words x.0 x.1 in
    let this : AcceptedAs before keywords.Data (Data x.0) = (refl, ok.0, ok.1) in
    subst (AcceptedAs before keywords.Data) (same_ok (Data x.0) s x.2) this
statement_ok line before keywords.Support words s e =
    let x = then_ok (file_line line before words) _ s e in
    let ok = file_ok line before words x.0 x.1 in
    let this : AcceptedAs before keywords.Support (Support x.0) = (refl, ok.0, ok.1) in
    subst (AcceptedAs before keywords.Support) (same_ok (Support x.0) s x.2) this
statement_ok line before keywords.User words s e =
    let x = then_ok (user_line line before words) _ s e in
    let ok = data_line_ok line before words x.0 x.1 in
    let this : AcceptedAs before keywords.User (User x.0) = (refl, ok.0, ok.1) in
    subst (AcceptedAs before keywords.User) (same_ok (User x.0) s x.2) this
statement_ok line before keywords.Batch words s e =
    let x = then_ok (batch_line line before words) _ s e in
    let ok = batch_ok line before words x.0 x.1 in
    let this : AcceptedAs before keywords.Batch (Batch x.0) = (refl, ok.0, ok.1) in
    subst (AcceptedAs before keywords.Batch) (same_ok (Batch x.0) s x.2) this
statement_ok line before keywords.Target words s e =
    let x = then_ok (target_line line before words) _ s e in
    let ok = target_ok line before words x.0 x.1 in
    let this : AcceptedAs before keywords.Target (Target x.0) = (refl, ok.0, ok.1) in
    subst (AcceptedAs before keywords.Target) (same_ok (Target x.0) s x.2) this

pub line_is_accepted : (line : ℕ) (before : List RecipeLine) (words : List (List ℕ)) (s : Statement) → words_said line before words ≡ Ok s → IsAccepted before s
unfolding words_said keyword_said
line_is_accepted line before [] s e = absurd cc
line_is_accepted line before (word ∷ words) s e =
    let k = then_ok (keyword_said line before word) _ s e in
    let which = then_ok (required (faults.Word line) (keyword_of word)) _ k.0 k.1 in
    let p = passed_ok (may_follow before which.0) (faults.Order line) which.0 k.0 which.2 in
    let ok = statement_ok line before k.0 words s k.2 in
    record { stands = rw (ok.0, ← p.1) p.0; sound = ok.1; room = ok.2 }
