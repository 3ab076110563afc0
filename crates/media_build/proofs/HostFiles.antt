-- Files that are written one after the other.
use Rattle.std.proofs.Common.{◌≡◌, ◌≢◌, ℕ, suc, ◌+◌, ◌-◌, ◌<◌, Bool, true, false, cond, List, [], ◌∷◌, ◌++◌, length, drop, get_or, Option, Some, None, Result, Ok, Err, refl, sym, ◌∙◌, ap, append_assoc, drop-cons, arith}
use Rattle.std.specs.List.{flat_map, range_with_len}
use Rattle.load_base.specs.Bytes.{same_bytes}
use Rattle.load_base.proofs.EqualityLemmas.{equal_bytes}
use Rattle.load_base.specs.Host.{Files, WritesFile}
use Rattle.load_base.specs.declared.sink.WriteFault.{WriteFault}
use Rattle.load_base.specs.declared.sink.WriteFault.TheVariants as writing
use Rattle.media_build.specs.HostWrites.{Written, WritesToHost, WritesAllFiles, after_writes, written_bodies, is_of}
use Rattle.media_check.specs.declared.built.Placed.{Placed}

-- ---- what each name has

-- one file more
abbrev with_file : Written → Files → Files
with_file this files = λ name. cond (same_bytes name this.0) (Some this.1) (files name)

after_same : (written : List Written) (one other : Files) → ((name : List ℕ) → one name ≡ other name) → (name : List ℕ) → after_writes written one name ≡ after_writes written other name
after_same [] one other same name = same name
after_same (this ∷ later) one other same name =
    after_same later (with_file this one) (with_file this other) (λ n. ap (λ (file : Option (List ℕ)). cond (same_bytes n this.0) (Some this.1) file) (same n)) name

after_both : (front back : List Written) (files : Files) (name : List ℕ) → after_writes (front ++ back) files name ≡ after_writes back (after_writes front files) name
after_both [] back files name = refl
after_both (this ∷ front) back files name = after_both front back (with_file this files) name

-- ---- a file by itself

written_one : (this : Written) (old new : Files) → ((other : List ℕ) → other ≢ this.0 → new other ≡ old other) → new this.0 ≡ Some this.1
    → (name : List ℕ) → new name ≡ with_file this old name
written_one this old new others here name = by (same_bytes name this.0) refl
  where
    by : (b : Bool) → same_bytes name this.0 ≡ b → new name ≡ with_file this old name
    by true e = let same : name ≡ this.0 = (equal_bytes name this.0).0 e in rw e (ap new same ∙ here)
    by false e = rw e (others name (λ same. let yes = (equal_bytes name this.0).1 same in cc))

untouched : (name : List ℕ) (old new : Files) → ((other : List ℕ) → other ≢ name → new other ≡ old other) → new name ≡ old name → (other : List ℕ) → new other ≡ old other
untouched name old new others here other = by (same_bytes other name) refl
  where
    by : (b : Bool) → same_bytes other name ≡ b → new other ≡ old other
    by true e = let same : other ≡ name = (equal_bytes other name).0 e in rw same here
    by false e = others other (λ same. let yes = (equal_bytes other name).1 same in cc)

pub writes_one : (name bytes : List ℕ) (old new : Option Files) (result : Result (Unit {0}) WriteFault) → WritesFile old new name bytes result
    → WritesToHost ((name, bytes) ∷ []) old new result
writes_one name bytes None new result is = record { told = tt }
writes_one name bytes (Some old) new (Ok x) is = record { told = (is.0, is.1, written_one (name, bytes) old is.0 is.2.0 is.2.1) }
writes_one name bytes (Some old) new (Err writing.Failed) is =
    record { told = (is.0, is.1, record { before = []; this = (name, bytes); after = []; stands = refl; others = is.2 }) }
writes_one name bytes (Some old) new (Err writing.Memory) is =
    record { told = (is.0, is.1, record { before = []; after = (name, bytes) ∷ []; stands = refl; have = untouched name old is.0 is.2.0 is.2.1 }) }

-- ---- one after the other

pub writes_none : (files : Option Files) → WritesToHost [] files files (Ok tt)
writes_none None = record { told = tt }
writes_none (Some files) = record { told = (files, refl, λ name. refl) }

both : (front back : List Written) (old mid new : Files) (result : Result (Unit {0}) WriteFault) → ((name : List ℕ) → mid name ≡ after_writes front old name)
    → WritesAllFiles back mid new result → WritesAllFiles (front ++ back) old new result
both front back old mid new (Ok x) first second =
    λ name. second name ∙ (after_same back mid (after_writes front old) first name ∙ sym (after_both front back old name))
both front back old mid new (Err writing.Memory) first second = record {
  before = front ++ second.before;
  after = second.after;
  stands = ap (λ (rest : List Written). front ++ rest) second.stands ∙ sym (append_assoc front second.before second.after);
  have = λ name. second.have name ∙ (after_same second.before mid (after_writes front old) first name ∙ sym (after_both front second.before old name));
}
both front back old mid new (Err writing.Failed) first second = record {
  before = front ++ second.before;
  this = second.this;
  after = second.after;
  stands = ap (λ (rest : List Written). front ++ rest) second.stands ∙ sym (append_assoc front second.before (second.this ∷ second.after));
  others = λ name other. second.others name other ∙ (after_same second.before mid (after_writes front old) first name ∙ sym (after_both front second.before old name));
}

pub writes_then : (front back : List Written) (old mid new : Option Files) (done : Unit {0}) (result : Result (Unit {0}) WriteFault) → WritesToHost front old mid (Ok done)
    → WritesToHost back mid new result → WritesToHost (front ++ back) old new result
writes_then front back None mid new done result first second = record { told = tt }
writes_then front back (Some old) mid new done result first second =
    let told = rw first.told.1 at second.told in
    record { told = (told.0, told.1, both front back old first.told.0 told.0 result first.told.2 told.2) }

stop : (front back : List Written) (old new : Files) (fault : WriteFault) → WritesAllFiles front old new (Err fault) → WritesAllFiles (front ++ back) old new (Err fault)
stop front back old new writing.Failed cut = record {
  before = cut.before;
  this = cut.this;
  after = cut.after ++ back;
  stands = ap (λ (some : List Written). some ++ back) cut.stands ∙ append_assoc cut.before (cut.this ∷ cut.after) back;
  others = cut.others;
}
stop front back old new writing.Memory cut = record {
  before = cut.before;
  after = cut.after ++ back;
  stands = ap (λ (some : List Written). some ++ back) cut.stands ∙ append_assoc cut.before cut.after back;
  have = cut.have;
}

-- a refusal in some files is one in all
pub writes_stop : (front back : List Written) (old new : Option Files) (fault : WriteFault) → WritesToHost front old new (Err fault) → WritesToHost (front ++ back) old new (Err fault)
writes_stop front back None new fault first = record { told = tt }
writes_stop front back (Some old) new fault first = record { told = (first.told.0, first.told.1, stop front back old first.told.0 fault first.told.2) }

-- ---- the files of members

body_by_itself : (folder : List ℕ) (member : ℕ) (body : Placed) (bodies : List Placed)
    → written_bodies folder member (body ∷ bodies) ≡ written_bodies folder member (body ∷ []) ++ written_bodies folder member bodies
body_by_itself folder member body bodies = by (is_of member body) refl
  where
    by : (b : Bool) → is_of member body ≡ b → written_bodies folder member (body ∷ bodies) ≡ written_bodies folder member (body ∷ []) ++ written_bodies folder member bodies
    by true e = rw e refl
    by false e = rw e refl

-- the bodies from this one on
pub bodies_from : (folder : List ℕ) (member : ℕ) (bodies : List Placed) (i : ℕ) (body : Placed) → i < length bodies → body ≡ get_or bodies i body
    → written_bodies folder member (drop i bodies) ≡ written_bodies folder member (body ∷ []) ++ written_bodies folder member (drop (i + 1) bodies)
bodies_from folder member bodies i body within is =
    let more : suc i ≡ i + 1 = omega arith in
    let here : drop i bodies ≡ body ∷ drop (i + 1) bodies =
    drop-cons bodies i body within ∙ (ap (λ (first : Placed). first ∷ drop (suc i) bodies) (sym is) ∙ ap (λ (n : ℕ). body ∷ drop n bodies) more) in
    ap (λ (some : List Placed). written_bodies folder member some) here ∙ body_by_itself folder member body (drop (i + 1) bodies)

pub members_from : {A : Type 0} (f : ℕ → List A) (index count : ℕ) → index < count
    → flat_map f (range_with_len (1 + index) (count - index)) ≡ f (1 + index) ++ flat_map f (range_with_len (1 + (index + 1)) (count - (index + 1)))
members_from f index count within =
    let one : count - index ≡ suc (count - (index + 1)) = omega arith in
    let next : 1 + index + 1 ≡ 1 + (index + 1) = omega arith in
    rw one (ap (λ (from : ℕ). f (1 + index) ++ flat_map f (range_with_len from (count - (index + 1)))) next)
