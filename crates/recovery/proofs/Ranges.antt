-- Ranges that are read piece by piece.
use Rattle.std.proofs.Common.{◌≡◌, ℕ, ◌+◌, ◌≤◌, List, [], ◌++◌, length, take, refl, ap, ap₂, ◌∙◌, sym, length-append, arith}
use Rattle.std.proofs.lemmas.Slice.{take-put_mid}
use Rattle.std.specs.Prelude.{Option}
use Rattle.std.specs.Option.{ForSome}
use Rattle.crc_fields.specs.CheckSums.{crc16_of}
use Rattle.disk_model.specs.Image.{Image, range}
use Rattle.disk_layout.proofs.RangeLemmas.{ranges_joined}
use Rattle.recovery.specs.Parts.{IsSumAt}
use borrow.Rule.Slice.PartMut.{put_mid}

-- a buffer of which nothing is filled
pub nothing_filled : (reads : Option Image) (at : ℕ) → ForSome reads (λ image. [] ≡ range image at 0)
unfolding range
nothing_filled reads at image told = refl

-- a buffer that is filled so far, and one piece more
pub filled_more : (reads : Option Image) (at next done more end k : ℕ) (buf piece : List ℕ) → at + done ≡ next → done + more ≡ end → done ≤ length buf → length piece ≡ more
    → ForSome reads (λ image. take done buf ≡ range image at done) → ForSome reads (λ image. piece ≡ range image next more)
    → ForSome reads (λ image. take end (put_mid done k buf piece) ≡ range image at end)
filled_more reads at next done more end k buf piece follows ends within size so_far there image told =
    take-put_mid done k buf piece end (omega (arith, ends, size)) within ∙ ap₂ (λ (a : List ℕ) (b : List ℕ). a ++ b) (so_far image told) (there image told)
    ∙ ranges_joined image at done next more (sym follows) ∙ ap (λ (n : ℕ). range image at n) ends

-- the sum of a piece more
pub piece_more : (reads : Option Image) (at next done more before after : ℕ) (piece : List ℕ) → at + done ≡ next → length piece ≡ more
    → ((bytes : List ℕ) → before ≡ crc16_of bytes → after ≡ crc16_of (bytes ++ piece)) → ForSome reads (λ image. piece ≡ range image next more)
    → IsSumAt reads at done before → IsSumAt reads at (done + more) after
piece_more reads at next done more before after piece follows size takes there so_far = record {
  bytes = so_far.bytes ++ piece;
  size = length-append so_far.bytes piece ∙ ap₂ (λ (m : ℕ) (n : ℕ). m + n) so_far.size size;
  are_there = λ image told. ap₂ (λ (a : List ℕ) (b : List ℕ). a ++ b) (so_far.are_there image told) (there image told) ∙ ranges_joined image at done next more (sym follows);
  is_sum = takes so_far.bytes so_far.is_sum;
}

-- before the first piece
pub nothing_summed : (reads : Option Image) (at sum : ℕ) → sum ≡ crc16_of [] → IsSumAt reads at 0 sum
unfolding range
nothing_summed reads at sum fresh = record { bytes = []; size = refl; are_there = λ image told. refl; is_sum = fresh }
