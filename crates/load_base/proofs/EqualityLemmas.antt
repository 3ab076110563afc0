-- What `==` finds equal is the same.
use Rattle.std.specs.Prelude.{◌≡◌, ℕ, List, Bool}
use Rattle.std.specs.Bool.{Decides}
use Rattle.std.specs.Cmp.Lexicographic.{pointwise, pointwise_decides, bytes_decides}
use Rattle.load_base.specs.Bytes.{same_bytes}
use Rattle.load_base.specs.Listed.{Listed}

pub equal_bytes : (one other : List ℕ) → Decides (same_bytes one other) (one ≡ other)
equal_bytes one other = bytes_decides one other

pub equal_lists : {T : Type 0} (eq : T → T → Bool) → ((x y : T) → Decides (eq x y) (x ≡ y)) → (one other : Listed T)
    → Decides (pointwise eq one.items other.items) (one.items ≡ other.items)
equal_lists eq decides one other = pointwise_decides decides one.items other.items
