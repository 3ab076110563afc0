-- Whether one of many passes a test.
use Rattle.std.proofs.Common.{◌≡◌, ℕ, List, [], ◌∷◌, map, Bool, false, bytes_eq, ◌||◌, refl, ap}
use Rattle.std.specs.List.{list_any}
use Rattle.load_header.specs.declared.header.HardwareAt.{HardwareAt}
use Rattle.load_header.specs.Header.{hardware_at_view}
use Rattle.session_rules.specs.Uploads.{is_at}

any_viewed : {X Y : Type 0} (p : Y → Bool) (f : X → Y) (xs : List X) → list_any (λ x. p (f x)) xs ≡ list_any p (map f xs)
any_viewed p f [] = refl
any_viewed p f (x ∷ xs) = ap (λ b. p (f x) || b) (any_viewed p f xs)

pub for_position : (hw pos : List ℕ) (hardware : List (List ℕ)) (positions : List HardwareAt) → list_any (λ one. bytes_eq one hw) hardware ≡ false
    → list_any (λ at. is_at hw pos (hardware_at_view at)) positions ≡ (list_any (λ one. bytes_eq one hw) hardware || list_any (is_at hw pos) (map hardware_at_view positions))
for_position hw pos hardware positions none = rw none (any_viewed (is_at hw pos) hardware_at_view positions)
