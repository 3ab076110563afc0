-- How the loads of an upload stand: the first ones in one way, the others in another.
use Rattle.std.proofs.Common.{◌≡◌, ℕ, zero, suc, ◌≤◌, List, [], ◌∷◌, ◌++◌, length, map, take, drop, refl, ap, arith}
use Rattle.std.specs.List.{All}
use Rattle.std.proofs.lemmas.List.Elements.{All-nil, All-cons}
use Rattle.load_protocol_files.specs.declared.lur.Wanted.{Wanted}
use Rattle.load_protocol_files.specs.declared.lus.LoadStatus.{LoadStatus}
use Rattle.session_rules.specs.Reports.{load_status, load_statuses}

pub in_two : (arrived status other : ℕ) (loads : List Wanted)
    → load_statuses arrived status other loads ≡ map (load_status 100 status) (take arrived loads) ++ map (load_status 0 other) (drop arrived loads)
in_two zero status other [] = refl
in_two (suc n) status other [] = refl
in_two zero status other (load ∷ loads) = ap (λ more. load_status 0 other load ∷ more) (in_two zero status other loads)
in_two (suc n) status other (load ∷ loads) = ap (λ more. load_status 100 status load ∷ more) (in_two n status other loads)

pub same_count : (arrived status other : ℕ) (loads : List Wanted) → length (load_statuses arrived status other loads) ≡ length loads
same_count arrived status other [] = refl
same_count zero status other (load ∷ loads) = ap suc (same_count zero status other loads)
same_count (suc n) status other (load ∷ loads) = ap suc (same_count n status other loads)

pub are_ratios : (arrived status other : ℕ) (loads : List Wanted) → All (λ (load : LoadStatus). load.ratio ≤ 100) (load_statuses arrived status other loads)
are_ratios arrived status other [] = All-nil (λ (load : LoadStatus). load.ratio ≤ 100)
are_ratios zero status other (load ∷ loads) =
    All-cons (λ (load : LoadStatus). load.ratio ≤ 100) (load_status 0 other load) (load_statuses zero status other loads) (omega arith) (are_ratios zero status other loads)
are_ratios (suc n) status other (load ∷ loads) =
    All-cons (λ (load : LoadStatus). load.ratio ≤ 100) (load_status 100 status load) (load_statuses n status other loads) (omega arith) (are_ratios n status other loads)
