-- The sessions of a loader, as it keeps them.
use Rattle.std.proofs.Common.{arith, ◌≡◌, ℕ, ◌+◌, ◌-◌, List, [], ◌∷◌, true, ◌++◌, length, map, reverse, take, Option, Some, None, is_some, sym, ap, ◌∙◌}
use Rattle.std.specs.List.{take-map}
use Rattle.std.proofs.Math.Seq.{take-append_seam}
use Rattle.std.proofs.lemmas.List.{append-nil, length-append, length-map, map-append, reverse-reverse}
use Rattle.session_rules.specs.Loader.{EndedSession, LoaderSession}
use Rattle.loader_machine.specs.declared.session.Session.{Session}
use Rattle.loader_machine.specs.Machine.{IsOpenLast, ended_view, open_session, open_sessions, session_view, settled}

-- a session more stands last
pub stands_last : (items more : List Session) (session : Session) → more ≡ items ++ session ∷ [] → (earlier : List EndedSession) × (map session_view more ≡ earlier ++ session_view session ∷ [])
stands_last items more session m = (map session_view items, ap (map session_view) m ∙ map-append session_view items (session ∷ []))

less_one : (n : ℕ) → n + 1 - 1 ≡ n
less_one n = omega arith

-- all but the last
all_but : (sessions : List Session) (earlier : List EndedSession) (last : EndedSession) → map session_view sessions ≡ earlier ++ last ∷ [] → map session_view (settled true sessions) ≡ earlier
all_but sessions earlier last e =
    sym (take-map session_view (length sessions - 1) sessions)
    ∙ ap (λ xs. take (length sessions - 1) xs) e
    ∙ ap (λ n. take (n - 1) (earlier ++ last ∷ [])) (sym (length-map sessions session_view) ∙ ap length e ∙ length-append earlier (last ∷ []))
    ∙ ap (λ n. take n (earlier ++ last ∷ [])) (less_one (length earlier))
    ∙ take-append_seam earlier (last ∷ [])

pub all_of : (live : Option LoaderSession) (sessions : List Session) → IsOpenLast live sessions → map session_view sessions ≡ reverse (ended_view (is_some live) sessions) ++ open_sessions live
all_of None sessions is = sym (append-nil (reverse (reverse (map session_view sessions))) ∙ reverse-reverse (map session_view sessions))
all_of (Some s) sessions is =
    let (earlier, e) = is in
    e ∙ ap (λ xs. xs ++ open_session s ∷ []) (sym (reverse-reverse (map session_view (settled true sessions)) ∙ all_but sessions earlier (open_session s) e))
