-- The sessions of the loader and its starts (docs/EXCHANGE.md, "The loader").
use Rattle.std.specs.Prelude.{◌≡◌, List, [], ◌∷◌, ◌++◌, map, Option, Some, None}
use Rattle.exchange_trace.specs.Logs.{Event, Starts_info, Starts_upload}
use Rattle.session_rules.specs.declared.outcome.SessionKind.{SessionKind}
use Rattle.session_rules.specs.declared.outcome.SessionKind.TheVariants.{Info, Upload}
use Rattle.session_rules.specs.Loader.{EndedSession, LoaderSession, LoaderView}
use Rattle.session_rules.specs.LoaderLog.{loader_reading, loader_view}
use Rattle.session_rules.specs.MediaFiles.{Media}

-- the operation that an event starts, if it starts one
abbrev pub started_by : Event → List SessionKind
started_by (Starts_info hw pos) = Info ∷ []
started_by (Starts_upload hw pos parts) = Upload ∷ []
started_by event = []

-- all starts of a log, the newest first
abbrev pub starts_in : List Event → List SessionKind
starts_in [] = []
starts_in (e ∷ log) = started_by e ++ starts_in log

abbrev pub kinds_of : Option LoaderSession → List EndedSession → List SessionKind
kinds_of None ended = map (λ (s : EndedSession). s.kind) ended
kinds_of (Some s) ended = s.start.kind ∷ map (λ (s : EndedSession). s.kind) ended

-- all sessions, the newest first: the live one, and those that are over
abbrev pub sessions_in : LoaderView → List SessionKind
sessions_in v = kinds_of v.live v.ended

-- The loader has one session for each start, in the order of the starts.
abbrev pub OneSessionAStart : Type 0
OneSessionAStart = (media : Media) (log : List Event) → sessions_in (loader_view (loader_reading media log)) ≡ starts_in log
