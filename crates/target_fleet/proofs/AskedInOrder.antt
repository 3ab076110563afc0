-- Each batch asked the uploads to its first targets, and one that is completed asked all (docs/EXCHANGE.md, "Batches").
use Rattle.std.proofs.Common.{◌≡◌, ◌⊎◌, inl, inr, ℕ, ◌+◌, ◌-◌, ◌<◌, ◌≤◌, Bool, true, false, cond, List, [], ◌∷◌, ◌++◌, length, map, reverse, take, Option, Some, None, arith, refl, sym, ap, subst, ◌∙◌}
use Rattle.std.specs.Prelude.{is_some, nat_lt, option_map, slice_get}
use Rattle.std.proofs.lemmas.Bool.{ltb-true, ltb-false}
use Rattle.std.proofs.lemmas.Grind.{reverse_onto}
use Rattle.std.proofs.lemmas.List.{take_all}
use Rattle.batch_lists.specs.Batch.{BatchTargetView, BatchView}
use Rattle.exchange_trace.specs.Happenings.{HappeningView}
use Rattle.exchange_trace.specs.Steps.{Step}
use Rattle.fleet_trace.specs.FleetTraces.{StepOfFleet, Of_unit, Of_batch, Of_all}
use Rattle.media_check.specs.Sets.{SetView, batch_of}
use Rattle.session_rules.specs.Loader.{EndedSession}
use Rattle.session_rules.specs.declared.outcome.Outcome.{Outcome}
use Rattle.session_rules.specs.declared.outcome.Outcome.TheVariants as outcomes
use Rattle.target_fleet.specs.AskedUploads.{AllAskFirstTargets, AreAskedInTurn, AreCompletedBelow, AskedBatch, AskedUpload, AsksFirstTargets, CompletedAskedAll, CompletesTargets, IsCompletedAfter, asked_batches, newest_batches, outcome_at, targets_in, targets_of, unit_of_target, upload_to_target, with_upload}
use Rattle.target_fleet.specs.Asking.{AllAsked, AskedSession, IsUploadAt, LastAsked, Last_completed, Last_open, Last_otherwise, None_asked, RunningBatch, UnitPlace, asked_once_more, became_of, begun_batch, end_in, end_of_running, ended_before, ended_by, ends_of, least_unit_from, may_go_on, next_in_batch, next_of_running, running_after, session_asked, session_came_to, sessions_after, upload_to, with_end_of}
use Rattle.target_fleet.specs.declared.outcome.BatchEnd.{BatchEnd}
use Rattle.target_fleet.specs.declared.outcome.BatchOutcome.TheVariants as ends
use Rattle.target_fleet.proofs.CompletedSessions.{stays_completed}
use Rattle.target_fleet.proofs.Indexed.{more_read}

-- ---- lists

length_more : {A : Type 0} (xs : List A) (x : A) → length (xs ++ x ∷ []) ≡ length xs + 1
length_more [] x = refl
length_more (y ∷ xs) x = let rest = length_more xs x in omega (arith, rest)

-- a prefix with one more
prefix_more : {A B C : Type 0} (f : A → C) (g : B → C) (xs : List A) (x : A) (ys : List B) (y : B) → map f xs ≡ map g (take (length xs) ys) → slice_get ys (length xs) ≡ Some y → f x ≡ g y
    → map f (xs ++ x ∷ []) ≡ map g (take (length (xs ++ x ∷ [])) ys)
prefix_more f g [] x [] y same there is = absurd cc
prefix_more f g [] x (z ∷ ys) y same there is = let first : z ≡ y = cc in ap (λ one. one ∷ []) (is ∙ ap g (sym first))
prefix_more f g (w ∷ xs) x [] y same there is = absurd cc
prefix_more f g (w ∷ xs) x (z ∷ ys) y same there is =
    let first : f w ≡ g z = cc in
    let rest : map f xs ≡ map g (take (length xs) ys) = cc in
    ap (λ one. one ∷ map f (xs ++ x ∷ [])) first ∙ ap (λ all. g z ∷ all) (prefix_more f g xs x ys y rest there is)

-- what is a prefix of nothing is nothing
none_of_none : {A B C : Type 0} (f : A → C) (g : B → C) (xs : List A) → map f xs ≡ map g (take (length xs) []) → length xs ≡ 0
none_of_none f g [] same = refl
none_of_none f g (x ∷ xs) same = absurd cc

-- ---- what became of the session asked last

-- where the batch goes on, it is completed
goes_completed : (asked targets : ℕ) (session : Option EndedSession) → may_go_on asked targets (session_came_to session) ≡ true → option_map (λ (s : EndedSession). s.outcome) session ≡ Some outcomes.Completed
goes_completed asked targets None goes = absurd cc
goes_completed asked targets (Some session) goes = by session.outcome goes
  where
    by : (outcome : Outcome) → may_go_on asked targets (session_came_to (Some (record { kind = session.kind; outcome = outcome; listed = session.listed }))) ≡ true → Some outcome ≡ Some outcomes.Completed
    by outcomes.Completed goes = refl
    by outcomes.Open goes = absurd cc
    by outcome goes = absurd cc

-- where the batch is completed, it is
ended_completed : (session : Option EndedSession) → ended_by (session_came_to session) ≡ ends.Completed → option_map (λ (s : EndedSession). s.outcome) session ≡ Some outcomes.Completed
ended_completed None e = absurd cc
ended_completed (Some session) e = by session.outcome e
  where
    by : (outcome : Outcome) → ended_by (session_came_to (Some (record { kind = session.kind; outcome = outcome; listed = session.listed }))) ≡ ends.Completed → Some outcome ≡ Some outcomes.Completed
    by outcomes.Completed e = refl
    by outcomes.Open e = absurd cc
    by outcome e = absurd cc

stops_at_targets : (asked targets : ℕ) (last : LastAsked) → may_go_on asked targets last ≡ false → ended_by last ≡ ends.Completed → targets ≤ asked
stops_at_targets asked targets None_asked stops e = ltb-false asked targets stops
stops_at_targets asked targets Last_completed stops e = ltb-false asked targets stops
stops_at_targets asked targets Last_open stops e = absurd cc
stops_at_targets asked targets Last_otherwise stops e = absurd cc

module _ (shown : SetView) (places : List UnitPlace) where
  -- ---- the running batch

  -- what it asked
  record IsRunning (steps : List StepOfFleet) (running : RunningBatch) (batch : AskedBatch) : Type 0 where
    part : running.part ≡ batch.part
    asked : running.asked ≡ length batch.uploads
    last : (k : ℕ) (upload : AskedUpload) → k + 1 ≡ length batch.uploads → slice_get batch.uploads k ≡ Some upload → running.last ≡ Some (session_asked shown upload.unit upload.before)
    uploads : map (λ (upload : AskedUpload). upload.started) batch.uploads ≡ map upload_to_target (take (length batch.uploads) (targets_of shown batch.part))
    units : map (λ (upload : AskedUpload). Some upload.unit) batch.uploads ≡ map (unit_of_target places) (take (length batch.uploads) (targets_of shown batch.part))
    in_turn : AreAskedInTurn shown batch.uploads
    former : AreCompletedBelow shown steps (length batch.uploads - 1) batch.uploads

  all_completed : (steps : List StepOfFleet) (running : RunningBatch) (batch : AskedBatch) → IsRunning steps running batch
      → ((session : AskedSession) → running.last ≡ Some session → outcome_at (sessions_after shown steps session.unit) session.number ≡ Some outcomes.Completed)
      → AreCompletedBelow shown steps (length batch.uploads) batch.uploads
  all_completed steps running batch is tells k upload below there = by (nat_lt (k + 1) (length batch.uploads)) refl
    where
      by : (b : Bool) → nat_lt (k + 1) (length batch.uploads) ≡ b → IsCompletedAfter shown steps upload
      by true more = let less = ltb-true (k + 1) (length batch.uploads) more in is.former k upload (omega (arith, less)) there
      by false more = let least = ltb-false (k + 1) (length batch.uploads) more in
          tells (session_asked shown upload.unit upload.before) (is.last k upload (omega (arith, least, below)) there)

  -- what is asked next
  record IsNextTarget (earlier : List StepOfFleet) (running : RunningBatch) (unit : ℕ) (h : HappeningView) : Type 0 where
    target : BatchTargetView
    there : slice_get (targets_of shown running.part) running.asked ≡ Some target
    started : h ≡ upload_to_target target
    least : Some unit ≡ unit_of_target places target
    completed : (session : AskedSession) → running.last ≡ Some session → outcome_at (sessions_after shown earlier session.unit) session.number ≡ Some outcomes.Completed

  abbrev last_after : List StepOfFleet → RunningBatch → LastAsked
  last_after steps running = became_of (sessions_after shown steps) running.last

  next_target : (earlier : List StepOfFleet) (running : RunningBatch) (unit : ℕ) (h : HappeningView) → IsUploadAt unit h (next_of_running shown places (sessions_after shown earlier) (Some running))
      → IsNextTarget earlier running unit h
  next_target earlier running unit h next = of_batch (batch_of shown running.part) refl next
    where
      of_least : (batch : BatchView) → batch_of shown running.part ≡ Some batch → may_go_on running.asked (length batch.targets) (last_after earlier running) ≡ true
          → (target : BatchTargetView) → slice_get batch.targets running.asked ≡ Some target → (least : Option ℕ) → least_unit_from 1 target.hw target.pos places ≡ least
          → IsUploadAt unit h (option_map (λ (n : ℕ). record { unit = n; hw = target.hw; pos = target.pos; parts = target.parts }) least) → IsNextTarget earlier running unit h
      of_least batch listed goes target there None none next = absurd next
      of_least batch listed goes target there (Some n) is next = record {
        target = target;
        there = ap (λ (o : Option BatchView). slice_get (targets_in o) running.asked) listed ∙ there;
        started = next.1;
        least = ap Some next.0 ∙ sym is;
        completed = λ session was. goes_completed running.asked (length batch.targets) (slice_get (sessions_after shown earlier session.unit) session.number)
            (sym (ap (λ (o : Option AskedSession). may_go_on running.asked (length batch.targets) (became_of (sessions_after shown earlier) o)) was) ∙ goes);
      }

      of_target : (batch : BatchView) → batch_of shown running.part ≡ Some batch → may_go_on running.asked (length batch.targets) (last_after earlier running) ≡ true
          → (target : Option BatchTargetView) → slice_get batch.targets running.asked ≡ target → IsUploadAt unit h (upload_to places target) → IsNextTarget earlier running unit h
      of_target batch listed goes None none next = absurd next
      of_target batch listed goes (Some target) there next = of_least batch listed goes target there (least_unit_from 1 target.hw target.pos places) refl next

      of_going : (batch : BatchView) → batch_of shown running.part ≡ Some batch → (b : Bool) → may_go_on running.asked (length batch.targets) (last_after earlier running) ≡ b
          → IsUploadAt unit h (cond b (upload_to places (slice_get batch.targets running.asked)) None) → IsNextTarget earlier running unit h
      of_going batch listed false stops next = absurd next
      of_going batch listed true goes next = of_target batch listed goes (slice_get batch.targets running.asked) refl next

      of_batch : (o : Option BatchView) → batch_of shown running.part ≡ o → IsUploadAt unit h (next_in_batch places running.asked (last_after earlier running) o) → IsNextTarget earlier running unit h
      of_batch None none next = absurd next
      of_batch (Some batch) listed next = of_going batch listed (may_go_on running.asked (length batch.targets) (last_after earlier running)) refl next

  -- where one is asked more
  module _ (unit : ℕ) (s : Step) (earlier : List StepOfFleet) (running : RunningBatch) (batch : AskedBatch) (is : IsRunning earlier running batch) (next : IsNextTarget earlier running unit s.given) where
    abbrev asked_now : AskedUpload
    asked_now = record { unit = unit; started = s.given; before = earlier }

    before_it : AreCompletedBelow shown earlier (length batch.uploads) batch.uploads
    before_it = all_completed earlier running batch is next.completed

    -- the target that comes after those of which uploads were asked
    there_next : slice_get (targets_of shown batch.part) (length batch.uploads) ≡ Some next.target
    there_next = sym (ap (λ (part : List ℕ). slice_get (targets_of shown part) running.asked) is.part ∙ ap (slice_get (targets_of shown batch.part)) is.asked) ∙ next.there

    one_more_asked : IsRunning (Of_unit true unit s ∷ earlier) (asked_once_more (session_asked shown unit earlier) running) (record { part = batch.part; uploads = batch.uploads ++ asked_now ∷ [] })
    one_more_asked = record {
      part = is.part;
      asked = ap (λ (n : ℕ). n + 1) is.asked ∙ sym (length_more batch.uploads asked_now);
      last = λ k upload many there. of_last k upload many (more_read batch.uploads k asked_now upload there);
      uploads = prefix_more (λ (upload : AskedUpload). upload.started) upload_to_target batch.uploads asked_now (targets_of shown batch.part) next.target is.uploads there_next next.started;
      units = prefix_more (λ (upload : AskedUpload). Some upload.unit) (unit_of_target places) batch.uploads asked_now (targets_of shown batch.part) next.target is.units there_next next.least;
      in_turn = λ k upload there j former below at. of_turn k upload j former below (more_read batch.uploads k asked_now upload there) (more_read batch.uploads j asked_now former at);
      former = λ k upload below there. of_former k upload below (more_read batch.uploads k asked_now upload there);
    }
      where
        of_last : (k : ℕ) (upload : AskedUpload) → k + 1 ≡ length (batch.uploads ++ asked_now ∷ [])
            → ((k ≡ length batch.uploads) × (upload ≡ asked_now)) ⊎ ((k < length batch.uploads) × (slice_get batch.uploads k ≡ Some upload))
            → Some (session_asked shown unit earlier) ≡ Some (session_asked shown upload.unit upload.before)
        of_last k upload many (inl (at, same)) = ap (λ (it : AskedUpload). Some (session_asked shown it.unit it.before)) (sym same)
        of_last k upload many (inr (below, there)) = absurd (let more = length_more batch.uploads asked_now in let no : ⊥ = omega (arith, many, below, more) in no)

        of_turn : (k : ℕ) (upload : AskedUpload) (j : ℕ) (former : AskedUpload) → j < k
            → ((k ≡ length batch.uploads) × (upload ≡ asked_now)) ⊎ ((k < length batch.uploads) × (slice_get batch.uploads k ≡ Some upload))
            → ((j ≡ length batch.uploads) × (former ≡ asked_now)) ⊎ ((j < length batch.uploads) × (slice_get batch.uploads j ≡ Some former))
            → IsCompletedAfter shown upload.before former
        of_turn k upload j former below (inl (at, same)) (inl (end, it)) = absurd (let no : ⊥ = omega (arith, at, end, below) in no)
        of_turn k upload j former below (inl (at, same)) (inr (within, there)) = subst (λ (one : AskedUpload). IsCompletedAfter shown one.before former) (sym same) (before_it j former within there)
        of_turn k upload j former below (inr (within, there)) (inl (end, it)) = absurd (let no : ⊥ = omega (arith, within, end, below) in no)
        of_turn k upload j former below (inr (within, there)) (inr (less, at)) = is.in_turn k upload there j former below at

        of_former : (k : ℕ) (upload : AskedUpload) → k < length (batch.uploads ++ asked_now ∷ []) - 1
            → ((k ≡ length batch.uploads) × (upload ≡ asked_now)) ⊎ ((k < length batch.uploads) × (slice_get batch.uploads k ≡ Some upload))
            → IsCompletedAfter shown (Of_unit true unit s ∷ earlier) upload
        of_former k upload below (inl (at, same)) = absurd (let more = length_more batch.uploads asked_now in let no : ⊥ = omega (arith, at, below, more) in no)
        of_former k upload below (inr (within, there)) = stays_completed shown (Of_unit true unit s) earlier upload (before_it k upload within there)

  -- ---- what a batch came to

  -- what it asked then, and what holds where it is completed
  record HasEnded (steps : List StepOfFleet) (batch : AskedBatch) (end : BatchEnd) : Type 0 where
    asks : AsksFirstTargets shown places steps batch end
    completes : end.end ≡ ends.Completed → CompletesTargets shown steps batch

  module _ (steps : List StepOfFleet) (running : RunningBatch) (batch : AskedBatch) (is : IsRunning steps running batch) where
    asks_as : (end : BatchEnd) → end.part ≡ running.part → end.asked ≡ length batch.uploads → end.of ≡ length (targets_of shown running.part) → AsksFirstTargets shown places steps batch end
    asks_as end part asked of = record {
      part = part ∙ is.part;
      asked = asked;
      of = of ∙ ap (λ (it : List ℕ). length (targets_of shown it)) is.part;
      uploads = is.uploads;
      units = is.units;
      in_turn = is.in_turn;
      former = is.former;
    }

    has_ended : HasEnded steps batch (end_of_running shown places (sessions_after shown steps) running)
    has_ended = of_batch (batch_of shown running.part) refl
      where
        completes : (listed : BatchView) → batch_of shown running.part ≡ Some listed → (goes : Bool) → may_go_on running.asked (length listed.targets) (last_after steps running) ≡ goes
            → cond goes (cond (is_some (next_in_batch places running.asked (last_after steps running) (Some listed))) ends.Open ends.NoUnit) (ended_by (last_after steps running)) ≡ ends.Completed → CompletesTargets shown steps batch
        completes listed there true goes e = absurd (goes_on (is_some (next_in_batch places running.asked (last_after steps running) (Some listed))) e)
          where
            goes_on : (some : Bool) → cond some ends.Open ends.NoUnit ≡ ends.Completed → ⊥
            goes_on true e = cc
            goes_on false e = cc
        completes listed there false stops e = record {
          all = is.uploads ∙ ap (λ (targets : List BatchTargetView). map upload_to_target targets) (take_all (length batch.uploads) (targets_of shown batch.part) whole);
          completed = all_completed steps running batch is (λ session was. ended_completed (slice_get (sessions_after shown steps session.unit) session.number)
              (sym (ap (λ (o : Option AskedSession). ended_by (became_of (sessions_after shown steps) o)) was) ∙ e));
        }
          where
            whole : length (targets_of shown batch.part) ≤ length batch.uploads
            whole =
                let most = stops_at_targets running.asked (length listed.targets) (last_after steps running) stops e in
                let many : length (targets_of shown running.part) ≡ length listed.targets = ap (λ (o : Option BatchView). length (targets_in o)) there in
                let same : length (targets_of shown running.part) ≡ length (targets_of shown batch.part) = ap (λ (it : List ℕ). length (targets_of shown it)) is.part in
                let asked = is.asked in omega (arith, most, many, same, asked)

        of_batch : (o : Option BatchView) → batch_of shown running.part ≡ o → HasEnded steps batch (end_in places running (last_after steps running) o)
        of_batch None none =
            let targets : targets_of shown batch.part ≡ [] = ap (λ (it : List ℕ). targets_of shown it) (sym is.part) ∙ ap targets_in none in
            let nothing : length batch.uploads ≡ 0 = none_of_none (λ (upload : AskedUpload). upload.started) upload_to_target batch.uploads
            (is.uploads ∙ ap (λ (all : List BatchTargetView). map upload_to_target (take (length batch.uploads) all)) targets) in
            record {
              asks = asks_as _ refl (sym nothing) (sym (ap (λ (o : Option BatchView). length (targets_in o)) none));
              completes = λ e. absurd (let no : ⊥ = cc in no);
            }
        of_batch (Some listed) there = record {
          asks = asks_as _ refl is.asked (sym (ap (λ (o : Option BatchView). length (targets_in o)) there));
          completes = λ e. completes listed there (may_go_on running.asked (length listed.targets) (last_after steps running)) refl e;
        }

  -- ---- all batches

  record HaveEnded (steps : List StepOfFleet) (batches : List AskedBatch) (ended : List BatchEnd) : Type 0 where
    as_many : length batches ≡ length ended
    each : (i : ℕ) (batch : AskedBatch) (end : BatchEnd) → slice_get batches i ≡ Some batch → slice_get ended i ≡ Some end → HasEnded steps batch end

  abbrev AsksSoFar : List StepOfFleet → Option RunningBatch → List AskedBatch → List BatchEnd → Type 0
  AsksSoFar steps None [] ended = ended ≡ []
  AsksSoFar steps None (batch ∷ older) ended = ⊥
  AsksSoFar steps (Some running) [] ended = ⊥
  AsksSoFar steps (Some running) (batch ∷ older) ended = IsRunning steps running batch × HaveEnded steps (reverse older) ended

  below_stays : (s : StepOfFleet) (steps : List StepOfFleet) (count : ℕ) (uploads : List AskedUpload) → AreCompletedBelow shown steps count uploads → AreCompletedBelow shown (s ∷ steps) count uploads
  below_stays s steps count uploads completed k upload below there = stays_completed shown s steps upload (completed k upload below there)

  running_stays : (s : StepOfFleet) (steps : List StepOfFleet) (running : RunningBatch) (batch : AskedBatch) → IsRunning steps running batch → IsRunning (s ∷ steps) running batch
  running_stays s steps running batch is = record {
    part = is.part;
    asked = is.asked;
    last = is.last;
    uploads = is.uploads;
    units = is.units;
    in_turn = is.in_turn;
    former = below_stays s steps (length batch.uploads - 1) batch.uploads is.former;
  }

  has_ended_stays : (s : StepOfFleet) (steps : List StepOfFleet) (batch : AskedBatch) (end : BatchEnd) → HasEnded steps batch end → HasEnded (s ∷ steps) batch end
  has_ended_stays s steps batch end has = record {
    asks = record {
      part = has.asks.part;
      asked = has.asks.asked;
      of = has.asks.of;
      uploads = has.asks.uploads;
      units = has.asks.units;
      in_turn = has.asks.in_turn;
      former = below_stays s steps (length batch.uploads - 1) batch.uploads has.asks.former;
    };
    completes = λ e. record { all = (has.completes e).all; completed = below_stays s steps (length batch.uploads) batch.uploads (has.completes e).completed };
  }

  have_ended_stays : (s : StepOfFleet) (steps : List StepOfFleet) (batches : List AskedBatch) (ended : List BatchEnd) → HaveEnded steps batches ended → HaveEnded (s ∷ steps) batches ended
  have_ended_stays s steps batches ended have = record {
    as_many = have.as_many;
    each = λ i batch end one other. has_ended_stays s steps batch end (have.each i batch end one other);
  }

  so_far_stays : (s : StepOfFleet) (steps : List StepOfFleet) (running : Option RunningBatch) (batches : List AskedBatch) (ended : List BatchEnd) → AsksSoFar steps running batches ended → AsksSoFar (s ∷ steps) running batches ended
  so_far_stays s steps None [] ended so = so
  so_far_stays s steps None (batch ∷ older) ended so = so
  so_far_stays s steps (Some running) [] ended so = so
  so_far_stays s steps (Some running) (batch ∷ older) ended so = (running_stays s steps running batch so.0, have_ended_stays s steps (reverse older) ended so.1)

  abbrev end_now : List StepOfFleet → RunningBatch → BatchEnd
  end_now steps running = end_of_running shown places (sessions_after shown steps) running

  -- all that began, with the running one
  all_ended : (steps : List StepOfFleet) (running : Option RunningBatch) (batches : List AskedBatch) (ended : List BatchEnd) → AsksSoFar steps running batches ended
      → HaveEnded steps (reverse batches) (with_end_of shown places (sessions_after shown steps) running ended)
  all_ended steps None [] ended so = record { as_many = ap length (sym so); each = λ i batch end one other. absurd (let no : ⊥ = cc in no) }
  all_ended steps None (batch ∷ older) ended so = absurd so
  all_ended steps (Some running) [] ended so = absurd so
  all_ended steps (Some running) (batch ∷ older) ended so =
      subst (λ (all : List AskedBatch). HaveEnded steps all (ended ++ end_now steps running ∷ [])) (sym (reverse_onto older batch [])) (record {
        as_many =
            let one = length_more (reverse older) batch in
            let other = length_more ended (end_now steps running) in
            let many = so.1.as_many in omega (arith, one, other, many);
        each = λ i which end one other. by i which end (more_read (reverse older) i batch which one) (more_read ended i (end_now steps running) end other);
      })
    where
      by : (i : ℕ) (which : AskedBatch) (end : BatchEnd)
          → ((i ≡ length (reverse older)) × (which ≡ batch)) ⊎ ((i < length (reverse older)) × (slice_get (reverse older) i ≡ Some which))
          → ((i ≡ length ended) × (end ≡ end_now steps running)) ⊎ ((i < length ended) × (slice_get ended i ≡ Some end)) → HasEnded steps which end
      by i which end (inl (at, same)) (inl (at_end, same_end)) = subst (λ (b : AskedBatch). HasEnded steps b end) (sym same) (subst (λ (e : BatchEnd). HasEnded steps batch e) (sym same_end) (has_ended steps running batch so.0))
      by i which end (inl (at, same)) (inr (within, there)) = absurd (let many = so.1.as_many in let no : ⊥ = omega (arith, at, within, many) in no)
      by i which end (inr (within, there)) (inl (at, same)) = absurd (let many = so.1.as_many in let no : ⊥ = omega (arith, at, within, many) in no)
      by i which end (inr (within, there)) (inr (less, at)) = so.1.each i which end there at

  asks_more : (unit : ℕ) (s : Step) (earlier : List StepOfFleet) (running : Option RunningBatch) (batches : List AskedBatch) (ended : List BatchEnd) → AsksSoFar earlier running batches ended
      → IsUploadAt unit s.given (next_of_running shown places (sessions_after shown earlier) running)
      → AsksSoFar (Of_unit true unit s ∷ earlier) (option_map (asked_once_more (session_asked shown unit earlier)) running)
      (with_upload (record { unit = unit; started = s.given; before = earlier }) batches) ended
  asks_more unit s earlier None batches ended so next = absurd next
  asks_more unit s earlier (Some running) [] ended so next = absurd so
  asks_more unit s earlier (Some running) (batch ∷ older) ended so next =
      (one_more_asked unit s earlier running batch so.0 (next_target earlier running unit s.given next), have_ended_stays (Of_unit true unit s) earlier (reverse older) ended so.1)

  begins : (part : List ℕ) (earlier : List StepOfFleet) → IsRunning (Of_batch part ∷ earlier) (begun_batch part) (record { part = part; uploads = [] })
  begins part earlier = record {
    part = refl;
    asked = refl;
    last = λ k upload many there. absurd (let no : ⊥ = cc in no);
    uploads = refl;
    units = refl;
    in_turn = λ k upload there. absurd (let no : ⊥ = cc in no);
    former = λ k upload below there. absurd (let no : ⊥ = cc in no);
  }

  asks_so_far : (steps : List StepOfFleet) → AllAsked shown places steps → AsksSoFar steps (running_after shown steps) (newest_batches steps) (ended_before shown places steps)
  asks_so_far [] asked = refl
  asks_so_far (Of_unit true unit s ∷ earlier) asked =
      asks_more unit s earlier (running_after shown earlier) (newest_batches earlier) (ended_before shown places earlier) (asks_so_far earlier asked.1) asked.0
  asks_so_far (Of_unit false unit s ∷ earlier) asked =
      so_far_stays (Of_unit false unit s) earlier (running_after shown earlier) (newest_batches earlier) (ended_before shown places earlier) (asks_so_far earlier asked)
  asks_so_far (Of_batch part ∷ earlier) asked = (
    begins part earlier,
    have_ended_stays (Of_batch part) earlier (reverse (newest_batches earlier)) (with_end_of shown places (sessions_after shown earlier) (running_after shown earlier) (ended_before shown places earlier))
        (all_ended earlier (running_after shown earlier) (newest_batches earlier) (ended_before shown places earlier) (asks_so_far earlier asked)),
  )
  asks_so_far (Of_all ∷ earlier) asked =
      so_far_stays Of_all earlier (running_after shown earlier) (newest_batches earlier) (ended_before shown places earlier) (asks_so_far earlier asked)

  have_ended : (steps : List StepOfFleet) → AllAsked shown places steps → HaveEnded steps (asked_batches steps) (ends_of shown places steps)
  have_ended steps asked = all_ended steps (running_after shown steps) (newest_batches steps) (ended_before shown places steps) (asks_so_far steps asked)

  pub one_end_each : (steps : List StepOfFleet) → AllAsked shown places steps → length (asked_batches steps) ≡ length (ends_of shown places steps)
  one_end_each steps asked = (have_ended steps asked).as_many

  pub all_ask_first : (steps : List StepOfFleet) → AllAsked shown places steps → AllAskFirstTargets shown places steps
  all_ask_first steps asked i batch end one other = ((have_ended steps asked).each i batch end one other).asks

  pub completed_asked_all : (steps : List StepOfFleet) → AllAsked shown places steps → CompletedAskedAll shown places steps
  completed_asked_all steps asked i batch end one other e = ((have_ended steps asked).each i batch end one other).completes e
