-- What lines give.
use Rattle.std.proofs.Common.{◌≡◌, ℕ, ◌+◌, ◌<◌, List, ◌∷◌, Option, Some, None, Result, Ok, Err, OnErr, length, drop, get_or, option_map, IfSome, refl, sym, ap, subst, ◌∙◌}
use Rattle.std.proofs.lemmas.List.{drop_more}
use Rattle.exchange_trace.specs.Happenings.{HappeningView, happening_view}
use Rattle.exchange_trace.specs.Following as following
use Rattle.exchange_trace.specs.declared.trace.Happening.{Happening}
use Rattle.link_net.specs.declared.line.Line.{Line}
use Rattle.link_net.specs.declared.turn.Rest.TheVariants as rests
use Rattle.link_net.specs.declared.turn.Turn.{Turn}
use Rattle.link_net.specs.Lines.{line_view, line_views}
use Rattle.link_net.specs.Mail.{MailView, NamesPosted}
use Rattle.link_net.specs.Plans.{IsTurn, LineTakesMemory, TakesMemory, TurnTakesMemory}

abbrev alone : Happening → Turn
alone given = record { given = given; rest = rests.Nothing }

pub once_is : (mail : MailView) (given : Option Happening) (found : Option Turn) (said : Option HappeningView)
    → found ≡ option_map (λ g. record { given = g; rest = rests.Nothing }) given → option_map happening_view given ≡ said
    → IfSome given (λ g. NamesPosted (length mail.posted) (happening_view g)) → IsTurn mail found (λ later. following.once later said)
once_is mail given found said f e named =
    subst (λ x. IsTurn mail x (λ later. following.once later said)) (sym f) (subst (λ y. IsTurn mail (option_map alone given) (λ later. following.once later y)) e (by given named))
  where
    by : (o : Option Happening) → IfSome o (λ g. NamesPosted (length mail.posted) (happening_view g)) → IsTurn mail (option_map alone o) (λ later. following.once later (option_map happening_view o))
    by None n = record { turn = λ later. refl; named = tt }
    by (Some g) n = record { turn = λ later. refl; named = n }

-- ---- the first line that gives something takes memory

first_takes : (o : Option following.Turn) (later : following.Turn) → TurnTakesMemory o → TakesMemory (following.or_else o later).given
first_takes None later takes = absurd takes
first_takes (Some t) later takes = takes

pub lines_take : (s : following.Scene) (lines : List Line) (at : ℕ) (line : Line) → at < length lines → line ≡ get_or lines at line → LineTakesMemory (following.begins s (line_view line))
    → TakesMemory (following.from_lines s (line_views (drop at lines))).given
lines_take s lines at line within is takes =
    let later = line_views (drop (at + 1) lines) in
    let first : drop at lines ≡ line ∷ drop (at + 1) lines = drop_more lines at line within ∙ ap (λ x. x ∷ drop (at + 1) lines) (sym is) in
    rw first (first_takes (following.begins s (line_view line) later) (following.from_lines s later) (takes later))

pub on_err : {T E : Type 0} (r : Result T E) (P : Type 0) → P → OnErr r P
on_err (Ok x) P h = tt
on_err (Err e) P h = h
