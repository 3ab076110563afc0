use Rattle.std.proofs.Common.{◌≡◌, ◌∷◌, List, ℕ, sym, ap, subst, arith, ◌∙◌}
use Rattle.std.specs.Prelude.{codes, IfNone}
use Rattle.loader_cli.specs.Commands.{IsAny, IsNo, command_view, texts_of}
use Rattle.loader_cli.proofs.Named.{plain_names_first}
use Rattle.loader_cli.proofs.command.Asked.read.Goals as goal

pub returns-in-Some-clause-none : goal.returns-in-Some-clause-none
returns-in-Some-clause-none c =
    let first = sym c.as_str.ensures.value ∙ c.is_text.ensures.0 c.if-is_text.true in
    let words : texts_of c.args.words.now ≡ codes "on" ∷ texts_of c.in-Some.after.now = ap texts_of c.in-Some.ensures.cases.0 ∙ ap (λ (word : List ℕ). word ∷ texts_of c.in-Some.after.now) first in
    subst (λ (all : List (List ℕ)). IfNone c.of_unit.result (IsNo IsAny all)) (sym words) c.of_unit.ensures.none

pub returns-in-Some-read-clause-disks : goal.returns-in-Some-read-clause-disks
returns-in-Some-read-clause-disks c = (
  sym (plain_names_first (texts_of c.args.words.now) (command_view c.in-Some-read.command) c.in-Some-read.ensures.some),
  omega arith,
)
