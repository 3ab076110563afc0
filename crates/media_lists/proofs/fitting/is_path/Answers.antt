use Rattle.std.proofs.Common.{sym, ◌∙◌, rules}
use Rattle.media_lists.proofs.Fits.{some_or_none}
use Rattle.media_lists.proofs.PathLemmas.{is_path, has_no_fault}
use Rattle.media_lists.proofs.fitting.is_path.Goals as goal

pub returns-in-None : goal.returns-in-None
returns-in-None c = (λ _. is_path c.args.bytes.now (sym c.path_fault.ensures ∙ c.in-None.is), λ _. search rules)

pub returns-in-Some : goal.returns-in-Some
returns-in-Some c = (λ not_so. search rules, λ path. absurd (some_or_none c.in-Some.field-0 (sym c.in-Some.is ∙ (c.path_fault.ensures ∙ has_no_fault c.args.bytes.now path))))
