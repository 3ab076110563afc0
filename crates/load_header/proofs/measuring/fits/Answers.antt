use Rattle.std.proofs.Common.{rules, sym, ◌∙◌}
use Rattle.load_header.specs.Header.{header_view}
use Rattle.load_header.proofs.Limits.{is_header, header_short}
use Rattle.load_header.proofs.measuring.fits.Goals as goal

pub returns : goal.returns
returns c = (
  λ so.
      is_header (header_view c.args.header.now) (sym c.few_members.ensures ∙ c.if-not-few_members.false) (c.few_files.ensures.0 c.if-not-few_files.false) (sym c.is_short.ensures.short ∙ so)
      (c.is_short.ensures.parts so) (search rules) (search rules),
  λ is. c.is_short.ensures.short ∙ header_short (header_view c.args.header.now) is,
)
