use Rattle.std.proofs.Common.{◌≡◌, length}
use Rattle.field_grammar.specs.Grammar.{read}
use Rattle.tftp_packet.specs.Options.{nothing, rest_of_options}
use Rattle.tftp_packet.proofs.options.take_options.Given as goal

abbrev pub invariant-options : goal.invariant-options
invariant-options l = read (rest_of_options l.others l.seen) l.reader ≡ read (rest_of_options l.others nothing) l.fn.reader

abbrev pub decreases-options : goal.decreases-options
decreases-options l = length l.reader.rest
