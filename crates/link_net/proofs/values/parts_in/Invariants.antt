use Rattle.std.proofs.Common.{◌≡◌, length, option_copied}
use Rattle.exchange_trace.specs.Scripts.{part_words}
use Rattle.link_net.specs.Reading.{and_later, words_in, words_of}
use Rattle.link_net.proofs.values.parts_in.Given as goal

-- the parts so far, and the words that are left
abbrev pub invariant-loop-left : goal.invariant-loop-left
invariant-loop-left l = record { said : part_words l.line (words_in l.text) ≡ and_later l.parts.items (part_words l.line (words_of (option_copied l.left))) }

abbrev pub decreases-loop-left : goal.decreases-loop-left
decreases-loop-left l = length (words_of (option_copied l.left))
