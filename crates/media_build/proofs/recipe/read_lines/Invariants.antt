use Rattle.std.proofs.Common.{◌≡◌, ◌+◌, ◌==◌, [], length}
use Rattle.std.specs.List.{slice_split}
use Rattle.text_words.specs.Words.{written_from, written_lines}
use Rattle.media_build.specs.Recipes.{lines_said}
use Rattle.media_build.proofs.recipe.read_lines.Given as goal

-- what the lines that are left say after those so far; the number of the next line
abbrev pub invariant-loop-line : goal.invariant-loop-line
invariant-loop-line l =
    record {
      said : lines_said l.partial (written_from l.number l.lines) ≡ lines_said [] (written_lines l.bytes);
      count : l.number + length l.lines ≡ length (slice_split (λ byte. byte == 10) l.bytes) + 1;
    }

abbrev pub decreases-loop-line : goal.decreases-loop-line
decreases-loop-line l = length l.lines
