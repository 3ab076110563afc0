use Rattle.std.proofs.Common.{arith}
use Rattle.media_build.specs.Building.{sources_in}
use Rattle.media_build.specs.Generator.{generated}
use Rattle.media_build.specs.GeneratedSet.{generated_lines, generated_sources}
use Rattle.media_build.proofs.AcceptedRecipes.{what_a_text_says_is_a_recipe}
use Rattle.media_build.proofs.BuildFindings.{built_sizes_fit}
use Rattle.media_build.proofs.GeneratedSets.{generated_size, is_recipe, sizes_fit}
use Rattle.media_build.proofs.WrittenSets.{written_folder_files, written_folder_has}
use Rattle.media_build.proofs.laws.a_written_folder_holds_the_set.Goals as goal

pub returns : goal.returns
returns c =
    let readable = c.a_written_set_can_be_read.ensures in
    let clean = c.a_built_set_has_no_finding.ensures.written in
    record {
      built = λ folder text lines built files old new said sizes builds small written.
          let is = what_a_text_says_is_a_recipe text lines said in
          let fits = built_sizes_fit lines built files c.header_laws.ensures.same_size sizes builds in
          record {
            has = written_folder_files folder (sources_in files) lines built old new is builds.1 written;
            set = λ fresh. record {
              has = written_folder_has folder (sources_in files) lines built old new is fresh builds.1 written;
              sound = record {
                readable = readable folder (sources_in files) lines built old new is fits fresh builds.1 small.together written;
                clean = clean folder (sources_in files) lines built old new is fits fresh builds.1 written;
              };
            };
          };
      made = λ folder number built old new same small written.
          let size = generated_size number 4194304 in
          let fits = sizes_fit (generated number 4194304) (rw size (omega arith)) in
          record {
            has = written_folder_files folder (generated_sources number) generated_lines built old new is_recipe same written;
            set = λ fresh. record {
              has = written_folder_has folder (generated_sources number) generated_lines built old new is_recipe fresh same written;
              sound = record {
                readable = readable folder (generated_sources number) generated_lines built old new is_recipe fits fresh same small.together written;
                clean = clean folder (generated_sources number) generated_lines built old new is_recipe fits fresh same written;
              };
            };
          };
    }
