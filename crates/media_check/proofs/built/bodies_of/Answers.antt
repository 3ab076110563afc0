use Rattle.std.proofs.Common.{◌≡◌, ◌+◌, ◌≤◌, ◌∷◌, ◌++◌, [], List, ℕ, Bool, None, Option, cond, false, length, take, map, ap, sym, subst, ◌∙◌}
use Rattle.std.specs.Map.{lookup}
use Rattle.load_base.specs.Bytes.{same_bytes}
use Rattle.load_base.specs.Host.{longest_file}
use Rattle.load_base.specs.Listed.{Listed}
use Rattle.media_lists.specs.Entries.{is_listed}
use Rattle.media_lists.specs.Files.{file_name}
use Rattle.media_lists.specs.declared.lists.ListedFile.{ListedFile}
use Rattle.media_check.specs.BuiltSets.{file_with}
use Rattle.media_check.specs.Kept.{bytes_view, contents}
use Rattle.media_check.proofs.Bodies.{files_more, unlisted_before}
use Rattle.media_check.proofs.FindingLists.{mapped_more}
use Rattle.media_check.proofs.KeptFiles.{new_at, no_key, keys_more, short_more}
use Rattle.media_check.proofs.Taken.{taken_more}
use Rattle.media_check.proofs.built.bodies_of.Goals as goal

pub keep-requires : goal.keep-requires
keep-requires c =
    let entries = c.args.entries.now in
    let i = c.loop-entry.entry-index in
    no_key (take i entries) c.entry-item.result.name c.loop-entry.kept.entries (new_at [] entries i c.entry-item.result c.loop-entry-test.true c.entry-item.is c.requires.new) c.loop-entry.invariant.names

pub loop-entry-preserved : goal.loop-entry-preserved
loop-entry-preserved c =
    let entries = c.args.entries.now in
    let i = c.loop-entry.entry-index in
    let entry = c.entry-item.result in
    let bodies = c.args.loose.entries in
    let taken : take (i + 1) entries ≡ take i entries ++ entry ∷ [] = taken_more entries i entry c.loop-entry-test.true c.entry-item.is in
    let unlisted = new_at [] entries i entry c.loop-entry-test.true c.entry-item.is c.requires.new in
    let found : c.swap_remove.result ≡ lookup (same_bytes entry.name) bodies = c.swap_remove.ensures.value ∙ c.loop-entry.invariant.rest entry.name unlisted in
    record {
      rest =
          λ name apart.
          let both = unlisted_before name (take i entries) entry (subst (λ (l : List ListedFile). is_listed file_name name l ≡ false) taken apart) in
          c.swap_remove.ensures.updates.0 name ∙ ap (λ (b : Bool). cond b None (lookup (same_bytes name) c.loop-entry.loose.entries)) both.1 ∙ c.loop-entry.invariant.rest name both.0;
      names =
          keys_more c.loop-entry.kept.entries c.keep.new.kept.entries entry.name _ c.in_ok-keep.ensures ∙ ap (λ (l : List (List ℕ)). l ++ entry.name ∷ []) c.loop-entry.invariant.names
          ∙ sym (mapped_more file_name entries i entry c.loop-entry-test.true c.entry-item.is);
      files =
          files_more bodies (take i entries) entry c.loop-entry.kept.entries c.keep.new.kept.entries c.swap_remove.result c.in_ok-keep.ensures found c.loop-entry.invariant.files
          ∙ ap (map (file_with bodies)) (sym taken);
      short =
          short_more c.loop-entry.kept.entries c.keep.new.kept.entries entry.name _ c.in_ok-keep.ensures c.loop-entry.invariant.short
          (subst (λ (b : Option (Listed ℕ)). length (contents (bytes_view b)) ≤ longest_file) (sym found) (c.requires.short entry.name));
    }
