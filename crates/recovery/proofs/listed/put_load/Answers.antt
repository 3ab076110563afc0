use Rattle.std.proofs.Common.{◌≡◌, List, ◌++◌, length, get_or, sym, ap, ap₂, subst, ◌∙◌}
use Rattle.std.proofs.lemmas.Result.{on_ok_weaker}
use Rattle.disk_layout.specs.declared.manifest.ManifestFile.{ManifestFile}
use Rattle.listing.specs.Listing.{load_line_of}
use Rattle.recovery.specs.Listings.{ListsFiles}
use Rattle.recovery.proofs.Lines.{one_load}
use Rattle.recovery.proofs.listed.put_load.Goals as goal

pub returns-clause-listed : goal.returns-clause-listed
returns-clause-listed g c =
    let e = c.args.entry.now in
    let f = c.index-files-0.result in
    let reads = (g.K.Disk.state c.args.disk.now).reads in
    let before = c.args.out.now.items in
    let middle = c.put_load_line.new.out.items in
    let after = c.put_files.new.out.items in
    let first : f ≡ get_or e.files.items 0 f = c.index-files-0.is ∙ ap (λ (l : List ManifestFile). get_or l 0 f) c.as_slice-files.ensures in
    on_ok_weaker c.put_files.result
    (λ (listed : ListsFiles reads c.args.at c.as_slice-files.result.now middle after).
    one_load reads c.args.at e f before middle after first c.requires.files
    (c.in_ok-put_load_line.ensures
    ∙ ap₂ (λ (l : List ManifestFile) (x : ManifestFile). before ++ load_line_of e.part x.name (length l)) c.as_slice-files.ensures (sym c.index-files-0.is))
    (subst (λ (l : List ManifestFile). ListsFiles reads c.args.at l middle after) c.as_slice-files.ensures listed))
    c.put_files.ensures.listed
