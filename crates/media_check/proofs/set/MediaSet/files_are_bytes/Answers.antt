use Rattle.std.proofs.Common.{subst, sym}
use Rattle.std.specs.List.{AllByRecursion}
use Rattle.std.specs.Map.Iter.{deref}
use Rattle.std.specs.Map.{values_of}
use Rattle.std.proofs.lemmas.List.Elements.{recursion_from_All}
use Rattle.std.proofs.lemmas.Map.Iter.{rest_all}
use Rattle.media_check.specs.Kept.{IsBytesFile, IsShortFile}
use Rattle.media_check.proofs.Lookups.{found_are_bytes}
use Rattle.media_check.proofs.set.MediaSet.files_are_bytes.Goals as goal

pub returns : goal.returns
returns c =
    let none = rest_all deref c.loop-file.file-iterator c.next.new.self c.next.result c.in-None.is c.next.ensures.steps in
    let all = c.loop-file.invariant (subst (AllByRecursion IsBytesFile) (sym none) tt) in
    found_are_bytes c.args.self.now.files.entries all (recursion_from_All IsShortFile (values_of c.args.self.now.files.entries) c.args.self.now.short)
