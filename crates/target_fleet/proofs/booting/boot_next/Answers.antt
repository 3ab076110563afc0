use Rattle.std.proofs.Common.{◌∷◌, [], ◌++◌, inl, refl, ap, subst, sym, ◌∙◌}
use Rattle.std.specs.Prelude.{length, slice_set}
use Rattle.std.proofs.lemmas.Option.{slice_get_read}
use Rattle.disk_layout.specs.DiskReads.{RunsOn}
use Rattle.disk_model.specs.State.{OnlyReads}
use Rattle.media_check.specs.Sets.{set_view}
use Rattle.upload_replay.specs.Endings.{FailsToBegin}
use Rattle.target_fleet.specs.Boots.{BootsUnit, FailsAt}
use Rattle.target_fleet.proofs.FirstBoots.{fails_at, reads_one}
use Rattle.target_fleet.proofs.Indexed.{same_there, set_same}
use Rattle.target_fleet.proofs.booting.boot_next.Goals as goal

pub returns-in-Err-clause-refused : goal.returns-in-Err-clause-refused
returns-in-Err-clause-refused g c = record {
  runs = λ before after was is.
      inl
      (subst (λ k. RunsOn (g.K.Disk.state before) (g.K.Disk.state k)) (same_there c.args.disks.now c.args.index before after was is) (record { reads = refl; running = c.requires.running before was }));
}

pub returns-in-Ok-boot-clause-booted : goal.returns-in-Ok-boot-clause-booted
returns-in-Ok-boot-clause-booted g c = record {
  driver = c.in-Ok-boot.driver;
  before = c.index-disks-index.result;
  after = c.boot.new.disk;
  more = c.push_reserved.ensures.items ∙ ap (λ drivers. drivers ++ c.in-Ok-boot.driver ∷ []) c.reserve.ensures.items;
  disk = record { there = slice_get_read c.args.disks.now (length c.args.disks.now) c.args.index c.index-disks-index.result refl c.requires.within c.index-disks-index.is; kept = refl };
  boots = subst (λ k. BootsUnit g.K.Disk.state g.R.Rule.may_say c.args.interlock.now (set_view c.args.media.now) c.in-Ok-boot.driver k c.boot.new.disk) (sym c.index-disks-index.is)
      (record {
        begins = c.in-Ok-boot.ensures.begins;
        on_setting = c.in-Ok-boot.ensures.on_setting;
        lives = c.in-Ok-boot.ensures.lives;
        stood = c.in-Ok-boot.ensures.stood;
      });
}

pub returns-in-Ok-boot-clause-reads : goal.returns-in-Ok-boot-clause-reads
returns-in-Ok-boot-clause-reads g c =
    reads_one g.K.Disk.state c.args.index c.index-disks-index.result c.boot.new.disk c.args.disks.now (slice_set c.args.disks.now c.args.index c.boot.new.disk)
    (record { there = slice_get_read c.args.disks.now (length c.args.disks.now) c.args.index c.index-disks-index.result refl c.requires.within c.index-disks-index.is; kept = refl })
    (subst (λ k. OnlyReads (g.K.Disk.state k) (g.K.Disk.state c.boot.new.disk)) (sym c.index-disks-index.is) c.boot.ensures.reads)

pub returns-in-Err-boot-clause-reads : goal.returns-in-Err-boot-clause-reads
returns-in-Err-boot-clause-reads g c =
    reads_one g.K.Disk.state c.args.index c.index-disks-index.result c.boot.new.disk c.args.disks.now (slice_set c.args.disks.now c.args.index c.boot.new.disk)
    (record { there = slice_get_read c.args.disks.now (length c.args.disks.now) c.args.index c.index-disks-index.result refl c.requires.within c.index-disks-index.is; kept = refl })
    (subst (λ k. OnlyReads (g.K.Disk.state k) (g.K.Disk.state c.boot.new.disk)) (sym c.index-disks-index.is) c.boot.ensures.reads)

pub returns-in-Err-boot-clause-refused : goal.returns-in-Err-boot-clause-refused
returns-in-Err-boot-clause-refused g c =
    let there = slice_get_read c.args.disks.now (length c.args.disks.now) c.args.index c.index-disks-index.result refl c.requires.within c.index-disks-index.is in
    subst (λ fault. FailsAt g.K.Disk.state c.args.index fault c.args.disks.now (slice_set c.args.disks.now c.args.index c.boot.new.disk)) (sym c.fault_of.ensures)
    (fails_at g.K.Disk.state c.args.index c.in-Err-boot.fault c.index-disks-index.result c.boot.new.disk c.args.disks.now (slice_set c.args.disks.now c.args.index c.boot.new.disk) there
    (set_same c.args.disks.now c.args.index c.boot.new.disk c.index-disks-index.result there)
    (subst (λ k. FailsToBegin c.in-Err-boot.fault (g.K.Disk.state k) (g.K.Disk.state c.boot.new.disk)) (sym c.index-disks-index.is) c.in-Err-boot.ensures.refused))
