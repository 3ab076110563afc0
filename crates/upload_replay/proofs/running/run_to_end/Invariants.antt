use Rattle.std.proofs.Common.{◌≡◌, ℕ, false}
use Rattle.accept_rules.specs.Permissions.{Accepts}
use Rattle.link_net.specs.Links.{LinkState}
use Rattle.media_check.specs.Sets.{SetView}
use Rattle.replay_rules.specs.BothEnds.{Setting}
use Rattle.upload_replay.specs.Armings.{ArmsAsGiven}
use Rattle.upload_replay.specs.Drivers.{IsDriverReady, IsUnderWay, StandsOn, StaysOnSetting}
use Rattle.upload_replay.specs.Lives.{LivesOn}
use Rattle.upload_replay.proofs.running.run_to_end.Given as goal

abbrev pub invariant-turns : goal.invariant-turns
invariant-turns g l =
    record {
      ready : IsDriverReady (g.L.Link.state l.link) l.driver (g.K.Disk.state l.disk);
      under_way : (began : LinkState) (faults : ℕ) (media : SetView) → IsUnderWay false began (g.L.Link.state l.fn.link) faults media l.fn.driver (g.K.Disk.state l.fn.disk) → IsUnderWay false began (g.L.Link.state l.link) faults media l.driver (g.K.Disk.state l.disk);
      lives : (accepts : Accepts) → LivesOn g.R.Rule.may_say accepts l.fn.driver → LivesOn g.R.Rule.may_say accepts l.driver;
      on_setting : (set : Setting) → StandsOn g.R.Rule.may_say set l.fn.driver
          → StaysOnSetting g.R.Rule.may_say set false (g.L.Link.state l.fn.link) (g.L.Link.state l.link) l.fn.driver l.driver (g.K.Disk.state l.fn.disk) (g.K.Disk.state l.disk);
      arms : ArmsAsGiven (g.L.Link.state l.fn.link).given (g.L.Link.state l.link).given (g.K.Disk.state l.fn.disk) (g.K.Disk.state l.disk);
      faults : g.L.Link.faults l.link ≡ g.L.Link.faults l.fn.link;
    }
