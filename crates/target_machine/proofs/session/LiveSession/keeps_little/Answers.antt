use Rattle.target_machine.proofs.Own.{other_arrives, other_holds, reading_arrives, reading_holds}
use Rattle.target_machine.proofs.session.LiveSession.keeps_little.Goals as goal

pub returns-in-ReadsFile-clause-held : goal.returns-in-ReadsFile-clause-held
returns-in-ReadsFile-clause-held c = λ store stage. reading_holds c.args.self.now c.in-ReadsFile.intake c.in-ReadsFile.is c.keeps_little.ensures.held

pub returns-in-ReadsFile-clause-arriving : goal.returns-in-ReadsFile-clause-arriving
returns-in-ReadsFile-clause-arriving c = λ active. reading_arrives c.args.self.now c.in-ReadsFile.intake c.in-ReadsFile.is c.keeps_little.ensures.arriving

pub returns-in_default-clause-held : goal.returns-in_default-clause-held
returns-in_default-clause-held c = λ store stage. other_holds c.args.self.now.row c.args.self.now.arriving store c.in_default.not-ReadsFile stage c.keeps_little-in_default.ensures

pub returns-in_default-clause-arriving : goal.returns-in_default-clause-arriving
returns-in_default-clause-arriving c = λ active. other_arrives c.args.self.now.row c.args.self.now.arriving c.in_default.not-ReadsFile
