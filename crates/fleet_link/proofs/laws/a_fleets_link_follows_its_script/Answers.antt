use Rattle.std.proofs.Common.{refl}
use Rattle.fleet_link.proofs.FleetFollowed.{asked_follows, batch_follows, end_follows, next_follows, post_follows}
use Rattle.fleet_link.proofs.laws.a_fleets_link_follows_its_script.Goals as goal

pub returns-clause-start : goal.returns-clause-start
returns-clause-start c = λ units waiting asks script. record {
  follows = tt;
  count = refl;
  posted = refl;
  given = refl;
  left = refl;
}

pub returns-clause-next : goal.returns-clause-next
returns-clause-next c = λ units waiting asks script steps old new waits may_ask unit h has tells may gives.
    next_follows units waiting asks script steps old waits may_ask has tells may new unit h gives

pub returns-clause-batch : goal.returns-clause-batch
returns-clause-batch c = λ units waiting asks script steps old new waits may_ask part has tells may gives.
    batch_follows units waiting asks script steps old waits may_ask has tells may new part gives

pub returns-clause-asked : goal.returns-clause-asked
returns-clause-asked c = λ units waiting asks script steps old new waits may_ask unit h has tells may starts gives.
    asked_follows units waiting asks script steps old waits may_ask has tells may new unit h starts gives

pub returns-clause-post : goal.returns-clause-post
returns-clause-post c = post_follows

pub returns-clause-end : goal.returns-clause-end
returns-clause-end c = λ units waiting asks script steps old new waits may_ask has tells may gives.
    end_follows units waiting asks script steps old waits may_ask has tells may new gives
