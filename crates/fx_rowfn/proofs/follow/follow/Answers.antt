use Rattle.fx_rowfn.proofs.FollowLaws.{awaited_carried, two_carried}
use Rattle.fx_rowfn.proofs.follow.follow.Goals as goal

pub returns-in_ok-push-in-Await-clause-carries : goal.returns-in_ok-push-in-Await-clause-carries
returns-in_ok-push-in-Await-clause-carries c =
    awaited_carried c.args.next c.in-Await.frame c.in-Await.control c.args.frames.now.items c.push.new.self.items c.args.meter.now c.in-Await.is c.in_ok-push-in-Await.ensures.items

pub returns-in_ok-push-in-AwaitTwo-2-clause-carries : goal.returns-in_ok-push-in-AwaitTwo-2-clause-carries
returns-in_ok-push-in-AwaitTwo-2-clause-carries c =
    two_carried c.args.next c.in-AwaitTwo.below c.in-AwaitTwo.frame c.in-AwaitTwo.control c.args.frames.now.items c.push-in-AwaitTwo.new.self.items c.push-in-AwaitTwo-2.new.self.items c.args.meter.now
    c.in-AwaitTwo.is c.in_ok-push-in-AwaitTwo.ensures.items c.in_ok-push-in-AwaitTwo-2.ensures.items
