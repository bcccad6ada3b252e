use Rattle.oil.proofs.Tables.{resource_low, event_low}
use Rattle.oil.proofs.judge.refer.Goals as goal

pub add_user-requires : goal.add_user-requires
add_user-requires c = resource_low c.args.draft c.args.names.now c.args.name c.in-Some.record c.requires.sound c.in-Some.ensures c.in-Resource-Resource.is-1

pub register-requires : goal.register-requires
register-requires c = event_low c.args.draft c.args.names.now c.args.name c.in-Some.record c.requires.sound c.in-Some.ensures c.in-Event-Event.is-1
