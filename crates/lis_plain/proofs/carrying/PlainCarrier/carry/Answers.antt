use Rattle.lis_line.specs.Reading.{asked_by}
use Rattle.lis_plain.proofs.Trying.{tried_on, always_ready}
use Rattle.lis_plain.proofs.carrying.PlainCarrier.carry.Goals as goal

pub returns-clause-ready : goal.returns-clause-ready
returns-clause-ready g c = λ more ready. always_ready c.step.result

pub returns-clause-carried : goal.returns-clause-carried
returns-clause-carried g c = λ start entry first tried.
    tried_on start (g.T.Disk.meaning entry) first c.args.self.now c.step.new.self (g.T.Disk.meaning c.args.station.now) (g.T.Disk.meaning c.step.new.station) (asked_by c.args.item.now c.args.payload.now) c.step.result
    tried c.step.ensures.step c.step.ensures.call c.step.ensures.first_fault c.step.ensures.cause
