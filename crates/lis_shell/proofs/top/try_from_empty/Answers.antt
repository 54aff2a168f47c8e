use Rattle.std.proofs.Common.{[], refl, sym, subst}
use Rattle.lis_reply.proofs.Showing.{append_known-nil, call_none}
use Rattle.lis_model.specs.Script.{script}
use Rattle.lis_model.specs.Step.{start_of}
use Rattle.lis_shell.specs.Tries.{Tries}
use Rattle.lis_shell.proofs.top.try_from_empty.Goals as goal

pub returns-in_default-clause-keeps : goal.returns-in_default-clause-keeps
returns-in_default-clause-keeps g c = record {
  only = tt;
  disk = call_none (g.T.Disk.meaning c.args.station.now);
  tries = λ bytes known. (
    start_of c.args.limits.now,
    record {
      first = [];
      others = script bytes 1099511627776;
      all = refl;
      shown = sym (append_known-nil (g.T.Disk.meaning c.args.station.now).shown);
      at = refl;
    },
  );
}

pub returns-clause-keeps : goal.returns-clause-keeps
returns-clause-keeps g c = record {
  only = c.try_session.ensures.only;
  disk = c.try_session.ensures.disk;
  tries = λ bytes known. (
    c.try_session.new.plain,
    subst (λ s. Tries s 1099511627776 bytes (g.S.Source.left c.try_session.new.input) (g.T.Disk.meaning c.args.station.now).shown (g.T.Disk.meaning c.try_session.new.station).shown c.try_session.new.plain c.try_session.result)
        c.in-Ok.ensures (c.try_session.ensures.tries bytes known),
  );
}
