use Rattle.std.proofs.Common.{ℕ, ◌+◌, List, rules, refl, sym, ◌∙◌, subst, arith}
use Rattle.lis_store.specs.Stored.{IsIndex}
use Rattle.lis_store.proofs.Reading.{index_first}
use Rattle.lis_session.proofs.Blocks.{blocks_none, blocks_more, blocks_broke, blocks_all}
use Rattle.lis_session.proofs.DiskKept.{stays_none, stays_then}
use Rattle.lis_session.proofs.Going.{ends_then}
use Rattle.lis_session.proofs.content.show_content.Goals as goal

pub loop-n-init : goal.loop-n-init
loop-n-init g c =
    let m = g.T.Disk.meaning c.args.station.now in
    record {
      ends = search rules;
      disk = λ honest. stays_none m;
      index = refl;
      whole = refl;
      held = λ honest. index_first c.args.store.now m.bytes c.args.slot _;
      shown = blocks_none c.args.store.now c.args.slot 0;
    }

pub loop-n-preserved : goal.loop-n-preserved
loop-n-preserved g c =
    let was = c.loop-n.invariant in
    let e = c.in_ok-show_block.ensures in
    let I : ℕ → List ℕ → List ℕ → Type 0 = λ n index bytes. IsIndex c.args.store.now bytes c.args.slot n index in
    record {
      ends = ends_then was.ends e.ends;
      disk = λ honest. stays_then e.ends.same.recorded (was.disk honest) (e.disk (was.ends.same.honest ∙ honest));
      index = e.index;
      whole = e.whole;
      held = λ honest.
          subst (I (c.loop-n.n + 1) c.show_block.new.index) (was.disk honest).same.bytes
          (e.next (was.ends.same.honest ∙ honest) (subst (I c.loop-n.n c.loop-n.index) (sym (was.disk honest).same.bytes) (was.held honest)));
      shown =
          blocks_more c.args.store.now c.args.slot c.loop-n.n was.shown (λ name is state fitting.
          let honest = sym was.ends.same.honest ∙ fitting.honest in
          e.shows (subst (I c.loop-n.n c.loop-n.index) (sym (was.disk honest).same.bytes) (was.held honest)) name is state fitting);
    }

pub returns-in_err-show_block-clause-shows : goal.returns-in_err-show_block-clause-shows
returns-in_err-show_block-clause-shows g c =
    let was = c.loop-n.invariant in
    let I : List ℕ → Type 0 = λ bytes. IsIndex c.args.store.now bytes c.args.slot c.loop-n.n c.loop-n.index in
    blocks_broke c.args.store.now c.args.slot c.loop-n.n was.shown
    (λ name is state fitting.
    let honest = sym was.ends.same.honest ∙ fitting.honest in
    c.in_err-show_block.ensures.shows (subst I (sym (was.disk honest).same.bytes) (was.held honest)) name is state fitting)
    c.from_residual.ensures.1

pub returns-in_err-show_block-clause-disk : goal.returns-in_err-show_block-clause-disk
returns-in_err-show_block-clause-disk g c = λ honest.
    let was = c.loop-n.invariant in
    stays_then c.in_err-show_block.ensures.ends.same.recorded (was.disk honest) (c.in_err-show_block.ensures.disk (was.ends.same.honest ∙ honest))

pub returns-clause-shows : goal.returns-clause-shows
returns-clause-shows g c = blocks_all c.args.store.now c.args.slot c.loop-n.n c.args.size c.requires.sound c.requires.size (omega arith) c.loop-n.invariant.shown

pub returns-clause-disk : goal.returns-clause-disk
returns-clause-disk g c = c.loop-n.invariant.disk
