use Rattle.lis_store.proofs.Common.{◌∙◌, sym, ap, subst, Ext}
use Rattle.lis_eval.specs.View.{TellsFiles}
use Rattle.lis_store.specs.Stored.{Stored, IsSound}
use Rattle.lis_store.specs.Seen.{seen_of}
use Rattle.lis_store.proofs.Viewing.{is_view, tells_files}
use Rattle.lis_store.proofs.store.StoreView.ext.Goals as goal

pub returns-clause-told : goal.returns-clause-told
returns-clause-told c =
    let P : Stored → Type 0 = λ k. IsSound k in
    let sound = subst P c.self.view_is c.self.invariant in
    let Q : Ext → Type 0 = λ e. TellsFiles (seen_of c.args.self.now.metadata) e in
    subst Q (sym (c.ext.ensures ∙ ap (λ (k : Stored). k.metadata.ext) c.self.view_is)) (tells_files c.args.self.now.metadata sound.metadata sound.free)

pub returns-clause-kept : goal.returns-clause-kept
returns-clause-kept c =
    let P : Stored → Type 0 = λ k. IsSound k in
    let sound = subst P c.self.view_is c.self.invariant in
    is_view c.args.self.now.metadata sound.metadata sound.closed sound.tests
