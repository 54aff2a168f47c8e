use Rattle.lis_kept.proofs.Common.{sym, ap, subst, ◌∙◌, find, word_from_number, number_below}
use native.Mathlib.Omega.{arith}
use Rattle.std.specs.Option.{option_map}
use Rattle.lis_kept.specs.Metadata.{Metadata}
use Rattle.lis_kept.specs.Behind.{rights_of, is_behind}
use Rattle.lis_kept.specs.Links.{TellsLinks}
use Rattle.lis_kept.specs.Telling.{axioms_of}
use Rattle.lis_kept.specs.contracts.metadata.Metadata.{the_view}
use Rattle.lis_kept.proofs.FirstRight.{no_rights, rights_told}
use Rattle.lis_kept.proofs.metadata.Metadata.axiom_behind.Goals as goal

pub edges_from-requires : goal.edges_from-requires
edges_from-requires c =
    let sound = c.self.invariant.sound in
    let below = number_below c.self.inside.dict sound.dict c.args.left.now c.in_ok-number.number (sym c.id_of.ensures ∙ c.in_ok-number.was) in
    omega (arith, below, sound.numbers, ap (λ (k : Metadata). k.limits.props) c.self.view_is, c.taxonomy.ensures.props)

pub returns-in_err-number : goal.returns-in_err-number
returns-in_err-number c =
    let k = the_view c.self.inside in
    let first = find (is_behind (option_map (λ w. w.now) c.args.last)) in
    let none = no_rights k c.self.invariant.sound c.args.left.now (sym c.id_of.ensures ∙ c.in_err-number.was) in
    c.from_residual.ensures ∙ ap first (sym none) ∙ ap (λ (k : Metadata). first (rights_of (axioms_of k) c.args.left.now)) c.self.view_is

pub returns : goal.returns
returns c =
    let sound = c.self.invariant.sound in
    let t = c.taxonomy.result.now in
    let first = find (is_behind (option_map (λ w. w.now) c.args.last)) in
    let left = c.args.left.now in
    let number = c.in_ok-number.number in
    let tells = subst (λ k. TellsLinks k t) (sym c.self.view_is) c.taxonomy.ensures in
    let named = word_from_number c.self.inside.dict sound.dict left number (sym c.id_of.ensures ∙ c.in_ok-number.was) in
    c.first_right.ensures
    ∙ (ap first (sym (rights_told (the_view c.self.inside) sound t tells number left c.edges_from.result.now named c.edges_from.ensures))
    ∙ ap (λ (k : Metadata). first (rights_of (axioms_of k) left)) c.self.view_is)
