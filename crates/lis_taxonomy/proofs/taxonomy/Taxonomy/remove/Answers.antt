use Rattle.std.proofs.Common.{◌≤◌, vec_capacity, refl, ap, subst, ◌∙◌, arith}
use Rattle.lis_taxonomy.specs.Taxonomy.{Taxonomy, IsAcyclic, without_edge}
use Rattle.lis_taxonomy.proofs.Seen.{edge_there, edge_absent, acyclic_seen, sound_removed, seen_removed}
use Rattle.lis_taxonomy.proofs.taxonomy.Taxonomy.remove.Goals as goal

pub returns-in_default-clause-absent : goal.returns-in_default-clause-absent
returns-in_default-clause-absent c =
    let m = c.self.inside in
    let gap = rw c.deref.ensures.value at c.in_default.ensures.absent in
    rw (← c.self.view_is) (λ _. edge_absent m.edges.items m.props c.args.p c.args.q c.in_default.field-0 gap, λ _. refl)

pub returns-in_default-clause-acyclic : goal.returns-in_default-clause-acyclic
returns-in_default-clause-acyclic c = subst (λ t. IsAcyclic t) c.self.view_is (acyclic_seen c.self.inside.edges.items c.self.inside.props c.self.invariant.acyclic)

pub invariant_of-self : goal.invariant_of-self
invariant_of-self c =
    let m = c.self.inside in
    let here = rw c.deref.ensures.value at c.in-Ok.ensures.found in
    sound_removed m.edges.items m.entered m.props _ c.self.invariant c.args.p c.args.q c.in-Ok.place here.0 here.1 c.remove.new.self.items c.remove.ensures.items _ (omega (arith, c.remove.ensures.capacity))

pub returns-clause-absent : goal.returns-clause-absent
returns-clause-absent c =
    let m = c.self.inside in
    let here = rw c.deref.ensures.value at c.in-Ok.ensures.found in
    let there = edge_there m.edges.items m.props c.args.p c.args.q c.in-Ok.place here in
    rw (← c.self.view_is) (λ e. absurd cc, λ none. absurd cc)

pub returns-clause-ok : goal.returns-clause-ok
returns-clause-ok c =
    let m = c.self.inside in
    let here = rw c.deref.ensures.value at c.in-Ok.ensures.found in
    seen_removed m.edges.items m.entered m.props _ c.self.invariant c.args.p c.args.q c.in-Ok.place here.0 here.1 c.remove.new.self.items c.remove.ensures.items
    ∙ ap (λ (t : Taxonomy). without_edge t c.args.p c.args.q) c.self.view_is

pub returns-clause-acyclic : goal.returns-clause-acyclic
returns-clause-acyclic c =
    let m = c.self.inside in
    let here = rw c.deref.ensures.value at c.in-Ok.ensures.found in
    let wide : vec_capacity c.self.inside.edges ≤ vec_capacity c.remove.new.self = omega (arith, c.remove.ensures.capacity) in
    let sound = sound_removed m.edges.items m.entered m.props _ c.self.invariant c.args.p c.args.q c.in-Ok.place here.0 here.1 c.remove.new.self.items c.remove.ensures.items _ wide in
    acyclic_seen c.remove.new.self.items m.props sound.acyclic
