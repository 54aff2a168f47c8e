use Rattle.std.proofs.Common.{refl, ap, subst, ◌∙◌, arith}
use Rattle.lis_taxonomy.specs.Taxonomy.{Taxonomy, IsAcyclic, with_edge}
use Rattle.lis_taxonomy.proofs.Seen.{edge_there, edge_absent, no_way_back, acyclic_seen, entails_seen, seen_entails, sound_added, seen_added}
use Rattle.lis_taxonomy.proofs.taxonomy.Taxonomy.add.Goals as goal

pub returns-in_default-clause-present : goal.returns-in_default-clause-present
returns-in_default-clause-present c =
    let m = c.self.inside in
    let here = rw c.deref.ensures.value at c.in_default.ensures.found in
    rw (← c.self.view_is) (λ _. edge_there m.edges.items m.props c.args.p c.args.q c.in_default.field-0 here, λ _. refl)

pub returns-in_default-clause-cycle : goal.returns-in_default-clause-cycle
returns-in_default-clause-cycle c =
    let m = c.self.inside in
    let here = rw c.deref.ensures.value at c.in_default.ensures.found in
    rw (← c.self.view_is)
    (λ e. absurd cc, λ back. absurd (no_way_back m.edges.items m.props c.self.invariant.acyclic c.args.p c.args.q (edge_there m.edges.items m.props c.args.p c.args.q c.in_default.field-0 here) back))

pub returns-in_default-clause-acyclic : goal.returns-in_default-clause-acyclic
returns-in_default-clause-acyclic c = subst (λ t. IsAcyclic t) c.self.view_is (acyclic_seen c.self.inside.edges.items c.self.inside.props c.self.invariant.acyclic)

pub returns-then-reaches-clause-present : goal.returns-then-reaches-clause-present
returns-then-reaches-clause-present c =
    let m = c.self.inside in
    let gap = rw c.deref.ensures.value at c.in-Err.ensures.absent in
    let none = edge_absent m.edges.items m.props c.args.p c.args.q c.in-Err.place gap in
    rw (← c.self.view_is) (λ e. absurd cc, λ there. absurd cc)

pub returns-then-reaches-clause-cycle : goal.returns-then-reaches-clause-cycle
returns-then-reaches-clause-cycle c =
    let m = c.self.inside in
    let reached = rw c.deref-2.ensures.value at c.reaches.ensures in
    rw (← c.self.view_is) (λ _. entails_seen m.edges.items m.props c.args.q c.args.p (reached.0 c.if-reaches.true), λ _. refl)

pub returns-then-reaches-clause-acyclic : goal.returns-then-reaches-clause-acyclic
returns-then-reaches-clause-acyclic c = acyclic_seen c.self.inside.edges.items c.self.inside.props c.self.invariant.acyclic

pub invariant_of-self-2 : goal.invariant_of-self-2
invariant_of-self-2 c =
    let m = c.self.inside in
    let p_in = rw (← c.self.view_is) at c.requires.p in
    let q_in = rw (← c.self.view_is) at c.requires.q in
    let gap = rw c.deref.ensures.value at c.in-Err.ensures.absent in
    let reached = rw c.deref-2.ensures.value at c.reaches.ensures in
    sound_added m.edges.items m.entered m.props _ c.self.invariant c.args.p c.args.q c.in-Err.place p_in q_in gap (λ chain. let yes = reached.1 chain in cc) c.insert.new.self.items c.in-Ok.ensures.items c.put.new.self c.put.ensures _ (omega (arith, c.insert.ensures.capacity))

pub returns-clause-present : goal.returns-clause-present
returns-clause-present c =
    let m = c.self.inside in
    let gap = rw c.deref.ensures.value at c.in-Err.ensures.absent in
    let none = edge_absent m.edges.items m.props c.args.p c.args.q c.in-Err.place gap in
    rw (← c.self.view_is) (λ e. absurd cc, λ there. absurd cc)

pub returns-clause-cycle : goal.returns-clause-cycle
returns-clause-cycle c =
    let m = c.self.inside in
    let reached = rw c.deref-2.ensures.value at c.reaches.ensures in
    rw (← c.self.view_is) (λ e. absurd cc, λ back. absurd (let yes = reached.1 (seen_entails m.edges.items m.props c.args.q c.args.p back) in cc))

pub returns-clause-ok : goal.returns-clause-ok
returns-clause-ok c =
    let m = c.self.inside in
    let p_in = rw (← c.self.view_is) at c.requires.p in
    let q_in = rw (← c.self.view_is) at c.requires.q in
    let gap = rw c.deref.ensures.value at c.in-Err.ensures.absent in
    let reached = rw c.deref-2.ensures.value at c.reaches.ensures in
    seen_added m.edges.items m.entered m.props _ c.self.invariant c.args.p c.args.q c.in-Err.place p_in q_in gap (λ chain. let yes = reached.1 chain in cc) c.insert.new.self.items c.in-Ok.ensures.items
    ∙ ap (λ (t : Taxonomy). with_edge t c.args.p c.args.q) c.self.view_is

pub returns-clause-acyclic : goal.returns-clause-acyclic
returns-clause-acyclic c =
    let m = c.self.inside in
    let p_in = rw (← c.self.view_is) at c.requires.p in
    let q_in = rw (← c.self.view_is) at c.requires.q in
    let gap = rw c.deref.ensures.value at c.in-Err.ensures.absent in
    let reached = rw c.deref-2.ensures.value at c.reaches.ensures in
    let sound = sound_added m.edges.items m.entered m.props _ c.self.invariant c.args.p c.args.q c.in-Err.place p_in q_in gap (λ chain. let yes = reached.1 chain in cc) c.insert.new.self.items c.in-Ok.ensures.items _ refl _ c.insert.ensures.capacity in
    acyclic_seen c.insert.new.self.items m.props sound.acyclic
