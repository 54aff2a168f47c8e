use Rattle.std.proofs.Common.{◌≡◌, ◌⊎◌, inl, inr, true, false, sym, ◌∙◌}
use Rattle.lis_taxonomy.proofs.Searches.{chain_enters}
use Rattle.lis_taxonomy.proofs.search.Search.reaches.Goals as goal
use Rattle.std.proofs.Common.{get_or}

pub returns-then-not-get : goal.returns-then-not-get
returns-then-not-get c =
    let mark : get_or c.args.entered.now c.args.q false ≡ false = sym c.get.ensures ∙ c.if-not-get.true in
    (λ e. absurd cc, λ chain. absurd (by mark (chain_enters c.args.edges.now c.args.entered.now c.requires.entered chain.0 c.args.p c.args.q chain.1)))
  where
    by : get_or c.args.entered.now c.args.q false ≡ false → (c.args.p ≡ c.args.q) ⊎ (get_or c.args.entered.now c.args.q false ≡ true) → ⊥
    by mark (inl same) = c.if-p-q.true same
    by mark (inr there) = cc
