-- What two shapes of a journal have in common, and how much is staged and placed.
use Rattle.std.proofs.Common.{◌≡◌, ◌+◌, ◌/◌, ◌==◌, cond, true, false, ap}
use Rattle.lis_journal.specs.Record.{homes_start}
use Rattle.lis_journal.specs.Journal.{Shape}
use Rattle.lis_model.specs.declared.limits.Limits.{Limits}
use Rattle.lis_kept.specs.Image.{most_staged, most_placed}

-- 575 and 257 before version 3
pub early_staged : (limits : Limits) → (limits.version == 3) ≡ false → most_staged limits ≡ 575
unfolding most_staged
early_staged limits early = ap (λ third. cond third (limits.files / 8 + 893) 575) early

pub early_placed : (limits : Limits) → (limits.version == 3) ≡ false → most_placed limits ≡ 257
unfolding most_placed
early_placed limits early = ap (λ third. cond third 16400 257) early

pub third_staged : (limits : Limits) → (limits.version == 3) ≡ true → most_staged limits ≡ limits.files / 8 + 893
unfolding most_staged
third_staged limits third = ap (λ third. cond third (limits.files / 8 + 893) 575) third

pub third_placed : (limits : Limits) → (limits.version == 3) ≡ true → most_placed limits ≡ 16400
unfolding most_placed
third_placed limits third = ap (λ third. cond third 16400 257) third

module _ {a b : Shape} (same : a ≡ b) where
  pub same_layout : a.layout ≡ b.layout
  same_layout = ap (λ (s : Shape). s.layout) same

  pub same_homes : homes_start a.layout ≡ homes_start b.layout
  same_homes = ap (λ (s : Shape). homes_start s.layout) same

  pub same_blocks : a.layout.blocks ≡ b.layout.blocks
  same_blocks = ap (λ (s : Shape). s.layout.blocks) same

  pub same_staged : a.capacity.staged ≡ b.capacity.staged
  same_staged = ap (λ (s : Shape). s.capacity.staged) same

  pub same_placed : a.capacity.placed ≡ b.capacity.placed
  same_placed = ap (λ (s : Shape). s.capacity.placed) same
