use Rattle.std.proofs.Common.{List, ℕ, Option, if◌then◌else◌, [], ◌++◌, sym, ap, ◌∙◌, option_to_list, slice_get}
use Rattle.std.specs.List.{flat_map}
use Rattle.std.proofs.lemmas.List.{append-nil}
use Rattle.lis_model.specs.State.{State}
use Rattle.lis_kept.specs.Metadata.{Metadata}
use Rattle.lis_replay.specs.Dump.{mkdir_line}
use Rattle.lis_dump.specs.Showing.{declaring_line}
use Rattle.lis_dump.proofs.Paging.{paged_none, paged_same}
use Rattle.lis_dump.proofs.words.show_word.Goals as goal

abbrev line_of : Metadata → Option (List ℕ × ℕ) → List ℕ
line_of k found = flat_map (declaring_line k) (option_to_list found)

pub returns-in_default : goal.returns-in_default
returns-in_default g c =
    let k = c.args.store.now.metadata in
    paged_same (λ (state : State). line_of k (slice_get k.dict.entries c.args.k)) (λ state fitting. ap (line_of k) (sym c.in_default.is ∙ c.word_at.ensures))
    (paged_none (g.T.Disk.meaning c.args.station.now) c.args.page.now.items)

pub returns-then-not-is_declared : goal.returns-then-not-is_declared
returns-then-not-is_declared g c =
    let k = c.args.store.now.metadata in
    let there = ap (line_of k) (sym c.in-Some.is ∙ c.word_at.ensures) in
    let none = ap (λ b. (if b then mkdir_line c.in-Some.word else []) ++ []) (sym c.if-not-is_declared.true ∙ c.is_declared.ensures.value) in
    paged_same (λ (state : State). line_of k (slice_get k.dict.entries c.args.k)) (λ state fitting. none ∙ there) (paged_none (g.T.Disk.meaning c.args.station.now) c.args.page.now.items)

pub returns : goal.returns
returns g c =
    let k = c.args.store.now.metadata in
    let there = ap (line_of k) (sym c.in-Some.is ∙ c.word_at.ensures) in
    let some = ap (λ b. (if b then mkdir_line c.in-Some.word else []) ++ []) (sym c.if-not-is_declared.false ∙ c.is_declared.ensures.value) in
    paged_same (λ (state : State). line_of k (slice_get k.dict.entries c.args.k))
    (λ state fitting. c.mkdir_line.ensures ∙ (sym (append-nil (mkdir_line c.in-Some.word)) ∙ (some ∙ there))) (c.push_line.ensures c.args.store.now)
